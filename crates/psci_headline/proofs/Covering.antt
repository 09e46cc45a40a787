-- How many parts of a Down are applied: at least those that are live and covered.
use Rattle.std.specs.List.{prefix_len}
use Rattle.psci_board.specs.Board.{children, first_child}
use Rattle.psci_ctl_spec.specs.Replies.{after, change, delivery_of, effect_of, is_this_life}
use Rattle.psci_ctl_spec.specs.Replies.{reply}
use Rattle.psci_ctl_spec.specs.History.{values_of}
use Rattle.psci_ctl_spec.specs.Values.{applied, is_covered, Values}
use Rattle.psci_ctl_spec.specs.declared.delivery.Delivery.TheVariants as deliveries
use Rattle.psci_ctl_spec.specs.declared.kick.Kick.{Kick}
use Rattle.psci_ctl_spec.specs.declared.reply.CtlReply.TheVariants as replied
use Rattle.psci_world_spec.specs.Legal.{said_of}
use Rattle.psci_headline.proofs.Controls.{path_place}
use Rattle.psci_headline.proofs.Happening.{of_event}
use Rattle.psci_headline.proofs.Tested.{all_in}
use Rattle.psci_headline.proofs.Sending.{more_controls}
use Rattle.psci_headline.proofs.Telling.{item_at}
use Rattle.psci_headline.proofs.Words.{◌+◌, ◌-◌, ◌<◌, ◌==◌, ◌∙◌, ◌∷◌, ◌≡◌, ◌≤◌, ◌⊎◌, [], ack_by}
use Rattle.psci_headline.proofs.Words.{ack_in, Acked, acks, AckValue, and_from, ap, arith}
use Rattle.psci_headline.proofs.Words.{BoardValue, Bool, cases_Bool, cases_eq, ChildLaws, cond}
use Rattle.psci_headline.proofs.Words.{cond-false, cond-true, control, controller_values, cores}
use Rattle.psci_headline.proofs.Words.{CtlExchange, Deliver, domain_of, eq-eqb, eqb-true, Event}
use Rattle.psci_headline.proofs.Words.{first_depth, first_starts, FwReply, get_take, height}
use Rattle.psci_headline.proofs.Words.{indexed, is_applied, laid, le-leb, legal, length, List}
use Rattle.psci_headline.proofs.Words.{message_effect, MessageValue, nat_le, nat_tests, Node}
use Rattle.psci_headline.proofs.Words.{nodes, Option, Part, PathLaws, Record, refl, Said}
use Rattle.psci_headline.proofs.Words.{said_by, sent, slice_get, Some, starts_below, subst, suc}
use Rattle.psci_headline.proofs.Words.{sym, take, true, up, values_more, zero, ℕ}

-- Deliveries --------------------------------------------------------------------------------------
-- What a legal record leaves of the power controller's values, and the acknowledgement it says.

-- What a record adds ---------------------------------------------------------------------------

-- at most one exchange
abbrev pub IsFew : List CtlExchange → Type 0
IsFew [] = Unit {0}
IsFew (e ∷ []) = Unit {0}
IsFew (e ∷ f ∷ es) = ⊥

pub few : (v : Values) (messages : List MessageValue) (event : Event) (said : Said)
    → IsFew (control v messages event said)
few v messages event said = grind (arith, nat_tests)

pub values_by : (b : BoardValue) (e : CtlExchange) (h : List CtlExchange)
    → values_of b (e ∷ h) ≡ change b (effect_of b e.call e.reply) (values_of b h)
unfolding after
values_by b e h = values_more b e h

-- Lives ----------------------------------------------------------------------------------------

-- Depths and starts as a life begins.
pub record IsFirst (b : BoardValue) (v : Values) : Type 0 where
  pub depth : v.depth ≡ first_depth b
  pub starts : v.starts ≡ first_starts

-- after a record the life is the one before, or it begins
pub life_before : (b : BoardValue) (r : Record) (past : List Record) (life : ℕ)
    → (controller_values b (r ∷ past)).life ≡ Some life
    → ((controller_values b past).life ≡ Some life)
    ⊎ IsFirst b (controller_values b (r ∷ past))
life_before b r past life = grind (arith, nat_tests, more_controls, values_by, few)

-- Acknowledgements -----------------------------------------------------------------------------

-- A message of some number was delivered in its life, and acknowledged so.
pub record IsDelivered (b : BoardValue) (past : List Record) (happened : Event) (says : Said)
    (a : AckValue) : Type 0 where
  pub number : ℕ
  pub event : happened ≡ Deliver number
  pub message : MessageValue
  pub at : indexed (sent past) number ≡ Some message
  pub life : (controller_values b past).life ≡ Some message.life
  pub ack : a ≡ ack_by b (controller_values b past) message message.kind
  pub said : says ≡ Acked (length (acks past)) a

pub present_life : (life : Option ℕ) (l : ℕ) → is_this_life life l ≡ true → life ≡ Some l
present_life life l e = grind (arith, nat_tests, eqb-true)

-- the firmware says no acknowledgement
none_said : {X : Type 0} (n : ℕ) (r : FwReply) (a : AckValue) → ack_in (said_of n r) ≡ Some a → X
none_said n r a e = grind (arith, nat_tests)

none_kicked : {X : Type 0} (n : ℕ) (k : Kick) (a : AckValue)
    → ack_in (said_by n (replied.Kick k)) ≡ Some a → X
none_kicked n k a e = grind (arith, nat_tests)

applied_if : (b : BoardValue) (past : List Record) (k : ℕ) (m : MessageValue) (a : AckValue)
    (t : Bool) → indexed (sent past) k ≡ Some m
    → is_this_life (controller_values b past).life m.life ≡ t
    → let said = said_by (length (acks past)) (replied.Delivery (cond t
    (deliveries.Applied (ack_by b (controller_values b past) m m.kind)) deliveries.Ignored)) in
    ack_in said ≡ Some a → IsDelivered b past (Deliver k) said a
applied_if b past k m a t at present e = grind (arith, nat_tests, present_life)

pub delivered_by : (b : BoardValue) (past : List Record) (event : Event) (a : AckValue)
    → ack_in (legal b past event) ≡ Some a → IsDelivered b past event (legal b past event) a
unfolding reply delivery_of
delivered_by b past event a =
    of_event b past (λ x s. (a : AckValue) → ack_in s ≡ Some a → IsDelivered b past x s a) (record {
      absent = λ x a e. absurd (cc);
      ignored = λ x a e. absurd (cc);
      call = λ c regs on at a e. none_said _ _ a e;
      enter = λ c s on at last a e. none_said _ _ a e;
      wake = λ c on a e. none_kicked 0 _ a e;
      reset = λ c on a e. none_kicked 0 _ a e;
      deliver = λ k m at a. applied_if b past k m a _ at refl;
      take = λ k x at a e. none_said _ _ a e;
    }) event a

-- The acknowledgement of a record, and what it leaves of the power controller's values.
pub record IsNew (b : BoardValue) (r : Record) (past : List Record) (a : AckValue) : Type 0 where
  pub made : IsDelivered b past r.event r.said a
  pub values : let m = made.message in controller_values b (r ∷ past)
      ≡ change b (message_effect b m a m.kind) (controller_values b past)

new_values : (b : BoardValue) (r : Record) (past : List Record) (a : AckValue)
    (d : IsDelivered b past r.event r.said a) → let m = d.message in
    controller_values b (r ∷ past)
    ≡ change b (message_effect b m a m.kind) (controller_values b past)
unfolding effect_of
new_values b r past a d = grind (arith, nat_tests, more_controls, values_by)

pub new_ack : (b : BoardValue) (r : Record) (past : List Record) (a : AckValue)
    → r.said ≡ legal b past r.event → ack_in r.said ≡ Some a → IsNew b r past a
new_ack b r past a is new = grind (arith, nat_tests, delivered_by, new_values)

-- Covering ----------------------------------------------------------------------------------------

-- Lists ----------------------------------------------------------------------------------------

-- so many items at the front pass
pub prefix_at_least : (test : Part → Bool) (ps : List Part) (n : ℕ) → n ≤ length ps
    → ((k : ℕ) (p : Part) → k < n → slice_get ps k ≡ Some p → test p ≡ true)
    → n ≤ prefix_len test ps
prefix_at_least test ps zero few h = omega arith
prefix_at_least test [] (suc n) few h = absurd (omega (arith, few))
prefix_at_least test (p ∷ ps) (suc n) few h =
    let here = h 0 p (omega arith) refl in
    let rest = prefix_at_least test ps n (omega arith)
    (λ k q low at. h (suc k) q (omega arith) at) in
    let now : cond (test p) (1 + prefix_len test ps) 0 ≡ 1 + prefix_len test ps =
    cond-true (test p) (1 + prefix_len test ps) 0 here in
    omega (arith, now, rest)

-- Covered --------------------------------------------------------------------------------------

-- every child of a domain on a core's path that is not on the path is at least as deep
abbrev pub OthersDeep : BoardValue → (ℕ → ℕ → ℕ) → ℕ → ℕ → ℕ → Type 0
OthersDeep b depth c level least = (x : ℕ) → x < cores b
    → up b (suc level) x ≡ up b (suc level) c → (up b level x ≡ up b level c → ⊥)
    → least ≤ depth level (up b level x)

-- a core below this child
pub record HasCore (b : BoardValue) (c level place : ℕ) : Type 0 where
  pub core : ℕ
  pub on : core < cores b
  pub at : up b level core ≡ place
  pub joined : up b (suc level) core ≡ up b (suc level) c

child_core : (b : BoardValue) (c level i : ℕ) → PathLaws b → ChildLaws b → c < cores b
    → level < height b → first_child b (suc level) (up b (suc level) c) ≤ i
    → i < first_child b (suc level) (up b (suc level) c)
    + children b (domain_of b c (suc level))
    → HasCore b c level i
child_core b c level i paths kids on high low top =
    let k : ℕ = i - first_child b (suc level) (up b (suc level) c) in
    let flat : first_child b (suc level) (up b (suc level) c) + k ≡ i = omega (arith, low) in
    let inside = kids.inside level (up b (suc level) c) k high (omega (arith, low, top)) in
    let node : Node = record { level = level; place = i } in
    let has = paths.some_core node
    (record { level = omega arith; place = subst (λ j. j < nodes b level) flat inside }) in
    grind (arith, nat_tests)

-- the depth below, once the lower parts were applied
below_deep : (b : BoardValue) (v : Values) (c level : ℕ) (ps : List Part) (p q : Part)
    → level < height b → slice_get ps level ≡ Some q → p.depth ≤ q.depth
    → OthersDeep b v.depth c level p.depth → (x : ℕ) → x < cores b
    → up b (suc level) x ≡ up b (suc level) c
    → p.depth ≤ laid b c (take (suc level) ps) v.depth level (up b level x)
below_deep b v c level ps p q high at falls others x on joined =
    grind (
      arith,
      nat_tests,
      cases_eq,
      and_from,
      le-leb,
      eq-eqb,
      get_take,
      cond-true,
      cases_Bool,
      path_place,
      cond-false,
    )

-- a part is covered, whose domain's other children are deep
covered : (b : BoardValue) (v : Values) (c k : ℕ) (ps : List Part) (p : Part) → PathLaws b
    → ChildLaws b → c < cores b → k ≤ height b
    → ((level : ℕ) → k ≡ suc level → OthersDeep b v.depth c level p.depth)
    → ((level : ℕ) → k ≡ suc level
    → (q : Part) × (slice_get ps level ≡ Some q) × (p.depth ≤ q.depth))
    → is_covered b (laid b c (take k ps) v.depth) (domain_of b c k) p.depth ≡ true
covered b v c zero ps p paths kids on low others falls = refl
covered b v c (suc level) ps p paths kids on low others falls =
    let lower = falls level refl in
    all_in
    (λ place. nat_le p.depth (laid b c (take (suc level) ps) v.depth (suc level - 1) place))
    (first_child b (suc level) (up b (suc level) c)) (children b (domain_of b c (suc level)))
    (λ i first last.
    let has = child_core b c level i paths kids on (omega arith) first last in
    let down : suc level - 1 ≡ level = omega arith in
    let deep : p.depth ≤ laid b c (take (suc level) ps) v.depth level i =
    subst (λ j. p.depth ≤ laid b c (take (suc level) ps) v.depth level j) has.at
    (below_deep b v c level ps p lower.0 (omega arith) lower.1 lower.2 (others level refl) has.core
    has.on has.joined) in
    subst (λ l. nat_le p.depth (laid b c (take (suc level) ps) v.depth l i) ≡ true) (sym down)
    (le-leb _ _ deep))

-- What is so of the first parts of a Down.
pub record AreCovered (b : BoardValue) (v : Values) (c : ℕ) (ps : List Part) (n : ℕ) : Type 0 where
  pub core : c < cores b
  pub few : n ≤ length ps
  pub level : (k : ℕ) (p : Part) → slice_get ps k ≡ Some p → (p.level ≡ k) × (k ≤ height b)
  pub falls : (k : ℕ) (p q : Part) → slice_get ps k ≡ Some p → slice_get ps (suc k) ≡ Some q
      → q.depth ≤ p.depth
  pub live : (k : ℕ) (p : Part) → k < n → slice_get ps k ≡ Some p
      → p.generation ≡ starts_below b v.starts (domain_of b c k)
  pub others : (k : ℕ) (p : Part) → suc k < n → slice_get ps (suc k) ≡ Some p
      → OthersDeep b v.depth c k p.depth

-- so they are applied
pub applied_at_least : (b : BoardValue) (v : Values) (c : ℕ) (ps : List Part) (n : ℕ) → PathLaws b
    → ChildLaws b → AreCovered b v c ps n → n ≤ applied b v c ps
unfolding applied
applied_at_least b v c ps n paths kids are =
    prefix_at_least (is_applied b v c ps) ps n are.few (λ k p low at.
    let level = are.level k p at in
    let live : (p.generation == starts_below b v.starts (domain_of b c p.level)) ≡ true =
    grind (arith, nat_tests, eq-eqb) in
    let cover : is_covered b (laid b c (take k ps) v.depth) (domain_of b c k) p.depth ≡ true =
    covered b v c k ps p paths kids are.core level.1
    (λ l e. are.others l p (omega (arith, low, e)) (ap (slice_get ps) (sym e) ∙ at))
    (λ l e. lower k p low at l e) in
    and_from _ _ live
    (subst (λ l. is_covered b (laid b c (take l ps) v.depth) (domain_of b c l) p.depth ≡ true)
    (sym level.0) cover))
  where
    lower : (k : ℕ) (p : Part) → k < n → slice_get ps k ≡ Some p → (l : ℕ) → k ≡ suc l
        → (q : Part) × (slice_get ps l ≡ Some q) × (p.depth ≤ q.depth)
    lower k p low at l e =
        let item = item_at ps l (omega (arith, low, e, are.few)) in
        (item.item, item.at, are.falls l item.item p item.at (ap (slice_get ps) (sym e) ∙ at))
