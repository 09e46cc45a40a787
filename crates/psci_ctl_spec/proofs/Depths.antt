-- Where the depth of a domain comes from.
use Rattle.std.specs.List.{list_all, prefix_len, range_with_len}
use Rattle.std.specs.Prelude.{nat_le, slice_get}
use Rattle.std.proofs.Common.{[], ◌+◌, ◌-◌, ◌<◌, ◌∙◌, ◌∷◌, ◌≡◌, ◌≤◌, ◌⊎◌, add-zero, ap, arith, Bool}
use Rattle.std.proofs.Common.{cond, false, inl, inr, length, List, None, Option, option_map, refl}
use Rattle.std.proofs.Common.{Some, subst, suc, sym, take, true, unwrap_or, zero, ℕ}
use Rattle.std.proofs.lemmas.Bool.{and_parts, cases_Bool, eqb-true, leb-true, ltb-true, true≢false}
use Rattle.std.proofs.lemmas.Bool.Decides.{nat_tests}
use Rattle.std.proofs.lemmas.List.Folds.{list_all_at}
use Rattle.std.proofs.lemmas.List.FromFn.{get_or-range_with_len, length-range_with_len}
use Rattle.std.proofs.lemmas.List.Sums.{prefix_len_passes}
use Rattle.std.proofs.lemmas.Option.{get_or_from_slice_get, none-some, slice_get_within}
use Rattle.psci_board.specs.Board.{BoardValue, ChildLaws, children_at, cores, domain_of}
use Rattle.psci_board.specs.Board.{first_child, height, is_on_path, IsBoard, up}
use Rattle.psci_board.specs.declared.draft.Node.{Node}
use Rattle.psci_messages.specs.Message.{ArePartsOf, MessageValue, only_if, PartByPart}
use Rattle.psci_messages.specs.declared.kind.Kind.{Kind}
use Rattle.psci_messages.specs.declared.part.Part.{Part}
use Rattle.psci_messages.specs.declared.start.Cause.{Cause}
use Rattle.psci_ctl_spec.specs.Replies.{ack_by, after, Begins, change, Deepens, delivery_of, Effect}
use Rattle.psci_ctl_spec.specs.Replies.{effect_of, Ends, is_this_life, kick_effect, kick_if}
use Rattle.psci_ctl_spec.specs.Replies.{may_follow, may_start, message_effect, Nothing, reply}
use Rattle.psci_ctl_spec.specs.Replies.{reset_of, Starts, wake_of}
use Rattle.psci_ctl_spec.specs.Values.{applied, CtlExchange, depth_or, first_starts, is_applied}
use Rattle.psci_ctl_spec.specs.Values.{is_covered, is_live, laid, start_of_life, starts_below}
use Rattle.psci_ctl_spec.specs.Values.{Values}
use Rattle.psci_ctl_spec.specs.History.{Applies, AreValues, depth, depth_by, effect_in, IsApplied}
use Rattle.psci_ctl_spec.specs.History.{IsCall, IsFirst, IsFront, IsLegal, IsSendable, keeps_life}
use Rattle.psci_ctl_spec.specs.History.{life, life_by, MayFollow, starts, starts_by, values_of}
use Rattle.psci_ctl_spec.specs.declared.call.CtlCall.{CtlCall}
use Rattle.psci_ctl_spec.proofs.Steps.{first_values, values_more}
use Rattle.psci_ctl_spec.proofs.Sums.{path_place, starts_more, starts_none}
use Rattle.psci_board.proofs.Paths.{child_laws, size_laws}
use Rattle.psci_messages.proofs.History.{part-by-part}
use Rattle.psci_messages.specs.declared.kind.Kind.TheVariants as kinds
use Rattle.psci_messages.specs.declared.start.Cause.TheVariants as causes
use Rattle.psci_ctl_spec.specs.declared.call.CtlCall.TheVariants as calls
use Rattle.psci_ctl_spec.specs.declared.delivery.Delivery.TheVariants as deliveries
use Rattle.psci_ctl_spec.specs.declared.reply.CtlReply.TheVariants as replies

-- Front -------------------------------------------------------------------------------------------
-- The parts of a Down that are applied: each is live, and each child of its domain is as deep.

-- Fronts of lists ----------------------------------------------------------------------------

pub take_get : (xs : List Part) (n k : ℕ) (p : Part) → slice_get (take n xs) k ≡ Some p
    → slice_get xs k ≡ Some p
take_get xs zero k p e = absurd (none-some p e)
take_get [] (suc n) k p e = absurd (none-some p e)
take_get (x ∷ xs) (suc n) zero p e = e
take_get (x ∷ xs) (suc n) (suc k) p e = take_get xs n k p e

pub take_lt : (xs : List Part) (n k : ℕ) (p : Part) → slice_get (take n xs) k ≡ Some p → k < n
take_lt xs zero k p e = absurd (none-some p e)
take_lt [] (suc n) k p e = absurd (none-some p e)
take_lt (x ∷ xs) (suc n) zero p e = omega arith
take_lt (x ∷ xs) (suc n) (suc k) p e = omega (arith, take_lt xs n k p e)

-- the items before the first n are those of a longer front
pub get_take : (xs : List Part) (n k : ℕ) → k < n → slice_get (take n xs) k ≡ slice_get xs k
get_take xs zero k h = absurd (omega arith)
get_take [] (suc n) k h = refl
get_take (x ∷ xs) (suc n) zero h = refl
get_take (x ∷ xs) (suc n) (suc k) h = get_take xs n k (omega arith)

-- Children -----------------------------------------------------------------------------------

all_range : (p : ℕ → Bool) (a n i : ℕ) → list_all p (range_with_len a n) ≡ true → a ≤ i → i < a + n
    → p i ≡ true
all_range p a n i e low high = elim (cases_Bool (p i)) [
  | inl h ↦ h
  | inr h ↦ absurd (true≢false (sym e ∙ list_all_at p (range_with_len a n) (i - a) 0
      (omega (arith, length-range_with_len a n))
      (ap p (get_or-range_with_len a n (i - a) 0 (omega arith) ∙ omega arith) ∙ h)))
]

-- a domain is covered: each core below it has a domain one level below that is as deep
pub covered_core : (b : BoardValue) (depth : ℕ → ℕ → ℕ) (k c x least : ℕ) → ChildLaws b
    → k < height b → x < cores b → up b (suc k) x ≡ up b (suc k) c
    → is_covered b depth (domain_of b c (suc k)) least ≡ true → least ≤ depth k (up b k x)
covered_core b depth k c x least laws low inside same e =
    let down : suc k - 1 ≡ k = omega arith in
    let first : first_child b (suc k) (up b (suc k) c) ≤ up b k x =
    subst (λ i. first_child b (suc k) i ≤ up b k x) same (laws.first x k inside low) in
    let last : up b k x < first_child b (suc k) (up b (suc k) c)
    + children_at b (suc k) (up b (suc k) c) =
    subst (λ i. up b k x < first_child b (suc k) i + children_at b (suc k) i) same
    (laws.last x k inside low) in
    let here : nat_le least (depth (suc k - 1) (up b k x)) ≡ true =
    all_range (λ i. nat_le least (depth (suc k - 1) i)) (first_child b (suc k) (up b (suc k) c))
    (children_at b (suc k) (up b (suc k) c)) (up b k x) e first last in
    leb-true _ _ (ap (λ l. nat_le least (depth l (up b k x))) (sym down) ∙ here)

-- The front ----------------------------------------------------------------------------------

-- below the part of a level, what is laid does not depend on the parts from there up
laid_front : (b : BoardValue) (c : ℕ) (ps : List Part) (depth : ℕ → ℕ → ℕ) (m n k i : ℕ) → k < m
    → k < n → laid b c (take m ps) depth k i ≡ laid b c (take n ps) depth k i
laid_front b c ps depth m n k i p q =
    ap (λ o. cond (is_on_path b c k i) (depth_or o (depth k i)) (depth k i))
    (get_take ps m k p ∙ sym (get_take ps n k q))

applied_at : (b : BoardValue) (v : Values) (c : ℕ) (ps : List Part) (k : ℕ) (p : Part)
    → slice_get (take (applied b v c ps) ps) k ≡ Some p → is_applied b v c ps p ≡ true
unfolding applied
applied_at b v c ps k p e =
    let n : ℕ = prefix_len (is_applied b v c ps) ps in
    let at : slice_get ps k ≡ Some p = take_get ps n k p e in
    ap (is_applied b v c ps) (sym (get_or_from_slice_get ps k p p at))
    ∙ prefix_len_passes (is_applied b v c ps) ps k p (take_lt ps n k p e)

take_length : (xs : List Part) (n : ℕ) → length (take n xs) ≤ length xs
take_length xs zero = omega arith
take_length [] (suc n) = omega arith
take_length (x ∷ xs) (suc n) = omega (arith, take_length xs n)

pub is_front : (b : BoardValue) (v : Values) (c : ℕ) (ps : List Part) → ChildLaws b → c < cores b
    → length ps ≤ height b + 1 → PartByPart ps
    → IsFront b v c (take (applied b v c ps) ps)
is_front b v c ps children inside few parts =
    let n : ℕ = applied b v c ps in
    record {
      core = inside;
      few = omega (arith, take_length ps n);
      level = λ k p e. parts.level k p (take_get ps n k p e);
      least = λ k p e. parts.least k p (take_get ps n k p e);
      deepest = λ k p e. parts.deepest k p (take_get ps n k p e);
      live = λ k p e.
          let level : p.level ≡ k = parts.level k p (take_get ps n k p e) in
          let live = (and_parts (is_live b v c p) _ (applied_at b v c ps k p e)).0 in
          eqb-true _ _ live
          ∙ ap (λ l. starts_below b v.starts (domain_of b c l)) level;
      covered = λ k x p e h s.
          let level : p.level ≡ suc k = parts.level (suc k) p (take_get ps n (suc k) p e) in
          let all = (and_parts (is_live b v c p) _ (applied_at b v c ps (suc k) p e)).1 in
          let here : is_covered b (laid b c (take (suc k) ps) v.depth) (domain_of b c (suc k))
          p.depth
          ≡ true =
          subst (λ l. is_covered b (laid b c (take l ps) v.depth) (domain_of b c l) p.depth ≡ true)
          level all in
          let high : suc k < length ps =
          slice_get_within ps (suc k) p (take_get ps n (suc k) p e) in
          let deep : p.depth ≤ laid b c (take (suc k) ps) v.depth k (up b k x) =
          covered_core b (laid b c (take (suc k) ps) v.depth) k c x p.depth children
          (omega arith) h s here in
          omega (
            arith,
            deep,
            laid_front b c ps v.depth (suc k) n k (up b k x) (omega arith)
                (omega (arith, take_lt ps n (suc k) p e)),
          );
    }

-- Follows -----------------------------------------------------------------------------------------
-- What the one reply brings about may follow the values, and leaves values as they are kept.

start_follows : (b : BoardValue) (v : Values) (m : MessageValue) → v.life ≡ Some m.life
    → m.core.number < cores b
    → MayFollow b v (message_effect b m (ack_by b v m kinds.Start) kinds.Start)
start_follows b v m life inside = grind (arith, nat_tests)

reset_follows : (b : BoardValue) (v : Values) (m : MessageValue) → v.life ≡ Some m.life
    → MayFollow b v (message_effect b m (ack_by b v m kinds.Reset) kinds.Reset)
reset_follows b v m life = grind (arith, nat_tests)

-- a message of this life
carried_out : (b : BoardValue) (v : Values) (m : MessageValue) (k : Kind) → IsBoard b
    → v.life ≡ Some m.life → m.core.number < cores b → length m.parts ≤ height b + 1
    → ArePartsOf k m.parts
    → MayFollow b v (message_effect b m (ack_by b v m k) k)
carried_out b v m kinds.Down board life inside few parts = (
  is_front b v m.core.number m.parts (child_laws b board) inside few
      (part-by-part m.parts parts),
  (m.life, life),
)
carried_out b v m kinds.Start board life inside few parts =
    start_follows b v m life inside
carried_out b v m kinds.Off board life inside few parts = (m.life, life)
carried_out b v m kinds.Reset board life inside few parts = reset_follows b v m life

present : (o : Option ℕ) (l : ℕ) → is_this_life o l ≡ true → o ≡ Some l
present o l e = grind (arith, nat_tests)

delivered : (b : BoardValue) (v : Values) (m : MessageValue) (t : Bool)
    → is_this_life v.life m.life ≡ t → IsBoard b → IsSendable b m
    → MayFollow b v (effect_of b (calls.Deliver m) (replies.Delivery (cond t
    (deliveries.Applied (ack_by b v m m.kind)) deliveries.Ignored)))
unfolding effect_of
delivered b v m true e board sendable =
    carried_out b v m m.kind board (present v.life m.life e) sendable.board.core
    sendable.board.levels sendable.message.parts
delivered b v m false e board sendable = tt

kicked : (b : BoardValue) (v : Values) (c : ℕ) (cause : Cause) (t : Bool)
    → (t ≡ true → v.starts c < b.starts) → c < cores b
    → MayFollow b v (kick_effect c cause (kick_if t v.life v c cause))
kicked b v c cause t more inside = grind arith

pub follows : (b : BoardValue) (v : Values) (call : CtlCall) → IsBoard b → IsCall b call
    → MayFollow b v (effect_of b call (reply b v call))
unfolding effect_of reply delivery_of wake_of reset_of
follows b v (calls.Deliver m) board is =
    delivered b v m (is_this_life v.life m.life) refl board is
follows b v (calls.Wake core halted) board is =
    kicked b v core.number causes.Wake (may_follow b v core.number halted)
    (λ e. grind (arith, nat_tests)) is
follows b v (calls.Reset core) board is =
    kicked b v core.number causes.Reset (may_start b v core.number) (λ e. ltb-true _ _ e) is

-- Depths ------------------------------------------------------------------------------------------

abbrev node : ℕ → ℕ → Node
node l p = record { level = l; place = p }

-- below a domain off the boot path no core has started as a life begins
first_sum : (b : BoardValue) (l p : ℕ) → 0 < cores b → l ≤ height b → is_on_path b 0 l p ≡ false
    → starts_below b first_starts (node l p) ≡ 0
first_sum b l p some low off =
    starts_more b (λ k. 0) 0 l p some low
    ∙ ap (λ t. starts_below b (λ k. 0) (node l p) + cond t 1 0) off
    ∙ omega (arith, starts_none b (node l p))

-- where the depth of a domain comes from, after a history
abbrev From : BoardValue → List CtlExchange → ℕ → ℕ → Type 0
From b h l p = (depth b h l p ≡ 0) ⊎ (IsApplied b h l p ⊎ IsFirst b h l p)

-- an exchange that leaves depth and generation of a domain, in its life
stays : (b : BoardValue) (e : CtlExchange) (h : List CtlExchange) (l p : ℕ)
    → keeps_life (effect_in b e) ≡ true
    → depth b (e ∷ h) l p ≡ depth b h l p
    → starts_below b (starts b (e ∷ h)) (node l p) ≡ starts_below b (starts b h) (node l p)
    → From b h l p → From b (e ∷ h) l p
stays b e h l p within same sum (inl z) = inl (same ∙ z)
stays b e h l p within same sum (inr (inl is)) = inr (inl (record {
  part = is.part;
  was = inr (within, is.was);
  depth = same ∙ is.depth;
  live = is.live ∙ sym sum;
}))
stays b e h l p within same sum (inr (inr is)) = inr (inr (record {
  depth = same ∙ is.depth;
  still = sum ∙ is.still;
}))

-- what the definitions say of one more exchange, by its effect
module _ (b : BoardValue) (e : CtlExchange) (h : List CtlExchange) where
  deep_by : (f : Effect) (l p : ℕ) → effect_in b e ≡ f
      → depth b (e ∷ h) l p ≡ unwrap_or (depth_by b l p f) (depth b h l p)
  deep_by f l p is = ap (λ g. unwrap_or (depth_by b l p g) (depth b h l p)) is

  sum_by_effect : (f : Effect) (n : Node) → effect_in b e ≡ f
      → starts_below b (starts b (e ∷ h)) n
      ≡ starts_below b (λ k. starts_by k f (starts b h k)) n
  sum_by_effect f n is = ap (λ g. starts_below b (λ k. starts_by k g (starts b h k)) n) is

  life_is : (f : Effect) → effect_in b e ≡ f → life b (e ∷ h) ≡ life_by f (life b h)
  life_is f is = ap (λ g. life_by g (life b h)) is

  within_is : (f : Effect) → effect_in b e ≡ f → keeps_life (effect_in b e) ≡ keeps_life f
  within_is f is = ap keeps_life is

  from_nothing : (l p : ℕ) → effect_in b e ≡ Nothing → From b h l p → From b (e ∷ h) l p
  from_nothing l p is = stays b e h l p (within_is Nothing is) (deep_by Nothing l p is)
      (sum_by_effect Nothing (node l p) is)

  from_start : (c : ℕ) (cause : Cause) (l p : ℕ) (t : Bool) → effect_in b e ≡ Starts c cause
      → is_on_path b c l p ≡ t → c < cores b → l ≤ height b → From b h l p → From b (e ∷ h) l p
  from_start c cause l p true is on inside low from =
      inl (deep_by (Starts c cause) l p is
      ∙ ap (λ t. unwrap_or (only_if t (Some 0)) (depth b h l p)) on)
  from_start c cause l p false is on inside low from =
      stays b e h l p (within_is (Starts c cause) is)
      (deep_by (Starts c cause) l p is
      ∙ ap (λ t. unwrap_or (only_if t (Some 0)) (depth b h l p)) on)
      (sum_by_effect (Starts c cause) (node l p) is
      ∙ starts_more b (starts b h) c l p inside low
      ∙ ap (λ t. starts_below b (starts b h) (node l p) + cond t 1 0) on
      ∙ add-zero (starts_below b (starts b h) (node l p)))
      from

  deep_part : (c : ℕ) (ps : List Part) (l p : ℕ) (t : Bool) (o : Option Part)
      → effect_in b e ≡ Deepens c ps → is_on_path b c l p ≡ t → slice_get ps l ≡ o
      → depth b (e ∷ h) l p
      ≡ unwrap_or (only_if t (option_map (λ q. q.depth) o)) (depth b h l p)
  deep_part c ps l p t o is on at =
      deep_by (Deepens c ps) l p is
      ∙ ap (λ s. unwrap_or (only_if s (option_map (λ q. q.depth) (slice_get ps l)))
      (depth b h l p)) on
      ∙ ap (λ s. unwrap_or (only_if t (option_map (λ q. q.depth) s)) (depth b h l p)) at

  from_part : (c : ℕ) (ps : List Part) (l p : ℕ) (t : Bool) (o : Option Part)
      → effect_in b e ≡ Deepens c ps → is_on_path b c l p ≡ t → slice_get ps l ≡ o
      → IsFront b (values_of b h) c ps → From b h l p → From b (e ∷ h) l p
  unfolding values_of
  from_part c ps l p true (Some q) is on at front from = inr (inl (record {
    part = q;
    was = inl (subst (λ f. Applies b f l p q) (sym is) (on, at));
    depth = deep_part c ps l p true (Some q) is on at;
    live =
        front.live l q at
        ∙ ap (λ i. starts_below b (starts b h) (node l i)) (path_place b c l p on)
        ∙ sym (sum_by_effect (Deepens c ps) (node l p) is);
  }))
  from_part c ps l p t o is on at front from =
      stays b e h l p (within_is (Deepens c ps) is) (deep_part c ps l p t o is on at)
      (sum_by_effect (Deepens c ps) (node l p) is) from

  from_begin : (l p : ℕ) (t : Bool) → effect_in b e ≡ Begins → is_on_path b 0 l p ≡ t
      → 0 < cores b → l ≤ height b → From b (e ∷ h) l p
  from_begin l p true is on some low =
      inl (deep_by Begins l p is ∙ ap (λ t. cond t 0 3) on)
  from_begin l p false is on some low = inr (inr (record {
    depth = deep_by Begins l p is;
    still = sum_by_effect Begins (node l p) is ∙ first_sum b l p some low on;
  }))

  from_more : (f : Effect) (l p in_life : ℕ) → effect_in b e ≡ f
      → MayFollow b (values_of b h) f → 0 < cores b → l ≤ height b
      → life b (e ∷ h) ≡ Some in_life
      → ((m : ℕ) → life b h ≡ Some m → From b h l p)
      → From b (e ∷ h) l p
  from_more Nothing l p m is may some low here before =
      from_nothing l p is (before m (sym (life_is Nothing is) ∙ here))
  from_more (Starts c cause) l p m is may some low here before =
      from_start c cause l p (is_on_path b c l p) is refl may.0 low
      (before m (sym (life_is (Starts c cause) is) ∙ here))
  from_more (Deepens c ps) l p m is may some low here before =
      from_part c ps l p (is_on_path b c l p) (slice_get ps l) is refl refl may.0
      (before m (sym (life_is (Deepens c ps) is) ∙ here))
  from_more Ends l p m is may some low here before =
      absurd (none-some m (sym (life_is Ends is) ∙ here))
  from_more Begins l p m is may some low here before =
      from_begin l p (is_on_path b 0 l p) is refl some low

from_first : (b : BoardValue) (l p : ℕ) (t : Bool) → is_on_path b 0 l p ≡ t → 0 < cores b
    → l ≤ height b → From b [] l p
from_first b l p true on some low = inl (ap (λ t. cond t 0 3) on)
from_first b l p false on some low =
    inr (inr (record { depth = refl; still = first_sum b l p some low on }))

from_all : (b : BoardValue) (h : List CtlExchange) (l p in_life : ℕ) → IsBoard b
    → IsLegal b h → l ≤ height b
    → life b h ≡ Some in_life → From b h l p
from_all b [] l p m board legal low here =
    from_first b l p (is_on_path b 0 l p) refl ((size_laws b board).some 0) low
from_all b (e ∷ h) l p m board legal low here =
    from_more b e h (effect_in b e) l p m refl
    (subst (λ r. MayFollow b (values_of b h) (effect_of b e.call r)) (sym legal.0)
    (follows b (values_of b h) e.call board legal.1))
    ((size_laws b board).some 0) low here
    (λ n q. from_all b h l p n board legal.2 low q)

pub deep_from : (b : BoardValue) (h : List CtlExchange) (l p in_life : ℕ) → IsBoard b
    → IsLegal b h → l ≤ height b
    → life b h ≡ Some in_life → 0 < depth b h l p → IsApplied b h l p ⊎ IsFirst b h l p
deep_from b h l p m board legal low here deep =
    elim (from_all b h l p m board legal low here) [
      | inl z ↦ absurd (omega (arith, z, deep))
      | inr from ↦ from
    ]

-- What the effect of the one reply leaves are values as they are kept -----------------------------

pub first_kept : (b : BoardValue) → IsBoard b → AreValues b (start_of_life b)
first_kept b board = record {
  starts = λ c. grind (arith, board.some_starts);
  none = λ e. absurd (cc);
  boot = λ l e. omega arith;
  first = λ l e. grind arith;
  last = λ l e. grind (arith, board.some_lives);
  deepest = λ l p. grind arith;
}

-- what an effect leaves that may follow
module _ (b : BoardValue) (v : Values) (e : Effect) where
  starts_kept : 0 < b.starts → AreValues b v → MayFollow b v e → (k : ℕ)
      → (change b e v).starts k ≤ b.starts
  starts_kept some are may k = grind (arith, nat_tests, are.starts k)

  none_kept : AreValues b v → MayFollow b v e → (change b e v).life ≡ None → (k : ℕ)
      → (change b e v).starts k ≡ 0
  none_kept are may none k = grind (arith, are.none)

  boot_kept : AreValues b v → MayFollow b v e → (l : ℕ) → (change b e v).life ≡ Some l
      → 0 < (change b e v).starts 0
  boot_kept are may l at = grind (arith, are.boot)

  first_life_kept : AreValues b v → MayFollow b v e → (l : ℕ) → (change b e v).life ≡ Some l
      → 0 < l
  first_life_kept are may l at = grind (arith, are.first)

  last_kept : AreValues b v → MayFollow b v e → (l : ℕ) → (change b e v).life ≡ Some l
      → l ≤ b.lives
  last_kept are may l at = grind (arith, are.last)

  deepest_kept : AreValues b v → MayFollow b v e → (l p : ℕ) → (change b e v).depth l p ≤ 3
  deepest_kept are may l p = grind (arith, are.deepest l p)

pub change_kept : (b : BoardValue) (v : Values) (e : Effect) → IsBoard b → AreValues b v
    → MayFollow b v e → AreValues b (change b e v)
change_kept b v e board are may = record {
  starts = λ k. starts_kept b v e board.some_starts are may k;
  none = λ none k. none_kept b v e are may none k;
  boot = λ l at. boot_kept b v e are may l at;
  first = λ l at. first_life_kept b v e are may l at;
  last = λ l at. last_kept b v e are may l at;
  deepest = λ l p. deepest_kept b v e are may l p;
}

pub reply_kept : (b : BoardValue) (v : Values) (call : CtlCall) → IsBoard b → AreValues b v
    → IsCall b call → AreValues b (after b call (reply b v call) v)
unfolding after
reply_kept b v call board are is =
    change_kept b v (effect_of b call (reply b v call)) board are
    (follows b v call board is)

pub legal_kept : (b : BoardValue) (h : List CtlExchange) → IsBoard b → IsLegal b h
    → AreValues b (values_of b h)
legal_kept b [] board legal =
    subst (AreValues b) (sym (first_values b)) (first_kept b board)
legal_kept b (e ∷ h) board legal =
    subst (AreValues b) (sym (values_more b e h
    ∙ ap (λ r. after b e.call r (values_of b h)) legal.0))
    (reply_kept b (values_of b h) e.call board
    (legal_kept b h board legal.2) legal.1)
