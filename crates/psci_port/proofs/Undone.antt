-- What a delivery leaves to be done; and where none is due or to be served, both sides agree.
use Rattle.std.specs.Prelude.{nat_le, nat_lt, option_map}
use Rattle.std.proofs.lemmas.Option.{slice_get_within}
use Rattle.psci_ctl_spec.specs.psci_messages.Slots.{is_done, is_kind, OfSystem, Slot}
use Rattle.psci_ctl_spec.specs.psci_messages.declared.kind.Kind.TheVariants as kinds
use Rattle.psci_ctl_spec.specs.psci_messages.declared.kind.Kind.TheVariants.{Start}
use Rattle.psci_ctl_spec.specs.psci_messages.declared.start.Cause.TheVariants as causes
use Rattle.psci_ctl_spec.specs.Replies.{after, delivery_of, effect_of, may_follow, reply}
use Rattle.psci_ctl_spec.specs.declared.call.CtlCall.TheVariants as asked
use Rattle.psci_ctl_spec.specs.declared.delivery.Delivery.TheVariants as deliveries
use Rattle.psci_ctl_spec.specs.declared.reply.CtlReply.TheVariants as replies
use Rattle.psci_ctl_spec.specs.Values as controlled
use Rattle.psci_ctl_spec.specs.Values.{applied}
use Rattle.psci_world_spec.specs.Legal.{place, sent}
use Rattle.psci_world_spec.specs.psci_fw_spec.Phases as phases
use Rattle.psci_world_spec.specs.psci_fw_spec.Phases.{Phase}
use Rattle.psci_world_spec.specs.psci_fw_spec.Values.{Values}
use Rattle.psci_headline.specs.psci_fw_laws.Messages.{AreOutstanding}
use Rattle.psci_headline.specs.Settling.{AreAtRest, is_halting, serving}
use Rattle.psci_headline.proofs.Controls.{found_own}
use Rattle.psci_headline.proofs.Serving.{empties, finds, HasNumber, IsEmptying, none_added}
use Rattle.psci_headline.proofs.Checking.{core_slot, system_slot}
use Rattle.psci_headline.proofs.Downs.{down_answered, IsDownAnswered, same_down}
use Rattle.psci_headline.proofs.Starts.{IsGoing, IsOut, out_now}
use Rattle.psci_headline.proofs.Rounds.{deep_or_out, DeepAt, out_at}
use Rattle.psci_headline.proofs.Settled as settling
use Rattle.psci_headline.proofs.Nexts.{AreSettled, settled_life}
use Rattle.psci_headline.proofs.Confirmed.{going_life, LifeGoesOn}
use Rattle.psci_port.specs.Served.{ends, IsSpent, IsToServe}
use Rattle.psci_port.specs.Undone.{IsListed, LeavesLess, left_of, served, undone}
use Rattle.psci_port.proofs.Words.{◌+◌, ◌<◌, ◌||◌, ◌∙◌, ◌∷◌, ◌≤◌, ◌≡◌, [], ack_by, ack_of, ap}
use Rattle.psci_port.proofs.Words.{AreApplied, arith, at_number, Begins, BoardValue, Bool, cases_eq}
use Rattle.psci_port.proofs.Words.{change, cond, controller_values, cores, Ends, eq-eqb, eqb-true}
use Rattle.psci_port.proofs.Words.{false, false≢true, firmware_values, height, in_life, indexed}
use Rattle.psci_port.proofs.Words.{inl, inr, is_this_life, IsAtRest, IsFront, IsKnown, IsPast}
use Rattle.psci_port.proofs.Words.{IsSendable, IsSound, Kind, length, List, MayFollow}
use Rattle.psci_port.proofs.Words.{message_effect, MessageValue, nat_tests, None, none-some, not}
use Rattle.psci_port.proofs.Words.{numbered_new, numbered_old, OfCore, Option, Part, Port, Record}
use Rattle.psci_port.proofs.Words.{refl, same_sum, SettleLaws, slice_get, slot_of, Some, Started}
use Rattle.psci_port.proofs.Words.{subst, suc, sym, take, take_get, true, up, zero, ℕ}
use Rattle.psci_port.proofs.Undoing.{deepened, differs, fewer, heard, started, undone_le}
use Rattle.psci_port.proofs.Truth.{IsMirror}

-- A delivery -------------------------------------------------------------------------------------

-- it is of this life, and has this reply
pub replied : (b : BoardValue) (w : controlled.Values) (m : MessageValue) (t : Bool)
    → is_this_life w.life m.life ≡ t → reply b w (asked.Deliver m)
    ≡ replies.Delivery (cond t (deliveries.Applied (ack_by b w m m.kind)) deliveries.Ignored)
unfolding reply delivery_of
replied b w m t e = ap (λ t. replies.Delivery (cond t
    (deliveries.Applied (ack_by b w m m.kind)) deliveries.Ignored)) e

-- and leaves this
pub served_this : (b : BoardValue) (w : controlled.Values) (m : MessageValue)
    → is_this_life w.life m.life ≡ true
    → served b w m ≡ change b (message_effect b m (ack_by b w m m.kind) m.kind) w
unfolding after effect_of
served_this b w m e = ap (λ r. after b (asked.Deliver m) r w) (replied b w m true e)

pub served_other : (b : BoardValue) (w : controlled.Values) (m : MessageValue)
    → is_this_life w.life m.life ≡ false → served b w m ≡ w
unfolding after effect_of
served_other b w m e = ap (λ r. after b (asked.Deliver m) r w) (replied b w m false e)

pub effect_this : (b : BoardValue) (w : controlled.Values) (m : MessageValue)
    → is_this_life w.life m.life ≡ true
    → effect_of b (asked.Deliver m) (reply b w (asked.Deliver m))
    ≡ message_effect b m (ack_by b w m m.kind) m.kind
unfolding effect_of
effect_this b w m e = ap (effect_of b (asked.Deliver m)) (replied b w m true e)

pub ends_this : (b : BoardValue) (w : controlled.Values) (m : MessageValue)
    → is_this_life w.life m.life ≡ true
    → ends m (reply b w (asked.Deliver m)) ≡ is_done (ack_by b w m m.kind) m
ends_this b w m e = ap (ends m) (replied b w m true e)

pub ends_other : (b : BoardValue) (w : controlled.Values) (m : MessageValue)
    → is_this_life w.life m.life ≡ false → ends m (reply b w (asked.Deliver m)) ≡ false
ends_other b w m e = ap (ends m) (replied b w m false e)

pub present_of : (o : Option ℕ) (life : ℕ) → is_this_life o life ≡ true → o ≡ Some life
present_of None life e = absurd (false≢true e)
present_of (Some l) life e = ap (λ n. Some n) (eqb-true l life e)

-- what is applied of a Down of this life
applies : (b : BoardValue) (life : ℕ) (w : controlled.Values) (v : Values)
    (sent : List MessageValue) → IsKnown b life w.starts v sent → (k : ℕ) (m : MessageValue)
    → slice_get sent k ≡ Some m → m.life ≡ life → m.kind ≡ kinds.Down → (n : ℕ)
    → IsFront b w m.core.number (take n m.parts)
    → AreApplied b life w.starts sent m.core.number (take n m.parts)
applies b life w v sent known k m at present kind n front =
    grind (arith, nat_tests, take_get, same_sum)

module _ (b : BoardValue) (life : ℕ) (w : controlled.Values) (v : Values)
    (sent : List MessageValue) (known : IsKnown b life w.starts v sent) (k : ℕ) (m : MessageValue)
    (at : slice_get sent k ≡ Some m) (present : m.life ≡ life)
    (may : MayFollow b w (message_effect b m (ack_by b w m m.kind) m.kind)) where
  -- another message of this life
  others_by : (kind : Kind) → m.kind ≡ kind → MayFollow b w (message_effect b m
      (ack_by b w m kind) kind)
      → (j : ℕ) (x : MessageValue) → slice_get sent j ≡ Some x → x.life ≡ life
      → (change b (message_effect b m (ack_by b w m kind) kind) w).life ≡ w.life → w.life
      ≡ Some life
      → undone b (change b (message_effect b m (ack_by b w m kind) kind) w) x.core.number x.parts
      ≤ undone b w x.core.number x.parts
  others_by kinds.Down kind may j x here same stays is =
      undone_le b w _ x.core.number x.parts (deepened b life w v sent known j x here same
      m.core.number (take (applied b w m.core.number m.parts) m.parts)
      (applies b life w v sent known k m at present kind (applied b w m.core.number m.parts) may.0))
  others_by kinds.Start kind may j x here same stays is =
      by (may_follow b w m.core.number m.number) may
    where
      by : (t : Bool)
          → MayFollow b w (message_effect b m (cond t (ack_of m 1 false)
          (ack_of m 0 true)) kinds.Start)
          → undone b (change b (message_effect b m (cond t (ack_of m 1 false) (ack_of m 0 true))
          kinds.Start) w) x.core.number x.parts ≤ undone b w x.core.number x.parts
      by true may = undone_le b w _ x.core.number x.parts
          (started b life w v sent known j x here same m.core.number causes.On may.0)
      by false may = omega arith
  others_by kinds.Off kind may j x here same stays is = absurd (none-some life (stays ∙ is))
  others_by kinds.Reset kind may j x here same stays is =
      by (nat_lt m.life b.lives) stays
    where
      one_more_life : (o : Option ℕ) → o ≡ Some life → option_map (λ l. l + 1) o ≡ o → ⊥
      one_more_life None e stays = none-some life e
      one_more_life (Some l) e stays = next l stays
        where
          next : (l : ℕ) → Some (l + 1) ≡ Some l → ⊥
          next l e = let same : l + 1 ≡ l = grind arith in omega (arith, same)

      by : (t : Bool) → (change b (cond t Begins Ends) w).life ≡ w.life
          → undone b (change b (cond t Begins Ends) w) x.core.number x.parts
          ≤ undone b w x.core.number x.parts
      by true stays = absurd (one_more_life w.life is stays)
      by false stays = absurd (none-some life (stays ∙ is))

  -- a message that is no Down is done
  no_down : {k : Kind} → m.kind ≡ k → is_done (ack_of m 1 false) m ≡ not (is_kind k kinds.Down)
      || nat_le (length m.parts) 1
  no_down kind = ap (λ k. not (is_kind k kinds.Down) || nat_le (length m.parts) 1) kind

  -- the message itself
  own_by : (kind : Kind) → m.kind ≡ kind → MayFollow b w (message_effect b m
      (ack_by b w m kind) kind)
      → is_done (ack_by b w m kind) m ≡ false
      → (((level : ℕ) → level ≤ height b
      → (change b (message_effect b m (ack_by b w m kind) kind) w).depth level
      (up b level m.core.number) ≡ w.depth level (up b level m.core.number)) → ⊥)
      → undone b (change b (message_effect b m (ack_by b w m kind) kind) w) m.core.number m.parts
      < undone b w m.core.number m.parts
  own_by h kind may left moves = grind (arith, nat_tests, differs, take, fewer, applies, no_down)

-- A delivery leaves less
pub leaves : (b : BoardValue) (w : controlled.Values) (v : ℕ → Values) (sent : List MessageValue)
    (k : ℕ) (m : MessageValue)
    → ((life : ℕ) → w.life ≡ Some life → IsKnown b life w.starts (v life) sent)
    → indexed sent k ≡ Some m
    → MayFollow b w (effect_of b (asked.Deliver m) (reply b w (asked.Deliver m)))
    → LeavesLess b w sent m
leaves b w v sent k m known at may = by (is_this_life w.life m.life) refl
  where
    by : (t : Bool) → is_this_life w.life m.life ≡ t → LeavesLess b w sent m
    by false e = record {
      own = λ never left. absurd (never (record {
        depths = λ level within. ap (λ (u : controlled.Values). u.depth level
            (up b level m.core.number))
            (served_other b w m e);
        left = ends_other b w m e;
      }));
      others = λ j x here is stays. subst (λ u. left_of b u x ≤ left_of b w x)
          (sym (served_other b w m e)) (omega arith);
    }
    by true e =
        let is = present_of w.life m.life e in
        let place = at_number sent k m at in
        let can : MayFollow b w (message_effect b m (ack_by b w m m.kind) m.kind) =
        subst (λ g. MayFollow b w g) (effect_this b w m e) may in
        record {
          own = λ never left. subst (λ u. left_of b u m < left_of b w m) (sym (served_this b w m e))
              (own_by b m.life w (v m.life) sent (known m.life is) place.index m place.at refl can
              m.kind refl can (sym (ends_this b w m e) ∙ left) (λ same. never (record {
                depths = λ level within.
                    ap (λ (u : controlled.Values). u.depth level (up b level m.core.number))
                    (served_this b w m e) ∙ same level within;
                left = left;
              })));
          others = λ j x here own stays.
              let there = at_number sent j x here in
              let same : x.life ≡ m.life = one_life x.life m.life (sym own ∙ is) in
              subst (λ u. left_of b u x ≤ left_of b w x) (sym (served_this b w m e))
              (others_by b m.life w (v m.life) sent
              (known m.life is) place.index m place.at refl can
              m.kind refl can there.index x there.at same
              (ap (λ (u : controlled.Values). u.life) (sym (served_this b w m e)) ∙ stays) is);
        }
      where
        one_life : (l n : ℕ) → Some l ≡ Some n → l ≡ n
        one_life l n e = grind arith

-- What is outstanding ----------------------------------------------------------------------------

-- what stands in a list has a number
numbered : (xs : List MessageValue) (j : ℕ) (y : MessageValue) → slice_get xs j ≡ Some y
    → (k : ℕ) × (indexed xs k ≡ Some y)
numbered [] j y e = absurd (none-some y e)
numbered (x ∷ xs) zero y e = (length xs, numbered_new x xs ∙ e)
numbered (x ∷ xs) (suc j) y e =
    let rest = numbered xs j y e in (rest.0, numbered_old x xs rest.0 y rest.1)

pub listed : (b : BoardValue) (life : ℕ) (known : ℕ → ℕ) (phase : ℕ → Phase)
    (sent : List MessageValue) (outstanding : Slot → Option MessageValue)
    → AreOutstanding life known phase sent outstanding
    → ((j : ℕ) (x : MessageValue) → slice_get sent j ≡ Some x → IsSendable b x)
    → (slot : Slot) (m : MessageValue) → outstanding slot ≡ Some m → IsListed b sent slot m
listed b life known phase sent outstanding are can (OfCore c) m out =
    let own = are.core c m out in
    let number = numbered sent own.listed.index m own.listed.at in record {
      own = core_slot m.kind m.core own.kind ∙ ap OfCore own.core;
      number = number.0;
      at = number.1;
      board = can own.listed.index m own.listed.at;
    }
listed b life known phase sent outstanding are can OfSystem m out =
    let own = are.system m out in
    let number = numbered sent own.index m own.at in record {
      own = system_slot m.kind m.core (are.halts m out);
      number = number.0;
      at = number.1;
      board = can own.index m own.at;
    }

-- what stands in a list has a number
record HasIndex {A : Type 0} (xs : List A) (y : A) : Type 0 where
  pub number : ℕ
  pub at : indexed xs number ≡ Some y

indexed_at : {A : Type 0} → (xs : List A) (j : ℕ) (y : A) → slice_get xs j ≡ Some y → HasIndex xs y
indexed_at [] j y e = absurd (cc)
indexed_at (x ∷ xs) zero y e =
    record { number = length xs; at = numbered_new x xs ∙ e }
indexed_at (x ∷ xs) (suc j) y e =
    let rest = indexed_at xs j y e in
    record { number = rest.number; at = numbered_old x xs rest.number y rest.at }

-- A delivery in this life ------------------------------------------------------------------------

replied_here : (b : BoardValue) (w : controlled.Values) (m : MessageValue) → w.life ≡ Some m.life
    → reply b w (asked.Deliver m)
    ≡ replies.Delivery (deliveries.Applied (ack_by b w m m.kind))
unfolding reply delivery_of
replied_here b w m present = grind (arith, nat_tests, eq-eqb)

changed : (b : BoardValue) (w : controlled.Values) (m : MessageValue) → w.life ≡ Some m.life
    → after b (asked.Deliver m) (reply b w (asked.Deliver m)) w
    ≡ change b (message_effect b m (ack_by b w m m.kind) m.kind) w
unfolding after effect_of
changed b w m present = ap (λ r. after b (asked.Deliver m) r w) (replied_here b w m present)

-- a Start is done, whatever its acknowledgement says
start_ends : (b : BoardValue) (w : controlled.Values) (m : MessageValue) → m.kind ≡ Start
    → is_done (ack_by b w m m.kind) m ≡ true
start_ends b w m kind = grind (arith, nat_tests)

-- The port ---------------------------------------------------------------------------------------

module _ (b : BoardValue) (p : Port) (laws : SettleLaws b) (mirror : IsMirror b p)
    (rest : IsAtRest b p) (can : (m : MessageValue) → IsSound b m → IsSendable b m)
    (awake : is_halting b p.past ≡ false)
    (none : (k : ℕ) (m : MessageValue) → IsToServe b p k m → ⊥) where
  abbrev past : List Record
  past = p.past

  abbrev w : controlled.Values
  w = controller_values b p.past

  abbrev v : Values
  v = firmware_values b p.past

  is : IsPast b p.past
  is = laws.past p.past mirror.legal.0

  on : LifeGoesOn b p.past
  on = going_life b p.past awake

  entered : (c : ℕ) → c < cores b → place b p.past c ≡ Started → ⊥
  entered c at e = grind (arith, nat_tests)

  settled : AreSettled b p.past on.life
  settled = settled_life b p.past on.life laws.some is on.present entered

  same : in_life b on.life v ≡ v
  same = found_own b on.life v (sym settled.own)

  -- What is outstanding for a core: its message, which brings nothing about.
  module _ (c : ℕ) (m : MessageValue) (out : out_at b c p.past ≡ Some m) where
    core : m.core.number ≡ c
    core = (is.given.holds.slots.core c m out).core

    present : w.life ≡ Some m.life
    present =
        on.present
        ∙ ap (λ l. Some l) (sym ((is.given.holds.slots.core c m out).listed.present ∙ settled.own))

    index : HasIndex (sent p.past) m
    index =
        let listed = (is.given.holds.slots.core c m out).listed in
        indexed_at (sent p.past) listed.index m listed.at

    slot : v.outstanding (slot_of m.kind m.core) ≡ Some m
    slot =
        ap v.outstanding (core_slot m.kind m.core (is.given.holds.slots.core c m out).kind
        ∙ ap OfCore core) ∙ out

    spent : (IsSpent b w m → ⊥) → ⊥
    spent never = grind (arith, nat_tests, index, slot, heard, is)

    -- a delivery of it left_over some of it
    left_over : is_done (ack_by b w m m.kind) m ≡ false
    left_over = by (is_done (ack_by b w m m.kind) m) refl
      where
        by : (t : Bool) → is_done (ack_by b w m m.kind) m ≡ t
            → is_done (ack_by b w m m.kind) m ≡ false
        by false e = e
        by true e = absurd (spent (λ s.
            false≢true (sym s.left ∙ ap (ends m) (replied_here b w m present) ∙ e)))

    -- and each domain as deep as it is
    keeps : (level : ℕ) → level ≤ height b
        → (change b (message_effect b m (ack_by b w m m.kind) m.kind) w).depth level
        (up b level m.core.number) ≡ w.depth level (up b level m.core.number)
    keeps level within = grind (arith, nat_tests, cases_eq, spent, changed, present)

    no_start : m.kind ≡ Start → ⊥
    no_start kind = false≢true (sym left_over ∙ start_ends b w m kind)

  -- so no core is pending
  none_pending : (c : ℕ) → c < cores b → v.phase c ≡ phases.Pending → ⊥
  none_pending c at e = grind (arith, nat_tests, on, same, is, settled, no_start)

  going : IsGoing b p.past on.life p.past
  going = grind (arith, nat_tests, none_added, present, on, settled, same, none_pending, entered)

  -- What is so after an outstanding Down was served, where live parts below a level have their
  -- depth.
  module _ (r c : ℕ) (m : MessageValue) (deep : (x : ℕ) → DeepAt b on.life r x p.past)
      (out : out_at b c p.past ≡ Some m) where
    is_out : IsOut b on.life p.past c m
    is_out = out_now b p.past on.life p.past c m laws going out

    number : HasNumber m (sent p.past)
    number = finds m (sent p.past) is_out.down.index is_out.down.at

    answered : IsDownAnswered b p.past on.life p.past r c number.number m
    answered = down_answered b p.past on.life p.past r c m laws going (λ x ne. deep x) is_out number
        out

    emptied : IsEmptying b p.past c number.number m m
    emptied = subst (λ x. IsEmptying b p.past c number.number m x)
        (same_down b p.past on.life p.past c m laws going is_out number)
        (empties b p.past c m laws.runs mirror.legal.0 number (present c m out) out is_out.core
        is_out.system)

    -- each domain on its path is as deep as before
    unmoved : (level : ℕ) → level ≤ height b
        → (controller_values b (serving b p.past (Some number.number))).depth level
        (up b level m.core.number) ≡ w.depth level (up b level m.core.number)
    unmoved level within = grind (arith, nat_tests, emptied, keeps)

    -- and the Down is outstanding
    stays : (firmware_values b (serving b p.past (Some number.number))).outstanding (OfCore c)
        ≡ Some m
    stays = emptied.here ∙ ap (λ t. cond t None (Some m)) (left_over c m out)

  -- a part of a message is of a level of the board
  within : (k level : ℕ) (m : MessageValue) (part : Part) → slice_get (sent p.past) k ≡ Some m
      → slice_get m.parts level ≡ Some part → level ≤ height b
  within k level m part at get = grind (arith, nat_tests, slice_get_within)

  -- Level by level each live part has its depth
  deep_below : (r c : ℕ) → DeepAt b on.life r c p.past
  deep_below zero c k level m part at life kind core get live low = absurd (omega (arith, low))
  deep_below (suc r) c k level m part at life kind core get live low =
      elim (deep_or_out b p.past on.life p.past c k level m part laws going at life kind core get
      live) [
        | inl deep ↦ deep
        | inr out ↦
            sym (unmoved r c m (deep_below r) out level (within k level m part at get))
            ∙ (answered r c m (deep_below r) out).here level part get live (omega (arith, low))
      ]

  -- so no Down is left
  none_out : (c : ℕ) → c < cores b → out_at b c p.past ≡ None
  none_out c at = by (out_at b c p.past) refl
    where
      by : (o : Option MessageValue) → out_at b c p.past ≡ o → out_at b c p.past ≡ None
      by None e = e
      by (Some m) e =
          let r : ℕ = suc (height b) in
          let left = (answered r c m (deep_below r) e).left m (stays r c m (deep_below r) e) in
          let down = (is_out r c m (deep_below r) e).down in
          let low = within down.index left.1.level m left.1.part down.at left.1.at in
          let high = left.1.high in
          absurd (omega (arith, low, high))

  pub agreed : AreAtRest b p.past
  agreed = settling.at_rest b p.past on.life p.past laws going none_out
