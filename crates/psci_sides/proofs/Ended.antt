-- A call of the firmware ends: what it sends is paid for, of an entry by the entry.
use Rattle.psci_messages.specs.Message.{ArePartsOf}
use Rattle.psci_messages.specs.declared.kind.Kind.TheVariants as kinds
use Rattle.psci_fw_spec.specs.declared.call.FwCall.TheVariants as calls
use Rattle.psci_world_spec.specs.Legal.{sent, sent as sent_in}
use Rattle.psci_port.specs.Port.{state}
use Rattle.psci_port.specs.Resting.{total}
use Rattle.psci_port.specs.Undone.{is_undone, undone}
use Rattle.psci_sides.specs.Steps.{after}
use Rattle.psci_sides.proofs.Words.{◌*◌, ◌++◌, ◌+◌, ◌<◌, ◌==◌, ◌∙◌, ◌∷◌, ◌≤◌, ◌⊎◌, ◌≡◌, [], Act}
use Rattle.psci_sides.proofs.Words.{answered, ap, arith, BoardValue, Bool, cond, cores, EndCall}
use Rattle.psci_sides.proofs.Words.{eqb-false, false, FirmwareValue, FwCall, FwReply, inl, inr}
use Rattle.psci_sides.proofs.Words.{is_this_life, IsAsked, IsIn, IsKept, IsLent, IsListed}
use Rattle.psci_sides.proofs.Words.{IsMachineOf, IsSendable, IsUnderWay, Kind, left_of, length}
use Rattle.psci_sides.proofs.Words.{List, listed, Machine, May, MessageValue, nat_tests, None}
use Rattle.psci_sides.proofs.Words.{none-some, OfCore, Option, orders_by, Part, Port, refl, Regs}
use Rattle.psci_sides.proofs.Words.{Remembered, remembers, reply_in, run_kept, side_by, side_of}
use Rattle.psci_sides.proofs.Words.{slice_get, Slot, slot_of, Some, Start, subst, suc, sym, true}
use Rattle.psci_sides.proofs.Words.{Values, values_of, ℕ}
use Rattle.psci_sides.proofs.Carrying.{Follows, Given, IsSeen}
use Rattle.psci_sides.proofs.Settling.{core_words, IsCalling, kind_rest, on_slot, Owes, OwesNext}
use Rattle.psci_sides.proofs.Settling.{Pays, pays_later, rest, same_owes, unheard, weight}
use Rattle.psci_sides.proofs.Visiting.{pays_slot}
use Rattle.psci_sides.proofs.Acking.{call_out, entry_down, entry_out, IsLeftBy, message_in}

-- What is outstanding was sent, and what it may still bring about is bounded ----------------------

-- what is outstanding in the machine's firmware was sent in the port
pub listed_here : (b : BoardValue) → Given b → (m : Machine) (acts : List Act) → IsSeen b m acts
    → (slot : Slot) (x : MessageValue) → (remembers m.firmware).outstanding slot ≡ Some x
    → IsListed b (sent (state b acts).past) slot x
listed_here b given m acts seen slot x out = elim seen.tied.firmware.values [
  | inl same ↦ given.listed acts slot x seen.run seen.so
      (ap (λ (v : Remembered). v.outstanding slot) (sym same) ∙ out)
  | inr anew ↦ absurd (none-some x (
      sym (ap (λ (v : Remembered). v.outstanding slot) anew.values) ∙ out))
]

-- Bounds -----------------------------------------------------------------------------------------

undone_few : (b : BoardValue) (v : Values) (c : ℕ) (ps : List Part)
    → undone b v c ps ≤ length ps
unfolding undone
undone_few b v c [] = omega arith
undone_few b v c (p ∷ ps) =
    let others = undone_few b v c ps in
    let own = few (is_undone b v c p) in
    omega (arith, others, own)
  where
    few : (t : Bool) → cond {A = ℕ} t 1 0 ≤ 1
    few true = omega arith
    few false = omega arith

module _ (b : BoardValue) (v : Values) (x : MessageValue) (can : IsSendable b x) where
  parts_few : (k : Kind) → ArePartsOf k x.parts → k ≡ kinds.Down → length x.parts ≤ 4
  parts_few kinds.Down are e = are.most
  parts_few x are e = absurd (cc)

  down_few : x.kind ≡ kinds.Down → 2 * left_of b v x ≤ 8
  down_few down = grind (arith, nat_tests, parts_few, undone_few)

  start_few : (t : Bool) → cond {A = ℕ} t 231 0 ≤ 231
  start_few true = omega arith
  start_few false = omega arith

  kind_few : (k : Kind) → x.kind ≡ k → 0 < cores b → kind_rest b v x k ≤ 232 * cores b
  kind_few k e some = grind (arith, nat_tests, down_few, start_few)

  of_life : (t : Bool) (n k : ℕ) → n ≤ k → cond t n 0 ≤ k
  of_life true n k low = low
  of_life false n k low = omega arith

  -- of any message
  pub rest_most : 0 < cores b → rest b v x ≤ 232 * cores b
  rest_most some = of_life (is_this_life v.life x.life) _ _ (kind_few x.kind refl some)

  -- of a Down
  pub rest_down : x.kind ≡ kinds.Down → rest b v x ≤ 8
  rest_down down = of_life (is_this_life v.life x.life) _ _
      (subst (λ k. kind_rest b v x k ≤ 8) (sym down) (down_few down))

  -- and of one for a core
  core_few : (k : Kind) (d : ℕ) → x.kind ≡ k → slot_of k x.core ≡ OfCore d → kind_rest b v x k ≤ 231
  core_few k d e slot = grind (arith, nat_tests, down_few, start_few)

  pub rest_core : (d : ℕ) → slot_of x.kind x.core ≡ OfCore d → rest b v x ≤ 231
  rest_core d slot = of_life (is_this_life v.life x.life) _ _ (core_few x.kind d refl slot)

-- Ended -------------------------------------------------------------------------------------------

same_message : {x y : MessageValue} → Some x ≡ Some y → x ≡ y
same_message e = grind arith

module _ (b : BoardValue) (given : Given b) (m : Machine) (acts : List Act)
    (seen : IsSeen b m acts) (all : ℕ) (owes : Owes b m acts all) where
  abbrev p : Port
  p = state b acts

  abbrev is : IsMachineOf b m p
  is = seen.tied

  abbrev kept : IsKept p
  kept = run_kept b acts seen.run

  -- who is lent the firmware has the lock
  lent_lock : (d : ℕ) → d < cores b → (call : FwCall) → (m.station d).lent ≡ Some call
      → p.lock ≡ Some d
  lent_lock d within call lent =
      let own = subst (λ o. IsLent d (m.side d).post o (p.row d).begun) lent (is.each d within).lent
      in kept.held.calls d own.0 own.1.0

  module _ (c : ℕ) (has : c < cores b) (call : FwCall) (lent : (m.station c).lent ≡ Some call)
      (g : FirmwareValue) (reply : FwReply)
      (sends : (orders_by (side_of m c) call reply).send ≡ message_in reply)
      (out : (slot : Slot) → IsLeftBy (message_in reply) ((remembers m.firmware).outstanding slot)
      ((remembers g).outstanding slot))
      (next : List Act) (later : IsSeen b (answered m c g call reply) next)
      (low : weight b next < weight b acts) where
    abbrev l : Machine
    l = answered m c g call reply

    -- no call of the normal world is left
    none_calls : IsCalling b l → ⊥
    none_calls calling = by (calling.0 == c) refl calling.1.1.1
      where
        same : (d e : ℕ) → Some d ≡ Some e → d ≡ e
        same d e eq = grind arith

        by : (t : Bool) → (calling.0 == c) ≡ t
            → (cond t (record (m.station c) { lent = None }) (m.station calling.0)).lent
            ≡ Some (calls.Smc calling.1.1.0) → ⊥
        by true e at = none-some _ at
        by false e at = eqb-false calling.0 c e (same calling.0 c (
            sym (lent_lock calling.0 calling.1.0 (calls.Smc calling.1.1.0) at)
            ∙ lent_lock c has call lent))

    words : total (unheard l) (cores b) ≤ total (unheard m) (cores b) + 0
    words = core_words b m c (side_by (side_of m c) call reply)
        (record (m.station c) { lent = None }) refl

    -- frames that were under way are
    in_more : (o : Option MessageValue) (x : MessageValue) → IsIn m.mail x
        → IsIn (listed o ++ m.mail) x
    in_more None x at = at
    in_more (Some y) x at = (suc at.0, at.1)

    under : (x : MessageValue) → IsUnderWay m x → IsUnderWay l x
    under x u = grind (arith, nat_tests, in_more)

    still_pays : (o : Option MessageValue) (n : ℕ) → Pays b m o n → Pays b l o n
    still_pays o n pays = pays_later b m l o n (λ y e i. i) (λ y e u. under y u)
        (λ y e. omega arith) pays

    -- a slot with no new message
    abbrev IsOld : Slot → Type 0
    IsOld slot = ((remembers g).outstanding slot ≡ (remembers m.firmware).outstanding slot)
        ⊎ ((remembers g).outstanding slot ≡ None)

    old_slot : (slot : Slot) → ((x : MessageValue) → message_in reply ≡ Some x
        → (remembers g).outstanding slot ≡ Some x → IsOld slot) → IsOld slot
    old_slot slot none = grind (arith, nat_tests)

    old_pays : (slot : Slot) (n : ℕ) → IsOld slot
        → Pays b m ((remembers m.firmware).outstanding slot) n
        → Pays b l ((remembers g).outstanding slot) n
    old_pays slot n old pays = grind (arith, nat_tests, still_pays)

    listed_now : (slot : Slot) (x : MessageValue) → (remembers g).outstanding slot ≡ Some x
        → IsListed b (sent_in (state b next).past) slot x
    listed_now slot x e = listed_here b given l next later slot x e

    -- the new message is under way
    new_pays : (x : MessageValue) → message_in reply ≡ Some x → (o : Option MessageValue)
        → o ≡ Some x → Pays b l o (rest b (values_of m.control) x + 2)
    new_pays x sent o e = subst (λ o. Pays b l o (rest b (values_of m.control) x + 2)) (sym e)
        (inr (inl (
          inl (0, ap (λ s. slice_get (listed s ++ m.mail) 0) (sends ∙ sent)),
          omega arith,
        )))

    module _ (few : (x : MessageValue) (slot : Slot) → message_in reply ≡ Some x
        → (remembers g).outstanding slot ≡ Some x
        → 11 * weight b next + (rest b (values_of m.control) x + 2) + 1
        ≤ 11 * weight b acts + owes.call) where
      nothing_new : ((slot : Slot) → IsOld slot) → OwesNext b l next all 0
      nothing_new old =
          let few_words = words in
          same_owes b m l acts next all 0 owes
          (λ s on. old_pays s (owes.credit s) (old s) (owes.own s on))
          (λ k. absurd (none_calls k)) (omega (arith, low, few_words))

      -- it stands in its own slot
      module _ (x : MessageValue) (sent : message_in reply ≡ Some x) where
        abbrev own : Slot
        own = slot_of x.kind x.core

        own_slot : (slot : Slot) (y : MessageValue) → message_in reply ≡ Some y
            → (remembers g).outstanding slot ≡ Some y → own ≡ slot
        own_slot slot y s e = ap (λ (z : MessageValue). slot_of z.kind z.core)
            (same_message (sym sent ∙ s)) ∙ (listed_now slot y e).own

        all_old : IsOld own → (slot : Slot) → IsOld slot
        all_old old slot = old_slot slot (λ y s e. subst IsOld (own_slot slot y s e) old)

        new_slot : (remembers g).outstanding own ≡ Some x → OwesNext b l next all 0
        new_slot at =
            let few_words = words in
            let much = few x own sent at in
            pays_slot b m l acts next all 0 owes (rest b (values_of m.control) x + 2) 0
            (λ k. absurd (none_calls k)) own
            (on_slot b x.kind x.core (listed_now own x at).board.board.core)
            (new_pays x sent ((remembers g).outstanding own) at)
            (λ s within ne. old_pays s (owes.credit s)
            (old_slot s (λ y t e. absurd (ne (sym (own_slot s y t e))))) (owes.own s within))
            (omega (arith, much, few_words))

        by_slot : OwesNext b l next all 0
        by_slot = elim (out own) [
          | inl e ↦ nothing_new (all_old (inl e))
          | inr other ↦ elim other [
            | inl e ↦ nothing_new (all_old (inr e))
            | inr new ↦ new_slot (new.1.1 ∙ sym new.1.0 ∙ sent)
          ]
        ]

      by_message : (o : Option MessageValue) → message_in reply ≡ o → OwesNext b l next all 0
      by_message None e = nothing_new (λ slot. old_slot slot (λ x s at.
          absurd (none-some x (sym e ∙ s))))
      by_message (Some x) e = by_slot x e

  -- What a call leaves, and what an entry does ---------------------------------------------------

  call_sends : (c : ℕ) (regs : Regs) (r : FwReply)
      → (orders_by (side_of m c) (calls.Smc regs) r).send ≡ message_in r
  call_sends c regs r = grind (arith, nat_tests)

  entry_sends : (c : ℕ) (start : Start) (r : FwReply)
      → (orders_by (side_of m c) (calls.Enter start) r).send ≡ message_in r
  entry_sends c start r = grind (arith, nat_tests)

  ends_by : (c : ℕ) → c < cores b → (call : FwCall) → (m.station c).lent ≡ Some call
      → (g : FirmwareValue) → IsAsked c call m.firmware g → (next : List Act)
      → IsSeen b (answered m c g call (reply_in m.firmware c call)) next
      → weight b next < weight b acts
      → OwesNext b (answered m c g call (reply_in m.firmware c call)) next all 0
  ends_by c has (calls.Smc regs) lent g asked next later low =
      by_message c has (calls.Smc regs) lent g (reply_in m.firmware c (calls.Smc regs))
      (call_sends c regs (reply_in m.firmware c (calls.Smc regs)))
      (λ slot. subst (λ (v : Remembered). IsLeftBy
      (message_in (reply_in m.firmware c (calls.Smc regs)))
      ((remembers m.firmware).outstanding slot) (v.outstanding slot)) (sym asked.values)
      (call_out m.firmware.board (remembers m.firmware) c slot regs
      (reply_in m.firmware c (calls.Smc regs))))
      next later low
      (λ x slot s e.
      let most = rest_most b (values_of m.control) x
      (listed_here b given _ next later slot x e).board (omega (arith, has)) in
      let much = owes.calls (c, (has, (regs, lent))) in omega (arith, most, much, low))
      (message_in (reply_in m.firmware c (calls.Smc regs))) refl
  ends_by c has (calls.Enter start) lent g asked next later low =
      by_message c has (calls.Enter start) lent g (reply_in m.firmware c (calls.Enter start))
      (entry_sends c start (reply_in m.firmware c (calls.Enter start)))
      (λ slot. subst (λ (v : Remembered). IsLeftBy
      (message_in (reply_in m.firmware c (calls.Enter start)))
      ((remembers m.firmware).outstanding slot) (v.outstanding slot)) (sym asked.values)
      (entry_out m.firmware.board (remembers m.firmware) c slot start
      (reply_in m.firmware c (calls.Enter start))))
      next later low
      (λ x slot s e.
      let most = rest_down b (values_of m.control) x
      (listed_here b given _ next later slot x e).board
      (entry_down m.firmware.board (remembers m.firmware) c start x s) in omega (arith, most, low))
      (message_in (reply_in m.firmware c (calls.Enter start))) refl
  ends_by c has (calls.Take ack) lent g asked next later low =
      let own = subst (λ o. IsLent c (m.side c).post o (p.row c).begun) lent (is.each c has).lent in
      absurd own.1.1

  pub ended_next : (c : ℕ) (g : FirmwareValue) → (may : May b m (EndCall c g))
      → (next : Follows b m acts (EndCall c g))
      → weight b (next.0 ++ acts) < weight b acts
      → OwesNext b (after b m (EndCall c g)) (next.0 ++ acts) all 0
  unfolding after
  ended_next c g may next low = grind (arith, nat_tests, ends_by, weight)
