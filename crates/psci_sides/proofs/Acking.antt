-- What calls, acknowledgements and the power controller leave of what was outstanding and owed.
use Rattle.std.proofs.lemmas.Bool.{and_parts}
use Rattle.psci_abi.specs.declared.request.Request.{Request}
use Rattle.psci_messages.specs.Slots.{changed, is_kind, is_slot, left_by, Put, taken}
use Rattle.psci_messages.specs.declared.kind.Kind.TheVariants as kinds
use Rattle.psci_messages.specs.declared.taken.Taken.{Taken}
use Rattle.psci_messages.specs.declared.taken.Taken.TheVariants as takings
use Rattle.psci_fw_spec.specs.Effects.{after, after as fw_after, change as fw_change, enter_effect}
use Rattle.psci_fw_spec.specs.Effects.{function_effect}
use Rattle.psci_fw_spec.specs.Answer.{answer, enter_fault, enter_outcome, outcome_at, reply_or}
use Rattle.psci_fw_spec.specs.Changes.{with_arrival}
use Rattle.psci_fw_spec.specs.PowerCalls.{stops}
use Rattle.psci_fw_spec.specs.Values.{taken_by}
use Rattle.psci_fw_spec.specs.declared.call.FwCall.TheVariants as calls
use Rattle.psci_fw_spec.specs.declared.fault.FwFault.{FwFault}
use Rattle.psci_fw_spec.specs.declared.opening.Opening.{Opening}
use Rattle.psci_fw_spec.specs.declared.outcome.Act.{Act as Outcome}
use Rattle.psci_fw_spec.specs.declared.outcome.Act.TheVariants as acts
use Rattle.psci_fw_spec.specs.declared.outcome.Outcome.{Outcome as Ending}
use Rattle.psci_fw_spec.specs.declared.reply.FwReply.TheVariants as replies
use Rattle.psci_port.specs.Port.{state}
use Rattle.psci_port.proofs.Power.{takes_left}
use Rattle.psci_sides.specs.Frames.{is_end_of}
use Rattle.psci_sides.proofs.Words.{◌++◌, ◌+◌, ◌<◌, ◌∙◌, ◌≤◌, ◌⊎◌, ◌≡◌, ack_by, AckValue, Act}
use Rattle.psci_sides.proofs.Words.{answers, ap, arith, Begins, BoardValue, Bool, change, cond}
use Rattle.psci_sides.proofs.Words.{cond-false, cond-true, ControlValue, Core, core_left, cores}
use Rattle.psci_sides.proofs.Words.{Deepens, Effect, ending_of, Ends, eq-eqb, eqb-true, false}
use Rattle.psci_sides.proofs.Words.{FirmwareValue, FwReply, Gate, gates_after, is_done, is_end}
use Rattle.psci_sides.proofs.Words.{IsAsked, IsOut, Kind, left, left_of, length, List, Machine, May}
use Rattle.psci_sides.proofs.Words.{MessageValue, moved, moves_left, nat_tests, ne_eqb, None}
use Rattle.psci_sides.proofs.Words.{Nothing, OfCore, OfSystem, Option, Port, Record, refl, Regs}
use Rattle.psci_sides.proofs.Words.{Remembered, remembers, same_le, Slot, slot_of, Some, Start}
use Rattle.psci_sides.proofs.Words.{Starts, subst, sym, TakeAck, total_le, touches_core, true}
use Rattle.psci_sides.proofs.Words.{Values, ℕ}
use Rattle.psci_sides.proofs.Carrying.{done, Follows, Given, IsSeen}
use Rattle.psci_sides.proofs.Locking.{has_lock}
use Rattle.psci_sides.proofs.Settling.{all_few, HasSlot, kind_rest, on_slot, Owes, OwesNext, Pays}
use Rattle.psci_sides.proofs.Settling.{pays_later, rest, total_more, weight}
use Rattle.psci_sides.proofs.Visiting.{pays_slot}

-- What the end of a call leaves outstanding: what was, nothing, or what it sends ------------------

-- what is in a slot: what was, nothing, or this message
abbrev pub IsLeftBy : Option MessageValue → Option MessageValue → Option MessageValue → Type 0
IsLeftBy message before now = (now ≡ before) ⊎ ((now ≡ None)
    ⊎ ((x : MessageValue) × ((message ≡ Some x) × (now ≡ Some x))))

-- what a reply has sent
abbrev pub message_in : FwReply → Option MessageValue
message_in (replies.Out o) = o.message
message_in (replies.Taken t) = None
message_in (replies.Fault f) = None

-- Calls ------------------------------------------------------------------------------------------

module _ (b : BoardValue) (v : Remembered) (c : ℕ) (slot : Slot) where
  function_out : (request : Request) (act : Outcome) (message : Option MessageValue)
      → IsLeftBy message (v.outstanding slot)
      ((fw_change b (function_effect b c request act message) v).outstanding slot)
  function_out request act message = grind (arith, nat_tests)

  -- what the end of a call leaves in a slot
  pub call_out : (regs : Regs) (r : FwReply)
      → IsLeftBy (message_in r) (v.outstanding slot)
      ((after b c (calls.Smc regs) r v).outstanding slot)
  unfolding after
  call_out regs r = grind (arith, nat_tests, function_out)

  -- Entries --------------------------------------------------------------------------------------

  module _ (s : Start) where
    arrived : ((with_arrival b c s v).outstanding slot ≡ v.outstanding slot)
        ⊎ ((with_arrival b c s v).outstanding slot ≡ None)
    arrived = grind (arith, nat_tests)

    gone_or_same : (message : Option MessageValue)
        → IsLeftBy message (v.outstanding slot) ((with_arrival b c s v).outstanding slot)
    gone_or_same message = grind (arith, nat_tests, arrived)

    parked : (m : MessageValue) → IsLeftBy (Some m) (v.outstanding slot)
        (changed slot (Put m) ((with_arrival b c s v).outstanding slot))
    parked m = grind (arith, nat_tests)

    enter_act_out : (act : Outcome) (message : Option MessageValue)
        → IsLeftBy message (v.outstanding slot)
        ((fw_change b (enter_effect c s act message) v).outstanding slot)
    enter_act_out act message = grind (arith, nat_tests, gone_or_same, parked)

    -- what the end of an entry leaves in a slot
    pub entry_out : (r : FwReply) → IsLeftBy (message_in r) (v.outstanding slot)
        ((after b c (calls.Enter s) r v).outstanding slot)
    unfolding after
    entry_out r = grind (arith, nat_tests, enter_act_out)

-- an entry sends nothing but a Down
module _ (b : BoardValue) (v : Remembered) (c : ℕ) (s : Start) (x : MessageValue) where
  down_by : (parks : Bool) (found : Remembered) (m : MessageValue) → m.kind ≡ kinds.Down
      → (cond {A = Ending} parks (record { act = acts.Resume; message = None })
      (record { act = acts.Stop; message = Some m })).message ≡ Some x → x.kind ≡ kinds.Down
  down_by parks found m down e = grind (arith, nat_tests)

  outcome_down : (halts : Bool) (found : Remembered) (o : Option Opening)
      → (cond halts stops (outcome_at b found (with_arrival b c s v) c s o)).message ≡ Some x
      → x.kind ≡ kinds.Down
  outcome_down halts found o e = grind (arith, nat_tests, down_by)

  reply_down : (fault : Option FwFault) → message_in (reply_or fault (enter_outcome b v c s))
      ≡ Some x
      → x.kind ≡ kinds.Down
  unfolding enter_outcome
  reply_down fault e = grind (arith, nat_tests, outcome_down)

  pub entry_down : message_in (answer b v c (calls.Enter s)) ≡ Some x → x.kind ≡ kinds.Down
  unfolding answer
  entry_down e = reply_down (enter_fault b v c s) e

-- What it leaves of the firmware -----------------------------------------------------------------

abbrev IsLessOf : Option MessageValue → Option MessageValue → Type 0
IsLessOf before now = (now ≡ before) ⊎ (now ≡ None)

left_less : (a : AckValue) (t : Bool) (o : Option MessageValue)
    → IsLessOf o (cond t (left_by a o) o)
left_less a t o = grind (arith, nat_tests)

module _ (b : BoardValue) (v : Remembered) (c : ℕ) (a : AckValue) where
  abbrev now : Remembered
  now = fw_after b c (calls.Take a) (answer b v c (calls.Take a)) v

  less_by : (t : Taken) (slot : Slot) → IsLessOf (v.outstanding slot)
      ((fw_after b c (calls.Take a) (replies.Taken t) v).outstanding slot)
  unfolding fw_after
  less_by t slot = grind (arith, nat_tests, left_less)

  ack_less : (slot : Slot) → IsLessOf (v.outstanding slot) (now.outstanding slot)
  unfolding answer
  ack_less slot = less_by (taken_by v a) slot

  ends_by : (t : Taken) (x : MessageValue) → t ≡ takings.Used
      → v.outstanding (slot_of a.kind a.core) ≡ Some x → is_end_of a x ≡ true
      → (fw_after b c (calls.Take a) (replies.Taken t) v).outstanding (slot_of a.kind a.core) ≡ None
  unfolding fw_after
  ends_by takings.Used x used out end =
      ap (λ t. cond t (left_by a (v.outstanding (slot_of a.kind a.core)))
      (v.outstanding (slot_of a.kind a.core))) (own_slot (slot_of a.kind a.core))
      ∙ ap (left_by a) out ∙ cond-true _ _ _ end
    where
      own_slot : (slot : Slot) → is_slot slot slot ≡ true
      own_slot (OfCore n) = eq-eqb n n refl
      own_slot OfSystem = refl
  ends_by takings.Old x used out end = absurd (cc)

  ack_ends : (x : MessageValue) → v.outstanding (slot_of a.kind a.core) ≡ Some x
      → is_end_of a x ≡ true → now.outstanding (slot_of a.kind a.core) ≡ None
  unfolding answer
  ack_ends x out end = ends_by (taken_by v a) x
      (ap (taken a) out ∙ cond-true _ _ _ (and_parts (answers a x) _ end).0) out end

slot_same : (k l : Kind) (c d : Core) → is_kind k l ≡ true → c.number ≡ d.number
    → slot_of k c ≡ slot_of l d
slot_same k l c d kind core = grind (arith, nat_tests)

-- an acknowledgement goes to the slot of its message
same_slot : (a : AckValue) (x : MessageValue) → is_end_of a x ≡ true
    → slot_of a.kind a.core ≡ slot_of x.kind x.core
same_slot a x end = grind (arith, nat_tests, and_parts, slot_same, eqb-true)

-- What an effect leaves of what is owed ---------------------------------------------------------
-- What an effect of the power controller leaves of what is owed for the other messages, and of what
-- a machine has left to do by itself.

-- Messages ---------------------------------------------------------------------------------------

-- the core of this number is started
abbrev pub starts_of : Effect → ℕ → Type 0
starts_of (Starts d cause) c = d ≡ c
starts_of f c = ⊥

-- a core that is not started has as many starts
same_starts : (b : BoardValue) (w : Values) (g : Effect) (d : ℕ) → is_end g ≡ false
    → ((c : ℕ) → starts_of g c → (d ≡ c → ⊥)) → (change b g w).starts d ≡ w.starts d
same_starts b w Nothing d goes apart = refl
same_starts b w (Starts c cause) d goes apart = cond-false _ _ _ (ne_eqb d c (apart c refl))
same_starts b w (Deepens c ps) d goes apart = refl
same_starts b w Ends d goes apart = absurd (cc)
same_starts b w Begins d goes apart = absurd (cc)

pub same_life : (b : BoardValue) (w : Values) (g : Effect) → is_end g ≡ false
    → (change b g w).life ≡ w.life
same_life b w g goes = grind (arith, nat_tests)

-- no more is owed for a message whose parts are no more, and whose core is not started
pub rest_less : (b : BoardValue) (w : Values) (g : Effect) (y : MessageValue) → is_end g ≡ false
    → (w.life ≡ Some y.life → left_of b (change b g w) y ≤ left_of b w y)
    → (y.kind ≡ kinds.Start → (c : ℕ) → starts_of g c → (y.core.number ≡ c → ⊥))
    → rest b (change b g w) y ≤ rest b w y
rest_less b w g y goes parts apart =
    grind (arith, nat_tests, same_life, eqb-true, kind_rest, cond-true, same_le, same_starts)

-- Weights ----------------------------------------------------------------------------------------

-- a machine whose power controller did this
abbrev pub done_so : BoardValue → FirmwareValue → Effect → Option AckValue → ControlValue → Machine
    → Machine
done_so b f g a t m = record (done b f g a m) { control = t }

module _ (b : BoardValue) (p : Port) (r : Record) (g : Effect) where
  -- one core is touched at most
  pub start_weight : (c : ℕ) → ((d : ℕ) → (d ≡ c → ⊥) → touches_core b p r g d ≡ false)
      → left b (moved b p g r) ≤ left b p + 21
  start_weight c others =
      let few = all_few (moved b p g r) c in
      total_more (core_left p) (core_left (moved b p g r)) c 21 (cores b) (omega (arith, few))
      (λ d has ne. same_le _ _ (moves_left b p r g d (others d ne)))

  -- none is
  pub same_weight : ((d : ℕ) → touches_core b p r g d ≡ false)
      → left b (moved b p g r) ≤ left b p
  same_weight none = total_le (core_left p) (core_left (moved b p g r)) (cores b)
      (λ d has. same_le _ _ (moves_left b p r g d (none d)))

-- What is acknowledged -------------------------------------------------------------------------

-- the acknowledgement of a message answers it
pub own_answer : (b : BoardValue) (v : Values) (x : MessageValue) (k : Kind)
    → answers (ack_by b v x k) x ≡ true
own_answer b v x k = grind (arith, nat_tests)

-- and nothing of a Start is left
pub start_done : (b : BoardValue) (v : Values) (x : MessageValue) → x.kind ≡ kinds.Start
    → is_done (ack_by b v x kinds.Start) x ≡ true
start_done b v x kind = grind (arith, nat_tests, length)

-- What no end of a life changes ------------------------------------------------------------------

pub same_firmware : (b : BoardValue) (f : FirmwareValue) (g : Effect) (a : Option AckValue)
    (m : Machine) → is_end g ≡ false → (done b f g a m).firmware ≡ m.firmware
same_firmware b f Ends a m goes = absurd (cc)
same_firmware b f Begins a m goes = absurd (cc)
same_firmware b f x a m goes = refl

pub same_station : (b : BoardValue) (f : FirmwareValue) (g : Effect) (a : Option AckValue)
    (m : Machine) → is_end g ≡ false → (done b f g a m).station ≡ m.station
same_station b f g a m goes = grind (arith, nat_tests)

pub same_gates : (g : Effect) (gates : List Gate) → is_end g ≡ false
    → gates_after (ending_of g) gates ≡ gates
same_gates g gates goes = grind (arith, nat_tests)

-- The machine ------------------------------------------------------------------------------------

module _ (b : BoardValue) (given : Given b) (m : Machine) (acts : List Act)
    (seen : IsSeen b m acts) (all : ℕ) (owes : Owes b m acts all) where
  abbrev p : Port
  p = state b acts

  module _ (c : ℕ) (a : AckValue) (g : FirmwareValue) (may : May b m (TakeAck c a g))
      (next : Follows b m acts (TakeAck c a g)) where
    abbrev asked : IsAsked c (calls.Take a) m.firmware g
    asked = may.2

    abbrev left_machine : Machine
    left_machine = record m { firmware = g }

    weight_less : weight b (next.0 ++ acts) ≤ weight b acts
    unfolding state
    weight_less = grind (arith, nat_tests, weight, total_le, same_le, takes_left, has_lock)

    out_less : (slot : Slot) → IsLessOf ((remembers m.firmware).outstanding slot)
        ((remembers g).outstanding slot)
    out_less slot = grind (arith, nat_tests, ack_less)

    still_pays : (o l : Option MessageValue) (n : ℕ) → IsLessOf o l → Pays b m o n
        → Pays b left_machine l n
    still_pays o l n less pays = grind (arith, nat_tests, pays_later)

    some_pays : (x : MessageValue) (n : ℕ) → Pays b m (Some x) n → 1 ≤ n
    some_pays x n pays = grind (arith, nat_tests)

    taken_slot : (x : MessageValue) → x.core.number < cores b → IsOut m x
        → (remembers g).outstanding (slot_of x.kind x.core) ≡ None
        → OwesNext b left_machine (next.0 ++ acts) all 0
    taken_slot x has out gone =
        let own : Slot = slot_of x.kind x.core in
        let on : HasSlot b own = on_slot b x.kind x.core has in
        let some = some_pays x (owes.credit own)
        (subst (λ o. Pays b m o (owes.credit own)) out (owes.own own on)) in
        let low = weight_less in
        pays_slot b m left_machine acts (next.0 ++ acts) all 0 owes 0 owes.call
        (λ calling. owes.calls calling) own on
        (subst (λ o. Pays b left_machine o 0) (sym gone) tt)
        (λ s within ne. still_pays _ _ (owes.credit s) (out_less s) (owes.own s within))
        (omega (arith, some, low))

    pub takes_next : (x : MessageValue) → x.core.number < cores b → IsOut m x
        → is_end_of a x ≡ true → OwesNext b left_machine (next.0 ++ acts) all 0
    takes_next x on out end =
        let slot = same_slot a x end in
        taken_slot x on out
        (ap (λ (v : Remembered). v.outstanding (slot_of x.kind x.core)) asked.values
        ∙ subst (λ s. (now m.firmware.board (remembers m.firmware) c a).outstanding s ≡ None) slot
        (ack_ends m.firmware.board (remembers m.firmware) c a x
        (ap (remembers m.firmware).outstanding slot ∙ out) end))
