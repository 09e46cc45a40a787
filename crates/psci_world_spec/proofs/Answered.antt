-- In the histories of a legal past every reply is the one reply.
use Rattle.std.proofs.Common.{◌++◌, ◌∷◌, ◌≡◌, [], ap, arith, length, List, Option, option_map}
use Rattle.std.proofs.Common.{refl, Some, subst, sym, ℕ}
use Rattle.psci_fw_spec.specs.psci_abi.declared.registers.Regs.{Regs}
use Rattle.psci_fw_spec.specs.psci_board.Board.{BoardValue}
use Rattle.psci_ctl_spec.specs.declared.call.CtlCall.{CtlCall}
use Rattle.psci_ctl_spec.specs.declared.reply.CtlReply.{CtlReply}
use Rattle.psci_fw_spec.specs.psci_messages.declared.start.Start.{Start}
use Rattle.psci_ctl_spec.specs.Replies.{last_start, reply}
use Rattle.psci_fw_spec.specs.declared.call.FwCall.{FwCall}
use Rattle.psci_fw_spec.specs.declared.outcome.Outcome.{Outcome}
use Rattle.psci_fw_spec.specs.declared.reply.FwReply.{FwReply}
use Rattle.psci_fw_spec.specs.Answer.{answer}
use Rattle.psci_fw_spec.specs.Legal.{IsLegal}
use Rattle.psci_fw_spec.specs.psci_messages.Message.{AckValue, MessageValue}
use Rattle.psci_world_spec.specs.declared.event.Event.{Event}
use Rattle.psci_world_spec.specs.declared.event.Event.TheVariants.{Call, Deliver, Enter, Reset}
use Rattle.psci_world_spec.specs.declared.event.Event.TheVariants.{Take, Wake}
use Rattle.psci_world_spec.specs.declared.said.Record.{Record}
use Rattle.psci_world_spec.specs.declared.said.Said.{Said}
use Rattle.psci_world_spec.specs.Legal.{acks, call, control, controller_history}
use Rattle.psci_world_spec.specs.Legal.{controller_values, firmware_history, firmware_values}
use Rattle.psci_world_spec.specs.Legal.{indexed, IsLegalPast, IsReplied, legal, outcome_in}
use Rattle.psci_world_spec.specs.Legal.{said_by, said_of, sent, sent_as}
use Rattle.psci_ctl_spec.specs.declared.call.CtlCall.TheVariants as asked
use Rattle.psci_fw_spec.specs.declared.call.FwCall.TheVariants as calls

-- The firmware ---------------------------------------------------------------------------------

same_message : (n : ℕ) (m : Option MessageValue)
    → option_map (λ s. s.message) (sent_as n m) ≡ m
same_message n m = grind arith

-- an outcome is read from what was said of it
same_outcome : (n : ℕ) (o : Outcome) → outcome_in o.act (sent_as n o.message) ≡ o
same_outcome n o =
    ap (λ (m : Option MessageValue). record { act = o.act; message = m }) (same_message n o.message)

-- the history with what a record adds to it, whose event says this
abbrev WithCall : BoardValue → List Record → Event → Said → Type 0
WithCall b past event said =
    IsLegal b (call (controller_values b past) (acks past) event said ++ firmware_history b past)

-- the one reply to a call of the firmware, by the values so far
abbrev answer_to : BoardValue → List Record → ℕ → FwCall → FwReply
answer_to b past c asks = answer b (firmware_values b past) c asks

call_answered : (b : BoardValue) (past : List Record) (n c : ℕ) (regs : Regs) (r : FwReply)
    → r ≡ answer_to b past c (calls.Smc regs) → IsLegal b (firmware_history b past)
    → WithCall b past (Call c regs) (said_of n r)
call_answered b past n c regs r e h = grind (arith, same_outcome)

enter_answered : (b : BoardValue) (past : List Record) (n c : ℕ) (start : Start) (r : FwReply)
    → last_start (controller_values b past) c ≡ Some start
    → r ≡ answer_to b past c (calls.Enter start) → IsLegal b (firmware_history b past)
    → WithCall b past (Enter c) (said_of n r)
enter_answered b past n c start r last e h = grind (arith, same_outcome)

take_answered : (b : BoardValue) (past : List Record) (n k : ℕ) (a : AckValue) (r : FwReply)
    → indexed (acks past) k ≡ Some a → r ≡ answer_to b past 0 (calls.Take a)
    → IsLegal b (firmware_history b past) → WithCall b past (Take k) (said_of n r)
take_answered b past n k a r made e h = grind arith

call_legal : (b : BoardValue) (past : List Record) (event : Event)
    → IsLegal b (firmware_history b past) → WithCall b past event (legal b past event)
unfolding legal
call_legal b past (Call c regs) h =
    let n : ℕ = length (sent past) in
    grind (arith, call_answered b past n c regs (answer_to b past c (calls.Smc regs)) refl h)
call_legal b past (Enter c) h =
    let answered : (start : Start) → last_start (controller_values b past) c ≡ Some start
    → WithCall b past (Enter c)
    (said_of (length (sent past)) (answer_to b past c (calls.Enter start))) =
    λ start last. enter_answered b past _ c start _ last refl h in
    grind (arith, answered)
call_legal b past (Take k) h =
    let answered : (a : AckValue) → indexed (acks past) k ≡ Some a
    → WithCall b past (Take k) (said_of (length (sent past)) (answer_to b past 0 (calls.Take a))) =
    λ a made. take_answered b past _ k a _ made refl h in
    grind (arith, answered)
call_legal b past event h = h

pub firmware_legal : (b : BoardValue) (past : List Record) → IsLegalPast b past
    → IsLegal b (firmware_history b past)
unfolding firmware_history
firmware_legal b [] is = tt
firmware_legal b (r ∷ past) is =
    subst (λ (s : Said). WithCall b past r.event s) (sym is.0)
    (call_legal b past r.event (firmware_legal b past is.1))

-- The power controller -------------------------------------------------------------------------

-- the history with what a record adds to it, whose event says this
abbrev WithControl : BoardValue → List Record → Event → Said → Type 0
WithControl b past event said =
    IsReplied b (control (controller_values b past) (sent past) event said
    ++ controller_history b past)

-- the one reply to a call of the power controller, by the values so far
abbrev reply_to : BoardValue → List Record → CtlCall → CtlReply
reply_to b past asks = reply b (controller_values b past) asks

delivery_answered : (b : BoardValue) (past : List Record) (n k : ℕ) (m : MessageValue)
    (r : CtlReply) → indexed (sent past) k ≡ Some m → r ≡ reply_to b past (asked.Deliver m)
    → IsReplied b (controller_history b past) → WithControl b past (Deliver k) (said_by n r)
delivery_answered b past n k m r sends e h = grind arith

-- the call that a wake-up event makes, and the one that a reset makes
abbrev wakes : BoardValue → List Record → ℕ → CtlCall
wakes b past c = asked.Wake (record { number = c }) ((controller_values b past).starts c)

abbrev resets : ℕ → CtlCall
resets c = asked.Reset (record { number = c })

wake_answered : (b : BoardValue) (past : List Record) (n c : ℕ) (r : CtlReply)
    → r ≡ reply_to b past (wakes b past c) → IsReplied b (controller_history b past)
    → WithControl b past (Wake c) (said_by n r)
wake_answered b past n c r e h = grind arith

reset_answered : (b : BoardValue) (past : List Record) (n c : ℕ) (r : CtlReply)
    → r ≡ reply_to b past (resets c) → IsReplied b (controller_history b past)
    → WithControl b past (Reset c) (said_by n r)
reset_answered b past n c r e h = grind arith

control_legal : (b : BoardValue) (past : List Record) (event : Event)
    → IsReplied b (controller_history b past) → WithControl b past event (legal b past event)
unfolding legal
control_legal b past (Wake c) h =
    let n : ℕ = length (acks past) in
    grind (arith, wake_answered b past n c (reply_to b past (wakes b past c)) refl h)
control_legal b past (Reset c) h =
    let n : ℕ = length (acks past) in
    grind (arith, reset_answered b past n c (reply_to b past (resets c)) refl h)
control_legal b past (Deliver k) h =
    let answered : (m : MessageValue) → indexed (sent past) k ≡ Some m
    → WithControl b past (Deliver k)
    (said_by (length (acks past)) (reply_to b past (asked.Deliver m))) =
    λ m sends. delivery_answered b past _ k m _ sends refl h in
    grind (arith, answered)
control_legal b past event h = h

pub controller_answered : (b : BoardValue) (past : List Record) → IsLegalPast b past
    → IsReplied b (controller_history b past)
unfolding controller_history
controller_answered b [] is = tt
controller_answered b (r ∷ past) is =
    subst (λ (s : Said). WithControl b past r.event s) (sym is.0)
    (control_legal b past r.event (controller_answered b past is.1))
