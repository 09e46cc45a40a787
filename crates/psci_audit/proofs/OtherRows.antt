-- Worked examples: lists in which another core than the boot core calls, with later starts, later
-- messages and a second life; and for each way to be wrong there one that is not legal.
use Rattle.std.proofs.Common.{◌∷◌, [], arith, false, List, Some, true, ℕ}
use Rattle.psci_world_spec.specs.psci_messages.declared.part.Part.{Part}
use Rattle.psci_world_spec.specs.psci_ctl_spec.declared.call.CtlCall.TheVariants as asks
use Rattle.psci_world_spec.specs.psci_ctl_spec.declared.delivery.Delivery.TheVariants as deliveries
use Rattle.psci_world_spec.specs.psci_ctl_spec.declared.reply.CtlReply.TheVariants as replied
use Rattle.psci_world_spec.specs.psci_fw_spec.declared.call.FwCall.TheVariants as calls
use Rattle.psci_world_spec.specs.psci_fw_spec.declared.outcome.Act.TheVariants as acts
use Rattle.psci_world_spec.specs.psci_fw_spec.declared.reply.FwReply.TheVariants as replies
use Rattle.psci_world_spec.specs.psci_messages.declared.kind.Kind.{Kind}
use Rattle.psci_world_spec.specs.psci_messages.declared.kind.Kind.TheVariants as kinds
use Rattle.psci_world_spec.specs.psci_messages.declared.start.Cause.TheVariants as causes
use Rattle.psci_world_spec.specs.psci_messages.declared.taken.Taken.TheVariants as takens
use Rattle.psci_world_spec.specs.psci_messages.Message.{AckValue, MessageValue}
use Rattle.psci_world_spec.proofs.Scripts.{board, part}
use Rattle.psci_audit.specs.Entries.{Asked, Controlled, Entry, IsLegal}
use Rattle.psci_audit.specs.Told.{asked, controlled}
use Rattle.psci_audit.proofs.ListRows.{ack_3, boots, delivers_3, enters, judging}
use Rattle.psci_audit.proofs.ListRows.{on_3, resets, start, start_3, takes_3}
use Rattle.psci_audit.proofs.ListRows.{version, wakes}

-- a core calls the function of this word, stops, and sends a message
abbrev stops : ℕ → ℕ → MessageValue → Entry
stops c word m = Asked (asked c (calls.Smc (record { x0 = word; x1 = 0; x2 = 0; x3 = 0 }))
    (replies.Out (record { act = acts.Stop; message = Some m })))

-- a message of the first life in a core's first start, and its acknowledgement
abbrev message : Kind → ℕ → List Part → MessageValue
message kind c parts = record {
  kind = kind;
  core = record { number = c };
  life = 1;
  number = 1;
  parts = parts;
}

abbrev ack : Kind → ℕ → ℕ → AckValue
ack kind c applied = record {
  kind = kind;
  core = record { number = c };
  life = 1;
  number = 1;
  applied = applied;
  stale = false;
}

abbrev delivers : MessageValue → AckValue → Entry
delivers m a = Controlled (controlled (asks.Deliver m) (replied.Delivery (deliveries.Applied a)))

abbrev takes : AckValue → Entry
takes a = Asked (asked 0 (calls.Take a) (replies.Taken takens.Used))

abbrev Illegal : List Entry → Type 0
Illegal entries = IsLegal board entries → ⊥

-- Core 3 ---------------------------------------------------------------------------------------

abbrev on : List Entry
on = enters 3 (start 1 causes.On) 0x40001000 7 ∷ delivers_3 ∷ on_3 ∷ boots ∷ []

-- it calls CPU_OFF
abbrev down_3 : MessageValue
down_3 = message kinds.Down 3 (part 0 3 1 ∷ part 1 3 1 ∷ [])

-- Acknowledgements -----------------------------------------------------------------------------

-- it comes once core 3 has entered, and is old; until then it is used
abbrev takes_old : Entry
takes_old = Asked (asked 0 (calls.Take ack_3) (replies.Taken takens.Old))

illegal_acknowledgements :
    Illegal (takes_old ∷ delivers_3 ∷ on_3 ∷ boots ∷ [])
    -- an acknowledgement stands under no core but core 0
    × Illegal (Asked (asked 3 (calls.Take ack_3) (replies.Taken takens.Used)) ∷ delivers_3 ∷ on_3
    ∷ boots ∷ [])
unfolding judging
illegal_acknowledgements = search arith

-- the Start comes twice: the second time it is stale
abbrev stale_3 : AckValue
stale_3 = record ack_3 { applied = 0; stale = true }

-- Starts ---------------------------------------------------------------------------------------

-- the boot core is reset and enters by its second start: it has no opening, and parks
abbrev down_0 : MessageValue
down_0 = record (message kinds.Down 0 (part 0 3 2 ∷ part 1 3 2 ∷ part 2 3 2 ∷ [])) { number = 2 }

abbrev parks : Entry
parks = Asked (asked 0 (calls.Enter (start 2 causes.Reset))
    (replies.Out (record { act = acts.Stop; message = Some down_0 })))

illegal_later :
    -- calls_late: so it is
    (IsLegal board (version 3 65537 ∷ stops 3 0x84000002 down_3 ∷ on) → ⊥)
    -- another_ack: so it is
    × (IsLegal board (delivers start_3 stale_3 ∷ on_3 ∷ boots ∷ []) → ⊥)
    -- woken_by_the_first: so it is
    × (IsLegal board (wakes 0 1 3 ∷ parks ∷ resets 0 2 ∷ boots ∷ []) → ⊥)
    -- reset_by_another: so it is
    × (IsLegal board (resets 0 3 ∷ boots ∷ []) → ⊥)
unfolding judging
illegal_later = search arith

illegal_starts :
    Illegal (wakes 1 0 2 ∷ boots ∷ [])
    -- a core that was started and has not entered is woken
    × Illegal (wakes 0 1 2 ∷ [])
unfolding judging
illegal_starts = search arith

-- No core of the board -------------------------------------------------------------------------

no_core_of_the_board :
    Illegal (wakes 4 0 1 ∷ [])
    × Illegal (version 4 65537 ∷ boots ∷ [])
    × Illegal (enters 4 (start 1 causes.Boot) 0x40000000 0 ∷ [])
unfolding judging
no_core_of_the_board = search arith

-- The next life --------------------------------------------------------------------------------

abbrev reset_0 : MessageValue
reset_0 = message kinds.Reset 0 []

legal_later :
    -- goes_off: so it is
    IsLegal board (stops 3 0x84000002 down_3 ∷ on)
    -- gone: that is carried out; and PSCI_VERSION comes too late
    × IsLegal board (takes (ack kinds.Down 3 2) ∷ delivers down_3 (ack kinds.Down 3 2) ∷ stops 3
    0x84000002 down_3 ∷ on)
    -- others_run: the boot core still runs
    × IsLegal board (version 0 65537 ∷ stops 3 0x84000002 down_3 ∷ on)
    -- taken_late: so it is
    × IsLegal board (takes_old ∷ on)
    -- delivered_again: so it is
    × IsLegal board (delivers start_3 stale_3 ∷ takes_3 ∷ delivers_3 ∷ on_3 ∷ boots ∷ [])
    -- parked: so it is
    × IsLegal board (parks ∷ resets 0 2 ∷ boots ∷ [])
    -- woken_again: then it is woken by that start's number, and not by the first one's
    × IsLegal board (wakes 0 2 3 ∷ parks ∷ resets 0 2 ∷ boots ∷ [])
    -- next_life: the Start of the first life is ignored; the boot core enters by the first start of
    -- the second
    × IsLegal board (enters 0 (record (start 1 causes.Boot) { life = 2 }) 0x40000000 0 ∷ Controlled
    (controlled (asks.Deliver start_3) (replied.Delivery deliveries.Ignored)) ∷ delivers reset_0
    (ack kinds.Reset 0 1) ∷ stops 0 0x84000009 reset_0 ∷ on_3 ∷ boots ∷ [])
unfolding judging
legal_later = search arith
