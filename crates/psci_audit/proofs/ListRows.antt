-- Worked examples: a list that is legal, and for each way to be wrong one that is not.
use Rattle.std.proofs.Common.{◌∷◌, [], arith, false, List, negsuc, None, pos}
use Rattle.std.proofs.Common.{Some, ℕ}
use Rattle.psci_world_spec.specs.psci_ctl_spec.declared.call.CtlCall.TheVariants as asks
use Rattle.psci_world_spec.specs.psci_ctl_spec.declared.delivery.Delivery.TheVariants as deliveries
use Rattle.psci_world_spec.specs.psci_ctl_spec.declared.kick.Kick.TheVariants as kicks
use Rattle.psci_world_spec.specs.psci_ctl_spec.declared.reply.CtlReply.TheVariants as replied
use Rattle.psci_world_spec.specs.psci_fw_spec.declared.call.FwCall.TheVariants as calls
use Rattle.psci_world_spec.specs.psci_fw_spec.declared.fault.FwFault.TheVariants.{OldStart}
use Rattle.psci_world_spec.specs.psci_fw_spec.declared.outcome.Act.{Act}
use Rattle.psci_world_spec.specs.psci_fw_spec.declared.outcome.Act.TheVariants as acts
use Rattle.psci_world_spec.specs.psci_fw_spec.declared.reply.FwReply.{FwReply}
use Rattle.psci_world_spec.specs.psci_fw_spec.declared.reply.FwReply.TheVariants as replies
use Rattle.psci_world_spec.specs.psci_messages.declared.kind.Kind.TheVariants as kinds
use Rattle.psci_world_spec.specs.psci_messages.declared.start.Cause.{Cause}
use Rattle.psci_world_spec.specs.psci_messages.declared.start.Cause.TheVariants as causes
use Rattle.psci_world_spec.specs.psci_messages.declared.start.Start.{Start}
use Rattle.psci_world_spec.specs.psci_messages.declared.taken.Taken.TheVariants as takens
use Rattle.psci_world_spec.specs.psci_messages.Message.{AckValue, MessageValue}
use Rattle.psci_world_spec.proofs.Scripts.{board, computing}
use Rattle.psci_audit.specs.Entries.{acks, Asked, Controlled, controller_history, Entry}
use Rattle.psci_audit.specs.Entries.{firmware_history, IsLegal, MayFollow, place, sent}
use Rattle.psci_audit.specs.Told.{asked, controlled}

-- what an example unfolds to judge a list that is written out
unfoldable pub judging : Unit {0}
unfolding computing MayFollow firmware_history controller_history sent acks place
judging = tt

-- a start of this life: number, cause
abbrev pub start : ℕ → Cause → Start
start number cause = record { life = 1; number = number; cause = cause }

-- a core enters at an address, with a context id
abbrev pub enters : ℕ → Start → ℕ → ℕ → Entry
enters c s address context = Asked (asked c (calls.Enter s)
    (replies.Out (record { act = acts.Enter address context; message = None })))

-- the boot core enters
abbrev pub boots : Entry
boots = enters 0 (start 1 causes.Boot) 0x40000000 0

-- PSCI_VERSION of a core returns this
abbrev pub version : ℕ → ℕ → Entry
version c value =
    Asked (asked c (calls.Smc (record { x0 = 0x84000000; x1 = 0; x2 = 0; x3 = 0 }))
    (replies.Out (record { act = acts.Return (record { 0 = pos value }); message = None })))

-- the Start that asks core 3 on
abbrev pub start_3 : MessageValue
start_3 = record {
  kind = kinds.Start;
  core = record { number = 3 };
  life = 1;
  number = 0;
  parts = [];
}

-- the boot core asks core 3 on
abbrev pub on_3 : Entry
on_3 = Asked (asked 0
    (calls.Smc (record { x0 = 0xc4000003; x1 = 0x101; x2 = 0x40001000; x3 = 7 }))
    (replies.Out (record {
      act = acts.Return (record { 0 = pos 0 });
      message = Some start_3;
    })))

-- its acknowledgement
abbrev pub ack_3 : AckValue
ack_3 = record {
  kind = kinds.Start;
  core = record { number = 3 };
  life = 1;
  number = 0;
  applied = 1;
  stale = false;
}

abbrev pub delivers_3 : Entry
delivers_3 =
    Controlled (controlled (asks.Deliver start_3) (replied.Delivery (deliveries.Applied ack_3)))

abbrev pub takes_3 : Entry
takes_3 = Asked (asked 0 (calls.Take ack_3) (replies.Taken takens.Used))

-- a core that stopped in the start of this number is woken: ignored, or started
abbrev pub not_woken : ℕ → ℕ → Entry
not_woken c halted = Controlled (controlled (asks.Wake (record { number = c }) halted)
    (replied.Kick kicks.Ignored))

abbrev pub wakes : ℕ → ℕ → ℕ → Entry
wakes c halted number = Controlled (controlled (asks.Wake (record { number = c }) halted)
    (replied.Kick (kicks.Started (start number causes.Wake))))

abbrev pub resets : ℕ → ℕ → Entry
resets c number = Controlled (controlled (asks.Reset (record { number = c }))
    (replied.Kick (kicks.Started (start number causes.Reset))))

-- Legal lists ----------------------------------------------------------------------------------

legal_lists :
    -- nothing: so it is
    IsLegal board []
    -- one_entry: so it is
    × IsLegal board (boots ∷ [])
    -- asked_on: core 3 is asked on; the Start is delivered and acknowledged; core 3 enters at its
    -- entry point
    × IsLegal board (takes_3 ∷ delivers_3 ∷ on_3 ∷ boots ∷ [])
    -- entered_on: so it is
    × IsLegal board (enters 3 (start 1 causes.On) 0x40001000 7 ∷ delivers_3 ∷ on_3 ∷ boots ∷ [])
    -- woken: a stopped core is woken by its last start's number, which is 0 before any; one that
    -- runs is not woken, whatever number is named; any core is reset
    × IsLegal board (not_woken 0 7 ∷ wakes 1 0 1 ∷ boots ∷ [])
    -- was_reset: so it is
    × IsLegal board (resets 0 2 ∷ boots ∷ [])
unfolding judging
legal_lists = search arith

-- the address or the value of what a core does next
abbrev pub act_number : Act → ℕ
act_number (acts.Return code) = elim code.0 [ pos n ↦ n | negsuc n ↦ 0 ]
act_number (acts.Enter address context) = address
act_number act = 0

-- the same of a reply
abbrev pub number_in : FwReply → ℕ
number_in (replies.Out o) = act_number o.act
number_in reply = 0

-- Lists that are not ---------------------------------------------------------------------------

illegal_entries :
    -- wrong_reply: another reply
    (IsLegal board (enters 0 (start 1 causes.Boot) 0x40000004 0 ∷ []) → ⊥)
    -- wrong_value: so it is
    × (IsLegal board (version 0 1 ∷ boots ∷ []) → ⊥)
    -- not_running: so it is
    × (IsLegal board (version 1 65537 ∷ boots ∷ []) → ⊥)
    -- another_start: an entry by another start than the last one
    × (IsLegal board (enters 0 (start 2 causes.Reset) 0x40000000 0 ∷ []) → ⊥)
unfolding judging
illegal_entries = search arith

-- what is not legal either
abbrev Illegal : List Entry → Type 0
Illegal entries = IsLegal board entries → ⊥

illegal_lists :
    -- an entry twice
    Illegal (boots ∷ boots ∷ [])
    -- a call before the entry, and one of a core that does not run
    × Illegal (version 0 65537 ∷ [])
    -- a call after the core was reset, before it enters: the firmware does not know of that yet
    × Illegal (version 0 65537 ∷ resets 0 2 ∷ boots ∷ [])
    -- a refusal
    × Illegal (Asked (asked 1 (calls.Enter (start 1 causes.Boot)) (replies.Fault OldStart)) ∷ [])
    -- a message that is delivered before it was sent, an acknowledgement that is taken before it
    -- was made
    × Illegal (delivers_3 ∷ boots ∷ [])
    × Illegal (takes_3 ∷ on_3 ∷ boots ∷ [])
    -- a stopped core is woken by another number
    × Illegal (not_woken 1 7 ∷ boots ∷ [])
    -- a core that runs is woken
    × Illegal (wakes 0 1 2 ∷ boots ∷ [])
    -- a core that the board does not have
    × Illegal (resets 4 1 ∷ [])
unfolding judging
illegal_lists = search arith
