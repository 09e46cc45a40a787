-- Worked examples: which lists the records of a run tell, and which they do not.
use Rattle.std.proofs.Common.{◌∷◌, [], arith, None, pos, Some, true, ℕ}
use Rattle.psci_world_spec.specs.psci_ctl_spec.declared.call.CtlCall.TheVariants as asks
use Rattle.psci_world_spec.specs.psci_ctl_spec.declared.delivery.Delivery.TheVariants as deliveries
use Rattle.psci_world_spec.specs.psci_ctl_spec.declared.reply.CtlReply.TheVariants as replied
use Rattle.psci_world_spec.specs.psci_fw_spec.declared.call.FwCall.TheVariants as calls
use Rattle.psci_world_spec.specs.psci_fw_spec.declared.outcome.Act.TheVariants as acts
use Rattle.psci_world_spec.specs.psci_fw_spec.declared.reply.FwReply.TheVariants as replies
use Rattle.psci_world_spec.specs.psci_messages.declared.start.Cause.TheVariants as causes
use Rattle.psci_world_spec.specs.psci_messages.declared.taken.Taken.TheVariants as takens
use Rattle.psci_world_spec.specs.psci_messages.Message.{AckValue}
use Rattle.psci_world_spec.specs.declared.event.Event.TheVariants.{Call, Deliver, Enter, Reset}
use Rattle.psci_world_spec.specs.declared.event.Event.TheVariants.{Take, Wake}
use Rattle.psci_world_spec.specs.declared.said.Record.{Record}
use Rattle.psci_world_spec.specs.declared.said.Said.TheVariants.{Absent, Acked, Fw, Ignored}
use Rattle.psci_world_spec.specs.declared.said.Said.TheVariants.{Kick, Taken}
use Rattle.psci_world_spec.proofs.Scripts.{board, computing}
use Rattle.psci_audit.specs.Entries.{Entry, Asked, Controlled}
use Rattle.psci_audit.specs.Told.{Tells, asked, controlled}
use Rattle.psci_audit.proofs.ListRows.{ack_3, boots, delivers_3, enters, not_woken}
use Rattle.psci_audit.proofs.ListRows.{on_3, resets, start, start_3}
use Rattle.psci_audit.proofs.ListRows.{takes_3, version, wakes}

-- the boot core enters
abbrev entered : Record
entered = record { event = Enter 0; said = Fw (acts.Enter 0x40000000 0) None }

-- it asks core 3 on; the Start is delivered, and its acknowledgement taken
abbrev asked_3 : Record
asked_3 = record {
  event = Call 0 (record { x0 = 0xc4000003; x1 = 0x101; x2 = 0x40001000; x3 = 7 });
  said = Fw (acts.Return (record { 0 = pos 0 }))
      (Some (record { index = 0; message = start_3 }));
}

abbrev delivered_3 : ℕ → Record
delivered_3 k = record { event = Deliver k; said = Acked 0 ack_3 }

abbrev taken_3 : ℕ → Record
taken_3 k = record { event = Take k; said = Taken takens.Used }

-- Told -----------------------------------------------------------------------------------------

-- the Start is delivered again, and the second acknowledgement taken
abbrev stale_3 : AckValue
stale_3 = record ack_3 { applied = 0; stale = true }

-- a message that is ignored
abbrev ignored_3 : Record
ignored_3 = record { event = Deliver 0; said = Ignored }

abbrev not_delivered : Entry
not_delivered = Controlled (controlled (asks.Deliver start_3) (replied.Delivery deliveries.Ignored))

told :
    Tells board [] []
    -- one entry for each record, in order: by the core's last start, by the numbers of the message
    -- and of the acknowledgement
    × Tells board (taken_3 0 ∷ delivered_3 0 ∷ asked_3 ∷ entered ∷ []) (takes_3 ∷ delivers_3 ∷ on_3
    ∷ boots ∷ [])
    -- a wake-up that starts a core names its last start; one of a core that runs may name any
    × Tells board (record { event = Wake 1; said = Kick (start 1 causes.Wake) } ∷ []) (wakes 1 0 1 ∷
    [])
    × Tells board (record { event = Wake 0; said = Ignored } ∷ entered ∷ []) (not_woken 0 7 ∷ boots
    ∷ [])
    × Tells board (record { event = Reset 2; said = Kick (start 1 causes.Reset) } ∷ []) (resets 2 1
    ∷ [])
    -- core 3 enters by its own start, and calls
    × Tells board (record { event = Enter 3; said = Fw (acts.Enter 0x40001000 7) None } ∷
    delivered_3 0 ∷ asked_3 ∷ entered ∷ []) (enters 3 (start 1 causes.On) 0x40001000 7 ∷ delivers_3
    ∷ on_3 ∷ boots ∷ [])
    × Tells board (record {
      event = Call 3 (record { x0 = 0x84000000; x1 = 0; x2 = 0; x3 = 0 });
      said = Fw (acts.Return (record { 0 = pos 65537 })) None;
    } ∷ []) (version 3 65537 ∷ [])
    × Tells board (taken_3 1 ∷ record { event = Deliver 0; said = Acked 1 stale_3 } ∷ delivered_3 0
    ∷ asked_3 ∷ entered ∷ []) (Asked (asked 0 (calls.Take stale_3) (replies.Taken takens.Used)) ∷
    Controlled (controlled (asks.Deliver start_3) (replied.Delivery (deliveries.Applied stale_3))) ∷
    delivers_3 ∷ on_3 ∷ boots ∷ [])
    × Tells board (ignored_3 ∷ asked_3 ∷ entered ∷ []) (not_delivered ∷ on_3 ∷ boots ∷ [])
    -- a core that is woken again names its first start
    × Tells board (record { event = Wake 1; said = Kick (start 2 causes.Wake) } ∷ record {
      event =
          Wake 1;
      said = Kick (start 1 causes.Wake);
    } ∷ []) (wakes 1 1 2 ∷ wakes 1 0 1 ∷ [])
unfolding computing
told = search arith

-- Not told -------------------------------------------------------------------------------------

refused :
    -- an entry without a record, a record without an entry
    ¬ (Tells board [] (boots ∷ []))
    × ¬ (Tells board (entered ∷ entered ∷ []) (boots ∷ []))
    -- what the world does not carry out is no entry
    × ¬ (Tells board (record { event = Enter 0; said = Ignored } ∷ []) (boots ∷ []))
    × ¬ (Tells board (record { event = Reset 9; said = Absent } ∷ []) (resets 9 1 ∷ []))
refused = search arith

-- another start than the core's last
other_start : Tells board (entered ∷ [])
    (enters 0 (start 2 causes.Boot) 0x40000000 0 ∷ []) → ⊥
unfolding computing
other_start = search arith

told_otherwise :
    -- the message of another number
    ¬ (Tells board (delivered_3 1 ∷ asked_3 ∷ entered ∷ []) (delivers_3 ∷ on_3 ∷ boots ∷ []))
    -- another call
    × ¬ (Tells board (asked_3 ∷ entered ∷ []) (version 0 65537 ∷ boots ∷ []))
    -- a message that is ignored, told as one that is carried out
    × ¬ (Tells board (ignored_3 ∷ asked_3 ∷ entered ∷ []) (delivers_3 ∷ on_3 ∷ boots ∷ []))
    -- a wake-up of a stopped core that is ignored, by another number than its last start's
    × ¬ (Tells board (record { event = Wake 1; said = Ignored } ∷ []) (not_woken 1 7 ∷ []))
    -- a reset of another core, and one that is ignored, told as a start
    × ¬ (Tells board (record { event = Reset 2; said = Kick (start 1 causes.Reset) } ∷ [])
    (resets 3 1 ∷ []))
    × ¬ (Tells board (record { event = Reset 2; said = Ignored } ∷ []) (resets 2 1 ∷ []))
unfolding computing
told_otherwise = search arith
