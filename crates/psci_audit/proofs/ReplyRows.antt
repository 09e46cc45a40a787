-- Worked examples: which replies are said of an event, and which are not; and whether an entry may
-- follow those that some records tell.
use Rattle.std.proofs.Common.{◌∷◌, [], arith, false, None, Option, pos, refl, Some}
use Rattle.std.proofs.Common.{true}
use Rattle.psci_world_spec.specs.psci_ctl_spec.declared.delivery.Delivery.TheVariants as deliveries
use Rattle.psci_world_spec.specs.psci_ctl_spec.declared.kick.Kick.TheVariants as kicks
use Rattle.psci_world_spec.specs.psci_ctl_spec.declared.reply.CtlReply.TheVariants as replied
use Rattle.psci_world_spec.specs.psci_fw_spec.declared.outcome.Act.TheVariants as acts
use Rattle.psci_world_spec.specs.psci_fw_spec.declared.reply.FwReply.{FwReply}
use Rattle.psci_world_spec.specs.psci_fw_spec.declared.reply.FwReply.TheVariants as replies
use Rattle.psci_world_spec.specs.psci_messages.declared.start.Cause.TheVariants as causes
use Rattle.psci_world_spec.specs.psci_messages.declared.taken.Taken.TheVariants as takens
use Rattle.psci_world_spec.specs.psci_messages.Message.{MessageValue}
use Rattle.psci_world_spec.specs.declared.event.Event.TheVariants.{Enter}
use Rattle.psci_world_spec.specs.declared.said.Said.{Said}
use Rattle.psci_world_spec.specs.declared.said.Said.TheVariants.{Absent, Acked, Fw, Ignored}
use Rattle.psci_world_spec.specs.declared.said.Said.TheVariants.{Kick, Taken}
use Rattle.psci_world_spec.proofs.Scripts.{board}
use Rattle.psci_world.specs.Settles.{WorldValue}
use Rattle.psci_audit.proofs.ListRows.{ack_3, boots, judging, start, start_3}
use Rattle.psci_audit.proofs.ListRows.{version}
use Rattle.psci_audit.specs.Told.{Follows, IsStep, SaysDelivery, SaysKick, SaysOutcome}
use Rattle.psci_audit.specs.Told.{SaysTaken}

-- Outcomes -------------------------------------------------------------------------------------

-- CPU_ON of core 3 succeeds, with its message
abbrev on_3 : Said
on_3 = Fw (acts.Return (record { 0 = pos 0 })) (Some (record { index = 4; message = start_3 }))

abbrev returns : Option MessageValue → FwReply
returns message =
    replies.Out (record { act = acts.Return (record { 0 = pos 0 }); message = message })

replies_said : SaysOutcome on_3 (returns (Some start_3))
    × SaysTaken (Taken takens.Old) (replies.Taken takens.Old)
    × SaysDelivery (Acked 4 ack_3) (replied.Delivery (deliveries.Applied ack_3))
    × SaysDelivery Ignored (replied.Delivery deliveries.Ignored)
    × SaysKick (Kick (start 2 causes.Reset)) (replied.Kick (kicks.Started (start 2 causes.Reset)))
replies_said = search arith

other_outcomes :
    ¬ (SaysOutcome on_3 (returns None))
    × ¬ (SaysOutcome on_3 (returns (Some (record start_3 { number = 1 }))))
other_outcomes = search arith

-- nothing is said of what does not happen
nothing_is_said : ¬ (SaysOutcome Ignored (returns None))
    × ¬ (SaysTaken Absent (replies.Taken takens.Old))
    × ¬ (SaysDelivery Absent (replied.Delivery deliveries.Ignored))
    × ¬ (SaysKick Absent (replied.Kick kicks.Ignored))
nothing_is_said = search arith

-- Acknowledgements and messages ----------------------------------------------------------------

refused_otherwise :
    ¬ (SaysTaken (Taken takens.Old) (replies.Taken takens.Used))
    × ¬ (SaysDelivery (Acked 4 ack_3) (replied.Delivery (deliveries.Applied (record ack_3 {
      applied
          = 0;
      stale = true;
    }))))
    × ¬ (SaysDelivery Ignored (replied.Delivery (deliveries.Applied ack_3)))
refused_otherwise = search arith

-- Starts ---------------------------------------------------------------------------------------

started_otherwise :
    ¬ (SaysKick (Kick (start 2 causes.Reset)) (replied.Kick (kicks.Started (start 3 causes.Reset))))
    × ¬ (SaysKick Ignored (replied.Kick (kicks.Started (start 3 causes.Reset))))
started_otherwise = search arith

-- One entry more -------------------------------------------------------------------------------

abbrev new : WorldValue
new = record { board = board; past = [] }

-- the boot core has entered, as one record tells
abbrev entered : WorldValue
entered = record {
  board = board;
  past = record { event = Enter 0; said = Fw (acts.Enter 0x40000000 0) None } ∷ [];
}

follow_or_not :
    -- the boot core enters, and may: it is told of a record, and not refused
    ¬ (Follows new new [] boots true)
    × ¬ (Follows new new [] boots false)
    × Follows new entered [] boots true
unfolding judging
follow_or_not = search arith

-- a core calls that has not entered, whatever is told of it
calls_first : (told : WorldValue) → Follows new told [] (version 0 65537) true → ⊥
unfolding judging
calls_first = search arith

-- no record tells no entry, and nothing else
first_step : IsStep new entered boots true
unfolding judging
first_step = search arith

-- after the record of its entry the boot core does not enter again
second_step : (told : WorldValue) → IsStep entered told boots true → ⊥
unfolding judging
second_step told is =
    let follows = is (boots ∷ []) ((start 1 causes.Boot, refl, refl), tt) in
    let e = follows.0.1 in cc
