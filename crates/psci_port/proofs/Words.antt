-- The words of std and of definitions that proofs here speak in.
pub use Rattle.std.specs.Prelude.{◌&&◌, ◌||◌, slice_get}
pub use Rattle.std.proofs.Common.{◌+◌, ◌<◌, ◌==◌, ◌∙◌, ◌∷◌, ◌≤◌, ◌⊎◌, ◌≡◌, [], ap, arith, Bool}
pub use Rattle.std.proofs.Common.{cond, false, inl, inr, length, List, None, not, Option, refl}
pub use Rattle.std.proofs.Common.{Some, subst, suc, sym, take, true, zero, ℕ}
pub use Rattle.std.proofs.lemmas.Bool.{and_from, cases_eq, cond-false, cond-true, eq-eqb, eqb-true}
pub use Rattle.std.proofs.lemmas.Bool.{false≢true, lt-ltb, ne_eqb}
pub use Rattle.std.proofs.lemmas.Bool.Decides.{nat_tests}
pub use Rattle.std.proofs.lemmas.Option.{none-some}
pub use Rattle.psci_board.specs.Board.{BoardValue, cores, height, is_on_path, IsBoard, up}
pub use Rattle.psci_board.proofs.Paths.{size_laws}
pub use Rattle.psci_ctl_spec.specs.History.{AreValues, IsCall, IsFront, IsSendable, MayFollow}
pub use Rattle.psci_ctl_spec.specs.History.{values_of}
pub use Rattle.psci_ctl_spec.specs.Replies.{ack_by, ack_of, Begins, change, Deepens, Effect, Ends}
pub use Rattle.psci_ctl_spec.specs.Replies.{is_this_life, kick_effect, last_start, message_effect}
pub use Rattle.psci_ctl_spec.specs.Replies.{Nothing, reset_of, Starts, wake_of}
pub use Rattle.psci_ctl_spec.specs.Values.{CtlExchange, first_depth, first_starts, laid}
pub use Rattle.psci_ctl_spec.specs.Values.{start_of_life, Values}
pub use Rattle.psci_ctl_spec.specs.declared.call.CtlCall.{CtlCall}
pub use Rattle.psci_ctl_spec.specs.declared.kick.Kick.{Kick}
pub use Rattle.psci_ctl_spec.specs.psci_messages.Message.{AckValue, MessageValue}
pub use Rattle.psci_ctl_spec.specs.psci_messages.Slots.{OfCore, slot_of}
pub use Rattle.psci_ctl_spec.specs.psci_messages.declared.kind.Kind.{Kind}
pub use Rattle.psci_ctl_spec.specs.psci_messages.declared.part.Part.{Part}
pub use Rattle.psci_ctl_spec.specs.psci_messages.declared.start.Cause.{Cause}
pub use Rattle.psci_ctl_spec.specs.psci_messages.declared.start.Start.{Start}
pub use Rattle.psci_ctl_spec.proofs.Depths.{take_get}
pub use Rattle.psci_world_spec.specs.Legal.{asked_firmware, controller_values, firmware_values}
pub use Rattle.psci_world_spec.specs.Legal.{indexed, IsLegalPast, said_by, said_of, sent_as}
pub use Rattle.psci_world_spec.specs.declared.event.Event.{Event}
pub use Rattle.psci_world_spec.specs.declared.event.Event.TheVariants.{Call, Deliver, Enter, Reset}
pub use Rattle.psci_world_spec.specs.declared.event.Event.TheVariants.{Take, Wake}
pub use Rattle.psci_world_spec.specs.declared.place.Place.TheVariants.{Running, Started, Stopped}
pub use Rattle.psci_world_spec.specs.declared.said.Record.{Record}
pub use Rattle.psci_world_spec.specs.declared.said.Said.{Said}
pub use Rattle.psci_world_spec.specs.declared.said.Said.TheVariants.{Fw}
pub use Rattle.psci_world_spec.specs.psci_fw_spec.Effects.{FwExchange}
pub use Rattle.psci_headline.specs.psci_fw_laws.Messages.{IsSound}
pub use Rattle.psci_headline.specs.psci_fw_spec.Changes.{in_life}
pub use Rattle.psci_headline.proofs.Controls.{AreApplied, IsKnown}
pub use Rattle.psci_headline.proofs.Nexts.{IsPast, SettleLaws}
pub use Rattle.psci_headline.proofs.Pursuing.{same_sum}
pub use Rattle.psci_headline.proofs.Sending.{at_number, sendable}
pub use Rattle.psci_headline.proofs.Serving.{numbered_new, numbered_old}
pub use Rattle.psci_headline.proofs.fw_spec.Stopping.{values_more}
pub use Rattle.psci_port.specs.Kept.{IsLocked, NoneCut, runs, TakesItsLast, WordsTell}
pub use Rattle.psci_port.specs.Port.{Act, Arms, begins, blank, Calls, cold, commanded, Cuts}
pub use Rattle.psci_port.specs.Port.{Delivers, ended, Enters, finished, Finishes, first_row}
pub use Rattle.psci_port.specs.Port.{going_on, gone_to, held_by, Locks, Opens, Port, Reboots}
pub use Rattle.psci_port.specs.Port.{Resets, Restarts, Rises, rising, Rouses, Row, row_by, Sleeps}
pub use Rattle.psci_port.specs.Port.{stage_at, Stands, stopping, Takes, TakesUp, taking_up, Turns}
pub use Rattle.psci_port.specs.Port.{Unlocks, Wakes, with_row, woken, words, Writes}
pub use Rattle.psci_port.specs.Resting.{core_left, has_lock, is_entering, is_shown, IsAtRest, IsDue}
pub use Rattle.psci_port.specs.Resting.{row_left}
pub use Rattle.psci_port.specs.Rules.{AreTrue, IsPortRun, May}
pub use Rattle.psci_port.specs.Stages.{Armed, AtDoor, Entering, has_stopped, is_inside, is_started}
pub use Rattle.psci_port.specs.Stages.{Leaving, may_hold, Normal, place_of, roused_at, Stage}
pub use Rattle.psci_port.specs.Stages.{stage_in, stage_said, Standing, Woken}
pub use Rattle.psci_port.specs.Waiting.{switches, waits}
