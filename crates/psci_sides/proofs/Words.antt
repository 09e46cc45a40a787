-- The words of std and of definitions that proofs here speak in.
pub use Rattle.std.specs.Prelude.{◌&&◌, nat_lt, not, slice_get}
pub use Rattle.std.proofs.Common.{◌*◌, ◌++◌, ◌+◌, ◌<◌, ◌==◌, ◌∙◌, ◌∷◌, ◌≤◌, ◌⊎◌, ◌≡◌, [], ap, arith}
pub use Rattle.std.proofs.Common.{Bool, cond, false, get_or-set_other, inl, inr, length, List, None}
pub use Rattle.std.proofs.Common.{Option, refl, Some, subst, suc, sym, true, zero, ℕ}
pub use Rattle.std.proofs.lemmas.Bool.{and_from, cases_eq, cond-false, cond-true, eq-eqb, eqb-false}
pub use Rattle.std.proofs.lemmas.Bool.{eqb-true, false≢true, lt-ltb, ltb-true, ne_eqb}
pub use Rattle.std.proofs.lemmas.Bool.Decides.{nat_tests}
pub use Rattle.std.proofs.lemmas.Option.{none-some}
pub use Rattle.psci_abi.specs.Calls.{request_of}
pub use Rattle.psci_abi.specs.declared.registers.Regs.{Regs}
pub use Rattle.psci_board.specs.Board.{BoardValue, cores, is_on_path, IsBoard, up}
pub use Rattle.psci_board.specs.declared.draft.Core.{Core}
pub use Rattle.psci_messages.specs.Message.{AckValue, MessageValue}
pub use Rattle.psci_messages.specs.Slots.{answers, is_done, OfCore, OfSystem, Slot, slot_of}
pub use Rattle.psci_messages.specs.declared.kind.Kind.{Kind}
pub use Rattle.psci_messages.specs.declared.part.Part.{Part}
pub use Rattle.psci_messages.specs.declared.start.Cause.{Cause}
pub use Rattle.psci_messages.specs.declared.start.Start.{Start}
pub use Rattle.psci_ctl_spec.specs.History.{IsSendable, MayFollow}
pub use Rattle.psci_ctl_spec.specs.Replies.{ack_by, Begins, change, Deepens, Effect, Ends}
pub use Rattle.psci_ctl_spec.specs.Replies.{is_this_life, last_start, may_follow, Nothing, reply}
pub use Rattle.psci_ctl_spec.specs.Replies.{Starts}
pub use Rattle.psci_ctl_spec.specs.Values.{Values}
pub use Rattle.psci_ctl_spec.specs.declared.call.CtlCall.{CtlCall}
pub use Rattle.psci_ctl_spec.specs.declared.reply.CtlReply.{CtlReply}
pub use Rattle.psci_fw_spec.specs.Effects.{listed}
pub use Rattle.psci_fw_spec.specs.Values.{Values as Remembered}
pub use Rattle.psci_fw_spec.specs.declared.call.FwCall.{FwCall}
pub use Rattle.psci_fw_spec.specs.declared.reply.FwReply.{FwReply}
pub use Rattle.psci_world_spec.specs.Legal.{firmware_values, indexed, said_by, said_of, sent_in}
pub use Rattle.psci_world_spec.specs.declared.event.Event.{Event}
pub use Rattle.psci_world_spec.specs.declared.said.Record.{Record}
pub use Rattle.psci_headline.specs.Settling.{is_halting}
pub use Rattle.psci_port.specs.Port.{Act, Arms, Delivers, Enters, Finishes, lock_by, Locks, moved}
pub use Rattle.psci_port.specs.Port.{Opens, Port, Restarts, Row, row_by, Sleeps, stage_at, Stands}
pub use Rattle.psci_port.specs.Port.{TakesUp, told, Turns, Unlocks, words, Writes}
pub use Rattle.psci_port.specs.Resting.{core_left, has_lock, IsDue, left}
pub use Rattle.psci_port.specs.Served.{AreHeard, IsSpent}
pub use Rattle.psci_port.specs.Stages.{has_stopped, is_armed, is_started, looks, Stage}
pub use Rattle.psci_port.specs.Undone.{IsListed, LeavesLess, left_of}
pub use Rattle.psci_port.specs.Waiting.{waits}
pub use Rattle.psci_port.proofs.Running.{Fits as FitsCall, IsKept, run_kept}
pub use Rattle.psci_port.proofs.Truth.{IsMirror, same_le, total_le}
pub use Rattle.psci_port.proofs.Power.{moves_left, touches_core}
pub use Rattle.psci_port.proofs.Rows.{starts_core}
pub use Rattle.psci_port.proofs.Undone.{ends_other, served_other}
pub use Rattle.psci_fw.specs.Reactions.{FirmwareValue, seen as remembers}
pub use Rattle.psci_control.specs.ControlSide.{closed, ControlValue, gate_in, gates_after, heard}
pub use Rattle.psci_control.specs.ControlSide.{IsControlSide, ordered, orders_in, served, telling}
pub use Rattle.psci_control.specs.ControlSide.{values_of, waits_in, with_gate}
pub use Rattle.psci_control.specs.Orders.{ack_in, ending_of, orders_of}
pub use Rattle.psci_control.specs.declared.door.DoorOrder.{DoorOrder}
pub use Rattle.psci_control.specs.declared.gate.Gate.{Gate}
pub use Rattle.psci_control.specs.declared.order.Order.{Order}
pub use Rattle.psci_control.proofs.Commanded.{apart_side}
pub use Rattle.psci_enter.specs.Again.{outstanding_in}
pub use Rattle.psci_enter.specs.Orders.{is_suspending}
pub use Rattle.psci_enter.specs.Side.{at, IsAsked, looked, may_look, replied, reply_in}
pub use Rattle.psci_enter.specs.SideOf.{core_of, Fits, is_end, IsFirmwareOf, IsSideOf}
pub use Rattle.psci_enter.specs.declared.post.Door.{Door}
pub use Rattle.psci_enter.specs.declared.post.Post.{Post}
pub use Rattle.psci_enter.specs.declared.post.Post.TheVariants.{Armed, Entering, Running, Waiting}
pub use Rattle.psci_enter.specs.declared.side.FirmwareSide.{FirmwareSide}
pub use Rattle.psci_enter.proofs.Keeping.{quiet_firmware, row_same, takes_up}
pub use Rattle.psci_sides.specs.Frames.{IsEnding, IsLost, IsOut, IsUnderWay, IsWanted}
pub use Rattle.psci_sides.specs.Kept.{Agree, executes, hearing, IsSound, NoneToServe, TakesItsLast}
pub use Rattle.psci_sides.specs.Machine.{answered, cold, commanded, door_by, has_stood, IsIn}
pub use Rattle.psci_sides.specs.Machine.{Machine, orders_by, side_by, side_of, starts_in, Station}
pub use Rattle.psci_sides.specs.Machine.{with_core}
pub use Rattle.psci_sides.specs.Resting.{Goes, is_entering, IsAtRest}
pub use Rattle.psci_sides.specs.Seen.{IsCoreOf, IsEventOf, IsLent, IsMachineOf, WasSent}
pub use Rattle.psci_sides.specs.Steps.{ArmCore, BeginCall, BeginEntry, DeliverKept, DeliverMail}
pub use Rattle.psci_sides.specs.Steps.{due_at, EndCall, found_in, GiveLock, Hear, Holds, IsCold}
pub use Rattle.psci_sides.specs.Steps.{IsMadeAnew, IsRun, keeping, LookAtDoor, May, may_hold}
pub use Rattle.psci_sides.specs.Steps.{ResetCore, RiseCore, RouseCore, SendAgain, ServeDoor}
pub use Rattle.psci_sides.specs.Steps.{SleepCore, Stand, Step, TakeAck, TakeLock, TurnCore, wake_of}
pub use Rattle.psci_sides.specs.Steps.{WakeUp}
