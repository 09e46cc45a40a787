-- The words of std and of definitions that proofs here speak in.
pub use Rattle.std.proofs.Common.{◌&&◌, ◌++◌, ◌+◌, ◌-◌, ◌<◌, ◌==◌, ◌||◌, ◌↔◌, ◌∙◌, ◌∷◌, ◌≡◌, ◌≤◌}
pub use Rattle.std.proofs.Common.{◌⊎◌, [], ap, arith, Bool, cond, false, filter, inl, inr, is_some}
pub use Rattle.std.proofs.Common.{length, List, None, not, Option, option_map, pos, refl, reverse}
pub use Rattle.std.proofs.Common.{Some, subst, suc, sym, take, true, unwrap_or, zero, ℕ}
pub use Rattle.std.proofs.lemmas.Bool.{and_from, and_parts, and_right, cases_Bool, cases_eq}
pub use Rattle.std.proofs.lemmas.Bool.{cases_lt, cond-false, cond-true, cond_both, eq-eqb}
pub use Rattle.std.proofs.lemmas.Bool.{eqb-false, eqb-true, false_from_ne_true, false≢true, le-leb}
pub use Rattle.std.proofs.lemmas.Bool.{leb-true, lt-ltb, ltb-true, ne_eqb, not_from_false, or_cases}
pub use Rattle.std.proofs.lemmas.Bool.{or_left, or_parts, or_right, true≢false}
pub use Rattle.std.proofs.lemmas.Bool.Decides.{nat_tests}
pub use Rattle.std.proofs.lemmas.List.{get_or-reverse, length-reverse}
pub use Rattle.std.proofs.lemmas.Option.{get_or_from_slice_get, none-some, same_Some}
pub use Rattle.std.proofs.lemmas.Option.{slice_get_within}
pub use Rattle.std.specs.List.{list_all, list_any, range_with_len}
pub use Rattle.std.specs.Ordering.{int_eq}
pub use Rattle.std.specs.Prelude.{nat_le, nat_lt, slice_get}
pub use Rattle.psci_board.specs.Board.{below, BoardValue, ChildLaws, cores, domain_of, has_node}
pub use Rattle.psci_board.specs.Board.{HasNode, height, is_on_path, is_path_place, nodes, PathLaws}
pub use Rattle.psci_board.specs.Board.{up}
pub use Rattle.psci_board.specs.declared.draft.Node.{Node}
pub use Rattle.psci_ctl_spec.proofs.Depths.{get_take, take_get}
pub use Rattle.psci_ctl_spec.proofs.Steps.{values_more}
pub use Rattle.psci_ctl_spec.specs.Replies.{ack_by, ack_of, Deepens, last_start, may_follow}
pub use Rattle.psci_ctl_spec.specs.Replies.{message_effect, one_more, Starts}
pub use Rattle.psci_ctl_spec.specs.History.{AckLaws, IsApplied, IsFirst, IsFront, MayFollow}
pub use Rattle.psci_ctl_spec.specs.History.{SumLaws}
pub use Rattle.psci_ctl_spec.specs.Values.{applied, first_depth, first_starts, is_applied, is_stale}
pub use Rattle.psci_ctl_spec.specs.Values.{laid, starts_below}
pub use Rattle.psci_ctl_spec.specs.psci_messages.Message.{AckValue, AreClaims, ArePartsOf}
pub use Rattle.psci_ctl_spec.specs.psci_messages.Message.{MessageValue, PartByPart}
pub use Rattle.psci_ctl_spec.specs.psci_messages.Slots.{Acknowledge, answers, changed, Clear}
pub use Rattle.psci_ctl_spec.specs.psci_messages.Slots.{is_done, is_kind, OfCore, OfSystem, Put}
pub use Rattle.psci_ctl_spec.specs.psci_messages.Slots.{Slot, slot_of}
pub use Rattle.psci_ctl_spec.specs.psci_messages.declared.kind.Kind.{Kind}
pub use Rattle.psci_ctl_spec.specs.psci_messages.declared.kind.Kind.TheVariants.{Down}
pub use Rattle.psci_ctl_spec.specs.psci_messages.declared.part.Part.{Part}
pub use Rattle.psci_ctl_spec.specs.psci_messages.declared.start.Cause.{Cause}
pub use Rattle.psci_ctl_spec.specs.psci_messages.declared.start.Start.{Start}
pub use Rattle.psci_ctl_spec.specs.psci_messages.declared.taken.Taken.{Taken}
pub use Rattle.psci_fw_laws.proofs.Following.{found_life}
pub use Rattle.psci_fw_laws.proofs.Claiming.{part_from, updated_at, updated_here}
pub use Rattle.psci_fw_laws.proofs.fw_spec.Endings.{function_ends, outcome_ends}
pub use Rattle.psci_fw_laws.specs.Renumbered.{IsAllowed, IsAwaited, IsEntering}
pub use Rattle.psci_fw_laws.specs.Messages.{AreRising, part_for}
pub use Rattle.psci_fw_laws.specs.psci_fw_spec.Effects.{Acknowledges, Arrival, arrived, AsksOn}
pub use Rattle.psci_fw_laws.specs.psci_fw_spec.Effects.{change, Effect, effect, effect_of}
pub use Rattle.psci_fw_laws.specs.psci_fw_spec.Effects.{enter_effect, Enters, function_effect}
pub use Rattle.psci_fw_laws.specs.psci_fw_spec.Effects.{FwExchange, GoesOn, listed, Nothing, Parks}
pub use Rattle.psci_fw_laws.specs.psci_fw_spec.Effects.{Rests, sent_messages, StopsAtOnce}
pub use Rattle.psci_fw_laws.specs.psci_fw_spec.Answer.{call_fault, enter_fault, outcome_of}
pub use Rattle.psci_fw_laws.specs.psci_fw_spec.Answer.{reply_or}
pub use Rattle.psci_fw_laws.specs.psci_fw_spec.Changes.{confirms_on, PowerOn, start_of_life, target}
pub use Rattle.psci_fw_laws.specs.psci_fw_spec.History.{values_of}
pub use Rattle.psci_fw_laws.specs.psci_fw_spec.Invariant.{AreValues}
pub use Rattle.psci_fw_laws.specs.psci_fw_spec.Legal.{IsLegal}
pub use Rattle.psci_fw_laws.specs.psci_fw_spec.NodeHwState.{hw_at, node_hw}
pub use Rattle.psci_fw_laws.specs.psci_fw_spec.PowerCalls.{executes_on}
pub use Rattle.psci_fw_laws.specs.psci_fw_spec.Values.{updated, Values}
pub use Rattle.psci_fw_laws.specs.psci_fw_spec.declared.call.FwCall.{FwCall}
pub use Rattle.psci_fw_laws.specs.psci_fw_spec.declared.call.FwCall.TheVariants.{Smc}
pub use Rattle.psci_fw_laws.specs.psci_fw_spec.declared.fault.FwFault.{FwFault}
pub use Rattle.psci_fw_laws.specs.psci_fw_spec.declared.hw.Hw.{Hw}
pub use Rattle.psci_fw_laws.specs.psci_fw_spec.declared.hw.Hw.TheVariants.{On}
pub use Rattle.psci_fw_laws.specs.psci_fw_spec.declared.opening.Opening.{Opening}
pub use Rattle.psci_fw_laws.specs.psci_fw_spec.declared.outcome.Act.{Act}
pub use Rattle.psci_fw_laws.specs.psci_fw_spec.declared.outcome.Outcome.{Outcome}
pub use Rattle.psci_fw_laws.specs.psci_fw_spec.declared.reply.FwReply.{FwReply}
pub use Rattle.psci_fw_laws.specs.psci_fw_spec.declared.status.Status.{Status}
pub use Rattle.psci_headline.specs.Laws.{Agree, AgreeIn, AllOff, HasLive, NoneExecutes, NoneRefused}
pub use Rattle.psci_headline.specs.Laws.{WasMade}
pub use Rattle.psci_headline.specs.Safe.{AlwaysSafe, AreTakenUp, Claim, claim_by, depth_at}
pub use Rattle.psci_headline.specs.Safe.{EnteredAt, enters_or_resumes, enters_or_resumes_by}
pub use Rattle.psci_headline.specs.Safe.{executes, Fits, is_in_state, is_reported_off, Made}
pub use Rattle.psci_headline.specs.Safe.{made_at, NoDeeperThanAsked, NoneBelowSleeping, OfCall}
pub use Rattle.psci_headline.specs.Safe.{OffIsDown, OfLife, Safe, StatesWereReal, TakenUp}
pub use Rattle.psci_headline.specs.Safe.{was_in_state, was_powered_down}
pub use Rattle.psci_headline.specs.Complete.{AreConfirming, Confirming, IsConfirmedOr, IsOffOr}
pub use Rattle.psci_headline.specs.Complete.{IsOutstanding, IsToldWhole, IsYetToCome}
pub use Rattle.psci_headline.specs.Settling.{AreAtRest, AreWaiting, AwaitsStart, deliveries}
pub use Rattle.psci_headline.specs.Settling.{each_core, entering, index_of, is_any, is_halting}
pub use Rattle.psci_headline.specs.Settling.{is_settling, is_started, IsLivePart, IsNamed}
pub use Rattle.psci_headline.specs.Settling.{IsSettled, IsTold, Reached, served, serving, step}
pub use Rattle.psci_headline.specs.Settling.{Waiting, WaitingIn, WasTold}
pub use Rattle.psci_headline.specs.PoweredDown.{AreDown}
pub use Rattle.psci_headline.specs.Test.{executes_outside, is_always_safe, is_asked, is_each_once}
pub use Rattle.psci_headline.specs.Test.{is_each_open, is_each_real, is_off_down, is_off_stopped}
pub use Rattle.psci_headline.specs.Test.{is_one, is_powered, is_safe}
pub use Rattle.psci_headline.specs.psci_ctl_spec.Values.{CtlExchange}
pub use Rattle.psci_headline.specs.psci_fw_laws.Messages.{AreLive, AreOutstanding, AreSent}
pub use Rattle.psci_headline.specs.psci_fw_laws.Messages.{HasDeeper, Holds, is_system, IsClaimOn}
pub use Rattle.psci_headline.specs.psci_fw_laws.Messages.{IsCurrent, IsFromStart, known_below}
pub use Rattle.psci_headline.specs.psci_fw_laws.Messages.{known_on, KnownLaws, NonePending}
pub use Rattle.psci_headline.specs.psci_fw_spec.Changes.{in_life, Rest, with_acknowledgement}
pub use Rattle.psci_headline.specs.psci_fw_spec.Changes.{with_arrival, with_pending, with_phase}
pub use Rattle.psci_headline.specs.psci_fw_spec.Changes.{with_rest}
pub use Rattle.psci_headline.specs.psci_fw_spec.Effects.{Halts, SetsMode, Stops}
pub use Rattle.psci_headline.specs.psci_fw_spec.NodeHwState.{hw_code}
pub use Rattle.psci_headline.specs.psci_fw_spec.Phases.{Away, is_away, Pending, Phase}
pub use Rattle.psci_headline.specs.psci_fw_spec.Phases.{unless_pending}
pub use Rattle.psci_headline.specs.psci_fw_spec.PowerCalls.{is_off_status}
pub use Rattle.psci_headline.specs.psci_fw_spec.declared.status.Status.TheVariants.{Off}
pub use Rattle.psci_headline.specs.psci_world_spec.Legal.{ack_in, indexed, IsLegalPast, place_after}
pub use Rattle.psci_headline.specs.psci_world_spec.Legal.{place_of_effect, run_from, sent}
pub use Rattle.psci_world_spec.proofs.Answered.{controller_answered, firmware_legal}
pub use Rattle.psci_world_spec.specs.Legal.{acks, call, control, controller_history}
pub use Rattle.psci_world_spec.specs.Legal.{controller_values, delivered, entered, firmware_history}
pub use Rattle.psci_world_spec.specs.Legal.{firmware_values, IsReplied, legal, outcome_in, place}
pub use Rattle.psci_world_spec.specs.Legal.{place_said, said_by, sent_in, took}
pub use Rattle.psci_world_spec.specs.declared.event.Event.{Event}
pub use Rattle.psci_world_spec.specs.declared.event.Event.TheVariants.{Call, Deliver, Enter, Reset}
pub use Rattle.psci_world_spec.specs.declared.event.Event.TheVariants.{Take, Wake}
pub use Rattle.psci_world_spec.specs.declared.place.Place.{Place}
pub use Rattle.psci_world_spec.specs.declared.place.Place.TheVariants.{Running, Started, Stopped}
pub use Rattle.psci_world_spec.specs.declared.said.Record.{Record}
pub use Rattle.psci_world_spec.specs.declared.said.Said.{Said}
pub use Rattle.psci_world_spec.specs.declared.said.Said.TheVariants.{Absent, Acked, Fw}
pub use Rattle.psci_world_spec.specs.declared.said.Sent.{Sent}
pub use Rattle.psci_world_spec.specs.psci_abi.Calls.{request_of}
pub use Rattle.psci_world_spec.specs.psci_abi.declared.registers.Code.{Code}
pub use Rattle.psci_world_spec.specs.psci_abi.declared.registers.Regs.{Regs}
pub use Rattle.psci_world_spec.specs.psci_abi.declared.request.Request.{Request}
