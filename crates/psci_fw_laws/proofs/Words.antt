-- The words of std and of definitions that proofs here speak in.
pub use Rattle.std.proofs.Common.{◌&&◌, ◌++◌, ◌+◌, ◌-◌, ◌<◌, ◌==◌, ◌||◌, ◌∙◌, ◌∷◌, ◌≡◌, ◌≤◌, ◌⊎◌}
pub use Rattle.std.proofs.Common.{[], ap, arith, Bool, cond, Err, false, filter, if◌then◌else◌, inl}
pub use Rattle.std.proofs.Common.{inr, length, List, map, nat_lt, None, not, Ok, Option, refl, Some}
pub use Rattle.std.proofs.Common.{subst, suc, sym, true, zero, ℕ}
pub use Rattle.std.proofs.lemmas.Bool.{and_from, and_parts, cases_Bool, cases_eq, cases_lt}
pub use Rattle.std.proofs.lemmas.Bool.{cond-true, cond_both, eq-eqb, eqb-false, eqb-true, lt-ltb}
pub use Rattle.std.proofs.lemmas.Bool.{ltb-true, ne_eqb, or_left, or_right}
pub use Rattle.std.proofs.lemmas.Bool.Decides.{nat_tests}
pub use Rattle.std.proofs.lemmas.List.Sums.{sum_by-cons}
pub use Rattle.std.proofs.lemmas.Option.{same_Some}
pub use Rattle.std.specs.List.{list_all, list_any, range_with_len, sum_by}
pub use Rattle.std.specs.Ordering.{int_eq}
pub use Rattle.std.specs.Prelude.{option_map, slice_get, slice_index}
pub use Rattle.psci_abi.specs.Calls.{invalid_address, request_of, success}
pub use Rattle.psci_board.specs.Board.{below, BoardValue, ChildLaws, children_at, core_of, cores}
pub use Rattle.psci_board.specs.Board.{first_child, has_node, HasNode, height, is_path_place}
pub use Rattle.psci_board.specs.Board.{IsBoard, may_enter, node_of, nodes, PathLaws, SpanLaws, up}
pub use Rattle.psci_board.specs.Board.{WordLaws}
pub use Rattle.psci_board.specs.declared.draft.Core.{Core}
pub use Rattle.psci_board.specs.declared.draft.Node.{Node}
pub use Rattle.psci_fw_laws.specs.Renumbered.{acknowledgement_by, AsksBy, CallsBy, core_by}
pub use Rattle.psci_fw_laws.specs.Renumbered.{IsAllowed, IsCalling, IsEntering, IsNewClaim}
pub use Rattle.psci_fw_laws.specs.Renumbered.{IsRenumbering, message_by, node_by, outcome_by}
pub use Rattle.psci_fw_laws.specs.Renumbered.{reply_by, SparesBoot, swap, values_by}
pub use Rattle.psci_fw_laws.specs.Messages.{AreQuiet, AreRising, AreSent, Holds, is_system}
pub use Rattle.psci_fw_laws.specs.Messages.{IsClaimOn, IsCurrent, IsFromMessage, IsOfCore, IsOfLife}
pub use Rattle.psci_fw_laws.specs.Messages.{IsSent, known_below, known_on, part_for}
pub use Rattle.psci_fw_spec.specs.PowerCalls.{ask_named, is_on, leaving_claims, message_for}
pub use Rattle.psci_fw_spec.specs.PowerCalls.{mode_of, off_message, off_parts, returns}
pub use Rattle.psci_fw_spec.specs.PowerCalls.{start_outcome, stops, stops_with, suspend_asked}
pub use Rattle.psci_fw_spec.specs.PowerCalls.{suspend_claims, suspend_parts, system_reset2}
pub use Rattle.psci_fw_spec.specs.PowerCalls.{system_suspend, target_among}
pub use Rattle.psci_fw_spec.specs.Effects.{Acknowledges, AsksOn, change, Effect, effect, effect_of}
pub use Rattle.psci_fw_spec.specs.Effects.{enter_effect, Enters, function_effect, FwExchange}
pub use Rattle.psci_fw_spec.specs.Effects.{GoesOn, Halts, listed, mode_effect, Nothing, Parks}
pub use Rattle.psci_fw_spec.specs.Effects.{Rests, sent, sent_messages, SetsMode, Stops, StopsAtOnce}
pub use Rattle.psci_fw_spec.specs.Answer.{answer, call_fault, enter_fault, function_outcome}
pub use Rattle.psci_fw_spec.specs.Answer.{outcome_at, outcome_of, reply_or, resumes}
pub use Rattle.psci_fw_spec.specs.Changes.{confirms_on, first_phase, in_life, is_made_at, PowerOn}
pub use Rattle.psci_fw_spec.specs.Changes.{Rest, start_of_life, turns_off, with_acknowledgement}
pub use Rattle.psci_fw_spec.specs.Changes.{with_arrival, with_claims, with_halt, with_mode}
pub use Rattle.psci_fw_spec.specs.Changes.{with_pending, with_phase, with_rest, with_running}
pub use Rattle.psci_fw_spec.specs.Changes.{with_slots}
pub use Rattle.psci_fw_spec.specs.History.{values_of}
pub use Rattle.psci_fw_spec.specs.Invariant.{agrees, AreValues, ask}
pub use Rattle.psci_fw_spec.specs.Legal.{IsLegal}
pub use Rattle.psci_fw_spec.specs.Values.{claimed_or, cleared, granted_with, updated, Values}
pub use Rattle.psci_fw_spec.specs.Phases.{activity_of, Away, is_away, Pending, Phase, Running}
pub use Rattle.psci_fw_spec.specs.Phases.{Suspended, unless_pending}
pub use Rattle.psci_fw_spec.specs.declared.call.FwCall.{FwCall}
pub use Rattle.psci_fw_spec.specs.declared.call.FwCall.TheVariants.{Enter, Smc, Take}
pub use Rattle.psci_fw_spec.specs.declared.fault.FwFault.{FwFault}
pub use Rattle.psci_fw_spec.specs.declared.mode.SuspendMode.{SuspendMode}
pub use Rattle.psci_fw_spec.specs.declared.mode.SuspendMode.TheVariants.{OsInitiated, Platform}
pub use Rattle.psci_fw_spec.specs.declared.opening.Opening.{Opening}
pub use Rattle.psci_fw_spec.specs.declared.outcome.Act.{Act}
pub use Rattle.psci_fw_spec.specs.declared.outcome.Outcome.{Outcome}
pub use Rattle.psci_fw_spec.specs.declared.reply.FwReply.{FwReply}
pub use Rattle.psci_fw_spec.specs.declared.reply.FwReply.TheVariants.{Out}
pub use Rattle.psci_fw_spec.specs.declared.status.Status.{Status}
pub use Rattle.psci_fw_spec.specs.psci_abi.declared.registers.Code.{Code}
pub use Rattle.psci_fw_spec.specs.psci_abi.declared.request.Request.{Request}
pub use Rattle.psci_messages.proofs.History.{part-by-part}
pub use Rattle.psci_messages.specs.Claim.{ClaimLaws, least_wish, off_wish, own_claims, own_wish}
pub use Rattle.psci_messages.specs.Claim.{platform_claims}
pub use Rattle.psci_messages.specs.Message.{AckValue, AreClaims, ArePartsOf, MessageValue}
pub use Rattle.psci_messages.specs.Slots.{Acknowledge, answers, changed, Clear, is_kind, is_slot}
pub use Rattle.psci_messages.specs.Slots.{left_by, OfCore, OfSystem, Put, Slot, slot_of, taken}
pub use Rattle.psci_messages.specs.View.{domain_of, PowerView}
pub use Rattle.psci_messages.specs.declared.kind.Kind.{Kind}
pub use Rattle.psci_messages.specs.declared.kind.Kind.TheVariants.{Down}
pub use Rattle.psci_messages.specs.declared.part.Part.{Part}
pub use Rattle.psci_messages.specs.declared.start.Start.{Start}
pub use Rattle.psci_messages.specs.psci_state.PowerState.{IsAsk, least}
pub use Rattle.psci_messages.specs.psci_state.Cores.{asks}
