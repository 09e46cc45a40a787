-- The words of std and of definitions that proofs here speak in.
pub use Rattle.std.proofs.Common.{◌+◌, ◌<◌, ◌==◌, ◌||◌, ◌↔◌, ◌∙◌, ◌∷◌, ◌≡◌, ◌≤◌, ◌⊎◌, [], ap, arith}
pub use Rattle.std.proofs.Common.{Bool, cond, false, inl, inr, List, nat_le, None, Ok, Option, refl}
pub use Rattle.std.proofs.Common.{Some, subst, suc, sym, true, true≢false, unwrap_or, zero, ℕ, ℤ}
pub use Rattle.std.proofs.lemmas.Bool.{cases_eq}
pub use Rattle.std.proofs.lemmas.Bool.Decides.{nat_tests}
pub use Rattle.std.specs.Option.{option_or}
pub use Rattle.std.specs.Ordering.{int_eq}
pub use Rattle.std.specs.Prelude.{if◌then◌else◌, is_some, Result, slice_get}
pub use Rattle.psci_abi.specs.Calls.{denied, request_of, success}
pub use Rattle.psci_abi.specs.declared.registers.Code.{Code}
pub use Rattle.psci_abi.specs.declared.registers.Regs.{Regs}
pub use Rattle.psci_abi.specs.declared.request.Request.{Request}
pub use Rattle.psci_board.specs.Board.{BoardValue, core_of, cores, height, IsBoard, PathLaws, up}
pub use Rattle.psci_board.specs.declared.draft.Core.{Core}
pub use Rattle.psci_fw_spec.specs.Effects.{arrived, AsksOn, change, Effect, effect, effect_of}
pub use Rattle.psci_fw_spec.specs.Effects.{enter_effect, Enters, function_effect, FwExchange}
pub use Rattle.psci_fw_spec.specs.Effects.{GoesOn, mode_effect, Parks, rest_named, Rests, SetsMode}
pub use Rattle.psci_fw_spec.specs.Effects.{StopsAtOnce}
pub use Rattle.psci_fw_spec.specs.Answer.{call_fault, function_outcome, outcome_of, reply_or}
pub use Rattle.psci_fw_spec.specs.Changes.{first_granted, first_status, in_life, PowerOn}
pub use Rattle.psci_fw_spec.specs.Changes.{start_of_life, target, with_arrival, with_pending}
pub use Rattle.psci_fw_spec.specs.Changes.{with_phase}
pub use Rattle.psci_fw_spec.specs.PowerCalls.{all_others, ask_named, is_off_status}
pub use Rattle.psci_fw_spec.specs.PowerCalls.{leaving_claims, may_set, message_for, mode_asked}
pub use Rattle.psci_fw_spec.specs.PowerCalls.{mode_of, off_message, returns, start_outcome, stops}
pub use Rattle.psci_fw_spec.specs.PowerCalls.{stops_with, suspend_asked, suspend_claims}
pub use Rattle.psci_fw_spec.specs.PowerCalls.{suspend_parts, system_message, system_reset2}
pub use Rattle.psci_fw_spec.specs.PowerCalls.{system_suspend}
pub use Rattle.psci_fw_spec.specs.History.{begins, changes, is_pending, known, life, phase}
pub use Rattle.psci_fw_spec.specs.History.{phase_left, says_pending, says_status, status}
pub use Rattle.psci_fw_spec.specs.Invariant.{agrees, AreAwake, AreValues, is_expected, IsPhase}
pub use Rattle.psci_fw_spec.specs.Invariant.{view}
pub use Rattle.psci_fw_spec.specs.Legal.{IsLegal, legal_reply}
pub use Rattle.psci_fw_spec.specs.Values.{claimed_or, cleared, granted_with, updated, Values}
pub use Rattle.psci_fw_spec.specs.Phases.{activity_of, Away, Pending, Phase, Running, Suspended}
pub use Rattle.psci_fw_spec.specs.Phases.{unless_pending}
pub use Rattle.psci_fw_spec.specs.declared.call.FwCall.{FwCall}
pub use Rattle.psci_fw_spec.specs.declared.call.FwCall.TheVariants.{Enter, Smc, Take}
pub use Rattle.psci_fw_spec.specs.declared.fault.FwFault.{FwFault}
pub use Rattle.psci_fw_spec.specs.declared.mode.SuspendMode.{SuspendMode}
pub use Rattle.psci_fw_spec.specs.declared.mode.SuspendMode.TheVariants.{OsInitiated, Platform}
pub use Rattle.psci_fw_spec.specs.declared.opening.Opening.{Opening}
pub use Rattle.psci_fw_spec.specs.declared.outcome.Act.{Act}
pub use Rattle.psci_fw_spec.specs.declared.outcome.Outcome.{Outcome}
pub use Rattle.psci_fw_spec.specs.declared.reply.FwReply.{FwReply}
pub use Rattle.psci_fw_spec.specs.declared.reply.FwReply.TheVariants.{Fault, Out, Taken}
pub use Rattle.psci_fw_spec.specs.declared.status.Status.TheVariants.{Off}
pub use Rattle.psci_messages.specs.Claim.{claims_of, last_core_check, least_wish, off_wish}
pub use Rattle.psci_messages.specs.Claim.{own_wish}
pub use Rattle.psci_messages.specs.Message.{AckValue, AreClaims, MessageValue, only_if}
pub use Rattle.psci_messages.specs.View.{domain_of, is_all_away, least_ask, PowerView}
pub use Rattle.psci_messages.specs.declared.kind.Kind.{Kind}
pub use Rattle.psci_messages.specs.declared.part.Part.{Part}
pub use Rattle.psci_messages.specs.declared.start.Start.{Start}
pub use Rattle.psci_state.specs.PowerState.{deepest_of, is_deep, IsAsk}
pub use Rattle.psci_state.specs.Cores.{is_away}
pub use Rattle.psci_state.specs.declared.fault.BadState.{BadState}
