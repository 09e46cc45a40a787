-- The words of std and of definitions that proofs here speak in.
pub use Rattle.std.proofs.Common.{◌*◌, ◌++◌, ◌+◌, ◌<◌, ◌==◌, ◌^◌, ◌∙◌, ◌∷◌, ◌≡◌, ◌≤◌, ◌⊎◌, [], ap}
pub use Rattle.std.proofs.Common.{arith, Bool, cond, false, inl, inr, length, List, None, not}
pub use Rattle.std.proofs.Common.{Option, option_map, refl, Some, subst, suc, sym, true, zero, ℕ}
pub use Rattle.std.proofs.lemmas.Bool.{cases_Bool, eq-eqb, eqb-true, le-leb, leb-true}
pub use Rattle.std.specs.Prelude.{nat_le, nat_lt, Result, slice_get, slice_index, unwrap_or}
pub use Rattle.psci_headline.proofs.world_spec.Answered.{firmware_legal}
pub use Rattle.psci_headline.proofs.world_spec.Scripts.{system_reset}
pub use Rattle.psci_headline.specs.Laws.{AllOff, AreAsked, AreClaimed, told_hw, told_off}
pub use Rattle.psci_headline.specs.psci_abi.Calls.{argument, request_of, success}
pub use Rattle.psci_headline.specs.psci_abi.declared.registers.Code.{Code}
pub use Rattle.psci_headline.specs.psci_abi.declared.registers.Regs.{Regs}
pub use Rattle.psci_headline.specs.psci_abi.declared.request.Request.{Request}
pub use Rattle.psci_headline.specs.psci_board.Board.{BoardValue, core_of, cores, height, IsBoard}
pub use Rattle.psci_headline.specs.psci_board.Board.{node_of, PathLaws, up, WordLaws}
pub use Rattle.psci_headline.specs.psci_board.declared.draft.Core.{Core}
pub use Rattle.psci_headline.specs.psci_board.declared.draft.Node.{Node}
pub use Rattle.psci_headline.specs.psci_ctl_spec.Replies.{last_start}
pub use Rattle.psci_headline.specs.psci_ctl_spec.Values.{starts_below}
pub use Rattle.psci_headline.specs.psci_fw_laws.Messages.{part_for}
pub use Rattle.psci_headline.specs.psci_fw_spec.Effects.{arrived, AsksOn, change, Effect}
pub use Rattle.psci_headline.specs.psci_fw_spec.Effects.{enter_effect, function_effect, GoesOn}
pub use Rattle.psci_headline.specs.psci_fw_spec.Effects.{listed, Nothing, rest_named, rest_of}
pub use Rattle.psci_headline.specs.psci_fw_spec.Effects.{Rests}
pub use Rattle.psci_headline.specs.psci_fw_spec.Answer.{outcome_of, reply_or}
pub use Rattle.psci_headline.specs.psci_fw_spec.Changes.{first_opening, in_life, PowerOn, Rest}
pub use Rattle.psci_headline.specs.psci_fw_spec.Changes.{start_of_life, target}
pub use Rattle.psci_headline.specs.psci_fw_spec.Legal.{IsLegal}
pub use Rattle.psci_headline.specs.psci_fw_spec.PowerCalls.{stops}
pub use Rattle.psci_headline.specs.psci_fw_spec.Values.{Values}
pub use Rattle.psci_headline.specs.psci_fw_spec.declared.fault.FwFault.{FwFault}
pub use Rattle.psci_headline.specs.psci_fw_spec.declared.fault.FwFault.TheVariants.{NoCore, NoLife}
pub use Rattle.psci_headline.specs.psci_fw_spec.declared.mode.SuspendMode.{SuspendMode}
pub use Rattle.psci_headline.specs.psci_fw_spec.declared.opening.Opening.{Opening}
pub use Rattle.psci_headline.specs.psci_fw_spec.declared.outcome.Act.{Act}
pub use Rattle.psci_headline.specs.psci_fw_spec.declared.outcome.Outcome.{Outcome}
pub use Rattle.psci_headline.specs.psci_messages.Message.{AckValue, MessageValue}
pub use Rattle.psci_headline.specs.psci_messages.declared.part.Part.{Part}
pub use Rattle.psci_headline.specs.psci_messages.declared.start.Start.{Start}
pub use Rattle.psci_headline.specs.psci_messages.declared.taken.Taken.{Taken}
pub use Rattle.psci_headline.specs.psci_state.declared.fault.BadState.{BadState}
pub use Rattle.psci_headline.specs.psci_world_spec.Legal.{acks, call, controller_values}
pub use Rattle.psci_headline.specs.psci_world_spec.Legal.{firmware_values}
pub use Rattle.psci_headline.specs.psci_world_spec.Legal.{if_started, indexed, outcome_in, place}
pub use Rattle.psci_headline.specs.psci_world_spec.Legal.{sent_in}
pub use Rattle.psci_headline.specs.psci_world_spec.declared.event.Event.{Event}
pub use Rattle.psci_headline.specs.psci_world_spec.declared.event.Event.TheVariants.{Call, Deliver}
pub use Rattle.psci_headline.specs.psci_world_spec.declared.event.Event.TheVariants.{Enter, Take}
pub use Rattle.psci_headline.specs.psci_world_spec.declared.place.Place.{Place}
pub use Rattle.psci_headline.specs.psci_world_spec.declared.place.Place.TheVariants.{Started}
pub use Rattle.psci_headline.specs.psci_world_spec.declared.said.Record.{Record}
pub use Rattle.psci_headline.specs.psci_world_spec.declared.said.Said.{Said}
pub use Rattle.psci_headline.specs.psci_world_spec.declared.said.Said.TheVariants.{Absent, Fw}
pub use Rattle.psci_headline.specs.psci_world_spec.declared.said.Sent.{Sent}
pub use Rattle.psci_platform.proofs.Swaps.{half_of, request_with, short, with_first}
pub use Rattle.psci_platform.proofs.Named.{found}
pub use Rattle.psci_platform.proofs.Swapped.{core_inside}
pub use Rattle.psci_platform.specs.Calls.{asks_states, first_argument, is_there, regs_for}
pub use Rattle.psci_platform.specs.Cores.{boot_place, core_named, core_word, number_named}
pub use Rattle.psci_platform.specs.Described.{DescriptionValue}
pub use Rattle.psci_platform.specs.Platforms.{IsPlatform, PlatformValue}
pub use Rattle.psci_platform.specs.States.{depth_at, depths_of, states_of, word_for}
pub use Rattle.psci_platform.specs.Swaps.{swap_for}
pub use Rattle.psci_platform.specs.psci_fw_laws.Renumbered.{IsRenumbering}
pub use Rattle.psci_platform_safe.specs.Asked.{AllAsk, AskFor, depth_above, domain_above}
pub use Rattle.psci_platform_safe.specs.Asked.{event_after, IsAskedOf, IsCore, IsLegalOn, legal_for}
pub use Rattle.psci_platform_safe.specs.Asked.{life_of, mode_of, mpidr_of, number, numbered}
pub use Rattle.psci_platform_safe.specs.Asked.{said_in_numbers, sent_in_numbers}
pub use Rattle.psci_platform_safe.specs.Safe.{boot_opening, NoDeeperThanAsked, NoneBelowSleeping}
pub use Rattle.psci_platform_safe.specs.Safe.{NoneEnters, OneEntryEach, OneLiveClaim, Opens, Waits}
