-- The words of std and of definitions that proofs here speak in.
pub use Rattle.std.proofs.Common.{◌%◌, ◌&&◌, ◌*◌, ◌++◌, ◌+◌, ◌-◌, ◌/◌, ◌<◌, ◌==◌, ◌^◌, ◌||◌, ◌∙◌}
pub use Rattle.std.proofs.Common.{◌∷◌, ◌≡◌, ◌≤◌, ◌⊎◌, [], All, ap, arith, Bool, cond, false}
pub use Rattle.std.proofs.Common.{if◌then◌else◌, inl, inr, length, List, map, nat_lt, None, not}
pub use Rattle.std.proofs.Common.{Option, refl, replicate, rules, Some, subst, suc, sym, true}
pub use Rattle.std.proofs.Common.{unwrap_or, zero, ℕ}
pub use Rattle.std.proofs.lemmas.Bool.{cases_lt, eq-eqb, eqb-true, le-leb, le-ltb, lt-ltb}
pub use Rattle.std.proofs.lemmas.Bool.Decides.{nat_tests}
pub use Rattle.std.proofs.lemmas.List.Folds.{list_any_at}
pub use Rattle.std.proofs.lemmas.List.Quantifiers.{position-Some}
pub use Rattle.std.proofs.lemmas.Option.{IfSome_then, none-some, same_Some}
pub use Rattle.std.specs.List.{count_by, list_all, position, position_or_len, range_with_len}
pub use Rattle.std.specs.Prelude.{◌↔◌, Err, find, IfSome, IsTrue, nat_le, Ok, option_map, Result}
pub use Rattle.std.specs.Prelude.{slice_index}
pub use Rattle.psci_abi.specs.Calls.{argument, function_of, low_half, request_of}
pub use Rattle.psci_abi.specs.declared.registers.Format.{Format}
pub use Rattle.psci_abi.specs.declared.registers.Format.TheVariants.{Extended, Original}
pub use Rattle.psci_abi.specs.declared.registers.Regs.{Regs}
pub use Rattle.psci_abi.specs.declared.request.Request.{Request}
pub use Rattle.psci_board.specs.Board.{address, BoardValue, core_of, cores, domain_of, height}
pub use Rattle.psci_board.specs.Board.{IsBoard, node_of, parent, ParentLaws, PathLaws, SizeLaws, up}
pub use Rattle.psci_board.specs.Board.{WordLaws}
pub use Rattle.psci_board.specs.declared.draft.Core.{Core}
pub use Rattle.psci_board.specs.declared.draft.Node.{Node}
pub use Rattle.psci_fw_laws.specs.Renumbered.{IsRenumbering}
pub use Rattle.psci_fw_spec.specs.declared.mode.SuspendMode.{SuspendMode}
pub use Rattle.psci_fw_spec.specs.declared.mode.SuspendMode.TheVariants.{OsInitiated, Platform}
pub use Rattle.psci_platform.specs.Arguments.{argument_by, regs_by, there, told_by}
pub use Rattle.psci_platform.specs.Calls.{asked_by, asked_for, asks_states, first_argument}
pub use Rattle.psci_platform.specs.Calls.{is_there, regs_for}
pub use Rattle.psci_platform.specs.Cores.{boot_place, core_named, core_word, no_core, number_named}
pub use Rattle.psci_platform.specs.Cores.{word_if}
pub use Rattle.psci_platform.specs.Described.{DescriptionValue}
pub use Rattle.psci_platform.specs.Faults.{fault_of, has_boot, has_same, is_mpidr, is_power_state}
pub use Rattle.psci_platform.specs.Faults.{is_system, rises}
pub use Rattle.psci_platform.specs.Identity.{depths_at, every_function, identity, row_asking}
pub use Rattle.psci_platform.specs.Names.{AreAmong, AreNames, IsName}
pub use Rattle.psci_platform.specs.States.{can_ask, can_ask_by, depth_at, depths_of, no_state}
pub use Rattle.psci_platform.specs.States.{reading_of, reads, states_if, states_of, word_for}
pub use Rattle.psci_platform.specs.Swaps.{goes_along, is_swapped, is_symmetric, swap_for}
pub use Rattle.psci_platform.specs.declared.argument.Argument.{Argument}
pub use Rattle.psci_platform.specs.declared.argument.Argument.TheVariants.{State}
pub use Rattle.psci_platform.specs.declared.asked.Asked.{Asked}
pub use Rattle.psci_platform.specs.declared.fault.PlatformFault.{PlatformFault}
pub use Rattle.psci_platform.specs.declared.functions.Functions.{Functions}
pub use Rattle.psci_platform.specs.declared.names.Name.{Name}
pub use Rattle.psci_platform.specs.declared.readings.Reading.{Reading}
pub use Rattle.psci_platform.specs.declared.row.Row.{Row}
pub use Rattle.psci_state.specs.PowerState.{ask_of, deepest_of, highest_of, is_ask, IsAsk, word_of}
pub use Rattle.psci_state.specs.declared.fault.BadState.{BadState}
