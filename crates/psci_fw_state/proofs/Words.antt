-- The words of std and of definitions that proofs here speak in.
pub use Rattle.std.proofs.Common.{◌&&◌, ◌+◌, ◌-◌, ◌<◌, ◌==◌, ◌||◌, ◌∙◌, ◌∷◌, ◌≡◌, ◌≤◌, [], ap}
pub use Rattle.std.proofs.Common.{arith, Bool, cond, drop, false, get_or, inl, inr, leb, length}
pub use Rattle.std.proofs.Common.{List, ltb, map, min, nat_lt, None, not, Ok, Option, refl}
pub use Rattle.std.proofs.Common.{replicate, rules, slice_get, Some, subst, suc, sym, true, ℕ}
pub use Rattle.std.proofs.Math.ListN.{set}
pub use Rattle.std.proofs.lemmas.Bool.{and_parts, cases_lt, eq-eqb, eqb-true, leb-true, lt-ltb}
pub use Rattle.std.proofs.lemmas.Bool.{ltb-true, ne_eqb}
pub use Rattle.std.proofs.lemmas.List.{get_or-map, get_or-replicate, get_or-set_other}
pub use Rattle.std.proofs.lemmas.List.{get_or-set_same, get_or_default, get_or_past, length-map}
pub use Rattle.std.proofs.lemmas.List.{length-replicate, length-set, map-set, with_items_is}
pub use Rattle.std.proofs.lemmas.List.FromFn.{length-range_with_len}
pub use Rattle.std.proofs.lemmas.List.Sums.{sum_by-cons}
pub use Rattle.std.proofs.lemmas.Option.{slice_get-get_or, slice_get_past}
pub use Rattle.std.specs.List.{count_by, list_any, range_with_len, sum_by}
pub use Rattle.psci_board.specs.Board.{below_in, BoardValue, cores, HasNodeIn, height, IsTree}
pub use Rattle.psci_board.specs.Board.{nodes, PathLaws, place_above, size_below, up}
pub use Rattle.psci_board.specs.declared.draft.Node.{Node}
pub use Rattle.psci_fw_spec.specs.PowerCalls.{is_off_status, is_on, is_pending_status}
pub use Rattle.psci_fw_spec.specs.Changes.{applied_part, claimed_anew, confirms_on, in_life}
pub use Rattle.psci_fw_spec.specs.Changes.{is_made_at, turns_off, unconfirmed, with_phase}
pub use Rattle.psci_fw_spec.specs.Changes.{with_rest}
pub use Rattle.psci_fw_spec.specs.Effects.{suspends}
pub use Rattle.psci_fw_spec.specs.Invariant.{agrees, view}
pub use Rattle.psci_fw_spec.specs.Values.{cleared, granted_with, updated, Values}
pub use Rattle.psci_fw_spec.specs.Phases.{is_away, is_suspended_or_pending, Phase, unless_pending}
pub use Rattle.psci_fw_spec.specs.declared.mode.SuspendMode.TheVariants.{Platform}
pub use Rattle.psci_fw_spec.specs.declared.opening.Opening.{Opening}
pub use Rattle.psci_fw_spec.specs.declared.status.Status.{Status}
pub use Rattle.psci_fw_spec.specs.declared.status.Status.TheVariants.{Off}
pub use Rattle.psci_fw_state.specs.Confirming.{is_last_claim}
pub use Rattle.psci_fw_state.specs.Counts.{AreCounts, counts_at, counts_below, level_counts}
pub use Rattle.psci_fw_state.specs.Counts.{MayRecount, no_cores, one_core, recounted}
pub use Rattle.psci_fw_state.specs.Counts.{status_counted}
pub use Rattle.psci_fw_state.specs.Rows.{first_row, off_row, row_at, status_at}
pub use Rattle.psci_fw_state.specs.Seen.{is_pending_phase, IsState, phase_by, StateValue, values_in}
pub use Rattle.psci_fw_state.specs.Wishes.{asked_wish, wish_unless, wished_claims}
pub use Rattle.psci_fw_state.specs.contracts.state.State.{the_view}
pub use Rattle.psci_fw_state.specs.declared.counts.StatusCounts.{StatusCounts}
pub use Rattle.psci_fw_state.specs.declared.row.CoreRow.{CoreRow}
pub use Rattle.psci_messages.specs.Claim.{own_claims, refusal, shallow}
pub use Rattle.psci_messages.specs.Looked.{view_of}
pub use Rattle.psci_messages.specs.Message.{AckValue, MessageValue}
pub use Rattle.psci_messages.specs.Slots.{answered, changed, IsOfCores, message_in, Slot, slot_of}
pub use Rattle.psci_messages.specs.Slots.{SlotsValue, taken}
pub use Rattle.psci_messages.specs.Slots.Change.{Acknowledge, Clear, Put}
pub use Rattle.psci_messages.specs.declared.part.Part.{Part}
pub use Rattle.psci_messages.specs.declared.start.Start.{Start}
pub use Rattle.psci_messages.specs.declared.taken.Taken.TheVariants.{Used}
pub use Rattle.psci_state.specs.declared.cores.Activity.{Activity}
pub use Rattle.psci_state.specs.declared.cores.CoreState.{CoreState}
pub use Rattle.psci_tree.proofs.Seen.{size_few}
pub use Rattle.psci_tree.specs.Recount.{granted_at, is_active, is_confirmed_at, IsDomainTree}
pub use Rattle.psci_tree.specs.Recount.{known_at, never_started, off, state_at, TreeValue}
