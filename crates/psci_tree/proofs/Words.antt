-- The words of std and of definitions that proofs here speak in.
pub use Rattle.std.proofs.Common.{◌&&◌, ◌*◌, ◌++◌, ◌+◌, ◌-◌, ◌<◌, ◌==◌, ◌^◌, ◌∙◌, ◌∷◌, ◌≡◌, ◌≢◌}
pub use Rattle.std.proofs.Common.{◌≤◌, [], add-one, ap, append-nil, append_assoc, arith, Bool, cond}
pub use Rattle.std.proofs.Common.{drop, drop-cons, false, filter, get_or, inl, inr, leb, length}
pub use Rattle.std.proofs.Common.{length-append, List, map, min, nat_lt, not, refl, replicate}
pub use Rattle.std.proofs.Common.{rules, Some, subst, suc, sum, sym, take, true, zero, ℕ}
pub use Rattle.std.proofs.Math.ListN.{length-set, set}
pub use Rattle.std.proofs.Math.Seq.{take-append-add}
pub use Rattle.std.proofs.lemmas.Bool.{cases_eq, eq-eqb, eqb-true, ltb-true, ne_eqb}
pub use Rattle.std.proofs.lemmas.Bool.Decides.{nat_tests}
pub use Rattle.std.proofs.lemmas.List.{drop_all, drop_at, get_or-map, get_or-replicate}
pub use Rattle.std.proofs.lemmas.List.{get_or-set_other, get_or-set_same, get_or_default}
pub use Rattle.std.proofs.lemmas.List.{length-drop, length-map, length-replicate, length-take-le}
pub use Rattle.std.proofs.lemmas.List.{length_push, map-append, map-set, take-append-drop, take-map}
pub use Rattle.std.proofs.lemmas.List.{take_all, take_at, take_more, with_items_is}
pub use Rattle.std.proofs.lemmas.List.Concat.{flat_map-append, flat_map_single, get_or-flat_map}
pub use Rattle.std.proofs.lemmas.List.Concat.{length-flat_map}
pub use Rattle.std.proofs.lemmas.List.Elements.{All-take}
pub use Rattle.std.proofs.lemmas.List.Sums.{count_by-le-length, get_or-le-sum_by, sum-map}
pub use Rattle.std.proofs.lemmas.List.Sums.{sum_by-append, sum_by-cons}
pub use Rattle.std.specs.List.{AllPass, count_by, flat_map, range_with_len, sum_by}
pub use Rattle.std.specs.Prelude.{unwrap_or}
pub use Rattle.std.specs.Vec.{with_item, with_items}
pub use Rattle.psci_board.proofs.More.{Counted, counted, level, sum-cons}
pub use Rattle.psci_board.proofs.Paths.{inside, place_above-suc}
pub use Rattle.psci_board.specs.Board.{below_in, BoardValue, first_core, group_of, HasNodeIn}
pub use Rattle.psci_board.specs.Board.{index_in, is_width, IsTree, place_above, size_below, span}
pub use Rattle.psci_board.specs.Board.{SpanLaws}
pub use Rattle.psci_board.specs.declared.draft.Node.{Node}
pub use Rattle.psci_state.specs.declared.cores.Activity.{Activity}
pub use Rattle.psci_state.specs.declared.cores.Activity.TheVariants.{Active}
pub use Rattle.psci_state.specs.declared.cores.CoreState.{CoreState}
pub use Rattle.psci_tree.specs.Changes.{all_off, depth_set, made_pending, path_cleared}
pub use Rattle.psci_tree.specs.Changes.{rows_with_depth, still_confirmed, with_core_state}
pub use Rattle.psci_tree.specs.Changes.{with_path_cleared}
pub use Rattle.psci_tree.specs.DepthRows.{confirmed_of, filled, granted_of}
pub use Rattle.psci_tree.specs.Inside.{IsHeld, IsTied}
pub use Rattle.psci_tree.specs.Kept.{AreKept, AreSmall, asking_else, asking_in, gone, HasRows}
pub use Rattle.psci_tree.specs.Kept.{IsKeptOn, Keeps, kept_at, kept_exchanged, level_kept, low_in}
pub use Rattle.psci_tree.specs.Kept.{MayExchange, recount, states_in, with_kept}
pub use Rattle.psci_tree.specs.Recount.{ask_at, asks, confirmed_at, granted_at, is_active}
pub use Rattle.psci_tree.specs.Recount.{is_active_at, is_away, IsActivity, IsDomainTree, known}
pub use Rattle.psci_tree.specs.Recount.{known_at, least, level_sizes, low, never_started, state_at}
pub use Rattle.psci_tree.specs.Recount.{TreeValue}
pub use Rattle.psci_tree.specs.Standing.{on_path}
pub use Rattle.psci_tree.specs.Way.{IsWayOf}
pub use Rattle.psci_tree.specs.contracts.tree.Tree.{the_view}
pub use Rattle.psci_tree.specs.declared.depths.Depths.{Depths}
pub use Rattle.psci_tree.specs.declared.kept.Kept.{Kept}
pub use Rattle.psci_tree.specs.declared.way.Way.{Way}
