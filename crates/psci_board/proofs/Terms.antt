-- The words of std and of definitions that proofs here speak in.
pub use Rattle.std.proofs.Common.{◌%◌, ◌*◌, ◌++◌, ◌+◌, ◌-◌, ◌/◌, ◌<◌, ◌^◌, ◌∙◌, ◌∷◌, ◌≡◌, ◌≤◌, []}
pub use Rattle.std.proofs.Common.{add-one, ap, append-nil, append_assoc, arith, Bool, cond, drop}
pub use Rattle.std.proofs.Common.{eqb, eqb-true, Err, false, get_or, inl, inr, length}
pub use Rattle.std.proofs.Common.{length-append, length-drop, List, lit<, ltb, map, min, None, Ok}
pub use Rattle.std.proofs.Common.{Option, refl, Result, rules, Some, sub-one, subst, suc, sum, sym}
pub use Rattle.std.proofs.Common.{take, true, zero, zero-add, ℕ}
pub use Rattle.std.proofs.Math.Nat.{div-div-eq-div-mul, div-one}
pub use Rattle.std.proofs.Math.Seq.{drop-length}
pub use Rattle.std.proofs.lemmas.Bool.{cases_lt, eq-eqb, or_parts}
pub use Rattle.std.proofs.lemmas.Bool.Decides.{nat_tests}
pub use Rattle.std.proofs.lemmas.Fmt.{decimal_is_IsNumeral, decimal_nonempty}
pub use Rattle.std.proofs.lemmas.Grind.{common_steps, flat_map-append}
pub use Rattle.std.proofs.lemmas.Int.Digits.{digits_value_more}
pub use Rattle.std.proofs.lemmas.List.{get_or_append_left, get_or_default, get_or_past, get_or_push}
pub use Rattle.std.proofs.lemmas.List.{length-map, length_push, take-append-drop, take_all}
pub use Rattle.std.proofs.lemmas.List.Elements.{All-from_recursion, recursion_from_All}
pub use Rattle.std.proofs.lemmas.List.Sums.{sum_by-cons, sum_by_more}
pub use Rattle.std.proofs.lemmas.Nat.{pow-add}
pub use Rattle.std.proofs.lemmas.Option.{cond_some, get_or_from_slice_get, none-some}
pub use Rattle.std.proofs.lemmas.Option.{option_and_then_some, same_Some}
pub use Rattle.std.specs.Char.{digit_value, is_ascii_digit, is_ascii_hexdigit}
pub use Rattle.std.specs.Fmt.{decimal}
pub use Rattle.std.specs.Int.{to_le_bytes, w64}
pub use Rattle.std.specs.List.{AllByRecursion, AllPass, list_any, prefix_len, range_with_len}
pub use Rattle.std.specs.Prelude.{◌&&◌, ◌==◌, ◌||◌, codes, filter, flat_map, nat_le, nat_lt, not}
pub use Rattle.std.specs.Prelude.{option_and_then, option_map, slice_get}
pub use Rattle.std.specs.Str.Parse.{AllDigits, digits_value}
pub use Rattle.psci_board.specs.Board.{address_up, BoardValue, child, children, children_at, cores}
pub use Rattle.psci_board.specs.Board.{first_child, first_core, group_of, HasNode, height, index_in}
pub use Rattle.psci_board.specs.Board.{is_in_some, is_width, IsBoard, IsTree, nodes, nodes_up}
pub use Rattle.psci_board.specs.Board.{place_above, size_below}
pub use Rattle.psci_board.specs.Draft.{has_bad_range, is_limit}
pub use Rattle.psci_board.specs.Grammar.{BoardText, bracketed, Ends, format_part, hex, IsHex}
pub use Rattle.psci_board.specs.Grammar.{IsListOf, IsNumber, IsRange, IsTreeText, literal_at}
pub use Rattle.psci_board.specs.Grammar.{Member, number_at, range, Reads, spaced, tree, TreeText}
pub use Rattle.psci_board.specs.Grammar.Member.{Cluster, Group}
pub use Rattle.psci_board.specs.Grammar.TreeText.{Members, One}
pub use Rattle.psci_board.specs.Level.{child_in, index_named}
pub use Rattle.psci_board.specs.Verdict.{clusters, format_at, format_or_original, is_group}
pub use Rattle.psci_board.specs.Verdict.{is_out_of_width, member_at, more_at, numbers_in, range_at}
pub use Rattle.psci_board.specs.Verdict.{range_of, starts_list, then_more, tree_at, verdict_or}
pub use Rattle.psci_board.specs.Summary.{no_ranges, tree_summary, TreeSummaryValue, value_and_rest}
pub use Rattle.psci_board.specs.Summary.{with_ranges}
pub use Rattle.psci_board.specs.SummaryVerdict.{summary_board, text_summary}
pub use Rattle.psci_board.specs.declared.fault.BoardFault.{BoardFault}
pub use Rattle.psci_board.specs.declared.fault.BoardFault.TheVariants.{BadBoot, BadLimit, BadRange}
pub use Rattle.psci_board.specs.declared.fault.BoardFault.TheVariants.{TooManyCores, TooWide}
pub use Rattle.psci_board.specs.declared.fault.BoardFault.TheVariants.{Uneven}
pub use Rattle.psci_board.specs.declared.draft.TheConstants.{MOST_CORES}
pub use Rattle.psci_board.specs.declared.draft.Node.{Node}
pub use Rattle.psci_board.specs.declared.tree_text.AddressRange.{AddressRange}
pub use Rattle.psci_board.specs.declared.tree_text.TextSummary.{TextSummary}
pub use Rattle.psci_board.specs.psci_abi.declared.registers.Format.{Format}
