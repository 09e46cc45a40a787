-- The board that a struct of C gives, or the first fault of the struct.
use Rattle.std.specs.Prelude.{if◌then◌else◌, ◌%◌, ◌&&◌, ◌==◌, ◌∷◌, Bool, Err, List, None, Option}
use Rattle.std.specs.Prelude.{Result, Some, [], length, map, nat_le, nat_lt, not, take, true, ℕ}
use Rattle.std.specs.List.{list_all, list_any}
use Rattle.psci_board.specs.psci_abi.declared.registers.Format.{Format}
use Rattle.psci_board.specs.psci_abi.declared.registers.Format.TheVariants.{Extended, Original}
use Rattle.psci_board.specs.declared.draft.TheConstants.{MOST_CORES, MOST_LEVELS}
use Rattle.psci_board.specs.declared.tree_text.AddressRange.{AddressRange}
use Rattle.psci_board.specs.Board.{BoardValue, is_in_some, size_below}
use Rattle.psci_board.specs.declared.draft.BoardDraft.{BoardDraft}
use Rattle.psci_board.specs.declared.fault.BoardFault.{BoardFault}
use Rattle.psci_board.specs.declared.fault.BoardFault.TheVariants.{Grammar}
use Rattle.psci_board.specs.Draft.{first_fault, has_bad_range, unless}
use Rattle.psci_board.specs.Verdict.{is_out_of_width}
use Rattle.psci_ffi.specs.declared.given.GivenBoard.{GivenBoard}
use Rattle.psci_ffi.specs.declared.given.GivenLevel.{GivenLevel}
use Rattle.psci_ffi.specs.declared.given.GivenRange.{GivenRange}

-- how many children each node of a level has
abbrev pub level_given : GivenLevel → List ℕ
level_given l = take l.nodes l.children

-- a range of addresses
abbrev pub range_given : GivenRange → AddressRange
range_given r = record { start = r.start; end = r.end }

-- the format of power state words, by its number
abbrev pub format_given : ℕ → Option Format
format_given number =
    if number == 0 then Some Original else (if number == 1 then Some Extended else None)

-- the levels that are counted, from 1 up
abbrev pub levels_given : GivenBoard → List (List ℕ)
levels_given g = map level_given (take g.height g.levels)

-- the ranges that are counted
abbrev pub ranges_given : GivenBoard → List AddressRange
ranges_given g = map range_given (take g.many_ranges g.ranges)

-- what is given, in this format
abbrev pub board_given : GivenBoard → Format → BoardValue
board_given g format = record {
  levels = levels_given g;
  ranges = ranges_given g;
  boot = g.boot;
  starts = g.starts;
  lives = g.lives;
  format = format;
}

-- there are one to three levels, none of more nodes than the struct has room for
abbrev pub has_levels : GivenBoard → Bool
has_levels g = nat_lt 0 (length (levels_given g)) && nat_le g.height MOST_LEVELS
    && list_all (λ l. nat_le l.nodes MOST_CORES) (take g.height g.levels)

-- each level has as many nodes as the one above has children, and the highest has one
abbrev pub is_even : List (List ℕ) → Bool
is_even [] = true
is_even (w ∷ ws) = length w == size_below ws && is_even ws

-- what decides whether a struct that names levels has a board
abbrev pub draft_given : GivenBoard → BoardDraft
draft_given g = record {
  is_uneven = not (is_even (levels_given g));
  is_too_wide = list_any (λ w. list_any is_out_of_width w) (levels_given g);
  cores = size_below (levels_given g);
  has_bad_range = has_bad_range g.many_ranges (ranges_given g);
  may_boot = g.boot % 4 == 0 && is_in_some (ranges_given g) g.boot;
  starts = g.starts;
  lives = g.lives;
}

-- the board in this format, or the first fault; where there is no such format, that
abbrev pub board_in : GivenBoard → Option Format → Result BoardValue BoardFault
board_in g None = Err Grammar
board_in g (Some format) = unless (first_fault (draft_given g)) (board_given g format)

-- the board of a struct, or its first fault: Grammar, where it does not name levels and a format
unfoldable pub board_of_given : GivenBoard → Result BoardValue BoardFault
board_of_given g = if has_levels g then board_in g (format_given g.format) else Err Grammar
