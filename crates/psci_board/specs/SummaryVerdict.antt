-- What is kept of a whole board text decides what is said of it.
use Rattle.std.specs.Prelude.{ℕ, ◌%◌, ◌&&◌, ◌||◌, List, [], ◌∷◌, length, ◌==◌, if◌then◌else◌}
use Rattle.std.specs.Str.Parse.{digits_value}
use Rattle.psci_board.specs.declared.draft.BoardDraft.{BoardDraft}
use Rattle.psci_board.specs.declared.tree_text.TextSummary.{TextSummary}
use Rattle.psci_board.specs.Grammar.{BoardText}
use Rattle.psci_board.specs.Board.{BoardValue, is_in_some}
use Rattle.psci_board.specs.Summary.{TreeSummaryValue, tree_summary, with_ranges, no_ranges}
use Rattle.psci_board.specs.Verdict.{format_or_original}

-- what is kept of a board text
abbrev pub text_summary : BoardText → TextSummary
text_summary t = record {
  tree = tree_summary t.tree;
  ranges = with_ranges no_ranges t.ranges;
  boot = digits_value 16 t.boot;
  starts = t.starts;
  lives = t.lives;
  format = format_or_original t.format;
}

-- how many children each node has, level by level from 1 up, where the tree has no fault
abbrev pub summary_levels : TreeSummaryValue → List (List ℕ)
summary_levels s =
    if s.has_group then s.numbers.first ∷ s.sizes ∷ (length s.sizes ∷ []) ∷ []
    else (if s.has_cluster then s.numbers.first ∷ (length s.sizes ∷ []) ∷ []
    else s.numbers.first ∷ [])

-- the board, where there is no fault
abbrev pub summary_board : TextSummary → BoardValue
summary_board t = record {
  levels = summary_levels t.tree;
  ranges = t.ranges.first;
  boot = t.boot;
  starts = t.starts;
  lives = t.lives;
  format = t.format;
}

-- what decides whether the text has a board
abbrev pub draft_of : TextSummary → BoardDraft
draft_of t = record {
  is_uneven = t.tree.has_group && t.tree.has_cluster;
  is_too_wide = t.tree.numbers.bad_width || t.tree.bad_width;
  cores = t.tree.numbers.total;
  has_bad_range = t.ranges.faulty;
  may_boot = t.boot % 4 == 0 && is_in_some t.ranges.first t.boot;
  starts = t.starts;
  lives = t.lives;
}
