-- The domains on the path of a core, whose standing a claim is made of.
use Rattle.std.specs.Prelude.{ℕ, List}
use Rattle.psci_board.specs.declared.draft.Node.{Node}
use Rattle.psci_board.specs.Board.{place_above}

-- the domain of this level on the path of a core
abbrev pub on_path : List (List ℕ) → ℕ → ℕ → Node
on_path levels core level = record { level = level; place = place_above levels level core }
