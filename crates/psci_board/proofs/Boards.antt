-- Boards of worked examples.
use Rattle.std.proofs.Common.{List, ◌∷◌, []}
use Rattle.std.specs.Prelude.{ℕ}
use Rattle.psci_abi.specs.declared.registers.Format.TheVariants.{Original}
use Rattle.psci_board.specs.declared.draft.Node.{Node}
use Rattle.psci_board.specs.Board.{BoardValue}

abbrev pub board : List (List ℕ) → BoardValue
board levels = record {
  levels = levels;
  ranges = record { start = 0x40000000; end = 0x40100000 } ∷ [];
  boot = 0x40000000;
  starts = 1000;
  lives = 3;
  format = Original;
}

-- ((1 3) (2 1 4)): cores 0, 1 to 3, 4 and 5, 6, 7 to 10 in five clusters of two groups
abbrev pub uneven : BoardValue
uneven = board ((1 ∷ 3 ∷ 2 ∷ 1 ∷ 4 ∷ []) ∷ (2 ∷ 3 ∷ []) ∷ (2 ∷ []) ∷ [])

abbrev pub at : ℕ → ℕ → Node
at level place = record { level = level; place = place }
