-- The sum of words that are saved.
use Rattle.std.specs.Prelude.{ℕ, ◌+◌, ◌*◌, ◌%◌, ◌^◌, List, [], ◌∷◌}
use Rattle.psci_messages.specs.declared.sum.TheConstants.{FACTOR}

-- a sum in which each word counts by its place
abbrev pub sum_from : ℕ → List ℕ → ℕ
sum_from sum [] = sum
sum_from sum (w ∷ ws) = sum_from ((sum * FACTOR + w) % 2 ^ 64) ws
