-- All cores so far are swapped.
use Rattle.psci_platform.proofs.Words.{◌<◌, ◌≡◌, is_swapped, true, ℕ}
use Rattle.psci_platform.proofs.swap.are_swapped.Given as goal

abbrev pub invariant-loop-number : goal.invariant-loop-number
invariant-loop-number l = (k : ℕ) → k < l.number → is_swapped l.board l.boot.number k ≡ true
