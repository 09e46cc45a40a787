-- The first place of one node more is the sum of the counts before it.
use Rattle.psci_board.proofs.Terms.{◌++◌, ◌+◌, ◌<◌, ◌∷◌, ◌≡◌, [], arith, cases_lt, get_or}
use Rattle.psci_board.proofs.Terms.{get_or_append_left, get_or_push, length, length_push, List}
use Rattle.psci_board.proofs.Terms.{nat_tests, sum, sum_by_more, take, ℕ}
use Rattle.psci_board.proofs.level.firsts_of.Goals as goal

-- one more first place, in the list of those of all nodes before
one_more : (w fs gs : List ℕ) (i n : ℕ) → length fs ≡ i → n ≡ sum (take i w)
    → ((k : ℕ) → k < i → get_or fs k 0 ≡ sum (take k w)) → gs ≡ fs ++ n ∷ []
    → (k : ℕ) → k < i + 1 → get_or gs k 0 ≡ sum (take k w)
one_more w fs gs i n l s each e k j =
    grind (arith, nat_tests, cases_lt, get_or_append_left, get_or_push)

pub loop-count-preserved : goal.loop-count-preserved
loop-count-preserved c = grind (arith, nat_tests, sum_by_more, length_push, one_more)
