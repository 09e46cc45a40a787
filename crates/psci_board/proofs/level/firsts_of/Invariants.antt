-- Each node so far has its first place, which is the sum of the counts before it.
use Rattle.psci_board.proofs.Terms.{◌<◌, ◌≡◌, get_or, length, sum, take, ℕ}
use Rattle.psci_board.proofs.level.firsts_of.Given as goal

abbrev pub invariant-loop-count : goal.invariant-loop-count
invariant-loop-count l = record {
  first : l.first ≡ sum (take l.count-index l.counts);
  len : length l.firsts.items ≡ l.count-index;
  each : (k : ℕ) → k < l.count-index → get_or l.firsts.items k 0 ≡ sum (take k l.counts);
}
