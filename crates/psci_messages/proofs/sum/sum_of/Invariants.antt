-- With the words that are left, the sum so far comes to the whole sum.
use Rattle.std.proofs.Common.{◌≡◌, drop}
use Rattle.psci_messages.specs.Sum.{sum_from}
use Rattle.psci_messages.proofs.sum.sum_of.Given as goal

abbrev pub invariant-loop-word : goal.invariant-loop-word
invariant-loop-word l =
    sum_from l.sum (drop l.word-index l.words) ≡ sum_from 0 l.words
