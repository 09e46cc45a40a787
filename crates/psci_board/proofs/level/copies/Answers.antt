-- Each round copies one level more, and the last one the last level.
use Rattle.psci_board.proofs.Terms.{arith, nat_tests, take_all}
use Rattle.std.proofs.lemmas.List.{take_more}
use Rattle.psci_board.proofs.level.copies.Goals as goal

pub loop-level-preserved : goal.loop-level-preserved
loop-level-preserved c = grind (arith, nat_tests, take_more)

pub returns : goal.returns
returns c = grind (arith, nat_tests, take_all)
