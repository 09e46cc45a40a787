-- The first line feed among as many bytes as a line may have.
use Rattle.std.proofs.Common.{arith}
use Rattle.std.proofs.lemmas.Bool.Decides.{nat_tests}
use Rattle.std.proofs.lemmas.List.{take_min}
use Rattle.psci_script.proofs.Cutting.{first_feed, feed}
use Rattle.psci_script.proofs.transfer.line_feed.Goals as goal

pub returns : goal.returns
returns c = grind (arith, nat_tests, first_feed, feed, take_min)
