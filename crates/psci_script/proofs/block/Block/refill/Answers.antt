-- What came stands behind what was unread; where reading failed, that stays.
use Rattle.std.proofs.lemmas.Bool.Decides.{nat_tests}
use Rattle.std.proofs.Common.{arith}
use Rattle.psci_script.proofs.Finish.{on_err}
use Rattle.psci_script.proofs.Cutting.{counted, end_came, moved, none_came, not_counted}
use Rattle.psci_script.proofs.Cutting.{refilled, some_came, unfilled, waiting_length}
use Rattle.psci_script.proofs.block.Block.refill.Goals as goal

pub returns-clause-bytes : goal.returns-clause-bytes
returns-clause-bytes g c = grind (
  arith,
  nat_tests,
  waiting_length,
  refilled,
  moved,
  some_came,
  counted,
  none_came,
  not_counted,
  end_came,
)

pub returns-in_err-count-clause-stays : goal.returns-in_err-count-clause-stays
returns-in_err-count-clause-stays g c =
    grind (arith, nat_tests, waiting_length, on_err, unfilled, moved)
