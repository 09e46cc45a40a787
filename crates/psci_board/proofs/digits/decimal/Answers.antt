-- Digit by digit, until none is left or the number has more than 64 bits.
use Rattle.psci_board.proofs.Terms.{arith, digits_value_more, nat_tests}
use Rattle.psci_board.proofs.Values.{one_more, no_more, too_large, fits, fits_not}
use Rattle.psci_board.proofs.digits.decimal.Goals as goal

pub returns-in_err-checked_mul : goal.returns-in_err-checked_mul
returns-in_err-checked_mul c = grind (arith, nat_tests, one_more, fits_not, too_large)

pub returns-in_err-value : goal.returns-in_err-value
returns-in_err-value c = grind (arith, nat_tests, one_more, fits_not, too_large)

pub loop-byte-preserved : goal.loop-byte-preserved
loop-byte-preserved c = grind (arith, nat_tests, one_more, digits_value_more)

pub returns-then-not-is_ascii_digit : goal.returns-then-not-is_ascii_digit
returns-then-not-is_ascii_digit c = grind (arith, nat_tests, no_more, fits)
