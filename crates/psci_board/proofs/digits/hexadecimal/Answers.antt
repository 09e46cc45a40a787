-- Digit by digit, until none is left or there are more than 16.
use Rattle.psci_board.proofs.Terms.{◌≡◌, ◌≤◌, arith, common_steps, digit_value, digits_value_more}
use Rattle.psci_board.proofs.Terms.{get_or, is_ascii_hexdigit, nat_tests, prefix_len}
use Rattle.psci_board.proofs.Values.{one_more, no_more, all_of_them, fifteen_fit, few, too_many}
use Rattle.psci_board.proofs.Values.{hexadecimal_yes, hexadecimal_no}
use Rattle.psci_board.proofs.digits.hexadecimal.Goals as goal

pub returns-then-count-eq16 : goal.returns-then-count-eq16
returns-then-count-eq16 c = grind (arith, nat_tests, one_more, hexadecimal_yes, too_many)

pub overflow_mul-value : goal.overflow_mul-value
overflow_mul-value c = grind (arith, nat_tests, fifteen_fit)

pub overflow_add-value : goal.overflow_add-value
overflow_add-value c = grind (arith, nat_tests, fifteen_fit)

pub loop-byte-preserved : goal.loop-byte-preserved
loop-byte-preserved c = grind (arith, nat_tests, one_more, hexadecimal_yes, digits_value_more)

pub returns-after-loop-byte : goal.returns-after-loop-byte
returns-after-loop-byte c =
    let text = c.args.text.now in
    let i = c.loop-byte.count in
    let v = c.loop-byte.invariant in
    let all : prefix_len is_ascii_hexdigit text ≡ i =
    all_of_them is_ascii_hexdigit text i v.2 (grind (arith, common_steps)) in
    rw (all, ← v.3) (few i (c.loop-byte.value, i) v.1)

pub returns-in_default : goal.returns-in_default
returns-in_default c =
    let text = c.args.text.now in
    let i = c.loop-byte.count in
    let large : 16 ≤ digit_value (get_or text i 0) = grind (arith, common_steps) in
    let v = c.loop-byte.invariant in
    let all : prefix_len is_ascii_hexdigit text ≡ i =
    no_more is_ascii_hexdigit text i v.2 (hexadecimal_no (get_or text i 0) large) in
    rw (all, ← v.3) (few i (c.loop-byte.value, i) v.1)
