-- The value is that of the digits so far.
use Rattle.psci_board.proofs.Terms.{◌<◌, ◌^◌, ◌≡◌, ◌≤◌, digits_value, is_ascii_digit, prefix_len}
use Rattle.psci_board.proofs.Terms.{take}
use Rattle.psci_board.proofs.digits.decimal.Given as goal

abbrev pub invariant-loop-byte : goal.invariant-loop-byte
invariant-loop-byte l = (l.count ≡ l.byte-index) × (l.count ≤ prefix_len is_ascii_digit l.text)
    × (l.value < 2 ^ 64)
    × (l.value ≡ digits_value 10 (take l.count l.text))
