-- The value is that of the digits so far, of which there are 16 at most.
use Rattle.psci_board.proofs.Terms.{◌≡◌, ◌≤◌, digits_value, is_ascii_hexdigit, prefix_len, take}
use Rattle.psci_board.proofs.digits.hexadecimal.Given as goal

abbrev pub invariant-loop-byte : goal.invariant-loop-byte
invariant-loop-byte l = (l.count ≡ l.byte-index) × (l.count ≤ 16)
    × (l.count ≤ prefix_len is_ascii_hexdigit l.text)
    × (l.value ≡ digits_value 16 (take l.count l.text))
