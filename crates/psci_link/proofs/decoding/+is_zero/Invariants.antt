-- The bytes after a word are fewer.
use Rattle.std.proofs.Common.{length}
use Rattle.psci_link.proofs.decoding.+is_zero.Given as goal

abbrev pub decreases-is_zero : goal.decreases-is_zero
decreases-is_zero l = length l.bytes.now
