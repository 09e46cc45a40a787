-- The last line needs no line feed.
use Rattle.std.proofs.Common.{rules}
use Rattle.psci_script.proofs.transfer.last_line.Goals as goal

pub returns : goal.returns
returns c = search rules
