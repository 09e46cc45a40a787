-- A fault at a line has the line's number.
use Rattle.std.proofs.Common.{rules}
use Rattle.psci_script.proofs.fault.ScriptFault.at.Goals as goal

pub returns : goal.returns
returns c = search rules
