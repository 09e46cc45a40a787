-- The number that is written is the fault's.
use Rattle.psci_script.proofs.exit.ReportDisplay.fmt.Goals as goal

pub returns-in-Script-clause-writes : goal.returns-in-Script-clause-writes
returns-in-Script-clause-writes g c =
    rw c.in-Script.is (rw (← c.script_code-number.ensures) c.write.ensures.writes)
