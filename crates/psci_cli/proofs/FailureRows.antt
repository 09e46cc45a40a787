-- How the program ends at each fault of a run of threads.
use Rattle.std.proofs.Common.{refl, [], ◌∷◌}
use Rattle.psci_command.specs.psci_script.declared.exit.AuditFailure.TheVariants as failures
use Rattle.psci_command.specs.psci_script.declared.exit.Failure.TheVariants.{Audit, Gate, Gather}
use Rattle.psci_command.specs.psci_script.declared.exit.Failure.TheVariants.{Replay, Threads}
use Rattle.psci_command.specs.psci_script.declared.fault.ReplayFault.TheVariants.{Memory}
use Rattle.psci_bench.specs.declared.gathering.BenchFault.TheVariants as faults
use Rattle.psci_bench.specs.psci_audit.declared.fault.AuditFault.TheVariants as found
use Rattle.psci_cli.specs.Threading.{failure_at}
use Rattle.psci_script.proofs.Tables.{◌⇒◌, Gives}

-- each fault has a failure of its own, but for the two wants of memory
failures_of_threads : Gives failure_at
    (faults.Gate ⇒ Gate
    ∷ faults.Threads ⇒ Threads
    ∷ faults.Gather ⇒ Gather
    ∷ faults.Memory ⇒ Replay Memory
    ∷ faults.Audit found.Memory ⇒ Replay Memory
    ∷ faults.Audit found.Ticket ⇒ Audit failures.Ticket
    -- the place stays
    ∷ faults.Audit (found.Illegal 41) ⇒ Audit (failures.Illegal 41) ∷ [])
failures_of_threads = refl
