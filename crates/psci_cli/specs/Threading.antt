-- How the program ends at each fault of a run of threads.
use Rattle.psci_command.specs.psci_script.declared.exit.AuditFailure.TheVariants as failures
use Rattle.psci_command.specs.psci_script.declared.exit.Failure.{Failure}
use Rattle.psci_command.specs.psci_script.declared.exit.Failure.TheVariants.{Audit, Gate, Gather}
use Rattle.psci_command.specs.psci_script.declared.exit.Failure.TheVariants.{Replay, Threads}
use Rattle.psci_command.specs.psci_script.declared.fault.ReplayFault.TheVariants.{Memory}
use Rattle.psci_bench.specs.declared.gathering.BenchFault.{BenchFault}
use Rattle.psci_bench.specs.declared.gathering.BenchFault.TheVariants as faults
use Rattle.psci_bench.specs.psci_audit.declared.fault.AuditFault.{AuditFault}
use Rattle.psci_bench.specs.psci_audit.declared.fault.AuditFault.TheVariants as found

-- how the program ends at what an audit has found
abbrev pub failure_found : AuditFault → Failure
failure_found found.Ticket = Audit failures.Ticket
failure_found (found.Illegal place) = Audit (failures.Illegal place)
failure_found found.Memory = Replay Memory

-- the same at a fault of a run of threads
abbrev pub failure_at : BenchFault → Failure
failure_at faults.Gate = Gate
failure_at faults.Threads = Threads
failure_at faults.Gather = Gather
failure_at faults.Memory = Replay Memory
failure_at (faults.Audit fault) = failure_found fault
