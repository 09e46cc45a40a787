-- To each list of events of a platform there is a legal history.
use Rattle.psci_platform_safe.proofs.Words.{[]}
use Rattle.psci_platform_safe.proofs.Moments.{laws_of}
use Rattle.psci_platform_safe.proofs.AskedFor.{run_events, stays}
use Rattle.psci_platform_safe.proofs.laws.law_runs_on.Goals as goal

pub returns-clause-legal : goal.returns-clause-legal
unfolding Rattle.psci_platform_safe.specs.Asked.numbered
returns-clause-legal c = λ p events board is. stays p [] events (laws_of p board is) tt

pub returns-clause-events : goal.returns-clause-events
returns-clause-events c = run_events
