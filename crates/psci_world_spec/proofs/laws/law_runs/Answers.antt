-- To each list of events there is one legal run.
use Rattle.std.proofs.Common.{[]}
use Rattle.psci_world_spec.proofs.Scripts.{goes_on, is_run, only_one, run_events, stays_legal}
use Rattle.psci_world_spec.proofs.laws.law_runs.Goals as goal

pub returns : goal.returns
returns c = record {
  legal = λ b events. stays_legal b [] events tt;
  events = run_events;
  only = only_one;
  run = is_run;
  goes_on = goes_on;
  stays_legal = stays_legal;
}
