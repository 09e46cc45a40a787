-- The answer text of every script is that of a run that is safe at every moment.
use Rattle.psci_answers.proofs.ScriptRuns.{says_run}
use Rattle.psci_answers.proofs.laws.law_safe_scripts.Goals as goal

pub returns : goal.returns
returns c = says_run (record {
  boards = c.law_boards.ensures;
  legal = c.law_runs.ensures.legal;
  safe = c.law_safe.ensures;
})
