-- Legal lists are the lists of legal runs.
use Rattle.psci_audit.proofs.MayFollow.{legal_list, legal_run}
use Rattle.psci_audit.proofs.laws.law_told.Goals as goal

pub returns : goal.returns
returns c = record {
  run = legal_run;
  only = legal_list;
  safe = λ b entries board is.
      let run = legal_run b entries is in
      record {
        past = run.past;
        legal = run.legal;
        tells = run.tells;
        safe = c.law_safe.ensures b run.past board run.legal;
      };
}
