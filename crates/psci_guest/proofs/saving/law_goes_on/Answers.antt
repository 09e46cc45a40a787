-- What was saved goes on.
use Rattle.psci_guest.proofs.Sound.{goes_on, whole}
use Rattle.psci_guest.proofs.saving.law_goes_on.Goals as goal

pub returns-clause-goes_on : goal.returns-clause-goes_on
returns-clause-goes_on c =
    goes_on (record {
      count = c.law_saved.ensures.count;
      opens = c.law_saved.ensures.opens;
      alike = c.law_alike.ensures;
      controlled = c.law_saved-2.ensures.same;
      complete = c.law_saved-2.ensures.whole;
    })

pub returns-clause-whole : goal.returns-clause-whole
returns-clause-whole c =
    whole (record {
      count = c.law_saved.ensures.count;
      opens = c.law_saved.ensures.opens;
      alike = c.law_alike.ensures;
      controlled = c.law_saved-2.ensures.same;
      complete = c.law_saved-2.ensures.whole;
    })
