-- What was saved of a firmware has no fault, and is refused for want of memory alone.
use Rattle.psci_fw.proofs.Opened.{life_on_board, refused_by_memory}
use Rattle.psci_fw.proofs.saving.law_saved.Goals as goal

pub returns-clause-whole : goal.returns-clause-whole
returns-clause-whole c = λ f is state savable.
    c.law_saved_state.ensures.whole f state savable (life_on_board f is)

pub returns-clause-opens : goal.returns-clause-opens
returns-clause-opens c = λ f fault is state savable refused.
    refused_by_memory f fault is state savable
    (c.law_saved_state.ensures.whole f state savable (life_on_board f is)) refused
