-- What a core was started with stands in the controller's book.
use Rattle.psci_shared.proofs.controller.shared.SharedController.started.Goals as goal

pub returns : goal.returns
returns g c =
    (c.deref.result.now.book.entries, c.started.ensures.legal, c.started.ensures.last)
