-- Saved words have no fault, and so as many as the board's.
use Rattle.std.proofs.Common.{◌+◌, ap, sym, ◌∙◌}
use Rattle.psci_ctl.specs.Saved.{saved}
use Rattle.psci_ctl.proofs.Kept.{whole}
use Rattle.psci_ctl.proofs.SavedFaults.{is_saved, long_of, no_fault}
use Rattle.psci_ctl.proofs.controller.Controller.saved_count.Goals as goal

pub returns-clause-count : goal.returns-clause-count
returns-clause-count c =
    let b = c.self.inside.board in
    let kept = whole b c.self.inside.life c.self.inside.cores.items c.self.inside.domains.items in
    rw (← c.self.view_is) (
    ap (λ n. 3 + n) c.row_count.ensures.count
    ∙ sym (long_of b (saved kept) (is_saved b (saved kept) (no_fault kept c.self.invariant))))
