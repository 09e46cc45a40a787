-- The list of a legal run.
use Rattle.std.proofs.Common.{Ok}
use Rattle.psci_audit.proofs.SoFar.{safe}
use Rattle.psci_audit.proofs.merging.retell.Goals as goal

pub returns-in-Ok-follow_all-clause-safe : goal.returns-in-Ok-follow_all-clause-safe
returns-in-Ok-follow_all-clause-safe c =
    safe c.in-Ok.world.board c.args.board.now _ _ _ _ (Ok c.in-Ok-follow_all.audited)
    c.in-Ok.ensures.board
    c.as_slice-firmware.ensures.value c.as_slice-controller.ensures.value c.law.ensures.board
    c.in-Ok-follow_all.ensures.judged (c.law_told.ensures.safe c.args.board.now)
