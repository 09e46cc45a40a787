-- Power-down as far up as all is off.
use Rattle.std.proofs.Common.{◌∙◌, ap}
use Rattle.psci_messages.specs.Claim.{own_claims}
use Rattle.psci_messages.specs.Looked.{view_of}
use Rattle.psci_osi.proofs.Gathered.{own-off}
use Rattle.psci_osi.proofs.off.off_ask.Goals as goal

pub returns : goal.returns
returns c =
    ap (own_claims c.args.board.now (view_of c.args.tree.now) c.args.core.number)
    c.deepest.ensures.value
    ∙ own-off c.args.board.now (view_of c.args.tree.now) c.args.core.number
    c.highest_off.result c.highest_off.ensures.inside.1
    c.highest_off.ensures.inside.0 c.highest_off.ensures.off
    c.highest_off.ensures.last
