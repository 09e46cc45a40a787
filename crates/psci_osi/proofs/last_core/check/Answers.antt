-- The answer is that of the reason, if there is one.
use Rattle.std.proofs.Common.{◌∙◌, ap, Ok}
use Rattle.psci_messages.specs.Claim.{answer_by, last_core_check, own_claims}
use Rattle.psci_messages.specs.Looked.{view_of}
use Rattle.psci_osi.proofs.last_core.check.Goals as goal

pub returns-in-Some : goal.returns-in-Some
unfolding last_core_check
returns-in-Some c =
    ap (λ r. answer_by r (own_claims c.args.board.now (view_of c.args.tree.now) c.args.core.number
    c.args.ask)) (c.in-Some.ensures {u = tt})

pub returns-in-None : goal.returns-in-None
unfolding last_core_check
returns-in-None c =
    ap Ok c.own_parts.ensures
    ∙ ap (λ r. answer_by r (own_claims c.args.board.now (view_of c.args.tree.now) c.args.core.number
    c.args.ask)) (c.in-None.ensures {u = tt})
