-- What is said of a reset, and what it leaves.
use Rattle.std.proofs.Common.{ap, sym, ◌∙◌}
use Rattle.psci_ctl.specs.psci_ctl_spec.declared.call.CtlCall.TheVariants as calls
use Rattle.psci_world_spec.specs.Legal.{said_by}
use Rattle.psci_machine.specs.Seen.{machine_board}
use Rattle.psci_machine.proofs.Kicks.{found, kicked_by, reset_next, reset_said}
use Rattle.psci_machine.proofs.machine.Machine.reset.Goals as goal

pub returns-clause-said : goal.returns-clause-said
returns-clause-said c =
    let old = c.args.self.now in
    let is = found (machine_board old) c.args.number c.in-Some.core _ c.core.ensures c.in-Some.is in
    λ n. c.note_kick.ensures.said n ∙ ap (said_by n) c.reset-kick.ensures.reply
    ∙ reset_said old _ _ _ c.args.number n c.in-Some.core c.self.view_is
    c.self.invariant.same is.0 is.1

pub returns-clause-next : goal.returns-clause-next
returns-clause-next c =
    let old = c.args.self.now in
    let is = found (machine_board old) c.args.number c.in-Some.core _ c.core.ensures c.in-Some.is in
    let ctl = c.self.inside.controller in
    λ messages made. reset_next messages made old c.note_kick.new.self c.args.number
    c.reset-kick.result c.note_kick.result (c.note_kick.ensures.said 0)
    (kicked_by old c.note_kick.new.self _ ctl c.reset-kick.new.self _
    (calls.Reset (record { number = c.args.number })) (calls.Reset c.in-Some.core)
    c.in-Some.core.number c.args.number c.reset-kick.result c.self.view_is
    c.self.invariant.same (ap calls.Reset (sym is.1))
    (ap (λ x. x.number) (sym is.1)) c.reset-kick.ensures.after c.reset-kick.ensures.ignored
    c.note_kick.ensures.places c.note_kick.ensures.firmware c.note_kick.ensures.controller)
