-- What is said of a wake-up, and what it leaves.
use Rattle.std.proofs.Common.{ap, sym, ◌∙◌}
use Rattle.psci_ctl.specs.Seen.{seen}
use Rattle.psci_ctl.specs.psci_ctl_spec.declared.call.CtlCall.TheVariants as calls
use Rattle.psci_world_spec.specs.Legal.{said_by}
use Rattle.psci_machine.specs.Seen.{MachineValue, machine_board}
use Rattle.psci_machine.proofs.Kicks.{found, kicked_by, wake_asked, wake_next, woken}
use Rattle.psci_machine.proofs.machine.Machine.wake.Goals as goal

pub returns-clause-said : goal.returns-clause-said
returns-clause-said c =
    let old = c.args.self.now in
    let is = found (machine_board old) c.args.number c.in-Some.core _ c.core.ensures c.in-Some.is in
    λ n. c.note_kick.ensures.said n ∙ ap (said_by n) c.wake-kick.ensures.reply
    ∙ woken old _ _ _ c.args.number n c.starts-halted.result c.in-Some.core c.self.view_is
    c.self.invariant.same is.0 is.1 c.starts-halted.ensures
    (sym c.place.ensures ∙ c.in-Stopped.is)

pub returns-clause-next : goal.returns-clause-next
returns-clause-next c =
    let old = c.args.self.now in
    let is = found (machine_board old) c.args.number c.in-Some.core _ c.core.ensures c.in-Some.is in
    let ctl = c.self.inside.controller in
    λ messages made. wake_next messages made old c.note_kick.new.self c.args.number
    c.wake-kick.result c.note_kick.result (c.note_kick.ensures.said 0)
    (kicked_by old c.note_kick.new.self _ ctl c.wake-kick.new.self _
    (calls.Wake (record { number = c.args.number }) ((seen old.controller).starts c.args.number))
    (calls.Wake c.in-Some.core c.starts-halted.result) c.in-Some.core.number c.args.number
    c.wake-kick.result c.self.view_is c.self.invariant.same
    (wake_asked (seen ctl) c.args.number c.starts-halted.result c.in-Some.core is.1
    c.starts-halted.ensures
    ∙ ap (λ (m : MachineValue). calls.Wake (record { number = c.args.number })
    ((seen m.controller).starts c.args.number)) c.self.view_is)
    (ap (λ x. x.number) (sym is.1)) c.wake-kick.ensures.after c.wake-kick.ensures.ignored
    c.note_kick.ensures.places c.note_kick.ensures.firmware c.note_kick.ensures.controller)
