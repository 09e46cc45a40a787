-- A core is woken, and enters.
use Rattle.std.specs.Prelude.{◌<◌, ◌≡◌, Bool, false, true}
use Rattle.psci_world_spec.specs.declared.place.Place.TheVariants.{Running, Stopped}
use Rattle.std.proofs.Common.{◌∙◌, ap, subst, sym}
use Rattle.psci_board.specs.Board.{BoardValue, cores}
use Rattle.psci_guest.specs.Pair.{board_of}
use Rattle.psci_guest.proofs.Keeping.{at_rest, board_arrives, both_arrive, given, in_motion}
use Rattle.psci_guest.proofs.Keeping.{wake_turn}
use Rattle.psci_guest.proofs.guest.GuestPower.wake.Goals as goal

stands : (r t : Bool) → r ≡ true → r ≡ t → t ≡ true
stands r t e same = sym same ∙ e

moves : (r t : Bool) → r ≡ false → r ≡ t → t ≡ false
moves r t e same = sym same ∙ e

pub arrive-requires : goal.arrive-requires
arrive-requires c =
    subst (λ (b : BoardValue). c.args.core.number < cores b)
    (sym (c.wake.ensures.left.board ∙ ap board_of c.self.view_is)) c.requires

pub returns-then-not-stands-clause-woken : goal.returns-then-not-stands-clause-woken
returns-then-not-stands-clause-woken c = λ b ts after not.
    let old = c.self.inside.pair in
    absurd (not (in_motion b ts c.args.core old
    (given c.law_steps.ensures old c.args.self.now c.args.core.number c.self.view_is
    c.self.invariant c.requires b ts after)
    (moves c.stands.result _ c.if-not-stands.true c.stands.ensures)))

pub returns-clause-running : goal.returns-clause-running
returns-clause-running c = λ b ts after at.
    let old = c.self.inside.pair in
    let rests = at_rest b ts c.args.core old
    (given c.law_steps.ensures old c.args.self.now c.args.core.number c.self.view_is
    c.self.invariant c.requires b ts after)
    (stands c.stands.result _ c.if-not-stands.false c.stands.ensures) in
    let no : Running ≡ Stopped = sym at ∙ rests in absurd (cc)

pub returns-clause-woken : goal.returns-clause-woken
returns-clause-woken c = λ b ts after not.
    let old = c.self.inside.pair in
    wake_turn b ts c.args.core old
    (given c.law_steps.ensures old c.args.self.now c.args.core.number c.self.view_is
    c.self.invariant c.requires b ts after)
    (stands c.stands.result _ c.if-not-stands.false c.stands.ensures)
    c.wake.result c.wake.new.self
    (record { said = c.wake.ensures.reply; left = c.wake.ensures.left })
    c.arrive.new.self c.arrive.result
    (record {
      none = c.arrive.ensures.none;
      told = c.arrive.ensures.told;
      left = c.arrive.ensures.left;
    })

pub returns-clause-board : goal.returns-clause-board
returns-clause-board c =
    board_arrives c.wake.new.self c.arrive.new.self c.args.core c.arrive.result
    (record {
      none = c.arrive.ensures.none;
      told = c.arrive.ensures.told;
      left = c.arrive.ensures.left;
    })
    ∙ c.wake.ensures.left.board ∙ ap board_of c.self.view_is

pub invariant_of-self : goal.invariant_of-self
invariant_of-self c =
    both_arrive c.wake.new.self c.arrive.new.self c.args.core c.arrive.result
    c.wake.ensures.left.both
    (record {
      none = c.arrive.ensures.none;
      told = c.arrive.ensures.told;
      left = c.arrive.ensures.left;
    })
