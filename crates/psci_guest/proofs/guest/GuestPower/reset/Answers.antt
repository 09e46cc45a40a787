-- A core is reset, and enters.
use Rattle.std.specs.Prelude.{◌<◌}
use Rattle.std.proofs.Common.{◌∙◌, ap, subst, sym}
use Rattle.psci_board.specs.Board.{BoardValue, cores}
use Rattle.psci_guest.specs.Pair.{board_of}
use Rattle.psci_guest.proofs.Keeping.{board_arrives, both_arrive, given, reset_turn}
use Rattle.psci_guest.proofs.guest.GuestPower.reset.Goals as goal

pub arrive-requires : goal.arrive-requires
arrive-requires c =
    subst (λ (b : BoardValue). c.args.core.number < cores b)
    (sym (c.reset.ensures.left.board ∙ ap board_of c.self.view_is)) c.requires

pub returns-clause-kicked : goal.returns-clause-kicked
returns-clause-kicked c = λ b ts after.
    let old = c.self.inside.pair in
    reset_turn b ts c.args.core old
    (given c.law_steps.ensures old c.args.self.now c.args.core.number c.self.view_is
    c.self.invariant c.requires b ts after)
    c.reset.result c.reset.new.self
    (record { said = c.reset.ensures.reply; left = c.reset.ensures.left })
    c.arrive.new.self c.arrive.result
    (record {
      none = c.arrive.ensures.none;
      told = c.arrive.ensures.told;
      left = c.arrive.ensures.left;
    })

pub returns-clause-board : goal.returns-clause-board
returns-clause-board c =
    board_arrives c.reset.new.self c.arrive.new.self c.args.core c.arrive.result
    (record {
      none = c.arrive.ensures.none;
      told = c.arrive.ensures.told;
      left = c.arrive.ensures.left;
    })
    ∙ c.reset.ensures.left.board ∙ ap board_of c.self.view_is

pub invariant_of-self : goal.invariant_of-self
invariant_of-self c =
    both_arrive c.reset.new.self c.arrive.new.self c.args.core c.arrive.result
    c.reset.ensures.left.both
    (record {
      none = c.arrive.ensures.none;
      told = c.arrive.ensures.told;
      left = c.arrive.ensures.left;
    })
