-- The boot core enters.
use Rattle.std.proofs.Common.{subst}
use Rattle.psci_board.specs.Board.{IsBoard}
use Rattle.psci_guest.proofs.Keeping.{boot, both_arrive, opened, opened_by}
use Rattle.psci_guest.proofs.guest.GuestPower.open.Goals as goal

pub returns-clause-after : goal.returns-clause-after
returns-clause-after c =
    opened c.args.board.now c.in_ok-pair.pair
    (record {
      steps = c.law_steps.ensures c.args.board.now
          (subst IsBoard c.in_ok-pair.ensures.board c.in_ok-pair.ensures.sound.board);
      board = c.in_ok-pair.ensures.board;
      kept = c.in_ok-pair.ensures.kept;
    })
    c.arrive-arrival.new.self c.arrive-arrival.result
    (record {
      none = c.arrive-arrival.ensures.none;
      told = c.arrive-arrival.ensures.told;
      left = c.arrive-arrival.ensures.left;
    })

pub returns-clause-arrival : goal.returns-clause-arrival
returns-clause-arrival c =
    opened_by c.args.board.now c.in_ok-pair.pair
    (record {
      steps = c.law_steps.ensures c.args.board.now
          (subst IsBoard c.in_ok-pair.ensures.board c.in_ok-pair.ensures.sound.board);
      board = c.in_ok-pair.ensures.board;
      kept = c.in_ok-pair.ensures.kept;
    })
    c.arrive-arrival.new.self c.arrive-arrival.result
    (record {
      none = c.arrive-arrival.ensures.none;
      told = c.arrive-arrival.ensures.told;
      left = c.arrive-arrival.ensures.left;
    })

pub invariant_of-result : goal.invariant_of-result
invariant_of-result c =
    both_arrive c.in_ok-pair.pair c.arrive-arrival.new.self boot c.arrive-arrival.result
    c.in_ok-pair.ensures.sound
    (record {
      none = c.arrive-arrival.ensures.none;
      told = c.arrive-arrival.ensures.told;
      left = c.arrive-arrival.ensures.left;
    })
