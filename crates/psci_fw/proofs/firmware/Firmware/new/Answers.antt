-- The firmware is new, at the start of a life.
use Rattle.psci_board.specs.Board.{IsBoard}
use Rattle.psci_fw.proofs.firmware.Firmware.new.Goals as goal

pub invariant_of-result : goal.invariant_of-result
invariant_of-result c =
    let same = c.in_ok-state.ensures.board in
    let values = c.in_ok-state.ensures.values in
    let valid : IsBoard c.args.board.now = c.in_ok-state.ensures.valid in
    record {
      board = rw same valid;
      values = rw (values, same) (c.law_invariant.ensures.first c.args.board.now 0 valid);
      fresh = rw (values, same) (c.law_fresh.ensures.first c.args.board.now);
      lives = rw (values, same) (c.law_lives.ensures.first c.args.board.now);
    }
