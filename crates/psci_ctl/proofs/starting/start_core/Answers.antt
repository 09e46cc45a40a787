-- The sums of starts on the core's path have room for one more, and get it.
use Rattle.std.proofs.Common.{◌∙◌, arith}
use Rattle.std.proofs.lemmas.List.{length-set}
use Rattle.psci_board.specs.Board.{up}
use Rattle.psci_ctl.proofs.Kept.{room, started_sums, started_values}
use Rattle.psci_ctl_spec.proofs.Sums.{sum_laws}
use Rattle.psci_ctl.proofs.starting.start_core.Goals as goal

pub run_path-requires-clause-room : goal.run_path-requires-clause-room
run_path-requires-clause-room c = λ l low.
    let b = c.args.board.now in
    room b c.args.rows.now c.args.levels.now l (up b l c.args.core.number)
    (sum_laws b)
    (omega (arith, (c.law_sizes.ensures b c.cores-cores.ensures.board).most 0)) c.requires.room.few
    c.requires.rows.sums low

pub returns-clause-rows : goal.returns-clause-rows
returns-clause-rows c =
    let b = c.args.board.now in
    record {
      cores = length-set c.args.rows.now c.args.core.number _ ∙ c.requires.rows.cores;
      shape = c.run_path.ensures.shape;
      sums = started_sums b c.args.rows.now c.args.levels.now c.run_path.new.levels
          c.args.core.number c.args.cause (sum_laws b) c.requires.core
          (omega (arith, c.requires.core, c.requires.rows.cores)) c.requires.rows.sums
          c.run_path.ensures.rows;
    }

pub returns-clause-values : goal.returns-clause-values
returns-clause-values c =
    started_values c.args.board.now c.args.rows.now c.args.levels.now c.run_path.new.levels
    c.args.core.number c.args.cause (omega (arith, c.requires.core, c.requires.rows.cores))
    c.run_path.ensures.rows
