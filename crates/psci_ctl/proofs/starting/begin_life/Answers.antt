-- Where every domain is off, the start of the boot core begins a life.
use Rattle.std.proofs.Common.{List, length, ap, sym, ◌∙◌, subst, arith}
use Rattle.psci_messages.specs.declared.start.Cause.TheVariants as causes
use Rattle.psci_ctl_spec.specs.Replies.{with_start}
use Rattle.psci_ctl.specs.declared.row.CoreRow.{CoreRow}
use Rattle.psci_ctl.specs.Rows.{HasSums, values_in}
use Rattle.psci_ctl.proofs.Kept.{begun_values, off_sums}
use Rattle.psci_ctl_spec.proofs.Sums.{sum_laws}
use Rattle.psci_ctl.proofs.starting.begin_life.Goals as goal

pub start_core-requires-clause-rows : goal.start_core-requires-clause-rows
start_core-requires-clause-rows c =
    let b = c.args.board.now in
    record {
      cores = omega (arith, c.requires.count, c.forget_starts.auto.cores);
      shape = c.turn_off.ensures.shape;
      sums = subst (λ (rows : List CoreRow). HasSums b rows c.turn_off.new.levels)
          (sym c.forget_starts.ensures)
          (off_sums b (length c.args.rows.now) c.turn_off.new.levels (sum_laws b)
          c.turn_off.ensures.rows);
    }

pub returns-clause-values : goal.returns-clause-values
returns-clause-values c = λ life.
    let b = c.args.board.now in
    c.start_core.ensures.values life
    ∙ ap (λ (rows : List CoreRow). with_start b 0 causes.Boot
    (values_in life rows c.turn_off.new.levels)) c.forget_starts.ensures
    ∙ begun_values b (length c.args.rows.now) c.turn_off.new.levels life c.turn_off.ensures.rows
