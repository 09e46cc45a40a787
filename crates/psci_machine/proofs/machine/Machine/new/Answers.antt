-- A new machine is as before any record.
use Rattle.std.proofs.Common.{◌<◌, sym, subst, ◌∙◌}
use Rattle.psci_world_spec.specs.Legal.{controller_history, firmware_history, place}
use Rattle.psci_machine.proofs.machine.Machine.new.Goals as goal

pub returns-clause-after : goal.returns-clause-after
unfolding firmware_history controller_history place
returns-clause-after c = record {
  board = c.in_ok-new.ensures.board;
  firmware = c.in_ok-new.ensures.values ∙ sym (c.law_values.ensures.first c.args.board.now);
  controller = c.in_ok-new-2.ensures.values
      ∙ sym (c.law_values-2.ensures.first c.args.board.now);
  places = λ k inside. c.in_ok-first_places.ensures.place k
      (subst (λ n. k < n) (sym c.cores.ensures.cores) inside);
}
