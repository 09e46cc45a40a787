-- What is left of the events leads to the whole run.
use Rattle.std.proofs.Common.{◌≡◌, [], drop}
use Rattle.psci_machine.specs.psci_world_spec.Legal.{run_from}
use Rattle.psci_world.proofs.settling.run.Given as goal

abbrev pub invariant-loop-event : goal.invariant-loop-event
invariant-loop-event l = record {
  board : l.world.board ≡ l.board;
  rest : run_from l.board l.world.past (drop l.event-index l.events)
      ≡ run_from l.board [] l.events;
}
