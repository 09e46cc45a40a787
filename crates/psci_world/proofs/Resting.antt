-- A world that does not halt comes to rest.
use Rattle.std.proofs.Common.{◌≡◌, List, ◌++◌, Ok, Err, ◌∙◌}
use Rattle.std.specs.Prelude.{IfOk, Result}
use Rattle.psci_machine.specs.psci_board.Board.{BoardValue}
use Rattle.psci_machine.specs.psci_board.declared.memory.Memory.{Memory}
use Rattle.psci_headline.specs.Settling.{IsSettled, settled}
use Rattle.psci_world.specs.declared.settling.Settled.{Settled}
use Rattle.psci_world.specs.declared.settling.Settled.TheVariants.{Quiet}
use Rattle.psci_world.specs.Settles.{ComesToRest}
use Rattle.psci_machine.specs.psci_world_spec.declared.said.Record.{Record}

-- what the law says of a past
abbrev pub Settling : BoardValue → List Record → Type 0
Settling b before = (added : List Record) × ((settled b before).past ≡ added ++ before)
    × IsSettled b before added (settled b before).rounds

pub comes_to_rest : (b : BoardValue) (before after : List Record) (result : Result Settled Memory)
    → Settling b before
    → IfOk result (λ s. (s ≡ Quiet (settled b before).rounds)
    × (after ≡ (settled b before).past))
    → IfOk result (λ s. ComesToRest b before after s)
comes_to_rest b before after (Ok s) law is = record {
  rounds = (settled b before).rounds;
  added = law.0;
  quiet = is.0;
  more = is.1 ∙ law.1;
  settled = law.2;
}
comes_to_rest b before after (Err memory) law is = is
