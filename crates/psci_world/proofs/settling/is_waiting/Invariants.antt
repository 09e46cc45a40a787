-- Something is outstanding for one of the cores that are left, or for none.
use Rattle.std.proofs.Common.{◌≡◌, ◌-◌}
use Rattle.std.specs.List.{list_any, range_with_len}
use Rattle.std.specs.Prelude.{is_some}
use Rattle.psci_machine.specs.psci_board.Board.{cores}
use Rattle.psci_machine.specs.psci_world_spec.psci_messages.Slots.{OfCore}
use Rattle.psci_headline.specs.Settling.{is_waiting}
use Rattle.psci_machine.specs.psci_world_spec.Legal.{firmware_values}
use Rattle.psci_world.proofs.settling.is_waiting.Given as goal

abbrev pub invariant-loop-number : goal.invariant-loop-number
invariant-loop-number l =
    list_any (λ c. is_some ((firmware_values l.world.board l.world.past).outstanding (OfCore c)))
    (range_with_len l.number (cores l.world.board - l.number))
    ≡ is_waiting l.world.board l.world.past
