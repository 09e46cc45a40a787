-- Runs that only reset the system, with which a power controller that counted on is in step.
use Rattle.std.specs.Prelude.{ℕ, zero, suc, List, [], ◌∷◌}
use Rattle.psci_board.specs.Board.{BoardValue}
use Rattle.psci_world_spec.specs.psci_abi.declared.registers.Regs.{Regs}
use Rattle.psci_world_spec.specs.declared.event.Event.{Event}
use Rattle.psci_world_spec.specs.declared.event.Event.TheVariants.{Call, Enter, Deliver}
use Rattle.psci_world_spec.specs.declared.said.Record.{Record}
use Rattle.psci_world_spec.specs.Legal.{legal_record}

-- SYSTEM_RESET
abbrev pub reset_call : Regs
reset_call = record { x0 = 0x84000009; x1 = 0; x2 = 0; x3 = 0 }

-- the records with what is legal to say of one event more
abbrev pub followed : BoardValue → List Record → Event → List Record
followed b past event = legal_record b past event ∷ past

-- A run of so many lives: in each the boot core enters and calls SYSTEM_RESET, and the message is
-- delivered.
unfoldable pub rebooted : BoardValue → ℕ → List Record
rebooted b zero = []
rebooted b (suc n) =
    followed b (followed b (followed b (rebooted b n) (Enter 0)) (Call 0 reset_call)) (Deliver n)
