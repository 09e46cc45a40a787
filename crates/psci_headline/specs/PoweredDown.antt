-- What acknowledgements and the start of a life say of cores that are powered down.
use Rattle.std.specs.Prelude.{◌≡◌, ℕ, ◌<◌, ◌≤◌, true, List, Some, slice_get}
use Rattle.psci_board.specs.Board.{BoardValue}
use Rattle.psci_ctl_spec.specs.psci_messages.declared.kind.Kind.TheVariants.{Down}
use Rattle.psci_ctl_spec.specs.psci_messages.Message.{AckValue}
use Rattle.psci_fw_laws.specs.psci_fw_spec.Phases.{Running, Away}
use Rattle.psci_fw_laws.specs.psci_fw_spec.Values.{Values}
use Rattle.psci_world_spec.specs.declared.said.Record.{Record}
use Rattle.psci_world_spec.specs.Legal.{acks, controller_values, firmware_values}
use Rattle.psci_headline.specs.Safe.{was_powered_down, is_reported_off}

-- What the acknowledgement of a Down of which a part was applied says of its core, beside the
-- firmware's values.
pub record IsDownBy (b : BoardValue) (past : List Record) (v : Values) (a : AckValue) : Type 0 where
  -- it is of no later life than the firmware's, and of no later start than the known one
  pub begun : a.life ≤ v.life
  pub number : a.life ≡ v.life → a.number ≤ v.known a.core.number
  -- as long as its start is the known one, its core does not run
  pub rests : a.life ≡ v.life → a.number ≡ v.known a.core.number
      → v.phase a.core.number ≡ Running → ⊥
  -- and if the core is off or going off, it was powered down since it last went on
  pub slept : a.life ≡ v.life → a.number ≡ v.known a.core.number
      → v.phase a.core.number ≡ Away → was_powered_down b v.life past a.core.number ≡ true

-- Which cores were powered down, after these records.
pub record AreDown (b : BoardValue) (past : List Record) : Type 0 where
  -- those that are reported OFF
  pub off : (c : ℕ) → is_reported_off b past c ≡ true
      → was_powered_down b (firmware_values b past).life past c ≡ true
  -- those of whose Down a part was applied
  pub acked : (k : ℕ) (a : AckValue) → slice_get (acks past) k ≡ Some a → a.kind ≡ Down
      → 0 < a.applied → IsDownBy b past (firmware_values b past) a
  -- in a life that the firmware does not know of yet, each but the boot core
  pub fresh : (life c : ℕ) → (controller_values b past).life ≡ Some life
      → ((firmware_values b past).life ≡ life → ⊥) → (c ≡ 0 → ⊥)
      → was_powered_down b life past c ≡ true
