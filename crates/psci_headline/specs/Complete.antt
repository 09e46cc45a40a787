-- What is told once firmware and power controller agree: all of it.
use Rattle.std.specs.Prelude.{◌<◌, ◌≡◌, ◌⊎◌, false, List, Option, slice_get, Some, true, ℕ}
use Rattle.psci_headline.specs.psci_board.Board.{BoardValue, cores, HasNode, up}
use Rattle.psci_headline.specs.psci_board.declared.draft.Node.{Node}
use Rattle.psci_headline.specs.psci_fw_laws.Messages.{known_below}
use Rattle.psci_headline.specs.psci_fw_spec.Changes.{in_life}
use Rattle.psci_headline.specs.psci_fw_spec.NodeHwState.{hw_at, node_hw}
use Rattle.psci_headline.specs.psci_fw_spec.Phases.{Away}
use Rattle.psci_headline.specs.psci_fw_spec.Values.{Values}
use Rattle.psci_headline.specs.psci_fw_spec.declared.status.Status.TheVariants.{Off}
use Rattle.psci_headline.specs.psci_messages.Message.{MessageValue}
use Rattle.psci_headline.specs.psci_messages.Slots.{OfCore, Slot}
use Rattle.psci_headline.specs.psci_messages.declared.kind.Kind.TheVariants.{Down}
use Rattle.psci_headline.specs.psci_messages.declared.part.Part.{Part}
use Rattle.psci_headline.specs.psci_world_spec.Legal.{controller_values, firmware_values}
use Rattle.psci_headline.specs.psci_world_spec.declared.said.Record.{Record}

-- All is told of the domains and cores after these records.
pub record IsToldWhole (b : BoardValue) (past : List Record) : Type 0 where
  -- what NODE_HW_STATE says of a domain is the state of the depth that it has
  pub hw : (n : Node) → HasNode b n → node_hw (firmware_values b past) n
      ≡ hw_at ((controller_values b past).depth n.level n.place)
  -- a core that is off or going off is OFF, and no other core is
  pub off : (c : ℕ) → c < cores b → (firmware_values b past).phase c ≡ Away
      → (firmware_values b past).status c ≡ Off
  pub away : (c : ℕ) → c < cores b → (firmware_values b past).status c ≡ Off
      → (firmware_values b past).phase c ≡ Away

-- What the firmware was told of domains and cores, or has yet to be told --------------------------

-- The Down that made the current claim on a domain is outstanding.
pub record IsOutstanding (b : BoardValue) (known : ℕ → ℕ) (outstanding : Slot → Option MessageValue)
    (level place : ℕ) : Type 0 where
  pub message : MessageValue
  pub kind : message.kind ≡ Down
  pub at : outstanding (OfCore message.core.number) ≡ Some message
  -- the domain is on the path of its core, and it has a part for it
  pub on : up b level message.core.number ≡ place
  pub part : Part
  pub listed : slice_get message.parts level ≡ Some part
  -- no core below has entered since it was sent
  pub current : part.generation ≡ known_below b known level place

-- What is asked of a domain has yet to come: the Down that asks it is outstanding, or a core below
-- was started, and has not entered.
abbrev pub IsYetToCome : BoardValue → (ℕ → ℕ) → (ℕ → ℕ) → (Slot → Option MessageValue) → ℕ → ℕ
    → Type 0
IsYetToCome b starts known outstanding level place =
    IsOutstanding b known outstanding level place
    ⊎ (known_below b known level place < known_below b starts level place)

-- a domain is confirmed, or that has yet to come
abbrev pub IsConfirmedOr : BoardValue → (ℕ → ℕ) → Values → ℕ → ℕ → Type 0
IsConfirmedOr b starts v level place =
    (v.confirmed level place ≡ true)
    ⊎ IsYetToCome b starts v.known v.outstanding level place

-- a core is OFF, or that has yet to come
abbrev pub IsOffOr : BoardValue → (ℕ → ℕ) → Values → ℕ → Type 0
IsOffOr b starts v c = (v.status c ≡ Off) ⊎ IsYetToCome b starts v.known v.outstanding 0 c

-- What the firmware's values say of domains that were granted something, and of cores that are off
-- or going off, beside how often each core was started.
pub record AreConfirming (b : BoardValue) (starts : ℕ → ℕ) (v : Values) : Type 0 where
  pub domains : (level place : ℕ) → 0 < v.granted level place → IsConfirmedOr b starts v level place
  pub cores : v.halting ≡ false → (c : ℕ) → c < cores b → v.phase c ≡ Away → IsOffOr b starts v c

-- the same after these records, in the power controller's life
abbrev pub Confirming : BoardValue → List Record → Type 0
Confirming b past = (life : ℕ) → (controller_values b past).life ≡ Some life
    → AreConfirming b (controller_values b past).starts (in_life b life (firmware_values b past))
