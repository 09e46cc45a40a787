-- What the power controller's side has of a port, and which acts of the port are its own.
use Rattle.std.specs.Prelude.{◌≡◌, ℕ, ◌<◌, ◌≤◌, Bool, true, false, replicate}
use Rattle.psci_board.specs.Board.{BoardValue, cores}
use Rattle.psci_ctl_spec.specs.Values.{start_of_life}
use Rattle.psci_port.specs.Port.{Port, Act, Delivers, Wakes, Resets, Writes, Rises, Opens, Restarts}
use Rattle.psci_port.specs.Port.{Reboots, stage_at, step, words}
use Rattle.psci_port.specs.Rules.{LacksLock, May}
use Rattle.psci_port.specs.Stages.{is_armed}
use Rattle.psci_control.specs.ControlSide.{ControlValue, board_of, closed, gate_in, heard}
use Rattle.psci_control.specs.ControlSide.{values_of}

-- It has the doors and the power controller's values, and of each core a word that is no later than
-- the core's own.
pub record IsSideOf (b : BoardValue) (s : ControlValue) (p : Port) : Type 0 where
  pub board : board_of s ≡ b
  pub values : values_of s ≡ p.values
  pub written : (c : ℕ) → c < cores b → (gate_in s.gates c).written ≡ (p.row c).door
  pub opened : (c : ℕ) → c < cores b → (gate_in s.gates c).opened ≡ (p.row c).opened
  pub heard : (c : ℕ) → c < cores b → heard s c ≤ words p c

-- as power comes on
pub record IsNew (b : BoardValue) (s : ControlValue) : Type 0 where
  pub board : board_of s ≡ b
  pub values : values_of s ≡ start_of_life b
  pub gates : s.gates ≡ replicate (cores b) closed

-- This act keeps the rules, and leaves a port of which this side has what it has of a port.
pub record IsRightly (b : BoardValue) (s : ControlValue) (p : Port) (act : Act) : Type 0 where
  pub may : May b p act
  pub side : IsSideOf b s (step b p act)

-- an armed core has not the lock: on a machine where none is armed, none has
abbrev pub ArmedLacks : Port → ℕ → Type 0
ArmedLacks p c = is_armed (stage_at p c) ≡ true → LacksLock p c

-- an act of a core, or of what switches power: none of the power controller
abbrev pub is_apart : Act → Bool
is_apart (Delivers k m) = false
is_apart (Wakes c) = false
is_apart (Resets c) = false
is_apart (Rises c) = false
is_apart (Writes c) = false
is_apart (Opens c) = false
is_apart Restarts = false
is_apart Reboots = false
is_apart act = true
