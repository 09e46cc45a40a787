-- Whether a claim may be granted.
use Rattle.std.specs.Prelude.{◌≡◌, ◌≤◌, ◌<◌, ◌+◌, ℕ, List, length}
use Rattle.psci_board.specs.Board.{BoardValue, cores, height, up}
use Rattle.psci_messages.specs.declared.part.Part.{Part}
use Rattle.psci_messages.specs.Message.{AreClaims}
use Rattle.psci_fw_spec.specs.Values.{granted_with}

-- The parts of a core may be granted: they are of levels of the board, nothing is granted on the
-- core's path, and once they are, no domain is granted more than the one below it on a path.
pub record MayClaim (b : BoardValue) (c : ℕ) (parts : List Part) (granted : ℕ → ℕ → ℕ)
    : Type 0 where
  pub few : length parts ≤ height b + 1
  pub free : (level : ℕ) → level ≤ height b → granted level (up b level c) ≡ 0
  pub nested : (core level : ℕ) → core < cores b → level < height b
      → granted_with b c parts granted (level + 1) (up b (level + 1) core)
      ≤ granted_with b c parts granted level (up b level core)

-- a core of the board may claim these parts: they are such as a core claims, and may be granted
pub record IsGrantable (b : BoardValue) (c : ℕ) (parts : List Part) (granted : ℕ → ℕ → ℕ)
    : Type 0 where
  pub inside : c < cores b
  pub claims : AreClaims parts
  pub may : MayClaim b c parts granted
