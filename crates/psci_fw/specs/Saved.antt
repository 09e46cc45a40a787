-- A firmware that was opened from words, and why none was.
use Rattle.std.specs.Prelude.{◌≡◌, ℕ, List, None, Some}
use Rattle.psci_board.specs.Board.{BoardValue}
use Rattle.psci_fw_state.specs.Saved.{IsSavable, saved, saved_fault}
use Rattle.psci_fw_state.specs.Seen.{IsState}
use Rattle.psci_fw.specs.declared.fault.OpenFault.{OpenFault}
use Rattle.psci_fw.specs.declared.fault.OpenFault.TheVariants.{Memory, Words, Values}
use Rattle.psci_fw.specs.Reactions.{FirmwareValue, IsFirmware}

-- A firmware was opened from these words: it is of this board, and is saved as the same words.
pub record IsOpened (b : BoardValue) (ws : List ℕ) (f : FirmwareValue) : Type 0 where
  pub firmware : IsFirmware f
  pub board : f.board ≡ b
  pub words : saved f ≡ ws
  pub state : IsState f
  pub savable : IsSavable f

-- no firmware of this board is saved as these words
abbrev pub IsNeverSaved : BoardValue → List ℕ → Type 0
IsNeverSaved b ws = (f : FirmwareValue) → IsFirmware f → IsState f → f.board ≡ b → IsSavable f
    → saved f ≡ ws → ⊥

-- none was opened: there is no memory, the words have a fault, or they have none, and yet no
-- firmware of this board is saved as them
abbrev pub IsRefused : BoardValue → List ℕ → OpenFault → Type 0
IsRefused b ws Memory = Unit {0}
IsRefused b ws (Words fault) = saved_fault b ws ≡ Some fault
IsRefused b ws Values = (saved_fault b ws ≡ None) × IsNeverSaved b ws
