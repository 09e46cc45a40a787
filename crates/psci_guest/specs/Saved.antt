-- Firmware and power controller as words of 64 bits, and why words are refused.
use Rattle.std.specs.Prelude.{◌≡◌, ℕ, ◌+◌, List, ◌++◌, take, drop, Some}
use Rattle.psci_board.specs.Board.{BoardValue}
use Rattle.psci_ctl.specs.Saved as behind
use Rattle.psci_ctl.specs.Seen.{IsController}
use Rattle.psci_ctl.specs.declared.fault.SavedFault.{SavedFault as ControllerFault}
use Rattle.psci_fw.specs.Saved as opening
use Rattle.psci_fw.specs.Reactions.{FirmwareValue, IsFirmware}
use Rattle.psci_fw.specs.declared.fault.OpenFault.{OpenFault}
use Rattle.psci_fw.specs.declared.fault.OpenFault.TheVariants as opens
use Rattle.psci_fw_state.specs.Saved as own
use Rattle.psci_fw_state.specs.Seen.{IsState}
use Rattle.psci_guest.specs.declared.fault.LoadFault.{LoadFault}
use Rattle.psci_guest.specs.declared.fault.LoadFault.TheVariants as faults
use Rattle.psci_guest.specs.Pair.{IsPair, PairValue}

-- Words ------------------------------------------------------------------------------------------

-- the words that both are saved as: the firmware's, then the power controller's
abbrev pub saved : PairValue → List ℕ
saved p = own.saved p.firmware ++ behind.saved p.controller

-- how many words a board's firmware is saved as
abbrev pub firmware_count : BoardValue → ℕ
firmware_count b = 5 + own.part_count b

-- the firmware's of some words
abbrev pub firmware_words : BoardValue → List ℕ → List ℕ
firmware_words b words = take (firmware_count b) words

-- the power controller's of some words: all behind the firmware's
abbrev pub controller_words : BoardValue → List ℕ → List ℕ
controller_words b words = drop (firmware_count b) words

-- Both as they are saved: what is saved of them says all that they keep.
pub record AreSaved (p : PairValue) : Type 0 where
  pub both : IsPair p
  pub firmware : IsFirmware p.firmware
  pub state : IsState p.firmware
  pub savable : own.IsSavable p.firmware
  pub controller : IsController p.controller

-- Refusals ---------------------------------------------------------------------------------------

-- The firmware's words are a firmware's, and the power controller's have this fault.
pub record IsRefusedBehind (b : BoardValue) (words : List ℕ) (fault : ControllerFault) : Type 0
  where
    pub firmware : FirmwareValue
    pub opened : opening.IsOpened b (firmware_words b words) firmware
    pub found : behind.saved_fault b (controller_words b words) ≡ Some fault

-- Words of this board are refused so: for want of memory, of which nothing is said; by the first
-- fault of the firmware's words; since no firmware is saved as these; or by the first fault of the
-- power controller's.
abbrev pub IsRefused : BoardValue → List ℕ → LoadFault → Type 0
IsRefused b words faults.Memory = opening.IsRefused b (firmware_words b words) opens.Memory
IsRefused b words (faults.Firmware fault) =
    opening.IsRefused b (firmware_words b words) (opens.Words fault)
IsRefused b words faults.Values = opening.IsRefused b (firmware_words b words) opens.Values
IsRefused b words (faults.Controller fault) = IsRefusedBehind b words fault

-- why a guest's words are refused, where the firmware's were
abbrev pub load_fault : OpenFault → LoadFault
load_fault opens.Memory = faults.Memory
load_fault (opens.Words fault) = faults.Firmware fault
load_fault opens.Values = faults.Values
