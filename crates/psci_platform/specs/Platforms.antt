-- A platform whose description has no fault, and the firmware of its board.
use Rattle.std.specs.Prelude.{◌≡◌, ◌<◌, ℕ, true, Option, None, is_some}
use Rattle.psci_abi.specs.declared.registers.Regs.{Regs}
use Rattle.psci_board.specs.Board.{BoardValue, cores}
use Rattle.psci_fw.specs.Reactions.{FirmwareValue, seen}
use Rattle.psci_platform.specs.Calls.{regs_for}
use Rattle.psci_platform.specs.Cores.{boot_place}
use Rattle.psci_platform.specs.Described.{DescriptionValue}
use Rattle.psci_platform.specs.Faults.{fault_of}
use Rattle.psci_platform.specs.Swaps.{is_symmetric}

-- A platform as contracts see it.
pub record PlatformValue : Type 0 where
  pub description : DescriptionValue
  pub board : BoardValue
  -- the MPIDR of the boot core
  pub boot : ℕ
  -- its place in the order of the tree
  pub place : ℕ
  -- what is found out once: what the rows are, and the names of so many levels, from the cores up
  pub ready : Option ℕ

-- The description has no fault. So the boot core is one of the board, and is swapped with core 0.
pub record IsPlatform (p : PlatformValue) : Type 0 where
  pub faultless : fault_of p.description p.board p.boot ≡ None
  pub place : p.place ≡ boot_place p.description p.board p.boot
  pub inside : p.place < cores p.board
  pub symmetric : is_symmetric p.board p.place ≡ true

-- the same platform, in order: what is found out once is there
pub record IsInOrder (p ordered : PlatformValue) : Type 0 where
  pub same : ordered ≡ record p { ready = ordered.ready }
  pub ready : is_some ordered.ready ≡ true

-- The firmware of a platform as contracts see it.
pub record PlatformFirmwareValue : Type 0 where
  pub platform : PlatformValue
  pub firmware : FirmwareValue

-- the firmware is that of the platform's board
abbrev pub IsPlatformFirmware : PlatformFirmwareValue → Type 0
IsPlatformFirmware f = f.firmware.board ≡ f.platform.board

-- the registers that the firmware is called with, in the mode that it is in
abbrev pub called : PlatformFirmwareValue → Regs → Regs
called f regs =
    regs_for f.platform.description f.platform.board f.platform.place (seen f.firmware).mode regs
