-- Platforms to try the definitions on: boards, MPIDRs and power state words as the device trees of
-- two real machines have them, of which firmware may do otherwise.
use Rattle.std.specs.Prelude.{Option}
use Rattle.psci_platform.proofs.Words.{◌++◌, ◌∷◌, [], BoardValue, DescriptionValue, false}
use Rattle.psci_platform.proofs.Words.{Format, Functions, List, Original, PlatformFault, replicate}
use Rattle.psci_platform.proofs.Words.{Row, true, ℕ}
use Rattle.psci_abi.specs.declared.registers.Regs.{Regs}
use Rattle.psci_board.specs.Board.{up}
use Rattle.psci_platform.specs.declared.class.Class.{Class}
use Rattle.psci_platform.specs.declared.class.Class.TheVariants.{Running, Retention, PowerDown}
use Rattle.psci_platform.specs.Calls.{regs_for}
use Rattle.psci_platform.specs.Faults.{boot_fault_of, fault_of, never_falls, row_fault_of}
use Rattle.psci_platform.specs.Faults.{state_fault_of}
use Rattle.psci_platform.specs.Swaps.{is_symmetric, moved}

-- what an example unfolds to compute a fault
unfoldable pub checking : Unit {0}
unfolding fault_of boot_fault_of row_fault_of state_fault_of never_falls is_symmetric moved up
checking = tt

-- what an example unfolds to compute the registers of a call
unfoldable pub calling : Unit {0}
unfolding regs_for moved up
calling = tt

-- registers x0 to x3
abbrev pub regs : ℕ → ℕ → ℕ → ℕ → Regs
regs x0 x1 x2 x3 = record { x0 = x0; x1 = x1; x2 = x2; x3 = x3 }

-- a board of these levels and this format
abbrev pub board : List (List ℕ) → Format → BoardValue
board levels format = record {
  levels = levels;
  ranges = record { start = 0x40000000; end = 0x80000000 } ∷ [];
  boot = 0x40000000;
  starts = 100;
  lives = 10;
  format = format;
}

-- the classes of a level: running, then these, of which the last one is repeated
abbrev pub level : List Class → ℕ → List Class
level classes others = Running ∷ classes ++ replicate others PowerDown

-- a level that is never taken down, or powers down in one state
abbrev pub down : List Class
down = level [] 15

-- a level of one state in retention, and then power-down
abbrev pub retained : List Class
retained = level (Retention ∷ []) 14

-- a row whose bits all count
abbrev pub row : ℕ → List ℕ → Row
row word states = record { word = word; mask = 0xFFFFFFFF; states = states }

-- every function
abbrev pub all_functions : Functions
all_functions = record {
  cpu_suspend = true;
  cpu_off = true;
  cpu_on = true;
  system_off = true;
  system_reset = true;
  node_hw_state = true;
  system_suspend = true;
  system_reset2 = true;
}

-- every function that most firmware has: no NODE_HW_STATE, SYSTEM_SUSPEND and SYSTEM_RESET2
abbrev pub most_functions : Functions
most_functions = record all_functions {
  node_hw_state = false;
  system_suspend = false;
  system_reset2 = false;
}

-- a description with power-down alone at every level
abbrev pub describes : List ℕ → ℕ → List Row → DescriptionValue
describes mpidrs levels rows = record {
  mpidrs = mpidrs;
  levels = levels;
  classes = down ∷ down ∷ down ∷ down ∷ [];
  rows = rows;
  system = 0 ∷ 0 ∷ 0 ∷ 0 ∷ [];
  functions = most_functions;
  resets = [];
}

-- RK3399: clusters of four and of two cores, and the system; here with a reset of the vendor
abbrev pub rk3399_board : BoardValue
rk3399_board = board ((4 ∷ 2 ∷ []) ∷ (2 ∷ []) ∷ []) Original

abbrev pub rk3399 : DescriptionValue
rk3399 = record (describes (0 ∷ 1 ∷ 2 ∷ 3 ∷ 0x100 ∷ 0x101 ∷ []) 2
    (row 0x00010000 (1 ∷ 0 ∷ 0 ∷ 0 ∷ []) ∷ row 0x01010000 (1 ∷ 1 ∷ 0 ∷ 0 ∷ []) ∷ [])) {
      system = 1 ∷ 1 ∷ 1 ∷ 0 ∷ [];
      functions = record all_functions { node_hw_state = false };
      resets = 0x80000001 ∷ [];
    }

-- the fault of a description on RK3399's board
abbrev pub fault : DescriptionValue → Option PlatformFault
fault d = fault_of d rk3399_board 0

-- MT8370: six cores of one cluster, in affinity field 1 and with a gap
abbrev pub mt8370_board : BoardValue
mt8370_board = board ((6 ∷ []) ∷ []) Original

abbrev pub mt8370 : DescriptionValue
mt8370 = describes (0 ∷ 0x100 ∷ 0x200 ∷ 0x300 ∷ 0x600 ∷ 0x700 ∷ []) 1
    (row 0x00010000 (1 ∷ 0 ∷ 0 ∷ 0 ∷ []) ∷ row 0x01010010 (1 ∷ 1 ∷ 0 ∷ 0 ∷ []) ∷ [])
