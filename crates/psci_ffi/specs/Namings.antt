-- What is in a place: a firmware, the power of a guest, or one who polls; and what calls name
-- cores, domains, states and functions by.
use Rattle.std.specs.Prelude.{◌≡◌, List, None, Option, Some, map, ℕ}
use Rattle.atomic_table.specs.Seated.{TableId}
use Rattle.psci_abi.specs.declared.registers.Regs.{Regs}
use Rattle.psci_board.specs.Board.{BoardValue, core_of}
use Rattle.psci_fw_spec.specs.declared.mode.SuspendMode.{SuspendMode}
use Rattle.psci_platform.specs.declared.asked.Asked.{Asked}
use Rattle.psci_platform.specs.declared.asked.Asked.TheVariants.{Nothing}
use Rattle.psci_platform.specs.Calls.{asked_for, regs_for}
use Rattle.psci_platform.specs.Cores.{core_word}
use Rattle.psci_platform.specs.Platforms.{PlatformValue}
use Rattle.psci_status.specs.Lists.{IsPolledAs, Item, PolledView, newest}
use Rattle.psci_guest.specs.Pair.{PairValue}
use Rattle.psci_abi.specs.declared.registers.Code.{Code}
use Rattle.psci_ffi.specs.declared.naming.Naming.{Naming}
use Rattle.psci_ffi.specs.declared.naming.Naming.TheVariants.{Board, Machine}

-- A firmware with its status words, and the machine that it was opened with, if there is one.
pub record PlaceValue : Type 0 where
  pub polled : PolledView
  pub machine : Option PlatformValue

-- the board, of its own words or of the machine
abbrev pub board_of : Naming → BoardValue
board_of (Board b) = b.value
board_of (Machine m) = m.value.board

-- the machine, if it has words of its own
abbrev pub machine_of : Naming → Option PlatformValue
machine_of (Board b) = None
machine_of (Machine m) = Some m.value

-- the registers that the firmware is called with in this mode: as they are without a machine
abbrev pub regs_in : Option PlatformValue → SuspendMode → Regs → Regs
regs_in None mode regs = regs
regs_in (Some m) mode regs = regs_for m.description m.board m.place mode regs

-- what is asked beside the call: nothing without a machine
abbrev pub asked_in : Option PlatformValue → SuspendMode → Regs → Asked
asked_in None mode regs = Nothing
asked_in (Some m) mode regs = asked_for m.description mode regs

-- the affinity word of the board for that of a core in a call: as it is without a machine
abbrev pub word_in : Option PlatformValue → ℕ → ℕ
word_in None affinity = affinity
word_in (Some m) affinity = core_word m.description m.board m.place affinity 0

-- Guests ------------------------------------------------------------------------------------------

-- The power of a guest, and the machine that its place was opened with, if there is one.
pub record GuestValue : Type 0 where
  pub power : PairValue
  pub machine : Option PlatformValue

-- One who polls -----------------------------------------------------------------------------------

-- one who polls: the board, the machine, if there is one, the table of the status words, and what
-- it has seen of each core
pub record WatchView : Type 0 where
  pub board : BoardValue
  pub machine : Option PlatformValue
  pub table : TableId
  pub seen : List (List Item)

-- one who polls this firmware, and has seen the last status of each core
pub record IsWatchOf (f : PlaceValue) (w : WatchView) : Type 0 where
  pub board : w.board ≡ f.polled.firmware.board
  pub machine : w.machine ≡ f.machine
  pub table : w.table ≡ f.polled.table
  pub seen : w.seen ≡ map newest f.polled.written

-- a poll of the core that the word names, of the board or of the machine, was answered this code
pub record HasPolled (w : WatchView) (word : ℕ) (code : Code) (w' : WatchView) : Type 0 where
  pub board : w'.board ≡ w.board
  pub machine : w'.machine ≡ w.machine
  pub table : w'.table ≡ w.table
  pub answer : IsPolledAs (core_of w.board (word_in w.machine word)) w.seen w'.seen code
