-- The description of a machine that a struct of C gives, its faults as numbers, and what an opening
-- with it leaves: of a firmware, or of the power of a guest.
use Rattle.std.specs.Prelude.{if◌then◌else◌, ◌%◌, ◌&&◌, ◌+◌, ◌/◌, ◌==◌, ◌∷◌, ◌≡◌, Bool, Err, IsOk}
use Rattle.std.specs.Prelude.{IsSomeAnd, List, None, Ok, Option, Result, Some, [], map, nat_le}
use Rattle.std.specs.Prelude.{nat_lt, slice_index, take, ℕ}
use Rattle.psci_board.specs.declared.draft.TheConstants.{MOST_CORES}
use Rattle.psci_board.specs.declared.fault.BoardFault.{BoardFault}
use Rattle.psci_board.specs.Board.{BoardValue}
use Rattle.psci_platform.specs.declared.class.Class.{Class}
use Rattle.psci_platform.specs.declared.class.Class.TheVariants.{PowerDown, Retention, Running}
use Rattle.psci_platform.specs.declared.class.Class.TheVariants.{Standby}
use Rattle.psci_platform.specs.declared.fault.PlatformFault.{PlatformFault}
use Rattle.psci_platform.specs.declared.functions.Functions.{Functions}
use Rattle.psci_platform.specs.declared.row.Row.{Row}
use Rattle.psci_platform.specs.Cores.{boot_place}
use Rattle.psci_platform.specs.Described.{DescriptionValue}
use Rattle.psci_platform.specs.Faults.{fault_of}
use Rattle.psci_platform.specs.Platforms.{IsInOrder, PlatformValue}
use Rattle.psci_platform.specs.declared.fault.PlatformFault.TheVariants as faults
use Rattle.psci_board.specs.declared.fault.BoardFault.TheVariants.{Memory}
use Rattle.psci_ffi.specs.declared.machine.MachineFault.{MachineFault}
use Rattle.psci_ffi.specs.declared.machine.MachineFault.TheVariants.{Board, Description, Room}
use Rattle.psci_ffi.specs.declared.machine.GivenMachine.{GivenMachine}
use Rattle.psci_ffi.specs.declared.machine.GivenRow.{GivenRow}
use Rattle.psci_ffi.specs.declared.machine.TheConstants.{MOST_RESETS, MOST_ROWS}
use Rattle.psci_ffi.specs.Codes.{opened_said}
use Rattle.psci_ffi.specs.declared.guest_calls.GuestTurn.{GuestTurn}
use Rattle.psci_ffi.specs.Guests.{IsNewTold, IsSame}
use Rattle.psci_ffi.specs.Namings.{GuestValue, PlaceValue}
use Rattle.psci_ffi.specs.Slots.{Kept, KeptGuest}
use Rattle.psci_ffi.specs.Shown.{IsNew}

-- Descriptions ---------------------------------------------------------------------------------

-- a power state word
abbrev pub row_given : GivenRow → Row
row_given r = record { word = r.word; mask = r.mask; states = r.states }

-- the class of a state, by its number: 0 is running, then come those in standby, those in
-- retention, and all others power down
abbrev pub class_given : ℕ → ℕ → ℕ → Class
class_given standby retention number =
    if number == 0 then Running
    else (if nat_le number standby then Standby
    else (if nat_le number (standby + retention) then Retention
    else PowerDown))

-- the class of each state of a level
abbrev pub classes_given : ℕ → ℕ → List Class
classes_given standby retention =
    map (class_given standby retention)
    (0 ∷ 1 ∷ 2 ∷ 3 ∷ 4 ∷ 5 ∷ 6 ∷ 7 ∷ 8 ∷ 9 ∷ 10 ∷ 11 ∷ 12 ∷ 13 ∷ 14 ∷ 15 ∷ [])

-- those of the level at this place
abbrev pub level_classes : GivenMachine → ℕ → List Class
level_classes g level = classes_given (slice_index g.standby level) (slice_index g.retention level)

-- those of all levels
abbrev pub all_classes : GivenMachine → List (List Class)
all_classes g = map (level_classes g) (0 ∷ 1 ∷ 2 ∷ 3 ∷ [])

-- a set of functions by its bits
abbrev pub functions_given : ℕ → Functions
functions_given set = record {
  cpu_suspend = set % 2 == 1;
  cpu_off = set / 2 % 2 == 1;
  cpu_on = set / 4 % 2 == 1;
  system_off = set / 8 % 2 == 1;
  system_reset = set / 16 % 2 == 1;
  node_hw_state = set / 32 % 2 == 1;
  system_suspend = set / 64 % 2 == 1;
  system_reset2 = set / 128 % 2 == 1;
}

-- the description
abbrev pub machine_given : GivenMachine → DescriptionValue
machine_given g = record {
  mpidrs = take g.many_mpidrs g.mpidrs;
  levels = g.levels;
  classes = all_classes g;
  rows = map row_given (take g.many_rows g.rows);
  system = g.system;
  functions = functions_given g.functions;
  resets = take g.many_resets g.resets;
}

-- no more is counted than there is room for, and no function is there but the eight
abbrev pub has_room : GivenMachine → Bool
has_room g =
    nat_le g.many_mpidrs MOST_CORES && nat_le g.many_rows MOST_ROWS
    && nat_le g.many_resets MOST_RESETS && nat_lt g.functions 256

-- Verdicts -------------------------------------------------------------------------------------

-- the machine of this description and board, unless there is a fault
abbrev pub unless_faulty : Option PlatformFault → DescriptionValue → BoardValue → ℕ
    → Result PlatformValue MachineFault
unless_faulty None d b boot =
    Ok (record {
      description = d;
      board = b;
      boot = boot;
      place = boot_place d b boot;
      ready = None;
    })
unless_faulty (Some fault) d b boot = Err (Description fault)

-- the machine with this board, or the first fault of its description
abbrev pub machine_on : GivenMachine → BoardValue → ℕ → Result PlatformValue MachineFault
machine_on g b boot =
    if has_room g
    then unless_faulty (fault_of (machine_given g) b boot) (machine_given g) b boot
    else Err Room

-- the same by what is said of the board
abbrev pub machine_by : Result BoardValue BoardFault → GivenMachine → ℕ
    → Result PlatformValue MachineFault
machine_by (Err fault) g boot = Err (Board fault)
machine_by (Ok b) g boot = machine_on g b boot

-- Numbers -----------------------------------------------------------------------------------------

-- more is counted than there is room for, or there is another function
abbrev pub no_room : ℕ
no_room = 64

-- what a number says of a description, above that one
abbrev pub description_said : ℕ → PlatformFault
description_said code =
    if code == 65 then faults.WrongCount
    else (if code == 66 then faults.BadMpidr
    else (if code == 67 then faults.SameMpidr
    else (if code == 68 then faults.NoBootCore
    else (if code == 69 then faults.LateBootCore
    else (if code == 70 then faults.TooManyLevels
    else (if code == 71 then faults.FallingClass
    else (if code == 72 then faults.TooManyRows
    else (if code == 73 then faults.BadWord
    else (if code == 74 then faults.SameWord
    else (if code == 75 then faults.WrongType
    else (if code == 76 then faults.BadStates
    else (if code == 77 then faults.BadSystem
    else faults.BadFunctions))))))))))))

-- what came of the board, said of the machine
abbrev pub board_said : Result Unit BoardFault → Result Unit MachineFault
board_said (Ok done) = Ok done
board_said (Err fault) = Err (Board fault)

-- what a number says of the opening of a machine
abbrev pub machine_said : ℕ → Result Unit MachineFault
machine_said code =
    if nat_lt code no_room then board_said (opened_said code)
    else (if code == no_room then Err Room else Err (Description (description_said code)))

-- Opening -----------------------------------------------------------------------------------------

-- What was made of a machine that is given, by what is said of its board. Memory is answered only
-- where the board has no fault; the description may not have been looked at then.
abbrev pub IsMade : Result PlatformValue MachineFault → Result BoardValue BoardFault → GivenMachine
    → ℕ → Type 0
IsMade (Ok machine) board g boot = machine_by board g boot ≡ Ok machine
IsMade (Err (Board Memory)) board g boot = IsOk board
IsMade (Err fault) board g boot = machine_by board g boot ≡ Err fault

-- the firmware of the machine's board, before any core has entered, with the machine in order
pub record IsNewWith (m : PlatformValue) (f : PlaceValue) : Type 0 where
  pub fresh : IsNew m.board f.polled
  pub machine : IsSomeAnd f.machine (IsInOrder m)

-- The power of a guest of the machine's board, before any turn, with the machine in order; and
-- how the boot core entered is told.
pub record IsGuestWith (m : PlatformValue) (told : GuestTurn) (g : GuestValue) : Type 0 where
  pub fresh : IsNewTold m.board g.machine told g
  pub machine : IsSomeAnd g.machine (IsInOrder m)

-- what is made of the machine that was found
abbrev pub MakesOf : (PlatformValue → Type 0) → Result PlatformValue MachineFault → Type 0
MakesOf Made (Ok machine) = Made machine
MakesOf Made (Err fault) = ⊥

-- what an opening with this end leaves: what is made of a machine, or the same as before
abbrev pub OpensBy : (PlatformValue → Type 0) → Type 0 → Result Unit MachineFault
    → Result BoardValue BoardFault → GivenMachine → ℕ → Type 0
OpensBy Made Same (Ok done) board g boot = MakesOf Made (machine_by board g boot)
OpensBy Made Same (Err (Board Memory)) board g boot = IsOk board × Same
OpensBy Made Same (Err fault) board g boot = (machine_by board g boot ≡ Err fault) × Same

-- a new firmware in a place
abbrev pub OpensMachine : Result Unit MachineFault → Result BoardValue BoardFault → GivenMachine
    → ℕ → Kept → Kept → Type 0
OpensMachine end board g boot old left =
    OpensBy (λ m. IsSomeAnd left (IsNewWith m)) (left ≡ old) end board g boot

-- the power of a new guest, and how its boot core entered
abbrev pub OpensGuest : Result Unit MachineFault → Result BoardValue BoardFault → GivenMachine
    → ℕ → KeptGuest → KeptGuest → GuestTurn → GuestTurn → Type 0
OpensGuest end board g boot old left before told =
    OpensBy (λ m. IsSomeAnd left (IsGuestWith m told)) (IsSame old left before told) end board g
    boot
