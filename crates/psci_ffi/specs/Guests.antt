-- What C is told of a turn of a guest, what it leaves, and what is read and saved of a guest.
use Rattle.std.specs.Prelude.{◌==◌, ◌≡◌, Bool, Err, IsSomeAnd, List, None, Ok, Option, Result, Some}
use Rattle.std.specs.Prelude.{[], false, length, nat_lt, true, ℕ}
use Rattle.psci_fw_spec.specs.declared.reply.FwReply.TheVariants.{Out}
use Rattle.psci_guest.specs.declared.arrival.Arrival.{Arrival}
use Rattle.psci_guest.specs.declared.turned.Turned.{Turned}
use Rattle.psci_abi.specs.declared.registers.Regs.{Regs}
use Rattle.psci_board.specs.Board.{BoardValue, cores}
use Rattle.psci_board.specs.declared.fault.BoardFault.{BoardFault}
use Rattle.psci_board.specs.declared.fault.BoardFault.TheVariants.{Memory}
use Rattle.psci_ctl.specs.Seen.{seen as seen_controller}
use Rattle.psci_fw.specs.Reactions.{seen}
use Rattle.psci_fw_spec.specs.declared.fault.FwFault.TheVariants.{NoCore, NotRunning}
use Rattle.psci_guest.specs.psci_world_spec.declared.place.Place.TheVariants.{Running}
use Rattle.psci_guest.specs.psci_world_spec.Legal.{place}
use Rattle.psci_guest.specs.Arrivals.{AreArrivals, RunsIn}
use Rattle.psci_guest.specs.Guest.{IsAfter, IsKicked, IsTurned}
use Rattle.psci_guest.specs.Pair.{PairValue, board_of}
use Rattle.psci_guest.specs.Turns.{Calls, Resets, Turn, Wakes, turns}
use Rattle.psci_platform.specs.Platforms.{PlatformValue}
use Rattle.psci_ctl.specs.declared.fault.SavedFault.TheVariants as controller
use Rattle.psci_fw_state.specs.declared.fault.SavedFault.{SavedFault}
use Rattle.psci_fw_state.specs.declared.fault.SavedFault.TheVariants as firmware
use Rattle.psci_guest.specs.Saved.{AreSaved, IsRefused as IsFaulty, saved}
use Rattle.psci_guest.specs.declared.fault.LoadFault.{LoadFault}
use Rattle.psci_guest.specs.declared.fault.LoadFault.TheVariants as faults
use Rattle.psci_ffi.specs.Shown.{OpensAs, asked_shown, no_frame, no_stop, plain, shown, stop_sent}
use Rattle.psci_ffi.specs.Shown.{with_asked}
use Rattle.psci_ffi.specs.declared.answer.Answer.{Answer}
use Rattle.psci_ffi.specs.declared.answer.GivenAsked.{GivenAsked}
use Rattle.psci_ffi.specs.declared.guest_calls.GuestTurn.{GuestTurn}
use Rattle.psci_ffi.specs.Controllers.{life_number, no_start, saved_code, start_shown}
use Rattle.psci_ffi.specs.declared.controller_calls.ControllerStart.{ControllerStart}
use Rattle.psci_ffi.specs.Codes.{no_firmware, no_memory, refusal}
use Rattle.psci_ffi.specs.Namings.{GuestValue, asked_in, regs_in}
use Rattle.psci_ffi.specs.Slots.{KeptGuest}

-- nobody is answered: zeros
abbrev pub no_answer : Answer
no_answer = plain 0 no_frame

-- the start by which a core entered, if one did
abbrev pub start_arrived : Option Arrival → ControllerStart
start_arrived None = no_start
start_arrived (Some a) = start_shown a.core.number (Some a.start)

-- what it was answered
abbrev pub answer_arrived : Option Arrival → Answer
answer_arrived None = no_answer
answer_arrived (Some a) = shown (Out a.outcome)

-- refused by this number
abbrev pub turn_refused : ℕ → GuestTurn
turn_refused what = record {
  what = what;
  life = 0;
  caller = no_answer;
  start = no_start;
  entry = no_answer;
  stop = no_stop;
}

-- what comes of a wake-up event, of a reset, or of an opening: the life, and a core that enters
abbrev pub arrival_shown : Option ℕ → Option Arrival → GuestTurn
arrival_shown life a = record {
  what = 0;
  life = life_number life;
  caller = no_answer;
  start = start_arrived a;
  entry = answer_arrived a;
  stop = no_stop;
}

-- what comes of a call with this x0, beside which this is asked
abbrev pub turned_shown : Turned → ℕ → GivenAsked → GuestTurn
turned_shown told x0 asked = record (arrival_shown told.life told.arrival) {
  caller = with_asked asked (shown (Out told.outcome));
  stop = stop_sent told.outcome.message x0;
}

-- Life --------------------------------------------------------------------------------------------

-- the present life
abbrev pub life_of : GuestValue → Option ℕ
life_of g = (seen_controller g.power.controller).life

-- Turns ----------------------------------------------------------------------------------------

-- A core calls in this life, with these registers in the words of the place.
pub record IsCalled (g : GuestValue) (core life : ℕ) (regs : Regs) (result : Option Turned)
    (g' : GuestValue) : Type 0 where
  pub behind : (b : BoardValue) (ts : List Turn) → IsAfter b ts g.power
      → (RunsIn b (turns b ts) life core → ⊥) → (result ≡ None) × (g'.power ≡ g.power)
  pub turned : (b : BoardValue) (ts : List Turn) → IsAfter b ts g.power
      → RunsIn b (turns b ts) life core
      → IsTurned b ts (Calls core (regs_in g.machine (seen g.power.firmware).mode regs)) g'.power
      result
  pub machine : g'.machine ≡ g.machine

-- A core has a wake-up event: nothing comes of it where the core runs.
pub record IsWoken (g : GuestValue) (core : ℕ) (result : Option Arrival) (g' : GuestValue) : Type 0
  where
    pub running : (b : BoardValue) (ts : List Turn) → IsAfter b ts g.power
        → place b (turns b ts) core ≡ Running → (result ≡ None) × (g'.power ≡ g.power)
    pub woken : (b : BoardValue) (ts : List Turn) → IsAfter b ts g.power
        → (place b (turns b ts) core ≡ Running → ⊥)
        → IsKicked b ts (Wakes core) g'.power result
    pub machine : g'.machine ≡ g.machine

-- A core is reset by itself.
pub record IsReset (g : GuestValue) (core : ℕ) (result : Option Arrival) (g' : GuestValue) : Type 0
  where
    pub kicked : (b : BoardValue) (ts : List Turn) → IsAfter b ts g.power
        → IsKicked b ts (Resets core) g'.power result
    pub machine : g'.machine ≡ g.machine

-- Told -----------------------------------------------------------------------------------------

-- what C is told of a call: one that came to nothing is refused
abbrev pub called_shown : Option Turned → ℕ → GivenAsked → GuestTurn
called_shown None x0 asked = turn_refused (refusal NotRunning)
called_shown (Some told) x0 asked = turned_shown told x0 asked

-- A call was made, and told.
pub record IsCallTold (core life : ℕ) (regs : Regs) (told : GuestTurn) (g g' : GuestValue) : Type 0
  where
    pub result : Option Turned
    pub is : IsCalled g core life regs result g'
    pub shows : told ≡ called_shown result regs.x0
        (asked_shown (asked_in g.machine (seen g.power.firmware).mode regs))

-- A wake-up event was, and told.
pub record IsWakeTold (core : ℕ) (told : GuestTurn) (g g' : GuestValue) : Type 0 where
  pub result : Option Arrival
  pub is : IsWoken g core result g'
  pub shows : told ≡ arrival_shown (life_of g') result

-- So was a reset.
pub record IsResetTold (core : ℕ) (told : GuestTurn) (g g' : GuestValue) : Type 0 where
  pub result : Option Arrival
  pub is : IsReset g core result g'
  pub shows : told ≡ arrival_shown (life_of g') result

-- Places ---------------------------------------------------------------------------------------

-- refused by this number, and nothing changes
abbrev pub IsRefused : ℕ → KeptGuest → GuestTurn → KeptGuest → Type 0
IsRefused what kept told left = (told ≡ turn_refused what) × (left ≡ kept)

-- a turn of a core is made, if the board has the core
abbrev pub IsMadeIf : Bool → GuestValue → (GuestValue → GuestValue → Type 0) → GuestTurn
    → KeptGuest → Type 0
IsMadeIf true g made told left = IsSomeAnd left (made g)
IsMadeIf false g made told left = IsRefused (refusal NoCore) (Some g) told left

-- the same of a place
abbrev pub IsMade : KeptGuest → ℕ → (GuestValue → GuestValue → Type 0) → GuestTurn → KeptGuest
    → Type 0
IsMade None core made told left = IsRefused no_firmware None told left
IsMade (Some g) core made told left =
    IsMadeIf (nat_lt core (cores (board_of g.power))) g made told left

-- Opening --------------------------------------------------------------------------------------

-- The power of a guest of this board, in these words, before any turn: the boot core has entered,
-- if it was started.
pub record IsNewGuest (b : BoardValue) (words : Option PlatformValue) (arrival : Option Arrival)
    (g : GuestValue) : Type 0 where
  pub after : IsAfter b [] g.power
  pub arrives : AreArrivals b [] arrival
  pub machine : g.machine ≡ words

-- The same, and told.
pub record IsNewTold (b : BoardValue) (words : Option PlatformValue) (told : GuestTurn)
    (g : GuestValue) : Type 0 where
  pub arrival : Option Arrival
  pub is : IsNewGuest b words arrival g
  pub shows : told ≡ arrival_shown (life_of g) arrival

-- neither the place nor what is told changes
abbrev pub IsSame : KeptGuest → KeptGuest → GuestTurn → GuestTurn → Type 0
IsSame old left before told = (left ≡ old) × (told ≡ before)

-- what an opening leaves: the new power of a guest of this board, in its own words, and told
abbrev pub Opens : Result Unit BoardFault → Result BoardValue BoardFault → KeptGuest → KeptGuest
    → GuestTurn → GuestTurn → Type 0
Opens end said old left before told = OpensAs (λ b. IsSomeAnd left (IsNewTold b None told))
    (IsSame old left before told) end said

-- Saved -------------------------------------------------------------------------------------------

-- the first fault of the firmware's words
abbrev pub firmware_code : SavedFault → ℕ
firmware_code firmware.Length = 80
firmware_code firmware.Format = 81
firmware_code firmware.Sum = 82
firmware_code firmware.Life = 83
firmware_code firmware.Mode = 84
firmware_code firmware.Core = 85
firmware_code firmware.Depth = 86
firmware_code firmware.Row = 87
firmware_code firmware.Message = 88

-- why words are not loaded
abbrev pub load_code : LoadFault → ℕ
load_code faults.Memory = no_memory
load_code (faults.Firmware fault) = firmware_code fault
load_code faults.Values = 89
load_code (faults.Controller fault) = saved_code fault

-- what came of it
abbrev pub loaded_code : Result Unit LoadFault → ℕ
loaded_code (Ok done) = 0
loaded_code (Err fault) = load_code fault

-- Saving ---------------------------------------------------------------------------------------

-- what is written into words, by whether they are as many as are saved
abbrev pub GuestSavesIf : Bool → PairValue → List ℕ → ℕ → List ℕ → Type 0
GuestSavesIf true p old code new = (code ≡ 0) × (new ≡ saved p) × AreSaved p
GuestSavesIf false p old code new = (code ≡ saved_code controller.Length) × (new ≡ old)

-- the same of a place
abbrev pub GuestSaves : KeptGuest → List ℕ → ℕ → List ℕ → Type 0
GuestSaves None old code new = (code ≡ no_firmware) × (new ≡ old)
GuestSaves (Some g) old code new =
    GuestSavesIf (length old == length (saved g.power)) g.power old code new

-- Loading --------------------------------------------------------------------------------------

-- A guest's power was loaded: the same of the board as what these words were saved of.
pub record IsLoadedGuest (g : GuestValue) (words : List ℕ) (g' : GuestValue) : Type 0 where
  pub machine : g'.machine ≡ g.machine
  pub board : board_of g'.power ≡ board_of g.power
  pub saves : saved g'.power ≡ words
  pub whole : AreSaved g'.power

-- what loading leaves: the loaded guest, or the one that was there, and why
abbrev pub IsLoadOf : Result Unit LoadFault → GuestValue → List ℕ → GuestValue → Type 0
IsLoadOf (Ok done) g words g' = IsLoadedGuest g words g'
IsLoadOf (Err fault) g words g' = IsFaulty (board_of g.power) words fault × (g' ≡ g)

-- Words were loaded, or not, and it was told.
pub record IsLoadTold (words : List ℕ) (code : ℕ) (g g' : GuestValue) : Type 0 where
  pub result : Result Unit LoadFault
  pub is : IsLoadOf result g words g'
  pub shows : code ≡ loaded_code result

-- the same of a place
abbrev pub GuestLoads : KeptGuest → List ℕ → ℕ → KeptGuest → Type 0
GuestLoads None words code left = (code ≡ no_firmware) × (left ≡ None)
GuestLoads (Some g) words code left = IsSomeAnd left (IsLoadTold words code g)
