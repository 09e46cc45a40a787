-- What was written of each core, and what was seen of it: a list for each core, the last item
-- first.
use Rattle.std.specs.Prelude.{◌%◌, ◌*◌, ◌+◌, ◌/◌, ◌<◌, ◌==◌, ◌∷◌, ◌≡◌, ◌⊎◌, [], Bool, false}
use Rattle.std.specs.Prelude.{if◌then◌else◌, length, List, map, nat_lt, None, not, Option, pos}
use Rattle.std.specs.Prelude.{slice_index_or, slice_set, Some, ℕ}
use Rattle.atomic_table.specs.Seated.{TableId}
use Rattle.psci_abi.specs.Calls.{invalid_parameters}
use Rattle.psci_abi.specs.declared.registers.Code.{Code}
use Rattle.psci_board.specs.Board.{BoardValue, cores, IsBoard}
use Rattle.psci_board.specs.declared.draft.Core.{Core}
use Rattle.psci_messages.specs.Message.{MessageValue}
use Rattle.psci_messages.specs.declared.taken.Taken.{Taken}
use Rattle.psci_messages.specs.declared.taken.Taken.TheVariants.{Old, Used}
use Rattle.psci_fw_spec.specs.PowerCalls.{status_code}
use Rattle.psci_fw_spec.specs.Effects.{Acknowledges, after, AsksOn, Effect, Enters, FwExchange}
use Rattle.psci_fw_spec.specs.Answer.{answer}
use Rattle.psci_fw_spec.specs.Changes.{first_status, target}
use Rattle.psci_fw_spec.specs.History.{values_of}
use Rattle.psci_fw_spec.specs.Legal.{IsLegal}
use Rattle.psci_fw_spec.specs.Statuses.{added, statuses}
use Rattle.psci_fw_spec.specs.Values.{Values}
use Rattle.psci_fw_spec.specs.declared.call.FwCall.{FwCall}
use Rattle.psci_fw_spec.specs.declared.outcome.Act.{Act}
use Rattle.psci_fw_spec.specs.declared.outcome.Act.TheVariants as acts
use Rattle.psci_fw_spec.specs.declared.outcome.Outcome.{Outcome}
use Rattle.psci_fw_spec.specs.declared.status.Status.{Status}
use Rattle.psci_fw_spec.specs.declared.status.Status.TheVariants.{Off, On, Pending}
use Rattle.psci_fw.specs.Reactions.{FirmwareValue, seen}

-- a status with its serial: how many were written of its core before it
abbrev pub Item : Type 0
Item = ℕ × Status

-- the list of one core, empty where there is none
abbrev pub row : {A : Type 0} → List (List A) → ℕ → List A
row lists core = slice_index_or lists core []

-- What was written ----------------------------------------------------------------------------

-- the status of this number
abbrev pub status_of : ℕ → Status
status_of n = if n == 0 then On else (if n == 1 then Off else Pending)

-- the item that a word holds: its serial above the two bits of its status
abbrev pub item_of : ℕ → Item
item_of word = (word / 4, status_of (word % 4))

-- the word holds the last item of what was written
abbrev pub IsWord : List Status → ℕ → Type 0
IsWord [] word = ⊥
IsWord (s ∷ ss) word = word ≡ 4 * length ss + status_code s

-- the last item of what was written, alone
abbrev pub newest : List Status → List Item
newest [] = []
newest (s ∷ ss) = (length ss, s) ∷ []

-- What was seen -------------------------------------------------------------------------------

-- the item is one of those that were written
abbrev pub Stands : List Status → Item → Type 0
Stands [] item = ⊥
Stands (s ∷ ss) item = ((item.0 ≡ length ss) × (item.1 ≡ s)) ⊎ Stands ss item

-- the serial is above that of the last item
abbrev pub Above : ℕ → List Item → Type 0
Above serial [] = Unit {0}
Above serial (item ∷ items) = item.0 < serial

-- the serials rise
abbrev pub Rises : List Item → Type 0
Rises [] = Unit {0}
Rises (item ∷ items) = Above item.0 items × Rises items

-- the serials rise, and each item is one of those that were written
abbrev pub Within : List Status → List Item → Type 0
Within written [] = Unit {0}
Within written (item ∷ items) = Stands written item × Above item.0 items × Within written items

-- the item is the last
abbrev pub Begins : Item → List Item → Type 0
Begins item items = (rest : List Item) × (items ≡ item ∷ rest)

-- the last item that was written is the last that was seen
abbrev pub IsLast : List Status → List Item → Type 0
IsLast [] items = Unit {0}
IsLast (s ∷ ss) items = Begins (length ss, s) items

-- What is learned -----------------------------------------------------------------------------

-- one item more, if its serial is above that of the last
abbrev pub gain : Item → List Item → List Item
gain item [] = item ∷ []
gain item (last ∷ items) =
    if nat_lt last.0 item.0 then item ∷ last ∷ items else last ∷ items

-- the last of these items more, if its serial is above that of the last
abbrev pub gain_from : List Item → List Item → List Item
gain_from [] items = items
gain_from (item ∷ older) items = gain item items

-- the same for each core
abbrev pub gains : List (List Item) → List (List Item) → List (List Item)
gains [] notes = []
gains (row ∷ rows) [] = row ∷ rows
gains (row ∷ rows) (note ∷ notes) = gain_from note row ∷ gains rows notes

-- Meeting -------------------------------------------------------------------------------------

-- A reader of so many cores comes to the writer: what it had seen was written, it now has seen the
-- last that was written of each core, and no more.
pub record HasMet (written : List (List Status)) (n : ℕ) (old new : List (List Item))
    : Type 0 where
  pub saw : (core : ℕ) → Within (row written core) (row old core)
  pub seen : new ≡ gains old (map newest written)
  pub stand : (core : ℕ) → Within (row written core) (row new core)
  pub last : (core : ℕ) → core < n → IsLast (row written core) (row new core)

-- Which core's status a call may change in the life that goes on ----------------------------------

-- whether an effect names this core: the target of an accepted CPU_ON, a core that entered and goes
-- on, or the core whose acknowledgement was used
abbrev pub names : Effect → ℕ → Bool
names (AsksOn c asked) core = core == target asked
names (Enters c s) core = core == c
names (Acknowledges a) core = core == a.core.number
names e core = false

-- the core of what was sent beside a return code: the target of a CPU_ON, which alone sends so
abbrev pub sent_beside : Act → Option MessageValue → Option Core
sent_beside (acts.Return code) (Some m) = Some m.core
sent_beside act message = None

-- the target of an accepted CPU_ON
abbrev pub asked_by : Outcome → Option Core
asked_by o = sent_beside o.act o.message

-- the same by the number of the slot of what was sent: a message beside a return code stands in the
-- slot of its core
abbrev pub slot_beside : Act → Option ℕ → Option Core
slot_beside (acts.Return code) (Some number) = Some (record { number = number })
slot_beside act slot = None

-- the core of an acknowledgement that was used
abbrev pub used_by : Taken → Core → Option Core
used_by Used core = Some core
used_by Old core = None

-- whether it is this core
abbrev pub is_named : Option Core → ℕ → Bool
is_named None core = false
is_named (Some c) core = core == c.number

-- What is written of the status of each core ------------------------------------------------------

-- one call more: where it opened a life, first the status of the core at the life's start
abbrev pub one_more : Bool → ℕ → Status → List Status → List Status
one_more opens core status written =
    added status (if opens then added (first_status core) written else written)

-- what is written of a core once a call has left these values, by the life before it and what was
-- written then
abbrev pub written_then : ℕ → Values → ℕ → List Status → List Status
written_then before v core written =
    if v.life == 0 then written
    else one_more (not (v.life == before)) core (v.status core) written

-- how many statuses a core can have had by the board's limits
abbrev pub most_statuses : BoardValue → ℕ
most_statuses b = (b.lives + 1) * (3 * b.starts + 8)

-- A firmware with the writer of its status words, as contracts see it -----------------------------

-- the firmware, the table of its status words, and what was written of each core, the last first
pub record PolledView : Type 0 where
  pub firmware : FirmwareValue
  pub table : TableId
  pub written : List (List Status)

-- A past of values and of what was written: a legal history that left these values, in which what
-- was written of each core are its statuses.
pub record IsPast (b : BoardValue) (v : Values) (rows : List (List Status)) : Type 0 where
  pub history : List FwExchange
  pub legal : IsLegal b history
  pub values : v ≡ values_of b history
  pub written : (core : ℕ) → core < cores b → row rows core ≡ statuses b history core

-- What the type keeps: there is a past, and a word for each core of the board.
pub record IsPolled (f : FirmwareValue) (table : TableId) (rows : List (List Status)) (n : ℕ)
    : Type 0 where
  pub board : IsBoard f.board
  pub past : IsPast f.board (seen f) rows
  pub words : table.words ≡ cores f.board
  pub count : n ≡ cores f.board

-- a call wrote what it changed: of each core the status that it now has, where that is another
abbrev pub IsWrittenFrom : PolledView → PolledView → Type 0
IsWrittenFrom p p' =
    (core : ℕ) → core < cores p.firmware.board
    → row p'.written core
    ≡ written_then (seen p.firmware).life (seen p'.firmware) core (row p.written core)

-- what a call leaves: the firmware after it, by the definitions; and what it changed of the
-- statuses is written
pub record IsNext (p : PolledView) (c : ℕ) (call : FwCall) (p' : PolledView) : Type 0 where
  pub board : p'.firmware.board ≡ p.firmware.board
  pub values : seen p'.firmware ≡ after p.firmware.board c call
      (answer p.firmware.board (seen p.firmware) c call) (seen p.firmware)
  pub table : p'.table ≡ p.table
  pub written : IsWrittenFrom p p'

-- What a poll answers -----------------------------------------------------------------------------

-- one load of a core's word: of the core one item more was seen at most, the last is the status,
-- and serials rise
abbrev pub IsLoaded : List (List Item) → List (List Item) → ℕ → Status → Type 0
IsLoaded seen seen' core status =
    (serial : ℕ)
    × (seen' ≡ slice_set seen core (gain (serial, status) (row seen core)))
    × Begins (serial, status) (row seen' core)
    × Rises (row seen' core)

-- what AFFINITY_INFO of a core is answered, by the core that the word names and what was seen then
abbrev pub IsPolledAs : Option Core → List (List Item) → List (List Item) → Code → Type 0
IsPolledAs None seen seen' code = (code ≡ invalid_parameters) × (seen' ≡ seen)
IsPolledAs (Some core) seen seen' code =
    (status : Status) × IsLoaded seen seen' core.number status
    × (code ≡ record { 0 = pos (status_code status) })
