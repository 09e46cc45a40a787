-- What was seen by polls with a pass.
use Rattle.std.specs.Prelude.{◌++◌, ◌-◌, ◌<◌, ◌==◌, ◌∷◌, ◌≡◌, ◌⊎◌, [], Bool, count_by, false}
use Rattle.std.specs.Prelude.{length, List, None, Option, slice_get, Some, true, ℕ}
use Rattle.psci_abi.specs.declared.request.Request.{Request}
use Rattle.psci_abi.specs.declared.request.Request.TheVariants.{SystemOff, SystemReset}
use Rattle.psci_abi.specs.declared.request.Request.TheVariants.{SystemReset2}
use Rattle.psci_ctl.specs.psci_ctl_spec.History as controls
use Rattle.psci_fw.specs.psci_board.Board.{BoardValue, cores}
use Rattle.psci_fw.specs.psci_board.declared.draft.Core.{Core}
use Rattle.psci_fw.specs.psci_fw_spec.Legal.{IsLegal}
use Rattle.psci_fw.specs.psci_fw_spec.declared.call.FwCall.{FwCall}
use Rattle.psci_fw.specs.psci_fw_spec.declared.call.FwCall.TheVariants as asks
use Rattle.psci_fw.specs.psci_fw_spec.declared.status.Status.{Status}
use Rattle.psci_status.specs.Lists.{Item, row}
use Rattle.psci_shared.specs.Passes.{AreInHistory, history_of, IsAmong, PassView}
use Rattle.psci_shared.specs.Places as control_books
use Rattle.psci_shared.specs.Places.{CtlEntry, FwEntry}
use Rattle.psci_shared.specs.declared.sighting.Sighting.{Sighting}
use Rattle.psci_bench.specs.declared.gathering.Polled.{Polled}

-- Which calls end a life --------------------------------------------------------------------------

-- the system goes off or is reset, or is asked to be reset in a way that there is not
abbrev pub EndsLife : Request → Type 0
EndsLife SystemOff = Unit {0}
EndsLife SystemReset = Unit {0}
EndsLife (SystemReset2 kind cookie) = Unit {0}
EndsLife request = ⊥

-- What the firmware's book of a run has of each core ----------------------------------------------

-- the core has called
abbrev pub calls : FwCall → ℕ → ℕ → Bool
calls (asks.Smc regs) by core = by == core
calls (asks.Enter start) by core = false
calls (asks.Take ack) by core = false

-- the core has called or entered; an acknowledgement is taken by no core
abbrev pub acts : FwCall → ℕ → ℕ → Bool
acts (asks.Smc regs) by core = by == core
acts (asks.Enter start) by core = by == core
acts (asks.Take ack) by core = false

-- an entry of the book is a call of this core
abbrev pub is_call_by : Core → FwEntry → Bool
is_call_by core e = calls e.call e.core.number core.number

-- an entry of the book is a call of this core, or this core entered by it
abbrev pub is_by : Core → FwEntry → Bool
is_by core e = acts e.call e.core.number core.number

-- how many calls of a core there are
abbrev pub calls_of : List FwEntry → Core → ℕ
calls_of entries core = count_by (is_call_by core) entries

-- how many entries a core has made: its calls, and as often as it entered
abbrev pub entries_of : List FwEntry → Core → ℕ
entries_of entries core = count_by (is_by core) entries

-- Entries of books that tell legal histories ------------------------------------------------------

-- the firmware's: each reply is the answer after the entries before it
abbrev pub AreLegalCalls : BoardValue → List FwEntry → Type 0
AreLegalCalls b entries = IsLegal b (history_of entries)

-- the power controller's: each reply is the one reply after the entries before it
abbrev pub AreLegalControls : BoardValue → List CtlEntry → Type 0
AreLegalControls b entries = controls.IsLegal b (control_books.history_of entries)

-- Watches -----------------------------------------------------------------------------------------

-- a pass, with what was seen by polls with it, the first first
pub record WatchView : Type 0 where
  pub pass : PassView
  pub seen : List Sighting

-- a pass that has seen these items has seen this, of a core of the board
abbrev pub HasSeen : BoardValue → List (List Item) → Sighting → Type 0
HasSeen b items s =
    (s.core.number < cores b) × IsAmong (s.serial, s.status) (row items s.core.number)

-- it has seen all of these
abbrev pub HaveAllSeen : BoardValue → List (List Item) → List Sighting → Type 0
HaveAllSeen b items [] = Unit {0}
HaveAllSeen b items (s ∷ ss) = HasSeen b items s × HaveAllSeen b items ss

-- this was kept last
abbrev pub IsLast : Sighting → List Sighting → Type 0
IsLast s seen = slice_get seen (length seen - 1) ≡ Some s

-- what a poll saw, if it saw anything, was kept last, and its status is this
abbrev pub IsSeenLast : Option Sighting → Option Status → List Sighting → Type 0
IsSeenLast None status seen = status ≡ None
IsSeenLast (Some s) status seen = (status ≡ Some s.status) × IsLast s seen

-- nothing more was kept, or what was seen
abbrev pub IsKept : List Sighting → Option Sighting → List Sighting → Type 0
IsKept seen found seen' =
    (seen' ≡ seen) ⊎ ((s : Sighting) × (found ≡ Some s) × (seen' ≡ seen ++ s ∷ []))

-- What the threads of a run saw by polls ----------------------------------------------------------

-- one of these passes has seen all of this
abbrev pub IsSeenByOne : BoardValue → List PassView → List Sighting → Type 0
IsSeenByOne b [] seen = ⊥
IsSeenByOne b (p ∷ ps) seen = HaveAllSeen b p.seen seen ⊎ IsSeenByOne b ps seen

-- so of each thread
abbrev pub AreSeen : BoardValue → List PassView → List Polled → Type 0
AreSeen b ps [] = Unit {0}
AreSeen b ps (q ∷ qs) = IsSeenByOne b ps q.seen.items × AreSeen b ps qs

-- what each thread saw of a core is that one of the core's statuses after these entries, by its
-- serial
abbrev pub AllInHistory : BoardValue → List FwEntry → List Polled → Type 0
AllInHistory b entries [] = Unit {0}
AllInHistory b entries (q ∷ qs) = AreInHistory b entries q.seen.items × AllInHistory b entries qs
