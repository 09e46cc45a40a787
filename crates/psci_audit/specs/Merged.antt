-- The merged list of two books, which tickets fit, and what an audit answers.
use Rattle.std.specs.Prelude.{◌++◌, ◌<◌, ◌∷◌, ◌≡◌, ◌⊎◌, [], Bool, Err, false, if◌then◌else◌}
use Rattle.std.specs.Prelude.{length, List, map, nat_lt, None, Ok, Option, Result, reverse, Some}
use Rattle.std.specs.Prelude.{true, ℕ}
use Rattle.psci_world.specs.psci_board.Board.{BoardValue}
use Rattle.psci_world_spec.specs.psci_fw_spec.declared.call.FwCall.{FwCall}
use Rattle.psci_world_spec.specs.psci_fw_spec.declared.call.FwCall.TheVariants as calls
use Rattle.psci_shared.specs.Places.{CtlEntry, FwEntry}
use Rattle.psci_shared.specs.declared.entry.Entry.{Entry as Booked}
use Rattle.psci_audit.specs.Entries.{Asked, Controlled, Entry, IsLegal, MayFollow}
use Rattle.psci_audit.specs.Told.{asked, controlled}
use Rattle.psci_world.specs.psci_board.declared.memory.Memory.{Memory as NoMemory}
use Rattle.psci_audit.specs.declared.fault.AuditFault.{AuditFault}
use Rattle.psci_audit.specs.declared.fault.AuditFault.TheVariants.{Ticket, Illegal, Memory}

-- The merged list ------------------------------------------------------------------------------

-- an acknowledgement names no core
abbrev pub named : FwCall → ℕ → ℕ
named (calls.Smc regs) core = core
named (calls.Enter start) core = core
named (calls.Take ack) core = 0

-- an entry of the firmware's book, as the merged list has it
abbrev pub asked_by : FwEntry → Entry
asked_by e = Asked (asked (named e.call e.core.number) e.call e.reply)

-- an entry of the power controller's book, as the merged list has it
abbrev pub controlled_by : CtlEntry → Entry
controlled_by e = Controlled (controlled e.call e.reply)

-- one entry of the firmware's book put in by its ticket, and then the rest of that book
abbrev pub put_in : FwEntry → (List CtlEntry → List Entry) → List CtlEntry → List Entry
put_in f rest [] = asked_by f ∷ rest []
put_in f rest (c ∷ cs) =
    if nat_lt f.ticket c.ticket
    then asked_by f ∷ rest (c ∷ cs)
    else controlled_by c ∷ put_in f rest cs

-- all entries of both books in the order of their tickets, the first first
unfoldable pub merged : List FwEntry → List CtlEntry → List Entry
merged [] cs = map controlled_by cs
merged (f ∷ fs) cs = put_in f (λ rest. merged fs rest) cs

-- Tickets --------------------------------------------------------------------------------------

-- after the last ticket, if there is one
abbrev pub IsAfter : Option ℕ → ℕ → Type 0
IsAfter None ticket = Unit {0}
IsAfter (Some last) ticket = last < ticket

-- tickets rise, after the last one before them
abbrev pub RiseAfter : Option ℕ → List ℕ → Type 0
RiseAfter last [] = Unit {0}
RiseAfter last (ticket ∷ tickets) = IsAfter last ticket × RiseAfter (Some ticket) tickets

-- a ticket is one of these
abbrev pub IsIn : ℕ → List ℕ → Type 0
IsIn ticket [] = ⊥
IsIn ticket (other ∷ others) = (ticket ≡ other) ⊎ IsIn ticket others

-- none is in both
abbrev pub AreApart : List ℕ → List ℕ → Type 0
AreApart ones others = (ticket : ℕ) → IsIn ticket ones → IsIn ticket others → ⊥

-- the tickets of a book
abbrev pub tickets_of : {W C R : Type 0} → List (Booked W C R) → List ℕ
tickets_of entries = map (λ e. e.ticket) entries

-- the tickets of two books fit: they rise in each, and none is in both
pub record TicketsFit (fs : List FwEntry) (cs : List CtlEntry) : Type 0 where
  pub firmware : RiseAfter None (tickets_of fs)
  pub controller : RiseAfter None (tickets_of cs)
  pub apart : AreApart (tickets_of fs) (tickets_of cs)

-- What an audit answers ------------------------------------------------------------------------

-- the merged list, the newest entry first, as a history is
abbrev pub history_of : List FwEntry → List CtlEntry → List Entry
history_of fs cs = reverse (merged fs cs)

-- The first place at which a list is not legal: those before it are, and its entry may not follow.
pub record IsFirstIllegal (b : BoardValue) (entries : List Entry) (place : ℕ) : Type 0 where
  -- those before it, the newest first
  pub before : List Entry
  pub entry : Entry
  pub since : List Entry
  pub parts : reverse before ++ (entry ∷ since) ≡ entries
  pub at : length before ≡ place
  pub legal : IsLegal b before
  pub illegal : MayFollow b before entry → ⊥

-- the tickets fit, and the merged list is legal and has so many entries
abbrev pub IsSound : BoardValue → List FwEntry → List CtlEntry → ℕ → Type 0
IsSound b fs cs n =
    TicketsFit fs cs × IsLegal b (history_of fs cs) × (length (merged fs cs) ≡ n)

-- why a trace is refused: tickets come first
abbrev pub IsFault : BoardValue → List FwEntry → List CtlEntry → AuditFault → Type 0
IsFault b fs cs Ticket = TicketsFit fs cs → ⊥
IsFault b fs cs (Illegal place) =
    TicketsFit fs cs × IsFirstIllegal b (merged fs cs) place
IsFault b fs cs Memory = Unit {0}

-- a list is judged: it is legal and has so many entries, or this is the first place at which it is
-- not
abbrev pub IsJudged : BoardValue → List Entry → Result ℕ AuditFault → Type 0
IsJudged b entries (Ok n) = IsLegal b (reverse entries) × (length entries ≡ n)
IsJudged b entries (Err Ticket) = ⊥
IsJudged b entries (Err (Illegal place)) = IsFirstIllegal b entries place
IsJudged b entries (Err Memory) = Unit {0}

-- whether the next entry is one of the firmware's book
abbrev pub is_asked_first : List FwEntry → List CtlEntry → Bool
is_asked_first [] cs = false
is_asked_first (f ∷ fs) [] = true
is_asked_first (f ∷ fs) (c ∷ cs) = nat_lt f.ticket c.ticket

-- an entry at some place may follow, or why the audit ends with it
abbrev pub IsFollowed : Result Bool NoMemory → ℕ → Option AuditFault → Type 0
IsFollowed (Ok true) place fault = fault ≡ None
IsFollowed (Ok false) place fault = fault ≡ Some (Illegal place)
IsFollowed (Err out) place fault = fault ≡ Some Memory
