-- Passes as contracts see them.
use Rattle.std.specs.Prelude.{◌++◌, ◌<◌, ◌==◌, ◌∷◌, ◌≡◌, ◌≤◌, ◌⊎◌, [], if◌then◌else◌, length}
use Rattle.std.specs.Prelude.{List, map, None, not, Option, pos, reverse, slice_set, Some}
use Rattle.std.specs.Prelude.{sum_by, ℕ}
use Rattle.psci_fw.specs.Reactions.{FirmwareValue, seen}
use Rattle.psci_fw.specs.psci_abi.Calls.{invalid_parameters}
use Rattle.psci_fw.specs.psci_abi.declared.registers.Code.{Code}
use Rattle.psci_fw.specs.psci_board.Board.{BoardValue, core_of, cores}
use Rattle.psci_fw.specs.psci_board.declared.draft.Core.{Core}
use Rattle.psci_fw.specs.psci_fw_spec.PowerCalls.{status_code}
use Rattle.psci_fw.specs.psci_fw_spec.Answer.{answer}
use Rattle.psci_fw.specs.psci_fw_spec.Effects.{FwExchange}
use Rattle.psci_fw.specs.psci_fw_spec.History.{life, status, values_of}
use Rattle.psci_fw.specs.psci_fw_spec.Legal.{IsLegal}
use Rattle.psci_fw.specs.psci_fw_spec.Statuses.{statuses}
use Rattle.psci_fw.specs.psci_fw_spec.declared.call.FwCall.{FwCall}
use Rattle.psci_fw.specs.psci_fw_spec.declared.call.FwCall.TheVariants.{Enter, Smc, Take}
use Rattle.psci_fw.specs.psci_fw_spec.declared.reply.FwReply.{FwReply}
use Rattle.psci_fw.specs.psci_fw_spec.declared.reply.FwReply.TheVariants.{Fault, Out, Taken}
use Rattle.psci_fw.specs.psci_fw_spec.declared.status.Status.{Status}
use Rattle.psci_status.specs.Lists.{asked_by, Begins, gain, gains, IsLast, Item, one_more, Rises}
use Rattle.psci_status.specs.Lists.{row, Stands, Within}
use Rattle.psci_shared.specs.Places.{AnyBook, AnyPass, called, first, FwEntry, IsFullOf, item}
use Rattle.psci_shared.specs.Places.{told}
use Rattle.psci_shared.specs.declared.fault.CallFault.{CallFault}
use Rattle.psci_shared.specs.declared.fault.CallFault.TheVariants.{BookFull, Fw}
use Rattle.psci_shared.specs.declared.fault.GatherCause.{GatherCause}
use Rattle.psci_shared.specs.declared.fault.GatherCause.TheVariants.{Astray, Missing}
use Rattle.psci_shared.specs.declared.fault.PassFault.{PassFault}
use Rattle.psci_shared.specs.declared.fault.PassFault.TheVariants.{Memory, NoCore, TooMany}
use Rattle.psci_shared.specs.declared.sighting.Sighting.{Sighting}

-- A book as contracts see it, and the history that it tells ---------------------------------------

-- the firmware's book
abbrev pub BookView : Type 0
BookView = AnyBook Core FwCall FwReply

-- an entry
abbrev pub entry : ℕ → Core → FwCall → FwReply → FwEntry
entry ticket core call reply =
    record { ticket = ticket; core = core; call = call; reply = reply }

-- the call of an entry with its reply, as histories have it
abbrev pub exchange_of : FwEntry → FwExchange
exchange_of e = record { core = e.core.number; call = e.call; reply = e.reply }

-- the history of a book, the last call first
unfoldable pub history_of : List FwEntry → List FwExchange
history_of entries = map exchange_of (reverse entries)

-- they tell a legal history: each reply is the answer after the entries before it
abbrev pub IsTold : BoardValue → List FwEntry → Type 0
IsTold b entries = IsLegal b (history_of entries)

-- a firmware of this board that has the values after these entries
abbrev pub Has : BoardValue → FirmwareValue → List FwEntry → Type 0
Has b f entries = (f.board ≡ b) × (seen f ≡ values_of b (history_of entries))

-- the one reply to a call after these entries
abbrev pub answer_after : BoardValue → List FwEntry → ℕ → FwCall → FwReply
answer_after b entries core call = answer b (values_of b (history_of entries)) core call

-- Passes ------------------------------------------------------------------------------------------

-- a pass of the firmware, with what it has seen of each core
abbrev pub PassView : Type 0
PassView = AnyPass Core (List (List Item)) FwCall FwReply

-- a pass that read the status of a core with its serial: it has now seen one item more of it at
-- most, the last is that item, and serials rise
abbrev pub IsReadAt : PassView → PassView → ℕ → ℕ → Status → Type 0
IsReadAt p p' core serial status =
    (p' ≡ record p { seen = slice_set p.seen core (gain (serial, status) (row p.seen core)) })
    × Begins (serial, status) (row p'.seen core)
    × Rises (row p'.seen core)

-- so, by some serial
abbrev pub IsRead : PassView → PassView → ℕ → Status → Type 0
IsRead p p' core status = (serial : ℕ) × IsReadAt p p' core serial status

-- the reply is one to such a call: an acknowledgement is taken, and nothing else is
abbrev pub Fits : FwCall → FwReply → Type 0
Fits (Smc regs) (Out outcome) = Unit {0}
Fits (Smc regs) (Fault fault) = Unit {0}
Fits (Smc regs) (Taken taken) = ⊥
Fits (Enter start) (Out outcome) = Unit {0}
Fits (Enter start) (Fault fault) = Unit {0}
Fits (Enter start) (Taken taken) = ⊥
Fits (Take ack) (Taken taken) = Unit {0}
Fits (Take ack) (Out outcome) = ⊥
Fits (Take ack) (Fault fault) = ⊥

-- a call was entered: the pass has one item more, and of each core it has seen what it had seen and
-- one item more at most
abbrev pub IsCalled : PassView → PassView → FwCall → FwReply → Type 0
IsCalled p p' call reply =
    (place : ℕ) × (notes : List (List Item))
    × (p' ≡ called p (item place call reply) (gains p.seen notes))

-- a call was refused: by the firmware, and that was entered; or the book or the pass's list is full
abbrev pub IsRefused : PassView → PassView → FwCall → CallFault → Type 0
IsRefused p p' call BookFull = p' ≡ told p
IsRefused p p' call (Fw fault) = IsCalled p p' call (Fault fault)

-- what affinity_core answers by the core that the word names, and what the pass has seen then
abbrev pub IsAffinity : Option Core → PassView → PassView → Code → Type 0
IsAffinity None p p' code = (code ≡ invalid_parameters) × (p' ≡ p)
IsAffinity (Some core) p p' code =
    (status : Status) × IsRead p p' core.number status
    × (code ≡ record { 0 = pos (status_code status) })

-- a new pass for a core: it was not called by yet, nor told anything
abbrev pub IsFirst : Core → ℕ → PassView → Type 0
IsFirst core room p = p ≡ first core room p.seen

-- why no pass is made for a core once so many were made: the board has no such core; or they are
-- 1,000; or else memory lacks
abbrev pub IsNoPass : BoardValue → ℕ → Core → PassFault → Type 0
IsNoPass b made core NoCore = cores b ≤ core.number
IsNoPass b made core TooMany = (core.number < cores b) × (made ≡ 1000)
IsNoPass b made core Memory = (core.number < cores b) × (made < 1000)

-- What is written of the status of each core, and what a pass has seen of it ----------------------

-- what is written of each core are its statuses after these entries
abbrev pub IsWritten : BoardValue → List (List Status) → List FwEntry → Type 0
IsWritten b log entries =
    (core : ℕ) → core < cores b → row log core ≡ statuses b (history_of entries) core

-- each item that was seen of a core is one of its statuses after these entries, and serials rise
abbrev pub Stand : BoardValue → List FwEntry → List (List Item) → Type 0
Stand b entries seen =
    (core : ℕ) → core < cores b
    → Within (statuses b (history_of entries) core) (row seen core)

-- the last status of each core after these entries is the last that was seen
abbrev pub AllLast : BoardValue → List FwEntry → List (List Item) → Type 0
AllLast b entries seen =
    (core : ℕ) → core < cores b
    → IsLast (statuses b (history_of entries) core) (row seen core)

-- the last that was seen of a core is this status
abbrev pub HasSeen : List (List Item) → ℕ → Status → Type 0
HasSeen seen core status = (serial : ℕ) × Begins (serial, status) (row seen core)

-- what is written of a core after the last call, by the life before it and what was written then
abbrev pub written_after : BoardValue → List FwEntry → ℕ → ℕ → List Status → List Status
written_after b entries before core written =
    if life b (history_of entries) == 0 then written
    else one_more (not (life b (history_of entries) == before)) core
    (status b (history_of entries) core) written

-- the core that a call may name, by its reply: the target of an accepted CPU_ON, a core that
-- enters, or that of an acknowledgement
abbrev pub named_by : Core → FwCall → FwReply → Option Core
named_by core (Smc regs) (Out o) = asked_by o
named_by core (Enter start) (Out o) = Some core
named_by core (Take ack) (Taken taken) = Some ack.core
named_by core call reply = None

-- the core that the call of an entry may name
abbrev pub named_in : FwEntry → Option Core
named_in e = named_by e.core e.call e.reply

-- all but the last call of these entries was written, this was the life before the last call, and
-- this is the core that it may name
abbrev pub IsOneBehind : BoardValue → List (List Status) → List FwEntry → ℕ → Option Core → Type 0
IsOneBehind b log entries before named =
    (past : List FwEntry) × (last : FwEntry) × (entries ≡ past ++ last ∷ [])
    × (before ≡ life b (history_of past)) × (named ≡ named_in last) × IsWritten b log past

-- How a call through a pass was answered ----------------------------------------------------------

-- the reply is the one answer after these entries, which tell a legal history; the item has their
-- number as its place; and with the call entered, all that the pass has seen are statuses, and the
-- last status of each core is the last that it has seen
abbrev pub IsAnsweredAfter : BoardValue → List FwEntry → ℕ → PassView → PassView → FwCall → FwReply
    → Type 0
IsAnsweredAfter b entries ticket p p' call reply =
    IsLegal b (history_of entries)
    × (reply ≡ answer_after b entries p.core.number call)
    × (p'.items ≡ p.items ++ item (length entries) call reply ∷ [])
    × Stand b (entries ++ entry ticket p.core call reply ∷ []) p'.seen
    × AllLast b (entries ++ entry ticket p.core call reply ∷ []) p'.seen

-- there are such entries
abbrev pub IsAnswered : BoardValue → PassView → PassView → FwCall → FwReply → Type 0
IsAnswered b p p' call reply =
    (entries : List FwEntry) × (ticket : ℕ) × IsAnsweredAfter b entries ticket p p' call reply

-- the firmware's book was full
abbrev pub IsFull : BoardValue → ℕ → PassView → Type 0
IsFull b room p = IsFullOf (IsTold b) room p

-- so was what the firmware refuses; or the book was full
abbrev pub IsAnsweredFault : BoardValue → ℕ → PassView → PassView → FwCall → CallFault → Type 0
IsAnsweredFault b room p p' call BookFull = IsFull b room p'
IsAnsweredFault b room p p' call (Fw fault) = IsAnswered b p p' call (Fault fault)

-- What is gathered --------------------------------------------------------------------------------

-- how many items the passes have in all
abbrev pub items_of : {W S C R : Type 0} → List (AnyPass W S C R) → ℕ
items_of ps = sum_by (λ p. length p.items) ps

-- why nothing was gathered: a pass does not agree with the book; or all do, and fewer came than
-- were made
abbrev pub IsCause : GatherCause → Type 0 → ℕ → ℕ → Type 0
IsCause Astray Agree came made = Agree → ⊥
IsCause Missing Agree came made = Agree × (came < made)

-- a pass that was told of these: of each core it has seen what it had seen, and one item more at
-- most
abbrev pub met : List (List Item) → PassView → PassView
met notes p = record p { seen = gains p.seen notes }

-- so were all of them, and else nothing has changed
abbrev pub AreMet : List PassView → List PassView → Type 0
AreMet ps ps' = (notes : List (List Item)) × (ps' ≡ map (met notes) ps)

-- what each pass has seen was written
abbrev pub AllSeen : List (List Status) → List PassView → Type 0
AllSeen log [] = Unit {0}
AllSeen log (p ∷ ps) = ((core : ℕ) → Within (row log core) (row p.seen core)) × AllSeen log ps

-- what each pass has seen are statuses after these entries
abbrev pub AllStand : BoardValue → List FwEntry → List PassView → Type 0
AllStand b entries [] = Unit {0}
AllStand b entries (p ∷ ps) = Stand b entries p.seen × AllStand b entries ps

-- What a pass has seen it keeps: a run of a pass, from call to call and poll to poll --------------

-- the item is one of these
abbrev pub IsAmong : Item → List Item → Type 0
IsAmong item [] = ⊥
IsAmong item (i ∷ is) = (item ≡ i) ⊎ IsAmong item is

-- what a poll saw, by the core that the word names, and what the pass has seen then
abbrev pub IsPolled : Option Core → PassView → PassView → Option Sighting → Type 0
IsPolled None p p' found = (found ≡ None) × (p' ≡ p)
IsPolled (Some core) p p' found =
    (s : Sighting) × (found ≡ Some s) × (s.core ≡ core)
    × IsReadAt p p' core.number s.serial s.status

-- a pass after one call that is entered
abbrev pub IsAfterCall : PassView → PassView → Type 0
IsAfterCall p p' = (call : FwCall) × (reply : FwReply) × IsCalled p p' call reply

-- a pass after one poll
abbrev pub IsAfterPoll : BoardValue → PassView → PassView → Type 0
IsAfterPoll b p p' = (word : ℕ) × (code : Code) × IsAffinity (core_of b word) p p' code

-- a pass after one call, one refused since the book is full, or one poll
abbrev pub IsStep : BoardValue → PassView → PassView → Type 0
IsStep b p p' = IsAfterCall p p' ⊎ ((p' ≡ told p) ⊎ IsAfterPoll b p p')

-- a pass after such steps, with the passes on the way, its own state last
abbrev pub Goes : BoardValue → PassView → List PassView → PassView → Type 0
Goes b p [] p' = p' ≡ p
Goes b p (q ∷ qs) p' = IsStep b p q × Goes b q qs p'

-- the status is one of the core's after these entries, by its
-- serial
abbrev pub IsOneOf : BoardValue → List FwEntry → ℕ → Status → Type 0
IsOneOf b entries core status =
    (serial : ℕ) × Stands (statuses b (history_of entries) core) (serial, status)

-- what was seen of a core of the board is that one of its statuses after these entries, by its
-- serial
abbrev pub IsInHistory : BoardValue → List FwEntry → Sighting → Type 0
IsInHistory b entries s =
    (s.core.number < cores b)
    × Stands (statuses b (history_of entries) s.core.number) (s.serial, s.status)

-- so is all that was seen
abbrev pub AreInHistory : BoardValue → List FwEntry → List Sighting → Type 0
AreInHistory b entries [] = Unit {0}
AreInHistory b entries (s ∷ ss) = IsInHistory b entries s × AreInHistory b entries ss
