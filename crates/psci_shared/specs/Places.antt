-- Places of a book, and how often they stand in the passes.
use Rattle.std.specs.Prelude.{◌%◌, ◌&&◌, ◌++◌, ◌+◌, ◌-◌, ◌<◌, ◌==◌, ◌^◌, ◌||◌, ◌∷◌, ◌≡◌, ◌≤◌, []}
use Rattle.std.specs.Prelude.{Bool, count_by, false, if◌then◌else◌, length, List, map, nat_lt}
use Rattle.std.specs.Prelude.{None, not, Option, reverse, slice_get, Some, sum_by, true, ℕ}
use Rattle.psci_board.specs.Board.{BoardValue}
use Rattle.psci_ctl.specs.Seen.{ControllerValue, seen}
use Rattle.psci_ctl.specs.psci_ctl_spec.Values.{CtlExchange}
use Rattle.psci_ctl.specs.psci_ctl_spec.History.{IsLegal, legal_reply, values_of}
use Rattle.psci_ctl.specs.psci_ctl_spec.declared.call.CtlCall.{CtlCall}
use Rattle.psci_ctl.specs.psci_ctl_spec.declared.call.CtlCall.TheVariants.{Deliver, Reset, Wake}
use Rattle.psci_ctl.specs.psci_ctl_spec.declared.reply.CtlReply.{CtlReply}
use Rattle.psci_ctl.specs.psci_ctl_spec.declared.reply.CtlReply.TheVariants.{Delivery, Kick}
use Rattle.psci_fw.specs.psci_board.declared.draft.Core.{Core}
use Rattle.psci_fw.specs.psci_fw_spec.declared.call.FwCall.{FwCall}
use Rattle.psci_fw.specs.psci_fw_spec.declared.reply.FwReply.{FwReply}
use Rattle.psci_shared.specs.declared.entry.Entry.{Entry}
use Rattle.psci_shared.specs.declared.entry.Item.{Item}
use Rattle.psci_shared.specs.declared.fault.PassFault.{PassFault}
use Rattle.psci_shared.specs.declared.fault.PassFault.TheVariants.{Memory, NoCore, TooMany}

-- Views -------------------------------------------------------------------------------------------
-- Books and passes as contracts see them, whatever is called through them: who calls, what is asked
-- and what is replied, and what a pass has seen.

-- a book: its entries, the first call first, and how many it has room for
pub record AnyBook (W C R : Type 0) : Type 0 where
  pub entries : List (Entry W C R)
  pub room : ℕ

-- a book with one entry more
abbrev pub entered : {W C R : Type 0} → AnyBook W C R → Entry W C R → AnyBook W C R
entered b e = record b { entries = b.entries ++ e ∷ [] }

-- a pass: its core, for how many items it has room, whether it was told that the book is full, its
-- items, the first call first, and what it has seen
pub record AnyPass (W S C R : Type 0) : Type 0 where
  pub core : W
  pub room : ℕ
  pub told_full : Bool
  pub items : List (Item C R)
  pub seen : S

-- an item
abbrev pub item : {C R : Type 0} → ℕ → C → R → Item C R
item place call reply = record { place = place; call = call; reply = reply }

-- a new pass, which has seen this: it was not called by yet, nor told anything
abbrev pub first : {W S C R : Type 0} → W → ℕ → S → AnyPass W S C R
first core room seen = record {
  core = core;
  room = room;
  told_full = false;
  items = [];
  seen = seen;
}

-- a pass with one item more, which has now seen this
abbrev pub called : {W S C R : Type 0} → AnyPass W S C R → Item C R → S → AnyPass W S C R
called p i seen = record p { items = p.items ++ i ∷ []; seen = seen }

-- a pass that was told that the book is full
abbrev pub told : {W S C R : Type 0} → AnyPass W S C R → AnyPass W S C R
told p = record p { told_full = true }

-- Places ------------------------------------------------------------------------------------------

-- whether this place is in a list
abbrev pub has_place : ℕ → List ℕ → Bool
has_place place [] = false
has_place place (p ∷ ps) = (p == place) || has_place place ps

-- whether no place is in both lists
abbrev pub apart : List ℕ → List ℕ → Bool
apart [] others = true
apart (p ∷ ps) others = not (has_place p others) && apart ps others

-- whether a list has no place of another one
abbrev pub apart_from : List ℕ → List (List ℕ) → Bool
apart_from places [] = true
apart_from places (ps ∷ rest) = apart places ps && apart_from places rest

-- whether no two lists have one place
abbrev pub all_apart : List (List ℕ) → Bool
all_apart [] = true
all_apart (ps ∷ rest) = apart_from ps rest && all_apart rest

-- the places rise, and none is below this one
abbrev pub RisesFrom : ℕ → List ℕ → Type 0
RisesFrom from [] = Unit {0}
RisesFrom from (p ∷ ps) = (from ≤ p) × RisesFrom (p + 1) ps

-- the places of each list rise
abbrev pub AllRise : List (List ℕ) → Type 0
AllRise [] = Unit {0}
AllRise (ps ∷ rest) = RisesFrom 0 ps × AllRise rest

-- what is left of a list from the first place on that is not below this one
abbrev pub not_below : ℕ → List ℕ → List ℕ
not_below place [] = []
not_below place (p ∷ ps) = if nat_lt p place then not_below place ps else p ∷ ps

-- whether the first place of a list is this one
abbrev pub begins_at : ℕ → List ℕ → Bool
begins_at place [] = false
begins_at place (p ∷ ps) = p == place

-- how often a place stands in lists of places
abbrev pub times : ℕ → List (List ℕ) → ℕ
times place lists = sum_by (λ places. count_by (λ p. p == place) places) lists

-- each place below this number stands in exactly one of the lists, once
abbrev pub EachOnce : ℕ → List (List ℕ) → Type 0
EachOnce number lists = (place : ℕ) → place < number → times place lists ≡ 1

-- the places of items
abbrev pub places : {C R : Type 0} → List (Item C R) → List ℕ
places is = map (λ i. i.place) is

-- the places of the items of a pass
abbrev pub places_of : {W S C R : Type 0} → AnyPass W S C R → List ℕ
places_of p = places p.items

-- each place of the book stands in exactly one pass, once
abbrev pub AllPlaced : {W S C R : Type 0} → AnyBook W C R → List (AnyPass W S C R) → Type 0
AllPlaced b ps = EachOnce (length b.entries) (map places_of ps)

-- When passes agree with a book -------------------------------------------------------------------

-- the entry is the item's call of this core, with the item's reply
abbrev pub IsOf : {W C R : Type 0} → Entry W C R → W → Item C R → Type 0
IsOf e core i = (e.core ≡ core) × (e.call ≡ i.call) × (e.reply ≡ i.reply)

-- there is such an entry
abbrev pub StandsAt : {W C R : Type 0} → Option (Entry W C R) → W → Item C R → Type 0
StandsAt None core i = ⊥
StandsAt (Some e) core i = IsOf e core i

-- the item's place is not below this one, and its entry stands there
abbrev pub StandsFrom : {W C R : Type 0} → List (Entry W C R) → W → ℕ → Item C R → Type 0
StandsFrom entries core from i = (from ≤ i.place) × StandsAt (slice_get entries i.place) core i

-- the places rise, none is below this one, and the entry of each item stands at its place
abbrev pub AllStandFrom : {W C R : Type 0} → List (Entry W C R) → W → ℕ → List (Item C R)
    → Type 0
AllStandFrom entries core from [] = Unit {0}
AllStandFrom entries core from (i ∷ is) =
    StandsFrom entries core from i × AllStandFrom entries core (i.place + 1) is

-- a pass agrees with a book: its places rise, the entry at each is its item's, and the book is full
-- if the pass was told so
abbrev pub Agrees : {W S C R : Type 0} → AnyBook W C R → AnyPass W S C R → Type 0
Agrees b p =
    (p.told_full ≡ true → length b.entries ≡ b.room) × AllStandFrom b.entries p.core 0 p.items

-- each pass does
abbrev pub AllAgree : {W S C R : Type 0} → AnyBook W C R → List (AnyPass W S C R) → Type 0
AllAgree b [] = Unit {0}
AllAgree b (p ∷ ps) = Agrees b p × AllAgree b ps

-- each pass agrees with the book, and no two passes have one place
abbrev pub Agree : {W S C R : Type 0} → AnyBook W C R → List (AnyPass W S C R) → Type 0
Agree b ps = AllAgree b ps × (all_apart (map places_of ps) ≡ true)

-- Ctl entries -------------------------------------------------------------------------------------
-- The power controller's entries and items. No core calls through its passes.

-- an entry of its book
abbrev pub CtlEntry : Type 0
CtlEntry = Entry (Unit {0}) CtlCall CtlReply

-- an item of a pass
abbrev pub CtlItem : Type 0
CtlItem = Item CtlCall CtlReply

-- A book as contracts see it, and the history that it tells ---------------------------------------

-- the power controller's book
abbrev pub BookView : Type 0
BookView = AnyBook (Unit {0}) CtlCall CtlReply

-- an entry
abbrev pub entry : ℕ → CtlCall → CtlReply → CtlEntry
entry ticket call reply = record { ticket = ticket; core = tt; call = call; reply = reply }

-- the call of an entry with its reply, as histories have it
abbrev pub exchange_of : CtlEntry → CtlExchange
exchange_of e = record { call = e.call; reply = e.reply }

-- the history of a book, the last call first
unfoldable pub history_of : List CtlEntry → List CtlExchange
history_of entries = map exchange_of (reverse entries)

-- they tell a legal history: each reply is the one reply after the entries before it
abbrev pub IsTold : BoardValue → List CtlEntry → Type 0
IsTold b entries = IsLegal b (history_of entries)

-- a power controller of this board that has the values after these entries
abbrev pub Has : BoardValue → ControllerValue → List CtlEntry → Type 0
Has b c entries = (c.board ≡ b) × (seen c ≡ values_of b (history_of entries))

-- The room of a book, whatever machine's it is, and when it is full -------------------------------

-- so many entries are within the room, for which memory is reserved
pub record HasRoom (count capacity room : ℕ) : Type 0 where
  pub within : count ≤ room
  pub reserved : room ≤ capacity
  pub small : room < 2 ^ 32

-- these entries fill a book of that room: they are as many, and their history is legal
abbrev pub Fill : {E : Type 0} → (List E → Type 0) → ℕ → List E → Type 0
Fill IsTold room entries = IsTold entries × (length entries ≡ room)

-- the book was full: the pass has it from the lock, and there are entries that fill one. As long as
-- a pass was told so, the book is full that it is gathered with, or fails to be
abbrev pub IsFullOf : {W S C R : Type 0} → (List (Entry W C R) → Type 0) → ℕ → AnyPass W S C R
    → Type 0
IsFullOf IsTold room p = (p.told_full ≡ true) × ((entries : List _) × Fill IsTold room entries)

-- the book of a legal history is full: it stays as it is, and the pass is told
abbrev pub IsTurnedAwayOf : {W S C R : Type 0} → (List (Entry W C R) → Type 0) → ℕ
    → AnyBook W C R → AnyBook W C R → AnyPass W S C R → AnyPass W S C R → Type 0
IsTurnedAwayOf IsTold room book book' p p' =
    (book' ≡ book) × (p' ≡ told p) × (length book.entries ≡ room) × IsTold book.entries

-- Passes as contracts see them --------------------------------------------------------------------

-- a pass of the power controller: it is no core's, and has seen nothing
abbrev pub PassView : Type 0
PassView = AnyPass (Unit {0}) (Unit {0}) CtlCall CtlReply

-- the reply is one to such a call: a message is delivered, and a core is kicked
abbrev pub Fits : CtlCall → CtlReply → Type 0
Fits (Deliver m) (Delivery d) = Unit {0}
Fits (Deliver m) (Kick k) = ⊥
Fits (Wake c halted) (Kick k) = Unit {0}
Fits (Wake c halted) (Delivery d) = ⊥
Fits (Reset c) (Kick k) = Unit {0}
Fits (Reset c) (Delivery d) = ⊥

-- a call was entered: the pass has one item more
abbrev pub IsCalled : PassView → PassView → CtlCall → CtlReply → Type 0
IsCalled p p' call reply = (place : ℕ) × (p' ≡ called p (item place call reply) tt)

-- why no pass is made once so many were made: they are 1,000; or else memory lacks
abbrev pub IsNoPass : ℕ → PassFault → Type 0
IsNoPass made NoCore = ⊥
IsNoPass made TooMany = made ≡ 1000
IsNoPass made Memory = made < 1000

-- How a call through a pass was answered ----------------------------------------------------------

-- the reply is the one reply after these entries, which tell a legal history; and the item has
-- their number as its place
abbrev pub IsAnsweredAfter : BoardValue → List CtlEntry → PassView → PassView → CtlCall → CtlReply
    → Type 0
IsAnsweredAfter b entries p p' call reply =
    IsLegal b (history_of entries)
    × (reply ≡ legal_reply b (history_of entries) call)
    × (p'.items ≡ p.items ++ item (length entries) call reply ∷ [])

-- there are such entries
abbrev pub IsAnswered : BoardValue → PassView → PassView → CtlCall → CtlReply → Type 0
IsAnswered b p p' call reply =
    (entries : List CtlEntry) × IsAnsweredAfter b entries p p' call reply

-- the power controller's book was full
abbrev pub IsFull : BoardValue → ℕ → PassView → Type 0
IsFull b room p = IsFullOf (IsTold b) room p

-- What a call does under the lock -----------------------------------------------------------------

-- the reply is the one reply after these entries, and one to such a call
abbrev pub IsReply : BoardValue → List CtlEntry → CtlCall → CtlReply → Type 0
IsReply b entries call reply = (reply ≡ legal_reply b (history_of entries) call) × Fits call reply

-- the call stands in the book, whose history was legal, and in the list of the pass
abbrev pub IsEntered : BoardValue → ℕ → BookView → BookView → PassView → PassView → CtlCall
    → CtlReply → Type 0
IsEntered b ticket book book' p p' call reply =
    (book' ≡ entered book (entry ticket call reply))
    × (p' ≡ called p (item (length book.entries) call reply) tt)
    × IsLegal b (history_of book.entries)

-- the power controller's book is full: it stays as it is, and the pass is told
abbrev pub IsTurnedAway : BoardValue → ℕ → BookView → BookView → PassView → PassView → Type 0
IsTurnedAway b room book book' p p' = IsTurnedAwayOf (IsTold b) room book book' p p'

-- The firmware's entries and items ----------------------------------------------------------------

-- an entry of its book
abbrev pub FwEntry : Type 0
FwEntry = Entry Core FwCall FwReply

-- an item of a pass
abbrev pub FwItem : Type 0
FwItem = Item FwCall FwReply

-- Told --------------------------------------------------------------------------------------------
-- What passes count in the ledger of their lock, and what one knows of the book that was told that
-- it is full.

-- what a pass counts, by how many items it has and whether it was told that the book is full: one
-- for each item, and 2^48 if it was told
abbrev pub counted : ℕ → Bool → ℕ
counted items told_full = items + (if told_full then 2 ^ 48 else 0)

-- how many passes were told
abbrev pub told_of : {W S C R : Type 0} → List (AnyPass W S C R) → ℕ
told_of ps = count_by (λ p. p.told_full) ps

-- what the passes of a lock may count in all, by how many entries the book has and how many it has
-- room for: one for each entry, and 2^48 for each pass that was told, and none is told before the
-- book is full
abbrev pub IsTotal : ℕ → ℕ → ℕ → Type 0
IsTotal entries room total =
    (entries ≤ total) × ((total - entries) % 2 ^ 48 ≡ 0) × (entries < total → entries ≡ room)

-- there are as many entries as there is room for, if one of these passes was told so
abbrev pub FullIfTold : {W S C R : Type 0} → ℕ → ℕ → List (AnyPass W S C R) → Type 0
FullIfTold entries room [] = Unit {0}
FullIfTold entries room (p ∷ ps) =
    (p.told_full ≡ true → entries ≡ room) × FullIfTold entries room ps
