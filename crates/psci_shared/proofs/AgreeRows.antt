-- Worked examples of passes that agree with a book, and for each clause one that breaks just it; of
-- what passes count in the ledger, and of what is known of the book where one of them was told that
-- it is full. Core 0 asked twice, and core 1 in between.
use Rattle.std.proofs.Common.{◌∷◌, ◌≡◌, [], arith, Bool, false, List, refl}
use Rattle.std.proofs.Common.{true, ℕ}
use Rattle.psci_fw.specs.psci_board.declared.draft.Core.{Core}
use Rattle.psci_fw.specs.psci_fw_spec.declared.call.FwCall.{FwCall}
use Rattle.psci_fw.specs.psci_fw_spec.declared.call.FwCall.TheVariants.{Smc, Enter, Take}
use Rattle.psci_fw.specs.psci_fw_spec.declared.fault.FwFault.TheVariants.{NoCore, NoLife}
use Rattle.psci_fw.specs.psci_fw_spec.declared.fault.FwFault.TheVariants.{NotRunning, OldStart}
use Rattle.psci_fw.specs.psci_fw_spec.declared.reply.FwReply.{FwReply}
use Rattle.psci_fw.specs.psci_fw_spec.declared.reply.FwReply.TheVariants.{Out, Taken, Fault}
use Rattle.psci_messages.specs.declared.start.Cause.TheVariants.{On}
use Rattle.psci_shared.specs.Places.{Agree, Agrees, all_apart, AllPlaced, AllStandFrom, counted}
use Rattle.psci_shared.specs.Places.{FullIfTold, FwEntry, FwItem, IsTotal, item}
use Rattle.psci_shared.specs.Places.{PassView as ControllerPass, places, told_of}
use Rattle.psci_shared.specs.declared.fault.GatherCause.TheVariants.{Astray, Missing}
use Rattle.psci_shared.specs.Passes.{BookView, entry, history_of, IsCause, items_of, PassView}
use Rattle.psci_board.proofs.Tables.{◌⇒◌, Gives}

abbrev core : ℕ → Core
core n = record { number = n }

abbrev ask : ℕ → FwCall
ask word = Smc (record { x0 = word; x1 = 0; x2 = 0; x3 = 0 })

abbrev entries : List FwEntry
entries =
    entry 5 (core 0) (ask 1) (Fault NoLife)
    ∷ entry 6 (core 1) (ask 2) (Fault NotRunning)
    ∷ entry 9 (core 0) (ask 3) (Fault NoLife) ∷ []

-- a book that is full, and one that is not
abbrev full : BookView
full = record { entries = entries; room = 3 }

abbrev wide : BookView
wide = record { entries = entries; room = 4 }

abbrev pass : Bool → ℕ → List FwItem → PassView
pass told n items =
    record { core = core n; room = 4; told_full = told; items = items; seen = [] }

-- the items of both cores
abbrev ours : List FwItem
ours = item 0 (ask 1) (Fault NoLife) ∷ item 2 (ask 3) (Fault NoLife) ∷ []

abbrev theirs : List FwItem
theirs = item 1 (ask 2) (Fault NotRunning) ∷ []

-- Passes that break one clause -------------------------------------------------------------------

-- what tells calls and replies apart
abbrev word : FwCall → ℕ
word (Smc regs) = regs.x0
word (Enter start) = 0
word (Take ack) = 0

abbrev number : FwReply → ℕ
number (Fault NoLife) = 1
number (Fault NotRunning) = 2
number (Fault NoCore) = 3
number (Fault OldStart) = 4
number (Out outcome) = 5
number (Taken taken) = 6

-- these items of a core do not stand in the book
abbrev Strays : ℕ → List FwItem → Type 0
Strays n items = AllStandFrom entries (core n) 0 items → ⊥

strays : Strays 1 ours
    -- another call, another reply
    × Strays 0 (item 0 (ask 7) (Fault NoLife) ∷ [])
    × Strays 0 (item 0 (ask 1) (Fault OldStart) ∷ [])
    -- core 1 called a function, and the item says that it entered in life 2
    × Strays 1
    (item 1 (Enter (record { life = 2; number = 1; cause = On })) (Fault NotRunning) ∷ [])
    -- it was refused since core 1 does not run, and the item says since there is no such core
    × Strays 1 (item 1 (ask 2) (Fault NoCore) ∷ [])
    -- the same entry twice; entries in the wrong order
    × Strays 1 (item 1 (ask 2) (Fault NotRunning) ∷ item 1 (ask 2) (Fault NotRunning) ∷ [])
    × Strays 0 (item 2 (ask 3) (Fault NoLife) ∷ item 0 (ask 1) (Fault NoLife) ∷ [])
    -- there is no such entry
    × Strays 0 (item 3 (ask 1) (Fault NoLife) ∷ [])
strays = search arith

agree_or_not :
    Agrees full (pass true 0 ours)
    × Agree wide (pass false 0 ours ∷ pass false 1 theirs ∷ [])
    × ¬ (Agree wide (pass false 0 ours ∷ pass false 0 theirs ∷ []))
    × ¬ (Agrees wide (pass true 0 ours))
    -- two passes that agree, with one place
    × ¬ (Agree wide (pass false 1 theirs ∷ pass false 1 theirs ∷ []))
agree_or_not = search arith

-- Places -----------------------------------------------------------------------------------------

places_apart : Gives all_apart
    ((places theirs ∷ places ours ∷ [] ∷ []) ⇒ true
    -- not the first pass, but the two behind it
    ∷ (places theirs ∷ places ours ∷ places ours ∷ []) ⇒ false ∷ [])
places_apart = refl

placed_or_not :
    -- both passes have all places of the book, whatever its room
    AllPlaced wide (pass false 0 ours ∷ pass false 1 theirs ∷ [])
    -- the entry of a book with room for two more has its place, and no other place needs one
    × AllPlaced (record { entries = entry 7 (core 1) (ask 2) (Fault NotRunning) ∷ []; room = 3 })
    (pass false 0 [] ∷ pass false 1 (item 0 (ask 2) (Fault NotRunning) ∷ []) ∷ [])
    × ¬ (AllPlaced wide (pass false 0 (item 0 (ask 1) (Fault NoLife) ∷ []) ∷ pass false 1 theirs ∷
    []))
placed_or_not = search arith

-- Gathering --------------------------------------------------------------------------------------

three_items : items_of (pass false 0 ours ∷ pass false 1 theirs ∷ []) ≡ 3
three_items = refl

cause_or_not :
    -- all agree, and one pass of two came
    IsCause Missing (Agree wide (pass false 0 ours ∷ [])) 1 2
    -- all came
    × ¬ (IsCause Missing (Agree wide (pass false 0 ours ∷ [])) 1 1)
    -- a pass that agrees is no reason
    × ¬ (IsCause Astray (Agree wide (pass false 0 ours ∷ [])) 1 1)
cause_or_not = search arith

-- Books ------------------------------------------------------------------------------------------

-- the last call of a book is the first of its history
last_call_first : history_of entries
    ≡ record { core = 0; call = ask 3; reply = Fault NoLife }
    ∷ record { core = 1; call = ask 2; reply = Fault NotRunning }
    ∷ record { core = 0; call = ask 1; reply = Fault NoLife } ∷ []
unfolding history_of
last_call_first = refl

abbrev told_pass : Bool → ControllerPass
told_pass is_told = record { core = tt; room = 4; told_full = is_told; items = []; seen = tt }

-- What is counted --------------------------------------------------------------------------------

of_a_pass : counted 3 false ∷ counted 3 true ∷ counted 0 true ∷ []
    ≡ 3 ∷ 0x1000000000003 ∷ 0x1000000000000 ∷ []
of_a_pass = refl

how_many_were_told : told_of (told_pass true ∷ told_pass false ∷ told_pass true ∷ []) ≡ 2
how_many_were_told = refl

totals_or_not :
    -- there is room for one more; the book is full, and nobody was told, one pass was, two were
    IsTotal 3 4 3
    × IsTotal 3 3 3
    × IsTotal 3 3 0x1000000000003
    × IsTotal 3 3 0x2000000000003
    -- fewer than there are entries; more, and nobody was told; a pass was told while there was room
    -- for one more, or once there were more than there is room for
    × ¬ (IsTotal 3 4 2)
    × ¬ (IsTotal 3 3 4)
    × ¬ (IsTotal 3 4 0x1000000000003)
    × ¬ (IsTotal 3 2 0x1000000000003)
totals_or_not = search arith

-- What is known of the book ----------------------------------------------------------------------

abbrev nobody : List ControllerPass
nobody = []

full_or_not :
    FullIfTold 3 3 (told_pass true ∷ told_pass false ∷ [])
    × FullIfTold 3 4 (told_pass false ∷ told_pass false ∷ [])
    × FullIfTold 3 4 nobody
    -- the first was told, or the last, while there was room; there are more entries
    × ¬ (FullIfTold 3 4 (told_pass true ∷ told_pass false ∷ []))
    × ¬ (FullIfTold 3 4 (told_pass false ∷ told_pass true ∷ []))
    × ¬ (FullIfTold 3 2 (told_pass true ∷ []))
full_or_not = search arith
