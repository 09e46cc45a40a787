-- Worked examples of the rule and of its steps: a run that keeps it and a step of each kind, and
-- for each clause one that breaks just that. Two cores have words; the first was OFF, ON_PENDING
-- and ON, the other OFF alone. The first seat is the writer's, the second a reader's, and the third
-- one that was taken in.
use Rattle.std.proofs.Common.{◌*◌, ◌+◌, ◌<◌, ◌∙◌, ◌∷◌, ◌≡◌, [], ap, arith, false, length, List}
use Rattle.std.proofs.Common.{refl, subst, suc, sym, true, zero, ℕ}
use Rattle.std.proofs.lemmas.Bool.{eqb-false}
use mathlib.Core.Option.{some, some-ne-none, some-injective, none}
use lib.ListN.{get_elem?}
use Rattle.atomic_table.specs.Table.{State, Me, Step, step}
use Rattle.psci_fw_spec.specs.declared.status.Status.{Status}
use Rattle.psci_fw_spec.specs.declared.status.Status.TheVariants.{On, Off, Pending}
use Rattle.psci_status.specs.declared.rule.View.{View}
use Rattle.std.specs.Prelude.{slice_index}
use Rattle.psci_status.specs.Lists.{IsWord, Item, Stands, row}
use Rattle.psci_status.specs.Rule.{begins, Fits, informed, Kept, Loaded, Looked, nobody, note_of}
use Rattle.psci_status.specs.Rule.{Stored}
use Rattle.psci_abi.proofs.Tables.{◌⇒◌, Gives}

-- A run that keeps it ----------------------------------------------------------------------------

abbrev pub log : List (List Status)
log = (On ∷ Pending ∷ Off ∷ []) ∷ (Off ∷ []) ∷ []

-- the writer was told of the reader's items, and the reader has missed ON_PENDING
abbrev pub items : List (List Item)
items = ((2, On) ∷ (0, Off) ∷ []) ∷ ((0, Off) ∷ []) ∷ []

abbrev writer : View
writer = record { writer = true; log = log; seen = []; told = items }

abbrev reader : View
reader = record { writer = false; log = []; seen = items; told = [] }

abbrev run : List ℕ → List View → State (Unit {0}) View
run words views = record { words = words; homes = []; views = views }

writer_fits : Fits 0 log 0 writer
writer_fits = search arith

reader_fits : Fits 0 log 1 reader
reader_fits = search arith

nobody_fits : Fits 0 log 2 nobody
nobody_fits = search arith

kept : Kept 2 (run (8 ∷ 1 ∷ []) (writer ∷ reader ∷ nobody ∷ []))
kept = record {
  writer = 0;
  log = log;
  wide = refl;
  long = refl;
  words = words;
  seats = seats;
}
  where
    words : (core : ℕ) → core < 2 → IsWord (row log core) (slice_index (8 ∷ 1 ∷ []) core)
    words zero h = refl
    words (suc zero) h = refl
    words (suc (suc core)) h = absurd (omega arith)

    seats : (seat : ℕ) (v : View) → get_elem? (writer ∷ reader ∷ nobody ∷ []) seat ≡ some v
        → Fits 0 log seat v
    seats zero v e = subst (Fits 0 log 0) (some-injective _ _ e) writer_fits
    seats (suc zero) v e = subst (Fits 0 log 1) (some-injective _ _ e) reader_fits
    seats (suc (suc zero)) v e = subst (Fits 0 log 2) (some-injective _ _ e) nobody_fits
    seats (suc (suc (suc seat))) v e = absurd (some-ne-none v (sym e))

-- what was not written of either core
pub never_off : Stands (On ∷ Pending ∷ Off ∷ []) (3, Off) → ⊥
never_off = search arith

pub never_on : Stands (Off ∷ []) (1, On) → ⊥
never_on = search arith

-- Runs that break one clause ---------------------------------------------------------------------

-- no status has the number 3
no_item : (log : List Status) → IsWord log 3 → ⊥
no_item [] h = h
no_item (On ∷ ss) h = let e : 3 ≡ 4 * length ss + 0 = h in omega (arith, e)
no_item (Off ∷ ss) h = let e : 3 ≡ 4 * length ss + 1 = h in omega (arith, e)
no_item (Pending ∷ ss) h = let e : 3 ≡ 4 * length ss + 2 = h in omega (arith, e)

kept_not :
    -- there are more words than cores; a word holds no item
    ¬ (Kept 0 (run (8 ∷ []) []))
    × ¬ (Kept 2 (run (1 ∷ 3 ∷ []) []))
    -- nothing is said of what was written of a core; two seats write
    × ¬ (Kept 3 (run (8 ∷ 1 ∷ 1 ∷ []) (writer ∷ [])))
    × ¬ (Kept 2 (run (8 ∷ 1 ∷ []) (writer ∷ writer ∷ [])))
kept_not = (
  λ k. eqb-false 1 0 refl k.wide,
  λ k. no_item _ (k.words 1 (omega arith)),
  λ k. eqb-false 2 3 refl (ap length ((k.seats 0 writer refl).0 refl).1 ∙ k.long),
  λ k. eqb-false 0 1 refl
      (((k.seats 0 writer refl).0 refl).0 ∙ sym ((k.seats 1 writer refl).0 refl).0),
)

fits_not :
    -- the writer has something else than what was written
    ¬ (Fits 0 log 0 (record writer { log = (On ∷ Off ∷ []) ∷ (Off ∷ []) ∷ [] }))
    -- another seat writes
    × ¬ (Fits 0 log 1 (record writer { told = [] }))
    -- a reader has seen what was not written
    × ¬ (Fits 0 log 1 (record reader { seen = [] ∷ ((1, On) ∷ []) ∷ [] }))
    -- serials that fall
    × ¬ (Fits 0 log 1 (record reader { seen = ((0, Off) ∷ (2, On) ∷ []) ∷ [] }))
    -- the writer was told what was not written
    × ¬ (Fits 0 log 0 (record writer { told = ((3, Off) ∷ []) ∷ [] }))
    × ¬ (Fits 0 log 0 (record writer { told = [] ∷ ((1, On) ∷ []) ∷ [] }))
fits_not = (
  λ f. eqb-false 2 3 refl (ap (λ (l : List (List Status)). length (row l 0)) (f.0 refl).1),
  λ f. eqb-false 1 0 refl (f.0 refl).0,
  λ f. never_on (f.1 1).0,
  λ f. let e : 2 < 0 = (f.1 0).1 in omega arith,
  λ f. never_off (f.2 0).0,
  λ f. never_on (f.2 1).0,
)

-- Views ------------------------------------------------------------------------------------------

-- at the start OFF was written of each core
at_the_start : begins 2 ≡ record {
  writer = true;
  log = (Off ∷ []) ∷ (Off ∷ []) ∷ [];
  seen = [];
  told = [];
}
at_the_start = refl

-- a note of the writer has the last items, one of a reader what it has seen; no note writes, or has
-- what was written or what its seat was told
notes : Gives note_of
    (writer ⇒ record reader { seen = ((2, On) ∷ []) ∷ ((0, Off) ∷ []) ∷ [] }
    ∷ reader ⇒ reader
    ∷ record reader { told = items } ⇒ reader ∷ [])
notes = refl

-- a view that meets a note
abbrev meets : View × View → View
meets (view, note) = informed view note

who_is_informed : Gives meets
    -- a reader gains what a note of the writer has; it stays a reader, which is told nothing
    ((record reader { seen = ((0, Off) ∷ []) ∷ ((0, Off) ∷ []) ∷ [] }, note_of writer) ⇒ reader
    -- the writer keeps what a reader's note says
    ∷ (record writer { told = [] }, note_of reader) ⇒ writer ∷ [])
who_is_informed = refl

abbrev writing : List (List Status) → List (List Item) → Me (Unit {0}) View
writing written told = (record { writer = true; log = written; seen = []; told = told }, [])

abbrev reading : List (List Item) → Me (Unit {0}) View
reading seen = (record { writer = false; log = []; seen = seen; told = [] }, [])

-- a step at the word of a core, with a word to store
abbrev at : ℕ → ℕ → Step (Unit {0})
at core word = step 0 core word 0 none

-- The writer loads -------------------------------------------------------------------------------

looks : Looked (at 0 0) (writing log items) 8 (writing log items)
looks = search arith

looks_not :
    -- it has changed; the word is another core's; what it was told was never written
    ¬ (Looked (at 0 0) (writing log items) 8 (writing log []))
    × ¬ (Looked (at 1 0) (writing log items) 8 (writing log items))
    × ¬ (Looked (at 0 0) (writing log (((3, Off) ∷ []) ∷ [])) 8
    (writing log (((3, Off) ∷ []) ∷ [])))
    × ¬ (Looked (at 0 0) (writing log ([] ∷ ((1, On) ∷ []) ∷ [])) 8
    (writing log ([] ∷ ((1, On) ∷ []) ∷ [])))
looks_not = (
  λ h. eqb-false 0 2 refl (ap (λ (m : Me (Unit {0}) View). length m.0.told) h.0),
  λ h. eqb-false 8 1 refl h.1,
  λ h. never_off (h.2 0).0,
  λ h. never_on (h.2 1).0,
)

-- A reader loads ---------------------------------------------------------------------------------

abbrev all_off : List (List Item)
all_off = ((0, Off) ∷ []) ∷ ((0, Off) ∷ []) ∷ []

loaded_or_not :
    -- it loads ON of the first core; ON_PENDING of the second, and so where it has seen more of the
    -- first
    Loaded (at 0 0) (reading all_off) 8 (reading items)
    × Loaded (at 1 0) (reading all_off) 6 (reading (((0, Off) ∷ []) ∷ ((1, Pending) ∷ (0, Off) ∷ [])
    ∷ []))
    × Loaded (at 1 0) (reading items) 6 (reading (((2, On) ∷ (0, Off) ∷ []) ∷ ((1, Pending) ∷ (
      0,
      Off,
    ) ∷ []) ∷ []))
    -- it has seen nothing more; it has seen something of another core
    × ¬ (Loaded (at 0 0) (reading all_off) 8 (reading all_off))
    × ¬ (Loaded (at 0 0) (reading all_off) 8
    (reading (((0, Off) ∷ []) ∷ ((2, On) ∷ (0, Off) ∷ []) ∷ [])))
    -- the word is older than what it has seen
    × ¬ (Loaded (at 0 0) (reading (((2, On) ∷ []) ∷ [])) 6 (reading (((2, On) ∷ []) ∷ [])))
    -- what it had seen before falls
    × ¬ (Loaded (at 0 0) (reading (((1, Pending) ∷ (2, On) ∷ []) ∷ [])) 12
    (reading (((3, On) ∷ (1, Pending) ∷ (2, On) ∷ []) ∷ [])))
loaded_or_not = search arith

-- The writer stores ------------------------------------------------------------------------------

stored_or_not :
    -- ON_PENDING of the second core: its serial is 1, so the word is 6; OFF of the first, with
    -- serial 3
    Stored (at 1 6) (writing log items) 1 (writing ((On ∷ Pending ∷ Off ∷ []) ∷ (Pending ∷ Off ∷ [])
    ∷ []) items)
    × Stored (at 0 13) (writing log items) 8 (writing ((Off ∷ On ∷ Pending ∷ Off ∷ []) ∷ (Off ∷ [])
    ∷ []) items)
    × ¬ (Stored (at 1 6) (writing log items) 1 (writing ((On ∷ Pending ∷ Off ∷ []) ∷ (On ∷ Off ∷ [])
    ∷ []) items))
    × ¬ (Stored (at 1 6) (writing log items) 1 (writing ((On ∷ Pending ∷ Off ∷ []) ∷ (Pending ∷ [])
    ∷ []) items))
    × ¬ (Stored (at 1 6) (writing log items) 1 (writing ((Pending ∷ On ∷ Pending ∷ Off ∷ []) ∷ (Off
    ∷ []) ∷ []) items))
stored_or_not = search arith
