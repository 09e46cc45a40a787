-- The rule of the status words: what holds of all words and seats between any two steps, and what
-- each step tells.
use Rattle.std.specs.Prelude.{◌≡◌, ℕ, ◌%◌, ◌<◌, List, [], ◌∷◌, map, length, true, false}
use Rattle.std.specs.Prelude.{slice_index, slice_set, replicate, if◌then◌else◌}
use mathlib.Core.Option.{some}
use lib.ListN.{get_elem?}
use Rattle.atomic_table.specs.Table.{State, Me, Step}
use Rattle.psci_fw_spec.specs.declared.status.Status.{Status}
use Rattle.psci_fw_spec.specs.declared.status.Status.TheVariants.{Off}
use Rattle.psci_status.specs.declared.rule.View.{View}
use Rattle.psci_status.specs.Lists.{row, Within, Rises, gain, gains, newest, Begins, IsWord}
use Rattle.psci_status.specs.Lists.{item_of, status_of}

-- The views of seats --------------------------------------------------------------------------

-- the first seat is the writer's; of each core OFF was written
abbrev pub begins : ℕ → View
begins n = record { writer = true; log = replicate n (Off ∷ []); seen = []; told = [] }

-- a note that was taken in knows nothing any more
abbrev pub nobody : View
nobody = record { writer = false; log = []; seen = []; told = [] }

-- a note, or a new reader: of the writer the last items that it has written, of a reader what it
-- has seen
abbrev pub note_of : View → View
note_of v = record {
  writer = false;
  log = [];
  seen = (if v.writer then map newest v.log else v.seen);
  told = [];
}

-- a note is taken in: a reader gains the last items of it, and the writer keeps what it was told
abbrev pub informed : View → View → View
informed v note = record {
  writer = v.writer;
  log = v.log;
  seen = (if v.writer then v.seen else gains v.seen note.seen);
  told = (if v.writer then note.seen else v.told);
}

-- The rule ------------------------------------------------------------------------------------

-- one seat is the writer's at most, and has what was written. What a seat has seen and what it was
-- told was written, with serials that rise
abbrev pub Fits : ℕ → List (List Status) → ℕ → View → Type 0
Fits writer log seat v =
    (v.writer ≡ true → (seat ≡ writer) × (v.log ≡ log))
    × ((core : ℕ) → Within (row log core) (row v.seen core))
    × ((core : ℕ) → Within (row log core) (row v.told core))

-- there is a word for each core, which holds the last item that was written of it; and each seat
-- fits what was written
pub record Kept (n : ℕ) (s : State (Unit {0}) View) : Type 0 where
  pub writer : ℕ
  pub log : List (List Status)
  pub wide : length s.words ≡ n
  pub long : length log ≡ n
  pub words : (core : ℕ) → core < n → IsWord (row log core) (slice_index s.words core)
  pub seats : (seat : ℕ) (v : View) → get_elem? s.views seat ≡ some v → Fits writer log seat v

-- The steps -----------------------------------------------------------------------------------

-- the writer loads a word: it holds the last item, and what the writer was told was written
abbrev pub Looked : Step (Unit {0}) → Me (Unit {0}) View → ℕ → Me (Unit {0}) View → Type 0
Looked st m word m' =
    (m' ≡ m) × IsWord (row m.0.log st.word) word
    × ((core : ℕ) → Within (row m.0.log core) (row m.0.told core))

-- what a reader has seen of a core once it has loaded this word
abbrev pub seen_then : View → ℕ → ℕ → List (ℕ × Status)
seen_then v core word = gain (item_of word) (row v.seen core)

-- a reader loads a word: it gains the word's item, which is then the last that it has seen
abbrev pub Loaded : Step (Unit {0}) → Me (Unit {0}) View → ℕ → Me (Unit {0}) View → Type 0
Loaded st m word m' =
    (m' ≡ (record m.0 { seen = slice_set m.0.seen st.word (seen_then m.0 st.word word) }, m.1))
    × Begins (item_of word) (seen_then m.0 st.word word) × Rises (seen_then m.0 st.word word)

-- the writer stores a word: one more status was written
abbrev pub Stored : Step (Unit {0}) → Me (Unit {0}) View → ℕ → Me (Unit {0}) View → Type 0
Stored st m word m' =
    m' ≡ (
      record m.0 {
        log = slice_set m.0.log st.word (status_of (st.first % 4) ∷ row m.0.log st.word);
      },
      m.1,
    )
