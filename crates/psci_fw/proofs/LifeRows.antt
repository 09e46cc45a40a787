-- Worked examples of a firmware in its last life: a board of one core, which started once and has
-- turned the system off.
use Rattle.std.proofs.Common.{◌+◌, ◌<◌, ◌∷◌, ◌≡◌, ◌≤◌, [], arith, drop, false, get_or, length}
use Rattle.std.proofs.Common.{List, None, refl, rules, slice_index, slice_index_or, suc, true}
use Rattle.std.proofs.Common.{zero, ℕ}
use Rattle.std.proofs.lemmas.List.Sums.{AllPass-from_list_all}
use Rattle.psci_board.specs.Board.{BoardValue, IsBoard, size_below, up}
use Rattle.psci_board.specs.psci_abi.declared.registers.Format.TheVariants.{Original}
use Rattle.psci_state.specs.Cores.{IsActivity, never_started}
use Rattle.psci_state.specs.declared.cores.Activity.TheVariants.{Active}
use Rattle.psci_state.specs.declared.cores.CoreState.{CoreState}
use Rattle.psci_fw_spec.specs.declared.mode.SuspendMode.TheVariants.{OsInitiated}
use Rattle.psci_fw_spec.specs.declared.status.Status.TheVariants.{On}
use Rattle.psci_fw_spec.specs.Invariant.{agrees, AreValues, ask, IsPhase}
use Rattle.psci_fw_spec.specs.Values.{Values}
use Rattle.psci_fw_state.specs.declared.counts.StatusCounts.{StatusCounts}
use Rattle.psci_fw_state.specs.Counts.{counts_at, counts_below, level_counts}
use Rattle.psci_fw_state.specs.Rows.{status_at}
use Rattle.psci_fw_state.specs.Seen.{IsState, values_in}
use Rattle.psci_fw.specs.Reactions.{FirmwareValue, IsFirmware}

abbrev pub board : BoardValue
board = record {
  levels = (1 ∷ []) ∷ [];
  ranges = record { start = 0; end = 64 } ∷ [];
  boot = 0;
  starts = 9;
  lives = 3;
  format = Original;
}

abbrev pub running : ℕ → CoreState
running known = record { activity = Active; known = known }

abbrev counts : List (List StatusCounts)
counts = (record { on = 1; pending = 0 } ∷ []) ∷ []

-- in this life
abbrev pub firmware : ℕ → FirmwareValue
firmware life = record {
  board = board;
  life = life;
  halting = true;
  mode = OsInitiated;
  tree = record {
    levels = board.levels;
    cores = running 1 ∷ [];
    granted = (0 ∷ []) ∷ (0 ∷ []) ∷ [];
    confirmed = (0 ∷ []) ∷ (0 ∷ []) ∷ [];
  };
  rows = record { status = On; opening = None } ∷ [];
  counts = counts;
  slots = record { cores = None ∷ []; system = None };
}

pub is_board : IsBoard board
is_board = search (rules, arith, AllPass-from_list_all)

-- Values ----------------------------------------------------------------------------------------

abbrev values : ℕ → Values
values life = values_in (firmware life)

known : (life c : ℕ) → (values life).known c ≤ 9
unfolding values_in
known life zero = omega arith
known life (suc c) = omega arith

agree : (life c : ℕ) → agrees ((values life).status c) ((values life).phase c) ≡ true
unfolding values_in
agree life zero = refl
agree life (suc c) = refl

phase : (life c : ℕ) → IsPhase board ((values life).phase c)
unfolding values_in
phase life zero = tt
phase life (suc c) = tt

nested : (life c level : ℕ) → c < 1 → level < 1
    → (values life).granted (level + 1) (up board (level + 1) c)
    ≤ (values life).granted level (up board level c)
unfolding values_in up
nested life zero zero h low = omega arith
nested life zero (suc level) h low = absurd (omega (arith, low))
nested life (suc c) level h low = absurd (omega (arith, h))

asked : (life c : ℕ) → c < 1 → (values life).granted 0 c ≤ ask board (values life) c 0
unfolding values_in
asked life zero h = omega arith
asked life (suc c) h = absurd (omega (arith, h))

pub are_values : (life : ℕ) → AreValues board (values life)
unfolding values_in
are_values life = record {
  known = known life;
  agree = agree life;
  phase = phase life;
  nested = nested life;
  asked = asked life;
  awake = λ e. let no : true ≡ false = e in absurd (cc);
}

-- States ----------------------------------------------------------------------------------------

-- nothing is granted to any domain, and nothing confirmed
abbrev none : List (List ℕ)
none = (0 ∷ []) ∷ (0 ∷ []) ∷ []

nothing : (level place : ℕ) → slice_index (slice_index_or none level []) place ≡ 0
nothing zero zero = refl
nothing zero (suc place) = refl
nothing (suc zero) zero = refl
nothing (suc zero) (suc place) = refl
nothing (suc (suc level)) place = refl

no_more : (level place n : ℕ) → slice_index (slice_index_or none level []) place ≤ n
no_more level place n = omega (arith, nothing level place)

asks : (c : ℕ) → IsActivity (get_or (running 1 ∷ []) c never_started).activity
asks zero = tt
asks (suc c) = tt

many : (level : ℕ) → 0 < level → level ≤ 1
    → length (level_counts counts level) ≡ size_below (drop level board.levels)
many zero some low = absurd (omega (arith, some))
many (suc zero) some low = refl
many (suc (suc level)) some low = absurd (omega (arith, low))

each : (life level place : ℕ) → 0 < level → level ≤ 1
    → place < size_below (drop level board.levels)
    → counts_at counts level place ≡ counts_below board.levels (status_at (firmware life).rows)
    (record { level = level; place = place })
unfolding counts_below
each life zero place some low h = absurd (omega (arith, some))
each life (suc zero) zero some low h = refl
each life (suc zero) (suc place) some low h = absurd (omega (arith, h))
each life (suc (suc level)) place some low h = absurd (omega (arith, low))

pub is_state : (life : ℕ) → IsState (firmware life)
unfolding values_in up
is_state life = record {
  board = is_board;
  tree = record {
    tree = is_board.tree;
    high = omega arith;
    cores = refl;
    granted = refl;
    confirmed = refl;
    asks = asks;
    deepest = λ level place. no_more level place 3;
    nested = nested life;
    sure = λ level place. no_more level place _;
  };
  levels = refl;
  rows = refl;
  counts = record { shape = record { height = refl; domains = many }; each = each life };
  slots = refl;
}

-- Lives -----------------------------------------------------------------------------------------

pub last_life : IsFirmware (firmware 3)
unfolding values_in
last_life = record {
  board = is_board;
  values = are_values 3;
  fresh = record { same = λ e. let no : 3 ≡ 0 = e in absurd (omega (arith, no)) };
  lives = omega arith;
}

pub life_beyond_the_board : IsFirmware (firmware 4) → ⊥
unfolding values_in
life_beyond_the_board h = let e : 4 ≤ 3 = h.lives in omega (arith, e)
