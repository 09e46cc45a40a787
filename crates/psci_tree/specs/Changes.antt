-- What a call changes in a tree of power domains.
use Rattle.std.specs.Prelude.{◌+◌, ◌-◌, ◌<◌, ◌==◌, ◌∷◌, ◌≡◌, ◌≤◌, [], if◌then◌else◌, length}
use Rattle.std.specs.Prelude.{List, map, replicate, slice_index_or, slice_set, ℕ}
use Rattle.psci_board.specs.declared.draft.Node.{Node}
use Rattle.psci_board.specs.Board.{size_below, group_of, place_above}
use Rattle.psci_state.specs.PowerState.{power_down}
use Rattle.psci_state.specs.declared.cores.Activity.{Activity}
use Rattle.psci_state.specs.declared.cores.Activity.TheVariants.{Active, Suspended, Away}
pub use Rattle.psci_state.specs.Cores.{core_changed}
use Rattle.psci_tree.specs.Recount.{confirmed_at, granted_at, known_at, level_sizes}
use Rattle.psci_tree.specs.Recount.{never_started, TreeValue}

-- another state of one core
abbrev pub with_core_state : TreeValue → ℕ → Activity → ℕ → TreeValue
with_core_state t core activity known = record t {
  cores = slice_set t.cores core (record { activity = activity; known = known });
}

-- 0 at this place, and at those above it
abbrev pub path_cleared : List (List ℕ) → ℕ → List (List ℕ) → List (List ℕ)
path_cleared levels place [] = []
path_cleared [] place (g ∷ gs) = slice_set g place 0 ∷ path_cleared [] place gs
path_cleared (w ∷ ws) place (g ∷ gs) = slice_set g place 0 ∷ path_cleared ws (group_of w place) gs

-- nothing is granted on the path of a core, and nothing confirmed
abbrev pub with_path_cleared : TreeValue → ℕ → TreeValue
with_path_cleared t core = record t {
  granted = path_cleared t.levels core t.granted;
  confirmed = path_cleared t.levels core t.confirmed;
}

-- a core is suspended, and asks these depths; what was granted stays
unfoldable pub suspended : TreeValue → ℕ → List ℕ → TreeValue
suspended t core depths = with_core_state t core (Suspended depths) (known_at t core)

-- a core is off, or going off; what was granted stays
unfoldable pub turned_off : TreeValue → ℕ → TreeValue
turned_off t core = with_core_state t core Away (known_at t core)

-- a core is pending: it asks for nothing, and nothing is granted on its path
unfoldable pub made_pending : TreeValue → ℕ → TreeValue
made_pending t core = with_path_cleared (with_core_state t core Active (known_at t core)) core

-- a core runs in its start of this number: it asks for nothing, and nothing is granted on its
-- path
unfoldable pub started : TreeValue → ℕ → ℕ → TreeValue
started t core known = with_path_cleared (with_core_state t core Active known) core

-- this depth at the place of one domain
abbrev pub depth_set : List (List ℕ) → Node → ℕ → List (List ℕ)
depth_set rows n depth =
    slice_set rows n.level (slice_set (slice_index_or rows n.level []) n.place depth)

-- what stays confirmed of a domain that is granted this depth: nothing, if it was granted another
abbrev pub still_confirmed : TreeValue → Node → ℕ → ℕ
still_confirmed t n depth = if granted_at t n.level n.place == depth
    then confirmed_at t n.level n.place else 0

-- a granted depth of one domain: another one than before is not confirmed
unfoldable pub with_grant : TreeValue → Node → ℕ → TreeValue
with_grant t n depth = record t {
  granted = depth_set t.granted n depth;
  confirmed = depth_set t.confirmed n (still_confirmed t n depth);
}

-- what was granted to one domain is confirmed
unfoldable pub with_confirmed : TreeValue → Node → TreeValue
with_confirmed t n = record t {
  confirmed = depth_set t.confirmed n (granted_at t n.level n.place);
}

-- rows of these lengths, with one depth throughout
abbrev pub rows_with_depth : List ℕ → ℕ → List (List ℕ)
rows_with_depth counts depth = map (λ count. replicate count depth) counts

-- every core off and never started, every domain granted power-down, which is confirmed
abbrev pub all_off : List (List ℕ) → TreeValue
all_off levels = record {
  levels = levels;
  cores = replicate (size_below levels) never_started;
  granted = rows_with_depth (level_sizes levels) power_down;
  confirmed = rows_with_depth (level_sizes levels) power_down;
}

-- the start of a life: the boot core, core 0, is pending, and all else is off
unfoldable pub start_of_life : List (List ℕ) → TreeValue
start_of_life levels = made_pending (all_off levels) 0

-- Conditions -----------------------------------------------------------------------------------

-- a depth that may be granted to a domain: no child is granted less, and the parent no more
pub record MayGrant (t : TreeValue) (n : Node) (depth : ℕ) : Type 0 where
  pub deepest : depth ≤ power_down
  pub children : (core : ℕ) → core < size_below t.levels → 0 < n.level
      → place_above t.levels n.level core ≡ n.place
      → depth ≤ granted_at t (n.level - 1) (place_above t.levels (n.level - 1) core)
  pub parent : (core : ℕ) → core < size_below t.levels → n.level < length t.levels
      → place_above t.levels n.level core ≡ n.place
      → granted_at t (n.level + 1) (place_above t.levels (n.level + 1) core) ≤ depth
