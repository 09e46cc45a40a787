-- What is counted over the cores below a power domain, and what holds of a tree.
use Rattle.std.specs.Prelude.{◌≡◌, ℕ, ◌+◌, ◌<◌, ◌≤◌, List, [], ◌∷◌, length, map}
use Rattle.std.specs.List.{sum_by, count_by}
use Rattle.psci_state.specs.PowerState.{power_down}
pub use Rattle.psci_state.specs.PowerState.{least}
pub use Rattle.psci_state.specs.Cores.{ask_at, asks, confirmed_at, granted_at, is_active}
pub use Rattle.psci_state.specs.Cores.{is_active_at, is_away, is_away_at, is_confirmed_at}
pub use Rattle.psci_state.specs.Cores.{IsActivity, known_at, never_started, state_at, TreeValue}
use Rattle.psci_board.specs.declared.draft.Node.{Node}
use Rattle.psci_board.specs.Board.{size_below, place_above, below_in, IsTree}

-- Below a domain -------------------------------------------------------------------------------

-- the least ask at this level of the cores below
unfoldable pub low : TreeValue → Node → ℕ → ℕ
low t n level = least (map (λ c. ask_at t c level) (below_in t.levels n))

-- the sum of the known starts of the cores below
unfoldable pub known : TreeValue → Node → ℕ
known t n = sum_by (λ c. known_at t c) (below_in t.levels n)

-- how many cores below are running or pending
unfoldable pub active : TreeValue → Node → ℕ
active t n = count_by (λ c. is_active_at t c) (below_in t.levels n)

-- how many cores below are off or going off
unfoldable pub off : TreeValue → Node → ℕ
off t n = count_by (λ c. is_away_at t c) (below_in t.levels n)

-- how many domains each level has, from the cores up
abbrev pub level_sizes : List (List ℕ) → List ℕ
level_sizes [] = 1 ∷ []
level_sizes (w ∷ ws) = size_below (w ∷ ws) ∷ level_sizes ws

-- what holds of every tree
pub record IsDomainTree (t : TreeValue) : Type 0 where
  pub tree : IsTree t.levels
  pub high : length t.levels ≤ 3
  pub cores : length t.cores ≡ size_below t.levels
  pub granted : map length t.granted ≡ level_sizes t.levels
  pub confirmed : map length t.confirmed ≡ level_sizes t.levels
  -- a suspended core asks what a power state can ask
  pub asks : (core : ℕ) → IsActivity (state_at t core).activity
  -- no granted depth is above power-down
  pub deepest : (level place : ℕ) → granted_at t level place ≤ power_down
  -- on each core's path, no domain is granted more than the one below it
  pub nested : (core level : ℕ) → core < size_below t.levels → level < length t.levels
      → granted_at t (level + 1) (place_above t.levels (level + 1) core)
      ≤ granted_at t level (place_above t.levels level core)
  -- no domain is confirmed at a depth above the granted one
  pub sure : (level place : ℕ) → confirmed_at t level place ≤ granted_at t level place
