-- The ways from the system down to all cores.
use Rattle.std.specs.Prelude.{◌≡◌, ℕ, ◌<◌, ◌≤◌, List, length, map}
use Rattle.std.specs.Prelude.{slice_index, slice_index_or}
use Rattle.psci_board.specs.Board.{IsTree, place_above, size_below}
use Rattle.psci_tree.specs.declared.way.Way.{Way}
use Rattle.psci_tree.specs.Recount.{level_sizes}

-- of each domain on the path of a core, the place
pub record IsWayOf (levels : List (List ℕ)) (core : ℕ) (way : Way) : Type 0 where
  pub places : (l : ℕ) → l ≤ length levels
      → slice_index way.places l ≡ place_above levels l core

-- that of each core, in the order of their numbers
pub record AreWays (levels : List (List ℕ)) (ways : List Way) : Type 0 where
  pub count : length ways ≡ size_below levels
  pub each : (core : ℕ) (w : Way) → core < size_below levels
      → IsWayOf levels core (slice_index_or ways core w)

-- a way that leads to a core of these levels, which are those of a board
pub record LeadsTo (levels : List (List ℕ)) (c : ℕ) (w : Way) : Type 0 where
  pub tree : IsTree levels
  pub high : length levels ≤ 3
  pub core : c < size_below levels
  pub way : IsWayOf levels c w

-- rows of granted and of confirmed depths, one for each domain of these levels
pub record AreRows (levels gs cs : List (List ℕ)) : Type 0 where
  pub granted : map length gs ≡ level_sizes levels
  pub confirmed : map length cs ≡ level_sizes levels
