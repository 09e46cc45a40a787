-- What the functions over the tree of a board's power domains ask and leave.
use Rattle.std.specs.Prelude.{◌≡◌, ◌==◌, ℕ, false, if◌then◌else◌}
use Rattle.psci_board.specs.Board.{BoardValue, IsBoard, place_above}
use Rattle.psci_tree.specs.Changes.{start_of_life}
use Rattle.psci_tree.specs.Recount.{TreeValue, IsDomainTree, state_at, granted_at}
use Rattle.psci_tree.specs.Recount.{is_confirmed_at}

-- a tree of a board's power domains
pub record IsTreeOf (b : BoardValue) (t : TreeValue) : Type 0 where
  pub board : IsBoard b
  pub tree : IsDomainTree t
  pub levels : t.levels ≡ b.levels

-- a tree of a board's power domains, at the start of a life
pub record IsFirstTree (b : BoardValue) (t : TreeValue) : Type 0 where
  pub value : t ≡ start_of_life b.levels
  pub levels : t.levels ≡ b.levels
  pub tree : IsDomainTree t

-- what is granted and confirmed may be other than before, and all else of the tree stays
pub record KeepsCores (old new : TreeValue) : Type 0 where
  pub cores : (c : ℕ) → state_at new c ≡ state_at old c
  pub levels : new.levels ≡ old.levels
  pub tree : IsDomainTree new

-- what is confirmed may be other than before, and all else of the tree stays
pub record KeepsGranted (old new : TreeValue) : Type 0 where
  pub granted : (level place : ℕ) → granted_at new level place ≡ granted_at old level place
  pub cores : (c : ℕ) → state_at new c ≡ state_at old c
  pub levels : new.levels ≡ old.levels
  pub tree : IsDomainTree new

-- on a core's path nothing is granted any more, and so nothing confirmed; beside it both stay
pub record ClearsPath (old new : TreeValue) (c : ℕ) : Type 0 where
  pub granted : (level place : ℕ) → granted_at new level place
      ≡ (if place_above old.levels level c == place then 0 else granted_at old level place)
  pub confirmed : (level place : ℕ) → is_confirmed_at new level place
      ≡ (if place_above old.levels level c == place then false
      else is_confirmed_at old level place)
  pub levels : new.levels ≡ old.levels
  pub tree : IsDomainTree new
