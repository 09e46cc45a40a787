-- What is known of cores and power domains when a core stops, and what is counted below a domain.
use Rattle.std.specs.Prelude.{ℕ, Bool, not, map}
use Rattle.std.specs.List.{sum_by, list_all}
use Rattle.psci_board.specs.declared.draft.Node.{Node}
use Rattle.psci_board.specs.Board.{BoardValue, below}
pub use Rattle.psci_board.specs.Board.{domain_of}
use Rattle.psci_state.specs.PowerState.{least}

-- What a claim is made from. Cores go by their numbers, domains by their levels and places.
pub record PowerView : Type 0 where
  -- the depth that a core asks of its domain of a level
  pub ask : ℕ → ℕ → ℕ
  -- the number of a core's last start that was seen to enter, or 0
  pub known : ℕ → ℕ
  -- whether a core is running or pending
  pub is_active : ℕ → Bool
  -- whether a core is off or going off
  pub is_away : ℕ → Bool
  -- the depth that a domain was granted
  pub granted : ℕ → ℕ → ℕ

-- the least depth that the cores below a domain ask of it
unfoldable pub least_ask : BoardValue → PowerView → Node → ℕ
least_ask b v n = least (map (λ c. v.ask c n.level) (below b n))

-- the sum of the known starts of the cores below a domain
unfoldable pub generation : BoardValue → PowerView → Node → ℕ
generation b v n = sum_by v.known (below b n)

-- every core below a domain is off or going off
unfoldable pub is_all_away : BoardValue → PowerView → Node → Bool
is_all_away b v n = list_all v.is_away (below b n)

-- no core below a domain is running or pending
unfoldable pub is_idle : BoardValue → PowerView → Node → Bool
is_idle b v n = list_all (λ c. not (v.is_active c)) (below b n)
