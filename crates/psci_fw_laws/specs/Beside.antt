-- What an OS-initiated request finds beside the caller's path that is not down as far as it asks.
use Rattle.std.specs.Prelude.{◌≡◌, ℕ, suc, ◌<◌, false, List, slice_index}
use Rattle.psci_board.specs.Board.{BoardValue, cores, height, up}
use Rattle.psci_messages.specs.View.{PowerView}

-- The domain of this level above a core stands in the way of a request: it is a child of a domain
-- on the caller's path, it is not on the path itself, and it was granted less than is asked of that
-- domain.
pub record IsInTheWay (b : BoardValue) (v : PowerView) (caller : ℕ) (ask : List ℕ) (level c : ℕ)
    : Type 0 where
  pub core : c < cores b
  pub low : level < height b
  pub joined : up b (suc level) c ≡ up b (suc level) caller
  pub apart : up b level c ≡ up b level caller → ⊥
  pub less : v.granted level (up b level c) < slice_index ask (suc level)

-- no core below the domain of this level above a core is running or pending
abbrev pub NobodyAwake : BoardValue → PowerView → ℕ → ℕ → Type 0
NobodyAwake b v level c = (x : ℕ) → x < cores b → up b level x ≡ up b level c
    → v.is_active x ≡ false

-- A domain in the way of a request, below which nobody is awake.
pub record HasSleeper (b : BoardValue) (v : PowerView) (caller : ℕ) (ask : List ℕ) : Type 0 where
  pub level : ℕ
  pub core : ℕ
  pub way : IsInTheWay b v caller ask level core
  pub asleep : NobodyAwake b v level core

-- Something is in the way of a request, and below each domain that is somebody is awake.
pub record AreAwake (b : BoardValue) (v : PowerView) (caller : ℕ) (ask : List ℕ) : Type 0 where
  pub level : ℕ
  pub core : ℕ
  pub way : IsInTheWay b v caller ask level core
  pub each : (l c : ℕ) → IsInTheWay b v caller ask l c → NobodyAwake b v l c → ⊥
