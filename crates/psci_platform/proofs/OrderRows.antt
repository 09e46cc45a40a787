-- Worked examples: what a platform in order has found out, which keeps the names of no level, of
-- the cores alone, or of four levels.
use Rattle.std.proofs.Common.{◌≡◌, ◌∷◌, [], ap, List, Option, None, Some, true, false, refl, map}
use Rattle.std.proofs.Common.{ℕ}
use Rattle.psci_platform.specs.Names.{has_level}
use Rattle.psci_platform.specs.Platforms.{IsInOrder, PlatformValue}
use Rattle.psci_platform.proofs.Machines.{mt8370, mt8370_board}

-- six cores of one cluster, of which the first one boots
abbrev kept : Option ℕ → PlatformValue
kept ready = record {
  description = mt8370;
  board = mt8370_board;
  boot = 0;
  place = 0;
  ready = ready;
}

-- only what is found out once is new
in_order : IsInOrder (kept None) (kept (Some 0)) × IsInOrder (kept (Some 1)) (kept (Some 4))
in_order = (record { same = refl; ready = refl }, record { same = refl; ready = refl })

-- nothing is found out; another core boots
not_in_order : ¬ (IsInOrder (kept None) (kept None))
    × ¬ (IsInOrder (kept None) (record (kept (Some 4)) { place = 1 }))
not_in_order = (
  λ h. let e : false ≡ true = h.ready in absurd cc,
  λ h. let e : 1 ≡ 0 = ap (λ (p : PlatformValue). p.place) h.same in absurd cc,
)

-- Levels ----------------------------------------------------------------------------------------

abbrev each : List (Option ℕ)
each = None ∷ Some 0 ∷ Some 1 ∷ Some 4 ∷ []

of_the_cores : map (λ ready. has_level ready 0) each ≡ false ∷ false ∷ true ∷ true ∷ []
of_the_cores = refl
