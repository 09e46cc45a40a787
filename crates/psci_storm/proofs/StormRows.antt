-- Worked examples of storms in a new world, and of what they count, on a board of one core.
use Rattle.std.proofs.Common.{ℕ, List, [], ◌∷◌, refl, arith}
use Rattle.psci_storm.specs.declared.outcome.Storm.{Storm}
use Rattle.psci_storm.specs.Storm.{IsStorm}
use Rattle.psci_world.specs.Safe.{AlwaysSafe}
use Rattle.psci_world.specs.declared.settling.Settled.{Settled}
use Rattle.psci_world.specs.declared.settling.Settled.TheVariants.{Quiet}
use Rattle.psci_world.specs.psci_world_spec.declared.event.Event.{Event}
use Rattle.psci_world.specs.psci_world_spec.declared.event.Event.TheVariants.{Enter}
use Rattle.psci_world.specs.psci_world_spec.declared.said.Record.{Record}
use Rattle.psci_world.proofs.world_spec.Scripts.{one_core, stays_legal}
use Rattle.psci_storm.proofs.BlownRows.{rested, sleeps, wrong_is_not_legal}
use Rattle.psci_storm.proofs.DrawnRows.{after, computing, wrong}

-- What a storm counts -----------------------------------------------------------------------------

-- a storm in a new world, with these events in all
abbrev Storms : ℕ → List Event → Storm → Type 0
Storms count events storm = IsStorm one_core count (after events) storm

-- its counts: all events, and messages that were sent
abbrev counts : ℕ → ℕ → Settled → Storm
counts events sent s = record { events = events; sent = sent; settled = s }

storm_that_sleeps : AlwaysSafe one_core (after rested)
    → Storms 2 rested (counts 4 1 (Quiet 1))
unfolding computing
storm_that_sleeps safe = record {
  blown = sleeps;
  events = refl;
  sent = refl;
  legal = stays_legal one_core [] rested tt;
  safe = safe;
}

-- other numbers: the events without those of settling, one event too many; no message, one too many
miscounted : (Storms 2 rested (counts 2 1 (Quiet 1)) → ⊥)
    × (Storms 0 (Enter 0 ∷ []) (counts 2 0 (Quiet 0)) → ⊥)
    × (Storms 2 rested (counts 4 0 (Quiet 1)) → ⊥)
    × (Storms 2 rested (counts 4 2 (Quiet 1)) → ⊥)
unfolding computing
miscounted = (
  λ h. let many = h.events in absurd (omega arith),
  λ h. let many = h.events in absurd (omega arith),
  λ h. let many = h.sent in absurd (omega arith),
  λ h. let many = h.sent in absurd (omega arith),
)

-- a past that is not legal
not_legal : IsStorm one_core 0 (wrong ∷ []) (counts 1 0 (Quiet 0)) → ⊥
not_legal h = wrong_is_not_legal h.legal

-- a past that is not safe, whichever it is
not_safe : (past : List Record) (storm : Storm) → ¬ (AlwaysSafe one_core past)
    → ¬ (IsStorm one_core 0 past storm)
not_safe past storm unsafe h = unsafe h.safe
