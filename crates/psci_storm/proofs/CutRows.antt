-- Worked examples of storms that ran out of memory, on a board of one core.
use Rattle.std.proofs.Common.{◌≡◌, ◌∙◌, List, [], ◌∷◌, refl, ap, subst, arith, inl, inr}
use Rattle.std.proofs.Common.{length, length-append}
use Rattle.std.specs.Prelude.{◌++◌, take}
use Rattle.psci_storm.specs.Storm.{IsCutShort}
use Rattle.psci_world.specs.Settles.{IsOnTheWay}
use Rattle.psci_world.specs.Settling.{settled}
use Rattle.psci_world.specs.psci_world_spec.declared.event.Event.TheVariants.{Enter, Deliver}
use Rattle.psci_world.specs.psci_world_spec.declared.said.Record.{Record}
use Rattle.psci_world.specs.psci_world_spec.Legal.{run_from}
use Rattle.psci_world.proofs.world_spec.Scripts.{one_core}
use Rattle.psci_storm.proofs.BlownRows.{rested}
use Rattle.psci_storm.proofs.DrawnRows.{after, asleep, computing, none_drawn, suspend, two_drawn}

-- two of three events had happened
cut_among_events : IsCutShort one_core [] 3 (after asleep)
cut_among_events = inl (2, omega arith, two_drawn)

-- both had, and nothing of settling; the Down was delivered, and its acknowledgement not taken
cut_before_settling : IsCutShort one_core [] 2 (after asleep)
unfolding computing
cut_before_settling = inr (after asleep, two_drawn, ([], refl), (take 2 (after rested), refl))

cut_in_settling : IsCutShort one_core [] 2 (after (Enter 0 ∷ suspend ∷ Deliver 0 ∷ []))
unfolding computing
cut_in_settling = inr (
  after asleep,
  two_drawn,
  (take 1 (after (Enter 0 ∷ suspend ∷ Deliver 0 ∷ [])), refl),
  (take 1 (after rested), refl),
)

-- more happened than settling does
beyond : (added : List Record)
    → after (Enter 0 ∷ []) ≡ added ++ after asleep → ⊥
unfolding run_from
beyond added e =
    let many = ap length e ∙ length-append added (after asleep) in absurd (omega arith)

cut_beyond_settling : IsCutShort one_core [] 0 (after asleep) → ⊥
unfolding computing
cut_beyond_settling (inl few) = let least = few.1 in absurd (omega arith)
cut_beyond_settling (inr all) =
    let way = subst (λ (m : List Record). IsOnTheWay (after asleep) (settled one_core m).past)
    (none_drawn [] all.0 all.1) all.3 in
    beyond way.0 way.1
