-- Worked examples: when a run goes on from another one; and for each clause something that breaks
-- it.
use Rattle.std.proofs.Common.{◌≡◌, ℕ, List, [], ◌∷◌, ◌++◌, length, ap, arith, None, Some, refl}
use Rattle.psci_world_spec.specs.psci_board.Board.{BoardValue}
use Rattle.psci_world_spec.specs.psci_fw_spec.declared.outcome.Act.TheVariants as acts
use Rattle.psci_world_spec.specs.declared.event.Event.TheVariants.{Enter}
use Rattle.psci_world_spec.specs.declared.said.Record.{Record}
use Rattle.psci_world_spec.specs.declared.said.Said.TheVariants.{Fw}
use Rattle.psci_script.specs.Told.{GoesOn, ScriptRun}

-- a start at the boot address
abbrev pub entered : ℕ → ℕ → Record
entered c address = record { event = Enter c; said = Fw (acts.Enter address 0) None }

abbrev run : BoardValue → List Record → ScriptRun
run b past = record { board = b; past = past }

by_two : (b : BoardValue) (r s t : Record)
    → GoesOn (Some (run b (r ∷ []))) (Some (run b (t ∷ s ∷ r ∷ [])))
by_two b r s t = (refl, t ∷ s ∷ [], refl)

to_no_run : (b : BoardValue) → GoesOn (Some (run b [])) None → ⊥
to_no_run b h = h

on_another_board : (b c : BoardValue) → ¬ (c ≡ b) → GoesOn (Some (run b [])) (Some (run c [])) → ⊥
on_another_board b c differs h = differs h.0

record_lost : (b : BoardValue) (r : Record) → GoesOn (Some (run b (r ∷ []))) (Some (run b [])) → ⊥
record_lost b r (same, [], is) = let e : ◌≡◌ {A = ℕ} 0 1 = ap length is in omega arith
record_lost b r (same, s ∷ newer, is) =
    let e : ◌≡◌ {A = ℕ} 0 (length (s ∷ newer ++ r ∷ [])) = ap length is in omega arith
