-- Worked examples: which steps a machine takes by itself, how many, and where it is at rest.
use Rattle.psci_sides.specs.Kept.{IsStill}
use Rattle.psci_sides.specs.Machine.{closed_door}
use Rattle.psci_sides.specs.Resting.{most_steps}
use Rattle.psci_sides.proofs.Words.{◌*◌, ◌++◌, ◌<◌, ◌∷◌, ◌≡◌, [], ap, arith, ArmCore, BeginCall}
use Rattle.psci_sides.proofs.Words.{cores, eqb-false, false, GiveLock, Goes, inl, inr, IsAtRest}
use Rattle.psci_sides.proofs.Words.{List, LookAtDoor, none-some, refl, RouseCore, Running}
use Rattle.psci_sides.proofs.Words.{ServeDoor, SleepCore, Some, Stand, Step, suc, sym, TakeLock}
use Rattle.psci_sides.proofs.Words.{TurnCore, zero, ℕ}
use Rattle.psci_sides.proofs.Pair.{both_run, code, cpu_off, done, goes_off, looked_on, off_message}
use Rattle.psci_sides.proofs.Pair.{pair, playing, started_armed}

-- Steps that go ----------------------------------------------------------------------------------

-- the machine goes on by this step after these, or does not
abbrev GoesOn : List Step → Step → Type 0
GoesOn steps x = Goes pair (done steps) x

abbrev Stays : List Step → Step → Type 0
Stays steps x = GoesOn steps x → ⊥

-- Steps that do not ------------------------------------------------------------------------------

-- a core of the normal world goes nowhere by itself, and none is roused; one that enters keeps the
-- lock until it has, and one with the lock takes no start up; a door that is served is done with;
-- and where it waits a core goes on by nothing
stays : Stays both_run (TakeLock 1)
    × Stays both_run (BeginCall 1 cpu_off)
    × Stays goes_off (RouseCore 1)
    × Stays (looked_on ++ (TakeLock 1 ∷ [])) (GiveLock 1)
    × Stays (started_armed ++ (TakeLock 1 ∷ ServeDoor 1 ∷ ServeDoor 1 ∷ [])) (LookAtDoor 1 false)
    × Stays both_run (ServeDoor 1)
    × Stays goes_off (LookAtDoor 1 false)
    × Stays goes_off (Stand 1)
    × Stays goes_off (ArmCore 1)
    × Stays goes_off (SleepCore 1)
    × Stays goes_off (TurnCore 1)
unfolding playing
stays = search arith

-- At rest ----------------------------------------------------------------------------------------

-- both cores are in the normal world
runs_on : (c : ℕ) → c < cores pair → ((done both_run).side c).post ≡ Running
unfolding playing
runs_on zero has = refl
runs_on (suc zero) has = refl
runs_on (suc (suc c)) has = absurd (omega (arith, has))

is_at_rest : IsAtRest pair (done both_run)
unfolding playing
is_at_rest = record {
  free = refl;
  each = still;
  messages = λ x has wait. runs_on x.core.number has;
}
  where
    still : (c : ℕ) → c < cores pair → IsStill (done both_run) c
    still zero has = record { opened = refl; used = refl; lent = refl; post = inl refl }
    still (suc zero) has = record { opened = refl; used = refl; lent = refl; post = inl refl }
    still (suc (suc c)) has = absurd (omega (arith, has))

-- or one of them is off
stays_off : (c : ℕ) → c < cores pair → IsStill (done goes_off) c
unfolding playing
stays_off zero has = record { opened = refl; used = refl; lent = refl; post = inl refl }
stays_off (suc zero) has = record { opened = refl; used = refl; lent = refl; post = inr refl }
stays_off (suc (suc c)) has = absurd (omega (arith, has))

-- what breaks each clause alone
breaks_rest : (IsAtRest pair (record (done both_run) { lock = Some 1 }) → ⊥)
    × (IsAtRest pair (record (done both_run) {
      station = λ k. record ((done both_run).station k) { door = closed_door };
    }) → ⊥)
    × (IsAtRest pair (record (done goes_off) {
      station = λ k. record ((done goes_off).station k) { word = 0 };
    }) → ⊥)
unfolding playing
breaks_rest = (
  λ is. none-some 1 (sym is.free),
  λ is. eqb-false 0 1 refl (is.each 1 (omega arith)).opened,
  λ is. eqb-false 0 2 refl (ap code (is.messages off_message (omega arith) refl)),
)

-- and no run of such steps of this board is longer than this
most_of_two : most_steps * cores pair ≡ 42
unfolding playing
most_of_two = refl
