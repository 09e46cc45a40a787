-- Worked examples: values such as the firmware keeps, and others.
use Rattle.std.proofs.Common.{◌∷◌, ◌≡◌, List, None, [], arith, false, map, refl, true, ℕ}
use Rattle.std.specs.Prelude.{◌==◌, if◌then◌else◌}
use Rattle.psci_board.proofs.Tables.{◌⇒◌, Gives}
use Rattle.psci_fw_spec.specs.declared.status.Status.TheVariants as statuses
use Rattle.psci_fw_spec.specs.Invariant.{AreValues, agrees, is_expected}
use Rattle.psci_fw_spec.specs.Changes.{start_of_life}
use Rattle.psci_fw_spec.specs.Phases.{Away, Phase, Running, Suspended}
use Rattle.psci_fw_spec.specs.Phases as phases
use Rattle.psci_fw_spec.specs.Values.{Values}
use Rattle.psci_fw_spec.proofs.Steps.{board, computing}

-- Status and phase ----------------------------------------------------------------------------

-- pending, running, in standby, powered down, away
abbrev all_phases : List Phase
all_phases = phases.Pending ∷ Running ∷ Suspended (1 ∷ 0 ∷ 0 ∷ 0 ∷ [])
    ∷ Suspended (3 ∷ 2 ∷ 1 ∷ 0 ∷ []) ∷ Away ∷ []

-- a core that is ON runs, is suspended, or goes off; one that is OFF is away; one that is
-- ON_PENDING is pending
agreeing : Gives (λ status. map (agrees status) all_phases)
    (statuses.On ⇒ (false ∷ true ∷ true ∷ true ∷ true ∷ [])
    ∷ statuses.Off ⇒ (false ∷ false ∷ false ∷ false ∷ true ∷ [])
    ∷ statuses.Pending ⇒ (true ∷ false ∷ false ∷ false ∷ false ∷ []) ∷ [])
agreeing = refl

-- a core goes on at an opening where it is pending or was powered down
expected : map is_expected all_phases ≡ true ∷ false ∷ false ∷ true ∷ false ∷ []
expected = refl

-- Values that the firmware does not keep ------------------------------------------------------

-- every core OFF with this known start
abbrev known_everywhere : ℕ → Values
known_everywhere n = record (start_of_life board 1) {
  known = λ c. n;
  status = λ c. statuses.Off;
  phase = λ c. Away;
}

-- the values of a life's start, but for this phase of each core, and this is granted to each domain
abbrev with_all : Phase → ℕ → Values
with_all p depth = record (start_of_life board 1) {
  status = λ c. statuses.On;
  phase = λ c. p;
  granted = λ level place. depth;
}

-- a known start above the limit
above_the_limit : AreValues board (known_everywhere 1001) → ⊥
above_the_limit are = absurd (omega (arith, are.known 0))

-- status and phase that disagree
disagreeing :
    AreValues board (record (known_everywhere 0) { status = λ c. statuses.Pending }) → ⊥
disagreeing are = absurd (cc (are.agree 0))

-- a core that was suspended with depths that grow upwards
growing_upwards : AreValues board (with_all (Suspended (1 ∷ 2 ∷ 0 ∷ 0 ∷ [])) 0) → ⊥
growing_upwards are = absurd (omega (arith, (are.phase 0).0.falls 0))

-- a core that was suspended with a depth of a level above the board's height
above_the_height : AreValues board (with_all (Suspended (1 ∷ 1 ∷ 1 ∷ 1 ∷ [])) 0) → ⊥
above_the_height are = absurd (omega (arith, (are.phase 0).1))

-- a cluster that is granted more than its cores
upside_down : AreValues board (record (known_everywhere 0) { granted = λ level place. level }) → ⊥
unfolding computing
upside_down are = absurd (omega (arith, are.nested 0 0 (omega arith) (omega arith)))

-- a core that runs and is granted standby
running_and_granted : AreValues board (with_all Running 1) → ⊥
unfolding computing
running_and_granted are = absurd (omega (arith, are.asked 0 (omega arith)))

-- a core that runs and has an opening, which that of a life's start has here
running_with_opening : AreValues board (with_all Running 0) → ⊥
running_with_opening are = absurd (cc ((are.awake refl).opening 0))

-- a core that is away and is granted nothing
away_and_not_granted :
    AreValues board (record (known_everywhere 0) { granted = λ level place. 0 }) → ⊥
unfolding computing
away_and_not_granted are = absurd (omega (arith, (are.awake refl).own 0 (omega arith)))

-- a cluster whose cores are all away and that is granted nothing
cores_away_and_cluster_not :
    AreValues board (record (known_everywhere 0) {
      opening = λ c. None;
      granted = λ level place. if level == 0 then 3 else 0;
    }) → ⊥
unfolding computing
cores_away_and_cluster_not are =
    absurd (omega (arith, (are.awake refl).away 0 1 (omega arith) (omega arith) refl))

-- in platform-coordinated mode a cluster whose cores all ask standby of it, and that is granted
-- nothing
asked_and_not_granted :
    AreValues board (record (with_all (Suspended (1 ∷ 1 ∷ 0 ∷ 0 ∷ [])) 0) {
      opening = λ c. None;
      granted = λ level place. if level == 0 then 1 else 0;
    }) → ⊥
unfolding computing
asked_and_not_granted are =
    absurd (omega (arith, (are.awake refl).least refl 0 1 (omega arith) (omega arith)))
