-- Worked examples: for each sentence histories that break it: at each level, in both modes, in life
-- 2 and in a life that is halting. None of them is legal: in each one thing is said that is not so.
-- `OffRows` has those of what is said to be OFF, `WaitRows` those of entries.
use Rattle.std.proofs.Common.{◌≡◌, ◌≤◌, ◌++◌, [], ◌∷◌, false, refl, arith, true}
use Rattle.psci_headline.specs.psci_messages.declared.kind.Kind.TheVariants.{Down}
use Rattle.psci_headline.specs.psci_world_spec.declared.event.Event.TheVariants.{Deliver, Enter}
use Rattle.psci_headline.specs.psci_world_spec.declared.event.Event.TheVariants.{Wake}
use Rattle.psci_headline.proofs.world_spec.Scripts.{acked, goes_down, off, part, resumes, sends}
use Rattle.psci_headline.proofs.world_spec.Scripts.{stops, system_off, value}
use Rattle.psci_platform_safe.specs.Safe.{NoneBelowSleeping, OneLiveClaim, SafeOn, StatesWereReal}
use Rattle.psci_platform_safe.proofs.Histories.{after, computing, core_1_off, core_1_on}
use Rattle.psci_platform_safe.proofs.Histories.{on_by_the_system, on_in_life_2, says, state_of}
use Rattle.psci_platform_safe.proofs.Histories.{suspend, tall, tall_after, tall_in_life_2, tall_on}
use Rattle.psci_platform_safe.proofs.Histories.{two}
use Rattle.psci_platform_safe.proofs.OffRows.{answers, core_1, its_cluster}

-- a core goes on without a start
none_below_sleeping :
    -- resumes_powered_down: powered down with its cluster
    (NoneBelowSleeping two
    (says (after (core_1_on ++ off 1 ∷ Deliver 1 ∷ [])) (Enter 1) resumes) → ⊥)
    -- core_resumes: in retention by itself
    × (NoneBelowSleeping two
    (says (after (core_1_on ++ suspend 1 0x00000001 ∷ Deliver 1 ∷ [])) (Enter 1) resumes) → ⊥)
    -- group_sleeps: below its group
    × (NoneBelowSleeping tall (says (tall_after (tall_on ++ suspend 0x10100 0x02010113
    ∷ Deliver 1 ∷ [])) (Enter 0x10100) resumes) → ⊥)
    -- system_sleeps: below the system
    × (NoneBelowSleeping tall (says (tall_after (Enter 0x100 ∷ suspend 0x100 0x03001112 ∷ Deliver 0
    ∷ [])) (Enter 0x100) resumes) → ⊥)
    -- started_below: one that was started and has not entered, whose old Down is carried out
    × (NoneBelowSleeping two (says (after (core_1_on ++ off 1 ∷ Wake 1 ∷ [])) (Deliver 1)
    (acked 1 Down 1 1 1 1 false)) → ⊥)
    -- resumes_by_the_system: in OS-initiated mode
    × (NoneBelowSleeping two (says (after (on_by_the_system ++ suspend 1 0x01010022 ∷ Deliver 1
    ∷ [])) (Enter 1) resumes) → ⊥)
    -- resumes_in_life_2: in life 2
    × (NoneBelowSleeping two
    (says (after (on_in_life_2 ++ off 1 ∷ Deliver 2 ∷ [])) (Enter 1) resumes) → ⊥)
    -- resumes_while_halting: while the life is halting
    × (NoneBelowSleeping two (says (after (core_1_on ++ off 1 ∷ Deliver 1 ∷ system_off 0x200 ∷ []))
    (Enter 1) resumes) → ⊥)
    -- cluster_sleeps: its cluster alone is in retention
    × (NoneBelowSleeping two (says (says (says (after core_1_on) (off 1)
    (goes_down 1 1 1 1 (part 0 0 1 ∷ part 1 2 1 ∷ []))) (Deliver 1) (acked 1 Down 1 1 1 2 false))
    (Enter 1) resumes) → ⊥)
unfolding computing
none_below_sleeping = (
  λ none. omega (arith, none 1 1 (1, refl) (omega arith) refl),
  λ none. omega (arith, none 1 0 (1, refl) (omega arith) refl),
  λ none. omega (arith, none 0x10100 2 (0, refl) (omega arith) refl),
  λ none. omega (arith, none 0x100 3 (3, refl) (omega arith) refl),
  λ none. omega (arith, none 1 0 (1, refl) (omega arith) refl),
  λ none. omega (arith, none 1 1 (1, refl) (omega arith) refl),
  λ none. omega (arith, none 1 1 (1, refl) (omega arith) refl),
  λ none. omega (arith, none 1 1 (1, refl) (omega arith) refl),
  λ none. omega (arith, none 1 1 (1, refl) (omega arith) refl),
)

-- and so the platform is not safe
not_safe : SafeOn two (says (after (core_1_on ++ off 1 ∷ Deliver 1 ∷ [])) (Enter 1) resumes) → ⊥
unfolding computing
not_safe safe = none_below_sleeping.0 safe.powered

-- a domain is claimed twice in one start
one_live_claim :
    -- claims_twice: core 1 is off, and goes down once more
    (OneLiveClaim two (says (after core_1_off) (suspend 1 1)
    (stops (sends 2 Down 1 1 1 (part 0 2 1 ∷ [])))) → ⊥)
    -- cluster_claimed_twice: with its cluster
    × (OneLiveClaim two (says (after core_1_off) (suspend 1 0x01010032)
    (goes_down 2 1 1 1 (part 0 3 1 ∷ part 1 3 1 ∷ []))) → ⊥)
    -- group_claimed_twice: the group of the far core
    × (OneLiveClaim tall (says (tall_after (tall_on ++ suspend 0x10100 0x02010223 ∷ []))
    (suspend 0x10100 0x02010223)
    (goes_down 2 0x10100 1 1 (part 0 3 1 ∷ part 1 3 1 ∷ part 2 3 1 ∷ []))) → ⊥)
    -- system_claimed_twice: the system
    × (OneLiveClaim tall (says (tall_after (Enter 0x100 ∷ suspend 0x100 0x03012223 ∷ []))
    (suspend 0x100 0x03012223)
    (goes_down 1 0x100 1 1 (part 0 3 1 ∷ part 1 3 1 ∷ part 2 3 1 ∷ part 3 3 1 ∷ []))) → ⊥)
    -- claims_twice_in_life_2: in life 2
    × (OneLiveClaim two (says (after (on_in_life_2 ++ off 1 ∷ [])) (suspend 1 1)
    (goes_down 3 1 2 1 (part 0 2 1 ∷ []))) → ⊥)
    -- claims_twice_while_halting: while the life is halting
    × (OneLiveClaim two (says (after (core_1_on ++ off 1 ∷ system_off 0x200 ∷ [])) (suspend 1 1)
    (goes_down 3 1 1 1 (part 0 2 1 ∷ []))) → ⊥)
    -- claims_twice_by_the_system: in OS-initiated mode
    × (OneLiveClaim two (says (after (on_by_the_system ++ off 1 ∷ [])) (suspend 1 1)
    (goes_down 2 1 1 1 (part 0 2 1 ∷ []))) → ⊥)
    -- boot_core_claims_twice: the boot core by itself
    × (OneLiveClaim tall (says (tall_after (tall_on ++ off 0x100 ∷ [])) (suspend 0x100 1)
    (goes_down 2 0x100 1 1 (part 0 2 1 ∷ []))) → ⊥)
    -- cluster_claimed_twice_in_life_2: the cluster of core 1 alone, in life 2
    × (OneLiveClaim two (says (after (on_in_life_2 ++ off 1 ∷ [])) (suspend 1 0x01010032)
    (goes_down 3 1 2 1 (part 0 3 9 ∷ part 1 3 1 ∷ []))) → ⊥)
    -- group_claimed_twice_in_life_2: the boot core's group alone
    × (OneLiveClaim tall (says (tall_after (tall_in_life_2 ++ off 0x100 ∷ []))
    (suspend 0x100 0x02010223)
    (goes_down 2 0x100 2 1 (part 0 3 9 ∷ part 1 3 9 ∷ part 2 3 1 ∷ []))) → ⊥)
    -- system_claimed_twice_in_life_2: the system alone
    × (OneLiveClaim tall (says (tall_after (tall_in_life_2 ++ off 0x100 ∷ []))
    (suspend 0x100 0x03012223)
    (goes_down 2 0x100 2 1 (part 0 3 9 ∷ part 1 3 9 ∷ part 2 3 9 ∷ part 3 3 1 ∷ []))) → ⊥)
unfolding computing
one_live_claim = (
  λ one. let no : 2 ≤ 1 = one 1 0 (1, refl) (omega arith) in omega (arith, no),
  λ one. let no : 2 ≤ 1 = one 0 1 (0, refl) (omega arith) in omega (arith, no),
  λ one. let no : 2 ≤ 1 = one 0x10000 2 (1, refl) (omega arith) in omega (arith, no),
  λ one. let no : 2 ≤ 1 = one 0x10000 3 (1, refl) (omega arith) in omega (arith, no),
  λ one. let no : 2 ≤ 1 = one 1 0 (1, refl) (omega arith) in omega (arith, no),
  λ one. let no : 2 ≤ 1 = one 1 0 (1, refl) (omega arith) in omega (arith, no),
  λ one. let no : 2 ≤ 1 = one 1 0 (1, refl) (omega arith) in omega (arith, no),
  λ one. let no : 2 ≤ 1 = one 0x100 0 (3, refl) (omega arith) in omega (arith, no),
  λ one. let no : 2 ≤ 1 = one 1 1 (1, refl) (omega arith) in omega (arith, no),
  λ one. let no : 2 ≤ 1 = one 0x100 2 (3, refl) (omega arith) in omega (arith, no),
  λ one. let no : 2 ≤ 1 = one 0x100 3 (3, refl) (omega arith) in omega (arith, no),
)

-- a core or domain is said to be off, or in standby
states_were_real :
    -- off_and_on: core 1 is on
    (StatesWereReal two (says (after core_1_on) (state_of 0x200 1 0) (value 1)) → ⊥)
    -- off_and_retained: its cluster is in retention
    × (StatesWereReal two (says (after (core_1_on ++ suspend 1 0x01010012 ∷ Deliver 1
    ∷ [])) (state_of 0x200 1 1) (value 1)) → ⊥)
    -- group_off_and_its_cluster: of a group the cluster of the far core alone is off
    × (StatesWereReal tall (says (tall_after (tall_on ++ suspend 0x10100 0x01010023 ∷ Deliver 1
    ∷ [])) (state_of 0x100 0x10000 2) (value 1)) → ⊥)
    -- system_in_standby: of the system the group of the far core alone is in standby
    × (StatesWereReal tall (says (tall_after (tall_on ++ suspend 0x10100 0x02010113 ∷ Deliver 1
    ∷ [])) (state_of 0x100 0 3) (value 2)) → ⊥)
    -- off_by_the_system: before its Down is carried out, in OS-initiated mode
    × (StatesWereReal two (says (after (on_by_the_system ++ off 1
    ∷ [])) (state_of 0x200 1 0) (value 1)) → ⊥)
    -- off_in_life_2: and in life 2
    × (StatesWereReal two (says (after (on_in_life_2 ++ off 1 ∷ [])) (state_of 0x200 1 0) (value 1))
    → ⊥)
    -- standby_while_halting: and while the life is halting
    × (StatesWereReal two (says (after (core_1_on ++ suspend 1 0x00000001 ∷ system_off 0x200
    ∷ [])) (state_of 0x200 1 0) (value 2)) → ⊥)
    -- boot_core_off_and_on: the boot core is on
    × (StatesWereReal two (says (after (Enter 0x200 ∷ [])) (state_of 0x200 0x200 0) (value 1)) → ⊥)
unfolding computing
states_were_real = (
  λ real. let no : false ≡ true = (real 1 0 1 core_1).0 (answers refl) in cc,
  λ real. let no : false ≡ true = (real 1 1 1 its_cluster).0 (answers refl) in cc,
  λ real. let no : false ≡ true =
      (real 0x10000 2 0x10000 (record { core = (1, refl); domain = refl })).0 (answers refl) in cc,
  λ real. let no : false ≡ true =
      (real 0 3 0x10100 (record { core = (0, refl); domain = refl })).1 (answers refl) in cc,
  λ real. let no : false ≡ true = (real 1 0 1 core_1).0 (answers refl) in cc,
  λ real. let no : false ≡ true = (real 1 0 1 core_1).0 (answers refl) in cc,
  λ real. let no : false ≡ true = (real 1 0 1 core_1).1 (answers refl) in cc,
  λ real. let no : false ≡ true =
      (real 0x200 0 0x200 (record { core = (2, refl); domain = refl })).0 (answers refl) in cc,
)
