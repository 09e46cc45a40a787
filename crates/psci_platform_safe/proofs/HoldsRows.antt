-- Worked examples: moments of legal runs at which sentences 1, 2 and 5 hold: on the platform of
-- three levels, in both modes, in life 2, and in a life that is halting.
use Rattle.std.proofs.Common.{◌++◌, List, [], ◌∷◌, inl, inr, refl, arith}
use Rattle.psci_headline.specs.Laws.{WasSoDeep, is_off_depth, is_standby_depth}
use Rattle.psci_headline.specs.psci_world_spec.declared.event.Event.TheVariants.{Deliver, Enter}
use Rattle.psci_headline.specs.psci_world_spec.declared.event.Event.TheVariants.{Take, Wake}
use Rattle.psci_headline.specs.psci_world_spec.declared.said.Record.{Record}
use Rattle.psci_headline.proofs.world_spec.Scripts.{off, system_off}
use Rattle.psci_platform_safe.specs.Asked.{domain_above, numbered}
use Rattle.psci_platform_safe.specs.Safe.{IsOff, NoneBelowSleeping, OneLiveClaim}
use Rattle.psci_platform_safe.proofs.Histories.{after, computing, core_1_off, core_1_on}
use Rattle.psci_platform_safe.proofs.Histories.{on_by_the_system, on_in_life_2, suspend, tall}
use Rattle.psci_platform_safe.proofs.Histories.{tall_after, tall_in_life_2, tall_on, two}
use Rattle.psci_platform_safe.proofs.Moments.{claims_are, cores_are}

-- the group of the far core is off, and the system is in retention
abbrev group_off : List Record
group_off = tall_after (tall_on ++ suspend 0x10100 0x02010223 ∷ Deliver 1 ∷ Take 1 ∷ [])

abbrev system_retained : List Record
system_retained = tall_after (Enter 0x100 ∷ suspend 0x100 0x03001112 ∷ Deliver 0 ∷ [])

-- core 1 has slept with its cluster in OS-initiated mode, and runs again; it was woken, and has not
-- entered, as the life halts
abbrev on_again : List Record
on_again = after (on_by_the_system ++ suspend 1 0x01010022 ∷ Deliver 1 ∷ Take 1 ∷ Wake 1 ∷ Enter 1
    ∷ [])

abbrev woken : List Record
woken = after (core_1_off ++ system_off 0x200 ∷ Wake 1 ∷ [])

-- it goes off in life 2, is suspended in OS-initiated mode, and has gone off as the life halts
abbrev gone_in_life_2 : List Record
gone_in_life_2 = after (on_in_life_2 ++ off 1 ∷ [])

abbrev suspended : List Record
suspended = after (on_by_the_system ++ suspend 1 0x01010022 ∷ [])

abbrev gone_while_halting : List Record
gone_while_halting = after (core_1_off ++ system_off 0x200 ∷ [])

-- the boot core has gone off with the system in life 2
abbrev system_gone_in_life_2 : List Record
system_gone_in_life_2 = tall_after (tall_in_life_2 ++ off 0x100 ∷ [])

-- 1 ----------------------------------------------------------------------------------------------

none_below_sleeping :
    -- boot_core_alone: it runs beside a group that is off
    NoneBelowSleeping tall group_off
    -- both_run: the far core runs, too, at each level above it
    × NoneBelowSleeping tall (tall_after tall_on)
    -- runs_again_by_the_system: in OS-initiated mode
    × NoneBelowSleeping two on_again
    -- runs_in_life_2: core 1 runs in life 2
    × NoneBelowSleeping two (after on_in_life_2)
    -- woken_while_halting: while the life is halting
    × NoneBelowSleeping two woken
unfolding computing
none_below_sleeping = (
  cores_are tall group_off (search (inl, inr) depth 12),
  cores_are tall (tall_after tall_on) (search (inl, inr) depth 12),
  cores_are two on_again (search (inl, inr)),
  cores_are two (after on_in_life_2) (search (inl, inr)),
  cores_are two woken (search (inl, inr)),
)

-- a core that went off does not run, and was powered down
off_is_down :
    -- far_core_is_off: of three levels
    IsOff tall (tall_after (tall_on ++ off 0x10100 ∷ Deliver 1 ∷ Take 1 ∷ [])) 0x10100
    -- boot_core_is_off: so the boot core
    × IsOff tall (tall_after (tall_on ++ off 0x100 ∷ Deliver 1 ∷ [])) 0x100
    -- off_by_the_system: in OS-initiated mode
    × IsOff two (after (on_by_the_system ++ off 1 ∷ Deliver 1 ∷ [])) 1
    -- off_in_life_2: in life 2
    × IsOff two (after (on_in_life_2 ++ off 1 ∷ Deliver 2 ∷ [])) 1
    -- off_while_halting: while the life is halting
    × IsOff two (after (core_1_on ++ off 1 ∷ system_off 0x200 ∷ Deliver 1 ∷ [])) 1
    -- off_again: also where it was powered down before it entered
    × IsOff two (after (core_1_on ++ suspend 1 0x00010002 ∷ Deliver 1 ∷ Wake 1 ∷ Enter 1 ∷ off 1
    ∷ Deliver 2 ∷ [])) 1
    -- boot_core_is_off_again: so the boot core
    × IsOff tall (tall_after (tall_on ++ suspend 0x100 0x00010003 ∷ Deliver 1 ∷ Wake 0x100
    ∷ Enter 0x100 ∷ off 0x100 ∷ Deliver 2 ∷ [])) 0x100
unfolding computing
off_is_down = (
  record { stopped = λ runs. absurd (cc); down = refl },
  record { stopped = λ runs. absurd (cc); down = refl },
  record { stopped = λ runs. absurd (cc); down = refl },
  record { stopped = λ runs. absurd (cc); down = refl },
  record { stopped = λ runs. absurd (cc); down = refl },
  record { stopped = λ runs. absurd (cc); down = refl },
  record { stopped = λ runs. absurd (cc); down = refl },
)

-- 2 ----------------------------------------------------------------------------------------------

-- each domain that is down has a claim
one_live_claim :
    -- claims_of_a_group: core, cluster and group
    OneLiveClaim tall group_off
    -- claims_of_the_system: in retention
    × OneLiveClaim tall system_retained
    -- claims_in_life_2: in life 2
    × OneLiveClaim two gone_in_life_2
    -- claims_by_the_system: in OS-initiated mode
    × OneLiveClaim two suspended
    -- claims_while_halting: while the life is halting
    × OneLiveClaim two gone_while_halting
    -- claims_of_the_system_in_life_2: of each level, in life 2
    × OneLiveClaim tall system_gone_in_life_2
unfolding computing
one_live_claim = (
  claims_are tall group_off (omega arith),
  claims_are tall system_retained (omega arith),
  claims_are two gone_in_life_2 (omega arith),
  claims_are two suspended (omega arith),
  claims_are two gone_while_halting (omega arith),
  claims_are tall system_gone_in_life_2 (omega arith),
)

-- 5 ----------------------------------------------------------------------------------------------

states_were_real :
    -- group_was_off: a group
    WasSoDeep tall.board is_off_depth (numbered tall group_off) (domain_above tall 0x10000 2)
    -- core_was_off: the core in it
    × WasSoDeep tall.board is_off_depth (numbered tall group_off) (domain_above tall 0x10100 0)
    -- cluster_was_off: and its cluster
    × WasSoDeep tall.board is_off_depth (numbered tall group_off) (domain_above tall 0x10100 1)
    -- system_was_retained: the system
    × WasSoDeep tall.board is_standby_depth (numbered tall system_retained)
    (domain_above tall 0x300 3)
    -- boot_core_was_retained: and the boot core
    × WasSoDeep tall.board is_standby_depth (numbered tall system_retained)
    (domain_above tall 0x100 0)
    -- cluster_was_retained_by_the_system: in OS-initiated mode
    × WasSoDeep two.board is_standby_depth
    (numbered two (after (on_by_the_system ++ suspend 1 0x01010022 ∷ Deliver 1 ∷ [])))
    (domain_above two 0 1)
    -- core_was_off_in_life_2: in life 2
    × WasSoDeep two.board is_off_depth
    (numbered two (after (on_in_life_2 ++ off 1 ∷ Deliver 2 ∷ []))) (domain_above two 1 0)
    -- core_was_off_while_halting: while the life is halting
    × WasSoDeep two.board is_off_depth
    (numbered two (after (core_1_on ++ off 1 ∷ system_off 0x200 ∷ Deliver 1 ∷ [])))
    (domain_above two 1 0)
unfolding computing
states_were_real = (refl, refl, refl, refl, refl, refl, refl, refl)
