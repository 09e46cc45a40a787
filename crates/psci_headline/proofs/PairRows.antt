-- Worked examples: boards of three levels above the cores, runs that are safe and moments that are
-- not, at each level also in a later life and in OS-initiated mode; and cores beside the one that
-- calls in a later life.
use Rattle.std.proofs.Common.{◌++◌, [], ◌∷◌, false, refl, ◌+◌, ℕ, zero, suc, List}
use Rattle.psci_board.proofs.Tables.{Gives, Row}
use Rattle.psci_fw_laws.specs.psci_messages.declared.kind.Kind.TheVariants.{Down}
use Rattle.psci_world_spec.specs.declared.event.Event.TheVariants.{Enter, Wake, Deliver, Take}
use Rattle.psci_world_spec.proofs.Scripts.{acked, call, goes_down, off, part, resumes, retention}
use Rattle.psci_world_spec.proofs.Scripts.{tall, board, enters, on_3}
use Rattle.psci_headline.proofs.Histories.{life_2, os_mode, on_in_group, on_2}
use Rattle.psci_headline.proofs.Checking.{◌⇒◌, AreSafe, Asked, Breaks, Legal, One, Powered, Real}
use Rattle.psci_headline.proofs.Checking.{computing, failing_after, BreakAll, Clause, Open, Steps}
use Rattle.psci_headline.proofs.Checking.{each}
use Rattle.psci_fw_laws.specs.psci_board.Board.{BoardValue}
use Rattle.psci_fw_laws.specs.psci_messages.declared.part.Part.{Part}
use Rattle.psci_world_spec.specs.declared.event.Event.{Event}

runs : AreSafe tall
    -- group_in_retention: a group is in retention, and on again once its core has resumed
    ((on_in_group ++ call 3 0xc4000001 0x02000222 0 0 ∷ Deliver 1 ∷ Take 1 ∷ Wake 3 ∷ Enter 3 ∷ [])
    -- system_in_retention: the system is in retention, and on again once the boot core has resumed
    ∷ (Enter 0 ∷ call 0 0xc4000001 0x03002222 0 0 ∷ Deliver 0 ∷ Take 0 ∷ Wake 0 ∷ Enter 0 ∷ [])
    -- system_off_and_on: the system is off, and on again once the boot core has entered
    ∷ (Enter 0 ∷ call 0 0xc4000001 0x03013333 0x40000100 0 ∷ Deliver 0 ∷ Take 0 ∷ Wake 0 ∷ Enter 0
    ∷ [])
    -- system_down_on_three_levels: a core takes its group down, and then the boot core the system
    ∷ (os_mode ++ call 0 0xc4000003 0x10100 0x40001000 7 ∷ Deliver 0 ∷ Enter 3
    ∷ call 3 0xc4000001 0x02010333 0x40004000 2 ∷ call 0 0xc4000001 0x03013333 0x40000100 0
    ∷ Deliver 1 ∷ Deliver 2 ∷ Take 1 ∷ Take 2 ∷ Wake 0 ∷ Enter 0 ∷ []) ∷ [])
unfolding computing
runs = refl

levels : Gives failing_after
    -- runs_below_its_group: the group alone is in standby
    (Breaks Powered tall (Legal (Enter 0 ∷ []) ∷ off 0 ⇒ goes_down 0 0 1 1 (part 0 0 1 ∷ part 1 0 1
    ∷ part 2 1 1 ∷ []) ∷ Deliver 0 ⇒ acked 0 Down 0 1 1 3 false ∷ Enter 0 ⇒ resumes ∷ [])
    -- runs_below_three_levels: the system alone is
    ∷ Breaks Powered tall (Legal (Enter 0 ∷ []) ∷ off 0 ⇒ goes_down 0 0 1 1 (part 0 0 1 ∷ part 1 0 1
    ∷ part 2 0 1 ∷ part 3 1 1 ∷ []) ∷ Deliver 0 ⇒ acked 0 Down 0 1 1 4 false ∷ Enter 0 ⇒ resumes
    ∷ [])
    -- two_last_cores_of_a_group: two cores go off as the last ones of their group
    ∷ Breaks One tall (Legal (Enter 0 ∷ call 0 0xc4000003 0x100 0x40001000 7 ∷ Deliver 0 ∷ Enter 1
    ∷ []) ∷ off 1 ⇒ goes_down 1 1 1 1 (part 0 3 1 ∷ part 1 3 1 ∷ part 2 3 2 ∷ []) ∷ Legal (off 0
    ∷ []) ∷ [])
    -- two_last_cores_of_three_levels: as the last ones of the system
    ∷ Breaks One tall (Legal on_in_group ∷ off 3 ⇒ goes_down 1 3 1 1 (part 0 3 1 ∷ part 1 3 1
    ∷ part 2 3 1 ∷ part 3 3 2 ∷ []) ∷ Legal (off 0 ∷ []) ∷ [])
    -- group_deeper_than_asked: the group goes to retention, where another core is so by itself
    ∷ Breaks Asked tall (Legal (Enter 0 ∷ call 0 0xc4000003 0x100 0x40001000 7 ∷ Deliver 0 ∷ Enter 1
    ∷ retention 1 ∷ Deliver 1 ∷ []) ∷ off 0 ⇒ goes_down 2 0 1 1 (part 0 3 1 ∷ part 1 3 1
    ∷ part 2 2 2 ∷ []) ∷ Deliver 2 ⇒ acked 2 Down 0 1 1 3 false ∷ [])
    -- system_deeper_than_asked: the only core asks for standby of the system, which goes to
    -- retention
    ∷ Breaks Asked tall (Legal (Enter 0 ∷ []) ∷ call 0 0xc4000001 0x03011333 0x40000100 0
    ⇒ goes_down 0 0 1 1 (part 0 3 1 ∷ part 1 3 1 ∷ part 2 3 1 ∷ part 3 2 1 ∷ []) ∷ Legal (Deliver 0
    ∷ []) ∷ [])
    -- group_deeper_than_the_claiming_core: the claiming core asks for standby of its group, which
    -- goes to retention
    ∷ Breaks Asked tall (Legal os_mode ∷ call 0 0xc4000001 0x02010133 0x40000100 0
    ⇒ goes_down 0 0 1 1 (part 0 3 1 ∷ part 1 3 1 ∷ part 2 2 1 ∷ []) ∷ Legal (Deliver 0 ∷ []) ∷ [])
    -- system_deeper_than_the_claiming_core: it asks for standby of the system, which goes to
    -- retention
    ∷ Breaks Asked tall (Legal os_mode ∷ call 0 0xc4000001 0x03011333 0x40000100 0
    ⇒ goes_down 0 0 1 1 (part 0 3 1 ∷ part 1 3 1 ∷ part 2 3 1 ∷ part 3 2 1 ∷ []) ∷ Legal (Deliver 0
    ∷ []) ∷ [])
    -- group_deeper_than_another_core: another core of the group is in retention, and the group is
    -- powered down
    ∷ Breaks Asked tall (Legal (os_mode ++ call 0 0xc4000003 0x100 0x40001000 7 ∷ Deliver 0
    ∷ Enter 1 ∷ retention 1 ∷ Deliver 1 ∷ []) ∷ call 0 0xc4000001 0x02010333 0x40000100 0
    ⇒ goes_down 2 0 1 1 (part 0 3 1 ∷ part 1 3 1 ∷ part 2 3 2 ∷ []) ∷ Deliver 2
    ⇒ acked 2 Down 0 1 1 3 false ∷ [])
    -- system_deeper_than_another_core: another core is in retention, and the system is powered down
    ∷ Breaks Asked tall (Legal (os_mode ++ call 0 0xc4000003 0x100 0x40001000 7 ∷ Deliver 0
    ∷ Enter 1 ∷ retention 1 ∷ Deliver 1 ∷ []) ∷ call 0 0xc4000001 0x03013333 0x40000100 0
    ⇒ goes_down 2 0 1 1 (part 0 3 1 ∷ part 1 3 1 ∷ part 2 2 2 ∷ part 3 3 2 ∷ []) ∷ Deliver 2
    ⇒ acked 2 Down 0 1 1 4 false ∷ [])
    -- cluster_acknowledged_only: a cluster is said to be in standby, and its core alone is in
    -- retention
    ∷ Breaks Real tall (Legal (on_in_group ++ call 3 0xc4000001 0x01000022 0 0 ∷ []) ∷ Deliver 1
    ⇒ acked 1 Down 3 1 1 1 false ∷ Deliver 99 ⇒ acked 2 Down 3 1 1 2 false ∷ Legal (Take 2 ∷ [])
    ∷ [])
    -- group_acknowledged_only: a group is said to be in standby, and its core and cluster alone are
    ∷ Breaks Real tall (Legal (on_in_group ++ call 3 0xc4000001 0x02000222 0 0 ∷ []) ∷ Deliver 1
    ⇒ acked 1 Down 3 1 1 2 false ∷ Deliver 99 ⇒ acked 2 Down 3 1 1 3 false ∷ Legal (Take 2 ∷ [])
    ∷ [])
    -- system_acknowledged_only: the system is said to be in standby, and all below it alone is
    ∷ Breaks Real tall (Legal (Enter 0 ∷ call 0 0xc4000001 0x03002222 0 0 ∷ []) ∷ Deliver 0
    ⇒ acked 0 Down 0 1 1 3 false ∷ Deliver 99 ⇒ acked 1 Down 0 1 1 4 false ∷ Legal (Take 1 ∷ [])
    ∷ [])
    -- cluster_off_acknowledged_only: a cluster is said to be off, and its core alone is
    ∷ Breaks Real tall (Legal (on_in_group ++ call 3 0xc4000001 0x01010033 0x40004000 5 ∷ [])
    ∷ Deliver 1 ⇒ acked 1 Down 3 1 1 1 false ∷ Deliver 99 ⇒ acked 2 Down 3 1 1 2 false
    ∷ Legal (Take 2 ∷ []) ∷ [])
    -- group_off_acknowledged_only: a group is said to be off, and its core and cluster alone are
    ∷ Breaks Real tall (Legal (on_in_group ++ call 3 0xc4000001 0x02010333 0x40004000 5 ∷ [])
    ∷ Deliver 1 ⇒ acked 1 Down 3 1 1 2 false ∷ Deliver 99 ⇒ acked 2 Down 3 1 1 3 false
    ∷ Legal (Take 2 ∷ []) ∷ [])
    -- system_off_acknowledged_only: the system is said to be off, and all below it alone is
    ∷ Breaks Real tall (Legal (Enter 0 ∷ call 0 0xc4000001 0x03013333 0x40000100 0 ∷ []) ∷ Deliver 0
    ⇒ acked 0 Down 0 1 1 3 false ∷ Deliver 99 ⇒ acked 1 Down 0 1 1 4 false ∷ Legal (Take 1 ∷ [])
    ∷ []) ∷ [])
unfolding computing
levels = refl

-- parts for the levels below this one, each of this depth and generation
abbrev below : ℕ → ℕ → ℕ → List Part
below zero depth generation = []
below (suc n) depth generation = below n depth generation ++ part n depth generation ∷ []

-- on three levels: what goes wrong of the boot core's domain of level n alone; the boot core is on
-- in life l after these events, its next message is i, and there are words by which it asks for
-- retention of the domain, and for standby of the domain and power-down of all below
abbrev wrong : (List Event × ℕ × ℕ × ℕ × ℕ × ℕ) → List (Row (BoardValue × List Steps) (List Clause))
wrong (on, l, i, n, retained, standby) =
    -- goes_on: the domain is in standby, and the core goes on
    Breaks Powered tall (Legal on ∷ off 0 ⇒ goes_down i 0 l 1 (below n 0 1 ++ part n 1 1 ∷ [])
    ∷ Deliver i ⇒ acked i Down 0 l 1 (n + 1) false ∷ Enter 0 ⇒ resumes ∷ [])
    -- claimed_twice: the core goes off twice, and no second claim on what is below is live
    ∷ Breaks One tall (Legal (on ++ off 0 ∷ []) ∷ off 0
    ⇒ goes_down (i + 1) 0 l 1 (below n 3 9 ++ part n 3 1 ∷ []) ∷ [])
    -- deeper: it asks for standby of the domain, which is in retention
    ∷ Breaks Asked tall (Legal on ∷ call 0 0xc4000001 standby 0x40000100 0
    ⇒ goes_down i 0 l 1 (below n 3 1 ++ part n 2 1 ∷ []) ∷ Legal (Deliver i ∷ []) ∷ [])
    -- acknowledged: the domain is said to be in standby, and all below it alone is
    ∷ Breaks Real tall (Legal (on ++ call 0 0xc4000001 retained 0 0 ∷ [])
    ∷ Deliver i ⇒ acked i Down 0 l 1 n false ∷ Deliver 99 ⇒ acked (i + 1) Down 0 l 1 (n + 1) false
    ∷ Legal (Take (i + 1) ∷ []) ∷ [])
    ∷ []

each_wrong : Gives failing_after (each wrong
    -- cluster_in_life_2: of its cluster, in life 2
    ((life_2, 2, 1, 1, 0x01000022, 0x01010013)
    -- group_in_life_2: of its group
    ∷ (life_2, 2, 1, 2, 0x02000222, 0x02010133)
    -- system_in_life_2: of the system
    ∷ (life_2, 2, 1, 3, 0x03002222, 0x03011333)
    -- cluster_os_initiated: of its cluster, in OS-initiated mode
    ∷ (os_mode, 1, 0, 1, 0x01000022, 0x01010013)
    -- group_os_initiated: of its group
    ∷ (os_mode, 1, 0, 2, 0x02000222, 0x02010133)
    -- system_os_initiated: of the system
    ∷ (os_mode, 1, 0, 3, 0x03002222, 0x03011333)
    ∷ []))
unfolding computing
each_wrong = refl

run_in_life_2 : AreSafe tall
    -- system_off_in_life_2: the system is off in life 2, and on again once the boot core has
    -- entered
    ((life_2 ++ call 0 0xc4000001 0x03013333 0x40000100 0 ∷ Deliver 1 ∷ Take 1 ∷ Wake 0 ∷ Enter 0
    ∷ []) ∷ [])
unfolding computing
run_in_life_2 = refl

-- in life 2 core 2 and core 3 are on, the cores of one cluster
abbrev both_on : List Event
both_on = life_2 ++ on_2 ∷ on_3 ∷ Deliver 1 ∷ Deliver 2 ∷ Enter 2 ∷ Enter 3 ∷ []

beside : Gives failing_after
    -- beside_a_running_core: core 3 takes the cluster down, below which core 2 run_in_life_2
    (BreakAll (Powered ∷ Asked ∷ []) board (Legal both_on ∷ off 3 ⇒ goes_down 3 3 2 1 (part 0 3 1
    ∷ part 1 3 2 ∷ []) ∷ Deliver 3 ⇒ acked 3 Down 3 2 1 2 false ∷ [])
    -- two_last_cores: both cores go off, each of them as the last one of their cluster
    ∷ Breaks One board (Legal both_on ∷ off 2 ⇒ goes_down 3 2 2 1 (part 0 3 1 ∷ part 1 3 2 ∷ [])
    ∷ Legal (off 3 ∷ []) ∷ [])
    -- deeper_than_another_asks: core 2 asks for retention of the cluster, and core 3 claims
    -- power-down
    ∷ Breaks Asked board (Legal both_on ∷ Legal (call 2 0xc4000001 0x01010023 0x40003000 1 ∷ [])
    ∷ off 3 ⇒ goes_down 4 3 2 1 (part 0 3 1 ∷ part 1 3 2 ∷ []) ∷ Legal (Deliver 3 ∷ Deliver 4 ∷ [])
    ∷ [])
    -- opening_of_another_core: core 2 enters where core 3 was asked on
    ∷ Breaks Open board (Legal (life_2 ++ on_3 ∷ Wake 2 ∷ []) ∷ Enter 2 ⇒ enters 0x40001000 7 ∷ [])
    -- cluster_acknowledged: the cluster is said to be in standby, and its cores alone are
    ∷ Breaks Real board (Legal (both_on ++ call 2 0xc4000001 0x01000022 0 0 ∷ Deliver 3
    ∷ call 3 0xc4000001 0x01000022 0 0 ∷ []) ∷ Deliver 4 ⇒ acked 4 Down 3 2 1 1 false ∷ Deliver 99
    ⇒ acked 5 Down 3 2 1 2 false ∷ Legal (Take 5 ∷ []) ∷ []) ∷ [])
unfolding computing
beside = refl

runs_beside : AreSafe board
    -- asked_on_below_sleep: core 2 is asked on below the cluster that core 3 took down
    ((life_2 ++ on_3 ∷ Deliver 1 ∷ Enter 3 ∷ off 3 ∷ Deliver 2 ∷ on_2 ∷ Take 2 ∷ Deliver 3 ∷ Enter 2
    ∷ []) ∷ [])
unfolding computing
runs_beside = refl
