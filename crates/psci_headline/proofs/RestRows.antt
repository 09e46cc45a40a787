-- Worked examples: worlds at rest, and such of which just one thing is not so; records after which
-- the world has settled, or just one thing that is said of it is not so; each also in each life, by
-- each start, of the boot core, in OS-initiated mode and on a board of the extended format.
use Rattle.std.proofs.Common.{◌≡◌, ◌++◌, true, List, [], ◌∷◌, refl, ◌+◌, ℕ}
use Rattle.psci_board.specs.Board.{BoardValue}
use Rattle.psci_board.proofs.Tables.{Gives, Row}
use Rattle.psci_ctl_spec.specs.psci_messages.declared.kind.Kind.TheVariants.{Down}
use Rattle.psci_headline.specs.psci_world_spec.declared.event.Event.TheVariants.{Deliver, Enter}
use Rattle.psci_headline.specs.psci_world_spec.declared.event.Event.TheVariants.{Reset, Take}
use Rattle.psci_headline.proofs.world_spec.Scripts.{acked, board, call, enters, off, one_core}
use Rattle.psci_headline.proofs.world_spec.Scripts.{retention, system_off, system_reset, tall}
use Rattle.psci_headline.proofs.world_spec.Scripts.{version}
use Rattle.psci_headline.proofs.Histories.{Case, cases, standby, extended, on_in_group, third_on}
use Rattle.psci_headline.proofs.Checking.{◌⇒◌, Breaks, Holds, Legal, Steps, each}
use Rattle.psci_headline.proofs.Failing.{Agree, Clause, Entered, Events, Few, Most, Own, Reached}
use Rattle.psci_headline.proofs.Failing.{Rest, Saying, System, unrest_after, unsettled_after}
use Rattle.psci_headline.specs.psci_world_spec.declared.event.Event.{Event}
use Rattle.psci_headline.specs.psci_world_spec.declared.said.Record.{Record}
use Rattle.psci_headline.specs.Settling.{IsSettled}
use Rattle.psci_headline.proofs.world_spec.Scripts as scripts

rest_worlds : Gives unrest_after
    -- in_standby: a core is suspended to standby, and its Down was carried out
    (Holds board (Legal third_on ∷ Legal (standby 3 ∷ Deliver 1 ∷ Take 1 ∷ []) ∷ [])
    -- system_waits: a Reset waits
    ∷ Breaks System board (Legal third_on ∷ Legal (system_reset 3 ∷ []) ∷ [])
    -- boot_core_waits: the boot core waits at its start
    ∷ Breaks (Entered 0) board []
    -- core_stays_on: core 0 was granted standby, and nothing of its Down was applied
    ∷ Breaks (Agree 0 0) board (Legal (Enter 0 ∷ standby 0 ∷ []) ∷ Deliver 0
    ⇒ acked 0 Down 0 1 1 0 true ∷ Legal (Take 0 ∷ []) ∷ [])
    -- cluster_stays_on: cluster 1 was granted power-down, and core 3 alone went down
    ∷ Breaks (Agree 1 1) board (Legal third_on ∷ Legal (off 3 ∷ []) ∷ Deliver 1
    ⇒ acked 1 Down 3 1 1 1 true ∷ Legal (Take 1 ∷ []) ∷ [])
    -- group_stays_on: the group of core 3 was granted power-down, and stayed on
    ∷ Breaks (Agree 2 1) tall (Legal (on_in_group ++ off 3 ∷ []) ∷ Deliver 1
    ⇒ acked 1 Down 3 1 1 2 true ∷ Legal (Take 1 ∷ []) ∷ [])
    -- tall_system_stays_on: the same of the system
    ∷ Breaks (Agree 3 0) tall (Legal (Enter 0 ∷ call 0 0xc4000001 0x03013333 0x40000100 0 ∷ [])
    ∷ Deliver 0 ⇒ acked 0 Down 0 1 1 3 true ∷ Legal (Take 0 ∷ []) ∷ [])
    -- group_gone_off: at rest: core 3 has gone off with its group
    ∷ Holds tall (Legal (on_in_group ++ off 3 ∷ Deliver 1 ∷ Take 1 ∷ []) ∷ [])
    -- system_suspended: and the system is suspended
    ∷ Holds tall (Legal (Enter 0 ∷ call 0 0xc400000e 0x40000200 9 0 ∷ Deliver 0 ∷ Take 0 ∷ []) ∷ [])
    -- cluster_down: core 3 took its cluster down
    ∷ Holds extended (Legal (third_on ++ call 3 0xc4000001 0x40000033 0x40004000 5 ∷ Deliver 1
    ∷ Take 1 ∷ []) ∷ [])
    -- own_down_extended: its Down was carried out, and the acknowledgement was not taken
    ∷ Breaks (Own 3) extended (Legal (third_on ++ call 3 0xc4000001 0x40000033 0x40004000 5
    ∷ Deliver 1 ∷ []) ∷ [])
    -- cluster_stays_on_extended: its cluster was granted power-down, and core 3 alone went down
    ∷ Breaks (Agree 1 1) extended (Legal (third_on ++ call 3 0xc4000001 0x40000033 0x40004000 5
    ∷ []) ∷ Deliver 1 ⇒ acked 1 Down 3 1 1 1 true ∷ Legal (Take 1 ∷ []) ∷ []) ∷ [])
unfolding scripts.computing
rest_worlds = refl

-- core c is on by start s of life l, and its next message has the number n
abbrev stands : Case → List (Row (BoardValue × List Steps) (List Clause))
stands (b, on, c, o, l, s, n) =
    -- gone_off: it has gone off, and another one runs
    Holds b (Legal (on ++ off c ∷ Deliver n ∷ Take n ∷ []) ∷ [])
    -- own_down: its Down was carried out, and the acknowledgement was not taken
    ∷ Breaks (Own c) b (Legal (on ++ off c ∷ Deliver n ∷ []) ∷ [])
    -- system_waits: an Off waits
    ∷ Breaks System b (Legal (on ++ system_off 0 ∷ []) ∷ [])
    -- reset_core_waits: it was reset while it ran
    ∷ Breaks (Entered c) b (Legal (on ++ Reset c ∷ []) ∷ [])
    -- core_stays_on: it was granted retention, and nothing was applied
    ∷ Breaks (Agree 0 c) b (Legal (on ++ retention c ∷ []) ∷ Deliver n ⇒ acked n Down c l s 0 true
    ∷ Legal (Take n ∷ []) ∷ [])
    ∷ []

each_stands : Gives unrest_after (each stands cases)
unfolding scripts.computing
each_stands = refl

-- In a row of a table the world has settled where these events come after those, in so many rounds;
-- or just this fails.
abbrev Settles : BoardValue → List Event → List Event → ℕ
    → Row (BoardValue × List Event × List Event × ℕ) (List Saying)
Settles b first more rounds = record { given = (b, first, more, rounds); comes = [] }

abbrev Fails : Saying → BoardValue → List Event → List Event → ℕ
    → Row (BoardValue × List Event × List Event × ℕ) (List Saying)
Fails s b first more rounds = record { given = (b, first, more, rounds); comes = s ∷ [] }

abbrev third_off : List Event
third_off = third_on ++ off 3 ∷ []

-- core 3, and then core 0, are suspended with all their domains
abbrev both_sleep : List Event
both_sleep = third_on ++ call 3 0xc4000001 0x02010333 0x40004000 2
    ∷ call 0 0xc4000001 0x02010333 0x40000100 0 ∷ []

-- the only core of a board, or of three levels, is suspended with all its domains
abbrev alone_sleeps : List Event
alone_sleeps = Enter 0 ∷ call 0 0xc4000001 0x01010033 0x40000100 0 ∷ []

abbrev tall_sleeps : List Event
tall_sleeps = Enter 0 ∷ call 0 0xc4000001 0x03013333 0x40000100 0 ∷ []

settled_worlds : Gives unsettled_after
    -- three_times: a Down is delivered once for each round, and there is one round for each level
    (Settles board third_off (Deliver 1 ∷ Deliver 1 ∷ Deliver 1 ∷ Take 1 ∷ []) 3
    -- a running core calls after the Down is served
    ∷ Fails Events board third_off (Deliver 1 ∷ Take 1 ∷ version 0 ∷ []) 1
    -- first_down_twice: the first Down is delivered twice, in one round
    ∷ Fails Most board both_sleep (Deliver 1 ∷ Deliver 1 ∷ Deliver 2 ∷ Take 1 ∷ Take 3 ∷ []) 1
    -- twice: on a board of height 1
    ∷ Settles one_core alone_sleeps (Deliver 0 ∷ Deliver 0 ∷ Take 0 ∷ []) 2
    -- three_in_two_levels: one round more than there are levels
    ∷ Fails Few one_core alone_sleeps (Deliver 0 ∷ Deliver 0 ∷ Deliver 0 ∷ Take 0 ∷ []) 3
    -- four_times_in_four_levels: on a board of height 3
    ∷ Settles tall tall_sleeps (Deliver 0 ∷ Deliver 0 ∷ Deliver 0 ∷ Deliver 0 ∷ Take 0 ∷ []) 4
    -- five_in_four_levels: one round more than there are levels
    ∷ Fails Few tall tall_sleeps (Deliver 0 ∷ Deliver 0 ∷ Deliver 0 ∷ Deliver 0 ∷ Deliver 0 ∷ Take 0
    ∷ []) 5 ∷ [])
unfolding scripts.computing
settled_worlds = refl

-- core c goes off, and its Down is message n; core o is on, too
abbrev goes_off : Case → List (Row (BoardValue × List Event × List Event × ℕ) (List Saying))
goes_off (b, on, c, o, l, s, n) =
    -- settled: its Down is served
    Settles b (on ++ off c ∷ []) (Deliver n ∷ Take n ∷ []) 1
    -- calls: a core calls
    ∷ Fails Events b (on ++ off c ∷ []) (version o ∷ Deliver n ∷ Take n ∷ []) 1
    -- not_taken: the acknowledgement is not taken
    ∷ Fails (Rest (Own c ∷ [])) b (on ++ off c ∷ []) (Deliver n ∷ []) 1
    -- four_rounds: there is one round too many
    ∷ Fails Few b (on ++ off c ∷ []) (Deliver n ∷ Deliver n ∷ Deliver n ∷ Deliver n ∷ Take n
    ∷ []) 4
    -- twice: core o is in standby, and one of two Downs is delivered twice in one round
    ∷ Fails Most b (on ++ off c ∷ standby o ∷ []) (Deliver n ∷ Deliver n ∷ Deliver (n + 1) ∷ Take n
    ∷ Take (n + 2) ∷ []) 1
    -- two_rounds: there are two rounds, and the Down is delivered once
    ∷ Fails Reached b (on ++ off c ∷ []) (Deliver n ∷ Take n ∷ []) 2
    ∷ []

each_goes_off : Gives unsettled_after (each goes_off cases)
unfolding scripts.computing
each_goes_off = refl

-- the boot core enters elsewhere, and nothing else is wrong
abbrev elsewhere : List Record
elsewhere = record { event = Enter 0; said = enters 0x50000000 9 } ∷ []

illegal : IsSettled board [] elsewhere 0 → ⊥
unfolding scripts.computing
illegal s = let no : enters 0x50000000 9 ≡ enters 0x40000000 0 = s.legal.0 in absurd (cc)
