-- Worked examples: worlds that have settled, in which all is told, and records after which just one
-- thing is not told as it is, where something is outstanding still, the life halts, or the run is
-- not legal; also by each life, start, core, mode and format.
use Rattle.std.proofs.Common.{◌++◌, List, [], ◌∷◌, refl, true}
use Rattle.psci_board.specs.Board.{BoardValue}
use Rattle.psci_board.proofs.Tables.{Gives, Row}
use Rattle.psci_headline.specs.psci_world_spec.declared.event.Event.{Event}
use Rattle.psci_headline.specs.psci_world_spec.declared.event.Event.TheVariants.{Enter, Wake}
use Rattle.psci_headline.specs.psci_world_spec.declared.event.Event.TheVariants.{Deliver, Reset}
use Rattle.psci_headline.specs.psci_world_spec.declared.event.Event.TheVariants.{Take}
use Rattle.psci_headline.proofs.world_spec.Scripts.{board, call, off, one_core, retention, tall}
use Rattle.psci_headline.proofs.world_spec.Scripts.{acked, system_off, value, version}
use Rattle.psci_headline.proofs.Histories.{life_2, Case, cases, standby, extended, on_in_group}
use Rattle.psci_headline.proofs.Histories.{on_os_initiated, third_on, life_3}
use Rattle.psci_headline.proofs.Checking.{Holds, each, ◌⇒◌, Breaks, Legal, Steps}
use Rattle.psci_headline.proofs.Untold.{Clause, computing, untold_once_settled, Hw, IsAway, IsOff}
use Rattle.psci_headline.proofs.Untold.{untold_after}
use Rattle.psci_headline.specs.psci_messages.declared.kind.Kind.TheVariants.{Down}

-- core c goes off, which is on
abbrev goes_off : Case → List (Row (BoardValue × List Event) (List Clause))
goes_off (b, on, c, o, l, s, n) =
    -- gone_off: it has gone off, with its cluster where its cluster has no other core that is on
    Holds b (on ++ off c ∷ [])
    ∷ []

each_goes_off : Gives untold_once_settled (each goes_off cases)
unfolding computing
each_goes_off = refl

told_worlds : Gives untold_once_settled
    -- cluster_in_retention: core 1 asks for retention of its cluster, and core 0 after it
    (Holds board (Enter 0 ∷ call 0 0xc4000003 0x1 0x40001000 7 ∷ Deliver 0 ∷ Enter 1
    ∷ call 1 0xc4000001 0x01000022 0 0 ∷ call 0 0xc4000001 0x01000022 0 0 ∷ [])
    -- cluster_started: what is taken before a core is started in the cluster stays confirmed of the
    -- core alone
    ∷ Holds board (third_on ++ off 3 ∷ Wake 2 ∷ Deliver 1 ∷ Take 1 ∷ [])
    -- standby: it is in standby
    ∷ Holds one_core (Enter 0 ∷ standby 0 ∷ [])
    -- group_off: a core suspended to power-down with its group, and its acknowledgement came twice
    ∷ Holds tall (on_in_group ++ call 3 0xc4000001 0x02010333 0x40004000 5 ∷ Deliver 1 ∷ Take 1
    ∷ Take 1 ∷ [])
    -- system_in_standby: the system in standby, in life 2
    ∷ Holds tall (life_2 ++ call 0 0xc4000001 0x03001111 0 0 ∷ [])
    -- group_in_retention_os_initiated: the last core takes the group to retention, in life 2
    ∷ Holds tall (life_2 ++ call 0 0x8400000f 1 0 0 ∷ call 0 0xc4000003 0x10100 0x40001000 7
    ∷ Deliver 1 ∷ Enter 3 ∷ call 3 0xc4000001 0x02000222 0 0 ∷ [])
    -- extended_os_initiated: OS-initiated mode: the last core takes the system down, and a reset
    -- core parks
    ∷ Holds extended (on_os_initiated ++ Reset 3 ∷ Enter 3
    ∷ call 0 0xc4000001 0x40000333 0x40000100 0 ∷ []) ∷ [])
unfolding computing
told_worlds = refl

records : Gives untold_after
    -- core_in_standby: core 3 is in standby, and its acknowledgement was not taken
    (Breaks (Hw 0 3) board (Legal (third_on ++ standby 3 ∷ Deliver 1 ∷ []) ∷ [])
    -- boot_core_in_life_2: the same of the boot core in retention, in life 2
    ∷ Breaks (Hw 0 0) board (Legal (life_2 ++ retention 0 ∷ Deliver 1 ∷ []) ∷ [])
    -- boot_core_in_life_3: and in life 3
    ∷ Breaks (Hw 0 0) board (Legal (life_3 ++ retention 0 ∷ Deliver 2 ∷ []) ∷ [])
    -- second_start_os_initiated: and of core 3, powered down by a suspend in its second start, in
    -- OS-initiated mode
    ∷ Breaks (Hw 0 3) board (Legal (on_os_initiated ++ retention 3 ∷ Deliver 1 ∷ Wake 3 ∷ Enter 3
    ∷ call 3 0xc4000001 0x00010003 0x40003000 1 ∷ Deliver 2 ∷ []) ∷ [])
    -- cluster_off: the Down of core 3 was carried out, and then acknowledged of the core alone
    ∷ Breaks (Hw 1 1) board (Legal (third_on ++ off 3 ∷ Deliver 1 ∷ []) ∷ Deliver 1
    ⇒ acked 2 Down 3 1 1 1 true ∷ Legal (Take 2 ∷ []) ∷ [])
    -- woken: a core that was confirmed to sleep is woken, and has not entered yet
    ∷ Breaks (Hw 0 3) board (Legal (third_on ++ retention 3 ∷ Deliver 1 ∷ Take 1 ∷ Wake 3 ∷ [])
    ∷ [])
    -- halting: in a halting life nothing is asked of the core that ended it
    ∷ Breaks (IsOff 0) board (Legal (Enter 0 ∷ system_off 0 ∷ []) ∷ [])
    -- boot_core_goes_off: the boot core, in OS-initiated mode
    ∷ Breaks (IsOff 0) board (Legal (on_os_initiated ++ off 0 ∷ []) ∷ [])
    -- group_in_standby: a group in standby
    ∷ Breaks (Hw 2 1) tall (Legal (on_in_group ++ call 3 0xc4000001 0x02000111 0 0 ∷ Deliver 1 ∷ [])
    ∷ Deliver 1 ⇒ acked 2 Down 3 1 1 2 true ∷ Legal (Take 2 ∷ []) ∷ [])
    -- tall_system_off: the system off
    ∷ Breaks (Hw 3 0) tall (Legal (Enter 0 ∷ call 0 0xc4000001 0x03013333 0x40000100 0 ∷ Deliver 0
    ∷ []) ∷ Deliver 0 ⇒ acked 1 Down 0 1 1 3 true ∷ Legal (Take 1 ∷ []) ∷ [])
    -- parks: a core that was reset parks, by its third start
    ∷ Breaks (IsOff 3) tall (Legal (on_in_group ++ retention 3 ∷ Deliver 1 ∷ Wake 3 ∷ Enter 3
    ∷ Reset 3 ∷ Enter 3 ∷ []) ∷ [])
    -- going_off_in_life_2: core 1 goes off in life 2, and nothing was delivered
    ∷ Breaks (IsOff 1) extended (Legal (life_2 ++ call 0 0xc4000003 0x1 0x40001000 7 ∷ Deliver 1
    ∷ Enter 1 ∷ off 1 ∷ []) ∷ [])
    -- core_down_extended: core 3 is powered down by a suspend, and its acknowledgement was not
    -- taken
    ∷ Breaks (Hw 0 3) extended (Legal (third_on ++ call 3 0xc4000001 0x40000003 0x40004000 5
    ∷ Deliver 1 ∷ []) ∷ []) ∷ [])
unfolding computing
records = refl

-- core c is on, and its next message has the number n
abbrev sleeps : Case → List (Row (BoardValue × List Steps) (List Clause))
sleeps (b, on, c, o, l, s, n) =
    -- in_retention: it is in retention, and its acknowledgement was not taken
    Breaks (Hw 0 c) b (Legal (on ++ retention c ∷ Deliver n ∷ []) ∷ [])
    -- going_off: it goes off, and nothing was delivered
    ∷ Breaks (IsOff c) b (Legal (on ++ off c ∷ []) ∷ [])
    -- answered_off: it is off, and is answered as if it ran
    ∷ Breaks (IsAway c) b (Legal (on ++ off c ∷ Deliver n ∷ Take n ∷ []) ∷ version c ⇒ value 0x10001
    ∷ [])
    ∷ []

each_sleeps : Gives untold_after (each sleeps cases)
unfolding computing
each_sleeps = refl
