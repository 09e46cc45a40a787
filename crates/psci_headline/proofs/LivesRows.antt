-- Worked examples: what goes wrong of one core, in each life, by each start, of the boot core, in
-- OS-initiated mode and on a board of the extended format, and runs in which nothing does.
use Rattle.std.proofs.Common.{◌++◌, ℕ, ◌+◌, List, [], ◌∷◌, false, refl}
use Rattle.psci_board.proofs.Tables.{Gives, Row}
use Rattle.psci_fw_laws.specs.psci_board.Board.{BoardValue}
use Rattle.psci_fw_laws.specs.psci_messages.declared.kind.Kind.TheVariants.{Down}
use Rattle.psci_world_spec.specs.declared.event.Event.{Event}
use Rattle.psci_world_spec.specs.declared.event.Event.TheVariants.{Enter, Wake, Reset, Deliver}
use Rattle.psci_world_spec.specs.declared.event.Event.TheVariants.{Take}
use Rattle.psci_world_spec.proofs.Scripts.{acked, board, call, enters, goes_down, off, on_3, part}
use Rattle.psci_world_spec.proofs.Scripts.{resumes, retention, system_reset, value, version}
use Rattle.psci_headline.proofs.Histories.{life_2, life_3, os_mode, Case, cases, extended, first_on}
use Rattle.psci_headline.proofs.Histories.{five, last_on, on_in_life_2, on_in_life_3, on_in_start_2}
use Rattle.psci_headline.proofs.Histories.{on_in_start_3, on_in_start_4, on_os_initiated, second_on}
use Rattle.psci_headline.proofs.Histories.{suspend, third_on}
use Rattle.psci_headline.proofs.Checking.{◌⇒◌, AreSafe, Clause, Steps, each, Asked, Breaks}
use Rattle.psci_headline.proofs.Checking.{failing_after, Legal, Once, One, Open, Powered}
use Rattle.psci_headline.proofs.Checking.{PoweredDown, Real, Stopped, computing}

-- what goes wrong of core c, which is on by start s of life l; its next message has the number n
abbrev wrong : Case → List (Row (BoardValue × List Steps) (List Clause))
wrong (b, on, c, o, l, s, n) =
    -- goes_on: it is powered down, and goes on without a start
    Breaks Powered b (Legal (on ++ off c ∷ Deliver n ∷ []) ∷ Enter c ⇒ resumes ∷ [])
    -- off_in_retention: it goes off, is put in retention, and is OFF
    ∷ Breaks PoweredDown b (Legal on ∷ off c ⇒ goes_down n c l s (part 0 2 s ∷ [])
    ∷ Legal (Deliver n ∷ Take n ∷ []) ∷ [])
    -- off_after_it_resumed: it was powered down and has resumed, goes off, is put in retention, and
    -- is OFF
    ∷ Breaks PoweredDown b (Legal on ∷ retention c ⇒ goes_down n c l s (part 0 3 s ∷ [])
    ∷ Legal (Deliver n ∷ Wake c ∷ Enter c ∷ []) ∷ off c
    ⇒ goes_down (n + 1) c l (s + 1) (part 0 2 (s + 1) ∷ [])
    ∷ Legal (Deliver (n + 1) ∷ Take (n + 1) ∷ []) ∷ [])
    -- off_twice: it goes off twice in one start
    ∷ Breaks One b (Legal (on ++ off c ∷ []) ∷ off c ⇒ goes_down (n + 1) c l s (part 0 3 s ∷ [])
    ∷ [])
    -- deeper: it asks for retention, and is powered down
    ∷ Breaks Asked b (Legal on ∷ retention c ⇒ goes_down n c l s (part 0 3 s ∷ [])
    ∷ Legal (Deliver n ∷ []) ∷ [])
    -- acknowledged: it is said to be in standby, and nothing was carried out
    ∷ Breaks Real b (Legal (on ++ retention c ∷ []) ∷ Deliver 99 ⇒ acked n Down c l s 1 false
    ∷ Legal (Take n ∷ []) ∷ [])
    -- acknowledged_after_it_resumed: it was in standby and has resumed, and is said to be so again
    ∷ Breaks Real b (Legal (on ++ retention c ∷ Deliver n ∷ Wake c ∷ Enter c ∷ retention c ∷ [])
    ∷ Deliver 99 ⇒ acked (n + 1) Down c l (s + 1) 1 false ∷ Legal (Take (n + 1) ∷ []) ∷ [])
    -- off_core_runs: it is OFF and was woken, and is answered before it has entered
    ∷ Breaks Stopped b (Legal (on ++ off c ∷ Deliver n ∷ Take n ∷ Wake c ∷ []) ∷ version c
    ⇒ value 65537 ∷ [])
    ∷ []

each_wrong : Gives failing_after (each wrong cases)
unfolding computing
each_wrong = refl

-- core c is started once more, after these events
abbrev wrong_entry : (BoardValue × List Event × ℕ) → List (Row (BoardValue × List Steps)
    (List Clause))
wrong_entry (b, on, c) =
    -- other_context: it was suspended, and enters with another context id
    Breaks Open b (Legal (on ++ call c 0xc4000001 0x00010003 0x40004000 5 ∷ Wake c ∷ [])
    ∷ Enter c ⇒ enters 0x40004000 6 ∷ [])
    -- enters_again: it was reset, and enters again where it was asked on
    ∷ Breaks Once b (Legal (on ++ Reset c ∷ []) ∷ Enter c ⇒ enters 0x40001000 7 ∷ [])
    ∷ []

each_wrong_entry : Gives failing_after (each wrong_entry
    -- to_start_2: core 3, from its first start
    ((board, third_on, 3)
    -- to_start_3: from its second start
    ∷ (board, on_in_start_2, 3)
    -- to_start_4: from its third start
    ∷ (board, on_in_start_3, 3)
    -- from_life_2: in life 2
    ∷ (board, on_in_life_2, 3)
    -- from_life_3: in life 3
    ∷ (board, on_in_life_3, 3)
    -- from_os_initiated: in OS-initiated mode
    ∷ (board, on_os_initiated, 3)
    -- of_the_second: core 1, beside the boot core
    ∷ (board, second_on, 1)
    -- of_the_first_of_its_cluster: core 2, in another cluster
    ∷ (board, first_on, 2)
    -- of_the_last_of_five: core 4 of five
    ∷ (five, last_on, 4)
    ∷ []))
unfolding computing
each_wrong_entry = refl

entries : Gives failing_after
    -- off_core_runs_in_life_3: a core that was woken is answered before it has entered
    (Breaks Stopped board (Legal (life_3 ++ Wake 3 ∷ []) ∷ version 3 ⇒ value 65537 ∷ [])
    -- os_initiated_off_core_runs: so is a core in OS-initiated mode
    ∷ Breaks Stopped board (Legal (os_mode ++ Wake 3 ∷ []) ∷ version 3 ⇒ value 65537 ∷ [])
    -- other_context_in_life_2: a core enters with another context id
    ∷ Breaks Open board (Legal (life_2 ++ on_3 ∷ Deliver 1 ∷ []) ∷ Enter 3 ⇒ enters 0x40001000 8
    ∷ [])
    -- other_context_in_life_3: the same in life 3
    ∷ Breaks Open board (Legal (life_3 ++ on_3 ∷ Deliver 2 ∷ []) ∷ Enter 3 ⇒ enters 0x40001000 8
    ∷ [])
    -- os_initiated_other_context: and in OS-initiated mode
    ∷ Breaks Open board (Legal (os_mode ++ on_3 ∷ Deliver 0 ∷ []) ∷ Enter 3 ⇒ enters 0x40001000 8
    ∷ [])
    -- boot_core_elsewhere_in_life_2: the boot core at another address, in life 2
    ∷ Breaks Open board (Legal (Enter 0 ∷ system_reset 0 ∷ Deliver 0 ∷ []) ∷ Enter 0
    ⇒ enters 0x40000004 0 ∷ [])
    -- boots_again_in_life_2: and once more at the boot address
    ∷ Breaks Once board (Legal (life_2 ++ Reset 0 ∷ []) ∷ Enter 0 ⇒ enters 0x40000000 0 ∷ [])
    -- extended_off_core_runs: a core that was woken is answered before it has entered
    ∷ Breaks Stopped extended (Legal (Enter 0 ∷ Wake 3 ∷ []) ∷ version 3 ⇒ value 65537 ∷ [])
    -- cluster_deeper_than_asked: a core asks for retention of its cluster, which is powered down
    ∷ Breaks Asked extended (Legal third_on ∷ call 3 0xc4000001 0x22 0 0
    ⇒ goes_down 1 3 1 1 (part 0 2 1 ∷ part 1 3 1 ∷ []) ∷ Deliver 1 ⇒ acked 1 Down 3 1 1 2 false
    ∷ [])
    -- extended_other_context: a core that was suspended enters with another context id
    ∷ Breaks Open extended (Legal (third_on ++ call 3 0xc4000001 0x40000033 0x40004000 5 ∷ Wake 3
    ∷ []) ∷ Enter 3 ⇒ enters 0x40004000 6 ∷ [])
    -- extended_enters_again: a core goes on twice at the opening of one suspend
    ∷ Breaks Once extended (Legal (third_on ++ call 3 0xc4000001 0x40000033 0x40004000 5 ∷ Wake 3
    ∷ Enter 3 ∷ Reset 3 ∷ []) ∷ Enter 3 ⇒ enters 0x40004000 5 ∷ [])
    -- cluster_acknowledged_only: a cluster is said to be in standby, and its core alone is in
    -- retention
    ∷ Breaks Real extended (Legal (third_on ++ call 3 0xc4000001 0x22 0 0 ∷ []) ∷ Deliver 1
    ⇒ acked 1 Down 3 1 1 1 false ∷ Deliver 99 ⇒ acked 2 Down 3 1 1 2 false ∷ Legal (Take 2 ∷ [])
    ∷ []) ∷ [])
unfolding computing
entries = refl

-- a core that is on sleeps, wakes, goes off, is OFF and comes on again as it is asked to
abbrev whole : List Event → ℕ → Event → ℕ → List Event
whole on c again n =
    on ++ retention c ∷ Deliver n ∷ Take n ∷ Wake c ∷ Enter c ∷ off c ∷ Deliver (n + 1)
    ∷ Take (n + 1) ∷ again ∷ Deliver (n + 2) ∷ Enter c ∷ []

runs : AreSafe board
    -- whole_life_2: in life 2
    (whole on_in_life_2 3 on_3 2
    -- whole_life_3: in life 3
    ∷ whole on_in_life_3 3 on_3 3
    -- whole_boot_core: the boot core
    ∷ whole third_on 0 (call 3 0xc4000003 0x0 0x40006000 3) 1
    -- whole_boot_core_in_life_2: the boot core in life 2
    ∷ whole on_in_life_2 0 (call 3 0xc4000003 0x0 0x40006000 3) 2
    -- whole_second_core: core 1, beside the boot core
    ∷ whole second_on 1 (call 0 0xc4000003 0x1 0x40001000 7) 1
    -- whole_first_of_its_cluster: core 2, in another cluster
    ∷ whole first_on 2 (call 0 0xc4000003 0x100 0x40001000 7) 1
    -- whole_os_initiated: in OS-initiated mode
    ∷ whole on_os_initiated 3 on_3 1
    -- whole_start_2: a core goes off in its start 2, is OFF, and is asked on
    ∷ (on_in_start_2 ++ off 3 ∷ Deliver 2 ∷ Take 2 ∷ on_3 ∷ [])
    -- whole_start_3: the same in its start 3
    ∷ (on_in_start_3 ++ off 3 ∷ Deliver 3 ∷ Take 3 ∷ on_3 ∷ [])
    -- whole_start_4: and in its start 4
    ∷ (on_in_start_4 ++ off 3 ∷ Deliver 4 ∷ Take 4 ∷ on_3 ∷ [])
    -- down_twice: a core is powered down, enters, goes off and is powered down again
    ∷ (third_on ++ suspend board 3 ∷ Deliver 1 ∷ Take 1 ∷ Wake 3 ∷ Enter 3 ∷ off 3 ∷ Deliver 2
    ∷ Take 2 ∷ [])
    -- boot_core_down_twice: so is the boot core
    ∷ (third_on ++ suspend board 0 ∷ Deliver 1 ∷ Take 1 ∷ Wake 0 ∷ Enter 0 ∷ off 0 ∷ Deliver 2
    ∷ Take 2 ∷ []) ∷ [])
unfolding computing
runs = refl

runs_of_five_cores : AreSafe five
    -- whole_last_of_five: the last one of five cores
    (whole last_on 4 (call 0 0xc4000003 0x101 0x40001000 7) 1 ∷ [])
unfolding computing
runs_of_five_cores = refl

runs_in_the_extended_format : AreSafe extended
    -- whole_extended: a core comes on, sleeps, wakes, goes off, is OFF and comes on again
    (whole third_on 3 on_3 1
    -- cluster_down: a core takes its cluster down, and comes back
    ∷ (third_on ++ call 3 0xc4000001 0x40000033 0x40004000 5 ∷ Deliver 1 ∷ Take 1 ∷ Wake 3 ∷ Enter 3
    ∷ []) ∷ [])
unfolding computing
runs_in_the_extended_format = refl
