-- Worked examples: runs that are safe, and moments that are not: a core executes below a sleeping
-- domain, or one that is reported OFF is not; a core enters where it was not asked to, or twice; a
-- hardware state that is said was not; and what goes wrong in a halting life.
use Rattle.std.proofs.Common.{◌++◌, [], ◌∷◌, refl, false, List, pos}
use Rattle.psci_world_spec.specs.declared.event.Event.TheVariants.{Enter, Wake, Reset, Deliver}
use Rattle.psci_world_spec.specs.declared.event.Event.TheVariants.{Take}
use Rattle.psci_world_spec.proofs.Scripts.{board, call, off, on_3, one_core, retention, status_3}
use Rattle.psci_world_spec.proofs.Scripts.{system_off, system_reset, version, acked, goes_down}
use Rattle.psci_world_spec.proofs.Scripts.{value, nothing, part, resumes, stops, used, enters}
use Rattle.psci_world_spec.proofs.Scripts.{returns, sends}
use Rattle.psci_headline.proofs.Histories.{life_2, both_os_initiated, both_on, on_2, on_in_start_2}
use Rattle.psci_headline.proofs.Histories.{on_os_initiated, third_on, standby}
use Rattle.psci_headline.proofs.Checking.{AreSafe, computing, ◌⇒◌, failing_after, BreakAll, Breaks}
use Rattle.psci_headline.proofs.Checking.{Legal, Powered, PoweredDown, Real, Stopped, WasUnsafe}
use Rattle.psci_headline.proofs.Checking.{Once, Open, One, Asked}
use Rattle.psci_board.proofs.Tables.{Gives}
use Rattle.psci_fw_laws.specs.psci_messages.declared.kind.Kind.TheVariants.{Down}
use Rattle.psci_world_spec.specs.declared.event.Event.{Event}
use Rattle.psci_fw_laws.specs.psci_messages.declared.kind.Kind.TheVariants as kinds

runs : AreSafe board
    -- secondary_core: a core is asked on, enters and goes off, and is OFF once that was
    -- acknowledged
    ((third_on ++ off 3 ∷ status_3 ∷ Deliver 1 ∷ Take 1 ∷ status_3 ∷ [])
    -- asked_on_below_sleep: a core is asked on below a cluster that sleeps, as was asked for when
    -- its last core went off
    ∷ (third_on ++ off 3 ∷ Deliver 1 ∷ on_2 ∷ Take 1 ∷ Deliver 2 ∷ Enter 2 ∷ [])
    -- system_down: the last core's Down comes first: a domain waits until those below it are down
    ∷ (third_on ++ call 3 0xc4000001 0x02010333 0x40004000 2
    ∷ call 0 0xc4000001 0x02010333 0x40000100 0 ∷ Deliver 2 ∷ Take 1 ∷ Deliver 1 ∷ Deliver 2
    ∷ Wake 0 ∷ Enter 0 ∷ [])
    -- cluster_retention: two cores ask different depths of their cluster, which takes the lesser
    -- one
    ∷ (both_on ++ call 2 0xc4000001 0x01010033 0x40003000 1
    ∷ call 3 0xc4000001 0x01010023 0x40004000 2 ∷ Deliver 3 ∷ Deliver 2 ∷ Deliver 3 ∷ [])
    -- os_initiated_cluster: each core asks for itself alone, and the last one for its cluster
    ∷ (both_os_initiated ++ call 2 0xc4000001 0x00010003 0x40003000 1
    ∷ call 3 0xc4000001 0x01010033 0x40004000 2 ∷ Deliver 2 ∷ Deliver 3 ∷ [])
    -- os_initiated_last_core: the last core in the system, after refusals
    ∷ (on_os_initiated ++ call 0 0xc4000001 0x02010333 0x40000100 0
    ∷ call 3 0xc4000001 0x00010003 0x40004000 2 ∷ call 0 0xc4000001 0x02010333 0x40000100 0 ∷ Wake 3
    ∷ Enter 3 ∷ off 3 ∷ call 0 0xc4000001 0x02010333 0x40000100 0 ∷ Deliver 2 ∷ Deliver 3 ∷ [])
    -- goes_off: the system goes off, while a core is OFF and another one runs
    ∷ (third_on ++ system_off 0 ∷ version 3 ∷ Wake 3 ∷ Enter 3 ∷ Deliver 1 ∷ Take 1 ∷ Wake 3 ∷ [])
    ∷ [])
unfolding computing
runs = refl

power : Gives failing_after
    -- resumes_powered_down: a core that is powered down goes on without a start: its cluster sleeps
    -- too, the system does not
    (Breaks Powered board (Legal (third_on ++ off 3 ∷ Deliver 1 ∷ []) ∷ Enter 3 ⇒ resumes ∷ [])
    -- a core runs while the system alone sleeps
    ∷ Breaks Powered board (Legal (Enter 0 ∷ []) ∷ off 0 ⇒ goes_down 0 0 1 1 (part 0 0 1
    ∷ part 1 0 1 ∷ part 2 3 1 ∷ []) ∷ Deliver 0 ⇒ acked 0 Down 0 1 1 3 false ∷ Enter 0 ⇒ resumes
    ∷ [])
    -- runs_in_standby: a core resumes without a start: it is in standby, its cluster is on
    ∷ Breaks Powered board (Legal third_on ∷ Legal (standby 3 ∷ Deliver 1 ∷ []) ∷ Enter 3 ⇒ resumes
    ∷ [])
    -- started_in_retention: its cluster alone is in retention, and the core waits at its start
    ∷ Breaks Powered board (Legal third_on ∷ off 3 ⇒ goes_down 1 3 1 1 (part 0 0 2 ∷ part 1 2 2
    ∷ []) ∷ Legal (Wake 3 ∷ []) ∷ Deliver 1 ⇒ acked 1 Down 3 1 1 2 false ∷ [])
    -- off_core_runs: a core that was woken is answered before it has entered
    ∷ Breaks Stopped board (Legal (Enter 0 ∷ Wake 3 ∷ []) ∷ version 3 ⇒ value 65537 ∷ [])
    -- off_in_retention: a core that goes off is put in retention, and is OFF once that was
    -- acknowledged
    ∷ Breaks PoweredDown board (Legal third_on ∷ off 3 ⇒ goes_down 1 3 1 1 (part 0 2 1 ∷ [])
    ∷ Legal (Deliver 1 ∷ Take 1 ∷ []) ∷ [])
    -- old_acknowledgement_used: a core that goes off is OFF, and its hardware is, by the
    -- acknowledgement of a suspend from which it has gone on
    ∷ BreakAll (PoweredDown ∷ Real ∷ []) board (Legal (third_on
    ++ call 3 0xc4000001 0x00010003 0x40004000 2 ∷ Deliver 1 ∷ Wake 3 ∷ Enter 3 ∷ off 3 ∷ [])
    ∷ Take 1 ⇒ used ∷ [])
    -- so is the boot core
    ∷ BreakAll (PoweredDown ∷ Real ∷ []) board (Legal (third_on
    ++ call 0 0xc4000001 0x00010003 0x40004000 2 ∷ Deliver 1 ∷ Wake 0 ∷ Enter 0 ∷ off 0 ∷ [])
    ∷ Take 1 ⇒ used ∷ [])
    -- a core was powered down in the life before, and not in this one
    ∷ Breaks PoweredDown board (Legal (Enter 0 ∷ call 0 0xc400000e 0x40000200 9 0 ∷ Deliver 0
    ∷ Wake 0 ∷ Enter 0 ∷ system_reset 0 ∷ Deliver 1 ∷ []) ∷ Enter 0 ⇒ value 0 ∷ off 0
    ⇒ goes_down 2 0 2 1 (part 0 2 1 ∷ []) ∷ Legal (Deliver 2 ∷ Take 2 ∷ []) ∷ [])
    -- a function tells a core to go on that was woken while it is OFF
    ∷ Breaks PoweredDown board (Legal (Enter 0 ∷ Wake 3 ∷ []) ∷ version 3 ⇒ resumes ∷ version 3
    ⇒ stops nothing ∷ [])
    -- off_core_runs_again: a core that was woken is answered before it has entered, in life 2
    ∷ Breaks Stopped board (Legal (life_2 ++ Wake 1 ∷ []) ∷ version 1 ⇒ value 65537 ∷ []) ∷ [])
unfolding computing
power = refl

-- a core that is powered down goes on without a start, and then it is reset
unsafe_before : WasUnsafe board
    (Legal (third_on ++ retention 3 ∷ Deliver 1 ∷ []) ∷ Enter 3 ⇒ resumes ∷ Legal (Reset 3 ∷ [])
    ∷ [])
unfolding computing
unsafe_before = (refl, refl)

-- core 3 was asked on, and started
abbrev third_started : List Event
third_started = Enter 0 ∷ on_3 ∷ Deliver 0 ∷ []

openings : Gives failing_after
    -- other_context: with another context id
    (Breaks Open board (Legal third_started ∷ Enter 3 ⇒ enters 0x40001000 8 ∷ [])
    -- at another address
    ∷ Breaks Open board (Legal third_started ∷ Enter 3 ⇒ enters 0x40001004 7 ∷ [])
    -- other_boot_address: the boot core at another address than the board's
    ∷ Breaks Open board (Enter 0 ⇒ enters 0x40000004 0 ∷ [])
    -- opening_of_another_core: at the opening of another core
    ∷ Breaks Open board (Legal (Enter 0 ∷ on_3 ∷ Wake 2 ∷ []) ∷ Enter 2 ⇒ enters 0x40001000 7 ∷ [])
    -- at an opening of the life before
    ∷ Breaks Open board (Legal (Enter 0 ∷ on_3 ∷ system_reset 0 ∷ Deliver 1 ∷ Enter 0 ∷ Wake 3 ∷ [])
    ∷ Enter 3 ⇒ enters 0x40001000 7 ∷ [])
    -- where a CPU_ON of another core asked, which sent the Start of this one
    ∷ Breaks Open board (Legal (Enter 0 ∷ []) ∷ on_3
    ⇒ returns (pos 0) (sends 0 kinds.Start 2 1 0 []) ∷ Legal (Deliver 0 ∷ []) ∷ Enter 2
    ⇒ enters 0x40001000 7 ∷ [])
    -- where a CPU_ON asked that was refused: the entry point is no multiple of 4
    ∷ Breaks Open board (Legal (Enter 0 ∷ call 0 0xc4000003 0x101 0x40001002 0 ∷ Wake 3 ∷ [])
    ∷ Enter 3 ⇒ enters 0x40001002 0 ∷ [])
    -- where a suspend to retention named an entry point; the core ran
    -- without an entry before
    ∷ Breaks Open board (Legal (Enter 0 ∷ Wake 3 ∷ []) ∷ Enter 3 ⇒ resumes
    ∷ Legal (call 3 0xc4000001 0x2 0x40004000 5 ∷ Wake 3 ∷ []) ∷ Enter 3 ⇒ enters 0x40004000 5 ∷ [])
    -- at the opening before the last one
    ∷ Breaks Open board (Legal third_started ∷ Legal (Enter 3 ∷ off 3 ∷ Deliver 1 ∷ Take 1
    ∷ call 0 0xc4000003 0x101 0x40005000 9 ∷ Deliver 2 ∷ []) ∷ Enter 3 ⇒ enters 0x40001000 7 ∷ [])
    -- reset_core_enters_again: a core that was reset enters again where it was asked on
    ∷ Breaks Once board (Legal third_started ∷ Legal (Enter 3 ∷ Reset 3 ∷ []) ∷ Enter 3
    ⇒ enters 0x40001000 7 ∷ [])
    -- boots_again: the boot core enters again at the boot address
    ∷ Breaks Once board (Legal (Enter 0 ∷ Reset 0 ∷ []) ∷ Enter 0 ⇒ enters 0x40000000 0 ∷ [])
    -- a core that resumed though it was never asked on
    ∷ Breaks Open board (Legal (Enter 0 ∷ Wake 3 ∷ []) ∷ Enter 3 ⇒ resumes ∷ version 3
    ⇒ enters 0x50000000 9 ∷ [])
    -- where it entered before
    ∷ Breaks Once board (Legal third_started ∷ Legal (Enter 3 ∷ []) ∷ version 3
    ⇒ enters 0x40001000 7 ∷ []) ∷ [])
unfolding computing
openings = refl

hardware_run : AreSafe board
    -- cluster_off: a core goes off, its cluster with it, and both are said to be off until it is
    -- asked on again
    ((third_on ++ off 3 ∷ Deliver 1 ∷ Take 1 ∷ on_3 ∷ Deliver 2 ∷ Enter 3 ∷ []) ∷ [])
unfolding computing
hardware_run = refl

hardware : Gives failing_after
    -- acknowledged_only: a core is said to be in standby by an acknowledgement that nothing was
    -- carried out for
    (Breaks Real board (Legal (third_on ++ retention 3 ∷ []) ∷ Deliver 9
    ⇒ acked 1 Down 3 1 1 1 false ∷ Legal (Take 1 ∷ []) ∷ [])
    -- it was in retention before its last start, and not since
    ∷ Breaks Real board (Legal (on_in_start_2 ++ retention 3 ∷ []) ∷ Deliver 9
    ⇒ acked 2 Down 3 1 2 1 false ∷ Legal (Take 2 ∷ []) ∷ [])
    -- a core was powered down by its last start, and is said to be in standby
    ∷ BreakAll (One ∷ Real ∷ []) board (Legal (third_on ++ off 3 ∷ Deliver 1 ∷ []) ∷ retention 3
    ⇒ goes_down 2 3 1 1 (part 0 2 1 ∷ []) ∷ Deliver 9 ⇒ acked 2 Down 3 1 1 1 false ∷ Take 2 ⇒ used
    ∷ [])
    -- cluster_of_two_acknowledged_only: a cluster of two cores is said to be in standby, and the
    -- two alone are
    ∷ Breaks Real board (Legal (both_on ++ call 2 0xc4000001 0x01000022 0 0 ∷ Deliver 2
    ∷ call 3 0xc4000001 0x01000022 0 0 ∷ []) ∷ Deliver 3 ⇒ acked 3 Down 3 1 1 1 false ∷ Deliver 99
    ⇒ acked 4 Down 3 1 1 2 false ∷ Legal (Take 4 ∷ []) ∷ [])
    -- the boot core was in retention in the life before, by as many starts, and
    -- not in this one
    ∷ Breaks Real one_core (Legal (Enter 0 ∷ retention 0 ∷ Deliver 0 ∷ Wake 0 ∷ Enter 0
    ∷ system_reset 0 ∷ Deliver 1 ∷ Enter 0 ∷ retention 0 ∷ []) ∷ Deliver 9
    ⇒ acked 2 Down 0 2 1 1 false ∷ Legal (Take 2 ∷ []) ∷ []) ∷ [])
unfolding computing
hardware = refl

halting_run : AreSafe board
    -- whole_run_halting: a core goes off, is OFF once the life halts, is woken; the system goes off
    ((third_on ++ off 3 ∷ Deliver 1 ∷ system_off 0 ∷ Take 1 ∷ status_3 ∷ Wake 3 ∷ Enter 3
    ∷ Deliver 2 ∷ []) ∷ [])
unfolding computing
halting_run = refl

halting : Gives failing_after
    -- goes_on_halting: a core that is powered down goes on without a start
    (Breaks Powered board (Legal (third_on ++ off 3 ∷ Deliver 1 ∷ system_off 0 ∷ []) ∷ Enter 3
    ⇒ resumes ∷ [])
    -- off_core_runs_halting: a core that was woken is answered before it has entered
    ∷ Breaks Stopped board (Legal (Enter 0 ∷ system_off 0 ∷ Wake 3 ∷ []) ∷ version 3 ⇒ value 65537
    ∷ [])
    -- off_in_retention_halting: a core that goes off is put in retention, and is OFF
    ∷ Breaks PoweredDown board (Legal (third_on ++ system_off 0 ∷ []) ∷ off 3
    ⇒ goes_down 2 3 1 1 (part 0 2 1 ∷ []) ∷ Legal (Deliver 2 ∷ Take 1 ∷ []) ∷ [])
    -- off_twice_halting: a core goes off twice in one start
    ∷ Breaks One board (Legal (third_on ++ off 3 ∷ system_off 0 ∷ []) ∷ off 3
    ⇒ goes_down 3 3 1 1 (part 0 3 1 ∷ []) ∷ [])
    -- deeper_than_the_core_asks_halting: a core asks for retention, and is powered down
    ∷ Breaks Asked board (Legal (third_on ++ system_off 0 ∷ []) ∷ retention 3
    ⇒ goes_down 2 3 1 1 (part 0 3 1 ∷ []) ∷ Legal (Deliver 2 ∷ []) ∷ [])
    -- other_context_halting: a core enters with another context id
    ∷ Breaks Open board (Legal (Enter 0 ∷ on_3 ∷ system_off 0 ∷ Deliver 0 ∷ []) ∷ Enter 3
    ⇒ enters 0x40001000 8 ∷ [])
    -- enters_again_halting: a core that was reset enters again where it was asked on
    ∷ Breaks Once board (Legal (third_on ++ system_off 0 ∷ Reset 3 ∷ []) ∷ Enter 3
    ⇒ enters 0x40001000 7 ∷ [])
    -- acknowledged_only_halting: a core is said to be in standby, and nothing was carried out
    ∷ Breaks Real board (Legal (third_on ++ retention 3 ∷ system_off 0 ∷ []) ∷ Deliver 99
    ⇒ acked 1 Down 3 1 1 1 false ∷ Legal (Take 1 ∷ []) ∷ []) ∷ [])
unfolding computing
halting = refl
