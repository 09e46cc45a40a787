-- Worked examples: where cores are, the hardware states of all domains after some events, and what
-- single records add to the two histories.
use Rattle.std.proofs.Common.{◌+◌, ◌∷◌, ◌≡◌, [], List, map, refl, ℕ}
use Rattle.std.specs.List.{range_with_len}
use Rattle.psci_ctl_spec.proofs.Tables.{◌⇒◌, Gives}
use Rattle.psci_fw_spec.specs.psci_board.Board.{BoardValue, height, nodes}
use Rattle.psci_world_spec.specs.declared.event.Event.{Event}
use Rattle.psci_world_spec.specs.declared.event.Event.TheVariants.{Deliver, Enter, Reset, Take}
use Rattle.psci_world_spec.specs.declared.event.Event.TheVariants.{Wake}
use Rattle.psci_world_spec.specs.declared.place.Place.{Place}
use Rattle.psci_world_spec.specs.declared.place.Place.TheVariants.{Running, Started, Stopped}
use Rattle.psci_world_spec.specs.Legal.{controller_history, firmware_values, place, run_from}
use Rattle.psci_world_spec.specs.Legal.{sent}
use Rattle.psci_world_spec.proofs.Scripts.{board, call, computing, limited, off, on_3, part}
use Rattle.psci_world_spec.proofs.Scripts.{retention, system_off, system_reset, tall}
use Rattle.psci_fw_spec.specs.NodeHwState.{hw_code, node_hw}
use Rattle.psci_ctl_spec.specs.declared.call.CtlCall.{CtlCall}
use Rattle.psci_fw_spec.specs.psci_messages.declared.kind.Kind.TheVariants.{Down, Start}
use Rattle.psci_ctl_spec.specs.declared.call.CtlCall.TheVariants as asked

-- Places --------------------------------------------------------------------------------------

-- where the four cores are after these events, the boot core first
abbrev places : BoardValue → List Event → List Place
places b events = map (place b (run_from b [] events)) (0 ∷ 1 ∷ 2 ∷ 3 ∷ [])

-- cores 0 and 3 run, and then these events
abbrev two_run : List Event → List Event
two_run events = Enter 0 ∷ on_3 ∷ Deliver 0 ∷ Enter 3 ∷ events

places_of_cores : Gives (places board)
    -- before any event the boot core is started, and every other core stopped
    ([] ⇒ (Started ∷ Stopped ∷ Stopped ∷ Stopped ∷ [])
    -- a core that was asked on is stopped until its Start was carried out, and started until it
    -- enters
    ∷ (Enter 0 ∷ on_3 ∷ []) ⇒ (Running ∷ Stopped ∷ Stopped ∷ Stopped ∷ [])
    ∷ (Enter 0 ∷ on_3 ∷ Deliver 0 ∷ []) ⇒ (Running ∷ Stopped ∷ Stopped ∷ Started ∷ [])
    -- a Start that comes late starts nothing
    ∷ two_run (Deliver 0 ∷ []) ⇒ (Running ∷ Stopped ∷ Stopped ∷ Running ∷ [])
    -- a core that stops is stopped, whatever becomes of its Down; one that resumes runs
    ∷ two_run (retention 3 ∷ Deliver 1 ∷ Take 1 ∷ []) ⇒ (Running ∷ Stopped ∷ Stopped ∷ Stopped ∷ [])
    ∷ two_run (retention 3 ∷ Wake 3 ∷ Enter 3 ∷ []) ⇒ (Running ∷ Stopped ∷ Stopped ∷ Running ∷ [])
    -- an accepted SYSTEM_OFF stops its caller alone; once it is carried out every core is stopped
    ∷ two_run (system_off 0 ∷ []) ⇒ (Stopped ∷ Stopped ∷ Stopped ∷ Running ∷ [])
    ∷ two_run (system_off 0 ∷ Deliver 1 ∷ []) ⇒ (Stopped ∷ Stopped ∷ Stopped ∷ Stopped ∷ [])
    -- once a system reset is carried out, the boot core is started and every other core stopped
    ∷ two_run (system_reset 0 ∷ Deliver 1 ∷ []) ⇒ (Started ∷ Stopped ∷ Stopped ∷ Stopped ∷ []) ∷ [])
unfolding computing
places_of_cores = refl

-- in the last life it stops every core
last_life_places : places (limited 1000 1) (two_run (system_reset 0 ∷ Deliver 1 ∷ []))
    ≡ Stopped ∷ Stopped ∷ Stopped ∷ Stopped ∷ []
unfolding computing
last_life_places = refl

-- Hardware states -----------------------------------------------------------------------------

-- the states of all domains after these events, by their codes: of each level from the cores up,
-- from left to right
abbrev states : BoardValue → List Event → List (List ℕ)
states b events =
    map (λ level. map (λ place.
    hw_code (node_hw (firmware_values b (run_from b [] events))
    (record { level = level; place = place })))
    (range_with_len 0 (nodes b level))) (range_with_len 0 (height b + 1))

-- both suspend to power-down of the system
abbrev two_suspend : List Event → List Event
two_suspend events = two_run
    (call 3 0xc4000001 0x02010333 0x40004000 2 ∷ call 0 0xc4000001 0x02010333 0x40000100 0 ∷ events)

claims_carried_out : Gives (states board)
    -- the claims of a Down that was carried out in part: two of three levels
    (two_suspend (Deliver 2 ∷ Take 1 ∷ [])
    ⇒ ((1 ∷ 1 ∷ 1 ∷ 0 ∷ []) ∷ (1 ∷ 0 ∷ []) ∷ (0 ∷ []) ∷ [])
    -- and once both were carried out
    ∷ two_suspend (Deliver 2 ∷ Take 1 ∷ Deliver 1 ∷ Deliver 2 ∷ Take 2 ∷ Take 3 ∷ [])
    ⇒ ((1 ∷ 1 ∷ 1 ∷ 1 ∷ []) ∷ (1 ∷ 1 ∷ []) ∷ (1 ∷ []) ∷ [])
    -- an acknowledgement that comes after the next entry is old, and so is one of a Down that a
    -- later one has replaced
    ∷ two_run (retention 3 ∷ Deliver 1 ∷ Wake 3 ∷ Enter 3 ∷ Take 1 ∷ retention 3 ∷ Take 1 ∷ [])
    ⇒ ((0 ∷ 1 ∷ 1 ∷ 0 ∷ []) ∷ (0 ∷ 0 ∷ []) ∷ (0 ∷ []) ∷ [])
    -- a stale one with a part that was applied confirms that part; the cluster has a core that was
    -- asked on
    ∷ two_run (off 3 ∷ call 0 0xc4000003 0x100 0x40002000 0 ∷ Deliver 2 ∷ Deliver 1 ∷ Take 2 ∷ [])
    ⇒ ((0 ∷ 1 ∷ 0 ∷ 1 ∷ []) ∷ (0 ∷ 0 ∷ []) ∷ (0 ∷ []) ∷ [])
    -- a cluster in retention with its last core
    ∷ two_run (call 3 0xc4000001 0x01000022 0 0 ∷ Deliver 1 ∷ Take 1 ∷ [])
    ⇒ ((0 ∷ 1 ∷ 1 ∷ 2 ∷ []) ∷ (0 ∷ 2 ∷ []) ∷ (0 ∷ []) ∷ [])
    -- woken, its core has not entered: nothing is known of it yet; once it has, all is on above it
    ∷ two_run (call 3 0xc4000001 0x01000022 0 0 ∷ Deliver 1 ∷ Take 1 ∷ Wake 3 ∷ [])
    ⇒ ((0 ∷ 1 ∷ 1 ∷ 2 ∷ []) ∷ (0 ∷ 2 ∷ []) ∷ (0 ∷ []) ∷ [])
    ∷ two_run (call 3 0xc4000001 0x01000022 0 0 ∷ Deliver 1 ∷ Take 1 ∷ Wake 3 ∷ Enter 3 ∷ [])
    ⇒ ((0 ∷ 1 ∷ 1 ∷ 0 ∷ []) ∷ (0 ∷ 0 ∷ []) ∷ (0 ∷ []) ∷ []) ∷ [])
unfolding computing
claims_carried_out = refl

-- on three levels above the cores: three of four parts, then all
abbrev tall_suspends : List Event → List Event
tall_suspends events = Enter 0 ∷ call 0 0xc4000003 0x10100 0x40001000 7 ∷ Deliver 0 ∷ Enter 3
    ∷ off 3 ∷ call 0 0xc4000001 0x03013333 0x40000100 0 ∷ Deliver 2 ∷ Take 1 ∷ events

claims_of_three_levels : Gives (states tall)
    (tall_suspends []
    ⇒ ((1 ∷ 1 ∷ 1 ∷ 0 ∷ []) ∷ (1 ∷ 1 ∷ 1 ∷ 0 ∷ []) ∷ (1 ∷ 0 ∷ []) ∷ (0 ∷ []) ∷ [])
    ∷ tall_suspends (Deliver 1 ∷ Deliver 2 ∷ Take 2 ∷ Take 3 ∷ [])
    ⇒ ((1 ∷ 1 ∷ 1 ∷ 1 ∷ []) ∷ (1 ∷ 1 ∷ 1 ∷ 1 ∷ []) ∷ (1 ∷ 1 ∷ []) ∷ (1 ∷ []) ∷ []) ∷ [])
unfolding computing
claims_of_three_levels = refl

-- the claims of a last core in OS-initiated mode; they end as it enters
abbrev by_the_os : List Event → List Event
by_the_os events = Enter 0 ∷ call 0 0x8400000f 1 0 0 ∷ call 0 0xc4000001 0x02010333 0x40000100 0
    ∷ Deliver 0 ∷ Take 0 ∷ events

modes_and_lives : Gives (states board)
    (by_the_os [] ⇒ ((1 ∷ 1 ∷ 1 ∷ 1 ∷ []) ∷ (1 ∷ 1 ∷ []) ∷ (1 ∷ []) ∷ [])
    ∷ by_the_os (Wake 0 ∷ Enter 0 ∷ []) ⇒ ((0 ∷ 1 ∷ 1 ∷ 1 ∷ []) ∷ (0 ∷ 1 ∷ []) ∷ (0 ∷ []) ∷ [])
    -- claims are confirmed in a halting life too, and a new life begins as the first one did
    ∷ two_run (retention 3 ∷ Deliver 1 ∷ system_reset 0 ∷ Take 1 ∷ [])
    ⇒ ((0 ∷ 1 ∷ 1 ∷ 2 ∷ []) ∷ (0 ∷ 0 ∷ []) ∷ (0 ∷ []) ∷ [])
    ∷ two_run (retention 3 ∷ Deliver 1 ∷ system_reset 0 ∷ Take 1 ∷ Deliver 2 ∷ Enter 0 ∷ [])
    ⇒ ((0 ∷ 1 ∷ 1 ∷ 1 ∷ []) ∷ (0 ∷ 1 ∷ []) ∷ (0 ∷ []) ∷ []) ∷ [])
unfolding computing
modes_and_lives = refl

-- Histories -----------------------------------------------------------------------------------

-- what the power controller was asked in a run, the last first
abbrev asked_in : BoardValue → List Event → List CtlCall
asked_in b events = map (λ e. e.call) (controller_history b (run_from b [] events))

-- a wake-up names the start in which its core stopped: none, the first, the third; a reset names no
-- start, and what is ignored was not asked
wakes_and_resets : asked_in board (Enter 0 ∷ Wake 3 ∷ Enter 3 ∷ Wake 3 ∷ Reset 3 ∷ Enter 3 ∷ Wake 0
    ∷ Wake 3 ∷ [])
    ≡ asked.Wake (record { number = 3 }) 3 ∷ asked.Reset (record { number = 3 })
    ∷ asked.Wake (record { number = 3 }) 1 ∷ asked.Wake (record { number = 3 }) 0 ∷ []
unfolding computing
wakes_and_resets = refl

-- each message that was sent, by a call that returned and by one that stopped, the last first
messages_sent : sent (run_from board [] (Enter 0 ∷ on_3 ∷ Deliver 0 ∷ Enter 3 ∷ off 3 ∷ []))
    ≡ record {
      kind = Down;
      core = record { number = 3 };
      life = 1;
      number = 1;
      parts = part 0 3 1 ∷ part 1 3 1 ∷ [];
    } ∷ record { kind = Start; core = record { number = 3 }; life = 1; number = 0; parts = [] } ∷ []
unfolding computing
messages_sent = refl
