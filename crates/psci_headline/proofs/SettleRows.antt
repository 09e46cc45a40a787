-- Worked examples: which events happen as the world settles, which lives are halting, and which
-- messages have one name, and where the newest one of a name stands.
use Rattle.std.proofs.Common.{◌++◌, ℕ, Bool, List, [], ◌∷◌, true, false, map, reverse, refl, None}
use Rattle.std.proofs.Common.{Some}
use Rattle.psci_board.specs.Board.{BoardValue}
use Rattle.psci_board.proofs.Tables.{◌⇒◌, Gives, Row}
use Rattle.psci_headline.specs.psci_world_spec.declared.event.Event.{Event}
use Rattle.psci_headline.specs.psci_world_spec.declared.event.Event.TheVariants.{Enter, Reset}
use Rattle.psci_headline.specs.psci_world_spec.declared.event.Event.TheVariants.{Deliver, Take}
use Rattle.psci_headline.specs.Settling.{is_halting, settled, has_name, index_of}
use Rattle.psci_headline.proofs.world_spec.Scripts.{board, call, off, on_3, one_core, system_off}
use Rattle.psci_headline.proofs.world_spec.Scripts.{system_reset, tall, part}
use Rattle.psci_headline.proofs.Histories.{both_os_initiated, after, on_in_life_2, third_on}
use Rattle.psci_headline.proofs.Untold.{computing}
use Rattle.psci_ctl_spec.specs.psci_messages.declared.kind.Kind.{Kind}
use Rattle.psci_ctl_spec.specs.psci_messages.declared.kind.Kind.TheVariants.{Down, Start}
use Rattle.psci_ctl_spec.specs.psci_messages.Message.{MessageValue}

-- all events once the world has settled after these, and the rounds that it took
abbrev settling : BoardValue → List Event → (List Event × ℕ)
settling b first =
    let world = settled b (after b first) in
    (reverse (map (λ r. r.event) world.past), world.rounds)

-- after those events these happen, in so many rounds
abbrev Settle : List Event → List Event → ℕ → Row (List Event) (List Event × ℕ)
Settle first more count = record { given = first; comes = (first ++ more, count) }

-- core 3 and then core 0 are suspended with all their domains, and nothing was delivered
abbrev both_sleep : List Event
both_sleep = Enter 0 ∷ on_3 ∷ call 0 0xc4000004 0x101 0 0 ∷ Deliver 0 ∷ Enter 3
    ∷ call 3 0xc4000001 0x02010333 0x40004000 2 ∷ call 0 0xc4000001 0x02010333 0x40000100 0 ∷ []

-- all four cores are suspended with all their domains, and the first one is the last to go
abbrev all_sleep : List Event
all_sleep = Enter 0 ∷ call 0 0xc4000003 0x1 0x40001000 1 ∷ call 0 0xc4000003 0x100 0x40001000 2
    ∷ on_3 ∷ Deliver 0 ∷ Deliver 1 ∷ Deliver 2 ∷ Enter 1 ∷ Enter 2 ∷ Enter 3
    ∷ call 1 0xc4000001 0x02010333 0x40004000 1 ∷ call 3 0xc4000001 0x02010333 0x40004000 3
    ∷ call 2 0xc4000001 0x02010333 0x40004000 2 ∷ call 0 0xc4000001 0x02010333 0x40000100 0 ∷ []

-- the same on three levels
abbrev tall_sleep : List Event
tall_sleep = Enter 0 ∷ call 0 0xc4000003 0x100 0x40001000 1
    ∷ call 0 0xc4000003 0x10000 0x40001000 2 ∷ call 0 0xc4000003 0x10100 0x40001000 3 ∷ Deliver 0
    ∷ Deliver 1 ∷ Deliver 2 ∷ Enter 1 ∷ Enter 2 ∷ Enter 3
    ∷ call 1 0xc4000001 0x03013333 0x40004000 1 ∷ call 3 0xc4000001 0x03013333 0x40004000 3
    ∷ call 2 0xc4000001 0x03013333 0x40004000 2 ∷ call 0 0xc4000001 0x03013333 0x40000100 0 ∷ []

-- the boot core enters, and nothing waits
settles_at_once : Gives (settling board) (Settle [] (Enter 0 ∷ []) 0 ∷ [])
unfolding computing
settles_at_once = refl

settles : Gives (settling board)
    -- two_rounds: the system waits for the cluster, so it takes two rounds
    (Settle both_sleep (Deliver 2 ∷ Take 1 ∷ Deliver 1 ∷ Take 2 ∷ Deliver 2 ∷ Take 3 ∷ []) 2
    -- three_rounds: the cluster of core 0 waits for core 1, and the system for the other cluster,
    -- which waits for core 3. So it takes three rounds, one for each level
    ∷ Settle all_sleep (Deliver 6 ∷ Take 3 ∷ Deliver 3 ∷ Take 4 ∷ Deliver 5 ∷ Take 5 ∷ Deliver 4
    ∷ Take 6 ∷ Deliver 6 ∷ Take 7 ∷ Deliver 5 ∷ Take 8 ∷ Deliver 6 ∷ Take 9 ∷ []) 3
    -- the last core's Down is served too
    ∷ Settle (third_on ++ off 3 ∷ []) (Deliver 1 ∷ Take 1 ∷ []) 1
    -- a core that was reset enters and parks first, and then its new Down is served
    ∷ Settle (third_on ++ Reset 3 ∷ []) (Enter 3 ∷ Deliver 1 ∷ Take 1 ∷ []) 1
    -- two Downs of one core and two Starts: the newest is served
    ∷ Settle (third_on ++ off 3 ∷ Deliver 1 ∷ Take 1 ∷ on_3 ∷ []) (Deliver 2 ∷ Take 2 ∷ Enter 3
    ∷ []) 0
    -- os_initiated: OS-initiated mode: core 3 is suspended alone, and core 2 with their cluster
    ∷ Settle (both_os_initiated ++ call 3 0xc4000001 0x00010003 0x40003000 1
    ∷ call 2 0xc4000001 0x01010033 0x40004000 2 ∷ []) (Deliver 3 ∷ Take 2 ∷ Deliver 2 ∷ Take 3
    ∷ Deliver 3 ∷ Take 4 ∷ []) 2
    -- second_life: a core of the first life is forgotten, and its Down is not served
    ∷ Settle (third_on ++ off 3 ∷ system_reset 0 ∷ Deliver 2 ∷ Enter 0
    ∷ call 0 0xc4000003 0x1 0x40001000 0 ∷ []) (Deliver 3 ∷ Take 2 ∷ Enter 1 ∷ []) 0 ∷ [])
unfolding computing
settles = refl

settles_on_one_core : Gives (settling one_core)
    -- one_level: on a board of one level above the core a Down is served once, from standby too
    (Settle (Enter 0 ∷ call 0 0xc4000001 0x01000011 0 0 ∷ []) (Deliver 0 ∷ Take 0 ∷ []) 1 ∷ [])
unfolding computing
settles_on_one_core = refl

settles_on_three_levels : Gives (settling tall)
    -- three_levels: each group waits for its other core, and the system for the other group
    (Settle tall_sleep (Deliver 6 ∷ Take 3 ∷ Deliver 3 ∷ Take 4 ∷ Deliver 5 ∷ Take 5 ∷ Deliver 4
    ∷ Take 6 ∷ Deliver 6 ∷ Take 7 ∷ Deliver 5 ∷ Take 8 ∷ Deliver 6 ∷ Take 9 ∷ []) 3 ∷ [])
unfolding computing
settles_on_three_levels = refl

abbrev halts : List Event → Bool
halts events = is_halting board (after board events)

halting : Gives halts
    -- the system is off
    ((Enter 0 ∷ system_off 0 ∷ Deliver 0 ∷ []) ⇒ true
    -- the second life has begun, after one that halted, before and after its first entry
    ∷ (Enter 0 ∷ system_reset 0 ∷ Deliver 0 ∷ []) ⇒ false
    ∷ (Enter 0 ∷ system_reset 0 ∷ Deliver 0 ∷ Enter 0 ∷ []) ⇒ false
    -- and it halts in the second life, by another core
    ∷ (on_in_life_2 ++ system_off 3 ∷ []) ⇒ true ∷ [])
unfolding computing
halting = refl

-- a message: kind, core, life, number
abbrev named : Kind → ℕ → ℕ → ℕ → MessageValue
named kind core life number = record {
  kind = kind;
  core = record { number = core };
  life = life;
  number = number;
  parts = part 0 3 number ∷ [];
}

-- its kind, core, life and number are its name, and its parts are not
names : Gives (has_name (named Down 3 2 5))
    (named Down 3 2 5 ⇒ true
    ∷ record (named Down 3 2 5) { parts = [] } ⇒ true
    ∷ named Start 3 2 5 ⇒ false
    ∷ named Down 2 2 5 ⇒ false
    ∷ named Down 3 1 5 ⇒ false
    ∷ named Down 3 2 4 ⇒ false ∷ [])
names = refl

-- the newest message stands first in the list, and the oldest has index 0
indexes : Gives (index_of (named Down 3 2 5))
    ((named Start 0 2 5 ∷ named Down 3 2 5 ∷ named Down 3 1 5 ∷ named Down 3 2 5 ∷ []) ⇒ Some 2
    ∷ (named Down 3 2 6 ∷ named Down 3 2 5 ∷ []) ⇒ Some 0
    ∷ (named Down 3 2 6 ∷ named Down 3 1 5 ∷ []) ⇒ None ∷ [])
indexes = refl
