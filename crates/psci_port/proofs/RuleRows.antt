-- Worked examples: acts that the rules of a port refuse, and some that they allow; which acts are
-- due, of the boot core and of another one, in life 1 and in life 2; and which never are.
use Rattle.std.proofs.Common.{◌++◌}
use Rattle.std.specs.Prelude.{is_some}
use Rattle.psci_ctl_spec.specs.psci_messages.declared.kind.Kind.TheVariants as kinds
use Rattle.psci_world_spec.specs.declared.said.Said.TheVariants.{Absent}
use Rattle.psci_world_spec.proofs.Scripts.{board, limited}
use Rattle.psci_port.specs.Resting.{Goes}
use Rattle.psci_port.proofs.Words.{◌∷◌, ◌≡◌, [], Act, AreTrue, arith, Armed, Arms, blank, cold}
use Rattle.psci_port.proofs.Words.{Cuts, Delivers, Entering, Enters, false≢true, Finishes}
use Rattle.psci_port.proofs.Words.{is_entering, IsDue, IsPortRun, List, Locks, May, None, none-some}
use Rattle.psci_port.proofs.Words.{Opens, Option, Port, Reboots, Record, refl, Resets, Restarts}
use Rattle.psci_port.proofs.Words.{Rises, Rouses, Sleeps, Some, Stage, Stands, Start, Takes}
use Rattle.psci_port.proofs.Words.{TakesUp, true, Turns, Unlocks, Wakes, with_row, Writes, ℕ}
use Rattle.psci_port.proofs.CellRows.{both_come, last_off, life_1, off_by, started_meanwhile}
use Rattle.psci_port.proofs.Playing.{after, asks, comes, delivers, door, down_3, of_3, off_3}
use Rattle.psci_port.proofs.Playing.{off_called, on_3, playing}

-- What is refused --------------------------------------------------------------------------------

-- this act is refused in a port, and after these acts
abbrev RefusedIn : Port → Act → Type 0
RefusedIn p act = May board p act → ⊥

abbrev Refused : List Act → Act → Type 0
Refused acts act = RefusedIn (after acts) act

-- a start is taken up once, at an open door, by a core that was started and is not held; a door is
-- written before it is opened; what switches a core waits until that stands, and a start for the
-- lock
at_its_door :
    Refused off_3 (TakesUp 3)
    × Refused (on_3 ++ door 3 ++ (Resets 3 ∷ [])) (TakesUp 3)
    × RefusedIn (with_row (after on_3) 0 (record ((after on_3).row 0) { opened = 2 })) (TakesUp 0)
    × Refused (off_called ++ (Arms 3 ∷ Rises 3 ∷ []) ++ door 3) (TakesUp 3)
    × Refused (started_meanwhile ++ (Locks 3 ∷ []) ++ door 3) (TakesUp 3)
    × Refused on_3 (Opens 3)
    × Refused (on_3 ++ door 3) (Writes 3)
    × Refused off_called (Delivers 1 down_3)
    × Refused off_called (Delivers 9 (of_3 kinds.Start 1 []))
    × Refused (off_called ++ (Arms 3 ∷ [])) (Delivers 9 (of_3 kinds.Start 1 []))
unfolding playing
at_its_door = search arith

abbrev off_0 : List Act
off_0 = door 0 ++ comes 0 ++ off_by 0

abbrev off_in_life_2 : List Act
off_in_life_2 = life_1 ++ both_come 1 ++ off_by 3

-- an interrupt brings back none that runs; an armed core hears its wake-up with the lock in hand,
-- and turns to its door without: the boot core and another one, in life 2 too, and of the board
by_itself :
    Refused off_called (Rouses 3)
    × Refused off_0 (Rouses 0)
    × Refused [] (Rouses 4)
    × Refused off_called (Rises 3)
    × Refused (started_meanwhile ++ (Locks 3 ∷ [])) (Rises 3)
    × Refused (off_called ++ (Arms 3 ∷ Unlocks 3 ∷ [])) (Rises 3)
    × Refused (off_0 ++ (Arms 0 ∷ Unlocks 0 ∷ [])) (Rises 0)
    × Refused (off_in_life_2 ++ (Arms 3 ∷ Unlocks 3 ∷ [])) (Rises 3)
    × RefusedIn (record (with_row (after []) 4 (blank Armed)) { lock = Some 4 }) (Rises 4)
    × Refused on_3 (Turns 0)
    × Refused (off_called ++ (Arms 3 ∷ Rises 3 ∷ [])) (Turns 3)
    × Refused (off_0 ++ (Arms 0 ∷ Rises 0 ∷ [])) (Turns 0)
    × Refused (off_in_life_2 ++ (Arms 3 ∷ Rises 3 ∷ [])) (Turns 3)
unfolding playing
by_itself = search arith

abbrev armed_0 : List Act
armed_0 = last_off ++ (Arms 0 ∷ delivers 2 ∷ [])

-- power goes from nothing that is on, and from nothing above an armed core, at each level; and no
-- life follows on none, or on the last
power_stays :
    Refused off_3 (Cuts 0 3)
    × Refused (off_called ++ (Arms 3 ∷ delivers 1 ∷ [])) (Cuts 1 1)
    × Refused armed_0 (Cuts 0 0)
    × Refused armed_0 (Cuts 1 0)
    × Refused armed_0 (Cuts 2 0)
    × RefusedIn (record (after []) { values = record ((after []).values) { life = None } }) Reboots
    × RefusedIn (record (after []) { values = record ((after []).values) { life = Some 3 } })
    Reboots
    × (May (limited 0 3) (cold (limited 0 3) []) Reboots → ⊥)
unfolding playing
power_stays = search arith

-- What is allowed --------------------------------------------------------------------------------

-- a start that starts nobody waits for nothing, though its core has the lock; one that was started
-- meanwhile takes the lock all the same, or its start up at once
allowed :
    May board (after off_called) (Delivers 9 (of_3 kinds.Start 0 []))
    × May board (after started_meanwhile) (Locks 3)
    × May board (after (started_meanwhile ++ door 3)) (TakesUp 3)
    × IsPortRun board (TakesUp 0 ∷ Opens 0 ∷ Writes 0 ∷ [])
    × AreTrue board (TakesUp 0 ∷ Opens 0 ∷ Writes 0 ∷ [])
unfolding playing
allowed = search arith

-- What is due ------------------------------------------------------------------------------------

-- due after these acts
abbrev Due : List Act → Act → Type 0
Due acts act = IsDue board (after acts) act

-- A core that runs after some acts is reset, and goes its way into the firmware; it ends a call
-- there, and gives the lock back; it goes off, and stands; or it is armed and sleeps, or wakes
-- itself.
abbrev DueOf : List Act → ℕ → Type 0
DueOf on c =
    Due (on ++ (Resets c ∷ [])) (Writes c)
    × Due (on ++ (Resets c ∷ Writes c ∷ [])) (Opens c)
    × Due (on ++ (Resets c ∷ []) ++ door c) (TakesUp c)
    × Due (on ++ (Resets c ∷ []) ++ door c ++ (TakesUp c ∷ [])) (Locks c)
    × Due (on ++ (Resets c ∷ []) ++ door c ++ (TakesUp c ∷ Locks c ∷ [])) (Enters c Absent)
    × Due (on ++ (Locks c ∷ asks c 0x84000000 0 0 0 ∷ [])) (Finishes c)
    × Due (on ++ (Locks c ∷ asks c 0x84000000 0 0 0 ∷ Finishes c ∷ [])) (Unlocks c)
    × Due (on ++ off_by c) (Arms c)
    × Due (on ++ off_by c ++ (Unlocks c ∷ [])) (Stands c)
    × Due (on ++ off_by c ++ (Arms c ∷ [])) (Unlocks c)
    × Due (on ++ off_by c ++ (Arms c ∷ Unlocks c ∷ [])) (Sleeps c)
    × Due (on ++ off_by c ++ (Arms c ∷ Rises c ∷ [])) (Unlocks c)
    × Due (on ++ off_by c ++ (Arms c ∷ Rises c ∷ Unlocks c ∷ [])) (Turns c)

-- the call that it ends, and the start that it enters by
begun : (o : Option Record) → is_some o ≡ true → (r : Record) × (o ≡ Some r)
begun None e = absurd (false≢true e)
begun (Some r) e = (r, refl)

entering : (y : Stage) → is_entering y ≡ true → (s : Start) × (y ≡ Entering s)
entering (Entering s) e = (s, refl)
entering y e = absurd (false≢true e)

core_3_is_due : DueOf (both_come 0) 3
unfolding playing
core_3_is_due = search (arith, none-some, begun, entering)

boot_core_is_due : DueOf (both_come 0) 0
unfolding playing
boot_core_is_due = search (arith, none-some, begun, entering)

core_3_is_due_in_life_2 : DueOf (life_1 ++ both_come 1) 3
unfolding playing
core_3_is_due_in_life_2 = search (arith, none-some, begun, entering)

boot_core_is_due_in_life_2 : DueOf (life_1 ++ both_come 1) 0
unfolding playing
boot_core_is_due_in_life_2 = search (arith, none-some, begun, entering)

-- What never is ----------------------------------------------------------------------------------

-- after these acts a port does not do this by itself
abbrev Never : List Act → Act → Type 0
Never acts act = Goes board (after acts) act → ⊥

-- frames, wake-ups, interrupts, cuts, resets and calls come from outside
from_outside :
    Never on_3 (Takes 0 0 Absent) × Never on_3 (Takes 3 0 Absent)
    × Never on_3 (Wakes 0) × Never on_3 (Wakes 3)
    × Never on_3 (Resets 0) × Never on_3 (Resets 3)
    × Never on_3 (Rouses 0) × Never on_3 (Rouses 3)
    × Never on_3 (Rises 0) × Never on_3 (Rises 3)
    × Never on_3 (Cuts 1 0) × Never on_3 (Cuts 1 3)
    × Never on_3 Restarts × Never on_3 Reboots
    × Never on_3 (asks 0 0x84000000 0 0 0)
from_outside = search arith

-- a core on its way in keeps the lock, one of the normal world takes none; and what stands at a
-- door is not written again, nor what is open opened
once :
    Never (door 0 ++ (TakesUp 0 ∷ Locks 0 ∷ [])) (Unlocks 0)
    × Never on_3 (Locks 0)
    × Never (Writes 0 ∷ []) (Writes 0)
    × Never (door 0) (Opens 0)
unfolding playing
once = search arith
