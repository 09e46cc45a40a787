-- Worked examples: which clauses fail after acts, what is seen of a core then, and what it takes
-- up; of the boot core and of another one, in life 1 and in life 2. What breaks a clause breaks it
-- alone.
use Rattle.std.proofs.Common.{◌∷◌, ◌++◌, [], false, None, Option, refl, Some, true, ℕ, Bool, List}
use Rattle.psci_board.proofs.Tables.{◌⇒◌, Gives, Row}
use Rattle.psci_port.specs.Stages.{Stage, Standing, AtDoor, Leaving, Normal, Armed, Woken}
use Rattle.psci_port.specs.Port.{Act, Locks, Unlocks, Finishes, TakesUp, Stands, Arms, Sleeps}
use Rattle.psci_port.specs.Port.{Cuts, Opens, Reboots, Resets, Restarts, Rises, Rouses, Turns}
use Rattle.psci_port.specs.Port.{Wakes, stage_at}
use Rattle.psci_port.proofs.Playing.{Alone, Awake, ByWord, Clause, Entered, Free, Holder, Powered}
use Rattle.psci_port.proofs.Playing.{Stood, Whole, after, asks, comes, delivers, door, failing}
use Rattle.psci_port.proofs.Playing.{off_3, off_called, on_3, playing, takes_last_start}

-- the rows of each of some cases
abbrev each : {A B : Type 0} → (A → List B) → List A → List B
each of [] = []
each of (x ∷ xs) = of x ++ each of xs

-- the boot core comes, has core 3 started by the message of this number, and core 3 comes
abbrev pub both_come : ℕ → List Act
both_come k = door 0 ++ comes 0
    ++ (Locks 0 ∷ asks 0 0xc4000003 0x101 0x40001000 7 ∷ Finishes 0 ∷ Unlocks 0 ∷ delivers k ∷ [])
    ++ door 3 ++ comes 3

-- the boot core comes, and has the system reset
abbrev pub life_1 : List Act
life_1 = door 0 ++ comes 0
    ++ (Locks 0 ∷ asks 0 0x84000009 0 0 0 ∷ Finishes 0 ∷ Unlocks 0 ∷ delivers 0 ∷ [])

-- a core's CPU_OFF is answered: it is in the monitor, with the lock
abbrev pub off_by : ℕ → List Act
off_by c = Locks c ∷ asks c 0x84000002 0 0 0 ∷ Finishes c ∷ []

-- it stands, its Down of this number is carried out, and its power goes
abbrev dark : ℕ → ℕ → List Act
dark c k = off_by c ++ (Unlocks c ∷ Stands c ∷ delivers k ∷ Cuts 0 c ∷ [])

-- an interrupt brings it back, it takes the lock and hears its own wake-up
abbrev risen : ℕ → ℕ → List Act
risen c k = dark c k ++ (Rouses c ∷ Locks c ∷ Rises c ∷ [])

-- acts after which a core runs beside another one, and the number of the next message
abbrev Case : Type 0
Case = List Act × ℕ × ℕ × ℕ

abbrev cases : List Case
cases =
    -- another_core: core 3
    (both_come 0, 3, 0, 1)
    -- boot_core: the boot core
    ∷ (both_come 0, 0, 3, 1)
    -- another_core_in_life_2: core 3 after a reset of the system
    ∷ (life_1 ++ both_come 1, 3, 0, 2)
    -- boot_core_in_life_2: the boot core after it
    ∷ (life_1 ++ both_come 1, 0, 3, 2)
    ∷ []

-- What breaks each clause ------------------------------------------------------------------------

abbrev wrong : Case → List (Row (List Act) (List Clause))
wrong (on, c, d, k) =
    -- down_in_the_monitor: its Down is carried out while it is in the monitor
    ((on ++ off_by c ++ (delivers k ∷ [])) ⇒ (Awake ∷ []))
    -- cut_before_its_wfi: it is armed, and its power goes before its WFI
    ∷ ((on ++ off_by c ++ (Arms c ∷ delivers k ∷ Cuts 0 c ∷ [])) ⇒ (Powered ∷ []))
    -- stands_with_the_lock: it stands, and has the lock
    ∷ ((on ++ off_by c ++ (Stands c ∷ [])) ⇒ (Holder ∷ []))
    -- unlocks_inside: it gives the lock back inside a call
    ∷ ((on ++ (Locks c ∷ asks c 0x84000000 0 0 0 ∷ Unlocks c ∷ [])) ⇒ (Free ∷ []))
    -- locks_beside_a_call: it takes the lock while the other core is inside a call
    ∷ ((on ++ (Locks d ∷ asks d 0x84000000 0 0 0 ∷ Locks c ∷ [])) ⇒ (Whole ∷ []))
    -- both_inside: and begins a call there
    ∷ ((on ++ (Locks d ∷ asks d 0x84000000 0 0 0 ∷ Locks c ∷ asks c 0x84000000 0 0 0 ∷ []))
    ⇒ (Alone ∷ []))
    -- enters_twice: it stands, and takes up again the start that it used
    ∷ ((on ++ off_by c ++ (Unlocks c ∷ Stands c ∷ TakesUp c ∷ [])) ⇒ (ByWord ∷ []))
    -- stands_at_its_door: it was reset, and says that it stands without a start taken up
    ∷ ((on ++ (Resets c ∷ Stands c ∷ [])) ⇒ (Stood ∷ []))
    -- enters_by_an_old_start: it was reset, and takes up the start before
    ∷ ((on ++ (Resets c ∷ TakesUp c ∷ [])) ⇒ (Entered ∷ []))
    ∷ []

each_wrong : Gives failing (each wrong cases)
unfolding playing
each_wrong = refl

abbrev right : Case → List (Row (List Act) (List Clause))
right (on, c, d, k) =
    -- goes_off: it gives the lock back, stands, and loses its power
    ((on ++ off_by c ++ (Unlocks c ∷ Stands c ∷ delivers k ∷ Cuts 0 c ∷ [])) ⇒ [])
    -- comes_back: it is brought back, turns to its door, and comes
    ∷ ((on ++ risen c k ++ (Unlocks c ∷ Turns c ∷ []) ++ door c ++ comes c) ⇒ [])
    -- goes_off_armed: it is armed, sleeps, and loses its power
    ∷ ((on ++ off_by c ++ (Arms c ∷ delivers k ∷ Unlocks c ∷ Sleeps c ∷ Cuts 0 c ∷ [])) ⇒ [])
    -- is_inside: it is inside a call, with the lock
    ∷ ((on ++ (Locks c ∷ asks c 0x84000000 0 0 0 ∷ [])) ⇒ [])
    -- has_called: its call has ended, and it has the lock
    ∷ ((on ++ (Locks c ∷ asks c 0x84000000 0 0 0 ∷ Finishes c ∷ [])) ⇒ [])
    -- gives_back: and gives it back
    ∷ ((on ++ (Locks c ∷ asks c 0x84000000 0 0 0 ∷ Finishes c ∷ Unlocks c ∷ [])) ⇒ [])
    -- takes_its_last_up: it is reset, and takes up its last start
    ∷ ((on ++ (Resets c ∷ []) ++ door c ++ (TakesUp c ∷ [])) ⇒ [])
    -- parks: it comes by that, and stands
    ∷ ((on ++ (Resets c ∷ []) ++ door c ++ comes c ++ (Stands c ∷ [])) ⇒ [])
    ∷ []

each_right : Gives failing (each right cases)
unfolding playing
each_right = refl

-- What a core takes up ---------------------------------------------------------------------------

-- whether core c takes up its last start after these acts
abbrev taken : Case → List (Row (List Act × ℕ) Bool)
taken (on, c, d, k) =
    -- its_last: it was reset, and its door is open for that
    ((on ++ (Resets c ∷ []) ++ door c, c) ⇒ true)
    -- an_old_one: its door is open for the start before
    ∷ ((on ++ (Resets c ∷ []), c) ⇒ false)
    -- unwritten: its door is open for its start, before that is written
    ∷ ((on ++ (Resets c ∷ Opens c ∷ []), c) ⇒ false)
    -- used: it used that start, and stands
    ∷ ((on ++ off_by c ++ (Unlocks c ∷ Stands c ∷ []), c) ⇒ false)
    ∷ []

each_taken : Gives takes_last_start (each taken cases)
unfolding playing
each_taken = refl

-- Cuts at each level -----------------------------------------------------------------------------

-- core 3 is off, and the boot core's CPU_OFF is answered: it is the last one
abbrev pub last_off : List Act
last_off = both_come 0 ++ off_by 3 ++ (Unlocks 3 ∷ Stands 3 ∷ delivers 1 ∷ []) ++ off_by 0

cuts : Gives failing
    -- core_cut: a core that is armed loses its power
    ((last_off ++ (Arms 0 ∷ delivers 2 ∷ Cuts 0 0 ∷ [])) ⇒ (Powered ∷ [])
    -- cluster_cut: its cluster does
    ∷ (last_off ++ (Arms 0 ∷ delivers 2 ∷ Cuts 1 0 ∷ [])) ⇒ (Powered ∷ [])
    -- system_cut: the system does
    ∷ (last_off ++ (Arms 0 ∷ delivers 2 ∷ Cuts 2 0 ∷ [])) ⇒ (Powered ∷ [])
    -- core_dark: the core stands, and loses its power
    ∷ (last_off ++ (Unlocks 0 ∷ Stands 0 ∷ delivers 2 ∷ Cuts 0 0 ∷ [])) ⇒ []
    -- cluster_dark: its cluster does
    ∷ (last_off ++ (Unlocks 0 ∷ Stands 0 ∷ delivers 2 ∷ Cuts 1 0 ∷ [])) ⇒ []
    -- system_dark: the system does
    ∷ (last_off ++ (Unlocks 0 ∷ Stands 0 ∷ delivers 2 ∷ Cuts 2 0 ∷ [])) ⇒ [] ∷ [])
unfolding playing
cuts = refl

-- core 3 was the last one of its cluster, and core 2 had not stood: its Down leaves the cluster
abbrev leaves_its_cluster : List Act
leaves_its_cluster = on_3 ++ door 3 ++ comes 3
    ++ (Locks 0 ∷ asks 0 0xc4000003 0x100 0x40002000 1 ∷ Finishes 0 ∷ Unlocks 0 ∷ delivers 1 ∷ [])
    ++ door 2 ++ comes 2
    ++ (Locks 2 ∷ asks 2 0x84000002 0 0 0 ∷ Finishes 2 ∷ Unlocks 2 ∷ [])
    ++ (Locks 3 ∷ asks 3 0x84000002 0 0 0 ∷ Finishes 3 ∷ Unlocks 3 ∷ Stands 3 ∷ delivers 3 ∷ [])

-- core 2 carries out its own Down, and then the rest of that one
abbrev carried_out_by_2 : List Act
carried_out_by_2 = leaves_its_cluster ++ (Locks 2 ∷ Arms 2 ∷ delivers 2 ∷ delivers 3 ∷ [])

left_over : Gives {B = ℕ × ℕ}
    (λ acts. ((after acts).values.depth 0 3, (after acts).values.depth 1 1))
    (leaves_its_cluster ⇒ (3, 0) ∷ carried_out_by_2 ⇒ (3, 3) ∷ [])
unfolding playing
left_over = refl

-- core 3 comes back out of its wait, in the dark; and others start it meanwhile
abbrev roused : List Act
roused = off_3 ++ (delivers 1 ∷ Cuts 0 3 ∷ Cuts 1 1 ∷ Rouses 3 ∷ [])

abbrev pub started_meanwhile : List Act
started_meanwhile = roused ++ (Wakes 3 ∷ [])

-- the power of a cluster that an armed core left, or comes back to
more_cuts : Gives failing
    ((carried_out_by_2 ++ (Cuts 1 1 ∷ [])) ⇒ (Powered ∷ [])
    ∷ (carried_out_by_2 ++ (Unlocks 2 ∷ Sleeps 2 ∷ Cuts 1 1 ∷ [])) ⇒ []
    ∷ (roused ++ (Cuts 1 1 ∷ [])) ⇒ (Powered ∷ [])
    ∷ (off_called ++ (Arms 3 ∷ Rises 3 ∷ Cuts 0 3 ∷ [])) ⇒ (Powered ∷ [])
    ∷ (off_called ++ (Arms 3 ∷ Rises 3 ∷ [])) ⇒ []
    ∷ (started_meanwhile ++ (Locks 3 ∷ Cuts 0 3 ∷ [])) ⇒ (Powered ∷ [])
    ∷ (started_meanwhile ++ (Locks 3 ∷ Unlocks 3 ∷ Turns 3 ∷ []) ++ door 3 ++ comes 3) ⇒ []
    ∷ (started_meanwhile ++ door 3 ++ comes 3) ⇒ [] ∷ [])
unfolding playing
more_cuts = refl

-- Resets -----------------------------------------------------------------------------------------

-- core 3 is inside a call, with the lock
abbrev inside_3 : List Act
inside_3 = Locks 3 ∷ asks 3 0x84000002 0 0 0 ∷ []

-- it is, as the boot core's SYSTEM_RESET or SYSTEM_OFF is delivered
abbrev pub system_ends : ℕ → List Act
system_ends function = both_come 0
    ++ (Locks 0 ∷ asks 0 function 0 0 0 ∷ Finishes 0 ∷ Unlocks 0 ∷ []) ++ inside_3
    ++ (delivers 1 ∷ [])

-- the boot core is off in the dark, as core 3 has the system reset
abbrev pub reset_in_the_dark : List Act
reset_in_the_dark = both_come 0 ++ off_by 0
    ++ (Unlocks 0 ∷ Stands 0 ∷ delivers 1 ∷ Cuts 0 0 ∷ Cuts 1 0 ∷ Locks 3
    ∷ asks 3 0x84000009 0 0 0 ∷ Finishes 3 ∷ Unlocks 3 ∷ delivers 2 ∷ [])

-- all but the power controller is reset there, though nobody asked, and once more in life 2
abbrev pub torn_and_gone_on : List Act
torn_and_gone_on = both_come 0 ++ inside_3 ++ (Reboots ∷ [])

abbrev pub torn_twice : List Act
torn_twice = torn_and_gone_on ++ door 0 ++ comes 0
    ++ (Locks 0 ∷ asks 0 0x84000000 0 0 0 ∷ Reboots ∷ [])

-- the boot core is inside a call, as the power controller does something else, and gives the lock
-- back there
abbrev torn_beside : List Act → List Act
torn_beside acts = Locks 0 ∷ asks 0 0x84000000 0 0 0 ∷ (acts ++ (Unlocks 0 ∷ []))

-- a firmware is torn by the reset of its core alone, and a new life alone mends it
torn : Gives failing
    ((both_come 0 ++ inside_3 ++ (Resets 3 ∷ [])) ⇒ (Holder ∷ Whole ∷ [])
    ∷ (both_come 0 ++ inside_3 ++ (Restarts ∷ [])) ⇒ []
    ∷ system_ends 0x84000009 ⇒ [] ∷ system_ends 0x84000008 ⇒ []
    ∷ reset_in_the_dark ⇒ [] ∷ torn_and_gone_on ⇒ [] ∷ torn_twice ⇒ []
    ∷ (both_come 0 ++ torn_beside (delivers 0 ∷ [])) ⇒ (Free ∷ [])
    ∷ (off_3 ++ torn_beside (delivers 1 ∷ [])) ⇒ (Free ∷ [])
    ∷ (off_3 ++ torn_beside (Wakes 3 ∷ [])) ⇒ (Free ∷ []) ∷ [])
unfolding playing
torn = refl

-- What is seen -----------------------------------------------------------------------------------

-- where a core is after some acts, how deep it was taken down, whether it has no power, and who has
-- the lock
abbrev seen : List Act × ℕ → Stage × ℕ × Bool × Option ℕ
seen (acts, c) =
    let p = after acts in (stage_at p c, p.values.depth 0 c, p.cut 0 c, p.lock)

abbrev seen_back : Case → List (Row (List Act × ℕ) (Stage × ℕ × Bool × Option ℕ))
seen_back (on, c, d, k) =
    ((on ++ off_by c, c) ⇒ (Leaving, 0, false, Some c))
    ∷ ((on ++ dark c k, c) ⇒ (Standing, 3, true, None))
    ∷ ((on ++ dark c k ++ (Rouses c ∷ []), c) ⇒ (Armed, 3, false, None))
    ∷ ((on ++ risen c k, c) ⇒ (Woken, 0, false, Some c))
    ∷ ((on ++ risen c k ++ (Unlocks c ∷ Turns c ∷ []), c) ⇒ (AtDoor, 0, false, None))
    ∷ ((on ++ dark c k ++ (Wakes c ∷ []), c) ⇒ (AtDoor, 0, false, None)) ∷ []

each_seen : Gives seen (each seen_back cases)
unfolding playing
each_seen = refl

-- a wake-up before the Down, one that is heard armed, others' before the interrupt and after it; a
-- reset of an armed core; and no wake-up of a core that runs
more_seen : Gives seen
    ((off_3 ++ (Wakes 3 ∷ delivers 1 ∷ []), 3) ⇒ (AtDoor, 0, false, None)
    ∷ (off_called ++ (Arms 3 ∷ Rises 3 ∷ []), 3) ⇒ (Woken, 0, false, Some 3)
    ∷ (off_called ++ (Arms 3 ∷ delivers 1 ∷ Rises 3 ∷ []), 3) ⇒ (Woken, 0, false, Some 3)
    ∷ (started_meanwhile, 3) ⇒ (Woken, 0, false, None)
    ∷ (off_3 ++ (delivers 1 ∷ Wakes 3 ∷ Rouses 3 ∷ []), 3) ⇒ (Woken, 0, false, None)
    ∷ (roused ++ (Resets 3 ∷ []), 3) ⇒ (AtDoor, 0, false, None)
    ∷ (both_come 0 ++ (Wakes 3 ∷ []), 3) ⇒ (Normal, 0, false, None)
    ∷ (both_come 0 ++ (Locks 3 ∷ Rises 3 ∷ []), 3) ⇒ (Normal, 0, false, Some 3) ∷ [])
unfolding playing
more_seen = refl

-- the power of each core and cluster
abbrev powers : List Act → List Bool
powers acts =
    let p = after acts in
    p.cut 0 0 ∷ p.cut 0 1 ∷ p.cut 0 2 ∷ p.cut 0 3 ∷ p.cut 1 0 ∷ p.cut 1 1 ∷ p.cut 2 0 ∷ []

-- an interrupt brings back the power of its core's path, and so does a start
brings_its_path : Gives powers
    ((off_3 ++ (delivers 1 ∷ Cuts 0 3 ∷ Cuts 1 1 ∷ []))
    ⇒ (false ∷ true ∷ true ∷ true ∷ false ∷ true ∷ false ∷ [])
    ∷ roused ⇒ (false ∷ true ∷ true ∷ false ∷ false ∷ false ∷ false ∷ [])
    ∷ (off_3 ++ (delivers 1 ∷ Cuts 0 3 ∷ Cuts 1 1 ∷ Wakes 3 ∷ []))
    ⇒ (false ∷ true ∷ true ∷ false ∷ false ∷ false ∷ false ∷ []) ∷ [])
unfolding playing
brings_its_path = refl
