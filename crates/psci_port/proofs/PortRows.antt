-- Worked examples: what a port has written down after acts, which messages wait there, what a life
-- leaves as it ends or begins, and which acts and runs count.
use Rattle.std.proofs.Common.{◌++◌, map, reverse}
use Rattle.std.proofs.lemmas.Bool.{eqb-false}
use Rattle.psci_board.proofs.Tables.{◌⇒◌, Gives}
use Rattle.psci_ctl_spec.specs.psci_messages.declared.kind.Kind.TheVariants.{Down, Reset, Start}
use Rattle.psci_ctl_spec.specs.psci_messages.declared.start.Cause.TheVariants as causes
use Rattle.psci_ctl_spec.specs.declared.call.CtlCall.TheVariants as asked
use Rattle.psci_world_spec.specs.declared.said.Said.TheVariants.{Ignored}
use Rattle.psci_world_spec.proofs.Scripts.{acked, asks_on, board, enters as enters_at, goes_down}
use Rattle.psci_world_spec.proofs.Scripts.{part, resumes, system_reset}
use Rattle.psci_port.specs.Kept.{AreLegal, AreSafe, EachTakesItsLast}
use Rattle.psci_port.specs.Rebooted.{rebooted}
use Rattle.psci_port.specs.Stages.{executes, stage_by, started_at}
use Rattle.psci_port.proofs.Words.{◌∷◌, ◌≡◌, [], Act, arith, Armed, AtDoor, Bool, CtlCall, Deliver}
use Rattle.psci_port.proofs.Words.{Enter, Entering, false, Finishes, held_by, is_started, Leaving}
use Rattle.psci_port.proofs.Words.{length, List, Locks, may_hold, MessageValue, None, none-some}
use Rattle.psci_port.proofs.Words.{Normal, Opens, Option, Reboots, Record, refl, Restarts}
use Rattle.psci_port.proofs.Words.{roused_at, runs, Said, Some, Stage, stage_at, Standing, take}
use Rattle.psci_port.proofs.Words.{TakesUp, true, waits, Wakes, Woken, words, Writes, ℕ}
use Rattle.psci_port.proofs.CellRows.{both_come, life_1, reset_in_the_dark, started_meanwhile}
use Rattle.psci_port.proofs.CellRows.{system_ends, torn_and_gone_on, torn_twice}
use Rattle.psci_port.proofs.Playing.{after, asks, comes, delivers, door, down_3, of_3, off_3}
use Rattle.psci_port.proofs.Playing.{off_called, playing, start_of}

-- What is written down ---------------------------------------------------------------------------

-- what was said in the newest records, the oldest of them first
abbrev said : ℕ × List Act → List Said
said (count, acts) = reverse (map (λ r. r.said) (take count (after acts).past))

-- two have the lock, and then are inside: each is told that it started core 2, by the one message
-- that each of them sent
abbrev two_inside : List Act
two_inside = both_come 0 ++ (Locks 0 ∷ asks 0 0xc4000003 0x100 0x40002000 1 ∷ Locks 3
    ∷ asks 3 0xc4000003 0x100 0x40003000 2 ∷ Finishes 0 ∷ Finishes 3 ∷ [])

-- a run is one of a script, seen through its calls; and one that goes on begins with its lives
seen_through : Gives said
    ((6, off_3 ++ (delivers 1 ∷ []))
    ⇒ (enters_at 0x40000000 0 ∷ asks_on 0 3 1 0 ∷ acked 0 Start 3 1 0 1 false
    ∷ enters_at 0x40001000 7 ∷ goes_down 1 3 1 1 (part 0 3 1 ∷ part 1 3 1 ∷ [])
    ∷ acked 1 Down 3 1 1 2 false ∷ [])
    ∷ (2, two_inside) ⇒ (asks_on 1 2 1 0 ∷ asks_on 1 2 1 0 ∷ [])
    ∷ (2, torn_and_gone_on ++ door 0 ++ comes 0)
    ⇒ (acked 0 Reset 0 1 1 1 false ∷ enters_at 0x40000000 0 ∷ [])
    ∷ (2, torn_twice ++ door 0 ++ comes 0)
    ⇒ (acked 1 Reset 0 2 1 1 false ∷ enters_at 0x40000000 0 ∷ []) ∷ [])
unfolding playing
seen_through = refl

ends_two_lives : map (λ r. r.event) (rebooted board 2)
    ≡ Deliver 1 ∷ system_reset 0 ∷ Enter 0 ∷ Deliver 0 ∷ system_reset 0 ∷ Enter 0 ∷ []
unfolding playing
ends_two_lives = refl

-- each run is kept, the last one first: that of the boot core's entry, its call and the delivery
keeps_each_run : Gives (λ acts. map (λ past. length past) (runs (after acts)))
    ((torn_and_gone_on ++ (Restarts ∷ [])) ⇒ (0 ∷ 3 ∷ 4 ∷ [])
    ∷ (torn_and_gone_on ++ door 0 ++ comes 0 ++ (Reboots ∷ [])) ⇒ (6 ∷ 4 ∷ 4 ∷ []) ∷ [])
unfolding playing
keeps_each_run = refl

-- Lives ------------------------------------------------------------------------------------------

-- where each core is, and whether it has power
abbrev around : List Act → List (Stage × Bool)
around acts = let p = after acts in map (λ c. (stage_at p c, p.cut 0 c)) (0 ∷ 1 ∷ 2 ∷ 3 ∷ [])

-- the boot core alone is started, and its path alone has power
abbrev anew : List (Stage × Bool)
anew = (AtDoor, false) ∷ (Standing, true) ∷ (Standing, true) ∷ (Standing, true) ∷ []

-- a life begins anew, however, and leaves the power as it ends
begins_anew : Gives around
    ([] ⇒ anew ∷ torn_and_gone_on ⇒ anew ∷ (both_come 0 ++ (Restarts ∷ [])) ⇒ anew
    ∷ (life_1 ++ both_come 1 ++ (Reboots ∷ [])) ⇒ anew ∷ reset_in_the_dark ⇒ anew
    ∷ system_ends 0x84000008
    ⇒ ((Standing, false) ∷ (Standing, true) ∷ (Standing, true) ∷ (Standing, false) ∷ []) ∷ [])
unfolding playing
begins_anew = refl

-- the lock, whether the firmware is whole, the life, how often core 3 was started and how deep its
-- cluster is
abbrev kept : List Act → Option ℕ × Bool × Option ℕ × ℕ × ℕ
kept acts =
    let p = after acts in
    (p.lock, p.whole, p.values.life, p.values.starts 3, p.values.depth 1 1)

-- the lock is free and the firmware whole, though core 3 was inside
nobody_inside : Gives kept
    (torn_and_gone_on ⇒ (None, true, Some 2, 0, 3)
    ∷ system_ends 0x84000009 ⇒ (None, true, Some 2, 0, 3)
    ∷ system_ends 0x84000008 ⇒ (None, true, None, 0, 0) ∷ [])
unfolding playing
nobody_inside = refl

-- Doors ------------------------------------------------------------------------------------------

-- a core is held by its reset alone
holds_by_cause : map {B = Bool × Bool} (λ cause. (held_by cause false, held_by cause true))
    (causes.Boot ∷ causes.On ∷ causes.Wake ∷ causes.Reset ∷ [])
    ≡ (false, true) ∷ (false, true) ∷ (false, true) ∷ (true, true) ∷ []
holds_by_cause = refl

-- what a start and an interrupt leave of each stage; whether a core executes something there, was
-- started, and may have the lock
each_stage : map {B = Stage × Stage × Bool × Bool × Bool}
    (λ y. (started_at y, roused_at y, executes y, is_started y, may_hold y))
    (Standing ∷ AtDoor ∷ Entering (start_of 1 2) ∷ Normal ∷ Leaving ∷ Armed ∷ Woken ∷ [])
    ≡ (AtDoor, Armed, false, false, false) ∷ (AtDoor, Woken, true, true, false)
    ∷ (AtDoor, Entering (start_of 1 2), true, false, true) ∷ (AtDoor, Normal, true, false, true)
    ∷ (AtDoor, Leaving, true, false, true) ∷ (Woken, Armed, true, false, true)
    ∷ (Woken, Woken, true, true, true) ∷ []
each_stage = refl

-- but a core that is reset is at its door
each_cause : map (λ cause. stage_by cause Armed)
    (causes.Boot ∷ causes.On ∷ causes.Wake ∷ causes.Reset ∷ [])
    ≡ Woken ∷ Woken ∷ Woken ∷ AtDoor ∷ []
each_cause = refl

-- What waits -------------------------------------------------------------------------------------

abbrev waits_for : List Act × CtlCall → Bool
waits_for (acts, call) = let p = after acts in waits board p.values (words p) call

-- a Down of core 3 whose number is of an earlier start, and its part of the present one
abbrev torn : MessageValue
torn = of_3 Down 0 (part 0 3 1 ∷ [])

-- its Down waits until it stands, and is stale once it is woken; one goes by its parts and its
-- life; after a start that it parks in, and once it was started meanwhile, it waits anew
each_waits : Gives waits_for
    ((off_called, asked.Deliver down_3) ⇒ true ∷ (off_3, asked.Deliver down_3) ⇒ false
    ∷ (off_3 ++ (Wakes 3 ∷ []), asked.Deliver down_3) ⇒ false
    ∷ (both_come 0, asked.Deliver torn) ⇒ true
    ∷ (both_come 0, asked.Deliver (record torn { life = 2 })) ⇒ false
    ∷ (off_3 ++ (Wakes 3 ∷ []) ++ door 3 ++ comes 3, asked.Deliver (of_3 Down 2 (part 0 3 2 ∷ [])))
    ⇒ true
    ∷ (started_meanwhile ++ (Locks 3 ∷ []), asked.Wake (record { number = 3 }) 1) ⇒ true
    ∷ (started_meanwhile ++ (Locks 3 ∷ []), asked.Deliver (of_3 Down 2 (part 0 3 2 ∷ []))) ⇒ true
    ∷ [])
unfolding playing
each_waits = refl

-- Each act and each run counts -------------------------------------------------------------------

-- core 3 goes on, though it was not started
abbrev goes_on : List Record
goes_on = record { event = Enter 3; said = resumes } ∷ []

-- what a core takes up before the newest act, the newest run and the one before it
each_counts : (EachTakesItsLast board (Locks 3 ∷ TakesUp 0 ∷ Opens 0 ∷ []) → ⊥)
    × EachTakesItsLast board (TakesUp 0 ∷ Opens 0 ∷ Writes 0 ∷ [])
    × (AreLegal board (goes_on ∷ []) → ⊥) × (AreLegal board ([] ∷ goes_on ∷ []) → ⊥)
    × (AreSafe board (goes_on ∷ []) → ⊥) × (AreSafe board ([] ∷ goes_on ∷ []) → ⊥)
unfolding playing
each_counts = (
  λ each. none-some _ each.1.0.0,
  search arith,
  λ are. let e : resumes ≡ Ignored = are.0.0 in absurd (cc),
  λ are. let e : resumes ≡ Ignored = are.1.0.0 in absurd (cc),
  λ are. eqb-false 3 0 refl (are.0.0.powered 3 0 (omega arith) (omega arith) refl),
  λ are. eqb-false 3 0 refl (are.1.0.0.powered 3 0 (omega arith) (omega arith) refl),
)
