-- Worked examples: a run of a machine of two cores, which acts its steps are, and for each clause
-- of what holds of a machine a state that breaks it.
use Rattle.std.proofs.Common.{map}
use Rattle.psci_board.proofs.Tables.{◌⇒◌, Gives}
use Rattle.psci_messages.specs.declared.start.Cause.TheVariants as causes
use Rattle.psci_control.specs.declared.order.Ending.TheVariants as endings
use Rattle.psci_control.specs.declared.order.Order.TheVariants.{End, Raise}
use Rattle.psci_enter.specs.declared.post.Post.TheVariants.{Leaving, Woken}
use Rattle.psci_port.specs.Port.{Cuts, Rises, Rouses}
use Rattle.psci_sides.specs.Kept.{AllStill, EachTakesItsLast, IsStill}
use Rattle.psci_sides.specs.Machine.{carried}
use Rattle.psci_sides.specs.Seen.{Shows}
use Rattle.psci_sides.specs.Steps.{after, came_back, CutPower}
use Rattle.psci_sides.proofs.Words.{◌++◌, ◌∷◌, ◌≡◌, [], Agree, arith, ArmCore, Armed, Arms}
use Rattle.psci_sides.proofs.Words.{BeginEntry, Bool, Entering, eqb-false, executes, false}
use Rattle.psci_sides.proofs.Words.{GiveLock, Hear, inl, inr, length, List, Locks, LookAtDoor}
use Rattle.psci_sides.proofs.Words.{Machine, None, none-some, Option, Post, refl, RiseCore}
use Rattle.psci_sides.proofs.Words.{RouseCore, ServeDoor, SleepCore, Sleeps, Some, Stand, Stands}
use Rattle.psci_sides.proofs.Words.{Step, sym, TakeLock, TakesItsLast, TakesUp, true, TurnCore}
use Rattle.psci_sides.proofs.Words.{Turns, Unlocks, Waiting, Writes, ℕ}
use Rattle.psci_sides.proofs.Pair.{anew, arms_off, boot, both_run, done, first_start, goes_off}
use Rattle.psci_sides.proofs.Pair.{inside_a_call, inside_off, off_message, on_start, open_on, pair}
use Rattle.psci_sides.proofs.Pair.{playing, rises_off, roused_off, sleeps_off, stands_off, start}
use Rattle.psci_sides.proofs.Pair.{started_again, started_armed, turns_off, turns_on}
use Rattle.psci_sides.proofs.Tested.{Awake, failing, Heard, Holder, Inside, Powered}

-- The run ----------------------------------------------------------------------------------------

-- its wake-up waits where it was started meanwhile, though its word is heard, and it asks in vain;
-- it gives the lock back, turns to its door, and finds its start there
abbrev locked_armed : List Step
locked_armed = started_armed ++ (TakeLock 1 ∷ [])

abbrev told_nothing : List Step
told_nothing = locked_armed ++ (Hear 1 ∷ RiseCore 1 (started_again causes.On) ∷ [])

abbrev at_its_door : List Step
at_its_door = told_nothing ++ (GiveLock 1 ∷ SleepCore 1 ∷ ServeDoor 1 ∷ ServeDoor 1 ∷ [])

-- what is seen of core 1: its post, the start that it used and its word; whether it has no power
-- and how deep it was ordered; how many messages and acknowledgements were put in the mailbox; and
-- who has the lock
abbrev shown : List Step → Post × ℕ × ℕ × Bool × ℕ × ℕ × ℕ × Option ℕ
shown steps =
    let m = done steps in (
      (m.side 1).post,
      (m.side 1).used,
      (m.station 1).word,
      m.cut 0 1,
      m.depth 0 1,
      length m.mail,
      length m.acks,
      m.lock,
    )

each_shown : Gives shown
    (boot ⇒ (Waiting, 0, 0, true, 3, 0, 0, None)
    ∷ turns_on ⇒ (Waiting, 0, 0, false, 0, 1, 1, None)
    ∷ inside_off ⇒ (Leaving, 1, 0, false, 0, 2, 1, Some 1)
    ∷ stands_off ⇒ (Waiting, 1, 1, false, 0, 2, 1, None)
    ∷ goes_off ⇒ (Waiting, 1, 1, true, 3, 2, 2, None)
    ∷ arms_off ⇒ (Armed, 1, 1, false, 3, 2, 2, Some 1)
    ∷ sleeps_off ⇒ (Waiting, 1, 1, true, 3, 2, 2, None)
    ∷ roused_off ⇒ (Armed, 1, 1, false, 3, 2, 2, None)
    ∷ rises_off ⇒ (Woken, 1, 1, false, 0, 2, 2, Some 1)
    ∷ turns_off ⇒ (Waiting, 1, 1, false, 0, 2, 2, None)
    ∷ told_nothing ⇒ (Armed, 1, 1, false, 0, 2, 3, Some 1)
    ∷ (at_its_door ++ (LookAtDoor 1 false ∷ TakeLock 1 ∷ []))
    ⇒ (Entering (record { life = 1; number = 2; cause = causes.On }), 2, 1, false, 0, 2, 3, Some 1)
    ∷ [])
unfolding playing
each_shown = refl

-- it executes from its start until it stands, or sleeps, and again once it is roused
executes_when : map (λ steps. executes (done steps) 1)
    (boot ∷ turns_on ∷ both_run ∷ inside_off ∷ stands_off ∷ goes_off ∷ arms_off ∷ sleeps_off
    ∷ roused_off ∷ rises_off ∷ turns_off ∷ [])
    ≡ false ∷ true ∷ true ∷ true ∷ false ∷ false ∷ true ∷ false ∷ true ∷ true ∷ true ∷ []
unfolding playing
executes_when = refl

-- a core that comes out of a reset of its own is held until its door is open
held_then : map (λ (m : Machine). (m.station 1).held)
    (came_back 1 (done both_run) ∷ after pair (came_back 1 (done turns_on)) (ServeDoor 1)
    ∷ after pair (after pair (came_back 1 (done turns_on)) (ServeDoor 1)) (ServeDoor 1) ∷ [])
    ≡ true ∷ true ∷ false ∷ []
unfolding playing
held_then = refl

-- what an end leaves of the power, the lock, and core 1
life_ends : map {B = Bool × Option ℕ × Post × ℕ} (λ (m : Machine).
    (m.cut 0 1, m.lock, (m.side 1).post, (m.station 1).word))
    (carried pair anew (Raise (record { number = 1 }) ∷ []) (done boot)
    ∷ carried pair anew (End endings.Off ∷ []) (done inside_off)
    ∷ carried pair anew (End endings.Off ∷ []) (done stands_off)
    ∷ carried pair anew (End endings.Restart ∷ []) (done inside_off) ∷ [])
    ≡ (false, None, Waiting, 0) ∷ (false, None, Waiting, 0) ∷ (false, None, Waiting, 0)
    ∷ (true, None, Waiting, 0) ∷ []
unfolding playing
life_ends = refl

-- Which acts a step is; one that was started meanwhile turns to its door, and asks in vain
shows : Shows (done both_run) (TakeLock 1) (Locks 1 ∷ [])
    × Shows (done both_run) (GiveLock 1) (Unlocks 1 ∷ [])
    × Shows (done both_run) (Stand 1) (Stands 1 ∷ [])
    × Shows (done turns_on) (ServeDoor 1) (Writes 1 ∷ [])
    × Shows (done both_run) (ServeDoor 1) []
    × Shows (done open_on) (LookAtDoor 1 false) (TakesUp 1 ∷ [])
    × Shows (done stands_off) (LookAtDoor 1 false) []
    × Shows (done stands_off) (CutPower 0 1) (Cuts 0 1 ∷ [])
    × Shows (done inside_off) (ArmCore 1) (Arms 1 ∷ [])
    × Shows (done arms_off) (SleepCore 1) (Sleeps 1 ∷ [])
    × Shows (done started_armed) (SleepCore 1) (Turns 1 ∷ [])
    × Shows (done sleeps_off) (RouseCore 1) (Rouses 1 ∷ [])
    × Shows (done roused_off) (RiseCore 1 (started_again causes.Wake)) (Rises 1 ∷ [])
    × Shows (done locked_armed) (RiseCore 1 (started_again causes.On)) []
    × Shows (done rises_off) (TurnCore 1) (Turns 1 ∷ [])
unfolding playing
shows = (refl, refl, refl, refl, refl, refl, refl, refl, refl, refl, refl, refl, refl, refl, refl)

-- What breaks what holds -------------------------------------------------------------------------

-- a core that waits, or is armed, and whose word was not said: its wake-up waits for ever
abbrev unsaid : List Step → Machine
unsaid steps = record (done steps) {
  station = λ k. record ((done steps).station k) { word = 0 };
}

-- what fails at moments of the run, and of what is no such moment: power, depths, lock, wake-up
each_kept : Gives (λ (m : Machine). failing pair m)
    (done boot ⇒ [] ∷ done both_run ⇒ [] ∷ done inside_a_call ⇒ [] ∷ done inside_off ⇒ []
    ∷ done stands_off ⇒ [] ∷ done goes_off ⇒ [] ∷ done arms_off ⇒ [] ∷ done sleeps_off ⇒ []
    ∷ done roused_off ⇒ [] ∷ done rises_off ⇒ [] ∷ done turns_off ⇒ [] ∷ done at_its_door ⇒ []
    ∷ record (done both_run) { cut = λ level place. true } ⇒ (Powered ∷ [])
    ∷ record (done arms_off) { cut = λ level place. true } ⇒ (Powered ∷ [])
    ∷ record (done both_run) { depth = λ level place. 3 } ⇒ (Awake ∷ [])
    ∷ record (done stands_off) { lock = Some 1 } ⇒ (Holder ∷ [])
    ∷ record (done inside_a_call) { lock = None } ⇒ (Inside ∷ [])
    ∷ unsaid stands_off ⇒ (Heard ∷ []) ∷ unsaid roused_off ⇒ (Awake ∷ Heard ∷ []) ∷ [])
unfolding playing
each_kept = refl

-- each step of a run counts, and not the newest one alone
each_enters : EachTakesItsLast pair start (TakeLock 0 ∷ BeginEntry 0 on_start ∷ []) → ⊥
unfolding playing
each_enters each = search arith

enters_by_another : TakesItsLast (done turns_on) (BeginEntry 1 first_start) → ⊥
unfolding playing
enters_by_another last = search arith

-- a core is in the normal world, and one off; what is due is no rest, and what is outstanding no
-- agreement
at_rest : IsStill (done goes_off) 1 × IsStill (done goes_off) 0
    × (IsStill (done turns_on) 1 → ⊥) × (IsStill (done inside_a_call) 1 → ⊥)
    × (AllStill pair (done inside_off) → ⊥) × (Agree pair (done stands_off) → ⊥)
unfolding playing
at_rest = (
  record { opened = refl; used = refl; lent = refl; post = inr refl },
  record { opened = refl; used = refl; lent = refl; post = inl refl },
  λ is. eqb-false 0 1 refl is.opened,
  λ is. none-some _ (sym is.lent),
  λ is. none-some 1 (sym is.free),
  λ is. none-some off_message (sym (is.own 1 (omega arith))),
)
