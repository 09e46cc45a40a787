-- Worked examples: what each step waits for, by a state that has no more, and for each clause by a
-- state that breaks it.
use Rattle.psci_ctl_spec.specs.declared.call.CtlCall.TheVariants as asked
use Rattle.psci_fw_spec.specs.Values.{Values}
use Rattle.psci_control.specs.declared.door.DoorOrder.TheVariants.{Write}
use Rattle.psci_enter.specs.declared.order.Look.{Look}
use Rattle.psci_enter.specs.declared.order.Look.TheVariants as look
use Rattle.psci_sides.specs.Steps.{ArmedLacks, came_back, Carry, CutPower, IsDue, KeepBack}
use Rattle.psci_sides.specs.Steps.{MayReset, MayRise, NoneArmed}
use Rattle.psci_sides.proofs.Words.{◌++◌, ◌∷◌, [], ap, arith, ArmCore, BeginCall, BeginEntry}
use Rattle.psci_sides.proofs.Words.{ControlValue, DeliverMail, eqb-false, false, false≢true}
use Rattle.psci_sides.proofs.Words.{FirmwareValue, GiveLock, IsMadeAnew, IsSendable, List}
use Rattle.psci_sides.proofs.Words.{LookAtDoor, May, MessageValue, none-some, refl, RiseCore}
use Rattle.psci_sides.proofs.Words.{RouseCore, SendAgain, ServeDoor, SleepCore, Stand, Step, suc}
use Rattle.psci_sides.proofs.Words.{sym, TakeLock, TurnCore, zero, ℕ}
use Rattle.psci_sides.proofs.Framed.{nothing_in}
use Rattle.psci_sides.proofs.Pair.{ack_of, arms_off, boot, booted, both_run, code, cpu_off, done}
use Rattle.psci_sides.proofs.Pair.{goes_off, inside_a_call, inside_off, looked_on, off_message}
use Rattle.psci_sides.proofs.Pair.{on_start, pair, playing, rises_off, roused_off, stands_off}
use Rattle.psci_sides.proofs.Pair.{started_armed, turns_on}

-- What a step waits for --------------------------------------------------------------------------

-- this step may be taken after these, or not
abbrev Allowed : List Step → Step → Type 0
Allowed steps x = May pair (done steps) x

abbrev Refused : List Step → Step → Type 0
Refused steps x = Allowed steps x → ⊥

-- others start core 1 while it is armed, and it takes the lock
abbrev locked_armed : List Step
locked_armed = started_armed ++ (TakeLock 1 ∷ [])

pub off_sendable : IsSendable pair off_message
off_sendable = search arith

-- the lock; calls and entries; a message that waits; a stop; a door; an armed core that others
-- started takes the lock all the same, or its start up at once, and looks in vain with the lock
waits_for_no_more : Allowed both_run (TakeLock 1)
    × Allowed (looked_on ++ (TakeLock 1 ∷ [])) (BeginEntry 1 on_start)
    × Allowed (both_run ++ (TakeLock 1 ∷ [])) (BeginCall 1 cpu_off)
    × Allowed inside_off (SendAgain 1 1)
    × Allowed inside_off (GiveLock 1)
    × Allowed inside_off (KeepBack off_message)
    × Allowed (inside_off ++ (GiveLock 1 ∷ [])) (Stand 1)
    × IsDue (asked.Deliver off_message) (done stands_off).control
    × Allowed turns_on (LookAtDoor 1 false)
    × Allowed turns_on (ServeDoor 1)
    × MayReset pair (done both_run) 1
    × Allowed started_armed (TakeLock 1)
    × Allowed (started_armed ++ (ServeDoor 1 ∷ ServeDoor 1 ∷ [])) (LookAtDoor 1 false)
    × ArmedLacks (done roused_off) 1
unfolding playing
waits_for_no_more = (
  (omega arith, refl, refl),
  ((omega arith, refl, refl), refl),
  ((omega arith, refl, refl), refl),
  (omega arith, refl, refl),
  (omega arith, refl, refl),
  ((0, refl), off_sendable, refl),
  (omega arith, refl, λ e. none-some 1 e),
  refl,
  (omega arith, refl, refl, λ finds at. none-some 1 at),
  (omega arith, (Write on_start, refl)),
  (omega arith, λ e. none-some 1 e, refl),
  (omega arith, refl, refl),
  (omega arith, refl, refl, λ finds at. none-some 1 at),
  λ at has. none-some 1 has,
)

none_armed : NoneArmed pair (done goes_off) 0 1
unfolding playing
none_armed zero has below armed = eqb-false 2 4 refl (ap code armed)
none_armed (suc zero) has below armed = eqb-false 0 4 refl (ap code armed)
none_armed (suc (suc c)) has below armed = absurd (omega (arith, has))

cuts_then : Allowed goes_off (CutPower 0 1)
unfolding playing
cuts_then = (omega arith, none_armed)

loses_all : Allowed inside_off (Carry [] [])
loses_all = (λ x at. absurd (nothing_in at), λ a at. absurd (nothing_in at))

-- it asks for its wake-up, and is told nothing
asks_in_vain : (t : ControlValue) → Allowed locked_armed (RiseCore 1 t)
unfolding playing
asks_in_vain t = (((omega arith, refl, refl), refl), λ due. absurd (false≢true (sym due)))

looks_in_vain : Allowed arms_off (LookAtDoor 1 false)
unfolding playing
looks_in_vain = (omega arith, refl, refl, λ finds. absurd (eqb-false 0 1 refl (ap look_code finds)))
  where
    look_code : Look → ℕ
    look_code look.Rest = 0
    look_code look.Enter = 1
    look_code (look.Tell word) = 2

-- What breaks each clause ------------------------------------------------------------------------

-- the lock has one holder, who may have it, and is inside no call; what asks for it, and what not
of_the_lock : Refused inside_off (TakeLock 0)
    × Refused stands_off (TakeLock 1)
    × Refused inside_off (Stand 1)
    × Refused both_run (BeginCall 1 cpu_off)
    × Refused both_run (SendAgain 1 1)
    × Refused inside_a_call (BeginCall 1 cpu_off)
    × Refused inside_a_call (GiveLock 1)
    × (MayReset pair (done inside_off) 1 → ⊥)
    × Refused arms_off (SleepCore 1)
    × (MayRise pair (done roused_off) 1 → ⊥)
    × Refused rises_off (TurnCore 1)
    × Refused (locked_armed ++ (ServeDoor 1 ∷ ServeDoor 1 ∷ [])) (LookAtDoor 1 false)
    × (ArmedLacks (done arms_off) 1 → ⊥)
unfolding playing
of_the_lock = search arith

-- where a core's monitor is
of_its_post : Refused both_run (Stand 1)
    × Refused inside_off (BeginCall 1 cpu_off)
    × Refused (both_run ++ (TakeLock 1 ∷ [])) (BeginEntry 1 on_start)
    × Refused both_run (LookAtDoor 1 false)
    × Refused both_run (ArmCore 1)
    × Refused goes_off (SleepCore 1)
    × Refused both_run (RouseCore 1)
    × (MayRise pair (done inside_off) 1 → ⊥)
    × Refused goes_off (TurnCore 1)
    × (May pair (came_back 1 (done turns_on)) (LookAtDoor 1 false) → ⊥)
unfolding playing
of_its_post = search arith

-- what waits, what is not due or was not ordered, and what none sent or made
of_what_is_there : (IsDue (asked.Deliver off_message) (done inside_off).control → ⊥)
    × Refused stands_off (KeepBack off_message)
    × Refused both_run (ServeDoor 1)
    × Refused both_run (CutPower 0 1)
    × Refused arms_off (CutPower 0 1)
    × Refused boot (KeepBack off_message)
    × Refused boot (Carry (off_message ∷ []) [])
    × Refused boot (Carry [] (ack_of off_message ∷ []))
unfolding playing
of_what_is_there = (
  λ due. false≢true (sym due),
  λ may. false≢true may.2,
  λ may. none-some may.1.0 may.1.1,
  λ may. let low = may.0 in omega (arith, low),
  λ may. may.1 1 (omega arith) refl refl,
  λ may. nothing_in may.0,
  λ may. nothing_in (may.0 off_message (0, refl)),
  λ may. nothing_in (may.1 (ack_of off_message) (0, refl)),
)

kept_firmware : IsMadeAnew pair booted → ⊥
unfolding playing
kept_firmware is = eqb-false 1 0 refl (ap (λ (v : Values). v.life) is.values)

-- Whatever a method leaves -----------------------------------------------------------------------

delivers_what_none_sent : (x : MessageValue) (t : ControlValue) (f : FirmwareValue)
    → Refused boot (DeliverMail x t f)
unfolding playing
delivers_what_none_sent x t f may = nothing_in may.0
