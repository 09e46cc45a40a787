-- What holds of a machine that is seen by a true run of a port: it is sound, rests where the port
-- does, and its two sides agree where nothing is left to serve.
use Rattle.std.specs.Prelude.{option_map}
use Rattle.psci_ctl_spec.specs.Replies.{start_shown}
use Rattle.psci_ctl_spec.specs.declared.call.CtlCall.TheVariants as asked
use Rattle.psci_port.specs.Port.{state}
use Rattle.psci_port.specs.Stages as stages
use Rattle.psci_port.specs.Stages.{executes as runs, is_inside}
use Rattle.psci_port.specs.Resting as port
use Rattle.psci_port.proofs.Running.{looks_apart}
use Rattle.psci_port.proofs.Rows.{IsRow}
use Rattle.psci_control.specs.declared.door.DoorOrder.TheVariants as orders
use Rattle.psci_enter.specs.declared.post.Post.TheVariants.{Leaving, Woken}
use Rattle.psci_enter.specs.Side.{found}
use Rattle.psci_enter.specs.declared.order.Look.TheVariants as look
use Rattle.psci_sides.specs.Kept.{AllStill, is_waiting, IsLocked, IsStill, NoneCut, NoneLost}
use Rattle.psci_sides.proofs.Words.{◌&&◌, ◌<◌, ◌==◌, ◌∙◌, ◌⊎◌, ◌≡◌, Act, Agree, ap, arith, ArmCore}
use Rattle.psci_sides.proofs.Words.{Armed, Arms, BeginEntry, BoardValue, Bool, Cause, cond, cores}
use Rattle.psci_sides.proofs.Words.{Door, DoorOrder, EndCall, Entering, Enters, eq-eqb, eqb-false}
use Rattle.psci_sides.proofs.Words.{executes, false, false≢true, Finishes, firmware_values}
use Rattle.psci_sides.proofs.Words.{FirmwareSide, Fits, FwCall, Gate, gate_in, GiveLock, Goes}
use Rattle.psci_sides.proofs.Words.{has_stood, has_stopped, hearing, Holds, inl, inr, is_entering}
use Rattle.psci_sides.proofs.Words.{is_halting, is_started, IsAtRest, IsDue, IsKept, IsLent}
use Rattle.psci_sides.proofs.Words.{IsMachineOf, IsMirror, IsSound, last_start, List, Locks}
use Rattle.psci_sides.proofs.Words.{LookAtDoor, looks, Machine, May, may_hold, may_look}
use Rattle.psci_sides.proofs.Words.{MessageValue, nat_tests, None, none-some, NoneToServe, not}
use Rattle.psci_sides.proofs.Words.{Opens, Option, Port, Post, Record, refl, remembers, run_kept}
use Rattle.psci_sides.proofs.Words.{Running, ServeDoor, side_of, SleepCore, Sleeps, Some, Stage}
use Rattle.psci_sides.proofs.Words.{stage_at, Stand, Stands, Start, starts_in, Step, subst, sym}
use Rattle.psci_sides.proofs.Words.{TakeLock, takes_up, TakesItsLast, TakesUp, telling, true}
use Rattle.psci_sides.proofs.Words.{TurnCore, Turns, Unlocks, up, Values, values_of, Waiting, waits}
use Rattle.psci_sides.proofs.Words.{waits_in, wake_of, words, Writes, ℕ}
use Rattle.psci_sides.proofs.Commanding.{its_side, stopped_stood, there}
use Rattle.psci_sides.proofs.Carrying.{Given, IsSeen}

-- Where a core is --------------------------------------------------------------------------------

-- one that stands waits
standing_waits : (post : Post) → Fits post stages.Standing → is_waiting post ≡ true
standing_waits post fits = grind (arith, nat_tests)

-- one that may have the lock in the port may have it in the machine
holds_so : (post : Post) (y : Stage) → Fits post y → stages.may_hold y ≡ true
    → may_hold post ≡ true
holds_so Waiting y fits holds = absurd (looks_apart y fits holds)
holds_so x y fits holds = refl

-- one that looks at its door was started, or stands
rests_at : (post : Post) (y : Stage) → may_look post ≡ true → Fits post y
    → (is_started y ≡ true) ⊎ (has_stopped y ≡ true)
rests_at post y may fits = grind (arith, nat_tests)

started_moves : (y : Stage) → is_started y ≡ true → has_stopped y ≡ true → ⊥
started_moves y at stopped = grind (arith, nat_tests)

both : (t u : Bool) → t ≡ true → u ≡ true → not (t && u) ≡ false
both t u e f = ap (λ x. not (x && u)) e ∙ ap not f

executing : (y : Stage) → (y ≡ stages.Standing → ⊥) → runs y ≡ true
executing stages.Standing not = absurd (not refl)
executing y not = refl

not_stopped : (t : Bool) → (t ≡ true → ⊥) → t ≡ false
not_stopped true not = absurd (not refl)
not_stopped false not = refl

-- no start is shown only where none was made, or no life is
pub none_shown : (o : Option ℕ) (n : ℕ) (cause : Cause) → (o ≡ None → n ≡ 0)
    → start_shown o n cause ≡ None → n ≡ 0
none_shown o n cause zero none = grind (arith, nat_tests)

-- Where the monitor of a core is, by the stage where the core is ----------------------------------

-- the posts of a core at this stage
abbrev pub IsPostAt : Stage → Post → Type 0
IsPostAt stages.Standing post = post ≡ Waiting
IsPostAt stages.AtDoor post = post ≡ Waiting
IsPostAt (stages.Entering s) post = post ≡ Entering s
IsPostAt stages.Normal post = post ≡ Running
IsPostAt stages.Leaving post = post ≡ Leaving
IsPostAt stages.Armed post = post ≡ Armed
IsPostAt stages.Woken post = (post ≡ Woken) ⊎ (post ≡ Armed)

pub post_at : (post : Post) (y : Stage) → Fits post y → IsPostAt y post
post_at post y fits = grind (arith, nat_tests)

-- whether it is on its way into the firmware
pub enters_at : (post : Post) (y : Stage) → IsPostAt y post → is_entering post ≡ port.is_entering y
enters_at post y at = grind (arith, nat_tests)

-- one that was started looks at its door, or has to turn there
pub takes_at : (post : Post) (y : Stage) → IsPostAt y post → is_started y ≡ true
    → (may_look post ≡ true) ⊎ (post ≡ Woken)
takes_at post y at is = grind (arith, nat_tests)

-- What a monitor finds ---------------------------------------------------------------------------

-- a look finds a start that its core did not use
found_new : (s : FirmwareSide) (door : Door) (pending : Bool) → (door.opened == s.used) ≡ false
    → found s door pending ≡ look.Enter
found_new s door pending new = grind (arith, nat_tests)

-- a door that is not open for its core's last start is to be served
to_serve : (t u : Bool) (o : Option Start) (n : ℕ) → t ≡ false → (o ≡ None → ⊥)
    → (order : DoorOrder)
    × (cond t None (cond u (Some (orders.Open n)) (option_map (λ s. orders.Write s) o))
    ≡ Some order)
to_serve t true o n shut some =
    (orders.Open n, ap (λ x. cond x None (Some (orders.Open n))) shut)
to_serve t false None n shut some = absurd (some refl)
to_serve t false (Some s) n shut some =
    (orders.Write s, ap (λ x. cond x None (Some (orders.Write s))) shut)

-- a core is lent the firmware exactly where it has begun a call
pub lent_none : (c : ℕ) (post : Post) (o : Option FwCall) (begun : Option Record)
    → IsLent c post o begun → begun ≡ None → o ≡ None
lent_none c post o begun lent none = grind (arith, nat_tests)

lent_some : (c : ℕ) (post : Post) (o : Option FwCall) (begun : Option Record) (r : Record)
    → IsLent c post o begun → begun ≡ Some r → (call : FwCall) × (o ≡ Some call)
lent_some c post None begun r lent at = absurd (none-some r (sym lent ∙ at))
lent_some c post (Some call) begun r lent at = (call, refl)

-- a core in the normal world, or at its door
abbrev is_calm : Stage → Bool
is_calm stages.Standing = true
is_calm stages.AtDoor = true
is_calm stages.Normal = true
is_calm y = false

looks_calm : (y : Stage) → looks y ≡ true → is_calm y ≡ true
looks_calm y at = grind (arith, nat_tests)

module _ (b : BoardValue) (given : Given b) (m : Machine) (acts : List Act)
    (seen : IsSeen b m acts) where
  abbrev p : Port
  p = state b acts

  abbrev is : IsMachineOf b m p
  is = seen.tied

  abbrev kept : IsKept p
  kept = run_kept b acts seen.run

  starts_same : (c : ℕ) → starts_in m c ≡ p.values.starts c
  starts_same c = ap (λ (v : Values). v.starts c) is.control.values

  module _ (c : ℕ) (has : c < cores b) where
    abbrev row : IsRow (p.values.starts c) (last_start p.values c) (p.row c)
    row = kept.rows c

    -- a core that executes in the machine does so in the port
    executes_so : executes m c ≡ true → runs (stage_at p c) ≡ true
    executes_so e = executing (stage_at p c) (λ at.
        false≢true (sym (both (has_stood m c) (is_waiting (m.side c).post)
        (stopped_stood b m p is kept c has (ap has_stopped at))
        (standing_waits (m.side c).post
        (subst (Fits (m.side c).post) at (is.each c has).post))) ∙ e))

    moves_so : has_stood m c ≡ false → has_stopped (stage_at p c) ≡ false
    moves_so e = not_stopped (has_stopped (stage_at p c)) (λ stopped.
        false≢true (sym e ∙ stopped_stood b m p is kept c has stopped))

    -- a core that was started has its start before it
    ahead : is_started (stage_at p c) ≡ true → (p.row c).used < p.values.starts c
    ahead at = row.ahead at (λ none. unstarted (none_shown p.values.life
        (p.values.starts c) (p.values.cause c)
        (λ life. (given.valued acts seen.run).none life c) none))
      where
        unstarted : p.values.starts c ≡ 0 → ⊥
        unstarted zero =
            let x = row.stood in let y = row.used in let z = row.opened in
            started_moves (stage_at p c) at (row.stands (omega (arith, x, y, z, zero)))

    -- once its word is heard, its wake-up does not wait
    wake_heard : words p c ≡ p.values.starts c
        → waits_in (hearing m c).control (wake_of (hearing m c) c) ≡ false
    wake_heard word =
        ap not (eq-eqb _ _ (ap (λ (g : Gate). g.word)
        (there b p m.control is.control is.gates c has
        (telling (m.station c).word (gate_in m.control.gates c)))
        ∙ (is.each c has).word ∙ word ∙ sym (starts_same c)))

  none_cut : NoneCut b m
  none_cut = grind (arith, nat_tests, executes_so, moves_so)

  locked : IsLocked b m
  locked = record {
    holder = λ c has at. holds_so (m.side c).post (stage_at p c) (is.each c has).post
        (kept.held.holder c (sym is.lock ∙ at));
    inside = λ c call has at.
        let lent = subst (λ o. IsLent c (m.side c).post o (p.row c).begun) at
        (is.each c has).lent in
        is.lock ∙ kept.held.calls c lent.0 lent.1.0;
  }

  -- it used its last start that has stopped
  used_last : (c : ℕ) (has : c < cores b) → has_stopped (stage_at p c) ≡ true
      → (m.side c).used ≡ starts_in m c
  used_last c has stopped =
      let still = (row c has).still stopped in
      let stood = (row c has).stood in
      let used = (row c has).used in
      let opened = (row c has).opened in
      let u = (is.each c has).used in
      let s = starts_same c in
      omega (arith, still, stood, used, opened, u, s)

  none_lost : NoneLost b m
  none_lost c has may =
      elim (rests_at (m.side c).post (stage_at p c) may (is.each c has).post) [
        | inl at ↦ inl (subst (λ n. (m.side c).used < n) (sym (starts_same c))
            (subst (λ n. n < p.values.starts c) (sym (is.each c has).used) (ahead c has at)))
        | inr stopped ↦ inr (
          used_last c has stopped,
          wake_heard c has ((row c has).still stopped),
        )
      ]

  pub sound : IsSound b m
  sound = record { power = none_cut; locked = locked; wakes = none_lost }

  pub takes_last : (x : Step) → May b m x → TakesItsLast m x
  takes_last (LookAtDoor c pending) may = λ finds.
      let was = is.each c may.0 in
      let up = takes_up b p (side_of m c) (its_side b m p is.each c may.0) kept (m.station c).door
      pending (record { opened = was.opened; start = was.start }) (sym was.held ∙ may.1) may.2
      (λ at. may.3 finds (is.lock ∙ at)) finds in (
        up.1.0 ∙ ap (λ (v : Values). last_start v c) (sym is.control.values),
        up.1.1.0 ∙ sym (starts_same c),
        subst (λ n. (m.side c).used < n) (up.1.1.0 ∙ sym (starts_same c)) up.1.1.1,
      )
  takes_last (BeginEntry c start) may =
      ap (λ (v : Values). last_start v c) is.control.values
      ∙ (kept.rows c).taken start (subst (λ x. Fits x (stage_at p c)) may.1
      (is.each c may.0.0).post)
  takes_last step may = tt

  monitor : (c : ℕ) → c < cores b → IsPostAt (stage_at p c) (m.side c).post
  monitor c has = post_at (m.side c).post (stage_at p c) (is.each c has).post

  monitor_at : (c : ℕ) (y : Stage) → c < cores b → stage_at p c ≡ y → IsPostAt y (m.side c).post
  monitor_at c y has at = subst (λ z. IsPostAt z (m.side c).post) at (monitor c has)

  lent_nothing : (c : ℕ) → c < cores b → (p.row c).begun ≡ None → (m.station c).lent ≡ None
  lent_nothing c has none = lent_none c (m.side c).post (m.station c).lent (p.row c).begun
      (is.each c has).lent none

  holds : (c : ℕ) → c < cores b → p.lock ≡ Some c → (p.row c).begun ≡ None → Holds b m c
  holds c has held none = (has, is.lock ∙ held, lent_nothing c has none)

  entering_same : (c : ℕ) → c < cores b
      → is_entering (m.side c).post ≡ port.is_entering (stage_at p c)
  entering_same c has = enters_at (m.side c).post (stage_at p c) (monitor c has)

  module _ (still : (x : Step) → Goes b m x → ⊥) where
    -- Doors --------------------------------------------------------------------------------------

    doors_open : (c : ℕ) → c < cores b → ((p.row c).opened == p.values.starts c) ≡ false → ⊥
    doors_open c has shut =
        let there_is = to_serve _ _ (last_start (values_of m.control) c)
        ((values_of m.control).starts c) shut_here some in
        still (ServeDoor c) (has, (there_is.0, there_is.1))
      where
        g : Gate
        g = gate_in m.control.gates c

        shut_here : (g.opened == (values_of m.control).starts c) ≡ false
        shut_here = ap (λ n. n == (values_of m.control).starts c) (is.control.opened c has)
            ∙ ap (λ (v : Values). (p.row c).opened == v.starts c) is.control.values ∙ shut

        some : last_start (values_of m.control) c ≡ None → ⊥
        some none =
            let zero : p.values.starts c ≡ 0 =
            none_shown p.values.life (p.values.starts c) (p.values.cause c)
            (λ life. (given.valued acts seen.run).none life c)
            (ap (λ (v : Values). last_start v c) (sym is.control.values) ∙ none) in
            let low = (kept.rows c).opened in
            eqb-false _ _ shut (omega (arith, zero, low))

    -- No act of the port is due ------------------------------------------------------------------

    pub none_due : (act : Act) → port.IsDue b p act → ⊥
    none_due (Locks c) due = still (TakeLock c) (
      due.0.0,
      is.lock ∙ due.0.1,
      entering_same c due.0.0 ∙ due.1,
    )
    none_due (Unlocks c) due = still (GiveLock c) (
      holds c due.1.0 due.0.0 due.0.1,
      entering_same c due.1.0 ∙ due.1.1,
    )
    none_due (Enters c said) due = still (BeginEntry c due.0.2.0) (
      holds c due.0.0 due.0.1.0 due.0.1.1,
      monitor_at c (stages.Entering due.0.2.0) due.0.0 due.0.2.1,
    )
    none_due (Finishes c) due = still (EndCall c m.firmware) (
      due.1,
      lent_some c (m.side c).post (m.station c).lent (p.row c).begun due.0.0
          (is.each c due.1).lent due.0.1,
    )
    none_due (TakesUp c) due =
        let was = is.each c due.1 in
        let lacks : m.lock ≡ Some c → ⊥ = λ e. due.0.3 (sym is.lock ∙ e) in
        elim (takes_at (m.side c).post (stage_at p c) (monitor c due.1) due.0.0) [
          | inl may ↦ still (LookAtDoor c false) (
            due.1,
            was.held ∙ due.0.1,
            may,
            found_new (side_of m c) (m.station c).door false
                (ap (λ n. n == (m.side c).used) was.opened
                ∙ ap (λ n. (p.row c).opened == n) was.used ∙ due.0.2),
            lacks,
          )
          | inr woken ↦ still (TurnCore c) (due.1, woken, lacks)
        ]
    none_due (Stands c) due = still (Stand c) (
      due.1,
      monitor_at c stages.Leaving due.1 due.0.0,
      λ e. due.0.1 (sym is.lock ∙ e),
    )
    none_due (Arms c) due =
        still (ArmCore c) (due.1, monitor_at c stages.Leaving due.1 due.0.0)
    none_due (Sleeps c) due = still (SleepCore c) (
      due.1,
      monitor_at c stages.Armed due.1 due.0.0,
      λ e. due.0.1 (sym is.lock ∙ e),
    )
    none_due (Turns c) due =
        let lacks : m.lock ≡ Some c → ⊥ = λ e. due.0.1 (sym is.lock ∙ e) in
        elim (monitor_at c stages.Woken due.1 due.0.0) [
          | inl woken ↦ still (TurnCore c) (due.1, woken, lacks)
          | inr armed ↦ still (SleepCore c) (due.1, armed, lacks)
        ]
    none_due (Writes c) due = doors_open c due.1.0 due.0
    none_due (Opens c) due = doors_open c due.1.0 due.1.1
    none_due act due = due.1

    -- At rest ------------------------------------------------------------------------------------

    rest : port.IsAtRest b p
    rest = given.rests acts seen.run none_due

    begun_none : (c : ℕ) → (p.row c).begun ≡ None
    begun_none c = by (p.row c).begun refl
      where
        by : (o : Option Record) → (p.row c).begun ≡ o → o ≡ None
        by None e = refl
        by (Some r) e = absurd (none-some c (sym rest.free ∙ kept.held.calls c r e))

    still_by : (c : ℕ) → c < cores b → (stage_at p c ≡ stages.Normal) ⊎ port.IsQuiet p c
        → IsStill m c
    still_by c has (inl normal) =
        let was = is.each c has in
        let inside = (kept.rows c).inside (ap is_inside normal) in
        let used = (kept.rows c).used in
        let opened = (kept.rows c).opened in
        let o = was.opened in
        let u = was.used in
        let s = starts_same c in record {
          opened = omega (arith, inside, used, opened, o, s);
          used = omega (arith, inside, u, s);
          lent = lent_nothing c has (begun_none c);
          post = inl (monitor_at c stages.Normal has normal);
        }
    still_by c has (inr quiet) = record {
      opened = (is.each c has).opened ∙ quiet.opened ∙ sym (starts_same c);
      used = (is.each c has).used ∙ quiet.used ∙ sym (starts_same c);
      lent = lent_nothing c has (begun_none c);
      post = inr (monitor_at c stages.Standing has quiet.standing);
    }

    -- what waits once a core was heard waits in the port
    waits_so : (x : MessageValue) → x.core.number < cores b
        → waits_in (hearing m x.core.number).control (asked.Deliver x)
        ≡ waits b p.values (words p) (asked.Deliver x)
    waits_so x has =
        let c : ℕ = x.core.number in
        ap (λ n. waits (m.control.controller.board) (values_of m.control) (λ k. n)
        (asked.Deliver x)) (ap (λ (g : Gate). g.word)
        (there b p m.control is.control is.gates c has
        (telling (m.station c).word (gate_in m.control.gates c)))
        ∙ (is.each c has).word)
        ∙ ap (λ y. waits y (values_of m.control) (words p) (asked.Deliver x)) is.control.board
        ∙ ap (λ (v : Values). waits b v (words p) (asked.Deliver x)) is.control.values

    pub resting : IsAtRest b m
    resting = grind (arith, nat_tests, rest, still_by, monitor_at, waits_so)

  module _ (still : AllStill b m) where
    no_lock : (c : ℕ) → p.lock ≡ Some c → ⊥
    no_lock c e = none-some c (sym still.free ∙ is.lock ∙ e)

    calm : (c : ℕ) → c < cores b → is_calm (stage_at p c) ≡ true
    calm c has = grind (arith, nat_tests, looks_calm)

    elsewhere : (c : ℕ) (y : Stage) → c < cores b → is_calm y ≡ false → stage_at p c ≡ y → ⊥
    elsewhere c y has not e = false≢true (sym not ∙ ap is_calm (sym e) ∙ calm c has)

    opens : (c : ℕ) → c < cores b → (p.row c).opened ≡ p.values.starts c
    opens c has = sym (is.each c has).opened ∙ (still.each c has).opened ∙ starts_same c

    uses : (c : ℕ) → c < cores b → (p.row c).used ≡ p.values.starts c
    uses c has = sym (is.each c has).used ∙ (still.each c has).used ∙ starts_same c

    enters_not : (c : ℕ) (y : Stage) → is_calm y ≡ true → port.is_entering y ≡ true → ⊥
    enters_not c (stages.Entering s) at e = false≢true at
    enters_not c y at e = false≢true e

    -- nothing is due in the port
    nothing_due : (act : Act) → IsDue b p act → ⊥
    nothing_due (Locks c) due = enters_not c (stage_at p c) (calm c due.0.0) due.1
    nothing_due (Unlocks c) due = no_lock c due.0.0
    nothing_due (Enters c said) due = no_lock c due.0.1.0
    nothing_due (Finishes c) due = no_lock c (kept.held.calls c due.0.0 due.0.1)
    nothing_due (TakesUp c) due =
        false≢true (sym due.0.2 ∙ eq-eqb _ _ (opens c due.1 ∙ sym (uses c due.1)))
    nothing_due (Stands c) due = elsewhere c stages.Leaving due.1 refl due.0.0
    nothing_due (Arms c) due = elsewhere c stages.Leaving due.1 refl due.0.0
    nothing_due (Sleeps c) due = elsewhere c stages.Armed due.1 refl due.0.0
    nothing_due (Turns c) due = elsewhere c stages.Woken due.1 refl due.0.0
    nothing_due (Writes c) due = false≢true (sym due.0 ∙ eq-eqb _ _ (opens c due.1.0))
    nothing_due (Opens c) due = false≢true (sym due.1.1 ∙ eq-eqb _ _ (opens c due.1.0))
    nothing_due act due = due.1

    -- The firmware was kept -----------------------------------------------------------------------

    mirror : IsMirror b p
    mirror = given.world acts seen.run seen.so

    same : remembers m.firmware ≡ firmware_values b p.past
    same = grind (arith, nat_tests)

    awake : is_halting b p.past ≡ false
    awake = grind (arith, nat_tests, eq-eqb)

    pub agree : NoneToServe b m → Agree b m
    agree none = grind (arith, nat_tests, same, nothing_due, awake, mirror)
