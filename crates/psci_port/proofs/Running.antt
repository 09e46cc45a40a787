-- One core at a time is inside the firmware; and each run keeps what holds of its cores.
use Rattle.psci_ctl_spec.specs.Replies.{effect_of, reply}
use Rattle.psci_ctl_spec.specs.declared.call.CtlCall.TheVariants as asked
use Rattle.psci_ctl_spec.specs.declared.kick.Kick.{Kick as Kicked}
use Rattle.psci_ctl_spec.specs.psci_messages.declared.start.Cause.TheVariants as causes
use Rattle.psci_world_spec.specs.declared.said.Said.TheVariants.{Absent}
use Rattle.psci_port.specs.Port.{lock_by, state, step, whole_by}
use Rattle.psci_port.specs.Stages.{looks}
use Rattle.psci_port.specs.Kept.{EachTakesItsLast}
use Rattle.psci_port.specs.Resting.{IsQuiet}
use Rattle.psci_port.proofs.Words.{◌&&◌, ◌<◌, ◌==◌, ◌∙◌, ◌∷◌, ◌⊎◌, ◌≡◌, [], Act, ap, AreValues}
use Rattle.psci_port.proofs.Words.{arith, Armed, Arms, AtDoor, Begins, begins, BoardValue, Bool}
use Rattle.psci_port.proofs.Words.{Call, Calls, change, cold, commanded, cond, cores, CtlCall, Cuts}
use Rattle.psci_port.proofs.Words.{Deliver, Delivers, Effect, ended, Enter, Entering, Enters}
use Rattle.psci_port.proofs.Words.{eq-eqb, eqb-true, Event, false, false≢true, finished, Finishes}
use Rattle.psci_port.proofs.Words.{first_row, going_on, gone_to, has_stopped, inl, inr, is_entering}
use Rattle.psci_port.proofs.Words.{is_inside, is_shown, is_started, IsAtRest, IsDue, IsLocked}
use Rattle.psci_port.proofs.Words.{IsPortRun, kick_effect, last_start, Leaving, List, Locks, May}
use Rattle.psci_port.proofs.Words.{may_hold, nat_tests, ne_eqb, None, none-some, Normal, not, Opens}
use Rattle.psci_port.proofs.Words.{Option, Port, Reboots, Record, refl, Reset, Resets, Restarts}
use Rattle.psci_port.proofs.Words.{Rises, rising, roused_at, Rouses, Row, row_by, Said, Sleeps}
use Rattle.psci_port.proofs.Words.{Some, Stage, stage_at, stage_said, Standing, Stands, Start}
use Rattle.psci_port.proofs.Words.{stopping, subst, sym, Take, Takes, TakesItsLast, TakesUp}
use Rattle.psci_port.proofs.Words.{taking_up, true, Turns, Unlocks, waits, Wake, wake_of, Wakes}
use Rattle.psci_port.proofs.Words.{with_row, Woken, woken, words, WordsTell, Writes, ℕ}
use Rattle.psci_port.proofs.Rows.{all_found, AreRows, delivered_starts, delivered_touches}
use Rattle.psci_port.proofs.Rows.{effect_is, first_is, IsRow, one_is, reset_starts_it, some_core}
use Rattle.psci_port.proofs.Rows.{starts_core, woken_starts}
use Rattle.psci_port.proofs.Records.{opens_is, rouses_is, sleeps_is, stops_is, takes_up, turns_is}
use Rattle.psci_port.proofs.Records.{writes_is}

-- the call that a core has begun is its own, and of the stage where it is
abbrev pub Fits : ℕ → Event → Stage → Type 0
Fits c (Call d regs) y = (d ≡ c) × (y ≡ Normal)
Fits c (Enter d) y = (d ≡ c) × ((s : Start) × (y ≡ Entering s))
Fits c (Take k) y = Unit {0}
Fits c event y = ⊥

-- What holds of the lock, of the calls that were begun, and of the firmware in its place.
pub record IsHeld (lock : Option ℕ) (row : ℕ → Row) (intact : Bool) : Type 0 where
  pub holder : (c : ℕ) → lock ≡ Some c → may_hold (row c).stage ≡ true
  pub calls : (c : ℕ) (r : Record) → (row c).begun ≡ Some r → lock ≡ Some c
  pub fits : (c : ℕ) (r : Record) → (row c).begun ≡ Some r → Fits c r.event (row c).stage
  pub free : lock ≡ None → intact ≡ true
  pub whole : (c : ℕ) → lock ≡ Some c → (row c).begun ≡ None → intact ≡ true

pub first_begun : (c : ℕ) → (first_row c).begun ≡ None
first_begun c = grind (arith, nat_tests)

pub first_held : IsHeld None first_row true
first_held = grind (arith, nat_tests)

module _ (lock : Option ℕ) (row : ℕ → Row) (whole : Bool) (is : IsHeld lock row whole) where
  -- no two cores have the lock, or are inside a call
  pub one_holder : (c d : ℕ) → lock ≡ Some c → lock ≡ Some d → c ≡ d
  one_holder c d e f = some_core c d (sym e ∙ f)

  pub one_inside : (c d : ℕ) (r q : Record) → (row c).begun ≡ Some r → (row d).begun ≡ Some q
      → c ≡ d
  one_inside c d r q e f = one_holder c d (is.calls c r e) (is.calls d q f)

  pub not_inside : (c : ℕ) (r : Record) → (lock ≡ Some c → ⊥) → (row c).begun ≡ Some r → ⊥
  not_inside c r lacks e = lacks (is.calls c r e)

  -- The power controller's acts ------------------------------------------------------------------

  -- where who has the lock is not started, all holds on
  pub effect_held : (f : Effect) → ((k : ℕ) → starts_core f ≡ Some k → lock ≡ Some k → ⊥)
      → IsHeld (lock_by f lock) (λ c. row_by c f (row c)) (whole_by f whole)
  effect_held f free = grind (arith, nat_tests)

  -- The lock -------------------------------------------------------------------------------------

  pub lock_held : (c : ℕ) → lock ≡ None → may_hold (row c).stage ≡ true
      → IsHeld (Some c) row whole
  lock_held c none holds = grind (arith, nat_tests)

  pub unlock_held : (c : ℕ) → lock ≡ Some c → (row c).begun ≡ None → IsHeld None row whole
  unlock_held c at none = grind (arith, nat_tests)

  -- A call of the firmware -----------------------------------------------------------------------

  module _ (c : ℕ) (r : Record) (at : (row c).begun ≡ Some r) where
    abbrev ended_row : Row
    ended_row = ended r (row c)

    pub end_held : IsHeld lock (λ x. cond (x == c) ended_row (row x)) true
    end_held = grind (arith, nat_tests)

-- What each act keeps of the cores and of the lock ------------------------------------------------

pub record IsKept (p : Port) : Type 0 where
  pub rows : AreRows p.values p.row
  pub held : IsHeld p.lock p.row p.whole

-- A call of the firmware -------------------------------------------------------------------------

ended_is : (s : ℕ) (l : Option Start) (r : Row) (c : ℕ) (event : Event) (said : Said)
    → Fits c event r.stage → IsRow s l r
    → IsRow s l (record r { begun = None; stage = stage_said event said r.stage })
ended_is s l r c event said fits is = grind (arith, nat_tests)

pub looks_apart : (y : Stage) → looks y ≡ true → may_hold y ≡ true → ⊥
looks_apart y at holds = grind (arith, nat_tests)

module _ (b : BoardValue) (p : Port) (is : IsKept p) where
  -- the row of one core changes
  one_row : (c : ℕ) (r : Row) → IsRow (p.values.starts c) (last_start p.values c) r
      → AreRows p.values (λ x. cond (x == c) r (p.row x))
  one_row c r row = λ x. one_is b p.values p.row is.rows c x r (x == c) refl row

  pub begins_kept : (c : ℕ) (r : Record) → p.lock ≡ Some c → Fits c r.event (stage_at p c)
      → IsKept (begins p c r)
  begins_kept c r at fits = grind (arith, nat_tests)

  pub finished_kept : (c : ℕ) (r : Record) → (p.row c).begun ≡ Some r
      → IsKept (finished p c (Some r))
  finished_kept c r at = record {
    rows = one_row c (ended r (p.row c))
        (ended_is _ _ (p.row c) c r.event r.said (is.held.fits c r at) (is.rows c));
    held = end_held p.lock p.row p.whole is.held c r at;
  }

  -- a core that has not the lock moves
  pub apart_kept : (c : ℕ) (r : Row) → r.begun ≡ (p.row c).begun → (p.lock ≡ Some c → ⊥)
      → IsRow (p.values.starts c) (last_start p.values c) r → IsKept (with_row p c r)
  apart_kept c r same lacks row = grind (arith, nat_tests)

  -- it stays where it is
  pub stays_kept : (c : ℕ) (r : Row) → r.begun ≡ (p.row c).begun → r.stage ≡ stage_at p c
      → IsRow (p.values.starts c) (last_start p.values c) r → IsKept (with_row p c r)
  stays_kept c r same stays row = grind (arith, nat_tests)

  pub arms_kept : (c : ℕ) → stage_at p c ≡ Leaving → (p.row c).begun ≡ None
      → IsKept (with_row p c (stopping Armed (p.row c)))
  arms_kept c at none = grind (arith, nat_tests)

  pub commanded_kept : (event : Event) (call : CtlCall) → waits b p.values (words p) call ≡ false
      → ((k : ℕ) → starts_core (effect_of b call (reply b p.values call)) ≡ Some k
      → p.lock ≡ Some k → ⊥)
      → IsKept (commanded b p event call)
  commanded_kept event call wait free = grind (arith, nat_tests, effect_is, all_found, effect_held)

first_kept : (b : BoardValue) (before : List (List Record)) → IsKept (cold b before)
first_kept b before = record { rows = first_is (Some 1); held = first_held }

-- the power controller goes on
onward_kept : (b : BoardValue) (p : Port) → IsKept (going_on b p)
onward_kept b p = record { rows = first_is (change b Begins p.values).life; held = first_held }

waits_not : (stands : Bool) → stands ≡ true → not stands ≡ false
waits_not true is = refl
waits_not false is = absurd (false≢true is)

-- An armed core wakes itself ---------------------------------------------------------------------

still_free : (f : Effect) → lock_by f None ≡ None
still_free f = grind (arith, nat_tests)

-- it may have the lock after that
woken_holds : (c : ℕ) (kick : Kicked) (r : Row) → r.stage ≡ Armed
    → may_hold (row_by c (kick_effect c causes.Wake kick) r).stage ≡ true
woken_holds c kick r at = grind (arith, nat_tests)

module _ (b : BoardValue) (p : Port) (is : IsKept p) (c : ℕ) (at : stage_at p c ≡ Armed)
    (has : p.lock ≡ Some c) (none : (p.row c).begun ≡ None) where
  -- as if it had given the lock back before, and took it again
  abbrev loose : Port
  loose = record p { lock = None }

  abbrev after_it : Port
  after_it = woken b loose c

  loose_kept : IsKept loose
  loose_kept = grind (arith, nat_tests)

  stands_there : (words p c == p.values.starts c) ≡ true
  stands_there = eq-eqb _ _ ((is.rows c).still (ap has_stopped at))

  woken_kept : IsKept after_it
  woken_kept =
      commanded_kept b loose loose_kept (Wake c) (asked.Wake (record { number = c }) (words p c))
      (waits_not (words p c == p.values.starts c) stands_there)
      (λ i e held. absurd (none-some i held))

  free_then : after_it.lock ≡ None
  free_then = still_free (effect_of b (asked.Wake (record { number = c }) (words p c))
      (reply b p.values (asked.Wake (record { number = c }) (words p c))))

  holds_then : may_hold (stage_at after_it c) ≡ true
  unfolding reply effect_of
  holds_then = woken_holds c (wake_of b p.values c (words p c)) (p.row c) at

  rises_kept : IsKept (rising b p c)
  rises_kept = record {
    rows = woken_kept.rows;
    held = subst (λ l. IsHeld l (rising b p c).row (rising b p c).whole) (sym has)
        (lock_held after_it.lock (rising b p c).row (rising b p c).whole woken_kept.held c
        free_then holds_then);
  }

-- Each act ---------------------------------------------------------------------------------------

pub step_kept : (b : BoardValue) (p : Port) (act : Act) → IsKept p → May b p act
    → IsKept (step b p act)
unfolding step
step_kept b p (Locks c) is may = record {
  rows = is.rows;
  held = lock_held p.lock p.row p.whole is.held c may.1 may.2;
}
step_kept b p (Unlocks c) is may = record {
  rows = is.rows;
  held = unlock_held p.lock p.row p.whole is.held c may.0 may.1;
}
step_kept b p (Calls c regs said) is may =
    begins_kept b p is c (record { event = Call c regs; said = said }) may.1.0 (refl, may.2)
step_kept b p (Enters c said) is may =
    begins_kept b p is c (record { event = Enter c; said = said }) may.1.0 (refl, may.2)
step_kept b p (Takes c k said) is may =
    begins_kept b p is c (record { event = Take k; said = said }) may.0 tt
step_kept b p (Finishes c) is may =
    subst (λ o. IsKept (finished p c o)) (sym may.1) (finished_kept b p is c may.0 may.1)
step_kept b p (TakesUp c) is may =
    apart_kept b p is c (taking_up (p.row c)) refl may.3
    (takes_up _ _ (p.row c) (is.rows c) (p.row c).door refl may.1 may.2)
step_kept b p (Stands c) is may =
    apart_kept b p is c (stopping Standing (p.row c)) refl may.1
    (stops_is _ _ (p.row c) (is.rows c) Standing (ap is_inside may.0) refl refl refl refl)
step_kept b p (Arms c) is may = arms_kept b p is c may.0 may.1
step_kept b p (Sleeps c) is may =
    apart_kept b p is c (record (p.row c) { stage = Standing }) refl may.1
    (sleeps_is _ _ (p.row c) (is.rows c) (ap has_stopped may.0))
step_kept b p (Delivers k m) is may =
    commanded_kept b p is (Deliver k) (asked.Deliver m) may.1
    (λ i e. subst (λ j. p.lock ≡ Some j → ⊥) (delivered_starts b p.values m i e).1
    (may.2 (delivered_touches b p.values m i e) (delivered_starts b p.values m i e).0))
step_kept b p (Wakes c) is may =
    commanded_kept b p is (Wake c) (asked.Wake (record { number = c }) (words p c))
    (waits_not (words p c == p.values.starts c) may.1)
    (λ i e. subst (λ j. p.lock ≡ Some j → ⊥) (woken_starts b p.values c (words p c) i e) may.2)
step_kept b p (Resets c) is may =
    commanded_kept b p is (Reset c) (asked.Reset (record { number = c })) refl
    (λ i e. subst (λ j. p.lock ≡ Some j → ⊥) (reset_starts_it b p.values c i e) may.1)
step_kept b p (Rouses c) is may =
    let kept : IsKept (gone_to p c (roused_at (stage_at p c))) =
    apart_kept b p is c (record (p.row c) { stage = roused_at (stage_at p c) }) refl
    (λ has. looks_apart (stage_at p c) may.1 (is.held.holder c has))
    (rouses_is _ _ (p.row c) (is.rows c)) in
    record { rows = kept.rows; held = kept.held }
step_kept b p (Rises c) is may = rises_kept b p is c may.1 may.2.0 may.2.1
step_kept b p (Turns c) is may =
    apart_kept b p is c (record (p.row c) { stage = AtDoor }) refl may.1
    (turns_is _ _ (p.row c) (is.rows c) may.0)
step_kept b p (Writes c) is may =
    stays_kept b p is c (record (p.row c) { door = last_start p.values c }) refl refl
    (writes_is _ _ (p.row c) (is.rows c))
step_kept b p (Opens c) is may =
    stays_kept b p is c (record (p.row c) { opened = p.values.starts c; held = false }) refl refl
    (opens_is _ _ (p.row c) (is.rows c) may)
step_kept b p (Cuts level place) is may = record { rows = is.rows; held = is.held }
step_kept b p Restarts is may = first_kept b (p.past ∷ p.before)
step_kept b p Reboots is may = onward_kept b p

pub run_kept : (b : BoardValue) (acts : List Act) → IsPortRun b acts → IsKept (state b acts)
unfolding state
run_kept b [] run = first_kept b []
run_kept b (act ∷ acts) run =
    step_kept b (state b acts) act (run_kept b acts run.1) run.0

-- What follows -----------------------------------------------------------------------------------

pub run_locked : (b : BoardValue) (acts : List Act) → IsPortRun b acts → IsLocked (state b acts)
run_locked b acts run = grind (arith, nat_tests, run_kept, one_inside)

pub run_words : (b : BoardValue) (acts : List Act) → IsPortRun b acts → WordsTell (state b acts)
run_words b acts run = grind (arith, nat_tests, run_kept)

takes_last : (b : BoardValue) (p : Port) (act : Act) → IsKept p → May b p act
    → TakesItsLast p act
takes_last b p act is may = grind (arith, nat_tests)

pub run_takes : (b : BoardValue) (acts : List Act) → IsPortRun b acts → EachTakesItsLast b acts
run_takes b [] run = tt
run_takes b (act ∷ acts) run =
    (takes_last b (state b acts) act (run_kept b acts run.1) run.0, run_takes b acts run.1)

-- Whether a start stands at a door is decided by its fields ---------------------------------------

both : (a b : Bool) → (a && b) ≡ true → (a ≡ true) × (b ≡ true)
both true b e = (refl, e)
both false b e = absurd (false≢true e)

pub shown_is : (d l : Option Start) → is_shown d l ≡ true → d ≡ l
shown_is d l e = grind (arith, nat_tests)

pub shown_itself : (l : Option Start) → is_shown l l ≡ true
shown_itself l = grind (arith, nat_tests)

-- Where no act is due, a port is at rest ----------------------------------------------------------

waits_no_more : (touched stands : Bool) → stands ≡ true → (touched && not stands) ≡ true → ⊥
waits_no_more touched stands e wait = grind (arith, nat_tests)

not_true : (stands : Bool) → stands ≡ true → not stands ≡ true → ⊥
not_true true e wait = false≢true wait
not_true false e wait = false≢true e

module _ (b : BoardValue) (p : Port) (kept : IsKept p) (values : AreValues b p.values)
    (on_board : (c : ℕ) → p.lock ≡ Some c → c < cores b)
    (still : (act : Act) → IsDue b p act → ⊥) where
  -- The lock -------------------------------------------------------------------------------------

  gives_back : (c : ℕ) → p.lock ≡ Some c → (p.row c).begun ≡ None → (y : Stage)
      → stage_at p c ≡ y → ⊥
  gives_back c held none Standing at =
      false≢true (sym (ap may_hold at) ∙ kept.held.holder c held)
  gives_back c held none AtDoor at =
      false≢true (sym (ap may_hold at) ∙ kept.held.holder c held)
  gives_back c held none (Entering s) at =
      still (Enters c Absent) ((on_board c held, (held, none), (s, at)), tt)
  gives_back c held none y at =
      still (Unlocks c) ((held, none), (on_board c held, ap is_entering at))

  none_holds : (c : ℕ) → p.lock ≡ Some c → ⊥
  none_holds c held = by (p.row c).begun refl
    where
      by : (o : Option Record) → (p.row c).begun ≡ o → ⊥
      by None none = gives_back c held none (stage_at p c) refl
      by (Some r) e = still (Finishes c) ((r, e), on_board c held)

  is_free : p.lock ≡ None
  is_free = grind (arith, nat_tests, none_holds)

  -- A core ---------------------------------------------------------------------------------------

  module _ (c : ℕ) (on : c < cores b) where
    is : IsRow (p.values.starts c) (last_start p.values c) (p.row c)
    is = kept.rows c

    -- at its door it has a start that it did not use
    ahead : stage_at p c ≡ AtDoor → (p.row c).used < p.values.starts c
    ahead at = grind (arith, nat_tests)

    -- that is taken up, once it is written and its door is open
    not_at_door : stage_at p c ≡ AtDoor → ⊥
    not_at_door at = by ((p.row c).opened == p.values.starts c) refl
      where
        new : (p.row c).opened ≡ p.values.starts c → (p.row c).opened ≡ (p.row c).used → ⊥
        new opens same = let a = ahead at in omega (arith, a, opens, same)

        free : (t : Bool) → (p.row c).held ≡ t → (p.row c).opened ≡ p.values.starts c → ⊥
        free true e opens = let a = is.closed e in omega (arith, a, opens)
        free false e opens =
            still (TakesUp c) ((ap is_started at, e, ne_eqb _ _ (new opens), none_holds c), on)

        shut : (t : Bool) → is_shown (p.row c).door (last_start p.values c) ≡ t
            → ((p.row c).opened == p.values.starts c) ≡ false → ⊥
        shut true e differs =
            still (Opens c) (shown_is (p.row c).door (last_start p.values c) e, (on, differs))
        shut false e differs = still (Writes c) (differs, (on, e))

        by : (t : Bool) → ((p.row c).opened == p.values.starts c) ≡ t → ⊥
        by true e = free (p.row c).held refl (eqb-true _ _ e)
        by false e = shut (is_shown (p.row c).door (last_start p.values c)) refl e

    quiet : stage_at p c ≡ Standing → IsQuiet p c
    quiet at = grind (arith, nat_tests)

    rests : (y : Stage) → stage_at p c ≡ y → (stage_at p c ≡ Normal) ⊎ IsQuiet p c
    rests Standing at = inr (quiet at)
    rests AtDoor at = absurd (not_at_door at)
    rests (Entering s) at =
        absurd (still (Locks c) ((on, is_free, ap may_hold at), ap is_entering at))
    rests Normal at = inl at
    rests Leaving at = absurd (still (Stands c) ((at, none_holds c), on))
    rests Armed at = absurd (still (Sleeps c) ((at, none_holds c), on))
    rests Woken at = absurd (still (Turns c) ((at, none_holds c), on))

    -- nothing waits for a quiet core
    in_world : (stage_at p c ≡ Normal) ⊎ IsQuiet p c
        → ((words p c == p.values.starts c) ≡ true → ⊥) → stage_at p c ≡ Normal
    in_world (inl at) never = at
    in_world (inr q) never = absurd (never (eq-eqb _ _ q.word))

  pub at_rest : IsAtRest b p
  at_rest = grind (arith, nat_tests, is_free, rests, in_world, waits_no_more, not_true)
