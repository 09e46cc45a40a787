-- What holds of each core between any two acts; and who is started and taken down by what is asked.
use Rattle.psci_ctl_spec.specs.psci_messages.declared.start.Cause.TheVariants as causes
use Rattle.psci_ctl_spec.specs.Replies.{after, delivery_of, effect_of, reply, start_shown}
use Rattle.psci_ctl_spec.specs.Values.{begins_stale}
use Rattle.psci_ctl_spec.specs.declared.call.CtlCall.TheVariants as asked
use Rattle.psci_ctl_spec.specs.declared.delivery.Delivery.TheVariants as deliveries
use Rattle.psci_ctl_spec.specs.declared.kick.Kick.TheVariants as kicks
use Rattle.psci_ctl_spec.specs.declared.reply.CtlReply.TheVariants as replies
use Rattle.psci_ctl_spec.specs.psci_messages.declared.kind.Kind.TheVariants as kinds
use Rattle.psci_port.specs.Stages.{stage_by, started_at}
use Rattle.psci_port.specs.Port.{started, state, step}
use Rattle.psci_port.specs.Waiting.{touches}
use Rattle.psci_port.proofs.Words.{◌&&◌, ◌+◌, ◌<◌, ◌==◌, ◌∙◌, ◌∷◌, ◌≤◌, ◌≡◌, [], ack_by, ack_of}
use Rattle.psci_port.proofs.Words.{Act, ap, AreValues, arith, Armed, AtDoor, Begins, blank}
use Rattle.psci_port.proofs.Words.{BoardValue, Bool, Cause, change, cond, cores, CtlCall, Deepens}
use Rattle.psci_port.proofs.Words.{Effect, Ends, Entering, eqb-true, false, false≢true, first_row}
use Rattle.psci_port.proofs.Words.{first_starts, has_stopped, held_by, is_inside, is_started}
use Rattle.psci_port.proofs.Words.{is_this_life, IsCall, IsFront, IsPortRun, Kick, kick_effect}
use Rattle.psci_port.proofs.Words.{Kind, last_start, List, May, MayFollow, message_effect}
use Rattle.psci_port.proofs.Words.{MessageValue, nat_tests, None, none-some, not, Nothing, Option}
use Rattle.psci_port.proofs.Words.{Part, Port, refl, reset_of, Row, row_by, slice_get, Some, Stage}
use Rattle.psci_port.proofs.Words.{Standing, Start, start_of_life, Starts, subst, switches, sym}
use Rattle.psci_port.proofs.Words.{take, true, Values, waits, wake_of, Woken, ℕ}

pub record IsRow (s : ℕ) (last_one : Option Start) (r : Row) : Type 0 where
  -- it stood in a start that it used, which was opened for it, and counted
  pub stood : r.stopped ≤ r.used
  pub used : r.used ≤ r.opened
  pub opened : r.opened ≤ s
  -- a door that is open for the last start shows it
  pub shows : r.opened ≡ s → r.door ≡ last_one
  -- what is open and not used is the last start, unless the core is held
  pub last : r.held ≡ false → (r.opened ≡ r.used → ⊥) → r.opened ≡ s
  -- it stands by its word exactly in its stop of its last start
  pub still : has_stopped r.stage ≡ true → r.stopped ≡ s
  pub stands : r.stopped ≡ s → has_stopped r.stage ≡ true
  -- inside it used its last start, and what it enters by is that
  pub inside : is_inside r.stage ≡ true → r.used ≡ s
  pub taken : (t : Start) → r.stage ≡ Entering t → last_one ≡ Some t
  -- one that was started has its start before it
  pub ahead : is_started r.stage ≡ true → (last_one ≡ None → ⊥) → r.used < s
  -- and one that is held has its door closed
  pub closed : r.held ≡ true → r.opened < s

-- Which start a core enters by -------------------------------------------------------------------

abbrev pub entering_by : Stage → Option Start
entering_by (Entering s) = Some s
entering_by y = None

pub enters_not : (y : Stage) (t : Start) → entering_by y ≡ None → y ≡ Entering t → ⊥
enters_not y t none e = none-some t (sym none ∙ ap entering_by e)

-- As a life begins -------------------------------------------------------------------------------

pub blank_row : (l : Option Start) → l ≡ None → IsRow 0 l (blank Standing)
blank_row l is = search arith

boot_row : (l : Option Start) → IsRow 1 l (blank AtDoor)
boot_row l = search arith

shows_none : (life : Option ℕ) (cause : Cause) → start_shown life 0 cause ≡ None
shows_none life cause = grind arith

pub first_is : (life : Option ℕ) (c : ℕ)
    → IsRow (first_starts c) (start_shown life (first_starts c) causes.Boot) (first_row c)
first_is life c = by (c == 0)
  where
    by : (t : Bool) → IsRow (cond t 1 0) (start_shown life (cond t 1 0) causes.Boot)
        (cond t (blank AtDoor) (blank Standing))
    by true = boot_row (start_shown life 1 causes.Boot)
    by false = blank_row (start_shown life 0 causes.Boot) (shows_none life causes.Boot)

-- The power controller's acts --------------------------------------------------------------------

-- what is so at the door, and of a woken core, is so once a core was started
pub once_started : (P : Stage → Type 0) → P AtDoor → P Woken → (cause : Cause) (y : Stage)
    → P (stage_by cause y)
once_started P door woken cause y = by cause
  where
    at : (z : Stage) → P (started_at z)
    at Armed = woken
    at Woken = woken
    at y = door

    by : (k : Cause) → P (stage_by k y)
    by causes.Reset = door
    by x = at y

-- a core is started that stands in its last start, or that is held
started_is : (s : ℕ) (l m : Option Start) (r : Row) (cause : Cause)
    → (held_by cause r.held ≡ false → r.stopped ≡ s) → IsRow s l r
    → IsRow (s + 1) m (started cause r)
started_is s l m r cause stood is = record {
  stood = is.stood;
  used = is.used;
  opened = let a = is.opened in omega (arith, a);
  shows = λ e. let a = is.opened in absurd (omega (arith, a, e));
  last = λ free differs.
      let a = is.stood in let b = is.used in let c = is.opened in let e = stood free in
      absurd (differs (omega (arith, a, b, c, e)));
  still = λ e. absurd (false≢true
      (sym (once_started (λ y. has_stopped y ≡ false) refl refl cause r.stage) ∙ e));
  stands = λ e.
      let a = is.stood in let b = is.used in let c = is.opened in
      absurd (omega (arith, a, b, c, e));
  inside = λ e. absurd (false≢true
      (sym (once_started (λ y. is_inside y ≡ false) refl refl cause r.stage) ∙ e));
  taken = λ t e. absurd (enters_not (stage_by cause r.stage) t
      (once_started (λ y. entering_by y ≡ None) refl refl cause r.stage) e);
  ahead = λ e some. let a = is.used in let b = is.opened in omega (arith, a, b);
  closed = λ e. let b = is.opened in omega (arith, b);
}

-- the core that an effect starts in its stop
abbrev pub found_by : ℕ → Cause → Option ℕ
found_by c causes.Reset = None
found_by c x = Some c

abbrev pub found : Effect → Option ℕ
found (Starts c cause) = found_by c cause
found f = None

abbrev pub AreRows : Values → (ℕ → Row) → Type 0
AreRows v row = (c : ℕ) → IsRow (v.starts c) (last_start v c) (row c)

module _ (b : BoardValue) (v : Values) (row : ℕ → Row) (are : AreRows v row) where
  stood_for : (k : ℕ) (cause : Cause)
      → ((c : ℕ) → found_by k cause ≡ Some c → (row c).stopped ≡ v.starts c)
      → held_by cause (row k).held ≡ false → (row k).stopped ≡ v.starts k
  stood_for k causes.Reset stood free = absurd (false≢true (sym free))
  stood_for k x stood free = stood k refl

  start_is : (k c : ℕ) (cause : Cause) (t : Bool) → (c == k) ≡ t
      → (held_by cause (row k).held ≡ false → (row k).stopped ≡ v.starts k)
      → IsRow (cond t (v.starts c + 1) (v.starts c))
      (start_shown v.life (cond t (v.starts c + 1) (v.starts c)) (cond t cause (v.cause c)))
      (cond t (started cause (row c)) (row c))
  start_is k c cause true e stood =
      started_is (v.starts c) (last_start v c) _ (row c) cause
      (subst (λ i. held_by cause (row i).held ≡ false → (row i).stopped ≡ v.starts i)
      (sym (eqb-true c k e)) stood) (are c)
  start_is k c cause false e stood = are c

  -- where a core is started that is not reset, it stands in its last start
  pub effect_is : (f : Effect)
      → ((c : ℕ) → found f ≡ Some c → (row c).stopped ≡ v.starts c)
      → AreRows (change b f v) (λ c. row_by c f (row c))
  effect_is Nothing stood = are
  effect_is (Starts k cause) stood = λ c.
      start_is k c cause (c == k) refl (stood_for k cause stood)
  effect_is (Deepens k ps) stood = are
  effect_is Ends stood = λ c. blank_row None refl
  effect_is Begins stood = λ c. first_is (change b Begins v).life c

  -- what a core does changes its own row
  pub one_is : (c x : ℕ) (r : Row) (t : Bool) → (x == c) ≡ t
      → IsRow (v.starts c) (last_start v c) r
      → IsRow (v.starts x) (last_start v x) (cond t r (row x))
  one_is c x r true e is =
      subst (λ i. IsRow (v.starts i) (last_start v i) r) (sym (eqb-true x c e)) is
  one_is c x r false e is = are x

-- What an effect names ---------------------------------------------------------------------------

-- the core that it starts
abbrev pub starts_core : Effect → Option ℕ
starts_core (Starts c cause) = Some c
starts_core f = None

-- the core that it takes down, and by which parts
abbrev pub down_core : Effect → ℕ
down_core (Starts c cause) = c
down_core (Deepens c ps) = c
down_core f = 0

abbrev pub down_parts : Effect → List Part
down_parts (Deepens c ps) = ps
down_parts f = []

pub some_core : (c d : ℕ) → Some c ≡ Some d → c ≡ d
some_core c d e = grind arith

-- Wake-ups and resets ----------------------------------------------------------------------------

kick_names : (c k : ℕ) (cause : Cause) (kick : Kick)
    → starts_core (kick_effect c cause kick) ≡ Some k → c ≡ k
kick_names c k cause (kicks.Started s) e = some_core c k e
kick_names c k cause kicks.Ignored e = absurd (none-some k e)

kick_downs : (c : ℕ) (cause : Cause) (kick : Kick) (p : Part)
    → slice_get (down_parts (kick_effect c cause kick)) 0 ≡ Some p → ⊥
kick_downs c cause (kicks.Started s) p at = none-some p at
kick_downs c cause kicks.Ignored p at = none-some p at

-- Messages ---------------------------------------------------------------------------------------

waited : (touched stands : Bool) → touched ≡ true → (touched && not stands) ≡ false
    → stands ≡ true
waited touched stands is wait = grind arith

-- a Down of which something is applied is not stale: its first part is live
down_live : (b : BoardValue) (v : Values) (c n : ℕ) (ps : List Part) (p : Part)
    → IsFront b v c (take n ps) → slice_get (take n ps) 0 ≡ Some p
    → not (begins_stale b v c ps) ≡ true
down_live b v c n ps p front at = grind (arith, nat_tests)

start_downs : (t : Bool) (d : ℕ) (p : Part)
    → slice_get (down_parts (cond t Nothing (Starts d causes.On))) 0 ≡ Some p → ⊥
start_downs true d p at = none-some p at
start_downs false d p at = none-some p at

reset_downs : (t : Bool) (p : Part) → slice_get (down_parts (cond t Begins Ends)) 0 ≡ Some p → ⊥
reset_downs true p at = none-some p at
reset_downs false p at = none-some p at

reset_starts : (t : Bool) (k : ℕ) → starts_core (cond t Begins Ends) ≡ Some k → ⊥
reset_starts true k e = none-some k e
reset_starts false k e = none-some k e

module _ (b : BoardValue) (v : Values) (m : MessageValue) (stands : Bool) where
  -- what a message of this kind comes down to
  abbrev made : Kind → Effect
  made k = message_effect b m (ack_by b v m k) k

  -- only a Start starts a core
  made_starts : (k : Kind) (c : ℕ) → starts_core (made k) ≡ Some c
      → (k ≡ kinds.Start) × (m.core.number ≡ c)
  made_starts k c e = grind (arith, nat_tests)

  follows : (t : Bool) (c : ℕ) → (t && not stands) ≡ false
      → starts_core (message_effect b m (cond t (ack_of m 1 false) (ack_of m 0 true)) kinds.Start)
      ≡ Some c
      → stands ≡ true
  follows true c wait e = waited true stands refl wait
  follows false c wait e = absurd (none-some c e)

  made_stood : (k : Kind) (c : ℕ) → (switches b v m k && not stands) ≡ false
      → starts_core (made k) ≡ Some c → stands ≡ true
  made_stood k c wait e = grind (arith, nat_tests)

  -- only a Down takes one down
  made_downs : (k : Kind) (p : Part) → MayFollow b v (made k)
      → (switches b v m k && not stands) ≡ false
      → slice_get (down_parts (made k)) 0 ≡ Some p
      → stands ≡ true
  made_downs k p may wait at = grind (arith, nat_tests, waited, down_live, start_downs, reset_downs)

  -- all of this of a message of this life; one of another life is ignored
  abbrev done : Bool → Effect
  done t = effect_of b (asked.Deliver m)
      (replies.Delivery (cond t (deliveries.Applied (ack_by b v m m.kind)) deliveries.Ignored))

  done_starts : (t : Bool) (c : ℕ) → starts_core (done t) ≡ Some c
      → (m.kind ≡ kinds.Start) × (m.core.number ≡ c)
  unfolding effect_of
  done_starts true c e = made_starts m.kind c e
  done_starts false c e = absurd (none-some c e)

  done_stood : (t : Bool) (c : ℕ) → ((t && switches b v m m.kind) && not stands) ≡ false
      → starts_core (done t) ≡ Some c → stands ≡ true
  unfolding effect_of
  done_stood true c wait e = made_stood m.kind c wait e
  done_stood false c wait e = absurd (none-some c e)

  done_downs : (t : Bool) (p : Part) → MayFollow b v (done t)
      → ((t && switches b v m m.kind) && not stands) ≡ false
      → slice_get (down_parts (done t)) 0 ≡ Some p → stands ≡ true
  unfolding effect_of
  done_downs true p may wait at = made_downs m.kind p may wait at
  done_downs false p may wait at = absurd (none-some p at)

  done_core : (t : Bool) (p : Part) → slice_get (down_parts (done t)) 0 ≡ Some p
      → down_core (done t) ≡ m.core.number
  unfolding effect_of
  done_core t p at = grind (arith, nat_tests)

-- All calls --------------------------------------------------------------------------------------

module _ (b : BoardValue) (v : Values) (word : ℕ → ℕ) where
  abbrev stands_there : ℕ → Bool
  stands_there c = word c == v.starts c

  same_core : (c d : ℕ) → c ≡ d → stands_there c ≡ true → word d ≡ v.starts d
  same_core c d e stands = subst (λ i. word i ≡ v.starts i) e (eqb-true _ _ stands)

  -- a core that is started, and not reset, stands by its word
  pub all_found : (call : CtlCall) → waits b v word call ≡ false → (c : ℕ)
      → found (effect_of b call (reply b v call)) ≡ Some c → word c ≡ v.starts c
  unfolding reply delivery_of effect_of
  all_found call wait c e = grind (arith, nat_tests)

  -- a core that is taken down does
  pub all_down : (call : CtlCall) → MayFollow b v (effect_of b call (reply b v call))
      → waits b v word call ≡ false → (p : Part)
      → slice_get (down_parts (effect_of b call (reply b v call))) 0 ≡ Some p
      → word (down_core (effect_of b call (reply b v call)))
      ≡ v.starts (down_core (effect_of b call (reply b v call)))
  unfolding reply delivery_of effect_of
  all_down call may wait p at =
      grind (arith, nat_tests, same_core, done_core, done_downs, kick_downs)

-- who is started by a message, a wake-up or a reset
pub delivered_starts : (b : BoardValue) (v : Values) (m : MessageValue) (c : ℕ)
    → starts_core (effect_of b (asked.Deliver m) (reply b v (asked.Deliver m))) ≡ Some c
    → (m.kind ≡ kinds.Start) × (m.core.number ≡ c)
unfolding reply delivery_of
delivered_starts b v m c e = done_starts b v m true (is_this_life v.life m.life) c e

-- and such a message touches its core's present start
pub delivered_touches : (b : BoardValue) (v : Values) (m : MessageValue) (c : ℕ)
    → starts_core (effect_of b (asked.Deliver m) (reply b v (asked.Deliver m))) ≡ Some c
    → touches b v m ≡ true
unfolding reply delivery_of
delivered_touches b v m c e = by (touches b v m) refl
  where
    by : (t : Bool) → touches b v m ≡ t → touches b v m ≡ true
    by true is = is
    by false is =
        absurd (false≢true (done_stood b v m false (is_this_life v.life m.life) c
        (ap (λ t. t && true) is) e))

pub woken_starts : (b : BoardValue) (v : Values) (c halted k : ℕ)
    → starts_core (effect_of b (asked.Wake (record { number = c }) halted)
    (reply b v (asked.Wake (record { number = c }) halted))) ≡ Some k
    → c ≡ k
unfolding reply effect_of
woken_starts b v c halted k e = kick_names c k causes.Wake (wake_of b v c halted) e

pub reset_starts_it : (b : BoardValue) (v : Values) (c k : ℕ)
    → starts_core (effect_of b (asked.Reset (record { number = c }))
    (reply b v (asked.Reset (record { number = c })))) ≡ Some k
    → c ≡ k
unfolding reply effect_of
reset_starts_it b v c k e = kick_names c k causes.Reset (reset_of b v c) e

-- Valued ------------------------------------------------------------------------------------------
-- What the power controller of a port keeps is as one keeps it; and who has the lock is a core of
-- the board.

-- The lock ---------------------------------------------------------------------------------------

abbrev OnBoard : BoardValue → Option ℕ → Type 0
OnBoard b lock = (c : ℕ) → lock ≡ Some c → c < cores b

none_on : (b : BoardValue) → OnBoard b None
none_on b c e = absurd (none-some c e)

step_on : (b : BoardValue) (p : Port) (act : Act) → OnBoard b p.lock → May b p act
    → OnBoard b (step b p act).lock
unfolding step
step_on b p act is may = grind (arith, nat_tests)

pub run_on : (b : BoardValue) (acts : List Act) → IsPortRun b acts
    → (c : ℕ) → (state b acts).lock ≡ Some c → c < cores b
unfolding state
run_on b [] run = none_on b
run_on b (act ∷ acts) run = step_on b (state b acts) act (run_on b acts run.1) run.0

-- The power controller's values ------------------------------------------------------------------

module _ (b : BoardValue) (first : AreValues b (start_of_life b))
    (follow : (v : Values) (f : Effect) → AreValues b v → MayFollow b v f
    → AreValues b (change b f v))
    (told : (v : Values) (call : CtlCall) → AreValues b v → IsCall b call
    → AreValues b (after b call (reply b v call) v)) where
  call_valued : (p : Port) (call : CtlCall) → AreValues b p.values → IsCall b call
      → AreValues b (change b (effect_of b call (reply b p.values call)) p.values)
  unfolding after
  call_valued p call is can = told p.values call is can

  step_valued : (p : Port) (act : Act) → AreValues b p.values → May b p act
      → AreValues b (step b p act).values
  unfolding step
  step_valued p act is may = grind (arith, nat_tests, call_valued)

  pub run_valued : (acts : List Act) → IsPortRun b acts → AreValues b (state b acts).values
  unfolding state
  run_valued [] run = first
  run_valued (act ∷ acts) run = step_valued (state b acts) act (run_valued acts run.1) run.0
