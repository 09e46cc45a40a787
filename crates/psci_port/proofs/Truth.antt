-- A true run of a port, seen through its calls, is a legal run of the world.
use Rattle.std.proofs.Common.{unwrap_or}
use Rattle.std.proofs.lemmas.Bool.{eqb-false}
use Rattle.psci_ctl_spec.specs.Replies.{after, effect_of, reply}
use Rattle.psci_ctl_spec.specs.declared.call.CtlCall.TheVariants as asked
use Rattle.psci_world_spec.specs.psci_fw_spec.declared.call.FwCall.TheVariants as calls
use Rattle.psci_world_spec.specs.Legal.{acks, controller_history, legal, place, place_said}
use Rattle.psci_world_spec.specs.psci_fw_spec.Effects as later
use Rattle.psci_world_spec.specs.psci_fw_spec.History as firmware
use Rattle.psci_headline.specs.Safe.{AlwaysSafe}
use Rattle.psci_port.specs.Port.{state, step, told}
use Rattle.psci_port.specs.Kept.{AreLegal, AreSafe}
use Rattle.psci_port.specs.Rebooted.{rebooted}
use Rattle.psci_port.specs.Resting.{total}
use Rattle.psci_port.specs.Rules.{IsTrue}
use Rattle.psci_port.proofs.Words.{◌+◌, ◌<◌, ◌==◌, ◌∙◌, ◌∷◌, ◌≤◌, ◌≡◌, [], AckValue, Act, ap}
use Rattle.psci_port.proofs.Words.{AreTrue, arith, Armed, Arms, asked_firmware, AtDoor, begins}
use Rattle.psci_port.proofs.Words.{BoardValue, Bool, Call, Calls, cold, commanded, cond}
use Rattle.psci_port.proofs.Words.{controller_values, cores, CtlCall, CtlExchange, Deliver}
use Rattle.psci_port.proofs.Words.{Delivers, Effect, ended, Enter, Entering, Enters, eqb-true}
use Rattle.psci_port.proofs.Words.{Event, false, finished, Finishes, FwExchange, going_on, gone_to}
use Rattle.psci_port.proofs.Words.{has_stopped, indexed, is_started, IsBoard, IsLegalPast}
use Rattle.psci_port.proofs.Words.{IsPortRun, length, List, May, nat_tests, None, none-some, Opens}
use Rattle.psci_port.proofs.Words.{Option, place_of, Port, Reboots, Record, refl, Reset, Resets}
use Rattle.psci_port.proofs.Words.{Restarts, Rises, rising, roused_at, Rouses, Row, row_by, runs}
use Rattle.psci_port.proofs.Words.{Said, said_by, Sleeps, Some, Stage, stage_at, stage_in}
use Rattle.psci_port.proofs.Words.{stage_said, Standing, Stands, Start, start_of_life, Stopped}
use Rattle.psci_port.proofs.Words.{stopping, subst, suc, sym, Take, Takes, TakesUp, taking_up, true}
use Rattle.psci_port.proofs.Words.{Turns, Values, values_of, Wake, Wakes, with_row, woken, words}
use Rattle.psci_port.proofs.Words.{Writes, zero, ℕ}
use Rattle.psci_port.proofs.Running.{first_begun, Fits, IsKept, looks_apart, not_inside, run_kept}
use Rattle.psci_port.proofs.Records.{call_legal, deliver_legal, enter_legal, Moves, moves, Names}
use Rattle.psci_port.proofs.Records.{reset_legal, roused_place, Spares, take_legal, told_spares}
use Rattle.psci_port.proofs.Records.{wake_legal}
use Rattle.psci_port.proofs.Rebooting.{are_rebooted, goes_on, IsRebooted, life_values}
use Rattle.psci_port.proofs.Rebooting.{rebooted_legal}

-- what a call is going to say is what the firmware says now
abbrev pub IsDue : BoardValue → List Record → ℕ → Event → Said → Stage → Type 0
IsDue b past c (Call d regs) said y =
    (c < cores b) × (said ≡ asked_firmware b past c (calls.Smc regs))
IsDue b past c (Enter d) said y = (c < cores b) × ((s : Start) × (y ≡ Entering s)
    × (said ≡ asked_firmware b past c (calls.Enter s)))
IsDue b past c (Take k) said y = (a : AckValue) × (indexed (acks past) k ≡ Some a)
    × (said ≡ asked_firmware b past 0 (calls.Take a))
IsDue b past c event said y = ⊥

-- where a call was begun
abbrev DueIn : BoardValue → List Record → ℕ → Option Record → Stage → Type 0
DueIn b past c None y = Unit {0}
DueIn b past c (Some r) y = IsDue b past c r.event r.said y

pub record IsMirror (b : BoardValue) (p : Port) : Type 0 where
  pub values : controller_values b p.past ≡ p.values
  pub legal : AreLegal b (runs p)
  pub places : (c : ℕ) → place b p.past c ≡ place_of (stage_at p c)
  pub due : (c : ℕ) (r : Record) → (p.row c).begun ≡ Some r
      → IsDue b p.past c r.event r.said (stage_at p c)

-- One core's row ---------------------------------------------------------------------------------

module _ (b : BoardValue) (p : Port) (is : IsMirror b p) where
  module _ (c : ℕ) (r : Row) (same : place_of (stage_at p c) ≡ place_of r.stage)
      (due : (q : Record) → r.begun ≡ Some q → IsDue b p.past c q.event q.said r.stage) where
    pub row_world : IsMirror b (with_row p c r)
    row_world = grind (arith, nat_tests)

  -- it begins a call
  pub begin_world : (c : ℕ) (r : Record) → IsDue b p.past c r.event r.said (stage_at p c)
      → IsMirror b (begins p c r)
  begin_world c r due = grind (arith, nat_tests)

  -- it stays where it is
  pub stays_world : (c : ℕ) (r : Row) → r.stage ≡ stage_at p c → r.begun ≡ (p.row c).begun
      → IsMirror b (with_row p c r)
  stays_world c r same begun = grind (arith, nat_tests)

  -- it is inside no call, and goes where the world sees no difference
  pub goes_world : (c : ℕ) (r : Row) → place_of (stage_at p c) ≡ place_of r.stage
      → ((q : Record) → r.begun ≡ Some q → ⊥) → IsMirror b (with_row p c r)
  goes_world c r same none = row_world c r same (λ q at. absurd (none q at))

-- A call of the firmware ends --------------------------------------------------------------------

module _ (b : BoardValue) (p : Port) (is : IsMirror b p) (kept : IsKept p) (c : ℕ) (r : Record)
    (at : (p.row c).begun ≡ Some r) where
  abbrev Placed : ℕ → Event → Said → Type 0
  Placed x event said = unwrap_or (place_said x event said) (place b p.past x)
      ≡ place_of (cond (x == c) (record (p.row c) {
        begun = None;
        stage = stage_said event said (stage_at p c);
      }) (p.row x)).stage

  own_place : (x : ℕ) (event : Event) (said : Said) → Fits c event (stage_at p c)
      → Placed x event said
  own_place x event said fits = grind (arith, nat_tests)

  own_legal : (event : Event) (said : Said) → Fits c event (stage_at p c)
      → IsDue b p.past c event said (stage_at p c) → said ≡ legal b p.past event
  own_legal event said fits due = grind (arith, nat_tests, call_legal, enter_legal, take_legal)

  own_values : (event : Event) (said : Said) → Fits c event (stage_at p c)
      → (controller_values b (record { event = event; said = said } ∷ p.past)
      ≡ controller_values b p.past)
      × ((x : ℕ) → place b (record { event = event; said = said } ∷ p.past) x
      ≡ unwrap_or (place_said x event said) (place b p.past x))
  unfolding controller_history place
  own_values event said fits = grind (arith, nat_tests)

  none_due : (x : ℕ) (q : Record) (t : Bool) → (x == c) ≡ t
      → (cond t (ended r (p.row c)) (p.row x)).begun ≡ Some q → ⊥
  none_due x q t e begun = grind (arith, nat_tests)

  pub end_world : IsMirror b (finished p c (Some r))
  end_world =
      let fits : Fits c r.event (stage_at p c) = kept.held.fits c r at in
      let leaves = own_values r.event r.said fits in
      record {
        values = leaves.0 ∙ is.values;
        legal = ((own_legal r.event r.said fits (is.due c r at), is.legal.0), is.legal.1);
        places = λ x. leaves.1 x ∙ own_place x r.event r.said fits;
        due = λ x q e. absurd (none_due x q (x == c) refl e);
      }

-- The power controller is asked ------------------------------------------------------------------

module _ (b : BoardValue) (more : (e : CtlExchange) (h : List CtlExchange)
    → values_of b (e ∷ h) ≡ after b e.call e.reply (values_of b h)) where
  stays_due : (past : List Record) (r q : Record) (c : ℕ) (y : Stage) → Spares b past r
      → IsDue b past c q.event q.said y → IsDue b (r ∷ past) c q.event q.said y
  stays_due past r q c y spares due = grind (arith, nat_tests)

  module _ (p : Port) (is : IsMirror b p) (event : Event) (call : CtlCall)
      (names : Names p.past event call) where
    abbrev r : Record
    r = told b p event call

    abbrev f : Effect
    f = effect_of b call (reply b p.values call)

    call_moves : Moves b p.past r f p.values
    call_moves =
        subst (λ (v : Values). Moves b p.past (record {
          event = event;
          said = said_by (length (acks p.past)) (reply b v call);
        }) (effect_of b call (reply b v call)) v) is.values (moves b p.past more event call names)

    moved_due : (g : Effect) (c : ℕ) (q : Record) → (row_by c g (p.row c)).begun ≡ Some q
        → IsDue b (r ∷ p.past) c q.event q.said (row_by c g (p.row c)).stage
    moved_due g c q e = grind (arith, nat_tests, stays_due, told_spares, length, first_begun)

    command_world : said_by (length (acks p.past)) (reply b (controller_values b p.past) call)
        ≡ legal b p.past event
        → IsMirror b (commanded b p event call)
    command_world so = grind (arith, nat_tests, call_moves, length, moved_due)

-- All acts ---------------------------------------------------------------------------------------

stopped_place : (y : Stage) → has_stopped y ≡ true → place_of y ≡ Stopped
stopped_place y e = grind (arith, nat_tests)

door_place : (y : Stage) (d : Option Start) → is_started y ≡ true
    → place_of y ≡ place_of (stage_in d)
door_place y d at = grind (arith, nat_tests)

first_world : (b : BoardValue) (before : List (List Record)) → values_of b [] ≡ start_of_life b
    → AreLegal b before → IsMirror b (cold b before)
unfolding controller_history place
first_world b before begin legal = grind (arith, nat_tests)

-- the power controller goes on, after a run that only reset the system
onward_world : (b : BoardValue) (p : Port) (n : ℕ) → IsRebooted b n (rebooted b n)
    → p.values.life ≡ Some n → AreLegal b (runs p) → IsMirror b (going_on b p)
onward_world b p n is life legal =
    grind (arith, nat_tests, life_values, goes_on, rebooted_legal, first_begun)

module _ (b : BoardValue) (begin : values_of b [] ≡ start_of_life b)
    (more : (e : CtlExchange) (h : List CtlExchange)
    → values_of b (e ∷ h) ≡ after b e.call e.reply (values_of b h))
    (remembers : (e : FwExchange) (h : List FwExchange)
    → firmware.values_of b (e ∷ h) ≡ later.after b e.core e.call e.reply (firmware.values_of b h))
    (some : IsBoard b → 0 < cores b) where
  -- who has not the lock is inside no call
  apart : (p : Port) (c : ℕ) → IsKept p → (p.lock ≡ Some c → ⊥) → (q : Record)
      → (p.row c).begun ≡ Some q → ⊥
  apart p c kept lacks q e = not_inside p.lock p.row p.whole kept.held c q lacks e

  -- an armed core wakes itself
  rises_world : (p : Port) (c : ℕ) → IsKept p → IsMirror b p → c < cores b
      → stage_at p c ≡ Armed → IsMirror b (rising b p c)
  rises_world p c kept is has at =
      let stands : words p c ≡ p.values.starts c = (kept.rows c).still (ap has_stopped at) in
      let world : IsMirror b (woken b p c) =
      command_world b more p is (Wake c) (asked.Wake (record { number = c }) (words p c)) refl
      (wake_legal b p.past c (words p c) has (is.places c ∙ ap place_of at)
      (stands ∙ ap (λ (v : Values). v.starts c) (sym is.values))) in
      record {
        values = world.values;
        legal = world.legal;
        places = world.places;
        due = world.due;
      }

  step_world : (p : Port) (act : Act) → IsKept p → IsMirror b p → May b p act → IsTrue b p act
      → IsMirror b (step b p act)
  unfolding step
  step_world p (Calls c regs said) kept is may so =
      begin_world b p is c (record { event = Call c regs; said = said }) (may.0, so)
  step_world p (Enters c said) kept is may so =
      begin_world b p is c (record { event = Enter c; said = said })
      (may.0, (may.2.0, may.2.1, so may.2.0 may.2.1))
  step_world p (Takes c k said) kept is may so =
      begin_world b p is c (record { event = Take k; said = said }) so
  step_world p (Finishes c) kept is may so =
      subst (λ o. IsMirror b (finished p c o)) (sym may.1) (end_world b p is kept c may.0 may.1)
  step_world p (TakesUp c) kept is may so =
      goes_world b p is c (taking_up (p.row c))
      (door_place (stage_at p c) (p.row c).door may.0) (apart p c kept may.3)
  step_world p (Stands c) kept is may so =
      goes_world b p is c (stopping Standing (p.row c)) (ap place_of may.0) (apart p c kept may.1)
  step_world p (Arms c) kept is may so =
      goes_world b p is c (stopping Armed (p.row c)) (ap place_of may.0)
      (λ q e. none-some q (sym may.1 ∙ e))
  step_world p (Sleeps c) kept is may so =
      goes_world b p is c (record (p.row c) { stage = Standing }) (ap place_of may.0)
      (apart p c kept may.1)
  step_world p (Delivers k m) kept is may so =
      command_world b more p is (Deliver k) (asked.Deliver m) so (deliver_legal b p.past k m so)
  step_world p (Wakes c) kept is may so =
      let stands : words p c ≡ p.values.starts c = eqb-true _ _ may.1 in
      command_world b more p is (Wake c) (asked.Wake (record { number = c }) (words p c)) refl
      (wake_legal b p.past c (words p c) may.0
      (is.places c ∙ stopped_place (stage_at p c) ((kept.rows c).stands stands))
      (stands ∙ ap (λ (v : Values). v.starts c) (sym is.values)))
  step_world p (Resets c) kept is may so =
      command_world b more p is (Reset c) (asked.Reset (record { number = c })) refl
      (reset_legal b p.past c may.0)
  step_world p (Rouses c) kept is may so =
      let gone : IsMirror b (gone_to p c (roused_at (stage_at p c))) =
      goes_world b p is c (record (p.row c) { stage = roused_at (stage_at p c) })
      (roused_place (stage_at p c))
      (apart p c kept (λ has. looks_apart (stage_at p c) may.1 (kept.held.holder c has))) in
      record {
        values = gone.values;
        legal = gone.legal;
        places = gone.places;
        due = gone.due;
      }
  step_world p (Rises c) kept is may so =
      rises_world p c kept is may.0 may.1
  step_world p (Turns c) kept is may so =
      goes_world b p is c (record (p.row c) { stage = AtDoor }) (ap place_of may.0)
      (apart p c kept may.1)
  step_world p (Writes c) kept is may so = stays_world b p is c _ refl refl
  step_world p (Opens c) kept is may so = stays_world b p is c _ refl refl
  step_world p Restarts kept is may so = first_world b (p.past ∷ p.before) begin is.legal
  step_world p Reboots kept is may so =
      onward_world b p may.1.0
      (are_rebooted b more remembers (some may.0) may.0.some_starts begin may.1.0 may.1.1.1)
      may.1.1.0 is.legal
  step_world p act kept is may so =
      record { values = is.values; legal = is.legal; places = is.places; due = is.due }

  pub run_world : (acts : List Act) → IsPortRun b acts → AreTrue b acts → IsMirror b (state b acts)
  unfolding state
  run_world [] run so = first_world b [] begin tt
  run_world (act ∷ acts) run so =
      step_world (state b acts) act (run_kept b acts run.1) (run_world acts run.1 so.1) run.0 so.0

  pub run_legal : (acts : List Act) → IsPortRun b acts → AreTrue b acts
      → AreLegal b (runs (state b acts))
  run_legal acts run so = (run_world acts run so).legal

pub all_safe : (b : BoardValue) (pasts : List (List Record))
    → ((past : List Record) → IsLegalPast b past → AlwaysSafe b past)
    → AreLegal b pasts → AreSafe b pasts
all_safe b [] safe legal = tt
all_safe b (past ∷ pasts) safe legal =
    (safe past legal.0, all_safe b pasts safe legal.1)

-- Sums over the first cores, of which no part is more, or one is less -----------------------------

pub same_le : (i j : ℕ) → i ≡ j → i ≤ j
same_le i j e = omega (arith, e)

pub total_le : (f g : ℕ → ℕ) (n : ℕ) → ((x : ℕ) → x < n → g x ≤ f x) → total g n ≤ total f n
unfolding total
total_le f g zero low = omega arith
total_le f g (suc n) low =
    let own = low n (omega arith) in
    let rest = total_le f g n (λ x is. low x (omega (arith, is))) in
    omega (arith, own, rest)

pub total_less : (f g : ℕ → ℕ) (c n : ℕ) → c < n → g c < f c
    → ((x : ℕ) → x < n → (x ≡ c → ⊥) → g x ≤ f x) → total g n < total f n
unfolding total
total_less f g c zero has less low = absurd (omega (arith, has))
total_less f g c (suc n) has less low =
    by (c == n) refl
    (λ is. total_less f g c n is less (λ x at ne. low x (omega (arith, at)) ne))
  where
    below : (c == n) ≡ false → c < n
    below e = let differs = eqb-false c n e in grind (arith, has, differs)

    by : (t : Bool) → (c == n) ≡ t → (c < n → total g n < total f n)
        → g n + total g n < f n + total f n
    by true e more =
        let at : c ≡ n = eqb-true c n e in
        let own = subst (λ i. g i < f i) at less in
        let rest = total_le f g n
        (λ x is. low x (omega (arith, is)) (λ same. omega (arith, is, same, at))) in
        omega (arith, own, rest)
    by false e more =
        let own = low n (omega arith) (λ same. eqb-false c n e (sym same)) in
        let all = more (below e) in
        omega (arith, own, all)
