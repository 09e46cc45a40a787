-- No power goes under a core that executes.
use Rattle.psci_board.specs.Board.{PathLaws}
use Rattle.psci_ctl_spec.specs.Replies.{effect_of, reply}
use Rattle.psci_ctl_spec.specs.Values.{depth_or}
use Rattle.psci_ctl_spec.specs.declared.call.CtlCall.TheVariants as asked
use Rattle.psci_ctl_spec.proofs.Sums.{path_place}
use Rattle.psci_port.specs.Stages.{executes, is_armed}
use Rattle.psci_port.specs.Port.{cut_by, first_cut, moved, roused, state, step}
use Rattle.psci_port.specs.Rules.{HasLock, NoneArmed}
use Rattle.psci_port.proofs.Words.{◌&&◌, ◌+◌, ◌<◌, ◌==◌, ◌∙◌, ◌∷◌, ◌≤◌, ◌≡◌, [], Act, ap, arith}
use Rattle.psci_port.proofs.Words.{Armed, Arms, AtDoor, Begins, begins, BoardValue, Bool, Calls}
use Rattle.psci_port.proofs.Words.{Cause, change, cold, commanded, cond, cond-true, core_left}
use Rattle.psci_port.proofs.Words.{cores, CtlCall, Cuts, Deepens, Deliver, Delivers, Effect, ended}
use Rattle.psci_port.proofs.Words.{Ends, Enters, eq-eqb, eqb-true, Event, false, false≢true}
use Rattle.psci_port.proofs.Words.{finished, Finishes, first_depth, first_row, has_lock}
use Rattle.psci_port.proofs.Words.{has_stopped, height, is_on_path, IsCall, IsFront, IsPortRun}
use Rattle.psci_port.proofs.Words.{laid, List, Locks, May, MayFollow, nat_tests, None, NoneCut}
use Rattle.psci_port.proofs.Words.{Normal, not, Nothing, Opens, Option, Part, Port, Reboots, Record}
use Rattle.psci_port.proofs.Words.{refl, Reset, Resets, Restarts, Rises, rising, Rouses, Row}
use Rattle.psci_port.proofs.Words.{row_by, row_left, Said, Sleeps, slice_get, Some, Stage, stage_at}
use Rattle.psci_port.proofs.Words.{stage_in, Standing, Stands, Start, start_of_life, Starts}
use Rattle.psci_port.proofs.Words.{stopping, subst, suc, sym, Take, Takes, TakesUp, taking_up, true}
use Rattle.psci_port.proofs.Words.{Turns, Unlocks, up, Values, waits, Wake, Wakes, with_row, words}
use Rattle.psci_port.proofs.Words.{Writes, zero, ℕ}
use Rattle.psci_port.proofs.Rows.{all_down, down_core, down_parts}
use Rattle.psci_port.proofs.Running.{Fits, IsKept, run_kept}
use Rattle.psci_port.proofs.Records.{open_moves}

-- What was taken down, and what of it has no power: w says which cores have not said that they
-- stand, and a which are armed.
pub record IsPowered (b : BoardValue) (v : Values) (w a : ℕ → Bool) (cut : ℕ → ℕ → Bool)
    : Type 0 where
  -- a core that is not fully on has said that it stands
  pub alone : (c : ℕ) → c < cores b → 0 < v.depth 0 (up b 0 c) → w c ≡ false
  -- a domain that is not fully on has below it none that is
  pub nested : (c k : ℕ) → c < cores b → k < height b → 0 < v.depth (suc k) (up b (suc k) c)
      → 0 < v.depth k (up b k c)
  -- what has no power was taken down, and not above an armed core
  pub told : (k place : ℕ) → cut k place ≡ true → 0 < v.depth k place
  pub spared : (c k : ℕ) → c < cores b → k ≤ height b → a c ≡ true → cut k (up b k c) ≡ false

-- Which cores move -------------------------------------------------------------------------------

abbrev pub moves : (ℕ → Row) → ℕ → Bool
moves row c = not (has_stopped (row c).stage)

abbrev pub arms : (ℕ → Row) → ℕ → Bool
arms row c = is_armed (row c).stage

pub first_powered : (b : BoardValue) (v : Values) → PathLaws b → v.depth ≡ first_depth b
    → IsPowered b v (moves first_row) (arms first_row) (first_cut b)
first_powered b v laws depth = grind (arith, nat_tests)

-- A core is started ------------------------------------------------------------------------------

module _ (b : BoardValue) (v : Values) (row : ℕ → Row) (cut : ℕ → ℕ → Bool) (laws : PathLaws b)
    (is : IsPowered b v (moves row) (arms row) cut) where
  start_powered : (d : ℕ) (cause : Cause)
      → IsPowered b (change b (Starts d cause) v) (moves (λ c. row_by c (Starts d cause) (row c)))
      (arms (λ c. row_by c (Starts d cause) (row c)))
      (λ k place. cut_by b k place (Starts d cause) (cut k place))
  start_powered d cause = grind (arith, nat_tests)

  -- Parts are applied ----------------------------------------------------------------------------

  module _ (d : ℕ) (ps : List Part) (front : IsFront b v d ps) where
    laid_alone : (c : ℕ) (t : Bool) (o : Option Part) → is_on_path b d 0 (up b 0 c) ≡ t
        → slice_get ps 0 ≡ o
        → ((p : Part) → slice_get ps 0 ≡ Some p → moves row d ≡ false)
        → (0 < v.depth 0 (up b 0 c) → moves row c ≡ false)
        → 0 < cond t (depth_or o (v.depth 0 (up b 0 c))) (v.depth 0 (up b 0 c))
        → moves row c ≡ false
    laid_alone c true (Some p) on at own before deep =
        subst (λ y. moves row y ≡ false)
        (sym (laws.core d) ∙ path_place b d 0 (up b 0 c) on ∙ laws.core c) (own p at)
    laid_alone c true None on at own before deep = before deep
    laid_alone c false o on at own before deep = before deep

    laid_least : (k place : ℕ) → 0 < v.depth k place → 0 < laid b d ps v.depth k place
    laid_least k place deep = grind (arith, nat_tests)

    laid_nested : (c k : ℕ) (t : Bool) (o : Option Part) → c < cores b
        → is_on_path b d (suc k) (up b (suc k) c) ≡ t → slice_get ps (suc k) ≡ o
        → (0 < v.depth (suc k) (up b (suc k) c) → 0 < v.depth k (up b k c))
        → 0 < cond t (depth_or o (v.depth (suc k) (up b (suc k) c)))
        (v.depth (suc k) (up b (suc k) c))
        → 0 < laid b d ps v.depth k (up b k c)
    laid_nested c k true (Some p) has on at before deep =
        let least : 0 < p.depth = front.least (suc k) p at in
        let most = front.covered k c p at has (sym (path_place b d (suc k) _ on)) in
        omega (arith, least, most)
    laid_nested c k true None has on at before deep = laid_least k (up b k c) (before deep)
    laid_nested c k false o has on at before deep = laid_least k (up b k c) (before deep)

    laid_powered : ((p : Part) → slice_get ps 0 ≡ Some p → moves row d ≡ false)
        → IsPowered b (change b (Deepens d ps) v) (moves row) (arms row) cut
    laid_powered own = record {
      alone = λ c has deep.
          laid_alone c (is_on_path b d 0 (up b 0 c)) (slice_get ps 0) refl refl own
          (is.alone c has) deep;
      nested = λ c k has low deep.
          laid_nested c k (is_on_path b d (suc k) (up b (suc k) c)) (slice_get ps (suc k)) has refl
          refl (is.nested c k has low) deep;
      told = λ k place e. laid_least k place (is.told k place e);
      spared = is.spared;
    }

  -- where the core that is taken down has said that it stands, all holds on
  pub effect_powered : (f : Effect) → MayFollow b v f
      → ((p : Part) → slice_get (down_parts f) 0 ≡ Some p → moves row (down_core f) ≡ false)
      → IsPowered b (change b f v) (moves (λ c. row_by c f (row c)))
      (arms (λ c. row_by c f (row c)))
      (λ k place. cut_by b k place f (cut k place))
  effect_powered Nothing may own = is
  effect_powered (Starts d cause) may own = start_powered d cause
  effect_powered (Deepens d ps) may own = laid_powered d ps may.0 own
  effect_powered Ends may own = record {
    alone = λ c has deep. refl;
    nested = is.nested;
    told = is.told;
    spared = λ c k has low e. absurd (false≢true e);
  }
  effect_powered Begins may own = first_powered b (change b Begins v) laws refl

-- What follows -----------------------------------------------------------------------------------

module _ (b : BoardValue) (v : Values) (row : ℕ → Row) (cut : ℕ → ℕ → Bool)
    (is : IsPowered b v (moves row) (arms row) cut) where
  down_to : (c k : ℕ) → c < cores b → k ≤ height b → 0 < v.depth k (up b k c)
      → 0 < v.depth 0 (up b 0 c)
  down_to c zero has low deep = deep
  down_to c (suc k) has low deep =
      down_to c k has (omega (arith, low)) (is.nested c k has (omega (arith, low)) deep)

  on : (n : ℕ) → (0 < n → ⊥) → n ≡ 0
  on zero never = refl
  on (suc n) never = absurd (never (omega arith))

  -- above a core that has not said that it stands nothing was taken down
  pub all_awake : (c k : ℕ) → c < cores b → k ≤ height b → moves row c ≡ true
      → v.depth k (up b k c) ≡ 0
  all_awake c k has low is_moving =
      on (v.depth k (up b k c)) (λ deep.
      false≢true (sym (is.alone c has (down_to c k has low deep)) ∙ is_moving))

  not_cut : (e : Bool) (n : ℕ) → (e ≡ true → 0 < n) → n ≡ 0 → e ≡ false
  not_cut true n told none = absurd (let deep = told refl in omega (arith, deep, none))
  not_cut false n told none = refl

  -- and all of it has power
  pub moving_powered : (c k : ℕ) → c < cores b → k ≤ height b → moves row c ≡ true
      → cut k (up b k c) ≡ false
  moving_powered c k has low is_moving = grind (arith, nat_tests, not_cut, all_awake)

  by_stage : (y : Stage) (c k : ℕ) → (row c).stage ≡ y → c < cores b → k ≤ height b
      → executes y ≡ true → cut k (up b k c) ≡ false
  by_stage y c k at has low e = grind (arith, nat_tests, moving_powered)

  pub executing_powered : (c k : ℕ) → c < cores b → k ≤ height b
      → executes (row c).stage ≡ true → cut k (up b k c) ≡ false
  executing_powered c k has low e = by_stage (row c).stage c k refl has low e

abbrev pub Powered : BoardValue → Port → Type 0
Powered b p = IsPowered b p.values (moves p.row) (arms p.row) p.cut

off : (t : Bool) → t ≡ true → not t ≡ false
off true e = refl
off false e = absurd (false≢true e)

holds_on : (t : Bool) → t ≡ false → not t ≡ true
holds_on true e = absurd (false≢true (sym e))
holds_on false e = refl

stops : (t : Bool) → not t ≡ false → t ≡ true
stops true e = refl
stops false e = sym e

-- One core's row ---------------------------------------------------------------------------------

module _ (b : BoardValue) (p : Port) (is : Powered b p) where
  module _ (c : ℕ) (r : Row) (still : moves p.row c ≡ false → not (has_stopped r.stage) ≡ false)
      (armed : (k : ℕ) → c < cores b → k ≤ height b → is_armed r.stage ≡ true
      → p.cut k (up b k c) ≡ false) where
    one_still : (x : ℕ) (t : Bool) → (x == c) ≡ t → moves p.row x ≡ false
        → not (has_stopped (cond t r (p.row x)).stage) ≡ false
    one_still x t e stopped = grind (arith, nat_tests)

    one_armed : (x k : ℕ) (t : Bool) → (x == c) ≡ t → x < cores b → k ≤ height b
        → is_armed (cond t r (p.row x)).stage ≡ true → p.cut k (up b k x) ≡ false
    one_armed x k true e has low a =
        subst (λ i. p.cut k (up b k i) ≡ false) (sym (eqb-true x c e))
        (armed k (subst (λ i. i < cores b) (eqb-true x c e) has) low a)
    one_armed x k false e has low a = is.spared x k has low a

    row_powered : Powered b (with_row p c r)
    row_powered = grind (arith, nat_tests, one_still, one_armed)

  -- it stays where it is
  stays_powered : (c : ℕ) (r : Row) → r.stage ≡ stage_at p c → Powered b (with_row p c r)
  stays_powered c r same = grind (arith, nat_tests)

  -- it goes on, and has not said that it stands
  goes_powered : (c : ℕ) (r : Row) → has_stopped (stage_at p c) ≡ false
      → is_armed r.stage ≡ false → Powered b (with_row p c r)
  goes_powered c r moving plain = grind (arith, nat_tests)

  -- it says that it stands
  stops_powered : (c : ℕ) (r : Row) → has_stopped (stage_at p c) ≡ false
      → has_stopped r.stage ≡ true → Powered b (with_row p c r)
  stops_powered c r moving stopped = grind (arith, nat_tests, moving_powered)

  roused_powered : (c : ℕ) → Powered b (roused b p c)
  roused_powered c = grind (arith, nat_tests)

  sleeps_powered : (c : ℕ) → Powered b (with_row p c (record (p.row c) { stage = Standing }))
  sleeps_powered c = row_powered c (record (p.row c) { stage = Standing }) (λ e. refl)
      (λ k has low a. absurd (false≢true a))

  -- A call of the firmware ends ------------------------------------------------------------------

  ended_powered : (c : ℕ) (event : Event) (said : Said) → Fits c event (stage_at p c)
      → Powered b (with_row p c (ended (record { event = event; said = said }) (p.row c)))
  ended_powered c event said fits = grind (arith, nat_tests)

  -- The power of a domain goes -------------------------------------------------------------------

  cut_told : (level place k q : ℕ) (t : Bool) → (k == level && q == place) ≡ t
      → 0 < p.values.depth level place → cond t true (p.cut k q) ≡ true → 0 < p.values.depth k q
  cut_told level place k q t e deep cut = grind (arith, nat_tests)

  cut_spared : (level place c k : ℕ) (t : Bool) → (k == level && up b k c == place) ≡ t
      → NoneArmed b p level place → c < cores b → k ≤ height b → arms p.row c ≡ true
      → cond t true (p.cut k (up b k c)) ≡ false
  cut_spared level place c k t e none has low a = grind (arith, nat_tests)

-- All acts ---------------------------------------------------------------------------------------

in_plain : (d : Option Start) → is_armed (stage_in d) ≡ false
in_plain None = refl
in_plain (Some s) = refl

not_stopped : (t : Bool) → (t ≡ true → ⊥) → t ≡ false
not_stopped true never = absurd (never refl)
not_stopped false never = refl

module _ (b : BoardValue) (laws : PathLaws b)
    (follows : (v : Values) (call : CtlCall) → IsCall b call
    → MayFollow b v (effect_of b call (reply b v call))) where
  commanded_powered : (p : Port) (event : Event) (call : CtlCall) → IsKept p → Powered b p
      → IsCall b call → waits b p.values (words p) call ≡ false
      → Powered b (commanded b p event call)
  commanded_powered p event call kept is can wait =
      let f : Effect = effect_of b call (reply b p.values call) in
      effect_powered b p.values p.row p.cut laws is f (follows p.values call can)
      (λ q at. off (has_stopped (stage_at p (down_core f)))
      ((kept.rows (down_core f)).stands
      (all_down b p.values (words p) call (follows p.values call can) wait q at)))

  -- an armed core wakes itself
  rises_powered : (p : Port) (c : ℕ) → IsKept p → Powered b p → c < cores b
      → stage_at p c ≡ Armed → Powered b (rising b p c)
  rises_powered p c kept is has at =
      commanded_powered p (Wake c) (asked.Wake (record { number = c }) (words p c)) kept is has
      (off (words p c == p.values.starts c)
      (eq-eqb _ _ ((kept.rows c).still (ap has_stopped at))))

  first_all : (before : List (List Record)) → Powered b (cold b before)
  first_all before = first_powered b (start_of_life b) laws refl

  step_powered : (p : Port) (act : Act) → IsKept p → Powered b p → May b p act
      → Powered b (step b p act)
  unfolding step
  step_powered p (Locks c) kept is may = is
  step_powered p (Unlocks c) kept is may = is
  step_powered p (Calls c regs said) kept is may = stays_powered b p is c _ refl
  step_powered p (Enters c said) kept is may = stays_powered b p is c _ refl
  step_powered p (Takes c k said) kept is may = stays_powered b p is c _ refl
  step_powered p (Finishes c) kept is may =
      let r : Record = may.0 in
      subst (λ o. Powered b (finished p c o)) (sym may.1)
      (ended_powered b p is c r.event r.said (kept.held.fits c r may.1))
  step_powered p (TakesUp c) kept is may =
      goes_powered b p is c (taking_up (p.row c))
      (not_stopped (has_stopped (stage_at p c)) (open_moves _ _ (p.row c) (kept.rows c) may.2))
      (in_plain (p.row c).door)
  step_powered p (Stands c) kept is may =
      stops_powered b p is c (stopping Standing (p.row c)) (ap has_stopped may.0) refl
  step_powered p (Arms c) kept is may =
      stops_powered b p is c (stopping Armed (p.row c)) (ap has_stopped may.0) refl
  step_powered p (Sleeps c) kept is may = sleeps_powered b p is c
  step_powered p (Delivers k m) kept is may =
      commanded_powered p (Deliver k) (asked.Deliver m) kept is may.0 may.1
  step_powered p (Wakes c) kept is may =
      commanded_powered p (Wake c) (asked.Wake (record { number = c }) (words p c)) kept is may.0
      (off (words p c == p.values.starts c) may.1)
  step_powered p (Resets c) kept is may =
      commanded_powered p (Reset c) (asked.Reset (record { number = c })) kept is may.0 refl
  step_powered p (Rouses c) kept is may = roused_powered b p is c
  step_powered p (Rises c) kept is may = rises_powered p c kept is may.0 may.1
  step_powered p (Turns c) kept is may =
      goes_powered b p is c (record (p.row c) { stage = AtDoor }) (ap has_stopped may.0) refl
  step_powered p (Writes c) kept is may = stays_powered b p is c _ refl
  step_powered p (Opens c) kept is may = stays_powered b p is c _ refl
  step_powered p (Cuts level place) kept is may = record {
    alone = is.alone;
    nested = is.nested;
    told = λ k q e.
        cut_told b p is level place k q (k == level && q == place) refl may.0 e;
    spared = λ c k has low a.
        cut_spared b p is level place c k (k == level && up b k c == place) refl may.1 has low a;
  }
  step_powered p Restarts kept is may = first_all (p.past ∷ p.before)
  step_powered p Reboots kept is may =
      first_powered b (change b Begins p.values) laws refl

  run_powered : (acts : List Act) → IsPortRun b acts → Powered b (state b acts)
  unfolding state
  run_powered [] run = first_all []
  run_powered (act ∷ acts) run =
      step_powered (state b acts) act (run_kept b acts run.1) (run_powered acts run.1) run.0

  pub run_none_cut : (acts : List Act) → IsPortRun b acts → NoneCut b (state b acts)
  run_none_cut acts run =
      grind (arith, nat_tests, executing_powered, run_powered, all_awake, holds_on)

-- An acknowledgement is taken --------------------------------------------------------------------

module _ (b : BoardValue) (p : Port) (c k : ℕ) (said : Said) (has : HasLock p c) where
  abbrev rec : Record
  rec = record { event = Take k; said = said }

  abbrev mid : Port
  mid = begins p c rec

  mid_row : mid.row c ≡ record (p.row c) { begun = Some rec }
  mid_row = cond-true (c == c) _ _ (eq-eqb c c refl)

  -- the core's row is as before
  own_row : ended rec (mid.row c) ≡ p.row c
  own_row = ap (ended rec) mid_row ∙ ap (λ o. record (p.row c) { begun = o }) (sym has.1)

  over : step b (step b p (Takes c k said)) (Finishes c) ≡ finished mid c (Some rec)
  unfolding step
  over = ap (λ (r : Row). finished mid c r.begun) mid_row

  row_there : (d : ℕ) (t : Bool) → (d == c) ≡ t
      → cond t (ended rec (mid.row c)) (cond t (record (p.row c) { begun = Some rec }) (p.row d))
      ≡ p.row d
  row_there d true e = own_row ∙ ap p.row (sym (eqb-true d c e))
  row_there d false e = refl

  -- and so is what is left of each
  pub takes_left : (d : ℕ)
      → core_left (step b (step b p (Takes c k said)) (Finishes c)) d ≡ core_left p d
  takes_left d = ap (λ q. core_left q d) over
      ∙ ap (row_left (has_lock p.lock d) (p.values.starts d) _) (row_there d (d == c) refl)

-- The lock is taken ------------------------------------------------------------------------------

module _ (p : Port) (c : ℕ) (free : p.lock ≡ None) where
  -- by another core
  pub locks_other : (d : ℕ) → (d ≡ c → ⊥) → core_left (record p { lock = Some c }) d ≡ core_left p d
  locks_other d ne = grind (arith, nat_tests)

  -- by one of the normal world
  pub locks_own : stage_at p c ≡ Normal → (p.row c).begun ≡ None
      → core_left (record p { lock = Some c }) c ≤ core_left p c + 1
  locks_own at none = grind (arith, nat_tests)

-- The power controller was asked -----------------------------------------------------------------

module _ (b : BoardValue) (p : Port) (r : Record) where
  -- whether it started this core, or a life ended
  abbrev pub touches_core : Effect → ℕ → Bool
  touches_core Nothing d = false
  touches_core (Starts c cause) d = d == c
  touches_core (Deepens c ps) d = false
  touches_core Ends d = true
  touches_core Begins d = true

  pub moves_left : (g : Effect) (d : ℕ) → touches_core g d ≡ false
      → core_left (moved b p g r) d ≡ core_left p d
  moves_left g d e = grind (arith, nat_tests)
