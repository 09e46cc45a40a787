-- Each act that is due leaves less to do, where the firmware answers as it is defined.
use Rattle.psci_world_spec.specs.Legal.{sent}
use Rattle.psci_world_spec.specs.psci_fw_spec.Answer.{answer, enter_outcome}
use Rattle.psci_world_spec.specs.psci_fw_spec.declared.call.FwCall.TheVariants as calls
use Rattle.psci_world_spec.specs.psci_fw_spec.declared.outcome.Act.{Act as Outcome}
use Rattle.psci_headline.specs.Laws.{NoneRefused}
use Rattle.psci_port.specs.Port.{state, step}
use Rattle.psci_port.specs.Resting.{call_left, door_left, left, own_left, stage_left, start_left}
use Rattle.psci_port.specs.Stages.{stage_after}
use Rattle.psci_port.proofs.Words.{◌+◌, ◌<◌, ◌∙◌, ◌∷◌, ◌≤◌, ◌≡◌, Act, ap, arith, Armed, Arms}
use Rattle.psci_port.proofs.Words.{asked_firmware, AtDoor, BoardValue, Bool, cond-false, cond-true}
use Rattle.psci_port.proofs.Words.{core_left, cores, ended, Enter, Entering, Enters, eq-eqb, Event}
use Rattle.psci_port.proofs.Words.{false, false≢true, finished, Finishes, firmware_values, Fw}
use Rattle.psci_port.proofs.Words.{has_lock, is_entering, IsDue, IsPortRun, last_start, Leaving}
use Rattle.psci_port.proofs.Words.{length, List, Locks, may_hold, nat_tests, ne_eqb, None}
use Rattle.psci_port.proofs.Words.{none-some, Normal, Opens, Option, Port, Record, refl, Row}
use Rattle.psci_port.proofs.Words.{row_left, Said, sent_as, Sleeps, Some, Stage, stage_at, stage_in}
use Rattle.psci_port.proofs.Words.{stage_said, Standing, Stands, Start, stopping, subst, sym}
use Rattle.psci_port.proofs.Words.{TakesUp, taking_up, true, Turns, Unlocks, with_row, Woken}
use Rattle.psci_port.proofs.Words.{Writes, ℕ}
use Rattle.psci_port.proofs.Running.{Fits, IsKept, run_kept, shown_itself}
use Rattle.psci_port.proofs.Truth.{IsDue as IsSaid, IsMirror, same_le, total_less}
use Rattle.psci_port.proofs.Records.{open_last}

-- One core moves ---------------------------------------------------------------------------------

module _ (b : BoardValue) (p : Port) (c : ℕ) (on : c < cores b) where
  abbrev lock_there : Bool
  lock_there = has_lock p.lock c

  abbrev starts : ℕ
  starts = p.values.starts c

  abbrev last : Option Start
  last = last_start p.values c

  abbrev row : Row
  row = p.row c

  row_here : (r : Row) → (with_row p c r).row c ≡ r
  row_here r = cond-true _ _ _ (eq-eqb c c refl)

  row_there : (r : Row) (x : ℕ) → (x ≡ c → ⊥) → (with_row p c r).row x ≡ p.row x
  row_there r x never = cond-false _ _ _ (ne_eqb x c never)

  pub one_row : (r : Row) → row_left lock_there starts last r < core_left p c
      → left b (with_row p c r) < left b p
  one_row r less = search (arith, total_less, row_here, same_le, row_there)

  inner : (a k x y : ℕ) → x < y → a + (k + x) < a + (k + y)
  inner a k x y less = omega (arith, less)

  -- it moves, and nothing is written of its door and its start
  pub stage_lowers : (r : Row) → door_left starts last r ≡ door_left starts last row
      → start_left starts r ≡ start_left starts row
      → stage_left lock_there r.begun r.stage < stage_left lock_there row.begun row.stage
      → left b (with_row p c r) < left b p
  stage_lowers r door start less = grind (arith, nat_tests, one_row, inner)

  -- the lock goes from hand to hand
  pub lock_lowers : (lock : Option ℕ) → ((x : ℕ) → (x ≡ c → ⊥)
      → has_lock lock x ≡ has_lock p.lock x)
      → stage_left (has_lock lock c) row.begun row.stage < stage_left lock_there row.begun row.stage
      → left b (record p { lock = lock }) < left b p
  lock_lowers lock others less =
      total_less (core_left p) (core_left (record p { lock = lock })) c (cores b) on
      (inner (door_left starts last row) (start_left starts row)
      (stage_left (has_lock lock c) row.begun row.stage)
      (stage_left lock_there row.begun row.stage) less)
      (λ x within never. same_le _ _
      (ap (λ h. row_left h (p.values.starts x) (last_start p.values x) (p.row x))
      (others x never)))

  -- its door is written, or opened
  fewer : (a k y z : ℕ) → a < k → a + (y + z) < k + (y + z)
  fewer a k y z less = omega (arith, less)

  pub door_lowers : (r : Row) → start_left starts r ≡ start_left starts row
      → stage_left lock_there r.begun r.stage ≡ stage_left lock_there row.begun row.stage
      → door_left starts last r < door_left starts last row
      → left b (with_row p c r) < left b p
  door_lowers r start stage less = grind (arith, nat_tests, one_row, fewer)

  -- it takes its start up
  spent : (a x u : ℕ) → x ≤ 8 → a + (0 + x) < a + (10 + u)
  spent a x u few = omega (arith, few)

  in_few : (d : Option Start) (h : Bool) → own_left h (stage_in d) ≤ 8
  in_few d h = grind (arith, nat_tests)

  pub start_lowers : (row.begun ≡ None) → row.opened ≡ starts → (row.used ≡ starts → ⊥)
      → left b (with_row p c (taking_up row)) < left b p
  start_lowers none opened new =
      grind (arith, nat_tests, one_row, cond-true, eq-eqb, cond-false, ne_eqb, spent, in_few)

-- What is left of a stage ------------------------------------------------------------------------

pub left_is : (h g : Bool) (o q : Option Record) (y z : Stage) → h ≡ g → o ≡ q → y ≡ z
    → stage_left h o y ≡ stage_left g q z
left_is h g o q y z lock begun stage = grind (arith, nat_tests)

pub lacks : (o : Option ℕ) (c : ℕ) → (o ≡ Some c → ⊥) → has_lock o c ≡ false
lacks None c never = refl
lacks (Some d) c never = ne_eqb c d (λ e. never (ap (λ x. Some x) (sym e)))

pub has : (o : Option ℕ) (c : ℕ) → o ≡ Some c → has_lock o c ≡ true
has o c at = ap (λ x. has_lock x c) at ∙ eq-eqb c c refl

-- who gives the lock back is nearer to its rest
pub unlocks_less : (y : Stage) → may_hold y ≡ true → is_entering y ≡ false
    → own_left false y < own_left true y
unlocks_less y holds out = grind (arith, nat_tests)

-- and who takes it on the way in
pub locks_less : (y : Stage) → is_entering y ≡ true → own_left true y < own_left false y
locks_less (Entering s) in_way = omega arith
locks_less y in_way = absurd (false≢true in_way)

pub arms_less : (h : Bool) → own_left h Armed < own_left h Leaving
arms_less true = omega arith
arms_less false = omega arith

-- Lowering ----------------------------------------------------------------------------------------

less_by : (a c x z : ℕ) → a ≡ c → x ≡ z → c < z → a < x
less_by a c x z e f less = omega (arith, e, f, less)

one_less : (a k o : ℕ) → a ≡ 0 → k ≡ 1 → a + o < k + o
one_less a k o e f = omega (arith, e, f)

one_less_there : (o a k : ℕ) → a ≡ 0 → k ≡ 1 → o + a < o + k
one_less_there o a k e f = omega (arith, e, f)

-- The end of a call ------------------------------------------------------------------------------

after_less : (a : Outcome) → own_left true (stage_after a) < 6
after_less a = grind (arith, nat_tests)

normal_less : (y : Stage) → y ≡ Normal → own_left true y < 6
normal_less y at = subst (λ z. own_left true z < 6) (sym at) (omega arith)

module _ (b : BoardValue) (p : Port) (kept : IsKept p) (mirror : IsMirror b p)
    (free : NoneRefused b p.past) where
  entry_said : (c : ℕ) (s : Start) → c < cores b → stage_at p c ≡ Entering s
      → asked_firmware b p.past c (calls.Enter s)
      ≡ Fw (enter_outcome b (firmware_values b p.past) c s).act (sent_as (length (sent p.past))
      (enter_outcome b (firmware_values b p.past) c s).message)
  unfolding answer
  entry_said c s on at = grind (arith, nat_tests)

  finish_less : (c : ℕ) (event : Event) (said : Said) → Fits c event (stage_at p c)
      → IsSaid b p.past c event said (stage_at p c)
      → own_left true (stage_said event said (stage_at p c))
      < call_left event (own_left true (stage_at p c))
  finish_less c event said fits so = grind (arith, nat_tests, after_less, normal_less, entry_said)

  -- who has not the lock is inside no call
  none_inside : (c : ℕ) → (p.lock ≡ Some c → ⊥) → (p.row c).begun ≡ None
  none_inside c lacking = grind (arith, nat_tests)

  -- what is left of a core that has the lock, or has it not
  with_lock : (c : ℕ) (y : Stage) → p.lock ≡ Some c → (p.row c).begun ≡ None
      → stage_left (has_lock p.lock c) (p.row c).begun y ≡ own_left true y
  with_lock c y held none = left_is _ true _ None y y (has p.lock c held) none refl

  without : (c : ℕ) (y : Stage) → (p.lock ≡ Some c → ⊥)
      → stage_left (has_lock p.lock c) (p.row c).begun y ≡ own_left false y
  without c y lacking =
      left_is _ false _ None y y (lacks p.lock c lacking) (none_inside c lacking) refl

  -- it goes from one stage to another, without the lock
  goes_less : (c : ℕ) (y z : Stage) → (p.lock ≡ Some c → ⊥) → stage_at p c ≡ y
      → own_left false z < own_left false y
      → stage_left (has_lock p.lock c) (p.row c).begun z
      < stage_left (has_lock p.lock c) (p.row c).begun (stage_at p c)
  goes_less c y z lacking at less = grind (arith, nat_tests, less_by, without)

  -- All acts that are due ------------------------------------------------------------------------

  locks_lowers : (c : ℕ) → c < cores b → p.lock ≡ None
      → own_left true (stage_at p c) < own_left false (stage_at p c)
      → left b (record p { lock = Some c }) < left b p
  locks_lowers c on none less =
      let lacking : p.lock ≡ Some c → ⊥ = λ e. none-some c (sym none ∙ e) in
      lock_lowers b p c on (Some c)
      (λ x never. ne_eqb x c never ∙ sym (ap (λ o. has_lock o x) none))
      (less_by _ _ _ _
      (left_is _ true _ None (stage_at p c) (stage_at p c) (eq-eqb c c refl)
      (none_inside c lacking) refl)
      (without c (stage_at p c) lacking) less)

  unlocks_lowers : (c : ℕ) → c < cores b → p.lock ≡ Some c → (p.row c).begun ≡ None
      → own_left false (stage_at p c) < own_left true (stage_at p c)
      → left b (record p { lock = None }) < left b p
  unlocks_lowers c on held none less =
      lock_lowers b p c on None
      (λ x never. sym (ap (λ o. has_lock o x) held ∙ ne_eqb x c never))
      (less_by _ _ _ _
      (left_is false false _ None (stage_at p c) (stage_at p c) refl none refl)
      (with_lock c (stage_at p c) held none) less)

  enters_lowers : (c : ℕ) (s : Start) (r : Record) → c < cores b → p.lock ≡ Some c
      → (p.row c).begun ≡ None → stage_at p c ≡ Entering s → call_left r.event 7 ≡ 6
      → stage_left (has_lock p.lock c) (Some r) (stage_at p c)
      < stage_left (has_lock p.lock c) (p.row c).begun (stage_at p c)
  enters_lowers c s r on held none at six = grind (arith, nat_tests)

  finishes_lowers : (c : ℕ) (r : Record) → c < cores b → (p.row c).begun ≡ Some r
      → left b (finished p c (Some r)) < left b p
  finishes_lowers c r on at =
      let held : p.lock ≡ Some c = kept.held.calls c r at in
      stage_lowers b p c on (ended r (p.row c)) refl refl
      (less_by _ _ _ _
      (left_is _ true None None _ _ (has p.lock c held) refl refl)
      (left_is _ true _ (Some r) _ _ (has p.lock c held) at refl)
      (finish_less c r.event r.said (kept.held.fits c r at) (mirror.due c r at)))

  pub lowers : (act : Act) → IsDue b p act → left b (step b p act) < left b p
  unfolding step
  lowers (Locks c) due =
      locks_lowers c due.0.0 due.0.1 (locks_less (stage_at p c) due.1)
  lowers (Unlocks c) due =
      unlocks_lowers c due.1.0 due.0.0 due.0.1
      (unlocks_less (stage_at p c) (kept.held.holder c due.0.0) due.1.1)
  lowers (Enters c said) due =
      stage_lowers b p c due.0.0
      (record (p.row c) { begun = Some (record { event = Enter c; said = said }) }) refl refl
      (enters_lowers c due.0.2.0 (record { event = Enter c; said = said }) due.0.0 due.0.1.0
      due.0.1.1 due.0.2.1 refl)
  lowers (Finishes c) due =
      subst (λ o. left b (finished p c o) < left b p) (sym due.0.1)
      (finishes_lowers c due.0.0 due.1 due.0.1)
  lowers (TakesUp c) due =
      let opens : (p.row c).opened ≡ p.values.starts c =
      open_last _ _ (p.row c) (kept.rows c) due.0.1 due.0.2 in
      start_lowers b p c due.1 (none_inside c due.0.3) opens
      (λ same. false≢true (sym due.0.2
      ∙ eq-eqb (p.row c).opened (p.row c).used (opens ∙ sym same)))
  lowers (Stands c) due =
      stage_lowers b p c due.1 (stopping Standing (p.row c)) refl refl
      (goes_less c Leaving Standing due.0.1 due.0.0 (omega arith))
  lowers (Arms c) due =
      stage_lowers b p c due.1 (stopping Armed (p.row c)) refl refl
      (less_by _ _ _ _
      (left_is _ _ _ None Armed Armed refl due.0.1 refl)
      (left_is _ _ _ None (stage_at p c) Leaving refl due.0.1 due.0.0)
      (arms_less (has_lock p.lock c)))
  lowers (Sleeps c) due =
      stage_lowers b p c due.1 (record (p.row c) { stage = Standing }) refl refl
      (goes_less c Armed Standing due.0.1 due.0.0 (omega arith))
  lowers (Turns c) due =
      stage_lowers b p c due.1 (record (p.row c) { stage = AtDoor }) refl refl
      (goes_less c Woken AtDoor due.0.1 due.0.0 (omega arith))
  lowers (Writes c) due =
      door_lowers b p c due.1.0 (record (p.row c) { door = last_start p.values c }) refl refl
      (one_less _ _ _ (cond-true _ _ _ (shown_itself (last_start p.values c)))
      (cond-false _ _ _ due.1.1))
  lowers (Opens c) due =
      door_lowers b p c due.1.0
      (record (p.row c) { opened = p.values.starts c; held = false }) refl refl
      (one_less_there _ _ _ (cond-true _ _ _ (eq-eqb (p.values.starts c) (p.values.starts c) refl))
      (cond-false _ _ _ due.1.1))
  lowers act due = absurd due.1

pub run_lowers : (b : BoardValue) (acts : List Act) (act : Act) → IsPortRun b acts
    → IsMirror b (state b acts) → NoneRefused b (state b acts).past → IsDue b (state b acts) act
    → left b (state b (act ∷ acts)) < left b (state b acts)
unfolding state
run_lowers b acts act run mirror free due =
    lowers b (state b acts) (run_kept b acts run) mirror free act due
