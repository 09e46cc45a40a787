-- What a core does without the firmware: it has the lock, looks, stands, sleeps, is brought back.
use Rattle.psci_port.specs.Port.{Rouses, state, step, stopping, taking_up}
use Rattle.psci_port.specs.Rules as rules
use Rattle.psci_port.specs.Stages as stages
use Rattle.psci_port.specs.Stages.{roused_at}
use Rattle.psci_enter.specs.declared.order.Look.{Look}
use Rattle.psci_enter.specs.declared.order.Look.TheVariants as look
use Rattle.psci_enter.specs.Side.{taking_up as takes}
use Rattle.psci_enter.proofs.Keeping.{arms, rouses, sleeps, stands, turns}
use Rattle.psci_sides.specs.Steps.{after, elsewhere, Lacks, roused}
use Rattle.psci_sides.specs.Seen.{look_acts, sleep_act}
use Rattle.psci_sides.proofs.Words.{◌++◌, ◌<◌, ◌==◌, ◌∙◌, ◌∷◌, ◌≡◌, [], Act, ap, apart_side, arith}
use Rattle.psci_sides.proofs.Words.{ArmCore, Armed, Arms, at, BoardValue, Bool, cond, core_of}
use Rattle.psci_sides.proofs.Words.{cores, Door, false, false≢true, FirmwareSide, Fits, found_in}
use Rattle.psci_sides.proofs.Words.{GiveLock, has_stood, has_stopped, Holds, inl, is_on_path}
use Rattle.psci_sides.proofs.Words.{IsCoreOf, IsKept, IsLent, IsMachineOf, List, Locks, LookAtDoor}
use Rattle.psci_sides.proofs.Words.{looked, Machine, May, may_hold, nat_tests, None, Port, Post}
use Rattle.psci_sides.proofs.Words.{quiet_firmware, refl, RouseCore, Row, row_same, run_kept}
use Rattle.psci_sides.proofs.Words.{side_of, SleepCore, Sleeps, Stage, stage_at, Stand, Stands}
use Rattle.psci_sides.proofs.Words.{subst, sym, TakeLock, takes_up, TakesUp, true, TurnCore, Turns}
use Rattle.psci_sides.proofs.Words.{Unlocks, Waiting, with_core, ℕ}
use Rattle.psci_sides.proofs.Commanding.{is_within, its_side, lent_none, looks_out, one_core}
use Rattle.psci_sides.proofs.Commanding.{started_out, stood_stopped, stopped_stood}
use Rattle.psci_sides.proofs.Carrying.{Follows, Given, IsSeen, one_act}

-- a core that may have the lock in the machine may have it in the port
holds_there : (post : Post) (y : Stage) → Fits post y → may_hold post ≡ true
    → stages.may_hold y ≡ true
holds_there post y fits is = grind (arith, nat_tests)

-- taking a start up leaves the core what it is
takes_core : (door : Door) (s : FirmwareSide) → core_of (takes door s) ≡ core_of s
takes_core door s = grind (arith, nat_tests)

takes_used : (door : Door) (s : FirmwareSide) → (takes door s).used ≡ door.opened
takes_used door s = grind (arith, nat_tests)

-- where an armed core is, by whether it stands
pub armed_stands : (y : Stage) → Fits Armed y → has_stopped y ≡ true → y ≡ stages.Armed
armed_stands y fits stopped = grind (arith, nat_tests)

armed_started : (y : Stage) → Fits Armed y → (has_stopped y ≡ true → ⊥) → y ≡ stages.Woken
armed_started y fits not = grind (arith, nat_tests)

module _ (b : BoardValue) (given : Given b) (m : Machine) (acts : List Act)
    (seen : IsSeen b m acts) where
  abbrev p : Port
  p = state b acts

  abbrev is : IsMachineOf b m p
  is = seen.tied

  abbrev kept : IsKept p
  kept = run_kept b acts seen.run

  -- who has the lock in the machine has it in the port
  pub has_lock : (c : ℕ) → Holds b m c → rules.HasLock p c
  has_lock c may = grind (arith, nat_tests)

  -- The lock -------------------------------------------------------------------------------------

  pub takes_lock : (c : ℕ) → May b m (TakeLock c) → Follows b m acts (TakeLock c)
  unfolding after step
  takes_lock c may = (
    Locks c ∷ [],
    refl,
    one_act b _ acts (Locks c) seen.run seen.so (
      may.0,
      sym is.lock ∙ may.1,
      holds_there (m.side c).post _ (is.each c may.0).post may.2,
    ) tt (record {
      each = is.each;
      firmware = quiet_firmware b p m.firmware is.firmware (Locks c) refl;
      control = apart_side b p m.control is.control kept (Locks c) refl;
      gates = is.gates;
      lock = refl;
      mail = is.mail;
      power = is.power;
    }),
  )

  pub gives_lock : (c : ℕ) → May b m (GiveLock c) → Follows b m acts (GiveLock c)
  unfolding after step
  gives_lock c may = (
    Unlocks c ∷ [],
    refl,
    one_act b _ acts (Unlocks c) seen.run seen.so (has_lock c may) tt (record {
      each = is.each;
      firmware = quiet_firmware b p m.firmware is.firmware (Unlocks c) refl;
      control = apart_side b p m.control is.control kept (Unlocks c) refl;
      gates = is.gates;
      lock = refl;
      mail = is.mail;
      power = is.power;
    }),
  )

  -- A core looks, and stands ---------------------------------------------------------------------

  -- one that is outside was lent nothing
  pub none_lent : (c : ℕ) → c < cores b → (post : Post) → is_within ((p.row c).stage) ≡ false
      → IsLent c post (m.station c).lent (p.row c).begun
  none_lent c has post out = grind (arith, nat_tests, lent_none)

  -- what takes nothing up leaves the port as it is
  pub stays_at : (c : ℕ) (s : FirmwareSide) → c < cores b → s.used ≡ (m.side c).used
      → s.post ≡ (m.side c).post → IsSeen b (with_core m c s (m.station c)) acts
  stays_at c s has used post = grind (arith, nat_tests)

  look_by : (c : ℕ) (pending : Bool) (l : Look) → found_in m c pending ≡ l
      → May b m (LookAtDoor c pending)
      → IsSeen b (with_core m c (looked l (m.station c).door (side_of m c)) (m.station c))
      (look_acts c l ++ acts)
  unfolding step
  look_by c pending look.Enter finds may =
      let was = is.each c may.0 in
      let s : FirmwareSide = side_of m c in
      let door : Door = (m.station c).door in
      let up = takes_up b p s (its_side b m p is.each c may.0) kept door pending
      (record { opened = was.opened; start = was.start }) (sym was.held ∙ may.1) may.2
      (λ at. may.3 finds (is.lock ∙ at)) finds in
      one_act b _ acts (TakesUp c) seen.run seen.so up.0.0 tt (record {
        each = one_core b m p is.each c (takes door s) (m.station c) (taking_up (p.row c)) (record {
          used = takes_used door s ∙ was.opened;
          post = subst (λ (r : Row). Fits (takes door s).post r.stage)
              (row_same c (taking_up (p.row c)) (p.row c))
              (subst (λ k. Fits (takes door s).post
              (cond (k == c) (taking_up (p.row c)) (p.row k)).stage) (takes_core door s)
              up.0.1.post);
          opened = was.opened;
          start = was.start;
          word = was.word;
          held = was.held;
          lent = none_lent c may.0 (takes door s).post
              (started_out ((p.row c).stage) up.0.0.0);
        });
        firmware = quiet_firmware b p m.firmware is.firmware (TakesUp c) refl;
        control = apart_side b p m.control is.control kept (TakesUp c) refl;
        gates = is.gates;
        lock = is.lock;
        mail = is.mail;
        power = is.power;
      })
  look_by c pending (look.Tell word) finds may =
      stays_at c (record (side_of m c) { told = word }) may.0 refl refl
  look_by c pending look.Rest finds may = stays_at c (side_of m c) may.0 refl refl

  pub looks : (c : ℕ) (pending : Bool) → May b m (LookAtDoor c pending)
      → Follows b m acts (LookAtDoor c pending)
  unfolding after
  looks c pending may = (
    look_acts c (found_in m c pending),
    refl,
    look_by c pending (found_in m c pending) refl may,
  )

  pub stands_there : (c : ℕ) → May b m (Stand c) → Follows b m acts (Stand c)
  unfolding after step
  stands_there c may =
      let was = is.each c may.0 in
      let can = stands b p (side_of m c) (its_side b m p is.each c may.0) may.1
      (λ at. may.2 (is.lock ∙ at)) in (
        Stands c ∷ [],
        refl,
        one_act b _ acts (Stands c) seen.run seen.so can.0 tt (record {
          each = one_core b m p is.each c _ _ (stopping stages.Standing (p.row c)) (record {
            used = was.used;
            post = refl;
            opened = was.opened;
            start = was.start;
            word = was.used;
            held = was.held;
            lent = none_lent c may.0 Waiting (ap is_within can.0.0);
          });
          firmware = quiet_firmware b p m.firmware is.firmware (Stands c) refl;
          control = apart_side b p m.control is.control kept (Stands c) refl;
          gates = is.gates;
          lock = is.lock;
          mail = is.mail;
          power = is.power;
        }),
      )

  -- a core whose monitor moves, in the port or not, with what stands around it
  core_at : (c : ℕ) (s : FirmwareSide) (r : Row) → c < cores b → s.used ≡ (m.side c).used
      → r.used ≡ (p.row c).used → r.opened ≡ (p.row c).opened → r.door ≡ (p.row c).door
      → r.stopped ≡ (p.row c).stopped → r.held ≡ (p.row c).held → r.begun ≡ (p.row c).begun
      → is_within (stage_at p c) ≡ false → Fits s.post r.stage
      → IsCoreOf c s (m.station c) r
  core_at c s r has used u opened door word held begun out fits = grind (arith, nat_tests)

  -- It says that it stands -----------------------------------------------------------------------

  pub arms_there : (c : ℕ) → May b m (ArmCore c) → Follows b m acts (ArmCore c)
  unfolding after step
  arms_there c may =
      let was = is.each c may.0 in
      let leaving : stage_at p c ≡ stages.Leaving =
      subst (λ x. Fits x (stage_at p c)) may.1 was.post in
      let none = lent_none p kept c (m.side c).post (ap is_within leaving) (m.station c).lent
      was.lent in
      let begun : (p.row c).begun ≡ None =
      subst (λ o. IsLent c (m.side c).post o (p.row c).begun) none was.lent in
      let can = arms b p (side_of m c) (its_side b m p is.each c may.0) may.1 begun in (
        Arms c ∷ [],
        refl,
        one_act b _ acts (Arms c) seen.run seen.so can.0 tt (record {
          each = one_core b m p is.each c _ _ (stopping stages.Armed (p.row c)) (record {
            used = was.used;
            post = inl refl;
            opened = was.opened;
            start = was.start;
            word = was.used;
            held = was.held;
            lent = none_lent c may.0 Armed (ap is_within leaving);
          });
          firmware = quiet_firmware b p m.firmware is.firmware (Arms c) refl;
          control = apart_side b p m.control is.control kept (Arms c) refl;
          gates = is.gates;
          lock = is.lock;
          mail = is.mail;
          power = is.power;
        }),
      )

  -- It goes to its door -------------------------------------------------------------------------

  turned : (c : ℕ) → c < cores b → Lacks m c → stage_at p c ≡ stages.Woken
      → IsSeen b (elsewhere c Waiting m) (Turns c ∷ acts)
  unfolding step
  turned c has lacks there =
      let can = turns b p (side_of m c) (its_side b m p is.each c has) there
      (λ e. lacks (is.lock ∙ e)) in
      one_act b _ acts (Turns c) seen.run seen.so can.0 tt (record {
        each = one_core b m p is.each c _ _ (record (p.row c) { stage = stages.AtDoor })
            (core_at c (at Waiting (side_of m c)) (record (p.row c) { stage = stages.AtDoor })
            has refl refl refl refl refl refl refl (ap is_within there) refl);
        firmware = quiet_firmware b p m.firmware is.firmware (Turns c) refl;
        control = apart_side b p m.control is.control kept (Turns c) refl;
        gates = is.gates;
        lock = is.lock;
        mail = is.mail;
        power = is.power;
      })

  pub turns_there : (c : ℕ) → May b m (TurnCore c) → Follows b m acts (TurnCore c)
  unfolding after
  turns_there c may = grind (arith, nat_tests, turned)

  -- It comes to its WFI --------------------------------------------------------------------------

  sleeps_by : (c : ℕ) (t : Bool) → has_stood m c ≡ t → May b m (SleepCore c)
      → IsSeen b (elsewhere c Waiting m) (sleep_act t c ∷ acts)
  unfolding step
  sleeps_by c true stood may =
      let fits = subst (λ x. Fits x (stage_at p c)) may.1 (is.each c may.0).post in
      let there = armed_stands (stage_at p c) fits (stood_stopped b m p is kept c may.0 stood) in
      let can = sleeps b p (side_of m c) (its_side b m p is.each c may.0) there
      (λ e. may.2 (is.lock ∙ e)) in
      one_act b _ acts (Sleeps c) seen.run seen.so can.0 tt (record {
        each = one_core b m p is.each c _ _ (record (p.row c) { stage = stages.Standing })
            (core_at c (at Waiting (side_of m c)) (record (p.row c) { stage = stages.Standing })
            may.0 refl refl refl refl refl refl refl (ap is_within there) refl);
        firmware = quiet_firmware b p m.firmware is.firmware (Sleeps c) refl;
        control = apart_side b p m.control is.control kept (Sleeps c) refl;
        gates = is.gates;
        lock = is.lock;
        mail = is.mail;
        power = is.power;
      })
  sleeps_by c false stood may =
      let fits = subst (λ x. Fits x (stage_at p c)) may.1 (is.each c may.0).post in
      turned c may.0 may.2 (armed_started (stage_at p c) fits
      (λ e. false≢true (sym stood ∙ stopped_stood b m p is kept c may.0 e)))

  pub sleeps_there : (c : ℕ) → May b m (SleepCore c) → Follows b m acts (SleepCore c)
  unfolding after
  sleeps_there c may =
      (sleep_act (has_stood m c) c ∷ [], refl, sleeps_by c (has_stood m c) refl may)

  -- An interrupt brings it back ------------------------------------------------------------------

  rouses_so : (c : ℕ) → May b m (RouseCore c) → IsSeen b (roused b c m) (Rouses c ∷ acts)
  unfolding step
  rouses_so c may =
      let fits = subst (λ x. Fits x (stage_at p c)) may.1 (is.each c may.0).post in
      let can = rouses b p (side_of m c) (its_side b m p is.each c may.0) may.1 in
      let row : Row = record (p.row c) { stage = roused_at (stage_at p c) } in
      one_act b _ acts (Rouses c) seen.run seen.so can.0 tt (record {
        each = one_core b m p is.each c _ _ row
            (core_at c (at Armed (side_of m c)) row may.0 refl refl refl refl refl refl refl
            (looks_out (stage_at p c) fits)
            (subst (λ (x : Row). Fits Armed x.stage) (row_same c row (p.row c)) can.1.post));
        firmware = quiet_firmware b p m.firmware is.firmware (Rouses c) refl;
        control = apart_side b p m.control is.control kept (Rouses c) refl;
        gates = is.gates;
        lock = is.lock;
        mail = is.mail;
        power = record {
          depth = is.power.depth;
          cut = λ level place. ap (λ t. cond (is_on_path b c level place) false t)
              (is.power.cut level place);
        };
      })

  pub rouses_there : (c : ℕ) → May b m (RouseCore c) → Follows b m acts (RouseCore c)
  unfolding after
  rouses_there c may = (Rouses c ∷ [], refl, rouses_so c may)
