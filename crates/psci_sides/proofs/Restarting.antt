-- What the power controller hears and keeps back, its doors, what comes from outside; each run.
use Rattle.std.proofs.Common.{replicate}
use Rattle.psci_ctl_spec.specs.History.{IsOfBoard}
use Rattle.psci_port.specs.Port.{Cuts, state, step}
use Rattle.psci_port.specs.Stages as stages
use Rattle.psci_control.specs.declared.door.DoorOrder.TheVariants as orders
use Rattle.psci_control.specs.ControlSide.{board_of, holding, IsWaiting}
use Rattle.psci_control.proofs.Asked.{blank_at, writes}
use Rattle.psci_control.proofs.Commanded.{first_side, hears_side, no_door, not_opened, opens_side}
use Rattle.psci_control.proofs.Commanded.{writes_side}
use Rattle.psci_sides.specs.Steps.{after, Carry, CutPower, KeepBack, machine, RebootAll, RestartAll}
use Rattle.psci_sides.specs.Seen.{AreShown, door_acts, IsMailOf}
use Rattle.psci_sides.specs.Kept.{EachTakesItsLast}
use Rattle.psci_sides.proofs.Words.{◌&&◌, ◌++◌, ◌<◌, ◌==◌, ◌∙◌, ◌∷◌, ◌≤◌, ◌≡◌, [], AckValue, Act}
use Rattle.psci_sides.proofs.Words.{ap, apart_side, arith, ArmCore, at, BeginCall, BeginEntry}
use Rattle.psci_sides.proofs.Words.{BoardValue, closed, cold, cond, ControlValue, cores}
use Rattle.psci_sides.proofs.Words.{DeliverKept, DeliverMail, door_by, DoorOrder, due_at, EndCall}
use Rattle.psci_sides.proofs.Words.{false, FirmwareValue, Gate, gate_in, GiveLock, Hear, inl, inr}
use Rattle.psci_sides.proofs.Words.{is_armed, IsCold, IsControlSide, IsKept, IsMachineOf, IsRun}
use Rattle.psci_sides.proofs.Words.{last_start, List, LookAtDoor, Machine, May, MessageValue}
use Rattle.psci_sides.proofs.Words.{nat_tests, Opens, Option, ordered, Port, quiet_firmware, Record}
use Rattle.psci_sides.proofs.Words.{refl, ResetCore, Restarts, RiseCore, RouseCore, Row, row_same}
use Rattle.psci_sides.proofs.Words.{run_kept, SendAgain, ServeDoor, SleepCore, Some, Stage, Stand}
use Rattle.psci_sides.proofs.Words.{Step, subst, sym, TakeAck, TakeLock, telling, true, TurnCore}
use Rattle.psci_sides.proofs.Words.{WakeUp, WasSent, with_core, with_gate, Writes, ℕ}
use Rattle.psci_sides.proofs.Commanding.{armed_post, first_core, gate_waits, inside, one_core}
use Rattle.psci_sides.proofs.Commanding.{there, waits_side}
use Rattle.psci_sides.proofs.Carrying.{Follows, Given, IsSeen, no_act, one_act}
use Rattle.psci_sides.proofs.Locking.{arms_there, gives_lock, looks, rouses_there, sleeps_there}
use Rattle.psci_sides.proofs.Locking.{stands_there, takes_lock, turns_there}
use Rattle.psci_sides.proofs.Calling.{begins_call, begins_entry, ends, takes_ack}
use Rattle.psci_sides.proofs.Delivering.{delivers, delivers_kept, resets, rises_there, wakes}
use Rattle.psci_sides.proofs.Sound.{takes_last}

none_armed : (y : Stage) → (is_armed y ≡ true → ⊥) → is_armed y ≡ false
none_armed stages.Armed not = absurd (not refl)
none_armed y not = refl

pub empty_mail : (b : BoardValue) (gates : List Gate) (past : List Record)
    → gates ≡ replicate (cores b) closed
    → IsMailOf [] gates [] past
empty_mail b gates past at = grind (arith, nat_tests, blank_at)

module _ (b : BoardValue) (given : Given b) (m : Machine) (acts : List Act)
    (seen : IsSeen b m acts) where
  abbrev p : Port
  p = state b acts

  abbrev is : IsMachineOf b m p
  is = seen.tied

  abbrev kept : IsKept p
  kept = run_kept b acts seen.run

  -- The power controller hears -------------------------------------------------------------------

  same_board : (c : ℕ) → c < cores b → c < cores (board_of m.control)
  same_board c has = subst (λ x. c < cores x) (sym is.control.board) has

  pub hears : (c : ℕ) → May b m (Hear c) → Follows b m acts (Hear c)
  unfolding after
  hears c may =
      let g : Gate = gate_in m.control.gates c in
      let word : ℕ = (m.station c).word in
      let low : word ≤ (p.row c).stopped = let e = (is.each c may).word in omega (arith, e) in (
        [],
        refl,
        no_act b m _ acts seen (record {
          each = is.each;
          firmware = is.firmware;
          control = hears_side b p m.control is.control c word is.gates may low;
          gates = writes m.control c (telling word g) is.gates (same_board c may)
              (λ x e. is.gates.waiting c x e);
          lock = is.lock;
          mail = record {
            messages = is.mail.messages;
            kept = λ d x at. elim (gate_waits m.control.gates c (telling word g) d x
                (inside b p m.control is.control is.gates c may) at) [
                  | inl e ↦ is.mail.kept c x e
                  | inr old ↦ is.mail.kept d x old
                ];
            acks = is.mail.acks;
          };
          power = is.power;
        }),
      )

  some_message : (x y : MessageValue) → Some x ≡ Some y → x ≡ y
  some_message x y e = grind arith

  pub keeps_back : (x : MessageValue) → May b m (KeepBack x) → Follows b m acts (KeepBack x)
  unfolding after
  keeps_back x may =
      let c : ℕ = x.core.number in
      let has : c < cores b = may.1.board.core in
      let g : Gate = gate_in m.control.gates c in (
        [],
        refl,
        no_act b m _ acts seen (record {
          each = is.each;
          firmware = is.firmware;
          control = waits_side b p m.control is.control is.gates c has (holding x g) refl refl refl;
          gates = writes m.control c (holding x g) is.gates (same_board c has)
              (λ y e. subst (IsWaiting (board_of m.control) c) (some_message x y e) (record {
                board = subst (λ (z : BoardValue). IsOfBoard z x) (sym is.control.board)
                    may.1.board;
                core = refl;
              }));
          lock = is.lock;
          mail = record {
            messages = is.mail.messages;
            kept = λ d y at. elim (gate_waits m.control.gates c (holding x g) d y
                (inside b p m.control is.control is.gates c has) at) [
                  | inl e ↦ subst (WasSent p.past) (some_message x y e) (is.mail.messages x may.0)
                  | inr old ↦ is.mail.kept d y old
                ];
            acks = is.mail.acks;
          };
          power = is.power;
        }),
      )

  -- A door is served -----------------------------------------------------------------------------

  abbrev served : ℕ → Option DoorOrder → Machine
  served c o = record (with_core m c (m.side c) (door_by o (m.station c))) {
    control = with_gate m.control c (ordered o (gate_in m.control.gates c));
  }

  served_gates : (c : ℕ) (o : Option DoorOrder) → c < cores b
      → ((x : MessageValue) → (ordered o (gate_in m.control.gates c)).waiting ≡ Some x
      → (gate_in m.control.gates c).waiting ≡ Some x)
      → IsControlSide (served c o).control
      × ((d : ℕ) (x : MessageValue) → (gate_in (served c o).control.gates d).waiting ≡ Some x
      → WasSent p.past x)
  served_gates c o has same = (
    writes m.control c (ordered o (gate_in m.control.gates c)) is.gates (same_board c has)
        (λ x e. is.gates.waiting c x (same x e)),
    λ d x at. elim (gate_waits m.control.gates c (ordered o (gate_in m.control.gates c)) d x
        (inside b p m.control is.control is.gates c has) at) [
          | inl e ↦ is.mail.kept c x (same x e)
          | inr old ↦ is.mail.kept d x old
        ],
  )

  served_by : (c : ℕ) (order : DoorOrder) → c < cores b → due_at m c ≡ Some order
      → IsSeen b (served c (Some order)) (door_acts c (Some order) ++ acts)
  unfolding step
  served_by c (orders.Write start) has due =
      let was = is.each c has in
      let row : Row = record (p.row c) { door = last_start p.values c } in
      let right = writes_side b p m.control is.control c start is.gates has due in
      let gates = served_gates c (Some (orders.Write start)) has (λ x e. e) in
      one_act b _ acts (Writes c) seen.run seen.so right.may tt (record {
        each = one_core b m p is.each c (m.side c)
            (door_by (Some (orders.Write start)) (m.station c)) row (record {
              used = was.used;
              post = was.post;
              opened = was.opened;
              start = ap (λ (g : Gate). g.written)
                  (sym (there b p m.control is.control is.gates c has _))
                  ∙ right.side.written c has ∙ ap (λ (r : Row). r.door) (row_same c row (p.row c));
              word = was.word;
              held = was.held;
              lent = was.lent;
            });
        firmware = quiet_firmware b p m.firmware is.firmware (Writes c) refl;
        control = right.side;
        gates = gates.0;
        lock = is.lock;
        mail = record { messages = is.mail.messages; kept = gates.1; acks = is.mail.acks };
        power = is.power;
      })
  served_by c (orders.Open number) has due =
      let was = is.each c has in
      let row : Row = record (p.row c) { opened = p.values.starts c; held = false } in
      let right = opens_side b p m.control is.control c number is.gates has due in
      let gates = served_gates c (Some (orders.Open number)) has (λ x e. e) in
      one_act b _ acts (Opens c) seen.run seen.so right.may tt (record {
        each = one_core b m p is.each c (m.side c)
            (door_by (Some (orders.Open number)) (m.station c)) row (record {
              used = was.used;
              post = was.post;
              opened = ap (λ (g : Gate). g.opened)
                  (sym (there b p m.control is.control is.gates c has _))
                  ∙ right.side.opened c has
                  ∙ ap (λ (r : Row). r.opened) (row_same c row (p.row c));
              start = was.start;
              word = was.word;
              held = refl;
              lent = was.lent;
            });
        firmware = quiet_firmware b p m.firmware is.firmware (Opens c) refl;
        control = right.side;
        gates = gates.0;
        lock = is.lock;
        mail = record { messages = is.mail.messages; kept = gates.1; acks = is.mail.acks };
        power = is.power;
      })

  pub serves_door : (c : ℕ) → May b m (ServeDoor c) → Follows b m acts (ServeDoor c)
  unfolding after
  serves_door c may = grind (arith, nat_tests, served_by)

  -- From outside ---------------------------------------------------------------------------------

  pub cuts_power : (level place : ℕ) → May b m (CutPower level place)
      → Follows b m acts (CutPower level place)
  unfolding after step
  cuts_power level place may = (
    Cuts level place ∷ [],
    refl,
    one_act b _ acts (Cuts level place) seen.run seen.so (
      subst (λ n. 0 < n) (is.power.depth level place) may.0,
      λ c has below. none_armed ((p.row c).stage) (λ armed. may.1 c has below
          (armed_post (m.side c).post ((p.row c).stage) (is.each c has).post armed)),
    ) tt (record {
      each = is.each;
      firmware = quiet_firmware b p m.firmware is.firmware (Cuts level place) refl;
      control = apart_side b p m.control is.control kept (Cuts level place) refl;
      gates = is.gates;
      lock = is.lock;
      mail = is.mail;
      power = record {
        depth = is.power.depth;
        cut = λ l q. ap (λ t. cond (l == level && q == place) true t) (is.power.cut l q);
      };
    }),
  )

  pub carries : (mail : List MessageValue) (made : List AckValue) → May b m (Carry mail made)
      → Follows b m acts (Carry mail made)
  unfolding after
  carries mail made may = grind (arith, nat_tests)

  pub sends_again : (c number : ℕ) → May b m (SendAgain c number)
      → Follows b m acts (SendAgain c number)
  unfolding after
  sends_again c number may = grind (arith, nat_tests)

  -- All is reset ---------------------------------------------------------------------------------

  pub restarts : (f : FirmwareValue) (s : ControlValue) → May b m (RestartAll f s)
      → Follows b m acts (RestartAll f s)
  unfolding after step state
  restarts f s may = (
    Restarts ∷ [],
    refl,
    one_act b _ acts Restarts seen.run seen.so tt tt (record {
      each = λ c has. first_core c;
      firmware = (given.anew acts f seen.run seen.so may.0.board may.0.values).1;
      control = first_side b s (p.past ∷ p.before) may.1;
      gates = may.2;
      lock = refl;
      mail = empty_mail b s.gates [] may.1.gates;
      power = record { depth = λ level place. refl; cut = λ level place. refl };
    }),
  )

  pub reboots : (f : FirmwareValue) (t : ControlValue) → May b m (RebootAll f t)
      → Follows b m acts (RebootAll f t)
  unfolding after step state
  reboots f t may = grind (arith, nat_tests, blank_at, one_act, first_core, no_door, not_opened)

-- Each run of a machine is seen by a true run of a port -------------------------------------------

module _ (b : BoardValue) (given : Given b) where
  pub follows : (m : Machine) (acts : List Act) → IsSeen b m acts → (x : Step) → May b m x
      → Follows b m acts x
  follows m acts seen (TakeLock c) may = takes_lock b given m acts seen c may
  follows m acts seen (GiveLock c) may = gives_lock b given m acts seen c may
  follows m acts seen (BeginCall c regs) may = begins_call b given m acts seen c regs may
  follows m acts seen (BeginEntry c start) may = begins_entry b given m acts seen c start may
  follows m acts seen (EndCall c g) may = ends b given m acts seen c g may
  follows m acts seen (TakeAck c ack g) may = takes_ack b given m acts seen c ack g may
  follows m acts seen (SendAgain c number) may = sends_again b given m acts seen c number may
  follows m acts seen (LookAtDoor c pending) may = looks b given m acts seen c pending may
  follows m acts seen (Stand c) may = stands_there b given m acts seen c may
  follows m acts seen (Hear c) may = hears b given m acts seen c may
  follows m acts seen (DeliverMail x t f) may = delivers b given m acts seen x t f may
  follows m acts seen (KeepBack x) may = keeps_back b given m acts seen x may
  follows m acts seen (DeliverKept c x t f) may = delivers_kept b given m acts seen c x t f may
  follows m acts seen (WakeUp c t) may = wakes b given m acts seen c t may
  follows m acts seen (ServeDoor c) may = serves_door b given m acts seen c may
  follows m acts seen (ResetCore c t) may = resets b given m acts seen c t may
  follows m acts seen (CutPower level place) may = cuts_power b given m acts seen level place may
  follows m acts seen (Carry mail made) may = carries b given m acts seen mail made may
  follows m acts seen (RestartAll f s) may = restarts b given m acts seen f s may
  follows m acts seen (RebootAll f t) may = reboots b given m acts seen f t may
  follows m acts seen (ArmCore c) may = arms_there b given m acts seen c may
  follows m acts seen (SleepCore c) may = sleeps_there b given m acts seen c may
  follows m acts seen (RouseCore c) may = rouses_there b given m acts seen c may
  follows m acts seen (RiseCore c t) may = rises_there b given m acts seen c t may
  follows m acts seen (TurnCore c) may = turns_there b given m acts seen c may

  module _ (f : FirmwareValue) (s : ControlValue) (is : IsCold b f s) where
    begins_so : IsSeen b (cold b f s) []
    unfolding state
    begins_so = record {
      run = tt;
      so = tt;
      tied = record {
        each = λ c has. first_core c;
        firmware = given.opens [] f is.firmware.board is.firmware.values;
        control = first_side b s [] is.control;
        gates = is.side;
        lock = refl;
        mail = empty_mail b s.gates [] is.control.gates;
        power = record { depth = λ level place. refl; cut = λ level place. refl };
      };
    }

    pub run_seen : (steps : List Step) → IsRun b (cold b f s) steps
        → (acts : List Act) × AreShown b (cold b f s) steps acts
        × IsSeen b (machine b (cold b f s) steps) acts
    unfolding machine
    run_seen [] run = ([], refl, begins_so)
    run_seen (x ∷ steps) run =
        let was = run_seen steps run.1 in
        let next = follows (machine b (cold b f s) steps) was.0 was.2 x run.0 in (
          next.0 ++ was.0,
          (next.0, (was.0, (refl, (next.1, was.1)))),
          next.2,
        )

    pub run_takes : (steps : List Step) → IsRun b (cold b f s) steps
        → EachTakesItsLast b (cold b f s) steps
    run_takes [] run = tt
    run_takes (x ∷ steps) run =
        let was = run_seen steps run.1 in (
          takes_last b given (machine b (cold b f s) steps) was.0 was.2 x run.0,
          run_takes steps run.1,
        )
