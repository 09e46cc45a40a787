-- The power controller is asked, and its orders are carried out: messages, wake-ups and resets.
use Rattle.psci_messages.specs.declared.kind.Kind.TheVariants as kinds
use Rattle.psci_messages.specs.declared.start.Cause.TheVariants as causes
use Rattle.psci_ctl_spec.specs.declared.call.CtlCall.TheVariants as asked
use Rattle.psci_ctl_spec.specs.Replies.{effect_of}
use Rattle.psci_world_spec.specs.declared.event.Event.TheVariants as events
use Rattle.psci_world_spec.specs.Legal.{acks, sent}
use Rattle.psci_port.specs.Port.{Resets, Rises, state, step, Wakes, woken}
use Rattle.psci_port.specs.Waiting.{stands, touches}
use Rattle.psci_port.specs.Stages as stages
use Rattle.psci_port.specs.Rules as rules
use Rattle.psci_port.proofs.Running.{first_begun}
use Rattle.psci_port.proofs.Rows.{delivered_starts, delivered_touches, woken_starts}
use Rattle.psci_port.proofs.Records.{delivered_held, woken_held}
use Rattle.psci_control.specs.ControlSide.{IsAsked, reply_in}
use Rattle.psci_control.specs.SideOf as control
use Rattle.psci_control.proofs.Commanded.{delivers_side, resets_side, rises_side, wakes_side}
use Rattle.psci_control.proofs.Commanded.{woken_side}
use Rattle.psci_enter.specs.SideOf.{is_started}
use Rattle.psci_enter.specs.Side.{heard as hears}
use Rattle.psci_enter.proofs.Keeping.{delivers_firmware, rises}
use Rattle.psci_enter.proofs.Others as others
use Rattle.psci_enter.proofs.Others.{effect_side, wake_goes}
use Rattle.psci_sides.specs.Machine.{carried}
use Rattle.psci_sides.specs.Steps.{after, ArmedLacks, Asks, came_back, reset_of, risen}
use Rattle.psci_sides.specs.Seen.{rise_acts}
use Rattle.psci_sides.proofs.Words.{◌&&◌, ◌++◌, ◌<◌, ◌∙◌, ◌∷◌, ◌≡◌, [], ack_in, AckValue, Act, ap}
use Rattle.psci_sides.proofs.Words.{arith, Armed, at, BoardValue, Bool, commanded, ControlValue}
use Rattle.psci_sides.proofs.Words.{cores, CtlCall, CtlReply, DeliverKept, DeliverMail, Delivers}
use Rattle.psci_sides.proofs.Words.{Effect, eqb-true, false, false≢true, FirmwareValue, Fits}
use Rattle.psci_sides.proofs.Words.{FwCall, Gate, gate_in, has_stopped, heard, indexed, inl, inr}
use Rattle.psci_sides.proofs.Words.{is_end, IsCoreOf, IsFirmwareOf, IsKept, IsLent, IsMachineOf}
use Rattle.psci_sides.proofs.Words.{IsMadeAnew, IsSendable, IsSideOf, keeping, length, List}
use Rattle.psci_sides.proofs.Words.{lock_by, Machine, May, MayFollow, MessageValue, moved}
use Rattle.psci_sides.proofs.Words.{nat_tests, None, none-some, not, Option, orders_in, Port, Post}
use Rattle.psci_sides.proofs.Words.{quiet_firmware, Record, refl, reply, ResetCore, RiseCore, Row}
use Rattle.psci_sides.proofs.Words.{row_by, run_kept, said_by, served, side_of, Some, stage_at}
use Rattle.psci_sides.proofs.Words.{Starts, starts_core, subst, sym, true, Values, waits_in}
use Rattle.psci_sides.proofs.Words.{wake_of, WakeUp, words, ℕ}
use Rattle.psci_sides.proofs.Commanding.{armed_post, carried_now, cores_after, ended_waits}
use Rattle.psci_sides.proofs.Commanding.{gate_waits, inside, its_side, left_machine, lent_none}
use Rattle.psci_sides.proofs.Commanding.{same_core, stood_out, waits_side}
use Rattle.psci_sides.proofs.Carrying.{done, Follows, Given, IsSeen, one_act}
use Rattle.psci_sides.proofs.Locking.{armed_stands, has_lock, stays_at}

-- Tests ------------------------------------------------------------------------------------------

met : (t h : Bool) → (t && not h) ≡ false → t ≡ true → h ≡ true
met t h free is = grind (arith, nat_tests)

kept_on : (h : Bool) → not h ≡ false → h ≡ true
kept_on true e = refl
kept_on false e = absurd (false≢true (sym e))

-- a reset that is not ignored starts the core
reset_starts : (b : BoardValue) (c : ℕ) (r : CtlReply) → is_started r ≡ true
    → effect_of b (reset_of c) r ≡ Starts c causes.Reset
unfolding effect_of
reset_starts b c r is = grind (arith, nat_tests)

-- What a wake-up leaves --------------------------------------------------------------------------

-- no life ends by it: the lock and the firmware stay
lock_stays : (g : Effect) (l : Option ℕ) → is_end g ≡ false → lock_by g l ≡ l
lock_stays g l goes = grind (arith, nat_tests)

firmware_stays : (b : BoardValue) (f : FirmwareValue) (g : Effect) (a : Option AckValue)
    (m : Machine) → is_end g ≡ false → (done b f g a m).firmware ≡ m.firmware
firmware_stays b f g a m goes = grind (arith, nat_tests)

-- a core that had begun no call has begun none
begun_none : (c : ℕ) (g : Effect) (r : Row) → r.begun ≡ None → (row_by c g r).begun ≡ None
begun_none c g r none = grind (arith, nat_tests, first_begun)

-- and was lent nothing, wherever its monitor is
lent_nothing : (c : ℕ) (post other : Post) (o : Option FwCall) (begun : Option Record)
    → begun ≡ None → IsLent c post o begun → IsLent c other o begun
lent_nothing c post other o begun none lent = grind (arith, nat_tests)

module _ (b : BoardValue) (given : Given b) (m : Machine) (acts : List Act)
    (seen : IsSeen b m acts) where
  abbrev p : Port
  p = state b acts

  abbrev is : IsMachineOf b m p
  is = seen.tied

  abbrev kept : IsKept p
  kept = run_kept b acts seen.run

  abbrev now : CtlCall → Effect
  now call = effect_of b call (reply b p.values call)

  abbrev ack : CtlCall → Option AckValue
  ack call = ack_in (reply b p.values call)

  -- an armed core that lacks the lock in the machine lacks it in the port
  pub lacks : (c : ℕ) → c < cores b → ArmedLacks m c → control.ArmedLacks p c
  lacks c has free armed at =
      free (armed_post (m.side c).post (stage_at p c) (is.each c has).post armed) (is.lock ∙ at)

  -- one that stands by its word was lent nothing
  pub stood_lent : (c : ℕ) → c < cores b → words p c ≡ p.values.starts c → (m.station c).lent ≡ None
  stood_lent c has word =
      lent_none p kept c (m.side c).post
      (stood_out (stage_at p c) ((kept.rows c).stands word))
      (m.station c).lent (is.each c has).lent

  -- what waited before
  pub still_waits : (s t : ControlValue) (call : CtlCall) → IsAsked call s t → (c : ℕ)
      (x : MessageValue) → (gate_in t.gates c).waiting ≡ Some x
      → (gate_in s.gates c).waiting ≡ Some x
  still_waits s t call was c x e = grind (arith, nat_tests, ended_waits)

  -- A message ------------------------------------------------------------------------------------

  module _ (x : MessageValue) (s t : ControlValue) (f : FirmwareValue) (can : IsSendable b x)
      (anew : IsMadeAnew b f) (side : control.IsSideOf b s p)
      (asks : Asks (asked.Deliver x) s t)
      (starts : x.kind ≡ kinds.Start → ArmedLacks m x.core.number)
      (keeps : (c : ℕ) (y : MessageValue) → (gate_in s.gates c).waiting ≡ Some y
      → (gate_in m.control.gates c).waiting ≡ Some y)
      (k : ℕ) (sent_so : indexed (sent p.past) k ≡ Some x) where
    abbrev call : CtlCall
    call = asked.Deliver x

    right : control.IsRightly b t p (Delivers k x)
    right = delivers_side b p s side kept t k x can asks.now
        (λ start. lacks x.core.number can.board.core (starts start)) asks.asked

    -- whom it starts was lent nothing
    started_lent : (c : ℕ) → starts_core (now call) ≡ Some c → (m.station c).lent ≡ None
    started_lent c e =
        let own : x.core.number ≡ c = (delivered_starts b p.values x c e).1 in
        let stood = met (touches b p.values x) (stands p.values (words p) x.core.number)
        right.may.1 (delivered_touches b p.values x c e) in
        subst (λ i. (m.station i).lent ≡ None) own
        (stood_lent x.core.number can.board.core (eqb-true _ _ stood))

    message_machine : IsMachineOf b (commanded b f (orders_in m.control call) t m)
        (step b p (Delivers k x))
    unfolding step state
    message_machine =
        left_machine b m p is f (reply b p.values call) (events.Deliver k) t (now call)
        (λ goes. delivers_firmware b p m.firmware is.firmware k x goes)
        (λ ends. (given.anew acts f seen.run seen.so anew.board anew.values).0 k x right.may sent_so
        ends)
        right.side asks.side
        (λ c y e. keeps c y (still_waits s t call asks.asked c y e))
        (given.may p.values call can)
        (commanded b f (orders_in m.control call) t m)
        (ap (λ (n : Machine). n.firmware) (carried_now b m p is f call))
        (ap (λ (n : Machine). n.lock) (carried_now b m p is f call))
        (ap (λ (n : Machine). n.mail) (carried_now b m p is f call))
        (ap (λ (n : Machine). n.acks) (carried_now b m p is f call))
        (ap (λ (n : Machine). n.depth) (carried_now b m p is f call))
        (ap (λ (n : Machine). n.cut) (carried_now b m p is f call)) refl
        (λ c has. subst (λ (n : Machine). IsCoreOf c (n.side c) (n.station c)
        (row_by c (now call) (p.row c))) (sym (carried_now b m p is f call))
        (cores_after b m p is f (reply b p.values call) (events.Deliver k) (now call)
        (λ goes d within. (others.delivers_side b p (side_of m d) (its_side b m p is.each d within)
        kept k x right.may goes).post)
        started_lent (delivered_held b x (reply b p.values call)) c has))

    message_seen : IsSeen b (commanded b f (orders_in m.control call) t m) (Delivers k x ∷ acts)
    message_seen = one_act b (commanded b f (orders_in m.control call) t m) acts (Delivers k x)
        seen.run seen.so right.may sent_so message_machine

  pub delivers : (x : MessageValue) (t : ControlValue) (f : FirmwareValue)
      → May b m (DeliverMail x t f) → Follows b m acts (DeliverMail x t f)
  unfolding after
  delivers x t f may =
      let was = is.mail.messages x may.0 in (
        Delivers was.0 x ∷ [],
        (was.0, refl),
        message_seen x m.control t f may.1 may.3 is.control may.2 may.4 (λ c y e. e) was.0 was.1,
      )

  pub delivers_kept : (c : ℕ) (x : MessageValue) (t : ControlValue) (f : FirmwareValue)
      → May b m (DeliverKept c x t f) → Follows b m acts (DeliverKept c x t f)
  unfolding after
  delivers_kept c x t f may =
      let was = is.mail.kept c x may.1 in
      let g : Gate = gate_in m.control.gates c in (
        Delivers was.0 x ∷ [],
        (was.0, refl),
        message_seen x (keeping m c) t f may.2 may.4
            (waits_side b p m.control is.control is.gates c may.0 (served g) refl refl refl) may.3
            may.5
            (λ d y e. elim (gate_waits m.control.gates c (served g) d y
            (inside b p m.control is.control is.gates c may.0) e) [
              | inl gone ↦ absurd (none-some y gone)
              | inr old ↦ old
            ]) was.0 was.1,
      )

  -- A wake-up ------------------------------------------------------------------------------------

  module _ (c : ℕ) (has : c < cores b) (t : ControlValue)
      (asks : Asks (wake_of m c) m.control t) where
    pub own_word : heard m.control c ≡ p.values.starts c
    own_word = eqb-true _ _ (kept_on _ asks.now)
        ∙ ap (λ (v : Values). v.starts c) is.control.values

    -- the word that was heard is the core's own
    pub last_word : words p c ≡ p.values.starts c
    last_word =
        let e : heard m.control c ≡ p.values.starts c = own_word in
        let low = is.control.heard c has in
        let stood = (kept.rows c).stood in
        let used = (kept.rows c).used in
        let opened = (kept.rows c).opened in
        omega (arith, e, low, stood, used, opened)

    abbrev wake : CtlCall
    wake = asked.Wake (record { number = c }) (words p c)

    pub same_wake : wake_of m c ≡ wake
    same_wake = ap (λ n. asked.Wake (record { number = c }) n) (own_word ∙ sym last_word)

    pub carried_wake : carried b m.firmware (orders_in m.control (wake_of m c)) m
        ≡ done b m.firmware (now wake) (ack wake) m
    carried_wake = ap (λ x. carried b m.firmware (orders_in m.control x) m) same_wake
        ∙ carried_now b m p is m.firmware wake

    -- whom it starts has stopped
    started_stopped : (i : ℕ) → starts_core (now wake) ≡ Some i
        → has_stopped (stage_at p i) ≡ true
    started_stopped i e =
        subst (λ j. has_stopped (stage_at p j) ≡ true)
        (woken_starts b p.values c (words p c) i e)
        ((kept.rows c).stands last_word)

    pub woken_machine : IsMachineOf b
        (commanded b m.firmware (orders_in m.control (wake_of m c)) t m) (woken b p c)
    unfolding step
    woken_machine =
        left_machine b m p is m.firmware (reply b p.values wake) (events.Wake c) t (now wake)
        (λ goes. quiet_firmware b p m.firmware is.firmware (Wakes c) refl)
        (λ ends. quiet_firmware b p m.firmware is.firmware (Wakes c) refl)
        (woken_side b p m.control is.control kept t c has asks.now asks.asked) asks.side
        (λ d y e. still_waits m.control t (wake_of m c) asks.asked d y e)
        (given.may p.values wake has)
        (commanded b m.firmware (orders_in m.control (wake_of m c)) t m)
        (ap (λ (n : Machine). n.firmware) carried_wake)
        (ap (λ (n : Machine). n.lock) carried_wake)
        (ap (λ (n : Machine). n.mail) carried_wake)
        (ap (λ (n : Machine). n.acks) carried_wake)
        (ap (λ (n : Machine). n.depth) carried_wake)
        (ap (λ (n : Machine). n.cut) carried_wake) refl
        (λ d within. subst (λ (n : Machine). IsCoreOf d (n.side d) (n.station d)
        (row_by d (now wake) (p.row d))) (sym carried_wake)
        (cores_after b m p is m.firmware (reply b p.values wake) (events.Wake c) (now wake)
        (λ goes i inner. (effect_side b p (side_of m i) (its_side b m p is.each i inner)
        (now wake) (woken b p c) goes
        (λ e. (started_stopped i e, woken_held b c (words p c) (reply b p.values wake))) refl).post)
        (λ i e. subst (λ j. (m.station j).lent ≡ None)
        (woken_starts b p.values c (words p c) i e)
        (stood_lent c has last_word))
        (woken_held b c (words p c) (reply b p.values wake)) d within))

    right_wake : ArmedLacks m c → control.IsRightly b t p (Wakes c)
    right_wake free = wakes_side b p m.control is.control kept t c has asks.now asks.asked
        (lacks c has free)

    -- It tells that itself, with the lock in hand -----------------------------------------------

    module _ (holds : rules.HasLock p c) (there : stage_at p c ≡ stages.Armed) where
      abbrev left : Machine
      left = commanded b m.firmware (orders_in m.control (wake_of m c)) t m

      -- what is left of the machine once the wake-up's orders are carried out
      tied : IsMachineOf b left (woken b p c)
      tied = woken_machine

      goes : is_end (effect_of b wake (reply b p.values wake)) ≡ false
      goes = wake_goes b p.values (record { number = c }) (words p c)

      same_firmware : left.firmware ≡ m.firmware
      same_firmware =
          ap (λ (n : Machine). n.firmware) (carried_wake)
          ∙ firmware_stays b m.firmware (effect_of b wake (reply b p.values wake)) _ m goes

      -- the side hears what the power controller answers
      same_answer : is_started (reply_in m.control (wake_of m c))
          ≡ is_started (reply b p.values wake)
      same_answer = grind (arith, nat_tests, same_wake)

      rises_so : rules.May b p (Rises c)
          × IsSideOf b (at (hears (is_started (reply b p.values wake))) (side_of m c))
          (step b p (Rises c))
      rises_so = rises b p (side_of m c) (its_side b m p is.each c has) there holds

      risen_fits : Fits (hears (is_started (reply_in m.control (wake_of m c))))
          (stage_at (woken b p c) c)
      unfolding step
      risen_fits =
          subst (λ x. Fits (hears x) (stage_at (woken b p c) c)) (sym same_answer) rises_so.1.post

      risen_core : IsCoreOf c
          (at (hears (is_started (reply_in m.control (wake_of m c)))) (side_of left c))
          (left.station c) ((woken b p c).row c)
      risen_core = grind (arith, nat_tests, tied, risen_fits, lent_nothing, begun_none)

      risen_machine : IsMachineOf b (risen false b c t m) (step b p (Rises c))
      unfolding step
      risen_machine = record {
        each = same_core b left (woken b p c) tied.each c _ _ risen_core;
        firmware = subst (λ f. IsFirmwareOf b f (step b p (Rises c))) (sym same_firmware)
            (quiet_firmware b p m.firmware is.firmware (Rises c) refl);
        control = (rises_side b p m.control is.control kept t c has asks.now asks.asked
            rises_so.0).side;
        gates = asks.side;
        lock = tied.lock ∙ lock_stays (effect_of b wake (reply b p.values wake)) p.lock goes;
        mail = tied.mail;
        power = tied.power;
      }

      risen_seen : IsSeen b (risen false b c t m) (Rises c ∷ acts)
      risen_seen = one_act b _ acts (Rises c) seen.run seen.so rises_so.0 tt risen_machine

  pub wakes : (c : ℕ) (t : ControlValue) → May b m (WakeUp c t) → Follows b m acts (WakeUp c t)
  unfolding after step
  wakes c t may = (
    Wakes c ∷ [],
    refl,
    one_act b _ acts (Wakes c) seen.run seen.so (right_wake c may.0 t may.1 may.2).may tt
        (woken_machine c may.0 t may.1),
  )

  -- A core is reset by itself --------------------------------------------------------------------

  module _ (c : ℕ) (has : c < cores b) (t : ControlValue) (free : m.lock ≡ Some c → ⊥)
      (may_start : is_started (reply_in m.control (reset_of c)) ≡ true)
      (asks : Asks (reset_of c) m.control t) where
    right_reset : control.IsRightly b t p (Resets c)
    right_reset = resets_side b p m.control is.control t c has (λ e. free (is.lock ∙ e)) asks.asked

    abbrev starts : Effect
    starts = Starts c causes.Reset

    now_is : now (reset_of c) ≡ starts
    now_is = grind (arith, nat_tests, reset_starts)

    abbrev told : Record
    told = record {
      event = events.Reset c;
      said = said_by (length (acks p.past)) (reply b p.values (reset_of c));
    }

    abbrev back : Effect → Machine
    back g = came_back c (record (done b m.firmware g (ack (reset_of c)) m) { control = t })

    back_is : came_back c (commanded b m.firmware (orders_in m.control (reset_of c)) t m)
        ≡ back (now (reset_of c))
    back_is = ap (λ (n : Machine). came_back c (record n { control = t }))
        (carried_now b m p is m.firmware (reset_of c))

    back_core : (d : ℕ) → d < cores b → IsCoreOf d ((back starts).side d) ((back starts).station d)
        (row_by d starts (p.row d))
    back_core d within = grind (arith, nat_tests)

    reset_machine : IsMachineOf b (back starts) (moved b p starts told)
    unfolding step
    reset_machine =
        let side = subst (λ g. control.IsSideOf b t (moved b p g told)) now_is right_reset.side in
        let firmware = subst (λ g. IsFirmwareOf b m.firmware (moved b p g told)) now_is
        (quiet_firmware b p m.firmware is.firmware (Resets c) refl) in
        left_machine b m p is m.firmware (reply b p.values (reset_of c)) (events.Reset c) t starts
        (λ goes. firmware) (λ ends. firmware) side asks.side
        (λ d y e. still_waits m.control t (reset_of c) asks.asked d y e)
        (subst (MayFollow b p.values) now_is (given.may p.values (reset_of c) has))
        (back starts) refl refl refl refl refl refl refl back_core

    reset_seen : IsSeen b (came_back c (commanded b m.firmware (orders_in m.control (reset_of c))
        t m)) (Resets c ∷ acts)
    unfolding step
    reset_seen = one_act b _ acts (Resets c) seen.run seen.so right_reset.may tt
        (subst (λ n. IsMachineOf b n (moved b p (now (reset_of c)) told)) (sym back_is)
        (subst (λ g. IsMachineOf b (back g) (moved b p g told)) (sym now_is) reset_machine))

  pub resets : (c : ℕ) (t : ControlValue) → May b m (ResetCore c t)
      → Follows b m acts (ResetCore c t)
  unfolding after
  resets c t may = (Resets c ∷ [], refl, reset_seen c may.0.0 t may.0.1 may.0.2 may.1)

  -- where others started it, its wake-up waits, and nothing changes
  rises_by : (c : ℕ) (t : ControlValue) (waits : Bool) → waits_in m.control (wake_of m c) ≡ waits
      → May b m (RiseCore c t) → IsSeen b (risen waits b c t m) (rise_acts waits c ++ acts)
  rises_by c t true so may =
      stays_at b given m acts seen c (at Armed (side_of m c)) may.0.0.0 refl (sym may.0.1)
  rises_by c t false so may =
      let has : c < cores b = may.0.0.0 in
      let there : stage_at p c ≡ stages.Armed = armed_stands (stage_at p c)
      (subst (λ x. Fits x (stage_at p c)) may.0.1 (is.each c has).post)
      ((kept.rows c).stands (last_word c has t (may.1 so))) in
      risen_seen c has t (may.1 so) (has_lock b given m acts seen c may.0.0) there

  pub rises_there : (c : ℕ) (t : ControlValue) → May b m (RiseCore c t)
      → Follows b m acts (RiseCore c t)
  unfolding after
  rises_there c t may = grind (arith, nat_tests, rises_by)
