-- Calls of the firmware begin and end, and acknowledgements are taken.
use Rattle.psci_fw_spec.specs.declared.call.FwCall.TheVariants as calls
use Rattle.psci_fw_spec.specs.declared.outcome.Act.TheVariants as outcomes
use Rattle.psci_fw_spec.specs.declared.reply.FwReply.TheVariants as replies
use Rattle.psci_fw_spec.specs.Answer.{answer}
use Rattle.psci_world_spec.specs.declared.event.Event.TheVariants as events
use Rattle.psci_world_spec.specs.declared.said.Said.{Said}
use Rattle.psci_world_spec.specs.Legal.{acks, asked_firmware, sent}
use Rattle.psci_port.specs.Port.{begins, Calls, ended, finished, state, step, Takes}
use Rattle.psci_port.specs.Stages as stages
use Rattle.psci_port.specs.Rules as rules
use Rattle.psci_port.proofs.Running.{step_kept}
use Rattle.psci_port.proofs.Truth.{IsDue}
use Rattle.psci_fw.specs.Reactions.{seen as values}
use Rattle.psci_control.specs.SideOf as control
use Rattle.psci_enter.proofs.Ending.{calls_so, lost_ack}
use Rattle.psci_enter.proofs.Keeping.{called_reply, entered_reply, life_of, one_entry, taken_values}
use Rattle.psci_sides.specs.Machine.{lent_to, returned}
use Rattle.psci_sides.specs.Steps.{after}
use Rattle.psci_sides.proofs.Words.{◌<◌, ◌==◌, ◌∙◌, ◌∷◌, ◌≡◌, [], AckValue, Act, answered, ap}
use Rattle.psci_sides.proofs.Words.{apart_side, arith, BeginCall, BeginEntry, BoardValue, Bool}
use Rattle.psci_sides.proofs.Words.{cond, core_of, cores, EndCall, Enters, eqb-true, false}
use Rattle.psci_sides.proofs.Words.{Finishes, firmware_values, FirmwareSide, FirmwareValue, Fits}
use Rattle.psci_sides.proofs.Words.{FitsCall, FwCall, FwReply, indexed, inl, inr, is_suspending}
use Rattle.psci_sides.proofs.Words.{IsAsked, IsCoreOf, IsEventOf, IsFirmwareOf, IsKept, IsLent}
use Rattle.psci_sides.proofs.Words.{IsMachineOf, IsMirror, IsSideOf, length, List, Machine, May}
use Rattle.psci_sides.proofs.Words.{MessageValue, nat_tests, None, none-some, Option, orders_by}
use Rattle.psci_sides.proofs.Words.{Port, quiet_firmware, Record, refl, Regs, replied, reply_in}
use Rattle.psci_sides.proofs.Words.{request_of, Row, row_same, run_kept, said_of, sent_in, side_by}
use Rattle.psci_sides.proofs.Words.{side_of, Some, stage_at, Start, subst, sym, TakeAck, true, ℕ}
use Rattle.psci_sides.proofs.Commanding.{in_listed, its_side, made_still, one_core, sent_new}
use Rattle.psci_sides.proofs.Commanding.{sent_still}
use Rattle.psci_sides.proofs.Carrying.{Follows, Given, IsSeen, no_act, one_act}
use Rattle.psci_sides.proofs.Locking.{has_lock}

-- What a reply leaves of a side ------------------------------------------------------------------

replied_core : (t : Bool) (r : FwReply) (s : FirmwareSide) → core_of (replied t r s) ≡ core_of s
replied_core t r s = grind (arith, nat_tests)

replied_used : (t : Bool) (r : FwReply) (s : FirmwareSide) → (replied t r s).used ≡ s.used
replied_used t r s = grind (arith, nat_tests)

-- what it has sent is what was said that it sent
sent_message : (n : ℕ) (o : Option MessageValue) (x : MessageValue) → o ≡ Some x
    → sent_in (said_of n (replies.Out (record { act = outcomes.Stop; message = o }))) ≡ Some x
sent_message n None x e = absurd (none-some x e)
sent_message n (Some y) x e = e

called_sends : (s : FirmwareSide) (regs : Regs) (n : ℕ) (r : FwReply) (x : MessageValue)
    → (orders_by s (calls.Smc regs) r).send ≡ Some x → sent_in (said_of n r) ≡ Some x
called_sends s regs n r x e = grind (arith, nat_tests, sent_message)

entered_sends : (s : FirmwareSide) (start : Start) (n : ℕ) (r : FwReply) (x : MessageValue)
    → (orders_by s (calls.Enter start) r).send ≡ Some x → sent_in (said_of n r) ≡ Some x
entered_sends s start n r x e = grind (arith, nat_tests, sent_message)

module _ (b : BoardValue) (given : Given b) (m : Machine) (acts : List Act)
    (seen : IsSeen b m acts) where
  abbrev p : Port
  p = state b acts

  abbrev is : IsMachineOf b m p
  is = seen.tied

  abbrev kept : IsKept p
  kept = run_kept b acts seen.run

  -- A call begins --------------------------------------------------------------------------------

  begun_machine : (c : ℕ) (call : FwCall) (r : Record) → c < cores b
      → IsEventOf c (m.side c).post call r.event
      → IsFirmwareOf b m.firmware (begins p c r) → control.IsSideOf b m.control (begins p c r)
      → IsMachineOf b (lent_to m c call) (begins p c r)
  begun_machine c call r has event firmware ctl = grind (arith, nat_tests)

  pub begins_call : (c : ℕ) (regs : Regs) → May b m (BeginCall c regs)
      → Follows b m acts (BeginCall c regs)
  unfolding after step
  begins_call c regs may =
      let so = calls_so b p m.firmware (side_of m c) is.firmware
      (its_side b m p is.each c may.0.0) (has_lock b given m acts seen c may.0) regs may.1 in
      let said : Said = said_of (length (sent p.past)) (reply_in m.firmware c (calls.Smc regs)) in (
        Calls c regs said ∷ [],
        (said, refl),
        one_act b _ acts (Calls c regs said) seen.run seen.so so.0.0 so.0.1
            (begun_machine c (calls.Smc regs)
            (record { event = events.Call c regs; said = said }) may.0.0 refl
            (quiet_firmware b p m.firmware is.firmware (Calls c regs said) refl)
            (apart_side b p m.control is.control kept (Calls c regs said) refl)),
      )

  pub begins_entry : (c : ℕ) (start : Start) → May b m (BeginEntry c start)
      → Follows b m acts (BeginEntry c start)
  unfolding after step
  begins_entry c start may =
      let so = given.enters acts m.firmware (side_of m c) start seen.run is.firmware
      (its_side b m p is.each c may.0.0) may.1 (has_lock b given m acts seen c may.0) in
      let said : Said =
      said_of (length (sent p.past)) (reply_in m.firmware c (calls.Enter start)) in (
        Enters c said ∷ [],
        (said, refl),
        one_act b _ acts (Enters c said) seen.run seen.so so.may so.so
            (begun_machine c (calls.Enter start)
            (record { event = events.Enter c; said = said }) may.0.0 (refl, may.1)
            (quiet_firmware b p m.firmware is.firmware (Enters c said) refl)
            (apart_side b p m.control is.control kept (Enters c said) refl)),
      )

  -- It ends --------------------------------------------------------------------------------------

  module _ (c : ℕ) (has : c < cores b) (r : Record) (begun : (p.row c).begun ≡ Some r) where
    over : step b p (Finishes c) ≡ finished p c (Some r)
    unfolding step
    over = ap (finished p c) begun

    over_state : state b (Finishes c ∷ acts) ≡ finished p c (Some r)
    unfolding state
    over_state = over

    ended_machine : (g : FirmwareValue) (call : FwCall) (reply : FwReply) (s : FirmwareSide)
        → s ≡ side_by (side_of m c) call reply → core_of s ≡ c → s.used ≡ (m.side c).used
        → IsFirmwareOf b g (state b (Finishes c ∷ acts))
        → IsSideOf b s (state b (Finishes c ∷ acts))
        → ((x : MessageValue) → (orders_by (side_of m c) call reply).send ≡ Some x
        → sent_in r.said ≡ Some x)
        → IsSeen b (answered m c g call reply) (Finishes c ∷ acts)
    ended_machine g call reply s at core used firmware side sends =
        let was = is.each c has in
        one_act b _ acts (Finishes c) seen.run seen.so (r, begun) tt
        (subst (λ q. IsMachineOf b (answered m c g call reply) q) (sym over) (record {
          each = one_core b m p is.each c (side_by (side_of m c) call reply)
              (record (m.station c) { lent = None }) (ended r (p.row c))
              (subst (λ t. IsCoreOf c t (record (m.station c) { lent = None }) (ended r (p.row c)))
              at (record {
                used = used ∙ was.used;
                post = subst (λ (x : Row). Fits s.post x.stage)
                    (row_same c (ended r (p.row c)) (p.row c))
                    (subst (λ k. Fits s.post (stage_at (finished p c (Some r)) k)) core
                    (subst (λ q. Fits s.post (stage_at q (core_of s))) over_state side.post));
                opened = was.opened;
                start = was.start;
                word = was.word;
                held = was.held;
                lent = refl;
              }));
          firmware = subst (λ q. IsFirmwareOf b g q) over_state firmware;
          control = subst (λ q. control.IsSideOf b m.control q) over
              (apart_side b p m.control is.control kept (Finishes c) refl);
          gates = is.gates;
          lock = is.lock;
          mail = record {
            messages = λ x in_it. elim (in_listed (orders_by (side_of m c) call reply).send m.mail x
                in_it) [
                  | inl e ↦ sent_new r p.past x (sends x e)
                  | inr old ↦ sent_still r p.past x (is.mail.messages x old)
                ];
            kept = λ d x e. sent_still r p.past x (is.mail.kept d x e);
            acks = λ a in_it. made_still r p.past a (is.mail.acks a in_it);
          };
          power = is.power;
        }))

    mirror : IsMirror b p
    mirror = given.world acts seen.run seen.so

    ends_call : (regs : Regs) (g : FirmwareValue) → r.event ≡ events.Call c regs
        → IsAsked c (calls.Smc regs) m.firmware g
        → IsSeen b (answered m c g (calls.Smc regs) (reply_in m.firmware c (calls.Smc regs)))
        (Finishes c ∷ acts)
    ends_call regs g at asked =
        let reply : FwReply = reply_in m.firmware c (calls.Smc regs) in
        let side = its_side b m p is.each c has in
        let done = given.called acts m.firmware g (side_of m c) regs r seen.run seen.so is.firmware
        side begun at asked in
        let normal = (subst (λ e. FitsCall c e (stage_at p c)) at (kept.held.fits c r begun)).1 in
        let said = (subst (λ e. IsDue b p.past c e r.said (stage_at p c)) at
        (mirror.due c r begun)).1
        ∙ ap (said_of (length (sent p.past)))
        (sym (called_reply b p m.firmware is.firmware c regs normal)) in
        ended_machine g (calls.Smc regs) reply
        (replied (is_suspending (request_of regs)) reply (side_of m c)) refl
        (replied_core (is_suspending (request_of regs)) reply (side_of m c))
        (replied_used (is_suspending (request_of regs)) reply (side_of m c))
        done.0 done.1.side
        (λ x e. ap sent_in said
        ∙ called_sends (side_of m c) regs (length (sent p.past)) reply x e)

    ends_entry : (start : Start) (g : FirmwareValue)
        → IsEventOf c (m.side c).post (calls.Enter start) r.event
        → IsAsked c (calls.Enter start) m.firmware g
        → IsSeen b (answered m c g (calls.Enter start) (reply_in m.firmware c (calls.Enter start)))
        (Finishes c ∷ acts)
    ends_entry start g at asked =
        let reply : FwReply = reply_in m.firmware c (calls.Enter start) in
        let side = its_side b m p is.each c has in
        let done = given.entered acts m.firmware g (side_of m c) start r seen.run seen.so
        is.firmware side at.1 begun at.0 asked in
        let entering : stage_at p c ≡ stages.Entering start =
        subst (λ x. Fits x (stage_at p c)) at.1 (is.each c has).post in
        let last = (kept.rows c).taken start entering in
        let life = life_of p.values.life (p.values.starts c) (p.values.cause c) start last in
        let due = (subst (λ e. IsDue b p.past c e r.said (stage_at p c)) at.0
        (mirror.due c r begun)).1 in
        let said : r.said ≡ said_of (length (sent p.past)) reply =
        due.2 ∙ ap (λ x. asked_firmware b p.past c (calls.Enter x))
        (one_entry due.0 start (sym due.1 ∙ entering))
        ∙ ap (said_of (length (sent p.past)))
        (sym (entered_reply b p m.firmware is.firmware given.alike c start last life)) in
        ended_machine g (calls.Enter start) reply (replied false reply (side_of m c)) refl
        (replied_core false reply (side_of m c)) (replied_used false reply (side_of m c))
        done.0 done.1.side
        (λ x e. ap sent_in said
        ∙ entered_sends (side_of m c) start (length (sent p.past)) reply x e)

  ends_by : (c : ℕ) (g : FirmwareValue) (call : FwCall) → c < cores b
      → (r : Record) × (((p.row c).begun ≡ Some r) × IsEventOf c (m.side c).post call r.event)
      → IsAsked c call m.firmware g
      → IsSeen b (answered m c g call (reply_in m.firmware c call)) (Finishes c ∷ acts)
  ends_by c g (calls.Smc regs) has is_lent asked =
      ends_call c has is_lent.0 is_lent.1.0 regs g is_lent.1.1 asked
  ends_by c g (calls.Enter start) has is_lent asked =
      ends_entry c has is_lent.0 is_lent.1.0 start g is_lent.1.1 asked
  ends_by c g (calls.Take ack) has is_lent asked = absurd is_lent.1.1

  pub ends : (c : ℕ) (g : FirmwareValue) → May b m (EndCall c g) → Follows b m acts (EndCall c g)
  unfolding after
  ends c g may =
      let lent = subst (λ o. IsLent c (m.side c).post o (p.row c).begun) may.1.1.0
      (is.each c may.0).lent in (
        Finishes c ∷ [],
        refl,
        subst (λ o. IsSeen b (returned m c g o) (Finishes c ∷ acts)) (sym may.1.1.0)
            (ends_by c g may.1.0 may.0 lent may.1.1.1),
      )

  -- An acknowledgement is taken ------------------------------------------------------------------

  module _ (c k : ℕ) (has : c < cores b) (holds : rules.HasLock p c) (g : FirmwareValue)
      (ack : AckValue) (at : indexed (acks p.past) k ≡ Some ack)
      (same : values m.firmware ≡ firmware_values b p.past)
      (none : (m.station c).lent ≡ None)
      (asked : IsAsked c (calls.Take ack) m.firmware g) where
    abbrev reply : FwReply
    reply = reply_in m.firmware c (calls.Take ack)

    abbrev said : Said
    said = said_of (length (sent p.past)) reply

    abbrev rec : Record
    rec = record { event = events.Take k; said = said }

    same_said : said ≡ asked_firmware b p.past 0 (calls.Take ack)
    unfolding answer
    same_said = grind (arith, nat_tests, length)

    abbrev mid : Port
    mid = begins p c rec

    mid_begun : (mid.row c).begun ≡ Some rec
    mid_begun = ap (λ (r : Row). r.begun)
        (row_same c (record (p.row c) { begun = Some rec }) (p.row c))

    abbrev own : Row
    own = ended rec (record (p.row c) { begun = Some rec })

    last_row : (d : ℕ) (t : Bool) → (d == c) ≡ t
        → cond t (ended rec (mid.row c)) (cond t (record (p.row c) { begun = Some rec }) (p.row d))
        ≡ cond t own (p.row d)
    last_row d t e = grind (arith, nat_tests, row_same)

    left : values g ≡ firmware_values b (rec ∷ p.past)
    left = grind (arith, nat_tests, taken_values, length)

    taken_machine : IsMachineOf b (record m { firmware = g }) (finished mid c (Some rec))
    unfolding step
    taken_machine =
        let was = is.each c has in
        let free = subst (λ o. IsLent c (m.side c).post o (p.row c).begun) none was.lent in record {
          each = λ d within. subst (λ r. IsCoreOf d (m.side d) (m.station d) r)
              (sym (last_row d (d == c) refl))
              (taken_core d within);
          firmware = record { board = asked.board ∙ is.firmware.board; values = inl left };
          control = subst (λ q. control.IsSideOf b m.control q) (ap (finished mid c) mid_begun)
              (apart_side b mid m.control
              (apart_side b p m.control is.control kept (Takes c k said) refl)
              (step_kept b p (Takes c k said) kept holds) (Finishes c) refl);
          gates = is.gates;
          lock = is.lock;
          mail = record {
            messages = λ x e. sent_still rec p.past x (is.mail.messages x e);
            kept = λ d x e. sent_still rec p.past x (is.mail.kept d x e);
            acks = λ a e. made_still rec p.past a (is.mail.acks a e);
          };
          power = is.power;
        }
      where
        taken_core : (d : ℕ) → d < cores b
            → IsCoreOf d (m.side d) (m.station d) (cond (d == c) own (p.row d))
        taken_core d within = by (d == c) refl
          where
            by : (t : Bool) → (d == c) ≡ t
                → IsCoreOf d (m.side d) (m.station d) (cond t own (p.row d))
            by true e = subst (λ i. IsCoreOf i (m.side i) (m.station i) own) (sym (eqb-true d c e))
                (let was = is.each c has in record {
                  used = was.used;
                  post = was.post;
                  opened = was.opened;
                  start = was.start;
                  word = was.word;
                  held = was.held;
                  lent = subst (λ o. IsLent c (m.side c).post o None) (sym none) refl;
                })
            by false e = is.each d within

    taken : IsSeen b (record m { firmware = g }) (Finishes c ∷ Takes c k said ∷ acts)
    unfolding state step
    taken = grind (arith, nat_tests, mid_begun, same_said, taken_machine)

  pub takes_ack : (c : ℕ) (ack : AckValue) (g : FirmwareValue) → May b m (TakeAck c ack g)
      → Follows b m acts (TakeAck c ack g)
  unfolding after
  takes_ack c ack g may = elim is.firmware.values [
    | inl same ↦
        let at = is.mail.acks ack may.1 in
        let said : Said =
        said_of (length (sent p.past)) (reply_in m.firmware c (calls.Take ack)) in (
          Finishes c ∷ Takes c at.0 said ∷ [],
          inr (at.0, (said, refl)),
          taken c at.0 may.0.0 (has_lock b given m acts seen c may.0) g ack at.1 same may.0.2 may.2,
        )
    | inr anew ↦ (
      [],
      inl refl,
      no_act b m _ acts seen (record {
        each = is.each;
        firmware = lost_ack b p m.firmware g c ack is.firmware.board anew may.2;
        control = is.control;
        gates = is.gates;
        lock = is.lock;
        mail = is.mail;
        power = is.power;
      }),
    )
  ]
