-- What may follow a list is what a run that tells it can tell next.
use Rattle.std.proofs.Common.{◌<◌, ◌∙◌, ◌∷◌, ◌≡◌, [], ap, length, List, Option, refl, Some}
use Rattle.std.proofs.Common.{subst, sym, ℕ}
use Rattle.psci_world_spec.specs.Legal.{acks, asked_firmware, controller_values, deliver}
use Rattle.psci_world_spec.specs.Legal.{firmware_values, if_running, if_started, if_stopped}
use Rattle.psci_world_spec.specs.Legal.{indexed, IsLegalPast, legal, legal_record, outcome_in}
use Rattle.psci_world_spec.specs.Legal.{place, said_by, said_of, sent, take}
use Rattle.psci_world_spec.specs.declared.event.Event.{Event}
use Rattle.psci_world_spec.specs.declared.event.Event.TheVariants.{Call, Deliver, Enter, Reset}
use Rattle.psci_world_spec.specs.declared.event.Event.TheVariants.{Take, Wake}
use Rattle.psci_world_spec.specs.declared.place.Place.{Place}
use Rattle.psci_world_spec.specs.declared.place.Place.TheVariants.{Running, Started, Stopped}
use Rattle.psci_world_spec.specs.declared.said.Record.{Record}
use Rattle.psci_world_spec.specs.declared.said.Said.{Said}
use Rattle.psci_world_spec.specs.declared.said.Said.TheVariants.{Absent, Acked, Fw, Ignored}
use Rattle.psci_world_spec.specs.declared.said.Said.TheVariants.{Kick, Taken as Took}
use Rattle.psci_world_spec.specs.declared.said.Sent.{Sent}
use Rattle.psci_world_spec.specs.psci_abi.declared.registers.Regs.{Regs}
use Rattle.psci_world_spec.specs.psci_board.Board.{BoardValue, cores}
use Rattle.psci_world_spec.specs.psci_ctl_spec.Values.{CtlExchange}
use Rattle.psci_world_spec.specs.psci_ctl_spec.Replies.{delivery_of, last_start, reply, reset_of}
use Rattle.psci_world_spec.specs.psci_ctl_spec.Replies.{wake_of}
use Rattle.psci_world_spec.specs.psci_ctl_spec.declared.call.CtlCall.{CtlCall}
use Rattle.psci_world_spec.specs.psci_ctl_spec.declared.call.CtlCall.TheVariants as asks
use Rattle.psci_world_spec.specs.psci_ctl_spec.declared.delivery.Delivery.{Delivery}
use Rattle.psci_world_spec.specs.psci_ctl_spec.declared.delivery.Delivery.TheVariants as deliveries
use Rattle.psci_world_spec.specs.psci_ctl_spec.declared.kick.Kick.{Kick as KickReply}
use Rattle.psci_world_spec.specs.psci_ctl_spec.declared.kick.Kick.TheVariants as kicks
use Rattle.psci_world_spec.specs.psci_ctl_spec.declared.reply.CtlReply.{CtlReply}
use Rattle.psci_world_spec.specs.psci_ctl_spec.declared.reply.CtlReply.TheVariants as replied
use Rattle.psci_world_spec.specs.psci_fw_spec.Answer.{answer}
use Rattle.psci_world_spec.specs.psci_fw_spec.Effects.{FwExchange}
use Rattle.psci_world_spec.specs.psci_fw_spec.Values.{taken_by}
use Rattle.psci_world_spec.specs.psci_fw_spec.declared.call.FwCall.{FwCall}
use Rattle.psci_world_spec.specs.psci_fw_spec.declared.call.FwCall.TheVariants as calls
use Rattle.psci_world_spec.specs.psci_fw_spec.declared.outcome.Act.{Act}
use Rattle.psci_world_spec.specs.psci_fw_spec.declared.outcome.Outcome.{Outcome}
use Rattle.psci_world_spec.specs.psci_fw_spec.declared.reply.FwReply.{FwReply}
use Rattle.psci_world_spec.specs.psci_fw_spec.declared.reply.FwReply.TheVariants as replies
use Rattle.psci_world_spec.specs.psci_messages.Message.{AckValue, MessageValue}
use Rattle.psci_world_spec.specs.psci_messages.declared.start.Start.{Start}
use Rattle.psci_audit.specs.Entries.{Asked, Controlled, Entry, IsLegal, IsOutcome, MayAsk, MayBe}
use Rattle.psci_audit.specs.Entries.{MayControl, MayFollow, MayWake, Now}
use Rattle.psci_audit.specs.Told.{asked, controlled, IsListOf, IsTold, Tells}
use Rattle.psci_audit.proofs.Telling.{at_core, delivery_said, is_delivery, is_kick, is_out}
use Rattle.psci_audit.proofs.Telling.{kick_said, now_of, on_core, same_now, same_outcome}

-- some event tells the entry next
pub record IsNext (b : BoardValue) (past : List Record) (e : Entry) : Type 0 where
  pub event : Event
  pub told : IsTold b past event (legal b past event) e

-- what is said of the event is what is legal to say
told_by : (b : BoardValue) (past : List Record) (e : Entry) (event : Event) (said : Said)
    → legal b past event ≡ said → IsTold b past event said e
    → IsTold b past event (legal b past event) e
told_by b past e event said says told =
    subst (λ (s : Said). IsTold b past event s e) (sym says) told

-- Calls of the firmware ------------------------------------------------------------------------

call_told : (b : BoardValue) (past : List Record) (n c : ℕ) (regs : Regs) (r : FwReply)
    → IsOutcome r
    → IsTold b past (Call c regs) (said_of n r) (Asked (asked c (calls.Smc regs) r))
call_told b past n c regs (replies.Out o) is =
    ap (λ (x : Outcome). asked c (calls.Smc regs) (replies.Out x)) (sym (same_outcome n o))
call_told b past n c regs (replies.Taken t) is = absurd is
call_told b past n c regs (replies.Fault f) is = absurd is

call_said : (b : BoardValue) (past : List Record) (c : ℕ) (regs : Regs) (r : FwReply)
    → c < cores b → place b past c ≡ Running
    → r ≡ answer b (firmware_values b past) c (calls.Smc regs)
    → legal b past (Call c regs) ≡ said_of (length (sent past)) r
unfolding legal
call_said b past c regs r on at e =
    on_core b c _ on
    ∙ ap (λ (p : Place). if_running p (asked_firmware b past c (calls.Smc regs))) at
    ∙ ap (said_of (length (sent past))) (sym e)

enter_told : (b : BoardValue) (past : List Record) (n c : ℕ) (start : Start) (r : FwReply)
    → last_start (controller_values b past) c ≡ Some start → IsOutcome r
    → IsTold b past (Enter c) (said_of n r) (Asked (asked c (calls.Enter start) r))
enter_told b past n c start (replies.Out o) last is = (
  start,
  last,
  ap (λ (x : Outcome). asked c (calls.Enter start) (replies.Out x)) (sym (same_outcome n o)),
)
enter_told b past n c start (replies.Taken t) last is = absurd is
enter_told b past n c start (replies.Fault f) last is = absurd is

enter_said : (b : BoardValue) (past : List Record) (c : ℕ) (start : Start) (r : FwReply)
    → c < cores b → place b past c ≡ Started
    → last_start (controller_values b past) c ≡ Some start
    → r ≡ answer b (firmware_values b past) c (calls.Enter start)
    → legal b past (Enter c) ≡ said_of (length (sent past)) r
unfolding legal
enter_said b past c start r on at last e =
    on_core b c _ on
    ∙ ap (λ (p : Place). if_started b past c p (last_start (controller_values b past) c)) at
    ∙ ap (λ (s : Option Start). if_started b past c Started s) last
    ∙ ap (said_of (length (sent past))) (sym e)

take_said : (b : BoardValue) (past : List Record) (k : ℕ) (ack : AckValue)
    → indexed (acks past) k ≡ Some ack
    → legal b past (Take k) ≡ Took (taken_by (firmware_values b past) ack)
unfolding legal answer
take_said b past k ack at = ap (take b past) at

-- an acknowledgement's answer is that it is taken
take_answer : (b : BoardValue) (past : List Record) (c : ℕ) (ack : AckValue)
    → answer b (firmware_values b past) c (calls.Take ack)
    ≡ replies.Taken (taken_by (firmware_values b past) ack)
unfolding answer
take_answer b past c ack = refl

pub call_next : (b : BoardValue) (past : List Record) (c : ℕ) (regs : Regs) (r : FwReply)
    → MayAsk b (now_of b past) c (calls.Smc regs) r
    → IsTold b past (Call c regs) (legal b past (Call c regs))
    (Asked (asked c (calls.Smc regs) r))
call_next b past c regs r may =
    told_by b past _ (Call c regs) (said_of (length (sent past)) r)
    (call_said b past c regs r may.0 may.1 may.3)
    (call_told b past (length (sent past)) c regs r may.2)

pub enter_next : (b : BoardValue) (past : List Record) (c : ℕ) (start : Start) (r : FwReply)
    → MayAsk b (now_of b past) c (calls.Enter start) r
    → IsTold b past (Enter c) (legal b past (Enter c)) (Asked (asked c (calls.Enter start) r))
enter_next b past c start r may =
    told_by b past _ (Enter c) (said_of (length (sent past)) r)
    (enter_said b past c start r may.0 may.1 may.2 may.4)
    (enter_told b past (length (sent past)) c start r may.2 may.3)

-- whichever number the acknowledgement has
pub take_next : (b : BoardValue) (past : List Record) (k c : ℕ) (ack : AckValue) (r : FwReply)
    → indexed (acks past) k ≡ Some ack → MayAsk b (now_of b past) c (calls.Take ack) r
    → IsTold b past (Take k) (legal b past (Take k)) (Asked (asked c (calls.Take ack) r))
take_next b past k c ack r at may =
    told_by b past _ (Take k) (Took (taken_by (firmware_values b past) ack))
    (take_said b past k ack at) (
      ack,
      at,
      ap (λ (x : ℕ). asked x (calls.Take ack) r) may.0
          ∙ ap (λ (x : FwReply). asked 0 (calls.Take ack) x) (may.2 ∙ take_answer b past c ack),
    )

ask_next : (b : BoardValue) (past : List Record) (c : ℕ) (call : FwCall) (r : FwReply)
    → MayAsk b (now_of b past) c call r → IsNext b past (Asked (asked c call r))
ask_next b past c (calls.Smc regs) r may =
    record { event = Call c regs; told = call_next b past c regs r may }
ask_next b past c (calls.Enter start) r may =
    record { event = Enter c; told = enter_next b past c start r may }
ask_next b past c (calls.Take ack) r may =
    record { event = Take may.1.0; told = take_next b past may.1.0 c ack r may.1.1 may }

-- Calls of the power controller ----------------------------------------------------------------

delivery_told : (b : BoardValue) (past : List Record) (n k : ℕ) (m : MessageValue) (d : Delivery)
    → indexed (sent past) k ≡ Some m
    → IsTold b past (Deliver k) (said_by n (replied.Delivery d))
    (Controlled (controlled (asks.Deliver m) (replied.Delivery d)))
delivery_told b past n k m (deliveries.Applied ack) at = (m, at, refl)
delivery_told b past n k m deliveries.Ignored at = (m, at, refl)

-- whichever number the message has
pub deliver_next : (b : BoardValue) (past : List Record) (k : ℕ) (m : MessageValue)
    (r : CtlReply) → indexed (sent past) k ≡ Some m
    → MayControl b (now_of b past) (asks.Deliver m) r
    → IsTold b past (Deliver k) (legal b past (Deliver k))
    (Controlled (controlled (asks.Deliver m) r))
unfolding legal reply
deliver_next b past k m r at may =
    let d : Delivery = delivery_of b (controller_values b past) m in
    subst (λ (x : CtlReply). IsTold b past (Deliver k) (deliver b past (indexed (sent past) k))
    (Controlled (controlled (asks.Deliver m) x))) (sym may.1)
    (told_by b past _ (Deliver k) (said_by (length (acks past)) (replied.Delivery d))
    (ap (deliver b past) at) (delivery_told b past (length (acks past)) k m d at))

wake_told : (b : BoardValue) (past : List Record) (n c halted : ℕ) (k : KickReply)
    → halted ≡ (controller_values b past).starts c
    → IsTold b past (Wake c) (said_by n (replied.Kick k))
    (Controlled (controlled (asks.Wake (record { number = c }) halted) (replied.Kick k)))
wake_told b past n c halted (kicks.Started start) e =
    ap (λ (x : ℕ). controlled (asks.Wake (record { number = c }) x)
    (replied.Kick (kicks.Started start))) e
wake_told b past n c halted kicks.Ignored e = (halted, λ stopped. e, refl)

wake_at : (b : BoardValue) (past : List Record) (c halted : ℕ) (r : CtlReply) (p : Place)
    → c < cores b → place b past c ≡ p
    → MayWake p halted ((controller_values b past).starts c) r
    (reply b (controller_values b past) (asks.Wake (record { number = c }) halted))
    → IsTold b past (Wake c) (legal b past (Wake c))
    (Controlled (controlled (asks.Wake (record { number = c }) halted) r))
unfolding legal reply
wake_at b past c halted r Stopped on at may =
    let starts : ℕ = (controller_values b past).starts c in
    let woken : ℕ → KickReply = wake_of b (controller_values b past) c in
    subst (λ (x : CtlReply). IsTold b past (Wake c) (legal b past (Wake c))
    (Controlled (controlled (asks.Wake (record { number = c }) halted) x))) (sym may.1)
    (told_by b past _ (Wake c) (said_by (length (acks past)) (replied.Kick (woken halted)))
    (on_core b c _ on
    ∙ ap (λ (x : Place). if_stopped x
    (said_by (length (acks past)) (replied.Kick (woken starts)))) at
    ∙ ap (λ (x : ℕ). said_by (length (acks past)) (replied.Kick (woken x))) (sym may.0))
    (wake_told b past (length (acks past)) c halted (woken halted) may.0))
wake_at b past c halted r p on at may =
    told_by b past _ (Wake c) Ignored
    (on_core b c _ on ∙ ap (λ (x : Place). if_stopped x (said_by (length (acks past))
    (replied.Kick (wake_of b (controller_values b past) c
    ((controller_values b past).starts c))))) at) (
      halted,
      λ stopped. absurd (let f : p ≡ Stopped = sym at ∙ stopped in cc),
      ap (λ (x : CtlReply). controlled (asks.Wake (record { number = c }) halted) x) may,
    )

reset_told : (b : BoardValue) (past : List Record) (n c : ℕ) (k : KickReply)
    → IsTold b past (Reset c) (said_by n (replied.Kick k))
    (Controlled (controlled (asks.Reset (record { number = c })) (replied.Kick k)))
reset_told b past n c (kicks.Started start) = refl
reset_told b past n c kicks.Ignored = refl

pub wake_next : (b : BoardValue) (past : List Record) (c halted : ℕ) (r : CtlReply)
    → MayControl b (now_of b past) (asks.Wake (record { number = c }) halted) r
    → IsTold b past (Wake c) (legal b past (Wake c))
    (Controlled (controlled (asks.Wake (record { number = c }) halted) r))
wake_next b past c halted r may = wake_at b past c halted r (place b past c) may.0 refl may.1

pub reset_next : (b : BoardValue) (past : List Record) (c : ℕ) (r : CtlReply)
    → MayControl b (now_of b past) (asks.Reset (record { number = c })) r
    → IsTold b past (Reset c) (legal b past (Reset c))
    (Controlled (controlled (asks.Reset (record { number = c })) r))
unfolding legal reply
reset_next b past c r may =
    let k : KickReply = reset_of b (controller_values b past) c in
    subst (λ (x : CtlReply). IsTold b past (Reset c) (legal b past (Reset c))
    (Controlled (controlled (asks.Reset (record { number = c })) x))) (sym may.1)
    (told_by b past _ (Reset c) (said_by (length (acks past)) (replied.Kick k))
    (on_core b c _ may.0)
    (reset_told b past (length (acks past)) c k))

control_next : (b : BoardValue) (past : List Record) (call : CtlCall) (r : CtlReply)
    → MayControl b (now_of b past) call r → IsNext b past (Controlled (controlled call r))
control_next b past (asks.Deliver m) r may =
    record { event = Deliver may.0.0; told = deliver_next b past may.0.0 m r may.0.1 may }
control_next b past (asks.Wake core halted) r may =
    record { event = Wake core.number; told = wake_next b past core.number halted r may }
control_next b past (asks.Reset core) r may =
    record { event = Reset core.number; told = reset_next b past core.number r may }

-- All calls ------------------------------------------------------------------------------------

pub is_next : (b : BoardValue) (past : List Record) (e : Entry) → MayBe b (now_of b past) e
    → IsNext b past e
is_next b past (Asked e) may = ask_next b past e.core e.call e.reply may
is_next b past (Controlled e) may = control_next b past e.call e.reply may

-- an entry that may follow, by the run that tells those before it
pub follows : (b : BoardValue) (past : List Record) (entries : List Entry) (e : Entry)
    → Tells b past entries → MayFollow b entries e → MayBe b (now_of b past) e
unfolding MayFollow
follows b past entries e tells may =
    subst (λ (n : Now). MayBe b n e) (sym (same_now b past entries tells)) may

-- a legal list is the list of a legal run
pub legal_run : (b : BoardValue) (entries : List Entry) → IsLegal b entries → IsListOf b entries
legal_run b [] is = record { past = []; legal = tt; tells = tt }
legal_run b (e ∷ entries) is =
    let run = legal_run b entries is.1 in
    let more = is_next b run.past e (follows b run.past entries e run.tells is.0) in
    record {
      past = legal_record b run.past more.event ∷ run.past;
      legal = (refl, run.legal);
      tells = (more.told, run.tells);
    }

-- What a legal run tells next may follow ----------------------------------------------------------

-- Calls of the firmware ------------------------------------------------------------------------

called : (b : BoardValue) (past : List Record) (c : ℕ) (regs : Regs) (act : Act)
    (sends : Option Sent) → Fw act sends ≡ legal b past (Call c regs)
    → MayAsk b (now_of b past) c (calls.Smc regs) (replies.Out (outcome_in act sends))
unfolding legal
called b past c regs act sends e =
    let said : Said = asked_firmware b past c (calls.Smc regs) in
    let at = at_core b c (if_running (place b past c) said) (Fw act sends) e (λ no. cc) in
    let there = by_place (place b past c) said at.1 in
    (at.0, there.0, tt, sym (is_out (length (sent past)) act sends _ there.1))
  where
    by_place : (p : Place) (s : Said) → Fw act sends ≡ if_running p s
        → (p ≡ Running) × (Fw act sends ≡ s)
    by_place Started s f = absurd (cc)
    by_place Running s f = (refl, f)
    by_place Stopped s f = absurd (cc)

entered : (b : BoardValue) (past : List Record) (c : ℕ) (act : Act) (sends : Option Sent)
    (start : Start) → Fw act sends ≡ legal b past (Enter c)
    → last_start (controller_values b past) c ≡ Some start
    → MayAsk b (now_of b past) c (calls.Enter start) (replies.Out (outcome_in act sends))
unfolding legal
entered b past c act sends start e last =
    let at = at_core b c (if_started b past c (place b past c)
    (last_start (controller_values b past) c)) (Fw act sends) e (λ no. cc) in
    let there = by_place (place b past c) (at.1 ∙ ap (if_started b past c (place b past c)) last)
    in
    (at.0, there.0, last, tt, sym (is_out (length (sent past)) act sends _ there.1))
  where
    by_place : (p : Place) → Fw act sends ≡ if_started b past c p (Some start)
        → (p ≡ Started) × (Fw act sends ≡ asked_firmware b past c (calls.Enter start))
    by_place Started f = (refl, f)
    by_place Running f = absurd (cc)
    by_place Stopped f = absurd (cc)

-- what was taken, as it was said
abbrev reply_taken : Said → FwReply → FwReply
reply_taken (Took taken) r = replies.Taken taken
reply_taken said r = r

taken : (b : BoardValue) (past : List Record) (k : ℕ) (said : Said) (ack : AckValue) (r : FwReply)
    → said ≡ legal b past (Take k) → indexed (acks past) k ≡ Some ack → r ≡ reply_taken said r
    → MayAsk b (now_of b past) 0 (calls.Take ack) r
unfolding legal answer
taken b past k said ack r e at is =
    (refl, (k, at), is ∙ ap (λ (s : Said). reply_taken s r) (e ∙ ap (take b past) at))

-- Calls of the power controller ----------------------------------------------------------------

delivered : (b : BoardValue) (past : List Record) (k : ℕ) (said : Said) (m : MessageValue)
    (d : Delivery) → said ≡ legal b past (Deliver k) → indexed (sent past) k ≡ Some m
    → delivery_said said ≡ d
    → MayControl b (now_of b past) (asks.Deliver m) (replied.Delivery d)
unfolding legal reply
delivered b past k said m d e at is = (
  (k, at),
  ap replied.Delivery (sym is ∙ sym (is_delivery (length (acks past)) said
      (delivery_of b (controller_values b past) m) (e ∙ ap (deliver b past) at))),
)

reset : (b : BoardValue) (past : List Record) (c : ℕ) (said : Said) (k : KickReply)
    → said ≡ legal b past (Reset c) → (said ≡ Absent → ⊥) → kick_said said ≡ k
    → MayControl b (now_of b past) (asks.Reset (record { number = c })) (replied.Kick k)
unfolding legal reply
reset b past c said k e some is =
    let at = at_core b c (said_by (length (acks past))
    (replied.Kick (reset_of b (controller_values b past) c))) said e some in (
      at.0,
      ap replied.Kick (sym is ∙ sym (is_kick (length (acks past)) said
          (reset_of b (controller_values b past) c) at.1)),
    )

woken : (b : BoardValue) (past : List Record) (c halted : ℕ) (said : Said) (k : KickReply)
    → said ≡ legal b past (Wake c) → (said ≡ Absent → ⊥) → kick_said said ≡ k
    → (place b past c ≡ Stopped → halted ≡ (controller_values b past).starts c)
    → MayControl b (now_of b past) (asks.Wake (record { number = c }) halted) (replied.Kick k)
unfolding legal reply
woken b past c halted said k e some is last =
    let at = at_core b c (if_stopped (place b past c) (said_by (length (acks past))
    (replied.Kick (wake_of b (controller_values b past) c
    ((controller_values b past).starts c))))) said e some in
    (at.0, by_place (place b past c) refl at.1)
  where
    by_place : (p : Place) → place b past c ≡ p → said ≡ if_stopped p
        (said_by (length (acks past)) (replied.Kick (wake_of b (controller_values b past) c
        ((controller_values b past).starts c))))
        → MayWake p halted ((controller_values b past).starts c) (replied.Kick k)
        (replied.Kick (wake_of b (controller_values b past) c halted))
    by_place Stopped at f = (
      last at,
      ap replied.Kick (sym is ∙ sym (is_kick (length (acks past)) said _ f)
          ∙ ap (wake_of b (controller_values b past) c) (sym (last at))),
    )
    by_place Started at f = ap replied.Kick (sym is ∙ ap kick_said f)
    by_place Running at f = ap replied.Kick (sym is ∙ ap kick_said f)

-- All calls ------------------------------------------------------------------------------------

pub may_be : (b : BoardValue) (past : List Record) (event : Event) (said : Said) (e : Entry)
    → said ≡ legal b past event → IsTold b past event said e → MayBe b (now_of b past) e
may_be b past (Call c regs) (Fw act sends) (Asked e) says is =
    rw is (called b past c regs act sends says)
may_be b past (Enter c) (Fw act sends) (Asked e) says is =
    rw is.2 (entered b past c act sends is.0 says is.1)
may_be b past (Take k) (Took t) (Asked e) says is =
    rw is.2 (taken b past k (Took t) is.0 (replies.Taken t) says is.1 refl)
may_be b past (Deliver k) (Acked index ack) (Controlled e) says is =
    rw is.2 (delivered b past k (Acked index ack) is.0 (deliveries.Applied ack) says is.1 refl)
may_be b past (Deliver k) Ignored (Controlled e) says is =
    rw is.2 (delivered b past k Ignored is.0 deliveries.Ignored says is.1 refl)
may_be b past (Wake c) (Kick start) (Controlled e) says is =
    rw is (woken b past c _ (Kick start) (kicks.Started start) says (λ no. cc) refl (λ at. refl))
may_be b past (Wake c) Ignored (Controlled e) says is =
    rw is.2 (woken b past c is.0 Ignored kicks.Ignored says (λ no. cc) refl is.1)
may_be b past (Reset c) (Kick start) (Controlled e) says is =
    rw is (reset b past c (Kick start) (kicks.Started start) says (λ no. cc) refl)
may_be b past (Reset c) Ignored (Controlled e) says is =
    rw is (reset b past c Ignored kicks.Ignored says (λ no. cc) refl)
may_be b past event said e says is = absurd is

-- what a legal run tells next may follow the entries that it tells
pub may_follow : (b : BoardValue) (past : List Record) (entries : List Entry) (event : Event)
    (said : Said) (e : Entry) → Tells b past entries → said ≡ legal b past event
    → IsTold b past event said e → MayFollow b entries e
unfolding MayFollow
may_follow b past entries event said e tells says is =
    subst (λ (n : Now). MayBe b n e) (same_now b past entries tells)
    (may_be b past event said e says is)

only_legal : (b : BoardValue) (past : List Record) (entries : List Entry) → IsLegalPast b past
    → Tells b past entries → IsLegal b entries
only_legal b [] [] legal tells = tt
only_legal b [] (e ∷ entries) legal tells = absurd tells
only_legal b (r ∷ past) [] legal tells = absurd tells
only_legal b (r ∷ past) (e ∷ entries) legal tells = (
  may_follow b past entries r.event r.said e tells.1 legal.0 tells.0,
  only_legal b past entries legal.1 tells.1,
)

-- the list of a legal run is legal
pub legal_list : (b : BoardValue) (entries : List Entry) → IsListOf b entries → IsLegal b entries
legal_list b entries run = only_legal b run.past entries run.legal run.tells
