-- What both keep after each event that begins an exchange.
use Rattle.std.specs.Prelude.{slice_get}
use Rattle.std.proofs.Common.{◌++◌, ◌<◌, ◌∙◌, ◌∷◌, ◌≡◌, ap, arith, length, List, None, Option}
use Rattle.std.proofs.Common.{option_map, refl, Some, ℕ}
use Rattle.std.proofs.lemmas.Bool.{cond-true, lt-ltb}
use Rattle.std.proofs.lemmas.Bool.Decides.{nat_tests}
use Rattle.psci_board.specs.Board.{BoardValue, cores}
use Rattle.psci_messages.specs.Message.{AckValue, MessageValue}
use Rattle.psci_messages.specs.declared.start.Start.{Start}
use Rattle.psci_ctl_spec.specs.Replies as changes
use Rattle.psci_ctl_spec.specs.Replies.{delivery_of, effect_of, last_start, reply, reset_of}
use Rattle.psci_ctl_spec.specs.Replies.{wake_of}
use Rattle.psci_ctl_spec.specs.History.{IsOfBoard}
use Rattle.psci_ctl_spec.specs.declared.call.CtlCall.{CtlCall}
use Rattle.psci_ctl_spec.specs.declared.call.CtlCall.TheVariants as asked
use Rattle.psci_ctl_spec.specs.declared.delivery.Delivery.{Delivery}
use Rattle.psci_ctl_spec.specs.declared.delivery.Delivery.TheVariants as deliveries
use Rattle.psci_ctl_spec.specs.declared.kick.Kick.{Kick}
use Rattle.psci_ctl_spec.specs.declared.reply.CtlReply.TheVariants as replied
use Rattle.psci_ctl_spec.proofs.Steps as controls
use Rattle.psci_fw_spec.specs.Effects.{after, FwExchange, listed}
use Rattle.psci_fw_spec.specs.Answer.{answer}
use Rattle.psci_fw_spec.specs.History.{values_of}
use Rattle.psci_fw_spec.specs.declared.call.FwCall.{FwCall}
use Rattle.psci_fw_spec.specs.declared.call.FwCall.TheVariants as calls
use Rattle.psci_fw_spec.specs.declared.outcome.Outcome.{Outcome}
use Rattle.psci_fw_spec.specs.declared.reply.FwReply.{FwReply}
use Rattle.psci_world_spec.specs.Legal.{acks, controller_history, controller_values}
use Rattle.psci_world_spec.specs.Legal.{firmware_history, firmware_values, indexed, IsLegalPast}
use Rattle.psci_world_spec.specs.Legal.{legal, outcome_in, place, said_by, said_of, sent}
use Rattle.psci_world_spec.specs.Legal.{sent_as, sent_in}
use Rattle.psci_world_spec.specs.declared.event.Event.{Event}
use Rattle.psci_world_spec.specs.declared.event.Event.TheVariants.{Call, Deliver, Enter, Reset}
use Rattle.psci_world_spec.specs.declared.event.Event.TheVariants.{Take, Wake}
use Rattle.psci_world_spec.specs.declared.place.Place.TheVariants.{Running, Started, Stopped}
use Rattle.psci_world_spec.specs.declared.said.Record.{Record}
use Rattle.psci_world_spec.specs.psci_abi.declared.registers.Regs.{Regs}
use Rattle.psci_headline.specs.Settling.{serving, step}
use Rattle.psci_headline.proofs.Serving.{indexed_at, numbered_new}
use Rattle.psci_headline.proofs.Nexts.{SettleLaws}
use Rattle.psci_guest.specs.Arrivals.{kept_after}
use Rattle.psci_guest.specs.Pair.{Kept, message_of, with_ack, with_call, with_message}
use Rattle.psci_guest.specs.Turns.{exchange}
use Rattle.psci_guest.proofs.Numbers.{numbered}

-- What both keep after an exchange is what the records of it say ----------------------------------

-- what one exchange more leaves of the firmware
abbrev pub IsMore : BoardValue → Type 0
IsMore b = (e : FwExchange) (h : List FwExchange)
    → values_of b (e ∷ h) ≡ after b e.core e.call e.reply (values_of b h)

-- Lists -------------------------------------------------------------------------------------------

none_next : {A : Type 0} → (xs : List A) → indexed xs (length xs) ≡ None
none_next xs = by (indexed xs (length xs)) refl
  where
    by : (o : Option _) → indexed xs (length xs) ≡ o → indexed xs (length xs) ≡ None
    by None e = e
    by (Some y) e = let low = (indexed_at xs (length xs) y e).0 in absurd (omega (arith, low))

-- A message is served -----------------------------------------------------------------------------

-- What is so after a delivery.
record IsDelivered (b : BoardValue) (past : List Record) (k : ℕ) (m : MessageValue) (d : Delivery)
    : Type 0 where
  pub firmware : firmware_values b (step b past (Deliver k)) ≡ firmware_values b past
  pub controller : controller_values b (step b past (Deliver k))
      ≡ changes.after b (asked.Deliver m) (replied.Delivery d) (controller_values b past)

delivers : (b : BoardValue) (past : List Record) (k : ℕ) (m : MessageValue) (d : Delivery)
    → indexed (sent past) k ≡ Some m → delivery_of b (controller_values b past) m ≡ d
    → IsDelivered b past k m d
unfolding legal reply controller_history firmware_history changes.after effect_of
delivers b past k m (deliveries.Applied a) at e =
    grind (arith, nat_tests, controls.values_more)
delivers b past k m deliveries.Ignored at e = grind (arith, nat_tests, controls.values_more)

-- the acknowledgements then
made_applied : (b : BoardValue) (past : List Record) (k : ℕ) (m : MessageValue) (a : AckValue)
    → indexed (sent past) k ≡ Some m
    → delivery_of b (controller_values b past) m ≡ deliveries.Applied a
    → acks (step b past (Deliver k)) ≡ a ∷ acks past
unfolding legal reply acks
made_applied b past k m a at e = grind (arith, nat_tests)

made_none : (b : BoardValue) (past : List Record) (k : ℕ) (m : MessageValue)
    → indexed (sent past) k ≡ Some m
    → delivery_of b (controller_values b past) m ≡ deliveries.Ignored
    → acks (step b past (Deliver k)) ≡ acks past
unfolding legal reply acks
made_none b past k m at e = grind (arith, nat_tests)

take_controller : (b : BoardValue) (past : List Record) (k : ℕ)
    → controller_values b (step b past (Take k)) ≡ controller_values b past
unfolding controller_history
take_controller b past k = refl

take_some : (b : BoardValue) (past : List Record) (k : ℕ) (a : AckValue) → IsMore b
    → indexed (acks past) k ≡ Some a → firmware_values b (step b past (Take k))
    ≡ after b 0 (calls.Take a) (answer b (firmware_values b past) 0 (calls.Take a))
    (firmware_values b past)
unfolding legal answer firmware_history
take_some b past k a more at = grind (arith, nat_tests)

take_none : (b : BoardValue) (past : List Record) (k : ℕ) → indexed (acks past) k ≡ None
    → firmware_values b (step b past (Take k)) ≡ firmware_values b past
unfolding legal firmware_history
take_none b past k at = grind (arith, nat_tests)

pub served_so : (b : BoardValue) (past : List Record) (k : ℕ) (m : MessageValue) → IsMore b
    → indexed (sent past) k ≡ Some m
    → kept_after b (serving b past (Some k)) ≡ with_message b (Some m) (kept_after b past)
unfolding reply
served_so b past k m more at = by (delivery_of b (controller_values b past) m) refl
  where
    next : List Record
    next = step b past (Deliver k)

    last : List Record
    last = step b next (Take (length (acks past)))

    by : (d : Delivery) → delivery_of b (controller_values b past) m ≡ d
        → kept_after b last ≡ record {
          firmware = with_ack b (replied.Delivery d) (firmware_values b past);
          controller = changes.after b (asked.Deliver m) (replied.Delivery d)
              (controller_values b past);
        }
    by (deliveries.Applied a) e =
        let is = delivers b past k m (deliveries.Applied a) at e in
        let made : indexed (acks next) (length (acks past)) ≡ Some a =
        ap (λ l. indexed l (length (acks past))) (made_applied b past k m a at e)
        ∙ numbered_new a (acks past) in
        let taken = take_some b next (length (acks past)) a more made in
        let same = take_controller b next (length (acks past)) in
        grind (arith, nat_tests)
    by deliveries.Ignored e =
        let is = delivers b past k m deliveries.Ignored at e in
        let made : indexed (acks next) (length (acks past)) ≡ None =
        ap (λ l. indexed l (length (acks past))) (made_none b past k m at e)
        ∙ none_next (acks past) in
        let taken = take_none b next (length (acks past)) made in
        let same = take_controller b next (length (acks past)) in
        grind (arith, nat_tests)

-- An exchange -------------------------------------------------------------------------------------

pub sent_step : (b : BoardValue) (past : List Record) (event : Event)
    → sent (step b past event) ≡ listed (sent_in (legal b past event)) ++ sent past
unfolding sent
sent_step b past event = refl

-- what both keep once what was said to be sent is served
pub exchanged_so : (b : BoardValue) (past : List Record) (event : Event)
    (o : Option MessageValue) → IsMore b → sent_in (legal b past event) ≡ o
    → kept_after b (exchange b past event)
    ≡ with_message b o (kept_after b (step b past event))
unfolding exchange
exchanged_so b past event None more e =
    ap (λ k. kept_after b (serving b (step b past event) k))
    (numbered b past event ∙ ap (option_map (λ m. length (sent past))) e)
exchanged_so b past event (Some m) more e =
    ap (λ k. kept_after b (serving b (step b past event) k))
    (numbered b past event ∙ ap (option_map (λ m. length (sent past))) e)
    ∙ served_so b (step b past event) (length (sent past)) m more
    (ap (λ l. indexed l (length (sent past))) (sent_step b past event
    ∙ ap (λ o. listed o ++ sent past) e) ∙ numbered_new m (sent past))

-- what a reply says is sent
pub reply_sends : (n : ℕ) (r : FwReply) → sent_in (said_of n r) ≡ message_of r
reply_sends n r = grind (arith, nat_tests)

-- A call or an entry ------------------------------------------------------------------------------

-- what both keep after a record of it, by the firmware's reply
pub record IsAskedOf (b : BoardValue) (past : List Record) (event : Event) (c : ℕ) (call : FwCall)
    (r : FwReply) : Type 0 where
  pub said : legal b past event ≡ said_of (length (sent past)) r
  pub firmware : firmware_values b (step b past event)
      ≡ after b c call r (firmware_values b past)
  pub controller : controller_values b (step b past event) ≡ controller_values b past

pub asked_so : (b : BoardValue) (past : List Record) (event : Event) (c : ℕ) (call : FwCall)
    (r : FwReply) → IsMore b → IsAskedOf b past event c call r
    → kept_after b (exchange b past event) ≡ with_call b c call r (kept_after b past)
asked_so b past event c call r more is =
    exchanged_so b past event (message_of r) more
    (ap sent_in is.said ∙ reply_sends (length (sent past)) r)
    ∙ by (kept_after b (step b past event)) is.firmware is.controller
  where
    by : (k : Kept) → k.firmware ≡ after b c call r (firmware_values b past)
        → k.controller ≡ controller_values b past
        → with_message b (message_of r) k ≡ with_call b c call r (kept_after b past)
    by k e f = ap (with_message b (message_of r)) (grind (arith, nat_tests))

-- Events ------------------------------------------------------------------------------------------

-- Calls -------------------------------------------------------------------------------------------

-- an outcome is said as it is
same_outcome : (n : ℕ) (o : Outcome) → outcome_in o.act (sent_as n o.message) ≡ o
same_outcome n o = ap (λ m. record { act = o.act; message = m }) (by o.message)
  where
    by : (m : Option MessageValue) → option_map (λ s. s.message) (sent_as n m) ≡ m
    by None = refl
    by (Some m) = refl

pub call_said : (b : BoardValue) (past : List Record) (c : ℕ) (regs : Regs) → c < cores b
    → place b past c ≡ Running → legal b past (Call c regs)
    ≡ said_of (length (sent past)) (answer b (firmware_values b past) c (calls.Smc regs))
unfolding legal
call_said b past c regs on at = grind (arith, nat_tests, cond-true, lt-ltb)

call_firmware : (b : BoardValue) (past : List Record) (c : ℕ) (regs : Regs) (n : ℕ) (r : FwReply)
    → IsMore b → legal b past (Call c regs) ≡ said_of n r
    → firmware_values b (step b past (Call c regs))
    ≡ after b c (calls.Smc regs) r (firmware_values b past)
unfolding firmware_history after
call_firmware b past c regs n r more e = grind (arith, nat_tests, same_outcome)

call_is : (b : BoardValue) (past : List Record) (c : ℕ) (regs : Regs) → IsMore b → c < cores b
    → place b past c ≡ Running → IsAskedOf b past (Call c regs) c (calls.Smc regs)
    (answer b (firmware_values b past) c (calls.Smc regs))
unfolding controller_history
call_is b past c regs more on at = record {
  said = call_said b past c regs on at;
  firmware = call_firmware b past c regs (length (sent past)) _ more
      (call_said b past c regs on at);
  controller = refl;
}

pub call_kept : (b : BoardValue) (past : List Record) (c : ℕ) (regs : Regs) → IsMore b
    → c < cores b → place b past c ≡ Running
    → kept_after b (exchange b past (Call c regs)) ≡ with_call b c (calls.Smc regs)
    (answer b (firmware_values b past) c (calls.Smc regs)) (kept_after b past)
call_kept b past c regs more on at =
    asked_so b past (Call c regs) c (calls.Smc regs) _ more (call_is b past c regs more on at)

-- Entries -----------------------------------------------------------------------------------------

pub entry_said : (b : BoardValue) (past : List Record) (c : ℕ) (s : Start) → c < cores b
    → place b past c ≡ Started → last_start (controller_values b past) c ≡ Some s
    → legal b past (Enter c)
    ≡ said_of (length (sent past)) (answer b (firmware_values b past) c (calls.Enter s))
unfolding legal
entry_said b past c s on at last = grind (arith, nat_tests, cond-true, lt-ltb)

entry_firmware : (b : BoardValue) (past : List Record) (c : ℕ) (s : Start) (n : ℕ) (r : FwReply)
    → IsMore b → last_start (controller_values b past) c ≡ Some s
    → legal b past (Enter c) ≡ said_of n r → firmware_values b (step b past (Enter c))
    ≡ after b c (calls.Enter s) r (firmware_values b past)
unfolding firmware_history after
entry_firmware b past c s n r more last e = grind (arith, nat_tests, same_outcome)

entry_is : (b : BoardValue) (past : List Record) (c : ℕ) (s : Start) → IsMore b → c < cores b
    → place b past c ≡ Started → last_start (controller_values b past) c ≡ Some s
    → IsAskedOf b past (Enter c) c (calls.Enter s)
    (answer b (firmware_values b past) c (calls.Enter s))
unfolding controller_history
entry_is b past c s more on at last = record {
  said = entry_said b past c s on at last;
  firmware = entry_firmware b past c s (length (sent past)) _ more last
      (entry_said b past c s on at last);
  controller = refl;
}

pub entry_kept : (b : BoardValue) (past : List Record) (c : ℕ) (s : Start) → IsMore b
    → c < cores b → place b past c ≡ Started → last_start (controller_values b past) c ≡ Some s
    → kept_after b (exchange b past (Enter c)) ≡ with_call b c (calls.Enter s)
    (answer b (firmware_values b past) c (calls.Enter s)) (kept_after b past)
entry_kept b past c s more on at last =
    asked_so b past (Enter c) c (calls.Enter s) _ more (entry_is b past c s more on at last)

-- What is sent ------------------------------------------------------------------------------------

-- a message that is said to be sent is for a core of the board
sound_of : (b : BoardValue) (past : List Record) (event : Event) (m : MessageValue)
    → SettleLaws b → IsLegalPast b past
    → sent_in (legal b past event) ≡ Some m
    → IsOfBoard b m
sound_of b past event m laws is e =
    let next : List Record = step b past event in
    let all : sent next ≡ m ∷ sent past =
    sent_step b past event
    ∙ ap (λ o. listed o ++ sent past) e in
    let holds = (laws.past next (refl, is)).given.holds in
    let sound = (holds.messages 0 m (ap (λ l. slice_get l 0) all)).sound in
    record { core = sound.core; levels = sound.few }

pub call_sound : (b : BoardValue) (past : List Record) (c : ℕ) (regs : Regs) (m : MessageValue)
    → SettleLaws b → IsLegalPast b past → c < cores b → place b past c ≡ Running
    → message_of (answer b (firmware_values b past) c (calls.Smc regs)) ≡ Some m → IsOfBoard b m
call_sound b past c regs m laws is on at e =
    sound_of b past (Call c regs) m laws is
    (ap sent_in (call_said b past c regs on at) ∙ reply_sends (length (sent past)) _ ∙ e)

pub entry_sound : (b : BoardValue) (past : List Record) (c : ℕ) (s : Start) (m : MessageValue)
    → SettleLaws b → IsLegalPast b past → c < cores b → place b past c ≡ Started
    → last_start (controller_values b past) c ≡ Some s
    → message_of (answer b (firmware_values b past) c (calls.Enter s)) ≡ Some m → IsOfBoard b m
entry_sound b past c s m laws is on at last e =
    sound_of b past (Enter c) m laws is
    (ap sent_in (entry_said b past c s on at last) ∙ reply_sends (length (sent past)) _ ∙ e)

-- Wake-ups and resets -----------------------------------------------------------------------------

-- what both keep where the power controller is asked this
abbrev pub with_kick : BoardValue → CtlCall → Kept → Kept
with_kick b call k =
    record k { controller = changes.after b call (reply b k.controller call) k.controller }

kick_sends : (n : ℕ) (k : Kick) → sent_in (said_by n (replied.Kick k)) ≡ None
kick_sends n k = grind (arith, nat_tests)

wake_said : (b : BoardValue) (past : List Record) (c : ℕ) → c < cores b
    → place b past c ≡ Stopped → legal b past (Wake c)
    ≡ said_by (length (acks past)) (replied.Kick
    (wake_of b (controller_values b past) c ((controller_values b past).starts c)))
unfolding legal reply
wake_said b past c on at = grind (arith, nat_tests, cond-true, lt-ltb)

reset_said : (b : BoardValue) (past : List Record) (c : ℕ) → c < cores b
    → legal b past (Reset c)
    ≡ said_by (length (acks past)) (replied.Kick (reset_of b (controller_values b past) c))
unfolding legal reply
reset_said b past c on = grind (arith, nat_tests, cond-true, lt-ltb)

wake_kicks : (b : BoardValue) (past : List Record) (c n : ℕ) (k : Kick)
    → legal b past (Wake c) ≡ said_by n (replied.Kick k)
    → controller_values b (step b past (Wake c)) ≡ changes.after b
    (asked.Wake (record { number = c }) ((controller_values b past).starts c)) (replied.Kick k)
    (controller_values b past)
unfolding controller_history changes.after changes.effect_of
wake_kicks b past c n k e = grind (arith, nat_tests, controls.values_more)

reset_kicks : (b : BoardValue) (past : List Record) (c n : ℕ) (k : Kick)
    → legal b past (Reset c) ≡ said_by n (replied.Kick k)
    → controller_values b (step b past (Reset c)) ≡ changes.after b
    (asked.Reset (record { number = c })) (replied.Kick k) (controller_values b past)
unfolding controller_history changes.after changes.effect_of
reset_kicks b past c n k e = grind (arith, nat_tests, controls.values_more)

pub wake_kept : (b : BoardValue) (past : List Record) (c : ℕ) → IsMore b → c < cores b
    → place b past c ≡ Stopped → kept_after b (exchange b past (Wake c)) ≡ with_kick b
    (asked.Wake (record { number = c }) ((controller_values b past).starts c)) (kept_after b past)
unfolding firmware_history reply
wake_kept b past c more on at =
    exchanged_so b past (Wake c) None more
    (ap sent_in (wake_said b past c on at) ∙ kick_sends (length (acks past)) _)
    ∙ ap (λ w. record { firmware = firmware_values b past; controller = w })
    (wake_kicks b past c (length (acks past)) _ (wake_said b past c on at))

pub reset_kept : (b : BoardValue) (past : List Record) (c : ℕ) → IsMore b → c < cores b
    → kept_after b (exchange b past (Reset c))
    ≡ with_kick b (asked.Reset (record { number = c })) (kept_after b past)
unfolding firmware_history reply
reset_kept b past c more on =
    exchanged_so b past (Reset c) None more
    (ap sent_in (reset_said b past c on) ∙ kick_sends (length (acks past)) _)
    ∙ ap (λ w. record { firmware = firmware_values b past; controller = w })
    (reset_kicks b past c (length (acks past)) _ (reset_said b past c on))
