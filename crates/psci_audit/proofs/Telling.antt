-- What a run and the list that it tells say is the same.
use Rattle.std.specs.Prelude.{nat_lt, unwrap_or}
use Rattle.std.proofs.Common.{◌++◌, ◌<◌, ◌∙◌, ◌∷◌, ◌≡◌, [], ap, Bool, cond, false, List, None}
use Rattle.std.proofs.Common.{Option, option_map, refl, Some, subst, sym, true, ℕ}
use Rattle.std.proofs.lemmas.Bool.{lt-ltb, ltb-true}
use Rattle.psci_world_spec.specs.Legal as told
use Rattle.psci_world_spec.specs.Legal.{ack_in, call, control, delivered, entered, on_board}
use Rattle.psci_world_spec.specs.Legal.{outcome_in, place_controlled, place_said, said_by}
use Rattle.psci_world_spec.specs.Legal.{said_of, sent_as, sent_in, took}
use Rattle.psci_world_spec.specs.declared.event.Event.{Event}
use Rattle.psci_world_spec.specs.declared.event.Event.TheVariants.{Call, Deliver, Enter, Reset}
use Rattle.psci_world_spec.specs.declared.event.Event.TheVariants.{Take, Wake}
use Rattle.psci_world_spec.specs.declared.place.Place.{Place}
use Rattle.psci_world_spec.specs.declared.said.Record.{Record}
use Rattle.psci_world_spec.specs.declared.said.Said.{Said}
use Rattle.psci_world_spec.specs.declared.said.Said.TheVariants.{Absent, Acked, Fw, Ignored}
use Rattle.psci_world_spec.specs.declared.said.Said.TheVariants.{Kick, Taken as Took}
use Rattle.psci_world_spec.specs.declared.said.Sent.{Sent}
use Rattle.psci_world_spec.specs.psci_board.Board.{BoardValue, cores}
use Rattle.psci_world_spec.specs.psci_ctl_spec.Values.{CtlExchange}
use Rattle.psci_world_spec.specs.psci_ctl_spec.History as controls
use Rattle.psci_world_spec.specs.psci_ctl_spec.declared.delivery.Delivery.{Delivery}
use Rattle.psci_world_spec.specs.psci_ctl_spec.declared.delivery.Delivery.TheVariants as deliveries
use Rattle.psci_world_spec.specs.psci_ctl_spec.declared.kick.Kick.{Kick as KickReply}
use Rattle.psci_world_spec.specs.psci_ctl_spec.declared.kick.Kick.TheVariants as kicks
use Rattle.psci_world_spec.specs.psci_ctl_spec.declared.reply.CtlReply.TheVariants as replied
use Rattle.psci_world_spec.specs.psci_fw_spec.Effects.{FwExchange, listed}
use Rattle.psci_world_spec.specs.psci_fw_spec.History as remembers
use Rattle.psci_world_spec.specs.psci_fw_spec.declared.fault.FwFault.TheVariants.{NoCore}
use Rattle.psci_world_spec.specs.psci_fw_spec.declared.outcome.Act.{Act}
use Rattle.psci_world_spec.specs.psci_fw_spec.declared.outcome.Outcome.{Outcome}
use Rattle.psci_world_spec.specs.psci_fw_spec.declared.reply.FwReply.{FwReply}
use Rattle.psci_world_spec.specs.psci_fw_spec.declared.reply.FwReply.TheVariants as replies
use Rattle.psci_world_spec.specs.psci_messages.Message.{AckValue, MessageValue}
use Rattle.psci_world_spec.specs.psci_messages.declared.start.Start.{Start}
use Rattle.psci_audit.specs.Entries.{acks, Asked, asked_in, Controlled, controlled_in}
use Rattle.psci_audit.specs.Entries.{controller_history, Entry, firmware_history, made_by, now}
use Rattle.psci_audit.specs.Entries.{Now, place, place_by, sent, sent_by}
use Rattle.psci_audit.specs.Told.{IsTold, Tells}

-- A reply is read from what was said of it --------------------------------------------------------

same_message : (n : ℕ) (m : Option MessageValue) → option_map (λ s. s.message) (sent_as n m) ≡ m
same_message n None = refl
same_message n (Some m) = refl

pub same_outcome : (n : ℕ) (o : Outcome) → outcome_in o.act (sent_as n o.message) ≡ o
same_outcome n o =
    ap (λ (m : Option MessageValue). record { act = o.act; message = m }) (same_message n o.message)

-- an outcome, as it was said
abbrev reply_said : Said → FwReply
reply_said (Fw act sends) = replies.Out (outcome_in act sends)
reply_said said = replies.Fault NoCore

pub is_out : (n : ℕ) (act : Act) (sends : Option Sent) (r : FwReply)
    → Fw act sends ≡ said_of n r → r ≡ replies.Out (outcome_in act sends)
is_out n act sends (replies.Out o) e =
    ap replies.Out (sym (same_outcome n o)) ∙ ap reply_said (sym e)
is_out n act sends (replies.Taken t) e = absurd (cc)
is_out n act sends (replies.Fault f) e = absurd (cc)

-- what became of a message, as it was said
abbrev pub delivery_said : Said → Delivery
delivery_said (Acked index ack) = deliveries.Applied ack
delivery_said said = deliveries.Ignored

same_delivery : (n : ℕ) (d : Delivery) → d ≡ delivery_said (said_by n (replied.Delivery d))
same_delivery n (deliveries.Applied ack) = refl
same_delivery n deliveries.Ignored = refl

pub is_delivery : (n : ℕ) (said : Said) (d : Delivery) → said ≡ said_by n (replied.Delivery d)
    → d ≡ delivery_said said
is_delivery n said d e = same_delivery n d ∙ ap delivery_said (sym e)

-- what became of a wake-up or a reset, as it was said
abbrev pub kick_said : Said → KickReply
kick_said (Kick start) = kicks.Started start
kick_said said = kicks.Ignored

same_kick : (n : ℕ) (k : KickReply) → k ≡ kick_said (said_by n (replied.Kick k))
same_kick n (kicks.Started start) = refl
same_kick n kicks.Ignored = refl

pub is_kick : (n : ℕ) (said : Said) (k : KickReply) → said ≡ said_by n (replied.Kick k)
    → k ≡ kick_said said
is_kick n said k e = same_kick n k ∙ ap kick_said (sym e)

-- what is said of an event of a core, other than that there is none, is said of a core of the board
pub at_core : (b : BoardValue) (c : ℕ) (s said : Said) → said ≡ on_board b c s
    → (said ≡ Absent → ⊥) → (c < cores b) × (said ≡ s)
at_core b c s said e some = by_test (nat_lt c (cores b)) refl e
  where
    by_test : (t : Bool) → nat_lt c (cores b) ≡ t → said ≡ cond t s Absent
        → (c < cores b) × (said ≡ s)
    by_test true f g = (ltb-true c (cores b) f, g)
    by_test false f g = absurd (some g)

-- what is said of an event of a core of the board
pub on_core : (b : BoardValue) (c : ℕ) (s : Said) → c < cores b → on_board b c s ≡ s
on_core b c s on = ap (λ (t : Bool). cond t s Absent) (lt-ltb c (cores b) on)

-- Telling -----------------------------------------------------------------------------------------

-- One record -----------------------------------------------------------------------------------

-- what a record adds is what its entry adds
abbrev Adds : BoardValue → List Record → Event → Said → Entry → Type 0
Adds b past event said e =
    (call (told.controller_values b past) (told.acks past) event said ≡ asked_in e)
    × (control (told.controller_values b past) (told.sent past) event said ≡ controlled_in e)
    × (sent_in said ≡ sent_by e) × (ack_in said ≡ made_by e)
    × ((c : ℕ) → place_said c event said ≡ place_by c e)

adds : (b : BoardValue) (past : List Record) (event : Event) (said : Said) (e : Entry)
    → IsTold b past event said e → Adds b past event said e
adds b past (Call c regs) (Fw act sends) (Asked e) is = rw is (refl, refl, refl, refl, λ d. refl)
adds b past (Enter c) (Fw act sends) (Asked e) is =
    rw is.2 (
      ap (λ (s : Option Start). entered c s (outcome_in act sends)) is.1,
      refl,
      refl,
      refl,
      λ d. refl,
    )
adds b past (Take k) (Took taken) (Asked e) is =
    rw is.2 (ap (λ (a : Option AckValue). took a taken) is.1, refl, refl, refl, λ d. refl)
adds b past (Deliver k) (Acked index ack) (Controlled e) is =
    rw is.2 (refl, ap (λ (m : Option MessageValue). delivered m ack) is.1, refl, refl, λ d. refl)
adds b past (Deliver k) Ignored (Controlled e) is = rw is.2 (refl, refl, refl, refl, λ d. refl)
adds b past (Wake c) (Kick start) (Controlled e) is = rw is (refl, refl, refl, refl, λ d. refl)
adds b past (Wake c) Ignored (Controlled e) is = rw is.2 (refl, refl, refl, refl, λ d. refl)
adds b past (Reset c) (Kick start) (Controlled e) is = rw is (refl, refl, refl, refl, λ d. refl)
adds b past (Reset c) Ignored (Controlled e) is = rw is (refl, refl, refl, refl, λ d. refl)
adds b past event said e is = absurd is

-- All records ----------------------------------------------------------------------------------

-- what a run and a list say is the same
pub record AreSame (b : BoardValue) (past : List Record) (entries : List Entry) : Type 0 where
  pub firmware : told.firmware_history b past ≡ firmware_history entries
  pub controller : told.controller_history b past ≡ controller_history entries
  pub sent : told.sent past ≡ sent entries
  pub acks : told.acks past ≡ acks entries
  pub place : (c : ℕ) → told.place b past c ≡ place b entries c

both : {A : Type 0} (xs ys us vs : List A) → xs ≡ us → ys ≡ vs → xs ++ ys ≡ us ++ vs
both xs ys us vs e f = ap (λ l. l ++ ys) e ∙ ap (λ l. us ++ l) f

one_more : (b : BoardValue) (past : List Record) (entries : List Entry) (r : Record) (e : Entry)
    → Adds b past r.event r.said e → AreSame b past entries → AreSame b (r ∷ past) (e ∷ entries)
unfolding told.firmware_history told.controller_history told.sent told.acks told.place
    firmware_history controller_history sent acks place
one_more b past entries r e add same = record {
  firmware = both _ _ _ _ add.0 same.firmware;
  controller = both _ _ _ _ add.1 same.controller;
  sent = both _ _ _ _ (ap listed add.2) same.sent;
  acks = both _ _ _ _ (ap listed add.3) same.acks;
  place = λ c.
      ap (λ (p : Option Place). unwrap_or p (unwrap_or (place_controlled b c
      (control (told.controller_values b past) (told.sent past) r.event r.said))
      (told.place b past c))) (add.4 c)
      ∙ ap (λ (l : List CtlExchange). unwrap_or (place_by c e)
      (unwrap_or (place_controlled b c l) (told.place b past c))) add.1
      ∙ ap (λ (p : Place). unwrap_or (place_by c e)
      (unwrap_or (place_controlled b c (controlled_in e)) p)) (same.place c);
}

pub are_same : (b : BoardValue) (past : List Record) (entries : List Entry)
    → Tells b past entries → AreSame b past entries
unfolding told.firmware_history told.controller_history told.sent told.acks told.place
    firmware_history controller_history sent acks place
are_same b [] [] is =
    record { firmware = refl; controller = refl; sent = refl; acks = refl; place = λ c. refl }
are_same b [] (e ∷ entries) is = absurd is
are_same b (r ∷ past) [] is = absurd is
are_same b (r ∷ past) (e ∷ entries) is =
    one_more b past entries r e (adds b past r.event r.said e is.0)
    (are_same b past entries is.1)

-- The next entry -------------------------------------------------------------------------------

-- what a run says, as far as the next entry is judged by it
abbrev pub now_of : BoardValue → List Record → Now
now_of b past = record {
  firmware = told.firmware_values b past;
  controller = told.controller_values b past;
  place = told.place b past;
  sent = told.sent past;
  acks = told.acks past;
}

pub same_now : (b : BoardValue) (past : List Record) (entries : List Entry)
    → Tells b past entries → now_of b past ≡ now b entries
same_now b past entries is =
    let same = are_same b past entries is in
    λ i. record {
      firmware = remembers.values_of b (same.firmware i);
      controller = controls.values_of b (same.controller i);
      place = λ c. same.place c i;
      sent = same.sent i;
      acks = same.acks i;
    }
