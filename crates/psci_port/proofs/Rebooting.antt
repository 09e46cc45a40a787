-- A run of lives that the boot core ended leaves the power controller as it goes on.
use Rattle.std.proofs.Math.Numerals.{suc-eq-add-one}
use Rattle.psci_ctl_spec.specs.Replies.{after, delivery_of, effect_of, reply}
use Rattle.psci_ctl_spec.specs.Values.{first_cause}
use Rattle.psci_ctl_spec.specs.declared.call.CtlCall.TheVariants as asked
use Rattle.psci_ctl_spec.specs.psci_messages.declared.kind.Kind.TheVariants as kinds
use Rattle.psci_ctl_spec.specs.psci_messages.declared.start.Cause.TheVariants as causes
use Rattle.psci_world_spec.specs.Legal.{acks, controller_history, firmware_history, legal, place}
use Rattle.psci_world_spec.specs.Legal.{sent}
use Rattle.psci_world_spec.specs.declared.place.Place.{Place}
use Rattle.psci_world_spec.specs.psci_fw_spec.Effects as later
use Rattle.psci_world_spec.specs.psci_fw_spec.Answer.{answer, enter_outcome, outcome_of}
use Rattle.psci_world_spec.specs.psci_fw_spec.History as remembers
use Rattle.psci_world_spec.specs.psci_fw_spec.Changes as lives
use Rattle.psci_world_spec.specs.psci_fw_spec.PowerCalls.{message_for, stops_with}
use Rattle.psci_world_spec.specs.psci_fw_spec.Phases as phases
use Rattle.psci_world_spec.specs.psci_fw_spec.Values as remembered
use Rattle.psci_world_spec.specs.psci_fw_spec.declared.call.FwCall.TheVariants as calls
use Rattle.psci_world_spec.specs.psci_fw_spec.declared.outcome.Act.TheVariants as outcomes
use Rattle.psci_world_spec.specs.psci_fw_spec.declared.outcome.Outcome.{Outcome}
use Rattle.psci_world_spec.specs.psci_fw_spec.declared.reply.FwReply.TheVariants as replies
use Rattle.psci_port.specs.Rebooted.{followed, rebooted, reset_call}
use Rattle.psci_port.proofs.Words.{◌<◌, ◌∙◌, ◌∷◌, ◌≡◌, [], ap, arith, AtDoor, Begins, blank}
use Rattle.psci_port.proofs.Words.{BoardValue, Call, change, cond-false, cond-true}
use Rattle.psci_port.proofs.Words.{controller_values, cores, CtlExchange, Deliver, Enter, false}
use Rattle.psci_port.proofs.Words.{firmware_values, first_depth, first_row, first_starts, Fw}
use Rattle.psci_port.proofs.Words.{FwExchange, indexed, IsLegalPast, last_start, length, List}
use Rattle.psci_port.proofs.Words.{lt-ltb, MessageValue, nat_tests, ne_eqb, None, Normal}
use Rattle.psci_port.proofs.Words.{numbered_new, Option, place_of, Record, refl, Row, Running, Said}
use Rattle.psci_port.proofs.Words.{said_by, said_of, sent_as, Some, Standing, Start, start_of_life}
use Rattle.psci_port.proofs.Words.{Started, Stopped, subst, suc, sym, Values, values_of, zero, ℕ}
use Rattle.psci_port.proofs.Records.{call_legal, deliver_legal, enter_legal, Moves, moves}

-- Booting -----------------------------------------------------------------------------------------
-- The boot core enters in a new life, calls SYSTEM_RESET, and the power controller carries it out.

-- The boot core enters ---------------------------------------------------------------------------

abbrev pub boot_start : ℕ → Start
boot_start life = record { life = life; number = 1; cause = causes.Boot }

abbrev pub at_boot : BoardValue → Outcome
at_boot b = record { act = outcomes.Enter b.boot 0; message = None }

finds : (b : BoardValue) (v : remembered.Values) (n : ℕ) → v.life ≡ n
    → lives.in_life b (suc n) v ≡ lives.start_of_life b (suc n)
finds b v n life = cond-false _ _ _ (ne_eqb (suc n) v.life (λ e. omega (arith, life, e)))

pub is_entered : (b : BoardValue) (v : remembered.Values) (n : ℕ) → v.life ≡ n → 0 < cores b
    → 0 < b.starts → suc n < b.lives
    → answer b v 0 (calls.Enter (boot_start (suc n))) ≡ replies.Out (at_boot b)
unfolding answer enter_outcome
is_entered b v n life has some low =
    let found = finds b v n life in grind (arith, nat_tests, cond-true, lt-ltb, found)

-- what the entry leaves
abbrev pub arrived : BoardValue → remembered.Values → ℕ → remembered.Values
arrived b v n =
    later.after b 0 (calls.Enter (boot_start (suc n))) (replies.Out (at_boot b)) v

pub arrived_life : (b : BoardValue) (v : remembered.Values) (n : ℕ) → v.life ≡ n
    → (arrived b v n).life ≡ suc n
unfolding later.after
arrived_life b v n life = ap (λ (w : remembered.Values). w.life) (finds b v n life)

pub arrived_halting : (b : BoardValue) (v : remembered.Values) (n : ℕ) → v.life ≡ n
    → (arrived b v n).halting ≡ false
unfolding later.after
arrived_halting b v n life = ap (λ (w : remembered.Values). w.halting) (finds b v n life)

pub arrived_phase : (b : BoardValue) (v : remembered.Values) (n : ℕ)
    → (arrived b v n).phase 0 ≡ phases.Running
unfolding later.after
arrived_phase b v n = refl

-- It calls SYSTEM_RESET --------------------------------------------------------------------------

pub is_asked : (b : BoardValue) (v : remembered.Values) (n : ℕ) → v.life ≡ suc n
    → v.halting ≡ false → v.phase 0 ≡ phases.Running → 0 < cores b
    → answer b v 0 (calls.Smc reset_call)
    ≡ replies.Out (stops_with (message_for v kinds.Reset 0 []))
unfolding answer outcome_of
is_asked b v n life halting running has = grind (arith, nat_tests, cond-true, lt-ltb)

pub asked_life : (b : BoardValue) (v : remembered.Values) (m : MessageValue)
    → (later.after b 0 (calls.Smc reset_call) (replies.Out (stops_with m)) v).life ≡ v.life
unfolding later.after
asked_life b v m = refl

-- And the message is delivered -------------------------------------------------------------------

pub begins_next : (b : BoardValue) (v : Values) (m : MessageValue) → v.life ≡ Some m.life
    → m.kind ≡ kinds.Reset → m.life < b.lives
    → effect_of b (asked.Deliver m) (reply b v (asked.Deliver m)) ≡ Begins
unfolding effect_of reply delivery_of
begins_next b v m life kind low = grind (arith, nat_tests)

pub some_row : (p : Place) → (r : Row) × (p ≡ place_of r.stage)
some_row Started = (blank AtDoor, refl)
some_row Running = (blank Normal, refl)
some_row Stopped = (blank Standing, refl)

-- Rebooting ---------------------------------------------------------------------------------------

-- as the power controller begins this life
abbrev pub life_values : BoardValue → ℕ → Values
life_values b life = record {
  life = Some life;
  starts = first_starts;
  cause = first_cause;
  depth = first_depth b;
}

-- What is so after so many lives.
pub record IsRebooted (b : BoardValue) (n : ℕ) (past : List Record) : Type 0 where
  pub values : controller_values b past ≡ life_values b (suc n)
  pub places : (c : ℕ) → place b past c ≡ place_of (first_row c).stage
  pub sends : length (sent past) ≡ n
  pub life : (firmware_values b past).life ≡ n

-- One life more ----------------------------------------------------------------------------------

module _ (b : BoardValue)
    (more : (e : CtlExchange) (h : List CtlExchange)
    → values_of b (e ∷ h) ≡ after b e.call e.reply (values_of b h))
    (kept : (e : FwExchange) (h : List FwExchange) → remembers.values_of b (e ∷ h)
    ≡ later.after b e.core e.call e.reply (remembers.values_of b h))
    (has : 0 < cores b) (some : 0 < b.starts) where
  module _ (n : ℕ) (past : List Record) (is : IsRebooted b n past) (low : suc n < b.lives) where
    abbrev v : remembered.Values
    v = firmware_values b past

    abbrev w : remembered.Values
    w = arrived b v n

    last : last_start (controller_values b past) 0 ≡ Some (boot_start (suc n))
    last = ap (λ u. last_start u 0) is.values

    said_entry : legal b past (Enter 0) ≡ Fw (outcomes.Enter b.boot 0) None
    said_entry =
        sym (enter_legal b past 0 (boot_start (suc n)) has (is.places 0) last)
        ∙ ap (said_of (length (sent past))) (is_entered b v n is.life has some low)

    abbrev entered : List Record
    entered = record { event = Enter 0; said = Fw (outcomes.Enter b.boot 0) None } ∷ past

    abbrev entry_of : Option Start → List FwExchange
    entry_of None = firmware_history b past
    entry_of (Some s) = record {
      core = 0;
      call = calls.Enter s;
      reply = replies.Out (at_boot b);
    } ∷ firmware_history b past

    entered_history : (o : Option Start) → last_start (controller_values b past) 0 ≡ o
        → firmware_history b entered ≡ entry_of o
    unfolding firmware_history
    entered_history o e = grind (arith, nat_tests)

    values_then : firmware_values b entered ≡ w
    values_then =
        ap (remembers.values_of b) (entered_history (Some (boot_start (suc n))) last)
        ∙ kept (record {
          core = 0;
          call = calls.Enter (boot_start (suc n));
          reply = replies.Out (at_boot b);
        }) (firmware_history b past)

    abbrev message : MessageValue
    message = message_for w kinds.Reset 0 []

    abbrev called : List Record
    called = record {
      event = Call 0 reset_call;
      said = Fw outcomes.Stop (sent_as (length (sent past)) (Some message));
    } ∷ entered

    runs_then : place b entered 0 ≡ Running
    unfolding place
    runs_then = refl

    sent_then : sent entered ≡ sent past
    unfolding sent
    sent_then = refl

    said_call : legal b entered (Call 0 reset_call)
        ≡ Fw outcomes.Stop (sent_as (length (sent past)) (Some message))
    said_call =
        sym (call_legal b entered 0 reset_call has runs_then)
        ∙ ap (λ ms. said_of (length ms) (answer b (firmware_values b entered) 0
        (calls.Smc reset_call))) sent_then
        ∙ ap (λ u. said_of (length (sent past)) (answer b u 0 (calls.Smc reset_call))) values_then
        ∙ ap (said_of (length (sent past)))
        (is_asked b w n (arrived_life b v n is.life) (arrived_halting b v n is.life)
        (arrived_phase b v n) has)

    sent_called : sent called ≡ message ∷ sent past
    unfolding sent
    sent_called = refl

    at_call : indexed (sent called) n ≡ Some message
    at_call = grind (arith, nat_tests, sent_called, numbered_new)

    same_values : controller_values b called ≡ controller_values b past
    unfolding controller_history
    same_values = refl

    life_called : (firmware_values b called).life ≡ suc n
    unfolding firmware_history
    life_called = grind (arith, nat_tests, asked_life, arrived_life)

    abbrev delivered_said : Said
    delivered_said = said_by (length (acks called))
        (reply b (controller_values b called) (asked.Deliver message))

    said_delivery : legal b called (Deliver n) ≡ delivered_said
    said_delivery = sym (deliver_legal b called n message at_call)

    life_then : (controller_values b called).life ≡ Some message.life
    life_then = grind (arith, nat_tests, same_values, arrived_life)

    begins_so : effect_of b (asked.Deliver message)
        (reply b (controller_values b called) (asked.Deliver message)) ≡ Begins
    begins_so = begins_next b (controller_values b called) message life_then refl
        (subst (λ l. l < b.lives) (sym (arrived_life b v n is.life)) low)

    abbrev delivery : Record
    delivery = record { event = Deliver n; said = delivered_said }

    moved : Moves b called delivery Begins (controller_values b called)
    moved = subst (λ f. Moves b called delivery f (controller_values b called)) begins_so
        (moves b called more (Deliver n) (asked.Deliver message) at_call)

    sends_then : length (sent (delivery ∷ called)) ≡ suc n
    unfolding sent
    sends_then = grind (arith, nat_tests)

    life_delivered : (firmware_values b (delivery ∷ called)).life ≡ suc n
    unfolding firmware_history
    life_delivered = life_called

    ends : IsRebooted b (suc n) (delivery ∷ called)
    ends = record {
      values = moved.values ∙ ap (change b Begins) (same_values ∙ is.values)
          ∙ ap (life_values b) (sym (suc-eq-add-one (suc n)));
      places = λ c. let row = some_row (place b called c) in moved.places c row.0 row.1;
      sends = sends_then;
      life = life_delivered;
    }

    all_said : followed b (followed b (followed b past (Enter 0)) (Call 0 reset_call)) (Deliver n)
        ≡ delivery ∷ called
    all_said = grind (arith, nat_tests, said_entry, said_call, said_delivery)

  module _ (begin : values_of b [] ≡ start_of_life b) where
    first_rebooted : IsRebooted b zero []
    unfolding controller_history place firmware_history sent remembers.values_of
    first_rebooted = grind (arith, nat_tests)

    pub are_rebooted : (n : ℕ) → n < b.lives → IsRebooted b n (rebooted b n)
    unfolding rebooted
    are_rebooted zero low = first_rebooted
    are_rebooted (suc n) low =
        let is : IsRebooted b n (rebooted b n) = are_rebooted n (omega (arith, low)) in
        subst (IsRebooted b (suc n)) (sym (all_said n (rebooted b n) is low))
        (ends n (rebooted b n) is low)

-- The power controller goes on -------------------------------------------------------------------

-- such a run is legal
pub rebooted_legal : (b : BoardValue) (n : ℕ) → IsLegalPast b (rebooted b n)
unfolding rebooted
rebooted_legal b zero = tt
rebooted_legal b (suc n) = (refl, (refl, (refl, rebooted_legal b n)))

-- and leaves the values with which the power controller goes on
pub goes_on : (b : BoardValue) (v : Values) (n : ℕ) → v.life ≡ Some n
    → life_values b (suc n) ≡ change b Begins v
goes_on b v n life = grind (arith, nat_tests)
