-- What both keep, step by step, in a run of turns.
use Rattle.psci_headline.proofs.Words.{◌<◌, ◌∙◌, ◌≡◌, [], ap, arith, BoardValue, call_fault}
use Rattle.psci_headline.proofs.Words.{cases_eq, controller_values, cores, Enter, enter_fault}
use Rattle.psci_headline.proofs.Words.{firmware_values, FwFault, inl, inr, IsLegalPast}
use Rattle.psci_headline.proofs.Words.{last_start, length, List, MessageValue, nat_tests, None}
use Rattle.psci_headline.proofs.Words.{Option, outcome_of, Record, refl, Regs, reply_or}
use Rattle.psci_headline.proofs.Words.{request_of, Running, same_Some, sent, Some, Start}
use Rattle.psci_headline.proofs.Words.{Started, Stopped, subst, sym, Values, ℕ}
use Rattle.std.specs.Prelude.{option_map}
use Rattle.psci_board.specs.declared.draft.Core.{Core}
use Rattle.psci_ctl_spec.specs.Values as controlled
use Rattle.psci_fw_spec.specs.Answer.{answer, enter_outcome}
use Rattle.psci_fw_spec.specs.declared.outcome.Outcome.{Outcome}
use Rattle.psci_fw_spec.specs.declared.reply.FwReply.{FwReply}
use Rattle.psci_fw_spec.specs.declared.reply.FwReply.TheVariants as replies
use Rattle.psci_world_spec.specs.declared.event.Event.TheVariants.{Call, Reset, Wake}
use Rattle.psci_world_spec.specs.Legal.{legal, place, said_of, sent_as, sent_in}
use Rattle.psci_fw_spec.specs.Changes as lives
use Rattle.psci_headline.proofs.Agreed.{first_kept}
use Rattle.psci_headline.proofs.Downs.{first_controlled}
use Rattle.psci_ctl_spec.specs.declared.call.CtlCall.TheVariants as asked
use Rattle.psci_ctl_spec.specs.History.{IsOfBoard}
use Rattle.psci_guest.specs.Arrivals.{AreArrivals, kept_after, RunsIn, Says}
use Rattle.psci_guest.specs.Pair.{arrival_of, message_of, waiting_in}
use Rattle.psci_guest.specs.Steps.{AreSteps, call_reply, entry_after, IsCallStep, IsDoor}
use Rattle.psci_guest.specs.Steps.{IsDoorOf, IsKickStep}
use Rattle.psci_guest.specs.Turns.{arrived, Calls, event_of, exchange, IsSettled, Resets}
use Rattle.psci_guest.specs.Turns.{started_by, Turn, turns, Wakes}
use Rattle.psci_guest.proofs.Turning.{arrived_none, arrived_one, arriving_case, begun_by}
use Rattle.psci_guest.proofs.Turning.{exchanged, first_landed, home, IsHome}
use Rattle.psci_guest.proofs.Happened.{door_open, door_shut, IsWaiting, TurnLaws}
use Rattle.psci_guest.proofs.Events.{call_kept, call_said, call_sound, entry_kept, entry_said}
use Rattle.psci_guest.proofs.Events.{entry_sound, IsMore, reply_sends, reset_kept, wake_kept}
use Rattle.psci_guest.proofs.Served.{HasLanded}
use Rattle.psci_guest.proofs.Present.{moves_so, rests_so, runs_so, stands_so}

-- an outcome is said as it is
sent_back : (n : ℕ) (m : Option MessageValue) → option_map (λ s. s.message) (sent_as n m) ≡ m
sent_back n None = refl
sent_back n (Some m) = refl

says : (n : ℕ) (o : Outcome) → Says (said_of n (replies.Out o)) o
says n o = (refl, sent_back n o.message)

-- the firmware refuses no entry of a started core
out_of : (f : Option FwFault) (o : Outcome) → f ≡ None → reply_or f o ≡ replies.Out o
out_of f o e = ap (λ g. reply_or g o) e

entry_out : (b : BoardValue) (past : List Record) (c : ℕ) (s : Start) → TurnLaws b
    → place b past c ≡ Started → last_start (controller_values b past) c ≡ Some s
    → IsLegalPast b past → c < cores b
    → (o : Outcome) × (entry_after b past c s ≡ replies.Out o)
unfolding answer
entry_out b past c s laws at last is on =
    let free = (laws.settle.past past is).free.enters c on at in
    let same : free.0 ≡ s = same_Some free.0 s (sym free.1 ∙ last) in (
      enter_outcome b (firmware_values b past) c s,
      out_of (enter_fault b (firmware_values b past) c s) _
          (subst (λ x. enter_fault b (firmware_values b past) c x ≡ None) same free.2),
    )

-- nor a call of a running one
call_out : (b : BoardValue) (past : List Record) (c : ℕ) (regs : Regs) → TurnLaws b
    → IsLegalPast b past → c < cores b → place b past c ≡ Running
    → (o : Outcome) × (call_reply b past c regs ≡ replies.Out o)
unfolding answer
call_out b past c regs laws is on at = (
  outcome_of b (firmware_values b past) c (request_of regs),
  out_of (call_fault b (firmware_values b past) c) _
      ((laws.settle.past past is).free.calls c on at),
)

-- A core that may be at its start -----------------------------------------------------------------

module _ (b : BoardValue) (past : List Record) (one : ℕ) (laws : TurnLaws b) (more : IsMore b)
    (has : HasLanded b (Some one) past) (on : one < cores b) where
  waits : (s : Start) → waiting_in (kept_after b past) one ≡ Some s
      → IsWaiting b past one laws.settle has.legal on s
  waits s e = door_open b past one laws.settle has.legal on s e

  enters_so : (s : Start) → waiting_in (kept_after b past) one ≡ Some s
      → arrived b past ≡ exchange b past (Enter one)
  enters_so s e =
      arrived_one b past one laws has on
      ∙ arriving_case b past one (λ p. p ≡ exchange b past (Enter one)) (λ at. refl)
      (λ not. absurd (not (waits s e).at))

  tells : (s : Start) (core : Core) → core.number ≡ one
      → waiting_in (kept_after b past) one ≡ Some s → (r : FwReply)
      → entry_after b past one s ≡ r → AreArrivals b past (arrival_of core s r)
  tells s core same e (replies.Out o) reply = record {
    core = subst (λ i. i < cores b) (sym same) on;
    started = subst (λ i. place b past i ≡ Started) (sym same) (waits s e).at;
    start = subst (λ i. last_start (controller_values b past) i ≡ Some s) (sym same)
        (waits s e).last;
    says = subst (λ i. Says (legal b past (Enter i)) o) (sym same)
        (subst (λ said. Says said o)
        (sym (entry_said b past one s on (waits s e).at (waits s e).last
        ∙ ap (said_of (length (sent past))) reply)) (says (length (sent past)) o));
    alone = λ c inside at. elim (cases_eq c one) [
      | inl e ↦ e ∙ sym same
      | inr ne ↦ absurd (has.others c inside ne at)
    ];
  }
  tells s core same e (replies.Taken taken) reply =
      let is = entry_out b past one s laws (waits s e).at (waits s e).last has.legal on in
      let no : replies.Out is.0 ≡ replies.Taken taken = sym is.1 ∙ reply in absurd (cc)
  tells s core same e (replies.Fault fault) reply =
      let is = entry_out b past one s laws (waits s e).at (waits s e).last has.legal on in
      let no : replies.Out is.0 ≡ replies.Fault fault = sym is.1 ∙ reply in absurd (cc)

  door : IsDoor b past one
  door = record {
    sound = λ s m e sends.
        entry_sound b past one s m laws.settle has.legal on (waits s e).at (waits s e).last sends;
    enters = λ s e.
        ap (kept_after b) (enters_so s e)
        ∙ entry_kept b past one s more on (waits s e).at (waits s e).last;
    told = λ s core same e. tells s core same e (entry_after b past one s) refl;
    shut = λ e.
        arrived_one b past one laws has on
        ∙ arriving_case b past one (λ p. p ≡ past)
        (λ at. absurd (door_shut b past one laws.settle has.legal on e at)) (λ not. refl);
    none = λ e c inside at. elim (cases_eq c one) [
      | inl same ↦ door_shut b past one laws.settle has.legal on e
          (subst (λ i. place b past i ≡ Started) same at)
      | inr ne ↦ has.others c inside ne at
    ];
  }

-- What may be at its start after an exchange ------------------------------------------------------

doors : (b : BoardValue) (past : List Record) (o : Option ℕ) → TurnLaws b → IsMore b
    → HasLanded b o past → ((one : ℕ) → o ≡ Some one → one < cores b) → IsDoorOf b past o
doors b past None laws more has on = record {
  same = arrived_none b past has.others;
  none = λ c inside at. has.others c inside at;
}
doors b past (Some one) laws more has on =
    (on one refl, door b past one laws more has (on one refl))

-- the core of a message that may start one is of the board
core_on : (b : BoardValue) (o : Option MessageValue) (one : ℕ) → 0 < cores b
    → ((m : MessageValue) → o ≡ Some m → IsOfBoard b m) → started_by o ≡ Some one → one < cores b
core_on b None one some sound e = absurd (cc)
core_on b (Some m) one some sound e =
    let core = (sound m refl).core in grind (arith, nat_tests)

-- A turn ------------------------------------------------------------------------------------------

module _ (b : BoardValue) (ts : List Turn) (laws : TurnLaws b) (more : IsMore b) where
  abbrev past : List Record
  past = turns b ts

  is_home : IsHome b past
  is_home = home b ts laws

  landed : (t : Turn) → HasLanded b (begun_by b past t) (exchange b past (event_of t))
  landed t = exchanged b past (controller_values b past).life t laws refl is_home

  call_step : (c life : ℕ) (regs : Regs) → c < cores b → RunsIn b past life c
      → IsCallStep b past c regs
  call_step c life regs on runs =
      let said = call_said b past c regs on runs.place in
      let sound : (m : MessageValue) → message_of (call_reply b past c regs) ≡ Some m
      → IsOfBoard b m = λ m e.
      call_sound b past c regs m laws.settle is_home.legal on runs.place e in
      let sends : sent_in (legal b past (Call c regs)) ≡ message_of (call_reply b past c regs) =
      ap sent_in said ∙ reply_sends (length (sent past)) _ in
      record {
        sound = sound;
        kept = call_kept b past c regs more on runs.place;
        free = λ f e.
            let is = call_out b past c regs laws is_home.legal on runs.place in
            let no : replies.Out is.0 ≡ replies.Fault f = sym is.1 ∙ e in absurd (cc);
        says = λ o e.
            subst (λ s. Says s o) (sym (said ∙ ap (said_of (length (sent past))) e))
            (says (length (sent past)) o);
        door = doors b (exchange b past (Call c regs))
            (started_by (message_of (call_reply b past c regs))) laws more
            (subst (λ o. HasLanded b (started_by o) (exchange b past (Call c regs))) sends
            (landed (Calls c regs)))
            (λ one e. core_on b (message_of (call_reply b past c regs)) one laws.settle.some sound
            e);
      }

  wake_step : (c : ℕ) → c < cores b → place b past c ≡ Stopped
      → IsKickStep b past (Wake c) (asked.Wake (record { number = c })
      ((controller_values b past).starts c)) c
  wake_step c on at = record {
    kept = wake_kept b past c more on at;
    door = door b (exchange b past (Wake c)) c laws more (landed (Wakes c)) on;
  }

  reset_step : (c : ℕ) → c < cores b
      → IsKickStep b past (Reset c) (asked.Reset (record { number = c })) c
  reset_step c on = record {
    kept = reset_kept b past c more on;
    door = door b (exchange b past (Reset c)) c laws more (landed (Resets c)) on;
  }

pub steps : (b : BoardValue) → TurnLaws b → IsMore b
    → ((ts : List Turn) → IsSettled b (turns b ts)) → AreSteps b
unfolding turns
steps b laws more settled = record {
  settled = settled;
  some = laws.settle.some;
  begins = ap (λ (v : Values). record { firmware = v; controller = controller_values b [] })
      (first_kept b)
      ∙ ap (λ (w : controlled.Values). record {
        firmware = lives.start_of_life b 0;
        controller = w;
      })
      (first_controlled b);
  comes_on = refl;
  turned = λ ts t. refl;
  first = door b [] 0 laws more (first_landed b) laws.settle.some;
  runs = λ ts c life on e. runs_so b ts laws more c life on e;
  stands = λ ts c life on e runs. stands_so b ts laws more c life on e runs;
  moves = λ ts c on e. moves_so b ts laws more c on e;
  rests = λ ts c on e. rests_so b ts laws more c on e;
  call = λ ts c life regs on runs. call_step b ts laws more c life regs on runs;
  wake = λ ts c on at. wake_step b ts laws more c on at;
  reset = λ ts c on. reset_step b ts laws more c on;
}
