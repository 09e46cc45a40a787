-- Pasts on the way to others: each thing that settling does adds records. And what the rounds lead
-- to.
use Rattle.std.specs.List.{AllPass, range_with_len}
use Rattle.std.specs.Prelude.{if◌then◌else◌}
use Rattle.std.proofs.Common.{◌++◌, ◌+◌, ◌-◌, ◌<◌, ◌∙◌, ◌∷◌, ◌≡◌, [], ap, arith, Bool, Err}
use Rattle.std.proofs.Common.{false, List, None, Ok, OnErr, Option, refl, Result, Some, subst}
use Rattle.std.proofs.Common.{suc, sym, true, zero, ℕ}
use Rattle.std.proofs.lemmas.List.{append_assoc}
use Rattle.std.proofs.lemmas.List.Elements.{All-append, All-nil}
use Rattle.psci_headline.specs.Settling.{all_cores, begun, each_core, entering, is_any}
use Rattle.psci_headline.specs.Settling.{is_settling, is_start, is_started, is_waiting, Reached}
use Rattle.psci_headline.specs.Settling.{round, rounds, served, serving, settled, step}
use Rattle.psci_machine.specs.psci_board.Board.{BoardValue, cores, height}
use Rattle.psci_machine.specs.psci_world_spec.Legal.{place, run_from}
use Rattle.psci_machine.specs.psci_world_spec.declared.event.Event.{Event}
use Rattle.psci_machine.specs.psci_world_spec.declared.event.Event.TheVariants.{Deliver}
use Rattle.psci_machine.specs.psci_world_spec.declared.said.Record.{Record}
use Rattle.psci_machine.specs.psci_world_spec.psci_messages.declared.kind.Kind.{Kind}
use Rattle.psci_machine.proofs.world_spec.Scripts.{goes_on}
use Rattle.psci_world.specs.Settles.{IsOnTheWay, SettlesBy, WorldValue}

-- Settles -----------------------------------------------------------------------------------------
-- Runs of entries, deliveries and takes: none, one event, and one run after another; and loops over
-- all cores.

-- nothing happened
pub settles_none : {b : BoardValue} {past : List Record} → SettlesBy b past past
unfolding run_from
settles_none = record {
  events = [];
  run = refl;
  settling = All-nil (λ (e : Event). is_settling e ≡ true);
}

one_passes : (event : Event) → is_settling event ≡ true → AllPass is_settling (event ∷ [])
one_passes event is zero d less = is
one_passes event is (suc k) d less = absurd (omega arith)

-- one event happened
pub settles_one : (b : BoardValue) (past after : List Record) (event : Event)
    → is_settling event ≡ true → after ≡ step b past event → SettlesBy b past after
unfolding run_from
settles_one b past after event is run =
    record { events = event ∷ []; run = run; settling = one_passes event is }

-- one run happened, then another
pub settles_both : {b other : BoardValue} {past middle after : List Record} → other ≡ b
    → SettlesBy b past middle → SettlesBy other middle after → SettlesBy b past after
settles_both {b} {other} {past} {middle} {after} same one next =
    let two : SettlesBy b middle after = rw same at next in
    record {
      events = one.events ++ two.events;
      run = two.run ∙ ap (λ (p : List Record). run_from b p two.events) one.run
          ∙ sym (goes_on b past one.events two.events);
      settling = All-append (λ (e : Event). is_settling e ≡ true) one.events two.events
          one.settling two.settling;
    }

-- How far a loop is in which each core does its part: the parts that are left lead from where it is
-- to where all of them lead.
pub record IsAt (does : BoardValue → List Record → ℕ → List Record) (b : BoardValue)
    (before : List Record) (now : WorldValue) (n : ℕ) : Type 0 where
  pub board : now.board ≡ b
  pub events : SettlesBy b before now.past
  pub rest : each_core (does b) (range_with_len n (cores b - n)) now.past
      ≡ each_core (does b) (all_cores b) before

-- all cores are left
pub at_first : (does : BoardValue → List Record → ℕ → List Record) (now : WorldValue)
    → IsAt does now.board now.past now 0
at_first does now =
    let all : cores now.board - 0 ≡ cores now.board = omega arith in
    record { board = refl; events = settles_none; rest = rw all refl }

-- one core does its part, which is the first of those that are left
pub first_part : {does : BoardValue → List Record → ℕ → List Record} {b : BoardValue}
    {before : List Record} {now : WorldValue} {n : ℕ} → IsAt does b before now n → n < cores b
    → each_core (does b) (range_with_len (n + 1) (cores b - (n + 1))) (does b now.past n)
    ≡ each_core (does b) (all_cores b) before
first_part {does} {b} {before} {now} {n} at less =
    let left : cores b - n ≡ suc (cores b - (n + 1)) = omega arith in rw left at at.rest

pub at_next : {does : BoardValue → List Record → ℕ → List Record} {b : BoardValue}
    {before : List Record} {now new : WorldValue} {n : ℕ} → IsAt does b before now n → n < cores b
    → new.board ≡ now.board → SettlesBy now.board now.past new.past
    → new.past ≡ does now.board now.past n → IsAt does b before new (n + 1)
at_next at less same events next = record {
  board = same ∙ at.board;
  events = settles_both at.board at.events events;
  rest = rw (next, at.board) (first_part at less);
}

-- On the way --------------------------------------------------------------------------------------

-- In general ----------------------------------------------------------------------------------

way_none : {past : List Record} → IsOnTheWay past past
way_none = ([], refl)

way_one : {r : Record} {past : List Record} → IsOnTheWay past (r ∷ past)
way_one {r} = (r ∷ [], refl)

way_both : {past middle whole : List Record} → IsOnTheWay past middle
    → IsOnTheWay middle whole → IsOnTheWay past whole
way_both {past} one two = (
  two.0 ++ one.0,
  two.1 ∙ ap (λ (p : List Record). two.0 ++ p) one.1 ∙ sym (append_assoc two.0 one.0 past),
)

way_if : (t : Bool) (r : Record) (past : List Record)
    → IsOnTheWay past (if t then r ∷ past else past)
way_if true r past = way_one
way_if false r past = way_none

-- What settling does --------------------------------------------------------------------------

pub way_entering : (b : BoardValue) (past : List Record) (c : ℕ)
    → IsOnTheWay past (entering b past c)
way_entering b past c = way_if (is_started (place b past c)) _ past

way_answering : (b : BoardValue) (past : List Record) (message : Option ℕ)
    → IsOnTheWay past (serving b past message)
way_answering b past None = way_none
way_answering b past (Some k) = way_both way_one way_one

pub way_answered : (b : BoardValue) (which : Kind → Bool) (past : List Record) (c : ℕ)
    → IsOnTheWay past (served b which past c)
way_answered b which past c = way_answering b past _

way_each : (does : List Record → ℕ → List Record)
    → ((past : List Record) (c : ℕ) → IsOnTheWay past (does past c))
    → (cs : List ℕ) (past : List Record) → IsOnTheWay past (each_core does cs past)
way_each does way [] past = way_none
way_each does way (c ∷ cs) past = way_both (way past c) (way_each does way cs (does past c))

way_while : (t : Bool) (one other : Reached) (past : List Record) → IsOnTheWay past one.past
    → IsOnTheWay past other.past → IsOnTheWay past (if t then one else other).past
way_while true one other past first second = first
way_while false one other past first second = second

way_rounds : (b : BoardValue) (most : ℕ) (past : List Record) (n : ℕ)
    → IsOnTheWay past (rounds b most past n).past
unfolding rounds round
way_rounds b zero past n = way_none
way_rounds b (suc most) past n =
    way_while (is_waiting b past) _ _ past
    (way_both (way_each (served b is_any) (way_answered b is_any) (all_cores b) past)
    (way_rounds b most _ (n + 1)))
    way_none

-- Where settling stops ------------------------------------------------------------------------

pub on_err : {A E : Type 0} (r : Result A E) (P : Type 0) → P → OnErr r P
on_err (Ok x) P p = tt
on_err (Err e) P p = p

-- nothing happened of one event
pub stops_step : (b : BoardValue) (past after : List Record) (event : Event) → after ≡ past
    → IsOnTheWay after (step b past event)
stops_step b past after event same = rw same way_one

-- of a delivery and a taken acknowledgement the delivery is on its way
pub stops_answering : (b : BoardValue) (past after : List Record) (k : ℕ)
    → IsOnTheWay after (step b past (Deliver k)) → IsOnTheWay after (serving b past (Some k))
stops_answering b past after k way = way_both way way_one

-- one of the cores has begun its part, and others are left
pub stops_each : {does : BoardValue → List Record → ℕ → List Record} {b : BoardValue}
    {before : List Record} {now : WorldValue} {n : ℕ} (after : List Record)
    → ((p : List Record) (c : ℕ) → IsOnTheWay p (does b p c)) → IsAt does b before now n
    → n < cores b → IsOnTheWay after (does now.board now.past n)
    → IsOnTheWay after (each_core (does b) (all_cores b) before)
stops_each {does} {b} {before} {now} {n} after way at less begins =
    subst (IsOnTheWay after) (first_part at less)
    (way_both (rw at.board at begins) (way_each (does b) way
    (range_with_len (n + 1) (cores b - (n + 1))) (does b now.past n)))

-- Beginning -----------------------------------------------------------------------------------

-- started cores enter, Starts are answered, and started cores enter
pub all_begun : (b one two : BoardValue) (past middle last : List Record) → one ≡ b → two ≡ b
    → middle ≡ each_core (entering b) (all_cores b) past
    → last ≡ each_core (served one is_start) (all_cores one) middle
    → each_core (entering two) (all_cores two) last ≡ begun b past
unfolding begun
all_begun b one two past middle last first second enters answers =
    rw (second, answers, first, enters) refl

way_entered : (b : BoardValue) (past : List Record)
    → IsOnTheWay past (each_core (entering b) (all_cores b) past)
way_entered b past = way_each (entering b) (way_entering b) (all_cores b) past

-- the started cores have begun to enter
pub stops_entering : (b : BoardValue) (past after : List Record)
    → IsOnTheWay after (each_core (entering b) (all_cores b) past)
    → IsOnTheWay after (begun b past)
unfolding begun
stops_entering b past after at =
    way_both at (way_both (way_each (served b is_start) (way_answered b is_start) (all_cores b) _)
    (way_entered b _))

-- the Starts have begun to be answered
pub stops_starting : (b one : BoardValue) (past middle after : List Record) → one ≡ b
    → middle ≡ each_core (entering b) (all_cores b) past
    → IsOnTheWay after (each_core (served one is_start) (all_cores one) middle)
    → IsOnTheWay after (begun b past)
unfolding begun
stops_starting b one past middle after same enters at =
    way_both (rw (same, enters) at at) (way_entered b _)

-- Rounds --------------------------------------------------------------------------------------

-- a round is left
one_round : (b other : BoardValue) (n most : ℕ) (past : List Record) (whole : Reached) → n < most
    → other ≡ b → is_waiting other past ≡ true → rounds b (most - n) past n ≡ whole
    → rounds b (most - (n + 1)) (each_core (served b is_any) (all_cores b) past) (n + 1) ≡ whole
unfolding rounds round
one_round b other n most past whole less same waits rest =
    let left : most - n ≡ suc (most - (n + 1)) = omega arith in
    let here : is_waiting b past ≡ true = rw same at waits in rw (left, here) at rest

-- one round more, of those that are left
pub round_more : (b other : BoardValue) (n most : ℕ) (past after : List Record) (whole : Reached)
    → n < most → other ≡ b → is_waiting other past ≡ true
    → after ≡ each_core (served other is_any) (all_cores other) past
    → rounds b (most - n) past n ≡ whole → rounds b (most - (n + 1)) after (n + 1) ≡ whole
round_more b other n most past after whole less same waits next rest =
    rw (next, same) (one_round b other n most past whole less same waits rest)

-- all rounds are left
pub rounds_first : (b : BoardValue) (most : ℕ) (past : List Record)
    → rounds b (most - 0) past 0 ≡ rounds b most past 0
rounds_first b most past = let all : most - 0 ≡ most = omega arith in rw all refl

-- nothing waits any more
pub rounds_done : (b other : BoardValue) (n most : ℕ) (past : List Record) (whole : Reached)
    → n < most → other ≡ b → is_waiting other past ≡ false
    → rounds b (most - n) past n ≡ whole → record { past = past; rounds = n } ≡ whole
unfolding rounds
rounds_done b other n most past whole less same rests rest =
    let left : most - n ≡ suc (most - (n + 1)) = omega arith in
    let here : is_waiting b past ≡ false = rw same at rests in rw (left, here) at rest

-- there are no more rounds
pub rounds_over : (b : BoardValue) (n most : ℕ) (past : List Record) (whole : Reached) → n ≡ most
    → rounds b (most - n) past n ≡ whole → record { past = past; rounds = most } ≡ whole
unfolding rounds
rounds_over b n most past whole over rest =
    let left : most - n ≡ zero = omega arith in rw (← over) (rw left at rest)

-- the rounds after what was begun lead to where the world comes to rest
pub all_settled : (b other : BoardValue) (past middle : List Record) (whole : Reached)
    → other ≡ b → middle ≡ begun b past → whole ≡ rounds other (height other + 1) middle 0
    → whole ≡ settled b past
unfolding settled
all_settled b other past middle whole same begins ends = rw (ends, same, begins) refl

-- a round has begun, and others are left
pub stops_round : (b other : BoardValue) (n most : ℕ) (past after : List Record) (whole : Reached)
    → n < most → other ≡ b → is_waiting other past ≡ true
    → IsOnTheWay after (each_core (served other is_any) (all_cores other) past)
    → rounds b (most - n) past n ≡ whole → IsOnTheWay after whole.past
stops_round b other n most past after whole less same waits at rest =
    subst (λ (r : Reached). IsOnTheWay after r.past)
    (one_round b other n most past whole less same waits rest)
    (way_both (rw same at at) (way_rounds b (most - (n + 1)) _ (n + 1)))

-- what is begun has begun, and the rounds are left
pub stops_beginning : (b : BoardValue) (past after : List Record)
    → IsOnTheWay after (begun b past) → IsOnTheWay after (settled b past).past
unfolding settled
stops_beginning b past after at = way_both at (way_rounds b (height b + 1) (begun b past) 0)

-- the rounds have begun
pub stops_rounds : (b other : BoardValue) (past middle after : List Record) → other ≡ b
    → middle ≡ begun b past → IsOnTheWay after (rounds other (height other + 1) middle 0).past
    → IsOnTheWay after (settled b past).past
unfolding settled
stops_rounds b other past middle after same begins at = rw (same, begins) at at
