-- A world that settled after a storm.
use Rattle.std.specs.Prelude.{IfOk, Result}
use Rattle.std.proofs.Common.{◌++◌, ◌+◌, ◌<◌, ◌∙◌, ◌∷◌, ◌≡◌, [], ap, Err, false, inl, inr}
use Rattle.std.proofs.Common.{length, length-append, List, Ok, OnErr, refl, subst, sym, true, ℕ}
use Rattle.std.proofs.lemmas.List.{append_assoc}
use Rattle.psci_world.specs.Safe.{AlwaysSafe}
use Rattle.psci_world.specs.Settles.{ComesToRest, IsOnTheWay, SettlesBy}
use Rattle.psci_world.specs.Settling.{is_halting, settled}
use Rattle.psci_world.specs.declared.settling.Settled.{Settled}
use Rattle.psci_world.specs.declared.settling.Settled.TheVariants.{Halting, Quiet}
use Rattle.psci_world.specs.psci_board.Board.{BoardValue}
use Rattle.psci_world.specs.psci_board.declared.memory.Memory.{Memory}
use Rattle.psci_world.specs.psci_world_spec.Legal.{IsLegalPast, legal_record, run_from, sent}
use Rattle.psci_world.specs.psci_world_spec.declared.event.Event.{Event}
use Rattle.psci_world.specs.psci_world_spec.declared.said.Record.{Record}
use Rattle.psci_storm.specs.Storm.{HappensBy, IsBlown, IsCutShort, IsDrawn, IsStorm}
use Rattle.psci_storm.specs.declared.outcome.Storm.{Storm}

-- how the world settled, where it did
settled_in : Result Settled Memory → Settled
settled_in (Ok s) = s
settled_in (Err memory) = Halting

blown_at : (b : BoardValue) (before middle after : List Record) (count : ℕ)
    (result : Result Settled Memory) → IsDrawn b before count middle
    → (is_halting b middle ≡ true → (result ≡ Ok Halting) × (after ≡ middle))
    → (is_halting b middle ≡ false → IfOk result (λ s. (s ≡ Quiet (settled b middle).rounds)
    × (after ≡ (settled b middle).past)))
    → (is_halting b middle ≡ false → IfOk result (λ s. ComesToRest b middle after s))
    → IfOk result (λ s. IsBlown b before count after s)
unfolding settled_in
blown_at b before middle after count (Ok s) drawn halting quiet rest = record {
  middle = middle;
  drawn = drawn;
  halting = λ h. (ap settled_in (halting h).0, (halting h).1);
  quiet = quiet;
  rest = rest;
}
blown_at b before middle after count (Err memory) drawn halting quiet rest = tt

pub blown : (b other : BoardValue) (before middle after : List Record) (count : ℕ)
    (result : Result Settled Memory) → other ≡ b → IsDrawn b before count middle
    → (is_halting other middle ≡ true → (result ≡ Ok Halting) × (after ≡ middle))
    → (is_halting other middle ≡ false → IfOk result (λ s.
    (s ≡ Quiet (settled other middle).rounds) × (after ≡ (settled other middle).past)))
    → (is_halting other middle ≡ false → IfOk result (λ s. ComesToRest other middle after s))
    → IfOk result (λ s. IsBlown b before count after s)
blown b other before middle after count result same drawn halting quiet rest =
    blown_at b before middle after count result drawn
    (subst (λ (x : BoardValue). is_halting x middle ≡ true
    → (result ≡ Ok Halting) × (after ≡ middle)) same halting)
    (subst (λ (x : BoardValue). is_halting x middle ≡ false → IfOk result (λ s.
    (s ≡ Quiet (settled x middle).rounds) × (after ≡ (settled x middle).past))) same quiet)
    (subst (λ (x : BoardValue). is_halting x middle ≡ false
    → IfOk result (λ s. ComesToRest x middle after s)) same rest)

-- a new world of the board was blown through, and this was counted
pub storms : (b first last : BoardValue) (before past : List Record) (count : ℕ)
    (end : Settled) (storm : Storm) → first ≡ b → last ≡ first → before ≡ []
    → IsBlown first before count past end → IsLegalPast last past → AlwaysSafe last past
    → storm ≡ record { events = length past; sent = length (sent past); settled = end }
    → IsStorm b count past storm
storms b first last before past count end storm is_first is_last none blown legal safe counted =
    let new : IsBlown first [] count past end =
    subst (λ (p : List Record). IsBlown first p count past end) none blown in
    let all : IsStorm b count past (record {
      events = length past;
      sent = length (sent past);
      settled = end;
    }) = record {
      blown = subst (λ (x : BoardValue). IsBlown x [] count past end) is_first new;
      events = refl;
      sent = refl;
      legal = subst (λ (x : BoardValue). IsLegalPast x past) (is_last ∙ is_first) legal;
      safe = subst (λ (x : BoardValue). AlwaysSafe x past) (is_last ∙ is_first) safe;
    } in
    subst (λ (x : Storm). IsStorm b count past x) (sym counted) all

pub on_err : {A E : Type 0} (r : Result A E) (P : Type 0) → P → OnErr r P
on_err (Ok x) P h = tt
on_err (Err e) P h = h

-- memory ran out before all events had happened
pub cut_drawing : (b : BoardValue) (before after : List Record) (count : ℕ)
    → ((n : ℕ) × (n < count) × IsDrawn b before n after) → IsCutShort b before count after
cut_drawing b before after count few = inl few

-- what happens comes after what had happened
pub way_on : (b : BoardValue) (past : List Record) (events : List Event)
    → IsOnTheWay past (run_from b past events)
unfolding run_from
way_on b past [] = ([], refl)
way_on b past (event ∷ events) =
    let r = legal_record b past event in
    let rest = way_on b (r ∷ past) events in
    (rest.0 ++ r ∷ [], rest.1 ∙ sym (append_assoc rest.0 (r ∷ []) past))

-- memory ran out after them
pub cut_settling : (b other : BoardValue) (before middle after : List Record) (count : ℕ)
    (result : Result Settled Memory) → other ≡ b → IsDrawn b before count middle
    → SettlesBy other middle after → OnErr result (IsOnTheWay after (settled other middle).past)
    → OnErr result (IsCutShort b before count after)
cut_settling b other before middle after count (Ok s) same drawn by way = tt
cut_settling b other before middle after count (Err memory) same drawn by way = inr (
  middle,
  drawn,
  subst (IsOnTheWay middle) (sym by.run) (way_on other middle by.events),
  subst (λ (x : BoardValue). IsOnTheWay after (settled x middle).past) same way,
)

-- Events that were drawn: none, and one more ------------------------------------------------------

goes_on : (b : BoardValue) (past : List Record) (events more : List Event)
    → run_from b past (events ++ more) ≡ run_from b (run_from b past events) more
unfolding run_from
goes_on b past [] more = refl
goes_on b past (event ∷ events) more = goes_on b (legal_record b past event ∷ past) events more

-- nothing has happened yet
pub drawn_none : (b : BoardValue) (past : List Record) → IsDrawn b past 0 past
unfolding run_from
drawn_none b past = record { drawn = []; many = refl; run = refl }

one : (b : BoardValue) (past : List Record) (event : Event)
    → legal_record b past event ∷ past ≡ run_from b past (event ∷ [])
unfolding run_from
one b past event = refl

-- one event more
pub drawn_more : (b other : BoardValue) (before past after : List Record) (count : ℕ)
    (event : Event) → other ≡ b → IsDrawn b before count past
    → after ≡ legal_record other past event ∷ past → IsDrawn b before (count + 1) after
drawn_more b other before past after count event same so_far next =
    let step : after ≡ legal_record b past event ∷ past =
    subst (λ (x : BoardValue). after ≡ legal_record x past event ∷ past) same next in
    record {
      drawn = so_far.drawn ++ (event ∷ []);
      many = length-append so_far.drawn (event ∷ []) ∙ ap (λ (n : ℕ). n + 1) so_far.many;
      run = step ∙ one b past event
          ∙ ap (λ (p : List Record). run_from b p (event ∷ [])) so_far.run
          ∙ sym (goes_on b before so_far.drawn (event ∷ []));
    }

-- what was drawn has happened
pub happens_drawn : (b : BoardValue) (before after : List Record) (count : ℕ)
    → IsDrawn b before count after → HappensBy b before after
happens_drawn b before after count drawn = record { events = drawn.drawn; run = drawn.run }

-- what was drawn has happened, and then some events more
pub happens_both : (b other : BoardValue) (before middle after : List Record) → other ≡ b
    → HappensBy b before middle → (events : List Event) → after ≡ run_from other middle events
    → HappensBy b before after
happens_both b other before middle after same first events next =
    let two : after ≡ run_from b middle events =
    subst (λ (x : BoardValue). after ≡ run_from x middle events) same next in
    record {
      events = first.events ++ events;
      run = two ∙ ap (λ (p : List Record). run_from b p events) first.run
          ∙ sym (goes_on b before first.events events);
    }

-- the past is as it was
pub happens_same : (b : BoardValue) (before past after : List Record) → after ≡ past
    → HappensBy b before past → HappensBy b before after
happens_same b before past after same so_far =
    subst (λ (p : List Record). HappensBy b before p) (sym same) so_far

-- the same, fewer events than there were to be
pub drawn_few : (b : BoardValue) (before past after : List Record) (n count : ℕ) → n < count
    → after ≡ past → IsDrawn b before n past
    → (k : ℕ) × (k < count) × IsDrawn b before k after
drawn_few b before past after n count less same drawn =
    (n, less, subst (λ (p : List Record). IsDrawn b before n p) (sym same) drawn)
