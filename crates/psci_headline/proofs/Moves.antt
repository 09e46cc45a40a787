-- What a record adds to the firmware's history, and what a legal one leaves of its values.
use Rattle.std.proofs.lemmas.Bool.{and_left, le-ltb, lt-leb, or_from}
use Rattle.psci_ctl_spec.specs.History as controlling
use Rattle.psci_ctl_spec.specs.Replies.{start_shown}
use Rattle.psci_ctl_spec.specs.Values as controlled
use Rattle.psci_world_spec.specs.Legal.{if_started, legal, on_board}
use Rattle.psci_world_spec.specs.declared.said.Said.TheVariants.{Taken as Took}
use Rattle.psci_fw_laws.specs.psci_fw_spec.Answer.{answer}
use Rattle.psci_fw_laws.specs.psci_fw_spec.Phases as phases
use Rattle.psci_fw_laws.specs.psci_fw_spec.Effects as spoken
use Rattle.psci_fw_laws.specs.psci_fw_spec.Effects.{sent_messages}
use Rattle.psci_fw_laws.specs.psci_fw_spec.declared.fault.FwFault.TheVariants as faults
use Rattle.psci_fw_laws.specs.psci_fw_spec.declared.reply.FwReply.TheVariants as replies
use Rattle.psci_headline.proofs.Controls.{AreAgreed, found_other, found_own}
use Rattle.psci_headline.proofs.Sending.{after_call, at_number, call_moves, CallerLaws}
use Rattle.psci_headline.proofs.Sending.{entry_moves, function_call, is_call, IsCallOf, IsListed}
use Rattle.psci_headline.proofs.Sending.{IsMoved, more_calls, runs_on}
use Rattle.psci_headline.proofs.Words.{◌++◌, ◌<◌, ◌==◌, ◌∙◌, ◌∷◌, ◌≡◌, ◌≤◌, [], Absent}
use Rattle.psci_headline.proofs.Words.{Acknowledges, acks, AckValue, Act, AgreeIn, and_parts}
use Rattle.psci_headline.proofs.Words.{and_right, ap, arith, Arrival, arrived, BoardValue, Bool}
use Rattle.psci_headline.proofs.Words.{Call, call, call_fault, cases_eq, change, cond}
use Rattle.psci_headline.proofs.Words.{cond-false, controller_values, cores, Effect, effect}
use Rattle.psci_headline.proofs.Words.{Enter, enter_effect, enter_fault, entered, Enters}
use Rattle.psci_headline.proofs.Words.{enters_or_resumes, enters_or_resumes_by, eqb-false}
use Rattle.psci_headline.proofs.Words.{eqb-true, Event, executes_on, false, firmware_history}
use Rattle.psci_headline.proofs.Words.{firmware_values, found_life, function_ends, Fw}
use Rattle.psci_headline.proofs.Words.{FwExchange, FwFault, in_life, indexed, IsAllowed, IsLegal}
use Rattle.psci_headline.proofs.Words.{last_start, List, listed, lt-ltb, MessageValue, nat_lt}
use Rattle.psci_headline.proofs.Words.{nat_tests, ne_eqb, None, not, Nothing, Option, Outcome}
use Rattle.psci_headline.proofs.Words.{outcome_ends, outcome_in, outcome_of, place, Place}
use Rattle.psci_headline.proofs.Words.{place_after, Record, refl, Regs, reply_or, Request}
use Rattle.psci_headline.proofs.Words.{request_of, Running, Said, Sent, Smc, Some, Start}
use Rattle.psci_headline.proofs.Words.{Started, Stopped, subst, sym, Take, Taken, took, true}
use Rattle.psci_headline.proofs.Words.{true≢false, unwrap_or, Values, values_of, ℕ}

-- A function returns to its caller or stops it: none is answered as a core that enters ------------

-- this outcome is no entry
abbrev Ends : Outcome → Type 0
Ends o = enters_or_resumes_by o.act ≡ false

no_entry : (b : BoardValue) (v : Values) (c : ℕ) (r : Request) → Ends (outcome_of b v c r)
no_entry b v c r =
    outcome_ends Ends b v c r (λ halts. refl)
    (λ awake. function_ends Ends b v c r (λ code. refl) (λ m. refl)
    (λ word entry_point context m is. refl))

by_fault : (b : BoardValue) (v : Values) (c : ℕ) (r : Request) (o : Outcome) (f : Option FwFault)
    → replies.Out o ≡ reply_or f (outcome_of b v c r) → Ends o
by_fault b v c r o f e = grind (arith, nat_tests, no_entry)

-- what a call is answered is no entry
pub call_ends : (b : BoardValue) (v : Values) (c : ℕ) (regs : Regs) (o : Outcome)
    → replies.Out o ≡ answer b v c (Smc regs) → enters_or_resumes_by o.act ≡ false
unfolding answer
call_ends b v c regs o e = by_fault b v c (request_of regs) o (call_fault b v c) e

-- Placing -----------------------------------------------------------------------------------------
-- What firmware and power controller know of each other, as a core calls or enters, and as an
-- acknowledgement is taken.

-- Phases and places ----------------------------------------------------------------------------

-- the places after an act of a core
abbrev pub acted : (ℕ → Place) → ℕ → Act → ℕ → Place
acted place c act x = unwrap_or (cond (x == c) (Some (place_after act)) None) (place x)

-- One core acts --------------------------------------------------------------------------------

-- a core acted that has no start that is not known then
moved : (b : BoardValue) (starts : ℕ → ℕ) (place : ℕ → Place) (v w : Values) (c : ℕ) (act : Act)
    → AgreeIn b starts place v → IsMoved v w c (starts c) (executes_on act)
    → AgreeIn b starts (acted place c act) w
moved b starts place v w c act h m = grind (arith, nat_tests, cases_eq, eqb-true, eqb-false)

-- Calls ----------------------------------------------------------------------------------------

-- the life of a core that runs is the firmware's
pub own_life : (b : BoardValue) (life : ℕ) (v : Values) (c : ℕ)
    → (in_life b life v).phase c ≡ phases.Running → life ≡ v.life
own_life b life v c runs = grind (arith, nat_tests, cases_eq, found_other)

pub call_agrees : (b : BoardValue) (u : controlled.Values) (place : ℕ → Place) (v : Values)
    (c : ℕ) (act : Act) (e : Effect) → CallerLaws b → c < cores b → place c ≡ Running
    → IsCallOf e c (executes_on act) → IsAllowed b v e → AreAgreed b u place v
    → AreAgreed b u (acted place c act) (change b e v)
call_agrees b u place v c act e laws on at is allowed h =
    grind (arith, nat_tests, runs_on, call_moves, own_life, found_own, cases_eq, moved)

-- Entries --------------------------------------------------------------------------------------

-- What a last start says.
pub record IsLast (u : controlled.Values) (c : ℕ) (s : Start) : Type 0 where
  pub life : u.life ≡ Some s.life
  pub number : s.number ≡ u.starts c

pub last_is : (u : controlled.Values) (c : ℕ) (s : Start) → last_start u c ≡ Some s
    → IsLast u c s
last_is u c s e = grind (arith, nat_tests)

pub enter_agrees : (b : BoardValue) (u : controlled.Values) (place : ℕ → Place) (v : Values)
    (c : ℕ) (s : Start) (act : Act) (o : Option MessageValue) → last_start u c ≡ Some s
    → AreAgreed b u place v
    → AreAgreed b u (acted place c act) (change b (enter_effect c s act o) v)
enter_agrees b u place v c s act o last h =
    grind (arith, nat_tests, last_is, entry_moves, found_life, found_own, moved)

-- Moves -------------------------------------------------------------------------------------------

-- What an effect says -------------------------------------------------------------------------

-- What the effect of an added exchange says: a core enters by its last start in the power
-- controller's life, and an acknowledgement was made before.
pub record IsOfRecord (v : controlled.Values) (made : List AckValue) (e : Effect) : Type 0 where
  pub starts : (a : Arrival) → arrived e ≡ Some a → IsLast v a.core a.start
  pub takes : (a : AckValue) → e ≡ Acknowledges a → IsListed made a

of_caller : (v : controlled.Values) (made : List AckValue) (e : Effect) → is_call e ≡ true
    → IsOfRecord v made e
of_caller v made e of = grind (arith, nat_tests)

-- What a record adds --------------------------------------------------------------------------

-- at most one exchange, which says that
abbrev pub IsAdded : BoardValue → controlled.Values → List AckValue → List FwExchange → Type 0
IsAdded b v made [] = Unit {0}
IsAdded b v made (e ∷ []) = IsOfRecord v made (effect b e)
IsAdded b v made (e ∷ f ∷ es) = ⊥

added_entered : (b : BoardValue) (v : controlled.Values) (made : List AckValue) (c : ℕ)
    (s : Option Start) (act : Act) (m : Option Sent) → last_start v c ≡ s
    → IsAdded b v made (entered c s (outcome_in act m))
added_entered b v made c s act m last = grind (arith, nat_tests, last_is)

added_took : (b : BoardValue) (v : controlled.Values) (made : List AckValue) (k : ℕ)
    (a : Option AckValue) (t : Taken) → indexed made k ≡ a → IsAdded b v made (took a t)
added_took b v made k a t at = grind (arith, nat_tests, at_number)

pub added : (b : BoardValue) (v : controlled.Values) (made : List AckValue) (event : Event)
    (said : Said) → IsAdded b v made (call v made event said)
added b v made (Call c regs) (Fw act m) = grind (arith, nat_tests, of_caller, function_call)
added b v made (Enter c) (Fw act m) = added_entered b v made c (last_start v c) act m refl
added b v made (Take k) (Took t) = added_took b v made k (indexed made k) t refl
added b v made event said = tt

-- Going on ------------------------------------------------------------------------------------

-- A core entered and goes on: the added exchange says so.
record EntersOrResumes (b : BoardValue) (c : ℕ) (es : List FwExchange) : Type 0 where
  pub start : Start
  pub entry : FwExchange
  pub adds : es ≡ entry ∷ []
  pub enters : effect b entry ≡ Enters c start

enters_by : (c : ℕ) (s : Start) (act : Act) (m : Option MessageValue)
    → enters_or_resumes_by act ≡ true
    → enter_effect c s act m ≡ Enters c s
enters_by c s act m e = grind (arith, nat_tests)

-- without a start nothing is said of an entry
not_started : (b : BoardValue) (past : List Record) (c : ℕ) (p : Place) (act : Act)
    (m : Option Sent) (t : Bool) → Fw act m ≡ cond t (if_started b past c p None) Absent → ⊥
not_started b past c p act m t e = grind (arith, nat_tests)

goes_at : (b : BoardValue) (past : List Record) (c : ℕ) (act : Act) (m : Option Sent)
    (s : Option Start) → Fw act m ≡ on_board b c (if_started b past c (place b past c) s)
    → enters_or_resumes_by act ≡ true → EntersOrResumes b c (entered c s (outcome_in act m))
goes_at b past c act m None is by =
    absurd (not_started b past c (place b past c) act m (nat_lt c (cores b)) is)
goes_at b past c act m (Some s) is by = record {
  start = s;
  entry = _;
  adds = refl;
  enters = enters_by c s act (outcome_in act m).message by;
}

goes : (b : BoardValue) (past : List Record) (c : ℕ) (event : Event) (said : Said)
    → said ≡ legal b past event → IsLegal b (after_call b past event said)
    → enters_or_resumes c event said ≡ true
    → EntersOrResumes b c (call (controller_values b past) (acks past) event said)
unfolding legal
goes b past c (Enter d) (Fw act m) is valid by =
    grind (arith, nat_tests, and_parts, eqb-true, goes_at)
goes b past c (Call d regs) (Fw act m) is valid by =
    grind (arith, nat_tests, and_parts, call_ends, true≢false)
goes b past c event said is valid by = absurd (cc)

-- Values --------------------------------------------------------------------------------------

-- What a record leaves of the firmware's values.
pub record Moves (b : BoardValue) (r : Record) (past : List Record) : Type 0 where
  pub effect : Effect
  pub allowed : IsAllowed b (firmware_values b past) effect
  pub values : firmware_values b (r ∷ past) ≡ change b effect (firmware_values b past)
  -- what was sent is what it says was sent
  pub sends : sent_messages b (firmware_history b (r ∷ past))
      ≡ listed (spoken.sent effect) ++ sent_messages b (firmware_history b past)
  pub says : IsOfRecord (controller_values b past) (acks past) effect
  -- a core that goes on enters by it
  pub goes : (c : ℕ) → enters_or_resumes c r.event r.said ≡ true
      → (s : Start) × (effect ≡ Enters c s)

-- What the firmware's laws say of its histories.
pub record FirmwareLaws (b : BoardValue) : Type 0 where
  pub allowed : (e : FwExchange) (h : List FwExchange) → IsLegal b (e ∷ h)
      → IsAllowed b (values_of b h) (effect b e)
  pub values : (e : FwExchange) (h : List FwExchange)
      → values_of b (e ∷ h) ≡ change b (effect b e) (values_of b h)

-- the entries that a record adds
abbrev added_by : BoardValue → Record → List Record → List FwExchange
added_by b r past = call (controller_values b past) (acks past) r.event r.said

by_added : (b : BoardValue) (r : Record) (past : List Record) (es : List FwExchange)
    → FirmwareLaws b
    → r.said ≡ legal b past r.event → IsLegal b (firmware_history b (r ∷ past))
    → added_by b r past ≡ es → IsAdded b (controller_values b past) (acks past) es
    → Moves b r past
unfolding sent_messages
by_added b r past [] laws is valid adds says = record {
  effect = Nothing;
  allowed = tt;
  values = grind (arith, nat_tests, more_calls);
  sends = grind (arith, nat_tests, more_calls);
  says = record { starts = λ a e. absurd (cc); takes = λ a e. absurd (cc) };
  goes = λ c by.
      let on = goes b past c r.event r.said is (subst (IsLegal b) (more_calls b r past) valid)
      by in
      let no : on.entry ∷ [] ≡ [] = sym on.adds ∙ adds in
      absurd (cc);
}
by_added b r past (e ∷ []) laws is valid adds says =
    let h = firmware_history b past in
    let more : firmware_history b (r ∷ past) ≡ e ∷ h = grind (arith, nat_tests, more_calls) in
    record {
      effect = effect b e;
      allowed = laws.allowed e h (subst (IsLegal b) more valid);
      values = ap (values_of b) more ∙ laws.values e h;
      sends = ap (sent_messages b) more;
      says = says;
      goes = λ c by.
          let on = goes b past c r.event r.said is
          (subst (IsLegal b) (more_calls b r past) valid) by in
          let same : on.entry ∷ [] ≡ e ∷ [] = sym on.adds ∙ adds in
          let one : on.entry ≡ e = cc in
          (on.start, ap (effect b) (sym one) ∙ on.enters);
    }
by_added b r past (e ∷ f ∷ es) laws is valid adds says = absurd says

pub moves : (b : BoardValue) (r : Record) (past : List Record) → FirmwareLaws b
    → r.said ≡ legal b past r.event → IsLegal b (firmware_history b (r ∷ past)) → Moves b r past
moves b r past laws is valid =
    by_added b r past (added_by b r past) laws is valid refl
    (added b (controller_values b past) (acks past) r.event r.said)

-- No core at its place is refused -----------------------------------------------------------------

-- The life of a core that is not stopped.
record IsAlive (u : controlled.Values) : Type 0 where
  pub life : ℕ
  pub is : u.life ≡ Some life

alive : (b : BoardValue) (u : controlled.Values) (place : ℕ → Place) (v : Values) (c : ℕ)
    → AreAgreed b u place v → (place c ≡ Stopped → ⊥) → IsAlive u
alive b u place v c h ne = grind (arith, nat_tests)

-- Calls ----------------------------------------------------------------------------------------

call_passes : (absent lifeless runs : Bool) → absent ≡ false → lifeless ≡ false → runs ≡ true
    → cond absent (Some faults.NoCore) (cond lifeless (Some faults.NoLife)
    (cond runs None (Some faults.NotRunning)))
    ≡ None
call_passes absent lifeless runs e f g = grind (arith, nat_tests)

-- a core of the board is there
there : (b : BoardValue) (c : ℕ) → c < cores b → not (nat_lt c (cores b)) ≡ false
there b c on = ap not (lt-ltb c (cores b) on)

pub call_passed : (b : BoardValue) (u : controlled.Values) (place : ℕ → Place) (v : Values)
    (c : ℕ) → controlling.AreValues b u → AreAgreed b u place v → c < cores b
    → place c ≡ Running → call_fault b v c ≡ None
call_passed b u place v c are h on at =
    let is : IsAlive u = grind (arith, nat_tests, alive) in
    let runs : (in_life b is.life v).phase c ≡ phases.Running = grind (arith, nat_tests) in
    let own : is.life ≡ v.life = own_life b is.life v c runs in
    let now : v.phase c ≡ phases.Running = grind (arith, nat_tests, found_own) in
    grind (arith, nat_tests, call_passes, there, ne_eqb)

-- Entries --------------------------------------------------------------------------------------

-- A start that is new to the core.
record IsNew (b : BoardValue) (v : Values) (c : ℕ) (s : Start) : Type 0 where
  pub begun : 0 < s.life
  pub lives : s.life ≤ b.lives
  pub life : v.life ≤ s.life
  pub some : 0 < s.number
  pub most : s.number ≤ b.starts
  pub later : s.life ≡ v.life → v.known c < s.number

new_passed : (b : BoardValue) (v : Values) (c : ℕ) (s : Start) → c < cores b → IsNew b v c s
    → enter_fault b v c s ≡ None
new_passed b v c s on new =
    grind (arith, nat_tests, there, or_from, ne_eqb, le-ltb, cases_eq, and_right, lt-leb, and_left)

pub enter_passed : (b : BoardValue) (u : controlled.Values) (place : ℕ → Place) (v : Values)
    (c : ℕ) → controlling.AreValues b u → AreAgreed b u place v → c < cores b
    → place c ≡ Started
    → (s : Start) × (last_start u c ≡ Some s) × (enter_fault b v c s ≡ None)
enter_passed b u place v c are h on at =
    let is : IsAlive u = grind (arith, nat_tests, alive) in
    let waits : (in_life b is.life v).known c < u.starts c = grind (arith, nat_tests) in
    let s : Start = record { life = is.life; number = u.starts c; cause = u.cause c } in
    let last : last_start u c ≡ Some s =
    ap (λ (o : Option ℕ). start_shown o (u.starts c) (u.cause c)) is.is
    ∙ cond-false (u.starts c == 0) None (Some s)
    (ne_eqb (u.starts c) 0 (λ e. omega (arith, e, waits))) in (
      s,
      last,
      new_passed b v c s on (record {
        begun = are.first is.life is.is;
        lives = are.last is.life is.is;
        life = h.begun is.life is.is;
        some = omega (arith, waits);
        most = are.starts c;
        later = λ e. subst (λ (w : Values). w.known c < u.starts c) (found_own b is.life v e) waits;
      }),
    )
