-- What is so after a started core has entered, and once all have and each Start was served.
use Rattle.psci_ctl_spec.specs.psci_messages.declared.kind.Kind.TheVariants as kinds
use Rattle.psci_fw_laws.specs.psci_fw_spec.Answer.{enter_outcome}
use Rattle.psci_headline.specs.psci_fw_spec.Answer.{answer}
use Rattle.psci_headline.specs.psci_fw_spec.Effects as firmware
use Rattle.psci_headline.specs.psci_fw_spec.History as remembers
use Rattle.psci_headline.specs.psci_fw_spec.declared.call.FwCall.TheVariants as calls
use Rattle.psci_headline.specs.psci_fw_spec.declared.reply.FwReply.TheVariants as replies
use Rattle.psci_headline.specs.psci_world_spec.Legal.{controller_history, firmware_history}
use Rattle.psci_headline.specs.psci_world_spec.Legal.{legal, place, sent, sent_as}
use Rattle.psci_headline.proofs.Agreed.{RunLaws}
use Rattle.psci_headline.proofs.Controls.{found_own}
use Rattle.psci_headline.proofs.Serving.{AreAdded, numbered_old, one_added}
use Rattle.psci_headline.proofs.Sending.{EnterSends, entry_moves, entry_sends}
use Rattle.psci_headline.proofs.Moves.{last_is}
use Rattle.psci_headline.proofs.Nexts.{SettleLaws}
use Rattle.psci_headline.proofs.Words.{◌++◌, ◌+◌, ◌<◌, ◌==◌, ◌∙◌, ◌∷◌, ◌≡◌, ◌≤◌, ◌⊎◌, Act, ap}
use Rattle.psci_headline.proofs.Words.{arith, BoardValue, cases_lt, change, cond, cond-false}
use Rattle.psci_headline.proofs.Words.{cond-true, controller_values, cores, deliveries}
use Rattle.psci_headline.proofs.Words.{each_core, Enter, enter_effect, entering, eq-eqb, false}
use Rattle.psci_headline.proofs.Words.{firmware_values, Fw, in_life, indexed, IsAllowed, IsLegal}
use Rattle.psci_headline.proofs.Words.{IsLegalPast, last_start, length, List, listed, lt-ltb}
use Rattle.psci_headline.proofs.Words.{MessageValue, nat_tests, ne_eqb, None, NoneRefused}
use Rattle.psci_headline.proofs.Words.{OfCore, Option, option_map, Outcome, outcome_in}
use Rattle.psci_headline.proofs.Words.{place_after, place_said, range_with_len, Record, refl}
use Rattle.psci_headline.proofs.Words.{Sent, sent_in, Some, Start, Started, step, subst, suc}
use Rattle.psci_headline.proofs.Words.{sym, unwrap_or, Values, zero, ℕ}
use Rattle.psci_headline.proofs.fw_laws.Following.{found_life}
use Rattle.psci_headline.proofs.world_spec.Answered.{firmware_legal}

-- What holds after a step of each core in turn ----------------------------------------------------

-- What a step of a core does: something that holds stays, what was to be done for the core is done,
-- and what was to be done or is done for another core stays.
pub record IsStep (does : List Record → ℕ → List Record) (n : ℕ) (Holds : List Record → Type 0)
    (Todo Done : ℕ → List Record → Type 0) : Type 0 where
  pub keeps : (past : List Record) (c : ℕ) → c < n → Holds past → Holds (does past c)
  pub todo : (past : List Record) (c x : ℕ) → c < n → (x ≡ c → ⊥) → Holds past → Todo c past
      → Todo x past → Todo x (does past c)
  pub done : (past : List Record) (c x : ℕ) → c < n → (x ≡ c → ⊥) → Holds past → Todo c past
      → Done x past → Done x (does past c)
  pub here : (past : List Record) (c : ℕ) → c < n → Holds past → Todo c past
      → Done c (does past c)

-- What holds after such a step of each core.
pub record AreDone (n : ℕ) (Holds : List Record → Type 0) (Done : ℕ → List Record → Type 0)
    (past : List Record) : Type 0 where
  pub holds : Holds past
  pub done : (c : ℕ) → c < n → Done c past

from_core : (does : List Record → ℕ → List Record) (n : ℕ) (Holds : List Record → Type 0)
    (Todo Done : ℕ → List Record → Type 0) → IsStep does n Holds Todo Done
    → (a rest : ℕ) (past : List Record) → a + rest ≡ n → Holds past
    → ((c : ℕ) → a ≤ c → c < n → Todo c past) → ((c : ℕ) → c < a → Done c past)
    → AreDone n Holds Done (each_core does (range_with_len a rest) past)
from_core does n Holds Todo Done laws a zero past all holds todo done = grind (arith, nat_tests)
from_core does n Holds Todo Done laws a (suc rest) past all holds todo done =
    grind (
      arith,
      nat_tests,
      cases_lt,
      from_core does n Holds Todo Done laws (a + 1) rest (does past a),
    )

pub each_done : (does : List Record → ℕ → List Record) (n : ℕ) (Holds : List Record → Type 0)
    (Todo Done : ℕ → List Record → Type 0) → IsStep does n Holds Todo Done
    → (past : List Record) → Holds past → ((c : ℕ) → c < n → Todo c past)
    → AreDone n Holds Done (each_core does (range_with_len 0 n) past)
each_done does n Holds Todo Done laws past holds todo = grind (arith, nat_tests, from_core)

-- Beginning ---------------------------------------------------------------------------------------

-- Effects --------------------------------------------------------------------------------------

-- an entry leaves the life halting, or not, as the core found it
pub entry_halting : (b : BoardValue) (v : Values) (c : ℕ) (s : Start) (act : Act)
    (o : Option MessageValue)
    → (change b (enter_effect c s act o) v).halting ≡ (in_life b s.life v).halting
entry_halting b v c s act o = grind (arith, nat_tests)

-- and leaves no Start outstanding that was not
pub entry_slots : (b : BoardValue) (v : Values) (c : ℕ) (s : Start) (act : Act)
    (o : Option MessageValue) (x : ℕ) (m : MessageValue) → IsAllowed b v (enter_effect c s act o)
    → (change b (enter_effect c s act o) v).outstanding (OfCore x) ≡ Some m
    → m.kind ≡ kinds.Start → (in_life b s.life v).outstanding (OfCore x) ≡ Some m
entry_slots b v c s act o x m allowed e start = grind (arith, nat_tests)

-- The record -----------------------------------------------------------------------------------

-- What is said of an entry of a started core.
record HasOutcome (b : BoardValue) (past : List Record) (c : ℕ) : Type 0 where
  pub start : Start
  pub last : last_start (controller_values b past) c ≡ Some start
  pub act : Act
  pub sends : Option Sent
  pub said : legal b past (Enter c) ≡ Fw act sends
  -- and of what is sent
  pub ends : EnterSends c start (outcome_in act sends)

has_outcome : (b : BoardValue) (past : List Record) (c : ℕ) → NoneRefused b past → c < cores b
    → place b past c ≡ Started → HasOutcome b past c
unfolding legal answer
has_outcome b past c free on at =
    let may = free.enters c on at in
    let start : Start = may.0 in
    let v : Values = firmware_values b past in
    let o : Outcome = enter_outcome b v c start in
    record {
      start = start;
      last = may.1;
      act = o.act;
      sends = sent_as (length (sent past)) o.message;
      said = grind (arith, nat_tests, cond-true, lt-ltb);
      ends = grind (arith, nat_tests, entry_sends);
    }

-- What is so after an entry of a started core.
pub record HaveArrived (b : BoardValue) (past : List Record) (c : ℕ) : Type 0 where
  pub start : Start
  pub last : last_start (controller_values b past) c ≡ Some start
  pub act : Act
  pub message : Option MessageValue
  pub firmware : firmware_values b (step b past (Enter c))
      ≡ change b (enter_effect c start act message) (firmware_values b past)
  pub allowed : IsAllowed b (firmware_values b past) (enter_effect c start act message)
  pub sent : sent (step b past (Enter c)) ≡ listed message ++ sent past
  pub sends : EnterSends c start (record { act = act; message = message })
  pub here : place b (step b past (Enter c)) c ≡ Started → ⊥
  pub there : (x : ℕ) → (x ≡ c → ⊥) → place b (step b past (Enter c)) x ≡ place b past x

not_started : (act : Act) → place_after act ≡ Started → ⊥
not_started act e = grind (arith, nat_tests)

pub arrives : (b : BoardValue) (past : List Record) (c : ℕ) → RunLaws b → IsLegalPast b past
    → NoneRefused b past → c < cores b → place b past c ≡ Started → HaveArrived b past c
unfolding firmware_history sent place
arrives b past c laws is free on at = record {
  start = out.start;
  last = out.last;
  act = out.act;
  message = message;
  firmware = ap (remembers.values_of b) more ∙ laws.change entry h;
  allowed = laws.allowed entry h (subst (IsLegal b) more
      (firmware_legal b (step b past (Enter c)) (refl, is)));
  sent = ap (λ s. listed (sent_in s) ++ sent past) out.said;
  sends = out.ends;
  here = λ e. grind (arith, nat_tests, not_started, out, cond-true, eq-eqb, said_place);
  there = λ x ne. grind (arith, nat_tests, said_place, cond-false, ne_eqb);
}
  where
    out : HasOutcome b past c
    out = has_outcome b past c free on at

    h : List firmware.FwExchange
    h = firmware_history b past

    message : Option MessageValue
    message = option_map (λ s. s.message) out.sends

    entry : firmware.FwExchange
    entry = record {
      core = c;
      call = calls.Enter out.start;
      reply = replies.Out (outcome_in out.act out.sends);
    }

    more : firmware_history b (step b past (Enter c)) ≡ entry ∷ h
    more = grind (arith, nat_tests, h, out)

    said_place : (x : ℕ) → place b (step b past (Enter c)) x
        ≡ unwrap_or (cond (x == c) (Some (place_after out.act)) None) (place b past x)
    said_place x = ap (λ s. unwrap_or (place_said x (Enter c) s) (place b past x)) out.said

-- an entry leaves the controller as it is
pub same_control : (b : BoardValue) (past : List Record) (c : ℕ)
    → controller_values b (step b past (Enter c)) ≡ controller_values b past
unfolding controller_history
same_control b past c = refl

-- and each message its number
pub same_numbers : (past : List MessageValue) (o : Option MessageValue) (k : ℕ) (m : MessageValue)
    → indexed past k ≡ Some m → indexed (listed o ++ past) k ≡ Some m
same_numbers past o k m e = grind (arith, nat_tests, numbered_old)

-- The beginning --------------------------------------------------------------------------------

-- The Start of this number was sent.
pub record IsStartAt (messages : List MessageValue) (k : ℕ) : Type 0 where
  pub message : MessageValue
  pub at : indexed messages k ≡ Some message
  pub kind : message.kind ≡ kinds.Start

-- What stays so from the beginning on: the life goes on, and only Starts were delivered.
pub record IsUnderWay (b : BoardValue) (before : List Record) (life : ℕ) (past : List Record)
    : Type 0 where
  pub legal : IsLegalPast b past
  pub added : AreAdded before past
  pub present : (controller_values b past).life ≡ Some life
  pub awake : (in_life b life (firmware_values b past)).halting ≡ false
  pub count : (j : ℕ) → (deliveries j past ≡ deliveries j before) ⊎ IsStartAt (sent past) j

-- a core has entered, or was not started
abbrev pub HasEntered : BoardValue → ℕ → List Record → Type 0
HasEntered b c past = place b past c ≡ Started → ⊥

-- no Start is outstanding for a core
abbrev pub HasNoStart : BoardValue → ℕ → List Record → Type 0
HasNoStart b c past = (m : MessageValue)
    → (firmware_values b past).outstanding (OfCore c) ≡ Some m → m.kind ≡ kinds.Start → ⊥

-- Entries --------------------------------------------------------------------------------------

-- What is so after the entry of a started core in this life.
pub record IsIn (b : BoardValue) (before : List Record) (life : ℕ) (past : List Record) (c : ℕ)
    : Type 0 where
  pub way : IsUnderWay b before life (step b past (Enter c))
  pub own : (firmware_values b (step b past (Enter c))).life ≡ life
  pub slots : (x : ℕ) (m : MessageValue)
      → (firmware_values b (step b past (Enter c))).outstanding (OfCore x) ≡ Some m
      → m.kind ≡ kinds.Start
      → (in_life b life (firmware_values b past)).outstanding (OfCore x) ≡ Some m
  pub here : HasEntered b c (step b past (Enter c))
  pub there : (x : ℕ) → (x ≡ c → ⊥) → HasEntered b x past → HasEntered b x (step b past (Enter c))

pub more_starts : (messages : List MessageValue) (k : ℕ)
    → IsStartAt messages k → (now : List MessageValue)
    → ((m : MessageValue) → indexed messages k ≡ Some m → indexed now k ≡ Some m)
    → IsStartAt now k
more_starts messages k is now keeps = grind (arith, nat_tests)

pub enters_in : (b : BoardValue) (before : List Record) (life : ℕ) (past : List Record) (c : ℕ)
    → SettleLaws b → IsUnderWay b before life past → c < cores b → place b past c ≡ Started
    → IsIn b before life past c
enters_in b before life past c laws way on at =
    let v : Values = firmware_values b past in
    let w : Values = firmware_values b (step b past (Enter c)) in
    let is : HaveArrived b past c = grind (arith, nat_tests, arrives) in
    let same : is.start.life ≡ life = grind (arith, nat_tests, last_is) in
    let own : w.life ≡ life = grind (arith, nat_tests, entry_moves, found_life) in
    let halting : w.halting ≡ (in_life b life v).halting =
    grind (arith, nat_tests, entry_halting) in
    record {
      way = grind (arith, nat_tests, one_added, same_control, found_own, more_starts, same_numbers);
      own = own;
      slots = λ x m e start.
          subst (λ l. (in_life b l v).outstanding (OfCore x) ≡ Some m) same
          (entry_slots b v c is.start is.act is.message x m is.allowed
          (sym (ap (λ (u : Values). u.outstanding (OfCore x)) is.firmware) ∙ e) start);
      here = is.here;
      there = λ x ne old e. old (sym (is.there x ne) ∙ e);
    }

-- what becomes of the records where a core enters, if it is started
entering_case : (b : BoardValue) (past : List Record) (c : ℕ) (P : List Record → Type 0)
    → (place b past c ≡ Started → P (step b past (Enter c))) → (HasEntered b c past → P past)
    → P (entering b past c)
entering_case b past c P in_now not_now = grind (arith, nat_tests)

-- so an entry of each core, if it is started, with whatever else it leaves
pub enter_step : (b : BoardValue) (before : List Record) (life : ℕ) (Kept : List Record → Type 0)
    → SettleLaws b
    → ((past : List Record) (c : ℕ) → IsUnderWay b before life past → Kept past
    → IsIn b before life past c → Kept (step b past (Enter c)))
    → IsStep (entering b) (cores b) (λ past. IsUnderWay b before life past × Kept past)
    (λ c past. Unit {0}) (λ c past. HasEntered b c past)
enter_step b before life Kept laws keeps = record {
  keeps = λ past c on holds.
      entering_case b past c (λ next. IsUnderWay b before life next × Kept next)
      (λ at.
      let is = enters_in b before life past c laws holds.0 on at in
      (is.way, keeps past c holds.0 holds.1 is)) (λ not. holds);
  todo = λ past c x on ne holds now other. tt;
  done = λ past c x on ne holds now other.
      entering_case b past c (λ next. HasEntered b x next)
      (λ at. (enters_in b before life past c laws holds.0 on at).there x ne other)
      (λ not. other);
  here = λ past c on holds now.
      entering_case b past c (λ next. HasEntered b c next)
      (λ at. (enters_in b before life past c laws holds.0 on at).here) (λ not. not);
}
