-- Worked examples are stated so: a run that is safe at every moment, and a moment at which just one
-- thing is not as it shall be.
use Rattle.std.proofs.Common.{map}
use Rattle.psci_board.specs.declared.draft.Core.{Core}
use Rattle.psci_board.proofs.Tables.{Row}
use Rattle.psci_ctl_spec.specs.psci_messages.declared.kind.Kind.TheVariants as kinds
use Rattle.psci_world_spec.specs.Legal.{run_from}
use Rattle.psci_world_spec.proofs.Scripts as scripts
use Rattle.psci_fw_laws.specs.psci_board.Board.{BoardValue}
use Rattle.psci_headline.specs.Safe.{claims, live_claims, openings, taken_up, was_in_state}
use Rattle.psci_headline.specs.Safe.{was_powered_down}
use Rattle.psci_headline.proofs.Words.{◌++◌, ◌<◌, ◌∙◌, ◌∷◌, ◌≡◌, [], ap, arith, Bool, changed}
use Rattle.psci_headline.proofs.Words.{Clear, cond-false, cond-true, eq-eqb, Event, false}
use Rattle.psci_headline.proofs.Words.{is_always_safe, is_asked, is_each_once, is_each_open}
use Rattle.psci_headline.proofs.Words.{is_each_real, is_off_down, is_off_stopped, is_one}
use Rattle.psci_headline.proofs.Words.{is_powered, is_safe, is_system, Kind, List, MessageValue}
use Rattle.psci_headline.proofs.Words.{nat_tests, ne_eqb, OfCore, OfSystem, Option, Put, Record}
use Rattle.psci_headline.proofs.Words.{Said, Slot, slot_of, Some, true, ℕ}

-- what an example unfolds to compute the tests of a moment
unfoldable pub computing : Unit {0}
unfolding scripts.computing claims live_claims was_powered_down openings taken_up was_in_state
computing = tt

-- Safe runs -----------------------------------------------------------------------------------

-- the world is safe before and after each event of each of these runs
abbrev pub AreSafe : BoardValue → List (List Event) → Type 0
AreSafe b runs =
    map (λ events. is_always_safe b (run_from b [] events)) runs ≡ map (λ events. true) runs

-- Tables of what fails ------------------------------------------------------------------------

-- On a board nothing fails in a row of a table, or just this, or just these.
abbrev pub Holds : {A K : Type 0} → BoardValue → A → Row (BoardValue × A) (List K)
Holds b x = record { given = (b, x); comes = [] }

abbrev pub Breaks : {A K : Type 0} → K → BoardValue → A → Row (BoardValue × A) (List K)
Breaks k b x = record { given = (b, x); comes = k ∷ [] }

abbrev pub BreakAll : {A K : Type 0} → List K → BoardValue → A → Row (BoardValue × A) (List K)
BreakAll ks b x = record { given = (b, x); comes = ks }

-- what each of these has, as the rows of each of some cases
abbrev pub each : {A B : Type 0} → (A → List B) → List A → List B
each of [] = []
each of (x ∷ xs) = of x ++ each of xs

-- what is so of each of four cores is so of every core of a board of four
pub by_core : (P : ℕ → Type 0) → P 0 → P 1 → P 2 → P 3 → (c : ℕ) → c < 4 → P c
by_core P p q r s c on = grind (arith, nat_tests)

-- Unsafe moments ------------------------------------------------------------------------------

infix 80 ◌⇒◌
-- Steps of a run: events of which that is said which is legal, or one of which this is said.
pub data Steps : Type 0 where
  Legal : (events : List Event) → Steps
  ◌⇒◌ : (event : Event) (said : Said) → Steps

-- the records after these steps, the first step first
abbrev pub past_from : BoardValue → List Record → List Steps → List Record
past_from b past [] = past
past_from b past (Legal events ∷ steps) = past_from b (run_from b past events) steps
past_from b past ((event ⇒ said) ∷ steps) =
    past_from b (record { event = event; said = said } ∷ past) steps

-- What is said of a moment, each by itself.
pub data Clause : Type 0 where
  Powered : Clause
  Stopped : Clause
  PoweredDown : Clause
  One : Clause
  Asked : Clause
  Open : Clause
  Once : Clause
  Real : Clause

-- this one, if its test fails
abbrev pub if_fails : {A : Type 0} → Bool → A → List A
if_fails true k = []
if_fails false k = k ∷ []

-- all whose tests fail
abbrev pub failing : BoardValue → List Record → List Clause
failing b past =
    if_fails (is_powered b past) Powered
    ++ (if_fails (is_off_stopped b past) Stopped
    ++ (if_fails (is_off_down b past) PoweredDown
    ++ (if_fails (is_one b past) One
    ++ (if_fails (is_asked b past) Asked
    ++ (if_fails (is_each_open b past) Open
    ++ (if_fails (is_each_once b past) Once
    ++ if_fails (is_each_real b past) Real))))))

abbrev pub failing_after : (BoardValue × List Steps) → List Clause
failing_after (b, steps) = failing b (past_from b [] steps)

-- so after such steps the world is not safe
pub broken : (b : BoardValue) (past : List Record) (k : Clause) (ks : List Clause)
    → failing b past ≡ k ∷ ks → is_safe b past ≡ false
broken b past k ks = grind (arith, nat_tests)

-- after these steps the world is safe, but it was not at each moment before
abbrev pub WasUnsafe : BoardValue → List Steps → Type 0
WasUnsafe b steps =
    let past = past_from b [] steps in (is_safe b past ≡ true) × (is_always_safe b past ≡ false)

-- What a change leaves in the slot of a core ------------------------------------------------------

-- the slot of a message that is sent has it
pub put_here : (outstanding : Slot → Option MessageValue) (m : MessageValue) (c : ℕ)
    → slot_of m.kind m.core ≡ OfCore c
    → changed (OfCore c) (Put m) (outstanding (OfCore c)) ≡ Some m
put_here outstanding m c e = grind (arith, nat_tests, cond-true, eq-eqb)

-- another core's slot is as before
pub put_there : (outstanding : Slot → Option MessageValue) (m : MessageValue) (c x : ℕ)
    → slot_of m.kind m.core ≡ OfCore c → (x ≡ c → ⊥)
    → changed (OfCore x) (Put m) (outstanding (OfCore x)) ≡ outstanding (OfCore x)
put_there outstanding m c x e ne = grind (arith, nat_tests, cond-false, ne_eqb)

-- a message for the system leaves each core's slot
pub put_system : (outstanding : Slot → Option MessageValue) (m : MessageValue) (x : ℕ)
    → slot_of m.kind m.core ≡ OfSystem
    → changed (OfCore x) (Put m) (outstanding (OfCore x)) ≡ outstanding (OfCore x)
put_system outstanding m x e = grind (arith, nat_tests, cond-false)

-- a core that enters leaves another core's slot
pub clear_there : (outstanding : Slot → Option MessageValue) (c x : ℕ) → (x ≡ c → ⊥)
    → changed (OfCore x) (Clear (record { number = c })) (outstanding (OfCore x))
    ≡ outstanding (OfCore x)
clear_there outstanding c x ne = grind (arith, nat_tests, cond-false, ne_eqb)

-- the slots of kinds
pub system_slot : (k : Kind) (core : Core) → is_system k ≡ true → slot_of k core ≡ OfSystem
system_slot k core e = grind (arith, nat_tests)

pub core_slot : (k : Kind) (core : Core) → is_system k ≡ false → slot_of k core ≡ OfCore core.number
core_slot k core e = grind (arith, nat_tests)

pub down_slot : (k : Kind) (core : Core) (c : ℕ) → k ≡ kinds.Down → core.number ≡ c
    → slot_of k core ≡ OfCore c
down_slot k core c kind own = ap (λ x. slot_of x core) kind ∙ ap OfCore own
