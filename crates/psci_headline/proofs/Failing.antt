-- Worked examples are stated so: what is not as it is at rest, or as it is once the world has
-- settled. Where something is not, `not_at_rest` and `not_settled` exclude it.
use Rattle.std.specs.Prelude.{◌++◌, ◌+◌, ◌==◌, ◌||◌, ◌∷◌, [], Bool, false, filter, is_some}
use Rattle.std.specs.Prelude.{length, List, None, not, Option, Some, take, ℕ}
use Rattle.psci_headline.proofs.Words.{BoardValue, cores, deliveries, Down, height, indexed}
use Rattle.psci_headline.proofs.Words.{is_kind, is_settling, is_started, list_all, list_any}
use Rattle.psci_headline.proofs.Words.{MessageValue, nat_le, nodes, OfCore, OfSystem}
use Rattle.psci_headline.proofs.Words.{range_with_len, run_from, sent}
use Rattle.psci_headline.specs.psci_world_spec.declared.event.Event.{Event}
use Rattle.psci_headline.specs.psci_world_spec.declared.said.Record.{Record}
use Rattle.psci_headline.specs.psci_world_spec.Legal.{controller_values, firmware_values, place}
use Rattle.psci_headline.proofs.Checking.{Steps, each, if_fails, past_from}

-- At rest -------------------------------------------------------------------------------------

-- What is said of a world at rest, each by itself.
pub data Clause : Type 0 where
  -- nothing is outstanding for a core; nothing is for the system
  Own : (core : ℕ) → Clause
  System : Clause
  -- a core does not wait at its start
  Entered : (core : ℕ) → Clause
  -- a domain is as deep as it was granted
  Agree : (level place : ℕ) → Clause

-- whether a domain is as deep as it was granted
abbrev pub is_agreed : BoardValue → List Record → ℕ → ℕ → Bool
is_agreed b past level place =
    (firmware_values b past).granted level place == (controller_values b past).depth level place

-- all that fails
abbrev pub failing : BoardValue → List Record → List Clause
failing b past =
    each (λ c. if_fails (not (is_some ((firmware_values b past).outstanding (OfCore c)))) (Own c))
    (range_with_len 0 (cores b))
    ++ (if_fails (not (is_some ((firmware_values b past).outstanding OfSystem))) System
    ++ (each (λ c. if_fails (not (is_started (place b past c))) (Entered c))
    (range_with_len 0 (cores b))
    ++ each (λ level. each (λ at. if_fails (is_agreed b past level at) (Agree level at))
    (range_with_len 0 (nodes b level))) (range_with_len 0 (height b + 1))))

abbrev pub unrest_after : (BoardValue × List Steps) → List Clause
unrest_after (b, steps) = failing b (past_from b [] steps)

-- Settled -------------------------------------------------------------------------------------

-- What is said of a world that has settled after some records more, each by itself.
pub data Saying : Type 0 where
  -- these records are entries, deliveries and takes alone
  Events : Saying
  -- the world is at rest
  Rest : (clauses : List Clause) → Saying
  -- there is at most one round for each level
  Few : Saying
  -- no Down is delivered more often than there are rounds
  Most : Saying
  -- if there is a round, some Down is delivered as often as there are rounds
  Reached : Saying

-- whether the message of some number is a Down
abbrev pub is_down : Option MessageValue → Bool
is_down None = false
is_down (Some m) = is_kind m.kind Down

-- the numbers of all messages that are Downs
abbrev pub downs : List Record → List ℕ
downs past =
    filter (λ k. is_down (indexed (sent past) k)) (range_with_len 0 (length (sent past)))

-- the world is not at rest
abbrev pub if_some : List Clause → List Saying
if_some [] = []
if_some (k ∷ ks) = Rest (k ∷ ks) ∷ []

-- the records that these events add to those before
abbrev pub added_by : BoardValue → List Record → List Event → List Record
added_by b before events =
    take (length events) (run_from b before events)

-- all that fails
abbrev pub unsettled : BoardValue → List Record → List Record → ℕ → List Saying
unsettled b before added rounds =
    if_fails (list_all (λ r. is_settling r.event) added) Events
    ++ (if_some (failing b (added ++ before))
    ++ (if_fails (nat_le rounds (height b + 1)) Few
    ++ (if_fails (list_all (λ k. nat_le (deliveries k added) rounds) (downs (added ++ before))) Most
    ++ if_fails (rounds == 0 || list_any (λ k. deliveries k added == rounds)
    (downs (added ++ before))) Reached)))

-- all that fails where these events come after those, with so many rounds
abbrev pub unsettled_after : (BoardValue × List Event × List Event × ℕ) → List Saying
unsettled_after (b, first, more, rounds) =
    let before : List Record = run_from b [] first in
    unsettled b before (added_by b before more) rounds
