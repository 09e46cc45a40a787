-- What a storm makes of a world: events that were drawn happen, and then the world settles.
use Rattle.std.specs.Prelude.{◌≡◌, ◌<◌, ◌⊎◌, ℕ, true, false, List, [], length}
use Rattle.psci_world.specs.psci_board.Board.{BoardValue}
use Rattle.psci_world.specs.Safe.{AlwaysSafe}
use Rattle.psci_world.specs.Settling.{is_halting, settled}
use Rattle.psci_world.specs.declared.settling.Settled.{Settled}
use Rattle.psci_world.specs.declared.settling.Settled.TheVariants.{Halting, Quiet}
use Rattle.psci_world.specs.Settles.{ComesToRest, IsOnTheWay}
use Rattle.psci_world.specs.psci_world_spec.declared.event.Event.{Event}
use Rattle.psci_world.specs.psci_world_spec.declared.said.Record.{Record}
use Rattle.psci_world.specs.psci_world_spec.Legal.{IsLegalPast, run_from, sent}
use Rattle.psci_storm.specs.declared.outcome.Storm.{Storm}

-- One past is the other after some events more, each with what is legal to say of it.
pub record HappensBy (b : BoardValue) (before after : List Record) : Type 0 where
  pub events : List Event
  pub run : after ≡ run_from b before events

-- The same after so many events.
pub record IsDrawn (b : BoardValue) (before : List Record) (count : ℕ)
    (after : List Record) : Type 0 where
  pub drawn : List Event
  pub many : length drawn ≡ count
  pub run : after ≡ run_from b before drawn

-- The world where memory ran out: before so many events had happened, or after them, on its way
-- to rest.
abbrev pub IsCutShort : BoardValue → List Record → ℕ → List Record → Type 0
IsCutShort b before count after =
    ((n : ℕ) × (n < count) × IsDrawn b before n after)
    ⊎ ((middle : List Record) × IsDrawn b before count middle × IsOnTheWay middle after
    × IsOnTheWay after (settled b middle).past)

-- The world after so many events, and once it has settled.
pub record IsBlown (b : BoardValue) (before : List Record) (count : ℕ) (after : List Record)
    (s : Settled) : Type 0 where
  -- where it stands when the last event has happened
  pub middle : List Record
  pub drawn : IsDrawn b before count middle
  -- a halting world stays as it is
  pub halting : is_halting b middle ≡ true → (s ≡ Halting) × (after ≡ middle)
  -- any other comes to rest, as settling has it
  pub quiet : is_halting b middle ≡ false
      → (s ≡ Quiet (settled b middle).rounds) × (after ≡ (settled b middle).past)
  pub rest : is_halting b middle ≡ false → ComesToRest b middle after s

-- A storm of so many events in a new world of the board: all records, the newest first, and what it
-- counts of them.
pub record IsStorm (b : BoardValue) (count : ℕ) (past : List Record) (storm : Storm) : Type 0 where
  pub blown : IsBlown b [] count past storm.settled
  pub events : storm.events ≡ length past
  pub sent : storm.sent ≡ length (sent past)
  pub legal : IsLegalPast b past
  pub safe : AlwaysSafe b past
