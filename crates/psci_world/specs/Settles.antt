-- What settling makes of a past, and which messages it answers.
use Rattle.std.specs.List.{AllPass}
use Rattle.std.specs.Prelude.{◌++◌, ◌≡◌, Bool, List, reverse, ℕ}
use Rattle.psci_headline.specs.Settling.{is_any, is_settling, is_start, IsSettled}
use Rattle.psci_machine.specs.Seen.{IsPresent, machine_board, PresentValue}
use Rattle.psci_machine.specs.psci_board.Board.{BoardValue}
use Rattle.psci_machine.specs.psci_world_spec.Legal.{run_from}
use Rattle.psci_machine.specs.psci_world_spec.declared.event.Event.{Event}
use Rattle.psci_machine.specs.psci_world_spec.declared.said.Record.{Record}
use Rattle.psci_machine.specs.psci_world_spec.psci_messages.declared.kind.Kind.{Kind}
use Rattle.psci_world.specs.declared.settling.Which.{Which}
use Rattle.psci_world.specs.declared.settling.Which.TheVariants.{All, Starts}
use Rattle.psci_world.specs.declared.settling.Settled.{Settled}
use Rattle.psci_world.specs.declared.settling.Settled.TheVariants.{Quiet}

-- What the world is seen as, and what holds of it -------------------------------------------------

-- The world, as contracts see it: its board, and all records, newest first.
pub record WorldValue : Type 0 where
  pub board : BoardValue
  pub past : List Record

-- what holds of every world: its present is that after its records, which stand oldest first
abbrev pub IsWorld : PresentValue → List Record → Type 0
IsWorld p records = IsPresent (machine_board p.machine) (reverse records) p

-- Settles -----------------------------------------------------------------------------------------

-- One past is the other after some events more: entries, deliveries and taken acknowledgements
-- alone, each with what is legal to say of it.
pub record SettlesBy (b : BoardValue) (before after : List Record) : Type 0 where
  pub events : List Event
  pub run : after ≡ run_from b before events
  pub settling : AllPass is_settling events

-- One past is on the way to the other: it is the other after some records more, or none.
abbrev pub IsOnTheWay : List Record → List Record → Type 0
IsOnTheWay past whole = (more : List Record) × (whole ≡ more ++ past)

-- the kinds of messages that are answered
abbrev pub serves_kind : Which → Kind → Bool
serves_kind Starts kind = is_start kind
serves_kind All kind = is_any kind

-- The world came to rest: it settled after some records more, and says in how many rounds.
pub record ComesToRest (b : BoardValue) (before after : List Record) (s : Settled) : Type 0 where
  pub rounds : ℕ
  pub added : List Record
  pub quiet : s ≡ Quiet rounds
  pub more : after ≡ added ++ before
  pub settled : IsSettled b before added rounds
