-- The power of a guest: what its methods answer, turn by turn.
use Rattle.std.specs.Prelude.{◌≡◌, List, ◌∷◌, Option, Some}
use Rattle.psci_board.specs.Board.{BoardValue}
use Rattle.psci_world_spec.specs.declared.said.Record.{Record}
use Rattle.psci_world_spec.specs.Legal.{controller_values, legal}
use Rattle.psci_guest.specs.declared.arrival.Arrival.{Arrival}
use Rattle.psci_guest.specs.declared.turned.Turned.{Turned}
use Rattle.psci_guest.specs.Arrivals.{AreArrivals, kept_after, Says}
use Rattle.psci_guest.specs.Pair.{PairValue, board_of, kept_by}
use Rattle.psci_guest.specs.Turns.{Turn, event_of, exchange, turn, turns}

-- What is kept is that of these records.
pub record Keeps (b : BoardValue) (past : List Record) (p : PairValue) : Type 0 where
  pub board : board_of p ≡ b
  pub kept : kept_by p ≡ kept_after b past

-- the machine after these turns, newest first
abbrev pub IsAfter : BoardValue → List Turn → PairValue → Type 0
IsAfter b ts p = Keeps b (turns b ts) p

-- What is told of a call.
pub record IsTold (b : BoardValue) (past : List Record) (t : Turn) (told : Turned) : Type 0 where
  pub says : Says (legal b past (event_of t)) told.outcome
  pub arrival : AreArrivals b (exchange b past (event_of t)) told.arrival
  pub life : told.life ≡ (controller_values b (turn b past t)).life

-- A turn was made, of which this is told.
pub record IsTurned (b : BoardValue) (ts : List Turn) (t : Turn) (new : PairValue)
    (result : Option Turned) : Type 0 where
  pub told : Turned
  pub is : result ≡ Some told
  pub tells : IsTold b (turns b ts) t told
  pub after : IsAfter b (t ∷ ts) new

-- A turn was made in which only an entry is told: of a wake-up event, or of a reset.
pub record IsKicked (b : BoardValue) (ts : List Turn) (t : Turn) (new : PairValue)
    (result : Option Arrival) : Type 0 where
  pub arrival : AreArrivals b (exchange b (turns b ts) (event_of t)) result
  pub after : IsAfter b (t ∷ ts) new
