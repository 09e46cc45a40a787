-- What the power controller is seen as: the board, and what it keeps, core by core and domain by
-- domain.
use Rattle.std.specs.Prelude.{◌≡◌, ℕ, Bool, true, false, List, length, Option, Some}
use Rattle.psci_board.specs.Board.{BoardValue, IsBoard, cores}
use Rattle.psci_ctl_spec.specs.History.{AreValues}
use Rattle.psci_ctl_spec.specs.Values.{Values}
use Rattle.psci_ctl.specs.declared.row.CoreRow.{CoreRow}
use Rattle.psci_ctl.specs.declared.done.Done.{Done}
use Rattle.psci_ctl.specs.declared.level.DomainRow.{DomainRow}
use Rattle.psci_ctl.specs.Rows.{HasRows, HasSums, values_in}

-- A power controller as contracts see it.
pub record ControllerValue : Type 0 where
  pub board : BoardValue
  -- none once the system is off
  pub life : Option ℕ
  -- of each core, in the order of their numbers
  pub cores : List CoreRow
  -- of each domain, by level and place
  pub domains : List (List DomainRow)

-- the values in a power controller
abbrev pub seen : ControllerValue → Values
seen c = values_in c.life c.cores c.domains

-- what holds of every power controller: it has a row for each core and each domain, its values are
-- such as one keeps, and in a life each domain's row has the sum of the starts below
pub record IsController (c : ControllerValue) : Type 0 where
  pub board : IsBoard c.board
  pub cores : length c.cores ≡ cores c.board
  pub shape : HasRows c.board c.domains
  pub values : AreValues c.board (seen c)
  pub sums : (life : ℕ) → c.life ≡ Some life → HasSums c.board c.cores c.domains

-- what a call leaves: these values, of the same board
pub record Leaves (old new : ControllerValue) (left : Values) : Type 0 where
  pub board : new.board ≡ old.board
  pub values : seen new ≡ left

-- what was done with a message: how much of it, and whether it is out of date
abbrev pub done : ℕ → Bool → Done
done applied stale = record { applied = applied; stale = stale }

-- a Start is carried out where the test holds, and else out of date
abbrev pub start_done : Bool → Done
start_done true = done 1 false
start_done false = done 0 true
