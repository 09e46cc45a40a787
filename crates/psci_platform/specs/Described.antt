-- The description of a platform.
use Rattle.std.specs.Prelude.{ℕ, List}
use Rattle.psci_platform.specs.declared.class.Class.{Class}
use Rattle.psci_platform.specs.declared.functions.Functions.{Functions}
use Rattle.psci_platform.specs.declared.row.Row.{Row}

-- A description as contracts see it.
pub record DescriptionValue : Type 0 where
  -- the MPIDR of each core, in the order of the board's tree
  pub mpidrs : List ℕ
  -- how many levels above the cores can be taken down
  pub levels : ℕ
  -- the class of each state, by level and number
  pub classes : List (List Class)
  -- the power state words
  pub rows : List Row
  -- what SYSTEM_SUSPEND asks of each level
  pub system : List ℕ
  -- the functions that are there
  pub functions : Functions
  -- the reset types of the vendor
  pub resets : List ℕ
