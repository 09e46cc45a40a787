-- What a platform keeps of its cores and power domains, so that none is searched among all.
use Rattle.std.specs.Prelude.{◌≡◌, ◌<◌, ◌*◌, ◌/◌, ◌%◌, ◌^◌, ◌==◌, ℕ, Bool, true, false, nat_lt}
use Rattle.std.specs.Prelude.{if◌then◌else◌, List}
use Rattle.std.specs.Prelude.{◌≤◌, Option, None, Some, IfSome, is_some, length, map, slice_get}
use Rattle.std.specs.Int.Bits.{bit_and}
use Rattle.std.specs.List.{All, Contains, list_all}
use Rattle.psci_board.specs.Board.{BoardValue, address, cores}
use Rattle.psci_platform.specs.Cores.{number_named}
use Rattle.psci_platform.specs.Described.{DescriptionValue}
use Rattle.psci_platform.specs.declared.names.Name.{Name}
use Rattle.psci_platform.specs.declared.names.Table.{Table}
use Rattle.psci_platform.specs.declared.ready.Ready.{Ready}
use Rattle.psci_platform.specs.States.{reading_of}

-- the number of the slot of these fields: bits of the upper half of a product
abbrev pub slot_of : ℕ → ℕ → ℕ → ℕ
slot_of factor mask fields = bit_and (fields * factor % 2 ^ 64 / 2 ^ 32) mask

-- a name, if it is of these fields
abbrev pub own_name : ℕ → Option Name → Option Name
own_name fields None = None
own_name fields (Some n) = if n.fields == fields then Some n else None

-- the name that the slot of these fields has, if it is theirs
abbrev pub name_in : List Name → ℕ → ℕ → ℕ → Option Name
name_in slots factor mask fields = own_name fields (slice_get slots (slot_of factor mask fields))

-- A name is that of the core which the MPIDRs with its fields name at this level, where the core at
-- this place boots.
pub record IsName (d : DescriptionValue) (b : BoardValue) (boot level : ℕ) (n : Name) : Type 0 where
  pub core : (mpidr : ℕ) → mpidr / 2 ^ (8 * level) ≡ n.fields
      → number_named d b boot mpidr level ≡ Some n.core.number
  pub word : n.word ≡ address b 0 n.core.number
  pub inside : n.core.number < cores b

-- each slot has one of the names
pub record AreAmong (names slots : List Name) : Type 0 where
  pub each : All (Contains names) slots

-- each MPIDR finds the name of its fields of this level and above
unfoldable pub are_found : List ℕ → ℕ → List Name → ℕ → ℕ → Bool
are_found mpidrs level slots factor mask =
    list_all (λ mpidr. is_some (name_in slots factor mask (mpidr / 2 ^ (8 * level)))) mpidrs

-- A table has a name for each MPIDR, so that one which finds none names no core.
pub record HasNames (d : DescriptionValue) (b : BoardValue) (boot level : ℕ) (t : Table)
    : Type 0 where
  pub each : All (IsName d b boot level) t.slots.items
  pub found : are_found d.mpidrs level t.slots.items t.factor t.mask ≡ true

-- each table is that of the level at which it stands
abbrev pub AreNames : DescriptionValue → BoardValue → ℕ → List Table → Type 0
AreNames d b boot tables =
    (level : ℕ) → IfSome (slice_get tables level) (HasNames d b boot level)

-- What is found out once: the names of the cores and power domains, and what the rows are.
pub record IsReady (d : DescriptionValue) (b : BoardValue) (boot : ℕ) (r : Ready) : Type 0 where
  pub few : length r.tables.items ≤ 4
  pub names : AreNames d b boot r.tables.items
  pub rows : r.readings.items ≡ map (reading_of d b.format) d.rows

-- the names of this level are kept
abbrev pub has_level : Option ℕ → ℕ → Bool
has_level None level = false
has_level (Some levels) level = nat_lt level levels
