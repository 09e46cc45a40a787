-- MPIDRs of a platform, and the affinity words of the board for them.
use Rattle.std.specs.Prelude.{ℕ, ◌*◌, ◌/◌, ◌^◌, ◌==◌, nat_le, nat_lt, unwrap_or, if◌then◌else◌}
use Rattle.std.specs.Prelude.{Option, Some, None, option_map}
use Rattle.std.specs.List.{position}
use Rattle.psci_board.specs.Board.{BoardValue, address, child_number, domain_of, height}
use Rattle.psci_platform.specs.Described.{DescriptionValue}
use Rattle.psci_platform.specs.Swaps.{swap_for}

-- the first core, in the order of the tree, whose MPIDR has the fields of a word, at this level and
-- above: none where the board has no such level
abbrev pub core_named : DescriptionValue → BoardValue → ℕ → ℕ → Option ℕ
core_named d b word level =
    if nat_le level (height b)
    then position (λ mpidr. mpidr / 2 ^ (8 * level) == word / 2 ^ (8 * level)) d.mpidrs
    else None

-- an affinity word that names no core and no power domain of any board
abbrev pub no_core : ℕ
no_core = 0xFFFFFFFF

-- the affinity field of a core's domain of a level: its number among its siblings, and 0 of the
-- system and above
unfoldable pub field_of : BoardValue → ℕ → ℕ → ℕ
field_of b core level =
    if nat_lt level (height b) then unwrap_or (child_number b (domain_of b core level)) 0 else 0

-- the affinity word of the board for a core
abbrev pub word_if : BoardValue → Option ℕ → ℕ
word_if b None = no_core
word_if b (Some core) = address b 0 core

-- the place of the boot core in the order of the tree, by its MPIDR; 0 where no core has it
abbrev pub boot_place : DescriptionValue → BoardValue → ℕ → ℕ
boot_place d b boot = unwrap_or (core_named d b boot 0) 0

-- The number that the firmware has for the core that an MPIDR names, where the core at this place
-- boots: the swap of the boot core with core 0 is the firmware's.
abbrev pub number_named : DescriptionValue → BoardValue → ℕ → ℕ → ℕ → Option ℕ
number_named d b boot mpidr level = option_map (swap_for b boot 0) (core_named d b mpidr level)

-- The affinity word of the board for an MPIDR. At level 0 it names the core, and at a level above
-- the power domain over the core: fields below the level are not looked at.
abbrev pub core_word : DescriptionValue → BoardValue → ℕ → ℕ → ℕ → ℕ
core_word d b boot mpidr level = word_if b (number_named d b boot mpidr level)
