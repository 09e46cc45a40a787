-- Worked examples: the faults of a description that no struct of C can have.
use Rattle.std.proofs.Common.{ℕ, ◌+◌, ◌-◌, List, [], ◌∷◌, ◌++◌, refl, map, replicate}
use Rattle.std.specs.Prelude.{Some, None}
use Rattle.std.specs.List.{range_with_len}
use Rattle.psci_platform.specs.declared.class.Class.{Class}
use Rattle.psci_platform.specs.declared.class.Class.TheVariants.{Running, Standby, Retention}
use Rattle.psci_platform.specs.declared.class.Class.TheVariants.{PowerDown}
use Rattle.psci_platform.specs.declared.fault.PlatformFault.TheVariants as faults
use Rattle.psci_platform.specs.declared.row.Row.{Row}
use Rattle.psci_platform.specs.Described.{DescriptionValue}
use Rattle.psci_platform.proofs.Machines.{checking, down, fault, level, rk3399, row}
use Rattle.psci_abi.proofs.Tables.{◌⇒◌, Gives}

-- RK3399's description with these classes of one level
abbrev with_class : ℕ → List Class → DescriptionValue
with_class place classes = record rk3399 {
  classes = replicate place down ++ classes ∷ replicate (3 - place) down;
}

faults_of_classes : Gives fault
    (with_class 0 (level (PowerDown ∷ Retention ∷ []) 13) ⇒ Some faults.FallingClass
    ∷ with_class 1 (level (PowerDown ∷ Retention ∷ []) 13) ⇒ Some faults.FallingClass
    ∷ with_class 3 (Running ∷ replicate 14 PowerDown ++ Standby ∷ []) ⇒ Some faults.FallingClass
    -- state 0 is not running
    ∷ with_class 2 (replicate 16 PowerDown) ⇒ Some faults.FallingClass ∷ [])
unfolding checking
faults_of_classes = refl

-- words of power-down of the core, all of them different
abbrev words : ℕ → List Row
words count = map (λ id. row (0x10000 + id) (1 ∷ 0 ∷ 0 ∷ 0 ∷ [])) (range_with_len 0 count)

faults_of_many_rows : Gives (λ count. fault (record rk3399 { rows = words count }))
    (64 ⇒ None
    ∷ 65 ⇒ Some faults.TooManyRows ∷ [])
unfolding checking
faults_of_many_rows = refl
