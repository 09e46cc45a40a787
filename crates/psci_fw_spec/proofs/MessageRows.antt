-- Worked examples: what the message of a function names, and messages that name something else;
-- which acts go on.
use Rattle.std.proofs.Common.{◌∷◌, ◌≡◌, [], false, map, negsuc, refl, Some, true, ℕ}
use Rattle.psci_abi.specs.declared.request.Request.TheVariants.{CpuOff, CpuOn}
use Rattle.psci_board.specs.Board.{core_of}
use Rattle.psci_board.specs.declared.draft.Core.{Core}
use Rattle.psci_messages.specs.Message.{MessageValue}
use Rattle.psci_messages.specs.declared.kind.Kind.TheVariants.{Down, Off, Start}
use Rattle.psci_fw_spec.specs.Changes.{start_of_life}
use Rattle.psci_fw_spec.specs.Values.{IsNamed}
use Rattle.psci_fw_spec.specs.PowerCalls.{executes_on}
use Rattle.psci_fw_spec.specs.declared.outcome.Act.TheVariants as acts
use Rattle.psci_fw_spec.proofs.Steps.{board, message}

abbrev core : ℕ → Core
core n = record { number = n }

-- what is named by a CPU_OFF of core 2, and by its CPU_ON of core 3, in life 3; no core has entered
-- in it
abbrev NamedOff : MessageValue → Type 0
NamedOff m = IsNamed board (start_of_life board 3) 2 CpuOff m

abbrev NamedOn : MessageValue → Type 0
NamedOn m = IsNamed board (start_of_life board 3) 2 (CpuOn 0x101 0x40001000 7) m

down_is_named : NamedOff (message Down 2 3 0 [])
down_is_named = record { kind = refl; core = refl; life = refl; number = refl }

-- another kind, core, life and number
others_not_named : (NamedOff (message Off 2 3 0 []) → ⊥) × (NamedOff (message Down 0 3 0 []) → ⊥)
    × (NamedOff (message Down 2 1 0 []) → ⊥) × (NamedOff (message Down 2 3 1 []) → ⊥)
others_not_named = (
  λ n. absurd (cc n.kind),
  λ n. let e : Some (core 2) ≡ Some (core 0) = n.core in absurd (cc),
  λ n. absurd (cc n.life),
  λ n. absurd (cc n.number),
)

-- a CPU_ON names its target and not its caller
target_named : NamedOn (message Start 3 3 0 []) × (NamedOn (message Start 2 3 0 []) → ⊥)
unfolding core_of
target_named = (
  record { kind = refl; core = refl; life = refl; number = refl },
  λ n. let e : Some (core 3) ≡ Some (core 2) = n.core in absurd (cc),
)

-- which acts go on
acts_that_go_on : map executes_on
    (acts.Return (record { 0 = negsuc 0 }) ∷ acts.Stop ∷ acts.Enter 0x40001000 7 ∷ acts.Resume ∷ [])
    ≡ true ∷ false ∷ true ∷ true ∷ []
acts_that_go_on = refl
