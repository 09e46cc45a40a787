-- What may be claimed, of each way in which a core stops.
use Rattle.std.proofs.Common.{refl}
use Rattle.psci_abi.specs.declared.request.Request.TheVariants as requests
use Rattle.psci_state.specs.PowerState.{deepest_of}
use Rattle.psci_board.specs.Board.{height}
use Rattle.psci_fw_spec.specs.Changes.{in_life, with_arrival}
use Rattle.psci_fw_spec.specs.PowerCalls.{off_parts}
use Rattle.psci_fw_spec.specs.Invariant.{view}
use Rattle.psci_fw.proofs.Answered.{arrived_free, few_off, few_suspended, nested_after}
use Rattle.psci_fw.proofs.Answered.{nested_parked, off_outcome, park_outcome, running_free}
use Rattle.psci_fw.proofs.Answered.{suspend_outcome, system_outcome}
use Rattle.psci_fw.proofs.laws.law_may_claim.Goals as goal

pub returns-clause-off : goal.returns-clause-off
returns-clause-off c = λ b v core is inside are running awake. record {
  few = few_off b v core (λ w wanted. c.law_claims.ensures b w core wanted);
  free = running_free b v core (c.law_paths.ensures b is) inside are running;
  nested = nested_after b v core requests.CpuOff _ _ (off_parts b v core)
      (c.law_invariant.ensures.function b v core requests.CpuOff is inside are running)
      (off_outcome b v core awake) refl;
}

pub returns-clause-parks : goal.returns-clause-parks
returns-clause-parks c = λ b v core s is inside are fault awake none parks. record {
  few = few_off b (with_arrival b core s v) core (λ w wanted. c.law_claims.ensures b w core wanted);
  free = λ level h. arrived_free b core (in_life b s.life v).granted level;
  nested = nested_parked b v core s _ (c.law_invariant.ensures.enter b v core s is are fault)
      (park_outcome b v core s awake none parks);
}

pub returns-clause-suspended : goal.returns-clause-suspended
returns-clause-suspended c =
    λ b v core word entry context ask is inside are running awake named may low parts e. record {
      few = few_suspended b v core ask parts (λ w wanted. c.law_claims.ensures b w core wanted)
          (c.law_last_core.ensures b (view b v) core ask is inside) e;
      free = running_free b v core (c.law_paths.ensures b is) inside are running;
      nested = nested_after b v core (requests.CpuSuspend word entry context) _ _ parts
          (c.law_invariant.ensures.function b v core (requests.CpuSuspend word entry context) is
          inside are running)
          (suspend_outcome b v core word entry context ask parts awake named may low e) refl;
    }

pub returns-clause-system : goal.returns-clause-system
returns-clause-system c =
    λ b v core entry context is inside are running awake may off low parts e. record {
      few = few_suspended b v core (deepest_of (height b)) parts
          (λ w wanted. c.law_claims.ensures b w core wanted)
          (c.law_last_core.ensures b (view b v) core (deepest_of (height b)) is inside) e;
      free = running_free b v core (c.law_paths.ensures b is) inside are running;
      nested = nested_after b v core (requests.SystemSuspend entry context) _ _ parts
          (c.law_invariant.ensures.function b v core (requests.SystemSuspend entry context) is
          inside are running)
          (system_outcome b v core entry context parts awake may off low e) refl;
    }
