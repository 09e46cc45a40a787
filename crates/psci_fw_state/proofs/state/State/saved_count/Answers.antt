-- The heading's words and those of the parts are few, and all that are saved.
use Rattle.std.proofs.Common.{◌+◌, arith, ap, sym, ◌∙◌}
use Rattle.psci_fw_state.proofs.state.State.saved_count.Goals as goal

pub overflow_add-result : goal.overflow_add-result
overflow_add-result c = omega (arith, c.part_count.ensures.few)

pub returns-clause-count : goal.returns-clause-count
returns-clause-count c =
    ap (λ n. 5 + n) c.part_count.ensures.count
    ∙ sym (c.law_saved_state.ensures.count c.args.self.now c.part_count.ensures.state)
