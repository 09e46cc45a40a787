-- Every other core is off where as many are, but for the core itself.
use Rattle.psci_fw_state.proofs.Words.{◌≡◌, counts_below, one_core, StateValue, status_at, the_view}
use Rattle.psci_fw_state.proofs.Words.{ℕ}
use Rattle.psci_fw_state.specs.Seen.{values_in}
use Rattle.psci_fw_state.proofs.AllCores.{others_off, system}
use Rattle.psci_fw_state.proofs.state.State.are_others_off.Goals as goal

pub returns : goal.returns
unfolding values_in
returns c =
    let s : StateValue = the_view c.self.inside in
    let laws = c.law_spans.ensures s.board.levels c.self.invariant.board.tree in
    let number : ℕ = c.args.core.number in
    let counted : c.counted.result
    ≡ counts_below s.board.levels (status_at s.rows) (system s c.self.invariant laws) =
    rw (← c.self.view_is) at c.counted.ensures in
    let own : c.of_core-own.result ≡ one_core (status_at s.rows number) =
    rw (c.row_of.ensures, c.deref.ensures.value) at c.of_core-own.ensures in
    rw (c.not_off.ensures, c.not_off-2.ensures, own, ← c.self.view_is)
    (others_off s c.self.invariant laws number c.counted.result counted)
