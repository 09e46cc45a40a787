-- Every other core is away where as many are, but for the core itself.
use Rattle.psci_fw_state.proofs.Words.{◌∙◌, ◌≡◌, ◌≤◌, ap, arith, Bool, cond, false, not}
use Rattle.psci_fw_state.proofs.Words.{refl, StateValue, the_view, true, ℕ}
use Rattle.psci_fw_state.specs.Seen.{values_in}
use Rattle.psci_fw_state.proofs.AllCores.{away, few_off, others_away}
use mir.Val.{bool_byte}
use Rattle.psci_fw_state.proofs.state.State.are_others_away.Goals as goal

byte : (b : Bool) → bool_byte b ≡ cond b 1 0
byte true = refl
byte false = refl

small : (b : Bool) → bool_byte b ≤ 1
small true = omega arith
small false = omega arith

pub overflow_add-result : goal.overflow_add-result
overflow_add-result c =
    let s : StateValue = the_view c.self.inside in
    let laws = c.law_spans.ensures s.board.levels c.self.invariant.board.tree in
    let few = few_off s c.self.invariant laws c.off-off.result c.from-own.result
    (rw (c.deref.ensures, c.system.ensures, ← c.self.view_is) at c.off-off.ensures)
    (rw c.from-own.ensures (small _)) in
    omega (arith, few)

pub returns : goal.returns
unfolding values_in
returns c =
    let s : StateValue = the_view c.self.inside in
    let laws = c.law_spans.ensures s.board.levels c.self.invariant.board.tree in
    let number : ℕ = c.args.core.number in
    let is : c.is_away.result ≡ away s c.self.invariant laws number =
    rw (← c.self.view_is) at c.is_away.ensures in
    rw (← c.self.view_is)
    (others_away s c.self.invariant laws number c.off-off.result c.from-own.result c.from.result
    (rw (c.deref.ensures, c.system.ensures, ← c.self.view_is) at c.off-off.ensures)
    (c.from-own.ensures ∙ byte _ ∙ ap (λ b. cond (not b) 1 0) is)
    (c.from.ensures ∙ c.cores.ensures.cores))
