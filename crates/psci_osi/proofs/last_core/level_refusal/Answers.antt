-- Each child adds its reason.
use Rattle.std.proofs.Common.{◌≡◌, ◌+◌, ◌<◌, ◌∙◌, sym, ap, refl, arith, Some}
use Rattle.psci_board.specs.declared.draft.Node.{Node}
use Rattle.psci_board.specs.Board.{child, children}
use Rattle.psci_messages.specs.Looked.{view_of}
use Rattle.psci_messages.specs.Claim.{refusal}
use Rattle.psci_osi.specs.Worse.{worse}
use Rattle.psci_osi.proofs.Gathered.{child-refusal-more, child_refuses, has_child, none_first}
use Rattle.psci_osi.proofs.Gathered.{nth_child, worse-none}
use Rattle.psci_osi.proofs.last_core.level_refusal.Goals.{in-Some-child_refusal}
use Rattle.psci_osi.proofs.last_core.level_refusal.Goals.{in_default-child_refusal}
use Rattle.psci_osi.proofs.last_core.level_refusal.Goals as goal

pub returns-in_default : goal.returns-in_default
unfolding refusal
returns-in_default c =
    rw (none_first c.args.board.now c.args.above (sym c.child.ensures ∙ c.in_default.is)) refl

pub child_refusal-requires : goal.child_refusal-requires
child_refusal-requires c =
    let b = c.args.board.now in
    has_child b c.args.tree.now.levels c.args.above c.in-Some.first c.loop-number.number
    c.requires.board (c.law_children.ensures b c.requires.valid)
    (sym c.child.ensures ∙ c.in-Some.is)
    (omega (arith, c.loop-number-test.true, c.children-number-end.ensures))

pub loop-number-init : goal.loop-number-init
unfolding refusal
loop-number-init c = refl

pub loop-number-preserved : goal.loop-number-preserved
loop-number-preserved c =
    let b = c.args.board.now in
    let t = c.args.tree.now in
    let n : Node = c.args.above in
    let k = c.loop-number.number in
    let m : Node = record { level = c.in-Some.first.level; place = c.in-Some.first.place + k } in
    let inside : k < children b n =
    omega (arith, c.loop-number-test.true, c.children-number-end.ensures) in
    let is : child b n k ≡ Some m =
    nth_child b n c.in-Some.first k (sym c.child.ensures ∙ c.in-Some.is) inside in
    let fault = c.loop-number.fault in
    let next =
    ap (worse fault) (child_refuses b t m c.args.own c.args.depth c.child_refusal.result
    c.requires.board c.child_refusal.ensures.own c.child_refusal.ensures.deep
    c.child_refusal.ensures.idle c.child_refusal.ensures.busy)
    ∙ child-refusal-more b (view_of t) c.args.depth c.args.own n m k fault inside is
    c.loop-number.invariant in
    elim c.match-child_refusal.branch [
      | in-Some-child_refusal w ↦
          w.fault-is ∙ w.worse-fault.ensures
          ∙ ap (worse fault) (sym w.in-Some-child_refusal.is) ∙ next
      | in_default-child_refusal w ↦
          w.fault-is ∙ sym (worse-none fault)
          ∙ ap (worse fault) (sym w.in_default-child_refusal.is) ∙ next
    ]
