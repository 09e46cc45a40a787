-- From every core off, the boot core is made pending.
use Rattle.psci_tree.proofs.Words.{◌<◌, ◌∙◌, ap, made_pending, size_below, subst, sym, TreeValue}
use Rattle.psci_tree.specs.Changes.{start_of_life}
use Rattle.psci_tree.proofs.tree.Tree.new.Goals as goal

pub set_pending-requires : goal.set_pending-requires
set_pending-requires c =
    subst (λ (t : TreeValue). 0 < size_below t.levels)
    (sym (c.deref_mut.ensures.value ∙ c.in_ok-tree.ensures.value))
    ((c.law_sizes.ensures c.args.board.now c.in_ok-tree.ensures.board).some 0)

pub returns-clause-value : goal.returns-clause-value
unfolding start_of_life
returns-clause-value c =
    c.set_pending.ensures.value
    ∙ ap (λ t. made_pending t 0) (c.deref_mut.ensures.value ∙ c.in_ok-tree.ensures.value)
