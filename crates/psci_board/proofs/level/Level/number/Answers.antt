-- The number of a place is how far it is from the first child of its parent.
use Rattle.psci_board.proofs.Terms.{arith, nat_tests, rules}
use Rattle.psci_board.proofs.More.{Numbered, numbered}
use Rattle.psci_board.proofs.level.Level.number.Goals as goal

number_at : (c : goal.After-parent)
    → Numbered c.args.self.now c.self.inside.firsts.items c.args.place c.parent.result
number_at c = grind (arith, nat_tests, numbered)

pub index-requires : goal.index-requires
index-requires c = let inside = (number_at c).inside in search rules

pub overflow_sub-result : goal.overflow_sub-result
overflow_sub-result c = grind (arith, nat_tests, numbered)

pub returns : goal.returns
returns c = grind (arith, nat_tests, numbered)
