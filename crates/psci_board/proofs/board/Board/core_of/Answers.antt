-- The core that a word names is that of all its fields, and stands on the board.
use Rattle.psci_board.proofs.Terms.{◌*◌, ◌/◌, ◌^◌, ◌≡◌, ap, arith, div-one, drop, index_named, List}
use Rattle.psci_board.proofs.Terms.{nat_tests, sym, ℕ}
use Rattle.psci_board.specs.Board.{core_of}
use Rattle.psci_board.proofs.Named.{core_inside}
use Rattle.psci_board.proofs.board.Board.core_of.Goals as goal

-- the fields from those of a core up are the whole word
whole : (levels : List (List ℕ)) (word : ℕ)
    → index_named (drop 0 levels) (word / 2 ^ (8 * 0)) ≡ index_named levels word
whole levels word = ap (index_named levels) (div-one word)

pub returns-in_err-place-clause-core : goal.returns-in_err-place-clause-core
unfolding core_of
returns-in_err-place-clause-core c = grind (arith, nat_tests, whole)

pub returns-clause-core : goal.returns-clause-core
unfolding core_of
returns-clause-core c = grind (arith, nat_tests, whole)

pub returns-clause-inside : goal.returns-clause-inside
returns-clause-inside c =
    core_inside c.args.self.now c.args.word _ (sym (returns-clause-core c))
