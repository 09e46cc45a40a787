-- Which depths a core that stops wants, in code.
use Rattle.std.specs.Prelude.{ℕ}
use Rattle.psci_board.specs.declared.draft.Node.{Node}
use Rattle.psci_board.specs.Board.{BoardValue}
use Rattle.psci_tree.specs.Recount.{TreeValue, low}
use Rattle.psci_coord.specs.declared.claim.Wish.{Wish}
use Rattle.psci_coord.specs.declared.claim.Wish.TheVariants.{Least, Own}
use Rattle.psci_messages.specs.View.{PowerView}
use Rattle.psci_messages.specs.Claim.{least_wish, own_wish}

-- what is wanted, by level
abbrev pub wanted : BoardValue → PowerView → ℕ → Wish → ℕ → ℕ
wanted b v core Least level = least_wish b v core level
wanted b v core (Own ask) level = own_wish ask level

-- what is wanted of a domain of a tree
abbrev pub depth_of : TreeValue → Node → Wish → ℕ
depth_of t n Least = low t n n.level
depth_of t n (Own ask) = own_wish ask n.level
