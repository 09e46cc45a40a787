-- A number of children that was found small enough fits.
use Rattle.psci_ffi.proofs.GivenBoards.{few_below, small}
use Rattle.psci_ffi.proofs.given.levels.Goals as goal

pub new-requires-clause-children : goal.new-requires-clause-children
new-requires-clause-children c =
    rw c.children.ensures.children
    (small _
    (few_below c.args.levels.now c.loop-level.level-index _ c.loop-level-test.true c.requires))
