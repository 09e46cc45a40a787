-- A new block has nothing unread.
use Rattle.std.proofs.Common.{refl}
use Rattle.psci_script.proofs.block.Block.new.Goals as goal

pub returns : goal.returns
returns c = refl
