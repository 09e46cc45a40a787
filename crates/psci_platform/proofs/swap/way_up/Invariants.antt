-- Each node so far is the parent of the one before it.
use Rattle.std.proofs.Common.{get_or}
use Rattle.psci_platform.proofs.Words.{◌+◌, ◌<◌, ◌≡◌, length, parent, Some, ℕ}
use Rattle.psci_platform.proofs.swap.way_up.Given as goal

abbrev pub invariant-loop-top : goal.invariant-loop-top
invariant-loop-top l = record {
  long : length l.nodes ≡ 4;
  first : get_or l.nodes 0 l.fn.node ≡ l.fn.node;
  parents : (place : ℕ) → place < l.top → parent l.board (get_or l.nodes place l.fn.node)
      ≡ Some (get_or l.nodes (place + 1) l.fn.node);
}
