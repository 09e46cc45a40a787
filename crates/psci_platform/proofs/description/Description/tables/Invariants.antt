-- Each table so far is that of its level.
use Rattle.psci_platform.proofs.Words.{◌≡◌, AreNames, length}
use Rattle.psci_platform.proofs.description.Description.tables.Given as goal

abbrev pub invariant-loop-level : goal.invariant-loop-level
invariant-loop-level l =
    (length l.tables.items ≡ l.level) × AreNames l.self l.board l.boot.number l.tables.items
