-- The number is that of one of the messages that are left, if there is one.
use Rattle.std.proofs.Common.{◌≡◌, reverse, take}
use Rattle.psci_headline.specs.Settling.{index_of}
use Rattle.psci_world.proofs.settling.number_of.Given as goal

abbrev pub invariant-loop-number : goal.invariant-loop-number
invariant-loop-number l = index_of l.message (reverse (take l.number l.messages))
    ≡ index_of l.message (reverse l.messages)
