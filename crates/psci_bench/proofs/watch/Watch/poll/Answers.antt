-- What was kept is kept after a poll, and what the poll saw comes last.
use Rattle.std.proofs.Common.{rules}
use Rattle.psci_bench.proofs.Kept.{kept_polled, seen_last}
use Rattle.psci_bench.proofs.watch.Watch.poll.Goals as goal

pub invariant_of-self : goal.invariant_of-self
invariant_of-self g c =
    kept_polled g.N.Named.board _ _ _ c.poll-found.result _ _ c.poll-found.ensures.seen
    c.poll-found.ensures.on_board c.keep.ensures.kept c.self.invariant

pub returns : goal.returns
returns g c =
    search (
      rules,
      seen_last c.keep.result c.poll-found.result c.keep.new.seen.items c.keep.ensures.last,
    )
