-- A call under the lock is entered in the book, and its statuses are written.
use Rattle.std.proofs.Common.{rules, map, ap, arith}
use Rattle.psci_status.specs.Lists.{newest}
use Rattle.psci_status.specs.Seats.{written}
use Rattle.psci_shared.specs.Passes.{BookView}
use Rattle.psci_shared.proofs.Written.{few_written, written_on}
use Rattle.psci_shared.proofs.locked.FwLocked.call_of.Goals as goal

pub write_all-requires-clause-few : goal.write_all-requires-clause-few
write_all-requires-clause-few g c =
    let old = c.args.self.now in
    let ok = (c.in_ok-place.ensures {u = tt}).ok in
    few_written _ _ old.book.entries old.written (omega (arith, ok.0, ok.1))

pub write_all-requires-clause-behind : goal.write_all-requires-clause-behind
write_all-requires-clause-behind g c =
    let old = c.args.self.now in (
      old.book.entries,
      _,
      ap (λ (k : BookView). k.entries) c.carry_out-done.ensures.book,
      c.life-before.ensures,
      c.carry_out-done.ensures.done.1,
      old.written,
    )

pub invariant_of-self-2-clause-written : goal.invariant_of-self-2-clause-written
invariant_of-self-2-clause-written g c =
    written_on _ _ _ _ _ _ _ _ c.carry_out-done.ensures.book c.life-before.ensures
    c.args.self.now.written c.write_all.ensures.log c.meet.ensures.log

pub returns-clause-entered : goal.returns-clause-entered
returns-clause-entered g c = (
  search rules,
  (map newest (written c.write_all.new.writer), search rules),
  search rules,
  search rules,
  c.len.ensures.legal,
)
