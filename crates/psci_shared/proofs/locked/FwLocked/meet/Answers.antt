-- What the passes saw stands in the book.
use Rattle.std.proofs.Common.{◌≡◌, List, length, sym, subst, arith}
use Rattle.psci_fw.specs.psci_fw_spec.declared.status.Status.{Status}
use Rattle.psci_status.specs.Seats.{written}
use Rattle.psci_shared.specs.Passes.{AllSeen, AllStand, PassView}
use Rattle.psci_shared.proofs.Written.{all_stands, taken}
use Rattle.psci_shared.proofs.locked.FwLocked.meet.Goals as goal

pub returns-clause-stand : goal.returns-clause-stand
returns-clause-stand g c =
    let old = c.args.self.now in
    let met = c.meet_all.ensures in
    let passes = c.meet_all.new.passes in
    let seen = subst (λ (log : List (List Status)). AllSeen log passes) met.log met.seen.1 in
    let len : c.args.passes.now.len ≡ length passes =
    omega (arith, c.meet_all.auto.passes, c.as_mut_slice.ensures.len) in
    subst (λ (ps : List PassView). AllStand g.N.Named.board old.book.entries ps)
    (sym (taken passes _ _ len)) (all_stands _ _ old.book.entries _ old.written seen)

pub returns-clause-stood : goal.returns-clause-stood
returns-clause-stood g c =
    let old = c.args.self.now in
    all_stands _ _ old.book.entries _ old.written
    (subst (λ (ps : List PassView). AllSeen (written old.writer) ps) c.as_mut_slice.ensures.value
    c.meet_all.ensures.seen.0)
