-- Answers that wait are written first, and then bytes are read.
use Rattle.std.proofs.Common.{◌≡◌, ap, refl}
use Rattle.psci_script.specs.declared.fault.ReplayFault.TheVariants.{Read}
use Rattle.psci_script.specs.EventText.{Answered}
use Rattle.psci_script.specs.Progress.{progress_of}
use Rattle.psci_script.proofs.Ahead.{written, reads_ahead, write_failed_ahead}
use Rattle.psci_script.proofs.Finish.{fault_alone, on_err_as}
use Rattle.psci_script.proofs.telling.Progress.read_ahead.Goals as goal

pub returns-in_err-write_to-clause-ahead : goal.returns-in_err-write_to-clause-ahead
returns-in_err-write_to-clause-ahead g c =
    let w = c.in_err-write_to.ensures {u = tt} in
    write_failed_ahead c.from_residual.result c.in_err-write_to.field-0.0
    (progress_of g.S.Source.left g.K.Sink.taken c.args.self.now) _ c.from_residual.ensures
    w.gave_up.0 w.front refl

pub returns-clause-ahead : goal.returns-clause-ahead
returns-clause-ahead g c =
    let w = c.in_ok-write_to.ensures {u = tt} in
    let r = c.refill.ensures in
    reads_ahead c.refill.result (progress_of g.S.Source.left g.K.Sink.taken c.args.self.now)
    c.refill.new.self (g.S.Source.left c.args.self.now.source.now)
    (g.S.Source.left c.refill.new.source)
    (g.K.Sink.taken c.write_to.new.sink) c.write_to.new.self
    (written c.args.self.now.block.now (g.S.Source.left c.args.self.now.source.now)
    (g.K.Sink.taken c.args.self.now.sink.now)
    (g.K.Sink.taken c.write_to.new.sink) c.args.self.now.answers.now c.write_to.new.self w.none_wait
    w.written)
    (ap (λ (a : Answered). a.waiting) w.none_wait) r.bytes
    (fault_alone c.refill.result (λ f. f ≡ Read) _ r.gave_up)
    (on_err_as c.refill.result (λ h. h.0) r.stays) (on_err_as c.refill.result (λ h. h.1) r.stays)
    (on_err_as c.refill.result (λ h. h.2) r.stays)
