-- What is refused is not spelled so, and what is held is spelled by one frame.
use Rattle.psci_link.proofs.Frames.{is-read, not-refused}
use Rattle.psci_link.proofs.decoding.heading_on.Goals as goal

pub returns-in_err-heading-clause-spelled : goal.returns-in_err-heading-clause-spelled
returns-in_err-heading-clause-spelled c = λ frame fits of same.
    absurd (not-refused c.args.board.now frame c.args.bytes.now c.in_err-heading.field-0.0 fits of
    same (c.in_err-heading.ensures.fault c.args.board.now))

pub returns-in-Ok-clause-one : goal.returns-in-Ok-clause-one
returns-in-Ok-clause-one c = λ frame fits same.
    is-read frame c.args.bytes.now c.in_ok-heading.heading fits same c.in_ok-heading.ensures.kind
