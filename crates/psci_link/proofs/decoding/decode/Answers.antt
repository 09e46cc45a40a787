-- What is read is held, and is what is spelled so; what is refused is not spelled so.
use Rattle.std.proofs.Common.{arith}
use Rattle.psci_link.proofs.Frames.{not-refused, read-whole, spelled-whole}
use Rattle.psci_link.proofs.decoding.decode.Goals as goal

pub returns-in_err-heading-clause-spelled : goal.returns-in_err-heading-clause-spelled
returns-in_err-heading-clause-spelled c = λ frame fits of same.
    absurd (not-refused c.args.board.now frame c.args.bytes.now c.in_err-heading.field-0.0 fits of
    same c.in_err-heading.ensures.fault)

pub returns-clause-read : goal.returns-clause-read
returns-clause-read c =
    read-whole c.args.board.now c.args.bytes.now c.in_ok-heading.heading
    (λ i. omega (arith, c.type_inv.bytes i)) c.in_ok-heading.ensures.heading
    c.frame_with.result c.frame_with.ensures c.in_ok-heading.ensures.fault

pub returns-clause-spelled : goal.returns-clause-spelled
returns-clause-spelled c = λ frame fits of same.
    spelled-whole c.args.bytes.now c.in_ok-heading.heading c.in_ok-heading.ensures.heading
    c.frame_with.result c.frame_with.ensures frame fits same
