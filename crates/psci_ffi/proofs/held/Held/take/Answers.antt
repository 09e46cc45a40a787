-- A frame is read as it is spelled: what is refused is none, and what is read is no other.
use Rattle.std.proofs.Common.{◌∙◌}
use Rattle.psci_link.specs.declared.encoding.Frame.TheVariants as frames
use Rattle.psci_ffi.proofs.Making.{is-taken, not-both, of-same, one-ack}
use Rattle.psci_ffi.proofs.held.Held.take.Goals as goal

pub returns-in-Err-clause-message : goal.returns-in-Err-clause-message
returns-in-Err-clause-message c = λ m read.
    absurd (not-both (c.in-Err.ensures.spelled (frames.Message m) read.0
    (of-same c.board.result.now c.args.self.now.polled.firmware.board (frames.Message m)
    c.board.ensures read.1)
    read.2))

pub returns-in-Err-clause-ack : goal.returns-in-Err-clause-ack
returns-in-Err-clause-ack c = λ a read.
    absurd (not-both (c.in-Err.ensures.spelled (frames.Ack a) read.0
    (of-same c.board.result.now c.args.self.now.polled.firmware.board (frames.Ack a)
    c.board.ensures read.1)
    read.2))

pub returns-in-Ok-Ack-clause-ack : goal.returns-in-Ok-Ack-clause-ack
returns-in-Ok-Ack-clause-ack c = λ a read.
    let held = rw c.in-Ok-Ack.field-0-is at c.in-Ok-Ack.ensures.one in
    let one = one-ack c.ack_in.result a
    (c.ack_in.ensures ∙ held (frames.Ack a) read.0 read.2) in
    is-taken c.args.self.now.polled c.take_ack.new.self.polled c.ack_in.result a c.take_ack.result
    c.taken_code.result one c.taken_code.ensures (c.take_ack.ensures.answer 0)
    (c.take_ack.ensures.next 0).next

pub returns-in-Ok-Ack-clause-machine : goal.returns-in-Ok-Ack-clause-machine
returns-in-Ok-Ack-clause-machine c = (c.take_ack.ensures.next 0).machine
