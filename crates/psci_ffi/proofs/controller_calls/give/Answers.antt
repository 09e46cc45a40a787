-- A frame is read as it is spelled: what is refused is none, and what is read is no other.
use Rattle.std.proofs.Common.{◌∙◌, subst, sym}
use Rattle.psci_link.specs.declared.encoding.Frame.{Frame}
use Rattle.psci_link.specs.declared.encoding.Frame.TheVariants as frames
use Rattle.psci_link.specs.Frame.{IsOf}
use Rattle.psci_ffi.proofs.Making.{not-both, of-same, one_message}
use Rattle.psci_ffi.proofs.controller_calls.give.Goals as goal

pub returns-in-Err-clause-ack : goal.returns-in-Err-clause-ack
returns-in-Err-clause-ack c = λ a read.
    absurd (not-both (c.in-Err.ensures.spelled (frames.Ack a) read.0
    (of-same c.board.result.now c.args.controller.now.board (frames.Ack a) c.board.ensures read.1)
    read.2))

pub returns-in-Err-clause-message : goal.returns-in-Err-clause-message
returns-in-Err-clause-message c = λ m read.
    absurd (not-both (c.in-Err.ensures.spelled (frames.Message m) read.0
    (of-same c.board.result.now c.args.controller.now.board (frames.Message m) c.board.ensures
    read.1) read.2))

pub deliver-requires : goal.deliver-requires
deliver-requires c =
    let of = rw c.in-Ok-Message.field-0-is at c.in-Ok-Message.ensures.of in
    of-same c.args.controller.now.board c.board.result.now
    (frames.Message c.message_in-message.result) (sym c.board.ensures)
    (subst (λ (f : Frame). IsOf c.board.result.now f) (sym c.message_in-message.ensures) of)

pub returns-in-Ok-Message-clause-message : goal.returns-in-Ok-Message-clause-message
returns-in-Ok-Message-clause-message c = λ m read.
    let held = rw c.in-Ok-Message.field-0-is at c.in-Ok-Message.ensures.one in
    let same = one_message c.message_in-message.result m
    (c.message_in-message.ensures ∙ held (frames.Message m) read.0 read.2) in
    rw same at c.deliver.ensures
