-- A frame is read as it is spelled: what is refused is none, and what is read is no other.
use Rattle.std.proofs.Common.{◌∙◌, ap, subst, sym}
use Rattle.psci_ctl.specs.Seen.{ControllerValue}
use Rattle.psci_link.specs.declared.encoding.Frame.{Frame}
use Rattle.psci_link.specs.declared.encoding.Frame.TheVariants as frames
use Rattle.psci_link.specs.Frame.{IsOf}
use Rattle.psci_control.specs.ControlSide.{board_of, waits_in}
use Rattle.psci_ctl_spec.specs.declared.call.CtlCall.TheVariants.{Deliver}
use Rattle.psci_messages.specs.Message.{MessageValue}
use Rattle.psci_ffi.specs.Controls.{IsGivenIf}
use Rattle.psci_ffi.proofs.Making.{not-both, of-same, one_message}
use Rattle.psci_ffi.proofs.control_calls.give.Goals as goal

pub returns-in-Err-clause-ack : goal.returns-in-Err-clause-ack
returns-in-Err-clause-ack c = λ a read.
    absurd (not-both (c.in-Err.ensures.spelled (frames.Ack a) read.0
    (of-same c.board.result.now (board_of c.args.side.now) (frames.Ack a) (c.board.ensures
    ∙ ap (λ (x : ControllerValue). x.board) c.controller.ensures) read.1) read.2))

pub returns-in-Err-clause-message : goal.returns-in-Err-clause-message
returns-in-Err-clause-message c = λ m read.
    absurd (not-both (c.in-Err.ensures.spelled (frames.Message m) read.0
    (of-same c.board.result.now (board_of c.args.side.now) (frames.Message m) (c.board.ensures
    ∙ ap (λ (x : ControllerValue). x.board) c.controller.ensures) read.1) read.2))

pub deliver-requires : goal.deliver-requires
deliver-requires c =
    let of = rw c.in-Ok-Message.field-0-is at c.in-Ok-Message.ensures.of in
    of-same (board_of c.args.side.now) c.board.result.now
    (frames.Message c.message_in-message.result) (sym (c.board.ensures
    ∙ ap (λ (x : ControllerValue). x.board) c.controller.ensures))
    (subst (λ (f : Frame). IsOf c.board.result.now f) (sym c.message_in-message.ensures) of)

pub returns-in-Ok-Message-clause-message : goal.returns-in-Ok-Message-clause-message
returns-in-Ok-Message-clause-message c = λ m read.
    let held = rw c.in-Ok-Message.field-0-is at c.in-Ok-Message.ensures.one in
    let same = one_message c.message_in-message.result m
    (c.message_in-message.ensures ∙ held (frames.Message m) read.0 read.2) in
    subst (λ (x : MessageValue). IsGivenIf (waits_in c.args.side.now (Deliver x)) c.args.side.now x
    c.deliver.new.orders c.deliver.new.side) same c.deliver.ensures
