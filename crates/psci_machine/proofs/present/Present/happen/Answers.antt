-- After an event it is the present of one record more.
use Rattle.std.proofs.Common.{◌∙◌}
use Rattle.psci_fw.specs.psci_fw_spec.Effects.{sent_messages}
use Rattle.psci_machine.specs.Seen.{machine_board}
use Rattle.psci_world_spec.specs.Legal.{firmware_history, sent}
use Rattle.psci_machine.proofs.Events.{happens, has_past, sent_of_board}
use Rattle.psci_headline.proofs.fw_laws.Histories.{legal_holds}
use Rattle.psci_world_spec.proofs.Answered.{firmware_legal}
use Rattle.psci_headline.proofs.Sending.{same_sent}
use Rattle.psci_machine.proofs.present.Present.happen.Goals as goal

pub step-said-requires : goal.step-said-requires
step-said-requires c =
    let b = machine_board c.self.inside.machine in
    let past = c.self.invariant.past in
    let is = c.self.invariant.is in
    sent_of_board b (sent past) (sent_messages b (firmware_history b past)) c.deref.result.now
    (same_sent b past is.legal)
    (λ k m e. ((legal_holds b (firmware_history b past) c.law.ensures.board
    (firmware_legal b past is.legal)).messages k m e).sound)
    (c.deref.ensures.value ∙ c.reserve.ensures.items ∙ is.messages)

pub invariant_of-self-2 : goal.invariant_of-self-2
invariant_of-self-2 c =
    has_past _ _ c.args.event
    (happens _ _ c.args.event c.step-said.result c.deref.result.now c.reserve.new.self.items
    c.deref-2.result.now c.reserve-2.new.self.items c.step-said.ensures.said
    c.step-said.ensures.after c.deref.ensures.value c.reserve.ensures.items
    c.in_ok-keep_message.ensures.items c.deref-2.ensures.value c.reserve-2.ensures.items
    c.in_ok-keep_ack.ensures.items) c.self.invariant

pub returns-clause-next : goal.returns-clause-next
returns-clause-next c = λ b past is.
    happens _ _ c.args.event c.step-said.result c.deref.result.now c.reserve.new.self.items
    c.deref-2.result.now c.reserve-2.new.self.items c.step-said.ensures.said
    c.step-said.ensures.after c.deref.ensures.value c.reserve.ensures.items
    c.in_ok-keep_message.ensures.items c.deref-2.ensures.value c.reserve-2.ensures.items
    c.in_ok-keep_ack.ensures.items b past (rw c.self.view_is is)
