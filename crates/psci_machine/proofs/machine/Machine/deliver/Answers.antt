-- A message that there is is delivered.
use Rattle.std.proofs.Common.{◌≡◌, ℕ, ◌<◌, List, Option, Some, get_or, length, ap, sym, ◌∙◌}
use Rattle.std.specs.Prelude.{slice_get}
use Rattle.std.proofs.lemmas.Option.{slice_get-get_or}
use Rattle.psci_ctl.specs.Seen.{seen}
use Rattle.psci_ctl.specs.psci_ctl_spec.declared.call.CtlCall.TheVariants as calls
use Rattle.psci_ctl.specs.psci_ctl_spec.Replies.{reply}
use Rattle.psci_fw.specs.psci_messages.Message.{MessageValue}
use Rattle.psci_world_spec.specs.Legal.{said_by}
use Rattle.psci_machine.specs.Seen.{if_there, machine_board}
use Rattle.psci_machine.proofs.machine.Machine.deliver.Goals as goal

-- the message of this number
message_at : (messages : List MessageValue) (number at : ℕ) (m : MessageValue) → at ≡ number
    → (at < length messages) × ((d : MessageValue) → m ≡ get_or messages at d)
    → slice_get messages number ≡ Some m
message_at messages number at m same is =
    ap (λ (k : ℕ). slice_get messages k) (sym same)
    ∙ slice_get-get_or messages at m is.0
    ∙ ap (λ (x : MessageValue). Some x) (sym (is.1 m))

pub carry-requires : goal.carry-requires
carry-requires c = c.requires c.args.number c.in-Some.message.now
    (message_at c.args.messages.now c.args.number c.in-Ok.at c.in-Some.message.now
    c.in-Ok.ensures.1 c.in-Some.ensures.lookup.3)

pub returns-clause-said : goal.returns-clause-said
returns-clause-said c =
    let old = c.args.self.now in
    c.carry.ensures.said
    ∙ ap (λ (o : Option MessageValue). if_there o (λ m. said_by c.args.made
    (reply (machine_board old) (seen old.controller) (calls.Deliver m))))
    (sym (message_at c.args.messages.now c.args.number c.in-Ok.at c.in-Some.message.now
    c.in-Ok.ensures.1 c.in-Some.ensures.lookup.3))

pub returns-clause-next : goal.returns-clause-next
returns-clause-next c = λ acks.
    c.carry.ensures.next c.args.messages.now acks c.args.number
    (message_at c.args.messages.now c.args.number c.in-Ok.at c.in-Some.message.now
    c.in-Ok.ensures.1 c.in-Some.ensures.lookup.3)
