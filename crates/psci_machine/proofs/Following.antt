-- A machine that is as after some records, and the next event: it is as after one record more.
use Rattle.std.proofs.Common.{◌≡◌, List, [], ◌∷◌, ◌++◌, reverse, refl, ap, sym, ◌∙◌}
use Rattle.std.proofs.lemmas.List.{reverse-reverse}
use Rattle.psci_fw.specs.psci_board.Board.{BoardValue}
use Rattle.psci_ctl.specs.psci_ctl_spec.Replies as changes
use Rattle.psci_ctl.specs.psci_ctl_spec.Values as controls
use Rattle.psci_ctl.specs.psci_ctl_spec.History as controlled
use Rattle.psci_fw.specs.psci_fw_spec.Effects.{after}
use Rattle.psci_fw.specs.psci_fw_spec.Effects as answers
use Rattle.psci_fw.specs.psci_fw_spec.History as kept
use Rattle.psci_fw.specs.psci_messages.Message.{AckValue, MessageValue}
use Rattle.psci_world_spec.specs.declared.event.Event.{Event}
use Rattle.psci_world_spec.specs.declared.said.Record.{Record}
use Rattle.psci_world_spec.specs.declared.said.Said.{Said}
use Rattle.psci_world_spec.specs.Legal.{acks, call, control, controller_history}
use Rattle.psci_world_spec.specs.Legal.{controller_values, firmware_history, place, sent}
use Rattle.psci_machine.specs.Seen.{controlled_after, IsAfter, IsNext, kept_after, MachineValue}

-- What histories say of one exchange more, by the laws of the crates below.
pub record HistoryLaws (b : BoardValue) : Type 0 where
  pub kept : (e : answers.FwExchange) (h : List answers.FwExchange)
      → kept.values_of b (e ∷ h) ≡ after b e.core e.call e.reply (kept.values_of b h)
  pub controlled : (e : controls.CtlExchange) (h : List controls.CtlExchange)
      → controlled.values_of b (e ∷ h)
      ≡ changes.after b e.call e.reply (controlled.values_of b h)

kept_more : (b : BoardValue) → HistoryLaws b → (es h : List answers.FwExchange)
    → kept.values_of b (es ++ h) ≡ kept_after b es (kept.values_of b h)
kept_more b laws [] h = refl
kept_more b laws (e ∷ es) h =
    laws.kept e (es ++ h) ∙ ap (after b e.core e.call e.reply) (kept_more b laws es h)

controlled_more : (b : BoardValue) → HistoryLaws b → (es h : List controls.CtlExchange)
    → controlled.values_of b (es ++ h) ≡ controlled_after b es (controlled.values_of b h)
controlled_more b laws [] h = refl
controlled_more b laws (e ∷ es) h =
    laws.controlled e (es ++ h)
    ∙ ap (changes.after b e.call e.reply) (controlled_more b laws es h)

-- a machine after these records, and the next event
pub follows : (b : BoardValue) (past : List Record) (messages : List MessageValue)
    (made : List AckValue) (old new : MachineValue) (event : Event) (said : Said)
    → HistoryLaws b → IsAfter b past old → messages ≡ reverse (sent past)
    → made ≡ reverse (acks past) → IsNext messages made old event said new
    → IsAfter b (record { event = event; said = said } ∷ past) new
unfolding firmware_history controller_history place
follows b past messages made old new event said laws is sends makes next =
    let w = controller_values b past in
    let all : reverse messages ≡ sent past = ap reverse sends ∙ reverse-reverse (sent past) in
    let every : reverse made ≡ acks past = ap reverse makes ∙ reverse-reverse (acks past) in
    record {
      board = next.board ∙ is.board;
      firmware = next.firmware
          ∙ (rw (is.controller, every, is.firmware, is.board)
          (sym (kept_more b laws (call w (acks past) event said) (firmware_history b past))));
      controller = next.controller
          ∙ (rw (is.board, is.controller, all)
          (sym (controlled_more b laws (control w (sent past) event said)
          (controller_history b past))));
      places = λ c inside. next.places c (rw is.board inside)
          ∙ (rw (is.board, is.controller, all, is.places c inside) refl);
    }
