-- The slot of the system is written, then those of the cores.
use Rattle.std.proofs.Common.{List, Option, length, get_or, None, arith, ap, ◌∙◌}
use Rattle.psci_messages.specs.Message.{MessageValue}
use Rattle.psci_messages.specs.Slots.{SlotsValue}
use Rattle.psci_messages.proofs.SavedSlots.{all_saved}
use Rattle.psci_messages.proofs.SavedLaws.{many_words}
use Rattle.psci_messages.proofs.slots.Slots.save.Goals as goal

pub save_slot-requires : goal.save_slot-requires
save_slot-requires c = omega (arith, c.requires, many_words c.args.self.now)

pub save_slots-requires : goal.save_slots-requires
save_slots-requires c = omega (
  arith,
  c.requires,
  many_words c.args.self.now,
  ap (λ (os : List (Option MessageValue)). length os) c.deref-2.ensures.value,
  ap (λ (s : SlotsValue). length s.cores) c.self.view_is,
  c.save_slot.auto.words,
)

pub returns-clause-words : goal.returns-clause-words
returns-clause-words c =
    all_saved c.args.self.now _ _ c.args.start c.args.words.now c.save_slot.new.words
    c.save_slots.new.words
    (c.deref.ensures ∙ ap (λ (s : SlotsValue). s.system) c.self.view_is)
    (c.deref-2.ensures.value ∙ ap (λ (s : SlotsValue). s.cores) c.self.view_is)
    c.save_slot.ensures.words c.save_slots.ensures.words

pub returns-clause-kept : goal.returns-clause-kept
returns-clause-kept c = record {
  cores = λ k m e. c.save_slots.ensures.kept k m
      (ap (λ (os : List (Option MessageValue)). get_or os k None)
      (c.deref-2.ensures.value ∙ ap (λ (s : SlotsValue). s.cores) c.self.view_is)
      ∙ e);
  system = λ m e. c.save_slot.ensures.kept m
      (c.deref.ensures ∙ ap (λ (s : SlotsValue). s.system) c.self.view_is ∙ e);
}
