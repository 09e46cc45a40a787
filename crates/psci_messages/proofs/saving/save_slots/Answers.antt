-- One slot more is written.
use Rattle.std.proofs.Common.{arith, get_or, None, inl, inr, sym, ap, ◌∙◌}
use Rattle.std.proofs.lemmas.Bool.{cases_eq, cases_lt}
use Rattle.std.proofs.lemmas.List.{get_or_default, get_or_past}
use Rattle.std.proofs.lemmas.Option.{none-some}
use Rattle.psci_messages.proofs.SavedSlots.{slots_saved}
use Rattle.psci_messages.proofs.saving.save_slots.Goals as goal

pub loop-core-preserved : goal.loop-core-preserved
loop-core-preserved c =
    let now = c.loop-core.invariant in
    let os = c.args.slots.now in
    let k = c.loop-core.core in
    let o = c.index-slots-core.result in
    let is = c.index-slots-core.is ∙ get_or_default os k o None c.loop-core-test.true in
    record {
      done = slots_saved os c.index-slots-core.result k c.args.start c.args.words.now
          c.loop-core.words c.save_slot.new.words c.loop-core-test.true is now.done
          c.save_slot.ensures.words;
      room = omega (arith, now.room, c.save_slot.auto.words);
      kept = λ j m h e. elim (cases_eq j k) [
        | inl s ↦ c.save_slot.ensures.kept m (is ∙ ap (λ i. get_or os i None) (sym s) ∙ e)
        | inr d ↦ now.kept j m (omega (arith, h, d)) e
      ];
    }

pub returns-clause-kept : goal.returns-clause-kept
returns-clause-kept c = λ k m e. elim (cases_lt k c.loop-core.core) [
  | inl h ↦ c.loop-core.invariant.kept k m h e
  | inr h ↦ absurd (none-some m
      (sym (get_or_past c.args.slots.now k None (omega (arith, h, c.loop-core-test.false))) ∙ e))
]
