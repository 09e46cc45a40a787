-- One message more was looked at, and at the end all of them.
use Rattle.std.proofs.Common.{None, get_or, arith, ap, inl, inr, sym, ◌∙◌}
use Rattle.std.proofs.lemmas.Bool.{cases_eq, cases_lt}
use Rattle.std.proofs.lemmas.List.{get_or_past}
use Rattle.std.proofs.lemmas.Option.{none-some}
use Rattle.psci_fw_state.proofs.savable.look_at_messages.Goals as goal

pub loop-number-preserved : goal.loop-number-preserved
loop-number-preserved c = λ k m h e. elim (cases_eq k c.loop-number.number) [
  | inl s ↦ c.look_in.ensures m (ap (λ i. get_or c.args.slots.now.cores i None) (sym s) ∙ e)
  | inr d ↦ c.loop-number.invariant k m (omega (arith, h, d)) e
]

pub returns : goal.returns
returns c = record {
  cores = λ k m e. elim (cases_lt k c.loop-number.number) [
    | inl h ↦ c.loop-number.invariant k m h e
    | inr h ↦ absurd (none-some m
        (sym (get_or_past c.args.slots.now.cores k None (omega (
          arith,
          h,
          c.requires,
          c.loop-number-test.false,
        ))) ∙ e))
  ];
  system = λ m e. c.look_in-2.ensures m e;
}
