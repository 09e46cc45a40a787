-- One start more was looked at, and at the end all of them.
use Rattle.std.proofs.Common.{arith, inl, inr}
use Rattle.std.proofs.lemmas.Bool.{cases_eq}
use Rattle.std.proofs.lemmas.List.{get_or_default}
use Rattle.psci_tree.specs.Recount.{never_started}
use Rattle.psci_fw_state.proofs.savable.look_at_starts.Goals as goal

pub loop-number-preserved : goal.loop-number-preserved
loop-number-preserved c = λ k h. elim (cases_eq k c.loop-number.number) [
  | inl s ↦ rw s c.look_at_start.ensures
  | inr d ↦ c.loop-number.invariant k (omega (arith, h, d))
]

pub returns : goal.returns
returns c = λ k d h.
    rw (get_or_default c.args.tree.now.cores k d never_started h)
    (c.loop-number.invariant k (omega (
      arith,
      h,
      c.loop-number-test.false,
      c.core_count-number-end.ensures.count,
      c.core_count-number-end.ensures.tree.cores,
    )))
