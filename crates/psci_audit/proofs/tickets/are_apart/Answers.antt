-- The lower of two tickets that rise is left behind.
use Rattle.std.proofs.Common.{refl, arith}
use Rattle.psci_audit.specs.Merged.{tickets_of}
use Rattle.psci_audit.proofs.SoFar.{both, next_ones, next_others, none_here, none_there, parts}
use Rattle.psci_audit.proofs.SoFar.{same_ones}
use Rattle.psci_audit.proofs.tickets.are_apart.Goals as goal

pub returns-in_default-others : goal.returns-in_default-others
returns-in_default-others c = (
  λ t. c.loop-ones.invariant.apart.0 (none_there (tickets_of c.loop-ones.ones.now)
      c.loop-ones.others.now c.in_default-others.len_below),
  λ apart. refl,
)

pub returns-then-one-other : goal.returns-then-one-other
returns-then-one-other c =
    let ones = c.loop-ones.ones.now in
    let others = c.loop-ones.others.now in (
      λ t. absurd (cc),
      λ apart. absurd (same_ones ones others c.one-item.result
          c.other-item.result (parts ones _ c.in-len1-up.len_at_least c.one-item.is)
          (parts others _ c.in-len1-up-others.len_at_least c.other-item.is) c.if-one-other.true
          (c.loop-ones.invariant.apart.1 apart)),
    )

pub loop-ones-preserved-then-one-other-2 : goal.loop-ones-preserved-then-one-other-2
loop-ones-preserved-then-one-other-2 c =
    let ones = c.loop-ones.ones.now in
    let others = c.loop-ones.others.now in
    let next = next_ones ones others c.one-item.result c.other-item.result
    (parts ones _ c.in-len1-up.len_at_least c.one-item.is)
    (parts others _ c.in-len1-up-others.len_at_least c.other-item.is)
    c.if-one-other-2.true c.loop-ones.invariant.ones c.loop-ones.invariant.others in
    record {
      ones = next.0;
      others = c.loop-ones.invariant.others;
      apart = both next.1 c.loop-ones.invariant.apart;
    }

pub loop-ones-preserved : goal.loop-ones-preserved
loop-ones-preserved c =
    let ones = c.loop-ones.ones.now in
    let others = c.loop-ones.others.now in
    let next = next_others ones others c.one-item.result c.other-item.result
    (parts ones _ c.in-len1-up.len_at_least c.one-item.is)
    (parts others _ c.in-len1-up-others.len_at_least c.other-item.is)
    (omega (arith, c.if-one-other.false, c.if-one-other-2.false))
    c.loop-ones.invariant.ones c.loop-ones.invariant.others in
    record {
      ones = c.loop-ones.invariant.ones;
      others = next.0;
      apart = both next.1 c.loop-ones.invariant.apart;
    }

pub returns : goal.returns
returns c = (
  λ t. c.loop-ones.invariant.apart.0 (none_here c.loop-ones.ones.now
      (tickets_of c.loop-ones.others.now) c.in_default.len_below),
  λ apart. refl,
)
