-- Part by part, until one is not live or not covered.
use Rattle.std.proofs.Common.{◌≡◌, ℕ, ◌+◌, Bool, refl, ap, arith}
use Rattle.psci_messages.specs.declared.part.Part.{Part}
use Rattle.psci_ctl.specs.declared.done.Done.{Done}
use Rattle.psci_ctl.specs.Seen.{done}
use Rattle.psci_ctl.proofs.Walked.{all_done, depth_at, held_done, late_done, low_at, walked_more}
use Rattle.psci_ctl.proofs.controller.Controller.take_down.Goals as goal

-- the part that stands for none
abbrev none : Part
none = record { level = 0; depth = 0; generation = 0 }

is_done : (result : Done) (k m n : ℕ) (t u : Bool) → result ≡ done k t → k ≡ m
    → (n ≡ m) × (u ≡ t) → result ≡ done n u
is_done result k m n t u is count all = rw (is, count, all.0, all.1) refl

pub returns-then-not-is_live-clause-done : goal.returns-then-not-is_live-clause-done
returns-then-not-is_live-clause-done c =
    is_done _ _ _ _ _ _ c.of.ensures c.loop-part.invariant.count
    (late_done none c.loop-part.invariant.walked c.loop-part-test.true
    c.domain_on_path-node.ensures.domain (c.if-not-is_live.ensures {u = tt}))

pub domain_on_path-node-requires-clause-level : goal.domain_on_path-node-requires-clause-level
domain_on_path-node-requires-clause-level c =
    low_at none c.loop-part.invariant.walked c.requires.parts c.loop-part-test.true

pub is_live-requires-clause-level : goal.is_live-requires-clause-level
is_live-requires-clause-level c =
    rw c.domain_on_path-node.ensures.domain
    (low_at none c.loop-part.invariant.walked c.requires.parts c.loop-part-test.true)

pub deepen-requires-clause-node : goal.deepen-requires-clause-node
deepen-requires-clause-node c = record {
  level = rw c.domain_on_path-node.ensures.domain
      (low_at none c.loop-part.invariant.walked c.requires.parts c.loop-part-test.true);
  place = c.domain_on_path-node.ensures.inside;
}

pub deepen-requires-clause-depth : goal.deepen-requires-clause-depth
deepen-requires-clause-depth c =
    depth_at c.args.parts.now c.loop-part.part-index none c.requires.parts.0 c.loop-part-test.true

pub loop-part-preserved : goal.loop-part-preserved
loop-part-preserved c = record {
  count = ap (λ n. n + 1) c.loop-part.invariant.count;
  walked = walked_more none c.loop-part.invariant.walked c.requires.parts c.loop-part-test.true
      c.domain_on_path-node.ensures.domain (c.if-not-is_live.ensures {u = tt})
      (c.if-not-is_covered.ensures {u = tt}) c.deepen.ensures;
}

pub returns-clause-done : goal.returns-clause-done
returns-clause-done c =
    is_done _ _ _ _ _ _ c.of-2.ensures c.loop-part.invariant.count
    (all_done c.loop-part.invariant.walked (omega arith))

pub returns-then-not-is_covered-clause-done : goal.returns-then-not-is_covered-clause-done
returns-then-not-is_covered-clause-done c =
    is_done _ _ _ _ _ _ c.of-then-not-is_covered.ensures c.loop-part.invariant.count
    (held_done none c.loop-part.invariant.walked c.requires.parts.0 c.loop-part-test.true
    c.domain_on_path-node.ensures.domain (c.if-not-is_live.ensures {u = tt})
    (c.if-not-is_covered.ensures {u = tt}))
