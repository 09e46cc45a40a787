-- One slot more is loaded, and at the end all of them.
use Rattle.std.proofs.Common.{ℕ, suc, ◌<◌, length, arith, ◌∙◌}
use Rattle.std.proofs.Math.ListN.{length-set}
use Rattle.psci_messages.proofs.SavedSlots.{first_slot, next_slot, slots_done, slots_loaded}
use Rattle.psci_messages.proofs.loading.load_slots.Goals as goal

pub split_at-requires : goal.split_at-requires
split_at-requires c =
    let now = c.loop-core.invariant in
    let low : c.loop-core.core < length c.loop-core.slots =
    omega (arith, c.loop-core-test.true, now.long) in
    (next_slot c.loop-core.core (length c.loop-core.slots) c.loop-core.rest.now low now.left).long

pub load-requires : goal.load-requires
load-requires c =
    let now = c.loop-core.invariant in
    let low : c.loop-core.core < length c.loop-core.slots =
    omega (arith, c.loop-core-test.true, now.long) in
    rw c.split_at.ensures.front
    (next_slot c.loop-core.core (length c.loop-core.slots) c.loop-core.rest.now low now.left).first

pub loop-core-preserved : goal.loop-core-preserved
loop-core-preserved c =
    let now = c.loop-core.invariant in
    let os = c.loop-core.slots in
    let k : ℕ = c.loop-core.core in
    let low : k < length os = omega (arith, c.loop-core-test.true, now.long) in
    let long = length-set os k c.load.new.self in
    record {
      done = rw c.split_at.ensures.back
          (slots_loaded k os c.load.new.self c.loop-core.rest.now c.args.words.now low now.done
          (c.load.ensures ∙ c.split_at.ensures.front));
      left = λ m e. rw c.split_at.ensures.back
          (first_slot m c.loop-core.rest.now (now.left (suc m) (omega (arith, e, long)))).rest;
      long = long ∙ now.long;
    }

pub returns : goal.returns
returns c =
    slots_done c.loop-core.core c.loop-core.slots c.loop-core.rest.now c.args.words.now
    (omega (arith, c.loop-core.invariant.long, c.loop-core-test.false))
    (c.loop-core.invariant.left 0 (omega (
      arith,
      c.loop-core.invariant.long,
      c.loop-core-test.false,
      c.loop-core.auto.core-end,
    ))) c.loop-core.invariant.done
