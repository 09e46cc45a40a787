-- A level is below 256, and after the loop all parts are in their places.
use Rattle.std.proofs.Common.{arith, ◌≡◌, length, take, append_assoc, ◌∙◌, ◌^◌, ◌<◌, sym}
use Rattle.std.proofs.lemmas.Grind.{common_steps}
use Rattle.std.proofs.lemmas.List.Elements.{All-more, All-same, recursion_from_All}
use Rattle.std.proofs.lemmas.List.{take_all}
use Rattle.psci_link.specs.Frame.{part_fields}
use Rattle.psci_messages.proofs.History.{level-of}
use Rattle.psci_link.proofs.encoding.join.Goals as goal

pub put_part-requires-clause-level : goal.put_part-requires-clause-level
put_part-requires-clause-level c =
    let level = level-of 0 c.args.parts.now c.loop-part.part-index
    (record { level = 0; depth = 0; generation = 0 }) c.requires.levels (omega arith) in
    omega (arith, level, c.requires.few)

pub loop-part-preserved : goal.loop-part-preserved
loop-part-preserved c = record {
  end = omega arith;
  bytes = grind (arith, common_steps);
  fits = All-more (λ part. part.generation < 2 ^ 64) c.args.parts.now c.loop-part.part-index
      (record { level = 0; depth = 0; generation = 0 })
      (omega arith) c.loop-part.invariant.fits c.put_part.ensures.fits;
}

pub returns-clause-fits : goal.returns-clause-fits
returns-clause-fits c =
    let all : take c.loop-part.part-index c.args.parts.now ≡ c.args.parts.now
    = take_all c.loop-part.part-index c.args.parts.now (omega arith) in
    recursion_from_All (λ part. part.generation < 2 ^ 64) c.args.parts.now
    (All-same (λ part. part.generation < 2 ^ 64) c.args.parts.now
    (take c.loop-part.part-index c.args.parts.now) (sym all) c.loop-part.invariant.fits)

pub returns-clause-bytes : goal.returns-clause-bytes
unfolding part_fields
returns-clause-bytes c =
    let all : take c.loop-part.part-index c.args.parts.now ≡ c.args.parts.now
    = take_all c.loop-part.part-index c.args.parts.now (omega arith) in
    let done : c.loop-part.part-index ≡ length c.args.parts.now = omega arith in
    c.loop-part.invariant.bytes ∙ rw (all, done) (simp append_assoc)
