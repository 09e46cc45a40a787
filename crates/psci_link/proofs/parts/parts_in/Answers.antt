-- There is room for each part, and one more place gives one more part.
use Rattle.std.proofs.Common.{arith, add-one, sym, ◌∙◌, ◌*◌, length, ap}
use Rattle.std.proofs.lemmas.Slice.{between_to_end}
use Rattle.psci_link.proofs.Places.{length-parts_in, parts_in-more}
use Rattle.psci_link.proofs.parts.parts_in.Goals as goal

pub push-requires : goal.push-requires
push-requires c =
    omega (
      arith,
      ap length c.loop-place.invariant,
      length-parts_in c.loop-place.place c.args.places.now,
      c.requires.few,
    )

pub loop-place-preserved : goal.loop-place-preserved
loop-place-preserved c =
    let read = c.part_in.ensures in
    let bytes = c.args.places.now in
    let rest = between_to_end bytes (10 * c.loop-place.place) (length bytes) (omega arith) in
    rw add-one (c.push.ensures
    ∙ rw (c.loop-place.invariant, read, rest) (sym (parts_in-more c.loop-place.place bytes)))
