-- The bytes hold the header and the parts so far, and zeros after them.
use Rattle.std.proofs.Common.{◌≡◌, ◌++◌, ◌∷◌, [], ◌+◌, ◌-◌, ◌*◌, ◌^◌, ◌<◌, All, take, replicate}
use Rattle.std.specs.List.{flat_map}
use Rattle.psci_link.specs.Frame.{part_bytes}
use Rattle.psci_link.proofs.encoding.join.Given as goal

abbrev pub invariant-loop-part : goal.invariant-loop-part
invariant-loop-part l = record {
  end : l.end ≡ 13 + 10 * l.part-index;
  bytes : l.bytes ≡ ((l.fn.header.names ++ (l.fn.header.life ++ (l.fn.header.number
      ++ l.fn.header.count ∷ []))) ++ flat_map part_bytes (take l.part-index l.parts))
      ++ replicate (10 * (4 - l.part-index)) 0;
  fits : All (λ part. part.generation < 2 ^ 64) (take l.part-index l.parts);
}
