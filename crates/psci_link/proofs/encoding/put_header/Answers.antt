-- The header's fields are in their places.
use Rattle.std.proofs.Common.{arith, ap, length}
use Rattle.psci_link.proofs.Places.{header_put}
use Rattle.psci_link.proofs.encoding.put_header.Goals as goal

pub returns : goal.returns
returns c =
    rw (
      c.requires,
      ← c.copy_from_slice.ensures.after,
      ← c.copy_from_slice-2.ensures.after,
      ← c.copy_from_slice-3.ensures.after,
    )
    (header_put c.copy_from_slice.new.self c.copy_from_slice-2.new.self
    c.copy_from_slice-3.new.self c.args.header.count
    (omega (arith, ap length c.requires)) (omega (arith, ap length c.requires))
    (omega (arith, ap length c.requires)))
