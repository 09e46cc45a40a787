-- The fields after the used ones are zero.
use Rattle.std.proofs.Common.{drop-drop, refl}
use Rattle.psci_link.proofs.decoding.is_unused_after.Goals as goal

pub returns-then-used-eq0 : goal.returns-then-used-eq0
returns-then-used-eq0 c =
    rw (c.is_zero.ensures, c.split_at.ensures.back, c.if-used-eq0.true) refl

pub returns : goal.returns
returns c = rw (c.is_zero-2.ensures, c.split_at-2.ensures.back, drop-drop) refl
