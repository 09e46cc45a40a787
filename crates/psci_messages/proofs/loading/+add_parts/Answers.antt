-- A part is added, and those of the words behind it.
use Rattle.std.proofs.Common.{◌≡◌, ◌+◌, length, arith}
use Rattle.psci_messages.proofs.SavedSlots.{pair_at, parts_added, pushed_long, rest_long}
use Rattle.psci_messages.proofs.SavedLaws.{weaker}
use Rattle.psci_messages.proofs.loading.+add_parts.Goals as goal

pub add_parts-requires : goal.add_parts-requires
add_parts-requires t c =
    let two = c.in-len2-up.len_at_least in
    let is = pair_at 3 c.args.words.now two c.requires.deep in
    let long : length c.push.new.self ≡ length c.args.parts.now + 1 =
    pushed_long c.args.parts.now c.push.new.self _ c.push.ensures in
    let rest = rest_long c.args.words.now two in (
      omega (arith, c.decreases, rest),
      (omega (arith, c.requires.room, long, rest), weaker _ 3 _ is.low is.rest),
    )

pub returns : goal.returns
returns t c =
    parts_added c.args.parts.now c.push.new.self c.add_parts.new.parts c.args.words.now
    c.in-len2-up.len_at_least c.if-depth-eq0.false
    (rw c.as_slice.ensures.parts at c.push.ensures) c.add_parts.ensures
