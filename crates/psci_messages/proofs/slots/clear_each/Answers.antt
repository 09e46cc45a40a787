-- After the loop each slot is empty.
use Rattle.std.proofs.Common.{◌∙◌, arith, sym, length, None, replicate}
use Rattle.std.proofs.lemmas.List.{same_lists, get_or_default, get_or-replicate, length-replicate}
use Rattle.psci_messages.proofs.slots.clear_each.Goals as goal

pub returns : goal.returns
returns c =
    let n = length c.args.slots.now in
    same_lists c.loop-slot.slots (replicate n None) (c.loop-slot.auto.slots
    ∙ sym (length-replicate n None))
    (λ k d inside. get_or_default c.loop-slot.slots k d None inside
    ∙ (c.loop-slot.invariant k (omega arith) ∙ sym (get_or-replicate n k None d (omega arith))))
