-- The slot of the system is loaded, and then those of the cores.
use Rattle.std.proofs.Common.{length, arith, ◌∙◌}
use Rattle.std.proofs.lemmas.List.{with_items_is}
use Rattle.psci_messages.proofs.SavedSlots.{all_loaded, first_slot}
use Rattle.psci_messages.proofs.slots.Slots.load.Goals as goal

pub split_at-requires : goal.split_at-requires
split_at-requires c =
    (first_slot (length c.args.self.now.cores) c.args.words.now c.requires).long

pub returns-clause-words : goal.returns-clause-words
returns-clause-words c =
    let cores = with_items_is c.self.inside.cores c.load_slots.new.slots
    (omega (arith, c.load_slots.auto.slots, c.deref_mut-2.ensures.len)) in
    rw cores (all_loaded (record { cores = c.load_slots.new.slots; system = c.load.new.self })
    c.args.words.now (c.load.ensures ∙ c.split_at.ensures.front)
    (c.load_slots.ensures ∙ c.split_at.ensures.back))
