-- The next words are those of a slot, or of none; at the end no word is left.
use Rattle.std.proofs.Common.{◌≡◌, ℕ, suc, ◌+◌, ◌-◌, ◌==◌, false, true, length, arith, rules, ◌∙◌}
use Rattle.psci_messages.specs.Saved.{is_slot}
use Rattle.psci_messages.proofs.SavedSlots.{more_slots, no_slot, short_slot}
use Rattle.psci_messages.proofs.slot_words.are_slots.Goals as goal

pub returns-then-rest-lt-SLOT_WORDS : goal.returns-then-rest-lt-SLOT_WORDS
returns-then-rest-lt-SLOT_WORDS c =
    let m : ℕ = c.args.count - (c.loop.counter + 1) in
    short_slot m c.args.count c.loop.rest.now c.args.words.now c.if-rest-lt-SLOT_WORDS.true
    (c.loop.invariant (suc m) (omega (arith, c.loop-test.true)))

pub returns-then-not-is_slot : goal.returns-then-not-is_slot
returns-then-not-is_slot c =
    let m : ℕ = c.args.count - (c.loop.counter + 1) in
    let none : is_slot c.split_at.result.0.now ≡ false = search (rules, c.is_slot.ensures) in
    no_slot m c.args.count c.loop.rest.now c.args.words.now c.split_at.result.0.now
    c.split_at.ensures.front none
    (c.loop.invariant (suc m) (omega (arith, c.loop-test.true)))

pub loop-preserved : goal.loop-preserved
loop-preserved c = λ m e.
    let one : is_slot c.split_at.result.0.now ≡ true = search (rules, c.is_slot.ensures) in
    more_slots m c.args.count c.loop.rest.now c.args.words.now c.split_at.result.0.now
    c.split_at.result.1.now c.split_at.ensures.front c.split_at.ensures.back one
    (c.loop.invariant (suc m) (omega (arith, e)))

pub returns : goal.returns
returns c =
    let empty : c.is_empty.result ≡ (length c.loop.rest.now == 0) =
    search (rules, c.is_empty.ensures) in
    empty ∙ c.loop.invariant 0 (omega (arith, c.loop-test.false, c.loop.auto.counter-end))
