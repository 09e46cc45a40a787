-- The Down with the parts is outstanding, and they are granted.
use Rattle.psci_fw_state.proofs.Words.{◌<◌, ◌∙◌, ◌≡◌, ap, arith, IsOfCores, known_at, length}
use Rattle.psci_fw_state.proofs.Words.{MessageValue, Put, rules, slot_of, StateValue, the_view}
use Rattle.psci_fw_state.proofs.Words.{view_of, wished_claims}
use Rattle.psci_messages.specs.Slots.{after_change}
use Rattle.psci_messages.specs.declared.kind.Kind.TheVariants as kinds
use Rattle.psci_fw_spec.specs.Changes.{with_claims}
use Rattle.psci_fw_spec.specs.PowerCalls.{message_for}
use Rattle.psci_fw_state.specs.Seen.{values_in}
use Rattle.psci_fw_state.specs.Wishes.{wished_in}
use Rattle.psci_fw_state.proofs.Moved.{claimed_of, in_rows}
use Rattle.psci_fw_state.proofs.KeptCounts.{viewed}
use Rattle.psci_fw_state.proofs.state.State.claim.Goals.{After-deref_mut}
use Rattle.psci_fw_state.proofs.state.State.claim.Goals as goal

-- what is wished in the tree is what the values say
same : (c : After-deref_mut) → wished_claims c.self.inside.board (view_of c.deref_mut.result.now)
    c.args.core.number c.args.wish.now
    ≡ wished_in (the_view c.self.inside) c.args.core.number c.args.wish.now
same c =
    ap (λ w. wished_claims c.self.inside.board w c.args.core.number c.args.wish.now)
    (ap view_of c.deref_mut.ensures.value ∙ viewed (the_view c.self.inside) c.self.invariant)

pub claim_levels-requires-clause-parts : goal.claim_levels-requires-clause-parts
unfolding values_in
claim_levels-requires-clause-parts c =
    let at = (goal.at.claim_levels-requires-clause-parts c).After-deref_mut in
    rw (same at, c.deref_mut.ensures.value) (rw (← c.self.view_is) at c.requires)

pub invariant_of-message : goal.invariant_of-message
invariant_of-message c =
    let at = (goal.at.invariant_of-message c).After-deref_mut in
    record {
      core = search rules;
      parts = rw (c.claim_levels.ensures.parts ∙ same at)
          (rw (← c.self.view_is) at c.requires.claims);
    }

pub returns-clause-after : goal.returns-clause-after
unfolding values_in
returns-clause-after c =
    let at = (goal.at.returns-clause-after c).After-deref_mut in
    let s : StateValue = the_view c.self.inside in
    let m : MessageValue =
    message_for (values_in s) kinds.Down c.args.core.number c.claim_levels.new.parts in
    let row_inside : m.core.number < length s.rows =
    in_rows _ _ _ c.self.view_is c.self.invariant c.requires.inside in
    let has_slot : IsOfCores (length s.slots.cores) (slot_of m.kind m.core) =
    omega (arith, row_inside, c.self.invariant.rows, c.self.invariant.slots) in
    let number : c.known_start_inside-number.result ≡ known_at s.tree c.args.core.number =
    c.known_start_inside-number.ensures
    ∙ ap (λ t. known_at t c.args.core.number) c.deref.ensures in
    rw (← c.self.view_is)
    (rw number (claimed_of s c.claim_levels.new.tree (after_change s.slots (Put m)) m
    (λ k. rw (← c.deref_mut.ensures.value) (c.claim_levels.ensures.kept.cores k))
    (λ l p. rw (← c.deref_mut.ensures.value) (c.claim_levels.ensures.granted l p))
    (λ l p. rw (← c.deref_mut.ensures.value) (c.claim_levels.ensures.confirmed l p))
    (c.law_slots.ensures.changed s.slots (Put m) has_slot)
    ∙ ap (λ parts. with_claims s.board (message_for (values_in s) kinds.Down c.args.core.number
    parts) (values_in s)) (c.claim_levels.ensures.parts ∙ same at)))
