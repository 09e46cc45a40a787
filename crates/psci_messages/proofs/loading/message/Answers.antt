-- A message has the parts of its kind, and its words are those that it was read from.
use Rattle.std.proofs.Common.{ℕ, ◌∷◌, ap, ◌∙◌}
use Rattle.psci_messages.specs.Saved.{part_words, parts_from}
use Rattle.psci_messages.proofs.SavedSlots.{of_kind}
use Rattle.psci_messages.proofs.loading.message.Goals as goal

pub invariant_of-result : goal.invariant_of-result
invariant_of-result c =
    rw (c.kind_of.ensures, c.parts_of-parts.ensures) (record {
      core = c.requires.core;
      parts = (of_kind c.args.kind c.args.parts.now c.requires.least c.requires.most
          c.requires.parts).parts;
    })

pub returns : goal.returns
returns c =
    let is = of_kind c.args.kind c.args.parts.now c.requires.least c.requires.most
    c.requires.parts in
    rw (c.kind_of.ensures, c.parts_of-parts.ensures)
    (ap (λ (k : ℕ). k ∷ c.args.core ∷ c.args.life ∷ c.args.number
    ∷ part_words 4 (parts_from 0 c.args.parts.now)) is.number
    ∙ ap (λ ws. c.args.kind ∷ c.args.core ∷ c.args.life ∷ c.args.number ∷ ws) is.words)
