-- A part is spelled by its level, its depth and its generation.
use Rattle.std.proofs.Common.{◌∙◌, ap, ◌∷◌}
use Rattle.psci_link.proofs.Places.{part_put}
use Rattle.psci_link.proofs.encoding.put_part.Goals as goal

pub returns-clause-bytes : goal.returns-clause-bytes
returns-clause-bytes c =
    part_put c.args.part.now.level c.args.part.now.depth c.args.bytes.now _ c.requires.long
    ∙ ap (λ ys. c.args.part.now.level ∷ c.args.part.now.depth ∷ ys)
    (c.copy_from_slice.ensures.after ∙ c.generation_bytes.ensures.bytes)
