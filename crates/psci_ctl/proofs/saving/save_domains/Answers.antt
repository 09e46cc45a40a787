-- There is room for the level's depths.
use Rattle.std.proofs.Common.{List, length, get_or, ap, arith}
use Rattle.std.proofs.lemmas.List.{length-map}
use Rattle.std.proofs.lemmas.List.Folds.{length-flat_map-take}
use Rattle.psci_ctl.specs.declared.level.DomainRow.{DomainRow}
use Rattle.psci_ctl.specs.Saved.{depths}
use Rattle.psci_ctl.proofs.saving.save_domains.Goals as goal

pub save-requires : goal.save-requires
save-requires c =
    let now = c.loop-level.invariant in
    omega (
      arith,
      now.next,
      now.room,
      length-flat_map-take depths c.args.levels.now c.loop-level.level-index
          c.level-item.result c.loop-level-test.true,
      length-map (get_or c.args.levels.now c.loop-level.level-index c.level-item.result)
          (λ (r : DomainRow). r.depth),
      ap (λ (xs : List DomainRow). length xs) c.level-item.is,
    )
