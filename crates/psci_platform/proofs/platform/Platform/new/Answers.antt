-- A description that has no fault makes a platform.
use Rattle.std.specs.Prelude.{None}
use Rattle.psci_platform.proofs.Words.{◌∙◌, ◌≡◌, ap, fault_of, is_symmetric, rules}
use Rattle.psci_platform.proofs.platform.Platform.new.Goals as goal

pub invariant_of-platform : goal.invariant_of-platform
invariant_of-platform c =
    let none : fault_of c.args.description c.args.board c.args.boot ≡ None = search rules in (
      record {
        faultless = none;
        place = c.boot_core-boot_core.ensures.place;
        inside = c.boot_core-boot_core.ensures.inside;
        symmetric = ap (is_symmetric c.args.board) c.boot_core-boot_core.ensures.place
            ∙ c.law_boot_core.ensures.symmetric c.args.description c.args.board c.args.boot
            c.cores-cores.ensures.board none;
      },
      tt,
    )
