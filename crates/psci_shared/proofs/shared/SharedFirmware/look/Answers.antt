-- What is seen under the lock is a legal history.
use Rattle.std.proofs.Common.{refl, sym, subst, List}
use Rattle.psci_fw.specs.psci_fw_spec.Legal.{IsLegal}
use Rattle.psci_shared.specs.Places.{FwEntry}
use Rattle.psci_shared.specs.Passes.{history_of}
use Rattle.psci_shared.proofs.shared.SharedFirmware.look.Goals as goal

pub returns : goal.returns
returns g c =
    let legal = subst (λ (es : List FwEntry). IsLegal g.N.Named.board (history_of es))
    (sym c.entries.ensures.entries) c.entries.ensures.legal in
    (c.entries.result.now, legal, (c.entries.result, c.f.ensures, refl))
