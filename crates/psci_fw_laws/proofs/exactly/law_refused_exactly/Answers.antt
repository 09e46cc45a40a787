-- Where OS-initiated requests are refused, and where not.
use Rattle.psci_board.proofs.Paths.{child_laws}
use Rattle.psci_board.proofs.Paths.{path_laws}
use Rattle.psci_fw_laws.proofs.Refusing.{accepted, are_denied, denied_are, has_invalid, invalid_has}
use Rattle.psci_fw_laws.proofs.exactly.law_refused_exactly.Goals as goal

pub returns-clause-accepted : goal.returns-clause-accepted
returns-clause-accepted c = λ b v core ask board on.
    accepted b v core ask (path_laws b board) (child_laws b board)

pub returns-clause-invalid : goal.returns-clause-invalid
returns-clause-invalid c = λ b v core ask board on.
    let paths = path_laws b board in
    let kids = child_laws b board in
    (invalid_has b v core ask paths kids, has_invalid b v core ask paths kids)

pub returns-clause-denied : goal.returns-clause-denied
returns-clause-denied c = λ b v core ask board on.
    let paths = path_laws b board in
    let kids = child_laws b board in
    (denied_are b v core ask paths kids, are_denied b v core ask paths kids)
