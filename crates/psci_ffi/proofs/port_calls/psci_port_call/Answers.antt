-- A call begins with what C holds of a monitor that runs.
use Rattle.std.proofs.Common.{◌∙◌, sym}
use Rattle.psci_ffi.proofs.Crossing.{keeps}
use Rattle.psci_ffi.proofs.port_calls.psci_port_call.Goals as goal

-- src/port_calls.rt:65:5
pub call-requires-clause-held : goal.call-requires-clause-held
call-requires-clause-held c =
    keeps c.args.core.now c.in-Some.side (sym c.side_given.ensures ∙ c.in-Some.is)
