-- Which of two reasons to refuse a request wins.
use Rattle.std.specs.Prelude.{Option, None, Some, unwrap_or}
use Rattle.psci_messages.specs.declared.osi.Osi.{Osi}
use Rattle.psci_messages.specs.declared.osi.Osi.TheVariants.{Invalid, Denied}

-- Invalid before Denied, and either before none
abbrev pub worse : Option Osi → Option Osi → Option Osi
worse None other = other
worse (Some Invalid) other = Some Invalid
worse (Some Denied) other = Some (unwrap_or other Denied)
