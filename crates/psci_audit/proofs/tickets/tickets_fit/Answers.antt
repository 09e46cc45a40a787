-- The tickets fit.
use Rattle.std.proofs.Common.{refl}
use Rattle.psci_audit.proofs.tickets.tickets_fit.Goals as goal

pub returns : goal.returns
returns c = (
  λ apart. record {
    firmware = (c.if-not-rises.ensures {u = tt}).0 refl;
    controller = (c.if-not-rises-2.ensures {u = tt}).0 refl;
    apart = c.are_apart.ensures.0 apart;
  },
  λ fit. c.are_apart.ensures.1 fit.apart,
)
