-- What is found out of a platform is of its description and its board.
use Rattle.psci_platform.proofs.Words.{◌∙◌, ap, Format, map, reading_of}
use Rattle.psci_platform.proofs.platform.Platform.in_order.Goals as goal

pub invariant_of-result : goal.invariant_of-result
invariant_of-result c = (
  record {
    faultless = c.self.invariant.0.faultless;
    place = c.self.invariant.0.place;
    inside = c.self.invariant.0.inside;
    symmetric = c.self.invariant.0.symmetric;
  },
  record {
    few = c.in_ok-tables.ensures.few;
    names = c.in_ok-tables.ensures.names;
    rows = c.in_ok-readings.ensures
        ∙ ap (λ (f : Format). map (reading_of c.self.inside.description f)
        c.self.inside.description.rows) c.format.ensures;
  },
)
