-- Where a core goes on that enters.
use Rattle.std.specs.Prelude.{ℕ, Option, None, Some, if◌then◌else◌}
use Rattle.psci_fw_spec.specs.declared.opening.Opening.{Opening}
use Rattle.psci_fw_spec.specs.declared.outcome.Act.{Act}
use Rattle.psci_fw_spec.specs.declared.outcome.Act.TheVariants as acts
use Rattle.psci_messages.specs.declared.start.Start.{Start}
use Rattle.psci_fw_spec.specs.Answer.{resumes}
use Rattle.psci_fw_spec.specs.Values.{Values}

-- at its opening, or after its suspend where it has none
abbrev pub way_by : Values → ℕ → Start → Option Opening → Option Act
way_by v c s (Some o) = Some (acts.Enter o.address o.context)
way_by v c s None = if resumes v c s then Some acts.Resume else None

-- the way on of a core that enters by this start, None where it parks
abbrev pub way_on : Values → ℕ → Start → Option Act
way_on v c s = way_by v c s (v.opening c)
