-- The world is safe where its tests say so.
use Rattle.psci_headline.proofs.Tested.{always_tested, asked_tested, entries_tested, off_tested}
use Rattle.psci_headline.proofs.Tested.{one_tested, powered_tested, safe_tested, states_tested}
use Rattle.psci_headline.proofs.Tested.{tested_safe}
use Rattle.psci_headline.proofs.testing.law_tested.Goals as goal

pub returns-clause-tested : goal.returns-clause-tested
returns-clause-tested c = safe_tested

pub returns-clause-safe : goal.returns-clause-safe
returns-clause-safe c = tested_safe

pub returns-clause-always : goal.returns-clause-always
returns-clause-always c = always_tested

pub returns-clause-powered : goal.returns-clause-powered
returns-clause-powered c = powered_tested

pub returns-clause-off : goal.returns-clause-off
returns-clause-off c = off_tested

pub returns-clause-one : goal.returns-clause-one
returns-clause-one c = one_tested

pub returns-clause-asked : goal.returns-clause-asked
returns-clause-asked c = asked_tested

pub returns-clause-entries : goal.returns-clause-entries
returns-clause-entries c = entries_tested

pub returns-clause-states : goal.returns-clause-states
returns-clause-states c = states_tested
