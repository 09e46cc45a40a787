-- How many words there are, that they are such as are loaded, and what they tell.
use Rattle.psci_messages.proofs.SavedLaws.{many_words, same, whole}
use Rattle.psci_messages.proofs.saved_laws.law_slots_words.Goals as goal

pub returns-clause-count : goal.returns-clause-count
returns-clause-count c = many_words

pub returns-clause-whole : goal.returns-clause-whole
returns-clause-whole c = whole

pub returns-clause-same : goal.returns-clause-same
returns-clause-same c = same
