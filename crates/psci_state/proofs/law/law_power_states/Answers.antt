-- The laws of the lemmas on words.
use Rattle.psci_state.proofs.Words.{ask-from_test, ask-test, word_back, word_read}
use Rattle.psci_state.proofs.law.law_power_states.Goals as goal

pub returns-clause-written : goal.returns-clause-written
returns-clause-written c = word_read

pub returns-clause-read : goal.returns-clause-read
returns-clause-read c = λ format height word ask below is.
    (word_back format height word ask is).word_is below

pub returns-clause-shape : goal.returns-clause-shape
returns-clause-shape c = λ format height word ask is.
    let back = word_back format height word ask is in
    (back.shape, back.high)

pub returns-clause-test : goal.returns-clause-test
returns-clause-test c = λ depths. (ask-from_test depths, ask-test depths)
