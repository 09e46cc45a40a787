-- The word is that of the ask, which is read as this ask.
use Rattle.std.proofs.Common.{ap, ◌∙◌, rules}
use Rattle.psci_state.specs.PowerState.{ask_of}
use Rattle.psci_state.proofs.Words.{word_read}
use Rattle.psci_state.proofs.ask.Ask.word.Goals as goal

pub returns-in-Original-clause-value : goal.returns-in-Original-clause-value
returns-in-Original-clause-value c = search rules

pub returns-in-Original-clause-accepted : goal.returns-in-Original-clause-accepted
returns-in-Original-clause-accepted c = λ height high.
    ap (ask_of c.args.format height) (returns-in-Original-clause-value c)
    ∙ word_read c.args.format height c.args.self c.state_id.ensures.shape high

pub returns-in-Extended-clause-value : goal.returns-in-Extended-clause-value
returns-in-Extended-clause-value c = search rules

pub returns-in-Extended-clause-accepted : goal.returns-in-Extended-clause-accepted
returns-in-Extended-clause-accepted c = λ height high.
    ap (ask_of c.args.format height) (returns-in-Extended-clause-value c)
    ∙ word_read c.args.format height c.args.self c.state_id-in-Extended.ensures.shape high
