-- The word of some depths is read where they are an ask.
use Rattle.psci_platform.proofs.Words.{◌∙◌, ◌≡◌, is_ask, length, refl, rules}
use Rattle.psci_platform.proofs.OwnStates.{ask_is}
use Rattle.psci_platform.proofs.states.ask_of.Goals as goal

pub returns : goal.returns
returns c =
    let four : length c.args.depths ≡ 4 = search rules in
    c.ok.ensures.value
    ∙ ask_is c.law_power_states.ensures.test c.law_power_states.ensures.written c.args.depths four
    c.requires c.extended_word.result c.extended_word.ensures c.read.result c.read.ensures.value
    c.read.ensures.shape c.read.ensures.back (is_ask c.args.depths) refl
