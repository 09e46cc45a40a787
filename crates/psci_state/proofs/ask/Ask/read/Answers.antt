-- What was read is the ask of the word, so it gives the word back.
use Rattle.std.proofs.Common.{sym, arith}
use Rattle.std.proofs.lemmas.Grind.{common_steps}
use Rattle.psci_state.proofs.Words.{word_back}
use Rattle.psci_state.proofs.ask.Ask.read.Goals as goal

pub returns-then-fields-from-clause-value : goal.returns-then-fields-from-clause-value
returns-then-fields-from-clause-value c = grind (arith, common_steps)

pub returns-then-fields-from-clause-back : goal.returns-then-fields-from-clause-back
returns-then-fields-from-clause-back c =
    (word_back c.args.format c.args.height c.args.word c.in_ok-ask.ask
    (sym (returns-then-fields-from-clause-value c))).word_is c.ranges.word.fits
