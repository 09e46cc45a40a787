-- What the firmware sends is for a core of its board.
use Rattle.psci_guest.proofs.Sound.{answer_sound}
use Rattle.psci_guest.proofs.sends.law_sends.Goals as goal

pub returns : goal.returns
returns c = λ b board v x call m.
    answer_sound b (record {
      words = c.law_words.ensures b board;
      claims = λ w y wanted. c.law_claims.ensures b w y wanted;
      last_core = λ w y ask on. c.law_last_core.ensures b w y ask board on;
    }) v x call m
