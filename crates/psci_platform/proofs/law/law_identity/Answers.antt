-- With the identity of a board the platform is the firmware.
use Rattle.psci_platform.proofs.Words.{BoardValue, IsBoard}
use Rattle.psci_platform.proofs.OwnCores.{after_same, answer_same, asked_same, faultless}
use Rattle.psci_platform.proofs.OwnCores.{first_boots, Laws}
use Rattle.psci_platform.proofs.Named.{laws_on}
use Rattle.psci_platform.proofs.OwnStates.{state_laws}
use Rattle.psci_platform.proofs.law.law_identity.Goals as goal

pub returns : goal.returns
returns c =
    let laws : (b : BoardValue) → IsBoard b → Laws b = λ b board. record {
      tree = laws_on b board (c.law_sizes.ensures b board) (c.law_paths.ensures b board)
          (c.law_parents.ensures b board) (c.law_words.ensures b board);
      states = state_laws;
    } in
    record {
      faultless = λ b board. faultless b (laws b board).tree;
      boot = λ b board. first_boots b (laws b board).tree;
      answers = λ b v core regs board. answer_same b v core regs (laws b board);
      after = λ b v core regs mode reply board. after_same b core regs mode reply v (laws b board);
      asked = λ b mode regs board. asked_same b mode regs (laws b board);
    }
