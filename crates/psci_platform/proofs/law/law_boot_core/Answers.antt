-- A boot core that is swapped with core 0 is a renumbering of the board.
use Rattle.psci_fw_spec.specs.declared.call.FwCall.TheVariants as calls
use Rattle.psci_platform.proofs.Words.{boot_place, BoardValue, IsBoard, regs_for, swap_for}
use Rattle.psci_platform.proofs.Swaps.{calls_by_swap, laws_of, renumbering}
use Rattle.psci_platform.proofs.Named.{BoardLaws, laws_on, own_place}
use Rattle.psci_platform.proofs.law.law_boot_core.Goals as goal

pub returns : goal.returns
returns c =
    let laws : (b : BoardValue) → IsBoard b → BoardLaws b = λ b board.
    laws_on b board (c.law_sizes.ensures b board) (c.law_paths.ensures b board)
    (c.law_parents.ensures b board) (c.law_words.ensures b board) in
    record {
      own = λ b level place board. own_place b level place (laws b board).tree;
      symmetric = λ d b boot board none. (laws_of d b boot (laws b board) none).is;
      renumbering = λ d b boot board none.
          renumbering d b (boot_place d b boot) (laws_of d b boot (laws b board) none);
      calls = λ d b boot mode regs board none.
          calls_by_swap d b (boot_place d b boot) mode regs (laws b board)
          (laws_of d b boot (laws b board) none);
      answers = λ d b boot v core regs board none.
          let place = boot_place d b boot in
          let own = laws_of d b boot (laws b board) none in
          c.law_no_core_is_special.ensures.answers b (swap_for b place) v core
          (calls.Smc (regs_for d b 0 v.mode regs)) (calls.Smc (regs_for d b place v.mode regs))
          board (renumbering d b place own)
          (calls_by_swap d b place v.mode regs (laws b board) own) tt;
    }
