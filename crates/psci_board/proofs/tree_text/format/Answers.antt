-- What is not empty is a format where it is spelled so.
use Rattle.std.specs.Str.{bytes_eq}
use Rattle.psci_board.proofs.Terms.{◌∙◌, ◌≡◌, ap, codes, List, refl, sym, true, ℕ}
use Rattle.psci_board.proofs.tree_text.format.Goals.{then-is_empty, else-is_empty}
use Rattle.psci_board.proofs.tree_text.format.Goals as goal

pub returns-then-eq : goal.returns-then-eq
returns-then-eq c =
    elim c.if-is_empty.branch [
      | then-is_empty w ↦ rw (sym w.if-is_empty.ensures) refl
      | else-is_empty w ↦
          let named : bytes_eq c.args.text.now (codes " format original") ≡ true =
          ap (λ (word : List ℕ). bytes_eq c.args.text.now word) (sym w.as_slice.ensures)
          ∙ (sym w.eq.ensures ∙ (sym w.value-is ∙ c.if-eq.true)) in
          rw (sym w.if-is_empty.ensures, named) refl
    ]
