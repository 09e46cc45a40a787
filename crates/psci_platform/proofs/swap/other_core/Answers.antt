-- Core 0 stays, and another core stays on the board.
use Rattle.psci_platform.proofs.Words.{◌∙◌, ◌≡◌, ap, arith, Node, swap_for, sym, ℕ}
use Rattle.psci_platform.specs.Swaps.{moved}
use Rattle.psci_platform.proofs.Swapped.{core_inside}
use Rattle.psci_platform.proofs.Named.{own_place}
use Rattle.psci_platform.proofs.swap.other_core.Goals as goal

pub returns-then-boot-eq0-clause-number : goal.returns-then-boot-eq0-clause-number
returns-then-boot-eq0-clause-number c =
    let b = c.args.board.now in
    let board = c.height-height.ensures.board in
    sym (ap (λ (k : ℕ). swap_for b k 0 c.args.core.number) c.if-boot-eq0.true
    ∙ own_place b 0 c.args.core.number (record {
      sizes = c.law_sizes.ensures b board;
      paths = c.law_paths.ensures b board;
      parents = c.law_parents.ensures b board;
    }))

pub returns-clause-inside : goal.returns-clause-inside
returns-clause-inside c = λ symmetric inside.
    let b = c.args.board.now in
    let n : Node = record { level = 0; place = c.args.core.number } in
    let at : c.moved.result ≡ moved b c.args.boot.number n =
    c.moved.ensures ∙ ap (moved b c.args.boot.number) c.node.ensures in
    omega (
      arith,
      ap (λ (m : Node). m.place) at,
      core_inside b c.args.boot.number c.args.core.number symmetric inside,
    )
