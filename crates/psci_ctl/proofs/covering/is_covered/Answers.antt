-- A domain is covered where the rows of its children are deep.
use Rattle.std.proofs.Common.{◌+◌, ◌∙◌, ◌≡◌, [], ap, arith, Bool, drop, get_or, length, List}
use Rattle.std.proofs.Common.{Some, sym, take, ℕ}
use Rattle.std.specs.Prelude.{nat_le}
use Rattle.std.specs.List.{list_all, range_with_len}
use Rattle.std.proofs.lemmas.List.{get_or_read_under}
use Rattle.psci_board.specs.declared.draft.Node.{Node}
use Rattle.psci_board.specs.Board.{BoardValue, child, ChildLaws, children, HasNode, height}
use Rattle.psci_ctl.specs.declared.level.DomainRow.{DomainRow}
use Rattle.psci_ctl.specs.Rows.{HasRows, off_domain}
use Rattle.psci_ctl.proofs.Loaded.{all_rows, first_is, rows_fit}
use Rattle.psci_ctl.proofs.covering.is_covered.Goals as goal

-- the level of a child, as it was read
row_read : {b : BoardValue} {levels : List (List DomainRow)} (n m : Node) (row : List DomainRow)
    → ChildLaws b → HasNode b n → HasRows b levels → child b n 0 ≡ Some m
    → row ≡ get_or levels m.level row → row ≡ get_or levels m.level []
row_read {b} {levels} n m row laws node shape e is =
    get_or_read_under levels m.level (height b + 1) row [] is
    (omega (arith, laws.child_level n m 0 e, node.level)) (sym shape.levels)

pub are_deep-requires : goal.are_deep-requires
are_deep-requires c =
    let n = c.args.node in
    let m = c.in-Some.first in
    let laws : ChildLaws c.args.board.now =
    c.law_children.ensures _ c.height-height.ensures.board in
    let is : child c.args.board.now n 0 ≡ Some m = sym c.child.ensures ∙ c.in-Some.is in
    omega (
      arith,
      c.children.ensures,
      rows_fit {levels = c.args.levels.now} n m laws c.requires.node c.requires.shape is,
      ap (λ (rows : List DomainRow). length rows)
          (row_read n m c.index-levels-first.result laws c.requires.node c.requires.shape is
          c.index-levels-first.is),
    )

pub returns : goal.returns
returns c =
    let b = c.args.board.now in
    let levels : List (List DomainRow) = c.args.levels.now in
    let n : Node = c.args.node in
    let m : Node = c.in-Some.first in
    let least : ℕ = c.args.depth in
    let deep : DomainRow → Bool = λ row. nat_le least row.depth in
    let laws : ChildLaws b = c.law_children.ensures _ c.height-height.ensures.board in
    let is : child b n 0 ≡ Some m = sym c.child.ensures ∙ c.in-Some.is in
    let rows : List DomainRow = get_or levels m.level [] in
    let many : c.children.result ≡ children b n = c.children.ensures in
    c.are_deep.ensures
    ∙ ap (λ (it : List DomainRow). list_all deep (take c.children.result (drop m.place it)))
    (row_read n m c.index-levels-first.result laws c.requires.node c.requires.shape is
    c.index-levels-first.is)
    ∙ ap (λ k. list_all deep (take k (drop m.place rows))) many
    ∙ all_rows rows least m.place (children b n)
    (rows_fit n m laws c.requires.node c.requires.shape is)
    ∙ ap (λ (it : Node). list_all (λ p. deep (get_or (get_or levels it.level []) p off_domain))
    (range_with_len it.place (children b n))) (first_is b n m is).1
