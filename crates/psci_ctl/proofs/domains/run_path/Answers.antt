-- One level more of the core's path is fully on.
use Rattle.std.proofs.Common.{◌+◌, ◌<◌, ◌∙◌, ◌≡◌, ◌≤◌, [], ap, arith, get_or, length, subst, sym}
use Rattle.std.proofs.Common.{ℕ}
use Rattle.std.proofs.lemmas.Option.{get_or_from_slice_get}
use Rattle.psci_board.specs.declared.draft.Node.{Node}
use Rattle.psci_board.specs.Board.{height, path, PathLaws, up}
use Rattle.psci_ctl.specs.declared.level.DomainRow.{DomainRow}
use Rattle.psci_ctl.specs.Rows.{HasRows, domain_at, path_on_once}
use Rattle.psci_ctl.proofs.Kept.{domain_set, run_more, set_row, shape_set}
use Rattle.psci_ctl.proofs.domains.run_path.Goals as goal

pub loop-level-preserved : goal.loop-level-preserved
loop-level-preserved c =
    let b = c.args.board.now in
    let core : ℕ = c.args.core.number in
    let k : ℕ = c.loop-level.level in
    let now = c.loop-level.levels in
    let laws : PathLaws b = c.law_paths.ensures b c.height-level-end.ensures.board in
    let low : k ≤ height b =
    omega (arith, c.loop-level-test.true, c.height-level-end.ensures.height) in
    let first : Node = record { level = 0; place = 0 } in
    let here : Node = record { level = k; place = up b k core } in
    let node : get_or c.deref.result.now k first ≡ here =
    ap (λ ns. get_or ns k first) (c.deref.ensures.0 ∙ c.path-path.ensures)
    ∙ get_or_from_slice_get (path b core) k here first (laws.node core k low) in
    let row : DomainRow = record { depth = 0; starts = c.domain-row.result.starts + 1 } in
    let was : c.domain-row.result ≡ domain_at now k (up b k core) =
    c.domain-row.ensures ∙ ap (λ (n : Node). domain_at now n.level n.place) node in
    let set : c.set_domain.new.levels ≡ set_row now k (up b k core) row =
    c.set_domain.ensures ∙ ap (λ (n : Node). set_row now n.level n.place row) node in
    let shape : HasRows b now = c.loop-level.invariant.shape in
    let place : up b k core < length (get_or now k []) =
    omega (arith, shape.places k low, laws.inside core k c.requires.core low) in
    record {
      rows = run_more b core k c.args.levels.now now c.set_domain.new.levels row low
          c.loop-level.invariant.rows
          (ap path_on_once was)
          (λ l p. ap (λ ds. domain_at ds l p) set
          ∙ domain_set now k (up b k core) l p row (omega (arith, shape.levels)) place);
      shape = subst (HasRows b) (sym set) (shape_set b now k (up b k core) row shape);
    }
