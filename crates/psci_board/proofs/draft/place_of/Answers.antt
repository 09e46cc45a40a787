-- Level by level from the top, the fields of the word name a child, or nothing is named.
use Rattle.psci_board.proofs.Terms.{◌*◌, ◌+◌, ◌-◌, ◌/◌, ◌<◌, ◌^◌, ◌∙◌, ◌≡◌, [], ap, arith, child_in}
use Rattle.psci_board.proofs.Terms.{drop, get_or, get_or_default, index_named, length, List}
use Rattle.psci_board.proofs.Terms.{nat_tests, Some, subst, sum, sym, to_le_bytes, w64, ℕ}
use Rattle.psci_board.proofs.Named.{none_above, field_step, none_highest, named_highest}
use Rattle.psci_board.proofs.Named.{inside_step}
use Rattle.psci_board.proofs.draft.place_of.Goals as goal

pub returns-then-highest-from : goal.returns-then-highest-from
returns-then-highest-from c =
    let levels : List (List ℕ) = c.args.levels.now in
    let m : ℕ = length levels - 1 in
    let fits : m < length levels = omega (arith, c.if-low-count.false) in
    let own : List ℕ = c.index-levels-top.result in
    let level : own ≡ get_or levels m [] =
    c.index-levels-top.is ∙ get_or_default levels m own [] fits in
    sym (none_highest levels c.args.word c.args.low m c.requires.tree
    (omega (arith, c.requires.low, c.if-low-count.false)) (omega (arith, fits)) (omega (
      arith,
      c.if-highest-from.true,
      c.from.ensures,
      c.all_children.ensures,
      ap (λ (w : List ℕ). sum w) level,
    )))

pub loop-level-init : goal.loop-level-init
loop-level-init c = grind (arith, nat_tests, get_or_default, named_highest)

pub own_child-requires : goal.own_child-requires
own_child-requires c = grind (arith, nat_tests, get_or_default, inside_step)

pub loop-level-preserved : goal.loop-level-preserved
loop-level-preserved c =
    let levels : List (List ℕ) = c.args.levels.now in
    let m : ℕ = c.loop-level.level - 1 in
    let next : m + 1 ≡ c.loop-level.level = omega (arith, c.loop-level-test.true) in
    let fits : m < length levels = omega (arith, c.loop-level-test.true) in
    let own : List ℕ = c.index-levels-level.result in
    let level : own ≡ get_or levels m [] =
    c.index-levels-level.is ∙ get_or_default levels m own [] fits in (
      omega (arith, c.loop-level-test.true),
      field_step levels c.args.word m c.loop-level.place c.requires.tree fits
          (omega (arith, fits, c.requires.high))
          (subst
          (λ j. index_named (drop j levels) (c.args.word / 2 ^ (8 * j)) ≡ Some c.loop-level.place)
          (sym next) c.loop-level.invariant.1)
          ∙ ap
          (λ (w : List ℕ). child_in w c.loop-level.place (get_or (to_le_bytes w64 c.args.word) m 0))
          (sym level)
          ∙ ap (λ bs. child_in own c.loop-level.place (get_or bs m 0))
          (sym c.to_le_bytes-fields.ensures)
          ∙ ap (child_in own c.loop-level.place) (sym c.from-field.ensures)
          ∙ sym c.in_ok-place.ensures,
    )

pub returns-in_err-place : goal.returns-in_err-place
returns-in_err-place c =
    let levels : List (List ℕ) = c.args.levels.now in
    let m : ℕ = c.loop-level.level - 1 in
    let next : m + 1 ≡ c.loop-level.level = omega (arith, c.loop-level-test.true) in
    let fits : m < length levels = omega (arith, c.loop-level-test.true) in
    let own : List ℕ = c.index-levels-level.result in
    let level : own ≡ get_or levels m [] =
    c.index-levels-level.is ∙ get_or_default levels m own [] fits in
    let named : index_named (drop m levels) (c.args.word / 2 ^ (8 * m))
    ≡ child_in own c.loop-level.place c.from-field.result =
    field_step levels c.args.word m c.loop-level.place c.requires.tree fits
    (omega (arith, fits, c.requires.high))
    (subst (λ j. index_named (drop j levels) (c.args.word / 2 ^ (8 * j)) ≡ Some c.loop-level.place)
    (sym next) c.loop-level.invariant.1)
    ∙ ap (λ (w : List ℕ). child_in w c.loop-level.place (get_or (to_le_bytes w64 c.args.word) m 0))
    (sym level)
    ∙ ap (λ bs. child_in own c.loop-level.place (get_or bs m 0)) (sym c.to_le_bytes-fields.ensures)
    ∙ ap (child_in own c.loop-level.place) (sym c.from-field.ensures) in
    rw c.from_residual.ensures (sym (none_above levels c.args.word c.args.low m c.requires.tree
    (omega (arith, c.loop-level-test.true)) (omega (arith, fits)) (named
    ∙ sym c.in_err-place.ensures)))

pub returns : goal.returns
returns c = grind (arith, nat_tests)
