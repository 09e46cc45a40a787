-- A group is read number by number, up to the bracket that closes it.
use Rattle.psci_board.proofs.Terms.{◌∙◌, ◌∷◌, ◌≡◌, ap, arith, length, more_at, number_at, refl}
use Rattle.psci_board.proofs.Terms.{Some, sym}
use Rattle.psci_board.specs.Summary.{with_numbers}
use Rattle.psci_board.proofs.More.{number_shortens, literal_shortens, spaced_shortens, more_some}
use Rattle.psci_board.proofs.More.{more_none, list_ended}
use Rattle.psci_board.proofs.tree_text.group.Goals as goal

pub loop-number-init : goal.loop-number-init
loop-number-init c = record {
  summary = refl;
  rest = refl;
  count = refl;
  bound = omega arith;
  inside = omega (
    arith,
    number_shortens _ _ (sym c.in_ok-first.ensures),
    literal_shortens _ _ _
        (sym c.in_ok-literal.ensures),
  );
}

pub loop-number-smaller : goal.loop-number-smaller
loop-number-smaller c =
    omega (arith, spaced_shortens number_at number_shortens _ _ (sym c.in-Some.ensures))

pub loop-number-preserved : goal.loop-number-preserved
unfolding with_numbers
loop-number-preserved c =
    let m = more_some number_at number_shortens c.loop-number.rest.now c.in-Some.number
    c.in-Some.after.now (sym c.in-Some.ensures) in
    let i = c.loop-number.invariant in
    record {
      summary = rw c.add-in-Some.ensures (rw m at i.summary);
      rest = ap (λ r. r.1) (sym m) ∙ i.rest;
      count = omega (arith, rw m at i.count);
      bound = omega (arith, spaced_shortens number_at number_shortens _ _ (sym c.in-Some.ensures));
      inside = i.inside;
    }

pub returns-in_err-literal-2 : goal.returns-in_err-literal-2
returns-in_err-literal-2 c =
    let e = list_ended number_at number_shortens c.args.text.now _ _ _ _
    (sym c.in_ok-literal.ensures) (sym c.in_ok-first.ensures) c.loop-number.invariant.rest
    (sym c.in_default.ensures) in
    record {
      read = rw (e, sym c.in_err-literal-2.ensures, c.from_residual-in_err-literal-2.ensures) refl;
      summary = rw (e, sym c.in_err-literal-2.ensures) tt;
    }

pub returns : goal.returns
unfolding with_numbers
returns c =
    let e = list_ended number_at number_shortens c.args.text.now _ _ _ _
    (sym c.in_ok-literal.ensures) (sym c.in_ok-first.ensures) c.loop-number.invariant.rest
    (sym c.in_default.ensures) in
    let none = more_none number_at number_shortens _ (sym c.in_default.ensures) in
    let n : c.loop-number.count ≡ length
    (c.in_ok-first.first ∷ (more_at number_at c.in_ok-first.rest.now).0) =
    omega (arith, rw none at c.loop-number.invariant.count) in
    record {
      read = rw (e, sym c.in_ok-literal-2.ensures)
          (ap (λ k. Some (k, c.in_ok-literal-2.field-0.now)) n);
      summary = rw (e, sym c.in_ok-literal-2.ensures)
          (rw c.add.ensures at (rw none at c.loop-number.invariant.summary));
    }
