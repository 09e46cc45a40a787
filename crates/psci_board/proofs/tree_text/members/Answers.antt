-- A list is read member by member, up to the bracket that closes it.
use Rattle.psci_board.proofs.Terms.{nat_tests}
use Rattle.psci_board.proofs.Terms.{◌∙◌, ◌∷◌, ◌≡◌, ap, arith, member_at, more_at, refl, sym}
use Rattle.psci_board.specs.Summary.{with_members}
use Rattle.psci_board.proofs.More.{member_shortens, spaced_shortens, more_some, more_none}
use Rattle.psci_board.proofs.More.{list_ended, rest_again, if_kept, list_unopened, list_empty}
use Rattle.psci_board.proofs.More.{read_some, read_none, spaced_some, spaced_none, unspaced}
use Rattle.psci_board.proofs.More.{spaced_unclosed}
use Rattle.psci_board.proofs.tree_text.members.Goals as goal

pub returns-in_err-literal : goal.returns-in_err-literal
returns-in_err-literal c = grind (arith, nat_tests, list_unopened)

pub returns-in_err-rest : goal.returns-in_err-rest
returns-in_err-rest c = grind (arith, nat_tests, list_empty, read_none)

pub loop-after-init : goal.loop-after-init
loop-after-init c = record { summary = refl; rest = refl }

pub loop-after-smaller : goal.loop-after-smaller
loop-after-smaller c =
    let item = read_some _ _ _ c.in_ok-rest-2.ensures.read c.in_ok-rest-2.ensures.summary in
    let next = spaced_some member_at _ _ _ (sym c.in-Some.ensures) item.1 in
    omega (arith, spaced_shortens member_at member_shortens _ _ next)

pub loop-after-preserved : goal.loop-after-preserved
unfolding with_members
loop-after-preserved c =
    let item = read_some _ _ _ c.in_ok-rest-2.ensures.read c.in_ok-rest-2.ensures.summary in
    let next = spaced_some member_at _ _ _ (sym c.in-Some.ensures) item.1 in
    let m = more_some member_at member_shortens c.loop-after.rest.now _ _ next in
    let i = c.loop-after.invariant in
    record {
      summary = rw item.2 (rw m at i.summary);
      rest = ap (λ r. r.1) (sym m) ∙ i.rest;
    }

pub returns-in_err-rest-2 : goal.returns-in_err-rest-2
returns-in_err-rest-2 c =
    let first = read_some _ _ _ c.in_ok-rest.ensures.read c.in_ok-rest.ensures.summary in
    let stuck = spaced_none member_at _ _ (sym c.in-Some.ensures)
    (read_none _ c.in_err-rest-2.ensures.read) in
    let e =
    list_ended member_at member_shortens c.args.text.now _ _ _ _ (sym c.in_ok-literal.ensures)
    first.1 c.loop-after.invariant.rest stuck in
    let unclosed = spaced_unclosed _ _ (sym c.in-Some.ensures) in
    record {
      read = rw (e, unclosed, c.from_residual-in_err-rest-2.ensures) refl;
      summary = rw (e, unclosed) tt;
    }

pub returns : goal.returns
unfolding with_members
returns c =
    let first = read_some _ _ _ c.in_ok-rest.ensures.read c.in_ok-rest.ensures.summary in
    let last = unspaced member_at _ (sym c.in_default.ensures) in
    let e =
    list_ended member_at member_shortens c.args.text.now _ _ _ _ (sym c.in_ok-literal.ensures)
    first.1 c.loop-after.invariant.rest last in
    let none = more_none member_at member_shortens _ last in
    let items = first.0 ∷ (more_at member_at c.in_ok-rest.rest.now).0 in
    record {
      read = rw (e, rest_again items _, c.literal-2.ensures) refl;
      summary =
          rw e (if_kept (λ ms. c.loop-after.summary ≡ with_members c.args.summary.now ms) _ _
          (rw first.2 at (rw none at c.loop-after.invariant.summary)));
    }
