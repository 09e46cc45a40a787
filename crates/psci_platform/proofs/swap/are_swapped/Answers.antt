-- The cores are looked at one by one.
use Rattle.psci_platform.proofs.Words.{◌∙◌, ◌≡◌, ap, arith, cases_lt, cores, inl, inr, is_swapped}
use Rattle.psci_platform.proofs.Words.{sym}
use Rattle.psci_platform.proofs.Swapped.{all_of, not_all}
use Rattle.psci_platform.proofs.swap.are_swapped.Goals as goal

pub returns-then-not-is_swapped : goal.returns-then-not-is_swapped
returns-then-not-is_swapped c =
    let b = c.args.board.now in
    sym (not_all (is_swapped b c.args.boot.number) (cores b) c.loop-number.number
    (omega (arith, c.loop-number-test.true, c.cores-number-end.ensures.cores))
    (sym c.is_swapped.ensures ∙ c.if-not-is_swapped.true))

pub loop-number-preserved : goal.loop-number-preserved
loop-number-preserved c = λ k h. elim (cases_lt k c.loop-number.number) [
  | inl below ↦ c.loop-number.invariant k below
  | inr here ↦
      let same : k ≡ c.loop-number.number = omega (arith, h, here) in
      ap (is_swapped c.args.board.now c.args.boot.number) same
      ∙ (sym c.is_swapped.ensures ∙ c.if-not-is_swapped.false)
]

pub returns : goal.returns
returns c =
    let b = c.args.board.now in
    sym (all_of (is_swapped b c.args.boot.number) 0 (cores b) (λ k low high.
    c.loop-number.invariant k
    (omega (arith, high, c.loop-number-test.false, c.cores-number-end.ensures.cores))))
