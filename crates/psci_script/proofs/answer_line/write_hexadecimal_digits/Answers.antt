-- Digit by digit from the last, until nothing is left of the number.
use Rattle.std.proofs.lemmas.Bool.Decides.{nat_tests}
use Rattle.std.proofs.Common.{◌≡◌, ◌+◌, ◌-◌, drop, subst, arith}
use Rattle.psci_script.proofs.KeptLines.{all_done, IsUnderWay, never_none, none_yet, one_left}
use Rattle.psci_script.proofs.KeptLines.{one_more, put_before}
use Rattle.psci_script.proofs.answer_line.write_hexadecimal_digits.Goals as goal

pub loop-left-init : goal.loop-left-init
loop-left-init c = grind (arith, nat_tests, none_yet)

pub overflow_add-start : goal.overflow_add-start
overflow_add-start c = grind (arith, nat_tests)

pub bounds-room-start : goal.bounds-room-start
bounds-room-start c = grind (arith, nat_tests)

pub returns-then-rest-eq0-clause-within : goal.returns-then-rest-eq0-clause-within
returns-then-rest-eq0-clause-within c = grind (arith, nat_tests)

pub returns-then-rest-eq0-clause-written : goal.returns-then-rest-eq0-clause-written
returns-then-rest-eq0-clause-written c = grind (arith, nat_tests, one_left, all_done, put_before)

pub loop-left-preserved : goal.loop-left-preserved
loop-left-preserved c =
    let l = c.loop-left in
    let tail = drop c.args.end c.args.room.now in
    let bytes = drop (c.args.end - 16 + l.left) l.room in
    let w = one_left c.args.number tail l.left l.rest bytes c.loop-left-test.true l.invariant.1 in (
      omega (arith, l.invariant.0),
      one_more c.args.number tail (l.left - 1) l.rest c.digit.result
          bytes _ w
          (c.digit.ensures (omega arith))
          (put_before l.room (c.args.end - 16 + (l.left - 1)) (c.args.end - 16 + l.left)
          c.digit.result
          (omega (arith, c.requires, l.invariant.0, l.auto.room, c.loop-left-test.true))
          (omega (arith, c.loop-left-test.true)))
          c.if-rest-eq0.false,
    )

pub unreachable-requires : goal.unreachable-requires
unreachable-requires c =
    let l = c.loop-left in
    let tail = drop c.args.end c.args.room.now in
    let none : l.left ≡ 0 = omega (arith, c.loop-left-test.false) in
    never_none c.args.number tail l.rest (drop (c.args.end - 16 + l.left) l.room)
    (subst (λ k. IsUnderWay c.args.number tail k l.rest (drop (c.args.end - 16 + l.left) l.room))
    none l.invariant.1)
