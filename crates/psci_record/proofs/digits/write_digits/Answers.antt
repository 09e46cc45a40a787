-- Digit by digit from the last, until nothing is left of the number.
use Rattle.std.proofs.Common.{◌≡◌, ◌+◌, ◌-◌, ◌<◌, drop, subst, arith}
use Rattle.psci_record.proofs.RadixDigits.{IsUnderWay, begun, ends, goes_on, never_none, put_before}
use Rattle.psci_record.proofs.digits.write_digits.Goals as goal

pub loop-left-init : goal.loop-left-init
loop-left-init c = (
  omega arith,
  begun c.args.radix c.args.number c.args.room.now c.args.end c.places-places.result
      c.places-places.ensures.places (omega (arith, c.ranges.number.fits)) c.requires.least,
)

pub returns-then-rest-eq0-clause-written : goal.returns-then-rest-eq0-clause-written
returns-then-rest-eq0-clause-written c =
    let l = c.loop-left in
    let first = c.args.end - c.places-places.result in
    let some : 0 < l.left = omega (arith, c.loop-left-test.true) in
    ends c.args.radix c.args.number (drop c.args.end c.args.room.now) l.left l.rest c.digit.result
    c.base-base.result (drop (first + l.left) l.room) _ some c.base-base.ensures.base
    l.invariant.1 c.digit.ensures
    (put_before l.room (first + (l.left - 1)) (first + l.left) c.digit.result
    (omega (arith, c.requires, l.invariant.0, l.auto.room, some, c.places-places.ensures))
    (omega (arith, some)))
    c.if-rest-eq0.true

pub loop-left-preserved : goal.loop-left-preserved
loop-left-preserved c =
    let l = c.loop-left in
    let first = c.args.end - c.places-places.result in
    let some : 0 < l.left = omega (arith, c.loop-left-test.true) in (
      omega (arith, l.invariant.0),
      goes_on c.args.radix c.args.number (drop c.args.end c.args.room.now) l.left l.rest
          c.digit.result c.base-base.result (drop (first + l.left) l.room) _ some
          c.base-base.ensures.base l.invariant.1 c.digit.ensures
          (put_before l.room (first + (l.left - 1)) (first + l.left) c.digit.result
          (omega (arith, c.requires, l.invariant.0, l.auto.room, some, c.places-places.ensures))
          (omega (arith, some)))
          c.if-rest-eq0.false,
    )

pub unreachable-requires : goal.unreachable-requires
unreachable-requires c =
    let l = c.loop-left in
    let tail = drop c.args.end c.args.room.now in
    let bytes = drop (c.args.end - c.places-places.result + l.left) l.room in
    let none : l.left ≡ 0 = omega (arith, c.loop-left-test.false) in
    never_none c.args.radix c.args.number tail l.rest bytes
    (subst (λ k. IsUnderWay c.args.radix c.args.number tail k l.rest bytes) none l.invariant.1)
