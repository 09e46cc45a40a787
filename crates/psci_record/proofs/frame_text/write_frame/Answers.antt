-- Byte by byte from the last.
use Rattle.std.proofs.Common.{◌++◌, ◌<◌, ◌≡◌, ◌≤◌, drop, length, arith, ◌∙◌, subst, sym}
use Rattle.std.proofs.lemmas.List.{length-drop}
use Rattle.psci_record.specs.Texts.{bytes_text}
use Rattle.psci_record.proofs.RadixDigits.{as_it_is, at_end, first_byte, leaves_out, writes_byte}
use Rattle.psci_record.proofs.RadixDigits.{writes_zero}
use Rattle.psci_record.proofs.frame_text.write_frame.Goals as goal

pub loop-left-init : goal.loop-left-init
loop-left-init c =
    let tail = drop c.args.end c.args.room.now in
    let none = at_end c.args.frame.now tail (omega (arith, c.fits-frame)) in
    (omega arith, omega arith, omega arith, none)

pub loop-left-preserved-in-loop-left : goal.loop-left-preserved-in-loop-left
loop-left-preserved-in-loop-left c =
    let l = c.loop-left in
    let frame = c.args.frame.now in
    let tail = drop c.args.end c.args.room.now in
    let old = drop l.start l.room in
    let fits : l.left ≤ length frame = omega (arith, l.invariant.0, c.type_inv.frame) in
    let some : 0 < l.left = omega (arith, c.loop-left-test.true) in
    let w = l.invariant.3 in
    let new = drop c.write_byte-start.result c.write_byte-start.new.room in
    let e = c.write_byte-start.ensures.written in (
      omega (arith, l.invariant.0),
      omega (arith, l.invariant.1, c.write_byte-start.ensures.start),
      omega (arith, l.invariant.0, l.invariant.2, c.write_byte-start.ensures.start, some),
      elim c.then-byte-ne0.branch [
        | goal.then-byte-ne0-via-then-byte-ne0 b ↦
            writes_byte frame old tail l.left some fits w new b.if-byte-ne0.true e
        | goal.then-byte-ne0-via-else-byte-ne0+then-start-end b ↦
            writes_zero frame old tail l.left some fits w new
            (λ same. omega (
              arith,
              b.if-start-end.true,
              same,
              length-drop l.start l.room,
              length-drop c.args.end c.args.room.now,
              l.auto.room,
              c.requires.within,
            ))
            e
      ],
    )

pub loop-left-preserved : goal.loop-left-preserved
loop-left-preserved c =
    let l = c.loop-left in
    let frame = c.args.frame.now in
    let tail = drop c.args.end c.args.room.now in
    let old = drop l.start l.room in
    let fits : l.left ≤ length frame = omega (arith, l.invariant.0, c.type_inv.frame) in
    let some : 0 < l.left = omega (arith, c.loop-left-test.true) in (
      omega (arith, l.invariant.0),
      omega (arith, l.invariant.1),
      omega (arith, l.invariant.0, l.invariant.2, some),
      leaves_out frame old tail l.left some fits l.invariant.3 c.if-byte-ne0.false
          (length-drop l.start l.room
          ∙ omega (arith, c.if-start-end.false, l.invariant.1, l.auto.room)
          ∙ sym (length-drop c.args.end c.args.room.now)),
    )

pub returns-then-start-end-2-clause-written : goal.returns-then-start-end-2-clause-written
returns-then-start-end-2-clause-written c =
    let l = c.loop-left in
    let frame = c.args.frame.now in
    let tail = drop c.args.end c.args.room.now in
    let none : l.left ≡ 0 = omega (arith, c.loop-left-test.false) in
    as_it_is (bytes_text frame) tail (drop l.start l.room)
    (λ same. omega (
      arith,
      c.if-start-end-2.true,
      same,
      length-drop l.start l.room,
      length-drop c.args.end c.args.room.now,
      l.auto.room,
      c.requires.within,
    ))
    (subst (λ k. drop l.start l.room ≡ bytes_text (drop k frame) ++ tail) none l.invariant.3)

pub returns-clause-written : goal.returns-clause-written
returns-clause-written c =
    let l = c.loop-left in
    let frame = c.args.frame.now in
    let tail = drop c.args.end c.args.room.now in
    let none : l.left ≡ 0 = omega (arith, c.loop-left-test.false) in
    let all : l.start ≡ c.args.end = omega (arith, c.if-start-end-2.false, l.invariant.1) in
    first_byte (bytes_text frame) tail (drop c.args.end l.room)
    (drop c.write_byte.result c.write_byte.new.room)
    (length-drop c.args.end l.room ∙ omega (arith, l.auto.room)
    ∙ sym (length-drop c.args.end c.args.room.now))
    (subst (λ k. drop k l.room ≡ bytes_text frame ++ tail) all
    (subst (λ k. drop l.start l.room ≡ bytes_text (drop k frame) ++ tail) none l.invariant.3))
    c.write_byte.ensures.written
