-- A number has 20 digits at most.
use Rattle.std.proofs.Common.{arith}
use Rattle.std.proofs.lemmas.Fmt.{length-decimal-le}
use Rattle.psci_script.proofs.answer_line.write_number.Goals as goal

pub write_digits-requires : goal.write_digits-requires
write_digits-requires c = (
  omega (
    arith,
    length-decimal-le 20 c.args.number (omega arith) (omega arith) c.ranges.number.fits,
    c.requires.least,
  ),
  c.requires.within,
)

pub returns-clause-most : goal.returns-clause-most
returns-clause-most c =
    omega (
      arith,
      length-decimal-le 20 c.args.number (omega arith) (omega arith) c.ranges.number.fits,
      c.write_digits.ensures.start,
    )
