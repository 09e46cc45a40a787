-- The bytes hold a whole line, too long a one, or a part of one.
use Rattle.std.proofs.Common.{arith, sym}
use Rattle.std.proofs.lemmas.Bool.Decides.{nat_tests}
use Rattle.psci_script.proofs.Cutting.{whole_cut, part_cut, none_cut}
use Rattle.psci_script.proofs.transfer.cut.Goals as goal

pub returns-in-Some : goal.returns-in-Some
returns-in-Some c = whole_cut c.args.bytes.now c.in-Some.length (sym (c.in-Some.ensures {u = tt}))

pub returns-in-None : goal.returns-in-None
returns-in-None c =
    (c.if-bytes-gt-LONGEST_LINE.true, none_cut c.args.bytes.now (sym (c.in-None.ensures {u = tt})))

pub returns-in-None-2 : goal.returns-in-None-2
returns-in-None-2 c = grind (arith, nat_tests, part_cut)
