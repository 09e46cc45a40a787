-- What stands before the script, its board and its lines are told one after another.
use Rattle.std.proofs.Common.{arith}
use Rattle.psci_script.proofs.telling.run_lines.Goals as goal

pub returns-clause-runs : goal.returns-clause-runs
returns-clause-runs g c =
    c.tell_lines.ensures.runs c.args.form _ _ ((c.in_ok-teller.ensures {u = tt}).ok _ _
    (c.in_ok-open.ensures {u = tt}).ok)

pub tell_lines-requires : goal.tell_lines-requires
tell_lines-requires g c =
    let u = (c.in_ok-teller.ensures {u = tt}).ok _ _ (c.in_ok-open.ensures {u = tt}).ok in
    omega (arith, u.few, u.goes.events)
