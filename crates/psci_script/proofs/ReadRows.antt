-- What it says that kept lines are read: each kind of event, from its line.
use Rattle.std.proofs.Common.{◌≡◌, Some, arith}
use Rattle.std.specs.Prelude.{codes}
use Rattle.std.specs.Fmt.{digits}
use Rattle.psci_script.specs.EventText.{line_of, ReadsAsKept}
use Rattle.psci_script.specs.declared.grammar.Line.TheVariants.{Event as Says}
use Rattle.psci_world_spec.specs.declared.event.Event.TheVariants.{Call}

-- a call by core 2, and events of the largest numbers, by the lines that they are kept in
call_is_read : ReadsAsKept → line_of (codes "call 2 0xc4000003 0x101 0x40001000 0x7")
    ≡ Some (Says (Call 2 (record { x0 = 0xc4000003; x1 = 0x101; x2 = 0x40001000; x3 = 7 })))
unfolding digits
call_is_read reads = reads
    (Call 2 (record { x0 = 0xc4000003; x1 = 0x101; x2 = 0x40001000; x3 = 7 }))
    (omega arith, omega arith, omega arith, omega arith, omega arith)
