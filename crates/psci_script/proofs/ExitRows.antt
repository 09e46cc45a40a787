-- The exit status and the text of failures, also of those that no run of the program comes to.
use Rattle.std.proofs.Common.{ℕ, List, [], ◌∷◌, refl}
use Rattle.std.specs.Prelude.{codes}
use Rattle.std.specs.Fmt.{digits}
use Rattle.psci_world_spec.specs.psci_board.declared.fault.BoardFault.TheVariants as boards
use Rattle.psci_script.specs.declared.fault.ReplayFault.TheVariants.{Script, Board, Read, Write}
use Rattle.psci_script.specs.declared.fault.ReplayFault.TheVariants.{Memory}
use Rattle.psci_script.specs.declared.fault.ScriptFault.TheVariants as scripts
use Rattle.psci_script.specs.declared.exit.AuditFailure.TheVariants.{Ticket, Illegal}
use Rattle.psci_script.specs.declared.exit.Failure.{Failure}
use Rattle.psci_script.specs.declared.exit.Failure.TheVariants.{CommandLine, Replay, TooManyCores}
use Rattle.psci_script.specs.declared.exit.Failure.TheVariants.{Audit, Gate, Gather, Threads}
use Rattle.psci_script.specs.declared.exit.Failure.TheVariants.{Board as GivenBoard}
use Rattle.psci_script.specs.Exit.{IsOfReplay, failure_report, status_of}
use Rattle.psci_board.proofs.Tables.{◌⇒◌, Gives}

-- the exit status and the text at a failure
abbrev of_failure : Failure → ℕ × List ℕ
of_failure failure = (status_of failure, failure_report failure)

failures : Gives of_failure
    -- the command line: 2, and the parser has said why
    (CommandLine ⇒ (2, [])
    -- a board with too many cores for threads: 2
    ∷ TooManyCores ⇒ (2, codes "too many cores")
    -- threads that can't be made: 5
    ∷ Threads ⇒ (5, codes "out of threads")
    -- what threads did: 6, and where the audit has found an entry illegal, its place
    ∷ Gate ⇒ (6, codes "gate limit")
    ∷ Gather ⇒ (6, codes "gather fault")
    ∷ Audit Ticket ⇒ (6, codes "audit fault 1")
    ∷ Audit (Illegal 0) ⇒ (6, codes "audit fault 2 at 0")
    ∷ Audit (Illegal 1307) ⇒ (6, codes "audit fault 2 at 1307")
    -- a board that the command line gives, and a script: each with its fault
    ∷ GivenBoard boards.BadLimit ⇒ (2, codes "board fault 7")
    ∷ Replay (Script 2 scripts.Line) ⇒ (3, codes "line 2: script fault 2") ∷ [])
unfolding digits
failures = refl

-- a replay ends early by a fault of its own, of whatever kind, and not by the command line
replay_ends : IsOfReplay (Replay (Script 2 scripts.Line))
    × IsOfReplay (Replay (Board boards.Grammar))
    × IsOfReplay (Replay Read) × IsOfReplay (Replay Write) × IsOfReplay (Replay Memory)
replay_ends = (tt, tt, tt, tt, tt)

replay_by_command_line : IsOfReplay CommandLine → ⊥
replay_by_command_line h = h
