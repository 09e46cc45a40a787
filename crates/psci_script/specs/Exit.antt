-- Exit statuses, and what standard error says of a fault.
use Rattle.std.specs.Prelude.{ℕ, List, [], ◌++◌, codes, Result, Ok, Err, ⊤}
use Rattle.std.specs.Fmt.{decimal}
use Rattle.psci_world_spec.specs.psci_board.declared.fault.BoardFault.{BoardFault}
use Rattle.psci_world_spec.specs.psci_board.declared.fault.BoardFault.TheVariants as boards
use Rattle.psci_script.specs.declared.exit.Failure.{Failure}
use Rattle.psci_script.specs.declared.exit.AuditFailure.TheVariants.{Ticket, Illegal}
use Rattle.psci_script.specs.declared.exit.Failure.TheVariants.{CommandLine, Replay, TooManyCores}
use Rattle.psci_script.specs.declared.exit.Failure.TheVariants.{Audit, Gate, Gather, Threads}
use Rattle.psci_script.specs.declared.exit.Failure.TheVariants.{Board as GivenBoard}
use Rattle.psci_script.specs.declared.fault.ScriptFault.{ScriptFault}
use Rattle.psci_script.specs.declared.fault.ScriptFault.TheVariants as scripts
use Rattle.psci_script.specs.declared.fault.ReplayFault.{ReplayFault}
use Rattle.psci_script.specs.declared.fault.ReplayFault.TheVariants.{Script, Board, Read, Write}
use Rattle.psci_script.specs.declared.fault.ReplayFault.TheVariants.{Memory}

-- the number of a script fault
abbrev pub script_code : ScriptFault → ℕ
script_code scripts.NoBoard = 1
script_code scripts.Line = 2
script_code scripts.Long = 3
script_code scripts.TooMany = 4

-- the number of a board fault
abbrev pub board_code : BoardFault → ℕ
board_code boards.Grammar = 1
board_code boards.Uneven = 2
board_code boards.TooWide = 3
board_code boards.TooManyCores = 4
board_code boards.BadRange = 5
board_code boards.BadBoot = 6
board_code boards.BadLimit = 7
board_code boards.Memory = 8

-- a board that could not be kept for want of memory is no fault of its text
abbrev pub board_status : BoardFault → ℕ
board_status boards.Memory = 5
board_status _ = 3

-- the same of a board that the command line gives: it is a fault of the command line
abbrev pub given_board_status : BoardFault → ℕ
given_board_status boards.Memory = 5
given_board_status _ = 2

-- the exit status at a fault of a replay
abbrev pub replay_status : ReplayFault → ℕ
replay_status (Script line fault) = 3
replay_status (Board fault) = board_status fault
replay_status Read = 4
replay_status Write = 4
replay_status Memory = 5

-- the exit status of the program at a failure
abbrev pub status_of : Failure → ℕ
status_of CommandLine = 2
status_of (GivenBoard fault) = given_board_status fault
status_of TooManyCores = 2
status_of (Replay fault) = replay_status fault
status_of Threads = 5
status_of Gate = 6
status_of Gather = 6
status_of (Audit found) = 6

-- the same however it ended
abbrev pub ended_status : Result Unit Failure → ℕ
ended_status (Ok done) = 0
ended_status (Err failure) = status_of failure

-- a replay ends early by a fault of its own, and not by the command line or by threads
abbrev pub IsOfReplay : Failure → Type 0
IsOfReplay (Replay fault) = ⊤
IsOfReplay _ = ⊥

-- what standard error says of a board fault
abbrev pub board_report : BoardFault → List ℕ
board_report boards.Memory = codes "out of memory"
board_report fault = codes "line 1: board fault " ++ decimal (board_code fault)

-- the same of a board that the command line gives, before its line feed
abbrev pub given_board_report : BoardFault → List ℕ
given_board_report boards.Memory = codes "out of memory"
given_board_report fault = codes "board fault " ++ decimal (board_code fault)

-- what standard error says, before its line feed
abbrev pub report : ReplayFault → List ℕ
report (Script line fault) =
    codes "line " ++ (decimal line ++ (codes ": script fault " ++ decimal (script_code fault)))
report (Board fault) = board_report fault
report Read = codes "read fault"
report Write = codes "write fault"
report Memory = codes "out of memory"

-- the same of any failure; of the command line the parser has said it
abbrev pub failure_report : Failure → List ℕ
failure_report CommandLine = []
failure_report (GivenBoard fault) = given_board_report fault
failure_report TooManyCores = codes "too many cores"
failure_report (Replay fault) = report fault
failure_report Threads = codes "out of threads"
failure_report Gate = codes "gate limit"
failure_report Gather = codes "gather fault"
failure_report (Audit Ticket) = codes "audit fault 1"
failure_report (Audit (Illegal place)) = codes "audit fault 2 at " ++ decimal place
