-- What the bytes of a script are answered, line by line, up to the first fault.
use Rattle.std.specs.Prelude.{◌++◌, ◌+◌, ◌∷◌, [], codes, Err, if◌then◌else◌, length, List}
use Rattle.std.specs.Prelude.{nat_lt, None, Ok, Option, Result, Some, ℕ}
use Rattle.psci_world_spec.specs.psci_board.Board.{BoardValue}
use Rattle.psci_board.specs.Grammar.{literal_at}
use Rattle.psci_board.specs.Verdict.{board_of}
use Rattle.psci_board.specs.declared.fault.BoardFault.{BoardFault}
use Rattle.psci_world_spec.specs.declared.said.Record.{Record}
use Rattle.psci_world_spec.specs.Legal.{legal, legal_record}
use Rattle.psci_script.specs.declared.grammar.Line.{Line as LineSays}
use Rattle.psci_script.specs.declared.grammar.Line.TheVariants.{Blank, Event as Says}
use Rattle.psci_script.specs.declared.fault.Replayed.{Replayed}
use Rattle.psci_script.specs.declared.fault.ScriptFault.{ScriptFault}
use Rattle.psci_script.specs.declared.fault.ScriptFault.TheVariants.{NoBoard, Line, Long}
use Rattle.psci_script.specs.declared.fault.ScriptFault.TheVariants.{TooMany}
use Rattle.psci_script.specs.declared.fault.ReplayFault.{ReplayFault}
use Rattle.psci_script.specs.declared.fault.ReplayFault.TheVariants.{Script, Board}
use Rattle.psci_script.specs.EventText.{line_of, lines, longest_line, most_lines}
use Rattle.psci_script.specs.Text.{answer_line}

-- what a script is answered
pub record Transcript : Type 0 where
  -- the answer lines of the events before the first fault
  pub text : List ℕ
  -- the numbers of lines and events, or the first fault
  pub end : Result Replayed ReplayFault

-- nothing was answered before this end
abbrev pub ends_unanswered : Result Replayed ReplayFault → Transcript
ends_unanswered end = record { text = []; end = end }

-- the same with this text before it
abbrev pub after_line : List ℕ → Transcript → Transcript
after_line line t = record { text = line ++ t.text; end = t.end }

-- One line --------------------------------------------------------------------------------------

-- too many lines come first, then a line that is too long
abbrev pub sized : {A : Type 0} → ℕ → List ℕ → Result A ScriptFault → Result A ScriptFault
sized number line what =
    if nat_lt most_lines number then Err TooMany
    else (if nat_lt longest_line (length line) then Err Long else what)

-- the value, or this fault where there is none
abbrev pub ok_or : {A : Type 0} → Option A → ScriptFault → Result A ScriptFault
ok_or None fault = Err fault
ok_or (Some x) fault = Ok x

-- what a line after the first says, or the first thing that is wrong with it
abbrev pub line_said : ℕ → List ℕ → Result LineSays ScriptFault
line_said number line = sized number line (ok_or (line_of line) Line)

-- the board text in the first line
abbrev pub board_line : List ℕ → Result (List ℕ) ScriptFault
board_line line = sized 1 line (ok_or (literal_at (codes "board ") line) NoBoard)

-- All lines -------------------------------------------------------------------------------------

-- What the line of this number is answered after these records, the newest first, with the lines
-- after it. Of an event that is said which is legal after the records, in an answer line whose
-- number is that of the records with it.
abbrev pub transcript_of_line : BoardValue → List Record → ℕ → Result LineSays ScriptFault
    → (List Record → Transcript) → Transcript
transcript_of_line b past number (Err fault) rest = ends_unanswered (Err (Script number fault))
transcript_of_line b past number (Ok Blank) rest = rest past
transcript_of_line b past number (Ok (Says event)) rest =
    after_line (answer_line (length past + 1) (legal b past event))
    (rest (legal_record b past event ∷ past))

-- what the lines after the first so many ones are answered
unfoldable pub transcript_of_rest : BoardValue → List Record → ℕ → List (List ℕ)
    → Transcript
transcript_of_rest b past count [] =
    ends_unanswered (Ok (record { lines = count; events = length past }))
transcript_of_rest b past count (l ∷ ls) =
    transcript_of_line b past (count + 1) (line_said (count + 1) l)
    (λ records. transcript_of_rest b records (count + 1) ls)

-- what the lines after the board line are answered, by its board
abbrev pub transcript_of_board : Result BoardValue BoardFault → List (List ℕ) → Transcript
transcript_of_board (Err fault) ls = ends_unanswered (Err (Board fault))
transcript_of_board (Ok b) ls = transcript_of_rest b [] 1 ls

-- what all lines are answered, by the board text of the first, and the lines after it
abbrev pub transcript_of_first : Result (List ℕ) ScriptFault → List (List ℕ) → Transcript
transcript_of_first (Err fault) ls = ends_unanswered (Err (Script 1 fault))
transcript_of_first (Ok text) ls = transcript_of_board (board_of text) ls

-- what these lines are answered
abbrev pub transcript_of_lines : List (List ℕ) → Transcript
transcript_of_lines [] = ends_unanswered (Err (Script 1 NoBoard))
transcript_of_lines (l ∷ ls) = transcript_of_first (board_line l) ls

-- what the bytes of a script are answered
unfoldable pub transcript : List ℕ → Transcript
transcript bytes = transcript_of_lines (lines bytes)
