-- What is told of a script on its way, line by line, and what is told in all.
use Rattle.std.specs.Io.KnownBytes.{Appends, Consumes, IsAtEnd}
use Rattle.std.specs.Prelude.{◌++◌, ◌+◌, ◌<◌, ◌∷◌, ◌≡◌, ◌≤◌, [], Bool, Err, IfSome, length, List}
use Rattle.std.specs.Prelude.{None, Ok, Option, Result, Some, take, true, ℕ}
use Rattle.psci_world_spec.specs.Legal.{legal_record, run_from}
use Rattle.psci_world_spec.specs.declared.event.Event.{Event}
use Rattle.psci_world_spec.specs.declared.said.Record.{Record}
use Rattle.psci_world_spec.specs.psci_board.Board.{BoardValue}
use Rattle.psci_world_spec.specs.psci_board.Verdict.{board_of}
use Rattle.psci_world_spec.specs.psci_board.declared.fault.BoardFault.{BoardFault}
use Rattle.psci_script.specs.EventText.{Answered, AreWhole, lines}
use Rattle.psci_script.specs.Progress.{AreSound, Follows, IsFresh, IsLineFront, IsWithinBlock}
use Rattle.psci_script.specs.Progress.{Progress}
use Rattle.psci_script.specs.Script.{board_line, line_said, transcript, transcript_of_lines}
use Rattle.psci_script.specs.Script.{transcript_of_rest}
use Rattle.psci_script.specs.declared.fault.ReplayFault.{ReplayFault}
use Rattle.psci_script.specs.declared.fault.ReplayFault.TheVariants.{Board, Memory, Read, Script}
use Rattle.psci_script.specs.declared.fault.ReplayFault.TheVariants.{Write}
use Rattle.psci_script.specs.declared.fault.Replayed.{Replayed}
use Rattle.psci_script.specs.declared.fault.ScriptFault.{ScriptFault}
use Rattle.psci_script.specs.declared.grammar.Line.{Line as LineSays}
use Rattle.psci_script.specs.declared.grammar.Line.TheVariants.{Blank, Event as Says}
use Rattle.psci_script.specs.declared.telling.Progress.{Progress as Fields}

-- The run of a script: its board, and the records of its events -----------------------------------

-- The run of a script: its board, and the records of its events, the newest first.
pub record ScriptRun : Type 0 where
  pub board : BoardValue
  pub past : List Record

-- what a line says, before the events that the lines after it say
abbrev pub with_event : Result LineSays ScriptFault → List Event → List Event
with_event (Err fault) rest = []
with_event (Ok Blank) rest = rest
with_event (Ok (Says event)) rest = event ∷ rest

-- the events that the lines after the first so many ones say, up to the first fault
unfoldable pub events_of : ℕ → List (List ℕ) → List Event
events_of count [] = []
events_of count (l ∷ ls) = with_event (line_said (count + 1) l) (events_of (count + 1) ls)

-- the run of these lines in the world of a board
abbrev pub run_on : Result BoardValue BoardFault → List (List ℕ) → Option ScriptRun
run_on (Err fault) ls = None
run_on (Ok b) ls = Some (record { board = b; past = run_from b [] (events_of 1 ls) })

-- the same, by the board text of the first line
abbrev pub run_by : Result (List ℕ) ScriptFault → List (List ℕ) → Option ScriptRun
run_by (Err fault) ls = None
run_by (Ok text) ls = run_on (board_of text) ls

-- the run of the lines of a script, of which the first is its board line
abbrev pub run_of_lines : List (List ℕ) → Option ScriptRun
run_of_lines [] = None
run_of_lines (l ∷ ls) = run_by (board_line l) ls

-- the run of the bytes of a script, if it has a board
abbrev pub run_of : List ℕ → Option ScriptRun
run_of bytes = run_of_lines (lines bytes)

-- the run with the one record that is legal of an event after it
abbrev pub with_record : ScriptRun → Event → ScriptRun
with_record run event = record {
  board = run.board;
  past = legal_record run.board run.past event ∷ run.past;
}

-- the second run has all records of the first, and maybe newer ones; before a board there is none
abbrev pub GoesOn : Option ScriptRun → Option ScriptRun → Type 0
GoesOn None later = Unit {0}
GoesOn (Some run) None = ⊥
GoesOn (Some run) (Some later) =
    (later.board ≡ run.board) × (newer : List Record) × (later.past ≡ newer ++ run.past)

-- Told --------------------------------------------------------------------------------------------

-- What may be told of a run, or before there is one. Of a replay these are its answer lines.
abbrev pub Telling : Type 1
Telling = Option ScriptRun → List ℕ → Type 0

-- a replay that has not begun, of which nothing is told as long as there is no run
pub record IsUntold {S K : Type 0} (told : Telling) (left : S → Option (List ℕ))
    (taken : K → Option (List ℕ)) (p : Fields S K) : Type 0 where
  pub fresh : IsFresh left taken p
  pub nothing : told None []

-- How a script comes out: its run, if it has a board, and its end.
pub record Account : Type 0 where
  pub run : Option ScriptRun
  pub end : Result Replayed ReplayFault

-- how the bytes of a script come out
abbrev pub account : List ℕ → Account
account bytes = record { run = run_of bytes; end = (transcript bytes).end }

-- how the remaining lines come out, after this run of so many lines, or before the first line
abbrev pub remaining : Option ScriptRun → ℕ → List (List ℕ) → Account
remaining None count ls =
    record { run = run_of_lines ls; end = (transcript_of_lines ls).end }
remaining (Some run) count ls = record {
  run = Some (record {
    board = run.board;
    past = run_from run.board run.past (events_of count ls);
  });
  end = (transcript_of_rest run.board run.past count ls).end;
}

-- how many events a run has
abbrev pub events_in : Option ScriptRun → ℕ
events_in None = 0
events_in (Some run) = length run.past

-- On the way ------------------------------------------------------------------------------------

-- what an event leaves, after a run: its record is told too
pub record EventTold (told : Telling) (run : ScriptRun) (event : Event) (old new : Answered)
    : Type 0 where
  pub events : new.events ≡ length (with_record run event).past
  pub more : (text : List ℕ) → told (Some run) (text ++ old.waiting)
      → told (Some (with_record run event)) (text ++ new.waiting)

-- what a line leaves, by what it says
abbrev pub LineTold : (ScriptRun → Type 0) → Telling → Option LineSays → ScriptRun → Answered
    → Answered → Type 0
LineTold is_at told None run old new = ⊥
LineTold is_at told (Some Blank) run old new = is_at run × (new ≡ old)
LineTold is_at told (Some (Says event)) run old new =
    is_at (with_record run event) × EventTold told run event old new

-- So many lines were taken, and this run of theirs was told: whatever follows comes out as the
-- lines that remain.
pub record Goes (told : Telling) (run : Option ScriptRun) (count : ℕ)
    (first before : Option (List ℕ)) (s : Progress) : Type 0 where
  -- the bytes of the lines that were taken
  pub whole : List ℕ
  pub from : Consumes first s.left (whole ++ s.block.unread)
  pub at_end : s.block.ended ≡ true → IsAtEnd s.left
  -- what was written
  pub written : List ℕ
  pub to : Appends before s.taken written
  pub is_told : told run (written ++ s.answered.waiting)
  pub comes : (rest : List ℕ) → Follows s.block rest
      → account (whole ++ rest) ≡ remaining run count (lines rest)
  pub none : run ≡ None → whole ≡ []
  pub events : s.answered.events ≡ events_in run
  -- only the last line of a script may have no line feed
  pub lines : (s.block.ended ≡ true → 0 < length s.block.unread) → AreWhole whole

-- The same, of a teller that stands after that run, of at most one event for each line.
pub record IsUnderWay (is_at : ScriptRun → Type 0) (told : Telling) (count : ℕ)
    (first before : Option (List ℕ)) (s : Progress) : Type 0 where
  pub run : ScriptRun
  pub at : is_at run
  pub few : length run.past ≤ count
  pub goes : Goes told (Some run) count first before s

-- The script came to an end, or to its first fault, and its run was told.
pub record Ended (told : Telling) (end : Result Replayed ReplayFault)
    (first before : Option (List ℕ)) (s : Progress) : Type 0 where
  -- the bytes that were read
  pub read : List ℕ
  pub from : Consumes first s.left read
  pub at_end : s.block.ended ≡ true → IsAtEnd s.left
  pub written : List ℕ
  pub to : Appends before s.taken written
  pub run : Option ScriptRun
  pub is_told : told run (written ++ s.answered.waiting)
  pub comes : (rest : List ℕ) → (s.block.ended ≡ true → rest ≡ [])
      → account (read ++ rest) ≡ record { run = run; end = end }

-- A read failed or memory ran out after whole lines, whose run was told.
pub record CutShort (told : Telling) (Rest : ℕ → List ℕ → Type 0)
    (first before : Option (List ℕ)) (s : Progress) : Type 0 where
  pub whole : List ℕ
  pub lines : AreWhole whole
  pub count : ℕ
  pub sound : AreSound count whole
  -- what was read after them
  pub part : List ℕ
  pub fits : Rest (count + 1) part
  pub from : Consumes first s.left (whole ++ part)
  pub at_end : s.block.ended ≡ true → IsAtEnd s.left
  pub written : List ℕ
  pub to : Appends before s.taken written
  pub run : Option ScriptRun
  pub is_told : told run (written ++ s.answered.waiting)
  pub is_run : run_of whole ≡ run
  -- whatever follows, the run goes on
  pub more : (rest : List ℕ) → (s.block.ended ≡ true → rest ≡ [])
      → GoesOn run (run_of ((whole ++ part) ++ rest))

-- A write failed: a front part of what was told was written.
pub record Unwritten (told : Telling) (first before left taken : Option (List ℕ)) : Type 0 where
  pub read : List ℕ
  pub from : Consumes first left read
  pub ended : Bool
  pub at_end : ended ≡ true → IsAtEnd left
  pub run : Option ScriptRun
  pub text : List ℕ
  pub is_told : told run text
  pub count : ℕ
  pub to : Appends before taken (take count text)
  pub more : (rest : List ℕ) → (ended ≡ true → rest ≡ []) → GoesOn run (run_of (read ++ rest))

-- what a run leaves that ended early
abbrev pub EndsBy : Telling → ReplayFault → Option (List ℕ) → Option (List ℕ) → Progress → Type 0
EndsBy told (Script line fault) first before s = Ended told (Err (Script line fault)) first before s
EndsBy told (Board fault) first before s = Ended told (Err (Board fault)) first before s
EndsBy told Read first before s = CutShort told IsLineFront first before s
EndsBy told Memory first before s = CutShort told IsWithinBlock first before s
EndsBy told Write first before s = Unwritten told first before s.left s.taken

-- what a run leaves, by how it ended
abbrev pub Runs : Telling → Result Replayed ReplayFault → Option (List ℕ) → Option (List ℕ)
    → Progress → Type 0
Runs told (Ok replayed) first before s = Ended told (Ok replayed) first before s
Runs told (Err fault) first before s = EndsBy told fault first before s

-- Of a script -----------------------------------------------------------------------------------

-- a replay of the script ends so, and its run was told
abbrev pub TellsAll : Telling → Result Replayed ReplayFault → Option (List ℕ) → Option (List ℕ)
    → Option (List ℕ) → Type 0
TellsAll told end first before after = IfSome first (λ bytes.
    ((transcript bytes).end ≡ end)
    × (text : List ℕ) × told (run_of bytes) text × Appends before after text)

-- Whole lines were read, none of them at fault, and exactly their run was told.
pub record TellsLines (told : Telling) (Rest : ℕ → List ℕ → Type 0)
    (first left before after : Option (List ℕ)) : Type 0 where
  pub whole : List ℕ
  pub lines : AreWhole whole
  pub count : ℕ
  pub sound : AreSound count whole
  -- what was read after them
  pub part : List ℕ
  pub fits : Rest (count + 1) part
  pub from : Consumes first left (whole ++ part)
  pub text : List ℕ
  pub is_told : told (run_of whole) text
  pub to : Appends before after text

-- a front part was written of what is told of a run that the script's goes on from
abbrev pub TellsPart : Telling → Option (List ℕ) → Option (List ℕ) → Option (List ℕ) → Type 0
TellsPart told first before after = IfSome first (λ bytes.
    (run : Option ScriptRun) × GoesOn run (run_of bytes)
    × (text : List ℕ) × told run text × (n : ℕ) × Appends before after (take n text))

-- what a told script leaves, by its answer
abbrev pub Tells : Telling → Result Replayed ReplayFault → Option (List ℕ) → Option (List ℕ)
    → Option (List ℕ) → Option (List ℕ) → Type 0
Tells told (Ok replayed) first left before after = TellsAll told (Ok replayed) first before after
Tells told (Err (Script line fault)) first left before after =
    TellsAll told (Err (Script line fault)) first before after
Tells told (Err (Board fault)) first left before after =
    TellsAll told (Err (Board fault)) first before after
Tells told (Err Read) first left before after =
    TellsLines told IsLineFront first left before after
Tells told (Err Memory) first left before after =
    TellsLines told IsWithinBlock first left before after
Tells told (Err Write) first left before after = TellsPart told first before after
