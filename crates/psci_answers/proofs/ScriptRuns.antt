-- The answer text of a script is that of its run.
use Rattle.std.proofs.Common.{◌++◌, ◌+◌, ◌∙◌, ◌∷◌, ◌≡◌, [], Err, length, List, None, Ok, Option}
use Rattle.std.proofs.Common.{refl, Some, sym, ℕ}
use Rattle.std.specs.Prelude.{IfSome, Result}
use Rattle.std.proofs.lemmas.List.{append-nil, append_assoc}
use Rattle.psci_script.specs.psci_board.Board.{BoardValue, IsBoard}
use Rattle.psci_script.specs.psci_board.Verdict.{board_of}
use Rattle.psci_script.specs.psci_board.declared.fault.BoardFault.{BoardFault}
use Rattle.psci_machine.specs.Safe.{AlwaysSafe}
use Rattle.psci_script.specs.psci_world_spec.declared.event.Event.{Event}
use Rattle.psci_script.specs.psci_world_spec.declared.said.Record.{Record}
use Rattle.psci_script.specs.psci_world_spec.Legal.{IsLegalPast, legal, legal_record, run_from}
use Rattle.psci_script.specs.declared.fault.Replayed.{Replayed}
use Rattle.psci_script.specs.declared.fault.ReplayFault.{ReplayFault}
use Rattle.psci_script.specs.declared.fault.ReplayFault.TheVariants.{Memory, Read, Write}
use Rattle.psci_script.specs.declared.fault.ScriptFault.{ScriptFault}
use Rattle.psci_script.specs.declared.grammar.Line.{Line as LineSays}
use Rattle.psci_script.specs.declared.grammar.Line.TheVariants.{Blank, Event as Says}
use Rattle.psci_script.specs.EventText.{lines}
use Rattle.psci_script.specs.Script.{board_line, line_said, transcript, Transcript}
use Rattle.psci_script.specs.Script.{transcript_of_board, transcript_of_first}
use Rattle.psci_script.specs.Script.{transcript_of_line, transcript_of_lines, transcript_of_rest}
use Rattle.psci_script.specs.Progress.{WritesAnswers, AnswersPart, Replays}
use Rattle.psci_script.specs.Told.{events_of, run_by, run_of_lines, run_on, with_event}
use Rattle.psci_answers.specs.ScriptRun.{AllSafe, Prints, SaysRun, WritesPart, WritesRun}
use Rattle.psci_answers.specs.ScriptRun.{text_of}
use Rattle.psci_script.specs.Text.{answer_line}

-- what a line says is answered as its event happens, and then the lines after it
line_text : (b : BoardValue) (past : List Record) (number : ℕ)
    (said : Result LineSays ScriptFault) (rest : List Record → Transcript) (events : List Event)
    → ((records : List Record) → text_of records ++ (rest records).text
    ≡ text_of (run_from b records events))
    → text_of past ++ (transcript_of_line b past number said rest).text
    ≡ text_of (run_from b past (with_event said events))
unfolding run_from
line_text b past number (Err fault) rest events h = append-nil (text_of past)
line_text b past number (Ok Blank) rest events h = h past
line_text b past number (Ok (Says event)) rest events h =
    sym (append_assoc (text_of past) (answer_line (length past + 1) (legal b past event))
    (rest (legal_record b past event ∷ past)).text)
    ∙ h (legal_record b past event ∷ past)

pub rest_text : (b : BoardValue) (past : List Record) (count : ℕ) (ls : List (List ℕ))
    → text_of past ++ (transcript_of_rest b past count ls).text
    ≡ text_of (run_from b past (events_of count ls))
unfolding transcript_of_rest events_of run_from
rest_text b past count [] = append-nil (text_of past)
rest_text b past count (l ∷ ls) =
    line_text b past (count + 1) (line_said (count + 1) l)
    (λ records. transcript_of_rest b records (count + 1) ls) (events_of (count + 1) ls)
    (λ records. rest_text b records (count + 1) ls)

-- What the laws say of the run of each board.
pub record RunLaws : Type 0 where
  pub boards : (text : List ℕ) (b : BoardValue) → board_of text ≡ Ok b → IsBoard b
  pub legal : (b : BoardValue) (events : List Event) → IsLegalPast b (run_from b [] events)
  pub safe : (b : BoardValue) (past : List Record) → IsBoard b → IsLegalPast b past
      → AlwaysSafe b past

by_board : (text : List ℕ) (r : Result BoardValue BoardFault) (ls : List (List ℕ)) → RunLaws
    → board_of text ≡ r → SaysRun (transcript_of_board r ls).text (run_on r ls)
by_board text (Err fault) ls laws e = refl
by_board text (Ok b) ls laws e =
    let past : List Record = run_from b [] (events_of 1 ls) in
    let is = laws.legal b (events_of 1 ls) in
    record {
      text = rest_text b [] 1 ls;
      legal = is;
      safe = laws.safe b past (laws.boards text b e) is;
    }

by_first : (r : Result (List ℕ) ScriptFault) (ls : List (List ℕ)) → RunLaws
    → SaysRun (transcript_of_first r ls).text (run_by r ls)
by_first (Err fault) ls laws = refl
by_first (Ok text) ls laws = by_board text (board_of text) ls laws refl

by_lines : (ls : List (List ℕ)) → RunLaws
    → SaysRun (transcript_of_lines ls).text (run_of_lines ls)
by_lines [] laws = refl
by_lines (l ∷ ls) laws = by_first (board_line l) ls laws

-- the answer text of a script is that of its run
pub says_run : RunLaws → (bytes : List ℕ)
    → SaysRun (transcript bytes).text (run_of_lines (lines bytes))
unfolding transcript
says_run laws bytes = by_lines (lines bytes) laws

-- What was written ------------------------------------------------------------------------------

answers_run : (end : Result Replayed ReplayFault) (first before after : Option (List ℕ)) → AllSafe
    → WritesAnswers end first before after → IfSome first (λ bytes. WritesRun bytes before after)
answers_run end None before after safe is = tt
answers_run end (Some bytes) before after safe is = (safe bytes, is.1)

part_run : (first before after : Option (List ℕ)) → AllSafe → AnswersPart first before after
    → IfSome first (λ bytes. WritesPart bytes before after)
part_run None before after safe is = tt
part_run (Some bytes) before after safe is = (safe bytes, is.0, is.1)

-- what a replay leaves is what it prints
pub prints : (end : Result Replayed ReplayFault) (first left before after : Option (List ℕ))
    → AllSafe → Replays end first left before after → Prints end first before after
prints (Err Read) first left before after safe is = (is.whole, (safe is.whole, is.to))
prints (Err Memory) first left before after safe is = (is.whole, (safe is.whole, is.to))
prints (Err Write) first left before after safe is = part_run first before after safe is
prints end first left before after safe is = answers_run end first before after safe is
