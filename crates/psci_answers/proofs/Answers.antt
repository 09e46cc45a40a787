-- What was told of a run is its answer text, or a front part of it.
use Rattle.std.proofs.Common.{◌++◌, ◌+◌, ◌∙◌, ◌∷◌, ◌≡◌, [], ap, append-nil, append_assoc, drop}
use Rattle.std.proofs.Common.{Err, length, List, None, Ok, Option, refl, Result, Some, subst}
use Rattle.std.proofs.Common.{sym, take, ℕ}
use Rattle.std.proofs.Math.Seq.{take-append_seam}
use Rattle.std.proofs.lemmas.List.{take-append-drop}
use Rattle.std.specs.Io.KnownBytes.{Appends}
use Rattle.psci_script.specs.psci_board.Board.{BoardValue}
use Rattle.psci_script.specs.psci_board.Verdict.{board_of}
use Rattle.psci_script.specs.psci_board.declared.fault.BoardFault.{BoardFault}
use Rattle.psci_script.specs.psci_world_spec.declared.said.Record.{Record}
use Rattle.psci_script.specs.declared.fault.Replayed.{Replayed}
use Rattle.psci_script.specs.declared.fault.ReplayFault.{ReplayFault}
use Rattle.psci_script.specs.declared.fault.ReplayFault.TheVariants.{Board, Memory, Read, Script}
use Rattle.psci_script.specs.declared.fault.ReplayFault.TheVariants.{Write}
use Rattle.psci_script.specs.declared.fault.ScriptFault.{ScriptFault}
use Rattle.psci_script.specs.EventText.{lines}
use Rattle.psci_script.specs.Script.{board_line, transcript, transcript_of_board}
use Rattle.psci_script.specs.Script.{transcript_of_first, transcript_of_lines}
use Rattle.psci_script.specs.Text.{answer_line}
use Rattle.psci_script.specs.Progress.{AnswersLines, AnswersPart, Replays, WritesAnswers}
use Rattle.psci_script.specs.Told.{GoesOn, run_by, run_of, run_of_lines, run_on, ScriptRun}
use Rattle.psci_script.specs.Told.{Tells, TellsAll, TellsLines, TellsPart}
use Rattle.psci_answers.specs.ScriptRun.{AnswersRun, text_of}
use Rattle.psci_answers.proofs.ScriptRuns.{rest_text}

-- The answer text of a script is that of its run --------------------------------------------------

board_answers : (r : Result BoardValue BoardFault) (ls : List (List ℕ))
    → AnswersRun (run_on r ls) (transcript_of_board r ls).text
board_answers (Err fault) ls = refl
board_answers (Ok b) ls = rest_text b [] 1 ls

first_answers : (r : Result (List ℕ) ScriptFault) (ls : List (List ℕ))
    → AnswersRun (run_by r ls) (transcript_of_first r ls).text
first_answers (Err fault) ls = refl
first_answers (Ok text) ls = board_answers (board_of text) ls

lines_answers : (ls : List (List ℕ)) → AnswersRun (run_of_lines ls) (transcript_of_lines ls).text
lines_answers [] = refl
lines_answers (l ∷ ls) = first_answers (board_line l) ls

answers : (bytes : List ℕ) → AnswersRun (run_of bytes) (transcript bytes).text
unfolding transcript
answers bytes = lines_answers (lines bytes)

-- One text ----------------------------------------------------------------------------------------

one_text : (run : Option ScriptRun) (x y : List ℕ) → AnswersRun run x → AnswersRun run y → x ≡ y
one_text None x y h k = h ∙ sym k
one_text (Some run) x y h k = h ∙ sym k

text_grows : (newer past : List Record)
    → (more : List ℕ) × (text_of (newer ++ past) ≡ text_of past ++ more)
text_grows [] past = ([], sym (append-nil (text_of past)))
text_grows (r ∷ newer) past =
    let grows = text_grows newer past in
    let line : List ℕ = answer_line (length (newer ++ past) + 1) r.said in (
      grows.0 ++ line,
      ap (λ (x : List ℕ). x ++ line) grows.1
          ∙ append_assoc (text_of past) grows.0 line,
    )

front_text : (run later : Option ScriptRun) (x y : List ℕ) → GoesOn run later → AnswersRun run x
    → AnswersRun later y → (more : List ℕ) × (y ≡ x ++ more)
front_text None later x y k h i = (y, sym (ap (λ (z : List ℕ). z ++ y) h))
front_text (Some run) None x y k h i = absurd k
front_text (Some run) (Some later) x y k h i =
    let grows = text_grows k.1 run.past in
    (grows.0, i ∙ ap text_of k.2 ∙ grows.1 ∙ ap (λ (z : List ℕ). z ++ grows.0) (sym h))

-- What a replay leaves ----------------------------------------------------------------------------

writes_answers : (end : Result Replayed ReplayFault) (first before after : Option (List ℕ))
    → TellsAll AnswersRun end first before after → WritesAnswers end first before after
writes_answers end None before after k = tt
writes_answers end (Some bytes) before after k = (
  k.0,
  subst (λ (x : List ℕ). Appends before after x)
      (one_text (run_of bytes) k.1 (transcript bytes).text k.2 (answers bytes)) k.3,
)

answers_lines : (Rest : ℕ → List ℕ → Type 0) (first left before after : Option (List ℕ))
    → TellsLines AnswersRun Rest first left before after
    → AnswersLines Rest first left before after
answers_lines Rest first left before after k = record {
  whole = k.whole;
  lines = k.lines;
  count = k.count;
  sound = k.sound;
  part = k.part;
  fits = k.fits;
  from = k.from;
  to = subst (λ (x : List ℕ). Appends before after x)
      (one_text (run_of k.whole) k.text (transcript k.whole).text k.is_told (answers k.whole)) k.to;
}

seam : (n : ℕ) (text more all : List ℕ) → all ≡ text ++ more
    → take n text ≡ take (length (take n text)) all
seam n text more all e = sym (ap (λ (x : List ℕ). take (length (take n text)) x)
    (e ∙ ap (λ (x : List ℕ). x ++ more) (sym (take-append-drop n text))
    ∙ append_assoc (take n text) (drop n text) more)
    ∙ take-append_seam (take n text) (drop n text ++ more))

answers_part : (first before after : Option (List ℕ)) → TellsPart AnswersRun first before after
    → AnswersPart first before after
answers_part None before after k = tt
answers_part (Some bytes) before after k =
    let front =
    front_text k.0 (run_of bytes) k.2 (transcript bytes).text k.1 k.3 (answers bytes) in (
      length (take k.4 k.2),
      subst (λ (x : List ℕ). Appends before after x)
          (seam k.4 k.2 front.0 (transcript bytes).text front.1) k.5,
    )

-- what was told is what a replay leaves
pub replays : (end : Result Replayed ReplayFault) (first left before after : Option (List ℕ))
    → Tells AnswersRun end first left before after → Replays end first left before after
replays (Ok replayed) first left before after k =
    writes_answers (Ok replayed) first before after k
replays (Err (Script line fault)) first left before after k =
    writes_answers (Err (Script line fault)) first before after k
replays (Err (Board fault)) first left before after k =
    writes_answers (Err (Board fault)) first before after k
replays (Err Read) first left before after k = answers_lines _ first left before after k
replays (Err Memory) first left before after k = answers_lines _ first left before after k
replays (Err Write) first left before after k = answers_part first before after k
