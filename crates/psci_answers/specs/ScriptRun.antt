-- What the answer lines of a script's run say of the world.
use Rattle.std.specs.Prelude.{◌++◌, ◌+◌, ◌∷◌, ◌≡◌, [], Err, IfSome, length, List, None, Ok}
use Rattle.std.specs.Prelude.{Option, Result, Some, take, ℕ}
use Rattle.std.specs.Io.KnownBytes.{Appends}
use Rattle.psci_machine.specs.Safe.{AlwaysSafe}
use Rattle.psci_script.specs.psci_world_spec.declared.said.Record.{Record}
use Rattle.psci_script.specs.psci_world_spec.Legal.{IsLegalPast}
use Rattle.psci_script.specs.declared.fault.Replayed.{Replayed}
use Rattle.psci_script.specs.declared.fault.ReplayFault.{ReplayFault}
use Rattle.psci_script.specs.declared.fault.ReplayFault.TheVariants.{Board, Memory, Read, Script}
use Rattle.psci_script.specs.declared.fault.ReplayFault.TheVariants.{Write}
use Rattle.psci_script.specs.Script.{transcript}
use Rattle.psci_script.specs.Text.{answer_line}
use Rattle.psci_script.specs.Told.{ScriptRun, run_of}

-- the answer lines of records, the oldest first
abbrev pub text_of : List Record → List ℕ
text_of [] = []
text_of (r ∷ past) = text_of past ++ answer_line (length past + 1) r.said

-- what is told of a run in a replay: its answer lines, and nothing before there is a board
abbrev pub AnswersRun : Option ScriptRun → List ℕ → Type 0
AnswersRun None text = text ≡ []
AnswersRun (Some run) text = text ≡ text_of run.past

-- The answer text of a script is that of its run, which is legal, and safe at every moment.
pub record IsSafeText (answers : List ℕ) (run : ScriptRun) : Type 0 where
  pub text : answers ≡ text_of run.past
  pub legal : IsLegalPast run.board run.past
  pub safe : AlwaysSafe run.board run.past

-- a script without a board is answered nothing
abbrev pub SaysRun : List ℕ → Option ScriptRun → Type 0
SaysRun text None = text ≡ []
SaysRun text (Some run) = IsSafeText text run

-- the answer text of every script is that of a legal run, which is safe at every moment
abbrev pub AllSafe : Type 0
AllSafe = (bytes : List ℕ) → SaysRun (transcript bytes).text (run_of bytes)

-- What was written -----------------------------------------------------------------------------

-- the answer text of these bytes was written, that of a legal run, safe at every moment
abbrev pub WritesRun : List ℕ → Option (List ℕ) → Option (List ℕ) → Type 0
WritesRun bytes before after =
    SaysRun (transcript bytes).text (run_of bytes) × Appends before after (transcript bytes).text

-- a front part of it was
abbrev pub WritesPart : List ℕ → Option (List ℕ) → Option (List ℕ) → Type 0
WritesPart bytes before after = SaysRun (transcript bytes).text (run_of bytes)
    × (n : ℕ) × Appends before after (take n (transcript bytes).text)

-- A replay prints a legal run, safe at every moment: that of the script, where it ends well or at a
-- fault of the script; that of some whole lines where a read failed or memory ran out; and a front
-- part of the script's where a write failed.
abbrev pub Prints : Result Replayed ReplayFault → Option (List ℕ) → Option (List ℕ)
    → Option (List ℕ) → Type 0
Prints (Ok replayed) first before after = IfSome first (λ bytes. WritesRun bytes before after)
Prints (Err (Script line fault)) first before after =
    IfSome first (λ bytes. WritesRun bytes before after)
Prints (Err (Board fault)) first before after =
    IfSome first (λ bytes. WritesRun bytes before after)
Prints (Err Read) first before after = (whole : List ℕ) × WritesRun whole before after
Prints (Err Memory) first before after = (whole : List ℕ) × WritesRun whole before after
Prints (Err Write) first before after = IfSome first (λ bytes. WritesPart bytes before after)
