-- How far a replay has come, and what its steps leave: bytes read ahead, answers written, and the
-- next line found.
use Rattle.std.specs.Io.KnownBytes.{Appends, Consumes, IsAtEnd}
use Rattle.std.specs.Prelude.{◌++◌, ◌+◌, ◌<◌, ◌∷◌, ◌≡◌, ◌≤◌, ◌⊎◌, [], Bool, drop, Err, false}
use Rattle.std.specs.Prelude.{IfSome, length, List, None, Ok, Option, Result, Some, take, true}
use Rattle.std.specs.Prelude.{ℕ}
use Rattle.psci_world_spec.specs.psci_board.Board.{BoardValue}
use Rattle.psci_world_spec.specs.psci_board.Verdict.{board_of}
use Rattle.psci_script.specs.EventText.{Answered, AreWhole, block_room, has_line_feed}
use Rattle.psci_script.specs.EventText.{longest_line, most_lines, ReadAhead}
use Rattle.psci_script.specs.Device.{GaveUp}
use Rattle.psci_script.specs.Script.{board_line, transcript}
use Rattle.psci_script.specs.declared.fault.ReplayFault.{ReplayFault}
use Rattle.psci_script.specs.declared.fault.ReplayFault.TheVariants.{Board, Memory, Read, Script}
use Rattle.psci_script.specs.declared.fault.ReplayFault.TheVariants.{Write}
use Rattle.psci_script.specs.declared.fault.Replayed.{Replayed}
use Rattle.psci_script.specs.declared.fault.ScriptFault.{ScriptFault}
use Rattle.psci_script.specs.declared.fault.ScriptFault.TheVariants.{Line, Long, NoBoard}
use Rattle.psci_script.specs.declared.fault.ScriptFault.TheVariants.{TooMany}
use Rattle.psci_script.specs.declared.grammar.Line.{Line as LineSays}
use Rattle.psci_script.specs.declared.transfer.Extent.{Extent}
use Rattle.psci_script.specs.declared.telling.Progress.{Progress as Fields}

-- how far a replay has come
pub record Progress : Type 0 where
  -- the bytes that were read ahead
  pub block : ReadAhead
  -- the bytes that the source has left
  pub left : Option (List ℕ)
  -- the answers to the events so far
  pub answered : Answered
  -- the bytes that the sink took
  pub taken : Option (List ℕ)

-- the progress with these parts
abbrev pub progress : ReadAhead → Option (List ℕ) → Answered → Option (List ℕ) → Progress
progress block left answered taken =
    record { block = block; left = left; answered = answered; taken = taken }

-- how far the replay with these fields has come, by what its devices say is left and was taken
abbrev pub progress_of : {S K : Type 0} → (S → Option (List ℕ)) → (K → Option (List ℕ))
    → Fields S K → Progress
progress_of left taken p =
    progress p.block.now (left p.source.now) p.answers.now (taken p.sink.now)

-- a replay that has not begun: nothing was read or answered
abbrev pub first_progress : Option (List ℕ) → Option (List ℕ) → Progress
first_progress left taken =
    progress (record { unread = []; ended = false }) left (record {
      waiting =
          [];
      events = 0;
    }) taken

-- the replay with these fields has not begun
abbrev pub IsFresh : {S K : Type 0} → (S → Option (List ℕ)) → (K → Option (List ℕ))
    → Fields S K → Type 0
IsFresh left taken p =
    progress_of left taken p ≡ first_progress (left p.source.now) (taken p.sink.now)

-- a replay keeps its devices
pub record SameDevices {S K : Type 0} (old new : Fields S K) : Type 0 where
  pub source : new.source.ghost_name ≡ old.source.ghost_name
  pub sink : new.sink.ghost_name ≡ old.sink.ghost_name

-- no device has failed since
pub record StaySound {S K : Type 0} (source_failed : S → Bool) (sink_failed : K → Bool)
    (old new : Fields S K) : Type 0 where
  pub source : source_failed new.source.now ≡ source_failed old.source.now
  pub sink : sink_failed new.sink.now ≡ sink_failed old.sink.now

-- a replay keeps its devices, of which none has failed since
pub record KeepsDevices {S K : Type 0} (source_failed : S → Bool) (sink_failed : K → Bool)
    (old new : Fields S K) : Type 0 where
  pub devices : SameDevices old new
  pub sound : StaySound source_failed sink_failed old new

-- a read fault is answered only where the source gave up, a write fault only where the sink did
abbrev pub OnlyGivenUp : {S K : Type 0} → (S → Bool) → (S → ℕ) → (K → Bool) → (K → ℕ) → S → K
    → ReplayFault → Type 0
OnlyGivenUp source_failed source_interruptions sink_failed sink_interruptions source sink fault =
    (fault ≡ Read → GaveUp (source_failed source) (source_interruptions source))
    × (fault ≡ Write → GaveUp (sink_failed sink) (sink_interruptions sink))

-- Bytes were read ahead, and answers that waited were written. After the end nothing is read.
pub record Ahead (s t : Progress) : Type 0 where
  pub bytes : List ℕ
  pub appended : t.block.unread ≡ s.block.unread ++ bytes
  pub from : Consumes s.left t.left bytes
  pub ended : s.block.ended ≡ true → (t.block.ended ≡ true) × (bytes ≡ [])
  pub at_end : (s.block.ended ≡ true → IsAtEnd s.left) → t.block.ended ≡ true → IsAtEnd t.left
  pub written : List ℕ
  pub waits : s.answered.waiting ≡ written ++ t.answered.waiting
  pub to : Appends s.taken t.taken written
  pub events : t.answered.events ≡ s.answered.events

-- The same, until a write failed after a front part of what waited.
pub record WriteFailed (s t : Progress) : Type 0 where
  pub before : Progress
  pub ahead : Ahead s before
  pub count : ℕ
  pub to : Appends before.taken t.taken (take count before.answered.waiting)
  pub left : t.left ≡ before.left

-- The same, until a read failed; no answer waited any more.
pub record ReadFailed (s t : Progress) : Type 0 where
  pub ahead : Ahead s t
  pub none_wait : t.answered.waiting ≡ []
  pub going : t.block.ended ≡ false

-- what a failed attempt to read ahead leaves
abbrev pub FailsAhead : ReplayFault → Progress → Progress → Type 0
FailsAhead Read s t = ReadFailed s t × (t.block.unread ≡ s.block.unread)
FailsAhead Write s t = WriteFailed s t
FailsAhead Memory s t = ⊥
FailsAhead (Board fault) s t = ⊥
FailsAhead (Script line fault) s t = ⊥

-- what an attempt to read ahead leaves: whether bytes came, or a fault
abbrev pub ReadsAhead : Result Bool ReplayFault → Progress → Progress → Type 0
ReadsAhead (Ok true) s t = Ahead s t × (length s.block.unread < length t.block.unread)
ReadsAhead (Ok false) s t =
    Ahead s t × (t.block.unread ≡ s.block.unread) × (t.block.ended ≡ true)
ReadsAhead (Err fault) s t = FailsAhead fault s t

-- a line with its line feed, or the last one without
abbrev pub IsLine : Extent → ReadAhead → Type 0
IsLine e block =
    (e.line ≤ longest_line) × (has_line_feed (take e.line block.unread) ≡ false)
    × (((e.taken ≡ e.line + 1) × (e.line < length block.unread)
    × (block.unread ≡ take e.line block.unread ++ 10 ∷ drop e.taken block.unread))
    ⊎ ((e.taken ≡ e.line) × (e.line ≡ length block.unread) × (0 < e.line)
    × (block.ended ≡ true)))

-- what a line at fault leaves
abbrev pub FaultyLine : ℕ → ScriptFault → Progress → Type 0
FaultyLine n TooMany t = (most_lines < n) × (0 < length t.block.unread)
FaultyLine n Long t =
    (n ≤ most_lines) × (longest_line < length t.block.unread)
    × (has_line_feed (take (longest_line + 1) t.block.unread) ≡ false)
FaultyLine n Line t = ⊥
FaultyLine n NoBoard t = ⊥

-- the front of the line of number n, which is not at fault yet
abbrev pub IsLineFront : ℕ → List ℕ → Type 0
IsLineFront n part =
    (has_line_feed part ≡ false) × (length part ≤ longest_line)
    × (0 < length part → n ≤ most_lines)

-- what a failed call for the line of number n leaves
abbrev pub FailsLine : ℕ → ReplayFault → Progress → Progress → Type 0
FailsLine n (Script line fault) s t = Ahead s t × (line ≡ n) × FaultyLine n fault t
FailsLine n Read s t = ReadFailed s t × IsLineFront n t.block.unread
FailsLine n Write s t = WriteFailed s t
FailsLine n Memory s t = ⊥
FailsLine n (Board fault) s t = ⊥

-- what a call for the line of number n leaves
abbrev pub FindsLine : ℕ → Result (Option Extent) ReplayFault → Progress → Progress → Type 0
FindsLine n (Ok (Some e)) s t = Ahead s t × IsLine e t.block × (n ≤ most_lines)
FindsLine n (Ok None) s t = Ahead s t × (t.block.unread ≡ []) × (t.block.ended ≡ true)
FindsLine n (Err fault) s t = FailsLine n fault s t

-- What a replay leaves when it ends, and what its lines answer ------------------------------------

-- what may follow the lines that were taken: anything, but after the end only what was read
abbrev pub Follows : ReadAhead → List ℕ → Type 0
Follows block rest = block.ended ≡ true → (n : ℕ) × (rest ≡ take n block.unread)

-- there are so many lines, and none is at fault
abbrev pub AreSound : ℕ → List ℕ → Type 0
AreSound count bytes =
    ((count ≡ 0) × (bytes ≡ []))
    ⊎ ((events : ℕ)
    × ((transcript bytes).end ≡ Ok (record { lines = count; events = events })))

-- what was read ahead after the lines before that of number n: one block at most
abbrev pub IsWithinBlock : ℕ → List ℕ → Type 0
IsWithinBlock n part = length part ≤ block_room

-- a write failed
abbrev pub is_write_fault : Result Replayed ReplayFault → Bool
is_write_fault (Ok replayed) = false
is_write_fault (Err (Script line fault)) = false
is_write_fault (Err (Board fault)) = false
is_write_fault (Err Read) = false
is_write_fault (Err Write) = true
is_write_fault (Err Memory) = false

-- Of a replay ---------------------------------------------------------------------------------

-- the answer text of the script was written, which ends so
abbrev pub WritesAnswers : Result Replayed ReplayFault → Option (List ℕ) → Option (List ℕ)
    → Option (List ℕ) → Type 0
WritesAnswers end first before after = IfSome first (λ bytes.
    ((transcript bytes).end ≡ end) × Appends before after (transcript bytes).text)

-- Whole lines were read, none of them at fault, and exactly these are answered.
pub record AnswersLines (Rest : ℕ → List ℕ → Type 0)
    (first left before after : Option (List ℕ)) : Type 0 where
  pub whole : List ℕ
  pub lines : AreWhole whole
  pub count : ℕ
  pub sound : AreSound count whole
  -- what was read after them
  pub part : List ℕ
  pub fits : Rest (count + 1) part
  pub from : Consumes first left (whole ++ part)
  pub to : Appends before after (transcript whole).text

-- a front part of the answer text was written
abbrev pub AnswersPart : Option (List ℕ) → Option (List ℕ) → Option (List ℕ) → Type 0
AnswersPart first before after = IfSome first (λ bytes.
    (n : ℕ) × Appends before after (take n (transcript bytes).text))

-- what a replay leaves, by its answer
abbrev pub Replays : Result Replayed ReplayFault → Option (List ℕ) → Option (List ℕ)
    → Option (List ℕ) → Option (List ℕ) → Type 0
Replays (Ok replayed) first left before after = WritesAnswers (Ok replayed) first before after
Replays (Err (Script line fault)) first left before after =
    WritesAnswers (Err (Script line fault)) first before after
Replays (Err (Board fault)) first left before after =
    WritesAnswers (Err (Board fault)) first before after
Replays (Err Read) first left before after =
    AnswersLines IsLineFront first left before after
Replays (Err Memory) first left before after =
    AnswersLines IsWithinBlock first left before after
Replays (Err Write) first left before after = AnswersPart first before after

-- the board of a first line, or what is wrong with it
abbrev pub BoardRead : Result BoardValue ReplayFault → List ℕ → Type 0
BoardRead (Ok b) line = (text : List ℕ) × (board_line line ≡ Ok text) × (board_of text ≡ Ok b)
BoardRead (Err (Script number fault)) line = (number ≡ 1) × (board_line line ≡ Err fault)
BoardRead (Err (Board fault)) line =
    (text : List ℕ) × (board_line line ≡ Ok text) × (board_of text ≡ Err fault)
BoardRead (Err Memory) line = Unit {0}
BoardRead (Err Read) line = ⊥
BoardRead (Err Write) line = ⊥

-- why a line is not answered: it is outside the grammar, or memory ran out
abbrev pub LineRefused : ReplayFault → ℕ → Option LineSays → Type 0
LineRefused Memory number line = Unit {0}
LineRefused (Script n fault) number line = (n ≡ number) × (fault ≡ Line) × (line ≡ None)
LineRefused (Board fault) number line = ⊥
LineRefused Read number line = ⊥
LineRefused Write number line = ⊥

-- a fault of the script or of memory, and of no device
abbrev pub IsNoDevice : ReplayFault → Type 0
IsNoDevice Memory = Unit {0}
IsNoDevice (Script n fault) = Unit {0}
IsNoDevice (Board fault) = Unit {0}
IsNoDevice Read = ⊥
IsNoDevice Write = ⊥
