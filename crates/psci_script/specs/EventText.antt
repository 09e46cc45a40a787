-- How event lines are spelled, and what each spelling says.
use Rattle.std.specs.Fmt.{decimal}
use Rattle.std.specs.Io.KnownBytes.{Consumes, IsAtEnd}
use Rattle.std.specs.List.{list_any}
use Rattle.std.specs.Prelude.{◌++◌, ◌+◌, ◌<◌, ◌==◌, ◌^◌, ◌∷◌, ◌≡◌, ◌≤◌, ◌⊎◌, [], Bool, codes}
use Rattle.std.specs.Prelude.{drop, false, flat_map, if◌then◌else◌, length, List, None, Option}
use Rattle.std.specs.Prelude.{option_map, Some, suc, take, true, unwrap_or, zero, ℕ}
use Rattle.std.specs.Str.Parse.{digits_value}
use Rattle.psci_board.specs.Grammar.{◌>>=◌, hex, hex_at, hex_value, IsHex, IsNumber, literal_at}
use Rattle.psci_board.specs.Grammar.{number_at, spaced_at}
use Rattle.psci_world_spec.specs.declared.event.Event.{Event}
use Rattle.psci_world_spec.specs.declared.event.Event.TheVariants.{Call, Deliver, Enter, Reset}
use Rattle.psci_world_spec.specs.declared.event.Event.TheVariants.{Take, Wake}
use Rattle.psci_world_spec.specs.declared.said.Record.{Record}
use Rattle.psci_script.specs.Text.{hexadecimal}
use Rattle.psci_script.specs.declared.grammar.Line.{Line}
use Rattle.psci_script.specs.declared.grammar.Line.TheVariants.{Blank, Event as Says}
use Rattle.psci_script.specs.declared.transfer.Front.{Front}
use Rattle.psci_script.specs.declared.transfer.Front.TheVariants.{Long, Part, Whole}

-- The answers to the events so far ----------------------------------------------------------------

-- the lines that wait, and a count of all
pub record Answered : Type 0 where
  -- the lines that were not written yet
  pub waiting : List ℕ
  -- how many events were answered
  pub events : ℕ

-- What is read ahead, and what reading ahead leaves -----------------------------------------------

-- what was read ahead
pub record ReadAhead : Type 0 where
  -- the bytes that were read and not yet taken
  pub unread : List ℕ
  -- the end of the script has come
  pub ended : Bool

-- bytes came from what was left, and stand after those that waited; none came only at the end
pub record Refills (some : Bool) (old new : ReadAhead) (left after : Option (List ℕ)) : Type 0 where
  pub bytes : List ℕ
  pub appended : new.unread ≡ old.unread ++ bytes
  pub from : Consumes left after bytes
  pub came : some ≡ true → (0 < length bytes) × (old.ended ≡ false) × (new.ended ≡ false)
  pub none : some ≡ false → (bytes ≡ []) × (new.ended ≡ true)
  pub at_end : (old.ended ≡ true → IsAtEnd left) → new.ended ≡ true → IsAtEnd after

-- The grammar of a line after the first, read from left to right ----------------------------------

-- the first of two, where there is one
abbrev pub or_else : {A : Type 0} → Option A → Option A → Option A
or_else None other = other
or_else (Some x) other = Some x

-- dec / hex
unfoldable pub register_at : List ℕ → Option (ℕ × List ℕ)
register_at bytes = or_else (option_map hex_value (hex_at bytes)) (number_at bytes)

-- [" " register], and 0 where it is missing
unfoldable pub optional_register_at : List ℕ → ℕ × List ℕ
optional_register_at bytes = unwrap_or (spaced_at register_at bytes) (0, bytes)

-- what was read, where nothing stands after it
abbrev pub whole : {A : Type 0} → A → List ℕ → Option A
whole x rest = if length rest == 0 then Some x else None

-- "call" CORE X0 [X1 [X2 [X3]]], after its first word
unfoldable pub call_at : List ℕ → Option Event
call_at bytes = do
  core ← number_at bytes
  x0 ← spaced_at register_at core.1
  let x1 = optional_register_at x0.1
  let x2 = optional_register_at x1.1
  let x3 = optional_register_at x2.1
  whole (Call core.0 (record { x0 = x0.0; x1 = x1.0; x2 = x2.0; x3 = x3.0 })) x3.1

-- CORE or K, alone
unfoldable pub alone_at : List ℕ → Option ℕ
alone_at bytes = do
  n ← number_at bytes
  whole n.0 n.1

-- the event of the number that stands after its first word
abbrev pub numbered_at : (ℕ → Event) → List ℕ → Option Event
numbered_at event bytes = option_map event (alone_at bytes)

-- what go reads after a first word, where that stands there, and else this
abbrev pub after_word : Option (List ℕ) → (List ℕ → Option Event) → Option Event → Option Event
after_word None go other = other
after_word (Some rest) go other = go rest

-- an event, by its first word
unfoldable pub event_at : List ℕ → Option Event
event_at bytes =
    after_word (literal_at (codes "call ") bytes) call_at
    (after_word (literal_at (codes "enter ") bytes) (numbered_at Enter)
    (after_word (literal_at (codes "deliver ") bytes) (numbered_at Deliver)
    (after_word (literal_at (codes "take ") bytes) (numbered_at Take)
    (after_word (literal_at (codes "wake ") bytes) (numbered_at Wake)
    (after_word (literal_at (codes "reset ") bytes) (numbered_at Reset) None)))))

-- what a line says: nothing where it is empty or a comment, else its event
unfoldable pub line_of : List ℕ → Option Line
line_of [] = Some Blank
line_of (b ∷ bs) = if b == 35 then Some Blank else option_map Says (event_at (b ∷ bs))

-- Event text --------------------------------------------------------------------------------------

-- the text of a register: a decimal number, or hexadecimal digits, since these can differ in case
-- and in leading zeros
pub data RegisterText : Type 0 where
  Decimal : ℕ → RegisterText
  Hexadecimal : List ℕ → RegisterText

-- the words that one number follows
pub data Word : Type 0 where
  EnterWord : Word
  WakeWord : Word
  ResetWord : Word
  DeliverWord : Word
  TakeWord : Word

-- an event line: a call of a core with x0 and the registers after it that are given, or a word and
-- its number
pub data EventText : Type 0 where
  CallText : ℕ → RegisterText → List RegisterText → EventText
  NumberText : Word → ℕ → EventText

-- how a register is spelled
abbrev pub register_text : RegisterText → List ℕ
register_text (Decimal n) = decimal n
register_text (Hexadecimal digits) = hex digits

-- registers, each after a space
abbrev pub registers_text : List RegisterText → List ℕ
registers_text [] = []
registers_text (r ∷ rs) = 32 ∷ register_text r ++ registers_text rs

-- how a word is spelled, with the space after it
abbrev pub word_text : Word → List ℕ
word_text EnterWord = codes "enter "
word_text WakeWord = codes "wake "
word_text ResetWord = codes "reset "
word_text DeliverWord = codes "deliver "
word_text TakeWord = codes "take "

-- how an event line is spelled
abbrev pub event_text : EventText → List ℕ
event_text (CallText core x0 rs) =
    codes "call " ++ (decimal core ++ registers_text (x0 ∷ rs))
event_text (NumberText word n) = word_text word ++ decimal n

-- the value of a register
abbrev pub register_value : RegisterText → ℕ
register_value (Decimal n) = n
register_value (Hexadecimal digits) = digits_value 16 digits

-- the value of the register of this place, 0 where it is missing
abbrev pub value_at : List RegisterText → ℕ → ℕ
value_at [] i = 0
value_at (r ∷ rs) zero = register_value r
value_at (r ∷ rs) (suc i) = value_at rs i

-- what a word says of its number
abbrev pub word_event : Word → ℕ → Event
word_event EnterWord core = Enter core
word_event WakeWord core = Wake core
word_event ResetWord core = Reset core
word_event DeliverWord k = Deliver k
word_event TakeWord k = Take k

-- the event that is spelled so
abbrev pub event_of : EventText → Event
event_of (NumberText word n) = word_event word n
event_of (CallText core x0 rs) = Call core (record {
  x0 = register_value x0;
  x1 = value_at rs 0;
  x2 = value_at rs 1;
  x3 = value_at rs 2;
})

-- a register has a number below 2^64, or 1 to 16 digits
abbrev pub IsRegisterText : RegisterText → Type 0
IsRegisterText (Decimal n) = IsNumber n
IsRegisterText (Hexadecimal digits) = IsHex digits

-- each of these is the text of a register
abbrev pub AreRegisterTexts : List RegisterText → Type 0
AreRegisterTexts [] = Unit {0}
AreRegisterTexts (r ∷ rs) = IsRegisterText r × AreRegisterTexts rs

-- a line of the grammar: three registers may follow x0
abbrev pub IsEventText : EventText → Type 0
IsEventText (NumberText word n) = IsNumber n
IsEventText (CallText core x0 rs) =
    IsNumber core × AreRegisterTexts (x0 ∷ rs) × (length rs ≤ 3)

-- an event line says the event that it spells
abbrev pub ReadsAsSpelled : Type 0
ReadsAsSpelled = (t : EventText) → IsEventText t → line_of (event_text t) ≡ Some (Says (event_of t))

-- a line that says an event spells it
abbrev pub SpellsWhatItSays : Type 0
SpellsWhatItSays = (line : List ℕ) (event : Event) → line_of line ≡ Some (Says event)
    → (t : EventText) × IsEventText t × (line ≡ event_text t) × (event ≡ event_of t)

-- The script of a run: its board, and its events in the order in which they happened --------------

-- the line of an event, before its line feed
abbrev pub event_line : Event → List ℕ
event_line (Call core regs) =
    codes "call " ++ (decimal core ++ (codes " " ++ (hexadecimal regs.x0 ++ (codes " "
    ++ (hexadecimal regs.x1 ++ (codes " " ++ (hexadecimal regs.x2 ++ (codes " "
    ++ hexadecimal regs.x3))))))))
event_line (Enter core) = codes "enter " ++ decimal core
event_line (Wake core) = codes "wake " ++ decimal core
event_line (Reset core) = codes "reset " ++ decimal core
event_line (Deliver number) = codes "deliver " ++ decimal number
event_line (Take number) = codes "take " ++ decimal number

-- the line of the event of a record
abbrev pub kept_line : Record → List ℕ
kept_line r = event_line r.event ++ 10 ∷ []

-- the script of these records, the oldest first, on the board of this text
abbrev pub script_text : List ℕ → List Record → List ℕ
script_text board records = codes "board " ++ (board ++ (10 ∷ flat_map kept_line records))

-- each number of an event has 64 bits
abbrev pub HasWords : Event → Type 0
HasWords (Call core regs) = (core < 2 ^ 64) × (regs.x0 < 2 ^ 64) × (regs.x1 < 2 ^ 64)
    × (regs.x2 < 2 ^ 64) × (regs.x3 < 2 ^ 64)
HasWords (Enter core) = core < 2 ^ 64
HasWords (Wake core) = core < 2 ^ 64
HasWords (Reset core) = core < 2 ^ 64
HasWords (Deliver number) = number < 2 ^ 64
HasWords (Take number) = number < 2 ^ 64

-- an event is read from its line
abbrev pub ReadsAsKept : Type 0
ReadsAsKept = (e : Event) → HasWords e → line_of (event_line e) ≡ Some (Says e)

-- The limits of a script, and of the devices that it goes through ---------------------------------

-- how many bytes a line may have before its line feed
abbrev pub longest_line : ℕ
longest_line = 256

-- how many lines a script may have
abbrev pub most_lines : ℕ
most_lines = 1000000

-- how many interruptions in a row are a fault
abbrev pub most_interruptions : ℕ
most_interruptions = 1000

-- how many bytes are read ahead, at most
abbrev pub block_room : ℕ
block_room = 65536

-- The lines of some bytes, and where the first one ends -------------------------------------------

-- one more byte at the front of the first line
abbrev pub in_line : ℕ → List (List ℕ) → List (List ℕ)
in_line b [] = (b ∷ []) ∷ []
in_line b (l ∷ ls) = (b ∷ l) ∷ ls

-- what stands before each line feed, and after the last one, if anything does
unfoldable pub lines : List ℕ → List (List ℕ)
lines [] = []
lines (b ∷ bs) = if b == 10 then [] ∷ lines bs else in_line b (lines bs)

-- a line feed is among the bytes
abbrev pub has_line_feed : List ℕ → Bool
has_line_feed bytes = list_any (λ b. b == 10) bytes

-- nothing, or whole lines: the last byte is a line feed
abbrev pub AreWhole : List ℕ → Type 0
AreWhole bytes = (bytes ≡ []) ⊎ ((front : List ℕ) × (bytes ≡ front ++ 10 ∷ []))

-- what is at the front of the bytes: a whole line, the front of one, or one that is too long
abbrev pub IsFrontOf : Front → List ℕ → Type 0
IsFrontOf (Whole n) bytes =
    (n ≤ longest_line) × (n < length bytes) × (has_line_feed (take n bytes) ≡ false)
    × (bytes ≡ take n bytes ++ 10 ∷ drop (n + 1) bytes)
IsFrontOf Part bytes = (length bytes ≤ longest_line) × (has_line_feed bytes ≡ false)
IsFrontOf Long bytes = (longest_line < length bytes) × (has_line_feed (take
    (longest_line + 1) bytes) ≡ false)
