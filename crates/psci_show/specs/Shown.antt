-- What a run is shown as: a row for each event, in order. Defined is how a row begins: with the
-- number of its event, and in JSON with the event and its answer. What else it says of the event,
-- its words and columns, is tested.
use Rattle.std.specs.Prelude.{◌++◌, ◌∷◌, ◌≡◌, [], codes, false, if◌then◌else◌, length, List}
use Rattle.std.specs.Prelude.{nat_lt, None, Option, Some, ℕ}
use Rattle.std.specs.Fmt.{decimal}
use Rattle.psci_world.specs.psci_world_spec.declared.event.Event.{Event}
use Rattle.psci_world.specs.psci_world_spec.declared.event.Event.TheVariants.{Call, Deliver}
use Rattle.psci_world.specs.psci_world_spec.declared.event.Event.TheVariants.{Enter, Reset, Take}
use Rattle.psci_world.specs.psci_world_spec.declared.event.Event.TheVariants.{Wake}
use Rattle.psci_world.specs.Settles.{WorldValue}
use Rattle.psci_world.specs.psci_world_spec.declared.said.Record.{Record}
use Rattle.psci_script.specs.EventText.{line_of}
use Rattle.psci_script.specs.declared.grammar.Line.TheVariants.{Event as Says}
use Rattle.psci_script.specs.Told.{ScriptRun}
use Rattle.psci_script.specs.Text.{answer_line, hexadecimal}
use Rattle.psci_show.specs.declared.lines.Form.{Form}
use Rattle.psci_show.specs.declared.lines.Form.TheVariants.{Lines, Json}

-- a number in four places, or more where it needs them
abbrev pub number_text : ℕ → List ℕ
number_text n =
    (if nat_lt n 10 then codes "   "
    else (if nat_lt n 100 then codes "  "
    else (if nat_lt n 1000 then codes " " else []))) ++ decimal n

-- what stands in JSON before the line of the event of this number
abbrev pub object_start : ℕ → List ℕ
object_start number = codes "{\"number\": " ++ (decimal number ++ codes ", \"line\": \"")

-- what an event is
abbrev pub event_word : Event → List ℕ
event_word (Call core regs) = codes "call"
event_word (Enter core) = codes "enter"
event_word (Wake core) = codes "wake"
event_word (Reset core) = codes "reset"
event_word (Deliver number) = codes "deliver"
event_word (Take number) = codes "take"

-- of which core, message or acknowledgement
abbrev pub event_number : Event → ℕ
event_number (Call core regs) = core
event_number (Enter core) = core
event_number (Wake core) = core
event_number (Reset core) = core
event_number (Deliver number) = number
event_number (Take number) = number

-- the registers of a call
abbrev pub registers_member : Event → List ℕ
registers_member (Call core r) =
    codes ", \"registers\": [\"" ++ (hexadecimal r.x0 ++ (codes "\", \"" ++ (hexadecimal r.x1
    ++ (codes "\", \"" ++ (hexadecimal r.x2 ++ (codes "\", \"" ++ (hexadecimal r.x3
    ++ codes "\"]")))))))
registers_member event = []

-- an event as a JSON object
abbrev pub event_object : Event → List ℕ
event_object event =
    codes "{\"kind\": \"" ++ (event_word event ++ (codes "\", \"number\": "
    ++ (decimal (event_number event) ++ (registers_member event ++ codes "}"))))

-- what the row of the event of this number begins with, which this line says, and which is answered
-- so
abbrev pub front : Form → ℕ → List ℕ → Event → List ℕ → List ℕ
front (Lines layout) number line event answer = number_text number
front Json number line event answer =
    object_start number ++ (line ++ (codes "\", \"event\": " ++ (event_object event
    ++ (codes ", \"answer\": \"" ++ (answer ++ codes "\"")))))

-- the row of a record, the newest of so many
pub record IsEventRow (form : Form) (number : ℕ) (r : Record) (row : List ℕ) : Type 0 where
  -- a line that says the event
  pub line : List ℕ
  pub says : line_of line ≡ Some (Says r.event)
  -- what its answer line says behind its number
  pub answer : List ℕ
  pub answered : answer_line number r.said ≡ decimal number ++ (codes " " ++ (answer ++ 10 ∷ []))
  -- its words and columns
  pub more : List ℕ
  pub is : row ≡ front form number line r.event answer ++ more

-- what stands before all rows: nothing in lines that do not begin with what their letters mean
abbrev pub IsHeading : Form → List ℕ → Type 0
IsHeading (Lines layout) text = layout.legend ≡ false → text ≡ []
IsHeading Json text = Unit {0}

-- a row for each record, in order, behind what stands before all rows
abbrev pub HasRows : Form → List Record → List ℕ → Type 0
HasRows form [] text = IsHeading form text
HasRows form (r ∷ past) text =
    (before : List ℕ) × (row : List ℕ) × HasRows form past before
    × IsEventRow form (length (r ∷ past)) r row × (text ≡ before ++ row)

-- what stands before the script is read: in lines the legend, where it is asked for
abbrev pub IsOpening : Form → List ℕ → Type 0
IsOpening (Lines layout) text = layout.legend ≡ false → text ≡ []
IsOpening Json text = text ≡ []

-- what a run is shown as, and what is shown before there is a board
abbrev pub IsShown : Form → Option ScriptRun → List ℕ → Type 0
IsShown form None text = IsOpening form text
IsShown form (Some run) text = HasRows form run.past text

-- the run of this world is shown in this form
pub record IsShownOf (its : Form) (world : WorldValue) (form : Form) (run : ScriptRun)
    : Type 0 where
  pub form_is : its ≡ form
  pub board : world.board ≡ run.board
  pub past : world.past ≡ run.past
