-- Worked examples: what is told of a run, line by line and in all; and for each clause something
-- that breaks it.
use Rattle.std.proofs.Common.{◌++◌, ◌<◌, ◌∷◌, ◌≡◌, [], ap, arith, Err, length, List, None, Ok}
use Rattle.std.proofs.Common.{Option, refl, Result, Some, ℕ}
use Rattle.std.specs.Prelude.{codes}
use Rattle.psci_world_spec.specs.psci_board.Board.{BoardValue}
use Rattle.psci_world_spec.specs.declared.event.Event.TheVariants.{Deliver}
use Rattle.psci_script.specs.declared.fault.Replayed.{Replayed}
use Rattle.psci_script.specs.declared.fault.ReplayFault.{ReplayFault}
use Rattle.psci_script.specs.declared.fault.ReplayFault.TheVariants.{Script, Write}
use Rattle.psci_script.specs.declared.fault.ScriptFault.TheVariants as faults
use Rattle.psci_script.specs.declared.grammar.Line.TheVariants.{Blank, Event as Says}
use Rattle.psci_script.specs.EventText.{Answered, lines}
use Rattle.psci_script.specs.Progress.{Follows, Progress}
use Rattle.psci_script.specs.Told.{account, events_of, EventTold, GoesOn, IsUnderWay, LineTold}
use Rattle.psci_script.specs.Told.{remaining, run_of, ScriptRun, Tells, with_record}
use Rattle.psci_script.proofs.Cutting.{answering, board, text}

-- a byte is told for each event, and nothing before there is a board
abbrev tally : Option ScriptRun → List ℕ → Type 0
tally None told = told ≡ []
tally (Some run) told = length told ≡ length run.past

-- A line ------------------------------------------------------------------------------------------

abbrev waits : List ℕ → ℕ → Answered
waits waiting events = record { waiting = waiting; events = events }

abbrev before_any : BoardValue → ScriptRun
before_any b = record { board = b; past = [] }

no_line : (is_at : ScriptRun → Type 0) (run : ScriptRun) (old new : Answered)
    → LineTold is_at tally None run old new → ⊥
no_line is_at run old new h = h

blank_line : (is_at : ScriptRun → Type 0) (run : ScriptRun) (old : Answered) → is_at run
    → LineTold is_at tally (Some Blank) run old old
blank_line is_at run old is = (is, refl)

blank_is_told : (is_at : ScriptRun → Type 0) (run : ScriptRun)
    → LineTold is_at tally (Some Blank) run (waits [] 3) (waits (55 ∷ []) 3) → ⊥
blank_is_told is_at run h =
    let e : ◌≡◌ {A = ℕ} 1 0 = ap (λ (a : Answered). length a.waiting) h.1 in omega arith

event_line : (is_at : ScriptRun → Type 0) (run : ScriptRun) → is_at (with_record run (Deliver 4))
    → EventTold tally run (Deliver 4) (waits [] 0) (waits (55 ∷ []) 1)
    → LineTold is_at tally (Some (Says (Deliver 4))) run (waits [] 0) (waits (55 ∷ []) 1)
event_line is_at run is told = (is, told)

event_without_a_record : (is_at : ScriptRun → Type 0) (run : ScriptRun) (old new : Answered)
    → ¬ (is_at (with_record run (Deliver 4)))
    → LineTold is_at tally (Some (Says (Deliver 4))) run old new → ⊥
event_without_a_record is_at run old new differs h = differs h.0

-- the first event is told by a byte behind what was told before
first_event : (b : BoardValue)
    → EventTold tally (before_any b) (Deliver 4) (waits [] 0) (waits (55 ∷ []) 1)
first_event b = record { events = refl; more = more } where
  more : (x : List ℕ) → length (x ++ []) ≡ 0 → length (x ++ 55 ∷ []) ≡ 1
  more [] e = refl
  more (y ∷ ys) e = absurd (cc)

event_is_not_counted : (b : BoardValue)
    → EventTold tally (before_any b) (Deliver 4) (waits [] 0) (waits (55 ∷ []) 0) → ⊥
event_is_not_counted b h = let e : ◌≡◌ {A = ℕ} 0 1 = h.events in omega arith

event_is_not_told : (b : BoardValue)
    → EventTold tally (before_any b) (Deliver 4) (waits [] 0) (waits [] 1) → ⊥
event_is_not_told b h = let e : ◌≡◌ {A = ℕ} 0 1 = h.more [] refl in omega arith

-- Under way ------------------------------------------------------------------------------------

a_record_too_many : (is_at : ScriptRun → Type 0) (count : ℕ) (first before : Option (List ℕ))
    (s : Progress) (k : IsUnderWay is_at tally count first before s)
    → count < length k.run.past → ⊥
a_record_too_many is_at count first before s k more = let few = k.few in omega (arith, few, more)

another_run : (is_at : ScriptRun → Type 0) (count : ℕ) (first before : Option (List ℕ))
    (s : Progress) (k : IsUnderWay is_at tally count first before s) → ¬ (is_at k.run) → ⊥
another_run is_at count first before s k differs = differs k.at

lines_after : (is_at : ScriptRun → Type 0) (first before : Option (List ℕ)) (s : Progress)
    (k : IsUnderWay is_at tally 7 first before s) (rest : List ℕ) → Follows s.block rest
    → account (k.goes.whole ++ rest) ≡ remaining (Some k.run) 7 (lines rest)
lines_after is_at first before s k rest f = k.goes.comes rest f

-- What is told in all --------------------------------------------------------------------------

-- a script of two events, and the same without its last line
abbrev script : List ℕ
script = text (board ∷ codes "enter 9" ∷ codes "deliver 1" ∷ [])

abbrev whole : Result Replayed ReplayFault
whole = Ok (record { lines = 3; events = 2 })

abbrev seven : List ℕ
seven = 55 ∷ []

abbrev count_in : Result Replayed ReplayFault → ℕ
count_in (Ok replayed) = replayed.events
count_in (Err fault) = 0

all_told : Tells tally whole (Some script) (Some []) (Some seven) (Some (55 ∷ 1 ∷ 2 ∷ []))
unfolding events_of answering
all_told = (refl, 1 ∷ 2 ∷ [], refl, refl)

another_end : Tells tally (Ok (record { lines = 3; events = 1 })) (Some script) (Some [])
    (Some seven) (Some (55 ∷ 1 ∷ 2 ∷ [])) → ⊥
unfolding events_of answering
another_end h = let e : ◌≡◌ {A = ℕ} 2 1 = ap count_in h.0 in omega arith

one_event_is_missing : (after : List ℕ) → length after ≡ 1
    → Tells tally whole (Some script) (Some []) (Some []) (Some after) → ⊥
unfolding events_of answering
one_event_is_missing after short (end, told, is, to) =
    let e : length told ≡ 2 = is in
    let a : length after ≡ length told = ap length to in omega (arith, e, a, short)

told_to_a_fault : Tells tally (Err (Script 2 faults.Line)) (Some (text (board ∷ codes "x" ∷ [])))
    (Some []) (Some seven) (Some seven)
unfolding events_of answering
told_to_a_fault = (refl, [], refl, refl)

-- at a write fault a front part of what is told of a run from which the script's goes on
front_part : Tells tally (Err Write) (Some script) (Some []) (Some seven) (Some (55 ∷ 1 ∷ []))
unfolding events_of answering
front_part = (run_of script, (refl, [], refl), 1 ∷ 2 ∷ [], refl, 1, refl)

part_of_another_run : (before after : Option (List ℕ))
    → ((run : Option ScriptRun) → GoesOn run (run_of script) → ⊥)
    → Tells tally (Err Write) (Some script) (Some []) before after → ⊥
part_of_another_run before after none h = none h.0 h.1
