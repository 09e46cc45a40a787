-- What a told script leaves, when the last texts were written too.
use Rattle.std.specs.Io.KnownBytes.{Appends, Consumes, IsAtEnd, Keeps}
use Rattle.std.specs.Prelude.{IfErr}
use Rattle.std.proofs.Common.{◌++◌, ◌+◌, ◌<◌, ◌∙◌, ◌∷◌, ◌≡◌, ◌≤◌, [], ap, append-nil}
use Rattle.std.proofs.Common.{append_assoc, arith, Bool, drop, Err, false, inl, IsErr, IsErrAnd}
use Rattle.std.proofs.Common.{length, List, nat_lt, None, Ok, OnErr, Option, refl, Result, Some}
use Rattle.std.proofs.Common.{subst, sym, take, true, ℕ}
use Rattle.std.proofs.Math.Seq.{take-add, take-append-add}
use Rattle.std.proofs.lemmas.Bool.Decides.{nat_tests}
use Rattle.psci_world_spec.specs.Legal.{legal_record, run_from}
use Rattle.psci_world_spec.specs.declared.event.Event.{Event}
use Rattle.psci_world_spec.specs.declared.said.Record.{Record}
use Rattle.psci_world_spec.specs.psci_board.Board.{BoardValue}
use Rattle.psci_world_spec.specs.psci_board.declared.fault.BoardFault.{BoardFault}
use Rattle.psci_script.specs.EventText.{line_of, lines}
use Rattle.psci_script.specs.Progress.{is_write_fault, IsLineFront, IsWithinBlock, Progress}
use Rattle.psci_script.specs.Script.{line_said, ok_or, transcript, transcript_of_board}
use Rattle.psci_script.specs.Script.{transcript_of_first, transcript_of_line, transcript_of_rest}
use Rattle.psci_script.specs.Told.{Account, account, CutShort, Ended, events_of, GoesOn}
use Rattle.psci_script.specs.Told.{remaining, run_by, run_of, run_of_lines, run_on, Runs}
use Rattle.psci_script.specs.Told.{ScriptRun, Tells, TellsAll, TellsLines, TellsPart, Unwritten}
use Rattle.psci_script.specs.Told.{with_event, with_record}
use Rattle.psci_script.specs.declared.fault.ReplayFault.{ReplayFault}
use Rattle.psci_script.specs.declared.fault.ReplayFault.TheVariants.{Memory, Read, Script, Write}
use Rattle.psci_script.specs.declared.fault.Replayed.{Replayed}
use Rattle.psci_script.specs.declared.fault.ScriptFault.{ScriptFault}
use Rattle.psci_script.specs.declared.fault.ScriptFault.TheVariants.{Line, Long, TooMany}
use Rattle.psci_script.specs.declared.grammar.Line.{Line as LineSays}
use Rattle.psci_script.specs.declared.grammar.Line.TheVariants.{Blank, Event as Says}
use Rattle.psci_script.proofs.Cutting.{lines_none}

-- How the lines that remain come out, by what the next one says -----------------------------------

-- before the first line
pub account_is : (bytes : List ℕ) → account bytes ≡ remaining None 0 (lines bytes)
unfolding transcript
account_is bytes = refl

-- by the first line, and by the board
abbrev pub by_first : Result (List ℕ) ScriptFault → List (List ℕ) → Account
by_first r ls = record { run = run_by r ls; end = (transcript_of_first r ls).end }

abbrev pub by_board : Result BoardValue BoardFault → List (List ℕ) → Account
by_board r ls = record { run = run_on r ls; end = (transcript_of_board r ls).end }

-- after so many lines, by what the next one says
abbrev after_said : ScriptRun → ℕ → Result LineSays ScriptFault → List (List ℕ) → Account
after_said run m said ls = record {
  run = Some (record {
    board = run.board;
    past = run_from run.board run.past (with_event said (events_of m ls));
  });
  end = (transcript_of_line run.board run.past m said
      (λ records. transcript_of_rest run.board records m ls)).end;
}

rest_is : (run : ScriptRun) (n : ℕ) (l : List ℕ) (ls : List (List ℕ))
    → remaining (Some run) n (l ∷ ls) ≡ after_said run (n + 1) (line_said (n + 1) l) ls
unfolding transcript_of_rest events_of
rest_is run n l ls = refl

event_is : (run : ScriptRun) (m : ℕ) (event : Event) (ls : List (List ℕ))
    → after_said run m (Ok (Says event)) ls ≡ remaining (Some (with_record run event)) m ls
unfolding run_from
event_is run m event ls = refl

fault_is : (run : ScriptRun) (m : ℕ) (fault : ScriptFault) (ls : List (List ℕ))
    → after_said run m (Err fault) ls ≡ record { run = Some run; end = Err (Script m fault) }
unfolding run_from
fault_is run m fault ls = refl

-- after the last line
pub no_rest_is : (run : ScriptRun) (n : ℕ) → remaining (Some run) n []
    ≡ record { run = Some run; end = Ok (record { lines = n; events = length run.past }) }
unfolding transcript_of_rest events_of run_from
no_rest_is run n = refl

-- no line changes a run that was told
pub run_still : (run : Option ScriptRun) (n : ℕ) → (remaining run n []).run ≡ run
run_still None n = refl
run_still (Some run) n = ap (λ (a : Account). a.run) (no_rest_is run n)

-- What a line says -------------------------------------------------------------------------------

not_lt : (m n : ℕ) → n ≤ m → nat_lt m n ≡ false
not_lt m n h = grind (arith, nat_tests)

pub is_lt : (m n : ℕ) → m < n → nat_lt m n ≡ true
is_lt m n h = grind (arith, nat_tests)

line_read : (n : ℕ) (l : List ℕ) → n ≤ 1000000 → length l ≤ 256
    → line_said n l ≡ ok_or (line_of l) Line
line_read n l h k = grind (arith, nat_tests, nat_lt, not_lt)

pub line_long : (n : ℕ) (l : List ℕ) → n ≤ 1000000 → 256 < length l → line_said n l ≡ Err Long
line_long n l h k = grind (arith, nat_tests, nat_lt, not_lt, is_lt)

pub line_many : (n : ℕ) (l : List ℕ) → 1000000 < n → line_said n l ≡ Err TooMany
line_many n l h = grind (arith, nat_tests, nat_lt, is_lt)

read_as : (n : ℕ) (l : List ℕ) (o : Option LineSays) → n ≤ 1000000 → length l ≤ 256
    → line_of l ≡ o → line_said n l ≡ ok_or o Line
read_as n l o h k e = line_read n l h k ∙ ap (λ (x : Option LineSays). ok_or x Line) e

-- a blank line, an event, and a fault
pub blank_remains : (run : ScriptRun) (n : ℕ) (l : List ℕ) (ls : List (List ℕ)) → n + 1 ≤ 1000000
    → length l ≤ 256 → line_of l ≡ Some Blank
    → remaining (Some run) n (l ∷ ls) ≡ remaining (Some run) (n + 1) ls
blank_remains run n l ls h k e = grind (arith, nat_tests, rest_is, after_said, read_as)

pub event_remains : (run : ScriptRun) (n : ℕ) (l : List ℕ) (ls : List (List ℕ)) (event : Event)
    → n + 1 ≤ 1000000 → length l ≤ 256 → line_of l ≡ Some (Says event)
    → remaining (Some run) n (l ∷ ls) ≡ remaining (Some (with_record run event)) (n + 1) ls
event_remains run n l ls event h k e =
    grind (arith, nat_tests, rest_is, after_said, read_as, event_is)

pub fault_remains : (run : ScriptRun) (n : ℕ) (l : List ℕ) (ls : List (List ℕ))
    (fault : ScriptFault) → line_said (n + 1) l ≡ Err fault
    → remaining (Some run) n (l ∷ ls)
    ≡ record { run = Some run; end = Err (Script (n + 1) fault) }
fault_remains run n l ls fault e =
    rest_is run n l ls
    ∙ ap (λ (r : Result LineSays ScriptFault). after_said run (n + 1) r ls) e
    ∙ fault_is run (n + 1) fault ls

pub unread_remains : (run : ScriptRun) (n : ℕ) (l : List ℕ) (ls : List (List ℕ))
    → n + 1 ≤ 1000000 → length l ≤ 256 → line_of l ≡ None
    → remaining (Some run) n (l ∷ ls)
    ≡ record { run = Some run; end = Err (Script (n + 1) Line) }
unread_remains run n l ls h k e =
    fault_remains run n l ls Line (read_as (n + 1) l None h k e)

-- Runs go on -------------------------------------------------------------------------------------

run_grows : (b : BoardValue) (past : List Record) (events : List Event)
    → (newer : List Record) × (run_from b past events ≡ newer ++ past)
unfolding run_from
run_grows b past [] = ([], refl)
run_grows b past (event ∷ events) =
    let r : Record = legal_record b past event in
    let x = run_grows b (r ∷ past) events in
    (x.0 ++ r ∷ [], x.1 ∙ sym (append_assoc x.0 (r ∷ []) past))

pub goes_on : (run : Option ScriptRun) (n : ℕ) (ls : List (List ℕ))
    → GoesOn run (remaining run n ls).run
goes_on None n ls = tt
goes_on (Some run) n ls =
    let grows = run_grows run.board run.past (events_of n ls) in (refl, grows.0, grows.1)

pub goes_as : (run later other : Option ScriptRun) → later ≡ other → GoesOn run other
    → GoesOn run later
goes_as run later other e k = subst (λ (r : Option ScriptRun). GoesOn run r) (sym e) k

pub goes_self : (run later : Option ScriptRun) → later ≡ run → GoesOn run later
goes_self None later e = tt
goes_self (Some run) later e = grind (arith, nat_tests)

-- What a read or a write in steps does to the known bytes -----------------------------------------

-- writing more behind what was written
pub appends_more : (a b c : Option (List ℕ)) (x y : List ℕ) → Appends a b x → Appends b c y
    → Appends a c (x ++ y)
appends_more None b c x y f g = tt
appends_more (Some p) None c x y f g = absurd f
appends_more (Some p) (Some q) None x y f g = absurd g
appends_more (Some p) (Some q) (Some r) x y f g = grind (arith, nat_tests, append_assoc)

pub consumes_more : (a b c : Option (List ℕ)) (x y : List ℕ) → Consumes a b x → Consumes b c y
    → Consumes a c (x ++ y)
consumes_more None b c x y f g = tt
consumes_more (Some p) None c x y f g = absurd f
consumes_more (Some p) (Some q) None x y f g = absurd g
consumes_more (Some p) (Some q) (Some r) x y f g = grind (arith, nat_tests, append_assoc)

pub consumes_keeps : (a b c : Option (List ℕ)) (x : List ℕ) → Consumes a b x → Keeps b c
    → Consumes a c x
consumes_keeps None b c x f k = tt
consumes_keeps (Some p) None c x f k = absurd f
consumes_keeps (Some p) (Some q) None x f k = absurd k
consumes_keeps (Some p) (Some q) (Some r) x f k = f ∙ ap (λ (z : List ℕ). x ++ z) (sym k)

-- a write of what is left behind what was written
pub wrote : (done count : ℕ) (bytes : List ℕ) (a b c : Option (List ℕ))
    → Appends a b (take done bytes) → Appends b c (take count (drop done bytes))
    → Appends a c (take (done + count) bytes)
wrote done count bytes a b c f g = grind (arith, nat_tests, take-add, appends_more)

-- of what a fault is and why it came, what it is
pub fault_alone : {A E : Type 0} (r : Result A E) (P : E → Type 0) (Q : Type 0)
    → IfErr r (λ e. P e × Q) → IfErr r P
fault_alone (Ok x) P Q h = tt
fault_alone (Err e) P Q h = h.0

pub on_err : {A E : Type 0} (r : Result A E) (P : Type 0) → P → OnErr r P
on_err (Ok x) P h = tt
on_err (Err e) P h = h

pub on_err_as : {A E : Type 0} (r : Result A E) {P Q : Type 0} → (P → Q) → OnErr r P → OnErr r Q
on_err_as (Ok x) f h = tt
on_err_as (Err e) f h = f h

pub consumes_none : (a : Option (List ℕ)) → (let none : List ℕ = [] in Consumes a a none)
consumes_none None = tt
consumes_none (Some p) = refl

pub appends_none : (a : Option (List ℕ)) → (let none : List ℕ = [] in Appends a a none)
appends_none None = tt
appends_none (Some p) = sym (append-nil p)

-- Finish ------------------------------------------------------------------------------------------

-- All was written ---------------------------------------------------------------------------------

all_by : (told : Option ScriptRun → List ℕ → Type 0) (end : Result Replayed ReplayFault)
    (run : Option ScriptRun) (first left before after : Option (List ℕ)) (read text : List ℕ)
    (ended : Bool) → Consumes first left read → (ended ≡ true → IsAtEnd left)
    → ((rest : List ℕ) → (ended ≡ true → rest ≡ [])
    → account (read ++ rest) ≡ record { run = run; end = end })
    → told run text → Appends before after text → TellsAll told end first before after
all_by told end run None left before after read text ended c f t w a = tt
all_by told end run (Some bytes) None before after read text ended c f t w a = absurd c
all_by told end run (Some bytes) (Some l) before after read text ended c f t w a =
    let is = ap account c ∙ t l f in (
      ap (λ (x : Account). x.end) is,
      text,
      subst (λ (r : Option ScriptRun). told r text) (sym (ap (λ (x : Account). x.run) is)) w,
      a,
    )

tells_all : (told : Option ScriptRun → List ℕ → Type 0) (end : Result Replayed ReplayFault)
    (first before after : Option (List ℕ)) (s : Progress) → Ended told end first before s
    → Appends s.taken after s.answered.waiting → TellsAll told end first before after
tells_all told end first before after s k a =
    all_by told end k.run first s.left before after k.read
    (k.written ++ s.answered.waiting) s.block.ended k.from k.at_end k.comes k.is_told
    (appends_more before s.taken after k.written s.answered.waiting k.to a)

tells_lines : (told : Option ScriptRun → List ℕ → Type 0) (Rest : ℕ → List ℕ → Type 0)
    (first before after : Option (List ℕ)) (s : Progress) → CutShort told Rest first before s
    → Appends s.taken after s.answered.waiting → TellsLines told Rest first s.left before after
tells_lines told Rest first before after s k a = record {
  whole = k.whole;
  lines = k.lines;
  count = k.count;
  sound = k.sound;
  part = k.part;
  fits = k.fits;
  from = k.from;
  text = k.written ++ s.answered.waiting;
  is_told = subst (λ (r : Option ScriptRun). told r (k.written ++ s.answered.waiting))
      (sym k.is_run) k.is_told;
  to = appends_more before s.taken after k.written s.answered.waiting k.to a;
}

-- A front part was written ------------------------------------------------------------------------

part_by : (told : Option ScriptRun → List ℕ → Type 0) (run : Option ScriptRun)
    (first left before after : Option (List ℕ)) (read text : List ℕ) (n : ℕ) (ended : Bool)
    → Consumes first left read → (ended ≡ true → IsAtEnd left)
    → ((rest : List ℕ) → (ended ≡ true → rest ≡ []) → GoesOn run (run_of (read ++ rest)))
    → told run text → Appends before after (take n text) → TellsPart told first before after
part_by told run None left before after read text n ended c f t w a = tt
part_by told run (Some bytes) None before after read text n ended c f t w a = absurd c
part_by told run (Some bytes) (Some l) before after read text n ended c f t w a =
    (run, goes_as run _ _ (ap run_of c) (t l f), text, w, n, a)

tells_part : (told : Option ScriptRun → List ℕ → Type 0) (first before left taken : Option (List ℕ))
    → Unwritten told first before left taken → TellsPart told first before taken
tells_part told first before left taken k =
    part_by told k.run first left before taken k.read k.text k.count k.ended k.from k.at_end k.more
    k.is_told k.to

-- the last write failed: a front part of what waited was written
more_written : (before taken after : Option (List ℕ)) (written waiting : List ℕ) (n : ℕ)
    → Appends before taken written → Appends taken after (take n waiting)
    → Appends before after (take (length written + n) (written ++ waiting))
more_written before taken after written waiting n k a =
    subst (λ (x : List ℕ). Appends before after x) (sym (take-append-add written waiting n))
    (appends_more before taken after written (take n waiting) k a)

ended_part : (told : Option ScriptRun → List ℕ → Type 0) (end : Result Replayed ReplayFault)
    (first before after : Option (List ℕ)) (s : Progress) (n : ℕ) → Ended told end first before s
    → Appends s.taken after (take n s.answered.waiting) → TellsPart told first before after
ended_part told end first before after s n k a =
    part_by told k.run first s.left before after k.read (k.written ++ s.answered.waiting)
    (length k.written + n) s.block.ended k.from k.at_end
    (λ rest f. goes_self k.run _ (ap (λ (x : Account). x.run) (k.comes rest f)))
    k.is_told (more_written before s.taken after k.written s.answered.waiting n k.to a)

cut_short_part : (told : Option ScriptRun → List ℕ → Type 0) (Rest : ℕ → List ℕ → Type 0)
    (first before after : Option (List ℕ)) (s : Progress) (n : ℕ)
    → CutShort told Rest first before s
    → Appends s.taken after (take n s.answered.waiting) → TellsPart told first before after
cut_short_part told Rest first before after s n k a =
    part_by told k.run first s.left before after (k.whole ++ k.part)
    (k.written ++ s.answered.waiting) (length k.written + n) s.block.ended k.from k.at_end k.more
    k.is_told (more_written before s.taken after k.written s.answered.waiting n k.to a)

pub finish_part : (told : Option ScriptRun → List ℕ → Type 0) (r : Result Replayed ReplayFault)
    (first before after : Option (List ℕ)) (s : Progress) (n : ℕ) → is_write_fault r ≡ false
    → Runs told r first before s → Appends s.taken after (take n s.answered.waiting)
    → TellsPart told first before after
finish_part told (Err Read) first before after s n e k a =
    cut_short_part told IsLineFront first before after s n k a
finish_part told (Err Memory) first before after s n e k a =
    cut_short_part told IsWithinBlock first before after s n k a
finish_part told (Err Write) first before after s n e k a = absurd (cc)
finish_part told r first before after s n e k a = ended_part told r first before after s n k a

-- The last texts were written ---------------------------------------------------------------------

pub finish_done : (told : Option ScriptRun → List ℕ → Type 0) (r : Result Replayed ReplayFault)
    (first before after : Option (List ℕ)) (s : Progress) → is_write_fault r ≡ false
    → Runs told r first before s → Appends s.taken after s.answered.waiting
    → Tells told r first s.left before after
finish_done told (Err Read) first before after s e k a =
    tells_lines told IsLineFront first before after s k a
finish_done told (Err Memory) first before after s e k a =
    tells_lines told IsWithinBlock first before after s k a
finish_done told (Err Write) first before after s e k a = absurd (cc)
finish_done told r first before after s e k a = tells_all told r first before after s k a

-- A write failed before ---------------------------------------------------------------------------

pub finish_failed : (told : Option ScriptRun → List ℕ → Type 0) (r : Result Replayed ReplayFault)
    (first before : Option (List ℕ)) (s : Progress) → is_write_fault r ≡ true
    → Runs told r first before s → Tells told r first s.left before s.taken
finish_failed told (Err Write) first before s e k =
    tells_part told first before s.left s.taken k
finish_failed told _ first before s e k = absurd (cc)

-- an answer that stands in another error's place
pub tells_so : (told : Option ScriptRun → List ℕ → Type 0) (r : Result Replayed ReplayFault)
    (e : ReplayFault) (first left before after : Option (List ℕ))
    → IsErr r × IsErrAnd r (λ f. f ≡ e) → Tells told (Err e) first left before after
    → Tells told r first left before after
tells_so told (Ok x) e first left before after h k = absurd (h.1)
tells_so told (Err f) e first left before after h k =
    subst (λ (x : ReplayFault). Tells told (Err x) first left before after) (sym h.1) k

-- Nothing was done --------------------------------------------------------------------------------

pub nothing_done : (told : Option ScriptRun → List ℕ → Type 0) (first before : Option (List ℕ))
    → told None [] → TellsLines told IsWithinBlock first first before before
nothing_done told first before w = record {
  whole = [];
  lines = inl refl;
  count = 0;
  sound = inl (refl, refl);
  part = [];
  fits = omega arith;
  from = consumes_none first;
  text = [];
  is_told = subst (λ (r : Option ScriptRun). told r []) (sym (ap run_of_lines lines_none)) w;
  to = appends_none before;
}
