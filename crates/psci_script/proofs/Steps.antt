-- One step of a script, by what was answered.
use Rattle.std.proofs.Common.{◌++◌, ◌+◌, ◌<◌, ◌∙◌, ◌∷◌, ◌≡◌, ◌≤◌, [], ap, arith, Err, false}
use Rattle.std.proofs.Common.{IfErr, inl, inr, IsErr, IsErrAnd, length, List, None, Ok, Option}
use Rattle.std.proofs.Common.{refl, Result, Some, subst, sym, take, ℕ}
use Rattle.std.proofs.lemmas.List.{length-take-le}
use Rattle.psci_world_spec.specs.psci_board.Board.{BoardValue}
use Rattle.psci_script.specs.declared.fault.Replayed.{Replayed}
use Rattle.psci_script.specs.declared.fault.ScriptFault.{ScriptFault}
use Rattle.psci_script.specs.declared.fault.ReplayFault.{ReplayFault}
use Rattle.psci_script.specs.declared.fault.ReplayFault.TheVariants.{Board, Memory, Read, Script}
use Rattle.psci_script.specs.declared.fault.ReplayFault.TheVariants.{Write}
use Rattle.psci_script.specs.declared.fault.ScriptFault.TheVariants.{Line}
use Rattle.psci_script.specs.declared.grammar.Line.{Line as LineSays}
use Rattle.psci_script.specs.declared.grammar.Line.TheVariants.{Blank, Event as Says}
use Rattle.psci_script.specs.declared.transfer.Extent.{Extent}
use Rattle.psci_script.specs.EventText.{Answered, line_of, ReadAhead}
use Rattle.psci_script.specs.Progress.{Ahead, BoardRead, FailsLine, FindsLine, first_progress}
use Rattle.psci_script.specs.Progress.{IsLine, IsLineFront, IsNoDevice, IsWithinBlock}
use Rattle.psci_script.specs.Progress.{LineRefused, Progress, progress}
use Rattle.psci_script.specs.Told.{Ended, EndsBy, Goes, IsUnderWay, LineTold, remaining, Runs}
use Rattle.psci_script.specs.Told.{ScriptRun, with_record}
use Rattle.psci_script.proofs.Finish.{account_is, appends_none, blank_remains, by_board}
use Rattle.psci_script.proofs.Finish.{by_first, consumes_none, event_remains, unread_remains}
use Rattle.psci_script.proofs.Ends.{ends_faulty, ends_line, failed, goes_ahead, goes_line}
use Rattle.psci_script.proofs.Ends.{skipped, stopped}

pub if_err_so : {X : Type 0} (r : Result X ReplayFault) (e : ReplayFault) (P : ReplayFault → Type 0)
    → IsErr r × IsErrAnd r (λ f. f ≡ e) → P e → IfErr r P
if_err_so (Ok x) e P h k = tt
if_err_so (Err f) e P h k = subst P (sym h.1) k

pub runs_so : (told : Option ScriptRun → List ℕ → Type 0) (r : Result Replayed ReplayFault)
    (e : ReplayFault) (first before : Option (List ℕ)) (t : Progress)
    → IsErr r × IsErrAnd r (λ f. f ≡ e) → EndsBy told e first before t
    → Runs told r first before t
runs_so told (Ok x) e first before t h k = absurd (h.1)
runs_so told (Err f) e first before t h k =
    subst (λ (x : ReplayFault). EndsBy told x first before t) (sym h.1) k

pub finds_as : (o p : Option Extent) (n : ℕ) (s t : Progress) → o ≡ p → FindsLine n (Ok o) s t
    → FindsLine n (Ok p) s t
finds_as o p n s t e h = subst (λ (x : Option Extent). FindsLine n (Ok x) s t) e h

-- the bytes that wait have room in the block
pub room_of : {x y : List ℕ} → x ≡ y → length x ≤ 65536 → length y ≤ 65536
room_of e h = subst (λ (z : List ℕ). length z ≤ 65536) e h

-- A call for the next line that found none --------------------------------------------------------

faulty_at : (told : Option ScriptRun → List ℕ → Type 0) (l m : ℕ) (fault : ScriptFault)
    (first before : Option (List ℕ)) (t : Progress) → l ≡ m
    → Ended told (Err (Script m fault)) first before t
    → Ended told (Err (Script l fault)) first before t
faulty_at told l m fault first before t e k =
    subst (λ (w : ℕ). Ended told (Err (Script w fault)) first before t) (sym e) k

pub goes_not : (told : Option ScriptRun → List ℕ → Type 0) (f : ReplayFault)
    (run : Option ScriptRun) (n : ℕ) (first before : Option (List ℕ)) (s t : Progress)
    → (run ≡ None → n ≡ 0) → Goes told run n first before s
    → FailsLine (n + 1) f s t → EndsBy told f first before t
goes_not told (Script l fault) run n first before s t z k h =
    faulty_at told l (n + 1) fault first before t h.1
    (ends_faulty told run n first before t fault z (goes_ahead told run n first before s t h.0 k)
    h.2)
goes_not told (Board fault) run n first before s t z k h = absurd h
goes_not told Read run n first before s t z k h =
    stopped told IsLineFront run n first before t z
    (goes_ahead told run n first before s t h.0.ahead k)
    (λ e _. absurd (let g = h.0.going in cc)) h.1
goes_not told Write run n first before s t z k h = failed told run n first before s t k h
goes_not told Memory run n first before s t z k h = absurd h

-- memory ran out, and nothing more was told
pub memory_out : (told : Option ScriptRun → List ℕ → Type 0) (first before : Option (List ℕ))
    (t : Progress) → length t.block.unread ≤ 65536 → Goes told None 0 first before t
    → EndsBy told Memory first before t
memory_out told first before t m k =
    stopped told IsWithinBlock None 0 first before t (λ _. refl) k
    (λ _ some. absurd (some refl)) m

-- The first line ----------------------------------------------------------------------------------

by_board_line : (told : Option ScriptRun → List ℕ → Type 0) (first before : Option (List ℕ))
    (t : Progress) (x : Extent) (end : Result Replayed ReplayFault)
    → Goes told None 0 first before t → IsLine x t.block
    → ((ls : List (List ℕ)) → remaining None 0 (take x.line t.block.unread ∷ ls)
    ≡ record { run = None; end = end }) → Ended told end first before t
by_board_line told first before t x end k i h = ends_line told None 0 first before t end x k i h

pub board_not : (told : Option ScriptRun → List ℕ → Type 0) (e : ReplayFault)
    (first before : Option (List ℕ)) (t : Progress) (x : Extent) → length t.block.unread ≤ 65536
    → Goes told None 0 first before t → IsLine x t.block
    → BoardRead (Err e) (take x.line t.block.unread) → EndsBy told e first before t
board_not told (Script l fault) first before t x m k i h =
    faulty_at told l 1 fault first before t h.0
    (by_board_line told first before t x (Err (Script 1 fault)) k i
    (λ ls. ap (λ r. by_first r ls) h.1))
board_not told (Board fault) first before t x m k i h =
    by_board_line told first before t x (Err (Board fault)) k i
    (λ ls. ap (λ r. by_first r ls) h.1 ∙ ap (λ r. by_board r ls) h.2)
board_not told Read first before t x m k i h = absurd h
board_not told Write first before t x m k i h = absurd h
board_not told Memory first before t x m k i h = memory_out told first before t m k

abbrev pub first_run : BoardValue → ScriptRun
first_run b = record { board = b; past = [] }

pub begun : (is_at : ScriptRun → Type 0) (told : Option ScriptRun → List ℕ → Type 0)
    (b : BoardValue) (first before : Option (List ℕ)) (block : ReadAhead)
    (left taken : Option (List ℕ)) (old new : Answered) (e : Extent) → is_at (first_run b)
    → IsLine e block → Goes told None 0 first before (progress block left old taken)
    → BoardRead (Ok b) (take e.line block.unread)
    → ((text : List ℕ) → told None (text ++ old.waiting)
    → told (Some (first_run b)) (text ++ new.waiting))
    → new.events ≡ old.events
    → IsUnderWay is_at told 1 first before (progress (skipped block e) left new taken)
begun is_at told b first before block left taken old new e at i k r more ev = record {
  run = first_run b;
  at = at;
  few = omega arith;
  goes = goes_line told None (first_run b) 0 first before block left taken old new e i k
      (λ ls. ap (λ x. by_first x ls) r.1 ∙ ap (λ x. by_board x ls) r.2)
      more (ev ∙ k.events);
}

-- A later line --------------------------------------------------------------------------------

line_short : (e : Extent) (block : ReadAhead) → IsLine e block
    → length (take e.line block.unread) ≤ 256
line_short e block (few, feeds, inl w) = omega (arith, length-take-le e.line block.unread, w.1)
line_short e block (few, feeds, inr w) = omega (arith, length-take-le e.line block.unread, w.1)

line_some : (e : Extent) (block : ReadAhead) → IsLine e block → 0 < length block.unread
line_some e block (few, feeds, inl w) = omega (arith, w.1)
line_some e block (few, feeds, inr w) = omega (arith, w.1, w.2)

pub way_ahead : (is_at : ScriptRun → Type 0) (told : Option ScriptRun → List ℕ → Type 0) (n : ℕ)
    (first before : Option (List ℕ)) (s t : Progress) → Ahead s t
    → IsUnderWay is_at told n first before s → IsUnderWay is_at told n first before t
way_ahead is_at told n first before s t a k = record {
  run = k.run;
  at = k.at;
  few = k.few;
  goes = goes_ahead told (Some k.run) n first before s t a k.goes;
}

pub same_answers : (told : Option ScriptRun → List ℕ → Type 0) (run : Option ScriptRun) (n : ℕ)
    (first before : Option (List ℕ)) (block : ReadAhead) (left taken : Option (List ℕ))
    (old new : Answered) → new ≡ old → Goes told run n first before (progress block left old taken)
    → Goes told run n first before (progress block left new taken)
same_answers told run n first before block left taken old new e k =
    subst (λ (a : Answered). Goes told run n first before (progress block left a taken)) (sym e) k

-- a line that is refused is no fault of a device
pub line_fault : (f : ReplayFault) (n : ℕ) (line : Option LineSays) → LineRefused f n line
    → IsNoDevice f
line_fault Read n line r = r
line_fault Write n line r = r
line_fault f n line r = tt

pub line_not : (told : Option ScriptRun → List ℕ → Type 0) (f : ReplayFault) (run : ScriptRun)
    (n : ℕ) (first before : Option (List ℕ)) (block : ReadAhead) (left taken : Option (List ℕ))
    (old new : Answered) (e : Extent) → length block.unread ≤ 65536 → n < 1000000 → IsLine e block
    → Goes told (Some run) n first before (progress block left old taken)
    → LineRefused f (n + 1) (line_of (take e.line block.unread)) → new ≡ old
    → EndsBy told f first before (progress block left new taken)
line_not told (Script l fault) run n first before block left taken old new e m h i k x a =
    faulty_at told l (n + 1) fault first before (progress block left new taken) x.0
    (subst (λ (y : ScriptFault). Ended told (Err (Script (n + 1) y)) first before
    (progress block left new taken)) (sym x.1)
    (ends_line told (Some run) n first before (progress block left new taken)
    (Err (Script (n + 1) Line)) e
    (same_answers told (Some run) n first before block left taken old new a k) i
    (λ ls. unread_remains run n (take e.line block.unread) ls (omega arith)
    (line_short e block i) x.2)))
line_not told Memory run n first before block left taken old new e m h i k x a =
    stopped told IsWithinBlock (Some run) n first before (progress block left new taken)
    (λ z. absurd (cc))
    (same_answers told (Some run) n first before block left taken old new a k)
    (λ t _. line_some e block i) m
line_not told _ run n first before block left taken old new e m h i k x a = absurd x

pub line_goes : (is_at : ScriptRun → Type 0) (told : Option ScriptRun → List ℕ → Type 0)
    (o : Option LineSays) (run : ScriptRun) (n : ℕ) (first before : Option (List ℕ))
    (block : ReadAhead) (left taken : Option (List ℕ)) (old new : Answered) (e : Extent)
    → line_of (take e.line block.unread) ≡ o → n < 1000000 → length run.past ≤ n → IsLine e block
    → Goes told (Some run) n first before (progress block left old taken)
    → LineTold is_at told o run old new
    → IsUnderWay is_at told (n + 1) first before (progress (skipped block e) left new taken)
line_goes is_at told None run n first before block left taken old new e o h m i k x = absurd x
line_goes is_at told (Some Blank) run n first before block left taken old new e o h m i k x =
    record {
      run = run;
      at = x.0;
      few = omega arith;
      goes = goes_line told (Some run) run n first before block left taken old new e i k
          (λ ls. blank_remains run n (take e.line block.unread) ls (omega arith)
          (line_short e block i) o)
          (λ text t. subst (λ (a : Answered). told (Some run) (text ++ a.waiting)) (sym x.1) t)
          (ap (λ (a : Answered). a.events) x.1 ∙ k.events);
    }
line_goes is_at told (Some (Says event)) run n first before block left taken old new e o h m i k x =
    let later : ScriptRun = with_record run event in
    let more : length later.past ≤ n + 1 = omega (arith, m) in record {
      run = later;
      at = x.0;
      few = more;
      goes = goes_line told (Some run) later n first before block left taken old new e i k
          (λ ls. event_remains run n (take e.line block.unread) ls event (omega arith)
          (line_short e block i) o)
          x.1.more x.1.events;
    }

-- Before the script -------------------------------------------------------------------------------

pub opened : (told : Option ScriptRun → List ℕ → Type 0) (first before : Option (List ℕ))
    (answered : Answered) → told None answered.waiting → answered.events ≡ 0
    → Goes told None 0 first before
    (progress (record { unread = []; ended = false }) first answered before)
opened told first before answered w ev = record {
  whole = [];
  from = consumes_none first;
  at_end = λ e. absurd (cc);
  written = [];
  to = appends_none before;
  is_told = w;
  comes = λ rest f. account_is rest;
  none = λ _. refl;
  events = ev;
  lines = λ f. inl refl;
}

-- memory ran out before anything was told
pub not_opened : (told : Option ScriptRun → List ℕ → Type 0) (first before : Option (List ℕ))
    → told None [] → EndsBy told Memory first before (first_progress first before)
not_opened told first before w =
    memory_out told first before (first_progress first before) (omega arith)
    (opened told first before (record { waiting = []; events = 0 }) w refl)
