-- One row more.
use Rattle.std.proofs.Common.{◌++◌, ◌+◌, ◌∙◌, ◌∷◌, ◌≡◌, ap, append_assoc, arith, length, List}
use Rattle.std.proofs.Common.{refl, Some, sym, ℕ}
use Rattle.psci_world.specs.Settles.{WorldValue}
use Rattle.psci_world.specs.psci_board.Board.{BoardValue}
use Rattle.psci_world.specs.psci_world_spec.Legal.{legal_record}
use Rattle.psci_world.specs.psci_world_spec.declared.event.Event.{Event}
use Rattle.psci_world.specs.psci_world_spec.declared.said.Record.{Record}
use Rattle.psci_script.specs.EventText.{Answered, line_of}
use Rattle.psci_script.specs.declared.grammar.Line.TheVariants.{Event as Says}
use Rattle.psci_script.specs.Told.{EventTold, ScriptRun, with_record}
use Rattle.psci_script.specs.Text.{said_text}
use Rattle.psci_show.specs.declared.lines.Form.{Form}
use Rattle.psci_show.specs.Shown.{IsShown, IsShownOf, front}

-- the same record is legal on the same board after the same records
same_record : (w : WorldValue) (r : Record) (run : ScriptRun) (event : Event)
    → r ≡ legal_record w.board w.past event → w.board ≡ run.board → w.past ≡ run.past
    → r ≡ legal_record run.board run.past event
same_record w r run event e b p =
    e ∙ ap (λ (x : BoardValue). legal_record x w.past event) b
    ∙ ap (λ (x : List Record). legal_record run.board x event) p

same_past : (w v : WorldValue) (r : Record) (run : ScriptRun) (event : Event)
    → v.past ≡ r ∷ w.past → r ≡ legal_record run.board run.past event → w.past ≡ run.past
    → v.past ≡ (with_record run event).past
same_past w v r run event e same p =
    e ∙ ap (λ (x : Record). x ∷ w.past) same
    ∙ ap (λ (x : List Record). legal_record run.board run.past event ∷ x) p

-- how the row of a record begins
abbrev begun : Form → ℕ → List ℕ → Record → List ℕ
begun form number line r = front form number line r.event (said_text r.said)

pub row_told : (its : Form) (w v : WorldValue) (event : Event) (r : Record)
    (line row more : List ℕ) (old new : Answered) → line_of line ≡ Some (Says event)
    → r ≡ legal_record w.board w.past event → v.past ≡ r ∷ w.past → v.board ≡ w.board
    → row ≡ front its (length v.past) line r.event (said_text r.said) ++ more
    → new ≡ record { waiting = old.waiting ++ row; events = old.events + 1 }
    → (form : Form) (run : ScriptRun) → IsShownOf its w form run → old.events ≡ length run.past
    → IsShownOf its v form (with_record run event)
    × EventTold (λ r t. IsShown form r t) run event old new
row_told its w v event r line row more old new says e p b is a form run k ev =
    let same = same_record w r run event e k.board k.past in
    let next = (with_record run event).past in
    let past = same_past w v r run event p same k.past in
    let counted : new.events ≡ old.events + 1 = ap (λ (x : Answered). x.events) a in (
      record { form_is = k.form_is; board = b ∙ k.board; past = past },
      record {
        events = omega (arith, counted, ev);
        more = λ text t. (
          text ++ old.waiting,
          row,
          t,
          record {
            line = line;
            says = says;
            answer = said_text (legal_record run.board run.past event).said;
            answered = refl;
            more = more;
            is = is ∙ ap (λ (p : List Record). begun its (length p) line r ++ more) past
                ∙ ap (λ (r : Record). begun its (length next) line r ++ more) same
                ∙ ap (λ (f : Form). begun f (length next) line
                (legal_record run.board run.past event) ++ more) k.form_is;
          },
          ap (λ (x : Answered). text ++ x.waiting) a ∙ sym (append_assoc text old.waiting row),
        );
      },
    )
