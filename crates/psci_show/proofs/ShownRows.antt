-- Worked examples: how a row begins, and what a run is shown as; and for each clause something that
-- breaks it.
use Rattle.std.proofs.Common.{◌++◌, ◌∙◌, ◌∷◌, ◌≡◌, [], ap, false, length, List, None, refl, Some}
use Rattle.std.proofs.Common.{ℕ}
use Rattle.std.specs.Prelude.{codes, slice_index_or}
use Rattle.std.specs.Fmt.{decimal, digits}
use Rattle.psci_script.specs.psci_board.Board.{BoardValue}
use Rattle.psci_world.specs.psci_world_spec.declared.event.Event.TheVariants.{Take, Wake}
use Rattle.psci_world.specs.psci_world_spec.declared.said.Record.{Record}
use Rattle.psci_world.specs.psci_world_spec.declared.said.Said.TheVariants.{Absent, Ignored}
use Rattle.psci_script.specs.EventText.{line_of}
use Rattle.psci_script.specs.declared.grammar.Line.TheVariants.{Event as Says}
use Rattle.psci_script.proofs.Cutting.{reading}
use Rattle.psci_show.specs.declared.lines.Form.{Form}
use Rattle.psci_show.specs.declared.lines.Form.TheVariants.{Lines, Json}
use Rattle.psci_show.specs.Shown.{HasRows, IsEventRow, IsHeading, IsShown, front, number_text}
use Rattle.psci_script.proofs.Tables.{◌⇒◌, Gives}
use Rattle.std.proofs.lemmas.Bool.{eqb-false}

abbrev plain : Form
plain = Lines (record { width = 80; color = false; legend = false })

abbrev wake : Record
wake = record { event = Wake 3; said = Ignored }

abbrev take : Record
take = record { event = Take 7; said = Absent }

-- The front ---------------------------------------------------------------------------------------

number_texts : Gives number_text
    (9 ⇒ codes "   9"
    ∷ 10 ⇒ codes "  10"
    ∷ 999 ⇒ codes " 999"
    ∷ 100 ⇒ codes " 100"
    ∷ 1000 ⇒ codes "1000"
    ∷ 12345 ⇒ codes "12345" ∷ [])
unfolding digits
number_texts = refl

-- how the row of a wake-up of core 3 begins in JSON
abbrev woken : ℕ → List ℕ → List ℕ
woken number answer =
    codes "{\"number\": " ++ (decimal number ++ (codes ", \"line\": \"wake 3\", \"event\": "
    ++ (codes "{\"kind\": \"wake\", \"number\": 3}, \"answer\": \"" ++ (answer ++ codes "\""))))

-- A row -------------------------------------------------------------------------------------------

fourth : List ℕ → ℕ
fourth (a ∷ b ∷ c ∷ d ∷ rest) = d
fourth other = 0

row_of_another_number : IsEventRow plain 7 wake (codes "   8  R.. a wake-up\n") → ⊥
unfolding digits fourth
row_of_another_number k = eqb-false 56 55 refl (ap fourth k.is)

-- the byte at a place
abbrev place : ℕ → List ℕ → ℕ
place n text = slice_index_or text n 0

row_of_another_answer : (text : List ℕ) (k : IsEventRow Json 7 wake text)
    → k.answer ≡ codes "started 2" → ⊥
unfolding digits
row_of_another_answer text k e =
    eqb-false 105 115 refl
    (ap (place 2) k.answered ∙ ap (λ (a : List ℕ). place 2 (codes "7 " ++ (a ++ 10 ∷ []))) e)

row_of_another_event : (text : List ℕ) (k : IsEventRow Json 7 wake text)
    → ¬ (line_of k.line ≡ Some (Says (Wake 3))) → ⊥
row_of_another_event text k differs = differs k.says

-- Before all rows ---------------------------------------------------------------------------------

no_heading : IsHeading plain []
no_heading = λ _. refl

legend_unasked : IsHeading plain (codes "R") → ⊥
legend_unasked h = eqb-false 1 0 refl (ap length (h refl))

-- A run -------------------------------------------------------------------------------------------

nothing_yet : IsShown plain None []
nothing_yet = λ _. refl

json_before_the_board : IsShown Json None (codes "{") → ⊥
json_before_the_board h = eqb-false 1 0 refl (ap length h)

no_event : (b : BoardValue) → IsShown plain (Some (record { board = b; past = [] })) []
no_event b = λ _. refl

abbrev first_row : List ℕ
first_row = codes "   1  a wake-up\n"

abbrev second_row : List ℕ
second_row = codes "   2  an acknowledgement\n"

two_rows : (b : BoardValue)
    → IsShown plain (Some (record { board = b; past = take ∷ wake ∷ [] })) (first_row ++ second_row)
unfolding digits reading
two_rows b = (
  first_row,
  second_row,
  (
    [],
    first_row,
    (λ _. refl),
    record {
      line = codes "wake 3";
      says = refl;
      answer = codes "ignored";
      answered = refl;
      more = codes "  a wake-up\n";
      is = refl;
    },
    refl,
  ),
  record {
    line = codes "take 7";
    says = refl;
    answer = codes "absent";
    answered = refl;
    more = codes "  an acknowledgement\n";
    is = refl;
  },
  refl,
)

row_is_missing : HasRows plain (wake ∷ []) [] → ⊥
unfolding digits
row_is_missing h = no_row h.0 h.1 h.4 (ap length h.3.is) where
  no_row : (before row : List ℕ) → (let none : List ℕ = [] in none ≡ before ++ row)
      → length row ≡ length (front plain 1 h.3.line wake.event h.3.answer ++ h.3.more) → ⊥
  no_row [] [] e f = absurd (cc)
  no_row [] (x ∷ row) e f = absurd (cc)
  no_row (x ∷ before) row e f = absurd (cc)
