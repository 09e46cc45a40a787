-- Worked examples: the answer text of a run, and what a replay prints by its end; and for each
-- clause something that breaks it.
use Rattle.std.proofs.Common.{◌∷◌, ◌≡◌, [], ap, Err, length, List, None, Ok, Option, refl}
use Rattle.std.proofs.Common.{Result, Some, suc, zero, ℕ}
use Rattle.std.specs.Prelude.{codes}
use Rattle.std.specs.Fmt.{digits}
use Rattle.psci_script.specs.psci_board.Board.{BoardValue}
use Rattle.psci_script.specs.psci_board.declared.fault.BoardFault.TheVariants.{Grammar}
use Rattle.psci_script.specs.psci_world_spec.declared.event.Event.TheVariants.{Take, Wake}
use Rattle.psci_script.specs.psci_world_spec.declared.said.Said.TheVariants.{Absent, Ignored}
use Rattle.psci_script.specs.psci_world_spec.Legal.{IsLegalPast}
use Rattle.psci_script.specs.declared.fault.Replayed.{Replayed}
use Rattle.psci_script.specs.declared.fault.ReplayFault.{ReplayFault}
use Rattle.psci_script.specs.declared.fault.ReplayFault.TheVariants.{Board, Memory, Read, Script}
use Rattle.psci_script.specs.declared.fault.ReplayFault.TheVariants.{Write}
use Rattle.psci_script.specs.declared.fault.ScriptFault.TheVariants as faults
use Rattle.psci_script.specs.Script.{transcript}
use Rattle.psci_machine.specs.Safe.{AlwaysSafe}
use Rattle.psci_script.specs.Told.{ScriptRun, run_of}
use Rattle.psci_script.proofs.EndRows.{entered}
use Rattle.psci_script.proofs.Cutting.{answering, board, text}
use Rattle.psci_answers.specs.ScriptRun.{AllSafe, IsSafeText, Prints, SaysRun, text_of}
use Rattle.psci_answers.specs.ScriptRun.{WritesPart, WritesRun}
use Rattle.std.proofs.lemmas.Bool.{eqb-false}

-- the first byte, or 0 of none
abbrev first_or_0 : List ℕ → ℕ
first_or_0 [] = 0
first_or_0 (b ∷ bs) = b

-- Texts -----------------------------------------------------------------------------------------

-- the oldest first, numbered from 1
text_of_three : text_of (record { event = Wake 3; said = Ignored }
    ∷ record { event = Take 7; said = Absent } ∷ entered 0 0x40000000 ∷ [])
    ≡ codes "1 enter 0x40000000 0x0\n2 absent\n3 ignored\n"
unfolding digits
text_of_three = refl

-- an answer text is that of its run, which is legal, and always safe
other_text : (b : BoardValue)
    → IsSafeText [] (record { board = b; past = entered 2 0x4 ∷ [] }) → ⊥
unfolding digits
other_text b is = eqb-false 0 16 refl (ap length is.text)

illegal_run : (answers : List ℕ) (run : ScriptRun) → ¬ (IsLegalPast run.board run.past)
    → IsSafeText answers run → ⊥
illegal_run answers run differs is = differs is.legal

unsafe_run : (answers : List ℕ) (run : ScriptRun) → ¬ (AlwaysSafe run.board run.past)
    → IsSafeText answers run → ⊥
unsafe_run answers run differs is = differs is.safe

answered_without_a_board : SaysRun (codes "1 absent\n") None → ⊥
answered_without_a_board h = eqb-false 9 0 refl (ap length h)

answered_otherwise : (answers : List ℕ) (run : ScriptRun) → ¬ (answers ≡ text_of run.past)
    → SaysRun answers (Some run) → ⊥
answered_otherwise answers run differs is = differs is.text

-- What is printed -------------------------------------------------------------------------------

-- a script of two events, and what it is answered; the same without its last line
abbrev script : List ℕ
script = text (board ∷ codes "enter 9" ∷ codes "deliver 1" ∷ [])

abbrev answers : List ℕ
answers = codes "1 absent\n2 absent\n"

abbrev shorter : List ℕ
shorter = text (board ∷ codes "enter 9" ∷ [])

-- a whole text is written behind what was written before it
whole_text : AllSafe → WritesRun script (Some (55 ∷ [])) (Some (55 ∷ answers))
unfolding answering
whole_text safe = (safe script, refl)

-- it is that of a run
text_of_no_run : (bytes : List ℕ) (before after : Option (List ℕ))
    → ¬ (SaysRun (transcript bytes).text (run_of bytes)) → WritesRun bytes before after → ⊥
text_of_no_run bytes before after differs h = differs h.0

part_of_no_run : (bytes : List ℕ) (before after : Option (List ℕ))
    → ¬ (SaysRun (transcript bytes).text (run_of bytes)) → WritesPart bytes before after → ⊥
part_of_no_run bytes before after differs h = differs h.0

-- a front part, and no other one
front_part : AllSafe → WritesPart script (Some (55 ∷ [])) (Some (55 ∷ codes "1 ab"))
unfolding answering
front_part safe = (safe script, 4, refl)

no_part : AllSafe → WritesPart script (Some []) (Some [])
no_part safe = (safe script, 0, refl)

back_part : WritesPart script (Some []) (Some (codes "2 absent\n")) → ⊥
unfolding answering
back_part (says, zero, to) = eqb-false 9 0 refl (ap length to)
back_part (says, suc n, to) = eqb-false 50 49 refl (ap first_or_0 to)

-- a script that ends well, or at a fault of its own, is answered as a whole
abbrev whole : Result Replayed ReplayFault
whole = Ok (record { lines = 3; events = 2 })

prints_the_whole : AllSafe → Prints whole (Some script) (Some []) (Some answers)
    × Prints (Err (Script 4 faults.Line)) (Some script) (Some []) (Some answers)
unfolding answering
prints_the_whole safe = ((safe script, refl), (safe script, refl))

prints_a_part : ¬ (Prints whole (Some script) (Some []) (Some (codes "1 absent\n")))
    × ¬ (Prints (Err (Script 4 faults.Line)) (Some script) (Some []) (Some (codes "1 absent\n")))
unfolding answering
prints_a_part = (λ h. eqb-false 9 18 refl (ap length h.1), λ h. eqb-false 9 18 refl (ap length h.1))

-- a board at fault is answered by nothing
prints_no_board : AllSafe → Prints (Err (Board Grammar)) (Some (codes "board (2 2"))
    (Some (55 ∷ [])) (Some (55 ∷ []))
unfolding answering
prints_no_board safe = (safe (codes "board (2 2"), refl)

-- where a read failed or memory ran out, some whole lines are answered, and all of them
some_whole_lines : AllSafe → Prints (Err Read) (Some script) (Some []) (Some (codes "1 absent\n"))
    × Prints (Err Memory) (Some script) (Some []) (Some (codes "1 absent\n"))
unfolding answering
some_whole_lines safe = ((shorter, (safe shorter, refl)), (shorter, (safe shorter, refl)))

all_of_the_read : (first : Option (List ℕ)) (after : List ℕ)
    → Prints (Err Read) first (Some []) (Some after)
    → (bytes : List ℕ) × (after ≡ (transcript bytes).text)
all_of_the_read first after h = (h.0, h.1.1)

all_before_memory : (first : Option (List ℕ)) (after : List ℕ)
    → Prints (Err Memory) first (Some []) (Some after)
    → (bytes : List ℕ) × (after ≡ (transcript bytes).text)
all_before_memory first after h = (h.0, h.1.1)

-- where a write failed, a front part of the script's own answers
write_failed : AllSafe → Prints (Err Write) (Some script) (Some []) (Some (codes "1 absent\n2"))
unfolding answering
write_failed safe = (safe script, 10, refl)

write_failed_otherwise : Prints (Err Write) (Some script) (Some []) (Some (55 ∷ [])) → ⊥
unfolding answering
write_failed_otherwise (says, zero, to) = eqb-false 1 0 refl (ap length to)
write_failed_otherwise (says, suc n, to) = eqb-false 55 49 refl (ap first_or_0 to)
