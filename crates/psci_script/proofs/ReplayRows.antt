-- Worked examples: which answers a replay writes, by how it ended, and at a read or memory fault
-- which bytes it has read; and for each something that breaks it.
use Rattle.std.proofs.Common.{◌++◌, ◌∷◌, ◌≡◌, [], ap, arith, Err, inr, List, Ok, Option, refl}
use Rattle.std.proofs.Common.{Result, Some, suc, ℕ}
use Rattle.std.specs.Prelude.{codes, length, slice_index}
use Rattle.psci_world_spec.specs.psci_board.declared.fault.BoardFault.TheVariants.{Grammar}
use Rattle.psci_script.specs.declared.fault.Replayed.{Replayed}
use Rattle.psci_script.specs.declared.fault.ReplayFault.{ReplayFault}
use Rattle.psci_script.specs.Script.{transcript}
use Rattle.psci_script.specs.Progress.{Replays}
use Rattle.psci_script.proofs.Cutting.{answering, board, text}
use Rattle.psci_script.specs.declared.fault.ReplayFault.TheVariants as stops
use Rattle.psci_script.specs.declared.fault.ScriptFault.TheVariants as faults

abbrev replayed : ℕ → ℕ → Result Replayed ReplayFault
replayed lines events = Ok (record { lines = lines; events = events })

-- two events that are answered; the sink had a byte before
abbrev script : List ℕ
script = text (board ∷ codes "enter 9" ∷ codes "deliver 1" ∷ [])

abbrev answers : List ℕ
answers = text (codes "1 absent" ∷ codes "2 absent" ∷ [])

all_answered : Replays (replayed 3 2) (Some script) (Some []) (Some (55 ∷ [])) (Some (55 ∷ answers))
unfolding answering
all_answered = (refl, refl)

-- another end, another count, an answer that is missing
ended_by_a_fault : Replays (Err (stops.Script 3 faults.Line)) (Some script) (Some []) (Some [])
    (Some answers) → ⊥
unfolding answering
ended_by_a_fault = search arith

another_count : Replays (replayed 3 1) (Some script) (Some []) (Some []) (Some answers) → ⊥
unfolding answering
another_count = search arith

one_answer_is_missing : Replays (replayed 3 2) (Some script) (Some []) (Some [])
    (Some (text (codes "1 absent" ∷ []))) → ⊥
unfolding answering
one_answer_is_missing = search arith

faulty_board : Replays (Err (stops.Board Grammar)) (Some (text (codes "board x" ∷ []))) (Some [])
    (Some (55 ∷ [])) (Some (55 ∷ []))
unfolding answering
faulty_board = (refl, refl)

-- the source failed within the third line: two lines are answered, and three bytes were read more
read_fault : Replays (Err stops.Read) (Some script) (Some (codes "iver 1" ++ 10 ∷ [])) (Some [])
    (Some (text (codes "1 absent" ∷ [])))
unfolding answering
read_fault = record {
  whole = text (board ∷ codes "enter 9" ∷ []);
  lines = inr (board ++ 10 ∷ codes "enter 9", refl);
  count = 2;
  sound = inr (1, refl);
  part = codes "del";
  fits = (refl, omega arith, λ some. omega arith);
  from = refl;
  to = refl;
}

-- memory ran out with the third line read
memory_fault : Replays (Err stops.Memory) (Some script) (Some []) (Some [])
    (Some (text (codes "1 absent" ∷ [])))
unfolding answering
memory_fault = record {
  whole = text (board ∷ codes "enter 9" ∷ []);
  lines = inr (board ++ 10 ∷ codes "enter 9", refl);
  count = 2;
  sound = inr (1, refl);
  part = codes "deliver 1" ++ 10 ∷ [];
  fits = omega arith;
  from = refl;
  to = refl;
}

-- bytes that the source has left were bytes of the script
longer : (bytes : List ℕ) (x : ℕ) → length (bytes ++ x ∷ []) ≡ suc (length bytes)
longer [] x = refl
longer (b ∷ bytes) x = ap suc (longer bytes x)

more_is_left_than_there_was : (before after : Option (List ℕ))
    → Replays (Err stops.Read) (Some []) (Some (65 ∷ [])) before after → ⊥
more_is_left_than_there_was before after replays =
    let e : ◌≡◌ {A = ℕ} 0 (length ((replays.whole ++ replays.part) ++ 65 ∷ [])) =
    ap length replays.from in
    let d = longer (replays.whole ++ replays.part) 65 in omega (arith, e, d)

-- nor is one of them another byte
another_byte_is_left : (before after : Option (List ℕ))
    → Replays (Err stops.Memory) (Some (65 ∷ [])) (Some (66 ∷ [])) before after → ⊥
another_byte_is_left before after replays =
    differs (replays.whole ++ replays.part) replays.from
  where
    differs : (bytes : List ℕ) → 65 ∷ [] ≡ bytes ++ 66 ∷ [] → ⊥
    differs [] e = let no : 65 ≡ 66 = ap (λ (l : List ℕ). slice_index l 0) e in omega (arith, no)
    differs (b ∷ bytes) e =
        let l = longer bytes 66 in
        let no : ◌≡◌ {A = ℕ} 1 (suc (length (bytes ++ 66 ∷ []))) = ap length e in
        omega (arith, l, no)

-- an answer is written of what was read alone
answer_to_nothing : Replays (Err stops.Read) (Some []) (Some []) (Some []) (Some (49 ∷ [])) → ⊥
unfolding answering
answer_to_nothing replays =
    unanswered replays.whole (front replays.whole replays.part replays.from) replays.to
  where
    front : (xs ys : List ℕ) → [] ≡ (xs ++ ys) ++ [] → [] ≡ xs
    front [] ys e = refl
    front (x ∷ xs) ys e = absurd (cc)

    unanswered : (xs : List ℕ) → [] ≡ xs → 49 ∷ [] ≡ (transcript xs).text → ⊥
    unanswered [] e is = absurd (cc)
    unanswered (x ∷ xs) e is = absurd (cc)
