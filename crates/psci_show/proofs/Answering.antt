-- An answer stands in its answer line between the number and the line feed; and what is written in
-- turn stands together.
use Rattle.std.proofs.Common.{◌≡◌, ◌∙◌, ap, sym, ℕ, ◌+◌, ◌-◌, ◌≤◌, List, [], ◌∷◌, ◌++◌, length}
use Rattle.std.proofs.Common.{take, drop, refl, arith, append_assoc, length-append, length-drop}
use Rattle.std.proofs.Common.{OnOk, Result, Ok, Err}
use Rattle.std.proofs.lemmas.List.{drop-drop}
use Rattle.std.proofs.Math.Seq.{take-append_seam}
use Rattle.std.specs.Prelude.{is_ok, slice_range, if◌then◌else◌}
use Rattle.std.specs.Fmt.{digits}
use Rattle.psci_world.specs.psci_world_spec.declared.said.Said.{Said}
use Rattle.psci_script.specs.Text.{answer_line, said_text}

line_0 : (said : Said) → answer_line 0 said ≡ 48 ∷ 32 ∷ (said_text said ++ 10 ∷ [])
unfolding digits
line_0 said = refl

module _ (room : List ℕ) (start : ℕ) (said : Said) (line : drop start room ≡ answer_line 0 said)
    (long : length room ≡ 448) where
  whole : drop start room ≡ 48 ∷ 32 ∷ (said_text said ++ 10 ∷ [])
  whole = line ∙ line_0 said

  lengths : length room - start ≡ 2 + (length (said_text said) + 1)
  lengths =
      let behind : length (said_text said ++ 10 ∷ []) ≡ length (said_text said) + 1 =
      length-append (said_text said) (10 ∷ []) in
      let all : length (drop start room) ≡ length (48 ∷ 32 ∷ (said_text said ++ 10 ∷ [])) =
      ap length whole in
      let left : length (drop start room) ≡ length room - start = length-drop start room in
      omega (arith, behind, all, left)

  pub within : start + 2 ≤ 447
  within = omega (arith, lengths, long)

  behind : drop (start + 2) room ≡ said_text said ++ 10 ∷ []
  behind = sym (drop-drop 2 start room) ∙ ap (λ (l : List ℕ). drop 2 l) whole

  count : 447 - (start + 2) ≡ length (said_text said)
  count = omega (arith, lengths, long)

  pub between : slice_range room (start + 2) 447 ≡ said_text said
  between =
      ap (λ (l : List ℕ). take (447 - (start + 2)) l) behind
      ∙ ap (λ (n : ℕ). take n (said_text said ++ 10 ∷ [])) count
      ∙ take-append_seam (said_text said) (10 ∷ [])

-- one text after the other
pub joined : (out s line a e b t q x1 x2 x3 x4 : List ℕ) → x1 ≡ out ++ s → x2 ≡ x1 ++ line
    → x3 ≡ x2 ++ (a ++ (e ++ b)) → x4 ≡ x3 ++ t
    → x4 ++ q ≡ out ++ (s ++ (line ++ (a ++ (e ++ (b ++ (t ++ q))))))
joined out s line a e b t q x1 x2 x3 x4 h1 h2 h3 h4 =
    ap (λ (x : List ℕ). x ++ q)
    (h4 ∙ ap (λ (x : List ℕ). x ++ t)
    (h3 ∙ ap (λ (x : List ℕ). x ++ (a ++ (e ++ b)))
    (h2 ∙ ap (λ (x : List ℕ). x ++ line) h1)))
    ∙ simp append_assoc refl

pub on_ok : {A E : Type 0} (r : Result A E) (x y z w : List ℕ)
    → x ≡ (if is_ok r then y else z) → y ≡ w → OnOk r (x ≡ w)
on_ok (Ok v) x y z w h e = h ∙ e
on_ok (Err v) x y z w h e = tt
