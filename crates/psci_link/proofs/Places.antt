-- The parts in their places: reading one more, and that reading and writing undo each other.
use Rattle.std.specs.Int.{from_be_bytes, w32, w64}
use Rattle.std.specs.List.{AllByRecursion, flat_map, list_all}
use Rattle.std.specs.Prelude.{◌==◌}
use Rattle.std.proofs.Common.{◌*◌, ◌++◌, ◌+◌, ◌-◌, ◌<◌, ◌^◌, ◌∙◌, ◌∷◌, ◌≡◌, ◌≤◌, [], ap}
use Rattle.std.proofs.Common.{append_assoc, arith, drop, drop-drop, get_or, length}
use Rattle.std.proofs.Common.{length-append, length-drop, List, refl, replicate, suc, sym, take}
use Rattle.std.proofs.Common.{take-add, true, zero, ℕ}
use Rattle.std.proofs.Math.ListN.{set}
use Rattle.std.proofs.lemmas.Bool.{and_parts, eqb-true}
use Rattle.std.proofs.lemmas.Bool.Decides.{nat_tests}
use Rattle.std.proofs.lemmas.List.{drop_at, get_or-drop, get_or-take, get_or_past}
use Rattle.std.proofs.lemmas.List.{length-replicate, length-take, length-take-le}
use Rattle.std.proofs.lemmas.List.{take-append-drop}
use Rattle.std.proofs.lemmas.Nat.{be_bytes_8, from_be_bytes-to_be_bytes_8}
use Rattle.psci_messages.specs.declared.part.Part.{Part}
use Rattle.psci_link.specs.Frame.{AreBytes, part_bytes, part_fields, part_in, parts_in}

pub length-parts_in : (n : ℕ) (bytes : List ℕ) → length (parts_in n bytes) ≡ n
length-parts_in zero bytes = refl
length-parts_in (suc n) bytes = ap suc (length-parts_in n (drop 10 bytes))

-- one part more
pub parts_in-more : (n : ℕ) (bytes : List ℕ)
    → parts_in (suc n) bytes ≡ parts_in n bytes ++ part_in (drop (10 * n) bytes) ∷ []
parts_in-more zero bytes = refl
parts_in-more (suc n) bytes =
    let more : 10 * suc n ≡ 10 + 10 * n = omega arith in
    rw (parts_in-more n (drop 10 bytes), drop-drop (10 * n) 10 bytes, more)

pub AreBytes-drop : (n : ℕ) (bytes : List ℕ) → AreBytes bytes → AreBytes (drop n bytes)
AreBytes-drop n bytes fits = λ i. rw get_or-drop (fits (n + i))

pub AreBytes-take : (n : ℕ) (bytes : List ℕ) → AreBytes bytes → AreBytes (take n bytes)
AreBytes-take n bytes fits = λ i. grind (arith, get_or-take, get_or_past, length-take, fits i)

-- Numbers of four and of eight bytes.
pub four_bytes-fit : (bytes : List ℕ) → AreBytes bytes → from_be_bytes w32 bytes < 2 ^ 32
four_bytes-fit bytes fits = omega (arith, fits 0, fits 1, fits 2, fits 3)

eight_bytes-fit : (bytes : List ℕ) → AreBytes bytes → from_be_bytes w64 bytes < 2 ^ 64
eight_bytes-fit bytes fits =
    omega (arith, fits 0, fits 1, fits 2, fits 3, fits 4, fits 5, fits 6, fits 7)

pub generations-fit : (n : ℕ) (bytes : List ℕ) → AreBytes bytes
    → AllByRecursion (λ p. p.generation < 2 ^ 64) (parts_in n bytes)
generations-fit zero bytes fits = tt
generations-fit (suc n) bytes fits = (
  eight_bytes-fit (take 8 (drop 2 bytes)) (AreBytes-take 8 (drop 2 bytes)
      (AreBytes-drop 2 bytes fits)),
  generations-fit n (drop 10 bytes) (AreBytes-drop 10 bytes fits),
)

-- Reading, then writing: the bytes again.
part-written : (bytes : List ℕ) → AreBytes bytes → 10 ≤ length bytes
    → part_bytes (part_in bytes) ≡ take 10 bytes
part-written (a ∷ b ∷ rest) fits long =
    let inside = AreBytes-take 8 rest (AreBytes-drop 2 (a ∷ b ∷ rest) fits) in
    let eight : length (take 8 rest) ≡ 8 = length-take-le 8 rest (omega arith) in
    ap (λ (bytes : List ℕ). a ∷ b ∷ bytes) (be_bytes_8 (take 8 rest)
    (from_be_bytes w64 (take 8 rest)) eight inside refl)
part-written other fits long = absurd (omega arith)

pub parts-written : (n : ℕ) (bytes : List ℕ) → AreBytes bytes → 10 * n ≤ length bytes
    → flat_map part_bytes (parts_in n bytes) ≡ take (10 * n) bytes
parts-written zero bytes fits long = refl
parts-written (suc n) bytes fits long =
    let further : 10 * n ≤ length (drop 10 bytes) = omega (arith, length-drop 10 bytes) in
    let rest = parts-written n (drop 10 bytes) (AreBytes-drop 10 bytes fits) further in
    let first = part-written bytes fits (omega arith) in
    ap (λ (xs : List ℕ). xs ++ flat_map part_bytes (parts_in n (drop 10 bytes))) first
    ∙ ap (λ (xs : List ℕ). take 10 bytes ++ xs) rest ∙ sym (take-add 10 (10 * n) bytes)
    ∙ ap (λ (k : ℕ). take k bytes) {x = 10 + 10 * n} {y = 10 * suc n} (omega arith)

zeros : (bytes : List ℕ) → list_all (λ byte. byte == 0) bytes ≡ true
    → bytes ≡ replicate (length bytes) 0
zeros [] zero_ = refl
zeros (b ∷ bytes) zero_ = grind (arith, nat_tests, and_parts, eqb-true, zeros bytes)

pub places-written : (n : ℕ) (bytes : List ℕ) → AreBytes bytes → length bytes ≡ 40 → n ≤ 4
    → list_all (λ byte. byte == 0) (drop (10 * n) bytes) ≡ true → part_fields (parts_in n bytes)
    ≡ bytes
unfolding part_fields
places-written n bytes fits long few unused =
    let used = parts-written n bytes fits (omega arith) in
    let rest = zeros (drop (10 * n) bytes) unused in
    let left : length (drop (10 * n) bytes) ≡ 10 * (4 - n)
    = omega (arith, length-drop (10 * n) bytes) in
    let count = length-parts_in n bytes in
    rw (used, count, ← left, ← rest) (take-append-drop (10 * n) bytes)

-- Writing, then reading: the parts again.
part-read : (p : Part) (rest : List ℕ) → p.generation < 2 ^ 64 → part_in (part_bytes p ++ rest) ≡ p
part-read p rest fits =
    ap (λ (g : ℕ). record { level = p.level; depth = p.depth; generation = g })
    (from_be_bytes-to_be_bytes_8 p.generation fits)

pub parts-read : (ps : List Part) (rest : List ℕ) → AllByRecursion (λ p. p.generation < 2 ^ 64) ps
    → parts_in (length ps) (flat_map part_bytes ps ++ rest) ≡ ps
parts-read [] rest fits = refl
parts-read (p ∷ ps) rest fits =
    ap (parts_in (suc (length ps))) (append_assoc (part_bytes p) (flat_map part_bytes ps) rest)
    ∙ rw (part-read p (flat_map part_bytes ps ++ rest) fits.0, parts-read ps rest fits.1)

pub parts-in-places : (ps : List Part) → AllByRecursion (λ p. p.generation < 2 ^ 64) ps
    → parts_in (length ps) (part_fields ps) ≡ ps
unfolding part_fields
parts-in-places ps fits = parts-read ps (replicate (10 * (4 - length ps)) 0) fits

pub length-parts : (ps : List Part) → length (flat_map part_bytes ps) ≡ 10 * length ps
length-parts [] = refl
length-parts (p ∷ ps) = omega (arith, length-parts ps)

pub length-places : (ps : List Part) → length ps ≤ 4 → length (part_fields ps) ≡ 40
unfolding part_fields
length-places ps few = grind (arith, nat_tests, length-parts, length-replicate, length-append)

unused-zero : (n : ℕ) → list_all (λ byte. byte == 0) (replicate n 0) ≡ true
unused-zero zero = refl
unused-zero (suc n) = unused-zero n

pub unused-places : (ps : List Part) → list_all (λ byte. byte == 0)
    (drop (10 * length ps) (part_fields ps)) ≡ true
unfolding part_fields
unused-places ps = grind (arith, nat_tests, drop_at, length-parts, unused-zero)

-- Bytes that are written where they are to stand --------------------------------------------------

-- the first four elements of a list
abbrev these : List ℕ → List ℕ
these xs = get_or xs 0 0 ∷ get_or xs 1 0 ∷ get_or xs 2 0 ∷ get_or xs 3 0 ∷ []

four : (xs : List ℕ) → length xs ≡ 4 → xs ≡ these xs
four (a ∷ b ∷ c ∷ d ∷ []) long = refl
four other long = absurd (omega (arith, long))

-- a list with others in the place of so many of its elements
abbrev put : ℕ → ℕ → List ℕ → List ℕ → List ℕ
put a k xs ys = take a xs ++ (ys ++ drop k (drop a xs))

-- three fields of four bytes and a count, in a frame of zeros
abbrev HeaderIsPut : List ℕ → List ℕ → List ℕ → ℕ → Type 0
HeaderIsPut names life number count =
    set (put 8 4 (put 4 4 (put 0 4 (replicate 53 0) names) life) number) 12 count
    ≡ (names ++ (life ++ (number ++ count ∷ []))) ++ replicate 40 0

pub header_put : (names life number : List ℕ) (count : ℕ) → length names ≡ 4 → length life ≡ 4
    → length number ≡ 4 → HeaderIsPut names life number count
header_put names life number count n l m = rw (four names n, four life l, four number m)

none_after : (xs ys : List ℕ) → ys ++ drop (length xs) xs ≡ ys
none_after [] [] = refl
none_after [] (y ∷ ys) = simp (none_after [] ys)
none_after (x ∷ xs) ys = none_after xs ys

-- a level, a depth, and what stands behind them
pub part_put : (level depth : ℕ) (xs ys : List ℕ) → length xs ≡ 10
    → put 2 (length (set (set xs 0 level) 1 depth) - 2) (set (set xs 0 level) 1 depth) ys
    ≡ level ∷ depth ∷ ys
part_put level depth (a ∷ b ∷ xs) ys long = grind (arith, nat_tests, set, none_after)
part_put level depth other ys long = absurd (omega (arith, long))
