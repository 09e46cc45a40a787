-- The first line feed.
use Rattle.std.specs.Fmt.{digits}
use Rattle.std.specs.List.{copy_within, position, position_or_len}
use Rattle.std.specs.Prelude.{codes}
use Rattle.std.proofs.Common.{◌++◌, ◌+◌, ◌-◌, ◌<◌, ◌==◌, ◌||◌, ◌∙◌, ◌∷◌, ◌≡◌, ◌≤◌, [], ap}
use Rattle.std.proofs.Common.{append_assoc, arith, Bool, cond, drop, false, get_or, length}
use Rattle.std.proofs.Common.{length-drop, List, nat_lt, None, not, Option, refl, Some, subst}
use Rattle.std.proofs.Common.{suc, sym, take, true, ℕ}
use Rattle.std.proofs.Math.Seq.{take-append-add}
use Rattle.std.proofs.lemmas.Bool.{eqb-true}
use Rattle.std.proofs.lemmas.Bool.Decides.{nat_tests}
use Rattle.std.proofs.lemmas.List.{drop-append-le, drop-take, length-append, length-take}
use Rattle.std.proofs.lemmas.List.{length-take-le, take-append-drop, take-append-le, take-take}
use Rattle.std.proofs.lemmas.List.{take_all}
use Rattle.std.proofs.lemmas.List.Edits.{take-paste}
use Rattle.std.proofs.lemmas.List.Sums.{position_or_len_is}
use Rattle.memchr.specs.Find.{is_byte, IsFirstByte}
use borrow.Author.Tests.{ltb-false, ltb-true}
use borrow.Rule.Slice.PartMut.{post_of, put_mid}
use Rattle.psci_board.specs.Grammar.{hex_at, literal_at, number_at, spaced_at}
use Rattle.psci_board.proofs.Decided.{judging}
use Rattle.psci_world_spec.proofs.Scripts.{computing}
use Rattle.psci_script.specs.EventText.{alone_at, call_at, event_at, has_line_feed, in_line}
use Rattle.psci_script.specs.EventText.{line_of, lines, optional_register_at, register_at}
use Rattle.psci_script.specs.Script.{transcript, transcript_of_rest}

abbrev pub feed : ℕ → Bool
feed b = b == 10

abbrev place : List ℕ → ℕ
place xs = position_or_len feed xs

-- a test that is not passed fails
fails : (b : Bool) → (b ≡ true → ⊥) → b ≡ false
fails true h = absurd (h refl)
fails false h = refl

position_by : (xs : List ℕ) (n : ℕ) → place xs ≡ n → position feed xs
    ≡ cond (nat_lt n (length xs)) (Some n) None
position_by xs n e = ap (λ (k : ℕ). cond (nat_lt k (length xs)) (Some k) None) e

-- where the first byte that is a line feed stands
pub first_feed : (xs : List ℕ) (r : Option ℕ) → IsFirstByte (is_byte 10) xs r
    → r ≡ position feed xs
first_feed xs None h =
    let at : place xs ≡ length xs =
    position_or_len_is feed xs (length xs) 0 (omega arith)
    (λ k l. fails (feed (get_or xs k 0)) (h k (omega arith) l)) (λ l. absurd (omega (arith, l))) in
    let t : nat_lt (length xs) (length xs) ≡ false = grind (arith, nat_tests) in
    rw (position_by xs (length xs) at, t) refl
first_feed xs (Some n) h =
    let l : n < length xs = h.0.high in
    let at : place xs ≡ n =
    position_or_len_is feed xs n 0 (omega (arith, l))
    (λ k m. fails (feed (get_or xs k 0)) (h.0.before k (omega arith) m)) (λ m. h.1) in
    let t : nat_lt n (length xs) ≡ true = grind (arith, nat_tests) in
    rw (position_by xs n at, t) refl

-- before the first line feed there is none
before_more : (x : ℕ) (xs : List ℕ) (t : Bool) → feed x ≡ t
    → has_line_feed (take (place xs) xs) ≡ false
    → has_line_feed (take (cond (not t) (1 + place xs) 0) (x ∷ xs)) ≡ false
before_more x xs true e h = refl
before_more x xs false e h = grind (arith, nat_tests, place)

before : (xs : List ℕ) → has_line_feed (take (place xs) xs) ≡ false
before [] = refl
before (x ∷ xs) = before_more x xs (feed x) refl (before xs)

-- and there it is
abbrev There : List ℕ → ℕ → Type 0
There xs n = xs ≡ take n xs ++ 10 ∷ drop (suc n) xs

there_more : (x : ℕ) (xs : List ℕ) (t : Bool) → feed x ≡ t
    → (place xs < length xs → There xs (place xs)) → cond (not t) (1 + place xs) 0 < suc (length xs)
    → There (x ∷ xs) (cond (not t) (1 + place xs) 0)
there_more x xs true e k h = ap (λ (y : ℕ). y ∷ xs) (eqb-true x 10 e)
there_more x xs false e k h = grind (arith, nat_tests, place)

there : (xs : List ℕ) → place xs < length xs → There xs (place xs)
there [] h = absurd (omega arith)
there (x ∷ xs) h = there_more x xs (feed x) refl (there xs) h

some_is : (b : Bool) (m n : ℕ) → cond b (Some m) None ≡ Some n → (b ≡ true) × (m ≡ n)
some_is true m n e = (refl, cc)
some_is false m n e = absurd (cc)

none_is : (b : Bool) (m : ℕ) → cond b (Some m) None ≡ None → b ≡ false
none_is true m e = absurd (cc)
none_is false m e = refl

abbrev Cut : List ℕ → ℕ → Type 0
Cut xs n = (n ≤ 256) × (n < length xs) × (has_line_feed (take n xs) ≡ false)
    × (xs ≡ take n xs ++ 10 ∷ drop (n + 1) xs)

whole_in : (ys zs : List ℕ) (n : ℕ) → n ≡ place ys → n < length ys → length ys ≤ 257
    → Cut (ys ++ zs) n
whole_in ys zs n e h k =
    let front : take n (ys ++ zs) ≡ take n ys = take-append-le n ys zs (omega arith) in
    let appended : drop (n + 1) (ys ++ zs) ≡ drop (n + 1) ys ++ zs =
    drop-append-le (n + 1) ys zs (omega arith) in
    let one : suc n ≡ n + 1 = omega arith in
    let at : There ys n = subst (λ (m : ℕ). There ys m) (sym e)
    (there ys (let r : place ys < length ys = omega arith in r)) in
    let seam : (ys ++ zs) ≡ take n ys ++ 10 ∷ (drop (suc n) ys ++ zs) =
    ap (λ (x : List ℕ). x ++ zs) at ∙ append_assoc (take n ys) (10 ∷ drop (suc n) ys) zs in (
      omega arith,
      omega (arith, length-append ys zs),
      ap has_line_feed front ∙ ap (λ (m : ℕ). has_line_feed (take m ys)) e ∙ before ys,
      seam ∙ ap (λ (m : ℕ). take n ys ++ 10 ∷ (drop m ys ++ zs)) one
          ∙ ap (λ (x : List ℕ). take n ys ++ 10 ∷ x) (sym appended)
          ∙ ap (λ (x : List ℕ). x ++ 10 ∷ drop (n + 1) (ys ++ zs)) (sym front),
    )

pub whole_cut : (xs : List ℕ) (n : ℕ) → position feed (take 257 xs) ≡ Some n → Cut xs n
whole_cut xs n e =
    let ys = take 257 xs in
    let zs = drop 257 xs in
    let f = some_is (nat_lt (place ys) (length ys)) (place ys) n e in
    let l : place ys < length ys = ltb-true (place ys) (length ys) f.0 in
    let same : place ys ≡ n = f.1 in
    let few : length ys ≤ 257 = omega (arith, length-take 257 xs) in
    subst (λ (x : List ℕ). Cut x n) (take-append-drop 257 xs)
    (whole_in ys zs n (sym same) (omega arith) few)

pub none_cut : (xs : List ℕ) → position feed (take 257 xs) ≡ None
    → has_line_feed (take 257 xs) ≡ false
none_cut xs e =
    let ys = take 257 xs in
    let f = none_is (nat_lt (place ys) (length ys)) (place ys) e in
    let l : length ys ≤ place ys = ltb-false (place ys) (length ys) f in
    ap has_line_feed (sym (take_all (place ys) ys l)) ∙ before ys

pub part_cut : (xs : List ℕ) → position feed (take 257 xs) ≡ None → length xs ≤ 256
    → (length xs ≤ 256) × (has_line_feed xs ≡ false)
part_cut xs e h = (h, ap has_line_feed (sym (take_all 257 xs (omega arith))) ∙ none_cut xs e)

-- Bytes that move to the front of their room ------------------------------------------------------

-- the front holds what moved there
pub moved : (xs : List ℕ) (i j : ℕ) → i ≤ j → j ≤ length xs
    → take (j - i) (copy_within xs i j 0) ≡ drop i (take j xs)
moved xs i j h k =
    let s : i + (j - i) ≡ j = omega arith in
    let n : j - i ≤ length (drop i xs) = omega (arith, length-drop i xs) in
    let p : take (0 + (j - i)) (copy_within xs i j 0) ≡ take (j - i) (drop i xs) =
    take-paste xs 0 (drop i xs) (j - i) (omega arith) n in
    let q : drop i (take j xs) ≡ take (j - i) (drop i xs) =
    ap (λ (m : ℕ). drop i (take m xs)) (sym s) ∙ drop-take i (j - i) xs in
    let z : 0 + (j - i) ≡ j - i = omega arith in
    ap (λ (m : ℕ). take m (copy_within xs i j 0)) (sym z) ∙ p ∙ sym q

-- and then what was read behind it
pub filled : (n count : ℕ) (xs buffer rest : List ℕ) → n ≤ length xs → count ≤ length buffer
    → take (n + count) (take n xs ++ (buffer ++ rest)) ≡ take n xs ++ take count buffer
filled n count xs buffer rest h k =
    grind (arith, nat_tests, length-take-le, take-append-add, take-append-le)

-- the bytes of the room, of which the first n waited, after a read behind them
pub refilled : (n k count most : ℕ) (xs buffer rest waiting : List ℕ) → n ≤ length xs
    → count ≤ length buffer → n + count ≤ most → take n xs ≡ waiting
    → take (n + count) (take most (put_mid n k xs buffer ++ rest)) ≡ waiting ++ take count buffer
refilled n k count most xs buffer rest waiting h m l e =
    grind (arith, nat_tests, put_mid, post_of, take-take, append_assoc, filled)

pub some_came : (n : ℕ) (buffer : List ℕ) → n ≤ length buffer → nat_lt 0 n ≡ true
    → 0 < length (take n buffer)
some_came n buffer h e = omega (arith, length-take-le n buffer h, ltb-true 0 n e)

pub none_came : (n : ℕ) (buffer : List ℕ) → nat_lt 0 n ≡ false → take n buffer ≡ []
none_came n buffer e = grind (arith, nat_tests, ltb-false)

-- how many bytes wait
pub waiting_length : (xs waiting : List ℕ) (i j : ℕ) → i ≤ j → j ≤ length xs
    → drop i (take j xs) ≡ waiting → length waiting ≡ j - i
waiting_length xs waiting i j h k e = grind (arith, nat_tests, length-drop, length-take-le)

-- the same after a read that failed
pub unfilled : (n k most : ℕ) (xs buffer rest waiting : List ℕ) → n ≤ length xs → n ≤ most
    → take n xs ≡ waiting → take n (take most (put_mid n k xs buffer ++ rest)) ≡ waiting
unfilled n k most xs buffer rest waiting h l e =
    let all = put_mid n k xs buffer ++ rest in
    let post = post_of n k xs in
    let t : n ≤ length (take n xs) = omega (arith, length-take-le n xs h) in
    take-take n most all l
    ∙ ap (λ (x : List ℕ). take n x) (append_assoc (take n xs) (buffer ++ post) rest)
    ∙ take-append-le n (take n xs) ((buffer ++ post) ++ rest) t
    ∙ take-take n n xs (omega arith)
    ∙ e

pub counted : (n : ℕ) → nat_lt 0 n ≡ true → (n == 0) ≡ false
counted n e = let b : 0 < n = ltb-true 0 n e in grind (arith, nat_tests)

pub not_counted : (n : ℕ) → nat_lt 0 n ≡ false → (n == 0) ≡ true
not_counted n e = let b : n ≤ 0 = ltb-false 0 n e in grind (arith, nat_tests)

pub end_came : (n : ℕ) (buffer : List ℕ) (E : Type 0) → (n ≡ 0 → 0 < length buffer → E)
    → 0 < length buffer → (n == 0) ≡ true → E
end_came n buffer E end room e = end (let z : n ≡ 0 = eqb-true n 0 e in z) room

-- What worked examples of scripts are stated by ---------------------------------------------------

-- what an example unfolds to read a line that is written out
unfoldable pub reading : Unit {0}
unfolding line_of event_at call_at alone_at register_at optional_register_at spaced_at hex_at
    number_at literal_at
reading = tt

-- what an example unfolds to answer a script that is written out
unfoldable pub answering : Unit {0}
unfolding transcript transcript_of_rest lines reading judging computing digits
answering = tt

-- lines, each with its line feed
abbrev pub text : List (List ℕ) → List ℕ
text [] = []
text (l ∷ ls) = l ++ 10 ∷ text ls

-- two clusters of two cores
abbrev pub board : List ℕ
board = codes "board (2 2) exec 0x40000000-0x40100000 boot 0x40000000 starts 1000 lives 3"

-- The lines of bytes that begin with a line -------------------------------------------------------

or_false : (a b : Bool) → (a || b) ≡ false → (a ≡ false) × (b ≡ false)
or_false true b e = absurd (cc)
or_false false b e = (refl, e)

pub lines_feed : (rest : List ℕ) → lines (10 ∷ rest) ≡ [] ∷ lines rest
unfolding lines
lines_feed rest = refl

pub lines_more : (b : ℕ) (bs : List ℕ) → (b == 10) ≡ false → lines (b ∷ bs) ≡ in_line b (lines bs)
unfolding lines
lines_more b bs e = ap (λ (t : Bool). cond t ([] ∷ lines bs) (in_line b (lines bs))) e

pub lines_none : lines [] ≡ []
unfolding lines
lines_none = refl

-- a line and its line feed
pub lines_whole : (l rest : List ℕ) → has_line_feed l ≡ false
    → lines (l ++ 10 ∷ rest) ≡ l ∷ lines rest
lines_whole [] rest h = lines_feed rest
lines_whole (b ∷ bs) rest h = grind (arith, nat_tests, or_false, lines_more, lines_whole bs rest)

-- the front of a line, whatever follows
pub record Longer (l : List ℕ) (all : List (List ℕ)) : Type 0 where
  pub first : List ℕ
  pub others : List (List ℕ)
  pub is : all ≡ first ∷ others
  pub long : length l ≤ length first

in_line_long : (b : ℕ) (bs : List ℕ) (all : List (List ℕ)) → Longer bs all
    → Longer (b ∷ bs) (in_line b all)
in_line_long b bs all h = grind (arith, nat_tests)

in_line_any : (b : ℕ) (all : List (List ℕ)) → Longer (b ∷ []) (in_line b all)
in_line_any b [] = record { first = b ∷ []; others = []; is = refl; long = omega arith }
in_line_any b (l ∷ ls) = record { first = b ∷ l; others = ls; is = refl; long = omega arith }

along : (l : List ℕ) (x y : List (List ℕ)) → x ≡ y → Longer l y → Longer l x
along l x y e h = record { first = h.first; others = h.others; is = e ∙ h.is; long = h.long }

pub lines_long : (b : ℕ) (bs rest : List ℕ) → has_line_feed (b ∷ bs) ≡ false
    → Longer (b ∷ bs) (lines ((b ∷ bs) ++ rest))
lines_long b [] rest h = grind (arith, nat_tests, or_false, along, lines_more, in_line_any)
lines_long b (c ∷ bs) rest h =
    grind (arith, nat_tests, or_false, along, lines_more, in_line_long, lines_long c bs rest)

-- the last line, without a line feed
pub lines_last : (b : ℕ) (bs : List ℕ) → has_line_feed (b ∷ bs) ≡ false
    → lines (b ∷ bs) ≡ (b ∷ bs) ∷ []
lines_last b [] h = grind (arith, nat_tests, or_false, lines_more, lines_none)
lines_last b (c ∷ bs) h = grind (arith, nat_tests, or_false, lines_more, lines_last c bs)

some_by : (b : ℕ) (bs : List ℕ) (t : Bool) → (b == 10) ≡ t
    → Longer [] (cond t ([] ∷ lines bs) (in_line b (lines bs)))
some_by b bs true e = record { first = []; others = lines bs; is = refl; long = omega arith }
some_by b bs false e = grind (arith, nat_tests, in_line_any)

-- some bytes have a first line
pub lines_some : (b : ℕ) (bs : List ℕ) → Longer [] (lines (b ∷ bs))
unfolding lines
lines_some b bs = some_by b bs (b == 10) refl
