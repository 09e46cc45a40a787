-- A word is read where it stands, and nowhere else.
use Rattle.std.specs.Cmp.Lexicographic.{pointwise}
use Rattle.std.specs.Option.{MatchOption}
use Rattle.std.proofs.Common.{Bor, one-add}
use Rattle.std.proofs.lemmas.Fmt.{decimal-digits_value, decimal_digit, first_decimal}
use Rattle.std.proofs.lemmas.List.{drop_at, nil_from_length, take_at}
use Rattle.std.proofs.lemmas.List.Folds.{length-prefix_len}
use Rattle.std.proofs.lemmas.Slice.Eq.{bytes_eq-Decides}
use Rattle.std.proofs.lemmas.Str.Parse.{IsNumeralModel, numerals_by_value, tells_digits}
use Rattle.psci_board.specs.Grammar.{hex_at, is_number, literal_at, number_at, spaced_at}
use Rattle.psci_board.specs.Verdict.{at_most, list_at, more_at, range_at}
use Rattle.psci_board.specs.psci_abi.declared.registers.Format.TheVariants.{Extended, Original}
use Rattle.psci_board.proofs.More.{more_none, more_some, Shortens}
use Rattle.psci_board.proofs.Terms.{◌&&◌, ◌++◌, ◌+◌, ◌<◌, ◌^◌, ◌∙◌, ◌∷◌, ◌≡◌, ◌≤◌, []}
use Rattle.psci_board.proofs.Terms.{All-from_recursion, AllByRecursion, AllDigits, ap}
use Rattle.psci_board.proofs.Terms.{append_assoc, arith, Bool, bracketed, codes, cond, cond_some}
use Rattle.psci_board.proofs.Terms.{decimal, decimal_is_IsNumeral, decimal_nonempty, digit_value}
use Rattle.psci_board.proofs.Terms.{digits_value, drop, Ends, eqb, eqb-true, false, Format}
use Rattle.psci_board.proofs.Terms.{format_at, format_part, get_or, hex, is_ascii_digit}
use Rattle.psci_board.proofs.Terms.{is_ascii_hexdigit, IsHex, IsListOf, IsNumber, IsRange}
use Rattle.psci_board.proofs.Terms.{length, length-append, List, lit<, nat_le, nat_lt, nat_tests}
use Rattle.psci_board.proofs.Terms.{None, Option, option_and_then_some, option_map, prefix_len}
use Rattle.psci_board.proofs.Terms.{range, Reads, recursion_from_All, refl, same_Some, Some}
use Rattle.psci_board.proofs.Terms.{spaced, subst, suc, sym, take, take-append-drop, then_more}
use Rattle.psci_board.proofs.Terms.{true, zero, ℕ}
use Rattle.psci_board.proofs.Values.{decimal_front}

cond_both : {A : Type 0} (t : Bool) (o : Option A) (x : A) → cond t o None ≡ Some x
    → (t ≡ true) × (o ≡ Some x)
cond_both true o x e = (refl, e)
cond_both false o x e = cc

pub literal_takes : (word bytes rest : List ℕ) → literal_at word bytes ≡ Some rest
    → bytes ≡ word ++ rest
unfolding literal_at
literal_takes [] bytes rest e = cc
literal_takes (w ∷ ws) [] rest e = cc
literal_takes (w ∷ ws) (b ∷ bs) rest e =
    grind (arith, nat_tests, cond_both, eqb-true, literal_takes ws bs rest)

same : (b : ℕ) → eqb b b ≡ true
same b = grind (arith, nat_tests)

pub literal_again : (word rest : List ℕ) → literal_at word (word ++ rest) ≡ Some rest
unfolding literal_at
literal_again [] rest = refl
literal_again (w ∷ ws) rest = rw (same w, literal_again ws rest) refl

-- A word stands at the front of a text where the bytes there, one by one, are those of the word.

by_first : (t u : Bool) (o : Option (List ℕ)) (rest : List ℕ) → o ≡ cond u (Some rest) None
    → cond t o None ≡ cond (t && u) (Some rest) None
by_first true u o rest e = e
by_first false u o rest e = refl

pub literal_by_bytes : (word bytes : List ℕ) → literal_at word bytes
    ≡ cond (pointwise eqb (take (length word) bytes) word) (Some (drop (length word) bytes)) None
unfolding literal_at
literal_by_bytes [] bytes = refl
literal_by_bytes (w ∷ ws) [] = refl
literal_by_bytes (w ∷ ws) (b ∷ bs) = grind (arith, nat_tests, by_first, literal_by_bytes ws bs)

-- what is left once a word was stripped from the front
pub stripped : (word bytes : List ℕ) (r : Option (Bor (List ℕ)))
    → MatchOption r (pointwise eqb (take (length word) bytes) word ≡ false)
    (λ x. (pointwise eqb (take (length word) bytes) word ≡ true)
    × (x.now ≡ drop (length word) bytes) × (length x.now + length word ≡ length bytes))
    → option_map (λ rest. rest.now) r ≡ literal_at word bytes
stripped word bytes None h = rw (literal_by_bytes word bytes, h) refl
stripped word bytes (Some x) h = rw (literal_by_bytes word bytes, h.0, h.1) refl

-- Numbers are read as they are spelled, and in no other way.

-- Digits at the front ---------------------------------------------------------------------------

abbrev pub AllOfKind : (ℕ → Bool) → List ℕ → Type 0
AllOfKind kind ds = AllByRecursion (λ d. kind d ≡ true) ds

-- what stands before the first byte of another kind
kind_then : (kind : ℕ → Bool) (ds rest : List ℕ) → AllOfKind kind ds → Ends kind rest
    → prefix_len kind (ds ++ rest) ≡ length ds
kind_then kind [] [] h e = refl
kind_then kind [] (b ∷ bs) h e = rw e refl
kind_then kind (d ∷ ds) rest h e = grind (arith, nat_tests, kind_then kind ds rest)

kind_front_by : (kind : ℕ → Bool) (b : ℕ) (bs : List ℕ) (n : ℕ) (t : Bool) → kind b ≡ t
    → AllOfKind kind (take n bs) → AllOfKind kind (take (cond t (1 + n) 0) (b ∷ bs))
kind_front_by kind b bs n true e others = rw one-add (e, others)
kind_front_by kind b bs n false e others = tt

kind_front : (kind : ℕ → Bool) (bytes : List ℕ)
    → AllOfKind kind (take (prefix_len kind bytes) bytes)
kind_front kind [] = tt
kind_front kind (b ∷ bs) =
    kind_front_by kind b bs (prefix_len kind bs) (kind b) refl (kind_front kind bs)

-- Numbers ---------------------------------------------------------------------------------------

own : IsNumeralModel (AllDigits 10) (digits_value 10)
own = numerals_by_value (AllDigits 10) tells_digits

digit_passes : (c : ℕ) → digit_value c < 10 → is_ascii_digit c ≡ true
digit_passes c h = grind (arith, nat_tests)

digits_pass : (ds : List ℕ) → AllDigits 10 ds → AllOfKind is_ascii_digit ds
digits_pass [] h = tt
digits_pass (d ∷ ds) h = (digit_passes d h.0, digits_pass ds h.1)

tests_pass : (ds : List ℕ) → 0 < length ds → 48 < get_or ds 0 0 → digits_value 10 ds < 2 ^ 64
    → is_number ds ≡ true
tests_pass ds a b c = grind (arith, nat_tests)

-- a decimal text is a number's
numeral_passes : (n : ℕ) → n < 2 ^ 64 → is_number (decimal n) ≡ true
numeral_passes zero h = rw (decimal_digit 0 (lit< tt)) refl
numeral_passes (suc n) h =
    grind (arith, nat_tests, tests_pass, decimal_nonempty, first_decimal, decimal_is_IsNumeral)

number_again : (n : ℕ) (rest : List ℕ) → IsNumber n → Ends is_ascii_digit rest
    → number_at (decimal n ++ rest) ≡ Some (n, rest)
unfolding number_at
number_again n rest h e =
    let d = decimal_is_IsNumeral n h in
    grind (arith, nat_tests, kind_then, digits_pass, take_at, drop_at, numeral_passes)

-- what passes is the decimal text of its value
passes_numeral : (ds : List ℕ) → AllDigits 10 ds → is_number ds ≡ true
    → IsNumber (digits_value 10 ds) × (decimal (digits_value 10 ds) ≡ ds)
passes_numeral ds a h =
    let some : 0 < length ds = grind (arith, nat_tests) in
    let lead : get_or ds 0 0 ≡ 48 → length ds ≡ 1 = λ z. grind (arith, nat_tests) in
    let small : digits_value 10 ds < 2 ^ 64 = grind (arith, nat_tests) in
    (small, decimal-digits_value own ds a some lead small)

number_takes : (bytes : List ℕ) (x : ℕ × List ℕ) → number_at bytes ≡ Some x
    → IsNumber x.0 × (bytes ≡ decimal x.0 ++ x.1)
unfolding number_at
number_takes bytes x e =
    grind (arith, nat_tests, cond_some, passes_numeral, decimal_front, take-append-drop)

pub number_reads : Reads number_at decimal IsNumber is_ascii_digit
number_reads = record { again = number_again; takes = number_takes }

-- Hexadecimal numbers ---------------------------------------------------------------------------

hex_length : (n : ℕ) → 0 < n → n ≤ 16 → (nat_lt 0 n && nat_le n 16) ≡ true
hex_length n a b = grind (arith, nat_tests)

hex_again : (ds rest : List ℕ) → IsHex ds → Ends is_ascii_hexdigit rest
    → hex_at (hex ds ++ rest) ≡ Some (ds, rest)
unfolding hex_at literal_at
hex_again ds rest h e =
    grind (arith, nat_tests, kind_then, recursion_from_All, take_at, drop_at, hex_length)

hex_by_length : (n : ℕ) → (nat_lt 0 n && nat_le n 16) ≡ true → (0 < n) × (n ≤ 16)
hex_by_length n h = (grind (arith, nat_tests), grind (arith, nat_tests))

hex_takes : (bytes : List ℕ) (x : List ℕ × List ℕ) → hex_at bytes ≡ Some x
    → IsHex x.0 × (bytes ≡ hex x.0 ++ x.1)
unfolding hex_at
hex_takes bytes x e =
    option_and_then_some _ (literal_at (48 ∷ 120 ∷ []) bytes) x e (λ after a e1.
    let k = prefix_len is_ascii_hexdigit after in
    let c = cond_some (nat_lt 0 k && nat_le k 16) _ _ e1 in
    let few = hex_by_length k c.0 in
    let long : length (take k after) ≡ k = length-prefix_len is_ascii_hexdigit after in
    let digits : IsHex (take k after) = record {
      some = omega (arith, few.0, long);
      most = omega (arith, few.1, long);
      each = All-from_recursion _ (take k after) (kind_front is_ascii_hexdigit after);
    } in
    let whole : bytes ≡ hex (take k after) ++ drop k after =
    literal_takes (48 ∷ 120 ∷ []) bytes after a
    ∙ ap (λ bs. 48 ∷ 120 ∷ bs) (sym (take-append-drop k after)) in
    subst (λ (y : List ℕ × List ℕ). IsHex y.0 × (bytes ≡ hex y.0 ++ y.1)) c.1 (digits, whole))

pub hex_reads : Reads hex_at hex IsHex is_ascii_hexdigit
hex_reads = record { again = hex_again; takes = hex_takes }

pub ruleset reading = (literal_again, literal_takes, number_reads, hex_reads)

-- Ranges are read as they are spelled, and in no other way.

range_again : (r : List ℕ × List ℕ) (rest : List ℕ) → IsRange r
    → Ends is_ascii_hexdigit rest
    → range_at (range r ++ rest) ≡ Some (r, rest)
unfolding range_at literal_at
range_again r rest h e = grind (arith, nat_tests, hex_reads, append_assoc)

range_joined : (bytes from dash after to rest : List ℕ) → bytes ≡ from ++ dash → dash ≡ 45 ∷ after
    → after ≡ to ++ rest → bytes ≡ (from ++ 45 ∷ to) ++ rest
range_joined bytes from dash after to rest a b c = rw append_assoc (cc)

range_takes : (bytes : List ℕ) (x : (List ℕ × List ℕ) × List ℕ)
    → range_at bytes ≡ Some x
    → IsRange x.0 × (bytes ≡ range x.0 ++ x.1)
unfolding range_at
range_takes bytes x e =
    option_and_then_some _ (hex_at bytes) x e (λ from a e1.
    option_and_then_some _ (literal_at (45 ∷ []) from.1) x e1 (λ after b e2.
    option_and_then_some _ (hex_at after) x e2 (λ to d e3.
    let f = hex_reads.takes bytes from a in
    let t = hex_reads.takes after to d in
    let whole : bytes ≡ range (from.0, to.0) ++ to.1 =
    range_joined bytes (hex from.0) from.1 after (hex to.0) to.1 f.1
    (literal_takes (45 ∷ []) from.1 after b) t.1 in
    let same : ((from.0, to.0), to.1) ≡ x = same_Some _ _ e3 in
    subst (λ (y : (List ℕ × List ℕ) × List ℕ). IsRange y.0 × (bytes ≡ range y.0 ++ y.1)) same
    (record { start = f.0; end = t.0 }, whole))))

pub range_reads : Reads range_at range IsRange is_ascii_hexdigit
range_reads = record { again = range_again; takes = range_takes }

-- The last part of a text is read as it is spelled, and in no other way.

pub format_again : (f : Option Format) → format_at (format_part f) ≡ Some f
format_again None = refl
format_again (Some Original) = refl
format_again (Some Extended) = refl

-- a number before it ends there
pub ends_number : (f : Option Format) → Ends is_ascii_digit (format_part f)
ends_number None = tt
ends_number (Some Original) = refl
ends_number (Some Extended) = refl

chosen : (a b c : Bool) (bytes : List ℕ) (f : Option Format)
    → (a ≡ true → bytes ≡ []) → (b ≡ true → bytes ≡ codes " format original")
    → (c ≡ true → bytes ≡ codes " format extended")
    → cond a (Some None) (cond b (Some (Some Original)) (cond c (Some (Some Extended)) None))
    ≡ Some f → bytes ≡ format_part f
chosen true b c bytes f none original extended e = grind (arith, nat_tests, same_Some)
chosen false true c bytes f none original extended e = grind (arith, nat_tests, same_Some)
chosen false false true bytes f none original extended e = grind (arith, nat_tests, same_Some)
chosen false false false bytes f none original extended e = cc

pub format_takes : (bytes : List ℕ) (f : Option Format) → format_at bytes ≡ Some f
    → bytes ≡ format_part f
format_takes bytes f e =
    grind (arith, nat_tests, chosen, nil_from_length, eqb-true, bytes_eq-Decides)

-- What is spelled is read, whatever follows it, and what is read is spelled so: lists -------------

-- the items are spelled so, and this stands after them
abbrev Taken : {A : Type 0} → (A → List ℕ) → (A → Type 0) → List ℕ → List A × List ℕ → Type 0
Taken spell P bytes xs = AllByRecursion P xs.0 × (bytes ≡ spaced spell xs.0 ++ xs.1)

pub list_of : {A : Type 0} (P : A → Type 0) (x : A) (xs : List A) → P x → AllByRecursion P xs
    → IsListOf P (x ∷ xs)
list_of P x xs p ps = record { some = omega arith; each = All-from_recursion P (x ∷ xs) (p, ps) }

list_joined : (bytes within item after items rest close : List ℕ) → bytes ≡ 40 ∷ within
    → within ≡ item ++ after → after ≡ items ++ rest → rest ≡ 41 ∷ close
    → bytes ≡ (40 ∷ item ++ (items ++ 41 ∷ [])) ++ close
list_joined bytes within item after items rest close a b c d =
    rw (append_assoc, append_assoc) (cc)

module _ {A : Type 0} {item : List ℕ → Option (A × List ℕ)} {spell : A → List ℕ}
    {P : A → Type 0} {kind : ℕ → Bool} (r : Reads item spell P kind) where
  -- what is left is no longer than the text
  shortens : Shortens item
  shortens bytes x e =
      omega (arith, length-append (spell x.0) x.1, ap length (r.takes bytes x e).1)

  -- Items after a space each --------------------------------------------------------------------

  pub spaced_takes : (bytes : List ℕ) (x : A × List ℕ) → spaced_at item bytes ≡ Some x
      → P x.0 × (bytes ≡ 32 ∷ spell x.0 ++ x.1)
  unfolding spaced_at
  spaced_takes bytes x e =
      option_and_then_some _ (literal_at (32 ∷ []) bytes) x e (λ after l i.
      let t = r.takes after x i in
      (t.0, literal_takes (32 ∷ []) bytes after l ∙ ap (λ bs. 32 ∷ bs) t.1))

  ends_there : kind 32 ≡ false → (xs : List A) (rest : List ℕ) → Ends kind rest
      → Ends kind (spaced spell xs ++ rest)
  ends_there space [] rest e = e
  ends_there space (x ∷ xs) rest e = space

  pub first_again : kind 32 ≡ false → (x : A) (xs : List A) (rest : List ℕ) → P x → Ends kind rest
      → spaced_at item (spaced spell (x ∷ xs) ++ rest) ≡ Some (x, spaced spell xs ++ rest)
  unfolding spaced_at literal_at
  first_again space x xs rest p e = grind (arith, nat_tests, append_assoc, ends_there)

  pub more_again : kind 32 ≡ false → (xs : List A) (rest : List ℕ) → AllByRecursion P xs
      → Ends kind rest → spaced_at item rest ≡ None
      → more_at item (spaced spell xs ++ rest) ≡ (xs, rest)
  more_again space [] rest a e stop = more_none item shortens rest stop
  more_again space (x ∷ xs) rest a e stop =
      more_some item shortens _ x _ (first_again space x xs rest a.0 e)
      ∙ ap (λ q. (x ∷ q.0, q.1)) (more_again space xs rest a.1 e stop)

  then_takes : (bytes : List ℕ) (go : List ℕ → List A × List ℕ) (o : Option (A × List ℕ))
      → ((x : A × List ℕ) → o ≡ Some x → P x.0 × (bytes ≡ 32 ∷ spell x.0 ++ x.1))
      → ((bs : List ℕ) → Taken spell P bs (go bs)) → Taken spell P bytes (then_more bytes go o)
  then_takes bytes go None first others = (tt, refl)
  then_takes bytes go (Some x) first others = grind (arith, nat_tests, append_assoc)

  at_most_takes : (n : ℕ) (bytes : List ℕ) → Taken spell P bytes (at_most item n bytes)
  unfolding at_most
  at_most_takes zero bytes = (tt, refl)
  at_most_takes (suc n) bytes = grind (arith, nat_tests, then_takes, spaced_takes, at_most_takes n)

  pub more_takes : (bytes : List ℕ) → Taken spell P bytes (more_at item bytes)
  unfolding more_at
  more_takes bytes = at_most_takes (length bytes) bytes

  -- Lists ---------------------------------------------------------------------------------------

  unspaced : (rest : List ℕ) → spaced_at item (41 ∷ rest) ≡ None
  unfolding spaced_at literal_at
  unspaced rest = refl

  listed_again : (bytes rest first : List ℕ) (x : A) (xs : List A) → item bytes ≡ Some (x, first)
      → more_at item first ≡ (xs, 41 ∷ rest) → list_at item (40 ∷ bytes) ≡ Some (x ∷ xs, rest)
  unfolding list_at literal_at
  listed_again bytes rest first x xs a b = rw (a, b) refl

  pub list_again : kind 32 ≡ false → kind 41 ≡ false → (xs : List A) (rest : List ℕ)
      → IsListOf P xs → list_at item (bracketed spell xs ++ rest) ≡ Some (xs, rest)
  list_again space close [] rest h = absurd (omega (arith, h.some))
  list_again space close (x ∷ xs) rest h =
      let each = recursion_from_All P (x ∷ xs) h.each in
      let tail = spaced spell xs ++ 41 ∷ rest in
      let first = r.again x tail each.0 (ends_there space xs (41 ∷ rest) close) in
      let others = more_again space xs (41 ∷ rest) each.1 close (unspaced rest) in
      rw (append_assoc, append_assoc)
      (listed_again (spell x ++ tail) rest tail x xs first others)

  pub list_takes : (bytes : List ℕ) (xs : List A × List ℕ) → list_at item bytes ≡ Some xs
      → IsListOf P xs.0 × (bytes ≡ bracketed spell xs.0 ++ xs.1)
  unfolding list_at
  list_takes bytes xs e =
      option_and_then_some _ (literal_at (40 ∷ []) bytes) xs e (λ within a e1.
      option_and_then_some _ (item within) xs e1 (λ first b e2.
      option_and_then_some _ (literal_at (41 ∷ []) (more_at item first.1).1) xs e2 (λ close d e3.
      let others = more_at item first.1 in
      let f = r.takes within first b in
      let m = more_takes first.1 in
      let whole : bytes ≡ bracketed spell (first.0 ∷ others.0) ++ close =
      list_joined bytes within (spell first.0) first.1 (spaced spell others.0) others.1 close
      (literal_takes (40 ∷ []) bytes within a) f.1 m.1
      (literal_takes (41 ∷ []) others.1 close d) in
      let same : (first.0 ∷ others.0, close) ≡ xs = same_Some _ _ e3 in
      subst (λ (y : List A × List ℕ). IsListOf P y.0 × (bytes ≡ bracketed spell y.0 ++ y.1)) same
      (list_of P first.0 others.0 f.0 m.0, whole))))
