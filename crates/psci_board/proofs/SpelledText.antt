-- A board text is read as it is spelled, and in no other way.
use Rattle.psci_board.proofs.Terms.{◌++◌, ◌∙◌, ◌∷◌, ◌≡◌, [], AllByRecursion, ap, append_assoc}
use Rattle.psci_board.proofs.Terms.{arith, BoardText, codes, decimal, Format, format_at}
use Rattle.psci_board.proofs.Terms.{format_part, hex, IsHex, IsNumber, IsRange, IsTreeText, List}
use Rattle.psci_board.proofs.Terms.{more_at, nat_tests, None, number_at, Option}
use Rattle.psci_board.proofs.Terms.{option_and_then_some, range, recursion_from_All, refl}
use Rattle.psci_board.proofs.Terms.{same_Some, Some, spaced, subst, tree, tree_at, TreeText, ℕ}
use Rattle.psci_board.specs.Grammar.{hex_at, IsBoardText, literal_at, spaced_at, spelling}
use Rattle.psci_board.specs.Verdict.{range_at, board_text}
use Rattle.psci_board.proofs.SpelledParts.{ends_number, first_again, format_again, format_takes}
use Rattle.psci_board.proofs.SpelledParts.{hex_reads, list_of, literal_takes, more_again}
use Rattle.psci_board.proofs.SpelledParts.{more_takes, number_reads, range_reads, spaced_takes}
use Rattle.psci_board.proofs.SpelledTree.{tree_reads}

abbrev IsRead : BoardText → Type 0
IsRead t = board_text (spelling t) ≡ Some t

abbrev board : TreeText → List (List ℕ × List ℕ) → List ℕ → ℕ → ℕ → Option Format → BoardText
board t rs boot starts lives format =
    record { tree = t; ranges = rs; boot = boot; starts = starts; lives = lives; format = format }

-- no range stands before a word that is not an address
no_range : (rest : List ℕ) → spaced_at range_at (codes " boot " ++ rest) ≡ None
unfolding spaced_at range_at hex_at literal_at
no_range rest = refl

others_again : (rs : List (List ℕ × List ℕ)) (rest : List ℕ)
    → AllByRecursion IsRange rs
    → more_at range_at (spaced range rs ++ (codes " boot " ++ rest)) ≡ (rs, codes " boot " ++ rest)
others_again rs rest h = grind (arith, nat_tests, more_again, range_reads, no_range)

parts_again : (t : TreeText) (r : List ℕ × List ℕ) (rs : List (List ℕ × List ℕ))
    (boot : List ℕ)
    (starts lives : ℕ) (f : Option Format) → IsTreeText t → IsRange r → AllByRecursion IsRange rs
    → IsHex boot → IsNumber starts → IsNumber lives
    → IsRead (board t (r ∷ rs) boot starts lives f)
unfolding board_text literal_at
parts_again t r rs boot starts lives f ht hr hrs hb hs hl =
    let after_starts = codes " lives " ++ (decimal lives ++ format_part f) in
    let after_boot = codes " starts " ++ (decimal starts ++ after_starts) in
    let after_ranges = codes " boot " ++ (hex boot ++ after_boot) in
    let after_tree = codes " exec" ++ (spaced range (r ∷ rs) ++ after_ranges) in
    let tree_again : tree_at (tree t ++ after_tree) ≡ Some (t, after_tree) =
    tree_reads.again t after_tree ht refl in
    let range_again =
    first_again range_reads refl r rs after_ranges hr refl in
    let ranges_again = others_again rs (hex boot ++ after_boot) hrs in
    let boot_again : hex_at (hex boot ++ after_boot) ≡ Some (boot, after_boot) =
    hex_reads.again boot after_boot hb refl in
    let starts_again : number_at (decimal starts ++ after_starts) ≡ Some (starts, after_starts) =
    number_reads.again starts after_starts hs refl in
    let lives_again : number_at (decimal lives ++ format_part f) ≡ Some (lives, format_part f) =
    number_reads.again lives (format_part f) hl (ends_number f) in
    rw (
      tree_again,
      range_again,
      ranges_again,
      boot_again,
      starts_again,
      lives_again,
      format_again f,
    ) refl

text_by : (t : TreeText) (rs : List (List ℕ × List ℕ)) (boot : List ℕ)
    (starts lives : ℕ) (f : Option Format)
    → IsBoardText (board t rs boot starts lives f) → IsRead (board t rs boot starts lives f)
text_by t [] boot starts lives f h = absurd (omega (arith, h.ranges.some))
text_by t (r ∷ rs) boot starts lives f h =
    let each = recursion_from_All IsRange (r ∷ rs) h.ranges.each in
    parts_again t r rs boot starts lives f h.tree each.0 each.1 h.boot h.starts h.lives

pub text_again : (t : BoardText) → IsBoardText t → board_text (spelling t) ≡ Some t
text_again t h = text_by t.tree t.ranges t.boot t.starts t.lives t.format h

-- What is read ----------------------------------------------------------------------------------

-- the parts stand one after the other
parts_joined : (bytes t after_t w1 rest1 r after_r rs after_rs w2 rest2 b after_b w3 rest3 s
    after_s w4 rest4 l f : List ℕ)
    → bytes ≡ t ++ after_t → after_t ≡ w1 ++ rest1 → rest1 ≡ r ++ after_r
    → after_r ≡ rs ++ after_rs → after_rs ≡ w2 ++ rest2 → rest2 ≡ b ++ after_b
    → after_b ≡ w3 ++ rest3 → rest3 ≡ s ++ after_s → after_s ≡ w4 ++ rest4
    → rest4 ≡ l ++ f
    → bytes ≡ t ++ (w1 ++ ((r ++ rs) ++ (w2 ++ (b ++ (w3 ++ (s ++ (w4 ++ (l ++ f))))))))
parts_joined bytes t after_t w1 rest1 r after_r rs after_rs w2 rest2 b after_b w3 rest3 s
    after_s w4 rest4 l f e1 e2 e3 e4 e5 e6 e7 e8 e9 e10 =
    rw (append_assoc r rs) (cc)

pub text_takes : (bytes : List ℕ) (t : BoardText) → board_text bytes ≡ Some t
    → IsBoardText t × (bytes ≡ spelling t)
unfolding board_text
text_takes bytes t e =
    option_and_then_some _ (tree_at bytes) t e (λ top a1 e1.
    option_and_then_some _ (literal_at (codes " exec") top.1) t e1 (λ rest1 a2 e2.
    option_and_then_some _ (spaced_at range_at rest1) t e2 (λ first a3 e3.
    let others = more_at range_at first.1 in
    option_and_then_some _ (literal_at (codes " boot ") others.1) t e3 (λ rest2 a4 e4.
    option_and_then_some _ (hex_at rest2) t e4 (λ boot a5 e5.
    option_and_then_some _ (literal_at (codes " starts ") boot.1) t e5 (λ rest3 a6 e6.
    option_and_then_some _ (number_at rest3) t e6 (λ starts a7 e7.
    option_and_then_some _ (literal_at (codes " lives ") starts.1) t e7 (λ rest4 a8 e8.
    option_and_then_some _ (number_at rest4) t e8 (λ lives a9 e9.
    option_and_then_some _ (format_at lives.1) t e9 (λ format a10 e10.
    let t1 = tree_reads.takes bytes top a1 in
    let t3 = spaced_takes range_reads rest1 first a3 in
    let t4 = more_takes range_reads first.1 in
    let t5 = hex_reads.takes rest2 boot a5 in
    let t7 = number_reads.takes rest3 starts a7 in
    let t9 = number_reads.takes rest4 lives a9 in
    let t10 = format_takes lives.1 format a10 in
    let spelled = parts_joined bytes (tree top.0) top.1 (codes " exec") rest1
    (32 ∷ range first.0) first.1 (spaced range others.0) others.1 (codes " boot ") rest2
    (hex boot.0) boot.1 (codes " starts ") rest3 (decimal starts.0) starts.1
    (codes " lives ") rest4 (decimal lives.0) (format_part format)
    t1.1 (literal_takes _ top.1 rest1 a2) t3.1 t4.1 (literal_takes _ others.1 rest2 a4) t5.1
    (literal_takes _ boot.1 rest3 a6) t7.1 (literal_takes _ starts.1 rest4 a8)
    (t9.1 ∙ ap (λ xs. decimal lives.0 ++ xs) t10) in
    subst (λ (y : BoardText). IsBoardText y × (bytes ≡ spelling y)) (same_Some _ _ e10) (
      record {
        tree = t1.0;
        ranges = list_of IsRange first.0 others.0 t3.0 t4.0;
        boot = t5.0;
        starts = t7.0;
        lives = t9.0;
      },
      spelled,
    )))))))))))
