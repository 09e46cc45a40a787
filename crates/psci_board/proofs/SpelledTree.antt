-- A tree is read as it is spelled, and in no other way.
use Rattle.psci_board.proofs.Terms.{◌++◌, ◌<◌, ◌∷◌, ◌≡◌, [], AllDigits, arith, Bool, bracketed}
use Rattle.psci_board.proofs.Terms.{Cluster, common_steps, cond, decimal, decimal_is_IsNumeral}
use Rattle.psci_board.proofs.Terms.{decimal_nonempty, digit_value, Ends, eqb, false, Group}
use Rattle.psci_board.proofs.Terms.{is_ascii_digit, IsListOf, IsNumber, IsTreeText, length, List}
use Rattle.psci_board.proofs.Terms.{Member, Members, nat_tests, number_at, One, Option}
use Rattle.psci_board.proofs.Terms.{option_and_then, option_and_then_some, Reads, refl}
use Rattle.psci_board.proofs.Terms.{same_Some, Some, starts_list, subst, tree, TreeText, true, ℕ}
use Rattle.psci_board.specs.Grammar.{IsMember, member}
use Rattle.psci_board.specs.Verdict.{list_at, member_at, tree_at}
use Rattle.psci_board.proofs.SpelledParts.{list_again, list_takes, number_reads}

-- A number, or a list of items. Both members of the outer list and trees are read so.
number_or : {A B : Type 0} → (ℕ → B) → (List A → B) → (List ℕ → Option (A × List ℕ)) → List ℕ
    → Bool → Option (B × List ℕ)
number_or one many item bytes is_list = cond is_list
    (option_and_then (λ xs. Some (many xs.0, xs.1)) (list_at item bytes))
    (option_and_then (λ n. Some (one n.0, n.1)) (number_at bytes))

-- a number does not begin as a list
digit_starts : (d : ℕ) → digit_value d < 10 → eqb d 40 ≡ false
digit_starts d h = grind (arith, nat_tests)

digits_start : (ds rest : List ℕ) → 0 < length ds → AllDigits 10 ds
    → starts_list (ds ++ rest) ≡ false
digits_start [] rest some h = absurd (omega arith)
digits_start (d ∷ ds) rest some h = digit_starts d h.0

number_starts : (n : ℕ) (rest : List ℕ) → IsNumber n → starts_list (decimal n ++ rest) ≡ false
number_starts n rest h =
    digits_start (decimal n) rest (decimal_nonempty n h) (decimal_is_IsNumeral n h).0.1

list_starts : {A : Type 0} (P : A → Type 0) (spell : A → List ℕ) (xs : List A) (rest : List ℕ)
    → IsListOf P xs → starts_list (bracketed spell xs ++ rest) ≡ true
list_starts P spell [] rest h = absurd (omega (arith, h.some))
list_starts P spell (x ∷ xs) rest h = refl

one_again : {A B : Type 0} (one : ℕ → B) (many : List A → B)
    (item : List ℕ → Option (A × List ℕ))
    (n : ℕ) (rest : List ℕ) → IsNumber n → Ends is_ascii_digit rest
    → number_or one many item (decimal n ++ rest) false ≡ Some (one n, rest)
unfolding number_or
one_again one many item n rest h e = rw (number_reads.again n rest h e) refl

many_again : {A B : Type 0} (one : ℕ → B) (many : List A → B) (item : List ℕ → Option (A × List ℕ))
    (spell : A → List ℕ) (P : A → Type 0) → Reads item spell P is_ascii_digit
    → (xs : List A) (rest : List ℕ) → IsListOf P xs
    → number_or one many item (bracketed spell xs ++ rest) true ≡ Some (many xs, rest)
unfolding number_or
many_again one many item spell P r xs rest h = grind (arith, common_steps, list_again)

either_takes : {A B : Type 0} (one : ℕ → B) (many : List A → B)
    (item : List ℕ → Option (A × List ℕ)) (spell : A → List ℕ) (P : A → Type 0)
    → Reads item spell P is_ascii_digit → (bytes : List ℕ) (is_list : Bool) (x : B × List ℕ)
    → number_or one many item bytes is_list ≡ Some x → (C : B × List ℕ → Type 0)
    → ((n : ℕ) (rest : List ℕ) → IsNumber n → bytes ≡ decimal n ++ rest → C (one n, rest))
    → ((xs : List A) (rest : List ℕ) → IsListOf P xs → bytes ≡ bracketed spell xs ++ rest
    → C (many xs, rest))
    → C x
unfolding number_or
either_takes one many item spell P r bytes true x e C of_one of_many =
    option_and_then_some _ (list_at item bytes) x e (λ xs a e1.
    let t = list_takes r bytes xs a in
    subst C (same_Some _ _ e1) (of_many xs.0 xs.1 t.0 t.1))
either_takes one many item spell P r bytes false x e C of_one of_many =
    grind (arith, common_steps, option_and_then_some, number_reads, same_Some)

-- Members of the outer list ---------------------------------------------------------------------

member_again : (m : Member) (rest : List ℕ) → IsMember m → Ends is_ascii_digit rest
    → member_at (member m ++ rest) ≡ Some (m, rest)
unfolding member_at number_or
member_again (Cluster n) rest h e =
    rw (number_starts n rest h) (one_again Cluster Group number_at n rest h e)
member_again (Group ns) rest h e =
    rw (list_starts IsNumber decimal ns rest h)
    (many_again Cluster Group number_at decimal IsNumber number_reads ns rest h)

member_takes : (bytes : List ℕ) (x : Member × List ℕ) → member_at bytes ≡ Some x
    → IsMember x.0 × (bytes ≡ member x.0 ++ x.1)
unfolding member_at number_or
member_takes bytes x e =
    either_takes Cluster Group number_at decimal IsNumber number_reads bytes (starts_list bytes) x e
    (λ (y : Member × List ℕ). IsMember y.0 × (bytes ≡ member y.0 ++ y.1))
    (λ n rest h s. (h, s)) (λ ns rest h s. (h, s))

pub member_reads : Reads member_at member IsMember is_ascii_digit
member_reads = record { again = member_again; takes = member_takes }

-- Trees -----------------------------------------------------------------------------------------

tree_again : (t : TreeText) (rest : List ℕ) → IsTreeText t → Ends is_ascii_digit rest
    → tree_at (tree t ++ rest) ≡ Some (t, rest)
unfolding tree_at number_or
tree_again (One n) rest h e =
    rw (number_starts n rest h) (one_again One Members member_at n rest h e)
tree_again (Members ms) rest h e =
    rw (list_starts IsMember member ms rest h)
    (many_again One Members member_at member IsMember member_reads ms rest h)

tree_takes : (bytes : List ℕ) (x : TreeText × List ℕ) → tree_at bytes ≡ Some x
    → IsTreeText x.0 × (bytes ≡ tree x.0 ++ x.1)
unfolding tree_at number_or
tree_takes bytes x e =
    either_takes One Members member_at member IsMember member_reads bytes (starts_list bytes)
    x e
    (λ (y : TreeText × List ℕ). IsTreeText y.0 × (bytes ≡ tree y.0 ++ y.1))
    (λ n rest h s. (h, s)) (λ ms rest h s. (h, s))

pub tree_reads : Reads tree_at tree IsTreeText is_ascii_digit
tree_reads = record { again = tree_again; takes = tree_takes }
