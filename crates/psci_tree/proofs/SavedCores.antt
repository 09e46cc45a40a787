-- The words of cores tell what they do, and are the words of cores.
use Rattle.std.proofs.Common.{◌*◌, ◌++◌, ◌<◌, ◌==◌, ◌^◌, ◌∙◌, ◌∷◌, ◌≡◌, ◌≤◌, []}
use Rattle.std.proofs.Common.{ap, arith, Bool, cond, drop, false}
use Rattle.std.proofs.Common.{flat_map, get_or, length, List, None, refl, Some, suc, sym}
use Rattle.std.proofs.Common.{true, ℕ}
use Rattle.std.specs.Prelude.{is_some, nat_lt, Ok}
use Rattle.std.proofs.lemmas.Bool.{and_from, lt-ltb, ne_eqb}
use Rattle.std.proofs.lemmas.List.{length-append}
use Rattle.std.proofs.lemmas.List.Concat.{flat_map-cons}
use Rattle.std.proofs.lemmas.Option.{same_Some}
use Rattle.psci_board.specs.psci_abi.declared.registers.Format.TheVariants.{Extended}
use Rattle.psci_state.specs.PowerState.{ask_of, highest_of, is_deep, IsAsk, word_of}
use Rattle.psci_state.specs.declared.cores.Activity.{Activity}
use Rattle.psci_state.specs.declared.cores.Activity.TheVariants.{Active, Suspended, Away}
use Rattle.psci_state.specs.declared.cores.CoreState.{CoreState}
use Rattle.psci_tree.specs.Recount.{IsActivity}
use Rattle.psci_tree.specs.Saved.{activity_of, activity_word, are_cores, AreCounted, away_word}
use Rattle.psci_tree.specs.Saved.{core_words, suspended_by}

-- Words --------------------------------------------------------------------------------------

pub many_cores : (cs : List CoreState) → length (flat_map core_words cs) ≡ 2 * length cs
many_cores [] = refl
many_cores (c ∷ cs) =
    ap (λ xs. length xs) (flat_map-cons core_words c cs)
    ∙ length-append (core_words c) (flat_map core_words cs)
    ∙ omega (arith, many_cores cs)

-- The law of power states --------------------------------------------------------------------

-- each ask is that of its word
abbrev pub Written : Type 0
Written = (ask : List ℕ) → IsAsk ask → highest_of ask ≤ 3
    → ask_of Extended 3 (word_of Extended ask) ≡ Ok ask

type_few : (b : Bool) → cond b 1 0 ≤ 1
type_few true = omega arith
type_few false = omega arith

-- the words of asks are neither 0 nor beyond 32 bits
pub ask_word : (ask : List ℕ) → IsAsk ask
    → (0 < word_of Extended ask) × (word_of Extended ask < 2 ^ 32)
ask_word ask is =
    let first = is.falls 0 in
    let second = is.falls 1 in
    let third = is.falls 2 in
    let few = type_few (is_deep ask) in (
      omega (arith, is.least),
      omega (arith, is.most, first, second, third, few),
    )

high_three : (a b c : Bool) → cond a 3 (cond b 2 (cond c 1 0)) ≤ 3
high_three true b c = omega arith
high_three false true c = omega arith
high_three false false true = omega arith
high_three false false false = omega arith

pub high : (ask : List ℕ) → highest_of ask ≤ 3
high ask =
    high_three (nat_lt 0 (get_or ask 3 0)) (nat_lt 0 (get_or ask 2 0)) (nat_lt 0 (get_or ask 1 0))

-- what a core does is told by its word
pub activity_told : (a : Activity) → Written → IsActivity a
    → activity_of (activity_word a) ≡ Some a
activity_told Active written is = refl
activity_told (Suspended ask) written is =
    let word = word_of Extended ask in
    let low = ask_word ask is in
    ap (λ t. cond t (Some Active) (cond (word == away_word) (Some Away)
    (cond (nat_lt word (2 ^ 32)) (suspended_by (ask_of Extended 3 word)) None)))
    (ne_eqb word 0 (λ e. omega (arith, e, low.0)))
    ∙ ap (λ t. cond t (Some Away)
    (cond (nat_lt word (2 ^ 32)) (suspended_by (ask_of Extended 3 word)) None))
    (ne_eqb word away_word (λ e. omega (arith, e, low.1)))
    ∙ ap (λ t. cond t (suspended_by (ask_of Extended 3 word)) None) (lt-ltb word (2 ^ 32) low.1)
    ∙ ap suspended_by (written ask is (high ask))
activity_told Away written is = refl

-- Cores --------------------------------------------------------------------------------------

abbrev pub AreActivities : List CoreState → Type 0
AreActivities cs = (k : ℕ) (d : CoreState) → k < length cs → IsActivity (get_or cs k d).activity

pub cores_good : (cs : List CoreState) → Written → AreActivities cs → AreCounted cs
    → are_cores (flat_map core_words cs) ≡ true
cores_good [] written are few = refl
cores_good (c ∷ cs) written are few =
    ap are_cores (flat_map-cons core_words c cs)
    ∙ and_from _ _
    (and_from _ _ (ap is_some (activity_told c.activity written (are 0 c (omega arith))))
    (lt-ltb c.known (2 ^ 32) (few 0 c (omega arith))))
    (cores_good cs written (λ k d h. are (suc k) d (omega (arith, h)))
    (λ k d h. few (suc k) d (omega (arith, h))))

activity_same : (a b : Activity) → Written → IsActivity a → IsActivity b
    → activity_word a ≡ activity_word b → a ≡ b
activity_same a b written f g e =
    same_Some a b (sym (activity_told a written f) ∙ ap activity_of e ∙ activity_told b written g)

-- cores with the same words are the same
pub cores_told : (cs ds : List CoreState) → Written → AreActivities cs → AreActivities ds
    → length cs ≡ length ds → flat_map core_words cs ≡ flat_map core_words ds → cs ≡ ds
cores_told [] [] written f g n e = refl
cores_told [] (d ∷ ds) written f g n e = absurd (omega (arith, n))
cores_told (c ∷ cs) [] written f g n e = absurd (omega (arith, n))
cores_told (c ∷ cs) (d ∷ ds) written f g n e =
    let both : core_words c ++ flat_map core_words cs ≡ core_words d ++ flat_map core_words ds =
    sym (flat_map-cons core_words c cs) ∙ e ∙ flat_map-cons core_words d ds in
    let does : c.activity ≡ d.activity =
    activity_same c.activity d.activity written (f 0 c (omega arith)) (g 0 d (omega arith))
    (ap (λ xs. get_or xs 0 0) both) in
    let known : c.known ≡ d.known = ap (λ xs. get_or xs 1 0) both in
    let rest : cs ≡ ds =
    cores_told cs ds written (λ k x h. f (suc k) x (omega (arith, h)))
    (λ k x h. g (suc k) x (omega (arith, h))) (omega (arith, n))
    (ap (λ xs. drop 2 xs) both) in
    rw (does, known, rest) refl
