-- What is kept of some cores, once one of them came into another state.
use Rattle.std.specs.Prelude.{None, Some}
use Rattle.std.proofs.Common.{◌⊎◌}
use Rattle.std.proofs.lemmas.Bool.{cases_lt, lt-ltb}
use Rattle.std.proofs.lemmas.Grind.{same_number_lists}
use Rattle.std.proofs.lemmas.List.{get_or_past}
use Rattle.std.proofs.lemmas.List.Sums.{sum_by-set}
use Rattle.psci_board.specs.Board.{parent}
use Rattle.psci_board.specs.declared.span.CoreSpan.{CoreSpan}
use Rattle.psci_tree.proofs.Words.{◌&&◌, ◌*◌, ◌+◌, ◌-◌, ◌<◌, ◌==◌, ◌^◌, ◌∙◌, ◌∷◌, ◌≡◌, ◌≤◌, []}
use Rattle.psci_tree.proofs.Words.{ap, AreSmall, arith, asking_else, asking_in, asks, BoardValue}
use Rattle.psci_tree.proofs.Words.{Bool, cases_eq, cond, CoreState, count_by-le-length, drop}
use Rattle.psci_tree.proofs.Words.{eq-eqb, get_or, get_or-le-sum_by, get_or-set_other}
use Rattle.psci_tree.proofs.Words.{get_or-set_same, group_of, HasNodeIn, inl, inr, is_active}
use Rattle.psci_tree.proofs.Words.{is_away, IsKeptOn, Keeps, Kept, kept_at, kept_exchanged}
use Rattle.psci_tree.proofs.Words.{length, length-set, List, map, MayExchange, ne_eqb}
use Rattle.psci_tree.proofs.Words.{never_started, Node, recount, refl, set, size_below, SpanLaws}
use Rattle.psci_tree.proofs.Words.{states_in, suc, sum_by, sum_by-cons, sym, take, true, zero, ℕ}

-- What a node keeps: of a core its state, and of a domain what its row has ------------------------

-- the states below a core are its own
one_state : (cores : List CoreState) (p : ℕ) (d : CoreState) → p < length cores
    → take 1 (drop p cores) ≡ get_or cores p d ∷ []
one_state [] p d h = absurd (omega arith)
one_state (c ∷ cores) zero d h = refl
one_state (c ∷ cores) (suc p) d h = one_state cores p d (omega arith)

pub node_keeps : (levels : List (List ℕ)) (cores : List CoreState) (rows : List (List Kept))
    (n : Node) (k : Kept) → SpanLaws levels → length cores ≡ size_below levels
    → HasNodeIn levels n
    → ((c : CoreState) → n.level ≡ 0 → Keeps 0 k (get_or cores n.place c ∷ []))
    → (0 < n.level → k ≡ kept_at rows n.level n.place)
    → (0 < n.level → IsKeptOn levels cores rows n.level)
    → Keeps n.level k (states_in levels cores n)
node_keeps levels cores rows n k laws same has core domain keeps = elim (zero_or n.level) [
  | inl e ↦
      let fits : n.place < length cores =
      omega (arith, has.place, same, ap (λ l. size_below (drop l levels)) e) in
      let alone : states_in levels cores n ≡ get_or cores n.place never_started ∷ [] =
      ap (λ l. states_in levels cores (record { level = l; place = n.place })) e
      ∙ ap (λ (at : CoreSpan). take at.count (drop at.first cores)) (laws.core n.place)
      ∙ one_state cores n.place never_started fits in
      rw (alone, e) (core never_started e)
  | inr h ↦ rw (domain h) (keeps h n.place has.place)
]
  where
    zero_or : (l : ℕ) → (l ≡ 0) ⊎ (0 < l)
    zero_or zero = inl refl
    zero_or (suc l) = inr (omega arith)

-- Changed -----------------------------------------------------------------------------------------

-- One count less, and one more --------------------------------------------------------------------

less_at : (xs : List ℕ) (x k : ℕ) → k < length xs
    → get_or (set xs x (get_or xs x 0 - 1)) k 0 ≡ get_or xs k 0 - cond (x == k) 1 0
less_at xs x k h = elim (cases_eq x k) [
  | inl e ↦
      rw (eq-eqb x k e, e) (get_or-set_same xs k (get_or xs k 0 - 1) 0 h)
  | inr n ↦
      rw (ne_eqb x k n) (get_or-set_other xs x k (get_or xs x 0 - 1) 0 (λ e. n (sym e))
      ∙ omega arith)
]

more_at : (xs : List ℕ) (y k : ℕ) → k < length xs
    → get_or (set xs y (get_or xs y 0 + 1)) k 0 ≡ get_or xs k 0 + cond (y == k) 1 0
more_at xs y k h = elim (cases_eq y k) [
  | inl e ↦
      rw (eq-eqb y k e, e) (get_or-set_same xs k (get_or xs k 0 + 1) 0 h)
  | inr n ↦
      rw (ne_eqb y k n) (get_or-set_other xs y k (get_or xs y 0 + 1) 0 (λ e. n (sym e))
      ∙ omega arith)
]

else_at : (xs : List ℕ) (x y k : ℕ) → k < length xs
    → get_or (asking_else x y xs) k 0 ≡ get_or xs k 0 - cond (x == k) 1 0 + cond (y == k) 1 0
else_at xs x y k h =
    let less : List ℕ = set xs x (get_or xs x 0 - 1) in
    more_at less y k (omega (arith, h, length-set xs x (get_or xs x 0 - 1)))
    ∙ ap (λ m. m + cond (y == k) 1 0) (less_at xs x k h)

-- the counts of each depth
abbrev of_each : (ℕ → ℕ) → List ℕ
of_each f = map f (0 ∷ 1 ∷ 2 ∷ 3 ∷ [])

each_at : (f : ℕ → ℕ) (k : ℕ) → k < 4 → get_or (of_each f) k 0 ≡ f k
each_at f zero h = refl
each_at f (suc zero) h = refl
each_at f (suc (suc zero)) h = refl
each_at f (suc (suc (suc zero))) h = refl
each_at f (suc (suc (suc (suc k)))) h = absurd (omega arith)

else_each : (f g : ℕ → ℕ) (x y : ℕ)
    → ((d : ℕ) → f d - cond (x == d) 1 0 + cond (y == d) 1 0 ≡ g d)
    → asking_else x y (of_each f) ≡ of_each g
else_each f g x y same =
    let less : List ℕ = set (of_each f) x (get_or (of_each f) x 0 - 1) in
    let long : length (asking_else x y (of_each f)) ≡ 4 =
    length-set less y (get_or less y 0 + 1)
    ∙ length-set (of_each f) x (get_or (of_each f) x 0 - 1) in
    same_number_lists (asking_else x y (of_each f)) (of_each g) long (λ k h.
    let low : k < 4 = omega (arith, h, long) in
    else_at (of_each f) x y k low
    ∙ ap (λ m. m - cond (x == k) 1 0 + cond (y == k) 1 0) (each_at f k low)
    ∙ same k ∙ sym (each_at g k low))

-- One of the cores --------------------------------------------------------------------------------

-- a sum over the cores, by what it was
moved : (f : CoreState → ℕ) (cs : List CoreState) (j : ℕ) (b s : CoreState) → j < length cs
    → b ≡ get_or cs j b → sum_by f cs - f b + f s ≡ sum_by f (set cs j s)
moved f cs j b s h is =
    omega (arith, sum_by-set f cs j s b h, get_or-le-sum_by f cs j b h, ap f is)

part : (f : CoreState → ℕ) (cs : List CoreState) (j : ℕ) (b : CoreState) → j < length cs
    → b ≡ get_or cs j b → f b ≤ sum_by f cs
part f cs j b h is = omega (arith, get_or-le-sum_by f cs j b h, ap f is)

-- known starts of 32 bits have a sum of so many bits
known_small : (cs : List CoreState) → AreSmall cs
    → sum_by (λ (c : CoreState). c.known) cs ≤ 2 ^ 32 * length cs
known_small [] h = omega arith
known_small (c ∷ cs) h =
    let rest = known_small cs (λ i d inside. h (suc i) d (omega (arith, inside))) in
    omega (arith, sum_by-cons (λ (x : CoreState). x.known) c cs, h 0 c (omega arith), rest)

module _ (level : ℕ) (cs : List CoreState) (j : ℕ) (b s : CoreState) (k : Kept)
    (inside : j < length cs) (is : b ≡ get_or cs j b) (keeps : Keeps level k cs) where
  abbrev asks_for : ℕ → CoreState → ℕ
  asks_for depth c = cond (asks c.activity level == depth) 1 0

  asking_moved : asking_else (asks b.activity level) (asks s.activity level) k.asking
      ≡ (recount level (set cs j s)).asking
  asking_moved =
      ap (λ (i : Kept). asking_else (asks b.activity level) (asks s.activity level) i.asking)
      keeps.counted
      ∙ else_each (λ d. asking_in level d cs) (λ d. asking_in level d (set cs j s))
      (asks b.activity level) (asks s.activity level)
      (λ d. moved (asks_for d) cs j b s inside is)

  -- what is exchanged is the recount with the new state
  counted : kept_exchanged level k b s ≡ recount level (set cs j s)
  counted =
      let known : k.known - b.known + s.known ≡ (recount level (set cs j s)).known =
      ap (λ (i : Kept). i.known - b.known + s.known) keeps.counted
      ∙ moved (λ c. c.known) cs j b s inside is in
      let cores : k.cores ≡ (recount level (set cs j s)).cores =
      ap (λ (i : Kept). i.cores) keeps.counted ∙ sym (length-set cs j s) in
      let active : k.active - cond (is_active b.activity) 1 0 + cond (is_active s.activity) 1 0
      ≡ (recount level (set cs j s)).active =
      ap (λ (i : Kept). i.active - cond (is_active b.activity) 1 0
      + cond (is_active s.activity) 1 0) keeps.counted
      ∙ moved (λ c. cond (is_active c.activity) 1 0) cs j b s inside is in
      let off : k.off - cond (is_away b.activity) 1 0 + cond (is_away s.activity) 1 0
      ≡ (recount level (set cs j s)).off =
      ap (λ (i : Kept). i.off - cond (is_away b.activity) 1 0 + cond (is_away s.activity) 1 0)
      keeps.counted
      ∙ moved (λ c. cond (is_away c.activity) 1 0) cs j b s inside is in
      rw (asking_moved, known, cores, active, off) refl

  pub exchanged_keeps : AreSmall (set cs j s)
      → Keeps level (kept_exchanged level k b s) (set cs j s)
  exchanged_keeps small = record {
    counted = counted;
    small = omega (
      arith,
      known_small (set cs j s) small,
      ap (λ (i : Kept). i.known) counted,
    );
  }

  -- the numbers that are exchanged keep their bits
  pub may_exchange : length cs < 2 ^ 15 → s.known ≤ 2 ^ 32 → MayExchange level k b s
  may_exchange few small = record {
    known = omega (
      arith,
      ap (λ (i : Kept). i.known) keeps.counted,
      part (λ c. c.known) cs j b inside is,
    );
    asking = λ low.
        let one : asks_for (asks b.activity level) b ≡ 1 =
        rw (eq-eqb (asks b.activity level) (asks b.activity level) refl) refl in
        omega (
          arith,
          one,
          part (asks_for (asks b.activity level)) cs j b inside is,
          ap (λ (i : Kept). get_or i.asking (asks b.activity level) 0) keeps.counted,
          each_at (λ d. asking_in level d cs) (asks b.activity level) (omega (arith, low)),
        );
    active = omega (
      arith,
      ap (λ (i : Kept). i.active) keeps.counted,
      part (λ c. cond (is_active c.activity) 1 0) cs j b inside is,
    );
    off = omega (
      arith,
      ap (λ (i : Kept). i.off) keeps.counted,
      part (λ c. cond (is_away c.activity) 1 0) cs j b inside is,
    );
    few_known = omega (arith, keeps.small, small, few);
    few_asking = λ depth. few_at depth;
    few_active = omega (
      arith,
      few,
      ap (λ (i : Kept). i.active) keeps.counted,
      count_by-le-length (λ (c : CoreState). is_active c.activity) cs,
    );
    few_off = omega (
      arith,
      few,
      ap (λ (i : Kept). i.off) keeps.counted,
      count_by-le-length (λ (c : CoreState). is_away c.activity) cs,
    );
  }
    where
      few_at : (depth : ℕ) → get_or k.asking depth 0 + 1 < 2 ^ 16
      few_at depth = elim (cases_lt depth 4) [
        | inl low ↦ omega (
          arith,
          few,
          ap (λ (i : Kept). get_or i.asking depth 0) keeps.counted,
          each_at (λ d. asking_in level d cs) depth low,
          count_by-le-length (λ (c : CoreState). asks c.activity level == depth) cs,
        )
        | inr high ↦ omega (
          arith,
          ap (λ (i : Kept). get_or i.asking depth 0) keeps.counted,
          get_or_past (of_each (λ d. asking_in level d cs)) depth 0 high,
        )
      ]

-- The parent of a node of a board -----------------------------------------------------------------

both_some : {X : Type 0} (a c : Bool) (x : X) → a ≡ true → c ≡ true
    → cond (a && c) (Some x) None ≡ Some x
both_some a c x p q = rw (p, q)

-- each node below the system has one
pub parent_some : (b : BoardValue) (n : Node) → n.level < length b.levels
    → n.place < size_below (drop n.level b.levels)
    → parent b n ≡ Some (record {
      level = n.level + 1;
      place = group_of (get_or b.levels n.level []) n.place;
    })
parent_some b n h i = both_some _ _ _ (lt-ltb _ _ h) (lt-ltb _ _ i)
