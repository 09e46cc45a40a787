-- What the domains keep, by level and place, once a core is in another state.
use Rattle.std.proofs.Common.{◌⊎◌}
use Rattle.std.proofs.lemmas.Bool.{cases_lt}
use Rattle.std.proofs.lemmas.List.Elements.{All-drop}
use Rattle.psci_board.proofs.Paths.{above_back, above_from, first_grows}
use Rattle.psci_tree.proofs.Changed.{exchanged_keeps, may_exchange}
use Rattle.psci_tree.proofs.Seen.{size_few}
use Rattle.psci_tree.proofs.Words.{◌+◌, ◌-◌, ◌<◌, ◌^◌, ◌∙◌, ◌∷◌, ◌≡◌, ◌≤◌, [], All-take, ap}
use Rattle.psci_tree.proofs.Words.{AreKept, AreSmall, arith, cases_eq, CoreState, drop}
use Rattle.psci_tree.proofs.Words.{first_core, get_or, get_or-set_other, get_or-set_same}
use Rattle.psci_tree.proofs.Words.{HasNodeIn, HasRows, inl, inr, IsKeptOn, IsTree, Keeps, Kept}
use Rattle.psci_tree.proofs.Words.{kept_at, kept_exchanged, length, length-drop, length-set}
use Rattle.psci_tree.proofs.Words.{length-take-le, level_kept, List, MayExchange, Node}
use Rattle.psci_tree.proofs.Words.{place_above, recount, refl, set, size_below, span, SpanLaws}
use Rattle.psci_tree.proofs.Words.{states_in, suc, sym, take, with_kept, zero, ℕ}

-- The states of the cores below a node, in a row of the states of all cores -----------------------

-- A core in a span ----------------------------------------------------------------------------

pub record Within (levels : List (List ℕ)) (n : Node) (c : ℕ) : Type 0 where
  pub from : (span levels n).first ≤ c
  pub to : c < (span levels n).first + (span levels n).count

pub within : (levels : List (List ℕ)) (n : Node) (c : ℕ) → IsTree levels
    → n.level ≤ length levels → c < size_below levels → place_above levels n.level c ≡ n.place
    → Within levels n c
within levels n c t h i e =
    let low = above_back levels n.level c n.place t h i (omega (arith, e)) in
    let late : first_core levels n.level (n.place + 1) ≤ c → ⊥ =
    λ q. omega (arith, e, above_from levels n.level c (n.place + 1) t h i q) in
    let high : c < first_core levels n.level (n.place + 1) =
    elim (cases_lt c (first_core levels n.level (n.place + 1))) [
      | inl x ↦ x
      | inr x ↦ absurd (late x)
    ] in
    record { from = low; to = omega (arith, low, high) }

pub outside : (levels : List (List ℕ)) (n : Node) (c : ℕ) → IsTree levels
    → n.level ≤ length levels → c < size_below levels
    → (place_above levels n.level c ≡ n.place → ⊥)
    → (c < (span levels n).first) ⊎ ((span levels n).first + (span levels n).count ≤ c)
outside levels n c t h i e =
    let grows = first_grows levels n.level n.place (n.place + 1) (omega arith) in
    elim (cases_lt n.place (place_above levels n.level c)) [
      | inl x ↦
          let end = above_back levels n.level c (n.place + 1) t h i (omega arith) in
          inr (omega (arith, grows, end))
      | inr x ↦
          let early : first_core levels n.level n.place ≤ c → ⊥ =
          λ q. e (omega (arith, x, above_from levels n.level c n.place t h i q)) in
          elim (cases_lt c (first_core levels n.level n.place)) [
            | inl y ↦ inl y
            | inr y ↦ absurd (early y)
          ]
    ]

-- Slices --------------------------------------------------------------------------------------

take_set : {X : Type 0} (xs : List X) (k c : ℕ) (x : X) → c < k
    → take k (set xs c x) ≡ set (take k xs) c x
take_set xs zero c x h = absurd (omega arith)
take_set [] (suc k) c x h = refl
take_set (y ∷ ys) (suc k) zero x h = refl
take_set (y ∷ ys) (suc k) (suc c) x h = ap (λ zs. y ∷ zs) (take_set ys k c x (omega arith))

slice_set : {X : Type 0} (xs : List X) (f k c : ℕ) (x : X) → f ≤ c → c < f + k
    → take k (drop f (set xs c x)) ≡ set (take k (drop f xs)) (c - f) x
slice_set xs zero k c x h i =
    let same : c - 0 ≡ c = omega arith in rw same (take_set xs k c x (omega arith))
slice_set [] (suc f) zero c x h i = absurd (omega arith)
slice_set [] (suc f) (suc k) c x h i = refl
slice_set (y ∷ ys) (suc f) k zero x h i = absurd (omega arith)
slice_set (y ∷ ys) (suc f) k (suc c) x h i =
    let same : suc c - suc f ≡ c - f = omega arith in
    rw same (slice_set ys f k c x (omega arith) (omega arith))

drop_set : {X : Type 0} (xs : List X) (f c : ℕ) (x : X) → c < f → drop f (set xs c x) ≡ drop f xs
drop_set xs zero c x h = absurd (omega arith)
drop_set [] (suc f) c x h = refl
drop_set (y ∷ ys) (suc f) zero x h = refl
drop_set (y ∷ ys) (suc f) (suc c) x h = drop_set ys f c x (omega arith)

take_kept : {X : Type 0} (xs : List X) (k c : ℕ) (x : X) → k ≤ c → take k (set xs c x) ≡ take k xs
take_kept xs zero c x h = refl
take_kept [] (suc k) c x h = refl
take_kept (y ∷ ys) (suc k) zero x h = absurd (omega arith)
take_kept (y ∷ ys) (suc k) (suc c) x h = ap (λ zs. y ∷ zs) (take_kept ys k c x (omega arith))

slice_kept : {X : Type 0} (xs : List X) (f k c : ℕ) (x : X) → f + k ≤ c
    → take k (drop f (set xs c x)) ≡ take k (drop f xs)
slice_kept xs zero k c x h = take_kept xs k c x (omega arith)
slice_kept [] (suc f) k c x h = refl
slice_kept (y ∷ ys) (suc f) k zero x h = absurd (omega arith)
slice_kept (y ∷ ys) (suc f) k (suc c) x h = slice_kept ys f k c x (omega arith)

take_at_place : {X : Type 0} (xs : List X) (k c : ℕ) (d : X) → c < k
    → get_or (take k xs) c d ≡ get_or xs c d
take_at_place xs zero c d h = absurd (omega arith)
take_at_place [] (suc k) c d h = refl
take_at_place (y ∷ ys) (suc k) zero d h = refl
take_at_place (y ∷ ys) (suc k) (suc c) d h = take_at_place ys k c d (omega arith)

pub slice_place : {X : Type 0} (xs : List X) (f k c : ℕ) (d : X) → f ≤ c → c < f + k
    → get_or (take k (drop f xs)) (c - f) d ≡ get_or xs c d
slice_place xs zero k c d h i =
    let same : c - 0 ≡ c = omega arith in rw same (take_at_place xs k c d (omega arith))
slice_place [] (suc f) zero c d h i = absurd (omega arith)
slice_place [] (suc f) (suc k) c d h i = refl
slice_place (y ∷ ys) (suc f) k zero d h i = absurd (omega arith)
slice_place (y ∷ ys) (suc f) k (suc c) d h i =
    let same : suc c - suc f ≡ c - f = omega arith in
    rw same (slice_place ys f k c d (omega arith) (omega arith))

-- The states below a node ----------------------------------------------------------------------

pub states_long : (levels : List (List ℕ)) (cores : List CoreState) (n : Node) → SpanLaws levels
    → length cores ≡ size_below levels → HasNodeIn levels n
    → length (states_in levels cores n) ≡ (span levels n).count
states_long levels cores n laws same h =
    let long = length-drop (span levels n).first cores in
    length-take-le (span levels n).count (drop (span levels n).first cores)
    (omega (arith, long, same, laws.inside n h))

-- another state of a core below it, and of another core
pub states_on : (levels : List (List ℕ)) (cores : List CoreState) (n : Node) (c : ℕ) (s : CoreState)
    → Within levels n c → states_in levels (set cores c s) n
    ≡ set (states_in levels cores n) (c - (span levels n).first) s
states_on levels cores n c s w =
    slice_set cores (span levels n).first (span levels n).count c s w.from w.to

pub states_off : (levels : List (List ℕ)) (cores : List CoreState) (n : Node) (c : ℕ)
    (s : CoreState)
    → (c < (span levels n).first) ⊎ ((span levels n).first + (span levels n).count ≤ c)
    → states_in levels (set cores c s) n ≡ states_in levels cores n
states_off levels cores n c s h = elim h [
  | inl x ↦
      ap (take (span levels n).count) (drop_set cores (span levels n).first c s x)
  | inr x ↦ slice_kept cores (span levels n).first (span levels n).count c s x
]

-- Levels ------------------------------------------------------------------------------------------

-- One domain -------------------------------------------------------------------------------------

module _ (rows : List (List Kept)) (l p : ℕ) (k : Kept) (low : 0 < l) (high : l ≤ length rows) where
  abbrev after : List (List Kept)
  after = with_kept rows (record { level = l; place = p }) k

  this_level : level_kept after l ≡ set (level_kept rows l) p k
  this_level = get_or-set_same rows (l - 1) (set (level_kept rows l) p k) [] (omega arith)

  other_level : (m : ℕ) → 0 < m → (m ≡ l → ⊥) → level_kept after m ≡ level_kept rows m
  other_level m some n =
      get_or-set_other rows (l - 1) (m - 1) (set (level_kept rows l) p k) []
      (λ e. n (omega (arith, e, some, low)))

  set_shape : (levels : List (List ℕ)) → HasRows levels rows → HasRows levels after
  set_shape levels shape = record {
    height = length-set rows (l - 1) (set (level_kept rows l) p k) ∙ shape.height;
    domains = λ m some top. elim (cases_eq m l) [
      | inl e ↦
          rw e (ap length this_level ∙ length-set (level_kept rows l) p k
          ∙ shape.domains l low (omega (arith, e, top)))
      | inr n ↦ ap length (other_level m some n) ∙ shape.domains m some top
    ];
  }

  set_here : p < length (level_kept rows l) → kept_at after l p ≡ k
  set_here inside =
      ap (λ (row : List Kept). get_or row p (recount 0 [])) this_level
      ∙ get_or-set_same (level_kept rows l) p k (recount 0 []) inside

  set_beside : (q : ℕ) → (q ≡ p → ⊥) → kept_at after l q ≡ kept_at rows l q
  set_beside q n =
      ap (λ (row : List Kept). get_or row q (recount 0 [])) this_level
      ∙ get_or-set_other (level_kept rows l) p q k (recount 0 []) n

  set_other : (m q : ℕ) → 0 < m → (m ≡ l → ⊥) → kept_at after m q ≡ kept_at rows m q
  set_other m q some n =
      ap (λ (row : List Kept). get_or row q (recount 0 [])) (other_level m some n)

-- Level by level ---------------------------------------------------------------------------------

-- the domains below this level keep what is so of the new states, and those from it up of the old
pub record IsChanged (levels : List (List ℕ)) (old new : List CoreState) (rows : List (List Kept))
    (level : ℕ) : Type 0 where
  pub shape : HasRows levels rows
  pub done : (l : ℕ) → 0 < l → l < level → l ≤ length levels → IsKeptOn levels new rows l
  pub left : (l : ℕ) → 0 < l → level ≤ l → l ≤ length levels → IsKeptOn levels old rows l

abbrev IsSmall : CoreState → Type 0
IsSmall c = c.known ≤ 2 ^ 32

-- a core that came into another state
pub record OneChanged (levels : List (List ℕ)) (old : List CoreState) (core : ℕ) (s : CoreState)
    : Type 0 where
  pub laws : SpanLaws levels
  pub tree : IsTree levels
  pub there : core < size_below levels
  pub count : length old ≡ size_below levels
  pub small : AreSmall (set old core s)

module _ (levels : List (List ℕ)) (old : List CoreState) (core : ℕ) (s : CoreState)
    (one : OneChanged levels old core s) (rows : List (List Kept)) (level : ℕ) (low : 0 < level)
    (top : level ≤ length levels)
    (fits : place_above levels level core < size_below (drop level levels))
    (so_far : IsChanged levels old (set old core s) rows level) where
  abbrev pub node : Node
  node = record { level = level; place = place_above levels level core }

  high : level ≤ length rows
  high = omega (arith, so_far.shape.height, top)

  has : HasNodeIn levels node
  has = record { level = top; place = fits }

  below : Within levels node core
  below = within levels node core one.tree top one.there refl

  -- the states below the domain on its path, and the place of the core among them
  abbrev own : List CoreState
  own = states_in levels old node

  abbrev place : ℕ
  place = core - (span levels node).first

  inside : place < length own
  inside = omega (arith, below.from, below.to, states_long levels old node one.laws one.count has)

  few : length own < 2 ^ 15
  few = omega (
    arith,
    states_long levels old node one.laws one.count has,
    one.laws.inside node has,
    size_few levels one.tree,
  )

  kept : Keeps level (kept_at rows level node.place) own
  kept = so_far.left level low (omega arith) top (place_above levels level core) fits

  now : states_in levels (set old core s) node ≡ set own place s
  now = states_on levels old node core s below

  state_was : (was : CoreState) → was ≡ get_or old core was → was ≡ get_or own place was
  state_was was is = is ∙ sym (slice_place old (span levels node).first (span levels node).count
      core was below.from below.to)

  small_in : AreSmall (set own place s)
  small_in = rw (sym now) (All-take IsSmall (span levels node).count
      (drop (span levels node).first (set old core s))
      (All-drop IsSmall (span levels node).first (set old core s) one.small))

  -- the domain on its path may exchange the states
  pub may_at : (was : CoreState) → was ≡ get_or old core was → s.known ≤ 2 ^ 32
      → MayExchange level (kept_at rows level node.place) was s
  may_at was is small =
      may_exchange level own place was s (kept_at rows level node.place) inside (state_was was is)
      kept few small

  here : (k : Kept) → Keeps level k (states_in levels (set old core s) node)
      → IsKeptOn levels (set old core s) (with_kept rows node k) level
  here k keeps = λ p inside. elim (cases_eq p (place_above levels level core)) [
    | inl e ↦
        rw (
          e,
          set_here rows level (place_above levels level core) k low high
              (omega (arith, fits, so_far.shape.domains level low top)),
        ) keeps
    | inr n ↦
        rw (
          set_beside rows level (place_above levels level core) k low high p n,
          states_off levels old (record { level = level; place = p }) core s
              (outside levels (record { level = level; place = p }) core one.tree top one.there
              (λ e. n (sym e))),
        )
        (so_far.left level low (omega arith) top p inside)
  ]

  with_more : (k : Kept) → Keeps level k (states_in levels (set old core s) node)
      → IsChanged levels old (set old core s) (with_kept rows node k) (level + 1)
  with_more k keeps = record {
    shape = set_shape rows level (place_above levels level core) k low high levels so_far.shape;
    done = λ l some h tall. elim (cases_eq l level) [
      | inl is ↦ rw is (here k keeps)
      | inr n ↦ λ p inside.
          rw (set_other rows level (place_above levels level core) k low high l p some n)
          (so_far.done l some (omega (arith, h, n)) tall p inside)
    ];
    left = λ l some h tall. λ p inside.
        rw (set_other rows level (place_above levels level core) k low high l p some
        (λ e. absurd (omega (arith, e, h))))
        (so_far.left l some (omega (arith, h)) tall p inside);
  }

  -- and once it has, it keeps what is so of the new states
  pub changed_more : (was : CoreState) → was ≡ get_or old core was
      → IsChanged levels old (set old core s)
      (with_kept rows node (kept_exchanged level (kept_at rows level node.place) was s)) (level + 1)
  changed_more was is = with_more _ (rw now (exchanged_keeps level own place was s
      (kept_at rows level node.place) inside (state_was was is) kept small_in))

-- What is kept of all levels ----------------------------------------------------------------------

pub small_set : (old : List CoreState) (core : ℕ) (s : CoreState) → AreSmall old
    → s.known ≤ 2 ^ 32 → AreSmall (set old core s)
small_set old core s small h = λ i d inside. elim (cases_eq i core) [
  | inl e ↦
      let there : core < length old = omega (arith, e, inside, length-set old core s) in
      rw (e, get_or-set_same old core s d there) h
  | inr n ↦
      rw (get_or-set_other old core i s d n)
      (small i d (omega (arith, inside, length-set old core s)))
]

-- before the first level
pub none_changed : (levels : List (List ℕ)) (old new : List CoreState) (rows : List (List Kept))
    → AreKept levels old rows → IsChanged levels old new rows 1
none_changed levels old new rows are = record {
  shape = are.shape;
  done = λ l some h top. absurd (omega (arith, some, h));
  left = λ l some h top. are.each l some top;
}

-- after the last one
pub all_changed : (levels : List (List ℕ)) (old new : List CoreState) (rows : List (List Kept))
    (level : ℕ) → AreSmall new → length levels < level → IsChanged levels old new rows level
    → AreKept levels new rows
all_changed levels old new rows level small h is = record {
  shape = is.shape;
  small = small;
  each = λ l some top. is.done l some (omega (arith, h, top)) top;
}
