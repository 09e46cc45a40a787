-- Parts are granted one after another, from the core up.
use Rattle.std.proofs.Common.{add-one}
use Rattle.psci_fw_state.proofs.Words.{◌&&◌, ◌+◌, ◌-◌, ◌<◌, ◌==◌, ◌∙◌, ◌≡◌, ◌≤◌, ap, arith}
use Rattle.psci_fw_state.proofs.Words.{BoardValue, Bool, cases_lt, claimed_anew, cond, cores}
use Rattle.psci_fw_state.proofs.Words.{eq-eqb, eqb-true, false, granted_at, granted_with}
use Rattle.psci_fw_state.proofs.Words.{HasNodeIn, height, inl, inr, is_confirmed_at, length}
use Rattle.psci_fw_state.proofs.Words.{List, ne_eqb, Node, Option, Part, PathLaws, place_above}
use Rattle.psci_fw_state.proofs.Words.{refl, size_below, slice_get, slice_get_past, Some, sym}
use Rattle.psci_fw_state.proofs.Words.{TreeValue, true, ℕ}
use Rattle.psci_board.specs.Board.{up}
use Rattle.psci_messages.specs.Message.{PartByPart}
use Rattle.psci_tree.specs.Changes.{MayGrant}
use Rattle.psci_tree.specs.Standing.{on_path as on_path_of}
use Rattle.psci_fw_spec.specs.Changes.{unless_claimed}
use Rattle.psci_fw_spec.specs.Values.{claimed_or}
use Rattle.psci_fw_state.specs.Claims.{MayClaim}
use Rattle.psci_fw_state.proofs.Moved.{eqb_swap}

-- Level by level ------------------------------------------------------------------------------

-- below this level it is what it is to be, and from it up what it was
pub record IsDone {X : Type 0} (old new now : ℕ → ℕ → X) (n : ℕ) : Type 0 where
  pub low : (l p : ℕ) → l < n → now l p ≡ new l p
  pub high : (l p : ℕ) → n ≤ l → now l p ≡ old l p

-- one level more
pub level_more : {X : Type 0} (old new now next : ℕ → ℕ → X) (n : ℕ)
    → ((l p : ℕ) → (n ≡ l → ⊥) → next l p ≡ now l p) → ((p : ℕ) → next n p ≡ new n p)
    → IsDone old new now n → IsDone old new next (n + 1)
level_more old new now next n other here so_far = record {
  low = λ l p h. elim (cases_lt l n) [
    | inl k ↦ other l p (λ e. absurd (omega arith)) ∙ so_far.low l p k
    | inr k ↦ let same : l ≡ n = omega arith in rw same (here p)
  ];
  high = λ l p h. other l p (λ e. absurd (omega arith)) ∙ so_far.high l p (omega arith);
}

-- where no more is to come, all is done
pub all_levels : {X : Type 0} (old new now : ℕ → ℕ → X) (n : ℕ)
    → ((l p : ℕ) → n ≤ l → new l p ≡ old l p) → IsDone old new now n
    → (l p : ℕ) → now l p ≡ new l p
all_levels old new now n past done l p = elim (cases_lt l n) [
  | inl h ↦ done.low l p h
  | inr h ↦ done.high l p h ∙ sym (past l p h)
]

-- a change of one domain leaves the other levels
pub other_level : {X : Type 0} (x next now : ℕ → ℕ → X) (n k : ℕ)
    → ((l p : ℕ) → next l p ≡ cond ((n == l) && (k == p)) (x l p) (now l p))
    → (l p : ℕ) → (n ≡ l → ⊥) → next l p ≡ now l p
other_level x next now n k law l p ne = law l p ∙ (rw (ne_eqb n l ne) refl)

-- Granted -------------------------------------------------------------------------------------

-- below this level the tree grants what the parts say, and from it up what it granted before
abbrev pub IsLaid : BoardValue → ℕ → List Part → (ℕ → ℕ → ℕ) → TreeValue → ℕ → Type 0
IsLaid b c parts before t n = IsDone before (granted_with b c parts before) (granted_at t) n

-- the node of a level on a core's path, as the tree says it
pub on_board : (b : BoardValue) (ws : List (List ℕ)) (core level : ℕ) (node : Node)
    → node ≡ on_path_of ws core level → ws ≡ b.levels
    → node ≡ record { level = level; place = up b level core }
unfolding up
on_board b ws core level node e same = e ∙ ap (λ vs. on_path_of vs core level) same

pub on_path : (b : BoardValue) (ws : List (List ℕ)) (core level : ℕ) → PathLaws b → ws ≡ b.levels
    → core < cores b → level ≤ height b
    → HasNodeIn ws (record { level = level; place = up b level core })
on_path b ws core level laws e inside h = record {
  level = omega (arith, ap length e);
  place = rw e (laws.inside core level inside h);
}

-- what the parts grant on the path, and beside it
laid_on : (b : BoardValue) (c : ℕ) (parts : List Part) (before : ℕ → ℕ → ℕ) (l p : ℕ)
    → p ≡ up b l c → granted_with b c parts before l p ≡ claimed_or (slice_get parts l) (before l p)
laid_on b c parts before l p e = let on : (p == up b l c) ≡ true = grind arith in rw on refl

pub laid_part : (b : BoardValue) (c : ℕ) (parts : List Part) (before : ℕ → ℕ → ℕ) (l p : ℕ)
    (part : Part) → p ≡ up b l c → slice_get parts l ≡ Some part
    → granted_with b c parts before l p ≡ part.depth
laid_part b c parts before l p part e is =
    laid_on b c parts before l p e
    ∙ ap (λ (o : Option Part). claimed_or o (before l p)) is

-- one part more
module _ (b : BoardValue) (c : ℕ) (parts : List Part) (before : ℕ → ℕ → ℕ) (t u : TreeValue)
    (n : ℕ) (part : Part) (is : slice_get parts n ≡ Some part)
    (law : (l p : ℕ) → granted_at u l p
    ≡ cond ((n == l) && (up b n c == p)) part.depth (granted_at t l p))
    (so_far : IsLaid b c parts before t n) where
  here : (p : ℕ) → granted_at u n p ≡ granted_with b c parts before n p
  here p =
      let yes : (n == n) ≡ true = grind arith in
      law n p ∙ (rw (yes, is, eqb_swap (up b n c) p, so_far.high n p (omega arith)) refl)

  pub laid_more : IsLaid b c parts before u (n + 1)
  laid_more = level_more before (granted_with b c parts before) (granted_at t) (granted_at u) n
      (other_level (λ l p. part.depth) (granted_at u) (granted_at t) n (up b n c) law) here so_far

-- below this level no claim of the parts is confirmed, and from it up all is as before
abbrev pub IsUnconfirmed : BoardValue → ℕ → List Part → (ℕ → ℕ → Bool) → TreeValue → ℕ → Type 0
IsUnconfirmed b c parts before t n =
    IsDone before (claimed_anew b c parts before) (is_confirmed_at t) n

-- one part more: something is granted now where nothing was
module _ (b : BoardValue) (c : ℕ) (parts : List Part) (before : ℕ → ℕ → Bool) (t u : TreeValue)
    (n : ℕ) (part : Part) (is : slice_get parts n ≡ Some part)
    (free : granted_at t n (up b n c) ≡ 0) (some : 0 < part.depth)
    (law : (l p : ℕ) → is_confirmed_at u l p
    ≡ cond ((n == l) && (up b n c == p)) ((granted_at t l p == part.depth) && is_confirmed_at t l p)
    (is_confirmed_at t l p))
    (so_far : IsUnconfirmed b c parts before t n) where
  this_level : (p : ℕ) (on : Bool) → (p == up b n c) ≡ on
      → is_confirmed_at u n p ≡ claimed_anew b c parts before n p
  this_level p true e =
      let at : p ≡ up b n c = eqb-true p (up b n c) e in
      let own = eq-eqb (up b n c) (up b n c) refl in
      let new = ne_eqb 0 part.depth (λ z. absurd (omega (arith, z))) in
      rw at (law n (up b n c) ∙ (rw (eq-eqb n n refl, own, free, new, is) refl))
  this_level p false e =
      let no : (up b n c == p) ≡ false = eqb_swap (up b n c) p ∙ e in
      rw e (law n p ∙ (rw (eq-eqb n n refl, no) (so_far.high n p (omega arith))))

  pub unconfirmed_more : IsUnconfirmed b c parts before u (n + 1)
  unconfirmed_more =
      level_more before (claimed_anew b c parts before) (is_confirmed_at t) (is_confirmed_at u) n
      (other_level (λ l p. (granted_at t l p == part.depth) && is_confirmed_at t l p)
      (is_confirmed_at u) (is_confirmed_at t) n (up b n c) law)
      (λ p. this_level p (p == up b n c) refl) so_far

-- the whole claim
pub unconfirmed_all : (b : BoardValue) (c : ℕ) (parts : List Part) (before : ℕ → ℕ → Bool)
    (t : TreeValue) (n : ℕ) → length parts ≤ n → IsUnconfirmed b c parts before t n → (l p : ℕ)
    → is_confirmed_at t l p ≡ claimed_anew b c parts before l p
unconfirmed_all b c parts before t n long =
    all_levels before (claimed_anew b c parts before) (is_confirmed_at t) n
    (λ l p h. beyond l p (p == up b l c) h)
  where
    beyond : (l p : ℕ) (on : Bool) → n ≤ l
        → cond on (unless_claimed (slice_get parts l) (before l p)) (before l p) ≡ before l p
    beyond l p true h = rw (slice_get_past parts l (omega arith)) refl
    beyond l p false h = refl

-- the next part may be granted
module _ (b : BoardValue) (c : ℕ) (parts : List Part) (before : ℕ → ℕ → ℕ) (t : TreeValue) (n : ℕ)
    (part : Part) (is : slice_get parts n ≡ Some part) (paths : PathLaws b)
    (may : MayClaim b c parts before) (claim : PartByPart parts) (levels : t.levels ≡ b.levels)
    (inside : n ≤ height b) (so_far : IsLaid b c parts before t n) where
  to_up : (l core : ℕ) → place_above t.levels l core ≡ up b l core
  unfolding up
  to_up l core = ap (λ (ws : List (List ℕ)). place_above ws l core) levels

  child : (core : ℕ) → core < size_below t.levels → 0 < n → place_above t.levels n core ≡ up b n c
      → part.depth ≤ granted_at t (n - 1) (place_above t.levels (n - 1) core)
  child core h some e =
      let there : core < cores b = rw levels at h in
      let on : up b n core ≡ up b n c = sym (to_up n core) ∙ e in
      let back : n - 1 + 1 ≡ n = omega arith in
      let step = may.nested core (n - 1) there (omega arith) in
      let depth = laid_part b c parts before n (up b n core) part on is in
      let found : granted_at t (n - 1) (place_above t.levels (n - 1) core)
      ≡ granted_with b c parts before (n - 1) (up b (n - 1) core) =
      ap (granted_at t (n - 1)) (to_up (n - 1) core) ∙ so_far.low (n - 1) _ (omega arith) in
      omega (arith, rw back at step)

  above : (core : ℕ) → core < size_below t.levels → n < length t.levels
      → place_above t.levels n core ≡ up b n c
      → granted_at t (n + 1) (place_above t.levels (n + 1) core) ≤ part.depth
  above core h low e =
      let on : up b n core ≡ up b n c = sym (to_up n core) ∙ e in
      let joined : up b (n + 1) core ≡ up b (n + 1) c = rw add-one (paths.joined core c n on) in
      let high : n + 1 ≤ height b = omega (arith, ap length levels) in
      let none : granted_at t (n + 1) (place_above t.levels (n + 1) core) ≡ 0 =
      ap (granted_at t (n + 1)) (to_up (n + 1) core ∙ joined)
      ∙ so_far.high (n + 1) _ (omega arith) ∙ may.free (n + 1) high in
      omega arith

  pub may_grant : MayGrant t (record { level = n; place = up b n c }) part.depth
  may_grant = record {
    deepest = claim.deepest n part is;
    children = child;
    parent = above;
  }

-- the whole claim
pub laid_all : (b : BoardValue) (c : ℕ) (parts : List Part) (before : ℕ → ℕ → ℕ) (t : TreeValue)
    (n : ℕ) → length parts ≤ n → IsLaid b c parts before t n → (l p : ℕ)
    → granted_at t l p ≡ granted_with b c parts before l p
laid_all b c parts before t n long =
    all_levels before (granted_with b c parts before) (granted_at t) n
    (λ l p h. beyond l p (p == up b l c) h)
  where
    beyond : (l p : ℕ) (on : Bool) → n ≤ l
        → cond on (claimed_or (slice_get parts l) (before l p)) (before l p) ≡ before l p
    beyond l p true h = rw (slice_get_past parts l (omega arith)) refl
    beyond l p false h = refl
