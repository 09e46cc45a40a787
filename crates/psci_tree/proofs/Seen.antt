-- The fields of a tree in memory, and the value that it is seen as.
use Rattle.std.proofs.Common.{Global, Vec}
use Rattle.std.proofs.lemmas.List.{drop_more, length-set}
use Rattle.psci_board.specs.declared.draft.TheConstants.{MOST_CORES}
use Rattle.psci_state.specs.declared.cores.Change.{Change}
use Rattle.psci_tree.specs.Changes.{core_changed, with_confirmed, with_grant}
use Rattle.psci_tree.specs.Recount.{is_confirmed_at, known}
use Rattle.psci_tree.specs.contracts.tree.Tree.{the_invariant}
use Rattle.psci_tree.specs.declared.tree.Tree.TheInside.{Inside}
use Rattle.psci_tree.proofs.DepthRows.{depth_row, DepthRow, depths_written, read_at, ReadAt}
use Rattle.psci_tree.proofs.Granted.{at_set, depth_at, is_domain, rows_at, size_of_level}
use Rattle.psci_tree.proofs.Granted.{zero_at}
use Rattle.psci_tree.proofs.Words.{◌&&◌, ◌+◌, ◌<◌, ◌==◌, ◌∙◌, ◌∷◌, ◌≡◌, ◌≤◌, []}
use Rattle.psci_tree.proofs.Words.{Activity, all_off, ap, AreKept, arith, below_in, Bool}
use Rattle.psci_tree.proofs.Words.{cases_eq, cond, confirmed_at, confirmed_of, CoreState}
use Rattle.psci_tree.proofs.Words.{depth_set, Depths, drop, false, get_or}
use Rattle.psci_tree.proofs.Words.{get_or-set_other, get_or-set_same, get_or_default, granted_at}
use Rattle.psci_tree.proofs.Words.{granted_of, HasNodeIn, inl, inr, IsActivity, IsDomainTree}
use Rattle.psci_tree.proofs.Words.{IsHeld, IsTree, IsWayOf, Kept, known_at, length, length-map}
use Rattle.psci_tree.proofs.Words.{length-replicate, level_sizes, List, map, nat_lt, nat_tests}
use Rattle.psci_tree.proofs.Words.{never_started, Node, place_above, range_with_len}
use Rattle.psci_tree.proofs.Words.{refl, replicate, set, size_below, span, SpanLaws, state_at}
use Rattle.psci_tree.proofs.Words.{still_confirmed, subst, suc, sym, take}
use Rattle.psci_tree.proofs.Words.{the_view, TreeValue, true, unwrap_or, Way, with_core_state}
use Rattle.psci_tree.proofs.Words.{with_items, with_items_is, with_path_cleared, zero, ℕ}

-- The values of a tree after each change, by core, and by level and place -------------------------

-- another state of one core
pub core_with : (t : TreeValue) (core : ℕ) (activity : Activity) (known c : ℕ)
    → core < length t.cores → state_at (with_core_state t core activity known) c
    ≡ cond (core == c) (record { activity = activity; known = known }) (state_at t c)
core_with t core activity known c h = at_set t.cores core _ never_started c h

pub granted_with : (t : TreeValue) (core l p : ℕ) → granted_at (with_path_cleared t core) l p
    ≡ cond (place_above t.levels l core == p) 0 (granted_at t l p)
granted_with t core l p = zero_at t.levels t.granted core l p

-- no longer confirmed, or as before
none_or_same : (b : Bool) (x : ℕ) → nat_lt 0 (cond b 0 x) ≡ cond b false (nat_lt 0 x)
none_or_same b x = grind arith

pub confirmed_with : (t : TreeValue) (core l p : ℕ)
    → is_confirmed_at (with_path_cleared t core) l p
    ≡ cond (place_above t.levels l core == p) false (is_confirmed_at t l p)
confirmed_with t core l p =
    ap (nat_lt 0) (zero_at t.levels t.confirmed core l p)
    ∙ none_or_same (place_above t.levels l core == p) (confirmed_at t l p)

-- what stays confirmed at a domain, and what was at the others
kept_if_same : (at same : Bool) (own x : ℕ) → (at ≡ true → own ≡ x)
    → nat_lt 0 (cond at (cond same own 0) x) ≡ cond at (same && nat_lt 0 x) (nat_lt 0 x)
kept_if_same at same own x e = grind arith

-- at the domain itself the granted depth that is read is its own
own_depth : (t : TreeValue) (n : Node) (depth l p : ℕ) (b : Bool)
    → cond (n.level == l && n.place == p) ((granted_at t n.level n.place == depth) && b) b
    ≡ cond (n.level == l && n.place == p) ((granted_at t l p == depth) && b) b
own_depth t n depth l p b = grind (arith, nat_tests)

pub confirmed_grant : (t : TreeValue) (n : Node) (depth l p : ℕ) → IsDomainTree t
    → HasNodeIn t.levels n → is_confirmed_at (with_grant t n depth) l p
    ≡ cond (n.level == l && n.place == p)
    ((granted_at t l p == depth) && is_confirmed_at t l p) (is_confirmed_at t l p)
unfolding with_grant
confirmed_grant t n depth l p v h =
    let same : Bool = granted_at t n.level n.place == depth in
    let at : Bool = n.level == l && n.place == p in
    ap (nat_lt 0) (depth_at t.levels t.confirmed n (still_confirmed t n depth) l p v.confirmed h)
    ∙ kept_if_same at same (confirmed_at t n.level n.place) (confirmed_at t l p)
    (λ e. let d = is_domain n l p e in rw (d.0, d.1) refl)
    ∙ own_depth t n depth l p (is_confirmed_at t l p)

some_or_same : (b : Bool) (d x : ℕ) → 1 ≤ d → nat_lt 0 (cond b d x) ≡ cond b true (nat_lt 0 x)
some_or_same b d x h = grind (arith, nat_tests)

pub confirmed_now : (t : TreeValue) (n : Node) (l p : ℕ) → IsDomainTree t
    → HasNodeIn t.levels n → 1 ≤ granted_at t n.level n.place
    → is_confirmed_at (with_confirmed t n) l p
    ≡ cond (n.level == l && n.place == p) true (is_confirmed_at t l p)
unfolding with_confirmed
confirmed_now t n l p v h some =
    let depth : ℕ = granted_at t n.level n.place in
    ap (nat_lt 0) (depth_at t.levels t.confirmed n depth l p v.confirmed h)
    ∙ some_or_same (n.level == l && n.place == p) depth (confirmed_at t l p) some

pub ruleset confirmed_laws = (confirmed_with, confirmed_grant, confirmed_now)

-- The start of a life ------------------------------------------------------------------------

pub core_off : (levels : List (List ℕ)) (c : ℕ) → state_at (all_off levels) c ≡ never_started
core_off levels c = filled (size_below levels) c
  where
    filled : (n c : ℕ) → get_or (replicate n never_started) c never_started ≡ never_started
    filled zero c = refl
    filled (suc n) zero = refl
    filled (suc n) (suc c) = filled n c

pub granted_off : (levels : List (List ℕ)) (l p : ℕ) → l ≤ length levels
    → p < size_below (drop l levels) → granted_at (all_off levels) l p ≡ 3
granted_off levels l p h i =
    rows_at (level_sizes levels) l p (omega (arith, size_of_level levels l h))

pub confirmed_off : (levels : List (List ℕ)) (l p : ℕ) → l ≤ length levels
    → p < size_below (drop l levels) → is_confirmed_at (all_off levels) l p ≡ true
confirmed_off levels l p h i =
    ap (nat_lt 0) (rows_at (level_sizes levels) l p (omega (arith, size_of_level levels l h)))

pub cores_off : (levels : List (List ℕ)) → length (all_off levels).cores ≡ size_below levels
cores_off levels = length-replicate (size_below levels) never_started

-- Seen --------------------------------------------------------------------------------------------

-- what the domains keep
abbrev pub kept_in : Inside → List (List Kept)
kept_in x = map (λ v. v.items) x.kept.items

-- what holds of the fields, by the value
pub held_seen : (x : Inside) (v : TreeValue) → the_invariant x → the_view x ≡ v
    → IsHeld (kept_in x) x.ways.items v
held_seen x v h is = subst (IsHeld (kept_in x) x.ways.items) is h

-- the same after a change of the depths alone
pub held_with : (x : Inside) (v u w : TreeValue) → the_invariant x → the_view x ≡ v → w ≡ u
    → u.levels ≡ v.levels → u.cores ≡ v.cores → IsDomainTree u
    → IsHeld (kept_in x) x.ways.items w
held_with x v u w h is e l s valid =
    let same : IsHeld (kept_in x) x.ways.items v = held_seen x v h is in
    rw e (record {
      tied = record { kept = rw (l, s) same.tied.kept; valid = valid };
      lead = rw l same.lead;
    })

-- the core of the value is one of the board, and the way that is read leads to it
pub core_seen : (x : Inside) (v : TreeValue) {core : ℕ} → the_view x ≡ v
    → core < size_below v.levels → core < size_below x.board.levels
core_seen x v {core = core} is = subst (λ (t : TreeValue). core < size_below t.levels) (sym is)

pub way_seen : (x : Inside) (v : TreeValue) {core : ℕ} {way : Way} → the_invariant x
    → the_view x ≡ v → core < size_below v.levels → way ≡ get_or x.ways.items core way
    → IsWayOf x.board.levels core way
way_seen x v {core = core} {way = way} h is i e = rw e (h.lead.each core way (core_seen x v is i))

pub place_on_way : (x : Inside) (v : TreeValue) {core l : ℕ} {way : Way} → the_invariant x
    → the_view x ≡ v → core < size_below v.levels → way ≡ get_or x.ways.items core way
    → l ≤ length v.levels → get_or way.places l 0 ≡ place_above v.levels l core
place_on_way x v {core = core} {l = l} h is i e le =
    (way_seen x v h is i e).places l
    (subst (λ (t : TreeValue). l ≤ length t.levels) (sym is) le)
    ∙ ap (λ (t : TreeValue). place_above t.levels l core) is

-- Depths -------------------------------------------------------------------------------------

abbrev rows_in : List (Vec Depths Global) → List (List Depths)
rows_in vs = map (λ v. v.items) vs

-- a domain has a place in a row
abbrev HasPlace : List (Vec Depths Global) → Node → Type 0
HasPlace vs n = record {
  level : n.level < length vs;
  place : n.place < length (get_or (rows_in vs) n.level []);
}

row_seen : (x : Inside) (v : TreeValue) (n : Node) → the_invariant x → the_view x ≡ v
    → HasNodeIn v.levels n → DepthRow (rows_in x.depths.items) n
row_seen x v n h is i = depth_row x.board.levels (rows_in x.depths.items) n h.tied.valid.granted
    (subst (λ (t : TreeValue). HasNodeIn t.levels n) (sym is) i)

pub place_seen : (x : Inside) (v : TreeValue) (n : Node) {vs : List (Vec Depths Global)}
    → the_invariant x → the_view x ≡ v → HasNodeIn v.levels n → vs ≡ x.depths.items
    → HasPlace vs n
place_seen x v n {vs = vs} h is i e =
    let at = row_seen x v n h is i in
    let same = ap rows_in e in
    record {
      level = omega (arith, at.level, ap length same, length-map vs (λ v. v.items));
      place = omega (arith, at.place, ap (λ rs. length (get_or rs n.level [])) same);
    }

-- what is read there is what the value has
pub record IsRead (v : TreeValue) (n : Node) (d : Depths) : Type 0 where
  pub granted : d.granted ≡ granted_at v n.level n.place
  pub confirmed : d.confirmed ≡ confirmed_at v n.level n.place

pub depths_seen : (x : Inside) (v : TreeValue) (n : Node) {vs : List (Vec Depths Global)}
    {d : Depths} → the_invariant x → the_view x ≡ v → HasNodeIn v.levels n → vs ≡ x.depths.items
    → ((e : Depths) → d ≡ get_or (get_or (rows_in vs) n.level []) n.place e) → IsRead v n d
depths_seen x v n {d = d} h is i e read =
    let at = row_seen x v n h is i in
    let same = ap rows_in e in
    let own : ReadAt (rows_in x.depths.items) n d = read_at _ _ n d at same read in
    record {
      granted = own.granted ∙ ap (λ (t : TreeValue). granted_at t n.level n.place) is;
      confirmed = own.confirmed ∙ ap (λ (t : TreeValue). confirmed_at t n.level n.place) is;
    }

-- other rows make another value
abbrev value_with : Inside → List (List Depths) → TreeValue
value_with x rows = record (the_view x) {
  granted = granted_of rows;
  confirmed = confirmed_of rows;
}

pub rows_seen : (x : Inside) (v : TreeValue) (ws : List (Vec Depths Global))
    (gs fs : List (List ℕ)) → the_view x ≡ v → length ws ≡ x.depths.len
    → granted_of (rows_in ws) ≡ gs → confirmed_of (rows_in ws) ≡ fs
    → value_with x (rows_in (with_items x.depths ws).items)
    ≡ record v { granted = gs; confirmed = fs }
rows_seen x v ws gs fs is e g f = rw (with_items_is x.depths ws e, g, f, ← is)

-- the depths of one domain are written
pub depths_with : (x : Inside) (v : TreeValue) (n : Node) {vs : List (Vec Depths Global)}
    (ws : List (Vec Depths Global)) (d : Depths) {g f : ℕ} → the_view x ≡ v
    → length ws ≡ x.depths.len → vs ≡ x.depths.items
    → rows_in ws ≡ set (rows_in vs) n.level (set (get_or (rows_in vs) n.level []) n.place d)
    → d.granted ≡ g → d.confirmed ≡ f
    → value_with x (rows_in (with_items x.depths ws).items)
    ≡ record v { granted = depth_set v.granted n g; confirmed = depth_set v.confirmed n f }
depths_with x v n ws d is e same written p q =
    rows_seen x v ws _ _ is e
    (rw (written, same, depths_written (λ y. y.granted) (rows_in x.depths.items), p, ← is))
    (rw (written, same, depths_written (λ y. y.confirmed) (rows_in x.depths.items), q, ← is))

-- After one core came into another state ----------------------------------------------------------

core_valid : (t : TreeValue) (core : ℕ) (s : CoreState) → IsDomainTree t
    → core < size_below t.levels → IsActivity s.activity
    → IsDomainTree (record t { cores = set t.cores core s })
core_valid t core s v h a =
    let cores = length-set t.cores core s ∙ v.cores in
    let asks : (k : ℕ) → IsActivity (get_or (set t.cores core s) k never_started).activity =
    λ k. elim (cases_eq k core) [
      | inl e ↦
          let there : core < length t.cores = omega (arith, v.cores) in
          rw (e, get_or-set_same t.cores core s never_started there) a
      | inr d ↦ rw (get_or-set_other t.cores core k s never_started d) (v.asks k)
    ] in
    search

-- what was held is held, with the new state of the core
pub held_core : (rows now : List (List Kept)) (ways : List Way) (t : TreeValue) (core : ℕ)
    (s : CoreState) → IsHeld rows ways t → core < size_below t.levels → IsActivity s.activity
    → AreKept t.levels (set t.cores core s) now
    → IsHeld now ways (record t { cores = set t.cores core s })
held_core rows now ways t core s h l a kept = record {
  tied = record { kept = kept; valid = core_valid t core s h.tied.valid l a };
  lead = h.lead;
}

-- the value of the tree after the change
pub core_value : (rows : List (List Kept)) (ways : List Way) (t : TreeValue) (core : ℕ)
    (x s : CoreState) (change : Change) (now : List CoreState)
    → IsHeld rows ways t → core < size_below t.levels → x ≡ get_or t.cores core x
    → s ≡ core_changed change x → now ≡ set t.cores core s
    → record t { cores = now }
    ≡ with_core_state t core change.activity (unwrap_or change.started (known_at t core))
core_value rows ways t core x s change now h l e d n =
    let there : core < length t.cores = omega (arith, h.tied.valid.cores) in
    rw (n, d, e ∙ get_or_default t.cores core x never_started there)

-- The states of the cores below a node are a slice of those of all cores --------------------------

-- a run of numbers as places of a list
pick_run : {X : Type 0} (xs : List X) (d : X) (a k : ℕ) → a + k ≤ length xs
    → map (λ c. get_or xs c d) (range_with_len a k) ≡ take k (drop a xs)
pick_run xs d a zero h = refl
pick_run xs d a (suc k) h =
    rw (drop_more xs a d (omega arith))
    (ap (λ ys. get_or xs a d ∷ ys) (pick_run xs d (a + 1) k (omega arith)))

-- the states of the cores below a domain are a slice of those of all cores
pub states_slice : (t : TreeValue) (n : Node) → SpanLaws t.levels
    → length t.cores ≡ size_below t.levels → HasNodeIn t.levels n
    → map (λ c. state_at t c) (below_in t.levels n)
    ≡ take (span t.levels n).count (drop (span t.levels n).first t.cores)
states_slice t n laws same h =
    ap (map (λ c. state_at t c)) (laws.cores n h)
    ∙ pick_run t.cores never_started (span t.levels n).first (span t.levels n).count
    (omega (arith, laws.inside n h))

pub size_few : (levels : List (List ℕ)) → IsTree levels → size_below levels ≤ MOST_CORES
size_few [] t = omega arith
size_few (w ∷ ws) t = t.1
