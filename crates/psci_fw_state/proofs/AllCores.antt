-- What is counted of each core, and what the counts of the whole system say of all cores together.
use Rattle.std.specs.List.{list_all}
use Rattle.std.proofs.Common.{◌^◌, filter}
use Rattle.std.proofs.lemmas.Bool.{and_from, le-leb, ltb-false}
use Rattle.std.proofs.lemmas.List.{drop_all}
use Rattle.std.proofs.lemmas.List.Sums.{count_by-le-length, length-filter}
use Rattle.psci_board.specs.Board.{has_node, SpanLaws}
use Rattle.psci_board.specs.declared.span.CoreSpan.{CoreSpan}
use Rattle.psci_state.specs.declared.cores.Activity.TheVariants as activities
use Rattle.psci_tree.specs.Recount.{active, is_away as is_gone, off}
use Rattle.psci_tree.proofs.Ranges.{all_counted, counted_both, ones, range_once, range_same}
use Rattle.psci_tree.proofs.Ranges.{sum_off, sum_on, sums, zeros}
use Rattle.psci_fw_spec.specs.PowerCalls.{all_others, node_status, status_over}
use Rattle.psci_fw_state.specs.Counts.{counts_below}
use Rattle.psci_fw_state.specs.Seen.{values_in}
use Rattle.psci_fw_state.proofs.Words.{◌+◌, ◌-◌, ◌<◌, ◌==◌, ◌||◌, ◌∙◌, ◌∷◌, ◌≡◌, ◌≤◌, []}
use Rattle.psci_fw_state.proofs.Words.{Activity, agrees, ap, arith, below_in, BoardValue, Bool}
use Rattle.psci_fw_state.proofs.Words.{cases_lt, cond, CoreRow, cores, CoreState, count_by}
use Rattle.psci_fw_state.proofs.Words.{counts_at, drop, eq-eqb, false, get_or_past, height, inl}
use Rattle.psci_fw_state.proofs.Words.{inr, is_active, is_away, is_off_status, is_on}
use Rattle.psci_fw_state.proofs.Words.{is_pending_status, is_suspended_or_pending, IsState}
use Rattle.psci_fw_state.proofs.Words.{IsTree, leb, length, length-range_with_len, List}
use Rattle.psci_fw_state.proofs.Words.{list_any, lt-ltb, ltb, MayRecount, ne_eqb, never_started}
use Rattle.psci_fw_state.proofs.Words.{no_cores, Node, nodes, not, Off, off_row, one_core}
use Rattle.psci_fw_state.proofs.Words.{phase_by, place_above, range_with_len, recounted, refl}
use Rattle.psci_fw_state.proofs.Words.{row_at, size_below, size_few, state_at, StateValue}
use Rattle.psci_fw_state.proofs.Words.{Status, status_at, status_counted, StatusCounts, sum_by}
use Rattle.psci_fw_state.proofs.Words.{sum_by-cons, sym, true, ℕ}

-- The status of a node is that of what is counted of the cores below it ---------------------------

-- Counted or looked for -------------------------------------------------------------------------

some_more : (t : Bool) (n : ℕ) (any : Bool) → ltb 0 n ≡ any → ltb 0 (cond t 1 0 + n) ≡ (t || any)
some_more t n any e = grind arith

-- one is there where more than none are counted
pub some_counted : (passes : ℕ → Bool) (cs : List ℕ) → ltb 0 (count_by passes cs)
    ≡ list_any passes cs
some_counted passes [] = refl
some_counted passes (c ∷ cs) =
    ap (ltb 0) (sum_by-cons (λ x. cond (passes x) 1 0) c cs)
    ∙ some_more (passes c) (count_by passes cs) (list_any passes cs) (some_counted passes cs)

status_of_counts : (levels : List (List ℕ)) (status : ℕ → Status) (n : Node)
    → status_counted (counts_below levels status n) ≡ status_over status (below_in levels n)
unfolding counts_below
status_of_counts levels status n =
    rw (
      some_counted (λ c. is_on (status c)) (below_in levels n),
      some_counted (λ c. is_pending_status (status c)) (below_in levels n),
    ) refl

-- The status of a node --------------------------------------------------------------------------

-- a power domain above the cores has that of its count
domain_of : (b : BoardValue) (status : ℕ → Status) (n : Node) → (n.level ≡ 0 → ⊥)
    → n.level ≤ height b → n.place < nodes b n.level
    → status_counted (counts_below b.levels status n) ≡ node_status b status n
unfolding node_status
domain_of b status n above low inside =
    let there : has_node b n ≡ true =
    and_from _ _ (le-leb n.level (height b) low) (lt-ltb n.place (nodes b n.level) inside) in
    let other : (n.level == 0) ≡ false = ne_eqb n.level 0 above in
    rw (there, other) (status_of_counts b.levels status n)

pub status_domain : (s now : StateValue) (n : Node) → s ≡ now → IsState s → (n.level ≡ 0 → ⊥)
    → n.level ≤ height s.board → n.place < nodes s.board n.level
    → status_counted (counts_at s.counts n.level n.place)
    ≡ node_status now.board (values_in now).status n
unfolding values_in
status_domain s now n same is above low inside =
    ap status_counted (is.counts.each n.level n.place (omega (arith, above)) low inside)
    ∙ domain_of s.board (status_at s.rows) n above low inside
    ∙ ap (λ (x : StateValue). node_status x.board (λ c. (row_at x.rows c).status) n) same

-- a node that the board does not have is OFF
pub status_none : (b : BoardValue) (status : ℕ → Status) (n : Node)
    → (n.level ≤ height b → n.place < nodes b n.level → ⊥) → Off ≡ node_status b status n
unfolding node_status
status_none b status n none = grind (arith, none)

-- a core's status is in its row; one that the board does not have is OFF
pub status_leaf : (s now : StateValue) (n : Node) → s ≡ now → IsState s → n.level ≡ 0
    → (row_at s.rows n.place).status ≡ node_status now.board (values_in now).status n
unfolding values_in node_status
status_leaf s now n same is leaf =
    by_test (has_node s.board n) refl
    ∙ ap (λ (x : StateValue). node_status x.board (λ c. (row_at x.rows c).status) n) same
  where
    here : (n.level == 0) ≡ true
    here = eq-eqb n.level 0 leaf

    by_test : (t : Bool) → has_node s.board n ≡ t → (row_at s.rows n.place).status
        ≡ node_status s.board (λ c. (row_at s.rows c).status) n
    by_test true f = rw (f, here) refl
    by_test false f =
        let past : length s.rows ≤ n.place = omega (arith, is.rows, outside f) in
        rw (f, get_or_past s.rows n.place off_row past) refl
      where
        low : leb n.level (height s.board) ≡ true
        low = le-leb n.level (height s.board) (omega (arith, leaf))

        outside : has_node s.board n ≡ false → cores s.board ≤ n.place
        outside g =
            let no : ltb n.place (nodes s.board n.level) ≡ false = rw low at g in
            let past : nodes s.board n.level ≤ n.place = ltb-false n.place _ no in
            rw leaf at past

-- All cores ---------------------------------------------------------------------------------------

-- All cores but one ------------------------------------------------------------------------------

module _ (test : ℕ → Bool) (c : ℕ) where
  beside : (k : ℕ) → (k ≡ c → ⊥)
      → ◌≡◌ {A = ℕ} (cond (not (k == c || test k)) 1 0) (cond (not (test k)) 1 0)
  beside k n = let no : (k == c) ≡ false = ne_eqb k c n in rw no refl

  here : ◌≡◌ {A = ℕ} (cond (not (c == c || test c)) 1 0) 0
  here = let yes : (c == c) ≡ true = eq-eqb c c refl in rw yes refl

  own_counted : (n : ℕ) → (n ≤ c → test c ≡ true)
      → count_by (λ k. not (k == c || test k)) (range_with_len 0 n) + cond (not (test c)) 1 0
      ≡ count_by (λ k. not (test k)) (range_with_len 0 n)
  own_counted n h =
      let f : ℕ → ℕ = λ k. cond (not (k == c || test k)) 1 0 in
      let g : ℕ → ℕ = λ k. cond (not (test k)) 1 0 in
      elim (cases_lt c n) [
        | inl p ↦ omega (arith, range_once f g 0 n c (omega arith) (omega arith) beside, here)
        | inr p ↦
            let none : ◌≡◌ {A = ℕ} (cond (not (test c)) 1 0) 0 =
            ap {B = ℕ} (λ b. cond (not b) 1 0) (h p) in
            let rest = range_same f g 0 n (λ k i j. beside k (λ r. omega (arith, p, r))) in
            omega (arith, none, rest)
      ]

same_test : (x y z : ℕ) → x + y ≡ z → (x == 0) ≡ (z == y)
same_test x y z e = grind arith

-- every core but one passes where as many do not as it is one of them
others : (test : ℕ → Bool) (c n : ℕ) → (n ≤ c → test c ≡ true)
    → list_all (λ k. k == c || test k) (range_with_len 0 n)
    ≡ (count_by (λ k. not (test k)) (range_with_len 0 n) == cond (not (test c)) 1 0)
others test c n h =
    all_counted (λ k. k == c || test k) (range_with_len 0 n)
    ∙ same_test _ _ _ (own_counted test c n h)

-- Sums over cores --------------------------------------------------------------------------------

pub at_most : (f g : ℕ → ℕ) (xs : List ℕ) → ((k : ℕ) → f k ≤ g k) → sum_by f xs ≤ sum_by g xs
at_most f g [] e = omega arith
at_most f g (x ∷ xs) e =
    omega (arith, sum_by-cons f x xs, sum_by-cons g x xs, e x, at_most f g xs e)

pub equal : (f g : ℕ → ℕ) (xs : List ℕ) → ((k : ℕ) → f k ≡ g k) → sum_by f xs ≡ sum_by g xs
equal f g xs e = λ i. sum_by (λ k. e k i) xs

pub same_sums : (n own rest total : ℕ) → n + rest ≡ total → (n + own == total) ≡ (rest == own)
same_sums n own rest total e = grind arith

pub same_less : (n more total : ℕ) → more + n ≡ total → ltb n total ≡ ltb 0 more
same_less n more total e = grind arith

-- One core ---------------------------------------------------------------------------------------

pub started : (s : Status) → ◌≡◌ {A = ℕ} (cond (is_on s) 1 0 + cond (is_pending_status s) 1 0)
    (cond (not (is_off_status s)) 1 0)
started s = grind arith

pub away_is : (s : Status) (a : Activity) → is_gone a ≡ is_away (phase_by s a)
away_is s a = grind arith

pub settled_one : (a : Activity) → cond (is_gone a) 1 0 + cond (is_active a) 1 0 ≤ 1
settled_one a = grind arith

-- a core waits, or is off or going off, or keeps its domains on; it does both where it is pending
pub waiting_one : (s : Status) (a : Activity) → agrees s (phase_by s a) ≡ true
    → ◌≡◌ {A = ℕ} (cond (is_suspended_or_pending (phase_by s a)) 1 0
    + (cond (is_gone a) 1 0 + cond (is_active a) 1 0)) (1 + cond (is_pending_status s) 1 0)
waiting_one s a e = grind arith

-- The whole system -------------------------------------------------------------------------------

module _ (s : StateValue) (is : IsState s) (laws : SpanLaws s.board.levels) where
  abbrev pub system : Node
  system = record { level = height s.board; place = 0 }

  abbrev everyone : List ℕ
  everyone = range_with_len 0 (cores s.board)

  one_system : 0 < size_below (drop (height s.board) s.board.levels)
  one_system =
      rw (drop_all (height s.board) s.board.levels (omega arith)) (omega arith)

  all_below : below_in s.board.levels system ≡ everyone
  all_below =
      laws.cores system (record { level = omega arith; place = one_system })
      ∙ ap (λ (x : CoreSpan). range_with_len x.first x.count) laws.system

  -- ON and ON_PENDING are all that is not OFF
  pub others_off : (c : ℕ) (k : StatusCounts)
      → k ≡ counts_below s.board.levels (status_at s.rows) system
      → (k.on + k.pending
      == (one_core (status_at s.rows c)).on + (one_core (status_at s.rows c)).pending)
      ≡ all_others s.board c (λ n. is_off_status (status_at s.rows n))
  unfolding counts_below
  others_off c k e =
      let sum : k.on + k.pending
      ≡ count_by (λ n. not (is_off_status (status_at s.rows n))) everyone =
      rw (e, all_below) (sums (λ n. cond (is_on (status_at s.rows n)) 1 0)
      (λ n. cond (is_pending_status (status_at s.rows n)) 1 0)
      (λ n. cond (not (is_off_status (status_at s.rows n))) 1 0) everyone
      (λ n. started (status_at s.rows n))) in
      rw (sum, started (status_at s.rows c))
      (sym (others (λ n. is_off_status (status_at s.rows n)) c (cores s.board)
      (λ h. ap (λ (r : CoreRow). is_off_status r.status)
      (get_or_past s.rows c off_row (omega (arith, is.rows, h))))))

  abbrev pub away : ℕ → Bool
  away c = is_away (phase_by (status_at s.rows c) (state_at s.tree c).activity)

  abbrev pub activity : ℕ → Activity
  activity c = (state_at s.tree c).activity

  off_count : off s.tree system ≡ count_by (λ c. is_gone (activity c)) everyone
  unfolding off
  off_count = rw (is.levels, all_below) refl

  active_count : active s.tree system ≡ count_by (λ c. is_active (activity c)) everyone
  unfolding active
  active_count = rw (is.levels, all_below) refl

  off_away : count_by (λ c. is_gone (activity c)) everyone ≡ count_by away everyone
  off_away = equal (λ c. cond (is_gone (activity c)) 1 0) (λ c. cond (away c) 1 0) everyone
      (λ c. ap {B = ℕ} (λ b. cond b 1 0) (away_is (status_at s.rows c) (activity c)))

  split : count_by away everyone + count_by (λ c. not (away c)) everyone ≡ cores s.board
  split =
      counted_both away everyone ∙ length-range_with_len 0 (cores s.board)

  -- a core after the last is off
  beyond : (c : ℕ) → cores s.board ≤ c → away c ≡ true
  beyond c h =
      let past : length s.tree.cores ≤ c =
      omega (arith, is.tree.cores, ap size_below is.levels, h) in
      ap (λ (x : CoreState). is_away (phase_by (status_at s.rows c) x.activity))
      (get_or_past s.tree.cores c never_started past)
      ∙ sym (away_is (status_at s.rows c) activities.Away)

  pub few_off : (n own : ℕ) → n ≡ off s.tree system → own ≤ 1 → n + own < 2 ^ 32
  few_off n own e h =
      omega (arith, e, off_count, off_away, split, size_few s.board.levels is.board.tree, h)

  pub others_away : (c n own total : ℕ) → n ≡ off s.tree system
      → own ≡ cond (not (away c)) 1 0 → total ≡ cores s.board
      → (n + own == total) ≡ all_others s.board c away
  others_away c n own total e f t =
      same_sums n own (count_by (λ k. not (away k)) everyone) total
      (omega (arith, e, off_count, off_away, split, t))
      ∙ ap (λ x. count_by (λ k. not (away k)) everyone == x) f
      ∙ sym (others away c (cores s.board) (beyond c))

  abbrev pub waiting : ℕ → Bool
  waiting c = is_suspended_or_pending (phase_by (status_at s.rows c) (activity c))

  settled : sum_by (λ c. cond (is_gone (activity c)) 1 0 + cond (is_active (activity c)) 1 0)
      everyone
      ≡ off s.tree system + active s.tree system
  settled =
      sym (sums (λ c. cond (is_gone (activity c)) 1 0) (λ c. cond (is_active (activity c)) 1 0)
      (λ c. cond (is_gone (activity c)) 1 0 + cond (is_active (activity c)) 1 0) everyone
      (λ c. refl))
      ∙ (rw (off_count, active_count) refl)

  few_settled : off s.tree system + active s.tree system ≤ cores s.board
  few_settled =
      let each = at_most (λ c. cond (is_gone (activity c)) 1 0 + cond (is_active (activity c)) 1 0)
      (λ c. 1) everyone (λ c. settled_one (activity c)) in
      omega (arith, each, settled, ones everyone, length-range_with_len 0 (cores s.board))

  pub fits_settled : (n m : ℕ) → n ≡ off s.tree system → m ≡ active s.tree system
      → n + m < 2 ^ 32
  fits_settled n m e f =
      omega (arith, e, f, few_settled, size_few s.board.levels is.board.tree)

  module _ (agree : (c : ℕ) → agrees (status_at s.rows c)
      (phase_by (status_at s.rows c) (activity c)) ≡ true) (n m : ℕ) (k : StatusCounts)
      (at : k ≡ counts_below s.board.levels (status_at s.rows) system)
      (e : n ≡ off s.tree system) (f : m ≡ active s.tree system) where
    counted : k.pending ≡ count_by (λ c. is_pending_status (status_at s.rows c)) everyone
    unfolding counts_below
    counted = rw (at, all_below) refl

    waits : count_by waiting everyone + (n + m) ≡ cores s.board + k.pending
    waits =
        let both = sums (λ c. cond (waiting c) 1 0)
        (λ c. cond (is_gone (activity c)) 1 0 + cond (is_active (activity c)) 1 0)
        (λ c. 1 + cond (is_pending_status (status_at s.rows c)) 1 0) everyone
        (λ c. waiting_one (status_at s.rows c) (activity c) (agree c)) in
        let right = sums (λ c. 1) (λ c. cond (is_pending_status (status_at s.rows c)) 1 0)
        (λ c. 1 + cond (is_pending_status (status_at s.rows c)) 1 0) everyone (λ c. refl) in
        omega (
          arith,
          both,
          right,
          settled,
          e,
          f,
          counted,
          ones everyone,
          length-range_with_len 0 (cores s.board),
        )

    pub some_pending : 0 < k.pending → ltb 0 k.pending
        ≡ list_any waiting everyone
    some_pending h =
        lt-ltb 0 k.pending h
        ∙ sym (lt-ltb 0 (count_by waiting everyone) (omega (arith, waits, few_settled, e, f, h)))
        ∙ some_counted waiting everyone

    pub none_pending : (total : ℕ) → total ≡ cores s.board → k.pending ≤ 0
        → ltb (n + m) total ≡ list_any waiting everyone
    none_pending total t h =
        same_less (n + m) (count_by waiting everyone) total (omega (arith, waits, t, h))
        ∙ some_counted waiting everyone

-- What is counted of the cores below a domain, once one core has another status -------------------

-- Cores below a domain ---------------------------------------------------------------------------

at_most_one : (b : Bool) → cond b 1 0 ≤ 1
at_most_one true = omega arith
at_most_one false = omega arith

-- how many cores below pass a test
abbrev passing : (Status → Bool) → List (List ℕ) → (ℕ → Status) → Node → ℕ
passing passes levels status n = count_by (λ c. passes (status c)) (below_in levels n)

few_passing : (passes : Status → Bool) (levels : List (List ℕ)) (status : ℕ → Status) (n : Node)
    → IsTree levels → passing passes levels status n ≤ 256
few_passing passes levels status n t =
    let test : ℕ → Bool = λ c. place_above levels n.level c == n.place in
    let all : List ℕ = range_with_len 0 (size_below levels) in
    omega (
      arith,
      count_by-le-length (λ c. passes (status c)) (filter test all),
      length-filter test all,
      count_by-le-length test all,
      length-range_with_len 0 (size_below levels),
      size_few levels t,
    )

-- one core has another status than before
module _ (levels : List (List ℕ)) (old new : ℕ → Status) (core : ℕ)
    (inside : core < size_below levels)
    (same : (c : ℕ) → (c ≡ core → ⊥) → new c ≡ old c) (n : Node) where
  on_path : (passes : Status → Bool) → place_above levels n.level core ≡ n.place
      → passing passes levels new n + cond (passes (old core)) 1 0
      ≡ passing passes levels old n + cond (passes (new core)) 1 0
  on_path passes e =
      sum_on (λ c. cond (passes (new c)) 1 0) (λ c. cond (passes (old c)) 1 0)
      (λ c. place_above levels n.level c == n.place) (size_below levels) core inside
      (λ c q. ap (λ (s : Status). cond (passes s) 1 0) (same c q)) (eq-eqb _ _ e)

  off_path : (passes : Status → Bool) → (place_above levels n.level core ≡ n.place → ⊥)
      → passing passes levels new n ≡ passing passes levels old n
  off_path passes e =
      sum_off (λ c. cond (passes (new c)) 1 0) (λ c. cond (passes (old c)) 1 0)
      (λ c. place_above levels n.level c == n.place) (size_below levels) core inside
      (λ c q. ap (λ (s : Status). cond (passes s) 1 0) (same c q)) (ne_eqb _ _ e)

  -- a domain on its path is counted so anew
  pub recounted_on : place_above levels n.level core ≡ n.place
      → recounted (counts_below levels old n) (one_core (old core)) (one_core (new core))
      ≡ counts_below levels new n
  unfolding counts_below
  recounted_on e =
      let on : passing is_on levels old n + cond (is_on (new core)) 1 0
      - cond (is_on (old core)) 1 0 ≡ passing is_on levels new n =
      omega (arith, on_path is_on e) in
      let pending : passing is_pending_status levels old n
      + cond (is_pending_status (new core)) 1 0 - cond (is_pending_status (old core)) 1 0
      ≡ passing is_pending_status levels new n =
      omega (arith, on_path is_pending_status e) in
      λ i. record { on = on i; pending = pending i }

  pub may_recount : IsTree levels → place_above levels n.level core ≡ n.place
      → MayRecount (counts_below levels old n) (one_core (old core)) (one_core (new core))
  unfolding counts_below
  may_recount t e = record {
    on = omega (arith, on_path is_on e);
    pending = omega (arith, on_path is_pending_status e);
    few_on = omega (arith, few_passing is_on levels old n t, at_most_one (is_on (new core)));
    few_pending = omega (
      arith,
      few_passing is_pending_status levels old n t,
      at_most_one (is_pending_status (new core)),
    );
  }

  -- and any other as it was
  pub recounted_off : (place_above levels n.level core ≡ n.place → ⊥)
      → counts_below levels old n ≡ counts_below levels new n
  unfolding counts_below
  recounted_off e = λ i. record {
    on = sym (off_path is_on e) i;
    pending = sym (off_path is_pending_status e) i;
  }

-- No core ----------------------------------------------------------------------------------------

-- while every core is OFF, there is nothing to count
pub none_below : (levels : List (List ℕ)) (n : Node)
    → counts_below levels (λ c. Off) n ≡ no_cores
unfolding counts_below
none_below levels n =
    λ i. record { on = zeros (below_in levels n) i; pending = zeros (below_in levels n) i }
