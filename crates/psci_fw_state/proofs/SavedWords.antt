-- The words of rows tell them, and are the words of rows.
use Rattle.std.specs.List.{count_by, list_all}
use Rattle.std.specs.Prelude.{nat_le}
use Rattle.std.proofs.Common.{◌*◌, ◌++◌, ◌+◌, ◌<◌, ◌==◌, ◌∙◌, ◌∷◌, ◌≡◌, ◌≤◌, []}
use Rattle.std.proofs.Common.{ap, arith, Bool, cond, drop, false}
use Rattle.std.proofs.Common.{flat_map, get_or, length, List, map, None, Option, refl}
use Rattle.std.proofs.Common.{Some, subst, sym, take, true, ℕ}
use Rattle.std.proofs.Math.Seq.{drop-append_seam, take-append_seam}
use Rattle.std.proofs.lemmas.Bool.{and_from, le-leb, lt-ltb}
use Rattle.std.proofs.lemmas.List.{length-append}
use Rattle.std.proofs.lemmas.List.Concat.{flat_map-cons}
use Rattle.std.proofs.lemmas.List.FromFn.{length-range_with_len}
use Rattle.std.proofs.lemmas.Option.{none-some}
use Rattle.psci_board.specs.Board.{below_in, BoardValue, cores, cores_below, domain_of, has_node}
use Rattle.psci_board.specs.Board.{HasNode, HasNodeIn, height, span, SpanLaws, up}
use Rattle.psci_board.specs.declared.draft.Node.{Node}
use Rattle.psci_board.specs.declared.span.CoreSpan.{CoreSpan}
use Rattle.psci_board.proofs.Paths.{inside as place_inside}
use Rattle.psci_state.specs.PowerState.{least}
use Rattle.psci_tree.specs.Recount.{ask_at, granted_at, is_away_at, low, off, TreeValue}
use Rattle.psci_tree.specs.Standing.{on_path}
use Rattle.psci_tree.proofs.Ranges.{all_counted, counted_both}
use Rattle.psci_messages.specs.View.{is_all_away, least_ask, PowerView}
use Rattle.psci_fw_spec.specs.PowerCalls.{status_code}
use Rattle.psci_fw_spec.specs.Invariant.{view}
use Rattle.psci_fw_spec.specs.declared.opening.Opening.{Opening}
use Rattle.psci_fw_spec.specs.declared.status.Status.{Status}
use Rattle.psci_fw_spec.specs.declared.status.Status.TheVariants.{Off, On, Pending}
use Rattle.psci_fw_state.specs.Saved.{are_rows, opening_of, opening_words, row_words}
use Rattle.psci_fw_state.specs.Saved.{status_of}
use Rattle.psci_fw_state.specs.Seen.{IsState, StateValue, values_in}
use Rattle.psci_fw_state.specs.Sound.{is_depth, is_domain_awake}
use Rattle.psci_fw_state.specs.declared.row.CoreRow.{CoreRow}
use Rattle.psci_fw_state.proofs.KeptCounts.{viewed}

-- One row ------------------------------------------------------------------------------------

row_long : (row : CoreRow) → length (row_words row) ≡ 4
row_long row = opening_long row.opening
  where
    opening_long : (o : Option Opening) → length (status_code row.status ∷ opening_words o) ≡ 4
    opening_long None = refl
    opening_long (Some o) = refl

pub many_rows : (rows : List CoreRow) → length (flat_map row_words rows) ≡ 4 * length rows
many_rows [] = refl
many_rows (row ∷ rows) =
    ap (λ xs. length xs) (flat_map-cons row_words row rows)
    ∙ length-append (row_words row) (flat_map row_words rows)
    ∙ omega (arith, row_long row, many_rows rows)

-- What is told -------------------------------------------------------------------------------

status_told : (s : Status) → status_of (status_code s) ≡ s
status_told On = refl
status_told Off = refl
status_told Pending = refl

-- the row of these words
row_of : List ℕ → CoreRow
row_of ws = record {
  status = status_of (get_or ws 0 0);
  opening = opening_of (get_or ws 1 0) (get_or ws 2 0) (get_or ws 3 0);
}

opening_told : (o : Option Opening) (s : ℕ)
    → opening_of (get_or (s ∷ opening_words o) 1 0) (get_or (s ∷ opening_words o) 2 0)
    (get_or (s ∷ opening_words o) 3 0) ≡ o
opening_told None s = refl
opening_told (Some o) s = refl

row_told : (row : CoreRow) → row_of (row_words row) ≡ row
unfolding row_of
row_told row =
    ap (λ s. record {
      status = s;
      opening = opening_of (get_or (row_words row) 1 0) (get_or (row_words row) 2 0)
          (get_or (row_words row) 3 0);
    }) (status_told row.status)
    ∙ ap (λ o. record { status = row.status; opening = o })
    (opening_told row.opening (status_code row.status))

front : (row : CoreRow) (ws : List ℕ) → take 4 (row_words row ++ ws) ≡ row_words row
front row ws =
    ap (λ n. take n (row_words row ++ ws)) (sym (row_long row))
    ∙ take-append_seam (row_words row) ws

back : (row : CoreRow) (ws : List ℕ) → drop 4 (row_words row ++ ws) ≡ ws
back row ws =
    ap (λ n. drop n (row_words row ++ ws)) (sym (row_long row))
    ∙ drop-append_seam (row_words row) ws

-- as many rows with the same words are the same
pub rows_told : (rows others : List CoreRow) → length rows ≡ length others
    → flat_map row_words rows ≡ flat_map row_words others → rows ≡ others
rows_told [] [] n e = refl
rows_told [] (o ∷ os) n e = absurd (omega (arith, n))
rows_told (r ∷ rs) [] n e = absurd (omega (arith, n))
rows_told (r ∷ rs) (o ∷ os) n e =
    let both : row_words r ++ flat_map row_words rs ≡ row_words o ++ flat_map row_words os =
    sym (flat_map-cons row_words r rs) ∙ e ∙ flat_map-cons row_words o os in
    let first : r ≡ o =
    sym (row_told r)
    ∙ ap row_of (sym (front r (flat_map row_words rs)) ∙ ap (λ ws. take 4 ws) both
    ∙ front o (flat_map row_words os))
    ∙ row_told o in
    let rest : rs ≡ os =
    rows_told rs os (omega (arith, n))
    (sym (back r (flat_map row_words rs)) ∙ ap (λ ws. drop 4 ws) both
    ∙ back o (flat_map row_words os)) in
    ap (λ x. x ∷ rs) first ∙ ap (λ xs. o ∷ xs) rest

status_few : (s : Status) → nat_le (status_code s) 2 ≡ true
status_few On = refl
status_few Off = refl
status_few Pending = refl

row_good : (row : CoreRow) (ws : List ℕ) → are_rows ws ≡ true
    → are_rows (row_words row ++ ws) ≡ true
row_good row ws h = good row.opening
  where
    good : (o : Option Opening) → are_rows ((status_code row.status ∷ opening_words o) ++ ws) ≡ true
    good None = and_from _ _ (and_from _ _ (status_few row.status) refl) h
    good (Some o) = and_from _ _ (and_from _ _ (status_few row.status) refl) h

pub rows_good : (rows : List CoreRow) → are_rows (flat_map row_words rows) ≡ true
rows_good [] = refl
rows_good (row ∷ rows) =
    ap are_rows (flat_map-cons row_words row rows)
    ∙ row_good row (flat_map row_words rows) (rows_good rows)

-- What is tested of the domains on the path of a core, by what the tree and the rows hold ---------

-- Below a domain ---------------------------------------------------------------------------------

same_rest : (n m total : ℕ) → n + m ≡ total → (n == total) ≡ (m == 0)
same_rest n m total e = grind arith

-- the count of those that pass is all of them exactly where each one counts
count_all : (p : ℕ → Bool) (xs : List ℕ) → (count_by p xs == length xs) ≡ list_all p xs
count_all p xs = same_rest _ _ _ (counted_both p xs) ∙ sym (all_counted p xs)

pub all_away : (s : StateValue) (n : Node) (k m : ℕ) → IsState s → SpanLaws s.board.levels
    → HasNode s.board n → k ≡ off s.tree n → m ≡ (span s.board.levels n).count
    → (k == m) ≡ is_all_away s.board (view s.board (values_in s)) n
unfolding off is_all_away
all_away s n k m is laws has e f =
    let below = below_in s.board.levels n in
    let many : length below ≡ (span s.board.levels n).count =
    ap (λ (xs : List ℕ). length xs) (laws.cores n has) ∙ length-range_with_len _ _ in
    ap (λ i. i == m) (e ∙ ap (λ ls. count_by (λ c. is_away_at s.tree c) (below_in ls n)) is.levels)
    ∙ ap (λ i. count_by (λ c. is_away_at s.tree c) below == i) (f ∙ sym many)
    ∙ count_all (λ c. is_away_at s.tree c) below
    ∙ ap (λ (v : PowerView). list_all v.is_away below) (viewed s is)

pub low_least : (s : StateValue) (n : Node) → IsState s
    → low s.tree n n.level ≡ least_ask s.board (view s.board (values_in s)) n
unfolding low least_ask
low_least s n is =
    ap (λ ls. least (map (λ c. ask_at s.tree c n.level) (below_in ls n))) is.levels
    ∙ ap (λ (v : PowerView). least (map (λ c. v.ask c n.level) (below_in s.board.levels n)))
    (viewed s is)

-- The span of a domain ---------------------------------------------------------------------------

span_in : CoreSpan → Option CoreSpan → CoreSpan
span_in d None = d
span_in d (Some x) = x

pub span_of : (b : BoardValue) (n : Node) (x : CoreSpan) → Some x ≡ cores_below b n
    → x ≡ span b.levels n
unfolding span_in
span_of b n x e = by (has_node b n) e
  where
    by : (t : Bool) → Some x ≡ cond t (Some (span b.levels n)) None → x ≡ span b.levels n
    by true f = ap (span_in x) f
    by false f = absurd (none-some x (sym f))

pub has_span : (b : BoardValue) (n : Node) → HasNode b n → None ≡ cores_below b n → ⊥
has_span b n has e =
    let there : has_node b n ≡ true =
    and_from _ _ (le-leb _ _ has.level) (lt-ltb _ _ has.place) in
    none-some (span b.levels n) (e ∙ ap (λ t. cond t (Some (span b.levels n)) None) there)

-- A domain on the path of a core -----------------------------------------------------------------

module _ (s : StateValue) (c level : ℕ) (is : IsState s) (inside : c < cores s.board)
    (low_level : level ≤ height s.board) (t : TreeValue) (tree : t ≡ s.tree) (n : Node)
    (e : n ≡ on_path t.levels c level) where
  here : n ≡ domain_of s.board c level
  unfolding up
  here =
      e
      ∙ ap (λ (x : TreeValue). on_path x.levels c level) tree
      ∙ ap (λ ls. on_path ls c level) is.levels

  -- it is one of the board's
  pub node_here : HasNode s.board n
  unfolding up
  node_here =
      subst (HasNode s.board) (sym here) (record {
        level = low_level;
        place = place_inside s.board.levels level c is.board.tree inside low_level;
      })

  -- and so one of the tree's
  pub node_in : (u : TreeValue) → u ≡ s.tree → HasNodeIn u.levels n
  node_in u same =
      subst (λ ls. HasNodeIn ls n)
      (sym (ap (λ (x : TreeValue). x.levels) same ∙ is.levels)) node_here

  -- what it is granted is what is looked at
  pub depth_here : (u w : TreeValue) (granted asked : ℕ) (away : Bool) → u ≡ s.tree → w ≡ s.tree
      → granted ≡ granted_at u n.level n.place → asked ≡ low w n level
      → away ≡ is_all_away s.board (view s.board (values_in s)) n
      → is_depth s.mode away asked granted ≡ is_domain_awake s.board (values_in s) c level
  unfolding values_in
  depth_here u w granted asked away same other g a f =
      let m = domain_of s.board c level in
      let granted_is : granted ≡ granted_at s.tree level m.place =
      g
      ∙ ap (λ (x : TreeValue). granted_at x n.level n.place) same
      ∙ ap (λ (k : Node). granted_at s.tree k.level k.place) here in
      let asked_is : asked ≡ least_ask s.board (view s.board (values_in s)) m =
      a
      ∙ ap (λ (x : TreeValue). low x n level) other
      ∙ ap (λ k. low s.tree k level) here
      ∙ low_least s m is in
      let away_is : away ≡ is_all_away s.board (view s.board (values_in s)) m =
      f ∙ ap (is_all_away s.board (view s.board (values_in s))) here in
      λ i. is_depth s.mode (away_is i) (asked_is i) (granted_is i)
