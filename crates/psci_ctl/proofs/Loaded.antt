-- What is loaded, level by level.
use Rattle.std.specs.List.{filter, list_all, range_with_len, sum_by}
use Rattle.std.specs.Prelude.{nat_le}
use Rattle.std.proofs.Common.{◌&&◌, ◌++◌, ◌+◌, ◌-◌, ◌<◌, ◌==◌, ◌∙◌, ◌∷◌, ◌≡◌, ◌≤◌, [], ap, arith}
use Rattle.std.proofs.Common.{Bool, drop, false, flat_map, get_or, inl, inr, length, List, refl}
use Rattle.std.proofs.Common.{Some, subst, suc, sum, sym, take, zero, ℕ}
use Rattle.std.proofs.Math.ListN.{length-set, set}
use Rattle.std.proofs.lemmas.Bool.{cases_eq, cases_lt, ltb-true, ne_eqb}
use Rattle.std.proofs.lemmas.Grind.{flat_map-append}
use Rattle.std.proofs.lemmas.List.{append-nil, append_assoc, drop_more, get_or-set_other}
use Rattle.std.proofs.lemmas.List.{get_or-set_same, get_or_past, take-append-drop, take_more_set}
use Rattle.std.proofs.lemmas.List.Concat.{flat_map-cons}
use Rattle.std.proofs.lemmas.List.Sums.{sum_by-cons}
use Rattle.std.proofs.lemmas.Option.{cond_some}
use Rattle.psci_board.specs.Board.{BoardValue, child, ChildLaws, children, children_at, cores}
use Rattle.psci_board.specs.Board.{cores_below, first_child, has_node, HasNode, height, nodes}
use Rattle.psci_board.specs.Board.{PathLaws, size_below, span, SpanLaws, up}
use Rattle.psci_board.specs.declared.draft.Node.{Node}
use Rattle.psci_board.specs.declared.span.CoreSpan.{CoreSpan}
use Rattle.psci_ctl_spec.specs.Values.{starts_below}
use Rattle.psci_ctl.specs.Rows.{core_row, domain_at, HasRows, HasSums, off_core, off_domain}
use Rattle.psci_ctl.specs.Saved.{depths, level_sizes}
use Rattle.psci_ctl.specs.declared.level.DomainRow.{DomainRow}
use Rattle.psci_ctl.specs.declared.row.CoreRow.{CoreRow}

-- The children of a domain, which stand side by side ----------------------------------------------

-- rows that stand side by side are deep where those of their places are
pub all_rows : (rows : List DomainRow) (least a n : ℕ) → a + n ≤ length rows
    → list_all (λ (r : DomainRow). nat_le least r.depth) (take n (drop a rows))
    ≡ list_all (λ p. nat_le least (get_or rows p off_domain).depth) (range_with_len a n)
all_rows rows least a zero h = refl
all_rows rows least a (suc n) h =
    ap (λ (ds : List DomainRow). list_all (λ (r : DomainRow). nat_le least r.depth)
    (take (suc n) ds)) (drop_more rows a off_domain (omega (arith, h)))
    ∙ ap (λ t. nat_le least (get_or rows a off_domain).depth && t)
    (all_rows rows least (a + 1) n (omega (arith, h)))

abbrev at_place : ℕ → ℕ → Node
at_place level place = record { level = level; place = place }

-- the first child, where there is one
pub first_is : (b : BoardValue) (n m : Node) → child b n 0 ≡ Some m → (0 < children b n)
    × (m ≡ record { level = n.level - 1; place = first_child b n.level n.place })
first_is b n m e =
    let is = cond_some _ _ _ e in
    let first : ℕ = first_child b n.level n.place in
    let place : first + 0 ≡ first = omega arith in (
      ltb-true _ _ is.0,
      sym is.1 ∙ ap (at_place (n.level - 1)) place,
    )

-- the rows of its children are there
pub rows_fit : {b : BoardValue} {levels : List (List DomainRow)} (n m : Node) → ChildLaws b
    → HasNode b n → HasRows b levels → child b n 0 ≡ Some m
    → m.place + children b n ≤ length (get_or levels m.level [])
rows_fit {b} {levels} n m laws node shape e =
    let is = first_is b n m e in
    let up : suc m.level ≡ n.level = omega (arith, laws.child_level n m 0 e) in
    let low : m.level < height b = omega (arith, up, node.level) in
    let some : 0 < children_at b (suc m.level) n.place =
    subst (λ l. 0 < children_at b l n.place) (sym up) is.0 in
    let last : first_child b n.level n.place + (children b n - 1) < nodes b m.level =
    subst (λ l. first_child b l n.place + (children_at b l n.place - 1) < nodes b m.level) up
    (laws.inside m.level n.place (children_at b (suc m.level) n.place - 1) low
    (omega (arith, some))) in
    omega (
      arith,
      is.0,
      last,
      ap (λ (x : Node). x.place) is.1,
      shape.places m.level (omega (arith, low)),
    )

-- Loaded ------------------------------------------------------------------------------------------

-- Sums ---------------------------------------------------------------------------------------

abbrev own : CoreRow → ℕ
own row = row.starts

-- the starts of cores that stand side by side
pub sum_rows : (rows : List CoreRow) (a n : ℕ) → a + n ≤ length rows
    → sum_by own (take n (drop a rows))
    ≡ sum_by (λ c. (core_row rows c).starts) (range_with_len a n)
sum_rows rows a zero h = refl
sum_rows rows a (suc n) h =
    ap (λ (rs : List CoreRow). sum_by own (take (suc n) rs))
    (drop_more rows a off_core (omega (arith, h)))
    ∙ sum_by-cons own (core_row rows a) (take n (drop (a + 1) rows))
    ∙ ap (λ s. (core_row rows a).starts + s) (sum_rows rows (a + 1) n (omega (arith, h)))
    ∙ sym (sum_by-cons (λ c. (core_row rows c).starts) a (range_with_len (a + 1) n))

abbrev starts_of : List CoreRow → ℕ → ℕ
starts_of rows c = (core_row rows c).starts

span_is : (b : BoardValue) (n : Node) (s : CoreSpan) → Some s ≡ cores_below b n
    → span b.levels n ≡ s
span_is b n s e = (cond_some (has_node b n) (span b.levels n) s (sym e)).1

-- the span of a domain lies in the rows
pub span_inside : (b : BoardValue) (rows : List CoreRow) (n : Node) (s : CoreSpan)
    → SpanLaws b.levels → HasNode b n → length rows ≡ cores b → Some s ≡ cores_below b n
    → s.first + s.count ≤ length rows
span_inside b rows n s laws node count e =
    subst (λ (x : CoreSpan). x.first + x.count ≤ length rows) (span_is b n s e)
    (omega (arith, laws.inside n node, count))

-- the starts in the rows of a domain's span are those of the cores below
pub below_is : (b : BoardValue) (rows : List CoreRow) (n : Node) (s : CoreSpan)
    → SpanLaws b.levels → HasNode b n → length rows ≡ cores b → Some s ≡ cores_below b n
    → sum_by own (take s.count (drop s.first rows)) ≡ starts_below b (starts_of rows) n
unfolding starts_below
below_is b rows n s laws node count e =
    sum_rows rows s.first s.count (span_inside b rows n s laws node count e)
    ∙ ap (λ (x : CoreSpan). sum_by (starts_of rows) (range_with_len x.first x.count))
    (sym (span_is b n s e))
    ∙ ap (λ cs. sum_by (starts_of rows) cs) (sym (laws.cores n node))

none_found : (p : ℕ → Bool) (a n : ℕ) → ((c : ℕ) → c < a + n → p c ≡ false)
    → filter p (range_with_len a n) ≡ []
none_found p a zero h = refl
none_found p a (suc n) h =
    rw (h a (omega arith)) (none_found p (a + 1) n (λ c low. h c (omega (arith, low))))

-- a domain that the board does not have has no core below
pub no_sum : (b : BoardValue) (starts : ℕ → ℕ) (level place : ℕ) → PathLaws b → level ≤ height b
    → nodes b level ≤ place
    → starts_below b starts (record { level = level; place = place }) ≡ 0
unfolding starts_below up
no_sum b starts level place laws low beyond =
    ap (λ cs. sum_by starts cs) (none_found (λ c. up b level c == place) 0 (cores b)
    (λ c inside. ne_eqb (up b level c) place
    (λ e. omega (arith, laws.inside c level (omega (arith, inside)) low, beyond, e))))

-- Levels -------------------------------------------------------------------------------------

pub sizes_many : (levels : List (List ℕ)) → length (level_sizes levels) ≡ length levels + 1
sizes_many [] = refl
sizes_many (w ∷ ws) = omega (arith, sizes_many ws)

pub size_at : (levels : List (List ℕ)) (level : ℕ) → level ≤ length levels
    → get_or (level_sizes levels) level 0 ≡ size_below (drop level levels)
size_at [] zero h = refl
size_at [] (suc level) h = omega (arith, h)
size_at (w ∷ ws) zero h = refl
size_at (w ∷ ws) (suc level) h = size_at ws level (omega (arith, h))

-- so many words are left for a level, and for those above it
pub level_left : (b : BoardValue) (k left : ℕ) → k ≤ height b
    → left ≡ sum (drop k (level_sizes b.levels))
    → left ≡ nodes b k + sum (drop (k + 1) (level_sizes b.levels))
level_left b k left low is =
    is
    ∙ ap (λ xs. sum xs) (drop_more (level_sizes b.levels) k 0
    (omega (arith, low, sizes_many b.levels)))
    ∙ sum_by-cons (λ x. x) (get_or (level_sizes b.levels) k 0)
    (drop (k + 1) (level_sizes b.levels))
    ∙ ap (λ n. n + sum (drop (k + 1) (level_sizes b.levels))) (size_at b.levels k low)

-- the words so far, with those of one level more
pub level_words : (k n : ℕ) (ds : List (List DomainRow)) (row : List DomainRow)
    (rest words : List ℕ) → k < length ds
    → flat_map depths (take k ds) ++ rest ≡ words → depths row ≡ take n rest
    → flat_map depths (take (k + 1) (set ds k row)) ++ drop n rest ≡ words
level_words k n ds row rest words low before is =
    let done = flat_map depths (take k ds) in
    ap (λ es. flat_map depths es ++ drop n rest) (take_more_set ds k row low)
    ∙ ap (λ xs. xs ++ drop n rest) (flat_map-append depths (take k ds) (row ∷ []))
    ∙ ap (λ xs. (done ++ xs) ++ drop n rest)
    (flat_map-cons depths row [] ∙ append-nil (depths row) ∙ is)
    ∙ append_assoc done (take n rest) (drop n rest)
    ∙ ap (λ xs. done ++ xs) (take-append-drop n rest)
    ∙ before

-- a level of as many domains keeps the shape
pub level_shape : (b : BoardValue) (k : ℕ) (ds : List (List DomainRow)) (row : List DomainRow)
    → k ≤ height b → HasRows b ds → length row ≡ nodes b k → HasRows b (set ds k row)
level_shape b k ds row low shape is = record {
  levels = length-set ds k row ∙ shape.levels;
  places = λ m h. elim (cases_eq m k) [
    | inl e ↦ ap (λ j. length (get_or (set ds k row) j [])) e
        ∙ ap (λ (xs : List DomainRow). length xs)
        (get_or-set_same ds k row [] (omega (arith, low, shape.levels)))
        ∙ is ∙ ap (λ j. nodes b j) (sym e)
    | inr e ↦ ap (λ (xs : List DomainRow). length xs) (get_or-set_other ds k m row [] e)
        ∙ shape.places m h
  ];
}

-- the sums of the levels so far, with those of one more
pub level_sums : (b : BoardValue) (rows : List CoreRow) (k : ℕ) (ds : List (List DomainRow))
    (row : List DomainRow) → k < length ds
    → ((m p : ℕ) → m < k → p < nodes b m → (domain_at ds m p).starts
    ≡ starts_below b (starts_of rows) (record { level = m; place = p }))
    → ((p : ℕ) → p < nodes b k → (get_or row p off_domain).starts
    ≡ starts_below b (starts_of rows) (record { level = k; place = p }))
    → (m p : ℕ) → m < k + 1 → p < nodes b m → (domain_at (set ds k row) m p).starts
    ≡ starts_below b (starts_of rows) (record { level = m; place = p })
level_sums b rows k ds row low before new m p h inside = elim (cases_eq m k) [
  | inl e ↦
      ap (λ j. (domain_at (set ds k row) j p).starts) e
      ∙ ap (λ (xs : List DomainRow). (get_or xs p off_domain).starts)
      (get_or-set_same ds k row [] low)
      ∙ new p (subst (λ j. p < nodes b j) e inside)
      ∙ ap (λ j. starts_below b (starts_of rows) (record { level = j; place = p })) (sym e)
  | inr e ↦
      ap (λ (xs : List DomainRow). (get_or xs p off_domain).starts)
      (get_or-set_other ds k m row [] e)
      ∙ before m p (omega (arith, h, e)) inside
]

-- all sums, where those of the board's domains are right
pub all_sums : (b : BoardValue) (rows : List CoreRow) (ds : List (List DomainRow)) → PathLaws b
    → HasRows b ds
    → ((m p : ℕ) → m < height b + 1 → p < nodes b m → (domain_at ds m p).starts
    ≡ starts_below b (starts_of rows) (record { level = m; place = p }))
    → HasSums b rows ds
all_sums b rows ds laws shape are = record {
  sums = λ m p low. elim (cases_lt p (nodes b m)) [
    | inl h ↦ are m p (omega (arith, low)) h
    | inr h ↦ ap (λ (d : DomainRow). d.starts)
        (get_or_past (get_or ds m []) p off_domain (omega (arith, shape.places m low, h)))
        ∙ sym (no_sum b (starts_of rows) m p laws low h)
  ];
}
