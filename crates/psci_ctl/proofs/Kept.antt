-- What a power controller keeps after each change is such as one keeps.
use Rattle.std.specs.Prelude.{nat_lt}
use Rattle.std.proofs.Common.{◌&&◌, ◌+◌, ◌<◌, ◌==◌, ◌^◌, ◌∙◌, ◌∷◌, ◌≡◌, ◌≤◌, [], ap, arith, Bool}
use Rattle.std.proofs.Common.{cond, false, get_or, inl, inr, length, List, Option, refl}
use Rattle.std.proofs.Common.{replicate, Some, subst, suc, sym, true, zero, ℕ}
use Rattle.std.proofs.Math.ListN.{length-set, set}
use Rattle.std.proofs.lemmas.Bool.{and_parts, cases_eq, cases_lt, eq-eqb, eqb-true, le-leb}
use Rattle.std.proofs.lemmas.Bool.{le-ltb, lt-ltb, ne_eqb}
use Rattle.std.proofs.lemmas.List.{get_or-set_other, get_or-set_same}
use Rattle.psci_board.specs.Board.{BoardValue, cores, height, is_on_path, IsBoard, up}
use Rattle.psci_board.specs.declared.draft.TheConstants.{MOST_CORES}
use Rattle.psci_board.specs.declared.draft.Node.{Node}
use Rattle.psci_messages.specs.declared.start.Cause.{Cause}
use Rattle.psci_messages.specs.declared.start.Cause.TheVariants as causes
use Rattle.psci_ctl_spec.specs.Replies.{Begins, change, Effect, Ends, next_life, one_more}
use Rattle.psci_ctl_spec.specs.Replies.{Starts, with_cause, with_start}
use Rattle.psci_ctl_spec.specs.History.{AreValues, MayFollow, SumLaws}
use Rattle.psci_ctl_spec.specs.Values.{start_of_life, starts_below, Values}
use Rattle.psci_ctl_spec.proofs.Steps.{same_values}
use Rattle.psci_ctl.specs.Rows.{AreRows, core_row, depth_in, domain_at, HasRows, HasSums}
use Rattle.psci_ctl.specs.Rows.{off_core, off_domain, path_on_below, path_on_once, values_in}
use Rattle.psci_ctl.specs.Rows.{with_core}
use Rattle.psci_ctl.specs.Seen.{ControllerValue, IsController}
use Rattle.psci_ctl.specs.declared.level.DomainRow.{DomainRow}
use Rattle.psci_ctl.specs.declared.row.CoreRow.{CoreRow}

-- Rows by look-up: what a written row leaves of each ----------------------------------------------

-- the rows with one domain's written
abbrev pub set_row : List (List DomainRow) → ℕ → ℕ → DomainRow → List (List DomainRow)
set_row ds l p row = set ds l (set (get_or ds l []) p row)

at_set : (rs : List DomainRow) (p q : ℕ) (row : DomainRow) → p < length rs
    → get_or (set rs p row) q off_domain ≡ cond (q == p) row (get_or rs q off_domain)
at_set rs p q row h = grind (arith, get_or-set_same, get_or-set_other, cases_eq q p)

pub domain_set : (ds : List (List DomainRow)) (l p m q : ℕ) (row : DomainRow) → l < length ds
    → p < length (get_or ds l [])
    → domain_at (set_row ds l p row) m q
    ≡ cond (m == l && q == p) row (domain_at ds m q)
domain_set ds l p m q row h i = elim (cases_eq m l) [
  | inl e ↦ rw (eq-eqb m l e, e, get_or-set_same ds l (set (get_or ds l []) p row) [] h)
      (at_set (get_or ds l []) p q row i)
  | inr e ↦ rw (ne_eqb m l e, get_or-set_other ds l m (set (get_or ds l []) p row) [] e) refl
]

row_length : (ds : List (List DomainRow)) (l p m : ℕ) (row : DomainRow)
    → length (get_or (set_row ds l p row) m []) ≡ length (get_or ds m [])
row_length [] l p m row = refl
row_length (d ∷ ds) zero p zero row = length-set d p row
row_length (d ∷ ds) zero p (suc m) row = refl
row_length (d ∷ ds) (suc l) p zero row = refl
row_length (d ∷ ds) (suc l) p (suc m) row = row_length ds l p m row

pub shape_set : (b : BoardValue) (ds : List (List DomainRow)) (l p : ℕ) (row : DomainRow)
    → HasRows b ds → HasRows b (set_row ds l p row)
shape_set b ds l p row shape = record {
  levels = length-set ds l (set (get_or ds l []) p row) ∙ shape.levels;
  places = λ m low. row_length ds l p m row ∙ shape.places m low;
}

pub core_set : (cs : List CoreRow) (c k : ℕ) (row : CoreRow) → c < length cs
    → core_row (set cs c row) k ≡ with_core cs c row k
core_set cs c k row h = grind (arith, get_or-set_same, get_or-set_other, cases_eq k c)

-- Powered down -------------------------------------------------------------------------------

pub off_core_row : (n k : ℕ) → core_row (replicate n off_core) k ≡ off_core
off_core_row zero k = refl
off_core_row (suc n) zero = refl
off_core_row (suc n) (suc k) = off_core_row n k

-- Paths --------------------------------------------------------------------------------------

-- at a level that was not reached, nothing ran
not_yet : (b : BoardValue) (c k : ℕ) (old : List (List DomainRow)) (l p : ℕ) → k ≤ l
    → path_on_below b c old k l p ≡ domain_at old l p
not_yet b c k old l p h =
    ap (λ t. cond (t && is_on_path b c l p) (path_on_once (domain_at old l p)) (domain_at old l p))
    (le-ltb l k h)

-- at a level that was reached, the path is fully on
reached : (b : BoardValue) (c k : ℕ) (old : List (List DomainRow)) (l p : ℕ) (t : Bool) → l < k
    → is_on_path b c l p ≡ t
    → path_on_below b c old k l p ≡ cond t (path_on_once (domain_at old l p)) (domain_at old l p)
reached b c k old l p t h e =
    ap (λ s. cond (s && is_on_path b c l p) (path_on_once (domain_at old l p)) (domain_at old l p))
    (lt-ltb l k h)
    ∙ ap (λ s. cond s (path_on_once (domain_at old l p)) (domain_at old l p)) e

path_test : (b : BoardValue) (c k p : ℕ) → k ≤ height b
    → is_on_path b c k p ≡ (up b k c == p)
path_test b c k p low = ap (λ s. s && up b k c == p) (le-leb k (height b) low)

pub both_true : (l k p q : ℕ) → l ≡ k → p ≡ q → (l == k && p == q) ≡ true
both_true l k p q e f = rw (eq-eqb l k e, eq-eqb p q f) refl

pub both_false : (l k p q : ℕ) → l ≡ k → (p ≡ q → ⊥) → (l == k && p == q) ≡ false
both_false l k p q e f = rw (eq-eqb l k e, ne_eqb p q f) refl

-- one more level of a path
pub run_more : (b : BoardValue) (c k : ℕ) (old now new : List (List DomainRow)) (row : DomainRow)
    → k ≤ height b
    → ((l p : ℕ) → domain_at now l p ≡ path_on_below b c old k l p)
    → row ≡ path_on_once (domain_at now k (up b k c))
    → ((l p : ℕ) → domain_at new l p ≡ cond (l == k && p == up b k c) row (domain_at now l p))
    → (l p : ℕ) → domain_at new l p ≡ path_on_below b c old (k + 1) l p
run_more b c k old now new row low before is written l p = elim (cases_eq l k) [
  | inl e ↦ elim (cases_eq p (up b k c)) [
    | inl f ↦ written l p
        ∙ (rw (both_true l k p (up b k c) e f, e, f) (is
        ∙ ap path_on_once (before k (up b k c) ∙ not_yet b c k old k (up b k c) (omega arith))))
        ∙ sym (reached b c (k + 1) old l p true (omega (arith, e))
        (ap (λ m. is_on_path b c m p) e ∙ path_test b c k p low ∙ eq-eqb (up b k c) p (sym f)))
    | inr f ↦ written l p
        ∙ (rw (both_false l k p (up b k c) e f) (before l p ∙ not_yet b c k old l p
        (omega (arith, e))))
        ∙ sym (reached b c (k + 1) old l p false (omega (arith, e))
        (ap (λ m. is_on_path b c m p) e ∙ path_test b c k p low
        ∙ ne_eqb (up b k c) p (λ q. f (sym q))))
  ]
  | inr e ↦ written l p
      ∙ ap (λ t. cond (t && p == up b k c) row (domain_at now l p)) (ne_eqb l k e)
      ∙ before l p
      ∙ elim (cases_lt l k) [
        | inl h ↦ reached b c k old l p (is_on_path b c l p) h refl
            ∙ sym (reached b c (k + 1) old l p (is_on_path b c l p) (omega arith) refl)
        | inr h ↦ not_yet b c k old l p h
            ∙ sym (not_yet b c (k + 1) old l p (omega (arith, e)))
      ]
]

-- a whole path: the domains above the board's height are on no path
pub run_whole : (b : BoardValue) (c : ℕ) (old : List (List DomainRow)) (l p : ℕ)
    → path_on_below b c old (height b + 1) l p
    ≡ cond (is_on_path b c l p) (path_on_once (domain_at old l p)) (domain_at old l p)
run_whole b c old l p = grind arith

-- Kept --------------------------------------------------------------------------------------------

-- a power controller with these rows
abbrev pub whole : BoardValue → Option ℕ → List CoreRow → List (List DomainRow) → ControllerValue
whole b life cs ds = record { board = b; life = life; cores = cs; domains = ds }

-- values as they are kept stay so over each effect that may follow them
abbrev pub Keeps : Type 0
Keeps = (b : BoardValue) (v : Values) (e : Effect) → IsBoard b → AreValues b v → MayFollow b v e
    → AreValues b (change b e v)

pub started_kept : (b : BoardValue) (o : Option ℕ) (life c : ℕ) (cause : Cause)
    (cs new_cs : List CoreRow) (ds new_ds : List (List DomainRow)) → Keeps
    → IsController (whole b o cs ds) → o ≡ Some life → c < cores b
    → (core_row cs c).starts < b.starts → AreRows b new_cs new_ds
    → ((l : Option ℕ) → values_in l new_cs new_ds ≡ with_start b c cause (values_in l cs ds))
    → IsController (whole b o new_cs new_ds)
started_kept b o life c cause cs new_cs ds new_ds keeps is here inside more rows values =
    record {
      board = is.board;
      cores = rows.cores;
      shape = rows.shape;
      values = subst (AreValues b) (sym (values o))
          (keeps b (values_in o cs ds) (Starts c cause) is.board is.values
          (inside, more, (life, here)));
      sums = λ l e. rows.sums;
    }

pub begun_kept : (b : BoardValue) (life : ℕ) (cs : List CoreRow) (ds : List (List DomainRow))
    → IsBoard b → AreValues b (record (start_of_life b) { life = Some life })
    → AreRows b cs ds
    → ((l : Option ℕ) → values_in l cs ds ≡ record (start_of_life b) { life = l })
    → IsController (whole b (Some life) cs ds)
begun_kept b life cs ds board are rows values = record {
  board = board;
  cores = rows.cores;
  shape = rows.shape;
  values = subst (AreValues b) (sym (values (Some life))) are;
  sums = λ l e. rows.sums;
}

-- a started core has one start more
pub next_number : (b : BoardValue) (v : Values) (c : ℕ) (cause : Cause)
    → (with_start b c cause v).starts c ≡ v.starts c + 1
next_number b v c cause = ap (λ t. cond t (v.starts c + 1) (v.starts c)) (eq-eqb c c refl)

-- the next life begins as the first one did
pub next_kept : (b : BoardValue) (v : Values) (life : ℕ) → Keeps → IsBoard b → AreValues b v
    → v.life ≡ Some life → life < b.lives
    → AreValues b (record (start_of_life b) { life = Some (life + 1) })
next_kept b v life keeps board are here low =
    subst (λ (o : Option ℕ). AreValues b (record (start_of_life b) { life = o }))
    (ap next_life here) (keeps b v Begins board are (life, here, low))

pub next_values : (b : BoardValue) (v : Values) (life : ℕ) → v.life ≡ Some life → life < b.lives
    → record (start_of_life b) { life = Some (life + 1) }
    ≡ change b (cond (nat_lt life b.lives) Begins Ends) v
next_values b v life here low =
    sym (ap (λ t. change b (cond t Begins Ends) v) (lt-ltb life b.lives low)
    ∙ ap (λ (o : Option ℕ). record (start_of_life b) { life = next_life o }) here)

-- One domain goes to another depth -----------------------------------------------------------

deep_row : (t : Bool) (d : ℕ) (row old : DomainRow) → row.depth ≡ d
    → (cond t row old).depth ≡ cond t d old.depth
deep_row true d row old e = e
deep_row false d row old e = refl

deep_few : (t : Bool) (d x : ℕ) → d ≤ 3 → x ≤ 3 → cond t d x ≤ 3
deep_few true d x p q = p
deep_few false d x p q = q

-- what is kept of the domains of a core's path after one went to another depth
pub record IsDeepened (ds new_ds : List (List DomainRow)) (k place depth : ℕ) : Type 0 where
  pub depths : (l p : ℕ) → depth_in new_ds l p ≡ cond (l == k && p == place) depth (depth_in ds l p)
  pub starts : (l p : ℕ) → (domain_at new_ds l p).starts ≡ (domain_at ds l p).starts

pub is_deepened : (ds : List (List DomainRow)) (k place depth : ℕ) (row : DomainRow)
    → k < length ds → place < length (get_or ds k []) → row.depth ≡ depth
    → row.starts ≡ (domain_at ds k place).starts
    → IsDeepened ds (set_row ds k place row) k place depth
is_deepened ds k place depth row h i deep same = record {
  depths = λ l p. ap (λ (r : DomainRow). r.depth) (domain_set ds k place l p row h i)
      ∙ deep_row (l == k && p == place) depth row (domain_at ds l p) deep;
  starts = λ l p. ap (λ (r : DomainRow). r.starts) (domain_set ds k place l p row h i)
      ∙ either l p (l == k && p == place) refl;
}
  where
    either : (l p : ℕ) (t : Bool) → (l == k && p == place) ≡ t
        → (cond t row (domain_at ds l p)).starts ≡ (domain_at ds l p).starts
    either l p true e =
        let both = and_parts (l == k) (p == place) e in
        same ∙ ap (λ m. (domain_at ds m place).starts) (sym (eqb-true l k both.0))
        ∙ ap (λ m. (domain_at ds l m).starts) (sym (eqb-true p place both.1))
    either l p false e = refl

pub deepened_kept : (b : BoardValue) (o : Option ℕ) (cs : List CoreRow)
    (ds new_ds : List (List DomainRow)) (k place depth : ℕ)
    → IsController (whole b o cs ds) → HasRows b new_ds → IsDeepened ds new_ds k place depth
    → depth ≤ 3
    → IsController (whole b o cs new_ds)
deepened_kept b o cs ds new_ds k place depth is shape deep few = record {
  board = is.board;
  cores = is.cores;
  shape = shape;
  values = record {
    starts = is.values.starts;
    none = is.values.none;
    boot = is.values.boot;
    first = is.values.first;
    last = is.values.last;
    deepest = λ l p. subst (λ x. x ≤ 3) (sym (deep.depths l p))
        (deep_few (l == k && p == place) depth (depth_in ds l p) few (is.values.deepest l p));
  };
  sums = λ l e. record { sums = λ m p low. deep.starts m p ∙ (is.sums l e).sums m p low };
}

-- The values in the rows after a start of a core, and after the beginning of a life ---------------

-- One start ----------------------------------------------------------------------------------

-- the row of a core after its start
abbrev pub started_row : List CoreRow → ℕ → Cause → CoreRow
started_row cs c cause = record { starts = (core_row cs c).starts + 1; cause = cause }

row_starts : (cs : List CoreRow) (c k : ℕ) (cause : Cause) → c < length cs
    → (core_row (set cs c (started_row cs c cause)) k).starts
    ≡ one_more (λ m. (core_row cs m).starts) c k
row_starts cs c k cause h =
    grind (arith, core_set cs c k (started_row cs c cause) h)

row_cause : (cs : List CoreRow) (c k : ℕ) (cause : Cause) → c < length cs
    → (core_row (set cs c (started_row cs c cause)) k).cause
    ≡ with_cause (λ m. (core_row cs m).cause) c cause k
row_cause cs c k cause h =
    grind (arith, core_set cs c k (started_row cs c cause) h)

depth_either : (t : Bool) (d : DomainRow) → (cond t (path_on_once d) d).depth ≡ cond t 0 d.depth
depth_either true d = refl
depth_either false d = refl

starts_either : (t : Bool) (d : DomainRow) → (cond t (path_on_once d) d).starts
    ≡ d.starts + cond t 1 0
starts_either true d = refl
starts_either false d = omega arith

pub started_values : (b : BoardValue) (cs : List CoreRow) (old new : List (List DomainRow)) (c : ℕ)
    (cause : Cause) → c < length cs
    → ((l p : ℕ) → domain_at new l p ≡ path_on_below b c old (height b + 1) l p)
    → (life : Option ℕ)
    → values_in life (set cs c (started_row cs c cause)) new
    ≡ with_start b c cause (values_in life cs old)
started_values b cs old new c cause h rows life =
    same_values _ _ refl
    (λ k. row_starts cs c k cause h) (λ k. row_cause cs c k cause h)
    (λ l p. ap (λ (d : DomainRow). d.depth) (rows l p ∙ run_whole b c old l p)
    ∙ depth_either (is_on_path b c l p) (domain_at old l p))

pub started_sums : (b : BoardValue) (cs : List CoreRow) (old new : List (List DomainRow)) (c : ℕ)
    (cause : Cause) → SumLaws b → c < cores b → c < length cs → HasSums b cs old
    → ((l p : ℕ) → domain_at new l p ≡ path_on_below b c old (height b + 1) l p)
    → HasSums b (set cs c (started_row cs c cause)) new
started_sums b cs old new c cause laws inside h before rows = record {
  sums = λ l p low.
      let n : Node = record { level = l; place = p } in
      ap (λ (d : DomainRow). d.starts) (rows l p ∙ run_whole b c old l p)
      ∙ starts_either (is_on_path b c l p) (domain_at old l p)
      ∙ ap (λ s. s + cond (is_on_path b c l p) 1 0) (before.sums l p low)
      ∙ sym (laws.more (λ m. (core_row cs m).starts) c l p inside low)
      ∙ ap (λ f. starts_below b f n) (λ i k. sym (row_starts cs c k cause h) i);
}

-- no sum of starts is too large for one more
pub room : (b : BoardValue) (cs : List CoreRow) (ds : List (List DomainRow)) (l p : ℕ) → SumLaws b
    → cores b ≤ MOST_CORES → ((k : ℕ) → (core_row cs k).starts < 2 ^ 32) → HasSums b cs ds
    → l ≤ height b
    → (domain_at ds l p).starts + 1 < 2 ^ 64
room b cs ds l p laws few small has low =
    let n : Node = record { level = l; place = p } in
    omega (
      arith,
      few,
      has.sums l p low,
      laws.few (λ k. (core_row cs k).starts) 0xffffffff (λ k. omega (arith, small k)) n,
    )

-- The beginning of a life --------------------------------------------------------------------

pub off_sums : (b : BoardValue) (n : ℕ) (ds : List (List DomainRow)) → SumLaws b
    → ((l p : ℕ) → domain_at ds l p ≡ off_domain) → HasSums b (replicate n off_core) ds
off_sums b n ds laws off = record {
  sums = λ l p low.
      let at : Node = record { level = l; place = p } in
      ap (λ (d : DomainRow). d.starts) (off l p)
      ∙ sym (laws.none at)
      ∙ ap (λ f. starts_below b f at)
      (λ i k. sym (ap (λ (r : CoreRow). r.starts) (off_core_row n k)) i);
}

boot_cause : (t : Bool) → cond t causes.Boot causes.Boot ≡ causes.Boot
boot_cause true = refl
boot_cause false = refl

pub begun_values : (b : BoardValue) (n : ℕ) (ds : List (List DomainRow)) (life : Option ℕ)
    → ((l p : ℕ) → domain_at ds l p ≡ off_domain)
    → with_start b 0 causes.Boot (values_in life (replicate n off_core) ds)
    ≡ record (start_of_life b) { life = life }
begun_values b n ds life off =
    same_values _ _ refl
    (λ k. rw (off_core_row n k) refl) (λ k. rw (off_core_row n k) (boot_cause (k == 0)))
    (λ l p. rw (off l p) refl)
