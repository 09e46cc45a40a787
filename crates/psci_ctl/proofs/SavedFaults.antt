-- Words that were saved have no fault, and words without a fault are such.
use Rattle.std.specs.List.{All, list_all}
use Rattle.std.specs.Prelude.{nat_le, nat_lt}
use Rattle.std.proofs.Common.{◌%◌, ◌*◌, ◌++◌, ◌+◌, ◌-◌, ◌/◌, ◌<◌, ◌==◌, ◌^◌, ◌||◌, ◌∙◌, ◌∷◌, ◌≡◌}
use Rattle.std.proofs.Common.{◌≤◌, [], ap, arith, Bool, cond, drop, false, flat_map, get_or}
use Rattle.std.proofs.Common.{length, List, map, None, not, Option, refl, set, Some, suc, sym}
use Rattle.std.proofs.Common.{take, true, zero, ℕ}
use Rattle.std.proofs.Math.Seq.{drop-append_seam, take-append_seam}
use Rattle.std.proofs.lemmas.Bool.{and_from, and_parts, eq-eqb, eqb-true, le-ltb, leb-true}
use Rattle.std.proofs.lemmas.Bool.{lt-ltb, ltb-false, ltb-true, ne_eqb, not-false}
use Rattle.std.proofs.lemmas.List.{length-append, length-map, length-set, length-take-le}
use Rattle.std.proofs.lemmas.List.{take-append-drop, take_all}
use Rattle.std.proofs.lemmas.List.Sums.{AllPass-from_list_all}
use Rattle.std.proofs.lemmas.Option.{none-some}
use Rattle.psci_board.specs.Board.{BoardValue, cores, height, IsBoard, nodes}
use Rattle.psci_ctl_spec.proofs.Steps.{same_values}
use Rattle.psci_ctl.specs.Rows.{core_row, HasRows, HasSums}
use Rattle.psci_ctl.specs.Saved.{are_starts, core_of, core_word, depths, life_of, life_word}
use Rattle.psci_ctl.specs.Saved.{row_count, row_words, saved, saved_fault, sum_from}
use Rattle.psci_ctl.specs.Seen.{ControllerValue, IsController, seen}
use Rattle.psci_ctl.specs.declared.fault.SavedFault.{SavedFault}
use Rattle.psci_ctl.specs.declared.fault.SavedFault.TheVariants as faults
use Rattle.psci_ctl.specs.declared.level.DomainRow.{DomainRow}
use Rattle.psci_ctl.specs.declared.row.CoreRow.{CoreRow}
use Rattle.psci_ctl.specs.declared.saving.TheConstants.{FACTOR, FORMAT}
use Rattle.psci_ctl.proofs.Kept.{whole}
use Rattle.psci_ctl.proofs.SavedWords.{all_deep, all_depths, are_few, few_starts, first_starts}
use Rattle.psci_ctl.proofs.SavedWords.{first_word, is_depth, life_back, many_depths, no_life}
use Rattle.psci_ctl.proofs.SavedWords.{rows_back, same_depths, same_life, some_life, words_back}

-- Faults -------------------------------------------------------------------------------------

-- words without a fault, taken apart
pub record IsSaved (b : BoardValue) (ws : List ℕ) : Type 0 where
  pub life : ℕ
  pub rows : List ℕ
  pub is : ws ≡ FORMAT ∷ sum_from 0 (life ∷ rows) ∷ life ∷ rows
  pub count : length rows ≡ row_count b
  pub lives : life ≤ b.lives
  pub starts : are_starts b life (take (cores b) rows) ≡ true
  pub deep : list_all is_depth (drop (cores b) rows) ≡ true

none_of : (t : Bool) (x : SavedFault) (o : Option SavedFault) → cond t (Some x) o ≡ None
    → (t ≡ false) × (o ≡ None)
none_of true x o e = absurd (none-some x (sym e))
none_of false x o e = (refl, e)

none_last : (t : Bool) (x : SavedFault) → cond t None (Some x) ≡ None → t ≡ true
none_last true x e = refl
none_last false x e = absurd (none-some x (sym e))

pub is_saved : (b : BoardValue) (ws : List ℕ) → saved_fault b ws ≡ None → IsSaved b ws
unfolding saved_fault
is_saved b [] e = absurd (none-some faults.Length (sym e))
is_saved b (f ∷ []) e = absurd (none-some faults.Length (sym e))
is_saved b (f ∷ s ∷ []) e = absurd (none-some faults.Length (sym e))
is_saved b (f ∷ s ∷ life ∷ rows) e =
    let count = none_of _ _ _ e in
    let format = none_of _ _ _ count.1 in
    let sum_is = none_of _ _ _ format.1 in
    let lives = none_of _ _ _ sum_is.1 in
    let starts = none_of _ _ _ lives.1 in
    record {
      life = life;
      rows = rows;
      is = ap (λ x. x ∷ s ∷ life ∷ rows) (eqb-true f FORMAT (not-false _ format.0))
          ∙ ap (λ x. FORMAT ∷ x ∷ life ∷ rows)
          (eqb-true s (sum_from 0 (life ∷ rows)) (not-false _ sum_is.0));
      count = eqb-true _ _ (not-false _ count.0);
      lives = ltb-false b.lives life lives.0;
      starts = not-false _ starts.0;
      deep = none_last _ _ starts.1;
    }

none_from : (t : Bool) (x : SavedFault) (o : Option SavedFault) → t ≡ false → o ≡ None
    → cond t (Some x) o ≡ None
none_from t x o e f = ap (λ s. cond s (Some x) o) e ∙ f

life_low : (o : Option ℕ) (most : ℕ) → ((l : ℕ) → o ≡ Some l → l ≤ most) → life_word o ≤ most
life_low None most h = omega arith
life_low (Some l) most h = h l refl

starts_fit : (b : BoardValue) (o : Option ℕ) (cs : List CoreRow)
    → ((k : ℕ) → (core_row cs k).starts ≤ b.starts)
    → (o ≡ None → (k : ℕ) → (core_row cs k).starts ≡ 0)
    → ((l : ℕ) → o ≡ Some l → 0 < (core_row cs 0).starts)
    → ((l : ℕ) → o ≡ Some l → 0 < l)
    → are_starts b (life_word o) (map core_word cs) ≡ true
starts_fit b None cs few none boot first =
    and_from _ _ (are_few cs 0 (λ k. omega (arith, none refl k))) refl
starts_fit b (Some l) cs few none boot first =
    rw (ne_eqb l 0 (λ e. omega (arith, first l refl, e)))
    (and_from _ _ (are_few cs b.starts few)
    (lt-ltb 0 (get_or (map core_word cs) 0 0 / 4) (omega (arith, first_word cs, boot l refl))))

-- words that were saved have no fault
pub no_fault : (c : ControllerValue) → IsController c → saved_fault c.board (saved c) ≡ None
unfolding saved saved_fault
no_fault c is =
    let b = c.board in
    let own = map core_word c.cores in
    let deep = flat_map depths c.domains in
    let long : length own ≡ cores b = length-map c.cores core_word ∙ is.cores in
    let front : take (cores b) (own ++ deep) ≡ own =
    ap (λ k. take k (own ++ deep)) (sym long) ∙ take-append_seam own deep in
    let back : drop (cores b) (own ++ deep) ≡ deep =
    ap (λ k. drop k (own ++ deep)) (sym long) ∙ drop-append_seam own deep in
    let count : length (own ++ deep) ≡ row_count b =
    length-append own deep ∙ ap (λ k. k + length deep) long
    ∙ ap (λ k. cores b + k) (many_depths b.levels c.domains is.shape.levels is.shape.places) in
    none_from _ faults.Length _ (ap not (eq-eqb _ _ count))
    (none_from _ faults.Format _ (ap not (eq-eqb FORMAT FORMAT refl))
    (none_from _ faults.Sum _
    (ap not (eq-eqb (sum_from 0 (life_word c.life ∷ (own ++ deep))) _ refl))
    (none_from _ faults.Life _
    (le-ltb b.lives (life_word c.life) (life_low c.life b.lives is.values.last))
    (none_from _ faults.Starts _
    (ap (λ ws. not (are_starts b (life_word c.life) ws)) front
    ∙ ap not (starts_fit b c.life c.cores is.values.starts is.values.none is.values.boot
    is.values.first))
    (ap (λ t. cond t None (Some faults.Depth))
    (ap (λ ws. list_all is_depth ws) back ∙ all_depths c.domains is.values.deepest))))))

-- what is saved says what is seen
pub same_seen : (c d : ControllerValue) → IsController c → IsController d → c.board ≡ d.board
    → saved c ≡ saved d → seen c ≡ seen d
unfolding saved
same_seen c d p q boards e =
    let own = map core_word c.cores in
    let other = map core_word d.cores in
    let deep = flat_map depths c.domains in
    let deep_other = flat_map depths d.domains in
    let long : length own ≡ length other =
    length-map c.cores core_word ∙ p.cores ∙ ap (λ b. cores b) boards ∙ sym q.cores
    ∙ sym (length-map d.cores core_word) in
    let rows : own ++ deep ≡ other ++ deep_other = ap (λ ws. drop 3 ws) e in
    let words : own ≡ other =
    sym (take-append_seam own deep) ∙ ap (λ ws. take (length own) ws) rows
    ∙ ap (λ k. take k (other ++ deep_other)) long ∙ take-append_seam other deep_other in
    let same_cores : c.cores ≡ d.cores =
    sym (rows_back c.cores) ∙ ap (λ ws. map core_of ws) words ∙ rows_back d.cores in
    let flat : deep ≡ deep_other =
    sym (drop-append_seam own deep) ∙ ap (λ ws. drop (length own) ws) rows
    ∙ ap (λ k. drop k (other ++ deep_other)) long ∙ drop-append_seam other deep_other in
    let high : height c.board ≡ height d.board = ap (λ b. height b) boards in
    same_values (seen c) (seen d)
    (same_life c.life d.life p.values.first q.values.first (ap (λ ws. get_or ws 2 0) e))
    (λ k. ap (λ rs. (core_row rs k).starts) same_cores)
    (λ k. ap (λ rs. (core_row rs k).cause) same_cores)
    (λ l m. same_depths c.domains d.domains l m
    (omega (arith, p.shape.levels, q.shape.levels, high))
    (λ k h. p.shape.places k (omega (arith, h, p.shape.levels))
    ∙ ap (λ b. nodes b k) boards
    ∙ sym (q.shape.places k (omega (arith, h, p.shape.levels, high))))
    flat)

-- Loaded -------------------------------------------------------------------------------------

pub rows_of : (b : BoardValue) (ws : List ℕ) (s : IsSaved b ws)
    → take (length ws - 3) (drop 3 ws) ≡ s.rows
rows_of b ws s =
    let long : length ws ≡ length s.rows + 3 = ap (λ xs. length xs) s.is ∙ omega arith in
    ap (λ xs. take (length ws - 3) xs) (ap (λ xs. drop 3 xs) s.is)
    ∙ take_all (length ws - 3) s.rows (omega (arith, long))

pub long_of : (b : BoardValue) (ws : List ℕ) (s : IsSaved b ws) → length ws ≡ 3 + row_count b
long_of b ws s = ap (λ xs. length xs) s.is ∙ omega (arith, s.count)

pub life_at : (b : BoardValue) (ws : List ℕ) (s : IsSaved b ws) → get_or ws 2 0 ≡ s.life
life_at b ws s = ap (λ xs. get_or xs 2 0) s.is

-- the rows' words, cut to those of the cores and those of the domains
pub front_of : (b : BoardValue) (ws front : List ℕ) (n : ℕ) (s : IsSaved b ws) → n ≡ cores b
    → front ≡ take n (take (length ws - 3) (drop 3 ws)) → front ≡ take (cores b) s.rows
front_of b ws front n s many e =
    e ∙ ap (λ xs. take n xs) (rows_of b ws s) ∙ ap (λ k. take k s.rows) many

pub back_of : (b : BoardValue) (ws back : List ℕ) (n : ℕ) (s : IsSaved b ws) → n ≡ cores b
    → back ≡ drop n (take (length ws - 3) (drop 3 ws)) → back ≡ drop (cores b) s.rows
back_of b ws back n s many e =
    e ∙ ap (λ xs. drop n xs) (rows_of b ws s) ∙ ap (λ k. drop k s.rows) many

most_few : (t : Bool) (n : ℕ) → cond t 0 n ≤ n
most_few true n = omega arith
most_few false n = omega arith

pub cores_few : (b : BoardValue) (ws : List ℕ) → IsBoard b → (s : IsSaved b ws)
    → All (λ w. w / 4 < 2 ^ 32) (take (cores b) s.rows)
cores_few b ws is s k d h =
    omega (
      arith,
      is.starts,
      most_few (s.life == 0) b.starts,
      leb-true _ _ (AllPass-from_list_all (λ w. nat_le (w / 4) (cond (s.life == 0) 0 b.starts))
          (take (cores b) s.rows) (and_parts _ _ s.starts).0 k d h),
    )

pub domains_few : (b : BoardValue) (ws : List ℕ) (s : IsSaved b ws)
    → All (λ d. d ≤ 3) (drop (cores b) s.rows)
domains_few b ws s k d h =
    leb-true _ _ (AllPass-from_list_all is_depth (drop (cores b) s.rows) s.deep k d h)

module _ (b : BoardValue) (ws : List ℕ) (board : IsBoard b) (s : IsSaved b ws)
    (o : Option ℕ) (life : o ≡ life_of s.life)
    (cs : List CoreRow) (is : cs ≡ map core_of (take (cores b) s.rows))
    (ds : List (List DomainRow)) (flat : flat_map depths ds ≡ drop (cores b) s.rows) where
  abbrev starts_of : ℕ → ℕ
  starts_of k = (core_row (map core_of (take (cores b) s.rows)) k).starts

  row_is : (k : ℕ) → (core_row cs k).starts ≡ starts_of k
  row_is k = ap (λ (rs : List CoreRow). (core_row rs k).starts) is

  most : (k : ℕ) → starts_of k ≤ cond (s.life == 0) 0 b.starts
  most k = few_starts (take (cores b) s.rows) _ k (and_parts _ _ s.starts).0

  pub loaded_kept : HasRows b ds → HasSums b cs ds → IsController (whole b o cs ds)
  loaded_kept shape sums = record {
    board = board;
    cores = ap (λ (rs : List CoreRow). length rs) is
        ∙ length-map (take (cores b) s.rows) core_of
        ∙ length-take-le (cores b) s.rows (omega (arith, s.count));
    shape = shape;
    values = record {
      starts = λ k. omega (arith, row_is k, most k, most_few (s.life == 0) b.starts);
      none = λ e k. omega (
        arith,
        row_is k,
        most k,
        ap (λ t. cond t 0 b.starts) (eq-eqb s.life 0 (no_life s.life (sym life ∙ e))),
      );
      boot = λ l e.
          let some = some_life s.life l (sym life ∙ e) in
          omega (
            arith,
            row_is 0,
            first_starts (take (cores b) s.rows) (ltb-true _ _
                (sym (ap (λ t. t || nat_lt 0 (get_or (take (cores b) s.rows) 0 0 / 4))
                (ne_eqb s.life 0 (λ z. omega (arith, some.1, z))))
                ∙ (and_parts _ _ s.starts).1)),
          );
      first = λ l e. omega (arith, some_life s.life l (sym life ∙ e));
      last = λ l e. omega (arith, s.lives, some_life s.life l (sym life ∙ e));
      deepest = λ l p. all_deep ds l p (ap (λ xs. list_all is_depth xs) flat ∙ s.deep);
    };
    sums = λ l e. sums;
  }

  pub loaded_saved : saved (whole b o cs ds) ≡ ws
  unfolding saved
  loaded_saved =
      ap (λ xs. FORMAT ∷ sum_from 0 xs ∷ xs)
      (ap (λ w. w ∷ row_words cs ds) (ap life_word life ∙ life_back s.life)
      ∙ ap (λ xs. s.life ∷ xs)
      (ap (λ xs. xs ++ flat_map depths ds)
      (ap (λ rs. map core_word rs) is ∙ words_back (take (cores b) s.rows))
      ∙ ap (λ xs. take (cores b) s.rows ++ xs) flat
      ∙ take-append-drop (cores b) s.rows))
      ∙ sym s.is

-- The sum of words tells each of them: no other word in one place has the same sum ----------------

-- one word more tells the sum before it
step_back : (s t w : ℕ) → s < 2 ^ 64 → t < 2 ^ 64
    → (s * FACTOR + w) % 2 ^ 64 ≡ (t * FACTOR + w) % 2 ^ 64 → s ≡ t
step_back s t w low few e = omega (arith, low, few, e)

-- and that word
word_again : (s w v : ℕ) → w < 2 ^ 64 → v < 2 ^ 64
    → (s * FACTOR + w) % 2 ^ 64 ≡ (s * FACTOR + v) % 2 ^ 64 → w ≡ v
word_again s w v low few e = omega (arith, low, few, e)

few_sum : (n : ℕ) → n % 2 ^ 64 < 2 ^ 64
few_sum n = omega arith

sum_back : (ws : List ℕ) (s t : ℕ) → s < 2 ^ 64 → t < 2 ^ 64
    → sum_from s ws ≡ sum_from t ws → s ≡ t
sum_back [] s t low few e = e
sum_back (w ∷ ws) s t low few e =
    step_back s t w low few (sum_back ws _ _ (few_sum _) (few_sum _) e)

abbrev AreWords : List ℕ → Type 0
AreWords ws = All (λ w. w < 2 ^ 64) ws

-- another word in a place
other_word : (ws : List ℕ) (s k w : ℕ) → AreWords ws → k < length ws → w < 2 ^ 64
    → sum_from s (set ws k w) ≡ sum_from s ws → w ≡ get_or ws k 0
other_word [] s k w all low few e = absurd (omega (arith, low))
other_word (v ∷ ws) s zero w all low few e =
    word_again s w v few (all 0 0 low) (sum_back ws _ _ (few_sum _) (few_sum _) e)
other_word (v ∷ ws) s (suc k) w all low few e =
    other_word ws _ k w (λ j d h. all (suc j) d (omega (arith, h))) (omega (arith, low)) few e

sum_says : (b : BoardValue) (ws : List ℕ) → IsSaved b ws → get_or ws 1 0 ≡ sum_from 0 (drop 2 ws)
sum_says b ws s =
    ap (λ xs. get_or xs 1 0) s.is ∙ ap (λ xs. sum_from 0 xs) (sym (ap (λ xs. drop 2 xs) s.is))

-- no two without a fault differ in one word
pub one_word : (b : BoardValue) (ws : List ℕ) (k w : ℕ) → AreWords ws → k < length ws
    → w < 2 ^ 64 → saved_fault b ws ≡ None → saved_fault b (set ws k w) ≡ None → w ≡ get_or ws k 0
unfolding saved_fault
one_word b [] k w all low few e f = absurd (omega (arith, low))
one_word b (g ∷ []) k w all low few e f = absurd (none-some faults.Length (sym e))
one_word b (g ∷ s ∷ []) k w all low few e f = absurd (none-some faults.Length (sym e))
one_word b (g ∷ s ∷ life ∷ rows) zero w all low few e f =
    ap (λ xs. get_or xs 0 0) (is_saved b (w ∷ s ∷ life ∷ rows) f).is
    ∙ sym (ap (λ xs. get_or xs 0 0) (is_saved b (g ∷ s ∷ life ∷ rows) e).is)
one_word b (g ∷ s ∷ life ∷ rows) (suc zero) w all low few e f =
    sum_says b (g ∷ w ∷ life ∷ rows) (is_saved b (g ∷ w ∷ life ∷ rows) f)
    ∙ sym (sum_says b (g ∷ s ∷ life ∷ rows) (is_saved b (g ∷ s ∷ life ∷ rows) e))
one_word b (g ∷ s ∷ life ∷ rows) (suc (suc k)) w all low few e f =
    let words = life ∷ rows in
    other_word words 0 k w (λ j d h. all (suc (suc j)) d (omega (arith, h)))
    (omega (arith, low)) few
    (sym (sum_says b (g ∷ s ∷ set words k w) (is_saved b (g ∷ s ∷ set words k w) f))
    ∙ sum_says b (g ∷ s ∷ words) (is_saved b (g ∷ s ∷ words) e))

-- Words as they are written, one part behind the other --------------------------------------------

abbrev headed : List ℕ → ℕ → List ℕ
headed w life = set (set (set w 0 FORMAT) 1 0) 2 life

heading : (w : List ℕ) (life : ℕ) → 3 ≤ length w
    → take 3 (headed w life) ≡ FORMAT ∷ 0 ∷ life ∷ []
heading [] life h = absurd (omega (arith, h))
heading (a ∷ []) life h = absurd (omega (arith, h))
heading (a ∷ b ∷ []) life h = absurd (omega (arith, h))
heading (a ∷ b ∷ d ∷ w) life h = refl

pub written : (w own_written all_written : List ℕ) (life sum n : ℕ) (own deep : List ℕ)
    → length w ≡ 3 + n + length deep → length all_written ≡ length (headed w life)
    → take (3 + n) own_written ≡ take 3 (headed w life) ++ own
    → take (3 + n + length deep) all_written ≡ take (3 + n) own_written ++ deep
    → sum ≡ sum_from 0 (take (length all_written - 2) (drop 2 all_written))
    → set all_written 1 sum
    ≡ FORMAT ∷ sum_from 0 (life ∷ own ++ deep) ∷ life ∷ own ++ deep
written w v u life sum n own deep long same first second is =
    let many : length u ≡ length w =
    same ∙ length-set (set (set w 0 FORMAT) 1 0) 2 life ∙ length-set (set w 0 FORMAT) 1 0
    ∙ length-set w 0 FORMAT in
    let whole : u ≡ FORMAT ∷ 0 ∷ life ∷ own ++ deep =
    sym (take_all (3 + n + length deep) u (omega (arith, long, many)))
    ∙ second ∙ ap (λ xs. xs ++ deep) first
    ∙ ap (λ xs. (xs ++ own) ++ deep) (heading w life (omega (arith, long))) in
    let rest : take (length u - 2) (drop 2 u) ≡ life ∷ own ++ deep =
    ap (λ xs. take (length u - 2) (drop 2 xs)) whole
    ∙ take_all (length u - 2) (life ∷ own ++ deep)
    (omega (arith, ap (λ xs. length xs) whole)) in
    ap (λ xs. set xs 1 sum) whole
    ∙ ap (λ s. FORMAT ∷ s ∷ life ∷ own ++ deep) (is ∙ ap (λ xs. sum_from 0 xs) rest)
