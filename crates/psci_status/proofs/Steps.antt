-- Each step keeps the rule.
use Rattle.std.specs.Prelude.{if◌then◌else◌, nat_lt, slice_index, slice_set}
use Rattle.std.proofs.Common.{◌%◌, ◌*◌, ◌+◌, ◌/◌, ◌<◌, ◌∙◌, ◌∷◌, ◌≡◌, ◌≢◌, ◌≤◌, [], ap, arith}
use Rattle.std.proofs.Common.{Bool, false, inl, inr, length, List, map, refl, replicate, suc}
use Rattle.std.proofs.Common.{sym, true, zero, ℕ}
use Rattle.std.proofs.lemmas.Bool.{cond_both, false≢true, ltb-false, ltb-true}
use Rattle.std.proofs.lemmas.List.{get_or-replicate, length-replicate, length-set, set-get_or}
use Rattle.atomic_table.specs.Table.{Allows, Joins, keeps, Me, opening, Splits, State, step}
use Rattle.atomic_table.proofs.Lists.{at_set, at_snoc, set_again}
use lib.ListN.{get_elem?}
use mathlib.Core.Option.{none, some, some-injective, some-ne-none}
use Rattle.psci_fw_spec.specs.PowerCalls.{status_code}
use Rattle.psci_fw_spec.specs.declared.status.Status.{Status}
use Rattle.psci_fw_spec.specs.declared.status.Status.TheVariants.{Off, On, Pending}
use Rattle.psci_status.specs.Lists.{Begins, gain, gain_from, gains, IsLast, IsWord, Item}
use Rattle.psci_status.specs.Lists.{item_of, newest, Rises, row, Stands, status_of, Within}
use Rattle.psci_status.specs.Rule.{begins, Fits, informed, Kept, Loaded, Looked, nobody, note_of}
use Rattle.psci_status.specs.Rule.{Stored}
use Rattle.psci_status.specs.declared.rule.View.{View}

-- Lists of what was written and seen --------------------------------------------------------------

-- lists of one core

pub longer : (x : Status) (log : List Status) (xs : List Item) → Within log xs → Within (x ∷ log) xs
longer x log [] h = tt
longer x log (i ∷ is) h = (inr h.0, h.1, longer x log is h.2)

stands_below : (log : List Status) (i : Item) → Stands log i → i.0 < length log
stands_below [] i h = absurd h
stands_below (x ∷ xs) i (inl here) = let e : i.0 ≡ length xs = here.0 in omega arith
stands_below (x ∷ xs) i (inr there) = let k = stands_below xs i there in omega (arith, k)

pub gain_within : (log : List Status) (i : Item) (xs : List Item) → Stands log i → Within log xs
    → Within log (gain i xs)
gain_within log i [] s h = (s, tt, tt)
gain_within log i (j ∷ js) s h =
    cond_both (nat_lt j.0 i.0) _ _ (Within log) (λ e. (s, ltb-true j.0 i.0 e, h)) (λ e. h)

pub gain_begins : (x : Status) (log : List Status) (xs : List Item) → Within (x ∷ log) xs
    → Begins (length log, x) (gain (length log, x) xs)
gain_begins x log [] h = ([], refl)
gain_begins x log (j ∷ js) h =
    cond_both (nat_lt j.0 (length log)) _ _ (Begins (length log, x)) (λ e. (j ∷ js, refl))
    (λ e. last h.0 (ltb-false j.0 (length log) e))
  where
    last : Stands (x ∷ log) j → length log ≤ j.0 → Begins (length log, x) (j ∷ js)
    last (inl same) e = (js, λ k. (same.0 k, same.1 k) ∷ js)
    last (inr older) e = let low = stands_below log j older in absurd (omega (arith, low))

pub newest_within : (log : List Status) → Within log (newest log)
newest_within [] = tt
newest_within (x ∷ xs) = (inl (refl, refl), tt, tt)

gain_from_within : (log : List Status) (n xs : List Item) → Within log n → Within log xs
    → Within log (gain_from n xs)
gain_from_within log [] xs h k = k
gain_from_within log (i ∷ is) xs h k = gain_within log i xs h.0 k

pub status_of_code : (s : Status) → status_of (status_code s) ≡ s
status_of_code On = refl
status_of_code Off = refl
status_of_code Pending = refl

code_small : (s : Status) → status_code s < 3
code_small On = omega arith
code_small Off = omega arith
code_small Pending = omega arith

-- the item of a word with this serial and status
pub item_at : (r n : ℕ) (s : Status) → r ≡ 4 * n + status_code s → item_of r ≡ (n, s)
item_at r n s e =
    let small = code_small s in
    let a : r / 4 ≡ n = omega arith in
    let b : r % 4 ≡ status_code s = omega arith in
    (λ k. (a k, (ap status_of b ∙ status_of_code s) k))

pub item_stands : (log : List Status) (r : ℕ) → IsWord log r → Stands log (item_of r)
item_stands [] r h = absurd h
item_stands (s ∷ ss) r h =
    let e = item_at r (length ss) s h in inl (ap (λ (i : Item). i.0) e, ap (λ (i : Item). i.1) e)

pub item_begins : (log : List Status) (r : ℕ) (xs : List Item) → IsWord log r → Within log xs
    → Begins (item_of r) (gain (item_of r) xs)
item_begins [] r xs h k = absurd h
item_begins (s ∷ ss) r xs h k = rw (item_at r (length ss) s h) (gain_begins s ss xs k)

pub within_rises : (log : List Status) (xs : List Item) → Within log xs → Rises xs
within_rises log [] h = tt
within_rises log (i ∷ is) h = (h.1, within_rises log is h.2)

-- lists of all cores

pub row_set_all : {A : Type 0} (Q : ℕ → List A → Type 0) (xs : List (List A)) (c : ℕ) (y : List A)
    → ((d : ℕ) → Q d (row xs d)) → Q c y → (d : ℕ) → Q d (row (slice_set xs c y) d)
row_set_all Q [] c y all q d = all d
row_set_all Q (x ∷ xs) zero y all q zero = q
row_set_all Q (x ∷ xs) zero y all q (suc d) = all (suc d)
row_set_all Q (x ∷ xs) (suc c) y all q zero = all zero
row_set_all Q (x ∷ xs) (suc c) y all q (suc d) = row_set_all (λ k. Q (suc k)) xs c y
    (λ k. all (suc k)) q d

pub row_newest : (log : List (List Status)) (d : ℕ) → row (map newest log) d ≡ newest (row log d)
row_newest [] d = refl
row_newest (x ∷ xs) zero = refl
row_newest (x ∷ xs) (suc d) = row_newest xs d

pub gains_within : (L : ℕ → List Status) (a b : List (List Item))
    → ((d : ℕ) → Within (L d) (row a d)) → ((d : ℕ) → Within (L d) (row b d)) → (d : ℕ)
    → Within (L d) (row (gains a b) d)
gains_within L [] b f g d = f d
gains_within L (x ∷ xs) [] f g d = f d
gains_within L (x ∷ xs) (n ∷ ns) f g zero = gain_from_within (L zero) n x (g zero) (f zero)
gains_within L (x ∷ xs) (n ∷ ns) f g (suc d) = gains_within (λ k. L (suc k)) xs ns (λ k. f (suc k))
    (λ k. g (suc k)) d

pub words_set : (log : List (List Status)) (ws : List ℕ) (c r : ℕ) (y : List Status)
    → ((d : ℕ) → d < length log → IsWord (row log d) (slice_index ws d)) → length ws ≡ length log
    → IsWord y r → (d : ℕ) → d < length log
    → IsWord (row (slice_set log c y) d) (slice_index (slice_set ws c r) d)
words_set [] ws c r y all same q d h = absurd (omega arith)
words_set (x ∷ xs) [] c r y all same q d h = absurd (omega arith)
words_set (x ∷ xs) (w ∷ ws) zero r y all same q zero h = q
words_set (x ∷ xs) (w ∷ ws) zero r y all same q (suc d) h = all (suc d) h
words_set (x ∷ xs) (w ∷ ws) (suc c) r y all same q zero h = all zero h
words_set (x ∷ xs) (w ∷ ws) (suc c) r y all same q (suc d) h = words_set xs ws c r y
    (λ k l. all (suc k) (omega arith)) (omega arith) q d (omega arith)

-- the serial of the next item
pub word_length : (log : List Status) (r : ℕ) → IsWord log r → r / 4 + 1 ≡ length log
word_length [] r h = absurd h
word_length (s ∷ ss) r h =
    let e : r ≡ 4 * length ss + status_code s = h in omega (arith, code_small)

-- the word that the writer stores after this one
pub next_word : (log : List Status) (r k : ℕ) (s : Status) (new : ℕ) → r / 4 + 1 ≡ length log
    → k ≡ status_code s → new ≡ (r / 4 + 1) * 4 + k → IsWord (status_of (new % 4) ∷ log) new
    × (status_of (new % 4) ≡ s)
next_word log r k s new len code e =
    let at : new ≡ 4 * length log + status_code s = omega arith in
    let is = ap (λ (i : Item). i.1) (item_at new (length log) s at) in (rw is at, is)

length-gains : (xs ns : List (List Item)) → length (gains xs ns) ≡ length xs
length-gains [] ns = refl
length-gains (x ∷ xs) [] = refl
length-gains (x ∷ xs) (n ∷ ns) = ap suc (length-gains xs ns)

pub length-informed_seen : (b : Bool) (seen note : List (List Item))
    → length (if b then seen else gains seen note) ≡ length seen
length-informed_seen true seen note = refl
length-informed_seen false seen note = length-gains seen note

-- what the writer was told stands in its log, so what it tells is the last that is seen
last_of : (L : ℕ → List Status) (a b : List (List Item)) → ((d : ℕ) → Within (L d) (row a d))
    → ((d : ℕ) → row b d ≡ newest (L d)) → (d : ℕ) → d < length a → IsLast (L d) (row (gains a b) d)
last_of L [] b f g d h = absurd (omega arith)
last_of L (x ∷ xs) [] f g d h = last_none (L d) (row (x ∷ xs) d) (g d)
  where
    last_none : (l : List Status) (s : List Item) → [] ≡ newest l → IsLast l s
    last_none [] s e = tt
    last_none (y ∷ ys) s e = absurd (cc)
last_of L (x ∷ xs) (n ∷ ns) f g zero h = last_here (L zero) n x (f zero) (g zero)
  where
    last_here : (l : List Status) (m s : List Item) → Within l s → m ≡ newest l
        → IsLast l (gain_from m s)
    last_here [] m s k e = tt
    last_here (y ∷ ys) m s k e = rw e (gain_begins y ys s k)
last_of L (x ∷ xs) (n ∷ ns) f g (suc d) h = last_of (λ k. L (suc k)) xs ns (λ k. f (suc k))
    (λ k. g (suc k)) d (omega arith)

pub met_last : (log : List (List Status)) (a : List (List Item))
    → ((d : ℕ) → Within (row log d) (row a d)) → (d : ℕ) → d < length a
    → IsLast (row log d) (row (gains a (map newest log)) d)
met_last log a f = last_of (λ d. row log d) a (map newest log) f (row_newest log)

pub met_within : (log : List (List Status)) (a : List (List Item))
    → ((d : ℕ) → Within (row log d) (row a d)) → (d : ℕ)
    → Within (row log d) (row (gains a (map newest log)) d)
met_within log a f = gains_within (λ d. row log d) a (map newest log) f
    (λ d. rw (row_newest log d) (newest_within (row log d)))

-- Steps -------------------------------------------------------------------------------------------

-- the seats

fits_set : (seat by : ℕ) (log : List (List Status)) (views : List View) (w : View)
    → ((j : ℕ) (u : View) → j ≢ by → get_elem? views j ≡ some u → Fits seat log j u)
    → Fits seat log by w → (j : ℕ) (u : View) → get_elem? (slice_set views by w) j ≡ some u
    → Fits seat log j u
fits_set seat by log views w others mine j u e = elim (at_set views by j w u e) [
  | inl x ↦ rw (x.0, ← x.1) mine
  | inr x ↦ others j u x.0 x.1
]

-- the rule says of other views what it says of these, as far as it speaks of words
viewed : (n : ℕ) (s : State (Unit {0}) View) (views : List View) (k : Kept n s)
    → ((j : ℕ) (u : View) → get_elem? views j ≡ some u → Fits k.writer k.log j u)
    → Kept n record { words = s.words; homes = s.homes; views = views }
viewed n s views k seats = record {
  writer = k.writer;
  log = k.log;
  wide = k.wide;
  long = k.long;
  words = k.words;
  seats = seats;
}

again : (n c : ℕ) (s : State (Unit {0}) View) (views : List View) (k : Kept n s)
    → ((j : ℕ) (u : View) → get_elem? views j ≡ some u → Fits k.writer k.log j u)
    → Kept n record {
      words = slice_set s.words c (slice_index s.words c);
      homes = s.homes;
      views = views;
    }
again n c s views k seats = rw (set-get_or s.words c 0) (viewed n s views k seats)

pub looks : (n slots id c : ℕ) (m : Me (Unit {0}) View) → m.0.writer ≡ true → c < n
    → Allows (Kept n) slots id m c (λ r. r) (Looked (step slots c 0 0 none) m)
looks n slots id c m writes small s k homes at bound =
    let mine = k.seats id m.0 at in
    let is = (mine.0 writes).1 in (
      m.0,
      keeps,
      tt,
      again n c s (slice_set s.views id m.0) k
          (fits_set k.writer id k.log s.views m.0 (λ j u _ e. k.seats j u e) mine),
      (refl, rw is (k.words c small), rw is mine.2),
    )

pub loads : (n slots id c : ℕ) (m : Me (Unit {0}) View) → m.0.writer ≡ false → c < n
    → Allows (Kept n) slots id m c (λ r. r) (Loaded (step slots c 0 0 none) m)
loads n slots id c m reads small s k homes at bound =
    let mine = k.seats id m.0 at in
    let r = slice_index s.words c in
    let word = k.words c small in
    let y = gain (item_of r) (row m.0.seen c) in
    let w : View = record m.0 { seen = slice_set m.0.seen c y } in
    let stands = gain_within (row k.log c) (item_of r) (row m.0.seen c)
    (item_stands (row k.log c) r word) (mine.1 c) in (
      w,
      keeps,
      tt,
      again n c s (slice_set s.views id w) k
          (fits_set k.writer id k.log s.views w (λ j u _ e. k.seats j u e) (
            (λ b. absurd (false≢true (sym reads ∙ b))),
            row_set_all (λ d l. Within (row k.log d) l) m.0.seen c y mine.1 stands,
            mine.2,
          )),
      (
        refl,
        item_begins (row k.log c) r (row m.0.seen c) word (mine.1 c),
        within_rises (row k.log c) y stands,
      ),
    )

-- what was seen of each core was written
abbrev Saw : List (List Status) → List (List Item) → Type 0
Saw log seen = (d : ℕ) → Within (row log d) (row seen d)

stored_fits : (log : List (List Status)) (c : ℕ) (x : Status) (seen : List (List Item))
    → Saw log seen → Saw (slice_set log c (x ∷ row log c)) seen
stored_fits log c x seen all = row_set_all (λ d l. Within l (row seen d)) log c (x ∷ row log c) all
    (longer x (row log c) (row seen c) (all c))

pub stores : (n slots id c new : ℕ) (m : Me (Unit {0}) View) → m.0.writer ≡ true → c < n
    → IsWord (status_of (new % 4) ∷ row m.0.log c) new
    → Allows (Kept n) slots id m c (λ _. new) (λ _. Stored (step slots c new 0 none) m new)
stores n slots id c new m writes small next s k homes at bound =
    let mine = k.seats id m.0 at in
    let seat = (mine.0 writes).0 in
    let is = (mine.0 writes).1 in
    let x = status_of (new % 4) in
    let log = slice_set k.log c (x ∷ row k.log c) in
    let w : View = record m.0 { log = slice_set m.0.log c (x ∷ row m.0.log c) } in
    let word : IsWord (x ∷ row k.log c) new = rw is at next in (
      w,
      keeps,
      tt,
      record {
        writer = k.writer;
        log = log;
        wide = length-set s.words c new ∙ k.wide;
        long = length-set k.log c (x ∷ row k.log c) ∙ k.long;
        words = λ d h. words_set k.log s.words c new (x ∷ row k.log c)
            (λ e l. k.words e (rw k.long at l)) (k.wide ∙ sym k.long) word d (rw k.long h);
        seats = fits_set k.writer id log s.views w
            (λ j u apart e.
            let fits = k.seats j u e in (
              (λ b. absurd (apart ((fits.0 b).0 ∙ sym seat))),
              stored_fits k.log c x u.seen fits.1,
              stored_fits k.log c x u.told fits.2,
            )) (
              (λ _. (seat, ap (λ (l : List (List Status)). slice_set l c (x ∷ row l c)) is)),
              stored_fits k.log c x m.0.seen mine.1,
              stored_fits k.log c x m.0.told mine.2,
            );
      },
      refl,
    )

pub notes : (n id : ℕ) (v : View) → Splits (Kept n) id v v (note_of v)
notes n id v s k at =
    let mine = k.seats id v at in
    viewed n s _ k (λ j u e. elim (at_snoc (slice_set s.views id v) (note_of v) u j e) [
      | inl was ↦ k.seats j u (rw (set_again s.views id v at) at was)
      | inr same ↦ rw (← same) (
        (λ b. absurd (false≢true b)),
        cond_both v.writer _ _ (Saw k.log)
            (λ b. rw (mine.0 b).1 (λ d. rw (row_newest k.log d) (newest_within (row k.log d))))
            (λ b. mine.1),
        (λ d. tt),
      )
    ])

pub informs : (n id : ℕ) (v : View) (other : ℕ) (w : View)
    → Joins (Kept n) id v other w (informed v w) nobody
informs n id v other w s k at apart there =
    let mine = k.seats id v at in
    let both = informed v w in
    let theirs : Saw k.log w.seen = elim (at_set s.views id other both w there) [
      | inl t ↦ absurd (apart t.0)
      | inr t ↦ (k.seats other w t.1).1
    ] in
    viewed n s _ k (fits_set k.writer other k.log (slice_set s.views id both) nobody
    (λ j u _ e. fits_set k.writer id k.log s.views both (λ i y _ e'. k.seats i y e') (
      mine.0,
      cond_both v.writer _ _ (Saw k.log) (λ b. mine.1)
          (λ b. gains_within (λ d. row k.log d) v.seen w.seen mine.1 theirs),
      cond_both v.writer _ _ (Saw k.log) (λ b. theirs) (λ b. mine.2),
    ) j u e)
    ((λ b. absurd (false≢true b)), (λ d. tt), (λ d. tt)))

pub opens : (n : ℕ) (ws : List ℕ) → ws ≡ replicate n 1 → Kept n (opening ws [] (begins n))
opens n ws is = rw is (record {
  writer = 0;
  log = replicate n (Off ∷ []);
  wide = length-replicate n 1;
  long = length-replicate n (Off ∷ []);
  words = λ c h. rw (get_or-replicate n c (Off ∷ []) [] h, get_or-replicate {A = ℕ} n c 1 0 h) refl;
  seats = first;
})
  where
    first : (j : ℕ) (u : View) → get_elem? (begins n ∷ []) j ≡ some u
        → Fits 0 (replicate n (Off ∷ [])) j u
    first zero u e = rw (← some-injective _ _ e) ((λ _. (refl, refl)), (λ d. tt), (λ d. tt))
    first (suc j) u e = absurd (some-ne-none u (sym e))
