-- The words of a state, part by part: as they are written, and what they tell.
use Rattle.std.specs.Prelude.{nat_le}
use Rattle.std.proofs.Common.{◌*◌, ◌++◌, ◌+◌, ◌-◌, ◌<◌, ◌==◌, ◌∙◌, ◌∷◌, ◌≡◌, ◌≤◌, [], ap}
use Rattle.std.proofs.Common.{append_assoc, arith, Bool, cond, drop, false, flat_map, get_or}
use Rattle.std.proofs.Common.{length, List, None, not, Option, refl, set, Some, suc, sym, take}
use Rattle.std.proofs.Common.{true, zero, ℕ}
use Rattle.std.proofs.Math.Seq.{drop-append_seam, take-append_seam}
use Rattle.std.proofs.lemmas.Bool.{and_from, and_parts, eq-eqb, eqb-true, le-ltb, leb-true}
use Rattle.std.proofs.lemmas.Bool.{ltb-false, not-false}
use Rattle.std.proofs.lemmas.List.{get_or_default, length-append, length-drop, length-take-le}
use Rattle.std.proofs.lemmas.List.{same_lists, take-append-drop, take_all}
use Rattle.std.proofs.lemmas.Option.{none-some}
use Rattle.psci_board.specs.Board.{BoardValue, cores, size_below}
use Rattle.psci_tree.specs.Saved.{are_cores, are_depths, core_words, depth_words, domain_count}
use Rattle.psci_messages.specs.Saved.{are_slots, slots_words}
use Rattle.psci_messages.specs.Sum.{sum_from}
use Rattle.psci_fw_spec.specs.declared.mode.SuspendMode.{SuspendMode}
use Rattle.psci_fw_spec.specs.declared.mode.SuspendMode.TheVariants.{OsInitiated, Platform}
use Rattle.psci_fw_spec.specs.declared.status.Status.{Status}
use Rattle.psci_fw_state.specs.Counts.{AreCounts, level_counts, no_cores}
use Rattle.psci_fw_state.specs.Saved.{are_rows, core_part, depth_part, flag, life_words}
use Rattle.psci_fw_state.specs.Saved.{mode_number, mode_of, row_part, slot_part}
use Rattle.psci_fw_state.specs.Saved.{part_count, part_fault, part_words, row_words, saved}
use Rattle.psci_fw_state.specs.Saved.{saved_fault}
use Rattle.psci_fw_state.specs.Seen.{StateValue}
use Rattle.psci_fw_state.specs.declared.counts.StatusCounts.{StatusCounts}
use Rattle.psci_fw_state.specs.declared.fault.SavedFault.{SavedFault}
use Rattle.psci_fw_state.specs.declared.fault.SavedFault.TheVariants as faults
use Rattle.psci_fw_state.specs.declared.saved_parts.TheConstants.{FORMAT}
use Rattle.psci_fw_state.proofs.SavedWords.{rows_good}

-- Words without a fault, and the state that is loaded from them -----------------------------------

-- parts without a fault
pub record AreParts (b : BoardValue) (ws : List ℕ) : Type 0 where
  pub good_cores : are_cores (core_part b ws) ≡ true
  pub good_depths : are_depths b.levels (depth_part b ws) ≡ true
  pub good_rows : are_rows (row_part b ws) ≡ true
  pub good_slots : are_slots (cores b + 1) (slot_part b ws) ≡ true

-- words without a fault, taken apart
pub record IsSaved (b : BoardValue) (ws : List ℕ) : Type 0 where
  pub long : 5 ≤ length ws
  pub count : length (drop 5 ws) ≡ part_count b
  pub lives : get_or ws 2 0 ≤ b.lives
  pub halts : get_or ws 3 0 ≤ 1
  pub modes : get_or ws 4 0 ≤ 1
  pub whole : FORMAT
      ∷ sum_from 0 (get_or ws 2 0 ∷ get_or ws 3 0 ∷ get_or ws 4 0 ∷ drop 5 ws)
      ∷ get_or ws 2 0 ∷ get_or ws 3 0 ∷ get_or ws 4 0 ∷ drop 5 ws ≡ ws
  pub parts : part_fault b (drop 5 ws) ≡ None

none_of : (t : Bool) (x : SavedFault) (o : Option SavedFault) → cond t (Some x) o ≡ None
    → (t ≡ false) × (o ≡ None)
none_of true x o e = absurd (none-some x (sym e))
none_of false x o e = (refl, e)

pub are_parts : (b : BoardValue) (ws : List ℕ) → part_fault b ws ≡ None → AreParts b ws
are_parts b ws e =
    let own = none_of _ _ _ e in
    let depths = none_of _ _ _ own.1 in
    let rows = none_of _ _ _ depths.1 in
    let slots = none_of _ _ _ rows.1 in
    record {
      good_cores = not-false _ own.0;
      good_depths = not-false _ depths.0;
      good_rows = not-false _ rows.0;
      good_slots = not-false _ slots.0;
    }

pub is_saved : (b : BoardValue) (ws : List ℕ) → saved_fault b ws ≡ None → IsSaved b ws
unfolding saved_fault
is_saved b [] e = absurd (none-some faults.Length (sym e))
is_saved b (f ∷ []) e = absurd (none-some faults.Length (sym e))
is_saved b (f ∷ s ∷ []) e = absurd (none-some faults.Length (sym e))
is_saved b (f ∷ s ∷ l ∷ []) e = absurd (none-some faults.Length (sym e))
is_saved b (f ∷ s ∷ l ∷ h ∷ []) e = absurd (none-some faults.Length (sym e))
is_saved b (f ∷ s ∷ l ∷ h ∷ m ∷ ws) e =
    let count = none_of _ _ _ e in
    let format = none_of _ _ _ count.1 in
    let total = none_of _ _ _ format.1 in
    let lives = none_of _ _ _ total.1 in
    let mode = none_of _ _ _ lives.1 in
    let few = and_parts _ _ (not-false _ mode.0) in
    record {
      long = omega arith;
      count = eqb-true _ _ (not-false _ count.0);
      lives = ltb-false b.lives l lives.0;
      halts = leb-true h 1 few.0;
      modes = leb-true m 1 few.1;
      whole = ap (λ x. x ∷ sum_from 0 (l ∷ h ∷ m ∷ ws) ∷ l ∷ h ∷ m ∷ ws)
          (sym (eqb-true f FORMAT (not-false _ format.0)))
          ∙ ap (λ x. f ∷ x ∷ l ∷ h ∷ m ∷ ws)
          (sym (eqb-true s (sum_from 0 (l ∷ h ∷ m ∷ ws)) (not-false _ total.0)));
      parts = mode.1;
    }

-- so long is each part
pub record AreLong (b : BoardValue) (ws : List ℕ) : Type 0 where
  pub core_long : length (core_part b ws) ≡ 2 * cores b
  pub depth_long : length (depth_part b ws) ≡ 2 * domain_count b.levels
  pub row_long : length (row_part b ws) ≡ 4 * cores b

pub are_long : (b : BoardValue) (ws : List ℕ) → length ws ≡ part_count b → AreLong b ws
are_long b ws e =
    let n : ℕ = 2 * cores b in
    let d : ℕ = 2 * domain_count b.levels in
    let r : ℕ = 4 * cores b in
    let all : length ws ≡ n + (d + (r + 12 * (cores b + 1))) = e in
    let rest : length (drop n ws) ≡ d + (r + 12 * (cores b + 1)) =
    omega (arith, all, length-drop n ws) in
    let last : length (drop d (drop n ws)) ≡ r + 12 * (cores b + 1) =
    omega (arith, rest, length-drop d (drop n ws)) in
    record {
      core_long = length-take-le n ws (omega (arith, all));
      depth_long = length-take-le d (drop n ws) (omega (arith, rest));
      row_long = length-take-le r (drop d (drop n ws)) (omega (arith, last));
    }

flag_back : (n : ℕ) → n ≤ 1 → flag (n == 1) ≡ n
flag_back zero h = refl
flag_back (suc zero) h = refl
flag_back (suc (suc n)) h = absurd (omega (arith, h))

mode_back : (n : ℕ) → n ≤ 1 → mode_number (mode_of n) ≡ n
mode_back zero h = refl
mode_back (suc zero) h = refl
mode_back (suc (suc n)) h = absurd (omega (arith, h))

-- parts that were loaded from such words are saved as they are
pub parts_loaded : (b : BoardValue) (ws : List ℕ) (s : StateValue)
    → flat_map core_words s.tree.cores ≡ core_part b ws → depth_words s.tree ≡ depth_part b ws
    → flat_map row_words s.rows ≡ row_part b ws → slots_words s.slots ≡ slot_part b ws
    → part_words s ≡ ws
parts_loaded b ws s first second third fourth =
    let n = 2 * cores b in
    let d = 2 * domain_count b.levels in
    let r = 4 * cores b in
    let behind = drop d (drop n ws) in
    ap (λ xs. xs ++ (depth_words s.tree ++ (flat_map row_words s.rows ++ slots_words s.slots)))
    first
    ∙ ap (λ xs. take n ws ++ (xs ++ (flat_map row_words s.rows ++ slots_words s.slots))) second
    ∙ ap (λ xs. take n ws ++ (take d (drop n ws) ++ (xs ++ slots_words s.slots))) third
    ∙ ap (λ xs. take n ws ++ (take d (drop n ws) ++ (take r behind ++ xs))) fourth
    ∙ ap (λ xs. take n ws ++ (take d (drop n ws) ++ xs)) (take-append-drop r behind)
    ∙ ap (λ xs. take n ws ++ xs) (take-append-drop d (drop n ws))
    ∙ take-append-drop n ws

-- and so is a state with these parts
pub loaded : (b : BoardValue) (ws : List ℕ) (s : StateValue) → IsSaved b ws
    → s.life ≡ get_or ws 2 0 → s.halting ≡ (get_or ws 3 0 == 1) → s.mode ≡ mode_of (get_or ws 4 0)
    → part_words s ≡ drop 5 ws → saved s ≡ ws
unfolding saved
loaded b ws s is life halting mode parts =
    let heading : life_words s ≡ get_or ws 2 0 ∷ get_or ws 3 0 ∷ get_or ws 4 0 ∷ [] =
    ap (λ x. x ∷ flag s.halting ∷ mode_number s.mode ∷ []) life
    ∙ ap (λ x. get_or ws 2 0 ∷ x ∷ mode_number s.mode ∷ [])
    (ap flag halting ∙ flag_back (get_or ws 3 0) is.halts)
    ∙ ap (λ x. get_or ws 2 0 ∷ get_or ws 3 0 ∷ x ∷ [])
    (ap mode_number mode ∙ mode_back (get_or ws 4 0) is.modes) in
    let words : life_words s ++ part_words s
    ≡ get_or ws 2 0 ∷ get_or ws 3 0 ∷ get_or ws 4 0 ∷ drop 5 ws =
    ap (λ xs. xs ++ part_words s) heading
    ∙ ap (λ xs. get_or ws 2 0 ∷ get_or ws 3 0 ∷ get_or ws 4 0 ∷ xs) parts in
    ap (λ xs. FORMAT ∷ sum_from 0 xs ∷ xs) words ∙ is.whole

-- the words behind the heading
pub behind_heading : (ws : List ℕ) → take (length ws - 5) (drop 5 ws) ≡ drop 5 ws
behind_heading ws = take_all (length ws - 5) (drop 5 ws) (omega (arith, length-drop 5 ws))

-- Saved parts -------------------------------------------------------------------------------------

-- Written ------------------------------------------------------------------------------------

-- part after part is written
pub parts_written : (u v w x y z : List ℕ) (a b c d e f g h i : ℕ) (hs ps qs rs ss : List ℕ)
    → take a v ≡ take 0 u ++ hs → a ≡ b → take c w ≡ take b v ++ ps → c ≡ d
    → take e x ≡ take d w ++ qs → e ≡ f → take g y ≡ take f x ++ rs → g ≡ h
    → take i z ≡ take h y ++ ss → length z ≤ i → z ≡ hs ++ (ps ++ (qs ++ (rs ++ ss)))
parts_written u v w x y z a b c d e f g h i hs ps qs rs ss one ab two cd three ef four gh five all =
    let first : take b v ≡ hs = ap (λ n. take n v) (sym ab) ∙ one in
    let second : take d w ≡ hs ++ ps =
    ap (λ n. take n w) (sym cd) ∙ two ∙ ap (λ xs. xs ++ ps) first in
    let third : take f x ≡ hs ++ (ps ++ qs) =
    ap (λ n. take n x) (sym ef) ∙ three ∙ ap (λ xs. xs ++ qs) second ∙ append_assoc hs ps qs in
    let fourth : take h y ≡ hs ++ (ps ++ (qs ++ rs)) =
    ap (λ n. take n y) (sym gh) ∙ four ∙ ap (λ xs. xs ++ rs) third
    ∙ append_assoc hs (ps ++ qs) rs ∙ ap (λ xs. hs ++ xs) (append_assoc ps qs rs) in
    sym (take_all i z all)
    ∙ five
    ∙ ap (λ xs. xs ++ ss) fourth
    ∙ append_assoc hs (ps ++ (qs ++ rs)) ss
    ∙ ap (λ xs. hs ++ xs) (append_assoc ps (qs ++ rs) ss
    ∙ ap (λ xs. ps ++ xs) (append_assoc qs rs ss))

-- and at last the sum
pub sum_written : (s : StateValue) (z : List ℕ) (sum : ℕ)
    → z ≡ FORMAT ∷ 0 ∷ (life_words s ++ part_words s)
    → sum ≡ sum_from 0 (take (length z - 2) (drop 2 z)) → set z 1 sum ≡ saved s
unfolding saved
sum_written s z sum whole is =
    let rest : take (length z - 2) (drop 2 z) ≡ life_words s ++ part_words s =
    ap (λ xs. take (length z - 2) (drop 2 xs)) whole
    ∙ take_all (length z - 2) (life_words s ++ part_words s)
    (omega (arith, ap (λ (xs : List ℕ). length xs) whole)) in
    ap (λ xs. set xs 1 sum) whole
    ∙ ap (λ n. FORMAT ∷ n ∷ (life_words s ++ part_words s)) (is ∙ ap (λ xs. sum_from 0 xs) rest)

-- Lengths ------------------------------------------------------------------------------------

-- how many words each part has
pub record AreCounted (s : StateValue) : Type 0 where
  pub of_cores : length (flat_map core_words s.tree.cores) ≡ 2 * cores s.board
  pub of_depths : length (depth_words s.tree) ≡ 2 * domain_count s.board.levels
  pub of_rows : length (flat_map row_words s.rows) ≡ 4 * cores s.board
  pub of_slots : length (slots_words s.slots) ≡ 12 * (cores s.board + 1)

pub many_parts : (s : StateValue) → AreCounted s → length (part_words s) ≡ part_count s.board
many_parts s is =
    let ps = flat_map core_words s.tree.cores in
    let qs = depth_words s.tree in
    let rs = flat_map row_words s.rows in
    let ss = slots_words s.slots in
    omega (
      arith,
      length-append ps (qs ++ (rs ++ ss)),
      length-append qs (rs ++ ss),
      length-append rs ss,
      is.of_cores,
      is.of_depths,
      is.of_rows,
      is.of_slots,
    )

pub many_saved : (s : StateValue) → AreCounted s → length (saved s) ≡ 5 + part_count s.board
unfolding saved
many_saved s is = omega (arith, many_parts s is)

-- Faults -------------------------------------------------------------------------------------

-- the words of each part are such
pub record AreGood (s : StateValue) : Type 0 where
  pub counted : AreCounted s
  pub of_cores : are_cores (flat_map core_words s.tree.cores) ≡ true
  pub of_depths : are_depths s.board.levels (depth_words s.tree) ≡ true
  pub of_slots : are_slots (cores s.board + 1) (slots_words s.slots) ≡ true

none_from : (t : Bool) (x : SavedFault) (o : Option SavedFault) → t ≡ false → o ≡ None
    → cond t (Some x) o ≡ None
none_from t x o e f = ap (λ b. cond b (Some x) o) e ∙ f

front : (n : ℕ) (xs ys : List ℕ) → length xs ≡ n → take n (xs ++ ys) ≡ xs
front n xs ys e = ap (λ k. take k (xs ++ ys)) (sym e) ∙ take-append_seam xs ys

back : (n : ℕ) (xs ys : List ℕ) → length xs ≡ n → drop n (xs ++ ys) ≡ ys
back n xs ys e = ap (λ k. drop k (xs ++ ys)) (sym e) ∙ drop-append_seam xs ys

no_part_fault : (s : StateValue) → AreGood s → part_fault s.board (part_words s) ≡ None
no_part_fault s is =
    let b = s.board in
    let ps = flat_map core_words s.tree.cores in
    let qs = depth_words s.tree in
    let rs = flat_map row_words s.rows in
    let ss = slots_words s.slots in
    let n = 2 * cores b in
    let d = 2 * domain_count b.levels in
    let r = 4 * cores b in
    let first : take n (part_words s) ≡ ps = front n ps (qs ++ (rs ++ ss)) is.counted.of_cores in
    let after : drop n (part_words s) ≡ qs ++ (rs ++ ss) =
    back n ps (qs ++ (rs ++ ss)) is.counted.of_cores in
    let second : take d (drop n (part_words s)) ≡ qs =
    ap (λ xs. take d xs) after ∙ front d qs (rs ++ ss) is.counted.of_depths in
    let behind : drop d (drop n (part_words s)) ≡ rs ++ ss =
    ap (λ xs. drop d xs) after ∙ back d qs (rs ++ ss) is.counted.of_depths in
    let third : take r (drop d (drop n (part_words s))) ≡ rs =
    ap (λ xs. take r xs) behind ∙ front r rs ss is.counted.of_rows in
    let fourth : drop r (drop d (drop n (part_words s))) ≡ ss =
    ap (λ xs. drop r xs) behind ∙ back r rs ss is.counted.of_rows in
    none_from _ faults.Core _ (ap not (ap are_cores first ∙ is.of_cores))
    (none_from _ faults.Depth _ (ap not (ap (λ xs. are_depths b.levels xs) second ∙ is.of_depths))
    (none_from _ faults.Row _ (ap not (ap are_rows third ∙ rows_good s.rows))
    (none_from _ faults.Message _
    (ap not (ap (λ xs. are_slots (cores b + 1) xs) fourth ∙ is.of_slots)) refl)))

flag_few : (t : Bool) → nat_le (flag t) 1 ≡ true
flag_few true = refl
flag_few false = refl

mode_few : (m : SuspendMode) → nat_le (mode_number m) 1 ≡ true
mode_few Platform = refl
mode_few OsInitiated = refl

-- words that were saved have no fault
pub no_fault : (s : StateValue) → AreGood s → s.life ≤ s.board.lives
    → saved_fault s.board (saved s) ≡ None
unfolding saved saved_fault
no_fault s is life =
    none_from _ faults.Length _ (ap not (eq-eqb _ _ (many_parts s is.counted)))
    (none_from _ faults.Format _ (ap not (eq-eqb FORMAT FORMAT refl))
    (none_from _ faults.Sum _ (ap not (eq-eqb (sum_from 0 (life_words s ++ part_words s)) _ refl))
    (none_from _ faults.Life _ (le-ltb s.board.lives s.life life)
    (none_from _ faults.Mode _
    (ap not (and_from _ _ (flag_few s.halting) (mode_few s.mode)))
    (no_part_fault s is)))))

-- What is told -------------------------------------------------------------------------------

flag_told : (s t : Bool) → flag s ≡ flag t → s ≡ t
flag_told true true e = refl
flag_told false false e = refl
flag_told true false e = absurd (omega (arith, e))
flag_told false true e = absurd (omega (arith, e))

mode_told : (m n : SuspendMode) → mode_number m ≡ mode_number n → m ≡ n
mode_told Platform Platform e = refl
mode_told OsInitiated OsInitiated e = refl
mode_told Platform OsInitiated e = absurd (omega (arith, e))
mode_told OsInitiated Platform e = absurd (omega (arith, e))

-- the parts of two states with the same words are the same
pub record AreSame (s t : StateValue) : Type 0 where
  pub life : s.life ≡ t.life
  pub halting : s.halting ≡ t.halting
  pub mode : s.mode ≡ t.mode
  pub cores : flat_map core_words s.tree.cores ≡ flat_map core_words t.tree.cores
  pub depths : depth_words s.tree ≡ depth_words t.tree
  pub rows : flat_map row_words s.rows ≡ flat_map row_words t.rows
  pub slots : slots_words s.slots ≡ slots_words t.slots

pub parts_told : (s t : StateValue) → AreCounted s → AreCounted t → s.board ≡ t.board
    → saved s ≡ saved t → AreSame s t
unfolding saved
parts_told s t is are board e =
    let n = 2 * cores s.board in
    let d = 2 * domain_count s.board.levels in
    let r = 4 * cores s.board in
    let ps = flat_map core_words s.tree.cores in
    let qs = depth_words s.tree in
    let rs = flat_map row_words s.rows in
    let ss = slots_words s.slots in
    let pt = flat_map core_words t.tree.cores in
    let qt = depth_words t.tree in
    let rt = flat_map row_words t.rows in
    let st = slots_words t.slots in
    let many : length pt ≡ n = are.of_cores ∙ ap (λ (b : BoardValue). 2 * cores b) (sym board) in
    let deep : length qt ≡ d =
    are.of_depths ∙ ap (λ (b : BoardValue). 2 * domain_count b.levels) (sym board) in
    let long : length rt ≡ r = are.of_rows ∙ ap (λ (b : BoardValue). 4 * cores b) (sym board) in
    let all : ps ++ (qs ++ (rs ++ ss)) ≡ pt ++ (qt ++ (rt ++ st)) = ap (λ xs. drop 5 xs) e in
    let after : qs ++ (rs ++ ss) ≡ qt ++ (rt ++ st) =
    sym (back n ps (qs ++ (rs ++ ss)) is.of_cores) ∙ ap (λ xs. drop n xs) all
    ∙ back n pt (qt ++ (rt ++ st)) many in
    let behind : rs ++ ss ≡ rt ++ st =
    sym (back d qs (rs ++ ss) is.of_depths) ∙ ap (λ xs. drop d xs) after
    ∙ back d qt (rt ++ st) deep in
    record {
      life = ap (λ xs. get_or xs 2 0) e;
      halting = flag_told s.halting t.halting (ap (λ xs. get_or xs 3 0) e);
      mode = mode_told s.mode t.mode (ap (λ xs. get_or xs 4 0) e);
      cores = sym (front n ps (qs ++ (rs ++ ss)) is.of_cores) ∙ ap (λ xs. take n xs) all
          ∙ front n pt (qt ++ (rt ++ st)) many;
      depths = sym (front d qs (rs ++ ss) is.of_depths) ∙ ap (λ xs. take d xs) after
          ∙ front d qt (rt ++ st) deep;
      rows = sym (front r rs ss is.of_rows) ∙ ap (λ xs. take r xs) behind ∙ front r rt st long;
      slots = sym (back r rs ss is.of_rows) ∙ ap (λ xs. drop r xs) behind ∙ back r rt st long;
    }

-- Counts -------------------------------------------------------------------------------------

level_of : (kept : List (List StatusCounts)) (k : ℕ) → level_counts kept (k + 1) ≡ get_or kept k []
level_of kept k = let same : k + 1 - 1 ≡ k = omega arith in ap (λ j. get_or kept j []) same

-- what is counted of the same statuses is the same
pub counts_same : (levels : List (List ℕ)) (status : ℕ → Status) (ks ls : List (List StatusCounts))
    → AreCounts levels status ks → AreCounts levels status ls → ks ≡ ls
counts_same levels status ks ls f g =
    let long : length ks ≡ length ls = f.shape.height ∙ sym g.shape.height in
    same_lists ks ls long (λ k d h.
    get_or_default ks k d [] h
    ∙ row_same k (omega (arith, h, f.shape.height))
    ∙ get_or_default ls k [] d (omega (arith, h, long)))
  where
    row_same : (k : ℕ) → k < length levels → get_or ks k [] ≡ get_or ls k []
    row_same k h =
        let size = λ (js : List (List StatusCounts)). length (level_counts js (k + 1)) in
        let many : length (get_or ks k []) ≡ size_below (drop (k + 1) levels) =
        ap (λ (row : List StatusCounts). length row) (sym (level_of ks k))
        ∙ f.shape.domains (k + 1) (omega arith) (omega (arith, h)) in
        let other : length (get_or ls k []) ≡ size_below (drop (k + 1) levels) =
        ap (λ (row : List StatusCounts). length row) (sym (level_of ls k))
        ∙ g.shape.domains (k + 1) (omega arith) (omega (arith, h)) in
        same_lists (get_or ks k []) (get_or ls k []) (many ∙ sym other) (λ p d i.
        get_or_default (get_or ks k []) p d no_cores i
        ∙ ap (λ (row : List StatusCounts). get_or row p no_cores) (sym (level_of ks k))
        ∙ f.each (k + 1) p (omega arith) (omega (arith, h)) (omega (arith, i, many))
        ∙ sym (g.each (k + 1) p (omega arith) (omega (arith, h)) (omega (arith, i, many)))
        ∙ ap (λ (row : List StatusCounts). get_or row p no_cores) (level_of ls k)
        ∙ get_or_default (get_or ls k []) p no_cores d (omega (arith, i, many, other)))
