-- What is kept of a whole text, by what is kept of its parts, one after the other.
use Rattle.std.proofs.Common.{cond}
use Rattle.std.proofs.lemmas.Bool.{and_parts, not-false}
use Rattle.psci_board.specs.Draft.{first_fault, unless}
use Rattle.psci_board.specs.Grammar.{◌>>=◌, hex_at}
use Rattle.psci_board.specs.Verdict.{Answers, board_text, range_at}
use Rattle.psci_board.specs.Summary.{ranges_at, with_ranges}
use Rattle.psci_board.specs.declared.draft.BoardDraft.{BoardDraft}
use Rattle.psci_board.specs.declared.fault.BoardFault.TheVariants.{Memory}
use Rattle.psci_board.specs.declared.draft.TheConstants.{MOST_LIVES}
use Rattle.psci_board.proofs.KeptTree.{within}
use Rattle.psci_board.proofs.More.{literal_shortens, more_none, more_some, Shortens}
use Rattle.psci_board.proofs.More.{spaced_shortens}
use Rattle.psci_board.proofs.Terms.{◌-◌, ◌<◌, ◌^◌, ◌≡◌, ◌≤◌, ap, arith, BadBoot, BadLimit}
use Rattle.psci_board.proofs.Terms.{BadRange, BoardFault, BoardValue, Bool, codes, cond_some}
use Rattle.psci_board.proofs.Terms.{digits_value, Err, false, format_at, format_or_original}
use Rattle.psci_board.proofs.Terms.{is_limit, length, length-drop, List, literal_at, MOST_CORES}
use Rattle.psci_board.proofs.Terms.{nat_tests, no_ranges, None, number_at, Ok, Option}
use Rattle.psci_board.proofs.Terms.{option_and_then, option_and_then_some, option_map, refl}
use Rattle.psci_board.proofs.Terms.{Result, same_Some, Some, sym, text_summary, TextSummary}
use Rattle.psci_board.proofs.Terms.{TooManyCores, TooWide, tree_at, tree_summary, true, Uneven}
use Rattle.psci_board.proofs.Terms.{value_and_rest, ℕ}

-- A draft without a fault, and that memory is no fault of one -------------------------------------

passed : (b : Bool) (f : BoardFault) (y : Option BoardFault) → cond b (Some f) y ≡ None
    → (b ≡ false) × (y ≡ None)
passed true f y h = cc
passed false f y h = (refl, h)

limited : (most n : ℕ) → is_limit most n ≡ true → (0 < n) × (n ≤ most)
limited most n h = (grind (arith, nat_tests), grind (arith, nat_tests))

below_limit : (n : ℕ) → n ≤ 2 ^ 32 - 1 → n < 2 ^ 32
below_limit n h = omega arith

-- what holds of a draft that has no fault
pub record Faultless (d : BoardDraft) : Type 0 where
  pub even : d.is_uneven ≡ false
  pub narrow : d.is_too_wide ≡ false
  pub few : d.cores ≤ MOST_CORES
  pub ranges : d.has_bad_range ≡ false
  pub boot : d.may_boot ≡ true
  pub some_starts : 0 < d.starts
  pub starts : d.starts < 2 ^ 32
  pub some_lives : 0 < d.lives
  pub lives : d.lives ≤ MOST_LIVES

pub without_fault : (d : BoardDraft) → first_fault d ≡ None → Faultless d
unfolding first_fault
without_fault d h =
    let a = passed _ Uneven _ h in
    let b = passed _ TooWide _ a.1 in
    let c = passed _ TooManyCores _ b.1 in
    let e = passed _ BadRange _ c.1 in
    let f = passed _ BadBoot _ e.1 in
    let g = passed _ BadLimit _ f.1 in
    let limits = and_parts _ _ (not-false _ g.0) in
    let starts = limited (2 ^ 32 - 1) d.starts limits.0 in
    let lives = limited MOST_LIVES d.lives limits.1 in
    record {
      even = a.0;
      narrow = b.0;
      few = within MOST_CORES _ c.0;
      ranges = e.0;
      boot = not-false _ f.0;
      some_starts = starts.0;
      starts = below_limit d.starts starts.1;
      some_lives = lives.0;
      lives = lives.1;
    }

-- who is said to have a board has no fault
pub of_board : (o : Option BoardFault) (b v : BoardValue)
    → ◌≡◌ {A = Result BoardValue BoardFault} (unless o b) (Ok v) → (o ≡ None) × (b ≡ v)
of_board None b v h = (refl, cc)
of_board (Some f) b v h = cc

not_memory : (a b c d e f : Bool)
    → cond a (Some Uneven)
    (cond b (Some TooWide)
    (cond c (Some TooManyCores)
    (cond d (Some BadRange) (cond e (Some BadBoot) (cond f (Some BadLimit) None)))))
    ≡ Some Memory → ⊥
not_memory false false false false false false h = cc
not_memory a b c d e f h = cc

-- memory is no fault of a draft
pub never_memory : (d : BoardDraft) → first_fault d ≡ Some Memory → ⊥
unfolding first_fault
never_memory d h = grind (arith, nat_tests, not_memory)

-- what answers a fault that is told
pub faulty : (f : BoardFault) (r : Result BoardValue BoardFault) → (f ≡ Memory → ⊥) → r ≡ Err f
    → Answers (Err f) r
faulty Memory r n e = absurd (n refl)
faulty f r n e = e

-- Fronts ------------------------------------------------------------------------------------------

abbrev pub kept_at : List ℕ → Option TextSummary
kept_at bytes = do
  tree ← option_map (value_and_rest tree_summary) (tree_at bytes)
  rest ← literal_at (codes " exec") tree.1
  ranges ← option_map (value_and_rest (with_ranges no_ranges)) (ranges_at rest)
  rest ← literal_at (codes " boot ") ranges.1
  boot ← option_map (value_and_rest (digits_value 16)) (hex_at rest)
  rest ← literal_at (codes " starts ") boot.1
  starts ← number_at rest
  rest ← literal_at (codes " lives ") starts.1
  lives ← number_at rest
  format ← option_map format_or_original (format_at lives.1)
  Some (record {
    tree = tree.0;
    ranges = ranges.0;
    boot = boot.0;
    starts = starts.0;
    lives = lives.0;
    format = format;
  })

then_then : {A B C : Type 0} (f : A → Option B) (g : B → Option C) (o : Option A)
    → option_and_then g (option_and_then f o) ≡ option_and_then (λ x. option_and_then g (f x)) o
then_then f g None = refl
then_then f g (Some x) = refl

map_then : {A B C : Type 0} (f : A → B) (g : B → Option C) (o : Option A)
    → option_and_then g (option_map f o) ≡ option_and_then (λ x. g (f x)) o
map_then f g None = refl
map_then f g (Some x) = refl

pub kept_text : (bytes : List ℕ) → option_map text_summary (board_text bytes) ≡ kept_at bytes
unfolding board_text ranges_at
kept_text bytes = simp (then_then, map_then)

-- a part that is there, and one that is not
pub some : {A B : Type 0} {o : Option A} {x : A} (k : A → Option B) → Some x ≡ o
    → option_and_then k o ≡ k x
some k e = ap (option_and_then k) (sym e)

pub none : {A B : Type 0} {o : Option A} (k : A → Option B) → None ≡ o
    → option_and_then k o ≡ None
none k e = ap (option_and_then k) (sym e)

pub ruleset parts = (nat_tests, kept_text, some, none)

-- What is read of numbers and of ranges, step by step.

-- what was read, where a value of it and its rest are known
pub value_and_rest_some : {A B : Type 0} (f : A
    → B) (o : Option (A × List ℕ)) (v : B) (rest : List ℕ)
    → Some (v, rest) ≡ option_map (value_and_rest f) o → (x : A) × (o ≡ Some (x, rest)) × (v ≡ f x)
value_and_rest_some f None v rest e = cc
value_and_rest_some f (Some x) v rest e = grind (arith, nat_tests, same_Some)

pub value_and_rest_none : {A B : Type 0} (f : A → B) (o : Option (A × List ℕ))
    → None ≡ option_map (value_and_rest f) o → o ≡ None
value_and_rest_none f None e = refl
value_and_rest_none f (Some x) e = cc

pub hex_shortens : Shortens hex_at
unfolding hex_at
hex_shortens bytes x e =
    grind (arith, nat_tests, option_and_then_some, cond_some, length-drop, literal_shortens)

pub range_shortens : Shortens range_at
unfolding range_at
range_shortens bytes x e =
    option_and_then_some _ (hex_at bytes) x e (λ from a e1.
    option_and_then_some _ (literal_at (codes "-") from.1) x e1 (λ dash b e2.
    option_and_then_some _ (hex_at dash) x e2 (λ to d e3.
    let r : to.1 ≡ x.1 = cc in
    omega (arith, ap length r, hex_shortens _ _ a, literal_shortens _ _ _ b, hex_shortens _ _ d))))

unfoldable pub ranging : Unit {0}
unfolding ranges_at with_ranges
ranging = tt

pub ruleset reading = (
  nat_tests,
  range_shortens,
  value_and_rest_some,
  value_and_rest_none,
  spaced_shortens,
  more_some,
  more_none,
)
