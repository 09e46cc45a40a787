-- What is kept of a text decides the verdict on it, and a text without a fault has a board.
use Rattle.std.specs.Prelude.{IsErrAnd}
use Rattle.psci_board.specs.Draft.{first_fault, unless}
use Rattle.psci_board.specs.Grammar.{hex_at, literal_at, number_at, spaced_at}
use Rattle.psci_board.specs.Verdict.{Answers, at_most, board_in, board_of, board_text, draft_in}
use Rattle.psci_board.specs.Verdict.{list_at, member_at, more_at, range_at, tree_at, verdict}
use Rattle.psci_board.specs.SummaryVerdict.{draft_of}
use Rattle.psci_board.specs.declared.fault.BoardFault.TheVariants.{Grammar, Memory}
use Rattle.psci_board.proofs.Fronts.{faulty, never_memory, of_board, without_fault}
use Rattle.psci_board.proofs.KeptTree.{heights, is_tree, IsFull, kept_all_ranges, kept_ranges}
use Rattle.psci_board.proofs.KeptTree.{kept_tree, levels_kept, total_kept, tree_is_kept}
use Rattle.psci_board.proofs.KeptTree.{uneven_kept, wide_kept, within}
use Rattle.psci_board.proofs.Terms.{◌%◌, ◌&&◌, ◌<◌, ◌==◌, ◌∙◌, ◌≡◌, [], AddressRange, ap, arith}
use Rattle.psci_board.proofs.Terms.{BadBoot, BadLimit, BadRange, BoardFault, BoardText}
use Rattle.psci_board.proofs.Terms.{BoardValue, Bool, cond, digits_value, Err, false}
use Rattle.psci_board.proofs.Terms.{format_or_original, has_bad_range, is_in_some, IsBoard}
use Rattle.psci_board.proofs.Terms.{length, List, map, MOST_CORES, nat_tests, None, not, Ok}
use Rattle.psci_board.proofs.Terms.{Option, option_and_then_some, option_map, or_parts, range_of}
use Rattle.psci_board.proofs.Terms.{refl, Result, same_Some, Some, subst, summary_board, sym}
use Rattle.psci_board.proofs.Terms.{take, take_all, text_summary, TextSummary, TooManyCores}
use Rattle.psci_board.proofs.Terms.{TooWide, TreeText, true, Uneven, verdict_or, ℕ}

-- the board of a text is a board
pub is_board : (t : BoardText) (v : BoardValue) → verdict t ≡ Ok v → IsBoard v
is_board t v said =
    let o = of_board (first_fault (draft_in t)) (board_in t) v said in
    let p = without_fault (draft_in t) o.0 in
    subst IsBoard o.1 (record {
      tree = is_tree t.tree p.narrow p.few;
      low = (heights t.tree).0;
      high = (heights t.tree).1;
      boot = p.boot;
      some_starts = p.some_starts;
      starts = p.starts;
      some_lives = p.some_lives;
      lives = p.lives;
    })

next : (b c : Bool) (f : BoardFault) (y o : Option BoardFault) (v w : BoardValue) → b ≡ c
    → (b ≡ false → unless y v ≡ unless o w)
    → unless (cond b (Some f) y) v ≡ unless (cond c (Some f) o) w
next true true f y o v w e h = refl
next true false f y o v w e h = cc
next false true f y o v w e h = cc
next false false f y o v w e h = h refl

abbrev pub kept_text : BoardText → TextSummary
kept_text t = record {
  tree = kept_tree t.tree;
  ranges = kept_ranges (map range_of t.ranges);
  boot = digits_value 16 t.boot;
  starts = t.starts;
  lives = t.lives;
  format = format_or_original t.format;
}

all_ranges : (rs : List AddressRange) → has_bad_range (length rs) rs ≡ false → take 4 rs ≡ rs
all_ranges rs h = take_all 4 rs (within 4 (length rs) (or_parts _ _ h).0)

decided_by : (t : BoardText) → IsFull t.tree
    → verdict t ≡ unless (first_fault (draft_of (kept_text t))) (summary_board (kept_text t))
unfolding first_fault
decided_by t full =
    let rs = map range_of t.ranges in
    let boot = digits_value 16 t.boot in
    let v = board_in t in
    let w = summary_board (kept_text t) in
    next _ _ Uneven _ _ v w (uneven_kept t.tree) (λ u.
    next _ _ TooWide _ _ v w (wide_kept t.tree full) (λ n.
    next _ _ TooManyCores _ _ v w (total_kept t.tree) (λ f.
    next _ _ BadRange _ _ v w refl (λ r.
    next _ _ BadBoot _ _ v w
    (ap (λ qs. not (boot % 4 == 0 && is_in_some qs boot)) (sym (all_ranges rs r))) (λ b.
    next _ _ BadLimit None None v w refl (λ l.
    let levels = sym (levels_kept t.tree full n (within MOST_CORES _ f)) in
    let ranges = sym (all_ranges rs r) in
    λ i. Ok (record (board_in t) { levels = levels i; ranges = ranges i })))))))

text_is_kept : (t : BoardText) → text_summary t ≡ kept_text t
text_is_kept t =
    let tree = tree_is_kept t.tree in
    let ranges = kept_all_ranges [] t.ranges in
    λ i. record (kept_text t) { tree = tree i; ranges = ranges i }

pub decided : (t : BoardText) → IsFull t.tree
    → verdict t ≡ unless (first_fault (draft_of (text_summary t))) (summary_board (text_summary t))
decided t full = grind (arith, nat_tests, unless, text_is_kept, decided_by)

-- the board of the bytes of a text is a board
pub board_of_text : (bytes : List ℕ) (b : BoardValue) → board_of bytes ≡ Ok b → IsBoard b
unfolding board_of
board_of_text bytes b e = of_text (board_text bytes) e
  where
    of_text : (o : Option BoardText) → verdict_or o ≡ Ok b → IsBoard b
    of_text None h = cc
    of_text (Some t) h = is_board t b h

-- What is said of a text, by what was kept of it.

-- The text -------------------------------------------------------------------------------------

some_item : {A : Type 0} (item : List ℕ → Option (A × List ℕ)) (bytes : List ℕ)
    (x : List A × List ℕ) → list_at item bytes ≡ Some x → 0 < length x.0
unfolding list_at
some_item item bytes x e = grind (arith, nat_tests, option_and_then_some, same_Some)

full_tree : (bytes : List ℕ) (x : TreeText × List ℕ) → tree_at bytes ≡ Some x → IsFull x.0
unfolding tree_at
full_tree bytes x e = grind (arith, nat_tests, option_and_then_some, same_Some, some_item)

pub full_text : (bytes : List ℕ) (t : BoardText) → board_text bytes ≡ Some t → IsFull t.tree
unfolding board_text
full_text bytes t e = grind (arith, nat_tests, option_and_then_some, IsFull, same_Some, full_tree)

-- What is said of the text ----------------------------------------------------------------------

pub not_of_grammar : (bytes : List ℕ) → None ≡ option_map text_summary (board_text bytes)
    → board_of bytes ≡ Err Grammar
unfolding board_of
not_of_grammar bytes e = grind (arith, nat_tests)

of_grammar : (bytes : List ℕ) (s : TextSummary)
    → Some s ≡ option_map text_summary (board_text bytes)
    → (t : BoardText) × (board_text bytes ≡ Some t) × (s ≡ text_summary t)
of_grammar bytes s e = grind (arith, nat_tests, same_Some)

pub record Said (bytes : List ℕ) (s : TextSummary) : Type 0 where
  pub text : BoardText
  pub verdict : verdict text ≡ unless (first_fault (draft_of s)) (summary_board s)
  pub all : board_of bytes ≡ unless (first_fault (draft_of s)) (summary_board s)

pub said_of : (bytes : List ℕ) (s : TextSummary)
    → Some s ≡ option_map text_summary (board_text bytes)
    → Said bytes s
unfolding board_of
said_of bytes s e = grind (arith, nat_tests, of_grammar, unless, decided, full_text)

pub good_text : (bytes : List ℕ) (s : TextSummary)
    → Some s ≡ option_map text_summary (board_text bytes)
    → None ≡ first_fault (draft_of s)
    → (board_of bytes ≡ Ok (summary_board s)) × IsBoard (summary_board s)
good_text bytes s e none =
    let d = said_of bytes s e in
    let f = ap (λ o. unless o (summary_board s)) (sym none) in
    (d.all ∙ f, is_board d.text (summary_board s) (d.verdict ∙ f))

pub bad_text : (bytes : List ℕ) (s : TextSummary) (f : BoardFault)
    → Some s ≡ option_map text_summary (board_text bytes) → Some f ≡ first_fault (draft_of s)
    → Answers (Err f) (board_of bytes)
bad_text bytes s f e some =
    let d = said_of bytes s e in
    faulty f (board_of bytes) (λ m. never_memory (draft_of s) (sym some ∙ ap Some m))
    (d.all ∙ ap (λ o. unless o (summary_board s)) (sym some))

-- memory is answered where the text has a board
pub no_fault : (v : BoardValue) (r said : Result BoardValue BoardFault) → said ≡ Ok v
    → IsErrAnd r (λ f. f ≡ Memory) → Answers r said
no_fault v (Ok b) r e m = absurd m
no_fault v (Err f) r e m = grind (arith, nat_tests)

pub ruleset saying = (not_of_grammar, good_text, bad_text, no_fault)

-- Readings ----------------------------------------------------------------------------------------
-- What an example unfolds to read a board text that is written out, and to say what is said of it.

unfoldable pub reading : Unit {0}
unfolding board_text tree_at member_at list_at more_at at_most spaced_at range_at hex_at number_at
    literal_at
reading = tt

unfoldable pub judging : Unit {0}
unfolding board_of first_fault reading
judging = tt
