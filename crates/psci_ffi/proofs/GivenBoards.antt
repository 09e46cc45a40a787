-- A struct without a fault gives a board, and what is said of one with a fault.
use Rattle.std.specs.Prelude.{◌==◌, Err, Ok, Result, nat_le}
use Rattle.std.specs.List.{list_all, list_any}
use Rattle.std.proofs.Common.{◌<◌, ◌∙◌, ◌∷◌, ◌≡◌, ◌≤◌, List, None, Some, [], ap, arith, false}
use Rattle.std.proofs.Common.{get_or, length, map, refl, suc, sum, take, true, zero, ℕ}
use Rattle.std.proofs.lemmas.Bool.{and_parts, eqb-true, leb-true, ltb-true, not-false, or_parts}
use Rattle.std.proofs.lemmas.Bool.Decides.{nat_tests}
use Rattle.std.proofs.lemmas.List.{length-map, length-take}
use Rattle.psci_board.specs.Board.{BoardValue, IsBoard, IsTree, size_below}
use Rattle.psci_board.specs.Draft.{first_fault}
use Rattle.psci_board.specs.Verdict.{Answers, is_out_of_width}
use Rattle.psci_board.specs.declared.fault.BoardFault.{BoardFault}
use Rattle.psci_board.specs.declared.fault.BoardFault.TheVariants.{Grammar}
use Rattle.psci_board.specs.declared.draft.TheConstants.{MOST_CORES}
use Rattle.psci_board.specs.psci_abi.declared.registers.Format.{Format}
use Rattle.psci_board.proofs.Fronts.{faulty, never_memory, without_fault}
use Rattle.psci_board.proofs.KeptTree.{pass_width}
use Rattle.psci_messages.specs.Message.{ArePartsOf}
use Rattle.psci_messages.specs.declared.kind.Kind.{Kind}
use Rattle.psci_messages.specs.declared.kind.Kind.TheVariants.{Down}
use Rattle.psci_messages.specs.declared.part.Part.{Part}
use Rattle.psci_ffi.specs.Frames.{has_parts}
use Rattle.psci_ffi.specs.Given.{board_given, board_of_given, draft_given, format_given, has_levels}
use Rattle.psci_ffi.specs.Given.{is_even, level_given, levels_given}
use Rattle.psci_ffi.specs.declared.given.GivenBoard.{GivenBoard}
use Rattle.psci_ffi.specs.declared.given.GivenLevel.{GivenLevel}

-- Parts that a message of a kind may have are such as a message has -------------------------------

none : (ps : List Part) → (length ps == 0) ≡ true → ps ≡ []
none [] h = refl
none (p ∷ ps) h = let e = eqb-true (length (p ∷ ps)) 0 h in absurd (omega (arith, e))

pub fit : (kind : Kind) (ps : List Part) → has_parts kind ps ≡ true → length ps ≤ 4
    → ArePartsOf kind ps
fit Down ps h few =
    let outer = and_parts _ _ h in
    let inner = and_parts _ _ outer.0 in
    record { some = ltb-true 0 _ inner.0; most = few; levels = inner.1; depths = outer.1 }
fit kind ps h few = none ps h

-- Given boards ------------------------------------------------------------------------------------

-- Levels ---------------------------------------------------------------------------------------

-- a level of a tree has at most as many children as a board has cores
pub few_below : (ls : List GivenLevel) (i : ℕ) (l : GivenLevel) → i < length ls
    → IsTree (map level_given ls) → sum (level_given (get_or ls i l)) ≤ MOST_CORES
few_below [] i l h t = absurd (omega (arith, h))
few_below (x ∷ ls) zero l h t = t.1
few_below (x ∷ ls) (suc i) l h t = few_below ls i l (omega (arith, h)) t.3

-- so many can be counted in a level
pub small : (n : ℕ) → n ≤ MOST_CORES → n < 65536
small n h = omega (arith, h)

-- no level has more nodes than a board has cores
few_nodes : (ls : List GivenLevel) → list_all (λ l. nat_le l.nodes MOST_CORES) ls ≡ true
    → list_all (λ w. nat_le (length w) MOST_CORES) (map level_given ls) ≡ true
few_nodes [] h = refl
few_nodes (l ∷ ls) h =
    let p = and_parts _ _ h in
    let n = leb-true l.nodes MOST_CORES p.0 in
    let s = length-take l.nodes l.children in
    let m : length (take l.nodes l.children) ≤ MOST_CORES = omega (arith, n, s) in
    let t : nat_le (length (take l.nodes l.children)) MOST_CORES ≡ true =
    grind (arith, nat_tests) in
    rw (t, few_nodes ls p.1) refl

-- levels that fit each other, and are neither too wide nor too many, are a tree
tree : (ws : List (List ℕ)) → is_even ws ≡ true
    → list_any (λ w. list_any is_out_of_width w) ws ≡ false
    → list_all (λ w. nat_le (length w) MOST_CORES) ws ≡ true → size_below ws ≤ MOST_CORES
    → IsTree ws
tree [] e w n s = tt
tree (v ∷ ws) e w n s =
    let p = and_parts _ _ e in
    let q = or_parts _ _ w in
    let r = and_parts _ _ n in
    let fits = eqb-true (length v) (size_below ws) p.0 in
    let few = leb-true (length v) MOST_CORES r.0 in
    (fits, s, pass_width v q.0, tree ws p.1 q.1 r.1 (omega (arith, fits, few)))

-- Boards ---------------------------------------------------------------------------------------

short : (g : GivenBoard) → g.height ≤ 3 → length (levels_given g) ≤ 3
short g h =
    let a = length-map (take g.height g.levels) level_given in
    let b = length-take g.height g.levels in
    omega (arith, a, b, h)

-- what a struct without a fault gives
pub is_board : (g : GivenBoard) (format : Format) → has_levels g ≡ true
    → first_fault (draft_given g) ≡ None → IsBoard (board_given g format)
is_board g format formed h =
    let p = without_fault (draft_given g) h in
    let outer = and_parts _ _ formed in
    let inner = and_parts _ _ outer.0 in
    record {
      tree = tree (levels_given g) (not-false _ p.even) p.narrow
          (few_nodes (take g.height g.levels) outer.1) p.few;
      low = ltb-true 0 _ inner.0;
      high = short g (leb-true g.height 3 inner.1);
      boot = p.boot;
      some_starts = p.some_starts;
      starts = p.starts;
      some_lives = p.some_lives;
      lives = p.lives;
    }

-- What is said --------------------------------------------------------------------------------

abbrev Said : Type 0
Said = Result BoardValue BoardFault

pub without_levels : (g : GivenBoard) → has_levels g ≡ false
    → ◌≡◌ {A = Said} (board_of_given g) (Err Grammar)
unfolding board_of_given
without_levels g h = rw h refl

pub without_format : (g : GivenBoard) → has_levels g ≡ true → format_given g.format ≡ None
    → ◌≡◌ {A = Said} (board_of_given g) (Err Grammar)
unfolding board_of_given
without_format g h f = rw (h, f) refl

with_fault : (g : GivenBoard) (format : Format) (fault : BoardFault) → has_levels g ≡ true
    → format_given g.format ≡ Some format → first_fault (draft_given g) ≡ Some fault
    → ◌≡◌ {A = Said} (board_of_given g) (Err fault)
unfolding board_of_given
with_fault g format fault h f e = rw (h, f, e) refl

pub bad_answer : (g : GivenBoard) (format : Format) (fault : BoardFault) → has_levels g ≡ true
    → format_given g.format ≡ Some format → first_fault (draft_given g) ≡ Some fault
    → Answers (Err fault) (board_of_given g)
bad_answer g format fault h f e =
    faulty fault (board_of_given g) (λ m. never_memory (draft_given g) (e ∙ ap Some m))
    (with_fault g format fault h f e)

pub faultless : (g : GivenBoard) (format : Format) → has_levels g ≡ true
    → format_given g.format ≡ Some format → first_fault (draft_given g) ≡ None
    → ◌≡◌ {A = Said} (board_of_given g) (Ok (board_given g format))
unfolding board_of_given
faultless g format h f e = rw (h, f, e) refl

-- what is answered of a struct, by its first fault
pub ruleset answering = (without_levels, without_format, bad_answer, faultless, is_board)
