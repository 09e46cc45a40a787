-- A life begins: what the values in the state are then.
use Rattle.std.proofs.Common.{sum}
use Rattle.std.specs.List.{AllPass}
use Rattle.std.proofs.Math.ListN.{replicate}
use Rattle.psci_fw_state.proofs.Words.{◌&&◌, ◌<◌, ◌==◌, ◌∙◌, ◌∷◌, ◌≡◌, ◌≤◌, [], and_parts, ap}
use Rattle.psci_fw_state.proofs.Words.{arith, BoardValue, Bool, cases_lt, cond, CoreRow, cores}
use Rattle.psci_fw_state.proofs.Words.{CoreState, drop, false, first_row, get_or}
use Rattle.psci_fw_state.proofs.Words.{get_or-replicate, get_or_past, granted_at, height}
use Rattle.psci_fw_state.proofs.Words.{in_life, inl, inr, is_confirmed_at, IsDomainTree, IsState}
use Rattle.psci_fw_state.proofs.Words.{IsTree, leb, leb-true, length, length-map}
use Rattle.psci_fw_state.proofs.Words.{length-replicate, List, ltb, ltb-true, map, message_in}
use Rattle.psci_fw_state.proofs.Words.{MessageValue, never_started, nodes, None, not, off_row}
use Rattle.psci_fw_state.proofs.Words.{Option, phase_by, place_above, Platform, refl, row_at}
use Rattle.psci_fw_state.proofs.Words.{size_below, Slot, SlotsValue, state_at, StateValue}
use Rattle.psci_fw_state.proofs.Words.{status_at, StatusCounts, sum_by-cons, sym, TreeValue}
use Rattle.psci_fw_state.proofs.Words.{true, updated, Values, ℕ}
use Rattle.psci_board.specs.Board.{IsBoard, is_width, up}
use Rattle.psci_messages.specs.Slots.{no_messages}
use Rattle.psci_messages.specs.Slots.Slot.{OfCore, OfSystem}
use Rattle.psci_fw_spec.specs.Changes.{first_confirmed, first_granted, first_phase, first_status}
use Rattle.psci_fw_spec.specs.Changes.{start_of_life}
use Rattle.psci_fw_state.specs.Rows.{AreFirst}
use Rattle.psci_fw_state.specs.Seen.{values_in}
use Rattle.psci_fw_state.proofs.Moved.{eqb_swap}
use Rattle.psci_state.specs.declared.cores.Activity.TheVariants as activities
use Rattle.psci_fw_spec.specs.declared.status.Status.TheVariants as statuses
use Rattle.psci_tree.specs.Recount.{level_sizes}
use Rattle.psci_tree.proofs.Granted.{length_level_sizes, row_length}

-- Domains that are not there ------------------------------------------------------------------

off_board : (levels gs : List (List ℕ)) (l p : ℕ) → map length gs ≡ level_sizes levels
    → (l ≤ length levels → p < size_below (drop l levels) → ⊥)
    → get_or (get_or gs l []) p 0 ≡ 0
off_board levels gs l p e n = elim (cases_lt (length levels) l) [
  | inl h ↦
      let none : get_or gs l [] ≡ [] = get_or_past gs l []
      (omega (arith, length-map gs length, ap length e, length_level_sizes levels)) in
      rw none refl
  | inr h ↦ elim (cases_lt p (size_below (drop l levels))) [
    | inl k ↦ absurd (n h k)
    | inr k ↦ get_or_past (get_or gs l []) p 0 (omega (arith, row_length levels gs l e h))
  ]
]

pub granted_beyond : (t : TreeValue) (l p : ℕ) → IsDomainTree t
    → (l ≤ length t.levels → p < size_below (drop l t.levels) → ⊥) → granted_at t l p ≡ 0
granted_beyond t l p is n = off_board t.levels t.granted l p is.granted n

pub confirmed_beyond : (t : TreeValue) (l p : ℕ) → IsDomainTree t
    → (l ≤ length t.levels → p < size_below (drop l t.levels) → ⊥) → is_confirmed_at t l p ≡ false
confirmed_beyond t l p is n = ap (ltb 0) (off_board t.levels t.confirmed l p is.confirmed n)

-- Every board has a core ------------------------------------------------------------------------

some_in : (w : List ℕ) → AllPass is_width w → 0 < length w → 0 < sum w
some_in [] all some = absurd (omega arith)
some_in (n ∷ ns) all some =
    let wide : 0 < n = ltb-true 0 n (and_parts _ _ (all 0 0 (omega arith))).0 in
    omega (arith, sum_by-cons (λ x. x) n ns)

pub some_below : (ws : List (List ℕ)) → IsTree ws → 0 < size_below ws
some_below [] t = omega arith
some_below (w ∷ ws) t = some_in w t.2 (omega (arith, t.0, some_below ws t.3))

-- Rows ------------------------------------------------------------------------------------------

beyond : (b : BoardValue) (k : ℕ) → 0 < k → off_row ≡ first_row b k
beyond b k h = let other : (k == 0) ≡ false = grind arith in rw other refl

pub each_first : (b : BoardValue) (rows : List CoreRow) → IsBoard b → AreFirst b rows
    → (k : ℕ) → row_at rows k ≡ first_row b k
each_first b rows is first k = elim (cases_lt k (cores b)) [
  | inl h ↦ first.each k h
  | inr h ↦ get_or_past rows k off_row (omega (arith, first.count))
      ∙ beyond b k (omega (arith, some_below b.levels is.tree))
]

-- every core is OFF, once the boot core is
pub off_but_boot : (b : BoardValue) (rows : List CoreRow) → IsBoard b → AreFirst b rows → (k : ℕ)
    → updated (status_at rows) 0 statuses.Off k ≡ statuses.Off
off_but_boot b rows is first k = grind (arith, each_first b rows is first k)

-- The values ------------------------------------------------------------------------------------

-- the state of a core at the start of a life
abbrev pub first_core : ℕ → CoreState
first_core c = cond (0 == c) (record { activity = activities.Active; known = 0 }) never_started

first_known : (c : ℕ) → (first_core c).known ≡ 0
first_known c = grind arith

first_is : (c : ℕ) → phase_by (first_status c) (first_core c).activity ≡ first_phase c
first_is c = grind arith

-- what is said of each domain at the start of a life: one thing on the boot core's path, another
-- beside it, and the first of what is not there
first_said : {X : Type 0} (b : BoardValue) (l p : ℕ) (x on off : X)
    → ((l ≤ height b → p < nodes b l → ⊥) → x ≡ on)
    → (l ≤ height b → p < nodes b l → x ≡ cond (place_above b.levels l 0 == p) on off)
    → x ≡ cond ((leb l (height b) && ltb p (nodes b l)) && not (p == place_above b.levels l 0))
    off on
first_said b l p x on off none law = by (leb l (height b)) (ltb p (nodes b l)) refl refl
  where
    apart : (y z : Bool) → leb l (height b) ≡ y → ltb p (nodes b l) ≡ z → (y && z) ≡ false
        → l ≤ height b → p < nodes b l → ⊥
    apart y z f g h i j = grind arith

    by : (y z : Bool) → leb l (height b) ≡ y → ltb p (nodes b l) ≡ z
        → x ≡ cond ((y && z) && not (p == place_above b.levels l 0)) off on
    by false z f g = none (apart false z f g refl)
    by true false f g = none (apart true false f g refl)
    by true true f g =
        law (leb-true _ _ f) (ltb-true _ _ g)
        ∙ ap (λ t. cond t on off) (eqb_swap (place_above b.levels l 0) p)
        ∙ flip (p == place_above b.levels l 0)
      where
        flip : (t : Bool) → cond t on off ≡ cond (not t) off on
        flip true = refl
        flip false = refl

not_there : (b : BoardValue) (u : TreeValue) (l p : ℕ) → u.levels ≡ b.levels
    → (l ≤ height b → p < nodes b l → ⊥)
    → l ≤ length u.levels → p < size_below (drop l u.levels) → ⊥
not_there b u l p e n = rw e n

granted_first : (b : BoardValue) (u : TreeValue) (l p : ℕ) → IsDomainTree u → u.levels ≡ b.levels
    → (l ≤ height b → p < nodes b l
    → granted_at u l p ≡ cond (place_above b.levels l 0 == p) 0 3)
    → granted_at u l p ≡ first_granted b l p
unfolding up
granted_first b u l p is e law =
    first_said b l p (granted_at u l p) 0 3 (λ n. granted_beyond u l p is (not_there b u l p e n))
    law

confirmed_first : (b : BoardValue) (u : TreeValue) (l p : ℕ) → IsDomainTree u
    → u.levels ≡ b.levels
    → (l ≤ height b → p < nodes b l
    → is_confirmed_at u l p ≡ cond (place_above b.levels l 0 == p) false true)
    → is_confirmed_at u l p ≡ first_confirmed b l p
unfolding up
confirmed_first b u l p is e law =
    first_said b l p (is_confirmed_at u l p) false true
    (λ n. confirmed_beyond u l p is (not_there b u l p e n)) law
    ∙ itself (first_confirmed b l p)
  where
    itself : (t : Bool) → cond t true false ≡ t
    itself true = refl
    itself false = refl

pub at_start : (b kept : BoardValue) (life : ℕ) (u : TreeValue) (rows : List CoreRow)
    (counts : List (List StatusCounts)) (slots : SlotsValue) → IsBoard b → IsDomainTree u
    → u.levels ≡ b.levels
    → ((c : ℕ) → state_at u c ≡ first_core c)
    → ((l p : ℕ) → l ≤ height b → p < nodes b l
    → granted_at u l p ≡ cond (place_above b.levels l 0 == p) 0 3)
    → ((l p : ℕ) → l ≤ height b → p < nodes b l
    → is_confirmed_at u l p ≡ cond (place_above b.levels l 0 == p) false true)
    → AreFirst b rows → ((slot : Slot) → message_in slots slot ≡ None)
    → values_in (record {
      board = kept;
      life = life;
      halting = false;
      mode = Platform;
      tree = u;
      rows = rows;
      counts = counts;
      slots = slots;
    }) ≡ start_of_life b life
unfolding values_in
at_start b kept life u rows counts slots is tree levels cores_are granted confirmed first empty =
    let each : (k : ℕ) → row_at rows k ≡ first_row b k = each_first b rows is first in
    λ i. record (start_of_life b life) {
      known = λ c. (ap (λ (x : CoreState). x.known) (cores_are c) ∙ first_known c) i;
      status = λ c. (each c i).status;
      phase = λ c.
          (ap (λ (r : CoreRow). phase_by r.status (state_at u c).activity) (each c)
          ∙ ap (λ (x : CoreState). phase_by (first_status c) x.activity) (cores_are c)
          ∙ first_is c) i;
      opening = λ c. (each c i).opening;
      granted = λ l p. granted_first b u l p tree levels (granted l p) i;
      confirmed = λ l p. confirmed_first b u l p tree levels (confirmed l p) i;
      outstanding = λ slot. empty slot i;
    }

-- at first no slot holds a message
pub none_in : (n : ℕ) (slot : Slot) → message_in (no_messages n) slot ≡ None
none_in n OfSystem = refl
none_in n (OfCore c) = elim (cases_lt c n) [
  | inl h ↦ get_or-replicate n c None None h
  | inr h ↦ get_or_past (replicate n None) c None
      (omega (arith, length-replicate {A = Option MessageValue} n None))
]

-- a life that is not the firmware's begins
pub begun : (s now : StateValue) (life : ℕ) (w : Values) → s ≡ now → (life ≡ s.life → ⊥)
    → w ≡ start_of_life s.board life → w ≡ in_life now.board life (values_in now)
unfolding values_in
begun s now life w e other is =
    let new : (life == s.life) ≡ false = grind arith in
    rw (← e) (rw new is)

pub granted_shown : (s now : StateValue) (l p : ℕ) → s ≡ now → IsState s
    → (l ≤ height s.board → p < nodes s.board l → ⊥) → 0 ≡ (values_in now).granted l p
unfolding values_in
granted_shown s now l p e is n =
    rw (← e) (sym (granted_beyond s.tree l p is.tree (not_there s.board s.tree l p is.levels n)))

pub confirmed_shown : (s now : StateValue) (l p : ℕ) → s ≡ now → IsState s
    → (l ≤ height s.board → p < nodes s.board l → ⊥) → false ≡ (values_in now).confirmed l p
unfolding values_in
confirmed_shown s now l p e is n =
    rw (← e) (sym (confirmed_beyond s.tree l p is.tree (not_there s.board s.tree l p is.levels n)))
