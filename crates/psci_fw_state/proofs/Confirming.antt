-- Claims are confirmed one after another, from the core up.
use Rattle.std.proofs.Common.{slice_index_or}
use Rattle.psci_board.specs.Board.{below}
use Rattle.psci_tree.specs.Recount.{known}
use Rattle.psci_messages.specs.Slots.{answers, is_kind}
use Rattle.psci_messages.specs.declared.kind.Kind.{Kind}
use Rattle.psci_messages.specs.declared.kind.Kind.TheVariants.{Down}
use Rattle.psci_messages.specs.declared.taken.Taken.TheVariants.{Old}
use Rattle.psci_fw_spec.specs.Changes.{with_acknowledgement}
use Rattle.psci_fw_spec.specs.declared.status.Status.TheVariants as statuses
use Rattle.psci_fw_state.specs.Seen.{values_in}
use Rattle.psci_fw_state.proofs.Begun.{granted_beyond}
use Rattle.psci_fw_state.proofs.Moved.{core_changed, eqb_swap, updated_same}
use Rattle.psci_fw_state.proofs.Granting.{all_levels, IsDone, level_more}
use Rattle.psci_fw_state.proofs.Words.{◌&&◌, ◌+◌, ◌<◌, ◌==◌, ◌∙◌, ◌≡◌, ◌≤◌, Acknowledge}
use Rattle.psci_fw_state.proofs.Words.{AckValue, Activity, and_parts, answered, ap, applied_part}
use Rattle.psci_fw_state.proofs.Words.{arith, below_in, BoardValue, Bool, cases_lt, changed}
use Rattle.psci_fw_state.proofs.Words.{cond, confirms_on, CoreRow, cores, eq-eqb, eqb-true}
use Rattle.psci_fw_state.proofs.Words.{false, get_or_past, granted_at, height, inl, inr, is_away}
use Rattle.psci_fw_state.proofs.Words.{is_confirmed_at, is_last_claim, is_made_at, IsDomainTree}
use Rattle.psci_fw_state.proofs.Words.{known_at, length, List, message_in, MessageValue, min}
use Rattle.psci_fw_state.proofs.Words.{nat_lt, ne_eqb, Node, None, Option, Part, phase_by, refl}
use Rattle.psci_fw_state.proofs.Words.{row_at, slice_get, slice_get_past, Slot, slot_of}
use Rattle.psci_fw_state.proofs.Words.{SlotsValue, Some, state_at, StateValue, Status}
use Rattle.psci_fw_state.proofs.Words.{StatusCounts, sum_by, sym, taken, TreeValue, true}
use Rattle.psci_fw_state.proofs.Words.{turns_off, up, updated, Used, Values, ℕ}

-- what the parts confirm
abbrev last_claims : BoardValue → ℕ → List Part → TreeValue → ℕ → ℕ → Bool
last_claims b c parts t l p = cond (is_last_claim b t c parts l p) true (is_confirmed_at t l p)

-- what is confirmed once the parts below this level were looked at
pub record IsConfirmed (b : BoardValue) (c : ℕ) (parts : List Part) (t u : TreeValue) (n : ℕ)
    : Type 0 where
  pub done : IsDone (is_confirmed_at t) (last_claims b c parts t) (is_confirmed_at u) n
  pub granted : (l p : ℕ) → granted_at u l p ≡ granted_at t l p
  pub cores : (k : ℕ) → state_at u k ≡ state_at t k
  pub levels : u.levels ≡ t.levels
  pub tree : IsDomainTree u

-- the sum of the known starts below a domain, as the values have it
pub known_below : (b : BoardValue) (t u : TreeValue) (n : Node)
    → ((k : ℕ) → state_at u k ≡ state_at t k) → u.levels ≡ b.levels
    → known u n ≡ sum_by (known_at t) (below b n)
unfolding known
known_below b t u n cores levels =
    let same : (λ k. known_at u k) ≡ (λ k. known_at t k) = λ i k. (cores k i).known in
    ap (λ (f : ℕ → ℕ). sum_by f (below_in u.levels n)) same
    ∙ ap (λ (ws : List (List ℕ)). sum_by (known_at t) (below_in ws n)) levels

-- one level more
module _ (b : BoardValue) (c : ℕ) (parts : List Part) (t u w : TreeValue) (n : ℕ)
    (part : Option Part) (is : part ≡ slice_get parts n) (board : t.levels ≡ b.levels)
    (so_far : IsConfirmed b c parts t u n)
    (law : (l p : ℕ) → is_confirmed_at w l p
    ≡ cond (((n == l) && (up b n c == p)) && (nat_lt 0 (granted_at u n (up b n c))
    && is_made_at (known u (record { level = n; place = up b n c })) part))
    true (is_confirmed_at u l p))
    (granted : (l p : ℕ) → granted_at w l p ≡ granted_at u l p)
    (cores : (k : ℕ) → state_at w k ≡ state_at u k) (levels : w.levels ≡ u.levels)
    (tree : IsDomainTree w) where
  other : (l p : ℕ) → (n ≡ l → ⊥) → is_confirmed_at w l p ≡ is_confirmed_at u l p
  other l p ne = law l p ∙ (rw (ne_eqb n l ne) refl)

  sums : known u (record { level = n; place = up b n c })
      ≡ sum_by (known_at t) (below b (record { level = n; place = up b n c }))
  sums = known_below b t u _ so_far.cores (so_far.levels ∙ board)

  here : (p : ℕ) (on : Bool) → (p == up b n c) ≡ on → is_confirmed_at w n p
      ≡ cond (is_last_claim b t c parts n p) true (is_confirmed_at t n p)
  here p true e =
      let at : p ≡ up b n c = eqb-true p (up b n c) e in
      rw at (law n (up b n c)
      ∙ (rw (
        eq-eqb n n refl,
        eq-eqb (up b n c) (up b n c) refl,
        so_far.granted n (up b n c),
        sums,
        is,
        so_far.done.high n (up b n c)
            (omega arith),
      )
      refl))
  here p false e =
      rw e (law n p ∙ (rw (eq-eqb n n refl, eqb_swap (up b n c) p, e)
      (so_far.done.high n p (omega arith))))

  pub confirmed_more : IsConfirmed b c parts t w (n + 1)
  confirmed_more = record {
    done = level_more (is_confirmed_at t) (last_claims b c parts t) (is_confirmed_at u)
        (is_confirmed_at w) n other (λ p. here p (p == up b n c) refl) so_far.done;
    granted = λ l p. granted l p ∙ so_far.granted l p;
    cores = λ k. cores k ∙ so_far.cores k;
    levels = levels ∙ so_far.levels;
    tree = tree;
  }

-- no parts, nothing is confirmed
pub confirmed_none : (b : BoardValue) (c : ℕ) (parts : List Part) (t : TreeValue) (l p : ℕ)
    → slice_get parts l ≡ None
    → is_confirmed_at t l p ≡ cond (is_last_claim b t c parts l p) true (is_confirmed_at t l p)
confirmed_none b c parts t l p none =
    rw none (sym (off (p == up b l c) (nat_lt 0 (granted_at t l p))))
  where
    off : (on some : Bool)
        → cond (on && (some && false)) true (is_confirmed_at t l p) ≡ is_confirmed_at t l p
    off true true = refl
    off true false = refl
    off false some = refl

-- all parts: what is beyond them is not confirmed, and above all levels nothing is granted
pub confirmed_all : (b : BoardValue) (c : ℕ) (parts : List Part) (t u : TreeValue) (n : ℕ)
    → IsDomainTree t → t.levels ≡ b.levels → min (length parts) (height b + 1) ≤ n
    → IsConfirmed b c parts t u n → (l p : ℕ) → is_confirmed_at u l p
    ≡ cond (is_last_claim b t c parts l p) true (is_confirmed_at t l p)
confirmed_all b c parts t u n is board end so_far =
    all_levels (is_confirmed_at t) (last_claims b c parts t) (is_confirmed_at u) n
    (λ l p h. elim (cases_lt (height b) l) [
      | inl above ↦
          let none : granted_at t l p ≡ 0 =
          granted_beyond t l p is (λ low in'. absurd (omega (arith, ap length board))) in
          rw none (off l p (p == up b l c))
      | inr low ↦ sym (confirmed_none b c parts t l p (slice_get_past parts l (short l h low)))
    ]) so_far.done
  where
    off : (l p : ℕ) (on : Bool)
        → cond (on && false) true (is_confirmed_at t l p) ≡ is_confirmed_at t l p
    off l p true = refl
    off l p false = refl

    short : (l : ℕ) → n ≤ l → l ≤ height b → length parts ≤ l
    short l h low = omega (arith, end)

-- the values say the same
pub claims_confirmed : (s : StateValue) (a : AckValue) (parts : List Part)
    → ((level : ℕ) → slice_get parts level
    ≡ applied_part a level (message_in s.slots (slot_of a.kind a.core)))
    → (l p : ℕ) → is_last_claim s.board s.tree a.core.number parts l p
    ≡ confirms_on s.board (values_in s) a l p
unfolding values_in
claims_confirmed s a parts each l p =
    ap (λ (o : Option Part). (p == up s.board l a.core.number) && (nat_lt 0 (granted_at s.tree l p)
    && is_made_at (sum_by (known_at s.tree) (below s.board (record { level = l; place = p }))) o))
    (each l)

-- An acknowledgement is taken: what the values in the state are then ------------------------------

-- Slots -----------------------------------------------------------------------------------------

-- a Down that is used is of a core that has a slot
down_at : (a : AckValue) (s : SlotsValue) (kind : Kind) → is_kind kind Down ≡ true
    → taken a (message_in s (slot_of kind a.core)) ≡ Used → a.core.number < length s.cores
down_at a s Down d e = elim (cases_lt a.core.number (length s.cores)) [
  | inl h ↦ h
  | inr h ↦
      let past : slice_index_or s.cores a.core.number None ≡ None =
      get_or_past s.cores a.core.number None h in
      let old : taken a None ≡ Used = rw past at e in cc
]
down_at a s kind d e = cc

pub down_has_slot : (a : AckValue) (s : SlotsValue) (v : Values) → turns_off v a ≡ true
    → taken a (message_in s (slot_of a.kind a.core)) ≡ Used → a.core.number < length s.cores
down_has_slot a s v off used =
    down_at a s a.kind (and_parts _ _ (and_parts _ _ off).0).0 used

by_answer : (t : Bool) (n m : MessageValue) → Some m ≡ cond t (Some n) None
    → (Some n ≡ Some m) × (cond t Used Old ≡ Used)
by_answer true n m e = (sym e, refl)
by_answer false n m e = cc

-- what was sent where an acknowledgement is of an outstanding message, and that it is used
pub answered_used : (a : AckValue) (o : Option MessageValue) (m : MessageValue)
    → Some m ≡ answered a o → (o ≡ Some m) × (taken a o ≡ Used)
answered_used a None m e = cc
answered_used a (Some n) m e = by_answer (answers a n) n m e

-- Values ----------------------------------------------------------------------------------------

away_phase : (s t : Status) (a : Activity) → is_away (phase_by s a) ≡ true
    → phase_by t a ≡ phase_by s a
away_phase s t a e = grind arith

-- the tree after an acknowledgement: the claims that it says were carried out are confirmed
pub record IsAcked (s : StateValue) (u : TreeValue) (a : AckValue) : Type 0 where
  pub cores : (k : ℕ) → state_at u k ≡ state_at s.tree k
  pub granted : (l p : ℕ) → granted_at u l p ≡ granted_at s.tree l p
  pub confirmed : (l p : ℕ) → is_confirmed_at u l p
      ≡ cond (confirms_on s.board (values_in s) a l p) true (is_confirmed_at s.tree l p)

-- so it is once the parts that were applied are confirmed
pub acked_by : (s : StateValue) (u : TreeValue) (a : AckValue) (parts : List Part)
    → ((level : ℕ) → slice_get parts level
    ≡ applied_part a level (message_in s.slots (slot_of a.kind a.core)))
    → ((k : ℕ) → state_at u k ≡ state_at s.tree k)
    → ((l p : ℕ) → granted_at u l p ≡ granted_at s.tree l p)
    → ((l p : ℕ) → is_confirmed_at u l p
    ≡ cond (is_last_claim s.board s.tree a.core.number parts l p) true (is_confirmed_at s.tree l p))
    → IsAcked s u a
acked_by s u a parts each cores granted law = record {
  cores = cores;
  granted = granted;
  confirmed = λ l p.
      law l p
      ∙ ap (λ (t : Bool). cond t true (is_confirmed_at s.tree l p))
      (claims_confirmed s a parts each l p);
}

-- the parts that were applied, as the acknowledgement stands in memory
pub sent_parts : (s : SlotsValue) (a ack : AckValue) (parts : List Part) (m : MessageValue)
    → a ≡ ack → Some m ≡ answered ack (message_in s (slot_of ack.kind ack.core))
    → ((level : ℕ) → slice_get parts level ≡ applied_part ack level (Some m))
    → (level : ℕ) → slice_get parts level
    ≡ applied_part a level (message_in s (slot_of a.kind a.core))
sent_parts s a ack parts m f sent law level =
    rw f (law level ∙ ap (applied_part ack level) (sym (answered_used ack _ m sent).0))

goes_off : (s : Status) (a : Activity) (t : Bool) → (t ≡ true → is_away (phase_by s a) ≡ true)
    → phase_by (cond t statuses.Off s) a ≡ phase_by s a
goes_off s a true away = away_phase s statuses.Off a (away refl)
goes_off s a false away = refl

-- a used acknowledgement, which turns its core off or not
pub acked_changed : (s now : StateValue) (u : TreeValue) (rows : List CoreRow)
    (counts : List (List StatusCounts)) (slots : SlotsValue) (a : AckValue) (t : Bool) → s ≡ now
    → turns_off (values_in now) a ≡ t → IsAcked s u a
    → ((k : ℕ) → row_at rows k ≡ updated (row_at s.rows) a.core.number (record {
      status = cond t statuses.Off (row_at s.rows a.core.number).status;
      opening = (row_at s.rows a.core.number).opening;
    }) k)
    → ((slot : Slot) → message_in slots slot
    ≡ changed slot (Acknowledge a) (message_in s.slots slot))
    → values_in (record s { tree = u; rows = rows; counts = counts; slots = slots })
    ≡ with_acknowledgement now.board a (values_in now)
unfolding values_in
acked_changed s now u rows counts slots a t e off acked row left =
    let goes : turns_off (values_in s) a ≡ t = rw e off in
    let c : ℕ = a.core.number in
    rw (← e) (core_changed s u rows counts slots c (state_at s.tree c) _ _ _ _
    (λ k. acked.cores k ∙ sym (updated_same (state_at s.tree) c _ refl k)) row acked.granted
    acked.confirmed left
    ∙ (λ i. record (with_acknowledgement s.board a (values_in s)) {
      known = λ k. updated_same (known_at s.tree) c _ refl k i;
      status = updated (values_in s).status c
          (cond (sym goes i) statuses.Off (row_at s.rows c).status);
      phase = λ k. updated_same (values_in s).phase c _
          (goes_off (row_at s.rows c).status (state_at s.tree c).activity t
          (λ q. (and_parts _ _ (goes ∙ q)).1)) k i;
      opening = λ k. updated_same (values_in s).opening c _ refl k i;
    }))
