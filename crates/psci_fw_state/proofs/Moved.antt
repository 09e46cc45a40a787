-- A core is suspended, asked on or arrives, or a Down was sent: what the values in the state are
-- then.
use Rattle.std.specs.Option.{option_or}
use Rattle.std.specs.Vec.{with_items}
use Rattle.std.proofs.Common.{Vec}
use Rattle.std.proofs.lemmas.Bool.{cases_eq}
use Rattle.psci_board.specs.Board.{up}
use Rattle.psci_state.specs.PowerState.{is_deep}
use Rattle.psci_state.specs.declared.cores.Activity.TheVariants as activities
use Rattle.psci_fw_spec.specs.Changes.{with_arrival, with_claims, with_pending, with_running}
use Rattle.psci_fw_spec.specs.Phases as phases
use Rattle.psci_fw_spec.specs.declared.status.Status.TheVariants as statuses
use Rattle.psci_fw_state.specs.Seen.{stopped, values_in}
use Rattle.psci_fw_state.proofs.KeptCounts.{same_counts}
use Rattle.psci_fw_state.proofs.Words.{◌<◌, ◌==◌, ◌∙◌, ◌≡◌, Activity, ap, AreCounts, arith}
use Rattle.psci_fw_state.proofs.Words.{BoardValue, Bool, changed, claimed_anew, Clear, cleared}
use Rattle.psci_fw_state.proofs.Words.{cond, CoreRow, cores, CoreState, false, get_or-set_other}
use Rattle.psci_fw_state.proofs.Words.{get_or-set_same, granted_at, granted_with, inl, inr}
use Rattle.psci_fw_state.proofs.Words.{is_confirmed_at, is_pending_phase, IsState, known_at}
use Rattle.psci_fw_state.proofs.Words.{length, length-set, List, message_in, MessageValue, None}
use Rattle.psci_fw_state.proofs.Words.{off_row, Opening, Option, Phase, phase_by, place_above}
use Rattle.psci_fw_state.proofs.Words.{Put, refl, row_at, set, size_below, Slot, SlotsValue}
use Rattle.psci_fw_state.proofs.Words.{Some, Start, state_at, StateValue, Status, status_at}
use Rattle.psci_fw_state.proofs.Words.{StatusCounts, suspends, sym, TreeValue, true, unconfirmed}
use Rattle.psci_fw_state.proofs.Words.{unless_pending, updated, Values, with_items_is}
use Rattle.psci_fw_state.proofs.Words.{with_phase, with_rest, ℕ}

-- What the values in a state say once the state of one core, or its row, is another one -----------

-- One core --------------------------------------------------------------------------------------

pub eqb_swap : (x y : ℕ) → (x == y) ≡ (y == x)
eqb_swap x y = grind arith

-- an update to what was there
pub updated_same : {A : Type 0} (f : ℕ → A) (c : ℕ) (x : A) → x ≡ f c → (k : ℕ)
    → updated f c x k ≡ f k
updated_same f c x e k = grind arith

-- the state of a core in the tree, by the tree's law
pub core_set : (t u : TreeValue) (c : ℕ) (x : CoreState)
    → ((k : ℕ) → state_at u k ≡ cond (c == k) x (state_at t k)) → (k : ℕ)
    → state_at u k ≡ updated (state_at t) c x k
core_set t u c x law k = law k ∙ ap (λ (a : Bool). cond a x (state_at t k)) (eqb_swap c k)

-- the row of a core that is there
pub row_set : (rows : List CoreRow) (c : ℕ) (r : CoreRow) → c < length rows → (k : ℕ)
    → row_at (set rows c r) k ≡ updated (row_at rows) c r k
row_set rows c r inside k = grind (arith, get_or-set_same, get_or-set_other, cases_eq k c)

both : {A B C : Type 0} (f : A → B → C) (t : Bool) (a a' : A) (b b' : B)
    → f (cond t a a') (cond t b b') ≡ cond t (f a b) (f a' b')
both f true a a' b b' = refl
both f false a a' b b' = refl

-- The values once this is the state of a core, and this its row, and all is granted, confirmed and
-- outstanding as these functions say.
pub core_changed : (s : StateValue) (u : TreeValue) (rows : List CoreRow)
    (counts : List (List StatusCounts)) (slots : SlotsValue) (c : ℕ) (x : CoreState) (r : CoreRow)
    (granted : ℕ → ℕ → ℕ) (confirmed : ℕ → ℕ → Bool) (outstanding : Slot → Option MessageValue)
    → ((k : ℕ) → state_at u k ≡ updated (state_at s.tree) c x k)
    → ((k : ℕ) → row_at rows k ≡ updated (row_at s.rows) c r k)
    → ((l p : ℕ) → granted_at u l p ≡ granted l p)
    → ((l p : ℕ) → is_confirmed_at u l p ≡ confirmed l p)
    → ((slot : Slot) → message_in slots slot ≡ outstanding slot)
    → values_in (record s { tree = u; rows = rows; counts = counts; slots = slots })
    ≡ record (values_in s) {
      known = updated (values_in s).known c x.known;
      status = updated (values_in s).status c r.status;
      phase = updated (values_in s).phase c (phase_by r.status x.activity);
      opening = updated (values_in s).opening c r.opening;
      granted = granted;
      confirmed = confirmed;
      outstanding = outstanding;
    }
unfolding values_in
core_changed s u rows counts slots c x r granted confirmed outstanding at row g f o =
    λ i. record (values_in s) {
      known = λ k. each (λ q y. y.known) k i;
      status = λ k. each (λ q y. q.status) k i;
      phase = λ k. each (λ q y. phase_by q.status y.activity) k i;
      opening = λ k. each (λ q y. q.opening) k i;
      granted = λ l p. g l p i;
      confirmed = λ l p. f l p i;
      outstanding = λ slot. o slot i;
    }
  where
    each : {C : Type 0} (h : CoreRow → CoreState → C) (k : ℕ) → h (row_at rows k) (state_at u k)
        ≡ cond (k == c) (h r x) (h (row_at s.rows k) (state_at s.tree k))
    each h k = rw (row k, at k) (both h (k == c) r (row_at s.rows k) x (state_at s.tree k))

-- Phases ----------------------------------------------------------------------------------------

pub off_is_away : (s : Status) → phase_by s activities.Away ≡ phases.Away
off_is_away s = grind arith

pub left_not_pending : (p left : Phase) → is_pending_phase p ≡ false → unless_pending p left ≡ left
left_not_pending p left e = grind arith

pub suspended_is : (s : Status) (ask : List ℕ)
    → phase_by s (activities.Suspended ask) ≡ phases.Suspended ask
suspended_is s ask = grind arith

-- Places ----------------------------------------------------------------------------------------

-- a core of the board has a place in the tree, in the rows and in the slots
pub within : (s now : StateValue) (c : ℕ) → s ≡ now → IsState s → c < cores now.board
    → c < length s.tree.cores
within s now c e is inside =
    let there : c < cores s.board = rw e inside in
    omega (arith, is.tree.cores, ap size_below is.levels)

pub in_rows : (s now : StateValue) (c : ℕ) → s ≡ now → IsState s → c < cores now.board
    → c < length s.rows
in_rows s now c e is inside =
    let there : c < cores s.board = rw e inside in
    omega (arith, is.rows)

-- Changes ---------------------------------------------------------------------------------------

-- a core that is not pending is off or going off
pub away_changed : (s now : StateValue) (u : TreeValue) (c : ℕ) → s ≡ now
    → is_pending_phase ((values_in now).phase c) ≡ false
    → ((k : ℕ) → state_at u k
    ≡ cond (c == k) (record { activity = activities.Away; known = known_at s.tree c })
    (state_at s.tree k))
    → ((l p : ℕ) → granted_at u l p ≡ granted_at s.tree l p)
    → ((l p : ℕ) → is_confirmed_at u l p ≡ is_confirmed_at s.tree l p)
    → values_in (record s { tree = u }) ≡ with_phase c phases.Away (values_in now)
unfolding values_in
away_changed s now u c e not at granted confirmed =
    let stops : is_pending_phase ((values_in s).phase c) ≡ false = rw e not in
    rw (← e) (core_changed s u s.rows s.counts s.slots c _ (row_at s.rows c) _ _ _
    (core_set s.tree u c _ at) (λ k. sym (updated_same (row_at s.rows) c _ refl k)) granted
    confirmed (λ slot. refl)
    ∙ (λ i. record (with_phase c phases.Away (values_in s)) {
      known = λ k. updated_same (known_at s.tree) c _ refl k i;
      status = λ k. updated_same (status_at s.rows) c _ refl k i;
      phase = updated (values_in s).phase c ((off_is_away (row_at s.rows c).status
          ∙ sym (left_not_pending ((values_in s).phase c) phases.Away stops)) i);
      opening = λ k. updated_same (values_in s).opening c _ refl k i;
    }))

-- the start is of the firmware's life
abbrev pub arrived : BoardValue → ℕ → Start → Values → Values
arrived b c s v = record v {
  known = updated v.known c s.number;
  opening = updated v.opening c None;
  granted = cleared b c v.granted;
  confirmed = unconfirmed b c v.confirmed;
  outstanding = λ slot. changed slot (Clear (record { number = c })) (v.outstanding slot);
}

-- Moved -------------------------------------------------------------------------------------------

-- the rows in memory, one of them set
pub rows_set : {Z : Type 0} (old : Vec CoreRow Z) (mid new : List CoreRow) (c : ℕ) (r : CoreRow)
    → mid ≡ old.items → new ≡ set mid c r → (with_items old new).items ≡ set old.items c r
rows_set old mid new c r e f =
    let long : length new ≡ old.len =
    ap length f ∙ length-set mid c r ∙ ap length e ∙ sym old.ok.0 in
    with_items_is old new long ∙ f ∙ ap (λ rows. set rows c r) e

-- what is counted stays, where a core goes on elsewhere and has the status that it had
pub counts_stay : (levels : List (List ℕ)) (rows new : List CoreRow) (c : ℕ) (r : CoreRow)
    (o : Option Opening) (kept : List (List StatusCounts)) → c < length rows → r ≡ row_at rows c
    → new ≡ set rows c (record { status = r.status; opening = o })
    → AreCounts levels (status_at rows) kept → AreCounts levels (status_at new) kept
counts_stay levels rows new c r o kept inside is e are =
    rw e (same_counts levels (status_at rows) _ kept are (λ k. elim (cases_eq k c) [
      | inl at ↦ rw at (ap (λ (q : CoreRow). q.status) (get_or-set_same rows c _ off_row inside)
          ∙ ap (λ (q : CoreRow). q.status) is)
      | inr n ↦ ap (λ (q : CoreRow). q.status) (get_or-set_other rows c k _ off_row n)
    ]))

-- Suspended -------------------------------------------------------------------------------------

pub suspended_changed : (s now : StateValue) (u : TreeValue) (rows : List CoreRow) (c : ℕ)
    (ask : List ℕ) (opening : Opening) (o : Option Opening) → s ≡ now
    → (values_in now).phase c ≡ phases.Running
    → ((k : ℕ) → state_at u k
    ≡ cond (c == k) (record { activity = activities.Suspended ask; known = known_at s.tree c })
    (state_at s.tree k))
    → ((k : ℕ) → row_at rows k ≡ updated (row_at s.rows) c (record {
      status = (row_at s.rows c).status;
      opening = option_or o (row_at s.rows c).opening;
    }) k)
    → ((l p : ℕ) → granted_at u l p ≡ granted_at s.tree l p)
    → ((l p : ℕ) → is_confirmed_at u l p ≡ is_confirmed_at s.tree l p)
    → cond (is_deep ask) (Some opening) None ≡ o
    → values_in (record s { tree = u; rows = rows })
    ≡ with_rest c (suspends opening ask) (values_in now)
unfolding values_in
suspended_changed s now u rows c ask opening o e running at row granted confirmed is =
    let runs : (values_in s).phase c ≡ phases.Running = rw e running in
    rw (← e, is) (core_changed s u rows s.counts s.slots c _ _ _ _ _ (core_set s.tree u c _ at) row
    granted confirmed (λ slot. refl)
    ∙ (λ i. record (with_rest c (record { phase = phases.Suspended ask; opening = o })
    (values_in s)) {
      known = λ k. updated_same (known_at s.tree) c _ refl k i;
      status = λ k. updated_same (status_at s.rows) c _ refl k i;
      phase = updated (values_in s).phase c ((suspended_is (row_at s.rows c).status ask
          ∙ sym (ap (λ (p : Phase). unless_pending p (phases.Suspended ask)) runs)) i);
    }))

-- Paths -----------------------------------------------------------------------------------------

-- nothing is said of the domains on the path of a core, as the tree says it and as the values do
on_path : {X : Type 0} (s : StateValue) (v : ℕ → ℕ → X) (x none : X) (c l p : ℕ) → IsState s
    → x ≡ cond (place_above s.tree.levels l c == p) none (v l p)
    → x ≡ cond (p == place_above s.board.levels l c) none (v l p)
on_path s v x none c l p is law =
    rw (is.levels, eqb_swap (place_above s.board.levels l c) p) at law

pub path_cleared : (s : StateValue) (u : TreeValue) (c : ℕ) → IsState s
    → ((l p : ℕ) → granted_at u l p
    ≡ cond (place_above s.tree.levels l c == p) 0 (granted_at s.tree l p))
    → (l p : ℕ) → granted_at u l p ≡ cleared s.board c (granted_at s.tree) l p
unfolding up
path_cleared s u c is law l p = on_path s (granted_at s.tree) _ 0 c l p is (law l p)

pub path_unconfirmed : (s : StateValue) (u : TreeValue) (c : ℕ) → IsState s
    → ((l p : ℕ) → is_confirmed_at u l p
    ≡ cond (place_above s.tree.levels l c == p) false (is_confirmed_at s.tree l p))
    → (l p : ℕ) → is_confirmed_at u l p ≡ unconfirmed s.board c (is_confirmed_at s.tree) l p
unfolding up
path_unconfirmed s u c is law l p =
    on_path s (is_confirmed_at s.tree) _ false c l p is (law l p)

-- Arrived ---------------------------------------------------------------------------------------

arrives : (b : BoardValue) (c : ℕ) (s : Start) (v : Values) → v.life ≡ s.life
    → with_arrival b c s v ≡ arrived b c s v
arrives b c s v e = let same : (s.life == v.life) ≡ true = grind arith in rw same refl

-- the phase of a core that stops, by whether it was pending
stopped_phase : (s : Status) (a : Activity) (pending : Bool)
    → is_pending_phase (phase_by s a) ≡ pending
    → phase_by s (stopped pending) ≡ unless_pending (phase_by s a) phases.Away
stopped_phase s a pending e = grind arith

pub running_changed : (s now : StateValue) (u : TreeValue) (rows : List CoreRow)
    (counts : List (List StatusCounts)) (slots : SlotsValue) (c : ℕ) (start : Start) → s ≡ now
    → (values_in now).life ≡ start.life
    → ((k : ℕ) → state_at u k
    ≡ cond (c == k) (record { activity = activities.Active; known = start.number })
    (state_at s.tree k))
    → ((k : ℕ) → row_at rows k
    ≡ updated (row_at s.rows) c (record { status = statuses.On; opening = None }) k)
    → ((l p : ℕ) → granted_at u l p ≡ cleared s.board c (granted_at s.tree) l p)
    → ((l p : ℕ) → is_confirmed_at u l p ≡ unconfirmed s.board c (is_confirmed_at s.tree) l p)
    → ((slot : Slot) → message_in slots slot
    ≡ changed slot (Clear (record { number = c })) (message_in s.slots slot))
    → values_in (record s { tree = u; rows = rows; counts = counts; slots = slots })
    ≡ with_running c (with_arrival now.board c start (values_in now))
unfolding values_in
running_changed s now u rows counts slots c start e life at row granted confirmed empty =
    let lives : (values_in s).life ≡ start.life = rw e life in
    rw (← e) (core_changed s u rows counts slots c _ _ _ _ _ (core_set s.tree u c _ at) row granted
    confirmed empty ∙ ap (with_running c) (sym (arrives s.board c start (values_in s) lives)))

pub stopped_changed : (s now : StateValue) (u : TreeValue) (rows : List CoreRow)
    (slots : SlotsValue) (c : ℕ) (start : Start) (pending : Bool) → s ≡ now
    → (values_in now).life ≡ start.life → pending ≡ is_pending_phase ((values_in now).phase c)
    → ((k : ℕ) → state_at u k
    ≡ cond (c == k) (record { activity = stopped pending; known = start.number })
    (state_at s.tree k))
    → ((k : ℕ) → row_at rows k ≡ updated (row_at s.rows) c (record {
      status = (row_at s.rows c).status;
      opening = None;
    }) k)
    → ((l p : ℕ) → granted_at u l p ≡ cleared s.board c (granted_at s.tree) l p)
    → ((l p : ℕ) → is_confirmed_at u l p ≡ unconfirmed s.board c (is_confirmed_at s.tree) l p)
    → ((slot : Slot) → message_in slots slot
    ≡ changed slot (Clear (record { number = c })) (message_in s.slots slot))
    → values_in (record s { tree = u; rows = rows; slots = slots })
    ≡ with_phase c phases.Away (with_arrival now.board c start (values_in now))
unfolding values_in
stopped_changed s now u rows slots c start pending e life was at row granted confirmed empty =
    let lives : (values_in s).life ≡ start.life = rw e life in
    let so : is_pending_phase ((values_in s).phase c) ≡ pending = rw e (sym was) in
    rw (← e) (core_changed s u rows s.counts slots c _ _ _ _ _ (core_set s.tree u c _ at) row
    granted confirmed empty
    ∙ (λ i. record (with_phase c phases.Away (arrived s.board c start (values_in s))) {
      status = λ k. updated_same (status_at s.rows) c _ refl k i;
      phase = updated (values_in s).phase c (stopped_phase (row_at s.rows c).status
          (state_at s.tree c).activity pending so i);
    })
    ∙ ap (with_phase c phases.Away) (sym (arrives s.board c start (values_in s) lives)))

-- Asked on --------------------------------------------------------------------------------------

pub pending_of : (b : BoardValue) (s : StateValue) (u : TreeValue) (rows : List CoreRow)
    (counts : List (List StatusCounts)) (slots : SlotsValue) (m : MessageValue) (o : Opening)
    → ((k : ℕ) → state_at u k ≡ updated (state_at s.tree) m.core.number (record {
      activity = activities.Active;
      known = known_at s.tree m.core.number;
    }) k)
    → ((k : ℕ) → row_at rows k ≡ updated (row_at s.rows) m.core.number (record {
      status = statuses.Pending;
      opening = Some o;
    }) k)
    → ((l p : ℕ) → granted_at u l p ≡ cleared b m.core.number (granted_at s.tree) l p)
    → ((l p : ℕ) → is_confirmed_at u l p
    ≡ unconfirmed b m.core.number (is_confirmed_at s.tree) l p)
    → ((slot : Slot) → message_in slots slot ≡ changed slot (Put m) (message_in s.slots slot))
    → values_in (record s { tree = u; rows = rows; counts = counts; slots = slots })
    ≡ with_pending b (record { message = m; opening = o }) (values_in s)
unfolding values_in
pending_of b s u rows counts slots m o at row granted confirmed sent =
    core_changed s u rows counts slots m.core.number _ _ _ _ _ at row granted confirmed sent
    ∙ (λ i. record (with_pending b (record { message = m; opening = o }) (values_in s)) {
      known = λ k. updated_same (known_at s.tree) m.core.number _ refl k i;
    })

-- A Down was sent -------------------------------------------------------------------------------

pub claimed_of : (s : StateValue) (u : TreeValue) (slots : SlotsValue) (m : MessageValue)
    → ((k : ℕ) → state_at u k ≡ state_at s.tree k)
    → ((l p : ℕ) → granted_at u l p
    ≡ granted_with s.board m.core.number m.parts (granted_at s.tree) l p)
    → ((l p : ℕ) → is_confirmed_at u l p
    ≡ claimed_anew s.board m.core.number m.parts (is_confirmed_at s.tree) l p)
    → ((slot : Slot) → message_in slots slot ≡ changed slot (Put m) (message_in s.slots slot))
    → values_in (record s { tree = u; slots = slots }) ≡ with_claims s.board m (values_in s)
unfolding values_in
claimed_of s u slots m cores granted confirmed sent = λ i. record (with_claims s.board m
    (values_in s)) {
      known = λ k. (cores k i).known;
      phase = λ k. phase_by (row_at s.rows k).status (cores k i).activity;
      granted = λ l p. granted l p i;
      confirmed = λ l p. confirmed l p i;
      outstanding = λ slot. sent slot i;
    }
