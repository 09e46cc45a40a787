-- A machine that takes its own steps alone takes few; what is owed after such a step.
use Rattle.psci_messages.specs.declared.kind.Kind.TheVariants as kinds
use Rattle.psci_fw_spec.specs.declared.call.FwCall.TheVariants as calls
use Rattle.psci_world_spec.specs.declared.event.Event.TheVariants as events
use Rattle.psci_port.specs.Port.{state}
use Rattle.psci_port.specs.Resting as port
use Rattle.psci_port.specs.Resting.{call_left, own_left, row_left, stage_left, total}
use Rattle.psci_sides.specs.Resting.{EachGoes}
use Rattle.psci_sides.specs.Steps.{after, machine}
use Rattle.psci_sides.proofs.Words.{◌*◌, ◌++◌, ◌+◌, ◌<◌, ◌==◌, ◌∙◌, ◌∷◌, ◌≤◌, ◌⊎◌, ◌≡◌, [], Act, ap}
use Rattle.psci_sides.proofs.Words.{arith, ArmCore, at, BeginEntry, BoardValue, Bool, cases_eq}
use Rattle.psci_sides.proofs.Words.{closed, cold, cond, ControlValue, Core, core_left, cores}
use Rattle.psci_sides.proofs.Words.{door_by, DoorOrder, due_at, EndCall, eqb-false, eqb-true, Event}
use Rattle.psci_sides.proofs.Words.{false, FirmwareSide, FirmwareValue, Gate, gate_in}
use Rattle.psci_sides.proofs.Words.{get_or-set_other, GiveLock, Goes, has_lock, heard, inl, inr}
use Rattle.psci_sides.proofs.Words.{is_this_life, IsCold, IsEnding, IsIn, IsMachineOf, IsRun}
use Rattle.psci_sides.proofs.Words.{IsUnderWay, Kind, last_start, left, left_of, length, List}
use Rattle.psci_sides.proofs.Words.{LookAtDoor, Machine, May, may_follow, MessageValue, nat_tests}
use Rattle.psci_sides.proofs.Words.{None, OfCore, OfSystem, Option, ordered, Port, Record, refl}
use Rattle.psci_sides.proofs.Words.{Regs, remembers, Row, same_le, ServeDoor, SleepCore, Slot}
use Rattle.psci_sides.proofs.Words.{slot_of, Some, Stage, Stand, Start, Station, Step, subst, suc}
use Rattle.psci_sides.proofs.Words.{sym, TakeLock, total_le, true, TurnCore, Values, values_of}
use Rattle.psci_sides.proofs.Words.{with_core, with_gate, zero, ℕ}
use Rattle.psci_sides.proofs.Carrying.{Follows, Given, IsSeen}
use Rattle.psci_sides.proofs.Restarting.{follows, run_seen}
use Rattle.psci_sides.proofs.Commanding.{there}

-- Sums -------------------------------------------------------------------------------------------

pub total_bound : (f : ℕ → ℕ) (n : ℕ) → ((x : ℕ) → f x ≤ 21) → total f n ≤ 21 * n
unfolding total
total_bound f zero low = omega arith
total_bound f (suc n) low =
    let own = low n in
    let rest = total_bound f n low in
    omega (arith, own, rest)

-- What is left of one core -----------------------------------------------------------------------

bit_few : (t : Bool) → cond t 0 1 ≤ 1
bit_few true = omega arith
bit_few false = omega arith

start_few : (t : Bool) → cond t 0 10 ≤ 10
start_few true = omega arith
start_few false = omega arith

own_few : (has : Bool) (y : Stage) → own_left has y ≤ 8
own_few has y = grind (arith, nat_tests)

call_few : (event : Event) (own : ℕ) → own ≤ 8 → call_left event own ≤ 9
call_few (events.Take k) own low = omega (arith, low)
call_few event own low = omega arith

stage_few : (has : Bool) (o : Option Record) (y : Stage) → stage_left has o y ≤ 9
stage_few has None y = let low = own_few has y in omega (arith, low)
stage_few has (Some r) y = call_few r.event (own_left has y) (own_few has y)

row_few : (has : Bool) (s : ℕ) (l : Option Start) (r : Row) → row_left has s l r ≤ 21
row_few has s l r = grind (arith, nat_tests, bit_few, start_few, stage_few)

pub all_few : (p : Port) (c : ℕ) → core_left p c ≤ 21
all_few p c = row_few (has_lock p.lock c) (p.values.starts c) (last_start p.values c) (p.row c)

-- Settling ----------------------------------------------------------------------------------------

-- all that is left
abbrev pub weight : BoardValue → List Act → ℕ
weight b acts = left b (state b acts)

-- Messages ---------------------------------------------------------------------------------------

-- what a message of this kind may still bring about: twice its parts, a start, the end of a life
abbrev pub kind_rest : BoardValue → Values → MessageValue → Kind → ℕ
kind_rest b v x kinds.Down = 2 * left_of b v x
kind_rest b v x kinds.Start = cond (may_follow b v x.core.number x.number) 231 0
kind_rest b v x kinds.Off = 232 * cores b
kind_rest b v x kinds.Reset = 232 * cores b

-- of one of this life
abbrev pub rest : BoardValue → Values → MessageValue → ℕ
rest b v x = cond (is_this_life v.life x.life) (kind_rest b v x x.kind) 0

-- What is set aside for a slot is enough: for its end that is under way, for a frame that is, or
-- for one to be sent again.
abbrev pub Pays : BoardValue → Machine → Option MessageValue → ℕ → Type 0
Pays b m None n = Unit {0}
Pays b m (Some x) n = (IsEnding m x × (1 ≤ n))
    ⊎ ((IsUnderWay m x × (rest b (values_of m.control) x + 2 ≤ n))
    ⊎ (rest b (values_of m.control) x + 3 ≤ n))

-- it is enough later, where no more is to be paid
pub pays_later : (b : BoardValue) (m l : Machine) (o : Option MessageValue) (n : ℕ)
    → ((x : MessageValue) → o ≡ Some x → IsEnding m x → IsEnding l x)
    → ((x : MessageValue) → o ≡ Some x → IsUnderWay m x → IsUnderWay l x)
    → ((x : MessageValue) → o ≡ Some x
    → rest b (values_of l.control) x ≤ rest b (values_of m.control) x)
    → Pays b m o n → Pays b l o n
pays_later b m l None n ends under low pays = tt
pays_later b m l (Some x) n ends under low pays = elim pays [
  | inl e ↦ inl (ends x refl e.0, e.1)
  | inr other ↦ elim other [
    | inl u ↦ let le = low x refl in let p = u.1 in
        inr (inl (under x refl u.0, omega (arith, le, p)))
    | inr p ↦ let le = low x refl in inr (inr (omega (arith, le, p)))
  ]
]

-- Words ------------------------------------------------------------------------------------------

-- a core's word was not heard
abbrev pub unheard : Machine → ℕ → ℕ
unheard m c = cond (heard m.control c == (m.station c).word) 0 1

pub unheard_few : (m : Machine) (c : ℕ) → unheard m c ≤ 1
unheard_few m c = bit_few _

-- Sums -------------------------------------------------------------------------------------------

-- one number more of one, and no more of the others
pub total_more : (f g : ℕ → ℕ) (c k n : ℕ) → g c ≤ f c + k
    → ((x : ℕ) → x < n → (x ≡ c → ⊥) → g x ≤ f x) → total g n ≤ total f n + k
unfolding total
total_more f g c k zero own low = omega arith
total_more f g c k (suc n) own low =
    by (n == c) refl (total_more f g c k n own (λ x is. low x (omega (arith, is))))
  where
    by : (t : Bool) → (n == c) ≡ t → total g n ≤ total f n + k → g n + total g n
        ≤ f n + total f n + k
    by true e more =
        let at : n ≡ c = eqb-true n c e in
        let here = subst (λ i. g i ≤ f i + k) (sym at) own in
        let others = total_le f g n (λ x is. low x (omega (arith, is))
        (λ same. omega (arith, is, same, at))) in
        omega (arith, here, others)
    by false e more =
        let here = low n (omega arith) (eqb-false n c e) in
        omega (arith, here, more)

pub total_few : (f : ℕ → ℕ) (k n : ℕ) → ((x : ℕ) → f x ≤ k) → total f n ≤ k * n
unfolding total
total_few f k zero low = omega arith
total_few f k (suc n) low =
    let own = low n in
    let others = total_few f k n low in
    let more : k * suc n ≡ k + k * n = grind arith in
    omega (arith, own, others, more)

-- All that is owed -------------------------------------------------------------------------------

-- the call of the normal world that a core was lent the firmware for, if it was
abbrev pub IsCalling : BoardValue → Machine → Type 0
IsCalling b m = (c : ℕ) × ((c < cores b) × ((regs : Regs)
    × ((m.station c).lent ≡ Some (calls.Smc regs))))

-- a slot of the board
abbrev pub HasSlot : BoardValue → Slot → Type 0
HasSlot b (OfCore c) = c < cores b
HasSlot b OfSystem = Unit {0}

pub on_slot : (b : BoardValue) (k : Kind) (core : Core) → core.number < cores b
    → HasSlot b (slot_of k core)
on_slot b k core has = grind (arith, nat_tests)

-- the sum over all slots of so many cores
abbrev pub all_slots : (Slot → ℕ) → ℕ → ℕ
all_slots f n = total (λ c. f (OfCore c)) n + f OfSystem

-- What is set aside for each slot, and for a call that has begun.
pub record Owes (b : BoardValue) (m : Machine) (acts : List Act) (all : ℕ) : Type 0 where
  pub credit : Slot → ℕ
  pub call : ℕ
  pub own : (s : Slot) → HasSlot b s → Pays b m ((remembers m.firmware).outstanding s) (credit s)
  pub calls : IsCalling b m → 232 * cores b + 2 ≤ call
  pub sum : 11 * weight b acts + (all_slots credit (cores b) + (call
      + total (unheard m) (cores b))) ≤ all

-- What is owed after one step more, of which so much is not paid for.
pub record OwesNext (b : BoardValue) (l : Machine) (next : List Act) (all more : ℕ)
    : Type 0 where
  pub less : ℕ
  pub low : less + 1 ≤ all + more
  pub owes : Owes b l next less

-- As much is set aside for each slot.
pub same_owes : (b : BoardValue) (m l : Machine) (acts next : List Act) (all more : ℕ)
    → (owes : Owes b m acts all)
    → ((s : Slot) → HasSlot b s
    → Pays b l ((remembers l.firmware).outstanding s) (owes.credit s))
    → (IsCalling b l → IsCalling b m)
    → 11 * weight b next + total (unheard l) (cores b) + 1
    ≤ 11 * weight b acts + total (unheard m) (cores b) + more
    → OwesNext b l next all more
same_owes b m l acts next all more owes pays calls low =
    let sum = owes.sum in record {
      less = 11 * weight b next + (all_slots owes.credit (cores b)
          + (owes.call + total (unheard l) (cores b)));
      low = omega (arith, low, sum);
      owes = record {
        credit = owes.credit;
        call = owes.call;
        own = pays;
        calls = λ e. owes.calls (calls e);
        sum = omega arith;
      };
    }

-- A quiet step: what is outstanding and under way is as before.
pub record IsQuietStep (b : BoardValue) (m l : Machine) : Type 0 where
  pub firmware : l.firmware ≡ m.firmware
  pub values : values_of l.control ≡ values_of m.control
  pub mail : l.mail ≡ m.mail
  pub acks : l.acks ≡ m.acks
  pub kept : (c : ℕ) → (gate_in l.control.gates c).waiting
      ≡ (gate_in m.control.gates c).waiting
  pub calls : IsCalling b l → IsCalling b m

module _ (b : BoardValue) (m l : Machine) (quiet : IsQuietStep b m l) where
  quiet_ending : (x : MessageValue) → IsEnding m x → IsEnding l x
  quiet_ending x e = (e.0, (subst (λ list. IsIn list e.0) (sym quiet.acks) e.1.0, e.1.1))

  quiet_under : (x : MessageValue) → IsUnderWay m x → IsUnderWay l x
  quiet_under x under = grind (arith, nat_tests)

  quiet_pays : (o : Option MessageValue) (n : ℕ) → Pays b m o n → Pays b l o n
  quiet_pays o n pays = pays_later b m l o n (λ x e. quiet_ending x) (λ x e. quiet_under x)
      (λ x e. same_le _ _ (ap (λ v. rest b v x) quiet.values)) pays

  -- so is what is set aside
  pub quiet_owes : (acts next : List Act) (all words more : ℕ) → Owes b m acts all
      → total (unheard l) (cores b) ≤ total (unheard m) (cores b) + words
      → 11 * weight b next + words + 1 ≤ 11 * weight b acts + more
      → OwesNext b l next all more
  quiet_owes acts next all words more owes new low =
      same_owes b m l acts next all more owes
      (λ s on. subst (λ f. Pays b l ((remembers f).outstanding s) (owes.credit s))
      (sym quiet.firmware)
      (quiet_pays ((remembers m.firmware).outstanding s) (owes.credit s) (owes.own s on)))
      quiet.calls (omega (arith, low, new))

-- who has the lock is no part of that
pub lock_quiet : (b : BoardValue) (m : Machine) (o : Option ℕ)
    → IsQuietStep b m (record m { lock = o })
lock_quiet b m o = record {
  firmware = refl;
  values = refl;
  mail = refl;
  acks = refl;
  kept = λ d. refl;
  calls = λ e. e;
}

-- One core moves ---------------------------------------------------------------------------------

module _ (b : BoardValue) (m : Machine) (c : ℕ) (s : FirmwareSide) (x : Station) where
  core_calls : ((regs : Regs) → x.lent ≡ Some (calls.Smc regs)
      → (m.station c).lent ≡ Some (calls.Smc regs)) → IsCalling b (with_core m c s x)
      → IsCalling b m
  core_calls same calling = grind (arith, nat_tests)

  pub core_quiet : ((regs : Regs) → x.lent ≡ Some (calls.Smc regs)
      → (m.station c).lent ≡ Some (calls.Smc regs)) → IsQuietStep b m (with_core m c s x)
  core_quiet same = grind (arith, nat_tests)

  -- its word is as before
  pub core_words : x.word ≡ (m.station c).word
      → total (unheard (with_core m c s x)) (cores b) ≤ total (unheard m) (cores b) + 0
  core_words same = grind (arith, nat_tests)

  -- or it has a new one
  pub core_word : total (unheard (with_core m c s x)) (cores b)
      ≤ total (unheard m) (cores b) + 1
  core_word = total_more (unheard m) (unheard (with_core m c s x)) c 1 (cores b)
      (few (heard m.control c == (cond (c == c) x (m.station c)).word) (unheard m c))
      (λ d has ne. by d (d == c) refl ne)
    where
      few : (t : Bool) (n : ℕ) → cond {A = ℕ} t 0 1 ≤ n + 1
      few true n = omega arith
      few false n = omega arith

      by : (d : ℕ) (t : Bool) → (d == c) ≡ t → (d ≡ c → ⊥)
          → cond {A = ℕ} (heard m.control d == (cond t x (m.station d)).word) 0 1 ≤ unheard m d
      by d true e ne = absurd (ne (eqb-true d c e))
      by d false e ne = same_le _ _ refl

-- The machine's own steps ------------------------------------------------------------------------

module _ (b : BoardValue) (given : Given b) (m : Machine) (acts : List Act)
    (seen : IsSeen b m acts) where
  abbrev p : Port
  p = state b acts

  abbrev is : IsMachineOf b m p
  is = seen.tied

  -- Each of its own steps ------------------------------------------------------------------------

  pub own_less : (x : Step) → May b m x → Goes b m x → (next : Follows b m acts x)
      → weight b (next.0 ++ acts) < weight b acts
  own_less x may goes next = grind (arith, nat_tests)

  module _ (all : ℕ) (owes : Owes b m acts all) where
    -- what is written down of one core
    pub gate_field : {A : Type 0} → (field : Gate → A) → (c : ℕ) (g : Gate) → c < cores b
        → field g ≡ field (gate_in m.control.gates c) → (d : ℕ)
        → field (gate_in (with_gate m.control c g).gates d) ≡ field (gate_in m.control.gates d)
    gate_field field c g has e d = elim (cases_eq d c) [
      | inl at ↦ ap (λ i. field (gate_in (with_gate m.control c g).gates i)) at
          ∙ ap field (there b p m.control is.control is.gates c has g) ∙ e
          ∙ ap (λ i. field (gate_in m.control.gates i)) (sym at)
      | inr differs ↦ ap field (get_or-set_other m.control.gates c d g closed differs)
    ]

    abbrev door_now : ℕ → Option DoorOrder → Machine
    door_now c o = record (with_core m c (m.side c) (door_by o (m.station c))) {
      control = with_gate m.control c (ordered o (gate_in m.control.gates c));
    }

    ordered_waits : (o : Option DoorOrder) (g : Gate) → (ordered o g).waiting ≡ g.waiting
    ordered_waits o g = grind (arith, nat_tests)

    ordered_word : (o : Option DoorOrder) (g : Gate) → (ordered o g).word ≡ g.word
    ordered_word o g = grind (arith, nat_tests)

    door_lent : (o : Option DoorOrder) (x : Station) → (door_by o x).lent ≡ x.lent
    door_lent o x = grind (arith, nat_tests)

    door_word : (o : Option DoorOrder) (x : Station) → (door_by o x).word ≡ x.word
    door_word o x = grind (arith, nat_tests)

    door_quiet : (c : ℕ) (o : Option DoorOrder) → c < cores b → IsQuietStep b m (door_now c o)
    door_quiet c o has = record {
      firmware = refl;
      values = refl;
      mail = refl;
      acks = refl;
      kept = gate_field (λ g. g.waiting) c (ordered o (gate_in m.control.gates c)) has
          (ordered_waits o (gate_in m.control.gates c));
      calls = core_calls b m c (m.side c) (door_by o (m.station c))
          (λ regs e. sym (door_lent o (m.station c)) ∙ e);
    }

    door_words : (c : ℕ) (o : Option DoorOrder) → c < cores b
        → total (unheard (door_now c o)) (cores b) ≤ total (unheard m) (cores b) + 0
    door_words c o has =
        let low = total_le (unheard m) (unheard (door_now c o)) (cores b)
        (λ d within. by d (d == c) refl) in omega (arith, low)
      where
        same : (d : ℕ) → heard (door_now c o).control d ≡ heard m.control d
        same = gate_field (λ g. g.word) c (ordered o (gate_in m.control.gates c)) has
            (ordered_word o (gate_in m.control.gates c))

        by : (d : ℕ) (t : Bool) → (d == c) ≡ t
            → cond {A = ℕ} (heard (door_now c o).control d
            == (cond t (door_by o (m.station c)) (m.station d)).word) 0 1 ≤ unheard m d
        by d true e = same_le _ _ (
            ap (λ n. cond {A = ℕ} (n == (door_by o (m.station c)).word) 0 1) (same d)
            ∙ ap (λ n. cond {A = ℕ} (heard m.control d == n) 0 1)
            (door_word o (m.station c) ∙ ap (λ i. (m.station i).word) (sym (eqb-true d c e))))
        by d false e = same_le _ _ (ap (λ n. cond {A = ℕ} (n == (m.station d).word) 0 1) (same d))

    -- a step that is the machine's own, and after which as much is set aside
    by_quiet : (l : Machine) (next : List Act) (words : ℕ) → IsQuietStep b m l
        → total (unheard l) (cores b) ≤ total (unheard m) (cores b) + words → words ≤ 1
        → weight b next < weight b acts → OwesNext b l next all 0
    by_quiet l next words quiet new few low =
        quiet_owes b m l quiet acts next all words 0 owes new (omega (arith, few, low))

    abbrev OwnNext : Step → Type 0
    OwnNext x = May b m x → Goes b m x → (next : Follows b m acts x)
        → weight b (next.0 ++ acts) < weight b acts
        → OwesNext b (after b m x) (next.0 ++ acts) all 0

    no_smc : (start : Start) (regs : Regs) → Some (calls.Enter start) ≡ Some (calls.Smc regs) → ⊥
    no_smc start regs e = grind arith

    pub own_next : (ended : (c : ℕ) (g : _) → OwnNext (EndCall c g)) → (x : Step) → OwnNext x
    unfolding after
    own_next ended (TakeLock c) may goes next low =
        by_quiet _ _ 0 (lock_quiet b m (Some c)) (omega arith) (omega arith) low
    own_next ended (GiveLock c) may goes next low =
        by_quiet _ _ 0 (lock_quiet b m None) (omega arith) (omega arith) low
    own_next ended (BeginEntry c start) may goes next low =
        by_quiet _ _ 0 (core_quiet b m c _ _ (λ regs e. absurd (no_smc start regs e)))
        (core_words b m c (m.side c) _ refl) (omega arith) low
    own_next ended (EndCall c g) may goes next low = ended c g may goes next low
    own_next ended (LookAtDoor c pending) may goes next low =
        by_quiet _ _ 0 (core_quiet b m c _ _ (λ regs e. e)) (core_words b m c (m.side c) _ refl)
        (omega arith) low
    own_next ended (Stand c) may goes next low =
        by_quiet _ _ 1 (core_quiet b m c _ _ (λ regs e. e)) (core_word b m c (m.side c) _)
        (omega arith) low
    own_next ended (ServeDoor c) may goes next low =
        by_quiet _ _ 0 (door_quiet c (due_at m c) goes.0) (door_words c (due_at m c) goes.0)
        (omega arith) low
    own_next ended (ArmCore c) may goes next low =
        by_quiet _ _ 1 (core_quiet b m c _ _ (λ regs e. e)) (core_word b m c (m.side c) _)
        (omega arith) low
    own_next ended (SleepCore c) may goes next low =
        by_quiet _ _ 0 (core_quiet b m c _ _ (λ regs e. e)) (core_words b m c (m.side c) _ refl)
        (omega arith) low
    own_next ended (TurnCore c) may goes next low =
        by_quiet _ _ 0 (core_quiet b m c _ _ (λ regs e. e)) (core_words b m c (m.side c) _ refl)
        (omega arith) low
    own_next ended step may goes next low = absurd goes

-- Each run of them -------------------------------------------------------------------------------

module _ (b : BoardValue) (given : Given b) (f : FirmwareValue) (s : ControlValue)
    (is : IsCold b f s) (steps : List Step) where
  bounded : (newest : List Step) → IsRun b (cold b f s) (newest ++ steps)
      → EachGoes b (cold b f s) steps newest
      → (acts : List Act) × (IsSeen b (machine b (cold b f s) (newest ++ steps)) acts
      × (length newest + weight b acts ≤ 21 * cores b))
  unfolding machine
  bounded [] run goes =
      let was = run_seen b given f s is steps run in
      let low = total_bound (port.core_left (state b was.0)) (cores b) (all_few (state b was.0)) in
      (was.0, (was.2, omega (arith, low)))
  bounded (x ∷ newest) run goes =
      let was = bounded newest run.1 goes.1 in
      let m : Machine = machine b (cold b f s) (newest ++ steps) in
      let next = follows b given m was.0 was.1.0 x run.0 in
      let less = own_less b given m was.0 was.1.0 x run.0 goes.0 next in
      let low = was.1.1 in (
        next.0 ++ was.0,
        (next.2, omega (arith, less, low)),
      )

  pub settles : (newest : List Step) → IsRun b (cold b f s) (newest ++ steps)
      → EachGoes b (cold b f s) steps newest → length newest ≤ 21 * cores b
  settles newest run goes =
      let all = bounded newest run goes in let low = all.1.1 in omega (arith, low)
