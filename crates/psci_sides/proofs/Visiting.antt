-- Words are heard, and a core that comes in takes what has ended, and sends again what was lost.
use Rattle.psci_port.specs.Port.{state, step}
use Rattle.psci_port.specs.Resting.{total}
use Rattle.psci_port.specs.Stages as stages
use Rattle.psci_port.proofs.Power.{locks_other, locks_own}
use Rattle.psci_port.proofs.Truth.{total_less}
use Rattle.psci_sides.proofs.Words.{◌*◌, ◌++◌, ◌+◌, ◌<◌, ◌==◌, ◌∙◌, ◌∷◌, ◌≤◌, ◌≡◌, Act, ap, arith}
use Rattle.psci_sides.proofs.Words.{BoardValue, Bool, closed, cond, core_left, cores, eq-eqb}
use Rattle.psci_sides.proofs.Words.{eqb-false, eqb-true, false, false≢true, Fits, Gate, gate_in}
use Rattle.psci_sides.proofs.Words.{get_or-set_other, heard, inl, inr, IsKept, IsLost, IsMachineOf}
use Rattle.psci_sides.proofs.Words.{IsUnderWay, left, List, listed, Locks, ltb-true, Machine}
use Rattle.psci_sides.proofs.Words.{MessageValue, nat_lt, nat_tests, ne_eqb, None, none-some}
use Rattle.psci_sides.proofs.Words.{OfCore, OfSystem, Option, outstanding_in, Port, Record, refl}
use Rattle.psci_sides.proofs.Words.{remembers, run_kept, Running, same_le, Slot, Some, stage_at}
use Rattle.psci_sides.proofs.Words.{subst, suc, sym, telling, total_le, true, values_of, with_gate}
use Rattle.psci_sides.proofs.Words.{zero, ℕ}
use Rattle.psci_sides.proofs.Commanding.{there}
use Rattle.psci_sides.proofs.Carrying.{Given, IsSeen}
use Rattle.psci_sides.proofs.Settling.{all_slots, gate_field, HasSlot, IsCalling, lock_quiet, Owes}
use Rattle.psci_sides.proofs.Settling.{OwesNext, Pays, pays_later, quiet_owes, rest, same_owes}
use Rattle.psci_sides.proofs.Settling.{total_more, unheard, weight}
use Rattle.psci_messages.specs.Slots.{is_slot}

-- What is set aside for one slot changes ----------------------------------------------------------

pub total_replaced : (f : ℕ → ℕ) (c n k : ℕ) → c < k
    → total (λ d. cond (d == c) n (f d)) k + f c ≤ total f k + n
unfolding total
total_replaced f c n zero has = absurd (omega (arith, has))
total_replaced f c n (suc k) has =
    by (k == c) refl (λ low. total_replaced f c n k low)
  where
    by : (t : Bool) → (k == c) ≡ t
        → (c < k → total (λ d. cond (d == c) n (f d)) k + f c ≤ total f k + n)
        → cond t n (f k) + total (λ d. cond (d == c) n (f d)) k + f c ≤ f k + total f k + n
    by true e more =
        let at : k ≡ c = eqb-true k c e in
        let here : f k ≡ f c = ap f at in
        let others = total_le f (λ d. cond (d == c) n (f d)) k (λ x low. same x (x == c) refl
        (λ is. omega (arith, low, at, is))) in
        omega (arith, here, others)
      where
        same : (x : ℕ) (t : Bool) → (x == c) ≡ t → (x ≡ c → ⊥) → cond t n (f x) ≤ f x
        same x true e ne = absurd (ne (eqb-true x c e))
        same x false e ne = omega arith
    by false e more =
        let differs = eqb-false k c e in
        let low : c < k = grind (arith, has, differs) in
        let others = more low in
        omega (arith, others)

same_slot : (s t : Slot) → is_slot s t ≡ true → s ≡ t
same_slot (OfCore c) (OfCore d) e = ap OfCore (eqb-true c d e)
same_slot OfSystem OfSystem e = refl
same_slot (OfCore c) OfSystem e = absurd (false≢true e)
same_slot OfSystem (OfCore d) e = absurd (false≢true e)

other_slot : (s t : Slot) → is_slot s t ≡ false → s ≡ t → ⊥
other_slot s t e at = false≢true (sym e ∙ ap (is_slot s) (sym at) ∙ own s)
  where
    own : (s : Slot) → is_slot s s ≡ true
    own (OfCore c) = eq-eqb c c refl
    own OfSystem = refl

-- one number in place of another
abbrev replaced : (Slot → ℕ) → Slot → ℕ → Slot → ℕ
replaced f slot n s = cond (is_slot s slot) n (f s)

slots_replaced : (b : BoardValue) (f : Slot → ℕ) (s : Slot) (n : ℕ) → HasSlot b s
    → all_slots (replaced f s n) (cores b) + f s ≤ all_slots f (cores b) + n
slots_replaced b f (OfCore c) n on =
    more (total (λ d. cond (d == c) n (f (OfCore d))) (cores b))
    (total (λ d. f (OfCore d)) (cores b)) (f OfSystem) (f (OfCore c))
    (total_replaced (λ d. f (OfCore d)) c n (cores b) on)
  where
    more : (i j x y : ℕ) → i + y ≤ j + n → i + x + y ≤ j + x + n
    more i j x y low = omega (arith, low)
slots_replaced b f OfSystem n on = same (total (λ d. f (OfCore d)) (cores b)) (f OfSystem)
  where
    same : (i x : ℕ) → i + n + x ≤ i + x + n
    same i x = omega arith

module _ (b : BoardValue) (m l : Machine) (acts next : List Act) (all more : ℕ)
    (owes : Owes b m acts all) (n call : ℕ) (calls : IsCalling b l → 232 * cores b + 2 ≤ call)
  where
    pub pays_slot : (slot : Slot) → HasSlot b slot
        → Pays b l ((remembers l.firmware).outstanding slot) n
        → ((s : Slot) → HasSlot b s → (s ≡ slot → ⊥)
        → Pays b l ((remembers l.firmware).outstanding s) (owes.credit s))
        → 11 * weight b next + n + call + total (unheard l) (cores b) + 1
        ≤ 11 * weight b acts + owes.credit slot + owes.call + total (unheard m) (cores b) + more
        → OwesNext b l next all more
    pays_slot slot on own others low =
        let sum = owes.sum in
        let new = slots_replaced b owes.credit slot n on in record {
          less = 11 * weight b next + (all_slots (replaced owes.credit slot n) (cores b)
              + (call + total (unheard l) (cores b)));
          low = omega (arith, sum, new, low);
          owes = record {
            credit = replaced owes.credit slot n;
            call = call;
            own = λ s within. by s (is_slot s slot) refl within;
            calls = calls;
            sum = omega arith;
          };
        }
      where
        by : (s : Slot) (t : Bool) → is_slot s slot ≡ t → HasSlot b s
            → Pays b l ((remembers l.firmware).outstanding s) (cond t n (owes.credit s))
        by s true e within = subst (λ i. Pays b l ((remembers l.firmware).outstanding i) n)
            (sym (same_slot s slot e)) own
        by s false e within = others s within (other_slot s slot e)

-- Visiting ----------------------------------------------------------------------------------------

module _ (b : BoardValue) (given : Given b) (m : Machine) (acts : List Act)
    (seen : IsSeen b m acts) (all : ℕ) (owes : Owes b m acts all) where
  abbrev p : Port
  p = state b acts

  abbrev is : IsMachineOf b m p
  is = seen.tied

  abbrev kept : IsKept p
  kept = run_kept b acts seen.run

  -- A word is heard ------------------------------------------------------------------------------

  abbrev hearing : ℕ → Machine
  hearing c = record m {
    control = with_gate m.control c (telling (m.station c).word (gate_in m.control.gates c));
  }

  hears_less : (c : ℕ) → c < cores b → (heard m.control c ≡ (m.station c).word → ⊥)
      → total (unheard (hearing c)) (cores b) < total (unheard m) (cores b)
  hears_less c has ne = total_less (unheard m) (unheard (hearing c)) c (cores b) has here others
    where
      word : ℕ
      word = (m.station c).word

      now : heard (hearing c).control c ≡ word
      now = ap (λ (g : Gate). g.word) (there b p m.control is.control is.gates c has
          (telling word (gate_in m.control.gates c)))

      here : unheard (hearing c) c < unheard m c
      here =
          let gone : unheard (hearing c) c ≡ 0 =
          ap (λ t. cond {A = ℕ} t 0 1) (eq-eqb _ _ now) in
          let was : unheard m c ≡ 1 = ap (λ t. cond {A = ℕ} t 0 1) (ne_eqb _ _ ne) in
          omega (arith, gone, was)

      others : (d : ℕ) → d < cores b → (d ≡ c → ⊥) → unheard (hearing c) d ≤ unheard m d
      others d within differs =
          same_le _ _ (ap (λ n. cond {A = ℕ} (n == (m.station d).word) 0 1)
          (ap (λ (g : Gate). g.word) (get_or-set_other m.control.gates c d _ closed differs)))

  pub hear_next : (c : ℕ) → c < cores b → (heard m.control c ≡ (m.station c).word → ⊥)
      → OwesNext b (hearing c) acts all 0
  hear_next c has ne =
      let less = hears_less c has ne in
      same_owes b m (hearing c) acts acts all 0 owes
      (λ s on. pays_later b m (hearing c) ((remembers m.firmware).outstanding s) (owes.credit s)
      (λ x e i. i) (λ x e u. under x u) (λ x e. omega arith) (owes.own s on))
      (λ calling. calling) (omega (arith, less))
    where
      under : (x : MessageValue) → IsUnderWay m x → IsUnderWay (hearing c) x
      under x u = elim u [
        | inl at ↦ inl at
        | inr at ↦ inr (gate_field b given m acts seen all owes (λ g. g.waiting) c
            (telling (m.station c).word (gate_in m.control.gates c)) has refl x.core.number ∙ at)
      ]

  -- A message is sent again ----------------------------------------------------------------------

  abbrev sending : Option MessageValue → Machine
  sending o = record m { mail = listed o ++ m.mail }

  module _ (x : MessageValue) (lost : IsLost m x) where
    -- for a message that was lost as much is set aside as for a new one
    lost_pays : (n : ℕ) → Pays b m (Some x) n → rest b (values_of m.control) x + 3 ≤ n
    lost_pays n pays = grind (arith, nat_tests)

    still_under : (y : MessageValue) → IsUnderWay m y → IsUnderWay (sending (Some x)) y
    still_under y u = elim u [
      | inl at ↦ inl (suc at.0, at.1)
      | inr at ↦ inr at
    ]

    still_pays : (o : Option MessageValue) (n : ℕ) → Pays b m o n → Pays b (sending (Some x)) o n
    still_pays o n pays = pays_later b m (sending (Some x)) o n (λ y e i. i)
        (λ y e u. still_under y u) (λ y e. omega arith) pays

    now_pays : (o : Option MessageValue) → o ≡ Some x
        → Pays b (sending (Some x)) o (rest b (values_of m.control) x + 2)
    now_pays o e = subst (λ o. Pays b (sending (Some x)) o (rest b (values_of m.control) x + 2))
        (sym e) (inr (inl (inl (0, refl), omega arith)))

    again_slot : (slot : Slot) → HasSlot b slot
        → (remembers m.firmware).outstanding slot ≡ Some x
        → OwesNext b (sending (Some x)) acts all 0
    again_slot slot on out =
        let much = lost_pays (owes.credit slot)
        (subst (λ o. Pays b m o (owes.credit slot)) out (owes.own slot on)) in
        pays_slot b m (sending (Some x)) acts acts all 0 owes
        (rest b (values_of m.control) x + 2) owes.call (λ calling. owes.calls calling) slot on
        (now_pays ((remembers m.firmware).outstanding slot) out)
        (λ s within ne. still_pays ((remembers m.firmware).outstanding s) (owes.credit s)
        (owes.own s within)) (omega (arith, much))

    again_core : (c : ℕ) → c < cores b → (remembers m.firmware).outstanding (OfCore c) ≡ Some x
        → OwesNext b (sending (Some x)) acts all 0
    again_core c = again_slot (OfCore c)

    again_system : (remembers m.firmware).outstanding OfSystem ≡ Some x
        → OwesNext b (sending (Some x)) acts all 0
    again_system = again_slot OfSystem tt

    again_by : (number : ℕ) (s t : Bool) → nat_lt number (cores b) ≡ s → (number == cores b) ≡ t
        → cond s ((remembers m.firmware).outstanding (OfCore number))
        (cond t ((remembers m.firmware).outstanding OfSystem) None) ≡ Some x
        → OwesNext b (sending (Some x)) acts all 0
    again_by number s t low at out = grind (arith, nat_tests, again_core, ltb-true, again_system)

  pub again_next : (number : ℕ) (x : MessageValue) → outstanding_in m.firmware number ≡ Some x
      → IsLost m x → OwesNext b (sending (outstanding_in m.firmware number)) acts all 0
  again_next number x out lost = grind (arith, nat_tests, again_by)

  -- A core comes in ------------------------------------------------------------------------------

  abbrev taking : ℕ → Machine
  taking c = record m { lock = Some c }

  more_left : (c : ℕ) → c < cores b → m.lock ≡ None → (m.side c).post ≡ Running
      → left b (record p { lock = Some c }) ≤ left b p + 1
  more_left c has free runs =
      let at : stage_at p c ≡ stages.Normal =
      subst (λ x. Fits x (stage_at p c)) runs (is.each c has).post in
      let none : p.lock ≡ None = sym is.lock ∙ free in
      total_more (core_left p) (core_left (record p { lock = Some c })) c 1 (cores b)
      (locks_own p c none at (begun_none (p.row c).begun refl none))
      (λ d within ne. same_le _ _ (locks_other p c none d ne))
    where
      begun_none : (o : Option Record) → (p.row c).begun ≡ o → p.lock ≡ None → o ≡ None
      begun_none None e none = refl
      begun_none (Some r) e none =
          absurd (none-some c (sym none ∙ kept.held.calls c r e))

  pub visit_next : (c : ℕ) → c < cores b → m.lock ≡ None → (m.side c).post ≡ Running
      → OwesNext b (taking c) (Locks c ∷ acts) all 12
  unfolding state step
  visit_next c has free runs =
      let more = more_left c has free runs in
      quiet_owes b m (taking c) (lock_quiet b m (Some c)) acts (Locks c ∷ acts) all 0 12 owes
      (omega arith) (omega (arith, more))
