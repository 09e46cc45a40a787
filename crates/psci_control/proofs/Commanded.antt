-- What the power controller is asked keeps the rules of the port, and leaves a side of it.
use Rattle.std.specs.Prelude.{◌&&◌, not}
use Rattle.std.proofs.lemmas.Bool.Decides.{nat_tests}
use Rattle.std.proofs.Common.{◌<◌, ◌==◌, ◌∙◌, ◌≤◌, ◌≡◌, ap, arith, Bool, cond, false}
use Rattle.std.proofs.Common.{get_or-set_other, get_or-set_same, length, List, None, Option, refl}
use Rattle.std.proofs.Common.{Some, subst, sym, true, ℕ}
use Rattle.std.proofs.lemmas.Bool.{cases_eq, eq-eqb, eqb-true, false≢true}
use Rattle.psci_board.specs.Board.{BoardValue, cores}
use Rattle.psci_messages.specs.Message.{MessageValue}
use Rattle.psci_messages.specs.declared.kind.Kind.TheVariants as kinds
use Rattle.psci_messages.specs.declared.start.Start.{Start}
use Rattle.psci_ctl_spec.specs.Replies.{Begins, Deepens, Effect, effect_of, Ends, last_start}
use Rattle.psci_ctl_spec.specs.Replies.{Nothing, reply, Starts}
use Rattle.psci_ctl_spec.specs.History.{IsSendable}
use Rattle.psci_ctl_spec.specs.Values.{Values}
use Rattle.psci_ctl_spec.specs.declared.call.CtlCall.{CtlCall}
use Rattle.psci_ctl_spec.specs.declared.call.CtlCall.TheVariants as calls
use Rattle.psci_world_spec.specs.declared.event.Event.{Event}
use Rattle.psci_world_spec.specs.declared.event.Event.TheVariants.{Deliver, Reset, Wake}
use Rattle.psci_world_spec.specs.declared.said.Record.{Record}
use Rattle.psci_port.specs.Port.{Act, blank, cold, commanded, Delivers, first_row, Opens, Port}
use Rattle.psci_port.specs.Port.{Resets, Rises, Row, row_by, stage_at, started, step, Wakes, words}
use Rattle.psci_port.specs.Port.{Writes}
use Rattle.psci_port.specs.Resting.{is_shown}
use Rattle.psci_port.specs.Rules.{May}
use Rattle.psci_port.specs.Stages.{has_stopped, is_armed, may_hold, Stage, Standing}
use Rattle.psci_port.specs.Waiting.{touches}
use Rattle.psci_port.proofs.Running.{IsKept, shown_is}
use Rattle.psci_control.specs.ControlSide.{ControlValue, door_due, effect_in, gate_in, gates_after}
use Rattle.psci_control.specs.ControlSide.{heard, IsAsked, IsControlSide, ordered, telling}
use Rattle.psci_control.specs.ControlSide.{values_of, waits_in, with_gate}
use Rattle.psci_control.specs.SideOf.{ArmedLacks, is_apart, IsNew, IsRightly, IsSideOf}
use Rattle.psci_control.specs.Orders.{ending_of}
use Rattle.psci_control.specs.declared.door.DoorOrder.TheVariants.{Open, Write}
use Rattle.psci_control.specs.declared.gate.Gate.{Gate}
use Rattle.psci_control.specs.declared.order.Ending.TheVariants as endings
use Rattle.psci_control.proofs.Asked.{blank_at, closed_at}

-- Acts that are not its own ----------------------------------------------------------------------

-- a row whose door is as before, and whose word is no earlier
record IsLater (r q : Row) : Type 0 where
  pub door : r.door ≡ q.door
  pub opened : r.opened ≡ q.opened
  pub word : r.stopped ≤ q.stopped

module _ (b : BoardValue) (p : Port) (s : ControlValue) (side : IsSideOf b s p)
    (kept : IsKept p) where
  stood : (c : ℕ) → (p.row c).stopped ≤ (p.row c).used
  stood c = (kept.rows c).stood

  pub apart_side : (act : Act) → is_apart act ≡ true → IsSideOf b s (step b p act)
  unfolding step
  apart_side act is = grind (arith, nat_tests)

-- Sides -------------------------------------------------------------------------------------------
-- Each step of the power controller's side keeps the rules of the port, and leaves a side of it.

-- As power comes on ------------------------------------------------------------------------------

pub no_door : (c : ℕ) → None ≡ (first_row c).door
no_door c = grind (arith, nat_tests)

pub not_opened : (c : ℕ) → 0 ≡ (first_row c).opened
not_opened c = grind (arith, nat_tests)

pub first_side : (b : BoardValue) (s : ControlValue) (before : List (List Record)) → IsNew b s
    → IsSideOf b s (cold b before)
first_side b s before is = grind (arith, nat_tests, blank_at, no_door, not_opened)

-- What is written down of one core ---------------------------------------------------------------

due_write : (v : Values) (c : ℕ) (g : Gate) (start : Start) → door_due v c g ≡ Some (Write start)
    → ((g.opened == v.starts c) ≡ false) × (last_start v c ≡ Some start)
due_write v c g start = grind (arith, nat_tests)

due_open : (v : Values) (c n : ℕ) (g : Gate) → door_due v c g ≡ Some (Open n)
    → (v.starts c ≡ n) × (is_shown g.written (last_start v c) ≡ true)
due_open v c n g = grind (arith, nat_tests)

module _ (b : BoardValue) (p : Port) (s : ControlValue) (side : IsSideOf b s p) where
  -- of one core something else is written down
  gate_side : (q : Port) (c : ℕ) (g : Gate) → IsControlSide s → c < cores b
      → q.values ≡ p.values → ((k : ℕ) → (k ≡ c → ⊥) → q.row k ≡ p.row k)
      → g.written ≡ (q.row c).door → g.opened ≡ (q.row c).opened → g.word ≤ words q c
      → IsSideOf b (with_gate s c g) q
  gate_side q c g is has values others written opened word =
      grind (arith, nat_tests, cases_eq, length, get_or-set_same, get_or-set_other)

  row_other : (c : ℕ) (r : Row) (k : ℕ) → (k ≡ c → ⊥) → cond (k == c) r (p.row k) ≡ p.row k
  row_other c r k d = grind (arith, nat_tests)

  row_same : (c : ℕ) (r : Row) → cond (c == c) r (p.row c) ≡ r
  row_same c r = ap (λ t. cond t r (p.row c)) (eq-eqb c c refl)

  pub hears_side : (c word : ℕ) → IsControlSide s → c < cores b → word ≤ words p c
      → IsSideOf b (with_gate s c (telling word (gate_in s.gates c))) p
  hears_side c word is has low =
      gate_side p c (telling word (gate_in s.gates c)) is has refl (λ k d. refl)
      (side.written c has) (side.opened c has) low

  pub writes_side : (c : ℕ) (start : Start) → IsControlSide s → c < cores b
      → door_due (values_of s) c (gate_in s.gates c) ≡ Some (Write start)
      → IsRightly b (with_gate s c (ordered (Some (Write start)) (gate_in s.gates c))) p (Writes c)
  unfolding step
  writes_side c start is has due =
      let was = due_write (values_of s) c (gate_in s.gates c) start due in
      let row : Row = record (p.row c) { door = last_start p.values c } in
      record {
        may = ap (λ n. n == p.values.starts c) (sym (side.opened c has))
            ∙ ap (λ (v : Values). (gate_in s.gates c).opened == v.starts c) (sym side.values)
            ∙ was.0;
        side = gate_side (step b p (Writes c)) c
            (ordered (Some (Write start)) (gate_in s.gates c)) is has refl (row_other c row)
            (sym was.1 ∙ ap (λ (v : Values). last_start v c) side.values
            ∙ ap (λ (r : Row). r.door) (sym (row_same c row)))
            (side.opened c has ∙ ap (λ (r : Row). r.opened) (sym (row_same c row)))
            (subst (λ (r : Row). heard s c ≤ r.stopped) (sym (row_same c row))
            (side.heard c has));
      }

  pub opens_side : (c number : ℕ) → IsControlSide s → c < cores b
      → door_due (values_of s) c (gate_in s.gates c) ≡ Some (Open number)
      → IsRightly b (with_gate s c (ordered (Some (Open number)) (gate_in s.gates c))) p (Opens c)
  unfolding step
  opens_side c number is has due =
      let was = due_open (values_of s) c number (gate_in s.gates c) due in
      let row : Row = record (p.row c) { opened = p.values.starts c; held = false } in
      record {
        may = sym (side.written c has) ∙ shown_is _ _ was.1
            ∙ ap (λ (v : Values). last_start v c) side.values;
        side = gate_side (step b p (Opens c)) c
            (ordered (Some (Open number)) (gate_in s.gates c)) is has refl (row_other c row)
            (side.written c has ∙ ap (λ (r : Row). r.door) (sym (row_same c row)))
            (sym was.0 ∙ ap (λ (v : Values). v.starts c) side.values
            ∙ ap (λ (r : Row). r.opened) (sym (row_same c row)))
            (subst (λ (r : Row). heard s c ≤ r.stopped) (sym (row_same c row))
            (side.heard c has));
      }

-- Tests ------------------------------------------------------------------------------------------

waits_less : (t h w : Bool) → (t && not h) ≡ false → (h ≡ true → w ≡ true) → (t && not w) ≡ false
waits_less t h w free more = grind (arith, nat_tests)

met : (t h : Bool) → (t && not h) ≡ false → t ≡ true → h ≡ true
met t h free is = grind (arith, nat_tests)

kept_on : (h : Bool) → not h ≡ false → h ≡ true
kept_on true e = refl
kept_on false e = absurd (false≢true (sym e))

-- one that stands and may have the lock is armed
armed_holder : (y : Stage) → has_stopped y ≡ true → may_hold y ≡ true → is_armed y ≡ true
armed_holder y stopped holds = grind (arith, nat_tests)

module _ (b : BoardValue) (p : Port) (s : ControlValue) (side : IsSideOf b s p) where
  -- What the power controller is asked -----------------------------------------------------------

  abbrev now : CtlCall → Effect
  now call = effect_of b call (reply b p.values call)

  effect_same : (call : CtlCall) → effect_in s call ≡ now call
  effect_same call = grind (arith, nat_tests)

  row_written : (f : Effect) (c : ℕ) → c < cores b
      → (gate_in (gates_after (ending_of f) s.gates) c).written ≡ (row_by c f (p.row c)).door
  row_written Nothing c has = side.written c has
  row_written (Starts d cause) c has = side.written c has ∙ by (c == d)
    where
      by : (t : Bool) → (p.row c).door ≡ (cond t (started cause (p.row c)) (p.row c)).door
      by true = refl
      by false = refl
  row_written (Deepens d ps) c has = side.written c has
  row_written Ends c has = ap (λ (g : Gate). g.written) (closed_at s.gates endings.Off c)
  row_written Begins c has =
      ap (λ (g : Gate). g.written) (closed_at s.gates endings.Restart c) ∙ no_door c

  row_opened : (f : Effect) (c : ℕ) → c < cores b
      → (gate_in (gates_after (ending_of f) s.gates) c).opened ≡ (row_by c f (p.row c)).opened
  row_opened Nothing c has = side.opened c has
  row_opened (Starts d cause) c has = side.opened c has ∙ by (c == d)
    where
      by : (t : Bool) → (p.row c).opened ≡ (cond t (started cause (p.row c)) (p.row c)).opened
      by true = refl
      by false = refl
  row_opened (Deepens d ps) c has = side.opened c has
  row_opened Ends c has = ap (λ (g : Gate). g.opened) (closed_at s.gates endings.Off c)
  row_opened Begins c has =
      ap (λ (g : Gate). g.opened) (closed_at s.gates endings.Restart c) ∙ not_opened c

  row_heard : (f : Effect) (c : ℕ) → c < cores b
      → (gate_in (gates_after (ending_of f) s.gates) c).word ≤ (row_by c f (p.row c)).stopped
  row_heard Nothing c has = side.heard c has
  row_heard (Starts d cause) c has = by (c == d)
    where
      by : (t : Bool) → heard s c ≤ (cond t (started cause (p.row c)) (p.row c)).stopped
      by true = side.heard c has
      by false = side.heard c has
  row_heard (Deepens d ps) c has = side.heard c has
  row_heard Ends c has = subst (λ (g : Gate). g.word ≤ (blank Standing).stopped)
      (sym (closed_at s.gates endings.Off c)) (omega arith)
  row_heard Begins c has = subst (λ (g : Gate). g.word ≤ (first_row c).stopped)
      (sym (closed_at s.gates endings.Restart c)) (omega arith)

  commanded_side : (t : ControlValue) (event : Event) (call : CtlCall) → IsAsked call s t
      → IsSideOf b t (commanded b p event call)
  commanded_side t event call asked =
      grind (arith, nat_tests, effect_same, row_written, row_opened, row_heard)

  -- who has the lock is nothing to the side
  lock_side : (t : ControlValue) (q : Port) (l : Option ℕ) → IsSideOf b t q
      → IsSideOf b t (record q { lock = l })
  lock_side t q l is = grind (arith, nat_tests)

  module _ (kept : IsKept p) where
    -- where the side has heard that a core stands in its last start, the core says so
    truly : (c : ℕ) → c < cores b → heard s c ≡ (values_of s).starts c
        → words p c ≡ p.values.starts c
    truly c has is = grind (arith, nat_tests)

    -- and then it has not the lock, if none that is armed has
    free_of : (c : ℕ) → words p c ≡ p.values.starts c → ArmedLacks p c → p.lock ≡ Some c → ⊥
    free_of c word lacks at =
        lacks (armed_holder (stage_at p c) ((kept.rows c).stands word) (kept.held.holder c at)) at

    pub delivers_side : (t : ControlValue) (k : ℕ) (m : MessageValue) → IsSendable b m
        → waits_in s (calls.Deliver m) ≡ false
        → (m.kind ≡ kinds.Start → ArmedLacks p m.core.number)
        → IsAsked (calls.Deliver m) s t → IsRightly b t p (Delivers k m)
    unfolding step
    delivers_side t k m can free lacks asked = record {
      may = (
        can,
        waits_less (touches b p.values m) _ _ there stands,
        λ touched start. free_of m.core.number
            (eqb-true _ _ (stands (met (touches b p.values m) _ there touched))) (lacks start),
      );
      side = commanded_side t (Deliver k) (calls.Deliver m) asked;
    }
      where
        there : (touches b p.values m
            && not (heard s m.core.number == (values_of s).starts m.core.number)) ≡ false
        there = ap (λ u. u && not (heard s m.core.number == (values_of s).starts m.core.number))
            (sym (ap (λ (x : BoardValue). touches x (values_of s) m) side.board
            ∙ ap (λ (v : Values). touches b v m) side.values)) ∙ free

        stands : (heard s m.core.number == (values_of s).starts m.core.number) ≡ true
            → (words p m.core.number == p.values.starts m.core.number) ≡ true
        stands e = eq-eqb _ _ (truly m.core.number can.board.core (eqb-true _ _ e))

    module _ (t : ControlValue) (c : ℕ) (has : c < cores b)
        (free : waits_in s (calls.Wake (record { number = c }) (heard s c)) ≡ false)
        (asked : IsAsked (calls.Wake (record { number = c }) (heard s c)) s t) where
      own_word : heard s c ≡ (values_of s).starts c
      own_word = eqb-true _ _ (kept_on _ free)

      same_word : heard s c ≡ words p c
      same_word = own_word ∙ ap (λ (v : Values). v.starts c) side.values
          ∙ sym (truly c has own_word)

      pub woken_side : IsSideOf b t
          (commanded b p (Wake c) (calls.Wake (record { number = c }) (words p c)))
      woken_side =
          commanded_side t (Wake c) (calls.Wake (record { number = c }) (words p c))
          (subst (λ w. IsAsked (calls.Wake (record { number = c }) w) s t) same_word asked)

      pub wakes_side : ArmedLacks p c → IsRightly b t p (Wakes c)
      unfolding step
      wakes_side lacks = record {
        may = (has, eq-eqb _ _ (truly c has own_word), free_of c (truly c has own_word) lacks);
        side = woken_side;
      }

      pub rises_side : May b p (Rises c) → IsRightly b t p (Rises c)
      unfolding step
      rises_side may = record {
        may = may;
        side = lock_side t
            (commanded b p (Wake c) (calls.Wake (record { number = c }) (words p c))) p.lock
            woken_side;
      }

  pub resets_side : (t : ControlValue) (c : ℕ) → c < cores b → (p.lock ≡ Some c → ⊥)
      → IsAsked (calls.Reset (record { number = c })) s t → IsRightly b t p (Resets c)
  unfolding step
  resets_side t c has lacks asked = record {
    may = (has, lacks);
    side = commanded_side t (Reset c) (calls.Reset (record { number = c })) asked;
  }
