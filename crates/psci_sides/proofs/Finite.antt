-- A machine that takes its own steps and serves takes finitely many; and where none is left.
use Rattle.psci_ctl_spec.specs.Replies.{effect_of}
use Rattle.psci_ctl_spec.specs.declared.call.CtlCall.TheVariants as asked
use Rattle.psci_fw_spec.specs.Changes.{in_life}
use Rattle.psci_world_spec.specs.Legal.{controller_values, place}
use Rattle.psci_world_spec.specs.declared.place.Place.TheVariants.{Stopped}
use Rattle.psci_headline.specs.Laws.{AgreeIn}
use Rattle.psci_port.specs.Port.{state}
use Rattle.psci_port.specs.Rules as port
use Rattle.psci_port.specs.Stages.{Normal, place_of}
use Rattle.psci_fw_state.specs.Seen.{message_shown}
use Rattle.psci_control.specs.ControlSide.{effect_in}
use Rattle.psci_sides.specs.Frames.{comes_in, EachServes, IsLeft, IsServed, Serves, visits}
use Rattle.psci_sides.specs.Steps.{after, machine}
use Rattle.psci_sides.proofs.Words.{◌*◌, ◌++◌, ◌+◌, ◌<◌, ◌==◌, ◌∙◌, ◌∷◌, ◌≤◌, ◌⊎◌, ◌≡◌, [], Act}
use Rattle.psci_sides.proofs.Words.{Agree, ap, AreHeard, arith, BoardValue, cases_eq, cold}
use Rattle.psci_sides.proofs.Words.{commanded, cond, cond-false, cond-true, ControlValue, Core}
use Rattle.psci_sides.proofs.Words.{core_left, cores, CtlCall, DeliverKept, DeliverMail, Delivers}
use Rattle.psci_sides.proofs.Words.{ending_of, eq-eqb, eqb-true, false, firmware_values}
use Rattle.psci_sides.proofs.Words.{FirmwareValue, Fits, Gate, gate_in, gates_after}
use Rattle.psci_sides.proofs.Words.{get_or-set_other, Goes, Hear, heard, Holds, inl, inr}
use Rattle.psci_sides.proofs.Words.{is_entering, IsAtRest, IsCold, IsEnding, IsLost, IsMachineOf}
use Rattle.psci_sides.proofs.Words.{IsMirror, IsOut, IsRun, IsSpent, IsUnderWay, IsWanted, keeping}
use Rattle.psci_sides.proofs.Words.{Kind, length, List, lt-ltb, Machine, May, MessageValue, nat_lt}
use Rattle.psci_sides.proofs.Words.{nat_tests, None, none-some, NoneToServe, OfCore, OfSystem}
use Rattle.psci_sides.proofs.Words.{Option, orders_in, outstanding_in, Port, refl, Remembered}
use Rattle.psci_sides.proofs.Words.{remembers, reply, Running, SendAgain, served, Slot, slot_of}
use Rattle.psci_sides.proofs.Words.{Some, stage_at, Step, subst, sym, TakeAck, TakeLock, Values}
use Rattle.psci_sides.proofs.Words.{values_of, waits, WasSent, words, ℕ}
use Rattle.psci_sides.proofs.Acking.{takes_next}
use Rattle.psci_sides.proofs.Delivered.{message_next}
use Rattle.psci_sides.proofs.Ended.{ended_next, listed_here, rest_core, rest_most}
use Rattle.psci_sides.proofs.Carrying.{Follows, Given, IsSeen}
use Rattle.psci_sides.proofs.Settling.{all_few, gate_field, Owes, OwesNext, own_less, own_next}
use Rattle.psci_sides.proofs.Settling.{Pays, total_bound, total_few, unheard, unheard_few}
use Rattle.psci_sides.proofs.Restarting.{follows, run_seen}
use Rattle.psci_sides.proofs.Visiting.{again_next, hear_next, visit_next}
use Rattle.psci_sides.proofs.Sound.{agree as agreeing, none_due, resting}
use Rattle.psci_sides.proofs.Commanding.{there}

-- what cannot be otherwise brings nothing about
spent_stable : (b : BoardValue) (v : Values) (x : MessageValue)
    → ((IsSpent b v x → ⊥) → ⊥) → IsSpent b v x
spent_stable b v x not = grind (arith, nat_tests)

module _ (b : BoardValue) (given : Given b) (m : Machine) (acts : List Act)
    (seen : IsSeen b m acts) where
  abbrev p : Port
  p = state b acts

  abbrev is : IsMachineOf b m p
  is = seen.tied

  module _ (all : ℕ) (owes : Owes b m acts all) where
    -- what is asked comes down to the same in both
    same_effect : (call : CtlCall) → effect_in m.control call
        ≡ effect_of b call (reply b p.values call)
    same_effect call = cc (is.control.board, is.control.values)

    -- no act
    no_acts : (l : Machine) (new : List Act) (more : ℕ) → new ≡ [] → OwesNext b l acts all more
        → OwesNext b l (new ++ acts) all more
    no_acts l new more e owes = subst (λ list. OwesNext b l (list ++ acts) all more) (sym e) owes

    -- a message, of the mailbox or kept back
    module _ (x : MessageValue) where
      keeps_kept : (c : ℕ) → c < cores b → (gate_in m.control.gates c).waiting ≡ Some x
          → (y : MessageValue) → (y ≡ x → ⊥)
          → (gate_in m.control.gates y.core.number).waiting ≡ Some y
          → (gate_in (keeping m c).gates y.core.number).waiting ≡ Some y
      keeps_kept c has kept y ne at = grind (arith, nat_tests, cases_eq, get_or-set_other)

    abbrev ServesNext : Step → Type 0
    ServesNext x = May b m x → Serves b m x → (next : Follows b m acts x)
        → OwesNext b (after b m x) (next.0 ++ acts) all (12 * comes_in m x)

    comes : (c : ℕ) → (m.side c).post ≡ Running → comes_in m (TakeLock c) ≡ 1
    comes c runs = ap (λ y. cond {A = ℕ} (is_entering y) 0 1) runs

    serves_next : (x : Step) → ServesNext x
    unfolding after
    serves_next (TakeLock c) may serves next =
        let l : Machine = record m { lock = Some c } in
        subst (λ n. OwesNext b l (next.0 ++ acts) all (12 * n)) (sym (comes c serves.2))
        (subst (λ list. OwesNext b l (list ++ acts) all 12) (sym next.1)
        (visit_next b given m acts seen all owes c serves.0 serves.1 serves.2))
    serves_next (TakeAck c a g) may serves next =
        let x : MessageValue = serves.2.0 in
        takes_next b given m acts seen all owes c a g may next x
        (listed_here b given m acts seen (slot_of x.kind x.core) x serves.2.1.0).board.board.core
        serves.2.1.0 serves.2.1.1
    serves_next (SendAgain c number) may serves next =
        no_acts _ next.0 0 next.1 (again_next b given m acts seen all owes number serves.1.0
        serves.1.1.0 serves.1.1.1)
    serves_next (Hear c) may serves next =
        no_acts _ next.0 0 next.1 (hear_next b given m acts seen all owes c serves.0 serves.1)
    serves_next (DeliverMail x t f) may serves next =
        let l : Machine = commanded b f (orders_in m.control (asked.Deliver x)) t m in
        subst (λ list. OwesNext b l (list ++ acts) all 0) (sym next.1.1)
        (message_next b given m acts seen all owes x t f next.1.0 m.control.gates (record {
          later = subst (λ list. IsSeen b l (list ++ acts)) next.1.1 next.2;
          wanted = serves.4;
          anew = may.3;
          on = may.1.board.core;
          left = may.2.asked.gates ∙ ap (λ g. gates_after (ending_of g) m.control.gates)
              (same_effect (asked.Deliver x));
          keeps = λ y ne at. at;
          words = λ d. refl;
        }))
    serves_next (DeliverKept c x t f) may serves next =
        let l : Machine = commanded b f (orders_in m.control (asked.Deliver x)) t m in
        subst (λ list. OwesNext b l (list ++ acts) all 0) (sym next.1.1)
        (message_next b given m acts seen all owes x t f next.1.0 (keeping m c).gates (record {
          later = subst (λ list. IsSeen b l (list ++ acts)) next.1.1 next.2;
          wanted = serves.5;
          anew = may.4;
          on = may.2.board.core;
          left = may.3.asked.gates ∙ ap (λ g. gates_after (ending_of g) (keeping m c).gates)
              (same_effect (asked.Deliver x));
          keeps = keeps_kept x c may.0 may.1;
          words = gate_field b given m acts seen all owes (λ g. g.word) c
              (served (gate_in m.control.gates c)) may.0 refl;
        }))
    serves_next step may serves next = absurd serves

    -- each step
    pub each_next : (x : Step) → May b m x → Goes b m x ⊎ Serves b m x → (next : Follows b m acts x)
        → OwesNext b (after b m x) (next.0 ++ acts) all (12 * comes_in m x)
    each_next x may does next = elim does [
      | inl goes ↦
          let owed = own_next b given m acts seen all owes
          (λ c g may goes next low. ended_next b given m acts seen all owes c g may next low) x may
          goes
          next (own_less b given m acts seen x may goes next) in
          let low = owed.low in
          record { less = owed.less; low = omega (arith, low); owes = owed.owes }
      | inr serves ↦ serves_next x may serves next
    ]

  module _ (still : (x : Step) → Goes b m x → ⊥)
      (none : (x : Step) → Serves b m x → ⊥) where
    mirror : IsMirror b p
    mirror = given.world acts seen.run seen.so

    rest : IsAtRest b m
    rest = resting b given m acts seen still

    -- each word was heard
    word_heard : (c : ℕ) → c < cores b → heard m.control c ≡ (m.station c).word
    word_heard c has = elim (cases_eq (heard m.control c) (m.station c).word) [
      | inl e ↦ e
      | inr ne ↦ absurd (none (Hear c) (has, ne))
    ]

    out_there : (x : MessageValue) → IsOut m x
        → (firmware_values b p.past).outstanding (slot_of x.kind x.core) ≡ Some x
    out_there x out = elim is.firmware.values [
      | inl same ↦ ap (λ (v : Remembered). v.outstanding (slot_of x.kind x.core)) (sym same) ∙ out
      | inr anew ↦ absurd (none-some x (
          sym (ap (λ (v : Remembered). v.outstanding (slot_of x.kind x.core)) anew.values) ∙ out))
    ]

    was_sent : (x : MessageValue) → IsUnderWay m x → WasSent p.past x
    was_sent x under = elim under [
      | inl at ↦ is.mail.messages x at
      | inr kept ↦ is.mail.kept x.core.number x kept
    ]

    -- it may be delivered in the port
    may : (x : MessageValue) → (under : IsUnderWay m x) → IsOut m x
        → port.May b p (Delivers (was_sent x under).0 x)
    may x under out =
        let hear : AreHeard b p =
        (given.agrees acts seen.run seen.so (none_due b given m acts seen still)).0 in
        hear (was_sent x under).0 x (was_sent x under).1 (out_there x out)

    -- so the power controller, which heard its core, carries it out
    waits_so : (x : MessageValue) (n : ℕ) → x.core.number < cores b
        → n ≡ heard m.control x.core.number
        → waits m.control.controller.board (values_of m.control) (λ k. n) (asked.Deliver x)
        ≡ waits b p.values (words p) (asked.Deliver x)
    waits_so x n has e = grind (arith, nat_tests, word_heard)

    frames : (x : MessageValue) → IsUnderWay m x → IsWanted b m x → ⊥
    frames x under wanted = by under (was_sent x under).0 (may x under wanted.out)
      where
        lacks : (c : ℕ) → m.lock ≡ Some c → ⊥
        lacks c e = none-some c (sym rest.free ∙ e)

        by : (u : IsUnderWay m x) → (k : ℕ) → port.May b p (Delivers k x) → ⊥
        by (inl at) k can = none (DeliverMail x m.control m.firmware) (
          at,
          can.0,
          waits_so x _ can.0.board.core refl ∙ can.1,
          λ kind armed e. lacks x.core.number e,
          wanted,
        )
        by (inr kept) k can = none (DeliverKept x.core.number x m.control m.firmware) (
          can.0.board.core,
          kept,
          can.0,
          waits_so x _ can.0.board.core (ap (λ (g : Gate). g.word)
              (there b p m.control is.control is.gates x.core.number can.0.board.core
              (served (gate_in m.control.gates x.core.number)))) ∙ can.1,
          λ kind armed e. lacks x.core.number e,
          wanted,
        )

    -- A core is in the normal world --------------------------------------------------------------

    module _ (c : ℕ) (has : c < cores b) (runs : (m.side c).post ≡ Running) where
      normal : stage_at p c ≡ Normal
      normal = subst (λ x. Fits x (stage_at p c)) runs (is.each c has).post

      -- so the firmware was kept
      same : remembers m.firmware ≡ firmware_values b p.past
      same = grind (arith, nat_tests, normal)

      -- and its life is the power controller's
      own_life : (life : ℕ) → AgreeIn b (controller_values b p.past).starts (place b p.past)
          (in_life b life (firmware_values b p.past)) → (firmware_values b p.past).life ≡ life
      own_life life agrees = grind (arith, nat_tests, eqb-true)

      some_life : (o : Option ℕ) → (controller_values b p.past).life ≡ o
          → o ≡ Some (remembers m.firmware).life
      some_life None e =
          let stands : place b p.past c ≡ Stopped =
          (given.agreed p.past mirror.legal.0).stopped e c in
          let here = sym stands ∙ mirror.places c ∙ ap place_of normal in absurd (cc)
      some_life (Some life) e = ap (λ n. Some n)
          (sym (own_life life ((given.agreed p.past mirror.legal.0).present life e))
          ∙ ap (λ (v : Remembered). v.life) (sym same))

      life : (values_of m.control).life ≡ Some (remembers m.firmware).life
      life = ap (λ (v : Values). v.life) (is.control.values ∙ sym mirror.values)
          ∙ some_life (controller_values b p.past).life refl

      -- nothing is left to it
      nothing : IsLeft b m → ⊥
      nothing left = none (TakeLock c) (has, rest.free, runs, left)

      served_all : NoneToServe b m
      served_all x on out = spent_stable b (values_of m.control) x (λ never.
          let none_ends : IsEnding m x → ⊥ = λ e. nothing (x, (on, (out, inl e))) in
          let wanted : IsWanted b m x = record { out = out; unended = none_ends; brings = never } in
          nothing (
            x,
            (
              on,
              (
                out,
                inr (record { frame = λ u. frames x u wanted; ack = none_ends }),
              ),
            ),
          ))

      agrees : (remembers m.firmware).halting ≡ false → Agree b m
      agrees on = agreeing b given m acts seen (record {
        free = rest.free;
        each = rest.each;
        life = life;
        goes_on = on;
      }) served_all

    pub all_served : IsServed b m
    all_served = record { frames = frames; agree = agrees }

module _ (b : BoardValue) (given : Given b) (some : 0 < cores b) (m : Machine) (acts : List Act)
    (seen : IsSeen b m acts) where
  abbrev first_credit : Slot → ℕ
  first_credit (OfCore d) = 234
  first_credit OfSystem = 232 * cores b + 3

  first_pays : (s : Slot) (o : Option MessageValue) → (remembers m.firmware).outstanding s ≡ o
      → Pays b m o (first_credit s)
  first_pays s None e = tt
  first_pays (OfCore d) (Some x) e =
      let is_listed = listed_here b given m acts seen (OfCore d) x e in
      let few = rest_core b (values_of m.control) x is_listed.board d is_listed.own in
      inr (inr (omega (arith, few)))
  first_pays OfSystem (Some x) e =
      let is_listed = listed_here b given m acts seen OfSystem x e in
      let few = rest_most b (values_of m.control) x is_listed.board some in
      inr (inr (omega (arith, few)))

  pub first_owes : Owes b m acts (935 * cores b)
  first_owes =
      let few = total_bound (core_left (state b acts)) (cores b) (all_few (state b acts)) in
      let credits = total_few (λ c. 234) 234 (cores b) (λ c. omega arith) in
      let words = total_few (unheard m) 1 (cores b) (unheard_few m) in record {
        credit = first_credit;
        call = 232 * cores b + 2;
        own = λ s on. first_pays s ((remembers m.firmware).outstanding s) refl;
        calls = λ e. omega arith;
        sum = omega (arith, few, credits, words, some);
      }

-- Each run ---------------------------------------------------------------------------------------

module _ (b : BoardValue) (given : Given b) (some : 0 < cores b) (f : FirmwareValue)
    (s : ControlValue) (is : IsCold b f s) (steps : List Step) where
  bounded : (newest : List Step) → IsRun b (cold b f s) (newest ++ steps)
      → EachServes b (cold b f s) steps newest
      → (acts : List Act) × (IsSeen b (machine b (cold b f s) (newest ++ steps)) acts
      × ((n : ℕ) × (Owes b (machine b (cold b f s) (newest ++ steps)) acts n
      × (length newest + n ≤ 935 * cores b + 12 * visits b (cold b f s) steps newest))))
  unfolding machine visits
  bounded [] run does =
      let was = run_seen b given f s is steps run in (
        was.0,
        (
          was.2,
          (935 * cores b, (first_owes b given some _ was.0 was.2, omega arith)),
        ),
      )
  bounded (x ∷ newest) run does =
      let was = bounded newest run.1 does.1 in
      let m : Machine = machine b (cold b f s) (newest ++ steps) in
      let next = follows b given m was.0 was.1.0 x run.0 in
      let owed = each_next b given m was.0 was.1.0 was.1.1.0 was.1.1.1.0 x run.0 does.0 next in
      let low = was.1.1.1.1 in
      let less = owed.low in (
        next.0 ++ was.0,
        (
          next.2,
          (owed.less, (owed.owes, omega (arith, low, less))),
        ),
      )

  pub finite : (newest : List Step) → IsRun b (cold b f s) (newest ++ steps)
      → EachServes b (cold b f s) steps newest
      → length newest ≤ 935 * cores b + 12 * visits b (cold b f s) steps newest
  finite newest run does =
      let all = bounded newest run does in let low = all.1.1.1.1 in omega (arith, low)

-- What is left is taken, or sent again -----------------------------------------------------------

module _ (b : BoardValue) (given : Given b) (m : Machine) (acts : List Act)
    (seen : IsSeen b m acts) (x : MessageValue) where
  -- it is known by a number
  number_of : (slot : Slot) → slot_of x.kind x.core ≡ slot → x.core.number < cores b
      → (remembers m.firmware).outstanding slot ≡ Some x
      → (number : ℕ) × (outstanding_in m.firmware number ≡ Some x)
  number_of (OfCore d) at on out = (
    d,
    ap (λ y. message_shown y (remembers m.firmware) d) seen.tied.firmware.board
        ∙ cond-true (nat_lt d (cores b)) _ _ (lt-ltb d (cores b)
        (subst (λ i. i < cores b) (core_of x.kind x.core d at) on)) ∙ out,
  )
    where
      core_of : (k : Kind) (core : Core) (d : ℕ) → slot_of k core ≡ OfCore d → core.number ≡ d
      core_of k core d e = grind (arith, nat_tests)
  number_of OfSystem at on out = (
    cores b,
    ap (λ y. message_shown y (remembers m.firmware) (cores b)) seen.tied.firmware.board
        ∙ cond-false (nat_lt (cores b) (cores b)) _ _ (below_none (cores b))
        ∙ cond-true (cores b == cores b) _ _ (eq-eqb (cores b) (cores b) refl) ∙ out,
  )
    where
      below_none : (n : ℕ) → nat_lt n n ≡ false
      below_none n = grind (arith, nat_tests)

-- by a core that has the lock
pub left_serves : (b : BoardValue) → Given b → (m : Machine) (acts : List Act) → IsSeen b m acts
    → (c : ℕ) → Holds b m c → IsLeft b m → (x : Step) × Serves b m x
left_serves b given m acts seen c holds left = by left.1.1.1
  where
    x : MessageValue
    x = left.0

    by : IsEnding m x ⊎ IsLost m x → (step : Step) × Serves b m step
    by (inl e) = (TakeAck c e.0 m.firmware, (holds, e.1.0, (x, (left.1.1.0, e.1.1))))
    by (inr lost) =
        let number = number_of b given m acts seen x (slot_of x.kind x.core) refl left.1.0
        left.1.1.0 in (SendAgain c number.0, (holds, (x, (number.1, lost))))
