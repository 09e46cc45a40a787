-- A frame of use is delivered: it pays for what it brings about.
use Rattle.std.proofs.Common.{take}
use Rattle.psci_messages.specs.declared.kind.Kind.TheVariants as kinds
use Rattle.psci_messages.specs.declared.start.Cause.TheVariants as causes
use Rattle.psci_ctl_spec.specs.Replies.{ack_of, after as ctl_after, effect_of, message_effect}
use Rattle.psci_ctl_spec.specs.Values.{applied}
use Rattle.psci_ctl_spec.specs.declared.call.CtlCall.TheVariants as asked
use Rattle.psci_ctl_spec.specs.declared.delivery.Delivery.TheVariants as deliveries
use Rattle.psci_ctl_spec.specs.declared.reply.CtlReply.TheVariants as replies
use Rattle.psci_fw_spec.specs.declared.call.FwCall.TheVariants as calls
use Rattle.psci_world_spec.specs.Legal.{sent}
use Rattle.psci_world_spec.specs.declared.event.Event.TheVariants as events
use Rattle.psci_port.specs.Port.{state, step}
use Rattle.psci_port.specs.Resting.{total}
use Rattle.psci_port.specs.Served.{ends}
use Rattle.psci_port.specs.Undone.{served}
use Rattle.psci_port.proofs.Undone.{effect_this, ends_this, replied}
use Rattle.psci_sides.proofs.Words.{◌*◌, ◌+◌, ◌<◌, ◌==◌, ◌∙◌, ◌∷◌, ◌≤◌, ◌≡◌, ack_by, ack_in}
use Rattle.psci_sides.proofs.Words.{AckValue, Act, and_from, answers, ap, arith, Begins, BoardValue}
use Rattle.psci_sides.proofs.Words.{Bool, change, commanded, cond, cond-true, ControlValue, Core}
use Rattle.psci_sides.proofs.Words.{core_left, cores, CtlReply, Deepens, Delivers, Effect}
use Rattle.psci_sides.proofs.Words.{ending_of, Ends, ends_other, false, FirmwareValue, Gate}
use Rattle.psci_sides.proofs.Words.{gate_in, gates_after, heard, inl, inr, is_done, is_end}
use Rattle.psci_sides.proofs.Words.{is_this_life, IsEnding, IsIn, IsMachineOf, IsMadeAnew, IsSpent}
use Rattle.psci_sides.proofs.Words.{IsUnderWay, IsWanted, Kind, LeavesLess, left, left_of, List}
use Rattle.psci_sides.proofs.Words.{Machine, may_follow, MessageValue, moved, nat_lt, nat_tests}
use Rattle.psci_sides.proofs.Words.{ne_eqb, None, none-some, Nothing, OfSystem, orders_in, Port}
use Rattle.psci_sides.proofs.Words.{Record, refl, Remembered, remembers, reply, same_le}
use Rattle.psci_sides.proofs.Words.{served_other, slice_get, Slot, slot_of, Some, Starts, Station}
use Rattle.psci_sides.proofs.Words.{subst, suc, sym, told, total_le, true, up, Values, values_of, ℕ}
use Rattle.psci_sides.proofs.Acking.{done_so, own_answer, rest_less, same_firmware, same_gates}
use Rattle.psci_sides.proofs.Acking.{same_life, same_station, same_weight, start_done, start_weight}
use Rattle.psci_sides.proofs.Acking.{starts_of}
use Rattle.psci_sides.proofs.Carrying.{done, done_acks, done_mail, Given, IsSeen}
use Rattle.psci_sides.proofs.Commanding.{carried_now}
use Rattle.psci_sides.proofs.Ended.{listed_here}
use Rattle.psci_sides.proofs.Settling.{all_few, all_slots, HasSlot, IsCalling, kind_rest, on_slot}
use Rattle.psci_sides.proofs.Settling.{Owes, OwesNext, Pays, pays_later, rest, total_bound}
use Rattle.psci_sides.proofs.Settling.{total_few, unheard, unheard_few, weight}
use Rattle.psci_sides.proofs.Visiting.{pays_slot}

-- What is known of a delivery in a machine: which message is delivered, what it leaves, and what is
-- kept back.
pub record IsDelivery (b : BoardValue) (m : Machine) (acts : List Act) (x : MessageValue)
    (t : ControlValue) (f : FirmwareValue) (k : ℕ) (gates : List Gate) : Type 0 where
  pub later : IsSeen b (commanded b f (orders_in m.control (asked.Deliver x)) t m)
      (Delivers k x ∷ acts)
  pub wanted : IsWanted b m x
  pub anew : IsMadeAnew b f
  pub on : x.core.number < cores b
  pub left : t.gates ≡ gates_after (ending_of (effect_of b (asked.Deliver x)
      (reply b (state b acts).values (asked.Deliver x)))) gates
  pub keeps : (y : MessageValue) → (y ≡ x → ⊥)
      → (gate_in m.control.gates y.core.number).waiting ≡ Some y
      → (gate_in gates y.core.number).waiting ≡ Some y
  pub words : (c : ℕ) → (gate_in gates c).word ≡ heard m.control c

module _ (b : BoardValue) (given : Given b) (m : Machine) (acts : List Act)
    (seen : IsSeen b m acts) (all : ℕ) (owes : Owes b m acts all) where
  abbrev p : Port
  p = state b acts

  abbrev is : IsMachineOf b m p
  is = seen.tied

  module _ (x : MessageValue) (t : ControlValue) (f : FirmwareValue) (k : ℕ) (gates : List Gate)
      (it : IsDelivery b m acts x t f k gates) where
    abbrev next : List Act
    next = Delivers k x ∷ acts

    abbrev w : Values
    w = p.values

    abbrev rep : CtlReply
    rep = reply b w (asked.Deliver x)

    abbrev now : Effect
    now = effect_of b (asked.Deliver x) rep

    abbrev ack : AckValue
    ack = ack_by b w x x.kind

    abbrev rec : Record
    rec = told b p (events.Deliver k) (asked.Deliver x)

    pub new_values : values_of t ≡ change b now w
    unfolding state step
    new_values = it.later.tied.control.values

    pub leaves : LeavesLess b w (sent p.past) x
    leaves = given.leaves acts k x seen.run seen.so it.later.so.0

    pub never : IsSpent b w x → ⊥
    never s = it.wanted.brings (subst (λ v. IsSpent b v x) (sym is.control.values) s)

    pub present : is_this_life w.life x.life ≡ true
    present = by (is_this_life w.life x.life) refl
      where
        by : (t : Bool) → is_this_life w.life x.life ≡ t → is_this_life w.life x.life ≡ true
        by true e = e
        by false e = absurd (never (record {
          depths = λ level within. ap (λ (u : Values). u.depth level (up b level x.core.number))
              (served_other b w x e);
          left = ends_other b w x e;
        }))

    pub replied_so : rep ≡ replies.Delivery (deliveries.Applied ack)
    replied_so = replied b w x true present

    pub served_so : served b w x ≡ change b now w
    unfolding ctl_after
    served_so = refl

    -- it is not ended yet, so this much is set aside for it
    pub aside : (n : ℕ) → Pays b m (Some x) n → rest b w x + 2 ≤ n
    aside n pays = grind (arith, nat_tests)

    module _ (g : Effect) (same : now ≡ g) where
      abbrev l : Machine
      l = done_so b f g (Some ack) t m

      pub to_l : commanded b f (orders_in m.control (asked.Deliver x)) t m ≡ l
      to_l = ap (λ (n : Machine). record n { control = t }) (carried_now b m p is f
          (asked.Deliver x)
          ∙ ap (λ g. done b f g (ack_in rep) m) same
          ∙ ap (λ r. done b f g (ack_in r) m) replied_so)

      pub values_l : values_of t ≡ change b g w
      values_l = new_values ∙ ap (λ g. change b g w) same

      pub state_l : state b next ≡ moved b p g rec
      unfolding state step
      state_l = ap (λ g. moved b p g rec) same

      -- No life ends -----------------------------------------------------------------------------

      module _ (goes : is_end g ≡ false)
          (starts : (c : ℕ) → starts_of g c → (x.core.number ≡ c) × (x.kind ≡ kinds.Start))
        where
          acks_l : l.acks ≡ ack ∷ m.acks
          acks_l = done_acks b f g (Some ack) m

          mail_l : l.mail ≡ m.mail
          mail_l = done_mail b f g (Some ack) m

          gates_l : t.gates ≡ gates
          gates_l = it.left ∙ ap (λ g. gates_after (ending_of g) gates) same
              ∙ same_gates g gates goes

          station_l : l.station ≡ m.station
          station_l = same_station b f g (Some ack) m goes

          firmware_l : l.firmware ≡ m.firmware
          firmware_l = same_firmware b f g (Some ack) m goes

          ending_l : (y : MessageValue) → IsEnding m y → IsEnding l y
          ending_l y e = (
            e.0,
            (subst (λ list. IsIn list e.0) (sym acks_l) (suc e.1.0.0, e.1.0.1), e.1.1),
          )

          under_l : (y : MessageValue) → (y ≡ x → ⊥) → IsUnderWay m y → IsUnderWay l y
          under_l y ne u = elim u [
            | inl at ↦ inl (subst (λ list. IsIn list y) (sym mail_l) at)
            | inr at ↦ inr (ap (λ gs. (gate_in gs y.core.number).waiting) gates_l
                ∙ it.keeps y ne at)
          ]

          words_l : total (unheard l) (cores b) ≤ total (unheard m) (cores b)
          words_l = total_le (unheard m) (unheard l) (cores b) (λ d has. same_le _ _ (
              ap (λ n. cond {A = ℕ} (n == (l.station d).word) 0 1)
              (ap (λ gs. (gate_in gs d).word) gates_l ∙ it.words d)
              ∙ ap (λ (s : ℕ → Station). cond {A = ℕ} (heard m.control d == (s d).word) 0 1)
              station_l))

          calls_l : IsCalling b l → IsCalling b m
          calls_l e = (
            e.0,
            (
              e.1.0,
              (e.1.1.0, ap (λ (s : ℕ → Station). (s e.0).lent) (sym station_l) ∙ e.1.1.1),
            ),
          )

          rest_l : (slot : Slot) (y : MessageValue) → (slot_of x.kind x.core ≡ slot → ⊥)
              → (remembers m.firmware).outstanding slot ≡ Some y
              → rest b (values_of t) y ≤ rest b (values_of m.control) y
          rest_l slot y ne out =
              let is_listed = listed_here b given m acts seen slot y out in
              subst (λ v. rest b (values_of t) y ≤ rest b v y) (sym is.control.values)
              (subst (λ v. rest b v y ≤ rest b w y) (sym values_l) (rest_less b w g y goes
              (λ own. subst (λ v. left_of b v y ≤ left_of b w y)
              (served_so ∙ ap (λ g. change b g w) same)
              (leaves.others is_listed.number y is_listed.at own
              (ap (λ (v : Values). v.life) (served_so ∙ ap (λ g. change b g w) same)
              ∙ same_life b w g goes)))
              (λ kind c begins at. ne (same_slot y.kind x.kind y.core x.core kind
              (starts c begins).1
              (at ∙ sym (starts c begins).0) ∙ is_listed.own))))
            where
              same_slot : (k n : Kind) (c d : Core) → k ≡ kinds.Start → n ≡ kinds.Start
                  → c.number ≡ d.number → slot_of n d ≡ slot_of k c
              same_slot k n c d e h at = grind (arith, nat_tests)

          other_pays : (slot : Slot) (n : ℕ) → (slot_of x.kind x.core ≡ slot → ⊥)
              → Pays b m ((remembers m.firmware).outstanding slot) n
              → Pays b l ((remembers l.firmware).outstanding slot) n
          other_pays slot n ne pays =
              subst (λ h. Pays b l ((remembers h).outstanding slot) n) (sym firmware_l)
              (pays_later b m l ((remembers m.firmware).outstanding slot) n
              (λ y e i. ending_l y i)
              (λ y e u. under_l y (λ at. ne (ap (λ (z : MessageValue). slot_of z.kind z.core)
              (sym at)
              ∙ (listed_here b given m acts seen slot y e).own)) u)
              (λ y e. rest_l slot y ne e) pays)

          pays_own : (n : ℕ) → Pays b l (Some x) n
              → 11 * weight b next + n + 1 ≤ 11 * weight b acts + (rest b w x + 2)
              → OwesNext b l next all 0
          pays_own n pays cost =
              let own : Slot = slot_of x.kind x.core in
              let on : HasSlot b own = on_slot b x.kind x.core it.on in
              let much = aside (owes.credit own)
              (subst (λ o. Pays b m o (owes.credit own)) it.wanted.out (owes.own own on)) in
              let heard = words_l in
              pays_slot b m l acts next all 0 owes n owes.call (λ e. owes.calls (calls_l e)) own on
              (subst (λ h. Pays b l ((remembers h).outstanding own) n) (sym firmware_l)
              (subst (λ o. Pays b l o n) (sym it.wanted.out) pays))
              (λ s within ne. other_pays s (owes.credit s) (λ e. ne (sym e)) (owes.own s within))
              (omega (arith, much, heard, cost))

          -- its end is under way
          pub ended_pays : is_done ack x ≡ true → Pays b l (Some x) 1
          ended_pays is_over = inl (
            (
              ack,
              (
                (0, ap (λ list. slice_get list 0) acks_l),
                and_from (answers ack x) (is_done ack x) (own_answer b w x x.kind) is_over,
              ),
            ),
            omega arith,
          )

      -- A life ends ------------------------------------------------------------------------------

      none_out : is_end g ≡ true → (slot : Slot) → (remembers l.firmware).outstanding slot ≡ None
      none_out over slot =
          ap (λ h. (remembers h).outstanding slot) (new_firmware g over)
          ∙ ap (λ (v : Remembered). v.outstanding slot) it.anew.values
        where
          new_firmware : (g : Effect) → is_end g ≡ true → (done b f g (Some ack) m).firmware ≡ f
          new_firmware Ends over = refl
          new_firmware Begins over = refl
          new_firmware f over = absurd (cc)

      none_calls : is_end g ≡ true → IsCalling b l → ⊥
      none_calls over e = by g over e.1.1.1
        where
          by : (g : Effect) → is_end g ≡ true
              → ((done b f g (Some ack) m).station e.0).lent ≡ Some (calls.Smc e.1.1.0) → ⊥
          by Ends over at = none-some _ at
          by Begins over at = none-some _ at
          by f over at = cc

      -- what is left to do then is bounded
      ends_next : is_end g ≡ true → 232 * cores b + 2 ≤ owes.credit OfSystem
          → OwesNext b l next all 0
      ends_next over much =
          let sum = owes.sum in
          let few = total_bound (core_left (state b next)) (cores b) (all_few (state b next)) in
          let zero = total_few (λ c. 0) 0 (cores b) (λ c. omega arith) in
          let heard = total_few (unheard l) 1 (cores b) (unheard_few l) in record {
            less = 11 * weight b next + (all_slots (λ s. 0) (cores b) + (0
                + total (unheard l) (cores b)));
            low = omega (arith, sum, few, zero, heard, much);
            owes = record {
              credit = λ s. 0;
              call = 0;
              own = λ s on. subst (λ o. Pays b l o 0) (sym (none_out over s)) tt;
              calls = λ e. absurd (none_calls over e);
              sum = omega arith;
            };
          }

    -- By its kind --------------------------------------------------------------------------------

    effect_by : (kind : Kind) → x.kind ≡ kind → now ≡ message_effect b x (ack_by b w x kind) kind
    effect_by kind e = effect_this b w x present
        ∙ ap (λ k. message_effect b x (ack_by b w x k) k) e

    ack_same : (kind : Kind) → x.kind ≡ kind → ack ≡ ack_by b w x kind
    ack_same kind e = ap (ack_by b w x) e

    rest_by : (kind : Kind) → x.kind ≡ kind → rest b w x ≡ kind_rest b w x kind
    rest_by kind e = cond-true (is_this_life w.life x.life) (kind_rest b w x x.kind) 0 present
        ∙ ap (kind_rest b w x) e

    abbrev L : Machine
    L = commanded b f (orders_in m.control (asked.Deliver x)) t m

    from_l : (g : Effect) (same : now ≡ g) → OwesNext b (l g same) next all 0
        → OwesNext b L next all 0
    from_l g same owed = subst (λ n. OwesNext b n next all 0) (sym (to_l g same)) owed

    -- a Down
    module _ (kind : x.kind ≡ kinds.Down) where
      abbrev deep : Effect
      deep = Deepens x.core.number (take (applied b w x.core.number x.parts) x.parts)

      same : now ≡ deep
      same = effect_by kinds.Down kind

      low : weight b next ≤ weight b acts
      low = subst (λ q. left b q ≤ weight b acts) (sym (state_l deep same))
          (same_weight b p rec deep (λ d. refl))

      down_next : (t : Bool) → ends x rep ≡ t → OwesNext b L next all 0
      down_next true e =
          let less = low in from_l deep same (pays_own deep same refl (λ c s. absurd s) 1
          (ended_pays deep same refl (λ c s. absurd s) (sym (ends_this b w x present) ∙ e))
          (omega (arith, less)))
      down_next false e =
          let less = low in
          let fewer = subst (λ v. left_of b v x < left_of b w x)
          (served_so ∙ sym (new_values))
          ((leaves).own
          (never) e) in
          let few = rest_few (is_this_life (values_of t).life x.life) in
          let was = rest_by kinds.Down kind in
          from_l deep same (pays_own deep same refl (λ c s. absurd s) (rest b (values_of t) x + 3)
          (inr (inr (omega arith)))
          (omega (arith, less, few, was, fewer)))
        where
          rest_few : (s : Bool) → cond s (kind_rest b (values_of t) x x.kind) 0
              ≤ 2 * left_of b (values_of t) x
          rest_few s = by s (ap (kind_rest b (values_of t) x) kind)
            where
              by : (s : Bool) → kind_rest b (values_of t) x x.kind ≡ 2 * left_of b (values_of t) x
                  → cond s (kind_rest b (values_of t) x x.kind) 0 ≤ 2 * left_of b (values_of t) x
              by true e = omega (arith, e)
              by false e = omega arith

    -- a Start
    module _ (kind : x.kind ≡ kinds.Start) where
      start_next : (s : Bool) → may_follow b w x.core.number x.number ≡ s
          → OwesNext b L next all 0
      start_next true e =
          let same : now ≡ Starts x.core.number causes.On = effect_by kinds.Start kind
          ∙ ap (λ s. message_effect b x (cond s (ack_of x 1 false) (ack_of x 0 true)) kinds.Start) e
          in
          let g : Effect = Starts x.core.number causes.On in
          let low = subst (λ q. left b q ≤ weight b acts + 21) (sym (state_l g same))
          (start_weight b p rec g x.core.number (λ d ne. ne_eqb d x.core.number ne)) in
          let was = rest_by kinds.Start kind ∙ cond-true _ 231 0 e in
          from_l g same (pays_own g same refl (λ c s. (s, kind)) 1
          (ended_pays g same refl (λ c s. (s, kind))
          (ap (λ a. is_done a x) (ack_same kinds.Start kind) ∙ start_done b w x kind))
          (omega (arith, low, was)))
      start_next false e =
          let same : now ≡ Nothing = effect_by kinds.Start kind
          ∙ ap (λ s. message_effect b x (cond s (ack_of x 1 false) (ack_of x 0 true)) kinds.Start) e
          in
          let low = subst (λ q. left b q ≤ weight b acts) (sym (state_l Nothing same))
          (same_weight b p rec Nothing (λ d. refl)) in
          from_l Nothing same (pays_own Nothing same refl (λ c s. absurd s) 1
          (ended_pays Nothing same refl (λ c s. absurd s)
          (ap (λ a. is_done a x) (ack_same kinds.Start kind) ∙ start_done b w x kind))
          (omega (arith, low)))

    -- an Off or a Reset
    system_much : (kind : Kind) → x.kind ≡ kind → slot_of kind x.core ≡ OfSystem
        → kind_rest b w x kind ≡ 232 * cores b → 232 * cores b + 2 ≤ owes.credit OfSystem
    system_much kind e slot much = grind (arith, nat_tests, aside, rest_by)

    by_kind : (kind : Kind) → x.kind ≡ kind → OwesNext b L next all 0
    by_kind kinds.Down e = down_next e (ends x rep) refl
    by_kind kinds.Start e = start_next e (may_follow b w x.core.number x.number) refl
    by_kind kinds.Off e =
        let same : now ≡ Ends = effect_by kinds.Off e in
        from_l Ends same (ends_next Ends same refl (system_much kinds.Off e refl refl))
    by_kind kinds.Reset e = by (nat_lt x.life b.lives) refl
      where
        by : (s : Bool) → nat_lt x.life b.lives ≡ s → OwesNext b L next all 0
        by true lives =
            let same : now ≡ Begins = effect_by kinds.Reset e
            ∙ ap (λ s. cond s Begins Ends) lives in
            from_l Begins same (ends_next Begins same refl (system_much kinds.Reset e refl refl))
        by false lives =
            let same : now ≡ Ends = effect_by kinds.Reset e
            ∙ ap (λ s. cond s Begins Ends) lives in
            from_l Ends same (ends_next Ends same refl (system_much kinds.Reset e refl refl))

    pub message_next : OwesNext b L next all 0
    message_next = by_kind x.kind refl
