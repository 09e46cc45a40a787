-- Firmware and power controller agree after every legal run.
use Rattle.psci_ctl_spec.specs.Replies as controlling_effects
use Rattle.psci_ctl_spec.specs.History as legal_controls
use Rattle.psci_ctl_spec.specs.Replies.{reply}
use Rattle.psci_ctl_spec.specs.Values as controlled
use Rattle.psci_ctl_spec.specs.declared.call.CtlCall.{CtlCall}
use Rattle.psci_ctl_spec.specs.psci_messages.declared.kind.Kind.TheVariants as kinds
use Rattle.psci_world_spec.specs.Legal.{controller_history, firmware_history, place}
use Rattle.psci_world_spec.specs.Legal.{place_controlled}
use Rattle.psci_world_spec.specs.declared.said.Said.TheVariants as said
use Rattle.psci_fw_laws.specs.psci_fw_spec.History as remembers
use Rattle.psci_headline.specs.psci_fw_laws.Messages.{known_below}
use Rattle.psci_headline.specs.psci_fw_spec.Phases.{Running}
use Rattle.psci_headline.specs.psci_fw_spec.Effects as says
use Rattle.psci_headline.specs.psci_fw_spec.declared.outcome.Act.TheVariants as acts
use Rattle.psci_headline.specs.psci_messages.Outstanding
use Rattle.psci_headline.proofs.Controls.{AreAgreed, at_start, control_agrees}
use Rattle.psci_headline.proofs.Happening.{happens}
use Rattle.psci_headline.proofs.Sending.{after_call, after_control, CallerLaws, function_call}
use Rattle.psci_headline.proofs.Sending.{is_call, legal_call, more_controls}
use Rattle.psci_headline.proofs.Moves.{acted, call_agrees, enter_agrees}
use Rattle.psci_headline.proofs.Pursuing.{HasName, IsEmptied, named, none_left, still_or}
use Rattle.psci_headline.proofs.Pursuing.{told_of, waiting_arrival, waiting_asked, waiting_core}
use Rattle.psci_headline.proofs.Pursuing.{waiting_halt, waiting_phase}
use Rattle.psci_headline.proofs.Checking.{down_slot, system_slot}
use Rattle.psci_headline.proofs.Unclaimed.{none_live_running, none_live_started}
use Rattle.psci_headline.proofs.Words.{◌++◌, ◌<◌, ◌∙◌, ◌∷◌, ◌≡◌, ◌≤◌, ◌⊎◌, [], Acknowledge}
use Rattle.psci_headline.proofs.Words.{AckValue, Act, Agree, and_from, ap, AreConfirming}
use Rattle.psci_headline.proofs.Words.{AreLive, arith, AsksOn, Away, BoardValue, Bool, Call}
use Rattle.psci_headline.proofs.Words.{cases_lt, change, changed, Clear, cond, cond_both}
use Rattle.psci_headline.proofs.Words.{confirms_on, control, controller_values, cores, Deliver}
use Rattle.psci_headline.proofs.Words.{delivered, Effect, effect, Enter, enter_effect, entered}
use Rattle.psci_headline.proofs.Words.{eq-eqb, Event, false, firmware_values, function_effect}
use Rattle.psci_headline.proofs.Words.{GoesOn, Halts, Holds, in_life, indexed, inl, inr, is_kind}
use Rattle.psci_headline.proofs.Words.{IsAllowed, IsConfirmedOr, IsLegal, IsLegalPast, IsOffOr}
use Rattle.psci_headline.proofs.Words.{IsOutstanding, IsTold, IsYetToCome, Kind, last_start}
use Rattle.psci_headline.proofs.Words.{legal, List, lt-ltb, MayFollow, MessageValue, nat_tests}
use Rattle.psci_headline.proofs.Words.{None, Off, Option, option_map, outcome_in, PathLaws}
use Rattle.psci_headline.proofs.Words.{Pending, Phase, Place, place_said, Record, refl, Regs}
use Rattle.psci_headline.proofs.Words.{request_of, Reset, Rests, Said, sent, SetsMode, Slot}
use Rattle.psci_headline.proofs.Words.{slot_of, Some, Start, start_of_life, Stops, subst, sym}
use Rattle.psci_headline.proofs.Words.{Take, target, true, unless_pending, unwrap_or, updated}
use Rattle.psci_headline.proofs.Words.{Values, values_more, WaitingIn, Wake, WasTold}
use Rattle.psci_headline.proofs.Words.{with_acknowledgement, ℕ}
use Rattle.psci_headline.proofs.fw_laws.Made.{once_down}
use Rattle.psci_headline.proofs.fw_laws.Claiming.{updated_at, updated_here}

-- What the laws of the crates below say of a board.
pub record RunLaws (b : BoardValue) : Type 0 where
  -- of the power controller's histories
  pub follows : (v : controlled.Values) (call : CtlCall) → legal_controls.IsCall b call
      → MayFollow b v (controlling_effects.effect_of b call (reply b v call))
  pub controls : (past : List Record) → IsLegalPast b past
      → legal_controls.IsLegal b (controller_history b past)
  -- and of the firmware's
  pub change : (e : says.FwExchange) (h : List says.FwExchange)
      → remembers.values_of b (e ∷ h) ≡ change b (effect b e) (remembers.values_of b h)
  pub allowed : (e : says.FwExchange) (h : List says.FwExchange) → IsLegal b (e ∷ h)
      → IsAllowed b (remembers.values_of b h) (effect b e)
  pub callers : CallerLaws b

-- The places after a record --------------------------------------------------------------------

-- where each core is after a record, whose event says this
abbrev pub place_next : BoardValue → List Record → Event → Said → ℕ → Place
place_next b past event s x =
    unwrap_or (place_said x event s)
    (unwrap_or (place_controlled b x (control (controller_values b past) (sent past) event s))
    (place b past x))

-- what both know of each other after a past, and after one record more
abbrev pub Now : BoardValue → List Record → Type 0
Now b past = AreAgreed b (controller_values b past) (place b past) (firmware_values b past)

abbrev pub Next : BoardValue → List Record → Event → Said → Type 0
Next b past event s =
    AreAgreed b (legal_controls.values_of b (after_control b past event s))
    (place_next b past event s) (remembers.values_of b (after_call b past event s))

-- The power controller -------------------------------------------------------------------------

-- one exchange of its history
control_next : (b : BoardValue) (past : List Record) (e : controlled.CtlExchange) → RunLaws b
    → Now b past → legal_controls.IsLegal b (e ∷ controller_history b past)
    → AreAgreed b (legal_controls.values_of b (e ∷ controller_history b past))
    (λ x. unwrap_or (place_controlled b x (e ∷ [])) (place b past x)) (firmware_values b past)
unfolding controlling_effects.after
control_next b past e laws now is =
    let h : List controlled.CtlExchange = controller_history b past in
    let v : controlled.Values = controller_values b past in
    let may : MayFollow b v (controlling_effects.effect_of b e.call e.reply) =
    grind (arith, nat_tests) in
    subst (λ w. AreAgreed b w (λ x. unwrap_or (place_controlled b x (e ∷ [])) (place b past x))
    (firmware_values b past))
    (sym (values_more b e h))
    (control_agrees b v (place b past) (firmware_values b past)
    (controlling_effects.effect_of b e.call e.reply) may now)

delivered_next : (b : BoardValue) (past : List Record) (o : Option MessageValue) (a : AckValue)
    → RunLaws b → Now b past
    → legal_controls.IsLegal b (delivered o a ++ controller_history b past)
    → AreAgreed b (legal_controls.values_of b (delivered o a ++ controller_history b past))
    (λ x. unwrap_or (place_controlled b x (delivered o a)) (place b past x))
    (firmware_values b past)
delivered_next b past None a laws now is = now
delivered_next b past (Some m) a laws now is = control_next b past _ laws now is

wake_next : (b : BoardValue) (past : List Record) (c : ℕ) (s : Said) → RunLaws b → Now b past
    → legal_controls.IsLegal b (after_control b past (Wake c) s) → Next b past (Wake c) s
wake_next b past c (said.Kick start) laws now is = control_next b past _ laws now is
wake_next b past c s laws now is = now

reset_next : (b : BoardValue) (past : List Record) (c : ℕ) (s : Said) → RunLaws b → Now b past
    → legal_controls.IsLegal b (after_control b past (Reset c) s) → Next b past (Reset c) s
reset_next b past c (said.Kick start) laws now is = control_next b past _ laws now is
reset_next b past c s laws now is = now

deliver_next : (b : BoardValue) (past : List Record) (k : ℕ) (s : Said) → RunLaws b → Now b past
    → legal_controls.IsLegal b (after_control b past (Deliver k) s) → Next b past (Deliver k) s
deliver_next b past k (said.Acked index ack) laws now is =
    delivered_next b past (indexed (sent past) k) ack laws now is
deliver_next b past k s laws now is = now

-- The firmware ---------------------------------------------------------------------------------

call_next : (b : BoardValue) (past : List Record) (c : ℕ) (regs : Regs) (s : Said) → RunLaws b
    → Now b past → IsLegal b (after_call b past (Call c regs) s) → s ≡ legal b past (Call c regs)
    → Next b past (Call c regs) s
call_next b past c regs (said.Fw act sends) laws now is e =
    let at = happens b past (Call c regs) (said.Fw act sends) e refl in
    let m : Option MessageValue = option_map (λ s. s.message) sends in
    let v : Values = firmware_values b past in
    subst (AreAgreed b (controller_values b past) (acted (place b past) c act))
    (sym (laws.change _ (firmware_history b past)))
    (call_agrees b (controller_values b past) (place b past) v c act
    (function_effect b c (request_of regs) act m) laws.callers at.core at.place
    (function_call b c (request_of regs) act m) (laws.allowed _ (firmware_history b past) is) now)
call_next b past c regs s laws now is e = now

enter_next : (b : BoardValue) (past : List Record) (c : ℕ) (s : Said) → RunLaws b → Now b past
    → s ≡ legal b past (Enter c) → Next b past (Enter c) s
enter_next b past c (said.Fw act sends) laws now e =
    let at = happens b past (Enter c) (said.Fw act sends) e refl in
    by_start (last_start (controller_values b past) c) at.start refl at.last
  where
    by_start : (o : Option Start) (s : Start) → last_start (controller_values b past) c ≡ o
        → o ≡ Some s
        → AreAgreed b (controller_values b past) (acted (place b past) c act)
        (remembers.values_of b
        (entered c o (outcome_in act sends) ++ firmware_history b past))
    by_start o s f g = grind (arith, nat_tests, acted, enter_agrees)
enter_next b past c (said.Kick start) laws now e = now
enter_next b past c s laws now e = now

take_next : (b : BoardValue) (past : List Record) (k : ℕ) (s : Said) → RunLaws b → Now b past
    → Next b past (Take k) s
take_next b past k s laws now = grind (arith, nat_tests)

-- The whole run --------------------------------------------------------------------------------

event_next : (b : BoardValue) (past : List Record) (event : Event) (s : Said) → RunLaws b
    → Now b past → legal_controls.IsLegal b (after_control b past event s)
    → IsLegal b (after_call b past event s) → s ≡ legal b past event → Next b past event s
event_next b past event s laws now controls calls e =
    grind (arith, nat_tests, call_next, enter_next, wake_next, reset_next, deliver_next, take_next)

-- what the firmware keeps before all records
pub first_kept : (b : BoardValue) → firmware_values b [] ≡ start_of_life b 0
unfolding firmware_history remembers.values_of Outstanding.outstanding Outstanding.last_message
first_kept b = refl

first_agreed : (b : BoardValue) → Now b []
unfolding controller_history place legal_controls.values_of
first_agreed b = grind (arith, nat_tests, first_kept, at_start)

pub agreed : (b : BoardValue) → RunLaws b → (past : List Record) → IsLegalPast b past → Now b past
unfolding controller_history firmware_history place
agreed b laws [] is = first_agreed b
agreed b laws (r ∷ past) is =
    event_next b past r.event r.said laws (agreed b laws past is.1)
    (subst (legal_controls.IsLegal b) (more_controls b r past) (laws.controls (r ∷ past) is))
    (legal_call b r past is) is.0

pub agrees : (b : BoardValue) → RunLaws b → (past : List Record) → IsLegalPast b past
    → Agree b past
agrees b laws past is = grind (arith, nat_tests, agreed)

-- What waits, after each effect of the firmware's calls, entries and acknowledgements -------------

-- Slots ----------------------------------------------------------------------------------------

not_down : (k : Kind) → is_kind k kinds.Down ≡ false → k ≡ kinds.Down → ⊥
not_down k other e = grind (arith, nat_tests)

-- a core that ran is of another phase then, and not pending
left_by : (p left : Phase) → p ≡ Running → unless_pending p left ≡ left
left_by p left runs = ap (λ x. unless_pending x left) runs

-- Calls ----------------------------------------------------------------------------------------

rested : (b : BoardValue) (life : ℕ) (w : controlled.Values) (v : Values)
    (sent : List MessageValue) (made : List AckValue) (c : ℕ) (left : Phase)
    → v.phase c ≡ Running → (left ≡ Pending → ⊥) → WaitingIn b life w v sent made
    → WaitingIn b life w
    (record v { phase = updated v.phase c (unless_pending (v.phase c) left) }) sent made
rested b life w v sent made c left runs ne h = grind (arith, nat_tests, waiting_phase, left_by)

pub call_waits : (b : BoardValue) (life : ℕ) (w : controlled.Values) (v : Values)
    (sent : List MessageValue) (made : List AckValue) (e : Effect) → CallerLaws b
    → is_call e ≡ true → IsAllowed b v e → AreLive b life v.known v.phase sent w.starts
    → WaitingIn b life w v sent made
    → WaitingIn b life w (change b e v) (says.listed (says.sent e) ++ sent) made
call_waits b life w v sent made (GoesOn c) laws is allowed live h = grind (arith, nat_tests)
call_waits b life w v sent made (SetsMode c mode) laws is allowed live h = grind (arith, nat_tests)
call_waits b life w v sent made (AsksOn c asked) laws is allowed live h =
    subst (λ u. WaitingIn b life w u (asked.message ∷ sent) made)
    (sym (laws.asks_on v c asked allowed.calls.runs))
    (waiting_asked h asked.message (target asked)
    (ap (λ k. slot_of k asked.message.core) allowed.kind) allowed.kind)
call_waits b life w v sent made (Rests c rest m) laws is allowed live h =
    waiting_core (rested b life w v sent made c rest.phase allowed.calls.runs allowed.waits h) m c
    (down_slot m.kind m.core c allowed.claim.kind allowed.core) allowed.core
    (none_live_running b life v.known v.phase sent w.starts c live allowed.calls.core
    allowed.calls.runs)
    (λ awake e. allowed.waits (sym (left_by (v.phase c) rest.phase allowed.calls.runs)
    ∙ sym (updated_here v.phase c (unless_pending (v.phase c) rest.phase)) ∙ e))
call_waits b life w v sent made (Halts c m) laws is allowed live h =
    waiting_halt (rested b life w v sent made c Away allowed.calls.runs (λ e. cc) h) m
    (system_slot m.kind m.core allowed.system) (not_down m.kind allowed.plain.other)
call_waits b life w v sent made (Stops c) laws is allowed live h = grind (arith, nat_tests, rested)
call_waits b life w v sent made e laws is allowed live h = absurd (cc)

-- Entries --------------------------------------------------------------------------------------

entered_waits : (b : BoardValue) (life : ℕ) (w : controlled.Values) (found : Values)
    (sent : List MessageValue) (made : List AckValue) (c n : ℕ) (new : Phase) → c < cores b
    → found.known c < w.starts c → AreLive b life found.known found.phase sent w.starts
    → (found.halting ≡ false → new ≡ Pending → ⊥) → WaitingIn b life w found sent made
    → WaitingIn b life w (record found {
      known = updated found.known c n;
      phase = updated found.phase c new;
      outstanding = λ slot. changed slot (Clear (record { number = c })) (found.outstanding slot);
    }) sent made
entered_waits b life w found sent made c n new on later live rests h =
    waiting_arrival h c n new
    (none_live_started b life found.known found.phase sent w.starts c live on later) rests

pub entry_waits : (b : BoardValue) (w : controlled.Values) (v : Values)
    (sent : List MessageValue) (made : List AckValue) (c : ℕ) (s : Start) (act : Act)
    (o : Option MessageValue) → let found = in_life b s.life v in
    IsAllowed b v (enter_effect c s act o) → c < cores b → found.known c < w.starts c
    → AreLive b s.life found.known found.phase sent w.starts
    → WaitingIn b s.life w found sent made
    → WaitingIn b s.life w (change b (enter_effect c s act o) v)
    (says.listed (says.sent (enter_effect c s act o)) ++ sent) made
entry_waits b w v sent made c s acts.Stop (Some m) allowed on later live h =
    let found : Values = in_life b s.life v in
    let new : Phase = unless_pending (found.phase c) Away in
    let rests : new ≡ Pending → ⊥ = grind (arith, nat_tests, updated_here) in
    waiting_core
    (entered_waits b s.life w found sent made c s.number new on later live (λ awake. rests) h) m c
    (down_slot m.kind m.core c allowed.claim.kind allowed.core) allowed.core
    (none_live_started b s.life found.known found.phase sent w.starts c live on later)
    (λ awake e. rests (sym (updated_here found.phase c new) ∙ e))
entry_waits b w v sent made c s acts.Stop None allowed on later live h =
    let found : Values = in_life b s.life v in
    entered_waits b s.life w found sent made c s.number (unless_pending (found.phase c) Away) on
    later live
    (λ awake. let no : true ≡ false = sym allowed.halting ∙ awake in absurd (cc)) h
entry_waits b w v sent made c s act o allowed on later live h =
    entered_waits b s.life w (in_life b s.life v) sent made c s.number Running on later live
    (λ awake e. absurd (cc)) h

-- What is told once an acknowledgement was taken --------------------------------------------------

kept : {A : Type 0} (t : Bool) (x was : A) → was ≡ x → cond t x was ≡ x
kept t x was e = cond_both t x was (λ y. y ≡ x) (λ f. refl) (λ f. e)

-- What is known as an acknowledgement is taken.
pub record IsTaking (b : BoardValue) (starts : ℕ → ℕ) (depth : ℕ → ℕ → ℕ) (v : Values)
    (sent : List MessageValue) (a : AckValue) : Type 0 where
  pub paths : PathLaws b
  pub holds : Holds b v sent
  -- what an acknowledgement of this life says
  pub told : a.life ≡ v.life → WasTold b starts depth a sent
  -- sums of known starts are no larger than sums of starts
  pub below : (level place : ℕ)
      → known_below b v.known level place ≤ known_below b starts level place

-- It says that the part for a domain was applied.
record IsApplied (a : AckValue) (m : MessageValue) (level : ℕ) : Type 0 where
  pub name : HasName a m
  pub low : level < a.applied

module _ (b : BoardValue) (starts : ℕ → ℕ) (depth : ℕ → ℕ → ℕ) (v : Values)
    (sent : List MessageValue) (a : AckValue) (t : IsTaking b starts depth v sent a) where
  abbrev left : Slot → Option MessageValue
  left s = changed s (Acknowledge a) (v.outstanding s)

  -- a part that was left out of a Down of which nothing is outstanding any more is not live
  not_live : (level place : ℕ) (is : IsOutstanding b v.known v.outstanding level place)
      → IsEmptied a is.message → a.applied ≤ level
      → known_below b v.known level place ≡ known_below b starts level place → ⊥
  not_live level place is emptied high same =
      let m : MessageValue = is.message in
      let of = t.holds.slots.core m.core.number m is.at in
      let mine = named a m emptied.answers in
      let told : IsTold b starts depth a m = grind (arith, nat_tests, told_of, once_down) in
      none_left is.kind emptied told level is.part high is.listed
      (is.current ∙ same ∙ ap (known_below b starts level) (sym is.on))

  -- what was outstanding is so still, or the acknowledgement says that the part was applied
  after_taken : (level place : ℕ) (is : IsOutstanding b v.known v.outstanding level place)
      → IsYetToCome b starts v.known left level place ⊎ IsApplied a is.message level
  after_taken level place is =
      elim (still_or v.outstanding a is.message.core.number is.message is.at) [
        | inl still ↦ grind (arith, nat_tests)
        | inr emptied ↦ elim (cases_lt level a.applied) [
          | inl low ↦ inr (record { name = named a is.message emptied.answers; low = low })
          | inr high ↦ grind (arith, nat_tests, not_live)
        ]
      ]

  confirms : (level place : ℕ) (is : IsOutstanding b v.known v.outstanding level place)
      → IsApplied a is.message level → 0 < v.granted level place
      → confirms_on b v a level place ≡ true
  unfolding known_below
  confirms level place is by some = grind (arith, nat_tests, and_from, eq-eqb, lt-ltb, down_slot)

  domain : (level place : ℕ) → 0 < v.granted level place → IsConfirmedOr b starts v level place
      → IsConfirmedOr b starts (with_acknowledgement b a v) level place
  domain level place some old = elim old [
    | inl was ↦ inl (kept (confirms_on b v a level place) true (v.confirmed level place) was)
    | inr yet ↦ elim yet [
      | inl is ↦ elim (after_taken level place is) [
        | inl still ↦ inr still
        | inr by ↦
            inl (ap (λ s. cond s true (v.confirmed level place))
            (confirms level place is by some))
      ]
      | inr more ↦ inr (inr more)
    ]
  ]

  -- and the core OFF
  off_now : (c : ℕ) (is : IsOutstanding b v.known v.outstanding 0 c) → IsApplied a is.message 0
      → v.phase c ≡ Away → (with_acknowledgement b a v).status c ≡ Off
  off_now c is by away = grind (arith, nat_tests, and_from, lt-ltb, updated_at)

  core_off : (c : ℕ) → v.phase c ≡ Away → IsOffOr b starts v c
      → IsOffOr b starts (with_acknowledgement b a v) c
  core_off c away old = elim old [
    | inl was ↦ grind (arith, nat_tests, updated_at, kept)
    | inr yet ↦ elim yet [
      | inl is ↦ elim (after_taken 0 c is) [
        | inl still ↦ inr still
        | inr by ↦ inl (off_now c is by away)
      ]
      | inr more ↦ inr (inr more)
    ]
  ]

  pub answered : AreConfirming b starts v → AreConfirming b starts (with_acknowledgement b a v)
  answered are = grind (arith, domain, core_off)
