-- What an exchange leaves in which the firmware is asked: a call, or an entry.
use Rattle.psci_ctl_spec.specs.Values as controlled
use Rattle.psci_ctl_spec.specs.psci_messages.declared.kind.Kind.TheVariants as kinds
use Rattle.psci_world_spec.specs.Legal.{sent}
use Rattle.psci_headline.specs.psci_fw_spec.Effects as spoken
use Rattle.psci_headline.proofs.Controls.{found_own}
use Rattle.psci_headline.proofs.Nexts.{settled_life, SettleLaws}
use Rattle.psci_headline.proofs.Words.{◌++◌, ◌<◌, ◌∙◌, ◌≡◌, ◌⊎◌, Act, ap, arith, Arrival}
use Rattle.psci_headline.proofs.Words.{arrived, BoardValue, change, cond-true, controller_values}
use Rattle.psci_headline.proofs.Words.{cores, Down, Effect, enter_effect, eq-eqb, Event, false}
use Rattle.psci_headline.proofs.Words.{firmware_values, in_life, inl, inr, is_system, IsAllowed}
use Rattle.psci_headline.proofs.Words.{IsLegalPast, Kind, legal, length, List, listed}
use Rattle.psci_headline.proofs.Words.{MessageValue, nat_tests, None, none-some, OfCore, Option}
use Rattle.psci_headline.proofs.Words.{option_map, Record, refl, same_Some, sent_in, serving}
use Rattle.psci_headline.proofs.Words.{Slot, slot_of, Some, Start, step, subst, sym, Values, ℕ}
use Rattle.psci_guest.specs.Turns.{core_started, exchange, number_in, started_by}
use Rattle.psci_guest.proofs.Served.{AllEntered, AreHome, down_landed, HasLanded, IsComing}
use Rattle.psci_guest.proofs.Served.{IsSent, start_landed, system_landed}
use Rattle.psci_guest.proofs.Numbers.{numbered, same_listed}

-- What an effect of the firmware leaves outstanding, and whether the life halts -------------------

-- each core that enters does so in this life
abbrev pub AllIn : Effect → ℕ → Type 0
AllIn e life = (a : Arrival) → arrived e ≡ Some a → a.start.life ≡ life

-- what is outstanding was sent now, or was so before
pub still_out : (b : BoardValue) (v : Values) (e : Effect) (life : ℕ) (slot : Slot)
    (m : MessageValue) → AllIn e life → (change b e v).life ≡ life
    → (change b e v).outstanding slot ≡ Some m
    → (spoken.sent e ≡ Some m) ⊎ ((in_life b life v).outstanding slot ≡ Some m)
still_out b v e life slot m arrives own at = grind (arith, nat_tests, found_own)

-- what was sent is outstanding
pub now_out : (b : BoardValue) (v : Values) (e : Effect) (m : MessageValue)
    → spoken.sent e ≡ Some m → (change b e v).outstanding (slot_of m.kind m.core) ≡ Some m
now_out b v e m sends = grind (arith, nat_tests, cond-true, eq-eqb)

-- where a life comes to halt, a message for the system was sent
pub halts_by : (b : BoardValue) (v : Values) (e : Effect) (life : ℕ) (o : Option MessageValue)
    → AllIn e life → (change b e v).life ≡ life → (in_life b life v).halting ≡ false
    → IsAllowed b v e → spoken.sent e ≡ o
    → ((m : MessageValue) → o ≡ Some m → is_system m.kind ≡ false)
    → (change b e v).halting ≡ false
halts_by b v e life o arrives own awake allowed sends plain =
    grind (arith, nat_tests, found_own)

-- a core that enters sends a Down, or nothing
pub parks_by : (b : BoardValue) (v : Values) (c : ℕ) (s : Start) (act : Act)
    (o : Option MessageValue) (m : MessageValue) → IsAllowed b v (enter_effect c s act o)
    → spoken.sent (enter_effect c s act o) ≡ Some m → m.kind ≡ Down
parks_by b v c s act o m allowed sends = grind (arith, nat_tests)

-- Asked -------------------------------------------------------------------------------------------

-- The firmware is asked ---------------------------------------------------------------------------

-- What a call or an entry leaves, with what it came down to.
pub record IsAsked (b : BoardValue) (life : ℕ) (past : List Record) (event : Event) : Type 0 where
  pub effect : Effect
  pub values : firmware_values b (step b past event) ≡ change b effect (firmware_values b past)
  pub allowed : IsAllowed b (firmware_values b past) effect
  pub sends : sent (step b past event) ≡ listed (spoken.sent effect) ++ sent past
  pub arrives : AllIn effect life
  pub control : controller_values b (step b past event) ≡ controller_values b past
  pub entered : AllEntered b (step b past event)

sent_step : (b : BoardValue) (past : List Record) (event : Event)
    → sent (step b past event) ≡ listed (sent_in (legal b past event)) ++ sent past
unfolding sent
sent_step b past event = refl

module _ (b : BoardValue) (life : ℕ) (past : List Record) (event : Event) (laws : SettleLaws b)
    (is : IsLegalPast b past) (coming : IsComing b past life)
    (asked : IsAsked b life past event) where
  abbrev v : Values
  v = firmware_values b past

  abbrev next : List Record
  next = step b past event

  abbrev w : Values
  w = firmware_values b next

  legal_next : IsLegalPast b next
  legal_next = (refl, is)

  present : (controller_values b next).life ≡ Some life
  present = ap (λ (u : controlled.Values). u.life) asked.control ∙ coming.present

  own : w.life ≡ life
  own = (settled_life b next life laws.some (laws.past next legal_next) present asked.entered).own

  own_change : (change b asked.effect v).life ≡ life
  own_change = ap (λ (u : Values). u.life) (sym asked.values) ∙ own

  said : sent_in (legal b past event) ≡ spoken.sent asked.effect
  said = same_listed (sent_in (legal b past event)) (spoken.sent asked.effect) (sent past)
      (sym (sent_step b past event) ∙ asked.sends)

  number : number_in (legal b past event)
      ≡ option_map (λ m. length (sent past)) (spoken.sent asked.effect)
  number = numbered b past event ∙ ap (option_map (λ m. length (sent past))) said

  -- what is outstanding is what was sent
  only : (x : ℕ) (y : MessageValue) → x < cores b → w.outstanding (OfCore x) ≡ Some y
      → spoken.sent asked.effect ≡ Some y
  only x y on e =
      elim (still_out b v asked.effect life (OfCore x) y asked.arrives own_change
      (sym (ap (λ (u : Values). u.outstanding (OfCore x)) asked.values) ∙ e)) [
        | inl now ↦ now
        | inr old ↦ absurd (none-some y (sym (coming.none x on) ∙ old))
      ]

  awake : (o : Option MessageValue) → spoken.sent asked.effect ≡ o
      → ((m : MessageValue) → o ≡ Some m → is_system m.kind ≡ false) → w.halting ≡ false
  awake o e plain =
      ap (λ (u : Values). u.halting) asked.values
      ∙ halts_by b v asked.effect life o asked.arrives own_change coming.awake asked.allowed e
      plain

  found : in_life b life w ≡ w
  found = found_own b life w (sym own)

  is_sent : (m : MessageValue) → spoken.sent asked.effect ≡ Some m → IsSent b life next past m
  is_sent m e = record {
    legal = legal_next;
    present = present;
    own = own;
    entered = asked.entered;
    sends = asked.sends ∙ ap (λ o. listed o ++ sent past) e;
    only = λ x y on at. same_Some m y (sym e ∙ only x y on at);
    at = ap (λ (u : Values). u.outstanding (slot_of m.kind m.core))
        asked.values ∙ now_out b v asked.effect m e;
  }

  -- nothing was sent
  nothing_sent : spoken.sent asked.effect ≡ None → IsComing b next life
  nothing_sent e = record {
    present = present;
    awake = ap (λ (u : Values). u.halting) found
        ∙ awake None e (λ m no. absurd (none-some m no));
    none = λ x on. ap (λ (u : Values). u.outstanding (OfCore x)) found
        ∙ by x on (w.outstanding (OfCore x)) refl;
  }
    where
      by : (x : ℕ) → x < cores b → (o : Option MessageValue) → w.outstanding (OfCore x) ≡ o
          → w.outstanding (OfCore x) ≡ None
      by x on None f = f
      by x on (Some y) f = absurd (none-some y (sym e ∙ only x y on f))

  awake_in : (m : MessageValue) → spoken.sent asked.effect ≡ Some m → is_system m.kind ≡ false
      → w.halting ≡ false
  awake_in m e plain =
      awake (Some m) e (λ n same. ap (λ (x : MessageValue). is_system x.kind)
      (sym (same_Some m n same)) ∙ plain)

  -- nothing or a Down was sent: every core has entered still
  pub stays : (o : Option MessageValue) → spoken.sent asked.effect ≡ o
      → ((m : MessageValue) → o ≡ Some m → m.kind ≡ Down) → AreHome b (exchange b past event) life
  unfolding exchange
  stays None e down =
      subst (λ k. AreHome b (serving b next k) life)
      (sym (number ∙ ap (option_map (λ m. length (sent past))) e))
      (record { legal = legal_next; coming = nothing_sent e; entered = asked.entered })
  stays (Some m) e down =
      let kind = down m refl in
      subst (λ k. AreHome b (serving b next k) life)
      (sym (number ∙ ap (option_map (λ m. length (sent past))) e))
      (down_landed b life next past m laws (is_sent m e) kind
      (ap (λ (u : Values). u.halting) found ∙ awake_in m e (ap is_system kind)))

  one_life : AreHome b (exchange b past event) life → HasLanded b None (exchange b past event)
  one_life all = record {
    legal = all.legal;
    coming = λ l p. subst (IsComing b (exchange b past event))
        (same_Some life l (sym all.coming.present ∙ p)) all.coming;
    others = all.entered;
  }

  by_kind : (m : MessageValue) → spoken.sent asked.effect ≡ Some m → (k : Kind) → m.kind ≡ k
      → HasLanded b (core_started m k) (exchange b past event)
  unfolding exchange
  by_kind m e kinds.Down kind =
      one_life (stays (Some m) e (λ n same.
      ap (λ (x : MessageValue). x.kind) (sym (same_Some m n same)) ∙ kind))
  by_kind m e kinds.Start kind =
      subst (λ k. HasLanded b (Some m.core.number) (serving b next k))
      (sym (number ∙ ap (option_map (λ m. length (sent past))) e))
      (start_landed b life next past m laws (is_sent m e) kind (awake_in m e (ap is_system kind)))
  by_kind m e kinds.Off kind =
      subst (λ k. HasLanded b (Some 0) (serving b next k))
      (sym (number ∙ ap (option_map (λ m. length (sent past))) e))
      (system_landed b life next past m laws (is_sent m e) (ap is_system kind))
  by_kind m e kinds.Reset kind =
      subst (λ k. HasLanded b (Some 0) (serving b next k))
      (sym (number ∙ ap (option_map (λ m. length (sent past))) e))
      (system_landed b life next past m laws (is_sent m e) (ap is_system kind))

  by_sent : (o : Option MessageValue) → spoken.sent asked.effect ≡ o
      → HasLanded b (started_by o) (exchange b past event)
  by_sent None e = one_life (stays None e (λ m no. absurd (none-some m no)))
  by_sent (Some m) e = by_kind m e m.kind refl

  pub asked_landed : HasLanded b (started_by (sent_in (legal b past event)))
      (exchange b past event)
  asked_landed = by_sent (sent_in (legal b past event)) (sym said)
