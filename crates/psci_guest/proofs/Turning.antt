-- After each turn all is settled.
use Rattle.std.proofs.Common.{unwrap_or}
use Rattle.psci_ctl_spec.specs.Values as controlled
use Rattle.psci_world_spec.specs.Legal.{legal, place, sent_in}
use Rattle.psci_world_spec.specs.declared.event.Event.TheVariants.{Call}
use Rattle.psci_headline.proofs.Agreed.{first_kept}
use Rattle.psci_headline.proofs.Controls.{found_own}
use Rattle.psci_headline.proofs.Downs.{first_controlled}
use Rattle.psci_headline.proofs.Beginning.{each_done, HasEntered, IsStep}
use Rattle.psci_headline.proofs.Starts.{IsGoing}
use Rattle.psci_headline.proofs.Settled.{at_rest}
use Rattle.psci_headline.proofs.Nexts.{settled_life}
use Rattle.psci_headline.proofs.Words.{◌+◌, ◌<◌, ◌∙◌, ◌∷◌, ◌≡◌, ◌≤◌, [], ap, AreAtRest, arith}
use Rattle.psci_headline.proofs.Words.{BoardValue, cases_eq, cond-false, controller_values}
use Rattle.psci_headline.proofs.Words.{cores, each_core, Enter, false, firmware_values, in_life}
use Rattle.psci_headline.proofs.Words.{inl, inr, is_halting, IsLegalPast, List, nat_tests}
use Rattle.psci_headline.proofs.Words.{ne_eqb, None, none-some, OfCore, Option, range_with_len}
use Rattle.psci_headline.proofs.Words.{Record, refl, Reset, same_Some, Some, Started, Stopped}
use Rattle.psci_headline.proofs.Words.{subst, suc, sym, Values, Wake, zero, ℕ}
use Rattle.psci_guest.specs.Turns.{arrived, arriving, Calls, event_of, exchange, Resets}
use Rattle.psci_guest.specs.Turns.{started_by, Turn, turns, Wakes}
use Rattle.psci_guest.proofs.Happened.{call_landed, entry_landed, IsOver, kick_landed}
use Rattle.psci_guest.proofs.Happened.{over_landed, stands, TurnLaws}
use Rattle.psci_guest.proofs.Served.{AllEntered, any_most, AreHome, AreIn, HasLanded, IsComing}
use Rattle.psci_guest.proofs.Served.{lands, one_most}

-- What is so between two turns.
pub record IsHome (b : BoardValue) (past : List Record) : Type 0 where
  pub legal : IsLegalPast b past
  pub coming : (life : ℕ) → (controller_values b past).life ≡ Some life → IsComing b past life
  pub entered : AllEntered b past

-- The cores that were started enter ---------------------------------------------------------------

pub arriving_case : (b : BoardValue) (past : List Record) (c : ℕ) (P : List Record → Type 0)
    → (place b past c ≡ Started → P (exchange b past (Enter c)))
    → (HasEntered b c past → P past) → P (arriving b past c)
arriving_case b past c P in_now not_now = grind (arith, nat_tests)

-- What stays so meanwhile.
pub record Arrives (b : BoardValue) (life one : ℕ) (past : List Record) : Type 0 where
  pub legal : IsLegalPast b past
  pub coming : IsComing b past life
  pub others : AreIn b one past

abbrev pub IsIn : BoardValue → ℕ → List Record → Type 0
IsIn b c past = c < cores b → HasEntered b c past

module _ (b : BoardValue) (life one : ℕ) (laws : TurnLaws b) where
  -- only this one was started
  the_one : (past : List Record) (c : ℕ) → c < cores b → Arrives b life one past
      → place b past c ≡ Started → AreIn b c past
  the_one past c on is at x inside ne e = elim (cases_eq c one) [
    | inl same ↦ is.others x inside (λ f. ne (f ∙ sym same)) e
    | inr other ↦ is.others c on other at
  ]

  pub enters : (past : List Record) (c : ℕ) → c < cores b → Arrives b life one past
      → place b past c ≡ Started → AreHome b (exchange b past (Enter c)) life
  enters past c on is at =
      entry_landed b life past c laws is.legal is.coming on at (the_one past c on is at)

  arrive_step : IsStep (arriving b) (cores b) (Arrives b life one) (λ c past. Unit {0}) (IsIn b)
  arrive_step = record {
    keeps = λ past c on is.
        arriving_case b past c (Arrives b life one)
        (λ at.
        let all = enters past c on is at in
        record {
          legal = all.legal;
          coming = all.coming;
          others = λ x inside ne. all.entered x inside;
        })
        (λ not. is);
    todo = λ past c x on ne is now other. tt;
    done = λ past c x on ne is now old.
        arriving_case b past c (λ next. IsIn b x next)
        (λ at inside. (enters past c on is at).entered x inside) (λ not. old);
    here = λ past c on is now.
        arriving_case b past c (λ next. IsIn b c next)
        (λ at inside. (enters past c on is at).entered c inside) (λ not inside. not);
  }

  all_in : (past : List Record) → Arrives b life one past → AreHome b (arrived b past) life
  unfolding arrived
  all_in past is =
      let all = each_done (arriving b) (cores b) (Arrives b life one) (λ c past. Unit {0}) (IsIn b)
      arrive_step past is (λ c on. tt) in
      record {
        legal = all.holds.legal;
        coming = all.holds.coming;
        entered = λ x on. all.done x on on;
      }

-- without a life no core enters
none_in : (b : BoardValue) (past : List Record) → TurnLaws b → IsOver b past
    → IsOver b (arrived b past)
unfolding arrived
none_in b past laws is =
    (each_done (arriving b) (cores b) (IsOver b) (λ c past. Unit {0}) (λ c past. Unit {0})
    (record {
      keeps = λ past c on is.
          arriving_case b past c (IsOver b)
          (λ at. let no : Stopped ≡ Started = sym (stands b past c laws is) ∙ at in absurd (cc))
          (λ not. is);
      todo = λ past c x on ne is now other. tt;
      done = λ past c x on ne is now old. tt;
      here = λ past c on is now. tt;
    }) past is (λ c on. tt)).holds

-- A turn ------------------------------------------------------------------------------------------

over_home : (b : BoardValue) (past : List Record) → TurnLaws b → IsOver b past → IsHome b past
over_home b past laws is = record {
  legal = is.legal;
  coming = λ life present. absurd (none-some life (sym is.over ∙ present));
  entered = λ x on e. let no : Stopped ≡ Started = sym (stands b past x laws is) ∙ e in absurd (cc);
}

home_in : (b : BoardValue) (past : List Record) (life : ℕ) → AreHome b past life → IsHome b past
home_in b past life all = record {
  legal = all.legal;
  coming = λ l present.
      subst (IsComing b past) (same_Some life l (sym all.coming.present ∙ present)) all.coming;
  entered = all.entered;
}

landed_home : (b : BoardValue) (past : List Record) (o one : Option ℕ) → TurnLaws b
    → (controller_values b past).life ≡ o → HasLanded b one past → IsHome b (arrived b past)
landed_home b past None one laws e has =
    let is : IsOver b past = record { legal = has.legal; over = e } in
    over_home b (arrived b past) laws (none_in b past laws is)
landed_home b past (Some life) one laws e has =
    home_in b (arrived b past) life
    (all_in b life (unwrap_or one 0) laws past
    (record {
      legal = has.legal;
      coming = has.coming life e;
      others = one_most b one past has.others;
    }))

-- the core that a turn may start
abbrev pub begun_by : BoardValue → List Record → Turn → Option ℕ
begun_by b past (Calls c regs) = started_by (sent_in (legal b past (Call c regs)))
begun_by b past (Wakes c) = Some c
begun_by b past (Resets c) = Some c

pub exchanged : (b : BoardValue) (past : List Record) (o : Option ℕ) (t : Turn) → TurnLaws b
    → (controller_values b past).life ≡ o → IsHome b past
    → HasLanded b (begun_by b past t) (exchange b past (event_of t))
exchanged b past None t laws e is =
    let all = over_landed b past t laws (record { legal = is.legal; over = e }) in
    record {
      legal = all.legal;
      coming = all.coming;
      others = any_most b (begun_by b past t) (exchange b past (event_of t)) all.others;
    }
exchanged b past (Some life) (Calls c regs) laws e is =
    call_landed b life past c regs laws is.legal (is.coming life e) is.entered
exchanged b past (Some life) (Wakes c) laws e is =
    kick_landed b life past (Wake c) c (inl refl) is.legal (is.coming life e) is.entered
exchanged b past (Some life) (Resets c) laws e is =
    kick_landed b life past (Reset c) c (inr refl) is.legal (is.coming life e) is.entered

-- The start ---------------------------------------------------------------------------------------

pub first_landed : (b : BoardValue) → HasLanded b (Some 0) []
unfolding place
first_landed b = record {
  legal = tt;
  coming = λ life present.
      let one : 1 ≡ life =
      same_Some 1 life (sym (ap (λ (u : controlled.Values). u.life) (first_controlled b)) ∙ present)
      in
      subst (IsComing b []) one (record {
        present = ap (λ (u : controlled.Values). u.life) (first_controlled b);
        awake = ap (λ (u : Values). (in_life b 1 u).halting) (first_kept b);
        none = λ x on. ap (λ (u : Values). (in_life b 1 u).outstanding (OfCore x)) (first_kept b);
      });
  others = λ x on ne e. grind (arith, nat_tests, cond-false, ne_eqb);
}

pub home : (b : BoardValue) (ts : List Turn) → TurnLaws b → IsHome b (turns b ts)
unfolding turns
home b [] laws = landed_home b [] (controller_values b []).life (Some 0) laws refl (first_landed b)
home b (t ∷ ts) laws =
    let past : List Record = turns b ts in
    let next : List Record = exchange b past (event_of t) in
    landed_home b next (controller_values b next).life (begun_by b past t) laws refl
    (exchanged b past (controller_values b past).life t laws refl (home b ts laws))

-- Settled -----------------------------------------------------------------------------------------

module _ (b : BoardValue) (past : List Record) (life : ℕ) (laws : TurnLaws b) (is : IsHome b past)
    (present : (controller_values b past).life ≡ Some life) where
  coming : IsComing b past life
  coming = is.coming life present

  abbrev v : Values
  v = firmware_values b past

  own : v.life ≡ life
  own = (settled_life b past life laws.settle.some (laws.settle.past past is.legal) present
      is.entered).own

  same : in_life b life v ≡ v
  same = found_own b life v (sym own)

  none_out : (x : ℕ) → x < cores b → v.outstanding (OfCore x) ≡ None
  none_out x on = ap (λ (u : Values). u.outstanding (OfCore x)) (sym same) ∙ coming.none x on

  going : IsGoing b past life past
  going = lands b past life laws.settle is.legal present coming.awake is.entered
      (λ c on m e start. none-some m (sym (none_out c on) ∙ e))

  pub rests : AreAtRest b past
  rests = at_rest b past life past laws.settle going none_out

  pub goes_on : is_halting b past ≡ false
  goes_on = ap (λ o. Rattle.psci_headline.specs.Settling.halts_in b past o) present ∙ coming.awake

-- Where only one core may be at its start, what all cores do is what this one does ----------------

none_arrives : (b : BoardValue) (past : List Record) (c : ℕ) → HasEntered b c past
    → arriving b past c ≡ past
none_arrives b past c not =
    arriving_case b past c (λ p. p ≡ past) (λ at. absurd (not at)) (λ n. refl)

skip : (b : BoardValue) (n a : ℕ) (past : List Record)
    → ((c : ℕ) → a ≤ c → c < a + n → HasEntered b c past)
    → each_core (arriving b) (range_with_len a n) past ≡ past
skip b zero a past is = refl
skip b (suc n) a past is =
    ap (each_core (arriving b) (range_with_len (a + 1) n))
    (none_arrives b past a (is a (omega arith) (omega arith)))
    ∙ skip b n (a + 1) past (λ c low high. is c (omega (arith, low)) (omega (arith, high)))

one_arrives : (b : BoardValue) (n a one : ℕ) (past : List Record) → a ≤ one → one < a + n
    → ((c : ℕ) → (c ≡ one → ⊥) → a ≤ c → c < a + n → HasEntered b c past)
    → ((c : ℕ) → c < a + n → HasEntered b c (arriving b past one))
    → each_core (arriving b) (range_with_len a n) past ≡ arriving b past one
one_arrives b zero a one past low high others after = absurd (omega (arith, low, high))
one_arrives b (suc n) a one past low high others after = elim (cases_eq a one) [
  | inl same ↦
      ap (λ i. each_core (arriving b) (range_with_len (a + 1) n) (arriving b past i)) same
      ∙ skip b n (a + 1) (arriving b past one) (λ c from to. after c (omega (arith, to)))
  | inr ne ↦
      ap (each_core (arriving b) (range_with_len (a + 1) n))
      (none_arrives b past a (others a ne (omega arith) (omega arith)))
      ∙ one_arrives b n (a + 1) one past (omega (arith, low, ne)) (omega (arith, high))
      (λ c other from to. others c other (omega (arith, from)) (omega (arith, to)))
      (λ c to. after c (omega (arith, to)))
]

pub arrived_none : (b : BoardValue) (past : List Record) → AllEntered b past
    → arrived b past ≡ past
unfolding arrived
arrived_none b past is = skip b (cores b) 0 past (λ c low high. is c (omega (arith, high)))

-- once that one has entered all have
entered_then : (b : BoardValue) (past : List Record) (one : ℕ) (o : Option ℕ) → TurnLaws b
    → HasLanded b (Some one) past → one < cores b → (controller_values b past).life ≡ o
    → AllEntered b (arriving b past one)
entered_then b past one None laws has on e =
    let all : AllEntered b past = λ x inside f.
    let no : Stopped ≡ Started = sym (stands b past x laws (record { legal = has.legal; over = e }))
    ∙ f in absurd (cc) in
    subst (AllEntered b) (sym (none_arrives b past one (all one on))) all
entered_then b past one (Some life) laws has on e =
    arriving_case b past one (AllEntered b)
    (λ at. (enters b life one laws past one on (record {
      legal = has.legal;
      coming = has.coming life e;
      others = has.others;
    }) at).entered)
    (λ not x inside f. elim (cases_eq x one) [
      | inl same ↦ not (subst (λ i. place b past i ≡ Started) same f)
      | inr ne ↦ has.others x inside ne f
    ])

pub arrived_one : (b : BoardValue) (past : List Record) (one : ℕ) → TurnLaws b
    → HasLanded b (Some one) past → one < cores b → arrived b past ≡ arriving b past one
unfolding arrived
arrived_one b past one laws has on =
    one_arrives b (cores b) 0 one past (omega arith) (omega (arith, on))
    (λ c ne low high. has.others c (omega (arith, high)) ne)
    (λ c high. entered_then b past one (controller_values b past).life laws has on refl c
    (omega (arith, high)))
