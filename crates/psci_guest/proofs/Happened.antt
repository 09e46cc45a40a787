-- What each event that begins an exchange leaves: a call, an entry, a wake-up, a reset.
use Rattle.psci_ctl_spec.specs.Replies.{after, effect_of}
use Rattle.psci_ctl_spec.specs.Values as controlled
use Rattle.psci_world_spec.specs.Legal.{controller_history, firmware_history, legal, place, sent}
use Rattle.psci_world_spec.specs.Legal.{sent_in}
use Rattle.psci_headline.specs.psci_fw_spec.Effects as spoken
use Rattle.psci_headline.proofs.Controls.{found_other, found_own}
use Rattle.psci_headline.proofs.Beginning.{arrives, HasEntered, HaveArrived, same_control}
use Rattle.psci_headline.proofs.Moves.{FirmwareLaws, last_is, Moves, moves}
use Rattle.psci_headline.proofs.Nexts.{SettleLaws}
use Rattle.psci_headline.proofs.Words.{◌++◌, ◌<◌, ◌==◌, ◌∙◌, ◌∷◌, ◌≡◌, ◌≤◌, ◌⊎◌, Act, and_parts}
use Rattle.psci_headline.proofs.Words.{ap, arith, Arrival, arrived, BoardValue, Bool, Call}
use Rattle.psci_headline.proofs.Words.{cases_eq, cond-false, controller_values, cores, Enter}
use Rattle.psci_headline.proofs.Words.{enter_effect, eq-eqb, eqb-true, Event, false}
use Rattle.psci_headline.proofs.Words.{firmware_legal, firmware_values, in_life, inl, inr}
use Rattle.psci_headline.proofs.Words.{IsLegalPast, last_start, le-leb, leb-true, List, listed}
use Rattle.psci_headline.proofs.Words.{MessageValue, nat_tests, ne_eqb, None, none-some, OfCore}
use Rattle.psci_headline.proofs.Words.{Option, place_after, Record, refl, Regs, Reset, Said}
use Rattle.psci_headline.proofs.Words.{same_Some, sent_messages, serving, Some, Start, Started}
use Rattle.psci_headline.proofs.Words.{step, Stopped, subst, sym, true, Values, values_more}
use Rattle.psci_headline.proofs.Words.{Wake, ℕ}
use Rattle.psci_guest.specs.Arrivals.{kept_after}
use Rattle.psci_guest.specs.Pair.{is_known, Kept, waiting_in}
use Rattle.psci_guest.specs.Turns.{Calls, event_of, exchange, number_in, Resets, started_by}
use Rattle.psci_guest.specs.Turns.{Turn, Wakes}
use Rattle.psci_guest.proofs.Asked.{asked_landed, IsAsked, parks_by, stays}
use Rattle.psci_guest.proofs.Served.{AllEntered, AreHome, AreIn, HasLanded, IsComing}

-- What is known of a board.
pub record TurnLaws (b : BoardValue) : Type 0 where
  pub settle : SettleLaws b
  pub firmware : FirmwareLaws b
  pub sent : (past : List Record) → IsLegalPast b past
      → sent past ≡ sent_messages b (firmware_history b past)

-- A call ------------------------------------------------------------------------------------------

not_started : (act : Act) → place_after act ≡ Started → ⊥
not_started act e = grind (arith, nat_tests)

-- it starts no core
call_entered : (b : BoardValue) (past : List Record) (c : ℕ) (regs : Regs) (x : ℕ)
    → HasEntered b x past → HasEntered b x (step b past (Call c regs))
unfolding place
call_entered b past c regs x old e = by (legal b past (Call c regs)) e
  where
    by : (said : Said) → place b (record { event = Call c regs; said = said } ∷ past) x ≡ Started
        → ⊥
    by said e = grind (arith, nat_tests, not_started)

pub call_control : (b : BoardValue) (past : List Record) (c : ℕ) (regs : Regs)
    → controller_values b (step b past (Call c regs)) ≡ controller_values b past
unfolding controller_history
call_control b past c regs = refl

call_asked : (b : BoardValue) (life : ℕ) (past : List Record) (c : ℕ) (regs : Regs) → TurnLaws b
    → IsLegalPast b past → IsComing b past life → AllEntered b past
    → IsAsked b life past (Call c regs)
call_asked b life past c regs laws is coming entered =
    let next : List Record = step b past (Call c regs) in
    let m : Moves b (record { event = Call c regs; said = legal b past (Call c regs) }) past =
    moves b _ past laws.firmware refl (firmware_legal b next (refl, is)) in
    record {
      effect = m.effect;
      values = m.values;
      allowed = m.allowed;
      sends = laws.sent next (refl, is) ∙ m.sends
          ∙ ap (λ l. listed (spoken.sent m.effect) ++ l) (sym (laws.sent past is));
      arrives = λ a e.
          same_Some a.start.life life (sym (m.says.starts a e).life ∙ coming.present);
      control = call_control b past c regs;
      entered = λ x on. call_entered b past c regs x (entered x on);
    }

pub call_landed : (b : BoardValue) (life : ℕ) (past : List Record) (c : ℕ) (regs : Regs)
    → TurnLaws b → IsLegalPast b past → IsComing b past life → AllEntered b past
    → HasLanded b (started_by (sent_in (legal b past (Call c regs))))
    (exchange b past (Call c regs))
call_landed b life past c regs laws is coming entered =
    asked_landed b life past (Call c regs) laws.settle is coming
    (call_asked b life past c regs laws is coming entered)

-- An entry ----------------------------------------------------------------------------------------

entry_arrives : (c : ℕ) (s : Start) (act : Act) (o : Option MessageValue) (a : Arrival)
    → arrived (enter_effect c s act o) ≡ Some a → a.start ≡ s
entry_arrives c s act o a e = grind (arith, nat_tests)

module _ (b : BoardValue) (life : ℕ) (past : List Record) (c : ℕ) (laws : TurnLaws b)
    (is : IsLegalPast b past) (coming : IsComing b past life) (on : c < cores b)
    (at : place b past c ≡ Started) (others : AreIn b c past) where
  come : HaveArrived b past c
  come = arrives b past c laws.settle.runs is (laws.settle.past past is).free on at

  enter_asked : IsAsked b life past (Enter c)
  enter_asked = record {
    effect = enter_effect c come.start come.act come.message;
    values = come.firmware;
    allowed = come.allowed;
    sends = come.sent ∙ ap (λ o. listed o ++ sent past) (sym come.sends);
    arrives = λ a e.
        ap (λ (s : Start). s.life) (entry_arrives c come.start come.act come.message a e)
        ∙ same_Some come.start.life life
        (sym (last_is (controller_values b past) c come.start come.last).life ∙ coming.present);
    control = same_control b past c;
    entered = λ x inside. elim (cases_eq x c) [
      | inl same ↦ subst (λ i. HasEntered b i (step b past (Enter c))) (sym same) come.here
      | inr ne ↦ (λ e. others x inside ne (sym (come.there x ne) ∙ e))
    ];
  }

  pub entry_landed : AreHome b (exchange b past (Enter c)) life
  unfolding come enter_asked
  entry_landed =
      stays b life past (Enter c) laws.settle is coming enter_asked
      (spoken.sent (enter_effect c come.start come.act come.message)) refl
      (λ m e. parks_by b (firmware_values b past) c come.start come.act come.message m come.allowed
      e)

-- A wake-up or a reset of a core ------------------------------------------------------------------

-- one of the two
abbrev pub IsKick : Event → ℕ → Type 0
IsKick event c = (event ≡ Wake c) ⊎ (event ≡ Reset c)

-- What it leaves.
pub record IsKicked (b : BoardValue) (past : List Record) (event : Event) (said : Said) (c : ℕ)
    : Type 0 where
  pub firmware : firmware_values b (record { event = event; said = said } ∷ past)
      ≡ firmware_values b past
  pub life : (controller_values b (record { event = event; said = said } ∷ past)).life
      ≡ (controller_values b past).life
  pub place : (x : ℕ) → (x ≡ c → ⊥) → place b (record { event = event; said = said } ∷ past) x
      ≡ place b past x

wakes : (b : BoardValue) (past : List Record) (c : ℕ) (said : Said)
    → IsKicked b past (Wake c) said c
unfolding controller_history firmware_history place after effect_of
wakes b past c said = grind (arith, nat_tests, values_more, cond-false, ne_eqb)

resets : (b : BoardValue) (past : List Record) (c : ℕ) (said : Said)
    → IsKicked b past (Reset c) said c
unfolding controller_history firmware_history place after effect_of
resets b past c said = grind (arith, nat_tests, values_more, cond-false, ne_eqb)

pub kicks : (b : BoardValue) (past : List Record) (event : Event) (said : Said) (c : ℕ)
    → IsKick event c → IsKicked b past event said c
kicks b past event said c is = elim is [
  | inl e ↦ subst (λ x. IsKicked b past x said c) (sym e) (wakes b past c said)
  | inr e ↦ subst (λ x. IsKicked b past x said c) (sym e) (resets b past c said)
]

-- nothing is sent
pub none_sent : (b : BoardValue) (past : List Record) (event : Event) (c : ℕ) → IsKick event c
    → number_in (legal b past event) ≡ None
unfolding legal
none_sent b past event c is = grind (arith, nat_tests)

pub kick_landed : (b : BoardValue) (life : ℕ) (past : List Record) (event : Event) (c : ℕ)
    → IsKick event c → IsLegalPast b past → IsComing b past life → AllEntered b past
    → HasLanded b (Some c) (exchange b past event)
unfolding exchange
kick_landed b life past event c kick is coming entered =
    let next : List Record = step b past event in
    let left : IsKicked b past event (legal b past event) c =
    kicks b past event (legal b past event) c kick in
    subst (λ k. HasLanded b (Some c) (serving b next k)) (sym (none_sent b past event c kick))
    (record {
      legal = (refl, is);
      coming = λ l present.
          let same : life ≡ l = same_Some life l (sym coming.present ∙ sym left.life ∙ present) in
          subst (IsComing b next) same (record {
            present = left.life ∙ coming.present;
            awake = ap (λ (u : Values). (in_life b life u).halting) left.firmware ∙ coming.awake;
            none = λ x on. ap (λ (u : Values). (in_life b life u).outstanding (OfCore x))
                left.firmware ∙ coming.none x on;
          });
      others = λ x on ne e. entered x on (sym (left.place x ne) ∙ e);
    })

-- Without a life nothing happens ------------------------------------------------------------------

-- The system is off.
pub record IsOver (b : BoardValue) (past : List Record) : Type 0 where
  pub legal : IsLegalPast b past
  pub over : (controller_values b past).life ≡ None

-- then every core stands
pub stands : (b : BoardValue) (past : List Record) (x : ℕ) → TurnLaws b → IsOver b past
    → place b past x ≡ Stopped
stands b past x laws is = (laws.settle.past past is.legal).given.agreed.stopped is.over x

none_called : (b : BoardValue) (past : List Record) (c : ℕ) (regs : Regs)
    → place b past c ≡ Stopped → number_in (legal b past (Call c regs)) ≡ None
unfolding legal
none_called b past c regs at = grind (arith, nat_tests)

-- an event of which nothing comes
nothing : (b : BoardValue) (past : List Record) (event : Event) → TurnLaws b → IsOver b past
    → number_in (legal b past event) ≡ None
    → (controller_values b (step b past event)).life ≡ None
    → HasLanded b None (exchange b past event)
unfolding exchange
nothing b past event laws is none over =
    let next : List Record = step b past event in
    let off : IsOver b next = record { legal = (refl, is.legal); over = over } in
    subst (λ k. HasLanded b None (serving b next k)) (sym none) (record {
      legal = off.legal;
      coming = λ l present. absurd (none-some l (sym over ∙ present));
      others = λ x on e.
          let no : Stopped ≡ Started = sym (stands b next x laws off) ∙ e in absurd (cc);
    })

kicked : (b : BoardValue) (past : List Record) (event : Event) (c : ℕ) → IsKick event c
    → TurnLaws b → IsOver b past → HasLanded b None (exchange b past event)
kicked b past event c kick laws is =
    nothing b past event laws is (none_sent b past event c kick)
    ((kicks b past event (legal b past event) c kick).life ∙ is.over)

pub over_landed : (b : BoardValue) (past : List Record) (t : Turn) → TurnLaws b → IsOver b past
    → HasLanded b None (exchange b past (event_of t))
over_landed b past (Calls c regs) laws is =
    nothing b past (Call c regs) laws is (none_called b past c regs (stands b past c laws is))
    (ap (λ (u : controlled.Values). u.life) (call_control b past c regs) ∙ is.over)
over_landed b past (Wakes c) laws is = kicked b past (Wake c) c (inl refl) laws is
over_landed b past (Resets c) laws is = kicked b past (Reset c) c (inr refl) laws is

-- A core is at its start exactly where the firmware does not know of its last one -----------------

-- What a core that is to enter waits with.
record IsNew (k : Kept) (c : ℕ) (s : Start) : Type 0 where
  pub last : last_start k.controller c ≡ Some s
  pub unknown : is_known k c s ≡ false

waits : (k : Kept) (c : ℕ) (s : Start) → waiting_in k c ≡ Some s → IsNew k c s
waits k c s e = grind (arith, nat_tests)

some_number : (u : controlled.Values) (c : ℕ) (s : Start) → last_start u c ≡ Some s → 0 < s.number
some_number u c s e = grind (arith, nat_tests)

not_known : (k : Kept) (c : ℕ) (s : Start) → is_known k c s ≡ false → s.life ≡ k.firmware.life
    → k.firmware.known c < s.number
not_known k c s e same = grind (arith, nat_tests, eq-eqb, le-leb)

module _ (b : BoardValue) (past : List Record) (c : ℕ) (laws : SettleLaws b)
    (is : IsLegalPast b past) (on : c < cores b) where
  abbrev v : Values
  v = firmware_values b past

  abbrev w : controlled.Values
  w = controller_values b past

  -- What is so of a core that is to enter.
  pub record IsWaiting (s : Start) : Type 0 where
    pub at : place b past c ≡ Started
    pub last : last_start w c ≡ Some s

  later : (s : Start) → IsNew (kept_after b past) c s → (in_life b s.life v).known c < w.starts c
  later s new =
      let number = (last_is w c s new.last).number in
      elim (cases_eq s.life v.life) [
        | inl same ↦
            let less = not_known (kept_after b past) c s new.unknown same in
            let known = ap (λ (u : Values). u.known c) (found_own b s.life v same) in
            omega (arith, number, less, known)
        | inr ne ↦
            let some = some_number w c s new.last in
            let known = ap (λ (u : Values). u.known c) (found_other b s.life v ne) in
            omega (arith, number, some, known)
      ]

  pub door_open : (s : Start) → waiting_in (kept_after b past) c ≡ Some s → IsWaiting s
  door_open s e =
      let new = waits (kept_after b past) c s e in record {
        at = ((laws.past past is).given.agreed.present s.life (last_is w c s new.last).life).started
            c on (later s new);
        last = new.last;
      }

  is_waiting : (s : Start) → last_start w c ≡ Some s → is_known (kept_after b past) c s ≡ false
      → waiting_in (kept_after b past) c ≡ Some s
  is_waiting s last unknown = grind (arith, nat_tests)

  known_by : (s : Start) → is_known (kept_after b past) c s ≡ true
      → (s.life ≡ v.life) × (s.number ≤ v.known c)
  known_by s e =
      let both = and_parts (s.life == v.life) _ e in
      (eqb-true s.life v.life both.0, leb-true s.number (v.known c) both.1)

  pub door_shut : waiting_in (kept_after b past) c ≡ None → place b past c ≡ Started → ⊥
  door_shut e at =
      let free = (laws.past past is).free.enters c on at in
      let s : Start = free.0 in
      by s free.1 (is_known (kept_after b past) c s) refl
    where
      by : (s : Start) → last_start w c ≡ Some s → (t : Bool) → is_known (kept_after b past) c s ≡ t
          → ⊥
      by s last false f = none-some s (sym e ∙ is_waiting s last f)
      by s last true f =
          let known = known_by s f in
          let is_last = last_is w c s last in
          let less = ((laws.past past is).given.agreed.present s.life is_last.life).waits c on at in
          let same = ap (λ (u : Values). u.known c) (found_own b s.life v known.0) in
          let number = is_last.number in
          let most = known.1 in
          omega (arith, less, same, number, most)
