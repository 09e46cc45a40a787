-- What one effect does to the firmware's life, and to the known start, phase and status of a core.
use Rattle.psci_ctl_spec.specs.Replies.{effect_of, Nothing}
use Rattle.psci_fw_laws.specs.psci_fw_spec.Phases.{is_away, Running}
use Rattle.psci_headline.specs.psci_fw_spec.Changes.{unless_claimed}
use Rattle.psci_headline.specs.psci_fw_spec.Values.{claimed_or}
use Rattle.psci_headline.specs.psci_world_spec.Legal.{acks, controller_history, firmware_history}
use Rattle.psci_headline.specs.psci_world_spec.Legal.{legal, sent}
use Rattle.psci_headline.proofs.Agreed.{first_kept, RunLaws}
use Rattle.psci_headline.proofs.Beside.{sum_beside}
use Rattle.psci_headline.proofs.Carried.{acked_waits, effect_waits, Given, is_given, started_waits}
use Rattle.psci_headline.proofs.Carried.{WaitsNow}
use Rattle.psci_headline.proofs.Controls.{begun_waits}
use Rattle.psci_headline.proofs.Covering.{IsNew, new_ack, values_by}
use Rattle.psci_headline.proofs.Happening.{happens}
use Rattle.psci_headline.proofs.Sending.{after_call, after_control, at_number, more_controls}
use Rattle.psci_headline.proofs.Sending.{same_sent}
use Rattle.psci_headline.proofs.Moves.{Moves, moves}
use Rattle.psci_headline.proofs.Pursuing.{same_kind}
use Rattle.psci_headline.proofs.Words.{[], ◌++◌, ◌<◌, ◌==◌, ◌∙◌, ◌∷◌, ◌≡◌, ◌≤◌, ◌⊎◌, ack_in}
use Rattle.psci_headline.proofs.Words.{Acknowledges, AckValue, and_parts, ap, arith, Arrival}
use Rattle.psci_headline.proofs.Words.{arrived, AsksOn, Away, BoardValue, Bool, change, cond}
use Rattle.psci_headline.proofs.Words.{cond_both, confirms_on, controller_values, Down, Effect}
use Rattle.psci_headline.proofs.Words.{Enters, eqb-false, Event, false, firmware_values, GoesOn}
use Rattle.psci_headline.proofs.Words.{Halts, in_life, is_path_place, IsAllowed, IsEntering}
use Rattle.psci_headline.proofs.Words.{IsLegalPast, known_below, KnownLaws, List, listed, ltb-true}
use Rattle.psci_headline.proofs.Words.{MayFollow, message_effect, nat_tests, None, Nothing, Option}
use Rattle.psci_headline.proofs.Words.{Parks, Part, Pending, Phase, place, Record, refl, Reset}
use Rattle.psci_headline.proofs.Words.{Rests, Said, sent_in, SetsMode, Some, start_of_life, Stops}
use Rattle.psci_headline.proofs.Words.{StopsAtOnce, subst, sym, true, up, updated, updated_at}
use Rattle.psci_headline.proofs.Words.{Values, Wake, ℕ}
use Rattle.psci_headline.proofs.world_spec.Answered.{firmware_legal}
use Rattle.psci_board.specs.Board.{IsBoard}
use Rattle.psci_headline.proofs.Runs.{firmware_laws, run_laws}
use Rattle.psci_ctl_spec.specs.History as controls
use Rattle.psci_ctl_spec.specs.Values as controlled
use Rattle.psci_ctl_spec.specs.psci_messages.declared.start.Cause.TheVariants as causes
use Rattle.psci_ctl_spec.specs.psci_messages.declared.start.Start as starts
use Rattle.psci_fw_laws.specs.psci_fw_spec.declared.status.Status.TheVariants as statuses
use Rattle.psci_headline.specs.psci_fw_spec.History as remembers
use Rattle.psci_headline.specs.psci_fw_spec.Effects as says
use Rattle.psci_headline.specs.psci_world_spec.declared.said.Said.TheVariants as said

-- Confirming --------------------------------------------------------------------------------------
-- What an effect leaves of a domain's confirmed claim: it was confirmed before, or a life has
-- begun, or an acknowledgement confirms it.

-- Nothing is changed of a domain.
pub record Stays (b : BoardValue) (v w : Values) (level place : ℕ) : Type 0 where
  pub life : w.life ≡ v.life
  pub known : known_below b w.known level place ≡ known_below b v.known level place
  pub granted : w.granted level place ≡ v.granted level place

-- It was confirmed.
pub record WasConfirmed (b : BoardValue) (v w : Values) (level place : ℕ) : Type 0 where
  pub stays : Stays b v w level place
  pub before : v.confirmed level place ≡ true

-- Its life has begun by an entry, and no core below it has entered.
pub record HasBegun (b : BoardValue) (v w : Values) (e : Effect) (level place : ℕ)
    : Type 0 where
  pub other : w.life ≡ v.life → ⊥
  pub arrival : Arrival
  pub is : arrived e ≡ Some arrival
  pub new : arrival.start.life ≡ w.life
  pub known : known_below b w.known level place ≡ 0
  pub granted : w.granted level place ≡ 3
  pub off : up b level 0 ≡ place → ⊥

-- An acknowledgement confirms it.
pub record IsConfirmed (b : BoardValue) (v w : Values) (e : Effect) (level place : ℕ)
    : Type 0 where
  pub stays : Stays b v w level place
  pub ack : AckValue
  pub is : e ≡ Acknowledges ack
  pub by : confirms_on b v ack level place ≡ true

abbrev pub How : BoardValue → Values → Values → Effect → ℕ → ℕ → Type 0
How b v w e level place =
    WasConfirmed b v w level place
    ⊎ (HasBegun b v w e level place ⊎ IsConfirmed b v w e level place)

-- Claims and calls ----------------------------------------------------------------------------

-- a claim that is confirmed was not made just now
unclaimed : (t : Bool) (p : Option Part) (before : Bool) (depth : ℕ)
    → cond t (unless_claimed p before) before ≡ true
    → (before ≡ true) × (cond t (claimed_or p depth) depth ≡ depth)
unclaimed t p before depth e = grind (arith, nat_tests)

-- Entries -------------------------------------------------------------------------------------

pub no_sum : (b : BoardValue) (level place : ℕ) → KnownLaws b
    → known_below b (λ c. 0) level place ≡ 0
no_sum b level place laws =
    let few = laws.most (λ c. 0) level place 0 (λ c. omega arith) in
    omega (arith, few)

-- a core entered; what it found, and where the domain is
entered : (b : BoardValue) (v w : Values) (c : ℕ) (s : starts.Start) (e : Effect)
    (level place : ℕ) (t u : Bool) → KnownLaws b → (s.life == v.life) ≡ t
    → is_path_place b c level place ≡ u → arrived e ≡ Some (record { core = c; start = s })
    → let found = cond t v (start_of_life b s.life) in w.life ≡ found.life
    → w.known ≡ updated found.known c s.number
    → w.granted level place ≡ cond u 0 (found.granted level place)
    → cond u false (found.confirmed level place) ≡ true → How b v w e level place
entered b v w c s e level place t u laws same off is life known granted confirmed =
    grind (arith, nat_tests, sum_beside, eqb-false, no_sum, and_parts)

-- All effects ---------------------------------------------------------------------------------

module _ (b : BoardValue) (v : Values) (laws : KnownLaws b) (level place : ℕ) where
  pub confirmed_how : (e : Effect) → (change b e v).confirmed level place ≡ true
      → How b v (change b e v) e level place
  confirmed_how f e = grind (arith, nat_tests, unclaimed, entered)

-- Core steps --------------------------------------------------------------------------------------

-- An effect says that a core is off: an acknowledgement of its Down was taken.
pub record TurnsOff (v : Values) (c : ℕ) (e : Effect) : Type 0 where
  pub ack : AckValue
  pub is : e ≡ Acknowledges ack
  pub core : ack.core.number ≡ c
  pub kind : ack.kind ≡ Down
  pub some : 0 < ack.applied
  pub away : v.phase c ≡ Away

-- A core entered by a start of this life.
pub record Begins (life : ℕ) (e : Effect) : Type 0 where
  pub arrival : Arrival
  pub is : arrived e ≡ Some arrival
  pub new : arrival.start.life ≡ life

-- What an effect makes of these values, for one core.
pub record IsStep (v w : Values) (c : ℕ) (e : Effect) : Type 0 where
  -- no life follows a later one, and no known start of the life a later one
  pub life : v.life ≤ w.life
  pub known : w.life ≡ v.life → v.known c ≤ w.known c
  -- without a new known start a core runs only if it ran, and is away only if it ran or was away
  pub runs : w.life ≡ v.life → w.known c ≡ v.known c → w.phase c ≡ Running → v.phase c ≡ Running
  pub away : w.life ≡ v.life → w.known c ≡ v.known c → w.phase c ≡ Away
      → (v.phase c ≡ Away) ⊎ (v.phase c ≡ Running)
  -- it is OFF only if it was, or is told to be
  pub off : w.life ≡ v.life → w.status c ≡ statuses.Off
      → (v.status c ≡ statuses.Off) ⊎ TurnsOff v c e
  -- another life begins by an entry, and the boot core is not OFF then
  pub begins : (w.life ≡ v.life → ⊥) → Begins w.life e
  pub boot : (w.life ≡ v.life → ⊥) → w.status c ≡ statuses.Off → c ≡ 0 → ⊥

-- Calls ---------------------------------------------------------------------------------------

-- the life and the known start stay
within : (v w : Values) (c : ℕ) (e : Effect) → w.life ≡ v.life → w.known c ≡ v.known c
    → (w.phase c ≡ Running → v.phase c ≡ Running)
    → (w.phase c ≡ Away → (v.phase c ≡ Away) ⊎ (v.phase c ≡ Running))
    → (w.status c ≡ statuses.Off → (v.status c ≡ statuses.Off) ⊎ TurnsOff v c e)
    → IsStep v w c e
within v w c e life known runs away off = grind (arith, nat_tests)

-- a running core called, and is now of this phase
called : (v w : Values) (c d : ℕ) (e : Effect) (p : Phase) → v.phase d ≡ Running
    → w.life ≡ v.life → w.known c ≡ v.known c → w.phase c ≡ updated v.phase d p c
    → w.status c ≡ v.status c → IsStep v w c e
called v w c d e p ran life known phase status = grind (arith, nat_tests, within)

-- a running core asked another one on
asked : (v w : Values) (c d t : ℕ) (e : Effect) (p : Phase) → v.phase d ≡ Running
    → w.life ≡ v.life → w.known c ≡ v.known c
    → w.phase c ≡ updated (updated v.phase t Pending) d p c
    → w.status c ≡ updated v.status t statuses.Pending c → IsStep v w c e
asked v w c d t e p ran life known phase status = grind (arith, nat_tests, within)

-- Entries -------------------------------------------------------------------------------------

-- What an arrival leaves, for one core, beside what the core found that entered.
record IsArrived (found w : Values) (c d number : ℕ) : Type 0 where
  pub life : w.life ≡ found.life
  pub known : w.known c ≡ updated found.known d number c
  pub phase : (c ≡ d → ⊥) → w.phase c ≡ found.phase c
  pub status : w.status c ≡ statuses.Off → found.status c ≡ statuses.Off

enters : (b : BoardValue) (v w : Values) (c d : ℕ) (s : starts.Start) (e : Effect)
    → IsEntering b v d s → Begins s.life e → IsArrived (in_life b s.life v) w c d s.number
    → IsStep v w c e
enters b v w c d s e entering begins is = grind (arith, nat_tests)

-- Acknowledgements ----------------------------------------------------------------------------

pub phase_away : (p : Phase) → is_away p ≡ true → p ≡ Away
phase_away p e = grind (arith, nat_tests)

taken : (b : BoardValue) (v : Values) (c : ℕ) (a : AckValue)
    → IsStep v (change b (Acknowledges a) v) c (Acknowledges a)
taken b v c a =
    grind (
      arith,
      nat_tests,
      within,
      updated_at,
      cond_both,
      and_parts,
      same_kind,
      ltb-true,
      phase_away,
    )

-- All -----------------------------------------------------------------------------------------

pub step : (b : BoardValue) (v : Values) (c : ℕ) (e : Effect) → IsAllowed b v e
    → IsStep v (change b e v) c e
step b v c Nothing allowed = grind (arith, nat_tests, within)
step b v c (GoesOn d) allowed = grind (arith, nat_tests, called)
step b v c (SetsMode d mode) allowed = grind (arith, nat_tests, called)
step b v c (AsksOn d on) allowed = grind (arith, nat_tests, asked)
step b v c (Rests d rest m) allowed = grind (arith, nat_tests, called)
step b v c (Halts d m) allowed = grind (arith, nat_tests, called)
step b v c (Stops d) allowed = grind (arith, nat_tests, called)
step b v c (Enters d s) allowed =
    enters b v (change b (Enters d s) v) c d s (Enters d s) allowed.enters
    (record { arrival = record { core = d; start = s }; is = refl; new = refl })
    (grind (arith, nat_tests, updated_at))
step b v c (Parks d s m) allowed =
    enters b v (change b (Parks d s m) v) c d s (Parks d s m) allowed.enters
    (record { arrival = record { core = d; start = s }; is = refl; new = refl })
    (grind (arith, nat_tests, updated_at))
step b v c (StopsAtOnce d s) allowed = grind (arith, nat_tests, enters, updated_at)
step b v c (Acknowledges a) allowed = taken b v c a

-- What waits after every legal run ----------------------------------------------------------------

-- what waits after these records
abbrev pub Now : BoardValue → List Record → Type 0
Now b past = WaitsNow b (controller_values b past) (firmware_values b past) (sent past) (acks past)

-- and after one more, whose event says this
abbrev Next : BoardValue → List Record → Event → Said → Type 0
Next b past event s =
    WaitsNow b (controls.values_of b (after_control b past event s))
    (remembers.values_of b (after_call b past event s)) (listed (sent_in s) ++ sent past)
    (listed (ack_in s) ++ acks past)

-- One record more ------------------------------------------------------------------------------

module _ (b : BoardValue) (board : IsBoard b) (r : Record) (past : List Record)
    (is : IsLegalPast b (r ∷ past)) (now : Now b past) where
  abbrev w : controlled.Values
  w = controller_values b past

  abbrev v : Values
  v = firmware_values b past

  given : Given b past
  given = is_given b past board is.1

  moved : Moves b r past
  moved = moves b r past (firmware_laws b board) is.0
      (firmware_legal b (r ∷ past) is)

  sent_now : sent (r ∷ past) ≡ listed (says.sent moved.effect) ++ sent past
  sent_now = same_sent b (r ∷ past) is ∙ moved.sends
      ∙ ap (λ s. listed (says.sent moved.effect) ++ s) (sym (same_sent b past is.1))

  -- the firmware is in its values after the record, the power controller in those before
  firmware_next : WaitsNow b w (firmware_values b (r ∷ past)) (sent (r ∷ past)) (acks past)
  firmware_next = grind (arith, nat_tests, moved, sent_now, effect_waits, given)

  -- what the power controller replied to a message follows
  may_follow : (a : AckValue) (new : IsNew b r past a) → let m = new.made.message in
      MayFollow b w (message_effect b m a m.kind)
  unfolding effect_of
  may_follow a new =
      let laws : RunLaws b = run_laws b board in grind (arith, nat_tests, more_controls)

  -- a core was started by a wake-up or a reset, or nothing was asked
  kicked : (event : Event) (s : Said) → s ≡ legal b past event → ack_in s ≡ None
      → WaitsNow b (controls.values_of b (after_control b past event s)) v (sent past) (acks past)
  unfolding effect_of
  kicked (Wake c) (said.Kick start) e none =
      subst (λ u. WaitsNow b u v (sent past) (acks past))
      (sym (values_by b _ (controller_history b past)))
      (started_waits b w (place b past) v (sent past) (acks past) c causes.Wake given
      (happens b past (Wake c) (said.Kick start) e refl) now)
  kicked (Reset c) (said.Kick start) e none =
      subst (λ u. WaitsNow b u v (sent past) (acks past))
      (sym (values_by b _ (controller_history b past)))
      (started_waits b w (place b past) v (sent past) (acks past) c causes.Reset given
      (happens b past (Reset c) (said.Kick start) e refl) now)
  kicked event (said.Acked index ack) e none = absurd (cc)
  kicked event s e none = now

  -- the power controller is in its values after the record, the firmware in those before
  by_ack : (o : Option AckValue) → ack_in r.said ≡ o
      → WaitsNow b (controls.values_of b (after_control b past r.event r.said)) v (sent past)
      (listed o ++ acks past)
  by_ack None e = kicked r.event r.said is.0 e
  by_ack (Some a) e =
      let new = new_ack b r past a is.0 e in
      let d = new.made in
      let at = at_number (sent past) d.number d.message d.at in
      grind (arith, nat_tests, more_controls, acked_waits, given, may_follow)

  -- an event asks one of both, and leaves the other as it was
  by_event : (event : Event) (s : Said)
      → WaitsNow b w (remembers.values_of b (after_call b past event s))
      (listed (sent_in s) ++ sent past) (acks past)
      → WaitsNow b (controls.values_of b (after_control b past event s)) v (sent past)
      (listed (ack_in s) ++ acks past)
      → Next b past event s
  by_event event s calls asks = grind (arith, nat_tests)

  next : Now b (r ∷ past)
  unfolding controller_history firmware_history sent acks
  next = by_event r.event r.said firmware_next (by_ack (ack_in r.said) refl)

-- All ------------------------------------------------------------------------------------------

first_waiting : (b : BoardValue) → Now b []
unfolding controller_history sent acks controls.values_of
first_waiting b = grind (arith, nat_tests, first_kept, begun_waits)

pub waited : (b : BoardValue) (past : List Record) → IsBoard b → IsLegalPast b past → Now b past
waited b [] board is = first_waiting b
waited b (r ∷ past) board is = next b board r past is (waited b past board is.1)
