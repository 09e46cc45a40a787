-- What a core claims that stops is granted, and leaves values such as the firmware keeps.
use Rattle.std.proofs.Common.{◌++◌, option_and_then}
use Rattle.std.proofs.lemmas.Bool.Decides.{Decides-int_eq}
use Rattle.psci_messages.specs.Outstanding.{last_message, outstanding}
use Rattle.psci_messages.specs.Slots.{changed, Slot}
use Rattle.psci_fw_spec.specs.Effects.{after, Left, left, slot_changes}
use Rattle.psci_fw_spec.specs.Changes.{first_confirmed, first_opening, Rest, with_claims, with_rest}
use Rattle.psci_fw_spec.specs.PowerCalls.{off_parts, suspend_parts}
use Rattle.psci_fw_spec.specs.History.{confirmed, granted, halting, life_after, mode, opening}
use Rattle.psci_fw_spec.specs.History.{says_confirmed, says_granted, says_halting, says_known}
use Rattle.psci_fw_spec.specs.History.{says_left, says_mode, says_opening, values_of}
use Rattle.psci_fw_spec.specs.Legal.{are_same_parts, is_legal, is_same_act, is_same_message}
use Rattle.psci_fw_spec.specs.Legal.{is_same_reply}
use Rattle.psci_fw_spec.proofs.Granting.{AreBounded, AreGranted, AreWanted, asked_running, asks_at}
use Rattle.psci_fw_spec.proofs.Granting.{awake_from, both_updated, bounded_cleared, bounded_of}
use Rattle.psci_fw_spec.proofs.Granting.{ChangedAt, granted_cleared, granted_laid, granted_of}
use Rattle.psci_fw_spec.proofs.Granting.{IsAsking, Known, left_asks, left_at, left_else}
use Rattle.psci_fw_spec.proofs.Granting.{nested_laid, none_granted, parked_left, ran_asks, ran_left}
use Rattle.psci_fw_spec.proofs.Granting.{updated_at, updated_each, updated_else}
use Rattle.psci_fw_spec.proofs.Changing.{agree_away, known_arrived, phase_away}
use Rattle.psci_fw_spec.proofs.Wishes.{claim_laid, least_wanted, off_wanted, own_wanted}
use Rattle.psci_fw_spec.proofs.Words.{[], ◌<◌, ◌==◌, ◌↔◌, ◌∙◌, ◌∷◌, ◌≡◌, ◌≤◌, Act, activity_of}
use Rattle.psci_fw_spec.proofs.Words.{agrees, ap, AreValues, arith, arrived, Away, begins}
use Rattle.psci_fw_spec.proofs.Words.{BoardValue, change, changes, claims_of, cleared, cond, cores}
use Rattle.psci_fw_spec.proofs.Words.{Effect, effect, effect_of, false, first_granted, first_status}
use Rattle.psci_fw_spec.proofs.Words.{function_effect, FwCall, FwExchange, FwReply, granted_with}
use Rattle.psci_fw_spec.proofs.Words.{in_life, is_away, is_expected, is_pending, is_some, IsAsk}
use Rattle.psci_fw_spec.proofs.Words.{IsLegal, IsPhase, known, least_wish, leaving_claims}
use Rattle.psci_fw_spec.proofs.Words.{legal_reply, life, List, MessageValue, nat_tests, None}
use Rattle.psci_fw_spec.proofs.Words.{off_wish, Ok, only_if, Opening, Option, option_or}
use Rattle.psci_fw_spec.proofs.Words.{OsInitiated, own_wish, Part, Pending, phase, Phase}
use Rattle.psci_fw_spec.proofs.Words.{phase_left, Platform, PowerView, refl, Request, Running}
use Rattle.psci_fw_spec.proofs.Words.{says_pending, says_status, Some, Start, start_of_life, status}
use Rattle.psci_fw_spec.proofs.Words.{subst, suspend_claims, Suspended, SuspendMode, sym, true}
use Rattle.psci_fw_spec.proofs.Words.{unless_pending, unwrap_or, updated, Values, view}
use Rattle.psci_fw_spec.proofs.Words.{with_arrival, with_phase, ℕ}
use Rattle.psci_messages.proofs.History.{outstanding-step}
use Rattle.psci_fw_spec.specs.declared.status.Status.TheVariants as statuses

-- One more ----------------------------------------------------------------------------------------
-- A history with one more exchange says the values that its effect leaves, field by field; a core
-- is pending exactly where its status is ON_PENDING; and replies are the same, and a history is
-- legal, where the test says so.

-- What is left --------------------------------------------------------------------------------

-- a phase that an outcome can leave
abbrev pub IsLeft : Phase → Type 0
IsLeft Pending = ⊥
IsLeft p = Unit {0}

-- what an effect left, if it left something
abbrev IsLeftBy : Option Left → Type 0
IsLeftBy None = Unit {0}
IsLeftBy (Some l) = IsLeft l.phase

function_left : (b : BoardValue) (c : ℕ) (r : Request) (act : Act) (m : Option MessageValue)
    → IsLeftBy (left (function_effect b c r act m))
function_left b c r act m = grind arith

effect_left : (b : BoardValue) (c : ℕ) (call : FwCall) (reply : FwReply)
    → IsLeftBy (left (effect_of b c call reply))
effect_left b c call reply = grind (arith, function_left)

-- what is left of one core, by an effect or before it
one_left : (before k : ℕ) (f : Effect) (last : Phase) → IsLeftBy (left f) → IsLeft last
    → IsLeft (unwrap_or (option_and_then (λ l. only_if (k == l.core) (Some l.phase)) (left f))
    (cond (begins before (arrived f)) Away last))
one_left before k f last by is = grind arith

pub is_left : (b : BoardValue) (h : List FwExchange) (k : ℕ) → IsLeft (phase_left b h k)
is_left b [] k = tt
is_left b (e ∷ h) k =
    one_left (life b h) k (effect b e) _ (effect_left b e.core e.call e.reply) (is_left b h k)

-- Pending cores -------------------------------------------------------------------------------

-- One more exchange ---------------------------------------------------------------------------

-- of each effect
module _ (b : BoardValue) (h : List FwExchange) (f : Effect) where
  -- what it says, or what holds at the start of a life that it begins, or what was before
  abbrev now : {A : Type 0} → Option A → A → A → A
  now said first before = unwrap_or said (cond (begins (life b h) (arrived f)) first before)

  abbrev left_by : Values
  left_by = change b f (values_of b h)

  life_more : life_after (arrived f) (life b h) ≡ left_by.life
  unfolding values_of
  life_more = grind (arith, nat_tests)

  halting_more : now (says_halting h f) false (halting b h) ≡ left_by.halting
  unfolding values_of
  halting_more = grind (arith, nat_tests)

  mode_more : now (says_mode h f) Platform (mode b h) ≡ left_by.mode
  unfolding values_of
  mode_more = grind (arith, nat_tests)

  known_more : (k : ℕ) → now (says_known k h f) 0 (known b h k) ≡ left_by.known k
  unfolding values_of
  known_more k = grind (arith, nat_tests)

  status_more : (k : ℕ)
      → now (says_status b k h f) (first_status k) (status b h k) ≡ left_by.status k
  unfolding values_of
  status_more k = grind (arith, nat_tests)

  -- no outcome leaves a core pending
  phase_more : (k : ℕ)
      → cond (now (says_pending k h f) (k == 0) (is_pending b h k)) Pending
      (now (says_left k h f) Away (phase_left b h k))
      ≡ left_by.phase k
  unfolding values_of
  phase_more k = grind (arith, nat_tests, is_left b h k)

  opening_more : (k : ℕ)
      → now (says_opening k h f) (first_opening b k) (opening b h k) ≡ left_by.opening k
  unfolding values_of
  opening_more k = grind (arith, nat_tests)

  granted_more : (level place : ℕ)
      → now (says_granted b level place h f) (first_granted b level place)
      (granted b h level place)
      ≡ left_by.granted level place
  unfolding values_of
  granted_more level place = grind (arith, nat_tests)

  confirmed_more : (level place : ℕ)
      → now (says_confirmed b level place h f) (first_confirmed b level place)
      (confirmed b h level place)
      ≡ left_by.confirmed level place
  unfolding values_of
  confirmed_more level place = grind (arith, nat_tests)

  outstanding_more : (slot : Slot)
      → outstanding slot (slot_changes (begins (life b h) (arrived f)) f ++ changes b h)
      ≡ left_by.outstanding slot
  unfolding values_of
  outstanding_more slot = grind (arith, nat_tests, outstanding-step)

-- before any core has entered
pub values_none : (b : BoardValue) → values_of b [] ≡ start_of_life b 0
unfolding values_of outstanding last_message
values_none b = refl

pub values_more : (b : BoardValue) (e : FwExchange) (h : List FwExchange)
    → values_of b (e ∷ h) ≡ after b e.core e.call e.reply (values_of b h)
unfolding values_of after
values_more b e h = λ i. record {
  life = life_more b h (effect b e) i;
  halting = halting_more b h (effect b e) i;
  mode = mode_more b h (effect b e) i;
  known = λ k. known_more b h (effect b e) k i;
  status = λ k. status_more b h (effect b e) k i;
  phase = λ k. phase_more b h (effect b e) k i;
  opening = λ k. opening_more b h (effect b e) k i;
  granted = λ level place. granted_more b h (effect b e) level place i;
  confirmed = λ level place. confirmed_more b h (effect b e) level place i;
  outstanding = λ slot. outstanding_more b h (effect b e) slot i;
}

-- Legal histories -----------------------------------------------------------------------------

parts_same : (ps qs : List Part) → (are_same_parts ps qs ≡ true) ↔ (ps ≡ qs)
parts_same [] [] = grind arith
parts_same (p ∷ ps) (q ∷ qs) = grind (arith, nat_tests, parts_same ps qs)
parts_same ps qs = grind arith

message_same : (m n : MessageValue) → (is_same_message m n ≡ true) ↔ (m ≡ n)
message_same m n = grind (arith, nat_tests, parts_same)

act_same : (a c : Act) → (is_same_act a c ≡ true) ↔ (a ≡ c)
act_same a c = grind (arith, nat_tests, Decides-int_eq)

reply_same : (r s : FwReply) → (is_same_reply r s ≡ true) ↔ (r ≡ s)
reply_same r s = grind (arith, nat_tests, message_same, act_same)

pub legal_same : (b : BoardValue) (h : List FwExchange) → (is_legal b h ≡ true) ↔ IsLegal b h
legal_same b [] = grind arith
legal_same b (e ∷ h) =
    grind (arith, reply_same e.reply (legal_reply b h e.core e.call), legal_same b h)

-- Stopping ----------------------------------------------------------------------------------------

-- Granted depths ------------------------------------------------------------------------------

-- bounds and equations together
pub record AreHeld (b : BoardValue) (mode : SuspendMode) (phase : ℕ → Phase)
    (granted : ℕ → ℕ → ℕ) : Type 0 where
  pub bounds : AreBounded b phase granted
  pub equal : AreGranted b mode phase granted

pub held_of : (b : BoardValue) (v : Values) → Known b → AreValues b v → v.halting ≡ false
    → AreHeld b v.mode v.phase v.granted
held_of b v known are e = record {
  bounds = bounded_of b v are;
  equal = granted_of b v known (are.awake e);
}

-- a core that asked nothing of itself claims what its stop wants
held_laid : (b : BoardValue) (mode : SuspendMode) (old new : ℕ → Phase) (w : PowerView)
    (granted : ℕ → ℕ → ℕ) (c : ℕ) (want : ℕ → ℕ) → Known b → c < cores b → ChangedAt old new c
    → asks_at b (old c) 0 ≡ 0 → AreHeld b mode old granted → AreWanted b mode new granted c want
    → AreHeld b mode new (granted_with b c (claims_of b w c want) granted)
held_laid b mode old new w granted c want known on changed none held wants =
    let parts : List Part = claims_of b w c want in
    let is = claim_laid b w granted c want known wants.falls
    (λ level h. none_granted b old granted c level known.paths held.bounds on none h) in
    let g : AreGranted b mode new (granted_with b c parts granted) =
    granted_laid b mode old new granted c parts want known.paths changed is wants held.equal in
    record {
      bounds = record {
        nested = nested_laid b mode old new granted c parts want known.paths is wants held.bounds;
        asked = λ x h. omega (arith, g.own x h);
      };
      equal = g;
    }

-- what is claimed by the least asks, in platform-coordinated mode
least_held : (b : BoardValue) (old : ℕ → Phase) (w : Values) (granted : ℕ → ℕ → ℕ) (c : ℕ)
    → Known b → c < cores b → ChangedAt old w.phase c → ((y : ℕ) → IsAsking (w.phase y))
    → asks_at b (old c) 0 ≡ 0 → AreHeld b Platform old granted
    → AreHeld b Platform w.phase
    (granted_with b c (claims_of b (view b w) c (least_wish b (view b w) c)) granted)
least_held b old w granted c known on changed asking none held =
    held_laid b Platform old w.phase (view b w) granted c (least_wish b (view b w) c) known on
    changed none held
    (least_wanted b Platform old w granted c known on refl changed asking held.equal)

-- a core goes off
leaving_held : (b : BoardValue) (mode : SuspendMode) (old : ℕ → Phase) (w : Values)
    (granted : ℕ → ℕ → ℕ) (c : ℕ) → Known b → c < cores b → ChangedAt old w.phase c
    → ((y : ℕ) → IsAsking (w.phase y)) → w.phase c ≡ Away → asks_at b (old c) 0 ≡ 0
    → AreHeld b mode old granted
    → AreHeld b mode w.phase (granted_with b c (leaving_claims b (view b w) c mode) granted)
leaving_held b Platform old w granted c known on changed asking away none held =
    least_held b old w granted c known on changed asking none held
leaving_held b OsInitiated old w granted c known on changed asking away none held =
    held_laid b OsInitiated old w.phase (view b w) granted c (off_wish b (view b w) c) known on
    changed none held
    (off_wanted b OsInitiated old w granted c known on refl changed away held.equal)

pub off_held : (b : BoardValue) (v : Values) (old : ℕ → Phase) (c : ℕ) → Known b → c < cores b
    → unless_pending (v.phase c) Away ≡ Away → ChangedAt old v.phase c
    → ((y : ℕ) → IsPhase b (v.phase y)) → asks_at b (old c) 0 ≡ 0
    → AreHeld b v.mode old v.granted
    → AreHeld b v.mode (with_phase c Away v).phase (granted_with b c (off_parts b v c) v.granted)
unfolding off_parts
off_held b v old c known on left changed are none held =
    leaving_held b v.mode old (with_phase c Away v) v.granted c known on
    (λ x other. left_else v c Away x other ∙ changed x other) (left_asks b v c Away left tt are)
    (left_at v c Away left) none held

-- a core is suspended
suspended_held : (b : BoardValue) (v : Values) (c : ℕ) (ask : List ℕ) (parts : List Part)
    (mode : SuspendMode) → Known b → c < cores b → v.phase c ≡ Running → IsAsk ask
    → ((y : ℕ) → IsPhase b (v.phase y)) → AreHeld b mode v.phase v.granted
    → suspend_claims b v c ask mode ≡ Ok parts
    → AreHeld b mode (with_phase c (Suspended ask) v).phase (granted_with b c parts v.granted)
suspended_held b v c ask parts Platform known on runs is are held e =
    let w : Values = with_phase c (Suspended ask) v in
    let same : claims_of b (view b w) c (least_wish b (view b w) c) ≡ parts = cc e in
    subst (λ ps. AreHeld b Platform w.phase (granted_with b c ps v.granted)) same
    (least_held b v.phase w v.granted c known on (left_else v c (Suspended ask))
    (left_asks b v c (Suspended ask) (ran_left (v.phase c) (Suspended ask) runs) is are)
    (ran_asks b (v.phase c) runs) held)
suspended_held b v c ask parts OsInitiated known on runs is are held e =
    let w : Values = with_phase c (Suspended ask) v in
    subst (λ ps. AreHeld b OsInitiated w.phase (granted_with b c ps v.granted))
    (sym ((known.last_core (view b v) c ask on).parts parts e))
    (held_laid b OsInitiated v.phase w.phase (view b v) v.granted c (own_wish ask) known on
    (left_else v c (Suspended ask)) (ran_asks b (v.phase c) runs) held
    (own_wanted b OsInitiated v w.phase c ask parts known on refl
    (left_at v c (Suspended ask) (ran_left (v.phase c) (Suspended ask) runs)) is e))

pub suspend_held : (b : BoardValue) (v : Values) (c : ℕ) (ask : List ℕ) (parts : List Part)
    → Known b → c < cores b → v.phase c ≡ Running → IsAsk ask
    → ((y : ℕ) → IsPhase b (v.phase y)) → AreHeld b v.mode v.phase v.granted
    → suspend_parts b v c ask ≡ Ok parts
    → AreHeld b v.mode (with_phase c (Suspended ask) v).phase (granted_with b c parts v.granted)
unfolding suspend_parts
suspend_held b v c ask parts known on runs is are held e =
    suspended_held b v c ask parts v.mode known on runs is are held e

-- Values --------------------------------------------------------------------------------------

-- what a function leaves of a caller that it stops, whose opening was none
rest_agrees : (v : Values) (c : ℕ) (rest : Rest) → v.phase c ≡ Running
    → agrees (v.status c) (v.phase c) ≡ true → agrees statuses.On rest.phase ≡ true
    → agrees (v.status c) (unless_pending (v.phase c) rest.phase) ≡ true
rest_agrees v c rest runs e agree = grind arith

rest_opens : (o : Option Opening) (p : Phase) (rest : Rest) → p ≡ Running
    → is_some o ≡ is_expected p → is_some rest.opening ≡ is_expected rest.phase
    → is_some (option_or rest.opening o) ≡ is_expected (unless_pending p rest.phase)
rest_opens o p rest runs e opens = grind arith

-- a function stopped its caller, which is suspended or goes off
pub kept_resting : (b : BoardValue) (v : Values) (c : ℕ) (rest : Rest) (m : MessageValue)
    → Known b → v.phase c ≡ Running → v.halting ≡ false → AreValues b v
    → agrees statuses.On rest.phase ≡ true → IsPhase b rest.phase
    → is_some rest.opening ≡ is_expected rest.phase
    → AreHeld b v.mode (with_phase c rest.phase v).phase
    (granted_with b m.core.number m.parts v.granted)
    → AreValues b (with_claims b m (with_rest c rest v))
kept_resting b v c rest m known runs awake are agree is opens held = record {
  known = are.known;
  agree = updated_each (λ k p. agrees (v.status k) p ≡ true) v.phase c _
      (rest_agrees v c rest runs (are.agree c) agree) are.agree;
  phase = updated_each (λ k. IsPhase b) v.phase c _
      (subst (IsPhase b) (sym (ran_left (v.phase c) rest.phase runs)) is) are.phase;
  nested = held.bounds.nested;
  asked = held.bounds.asked;
  awake = λ e.
      let opening = (are.awake e).opening in
      awake_from b (with_claims b m (with_rest c rest v)) known
      (both_updated (λ o p. is_some o ≡ is_expected p) v.opening v.phase c _ _
      (rest_opens (v.opening c) (v.phase c) rest runs (opening c) opens) opening)
      held.equal;
}

-- a core entered, found nothing to do, and parks
pub kept_parking : (b : BoardValue) (v : Values) (c : ℕ) (s : Start) (m : MessageValue) → Known b
    → s.number ≤ b.starts → (in_life b s.life v).halting ≡ false
    → (in_life b s.life v).opening c ≡ None → AreValues b (in_life b s.life v)
    → AreHeld b (in_life b s.life v).mode (with_phase c Away (with_arrival b c s v)).phase
    (granted_with b m.core.number m.parts (cleared b c (in_life b s.life v).granted))
    → AreValues b (with_claims b m (with_phase c Away (with_arrival b c s v)))
kept_parking b v c s m known within awake none are held =
    let f : Values = in_life b s.life v in
    let opening = (are.awake awake).opening in
    record {
      known = known_arrived b f c s within are;
      agree = agree_away (with_arrival b c s v) c are.agree;
      phase = phase_away b (with_arrival b c s v) c are.phase;
      nested = held.bounds.nested;
      asked = held.bounds.asked;
      awake = λ e. awake_from b (with_claims b m (with_phase c Away (with_arrival b c s v))) known
          (both_updated (λ o p. is_some o ≡ is_expected p) f.opening f.phase c None _
          (sym (ap is_expected (parked_left (f.phase c) (f.opening c) (opening c) none))) opening)
          held.equal;
    }

-- what is held after an arrival, as if the core ran
pub arrived_held : (b : BoardValue) (v : Values) (c : ℕ) (s : Start) → Known b → c < cores b
    → (in_life b s.life v).halting ≡ false → AreValues b (in_life b s.life v)
    → AreHeld b (in_life b s.life v).mode (updated (in_life b s.life v).phase c Running)
    (cleared b c (in_life b s.life v).granted)
arrived_held b v c s known on awake are =
    let f : Values = in_life b s.life v in
    let new : ℕ → Phase = updated f.phase c Running in
    let here : new c ≡ Running = updated_at f.phase c Running in
    let changed : ChangedAt f.phase new c = updated_else f.phase c Running in
    record {
      bounds = bounded_cleared b f.phase new f.granted c known.paths changed (bounded_of b f are);
      equal = granted_cleared b f.mode f.phase new f.granted c known.paths on changed
          (λ level. ap (λ (p : Phase). asks_at b p level) here ∙ asked_running b level)
          (ap (λ (p : Phase). is_away (activity_of p)) here)
          (granted_of b f known (are.awake awake));
    }
