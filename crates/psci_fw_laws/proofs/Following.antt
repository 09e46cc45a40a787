-- What is kept after the calls of renumbered cores, and histories told of them.
use Rattle.psci_abi.specs.declared.registers.Code.{Code}
use Rattle.psci_abi.specs.declared.request.Request.{Request}
use Rattle.psci_messages.specs.declared.taken.Taken.TheVariants.{Used}
use Rattle.psci_fw_spec.specs.Effects.{after, return_effect, sent_effect, stop_effect}
use Rattle.psci_fw_spec.specs.Changes.{first_status}
use Rattle.psci_fw_laws.specs.Renumbered.{ExchangedBy, HappenedBy}
use Rattle.psci_fw_laws.proofs.Changing.{answer-by, finds-by, FindsBy, power_on_by}
use Rattle.psci_fw_laws.proofs.Changing.{start_of_life-by, with_acknowledgement-by, with_arrival-by}
use Rattle.psci_fw_laws.proofs.Changing.{with_claims-by, with_halt-by, with_pending-by}
use Rattle.psci_fw_laws.proofs.Changing.{with_rest-by, with_running-by}
use Rattle.psci_fw_laws.proofs.Claiming.{none_arrived, NoneCurrent, part_has, quiet_arrival}
use Rattle.psci_fw_laws.proofs.Claiming.{quiet_life, quiet_phase, updated_at, updated_here}
use Rattle.psci_fw_laws.proofs.Started.{granted_arrival, granted_life, granted_phase}
use Rattle.psci_fw_laws.proofs.Numberings.{Renumbers}
use Rattle.psci_fw_laws.proofs.Sending.{outstanding_arrival, outstanding_none, outstanding_phase}
use Rattle.psci_fw_laws.proofs.Sending.{sent_arrival, sent_life, sent_phase}
use Rattle.psci_fw_laws.proofs.StoppingBy.{with_phase-by}
use Rattle.psci_fw_laws.proofs.Words.{[], ◌<◌, ◌==◌, ◌∙◌, ◌∷◌, ◌≡◌, ◌≤◌, acknowledgement_by}
use Rattle.psci_fw_laws.proofs.Words.{Acknowledges, Act, answer, ap, AreRising, AreSent, arith}
use Rattle.psci_fw_laws.proofs.Words.{AsksBy, AsksOn, Away, BoardValue, Bool, CallsBy, change}
use Rattle.psci_fw_laws.proofs.Words.{cond-true, cond_both, Effect, effect_of, Enter, enter_effect}
use Rattle.psci_fw_laws.proofs.Words.{Enters, eq-eqb, eqb-false, eqb-true, false, function_effect}
use Rattle.psci_fw_laws.proofs.Words.{FwCall, FwExchange, FwReply, GoesOn, Halts, Holds}
use Rattle.psci_fw_laws.proofs.Words.{if◌then◌else◌, in_life, inr, int_eq, is_on, IsEntering}
use Rattle.psci_fw_laws.proofs.Words.{IsLegal, List, message_by, MessageValue, mode_effect, mode_of}
use Rattle.psci_fw_laws.proofs.Words.{None, Nothing, OfCore, Option, option_map, Out, Parks, Phase}
use Rattle.psci_fw_laws.proofs.Words.{refl, reply_by, request_of, Rests, Running, SetsMode}
use Rattle.psci_fw_laws.proofs.Words.{slice_get, Smc, Some, SparesBoot, Start, start_of_life, Stops}
use Rattle.psci_fw_laws.proofs.Words.{StopsAtOnce, success, SuspendMode, sym, Take, true}
use Rattle.psci_fw_laws.proofs.Words.{unless_pending, updated, Values, values_by, values_of}
use Rattle.psci_fw_laws.proofs.Words.{with_arrival, with_claims, with_halt, with_mode, with_pending}
use Rattle.psci_fw_laws.proofs.Words.{with_phase, with_rest, with_running, ℕ}
use Rattle.psci_board.proofs.Paths.{path_laws}
use Rattle.psci_board.specs.Board.{IsBoard}
use Rattle.psci_fw_spec.proofs.Stopping.{values_more, values_none}
use Rattle.psci_abi.specs.declared.request.Request.TheVariants as requests
use Rattle.psci_fw_spec.specs.declared.outcome.Act.TheVariants as acts
use Rattle.psci_fw_spec.specs.declared.reply.FwReply.TheVariants as replies
use Rattle.psci_fw_spec.specs.declared.status.Status.TheVariants as statuses

-- A core enters: what it finds, what its arrival leaves, and what it does then --------------------

-- The start of a life -------------------------------------------------------------------------

pub first_not_on : (c : ℕ) → is_on (first_status c) ≡ false
first_not_on c = grind (arith, updated_at)

pub first_holds : (b : BoardValue) (life : ℕ) (halting : Bool) (known : ℕ → ℕ) (phase : ℕ → Phase)
    (sent : List MessageValue) (later : ℕ) → later ≤ b.lives → life < later → AreRising b sent
    → AreSent b life halting known phase sent → Holds b (start_of_life b later) sent
first_holds b life halting known phase sent later most h apart are = record {
  lives = most;
  messages = sent_life sent are h;
  apart = apart;
  quiet = quiet_life (λ c. 0);
  grants = granted_life (λ level place p f.
      let has = part_has b later level place f.message p f.part in
      omega (arith, (are f.index f.message f.at).begun, has.present));
  entered = λ c e. first_not_on c;
  slots = outstanding_none;
}

-- what a core finds
pub found_holds : (b : BoardValue) (v : Values) (sent : List MessageValue) (c : ℕ) (s : Start)
    → IsEntering b v c s → Holds b v sent → Holds b (in_life b s.life v) sent
found_holds b v sent c s enters holds =
    cond_both (s.life == v.life) v (start_of_life b s.life) (λ w. Holds b w sent) (λ e. holds)
    (λ e.
    let other = eqb-false s.life v.life e in
    first_holds b v.life v.halting v.known v.phase sent s.life enters.lives
    (omega (arith, enters.life, other)) holds.apart holds.messages)

pub found_later : (b : BoardValue) (v : Values) (c : ℕ) (s : Start) → IsEntering b v c s
    → (in_life b s.life v).known c < s.number
found_later b v c s enters = grind (arith, cond_both, eqb-true)

pub found_life : (b : BoardValue) (v : Values) (life : ℕ) → (in_life b life v).life ≡ life
found_life b v life = grind (arith, cond_both, eqb-true)

-- The arrival ---------------------------------------------------------------------------------

pub arrives : (b : BoardValue) (v : Values) (sent : List MessageValue) (c : ℕ) (s : Start)
    → IsBoard b → IsEntering b v c s → Holds b v sent → Holds b (with_arrival b c s v) sent
arrives b v sent c s board enters holds =
    let w : Values = in_life b s.life v in
    let found : Holds b w sent = found_holds b v sent c s enters holds in
    let later = found_later b v c s enters in
    record {
      lives = found.lives;
      messages = sent_arrival sent found.messages c s.number (path_laws b board) later;
      apart = found.apart;
      quiet = quiet_arrival w.known found.quiet c s.number found.messages enters.core later;
      grants = granted_arrival found.grants c s.number found.messages enters.core later;
      entered = λ x. updated_at (λ k. k ≡ 0 → is_on (w.status x) ≡ false) w.known c s.number x
          (λ here e. absurd (omega (arith, enters.some, e))) (λ there. found.entered x);
      slots = outstanding_arrival found.slots c s.number;
    }

-- What is so of a core that has just entered.
pub record IsNew (b : BoardValue) (v : Values) (sent : List MessageValue) (c : ℕ) : Type 0 where
  pub known : 0 < v.known c
  pub none : NoneCurrent b v.life v.known sent c
  pub numbers : (k : ℕ) (m : MessageValue) → slice_get sent k ≡ Some m → m.life ≡ v.life
      → m.core.number ≡ c → m.number < v.known c
  pub slot : v.outstanding (OfCore c) ≡ None

pub arrived_new : (b : BoardValue) (v : Values) (sent : List MessageValue) (c : ℕ) (s : Start)
    → IsEntering b v c s → Holds b v sent → IsNew b (with_arrival b c s v) sent c
arrived_new b v sent c s enters holds =
    let w : Values = in_life b s.life v in
    let found : Holds b w sent = found_holds b v sent c s enters holds in
    let later = found_later b v c s enters in
    let now : updated w.known c s.number c ≡ s.number = updated_here w.known c s.number in
    record {
      known = omega (arith, now, enters.some);
      none = none_arrived sent found.messages c s.number enters.core later;
      numbers = λ k m at life core.
          let number = ((found.messages k m at).present life).number in
          omega (arith, number, ap w.known core, now, later);
      slot = cond-true (c == c) None (w.outstanding (OfCore c)) (eq-eqb c c refl);
    }

-- And then ------------------------------------------------------------------------------------

-- a core that has just entered is of another phase
new_phase : (b : BoardValue) (v : Values) (sent : List MessageValue) (c : ℕ) (left : Phase)
    → IsNew b v sent c → Holds b v sent → Holds b (record v { phase = updated v.phase c left }) sent
new_phase b v sent c left new holds = record {
  lives = holds.lives;
  messages = sent_phase sent holds.messages c left
      (λ k m at life core number. absurd (omega (arith, new.numbers k m at life core, number)));
  apart = holds.apart;
  quiet = quiet_phase v.known holds.quiet c left (λ e. new.none);
  grants = granted_phase holds.grants c left (λ e n. new.none);
  entered = holds.entered;
  slots = outstanding_phase holds.slots c left
      (λ m e. let no : None ≡ Some m = sym new.slot ∙ e in absurd (cc));
}

pub runs : (b : BoardValue) (v : Values) (sent : List MessageValue) (c : ℕ) → IsNew b v sent c
    → Holds b v sent → Holds b (with_running c v) sent
runs b v sent c new holds =
    let phased = new_phase b v sent c Running new holds in
    record {
      lives = phased.lives;
      messages = phased.messages;
      apart = phased.apart;
      quiet = phased.quiet;
      grants = phased.grants;
      entered = λ x e. updated_at (λ s. is_on s ≡ false) v.status c statuses.On x
          (λ here. absurd (omega (arith, new.known, ap v.known here, e)))
          (λ there. holds.entered x e);
      slots = phased.slots;
    }

pub stays : (b : BoardValue) (v : Values) (sent : List MessageValue) (c : ℕ) (left : Phase)
    → IsNew b v sent c → Holds b v sent → Holds b (with_phase c left v) sent
stays b v sent c left = new_phase b v sent c (unless_pending (v.phase c) left)

-- Following ---------------------------------------------------------------------------------------

-- Effects ---------------------------------------------------------------------------------------

-- the same effect, of the other number
abbrev effect_by : (ℕ → ℕ → ℕ) → Effect → Effect
effect_by s Nothing = Nothing
effect_by s (GoesOn c) = GoesOn (s 0 c)
effect_by s (SetsMode c mode) = SetsMode (s 0 c) mode
effect_by s (AsksOn c asked) = AsksOn (s 0 c) (power_on_by s asked)
effect_by s (Rests c rest m) = Rests (s 0 c) rest (message_by s m)
effect_by s (Halts c m) = Halts (s 0 c) (message_by s m)
effect_by s (Stops c) = Stops (s 0 c)
effect_by s (Enters c start) = Enters (s 0 c) start
effect_by s (Parks c start m) = Parks (s 0 c) start (message_by s m)
effect_by s (StopsAtOnce c start) = StopsAtOnce (s 0 c) start
effect_by s (Acknowledges a) = Acknowledges (acknowledgement_by s a)

-- a life that an effect begins begins with the same values
abbrev FindsAfter : BoardValue → (ℕ → ℕ → ℕ) → Values → Effect → Type 0
FindsAfter b s v (Enters c start) = FindsBy b s start v
FindsAfter b s v (Parks c start m) = FindsBy b s start v
FindsAfter b s v (StopsAtOnce c start) = FindsBy b s start v
FindsAfter b s v effect = Unit {0}

module _ {b : BoardValue} {s : ℕ → ℕ → ℕ} (is : Renumbers b s) where
  change-by : (v : Values) (e : Effect) → FindsAfter b s v e
      → change b (effect_by s e) (values_by s v) ≡ values_by s (change b e v)
  change-by v Nothing finds = refl
  change-by v (GoesOn c) finds = with_phase-by is c Running v
  change-by v (SetsMode c mode) finds = with_phase-by is c Running (with_mode mode v)
  change-by v (AsksOn c asked) finds =
      ap (with_phase (s 0 c) Running) (with_pending-by is asked v)
      ∙ with_phase-by is c Running (with_pending b asked v)
  change-by v (Rests c rest m) finds =
      ap (with_claims b (message_by s m)) (with_rest-by is c rest v)
      ∙ with_claims-by is m (with_rest c rest v)
  change-by v (Halts c m) finds =
      ap (with_halt (message_by s m)) (with_phase-by is c Away v)
      ∙ with_halt-by is m (with_phase c Away v)
  change-by v (Stops c) finds = with_phase-by is c Away v
  change-by v (Enters c start) finds =
      ap (with_running (s 0 c)) (with_arrival-by is c start v finds)
      ∙ with_running-by is c (with_arrival b c start v)
  change-by v (Parks c start m) finds =
      ap (λ (u : Values). with_claims b (message_by s m) (with_phase (s 0 c) Away u))
      (with_arrival-by is c start v finds)
      ∙ (ap (with_claims b (message_by s m)) (with_phase-by is c Away (with_arrival b c start v))
      ∙ with_claims-by is m (with_phase c Away (with_arrival b c start v)))
  change-by v (StopsAtOnce c start) finds =
      ap (with_phase (s 0 c) Away) (with_arrival-by is c start v finds)
      ∙ with_phase-by is c Away (with_arrival b c start v)
  change-by v (Acknowledges a) finds = with_acknowledgement-by is a v

  -- of a function that stopped its caller
  stop-by : (c : ℕ) (r q : Request) (m : MessageValue) → AsksBy b s r q
      → stop_effect b (s 0 c) q (message_by s m) ≡ effect_by s (stop_effect b c r m)
  stop-by c (requests.CpuOn target entry_point context) q m asks = rw asks.2
  stop-by c (requests.AffinityInfo level target) q m asks = rw asks.2
  stop-by c (requests.NodeHwState level target) q m asks = rw asks.2
  stop-by c r q m asks = rw asks

  -- of one that returned and sent something
  sent-by : (c : ℕ) (r q : Request) (m : MessageValue) → AsksBy b s r q
      → sent_effect (s 0 c) q (message_by s m) ≡ effect_by s (sent_effect c r m)
  sent-by c (requests.CpuOn target entry_point context) q m asks = rw asks.2
  sent-by c (requests.AffinityInfo level target) q m asks = rw asks.2
  sent-by c (requests.NodeHwState level target) q m asks = rw asks.2
  sent-by c r q m asks = rw asks

  mode-by : (c : ℕ) (t : Bool) (mode : Option SuspendMode)
      → (if t then mode_effect (s 0 c) mode else GoesOn (s 0 c))
      ≡ effect_by s (if t then mode_effect c mode else GoesOn c)
  mode-by c true None = refl
  mode-by c true (Some mode) = refl
  mode-by c false mode = refl

  -- of one that returned and sent nothing
  return-by : (c : ℕ) (r q : Request) (code : Code) → AsksBy b s r q
      → return_effect (s 0 c) q code ≡ effect_by s (return_effect c r code)
  return-by c (requests.CpuOn target entry_point context) q code asks = rw asks.2
  return-by c (requests.AffinityInfo level target) q code asks = rw asks.2
  return-by c (requests.NodeHwState level target) q code asks = rw asks.2
  return-by c (requests.SetSuspendMode number) q code asks =
      rw asks (mode-by c (int_eq code.0 success.0) (mode_of number))
  return-by c r q code asks = rw asks

  function_effect-by : (c : ℕ) (r q : Request) (act : Act) (sent : Option MessageValue)
      → AsksBy b s r q
      → function_effect b (s 0 c) q act (option_map (message_by s) sent)
      ≡ effect_by s (function_effect b c r act sent)
  function_effect-by c r q acts.Stop (Some m) asks = stop-by c r q m asks
  function_effect-by c r q (acts.Return code) (Some m) asks = sent-by c r q m asks
  function_effect-by c r q (acts.Return code) None asks = return-by c r q code asks
  function_effect-by c r q act sent asks = refl

  enter_effect-by : (c : ℕ) (start : Start) (act : Act) (sent : Option MessageValue)
      → enter_effect (s 0 c) start act (option_map (message_by s) sent)
      ≡ effect_by s (enter_effect c start act sent)
  enter_effect-by c start acts.Stop (Some m) = refl
  enter_effect-by c start act sent = refl

  effect_of-by : (c : ℕ) (call other : FwCall) (reply : FwReply) → CallsBy b s call other
      → effect_of b (s 0 c) other (reply_by s reply) ≡ effect_by s (effect_of b c call reply)
  effect_of-by c (Smc regs) (Smc r) (Out o) calls =
      function_effect-by c (request_of regs) (request_of r) o.act o.message calls
  effect_of-by c (Smc regs) (Smc r) reply calls = refl
  effect_of-by c (Smc regs) other reply calls = absurd calls
  effect_of-by c (Enter start) other (Out o) calls =
      rw calls (enter_effect-by c start o.act o.message)
  effect_of-by c (Take a) other (replies.Taken Used) calls = rw calls
  effect_of-by c call other reply calls = rw calls

  -- A function begins no life ---------------------------------------------------------------------

  stop-finds : (v : Values) (c : ℕ) (r : Request) (m : MessageValue)
      → FindsAfter b s v (stop_effect b c r m)
  stop-finds v c requests.SystemOff m = tt
  stop-finds v c r m = tt

  sent-finds : (v : Values) (c : ℕ) (r : Request) (m : MessageValue)
      → FindsAfter b s v (sent_effect c r m)
  sent-finds v c requests.SystemOff m = tt
  sent-finds v c r m = tt

  mode-finds : (v : Values) (c : ℕ) (t : Bool) (mode : Option SuspendMode)
      → FindsAfter b s v (if t then mode_effect c mode else GoesOn c)
  mode-finds v c true None = tt
  mode-finds v c t mode = tt

  function-finds : (v : Values) (c : ℕ) (r : Request) (act : Act) (sent : Option MessageValue)
      → FindsAfter b s v (function_effect b c r act sent)
  function-finds v c r acts.Stop (Some m) = stop-finds v c r m
  function-finds v c r (acts.Return code) (Some m) = sent-finds v c r m
  function-finds v c (requests.SetSuspendMode number) (acts.Return code) None =
      mode-finds v c (int_eq code.0 success.0) (mode_of number)
  function-finds v c r act sent = tt

  enter-finds : (v : Values) (c : ℕ) (start : Start) (act : Act) (sent : Option MessageValue)
      → FindsBy b s start v → FindsAfter b s v (enter_effect c start act sent)
  enter-finds v c start acts.Stop (Some m) finds = finds
  enter-finds v c start act sent finds = finds

  finds-after : (v : Values) (c : ℕ) (call : FwCall) (reply : FwReply) → SparesBoot s v.life call
      → FindsAfter b s v (effect_of b c call reply)
  finds-after v c (Smc regs) (Out o) spares = function-finds v c (request_of regs) o.act o.message
  finds-after v c (Enter start) (Out o) spares =
      enter-finds v c start o.act o.message (finds-by is start v spares)
  finds-after v c (Take a) (replies.Taken Used) spares = tt
  finds-after v c call reply spares = tt

  pub after-by : (v : Values) (c : ℕ) (call other : FwCall) (reply : FwReply)
      → CallsBy b s call other → SparesBoot s v.life call
      → after b (s 0 c) other (reply_by s reply) (values_by s v)
      ≡ values_by s (after b c call reply v)
  unfolding after
  after-by v c call other reply calls spares =
      rw (effect_of-by c call other reply calls)
      (change-by v (effect_of b c call reply) (finds-after v c call reply spares))

-- Histories ---------------------------------------------------------------------------------------

-- where the boot core keeps its number every call may begin a life
spares : (s : ℕ → ℕ → ℕ) (life : ℕ) (call : FwCall) → s 0 0 ≡ 0 → SparesBoot s life call
spares s life (Smc regs) boot = tt
spares s life (Enter start) boot = inr boot
spares s life (Take a) boot = tt

module _ {b : BoardValue} {s : ℕ → ℕ → ℕ} (is : Renumbers b s) where
  -- an exchange more, of cores whose values were renumbered
  exchanged : (v w : Values) (e f : FwExchange) → s 0 0 ≡ 0 → ExchangedBy b s e f
      → w ≡ values_by s v
      → after b f.core f.call f.reply w ≡ values_by s (after b e.core e.call e.reply v)
  exchanged v w e f boot told same =
      rw (told.core, told.reply, same)
      (after-by is v e.core e.call f.call e.reply told.call (spares s v.life e.call boot))

  pub values_of-by : (h g : List FwExchange) → s 0 0 ≡ 0 → HappenedBy b s h g
      → values_of b g ≡ values_by s (values_of b h)
  values_of-by [] [] boot told =
      values_none b
      ∙ (sym (start_of_life-by is 0 boot) ∙ ap (values_by s) (sym (values_none b)))
  values_of-by (e ∷ h) (f ∷ g) boot told =
      values_more b f g
      ∙
      (exchanged (values_of b h) (values_of b g) e f boot told.0 (values_of-by h g boot told.1)
      ∙ ap (values_by s) (sym (values_more b e h)))
  values_of-by h g boot told = absurd told

  -- the other reply is right where the first one is
  reply-by : (v w : Values) (e f : FwExchange) → s 0 0 ≡ 0 → ExchangedBy b s e f → w ≡ values_by s v
      → e.reply ≡ answer b v e.core e.call → f.reply ≡ answer b w f.core f.call
  reply-by v w e f boot told same right =
      rw (told.reply, right, told.core, same)
      (sym (answer-by is v e.core e.call f.call told.call (spares s v.life e.call boot)))

  pub legal-by : (h g : List FwExchange) → s 0 0 ≡ 0 → HappenedBy b s h g → IsLegal b h
      → IsLegal b g
  legal-by [] [] boot told legal = tt
  legal-by (e ∷ h) (f ∷ g) boot told legal = (
    reply-by (values_of b h) (values_of b g) e f boot told.0 (values_of-by h g boot told.1)
        legal.0,
    legal-by h g boot told.1 legal.1,
  )
  legal-by h g boot told legal = absurd told
