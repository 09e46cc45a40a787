-- A call goes on from a past: what it leaves, and what it then has to write.
use Rattle.std.specs.Ordering.{int_eq}
use Rattle.std.specs.Prelude.{◌==◌, if◌then◌else◌, not}
use Rattle.std.proofs.Common.{◌+◌, ◌<◌, ◌∙◌, ◌∷◌, ◌≡◌, ◌≢◌, ◌≤◌, [], ap, arith, Bool, false}
use Rattle.std.proofs.Common.{length, List, None, Option, refl, Some, sym, true, ℕ}
use Rattle.std.proofs.lemmas.Bool.{cond_both, eqb-false, eqb-true, ne_eqb}
use Rattle.std.proofs.lemmas.Bool.Decides.{nat_tests}
use Rattle.psci_abi.specs.Calls.{request_of, success}
use Rattle.psci_abi.specs.declared.registers.Code.{Code}
use Rattle.psci_abi.specs.declared.registers.Regs.{Regs}
use Rattle.psci_abi.specs.declared.request.Request.{Request}
use Rattle.psci_abi.specs.declared.request.Request.TheVariants as requests
use Rattle.psci_board.specs.Board.{BoardValue, cores}
use Rattle.psci_messages.specs.Message.{AckValue, MessageValue}
use Rattle.psci_messages.specs.declared.start.Start.{Start}
use Rattle.psci_messages.specs.declared.taken.Taken.{Taken}
use Rattle.psci_messages.specs.declared.taken.Taken.TheVariants as takens
use Rattle.psci_fw_spec.specs.PowerCalls.{mode_of, status_code}
use Rattle.psci_fw_spec.specs.Effects.{Acknowledges, after, Arrival, arrived, AsksOn, Effect}
use Rattle.psci_fw_spec.specs.Effects.{effect, effect_of, enter_effect, Enters, function_effect}
use Rattle.psci_fw_spec.specs.Effects.{FwExchange, mode_effect, return_effect, sent_effect}
use Rattle.psci_fw_spec.specs.Effects.{stop_effect}
use Rattle.psci_fw_spec.specs.Answer.{answer}
use Rattle.psci_fw_spec.specs.History.{begins, life, life_after, says_status, status, values_of}
use Rattle.psci_fw_spec.specs.Statuses.{added, statuses}
use Rattle.psci_fw_spec.specs.Values.{Values}
use Rattle.psci_fw_spec.specs.declared.call.FwCall.{FwCall}
use Rattle.psci_fw_spec.specs.declared.call.FwCall.TheVariants.{Enter, Smc, Take}
use Rattle.psci_fw_spec.specs.declared.mode.SuspendMode.{SuspendMode}
use Rattle.psci_fw_spec.specs.declared.outcome.Act.{Act}
use Rattle.psci_fw_spec.specs.declared.outcome.Act.TheVariants as acts
use Rattle.psci_fw_spec.specs.declared.outcome.Outcome.{Outcome}
use Rattle.psci_fw_spec.specs.declared.reply.FwReply.{FwReply}
use Rattle.psci_fw_spec.specs.declared.reply.FwReply.TheVariants as replies
use Rattle.psci_fw_spec.specs.declared.status.Status.{Status}
use Rattle.psci_status.specs.Lists.{asked_by, is_named, IsPast, names, one_more, row}
use Rattle.psci_status.specs.Lists.{sent_beside, status_of, used_by, written_then}
use Rattle.psci_status.proofs.Steps.{status_of_code}

-- Last --------------------------------------------------------------------------------------------
-- The last of a core's statuses is its status; and where a call leaves the life, every status stays
-- but of the core that it names.

pub same_status : (s t : Status) → (status_code s == status_code t) ≡ true → t ≡ s
same_status s t e =
    sym (status_of_code t) ∙ ap status_of (sym (eqb-true (status_code s) (status_code t) e))
    ∙ status_of_code s

pub same_code : (n : ℕ) → (n == n) ≡ true
same_code n = grind (arith, nat_tests)

-- what was added is the last
pub begun_by : (s : Status) (ss : List Status) → (rest : List Status) × (added s ss ≡ s ∷ rest)
begun_by s [] = ([], refl)
begun_by s (t ∷ ts) =
    cond_both (status_code s == status_code t) (t ∷ ts) (s ∷ t ∷ ts)
    (λ (ss : List Status). (rest : List Status) × (ss ≡ s ∷ rest))
    (λ e. (ts, ap (λ (r : Status). r ∷ ts) (same_status s t e))) (λ e. (t ∷ ts, refl))

-- the last status again adds nothing
pub added_again : (s : Status) (ss : List Status) → added s (s ∷ ss) ≡ s ∷ ss
added_again s ss = rw (same_code (status_code s)) refl

-- once a core has entered, the last of a core's statuses is its status
pub last_is : (b : BoardValue) (h : List FwExchange) (core : ℕ) → life b h ≢ 0
    → (rest : List Status) × (statuses b h core ≡ status b h core ∷ rest)
unfolding statuses
last_is b [] core some = absurd (some refl)
last_is b (e ∷ h) core some =
    rw (ne_eqb (life b (e ∷ h)) 0 some) (begun_by (status b (e ∷ h) core) _)

-- so the status that it has adds nothing
pub added_last : (b : BoardValue) (h : List FwExchange) (core : ℕ) → life b h ≢ 0
    → added (status b h core) (statuses b h core) ≡ statuses b h core
added_last b h core some =
    let last = last_is b h core some in rw last.1 (added_again (status b h core) last.0)

-- One exchange more ---------------------------------------------------------------------------

begins_is : (l : ℕ) (a : Option Arrival) → begins l a ≡ not (life_after a l == l)
begins_is l None = rw (same_code l) refl
begins_is l (Some a) = refl

-- the statuses of a core with one exchange more
abbrev pub more : BoardValue → List FwExchange → ℕ → ℕ → List Status → List Status
more b h before core ss =
    if life b h == 0 then ss else one_more (not (life b h == before)) core (status b h core) ss

pub statuses_more : (b : BoardValue) (e : FwExchange) (h : List FwExchange) (core : ℕ)
    → more b (e ∷ h) (life b h) core (statuses b h core) ≡ statuses b (e ∷ h) core
unfolding statuses
statuses_more b e h core =
    ap (λ (x : Bool). if life b (e ∷ h) == 0 then statuses b h core
    else one_more x core (status b (e ∷ h) core) (statuses b h core))
    (sym (begins_is (life b h) (arrived (effect b e))))

pub length_added : (s : Status) (ss : List Status) → length (added s ss) ≤ length ss + 1
length_added s [] = omega arith
length_added s (t ∷ ts) =
    cond_both (status_code s == status_code t) (t ∷ ts) (s ∷ t ∷ ts)
    (λ (ss : List Status). length ss ≤ length (t ∷ ts) + 1) (λ e. omega arith) (λ e. omega arith)

-- Who is not named ----------------------------------------------------------------------------

-- an effect that does not name a core says nothing of its status
says_nothing : (b : BoardValue) (core : ℕ) (h : List FwExchange) (e : Effect)
    → names e core ≡ false → says_status b core h e ≡ None
says_nothing b core h (AsksOn c asked) other = rw other refl
says_nothing b core h (Enters c s) other = rw other refl
says_nothing b core h (Acknowledges a) other = rw other refl
says_nothing b core h e other = refl

no_life_begins : (b : BoardValue) (e : FwExchange) (h : List FwExchange)
    → life b (e ∷ h) ≡ life b h → begins (life b h) (arrived (effect b e)) ≡ false
no_life_begins b e h same = rw (begins_is (life b h) (arrived (effect b e)), same, same_code) refl

pub status_stays : (b : BoardValue) (e : FwExchange) (h : List FwExchange) (core : ℕ)
    → life b (e ∷ h) ≡ life b h → names (effect b e) core ≡ false
    → status b (e ∷ h) core ≡ status b h core
status_stays b e h core same other =
    rw (says_nothing b core h (effect b e) other, no_life_begins b e h same) refl

-- Past --------------------------------------------------------------------------------------------

-- Whom a call names ---------------------------------------------------------------------------

names_mode : (c core : ℕ) (mode : Option SuspendMode) → names (mode_effect c mode) core ≡ false
names_mode c core None = refl
names_mode c core (Some mode) = refl

-- a function that returns, and sends nothing
pub names_return : (c core : ℕ) (r : Request) (code : Code)
    → names (return_effect c r code) core ≡ false
names_return c core (requests.SetSuspendMode mode) code =
    cond_both (int_eq code.0 success.0) _ _ (λ (e : Effect). names e core ≡ false)
    (λ set. names_mode c core (mode_of mode)) (λ other. refl)
names_return c core r code = refl

-- a function that stops its caller
pub names_stop : (b : BoardValue) (c core : ℕ) (r : Request) (m : MessageValue)
    → names (stop_effect b c r m) core ≡ false
names_stop b c core requests.Version m = refl
names_stop b c core r m = refl

-- a function that returns and sends something names whom it sent it for, if it names a core
names_sent : (c core : ℕ) (r : Request) (m : MessageValue) → (core == m.core.number) ≡ false
    → names (sent_effect c r m) core ≡ false
names_sent c core (requests.CpuOn word entry_point context) m other = other
names_sent c core r m other = refl

names_function : (b : BoardValue) (c core : ℕ) (r : Request) (act : Act)
    (m : Option MessageValue) → is_named (sent_beside act m) core ≡ false
    → names (function_effect b c r act m) core ≡ false
names_function b c core r acts.Stop (Some m) other = names_stop b c core r m
names_function b c core r (acts.Return code) (Some m) other = names_sent c core r m other
names_function b c core r (acts.Return code) None other = names_return c core r code
names_function b c core r act m other = refl

pub names_smc : (b : BoardValue) (c core : ℕ) (regs : Regs) (o : Outcome)
    → is_named (asked_by o) core ≡ false
    → names (effect_of b c (Smc regs) (replies.Out o)) core ≡ false
names_smc b c core regs o other = names_function b c core (request_of regs) o.act o.message other

names_arrival : (c core : ℕ) (s : Start) (act : Act) (m : Option MessageValue)
    → (core == c) ≡ false → names (enter_effect c s act m) core ≡ false
names_arrival c core s acts.Stop (Some m) other = refl
names_arrival c core s acts.Stop None other = refl
names_arrival c core s act m other = other

pub names_enter : (b : BoardValue) (c core : ℕ) (s : Start) (o : Outcome)
    → (core == c) ≡ false → names (effect_of b c (Enter s) (replies.Out o)) core ≡ false
names_enter b c core s o other = names_arrival c core s o.act o.message other

pub names_take : (b : BoardValue) (c core : ℕ) (a : AckValue) (taken : Taken)
    → (core == a.core.number) ≡ false
    → names (effect_of b c (Take a) (replies.Taken taken)) core ≡ false
names_take b c core a takens.Used other = other
names_take b c core a takens.Old other = refl

-- the same by the core of an acknowledgement that was used
pub names_taken : (b : BoardValue) (c core : ℕ) (a : AckValue) (taken : Taken)
    → is_named (used_by taken a.core) core ≡ false
    → names (effect_of b c (Take a) (replies.Taken taken)) core ≡ false
names_taken b c core a takens.Used other = other
names_taken b c core a takens.Old other = refl

-- What is kept --------------------------------------------------------------------------------

-- what the firmware's laws say of one exchange more
abbrev pub More : Type 0
More = (b : BoardValue) (e : FwExchange) (h : List FwExchange)
    → values_of b (e ∷ h) ≡ after b e.core e.call e.reply (values_of b h)

-- the values after a call are those of the history with it
valued : (b : BoardValue) (v v' : Values) (c : ℕ) (call : FwCall) (reply : FwReply)
    (h : List FwExchange) → More → v ≡ values_of b h → v' ≡ after b c call reply v
    → v' ≡ values_of b (record { core = c; call = call; reply = reply } ∷ h)
valued b v v' c call reply h adds was is =
    let next = adds b (record { core = c; call = call; reply = reply }) h in rw (is, was, next) refl

-- where the life stays, the status of a core that is not named adds nothing
pub added_nothing : (b : BoardValue) (v v' : Values) (written : List (List Status)) (count c : ℕ)
    (call : FwCall) (reply : FwReply) → More → IsPast b v written → count ≡ cores b
    → v' ≡ after b c call reply v
    → (core : ℕ) → core < count → names (effect_of b c call reply) core ≡ false
    → v'.life ≡ v.life → v'.life ≢ 0
    → added (v'.status core) (row written core) ≡ row written core
unfolding values_of
added_nothing b v v' written count c call reply adds past wide is core small other same some =
    let h = past.history in
    let e : FwExchange = record { core = c; call = call; reply = reply } in
    let next : v' ≡ values_of b (e ∷ h) = valued b v v' c call reply h adds past.values is in
    let life_is : life b (e ∷ h) ≡ life b h = rw (next, past.values) at same in
    let begun : life b (e ∷ h) ≢ 0 = rw next at some in
    let stays : v'.status core ≡ status b h core =
    rw next (status_stays b e h core life_is other) in
    rw (stays, past.written core (rw wide at small)) (added_last b h core (rw life_is at begun))

-- the history with the call is a past of what it left
pub past_more : (b : BoardValue) (v v' : Values) (written written' : List (List Status))
    (count c : ℕ) (call : FwCall) (reply : FwReply) → More → IsPast b v written → count ≡ cores b
    → reply ≡ answer b v c call → v' ≡ after b c call reply v
    → ((core : ℕ) → core < count
    → row written' core ≡ written_then v.life v' core (row written core))
    → IsPast b v' written'
unfolding values_of
past_more b v v' written written' count c call reply adds past wide answered is wrote =
    let h = past.history in
    let e : FwExchange = record { core = c; call = call; reply = reply } in
    let next : v' ≡ values_of b (e ∷ h) = valued b v v' c call reply h adds past.values is in
    record {
      history = e ∷ h;
      legal = (answered ∙ ap (λ (u : Values). answer b u c call) past.values, past.legal);
      values = next;
      written = λ core small.
          rw (past.values, next, past.written core small) at (wrote core (rw wide small))
          ∙ statuses_more b e h core;
    }

-- a call that changes no value has nothing to write
pub nothing_more : (b : BoardValue) (v : Values) (written : List (List Status)) → IsPast b v written
    → (core : ℕ) → core < cores b
    → row written core ≡ written_then v.life v core (row written core)
unfolding values_of
nothing_more b v written past core small =
    let h = past.history in
    rw (past.values, past.written core small, same_code (life b h))
    (cond_both (life b h == 0) (statuses b h core) (added (status b h core) (statuses b h core))
    (λ (ss : List Status). statuses b h core ≡ ss) (λ none. refl)
    (λ some. sym (added_last b h core (eqb-false (life b h) 0 some))))
