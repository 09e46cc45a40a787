-- What an answer depends on, and that it depends on nothing else.
use Rattle.psci_fw_spec.proofs.Words.{◌∙◌, ◌≡◌, all_others, ap, arith, Away, BoardValue, Core}
use Rattle.psci_fw_spec.proofs.Words.{core_of, function_outcome, is_off_status, known}
use Rattle.psci_fw_spec.proofs.Words.{leaving_claims, life, List, may_set, message_for}
use Rattle.psci_fw_spec.proofs.Words.{nat_tests, OsInitiated, phase, Platform, refl, Some, Start}
use Rattle.psci_fw_spec.proofs.Words.{status, stops_with, suspend_claims, SuspendMode, Values}
use Rattle.psci_fw_spec.proofs.Words.{with_phase, ℕ}
use Rattle.psci_messages.specs.Claim.{claims_of}
use Rattle.psci_messages.specs.View.{generation, is_all_away, least_ask}
use Rattle.psci_fw_spec.specs.PowerCalls.{off_parts, suspend_parts, target_of}
use Rattle.psci_fw_spec.specs.Answer.{enter_outcome}
use Rattle.psci_fw_spec.specs.Invariant.{view}
use Rattle.psci_abi.specs.declared.request.Request.TheVariants as requests
use Rattle.psci_messages.specs.declared.kind.Kind.TheVariants as kinds

-- One function --------------------------------------------------------------------------------

pub reset_same : (b : BoardValue) (v w : Values) (c d reset_type cookie other : ℕ)
    → (function_outcome b v c (requests.SystemReset2 reset_type cookie)).act
    ≡ (function_outcome b w d (requests.SystemReset2 reset_type other)).act
reset_same b v w c d reset_type cookie other = grind arith

pub on_same : (b : BoardValue) (v w : Values) (c d word entry context other : ℕ)
    → ((t : Core) → core_of b word ≡ Some t → v.status t.number ≡ w.status t.number)
    → ((t : Core) → core_of b word ≡ Some t → v.known t.number ≡ w.known t.number)
    → (function_outcome b v c (requests.CpuOn word entry context)).act
    ≡ (function_outcome b w d (requests.CpuOn word entry other)).act
unfolding target_of
on_same b v w c d word entry context other status known = grind arith

pub affinity_same : (b : BoardValue) (v w : Values) (c d word level : ℕ) → v.status ≡ w.status
    → function_outcome b v c (requests.AffinityInfo level word)
    ≡ function_outcome b w d (requests.AffinityInfo level word)
affinity_same b v w c d word level status = grind arith

pub node_hw_same : (b : BoardValue) (v w : Values) (c d word level : ℕ)
    → v.granted ≡ w.granted → v.confirmed ≡ w.confirmed
    → function_outcome b v c (requests.NodeHwState level word)
    ≡ function_outcome b w d (requests.NodeHwState level word)
node_hw_same b v w c d word level granted confirmed = grind arith

may_same : (b : BoardValue) (v w : Values) (c : ℕ) (m : SuspendMode) → v.phase ≡ w.phase
    → may_set b v c m ≡ may_set b w c m
may_same b v w c Platform phase = rw phase refl
may_same b v w c OsInitiated phase = rw phase refl

pub mode_same : (b : BoardValue) (v w : Values) (c number : ℕ) → v.mode ≡ w.mode
    → v.phase ≡ w.phase → function_outcome b v c (requests.SetSuspendMode number)
    ≡ function_outcome b w c (requests.SetSuspendMode number)
mode_same b v w c number mode phase = grind (arith, may_same b v w c)

-- Claims --------------------------------------------------------------------------------------

same_leaving : (b : BoardValue) (v w : Values) (c : ℕ) (m : SuspendMode)
    → v.known ≡ w.known → v.phase ≡ w.phase
    → leaving_claims b (view b (with_phase c Away v)) c m
    ≡ leaving_claims b (view b (with_phase c Away w)) c m
unfolding view claims_of generation least_ask is_all_away
same_leaving b v w c Platform known phase = λ i.
    leaving_claims b
    (view b (with_phase c Away (record v { known = known i; phase = phase i }))) c Platform
same_leaving b v w c OsInitiated known phase = λ i.
    leaving_claims b
    (view b (with_phase c Away (record v { known = known i; phase = phase i }))) c OsInitiated

same_off_parts : (b : BoardValue) (v w : Values) (c : ℕ) → v.mode ≡ w.mode → v.known ≡ w.known
    → v.phase ≡ w.phase → off_parts b v c ≡ off_parts b w c
unfolding off_parts
same_off_parts b v w c mode known phase =
    same_leaving b v w c v.mode known phase
    ∙ ap (leaving_claims b (view b (with_phase c Away w)) c) mode

pub off_same : (b : BoardValue) (v w : Values) (c : ℕ) → v.life ≡ w.life → v.mode ≡ w.mode
    → v.known ≡ w.known → v.phase ≡ w.phase
    → function_outcome b v c requests.CpuOff ≡ function_outcome b w c requests.CpuOff
off_same b v w c life mode known phase =
    let parts = same_off_parts b v w c mode known phase in
    λ i. stops_with
    (message_for (record v { life = life i; known = known i }) kinds.Down c (parts i))

same_claims : (b : BoardValue) (v w : Values) (c : ℕ) (ask : List ℕ) (m : SuspendMode)
    → v.known ≡ w.known → v.phase ≡ w.phase → v.granted ≡ w.granted
    → suspend_claims b v c ask m ≡ suspend_claims b w c ask m
unfolding view
same_claims b v w c ask Platform known phase granted = λ i.
    suspend_claims b (record v { known = known i; phase = phase i; granted = granted i }) c ask
    Platform
same_claims b v w c ask OsInitiated known phase granted = λ i.
    suspend_claims b (record v { known = known i; phase = phase i; granted = granted i }) c ask
    OsInitiated

same_suspend_parts : (b : BoardValue) (v w : Values) (c : ℕ) (ask : List ℕ) → v.mode ≡ w.mode
    → v.known ≡ w.known → v.phase ≡ w.phase → v.granted ≡ w.granted
    → suspend_parts b v c ask ≡ suspend_parts b w c ask
unfolding suspend_parts
same_suspend_parts b v w c ask mode known phase granted =
    same_claims b v w c ask v.mode known phase granted ∙ ap (suspend_claims b w c ask) mode

pub suspend_same : (b : BoardValue) (v w : Values) (c state entry context other : ℕ)
    → v.life ≡ w.life → v.mode ≡ w.mode → v.known ≡ w.known → v.phase ≡ w.phase
    → v.granted ≡ w.granted
    → function_outcome b v c (requests.CpuSuspend state entry context)
    ≡ function_outcome b w c (requests.CpuSuspend state entry other)
suspend_same b v w c state entry context other life mode known phase granted =
    grind (arith, same_suspend_parts b v w c)

pub system_same : (b : BoardValue) (v w : Values) (c entry context other : ℕ) → v.life ≡ w.life
    → v.mode ≡ w.mode → v.known ≡ w.known → v.status ≡ w.status → v.phase ≡ w.phase
    → v.granted ≡ w.granted → function_outcome b v c (requests.SystemSuspend entry context)
    ≡ function_outcome b w c (requests.SystemSuspend entry other)
system_same b v w c entry context other life mode known status phase granted = grind (
  arith,
  ap (λ s. all_others b c (λ k. is_off_status (s k))) status,
  same_suspend_parts b v w c,
)

-- Entries -------------------------------------------------------------------------------------

pub enter_same : (b : BoardValue) (v w : Values) (c : ℕ) (s : Start) → v.life ≡ w.life
    → v.halting ≡ w.halting → v.opening c ≡ w.opening c → v.phase c ≡ w.phase c
    → v.known c ≡ w.known c → (enter_outcome b v c s).act ≡ (enter_outcome b w c s).act
unfolding enter_outcome
enter_same b v w c s life halting opening phase known = grind (arith, nat_tests)
