-- What happens to outstanding messages and to the values of renumbered cores.
use Rattle.std.specs.Option.{option_or}
use Rattle.psci_abi.specs.declared.request.Request.{Request}
use Rattle.psci_abi.specs.declared.request.Request.TheVariants as requests
use Rattle.psci_messages.specs.Slots.{Change, ClearAll}
use Rattle.psci_messages.specs.declared.kind.Kind.TheVariants as kinds
use Rattle.psci_fw_spec.specs.Answer.{answer, enter_outcome, outcome_of, without_opening}
use Rattle.psci_fw_spec.specs.Changes.{applied_part, confirms, unconfirmed}
use Rattle.psci_fw_spec.specs.declared.reply.FwReply.TheVariants as replies
use Rattle.psci_fw_spec.specs.declared.status.Status.TheVariants as statuses
use Rattle.psci_fw_laws.specs.Renumbered.{slot_by}
use Rattle.psci_fw_laws.proofs.Numberings.{node_back, other_test, Renumbers, sum-below}
use Rattle.psci_fw_laws.proofs.StoppingBy.{affinity-by, chosen, cpu_off-by, cpu_on-by}
use Rattle.psci_fw_laws.proofs.StoppingBy.{has_node-by, hw_state-by, mode_asked-by}
use Rattle.psci_fw_laws.proofs.StoppingBy.{suspend_asked-by, system_message-by, system_reset2-by}
use Rattle.psci_fw_laws.proofs.StoppingBy.{system_suspend-by, updated-by, with_phase-by}
use Rattle.psci_fw_laws.proofs.Words.{◌&&◌, ◌∙◌, ◌≡◌, ◌⊎◌, Acknowledge, acknowledgement_by}
use Rattle.psci_fw_laws.proofs.Words.{AckValue, answers, ap, arith, ask_named, AsksBy, below}
use Rattle.psci_fw_laws.proofs.Words.{BoardValue, Bool, call_fault, CallsBy, changed, Clear}
use Rattle.psci_fw_laws.proofs.Words.{cleared, confirms_on, Core, core_by, Enter, enter_fault}
use Rattle.psci_fw_laws.proofs.Words.{eq-eqb, false, function_outcome, FwCall, FwFault, has_node}
use Rattle.psci_fw_laws.proofs.Words.{if◌then◌else◌, in_life, is_made_at, is_path_place, Kind}
use Rattle.psci_fw_laws.proofs.Words.{left_by, message_by, MessageValue, mode_of, nat_lt}
use Rattle.psci_fw_laws.proofs.Words.{nat_tests, Node, node_by, node_of, None, not, Option}
use Rattle.psci_fw_laws.proofs.Words.{option_map, Outcome, outcome_at, outcome_by, Part, PowerOn}
use Rattle.psci_fw_laws.proofs.Words.{Put, refl, reply_by, reply_or, request_of, Rest, Slot}
use Rattle.psci_fw_laws.proofs.Words.{slot_of, Smc, SparesBoot, Start, start_of_life, stops}
use Rattle.psci_fw_laws.proofs.Words.{sum_by, sym, Take, taken, true, turns_off, updated, Values}
use Rattle.psci_fw_laws.proofs.Words.{values_by, with_acknowledgement, with_arrival, with_claims}
use Rattle.psci_fw_laws.proofs.Words.{with_halt, with_pending, with_rest, with_running}
use Rattle.psci_fw_laws.proofs.Words.{with_slots, ℕ}

-- Outstanding messages ----------------------------------------------------------------------------

-- the same change, of the other number
abbrev pub change_by : (ℕ → ℕ → ℕ) → Change → Change
change_by s (Put m) = Put (message_by s m)
change_by s (Clear core) = Clear (core_by s core)
change_by s ClearAll = ClearAll
change_by s (Acknowledge a) = Acknowledge (acknowledgement_by s a)

slot_of-by : (s : ℕ → ℕ → ℕ) (kind : Kind) (core : Core)
    → slot_of kind (core_by s core) ≡ slot_by s (slot_of kind core)
slot_of-by s kind core = grind (arith, nat_tests)

module _ {b : BoardValue} {s : ℕ → ℕ → ℕ} (is : Renumbers b s) where
  slot_back : (t : Slot) → slot_by s (slot_by s t) ≡ t
  slot_back t = grind (arith, nat_tests)

  pub answers-by : (a : AckValue) (m : MessageValue)
      → answers (acknowledgement_by s a) (message_by s m) ≡ answers a m
  answers-by a m = grind (arith, nat_tests)

  if-map : (t : Bool) (o p : Option MessageValue)
      → (if t then option_map (message_by s) o else option_map (message_by s) p)
      ≡ option_map (message_by s) (if t then o else p)
  if-map t o p = grind (arith, nat_tests)

  left_by-by : (a : AckValue) (o : Option MessageValue)
      → left_by (acknowledgement_by s a) (option_map (message_by s) o)
      ≡ option_map (message_by s) (left_by a o)
  left_by-by a o = grind (arith, nat_tests, answers-by, if-map)

  pub taken-by : (a : AckValue) (o : Option MessageValue)
      → taken (acknowledgement_by s a) (option_map (message_by s) o) ≡ taken a o
  taken-by a o = grind (arith, nat_tests, answers-by)

  -- what is in the slot of an acknowledgement
  pub at_slot-by : (v : Values) (a : AckValue)
      → (values_by s v).outstanding (slot_of a.kind (core_by s a.core))
      ≡ option_map (message_by s) (v.outstanding (slot_of a.kind a.core))
  at_slot-by v a = rw (slot_of-by s a.kind a.core, slot_back (slot_of a.kind a.core))

  -- what a change leaves in a slot
  changed-by : (slot : Slot) (change : Change) (o : Option MessageValue)
      → changed slot (change_by s change) (option_map (message_by s) o)
      ≡ option_map (message_by s) (changed (slot_by s slot) change o)
  changed-by slot change o = grind (arith, nat_tests, if-map, left_by-by, other_test)

  pub with_slots-by : (change : Change) (v : Values)
      → with_slots (change_by s change) (values_by s v) ≡ values_by s (with_slots change v)
  with_slots-by change v = grind (arith, changed-by)

-- the same start of another core, of the other number
abbrev pub power_on_by : (ℕ → ℕ → ℕ) → PowerOn → PowerOn
power_on_by s asked = record asked { message = message_by s asked.message }

-- the life begins with the same values, of the other numbers
abbrev pub FindsBy : BoardValue → (ℕ → ℕ → ℕ) → Start → Values → Type 0
FindsBy b s start v = in_life b start.life (values_by s v) ≡ values_by s (in_life b start.life v)

-- what an arrival leaves of what the core finds
abbrev arrives : BoardValue → ℕ → Start → Values → Values
arrives b c start found = with_slots (Clear (record { number = c })) (record found {
  known = updated found.known c start.number;
  opening = updated found.opening c None;
  granted = cleared b c found.granted;
  confirmed = unconfirmed b c found.confirmed;
})

-- Paths -----------------------------------------------------------------------------------------

module _ {b : BoardValue} {s : ℕ → ℕ → ℕ} (is : Renumbers b s) where
  -- a place is on the path of the other core where its other place is on the path of the core
  path-by : (c level place : ℕ)
      → is_path_place b (s 0 c) level place ≡ is_path_place b c level (s level place)
  path-by c level place = grind (arith, nat_tests)

  -- a choice on the path of a core
  on_path-by : {A : Type 0} (c level place : ℕ) (x y : A)
      → (if is_path_place b (s 0 c) level place then x else y)
      ≡ (if is_path_place b c level (s level place) then x else y)
  on_path-by c level place x y = rw (path-by c level place)

  -- Functions -------------------------------------------------------------------------------------

  pub with_rest-by : (c : ℕ) (rest : Rest) (v : Values)
      → with_rest (s 0 c) rest (values_by s v) ≡ values_by s (with_rest c rest v)
  with_rest-by c rest v =
      let opened : updated (λ k. v.opening (s 0 k)) (s 0 c)
      (option_or rest.opening (v.opening (s 0 (s 0 c))))
      ≡ (λ k. updated v.opening c (option_or rest.opening (v.opening c)) (s 0 k)) =
      ap (λ (k : ℕ). updated (λ j. v.opening (s 0 j)) (s 0 c)
      (option_or rest.opening (v.opening k))) (is.back 0 c)
      ∙ updated-by is v.opening c (option_or rest.opening (v.opening c)) in
      λ i. record (with_phase-by is c rest.phase v i) { opening = opened i }

  pub with_claims-by : (m : MessageValue) (v : Values)
      → with_claims b (message_by s m) (values_by s v) ≡ values_by s (with_claims b m v)
  with_claims-by m v = grind (arith, nat_tests, with_slots-by, on_path-by)

  pub with_halt-by : (m : MessageValue) (v : Values)
      → with_halt (message_by s m) (values_by s v) ≡ values_by s (with_halt m v)
  with_halt-by m v = with_slots-by is (Put m) (record v { halting = true })

  pub with_pending-by : (asked : PowerOn) (v : Values)
      → with_pending b (power_on_by s asked) (values_by s v) ≡ values_by s (with_pending b asked v)
  with_pending-by asked v = grind (arith, nat_tests, updated-by, with_slots-by, on_path-by)

  -- Entries ---------------------------------------------------------------------------------------

  arrives-by : (c : ℕ) (start : Start) (v : Values)
      → arrives b (s 0 c) start (values_by s v) ≡ values_by s (arrives b c start v)
  arrives-by c start v =
      let arrived : Values = record v {
        known = updated v.known c start.number;
        opening = updated v.opening c None;
        granted = cleared b c v.granted;
        confirmed = unconfirmed b c v.confirmed;
      } in
      ap (with_slots (Clear (record { number = s 0 c }))) (λ i. record (values_by s v) {
        known = updated-by is v.known c start.number i;
        opening = updated-by is v.opening c None i;
        granted = λ level place. on_path-by c level place 0 (v.granted level (s level place)) i;
        confirmed = λ level place. on_path-by c level place false
            (v.confirmed level (s level place)) i;
      })
      ∙ with_slots-by is (Clear (record { number = c })) arrived

  pub with_arrival-by : (c : ℕ) (start : Start) (v : Values) → FindsBy b s start v
      → with_arrival b (s 0 c) start (values_by s v) ≡ values_by s (with_arrival b c start v)
  with_arrival-by c start v finds =
      ap (arrives b (s 0 c) start) finds ∙ arrives-by c start (in_life b start.life v)

  pub with_running-by : (c : ℕ) (v : Values)
      → with_running (s 0 c) (values_by s v) ≡ values_by s (with_running c v)
  with_running-by c v = grind (arith, nat_tests, updated-by)

  -- Acknowledgements ------------------------------------------------------------------------------

  applied_part-by : (a : AckValue) (level : ℕ) (sent : Option MessageValue)
      → applied_part (acknowledgement_by s a) level (option_map (message_by s) sent)
      ≡ applied_part a level sent
  applied_part-by a level sent = grind (arith, nat_tests)

  -- the known starts below a domain, and below its other place
  known_below-by : (known : ℕ → ℕ) (n : Node)
      → sum_by (λ k. known (s 0 k)) (below b n) ≡ sum_by known (below b (node_by s n))
  known_below-by known n =
      ap (λ (m : Node). sum_by (λ k. known (s 0 k)) (below b m)) (sym (node_back is n))
      ∙ sum-below is (node_by s n) known

  confirms_on-by : (v : Values) (a : AckValue) (level place : ℕ)
      → confirms_on b (values_by s v) (acknowledgement_by s a) level place
      ≡ confirms_on b v a level (s level place)
  confirms_on-by v a level place =
      let n : Node = record { level = level; place = place } in
      let c : ℕ = a.core.number in
      let depth : ℕ = v.granted level (s level place) in
      let sent : Option MessageValue = v.outstanding (slot_of a.kind a.core) in
      ap (λ (o : Option MessageValue). confirms b (record {
        known = λ k. v.known (s 0 k);
        granted = depth;
        sent = o;
      }) (acknowledgement_by s a) n) (at_slot-by is v a)
      ∙ (ap (λ (p : Option Part). is_path_place b (s 0 c) level place && (nat_lt 0 depth
      && is_made_at (sum_by (λ k. v.known (s 0 k)) (below b n)) p)) (applied_part-by a level sent)
      ∙ (ap (λ (k : ℕ). is_path_place b (s 0 c) level place && (nat_lt 0 depth
      && is_made_at k (applied_part a level sent))) (known_below-by v.known n)
      ∙ ap (λ (t : Bool). t && (nat_lt 0 depth
      && is_made_at (sum_by v.known (below b (node_by s n))) (applied_part a level sent)))
      (path-by c level place)))

  acknowledged_status-by : (a : AckValue) (v : Values)
      → updated (λ k. v.status (s 0 k)) (s 0 a.core.number)
      (if turns_off (values_by s v) (acknowledgement_by s a) then statuses.Off else v.status
      (s 0 (s 0 a.core.number)))
      ≡
      (λ k. updated v.status a.core.number
      (if turns_off v a then statuses.Off else v.status a.core.number) (s 0 k))
  acknowledged_status-by a v = grind (arith, nat_tests, updated-by)

  pub with_acknowledgement-by : (a : AckValue) (v : Values)
      → with_acknowledgement b (acknowledgement_by s a) (values_by s v)
      ≡ values_by s (with_acknowledgement b a v)
  with_acknowledgement-by a v =
      let acknowledged : Values = record v {
        status = updated v.status a.core.number
            (if turns_off v a then statuses.Off else v.status a.core.number);
        confirmed = λ level place.
            if confirms_on b v a level place then true else v.confirmed level place;
      } in
      ap (with_slots (Acknowledge (acknowledgement_by s a))) (λ i. record (values_by s v) {
        status = acknowledged_status-by a v i;
        confirmed = λ level place. ap (λ (t : Bool).
            if t then true else v.confirmed level (s level place)) (confirms_on-by v a level place)
            i;
      })
      ∙ with_slots-by is (Acknowledge a) acknowledged

-- What renumbered cores are answered, whatever the call -------------------------------------------

-- The start of a life ---------------------------------------------------------------------------

module _ {b : BoardValue} {s : ℕ → ℕ → ℕ} (is : Renumbers b s) where
  first_confirmed-by : (level place : ℕ) → s 0 0 ≡ 0
      →
      (has_node b (record { level = level; place = s level place }) && not
      (is_path_place b 0 level (s level place)))
      ≡
      (has_node b (record { level = level; place = place }) && not (is_path_place b 0 level place))
  first_confirmed-by level place boot = grind (arith, nat_tests, has_node-by)

  pub start_of_life-by : (life : ℕ) → s 0 0 ≡ 0
      → values_by s (start_of_life b life) ≡ start_of_life b life
  start_of_life-by life boot = grind (arith, nat_tests, first_confirmed-by)

  found-by : (life : ℕ) (v : Values) (t : Bool) → s 0 0 ≡ 0
      → (if t then values_by s v else start_of_life b life)
      ≡ values_by s (if t then v else start_of_life b life)
  found-by life v true boot = refl
  found-by life v false boot = sym (start_of_life-by life boot)

  -- a core finds the values of the other numbers, where the boot core keeps its own or no life
  -- begins
  pub finds-by : (start : Start) (v : Values) → (start.life ≡ v.life) ⊎ (s 0 0 ≡ 0)
      → FindsBy b s start v
  finds-by start v spares = search (arith, eq-eqb, found-by)

  -- Answers ---------------------------------------------------------------------------------------

  pub enter_fault-by : (v : Values) (c : ℕ) (start : Start)
      → enter_fault b (values_by s v) (s 0 c) start ≡ enter_fault b v c start
  enter_fault-by v c start = rw (is.inside 0 c, is.back 0 c)

  without_opening-by : (found arrived : Values) (c : ℕ) (start : Start)
      → without_opening b (values_by s found) (values_by s arrived) (s 0 c) start
      ≡ outcome_by s (without_opening b found arrived c start)
  without_opening-by found arrived c start = search (arith, chosen, cpu_off-by)

  -- what a core is answered that found and left these values
  answered-by : (found arrived : Values) (c : ℕ) (start : Start)
      →
      (if found.halting then stops else outcome_at b (values_by s found) (values_by s arrived)
      (s 0 c) start (found.opening (s 0 (s 0 c))))
      ≡ outcome_by s
      (if found.halting then stops else outcome_at b found arrived c start (found.opening c))
  answered-by found arrived c start = search (arith, chosen, nat_tests, without_opening-by)

  pub enter_outcome-by : (v : Values) (c : ℕ) (start : Start) → FindsBy b s start v
      → enter_outcome b (values_by s v) (s 0 c) start ≡ outcome_by s (enter_outcome b v c start)
  unfolding enter_outcome
  enter_outcome-by v c start finds =
      ap (λ (found : Values). if found.halting then stops
      else outcome_at b found (with_arrival b (s 0 c) start (values_by s v)) (s 0 c) start
      (found.opening (s 0 c))) finds
      ∙ (ap (λ (arrived : Values). if (in_life b start.life v).halting then stops
      else outcome_at b (values_by s (in_life b start.life v)) arrived (s 0 c) start
      ((in_life b start.life v).opening (s 0 (s 0 c)))) (with_arrival-by is c start v finds)
      ∙ answered-by (in_life b start.life v) (with_arrival b c start v) c start)

-- Functions ---------------------------------------------------------------------------------------

module _ {b : BoardValue} {s : ℕ → ℕ → ℕ} (is : Renumbers b s) where
  function-by : (v : Values) (c : ℕ) (r q : Request) → AsksBy b s r q
      → function_outcome b (values_by s v) (s 0 c) q ≡ outcome_by s (function_outcome b v c r)
  function-by v c (requests.CpuOn target entry_point context) q asks =
      rw asks.2 (cpu_on-by is v target asks.0 entry_point asks.1)
  function-by v c (requests.AffinityInfo level target) q asks =
      rw asks.2 (affinity-by is v (node_of b target level) (node_of b asks.0 level) asks.1)
  function-by v c (requests.NodeHwState level target) q asks =
      rw asks.2 (hw_state-by is v (node_of b target level) (node_of b asks.0 level) asks.1)
  function-by v c (requests.CpuSuspend state entry_point context) q asks =
      rw asks (suspend_asked-by is v c entry_point (ask_named b state))
  function-by v c requests.CpuOff q asks = rw asks (cpu_off-by is v c)
  function-by v c requests.SystemOff q asks = rw asks (system_message-by is v kinds.Off c)
  function-by v c requests.SystemReset q asks = rw asks (system_message-by is v kinds.Reset c)
  function-by v c (requests.SystemReset2 reset_type cookie) q asks =
      rw asks (system_reset2-by is v c reset_type)
  function-by v c (requests.SystemSuspend entry_point context) q asks =
      rw asks (system_suspend-by is v c entry_point)
  function-by v c (requests.SetSuspendMode mode) q asks =
      rw asks (mode_asked-by is v c (mode_of mode))
  function-by v c r q asks = rw asks

  -- in a halting life too
  pub outcome_of-by : (v : Values) (c : ℕ) (r q : Request) → AsksBy b s r q
      → outcome_of b (values_by s v) (s 0 c) q ≡ outcome_by s (outcome_of b v c r)
  unfolding outcome_of
  outcome_of-by v c r q asks = chosen is v.halting stops _ stops _ refl (function-by v c r q asks)

-- Answers ---------------------------------------------------------------------------------------

module _ {b : BoardValue} {s : ℕ → ℕ → ℕ} (is : Renumbers b s) where
  call_fault-by : (v : Values) (c : ℕ) → call_fault b (values_by s v) (s 0 c) ≡ call_fault b v c
  call_fault-by v c = rw (is.inside 0 c, is.back 0 c)

  reply_or-by : (fault : Option FwFault) (o : Outcome)
      → reply_or fault (outcome_by s o) ≡ reply_by s (reply_or fault o)
  reply_or-by fault o = grind (arith, nat_tests)

  -- the same refusal, and the same outcome of the other number
  replied-by : (f g : Option FwFault) (o p : Outcome) → f ≡ g → o ≡ outcome_by s p
      → reply_or f o ≡ reply_by s (reply_or g p)
  replied-by f g o p same e = rw (same, e) (reply_or-by g p)

  pub answer-by : (v : Values) (c : ℕ) (call other : FwCall) → CallsBy b s call other
      → SparesBoot s v.life call
      → answer b (values_by s v) (s 0 c) other ≡ reply_by s (answer b v c call)
  unfolding answer
  answer-by v c (Smc regs) (Smc r) calls spares =
      replied-by _ _ _ _ (call_fault-by v c)
      (outcome_of-by is v c (request_of regs) (request_of r) calls)
  answer-by v c (Smc regs) other calls spares = absurd calls
  answer-by v c (Enter start) other calls spares =
      rw calls
      (replied-by _ _ _ _ (enter_fault-by is v c start)
      (enter_outcome-by is v c start (finds-by is start v spares)))
  answer-by v c (Take a) other calls spares =
      rw (calls, at_slot-by is v a)
      (ap replies.Taken (taken-by is a (v.outstanding (slot_of a.kind a.core))))
