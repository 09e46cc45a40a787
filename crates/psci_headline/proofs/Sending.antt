-- The messages of a legal run are those that the firmware's history says were sent, and the power
-- controller's history is one of its legal histories.
use Rattle.std.proofs.lemmas.Option.{slice_get_read}
use Rattle.psci_board.specs.declared.draft.TheConstants.{MOST_CORES}
use Rattle.psci_ctl_spec.specs.Values as controller
use Rattle.psci_ctl_spec.specs.History as controls
use Rattle.psci_world_spec.specs.Legal.{controller_history, firmware_history, sent}
use Rattle.psci_world_spec.specs.declared.said.Said.TheVariants as said
use Rattle.psci_world_spec.specs.psci_abi.declared.request.Request.TheVariants as requests
use Rattle.psci_fw_laws.specs.Messages.{IsSound}
use Rattle.psci_fw_laws.specs.psci_fw_spec.Answer.{answer, enter_outcome}
use Rattle.psci_fw_laws.specs.psci_fw_spec.Effects as firmware
use Rattle.psci_fw_laws.specs.psci_fw_spec.PowerCalls.{returns, stops_with}
use Rattle.psci_fw_laws.specs.psci_fw_spec.Phases.{is_running, Running}
use Rattle.psci_fw_laws.specs.psci_fw_spec.Effects.{sent_messages}
use Rattle.psci_fw_laws.specs.psci_fw_spec.declared.reply.FwReply.TheVariants as replies
use Rattle.psci_fw_laws.proofs.Claiming.{updated_there}
use Rattle.psci_fw_laws.proofs.fw_spec.Endings.{starts_with}
use Rattle.psci_headline.proofs.Happening.{happens, is_quiet, sends_nothing}
use Rattle.psci_headline.proofs.Words.{◌++◌, ◌-◌, ◌<◌, ◌∙◌, ◌∷◌, ◌≡◌, ◌≤◌, [], Acknowledges}
use Rattle.psci_headline.proofs.Words.{acks, AckValue, Act, arith, AsksOn, BoardValue, Bool}
use Rattle.psci_headline.proofs.Words.{Call, call, call_fault, change, Code, control}
use Rattle.psci_headline.proofs.Words.{controller_answered, controller_values, cores, delivered}
use Rattle.psci_headline.proofs.Words.{Effect, Enter, enter_effect, enter_fault, entered, Enters}
use Rattle.psci_headline.proofs.Words.{Event, executes_on, false, firmware_legal}
use Rattle.psci_headline.proofs.Words.{firmware_values, function_effect, function_ends, FwFault}
use Rattle.psci_headline.proofs.Words.{get_or-reverse, get_or_from_slice_get, GoesOn, Halts}
use Rattle.psci_headline.proofs.Words.{in_life, indexed, IsAllowed, IsLegal, IsLegalPast}
use Rattle.psci_headline.proofs.Words.{IsReplied, last_start, legal, length, length-reverse}
use Rattle.psci_headline.proofs.Words.{List, listed, MessageValue, nat_tests, None, Nothing}
use Rattle.psci_headline.proofs.Words.{Option, option_map, Outcome, outcome_ends, outcome_in}
use Rattle.psci_headline.proofs.Words.{outcome_of, Parks, Phase, PowerOn, Record, refl, Regs}
use Rattle.psci_headline.proofs.Words.{reply_or, Request, request_of, Reset, Rests, reverse}
use Rattle.psci_headline.proofs.Words.{Said, sent_in, SetsMode, slice_get, slice_get_within}
use Rattle.psci_headline.proofs.Words.{Some, Start, Stops, StopsAtOnce, subst, suc, sym, Taken}
use Rattle.psci_headline.proofs.Words.{took, true, unless_pending, updated_at, updated_here}
use Rattle.psci_headline.proofs.Words.{Values, Wake, with_pending, ℕ}

-- Items of a list: one of some number, and one behind others --------------------------------------

-- An item of a list.
pub record IsListed {A : Type 0} (items : List A) (x : A) : Type 0 where
  pub index : ℕ
  pub at : slice_get items index ≡ Some x

pub at_number : {A : Type 0} (items : List A) (k : ℕ) (x : A) → indexed items k ≡ Some x
    → IsListed items x
at_number {A} items k x at =
    let few : k < length (reverse items) = slice_get_within (reverse items) k x at in
    let size : length (reverse items) ≡ length items = length-reverse items in
    let less : k < length items = omega arith in
    record {
      index = length items - 1 - k;
      at = slice_get_read items (length items) (length items - 1 - k) x refl (omega arith)
          (sym (get_or_from_slice_get (reverse items) k x x at) ∙ get_or-reverse items k x less);
    }

-- one of those behind it
pub listed_later : {A : Type 0} (o : Option A) (xs : List A) (x : A) → IsListed xs x
    → IsListed (listed o ++ xs) x
listed_later None xs x is = is
listed_later (Some y) xs x is = record { index = suc is.index; at = is.at }

-- an item is the first one, where there is one, or one of those behind it
pub of_newest : {A : Type 0} {X : Type 0} (o : Option A) (xs : List A) (k : ℕ) (y : A)
    → (o ≡ Some y → X) → ((j : ℕ) → slice_get xs j ≡ Some y → X)
    → slice_get (listed o ++ xs) k ≡ Some y → X
of_newest x0 xs k y first other at = grind (arith, nat_tests)

-- What calls, entries and acknowledgements leave of known starts and of who runs ------------------

-- What is left where one core did something: its known start, and whether it runs.
pub record IsMoved (v w : Values) (c n : ℕ) (t : Bool) : Type 0 where
  pub life : w.life ≡ v.life
  pub number : w.known c ≡ n
  pub known : (x : ℕ) → (x ≡ c → ⊥) → w.known x ≡ v.known x
  pub here : is_running (w.phase c) ≡ t
  pub others : (x : ℕ) → (x ≡ c → ⊥) → is_running (w.phase x) ≡ is_running (v.phase x)

-- Calls ----------------------------------------------------------------------------------------

-- whether an effect is one of a call
abbrev pub is_call : Effect → Bool
is_call Nothing = false
is_call (GoesOn c) = true
is_call (SetsMode c mode) = true
is_call (AsksOn c asked) = true
is_call (Rests c rest m) = true
is_call (Halts c m) = true
is_call (Stops c) = true
is_call (Enters c s) = false
is_call (Parks c s m) = false
is_call (StopsAtOnce c s) = false
is_call (Acknowledges a) = false

-- the core that called
abbrev pub caller : Effect → ℕ
caller (GoesOn c) = c
caller (SetsMode c mode) = c
caller (AsksOn c asked) = c
caller (Rests c rest m) = c
caller (Halts c m) = c
caller (Stops c) = c
caller e = 0

-- and whether it goes on
abbrev pub runs_on : Effect → Bool
runs_on (GoesOn c) = true
runs_on (SetsMode c mode) = true
runs_on (AsksOn c asked) = true
runs_on e = false

-- An effect of a call of this core, which goes on or does not.
pub record IsCallOf (e : Effect) (c : ℕ) (t : Bool) : Type 0 where
  pub is : is_call e ≡ true
  pub core : caller e ≡ c
  pub runs : runs_on e ≡ t

-- what a function comes down to is of its caller, which goes on where the outcome says so
pub function_call : (b : BoardValue) (c : ℕ) (r : Request) (act : Act) (o : Option MessageValue)
    → IsCallOf (function_effect b c r act o) c (executes_on act)
function_call b c r act o = grind (arith, nat_tests)

-- What is left ---------------------------------------------------------------------------------

-- a phase that is not Running stays so where a pending core stays pending
rests : (p left : Phase) → (left ≡ Running → ⊥) → is_running (unless_pending p left) ≡ false
rests p left ne = grind (arith, nat_tests)

-- what the laws of psci_fw_spec say of callers that run on
pub record CallerLaws (b : BoardValue) : Type 0 where
  pub goes_on : (v : Values) (c : ℕ) → v.phase c ≡ Running → change b (GoesOn c) v ≡ v
  pub asks_on : (v : Values) (c : ℕ) (asked : PowerOn) → v.phase c ≡ Running
      → change b (AsksOn c asked) v ≡ with_pending b asked v

-- the effect of a call
pub call_moves : (b : BoardValue) (v : Values) (e : Effect) → CallerLaws b → is_call e ≡ true
    → IsAllowed b v e → IsMoved v (change b e v) (caller e) (v.known (caller e)) (runs_on e)
call_moves b v e laws is allowed =
    grind (arith, nat_tests, updated_at, updated_here, updated_there, rests)

-- Entries --------------------------------------------------------------------------------------

-- the effect of an entry
pub entry_moves : (b : BoardValue) (v : Values) (c : ℕ) (s : Start) (act : Act)
    (o : Option MessageValue)
    → IsMoved (in_life b s.life v) (change b (enter_effect c s act o) v) c s.number
    (executes_on act)
entry_moves b v c s act o = grind (arith, nat_tests, updated_here, updated_there, rests)

-- What a legal outcome sends is what its effect says was sent -------------------------------------

-- Functions ------------------------------------------------------------------------------------

-- the effect of a function's outcome says what was sent
abbrev pub Sends : BoardValue → ℕ → Request → Outcome → Type 0
Sends b c r o = firmware.sent (function_effect b c r o.act o.message) ≡ o.message

returned : (b : BoardValue) (c : ℕ) (r : Request) (code : Code) → Sends b c r (returns code)
returned b c r code = grind (arith, nat_tests)

stopped : (b : BoardValue) (c : ℕ) (r : Request) (m : MessageValue) → Sends b c r (stops_with m)
stopped b c r m = grind (arith, nat_tests)

asked_on : (b : BoardValue) (c word entry_point context : ℕ) (r : Request) (m : MessageValue)
    → r ≡ requests.CpuOn word entry_point context → Sends b c r (starts_with m)
asked_on b c word entry_point context r m is = grind (arith, nat_tests, starts_with)

outcome_sends : (b : BoardValue) (v : Values) (c : ℕ) (r : Request)
    → Sends b c r (outcome_of b v c r)
outcome_sends b v c r =
    outcome_ends (Sends b c r) b v c r (λ halts. refl)
    (λ awake. function_ends (Sends b c r) b v c r (returned b c r) (stopped b c r)
    (λ word entry_point context m is. asked_on b c word entry_point context r m is))

-- the outcome of a call that is not refused
pub call_sends : (b : BoardValue) (v : Values) (c : ℕ) (r : Request) (o : Outcome)
    (f : Option FwFault) → replies.Out o ≡ reply_or f (outcome_of b v c r) → Sends b c r o
call_sends b v c r o f e = grind (arith, nat_tests, outcome_sends)

-- Entries --------------------------------------------------------------------------------------

-- the effect of an entry says what was sent
abbrev pub EnterSends : ℕ → Start → Outcome → Type 0
EnterSends c s o = firmware.sent (enter_effect c s o.act o.message) ≡ o.message

pub entry_sends : (b : BoardValue) (v : Values) (c : ℕ) (s : Start)
    → EnterSends c s (enter_outcome b v c s)
unfolding enter_outcome
entry_sends b v c s = grind (arith, nat_tests)

-- the outcome of an entry that is not refused
pub enter_sends : (b : BoardValue) (v : Values) (c : ℕ) (s : Start) (o : Outcome)
    (f : Option FwFault) → replies.Out o ≡ reply_or f (enter_outcome b v c s) → EnterSends c s o
enter_sends b v c s o f e = grind (arith, nat_tests, entry_sends)

-- Sending -----------------------------------------------------------------------------------------

-- Records --------------------------------------------------------------------------------------

-- the history after a record, whose event says this
abbrev pub after_call : BoardValue → List Record → Event → Said → List firmware.FwExchange
after_call b past event s =
    call (controller_values b past) (acks past) event s ++ firmware_history b past

-- what it says was sent is what its effect says was sent
abbrev Same : BoardValue → List Record → Event → Said → Type 0
Same b past event s =
    listed (sent_in s) ++ sent past ≡ sent_messages b (after_call b past event s)

-- an exchange adds what its effect says was sent
one_entry : (b : BoardValue) (e : firmware.FwExchange) (h : List firmware.FwExchange)
    (o : Option MessageValue) (l : List MessageValue) → firmware.sent (firmware.effect b e) ≡ o
    → l ≡ sent_messages b h → listed o ++ l ≡ sent_messages b (e ∷ h)
unfolding sent_messages
one_entry b e h o l sends same = grind (arith, nat_tests)

call_same : (b : BoardValue) (past : List Record) (c : ℕ) (regs : Regs) (s : Said)
    → sent past ≡ sent_messages b (firmware_history b past)
    → IsLegal b (after_call b past (Call c regs) s) → Same b past (Call c regs) s
unfolding answer
call_same b past c regs (said.Fw act sends) same legal =
    one_entry b _ (firmware_history b past) (option_map (λ m. m.message) sends) (sent past)
    (call_sends b (firmware_values b past) c (request_of regs) (outcome_in act sends)
    (call_fault b (firmware_values b past) c) legal.0) same
call_same b past c regs s same legal = same

enter_same : (b : BoardValue) (past : List Record) (c : ℕ) (s : Said)
    → sent past ≡ sent_messages b (firmware_history b past)
    → IsLegal b (after_call b past (Enter c) s) → s ≡ legal b past (Enter c)
    → Same b past (Enter c) s
unfolding answer
enter_same b past c (said.Fw act sends) same is e =
    by_start (last_start (controller_values b past) c)
    (happens b past (Enter c) (said.Fw act sends) e refl).last is
  where
    start : Start
    start = (happens b past (Enter c) (said.Fw act sends) e refl).start

    by_start : (o : Option Start) → o ≡ Some start
        → IsLegal b (entered c o (outcome_in act sends) ++ firmware_history b past)
        → listed (option_map (λ m. m.message) sends) ++ sent past
        ≡ sent_messages b (entered c o (outcome_in act sends) ++ firmware_history b past)
    by_start None f is = absurd (cc)
    by_start (Some s) f is =
        one_entry b _ (firmware_history b past) (option_map (λ m. m.message) sends) (sent past)
        (enter_sends b (firmware_values b past) c s (outcome_in act sends)
        (enter_fault b (firmware_values b past) c s) is.0) same
enter_same b past c (said.Kick start) same is e = same
enter_same b past c s same is e = same

-- nothing is sent where an acknowledgement is taken
took_none : (b : BoardValue) (h : List firmware.FwExchange) (o : Option AckValue) (t : Taken)
    → sent_messages b (took o t ++ h) ≡ sent_messages b h
unfolding sent_messages
took_none b h o t = grind (arith, nat_tests)

quiet_same : (b : BoardValue) (past : List Record) (event : Event) (s : Said)
    → sent past ≡ sent_messages b (firmware_history b past) → s ≡ legal b past event
    → is_quiet event ≡ true → Same b past event s
quiet_same b past event s same e q = grind (arith, nat_tests, sends_nothing, took_none)

event_same : (b : BoardValue) (past : List Record) (event : Event) (s : Said)
    → sent past ≡ sent_messages b (firmware_history b past)
    → IsLegal b (after_call b past event s) → s ≡ legal b past event → Same b past event s
event_same b past event s same is e = grind (arith, nat_tests, call_same, enter_same, quiet_same)

-- The whole run --------------------------------------------------------------------------------

-- what a record adds to the firmware's history
pub more_calls : (b : BoardValue) (r : Record) (past : List Record)
    → firmware_history b (r ∷ past) ≡ after_call b past r.event r.said
unfolding firmware_history
more_calls b r past = refl

-- so the history after it is legal
pub legal_call : (b : BoardValue) (r : Record) (past : List Record) → IsLegalPast b (r ∷ past)
    → IsLegal b (after_call b past r.event r.said)
legal_call b r past is = subst (IsLegal b) (more_calls b r past) (firmware_legal b (r ∷ past) is)

pub same_sent : (b : BoardValue) (past : List Record) → IsLegalPast b past
    → sent past ≡ sent_messages b (firmware_history b past)
unfolding sent sent_messages firmware_history
same_sent b [] is = refl
same_sent b (r ∷ past) is = grind (arith, nat_tests, event_same, legal_call, same_sent b past is.1)

-- The power controller -------------------------------------------------------------------------

-- a message that the firmware sends can be sent on its board
pub sendable : (b : BoardValue) (m : MessageValue) → cores b ≤ MOST_CORES → IsSound b m
    → controls.IsSendable b m
sendable b m most sound = grind (arith, nat_tests)

-- each of these messages can be sent on the board
abbrev pub AreSendable : BoardValue → List MessageValue → Type 0
AreSendable b messages =
    (k : ℕ) (m : MessageValue) → slice_get messages k ≡ Some m → controls.IsSendable b m

-- the history after a record, whose event says this
abbrev pub after_control : BoardValue → List Record → Event → Said → List controller.CtlExchange
after_control b past event s =
    control (controller_values b past) (sent past) event s ++ controller_history b past

-- Events ---------------------------------------------------------------------------------------

deliver_legal : (b : BoardValue) (h : List controller.CtlExchange) (messages : List MessageValue)
    (k : ℕ) (o : Option MessageValue) (ack : AckValue) → AreSendable b messages
    → indexed messages k ≡ o → IsReplied b (delivered o ack ++ h) → controls.IsLegal b h
    → controls.IsLegal b (delivered o ack ++ h)
deliver_legal b h messages k None ack are e answered is = is
deliver_legal b h messages k (Some m) ack are e answered is =
    let at = at_number messages k m e in
    (answered.0, are at.index m at.at, is)

wake_legal : (b : BoardValue) (past : List Record) (c : ℕ) (s : Said)
    → IsReplied b (after_control b past (Wake c) s)
    → controls.IsLegal b (controller_history b past) → s ≡ legal b past (Wake c)
    → controls.IsLegal b (after_control b past (Wake c) s)
wake_legal b past c (said.Kick start) answered is e =
    (answered.0, happens b past (Wake c) (said.Kick start) e refl, is)
wake_legal b past c s answered is e = is

reset_legal : (b : BoardValue) (past : List Record) (c : ℕ) (s : Said)
    → IsReplied b (after_control b past (Reset c) s)
    → controls.IsLegal b (controller_history b past) → s ≡ legal b past (Reset c)
    → controls.IsLegal b (after_control b past (Reset c) s)
reset_legal b past c (said.Kick start) answered is e =
    (answered.0, happens b past (Reset c) (said.Kick start) e refl, is)
reset_legal b past c s answered is e = is

event_legal : (b : BoardValue) (past : List Record) (event : Event) (s : Said)
    → AreSendable b (sent past) → IsReplied b (after_control b past event s)
    → controls.IsLegal b (controller_history b past) → s ≡ legal b past event
    → controls.IsLegal b (after_control b past event s)
event_legal b past event s are answered is e =
    grind (arith, nat_tests, wake_legal, reset_legal, deliver_legal)

-- The whole run --------------------------------------------------------------------------------

-- what a record adds to the controller's history
pub more_controls : (b : BoardValue) (r : Record) (past : List Record)
    → controller_history b (r ∷ past) ≡ after_control b past r.event r.said
unfolding controller_history
more_controls b r past = refl

pub controls_legal : (b : BoardValue)
    → ((past : List Record) → IsLegalPast b past → AreSendable b (sent past))
    → (past : List Record) → IsLegalPast b past → controls.IsLegal b (controller_history b past)
unfolding controller_history
controls_legal b are [] is = tt
controls_legal b are (r ∷ past) is =
    event_legal b past r.event r.said (are past is.1)
    (subst (IsReplied b) (more_controls b r past) (controller_answered b (r ∷ past) is))
    (controls_legal b are past is.1) is.0
