-- Lists of entries, and what a list says by itself: the two histories, what was sent and what was
-- acknowledged, and where each core is. A list has its newest entry first; every definition looks
-- backwards along it.
use Rattle.std.specs.Prelude.{◌++◌, ◌<◌, ◌==◌, ◌∷◌, ◌≡◌, [], if◌then◌else◌, List, None, Option}
use Rattle.std.specs.Prelude.{Some, unwrap_or, ℕ}
use Rattle.psci_world_spec.specs.Legal.{first_place, indexed, place_after, place_controlled}
use Rattle.psci_world_spec.specs.declared.place.Place.{Place}
use Rattle.psci_world_spec.specs.declared.place.Place.TheVariants.{Running, Started, Stopped}
use Rattle.psci_world_spec.specs.psci_board.Board.{BoardValue, cores}
use Rattle.psci_world_spec.specs.psci_ctl_spec.Values.{CtlExchange}
use Rattle.psci_world_spec.specs.psci_ctl_spec.History as controls
use Rattle.psci_world_spec.specs.psci_ctl_spec.Replies.{last_start, reply}
use Rattle.psci_world_spec.specs.psci_ctl_spec.Values as controlled
use Rattle.psci_world_spec.specs.psci_ctl_spec.declared.call.CtlCall.{CtlCall}
use Rattle.psci_world_spec.specs.psci_ctl_spec.declared.call.CtlCall.TheVariants as asks
use Rattle.psci_world_spec.specs.psci_ctl_spec.declared.delivery.Delivery.TheVariants as deliveries
use Rattle.psci_world_spec.specs.psci_ctl_spec.declared.kick.Kick.TheVariants as kicks
use Rattle.psci_world_spec.specs.psci_ctl_spec.declared.reply.CtlReply.{CtlReply}
use Rattle.psci_world_spec.specs.psci_ctl_spec.declared.reply.CtlReply.TheVariants as replied
use Rattle.psci_world_spec.specs.psci_fw_spec.Answer.{answer}
use Rattle.psci_world_spec.specs.psci_fw_spec.Effects.{FwExchange, listed}
use Rattle.psci_world_spec.specs.psci_fw_spec.History as remembers
use Rattle.psci_world_spec.specs.psci_fw_spec.Values as kept
use Rattle.psci_world_spec.specs.psci_fw_spec.declared.call.FwCall.{FwCall}
use Rattle.psci_world_spec.specs.psci_fw_spec.declared.call.FwCall.TheVariants as calls
use Rattle.psci_world_spec.specs.psci_fw_spec.declared.reply.FwReply.{FwReply}
use Rattle.psci_world_spec.specs.psci_fw_spec.declared.reply.FwReply.TheVariants as replies
use Rattle.psci_world_spec.specs.psci_messages.Message.{AckValue, MessageValue}

-- One call with its reply. An acknowledgement that the firmware takes names no core; it stands
-- under core 0.
pub data Entry : Type 0 where
  -- of the firmware
  Asked : (e : FwExchange) → Entry
  -- of the power controller
  Controlled : (e : CtlExchange) → Entry

-- The two histories ----------------------------------------------------------------------------

-- what an entry adds to the firmware's history
abbrev pub asked_in : Entry → List FwExchange
asked_in (Asked e) = e ∷ []
asked_in (Controlled e) = []

-- the calls of the firmware
unfoldable pub firmware_history : List Entry → List FwExchange
firmware_history [] = []
firmware_history (e ∷ past) = asked_in e ++ firmware_history past

-- a call that was ignored counts nowhere
abbrev pub counted : CtlExchange → CtlReply → List CtlExchange
counted e (replied.Delivery (deliveries.Applied ack)) = e ∷ []
counted e (replied.Delivery deliveries.Ignored) = []
counted e (replied.Kick (kicks.Started start)) = e ∷ []
counted e (replied.Kick kicks.Ignored) = []

-- what an entry adds to the power controller's history
abbrev pub controlled_in : Entry → List CtlExchange
controlled_in (Asked e) = []
controlled_in (Controlled e) = counted e e.reply

-- the calls of the power controller, but for those that it ignored
unfoldable pub controller_history : List Entry → List CtlExchange
controller_history [] = []
controller_history (e ∷ past) = controlled_in e ++ controller_history past

-- the values of the firmware after these entries
abbrev pub firmware_values : BoardValue → List Entry → kept.Values
firmware_values b past = remembers.values_of b (firmware_history past)

-- the values of the power controller after these entries
abbrev pub controller_values : BoardValue → List Entry → controlled.Values
controller_values b past = controls.values_of b (controller_history past)

-- Messages and acknowledgements ----------------------------------------------------------------

-- the message that was sent with a reply
abbrev pub message_in : FwReply → Option MessageValue
message_in (replies.Out o) = o.message
message_in (replies.Taken taken) = None
message_in (replies.Fault fault) = None

-- the message that was sent with an entry: the firmware alone sends any
abbrev pub sent_by : Entry → Option MessageValue
sent_by (Asked e) = message_in e.reply
sent_by (Controlled e) = None

-- all messages sent
unfoldable pub sent : List Entry → List MessageValue
sent [] = []
sent (e ∷ past) = listed (sent_by e) ++ sent past

-- the acknowledgement that a reply is
abbrev pub ack_in : CtlReply → Option AckValue
ack_in (replied.Delivery (deliveries.Applied ack)) = Some ack
ack_in (replied.Delivery deliveries.Ignored) = None
ack_in (replied.Kick kick) = None

-- the acknowledgement that an entry is: the power controller alone makes any
abbrev pub made_by : Entry → Option AckValue
made_by (Asked e) = None
made_by (Controlled e) = ack_in e.reply

-- all acknowledgements made
unfoldable pub acks : List Entry → List AckValue
acks [] = []
acks (e ∷ past) = listed (made_by e) ++ acks past

-- Places ---------------------------------------------------------------------------------------

-- an outcome says where its core is
abbrev pub left_at : ℕ → ℕ → FwReply → Option Place
left_at c core (replies.Out o) = if c == core then Some (place_after o.act) else None
left_at c core (replies.Taken taken) = None
left_at c core (replies.Fault fault) = None

-- where an entry of the firmware says that a core is
abbrev pub place_by : ℕ → Entry → Option Place
place_by c (Asked e) = left_at c e.core e.reply
place_by c (Controlled e) = None

-- where a core is, by the last entry that says it: an outcome of the core, or what the power
-- controller did
unfoldable pub place : BoardValue → List Entry → ℕ → Place
place b [] c = first_place c
place b (e ∷ past) c =
    unwrap_or (place_by c e)
    (unwrap_or (place_controlled b c (controlled_in e)) (place b past c))

-- Which entry may follow which list, and which lists are legal: by the entries alone --------------

-- What a list says, as far as the next entry is judged by it.
pub record Now : Type 0 where
  pub firmware : kept.Values
  pub controller : controlled.Values
  pub place : ℕ → Place
  pub sent : List MessageValue
  pub acks : List AckValue

-- what these entries say
abbrev pub now : BoardValue → List Entry → Now
now b past = record {
  firmware = firmware_values b past;
  controller = controller_values b past;
  place = place b past;
  sent = sent past;
  acks = acks past;
}

-- an item is one of the list
abbrev pub IsOneOf : {A : Type 0} → List A → A → Type 0
IsOneOf items x = (k : ℕ) × (indexed items k ≡ Some x)

-- Calls of the firmware ------------------------------------------------------------------------

-- the firmware carried the call out: a refusal is no legal reply
abbrev pub IsOutcome : FwReply → Type 0
IsOutcome (replies.Out o) = Unit {0}
IsOutcome (replies.Taken taken) = ⊥
IsOutcome (replies.Fault fault) = ⊥

-- A running core calls, a started one enters by its last start, and what is taken was made before.
-- The reply is the firmware's answer.
abbrev pub MayAsk : BoardValue → Now → ℕ → FwCall → FwReply → Type 0
MayAsk b n c (calls.Smc regs) r =
    (c < cores b) × (n.place c ≡ Running) × IsOutcome r
    × (r ≡ answer b n.firmware c (calls.Smc regs))
MayAsk b n c (calls.Enter start) r =
    (c < cores b) × (n.place c ≡ Started) × (last_start n.controller c ≡ Some start) × IsOutcome r
    × (r ≡ answer b n.firmware c (calls.Enter start))
MayAsk b n c (calls.Take ack) r =
    (c ≡ 0) × IsOneOf n.acks ack × (r ≡ answer b n.firmware c (calls.Take ack))

-- Calls of the power controller ----------------------------------------------------------------

-- a wake-up names the start in which its core stopped, and is ignored at a core that is not stopped
abbrev pub MayWake : Place → ℕ → ℕ → CtlReply → CtlReply → Type 0
MayWake Stopped halted starts r answered = (halted ≡ starts) × (r ≡ answered)
MayWake Started halted starts r answered = r ≡ replied.Kick kicks.Ignored
MayWake Running halted starts r answered = r ≡ replied.Kick kicks.Ignored

-- What is delivered was sent before. The reply is the power controller's.
abbrev pub MayControl : BoardValue → Now → CtlCall → CtlReply → Type 0
MayControl b n (asks.Deliver m) r =
    IsOneOf n.sent m × (r ≡ reply b n.controller (asks.Deliver m))
MayControl b n (asks.Wake core halted) r =
    (core.number < cores b) × MayWake (n.place core.number) halted (n.controller.starts core.number)
    r (reply b n.controller (asks.Wake core halted))
MayControl b n (asks.Reset core) r =
    (core.number < cores b) × (r ≡ reply b n.controller (asks.Reset core))

-- Lists ----------------------------------------------------------------------------------------

-- an entry may be made now: a call that may be asked, with what it may be answered
abbrev pub MayBe : BoardValue → Now → Entry → Type 0
MayBe b n (Asked e) = MayAsk b n e.core e.call e.reply
MayBe b n (Controlled e) = MayControl b n e.call e.reply

-- an entry may follow these
unfoldable pub MayFollow : BoardValue → List Entry → Entry → Type 0
MayFollow b past e = MayBe b (now b past) e

-- each entry may follow those before it
abbrev pub IsLegal : BoardValue → List Entry → Type 0
IsLegal b [] = Unit {0}
IsLegal b (e ∷ past) = MayFollow b past e × IsLegal b past
