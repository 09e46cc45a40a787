-- What is said of an event, by the records before it; legal records and runs.
use Rattle.std.specs.Prelude.{◌++◌, ◌==◌, ◌∷◌, ◌≡◌, [], if◌then◌else◌, length, List, nat_lt}
use Rattle.std.specs.Prelude.{None, Option, option_map, reverse, slice_get, Some, unwrap_or, ℕ}
use Rattle.psci_ctl_spec.specs.Replies.{Begins, Deepens, Effect, effect_of, Ends, last_start}
use Rattle.psci_ctl_spec.specs.Replies.{Nothing, reply, Starts}
use Rattle.psci_ctl_spec.specs.Values as controller
use Rattle.psci_ctl_spec.specs.History as controls
use Rattle.psci_ctl_spec.specs.declared.call.CtlCall.{CtlCall}
use Rattle.psci_ctl_spec.specs.declared.call.CtlCall.TheVariants as asked
use Rattle.psci_ctl_spec.specs.declared.delivery.Delivery.TheVariants as deliveries
use Rattle.psci_ctl_spec.specs.declared.kick.Kick.TheVariants as kicks
use Rattle.psci_ctl_spec.specs.declared.reply.CtlReply.{CtlReply}
use Rattle.psci_ctl_spec.specs.declared.reply.CtlReply.TheVariants as replied
use Rattle.psci_fw_spec.specs.Answer.{answer}
use Rattle.psci_fw_spec.specs.Effects as firmware
use Rattle.psci_fw_spec.specs.History as remembers
use Rattle.psci_fw_spec.specs.Effects.{listed}
use Rattle.psci_fw_spec.specs.Values as kept
use Rattle.psci_fw_spec.specs.declared.call.FwCall.{FwCall}
use Rattle.psci_fw_spec.specs.declared.call.FwCall.TheVariants as calls
use Rattle.psci_fw_spec.specs.declared.outcome.Act.{Act}
use Rattle.psci_fw_spec.specs.declared.outcome.Act.TheVariants as acts
use Rattle.psci_fw_spec.specs.declared.outcome.Outcome.{Outcome}
use Rattle.psci_fw_spec.specs.declared.reply.FwReply.{FwReply}
use Rattle.psci_fw_spec.specs.declared.reply.FwReply.TheVariants as replies
use Rattle.psci_fw_spec.specs.psci_board.Board.{BoardValue, cores}
use Rattle.psci_fw_spec.specs.psci_messages.Message.{AckValue, MessageValue}
use Rattle.psci_fw_spec.specs.psci_messages.declared.start.Start.{Start}
use Rattle.psci_fw_spec.specs.psci_messages.declared.taken.Taken.{Taken}
use Rattle.psci_world_spec.specs.declared.event.Event.{Event}
use Rattle.psci_world_spec.specs.declared.event.Event.TheVariants.{Call, Deliver, Enter, Reset}
use Rattle.psci_world_spec.specs.declared.event.Event.TheVariants.{Take, Wake}
use Rattle.psci_world_spec.specs.declared.place.Place.{Place}
use Rattle.psci_world_spec.specs.declared.place.Place.TheVariants.{Running, Started, Stopped}
use Rattle.psci_world_spec.specs.declared.said.Record.{Record}
use Rattle.psci_world_spec.specs.declared.said.Said.{Said}
use Rattle.psci_world_spec.specs.declared.said.Said.TheVariants.{Absent, Acked, Fw, Ignored}
use Rattle.psci_world_spec.specs.declared.said.Said.TheVariants.{Kick, Taken as Took}
use Rattle.psci_world_spec.specs.declared.said.Sent.{Sent}

-- Lists -------------------------------------------------------------------------------------------
-- Lists that have their newest item first, and whose items are numbered from the oldest one.

-- the item of this number, counted from 0 as they came, where there is one
abbrev pub indexed : {A : Type 0} → List A → ℕ → Option A
indexed items k = slice_get (reverse items) k

-- Histories ---------------------------------------------------------------------------------------
-- The two histories of the records: what the firmware was asked and replied, and what the power
-- controller was. A past has its newest record first; every definition looks backwards along it.

-- Messages and acknowledgements ----------------------------------------------------------------

-- the message that was sent
abbrev pub sent_in : Said → Option MessageValue
sent_in (Fw act sent) = option_map (λ s. s.message) sent
sent_in said = None

-- all messages sent, over all lives
unfoldable pub sent : List Record → List MessageValue
sent [] = []
sent (r ∷ past) = listed (sent_in r.said) ++ sent past

-- the acknowledgement that was made
abbrev pub ack_in : Said → Option AckValue
ack_in (Acked index ack) = Some ack
ack_in said = None

-- all acknowledgements made
unfoldable pub acks : List Record → List AckValue
acks [] = []
acks (r ∷ past) = listed (ack_in r.said) ++ acks past

-- The controller's history ---------------------------------------------------------------------

-- a message of some number was delivered and acknowledged
abbrev pub delivered : Option MessageValue → AckValue → List controller.CtlExchange
delivered None ack = []
delivered (Some m) ack = record {
  call = asked.Deliver m;
  reply = replied.Delivery (deliveries.Applied ack);
} ∷ []

-- a core was started
abbrev pub kicked : CtlCall → Start → List controller.CtlExchange
kicked call start =
    record { call = call; reply = replied.Kick (kicks.Started start) } ∷ []

-- what a record adds, after the values so far: a wake-up names the start in which the core stopped
abbrev pub control : controller.Values → List MessageValue → Event → Said
    → List controller.CtlExchange
control v messages (Deliver k) (Acked index ack) = delivered (indexed messages k) ack
control v messages (Wake c) (Kick start) =
    kicked (asked.Wake (record { number = c }) (v.starts c)) start
control v messages (Reset c) (Kick start) = kicked (asked.Reset (record { number = c })) start
control v messages event said = []

-- what the power controller was asked and replied, but for what it ignored
unfoldable pub controller_history : BoardValue → List Record → List controller.CtlExchange
controller_history b [] = []
controller_history b (r ∷ past) =
    control (controls.values_of b (controller_history b past)) (sent past) r.event r.said
    ++ controller_history b past

-- the values of the power controller after these records
abbrev pub controller_values : BoardValue → List Record → controller.Values
controller_values b past = controls.values_of b (controller_history b past)

-- The firmware's history -----------------------------------------------------------------------

-- the outcome that is said
abbrev pub outcome_in : Act → Option Sent → Outcome
outcome_in act sent = record { act = act; message = option_map (λ s. s.message) sent }

-- a core entered by its last start
abbrev pub entered : ℕ → Option Start → Outcome → List firmware.FwExchange
entered c None outcome = []
entered c (Some start) outcome =
    record { core = c; call = calls.Enter start; reply = replies.Out outcome } ∷ []

-- an acknowledgement of some number was taken
abbrev pub took : Option AckValue → Taken → List firmware.FwExchange
took None taken = []
took (Some ack) taken =
    record { core = 0; call = calls.Take ack; reply = replies.Taken taken } ∷ []

-- what a record adds, after the controller's values and the acknowledgements so far
abbrev pub call : controller.Values → List AckValue → Event → Said → List firmware.FwExchange
call v made (Call c regs) (Fw act sent) =
    record { core = c; call = calls.Smc regs; reply = replies.Out (outcome_in act sent) } ∷ []
call v made (Enter c) (Fw act sent) = entered c (last_start v c) (outcome_in act sent)
call v made (Take k) (Took taken) = took (indexed made k) taken
call v made event said = []

-- what the firmware was asked and replied
unfoldable pub firmware_history : BoardValue → List Record → List firmware.FwExchange
firmware_history b [] = []
firmware_history b (r ∷ past) =
    call (controller_values b past) (acks past) r.event r.said ++ firmware_history b past

-- the values of the firmware after these records
abbrev pub firmware_values : BoardValue → List Record → kept.Values
firmware_values b past = remembers.values_of b (firmware_history b past)

-- Where each core is ------------------------------------------------------------------------------

-- the boot core is started as a life begins
abbrev pub first_place : ℕ → Place
first_place c = if c == 0 then Started else Stopped

-- a core that stops executes nothing more; any other outcome leaves it running
abbrev pub place_after : Act → Place
place_after (acts.Return code) = Running
place_after acts.Stop = Stopped
place_after (acts.Enter address context) = Running
place_after acts.Resume = Running

-- an outcome says where its core is
abbrev pub place_said : ℕ → Event → Said → Option Place
place_said c (Call d regs) (Fw act sent) = if c == d then Some (place_after act) else None
place_said c (Enter d) (Fw act sent) = if c == d then Some (place_after act) else None
place_said c event said = None

-- what the power controller did says where a core is: one that it started, each core as a life
-- begins, and each core as the last life ends
abbrev pub place_of_effect : ℕ → Effect → Option Place
place_of_effect c Nothing = None
place_of_effect c (Starts d cause) = if c == d then Some Started else None
place_of_effect c (Deepens d ps) = None
place_of_effect c Ends = Some Stopped
place_of_effect c Begins = Some (first_place c)

-- the same of the exchange that a record adds to the controller's history, if it adds one
abbrev pub place_controlled : BoardValue → ℕ → List controller.CtlExchange → Option Place
place_controlled b c [] = None
place_controlled b c (e ∷ h) = place_of_effect c (effect_of b e.call e.reply)

-- where a core is, by the last record that says it
unfoldable pub place : BoardValue → List Record → ℕ → Place
place b [] c = first_place c
place b (r ∷ past) c =
    unwrap_or (place_said c r.event r.said)
    (unwrap_or (place_controlled b c
    (control (controller_values b past) (sent past) r.event r.said))
    (place b past c))

-- Legal -------------------------------------------------------------------------------------------

-- What is answered -----------------------------------------------------------------------------

-- a message under the number of messages before it
abbrev pub sent_as : ℕ → Option MessageValue → Option Sent
sent_as index message = option_map (λ m. record { index = index; message = m }) message

-- the firmware's reply, as it is said; a refusal has no word of its own
abbrev pub said_of : ℕ → FwReply → Said
said_of index (replies.Out o) = Fw o.act (sent_as index o.message)
said_of index (replies.Taken taken) = Took taken
said_of index (replies.Fault fault) = Ignored

-- the firmware is asked
abbrev pub asked_firmware : BoardValue → List Record → ℕ → FwCall → Said
asked_firmware b past c call =
    said_of (length (sent past)) (answer b (firmware_values b past) c call)

-- the controller's reply, as it is said; an acknowledgement has the number of those before it
abbrev pub said_by : ℕ → CtlReply → Said
said_by index (replied.Delivery (deliveries.Applied ack)) = Acked index ack
said_by index (replied.Delivery deliveries.Ignored) = Ignored
said_by index (replied.Kick (kicks.Started start)) = Kick start
said_by index (replied.Kick kicks.Ignored) = Ignored

-- the power controller is asked
abbrev pub asked_controller : BoardValue → List Record → CtlCall → Said
asked_controller b past call =
    said_by (length (acks past)) (reply b (controller_values b past) call)

-- What happens at a place ----------------------------------------------------------------------

-- this is said of a core that is there, and else that there is none
abbrev pub on_board : BoardValue → ℕ → Said → Said
on_board b c said = if nat_lt c (cores b) then said else Absent

-- a running core calls
abbrev pub if_running : Place → Said → Said
if_running Running said = said
if_running Started said = Ignored
if_running Stopped said = Ignored

-- a started core enters, by its last start
abbrev pub if_started : BoardValue → List Record → ℕ → Place → Option Start → Said
if_started b past c Started (Some start) = asked_firmware b past c (calls.Enter start)
if_started b past c p start = Ignored

-- a stopped core is woken
abbrev pub if_stopped : Place → Said → Said
if_stopped Stopped said = said
if_stopped Started said = Ignored
if_stopped Running said = Ignored

-- the message of some number is delivered
abbrev pub deliver : BoardValue → List Record → Option MessageValue → Said
deliver b past None = Absent
deliver b past (Some m) = asked_controller b past (asked.Deliver m)

-- the acknowledgement of some number is taken
abbrev pub take : BoardValue → List Record → Option AckValue → Said
take b past None = Absent
take b past (Some ack) = asked_firmware b past 0 (calls.Take ack)

-- All events -----------------------------------------------------------------------------------

-- what is said of an event after these records
unfoldable pub legal : BoardValue → List Record → Event → Said
legal b past (Call c regs) =
    on_board b c (if_running (place b past c) (asked_firmware b past c (calls.Smc regs)))
legal b past (Enter c) =
    on_board b c (if_started b past c (place b past c) (last_start (controller_values b past) c))
legal b past (Wake c) =
    on_board b c (if_stopped (place b past c) (asked_controller b past
    (asked.Wake (record { number = c }) ((controller_values b past).starts c))))
legal b past (Reset c) =
    on_board b c (asked_controller b past (asked.Reset (record { number = c })))
legal b past (Deliver k) = deliver b past (indexed (sent past) k)
legal b past (Take k) = take b past (indexed (acks past) k)

-- Runs -----------------------------------------------------------------------------------------

-- records of each of which that is said which is legal after the records before it
abbrev pub IsLegalPast : BoardValue → List Record → Type 0
IsLegalPast b [] = Unit {0}
IsLegalPast b (r ∷ past) = (r.said ≡ legal b past r.event) × IsLegalPast b past

-- an event with what is legal to say of it
abbrev pub legal_record : BoardValue → List Record → Event → Record
legal_record b past event = record { event = event; said = legal b past event }

-- the records after these events, the first event first, after a past
unfoldable pub run_from : BoardValue → List Record → List Event → List Record
run_from b past [] = past
run_from b past (event ∷ events) = run_from b (legal_record b past event ∷ past) events

-- a history of the power controller in which every reply is the one reply after the exchanges
-- before it, whatever was delivered
abbrev pub IsReplied : BoardValue → List controller.CtlExchange → Type 0
IsReplied b [] = Unit {0}
IsReplied b (e ∷ h) =
    (e.reply ≡ reply b (controls.values_of b h) e.call) × IsReplied b h
