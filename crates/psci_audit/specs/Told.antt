-- Which list a run of the world tells: one entry for each record, in order, with the same reply.
use Rattle.std.specs.Prelude.{◌∷◌, ◌≡◌, [], Bool, false, List, Some, true, ℕ}
use Rattle.psci_world_spec.specs.Legal.{acks, controller_values, indexed, IsLegalPast}
use Rattle.psci_world_spec.specs.Legal.{outcome_in, place, sent}
use Rattle.psci_world_spec.specs.declared.event.Event.{Event}
use Rattle.psci_world_spec.specs.declared.event.Event.TheVariants.{Call, Deliver, Enter, Reset}
use Rattle.psci_world_spec.specs.declared.event.Event.TheVariants.{Take, Wake}
use Rattle.psci_world_spec.specs.declared.place.Place.TheVariants.{Stopped}
use Rattle.psci_world_spec.specs.declared.said.Record.{Record}
use Rattle.psci_world_spec.specs.declared.said.Said.{Said}
use Rattle.psci_world_spec.specs.declared.said.Said.TheVariants.{Acked, Fw, Ignored, Kick}
use Rattle.psci_world_spec.specs.declared.said.Said.TheVariants.{Taken as Took}
use Rattle.psci_world_spec.specs.psci_board.Board.{BoardValue}
use Rattle.psci_world_spec.specs.psci_ctl_spec.Values.{CtlExchange}
use Rattle.psci_world_spec.specs.psci_ctl_spec.Replies.{last_start}
use Rattle.psci_world_spec.specs.psci_ctl_spec.declared.call.CtlCall.{CtlCall}
use Rattle.psci_world_spec.specs.psci_ctl_spec.declared.call.CtlCall.TheVariants as asks
use Rattle.psci_world_spec.specs.psci_ctl_spec.declared.delivery.Delivery.TheVariants as deliveries
use Rattle.psci_world_spec.specs.psci_ctl_spec.declared.kick.Kick.TheVariants as kicks
use Rattle.psci_world_spec.specs.psci_ctl_spec.declared.reply.CtlReply.{CtlReply}
use Rattle.psci_world_spec.specs.psci_ctl_spec.declared.reply.CtlReply.TheVariants as replied
use Rattle.psci_world_spec.specs.psci_fw_spec.Effects.{FwExchange}
use Rattle.psci_world_spec.specs.psci_fw_spec.declared.call.FwCall.{FwCall}
use Rattle.psci_world_spec.specs.psci_fw_spec.declared.call.FwCall.TheVariants as calls
use Rattle.psci_world_spec.specs.psci_fw_spec.declared.reply.FwReply.{FwReply}
use Rattle.psci_world_spec.specs.psci_fw_spec.declared.reply.FwReply.TheVariants as replies
use Rattle.psci_world_spec.specs.psci_messages.Message.{AckValue, MessageValue}
use Rattle.psci_world_spec.specs.psci_messages.declared.start.Start.{Start}
use Rattle.psci_headline.specs.Safe.{AlwaysSafe}
use Rattle.psci_world.specs.Settles.{WorldValue}
use Rattle.psci_audit.specs.Entries.{Asked, Controlled, Entry, MayFollow}

-- a call of the firmware, with its reply
abbrev pub asked : ℕ → FwCall → FwReply → FwExchange
asked c call reply = record { core = c; call = call; reply = reply }

-- a call of the power controller, with its reply
abbrev pub controlled : CtlCall → CtlReply → CtlExchange
controlled call reply = record { call = call; reply = reply }

-- What is said of an event after these records tells this entry. A core enters by its last start;
-- what is delivered or taken is some message or acknowledgement of that number; a wake-up names the
-- core's last start, where the core is stopped.
abbrev pub IsTold : BoardValue → List Record → Event → Said → Entry → Type 0
IsTold b past (Call c regs) (Fw act sends) (Asked e) =
    e ≡ asked c (calls.Smc regs) (replies.Out (outcome_in act sends))
IsTold b past (Enter c) (Fw act sends) (Asked e) =
    (start : Start) × (last_start (controller_values b past) c ≡ Some start)
    × (e ≡ asked c (calls.Enter start) (replies.Out (outcome_in act sends)))
IsTold b past (Take k) (Took taken) (Asked e) =
    (ack : AckValue) × (indexed (acks past) k ≡ Some ack)
    × (e ≡ asked 0 (calls.Take ack) (replies.Taken taken))
IsTold b past (Deliver k) (Acked index ack) (Controlled e) =
    (m : MessageValue) × (indexed (sent past) k ≡ Some m)
    × (e ≡ controlled (asks.Deliver m) (replied.Delivery (deliveries.Applied ack)))
IsTold b past (Deliver k) Ignored (Controlled e) =
    (m : MessageValue) × (indexed (sent past) k ≡ Some m)
    × (e ≡ controlled (asks.Deliver m) (replied.Delivery deliveries.Ignored))
IsTold b past (Wake c) (Kick start) (Controlled e) =
    e ≡ controlled (asks.Wake (record { number = c }) ((controller_values b past).starts c))
    (replied.Kick (kicks.Started start))
IsTold b past (Wake c) Ignored (Controlled e) =
    (halted : ℕ) × (place b past c ≡ Stopped → halted ≡ (controller_values b past).starts c)
    × (e ≡ controlled (asks.Wake (record { number = c }) halted) (replied.Kick kicks.Ignored))
IsTold b past (Reset c) (Kick start) (Controlled e) =
    e ≡ controlled (asks.Reset (record { number = c })) (replied.Kick (kicks.Started start))
IsTold b past (Reset c) Ignored (Controlled e) =
    e ≡ controlled (asks.Reset (record { number = c })) (replied.Kick kicks.Ignored)
IsTold b past event said e = ⊥

-- these records tell these entries, one each
abbrev pub Tells : BoardValue → List Record → List Entry → Type 0
Tells b [] [] = Unit {0}
Tells b (r ∷ past) (e ∷ entries) = IsTold b past r.event r.said e × Tells b past entries
Tells b past entries = ⊥

-- the list of some legal run of the world
pub record IsListOf (b : BoardValue) (entries : List Entry) : Type 0 where
  pub past : List Record
  pub legal : IsLegalPast b past
  pub tells : Tells b past entries

-- and of one that was safe at every moment
pub record IsListOfSafe (b : BoardValue) (entries : List Entry) : Type 0 where
  pub past : List Record
  pub legal : IsLegalPast b past
  pub tells : Tells b past entries
  pub safe : AlwaysSafe b past

-- One entry more ----------------------------------------------------------------------------------

-- whether an entry may follow those that the records tell, which then tell it too
abbrev pub Follows : WorldValue → WorldValue → List Entry → Entry → Bool → Type 0
Follows old new entries e true =
    MayFollow old.board entries e × Tells old.board new.past (e ∷ entries)
Follows old new entries e false = MayFollow old.board entries e → ⊥

-- whichever entries the records tell
abbrev pub IsStep : WorldValue → WorldValue → Entry → Bool → Type 0
IsStep old new e may =
    (entries : List Entry) → Tells old.board old.past entries → Follows old new entries e may

-- Which reply what was said of an event is --------------------------------------------------------

-- an outcome of the firmware
abbrev pub SaysOutcome : Said → FwReply → Type 0
SaysOutcome (Fw act sends) r = r ≡ replies.Out (outcome_in act sends)
SaysOutcome said r = ⊥

-- what became of an acknowledgement
abbrev pub SaysTaken : Said → FwReply → Type 0
SaysTaken (Took taken) r = r ≡ replies.Taken taken
SaysTaken said r = ⊥

-- what became of a message
abbrev pub SaysDelivery : Said → CtlReply → Type 0
SaysDelivery (Acked index ack) r = r ≡ replied.Delivery (deliveries.Applied ack)
SaysDelivery Ignored r = r ≡ replied.Delivery deliveries.Ignored
SaysDelivery said r = ⊥

-- what became of a wake-up or a reset
abbrev pub SaysKick : Said → CtlReply → Type 0
SaysKick (Kick start) r = r ≡ replied.Kick (kicks.Started start)
SaysKick Ignored r = r ≡ replied.Kick kicks.Ignored
SaysKick said r = ⊥
