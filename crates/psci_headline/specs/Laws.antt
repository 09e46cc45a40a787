-- What the laws beside the headline say.
use Rattle.std.specs.Ordering.{int_eq}
use Rattle.std.specs.Prelude.{◌&&◌, ◌++◌, ◌<◌, ◌==◌, ◌||◌, ◌∷◌, ◌≡◌, ◌≤◌, [], Bool}
use Rattle.std.specs.Prelude.{if◌then◌else◌, length, List, None, Option, pos, slice_get, Some}
use Rattle.std.specs.Prelude.{true, ℕ}
use Rattle.psci_board.specs.Board.{BoardValue, cores, HasNode, node_of, up}
use Rattle.psci_board.specs.declared.draft.Node.{Node}
use Rattle.psci_ctl_spec.specs.Replies.{ack_by, change, is_this_life, last_start, message_effect}
use Rattle.psci_ctl_spec.specs.Values.{starts_below}
use Rattle.psci_ctl_spec.specs.psci_messages.Message.{AckValue, MessageValue}
use Rattle.psci_ctl_spec.specs.psci_messages.declared.start.Start.{Start}
use Rattle.psci_world_spec.specs.Legal.{acks, controller_values, firmware_values, indexed}
use Rattle.psci_world_spec.specs.Legal.{IsLegalPast, place, sent}
use Rattle.psci_world_spec.specs.declared.event.Event.{Event}
use Rattle.psci_world_spec.specs.declared.event.Event.TheVariants.{Call, Deliver}
use Rattle.psci_world_spec.specs.declared.place.Place.{Place}
use Rattle.psci_world_spec.specs.declared.place.Place.TheVariants.{Running, Started, Stopped}
use Rattle.psci_world_spec.specs.declared.said.Record.{Record}
use Rattle.psci_world_spec.specs.declared.said.Said.{Said}
use Rattle.psci_world_spec.specs.declared.said.Said.TheVariants.{Acked, Fw}
use Rattle.psci_world_spec.specs.psci_abi.Calls.{request_of}
use Rattle.psci_world_spec.specs.psci_abi.declared.request.Request.{Request}
use Rattle.psci_world_spec.specs.psci_abi.declared.request.Request.TheVariants.{AffinityInfo}
use Rattle.psci_world_spec.specs.psci_abi.declared.request.Request.TheVariants.{NodeHwState}
use Rattle.psci_fw_laws.specs.psci_fw_spec.Answer.{call_fault, enter_fault}
use Rattle.psci_fw_laws.specs.psci_fw_spec.Changes.{in_life}
use Rattle.psci_fw_laws.specs.psci_fw_spec.Phases as phases
use Rattle.psci_fw_laws.specs.psci_fw_spec.Values.{Values}
use Rattle.psci_fw_laws.specs.psci_fw_spec.declared.outcome.Act.TheVariants as acts
use Rattle.psci_fw_laws.specs.psci_messages.psci_state.PowerState.{power_down, retention}
use Rattle.psci_fw_laws.specs.psci_messages.psci_state.PowerState.{standby}
use Rattle.psci_headline.specs.Safe.{Claim, claims, depth_at, executes, known_starts}
use Rattle.psci_headline.specs.Safe.{live_claims, was_powered_down}

-- How an acknowledgement was made -----------------------------------------------------------------

-- An acknowledgement was made as a message was delivered that had been sent before, in its life.
pub record WasMade (b : BoardValue) (past : List Record) (a : AckValue) : Type 0 where
  -- the record of the delivery, with those since then and those before
  pub since : List Record
  pub delivery : Record
  pub before : List Record
  pub parts : since ++ (delivery ∷ before) ≡ past
  pub legal : IsLegalPast b before
  -- the message
  pub index : ℕ
  pub message : MessageValue
  pub at : slice_get (sent before) index ≡ Some message
  pub life : (controller_values b before).life ≡ Some message.life
  -- the record delivered it, and says this acknowledgement
  pub number : ℕ
  pub event : delivery.event ≡ Deliver number
  pub named : indexed (sent before) number ≡ Some message
  pub said : delivery.said ≡ Acked (length (acks before)) a
  -- what was acknowledged, and what it changed
  pub ack : a ≡ ack_by b (controller_values b before) message message.kind
  pub after : controller_values b (delivery ∷ before)
      ≡ change b (message_effect b message a message.kind) (controller_values b before)

-- What the firmware and the power controller know of each other, in the controller's life ---------

-- The firmware's values in a life, beside how often cores were started in it and where they are.
pub record AgreeIn (b : BoardValue) (starts : ℕ → ℕ) (place : ℕ → Place) (v : Values)
    : Type 0 where
  -- no known start is above the last start
  pub known : (c : ℕ) → v.known c ≤ starts c
  -- a core is started exactly where its last start is not known yet
  pub waits : (c : ℕ) → c < cores b → place c ≡ Started → v.known c < starts c
  pub started : (c : ℕ) → c < cores b → v.known c < starts c → place c ≡ Started
  -- a core at its place runs, and a stopped one does not, for the firmware too
  pub runs : (c : ℕ) → c < cores b → place c ≡ Running → v.phase c ≡ phases.Running
  pub rests : (c : ℕ) → c < cores b → place c ≡ Stopped → v.phase c ≡ phases.Running → ⊥

-- What holds after these records.
pub record Agree (b : BoardValue) (past : List Record) : Type 0 where
  -- the firmware's life is none that has not begun
  pub begun : (life : ℕ) → (controller_values b past).life ≡ Some life
      → (firmware_values b past).life ≤ life
  -- without a life every core is stopped
  pub stopped : (controller_values b past).life ≡ None → (c : ℕ) → place b past c ≡ Stopped
  -- in a life, with the firmware's values as a core finds them that enters in it
  pub present : (life : ℕ) → (controller_values b past).life ≡ Some life
      → AgreeIn b (controller_values b past).starts (place b past)
      (in_life b life (firmware_values b past))

-- What the live claims on a domain say ------------------------------------------------------------

-- two claims on a domain in a life, the later and the earlier one, have different generations
abbrev pub AreApart : BoardValue → List Record → Type 0
AreApart b past = (life : ℕ) (n : Node) (j k : ℕ) (p q : Claim) → HasNode b n
    → slice_get (claims b life n past) j ≡ Some p → slice_get (claims b life n past) k ≡ Some q
    → p.generation ≡ q.generation → j ≡ k

-- each claim was asked for when it was made
abbrev pub AreAsked : BoardValue → List Record → Type 0
AreAsked b past = (life : ℕ) (n : Node) (k : ℕ) (p : Claim) → HasNode b n
    → slice_get (claims b life n past) k ≡ Some p → p.asked ≡ true

-- A live claim on a domain has this depth.
pub record HasLive (b : BoardValue) (past : List Record) (n : Node) (depth : ℕ) : Type 0 where
  pub index : ℕ
  pub claim : Claim
  pub at : slice_get (live_claims b past n) index ≡ Some claim
  pub deep : claim.depth ≡ depth

-- in a life a domain that is not fully on has a live claim of its depth
abbrev pub AreClaimed : BoardValue → List Record → Type 0
AreClaimed b past = (life : ℕ) (n : Node) → HasNode b n
    → (controller_values b past).life ≡ Some life → 0 < depth_at b past n.level n.place
    → HasLive b past n (depth_at b past n.level n.place)

-- below a domain with a live claim no core executes
abbrev pub NoneExecutes : BoardValue → List Record → Type 0
NoneExecutes b past = (n : Node) (c k : ℕ) (p : Claim) → HasNode b n → c < cores b
    → up b n.level c ≡ n.place → slice_get (live_claims b past n) k ≡ Some p
    → executes (place b past c) ≡ true → ⊥

-- Refusals of the firmware, which no legal run has ------------------------------------------------

-- A core at its place is not refused.
pub record NoneRefused (b : BoardValue) (past : List Record) : Type 0 where
  -- a running core may call
  pub calls : (c : ℕ) → c < cores b → place b past c ≡ Running
      → call_fault b (firmware_values b past) c ≡ None
  -- a started core has a start, and may enter by it
  pub enters : (c : ℕ) → c < cores b → place b past c ≡ Started
      → (s : Start) × (last_start (controller_values b past) c ≡ Some s)
      × (enter_fault b (firmware_values b past) c s ≡ None)

-- Told hw -----------------------------------------------------------------------------------------
-- What NODE_HW_STATE tells: the core or domain that it says is off or in standby, and how deep that
-- was at some moment.

-- Told ----------------------------------------------------------------------------------------

-- the core or domain that a request asks the hardware state of
abbrev pub hw_asked_of : BoardValue → Request → Option Node
hw_asked_of b (NodeHwState level word) = node_of b word level
hw_asked_of b request = None

-- the core or domain that a record says is in this state: NODE_HW_STATE was asked of it, and
-- answered this (DEN0022D, NODE_HW_STATE: HW_OFF is 1, HW_STANDBY 2)
abbrev pub told_hw : BoardValue → ℕ → Event → Said → Option Node
told_hw b state (Call c regs) (Fw (acts.Return code) sent) =
    if int_eq code.0 (pos state) then hw_asked_of b (request_of regs) else None
told_hw b state event said = None

-- How deep ------------------------------------------------------------------------------------

-- powered down
abbrev pub is_off_depth : ℕ → Bool
is_off_depth depth = depth == power_down

-- in standby or retention
abbrev pub is_standby_depth : ℕ → Bool
is_standby_depth depth = depth == standby || depth == retention

-- in this life of the power controller, the sum of the starts below the domain is this, and the
-- domain has such a depth
abbrev pub is_so_deep : BoardValue → ℕ → ℕ → (ℕ → Bool) → List Record → Node → Bool
is_so_deep b life sum is past n =
    let v = controller_values b past in
    is_this_life v.life life && (starts_below b v.starts n == sum && is (v.depth n.level n.place))

-- it was so at some moment
unfoldable pub was_so_deep : BoardValue → ℕ → ℕ → (ℕ → Bool) → List Record → Node → Bool
was_so_deep b life sum is [] n = is_so_deep b life sum is [] n
was_so_deep b life sum is (r ∷ past) n =
    is_so_deep b life sum is (r ∷ past) n || was_so_deep b life sum is past n

-- the domain had such a depth at some moment of the firmware's life, since the last start of each
-- core below it that the firmware knows of and before any other
abbrev pub WasSoDeep : BoardValue → (ℕ → Bool) → List Record → Node → Type 0
WasSoDeep b is past n =
    was_so_deep b (firmware_values b past).life (known_starts b past n) is past n ≡ true

-- What AFFINITY_INFO tells: the cores of a domain that it says is OFF -----------------------------

-- the core or domain that a request asks the status of
abbrev pub asked_of : BoardValue → Request → Option Node
asked_of b (AffinityInfo level word) = node_of b word level
asked_of b request = None

-- the core or domain that a record says is OFF: AFFINITY_INFO was asked of it, and answered 1
-- (DEN0022D, AFFINITY_INFO)
abbrev pub told_off : BoardValue → Event → Said → Option Node
told_off b (Call c regs) (Fw (acts.Return code) sent) =
    if int_eq code.0 (pos 1) then asked_of b (request_of regs) else None
told_off b event said = None

-- no core below a domain runs, and each was powered down since it last went on
abbrev pub AllOff : BoardValue → List Record → Node → Type 0
AllOff b past n = (c : ℕ) → c < cores b → up b n.level c ≡ n.place
    → (place b past c ≡ Running → ⊥)
    × (was_powered_down b (firmware_values b past).life past c ≡ true)
