-- How the world settles: which events happen, in turn. The link delivers each message once, and
-- each acknowledgement.
use Rattle.std.specs.List.{AllPass, list_any, range_with_len}
use Rattle.std.specs.Prelude.{◌&&◌, ◌++◌, ◌+◌, ◌<◌, ◌==◌, ◌∷◌, ◌≡◌, ◌≤◌, ◌⊎◌, [], Bool, false}
use Rattle.std.specs.Prelude.{filter, if◌then◌else◌, is_some, length, List, None, Option}
use Rattle.std.specs.Prelude.{option_and_then, slice_get, Some, suc, true, zero, ℕ}
use Rattle.psci_board.specs.Board.{BoardValue, cores, HasNode, height, up}
use Rattle.psci_board.specs.declared.draft.Node.{Node}
use Rattle.psci_ctl_spec.specs.Values as controlled
use Rattle.psci_ctl_spec.specs.Values.{first_depth, starts_below}
use Rattle.psci_ctl_spec.specs.psci_messages.Message.{AckValue, MessageValue}
use Rattle.psci_ctl_spec.specs.psci_messages.Slots.{answers, is_kind, OfCore, OfSystem, Slot}
use Rattle.psci_ctl_spec.specs.psci_messages.declared.kind.Kind.{Kind}
use Rattle.psci_ctl_spec.specs.psci_messages.declared.kind.Kind.TheVariants.{Down, Start}
use Rattle.psci_ctl_spec.specs.psci_messages.declared.part.Part.{Part}
use Rattle.psci_headline.specs.psci_fw_laws.Messages.{known_on}
use Rattle.psci_headline.specs.psci_fw_spec.Changes.{in_life}
use Rattle.psci_headline.specs.psci_fw_spec.Phases.{Pending, Phase}
use Rattle.psci_headline.specs.psci_fw_spec.Values.{Values}
use Rattle.psci_headline.specs.psci_world_spec.Legal.{acks, controller_values, firmware_values}
use Rattle.psci_headline.specs.psci_world_spec.Legal.{indexed, IsLegalPast, legal_record, place}
use Rattle.psci_headline.specs.psci_world_spec.Legal.{sent}
use Rattle.psci_headline.specs.psci_world_spec.declared.event.Event.{Event}
use Rattle.psci_headline.specs.psci_world_spec.declared.event.Event.TheVariants.{Call, Deliver}
use Rattle.psci_headline.specs.psci_world_spec.declared.event.Event.TheVariants.{Enter, Reset}
use Rattle.psci_headline.specs.psci_world_spec.declared.event.Event.TheVariants.{Take, Wake}
use Rattle.psci_headline.specs.psci_world_spec.declared.place.Place.{Place}
use Rattle.psci_headline.specs.psci_world_spec.declared.place.Place.TheVariants.{Running}
use Rattle.psci_headline.specs.psci_world_spec.declared.place.Place.TheVariants.{Started}
use Rattle.psci_headline.specs.psci_world_spec.declared.place.Place.TheVariants.{Stopped}
use Rattle.psci_headline.specs.psci_world_spec.declared.said.Record.{Record}

-- What holds once the world has settled -----------------------------------------------------------

-- an entry, a delivery or a taken acknowledgement
abbrev pub is_settling : Event → Bool
is_settling (Call c regs) = false
is_settling (Enter c) = true
is_settling (Wake c) = false
is_settling (Reset c) = false
is_settling (Deliver k) = true
is_settling (Take k) = true

-- the message of this number is delivered
abbrev pub delivers : ℕ → Event → Bool
delivers k (Deliver j) = k == j
delivers k event = false

-- how often the message of this number is delivered by these records
abbrev pub deliveries : ℕ → List Record → ℕ
deliveries k added = length (filter (λ r. delivers k r.event) added)

-- A Down that is delivered so often.
pub record IsDelivered (past added : List Record) (most : ℕ) : Type 0 where
  pub number : ℕ
  pub message : MessageValue
  pub at : indexed (sent past) number ≡ Some message
  pub kind : message.kind ≡ Down
  pub times : deliveries number added ≡ most

-- Firmware and power controller agree: nothing is outstanding, no core waits at its start, and each
-- domain is as deep as it was granted.
pub record AreAtRest (b : BoardValue) (past : List Record) : Type 0 where
  pub own : (c : ℕ) → c < cores b → (firmware_values b past).outstanding (OfCore c) ≡ None
  pub system : (firmware_values b past).outstanding OfSystem ≡ None
  pub entered : (c : ℕ) → c < cores b → place b past c ≡ Started → ⊥
  pub agree : (n : Node) → HasNode b n → (firmware_values b past).granted n.level n.place
      ≡ (controller_values b past).depth n.level n.place

-- The world has settled after these records more, in so many rounds.
pub record IsSettled (b : BoardValue) (before added : List Record) (rounds : ℕ) : Type 0 where
  pub legal : IsLegalPast b (added ++ before)
  pub events : AllPass (λ r. is_settling r.event) added
  pub rest : AreAtRest b (added ++ before)
  pub few : rounds ≤ height b + 1
  -- the rounds are the most deliveries that one Down has
  pub most : (k : ℕ) (m : MessageValue) → indexed (sent (added ++ before)) k ≡ Some m
      → m.kind ≡ Down → deliveries k added ≤ rounds
  pub some : 0 < rounds → IsDelivered (added ++ before) added rounds

-- Settling ----------------------------------------------------------------------------------------

-- Halting -------------------------------------------------------------------------------------

-- there is no life, or SYSTEM_OFF, SYSTEM_RESET or SYSTEM_RESET2 was accepted in it
abbrev pub halts_in : BoardValue → List Record → Option ℕ → Bool
halts_in b past None = true
halts_in b past (Some life) = (in_life b life (firmware_values b past)).halting

-- the world comes to no rest by itself: it halts, or has
abbrev pub is_halting : BoardValue → List Record → Bool
is_halting b past = halts_in b past (controller_values b past).life

-- Events --------------------------------------------------------------------------------------

-- the records with one event more
abbrev pub step : BoardValue → List Record → Event → List Record
step b past event = legal_record b past event ∷ past

-- a step of each of these cores in turn
abbrev pub each_core : (List Record → ℕ → List Record) → List ℕ → List Record → List Record
each_core does [] past = past
each_core does (c ∷ cs) past = each_core does cs (does past c)

-- all cores, in the order of their numbers
abbrev pub all_cores : BoardValue → List ℕ
all_cores b = range_with_len 0 (cores b)

-- a core is at its start
abbrev pub is_started : Place → Bool
is_started Started = true
is_started Running = false
is_started Stopped = false

-- a core enters, if it is started
abbrev pub entering : BoardValue → List Record → ℕ → List Record
entering b past c = if is_started (place b past c) then step b past (Enter c) else past

-- both messages have one name: kind, core, life and number
abbrev pub has_name : MessageValue → MessageValue → Bool
has_name m n = is_kind m.kind n.kind
    && (m.core.number == n.core.number && (m.life == n.life && m.number == n.number))

-- the number of the newest message with this name, among those that were sent, the newest first
abbrev pub index_of : MessageValue → List MessageValue → Option ℕ
index_of m [] = None
index_of m (n ∷ ns) = if has_name m n then Some (length ns) else index_of m ns

-- the message of some number is delivered, and its acknowledgement taken
abbrev pub serving : BoardValue → List Record → Option ℕ → List Record
serving b past None = past
serving b past (Some k) =
    let delivered = step b past (Deliver k) in step b delivered (Take (length (acks past)))

-- what is outstanding for a core is served so, if it is of such a kind
abbrev pub served : BoardValue → (Kind → Bool) → List Record → ℕ → List Record
served b which past c = serving b past
    (option_and_then (λ m. if which m.kind then index_of m (sent past) else None)
    ((firmware_values b past).outstanding (OfCore c)))

-- All events ----------------------------------------------------------------------------------

-- a Start
abbrev pub is_start : Kind → Bool
is_start kind = is_kind kind Start

-- a message of any kind
abbrev pub is_any : Kind → Bool
is_any kind = true

-- every started core enters, every Start that is outstanding is served, and the cores that this
-- started enter
unfoldable pub begun : BoardValue → List Record → List Record
begun b past =
    let entered = each_core (entering b) (all_cores b) past in
    let started = each_core (served b is_start) (all_cores b) entered in
    each_core (entering b) (all_cores b) started

-- every outstanding message of a core is served once
unfoldable pub round : BoardValue → List Record → List Record
round b past = each_core (served b is_any) (all_cores b) past

-- some message is outstanding
unfoldable pub is_waiting : BoardValue → List Record → Bool
is_waiting b past =
    list_any (λ c. is_some ((firmware_values b past).outstanding (OfCore c))) (all_cores b)

-- What is reached: the records, and after how many rounds.
pub record Reached : Type 0 where
  pub past : List Record
  pub rounds : ℕ

-- at most so many rounds more, while a message is outstanding
unfoldable pub rounds : BoardValue → ℕ → List Record → ℕ → Reached
rounds b zero past n = record { past = past; rounds = n }
rounds b (suc more) past n =
    if is_waiting b past then rounds b more (round b past) (n + 1)
    else record { past = past; rounds = n }

-- where the world comes to rest
unfoldable pub settled : BoardValue → List Record → Reached
settled b past = rounds b (height b + 1) (begun b past) 0

-- Waiting -----------------------------------------------------------------------------------------
-- What waits: claims that are not carried out yet, and the messages that will bring it about.

-- a part of a message is live, in the life of the message: its generation counts every start below
-- its domain
abbrev pub IsLivePart : BoardValue → (ℕ → ℕ) → MessageValue → ℕ → Part → Type 0
IsLivePart b starts m level p = p.generation ≡ known_on b starts m.core.number level

-- A Down of this life is carried out as far as it is live, or it is outstanding, or its core
-- was asked on since.
abbrev pub IsPursued : BoardValue → (ℕ → ℕ) → (ℕ → ℕ → ℕ) → (ℕ → Phase)
    → (Slot → Option MessageValue) → MessageValue → Type 0
IsPursued b starts depth phase outstanding m =
    (level : ℕ) (p : Part) → slice_get m.parts level ≡ Some p → IsLivePart b starts m level p
    → (depth level (up b level m.core.number) ≡ p.depth)
    ⊎ ((outstanding (OfCore m.core.number) ≡ Some m) ⊎ (phase m.core.number ≡ Pending))

-- The Start of a core is outstanding.
pub record AwaitsStart (outstanding : Slot → Option MessageValue) (c : ℕ) : Type 0 where
  pub message : MessageValue
  pub at : outstanding (OfCore c) ≡ Some message
  pub kind : message.kind ≡ Start

-- What an acknowledgement of this life still says: the parts that were applied have their
-- depth while they are live; where it is stale no other part is live; and a core whose Start was
-- acknowledged was started.
pub record IsTold (b : BoardValue) (starts : ℕ → ℕ) (depth : ℕ → ℕ → ℕ) (a : AckValue)
    (m : MessageValue) : Type 0 where
  pub answers : answers a m ≡ true
  pub few : m.kind ≡ Down → a.applied ≤ length m.parts
  pub applied : m.kind ≡ Down → (level : ℕ) (p : Part) → level < a.applied
      → slice_get m.parts level ≡ Some p → IsLivePart b starts m level p
      → depth level (up b level m.core.number) ≡ p.depth
  pub stale : m.kind ≡ Down → a.stale ≡ true → (level : ℕ) (p : Part) → a.applied ≤ level
      → slice_get m.parts level ≡ Some p → IsLivePart b starts m level p → ⊥
  pub started : m.kind ≡ Start → m.number < starts m.core.number

-- an acknowledgement is of a message that was sent, and says this of it
pub record WasTold (b : BoardValue) (starts : ℕ → ℕ) (depth : ℕ → ℕ → ℕ) (a : AckValue)
    (sent : List MessageValue) : Type 0 where
  pub index : ℕ
  pub message : MessageValue
  pub at : slice_get sent index ≡ Some message
  pub told : IsTold b starts depth a message

-- an acknowledgement has the name of a message that was sent
pub record IsNamed (a : AckValue) (sent : List MessageValue) : Type 0 where
  pub index : ℕ
  pub message : MessageValue
  pub at : slice_get sent index ≡ Some message
  pub answers : answers a message ≡ true

-- What holds in a life of the power controller, of the firmware's values as a core finds them that
-- enters in it: said of the fields that it reads.
pub record AreWaiting (b : BoardValue) (life : ℕ) (starts : ℕ → ℕ) (depth : ℕ → ℕ → ℕ)
    (halting : Bool) (known : ℕ → ℕ) (phase : ℕ → Phase) (outstanding : Slot → Option MessageValue)
    (sent : List MessageValue) (made : List AckValue) : Type 0 where
  pub pursued : (k : ℕ) (m : MessageValue) → slice_get sent k ≡ Some m → m.life ≡ life
      → m.kind ≡ Down → IsPursued b starts depth phase outstanding m
  -- a domain below which no core was started in this life is as deep as at its start
  pub first : (n : Node) → HasNode b n → starts_below b starts n ≡ 0
      → depth n.level n.place ≡ first_depth b n.level n.place
  -- a core that is pending and whose last start is known waits for its Start
  pub asked : halting ≡ false → (c : ℕ) → c < cores b → phase c ≡ Pending → starts c ≡ known c
      → AwaitsStart outstanding c
  pub named : (k : ℕ) (a : AckValue) → slice_get made k ≡ Some a → IsNamed a sent
  pub told : (k : ℕ) (a : AckValue) → slice_get made k ≡ Some a → a.life ≡ life
      → WasTold b starts depth a sent

-- the same of these values
abbrev pub WaitingIn : BoardValue → ℕ → controlled.Values → Values → List MessageValue
    → List AckValue → Type 0
WaitingIn b life w v sent made =
    AreWaiting b life w.starts w.depth v.halting v.known v.phase v.outstanding sent made

-- the same after these records
abbrev pub Waiting : BoardValue → List Record → Type 0
Waiting b past = (life : ℕ) → (controller_values b past).life ≡ Some life
    → WaitingIn b life (controller_values b past) (in_life b life (firmware_values b past))
    (sent past) (acks past)
