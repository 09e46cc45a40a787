-- Safe: what holds at every moment, that is, after all records so far, the newest first.
use Rattle.std.specs.List.{list_all, list_any, sum_by}
use Rattle.std.specs.Prelude.{◌&&◌, ◌++◌, ◌<◌, ◌==◌, ◌||◌, ◌∷◌, ◌≡◌, ◌≤◌, [], Bool, false}
use Rattle.std.specs.Prelude.{filter, if◌then◌else◌, IsSome, length, List, nat_le, nat_lt, None}
use Rattle.std.specs.Prelude.{not, Option, option_and_then, option_map, slice_get, Some, true, ℕ}
use Rattle.psci_world_spec.specs.Legal.{controller_values, firmware_history, firmware_values}
use Rattle.psci_world_spec.specs.Legal.{place, sent_in}
use Rattle.psci_world_spec.specs.declared.event.Event.{Event}
use Rattle.psci_world_spec.specs.declared.event.Event.TheVariants.{Call, Enter}
use Rattle.psci_world_spec.specs.declared.place.Place.{Place}
use Rattle.psci_world_spec.specs.declared.place.Place.TheVariants.{Running, Started, Stopped}
use Rattle.psci_world_spec.specs.declared.said.Record.{Record}
use Rattle.psci_world_spec.specs.declared.said.Said.{Said}
use Rattle.psci_world_spec.specs.declared.said.Said.TheVariants.{Fw}
use Rattle.psci_world_spec.specs.psci_ctl_spec.Replies.{is_this_life}
use Rattle.psci_world_spec.specs.psci_ctl_spec.Values.{starts_below}
use Rattle.psci_fw_laws.specs.Messages.{part_for}
use Rattle.psci_fw_laws.specs.psci_abi.Calls.{request_of}
use Rattle.psci_fw_laws.specs.psci_abi.declared.request.Request.{Request}
use Rattle.psci_fw_laws.specs.psci_abi.declared.request.Request.TheVariants.{CpuOn}
use Rattle.psci_fw_laws.specs.psci_board.Board.{below, BoardValue, core_of, cores, HasNode}
use Rattle.psci_fw_laws.specs.psci_board.Board.{height, is_on_path, up}
use Rattle.psci_fw_laws.specs.psci_board.declared.draft.Node.{Node}
use Rattle.psci_fw_laws.specs.psci_fw_spec.Effects.{Arrival, arrived, AsksOn, Effect, effect}
use Rattle.psci_fw_laws.specs.psci_fw_spec.Effects.{FwExchange, listed, Rests}
use Rattle.psci_fw_laws.specs.psci_fw_spec.History.{life}
use Rattle.psci_fw_laws.specs.psci_fw_spec.Changes.{start_of_life}
use Rattle.psci_fw_laws.specs.psci_fw_spec.NodeHwState.{hw_at, hw_code, node_hw}
use Rattle.psci_fw_laws.specs.psci_fw_spec.PowerCalls.{is_off_status}
use Rattle.psci_fw_laws.specs.psci_fw_spec.Values.{Values}
use Rattle.psci_fw_laws.specs.psci_fw_spec.Invariant.{ask}
use Rattle.psci_fw_laws.specs.psci_fw_spec.declared.call.FwCall.{FwCall}
use Rattle.psci_fw_laws.specs.psci_fw_spec.declared.call.FwCall.TheVariants as calls
use Rattle.psci_fw_laws.specs.psci_fw_spec.declared.hw.Hw.{Hw}
use Rattle.psci_fw_laws.specs.psci_fw_spec.declared.mode.SuspendMode.{SuspendMode}
use Rattle.psci_fw_laws.specs.psci_fw_spec.declared.mode.SuspendMode.TheVariants.{OsInitiated}
use Rattle.psci_fw_laws.specs.psci_fw_spec.declared.mode.SuspendMode.TheVariants.{Platform}
use Rattle.psci_fw_laws.specs.psci_fw_spec.declared.opening.Opening.{Opening}
use Rattle.psci_fw_laws.specs.psci_fw_spec.declared.outcome.Act.{Act}
use Rattle.psci_fw_laws.specs.psci_fw_spec.declared.outcome.Act.TheVariants as acts
use Rattle.psci_fw_laws.specs.psci_fw_spec.declared.reply.FwReply.{FwReply}
use Rattle.psci_fw_laws.specs.psci_fw_spec.declared.reply.FwReply.TheVariants as replies
use Rattle.psci_fw_laws.specs.psci_messages.Message.{MessageValue}
use Rattle.psci_fw_laws.specs.psci_messages.declared.part.Part.{Part}
use Rattle.psci_fw_laws.specs.psci_messages.psci_state.PowerState.{power_down}

-- The claims on a power domain in a life, each with whether its cores had asked for it ------------

-- A claim on a domain.
pub record Claim : Type 0 where
  -- how deep the domain shall be
  pub depth : ℕ
  -- the sum of the known starts below the domain, when the claim was made
  pub generation : ℕ
  -- the cores below had asked for it then
  pub asked : Bool

-- What was asked ------------------------------------------------------------------------------

-- every core below a domain asks at least this depth at this level
abbrev pub all_ask : BoardValue → Values → Node → ℕ → ℕ → Bool
all_ask b v n depth level = list_all (λ c. nat_le depth (ask b v c level)) (below b n)

-- the cores below a domain ask for a claim of this core: in platform-coordinated mode each of them
-- asks at least that depth of the domain; in OS-initiated mode the claiming core does, and each of
-- them asks at least that depth of itself
abbrev pub asks_by : SuspendMode → BoardValue → Values → Node → ℕ → ℕ → Bool
asks_by Platform b v n core depth = all_ask b v n depth n.level
asks_by OsInitiated b v n core depth = nat_le depth (ask b v core n.level) && all_ask b v n depth 0

-- Claims --------------------------------------------------------------------------------------

-- the claim that the start of a life makes on a domain: power-down, off the boot core's path
abbrev pub first_claims : BoardValue → ℕ → Node → List Claim
first_claims b life n =
    if is_on_path b 0 n.level n.place then [] else record {
      depth = power_down;
      generation = 0;
      asked = all_ask b (start_of_life b life) n power_down n.level;
    } ∷ []

-- the claim of a part that a core sends, when the firmware's values are these once it has stopped
abbrev pub claim_by : BoardValue → Values → Node → ℕ → Part → Claim
claim_by b v n core p = record {
  depth = p.depth;
  generation = p.generation;
  asked = asks_by v.mode b v n core p.depth;
}

-- the claim that a message makes on a domain in a life, if it makes one
abbrev pub claim_in : BoardValue → ℕ → Values → Node → MessageValue → Option Claim
claim_in b life v n m =
    option_map (λ p. claim_by b v n m.core.number p) (part_for b life n.level n.place m)

-- all claims on a domain in a life, the newest first
unfoldable pub claims : BoardValue → ℕ → Node → List Record → List Claim
claims b life n [] = first_claims b life n
claims b life n (r ∷ past) =
    listed (option_and_then (λ m. claim_in b life (firmware_values b (r ∷ past)) n m)
    (sent_in r.said))
    ++ claims b life n past

-- Live claims ---------------------------------------------------------------------------------

-- those claims of a life that are live where the controller's starts are these: no core below was
-- started since the claim was made, and none had been started before without having entered
abbrev pub live_in : BoardValue → (ℕ → ℕ) → Node → List Record → Option ℕ → List Claim
live_in b starts n past None = []
live_in b starts n past (Some life) =
    filter (λ k. k.generation == starts_below b starts n) (claims b life n past)

-- the live claims on a domain: those of the power controller's life that are live; none without one
unfoldable pub live_claims : BoardValue → List Record → Node → List Claim
live_claims b past n =
    let v = controller_values b past in live_in b v.starts n past v.life

-- Hardware ----------------------------------------------------------------------------------------
-- The hardware states of domains: what the firmware says of them, and how deep they really were.

-- both are the same state
abbrev pub is_hw : Hw → Hw → Bool
is_hw one other = hw_code one == hw_code other

-- the state that NODE_HW_STATE says of a domain
abbrev pub said_hw : BoardValue → List Record → Node → Hw
said_hw b past n = node_hw (firmware_values b past) n

-- a core has entered in some life, and NODE_HW_STATE says of the domain that it is off or in
-- standby
abbrev pub is_said_asleep : BoardValue → List Record → Node → Bool
is_said_asleep b past n =
    nat_lt 0 (firmware_values b past).life && not (hw_code (said_hw b past n) == 0)

-- the sum of the starts below a domain that the firmware knows of
abbrev pub known_starts : BoardValue → List Record → Node → ℕ
known_starts b past n = sum_by (firmware_values b past).known (below b n)

-- in this life of the power controller, the sum of the starts below the domain is this, and the
-- domain is as deep as in this state
abbrev pub is_in_state : BoardValue → ℕ → ℕ → Hw → List Record → Node → Bool
is_in_state b life sum hw past n =
    let v = controller_values b past in
    is_this_life v.life life
    && (starts_below b v.starts n == sum && is_hw (hw_at (v.depth n.level n.place)) hw)

-- it was so at some moment
unfoldable pub was_in_state : BoardValue → ℕ → ℕ → Hw → List Record → Node → Bool
was_in_state b life sum hw [] n = is_in_state b life sum hw [] n
was_in_state b life sum hw (r ∷ past) n =
    is_in_state b life sum hw (r ∷ past) n || was_in_state b life sum hw past n

-- the domain was in the state that is said of it, at some moment of the firmware's life, since the
-- last start of each core below it that the firmware knows of and before any other
abbrev pub was_as_said : BoardValue → List Record → Node → Bool
was_as_said b past n =
    was_in_state b (firmware_values b past).life (known_starts b past n) (said_hw b past n) past n

-- Moments: what is so after all records so far, and what was so at some moment before -------------

-- a core executes while it is started or running
abbrev pub executes : Place → Bool
executes Started = true
executes Running = true
executes Stopped = false

-- how deep the domain of a level and place is
abbrev pub depth_at : BoardValue → List Record → ℕ → ℕ → ℕ
depth_at b past level place = (controller_values b past).depth level place

-- Reported OFF ---------------------------------------------------------------------------------

-- a core has entered in some life, and in the last one such AFFINITY_INFO says OFF of this core
abbrev pub is_reported_off : BoardValue → List Record → ℕ → Bool
is_reported_off b past c =
    let v = firmware_values b past in nat_lt 0 v.life && is_off_status (v.status c)

-- in this life of the power controller, the core is powered down
abbrev pub is_powered_down : BoardValue → ℕ → List Record → ℕ → Bool
is_powered_down b life past c =
    is_this_life (controller_values b past).life life && depth_at b past 0 c == power_down

-- a core goes on as one that entered: at an opening, or after its suspend
abbrev pub enters_or_resumes_by : Act → Bool
enters_or_resumes_by (acts.Return code) = false
enters_or_resumes_by acts.Stop = false
enters_or_resumes_by (acts.Enter address context) = true
enters_or_resumes_by acts.Resume = true

-- this core entered and goes on, or a function told it to, as none shall
abbrev pub enters_or_resumes : ℕ → Event → Said → Bool
enters_or_resumes c (Enter d) (Fw act sent) = c == d && enters_or_resumes_by act
enters_or_resumes c (Call d regs) (Fw act sent) = c == d && enters_or_resumes_by act
enters_or_resumes c event said = false

-- at some moment of a life the core was powered down, and it has not gone on since in that life
unfoldable pub was_powered_down : BoardValue → ℕ → List Record → ℕ → Bool
was_powered_down b life [] c = is_powered_down b life [] c
was_powered_down b life (r ∷ past) c =
    is_powered_down b life (r ∷ past) c
    || (not (enters_or_resumes c r.event r.said && (firmware_values b (r ∷ past)).life == life)
    && was_powered_down b life past c)

-- Openings ----------------------------------------------------------------------------------------
-- Openings, and the entries that took them up. A history has its newest exchange first.

-- Openings ------------------------------------------------------------------------------------

-- What made an opening: the start of a life, or the call with so many exchanges before it.
pub data Maker : Type 0 where
  OfLife : (life : ℕ) → Maker
  OfCall : (before : ℕ) → Maker

-- An opening that was made.
pub record Made : Type 0 where
  pub maker : Maker
  -- for this core, in this life
  pub core : ℕ
  pub life : ℕ
  -- where the core goes on
  pub opening : Opening

-- an opening for a core, if it is one
abbrev pub made_at : Maker → ℕ → ℕ → Option Opening → Option Made
made_at maker c life opening =
    option_map (λ o. record { maker = maker; core = c; life = life; opening = o }) opening

-- the core that a request asks on: the one that a CPU_ON's affinity word names
abbrev pub named_in : BoardValue → Request → Option ℕ
named_in b (CpuOn word entry_point context) = option_map (λ c. c.number) (core_of b word)
named_in b request = None

-- the core that a call asks on
abbrev pub core_asked : BoardValue → FwCall → Option ℕ
core_asked b (calls.Smc regs) = named_in b (request_of regs)
core_asked b call = None

-- the opening that a call made in a life, after so many entries: an accepted CPU_ON for the core
-- that it named, whatever was sent; a power-down suspend for its caller
abbrev pub made_by : BoardValue → ℕ → ℕ → FwCall → Effect → Option Made
made_by b before life call (AsksOn c asked) =
    option_and_then (λ t. made_at (OfCall before) t life (Some asked.opening)) (core_asked b call)
made_by b before life call (Rests c rest m) = made_at (OfCall before) c life rest.opening
made_by b before life call e = None

-- the opening of the boot core, made as a core enters in another life than this
abbrev pub made_for_boot : BoardValue → ℕ → Option Arrival → Option Made
made_for_boot b before None = None
made_for_boot b before (Some a) =
    if a.start.life == before then None
    else made_at (OfLife a.start.life) 0 a.start.life
    (Some (record { address = b.boot; context = 0 }))

-- all openings that were made, the newest first
unfoldable pub openings : BoardValue → List FwExchange → List Made
openings b [] = []
openings b (e ∷ h) =
    listed (made_by b (length h) (life b h) e.call (effect b e))
    ++ (listed (made_for_boot b (life b h) (arrived (effect b e))) ++ openings b h)

-- Entries -------------------------------------------------------------------------------------

-- A core that entered at an address, with a context id, by a start of a life.
pub record EnteredAt : Type 0 where
  pub core : ℕ
  pub life : ℕ
  pub opening : Opening

-- where a core entered in a life that was told to do this
abbrev pub entered_to : ℕ → ℕ → Act → Option EnteredAt
entered_to c life (acts.Enter address context) = Some (record {
  core = c;
  life = life;
  opening = record { address = address; context = context };
})
entered_to c life act = None

-- where a core entered by a call with this reply, if it did: in the life of its start, or in the
-- life before the call where a function is answered an entry, as none shall be
abbrev pub entered_by : ℕ → ℕ → FwCall → FwReply → Option EnteredAt
entered_by before c (calls.Enter s) (replies.Out o) = entered_to c s.life o.act
entered_by before c (calls.Smc regs) (replies.Out o) = entered_to c before o.act
entered_by before c call reply = None

-- the newest opening that was made for a core in a life
abbrev pub newest : ℕ → ℕ → List Made → Option Made
newest c life made = slice_get (filter (λ m. m.core == c && m.life == life) made) 0

-- An entry, with the opening that it took up: the newest one of its core and life.
pub record TakenUp : Type 0 where
  pub entered : EnteredAt
  pub made : Option Made

-- all entries at an address, with what they took up, the newest first
unfoldable pub taken_up : BoardValue → List FwExchange → List TakenUp
taken_up b [] = []
taken_up b (e ∷ h) =
    listed (option_map (λ x. record {
      entered = x;
      made = newest x.core x.life (openings b (e ∷ h));
    }) (entered_by (life b h) e.core e.call e.reply))
    ++ taken_up b h

-- One entry for each opening ------------------------------------------------------------------

-- An entry took up an opening of its own core and life, with its address and context id.
pub record Fits (t : TakenUp) (m : Made) : Type 0 where
  pub core : m.core ≡ t.entered.core
  pub life : m.life ≡ t.entered.life
  pub opening : m.opening ≡ t.entered.opening

-- Each entry takes up an opening that was made before, and no two take up the same one.
pub record AreTakenUp (b : BoardValue) (h : List FwExchange) : Type 0 where
  pub each : (k : ℕ) (t : TakenUp) → slice_get (taken_up b h) k ≡ Some t
      → (m : Made) × (t.made ≡ Some m) × Fits t m
  pub once : (j k : ℕ) (t u : TakenUp) (m n : Made) → slice_get (taken_up b h) j ≡ Some t
      → slice_get (taken_up b h) k ≡ Some u → t.made ≡ Some m → u.made ≡ Some n
      → m.maker ≡ n.maker → j ≡ k

-- Safe --------------------------------------------------------------------------------------------

-- No core below a sleeping domain: while a core executes, each domain on its path is fully on.
abbrev pub NoneBelowSleeping : BoardValue → List Record → Type 0
NoneBelowSleeping b past = (c level : ℕ) → c < cores b → level ≤ height b
    → executes (place b past c) ≡ true
    → depth_at b past level (up b level c) ≡ 0

-- A core that is reported OFF does not run, and since it last went on in the firmware's life it was
-- powered down.
abbrev pub OffIsDown : BoardValue → List Record → Type 0
OffIsDown b past = (c : ℕ) → c < cores b → is_reported_off b past c ≡ true
    → (place b past c ≡ Running → ⊥)
    × (was_powered_down b (firmware_values b past).life past c ≡ true)

-- One live claim: each domain has at most one.
abbrev pub OneLiveClaim : BoardValue → List Record → Type 0
OneLiveClaim b past = (n : Node) → HasNode b n → length (live_claims b past n) ≤ 1

-- No deeper than asked: while there is a life, a domain that is not fully on is as deep as a live
-- claim on it says, which its cores had asked for when it was made.
abbrev pub NoDeeperThanAsked : BoardValue → List Record → Type 0
NoDeeperThanAsked b past = (n : Node) → HasNode b n
    → IsSome (controller_values b past).life → 0 < depth_at b past n.level n.place
    → list_any (λ k. k.depth == depth_at b past n.level n.place && k.asked) (live_claims b past n)
    ≡ true

-- Reported states were real: a domain that NODE_HW_STATE says is off was powered down at some
-- moment of this life, by the starts that the firmware knows of; one that it says is in standby was
-- in standby or retention.
abbrev pub StatesWereReal : BoardValue → List Record → Type 0
StatesWereReal b past = (n : Node) → HasNode b n → is_said_asleep b past n ≡ true
    → was_as_said b past n ≡ true

-- The world is safe at this moment.
pub record Safe (b : BoardValue) (past : List Record) : Type 0 where
  pub powered : NoneBelowSleeping b past
  pub off : OffIsDown b past
  pub one : OneLiveClaim b past
  pub asked : NoDeeperThanAsked b past
  -- each entry takes up one opening of its core and life, with its address and context id, and no
  -- two take up the same one
  pub entries : AreTakenUp b (firmware_history b past)
  pub states : StatesWereReal b past

-- The world was safe at every moment of these records.
abbrev pub AlwaysSafe : BoardValue → List Record → Type 0
AlwaysSafe b [] = Safe b []
AlwaysSafe b (r ∷ past) = Safe b (r ∷ past) × AlwaysSafe b past
