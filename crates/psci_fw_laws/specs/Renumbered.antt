-- The cores of a board told by other numbers: messages, replies, requests and values that say the
-- same of the renumbered cores. A renumbering gives each place of a level another place of the
-- level, and so each core, at level 0, another number.
use Rattle.std.specs.Prelude.{◌&&◌, ◌++◌, ◌+◌, ◌-◌, ◌<◌, ◌==◌, ◌||◌, ◌∷◌, ◌≡◌, ◌≤◌, ◌⊎◌, []}
use Rattle.std.specs.Prelude.{Bool, false, if◌then◌else◌, is_some, List, nat_le, nat_lt, None}
use Rattle.std.specs.Prelude.{option_map, slice_get, Some, suc, true, zero, ℕ}
use Rattle.psci_abi.specs.Calls.{request_of}
use Rattle.psci_abi.specs.declared.request.Request.{Request}
use Rattle.psci_abi.specs.declared.request.Request.TheVariants as requests
use Rattle.psci_board.specs.Board.{BoardValue, children_at, core_of, cores, first_child, node_of}
use Rattle.psci_board.specs.Board.{nodes, parent, up}
use Rattle.psci_board.specs.declared.draft.Core.{Core}
use Rattle.psci_board.specs.declared.draft.Node.{Node}
use Rattle.psci_messages.specs.Message.{AckValue, MessageValue}
use Rattle.psci_messages.specs.Slots.{answers, is_kind, OfCore, OfSystem, Slot, slot_of}
use Rattle.psci_messages.specs.declared.kind.Kind.TheVariants.{Down, Start}
use Rattle.psci_messages.specs.declared.part.Part.{Part}
use Rattle.psci_messages.specs.declared.start.Start as starts
use Rattle.psci_messages.specs.psci_state.Cores.{asks}
use Rattle.psci_fw_spec.specs.Changes.{in_life, PowerOn, Rest, target, with_arrival, with_phase}
use Rattle.psci_fw_spec.specs.Changes.{with_rest}
use Rattle.psci_fw_spec.specs.Effects.{Acknowledges, AsksOn, Effect, effect, Enters, FwExchange}
use Rattle.psci_fw_spec.specs.Effects.{GoesOn, Halts, Nothing, Parks, Rests, sent, SetsMode}
use Rattle.psci_fw_spec.specs.Effects.{Stops, StopsAtOnce}
use Rattle.psci_fw_spec.specs.Answer.{resumes}
use Rattle.psci_fw_spec.specs.History.{values_of}
use Rattle.psci_fw_spec.specs.Legal.{IsLegal}
use Rattle.psci_fw_spec.specs.Phases.{activity_of, Away, Pending, Running}
use Rattle.psci_fw_spec.specs.Values.{Values}
use Rattle.psci_fw_spec.specs.Invariant.{ask}
use Rattle.psci_fw_spec.specs.declared.call.FwCall.{FwCall}
use Rattle.psci_fw_spec.specs.declared.call.FwCall.TheVariants.{Enter, Smc, Take}
use Rattle.psci_fw_spec.specs.declared.mode.SuspendMode.TheVariants.{Platform}
use Rattle.psci_fw_spec.specs.declared.outcome.Outcome.{Outcome}
use Rattle.psci_fw_spec.specs.declared.reply.FwReply.{FwReply}
use Rattle.psci_fw_spec.specs.declared.reply.FwReply.TheVariants.{Fault, Out, Taken}
use Rattle.psci_fw_spec.specs.declared.status.Status.TheVariants.{Off}
use Rattle.psci_fw_laws.specs.Messages.{is_system, IsSound, known_on, part_for}

-- What was asked when a Down was sent -------------------------------------------------------------

-- No part of a Down is deeper than what the cores ask once its sender has stopped.
pub record IsAskedFor (b : BoardValue) (v : Values) (m : MessageValue) : Type 0 where
  -- its sender asks as much of the domain
  pub own : (level : ℕ) (p : Part) → slice_get m.parts level ≡ Some p
      → p.depth ≤ ask b v m.core.number level
  -- each core below the domain asks as much of itself
  pub below : (level c : ℕ) (p : Part) → slice_get m.parts level ≡ Some p → c < cores b
      → up b level c ≡ up b level m.core.number
      → p.depth ≤ ask b v c 0
  -- and in platform-coordinated mode of the domain
  pub least : v.mode ≡ Platform → (level c : ℕ) (p : Part) → slice_get m.parts level ≡ Some p
      → c < cores b → up b level c ≡ up b level m.core.number
      → p.depth ≤ ask b v c level

-- A Down of a history was asked for when it was sent.
pub record WasAsked (b : BoardValue) (h : List FwExchange) (m : MessageValue) : Type 0 where
  -- the exchange that sent it, with those since then and those before
  pub since : List FwExchange
  pub entry : FwExchange
  pub before : List FwExchange
  pub parts : since ++ (entry ∷ before) ≡ h
  pub legal : IsLegal b (entry ∷ before)
  pub sent : sent (effect b entry) ≡ Some m
  pub asked : IsAskedFor b (values_of b (entry ∷ before)) m

-- Allowed -----------------------------------------------------------------------------------------
-- What an answer comes down to: what holds of the effect of each legal reply, beside the values
-- before it.

-- Messages ------------------------------------------------------------------------------------

-- A message without parts that is sent in a life: a Start, an Off or a Reset.
pub record IsPlain (b : BoardValue) (v : Values) (m : MessageValue) : Type 0 where
  -- it is of the firmware's life, for a core of the board, with the core's known start
  pub life : 1 ≤ v.life
  pub present : m.life ≡ v.life
  pub core : m.core.number < cores b
  pub number : m.number ≡ v.known m.core.number
  pub limit : v.known m.core.number ≤ b.starts
  pub parts : m.parts ≡ []
  pub other : is_kind m.kind Down ≡ false

-- A Down that a core sends, beside the values once it has stopped.
pub record IsNewClaim (b : BoardValue) (v : Values) (m : MessageValue) : Type 0 where
  pub sound : IsSound b m
  pub kind : m.kind ≡ Down
  -- it is of the firmware's life, with its sender's known start
  pub present : m.life ≡ v.life
  pub number : m.number ≡ v.known m.core.number
  -- its claims are current
  pub current : (level : ℕ) (p : Part) → slice_get m.parts level ≡ Some p
      → p.generation ≡ known_on b v.known m.core.number level
  -- its sender is not pending, and no core below a domain that it claims runs
  pub rests : v.phase m.core.number ≡ Pending → ⊥
  pub quiet : (level place : ℕ) (p : Part) → part_for b v.life level place m ≡ Some p → (c : ℕ)
      → c < cores b → up b level c ≡ place → v.phase c ≡ Running → ⊥
  -- its first depth is what its sender asks of itself, and no depth is more than was asked
  pub asked : (p : Part) → slice_get m.parts 0 ≡ Some p
      → p.depth ≡ asks (activity_of (v.phase m.core.number)) 0
  pub fair : IsAskedFor b v m

-- Calls ---------------------------------------------------------------------------------------

-- A core of the board that runs in a life.
pub record IsCalling (b : BoardValue) (v : Values) (c : ℕ) : Type 0 where
  pub core : c < cores b
  pub begun : 0 < v.life
  pub runs : v.phase c ≡ Running

-- An accepted CPU_ON, in a life that is not halting: its target is off, and was started less often
-- than the start limit.
pub record IsAskedOn (b : BoardValue) (v : Values) (c : ℕ) (asked : PowerOn) : Type 0 where
  pub calls : IsCalling b v c
  pub awake : v.halting ≡ false
  pub off : v.status (target asked) ≡ Off
  pub away : v.phase (target asked) ≡ Away
  pub plain : IsPlain b v asked.message
  pub kind : asked.message.kind ≡ Start
  pub room : asked.message.number < b.starts

-- A core that stops with a claim, in a life that is not halting.
pub record IsResting (b : BoardValue) (v : Values) (c : ℕ) (rest : Rest) (m : MessageValue)
    : Type 0 where
  pub calls : IsCalling b v c
  pub awake : v.halting ≡ false
  pub core : m.core.number ≡ c
  -- it is suspended then, or away
  pub stops : rest.phase ≡ Running → ⊥
  pub waits : rest.phase ≡ Pending → ⊥
  pub claim : IsNewClaim b (with_rest c rest v) m

-- An accepted SYSTEM_OFF, SYSTEM_RESET or SYSTEM_RESET2, in a life that is not halting yet.
pub record IsHalting (b : BoardValue) (v : Values) (c : ℕ) (m : MessageValue) : Type 0 where
  pub calls : IsCalling b v c
  pub awake : v.halting ≡ false
  pub plain : IsPlain b v m
  pub system : is_system m.kind ≡ true

-- A core that calls in a halting life.
pub record IsStopping (b : BoardValue) (v : Values) (c : ℕ) : Type 0 where
  pub calls : IsCalling b v c
  pub halting : v.halting ≡ true

-- Entries -------------------------------------------------------------------------------------

-- A core of the board that enters by a start that is not over.
pub record IsEntering (b : BoardValue) (v : Values) (c : ℕ) (s : starts.Start) : Type 0 where
  pub core : c < cores b
  -- its life is one of the board, and no earlier one than the firmware's
  pub begun : 1 ≤ s.life
  pub lives : s.life ≤ b.lives
  pub life : v.life ≤ s.life
  -- its number is within the start limit, and in the firmware's life above the known start
  pub some : 0 < s.number
  pub most : s.number ≤ b.starts
  pub later : s.life ≡ v.life → v.known c < s.number

-- A core that enters and goes on: the life is not halting, and the core has an opening or resumes.
pub record IsGoingOn (b : BoardValue) (v : Values) (c : ℕ) (s : starts.Start) : Type 0 where
  pub enters : IsEntering b v c s
  pub awake : (in_life b s.life v).halting ≡ false
  pub asked : (is_some ((in_life b s.life v).opening c) || resumes (in_life b s.life v) c s) ≡ true

-- A core that parks: the life is not halting, and the core has no opening.
pub record IsParking (b : BoardValue) (v : Values) (c : ℕ) (s : starts.Start) (m : MessageValue)
    : Type 0 where
  pub enters : IsEntering b v c s
  pub awake : (in_life b s.life v).halting ≡ false
  pub none : (in_life b s.life v).opening c ≡ None
  pub core : m.core.number ≡ c
  pub claim : IsNewClaim b (with_phase c Away (with_arrival b c s v)) m

-- A core that enters in a halting life.
pub record IsStoppingAtOnce (b : BoardValue) (v : Values) (c : ℕ) (s : starts.Start) : Type 0 where
  pub enters : IsEntering b v c s
  pub halting : (in_life b s.life v).halting ≡ true

-- Acknowledgements ----------------------------------------------------------------------------

-- An acknowledgement of what is outstanding.
pub record IsAwaited (v : Values) (a : AckValue) : Type 0 where
  pub message : MessageValue
  pub at : v.outstanding (slot_of a.kind a.core) ≡ Some message
  pub answers : answers a message ≡ true

-- All -----------------------------------------------------------------------------------------

-- what holds of an effect of a legal reply
abbrev pub IsAllowed : BoardValue → Values → Effect → Type 0
IsAllowed b v Nothing = Unit {0}
IsAllowed b v (GoesOn c) = IsCalling b v c
IsAllowed b v (SetsMode c mode) = IsCalling b v c
IsAllowed b v (AsksOn c asked) = IsAskedOn b v c asked
IsAllowed b v (Rests c rest m) = IsResting b v c rest m
IsAllowed b v (Halts c m) = IsHalting b v c m
IsAllowed b v (Stops c) = IsStopping b v c
IsAllowed b v (Enters c s) = IsGoingOn b v c s
IsAllowed b v (Parks c s m) = IsParking b v c s m
IsAllowed b v (StopsAtOnce c s) = IsStoppingAtOnce b v c s
IsAllowed b v (Acknowledges a) = IsAwaited v a

-- Renumbered --------------------------------------------------------------------------------------

-- What a renumbering keeps of a board: each domain has its children, and each cluster its cores,
-- but in another order, as where two cores of a cluster are swapped, or two clusters with as many
-- cores.
pub record IsRenumbering (b : BoardValue) (s : ℕ → ℕ → ℕ) : Type 0 where
  -- it is its own inverse
  pub back : (level place : ℕ) → s level (s level place) ≡ place
  -- a node of the board stays one, and there are no others
  pub inside : (level place : ℕ)
      → nat_lt (s level place) (nodes b level) ≡ nat_lt place (nodes b level)
  -- the domains above a core are those above the other one, at their other places
  pub above : (level c : ℕ) → up b level (s 0 c) ≡ s level (up b level c)

-- two numbers are each other's, every other one is its own
abbrev pub swap : ℕ → ℕ → ℕ → ℕ
swap x y c = if c == x then y else (if c == y then x else c)

-- two cores have each other's number, and all domains above the cores stay where they are
abbrev pub swap_cores : ℕ → ℕ → ℕ → ℕ → ℕ
swap_cores x y zero place = swap x y place
swap_cores x y (suc level) place = place

-- two cores of the board stand in one domain of level 1, in one cluster
pub record AreSiblings (b : BoardValue) (x y : ℕ) : Type 0 where
  pub first : x < cores b
  pub second : y < cores b
  pub cluster : up b 1 x ≡ up b 1 y

-- the core has a place in this cluster, from its first core on
abbrev pub is_in_cluster : BoardValue → ℕ → ℕ → Bool
is_in_cluster b p c =
    nat_le (first_child b 1 p) c && nat_lt c (first_child b 1 p + children_at b 1 p)

-- the core that has the same place in another cluster
abbrev pub core_beside : BoardValue → ℕ → ℕ → ℕ → ℕ
core_beside b p q c = first_child b 1 q + (c - first_child b 1 p)

-- two clusters and their cores, from left to right, have each other's places and numbers, and all
-- domains above stay where they are
abbrev pub swap_clusters : BoardValue → ℕ → ℕ → ℕ → ℕ → ℕ
swap_clusters b p q zero c =
    if is_in_cluster b p c then core_beside b p q c
    else (if is_in_cluster b q c then core_beside b q p c else c)
swap_clusters b p q (suc zero) place = swap p q place
swap_clusters b p q (suc (suc level)) place = place

-- two clusters of the board have the same parent, or none, and as many cores
pub record AreTwins (b : BoardValue) (p q : ℕ) : Type 0 where
  pub first : p < nodes b 1
  pub second : q < nodes b 1
  pub cores : children_at b 1 p ≡ children_at b 1 q
  pub parent : parent b (record { level = 1; place = p })
      ≡ parent b (record { level = 1; place = q })

-- Messages and replies ------------------------------------------------------------------------

-- the core of the other number
abbrev pub core_by : (ℕ → ℕ → ℕ) → Core → Core
core_by s core = record { number = s 0 core.number }

-- a node at its other place
abbrev pub node_by : (ℕ → ℕ → ℕ) → Node → Node
node_by s n = record { level = n.level; place = s n.level n.place }

-- the same message, of the core's other number
abbrev pub message_by : (ℕ → ℕ → ℕ) → MessageValue → MessageValue
message_by s m = record m { core = core_by s m.core }

-- the same acknowledgement, of the core's other number
abbrev pub acknowledgement_by : (ℕ → ℕ → ℕ) → AckValue → AckValue
acknowledgement_by s a = record a { core = core_by s a.core }

-- the slot of the core's other number
abbrev pub slot_by : (ℕ → ℕ → ℕ) → Slot → Slot
slot_by s (OfCore c) = OfCore (s 0 c)
slot_by s OfSystem = OfSystem

-- the same act, with a message of the other number
abbrev pub outcome_by : (ℕ → ℕ → ℕ) → Outcome → Outcome
outcome_by s o = record { act = o.act; message = option_map (message_by s) o.message }

-- the same reply, with a message of the other number
abbrev pub reply_by : (ℕ → ℕ → ℕ) → FwReply → FwReply
reply_by s (Out o) = Out (outcome_by s o)
reply_by s (Taken t) = Taken t
reply_by s (Fault fault) = Fault fault

-- Calls -----------------------------------------------------------------------------------------

-- A request that asks of the renumbered cores what another one asks: an affinity word names the
-- core or domain of the other number, and all else is the same.
abbrev pub AsksBy : BoardValue → (ℕ → ℕ → ℕ) → Request → Request → Type 0
AsksBy b s (requests.CpuOn target entry_point context) r =
    (word : ℕ) × (core_of b word ≡ option_map (core_by s) (core_of b target))
    × (r ≡ requests.CpuOn word entry_point context)
AsksBy b s (requests.AffinityInfo level target) r =
    (word : ℕ) × (node_of b word level ≡ option_map (node_by s) (node_of b target level))
    × (r ≡ requests.AffinityInfo level word)
AsksBy b s (requests.NodeHwState level target) r =
    (word : ℕ) × (node_of b word level ≡ option_map (node_by s) (node_of b target level))
    × (r ≡ requests.NodeHwState level word)
AsksBy b s request r = r ≡ request

-- a call that tells of the renumbered cores what another one tells
abbrev pub CallsBy : BoardValue → (ℕ → ℕ → ℕ) → FwCall → FwCall → Type 0
CallsBy b s (Smc regs) (Smc r) = AsksBy b s (request_of regs) (request_of r)
CallsBy b s (Enter start) call = call ≡ Enter start
CallsBy b s (Take a) call = call ≡ Take (acknowledgement_by s a)
CallsBy b s call other = ⊥

-- A call begins no life after this one, or the boot core, core 0, has its own number: a life begins
-- with its boot core pending, and with power-down of all domains but those above it.
abbrev pub SparesBoot : (ℕ → ℕ → ℕ) → ℕ → FwCall → Type 0
SparesBoot s life (Enter start) = (start.life ≡ life) ⊎ (s 0 0 ≡ 0)
SparesBoot s life call = Unit {0}

-- Values ----------------------------------------------------------------------------------------

-- the same values, of the other numbers, by a renumbering that is its own inverse
abbrev pub values_by : (ℕ → ℕ → ℕ) → Values → Values
values_by s v = record {
  life = v.life;
  halting = v.halting;
  mode = v.mode;
  known = λ c. v.known (s 0 c);
  status = λ c. v.status (s 0 c);
  phase = λ c. v.phase (s 0 c);
  opening = λ c. v.opening (s 0 c);
  granted = λ level place. v.granted level (s level place);
  confirmed = λ level place. v.confirmed level (s level place);
  outstanding = λ slot. option_map (message_by s) (v.outstanding (slot_by s slot));
}

-- Histories -------------------------------------------------------------------------------------

-- a call of the other core, with its reply
pub record ExchangedBy (b : BoardValue) (s : ℕ → ℕ → ℕ) (e f : FwExchange) : Type 0 where
  pub core : f.core ≡ s 0 e.core
  pub call : CallsBy b s e.call f.call
  pub reply : f.reply ≡ reply_by s e.reply

-- the same calls in the same order, with their replies, told of the renumbered cores
abbrev pub HappenedBy : BoardValue → (ℕ → ℕ → ℕ) → List FwExchange → List FwExchange → Type 0
HappenedBy b s [] [] = Unit {0}
HappenedBy b s (e ∷ h) (f ∷ g) = ExchangedBy b s e f × HappenedBy b s h g
HappenedBy b s h g = ⊥
