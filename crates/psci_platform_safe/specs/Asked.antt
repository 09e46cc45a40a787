-- What the cores of a platform ask of their power domains, and the claim that took a domain down.
use Rattle.std.specs.Prelude.{◌++◌, ◌∷◌, ◌≡◌, ◌≤◌, ◌⊎◌, [], List, Option, option_map}
use Rattle.std.specs.Prelude.{slice_index, Some, unwrap_or, ℕ}
use Rattle.psci_headline.specs.Safe.{depth_at}
use Rattle.psci_headline.specs.psci_board.Board.{cores, height, up}
use Rattle.psci_headline.specs.psci_board.declared.draft.Node.{Node}
use Rattle.psci_headline.specs.psci_ctl_spec.Values.{starts_below}
use Rattle.psci_headline.specs.psci_fw_laws.Messages.{part_for}
use Rattle.psci_headline.specs.psci_fw_spec.Invariant.{ask}
use Rattle.psci_headline.specs.psci_fw_spec.declared.mode.SuspendMode.{SuspendMode}
use Rattle.psci_headline.specs.psci_fw_spec.declared.mode.SuspendMode.TheVariants.{OsInitiated}
use Rattle.psci_headline.specs.psci_fw_spec.declared.mode.SuspendMode.TheVariants.{Platform}
use Rattle.psci_headline.specs.psci_messages.Message.{MessageValue}
use Rattle.psci_headline.specs.psci_messages.declared.part.Part.{Part}
use Rattle.psci_headline.specs.psci_world_spec.Legal.{controller_values, firmware_values}
use Rattle.psci_headline.specs.psci_world_spec.Legal.{IsLegalPast, legal, sent_in}
use Rattle.psci_headline.specs.psci_world_spec.declared.event.Event.{Event}
use Rattle.psci_headline.specs.psci_world_spec.declared.event.Event.TheVariants.{Call, Enter}
use Rattle.psci_headline.specs.psci_world_spec.declared.event.Event.TheVariants.{Reset, Wake}
use Rattle.psci_headline.specs.psci_world_spec.declared.said.Record.{Record}
use Rattle.psci_headline.specs.psci_world_spec.declared.said.Said.{Said}
use Rattle.psci_headline.specs.psci_world_spec.declared.said.Said.TheVariants.{Acked, Fw}
use Rattle.psci_headline.specs.psci_world_spec.declared.said.Sent.{Sent}
use Rattle.psci_platform.specs.Calls.{regs_for}
use Rattle.psci_platform.specs.Cores.{core_named, number_named}
use Rattle.psci_platform.specs.Platforms.{PlatformValue}
use Rattle.psci_platform.specs.States.{depth_at as class_depth, states_of}
use Rattle.psci_platform.specs.Swaps.{swap_for}
use Rattle.psci_platform.specs.psci_fw_laws.Renumbered.{acknowledgement_by, message_by}
use Rattle.psci_platform.specs.psci_state.PowerState.{power_down}

-- Names -------------------------------------------------------------------------------------------
-- Cores and power domains of a platform by their MPIDRs, and the firmware's numbers for them.

-- a core of the platform has this MPIDR
abbrev pub IsCore : PlatformValue → ℕ → Type 0
IsCore p mpidr = (place : ℕ) × (core_named p.description p.board mpidr 0 ≡ Some place)

-- the firmware's number for the core with an MPIDR; past the last core where no core has it
abbrev pub number : PlatformValue → ℕ → ℕ
number p mpidr = unwrap_or (number_named p.description p.board p.place mpidr 0) (cores p.board)

-- the MPIDR of the core for which the firmware has a number
abbrev pub mpidr_of : PlatformValue → ℕ → ℕ
mpidr_of p c = slice_index p.description.mpidrs (swap_for p.board p.place 0 c)

-- the domain of a level above the core with an MPIDR, as the firmware names it; at level 0 the core
abbrev pub domain_above : PlatformValue → ℕ → ℕ → Node
domain_above p mpidr level = record { level = level; place = up p.board level (number p mpidr) }

-- two cores stand below one domain of a level
abbrev pub AreBeside : PlatformValue → ℕ → ℕ → ℕ → Type 0
AreBeside p mpidr level other =
    IsCore p other × (domain_above p other level ≡ domain_above p mpidr level)

-- What AFFINITY_INFO and NODE_HW_STATE ask of by a word and a level: the domain of the level above
-- the first core, in the order of the tree, whose MPIDR has the fields of the word from the level
-- up. Fields below the level are not looked at.
abbrev pub node_asked : PlatformValue → ℕ → ℕ → Option Node
node_asked p word level =
    option_map (λ c. record { level = level; place = up p.board level c })
    (number_named p.description p.board p.place word level)

-- The core with an MPIDR is the one that is asked of, or stands below the domain that is.
pub record IsAskedOf (p : PlatformValue) (word level mpidr : ℕ) : Type 0 where
  pub core : IsCore p mpidr
  pub domain : node_asked p word level ≡ Some (domain_above p mpidr level)

-- Words -------------------------------------------------------------------------------------------
-- What happens to a platform, and what is said of it, in the platform's words: in an event or a
-- record each core has its MPIDR in place of a number, and a call has the registers that its caller
-- gave. The firmware and the power controller behind the platform have their own words.

-- Events --------------------------------------------------------------------------------------

-- The event of the firmware and the power controller for one of the platform, where the firmware is
-- in this mode: a call has the registers that the firmware is called with. A message or an
-- acknowledgement goes by how many came before it, here and there.
abbrev pub event_for : PlatformValue → SuspendMode → Event → Event
event_for p mode (Call mpidr regs) =
    Call (number p mpidr) (regs_for p.description p.board p.place mode regs)
event_for p mode (Enter mpidr) = Enter (number p mpidr)
event_for p mode (Wake mpidr) = Wake (number p mpidr)
event_for p mode (Reset mpidr) = Reset (number p mpidr)
event_for p mode event = event

-- the event for one of the platform after some records in the firmware's words
abbrev pub event_after : PlatformValue → List Record → Event → Event
event_after p before event = event_for p (firmware_values p.board before).mode event

-- What is said ----------------------------------------------------------------------------------

-- a message, by the firmware's number for its core
abbrev pub sent_in_numbers : PlatformValue → Sent → Sent
sent_in_numbers p s = record s { message = message_by (λ level. number p) s.message }

-- what was said of an event, as the firmware and the power controller say it: a message or an
-- acknowledgement names its core by the firmware's number
abbrev pub said_in_numbers : PlatformValue → Said → Said
said_in_numbers p (Fw act sent) = Fw act (option_map (sent_in_numbers p) sent)
said_in_numbers p (Acked index ack) = Acked index (acknowledgement_by (λ level. number p) ack)
said_in_numbers p said = said

-- The records of a platform in the words of the firmware and the power controller. The newest
-- record comes first, here and there.
unfoldable pub numbered : PlatformValue → List Record → List Record
numbered p [] = []
numbered p (r ∷ past) = record {
  event = event_after p (numbered p past) r.event;
  said = said_in_numbers p r.said;
} ∷ numbered p past

-- records in the platform's words are legal where those of the firmware and the power controller
-- are: of each event that is said which the definitions give
abbrev pub IsLegalOn : PlatformValue → List Record → Type 0
IsLegalOn p past = IsLegalPast p.board (numbered p past)

-- Runs ------------------------------------------------------------------------------------------

-- a message, with the MPIDR of its core
abbrev pub sent_for : PlatformValue → Sent → Sent
sent_for p s = record s { message = message_by (λ level. mpidr_of p) s.message }

-- what the firmware and the power controller say, in the platform's words
abbrev pub said_for : PlatformValue → Said → Said
said_for p (Fw act sent) = Fw act (option_map (sent_for p) sent)
said_for p (Acked index ack) = Acked index (acknowledgement_by (λ level. mpidr_of p) ack)
said_for p said = said

-- what is legal to say of an event after these records, in the platform's words
abbrev pub legal_for : PlatformValue → List Record → Event → Said
legal_for p past event =
    said_for p (legal p.board (numbered p past) (event_after p (numbered p past) event))

-- the records of these events, the first event first, after a past, with what is legal to say
unfoldable pub run_on : PlatformValue → List Record → List Event → List Record
run_on p past [] = past
run_on p past (event ∷ events) =
    run_on p (record { event = event; said = legal_for p past event } ∷ past) events

-- Asked -------------------------------------------------------------------------------------------

-- the suspend mode of the firmware
abbrev pub mode_of : PlatformValue → List Record → SuspendMode
mode_of p past = (firmware_values p.board (numbered p past)).mode

-- the life of the firmware
abbrev pub life_of : PlatformValue → List Record → ℕ
life_of p past = (firmware_values p.board (numbered p past)).life

-- how deep the domain of a level above a core is
abbrev pub depth_above : PlatformValue → List Record → ℕ → ℕ → ℕ
depth_above p past mpidr level =
    let n = domain_above p mpidr level in depth_at p.board (numbered p past) n.level n.place

-- the depth that a core asks of its domain of a level; `law_asks_on` says which, by its word
abbrev pub asks : PlatformValue → List Record → ℕ → ℕ → ℕ
asks p past mpidr level = ask p.board (firmware_values p.board (numbered p past)) (number p mpidr)
    level

-- What a core asks once a record has suspended it by a word: the word has states in this mode, and
-- of each level of the board the core asks the depth of the level's state.
pub record AsksByWord (p : PlatformValue) (r : Record) (past : List Record) (mpidr word : ℕ)
    : Type 0 where
  pub states : List ℕ
  pub row : states_of p.description (mode_of p past) word ≡ Some states
  pub asked : (level : ℕ) → level ≤ height p.board → asks p (r ∷ past) mpidr level
      ≡ class_depth p.description level (slice_index states level)

-- each core below the domain of a level asks at least this depth of its domain of another level
abbrev pub AllAsk : PlatformValue → List Record → ℕ → ℕ → ℕ → ℕ → Type 0
AllAsk p past mpidr level depth at =
    (other : ℕ) → AreBeside p mpidr level other → depth ≤ asks p past other at

-- The cores below a domain ask for what a core claims of it. In platform-coordinated mode each
-- of them asks at least that depth of the domain; in OS-initiated mode the claiming core does, and
-- each of them asks at least that depth of itself.
abbrev pub AskFor : SuspendMode → PlatformValue → List Record → ℕ → ℕ → ℕ → ℕ → Type 0
AskFor Platform p past claimer mpidr level depth = AllAsk p past mpidr level depth level
AskFor OsInitiated p past claimer mpidr level depth =
    (depth ≤ asks p past claimer level) × AllAsk p past mpidr level depth 0

-- A Down of this life, for which the cores below the domain above a core asked: the moment at which
-- it was sent, and its part for the domain.
pub record WasAskedFor (p : PlatformValue) (past : List Record) (mpidr level life depth : ℕ)
    : Type 0 where
  pub later : List Record
  pub r : Record
  pub before : List Record
  pub split : past ≡ later ++ (r ∷ before)
  pub message : MessageValue
  pub sent : sent_in (said_in_numbers p r.said) ≡ Some message
  pub part : Part
  pub has : part_for p.board life level (domain_above p mpidr level).place message ≡ Some part
  -- the domain is as deep, and no core below was started since
  pub deep : part.depth ≡ depth
  pub live : part.generation ≡ starts_below p.board
      (controller_values p.board (numbered p past)).starts (domain_above p mpidr level)
  -- once the core has stopped they ask for it
  pub asked : AskFor (mode_of p (r ∷ before)) p (r ∷ before) (mpidr_of p message.core.number) mpidr
      level depth

-- What the start of a life takes down: each domain but those above the boot core, and no core below
-- was started since.
pub record IsFromStart (p : PlatformValue) (past : List Record) (mpidr level depth : ℕ)
    : Type 0 where
  pub off_path : AreBeside p mpidr level p.boot → ⊥
  pub deep : depth ≡ power_down
  pub live : starts_below p.board (controller_values p.board (numbered p past)).starts
      (domain_above p mpidr level) ≡ 0

-- the domain above a core is taken down so deep in this life as it was asked
abbrev pub IsAsAsked : PlatformValue → List Record → ℕ → ℕ → ℕ → ℕ → Type 0
IsAsAsked p past mpidr level life depth =
    WasAskedFor p past mpidr level life depth ⊎ IsFromStart p past mpidr level depth
