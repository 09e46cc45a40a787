-- What the machine is seen as, and what holds of it.
use Rattle.std.specs.Prelude.{◌<◌, ◌==◌, ◌∷◌, ◌≡◌, [], if◌then◌else◌, length, List, None, Option}
use Rattle.std.specs.Prelude.{reverse, slice_index_or, Some, unwrap_or, ℕ}
use Rattle.psci_world_spec.specs.Legal.{acks, call, control, controller_values, firmware_values}
use Rattle.psci_world_spec.specs.Legal.{IsLegalPast, place, place_controlled, place_said, sent}
use Rattle.psci_world_spec.specs.declared.event.Event.{Event}
use Rattle.psci_world_spec.specs.declared.place.Place.{Place}
use Rattle.psci_world_spec.specs.declared.place.Place.TheVariants.{Running, Started, Stopped}
use Rattle.psci_world_spec.specs.declared.said.Record.{Record}
use Rattle.psci_world_spec.specs.declared.said.Said.{Said}
use Rattle.psci_world_spec.specs.declared.said.Said.TheVariants.{Absent, Ignored}
use Rattle.psci_ctl.specs.Seen as controller
use Rattle.psci_ctl.specs.Seen.{ControllerValue, seen as seen_controller}
use Rattle.psci_ctl.specs.psci_ctl_spec.Replies as changes
use Rattle.psci_ctl.specs.psci_ctl_spec.Values as controls
use Rattle.psci_ctl.specs.psci_ctl_spec.declared.kick.Kick.{Kick}
use Rattle.psci_ctl.specs.psci_ctl_spec.declared.kick.Kick.TheVariants.{Ignored as NotKicked}
use Rattle.psci_ctl.specs.psci_ctl_spec.declared.kick.Kick.TheVariants.{Started as Kicked}
use Rattle.psci_fw.specs.Reactions as firmware
use Rattle.psci_fw.specs.Reactions.{FirmwareValue, seen as seen_firmware}
use Rattle.psci_fw.specs.psci_board.Board.{BoardValue, cores, IsBoard}
use Rattle.psci_fw.specs.psci_fw_spec.Effects.{after}
use Rattle.psci_fw.specs.psci_fw_spec.Effects as answers
use Rattle.psci_fw.specs.psci_fw_spec.Values as kept
use Rattle.psci_fw.specs.psci_messages.Message.{AckValue, MessageValue}
use Rattle.psci_fw.specs.psci_messages.declared.start.Start.{Start}

-- The machine, as contracts see it.
pub record MachineValue : Type 0 where
  pub firmware : FirmwareValue
  pub controller : ControllerValue
  -- of each core, in the order of their numbers
  pub places : List Place

-- the board of a machine
abbrev pub machine_board : MachineValue → BoardValue
machine_board m = m.firmware.board

-- the place of the core of this number
abbrev pub place_in : List Place → ℕ → Place
place_in places c = slice_index_or places c Stopped

-- what holds of every machine: both parts are of one board, which has a place for each core
pub record IsMachine (m : MachineValue) : Type 0 where
  pub board : IsBoard (machine_board m)
  pub same : m.controller.board ≡ machine_board m
  pub places : length m.places ≡ cores (machine_board m)

-- The machine of a board after these records.
pub record IsAfter (b : BoardValue) (past : List Record) (m : MachineValue) : Type 0 where
  pub board : machine_board m ≡ b
  pub firmware : firmware.seen m.firmware ≡ firmware_values b past
  pub controller : controller.seen m.controller ≡ controller_values b past
  pub places : (c : ℕ) → c < cores b → place_in m.places c ≡ place b past c

-- What is said of an event by the values before it, and what the event leaves of them -------------

-- What is said ---------------------------------------------------------------------------------

-- a started core enters by its last start
abbrev pub if_entering : Place → Option Start → (Start → Said) → Said
if_entering Started (Some start) says = says start
if_entering Started None says = Ignored
if_entering Running start says = Ignored
if_entering Stopped start says = Ignored

-- this is said of a message or an acknowledgement that there is, and else that there is none
abbrev pub if_there : {A : Type 0} → Option A → (A → Said) → Said
if_there None says = Absent
if_there (Some x) says = says x

-- What is left ---------------------------------------------------------------------------------

-- what the firmware keeps after these exchanges, newest first, by what it kept before them
abbrev pub kept_after : BoardValue → List answers.FwExchange → kept.Values → kept.Values
kept_after b [] v = v
kept_after b (e ∷ es) v = after b e.core e.call e.reply (kept_after b es v)

-- the same of the power controller
abbrev pub controlled_after : BoardValue → List controls.CtlExchange → controls.Values
    → controls.Values
controlled_after b [] v = v
controlled_after b (e ∷ es) v = changes.after b e.call e.reply (controlled_after b es v)

-- where a core is after an event, by the exchanges that it adds to the controller's history, and by
-- where it was before
abbrev pub place_next : BoardValue → ℕ → Event → Said → List controls.CtlExchange → Place → Place
place_next b c event said es before =
    unwrap_or (place_said c event said) (unwrap_or (place_controlled b c es) before)

-- where a core is after a wake-up or a reset of some core, by where it was before
abbrev pub place_kicked : ℕ → Kick → ℕ → Place → Place
place_kicked core (Kicked start) c before = if c == core then Started else before
place_kicked core NotKicked c before = before

-- A machine that was the old one before an event of which this is said. The lists of messages and
-- of acknowledgements before it have the oldest first.
pub record IsNext (messages : List MessageValue) (made : List AckValue) (old : MachineValue)
    (event : Event) (said : Said) (new : MachineValue) : Type 0 where
  pub board : machine_board new ≡ machine_board old
  pub firmware : seen_firmware new.firmware ≡ kept_after (machine_board old)
      (call (seen_controller old.controller) (reverse made) event said)
      (seen_firmware old.firmware)
  pub controller : seen_controller new.controller ≡ controlled_after (machine_board old)
      (control (seen_controller old.controller) (reverse messages) event said)
      (seen_controller old.controller)
  pub places : (c : ℕ) → c < cores (machine_board old)
      → place_in new.places c ≡ place_next (machine_board old) c event said
      (control (seen_controller old.controller) (reverse messages) event said)
      (place_in old.places c)

-- What the present of a world is seen as, and what holds of it ------------------------------------

-- The present, as contracts see it: the machine, and all messages and acknowledgements so far,
-- oldest first.
pub record PresentValue : Type 0 where
  pub machine : MachineValue
  pub messages : List MessageValue
  pub acks : List AckValue

-- The present of a board after these records, newest first: they are a legal past, the machine is
-- as after them, and there are all messages and acknowledgements of theirs.
pub record IsPresent (b : BoardValue) (past : List Record) (p : PresentValue) : Type 0 where
  pub legal : IsLegalPast b past
  pub machine : IsAfter b past p.machine
  pub messages : p.messages ≡ reverse (sent past)
  pub acks : p.acks ≡ reverse (acks past)

-- What holds of every present: it has a past, on the board of its machine.
pub record HasPast (p : PresentValue) : Type 0 where
  pub past : List Record
  pub is : IsPresent (machine_board p.machine) past p
