-- What C reads of a firmware, and gets of its place for one who polls.
use Rattle.std.specs.Prelude.{if◌then◌else◌, ◌-◌, ◌^◌, ◌≡◌, ◌⊎◌, Bool, IsSomeAnd, None, Option}
use Rattle.std.specs.Prelude.{Some, false, nat_le, pos, slice_get, true, unwrap_or, ℕ, ℤ}
use Rattle.psci_board.specs.Board.{BoardValue, has_node, height, nodes}
use Rattle.psci_board.specs.declared.draft.Node.{Node}
use Rattle.psci_fw.specs.Reactions.{FirmwareValue, hw_shown, seen, status_shown}
use Rattle.psci_fw_spec.specs.declared.fault.FwFault.TheVariants.{NoCore}
use Rattle.psci_platform.specs.Cores.{number_named}
use Rattle.psci_platform.specs.Platforms.{PlatformValue}
use Rattle.psci_platform.specs.Swaps.{moved, swap_for}
use Rattle.psci_ffi.specs.Codes.{hw_number, no_firmware, no_memory, refusal, status_code}
use Rattle.psci_ffi.specs.Namings.{HasPolled, IsWatchOf, PlaceValue, WatchView}
use Rattle.psci_ffi.specs.Slots.{Kept, KeptWatch}

-- what is said of a core or power domain, by whether the board has it
abbrev pub node_said : Bool → ℕ → ℕ
node_said false said = refusal NoCore
node_said true said = said

-- the status of a core or power domain
abbrev pub status_said : FirmwareValue → Node → ℕ
status_said f node = node_said (has_node f.board node) (status_code (status_shown f node))

-- the granted depth of a power domain
abbrev pub granted_said : FirmwareValue → Node → ℕ
granted_said f node =
    node_said (has_node f.board node) ((seen f).granted node.level node.place)

-- the hardware state of a core or power domain
abbrev pub hw_said : FirmwareValue → Node → ℕ
hw_said f node = node_said (has_node f.board node) (hw_number (hw_shown f node))

-- how many cores or power domains a board has on a level: none above the system
abbrev pub nodes_said : BoardValue → ℕ → ℕ
nodes_said b level = if nat_le level (height b) then nodes b level else 0

-- the number of the core with this MPIDR; a number that no core has where there is none
abbrev pub core_in : Option PlatformValue → ℕ → ℕ
core_in None mpidr = 0xffff
core_in (Some m) mpidr = unwrap_or (number_named m.description m.board m.place mpidr 0) 0xffff

-- the MPIDR of this core; all ones where there is none
abbrev pub mpidr_in : Option PlatformValue → ℕ → ℕ
mpidr_in None core = 2 ^ 64 - 1
mpidr_in (Some m) core =
    unwrap_or (slice_get m.description.mpidrs (swap_for m.board m.place 0 core)) (2 ^ 64 - 1)

-- the place in the order of the tree of a core or power domain of the firmware; its own without a
-- machine
abbrev pub place_in : Option PlatformValue → Node → ℕ
place_in None n = n.place
place_in (Some m) n = (moved m.board m.place n).place

-- One who polls -----------------------------------------------------------------------------------

-- what was said of filling a poller with one who polls, and what is in it then
abbrev pub IsFilledWith : WatchView → ℕ → KeptWatch → KeptWatch → Type 0
IsFilledWith w said old new =
    ((said ≡ 0) × (new ≡ Some w)) ⊎ ((said ≡ no_memory) × (new ≡ old))

-- what was said of opening a poller of this firmware, and what is in it then: one who polls, or for
-- want of memory what was there
abbrev pub IsOpenedFor : PlaceValue → ℕ → KeptWatch → KeptWatch → Type 0
IsOpenedFor f said old new =
    ((said ≡ 0) × IsSomeAnd new (IsWatchOf f)) ⊎ ((said ≡ no_memory) × (new ≡ old))

-- the same of a place; of an empty one no poller is opened
abbrev pub OpensPoller : Kept → ℕ → KeptWatch → KeptWatch → Type 0
OpensPoller None said old new = (said ≡ no_firmware) × (new ≡ old)
OpensPoller (Some f) said old new = IsOpenedFor f said old new

-- what a poll of the core that the word names answers, and what it leaves; an empty poller has none
abbrev pub HasPolledIn : KeptWatch → ℕ → ℤ → KeptWatch → Type 0
HasPolledIn None word code left = (code ≡ pos no_firmware) × (left ≡ None)
HasPolledIn (Some w) word code left = IsSomeAnd left (HasPolled w word (record { 0 = code }))
