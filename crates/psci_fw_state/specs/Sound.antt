-- Which values are such as the firmware keeps on its board: what is decided of a loaded state.
use Rattle.std.specs.Prelude.{ℕ, ◌==◌, ◌+◌, ◌&&◌, ◌||◌, not, nat_le, Bool, true, false, is_some}
use Rattle.std.specs.List.{list_all, range_with_len}
use Rattle.psci_board.specs.Board.{BoardValue, cores, height, up}
use Rattle.psci_messages.specs.View.{domain_of, is_all_away, least_ask}
use Rattle.psci_state.specs.PowerState.{highest_of, power_down}
use Rattle.psci_fw_spec.specs.declared.mode.SuspendMode.{SuspendMode}
use Rattle.psci_fw_spec.specs.declared.mode.SuspendMode.TheVariants.{Platform, OsInitiated}
use Rattle.psci_fw_spec.specs.Invariant.{agrees, ask, is_expected, view}
use Rattle.psci_fw_spec.specs.Phases.{Phase}
use Rattle.psci_fw_spec.specs.Phases as phases
use Rattle.psci_fw_spec.specs.Values.{Values}

-- whether both hold, or neither
abbrev pub is_same : Bool → Bool → Bool
is_same true b = b
is_same false b = not b

-- whether the power domains are coordinated by the platform
abbrev pub is_platform : SuspendMode → Bool
is_platform Platform = true
is_platform OsInitiated = false

-- a suspended core asks nothing above the board's height
abbrev pub is_low : BoardValue → Phase → Bool
is_low b phases.Pending = true
is_low b phases.Running = true
is_low b (phases.Suspended ask) = nat_le (highest_of ask) (height b)
is_low b phases.Away = true

-- a depth for a domain, by who coordinates, whether all cores below are away, and their least ask:
-- power-down where all are away, and that least ask where the platform coordinates
abbrev pub is_depth : SuspendMode → Bool → ℕ → ℕ → Bool
is_depth mode away asked depth =
    (not away || depth == power_down) && (not (is_platform mode) || depth == asked)

-- a domain on the path of a core is granted such a depth
abbrev pub is_domain_awake : BoardValue → Values → ℕ → ℕ → Bool
is_domain_awake b v c level =
    let n = domain_of b c level in
    is_depth v.mode (is_all_away b (view b v) n) (least_ask b (view b v) n)
    (v.granted level (up b level c))

-- so is each domain on its path
abbrev pub is_path_awake : BoardValue → Values → ℕ → Bool
is_path_awake b v c = list_all (is_domain_awake b v c) (range_with_len 0 (height b + 1))

-- an opening waits for a core exactly where it goes on at one, it is granted what it asks of
-- itself, and so are the domains on its path
abbrev pub is_core_awake : BoardValue → Values → ℕ → Bool
is_core_awake b v c =
    is_same (is_some (v.opening c)) (is_expected (v.phase c))
    && (v.granted 0 c == ask b v c 0 && is_path_awake b v c)

-- a core was started as often as the board allows at most, its status and phase agree, and it is
-- granted no more than it asks of itself
abbrev pub is_core_kept : BoardValue → Values → ℕ → Bool
is_core_kept b v c =
    nat_le (v.known c) b.starts && (agrees (v.status c) (v.phase c)
    && (is_low b (v.phase c) && nat_le (v.granted 0 c) (ask b v c 0)))

-- and while the life is not halting, more holds of it
abbrev pub is_core_sound : BoardValue → Values → ℕ → Bool
is_core_sound b v c = is_core_kept b v c && (v.halting || is_core_awake b v c)

-- each core is sound
abbrev pub is_sound : BoardValue → Values → Bool
is_sound b v = list_all (is_core_sound b v) (range_with_len 0 (cores b))
