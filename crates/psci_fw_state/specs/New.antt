-- Which values are those of a new firmware: before any core has entered, as a life begins.
use Rattle.std.specs.Prelude.{◌&&◌, ◌+◌, ◌==◌, Bool, false, if◌then◌else◌, is_some, None, not}
use Rattle.std.specs.Prelude.{Option, Some, true, ℕ}
use Rattle.std.specs.List.{list_all, range_with_len}
use Rattle.psci_board.specs.Board.{BoardValue, cores, height, is_path_place, nodes}
use Rattle.psci_state.specs.PowerState.{power_down, running}
use Rattle.psci_fw_spec.specs.declared.opening.Opening.{Opening}
use Rattle.psci_fw_spec.specs.declared.status.Status.{Status}
use Rattle.psci_fw_spec.specs.declared.status.Status.TheVariants.{On, Off, Pending}
use Rattle.psci_fw_spec.specs.Phases.{Phase, is_away}
use Rattle.psci_fw_spec.specs.Values.{Values}
use Rattle.psci_fw_state.specs.Seen.{is_pending_phase, message_shown}
use Rattle.psci_fw_state.specs.Sound.{is_platform}

-- the status of a core as a life begins: the boot core is ON_PENDING, each other one OFF
abbrev pub is_first_status : ℕ → Status → Bool
is_first_status c On = false
is_first_status c Off = not (c == 0)
is_first_status c Pending = c == 0

-- its phase: the boot core is on its way, each other one away
abbrev pub is_first_phase : ℕ → Phase → Bool
is_first_phase c phase = if c == 0 then is_pending_phase phase else is_away phase

-- where it goes on: the boot core at the board's boot address, with context id 0
abbrev pub is_first_opening : BoardValue → ℕ → Option Opening → Bool
is_first_opening b c None = not (c == 0)
is_first_opening b c (Some o) = c == 0 && (o.address == b.boot && o.context == 0)

-- a core as a life begins, which has not started in it
abbrev pub is_first_core : BoardValue → Values → ℕ → Bool
is_first_core b v c =
    v.known c == 0 && (is_first_status c (v.status c)
    && (is_first_phase c (v.phase c) && is_first_opening b c (v.opening c)))

-- what a domain was granted, and whether it is confirmed, by whether it is on the path of the boot
-- core: nothing on it, and beside it power-down, which is confirmed
abbrev pub are_first_depths : Bool → ℕ → Bool → Bool
are_first_depths true granted confirmed = granted == running && not confirmed
are_first_depths false granted confirmed = granted == power_down && confirmed

-- a domain of the board as a life begins
abbrev pub is_first_domain : BoardValue → Values → ℕ → ℕ → Bool
is_first_domain b v level place =
    are_first_depths (is_path_place b 0 level place) (v.granted level place)
    (v.confirmed level place)

-- so is each domain of a level
abbrev pub is_first_level : BoardValue → Values → ℕ → Bool
is_first_level b v level =
    list_all (is_first_domain b v level) (range_with_len 0 (nodes b level))

-- no message waits for the core of this number, nor of the system at the number of cores
abbrev pub is_silent : BoardValue → Values → ℕ → Bool
is_silent b v number = not (is_some (message_shown b v number))

-- no core has entered yet, and all is as a life begins
abbrev pub is_new : BoardValue → Values → Bool
is_new b v =
    v.life == 0 && (not v.halting && (is_platform v.mode
    && (list_all (is_first_core b v) (range_with_len 0 (cores b))
    && (list_all (is_first_level b v) (range_with_len 0 (height b + 1))
    && list_all (is_silent b v) (range_with_len 0 (cores b + 1))))))
