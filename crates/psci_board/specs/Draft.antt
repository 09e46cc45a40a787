-- The faults of a board, in the order in which they are told, whoever gives it.
use Rattle.std.specs.Prelude.{ℕ, ◌^◌, ◌-◌, ◌||◌, ◌&&◌, not, Bool, List, Option, Some, None}
use Rattle.std.specs.Prelude.{Result, Ok, Err, nat_lt, nat_le, if◌then◌else◌}
use Rattle.std.specs.List.{list_any}
use Rattle.psci_board.specs.declared.draft.TheConstants.{MOST_CORES, MOST_LIVES, MOST_RANGES}
use Rattle.psci_board.specs.declared.tree_text.AddressRange.{AddressRange}
use Rattle.psci_board.specs.declared.draft.BoardDraft.{BoardDraft}
use Rattle.psci_board.specs.declared.fault.BoardFault.{BoardFault}
use Rattle.psci_board.specs.declared.fault.BoardFault.TheVariants.{Uneven, TooWide, TooManyCores}
use Rattle.psci_board.specs.declared.fault.BoardFault.TheVariants.{BadRange, BadBoot, BadLimit}
use Rattle.psci_board.specs.Board.{BoardValue}

-- there are more ranges than there may be, of which these are the first, or one holds no address
abbrev pub has_bad_range : ℕ → List AddressRange → Bool
has_bad_range many rs = nat_lt MOST_RANGES many || list_any (λ r. nat_le r.end r.start) rs

-- a limit of 1 up to this one
abbrev pub is_limit : ℕ → ℕ → Bool
is_limit most n = nat_lt 0 n && nat_le n most

-- the faults in their order
unfoldable pub first_fault : BoardDraft → Option BoardFault
first_fault d =
    if d.is_uneven then Some Uneven
    else (if d.is_too_wide then Some TooWide
    else (if nat_lt MOST_CORES d.cores then Some TooManyCores
    else (if d.has_bad_range then Some BadRange
    else (if not d.may_boot then Some BadBoot
    else (if not (is_limit (2 ^ 32 - 1) d.starts && is_limit MOST_LIVES d.lives) then Some BadLimit
    else None)))))

-- a board, unless there is a fault
abbrev pub unless : Option BoardFault → BoardValue → Result BoardValue BoardFault
unless None b = Ok b
unless (Some fault) b = Err fault
