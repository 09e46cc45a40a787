-- Worked examples: a machine of two clusters whose MPIDRs are no places, and what an opening leaves
-- in its place.
use Rattle.std.specs.Prelude.{Err, None, Ok, Option, Some}
use Rattle.std.proofs.Common.{◌++◌, ◌∷◌, ◌≡◌, Bool, List, [], ap, arith, false, refl, replicate}
use Rattle.std.proofs.Common.{true, ℕ}
use Rattle.psci_abi.specs.declared.registers.Format.TheVariants.{Original}
use Rattle.psci_board.specs.Board.{BoardValue}
use Rattle.psci_board.specs.declared.fault.BoardFault.TheVariants as boards
use Rattle.psci_platform.specs.declared.class.Class.{Class}
use Rattle.psci_platform.specs.declared.class.Class.TheVariants.{PowerDown, Retention, Running}
use Rattle.psci_platform.specs.declared.class.Class.TheVariants.{Standby}
use Rattle.psci_platform.specs.Described.{DescriptionValue}
use Rattle.psci_platform.specs.Platforms.{PlatformValue}
use Rattle.psci_platform.proofs.Machines.{all_functions, board, checking, row}
use Rattle.psci_status.specs.Lists.{PolledView}
use Rattle.psci_ffi.specs.declared.machine.MachineFault.TheVariants.{Board, Room}
use Rattle.psci_ffi.specs.declared.machine.GivenMachine.{GivenMachine}
use Rattle.psci_ffi.specs.declared.machine.GivenRow.{GivenRow}
use Rattle.psci_ffi.specs.declared.guest_calls.GuestTurn.{GuestTurn}
use Rattle.psci_ffi.specs.Namings.{GuestValue}
use Rattle.psci_ffi.specs.Slots.{IsFilled, Kept, KeptGuest}
use Rattle.psci_ffi.specs.Machines.{IsMade, OpensGuest, OpensMachine}
use Rattle.psci_ffi.proofs.ControlDone.{apart-by}

-- A machine -------------------------------------------------------------------------------------

abbrev paired_board : BoardValue
paired_board = board ((2 ∷ 2 ∷ []) ∷ (2 ∷ []) ∷ []) Original

abbrev no_row : GivenRow
no_row = record { word = 0; mask = 0; states = 0 ∷ 0 ∷ 0 ∷ 0 ∷ [] }

-- the cluster has a state in standby and two in retention, the system one in retention
abbrev paired : GivenMachine
paired = record {
  levels = 2;
  functions = 0xFF;
  many_mpidrs = 4;
  many_rows = 2;
  many_resets = 0;
  standby = 0 ∷ 1 ∷ 0 ∷ 0 ∷ [];
  retention = 0 ∷ 2 ∷ 1 ∷ 0 ∷ [];
  system = 1 ∷ 4 ∷ 2 ∷ 0 ∷ [];
  resets = replicate 8 0;
  rows = record { word = 0x01010000; mask = 0xFFFFFF00; states = 1 ∷ 4 ∷ 0 ∷ 0 ∷ [] }
      ∷ record { word = 0x01010100; mask = 0xFFFFFFFF; states = 1 ∷ 3 ∷ 0 ∷ 0 ∷ [] }
      ∷ replicate 62 no_row;
  mpidrs = (0x100 ∷ 0x101 ∷ 0 ∷ 1 ∷ []) ++ replicate 252 0;
}

abbrev down : List Class
down = Running ∷ replicate 15 PowerDown

abbrev described : DescriptionValue
described = record {
  mpidrs = 0x100 ∷ 0x101 ∷ 0 ∷ 1 ∷ [];
  levels = 2;
  classes = down
      ∷ (Running ∷ Standby ∷ Retention ∷ Retention ∷ replicate 12 PowerDown)
      ∷ (Running ∷ Retention ∷ replicate 14 PowerDown) ∷ down ∷ [];
  rows = record { word = 0x01010000; mask = 0xFFFFFF00; states = 1 ∷ 4 ∷ 0 ∷ 0 ∷ [] }
      ∷ row 0x01010100 (1 ∷ 3 ∷ 0 ∷ 0 ∷ []) ∷ [];
  system = 1 ∷ 4 ∷ 2 ∷ 0 ∷ [];
  functions = all_functions;
  resets = [];
}

-- the last core boots, which has MPIDR 1 and stands at place 3
abbrev pub last : PlatformValue
last = record {
  description = described;
  board = paired_board;
  boot = 1;
  place = 3;
  ready = None;
}

abbrev kept : Option PlatformValue
kept = Some last

-- a place that was opened with it
abbrev placed : PolledView → Kept
placed p = Some (record { polled = p; machine = kept })

-- Opening ---------------------------------------------------------------------------------------

abbrev truth : Bool → ℕ
truth true = 1
truth false = 0

-- a place that holds a firmware, and one that does not
abbrev full : Kept → ℕ
full None = 0
full (Some f) = 1

-- what an empty place keeps
abbrev nothing : Kept
nothing = None

opens_not : (p : PolledView) →
    -- want of memory is answered of a board without a fault alone
    ¬ (IsMade (Err (Board boards.Memory)) (Err boards.Uneven) paired 1)
    -- nor is it said by an opening, which leaves what was there
    × ¬ (OpensMachine (Err (Board boards.Memory)) (Ok paired_board) paired 1 None (placed p))
    × ¬ (OpensMachine (Err (Board boards.Memory)) (Err boards.Uneven) paired 1 None None)
    -- a fault leaves what was there
    × ¬ (OpensMachine (Err Room) (Ok paired_board) (record paired { many_rows = 65 }) 1 (placed p)
    None)
    × ¬ (OpensMachine (Ok tt) (Ok paired_board) paired 1 (placed p) None)
    -- a machine that is opened is in order
    × ¬ (OpensMachine (Ok tt) (Ok paired_board) paired 1 None (placed p))
    × ¬ (OpensMachine (Ok tt) (Err boards.Uneven) paired 1 (placed p) (placed p))
    × ¬ (IsFilled nothing)
unfolding checking
opens_not p = (
  λ h. apart-by truth h refl,
  λ h. apart-by full h.1 refl,
  λ h. apart-by truth h.0 refl,
  λ h. apart-by full h.1 refl,
  λ h. h,
  λ h. let e : false ≡ true = h.machine.ready in absurd cc,
  λ h. h,
  λ h. h,
)

-- a place for the power of a guest
abbrev held : KeptGuest → ℕ
held None = 0
held (Some g) = 1

-- the power of a guest is opened as a firmware is, and how its boot core entered is told
guest_not : (g : GuestValue) (told : GuestTurn)
    → ¬ (OpensGuest (Ok tt) (Ok paired_board) paired 1 None None told told)
    × ¬ (OpensGuest (Err Room) (Ok paired_board) (record paired { many_rows = 65 }) 1 None (Some g)
    told told)
    × ¬ (OpensGuest (Ok tt) (Ok paired_board) paired 1 None (Some (record g { machine = None }))
    told told)
    × ¬ (OpensGuest (Ok tt) (Ok paired_board) paired 1 None (Some g) told
    (record told { what = 19 }))
unfolding checking
guest_not g told = (
  λ h. h,
  λ h. apart-by held h.1.0 refl,
  λ h. h.machine,
  λ h. let no : 19 ≡ 0 = ap (λ (x : GuestTurn). x.what) h.fresh.shows in absurd (omega (arith, no)),
)
