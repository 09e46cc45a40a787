-- Worked examples of words that are refused: a guest of a board of one core, which runs in its
-- first start of life 2.
use Rattle.std.proofs.Common.{false, [], ◌∷◌, Some, None, refl, ℕ}
use Rattle.psci_board.specs.Board.{BoardValue}
use Rattle.psci_board.specs.psci_abi.declared.registers.Format.TheVariants.{Original}
use Rattle.psci_messages.specs.declared.start.Cause.TheVariants.{Boot}
use Rattle.psci_messages.specs.psci_state.declared.cores.Activity.TheVariants.{Active}
use Rattle.psci_fw_spec.specs.declared.mode.SuspendMode.TheVariants.{Platform}
use Rattle.psci_fw_spec.specs.declared.status.Status.TheVariants.{On}
use Rattle.psci_ctl.specs.declared.fault.SavedFault.TheVariants as behind
use Rattle.psci_fw_state.specs.Saved as firmware
use Rattle.psci_fw_state.specs.declared.fault.SavedFault.TheVariants as own
use Rattle.psci_guest.specs.Pair.{PairValue}
use Rattle.psci_guest.specs.Saved.{IsRefused, saved}
use Rattle.psci_guest.specs.declared.fault.LoadFault.TheVariants as faults

abbrev pub board : BoardValue
board = record {
  levels = (1 ∷ []) ∷ [];
  ranges = record { start = 0; end = 64 } ∷ [];
  boot = 0;
  starts = 9;
  lives = 3;
  format = Original;
}

-- of whichever board, and in this life
abbrev pub pair_of : BoardValue → ℕ → PairValue
pair_of b life = record {
  firmware = record {
    board = b;
    life = life;
    halting = false;
    mode = Platform;
    tree = record {
      levels = board.levels;
      cores = record { activity = Active; known = 1 } ∷ [];
      granted = (0 ∷ []) ∷ (0 ∷ []) ∷ [];
      confirmed = (0 ∷ []) ∷ (0 ∷ []) ∷ [];
    };
    rows = record { status = On; opening = None } ∷ [];
    counts = (record { on = 1; pending = 0 } ∷ []) ∷ [];
    slots = record { cores = None ∷ []; system = None };
  };
  controller = record {
    board = b;
    life = Some life;
    cores = record { starts = 1; cause = Boot } ∷ [];
    domains =
        (record { depth = 0; starts = 1 } ∷ []) ∷ (record { depth = 0; starts = 1 } ∷ []) ∷ [];
  };
}

abbrev pub pair : PairValue
pair = pair_of board 2

-- Refusals ---------------------------------------------------------------------------------------

-- memory may lack for any words; a word alone is too few
too_few : IsRefused board (saved pair) faults.Memory
    × IsRefused board (1 ∷ []) (faults.Firmware own.Length)
    × (IsRefused board (1 ∷ []) (faults.Firmware own.Format) → ⊥)
    × (IsRefused board (1 ∷ []) faults.Values → ⊥)
    × (IsRefused board (1 ∷ []) (faults.Controller behind.Length) → ⊥)
unfolding firmware.saved firmware.saved_fault
too_few = (
  tt,
  refl,
  λ is. absurd (cc),
  λ is. let no = is.0 in absurd (cc),
  λ is. let no = is.opened.words in absurd (cc),
)
