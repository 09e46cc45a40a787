-- Worked examples: what a power controller's call, an opening, saving and loading leave in a place.
use Rattle.std.specs.Prelude.{Err, None, Ok, Some, replicate}
use Rattle.std.proofs.Common.{◌∷◌, [], false, refl, sym, ℕ}
use Rattle.std.proofs.lemmas.Bool.{true≢false}
use Rattle.psci_board.specs.declared.fault.BoardFault.TheVariants as boards
use Rattle.psci_ctl.specs.Seen.{ControllerValue}
use Rattle.psci_ctl.specs.declared.level.DomainRow.{DomainRow}
use Rattle.psci_ctl.specs.declared.row.CoreRow.{CoreRow}
use Rattle.psci_ctl_spec.proofs.Steps.{board, reset, wake}
use Rattle.psci_messages.specs.declared.start.Cause.TheVariants.{Wake}
use Rattle.psci_ffi.specs.declared.controller_calls.ControllerAnswer.{ControllerAnswer}
use Rattle.psci_ffi.specs.Controllers.{IsGivenTo, IsKicked, Loads, Opens, Saves}
use Rattle.psci_ffi.specs.Slots.{KeptController}
use Rattle.psci_ffi.proofs.ControlDone.{apart-by}

-- A power controller ---------------------------------------------------------------------------

abbrev core : ℕ → CoreRow
core starts = record { starts = starts; cause = Wake }

abbrev row : ℕ → ℕ → DomainRow
row depth starts = record { depth = depth; starts = starts }

-- core 0 was started twice, core 3 once; core 3 is in retention
abbrev controller : ControllerValue
controller = record {
  board = board;
  life = Some 2;
  cores = core 2 ∷ core 0 ∷ core 0 ∷ core 1 ∷ [];
  domains = (row 0 2 ∷ row 3 0 ∷ row 3 0 ∷ row 2 1 ∷ []) ∷ (row 0 2 ∷ row 1 1 ∷ [])
      ∷ (row 0 3 ∷ []) ∷ [];
}

-- Calls ---------------------------------------------------------------------------------------

-- an answer by its number alone
abbrev refusal : ℕ → ControllerAnswer
refusal number = record {
  what = number;
  start = record { core = 0; life = 0; number = 0; cause = 0 };
  many = 0;
  domains = replicate 4 (record { level = 0; index = 0; depth = 0 });
  ack = record { some = false; bytes = replicate 53 0 };
}

abbrev what : ControllerAnswer → ℕ
what a = a.what

abbrev is-full : KeptController → ℕ
is-full None = 0
is-full (Some c) = 1

-- of an empty place, and of a core that is not there
refuses : IsGivenTo None [] (refusal 16) None × IsKicked None 0 (wake 0 2) (refusal 16) None
    × IsKicked (Some controller) 4 (reset 4) (refusal 17) (Some controller)
refuses = ((refl, refl), (refl, refl), (refl, refl))

-- another answer, and another place
refuses-not : ¬ (IsGivenTo None [] (refusal 0) None)
    × ¬ (IsGivenTo None [] (refusal 16) (Some controller))
    × ¬ (IsKicked (Some controller) 4 (reset 4) (refusal 16) (Some controller))
    × ¬ (IsKicked (Some controller) 4 (reset 4) (refusal 17) None)
    × ¬ (IsKicked (Some controller) 0 (wake 0 2) (refusal 1) None)
refuses-not = (
  λ h. apart-by what h.0 refl,
  λ h. apart-by is-full h.1 refl,
  λ h. apart-by what h.0 refl,
  λ h. apart-by is-full h.1 refl,
  λ h. h,
)

-- Opening -------------------------------------------------------------------------------------

-- and empty; with a fault; before the fault; emptied by it
opens-not : ¬ (Opens (Ok tt) (Ok board) None None)
    × ¬ (Opens (Ok tt) (Err boards.Grammar) None (Some controller))
    × ¬ (Opens (Err boards.Memory) (Err boards.Grammar) None None)
    × ¬ (Opens (Err boards.Grammar) (Err boards.Grammar) (Some controller) None)
opens-not = (λ h. h, λ h. h, λ h. true≢false (sym h.0), λ h. apart-by is-full h.1 refl)

-- Saving and loading ----------------------------------------------------------------------------

nothing_saved : Saves None (7 ∷ []) 16 (7 ∷ [])
nothing_saved = (refl, refl)

nothing_loaded : Loads None (7 ∷ []) 16 None
nothing_loaded = (refl, refl)
