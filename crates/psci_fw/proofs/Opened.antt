-- A firmware that was saved is opened again, and of other words none is.
use Rattle.std.proofs.Common.{◌++◌, ◌==◌, ◌∙◌, ◌≡◌, ◌≤◌, arith, Bool, false, length, List}
use Rattle.std.proofs.Common.{nat_lt, None, not, refl, suc, sym, true, zero, ℕ}
use Rattle.std.proofs.lemmas.Option.{none-some}
use Rattle.psci_board.specs.Board.{BoardValue}
use Rattle.psci_messages.specs.Sum.{sum_from}
use Rattle.psci_fw_spec.specs.Invariant.{AreValues}
use Rattle.psci_fw_spec.specs.Changes.{start_of_life}
use Rattle.psci_fw_state.specs.declared.fault.SavedFault.TheVariants.{Format, Length, Life, Sum}
use Rattle.psci_fw_state.specs.declared.saved_parts.TheConstants.{FORMAT}
use Rattle.psci_fw_state.specs.Saved.{IsSavable, life_words, part_count, part_words, saved}
use Rattle.psci_fw_state.specs.Saved.{saved_fault}
use Rattle.psci_fw_state.specs.Seen.{IsState, StateValue, values_in}
use Rattle.psci_fw.specs.declared.fault.OpenFault.{OpenFault}
use Rattle.psci_fw.specs.declared.fault.OpenFault.TheVariants.{Memory, Words, Values}
use Rattle.psci_fw.specs.Saved.{IsRefused}
use Rattle.psci_fw.specs.Reactions.{FirmwareValue, IsFirmware}
use Rattle.psci_fw.proofs.Answered.{not_beyond}
use Rattle.psci_fw.proofs.Refused.{passed}

-- Saved -----------------------------------------------------------------------------------------

pub life_on_board : (f : FirmwareValue) → IsFirmware f → f.life ≤ f.board.lives
unfolding values_in
life_on_board f is = is.lives

-- what was saved of a firmware has no fault, and a firmware is saved as it
pub refused_by_memory : (f : FirmwareValue) (fault : OpenFault) → IsFirmware f → IsState f
    → IsSavable f → saved_fault f.board (saved f) ≡ None → IsRefused f.board (saved f) fault
    → fault ≡ Memory
refused_by_memory f Memory is state savable whole refused = refl
refused_by_memory f (Words fault) is state savable whole refused =
    absurd (none-some fault (sym whole ∙ refused))
refused_by_memory f Values is state savable whole refused =
    absurd (refused.1 f is state refl savable refl)

-- Opened ----------------------------------------------------------------------------------------

-- words without a fault have a life of the board
pub life_loaded : (b : BoardValue) (s : StateValue) → saved_fault b (saved s) ≡ None
    → s.life ≤ b.lives
unfolding saved saved_fault
life_loaded b s e =
    let ws = life_words s ++ part_words s in
    let counted = passed (not (length (part_words s) == part_count b)) Length _ e in
    let named = passed (not (FORMAT == FORMAT)) Format _ counted.1 in
    let summed = passed (not (sum_from 0 ws == sum_from 0 ws)) Sum _ named.1 in
    not_beyond s.life b.lives (passed (nat_lt b.lives s.life) Life _ summed.1).0

-- a state whose values were looked at is that of a firmware
pub is_firmware : (s : StateValue) → IsState s → s.life ≤ s.board.lives
    → AreValues s.board (values_in s)
    → ((values_in s).life ≡ 0 → values_in s ≡ start_of_life s.board 0) → IsFirmware s
unfolding values_in
is_firmware s at low values new =
    record { board = at.board; values = values; fresh = record { same = new }; lives = low }

-- the same of a state into which words were loaded
pub life_of_loaded : (b : BoardValue) (ws : List ℕ) (s : StateValue) → s.board ≡ b → saved s ≡ ws
    → saved_fault b ws ≡ None → s.life ≤ s.board.lives
life_of_loaded b ws s at words whole = rw at (life_loaded b s (rw words whole))

pub has_life : (life : ℕ) → not (life == 0) ≡ true → life ≡ 0 → ⊥
has_life zero on e = let never : ◌≡◌ {A = Bool} false true = on in cc
has_life (suc life) on e = omega (arith, e)
