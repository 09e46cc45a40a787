-- Worked examples: what saving and loading leave in a guest's place.
use Rattle.std.specs.Prelude.{Err, None, Ok, Some}
use Rattle.std.proofs.Common.{◌∷◌, ◌≡◌, List, [], refl, ℕ}
use Rattle.psci_ctl.specs.Saved as controller_words
use Rattle.psci_fw_state.specs.Saved as firmware_words
use Rattle.psci_messages.specs.Saved.{slots_words}
use Rattle.psci_tree.specs.Saved.{depth_words}
use Rattle.psci_guest.specs.declared.fault.LoadFault.TheVariants as faults
use Rattle.psci_guest.specs.Saved.{saved}
use Rattle.psci_guest.proofs.SavedRows.{pair}
use Rattle.psci_ffi.specs.Namings.{GuestValue}
use Rattle.psci_ffi.specs.Guests.{GuestLoads, GuestSaves, IsLoadOf}

nothing_saved : GuestSaves None (7 ∷ []) 16 (7 ∷ [])
nothing_saved = (refl, refl)

nothing_loaded : GuestLoads None (7 ∷ []) 16 None
nothing_loaded = (refl, refl)

abbrev guest : GuestValue
guest = record { power = pair; machine = None }

-- a refusal changes nothing, and no words are loaded that would not be saved
refused : (words : List ℕ) (g : GuestValue)
    → (GuestSaves (Some guest) (7 ∷ []) 50 words → words ≡ 7 ∷ [])
    × (IsLoadOf (Err faults.Memory) guest words g → g ≡ guest)
    × ¬ (IsLoadOf (Ok tt) guest [] g)
unfolding firmware_words.saved controller_words.saved depth_words slots_words
refused words g = (λ h. h.1, λ h. h.1, λ h. let no = h.saves in absurd (cc))
