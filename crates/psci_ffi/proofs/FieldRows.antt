-- Worked examples: what is written of bytes that are no frame.
use Rattle.std.specs.Prelude.{None, Some}
use Rattle.std.proofs.Common.{◌∷◌, [], refl, ℕ}
use Rattle.psci_link.specs.declared.parts.FrameFault.TheVariants.{Magic}
use Rattle.psci_ffi.specs.declared.fields.Fields.{Fields}
use Rattle.psci_ffi.specs.declared.fields.PartFields.{PartFields}
use Rattle.psci_ffi.specs.Frames.{IsDecodedIn, IsUnread}

abbrev none : PartFields
none = record { level = 0; depth = 0; generation = 0 }

abbrev plain : ℕ → Fields
plain kind = record {
  kind = kind;
  count = 0;
  core = 2;
  life = 1;
  number = 0;
  parts = none ∷ none ∷ none ∷ none ∷ [];
}

-- nothing is written of bytes that are no frame, nor without a firmware
unread : IsUnread (Some Magic) 34 (plain 2) (plain 2)
    × IsDecodedIn None [] 16 (plain 2) (plain 2)
unread = ((refl, refl), (refl, refl))
