-- Worked examples of messages that are saved as words: each field at its limit and one beyond, and
-- slots of two cores and of the system.
use Rattle.std.proofs.Common.{◌≡◌, ℕ, ◌^◌, ◌-◌, List, [], ◌∷◌, get_or, replicate, Some, None}
use Rattle.std.proofs.Common.{arith, refl, subst, zero, suc}
use Rattle.std.proofs.lemmas.Bool.{false≢true}
use Rattle.std.proofs.lemmas.Option.{none-some, same_Some}
use Rattle.psci_messages.specs.declared.kind.Kind.TheVariants.{Start}
use Rattle.psci_messages.specs.Message.{MessageValue}
use Rattle.psci_messages.specs.Saved.{AreKept, AreOfMessage, IsKept}

abbrev zeros : ℕ → List ℕ
zeros n = replicate n 0

-- core 5 in its third start of life 2
abbrev start : MessageValue
start = record {
  kind = Start;
  core = record { number = 5 };
  life = 2;
  number = 3;
  parts = [];
}

words_of_a_message : AreOfMessage 2 255 (2 ^ 32 - 1) (2 ^ 32 - 1) (zeros 8)
words_of_a_message = record {
  least = omega arith;
  most = omega arith;
  core = omega arith;
  life = omega arith;
  number = omega arith;
  parts = refl;
}

words_of_none : (AreOfMessage 0 5 2 3 (zeros 8) → ⊥) × (AreOfMessage 5 5 2 3 (zeros 8) → ⊥)
    × (AreOfMessage 2 256 2 3 (zeros 8) → ⊥) × (AreOfMessage 2 5 (2 ^ 32) 3 (zeros 8) → ⊥)
    × (AreOfMessage 2 5 2 (2 ^ 32) (zeros 8) → ⊥) × (AreOfMessage 2 5 2 3 (zeros 6) → ⊥)
words_of_none = (
  λ h. omega (arith, h.least),
  λ h. omega (arith, h.most),
  λ h. omega (arith, h.core),
  λ h. omega (arith, h.life),
  λ h. omega (arith, h.number),
  λ h. false≢true h.parts,
)

kept_start : IsKept start
kept_start = record {
  message = record { core = omega arith; parts = refl };
  life = omega arith;
  number = omega arith;
}

abbrev beyond : MessageValue
beyond = record start { life = 2 ^ 32 }

abbrev later : MessageValue
later = record start { number = 2 ^ 32 }

abbrev nowhere : MessageValue
nowhere = record start { core = record { number = 256 } }

not_kept : (IsKept beyond → ⊥) × (IsKept later → ⊥) × (IsKept nowhere → ⊥)
not_kept = (
  λ h. omega (arith, h.life),
  λ h. omega (arith, h.number),
  λ h. omega (arith, h.message.core),
)

in_slots : AreKept (record { cores = None ∷ Some start ∷ []; system = None })
in_slots = record { cores = second; system = λ m e. absurd (none-some m e) }
  where
    second : (k : ℕ) (m : MessageValue)
        → get_or (None ∷ Some start ∷ []) k None ≡ Some m → IsKept m
    second zero m e = absurd (none-some m e)
    second (suc zero) m e = subst IsKept (same_Some start m e) kept_start
    second (suc (suc k)) m e = absurd (none-some m e)

not_in_slots : (AreKept (record { cores = None ∷ Some beyond ∷ []; system = None }) → ⊥)
    × (AreKept (record { cores = None ∷ []; system = Some beyond }) → ⊥)
not_in_slots = (
  λ h. omega (arith, (h.cores 1 beyond refl).life),
  λ h. omega (arith, (h.system beyond refl).life),
)
