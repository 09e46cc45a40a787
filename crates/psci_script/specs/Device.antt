-- What one read or write leaves, by its answer.
use Rattle.std.specs.Prelude.{◌&&◌, ◌+◌, ◌<◌, ◌==◌, ◌||◌, ◌≡◌, ◌≤◌, ◌⊎◌, Bool, length, List, min}
use Rattle.std.specs.Prelude.{nat_lt, Option, take, true, ℕ, ⊤}
use Rattle.std.specs.Io.KnownBytes.{Appends, Consumes, Keeps, IsAtEnd}
use Rattle.std.specs.declared.io.ErrorKind.{ErrorKind}
use Rattle.std.specs.declared.io.ErrorKind.TheVariants as kinds
use Rattle.psci_script.specs.EventText.{most_interruptions}
use Rattle.psci_script.specs.declared.device.Io.{Io}
use Rattle.psci_script.specs.declared.device.Io.TheVariants.{Bytes, Interrupted, Failed}

-- the bytes that are left lose those that came, and none came only at the end
abbrev pub Gives : Io → List ℕ → Option (List ℕ) → Option (List ℕ) → Type 0
Gives (Bytes n) buffer old new =
    (n ≤ length buffer) × Consumes old new (take n buffer)
    × (n ≡ 0 → 0 < length buffer → IsAtEnd new)
Gives Interrupted buffer old new = Keeps old new
Gives Failed buffer old new = Keeps old new

-- the bytes that were taken grow by those that went
abbrev pub Takes : Io → List ℕ → Option (List ℕ) → Option (List ℕ) → Type 0
Takes (Bytes n) bytes old new = (n ≤ length bytes) × Appends old new (take n bytes)
Takes Interrupted bytes old new = Keeps old new
Takes Failed bytes old new = Keeps old new

-- whether the device has failed after a read
abbrev pub FailsRead : Io → Bool → Bool → Type 0
FailsRead (Bytes n) old new = new ≡ old
FailsRead Interrupted old new = new ≡ old
FailsRead Failed old new = new ≡ true

-- the same after a write: one that takes none of some bytes has failed
abbrev pub FailsWrite : Io → List ℕ → Bool → Bool → Type 0
FailsWrite (Bytes n) bytes old new = new ≡ (old || (n == 0 && nat_lt 0 (length bytes)))
FailsWrite Interrupted bytes old new = new ≡ old
FailsWrite Failed bytes old new = new ≡ true

-- the present row of interruptions, counted to its limit
abbrev pub Interrupts : Io → ℕ → ℕ → Type 0
Interrupts (Bytes n) old new = new ≡ 0
Interrupts Interrupted old new = new ≡ min most_interruptions (old + 1)
Interrupts Failed old new = ⊤

-- a device that failed, or was interrupted once too often
abbrev pub GaveUp : Bool → ℕ → Type 0
GaveUp failed interruptions = (failed ≡ true) ⊎ (interruptions ≡ most_interruptions)

-- an answer that no byte went with: Interrupted exactly where the error is of that kind
abbrev pub Stops : ErrorKind → Io → Bool → Bool → ℕ → ℕ → Type 0
Stops kind (Bytes n) old new before after = ⊥
Stops kind Interrupted old new before after =
    (kind ≡ kinds.Interrupted) × (new ≡ old) × (after ≡ min most_interruptions (before + 1))
Stops kind Failed old new before after = ¬ (kind ≡ kinds.Interrupted) × (new ≡ true)
