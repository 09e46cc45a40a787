-- What contracts see of a message and of an acknowledgement, and what holds of each.
use Rattle.std.specs.Prelude.{◌&&◌, ◌+◌, ◌<◌, ◌==◌, ◌∷◌, ◌≡◌, ◌≤◌, [], Bool, codes, false}
use Rattle.std.specs.Prelude.{length, List, nat_le, nat_lt, None, Option, slice_get, Some, true}
use Rattle.std.specs.Prelude.{ℕ}
use Rattle.psci_board.specs.declared.draft.Core.{Core}
use Rattle.psci_state.specs.PowerState.{power_down}
use Rattle.psci_messages.specs.declared.kind.Kind.{Kind}
use Rattle.psci_messages.specs.declared.kind.Kind.TheVariants.{Down, Off, Reset, Start}
use Rattle.psci_messages.specs.declared.part.Part.{Part}
use Rattle.psci_messages.specs.declared.parts.TheConstants.{MOST_PARTS}

-- a message, as contracts see it
pub record MessageValue : Type 0 where
  -- what is asked for
  pub kind : Kind
  -- the target of a Start, else the sender
  pub core : Core
  -- the firmware's life
  pub life : ℕ
  -- the known start of the core
  pub number : ℕ
  -- what a Down asks of the domains on the sender's path, from the core up
  pub parts : List Part

-- an acknowledgement, as contracts see it
pub record AckValue : Type 0 where
  -- the kind of the message that is answered
  pub kind : Kind
  -- its core, life and number
  pub core : Core
  pub life : ℕ
  pub number : ℕ
  -- how many parts were applied, or whether the message was carried out
  pub applied : ℕ
  -- whether the message is out of date
  pub stale : Bool

-- Parts ---------------------------------------------------------------------------------------

-- the levels of the parts count up from this one
abbrev pub is_climbing : ℕ → List Part → Bool
is_climbing level [] = true
is_climbing level (p ∷ ps) = p.level == level && is_climbing (level + 1) ps

-- each depth is at least 1, and none is above the one before it, the first not above the given one
abbrev pub is_falling : ℕ → List Part → Bool
is_falling most [] = true
is_falling most (p ∷ ps) = (nat_lt 0 p.depth && nat_le p.depth most) && is_falling p.depth ps

-- what a core asks that goes down: levels from 0 up, depths from power-down at most
pub record AreClaims (ps : List Part) : Type 0 where
  pub some : 0 < length ps
  pub most : length ps ≤ MOST_PARTS
  pub levels : is_climbing 0 ps ≡ true
  pub depths : is_falling power_down ps ≡ true

-- the same, said of each part
pub record PartByPart (ps : List Part) : Type 0 where
  pub some : 0 < length ps
  pub most : length ps ≤ MOST_PARTS
  pub level : (k : ℕ) (p : Part) → slice_get ps k ≡ Some p → p.level ≡ k
  pub least : (k : ℕ) (p : Part) → slice_get ps k ≡ Some p → 0 < p.depth
  pub deepest : (k : ℕ) (p : Part) → slice_get ps k ≡ Some p → p.depth ≤ power_down
  pub falls : (k : ℕ) (p q : Part) → slice_get ps k ≡ Some p → slice_get ps (k + 1) ≡ Some q
      → q.depth ≤ p.depth

-- only a Down has parts
abbrev pub ArePartsOf : Kind → List Part → Type 0
ArePartsOf Down ps = AreClaims ps
ArePartsOf Start ps = ps ≡ []
ArePartsOf Off ps = ps ≡ []
ArePartsOf Reset ps = ps ≡ []

-- how many parts an acknowledgement can say were applied: another message counts as one
abbrev pub most_applied : Kind → ℕ
most_applied Down = MOST_PARTS
most_applied Start = 1
most_applied Off = 1
most_applied Reset = 1

-- Values --------------------------------------------------------------------------------------

-- what holds of every message: a frame can hold it
pub record IsMessage (m : MessageValue) : Type 0 where
  -- one byte
  pub core : m.core.number < 256
  pub parts : ArePartsOf m.kind m.parts

-- what holds of every acknowledgement
pub record IsAck (a : AckValue) : Type 0 where
  -- one byte
  pub core : a.core.number < 256
  pub applied : a.applied ≤ most_applied a.kind

-- What an exchange of a history says only where a test holds --------------------------------------

-- what is said, where the test holds
abbrev pub only_if : {A : Type 0} → Bool → Option A → Option A
only_if true o = o
only_if false o = None

-- How output spells that a message was out of date ------------------------------------------------

-- nothing, or that it was stale
abbrev pub stale_text : Bool → List ℕ
stale_text true = codes " stale"
stale_text false = []
