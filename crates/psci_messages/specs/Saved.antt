-- Outstanding messages as words of 64 bits, and which words are those of some messages.
use Rattle.std.specs.Prelude.{◌&&◌, ◌+◌, ◌<◌, ◌==◌, ◌^◌, ◌||◌, ◌∷◌, ◌≡◌, ◌≤◌, [], Bool, drop}
use Rattle.std.specs.Prelude.{false, flat_map, if◌then◌else◌, length, List, nat_le, nat_lt, None}
use Rattle.std.specs.Prelude.{not, Option, replicate, slice_index, slice_index_or, Some, suc}
use Rattle.std.specs.Prelude.{take, true, zero, ℕ}
use Rattle.std.specs.List.{list_all}
use Rattle.psci_state.specs.PowerState.{power_down}
use Rattle.psci_messages.specs.declared.kind.Kind.{Kind}
use Rattle.psci_messages.specs.declared.kind.Kind.TheVariants.{Down, Start, Off, Reset}
use Rattle.psci_messages.specs.declared.part.Part.{Part}
use Rattle.psci_messages.specs.Message.{MessageValue, IsMessage}
use Rattle.psci_messages.specs.Slots.{SlotsValue}

-- Words ------------------------------------------------------------------------------------------

-- the number of a kind: 0 stands for no message
abbrev pub kind_number : Kind → ℕ
kind_number Down = 1
kind_number Start = 2
kind_number Off = 3
kind_number Reset = 4

-- the depth and the generation of each part, from level 0 up, and 0 at the places up to so many
-- that have none
abbrev pub part_words : ℕ → List Part → List ℕ
part_words zero ps = []
part_words (suc n) [] = 0 ∷ 0 ∷ part_words n []
part_words (suc n) (p ∷ ps) = p.depth ∷ p.generation ∷ part_words n ps

-- the kind, core, life and number of a message, and its parts
abbrev pub message_words : MessageValue → List ℕ
message_words m = kind_number m.kind ∷ m.core.number ∷ m.life ∷ m.number ∷ part_words 4 m.parts

-- the words of an empty slot
abbrev pub no_words : List ℕ
no_words = replicate 12 0

-- what a slot has, as 12 words
abbrev pub slot_words : Option MessageValue → List ℕ
slot_words None = no_words
slot_words (Some m) = message_words m

-- the slot of the system, then those of the cores
unfoldable pub slots_words : SlotsValue → List ℕ
slots_words s = flat_map slot_words (s.system ∷ s.cores)

-- Which words are those of some slots ------------------------------------------------------------

-- a part no deeper than this, or none, which has no generation
abbrev pub is_part : ℕ → ℕ → ℕ → Bool
is_part most depth generation = nat_le depth most && (not (depth == 0) || generation == 0)

-- parts, of which none is deeper than the one before it, and the first one no deeper than this
abbrev pub are_parts : ℕ → List ℕ → Bool
are_parts most [] = true
are_parts most (d ∷ []) = false
are_parts most (d ∷ g ∷ ws) = is_part most d g && are_parts d ws

-- parts of a message of this kind: a Down has one or more, another one none
abbrev pub are_parts_of : ℕ → List ℕ → Bool
are_parts_of kind ws =
    length ws == 8
    && (if kind == 1 then are_parts power_down ws && nat_lt 0 (slice_index ws 0)
    else are_parts 0 ws)

-- a core of one byte, and a life and a number of 32 bits
abbrev pub are_numbers : ℕ → ℕ → ℕ → Bool
are_numbers core life number =
    nat_lt core 256 && (nat_lt life (2 ^ 32) && nat_lt number (2 ^ 32))

-- a message
abbrev pub is_message : List ℕ → Bool
is_message [] = false
is_message (kind ∷ []) = false
is_message (kind ∷ core ∷ []) = false
is_message (kind ∷ core ∷ life ∷ []) = false
is_message (kind ∷ core ∷ life ∷ number ∷ ws) =
    (nat_lt 0 kind && nat_le kind 4) && (are_numbers core life number && are_parts_of kind ws)

-- all words are 0
abbrev pub are_zero : List ℕ → Bool
are_zero ws = list_all (λ w. w == 0) ws

-- an empty slot: 12 words, all of them 0
abbrev pub is_empty : List ℕ → Bool
is_empty ws = length ws == 12 && are_zero ws

-- a slot: an empty one, or a message
abbrev pub is_slot : List ℕ → Bool
is_slot ws = is_empty ws || is_message ws

-- so many slots, one behind the other
abbrev pub are_slots : ℕ → List ℕ → Bool
are_slots zero ws = length ws == 0
are_slots (suc n) ws = is_slot (take 12 ws) && are_slots n (drop 12 ws)

-- What such words say ----------------------------------------------------------------------------

-- the kind of this number
abbrev pub kind_of : ℕ → Kind
kind_of number =
    if number == 1 then Down
    else (if number == 2 then Start
    else (if number == 3 then Off else Reset))

-- the parts, from this level up, until a depth is 0
abbrev pub parts_from : ℕ → List ℕ → List Part
parts_from level [] = []
parts_from level (d ∷ []) = []
parts_from level (d ∷ g ∷ ws) =
    if d == 0 then []
    else record { level = level; depth = d; generation = g } ∷ parts_from (level + 1) ws

-- the words of one message
pub record AreOfMessage (k c l n : ℕ) (ws : List ℕ) : Type 0 where
  pub least : 0 < k
  pub most : k ≤ 4
  pub core : c < 256
  pub life : l < 2 ^ 32
  pub number : n < 2 ^ 32
  pub parts : are_parts_of k ws ≡ true

-- What is saved of every slot --------------------------------------------------------------------

-- a message of a life and a number of 32 bits
pub record IsKept (m : MessageValue) : Type 0 where
  pub message : IsMessage m
  pub life : m.life < 2 ^ 32
  pub number : m.number < 2 ^ 32

-- each message in a slot is such a one
pub record AreKept (s : SlotsValue) : Type 0 where
  pub cores : (k : ℕ) (m : MessageValue) → slice_index_or s.cores k None ≡ Some m → IsKept m
  pub system : (m : MessageValue) → s.system ≡ Some m → IsKept m
