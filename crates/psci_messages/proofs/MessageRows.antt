-- Parts of a Down whose levels climb by one and whose depths fall, and some that do not; how much
-- of each message can be applied; and parts in memory, at the first of four places, with zeros at
-- the others.
use Rattle.std.proofs.Common.{ℕ, true, false, List, [], ◌∷◌, refl, ◌≡◌, arith}
use Rattle.psci_messages.specs.declared.part.Part.{Part}
use Rattle.psci_messages.specs.declared.kind.Kind.TheVariants.{Down, Start, Off, Reset}
use Rattle.psci_messages.specs.Message.{ArePartsOf, is_climbing, is_falling, most_applied}
use Rattle.psci_board.proofs.Tables.{◌⇒◌, Gives}
use Rattle.psci_messages.specs.Places.{AreAtPlaces, places_of, unused}

abbrev part : ℕ → ℕ → Part
part level depth = record { level = level; depth = depth; generation = 7 }

-- the parts of these depths, from level 0 up
abbrev first_two : ℕ → ℕ → List Part
first_two core cluster = part 0 core ∷ part 1 cluster ∷ []

abbrev first_four : ℕ → ℕ → ℕ → ℕ → List Part
first_four core cluster system top =
    part 0 core ∷ part 1 cluster ∷ part 2 system ∷ part 3 top ∷ []

climbing : Gives (is_climbing 0)
    -- the levels count up from 0, and none is left out or said twice
    ((part 0 2 ∷ []) ⇒ true
    ∷ first_four 3 2 2 1 ⇒ true
    ∷ (part 0 3 ∷ part 2 1 ∷ []) ⇒ false
    ∷ (part 0 3 ∷ part 0 1 ∷ []) ⇒ false
    ∷ (part 1 3 ∷ part 2 3 ∷ []) ⇒ false ∷ [])
climbing = refl

falling : Gives (is_falling 3)
    -- each depth is at least 1 and at most the one below it, that of the core at most power-down
    (first_two 2 2 ⇒ true
    ∷ first_four 3 2 2 1 ⇒ true
    ∷ first_two 1 2 ⇒ false
    ∷ first_four 3 1 1 2 ⇒ false
    ∷ (part 0 0 ∷ []) ⇒ false
    ∷ first_two 3 0 ⇒ false
    ∷ first_two 4 3 ⇒ false ∷ [])
falling = refl

-- only a Down has parts
others_have_no_parts : ArePartsOf Start [] × ArePartsOf Off [] × ArePartsOf Reset []
others_have_no_parts = (refl, refl, refl)

most : Gives most_applied
    -- a Down has up to four parts, one for each level; another message is carried out or is not
    (Down ⇒ 4
    ∷ Start ⇒ 1
    ∷ Off ⇒ 1
    ∷ Reset ⇒ 1 ∷ [])
most = refl

-- a place that holds zeros
abbrev zeros : Part
zeros = record { level = 0; depth = 0; generation = 0 }

-- a core, its cluster, its group and the system, each with a generation of its own
abbrev core : Part
core = record { level = 0; depth = 3; generation = 7 }

abbrev cluster : Part
cluster = record { level = 1; depth = 3; generation = 12 }

abbrev group : Part
group = record { level = 2; depth = 2; generation = 20 }

abbrev system : Part
system = record { level = 3; depth = 1; generation = 31 }

-- Places ------------------------------------------------------------------------------------------

unused_is_zeros : unused ≡ zeros
unused_is_zeros = refl

places : Gives places_of
    ([] ⇒ (zeros ∷ zeros ∷ zeros ∷ zeros ∷ [])
    ∷ (core ∷ []) ⇒ (core ∷ zeros ∷ zeros ∷ zeros ∷ [])
    ∷ (core ∷ cluster ∷ group ∷ []) ⇒ (core ∷ cluster ∷ group ∷ zeros ∷ [])
    ∷ (core ∷ cluster ∷ group ∷ system ∷ []) ⇒ (core ∷ cluster ∷ group ∷ system ∷ [])
    -- for a fifth there is no place
    ∷ (core ∷ cluster ∷ group ∷ system ∷ core ∷ []) ⇒ (core ∷ cluster ∷ group ∷ system ∷ []) ∷ [])
places = refl

-- So many are there -------------------------------------------------------------------------------

there : AreAtPlaces 0 (zeros ∷ zeros ∷ zeros ∷ zeros ∷ [])
    × AreAtPlaces 2 (core ∷ cluster ∷ zeros ∷ zeros ∷ [])
    -- a part may hold zeros, too
    × AreAtPlaces 1 (zeros ∷ zeros ∷ zeros ∷ zeros ∷ [])
    × AreAtPlaces 4 (core ∷ cluster ∷ group ∷ system ∷ [])
there = search arith

not_there : (AreAtPlaces 5 (core ∷ cluster ∷ group ∷ system ∷ core ∷ []) → ⊥)
    × (AreAtPlaces 5 (core ∷ cluster ∷ group ∷ system ∷ []) → ⊥)
    -- one is counted, and another one lies behind it; three places alone
    × (AreAtPlaces 1 (core ∷ cluster ∷ zeros ∷ zeros ∷ []) → ⊥)
    × (AreAtPlaces 1 (core ∷ zeros ∷ zeros ∷ []) → ⊥)
not_there = search arith
