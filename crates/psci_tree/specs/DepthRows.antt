-- The depths of each power domain, level by level.
use Rattle.std.specs.Prelude.{ℕ, List, map, replicate}
use Rattle.psci_tree.specs.declared.depths.Depths.{Depths}
use Rattle.psci_tree.specs.declared.depths.Which.{Which}
use Rattle.psci_tree.specs.declared.depths.Which.TheVariants.{Granted, Confirmed}

-- what was granted
abbrev pub granted_of : List (List Depths) → List (List ℕ)
granted_of rows = map (map (λ (d : Depths). d.granted)) rows

-- what is confirmed
abbrev pub confirmed_of : List (List Depths) → List (List ℕ)
confirmed_of rows = map (map (λ (d : Depths). d.confirmed)) rows

-- one of the two depths of a domain
abbrev pub depth_of : Which → Depths → ℕ
depth_of Granted d = d.granted
depth_of Confirmed d = d.confirmed

-- and of each
abbrev pub read : Which → List (List Depths) → List (List ℕ)
read which rows = map (map (depth_of which)) rows

-- rows of these lengths, with the same depths throughout
abbrev pub filled : List ℕ → Depths → List (List Depths)
filled counts d = map (λ count. replicate count d) counts
