-- How a list of parts lies in memory: at four places, of which it uses the first.
use Rattle.std.specs.Prelude.{◌≡◌, ◌≤◌, ℕ, List, ◌++◌, length, take, replicate}
use Rattle.psci_messages.specs.declared.part.Part.{Part}

-- what a place holds that is not used
abbrev pub unused : Part
unused = record { level = 0; depth = 0; generation = 0 }

-- these parts, and after them the places that are not used
abbrev pub places_of : List Part → List Part
places_of parts = take 4 (parts ++ replicate 4 unused)

-- so many parts are at these places
pub record AreAtPlaces (n : ℕ) (places : List Part) : Type 0 where
  pub few : n ≤ 4
  pub used : length (take n places) ≡ n
  pub rest : places_of (take n places) ≡ places
