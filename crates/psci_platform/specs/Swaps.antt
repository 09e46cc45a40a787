-- A boot core that is not the first one of the tree: the swap of cores and domains by which it has
-- number 0.
use Rattle.std.specs.Prelude.{ℕ, zero, suc, Bool, ◌==◌, ◌&&◌, ◌||◌, nat_lt, if◌then◌else◌, ◌∷◌, []}
use Rattle.std.specs.Prelude.{option_map, unwrap_or}
use Rattle.std.specs.List.{list_all, range_with_len}
use Rattle.psci_board.specs.Board.{BoardValue, child, child_number, cores, domain_of, height}
use Rattle.psci_board.specs.Board.{parent, up}
use Rattle.psci_board.specs.declared.draft.Node.{Node}
use Rattle.psci_fw_laws.specs.Renumbered.{swap}

-- the number of a node among its siblings, and 0 of the system
abbrev pub number_of : BoardValue → Node → ℕ
number_of b n = unwrap_or (child_number b n) 0

-- a domain stands above core 0 or above the boot core
abbrev pub is_on_path : BoardValue → ℕ → Node → Bool
is_on_path b boot n = n.place == 0 || n.place == up b n.level boot

-- The other number of a node among its siblings. Where its parent stands above core 0 or above the
-- boot core, the first sibling and the one with the boot core's number have each other's.
abbrev pub other_number : BoardValue → ℕ → Node → Node → ℕ
other_number b boot above n =
    if is_on_path b boot above
    then swap 0 (number_of b (domain_of b boot n.level)) (number_of b n)
    else number_of b n

-- the node at the other place, of a tree with so many levels above it: the child, of its other
-- number, of the node at its parent's other place
abbrev pub moved_in : BoardValue → ℕ → ℕ → Node → Node
moved_in b boot zero n = n
moved_in b boot (suc levels) n =
    unwrap_or (option_map (λ above.
    unwrap_or (child b (moved_in b boot levels above) (other_number b boot above n)) n)
    (parent b n)) n

-- the node at the other place
unfoldable pub moved : BoardValue → ℕ → Node → Node
moved b boot n = moved_in b boot 3 n

-- the other place of each place of a level, and so, at level 0, the other number of a core
abbrev pub swap_for : BoardValue → ℕ → ℕ → ℕ → ℕ
swap_for b boot level place = (moved b boot (record { level = level; place = place })).place

-- the domain of this level above a core is swapped with the one above the other core
abbrev pub goes_along : BoardValue → ℕ → ℕ → ℕ → Bool
goes_along b boot c level =
    nat_lt (height b) level
    || up b level (swap_for b boot 0 c) == swap_for b boot level (up b level c)

-- a core is swapped with one of the board, and the domains above them are
abbrev pub is_swapped : BoardValue → ℕ → ℕ → Bool
is_swapped b boot c =
    let other = swap_for b boot 0 c in
    nat_lt other (cores b)
    && (swap_for b boot 0 other == c && list_all (goes_along b boot c) (1 ∷ 2 ∷ 3 ∷ []))

-- The swap gives the boot core number 0, and swaps all cores and domains of the board: the tree
-- looks the same from the boot core as from core 0.
unfoldable pub is_symmetric : BoardValue → ℕ → Bool
is_symmetric b boot =
    swap_for b boot 0 boot == 0 && list_all (is_swapped b boot) (range_with_len 0 (cores b))
