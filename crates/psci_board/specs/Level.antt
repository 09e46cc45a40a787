-- What a level keeps beside the numbers of children, so that each step through the tree is short.
use Rattle.std.specs.Prelude.{◌≡◌, ◌==◌, ℕ, ◌+◌, ◌^◌, ◌<◌, nat_lt, if◌then◌else◌, Option, Some}
use Rattle.std.specs.Prelude.{None, List, length, sum, take, find, slice_index}
use Rattle.std.specs.List.{range_with_len}
use Rattle.psci_board.specs.Board.{group_of, size_below, address_up}

-- first is the place of the first child of each node, parent that of the parent of each child
pub record IsIndexed (counts first parent : List ℕ) : Type 0 where
  pub nodes : length first ≡ length counts
  pub firsts : (k : ℕ) → k < length counts → slice_index first k ≡ sum (take k counts)
  pub children : length parent ≡ sum counts
  pub parents : (i : ℕ) → i < sum counts → slice_index parent i ≡ group_of counts i
  pub few : sum counts < 2 ^ 16

-- the place, on the level below, of the k-th child of the node at a place, where there is one
abbrev pub child_in : List ℕ → ℕ → ℕ → Option ℕ
child_in counts place k =
    if nat_lt k (slice_index counts place) then Some (sum (take place counts) + k) else None

-- the place that a word names among the nodes below these levels, its lowest field theirs
abbrev pub index_named : List (List ℕ) → ℕ → Option ℕ
index_named levels word =
    find (λ i. address_up levels i == word) (range_with_len 0 (size_below levels))
