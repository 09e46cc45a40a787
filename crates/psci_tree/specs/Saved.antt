-- A tree of power domains as words of 64 bits, and which words are those of some tree.
use Rattle.std.specs.Prelude.{◌&&◌, ◌*◌, ◌++◌, ◌+◌, ◌<◌, ◌==◌, ◌^◌, ◌∷◌, ◌≡◌, [], Bool, drop}
use Rattle.std.specs.Prelude.{Err, false, flat_map, if◌then◌else◌, is_some, length, List, nat_le}
use Rattle.std.specs.Prelude.{nat_lt, None, Ok, Option, Result, slice_index, slice_index_or}
use Rattle.std.specs.Prelude.{Some, sum, take, true, ℕ}
use Rattle.std.specs.List.{All, list_all, range_with_len}
use Rattle.psci_board.specs.Board.{place_above, size_below}
use Rattle.psci_board.specs.psci_abi.declared.registers.Format.TheVariants.{Extended}
use Rattle.psci_state.specs.PowerState.{ask_of, power_down, word_of}
use Rattle.psci_state.specs.declared.cores.Activity.{Activity}
use Rattle.psci_state.specs.declared.cores.Activity.TheVariants.{Active, Suspended, Away}
use Rattle.psci_state.specs.declared.cores.CoreState.{CoreState}
use Rattle.psci_state.specs.declared.fault.BadState.{BadState}
use Rattle.psci_tree.specs.Recount.{TreeValue, IsDomainTree, level_sizes}

-- Cores ------------------------------------------------------------------------------------------

-- what a core does that is off: beyond each word of a power state
abbrev pub away_word : ℕ
away_word = 2 ^ 32

-- what a core does: 0 while it is running or pending, and while it is suspended the power state
-- that asks for as much, in the extended format
abbrev pub activity_word : Activity → ℕ
activity_word Active = 0
activity_word (Suspended ask) = word_of Extended ask
activity_word Away = away_word

-- what a core does, and its known start
abbrev pub core_words : CoreState → List ℕ
core_words c = activity_word c.activity ∷ c.known ∷ []

-- a suspended core, by what the word of its power state asks
abbrev pub suspended_by : Result (List ℕ) BadState → Option Activity
suspended_by (Ok ask) = Some (Suspended ask)
suspended_by (Err e) = None

-- what a core does of which this is the word, if it is one's
abbrev pub activity_of : ℕ → Option Activity
activity_of word =
    if word == 0 then Some Active
    else (if word == away_word then Some Away
    else (if nat_lt word (2 ^ 32) then suspended_by (ask_of Extended 3 word) else None))

-- the words of one core: what it does, and a known start of 32 bits
abbrev pub is_core : ℕ → ℕ → Bool
is_core word known = is_some (activity_of word) && nat_lt known (2 ^ 32)

-- the words of some cores
abbrev pub are_cores : List ℕ → Bool
are_cores [] = true
are_cores (w ∷ []) = false
are_cores (w ∷ known ∷ ws) = is_core w known && are_cores ws

-- Depths -----------------------------------------------------------------------------------------

-- so many in each row
abbrev pub rows_of : List ℕ → List ℕ → List (List ℕ)
rows_of [] ws = []
rows_of (n ∷ ns) ws = take n ws ∷ rows_of ns (drop n ws)

-- how many domains there are
abbrev pub domain_count : List (List ℕ) → ℕ
domain_count levels = sum (level_sizes levels)

-- the granted depth of each domain, from level 0 up, and then what is confirmed of each
unfoldable pub depth_words : TreeValue → List ℕ
depth_words t = flat_map (λ row. row) t.granted ++ flat_map (λ row. row) t.confirmed

-- the depth at a level and place
abbrev pub depth_in : List (List ℕ) → ℕ → ℕ → ℕ
depth_in rows level place = slice_index (slice_index_or rows level []) place

-- on the path of a core the domain above this level is granted no more than the one at it
abbrev pub is_nested_at : List (List ℕ) → List (List ℕ) → ℕ → ℕ → Bool
is_nested_at levels rows core level =
    nat_le (depth_in rows (level + 1) (place_above levels (level + 1) core))
    (depth_in rows level (place_above levels level core))

-- no domain on the path of a core is granted more than the one below it
abbrev pub is_nested : List (List ℕ) → List (List ℕ) → ℕ → Bool
is_nested levels rows core =
    list_all (is_nested_at levels rows core) (range_with_len 0 (length levels))

-- nor on the path of any
abbrev pub are_nested : List (List ℕ) → List (List ℕ) → Bool
are_nested levels rows =
    list_all (is_nested levels rows) (range_with_len 0 (size_below levels))

-- no domain is confirmed at a depth above the granted one
abbrev pub are_sure : List ℕ → List ℕ → Bool
are_sure granted confirmed =
    list_all (λ k. nat_le (slice_index confirmed k) (slice_index granted k))
    (range_with_len 0 (length granted))

-- granted depths of these domains, and what is confirmed of them
abbrev pub are_depths_by : List (List ℕ) → List ℕ → List ℕ → Bool
are_depths_by levels granted confirmed =
    list_all (λ d. nat_le d power_down) granted
    && (are_sure granted confirmed
    && are_nested levels (rows_of (level_sizes levels) granted))

-- the words of the depths of these domains
abbrev pub are_depths : List (List ℕ) → List ℕ → Bool
are_depths levels ws =
    let n = domain_count levels in
    length ws == 2 * n && are_depths_by levels (take n ws) (drop n ws)

-- a tree with these depths
abbrev pub with_depths : TreeValue → List ℕ → List ℕ → TreeValue
with_depths t granted confirmed = record t {
  granted = rows_of (level_sizes t.levels) granted;
  confirmed = rows_of (level_sizes t.levels) confirmed;
}

-- Trees that differ in part ----------------------------------------------------------------------

-- only the cores of a tree may be other than before
pub record KeepsDepths (old new : TreeValue) : Type 0 where
  pub levels : new.levels ≡ old.levels
  pub granted : new.granted ≡ old.granted
  pub confirmed : new.confirmed ≡ old.confirmed
  pub tree : IsDomainTree new

-- known starts of 32 bits
abbrev pub AreCounted : List CoreState → Type 0
AreCounted cores = All (λ (c : CoreState). c.known < 2 ^ 32) cores
