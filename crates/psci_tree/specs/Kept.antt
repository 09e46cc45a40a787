-- What a domain keeps of the cores below it, so that they need not be counted again.
use Rattle.std.specs.Prelude.{◌≡◌, ℕ, ◌+◌, ◌-◌, ◌*◌, ◌^◌, ◌<◌, ◌≤◌, List, [], ◌∷◌, length, map}
use Rattle.std.specs.Prelude.{slice_index, slice_index_or, slice_set, take, drop, replicate}
use Rattle.std.specs.Prelude.{◌==◌, if◌then◌else◌}
use Rattle.std.specs.List.{All, sum_by, count_by}
use Rattle.psci_board.specs.declared.draft.Node.{Node}
use Rattle.psci_board.specs.Board.{size_below, span}
use Rattle.psci_state.specs.declared.cores.CoreState.{CoreState}
use Rattle.psci_tree.specs.declared.kept.Kept.{Kept}
use Rattle.psci_tree.specs.Recount.{asks, is_active, is_away, least, never_started}

-- the least ask of these cores at a level
abbrev pub low_in : ℕ → List CoreState → ℕ
low_in level cs = least (map (λ c. asks c.activity level) cs)

-- how many of these cores ask this depth at a level
abbrev pub asking_in : ℕ → ℕ → List CoreState → ℕ
asking_in level depth cs = count_by (λ c. asks c.activity level == depth) cs

-- all that a domain of this level keeps of these cores, counted anew
abbrev pub recount : ℕ → List CoreState → Kept
recount level cs = record {
  known = sum_by (λ c. c.known) cs;
  asking = map (λ depth. asking_in level depth cs) (0 ∷ 1 ∷ 2 ∷ 3 ∷ []);
  cores = length cs;
  active = count_by (λ c. is_active c.activity) cs;
  off = count_by (λ c. is_away c.activity) cs;
}

-- of so many that ask each depth, one that asked this depth now asks that one
abbrev pub asking_else : ℕ → ℕ → List ℕ → List ℕ
asking_else before after counts =
    let others = slice_set counts before (slice_index counts before - 1) in
    slice_set others after (slice_index others after + 1)

-- what a domain of this level keeps, once one of the cores below it came from a state into another
abbrev pub kept_exchanged : ℕ → Kept → CoreState → CoreState → Kept
kept_exchanged level k was is = record k {
  known = k.known - was.known + is.known;
  asking = asking_else (asks was.activity level) (asks is.activity level) k.asking;
  active = k.active - (if is_active was.activity then 1 else 0)
      + (if is_active is.activity then 1 else 0);
  off = k.off - (if is_away was.activity then 1 else 0)
      + (if is_away is.activity then 1 else 0);
}

-- the one is counted among them, and with the other one the numbers have their bits
pub record MayExchange (level : ℕ) (k : Kept) (was is : CoreState) : Type 0 where
  pub known : was.known ≤ k.known
  pub asking : asks was.activity level ≤ 3 → 0 < slice_index k.asking (asks was.activity level)
  pub active : (if is_active was.activity then 1 else 0) ≤ k.active
  pub off : (if is_away was.activity then 1 else 0) ≤ k.off
  pub few_known : k.known + is.known < 2 ^ 64
  pub few_asking : (depth : ℕ) → slice_index k.asking depth + 1 < 2 ^ 16
  pub few_active : k.active + 1 < 2 ^ 16
  pub few_off : k.off + 1 < 2 ^ 16

-- a domain of this level keeps this of these cores: it is their recount, and each known start has
-- 32 bits
pub record Keeps (level : ℕ) (k : Kept) (cs : List CoreState) : Type 0 where
  pub counted : k ≡ recount level cs
  pub small : k.known ≤ 2 ^ 32 * length cs

-- Rows --------------------------------------------------------------------------------------------

-- what the domains of a level keep, from level 1 up
abbrev pub level_kept : List (List Kept) → ℕ → List Kept
level_kept rows level = slice_index_or rows (level - 1) []

-- what the domain of this level and place keeps
abbrev pub kept_at : List (List Kept) → ℕ → ℕ → Kept
kept_at rows level place = slice_index_or (level_kept rows level) place (recount 0 [])

-- one domain keeps this
abbrev pub with_kept : List (List Kept) → Node → Kept → List (List Kept)
with_kept rows n k = slice_set rows (n.level - 1) (slice_set (level_kept rows n.level) n.place k)

-- the states of the cores below a node of these levels, cut out of those of all cores
abbrev pub states_in : List (List ℕ) → List CoreState → Node → List CoreState
states_in levels cores n = take (span levels n).count (drop (span levels n).first cores)

-- known starts of 32 bits
abbrev pub AreSmall : List CoreState → Type 0
AreSmall cores = All (λ (c : CoreState). c.known ≤ 2 ^ 32) cores

-- a place for each domain above the cores
pub record HasRows (levels : List (List ℕ)) (rows : List (List Kept)) : Type 0 where
  pub height : length rows ≡ length levels
  pub domains : (level : ℕ) → 0 < level → level ≤ length levels
      → length (level_kept rows level) ≡ size_below (drop level levels)

-- each domain of a level keeps what is so of the cores below it
abbrev pub IsKeptOn : List (List ℕ) → List CoreState → List (List Kept) → ℕ → Type 0
IsKeptOn levels cores rows level = (place : ℕ) → place < size_below (drop level levels)
    → Keeps level (kept_at rows level place)
    (states_in levels cores (record { level = level; place = place }))

-- and so does each domain above the cores
pub record AreKept (levels : List (List ℕ)) (cores : List CoreState) (rows : List (List Kept))
    : Type 0 where
  pub shape : HasRows levels rows
  pub small : AreSmall cores
  pub each : (level : ℕ) → 0 < level → level ≤ length levels → IsKeptOn levels cores rows level

-- what is kept of as many cores, once they are off and their starts forgotten
abbrev pub gone : Kept → Kept
gone k = recount 0 (replicate k.cores never_started)

-- what the domains of a level keep, while every core is off and was never started
pub record IsOffRow (levels : List (List ℕ)) (level : ℕ) (row : List Kept) : Type 0 where
  pub count : length row ≡ size_below (drop level levels)
  pub each : (place : ℕ) → place < length row
      → Keeps level (slice_index_or row place (recount 0 []))
      (replicate (span levels (record { level = level; place = place })).count never_started)
