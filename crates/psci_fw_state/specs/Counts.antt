-- How many of the cores below each power domain are ON, and how many ON_PENDING.
use Rattle.std.specs.Prelude.{◌+◌, ◌-◌, ◌<◌, ◌^◌, ◌≡◌, ◌≤◌, [], drop, if◌then◌else◌, length}
use Rattle.std.specs.Prelude.{List, nat_lt, slice_index_or, slice_set, ℕ}
use Rattle.std.specs.List.{count_by}
use Rattle.psci_board.specs.declared.draft.Node.{Node}
use Rattle.psci_board.specs.Board.{BoardValue, IsBoard, below_in, cores, size_below}
use Rattle.psci_fw_spec.specs.declared.status.Status.{Status}
use Rattle.psci_fw_spec.specs.declared.status.Status.TheVariants.{On, Off, Pending}
use Rattle.psci_fw_spec.specs.PowerCalls.{is_on, is_pending_status}
use Rattle.psci_fw_state.specs.declared.counts.StatusCounts.{StatusCounts}
use Rattle.psci_fw_state.specs.declared.row.CoreRow.{CoreRow}

-- what is counted of no core
abbrev pub no_cores : StatusCounts
no_cores = record { on = 0; pending = 0 }

-- what is counted of one core of this status
abbrev pub one_core : Status → StatusCounts
one_core status = record {
  on = if is_on status then 1 else 0;
  pending = if is_pending_status status then 1 else 0;
}

-- what is counted of the cores below a domain of these levels
unfoldable pub counts_below : List (List ℕ) → (ℕ → Status) → Node → StatusCounts
counts_below levels status n = record {
  on = count_by (λ c. is_on (status c)) (below_in levels n);
  pending = count_by (λ c. is_pending_status (status c)) (below_in levels n);
}

-- the status of cores together: ON where one is ON, else ON_PENDING where one is, else OFF
abbrev pub status_counted : StatusCounts → Status
status_counted k = if nat_lt 0 k.on then On else (if nat_lt 0 k.pending then Pending else Off)

-- what is counted once something else is counted of one of the cores than before
abbrev pub recounted : StatusCounts → StatusCounts → StatusCounts → StatusCounts
recounted k before after = record {
  on = k.on + after.on - before.on;
  pending = k.pending + after.pending - before.pending;
}

-- so the numbers stay in range
pub record MayRecount (k before after : StatusCounts) : Type 0 where
  pub on : before.on ≤ k.on + after.on
  pub pending : before.pending ≤ k.pending + after.pending
  pub few_on : k.on + after.on < 2 ^ 16
  pub few_pending : k.pending + after.pending < 2 ^ 16

-- Kept -------------------------------------------------------------------------------------------

-- what is kept of the domains of a level, from level 1 up
abbrev pub level_counts : List (List StatusCounts) → ℕ → List StatusCounts
level_counts kept level = slice_index_or kept (level - 1) []

-- what is kept of the domain of this level and place
abbrev pub counts_at : List (List StatusCounts) → ℕ → ℕ → StatusCounts
counts_at kept level place = slice_index_or (level_counts kept level) place no_cores

-- what is kept of one domain is another count
abbrev pub with_counts : List (List StatusCounts) → Node → StatusCounts → List (List StatusCounts)
with_counts kept n k =
    slice_set kept (n.level - 1) (slice_set (level_counts kept n.level) n.place k)

-- a place for each domain above the cores
pub record HasDomains (levels : List (List ℕ)) (kept : List (List StatusCounts)) : Type 0 where
  pub height : length kept ≡ length levels
  pub domains : (level : ℕ) → 0 < level → level ≤ length levels
      → length (level_counts kept level) ≡ size_below (drop level levels)

-- what is kept of each domain above the cores is what is counted of the cores below it
pub record AreCounts (levels : List (List ℕ)) (status : ℕ → Status)
    (kept : List (List StatusCounts)) : Type 0 where
  pub shape : HasDomains levels kept
  pub each : (level place : ℕ) → 0 < level → level ≤ length levels
      → place < size_below (drop level levels) → counts_at kept level place
      ≡ counts_below levels status (record { level = level; place = place })

-- a row is kept of each core of a board, and of each of its domains what is counted of cores of
-- these statuses
pub record AreCounted (b : BoardValue) (status : ℕ → Status) (rows : List CoreRow)
    (kept : List (List StatusCounts)) : Type 0 where
  pub board : IsBoard b
  pub count : length rows ≡ cores b
  pub counts : AreCounts b.levels status kept
