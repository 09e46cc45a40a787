-- Worked examples of rows that no power controller keeps, and of what no call leaves. Two clusters
-- of two cores; core 3 was started twice, by a wake-up, and its cluster is in retention.
use Rattle.std.proofs.Common.{◌≡◌, ℕ, List, [], ◌∷◌, Some, refl, ap, ◌++◌, arith}
use Rattle.psci_board.specs.Board.{BoardValue}
use Rattle.psci_ctl_spec.specs.psci_abi.declared.registers.Format.TheVariants.{Original}
use Rattle.psci_ctl_spec.specs.Values.{Values, starts_below}
use Rattle.psci_messages.specs.declared.start.Cause.TheVariants.{Boot, On, Wake}
use Rattle.psci_ctl.specs.declared.level.DomainRow.{DomainRow}
use Rattle.psci_ctl.specs.declared.row.CoreRow.{CoreRow}
use Rattle.psci_ctl.specs.Rows.{HasRows, HasSums, HaveRoom, values_in}
use Rattle.psci_ctl.specs.Seen.{ControllerValue, IsController, Leaves}

abbrev board : BoardValue
board = record {
  levels = (2 ∷ 2 ∷ []) ∷ (2 ∷ []) ∷ [];
  ranges = record { start = 0; end = 64 } ∷ [];
  boot = 0;
  starts = 9;
  lives = 3;
  format = Original;
}

abbrev woken : CoreRow
woken = record { starts = 2; cause = Wake }

abbrev asked_on : CoreRow
asked_on = record { starts = 4; cause = On }

abbrev off : CoreRow
off = record { starts = 0; cause = Boot }

abbrev first : CoreRow
first = record { starts = 1; cause = Boot }

abbrev cores : List CoreRow
cores = first ∷ off ∷ off ∷ woken ∷ []

abbrev at : ℕ → ℕ → DomainRow
at depth starts = record { depth = depth; starts = starts }

abbrev domains : List (List DomainRow)
domains =
    (at 0 1 ∷ at 3 0 ∷ at 3 0 ∷ at 2 2 ∷ [])
    ∷ (at 0 1 ∷ at 2 2 ∷ []) ∷ (at 0 3 ∷ []) ∷ []

abbrev values : Values
values = values_in (Some 2) cores domains

-- Shapes ------------------------------------------------------------------------------------------

-- the rows of the cores; the rows of the two clusters and of the system
abbrev row_of_cores : List DomainRow
row_of_cores = at 0 1 ∷ at 3 0 ∷ at 3 0 ∷ at 2 2 ∷ []

abbrev rows_of : List DomainRow → List DomainRow → List (List DomainRow)
rows_of clusters system = row_of_cores ∷ clusters ∷ system ∷ []

level_is_missing : HasRows board (row_of_cores ∷ (at 0 1 ∷ at 2 2 ∷ []) ∷ []) → ⊥
level_is_missing h = let e : ◌≡◌ {A = ℕ} 2 3 = h.levels in omega arith

-- one more above the system, while each level of the board has its rows
level_too_many :
    HasRows board (rows_of (at 0 1 ∷ at 2 2 ∷ []) (at 0 3 ∷ []) ++ (at 0 3 ∷ []) ∷ []) → ⊥
level_too_many h = let e : ◌≡◌ {A = ℕ} 4 3 = h.levels in omega arith

cluster_is_missing : HasRows board (rows_of (at 0 1 ∷ []) (at 0 3 ∷ [])) → ⊥
cluster_is_missing h = let e : ◌≡◌ {A = ℕ} 1 2 = h.places 1 (omega arith) in omega arith

system_is_missing : HasRows board (rows_of (at 0 1 ∷ at 2 2 ∷ []) []) → ⊥
system_is_missing h = let e : ◌≡◌ {A = ℕ} 0 1 = h.places 2 (omega arith) in omega arith

-- the system counts another sum than 3; the second cluster another than 2
system_counts_too_few : HasSums board cores (rows_of (at 0 1 ∷ at 2 2 ∷ []) (at 0 2 ∷ [])) → ⊥
unfolding starts_below
system_counts_too_few h = let e : ◌≡◌ {A = ℕ} 2 3 = h.sums 2 0 (omega arith) in omega arith

cluster_counts_itself : HasSums board cores (rows_of (at 0 1 ∷ at 2 3 ∷ []) (at 0 3 ∷ [])) → ⊥
unfolding starts_below
cluster_counts_itself h = let e : ◌≡◌ {A = ℕ} 3 2 = h.sums 1 1 (omega arith) in omega arith

-- a controller with a row too few, and one in life 2 that counts wrong
abbrev controller : List CoreRow → ControllerValue
controller rows = record { board = board; life = Some 2; cores = rows; domains = domains }

core_is_missing : IsController (controller (first ∷ off ∷ off ∷ [])) → ⊥
core_is_missing h = let e : ◌≡◌ {A = ℕ} 3 4 = h.cores in omega arith

sums_in_life_2 : IsController (controller (first ∷ off ∷ off ∷ asked_on ∷ [])) → ⊥
unfolding starts_below
sums_in_life_2 h =
    let e : ◌≡◌ {A = ℕ} 2 4 = (h.sums 2 refl).sums 1 1 (omega arith) in omega arith

-- a core that was started as often as its row can say has no room for one more; nor has another
-- core beside one that was started more often than that
no_room_for_one_more : HaveRoom (record { starts = 0xffffffff; cause = Boot } ∷ []) 0 → ⊥
no_room_for_one_more h = omega (arith, h.more)

another_has_too_many : HaveRoom (off ∷ record { starts = 0x100000000; cause = Boot } ∷ []) 0 → ⊥
another_has_too_many h = omega (arith, h.few 1)

-- What a call leaves ------------------------------------------------------------------------------

as_it_was : Leaves (controller cores) (controller cores) values
as_it_was = record { board = refl; values = refl }

-- another board, and other values
another_board : Leaves (controller cores)
    (record (controller cores) { board = record board { starts = 8 } }) values → ⊥
another_board h = omega (arith, ap (λ (b : BoardValue). b.starts) h.board)

another_count : Leaves (controller cores) (controller (off ∷ [])) values → ⊥
another_count h = omega (arith, ap (λ (v : Values). v.starts 0) h.values)
