-- Worked examples of counts that are not those of the cores below a power domain, and of what may
-- not be taken away from them: an uneven board of height 2.
use Rattle.std.proofs.Common.{◌≡◌, ℕ, zero, suc, ◌<◌, ◌≤◌, List, [], ◌∷◌, length, drop, get_or}
use Rattle.std.proofs.Common.{refl, ap, arith}
use Rattle.psci_board.specs.declared.draft.Node.{Node}
use Rattle.psci_board.specs.Board.{size_below}
use Rattle.psci_fw_spec.specs.declared.status.Status.{Status}
use Rattle.psci_fw_spec.specs.declared.status.Status.TheVariants.{On, Off, Pending}
use Rattle.psci_fw_state.specs.declared.counts.StatusCounts.{StatusCounts}
use Rattle.psci_fw_state.specs.Counts.{AreCounts, HasDomains, MayRecount, counts_at, counts_below}
use Rattle.psci_fw_state.specs.Counts.{level_counts, one_core, with_counts}

-- so many ON, and so many ON_PENDING
abbrev count : ℕ → ℕ → StatusCounts
count on pending = record { on = on; pending = pending }

abbrev node : ℕ → ℕ → Node
node level place = record { level = level; place = place }

-- the statuses of the cores, from the first one on; any other is OFF
abbrev cores_are : List Status → ℕ → Status
cores_are statuses c = get_or statuses c Off

-- Counted anew -----------------------------------------------------------------------------------

none_to_take_away : MayRecount (count 0 3) (one_core On) (one_core Off) → ⊥
none_to_take_away h = let e : 1 ≤ 0 = h.on in omega arith

none_pending_to_take_away : MayRecount (count 3 0) (one_core Pending) (one_core On) → ⊥
none_pending_to_take_away h = let e : 1 ≤ 0 = h.pending in omega arith

too_many_on : MayRecount (count 65535 0) (one_core Off) (one_core On) → ⊥
too_many_on h = let e : 65536 < 65536 = h.few_on in omega arith

too_many_pending : MayRecount (count 0 65535) (one_core Off) (one_core Pending) → ⊥
too_many_pending h = let e : 65536 < 65536 = h.few_pending in omega arith

-- Below a domain ---------------------------------------------------------------------------------

-- height 2: clusters of one, three and two cores
abbrev uneven : List (List ℕ)
uneven = (1 ∷ 3 ∷ 2 ∷ []) ∷ (3 ∷ []) ∷ []

abbrev statuses : ℕ → Status
statuses = cores_are (Pending ∷ On ∷ Off ∷ Pending ∷ Off ∷ On ∷ [])

-- Kept -------------------------------------------------------------------------------------------

abbrev kept : List (List StatusCounts)
kept = (count 0 1 ∷ count 1 1 ∷ count 1 0 ∷ []) ∷ (count 2 2 ∷ []) ∷ []

places : (level : ℕ) → 0 < level → level ≤ length uneven
    → length (level_counts kept level) ≡ size_below (drop level uneven)
places zero some top = absurd (omega arith)
places (suc zero) some top = refl
places (suc (suc zero)) some top = refl
places (suc (suc (suc level))) some top = absurd (omega (arith, top))

each : (level place : ℕ) → 0 < level → level ≤ length uneven
    → place < size_below (drop level uneven)
    → counts_at kept level place ≡ counts_below uneven statuses (node level place)
unfolding counts_below
each zero place some top inside = absurd (omega arith)
each (suc zero) zero some top inside = refl
each (suc zero) (suc zero) some top inside = refl
each (suc zero) (suc (suc zero)) some top inside = refl
each (suc zero) (suc (suc (suc place))) some top inside = absurd (omega (arith, inside))
each (suc (suc zero)) zero some top inside = refl
each (suc (suc zero)) (suc place) some top inside = absurd (omega (arith, inside))
each (suc (suc (suc level))) place some top inside = absurd (omega (arith, top))

kept_so : AreCounts uneven statuses kept
kept_so = record { shape = record { height = refl; domains = places }; each = each }

-- a level has no counts; a domain of a level has none
level_is_missing : HasDomains uneven ((count 0 1 ∷ count 1 1 ∷ count 1 0 ∷ []) ∷ []) → ⊥
level_is_missing h = let e : ◌≡◌ {A = ℕ} 1 2 = h.height in omega arith

domain_is_missing : HasDomains uneven ((count 0 1 ∷ count 1 1 ∷ []) ∷ (count 2 2 ∷ []) ∷ []) → ⊥
domain_is_missing h =
    let e : ◌≡◌ {A = ℕ} 2 3 = h.domains 1 (omega arith) (omega arith) in omega arith

-- counts of others: core 1 is ON, and not counted so below its cluster, nor below the system
cluster_counts_others : AreCounts uneven statuses (with_counts kept (node 1 1) (count 0 1)) → ⊥
unfolding counts_below
cluster_counts_others h =
    let e : ◌≡◌ {A = ℕ} 0 1 =
    ap (λ (k : StatusCounts). k.on) (h.each 1 1 (omega arith) (omega arith) (omega arith)) in
    omega arith

system_counts_others : AreCounts uneven statuses (with_counts kept (node 2 0) (count 2 1)) → ⊥
unfolding counts_below
system_counts_others h =
    let e : ◌≡◌ {A = ℕ} 1 2 =
    ap (λ (k : StatusCounts). k.pending) (h.each 2 0 (omega arith) (omega arith) (omega arith)) in
    omega arith
