-- Worked examples of what no firmware keeps, before any core has entered and after it; of who may
-- not call; and of messages that are not for the system.
use Rattle.std.proofs.Common.{◌≡◌, ℕ, ◌<◌, ◌≤◌, [], ◌∷◌, true, false, None, refl, ap, arith}
use Rattle.psci_state.specs.declared.cores.Activity.TheVariants as activities
use Rattle.psci_fw_spec.specs.declared.mode.SuspendMode.TheVariants.{OsInitiated, Platform}
use Rattle.psci_fw_spec.specs.declared.status.Status.TheVariants as statuses
use Rattle.psci_fw_spec.specs.Changes.{start_of_life}
use Rattle.psci_fw_spec.specs.Phases as phases
use Rattle.psci_fw_spec.specs.Values.{Values}
use Rattle.psci_messages.specs.declared.kind.Kind.TheVariants as kinds
use Rattle.psci_fw_state.specs.Seen.{values_in}
use Rattle.psci_fw.specs.Reactions.{FirmwareValue, IsFirmware, IsFresh, IsOfSystem, MayCall}
use Rattle.psci_fw_state.proofs.KeptRows.{board}

-- in this life core 0 runs, core 1 is asked on, and the second cluster is in standby
abbrev firmware : ℕ → FirmwareValue
firmware life = record {
  board = board;
  life = life;
  halting = false;
  mode = OsInitiated;
  tree = record {
    levels = board.levels;
    cores =
        record { activity = activities.Active; known = 1 }
        ∷ record { activity = activities.Active; known = 0 }
        ∷ record { activity = activities.Away; known = 2 }
        ∷ record { activity = activities.Away; known = 5 } ∷ [];
    granted = (0 ∷ 0 ∷ 3 ∷ 3 ∷ []) ∷ (0 ∷ 1 ∷ []) ∷ (0 ∷ []) ∷ [];
    confirmed = (0 ∷ 0 ∷ 3 ∷ 0 ∷ []) ∷ (0 ∷ 1 ∷ []) ∷ (0 ∷ []) ∷ [];
  };
  rows =
      record { status = statuses.On; opening = None }
      ∷ record { status = statuses.Pending; opening = None }
      ∷ record { status = statuses.Off; opening = None }
      ∷ record { status = statuses.Off; opening = None } ∷ [];
  counts =
      (record { on = 1; pending = 1 } ∷ record { on = 0; pending = 0 } ∷ [])
      ∷ (record { on = 1; pending = 1 } ∷ []) ∷ [];
  slots = record { cores = None ∷ None ∷ None ∷ None ∷ []; system = None };
}

-- Before any core has entered --------------------------------------------------------------------

new_firmware : IsFresh board (start_of_life board 0)
new_firmware = record { same = λ e. refl }

-- once a core has entered the values may be any
fresh_in_life_2 : IsFresh board (values_in (firmware 2))
unfolding values_in
fresh_in_life_2 = record { same = λ e. let no : 2 ≡ 0 = e in absurd (omega arith) }

values_before_a_life : IsFresh board (values_in (firmware 0)) → ⊥
unfolding values_in
values_before_a_life h =
    let e : OsInitiated ≡ Platform = ap (λ (x : Values). x.mode) (h.same refl) in absurd (cc)

halting_before_a_life : IsFresh board (record (start_of_life board 0) { halting = true }) → ⊥
halting_before_a_life h =
    let e : true ≡ false = ap (λ (x : Values). x.halting) (h.same refl) in absurd (cc)

started_before_a_life : IsFresh board (record (start_of_life board 0) { known = λ c. 1 }) → ⊥
started_before_a_life h =
    let e : ◌≡◌ {A = ℕ} 1 0 = ap (λ (x : Values). x.known 0) (h.same refl) in omega arith

-- What holds of every firmware ------------------------------------------------------------------

board_without_levels : IsFirmware (record (firmware 2) { board = record board { levels = [] } })
    → ⊥
board_without_levels h = let e : 0 < 0 = h.board.low in omega (arith, e)

started_beyond_the_limit : IsFirmware (record (firmware 2) { board = record board { starts = 4 } })
    → ⊥
unfolding values_in
started_beyond_the_limit h = let e : 5 ≤ 4 = h.values.known 3 in omega (arith, e)

called_before_a_life : IsFirmware (firmware 0) → ⊥
called_before_a_life h = values_before_a_life h.fresh

-- Calls -------------------------------------------------------------------------------------------

off_core_calls : MayCall (firmware 2) 3 → ⊥
unfolding values_in
off_core_calls h = let e : phases.Away ≡ phases.Running = h.running in absurd (cc)

pending_core_calls : MayCall (firmware 2) 1 → ⊥
unfolding values_in
pending_core_calls h = let e : phases.Pending ≡ phases.Running = h.running in absurd (cc)

core_beside_the_board_calls : MayCall (firmware 2) 4 → ⊥
core_beside_the_board_calls h = let e : 4 < 4 = h.inside in omega arith

halting_life_is_called : MayCall (record (firmware 2) { halting = true }) 0 → ⊥
unfolding values_in
halting_life_is_called h = let e : true ≡ false = h.awake in absurd (cc)

-- Messages for the system -------------------------------------------------------------------------

for_the_system : IsOfSystem kinds.Off × IsOfSystem kinds.Reset
for_the_system = (tt, tt)

down_is_of_a_core : IsOfSystem kinds.Down → ⊥
down_is_of_a_core h = h

start_is_of_a_core : IsOfSystem kinds.Start → ⊥
start_is_of_a_core h = h
