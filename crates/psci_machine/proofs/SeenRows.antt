-- Worked examples: machines of which just one thing is not so that holds of every machine, or after
-- some records.
use Rattle.std.proofs.Common.{◌<◌, ◌∙◌, ◌∷◌, ◌≡◌, [], ap, arith, length, List, None, refl, Some}
use Rattle.std.proofs.Common.{sym, ℕ}
use Rattle.std.proofs.lemmas.Bool.{eqb-false}
use Rattle.psci_fw.specs.psci_board.Board.{BoardValue, cores}
use Rattle.psci_ctl.specs.Seen as controller
use Rattle.psci_ctl.specs.psci_ctl_spec.Values as controlled
use Rattle.psci_fw.specs.Reactions as firmware
use Rattle.psci_fw.specs.psci_fw_spec.declared.mode.SuspendMode.TheVariants.{OsInitiated}
use Rattle.psci_fw.specs.psci_fw_spec.declared.mode.SuspendMode.TheVariants.{Platform}
use Rattle.psci_fw.specs.psci_fw_spec.declared.status.Status.TheVariants as statuses
use Rattle.psci_fw.specs.psci_fw_spec.Values as kept
use Rattle.psci_world_spec.specs.declared.event.Event.TheVariants.{Deliver, Enter, Wake}
use Rattle.psci_world_spec.specs.declared.place.Place.TheVariants.{Running, Started, Stopped}
use Rattle.psci_world_spec.specs.declared.said.Record.{Record}
use Rattle.psci_world_spec.specs.Legal.{run_from}
use Rattle.psci_world_spec.proofs.Scripts.{board, computing, on_3, one_core, system_reset, tall}
use Rattle.psci_machine.specs.Seen.{IsAfter, IsMachine, MachineValue, machine_board, place_in}

-- What differs --------------------------------------------------------------------------------

pub stopped_starts : Stopped ≡ Started → ⊥
stopped_starts e = cc

started_runs : Started ≡ Running → ⊥
started_runs e = cc

off_is_pending : statuses.Off ≡ statuses.Pending → ⊥
off_is_pending e = cc

other_mode : OsInitiated ≡ Platform → ⊥
other_mode e = cc

pub no_life_is_one : (life : ℕ) → None ≡ Some life → ⊥
no_life_is_one life e = cc

-- After records -------------------------------------------------------------------------------

-- core 3 was asked on and started, and has not entered
abbrev asked_on : List Record
asked_on = run_from board [] (Enter 0 ∷ on_3 ∷ Deliver 0 ∷ [])

-- three levels above the cores, in life 2: the boot core runs, core 3 was woken
abbrev second_life : List Record
second_life =
    run_from tall [] (Enter 0 ∷ system_reset 0 ∷ Deliver 0 ∷ Enter 0 ∷ Wake 3 ∷ [])

-- a machine of which this is so is not as after these records
abbrev NotAfter : BoardValue → List Record → (MachineValue → Type 0) → Type 0
NotAfter b past Is = (m : MachineValue) → Is m → IsAfter b past m → ⊥

of_another_board : NotAfter board asked_on (λ m. machine_board m ≡ one_core)
of_another_board m at is = eqb-false 1 4 refl (ap cores (sym at) ∙ ap cores is.board)

-- core 3 is stopped, the boot core is started, core 3 is where it was in the life before
other_places :
    NotAfter board asked_on (λ m. m.places ≡ Running ∷ Stopped ∷ Stopped ∷ Stopped ∷ [])
    × NotAfter board asked_on (λ m. m.places ≡ Started ∷ Stopped ∷ Stopped ∷ Started ∷ [])
    × NotAfter tall second_life (λ m. m.places ≡ Running ∷ Stopped ∷ Stopped ∷ Stopped ∷ [])
unfolding computing
other_places = (
  λ m at is. stopped_starts (ap (λ xs. place_in xs 3) (sym at) ∙ is.places 3 (omega arith)),
  λ m at is. started_runs (ap (λ xs. place_in xs 0) (sym at) ∙ is.places 0 (omega arith)),
  λ m at is. stopped_starts (ap (λ xs. place_in xs 3) (sym at) ∙ is.places 3 (omega arith)),
)

-- the firmware has no life, is in the life before, has its target off still, is in the other mode
other_firmware : NotAfter board asked_on (λ m. (firmware.seen m.firmware).life ≡ 0)
    × NotAfter tall second_life (λ m. (firmware.seen m.firmware).life ≡ 1)
    × NotAfter board asked_on (λ m. (firmware.seen m.firmware).status 3 ≡ statuses.Off)
    × NotAfter board asked_on (λ m. (firmware.seen m.firmware).mode ≡ OsInitiated)
unfolding computing
other_firmware = (
  λ m at is. eqb-false 0 1 refl (sym at ∙ ap (λ (v : kept.Values). v.life) is.firmware),
  λ m at is. eqb-false 1 2 refl (sym at ∙ ap (λ (v : kept.Values). v.life) is.firmware),
  λ m at is. off_is_pending (sym at ∙ ap (λ (v : kept.Values). v.status 3) is.firmware),
  λ m at is. other_mode (sym at ∙ ap (λ (v : kept.Values). v.mode) is.firmware),
)

-- the power controller has no life, did not start core 3, has the system asleep
other_controller : NotAfter board asked_on (λ m. (controller.seen m.controller).life ≡ None)
    × NotAfter board asked_on (λ m. (controller.seen m.controller).starts 3 ≡ 0)
    × NotAfter tall second_life (λ m. (controller.seen m.controller).depth 3 0 ≡ 3)
unfolding computing
other_controller = (
  λ m at is. no_life_is_one 1 (sym at ∙ ap (λ (v : controlled.Values). v.life) is.controller),
  λ m at is. eqb-false 0 1 refl
      (sym at ∙ ap (λ (v : controlled.Values). v.starts 3) is.controller),
  λ m at is. eqb-false 3 0 refl
      (sym at ∙ ap (λ (v : controlled.Values). v.depth 3 0) is.controller),
)

-- Every machine -------------------------------------------------------------------------------

of_two_boards : (m : MachineValue) → machine_board m ≡ board → m.controller.board ≡ one_core
    → IsMachine m → ⊥
of_two_boards m at other is =
    eqb-false 1 4 refl (ap cores (sym other) ∙ ap cores is.same ∙ ap cores at)

a_place_too_few : (m : MachineValue) → machine_board m ≡ board
    → m.places ≡ Started ∷ Stopped ∷ Stopped ∷ [] → IsMachine m → ⊥
a_place_too_few m at places is =
    eqb-false 3 4 refl (ap length (sym places) ∙ is.places ∙ ap cores at)

of_no_board : (m : MachineValue) → machine_board m ≡ record board { starts = 0 } → IsMachine m → ⊥
of_no_board m at is = let no : 0 < 0 = rw at at is.board.some_starts in absurd (omega (arith, no))
