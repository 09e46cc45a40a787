-- Worked examples: what no event leaves.
use Rattle.std.proofs.Common.{◌≡◌, ◌<◌, [], ◌∷◌, None, Some, refl, arith, ap, sym, subst, ◌∙◌}
use Rattle.std.proofs.Common.{◌+◌}
use Rattle.std.proofs.lemmas.Bool.{eqb-false}
use Rattle.psci_fw.specs.psci_board.Board.{BoardValue, cores}
use Rattle.psci_ctl.specs.Seen as controller
use Rattle.psci_ctl.specs.psci_ctl_spec.Replies.{after as changed}
use Rattle.psci_ctl.specs.psci_ctl_spec.Values as controlled
use Rattle.psci_fw.specs.Reactions as firmware
use Rattle.psci_fw.specs.psci_fw_spec.Values as kept
use Rattle.psci_fw.specs.psci_messages.declared.start.Cause.TheVariants as causes
use Rattle.psci_world_spec.specs.declared.event.Event.TheVariants.{Enter, Wake}
use Rattle.psci_world_spec.specs.declared.place.Place.TheVariants.{Running, Stopped}
use Rattle.psci_world_spec.specs.declared.said.Said.TheVariants.{Absent}
use Rattle.psci_world_spec.proofs.Scripts.{board, computing, one_core, started}
use Rattle.psci_machine.specs.Seen.{IsNext, machine_board, MachineValue, place_in}
use Rattle.psci_machine.proofs.SeenRows.{no_life_is_one, stopped_starts}

-- One event more --------------------------------------------------------------------------------

-- a machine of this board, and one of the next board
board_stays : (old new : MachineValue) → machine_board old ≡ board → machine_board new ≡ one_core
    → IsNext [] [] old (Enter 9) Absent new → ⊥
board_stays old new at other is =
    eqb-false 1 4 refl (ap cores (sym other) ∙ ap cores is.board ∙ ap cores at)

-- nothing happens, and the life is another one
firmware_stays : (old new : MachineValue) → (firmware.seen old.firmware).life ≡ 1
    → (firmware.seen new.firmware).life ≡ 2 → IsNext [] [] old (Enter 9) Absent new → ⊥
firmware_stays old new one two is =
    eqb-false 2 1 refl (sym two ∙ ap (λ (v : kept.Values). v.life) is.firmware ∙ one)

controller_stays : (old new : MachineValue) → (controller.seen old.controller).life ≡ Some 1
    → (controller.seen new.controller).life ≡ None → IsNext [] [] old (Enter 9) Absent new → ⊥
controller_stays old new one none is =
    no_life_is_one 1 (sym none ∙ ap (λ (v : controlled.Values). v.life) is.controller ∙ one)

-- core 3 is woken, and stays where it was
woken_core_starts : (old new : MachineValue) → machine_board old ≡ board
    → new.places ≡ Running ∷ Stopped ∷ Stopped ∷ Stopped ∷ []
    → IsNext [] [] old (Wake 3) (started 1 1 causes.Wake) new → ⊥
unfolding computing
woken_core_starts old new at places is =
    let inside : 3 < cores (machine_board old) =
    subst (λ (b : BoardValue). 3 < cores b) (sym at) (omega arith) in
    stopped_starts (ap (λ xs. place_in xs 3) (sym places) ∙ is.places 3 inside)

-- core 3 is woken, and is not started for the power controller
woken_core_was_started : (old new : MachineValue) → (controller.seen old.controller).starts 3 ≡ 0
    → (controller.seen new.controller).starts 3 ≡ 0
    → IsNext [] [] old (Wake 3) (started 1 1 causes.Wake) new → ⊥
unfolding computing changed
woken_core_was_started old new before none is =
    eqb-false 0 1 refl
    (sym none ∙ ap (λ (v : controlled.Values). v.starts 3) is.controller ∙ ap (λ n. n + 1) before)
