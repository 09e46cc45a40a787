-- Worked examples: sides of the power controller of which just one thing is not so that holds of a
-- side, of a port, or after a call.
use Rattle.std.proofs.Common.{◌∙◌, ◌∷◌, ◌≡◌, [], ap, arith, false, length, List, map, None, refl}
use Rattle.std.proofs.Common.{Some, sym, true, ℕ}
use Rattle.std.proofs.lemmas.Option.{none-some}
use Rattle.std.proofs.lemmas.Bool.{eqb-false, false≢true}
use Rattle.psci_board.specs.Board.{cores}
use Rattle.psci_ctl.specs.declared.level.DomainRow.{DomainRow}
use Rattle.psci_ctl.specs.declared.row.CoreRow.{CoreRow}
use Rattle.psci_messages.specs.Message.{MessageValue}
use Rattle.psci_messages.specs.declared.kind.Kind.TheVariants.{Down}
use Rattle.psci_messages.specs.declared.start.Cause.TheVariants as causes
use Rattle.psci_messages.specs.declared.start.Start.{Start}
use Rattle.psci_ctl_spec.specs.declared.call.CtlCall.TheVariants as calls
use Rattle.psci_ctl_spec.specs.Values.{Values}
use Rattle.psci_world_spec.specs.psci_abi.declared.registers.Regs.{Regs}
use Rattle.psci_world_spec.specs.declared.said.Said.TheVariants.{Absent}
use Rattle.psci_world_spec.proofs.Scripts.{board, computing, one_core}
use Rattle.psci_port.specs.Port.{Arms, Calls, cold, Cuts, Delivers, Enters, Finishes, gone_to}
use Rattle.psci_port.specs.Port.{Locks, Opens, Port, Reboots, Resets, Restarts, Rises, Rouses}
use Rattle.psci_port.specs.Port.{Sleeps, Stands, step, Takes, TakesUp, Turns, Unlocks, Wakes}
use Rattle.psci_port.specs.Port.{Writes}
use Rattle.psci_port.specs.Stages.{Armed}
use Rattle.psci_control.specs.declared.gate.Gate.{Gate}
use Rattle.psci_control.specs.ControlSide.{board_of, closed, ControlValue, gate_in, heard, holding}
use Rattle.psci_control.specs.ControlSide.{IsAsked, IsControlSide, IsWaiting, values_of, with_gate}
use Rattle.psci_control.specs.SideOf.{ArmedLacks, IsNew, IsRightly, IsSideOf, is_apart}
use Rattle.psci_control.proofs.Asked.{blank_at}

-- A side ------------------------------------------------------------------------------------------

abbrev on_row : DomainRow
on_row = record { depth = 0; starts = 1 }

abbrev off_row : DomainRow
off_row = record { depth = 3; starts = 0 }

abbrev off_core : CoreRow
off_core = record { starts = 0; cause = causes.Boot }

-- as the first life begins, of two clusters of two cores
abbrev side : ControlValue
side = record {
  controller = record {
    board = board;
    life = Some 1;
    cores = record { starts = 1; cause = causes.Boot } ∷ off_core ∷ off_core ∷ off_core ∷ [];
    domains = (on_row ∷ off_row ∷ off_row ∷ off_row ∷ []) ∷ (on_row ∷ off_row ∷ [])
        ∷ (on_row ∷ []) ∷ [];
  };
  gates = closed ∷ closed ∷ closed ∷ closed ∷ [];
}

abbrev down : ℕ → MessageValue
down c = record {
  kind = Down;
  core = record { number = c };
  life = 1;
  number = 1;
  parts = record { level = 0; depth = 3; generation = 1 } ∷ [];
}

-- nothing waits
is_side : IsControlSide side
is_side = record {
  gates = refl;
  waiting = λ c m at. absurd (none-some m (sym (ap (λ (g : Gate). g.waiting) (blank_at 4 c)) ∙ at));
}

too_few_gates : IsControlSide (record side { gates = closed ∷ [] }) → ⊥
too_few_gates is = eqb-false 1 4 refl is.gates

-- what waits is of its core, and of the board
waits_of_another : IsControlSide (with_gate side 1 (holding (down 0) closed)) → ⊥
waits_of_another is = eqb-false 0 1 refl (is.waiting 1 (down 0) refl).core

waits_of_no_core : IsWaiting board 4 (down 4) → ⊥
waits_of_no_core is = let low = is.board.core in absurd (omega (arith, low))

-- What is asked -----------------------------------------------------------------------------------

-- a reset of core 3 starts it, on the same board
nothing_was_done : IsAsked (calls.Reset (record { number = 3 })) side side → ⊥
unfolding computing
nothing_was_done is = eqb-false 0 1 refl (ap (λ (v : Values). v.starts 3) is.values)

of_another_board : (t : ControlValue) → board_of t ≡ one_core
    → IsAsked (calls.Reset (record { number = 3 })) side t → ⊥
of_another_board t at is = eqb-false 1 4 refl (ap cores (sym at) ∙ ap cores is.board)

-- and forgets nothing; the end of a life does
forgets : (t : ControlValue) → t.gates ≡ []
    → IsAsked (calls.Reset (record { number = 3 })) side t → ⊥
unfolding computing
forgets t at is =
    eqb-false 0 4 refl (ap (λ (gs : List Gate). length gs) (sym at)
    ∙ ap (λ (gs : List Gate). length gs) is.gates)

-- A side of a port --------------------------------------------------------------------------------

-- a side of which this is so is not that of a port as its power comes on
abbrev NotOf : (ControlValue → Type 0) → Type 0
NotOf Is = (s : ControlValue) → Is s → IsSideOf board s (cold board []) → ⊥

abbrev start_1 : Start
start_1 = record { life = 1; number = 1; cause = causes.Boot }

other_board : NotOf (λ s. board_of s ≡ one_core)
other_board s at is = eqb-false 1 4 refl (ap cores (sym at) ∙ ap cores is.board)

other_values : NotOf (λ s. (values_of s).life ≡ None)
other_values s at is = none-some 1 (sym at ∙ ap (λ (v : Values). v.life) is.values)

other_door : NotOf (λ s. (gate_in s.gates 3).written ≡ Some start_1)
other_door s at is = none-some start_1 (sym (is.written 3 (omega arith)) ∙ at)

other_opened : NotOf (λ s. (gate_in s.gates 3).opened ≡ 1)
other_opened s at is = eqb-false 1 0 refl (sym at ∙ is.opened 3 (omega arith))

later_word : NotOf (λ s. heard s 3 ≡ 1)
later_word s at is = let low = is.heard 3 (omega arith) in absurd (omega (arith, at, low))

-- As power comes on -------------------------------------------------------------------------------

not_new : ((s : ControlValue) → board_of s ≡ one_core → IsNew board s → ⊥)
    × ((s : ControlValue) → (values_of s).life ≡ None → IsNew board s → ⊥)
    × ((s : ControlValue) → s.gates ≡ [] → IsNew board s → ⊥)
not_new = (
  λ s at is. eqb-false 1 4 refl (ap cores (sym at) ∙ ap cores is.board),
  λ s at is. none-some 1 (sym at ∙ ap (λ (v : Values). v.life) is.values),
  λ s at is. eqb-false 0 4 refl (ap (λ (gs : List Gate). length gs) (sym at)
      ∙ ap (λ (gs : List Gate). length gs) is.gates),
)

-- An act ------------------------------------------------------------------------------------------

-- the boot core can't be woken as it goes to its door, and who writes its door has it written
no_wake_at_the_door : (s : ControlValue) → IsRightly board s (cold board []) (Wakes 0) → ⊥
no_wake_at_the_door s is = false≢true is.may.1

unwritten : (s : ControlValue) → (gate_in s.gates 0).written ≡ None
    → IsRightly board s (cold board []) (Writes 0) → ⊥
unfolding step
unwritten s at is = none-some _ (sym at ∙ is.side.written 0 (omega arith))

abbrev armed_with_the_lock : Port
armed_with_the_lock = record (gone_to (cold board []) 3 Armed) { lock = Some 3 }

holds_it : ArmedLacks armed_with_the_lock 3 → ⊥
holds_it lacks = lacks refl refl

none_is_armed : ArmedLacks (record (cold board []) { lock = Some 3 }) 3
none_is_armed armed = absurd (false≢true armed)

abbrev regs : Regs
regs = record { x0 = 0x84000000; x1 = 0; x2 = 0; x3 = 0 }

-- which acts are the power controller's
whose : map is_apart (Locks 0 ∷ Unlocks 0 ∷ Calls 0 regs Absent ∷ Enters 0 Absent
    ∷ Takes 0 0 Absent ∷ Finishes 0 ∷ TakesUp 0 ∷ Stands 0 ∷ Arms 0 ∷ Sleeps 0
    ∷ Delivers 0 (down 0) ∷ Wakes 0 ∷ Resets 0 ∷ Rouses 0 ∷ Rises 0 ∷ Turns 0 ∷ Writes 0
    ∷ Opens 0 ∷ Cuts 0 0 ∷ Restarts ∷ Reboots ∷ [])
    ≡ true ∷ true ∷ true ∷ true ∷ true ∷ true ∷ true ∷ true ∷ true ∷ true ∷ false ∷ false ∷ false
    ∷ true ∷ false ∷ true ∷ false ∷ false ∷ true ∷ false ∷ false ∷ []
whose = refl
