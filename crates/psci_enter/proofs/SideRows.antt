-- Worked examples: sides, doors and firmwares of which just one thing is not so that holds of those
-- of a port, or after a call.
use Rattle.std.proofs.Common.{◌+◌, ◌<◌, ◌∙◌, ◌∷◌, ◌≡◌, [], ap, arith, Bool, false, inl, inr}
use Rattle.std.proofs.Common.{None, refl, Some, sym, true, ℕ}
use Rattle.std.specs.Prelude.{map}
use Rattle.std.proofs.lemmas.Option.{none-some}
use Rattle.std.proofs.lemmas.Bool.{eqb-false, false≢true}
use Rattle.psci_abi.specs.declared.registers.Regs.{Regs}
use Rattle.psci_board.specs.Board.{cores}
use Rattle.psci_board.specs.declared.draft.Core.{Core}
use Rattle.psci_ctl_spec.specs.Replies.{Nothing, Starts, Deepens, Ends, Begins}
use Rattle.psci_fw.specs.Reactions.{FirmwareValue, seen}
use Rattle.psci_fw_spec.specs.declared.call.FwCall.TheVariants as calls
use Rattle.psci_fw_spec.specs.Effects.{after}
use Rattle.psci_fw_spec.specs.Answer.{answer}
use Rattle.psci_fw_spec.specs.Changes.{start_of_life}
use Rattle.psci_fw_spec.specs.Values.{Values}
use Rattle.psci_messages.specs.Message.{AckValue}
use Rattle.psci_messages.specs.declared.kind.Kind.TheVariants as kinds
use Rattle.psci_messages.specs.declared.start.Cause.TheVariants as causes
use Rattle.psci_messages.specs.declared.start.Start.{Start}
use Rattle.psci_world_spec.specs.declared.event.Event.TheVariants as events
use Rattle.psci_world_spec.specs.declared.said.Said.{Said}
use Rattle.psci_world_spec.specs.declared.said.Said.TheVariants.{Absent}
use Rattle.psci_world_spec.specs.Legal.{legal_record}
use Rattle.psci_world_spec.proofs.Scripts.{board, computing, one_core}
use Rattle.psci_port.specs.Port.{Locks, Calls, Port, Stands, cold, gone_to, state, step}
use Rattle.psci_port.specs.Stages as stages
use Rattle.psci_port.specs.Stages.{Stage, looks}
use Rattle.psci_enter.specs.declared.post.Post.TheVariants.{Armed, Entering, Leaving, Running}
use Rattle.psci_enter.specs.declared.post.Post.TheVariants.{Waiting, Woken}
use Rattle.psci_enter.specs.declared.side.FirmwareSide.{FirmwareSide}
use Rattle.psci_enter.specs.Side.{IsAsked, at, fresh}
use Rattle.psci_enter.specs.SideOf.{Fits, IsAnew, IsDoor, IsFirmwareOf, IsRightly, IsSideOf, is_end}

-- A side of a port -------------------------------------------------------------------------------

abbrev core : ℕ → Core
core number = record { number = number }

abbrev start : ℕ → Start
start number = record { life = 1; number = number; cause = causes.On }

-- as power comes on
side_of_core_3 : IsSideOf board (fresh (core 3)) (cold board [])
side_of_core_3 = record { has = omega arith; used = refl; post = refl }

side_of_no_core : IsSideOf board (fresh (core 4)) (cold board []) → ⊥
side_of_no_core is = let low = is.has in absurd (omega (arith, low))

used_another : IsSideOf board (record (fresh (core 3)) { used = 1 }) (cold board []) → ⊥
used_another is = eqb-false 1 0 refl is.used

is_elsewhere : IsSideOf board (at Running (fresh (core 3))) (cold board []) → ⊥
is_elsewhere is = false≢true (sym (ap looks is.post))

-- Where a core is whose monitor is at a post
each_fits : Fits Waiting stages.Standing × Fits Waiting stages.AtDoor
    × Fits (Entering (start 2)) (stages.Entering (start 2)) × Fits Running stages.Normal
    × Fits Leaving stages.Leaving × Fits Armed stages.Armed × Fits Armed stages.Woken
    × Fits Woken stages.Woken
each_fits = (refl, refl, refl, refl, refl, inl refl, inr refl, refl)

abbrev number_of : Stage → ℕ
number_of stages.Standing = 0
number_of stages.AtDoor = 1
number_of (stages.Entering s) = s.number + 10
number_of stages.Normal = 2
number_of stages.Leaving = 3
number_of stages.Armed = 4
number_of stages.Woken = 5

fits_no_other : (Fits Waiting stages.Armed → ⊥)
    × (Fits (Entering (start 2)) (stages.Entering (start 3)) → ⊥)
    × (Fits Running stages.Leaving → ⊥) × (Fits Leaving stages.Armed → ⊥)
    × (Fits Armed stages.Standing → ⊥) × (Fits Armed stages.AtDoor → ⊥)
    × (Fits Woken stages.AtDoor → ⊥)
fits_no_other = (
  λ e. false≢true e,
  λ e. eqb-false 13 12 refl (ap number_of e),
  λ e. eqb-false 3 2 refl (ap number_of e),
  λ e. eqb-false 4 3 refl (ap number_of e),
  λ e. elim e [
    | inl is ↦ eqb-false 0 4 refl (ap number_of is)
    | inr is ↦ eqb-false 0 5 refl (ap number_of is)
  ],
  λ e. elim e [
    | inl is ↦ eqb-false 1 4 refl (ap number_of is)
    | inr is ↦ eqb-false 1 5 refl (ap number_of is)
  ],
  λ e. eqb-false 1 5 refl (ap number_of e),
)

-- A door -----------------------------------------------------------------------------------------

closed_door : IsDoor (cold board []) 0 (record { opened = 0; start = None })
closed_door = record { opened = refl; start = refl }

opened_otherwise : IsDoor (cold board []) 0 (record { opened = 1; start = None }) → ⊥
opened_otherwise is = eqb-false 1 0 refl is.opened

written_otherwise : IsDoor (cold board []) 0 (record { opened = 0; start = Some (start 1) }) → ⊥
written_otherwise is = none-some (start 1) (sym is.start)

-- A firmware -------------------------------------------------------------------------------------

-- made anew it knows no life, the controller's is later, and no core calls
knows_a_life : (f : FirmwareValue) → (seen f).life ≡ 1 → IsAnew board f (cold board []) → ⊥
knows_a_life f life is =
    eqb-false 1 0 refl (sym life ∙ ap (λ (v : Values). v.life) is.values)

abbrev entered : Port
entered = record (cold board []) { past = legal_record board [] (events.Enter 0) ∷ [] }

no_later_life : (f : FirmwareValue) → IsAnew board f entered → ⊥
unfolding computing
no_later_life f is = let low : 1 < 1 = is.later 1 refl in absurd (omega (arith, low))

a_core_runs : (f : FirmwareValue) → IsAnew board f (gone_to (cold board []) 3 stages.Normal) → ⊥
a_core_runs f is = is.none 3 refl

of_another_board : (f : FirmwareValue) → f.board ≡ one_core
    → IsFirmwareOf board f (cold board []) → ⊥
of_another_board f is of = eqb-false 1 4 refl (ap cores (sym is) ∙ ap cores of.board)

of_another_life : (f : FirmwareValue) → (seen f).life ≡ 3 → IsFirmwareOf board f (cold board [])
    → ⊥
unfolding computing
of_another_life f life of = elim of.values [
  | inl same ↦ eqb-false 3 0 refl (sym life ∙ ap (λ (v : Values). v.life) same)
  | inr anew ↦ eqb-false 3 0 refl (sym life ∙ ap (λ (v : Values). v.life) anew.values)
]

abbrev ack : AckValue
ack = record {
  kind = kinds.Down;
  core = core 3;
  life = 1;
  number = 1;
  applied = 1;
  stale = false;
}

-- What is asked leaves the board, and what the definitions say of the values
goes_to_another_board : (f g : FirmwareValue) → f.board ≡ board → g.board ≡ one_core
    → IsAsked 0 (calls.Take ack) f g → ⊥
goes_to_another_board f g old new is =
    eqb-false 1 4 refl (ap cores (sym new) ∙ ap cores is.board ∙ ap cores old)

comes_to_another_life : (f g : FirmwareValue) → seen f ≡ start_of_life board 0
    → (seen g).life ≡ 3 → IsAsked 0 (calls.Take ack) f g → ⊥
unfolding answer after
comes_to_another_life f g old new is =
    eqb-false 3 0 refl (sym new ∙ ap (λ (v : Values). v.life) is.values
    ∙ ap (λ v. (after f.board 0 (calls.Take ack) (answer f.board v 0 (calls.Take ack)) v).life)
    old)

-- An act -----------------------------------------------------------------------------------------

-- no core stands that has not stopped
may_not : (s : FirmwareSide) → IsRightly board [] s (Stands 0) → ⊥
unfolding state
may_not s is = eqb-false 1 3 refl (ap number_of is.may.0)

abbrev regs : Regs
regs = record { x0 = 0x84000000; x1 = 0; x2 = 0; x3 = 0 }

abbrev is_absent : Said → Bool
is_absent Absent = true
is_absent said = false

-- before any core has entered a call is refused
says_otherwise : (s : FirmwareSide) → IsRightly board [] s (Calls 0 regs Absent) → ⊥
unfolding computing state
says_otherwise s is = false≢true (sym (ap is_absent is.so))

leaves_otherwise : IsRightly board [] (record (fresh (core 3)) { used = 1 }) (Locks 3) → ⊥
unfolding state step
leaves_otherwise is = eqb-false 1 0 refl is.side.used

-- Acts and effects -------------------------------------------------------------------------------

which_end : map is_end (Nothing ∷ Starts 3 causes.On ∷ Deepens 3 [] ∷ Ends ∷ Begins ∷ [])
    ≡ false ∷ false ∷ false ∷ true ∷ true ∷ []
which_end = refl
