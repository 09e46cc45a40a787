-- Why what the closures of these tests capture may cross threads.
use denote.Param.Send.{IsSend, IsSync, recorded_send, struct_send, plain_send, shr_send}
use denote.Ref.{NamedLft, ShrRef}
use denote.Plain.{UInt}
use denote.RattleType.{RattleType}
use denote.Struct.Declared.{shape}
use denote.Struct.Tuple.{TupleAt, field_at, type_at}
use mathlib.Core.List.{List, [], ◌∷◌}
use Prim.Native.Nat.{ℕ}
use mir.Syntax.{w32}
use Rattle.std.specs.declared.sync.ledger.Ledger as Ledger
use Rattle.psci_shared.specs.declared.named.Named as Named
use Rattle.psci_shared.specs.contracts.shared.SharedFirmware as Shared
use Rattle.psci_shared.proofs.Crossing.{pass, shared, the_pass}

module _ (N : RattleType) (named : Named.Ghosts N.Denot) (ledger : Ledger.Ghosts N.Denot) where
  -- a closure's: the runtime, the firmware, a pass and a number
  pub captured_calls :
      (name : List ℕ) (a b c : NamedLft) (R : RattleType) → IsSync R →
      IsSend (TupleAt name
      (ShrRef a.mir a.lft R ∷ ShrRef b.mir b.lft (Shared.the_row c N named ledger) ∷
      the_pass N named ledger ∷ UInt w32 ∷ []))
  captured_calls name a b c R y =
      let rows : List RattleType =
      ShrRef a.mir a.lft R ∷ ShrRef b.mir b.lft (Shared.the_row c N named ledger) ∷
      the_pass N named ledger ∷ UInt w32 ∷ [] in
      recorded_send (field_at name rows).row _ _ (type_at name rows).to_one
      (struct_send (shape (type_at name rows)) (
        shr_send _ _ _ y,
        (
          shr_send _ _ _ (shared N named ledger c),
          (pass N named ledger, (plain_send _ _ _ _ _, tt)),
        ),
      ))
