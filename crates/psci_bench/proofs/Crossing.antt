-- Why what the threads of a run share may be shared. Of the firmware that is a lemma of its own,
-- since its power domains nest.
use denote.Param.Send.{IsSync, sendable, recorded_sync, struct_sync, shr_sync, plain_sync}
use denote.RattleType.{RattleType}
use denote.Ref.{NamedLft, ShrRef}
use denote.Struct.Declared.{shape}
use denote.Struct.Tuple.{TupleAt, field_at, type_at}
use mathlib.Core.List.{List, [], ◌∷◌}
use Prim.Native.Nat.{ℕ}
use Rattle.std.specs.declared.sync.ledger.Ledger as Ledger
use Rattle.psci_board.proofs.board.Board.TheSendSync as board
use Rattle.psci_shared.specs.declared.named.Named as Named
use Rattle.psci_shared.proofs.Crossing.{shared, controlled}
use Rattle.psci_bench.proofs.wire.Wire.TheSendSync as wire
use Rattle.psci_bench.specs.contracts.platform.Platform as Platform

module _ (N M : RattleType) (n : Named.Ghosts N.Denot) (m : Named.Ghosts M.Denot)
    (l : Ledger.Ghosts N.Denot) (k : Ledger.Ghosts M.Denot) where
  platform : (a : NamedLft) → IsSync (Platform.the_row a N M n m l k)
  platform a =
      recorded_sync (Platform.the_field a N M n m l k).row _ _
      (Platform.the_type a N M n m l k).to_one
      (struct_sync (shape (Platform.the_type a N M n m l k)) (
        search (board.the_sync, sendable),
        (
          shr_sync _ _ _ (shared N n l a),
          (
            shr_sync _ _ _ (controlled M m k a),
            (search (wire.the_sync, sendable), (plain_sync _ _ _ _ _, tt)),
          ),
        ),
      ))

  -- a closure's, by reference: the runtime, the platform and the gate
  pub captured :
      (name : List ℕ) (a b c d : NamedLft) (R G : RattleType) → IsSync R → IsSync G →
      IsSync (TupleAt name
      (ShrRef a.mir a.lft R ∷
      ShrRef b.mir b.lft (Platform.the_row c N M n m l k) ∷
      ShrRef d.mir d.lft G ∷ []))
  captured name a b c d R G x y =
      let rows : List RattleType =
      ShrRef a.mir a.lft R ∷
      ShrRef b.mir b.lft (Platform.the_row c N M n m l k) ∷
      ShrRef d.mir d.lft G ∷ [] in
      recorded_sync (field_at name rows).row _ _ (type_at name rows).to_one
      (struct_sync (shape (type_at name rows))
      (shr_sync _ _ _ x, (shr_sync _ _ _ (platform c), (shr_sync _ _ _ y, tt))))
