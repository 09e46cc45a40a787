-- What the waiting thread takes along may go to a thread.
use denote.Exit as Exit
use denote.Param.{param}
use denote.Param.Send.{IsSend, IsSync, sendable, param_send, arg_send}
use denote.Param.Send.{recorded_send, struct_send, shr_send}
use denote.Ref.{NamedLft, ShrRef}
use denote.RattleType.{RattleType}
use denote.Struct.Declared.{shape}
use denote.Struct.Tuple.{TupleAt, field_at, type_at}
use mathlib.Core.List.{List, [], ◌∷◌}
use Prim.Native.Nat.{ℕ}
use Rattle.std.proofs.Crossing as heap
use Rattle.std.proofs.sync.atomic.AtomicBool.TheSendSync as atomic
use Rattle.std.specs.contracts.sync.atomic.AtomicBool as Flag
use Rattle.std.specs.declared.sync.ledger.Ledger as Ledger
use Rattle.psci_shared.specs.declared.named.Named as Named
use Rattle.psci_shared.specs.contracts.shared.SharedFirmware as Shared
use Rattle.psci_shared.proofs.Crossing.{shared}
use Rattle.psci_threads_tests.proofs.held.poll_while_held.Goals as goal

flag : IsSync Flag.the_row
flag = search (heap.crosses, atomic.the_sync, sendable) depth 20 fits 20000

-- a closure's: the firmware, the runtime and two flags
captured :
    (N : RattleType) (named : Named.Ghosts N.Denot) (ledger : Ledger.Ghosts N.Denot)
    (name : List ℕ) (a b c d e : NamedLft) (R : RattleType) → IsSync R →
    IsSend (TupleAt name
    (ShrRef b.mir b.lft (Shared.the_row c N named ledger) ∷ ShrRef a.mir a.lft R ∷
    ShrRef d.mir d.lft Flag.the_row ∷ ShrRef e.mir e.lft Flag.the_row ∷ []))
captured N named ledger name a b c d e R y =
    let rows : List RattleType =
    ShrRef b.mir b.lft (Shared.the_row c N named ledger) ∷ ShrRef a.mir a.lft R ∷
    ShrRef d.mir d.lft Flag.the_row ∷ ShrRef e.mir e.lft Flag.the_row ∷ [] in
    recorded_send (field_at name rows).row _ _ (type_at name rows).to_one
    (struct_send (shape (type_at name rows)) (
      shr_send _ _ _ (shared N named ledger c),
      (
        shr_send _ _ _ y,
        (shr_send _ _ _ flag, (shr_send _ _ _ flag, tt)),
      ),
    ))

pub join-waited-requires-send-F : goal.join-waited-requires-send-F
join-waited-requires-send-F g c κs within =
    param_send 1 _ (arg_send _ Exit.no _
    (captured (param 0 g.row.N) g.N.Named g.N.Ledger _ _ _ _ _ _
    (param 1 g.row.R) c.type_bounds.sync-R))
