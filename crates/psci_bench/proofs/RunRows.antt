-- Worked examples: runs of threads with the numbers of their books, runs with other ones, and the
-- faults that a run ends by.
use Rattle.std.proofs.Common.{◌≡◌, List, [], ◌∷◌, length, ap, arith, subst, sym, ◌∙◌}
use Rattle.psci_audit.specs.psci_board.Board.{BoardValue}
use Rattle.psci_audit.specs.Merged.{IsFault, IsSound, TicketsFit, history_of, merged}
use Rattle.psci_audit.specs.Told.{Tells}
use Rattle.psci_audit.specs.declared.fault.AuditFault.TheVariants as audits
use Rattle.psci_shared.specs.Places.{CtlEntry, FwEntry}
use Rattle.psci_bench.specs.declared.gathering.Polled.{Polled}
use Rattle.psci_bench.specs.Watches.{AllInHistory}
use Rattle.psci_bench.specs.Runs.{IsAudited, IsFound}
use Rattle.psci_bench.specs.declared.gathering.BenchFault.TheVariants.{Audit, Gate, Gather, Memory}
use Rattle.psci_bench.specs.declared.gathering.BenchFault.TheVariants.{Threads}
use Rattle.psci_bench.specs.declared.gathering.Threaded.{Threaded}

-- Numbers ---------------------------------------------------------------------------------------

-- the records of a run's world tell the entries of its books
abbrev HasTold : BoardValue → Threaded → Type 0
HasTold b t =
    Tells b t.world.past (history_of t.trace.firmware.items t.trace.controller.items)

-- a run in which nothing was asked
nothing_asked : (b : BoardValue) (t : Threaded) → t.trace.firmware.items ≡ []
    → t.trace.controller.items ≡ [] → t.firmware ≡ 0 → t.controller ≡ 0
    → IsSound b t.trace.firmware.items t.trace.controller.items 0 → t.audited ≡ 0
    → t.world.board ≡ b → HasTold b t → t.polls.items ≡ [] → IsAudited b t
nothing_asked b t fs cs firmware controller is audited board told unseen = record {
  firmware = firmware ∙ sym (ap length fs);
  controller = controller ∙ sym (ap length cs);
  sound = subst (λ n. IsSound b t.trace.firmware.items t.trace.controller.items n) (sym audited) is;
  board = board;
  told = told;
  seen = subst (λ (qs : List Polled). AllInHistory b t.trace.firmware.items qs) (sym unseen) tt;
}

-- two entries of the firmware and one of the power controller: each number is of its own book
of_its_own_book : (b : BoardValue) (t : Threaded) (f g : FwEntry) (c : CtlEntry)
    → t.trace.firmware.items ≡ f ∷ g ∷ [] → t.trace.controller.items ≡ c ∷ [] → IsAudited b t
    → (t.firmware ≡ 2) × (t.controller ≡ 1)
of_its_own_book b t f g c fs cs is = (is.firmware ∙ ap length fs, is.controller ∙ ap length cs)

not_audited : (b : BoardValue) (t : Threaded) →
    -- the world is on this board, and its records tell the merged list
    (¬ (t.world.board ≡ b) → ¬ (IsAudited b t)) × (¬ (HasTold b t) → ¬ (IsAudited b t))
    -- each book has as many entries as is said
    × (length t.trace.firmware.items ≡ 5 → t.firmware ≡ 6 → ¬ (IsAudited b t))
    × (length t.trace.controller.items ≡ 5 → t.controller ≡ 4 → ¬ (IsAudited b t))
    -- all of the merged list is audited
    × (length (merged t.trace.firmware.items t.trace.controller.items) ≡ 9 → t.audited ≡ 5
    → ¬ (IsAudited b t))
    -- which is legal on this board, and has tickets that fit
    × (¬ (IsSound b t.trace.firmware.items t.trace.controller.items t.audited)
    → ¬ (IsAudited b t))
    × (¬ (TicketsFit t.trace.firmware.items t.trace.controller.items) → ¬ (IsAudited b t))
not_audited b t = (
  λ differs is. differs is.board,
  λ differs is. differs is.told,
  λ five six is. let e = is.firmware in omega (arith, five, six, e),
  λ five four is. let e = is.controller in omega (arith, five, four, e),
  λ nine five is. let e = is.sound.2 in omega (arith, nine, five, e),
  λ differs is. differs is.sound,
  λ differs is. differs is.sound.0,
)

-- Faults ----------------------------------------------------------------------------------------

-- a fault that the audit has of some two books, on this board
illegal_at_3 : (b : BoardValue) (fs : List FwEntry) (cs : List CtlEntry)
    → IsFault b fs cs (audits.Illegal 3) → IsFound b (Audit (audits.Illegal 3))
unfolding IsFound
illegal_at_3 b fs cs is = (fs, cs, is)

-- and no other fault, as one at another place
illegal_nowhere : (b : BoardValue)
    → ((fs : List FwEntry) (cs : List CtlEntry) → IsFault b fs cs (audits.Illegal 3) → ⊥)
    → IsFound b (Audit (audits.Illegal 3)) → ⊥
unfolding IsFound
illegal_nowhere b none found = none found.0 found.1 found.2

-- the audit itself may run out of memory, as the run may before it
found_anyway : (b : BoardValue) → IsFound b (Audit audits.Memory) × IsFound b Memory
    × IsFound b Threads × IsFound b Gate × IsFound b Gather
unfolding IsFound
found_anyway b = (([], [], tt), tt, tt, tt, tt)
