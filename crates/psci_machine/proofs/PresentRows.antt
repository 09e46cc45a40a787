-- Worked examples: presents of which just one thing is not so that holds after some records.
use Rattle.std.proofs.Common.{◌≡◌, ℕ, List, [], ◌∷◌, length, ap, refl, sym, ◌∙◌}
use Rattle.std.proofs.lemmas.Bool.{eqb-false}
use Rattle.psci_fw.specs.psci_board.Board.{cores}
use Rattle.psci_fw.specs.psci_messages.Message.{MessageValue}
use Rattle.psci_machine.specs.Seen.{IsPresent, machine_board, PresentValue}
use Rattle.psci_world_spec.specs.declared.event.Event.TheVariants.{Deliver, Enter}
use Rattle.psci_world_spec.specs.declared.said.Record.{Record}
use Rattle.psci_world_spec.specs.declared.said.Said.TheVariants.{Absent}
use Rattle.psci_world_spec.specs.Legal.{run_from}
use Rattle.psci_world_spec.proofs.Scripts.{board, call, computing, enters, on_3, one_core}

-- core 3 was asked on, then core 1; the first of these was carried out
abbrev two_asked : List Record
two_asked = run_from board []
    (Enter 0 ∷ on_3 ∷ call 0 0xc4000003 0x1 0x40001000 0 ∷ Deliver 0 ∷ [])

absent_enters : Absent ≡ enters 0x40000000 0 → ⊥
absent_enters e = cc

illegal_past : (p : PresentValue)
    → IsPresent board (record { event = Enter 0; said = Absent } ∷ []) p → ⊥
unfolding computing
illegal_past p is = absent_enters is.legal.0

-- a present of which this is so is not that after these records
abbrev NotPresent : (PresentValue → Type 0) → Type 0
NotPresent Is = (p : PresentValue) → Is p → IsPresent board two_asked p → ⊥

of_another_board : NotPresent (λ p. machine_board p.machine ≡ one_core)
of_another_board p at is = eqb-false 1 4 refl (ap cores (sym at) ∙ ap cores is.machine.board)

-- the core of the first message, or 0
abbrev first_core : List MessageValue → ℕ
first_core [] = 0
first_core (m ∷ ms) = m.core.number

-- a message is lacking; the newest one comes first
other_messages : NotPresent (λ p. length p.messages ≡ 1)
    × NotPresent (λ p. first_core p.messages ≡ 1)
unfolding computing
other_messages = (
  λ p one is. eqb-false 1 2 refl (sym one ∙ ap length is.messages),
  λ p turned is. eqb-false 1 3 refl (sym turned ∙ ap first_core is.messages),
)

-- an acknowledgement is lacking, and there is one too many
other_acknowledgements : NotPresent (λ p. length p.acks ≡ 0) × NotPresent (λ p. length p.acks ≡ 2)
unfolding computing
other_acknowledgements = (
  λ p none is. eqb-false 0 1 refl (sym none ∙ ap length is.acks),
  λ p two is. eqb-false 2 1 refl (sym two ∙ ap length is.acks),
)
