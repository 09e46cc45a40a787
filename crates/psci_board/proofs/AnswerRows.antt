-- What may not be answered for a text.
use Rattle.std.proofs.Common.{◌≡◌, ℕ, refl, ap, arith}
use Rattle.std.specs.Prelude.{Result, Ok, Err}
use Rattle.psci_board.specs.declared.fault.BoardFault.{BoardFault}
use Rattle.psci_board.specs.declared.fault.BoardFault.TheVariants.{Grammar, Uneven, Memory}
use Rattle.psci_board.specs.Board.{BoardValue}
use Rattle.psci_board.specs.Verdict.{Answers}
use Rattle.psci_board.proofs.Boards.{uneven}

-- out of memory only for a text without a fault, and each fault as it is
pub memory_for_a_board : Answers (Err Memory) (Ok uneven)
memory_for_a_board = refl

pub memory_for_a_fault : Answers (Err Memory) (Err Uneven) → ⊥
memory_for_a_fault h = cc

pub board_for_a_fault : Answers (Ok uneven) (Err Uneven) → ⊥
board_for_a_fault h = cc

pub another_fault : Answers (Err Grammar) (Err Uneven) → ⊥
another_fault h = cc

pub another_board : Answers (Ok uneven) (Ok (record uneven { lives = 1 })) → ⊥
another_board h =
    let lives : ◌≡◌ {A = ℕ} 1 3 = ap lives_in h in
    absurd (omega (arith, lives))
  where
    lives_in : Result BoardValue BoardFault → ℕ
    lives_in (Ok b) = b.lives
    lives_in (Err f) = 0

pub fault_for_a_board : Answers (Err Grammar) (Ok uneven) → ⊥
fault_for_a_board h = cc
