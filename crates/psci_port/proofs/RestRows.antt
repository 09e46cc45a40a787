-- Worked examples: how much is due in a port, which start stands at a door, and ports that are at
-- rest or not.
use Rattle.std.proofs.Common.{◌++◌, map}
use Rattle.psci_board.proofs.Tables.{◌⇒◌, Gives}
use Rattle.psci_ctl_spec.specs.psci_messages.declared.start.Cause.TheVariants as causes
use Rattle.psci_world_spec.proofs.Scripts.{board}
use Rattle.psci_port.specs.Resting.{cause_code, IsQuiet, left, own_left, total}
use Rattle.psci_port.proofs.Words.{◌∷◌, ◌≡◌, [], arith, Armed, Arms, AtDoor, Bool, Entering, false}
use Rattle.psci_port.proofs.Words.{has_lock, is_shown, Leaving, Locks, None, Normal, Port, refl}
use Rattle.psci_port.proofs.Words.{Rises, Row, Some, Standing, TakesUp, true, with_row, Woken}
use Rattle.psci_port.proofs.Words.{Writes, ℕ}
use Rattle.psci_port.proofs.CellRows.{life_1}
use Rattle.psci_port.proofs.Playing.{after, comes, door, enters, off_3, off_called, on_3, playing}
use Rattle.psci_port.proofs.Playing.{start_of}

-- How much is due --------------------------------------------------------------------------------

unfoldable pub counting : Unit {0}
unfolding playing total
counting = tt

-- the boot core from its door to the normal world; core 3 from its call to its stop, and where it
-- is armed and wakes itself; the cores' own are added up, in life 2 too
how_much : Gives (λ acts. left board (after acts))
    ([] ⇒ 12 ∷ (Writes 0 ∷ []) ⇒ 11 ∷ door 0 ⇒ 10 ∷ (door 0 ++ (TakesUp 0 ∷ [])) ⇒ 8
    ∷ (door 0 ++ (TakesUp 0 ∷ Locks 0 ∷ [])) ⇒ 7
    ∷ (door 0 ++ (TakesUp 0 ∷ Locks 0 ∷ enters 0 ∷ [])) ⇒ 6 ∷ (door 0 ++ comes 0) ⇒ 0
    ∷ off_called ⇒ 4 ∷ (off_called ++ (Arms 3 ∷ [])) ⇒ 2
    ∷ (off_called ++ (Arms 3 ∷ Rises 3 ∷ [])) ⇒ 14 ∷ off_3 ⇒ 0
    ∷ (on_3 ++ (Locks 0 ∷ [])) ⇒ 13 ∷ (life_1 ++ (Writes 0 ∷ [])) ⇒ 11 ∷ [])
unfolding counting
how_much = refl

-- with the lock, and without it
each_stage : map {B = ℕ × ℕ} (λ y. (own_left true y, own_left false y))
    (Standing ∷ AtDoor ∷ Entering (start_of 1 2) ∷ Normal ∷ Leaving ∷ Armed ∷ Woken ∷ [])
    ≡ (0, 0) ∷ (0, 0) ∷ (7, 8) ∷ (1, 0) ∷ (4, 3) ∷ (2, 1) ∷ (2, 1) ∷ []
each_stage = refl

whose_lock : map {B = Bool × Bool} (λ lock. (has_lock lock 0, has_lock lock 3))
    (None ∷ Some 3 ∷ Some 0 ∷ [])
    ≡ (false, false) ∷ (false, true) ∷ (true, false) ∷ []
whose_lock = refl

-- Which start stands at a door -------------------------------------------------------------------

-- its last one, of another life, number or cause, and none
each_shown : map (λ there. is_shown there (Some (start_of 2 3)))
    (Some (start_of 2 3) ∷ Some (start_of 1 3) ∷ Some (start_of 2 2)
    ∷ Some (record { life = 2; number = 3; cause = causes.Reset }) ∷ None ∷ [])
    ≡ true ∷ false ∷ false ∷ false ∷ false ∷ []
each_shown = refl

each_cause : map cause_code (causes.Boot ∷ causes.On ∷ causes.Wake ∷ causes.Reset ∷ [])
    ≡ 0 ∷ 1 ∷ 2 ∷ 3 ∷ []
each_cause = refl

-- At rest ----------------------------------------------------------------------------------------

abbrev off_row : Row
off_row = (after off_3).row 3

abbrev with_3 : Row → Port
with_3 row = with_row (after off_3) 3 row

-- core 3 is quiet once it is off; and each clause breaks alone
quiet_core : IsQuiet (after off_3) 3
    × (IsQuiet (with_3 (record off_row { stage = Armed })) 3 → ⊥)
    × (IsQuiet (with_3 (record off_row { stopped = 0 })) 3 → ⊥)
    × (IsQuiet (with_3 (record off_row { opened = 0 })) 3 → ⊥)
    × (IsQuiet (with_3 (record off_row { used = 0 })) 3 → ⊥)
unfolding playing
quiet_core = search arith
