-- Worked examples: what a turn leaves, and what is told of it: the core of a guest of one core runs
-- in its first start, and has asked for the version.
use Rattle.std.specs.Prelude.{◌==◌}
use Rattle.std.proofs.Common.{◌<◌, ◌∙◌, ◌∷◌, ◌≡◌, [], ap, arith, false, None, Option, pos, refl}
use Rattle.std.proofs.Common.{Some, suc, zero, ℕ}
use Rattle.std.proofs.lemmas.Bool.{ne_eqb}
use Rattle.std.proofs.lemmas.Bool.Decides.{nat_tests}
use Rattle.std.proofs.lemmas.Option.{none-some}
use Rattle.psci_board.specs.Board.{BoardValue, height}
use Rattle.psci_fw_spec.specs.Values.{Values}
use Rattle.psci_fw_spec.specs.declared.outcome.Act.TheVariants.{Resume, Return}
use Rattle.psci_fw_state.specs.Seen.{values_in}
use Rattle.psci_ctl_spec.proofs.Steps.{same_values}
use Rattle.psci_messages.specs.Slots.{OfCore, OfSystem, Slot}
use Rattle.psci_messages.specs.declared.start.Cause.TheVariants.{Boot}
use Rattle.psci_world_spec.specs.declared.place.Place.TheVariants.{Started}
use Rattle.psci_world_spec.specs.Legal.{controller_values, firmware_values, place}
use Rattle.psci_world_spec.proofs.Scripts.{one_core, tall}
use Rattle.psci_guest.specs.declared.turned.Turned.{Turned}
use Rattle.psci_guest.specs.Arrivals.{kept_after}
use Rattle.psci_guest.specs.Guest.{IsAfter, IsKicked, IsTold, IsTurned}
use Rattle.psci_guest.specs.Pair.{Kept, kept_by}
use Rattle.psci_guest.specs.Turns.{Calls, event_of, exchange, Turn, turns, Wakes}
use Rattle.psci_guest.proofs.GuestRows.{computing, enters, quiet}
use Rattle.psci_guest.proofs.SavedRows.{pair_of}

abbrev pub asks : Turn
asks = Calls 0 (record { x0 = 0x84000000; x1 = 0; x2 = 0; x3 = 0 })

-- What it keeps -----------------------------------------------------------------------------------

abbrev now : Values
now = values_in (pair_of one_core 1).firmware

abbrev then : Values
then = firmware_values one_core (turns one_core (asks ∷ []))

never : (c : ℕ) → (suc c == 0) ≡ false
never c = ne_eqb (suc c) 0 (λ e. omega (arith, e))

known : (c : ℕ) → now.known c ≡ then.known c
unfolding computing values_in
known zero = refl
known (suc c) = grind (arith, nat_tests, never c)

status : (c : ℕ) → now.status c ≡ then.status c
unfolding computing values_in
status zero = refl
status (suc c) = grind (arith, nat_tests, never c)

phase : (c : ℕ) → now.phase c ≡ then.phase c
unfolding computing values_in
phase zero = refl
phase (suc c) = grind (arith, nat_tests, never c)

opening : (c : ℕ) → now.opening c ≡ then.opening c
unfolding computing values_in
opening zero = refl
opening (suc c) = grind (arith, nat_tests, never c)

granted : (l p : ℕ) → now.granted l p ≡ then.granted l p
unfolding computing values_in
granted zero zero = refl
granted zero (suc p) = grind (arith, nat_tests)
granted (suc zero) zero = refl
granted (suc zero) (suc p) = grind (arith, nat_tests)
granted (suc (suc l)) p = grind (arith, nat_tests)

confirmed : (l p : ℕ) → now.confirmed l p ≡ then.confirmed l p
unfolding computing values_in
confirmed zero zero = refl
confirmed zero (suc p) = grind (arith, nat_tests)
confirmed (suc zero) zero = refl
confirmed (suc zero) (suc p) = grind (arith, nat_tests)
confirmed (suc (suc l)) p = grind (arith, nat_tests)

outstanding : (slot : Slot) → now.outstanding slot ≡ then.outstanding slot
unfolding computing values_in
outstanding OfSystem = refl
outstanding (OfCore zero) = refl
outstanding (OfCore (suc c)) = refl

starts : (c : ℕ) → (kept_by (pair_of one_core 1)).controller.starts c
    ≡ (controller_values one_core (turns one_core (asks ∷ []))).starts c
unfolding computing
starts zero = refl
starts (suc c) = grind (arith, nat_tests, never c)

cause : (c : ℕ) → (kept_by (pair_of one_core 1)).controller.cause c
    ≡ (controller_values one_core (turns one_core (asks ∷ []))).cause c
unfolding computing
cause zero = refl
cause (suc c) = refl

depth : (l p : ℕ) → (kept_by (pair_of one_core 1)).controller.depth l p
    ≡ (controller_values one_core (turns one_core (asks ∷ []))).depth l p
unfolding computing
depth zero zero = refl
depth zero (suc p) = grind (arith, nat_tests)
depth (suc zero) zero = refl
depth (suc zero) (suc p) = grind (arith, nat_tests)
depth (suc (suc l)) p = grind (arith, nat_tests)

controls : (kept_by (pair_of one_core 1)).controller
    ≡ controller_values one_core (turns one_core (asks ∷ []))
unfolding computing
controls = same_values _ _ refl starts cause depth

-- on whichever board
pub kept : (b : BoardValue)
    → kept_by (pair_of b 1) ≡ kept_after one_core (turns one_core (asks ∷ []))
unfolding computing values_in
kept b = λ i. record {
  firmware = record then {
    known = λ c. known c i;
    status = λ c. status c i;
    phase = λ c. phase c i;
    opening = λ c. opening c i;
    granted = λ l p. granted l p i;
    confirmed = λ l p. confirmed l p i;
    outstanding = λ slot. outstanding slot i;
  };
  controller = controls i;
}

-- What is told of it ------------------------------------------------------------------------------

abbrev pub told : Turned
told = record {
  outcome = quiet (Return (record { 0 = pos 0x10001 }));
  arrival = None;
  life = Some 1;
}

pub after : IsAfter one_core (asks ∷ []) (pair_of one_core 1)
after = record { board = refl; kept = kept one_core }

-- no core waits at its start
none_waits : (c : ℕ) → c < 1
    → place one_core (exchange one_core (turns one_core []) (event_of asks)) c ≡ Started → ⊥
unfolding computing
none_waits zero on e = absurd (cc)
none_waits (suc c) on e = absurd (omega (arith, on))

pub tells : IsTold one_core (turns one_core []) asks told
unfolding computing
tells = record { says = (refl, refl); arrival = none_waits; life = refl }

pub turned : IsTurned one_core [] asks (pair_of one_core 1) (Some told)
turned = record { told = told; is = refl; tells = tells; after = after }

-- the core has a wake-up event, and runs
pub woken : IsKicked one_core (asks ∷ []) (Wakes 0) (pair_of one_core 1) None
unfolding computing
woken = record { arrival = none_waits; after = record { board = refl; kept = kept one_core } }

-- What is not so ----------------------------------------------------------------------------------

another_board : IsAfter one_core (asks ∷ []) (pair_of tall 1) → ⊥
another_board is = let no : 3 ≡ 1 = ap height is.board in absurd (omega (arith, no))

-- it keeps another life
abbrev life_in : Kept → ℕ
life_in k = k.firmware.life

another_life : IsAfter one_core (asks ∷ []) (pair_of one_core 2) → ⊥
unfolding computing values_in
another_life is = let no : 2 ≡ 1 = ap life_in is.kept in absurd (omega (arith, no))

nothing_left : IsTurned one_core [] asks (pair_of one_core 2) (Some told) → ⊥
nothing_left is = another_life is.after

untold : IsTurned one_core [] asks (pair_of one_core 1) None → ⊥
untold is = none-some is.told is.is

abbrev life_told : Option Turned → Option ℕ
life_told None = None
life_told (Some t) = t.life

no_life_told : IsTurned one_core [] asks (pair_of one_core 1)
    (Some (record told { life = None })) → ⊥
unfolding computing
no_life_told is =
    let no : None ≡ Some 1 = ap life_told is.is ∙ is.tells.life in none-some 1 no

nothing_woken : IsKicked one_core (asks ∷ []) (Wakes 0) (pair_of one_core 2) None → ⊥
unfolding computing values_in
nothing_woken is = let no : 2 ≡ 1 = ap life_in is.after.kept in absurd (omega (arith, no))

-- a core that runs is told to enter
woken_twice : IsKicked one_core (asks ∷ []) (Wakes 0) (pair_of one_core 1)
    (Some (enters 0 1 Boot (quiet Resume))) → ⊥
unfolding computing
woken_twice is = let no = is.arrival.started in absurd (cc)
