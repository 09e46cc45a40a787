-- Worked examples: a firmware that was made anew, and a side that keeps no message back.
use Rattle.psci_ctl.specs.Seen.{ControllerValue}
use Rattle.psci_fw_spec.specs.Changes.{start_of_life}
use Rattle.psci_fw_spec.specs.Values.{Values}
use Rattle.psci_fw.specs.Reactions.{seen}
use Rattle.psci_sides.proofs.Words.{◌==◌, ◌∙◌, ◌∷◌, ◌≡◌, [], ap, arith, cond-false, cores, false}
use Rattle.psci_sides.proofs.Words.{Gate, gate_in, IsControlSide, IsMadeAnew, IsSendable}
use Rattle.psci_sides.proofs.Words.{MessageValue, nat_tests, ne_eqb, None, none-some, OfCore}
use Rattle.psci_sides.proofs.Words.{OfSystem, refl, Slot, Some, suc, sym, zero, ℕ}
use Rattle.psci_sides.proofs.Pair.{anew, on_message, pair, playing}

abbrev is : Values
is = seen anew

abbrev first : Values
first = start_of_life pair 0

never : (c : ℕ) → (suc c == 0) ≡ false
never c = ne_eqb (suc c) 0 (λ e. omega (arith, e))

known : (c : ℕ) → is.known c ≡ first.known c
unfolding playing
known zero = refl
known (suc zero) = refl
known (suc (suc c)) = refl

status : (c : ℕ) → is.status c ≡ first.status c
unfolding playing
status zero = refl
status (suc zero) = refl
status (suc (suc c)) = sym (cond-false _ _ _ (never (suc c)))

phase : (c : ℕ) → is.phase c ≡ first.phase c
unfolding playing
phase zero = refl
phase (suc zero) = refl
phase (suc (suc c)) = sym (cond-false _ _ _ (never (suc c)))

opening : (c : ℕ) → is.opening c ≡ first.opening c
unfolding playing
opening zero = refl
opening (suc zero) = refl
opening (suc (suc c)) = sym (cond-false _ _ _ (never (suc c)))

granted : (l p : ℕ) → is.granted l p ≡ first.granted l p
unfolding playing
granted zero zero = refl
granted zero (suc zero) = refl
granted zero (suc (suc p)) = grind (arith, nat_tests)
granted (suc zero) zero = refl
granted (suc zero) (suc p) = grind (arith, nat_tests)
granted (suc (suc l)) p = grind (arith, nat_tests)

confirmed : (l p : ℕ) → is.confirmed l p ≡ first.confirmed l p
unfolding playing
confirmed zero zero = refl
confirmed zero (suc zero) = refl
confirmed zero (suc (suc p)) = grind (arith, nat_tests)
confirmed (suc zero) zero = refl
confirmed (suc zero) (suc p) = grind (arith, nat_tests)
confirmed (suc (suc l)) p = grind (arith, nat_tests)

outstanding : (slot : Slot) → is.outstanding slot ≡ first.outstanding slot
unfolding playing
outstanding OfSystem = refl
outstanding (OfCore zero) = refl
outstanding (OfCore (suc zero)) = refl
outstanding (OfCore (suc (suc c))) = refl

pub is_made_anew : IsMadeAnew pair anew
unfolding playing
is_made_anew = record {
  board = refl;
  values = λ i. record (start_of_life pair 0) {
    known = λ c. known c i;
    status = λ c. status c i;
    phase = λ c. phase c i;
    opening = λ c. opening c i;
    granted = λ l p. granted l p i;
    confirmed = λ l p. confirmed l p i;
    outstanding = λ slot. outstanding slot i;
  };
}

-- no message waits
pub keeps_none : (k : ControllerValue) (g h : Gate) → k.board ≡ pair → g.waiting ≡ None
    → h.waiting ≡ None → IsControlSide (record { controller = k; gates = g ∷ h ∷ [] })
keeps_none k g h board first second = record {
  gates = ap cores (sym board);
  waiting = λ c m e. absurd (none c m e);
}
  where
    none : (c : ℕ) (m : MessageValue) → (gate_in (g ∷ h ∷ []) c).waiting ≡ Some m → ⊥
    none zero m e = none-some m (sym first ∙ e)
    none (suc zero) m e = none-some m (sym second ∙ e)
    none (suc (suc c)) m e = none-some m e

-- the message that starts core 1 is one of the board, in any life
pub is_sendable_on : (life : ℕ) → IsSendable pair (record on_message { life = life })
is_sendable_on life = record {
  message = record { core = omega arith; parts = refl };
  board = record { core = omega arith; levels = omega arith };
}
