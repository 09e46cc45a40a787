-- What is written of orders, one by one.
use Rattle.std.specs.Prelude.{slice_get}
use Rattle.std.proofs.Common.{◌==◌, ◌∷◌, ◌≡◌, ◌⊎◌, List, Option, Some, [], ap, arith, drop, false}
use Rattle.std.proofs.Common.{inl, inr, refl, sym, ℕ}
use Rattle.std.proofs.lemmas.Bool.Decides.{nat_tests}
use Rattle.std.proofs.lemmas.Option.{none-some, same_Some}
use Rattle.psci_board.specs.Board.{BoardValue}
use Rattle.psci_ctl_spec.specs.Values.{Values}
use Rattle.psci_control.specs.declared.order.Order.{Order}
use Rattle.psci_ffi.specs.Controls.{with_order, with_orders}
use Rattle.psci_ffi.specs.declared.control_calls.ControlOrders.{ControlOrders}

-- Two things that a number tells apart are not the same -------------------------------------------

pub apart-by : {A : Type 0} {x y : A} (f : A → ℕ) → x ≡ y → f x == f y ≡ false → ⊥
apart-by {x = x} {y = y} f same other =
    let e : f x ≡ f y = ap f same in absurd (grind (arith, nat_tests))

-- as numbers themselves
abbrev pub itself : ℕ → ℕ
itself n = n

pub neither : {A B : Type 0} → (A → ⊥) → (B → ⊥) → A ⊎ B → ⊥
neither f g (inl a) = f a
neither f g (inr b) = g b

-- Control done ------------------------------------------------------------------------------------

pub next_written : (b : BoardValue) (v : Values) (xs : List Order) (x : Order)
    (o : ControlOrders) → slice_get xs 0 ≡ Some x
    → with_orders b v (drop 1 xs) (with_order b v x o) ≡ with_orders b v xs o
unfolding with_orders
next_written b v [] x o at = absurd (none-some x at)
next_written b v (y ∷ ys) x o at =
    ap (λ (z : Order). with_orders b v ys (with_order b v z o)) (sym (same_Some y x at))

pub all_written : (b : BoardValue) (v : Values) (xs : List Order) (o : ControlOrders)
    (r : Option Order) → r ≡ slice_get xs 0 → ((x : Order) → r ≡ Some x → ⊥)
    → with_orders b v xs o ≡ o
unfolding with_orders
all_written b v [] o r at none = refl
all_written b v (y ∷ ys) o r at none = absurd (none y at)
