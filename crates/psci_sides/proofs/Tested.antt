-- What is tested of a machine is what holds of it: where a test fails, that does not hold.
use Rattle.std.specs.Prelude.{◌||◌, if◌then◌else◌, is_some}
use Rattle.std.proofs.lemmas.Bool.{not_from_false, or_left, or_right}
use Rattle.psci_headline.specs.Test.{at_each_core}
use Rattle.psci_headline.proofs.Tested.{all_in, if_holds}
use Rattle.psci_port.proofs.Playing.{is_awake, is_last, is_powered, of_holder}
use Rattle.psci_port.proofs.Tested.{awake_so, last_so, of_any, powered_so}
use Rattle.psci_enter.specs.declared.order.Look.TheVariants as look
use Rattle.psci_sides.proofs.Words.{◌&&◌, ◌==◌, ◌∷◌, ◌≡◌, [], and_from, arith, BoardValue, Bool}
use Rattle.psci_sides.proofs.Words.{cores, eq-eqb, executes, found_in, FwCall, has_lock, has_stood}
use Rattle.psci_sides.proofs.Words.{hearing, inl, inr, IsSound, last_start, List, LookAtDoor}
use Rattle.psci_sides.proofs.Words.{lt-ltb, ltb-true, Machine, may_hold, may_look, nat_lt, None}
use Rattle.psci_sides.proofs.Words.{not, Option, refl, Some, starts_in, subst, sym, TakesItsLast}
use Rattle.psci_sides.proofs.Words.{true, values_of, waits_in, wake_of, ℕ}

-- What is tested ---------------------------------------------------------------------------------

pub data Clause : Type 0 where
  Powered : Clause
  Awake : Clause
  Holder : Clause
  Inside : Clause
  Heard : Clause

-- the wake-up of a core that looks is not lost
abbrev is_heard : Machine → ℕ → Bool
is_heard m c = nat_lt (m.side c).used (starts_in m c)
    || (m.side c).used == starts_in m c
    && not (waits_in (hearing m c).control (wake_of (hearing m c) c))

abbrev holds : BoardValue → Machine → Clause → Bool
holds b m Powered = is_powered b (executes m) m.cut
holds b m Awake = is_awake b (has_stood m) m.depth
holds b m Holder = of_holder m.lock (λ c. not (nat_lt c (cores b)) || may_hold (m.side c).post)
holds b m Inside =
    at_each_core b (λ c. not (is_some (m.station c).lent) || has_lock m.lock c)
holds b m Heard = at_each_core b (λ c. not (may_look (m.side c).post) || is_heard m c)

abbrev failing_of : BoardValue → Machine → List Clause → List Clause
failing_of b m [] = []
failing_of b m (k ∷ ks) = if holds b m k then failing_of b m ks else (k ∷ failing_of b m ks)

-- the tests that fail of a machine
abbrev pub failing : BoardValue → Machine → List Clause
failing b m = failing_of b m (Powered ∷ Awake ∷ Holder ∷ Inside ∷ Heard ∷ [])

-- Each by itself ---------------------------------------------------------------------------------

inside_so : (lent : Option FwCall) (lock : Option ℕ) (c : ℕ)
    → ((call : FwCall) → lent ≡ Some call → lock ≡ Some c)
    → (not (is_some lent) || has_lock lock c) ≡ true
inside_so None lock c h = refl
inside_so (Some call) lock c h =
    subst (λ l. has_lock l c ≡ true) (sym (h call refl)) (eq-eqb c c refl)

tested : (b : BoardValue) (m : Machine) (k : Clause) → IsSound b m → holds b m k ≡ true
tested b m Powered is = powered_so b (executes m) (has_stood m) m.cut m.depth is.power
tested b m Awake is = awake_so b (executes m) (has_stood m) m.cut m.depth is.power
tested b m Holder is = of_any m.lock _ (λ c at. if_holds (nat_lt c (cores b)) _ (λ on.
    is.locked.holder c (ltb-true _ _ on) at))
tested b m Inside is = all_in _ 0 (cores b) (λ c low on.
    inside_so (m.station c).lent m.lock c (λ call at. is.locked.inside c call (omega arith) at))
tested b m Heard is = all_in _ 0 (cores b) (λ c low on.
    if_holds (may_look (m.side c).post) _ (λ looks. elim (is.wakes c (omega arith) looks) [
      | inl ahead ↦ or_left _ _ (lt-ltb _ _ ahead)
      | inr hears ↦ or_right _ _ (and_from _ _ (eq-eqb _ _ hears.0) (not_from_false _ hears.1))
    ]))

takes_tested : (m : Machine) (c : ℕ) (pending : Bool) → TakesItsLast m (LookAtDoor c pending)
    → found_in m c pending ≡ look.Enter
    → is_last (m.station c).door.start (last_start (values_of m.control) c)
    (m.station c).door.opened (m.side c).used (starts_in m c) ≡ true
takes_tested m c pending is finds = last_so _ _ _ _ _ (is finds)
