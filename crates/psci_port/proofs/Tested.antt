-- What worked examples test of a port is what it keeps: where a test fails, that is not kept.
use Rattle.std.specs.Prelude.{is_some}
use Rattle.psci_headline.proofs.Tested.{all_in, if_holds}
use Rattle.psci_port.specs.Kept.{IsLast, KeepsPower}
use Rattle.psci_port.proofs.Words.{◌&&◌, ◌+◌, ◌==◌, ◌||◌, ◌≡◌, and_from, ap, arith, BoardValue}
use Rattle.psci_port.proofs.Words.{Bool, cores, Entering, eq-eqb, eqb-true, false, has_stopped}
use Rattle.psci_port.proofs.Words.{height, is_shown, IsLocked, last_start, lt-ltb, nat_tests, None}
use Rattle.psci_port.proofs.Words.{NoneCut, not, Option, Port, Record, refl, Some, Stage, stage_at}
use Rattle.psci_port.proofs.Words.{Start, subst, sym, TakesItsLast, TakesUp, true, up, words}
use Rattle.psci_port.proofs.Words.{WordsTell, ℕ}
use Rattle.psci_port.proofs.Playing.{Alone, Awake, ByWord, Clause, Entered, enters_last, Free}
use Rattle.psci_port.proofs.Playing.{Holder, holds, is_awake, is_last, is_powered, of_holder}
use Rattle.psci_port.proofs.Playing.{Powered, Stood, takes_last, Whole}
use Rattle.psci_port.proofs.Running.{shown_itself}

-- One test ---------------------------------------------------------------------------------------

or_if : (x y : Bool) → (x ≡ false → y ≡ true) → (x || y) ≡ true
or_if x y h = grind (arith, nat_tests)

or_none : {A : Type 0} (o : Option A) (t : Bool) → (o ≡ None → t ≡ true) → (is_some o || t) ≡ true
or_none None t h = h refl
or_none (Some x) t h = refl

pub of_any : (lock : Option ℕ) (test : ℕ → Bool) → ((c : ℕ) → lock ≡ Some c → test c ≡ true)
    → of_holder lock test ≡ true
of_any None test h = refl
of_any (Some c) test h = h c refl

both_in : (o q : Option Record) (t : Bool)
    → ((r s : Record) → o ≡ Some r → q ≡ Some s → t ≡ true)
    → (not (is_some o && is_some q) || t) ≡ true
both_in None q t h = refl
both_in (Some r) None t h = refl
both_in (Some r) (Some s) t h = h r s refl refl

enters_so : (last : Option Start) (y : Stage) → ((s : Start) → y ≡ Entering s → last ≡ Some s)
    → enters_last last y ≡ true
enters_so last (Entering s) h =
    subst (λ l. is_shown l (Some s) ≡ true) (sym (h s refl)) (shown_itself (Some s))
enters_so last y h = refl

-- Power ------------------------------------------------------------------------------------------

module _ (b : BoardValue) (executing standing : ℕ → Bool) (cut : ℕ → ℕ → Bool)
    (depth : ℕ → ℕ → ℕ) (is : KeepsPower b executing standing cut depth) where
  pub powered_so : is_powered b executing cut ≡ true
  powered_so = all_in _ 0 (cores b) (λ c low on. if_holds (executing c) _ (λ moves.
      all_in (λ l. not (cut l (up b l c))) 0 (height b + 1) (λ l bottom top.
      ap not (is.powered c l (omega arith) (omega arith) moves))))

  pub awake_so : is_awake b standing depth ≡ true
  awake_so = all_in _ 0 (cores b) (λ c low on. or_if (standing c) _ (λ moves.
      all_in (λ l. depth l (up b l c) == 0) 0 (height b + 1) (λ l bottom top.
      eq-eqb _ _ (is.awake c l (omega arith) (omega arith) moves))))

-- Each clause ------------------------------------------------------------------------------------

-- what it is a clause of
abbrev Says : BoardValue → Port → Clause → Type 0
Says b p Powered = NoneCut b p
Says b p Awake = NoneCut b p
Says b p ByWord = WordsTell p
Says b p Stood = WordsTell p
Says b p Entered = WordsTell p
Says b p x = IsLocked p

tested : (b : BoardValue) (p : Port) (k : Clause) → Says b p k → holds b p k ≡ true
tested b p Powered is = powered_so b _ _ p.cut p.values.depth is
tested b p Awake is = awake_so b _ _ p.cut p.values.depth is
tested b p Holder is = of_any p.lock _ is.holder
tested b p Alone is = all_in _ 0 (cores b) (λ c low on. all_in _ 0 (cores b) (λ d bottom top.
    both_in (p.row c).begun (p.row d).begun (c == d) (λ r s at there.
    eq-eqb _ _ (is.alone c d r s at there))))
tested b p Free is = or_none p.lock p.whole is.free
tested b p Whole is = of_any p.lock _ (λ c at. or_none (p.row c).begun p.whole (is.whole c at))
tested b p ByWord is = all_in _ 0 (cores b) (λ c low on.
    if_holds (words p c == p.values.starts c) _ (λ e. is.stands c (eqb-true _ _ e)))
tested b p Stood is = all_in _ 0 (cores b) (λ c low on.
    if_holds (has_stopped (stage_at p c)) _ (λ e. eq-eqb _ _ (is.stood c e)))
tested b p Entered is = all_in _ 0 (cores b) (λ c low on.
    enters_so (last_start p.values c) (stage_at p c) (is.enters c))

-- What is taken up -----------------------------------------------------------------------------

pub last_so : (door last : Option Start) (opened used starts : ℕ)
    → IsLast door last opened used starts → is_last door last opened used starts ≡ true
last_so door last opened used starts is =
    and_from (is_shown door last) _
    (subst (λ d. is_shown d last ≡ true) (sym is.0) (shown_itself last))
    (and_from (opened == starts) _ (eq-eqb _ _ is.1) (lt-ltb _ _ is.2))

takes_tested : (p : Port) (c : ℕ) → TakesItsLast p (TakesUp c) → takes_last p c ≡ true
takes_tested p c is = last_so _ _ _ _ _ is
