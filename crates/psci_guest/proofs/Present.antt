-- Who runs and who stands between two turns, as both keep it.
use Rattle.psci_headline.proofs.Words.{◌<◌, ◌∙◌, ◌≡◌, and_parts, ap, arith, BoardValue}
use Rattle.psci_headline.proofs.Words.{controller_values, cores, eq-eqb, eqb-true, false}
use Rattle.psci_headline.proofs.Words.{false≢true, firmware_values, in_life, List, nat_tests}
use Rattle.psci_headline.proofs.Words.{None, Option, Record, refl, Running, Some, Started}
use Rattle.psci_headline.proofs.Words.{Stopped, sym, true, Values, ℕ}
use Rattle.std.specs.Prelude.{◌&&◌, ◌==◌, Bool, is_some, not}
use Rattle.psci_ctl_spec.specs.Replies.{is_this_life}
use Rattle.psci_world_spec.specs.declared.place.Place.{Place}
use Rattle.psci_world_spec.specs.Legal.{place}
use Rattle.psci_headline.proofs.Controls.{found_own}
use Rattle.psci_headline.proofs.Nexts.{settled_life}
use Rattle.psci_fw_spec.specs.Phases as phases
use Rattle.psci_guest.specs.Arrivals.{kept_after, RunsIn}
use Rattle.psci_guest.specs.Pair.{runs_in, stands_in}
use Rattle.psci_guest.specs.Turns.{Turn, turns}
use Rattle.psci_guest.proofs.Happened.{TurnLaws}
use Rattle.psci_guest.proofs.Events.{IsMore}
use Rattle.psci_guest.proofs.Turning.{home, IsHome}

-- Tests
not_false : (t : Bool) → not t ≡ false → t ≡ true
not_false true e = refl
not_false false e = absurd (false≢true (sym e))

not_true : (t : Bool) → not t ≡ true → t ≡ false
not_true true e = absurd (false≢true e)
not_true false e = refl

and_false : (t : Bool) → (t && false) ≡ false
and_false true = refl
and_false false = refl

module _ (b : BoardValue) (ts : List Turn) (laws : TurnLaws b) (more : IsMore b) where
  abbrev past : List Record
  past = turns b ts

  is_home : IsHome b past
  is_home = home b ts laws

  -- Who runs --------------------------------------------------------------------------------------

  present : (life c : ℕ) → runs_in (kept_after b past) life c ≡ true
      → ((controller_values b past).life ≡ Some life)
      × ((firmware_values b past).phase c ≡ phases.Running)
  present life c e = grind (arith, nat_tests, and_parts, eqb-true)

  own : (life : ℕ) → (controller_values b past).life ≡ Some life
      → in_life b life (firmware_values b past) ≡ firmware_values b past
  own life e =
      found_own b life (firmware_values b past) (sym (settled_life b past life laws.settle.some
      (laws.settle.past past is_home.legal) e is_home.entered).own)

  pub runs_so : (c life : ℕ) → c < cores b → runs_in (kept_after b past) life c ≡ true
      → RunsIn b past life c
  runs_so c life on e =
      let both = present life c e in
      let agreed = (laws.settle.past past is_home.legal).given.agreed.present life both.0 in
      record { present = both.0; place = by (place b past c) refl }
    where
      by : (p : Place) → place b past c ≡ p → place b past c ≡ Running
      by Running f = f
      by Started f = absurd (is_home.entered c on f)
      by Stopped f =
          let both = present life c e in
          let agreed = (laws.settle.past past is_home.legal).given.agreed.present life both.0 in
          absurd (agreed.rests c on f (ap (λ (u : Values). u.phase c) (own life both.0) ∙ both.1))

  pub stands_so : (c life : ℕ) → c < cores b → runs_in (kept_after b past) life c ≡ false
      → RunsIn b past life c → ⊥
  stands_so c life on e runs =
      let agreed = (laws.settle.past past is_home.legal).given.agreed.present life runs.present in
      let phase = ap (λ (u : Values). u.phase c) (sym (own life runs.present))
      ∙ agreed.runs c on runs.place in
      let here = runs.present in
      let yes : runs_in (kept_after b past) life c ≡ true = grind (arith, nat_tests, eq-eqb) in
      false≢true (sym e ∙ yes)

  -- Who stands ------------------------------------------------------------------------------------

  -- the firmware says that a core runs
  abbrev said_running : ℕ → Bool
  said_running c = phases.is_running ((firmware_values b past).phase c)

  pub moves_so : (c : ℕ) → c < cores b → stands_in (kept_after b past) c ≡ false
      → place b past c ≡ Running
  moves_so c on e = by (controller_values b past).life refl
    where
      by : (o : Option ℕ) → (controller_values b past).life ≡ o → place b past c ≡ Running
      by None f =
          let no : true ≡ false = ap (λ o. not (is_some o && said_running c)) (sym f) ∙ e in
          absurd (false≢true (sym no))
      by (Some life) f =
          let says = not_false _ (ap (λ o. not (is_some o && said_running c)) (sym f) ∙ e) in
          let same : runs_in (kept_after b past) life c ≡ ((life == life) && said_running c) =
          ap (λ o. is_this_life o life && said_running c) f in
          let yes : ((life == life) && said_running c) ≡ true =
          ap (λ t. t && said_running c) (eq-eqb life life refl) ∙ says in
          (runs_so c life on (same ∙ yes)).place

  pub rests_so : (c : ℕ) → c < cores b → stands_in (kept_after b past) c ≡ true
      → place b past c ≡ Stopped
  rests_so c on e = by (place b past c) refl
    where
      in_life_of : place b past c ≡ Running → (o : Option ℕ) → (controller_values b past).life ≡ o
          → place b past c ≡ Stopped
      in_life_of at None f =
          (laws.settle.past past is_home.legal).given.agreed.stopped f c
      in_life_of at (Some life) f =
          let stands = not_true _ (ap (λ o. not (is_some o && said_running c)) (sym f) ∙ e) in
          let no : runs_in (kept_after b past) life c ≡ false =
          ap (λ t. is_this_life (controller_values b past).life life && t) stands
          ∙ and_false (is_this_life (controller_values b past).life life) in
          absurd (stands_so c life on no (record { present = f; place = at }))

      by : (p : Place) → place b past c ≡ p → place b past c ≡ Stopped
      by Running f = in_life_of f (controller_values b past).life refl
      by Started f = absurd (is_home.entered c on f)
      by Stopped f = f
