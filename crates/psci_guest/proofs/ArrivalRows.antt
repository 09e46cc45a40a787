-- Worked examples: which core runs, which one was started and enters, and what is not settled.
use Rattle.std.proofs.Common.{◌<◌, ◌∷◌, ◌≡◌, [], arith, List, None, refl, Some, sym, true, ℕ}
use Rattle.std.proofs.lemmas.Option.{none-some, same_Some}
use Rattle.psci_messages.specs.declared.start.Cause.TheVariants as causes
use Rattle.psci_messages.specs.declared.kind.Kind.TheVariants.{Down}
use Rattle.psci_messages.specs.Message.{MessageValue}
use Rattle.psci_fw_spec.specs.declared.hw.Hw.TheVariants as hws
use Rattle.psci_fw_spec.specs.declared.outcome.Act.{Act}
use Rattle.psci_fw_spec.specs.declared.outcome.Act.TheVariants as acts
use Rattle.psci_fw_spec.specs.declared.outcome.Outcome.{Outcome}
use Rattle.psci_world_spec.specs.declared.event.Event.{Event}
use Rattle.psci_world_spec.specs.declared.event.Event.TheVariants.{Deliver, Enter, Reset, Take}
use Rattle.psci_world_spec.specs.declared.place.Place.TheVariants.{Started}
use Rattle.psci_world_spec.specs.declared.said.Record.{Record}
use Rattle.psci_world_spec.specs.declared.said.Said.{Said}
use Rattle.psci_world_spec.specs.declared.said.Said.TheVariants.{Absent, Fw}
use Rattle.psci_world_spec.specs.Legal.{place, run_from}
use Rattle.psci_world_spec.proofs.Scripts as scripts
use Rattle.psci_world_spec.proofs.Scripts.{acked, board, call, off, on_3, one_core, system_off}
use Rattle.psci_world_spec.proofs.Scripts.{tall, value, version}
use Rattle.psci_headline.proofs.Untold.{computing}
use Rattle.psci_headline.proofs.Words.{nat_tests}
use Rattle.psci_guest.specs.declared.arrival.Arrival.{Arrival}
use Rattle.psci_guest.specs.Arrivals.{AreArrivals, IsArrival, RunsIn, Says}
use Rattle.psci_guest.specs.Turns.{IsSettled}

abbrev after : List Event → List Record
after events = run_from board [] events

-- Outcomes ----------------------------------------------------------------------------------------

-- this, and nothing is sent
abbrev quiet : Act → Outcome
quiet act = record { act = act; message = None }

-- a message, and it as one that was sent
abbrev message : MessageValue
message = record {
  kind = Down;
  core = record { number = 0 };
  life = 1;
  number = 1;
  parts = [];
}

abbrev sent_so : Said
sent_so = Fw acts.Stop (Some (record { index = 3; message = message }))

says : Says (Fw acts.Resume None) (quiet acts.Resume)
    × Says sent_so (record { act = acts.Stop; message = Some message })
says = ((refl, refl), (refl, refl))

says_less : Says sent_so (quiet acts.Stop) → ⊥
says_less is = let e = is.1 in absurd (cc)

-- Running cores -----------------------------------------------------------------------------------

boot_runs : RunsIn board (after (Enter 0 ∷ [])) 1 0
unfolding scripts.computing
boot_runs = record { present = refl; place = refl }

another_life : RunsIn board (after (Enter 0 ∷ [])) 2 0 → ⊥
unfolding scripts.computing
another_life is = let no : 1 ≡ 2 = same_Some 1 2 is.present in absurd (omega (arith, no))

third_stands : RunsIn board (after (Enter 0 ∷ [])) 1 3 → ⊥
unfolding scripts.computing
third_stands is = let no = is.place in absurd (cc)

-- Arrivals ----------------------------------------------------------------------------------------

abbrev boot : Arrival
boot = record {
  core = record { number = 0 };
  start = record { life = 1; number = 1; cause = causes.Boot };
  outcome = quiet (acts.Enter 0x40000000 0);
}

-- what is so of each of four cores is so of every core of a board of four
pub by_core : (P : ℕ → Type 0) → P 0 → P 1 → P 2 → P 3 → (c : ℕ) → c < 4 → P c
by_core P p q r s c on = grind (arith, nat_tests)

boot_enters : IsArrival board [] boot
unfolding scripts.computing
boot_enters = record {
  core = omega arith;
  started = refl;
  start = refl;
  says = (refl, refl);
  alone = λ c on.
      by_core (λ x. place board [] x ≡ Started → x ≡ 0) (λ e. refl) (λ e. absurd (cc))
      (λ e. absurd (cc)) (λ e. absurd (cc)) c on;
}

-- the boot core waits too, which was reset
abbrev third : Arrival
third = record {
  core = record { number = 3 };
  start = record { life = 1; number = 1; cause = causes.On };
  outcome = quiet (acts.Enter 0x40001000 7);
}

another_waits : IsArrival board (after (Enter 0 ∷ on_3 ∷ Deliver 0 ∷ Reset 0 ∷ [])) third → ⊥
unfolding scripts.computing
another_waits is = let no : 0 ≡ 3 = is.alone 0 (omega arith) refl in absurd (omega (arith, no))

boot_waits : AreArrivals board [] None → ⊥
unfolding scripts.computing
boot_waits none = none 0 (omega arith) refl

-- Not settled -------------------------------------------------------------------------------------

-- a Start is outstanding
start_waits : IsSettled board (after (Enter 0 ∷ on_3 ∷ [])) → ⊥
unfolding scripts.computing
start_waits is = none-some _ (sym ((is.rest 1 refl).own 3 (omega arith)))

-- before the first turn the boot core waits at its start
still_waits : IsSettled one_core [] → ⊥
unfolding scripts.computing
still_waits is = (is.rest 1 refl).entered 0 (omega arith) refl

-- a record says that nothing came of a call that was answered
no_answer : IsSettled one_core (record { event = version 0; said = Absent }
    ∷ run_from one_core [] (Enter 0 ∷ [])) → ⊥
unfolding scripts.computing
no_answer is = let said = is.legal.0 in absurd (cc)

-- core 3 is OFF, and is answered as if it ran
answered_off : IsSettled board (record { event = version 3; said = value 0x10001 }
    ∷ after (Enter 0 ∷ on_3 ∷ Deliver 0 ∷ Enter 3 ∷ off 3 ∷ Deliver 1 ∷ Take 1 ∷ [])) → ⊥
unfolding scripts.computing
answered_off is = (is.safe.0.off 3 (omega arith) refl).0 refl

-- on three levels the system is off, and was acknowledged of what is below it alone
system_off_untold : IsSettled tall (run_from tall
    (record { event = Deliver 0; said = acked 1 Down 0 1 1 3 true }
    ∷ run_from tall [] (Enter 0 ∷ call 0 0xc4000001 0x03013333 0x40000100 0 ∷ Deliver 0 ∷ []))
    (Take 1 ∷ [])) → ⊥
unfolding computing
system_off_untold is =
    let no : hws.On ≡ hws.Off = (is.told 1 refl).hw (record { level = 3; place = 0 })
    (record { level = omega arith; place = omega arith }) in
    cc

-- a core enters behind the end of the last life
enters_behind : IsSettled board (record {
  event = Enter 0;
  said = Fw (acts.Enter 0x40000000 0) None;
} ∷ after (Enter 0 ∷ system_off 0 ∷ Deliver 0 ∷ [])) → ⊥
unfolding scripts.computing
enters_behind is = let place = is.over refl 0 in absurd (cc)
