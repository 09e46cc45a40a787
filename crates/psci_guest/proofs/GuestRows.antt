-- Worked examples: what is told of a turn.
use Rattle.std.proofs.Common.{◌≡◌, [], arith, List, None, pos, refl, Some, ℕ}
use Rattle.psci_messages.specs.declared.start.Cause.{Cause}
use Rattle.psci_messages.specs.declared.start.Cause.TheVariants as causes
use Rattle.psci_fw_spec.specs.declared.outcome.Act.{Act}
use Rattle.psci_fw_spec.specs.declared.outcome.Act.TheVariants as acts
use Rattle.psci_fw_spec.specs.declared.outcome.Outcome.{Outcome}
use Rattle.psci_messages.specs.declared.kind.Kind.{Kind}
use Rattle.psci_messages.specs.declared.kind.Kind.TheVariants as kinds
use Rattle.psci_world_spec.specs.declared.place.Place.TheVariants.{Started}
use Rattle.psci_world_spec.specs.declared.said.Record.{Record}
use Rattle.psci_world_spec.specs.Legal.{place}
use Rattle.psci_world_spec.proofs.Scripts as scripts
use Rattle.psci_world_spec.proofs.Scripts.{board}
use Rattle.psci_guest.specs.declared.arrival.Arrival.{Arrival}
use Rattle.psci_guest.specs.Guest.{IsTold}
use Rattle.psci_guest.specs.Turns.{arrived, Calls, event_of, exchange, Turn, turns}
use Rattle.psci_guest.proofs.ArrivalRows.{by_core}

unfoldable pub computing : Unit {0}
unfolding scripts.computing turns arrived exchange
computing = tt

-- a core calls with these registers
abbrev call : ℕ → ℕ → ℕ → ℕ → ℕ → Turn
call c x0 x1 x2 x3 = Calls c (record { x0 = x0; x1 = x1; x2 = x2; x3 = x3 })

-- CPU_ON of core 3 by the boot core, and what else is called
abbrev on_3 : Turn
on_3 = call 0 0xc4000003 0x101 0x40001000 7

-- the boot core has entered
abbrev began : List Record
began = turns board []

-- a core enters by its first start of a life
abbrev pub enters : ℕ → ℕ → Cause → Outcome → Arrival
enters c life cause outcome = record {
  core = record { number = c };
  start = record { life = life; number = 1; cause = cause };
  outcome = outcome;
}

-- this, and nothing is sent
abbrev pub quiet : Act → Outcome
quiet act = record { act = act; message = None }

-- this, and a message of core c in life 1, without parts
abbrev sends : Act → Kind → ℕ → ℕ → Outcome
sends act kind c number = record {
  act = act;
  message = Some (record {
    kind = kind;
    core = record { number = c };
    life = 1;
    number = number;
    parts = [];
  });
}

-- core 3, where the boot core asked
abbrev third : Arrival
third = enters 3 1 causes.On (quiet (acts.Enter 0x40001000 7))

abbrev success : Outcome
success = sends (acts.Return (record { 0 = pos 0 })) kinds.Start 3 0

-- core 3 is asked on
told : IsTold board began on_3 (record { outcome = success; arrival = Some third; life = Some 1 })
unfolding computing
told = record {
  says = (refl, refl);
  arrival = record {
    core = omega arith;
    started = refl;
    start = refl;
    says = (refl, refl);
    alone = λ c on.
        by_core (λ x. place board (exchange board began (event_of on_3)) x ≡ Started → x ≡ 3)
        (λ e. absurd (cc)) (λ e. absurd (cc)) (λ e. absurd (cc)) (λ e. refl) c on;
  };
  life = refl;
}

other_act : IsTold board began on_3
    (record { outcome = quiet acts.Stop; arrival = Some third; life = Some 1 }) → ⊥
unfolding computing
other_act is = let act = is.says.0 in absurd (cc)

nobody_enters : IsTold board began on_3
    (record { outcome = success; arrival = None; life = Some 1 }) → ⊥
unfolding computing
nobody_enters is = is.arrival 3 (omega arith) refl

no_life : IsTold board began on_3
    (record { outcome = success; arrival = Some third; life = None }) → ⊥
unfolding computing
no_life is = let life = is.life in absurd (cc)
