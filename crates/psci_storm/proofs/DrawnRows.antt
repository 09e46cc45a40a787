-- Worked examples of events that were drawn, on a board of one core.
use Rattle.std.proofs.lemmas.Bool.Decides.{nat_tests}
use Rattle.std.proofs.Common.{◌==◌, false, ◌≡◌, ◌∙◌, ◌+◌, ℕ, List, [], ◌∷◌, length, refl, ap, arith}
use Rattle.psci_storm.specs.Storm.{HappensBy, IsDrawn}
use Rattle.psci_world.specs.Settling.{begun, is_waiting, round, rounds, settled}
use Rattle.psci_world.specs.psci_world_spec.declared.event.Event.{Event}
use Rattle.psci_world.specs.psci_world_spec.declared.event.Event.TheVariants.{Enter}
use Rattle.psci_world.specs.psci_world_spec.declared.said.Record.{Record}
use Rattle.psci_world.specs.psci_world_spec.declared.said.Said.TheVariants.{Ignored}
use Rattle.psci_world.specs.psci_world_spec.Legal.{legal_record, run_from}
use Rattle.psci_world.proofs.world_spec.Scripts as scripts
use Rattle.psci_world.proofs.world_spec.Scripts.{call, one_core, system_off}

-- How the examples are stated ---------------------------------------------------------------------

unfoldable pub computing : Unit {0}
unfolding scripts.computing settled begun round is_waiting rounds
computing = tt

-- the records after these events
abbrev pub after : List Event → List Record
after events = run_from one_core [] events

-- the only core is suspended with its cluster
abbrev pub suspend : Event
suspend = call 0 0xc4000001 0x01010033 0x40000100 5

-- the core entered and was suspended; the system went off
abbrev pub asleep : List Event
asleep = Enter 0 ∷ suspend ∷ []

abbrev pub going_off : List Event
going_off = Enter 0 ∷ system_off 0 ∷ []

-- a record that is not legal: the boot core's first entry is not ignored
abbrev pub wrong : Record
wrong = record { event = Enter 0; said = Ignored }

-- Lengths -----------------------------------------------------------------------------------------

run_length : (past : List Record) (events : List Event)
    → length (run_from one_core past events) ≡ length events + length past
unfolding run_from
run_length past [] = omega arith
run_length past (event ∷ events) =
    let rest = run_length (legal_record one_core past event ∷ past) events in omega arith

pub drawn_length : (before after : List Record) (count : ℕ) → IsDrawn one_core before count after
    → length after ≡ count + length before
drawn_length before after count d =
    ap length d.run ∙ run_length before d.drawn ∙ ap (λ (n : ℕ). n + length before) d.many

no_events : (past : List Record) (events : List Event) → length events ≡ 0
    → run_from one_core past events ≡ past
unfolding run_from
no_events past [] many = refl
no_events past (event ∷ events) many = absurd (omega arith)

pub none_drawn : (before after : List Record) → IsDrawn one_core before 0 after → after ≡ before
none_drawn before after d = d.run ∙ no_events before d.drawn d.many

-- another number of events than happened
not_drawn : (count : ℕ) (past : List Record) → length past == count ≡ false
    → IsDrawn one_core [] count past → ⊥
not_drawn count past other d =
    let many = drawn_length [] past count d in absurd (grind (arith, nat_tests))

-- one event was drawn, and none happened; two were, and one happened; three or one, and two
-- happened
miscounted : (IsDrawn one_core [] 1 [] → ⊥) × (IsDrawn one_core [] 2 (wrong ∷ []) → ⊥)
    × (IsDrawn one_core [] 3 (after asleep) → ⊥) × (IsDrawn one_core [] 1 (after asleep) → ⊥)
unfolding run_from
miscounted = (not_drawn 1 [] refl, not_drawn 2 _ refl, not_drawn 3 _ refl, not_drawn 1 _ refl)

-- Events that happen ------------------------------------------------------------------------------

none_happens : HappensBy one_core (after asleep) (after asleep)
unfolding run_from
none_happens = record { events = []; run = refl }

-- Events that are drawn ---------------------------------------------------------------------------

pub none_drawn_yet : IsDrawn one_core [] 0 []
unfolding run_from
none_drawn_yet = record { drawn = []; many = refl; run = refl }

pub two_drawn : IsDrawn one_core [] 2 (after asleep)
two_drawn = record { drawn = asleep; many = refl; run = refl }
