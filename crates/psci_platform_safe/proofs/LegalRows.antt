-- Worked examples: two platforms, what is said on them in their own words, and what is behind that.
use Rattle.std.proofs.Common.{◌≡◌, ◌++◌, List, [], ◌∷◌, map, reverse, false, refl, arith}
use Rattle.psci_platform.specs.Platforms.{IsPlatform, PlatformValue}
use Rattle.psci_headline.specs.psci_messages.declared.kind.Kind.TheVariants.{Down, Start}
use Rattle.psci_headline.specs.psci_world_spec.declared.event.Event.{Event}
use Rattle.psci_headline.specs.psci_world_spec.declared.event.Event.TheVariants.{Deliver, Enter}
use Rattle.psci_headline.specs.psci_world_spec.declared.event.Event.TheVariants.{Reset, Take}
use Rattle.psci_headline.specs.psci_world_spec.declared.event.Event.TheVariants.{Wake}
use Rattle.psci_headline.specs.psci_world_spec.declared.said.Record.{Record}
use Rattle.psci_headline.specs.psci_world_spec.declared.said.Said.{Said}
use Rattle.psci_headline.proofs.world_spec.Scripts.{acked, asks_on, enters, goes_down, off, on_3}
use Rattle.psci_headline.proofs.world_spec.Scripts.{part, resumes, started, used, value}
use Rattle.psci_headline.proofs.Tables.{◌⇒◌, Gives}
use Rattle.psci_platform_safe.specs.Asked.{domain_above, IsAskedOf, IsCore, IsLegalOn, mpidr_of}
use Rattle.psci_platform_safe.specs.Asked.{number, numbered, run_on}
use Rattle.psci_platform_safe.proofs.Histories.{after, computing, core_1_off, core_1_on, on_1}
use Rattle.psci_platform_safe.proofs.Histories.{says, state_of, status_of, suspend, tall, two}
use Rattle.psci_headline.specs.psci_messages.declared.start.Cause.TheVariants as causes

are_platforms : IsPlatform two × IsPlatform tall
unfolding computing
are_platforms = (
  record { faultless = refl; place = refl; inside = omega arith; symmetric = refl },
  record { faultless = refl; place = refl; inside = omega arith; symmetric = refl },
)

-- the firmware's numbers for MPIDRs, and back; past the last core where no core has the MPIDR
numbers : Gives (number two)
    (0x200 ⇒ 0 ∷ 0x203 ⇒ 1 ∷ 0 ⇒ 2 ∷ 1 ⇒ 3 ∷ 2 ⇒ 4 ∷ 0x201 ⇒ 4 ∷ [])
unfolding computing
numbers = refl

mpidrs : Gives (mpidr_of two) (0 ⇒ 0x200 ∷ 1 ⇒ 0x203 ∷ 2 ⇒ 0 ∷ 3 ⇒ 1 ∷ [])
unfolding computing
mpidrs = refl

-- gaps in the two clusters
no_cores : (IsCore two 0x201 → ⊥) × (IsCore two 2 → ⊥)
unfolding computing
no_cores = search arith

asked_of :
    -- core_asked: a core by its whole MPIDR
    IsAskedOf two 0x203 0 0x203
    -- cluster_asked: a cluster by the fields above
    × IsAskedOf two 0x2ff 1 0x203
    -- group_asked: a group
    × IsAskedOf tall 0x1ffff 2 0x10000
    -- system_asked: and the system
    × IsAskedOf tall 0xffffff 3 0x300
unfolding computing
asked_of = (
  record { core = (3, refl); domain = refl },
  record { core = (3, refl); domain = refl },
  record { core = (1, refl); domain = refl },
  record { core = (2, refl); domain = refl },
)

-- not another core, nor a core of another cluster or group
not_asked_of : (IsAskedOf two 0 0 1 → ⊥) × (IsAskedOf two 0 1 0x200 → ⊥)
    × (IsAskedOf tall 0x0ffff 2 0x10000 → ⊥)
unfolding computing
not_asked_of = search arith

-- what is said of these events in turn
abbrev said_of : PlatformValue → List Event → List Said
said_of p events = reverse (map (λ (r : Record). r.said) (run_on p [] events))

-- core 1 is asked on, enters, goes off with its cluster, and is OFF; messages name it by its MPIDR
core_goes_off : said_of two (core_1_off ++ status_of 0x200 1 0 ∷ [])
    ≡ enters 0x40000000 0 ∷ asks_on 0 1 1 0 ∷ acked 0 Start 1 1 0 1 false ∷ enters 0x40001000 7
    ∷ goes_down 1 1 1 1 (part 0 3 1 ∷ part 1 3 1 ∷ []) ∷ acked 1 Down 1 1 1 2 false ∷ used
    ∷ value 1 ∷ []
unfolding computing
core_goes_off = refl

-- behind it the firmware and the power controller have their own numbers and words
its_numbers : reverse (map (λ (r : Record). r.event) (numbered two (after core_1_off)))
    ≡ Enter 0 ∷ on_3 ∷ Deliver 0 ∷ Enter 3 ∷ off 3 ∷ Deliver 1 ∷ Take 1 ∷ []
unfolding computing
its_numbers = refl

its_reset : map (λ (r : Record). r.event) (numbered two (after (Enter 0x200 ∷ Reset 1 ∷ [])))
    ≡ Reset 3 ∷ Enter 0 ∷ []
unfolding computing
its_reset = refl

-- not legal: core 1 is OFF while it runs, and a message with the firmware's number
not_legal : (IsLegalOn two (says (after core_1_on) (status_of 0x200 1 0) (value 1)) → ⊥)
    × (IsLegalOn two (says (after (Enter 0x200 ∷ [])) on_1 (asks_on 0 3 1 0)) → ⊥)
unfolding computing
not_legal = search arith

-- the place of a core's domain of each level
places : Gives (λ level. (domain_above tall 0x10000 level).place)
    (0 ⇒ 2 ∷ 1 ⇒ 2 ∷ 2 ⇒ 1 ∷ 3 ⇒ 0 ∷ [])
unfolding computing
places = refl

-- the system is in retention with all below it, and on again once the boot core has resumed
system_sleeps : said_of tall (Enter 0x100 ∷ suspend 0x100 0x03001112 ∷ Deliver 0 ∷ Take 0
    ∷ Wake 0x100
    ∷ Enter 0x100 ∷ state_of 0x100 0x300 3 ∷ [])
    ≡ enters 0x40000000 0
    ∷ goes_down 0 0x100 1 1 (part 0 2 1 ∷ part 1 2 1 ∷ part 2 2 1 ∷ part 3 2 1 ∷ [])
    ∷ acked 0 Down 0x100 1 1 4 false ∷ used ∷ started 1 2 causes.Wake ∷ resumes ∷ value 0 ∷ []
unfolding computing
system_sleeps = refl
