-- Worked examples: what cores ask by their words, moments at which they ask for a depth or not, and
-- what the start of a life takes down.
use Rattle.std.proofs.Common.{◌≡◌, ◌≤◌, ◌++◌, ℕ, List, [], ◌∷◌, inl, inr, map, refl, arith}
use Rattle.psci_headline.specs.psci_fw_spec.declared.mode.SuspendMode.TheVariants.{OsInitiated}
use Rattle.psci_headline.specs.psci_fw_spec.declared.mode.SuspendMode.TheVariants.{Platform}
use Rattle.psci_headline.specs.psci_world_spec.declared.event.Event.{Event}
use Rattle.psci_headline.specs.psci_world_spec.declared.event.Event.TheVariants.{Deliver, Enter}
use Rattle.psci_headline.specs.psci_world_spec.declared.said.Record.{Record}
use Rattle.psci_headline.proofs.world_spec.Scripts.{call, off, system_off, value}
use Rattle.psci_headline.proofs.Tables.{◌⇒◌, Gives}
use Rattle.psci_platform_safe.specs.Asked.{AllAsk, AskFor, asks, AsksByWord, IsFromStart, run_on}
use Rattle.psci_platform_safe.proofs.Histories.{after, computing, core_1_on, life_2, on_1}
use Rattle.psci_platform_safe.proofs.Histories.{on_by_the_system, says, suspend, tall}
use Rattle.psci_platform_safe.proofs.Histories.{tall_after, tall_on, told, two}
use Rattle.psci_platform_safe.proofs.Moments.{all_ask, apart, of_level}
use Rattle.std.specs.Prelude.{slice_index}
use Rattle.psci_platform.specs.States.{depth_at}

-- what a core asks of itself, its cluster and the system after these events
abbrev asks_after : ℕ × List Event → List ℕ
asks_after x = map (asks two (after x.1) x.0) (0 ∷ 1 ∷ 2 ∷ [])

asked_after : Gives asks_after
    -- nothing while it runs
    ((1, core_1_on) ⇒ (0 ∷ 0 ∷ 0 ∷ [])
    -- by a word the classes of its states: retention of the core; power-down of it, with retention
    -- of the cluster, and with power-down of it
    ∷ (1, core_1_on ++ suspend 1 0x00000001 ∷ []) ⇒ (2 ∷ 0 ∷ 0 ∷ [])
    ∷ (1, core_1_on ++ suspend 1 0x01010012 ∷ []) ⇒ (3 ∷ 2 ∷ 0 ∷ [])
    ∷ (1, core_1_on ++ suspend 1 0x01010032 ∷ []) ⇒ (3 ∷ 3 ∷ 0 ∷ [])
    -- a second state of a class in OS-initiated mode alone: else the core runs on
    ∷ (1, core_1_on ++ suspend 1 0x01010022 ∷ []) ⇒ (0 ∷ 0 ∷ 0 ∷ [])
    ∷ (1, on_by_the_system ++ suspend 1 0x01010022 ∷ []) ⇒ (3 ∷ 2 ∷ 0 ∷ [])
    -- a word that the platform does not have
    ∷ (1, core_1_on ++ suspend 1 0x01010033 ∷ []) ⇒ (0 ∷ 0 ∷ 0 ∷ [])
    -- power-down of all by CPU_OFF, and of a core that was not asked on in this life
    ∷ (1, core_1_on ++ off 1 ∷ []) ⇒ (3 ∷ 3 ∷ 3 ∷ [])
    ∷ (0x203, core_1_on) ⇒ (3 ∷ 3 ∷ 3 ∷ []) ∷ [])
unfolding computing
asked_after = refl

-- core 1 runs and asks nothing of its cluster, whatever core 0 asks
one_runs : AllAsk two (after core_1_on) 0 1 2 1 → ⊥
unfolding computing
one_runs all = omega (arith, all 1 ((1, refl), refl))

-- both cores of a group ask its power-down, and no core beside the group has to
abbrev group_down : List Record
group_down = tall_after (tall_on ++ suspend 0x10100 0x02010223 ∷ [])

group_asks : AllAsk tall group_down 0x10000 2 3 2
unfolding computing
group_asks =
    let yes : 3 ≤ 3 = omega arith in
    all_ask tall group_down 0x10000 2 3 2 (inr yes, (inr yes, (inl refl, (inl refl, tt))))

-- core 1 asks power-down of itself alone, which is none of its cluster
abbrev itself_alone : List Record
itself_alone = after (core_1_on ++ suspend 1 0x00010002 ∷ [])

itself_is_not_its_cluster : AskFor Platform two itself_alone 1 1 1 3 → ⊥
unfolding computing
itself_is_not_its_cluster all = omega (arith, all 1 ((1, refl), refl))

-- in OS-initiated mode it has to ask it of the cluster, where core 0, which is off, does
claimer_has_to_ask : AskFor OsInitiated two itself_alone 1 0 1 3 → ⊥
unfolding computing
claimer_has_to_ask both = omega (arith, both.0)

-- and core 0 of itself, which runs
others_have_to_ask : AskFor OsInitiated two (after (Enter 0x200 ∷ on_1
    ∷ call 0x200 0xc4000003 0 0x40002000 5 ∷ Deliver 0 ∷ Deliver 1 ∷ Enter 1 ∷ Enter 0
    ∷ suspend 1 0x01010032 ∷ [])) 1 1 1 3 → ⊥
unfolding computing
others_have_to_ask both = omega (arith, both.1 0 ((0, refl), refl))

-- in OS-initiated mode the claiming core has to ask it of the cluster itself
own_ask : AskFor OsInitiated two (after (core_1_on ++ suspend 1 0x00000001 ∷ [])) 1 1 1 2 → ⊥
unfolding computing
own_ask both = omega (arith, both.0)

-- each domain but those above the boot core, at each level, and in each life
from_the_start : IsFromStart tall (tall_after (Enter 0x100 ∷ [])) 0x10000 2 3
    × IsFromStart two (after life_2) 0x203 0 3
unfolding computing
from_the_start = (
  record { off_path = λ beside. apart _ _ refl beside.1; deep = refl; live = refl },
  record { off_path = λ beside. apart _ _ refl beside.1; deep = refl; live = refl },
)

not_from_the_start :
    -- own_group: not the boot core's own group
    (IsFromStart tall [] 0x300 2 3 → ⊥)
    -- the_system: nor the system
    × (IsFromStart tall [] 0x10000 3 3 → ⊥)
    -- own_group_without_a_life: nor its group once the system is off
    × (IsFromStart tall (tall_after (Enter 0x100 ∷ system_off 0x100 ∷ Deliver 0 ∷ [])) 0x300 2 3
    → ⊥)
    -- started_since: nor a core that was started
    × (IsFromStart two (after core_1_on) 1 0 3 → ⊥)
    -- in_retention: and nothing but power-down
    × (IsFromStart two (after (Enter 0x200 ∷ [])) 0x203 0 2 → ⊥)
unfolding computing
not_from_the_start = (
  λ is. is.off_path ((3, refl), refl),
  λ is. is.off_path ((3, refl), refl),
  λ is. is.off_path ((3, refl), refl),
  λ is. omega (arith, is.live),
  λ is. omega (arith, is.deep),
)

-- what a word asks is the class of each level's state, by the row of the word
group_by_word : AsksByWord tall (told tall (run_on tall [] tall_on) (suspend 0x10100 0x02010113))
    (run_on tall [] tall_on) 0x10100 0x02010113
unfolding computing
group_by_word = record {
  states = 3 ∷ 1 ∷ 1 ∷ 0 ∷ [];
  row = refl;
  asked = λ level low.
      of_level (λ l. asks tall (run_on tall []
      (tall_on ++ suspend 0x10100 0x02010113 ∷ [])) 0x10100 l
      ≡ depth_at tall.description l (slice_index (3 ∷ 1 ∷ 1 ∷ 0 ∷ []) l)) 3 level low
      (refl, (refl, (refl, (refl, tt))));
}

-- core 1 was suspended in OS-initiated mode, and the other mode is set, which the firmware would
-- refuse
abbrev mode_set : List Record
mode_set = says (after (on_by_the_system ++ suspend 1 0x01010022 ∷ []))
    (call 0x200 0x8400000f 0 0 0) (value 0)

not_by_word :
    -- runs_on: a core that runs on asks nothing by the word
    (AsksByWord tall (told tall (tall_after tall_on) (suspend 0x10000 0x02010113))
    (tall_after tall_on) 0x10100 0x02010113 → ⊥)
    -- in_the_other_mode: nor does one whose word has states in the other mode alone
    × (AsksByWord two (told two (after core_1_on) (suspend 1 0x01010022)) (after core_1_on) 1
    0x01010022 → ⊥)
    -- mode_set_since: also where it was suspended in that mode
    × (AsksByWord two (told two mode_set (Deliver 9)) mode_set 1 0x01010022 → ⊥)
unfolding computing
not_by_word = (
  λ by. grind (arith, by.row, by.asked 0 (omega arith)),
  search arith,
  search arith,
)
