-- Worked examples: Downs for which cores had asked, and such for which they had not; histories that
-- break sentence 3, in which a domain is deeper than the cores below it had asked for: at each
-- level, in both modes, in life 2 and in a life that is halting.
use Rattle.std.proofs.Common.{◌++◌, ◌∷◌, ◌≡◌, [], arith, false, inl, inr, length, List, refl}
use Rattle.std.proofs.Common.{Some, subst, sym, take, ℕ}
use Rattle.psci_headline.specs.psci_ctl_spec.Values.{starts_below}
use Rattle.psci_headline.specs.psci_fw_laws.Messages.{part_for}
use Rattle.psci_headline.specs.psci_world_spec.Legal.{controller_values, sent_in}
use Rattle.psci_headline.specs.psci_world_spec.declared.said.Record.{Record}
use Rattle.psci_platform.specs.Platforms.{PlatformValue}
use Rattle.psci_platform_safe.specs.Asked.{AskFor, domain_above, mode_of, mpidr_of, numbered}
use Rattle.psci_platform_safe.specs.Asked.{run_on, said_in_numbers, WasAskedFor}
use Rattle.psci_headline.specs.psci_messages.declared.part.Part.{Part}
use Rattle.psci_headline.specs.psci_messages.declared.kind.Kind.TheVariants.{Down}
use Rattle.psci_headline.specs.psci_messages.Message.{MessageValue}
use Rattle.psci_headline.specs.psci_world_spec.declared.event.Event.{Event}
use Rattle.psci_headline.specs.psci_world_spec.declared.event.Event.TheVariants.{Deliver, Enter}
use Rattle.psci_headline.specs.psci_world_spec.declared.event.Event.TheVariants.{Wake}
use Rattle.psci_headline.proofs.world_spec.Scripts.{acked, call, goes_down, off, part}
use Rattle.psci_headline.proofs.world_spec.Scripts.{system_off, system_reset}
use Rattle.psci_platform_safe.proofs.Histories.{after, computing, core_1_on, on_1}
use Rattle.psci_platform_safe.proofs.Histories.{on_by_the_system, on_in_life_2, says, suspend}
use Rattle.psci_platform_safe.proofs.Histories.{tall, tall_after, tall_on, told, two}
use Rattle.psci_platform_safe.proofs.Moments.{Beside, OfEach, all_ask, deeper, not_asked_for}
use Rattle.psci_headline.specs.psci_fw_spec.declared.mode.SuspendMode.TheVariants.{Platform}
use Rattle.psci_platform_safe.specs.Safe.{NoDeeperThanAsked}

-- an event was legal after others and before more, and in platform-coordinated mode all cores below
-- a domain had asked for what its Down claims of it
was_asked : {mpidr level life : ℕ} {m : MessageValue} (p : PlatformValue) (first : List Event)
    (e : Event) (more : List Event) (one : Part)
    → run_on p [] (first ++ e ∷ more) ≡ take (length more) (run_on p [] (first ++ e ∷ more))
    ++ (told p (run_on p [] first) e ∷ run_on p [] first)
    → sent_in (said_in_numbers p (told p (run_on p [] first) e).said) ≡ Some m
    → part_for p.board life level (domain_above p mpidr level).place m ≡ Some one
    → one.generation ≡ starts_below p.board
    (controller_values p.board (numbered p (run_on p [] (first ++ e ∷ more)))).starts
    (domain_above p mpidr level)
    → mode_of p (told p (run_on p [] first) e ∷ run_on p [] first) ≡ Platform
    → OfEach (Beside p (told p (run_on p [] first) e ∷ run_on p [] first) mpidr level one.depth
    level)
    p.description.mpidrs
    → WasAskedFor p (run_on p [] (first ++ e ∷ more)) mpidr level life one.depth
was_asked {mpidr = mpidr} {level = level} {m = m} p first e more one split sent has live mode all =
    let now = told p (run_on p [] first) e ∷ run_on p [] first in
    record {
      later = take (length more) (run_on p [] (first ++ e ∷ more));
      r = told p (run_on p [] first) e;
      before = run_on p [] first;
      split = split;
      message = m;
      sent = sent;
      part = one;
      has = has;
      deep = refl;
      live = live;
      asked = subst (λ k. AskFor k p now (mpidr_of p m.core.number) mpidr level one.depth)
          (sym mode)
          (all_ask p now mpidr level one.depth level all);
    }

-- the boot core alone has entered
abbrev boot_on : List Event
boot_on = Enter 0x100 ∷ []

was_asked_for :
    -- core_was_asked: a core, in standby
    WasAskedFor tall
    (run_on tall [] (tall_on ++ suspend 0x10100 0x00000001 ∷ Deliver 1 ∷ [])) 0x10100 0 1 1
    -- group_was_asked: a group, by both its cores, of which one is off
    × WasAskedFor tall
    (run_on tall [] (tall_on ++ suspend 0x10100 0x02010223 ∷ Deliver 1 ∷ [])) 0x10000 2 1 3
    -- system_was_asked: the system, in retention, by the boot core, beside which all are off
    × WasAskedFor tall
    (run_on tall [] (boot_on ++ suspend 0x100 0x03001112 ∷ Deliver 0 ∷ [])) 0x300 3 1 2
    -- boot_core_was_asked: and the boot core itself
    × WasAskedFor tall
    (run_on tall [] (boot_on ++ suspend 0x100 0x03001112 ∷ Deliver 0 ∷ [])) 0x100 0 1 2
    -- cluster_was_asked_in_life_2: in life 2 the cluster of core 1, which goes off
    × WasAskedFor two (run_on two [] (on_in_life_2 ++ off 1 ∷ Deliver 2 ∷ [])) 0 1 2 3
    -- group_was_asked_before_halting: a group whose Down is carried out once the life is halting
    × WasAskedFor tall (run_on tall []
    (tall_on ++ suspend 0x10100 0x02010223 ∷ system_off 0x100 ∷ Deliver 1 ∷ [])) 0x10100 2 1 3
unfolding computing
was_asked_for = (
  was_asked tall tall_on (suspend 0x10100 0x00000001) (Deliver 1 ∷ []) (part 0 1 1)
      refl refl refl refl refl (inr (omega arith), (inl refl, (inl refl, (inl refl, tt)))),
  was_asked tall tall_on (suspend 0x10100 0x02010223) (Deliver 1 ∷ []) (part 2 3 1)
      refl refl refl refl refl
      (inr (omega arith), (inr (omega arith), (inl refl, (inl refl, tt)))),
  was_asked tall boot_on (suspend 0x100 0x03001112) (Deliver 0 ∷ []) (part 3 2 1)
      refl refl refl refl refl
      (inr (omega arith), (inr (omega arith), (inr (omega arith), (inr (omega arith), tt)))),
  was_asked tall boot_on (suspend 0x100 0x03001112) (Deliver 0 ∷ []) (part 0 2 1)
      refl refl refl refl refl (inl refl, (inl refl, (inl refl, (inr (omega arith), tt)))),
  was_asked two on_in_life_2 (off 1) (Deliver 2 ∷ []) (part 1 3 1)
      refl refl refl refl refl
      (inr (omega arith), (inr (omega arith), (inl refl, (inl refl, tt)))),
  was_asked tall tall_on (suspend 0x10100 0x02010223) (system_off 0x100 ∷ Deliver 1 ∷ [])
      (part 2 3 1) refl refl refl refl refl
      (inr (omega arith), (inr (omega arith), (inl refl, (inl refl, tt)))),
)

-- in OS-initiated mode the last core asks for its group, and each core for at least as much of
-- itself
abbrev tall_on_by_the_system : List Event
tall_on_by_the_system = Enter 0x100 ∷ call 0x100 0x8400000f 1 0 0
    ∷ call 0x100 0xc4000003 0x10100 0x40001000 7 ∷ Deliver 0 ∷ Enter 0x10100 ∷ []

abbrev group_down_by_the_system : List Event
group_down_by_the_system = tall_on_by_the_system ++ suspend 0x10100 0x02010113 ∷ []

group_was_asked_by_its_last_core : WasAskedFor tall
    (run_on tall [] (group_down_by_the_system ++ Deliver 1 ∷ [])) 0x10000 2 1 2
unfolding computing
group_was_asked_by_its_last_core = record {
  later = told tall (run_on tall [] (group_down_by_the_system)) (Deliver 1) ∷ [];
  r = told tall (run_on tall [] tall_on_by_the_system) (suspend 0x10100 0x02010113);
  before = run_on tall [] tall_on_by_the_system;
  split = refl;
  message = _;
  sent = refl;
  part = part 2 2 1;
  has = refl;
  deep = refl;
  live = refl;
  asked = (
    omega arith,
    all_ask tall (run_on tall [] group_down_by_the_system) 0x10000 2 2 0
        (inr (omega arith), (inr (omega arith), (inl refl, (inl refl, tt)))),
  );
}

-- core 1 is suspended by a word, and its Down has these parts
abbrev says_down : ℕ → List Part → List Record
says_down word parts = says (after core_1_on) (suspend 1 word) (goes_down 1 1 1 1 parts)

-- its Down was sent before it was started again, or before life 2
abbrev started_again : List Record
started_again = after (core_1_on ++ off 1 ∷ Wake 1 ∷ [])

abbrev off_in_life_1 : List Record
off_in_life_1 = after (core_1_on ++ off 1 ∷ system_reset 0x200 ∷ Deliver 2 ∷ Enter 0x200 ∷ on_1
    ∷ Deliver 3 ∷ [])

was_not_asked :
    -- has_no_part: the Down by which core 1 asks for its cluster has no part for it
    (WasAskedFor two (says_down 0x01010032 (part 0 3 1 ∷ [])) 1 1 1 3 → ⊥)
    -- says_less: its part says less
    × (WasAskedFor two (says_down 0x00010002 (part 0 2 1 ∷ [])) 1 0 1 3 → ⊥)
    -- of_an_older_start: it was sent before core 1 was started again
    × (WasAskedFor two started_again 1 0 1 3 → ⊥)
    -- of_the_life_before: it was sent in life 1
    × (WasAskedFor two off_in_life_1 1 0 2 3 → ⊥)
unfolding computing
was_not_asked = (
  not_asked_for _ _ _ _ _ _ (search arith),
  not_asked_for _ _ _ _ _ _ (search arith),
  not_asked_for _ _ _ _ _ _ (search arith),
  not_asked_for _ _ _ _ _ _ (search arith),
)

-- a core asks by its word for less than what is carried out
at_each_level :
    -- deeper_core: for retention, and core 1 is powered down
    (NoDeeperThanAsked two (run_on two (says (after core_1_on) (suspend 1 0x00000001)
    (goes_down 1 1 1 1 (part 0 3 1
    ∷ []))) (Deliver 1 ∷ [])) → ⊥)
    -- deeper_boot_core: so does the boot core
    × (NoDeeperThanAsked two (run_on two (says (after (Enter 0x200
    ∷ [])) (suspend 0x200 0x00000001) (goes_down 0 0x200 1 1 (part 0 3 1 ∷ []))) (Deliver 0 ∷ []))
    → ⊥)
    -- deeper_cluster: for power-down of itself alone, and its cluster is powered down
    × (NoDeeperThanAsked two (run_on two (says (after core_1_on) (suspend 1 0x00010002)
    (goes_down 1 1 1 1 (part 0 3 1
    ∷ part 1 3 1 ∷ []))) (Deliver 1 ∷ [])) → ⊥)
    -- deeper_group: the far core for its cluster, and its group is powered down
    × (NoDeeperThanAsked tall (run_on tall (says (tall_after tall_on) (suspend 0x10100 0x01010023)
    (goes_down 1 0x10100 1 1 (part 0 3 1
    ∷ part 1 3 1 ∷ part 2 3 1 ∷ []))) (Deliver 1 ∷ [])) → ⊥)
    -- deeper_system: the far core for its group, and the system is powered down
    × (NoDeeperThanAsked tall (says (says (tall_after tall_on) (suspend 0x10100 0x02010223)
    (goes_down 1 0x10100 1 1 (part 0 3 1
    ∷ part 1 3 1 ∷ part 2 3 1 ∷ part 3 3 2 ∷ []))) (Deliver 1) (acked 1 Down 0x10100 1 1 4 false))
    → ⊥)
unfolding computing
at_each_level = (
  deeper _ _ 1 0 1 (1, refl) (omega arith) refl (omega arith)
      (λ m. omega (arith, m.asked 1 ((1, refl), refl)), search arith) (search arith),
  deeper _ _ 0x200 0 1 (2, refl) (omega arith) refl (omega arith)
      (λ m. omega (arith, m.asked 0x200 ((2, refl), refl)), search arith) (search arith),
  deeper _ _ 1 1 1 (1, refl) (omega arith) refl (omega arith)
      (λ m. omega (arith, m.asked 1 ((1, refl), refl)), search arith) (search arith),
  deeper _ _ 0x10100 2 1 (0, refl) (omega arith) refl (omega arith)
      (λ m. omega (arith, m.asked 0x10100 ((0, refl), refl)), search arith) (search arith),
  deeper _ _ 0x10100 3 1 (0, refl) (omega arith) refl (omega arith)
      (λ m. omega (arith, m.asked 0x10100 ((0, refl), refl)), search arith) (search arith),
)

-- core 0 runs beside core 1
abbrev both_on : List Record
both_on = after (Enter 0x200 ∷ on_1 ∷ call 0x200 0xc4000003 0 0x40002000 5 ∷ Deliver 0 ∷ Deliver 1
    ∷ Enter 1 ∷ Enter 0 ∷ [])

-- core 1 had been off in life 1
abbrev off_before_life_2 : List Record
off_before_life_2 = run_on two
    (says (after (Enter 0x200 ∷ [])) (off 0x203) (goes_down 0 1 1 1 (part 0 3 1 ∷ [])))
    (system_reset 0x200 ∷ Deliver 1 ∷ Enter 0x200 ∷ on_1 ∷ Deliver 2 ∷ Enter 1 ∷ [])

in_modes_and_lives :
    -- neighbour_runs: core 1 asks for its cluster, in which core 0 runs
    (NoDeeperThanAsked two (says (says both_on (suspend 1 0x01010032) (goes_down 2 1 1 1 (part 0 3 1
    ∷ part 1 3 2 ∷ []))) (Deliver 2) (acked 2 Down 1 1 1 2 false)) → ⊥)
    -- claimer_asks_itself: core 1 asks for itself alone: that core 0 is off asks for no cluster
    × (NoDeeperThanAsked two (run_on two (says (after on_by_the_system) (suspend 1 0x00010002)
    (goes_down 1 1 1 1 (part 0 3 1
    ∷ part 1 3 1 ∷ []))) (Deliver 1 ∷ [])) → ⊥)
    -- deeper_in_life_2: in life 2
    × (NoDeeperThanAsked two (run_on two (says off_before_life_2 (suspend 1 0x00000001)
    (goes_down 3 1 2 1 (part 0 3 1
    ∷ []))) (Deliver 3 ∷ [])) → ⊥)
    -- deeper_while_halting: in a life that is halting
    × (NoDeeperThanAsked two (run_on two (says (after (core_1_on ++ system_off 0x200
    ∷ [])) (suspend 1 0x00000001) (goes_down 2 1 1 1 (part 0 3 1 ∷ []))) (Deliver 2 ∷ [])) → ⊥)
unfolding computing
in_modes_and_lives = (
  deeper _ _ 1 1 1 (1, refl) (omega arith) refl (omega arith)
      (λ m. omega (arith, m.asked 0 ((0, refl), refl)), search arith) (search arith),
  deeper _ _ 0 1 1 (0, refl) (omega arith) refl (omega arith)
      (λ m. omega (arith, m.asked.0), search arith) (search arith),
  deeper _ _ 1 0 2 (1, refl) (omega arith) refl (omega arith)
      (λ m. omega (arith, m.asked 1 ((1, refl), refl)), search arith) (search arith),
  deeper _ _ 1 0 1 (1, refl) (omega arith) refl (omega arith)
      (λ m. omega (arith, m.asked 1 ((1, refl), refl)), search arith) (search arith),
)
