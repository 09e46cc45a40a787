-- Worked examples: what opens an entry point to a core, and records that open none; openings that
-- wait for a core, in both modes, in life 2 and in a life that is halting, such as do not, and
-- entries that break sentence 4.
use Rattle.std.proofs.Common.{◌≡◌, ℕ, [], ◌∷◌, None, inr, refl, arith, pos, ◌++◌, inl}
use Rattle.psci_headline.specs.psci_fw_spec.declared.mode.SuspendMode.TheVariants.{OsInitiated}
use Rattle.psci_headline.specs.psci_fw_spec.declared.mode.SuspendMode.TheVariants.{Platform}
use Rattle.psci_headline.specs.psci_world_spec.declared.event.Event.TheVariants.{Enter, Deliver}
use Rattle.psci_headline.specs.psci_world_spec.declared.said.Record.{Record}
use Rattle.psci_headline.proofs.world_spec.Scripts.{asks_on, call, enters, error, goes_down}
use Rattle.psci_headline.proofs.world_spec.Scripts.{nothing, part, resumes, returns, system_off}
use Rattle.psci_headline.proofs.world_spec.Scripts.{system_reset}
use Rattle.psci_platform_safe.specs.Safe.{boot_opening, ByCpuOn, BySuspend, IsPowerDown}
use Rattle.psci_platform_safe.specs.Safe.{NoneEnters, OneEntryEach, Waits}
use Rattle.psci_platform_safe.proofs.Histories.{after, computing, core_1_on, on_1}
use Rattle.psci_platform_safe.proofs.Histories.{on_by_the_system, says, suspend, tall}
use Rattle.psci_platform_safe.proofs.Histories.{tall_after, tall_on, told, two}
use Rattle.psci_platform_safe.proofs.Waiting.{at, by_cpu_on, by_word, never_enters, never_waits}
use Rattle.psci_platform_safe.proofs.Waiting.{none_enters, waits_now, waits_since, woken}

-- the boot core asks core 1 on
abbrev asked_on : Record
asked_on = record { event = on_1; said = asks_on 0 1 1 0 }

opens_to_core_1 : ByCpuOn asked_on 1 (at 0x40001000 7)
unfolding computing
opens_to_core_1 = by_cpu_on _ _ _ _ _ refl

-- not to another core, at another address or with another context id; and one that was refused
-- opens nothing (ALREADY_ON is -4)
opens_nothing_else : (ByCpuOn asked_on 3 (at 0x40001000 7) → ⊥)
    × (ByCpuOn asked_on 1 (at 0x40001004 7) → ⊥)
    × (ByCpuOn asked_on 1 (at 0x40001000 8) → ⊥)
    × (ByCpuOn (record { event = on_1; said = error 4 }) 1 (at 0x40001000 7) → ⊥)
unfolding computing
opens_nothing_else = search arith

abbrev suspended : ℕ → Record
suspended word = record { event = suspend 1 word; said = goes_down 1 1 1 1 (part 0 3 1 ∷ []) }

-- to its caller alone, with its address and context id
opened_to_its_caller : BySuspend two Platform (suspended 0x00010002) 1 (at 0x40004000 9)
unfolding computing
opened_to_its_caller = by_word _ _ _ 0x00010002 (2 ∷ 0 ∷ 0 ∷ 0 ∷ []) _ _ _ refl refl refl

-- not to another core or with another context id; and a core that was answered did not stop
opened_to_no_other :
    (BySuspend two Platform (suspended 0x00010002) 3 (at 0x40004000 9) → ⊥)
    × (BySuspend two Platform (suspended 0x00010002) 1 (at 0x40004000 8) → ⊥)
    × (BySuspend two Platform (record {
      event = suspend 1 0x00010002;
      said = returns (pos 0) nothing;
    }) 1 (at 0x40004000 9) → ⊥)
unfolding computing
opened_to_no_other = search arith

-- SYSTEM_SUSPEND of the boot core
system_opens : BySuspend two Platform (record {
  event = call 0x200 0xc400000e 0x40005000 6 0;
  said = goes_down 0 0x200 1 1 (part 0 3 1 ∷ []);
}) 0x200 (at 0x40005000 6)
unfolding computing
system_opens = record { regs = _; sent = _; event = refl; asks = inr refl; said = refl }

-- Power-down by a word: the class of the core decides, not the number of its state, nor another
-- level; a second state of a class above the core is one in OS-initiated mode alone.
powers_down : IsPowerDown tall Platform 0x02010223 × IsPowerDown two OsInitiated 0x01010022
unfolding computing
powers_down = (
  record { states = 3 ∷ 2 ∷ 2 ∷ 0 ∷ []; row = refl; deep = refl },
  record { states = 2 ∷ 2 ∷ 0 ∷ 0 ∷ []; row = refl; deep = refl },
)

-- a word for retention powers down nothing
no_power_down : (IsPowerDown two Platform 0x00000001 → ⊥)
    × (IsPowerDown two Platform 0x01010022 → ⊥)
unfolding computing
no_power_down = search arith

-- a core enters at an opening, or resumes
abbrev entered : ℕ → Record
entered mpidr = record { event = Enter mpidr; said = enters 0x40001000 7 }

abbrev resumed : ℕ → Record
resumed mpidr = record { event = Enter mpidr; said = resumes }

core_1_enters : NoneEnters 1 (resumed 1 ∷ entered 1 ∷ []) → ⊥
unfolding computing
core_1_enters none = none 1 (entered 1) (at 0x40001000 7) None refl refl refl

-- where each life begins
boots_at : boot_opening two ≡ at 0x40000000 0
boots_at = refl

waiting :
    -- asked_on_waits: a CPU_ON opens what it asks to the core with its MPIDR
    Waits two (after (Enter 0x200 ∷ on_1 ∷ [])) 1 (at 0x40001000 7)
    -- far_core_waits: also to a core that is not the next one of the tree
    × Waits tall (tall_after (Enter 0x100 ∷ call 0x100 0xc4000003 0x10100 0x40001000 7 ∷ []))
    0x10100 (at 0x40001000 7)
    -- suspended_waits: a suspend by a word that powers down opens it to its caller
    × Waits two (after (core_1_on ++ suspend 1 0x00010002 ∷ [])) 1 (at 0x40004000 9)
    -- waits_by_the_system: by a word that is one in OS-initiated mode alone
    × Waits two (after (on_by_the_system ++ suspend 1 0x01010022 ∷ [])) 1 (at 0x40004000 9)
    -- waits_while_halting: what was asked on before the life was halting
    × Waits two (after (Enter 0x200 ∷ on_1 ∷ system_off 0x200 ∷ [])) 1 (at 0x40001000 7)
    -- waits_beside_another: the entry of another core does not use it up
    × Waits two (says (after (Enter 0x200 ∷ on_1 ∷ [])) (Enter 0) (enters 0x40001000 7)) 1
    (at 0x40001000 7)
unfolding computing
waiting = (
  waits_now _ _ _ _ _ (inl (by_cpu_on _ _ _ _ _ refl)),
  waits_now _ _ _ _ _ (inl (by_cpu_on _ _ _ _ _ refl)),
  waits_now _ _ _ _ _ (inr (by_word _ _ _ 0x00010002 (2 ∷ 0 ∷ 0 ∷ 0 ∷ []) _ _ _ refl refl refl)),
  waits_now _ _ _ _ _ (inr (by_word _ _ _ 0x01010022 (2 ∷ 2 ∷ 0 ∷ 0 ∷ []) _ _ _ refl refl refl)),
  waits_since _ _ _ _ _ _ (search arith) refl (inl (by_cpu_on _ _ _ _ _ refl)),
  waits_since _ _ _ _ _ _ (search arith) refl (inl (by_cpu_on _ _ _ _ _ refl)),
)

-- core 1 begins life 2 as the first one: the boot core's opening waits
boot_core_waits : Waits two (after (woken ++ Enter 1 ∷ [])) 0x200 (at 0x40000000 0)
unfolding computing
boot_core_waits = record {
  since = told two (after woken) (Enter 1) ∷ [];
  before = after woken;
  split = refl;
  unused = none_enters 0x200 (told two (after woken) (Enter 1)) (search arith);
  made = inr (refl, refl, search arith);
}

never_waiting :
    -- of_the_life_before: that of a life before
    (Waits two (after (Enter 0x200 ∷ on_1 ∷ system_reset 0x200 ∷ Deliver 1 ∷ Enter 0x200 ∷ [])) 1
    (at 0x40001000 7) → ⊥)
    -- not_for_another_core: the boot core's opening waits for no other core
    × (Waits two (after (woken ++ Enter 1 ∷ [])) 1 (at 0x40000000 0) → ⊥)
unfolding computing
never_waiting = (
  never_waits _ _ 1 (at 0x40001000 7) 5 (search (arith, inl, inr)),
  never_waits _ _ 1 (at 0x40000000 0) 5 (search (arith, inl, inr)),
)

-- by core, life and entry point, and by what was used up
one_entry_each :
    -- enters_again: core 1 enters once more where it was asked on
    (OneEntryEach two (says (after core_1_on) (Enter 1) (enters 0x40001000 7)) → ⊥)
    -- far_core_enters_again: so does the far core of three levels
    × (OneEntryEach tall (says (tall_after tall_on) (Enter 0x10100) (enters 0x40001000 7)) → ⊥)
    -- enters_by_the_system: and core 1 in OS-initiated mode
    × (OneEntryEach two (says (after on_by_the_system) (Enter 1) (enters 0x40001000 7)) → ⊥)
    -- enters_while_halting: and in a life that is halting
    × (OneEntryEach two (says (after (core_1_on ++ system_off 0x200 ∷ [])) (Enter 1)
    (enters 0x40001000 7)) → ⊥)
    -- boots_again: the boot core enters twice in one life
    × (OneEntryEach two (says (after (Enter 0x200 ∷ [])) (Enter 0x200) (enters 0x40000000 0)) → ⊥)
    -- boots_elsewhere: or begins a life at another address
    × (OneEntryEach two (says [] (Enter 0x200) (enters 0x40001000 0)) → ⊥)
    -- another_core_boots: another core enters where the boot core does
    × (OneEntryEach two (says [] (Enter 1) (enters 0x40000000 0)) → ⊥)
    -- begins_life_2: also as the first one of life 2
    × (OneEntryEach two (says (after woken) (Enter 1) (enters 0x40000000 0)) → ⊥)
unfolding computing
one_entry_each = (
  never_enters _ _ 1 (at 0x40001000 7) 0 ((inl refl, search (arith, inl)), refl, None, refl)
      (search arith),
  never_enters _ _ 0x10100 (at 0x40001000 7) 0 ((inl refl, search (arith, inl)), refl, None, refl)
      (search arith),
  never_enters _ _ 1 (at 0x40001000 7) 0 ((inl refl, search (arith, inl)), refl, None, refl)
      (search arith),
  never_enters _ _ 1 (at 0x40001000 7) 1
      (search (arith, inl), ((inl refl, search (arith, inl)), refl, None, refl)) (search arith),
  never_enters _ _ 0x200 (at 0x40000000 0) 0 ((inl refl, inr refl), refl, None, refl)
      (λ by. by.2 refl),
  never_enters _ _ 0x200 (at 0x40001000 0) 0 (search arith) (search arith),
  never_enters _ _ 1 (at 0x40000000 0) 0 (search arith) (search arith),
  never_enters _ _ 1 (at 0x40000000 0) 4 (search (arith, inl, inr)) (search arith),
)
