-- Worked examples: cores that are not off, and histories that break the second part of sentence 1,
-- in which what AFFINITY_INFO says is OFF is not: at each level, in both modes, in life 2 and in a
-- life that is halting.
use Rattle.std.proofs.Common.{◌≡◌, ◌++◌, [], ◌∷◌, true, false, refl, ℕ, pos, Option}
use Rattle.psci_headline.specs.psci_world_spec.declared.event.Event.TheVariants.{Call, Deliver}
use Rattle.psci_headline.specs.psci_world_spec.declared.event.Event.TheVariants.{Enter, Wake}
use Rattle.psci_headline.proofs.world_spec.Scripts.{off, value, system_off}
use Rattle.psci_platform_safe.specs.Safe.{IsOff, Answers, OffIsDown}
use Rattle.psci_platform_safe.proofs.Histories.{after, computing, core_1_on, on_by_the_system}
use Rattle.psci_platform_safe.proofs.Histories.{on_in_life_2, says, status_of, suspend, tall}
use Rattle.psci_platform_safe.proofs.Histories.{tall_after, tall_on, two}
use Rattle.psci_headline.specs.psci_abi.Calls.{request_of}
use Rattle.psci_headline.specs.psci_abi.declared.registers.Regs.{Regs}
use Rattle.psci_headline.specs.psci_abi.declared.request.Request.{Request}
use Rattle.psci_headline.specs.psci_world_spec.declared.said.Said.TheVariants.{Fw}
use Rattle.psci_headline.specs.psci_world_spec.declared.said.Sent.{Sent}
use Rattle.psci_platform_safe.specs.Asked.{IsAskedOf}
use Rattle.psci_headline.specs.psci_fw_spec.declared.outcome.Act.TheVariants as acts

is_not_off :
    -- boot_core_not_down: the boot core has gone off, and its Down was not delivered
    (IsOff tall (tall_after (tall_on ++ off 0x100 ∷ [])) 0x100 → ⊥)
    -- not_down_in_life_2: so in life 2
    × (IsOff two (after (on_in_life_2 ++ off 1 ∷ [])) 1 → ⊥)
    -- runs_unentered: core 1, which was powered down and woken, runs before it has entered
    × (IsOff two (says (after (Enter 0x200 ∷ Wake 1 ∷ [])) (status_of 1 1 0) (value 0)) 1 → ⊥)
unfolding computing
is_not_off = (
  λ gone. let no : false ≡ true = gone.down in cc,
  λ gone. let no : false ≡ true = gone.down in cc,
  λ gone. gone.stopped refl,
)

-- a call that was answered with a number
pub answers : {caller code : ℕ} {regs : Regs} {sent : Option Sent} {request : Request}
    → request_of regs ≡ request
    → Answers (record {
      event = Call caller regs;
      said = Fw (acts.Return (record { 0 = pos code })) sent;
    }) request code
answers asks =
    record { caller = _; regs = _; sent = _; event = refl; asks = asks; said = refl }

-- of core 1, itself or by its cluster
pub core_1 : IsAskedOf two 1 0 1
unfolding computing
core_1 = record { core = (1, refl); domain = refl }

pub its_cluster : IsAskedOf two 1 1 1
unfolding computing
its_cluster = record { core = (1, refl); domain = refl }

-- of the boot core of three levels
boot_core : IsAskedOf tall 0x100 0 0x100
unfolding computing
boot_core = record { core = (3, refl); domain = refl }

-- what is said to be OFF while a core below runs
off_is_stopped :
    -- off_and_runs: core 1 by itself
    (OffIsDown two (says (after core_1_on) (status_of 0x200 1 0) (value 1)) → ⊥)
    -- cluster_off_and_runs: its cluster
    × (OffIsDown two (says (after core_1_on) (status_of 0x203 0xff 1) (value 1)) → ⊥)
    -- group_off_and_runs: a group
    × (OffIsDown tall (says (tall_after tall_on) (status_of 0x100 0x10000 2) (value 1)) → ⊥)
    -- system_off_and_runs: the system
    × (OffIsDown tall (says (tall_after tall_on) (status_of 0x10100 0 3) (value 1)) → ⊥)
    -- boot_core_off_and_runs: the boot core by itself
    × (OffIsDown tall (says (tall_after tall_on) (status_of 0x10100 0x100 0) (value 1)) → ⊥)
    -- off_and_runs_in_life_2: core 1, in life 2
    × (OffIsDown two (says (after on_in_life_2) (status_of 0x200 1 0) (value 1)) → ⊥)
    -- off_and_runs_by_the_system: in OS-initiated mode
    × (OffIsDown two (says (after on_by_the_system) (status_of 0x200 1 0) (value 1)) → ⊥)
    -- off_and_runs_while_halting: while the life is halting
    × (OffIsDown two (says (after (core_1_on ++ system_off 0x200 ∷ [])) (status_of 0x200 1 0)
    (value 1)) → ⊥)
unfolding computing
off_is_stopped = (
  λ down. (down 1 0 1 (answers refl) core_1).stopped refl,
  λ down. (down 0xff 1 1 (answers refl) (record { core = (1, refl); domain = refl })).stopped refl,
  λ down. (down 0x10000 2 0x10100 (answers refl)
      (record { core = (0, refl); domain = refl })).stopped refl,
  λ down. (down 0 3 0x100 (answers refl)
      (record { core = (3, refl); domain = refl })).stopped refl,
  λ down. (down 0x100 0 0x100 (answers refl) boot_core).stopped refl,
  λ down. (down 1 0 1 (answers refl) core_1).stopped refl,
  λ down. (down 1 0 1 (answers refl) core_1).stopped refl,
  λ down. (down 1 0 1 (answers refl) core_1).stopped refl,
)

-- a core that has gone off is said to be OFF before its Down was delivered
off_is_down :
    -- off_not_down: core 1 by itself
    (OffIsDown two (says (after (core_1_on ++ off 1 ∷ [])) (status_of 0x200 1 0) (value 1)) → ⊥)
    -- off_not_down_in_life_2: where it had been so in life 1
    × (OffIsDown two (says (after (on_in_life_2 ++ off 1 ∷ [])) (status_of 0x200 1 0) (value 1))
    → ⊥)
    -- off_not_down_by_the_system: in OS-initiated mode
    × (OffIsDown two (says (after (on_by_the_system ++ off 1 ∷ [])) (status_of 0x200 1 0)
    (value 1)) → ⊥)
    -- off_not_down_while_halting: while the life is halting
    × (OffIsDown two (says (after (core_1_on ++ off 1 ∷ system_off 0x200 ∷ []))
    (status_of 0x200 1 0) (value 1)) → ⊥)
    -- cluster_off_not_down: its cluster
    × (OffIsDown two (says (after (core_1_on ++ off 1 ∷ [])) (status_of 0x200 1 1) (value 1)) → ⊥)
    -- group_off_not_down: a group
    × (OffIsDown tall (says (tall_after (tall_on ++ off 0x10100 ∷ [])) (status_of 0x100 0x10000 2)
    (value 1)) → ⊥)
    -- system_off_not_down: the system, below which the boot core has gone off
    × (OffIsDown tall (says (tall_after (tall_on ++ off 0x100 ∷ [])) (status_of 0x10100 0 3)
    (value 1)) → ⊥)
    -- boot_core_off_not_down: the boot core by itself
    × (OffIsDown tall (says (tall_after (tall_on ++ off 0x100 ∷ [])) (status_of 0x10100 0x100 0)
    (value 1)) → ⊥)
    -- off_not_down_again: core 1, which was powered down before it entered
    × (OffIsDown two (says (after (core_1_on ++ suspend 1 0x00010002 ∷ Deliver 1 ∷ Wake 1 ∷ Enter 1
    ∷ off 1 ∷ [])) (status_of 0x200 1 0) (value 1)) → ⊥)
    -- boot_core_off_not_down_again: so the boot core
    × (OffIsDown tall (says (tall_after (tall_on ++ suspend 0x100 0x00010003 ∷ Deliver 1
    ∷ Wake 0x100 ∷ Enter 0x100 ∷ off 0x100 ∷ [])) (status_of 0x10100 0x100 0) (value 1)) → ⊥)
unfolding computing
off_is_down = (
  λ down. let no : false ≡ true = (down 1 0 1 (answers refl) core_1).down in cc,
  λ down. let no : false ≡ true = (down 1 0 1 (answers refl) core_1).down in cc,
  λ down. let no : false ≡ true = (down 1 0 1 (answers refl) core_1).down in cc,
  λ down. let no : false ≡ true = (down 1 0 1 (answers refl) core_1).down in cc,
  λ down. let no : false ≡ true = (down 1 1 1 (answers refl) its_cluster).down in cc,
  λ down. let no : false ≡ true = (down 0x10000 2 0x10100 (answers refl)
      (record { core = (0, refl); domain = refl })).down in cc,
  λ down. let no : false ≡ true = (down 0 3 0x100 (answers refl)
      (record { core = (3, refl); domain = refl })).down in cc,
  λ down. let no : false ≡ true = (down 0x100 0 0x100 (answers refl) boot_core).down in cc,
  λ down. let no : false ≡ true = (down 1 0 1 (answers refl) core_1).down in cc,
  λ down. let no : false ≡ true = (down 0x100 0 0x100 (answers refl) boot_core).down in cc,
)
