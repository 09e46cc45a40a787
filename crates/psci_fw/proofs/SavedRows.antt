-- Worked examples of words from which a firmware is opened, and of why none is: a board of one
-- core, which has turned the system off in life 3.
use Rattle.std.proofs.Common.{◌++◌, ◌<◌, ◌^◌, ◌∙◌, ◌∷◌, ◌≡◌, ◌≤◌, [], ap, arith, false, flat_map}
use Rattle.std.proofs.Common.{get_or, length, List, None, Option, refl, replicate, Some, suc}
use Rattle.std.proofs.Common.{sym, zero, ℕ}
use Rattle.std.proofs.lemmas.Option.{none-some}
use Rattle.psci_board.specs.Board.{BoardValue}
use Rattle.psci_messages.specs.declared.kind.Kind.TheVariants as kinds
use Rattle.psci_messages.specs.Message.{MessageValue}
use Rattle.psci_messages.specs.Saved.{IsKept}
use Rattle.psci_messages.specs.Sum.{sum_from}
use Rattle.psci_state.specs.declared.cores.CoreState.{CoreState}
use Rattle.psci_fw_spec.specs.Values.{Values as Kept}
use Rattle.psci_fw_state.specs.declared.fault.SavedFault.{SavedFault}
use Rattle.psci_fw_state.specs.declared.fault.SavedFault.TheVariants as faults
use Rattle.psci_fw_state.specs.Saved.{IsSavable, flag, saved, saved_fault}
use Rattle.psci_fw_state.specs.Seen.{IsState, values_in}
use Rattle.psci_fw.specs.declared.fault.OpenFault.TheVariants.{Memory, Words, Values}
use Rattle.psci_fw.specs.Saved.{IsOpened, IsRefused}
use Rattle.psci_fw.specs.Reactions.{FirmwareValue, IsFirmware}
use Rattle.psci_fw.proofs.LifeRows.{board, firmware, is_state, last_life, life_beyond_the_board}
use Rattle.psci_fw.proofs.LifeRows.{running}

abbrev with_sum : List ℕ → List ℕ
with_sum ws = 0x177667370 ∷ sum_from 0 ws ∷ ws

-- the words of a halting firmware in this life, whose core has started so often
abbrev words : ℕ → ℕ → List ℕ
words life known = with_sum (life ∷ 1 ∷ 1 ∷ 0 ∷ known ∷ replicate 32 0)

-- Opened ------------------------------------------------------------------------------------------

savable : (life : ℕ) → IsSavable (firmware life)
savable life = record {
  counted = each;
  slots = record { cores = none; system = λ m e. absurd (none-some m e) };
}
  where
    each : (k : ℕ) (d : CoreState) → k < 1 → (get_or (running 1 ∷ []) k d).known < 2 ^ 32
    each zero d h = omega arith
    each (suc k) d h = absurd (omega (arith, h))

    none : (k : ℕ) (m : MessageValue) → get_or (None ∷ []) k None ≡ Some m → IsKept m
    none zero m e = absurd (none-some m e)
    none (suc k) m e = absurd (none-some m e)

opened : IsOpened board (saved (firmware 3)) (firmware 3)
opened = record {
  firmware = last_life;
  board = refl;
  words = refl;
  state = is_state 3;
  savable = savable 3;
}

opened_on_another_board : IsOpened (record board { lives = 4 }) (saved (firmware 3)) (firmware 3)
    → ⊥
opened_on_another_board h =
    let e : ◌≡◌ {A = ℕ} 3 4 = ap (λ (b : BoardValue). b.lives) h.board in omega arith

opened_from_other_words : IsOpened board (words 2 1) (firmware 3) → ⊥
unfolding saved
opened_from_other_words h =
    let e : ◌≡◌ {A = ℕ} 3 2 = ap (λ ws. get_or ws 2 0) h.words in omega arith

opened_beyond_the_last_life : IsOpened board (saved (firmware 4)) (firmware 4) → ⊥
opened_beyond_the_last_life h = life_beyond_the_board h.firmware

opened_without_counts : IsOpened board (saved (firmware 3)) (record (firmware 3) { counts = [] })
    → ⊥
opened_without_counts h = let e : ◌≡◌ {A = ℕ} 0 1 = h.state.counts.shape.height in omega arith

-- its message for the system has a number of 33 bits
abbrev beyond : FirmwareValue
beyond = record (firmware 3) {
  slots = record {
    cores = None ∷ [];
    system = Some (record {
      kind = kinds.Off;
      core = record { number = 0 };
      life = 3;
      number = 2 ^ 32;
      parts = [];
    });
  };
}

opened_with_a_long_number : IsOpened board (saved beyond) beyond → ⊥
opened_with_a_long_number h = omega (arith, (h.savable.slots.system _ refl).number)

-- Refused -----------------------------------------------------------------------------------------

-- where there is no memory any words are
no_memory : IsRefused board (words 3 1) Memory × IsRefused board [] Memory
no_memory = (tt, tt)

-- words with a fault are refused by it and no other
of_a_fault : IsRefused board [] (Words faults.Length)
    × IsRefused board (words 4 1) (Words faults.Life)
unfolding saved_fault
of_a_fault = (refl, refl)

of_another_fault : IsRefused board (words 4 1) (Words faults.Mode) → ⊥
unfolding saved_fault
of_another_fault h =
    let e : ◌≡◌ {A = Option SavedFault} (Some faults.Life) (Some faults.Mode) = h in absurd (cc)

of_no_fault : IsRefused board (words 3 1) (Words faults.Life) → ⊥
unfolding saved_fault
of_no_fault h = let e : ◌≡◌ {A = Option SavedFault} None (Some faults.Life) = h in absurd (cc)

values_of_words_with_a_fault : IsRefused board (words 4 1) Values → ⊥
unfolding saved_fault
values_of_words_with_a_fault h =
    let e : ◌≡◌ {A = Option SavedFault} (Some faults.Life) None = h.0 in absurd (cc)

-- not the values of a firmware, of which they are saved
values_of_a_firmware : IsRefused board (saved (firmware 3)) Values → ⊥
values_of_a_firmware h = h.1 (firmware 3) last_life (is_state 3) refl (savable 3) refl

-- but those of one that is halting before any core has entered
never_halting : (f : FirmwareValue) → IsFirmware f → saved f ≡ words 0 1 → ⊥
unfolding saved values_in
never_halting f is e =
    let life : f.life ≡ 0 = ap (λ ws. get_or ws 2 0) e in
    let none : f.halting ≡ false = ap (λ (v : Kept). v.halting) (is.fresh.same life) in
    let set : flag f.halting ≡ 1 = ap (λ ws. get_or ws 3 0) e in
    omega (arith, set, ap flag none)

halting_before_a_life : IsRefused board (words 0 1) Values
unfolding saved_fault
halting_before_a_life = (refl, λ f is state at savable e. never_halting f is e)
