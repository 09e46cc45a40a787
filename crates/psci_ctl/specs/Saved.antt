-- A power controller as words of 64 bits, and the first fault of words that are none.
use Rattle.std.specs.Prelude.{◌%◌, ◌&&◌, ◌*◌, ◌++◌, ◌+◌, ◌/◌, ◌==◌, ◌^◌, ◌||◌, ◌∷◌, [], Bool}
use Rattle.std.specs.Prelude.{drop, flat_map, if◌then◌else◌, length, List, map, nat_le, nat_lt}
use Rattle.std.specs.Prelude.{None, not, Option, slice_index, Some, sum, take, ℕ}
use Rattle.std.specs.List.{list_all}
use Rattle.psci_board.specs.Board.{BoardValue, cores, size_below}
use Rattle.psci_messages.specs.psci_state.PowerState.{power_down}
use Rattle.psci_messages.specs.declared.start.Cause.{Cause}
use Rattle.psci_messages.specs.declared.start.Cause.TheVariants as causes
use Rattle.psci_ctl.specs.declared.fault.SavedFault.{SavedFault}
use Rattle.psci_ctl.specs.declared.fault.SavedFault.TheVariants as faults
use Rattle.psci_ctl.specs.declared.level.DomainRow.{DomainRow}
use Rattle.psci_ctl.specs.declared.row.CoreRow.{CoreRow}
use Rattle.psci_ctl.specs.declared.saving.TheConstants.{FACTOR, FORMAT}
use Rattle.psci_ctl.specs.Seen.{ControllerValue}

-- Words ------------------------------------------------------------------------------------------

-- the number of a life, 0 where there is none
abbrev pub life_word : Option ℕ → ℕ
life_word None = 0
life_word (Some life) = life

-- the life of this number
abbrev pub life_of : ℕ → Option ℕ
life_of word = if word == 0 then None else Some word

-- the number of a cause
abbrev pub cause_number : Cause → ℕ
cause_number causes.Boot = 0
cause_number causes.On = 1
cause_number causes.Wake = 2
cause_number causes.Reset = 3

-- the cause of this number
abbrev pub cause_of : ℕ → Cause
cause_of number =
    if number == 0 then causes.Boot
    else (if number == 1 then causes.On
    else (if number == 2 then causes.Wake else causes.Reset))

-- the starts of a core, and in the lowest two bits the cause of the last one
abbrev pub core_word : CoreRow → ℕ
core_word row = row.starts * 4 + cause_number row.cause

-- what such a word says of a core
abbrev pub core_of : ℕ → CoreRow
core_of word = record { starts = word / 4; cause = cause_of (word % 4) }

-- the depths of domains
abbrev pub depths : List DomainRow → List ℕ
depths rows = map (λ row. row.depth) rows

-- of each core its word, and of each domain its depth, from level 0 up
abbrev pub row_words : List CoreRow → List (List DomainRow) → List ℕ
row_words cores domains = map core_word cores ++ flat_map depths domains

-- a sum in which each word counts by its place
abbrev pub sum_from : ℕ → List ℕ → ℕ
sum_from sum [] = sum
sum_from sum (w ∷ ws) = sum_from ((sum * FACTOR + w) % 2 ^ 64) ws

-- the format, the sum of what follows, the life, and the rows
abbrev pub saved_rows : ℕ → List CoreRow → List (List DomainRow) → List ℕ
saved_rows life cores domains =
    let words = life ∷ row_words cores domains in FORMAT ∷ sum_from 0 words ∷ words

-- the words that a power controller is saved as
unfoldable pub saved : ControllerValue → List ℕ
saved c = saved_rows (life_word c.life) c.cores c.domains

-- Faults -----------------------------------------------------------------------------------------

-- how many domains each level of a tree has, from the cores up
abbrev pub level_sizes : List (List ℕ) → List ℕ
level_sizes [] = 1 ∷ []
level_sizes (w ∷ ws) = size_below (w ∷ ws) ∷ level_sizes ws

-- how many words the rows have
abbrev pub row_count : BoardValue → ℕ
row_count b = cores b + sum (level_sizes b.levels)

-- cores as they may be started in this life: none without a life, and in a life the boot core
abbrev pub are_starts : BoardValue → ℕ → List ℕ → Bool
are_starts b life words =
    list_all (λ w. nat_le (w / 4) (if life == 0 then 0 else b.starts)) words
    && (life == 0 || nat_lt 0 (slice_index words 0 / 4))

-- the first fault of a life, and of the words of cores and of domains
abbrev pub row_fault : BoardValue → ℕ → List ℕ → List ℕ → Option SavedFault
row_fault b life own depths =
    if nat_lt b.lives life then Some faults.Life
    else (if not (are_starts b life own) then Some faults.Starts
    else (if list_all (λ d. nat_le d power_down) depths then None else Some faults.Depth))

-- the first fault of words as a saved power controller of this board
unfoldable pub saved_fault : BoardValue → List ℕ → Option SavedFault
saved_fault b [] = Some faults.Length
saved_fault b (f ∷ []) = Some faults.Length
saved_fault b (f ∷ s ∷ []) = Some faults.Length
saved_fault b (f ∷ s ∷ life ∷ ws) =
    if not (length ws == row_count b) then Some faults.Length
    else (if not (f == FORMAT) then Some faults.Format
    else (if not (s == sum_from 0 (life ∷ ws)) then Some faults.Sum
    else row_fault b life (take (cores b) ws) (drop (cores b) ws)))
