-- The description of a platform that names everything as the firmware itself does.
use Rattle.std.specs.Prelude.{◌%◌, ◌&&◌, ◌-◌, ◌/◌, ◌^◌, ◌∷◌, [], Err, filter, List, map, nat_le}
use Rattle.std.specs.Prelude.{Ok, replicate, Result, true, ℕ}
use Rattle.std.specs.List.{range_with_len}
use Rattle.psci_abi.specs.declared.request.Request.{Request}
use Rattle.psci_abi.specs.declared.request.Request.TheVariants as requests
use Rattle.psci_abi.specs.declared.registers.Format.{Format}
use Rattle.psci_board.specs.Board.{BoardValue, address, cores, height}
use Rattle.psci_state.specs.PowerState.{ask_of, deepest_of, highest_of, is_ask, word_of}
use Rattle.psci_state.specs.declared.fault.BadState.{BadState}
use Rattle.psci_platform.specs.declared.asked.Asked.{Asked}
use Rattle.psci_platform.specs.declared.asked.Asked.TheVariants.{Nothing, States}
use Rattle.psci_platform.specs.declared.class.Class.{Class}
use Rattle.psci_platform.specs.declared.class.Class.TheVariants.{PowerDown, Retention, Running}
use Rattle.psci_platform.specs.declared.class.Class.TheVariants.{Standby}
use Rattle.psci_platform.specs.declared.functions.Functions.{Functions}
use Rattle.psci_platform.specs.declared.row.Row.{Row}
use Rattle.psci_platform.specs.Described.{DescriptionValue}

-- one state of each class: its number is the depth that stands for the class
abbrev pub own_classes : List Class
own_classes = Running ∷ Standby ∷ Retention ∷ replicate 13 PowerDown

-- four depths of 0 to 3, the digits of a number below 256
abbrev pub depths_at : ℕ → List ℕ
depths_at n = n % 4 ∷ n / 4 % 4 ∷ n / 16 % 4 ∷ n / 64 % 4 ∷ []

-- the asks that ask nothing above this height
unfoldable pub asks_up_to : ℕ → List (List ℕ)
asks_up_to height =
    filter (λ ask. is_ask ask && nat_le (highest_of ask) height)
    (map depths_at (range_with_len 0 256))

-- the row of the board's own word of an ask, of which each bit counts
abbrev pub row_asking : Format → List ℕ → Row
row_asking format ask = record { word = word_of format ask; mask = 2 ^ 32 - 1; states = ask }

-- every function
abbrev pub every_function : Functions
every_function = record {
  cpu_suspend = true;
  cpu_off = true;
  cpu_on = true;
  system_off = true;
  system_reset = true;
  node_hw_state = true;
  system_suspend = true;
  system_reset2 = true;
}

-- The identity of a board: an MPIDR is the affinity word, a row there is for each power state word
-- of the board, a state has the depth as its number, every function is there, and no reset is the
-- vendor's.
abbrev pub identity : BoardValue → DescriptionValue
identity b = record {
  mpidrs = map (address b 0) (range_with_len 0 (cores b));
  levels = height b;
  classes = own_classes ∷ own_classes ∷ own_classes ∷ own_classes ∷ [];
  rows = map (row_asking b.format) (asks_up_to (height b));
  system = deepest_of (height b);
  functions = every_function;
  resets = [];
}

-- the depths of an ask, as states that are asked for
abbrev pub asks_depths : Result (List ℕ) BadState → Asked
asks_depths (Ok ask) = States ask
asks_depths (Err bad) = Nothing

-- what a request asks beside what the firmware is told, where a state has the depth as its number:
-- the depths themselves
abbrev pub own_asked : BoardValue → Request → Asked
own_asked b (requests.CpuSuspend state entry_point context) =
    asks_depths (ask_of b.format (height b) state)
own_asked b (requests.SystemSuspend entry_point context) = States (deepest_of (height b))
own_asked b request = Nothing
