-- Worked examples are stated so: what is not told as it is. Where something is not, `not_told`
-- excludes that all is told.
use Rattle.std.specs.Prelude.{◌++◌, ℕ, ◌+◌, Bool, true, false, ◌==◌, List, []}
use Rattle.psci_headline.proofs.Words.{hw_code, is_away, is_off_status, range_with_len}
use Rattle.psci_headline.specs.psci_board.Board.{BoardValue, cores, height, nodes}
use Rattle.psci_headline.specs.psci_fw_spec.NodeHwState.{hw_at, node_hw}
use Rattle.psci_headline.specs.psci_world_spec.declared.event.Event.{Event}
use Rattle.psci_headline.specs.psci_world_spec.declared.said.Record.{Record}
use Rattle.psci_headline.specs.psci_world_spec.Legal.{controller_values, firmware_values, place}
use Rattle.psci_headline.specs.Settling.{begun, is_waiting, round, rounds, settled}
use Rattle.psci_headline.proofs.Histories.{after, at}
use Rattle.psci_headline.proofs.Checking.{Steps, each, if_fails, past_from}
use Rattle.psci_headline.proofs.world_spec.Scripts as scripts

unfoldable pub computing : Unit {0}
unfolding scripts.computing settled begun round is_waiting rounds
computing = tt

-- What fails ------------------------------------------------------------------------------------

-- What is said where all is told, each by itself.
pub data Clause : Type 0 where
  -- what NODE_HW_STATE says of a domain is the state of its depth
  Hw : (level place : ℕ) → Clause
  -- a core that is off or going off is OFF
  IsOff : (core : ℕ) → Clause
  -- a core that is OFF is off or going off
  IsAway : (core : ℕ) → Clause

-- the second test passes, where the first one does
abbrev pub follows : Bool → Bool → Bool
follows true t = t
follows false t = true

abbrev pub is_told_hw : BoardValue → List Record → ℕ → ℕ → Bool
is_told_hw b past level place =
    hw_code (node_hw (firmware_values b past) (at level place))
    == hw_code (hw_at ((controller_values b past).depth level place))

abbrev pub is_off : BoardValue → List Record → ℕ → Bool
is_off b past c = is_off_status ((firmware_values b past).status c)

abbrev pub is_gone : BoardValue → List Record → ℕ → Bool
is_gone b past c = is_away ((firmware_values b past).phase c)

-- all that fails
abbrev pub failing : BoardValue → List Record → List Clause
failing b past =
    each (λ level. each (λ place. if_fails (is_told_hw b past level place) (Hw level place))
    (range_with_len 0 (nodes b level))) (range_with_len 0 (height b + 1))
    ++ (each (λ c. if_fails (follows (is_gone b past c) (is_off b past c)) (IsOff c))
    (range_with_len 0 (cores b))
    ++ each (λ c. if_fails (follows (is_off b past c) (is_gone b past c)) (IsAway c))
    (range_with_len 0 (cores b)))

abbrev pub untold_after : (BoardValue × List Steps) → List Clause
untold_after (b, steps) = failing b (past_from b [] steps)

-- all that fails once the world has settled after these events
abbrev pub untold_once_settled : (BoardValue × List Event) → List Clause
untold_once_settled (b, events) = failing b (settled b (after b events)).past
