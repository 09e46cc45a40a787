-- On each board: what holds of the firmware's values at the start of a life, after each answer and
-- after every legal history, and of what a core claims that stops.
use Rattle.psci_fw_spec.proofs.Words.{◌<◌, ◌≡◌, AreClaims, AreValues, Away, BoardValue, change}
use Rattle.psci_fw_spec.proofs.Words.{cores, enter_effect, false, function_effect, FwCall}
use Rattle.psci_fw_spec.proofs.Words.{FwExchange, height, in_life, IsAsk, IsBoard, IsLegal, List}
use Rattle.psci_fw_spec.proofs.Words.{None, Ok, outcome_of, Part, Request, Running, Start}
use Rattle.psci_fw_spec.proofs.Words.{start_of_life, Suspended, Values, with_arrival, ℕ}
use Rattle.psci_board.proofs.Paths.{child_laws, path_laws}
use Rattle.psci_board.proofs.Named.{word_laws}
use Rattle.psci_state.proofs.Words.{word_back}
use Rattle.psci_messages.proofs.ClaimLaws.{claim_laws, last_core_laws, platform_laws}
use Rattle.psci_messages.proofs.OsiLaws.{below_laws, off_laws, own_laws}
use Rattle.psci_messages.proofs.History.{claim-from}
use Rattle.psci_fw_spec.specs.Effects.{after}
use Rattle.psci_fw_spec.specs.Answer.{answer, enter_fault, enter_outcome}
use Rattle.psci_fw_spec.specs.PowerCalls.{off_parts, suspend_parts}
use Rattle.psci_fw_spec.specs.History.{values_of}
use Rattle.psci_fw_spec.proofs.Entered.{are_first, are_in_life, deepest_is, kept_answer, kept_enter}
use Rattle.psci_fw_spec.proofs.Entered.{kept_function, kept_legal, Worded}
use Rattle.psci_fw_spec.proofs.Granting.{Known, left_asks, left_at, parked_left, ran_left}
use Rattle.psci_fw_spec.proofs.Wishes.{off_claimed, suspended_claimed}

known : (b : BoardValue) → IsBoard b → Known b
known b board = record {
  paths = path_laws b board;
  words = word_laws b board;
  below = below_laws b;
  claims = claim_laws b;
  platform = λ v c. platform_laws b v c (path_laws b board);
  own = own_laws b;
  off = off_laws b;
  last_core = λ v c ask on. last_core_laws b v c ask (path_laws b board) (child_laws b board);
  parts = claim-from;
}

asks : (b : BoardValue) → Worded b
asks b word ask is = let back = word_back b.format (height b) word ask is in (back.shape, back.high)

-- The firmware's values -----------------------------------------------------------------------

pub first_values : (b : BoardValue) (life : ℕ) → IsBoard b → AreValues b (start_of_life b life)
first_values b life board = are_first b life (known b board)

pub function_values : (b : BoardValue) (v : Values) (c : ℕ) (r : Request) → IsBoard b
    → c < cores b → AreValues b v → v.phase c ≡ Running → let o = outcome_of b v c r in
    AreValues b (change b (function_effect b c r o.act o.message) v)
function_values b v c r board on are runs =
    kept_function b v c r (known b board) on are runs (asks b) (deepest_is (height b) board.high)

pub enter_values : (b : BoardValue) (v : Values) (c : ℕ) (s : Start) → IsBoard b → AreValues b v
    → enter_fault b v c s ≡ None → let o = enter_outcome b v c s in
    AreValues b (change b (enter_effect c s o.act o.message) v)
enter_values b v c s board are e = kept_enter b v c s (known b board) are e

pub answer_values : (b : BoardValue) (v : Values) (c : ℕ) (call : FwCall) → IsBoard b
    → AreValues b v → AreValues b (after b c call (answer b v c call) v)
answer_values b v c call board are =
    kept_answer b v c call (known b board) are (asks b) (deepest_is (height b) board.high)

pub legal_values : (b : BoardValue) (h : List FwExchange) → IsBoard b → IsLegal b h
    → AreValues b (values_of b h)
legal_values b h board legal =
    kept_legal b h (known b board) (asks b) (deepest_is (height b) board.high) legal

-- The parts of a core that stops --------------------------------------------------------------

-- a core that goes off
pub off_is_claim : (b : BoardValue) (v : Values) (c : ℕ) → IsBoard b → c < cores b → AreValues b v
    → v.phase c ≡ Running → AreClaims (off_parts b v c)
off_is_claim b v c board on are runs =
    let left = ran_left (v.phase c) Away runs in
    off_claimed b v c board (known b board) on (left_asks b v c Away left tt are.phase)
    (left_at v c Away left)

-- a core that parks
pub park_is_claim : (b : BoardValue) (v : Values) (c : ℕ) (s : Start) → IsBoard b → c < cores b
    → AreValues b v → (in_life b s.life v).halting ≡ false
    → (in_life b s.life v).opening c ≡ None → AreClaims (off_parts b (with_arrival b c s v) c)
park_is_claim b v c s board on are awake none =
    let w = with_arrival b c s v in
    let held = are_in_life b s.life v (known b board) are in
    let left = parked_left (w.phase c) _ ((held.awake awake).opening c) none in
    off_claimed b w c board (known b board) on (left_asks b w c Away left tt held.phase)
    (left_at w c Away left)

-- a core that is suspended
pub suspend_is_claim : (b : BoardValue) (v : Values) (c : ℕ) (ask : List ℕ) (parts : List Part)
    → IsBoard b → c < cores b → AreValues b v → v.phase c ≡ Running → IsAsk ask
    → suspend_parts b v c ask ≡ Ok parts → AreClaims parts
suspend_is_claim b v c ask parts board on are runs is e =
    let left = ran_left (v.phase c) (Suspended ask) runs in
    suspended_claimed b v c ask parts board (known b board) on
    (left_asks b v c (Suspended ask) left is are.phase) (left_at v c (Suspended ask) left) is e
