-- What NODE_HW_STATE answers with HW_OFF or HW_STANDBY: the domain was so deep at some moment.
use Rattle.psci_board.specs.Board.{node_of}
use Rattle.psci_world_spec.specs.Legal.{firmware_history}
use Rattle.psci_world_spec.specs.psci_abi.declared.request.Request.TheVariants as requests
use Rattle.psci_fw_laws.specs.psci_fw_spec.NodeHwState.{hw_code, hw_state_of}
use Rattle.psci_fw_laws.specs.psci_fw_spec.declared.hw.Hw.TheVariants.{Off, Standby}
use Rattle.psci_fw_laws.specs.psci_fw_spec.declared.outcome.Act.TheVariants as acts
use Rattle.psci_headline.specs.Safe.{is_hw, said_hw, was_in_state}
use Rattle.psci_headline.specs.Laws.{hw_asked_of, is_off_depth, is_so_deep, is_standby_depth}
use Rattle.psci_headline.specs.Laws.{told_hw, was_so_deep, WasSoDeep}
use Rattle.psci_headline.proofs.Entering.{Extended, IsReturned, returned}
use Rattle.psci_headline.proofs.ToldOff.{if_so, named_node, no_node}
use Rattle.psci_headline.proofs.Words.{◌++◌, ◌<◌, ◌==◌, ◌∙◌, ◌∷◌, ◌≡◌, ◌≤◌, [], and_from}
use Rattle.psci_headline.proofs.Words.{and_parts, ap, arith, BoardValue, Bool, Call, cases_Bool}
use Rattle.psci_headline.proofs.Words.{Code, cond, controller_values, eq-eqb, Event}
use Rattle.psci_headline.proofs.Words.{firmware_values, Fw, HasNode, Hw, hw_at, int_eq}
use Rattle.psci_headline.proofs.Words.{is_in_state, IsLegal, IsLegalPast, List, lt-ltb}
use Rattle.psci_headline.proofs.Words.{nat_tests, Node, node_hw, None, not, or_left, or_right}
use Rattle.psci_headline.proofs.Words.{pos, Record, Request, request_of, Said, Some}
use Rattle.psci_headline.proofs.Words.{starts_below, StatesWereReal, sym, true, Values, ℕ}

-- Domains that were in a state at some moment -----------------------------------------------------

-- a domain that is so deep now, after so many starts below, in this life
in_state : (b : BoardValue) (life sum depth : ℕ) (past : List Record) (n : Node)
    → (controller_values b past).life ≡ Some life
    → starts_below b (controller_values b past).starts n ≡ sum
    → (controller_values b past).depth n.level n.place ≡ depth
    → is_in_state b life sum (hw_at depth) past n ≡ true
in_state b life sum depth past n now count deep = grind (arith, nat_tests, and_from, eq-eqb)

by_now : (b : BoardValue) (life sum : ℕ) (h : Hw) (past : List Record) (n : Node)
    → is_in_state b life sum h past n ≡ true → was_in_state b life sum h past n ≡ true
unfolding was_in_state
by_now b life sum h [] n e = e
by_now b life sum h (r ∷ past) n e = or_left _ _ e

pub seen_now : (b : BoardValue) (life sum depth : ℕ) (past : List Record) (n : Node)
    → (controller_values b past).life ≡ Some life
    → starts_below b (controller_values b past).starts n ≡ sum
    → (controller_values b past).depth n.level n.place ≡ depth
    → was_in_state b life sum (hw_at depth) past n ≡ true
seen_now b life sum depth past n now count deep = grind (arith, nat_tests, by_now, in_state)

-- what was once so has been so ever since
pub seen_later : (b : BoardValue) (life sum : ℕ) (h : Hw) (r : Record) (past : List Record)
    (n : Node) → was_in_state b life sum h past n ≡ true
    → was_in_state b life sum h (r ∷ past) n ≡ true
unfolding was_in_state
seen_later b life sum h r past n e = or_right _ _ e

pub seen_since : (b : BoardValue) (life sum : ℕ) (h : Hw) (since past : List Record) (n : Node)
    → was_in_state b life sum h past n ≡ true
    → was_in_state b life sum h (since ++ past) n ≡ true
seen_since b life sum h [] past n e = e
seen_since b life sum h (r ∷ since) past n e =
    seen_later b life sum h r (since ++ past) n (seen_since b life sum h since past n e)

-- Told hw -----------------------------------------------------------------------------------------

-- How deep ------------------------------------------------------------------------------------

-- a depth of this state is one of these
abbrev IsOf : Hw → (ℕ → Bool) → Type 0
IsOf h is = (depth : ℕ) → depth ≤ 3 → is_hw (hw_at depth) h ≡ true → is depth ≡ true

-- no domain is deeper than power-down, after each legal past
abbrev pub AreShallow : BoardValue → Type 0
AreShallow b = (past : List Record) → IsLegalPast b past → (level place : ℕ)
    → (controller_values b past).depth level place ≤ 3

module _ (b : BoardValue) (life sum : ℕ) (h : Hw) (is : ℕ → Bool) (each : IsOf h is) (n : Node)
    (shallow : AreShallow b) where
  -- a domain that is in this state has such a depth
  so_deep : (past : List Record) → IsLegalPast b past → is_in_state b life sum h past n ≡ true
      → is_so_deep b life sum is past n ≡ true
  so_deep past legal e = grind (arith, nat_tests, and_parts, and_from)

  -- and one that was has had it
  pub once_deep : (past : List Record) → IsLegalPast b past
      → was_in_state b life sum h past n ≡ true → was_so_deep b life sum is past n ≡ true
  unfolding was_in_state was_so_deep
  once_deep [] legal e = so_deep [] legal e
  once_deep (r ∷ past) legal e =
      grind (arith, nat_tests, cases_Bool, or_left, so_deep, or_right, once_deep past legal.1)

-- What is said --------------------------------------------------------------------------------

-- a domain that NODE_HW_STATE says is in this state, which is not on, has had such a depth
pub said_deep : (b : BoardValue) (past : List Record) (n : Node) (h : Hw) (is : ℕ → Bool)
    → IsOf h is → not (hw_code h == 0) ≡ true → AreShallow b → IsLegalPast b past
    → StatesWereReal b past → HasNode b n → 0 < (firmware_values b past).life
    → said_hw b past n ≡ h → WasSoDeep b is past n
said_deep b past n h is each other shallow legal real has begun said =
    grind (arith, nat_tests, and_from, lt-ltb, once_deep)

pub said_off : (b : BoardValue) (past : List Record) (n : Node) → AreShallow b
    → IsLegalPast b past → StatesWereReal b past → HasNode b n
    → 0 < (firmware_values b past).life → said_hw b past n ≡ Off → WasSoDeep b is_off_depth past n
said_off b past n = grind (arith, nat_tests, said_deep)

pub said_standby : (b : BoardValue) (past : List Record) (n : Node) → AreShallow b
    → IsLegalPast b past → StatesWereReal b past → HasNode b n
    → 0 < (firmware_values b past).life → said_hw b past n ≡ Standby
    → WasSoDeep b is_standby_depth past n
said_standby b past n = grind (arith, nat_tests, said_deep)

-- The answer ----------------------------------------------------------------------------------

-- What is so of the firmware's values where NODE_HW_STATE answers this of a domain.
pub record IsToldHw (b : BoardValue) (v : Values) (state : ℕ) (n : Node) : Type 0 where
  pub begun : 0 < v.life
  pub node : HasNode b n
  pub code : int_eq (pos (hw_code (node_hw v n))) (pos state) ≡ true

by_request : (b : BoardValue) (v : Values) (d : ℕ) (r : Request) (code : Code) (state : ℕ)
    (n : Node) → IsReturned b v d r code
    → cond (int_eq code.0 (pos state)) (hw_asked_of b r) None ≡ Some n → IsToldHw b v state n
by_request b v d (requests.NodeHwState level word) code state n is told =
    let both = if_so (int_eq code.0 (pos state)) (node_of b word level) n told in
    let said : acts.Return code ≡ acts.Return (hw_state_of v (node_of b word level)) = is.by in
    let same : code ≡ hw_state_of v (node_of b word level) = cc in
    let named : code ≡ hw_state_of v (Some n) = same ∙ ap (hw_state_of v) both.1 in
    record {
      begun = is.begun;
      node = named_node b word level n both.1;
      code = ap (λ (x : Code). int_eq x.0 (pos state)) (sym named) ∙ both.0;
    }
by_request b v d r code state n is told = absurd (no_node (int_eq code.0 (pos state)) n told)

by_record : (b : BoardValue) (past : List Record) (state : ℕ) (n : Node) (event : Event)
    (said : Said) → Extended b past event said → told_hw b state event said ≡ Some n
    → IsToldHw b (firmware_values b past) state n
by_record b past state n (Call d regs) (Fw (acts.Return code) m) valid told =
    by_request b (firmware_values b past) d (request_of regs) code state n
    (returned b past d regs code m valid) told
by_record b past state n event said valid told = absurd (cc)

told_by : (b : BoardValue) (r : Record) (past : List Record) (state : ℕ) (n : Node)
    → IsLegal b (firmware_history b (r ∷ past)) → told_hw b state r.event r.said ≡ Some n
    → IsToldHw b (firmware_values b past) state n
unfolding firmware_history
told_by b r past state n valid told = by_record b past state n r.event r.said valid told

off_by : (h : Hw) → int_eq (pos (hw_code h)) (pos 1) ≡ true → h ≡ Off
off_by h e = grind (arith, nat_tests)

standby_by : (h : Hw) → int_eq (pos (hw_code h)) (pos 2) ≡ true → h ≡ Standby
standby_by h e = grind (arith, nat_tests)

pub was_off : (b : BoardValue) (r : Record) (past : List Record) (n : Node) → AreShallow b
    → IsLegalPast b past → IsLegal b (firmware_history b (r ∷ past)) → StatesWereReal b past
    → told_hw b 1 r.event r.said ≡ Some n → WasSoDeep b is_off_depth past n
was_off b r past n shallow legal valid real told =
    let is = told_by b r past 1 n valid told in
    said_off b past n shallow legal real is.node is.begun
    (off_by (node_hw (firmware_values b past) n) is.code)

pub was_standby : (b : BoardValue) (r : Record) (past : List Record) (n : Node) → AreShallow b
    → IsLegalPast b past → IsLegal b (firmware_history b (r ∷ past)) → StatesWereReal b past
    → told_hw b 2 r.event r.said ≡ Some n → WasSoDeep b is_standby_depth past n
was_standby b r past n shallow legal valid real told =
    let is = told_by b r past 2 n valid told in
    said_standby b past n shallow legal real is.node is.begun
    (standby_by (node_hw (firmware_values b past) n) is.code)
