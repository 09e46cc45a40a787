-- What AFFINITY_INFO answers with OFF: each core of the domain is reported OFF. And whether all
-- cores of a domain are off, as a test that computes, and says the same.
use Rattle.std.specs.List.{find}
use Rattle.psci_headline.proofs.Words.{◌&&◌, ◌+◌, ◌<◌, ◌==◌, ◌||◌, ◌∙◌, ◌∷◌, ◌≡◌, ◌≤◌, AllOff}
use Rattle.psci_headline.proofs.Words.{and_from, and_parts, ap, arith, below, BoardValue, Bool}
use Rattle.psci_headline.proofs.Words.{Call, cases_Bool, cases_lt, Code, cond, cond-true, cores}
use Rattle.psci_headline.proofs.Words.{eq-eqb, eqb-true, Event, executes_outside, false, filter}
use Rattle.psci_headline.proofs.Words.{firmware_values, Fw, has_node, HasNode, height, int_eq}
use Rattle.psci_headline.proofs.Words.{IsLegal, le-leb, leb-true, List, list_all, list_any}
use Rattle.psci_headline.proofs.Words.{lt-ltb, nat_tests, Node, None, not, Off, OffIsDown}
use Rattle.psci_headline.proofs.Words.{Option, or_cases, or_left, or_parts, or_right, PathLaws}
use Rattle.psci_headline.proofs.Words.{place, pos, range_with_len, Record, refl, Request}
use Rattle.psci_headline.proofs.Words.{request_of, Said, same_Some, Some, Status, subst, suc}
use Rattle.psci_headline.proofs.Words.{sym, true, Values, was_powered_down, zero, ℕ}
use Rattle.psci_board.specs.Board.{node_of, size_below, up}
use Rattle.psci_fw_laws.specs.psci_fw_spec.declared.status.Status.TheVariants.{On, Pending}
use Rattle.psci_fw_laws.specs.psci_fw_spec.PowerCalls.{affinity_of, is_on, is_pending_status}
use Rattle.psci_fw_laws.specs.psci_fw_spec.PowerCalls.{node_status, status_code, status_over}
use Rattle.psci_world_spec.specs.Legal.{firmware_history}
use Rattle.psci_headline.specs.Laws.{asked_of, told_off}
use Rattle.psci_headline.proofs.Entering.{Extended, IsReturned, returned}
use Rattle.psci_headline.proofs.Nexts.{report}
use Rattle.psci_headline.proofs.Tested.{all_in, each_in, not_running, still}
use Rattle.psci_world_spec.specs.psci_abi.declared.request.Request.TheVariants as requests
use Rattle.psci_fw_laws.specs.psci_fw_spec.declared.outcome.Act.TheVariants as acts

-- Lists that no test finds ----------------------------------------------------------------------

none_head : (p : ℕ → Bool) (t : Bool) (a : ℕ) (xs : List ℕ)
    → list_any p (cond t (a ∷ xs) xs) ≡ false → (t ≡ true → p a ≡ false) × (list_any p xs ≡ false)
none_head p t a xs e = grind (arith, nat_tests, or_parts)

none_kept : (p test : ℕ → Bool) (a n c : ℕ)
    → list_any p (filter test (range_with_len a n)) ≡ false → a ≤ c → c < a + n
    → test c ≡ true → p c ≡ false
none_kept p test a zero c e low high is = absurd (omega (arith, low, high))
none_kept p test a (suc n) c e low high is =
    grind (arith, nat_tests, none_head, cases_lt, none_kept p test (a + 1) n c)

-- The status of a domain ------------------------------------------------------------------------

over_off : (x y : Bool) → cond x On (cond y Pending Off) ≡ Off → (x ≡ false) × (y ≡ false)
over_off x y e = grind (arith, nat_tests)

neither : (s : Status) → is_on s ≡ false → is_pending_status s ≡ false → s ≡ Off
neither s on pending = grind (arith, nat_tests)

-- each core below a domain whose status is OFF is OFF
core_off : (b : BoardValue) (status : ℕ → Status) (n : Node) (c : ℕ) → PathLaws b
    → n.level ≤ height b → node_status b status n ≡ Off → c < cores b
    → up b n.level c ≡ n.place → status c ≡ Off
unfolding node_status up
core_off b status n c paths low off on at =
    by_level (n.level == 0) refl (sym (cond-true (has_node b n) _ _ has) ∙ off)
  where
    has : has_node b n ≡ true
    has = grind (arith, nat_tests, and_from, le-leb, lt-ltb)

    by_level : (z : Bool) → (n.level == 0) ≡ z
        → cond z (status n.place) (status_over status (below b n)) ≡ Off → status c ≡ Off
    by_level true bottom e =
        let own : n.place ≡ c = grind (arith, nat_tests, eqb-true) in
        subst (λ x. status x ≡ Off) own e
    by_level false bottom e =
        let both = over_off (list_any (λ x. is_on (status x)) (below b n))
        (list_any (λ x. is_pending_status (status x)) (below b n)) e in
        let test = λ (x : ℕ). up b n.level x == n.place in
        neither (status c)
        (none_kept (λ x. is_on (status x)) test 0 (size_below b.levels) c both.0 (omega arith)
        (omega (arith, on)) (eq-eqb _ _ at))
        (none_kept (λ x. is_pending_status (status x)) test 0 (size_below b.levels) c both.1
        (omega arith) (omega (arith, on)) (eq-eqb _ _ at))

-- The domain that a word names ----------------------------------------------------------------

-- what is found among the numbers from one on is one of them
find_inside : (p : ℕ → Bool) (a count i : ℕ) → find p (range_with_len a count) ≡ Some i
    → i < a + count
find_inside p a zero i e = absurd (cc)
find_inside p a (suc count) i e =
    grind (arith, nat_tests, cases_Bool, same_Some, find_inside p (a + 1) count i)

pub named_node : (b : BoardValue) (word level : ℕ) (n : Node) → node_of b word level ≡ Some n
    → HasNode b n
unfolding node_of
named_node b word level n e = grind (arith, nat_tests, same_Some, leb-true, find_inside)

-- The answer ----------------------------------------------------------------------------------

-- What is so of the firmware's values where AFFINITY_INFO answers OFF of a domain.
pub record IsToldOff (b : BoardValue) (v : Values) (n : Node) : Type 0 where
  pub begun : 0 < v.life
  pub low : n.level ≤ height b
  pub off : node_status b v.status n ≡ Off

code_off : (s : Status) → int_eq (pos (status_code s)) (pos 1) ≡ true → s ≡ Off
code_off s e = grind (arith, nat_tests)

pub if_so : (t : Bool) (o : Option Node) (n : Node) → cond t o None ≡ Some n
    → (t ≡ true) × (o ≡ Some n)
if_so t o n e = grind (arith, nat_tests)

pub no_node : (t : Bool) (n : Node) → cond t None None ≡ Some n → ⊥
no_node t n e = grind (arith, nat_tests)

-- what a function returned
by_request : (b : BoardValue) (v : Values) (d : ℕ) (r : Request) (code : Code) (n : Node)
    → IsReturned b v d r code → cond (int_eq code.0 (pos 1)) (asked_of b r) None ≡ Some n
    → IsToldOff b v n
by_request b v d (requests.AffinityInfo level word) code n is told =
    let both = if_so (int_eq code.0 (pos 1)) (node_of b word level) n told in
    let said : acts.Return code ≡ acts.Return (affinity_of b v (node_of b word level)) = is.by in
    let same : code ≡ affinity_of b v (node_of b word level) = cc in
    let named : code ≡ affinity_of b v (Some n) = same ∙ ap (affinity_of b v) both.1 in
    record {
      begun = is.begun;
      low = (named_node b word level n both.1).level;
      off = grind (arith, nat_tests, code_off);
    }
by_request b v d r code n is told = absurd (no_node (int_eq code.0 (pos 1)) n told)

by_record : (b : BoardValue) (past : List Record) (n : Node) (event : Event) (said : Said)
    → Extended b past event said → told_off b event said ≡ Some n
    → IsToldOff b (firmware_values b past) n
by_record b past n (Call d regs) (Fw (acts.Return code) m) valid told =
    by_request b (firmware_values b past) d (request_of regs) code n
    (returned b past d regs code m valid) told
by_record b past n event said valid told = absurd (cc)

told_by : (b : BoardValue) (r : Record) (past : List Record) (n : Node)
    → IsLegal b (firmware_history b (r ∷ past)) → told_off b r.event r.said ≡ Some n
    → IsToldOff b (firmware_values b past) n
unfolding firmware_history
told_by b r past n valid told = by_record b past n r.event r.said valid told

pub all_off : (b : BoardValue) (r : Record) (past : List Record) (n : Node) → PathLaws b
    → IsLegal b (firmware_history b (r ∷ past)) → OffIsDown b past
    → told_off b r.event r.said ≡ Some n → AllOff b past n
all_off b r past n paths valid down told c on at =
    let is = told_by b r past n valid told in
    down c on (report b past c is.begun
    (core_off b (firmware_values b past).status n c paths is.low is.off on at))

-- As a test that computes ----------------------------------------------------------------------

-- a core is below no such domain, or does not run and was powered down since it last went on
abbrev pub is_off_in : BoardValue → List Record → Node → ℕ → Bool
is_off_in b past n c = not (up b n.level c == n.place)
    || (not (executes_outside (place b past c))
    && was_powered_down b (firmware_values b past).life past c)

-- each core is
abbrev pub is_all_off : BoardValue → List Record → Node → Bool
is_all_off b past n = list_all (is_off_in b past n) (range_with_len 0 (cores b))

-- the test passes where all are off
pub tested_off : (b : BoardValue) (past : List Record) (n : Node) → is_all_off b past n ≡ true
    → AllOff b past n
tested_off b past n e c on at =
    let test = each_in (is_off_in b past n) 0 (cores b) c e (omega arith) (omega (arith, on)) in
    grind (arith, nat_tests, or_cases, eq-eqb, and_parts, not_running)

-- and nowhere else
pub off_tested : (b : BoardValue) (past : List Record) (n : Node) → AllOff b past n
    → is_all_off b past n ≡ true
off_tested b past n all =
    grind (arith, nat_tests, all_in, cases_Bool, eqb-true, or_right, and_from, still, or_left)
