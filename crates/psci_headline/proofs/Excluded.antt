-- What fails by computing is excluded: no such world is at rest, has settled, or is told as it is.
use Rattle.std.proofs.Common.{nat_le}
use Rattle.std.proofs.lemmas.List.Sums.{list_all-from_AllPass}
use Rattle.psci_headline.proofs.Words.{◌++◌, ◌+◌, ◌<◌, ◌==◌, ◌||◌, ◌∙◌, ◌∷◌, ◌≡◌, ◌≤◌, [], ap}
use Rattle.psci_headline.proofs.Words.{AreAtRest, arith, BoardValue, Bool, cases_Bool, cases_eq}
use Rattle.psci_headline.proofs.Words.{cores, deliveries, Down, eq-eqb, filter, HasNode, height}
use Rattle.psci_headline.proofs.Words.{hw_code, indexed, inl, inr, is_away, is_kind}
use Rattle.psci_headline.proofs.Words.{is_off_status, is_some, is_started, IsSettled}
use Rattle.psci_headline.proofs.Words.{IsToldWhole, le-leb, length, List, list_all, list_any}
use Rattle.psci_headline.proofs.Words.{MessageValue, nat_tests, Node, nodes, None, not, OfCore}
use Rattle.psci_headline.proofs.Words.{OfSystem, Option, or_left, or_right, range_with_len, refl}
use Rattle.psci_headline.proofs.Words.{sent, Some, suc, sym, true, zero, ℕ}
use Rattle.psci_fw_laws.proofs.Refusing.{one_all}
use Rattle.psci_headline.specs.psci_world_spec.declared.place.Place.{Place}
use Rattle.psci_headline.specs.psci_world_spec.declared.said.Record.{Record}
use Rattle.psci_headline.specs.psci_world_spec.Legal.{controller_values, firmware_values, place}
use Rattle.psci_headline.proofs.CoreSteps.{phase_away}
use Rattle.psci_headline.proofs.Checking.{each, if_fails}
use Rattle.psci_headline.proofs.Failing.{Clause, downs, failing, if_some, is_agreed, is_down}
use Rattle.psci_headline.proofs.Failing.{Saying, unsettled}
use Rattle.psci_headline.proofs.Serving.{indexed_at}
use Rattle.psci_headline.proofs.Nexts.{status_off}
use Rattle.psci_headline.proofs.Pursuing.{same_kind}
use Rattle.psci_headline.proofs.Untold.{follows, is_gone, is_off, is_told_hw}
use Rattle.psci_headline.specs.psci_world_spec.declared.place.Place.TheVariants as places
use Rattle.psci_headline.proofs.Untold as untold

-- Lists -----------------------------------------------------------------------------------------

none_of : {A : Type 0} → (fails : ℕ → List A) (a count : ℕ)
    → ((k : ℕ) → a ≤ k → k < a + count → fails k ≡ []) → each fails (range_with_len a count) ≡ []
none_of fails a zero none = refl
none_of fails a (suc count) none = grind (arith, nat_tests, each, none_of fails (a + 1) count)

pub passed : {A : Type 0} → (t : Bool) (k : A) → t ≡ true → if_fails t k ≡ []
passed t k e = ap (λ b. if_fails b k) e

pub none_in : {A : Type 0} → (test : ℕ → Bool) (clause : ℕ → A) (count : ℕ)
    → ((k : ℕ) → k < count → test k ≡ true)
    → each (λ k. if_fails (test k) (clause k)) (range_with_len 0 count) ≡ []
none_in test clause count all = grind (arith, nat_tests, none_of, if_fails, passed)

pub no_domain : {A : Type 0} → (b : BoardValue) (test : ℕ → ℕ → Bool) (clause : ℕ → ℕ → A)
    → ((n : Node) → HasNode b n → test n.level n.place ≡ true)
    → each (λ level. each (λ at. if_fails (test level at) (clause level at))
    (range_with_len 0 (nodes b level))) (range_with_len 0 (height b + 1)) ≡ []
no_domain b test clause all =
    none_of _ 0 (height b + 1) (λ level low high. none_in (test level) (clause level)
    (nodes b level) (λ at on. all (record { level = level; place = at })
    (record { level = omega (arith, high); place = on })))

pub both_none : {A : Type 0} → (xs ys : List A) → xs ≡ [] → ys ≡ [] → xs ++ ys ≡ []
both_none xs ys x y = ap (λ l. l ++ ys) x ∙ y

some_none : {A : Type 0} → (xs ks : List A) (k : A) → xs ≡ k ∷ ks → xs ≡ [] → ⊥
some_none xs ks k some none = let no : [] ≡ k ∷ ks = sym none ∙ some in absurd (cc)

-- At rest ---------------------------------------------------------------------------------------

not_started : (p : Place) → (p ≡ places.Started → ⊥) → not (is_started p) ≡ true
not_started p none = grind (arith, nat_tests)

-- nothing fails where all is so that is said of a world at rest
none_fails : (b : BoardValue) (past : List Record)
    → ((c : ℕ) → c < cores b → (firmware_values b past).outstanding (OfCore c) ≡ None)
    → (firmware_values b past).outstanding OfSystem ≡ None
    → ((c : ℕ) → c < cores b → place b past c ≡ places.Started → ⊥)
    → ((n : Node) → HasNode b n → (firmware_values b past).granted n.level n.place
    ≡ (controller_values b past).depth n.level n.place)
    → failing b past ≡ []
none_fails b past own system entered agree =
    both_none _ _ (none_in _ _ (cores b) (λ c on. ap (λ o. not (is_some o)) (own c on)))
    (both_none _ _ (passed _ _ (ap (λ o. not (is_some o)) system))
    (both_none _ _ (none_in _ _ (cores b) (λ c on. not_started (place b past c) (entered c on)))
    (no_domain b (is_agreed b past) _ (λ n has. eq-eqb _ _ (agree n has)))))

-- so where something fails the world is not at rest
pub not_at_rest : (b : BoardValue) (past : List Record) (k : Clause) (ks : List Clause)
    → failing b past ≡ k ∷ ks → AreAtRest b past → ⊥
not_at_rest b past k ks some r = grind (arith, nat_tests, some_none, none_fails)

-- Settled ---------------------------------------------------------------------------------------

-- A Down that was sent.
record IsDown (o : Option MessageValue) : Type 0 where
  pub message : MessageValue
  pub at : o ≡ Some message
  pub kind : message.kind ≡ Down

a_down : (o : Option MessageValue) → is_down o ≡ true → IsDown o
a_down o e = grind (arith, nat_tests, same_kind)

-- what passes both tests is found
kept_one : (p test : ℕ → Bool) (a count k : ℕ) → a ≤ k → k < a + count → test k ≡ true
    → p k ≡ true → list_any p (filter test (range_with_len a count)) ≡ true
kept_one p test a zero k low high kept pass = absurd (omega (arith, low, high))
kept_one p test a (suc count) k low high kept pass = elim (cases_eq a k) [
  | inl same ↦ rw (ap test same ∙ kept) (or_left _ _ (ap p same ∙ pass))
  | inr other ↦
      let rest = kept_one p test (a + 1) count k (omega (arith, low, other)) (omega (arith, high))
      kept pass in
      elim (cases_Bool (test a)) [
        | inl stays ↦ rw stays (or_right _ _ rest)
        | inr dropped ↦ rw dropped rest
      ]
]

-- where something fails the world has not settled
pub not_settled : (b : BoardValue) (before added : List Record) (rounds : ℕ) (s : Saying)
    (ss : List Saying) → unsettled b before added rounds ≡ s ∷ ss
    → IsSettled b before added rounds → ⊥
not_settled b before added rounds s ss fail r =
    let past : List Record = added ++ before in
    let tests : ℕ → Bool = λ k. is_down (indexed (sent past) k) in
    let most : list_all (λ k. nat_le (deliveries k added) rounds) (downs past) ≡ true =
    grind (arith, nat_tests, one_all, a_down, le-leb) in
    let some : (rounds == 0 || list_any (λ k. deliveries k added == rounds) (downs past)) ≡ true =
    elim (cases_eq rounds 0) [
      | inl none ↦ or_left _ _ (eq-eqb _ _ none)
      | inr other ↦
          let d = r.some (omega (arith, other)) in
          or_right _ _ (kept_one (λ k. deliveries k added == rounds) tests 0 (length (sent past))
          d.number (omega arith)
          (omega (arith, (indexed_at (sent past) d.number d.message d.at).0))
          (ap is_down d.at ∙ ap (λ k. is_kind k Down) d.kind) (eq-eqb _ _ d.times))
    ] in
    some_none _ ss s fail
    (both_none _ _ (passed _ _ (list_all-from_AllPass _ added r.events))
    (both_none _ _ (ap if_some (none_fails b past r.rest.own r.rest.system r.rest.entered
    r.rest.agree)) (both_none _ _ (passed _ _ (le-leb _ _ r.few))
    (both_none _ _ (passed _ _ most) (passed _ _ some)))))

-- Told ------------------------------------------------------------------------------------------

follows_from : (s t : Bool) → (s ≡ true → t ≡ true) → follows s t ≡ true
follows_from s t then = grind (arith, nat_tests)

-- where something fails not all is told
pub not_told : (b : BoardValue) (past : List Record) (k : untold.Clause) (ks : List untold.Clause)
    → untold.failing b past ≡ k ∷ ks → IsToldWhole b past → ⊥
not_told b past k ks some w =
    let v = firmware_values b past in
    some_none _ ks k some
    (both_none _ _ (no_domain b (is_told_hw b past) _
    (λ n has. eq-eqb _ _ (ap hw_code (w.hw n has))))
    (both_none _ _ (none_in _ _ (cores b) (λ c on. follows_from (is_gone b past c) _
    (λ gone. ap is_off_status (w.off c on (phase_away (v.phase c) gone)))))
    (none_in _ _ (cores b) (λ c on. follows_from (is_off b past c) _
    (λ off. ap is_away (w.away c on (status_off (v.status c) off)))))))
