-- Functions of renumbered cores: those that may stop their caller, and those that return.
use Rattle.std.proofs.Common.{flat_map, Result}
use Rattle.std.proofs.lemmas.List.Concat.{flat_map-cons}
use Rattle.std.proofs.lemmas.List.Folds.{list_any-append}
use Rattle.psci_abi.specs.Calls.{denied}
use Rattle.psci_abi.specs.declared.registers.Code.{Code}
use Rattle.psci_messages.specs.Claim.{claims_of, climb, last_core_check, off_claims, refusal}
use Rattle.psci_messages.specs.Claim.{shallow, shallow_at}
use Rattle.psci_messages.specs.View.{generation, is_all_away, is_idle, least_ask}
use Rattle.psci_messages.specs.declared.kind.Kind.TheVariants as kinds
use Rattle.psci_fw_spec.specs.PowerCalls.{affinity_of, all_others, cpu_off, cpu_on}
use Rattle.psci_fw_spec.specs.PowerCalls.{is_off_status, is_pending_status, may_set, mode_asked}
use Rattle.psci_fw_spec.specs.PowerCalls.{node_status, off_parts, status_over, suspend_answer}
use Rattle.psci_fw_spec.specs.PowerCalls.{suspend_parts, system_message, target_of}
use Rattle.psci_fw_spec.specs.NodeHwState.{hw_state_of}
use Rattle.psci_fw_spec.specs.Phases.{is_suspended_or_pending}
use Rattle.psci_fw_spec.specs.Invariant.{view}
use Rattle.psci_fw_spec.specs.psci_messages.psci_state.PowerState.{deepest_of}
use Rattle.psci_fw_spec.specs.psci_messages.psci_state.declared.fault.BadState.{BadState}
use Rattle.psci_fw_laws.proofs.Folds.{list_any-fold, ors, ors-commutes}
use Rattle.psci_fw_laws.proofs.Numberings.{all-below, all-cores, any-below, any-cores}
use Rattle.psci_fw_laws.proofs.Numberings.{least-below, node_back, other_test, Renumbers}
use Rattle.psci_fw_laws.proofs.Numberings.{sum-below}
use Rattle.psci_fw_laws.proofs.Words.{◌&&◌, ◌+◌, ◌-◌, ◌==◌, ◌||◌, ◌∙◌, ◌∷◌, ◌≡◌, [], ap, arith}
use Rattle.psci_fw_laws.proofs.Words.{Away, below, BoardValue, Bool, cases_Bool, children_at}
use Rattle.psci_fw_laws.proofs.Words.{Core, core_by, core_of, cores, domain_of, false, filter}
use Rattle.psci_fw_laws.proofs.Words.{first_child, has_node, height, if◌then◌else◌}
use Rattle.psci_fw_laws.proofs.Words.{invalid_address, is_away, is_on, Kind, least_wish}
use Rattle.psci_fw_laws.proofs.Words.{leaving_claims, length, List, list_all, list_any, lt-ltb}
use Rattle.psci_fw_laws.proofs.Words.{map, may_enter, message_for, nat_lt, nat_tests, ne_eqb}
use Rattle.psci_fw_laws.proofs.Words.{Node, node_by, None, not, off_wish, Option, option_map}
use Rattle.psci_fw_laws.proofs.Words.{OsInitiated, Outcome, outcome_by, own_claims, own_wish}
use Rattle.psci_fw_laws.proofs.Words.{Part, Phase, Platform, platform_claims, PowerView}
use Rattle.psci_fw_laws.proofs.Words.{range_with_len, refl, returns, Some, start_outcome, Status}
use Rattle.psci_fw_laws.proofs.Words.{stops_with, suc, suspend_asked, suspend_claims, Suspended}
use Rattle.psci_fw_laws.proofs.Words.{SuspendMode, sym, system_reset2, system_suspend}
use Rattle.psci_fw_laws.proofs.Words.{target_among, true, unless_pending, up, updated, Values}
use Rattle.psci_fw_laws.proofs.Words.{values_by, with_phase, zero, ℕ}

-- Claims of renumbered cores, and the last-core check ---------------------------------------------

-- the same view, of the other numbers
abbrev pub view_by : (ℕ → ℕ → ℕ) → PowerView → PowerView
view_by s w = record {
  ask = λ c level. w.ask (s 0 c) level;
  known = λ c. w.known (s 0 c);
  is_active = λ c. w.is_active (s 0 c);
  is_away = λ c. w.is_away (s 0 c);
  granted = λ level place. w.granted level (s level place);
}

-- What is counted below a domain ----------------------------------------------------------------

module _ {b : BoardValue} {s : ℕ → ℕ → ℕ} (is : Renumbers b s) where
  least_ask-by : (w : PowerView) (n : Node)
      → least_ask b (view_by s w) (node_by s n) ≡ least_ask b w n
  unfolding least_ask
  least_ask-by w n = least-below is n (λ c. w.ask c n.level)

  is_all_away-by : (w : PowerView) (n : Node)
      → is_all_away b (view_by s w) (node_by s n) ≡ is_all_away b w n
  unfolding is_all_away
  is_all_away-by w n = all-below is n w.is_away

  -- the domain of the other core
  domain-by : (c level : ℕ) → domain_of b (s 0 c) level ≡ node_by s (domain_of b c level)
  domain-by c level = rw (is.above level c)

  -- Claims ----------------------------------------------------------------------------------------

  -- what a core wants of its domains does not depend on its number, so its claim does not
  claims_of-by : (w : PowerView) (c : ℕ) (f g : ℕ → ℕ) → ((level : ℕ) → f level ≡ g level)
      → claims_of b (view_by s w) (s 0 c) f ≡ claims_of b w c g
  unfolding claims_of generation
  claims_of-by w c f g same =
      let wanted : f ≡ g = λ i. λ level. same level i in
      let sums : (λ level. generation b (view_by s w) (domain_of b (s 0 c) level))
      ≡ (λ level. generation b w (domain_of b c level)) = λ i. λ level.
      (ap (generation b (view_by s w)) (domain-by c level)
      ∙ sum-below is (domain_of b c level) w.known) i in
      ap (λ (h : ℕ → ℕ). climb h (λ level. generation b (view_by s w) (domain_of b (s 0 c) level)) 0
      (height b + 1)) wanted
      ∙ ap (λ (h : ℕ → ℕ). climb g h 0 (height b + 1)) sums

  off_wish-by : (w : PowerView) (c level : ℕ)
      → off_wish b (view_by s w) (s 0 c) level ≡ off_wish b w c level
  off_wish-by w c zero = refl
  off_wish-by w c (suc level) =
      rw (domain-by c (suc level), is_all_away-by w (domain_of b c (suc level)))

  pub platform_claims-by : (w : PowerView) (c : ℕ)
      → platform_claims b (view_by s w) (s 0 c) ≡ platform_claims b w c
  platform_claims-by w c =
      claims_of-by w c (least_wish b (view_by s w) (s 0 c)) (least_wish b w c) (λ level.
      rw (domain-by c level) (least_ask-by w (domain_of b c level)))

  pub own_claims-by : (w : PowerView) (c : ℕ) (ask : List ℕ)
      → own_claims b (view_by s w) (s 0 c) ask ≡ own_claims b w c ask
  own_claims-by w c ask = claims_of-by w c (own_wish ask) (own_wish ask) (λ level. refl)

  pub off_claims-by : (w : PowerView) (c : ℕ)
      → off_claims b (view_by s w) (s 0 c) ≡ off_claims b w c
  off_claims-by w c = grind (arith, nat_tests, view_by, claims_of-by, off_wish-by)

-- The last-core check -----------------------------------------------------------------------------

-- Tests over lists ------------------------------------------------------------------------------

any-filter : {X : Type 0} (f p : X → Bool) (xs : List X)
    → list_any f (filter p xs) ≡ list_any (λ x. p x && f x) xs
any-filter f p [] = refl
any-filter f p (x ∷ xs) = grind (arith, nat_tests, cases_Bool, any-filter f p xs)

any-map : {X : Type 0} (f : X → Bool) (h : ℕ → X) (ks : List ℕ)
    → list_any f (map h ks) ≡ list_any (λ k. f (h k)) ks
any-map f h [] = refl
any-map f h (k ∷ ks) = ap (λ (r : Bool). f (h k) || r) (any-map f h ks)

pub any-flat_map : {X : Type 0} (f : X → Bool) (h : ℕ → List X) (ks : List ℕ)
    → list_any f (flat_map h ks) ≡ list_any (λ k. list_any f (h k)) ks
any-flat_map f h [] = refl
any-flat_map f h (k ∷ ks) =
    grind (arith, nat_tests, flat_map-cons, list_any-append, any-flat_map f h ks)

pub some-any : {X : Type 0} (xs : List X) → nat_lt 0 (length xs) ≡ list_any (λ x. true) xs
some-any [] = refl
some-any (x ∷ xs) = lt-ltb 0 (suc (length xs)) (omega arith)

-- Shallow domains -------------------------------------------------------------------------------

-- whether the domain of this place is shallow, and passes a test
abbrev pub is_beside : PowerView → (Node → Bool) → ℕ → ℕ → ℕ → ℕ → Bool
is_beside w f level own depth k =
    not (k == own) && (nat_lt (w.granted level k) depth && f (record { level = level; place = k }))

-- a test over the shallow domains of a level goes over all children
pub shallow_at-any : (b : BoardValue) (w : PowerView) (f : Node → Bool) (c : ℕ) (ask : List ℕ)
    (level under : ℕ) → level - 1 ≡ under
    → list_any f (shallow_at b w c ask level)
    ≡ list_any (is_beside w f under (up b under c) (own_wish ask level))
    (range_with_len (first_child b level (up b level c)) (children_at b level (up b level c)))
unfolding shallow_at
shallow_at-any b w f c ask level under e = grind (arith, any-filter, any-map)

-- two tests that say the same of a node and of its other place
abbrev pub AgreeBy : (ℕ → ℕ → ℕ) → (Node → Bool) → (Node → Bool) → Type 0
AgreeBy s f g = (n : Node) → f n ≡ g (node_by s n)

module _ {b : BoardValue} {s : ℕ → ℕ → ℕ} (is : Renumbers b s) where
  -- each test says of a domain what the other one says of its other place
  beside-by : (w : PowerView) (f g : Node → Bool) (c level depth k : ℕ) → AgreeBy s f g
      → is_beside (view_by s w) f level (up b level (s 0 c)) depth k
      ≡ is_beside w g level (up b level c) depth (s level k)
  beside-by w f g c level depth k agree = grind (arith, nat_tests)

  any-at : (w : PowerView) (f g : Node → Bool) (c : ℕ) (ask : List ℕ) (level : ℕ) → AgreeBy s f g
      → list_any f (shallow_at b (view_by s w) (s 0 c) ask level)
      ≡ list_any g (shallow_at b w c ask level)
  any-at w f g c ask zero agree =
      shallow_at-any b (view_by s w) f (s 0 c) ask 0 0 refl
      ∙ sym (shallow_at-any b w g c ask 0 0 refl)
  any-at w f g c ask (suc level) agree =
      let d : ℕ = own_wish ask (suc level) in
      let p : ℕ = up b (suc level) c in
      let under : suc level - 1 ≡ level = omega arith in
      let test : ℕ → Bool = is_beside w g level (up b level c) d in
      let others : List ℕ = range_with_len (first_child b (suc level) (s (suc level) p))
      (children_at b (suc level) (s (suc level) p)) in
      let own : List ℕ =
      range_with_len (first_child b (suc level) p) (children_at b (suc level) p) in
      let same : is_beside (view_by s w) f level (up b level (s 0 c)) d
      ≡ (λ k. test (s level k)) = λ i. λ k.
      beside-by w f g c level d k agree i in
      shallow_at-any b (view_by s w) f (s 0 c) ask (suc level) level under
      ∙ (ap (λ (q : ℕ). list_any (is_beside (view_by s w) f level (up b level (s 0 c)) d)
      (range_with_len (first_child b (suc level) q) (children_at b (suc level) q)))
      (is.above (suc level) c)
      ∙ (ap (λ (t : ℕ → Bool). list_any t others) same
      ∙ (list_any-fold (λ k. test (s level k)) others
      ∙ (is.children (ors test) false level p (ors-commutes test)
      ∙ (sym (list_any-fold test own)
      ∙ sym (shallow_at-any b w g c ask (suc level) level under))))))

  -- a test over all shallow domains
  any-shallow : (w : PowerView) (f g : Node → Bool) (c : ℕ) (ask : List ℕ) → AgreeBy s f g
      → list_any f (shallow b (view_by s w) (s 0 c) ask) ≡ list_any g (shallow b w c ask)
  unfolding shallow
  any-shallow w f g c ask agree =
      let same : (λ level. list_any f (shallow_at b (view_by s w) (s 0 c) ask level))
      ≡ (λ level. list_any g (shallow_at b w c ask level)) = λ i. λ level.
      any-at w f g c ask level agree i in
      any-flat_map f (shallow_at b (view_by s w) (s 0 c) ask) (range_with_len 1 (height b))
      ∙ (ap (λ (t : ℕ → Bool). list_any t (range_with_len 1 (height b))) same
      ∙ sym (any-flat_map g (shallow_at b w c ask) (range_with_len 1 (height b))))

  -- The check -------------------------------------------------------------------------------------

  idle-agrees : (w : PowerView) → AgreeBy s (is_idle b (view_by s w)) (is_idle b w)
  unfolding is_idle
  idle-agrees w = λ n. ap (is_idle b (view_by s w)) (sym (node_back is n))
      ∙ all-below is (node_by s n) (λ c. not (w.is_active c))

  pub last_core_check-by : (w : PowerView) (c : ℕ) (ask : List ℕ)
      → last_core_check b (view_by s w) (s 0 c) ask ≡ last_core_check b w c ask
  unfolding last_core_check refusal
  last_core_check-by w c ask = grind (arith, own_claims-by, some-any, any-shallow, idle-agrees)

-- Stopping by -------------------------------------------------------------------------------------

-- Stopping ----------------------------------------------------------------------------------------

-- Values ----------------------------------------------------------------------------------------

module _ {b : BoardValue} {s : ℕ → ℕ → ℕ} (is : Renumbers b s) where
  pub updated-by : {A : Type 0} (f : ℕ → A) (c : ℕ) (x : A)
      → updated (λ k. f (s 0 k)) (s 0 c) x ≡ (λ k. updated f c x (s 0 k))
  updated-by f c x = grind (arith, nat_tests, other_test)

  phases-by : (c : ℕ) (left : Phase) (v : Values)
      → updated (λ k. v.phase (s 0 k)) (s 0 c) (unless_pending (v.phase (s 0 (s 0 c))) left)
      ≡ (λ k. updated v.phase c (unless_pending (v.phase c) left) (s 0 k))
  phases-by c left v = rw (is.back 0 c) (updated-by v.phase c (unless_pending (v.phase c) left))

  pub with_phase-by : (c : ℕ) (left : Phase) (v : Values)
      → with_phase (s 0 c) left (values_by s v) ≡ values_by s (with_phase c left v)
  with_phase-by c left v = λ i. record (values_by s v) {
    phase = phases-by c left v i;
  }

  -- Claims ----------------------------------------------------------------------------------------

  leaving_claims-by : (w : PowerView) (c : ℕ) (mode : SuspendMode)
      → leaving_claims b (view_by s w) (s 0 c) mode ≡ leaving_claims b w c mode
  leaving_claims-by w c mode = grind (arith, nat_tests, off_claims-by, platform_claims-by)

  view-by : (v : Values) → view b (values_by s v) ≡ view_by s (view b v)
  unfolding view
  view-by v = refl

  pub off_parts-by : (v : Values) (c : ℕ) → off_parts b (values_by s v) (s 0 c) ≡ off_parts b v c
  unfolding off_parts
  off_parts-by v c =
      rw (with_phase-by c Away v, view-by (with_phase c Away v))
      (leaving_claims-by (view b (with_phase c Away v)) c v.mode)

  suspend_claims-by : (v : Values) (c : ℕ) (ask : List ℕ) (mode : SuspendMode)
      → suspend_claims b (values_by s v) (s 0 c) ask mode ≡ suspend_claims b v c ask mode
  suspend_claims-by v c ask Platform =
      let left : Values = with_phase c (Suspended ask) v in
      rw (
        with_phase-by c (Suspended ask) v,
        view-by left,
        platform_claims-by is (view b left) c,
      )
  suspend_claims-by v c ask OsInitiated = rw (view-by v) (last_core_check-by is (view b v) c ask)

  pub suspend_parts-by : (v : Values) (c : ℕ) (ask : List ℕ)
      → suspend_parts b (values_by s v) (s 0 c) ask ≡ suspend_parts b v c ask
  unfolding suspend_parts
  suspend_parts-by v c ask = suspend_claims-by v c ask v.mode

  -- Outcomes --------------------------------------------------------------------------------------

  pub chosen : (t : Bool) (o p q r : Outcome) → o ≡ outcome_by s q → p ≡ outcome_by s r
      → (if t then o else p) ≡ outcome_by s (if t then q else r)
  chosen t o p q r first second = grind (arith, nat_tests)

  -- a refusal by the same test
  refused-by : (u t : Bool) (code : Code) (p r : Outcome) → u ≡ t → p ≡ outcome_by s r
      → (if u then returns code else p) ≡ outcome_by s (if t then returns code else r)
  refused-by u t code p r same second = grind (arith, nat_tests, chosen)

  pub stops_with-by : (v : Values) (kind : Kind) (c : ℕ) (parts others : List Part) → parts ≡ others
      → stops_with (message_for (values_by s v) kind (s 0 c) parts)
      ≡ outcome_by s (stops_with (message_for v kind c others))
  stops_with-by v kind c parts others same = grind (arith, nat_tests)

  pub cpu_off-by : (v : Values) (c : ℕ)
      → cpu_off b (values_by s v) (s 0 c) ≡ outcome_by s (cpu_off b v c)
  cpu_off-by v c = stops_with-by v kinds.Down c _ _ (off_parts-by v c)

  -- the same claim, or the same reason
  suspended-by : (v : Values) (c : ℕ) (ask : List ℕ)
      → suspend_answer (values_by s v) (s 0 c) (suspend_parts b (values_by s v) (s 0 c) ask)
      ≡ outcome_by s (suspend_answer v c (suspend_parts b v c ask))
  suspended-by v c ask = grind (arith, nat_tests, suspend_parts-by, stops_with-by)

  -- the core has the known start of its other number
  limit-by : (v : Values) (c : ℕ) → (v.known (s 0 (s 0 c)) == b.starts) ≡ (v.known c == b.starts)
  limit-by v c = rw (is.back 0 c)

  pub suspend_asked-by : (v : Values) (c entry_point : ℕ) (asked : Result (List ℕ) BadState)
      → suspend_asked b (values_by s v) (s 0 c) entry_point asked
      ≡ outcome_by s (suspend_asked b v c entry_point asked)
  suspend_asked-by v c entry_point asked =
      grind (arith, nat_tests, refused-by, suspended-by, limit-by)

  -- a test over the other cores
  pub all_others-by : (c : ℕ) (test : ℕ → Bool)
      → all_others b (s 0 c) (λ k. test (s 0 k)) ≡ all_others b c test
  all_others-by c test =
      let same : (λ k. k == s 0 c || test (s 0 k)) ≡ (λ k. s 0 k == c || test (s 0 k)) = λ i. λ k.
      ap (λ (t : Bool). t || test (s 0 k)) (other_test is k c) i in
      ap (λ (t : ℕ → Bool). list_all t (range_with_len 0 (cores b))) same
      ∙ all-cores is (λ k. k == c || test k)

  pub system_suspend-by : (v : Values) (c entry_point : ℕ)
      → system_suspend b (values_by s v) (s 0 c) entry_point
      ≡ outcome_by s (system_suspend b v c entry_point)
  system_suspend-by v c entry_point =
      let t : Bool = not (may_enter b entry_point) in
      refused-by t t invalid_address _ _ refl
      (refused-by _ _ denied _ _ (ap not (all_others-by c (λ k. is_off_status (v.status k))))
      (refused-by _ _ denied _ _ (limit-by v c) (suspended-by v c (deepest_of (height b)))))

  pub system_message-by : (v : Values) (kind : Kind) (c : ℕ)
      → system_message (values_by s v) kind (s 0 c) ≡ outcome_by s (system_message v kind c)
  system_message-by v kind c = stops_with-by v kind c [] [] refl

  pub system_reset2-by : (v : Values) (c reset_type : ℕ)
      → system_reset2 (values_by s v) (s 0 c) reset_type
      ≡ outcome_by s (system_reset2 v c reset_type)
  system_reset2-by v c reset_type = grind (arith, nat_tests, chosen, system_message-by)

-- Returning ---------------------------------------------------------------------------------------

-- AFFINITY_INFO ---------------------------------------------------------------------------------

module _ {b : BoardValue} {s : ℕ → ℕ → ℕ} (is : Renumbers b s) where
  pub has_node-by : (level place : ℕ)
      → has_node b (record { level = level; place = s level place })
      ≡ has_node b (record { level = level; place = place })
  has_node-by level place = rw (is.inside level place)

  status_over-by : (status : ℕ → Status) (n : Node)
      → status_over (λ k. status (s 0 k)) (below b (node_by s n)) ≡ status_over status (below b n)
  status_over-by status n =
      rw (
        any-below is n (λ k. is_on (status k)),
        any-below is n (λ k. is_pending_status (status k)),
      ) refl

  status_at-by : (status : ℕ → Status) (level place : ℕ)
      →
      (if level == 0 then status (s 0 (s level place)) else status_over (λ k. status (s 0 k))
      (below b (record { level = level; place = s level place })))
      ≡
      (if level == 0 then status place else status_over status
      (below b (record { level = level; place = place })))
  status_at-by status zero place = ap status (is.back 0 place)
  status_at-by status (suc level) place =
      let above : (suc level == 0) ≡ false = ne_eqb (suc level) 0 (λ e. omega arith) in
      rw above (status_over-by status (record { level = suc level; place = place }))

  node_status-by : (status : ℕ → Status) (n : Node)
      → node_status b (λ k. status (s 0 k)) (node_by s n) ≡ node_status b status n
  unfolding node_status
  node_status-by status n = rw (has_node-by n.level n.place, status_at-by status n.level n.place)

  affinity_of-by : (v : Values) (o : Option Node)
      → affinity_of b (values_by s v) (option_map (node_by s) o) ≡ affinity_of b v o
  affinity_of-by v None = refl
  affinity_of-by v (Some n) = rw (node_status-by v.status n)

  pub affinity-by : (v : Values) (o p : Option Node) → p ≡ option_map (node_by s) o
      → returns (affinity_of b (values_by s v) p) ≡ outcome_by s (returns (affinity_of b v o))
  affinity-by v o p e = rw (e, affinity_of-by v o)

  -- NODE_HW_STATE ---------------------------------------------------------------------------------

  hw_state_of-by : (v : Values) (o : Option Node)
      → hw_state_of (values_by s v) (option_map (node_by s) o) ≡ hw_state_of v o
  hw_state_of-by v o = grind (arith, nat_tests)

  pub hw_state-by : (v : Values) (o p : Option Node) → p ≡ option_map (node_by s) o
      → returns (hw_state_of (values_by s v) p) ≡ outcome_by s (returns (hw_state_of v o))
  hw_state-by v o p e = rw (e, hw_state_of-by v o)

  -- CPU_ON ----------------------------------------------------------------------------------------

  target-by : (v : Values) (entry_point : ℕ) (o : Option Core)
      → start_outcome (values_by s v)
      (target_among b (values_by s v) entry_point (option_map (core_by s) o))
      ≡ outcome_by s (start_outcome v (target_among b v entry_point o))
  target-by v entry_point o = grind (arith, nat_tests)

  pub cpu_on-by : (v : Values) (target word entry_point : ℕ)
      → core_of b word ≡ option_map (core_by s) (core_of b target)
      → cpu_on b (values_by s v) word entry_point ≡ outcome_by s (cpu_on b v target entry_point)
  unfolding target_of
  cpu_on-by v target word entry_point e = rw e (target-by v entry_point (core_of b target))

  -- PSCI_SET_SUSPEND_MODE -------------------------------------------------------------------------

  may_set-by : (v : Values) (c : ℕ) (mode : SuspendMode)
      → may_set b (values_by s v) (s 0 c) mode ≡ may_set b v c mode
  may_set-by v c Platform = all_others-by is c (λ k. is_away (v.phase k))
  may_set-by v c OsInitiated = ap not (any-cores is (λ k. is_suspended_or_pending (v.phase k)))

  pub mode_asked-by : (v : Values) (c : ℕ) (mode : Option SuspendMode)
      → returns (mode_asked b (values_by s v) (s 0 c) mode)
      ≡ outcome_by s (returns (mode_asked b v c mode))
  mode_asked-by v c mode = grind (arith, nat_tests, may_set-by)
