-- Different claims on one domain in one life have different generations, so there is one live
-- claim at most: of this life, with the sum of the starts below.
use Rattle.std.specs.Prelude.{IsSome}
use Rattle.std.proofs.lemmas.List.Folds.{list_any_at}
use Rattle.psci_ctl_spec.specs.History as controls
use Rattle.psci_world_spec.specs.Legal.{sent}
use Rattle.psci_headline.specs.Safe.{claims, live_claims, live_in}
use Rattle.psci_headline.specs.Laws.{AreAsked, AreClaimed}
use Rattle.psci_headline.proofs.Applying.{was_sent}
use Rattle.psci_headline.proofs.Claiming.{HasSource, IsIn, part_in, source, start_in}
use Rattle.psci_headline.proofs.Claiming.{with_claim_of}
use Rattle.psci_headline.proofs.Words.{◌++◌, ◌<◌, ◌==◌, ◌∙◌, ◌∷◌, ◌≡◌, ◌≤◌, ◌⊎◌, [], AlwaysSafe}
use Rattle.psci_headline.proofs.Words.{and_from, ap, AreRising, arith, BoardValue, Bool, Claim}
use Rattle.psci_headline.proofs.Words.{claim_by, cond, controller_history, controller_values}
use Rattle.psci_headline.proofs.Words.{cores, depth_at, eq-eqb, eqb-true, executes, false}
use Rattle.psci_headline.proofs.Words.{false≢true, filter, firmware_values}
use Rattle.psci_headline.proofs.Words.{get_or_from_slice_get, HasLive, HasNode, inl, inr}
use Rattle.psci_headline.proofs.Words.{is_on_path, IsApplied, IsFirst, IsLegalPast, IsReplied}
use Rattle.psci_headline.proofs.Words.{length, List, list_any, listed, MessageValue, nat_tests}
use Rattle.psci_headline.proofs.Words.{Node, NoDeeperThanAsked, None, none-some}
use Rattle.psci_headline.proofs.Words.{NoneBelowSleeping, NoneExecutes, Option, option_map, Part}
use Rattle.psci_headline.proofs.Words.{part_for, PathLaws, place, Record, refl, Safe, sent_in}
use Rattle.psci_headline.proofs.Words.{slice_get, slice_get_within, Some, starts_below, Stopped}
use Rattle.psci_headline.proofs.Words.{subst, suc, sym, true, up, Values, zero, ℕ}

-- What a filter keeps of a list -------------------------------------------------------------------

-- An item of a list that passes a test.
pub record IsKept {X : Type 0} (test : X → Bool) (list : List X) (x : X) : Type 0 where
  pub index : ℕ
  pub at : slice_get list index ≡ Some x
  pub passes : test x ≡ true

kept_later : {X : Type 0} (test : X → Bool) (x y : X) (list : List X) → IsKept test list y
    → IsKept test (x ∷ list) y
kept_later test x y list is = record { index = suc is.index; at = is.at; passes = is.passes }

by_head : {X : Type 0} (test : X → Bool) (x y : X) (list : List X) (t : Bool) (k : ℕ)
    → test x ≡ t → slice_get (cond t (x ∷ filter test list) (filter test list)) k ≡ Some y
    → ((j : ℕ) → slice_get (filter test list) j ≡ Some y → IsKept test list y)
    → IsKept test (x ∷ list) y
by_head test x y list t k is at before = grind (arith, nat_tests, kept_later)

-- what is kept is an item of the list
pub is_kept : {X : Type 0} (test : X → Bool) (list : List X) (k : ℕ) (y : X)
    → slice_get (filter test list) k ≡ Some y → IsKept test list y
is_kept test [] k y at = absurd (cc)
is_kept test (x ∷ list) k y at = grind (arith, nat_tests, by_head, is_kept test list)

place_later : {X : Type 0} (x y : X) (list : List X) (t : Bool)
    → (k : ℕ) × (slice_get list k ≡ Some y)
    → (k : ℕ) × (slice_get (cond t (x ∷ list) list) k ≡ Some y)
place_later x y list true (k, at) = (suc k, at)
place_later x y list false (k, at) = (k, at)

-- an item that passes stands first, and one that does not is left out
pub head_kept : {X : Type 0} (x : X) (list : List X) (t : Bool) → t ≡ true
    → slice_get (cond t (x ∷ list) list) 0 ≡ Some x
head_kept x list t is = grind (arith, nat_tests)

-- an item that passes is kept
pub keeps : {X : Type 0} (test : X → Bool) (list : List X) (k : ℕ) (y : X)
    → slice_get list k ≡ Some y → test y ≡ true
    → (j : ℕ) × (slice_get (filter test list) j ≡ Some y)
keeps test [] k y at is = absurd (cc)
keeps test (x ∷ list) zero y at is = grind (arith, nat_tests, head_kept)
keeps test (x ∷ list) (suc k) y at is =
    place_later x y (filter test list) (test x) (keeps test list k y at is)

-- Live ones ---------------------------------------------------------------------------------------

-- Lists of claims ------------------------------------------------------------------------------

-- no two claims of a list have the same generation
abbrev pub AreDistinct : List Claim → Type 0
AreDistinct list = (j k : ℕ) (p q : Claim) → slice_get list j ≡ Some p → slice_get list k ≡ Some q
    → p.generation ≡ q.generation → j ≡ k

-- one more claim, of another generation than the older ones
distinct_more : (x : Claim) (old : List Claim)
    → ((k : ℕ) (y : Claim) → slice_get old k ≡ Some y → y.generation ≡ x.generation → ⊥)
    → AreDistinct old → AreDistinct (x ∷ old)
distinct_more x old new are x4 x5 p q at to same = grind (arith, nat_tests)

first_distinct : (first : Claim) (t : Bool) → AreDistinct (cond t [] (first ∷ []))
first_distinct first t = grind (arith, nat_tests, distinct_more)

-- All claims -----------------------------------------------------------------------------------

apart_before : (b : BoardValue) (o : Option MessageValue) (messages : List MessageValue)
    → AreRising b (listed o ++ messages) → AreRising b messages
apart_before b None messages are = are
apart_before b (Some m) messages are = record {
  later = λ life level place j k m n p q h i g.
      are.later life level place (suc j) (suc k) m n p q (omega arith) i g;
  start = λ life level place k m p i. are.start life level place (suc k) m p i;
}

module _ (b : BoardValue) (life : ℕ) (v : Values) (n : Node) (messages : List MessageValue)
    (old : List Claim)
    (sources : (k : ℕ) (x : Claim) → slice_get old k ≡ Some x → HasSource b life n messages x)
  where
    -- the claim of a new message has another generation than each older one
    newer : (m : MessageValue) (p : Part) (k : ℕ) (y : Claim) → AreRising b (m ∷ messages)
        → part_for b life n.level n.place m ≡ Some p → slice_get old k ≡ Some y
        → y.generation ≡ p.generation → ⊥
    newer m p k y are e at same =
        let s = sources k y at in
        let some : 0 < p.generation = are.start life n.level n.place 0 m p refl e in
        elim s.from [
          | inl start ↦ grind (arith, nat_tests)
          | inr f ↦
              let less = are.later life n.level n.place 0 (suc f.index) m f.message p s.part
              (omega arith) refl f.at e f.part in
              omega (arith, less, s.generation, same)
        ]

    part_distinct : (m : MessageValue) (o : Option Part) → part_for b life n.level n.place m ≡ o
        → AreRising b (m ∷ messages) → AreDistinct old
        → AreDistinct (listed (option_map (λ p. claim_by b v n m.core.number p) o) ++ old)
    part_distinct m o is are distinct = grind (arith, nat_tests, distinct_more, newer)

    with_distinct : (o : Option MessageValue) → AreRising b (listed o ++ messages)
        → AreDistinct old → AreDistinct (with_claim_of b life v n o old)
    with_distinct o are distinct = grind (arith, nat_tests, part_distinct)

pub distinct : (b : BoardValue) (life : ℕ) (n : Node) (past : List Record) → HasNode b n
    → AreRising b (sent past) → AreDistinct (claims b life n past)
unfolding claims sent
distinct b life n [] has are = first_distinct _ (is_on_path b 0 n.level n.place)
distinct b life n (r ∷ past) has are =
    with_distinct b life (firmware_values b (r ∷ past)) n (sent past) (claims b life n past)
    (λ k x. source b life n past k x has) (sent_in r.said) are
    (distinct b life n past has (apart_before b (sent_in r.said) (sent past) are))

-- The claims of one generation -----------------------------------------------------------------

-- the claims of a list that have this generation
abbrev pub of_generation : ℕ → List Claim → List Claim
of_generation g list = filter (λ k. k.generation == g) list

-- A claim of a list that has this generation.
pub record IsOf (g : ℕ) (list : List Claim) (x : Claim) : Type 0 where
  pub index : ℕ
  pub at : slice_get list index ≡ Some x
  pub old : x.generation ≡ g

is_of : (g : ℕ) (list : List Claim) (k : ℕ) (y : Claim)
    → slice_get (of_generation g list) k ≡ Some y → IsOf g list y
is_of g list k y at =
    let is = is_kept (λ (c : Claim). c.generation == g) list k y at in
    record { index = is.index; at = is.at; old = eqb-true _ _ is.passes }

-- How many -------------------------------------------------------------------------------------

none_head : (g : ℕ) (x : Claim) (list : List Claim) (t : Bool) → (t ≡ true → ⊥)
    → length (of_generation g list) ≡ 0
    → length (cond t (x ∷ of_generation g list) (of_generation g list)) ≡ 0
none_head g x list t other none = grind (arith, nat_tests)

none_of : (g : ℕ) (list : List Claim)
    → ((k : ℕ) (y : Claim) → slice_get list k ≡ Some y → y.generation ≡ g → ⊥)
    → length (of_generation g list) ≡ 0
none_of g [] others = refl
none_of g (x ∷ list) others =
    none_head g x list (x.generation == g) (λ e. others 0 x refl (eqb-true _ _ e))
    (none_of g list (λ k. others (suc k)))

one_head : (g : ℕ) (x : Claim) (list : List Claim) (t : Bool)
    → (t ≡ true → length (of_generation g list) ≡ 0) → length (of_generation g list) ≤ 1
    → length (cond t (x ∷ of_generation g list) (of_generation g list)) ≤ 1
one_head g x list t none few = grind (arith, nat_tests)

-- of distinct claims one at most has a generation
one_of : (g : ℕ) (list : List Claim) → AreDistinct list → length (of_generation g list) ≤ 1
one_of g [] are = omega arith
one_of g (x ∷ list) are =
    one_head g x list (x.generation == g)
    (λ e. none_of g list (λ k y at old.
    let place = are 0 (suc k) x y refl at (eqb-true _ _ e ∙ sym old) in omega (arith, place)))
    (one_of g list (λ j k p q at to same.
    let place = are (suc j) (suc k) p q at to same in omega (arith, place)))

-- Live claims ----------------------------------------------------------------------------------

-- in a life the live claims are those of the generation that the domain has
pub live_are : (b : BoardValue) (past : List Record) (life : ℕ) (n : Node)
    → (controller_values b past).life ≡ Some life
    → live_claims b past n
    ≡ of_generation (starts_below b (controller_values b past).starts n) (claims b life n past)
unfolding live_claims
live_are b past life n is = ap (live_in b (controller_values b past).starts n past) is

-- a live claim is a claim of the life that has this generation
pub live_is : (b : BoardValue) (past : List Record) (life : ℕ) (n : Node) (k : ℕ) (x : Claim)
    → (controller_values b past).life ≡ Some life → slice_get (live_claims b past n) k ≡ Some x
    → IsOf (starts_below b (controller_values b past).starts n) (claims b life n past) x
live_is b past life n k x is at =
    is_of _ (claims b life n past) k x
    (subst (λ xs. slice_get xs k ≡ Some x) (live_are b past life n is) at)

-- and a claim of the life that has it is live
pub live_kept : (b : BoardValue) (past : List Record) (life : ℕ) (n : Node) (k : ℕ) (x : Claim)
    → (controller_values b past).life ≡ Some life → slice_get (claims b life n past) k ≡ Some x
    → x.generation ≡ starts_below b (controller_values b past).starts n
    → (j : ℕ) × (slice_get (live_claims b past n) j ≡ Some x)
live_kept b past life n k x is at old =
    subst (λ xs. (j : ℕ) × (slice_get xs j ≡ Some x)) (sym (live_are b past life n is))
    (keeps _ (claims b life n past) k x at (eq-eqb _ _ old))

-- without a life no claim is live
pub none_live : (b : BoardValue) (past : List Record) (n : Node)
    → (controller_values b past).life ≡ None → live_claims b past n ≡ []
unfolding live_claims
none_live b past n is = ap (live_in b (controller_values b past).starts n past) is

-- each domain has one live claim at most
pub one_live : (b : BoardValue) (past : List Record) (n : Node)
    → ((life : ℕ) → AreDistinct (claims b life n past)) → length (live_claims b past n) ≤ 1
unfolding live_claims
one_live b past n are = by_life (controller_values b past).life
  where
    by_life : (o : Option ℕ)
        → length (live_in b (controller_values b past).starts n past o) ≤ 1
    by_life None = omega arith
    by_life (Some life) = one_of _ (claims b life n past) (are life)

-- By their sources -----------------------------------------------------------------------------

-- A live claim is one of this life, with the sum of the starts below as its generation.
pub record IsLiveOne (b : BoardValue) (past : List Record) (n : Node) (c : Claim) : Type 0 where
  pub life : ℕ
  pub present : (controller_values b past).life ≡ Some life
  pub index : ℕ
  pub at : slice_get (claims b life n past) index ≡ Some c
  pub live : c.generation ≡ starts_below b (controller_values b past).starts n

live_of : (b : BoardValue) (past : List Record) (n : Node) (o : Option ℕ) (k : ℕ) (c : Claim)
    → (controller_values b past).life ≡ o → slice_get (live_claims b past n) k ≡ Some c
    → IsLiveOne b past n c
live_of b past n None k c e at =
    absurd (none-some c (subst (λ xs. slice_get xs k ≡ Some c) (none_live b past n e) at))
live_of b past n (Some life) k c e at =
    let one = live_is b past life n k c e at in
    record { life = life; present = e; index = one.index; at = one.at; live = one.old }

pub is_live_one : (b : BoardValue) (past : List Record) (n : Node) (k : ℕ) (c : Claim)
    → slice_get (live_claims b past n) k ≡ Some c → IsLiveOne b past n c
is_live_one b past n k c at = live_of b past n (controller_values b past).life k c refl at

-- a claim of this life with that sum is live
pub has_live : (b : BoardValue) (past : List Record) (n : Node) (life depth generation : ℕ)
    → (controller_values b past).life ≡ Some life → IsIn (claims b life n past) depth generation
    → generation ≡ starts_below b (controller_values b past).starts n → HasLive b past n depth
has_live b past n life depth generation present is e = grind (arith, nat_tests, live_kept)

-- A domain that is not fully on is as deep as a live claim on it ----------------------------------

-- off the boot path only is a domain down at the life's start
pub first_off : (t : Bool) (depth : ℕ) → depth ≡ cond t 0 3 → 0 < depth → (t ≡ false) × (depth ≡ 3)
first_off t depth e some = grind (arith, nat_tests)

applied_live : (b : BoardValue) (past : List Record) (life : ℕ) (n : Node)
    → IsReplied b (controller_history b past) → (controller_values b past).life ≡ Some life
    → IsApplied b (controller_history b past) n.level n.place
    → HasLive b past n (depth_at b past n.level n.place)
unfolding controls.values_of
applied_live b past life n is present a =
    let from = was_sent b past life n.level n.place a.part is present a.was in
    let has = part_in b life n past from.index from.message a.part from.at from.part in
    subst (HasLive b past n) (sym a.depth)
    (has_live b past n life a.part.depth a.part.generation present has a.live)

first_live : (b : BoardValue) (past : List Record) (life : ℕ) (n : Node)
    → (controller_values b past).life ≡ Some life → 0 < depth_at b past n.level n.place
    → IsFirst b (controller_history b past) n.level n.place
    → HasLive b past n (depth_at b past n.level n.place)
unfolding controls.values_of
first_live b past life n present some f =
    let off = first_off (is_on_path b 0 n.level n.place) (depth_at b past n.level n.place) f.depth
    some in
    subst (HasLive b past n) (sym off.1)
    (has_live b past n life 3 0 present (start_in b life n past off.0) (sym f.still))

pub claimed_depth : (b : BoardValue) (past : List Record) (life : ℕ) (n : Node)
    → IsReplied b (controller_history b past)
    → (controls.life b (controller_history b past) ≡ Some life
    → 0 < controls.depth b (controller_history b past) n.level n.place
    → IsApplied b (controller_history b past) n.level n.place
    ⊎ IsFirst b (controller_history b past) n.level n.place)
    → (controller_values b past).life ≡ Some life → 0 < depth_at b past n.level n.place
    → HasLive b past n (depth_at b past n.level n.place)
unfolding controls.values_of
claimed_depth b past life n is from present some =
    grind (arith, nat_tests, applied_live, first_live)

-- Sound -------------------------------------------------------------------------------------------
-- What the live claims say makes a run safe: no core below a sleeping domain, and no domain deeper
-- than asked; and a run is safe at every moment.

-- an item passes a test
pub any_passes : {A : Type 0} (test : A → Bool) (xs : List A) (k : ℕ) (x : A)
    → slice_get xs k ≡ Some x → test x ≡ true → list_any test xs ≡ true
any_passes test xs k x at pass =
    list_any_at test xs k x (slice_get_within xs k x at)
    (ap test (get_or_from_slice_get xs k x x at) ∙ pass)

-- No core below a sleeping domain -------------------------------------------------------------

-- without a life no core executes
abbrev pub NoneWithoutLife : BoardValue → List Record → Type 0
NoneWithoutLife b past = (controller_values b past).life ≡ None → (c : ℕ)
    → executes (place b past c) ≡ true → ⊥

pub none_without_life : (b : BoardValue) (past : List Record)
    → ((controller_values b past).life ≡ None → (c : ℕ) → place b past c ≡ Stopped)
    → NoneWithoutLife b past
none_without_life b past stopped none c x = grind (arith, nat_tests, false≢true)

awake_at : (b : BoardValue) (past : List Record) (n : Node) (c : ℕ) (o : Option ℕ)
    → AreClaimed b past → NoneExecutes b past → NoneWithoutLife b past → HasNode b n → c < cores b
    → up b n.level c ≡ n.place → executes (place b past c) ≡ true
    → (controller_values b past).life ≡ o → 0 < depth_at b past n.level n.place → ⊥
awake_at b past n c None claimed none over has on at x e some = over e c x
awake_at b past n c (Some life) claimed none over has on at x e some =
    let live = claimed life n has e some in
    none n c live.index live.claim has on at live.at x

pub none_below_sleeping : (b : BoardValue) (past : List Record) → PathLaws b → AreClaimed b past
    → NoneExecutes b past → NoneWithoutLife b past → NoneBelowSleeping b past
none_below_sleeping b past paths claimed none over c level on low x =
    let n : Node = record { level = level; place = up b level c } in
    let inside : HasNode b n = record { level = low; place = paths.inside c level on low } in
    let not_deep = awake_at b past n c (controller_values b past).life claimed none over inside on
    refl x refl in
    omega (arith, not_deep)

-- No deeper than asked ------------------------------------------------------------------------

present_life : (o : Option ℕ) → IsSome o → (life : ℕ) × (o ≡ Some life)
present_life o some = grind (arith, nat_tests, false≢true)

pub no_deeper : (b : BoardValue) (past : List Record) → AreClaimed b past → AreAsked b past
    → NoDeeperThanAsked b past
no_deeper b past claimed asked n has some deep =
    let life = present_life (controller_values b past).life some in
    let live = claimed life.0 n has life.1 deep in
    let one = is_live_one b past n live.index live.claim live.at in
    grind (arith, nat_tests, any_passes, and_from, eq-eqb)

-- Every moment ---------------------------------------------------------------------------------

-- at every moment, where it is so after each legal past
pub always : (b : BoardValue) → ((past : List Record) → IsLegalPast b past → Safe b past)
    → (past : List Record) → IsLegalPast b past → AlwaysSafe b past
always b safe [] legal = safe [] legal
always b safe (r ∷ past) legal = (safe (r ∷ past) legal, always b safe past legal.1)
