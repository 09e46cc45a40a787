-- The counts that are kept, by level and place, once a core has another status.
use Rattle.std.specs.Prelude.{if◌then◌else◌, nat_le, Option}
use Rattle.std.proofs.Common.{◌++◌, append-nil, append_assoc, Err, length-append, take, zero}
use Rattle.std.proofs.Math.Seq.{get_or-append_seam}
use Rattle.std.proofs.lemmas.Bool.{cases_eq}
use Rattle.std.proofs.lemmas.Option.{slice_get_read}
use Rattle.psci_board.specs.Board.{domain_of, up}
use Rattle.psci_tree.specs.Recount.{asks, is_away}
use Rattle.psci_messages.specs.Claim.{answer_by, claims_of, climb, last_core_check}
use Rattle.psci_messages.specs.View.{generation, least_ask, PowerView}
use Rattle.psci_messages.specs.declared.osi.Osi.{Osi}
use Rattle.psci_coord.specs.Wish.{wanted}
use Rattle.psci_coord.specs.declared.claim.Wish.{Wish}
use Rattle.psci_coord.specs.declared.claim.Wish.TheVariants.{Least, Own}
use Rattle.psci_coord.proofs.Climbing.{IsClimbedTo}
use Rattle.psci_fw_spec.specs.PowerCalls.{suspend_claims}
use Rattle.psci_fw_spec.specs.Phases.{activity_of}
use Rattle.psci_fw_spec.specs.Invariant.{view}
use Rattle.psci_fw_spec.specs.declared.mode.SuspendMode.{SuspendMode}
use Rattle.psci_fw_spec.specs.declared.mode.SuspendMode.TheVariants.{OsInitiated}
use Rattle.psci_fw_state.specs.Counts.{HasDomains, with_counts}
use Rattle.psci_fw_state.specs.Seen.{values_in}
use Rattle.psci_fw_state.proofs.AllCores.{may_recount, none_below, recounted_off, recounted_on}
use Rattle.psci_fw_state.proofs.Words.{◌+◌, ◌-◌, ◌<◌, ◌∙◌, ◌∷◌, ◌≡◌, ◌≤◌, [], Activity, ap}
use Rattle.psci_fw_state.proofs.Words.{AreCounts, arith, asked_wish, BoardValue, cases_lt, cores}
use Rattle.psci_fw_state.proofs.Words.{counts_at, counts_below, drop, get_or, get_or-map}
use Rattle.psci_fw_state.proofs.Words.{get_or-replicate, get_or-set_other, get_or-set_same}
use Rattle.psci_fw_state.proofs.Words.{height, inl, inr, is_active, IsState, IsTree, length}
use Rattle.psci_fw_state.proofs.Words.{length-map, length-replicate, length-set, level_counts}
use Rattle.psci_fw_state.proofs.Words.{List, map, MayRecount, no_cores, Node, None, Off, Ok}
use Rattle.psci_fw_state.proofs.Words.{one_core, Opening, own_claims, Part, PathLaws, phase_by}
use Rattle.psci_fw_state.proofs.Words.{place_above, Platform, recounted, refl, refusal}
use Rattle.psci_fw_state.proofs.Words.{replicate, row_at, set, shallow, size_below, slice_get}
use Rattle.psci_fw_state.proofs.Words.{Some, state_at, StateValue, Status, StatusCounts, subst}
use Rattle.psci_fw_state.proofs.Words.{suc, suspends, sym, TreeValue, Values, view_of}
use Rattle.psci_fw_state.proofs.Words.{wish_unless, wished_claims, with_rest, ℕ}

-- A claim is made and granted going up, one level after another -----------------------------------

-- Where all cores are as they were --------------------------------------------------------------

-- what is wanted stays
pub wanted_kept : (b : BoardValue) (t u : TreeValue) (core level : ℕ) (wish : Wish)
    → ((c : ℕ) → state_at u c ≡ state_at t c) → u.levels ≡ t.levels
    → wanted b (view_of u) core wish level ≡ wanted b (view_of t) core wish level
unfolding least_ask
wanted_kept b t u core level Least cores levels = λ i. least_ask b (record (view_of t) {
  ask = λ c l. if nat_le l (length (levels i)) then asks (cores c i).activity l else 0;
}) (domain_of b core level)
wanted_kept b t u core level (Own ask) cores levels = refl

-- and the sum of the known starts
pub generation_kept : (b : BoardValue) (t u : TreeValue) (core level : ℕ)
    → ((c : ℕ) → state_at u c ≡ state_at t c)
    → generation b (view_of u) (domain_of b core level)
    ≡ generation b (view_of t) (domain_of b core level)
unfolding generation
generation_kept b t u core level cores = λ i. generation b (record (view_of t) {
  known = λ c. (cores c i).known;
}) (domain_of b core level)

-- The part of a level ---------------------------------------------------------------------------

-- a part that a claim was climbed by is the whole claim's at its level
pub part_of_level : (b : BoardValue) (v : PowerView) (core : ℕ) (wished : ℕ → ℕ) (level : ℕ)
    (parts : List Part) (part : Part) → length parts ≡ level
    → IsClimbedTo b v core wished (level + 1) (parts ++ part ∷ [])
    → slice_get (claims_of b v core wished) level ≡ Some part
part_of_level b v core wished level parts part count c =
    let rest : List Part = climb wished (λ l. generation b v (domain_of b core l)) (level + 1)
    (height b + 1 - (level + 1)) in
    let whole : parts ++ part ∷ rest ≡ claims_of b v core wished = rw append_assoc at c.rest in
    let seam : part ≡ get_or (parts ++ part ∷ rest) level part =
    sym (get_or-append_seam parts part rest part)
    ∙ ap (λ n. get_or (parts ++ part ∷ rest) n part) count in
    rw (← whole) (slice_get_read (parts ++ part ∷ rest) (length (parts ++ part ∷ rest)) level part
    refl (omega (arith, length-append parts (part ∷ rest), count)) seam)

-- above the system nothing more is claimed
pub climbed_all : (b : BoardValue) (v : PowerView) (core : ℕ) (wished : ℕ → ℕ) (level : ℕ)
    (parts : List Part) → IsClimbedTo b v core wished level parts → height b + 1 ≤ level
    → parts ≡ claims_of b v core wished
climbed_all b v core wished level parts c past =
    let none : height b + 1 - level ≡ 0 = omega arith in
    rw (none, append-nil) at c.rest

-- What claims are made from is what the tree holds ------------------------------------------------

pub active_by : (s : Status) (a : Activity) → activity_of (phase_by s a) ≡ a
active_by s a = grind arith

pub viewed : (s : StateValue) → IsState s → view_of s.tree ≡ view s.board (values_in s)
unfolding view values_in
viewed s is =
    let at : (c : ℕ) → (state_at s.tree c).activity
    ≡ activity_of (phase_by (row_at s.rows c).status (state_at s.tree c).activity) =
    λ c. sym (active_by (row_at s.rows c).status (state_at s.tree c).activity) in
    λ i. record {
      ask = λ c level.
          if nat_le level (length (is.levels i)) then asks (at c i) level else 0;
      known = (view_of s.tree).known;
      is_active = λ c. is_active (at c i);
      is_away = λ c. is_away (at c i);
      granted = (view_of s.tree).granted;
    }

-- Suspended -------------------------------------------------------------------------------------

-- in platform-coordinated mode the least is claimed of what is asked once the core is suspended
platform_wished : (b : BoardValue) (v w : Values) (c : ℕ) (ask : List ℕ) (opening : Opening)
    (wish : Wish) → w ≡ with_rest c (suspends opening ask) v
    → Ok wish ≡ asked_wish b (view b v) c ask Platform
    → suspend_claims b v c ask Platform ≡ Ok (wished_claims b (view b w) c wish)
unfolding view
platform_wished b v w c ask opening Least is said = rw is refl
platform_wished b v w c ask opening (Own own) is said = cc

-- in OS-initiated mode its own ask, of which where a core goes on is no part
own_wished : (b : BoardValue) (v w : Values) (c : ℕ) (ask : List ℕ) (opening : Opening)
    (wish : Wish) (reason : Option Osi) → w ≡ with_rest c (suspends opening ask) v
    → Ok wish ≡ wish_unless reason ask
    → answer_by reason (own_claims b (view b v) c ask) ≡ Ok (wished_claims b (view b w) c wish)
unfolding view claims_of generation
own_wished b v w c ask opening Least None is said = cc
own_wished b v w c ask opening (Own own) None is said =
    let it : Ok (Own own) ≡ Ok (Own ask) = said in
    let same : own ≡ ask = cc in
    rw (is, same) refl
own_wished b v w c ask opening wish (Some reason) is said = cc

-- where nothing refuses it, the parts are those that the core wants once it is suspended
pub suspend_wished : (b : BoardValue) (v w : Values) (c : ℕ) (ask : List ℕ) (opening : Opening)
    (wish : Wish) (mode : SuspendMode) → w ≡ with_rest c (suspends opening ask) v
    → Ok wish ≡ asked_wish b (view b v) c ask mode
    → suspend_claims b v c ask mode ≡ Ok (wished_claims b (view b w) c wish)
unfolding last_core_check
suspend_wished b v w c ask opening wish Platform is said =
    platform_wished b v w c ask opening wish is said
suspend_wished b v w c ask opening wish OsInitiated is said =
    own_wished b v w c ask opening wish (refusal b (view b v) (shallow b (view b v) c ask)) is said

-- and else it is refused for the same reason
refused_by : (ask : List ℕ) (parts : List Part) (e : Osi) (reason : Option Osi)
    → Err e ≡ wish_unless reason ask → answer_by reason parts ≡ Err e
refused_by ask parts e None said = cc
refused_by ask parts e (Some reason) said =
    let same : reason ≡ e = cc in
    rw same refl

pub suspend_refused : (b : BoardValue) (v : Values) (c : ℕ) (ask : List ℕ) (e : Osi)
    (mode : SuspendMode) → Err e ≡ asked_wish b (view b v) c ask mode
    → suspend_claims b v c ask mode ≡ Err e
unfolding last_core_check
suspend_refused b v c ask e Platform said = cc
suspend_refused b v c ask e OsInitiated said =
    refused_by ask (own_claims b (view b v) c ask) e
    (refusal b (view b v) (shallow b (view b v) c ask)) said

-- Kept counts -------------------------------------------------------------------------------------

-- One domain -------------------------------------------------------------------------------------

module _ (kept : List (List StatusCounts)) (l p : ℕ) (k : StatusCounts) (low : 0 < l)
    (high : l ≤ length kept) where
  abbrev after : List (List StatusCounts)
  after = with_counts kept (record { level = l; place = p }) k

  this_level : level_counts after l ≡ set (level_counts kept l) p k
  this_level = get_or-set_same kept (l - 1) (set (level_counts kept l) p k) [] (omega arith)

  other_level : (m : ℕ) → 0 < m → (m ≡ l → ⊥) → level_counts after m ≡ level_counts kept m
  other_level m some n =
      get_or-set_other kept (l - 1) (m - 1) (set (level_counts kept l) p k) []
      (λ e. n (omega (arith, e, some, low)))

  set_shape : (levels : List (List ℕ)) → HasDomains levels kept → HasDomains levels after
  set_shape levels shape = record {
    height = length-set kept (l - 1) (set (level_counts kept l) p k) ∙ shape.height;
    domains = λ m some top. elim (cases_eq m l) [
      | inl e ↦
          rw e (ap length this_level ∙ length-set (level_counts kept l) p k
          ∙ shape.domains l low (omega (arith, e, top)))
      | inr n ↦ ap length (other_level m some n) ∙ shape.domains m some top
    ];
  }

  set_here : p < length (level_counts kept l) → counts_at after l p ≡ k
  set_here inside =
      ap (λ (row : List StatusCounts). get_or row p no_cores) this_level
      ∙ get_or-set_same (level_counts kept l) p k no_cores inside

  set_beside : (q : ℕ) → (q ≡ p → ⊥) → counts_at after l q ≡ counts_at kept l q
  set_beside q n =
      ap (λ (row : List StatusCounts). get_or row q no_cores) this_level
      ∙ get_or-set_other (level_counts kept l) p q k no_cores n

  set_other : (m q : ℕ) → 0 < m → (m ≡ l → ⊥) → counts_at after m q ≡ counts_at kept m q
  set_other m q some n =
      ap (λ (row : List StatusCounts). get_or row q no_cores) (other_level m some n)

-- Level by level ---------------------------------------------------------------------------------

-- below this level the counts are of the new statuses, and from it up of the old ones
pub record IsCounted (levels : List (List ℕ)) (old new : ℕ → Status)
    (kept : List (List StatusCounts)) (level : ℕ) : Type 0 where
  pub shape : HasDomains levels kept
  pub done : (l p : ℕ) → 0 < l → l < level → l ≤ length levels → p < size_below (drop l levels)
      → counts_at kept l p ≡ counts_below levels new (record { level = l; place = p })
  pub left : (l p : ℕ) → 0 < l → level ≤ l → l ≤ length levels → p < size_below (drop l levels)
      → counts_at kept l p ≡ counts_below levels old (record { level = l; place = p })

-- one level more
module _ (levels : List (List ℕ)) (old new : ℕ → Status) (core : ℕ)
    (there : core < size_below levels) (same : (c : ℕ) → (c ≡ core → ⊥) → new c ≡ old c)
    (kept : List (List StatusCounts)) (level : ℕ) (low : 0 < level) (top : level ≤ length levels)
    (place : place_above levels level core < size_below (drop level levels))
    (so_far : IsCounted levels old new kept level) where
  abbrev pub node : Node
  node = record { level = level; place = place_above levels level core }

  abbrev pub count : StatusCounts
  count = recounted (counts_at kept level (place_above levels level core)) (one_core (old core))
      (one_core (new core))

  high : level ≤ length kept
  high = omega (arith, so_far.shape.height, top)

  here : (p : ℕ) → p < size_below (drop level levels)
      → counts_at (with_counts kept node count) level p
      ≡ counts_below levels new (record { level = level; place = p })
  here p inside = elim (cases_eq p (place_above levels level core)) [
    | inl e ↦
        rw e (set_here kept level (place_above levels level core) count low high
        (omega (arith, place, so_far.shape.domains level low top))
        ∙ ap (λ (k : StatusCounts). recounted k (one_core (old core)) (one_core (new core)))
        (so_far.left level (place_above levels level core) low (omega arith) top place)
        ∙ recounted_on levels old new core there same node refl)
    | inr n ↦
        set_beside kept level (place_above levels level core) count low high p n
        ∙ so_far.left level p low (omega arith) top inside
        ∙ recounted_off levels old new core there same (record { level = level; place = p })
        (λ e. n (sym e))
  ]

  pub counted_more : IsCounted levels old new (with_counts kept node count) (level + 1)
  counted_more = record {
    shape = set_shape kept level (place_above levels level core) count low high levels
        so_far.shape;
    done = λ l p some h tall inside. elim (cases_lt l level) [
      | inl k ↦
          set_other kept level (place_above levels level core) count low high l p some
          (λ e. absurd (omega (arith, e, k))) ∙ so_far.done l p some k tall inside
      | inr k ↦
          let is : l ≡ level = omega (arith, h, k) in
          let fits : p < size_below (drop level levels) =
          subst (λ (m : ℕ). p < size_below (drop m levels)) is inside in rw is (here p fits)
    ];
    left = λ l p some h tall inside.
        set_other kept level (place_above levels level core) count low high l p some
        (λ e. absurd (omega (arith, e, h)))
        ∙ so_far.left l p some (omega (arith, h)) tall inside;
  }

-- one turn of the loop over the levels: the domain on the core's path, and what is counted of the
-- core before and after
pub record Turn (levels : List (List ℕ)) (old new : ℕ → Status) (kept : List (List StatusCounts))
    (level : ℕ) (n : Node) (had has : StatusCounts) : Type 0 where
  pub place : n.place < length (level_counts kept n.level)
  pub may : MayRecount (counts_at kept n.level n.place) had has
  pub more : (next : List (List StatusCounts))
      → next ≡ with_counts kept n (recounted (counts_at kept n.level n.place) had has)
      → IsCounted levels old new next (level + 1)

pub turn : (b : BoardValue) (old new : ℕ → Status) (core : ℕ) → PathLaws b → IsTree b.levels
    → core < cores b → ((c : ℕ) → (c ≡ core → ⊥) → new c ≡ old c)
    → (kept : List (List StatusCounts)) (level : ℕ) → 0 < level → level ≤ height b
    → IsCounted b.levels old new kept level → (n : Node)
    → n ≡ record { level = level; place = place_above b.levels level core }
    → (had has : StatusCounts) → had ≡ one_core (old core) → has ≡ one_core (new core)
    → Turn b.levels old new kept level n had has
unfolding up
turn b old new core laws tree there same kept level low top so_far n is had has before now =
    let inside : place_above b.levels level core < size_below (drop level b.levels) =
    laws.inside core level there top in
    record {
      place = rw is (omega (arith, inside, so_far.shape.domains level low top));
      may = rw (
        is,
        before,
        now,
        so_far.left level (place_above b.levels level core) low (omega arith) top inside,
      )
          (may_recount b.levels old new core there same
          (record { level = level; place = place_above b.levels level core }) tree refl);
      more = λ next e. rw (e, is, before, now)
          (counted_more b.levels old new core there same kept level low top inside so_far);
    }

-- The same statuses ------------------------------------------------------------------------------

pub same_counts : (levels : List (List ℕ)) (f g : ℕ → Status) (kept : List (List StatusCounts))
    → AreCounts levels f kept → ((c : ℕ) → g c ≡ f c) → AreCounts levels g kept
same_counts levels f g kept are h =
    let e : f ≡ g = λ i. λ c. sym (h c) i in
    subst (λ (status : ℕ → Status). AreCounts levels status kept) e are

-- the domains of a level without a count
abbrev pub blank : List StatusCounts → List StatusCounts
blank row = replicate (length row) no_cores

-- what is kept of no core is what is counted while every core is OFF
pub none_kept : (levels : List (List ℕ)) (kept : List (List StatusCounts))
    → length kept ≡ length levels
    → ((level : ℕ) → 0 < level → level ≤ length levels
    → level_counts kept level ≡ replicate (size_below (drop level levels)) no_cores)
    → AreCounts levels (λ c. Off) kept
none_kept levels kept long rows = record {
  shape = record {
    height = long;
    domains = λ level some top.
        ap length (rows level some top)
        ∙ length-replicate (size_below (drop level levels)) no_cores;
  };
  each = λ level place some top inside.
      ap (λ (row : List StatusCounts). get_or row place no_cores) (rows level some top)
      ∙ get_or-replicate (size_below (drop level levels)) place no_cores no_cores inside
      ∙ sym (none_below levels (record { level = level; place = place }));
}

pub cleared : (levels : List (List ℕ)) (kept : List (List StatusCounts)) → HasDomains levels kept
    → AreCounts levels (λ c. Off) (map blank kept)
cleared levels kept shape =
    none_kept levels (map blank kept) (length-map kept blank ∙ shape.height)
    (λ level some top.
    get_or-map blank kept (level - 1) [] [] (omega (arith, some, top, shape.height))
    ∙ ap (λ n. replicate n no_cores) (shape.domains level some top))

-- so many levels without a count, and the others as they were
abbrev pub cleared_to : ℕ → List (List StatusCounts) → List (List StatusCounts)
cleared_to n kept = map blank (take n kept) ++ drop n kept

pub cleared_more : (kept : List (List StatusCounts)) (n : ℕ) → n < length kept
    → set (cleared_to n kept) n (blank (get_or (cleared_to n kept) n []))
    ≡ cleared_to (suc n) kept
cleared_more [] n h = absurd (omega arith)
cleared_more (row ∷ kept) zero h = refl
cleared_more (row ∷ kept) (suc n) h =
    ap (λ rest. blank row ∷ rest) (cleared_more kept n (omega arith))
