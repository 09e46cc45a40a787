-- What a core that stops sends.
use Rattle.std.proofs.lemmas.Bool.{le-leb}
use Rattle.std.proofs.lemmas.Option.{slice_get_within}
use Rattle.psci_messages.specs.Claim.{claims_of}
use Rattle.psci_messages.specs.View.{generation}
use Rattle.psci_fw_spec.specs.PowerCalls.{off_parts, suspend_parts}
use Rattle.psci_fw_spec.specs.Invariant.{view}
use Rattle.psci_fw_laws.specs.Messages.{AreEntered, AreWithin, HasDeeper, known_below, KnownLaws}
use Rattle.psci_fw_laws.specs.Messages.{NonePending}
use Rattle.psci_fw_laws.proofs.Claiming.{part_from, part_has, updated_here}
use Rattle.psci_fw_laws.proofs.Refusing.{known_gap, known_le, known_less, known_most, known_own}
use Rattle.psci_fw_laws.proofs.Refusing.{known_rises, known_same}
use Rattle.psci_fw_laws.proofs.Words.{[], ◌+◌, ◌<◌, ◌∙◌, ◌∷◌, ◌≡◌, ◌≤◌, ◌⊎◌, activity_of, ap}
use Rattle.psci_fw_laws.proofs.Words.{AreClaims, ArePartsOf, AreRising, AreValues, arith, ask, asks}
use Rattle.psci_fw_laws.proofs.Words.{Away, BoardValue, ClaimLaws, cond-true, cond_both, cores}
use Rattle.psci_fw_laws.proofs.Words.{Down, eq-eqb, false, height, Holds, inl, inr, IsClaimOn}
use Rattle.psci_fw_laws.proofs.Words.{IsCurrent, IsNewClaim, Kind, known_on, least_wish}
use Rattle.psci_fw_laws.proofs.Words.{leaving_claims, length, List, message_for, MessageValue}
use Rattle.psci_fw_laws.proofs.Words.{nat_tests, off_wish, Ok, OsInitiated, own_wish, Part}
use Rattle.psci_fw_laws.proofs.Words.{part_for, PathLaws, Pending, Phase, Platform, platform_claims}
use Rattle.psci_fw_laws.proofs.Words.{refl, Running, slice_get, slice_index, Some, subst, suc}
use Rattle.psci_fw_laws.proofs.Words.{suspend_claims, Suspended, SuspendMode, sym, unless_pending}
use Rattle.psci_fw_laws.proofs.Words.{up, Values, with_claims, with_phase, zero, ℕ}
use Rattle.psci_board.proofs.Paths.{child_laws, path_laws, span_laws}
use Rattle.psci_board.specs.Board.{IsBoard}
use Rattle.psci_messages.proofs.History.{part-by-part}
use Rattle.psci_messages.proofs.ClaimLaws.{claim_laws, last_core_laws, platform_laws}
use Rattle.psci_messages.proofs.OsiLaws.{below_laws}

-- The parts of a claim: no more than there are levels, each of its domain's generation.
pub record AreMade (b : BoardValue) (known : ℕ → ℕ) (c : ℕ) (parts : List Part) : Type 0 where
  pub few : length parts ≤ height b + 1
  pub current : (level : ℕ) (p : Part) → slice_get parts level ≡ Some p
      → p.generation ≡ known_on b known c level

view_ask : (b : BoardValue) (v : Values) (c level : ℕ) → (view b v).ask c level ≡ ask b v c level
unfolding view
view_ask b v c level = refl

claim_made : (b : BoardValue) (v : Values) (c : ℕ) (wanted : ℕ → ℕ)
    → ClaimLaws b (view b v) c wanted → AreMade b v.known c (claims_of b (view b v) c wanted)
unfolding generation view known_below
claim_made b v c wanted board = grind (arith, nat_tests)

leaving_made : (b : BoardValue) (v : Values) (c : ℕ) (mode : SuspendMode) → IsBoard b
    → AreMade b v.known c (leaving_claims b (view b v) c mode)
leaving_made b v c Platform board =
    claim_made b v c (least_wish b (view b v) c) (claim_laws b (view b v) c _)
leaving_made b v c OsInitiated board =
    claim_made b v c (off_wish b (view b v) c) (claim_laws b (view b v) c _)

ask_most : (b : BoardValue) (v : Values) (c level : ℕ)
    → ask b v c level ≤ asks (activity_of (v.phase c)) level
ask_most b v c level = grind (arith, cond_both)

-- of a core that goes off
pub off_made : (b : BoardValue) (v : Values) (c : ℕ) → IsBoard b
    → AreMade b v.known c (off_parts b v c)
unfolding off_parts
off_made b v c board = leaving_made b (with_phase c Away v) c v.mode board

module _ {b : BoardValue} {c : ℕ} (board : IsBoard b) (on : c < cores b) (v : Values)
    (ask : List ℕ) (parts : List Part) where
  suspend_made_by : (mode : SuspendMode) → suspend_claims b v c ask mode ≡ Ok parts
      → AreMade b v.known c parts
  suspend_made_by Platform e =
      let w : Values = with_phase c (Suspended ask) v in
      let same : claims_of b (view b w) c (least_wish b (view b w) c) ≡ parts = cc in
      subst (AreMade b v.known c) same
      (claim_made b w c (least_wish b (view b w) c) (claim_laws b (view b w) c _))
  suspend_made_by OsInitiated e =
      rw
      ((last_core_laws b (view b v) c ask (path_laws b board) (child_laws b board)).parts parts e)
      (claim_made b v c (own_wish ask) (claim_laws b (view b v) c _))

  -- of a core that is suspended
  pub suspend_made : suspend_parts b v c ask ≡ Ok parts → AreMade b v.known c parts
  unfolding suspend_parts
  suspend_made e = suspend_made_by v.mode e

  -- no part is deeper than what its sender asks of the domain
  suspend_own_by : (mode : SuspendMode) → v.phase c ≡ Running
      → suspend_claims b v c ask mode ≡ Ok parts → (level : ℕ) (p : Part)
      → slice_get parts level ≡ Some p → p.depth ≤ slice_index ask level
  unfolding view
  suspend_own_by Platform runs e level p part =
      let w : Values = with_phase c (Suspended ask) v in
      let same : parts ≡ platform_claims b (view b w) c = cc in
      let at = ap (λ ps. slice_get ps level) (sym same) ∙ part in
      let low = (platform_laws b (view b w) c (path_laws b board) on).asked level c p at on refl in
      let left : w.phase c ≡ Suspended ask =
      updated_here v.phase c (unless_pending (v.phase c) (Suspended ask))
      ∙ ap (λ x. unless_pending x (Suspended ask)) runs in
      let most = ask_most b w c level in
      let asked : asks (activity_of (w.phase c)) level ≡ slice_index ask level =
      ap (λ x. asks (activity_of x) level) left in
      omega (arith, low, most, asked)
  suspend_own_by OsInitiated runs e level p part =
      let same : parts ≡ claims_of b (view b v) c (own_wish ask) =
      (last_core_laws b (view b v) c ask (path_laws b board) (child_laws b board)).parts parts e in
      let at = ap (λ ps. slice_get ps level) (sym same) ∙ part in
      let deep = (claim_laws b (view b v) c (own_wish ask)).depth level p at in
      omega (arith, deep)

  pub suspend_own : v.phase c ≡ Running → suspend_parts b v c ask ≡ Ok parts → (level : ℕ)
      (p : Part) → slice_get parts level ≡ Some p → p.depth ≤ slice_index ask level
  unfolding suspend_parts
  suspend_own runs e = suspend_own_by v.mode runs e

-- The Down that is made of them ---------------------------------------------------------------

-- no domain is granted more than a core below it asks of itself
pub granted_below : (b : BoardValue) (v : Values) (level c : ℕ) → PathLaws b → AreValues b v
    → c < cores b → level ≤ height b → v.granted level (up b level c) ≤ ask b v c 0
granted_below b v zero c paths are on high =
    omega (arith, ap (v.granted 0) (paths.core c), are.asked c on)
granted_below b v (suc level) c paths are on high =
    let next : level + 1 ≡ suc level = omega arith in
    let step = are.nested c level on (omega arith) in
    let nested = rw next at step in
    omega (arith, nested, granted_below b v level c paths are on (omega arith))

pub ask_within : (b : BoardValue) (v : Values) (c level : ℕ) → level ≤ height b
    → ask b v c level ≡ asks (activity_of (v.phase c)) level
ask_within b v c level high = grind (arith, cond-true, le-leb)

pub ask_own : (b : BoardValue) (v : Values) (c : ℕ)
    → ask b v c 0 ≡ asks (activity_of (v.phase c)) 0
ask_own b v c = ask_within b v c 0 (omega arith)

ask_running : (b : BoardValue) (v : Values) (c : ℕ) → v.phase c ≡ Running → ask b v c 0 ≡ 0
ask_running b v c runs = ask_own b v c ∙ ap (λ p. asks (activity_of p) 0) runs

-- what the parts grant
laid_at : (b : BoardValue) (v : Values) (m : MessageValue) (level place : ℕ) (p : Part)
    → place ≡ up b level m.core.number → slice_get m.parts level ≡ Some p
    → (with_claims b m v).granted level place ≡ p.depth
laid_at b v m level place p on part = grind (arith, cond-true, eq-eqb)

pub new_claim : (b : BoardValue) (v : Values) (c : ℕ) (parts : List Part) → IsBoard b
    → c < cores b → 0 < v.life → 0 < v.known c → v.known c ≤ b.starts → v.halting ≡ false
    → (v.phase c ≡ Pending → ⊥) → AreClaims parts → AreMade b v.known c parts
    → ((level : ℕ) (p : Part) → slice_get parts level ≡ Some p
    → p.depth ≤ asks (activity_of (v.phase c)) level)
    → AreValues b (with_claims b (message_for v Down c parts) v)
    → IsNewClaim b v (message_for v Down c parts)
new_claim b v c parts board on begun entered most awake rests claim made own are =
    let after : Values = with_claims b (message_for v Down c parts) v in
    let m : MessageValue = message_for v Down c parts in
    let each = part-by-part parts claim in
    let first = λ (p : Part) (e : slice_get parts 0 ≡ Some p). made.current 0 p e
    ∙ ap (known_below b v.known 0) ((path_laws b board).core c)
    ∙ known_own b v.known c (span_laws b.levels board.tree) on in
    record {
      sound = record {
        life = begun;
        core = on;
        parts = claim;
        few = made.few;
        number = most;
        room = λ s. absurd (cc);
        entered = λ d. entered;
        first = first;
        most = λ level p e. omega (
          arith,
          made.current level p e,
          known_most b v.known level (up b level c) b.starts are.known,
        );
        rises = λ level p q e f. omega (
          arith,
          made.current level p e,
          made.current (level + 1) q f,
          known_rises b v.known c level (path_laws b board),
        );
      };
      kind = refl;
      present = refl;
      number = refl;
      current = made.current;
      rests = rests;
      asked = λ p e.
          let given = laid_at b v m 0 c p (sym ((path_laws b board).core c)) e in
          sym given ∙ (are.awake awake).own c on ∙ ask_own b (with_claims b m v) c;
      quiet = λ level place p e x inside at runs.
          let has = part_has b v.life level place m p e in
          let given = laid_at b v m level place p has.on has.part in
          let low = granted_below b (with_claims b m v) level x (path_laws b board) are inside
          (within level p has.part) in
          let some = each.least level p has.part in
          let none = ask_running b (with_claims b m v) x runs in
          omega (arith, given, low, some, none, ap ((with_claims b m v).granted level) at);
      fair = record {
        own = λ level p e.
            let inside = within level p e in
            omega (arith, own level p e, ask_within b v c level inside);
        below = λ level x p e i at.
            let given = laid_at b v m level (up b level c) p refl e in
            let low = granted_below b after level x (path_laws b board) are i (within level p e) in
            omega (arith, given, low, ap (after.granted level) at);
        least = λ platform level x p e i at.
            let given = laid_at b v m level (up b level c) p refl e in
            let least = (are.awake awake).least platform c level on (within level p e) in
            let low = (below_laws b (view b after) c level).below x i at in
            omega (arith, given, least, low, view_ask b after x level);
      };
    }
  where
    within : (level : ℕ) (p : Part) → slice_get parts level ≡ Some p → level ≤ height b
    within level p e = omega (arith, slice_get_within parts level p e, made.few)

-- What follows from what is kept ------------------------------------------------------------------

-- Claims --------------------------------------------------------------------------------------

pub once : (b : BoardValue) (sent : List MessageValue) → AreRising b sent
    → (life level place j k : ℕ) (m n : MessageValue) (p q : Part) → slice_get sent j ≡ Some m
    → slice_get sent k ≡ Some n → part_for b life level place m ≡ Some p
    → part_for b life level place n ≡ Some q → p.generation ≡ q.generation → j ≡ k
once b sent apart life level place j k m n p q at_j at_k e f same =
    grind (
      arith,
      λ (less : j < k). apart.later life level place j k m n p q less at_j at_k e f,
      λ (more : k < j). apart.later life level place k j n m q p more at_k at_j f e,
    )

-- The first part of a Down.
record HasFirst (parts : List Part) : Type 0 where
  pub part : Part
  pub at : slice_get parts 0 ≡ Some part

first_of : (parts : List Part) → 0 < length parts → HasFirst parts
first_of [] some = absurd (omega arith)
first_of (p ∷ ps) some = record { part = p; at = refl }

first_part : (k : Kind) (parts : List Part) → k ≡ Down → ArePartsOf k parts → HasFirst parts
first_part k parts kind are = search (arith, first_of)

pub once_down : (b : BoardValue) (v : Values) (sent : List MessageValue) → Holds b v sent
    → (j k : ℕ) (m n : MessageValue) → slice_get sent j ≡ Some m → slice_get sent k ≡ Some n
    → m.kind ≡ Down → n.kind ≡ Down → m.core.number ≡ n.core.number → m.life ≡ n.life
    → m.number ≡ n.number → j ≡ k
once_down b v sent holds j k m n at_j at_k kind_m kind_n core life number =
    let sound_m = (holds.messages j m at_j).sound in
    let sound_n = (holds.messages k n at_k).sound in
    let p : HasFirst m.parts = first_part m.kind m.parts kind_m sound_m.parts in
    let q : HasFirst n.parts = first_part n.kind n.parts kind_n sound_n.parts in
    once b sent holds.apart m.life 0 (up b 0 m.core.number) j k m n p.part q.part at_j at_k
    (part_from b m.life 0 (up b 0 m.core.number) m p.part
    (record { kind = kind_m; present = refl; on = refl; part = p.at }))
    (part_from b m.life 0 (up b 0 m.core.number) n q.part
    (record { kind = kind_n; present = sym life; on = ap (up b 0) core; part = q.at }))
    (sound_m.first p.part p.at ∙ number ∙ sym (sound_n.first q.part q.at))

-- Granted depths ------------------------------------------------------------------------------

asks_nothing : (p : Phase) → (p ≡ Running) ⊎ (p ≡ Pending) → asks (activity_of p) 0 ≡ 0
asks_nothing p e = grind (arith, nat_tests)

pub none_active : (b : BoardValue) (v : Values) (c level : ℕ) → PathLaws b → AreValues b v
    → c < cores b → level ≤ height b → 0 < v.granted level (up b level c)
    → (v.phase c ≡ Running → ⊥) × (v.phase c ≡ Pending → ⊥)
none_active b v c level paths are on high some = grind (arith, granted_below, ask_own, asks_nothing)

-- a claim asks for a depth of 1 at least
some_depth : (b : BoardValue) (v : Values) (sent : List MessageValue) (level place : ℕ) (p : Part)
    → Holds b v sent → IsClaimOn b v.life level place p sent → 0 < p.depth
some_depth b v sent level place p holds claim = elim claim [
  | inl s ↦ let deep : p.depth ≡ 3 = ap (λ (q : Part). q.depth) s.is in omega arith
  | inr f ↦
      let has = part_has b v.life level place f.message p f.part in
      let are = (holds.messages f.index f.message f.at).sound.parts in
      let parts : AreClaims f.message.parts =
      subst (λ k. ArePartsOf k f.message.parts) has.kind are in
      (part-by-part f.message.parts parts).least level p has.part
]

pub deeper : (b : BoardValue) (v : Values) (sent : List MessageValue) (c level : ℕ) (p : Part)
    → AreValues b v → Holds b v sent → c < cores b → level < height b
    → IsClaimOn b v.life (level + 1) (up b (level + 1) c) p sent
    → IsCurrent b v.known (level + 1) (up b (level + 1) c) p
    → NonePending b v.phase (level + 1) (up b (level + 1) c)
    → HasDeeper b v.life v.known level (up b level c) p.depth sent
deeper b v sent c level p are holds on high claim current rests =
    let given = holds.grants.held (level + 1) (up b (level + 1) c) p claim current rests in
    let some = some_depth b v sent (level + 1) (up b (level + 1) c) p holds claim in
    let nested = are.nested c level on high in
    let has = holds.grants.claimed level (up b level c) (omega (arith, given, some, nested)) in
    record {
      part = has.part;
      claim = has.claim;
      current = has.current;
      deep = omega (arith, given, nested, has.deep);
    }

-- Entries -------------------------------------------------------------------------------------

pub entered : (b : BoardValue) (v : Values) (sent : List MessageValue) → AreValues b v
    → Holds b v sent → AreEntered v.known v.status v.phase
entered b v sent are holds = grind (arith, nat_tests)

-- Limits --------------------------------------------------------------------------------------

pub within : (b : BoardValue) (v : Values) (sent : List MessageValue) → AreValues b v
    → Holds b v sent → AreWithin b v.life v.known sent
within b v sent are holds = record {
  lives = holds.lives;
  starts = are.known;
  sums = λ level place. known_most b v.known level place b.starts are.known;
  number = λ k m at. (holds.messages k m at).sound.number;
  generation = λ k level m p at part. (holds.messages k m at).sound.most level p part;
}

-- Sums ----------------------------------------------------------------------------------------

pub equal_each : (b : BoardValue) (f g : ℕ → ℕ) (level place c : ℕ)
    → ((x : ℕ) → x < cores b → up b level x ≡ place → f x ≤ g x)
    → known_below b f level place ≡ known_below b g level place → c < cores b
    → up b level c ≡ place → f c ≡ g c
equal_each b f g level place c le same on at = grind (arith, nat_tests, known_less)

pub known_laws : (b : BoardValue) → IsBoard b → KnownLaws b
known_laws b board = record {
  le = known_le b;
  less = known_less b;
  each = equal_each b;
  same = known_same b;
  own = λ f c on. known_own b f c (span_laws b.levels board.tree) on;
  rises = λ f c level. known_rises b f c level (path_laws b board);
  gap = λ f g c level h. known_gap b f g c level (path_laws b board) h;
  most = known_most b;
}
