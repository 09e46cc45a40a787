-- Each way to stop wants what a stop may want of the domains on its core's path, and what a core
-- that stops sends is a claim.
use Rattle.std.proofs.Common.{get_or, length}
use Rattle.std.proofs.lemmas.Bool.{cases_lt}
use Rattle.std.proofs.lemmas.Option.{slice_get-get_or, slice_get_past}
use Rattle.std.proofs.Math.Nat.{eq-zero-or-pos}
use Rattle.psci_fw_spec.proofs.Words.{◌+◌, ◌<◌, ◌∙◌, ◌≡◌, ◌≤◌, activity_of, ap, AreClaims, arith}
use Rattle.psci_fw_spec.proofs.Words.{Away, BoardValue, claimed_or, claims_of, cores, domain_of}
use Rattle.psci_fw_spec.proofs.Words.{height, inl, inr, is_all_away, is_away, IsAsk, IsBoard}
use Rattle.psci_fw_spec.proofs.Words.{known, last_core_check, least_wish, leaving_claims, List}
use Rattle.psci_fw_spec.proofs.Words.{nat_tests, off_wish, Ok, OsInitiated, own_wish, Part}
use Rattle.psci_fw_spec.proofs.Words.{Phase, phase, Platform, PowerView, refl, slice_get, Some}
use Rattle.psci_fw_spec.proofs.Words.{subst, suc, suspend_claims, Suspended, SuspendMode, sym}
use Rattle.psci_fw_spec.proofs.Words.{true, true≢false, up, Values, with_phase, zero, ℕ}
use Rattle.psci_fw_spec.specs.Invariant.{view}
use Rattle.psci_fw_spec.proofs.Granting.{all_off, alone, apart, AreGranted, AreLaid, AreWanted}
use Rattle.psci_fw_spec.proofs.Granting.{asked-fall, asked-most, asked_away, asked_within}
use Rattle.psci_fw_spec.proofs.Granting.{asks_at, ChangedAt, IsAsking, IsLeast, joined, Known}
use Rattle.psci_fw_spec.proofs.Granting.{least_is, off_all}
use Rattle.psci_fw_spec.specs.PowerCalls.{off_parts, suspend_parts}

-- Parts ---------------------------------------------------------------------------------------

want_none : (b : BoardValue) (want : ℕ → ℕ) (low high : ℕ)
    → ((level : ℕ) → level < height b → want (level + 1) ≤ want level) → want low ≡ 0
    → low ≤ high → high ≤ height b → want high ≡ 0
want_none b want low zero falls none h i = grind arith
want_none b want low (suc high) falls none h i =
    grind (arith, falls high, want_none b want low high falls none)

-- a claim leaves what is wanted where that falls with the level, and nothing was granted before
pub claim_laid : (b : BoardValue) (w : PowerView) (granted : ℕ → ℕ → ℕ) (c : ℕ) (want : ℕ → ℕ)
    → Known b → ((level : ℕ) → level < height b → want (level + 1) ≤ want level)
    → ((level : ℕ) → level ≤ height b → granted level (up b level c) ≡ 0)
    → AreLaid b granted c (claims_of b w c want) want
claim_laid b w granted c want known falls none level i =
    let parts : List Part = claims_of b w c want in
    let laws = known.claims w c want in
    elim (cases_lt level (length parts)) [
      | inl inside ↦
          let p : Part = get_or parts level (record { level = 0; depth = 0; generation = 0 }) in
          let at : slice_get parts level ≡ Some p = slice_get-get_or parts level _ inside in
          ap (λ o. claimed_or o (granted level (up b level c))) at ∙ laws.depth level p at
      | inr past ↦
          let ends : want (length parts) ≡ 0 = laws.ends (omega (arith, i)) in
          ap (λ o. claimed_or o (granted level (up b level c))) (slice_get_past parts level past)
          ∙ none level i ∙ sym (want_none b want (length parts) level falls ends past i)
    ]

-- Platform-coordinated mode -------------------------------------------------------------------

-- the least asks of a path fall with the level, also from the path of another core that joins it
least_falls : (b : BoardValue) (phase : ℕ → Phase) (x c level m n : ℕ) → Known b
    → ((y : ℕ) → IsAsking (phase y)) → level < height b
    → up b (level + 1) x ≡ up b (level + 1) c → IsLeast b phase c (level + 1) m
    → IsLeast b phase x level n → m ≤ n
least_falls b phase x c level m n known are h meet above below =
    below.above m above.most (λ y i at. omega (
      arith,
      above.below y i (joined b y x level known.paths at ∙ meet),
      asked-fall b (phase y) level (are y) h,
    ))

-- a core that is off or going off asks for power-down
pub off_asks : (b : BoardValue) (p : Phase) (level : ℕ) → level ≤ height b
    → is_away (activity_of p) ≡ true → 3 ≤ asks_at b p level
off_asks b p level h e = grind (arith, nat_tests)

pub least_wanted : (b : BoardValue) (mode : SuspendMode) (old : ℕ → Phase) (w : Values)
    (granted : ℕ → ℕ → ℕ) (c : ℕ) → Known b → c < cores b → mode ≡ Platform
    → ChangedAt old w.phase c → ((y : ℕ) → IsAsking (w.phase y)) → AreGranted b mode old granted
    → AreWanted b mode w.phase granted c (least_wish b (view b w) c)
least_wanted b mode old w granted c known on platform changed are g =
    let want : ℕ → ℕ = least_wish b (view b w) c in
    let is : (level : ℕ) → IsLeast b w.phase c level (want level) =
    λ level. least_is b w c level known in
    record {
      falls = λ level h.
          least_falls b w.phase c c level _ _ known are h refl (is (level + 1)) (is level);
      beside = λ x level h i meet beside.
          (g.least platform x level h (omega arith)).above _ (is (level + 1)).most
          (λ y k at. omega (
            arith,
            (is (level + 1)).below y k (joined b y x level known.paths at ∙ meet),
            asked-fall b (w.phase y) level (are y) i,
            ap (λ (p : Phase). asks_at b p level) (changed y (apart b x y c level beside at)),
          ));
      own = omega (
        arith,
        (is 0).below c on refl,
        (is 0).above (asks_at b (w.phase c) 0)
            (asked-most b (w.phase c) 0 (are c) (omega arith))
            (λ x h at. omega (
              arith,
              ap (λ y. asks_at b (w.phase y) 0) (alone b x c known.paths at),
            )),
      );
      away = λ level h all. omega (
        arith,
        (is level).most,
        (is level).above 3 (omega arith)
            (λ x i at. off_asks b (w.phase x) level h (all x i at)),
      );
      least = λ m level h. is level;
    }

-- OS-initiated mode ---------------------------------------------------------------------------

not_platform : (mode : SuspendMode) → mode ≡ OsInitiated → mode ≡ Platform → ⊥
not_platform mode e f = cc

pub own_wanted : (b : BoardValue) (mode : SuspendMode) (v : Values) (new : ℕ → Phase)
    (c : ℕ) (ask : List ℕ) (parts : List Part) → Known b → c < cores b → mode ≡ OsInitiated
    → new c ≡ Suspended ask → IsAsk ask → last_core_check b (view b v) c ask ≡ Ok parts
    → AreWanted b mode new v.granted c (own_wish ask)
unfolding view
own_wanted b mode v new c ask parts known on os left is e = record {
  falls = λ level h. is.falls level;
  beside = λ x level h i meet beside.
      (known.last_core (view b v) c ask on).granted parts e level x h i meet beside;
  own = sym (ap (λ (p : Phase). asks_at b p 0) left
      ∙ asked_within b (Suspended ask) 0 (omega arith));
  away = λ level h all.
      absurd (true≢false (sym (all c on refl) ∙ ap (λ (p : Phase). is_away (activity_of p)) left));
  least = λ platform. absurd (not_platform mode os platform);
}

off-falls : (b : BoardValue) (w : PowerView) (c level : ℕ)
    → (is_all_away b w (domain_of b c (level + 1)) ≡ true
    → is_all_away b w (domain_of b c level) ≡ true)
    → off_wish b w c (level + 1) ≤ off_wish b w c level
off-falls b w c level off = grind arith

off-all : (b : BoardValue) (w : PowerView) (c level : ℕ)
    → is_all_away b w (domain_of b c level) ≡ true → off_wish b w c level ≡ 3
off-all b w c level e = grind arith

off-beside : (b : BoardValue) (w : PowerView) (c level depth : ℕ)
    → (is_all_away b w (domain_of b c (level + 1)) ≡ true → depth ≡ 3)
    → off_wish b w c (level + 1) ≤ depth
off-beside b w c level depth down = grind arith

pub off_wanted : (b : BoardValue) (mode : SuspendMode) (old : ℕ → Phase) (w : Values)
    (granted : ℕ → ℕ → ℕ) (c : ℕ) → Known b → c < cores b → mode ≡ OsInitiated
    → ChangedAt old w.phase c → w.phase c ≡ Away → AreGranted b mode old granted
    → AreWanted b mode w.phase granted c (off_wish b (view b w) c)
off_wanted b mode old w granted c known on os changed left g = record {
  falls = λ level h.
      off-falls b (view b w) c level (λ all. off_all b w c level known (λ x i at.
      all_off b w c (level + 1) known all x i (joined b x c level known.paths at)));
  beside = λ x level h i meet beside.
      let down : is_all_away b (view b w) (domain_of b c (level + 1)) ≡ true
      → granted level (up b level x) ≡ 3 =
      λ all. g.away x level h (omega arith) (λ y k at.
      subst (λ (p : Phase). is_away (activity_of p) ≡ true)
      (changed y (apart b x y c level beside at))
      (all_off b w c (level + 1) known all y k (joined b y x level known.paths at ∙ meet))) in
      off-beside b (view b w) c level _ down;
  own = sym (ap (λ (p : Phase). asks_at b p 0) left ∙ asked_away b 0 (omega arith));
  away = λ level h all. off-all b (view b w) c level (off_all b w c level known all);
  least = λ platform. absurd (not_platform mode os platform);
}

-- Claims --------------------------------------------------------------------------------------

-- a claim of which the core itself is asked something, with depths of 3 at most that fall
wanted_claim : (b : BoardValue) (w : PowerView) (c : ℕ) (want : ℕ → ℕ) → IsBoard b → Known b
    → 0 < want 0
    → ((level : ℕ) (p : Part) → slice_get (claims_of b w c want) level ≡ Some p → p.depth ≤ 3)
    → ((level : ℕ) (p q : Part) → slice_get (claims_of b w c want) level ≡ Some p
    → slice_get (claims_of b w c want) (level + 1) ≡ Some q → q.depth ≤ p.depth)
    → AreClaims (claims_of b w c want)
wanted_claim b w c want board known some most falls =
    let parts : List Part = claims_of b w c want in
    let laws = known.claims w c want in
    let first : 0 < length parts =
    elim (eq-zero-or-pos (length parts)) [
      | inl none ↦
          let ends : want (length parts) ≡ 0 = laws.ends (omega (arith, none)) in
          let never = rw none at ends in
          absurd (omega (arith, never, some))
      | inr first ↦ first
    ] in
    known.parts parts (record {
      some = first;
      most = omega (arith, laws.few, board.high);
      level = λ k p e. laws.level k p e;
      least = λ k p e. laws.some k p e;
      deepest = λ k p e. most k p e;
      falls = λ k p q e f. falls k p q e f;
    })

-- in platform-coordinated mode
least_claim : (b : BoardValue) (w : Values) (c : ℕ) → IsBoard b → Known b → c < cores b
    → ((y : ℕ) → IsAsking (w.phase y)) → 0 < asks_at b (w.phase c) 0
    → AreClaims (claims_of b (view b w) c (least_wish b (view b w) c))
unfolding view
least_claim b w c board known on are some =
    let laws = known.platform (view b w) c on in
    wanted_claim b (view b w) c (least_wish b (view b w) c) board known
    ((least_is b w c 0 known).above 1 (omega arith) (λ x h at.
    subst (λ (y : ℕ). 0 < asks_at b (w.phase y) 0) (sym (alone b x c known.paths at)) some))
    laws.most (laws.falls (record {
      falls = λ x level h i. asked-fall b (w.phase x) level (are x) i;
    }))

-- of a core that is off or going off
leaving_claimed : (b : BoardValue) (w : Values) (c : ℕ) (mode : SuspendMode) → IsBoard b → Known b
    → c < cores b → ((y : ℕ) → IsAsking (w.phase y)) → w.phase c ≡ Away
    → AreClaims (leaving_claims b (view b w) c mode)
leaving_claimed b w c Platform board known on are away =
    least_claim b w c board known on are
    (omega (arith, ap (λ (p : Phase). asks_at b p 0) away, asked_away b 0 (omega arith)))
leaving_claimed b w c OsInitiated board known on are away =
    let laws = known.off (view b w) c in
    wanted_claim b (view b w) c (off_wish b (view b w) c) board known (omega arith)
    (λ level p e. omega (arith, laws.deep level p e))
    (λ level p q e f. omega (arith, laws.deep level p e, laws.deep (level + 1) q f))

pub off_claimed : (b : BoardValue) (v : Values) (c : ℕ) → IsBoard b → Known b → c < cores b
    → ((y : ℕ) → IsAsking ((with_phase c Away v).phase y)) → (with_phase c Away v).phase c ≡ Away
    → AreClaims (off_parts b v c)
unfolding off_parts
off_claimed b v c board known on are away =
    leaving_claimed b (with_phase c Away v) c v.mode board known on are away

-- of a core that is suspended
suspend_claimed : (b : BoardValue) (v : Values) (c : ℕ) (ask : List ℕ) (parts : List Part)
    (mode : SuspendMode) → IsBoard b → Known b → c < cores b
    → ((y : ℕ) → IsAsking ((with_phase c (Suspended ask) v).phase y))
    → (with_phase c (Suspended ask) v).phase c ≡ Suspended ask → IsAsk ask
    → suspend_claims b v c ask mode ≡ Ok parts → AreClaims parts
suspend_claimed b v c ask parts Platform board known on are left is e =
    let w : Values = with_phase c (Suspended ask) v in
    let same : claims_of b (view b w) c (least_wish b (view b w) c) ≡ parts = cc e in
    subst AreClaims same (least_claim b w c board known on are (omega (
      arith,
      is.least,
      ap (λ (p : Phase). asks_at b p 0) left,
      asked_within b (Suspended ask) 0 (omega arith),
    )))
suspend_claimed b v c ask parts OsInitiated board known on are left is e =
    let laws = known.own (view b v) c ask is in
    subst AreClaims (sym ((known.last_core (view b v) c ask on).parts parts e))
    (wanted_claim b (view b v) c (own_wish ask) board known is.least laws.most laws.falls)

pub suspended_claimed : (b : BoardValue) (v : Values) (c : ℕ) (ask : List ℕ) (parts : List Part)
    → IsBoard b → Known b → c < cores b
    → ((y : ℕ) → IsAsking ((with_phase c (Suspended ask) v).phase y))
    → (with_phase c (Suspended ask) v).phase c ≡ Suspended ask → IsAsk ask
    → suspend_parts b v c ask ≡ Ok parts → AreClaims parts
unfolding suspend_parts
suspended_claimed b v c ask parts board known on are left is e =
    suspend_claimed b v c ask parts v.mode board known on are left is e
