-- What is counted over the cores below a domain, and what holds of the claims of OS-initiated mode.
use Rattle.std.proofs.Common.{◌+◌, ◌<◌, ◌∙◌, ◌≡◌, ◌≤◌, arith, Bool, false, filter, get_or, inl}
use Rattle.std.proofs.Common.{inr, length, List, refl, Some, suc, true, true≢false, zero, ℕ}
use Rattle.std.specs.Prelude.{slice_index, slice_get}
use Rattle.std.specs.List.{list_all, range_with_len}
use Rattle.std.proofs.lemmas.Bool.{cases_eq, cases_lt, eq-eqb, eqb-true}
use Rattle.std.proofs.lemmas.Option.{slice_get-get_or}
use Rattle.std.proofs.Math.Nat.{eq-zero-or-pos}
use Rattle.psci_board.specs.Board.{BoardValue, cores, up}
use Rattle.psci_state.specs.PowerState.{IsAsk}
use Rattle.psci_messages.specs.declared.part.Part.{Part}
use Rattle.psci_messages.specs.View.{PowerView, domain_of, is_all_away}
use Rattle.psci_messages.specs.Claim.{BelowLaws, off_claims, off_wish, OffLaws, own_claims}
use Rattle.psci_messages.specs.Claim.{own_wish, OwnLaws}
use Rattle.psci_messages.proofs.ClaimLaws.{claim_laws, least_ask-above, least_ask-below}
use Rattle.psci_messages.proofs.ClaimLaws.{least_ask-most}
use Rattle.std.proofs.lemmas.Bool.Decides.{nat_tests}

-- All and some of the cores below ----------------------------------------------------------------

all-pass : (p test : ℕ → Bool) (a n c : ℕ) → list_all p (filter test (range_with_len a n)) ≡ true
    → a ≤ c → c < a + n → test c ≡ true → p c ≡ true
all-pass p test a zero c e h i t = absurd (omega arith)
all-pass p test a (suc n) c e h i t = grind (arith, all-pass p test (a + 1) n c)

some-fails : (p test : ℕ → Bool) (a n : ℕ)
    → list_all p (filter test (range_with_len a n)) ≡ false
    → (c : ℕ) × (a ≤ c) × (c < a + n) × (test c ≡ true) × (p c ≡ false)
some-fails p test a zero e = absurd (true≢false e)
some-fails p test a (suc n) e = grind (arith, nat_tests, some-fails p test (a + 1) n)

pub all_off-below : (b : BoardValue) (v : PowerView) (core level c : ℕ)
    → is_all_away b v (domain_of b core level) ≡ true → c < cores b
    → up b level c ≡ up b level core → v.is_away c ≡ true
unfolding is_all_away up
all_off-below b v core level c e h at =
    all-pass v.is_away _ 0 (cores b) c e (omega arith) (omega arith) (eq-eqb _ _ at)

pub some_on-below : (b : BoardValue) (v : PowerView) (core level : ℕ)
    → is_all_away b v (domain_of b core level) ≡ false
    → (c : ℕ) × (c < cores b) × (up b level c ≡ up b level core) × (v.is_away c ≡ false)
unfolding is_all_away up
some_on-below b v core level e = grind (arith, nat_tests, some-fails, eqb-true)

-- CPU_OFF -------------------------------------------------------------------------------------

-- above the core, power-down is wanted where all is off, and nothing elsewhere
off-yes : (b : BoardValue) (v : PowerView) (core level : ℕ) → 0 < level
    → 0 < off_wish b v core level
    → is_all_away b v (domain_of b core level) ≡ true
off-yes b v core zero h i = absurd (omega arith)
off-yes b v core (suc level) h i = grind arith

off-no : (b : BoardValue) (v : PowerView) (core level : ℕ) → off_wish b v core level ≡ 0
    → is_all_away b v (domain_of b core level) ≡ false
off-no b v core zero e = absurd (omega arith)
off-no b v core (suc level) e = grind arith

off-three : (b : BoardValue) (v : PowerView) (core level : ℕ) → 0 < off_wish b v core level
    → off_wish b v core level ≡ 3
off-three b v core zero h = refl
off-three b v core (suc level) h = grind arith

off-some : (b : BoardValue) (v : PowerView) (core : ℕ) → 0 < length (off_claims b v core)
off-some b v core =
    let laws = claim_laws b v core (off_wish b v core) in
    elim (eq-zero-or-pos (length (off_claims b v core))) [
      | inl none ↦
          let ends : off_wish b v core (length (off_claims b v core)) ≡ 0 =
          laws.ends (omega (arith, none)) in
          let never = rw none at ends in
          absurd (omega arith)
      | inr some ↦ some
    ]

pub off_laws : (b : BoardValue) (v : PowerView) (core : ℕ) → OffLaws b v core
off_laws b v core =
    let laws = claim_laws b v core (off_wish b v core) in
    record {
      deep = λ l p e.
          laws.depth l p e
          ∙ off-three b v core l (omega (arith, laws.some l p e, laws.depth l p e));
      some = off-some b v core;
      off = λ l c p e h i at.
          all_off-below b v core l c
          (off-yes b v core l h (omega (arith, laws.some l p e, laws.depth l p e))) i at;
      ends = λ few. some_on-below b v core _ (off-no b v core _ (laws.ends few));
    }

-- What a core asks itself ---------------------------------------------------------------------

asks-fall : (ask : List ℕ) (low high : ℕ) → IsAsk ask → low ≤ high
    → slice_index ask high ≤ slice_index ask low
asks-fall ask low zero is h = let same : low ≡ 0 = omega arith in rw same (omega arith)
asks-fall ask low (suc high) is h = elim (cases_eq low (suc high)) [
  | inl same ↦ rw same (omega arith)
  | inr less ↦
      let next : high + 1 ≡ suc high = omega arith in
      let step = is.falls high in
      let falls = rw next at step in
      omega (arith, falls, asks-fall ask low high is (omega (arith, less)))
]

pub own_laws : (b : BoardValue) (v : PowerView) (core : ℕ) (ask : List ℕ) → IsAsk ask
    → OwnLaws b v core ask
own_laws b v core ask is =
    let claim : List Part = own_claims b v core ask in
    let laws = claim_laws b v core (own_wish ask) in
    record {
      asked = λ l h.
          let p : Part = get_or claim l (record { level = 0; depth = 0; generation = 0 }) in
          let at : slice_get claim l ≡ Some p = slice_get-get_or claim l _ h in
          omega (arith, laws.some l p at, laws.depth l p at);
      all = λ l h some. elim (cases_lt l (length claim)) [
        | inl inside ↦ inside
        | inr past ↦ absurd (omega (
          arith,
          some,
          laws.ends (omega arith),
          asks-fall ask (length claim) l is past,
        ))
      ];
      most = λ l p e. omega (arith, laws.depth l p e, asks-fall ask 0 l is (omega arith), is.most);
      falls = λ l p q e f. omega (arith, laws.depth l p e, laws.depth (l + 1) q f, is.falls l);
    }

-- The cores below a domain ------------------------------------------------------------------------

all_off : (b : BoardValue) (v : PowerView) (core level : ℕ)
    → ((c : ℕ) → c < cores b → up b level c ≡ up b level core → v.is_away c ≡ true)
    → is_all_away b v (domain_of b core level) ≡ true
all_off b v core level each = grind (arith, nat_tests, some_on-below)

pub below_laws : (b : BoardValue) (v : PowerView) (core level : ℕ) → BelowLaws b v core level
below_laws b v core level = record {
  most = least_ask-most b v core level;
  below = λ c h at. least_ask-below b v core level c h at;
  above = λ depth h each. least_ask-above b v core level depth h each;
  off = λ e c h at. all_off-below b v core level c e h at;
  all = all_off b v core level;
}
