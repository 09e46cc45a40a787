-- No claim is above the known starts below its domain; claims of one domain stay apart, and below a
-- current one no core runs.
use Rattle.psci_fw_spec.specs.NodeHwState.{node_hw}
use Rattle.psci_fw_spec.specs.declared.hw.Hw.TheVariants.{Off, On, Standby}
use Rattle.psci_fw_spec.specs.psci_abi.declared.registers.Format.TheVariants.{Original}
use Rattle.psci_fw_laws.specs.Messages.{IsCarriedOut}
use Rattle.psci_fw_laws.proofs.Refusing.{known_less, known_same}
use Rattle.psci_fw_laws.proofs.Words.{◌<◌, ◌∙◌, ◌∷◌, ◌≡◌, ◌≤◌, ◌⊎◌, [], AckValue, and_from, ap}
use Rattle.psci_fw_laws.proofs.Words.{AreQuiet, AreRising, AreSent, arith, BoardValue, Bool}
use Rattle.psci_fw_laws.proofs.Words.{cases_eq, confirms_on, cores, Down, eq-eqb, eqb-false}
use Rattle.psci_fw_laws.proofs.Words.{eqb-true, false, first_phase, inl, inr, is_kind, IsClaimOn}
use Rattle.psci_fw_laws.proofs.Words.{IsFromMessage, Kind, known_below, known_on, List, lt-ltb}
use Rattle.psci_fw_laws.proofs.Words.{MessageValue, nat_tests, Node, Part, part_for, Phase, refl}
use Rattle.psci_fw_laws.proofs.Words.{Running, slice_get, Some, subst, suc, sym, true, up}
use Rattle.psci_fw_laws.proofs.Words.{updated, Values, with_acknowledgement, zero, ℕ}

-- Worked examples speak of this board, and of messages so -----------------------------------------

-- two clusters of two cores
abbrev pub board : BoardValue
board = record {
  levels = (2 ∷ 2 ∷ []) ∷ (2 ∷ []) ∷ [];
  ranges = record { start = 0x40000000; end = 0x40100000 } ∷ [];
  boot = 0x40000000;
  starts = 1000;
  lives = 3;
  format = Original;
}

-- a message: kind, core, life, number, parts
abbrev pub message : Kind → ℕ → ℕ → ℕ → List Part → MessageValue
message kind c life number parts = record {
  kind = kind;
  core = record { number = c };
  life = life;
  number = number;
  parts = parts;
}

-- a part: level, depth, generation
abbrev pub part : ℕ → ℕ → ℕ → Part
part level depth generation = record { level = level; depth = depth; generation = generation }

-- Which messages claim something of a domain ------------------------------------------------------

-- A function updated at one core ---------------------------------------------------------------

pub updated_at : {A : Type 0} (P : A → Type 0) (f : ℕ → A) (c : ℕ) (x : A) (k : ℕ)
    → (k ≡ c → P x) → ((k ≡ c → ⊥) → P (f k)) → P (updated f c x k)
updated_at P f c x k here there = grind (arith, nat_tests, eqb-false, eqb-true)

pub updated_here : {A : Type 0} (f : ℕ → A) (c : ℕ) (x : A) → updated f c x c ≡ x
updated_here f c x = updated_at (λ y. y ≡ x) f c x c (λ e. refl) (λ e. absurd (e refl))

pub updated_there : {A : Type 0} (f : ℕ → A) (c : ℕ) (x : A) (k : ℕ) → (k ≡ c → ⊥)
    → updated f c x k ≡ f k
updated_there f c x k ne = updated_at (λ y. y ≡ f k) f c x k (λ e. absurd (ne e)) (λ e. refl)

-- Parts ---------------------------------------------------------------------------------------

pub kind_is : (k : Kind) → is_kind k Down ≡ true → k ≡ Down
kind_is k e = grind (arith, nat_tests)

-- What it means that a message has a part for a domain.
pub record HasPart (b : BoardValue) (life level place : ℕ) (m : MessageValue) (p : Part)
    : Type 0 where
  pub kind : m.kind ≡ Down
  pub present : m.life ≡ life
  pub on : place ≡ up b level m.core.number
  pub part : slice_get m.parts level ≡ Some p

pub part_has : (b : BoardValue) (life level place : ℕ) (m : MessageValue) (p : Part)
    → part_for b life level place m ≡ Some p → HasPart b life level place m p
part_has b life level place m p e = search (arith, nat_tests, kind_is)

pub part_from : (b : BoardValue) (life level place : ℕ) (m : MessageValue) (p : Part)
    → HasPart b life level place m p → part_for b life level place m ≡ Some p
part_from b life level place m p h = grind (arith, nat_tests)

-- Claims --------------------------------------------------------------------------------------

-- one more message
pub claim_new : (b : BoardValue) (life level place : ℕ) (p : Part) (m : MessageValue)
    (sent : List MessageValue) → part_for b life level place m ≡ Some p
    → IsClaimOn b life level place p (m ∷ sent)
claim_new b life level place p m sent e = grind (arith, nat_tests)

pub claim_old : (b : BoardValue) (life level place : ℕ) (p : Part) (m : MessageValue)
    (sent : List MessageValue) → IsClaimOn b life level place p sent
    → IsClaimOn b life level place p (m ∷ sent)
claim_old b life level place p m sent claim = elim claim [
  | inl s ↦ inl s
  | inr f ↦ inr (record { index = suc f.index; message = f.message; at = f.at; part = f.part })
]

from_more : (b : BoardValue) (life level place : ℕ) (p : Part) (m n : MessageValue)
    (sent : List MessageValue) (k : ℕ) → slice_get (m ∷ sent) k ≡ Some n
    → part_for b life level place n ≡ Some p
    → (part_for b life level place m ≡ Some p) ⊎ IsFromMessage b life level place p sent
from_more b life level place p m n sent k at e = grind (arith, nat_tests)

pub claim_more : (b : BoardValue) (life level place : ℕ) (p : Part) (m : MessageValue)
    (sent : List MessageValue) → IsClaimOn b life level place p (m ∷ sent)
    → (part_for b life level place m ≡ Some p) ⊎ IsClaimOn b life level place p sent
claim_more b life level place p m sent claim = grind (arith, nat_tests, from_more)

-- a message that is no Down claims nothing
pub no_part : (b : BoardValue) (life level place : ℕ) (p : Part) (m : MessageValue)
    → is_kind m.kind Down ≡ false → part_for b life level place m ≡ Some p → ⊥
no_part b life level place p m other e = grind (arith, nat_tests, part_has)

pub claim_before : (b : BoardValue) (life level place : ℕ) (p : Part) (m : MessageValue)
    (sent : List MessageValue) → is_kind m.kind Down ≡ false
    → IsClaimOn b life level place p (m ∷ sent) → IsClaimOn b life level place p sent
claim_before b life level place p m sent other claim = grind (arith, nat_tests, claim_more, no_part)

-- Claiming ----------------------------------------------------------------------------------------

-- No claim is above the known starts --------------------------------------------------------------

-- no claim on the path of a core is current
abbrev pub NoneCurrent : BoardValue → ℕ → (ℕ → ℕ) → List MessageValue → ℕ → Type 0
NoneCurrent b life known sent c =
    (level place : ℕ) (p : Part) → place ≡ up b level c → IsClaimOn b life level place p sent
    → p.generation < known_below b known level place

module _ {b : BoardValue} {life : ℕ} {halting : Bool} {known : ℕ → ℕ} {phase : ℕ → Phase}
    (sent : List MessageValue) (are : AreSent b life halting known phase sent) where
  from_older : {level place : ℕ} {p : Part} → IsFromMessage b life level place p sent
      → p.generation ≤ known_below b known level place
  from_older {level} {place} {p} f =
      let has = part_has b life level place f.message p f.part in
      let present = (are f.index f.message f.at).present has.present in
      subst (λ x. p.generation ≤ known_below b known level x) (sym has.on)
      (present.older level p has.part)

  pub claim_older : {level place : ℕ} {p : Part} → IsClaimOn b life level place p sent
      → p.generation ≤ known_below b known level place
  claim_older {p = p} claim = elim claim [
    | inl s ↦ let zero : p.generation ≡ 0 = ap (λ (q : Part). q.generation) s.is in omega arith
    | inr f ↦ from_older f
  ]

  -- on the path of a core that runs none is
  pub none_running : (c : ℕ) → AreQuiet b life known phase sent → c < cores b → phase c ≡ Running
      → NoneCurrent b life known sent c
  none_running c quiet on runs level place p at claim =
      let low = claim_older claim in
      let other : p.generation ≡ known_below b known level place → ⊥ =
      λ e. quiet level place p claim e c on (sym at) runs in
      omega (arith, low, other)

  -- nor on that of a core that has entered by a later start
  pub none_arrived : (c n : ℕ) → c < cores b → known c < n
      → NoneCurrent b life (updated known c n) sent c
  none_arrived c n on later level place p at claim =
      let low = claim_older claim in
      let here : known c < updated known c n c = omega (arith, updated_here known c n) in
      let more : known_below b known level place < known_below b (updated known c n) level place =
      known_less b known (updated known c n) level place c
      (λ k i e. updated_at (λ x. known k ≤ x) known c n k (λ s. omega (arith, ap known s))
      (λ s. omega arith)) on (sym at) here in
      omega arith

-- off its path nothing is known anew
pub known_beside : (b : BoardValue) (known : ℕ → ℕ) (c n level place : ℕ)
    → (place ≡ up b level c → ⊥)
    → known_below b (updated known c n) level place ≡ known_below b known level place
known_beside b known c n level place off = grind (arith, known_same, updated_there)

-- A Down of a core, made beside these known starts.
pub record IsNewDown (b : BoardValue) (life : ℕ) (known : ℕ → ℕ) (c : ℕ) (m : MessageValue)
    : Type 0 where
  pub present : m.life ≡ life
  pub core : m.core.number ≡ c
  pub current : (level : ℕ) (p : Part) → slice_get m.parts level ≡ Some p
      → p.generation ≡ known_on b known c level

-- Apart ---------------------------------------------------------------------------------------

-- A message whose claims are above all older ones.
pub record IsAbove (b : BoardValue) (sent : List MessageValue) (m : MessageValue) : Type 0 where
  pub later : (life level place : ℕ) (p q : Part) → part_for b life level place m ≡ Some p
      → IsFromMessage b life level place q sent → q.generation < p.generation
  pub start : (life level place : ℕ) (p : Part) → part_for b life level place m ≡ Some p
      → 0 < p.generation

apart_later : (b : BoardValue) (sent : List MessageValue) (x : MessageValue) → IsAbove b sent x
    → AreRising b sent → (life level place j k : ℕ) (m n : MessageValue) (p q : Part) → j < k
    → slice_get (x ∷ sent) j ≡ Some m → slice_get (x ∷ sent) k ≡ Some n
    → part_for b life level place m ≡ Some p → part_for b life level place n ≡ Some q
    → q.generation < p.generation
apart_later b sent x above are life level place zero zero m n p q h i j e f = absurd (omega arith)
apart_later b sent x above are life level place (suc j) zero m n p q h i g e f =
    absurd (omega arith)
apart_later b sent x above are life level place zero (suc k) m n p q h i j e f =
    let same : m ≡ x = cc in
    above.later life level place p q (subst (λ y. part_for b life level place y ≡ Some p) same e)
    (record { index = k; message = n; at = j; part = f })
apart_later b sent x above are life level place (suc j) (suc k) m n p q h i g e f =
    are.later life level place j k m n p q (omega arith) i g e f

pub apart_new : {b : BoardValue} {sent : List MessageValue} {m : MessageValue} → IsAbove b sent m
    → AreRising b sent → AreRising b (m ∷ sent)
apart_new {b} {sent} {m} above are = grind (arith, nat_tests, apart_later)

pub apart_none : {b : BoardValue} → AreRising b []
apart_none = grind (arith, nat_tests)

-- a message that is no Down
pub above_other : {b : BoardValue} {sent : List MessageValue} {m : MessageValue}
    → is_kind m.kind Down ≡ false → IsAbove b sent m
above_other {b} {m = m} other = grind (arith, nat_tests, no_part)

-- a new Down of a core on whose path no claim is current
pub above_down : {b : BoardValue} {life : ℕ} {known : ℕ → ℕ} {sent : List MessageValue} {c : ℕ}
    {m : MessageValue} → c < cores b → 0 < known c → IsNewDown b life known c m
    → NoneCurrent b life known sent c → IsAbove b sent m
above_down {b} {life} {known} {sent} {c} {m} on entered new none = record {
  later = λ l level place p q e f.
      let has = part_has b l level place m p e in
      let here : place ≡ up b level c = has.on ∙ ap (up b level) new.core in
      let sum : p.generation ≡ known_below b known level place =
      new.current level p has.part ∙ ap (known_below b known level) (sym here) in
      let same : l ≡ life = sym has.present ∙ new.present in
      let low = none level place q here
      (inr (subst (λ x. IsFromMessage b x level place q sent) same f)) in
      omega arith;
  start = λ l level place p e.
      let has = part_has b l level place m p e in
      let sum = new.current level p has.part in
      let some = known_less b (λ x. 0) known level (up b level c) c (λ x i t. omega arith) on refl
      entered in
      omega (arith, sum, some);
}

-- Quiet ---------------------------------------------------------------------------------------

module _ {b : BoardValue} {life : ℕ} (known : ℕ → ℕ) {phase : ℕ → Phase} {sent : List MessageValue}
    (quiet : AreQuiet b life known phase sent) where
  -- one more message
  pub quiet_new : (m : MessageValue)
      → ((level place : ℕ) (p : Part) → part_for b life level place m ≡ Some p → (c : ℕ)
      → c < cores b → up b level c ≡ place → phase c ≡ Running → ⊥)
      → AreQuiet b life known phase (m ∷ sent)
  quiet_new m here level place p claim =
      elim (claim_more b life level place p m sent claim) [
        | inl new ↦ λ e. here level place p new
        | inr old ↦ quiet level place p old
      ]

  pub quiet_other : (m : MessageValue) → is_kind m.kind Down ≡ false
      → AreQuiet b life known phase (m ∷ sent)
  quiet_other m other = search (arith, quiet_new, no_part)

  -- one core is of another phase: it does not run, or no claim on its path is current
  pub quiet_phase : (c : ℕ) (new : Phase) → (new ≡ Running → NoneCurrent b life known sent c)
      → AreQuiet b life known (updated phase c new) sent
  quiet_phase c new none level place p claim current x on at =
      updated_at (λ y. y ≡ Running → ⊥) phase c new x
      (λ here runs.
      let low = none runs level place p (sym at ∙ ap (up b level) here) claim in
      omega (arith, low, current)) (λ there. quiet level place p claim current x on at)

  -- a core has entered by a later start
  pub quiet_arrival : {halting : Bool} (c n : ℕ) → AreSent b life halting known phase sent
      → c < cores b → known c < n → AreQuiet b life (updated known c n) phase sent
  quiet_arrival c n are on later level place p claim current =
      elim (cases_eq place (up b level c)) [
        | inl here ↦
            let low = none_arrived _ are c n on later level place p here claim in
            absurd (omega (arith, low, current))
        | inr there ↦
            let same = known_beside b known c n level place there in
            quiet level place p claim (current ∙ same)
      ]

first_rests : (c : ℕ) → first_phase c ≡ Running → ⊥
first_rests c = grind (arith, updated_at)

pub quiet_life : {b : BoardValue} {life : ℕ} (known : ℕ → ℕ) {sent : List MessageValue}
    → AreQuiet b life known first_phase sent
quiet_life known level place p claim current c on at = first_rests c

-- What an acknowledgement confirms, exactly, and what NODE_HW_STATE says then ---------------------

-- What is carried out -------------------------------------------------------------------------

module _ (b : BoardValue) (v : Values) (a : AckValue) (level place : ℕ) where
  carried_by : confirms_on b v a level place ≡ true → IsCarriedOut b v a level place
  carried_by e = search (arith, nat_tests, kind_is)

  pub confirmed_only : (with_acknowledgement b a v).confirmed level place ≡ true
      → (v.confirmed level place ≡ true) ⊎ IsCarriedOut b v a level place
  confirmed_only e = grind (arith, level, carried_by)

  pub confirmed_where : (v.confirmed level place ≡ true) ⊎ IsCarriedOut b v a level place
      → (with_acknowledgement b a v).confirmed level place ≡ true
  confirmed_where how = grind (arith, level, and_from, lt-ltb, eq-eqb)

-- What is said --------------------------------------------------------------------------------

pub says_off : (v : Values) (n : Node) → v.confirmed n.level n.place ≡ true
    → v.granted n.level n.place ≡ 3 → node_hw v n ≡ Off
says_off v n e f = grind arith

pub says_standby : (v : Values) (n : Node) → v.confirmed n.level n.place ≡ true
    → 0 < v.granted n.level n.place → v.granted n.level n.place < 3 → node_hw v n ≡ Standby
says_standby v n e some low = grind arith

pub says_on : (v : Values) (n : Node) → v.granted n.level n.place ≡ 0 → node_hw v n ≡ On
says_on v n e = grind arith

pub unconfirmed_on : (v : Values) (n : Node) → v.confirmed n.level n.place ≡ false
    → node_hw v n ≡ On
unconfirmed_on v n e = grind arith

pub says_alike : (v w : Values) (n m : Node)
    → v.confirmed n.level n.place ≡ w.confirmed m.level m.place
    → v.granted n.level n.place ≡ w.granted m.level m.place → node_hw v n ≡ node_hw w m
says_alike v w n m e f = grind arith
