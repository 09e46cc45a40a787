-- What a new acknowledgement says, once its message was carried out.
use Rattle.psci_headline.proofs.Words.{◌+◌, ◌-◌, ◌<◌, ◌∙◌, ◌∷◌, ◌≡◌, ◌≤◌, [], ack_of, AckLaws}
use Rattle.psci_headline.proofs.Words.{and_from, answers, ap, applied, ArePartsOf, arith}
use Rattle.psci_headline.proofs.Words.{BoardValue, Bool, cond-true, domain_of, Down, eq-eqb}
use Rattle.psci_headline.proofs.Words.{get_take, height, is_kind, is_stale, IsLivePart, IsTold}
use Rattle.psci_headline.proofs.Words.{Kind, laid, le-leb, length, List, MessageValue, nat_tests}
use Rattle.psci_headline.proofs.Words.{Part, refl, same_Some, slice_get, slice_get_within, Some}
use Rattle.psci_headline.proofs.Words.{starts_below, subst, suc, sym, take, true, zero, ℕ}
use Rattle.psci_ctl_spec.specs.Values.{Values}
use Rattle.psci_ctl_spec.specs.psci_messages.declared.kind.Kind.TheVariants.{Start}
use Rattle.psci_headline.proofs.Pursuing.{same_sum}

pub own_kind : (k : Kind) → is_kind k k ≡ true
own_kind k = grind (arith, nat_tests)

-- an acknowledgement has the name of its message
pub own_name : (m : MessageValue) (count : ℕ) (stale : Bool)
    → answers (ack_of m count stale) m ≡ true
own_name m count stale = grind (arith, nat_tests, and_from, own_kind, eq-eqb)

-- of a message that is no Down it says only that a core was started
pub told_other : (b : BoardValue) (starts : ℕ → ℕ) (depth : ℕ → ℕ → ℕ) (m : MessageValue)
    (count : ℕ) (stale : Bool) → (m.kind ≡ Down → ⊥)
    → (m.kind ≡ Start → m.number < starts m.core.number)
    → IsTold b starts depth (ack_of m count stale) m
told_other b starts depth m count stale other started = grind (arith, nat_tests, own_name)

-- the part of the next lower level of a live part is live
abbrev pub IsLiveBelow : BoardValue → (ℕ → ℕ) → MessageValue → Type 0
IsLiveBelow b starts m = (level : ℕ) (p q : Part) → slice_get m.parts level ≡ Some p
    → slice_get m.parts (level + 1) ≡ Some q → IsLivePart b starts m (level + 1) q
    → IsLivePart b starts m level p

-- A list has an item at this place.
pub record HasItem (ps : List Part) (k : ℕ) : Type 0 where
  pub item : Part
  pub at : slice_get ps k ≡ Some item

pub item_at : (ps : List Part) (k : ℕ) → k < length ps → HasItem ps k
item_at [] k low = absurd (omega arith)
item_at (p ∷ ps) zero low = record { item = p; at = refl }
item_at (p ∷ ps) (suc k) low = grind (arith, nat_tests, item_at ps k)

-- so a Down has a first part
pub first_part : (m : MessageValue) → m.kind ≡ Down → ArePartsOf m.kind m.parts
    → HasItem m.parts 0
first_part m down are = grind (arith, nat_tests, item_at)

-- so each lower part is
pub live_down : (b : BoardValue) (starts : ℕ → ℕ) (m : MessageValue) → IsLiveBelow b starts m
    → (gap level : ℕ) (p q : Part) → slice_get m.parts level ≡ Some p
    → slice_get m.parts (level + gap) ≡ Some q → IsLivePart b starts m (level + gap) q
    → IsLivePart b starts m level p
live_down b starts m below zero level p q at_p at_q live = grind (arith, nat_tests, same_Some)
live_down b starts m below (suc gap) level p q at_p at_q live =
    let next : level + suc gap ≡ (level + 1) + gap = omega arith in
    let high : level + 1 < length m.parts = grind (arith, nat_tests, slice_get_within) in
    let mid = item_at m.parts (level + 1) high in
    below level p mid.item at_p mid.at
    (live_down b starts m below gap (level + 1) mid.item q mid.at
    (subst (λ l. slice_get m.parts l ≡ Some q) next at_q)
    (subst (λ l. IsLivePart b starts m l q) next live))

-- what the acknowledgement of a Down says
pub told_down : (b : BoardValue) (v : Values) (m : MessageValue) → m.kind ≡ Down
    → ((level : ℕ) (p : Part) → slice_get m.parts level ≡ Some p
    → (p.level ≡ level) × (level ≤ height b))
    → IsLiveBelow b v.starts m → AckLaws b v m.core.number m.parts
    → let n = applied b v m.core.number m.parts in
    IsTold b v.starts (laid b m.core.number (take n m.parts) v.depth)
    (ack_of m n (is_stale b v m.core.number m.parts)) m
told_down b v m kind levels below laws = record {
  answers = own_name m n late;
  few = λ k. laws.few;
  applied = λ k level p low part live.
      grind (arith, nat_tests, and_from, le-leb, eq-eqb, get_take, cond-true);
  stale = λ k is level p high part live.
      let first = laws.stale is in
      let q : Part = first.0 in
      let lower : n + (level - n) ≡ level = omega (arith, high) in
      let q_live : IsLivePart b v.starts m n q = grind (arith, nat_tests, live_down) in
      let sum = same_sum b v.starts (domain_of b c n) in
      let flat : q.level ≡ n = (levels n q first.1).0 in
      first.2 (q_live ∙ sym sum ∙ ap (λ l. starts_below b v.starts (domain_of b c l)) (sym flat));
  started = λ k. let no : Down ≡ Start = sym kind ∙ k in absurd (cc);
}
  where
    c : ℕ
    c = m.core.number

    n : ℕ
    n = applied b v c m.parts

    late : Bool
    late = is_stale b v c m.parts
