-- Slots by look-up: what each change leaves in each slot, and that the slots hold what the history
-- says, looked at backwards.
use Rattle.std.specs.List.{list_any}
use Rattle.std.specs.Prelude.{◌&&◌, ◌==◌, ◌||◌, if◌then◌else◌, is_none, nat_le, nat_lt}
use Rattle.std.specs.Prelude.{option_and_then, slice_get, slice_set}
use Rattle.std.proofs.Common.{◌+◌, ◌<◌, ◌∙◌, ◌∷◌, ◌≡◌, ◌≤◌, [], add-one, ap, arith, Bool, false}
use Rattle.std.proofs.Common.{get_or, inl, inr, length, length-set, List, None, Option, refl}
use Rattle.std.proofs.Common.{replicate, Some, subst, suc, sym, true, zero, ℕ}
use Rattle.std.proofs.lemmas.Bool.{and_from, and_left, and_parts, cases_Bool, eq-eqb, eqb-true}
use Rattle.std.proofs.lemmas.Bool.{false_from_ne_true, le-leb, leb-true, lt-ltb, ltb-true}
use Rattle.std.proofs.lemmas.Bool.{ne_eqb, true≢false}
use Rattle.std.proofs.lemmas.Bool.Decides.{nat_tests}
use Rattle.std.proofs.lemmas.List.{get_or-set_other, get_or_past, length-replicate}
use Rattle.std.proofs.lemmas.Option.{none-some, option_and_then_some, same_Some}
use Rattle.psci_board.specs.declared.draft.Core.{Core}
use Rattle.psci_messages.specs.Message.{AckValue, AreClaims, is_climbing, is_falling}
use Rattle.psci_messages.specs.Message.{MessageValue, PartByPart}
use Rattle.psci_messages.specs.Outstanding.{AreChanges, changes_since, ends_message, IsChange}
use Rattle.psci_messages.specs.Outstanding.{last_message, outstanding, sent_by}
use Rattle.psci_messages.specs.Slots.{after_all, after_change, answers, Change, changed, is_done}
use Rattle.psci_messages.specs.Slots.{is_kind, is_slot, IsOfCores, left_by, message_in, Slot}
use Rattle.psci_messages.specs.Slots.{slot_of, SlotsValue, with_message}
use Rattle.psci_messages.specs.Slots.Change.{Acknowledge, Clear, ClearAll, Put}
use Rattle.psci_messages.specs.Slots.Slot.{OfCore, OfSystem}
use Rattle.psci_messages.specs.declared.kind.Kind.{Kind}
use Rattle.psci_messages.specs.declared.kind.Kind.TheVariants.{Down, Off, Reset, Start}
use Rattle.psci_messages.specs.declared.part.Part.{Part}

-- What each change leaves -------------------------------------------------------------------------

look-set : (xs : List (Option MessageValue)) (c : ℕ) (o : Option MessageValue)
    → (length xs ≤ c → o ≡ None)
    → get_or (slice_set xs c o) c None ≡ o
look-set [] c o past = sym (past (omega arith))
look-set (x ∷ xs) zero o past = refl
look-set (x ∷ xs) (suc c) o past = look-set xs c o (λ h. past (omega (arith, h)))

pub look-replicate : (n c : ℕ) → get_or (replicate {A = Option MessageValue} n None) c None ≡ None
look-replicate zero c = refl
look-replicate (suc n) zero = refl
look-replicate (suc n) (suc c) = look-replicate n c

abbrev IsKept : SlotsValue → Slot → Option MessageValue → Type 0
IsKept s (OfCore c) o = length s.cores ≤ c → o ≡ None
IsKept s OfSystem o = Unit {0}

look-with : (s : SlotsValue) (t slot : Slot) (o : Option MessageValue) → IsKept s t o
    → message_in (with_message s t o) slot ≡ (if is_slot t slot then o else message_in s slot)
look-with s (OfCore c) (OfCore d) o kept =
    grind (arith, nat_tests, eq-eqb, look-set, ne_eqb, get_or-set_other)
look-with s (OfCore c) OfSystem o kept = refl
look-with s OfSystem (OfCore d) o kept = refl
look-with s OfSystem OfSystem o kept = refl

length-with : (s : SlotsValue) (slot : Slot) (o : Option MessageValue)
    → length (with_message s slot o).cores ≡ length s.cores
length-with s (OfCore c) o = length-set s.cores c o
length-with s OfSystem o = refl

pub length-after : (s : SlotsValue) (change : Change)
    → length (after_change s change).cores ≡ length s.cores
length-after s (Put m) = length-with s (slot_of m.kind m.core) (Some m)
length-after s (Clear core) = length-with s (OfCore core.number) None
length-after s ClearAll = length-replicate (length s.cores) None
length-after s (Acknowledge a) =
    length-with s (slot_of a.kind a.core) (left_by a (message_in s (slot_of a.kind a.core)))

kept-of : (s : SlotsValue) (slot : Slot) (o : Option MessageValue)
    → IsOfCores (length s.cores) slot → IsKept s slot o
kept-of s (OfCore c) o inside = λ past. absurd (omega (arith, inside, past))
kept-of s OfSystem o inside = tt

none-kept : (s : SlotsValue) (slot : Slot) → IsKept s slot None
none-kept s (OfCore c) = λ past. refl
none-kept s OfSystem = tt

left-kept : (s : SlotsValue) (slot : Slot) (a : AckValue)
    → IsKept s slot (left_by a (message_in s slot))
left-kept s (OfCore c) a = λ past. ap (left_by a) (get_or_past s.cores c None past)
left-kept s OfSystem a = tt

same-slot : (t slot : Slot) → is_slot t slot ≡ true → t ≡ slot
same-slot (OfCore c) (OfCore d) e = ap OfCore (eqb-true c d e)
same-slot (OfCore c) OfSystem e = absurd (true≢false (sym e))
same-slot OfSystem (OfCore d) e = absurd (true≢false (sym e))
same-slot OfSystem OfSystem e = refl

pub look-after : (s : SlotsValue) (change : Change) → IsChange (length s.cores) change
    → (slot : Slot)
    → message_in (after_change s change) slot ≡ changed slot change (message_in s slot)
look-after s (Put m) inside slot = grind (arith, nat_tests, look-with, kept-of)
look-after s (Clear core) inside slot = look-with s (OfCore core.number) slot None
    (none-kept s (OfCore core.number))
look-after s ClearAll inside (OfCore c) = look-replicate (length s.cores) c
look-after s ClearAll inside OfSystem = refl
look-after s (Acknowledge a) inside slot = grind (arith, nat_tests, look-with, left-kept, same-slot)

-- What the history says ---------------------------------------------------------------------------

same-kind : (k l : Kind) → is_kind k l ≡ true → k ≡ l
same-kind Down Down e = refl
same-kind Start Start e = refl
same-kind Off Off e = refl
same-kind Reset Reset e = refl
same-kind k l e = absurd (true≢false (sym e))

slot-number : (kind : Kind) (c d : Core) → c.number ≡ d.number → slot_of kind c ≡ slot_of kind d
slot-number kind c d e = ap (λ n. slot_of kind (record { number = n })) e

-- an acknowledgement looks at the slot of the message that it is of
answered-slot : (a : AckValue) (m : MessageValue) → answers a m ≡ true
    → slot_of a.kind a.core ≡ slot_of m.kind m.core
answered-slot a m e = grind (arith, nat_tests, and_parts, slot-number, eqb-true, same-kind)

-- what stays of a message, where a change may end it and others may have
stays-of : (m : MessageValue) (a b : Bool) (f : MessageValue → Bool) → f m ≡ a
    → ◌≡◌ {A = Option MessageValue} (if a || b then None else Some m)
    (option_and_then (λ n. if f n then None else Some n) (if b then None else Some m))
stays-of m a true f e = grind arith
stays-of m a false f e = grind arith

stays-both : (o : Option MessageValue) (e r : MessageValue → Bool)
    → option_and_then (λ m. if e m || r m then None else Some m) o
    ≡ option_and_then (λ m. if e m then None else Some m)
    (option_and_then (λ m. if r m then None else Some m) o)
stays-both None e r = refl
stays-both (Some m) e r = stays-of m (e m) (r m) e refl

-- a message is in its own slot
abbrev IsOwn : Slot → MessageValue → Type 0
IsOwn slot m = is_slot (slot_of m.kind m.core) slot ≡ true

put-own : (slot : Slot) (n m : MessageValue) (t : Bool) (rest : Option MessageValue)
    → is_slot (slot_of n.kind n.core) slot ≡ t
    → (if is_none (if t then Some n else None) then rest else (if t then Some n else None)) ≡ Some m
    → (rest ≡ Some m → IsOwn slot m) → IsOwn slot m
put-own slot n m true rest own e later = subst (IsOwn slot) (same_Some n m e) own
put-own slot n m false rest own e later = later e

stays-same : (t : Bool) (m n : MessageValue) → (if t then None else Some m) ≡ Some n → m ≡ n
stays-same true m n e = absurd (none-some n e)
stays-same false m n e = same_Some m n e

last-own : (slot : Slot) (changes : List Change) (m : MessageValue)
    → last_message slot changes ≡ Some m
    → is_slot (slot_of m.kind m.core) slot ≡ true
unfolding last_message
last-own slot [] m e = absurd (none-some m e)
last-own slot (Put n ∷ changes) m e = grind (arith, nat_tests, put-own, last-own slot changes m)
last-own slot (Clear core ∷ changes) m e = last-own slot changes m e
last-own slot (ClearAll ∷ changes) m e = last-own slot changes m e
last-own slot (Acknowledge a ∷ changes) m e = last-own slot changes m e

pub outstanding-own : (slot : Slot) (changes : List Change) (m : MessageValue)
    → outstanding slot changes ≡ Some m
    → is_slot (slot_of m.kind m.core) slot ≡ true
unfolding outstanding
outstanding-own slot changes m e =
    grind (arith, nat_tests, option_and_then_some, stays-same, last-own)

step-sent : (slot : Slot) (change : Change) (changes : List Change) (m : MessageValue)
    → sent_by slot change ≡ Some m → outstanding slot (change ∷ changes) ≡ Some m
unfolding outstanding last_message changes_since
step-sent slot change changes m e = rw e refl

step-stays : (slot : Slot) (change : Change) (changes : List Change) → sent_by slot change ≡ None
    → outstanding slot (change ∷ changes)
    ≡ option_and_then (λ m. if ends_message slot m change then None else Some m)
    (outstanding slot changes)
unfolding outstanding last_message changes_since
step-stays slot change changes e =
    rw e (stays-both (last_message slot changes) (λ m. ends_message slot m change)
    (λ m. list_any (ends_message slot m) (changes_since slot changes)))

stays-all : (o : Option MessageValue) → option_and_then (λ m. Some m) o ≡ o
stays-all None = refl
stays-all (Some m) = refl

stays-none : (o : Option MessageValue) → option_and_then {U = MessageValue} (λ m. None) o ≡ None
stays-none None = refl
stays-none (Some m) = refl

stays-where : (t : Bool) (o : Option MessageValue)
    → option_and_then (λ m. if t then None else Some m) o ≡ (if t then None else o)
stays-where true o = stays-none o
stays-where false o = stays-all o

same-either : (t : Bool) (o : Option MessageValue) → o ≡ (if t then o else o)
same-either t o = grind arith

-- what an acknowledgement leaves in a slot that holds only its own messages
stays-acknowledged : (slot : Slot) (a : AckValue) (o : Option MessageValue)
    → ((m : MessageValue) → o ≡ Some m → IsOwn slot m)
    → option_and_then (λ m. if answers a m && is_done a m then None else Some m) o
    ≡ (if is_slot (slot_of a.kind a.core) slot then left_by a o else o)
stays-acknowledged slot a None own = same-either (is_slot (slot_of a.kind a.core) slot) None
stays-acknowledged slot a (Some m) own =
    grind (arith, nat_tests, false_from_ne_true, true≢false, answered-slot, and_left)

pub outstanding-step : (slot : Slot) (change : Change) (changes : List Change)
    → outstanding slot (change ∷ changes) ≡ changed slot change (outstanding slot changes)
outstanding-step slot (Put m) changes = elim (cases_Bool (is_slot (slot_of m.kind m.core) slot)) [
  | inl here ↦ step-sent slot (Put m) changes m (rw here refl) ∙ rw here refl
  | inr elsewhere ↦ step-stays slot (Put m) changes (rw elsewhere refl)
      ∙ (stays-all (outstanding slot changes) ∙ rw elsewhere refl)
]
outstanding-step slot (Clear core) changes =
    step-stays slot (Clear core) changes refl
    ∙ stays-where (is_slot (OfCore core.number) slot) (outstanding slot changes)
outstanding-step slot ClearAll changes =
    step-stays slot ClearAll changes refl ∙ stays-none (outstanding slot changes)
outstanding-step slot (Acknowledge a) changes =
    step-stays slot (Acknowledge a) changes refl
    ∙ stays-acknowledged slot a (outstanding slot changes) (outstanding-own slot changes)

length-after_all : (cores : ℕ) (changes : List Change)
    → length (after_all cores changes).cores ≡ cores
unfolding after_all
length-after_all cores [] = length-replicate cores None
length-after_all cores (change ∷ changes) = length-after (after_all cores changes) change
    ∙ length-after_all cores changes

pub look-after_all : (cores : ℕ) (changes : List Change) → AreChanges cores changes → (slot : Slot)
    → message_in (after_all cores changes) slot ≡ outstanding slot changes
unfolding after_all outstanding last_message
look-after_all cores [] are (OfCore c) = look-replicate cores c
look-after_all cores [] are OfSystem = refl
look-after_all cores (change ∷ changes) are slot =
    let here : IsChange (length (after_all cores changes).cores) change
    = subst (λ (n : ℕ). IsChange n change) (sym (length-after_all cores changes)) are.0 in
    look-after (after_all cores changes) change here slot
    ∙ (ap (changed slot change) (look-after_all cores changes are.1 slot)
    ∙ sym (outstanding-step slot change changes))

-- Part levels -------------------------------------------------------------------------------------
-- Claims part by part: levels that count up and depths that fall, what two tests say of a list of
-- parts, and what facts about each part say.

-- the level of the part of this number
pub level-of : (n : ℕ) (ps : List Part) (k : ℕ) (d : Part) → is_climbing n ps ≡ true → k < length ps
    → (get_or ps k d).level ≡ n + k
level-of n [] k d climbs h = absurd (omega arith)
level-of n (p ∷ ps) zero d climbs h = grind (arith, nat_tests, and_parts, eqb-true)
level-of n (p ∷ ps) (suc k) d climbs h =
    grind (arith, nat_tests, and_parts, level-of (n + 1) ps k d)

-- From each part to the tests.
climbing-from : (n : ℕ) (ps : List Part)
    → ((k : ℕ) (p : Part) → slice_get ps k ≡ Some p → p.level ≡ n + k) → is_climbing n ps ≡ true
climbing-from n [] each = refl
climbing-from n (p ∷ ps) each =
    and_from (p.level == n) (is_climbing (n + 1) ps)
    (eq-eqb p.level n (omega (arith, each 0 p refl)))
    (climbing-from (n + 1) ps (λ k q at. omega (arith, each (suc k) q at)))

falling-from : (most : ℕ) (ps : List Part)
    → ((k : ℕ) (p : Part) → slice_get ps k ≡ Some p → 0 < p.depth)
    → ((p : Part) → slice_get ps 0 ≡ Some p → p.depth ≤ most)
    → ((k : ℕ) (p q : Part) → slice_get ps k ≡ Some p → slice_get ps (suc k) ≡ Some q
    → q.depth ≤ p.depth)
    → is_falling most ps ≡ true
falling-from most [] some first falls = refl
falling-from most (p ∷ ps) some first falls =
    and_from (nat_lt 0 p.depth && nat_le p.depth most) (is_falling p.depth ps)
    (and_from (nat_lt 0 p.depth) (nat_le p.depth most) (lt-ltb 0 p.depth (some 0 p refl))
    (le-leb p.depth most (first p refl)))
    (falling-from p.depth ps (λ k q at. some (suc k) q at) (λ q at. falls 0 p q refl at)
    (λ k q r at next. falls (suc k) q r at next))

-- From the tests to each part.
level-at : (n : ℕ) (ps : List Part) → is_climbing n ps ≡ true
    → (k : ℕ) (p : Part) → slice_get ps k ≡ Some p → p.level ≡ n + k
level-at n [] climbs k p at = absurd (none-some p at)
level-at n (q ∷ ps) climbs zero p at = grind (arith, nat_tests, and_parts, same_Some, eqb-true)
level-at n (q ∷ ps) climbs (suc k) p at = grind (arith, nat_tests, and_parts, level-at (n + 1) ps)

-- the first depth is bounded, and the parts after it fall from there
record Falls (most : ℕ) (p : Part) (ps : List Part) : Type 0 where
  pub some : 0 < p.depth
  pub bound : p.depth ≤ most
  pub rest : is_falling p.depth ps ≡ true

falls-from : (most : ℕ) (p : Part) (ps : List Part) → is_falling most (p ∷ ps) ≡ true
    → Falls most p ps
falls-from most p ps e =
    let both = and_parts (nat_lt 0 p.depth && nat_le p.depth most) (is_falling p.depth ps) e in
    let ends = and_parts (nat_lt 0 p.depth) (nat_le p.depth most) both.0 in
    record { some = ltb-true 0 p.depth ends.0; bound = leb-true p.depth most ends.1; rest = both.1 }

depth-at : (most : ℕ) (ps : List Part) → is_falling most ps ≡ true
    → (k : ℕ) (p : Part) → slice_get ps k ≡ Some p → (0 < p.depth) × (p.depth ≤ most)
depth-at most [] falls k p at = absurd (none-some p at)
depth-at most (q ∷ ps) falls zero p at =
    let first = falls-from most q ps falls in
    let same : q.depth ≡ p.depth = ap (λ (x : Part). x.depth) (same_Some q p at) in
    (omega (arith, first.some, same), omega (arith, first.bound, same))
depth-at most (q ∷ ps) falls (suc k) p at =
    let first = falls-from most q ps falls in
    let rest = depth-at q.depth ps first.rest k p at in
    (rest.0, omega (arith, rest.1, first.bound))

falls-at : (most : ℕ) (ps : List Part) → is_falling most ps ≡ true
    → (k : ℕ) (p q : Part) → slice_get ps k ≡ Some p → slice_get ps (suc k) ≡ Some q
    → q.depth ≤ p.depth
falls-at most [] falls k p q at next = absurd (none-some p at)
falls-at most (r ∷ ps) falls zero p q at next =
    grind (arith, nat_tests, falls-from, same_Some, depth-at)
falls-at most (r ∷ ps) falls (suc k) p q at next =
    falls-at r.depth ps (falls-from most r ps falls).rest k p q at next

-- The law.
pub claim-from : (ps : List Part) → PartByPart ps → AreClaims ps
claim-from ps each = record {
  some = each.some;
  most = each.most;
  levels = climbing-from 0 ps (λ k p at. omega (arith, each.level k p at));
  depths = falling-from 3 ps each.least (λ p at. each.deepest 0 p at)
      (λ k p q at next. each.falls k p q at (rw add-one next));
}

pub part-by-part : (ps : List Part) → AreClaims ps → PartByPart ps
part-by-part ps claim = record {
  some = claim.some;
  most = claim.most;
  level = λ k p at. omega (arith, level-at 0 ps claim.levels k p at);
  least = λ k p at. (depth-at 3 ps claim.depths k p at).0;
  deepest = λ k p at. (depth-at 3 ps claim.depths k p at).1;
  falls = λ k p q at next. falls-at 3 ps claim.depths k p q at (rw add-one at next);
}
