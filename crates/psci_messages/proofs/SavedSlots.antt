-- Words of slots, slot by slot.
use Rattle.std.proofs.Common.{◌&&◌, ◌*◌, ◌++◌, ◌+◌, ◌-◌, ◌<◌, ◌==◌, ◌^◌, ◌∙◌, ◌∷◌, ◌≡◌, ◌≤◌, []}
use Rattle.std.proofs.Common.{ap, append_assoc, arith, Bool, drop, false, flat_map, get_or, inl}
use Rattle.std.proofs.Common.{inr, length, List, None, Option, refl, set, suc, sym, take, true}
use Rattle.std.proofs.Common.{zero, ℕ}
use Rattle.std.proofs.lemmas.Bool.{and_parts, eqb-true, false≢true, leb-true, ltb-true, or_cases}
use Rattle.std.proofs.lemmas.Grind.{flat_map-append}
use Rattle.std.proofs.lemmas.List.{append-nil, length-append, take-append-drop, take_all}
use Rattle.std.proofs.lemmas.List.{take_more, take_more_set}
use Rattle.std.proofs.lemmas.List.Concat.{flat_map-cons}
use Rattle.psci_messages.specs.Message.{ArePartsOf, MessageValue}
use Rattle.psci_messages.specs.Saved.{are_parts, are_parts_of, are_slots, AreOfMessage, is_empty}
use Rattle.psci_messages.specs.Saved.{is_message, is_part, is_slot, kind_number, kind_of}
use Rattle.psci_messages.specs.Saved.{part_words, parts_from, slot_words, slots_words}
use Rattle.psci_messages.specs.Slots.{SlotsValue}
use Rattle.psci_messages.specs.declared.kind.Kind.TheVariants as kinds
use Rattle.psci_messages.specs.declared.part.Part.{Part}
use Rattle.psci_messages.proofs.SavedLaws.{climbing, falling, few_parts, IsPair, many_words}
use Rattle.psci_messages.proofs.SavedLaws.{no_parts, one_part, pair, parts_back, some_parts}
use Rattle.psci_messages.proofs.SavedLaws.{weaker}

-- The words of a message and of a slot, taken apart -----------------------------------------------

-- Messages -----------------------------------------------------------------------------------

-- what the words of parts say of a kind
pub record AreOfKind (kind : ℕ) (ws : List ℕ) : Type 0 where
  pub count : length ws ≡ 8
  pub deep : are_parts 3 ws ≡ true
  pub words : part_words 4 (parts_from 0 ws) ≡ ws
  pub number : kind_number (kind_of kind) ≡ kind
  pub parts : ArePartsOf (kind_of kind) (parts_from 0 ws)

claims : (ws : List ℕ) → length ws ≡ 8 → are_parts 3 ws ≡ true → 0 < get_or ws 0 0
    → ArePartsOf kinds.Down (parts_from 0 ws)
claims ws c h s = record {
  some = some_parts ws c s;
  most = few_parts 0 4 ws (omega (arith, c));
  levels = climbing 0 ws;
  depths = falling 0 3 ws h;
}

record AreNone (ws : List ℕ) : Type 0 where
  count : length ws ≡ 8
  deep : are_parts 3 ws ≡ true
  words : part_words 4 (parts_from 0 ws) ≡ ws
  none : parts_from 0 ws ≡ []

no_claims : (ws : List ℕ) → (length ws == 8 && are_parts 0 ws) ≡ true → AreNone ws
no_claims ws h =
    let both = and_parts _ _ h in
    let count = eqb-true (length ws) 8 both.0 in
    record {
      count = count;
      deep = weaker 0 3 ws (omega arith) both.1;
      words = parts_back 4 0 0 ws (omega (arith, count)) both.1;
      none = no_parts 0 ws both.1;
    }

pub of_kind : (kind : ℕ) (ws : List ℕ) → 0 < kind → kind ≤ 4 → are_parts_of kind ws ≡ true
    → AreOfKind kind ws
of_kind zero ws low high h = absurd (omega (arith, low))
of_kind (suc zero) ws low high h =
    let both = and_parts _ _ h in
    let count = eqb-true _ _ both.0 in
    let more = and_parts _ _ both.1 in
    record {
      count = count;
      deep = more.0;
      words = parts_back 4 0 3 ws (omega (arith, count)) more.0;
      number = refl;
      parts = claims ws count more.0 (ltb-true 0 _ more.1);
    }
of_kind (suc (suc zero)) ws low high h =
    let is = no_claims ws h in
    record { count = is.count; deep = is.deep; words = is.words; number = refl; parts = is.none }
of_kind (suc (suc (suc zero))) ws low high h =
    let is = no_claims ws h in
    record { count = is.count; deep = is.deep; words = is.words; number = refl; parts = is.none }
of_kind (suc (suc (suc (suc zero)))) ws low high h =
    let is = no_claims ws h in
    record { count = is.count; deep = is.deep; words = is.words; number = refl; parts = is.none }
of_kind (suc (suc (suc (suc (suc n))))) ws low high h = absurd (omega (arith, high))

-- words of a slot that begin with a kind are those of a message
pub of_message : (k c l n : ℕ) (ws : List ℕ) → is_slot (k ∷ c ∷ l ∷ n ∷ ws) ≡ true → (k ≡ 0 → ⊥)
    → AreOfMessage k c l n ws
of_message k c l n ws h some =
    elim (or_cases (is_empty (k ∷ c ∷ l ∷ n ∷ ws)) (is_message (k ∷ c ∷ l ∷ n ∷ ws)) h) [
      | inl e ↦ absurd (some (eqb-true k 0 (and_parts _ _ (and_parts _ _ e).1).0))
      | inr e ↦
          let both = and_parts _ _ e in
          let kind = and_parts _ _ both.0 in
          let more = and_parts _ _ both.1 in
          let numbers = and_parts _ _ more.0 in
          let counted = and_parts _ _ numbers.1 in
          record {
            least = ltb-true 0 k kind.0;
            most = leb-true k 4 kind.1;
            core = ltb-true c 256 numbers.0;
            life = ltb-true l (2 ^ 32) counted.0;
            number = ltb-true n (2 ^ 32) counted.1;
            parts = more.1;
          }
    ]

-- a slot has 12 words
pub slot_long : (ws : List ℕ) → is_slot ws ≡ true → length ws ≡ 12
slot_long ws h = elim (or_cases (is_empty ws) (is_message ws) h) [
  | inl e ↦ eqb-true (length ws) 12 (and_parts _ _ e).0
  | inr e ↦ message_long ws e
]
  where
    message_long : (ws : List ℕ) → is_message ws ≡ true → length ws ≡ 12
    message_long [] e = absurd (false≢true e)
    message_long (k ∷ []) e = absurd (false≢true e)
    message_long (k ∷ c ∷ []) e = absurd (false≢true e)
    message_long (k ∷ c ∷ l ∷ []) e = absurd (false≢true e)
    message_long (k ∷ c ∷ l ∷ n ∷ ws) e = omega (
      arith,
      eqb-true (length ws) 8 (and_parts _ _ (and_parts _ _ (and_parts _ _ e).1).1).0,
    )

-- The first words of a slice, and what they say of the rest ---------------------------------------

-- the words behind the first two, and behind the first four
abbrev pub after_two : List ℕ → List ℕ
after_two ws = take (length ws - 2) (drop 2 ws)

abbrev pub after_four : List ℕ → List ℕ
after_four ws = take (length ws - 4) (drop 4 ws)

pub two_first : (ws : List ℕ) → 2 ≤ length ws → get_or ws 0 0 ∷ get_or ws 1 0 ∷ after_two ws ≡ ws
two_first [] h = absurd (omega (arith, h))
two_first (a ∷ []) h = absurd (omega (arith, h))
two_first (a ∷ b ∷ ws) h =
    ap (λ xs. a ∷ b ∷ xs) (take_all (length (a ∷ b ∷ ws) - 2) ws (omega arith))

pub four_first : (ws : List ℕ) → 4 ≤ length ws
    → get_or ws 0 0 ∷ get_or ws 1 0 ∷ get_or ws 2 0 ∷ get_or ws 3 0 ∷ after_four ws ≡ ws
four_first [] h = absurd (omega (arith, h))
four_first (a ∷ []) h = absurd (omega (arith, h))
four_first (a ∷ b ∷ []) h = absurd (omega (arith, h))
four_first (a ∷ b ∷ c ∷ []) h = absurd (omega (arith, h))
four_first (a ∷ b ∷ c ∷ d ∷ ws) h =
    ap (λ xs. a ∷ b ∷ c ∷ d ∷ xs) (take_all (length (a ∷ b ∷ c ∷ d ∷ ws) - 4) ws (omega arith))

-- Parts --------------------------------------------------------------------------------------

pub parts_by : (most : ℕ) (ws : List ℕ) → 2 ≤ length ws
    → are_parts most ws
    ≡ (is_part most (get_or ws 0 0) (get_or ws 1 0) && are_parts (get_or ws 0 0) (after_two ws))
parts_by most ws h = ap (λ xs. are_parts most xs) (sym (two_first ws h))

pub rest_long : (ws : List ℕ) → 2 ≤ length ws → length (after_two ws) + 2 ≡ length ws
rest_long ws h =
    let is : length (get_or ws 0 0 ∷ get_or ws 1 0 ∷ after_two ws) ≡ length ws =
    ap (λ (xs : List ℕ). length xs) (two_first ws h) in
    omega (arith, is)

pub pair_at : (most : ℕ) (ws : List ℕ) → 2 ≤ length ws → are_parts most ws ≡ true
    → IsPair most (get_or ws 0 0) (get_or ws 1 0) (after_two ws)
pair_at most ws h is =
    pair most (get_or ws 0 0) (get_or ws 1 0) (after_two ws)
    (ap (λ xs. are_parts most xs) (two_first ws h) ∙ is)

pub pushed_long : (ps qs : List Part) (p : Part) → qs ≡ ps ++ p ∷ [] → length qs ≡ length ps + 1
pushed_long ps qs p e = ap (λ (xs : List Part). length xs) e ∙ length-append ps (p ∷ [])

-- a part is added, and then those behind it
pub parts_added : (ps qs new : List Part) (ws : List ℕ) → 2 ≤ length ws
    → (get_or ws 0 0 ≡ 0 → ⊥)
    → qs ≡ ps ++ record {
      level = length ps;
      depth = get_or ws 0 0;
      generation = get_or ws 1 0;
    } ∷ []
    → new ≡ qs ++ parts_from (length qs) (after_two ws)
    → new ≡ ps ++ parts_from (length ps) ws
parts_added ps qs new ws h some first rest =
    let part : Part = record {
      level = length ps;
      depth = get_or ws 0 0;
      generation = get_or ws 1 0;
    } in
    let long : length qs ≡ length ps + 1 =
    ap (λ (xs : List Part). length xs) first ∙ length-append ps (part ∷ []) in
    rest
    ∙ ap (λ n. qs ++ parts_from n (after_two ws)) long
    ∙ ap (λ xs. xs ++ parts_from (length ps + 1) (after_two ws)) first
    ∙ append_assoc ps (part ∷ []) (parts_from (length ps + 1) (after_two ws))
    ∙ ap (λ xs. ps ++ xs)
    (sym (one_part (length ps) (get_or ws 0 0) (get_or ws 1 0) (after_two ws) some)
    ∙ ap (λ xs. parts_from (length ps) xs) (two_first ws h))

-- Messages -----------------------------------------------------------------------------------

pub of_message_at : (ws : List ℕ) → is_slot ws ≡ true → 4 ≤ length ws → (get_or ws 0 0 ≡ 0 → ⊥)
    → AreOfMessage (get_or ws 0 0) (get_or ws 1 0) (get_or ws 2 0) (get_or ws 3 0)
    (after_four ws)
of_message_at ws is h some =
    of_message (get_or ws 0 0) (get_or ws 1 0) (get_or ws 2 0) (get_or ws 3 0) (after_four ws)
    (ap is_slot (four_first ws h) ∙ is) some

-- Saved slots -------------------------------------------------------------------------------------

-- one slot is looked at, and so many are left
pub more_slots : (m count : ℕ) (rest words own others : List ℕ) → own ≡ take 12 rest
    → others ≡ drop 12 rest → is_slot own ≡ true
    → are_slots (suc m) rest ≡ are_slots count words → are_slots m others ≡ are_slots count words
more_slots m count rest words own others front back is e =
    ap (λ xs. are_slots m xs) back
    ∙ sym (ap (λ b. b && are_slots m (drop 12 rest)) (ap is_slot (sym front) ∙ is))
    ∙ e

-- it is none
pub no_slot : (m count : ℕ) (rest words own : List ℕ) → own ≡ take 12 rest → is_slot own ≡ false
    → are_slots (suc m) rest ≡ are_slots count words → false ≡ are_slots count words
no_slot m count rest words own front is e =
    sym (ap (λ b. b && are_slots m (drop 12 rest)) (ap is_slot (sym front) ∙ is)) ∙ e

no_true : (b : Bool) → (b ≡ true → ⊥) → b ≡ false
no_true true h = absurd (h refl)
no_true false h = refl

-- the words end within it
pub short_slot : (m count : ℕ) (rest words : List ℕ) → length rest < 12
    → are_slots (suc m) rest ≡ are_slots count words → false ≡ are_slots count words
short_slot m count rest words short e =
    sym (ap (λ b. b && are_slots m (drop 12 rest)) (no_true (is_slot (take 12 rest))
    (λ is. omega (
      arith,
      short,
      slot_long (take 12 rest) is,
      ap (λ xs. length xs) (take_all 12 rest (omega (arith, short))),
    ))))
    ∙ e

-- what the words of slots say of the first one
pub record AreFirst (m : ℕ) (words : List ℕ) : Type 0 where
  pub long : 12 ≤ length words
  pub first : is_slot (take 12 words) ≡ true
  pub rest : are_slots m (drop 12 words) ≡ true

pub first_slot : (m : ℕ) (words : List ℕ) → are_slots (suc m) words ≡ true → AreFirst m words
first_slot m words h =
    let both = and_parts _ _ h in
    record {
      long = long_enough words (slot_long (take 12 words) both.0);
      first = both.0;
      rest = both.1;
    }
  where
    long_enough : (ws : List ℕ) → length (take 12 ws) ≡ 12 → 12 ≤ length ws
    long_enough ws e = grind (arith, e)

pub next_slot : (k n : ℕ) (words : List ℕ) → k < n
    → ((m : ℕ) → k + m ≡ n → are_slots m words ≡ true) → AreFirst (n - (k + 1)) words
next_slot k n words low left =
    first_slot (n - (k + 1)) words (left (suc (n - (k + 1))) (omega (arith, low)))

-- the slots so far, with one more
pub slots_loaded : (k : ℕ) (os : List (Option MessageValue)) (o : Option MessageValue)
    (rest words : List ℕ) → k < length os → flat_map slot_words (take k os) ++ rest ≡ words
    → slot_words o ≡ take 12 rest
    → flat_map slot_words (take (k + 1) (set os k o)) ++ drop 12 rest ≡ words
slots_loaded k os o rest words low before is =
    let done = flat_map slot_words (take k os) in
    ap (λ xs. flat_map slot_words xs ++ drop 12 rest) (take_more_set os k o low)
    ∙ ap (λ xs. xs ++ drop 12 rest) (flat_map-append slot_words (take k os) (o ∷ []))
    ∙ ap (λ xs. (done ++ xs) ++ drop 12 rest)
    (flat_map-cons slot_words o [] ∙ append-nil (slot_words o) ∙ is)
    ∙ append_assoc done (take 12 rest) (drop 12 rest)
    ∙ ap (λ xs. done ++ xs) (take-append-drop 12 rest)
    ∙ before

empty : (ws : List ℕ) → are_slots 0 ws ≡ true → ws ≡ []
empty [] h = refl
empty (w ∷ ws) h = absurd (omega (arith, eqb-true (length (w ∷ ws)) 0 h))

-- so many that none is left
pub slots_done : (k : ℕ) (os : List (Option MessageValue)) (rest words : List ℕ) → length os ≤ k
    → are_slots 0 rest ≡ true → flat_map slot_words (take k os) ++ rest ≡ words
    → flat_map slot_words os ≡ words
slots_done k os rest words all none e =
    sym (append-nil (flat_map slot_words os))
    ∙ ap (λ xs. flat_map slot_words xs ++ []) (sym (take_all k os all))
    ∙ ap (λ xs. flat_map slot_words (take k os) ++ xs) (sym (empty rest none))
    ∙ e

-- all of them
pub all_loaded : (s : SlotsValue) (words : List ℕ) → slot_words s.system ≡ take 12 words
    → flat_map slot_words s.cores ≡ drop 12 words → slots_words s ≡ words
unfolding slots_words
all_loaded s words first rest =
    flat_map-cons slot_words s.system s.cores
    ∙ ap (λ xs. xs ++ flat_map slot_words s.cores) first
    ∙ ap (λ xs. take 12 words ++ xs) rest
    ∙ take-append-drop 12 words

-- Written ------------------------------------------------------------------------------------

-- the slots so far, with one more
pub slots_saved : (os : List (Option MessageValue)) (o : Option MessageValue) (k start : ℕ)
    (w v u : List ℕ) → k < length os → o ≡ get_or os k None
    → take (start + 12 * k) v ≡ take start w ++ flat_map slot_words (take k os)
    → take (start + 12 * k + 12) u ≡ take (start + 12 * k) v ++ slot_words o
    → take (start + 12 * (k + 1)) u ≡ take start w ++ flat_map slot_words (take (k + 1) os)
slots_saved os o k start w v u low is before now =
    let done = flat_map slot_words (take k os) in
    let next : start + 12 * (k + 1) ≡ start + 12 * k + 12 = omega arith in
    ap (λ n. take n u) next
    ∙ now
    ∙ ap (λ xs. xs ++ slot_words o) before
    ∙ append_assoc (take start w) done (slot_words o)
    ∙ ap (λ xs. take start w ++ xs)
    (ap (λ xs. done ++ xs) (sym (flat_map-cons slot_words o [] ∙ append-nil (slot_words o)))
    ∙ sym (flat_map-append slot_words (take k os) (o ∷ []))
    ∙ ap (λ p. flat_map slot_words (take k os ++ p ∷ [])) is
    ∙ ap (λ xs. flat_map slot_words xs) (sym (take_more os k None low)))

-- all of them
pub all_saved : (s : SlotsValue) (o : Option MessageValue) (os : List (Option MessageValue))
    (start : ℕ) (w v u : List ℕ) → o ≡ s.system → os ≡ s.cores
    → take (start + 12) v ≡ take start w ++ slot_words o
    → take (start + 12 + 12 * length os) u ≡ take (start + 12) v ++ flat_map slot_words os
    → take (start + length (slots_words s)) u ≡ take start w ++ slots_words s
unfolding slots_words
all_saved s o os start w v u system cores first rest =
    let long : start + length (slots_words s) ≡ start + 12 + 12 * length os =
    omega (
      arith,
      many_words s,
      ap (λ (xs : List (Option MessageValue)). length xs) cores,
    ) in
    ap (λ n. take n u) long
    ∙ rest
    ∙ ap (λ xs. xs ++ flat_map slot_words os) first
    ∙ append_assoc (take start w) (slot_words o) (flat_map slot_words os)
    ∙ ap (λ xs. take start w ++ xs)
    (sym (flat_map-cons slot_words o os)
    ∙ ap (λ p. flat_map slot_words (p ∷ os)) system
    ∙ ap (λ ps. flat_map slot_words (s.system ∷ ps)) cores)
