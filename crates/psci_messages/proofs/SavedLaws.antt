-- The words of slots tell what is in them, and are the words of slots.
use Rattle.std.specs.Prelude.{nat_le, nat_lt}
use Rattle.std.proofs.Common.{◌&&◌, ◌*◌, ◌++◌, ◌+◌, ◌-◌, ◌<◌, ◌==◌, ◌^◌, ◌||◌, ◌∙◌, ◌∷◌, ◌≡◌}
use Rattle.std.proofs.Common.{◌≤◌, [], ap, arith, Bool, cond, drop, false, flat_map, get_or, inl}
use Rattle.std.proofs.Common.{inr, length, List, None, not, Option, refl, Some, subst, suc, sym}
use Rattle.std.proofs.Common.{take, true, zero, ℕ}
use Rattle.std.proofs.Math.Bool.{or-true}
use Rattle.std.proofs.Math.Seq.{drop-append_seam, take-append_seam}
use Rattle.std.proofs.lemmas.Bool.{and_from, and_parts, cases_eq, eq-eqb, eqb-true, false≢true}
use Rattle.std.proofs.lemmas.Bool.{le-leb, leb-true, lt-ltb, ltb-true, ne_eqb, or_cases}
use Rattle.std.proofs.lemmas.List.{length-append}
use Rattle.std.proofs.lemmas.List.Concat.{flat_map-cons}
use Rattle.psci_messages.specs.Message.{ArePartsOf, is_climbing, is_falling, MessageValue}
use Rattle.psci_messages.specs.Places.{places_of, unused}
use Rattle.psci_messages.specs.Saved.{are_parts, are_parts_of, are_slots, AreKept, is_empty}
use Rattle.psci_messages.specs.Saved.{is_message, is_slot, IsKept, kind_number, kind_of}
use Rattle.psci_messages.specs.Saved.{message_words, part_words, parts_from, slot_words}
use Rattle.psci_messages.specs.Saved.{slots_words}
use Rattle.psci_messages.specs.Slots.{SlotsValue}
use Rattle.psci_messages.specs.declared.kind.Kind.{Kind}
use Rattle.psci_messages.specs.declared.kind.Kind.TheVariants as kinds
use Rattle.psci_messages.specs.declared.part.Part.{Part}

-- Saved words -------------------------------------------------------------------------------------
-- Words of slots say what is in them, and words that are such are written again as they were.

-- Lengths ------------------------------------------------------------------------------------

pub many_parts : (n : ℕ) (ps : List Part) → length (part_words n ps) ≡ 2 * n
many_parts zero ps = refl
many_parts (suc n) [] = omega (arith, many_parts n [])
many_parts (suc n) (p ∷ ps) = omega (arith, many_parts n ps)

pub many_slot : (o : Option MessageValue) → length (slot_words o) ≡ 12
many_slot None = refl
many_slot (Some m) = omega (arith, many_parts 4 m.parts)

pub many_each : (os : List (Option MessageValue)) → length (flat_map slot_words os) ≡ 12 * length os
many_each [] = refl
many_each (o ∷ os) =
    ap (λ xs. length xs) (flat_map-cons slot_words o os)
    ∙ length-append (slot_words o) (flat_map slot_words os)
    ∙ omega (arith, many_slot o, many_each os)

pub many_words : (s : SlotsValue) → length (slots_words s) ≡ 12 * (length s.cores + 1)
unfolding slots_words
many_words s = many_each (s.system ∷ s.cores) ∙ omega arith

-- Parts --------------------------------------------------------------------------------------

-- the places of parts, as they lie in memory
pub four_places : (ps qs : List Part) → qs ≡ places_of ps
    → part_words 4 ps ≡ (get_or qs 0 unused).depth ∷ (get_or qs 0 unused).generation
    ∷ (get_or qs 1 unused).depth ∷ (get_or qs 1 unused).generation
    ∷ (get_or qs 2 unused).depth ∷ (get_or qs 2 unused).generation
    ∷ (get_or qs 3 unused).depth ∷ (get_or qs 3 unused).generation ∷ []
four_places ps qs e = rw e (four ps)
  where
    four : (ps : List Part)
        → part_words 4 ps
        ≡ (get_or (places_of ps) 0 unused).depth ∷ (get_or (places_of ps) 0 unused).generation
        ∷ (get_or (places_of ps) 1 unused).depth ∷ (get_or (places_of ps) 1 unused).generation
        ∷ (get_or (places_of ps) 2 unused).depth ∷ (get_or (places_of ps) 2 unused).generation
        ∷ (get_or (places_of ps) 3 unused).depth ∷ (get_or (places_of ps) 3 unused).generation ∷ []
    four [] = refl
    four (p ∷ []) = refl
    four (p ∷ q ∷ []) = refl
    four (p ∷ q ∷ r ∷ []) = refl
    four (p ∷ q ∷ r ∷ s ∷ ps) = refl

-- words of parts, one after the other
pub record IsPair (most d g : ℕ) (ws : List ℕ) : Type 0 where
  pub low : d ≤ most
  pub none : d ≡ 0 → g ≡ 0
  pub rest : are_parts d ws ≡ true

none_by : (d g : ℕ) → (not (d == 0) || g == 0) ≡ true → d ≡ 0 → g ≡ 0
none_by d g h e = elim (or_cases (not (d == 0)) (g == 0) h) [
  | inl f ↦ absurd (false≢true (sym (ap not (eq-eqb d 0 e)) ∙ f))
  | inr f ↦ eqb-true g 0 f
]

pub pair : (most d g : ℕ) (ws : List ℕ) → are_parts most (d ∷ g ∷ ws) ≡ true → IsPair most d g ws
pair most d g ws h =
    let both = and_parts _ _ h in
    let part = and_parts _ _ both.0 in
    record {
      low = leb-true d most part.0;
      none = none_by d g part.1;
      rest = both.1;
    }

-- parts of which none is deeper than this, none is deeper than that
pub weaker : (m n : ℕ) (ws : List ℕ) → m ≤ n → are_parts m ws ≡ true → are_parts n ws ≡ true
weaker m n [] low h = refl
weaker m n (d ∷ []) low h = h
weaker m n (d ∷ g ∷ ws) low h =
    let is : IsPair m d g ws = pair m d g ws h in
    let fits : d ≤ n = omega (arith, low, is.low) in
    let both = and_parts _ _ h in
    and_from _ _ (and_from _ _ (le-leb d n fits) (and_parts _ _ both.0).1) both.1

pub no_part : (level d g : ℕ) (ws : List ℕ) → d ≡ 0 → parts_from level (d ∷ g ∷ ws) ≡ []
no_part level d g ws e =
    ap (λ t. cond t []
    (record { level = level; depth = d; generation = g } ∷ parts_from (level + 1) ws))
    (eq-eqb d 0 e)

pub one_part : (level d g : ℕ) (ws : List ℕ) → (d ≡ 0 → ⊥)
    → parts_from level (d ∷ g ∷ ws)
    ≡ record { level = level; depth = d; generation = g } ∷ parts_from (level + 1) ws
one_part level d g ws e =
    ap (λ t. cond t []
    (record { level = level; depth = d; generation = g } ∷ parts_from (level + 1) ws))
    (ne_eqb d 0 e)

pub no_parts : (level : ℕ) (ws : List ℕ) → are_parts 0 ws ≡ true → parts_from level ws ≡ []
no_parts level [] h = refl
no_parts level (d ∷ []) h = refl
no_parts level (d ∷ g ∷ ws) h = no_part level d g ws (omega (arith, (pair 0 d g ws h).low))

-- parts are written as they were read
pub parts_back : (n level most : ℕ) (ws : List ℕ) → length ws ≡ 2 * n → are_parts most ws ≡ true
    → part_words n (parts_from level ws) ≡ ws
parts_back zero level most [] c h = refl
parts_back zero level most (d ∷ ws) c h = absurd (omega (arith, c))
parts_back (suc n) level most [] c h = absurd (omega (arith, c))
parts_back (suc n) level most (d ∷ []) c h = absurd (omega (arith, c))
parts_back (suc n) level most (d ∷ g ∷ ws) c h =
    let is = pair most d g ws h in
    elim (cases_eq d 0) [
      | inl e ↦
          ap (λ ps. part_words (suc n) ps) (no_part level d g ws e)
          ∙ ap (λ x. x ∷ 0 ∷ part_words n []) (sym e)
          ∙ ap (λ x. d ∷ x ∷ part_words n []) (sym (is.none e))
          ∙ ap (λ xs. d ∷ g ∷ xs)
          (ap (λ ps. part_words n ps)
          (sym (no_parts level ws (weaker d 0 ws (omega (arith, e)) is.rest)))
          ∙ parts_back n level d ws (omega (arith, c)) is.rest)
      | inr e ↦
          ap (λ ps. part_words (suc n) ps) (one_part level d g ws e)
          ∙ ap (λ xs. d ∷ g ∷ xs) (parts_back n (level + 1) d ws (omega (arith, c)) is.rest)
    ]

pub climbing : (level : ℕ) (ws : List ℕ) → is_climbing level (parts_from level ws) ≡ true
climbing level [] = refl
climbing level (d ∷ []) = refl
climbing level (d ∷ g ∷ ws) = elim (cases_eq d 0) [
  | inl e ↦ ap (λ ps. is_climbing level ps) (no_part level d g ws e)
  | inr e ↦ ap (λ ps. is_climbing level ps) (one_part level d g ws e)
      ∙ and_from _ _ (eq-eqb level level refl) (climbing (level + 1) ws)
]

pub falling : (level most : ℕ) (ws : List ℕ) → are_parts most ws ≡ true
    → is_falling most (parts_from level ws) ≡ true
falling level most [] h = refl
falling level most (d ∷ []) h = refl
falling level most (d ∷ g ∷ ws) h =
    let is = pair most d g ws h in
    elim (cases_eq d 0) [
      | inl e ↦ ap (λ ps. is_falling most ps) (no_part level d g ws e)
      | inr e ↦ ap (λ ps. is_falling most ps) (one_part level d g ws e)
          ∙ and_from _ _
          (and_from _ _ (lt-ltb 0 d (omega (arith, e))) (le-leb d most is.low))
          (falling (level + 1) d ws is.rest)
    ]

pub few_parts : (level n : ℕ) (ws : List ℕ) → length ws ≤ 2 * n → length (parts_from level ws) ≤ n
few_parts level n [] h = omega arith
few_parts level n (d ∷ []) h = omega arith
few_parts level n (d ∷ g ∷ ws) h = elim (cases_eq d 0) [
  | inl e ↦ omega (arith, ap (λ (ps : List Part). length ps) (no_part level d g ws e))
  | inr e ↦ omega (
    arith,
    h,
    ap (λ (ps : List Part). length ps) (one_part level d g ws e),
    few_parts (level + 1) (n - 1) ws (omega (arith, h)),
  )
]

pub some_parts : (ws : List ℕ) → length ws ≡ 8 → 0 < get_or ws 0 0 → 0 < length (parts_from 0 ws)
some_parts [] c h = absurd (omega (arith, c))
some_parts (d ∷ []) c h = absurd (omega (arith, c))
some_parts (d ∷ g ∷ ws) c h =
    omega (arith, ap (λ (ps : List Part). length ps) (one_part 0 d g ws (λ e. omega (arith, h, e))))

deep_by : (b : Bool) (ws : List ℕ)
    → (length ws == 8 && cond b (are_parts 3 ws && nat_lt 0 (get_or ws 0 0)) (are_parts 0 ws))
    ≡ true → are_parts 3 ws ≡ true
deep_by true ws h = (and_parts _ _ (and_parts _ _ h).1).0
deep_by false ws h = weaker 0 3 ws (omega arith) (and_parts _ _ h).1

-- parts of a kind are no deeper than power-down
pub deep_of : (kind : ℕ) (ws : List ℕ) → are_parts_of kind ws ≡ true → are_parts 3 ws ≡ true
deep_of kind ws h = deep_by (kind == 1) ws h

-- Saved laws --------------------------------------------------------------------------------------

-- Parts --------------------------------------------------------------------------------------

-- what holds of the first of some parts
record IsFalling (most : ℕ) (p : Part) (ps : List Part) : Type 0 where
  some : 0 < p.depth
  low : p.depth ≤ most
  rest : is_falling p.depth ps ≡ true

falls : (most : ℕ) (p : Part) (ps : List Part) → is_falling most (p ∷ ps) ≡ true
    → IsFalling most p ps
falls most p ps h =
    let both = and_parts _ _ h in
    let depth = and_parts _ _ both.0 in
    record {
      some = ltb-true 0 p.depth depth.0;
      low = leb-true p.depth most depth.1;
      rest = both.1;
    }

-- the words of parts are those of some
parts_good : (n most : ℕ) (ps : List Part) → is_falling most ps ≡ true
    → are_parts most (part_words n ps) ≡ true
parts_good zero most ps h = refl
parts_good (suc n) most [] h =
    and_from _ _ (and_from _ _ (le-leb 0 most (omega arith)) refl) (parts_good n 0 [] refl)
parts_good (suc n) most (p ∷ ps) h =
    let is = falls most p ps h in
    and_from _ _
    (and_from _ _ (le-leb p.depth most is.low)
    (ap (λ b. not b || p.generation == 0) (ne_eqb p.depth 0 (λ e. omega (arith, e, is.some)))))
    (parts_good n p.depth ps is.rest)

-- and they tell the parts
parts_told : (n level most : ℕ) (ps : List Part) → length ps ≤ n → is_climbing level ps ≡ true
    → is_falling most ps ≡ true → parts_from level (part_words n ps) ≡ ps
parts_told zero level most [] few up down = refl
parts_told zero level most (p ∷ ps) few up down = absurd (omega (arith, few))
parts_told (suc n) level most [] few up down = refl
parts_told (suc n) level most (p ∷ ps) few up down =
    let is = falls most p ps down in
    let climbs = and_parts _ _ up in
    one_part level p.depth p.generation (part_words n ps) (λ e. omega (arith, e, is.some))
    ∙ ap (λ l. record { level = l; depth = p.depth; generation = p.generation }
    ∷ parts_from (level + 1) (part_words n ps)) (sym (eqb-true p.level level climbs.0))
    ∙ ap (λ qs. p ∷ qs)
    (parts_told n (level + 1) p.depth ps (omega (arith, few)) climbs.1 is.rest)

-- Messages -----------------------------------------------------------------------------------

kind_good : (kind : Kind) → (nat_lt 0 (kind_number kind) && nat_le (kind_number kind) 4) ≡ true
kind_good kinds.Down = refl
kind_good kinds.Start = refl
kind_good kinds.Off = refl
kind_good kinds.Reset = refl

some_depth : (ps : List Part) → 0 < length ps → is_falling 3 ps ≡ true
    → nat_lt 0 (get_or (part_words 4 ps) 0 0) ≡ true
some_depth [] h down = absurd (omega (arith, h))
some_depth (p ∷ ps) h down = lt-ltb 0 p.depth (falls 3 p ps down).some

of_kind_good : (kind : Kind) (ps : List Part) → ArePartsOf kind ps
    → are_parts_of (kind_number kind) (part_words 4 ps) ≡ true
of_kind_good kinds.Down ps are =
    and_from _ _ (eq-eqb _ 8 (many_parts 4 ps))
    (and_from _ _ (parts_good 4 3 ps are.depths) (some_depth ps are.some are.depths))
of_kind_good kinds.Start ps are =
    subst (λ qs. are_parts_of 2 (part_words 4 qs) ≡ true) (sym are) refl
of_kind_good kinds.Off ps are =
    subst (λ qs. are_parts_of 3 (part_words 4 qs) ≡ true) (sym are) refl
of_kind_good kinds.Reset ps are =
    subst (λ qs. are_parts_of 4 (part_words 4 qs) ≡ true) (sym are) refl

message_good : (m : MessageValue) → IsKept m → is_message (message_words m) ≡ true
message_good m is =
    and_from _ _ (kind_good m.kind)
    (and_from _ _
    (and_from _ _ (lt-ltb m.core.number 256 is.message.core)
    (and_from _ _ (lt-ltb m.life (2 ^ 32) is.life) (lt-ltb m.number (2 ^ 32) is.number)))
    (of_kind_good m.kind m.parts is.message.parts))

slot_good : (o : Option MessageValue) → ((m : MessageValue) → o ≡ Some m → IsKept m)
    → is_slot (slot_words o) ≡ true
slot_good None kept = refl
slot_good (Some m) kept =
    ap (λ b. is_empty (message_words m) || b) (message_good m (kept m refl))
    ∙ or-true (is_empty (message_words m))

-- the message of these words
value_of : List ℕ → Option MessageValue
value_of [] = None
value_of (k ∷ []) = None
value_of (k ∷ c ∷ []) = None
value_of (k ∷ c ∷ l ∷ []) = None
value_of (k ∷ c ∷ l ∷ n ∷ ws) = cond (k == 0) None (Some (record {
  kind = kind_of k;
  core = record { number = c };
  life = l;
  number = n;
  parts = parts_from 0 ws;
}))

message_told : (kind : Kind) (c l n : ℕ) (ps : List Part) → ArePartsOf kind ps
    → value_of (kind_number kind ∷ c ∷ l ∷ n ∷ part_words 4 ps) ≡ Some (record {
      kind = kind;
      core = record { number = c };
      life = l;
      number = n;
      parts = ps;
    })
unfolding value_of
message_told kinds.Down c l n ps are =
    ap (λ qs. Some (record {
      kind = kinds.Down;
      core = record { number = c };
      life = l;
      number = n;
      parts = qs;
    })) (parts_told 4 0 3 ps are.most are.levels are.depths)
message_told kinds.Start c l n ps are = ap (λ qs. Some (record {
  kind = kinds.Start;
  core = record { number = c };
  life = l;
  number = n;
  parts = qs;
})) (subst (λ qs. parts_from 0 (part_words 4 qs) ≡ qs) (sym are) refl)
message_told kinds.Off c l n ps are = ap (λ qs. Some (record {
  kind = kinds.Off;
  core = record { number = c };
  life = l;
  number = n;
  parts = qs;
})) (subst (λ qs. parts_from 0 (part_words 4 qs) ≡ qs) (sym are) refl)
message_told kinds.Reset c l n ps are = ap (λ qs. Some (record {
  kind = kinds.Reset;
  core = record { number = c };
  life = l;
  number = n;
  parts = qs;
})) (subst (λ qs. parts_from 0 (part_words 4 qs) ≡ qs) (sym are) refl)

slot_told : (o : Option MessageValue) → ((m : MessageValue) → o ≡ Some m → IsKept m)
    → value_of (slot_words o) ≡ o
unfolding value_of
slot_told None kept = refl
slot_told (Some m) kept =
    message_told m.kind m.core.number m.life m.number m.parts (kept m refl).message.parts

-- Slots --------------------------------------------------------------------------------------

AreAll : List (Option MessageValue) → Type 0
AreAll os = (k : ℕ) (m : MessageValue) → get_or os k None ≡ Some m → IsKept m

front : (o : Option MessageValue) (ws : List ℕ) → take 12 (slot_words o ++ ws) ≡ slot_words o
front o ws =
    ap (λ n. take n (slot_words o ++ ws)) (sym (many_slot o)) ∙ take-append_seam (slot_words o) ws

back : (o : Option MessageValue) (ws : List ℕ) → drop 12 (slot_words o ++ ws) ≡ ws
back o ws =
    ap (λ n. drop n (slot_words o ++ ws)) (sym (many_slot o)) ∙ drop-append_seam (slot_words o) ws

all_good : (os : List (Option MessageValue)) → AreAll os
    → are_slots (length os) (flat_map slot_words os) ≡ true
unfolding AreAll
all_good [] kept = refl
all_good (o ∷ os) kept =
    let rest = flat_map slot_words os in
    ap (λ ws. are_slots (length (o ∷ os)) ws) (flat_map-cons slot_words o os)
    ∙ and_from _ _
    (ap is_slot (front o rest) ∙ slot_good o (kept 0))
    (ap (λ ws. are_slots (length os) ws) (back o rest) ∙ all_good os (λ k. kept (suc k)))

all_told : (os qs : List (Option MessageValue)) → AreAll os → AreAll qs
    → length os ≡ length qs → flat_map slot_words os ≡ flat_map slot_words qs → os ≡ qs
unfolding AreAll
all_told [] [] f g n e = refl
all_told [] (q ∷ qs) f g n e = absurd (omega (arith, n))
all_told (o ∷ os) [] f g n e = absurd (omega (arith, n))
all_told (o ∷ os) (q ∷ qs) f g n e =
    let both : slot_words o ++ flat_map slot_words os ≡ slot_words q ++ flat_map slot_words qs =
    sym (flat_map-cons slot_words o os) ∙ e ∙ flat_map-cons slot_words q qs in
    let first : o ≡ q =
    sym (slot_told o (f 0))
    ∙ ap value_of (sym (front o (flat_map slot_words os)) ∙ ap (λ ws. take 12 ws) both
    ∙ front q (flat_map slot_words qs))
    ∙ slot_told q (g 0) in
    let rest : os ≡ qs =
    all_told os qs (λ k. f (suc k)) (λ k. g (suc k)) (omega (arith, n))
    (sym (back o (flat_map slot_words os)) ∙ ap (λ ws. drop 12 ws) both
    ∙ back q (flat_map slot_words qs)) in
    ap (λ p. p ∷ os) first ∙ ap (λ ps. q ∷ ps) rest

listed : (s : SlotsValue) → AreKept s → AreAll (s.system ∷ s.cores)
unfolding AreAll
listed s kept zero m e = kept.system m e
listed s kept (suc k) m e = kept.cores k m e

pub whole : (s : SlotsValue) → AreKept s → are_slots (suc (length s.cores)) (slots_words s) ≡ true
unfolding slots_words
whole s kept = all_good (s.system ∷ s.cores) (listed s kept)

pub same : (s t : SlotsValue) → AreKept s → AreKept t → length s.cores ≡ length t.cores
    → slots_words s ≡ slots_words t → s ≡ t
unfolding slots_words
same s t f g n e =
    let all = all_told (s.system ∷ s.cores) (t.system ∷ t.cores) (listed s f) (listed t g)
    (omega (arith, n)) e in
    ap (λ os. record { cores = drop 1 os; system = get_or os 0 None }) all
