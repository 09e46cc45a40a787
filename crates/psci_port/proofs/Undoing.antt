-- What parts that are applied, and starts, leave to be done of each message.
use Rattle.std.proofs.lemmas.Bool.{and_parts}
use Rattle.psci_board.specs.Board.{domain_of}
use Rattle.psci_ctl_spec.specs.Replies.{one_more}
use Rattle.psci_ctl_spec.specs.Values.{is_live}
use Rattle.psci_ctl_spec.specs.Values as controlled
use Rattle.psci_ctl_spec.specs.declared.call.CtlCall.TheVariants as asked
use Rattle.psci_ctl_spec.specs.psci_messages.Message.{ArePartsOf}
use Rattle.psci_ctl_spec.specs.psci_messages.declared.kind.Kind.TheVariants as kinds
use Rattle.psci_ctl_spec.specs.psci_messages.declared.kind.Kind.TheVariants.{Down, Start}
use Rattle.psci_ctl_spec.specs.psci_messages.psci_state.Cores.{asks}
use Rattle.psci_world_spec.specs.Legal.{sent}
use Rattle.psci_world_spec.specs.psci_fw_spec.Phases as phases
use Rattle.psci_world_spec.specs.psci_fw_spec.Values.{Values}
use Rattle.psci_headline.specs.Settling.{IsLivePart}
use Rattle.psci_headline.specs.psci_fw_laws.Messages.{known_below}
use Rattle.psci_headline.proofs.Controls.{keeps, part_level}
use Rattle.psci_port.specs.Undone.{is_undone, undone}
use Rattle.psci_port.proofs.Words.{◌&&◌, ◌+◌, ◌<◌, ◌==◌, ◌∙◌, ◌∷◌, ◌≤◌, ◌⊎◌, ◌≡◌, [], and_from, ap}
use Rattle.psci_port.proofs.Words.{AreApplied, arith, at_number, BoardValue, Bool, cases_eq, Cause}
use Rattle.psci_port.proofs.Words.{change, cond, cond-false, cond-true, cores, Delivers, eq-eqb}
use Rattle.psci_port.proofs.Words.{eqb-true, false, false≢true, firmware_values, height, indexed}
use Rattle.psci_port.proofs.Words.{inl, inr, is_on_path, is_this_life, IsAtRest, IsFront, IsKnown}
use Rattle.psci_port.proofs.Words.{IsPast, IsSendable, IsSound, Kind, laid, length, List, May}
use Rattle.psci_port.proofs.Words.{MessageValue, nat_tests, ne_eqb, None, none-some, Normal, not}
use Rattle.psci_port.proofs.Words.{OfCore, Option, Part, Port, refl, same_sum, slice_get, slot_of}
use Rattle.psci_port.proofs.Words.{Some, stage_at, Starts, subst, suc, switches, sym, take}
use Rattle.psci_port.proofs.Words.{take_get, true, up, waits, words, zero, ℕ}
use Rattle.psci_port.proofs.Truth.{IsMirror}

-- Where a port is at rest, each outstanding message may be delivered: its core stands -------------

-- The first item of a list.
record HasFirst {A : Type 0} (xs : List A) : Type 0 where
  pub item : A
  pub at : slice_get xs 0 ≡ Some item

first_of : {A : Type 0} → (xs : List A) → 0 < length xs → HasFirst xs
first_of [] some = absurd (omega (arith, some))
first_of (x ∷ xs) some = record { item = x; at = refl }

life_is : (o : Option ℕ) (life : ℕ) → is_this_life o life ≡ true → o ≡ Some life
life_is None life e = absurd (false≢true e)
life_is (Some l) life e = ap (λ k. Some k) (eqb-true l life e)

module _ (b : BoardValue) (p : Port) (mirror : IsMirror b p) (is : IsPast b p.past) where
  abbrev v : Values
  v = firmware_values b p.past

  -- a core of the normal world runs for the firmware
  runs : (c life : ℕ) → c < cores b → p.values.life ≡ Some life → life ≡ v.life
      → stage_at p c ≡ Normal → v.phase c ≡ phases.Running
  runs c life on present own at = grind (arith, nat_tests)

  module _ (c : ℕ) (m : MessageValue) (out : v.outstanding (OfCore c) ≡ Some m)
      (running : v.phase c ≡ phases.Running) where
    -- no Start is outstanding for it
    no_start : m.kind ≡ Start → ⊥
    no_start kind =
        let pending = (is.given.holds.slots.core c m out).start kind in absurd (cc)

    -- and no Down, which asks for more than a running core does
    no_down : m.kind ≡ Down → ⊥
    no_down kind =
        let slot = is.given.holds.slots.core c m out in
        let known = is.given.holds.messages slot.listed.index m slot.listed.at in
        let parts = is.given.parts m.parts
        (subst (λ k. ArePartsOf k m.parts) kind known.sound.parts) in
        let first : HasFirst m.parts = first_of m.parts parts.some in
        let here : v.phase m.core.number ≡ phases.Running = ap v.phase slot.core ∙ running in
        let asked_for = (known.present slot.listed.present).asked kind
        (slot.number ∙ ap v.known (sym slot.core)) (λ pending. absurd (cc))
        first.item first.at in
        let zero : first.item.depth ≡ 0 =
        asked_for ∙ ap (λ f. asks (phases.activity_of f) 0) here in
        let some = parts.least 0 first.item first.at in
        omega (arith, zero, some)

  module _ (rest : IsAtRest b p) (can : (m : MessageValue) → IsSound b m → IsSendable b m)
      (k : ℕ) (m : MessageValue) (at : indexed (sent p.past) k ≡ Some m)
      (out : v.outstanding (slot_of m.kind m.core) ≡ Some m) where
    sound : IsSound b m
    sound = let there = at_number (sent p.past) k m at in
        (is.given.holds.messages there.index m there.at).sound

    -- a message that waits is none that is outstanding
    by_kind : (kind : Kind) → m.kind ≡ kind → v.outstanding (slot_of kind m.core) ≡ Some m
        → is_this_life p.values.life m.life ≡ true → switches b p.values m kind ≡ true
        → stage_at p m.core.number ≡ Normal → ⊥
    by_kind kind e there life switch normal =
        grind (arith, nat_tests, no_down, runs, sound, life_is, no_start)

    by_test : (t : Bool) → waits b p.values (words p) (asked.Deliver m) ≡ t
        → waits b p.values (words p) (asked.Deliver m) ≡ false
    by_test t e = grind (arith, nat_tests, and_parts, by_kind, sound)

    pub heard : May b p (Delivers k m)
    heard = grind (arith, nat_tests, sound, by_test)

-- Sums -------------------------------------------------------------------------------------------

-- no more of these parts are undone where each that is was before
pub undone_le : (b : BoardValue) (w u : controlled.Values) (c : ℕ) (ps : List Part)
    → ((k : ℕ) (p : Part) → slice_get ps k ≡ Some p → is_undone b u c p ≡ true
    → is_undone b w c p ≡ true) → undone b u c ps ≤ undone b w c ps
unfolding undone
undone_le b w u c [] so = omega arith
undone_le b w u c (p ∷ ps) so =
    let rest = undone_le b w u c ps (λ k q at. so (suc k) q at) in
    let own = bit_le (is_undone b u c p) (is_undone b w c p) (so zero p refl) in
    omega (arith, rest, own)
  where
    bit_le : (s t : Bool) → (s ≡ true → t ≡ true) → cond {A = ℕ} s 1 0 ≤ cond t 1 0
    bit_le false t so = omega arith
    bit_le true true so = omega arith
    bit_le true false so = absurd (false≢true (so refl))

-- fewer where one is no more
undone_lt : (b : BoardValue) (w u : controlled.Values) (c : ℕ) (ps : List Part) (n : ℕ) (q : Part)
    → ((k : ℕ) (p : Part) → slice_get ps k ≡ Some p → is_undone b u c p ≡ true
    → is_undone b w c p ≡ true) → slice_get ps n ≡ Some q → is_undone b w c q ≡ true
    → is_undone b u c q ≡ false → undone b u c ps < undone b w c ps
unfolding undone
undone_lt b w u c [] n q so at was now = absurd (none-some q at)
undone_lt b w u c (p ∷ ps) zero q so at was now =
    let rest = undone_le b w u c ps (λ k q at. so (suc k) q at) in
    bit (is_undone b u c p) (is_undone b w c p)
    (ap (is_undone b u c) (same p q at) ∙ now) (ap (is_undone b w c) (same p q at) ∙ was) rest
  where
    same : (p q : Part) → Some p ≡ Some q → p ≡ q
    same p q e = grind arith

    bit : (s t : Bool) → s ≡ false → t ≡ true → undone b u c ps ≤ undone b w c ps
        → cond {A = ℕ} s 1 0 + undone b u c ps < cond t 1 0 + undone b w c ps
    bit false true e f le = omega (arith, le)
    bit true t e f le = absurd (false≢true (sym e))
    bit false false e f le = absurd (false≢true f)
undone_lt b w u c (p ∷ ps) (suc n) q so at was now =
    let rest = undone_lt b w u c ps n q (λ k q at. so (suc k) q at) at was now in
    bit (is_undone b u c p) (is_undone b w c p) (so zero p refl) rest
  where
    bit : (s t : Bool) → (s ≡ true → t ≡ true) → undone b u c ps < undone b w c ps
        → cond {A = ℕ} s 1 0 + undone b u c ps < cond t 1 0 + undone b w c ps
    bit false true so lt = omega (arith, lt)
    bit false false so lt = omega (arith, lt)
    bit true true so lt = omega (arith, lt)
    bit true false so lt = absurd (false≢true (so refl))

-- Where two differ -------------------------------------------------------------------------------

-- two functions are the same below a bound, or differ somewhere there
pub differs : (f g : ℕ → ℕ) (n : ℕ)
    → ((l : ℕ) → l < n → f l ≡ g l) ⊎ ((l : ℕ) × ((l < n) × (f l ≡ g l → ⊥)))
differs f g zero = inl (λ l low. absurd (omega (arith, low)))
differs f g (suc n) = elim (differs f g n) [
  | inr there ↦ inr (there.0, (omega (arith, there.1.0), there.1.1))
  | inl same ↦ elim (cases_eq (f n) (g n)) [
    | inr ne ↦ inr (n, (omega arith, ne))
    | inl e ↦ inl (λ l low. elim (cases_eq l n) [
      | inl at ↦ subst (λ i. f i ≡ g i) (sym at) e
      | inr ne ↦ same l (below l low ne)
    ])
  ]
]
  where
    below : (l : ℕ) → l < suc n → (l ≡ n → ⊥) → l < n
    below l low ne = grind (arith, low, ne)

-- a depth that what is laid changes, is that of a part
pub laid_new : (b : BoardValue) (c : ℕ) (ps : List Part) (depth : ℕ → ℕ → ℕ) (level place : ℕ)
    → (laid b c ps depth level place ≡ depth level place → ⊥)
    → (p : Part) × ((slice_get ps level ≡ Some p) × (laid b c ps depth level place ≡ p.depth))
laid_new b c ps depth level place ne = grind (arith, nat_tests)

-- Parts of a message that was sent ---------------------------------------------------------------

pub has_down : (ps : List Part) (level : ℕ) (p : Part) (kind : Kind) → ArePartsOf kind ps
    → slice_get ps level ≡ Some p → kind ≡ kinds.Down
has_down ps level p kind are at = grind (arith, nat_tests)

-- a part that is live once a core was started, was live before, and is not on that one's path
module _ (b : BoardValue) (life : ℕ) (w : controlled.Values) (v : Values)
    (sent : List MessageValue) (known : IsKnown b life w.starts v sent) (j : ℕ)
    (x : MessageValue) (at : slice_get sent j ≡ Some x) (present : x.life ≡ life) where
  abbrev d : ℕ
  d = x.core.number

  level_of : (level : ℕ) (p : Part) → slice_get x.parts level ≡ Some p
      → (p.level ≡ level) × (level ≤ height b)
  level_of level p get = part_level b life w.starts v sent known j level x p at get

  live_so : (starts : ℕ → ℕ) (level : ℕ) (p : Part) → slice_get x.parts level ≡ Some p
      → (p.generation == controlled.starts_below b starts (domain_of b d p.level)) ≡ true
      → IsLivePart b starts x level p
  live_so starts level p get test = grind (arith, nat_tests, eqb-true, same_sum, level_of)

  down : (level : ℕ) (p : Part) → slice_get x.parts level ≡ Some p → x.kind ≡ kinds.Down
  down level p get =
      has_down x.parts level p x.kind (known.messages j x at).sound.parts get

  -- parts of a Down were applied
  pub deepened : (c : ℕ) (ps : List Part) → AreApplied b life w.starts sent c ps
      → (level : ℕ) (p : Part) → slice_get x.parts level ≡ Some p
      → is_undone b (record w { depth = laid b c ps w.depth }) d p ≡ true
      → is_undone b w d p ≡ true
  deepened c ps are level p get test =
      let both = and_parts (is_live b w d p) _ test in
      by (w.depth p.level (up b p.level d) == p.depth) refl both.0 both.1
    where
      by : (t : Bool) → (w.depth p.level (up b p.level d) == p.depth) ≡ t
          → is_live b w d p ≡ true
          → not (laid b c ps w.depth p.level (up b p.level d) == p.depth) ≡ true
          → is_undone b w d p ≡ true
      by false e live other = and_from (is_live b w d p) _ live (ap not e)
      by true e live other =
          let flat = (level_of level p get).0 in
          let deep : w.depth level (up b level d) ≡ p.depth =
          ap (λ l. w.depth l (up b l d)) (sym flat) ∙ eqb-true _ _ e in
          let kept = keeps b life w.starts w.depth sent c ps known.apart are j level x p at present
          (down level p get) get (live_so w.starts level p get live) deep in
          absurd (false≢true (
          sym (ap not (eq-eqb _ _ (ap (λ l. laid b c ps w.depth l (up b l d)) flat ∙ kept)))
          ∙ other))

  -- a core was started
  pub started : (c : ℕ) (cause : Cause) → c < cores b → (level : ℕ) (p : Part)
      → slice_get x.parts level ≡ Some p
      → is_undone b (change b (Starts c cause) w) d p ≡ true → is_undone b w d p ≡ true
  started c cause on level p get test =
      let both = and_parts (is_live b (change b (Starts c cause) w) d p) _ test in
      let flat = (level_of level p get).0 in
      let low : p.level ≤ height b =
      subst (λ l. l ≤ height b) (sym flat) (level_of level p get).1 in
      let more = known.sums.more w.starts c p.level (up b p.level d) on low in
      let old = ((known.messages j x at).present present).older level p get in
      let below = known.below level (up b level d) in
      let was : known_below b w.starts level (up b level d)
      ≡ controlled.starts_below b w.starts (domain_of b d p.level) =
      ap (λ l. known_below b w.starts l (up b l d)) (sym flat)
      ∙ sym (same_sum b w.starts (domain_of b d p.level)) in
      let live = eqb-true _ _ both.0 in
      by (is_on_path b c p.level (up b p.level d)) refl
      (omega (arith, more, old, below, was, live)) live more both.1
    where
      by : (t : Bool) → is_on_path b c p.level (up b p.level d) ≡ t
          → (cond {A = ℕ} (is_on_path b c p.level (up b p.level d)) 1 0 ≡ 0)
          → p.generation ≡ controlled.starts_below b (one_more w.starts c) (domain_of b d p.level)
          → controlled.starts_below b (one_more w.starts c) (domain_of b d p.level)
          ≡ controlled.starts_below b w.starts (domain_of b d p.level)
          + cond (is_on_path b c p.level (up b p.level d)) 1 0
          → not ((change b (Starts c cause) w).depth p.level (up b p.level d) == p.depth) ≡ true
          → is_undone b w d p ≡ true
      by true e none live more other =
          let one : cond {A = ℕ} (is_on_path b c p.level (up b p.level d)) 1 0 ≡ 1 =
          cond-true _ _ _ e in absurd (omega (arith, none, one))
      by false e none live more other = and_from (is_live b w d p) _
          (eq-eqb _ _ (omega (arith, live, more, none)))
          (ap (λ n. not (n == p.depth)) (sym (cond-false _ _ _ e)) ∙ other)

-- Its own message --------------------------------------------------------------------------------

-- parts of a Down were applied, and some domain on its path got another depth
module _ (b : BoardValue) (life : ℕ) (w : controlled.Values) (v : Values)
    (sent : List MessageValue) (known : IsKnown b life w.starts v sent) (j : ℕ)
    (x : MessageValue) (at : slice_get sent j ≡ Some x) (present : x.life ≡ life)
    (n : ℕ) (front : IsFront b w x.core.number (take n x.parts))
    (are : AreApplied b life w.starts sent x.core.number (take n x.parts)) where
  abbrev c : ℕ
  c = x.core.number

  abbrev laying : ℕ → ℕ → ℕ
  laying = laid b c (take n x.parts) w.depth

  pub fewer : (level : ℕ) → (laying level (up b level c) ≡ w.depth level (up b level c) → ⊥)
      → undone b (record w { depth = laying }) c x.parts < undone b w c x.parts
  fewer level ne =
      let new = laid_new b c (take n x.parts) w.depth level (up b level c) ne in
      let p : Part = new.0 in
      let get = take_get x.parts n level p new.1.0 in
      let flat : p.level ≡ level = front.level level p new.1.0 in
      let deep : laying p.level (up b p.level c) ≡ p.depth =
      ap (λ l. laying l (up b l c)) flat ∙ new.1.1 in
      let other : w.depth p.level (up b p.level c) ≡ p.depth → ⊥ =
      λ e. ne (new.1.1 ∙ sym e ∙ ap (λ l. w.depth l (up b l c)) flat) in
      let live : is_live b w c p ≡ true =
      eq-eqb _ _ (front.live level p new.1.0
      ∙ ap (λ l. controlled.starts_below b w.starts (domain_of b c l)) (sym flat)) in
      undone_lt b w (record w { depth = laying }) c x.parts level p
      (λ k q here. deepened b life w v sent known j x at present c (take n x.parts) are k q here)
      get (and_from _ _ live (ap not (ne_eqb _ _ other)))
      (off (is_live b w c p) (not (laying p.level (up b p.level c) == p.depth))
      (ap not (eq-eqb _ _ deep)))
    where
      off : (s t : Bool) → t ≡ false → (s && t) ≡ false
      off true t e = e
      off false t e = refl
