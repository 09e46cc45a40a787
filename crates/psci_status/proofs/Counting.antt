-- What a status weighs, and so how many statuses a core can have had: a status is weighed by the
-- life and the known start that it came with. What a call does to a core leaves its status, or
-- gives it one that weighs more; and each status that is added weighs more than the last one.
use Rattle.std.proofs.Common.{◌*◌, ◌+◌, ◌<◌, ◌∷◌, ◌≡◌, ◌≢◌, ◌≤◌, [], ap, arith, Bool, false, inl}
use Rattle.std.proofs.Common.{inr, length, List, refl, subst, sym, true, ℕ}
use Rattle.std.specs.Prelude.{◌⊎◌, ◌==◌, ◌&&◌, not, if◌then◌else◌}
use Rattle.std.proofs.lemmas.Bool.{and_parts, cond_both, eqb-false, eqb-true}
use Rattle.psci_board.specs.Board.{BoardValue, IsBoard}
use Rattle.psci_fw_laws.specs.Renumbered.{IsAllowed, IsEntering}
use Rattle.psci_fw_laws.specs.Messages.{AreWithin}
use Rattle.psci_messages.specs.declared.start.Start as starts
use Rattle.psci_fw_spec.specs.declared.status.Status.{Status}
use Rattle.psci_fw_spec.specs.declared.status.Status.TheVariants.{On, Off, Pending}
use Rattle.psci_fw_spec.specs.Effects.{Acknowledges, AsksOn, change, Effect, effect, Enters}
use Rattle.psci_fw_spec.specs.Effects.{FwExchange, Parks, sent_messages, StopsAtOnce}
use Rattle.psci_fw_spec.specs.Changes.{first_status, in_life, start_of_life, target, turns_off}
use Rattle.psci_fw_spec.specs.History.{known, life, status, values_of}
use Rattle.psci_fw_spec.specs.Invariant.{AreValues, agrees}
use Rattle.psci_fw_spec.specs.Legal.{IsLegal}
use Rattle.psci_fw_spec.specs.Phases.{Phase, is_away}
use Rattle.psci_fw_spec.specs.Phases as phases
use Rattle.psci_fw_spec.specs.Statuses.{added, statuses}
use Rattle.psci_fw_spec.specs.Values.{Values, updated}
use Rattle.psci_status.specs.Lists.{most_statuses, one_more}
use Rattle.psci_status.proofs.Past.{added_last, length_added, same_code, statuses_more}

-- in one start a core is ON, goes OFF, and is asked on again, in this order
abbrev rank : Status → ℕ
rank On = 1
rank Off = 2
rank Pending = 3

rank_most : (s : Status) → rank s ≤ 3
rank_most On = omega arith
rank_most Off = omega arith
rank_most Pending = omega arith

rank_some : (s : Status) → 1 ≤ rank s
rank_some On = omega arith
rank_some Off = omega arith
rank_some Pending = omega arith

-- what one life weighs at most, and a status of a life and a known start
abbrev per_life : BoardValue → ℕ
per_life b = 3 * b.starts + 8

abbrev weight : BoardValue → ℕ → ℕ → Status → ℕ
weight b l k s = l * per_life b + (3 * k + rank s)

-- A status in a life, of this weight, and then: it stays; it changes and weighs more; or a life
-- begins, and it weighs two more at least.
abbrev Rises : ℕ → Status → ℕ → ℕ → Status → ℕ → Type 0
Rises l s w l' s' w' =
    ((l' ≡ l) × (s' ≡ s) × (w ≤ w')) ⊎ (((l' ≡ l) × (w + 1 ≤ w')) ⊎ (w + 2 ≤ w'))

-- what a call does to a core
abbrev Grows : BoardValue → ℕ → ℕ → Status → ℕ → ℕ → Status → Type 0
Grows b l k s l' k' s' = Rises l s (weight b l k s) l' s' (weight b l' k' s')

stays : (b : BoardValue) (l k : ℕ) (s : Status) → Grows b l k s l k s
stays b l k s = inl (refl, refl, omega arith)

-- Lives ---------------------------------------------------------------------------------------

mul_le : (x y n : ℕ) → x ≤ y → x * n ≤ y * n
mul_le x y n h = grind arith

one_more_time : (l n : ℕ) → (l + 1) * n ≡ l * n + n
one_more_time l n = grind arith

begins_life : (b : BoardValue) (l k : ℕ) (s : Status) (l' k' : ℕ) (s' : Status)
    → l < l' → k ≤ b.starts → Grows b l k s l' k' s'
begins_life b l k s l' k' s' later most =
    let e = mul_le (l + 1) l' (per_life b) (omega arith) in
    inr (inr (omega (arith, e, one_more_time l (per_life b), rank_most s)))

-- Entries -------------------------------------------------------------------------------------

-- a core enters in the life that goes on: it is ON where it goes on, else its status stays
here : (b : BoardValue) (l k n : ℕ) (s : Status) (on is : Bool) → (is ≡ true → k < n)
    → Grows b l k s l (if is then n else k) (if on && is then On else s)
here b l k n s true true later = let h = later refl in inr (inl (refl, omega (arith, rank_most s)))
here b l k n s false true later = let h = later refl in inl (refl, refl, omega arith)
here b l k n s true false later = stays b l k s
here b l k n s false false later = stays b l k s

enters : (b : BoardValue) (v : Values) (c core : ℕ) (s : starts.Start) (on : Bool)
    → IsEntering b v c s → v.known core ≤ b.starts
    → let found = in_life b s.life v in
    Grows b v.life (v.known core) (v.status core) found.life
    (updated found.known c s.number core) (if on && (core == c) then On else found.status core)
enters b v c core s on may most =
    cond_both (s.life == v.life) v (start_of_life b s.life)
    (λ (found : Values). Grows b v.life (v.known core) (v.status core) found.life
    (updated found.known c s.number core) (if on && (core == c) then On else found.status core))
    (λ same. here b v.life (v.known core) s.number (v.status core) on (core == c)
    (λ (e : (core == c) ≡ true). subst (λ (k : ℕ). v.known k < s.number)
    (sym (eqb-true core c e)) (may.later (eqb-true s.life v.life same))))
    (λ other. begins_life b v.life (v.known core) (v.status core) s.life _ _
    (omega (arith, eqb-false s.life v.life other, may.life)) most)

-- Acknowledgements ----------------------------------------------------------------------------

goes_off : (b : BoardValue) (l k : ℕ) (s : Status) (p : Phase) → agrees s p ≡ true
    → is_away p ≡ true → Grows b l k s l k Off
goes_off b l k On p fits away = inr (inl (refl, omega arith))
goes_off b l k Off p fits away = stays b l k Off
goes_off b l k Pending phases.Away fits away = absurd (cc)
goes_off b l k Pending p fits away = absurd (cc)

-- Every effect --------------------------------------------------------------------------------

grows : (b : BoardValue) (v : Values) (core : ℕ) (e : Effect) → IsAllowed b v e
    → agrees (v.status core) (v.phase core) ≡ true → v.known core ≤ b.starts
    → Grows b v.life (v.known core) (v.status core) (change b e v).life ((change b e v).known core)
    ((change b e v).status core)
grows b v core (AsksOn c asked) may fits most =
    cond_both (core == target asked) Pending (v.status core)
    (Grows b v.life (v.known core) (v.status core) v.life (v.known core))
    (λ e. let off : v.status core ≡ Off = rw (eqb-true core (target asked) e) may.off in
    let two : rank (v.status core) ≡ 2 = ap rank off in inr (inl (refl, omega arith)))
    (λ e. stays b v.life (v.known core) (v.status core))
grows b v core (Enters c s) may fits most = enters b v c core s true may.enters most
grows b v core (Parks c s m) may fits most = enters b v c core s false may.enters most
grows b v core (StopsAtOnce c s) may fits most = enters b v c core s false may.enters most
grows b v core (Acknowledges a) may fits most =
    cond_both (core == a.core.number) _ (v.status core)
    (Grows b v.life (v.known core) (v.status core) v.life (v.known core))
    (λ e. let same : core ≡ a.core.number = eqb-true core a.core.number e in
    cond_both (turns_off v a) Off (v.status a.core.number)
    (Grows b v.life (v.known core) (v.status core) v.life (v.known core))
    (λ off. goes_off b v.life (v.known core) (v.status core) (v.phase core) fits
    (rw same (and_parts _ (is_away (v.phase a.core.number)) off).1))
    (λ no. rw (← same) (stays b v.life (v.known core) (v.status core))))
    (λ e. stays b v.life (v.known core) (v.status core))
grows b v core e may fits most = stays b v.life (v.known core) (v.status core)

-- How many there are --------------------------------------------------------------------------

pub length_one_more : (opens : Bool) (core : ℕ) (s : Status) (ss : List Status)
    → length (one_more opens core s ss) ≤ length ss + 2
length_one_more true core s ss =
    omega (
      arith,
      length_added (first_status core) ss,
      length_added s (added (first_status core) ss),
    )
length_one_more false core s ss = omega (arith, length_added s ss)

-- once a core has entered, one exchange more adds no more statuses than weight
grown : (core l l' : ℕ) (s s' : Status) (ss : List Status) (w w' : ℕ) → l' ≢ 0
    → (l ≢ 0 → added s ss ≡ ss) → length ss ≤ w → Rises l s w l' s' w'
    → length (one_more (not (l' == l)) core s' ss) ≤ w'
grown core l l' s s' ss w w' some last few (inl (same, is, more)) =
    rw (same, is, same_code l, last (rw same at some)) (omega arith)
grown core l l' s s' ss w w' some last few (inr (inl (same, more))) =
    rw (same, same_code l) (omega (arith, length_added s' ss))
grown core l l' s s' ss w w' some last few (inr (inr more)) =
    omega (arith, length_one_more (not (l' == l)) core s' ss)

no_less : (l l' w w' : ℕ) (s s' : Status) → Rises l s w l' s' w' → w ≤ w'
no_less l l' w w' s s' (inl (same, is, more)) = more
no_less l l' w w' s s' (inr (inl (same, more))) = omega arith
no_less l l' w w' s s' (inr (inr more)) = omega arith

-- what the laws of the firmware say
abbrev pub Kept : Type 0
Kept = (b : BoardValue) (e : FwExchange) (h : List FwExchange) → IsBoard b → IsLegal b (e ∷ h)
    → IsAllowed b (values_of b h) (effect b e)

abbrev Changed : Type 0
Changed = (b : BoardValue) (e : FwExchange) (h : List FwExchange)
    → values_of b (e ∷ h) ≡ change b (effect b e) (values_of b h)

abbrev Valued : Type 0
Valued = (b : BoardValue) (h : List FwExchange) → IsBoard b → IsLegal b h
    → AreValues b (values_of b h)

first_weight : (b : BoardValue) (core : ℕ)
    → length (statuses b [] core) ≤ weight b (life b []) (known b [] core) (status b [] core)
unfolding statuses
first_weight b core = omega (arith, rank_some (first_status core))

weighed : (b : BoardValue) (h : List FwExchange) (core : ℕ) → Kept → Changed → Valued → IsBoard b
    → IsLegal b h
    → length (statuses b h core) ≤ weight b (life b h) (known b h core) (status b h core)
unfolding values_of
weighed b [] core kept changed valued board legal = first_weight b core
weighed b (e ∷ h) core kept changed valued board legal =
    let values = valued b h board legal.1 in
    let few = weighed b h core kept changed valued board legal.1 in
    let g : Grows b (life b h) (known b h core) (status b h core) (life b (e ∷ h))
    (known b (e ∷ h) core) (status b (e ∷ h) core) =
    subst (λ (v : Values). Grows b (life b h) (known b h core) (status b h core) v.life
    (v.known core) (v.status core)) (sym (changed b e h)) (grows b (values_of b h) core (effect b e)
    (kept b e h board legal) (values.agree core) (values.known core)) in
    let less = no_less _ _ _ _ _ _ g in
    let Few : List Status → Type 0 = λ ss. length ss
    ≤ weight b (life b (e ∷ h)) (known b (e ∷ h) core) (status b (e ∷ h) core) in
    subst Few (statuses_more b e h core)
    (cond_both (life b (e ∷ h) == 0) (statuses b h core) _ Few (λ none. omega (arith, few, less))
    (λ some. grown core _ _ _ _ (statuses b h core) _ _ (eqb-false (life b (e ∷ h)) 0 some)
    (added_last b h core) few g))

pub few_statuses : (b : BoardValue) (h : List FwExchange) (core : ℕ) → Kept → Changed → Valued
    → IsBoard b → IsLegal b h
    → AreWithin b (values_of b h).life (values_of b h).known (sent_messages b h)
    → length (statuses b h core) ≤ most_statuses b
unfolding values_of
few_statuses b h core kept changed valued board legal within =
    omega (
      arith,
      weighed b h core kept changed valued board legal,
      rank_most (status b h core),
      mul_le (life b h) b.lives (per_life b) within.lives,
      one_more_time b.lives (per_life b),
      within.starts core,
    )
