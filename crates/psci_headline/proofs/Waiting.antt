-- Openings that wait for their core, and those that an entry has taken up.
use Rattle.psci_headline.proofs.Words.{◌&&◌, ◌<◌, ◌==◌, ◌∙◌, ◌∷◌, ◌≡◌, ◌≤◌, [], and_from}
use Rattle.psci_headline.proofs.Words.{and_parts, ap, arith, BoardValue, cond_both, EnteredAt}
use Rattle.psci_headline.proofs.Words.{eq-eqb, eqb-true, Fits, List, Made, nat_tests, None}
use Rattle.psci_headline.proofs.Words.{OfCall, OfLife, Opening, Option, refl, slice_get, Some}
use Rattle.psci_headline.proofs.Words.{subst, suc, sym, TakenUp, updated, updated_at, zero, ℕ}
use Rattle.psci_headline.specs.Safe.{newest, Maker}
use Rattle.psci_fw_laws.specs.psci_fw_spec.Changes.{first_opening}
use Rattle.psci_headline.proofs.LiveOnes.{head_kept, is_kept}

-- The newest opening ---------------------------------------------------------------------------

newest_old : (c life : ℕ) (m : Made) (made : List Made) → (c ≡ m.core → ⊥)
    → newest c life (m ∷ made) ≡ newest c life made
newest_old c life m made other = grind (arith, nat_tests, eqb-true, and_parts)

-- An opening that was made for a core in a life.
pub record IsMade (c life : ℕ) (made : List Made) (m : Made) : Type 0 where
  pub index : ℕ
  pub at : slice_get made index ≡ Some m
  pub of_core : m.core ≡ c
  pub of_life : m.life ≡ life

pub newest_is : (c life : ℕ) (made : List Made) (m : Made) → newest c life made ≡ Some m
    → IsMade c life made m
newest_is c life made m e =
    let is = is_kept (λ (x : Made). x.core == c && x.life == life) made 0 m e in
    let both = and_parts (m.core == c) _ is.passes in
    grind (arith, nat_tests, eqb-true)

-- What holds -----------------------------------------------------------------------------------

-- this made an opening before so many entries, and in no later life
abbrev pub IsBefore : ℕ → ℕ → Maker → Type 0
IsBefore n life (OfLife x) = x ≤ life
IsBefore n life (OfCall k) = k < n

before_more : (n m life later : ℕ) (maker : Maker) → n ≤ m → life ≤ later
    → IsBefore n life maker → IsBefore m later maker
before_more n m life later maker e f is = grind (arith, nat_tests)

-- no entry has taken up what this made
abbrev pub IsFresh : List TakenUp → Maker → Type 0
IsFresh taken maker = (k : ℕ) (t : TakenUp) (m : Made) → slice_get taken k ≡ Some t
    → t.made ≡ Some m → m.maker ≡ maker → ⊥

-- The newest opening for a core in a life waits: it is the core's opening, and not taken up.
pub record IsWaiting (life c : ℕ) (o : Opening) (made : List Made) (taken : List TakenUp)
    : Type 0 where
  pub last : Made
  pub is : newest c life made ≡ Some last
  pub opening : last.opening ≡ o
  pub fresh : IsFresh taken last.maker

-- What holds after so many entries, in this life, of the openings of cores, of all openings that
-- were made and of all that were taken up.
pub record AreWaiting (n life : ℕ) (opening : ℕ → Option Opening) (made : List Made)
    (taken : List TakenUp) : Type 0 where
  pub waits : 0 < life → (c : ℕ) (o : Opening) → opening c ≡ Some o
      → IsWaiting life c o made taken
  -- all were made before, and one thing makes openings for one core alone
  pub older : (k : ℕ) (m : Made) → slice_get made k ≡ Some m → IsBefore n life m.maker
  pub single : (j k : ℕ) (l m : Made) → slice_get made j ≡ Some l → slice_get made k ≡ Some m
      → l.maker ≡ m.maker → l.core ≡ m.core
  pub past : (k : ℕ) (t : TakenUp) (m : Made) → slice_get taken k ≡ Some t → t.made ≡ Some m
      → IsBefore n life m.maker
  -- each entry takes up an opening that fits, and no two the same
  pub each : (k : ℕ) (t : TakenUp) → slice_get taken k ≡ Some t
      → (m : Made) × (t.made ≡ Some m) × Fits t m
  pub once : (j k : ℕ) (t u : TakenUp) (m l : Made) → slice_get taken j ≡ Some t
      → slice_get taken k ≡ Some u → t.made ≡ Some m → u.made ≡ Some l → m.maker ≡ l.maker → j ≡ k

pub none_waiting : (b : BoardValue) → AreWaiting 0 0 (first_opening b) [] []
none_waiting b = grind (arith, nat_tests)

-- What happens ---------------------------------------------------------------------------------

module _ (n life : ℕ) (opening : ℕ → Option Opening) (made : List Made) (taken : List TakenUp)
    (are : AreWaiting n life opening made taken) where
  -- one more entry
  pub one_more : AreWaiting (suc n) life opening made taken
  one_more = grind (arith, nat_tests, before_more)

  -- the same openings of cores, or fewer of them
  pub fewer : (other : ℕ → Option Opening)
      → ((c : ℕ) (o : Opening) → other c ≡ Some o → opening c ≡ Some o)
      → AreWaiting n life other made taken
  fewer other from = grind (arith, nat_tests)

  -- New openings ----------------------------------------------------------------------------

  single_new : (x : Made) → (IsBefore n life x.maker → ⊥) → (j k : ℕ) (l m : Made)
      → slice_get (x ∷ made) j ≡ Some l → slice_get (x ∷ made) k ≡ Some m
      → l.maker ≡ m.maker → l.core ≡ m.core
  single_new x new x2 x3 l m at to same = grind (arith, nat_tests)

  older_new : (x : Made) (m later : ℕ) → n ≤ m → life ≤ later → IsBefore m later x.maker
      → (k : ℕ) (y : Made) → slice_get (x ∷ made) k ≡ Some y → IsBefore m later y.maker
  older_new x m later e f is x6 y at = grind (arith, nat_tests, before_more)

  waits_new : (x : Made) (later : ℕ) (o : Opening) → x.life ≡ later → x.opening ≡ o
      → (IsBefore n life x.maker → ⊥) → IsWaiting later x.core o (x ∷ made) taken
  waits_new x later o here is new = grind (arith, nat_tests, head_kept, and_from, eq-eqb)

  -- a core got an opening by a call
  call_waits : (c : ℕ) (o : Opening) → 0 < life → (x : ℕ) (p : Opening)
      → updated opening c (Some o) x ≡ Some p
      → IsWaiting life x p
      (record { maker = OfCall n; core = c; life = life; opening = o } ∷ made) taken
  call_waits c o some x =
      let new : Made = record { maker = OfCall n; core = c; life = life; opening = o } in
      updated_at (λ q. (p : Opening) → q ≡ Some p → IsWaiting life x p (new ∷ made) taken)
      opening c (Some o) x
      (λ here p e.
      subst (λ y. IsWaiting life y p (new ∷ made) taken) (sym here)
      (waits_new new life p refl (cc) (λ before. omega (arith, before))))
      (λ there p e.
      let w = are.waits some x p e in
      record {
        last = w.last;
        is = newest_old x life new made there ∙ w.is;
        opening = w.opening;
        fresh = w.fresh;
      })

  pub called : (c : ℕ) (o : Opening)
      → AreWaiting (suc n) life (updated opening c (Some o))
      (record { maker = OfCall n; core = c; life = life; opening = o } ∷ made) taken
  called c o = grind (arith, nat_tests, call_waits, older_new, single_new, before_more)

  pub begun : (b : BoardValue) (later : ℕ) → life < later
      → AreWaiting n later (first_opening b) (record {
        maker = OfLife later;
        core = 0;
        life = later;
        opening = record { address = b.boot; context = 0 };
      } ∷ made) taken
  begun b later less =
      grind (arith, nat_tests, cond_both, eqb-true, waits_new, older_new, single_new, before_more)

  -- Entries ---------------------------------------------------------------------------------

  -- a core that enters has no opening any more
  pub none_left : (c x : ℕ) (o : Opening) → updated opening c None x ≡ Some o
      → (x ≡ c → ⊥) × (opening x ≡ Some o)
  none_left c x o = grind (arith, nat_tests, updated_at)

  pub arrived : (c : ℕ) → AreWaiting n life (updated opening c None) made taken
  arrived c = fewer (updated opening c None) (λ x o e. (none_left c x o e).1)

-- What an entry takes up -----------------------------------------------------------------------

-- an entry with what it took up
abbrev pub taking : EnteredAt → List Made → TakenUp
taking x made = record { entered = x; made = newest x.core x.life made }

-- an entry took up an opening that fits
abbrev IsTaken : TakenUp → Type 0
IsTaken t = (m : Made) × (t.made ≡ Some m) × Fits t m

module _ (n life : ℕ) (opening : ℕ → Option Opening) (made : List Made) (taken : List TakenUp)
    (are : AreWaiting n life opening made taken) (x : EnteredAt) (some : 0 < life)
    (here : x.life ≡ life) (at : opening x.core ≡ Some x.opening) where
  -- what waited for the core
  waited : IsWaiting x.life x.core x.opening made taken
  waited = grind (arith, nat_tests)

  -- what was taken up
  took_last : (t : TakenUp) (m : Made) → slice_get (taking x made ∷ taken) 0 ≡ Some t
      → t.made ≡ Some m → newest x.core x.life made ≡ Some m
  took_last t m at e = grind (arith, nat_tests)

  is_last : (m : Made) → newest x.core x.life made ≡ Some m → m ≡ waited.last
  is_last m e = let both : Some m ≡ Some waited.last = sym e ∙ waited.is in cc

  -- what waits for another core was made by something else
  others_fresh : (c : ℕ) (o : Opening) (w : IsWaiting life c o made taken) → (c ≡ x.core → ⊥)
      → IsFresh (taking x made ∷ taken) w.last.maker
  others_fresh c o w other zero t m at e same =
      let one = newest_is x.core x.life made m (took_last t m at e) in
      let two = newest_is c life made w.last w.is in
      other (sym two.of_core ∙ sym (are.single one.index two.index m w.last one.at two.at same)
      ∙ one.of_core)
  others_fresh c o w other (suc k) t m at e same = w.fresh k t m at e same

  others_wait : (c : ℕ) (o : Opening) → updated opening x.core None c ≡ Some o
      → IsWaiting life c o made (taking x made ∷ taken)
  others_wait c o e =
      let left = none_left n life opening made taken are x.core c o e in
      let w = are.waits some c o left.1 in
      record {
        last = w.last;
        is = w.is;
        opening = w.opening;
        fresh = others_fresh c o w left.0;
      }

  now_past : (k : ℕ) (t : TakenUp) (m : Made) → slice_get (taking x made ∷ taken) k ≡ Some t
      → t.made ≡ Some m → IsBefore n life m.maker
  now_past zero t m at e =
      let is = newest_is x.core x.life made m (took_last t m at e) in are.older is.index m is.at
  now_past (suc k) t m at e = are.past k t m at e

  now_each : (k : ℕ) (t : TakenUp) → slice_get (taking x made ∷ taken) k ≡ Some t → IsTaken t
  now_each zero t at =
      let same : taking x made ≡ t = cc in
      let is = newest_is x.core x.life made waited.last waited.is in
      grind (arith, nat_tests, waited)
  now_each (suc k) t at = are.each k t at

  now_once : (j k : ℕ) (t u : TakenUp) (m l : Made) → slice_get (taking x made ∷ taken) j ≡ Some t
      → slice_get (taking x made ∷ taken) k ≡ Some u → t.made ≡ Some m → u.made ≡ Some l
      → m.maker ≡ l.maker → j ≡ k
  now_once zero zero t u m l at to e f same = refl
  now_once zero (suc k) t u m l at to e f same =
      let is = is_last m (took_last t m at e) in
      absurd (waited.fresh k u l to f (sym same ∙ ap (λ (y : Made). y.maker) is))
  now_once (suc j) zero t u m l at to e f same =
      let is = is_last l (took_last u l to f) in
      absurd (waited.fresh j t m at e (same ∙ ap (λ (y : Made). y.maker) is))
  now_once (suc j) (suc k) t u m l at to e f same =
      ap suc (are.once j k t u m l at to e f same)

  pub taken_up_by : AreWaiting n life (updated opening x.core None) made (taking x made ∷ taken)
  taken_up_by = record {
    waits = λ begun c o e. others_wait c o e;
    older = are.older;
    single = are.single;
    past = now_past;
    each = now_each;
    once = now_once;
  }
