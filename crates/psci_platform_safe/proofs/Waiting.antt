-- Sentence 4: an opening that waits for a core was made for it, by a call's own words or as the
-- life began, and the core has not entered at an opening since.
use Rattle.std.specs.Option.{option_or}
use Rattle.psci_headline.specs.psci_abi.declared.request.Request.TheVariants as requests
use Rattle.psci_headline.specs.psci_fw_spec.Effects.{Acknowledges, Arrival, Enters, Halts, Parks}
use Rattle.psci_headline.specs.psci_fw_spec.Effects.{SetsMode, Stops, StopsAtOnce}
use Rattle.psci_headline.specs.psci_fw_spec.declared.outcome.Act.TheVariants as acts
use Rattle.psci_headline.specs.psci_world_spec.declared.event.Event.TheVariants.{Wake}
use Rattle.psci_headline.proofs.world_spec.Scripts.{enters}
use Rattle.psci_platform_safe.specs.Safe.{ByCpuOn, BySuspend}
use Rattle.psci_platform_safe.proofs.Histories.{says}
use Rattle.psci_platform_safe.proofs.Moments.{Laws, only_one}
use Rattle.psci_platform_safe.proofs.Words.{◌++◌, ◌<◌, ◌==◌, ◌∙◌, ◌∷◌, ◌≡◌, ◌⊎◌, [], ap, arith}
use Rattle.psci_platform_safe.proofs.Words.{arrived, AsksOn, BoardValue, Bool, boot_opening}
use Rattle.psci_platform_safe.proofs.Words.{Call, change, cond, Deliver, depth_at, Effect, Enter}
use Rattle.psci_platform_safe.proofs.Words.{eq-eqb, eqb-true, Event, false, firmware_values}
use Rattle.psci_platform_safe.proofs.Words.{first_opening, Fw, GoesOn, in_life, inl, inr, IsCore}
use Rattle.psci_platform_safe.proofs.Words.{life_of, List, MessageValue, None, NoneEnters}
use Rattle.psci_platform_safe.proofs.Words.{Nothing, number, numbered, OneEntryEach, Opening}
use Rattle.psci_platform_safe.proofs.Words.{Opens, Option, PlatformValue, PowerOn, Record, refl}
use Rattle.psci_platform_safe.proofs.Words.{Regs, Request, request_of, Rest, Rests, Sent}
use Rattle.psci_platform_safe.proofs.Words.{slice_index, Some, Start, start_of_life, states_of}
use Rattle.psci_platform_safe.proofs.Words.{subst, suc, success, SuspendMode, sym, system_reset}
use Rattle.psci_platform_safe.proofs.Words.{target, true, Values, Waits, zero, ℕ}

-- Where it comes from: it waited before, or a life began, or a call made it --------------------

-- an effect is no entry of this core
abbrev pub NotEntered : Effect → ℕ → Type 0
NotEntered f c = (a : Arrival) → arrived f ≡ Some a → a.core ≡ c → ⊥

-- Where the opening of a core comes from that waits after an effect.
pub data Source (b : BoardValue) (v : Values) (f : Effect) (c : ℕ) (o : Opening) : Type 0 where
  Kept : v.opening c ≡ Some o → (change b f v).life ≡ v.life → NotEntered f c → Source b v f c o
  Begun : first_opening b c ≡ Some o → (v.life ≡ (change b f v).life → ⊥) → NotEntered f c
      → Source b v f c o
  Asked : (caller : ℕ) → (asked : PowerOn) → f ≡ AsksOn caller asked → target asked ≡ c
      → asked.opening ≡ o → (change b f v).life ≡ v.life → Source b v f c o
  Rested : (rest : Rest) → (m : MessageValue) → f ≡ Rests c rest m → rest.opening ≡ Some o
      → (change b f v).life ≡ v.life → Source b v f c o

-- an entry in the same life, or in another one
by_life : (b : BoardValue) (v : Values) (f : Effect) (c : ℕ) (o : Opening) (life : ℕ) (t : Bool)
    → (life == v.life) ≡ t → (change b f v).life ≡ (cond t v (start_of_life b life)).life
    → NotEntered f c → (cond t v (start_of_life b life)).opening c ≡ Some o → Source b v f c o
by_life b v f c o life true same now none at = Kept at now none
by_life b v f c o life false same now none at =
    Begun at
    (λ e. let no : true ≡ false = sym (eq-eqb life v.life (sym (e ∙ now))) ∙ same in absurd (cc))
    none

entered : (b : BoardValue) (v : Values) (f : Effect) (c d : ℕ) (s : Start) (o : Opening)
    (t : Bool) → (c == d) ≡ t → arrived f ≡ Some (record { core = d; start = s })
    → (change b f v).life ≡ (in_life b s.life v).life
    → cond t None ((in_life b s.life v).opening c) ≡ Some o → Source b v f c o
entered b v f c d s o true same of now at = absurd (cc)
entered b v f c d s o false other of now at =
    by_life b v f c o s.life (s.life == v.life) refl now
    (λ a e is.
    let one : record { core = d; start = s } ≡ a = cc in
    let no : true ≡ false =
    sym (eq-eqb c d (sym (ap (λ (x : Arrival). x.core) one ∙ is))) ∙ other in absurd (cc)) at

asked_on : (b : BoardValue) (v : Values) (c d : ℕ) (asked : PowerOn) (o : Opening) (t : Bool)
    → (c == target asked) ≡ t → cond t (Some asked.opening) (v.opening c) ≡ Some o
    → Source b v (AsksOn d asked) c o
asked_on b v c d asked o true same at =
    let is : asked.opening ≡ o = cc in
    Asked d asked refl (sym (eqb-true _ _ same)) is refl
asked_on b v c d asked o false other at = Kept at refl (λ a e. absurd (cc))

rested_or : (b : BoardValue) (v : Values) (c : ℕ) (rest : Rest) (m : MessageValue) (o : Opening)
    (made : Option Opening) → rest.opening ≡ made → option_or made (v.opening c) ≡ Some o
    → Source b v (Rests c rest m) c o
rested_or b v c rest m o None e at = Kept at refl (λ a e. absurd (cc))
rested_or b v c rest m o (Some own) e at = Rested rest m refl (e ∙ at) refl

rested : (b : BoardValue) (v : Values) (c d : ℕ) (rest : Rest) (m : MessageValue) (o : Opening)
    (t : Bool) → (c == d) ≡ t
    → cond t (option_or rest.opening (v.opening d)) (v.opening c) ≡ Some o
    → Source b v (Rests d rest m) c o
rested b v c d rest m o true same at =
    let is : c ≡ d = eqb-true _ _ same in
    subst (λ (x : ℕ). Source b v (Rests x rest m) c o) is
    (rested_or b v c rest m o rest.opening refl
    (ap (λ (x : ℕ). option_or rest.opening (v.opening x)) is ∙ at))
rested b v c d rest m o false other at = Kept at refl (λ a e. absurd (cc))

pub source : (b : BoardValue) (v : Values) (f : Effect) (c : ℕ) (o : Opening)
    → (change b f v).opening c ≡ Some o → Source b v f c o
source b v Nothing c o at = Kept at refl (λ a e. absurd (cc))
source b v (GoesOn d) c o at = Kept at refl (λ a e. absurd (cc))
source b v (SetsMode d mode) c o at = Kept at refl (λ a e. absurd (cc))
source b v (AsksOn d asked) c o at =
    asked_on b v c d asked o (c == target asked) refl at
source b v (Rests d rest m) c o at = rested b v c d rest m o (c == d) refl at
source b v (Halts d m) c o at = Kept at refl (λ a e. absurd (cc))
source b v (Stops d) c o at = Kept at refl (λ a e. absurd (cc))
source b v (Enters d s) c o at =
    entered b v (Enters d s) c d s o (c == d) refl refl refl at
source b v (Parks d s m) c o at =
    entered b v (Parks d s m) c d s o (c == d) refl refl refl at
source b v (StopsAtOnce d s) c o at =
    entered b v (StopsAtOnce d s) c d s o (c == d) refl refl refl at
source b v (Acknowledges a) c o at = Kept at refl (λ x e. absurd (cc))

-- What waits ------------------------------------------------------------------------------------

-- each opening that the firmware keeps, in a life, waits
abbrev pub AreWaiting : PlatformValue → List Record → Type 0
AreWaiting p past = (mpidr : ℕ) (o : Opening) → IsCore p mpidr
    → (firmware_values p.board (numbered p past)).opening (number p mpidr) ≡ Some o
    → 0 < life_of p past → Waits p past mpidr o

-- the boot core has the opening of a life's start
pub first_is : (p : PlatformValue) (c : ℕ) (o : Opening) → first_opening p.board c ≡ Some o
    → (c ≡ 0) × (o ≡ boot_opening p)
first_is p c o e = by_test (c == 0) refl e
  where
    by_test : (t : Bool) → (c == 0) ≡ t → cond t (Some (boot_opening p)) None ≡ Some o
        → (c ≡ 0) × (o ≡ boot_opening p)
    by_test true is e = (eqb-true c 0 is, cc)
    by_test false is e = absurd (cc)

-- one record, and those before it
pub none_one : (mpidr : ℕ) (r : Record)
    → ((o : Opening) (sent : Option Sent) → r.event ≡ Enter mpidr
    → r.said ≡ Fw (acts.Enter o.address o.context) sent → ⊥)
    → NoneEnters mpidr (r ∷ [])
none_one mpidr r none zero x o sent at event said =
    let same : r ≡ x = cc in
    none o sent (ap (λ (y : Record). y.event) same ∙ event)
    (ap (λ (y : Record). y.said) same ∙ said)
none_one mpidr r none (suc k) x o sent at event said = absurd (cc)

none_more : (mpidr : ℕ) (r : Record) (since : List Record) → NoneEnters mpidr (r ∷ [])
    → NoneEnters mpidr since → NoneEnters mpidr (r ∷ since)
none_more mpidr r since one rest zero x o sent at event said =
    one 0 x o sent at event said
none_more mpidr r since one rest (suc k) x o sent at event said =
    rest k x o sent at event said

-- What a record that comes down to an effect leaves waiting.
module _ (p : PlatformValue) (r : Record) (older : List Record) (laws : Laws p)
    (core : IsCore p p.boot) (boot : number p p.boot ≡ 0) (before : AreWaiting p older)
    (f : Effect) (now : firmware_values p.board (numbered p (r ∷ older))
    ≡ change p.board f (firmware_values p.board (numbered p older))) where
  abbrev v : Values
  v = firmware_values p.board (numbered p older)

  kept : (mpidr : ℕ) (o : Opening) → NoneEnters mpidr (r ∷ [])
      → life_of p (r ∷ older) ≡ life_of p older → Waits p older mpidr o
      → Waits p (r ∷ older) mpidr o
  kept mpidr o none same w = record {
    since = r ∷ w.since;
    before = w.before;
    split = ap (λ (rs : List Record). r ∷ rs) w.split;
    unused = none_more mpidr r w.since none w.unused;
    made = elim w.made [
      | inl by ↦ inl (by.0, by.1, by.2, by.3, by.4 ∙ sym same)
      | inr by ↦ inr (by.0, by.1, λ e. by.2 (e ∙ same))
    ];
  }

  by_source : (mpidr : ℕ) (o : Opening) → IsCore p mpidr → 0 < life_of p (r ∷ older)
      → (NotEntered f (number p mpidr) → NoneEnters mpidr (r ∷ []))
      → ((caller : ℕ) (asked : PowerOn) → f ≡ AsksOn caller asked
      → target asked ≡ number p mpidr → Opens p older r mpidr asked.opening)
      → ((rest : Rest) (m : MessageValue) → f ≡ Rests (number p mpidr) rest m
      → rest.opening ≡ Some o → Opens p older r mpidr o)
      → Source p.board v f (number p mpidr) o → Waits p (r ∷ older) mpidr o
  by_source mpidr o is some none on rests (Kept at same out) =
      let life : life_of p (r ∷ older) ≡ life_of p older =
      ap (λ (u : Values). u.life) now ∙ same in
      kept mpidr o (none out) life (before mpidr o is at (omega (arith, some, life)))
  by_source mpidr o is some none on rests (Begun at other out) =
      let first = first_is p (number p mpidr) o at in
      record {
        since = r ∷ [];
        before = older;
        split = refl;
        unused = none out;
        made = inr (
          only_one p mpidr p.boot laws is core (first.0 ∙ sym boot),
          first.1,
          λ e. other (e ∙ ap (λ (u : Values). u.life) now),
        );
      }
  by_source mpidr o is some none on rests (Asked caller asked e at own life) = record {
    since = [];
    before = r ∷ older;
    split = refl;
    unused = λ k x q sent none event said. absurd (cc);
    made = inl (r, older, refl, subst (Opens p older r mpidr) own (on caller asked e at), refl);
  }
  by_source mpidr o is some none on rests (Rested rest m e own life) = record {
    since = [];
    before = r ∷ older;
    split = refl;
    unused = λ k x q sent none event said. absurd (cc);
    made = inl (r, older, refl, rests rest m e own, refl);
  }

  pub leaves : (mpidr : ℕ) (o : Opening) → IsCore p mpidr
      → (firmware_values p.board (numbered p (r ∷ older))).opening (number p mpidr) ≡ Some o
      → 0 < life_of p (r ∷ older)
      → (NotEntered f (number p mpidr) → NoneEnters mpidr (r ∷ []))
      → ((caller : ℕ) (asked : PowerOn) → f ≡ AsksOn caller asked
      → target asked ≡ number p mpidr → Opens p older r mpidr asked.opening)
      → ((rest : Rest) (m : MessageValue) → f ≡ Rests (number p mpidr) rest m
      → rest.opening ≡ Some o → Opens p older r mpidr o)
      → Waits p (r ∷ older) mpidr o
  leaves mpidr o is at some none on rests =
      by_source mpidr o is some none on rests
      (source p.board v f (number p mpidr) o
      (ap (λ (u : Values). u.opening (number p mpidr)) (sym now) ∙ at))

-- For worked examples: the records by which an opening that waits may have been made --------------

-- an opening
abbrev pub at : ℕ → ℕ → Opening
at address context = record { address = address; context = context }

-- life 2 begins, and core 1 is woken
abbrev pub woken : List Event
woken = Enter 0x200 ∷ system_reset 0x200 ∷ Deliver 0 ∷ Wake 1 ∷ []

-- What has to hold of the records up to one, so that an opening that the last of them made waits.
module _ (p : PlatformValue) (past : List Record) (mpidr : ℕ) (o : Opening) where
  abbrev pub OfBoot : List Record → Type 0
  OfBoot before = (mpidr ≡ p.boot) × (o ≡ boot_opening p) × (life_of p before ≡ life_of p past → ⊥)

  abbrev pub Made : List Record → Type 0
  Made [] = OfBoot []
  Made (r ∷ older) =
      (Opens p older r mpidr o × (life_of p (r ∷ older) ≡ life_of p past)) ⊎ OfBoot (r ∷ older)

  abbrev pub ByRecord : List Record → Type 0
  ByRecord before =
      (r : Record) × (older : List Record) × (before ≡ r ∷ older) × Opens p older r mpidr o
      × (life_of p before ≡ life_of p past)

  opened : (x r : Record) (xs older : List Record) → x ∷ xs ≡ r ∷ older
      → Opens p older r mpidr o → Opens p xs x mpidr o
  opened x r xs older e is =
      let first : r ≡ x = cc in
      let rest : older ≡ xs = cc in
      subst (λ (y : Record). Opens p xs y mpidr o) first
      (subst (λ (ys : List Record). Opens p ys r mpidr o) rest is)

  made : (before : List Record) → ByRecord before ⊎ OfBoot before → Made before
  made [] by = elim by [
    | inl is ↦ let no = is.2 in absurd (cc)
    | inr is ↦ is
  ]
  made (x ∷ xs) by = elim by [
    | inl is ↦ inl (opened x is.0 xs is.1 is.2 is.3, is.4)
    | inr is ↦ inr is
  ]

-- Openings that wait -----------------------------------------------------------------------------

-- an accepted CPU_ON, and a suspend by a word that powers down
pub by_cpu_on : (caller mpidr : ℕ) (regs : Regs) (sent : Sent) (o : Opening)
    → request_of regs ≡ requests.CpuOn mpidr o.address o.context
    → ByCpuOn (record { event = Call caller regs; said = Fw (acts.Return success) (Some sent) })
    mpidr o
by_cpu_on caller mpidr regs sent o asks = record {
  caller = caller;
  regs = regs;
  sent = sent;
  event = refl;
  asks = asks;
  said = refl;
}

pub by_word : (p : PlatformValue) (mode : SuspendMode) (mpidr word : ℕ) (states : List ℕ)
    (regs : Regs) (sent : Sent) (o : Opening)
    → request_of regs ≡ requests.CpuSuspend word o.address o.context
    → states_of p.description mode word ≡ Some states
    → depth_at p.description 0 (slice_index states 0) ≡ 3
    → BySuspend p mode (record { event = Call mpidr regs; said = Fw acts.Stop (Some sent) }) mpidr o
by_word p mode mpidr word states regs sent o asks row deep = record {
  regs = regs;
  sent = sent;
  event = refl;
  asks = inl (word, asks, record { states = states; row = row; deep = deep });
  said = refl;
}

-- what the last record opened waits
pub waits_now : (p : PlatformValue) (mpidr : ℕ) (o : Opening) (r : Record) (older : List Record)
    → Opens p older r mpidr o → Waits p (r ∷ older) mpidr o
waits_now p mpidr o r older opens = record {
  since = [];
  before = r ∷ older;
  split = refl;
  unused = λ k r o sent found event said. absurd (cc);
  made = inl (r, older, refl, opens, refl);
}

pub none_enters : (mpidr : ℕ) (x : Record) → (x.event ≡ Enter mpidr → ⊥) → NoneEnters mpidr (x ∷ [])
none_enters mpidr x none = none_one mpidr x (λ o sent event said. none event)

-- also after one more record, in which the core does not enter
pub waits_since : (p : PlatformValue) (mpidr : ℕ) (o : Opening) (x r : Record) (older : List Record)
    → (x.event ≡ Enter mpidr → ⊥) → life_of p (r ∷ older) ≡ life_of p (x ∷ r ∷ older)
    → Opens p older r mpidr o → Waits p (x ∷ r ∷ older) mpidr o
waits_since p mpidr o x r older none life opens = record {
  since = x ∷ [];
  before = r ∷ older;
  split = refl;
  unused = none_enters mpidr x none;
  made = inl (r, older, refl, opens, life);
}

-- Openings that do not ---------------------------------------------------------------------------

-- which of the functions that open an entry point a request is: 0 for all others
abbrev pub opener : Request → ℕ
opener (requests.CpuOn target entry_point context) = 1
opener (requests.CpuSuspend state entry_point context) = 2
opener (requests.SystemSuspend entry_point context) = 3
opener request = 0

abbrev pub opener_in : Event → ℕ
opener_in (Call c regs) = opener (request_of regs)
opener_in event = 0

-- a record whose event is none of these opens nothing
never_opens : (p : PlatformValue) (r : Record) (older : List Record) (mpidr : ℕ) (o : Opening)
    → opener_in r.event ≡ 0 → Opens p older r mpidr o → ⊥
never_opens p r older mpidr o none by = elim by [
  | inl is ↦
      let no : 0 ≡ 1 = sym none ∙ ap opener_in is.event ∙ ap opener is.asks in
      absurd (omega (arith, no))
  | inr is ↦ elim is.asks [
    | inl cpu ↦
        let no : 0 ≡ 2 = sym none ∙ ap opener_in is.event ∙ ap opener cpu.1 in
        absurd (omega (arith, no))
    | inr system ↦
        let no : 0 ≡ 3 = sym none ∙ ap opener_in is.event ∙ ap opener system in
        absurd (omega (arith, no))
  ]
]

module _ (p : PlatformValue) (past : List Record) (mpidr : ℕ) (o : Opening) where
  -- A record made no opening for a core: it opens nothing or is of another life, and it is not what
  -- the boot core entered after in this life.
  abbrev pub NotMade : Record → List Record → Type 0
  NotMade r older =
      ((opener_in r.event ≡ 0) ⊎ (life_of p (r ∷ older) ≡ life_of p past → ⊥))
      × ((mpidr ≡ p.boot → ⊥) ⊎ (life_of p (r ∷ older) ≡ life_of p past))

  not_made : (r : Record) (older : List Record) → NotMade r older
      → Made p past mpidr o (r ∷ older) → ⊥
  not_made r older none m = elim m [
    | inl by ↦ elim none.0 [
      | inl never ↦ never_opens p r older mpidr o never by.0
      | inr other ↦ other by.1
    ]
    | inr by ↦ elim none.1 [
      | inl other ↦ other by.0
      | inr same ↦ by.2 same
    ]
  ]

  -- Where no record made an opening, up to the one by which a core entered at it: which is the one
  -- that so many came after, or there is none.
  abbrev pub NoneMade : ℕ → List Record → Type 0
  NoneMade k [] = Made p past mpidr o [] → ⊥
  NoneMade zero (r ∷ older) =
      NotMade r older × (r.event ≡ Enter mpidr) × (sent : Option Sent)
      × (r.said ≡ Fw (acts.Enter o.address o.context) sent)
  NoneMade (suc k) (r ∷ older) = NotMade r older × NoneMade k older

  first_made : (k : ℕ) (rest : List Record) → NoneMade k rest → Made p past mpidr o rest → ⊥
  first_made k [] none = none
  first_made zero (r ∷ older) none = not_made r older none.0
  first_made (suc k) (r ∷ older) none = not_made r older none.0

  none_before : (k : ℕ) (since before : List Record) → NoneMade k (since ++ before)
      → NoneEnters mpidr since → Made p past mpidr o before → ⊥
  none_before k [] before none unused m = first_made k before none m
  none_before zero (r ∷ since) before none unused m = unused 0 r o none.2 refl none.1 none.3
  none_before (suc k) (r ∷ since) before none unused m =
      none_before k since before none.1 (λ j. unused (suc j)) m

  -- such an opening does not wait
  pub never_waits : (k : ℕ) → NoneMade k past → Waits p past mpidr o → ⊥
  never_waits k none w = grind (arith, none_before, made)

  -- so an entry at it breaks sentence 4, if it begins no life
  pub never_enters : (k : ℕ) → NoneMade k past
      → ((mpidr ≡ p.boot) × (o ≡ boot_opening p)
      × (life_of p past ≡ life_of p (says past (Enter mpidr) (enters o.address o.context)) → ⊥)
      → ⊥)
      → OneEntryEach p (says past (Enter mpidr) (enters o.address o.context)) → ⊥
  never_enters k none other one = grind (arith, never_waits)
