-- What the firmware of a swapped boot core is asked is what it would be asked if core 0 booted, of
-- the swapped cores and domains.
use Rattle.std.specs.Prelude.{is_some, slice_get}
use Rattle.std.proofs.Common.{Contains, set, slice_index_or}
use Rattle.std.proofs.lemmas.List.Elements.{All-contains, All-replicate, All-set, All-weaker}
use Rattle.std.proofs.lemmas.List.Folds.{list_all_at}
use Rattle.std.proofs.lemmas.List.Sums.{passes_at_first}
use Rattle.std.proofs.lemmas.Option.{get_or_from_slice_get, slice_get-get_or, slice_get_within}
use Rattle.psci_abi.specs.Calls.{is_wide}
use Rattle.psci_abi.specs.declared.request.Request.TheVariants as requests
use Rattle.psci_abi.specs.declared.request.Request.TheVariants.{Unknown}
use Rattle.psci_fw_laws.specs.Renumbered.{AsksBy, core_by, node_by}
use Rattle.psci_platform.specs.Calls.{regs_for}
use Rattle.psci_platform.specs.Names.{are_found, HasNames, name_in, own_name, slot_of}
use Rattle.psci_platform.specs.declared.names.Table.{Table}
use Rattle.psci_platform.proofs.ByWord.{some_count}
use Rattle.psci_platform.proofs.Named.{BoardLaws, boots_first, found, own_place, symmetric}
use Rattle.psci_platform.proofs.Swapped.{core_inside, renumbers_by_swap}
use Rattle.psci_platform.proofs.Words.{◌*◌, ◌/◌, ◌<◌, ◌==◌, ◌^◌, ◌||◌, ◌∙◌, ◌≡◌, ◌≤◌, address}
use Rattle.psci_platform.proofs.Words.{All, ap, AreAmong, AreNames, argument, arith, ask_of}
use Rattle.psci_platform.proofs.Words.{BoardValue, Bool, boot_place, core_named, core_of}
use Rattle.psci_platform.proofs.Words.{core_word, cores, DescriptionValue, Err, Extended, false}
use Rattle.psci_platform.proofs.Words.{fault_of, first_argument, Format, function_of, height}
use Rattle.psci_platform.proofs.Words.{IfSome, if◌then◌else◌, is_symmetric, is_there, IsBoard}
use Rattle.psci_platform.proofs.Words.{IsName, IsRenumbering, length, List, low_half, Name}
use Rattle.psci_platform.proofs.Words.{nat_tests, no_core, no_state, Node, node_of, None}
use Rattle.psci_platform.proofs.Words.{number_named, Option, option_map, Original, PathLaws}
use Rattle.psci_platform.proofs.Words.{position_or_len, refl, Regs, replicate, Request}
use Rattle.psci_platform.proofs.Words.{request_of, Some, subst, suc, SuspendMode, swap_for, sym}
use Rattle.psci_platform.proofs.Words.{true, up, word_if, WordLaws, ℕ}

-- Words that name nothing -------------------------------------------------------------------------

pub no_function_is_known : (d : DescriptionValue) (b : BoardValue) (boot : ℕ)
    (mode : SuspendMode) (regs : Regs) → is_there d.functions (request_of regs) ≡ false
    → request_of (regs_for d b boot mode regs) ≡ Unknown
unfolding regs_for
no_function_is_known d b boot mode regs e = rw e refl

pub no_power_state : (format : Format) (height : ℕ)
    → ask_of format height no_state ≡ Err (record {})
no_power_state Original height = refl
no_power_state Extended height = refl

none_if : {A : Type 0} → (o : Option A) → ((x : A) → o ≡ Some x → ⊥) → o ≡ None
none_if None never = refl
none_if (Some x) never = absurd (never x refl)

-- no word of 24 bits has its fields
apart : (level word : ℕ) → level ≤ 3 → word < 2 ^ 24
    → 0xFFFFFFFF / 2 ^ (8 * level) ≡ word / 2 ^ (8 * level) → ⊥
apart (suc (suc (suc (suc level)))) word most small e = omega (arith, most)
apart level word most small e = omega (arith, small, e)

pub no_core_is_named : (b : BoardValue) → WordLaws b → core_of b no_core ≡ None
no_core_is_named b words = none_if (core_of b no_core) (λ c e.
    omega (arith, words.core_fields no_core c e, words.short c.number (words.core no_core c e)))

pub no_node_is_named : (b : BoardValue) → IsBoard b → WordLaws b → (level : ℕ)
    → node_of b no_core level ≡ None
no_node_is_named b board words level = none_if (node_of b no_core level) (λ n e.
    let has = words.node no_core level n e in
    let word = words.some_word n has in
    let is = words.level no_core level n e in
    let known = words.fields word.0 n.level n word.2 in
    let there = subst (λ (l : ℕ). address b l n.place ≡ word.0 / 2 ^ (8 * l)) is known in
    let same = sym (words.fields no_core level n e) ∙ there in
    apart level word.0 (omega (arith, is, has.level, board.high)) word.1 same)

-- What the names of a level say holds of the cores that are searched by them ----------------------

-- Making ---------------------------------------------------------------------------------------

-- what holds of all names holds of those in slots
pub each_of : (d : DescriptionValue) (b : BoardValue) (boot level : ℕ) (names slots : List Name)
    → All (IsName d b boot level) names → AreAmong names slots → All (IsName d b boot level) slots
each_of d b boot level names slots all among =
    All-weaker (Contains names) (IsName d b boot level)
    (λ n has. All-contains (IsName d b boot level) names n all has) slots among.each

-- a name of the list goes into a slot
pub one_put : (names slots : List Name) (i k : ℕ) → AreAmong names slots → k < length names
    → (n : Name) → n ≡ slice_index_or names k n → AreAmong names (set slots i n)
one_put names slots i k among below n is =
    record { each = All-set (Contains names) slots i n (k, below, sym is) among.each }

-- and into all
pub one_in_all : (names : List Name) (many k : ℕ) → k < length names
    → (n : Name) → n ≡ slice_index_or names k n → AreAmong names (replicate many n)
one_in_all names many k below n is =
    record { each = All-replicate (Contains names) many n (k, below, sym is) }

-- a table of all names has them
pub has_names : (d : DescriptionValue) (b : BoardValue) (boot level : ℕ) (names : List Name)
    (t : Table) → All (IsName d b boot level) names → AreAmong names t.slots.items
    → are_found d.mpidrs level t.slots.items t.factor t.mask ≡ true → HasNames d b boot level t
has_names d b boot level names t all among found =
    record { each = each_of d b boot level names t.slots.items all among; found = found }

-- Finding --------------------------------------------------------------------------------------

own_is : (fields : ℕ) (o : Option Name) (n : Name) → own_name fields o ≡ Some n
    → (o ≡ Some n) × (n.fields ≡ fields)
own_is fields o n e = grind (arith, nat_tests)

-- a name that is found
abbrev Found : Table → ℕ → Name → Type 0
Found t fields n = name_in t.slots.items t.factor t.mask fields ≡ Some n

module _ (d : DescriptionValue) (b : BoardValue) (boot level fields : ℕ) (t : Table) (n : Name)
    (has : HasNames d b boot level t) (e : Found t fields n) where
  name_is : IsName d b boot level n × (n.fields ≡ fields)
  name_is =
      let slots = t.slots.items in
      let i = slot_of t.factor t.mask fields in
      let own = own_is fields (slice_get slots i) n e in
      let among : Contains slots n =
      (i, slice_get_within slots i n own.0, get_or_from_slice_get slots i n n own.0) in
      (All-contains (IsName d b boot level) slots n has.each among, own.1)

  pub inside : n.core.number < cores b
  inside = name_is.0.inside

module _ (d : DescriptionValue) (b : BoardValue) (boot level mpidr : ℕ) (t : Table) where
  abbrev fields : ℕ
  fields = mpidr / 2 ^ (8 * level)

  pub number_found : (n : Name) → HasNames d b boot level t → Found t fields n
      → number_named d b boot mpidr level ≡ Some n.core.number
  number_found n has e =
      let is = name_is d b boot level fields t n has e in is.0.core mpidr (sym is.1)

  pub word_found : (n : Name) → HasNames d b boot level t → Found t fields n
      → n.word ≡ core_word d b boot mpidr level
  word_found n has e =
      (name_is d b boot level fields t n has e).0.word
      ∙ sym (ap (word_if b) (number_found n has e))

  -- an MPIDR of which no name is found is none of the description
  pub number_missed : HasNames d b boot level t
      → name_in t.slots.items t.factor t.mask fields ≡ None
      → number_named d b boot mpidr level ≡ None
  unfolding are_found
  number_missed has none =
      let same = λ (m : ℕ). m / 2 ^ (8 * level) == fields in
      let found = λ (m : ℕ).
      is_some (name_in t.slots.items t.factor t.mask (m / 2 ^ (8 * level))) in
      grind (
        arith,
        nat_tests,
        has.found,
        passes_at_first same d.mpidrs 0,
        list_all_at found d.mpidrs (position_or_len same d.mpidrs) 0,
      )

  pub word_missed : HasNames d b boot level t
      → name_in t.slots.items t.factor t.mask fields ≡ None
      → no_core ≡ core_word d b boot mpidr level
  word_missed has none = sym (ap (word_if b) (number_missed has none))

  -- and one is found exactly where it names a core
  pub kept_core : {A : Type 0} (o : Option A) (v : A → Name) → HasNames d b boot level t
      → option_map v o ≡ name_in t.slots.items t.factor t.mask fields
      → is_some o ≡ is_some (number_named d b boot mpidr level)
  kept_core None v has e = sym (ap is_some (number_missed has (sym e)))
  kept_core (Some x) v has e = sym (ap is_some (number_found (v x) has (sym e)))

-- which core is named, by a table
pub ruleset by_name = (inside, number_found, number_missed)

-- the table at a level is its
pub table_at : (d : DescriptionValue) (b : BoardValue) (boot level : ℕ) (ts : List Table)
    (t : Table) → AreNames d b boot ts → level < length ts → t ≡ slice_index_or ts level t
    → HasNames d b boot level t
table_at d b boot level ts t each below is =
    let here : slice_get ts level ≡ Some t =
    slice_get-get_or ts level t below ∙ ap (λ (u : Table). Some u) (sym is) in
    subst (λ (o : Option Table). IfSome o (HasNames d b boot level)) here (each level)

-- Requests that differ in their first argument ----------------------------------------------------

-- the same request with this first argument
abbrev pub with_first : ℕ → Request → Request
with_first w (requests.CpuSuspend state entry_point context) =
    requests.CpuSuspend (low_half w) entry_point context
with_first w (requests.CpuOn target entry_point context) = requests.CpuOn w entry_point context
with_first w (requests.AffinityInfo level target) = requests.AffinityInfo level w
with_first w (requests.Features word) = requests.Features (low_half w)
with_first w (requests.NodeHwState level target) = requests.NodeHwState level w
with_first w (requests.SystemSuspend entry_point context) = requests.SystemSuspend w context
with_first w (requests.SetSuspendMode mode) = requests.SetSuspendMode (low_half w)
with_first w (requests.SystemReset2 reset_type cookie) =
    requests.SystemReset2 (low_half w) cookie
with_first w r = r

step : (w : ℕ) (t : Bool) (a b x y : Request) → with_first w a ≡ x → with_first w b ≡ y
    → with_first w (if t then a else b) ≡ (if t then x else y)
step w true a b x y e f = e
step w false a b x y e f = f

replaced : (k w x1 x2 x3 : ℕ) → with_first w (function_of k x1 x2 x3) ≡ function_of k w x2 x3
replaced k w x1 x2 x3 =
    step w (k == 0x84000000) _ _ _ _ refl
    (step w (k == 0x84000001 || k == 0xC4000001) _ _ _ _ refl
    (step w (k == 0x84000002) _ _ _ _ refl
    (step w (k == 0x84000003 || k == 0xC4000003) _ _ _ _ refl
    (step w (k == 0x84000004 || k == 0xC4000004) _ _ _ _ refl
    (step w (k == 0x84000006) _ _ _ _ refl
    (step w (k == 0x84000008) _ _ _ _ refl
    (step w (k == 0x84000009) _ _ _ _ refl
    (step w (k == 0x8400000A) _ _ _ _ refl
    (step w (k == 0x8400000D || k == 0xC400000D) _ _ _ _ refl
    (step w (k == 0x8400000E || k == 0xC400000E) _ _ _ _ refl
    (step w (k == 0x8400000F) _ _ _ _ refl
    (step w (k == 0x84000012 || k == 0xC4000012) _ _ _ _ refl refl))))))))))))

-- the request of registers with another first argument
pub request_with : (regs : Regs) (w : ℕ)
    → request_of (record regs { x1 = w }) ≡ with_first (argument regs w) (request_of regs)
request_with regs w =
    sym (replaced (low_half regs.x0) (argument regs w) (argument regs regs.x1)
    (argument regs regs.x2) (argument regs regs.x3))

-- an argument of 32 bits is passed whole by both conventions
short_if : (t : Bool) (w : ℕ) → w < 2 ^ 32 → (if t then w else low_half w) ≡ w
short_if t w h = grind arith

pub short : (regs : Regs) (w : ℕ) → w < 2 ^ 32 → argument regs w ≡ w
short regs w h = short_if (is_wide regs) w h

-- a word of 32 bits is read as it is
pub half_of : (regs : Regs) (w : ℕ) → w < 2 ^ 32 → low_half (argument regs w) ≡ w
half_of regs w small = ap low_half (short regs w small) ∙ omega (arith, small)

-- Swapping ----------------------------------------------------------------------------------------

-- What names stand on: the core at this place boots, and there is an MPIDR for each core.
pub record Laws (d : DescriptionValue) (b : BoardValue) (boot : ℕ) : Type 0 where
  pub board : IsBoard b
  pub paths : PathLaws b
  pub words : WordLaws b
  pub is : is_symmetric b boot ≡ true
  pub count : length d.mpidrs ≡ cores b

pub laws_of : (d : DescriptionValue) (b : BoardValue) (boot : ℕ) → BoardLaws b
    → fault_of d b boot ≡ None → Laws d b (boot_place d b boot)
laws_of d b boot on none = record {
  board = on.board;
  paths = on.tree.paths;
  words = on.words;
  is = symmetric d b boot on.tree none;
  count = some_count d b boot none;
}

-- core 0 may boot, too
pub at_zero : (d : DescriptionValue) (b : BoardValue) → BoardLaws b → length d.mpidrs ≡ cores b
    → Laws d b 0
at_zero d b on count = record {
  board = on.board;
  paths = on.tree.paths;
  words = on.words;
  is = boots_first b on.tree;
  count = count;
}

-- What an MPIDR names --------------------------------------------------------------------------

-- the core and the domain above it that a word names, of the firmware's number for a core
module _ (d : DescriptionValue) (b : BoardValue) (boot : ℕ) (laws : Laws d b boot) where
  pub renumbering : IsRenumbering b (swap_for b boot)
  renumbering = renumbers_by_swap b boot laws.board laws.paths laws.is

  number_inside : (mpidr level c : ℕ) → core_named d b mpidr level ≡ Some c
      → swap_for b boot 0 c < cores b
  number_inside mpidr level c e =
      core_inside b boot c laws.is (omega (arith, (found d b mpidr level c e).inside, laws.count))

  short_by : (mpidr level : ℕ) (o : Option ℕ) → core_named d b mpidr level ≡ o
      → word_if b (option_map (swap_for b boot 0) o) < 2 ^ 32
  short_by mpidr level None e = omega arith
  short_by mpidr level (Some c) e =
      omega (arith, laws.words.short _ (number_inside mpidr level c e))

  pub word_short : (mpidr level : ℕ) → core_word d b boot mpidr level < 2 ^ 32
  word_short mpidr level = short_by mpidr level (core_named d b mpidr level) refl

  core_at : (mpidr : ℕ) (o : Option ℕ) → core_named d b mpidr 0 ≡ o
      → core_of b (word_if b (option_map (swap_for b boot 0) o))
      ≡ option_map (λ c. record { number = c }) (option_map (swap_for b boot 0) o)
  core_at mpidr None e = no_core_is_named b laws.words
  core_at mpidr (Some c) e = laws.words.core_named _ (number_inside mpidr 0 c e)

  pub core_is : (mpidr : ℕ) → core_of b (core_word d b boot mpidr 0)
      ≡ option_map (λ c. record { number = c }) (number_named d b boot mpidr 0)
  core_is mpidr = core_at mpidr (core_named d b mpidr 0) refl

  node_at : (mpidr level : ℕ) (o : Option ℕ) → core_named d b mpidr level ≡ o
      → node_of b (word_if b (option_map (swap_for b boot 0) o)) level
      ≡ option_map (λ c. record { level = level; place = up b level c })
      (option_map (swap_for b boot 0) o)
  node_at mpidr level None e = no_node_is_named b laws.board laws.words level
  node_at mpidr level (Some c) e =
      laws.words.path _ level (number_inside mpidr level c e) (found d b mpidr level c e).low

  pub node_is : (mpidr level : ℕ) → node_of b (core_word d b boot mpidr level) level
      ≡ option_map (λ c. record { level = level; place = up b level c })
      (number_named d b boot mpidr level)
  node_is mpidr level = node_at mpidr level (core_named d b mpidr level) refl

-- The words of a call -------------------------------------------------------------------------

module _ (d : DescriptionValue) (b : BoardValue) (boot : ℕ) (on : BoardLaws b)
    (laws : Laws d b boot) (regs : Regs) where
  core_moved : (o : Option ℕ)
      → option_map (λ c. record { number = c }) (option_map (swap_for b boot 0) o)
      ≡ option_map (core_by (swap_for b boot))
      (option_map (λ c. record { number = c }) (option_map (swap_for b 0 0) o))
  core_moved None = refl
  core_moved (Some c) = rw (own_place b 0 c on.tree) refl

  core_asked : (mpidr : ℕ) → core_of b (argument regs (core_word d b boot mpidr 0))
      ≡ option_map (core_by (swap_for b boot))
      (core_of b (argument regs (core_word d b 0 mpidr 0)))
  core_asked mpidr =
      let zero = at_zero d b on laws.count in
      ap (core_of b) (short regs _ (word_short d b boot laws mpidr 0)) ∙ core_is d b boot laws mpidr
      ∙ core_moved (core_named d b mpidr 0)
      ∙ sym (ap (option_map (core_by (swap_for b boot)))
      (ap (core_of b) (short regs _ (word_short d b 0 zero mpidr 0)) ∙ core_is d b 0 zero mpidr))

  node_moved : (level : ℕ) (o : Option ℕ)
      → option_map (λ c. record { level = level; place = up b level c })
      (option_map (swap_for b boot 0) o)
      ≡ option_map (node_by (swap_for b boot))
      (option_map (λ c. record { level = level; place = up b level c })
      (option_map (swap_for b 0 0) o))
  node_moved level None = refl
  node_moved level (Some c) =
      rw (own_place b 0 c on.tree, (renumbering d b boot laws).above level c) refl

  node_asked : (mpidr level : ℕ)
      → node_of b (argument regs (core_word d b boot mpidr level)) level
      ≡ option_map (node_by (swap_for b boot))
      (node_of b (argument regs (core_word d b 0 mpidr level)) level)
  node_asked mpidr level =
      let zero = at_zero d b on laws.count in
      let named : ℕ → Option Node = λ w. node_of b w level in
      ap named (short regs _ (word_short d b boot laws mpidr level))
      ∙ node_is d b boot laws mpidr level ∙ node_moved level (core_named d b mpidr level)
      ∙ sym (ap (option_map (node_by (swap_for b boot)))
      (ap named (short regs _ (word_short d b 0 zero mpidr level))
      ∙ node_is d b 0 zero mpidr level))

-- a request with its first argument as the firmware is asked, where the core at this place boots
abbrev told : DescriptionValue → BoardValue → ℕ → SuspendMode → Regs → Request → Request
told d b boot mode regs r =
    with_first (argument regs (first_argument d b boot mode regs.x1 r)) r

request_by : (d : DescriptionValue) (b : BoardValue) (boot : ℕ) (mode : SuspendMode)
    (regs : Regs) (r : Request) → BoardLaws b → Laws d b boot
    → AsksBy b (swap_for b boot) (told d b 0 mode regs r) (told d b boot mode regs r)
request_by d b boot mode regs (requests.CpuOn target e c) on laws =
    (_, core_asked d b boot on laws regs target, refl)
request_by d b boot mode regs (requests.AffinityInfo level target) on laws =
    (_, node_asked d b boot on laws regs target level, refl)
request_by d b boot mode regs (requests.NodeHwState level target) on laws =
    (_, node_asked d b boot on laws regs target level, refl)
request_by d b boot mode regs r on laws = refl

call_by : (d : DescriptionValue) (b : BoardValue) (boot : ℕ) (mode : SuspendMode) (regs : Regs)
    (t : Bool) → is_there d.functions (request_of regs) ≡ t → BoardLaws b
    → Laws d b boot → AsksBy b (swap_for b boot) (request_of (regs_for d b 0 mode regs))
    (request_of (regs_for d b boot mode regs))
unfolding regs_for
call_by d b boot mode regs true e on laws =
    let r = request_of regs in
    rw e (subst (λ (q : Request). AsksBy b (swap_for b boot) q
    (request_of (record regs { x1 = first_argument d b boot mode regs.x1 r })))
    (sym (request_with regs (first_argument d b 0 mode regs.x1 r)))
    (subst (λ (q : Request). AsksBy b (swap_for b boot) (told d b 0 mode regs r) q)
    (sym (request_with regs (first_argument d b boot mode regs.x1 r)))
    (request_by d b boot mode regs r on laws)))
call_by d b boot mode regs false e on laws = rw e refl

pub calls_by_swap : (d : DescriptionValue) (b : BoardValue) (boot : ℕ) (mode : SuspendMode)
    (regs : Regs) → BoardLaws b
    → Laws d b boot → AsksBy b (swap_for b boot) (request_of (regs_for d b 0 mode regs))
    (request_of (regs_for d b boot mode regs))
calls_by_swap d b boot mode regs =
    call_by d b boot mode regs (is_there d.functions (request_of regs)) refl
