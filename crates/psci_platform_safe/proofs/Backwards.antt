-- What the firmware is asked for a call that names a core or a domain, and what a platform was
-- asked where the firmware was asked to open an entry point.
use Rattle.psci_platform_safe.proofs.Words.{[], ◌*◌, ◌+◌, ◌<◌, ◌^◌, ◌∙◌, ◌≡◌, ◌≤◌, ◌⊎◌, ap}
use Rattle.psci_platform_safe.proofs.Words.{argument, arith, asks_states, BadState, Bool}
use Rattle.psci_platform_safe.proofs.Words.{cases_Bool, cond, Core, core_inside, core_of, core_word}
use Rattle.psci_platform_safe.proofs.Words.{cores, depth_at, depths_of, DescriptionValue, eqb-true}
use Rattle.psci_platform_safe.proofs.Words.{false, first_argument, half_of, height, inl, inr}
use Rattle.psci_platform_safe.proofs.Words.{is_there, IsPlatform, List, None, number, Opening}
use Rattle.psci_platform_safe.proofs.Words.{Option, option_map, PlatformValue, refl, Regs, regs_for}
use Rattle.psci_platform_safe.proofs.Words.{Request, request_of, request_with, rest_named, rest_of}
use Rattle.psci_platform_safe.proofs.Words.{Result, short, Some, states_of, SuspendMode, swap_for}
use Rattle.psci_platform_safe.proofs.Words.{sym, true, unwrap_or, with_first, word_for, ℕ}
use Rattle.psci_platform.specs.Calls.{regs_for}
use Rattle.psci_platform.specs.Cores.{word_if}
use Rattle.psci_platform_safe.proofs.Moments.{Laws, named_inside}
use Rattle.std.specs.Prelude.{Err, Ok, slice_index_or}
use Rattle.psci_platform.specs.declared.class.Class.{Class}
use Rattle.psci_platform.specs.declared.class.Class.TheVariants.{PowerDown, Running}
use Rattle.psci_platform.specs.States.{depth_of}
use Rattle.psci_headline.specs.psci_abi.declared.registers.Format.{Format}
use Rattle.psci_headline.specs.psci_abi.declared.registers.Format.TheVariants.{Extended, Original}
use Rattle.psci_headline.specs.psci_state.PowerState.{ask_of, deepest_of, is_deep, word_of}
use Rattle.psci_platform_safe.specs.Safe.{IsPowerDown}
use Rattle.psci_platform.proofs.Swaps.{no_function_is_known}
use Rattle.psci_platform.proofs.OwnStates.{state_laws}
use Rattle.psci_headline.specs.psci_abi.declared.request.Request.TheVariants as requests
use Rattle.psci_platform.proofs.OwnStates as asked

-- What is asked ---------------------------------------------------------------------------------

-- the word of the board for a core has no more than 32 bits
word_short : (p : PlatformValue) (o : Option ℕ) → Laws p
    → ((c : ℕ) → o ≡ Some c → c < cores p.board) → word_if p.board o < 2 ^ 32
word_short p None laws inside = omega arith
word_short p (Some c) laws inside = omega (arith, laws.words.short c (inside c refl))

inside_if : (p : PlatformValue) (o : Option ℕ) (c : ℕ) → Laws p
    → ((place : ℕ) → o ≡ Some place → place < cores p.board)
    → option_map (swap_for p.board p.place 0) o ≡ Some c → c < cores p.board
inside_if p None c laws inside e = absurd (cc)
inside_if p (Some place) c laws inside e = grind (arith, core_inside)

pub core_short : (p : PlatformValue) (word level : ℕ) → Laws p
    → core_word p.description p.board p.place word level < 2 ^ 32
core_short p word level laws = grind (arith, word_short, inside_if, named_inside)

-- the request of the firmware for one of the platform that is there
pub told : (p : PlatformValue) (mode : SuspendMode) (regs : Regs) (r : Request)
    → request_of regs ≡ r → is_there p.description.functions r ≡ true
    → request_of (regs_for p.description p.board p.place mode regs)
    ≡ with_first (argument regs (first_argument p.description p.board p.place mode regs.x1 r)) r
unfolding regs_for
told p mode regs r e there = grind (arith, request_with)

-- a request that names a core or a domain asks of the board's word for it
pub affinity_told : (p : PlatformValue) (mode : SuspendMode) (regs : Regs) (word level : ℕ)
    → Laws p → request_of regs ≡ requests.AffinityInfo level word
    → request_of (regs_for p.description p.board p.place mode regs)
    ≡ requests.AffinityInfo level (core_word p.description p.board p.place word level)
affinity_told p mode regs word level laws e =
    told p mode regs (requests.AffinityInfo level word) e refl
    ∙ ap (λ (w : ℕ). requests.AffinityInfo level w)
    (short regs (core_word p.description p.board p.place word level)
    (core_short p word level laws))

pub hw_told : (p : PlatformValue) (mode : SuspendMode) (regs : Regs) (word level : ℕ)
    → Laws p → request_of regs ≡ requests.NodeHwState level word
    → p.description.functions.node_hw_state ≡ true
    → request_of (regs_for p.description p.board p.place mode regs)
    ≡ requests.NodeHwState level (core_word p.description p.board p.place word level)
hw_told p mode regs word level laws e there =
    told p mode regs (requests.NodeHwState level word) e there
    ∙ ap (λ (w : ℕ). requests.NodeHwState level w)
    (short regs (core_word p.description p.board p.place word level)
    (core_short p word level laws))

-- CPU_ON ----------------------------------------------------------------------------------------

-- A CPU_ON of the firmware is one of the platform, of the core that its word names.
pub record AsksOn (p : PlatformValue) (regs : Regs) (word address context : ℕ) : Type 0 where
  pub target : ℕ
  pub asks : request_of regs ≡ requests.CpuOn target address context
  pub named : word ≡ core_word p.description p.board p.place target 0

on_there : (p : PlatformValue) (mode : SuspendMode) (regs : Regs) (r : Request)
    (word address context : ℕ) → Laws p → request_of regs ≡ r
    → with_first (argument regs (first_argument p.description p.board p.place mode regs.x1 r)) r
    ≡ requests.CpuOn word address context → AsksOn p regs word address context
on_there p mode regs (requests.CpuOn target a x) word address context laws is e =
    let own = core_word p.description p.board p.place target 0 in
    let one : argument regs own ≡ word = cc in
    record {
      target = target;
      asks = cc;
      named = sym one ∙ short regs own (core_short p target 0 laws);
    }
on_there p mode regs r word address context laws is e = absurd (cc)

pub on_back : (p : PlatformValue) (mode : SuspendMode) (regs : Regs) (word address context : ℕ)
    → Laws p
    → request_of (regs_for p.description p.board p.place mode regs)
    ≡ requests.CpuOn word address context → AsksOn p regs word address context
on_back p mode regs word address context laws e =
    elim (cases_Bool (is_there p.description.functions (request_of regs))) [
      | inl there ↦
          on_there p mode regs (request_of regs) word address context laws refl
          (sym (told p mode regs (request_of regs) refl there) ∙ e)
      | inr none ↦
          let no : requests.Unknown ≡ requests.CpuOn word address context =
          sym (no_function_is_known p.description p.board p.place mode regs none) ∙ e in
          absurd (cc)
    ]

some_number : (o : Option ℕ) (core : Core) (other : ℕ)
    → option_map (λ c. record { number = c }) o ≡ Some core → unwrap_or o other ≡ core.number
some_number None core other e = absurd (cc)
some_number (Some c) core other e =
    cc

-- the core that its word names has this number
pub target_number : (p : PlatformValue) (target : ℕ) (core : Core) → Laws p
    → core_of p.board (core_word p.description p.board p.place target 0) ≡ Some core
    → number p target ≡ core.number
target_number p target core laws e = grind (arith, some_number)

-- Suspends --------------------------------------------------------------------------------------

class_small : (c : Class) → depth_of c ≤ 3
class_small Running = omega arith
class_small c = omega arith

type_small : (t : Bool) → cond t 1 0 ≤ 1
type_small t = grind arith

high_small : (r s t : Bool) → cond r 3 (cond s 2 (cond t 1 0)) ≤ 3
high_small r s t = grind arith

depth_small : (d : DescriptionValue) (level number : ℕ) → depth_at d level number ≤ 3
depth_small d level number =
    class_small (slice_index_or (slice_index_or d.classes level []) number PowerDown)

all_small : (a b c e t h : ℕ) → a ≤ 3 → b ≤ 3 → c ≤ 3 → e ≤ 3 → t ≤ 1 → h ≤ 3
    → a + 2 ^ 4 * b + 2 ^ 8 * c + 2 ^ 12 * e + 2 ^ 16 * t + 2 ^ 24 * h < 2 ^ 32
all_small a b c e t h i j k l m n = omega (arith, i, j, k, l, m, n)

few_small : (a b c e t : ℕ) → a ≤ 3 → b ≤ 3 → c ≤ 3 → e ≤ 3 → t ≤ 1
    → a + 2 ^ 4 * b + 2 ^ 8 * c + 2 ^ 12 * e + 2 ^ 30 * t < 2 ^ 32
few_small a b c e t i j k l m = omega (arith, i, j, k, l, m)

word_small : (d : DescriptionValue) (states : List ℕ) (format : Format)
    → word_of format (depths_of d states) < 2 ^ 32
word_small d states Original = grind (arith, all_small, depth_small, type_small, high_small)
word_small d states Extended = grind (arith, few_small, depth_small, type_small)

asking_small : (t : Bool) (word : ℕ) → word < 2 ^ 32 → cond t word 0xFFFFFFFF < 2 ^ 32
asking_small t word small = grind arith

pub for_small : (d : DescriptionValue) (format : Format) (o : Option (List ℕ))
    → word_for d format o < 2 ^ 32
for_small d format None = omega arith
for_small d format (Some states) = grind (arith, asking_small, word_small)

-- the states of a word are what the firmware reads in the word that it is asked
pub is_read : (p : PlatformValue) (mode : SuspendMode) (word : ℕ) (states : List ℕ)
    → IsPlatform p → states_of p.description mode word ≡ Some states
    → ask_of p.board.format (height p.board)
    (word_for p.description p.board.format (states_of p.description mode word))
    ≡ Ok (depths_of p.description states)
is_read p mode word states is e =
    asked.told p.description p.board p.boot p.place 0 mode word 0 0 states state_laws is.faultless
    (ap asks_states e)

-- and it reads none where there are none
pub none_read : (p : PlatformValue) (mode : SuspendMode) (word : ℕ)
    → states_of p.description mode word ≡ None
    → ask_of p.board.format (height p.board)
    (word_for p.description p.board.format (states_of p.description mode word))
    ≡ Err (record {})
none_read p mode word e =
    asked.silent p.description p.board p.place 0 mode word 0 0 (ap asks_states e)

opening_if : (t : Bool) (own o : Opening) → cond t (Some own) None ≡ Some o
    → (t ≡ true) × (own ≡ o)
opening_if true own o e = (refl, cc)
opening_if false own o e = absurd (cc)

-- What a suspend of the platform asked that opened an entry point.
abbrev pub AsksSuspend : PlatformValue → SuspendMode → Regs → Opening → Type 0
AsksSuspend p mode regs o =
    ((word : ℕ) × (request_of regs ≡ requests.CpuSuspend word o.address o.context)
    × IsPowerDown p mode word)
    ⊎ (request_of regs ≡ requests.SystemSuspend o.address o.context)

-- CPU_SUSPEND: the word's states power down the core
suspend_if : (p : PlatformValue) (mode : SuspendMode) (regs : Regs) (word a x : ℕ) (o : Opening)
    (states : Option (List ℕ)) → IsPlatform p
    → request_of regs ≡ requests.CpuSuspend word a x
    → states_of p.description mode word ≡ states
    → (rest_named (record { address = a; context = x })
    (ask_of p.board.format (height p.board)
    (word_for p.description p.board.format (states_of p.description mode word)))).opening ≡ Some o
    → AsksSuspend p mode regs o
suspend_if p mode regs word a x o None own is e at =
    let no : None ≡ Some o =
    ap (λ (r : Result (List ℕ) BadState).
    (rest_named (record { address = a; context = x }) r).opening)
    (sym (none_read p mode word e)) ∙ at in
    absurd (cc)
suspend_if p mode regs word a x o (Some states) own is e at =
    let here : (rest_named (record { address = a; context = x })
    (Ok (depths_of p.description states))).opening ≡ Some o =
    ap (λ (r : Result (List ℕ) BadState).
    (rest_named (record { address = a; context = x }) r).opening)
    (sym (is_read p mode word states own e)) ∙ at in
    let both = opening_if (is_deep (depths_of p.description states))
    (record { address = a; context = x }) o here in
    inl (
      word,
      is ∙ ap (λ (q : Opening). requests.CpuSuspend word q.address q.context) both.1,
      record { states = states; row = e; deep = eqb-true _ _ both.0 },
    )

-- the address of a SYSTEM_SUSPEND is its first argument
system_first : (regs : Regs) (a x : ℕ) → request_of regs ≡ requests.SystemSuspend a x
    → a ≡ argument regs regs.x1
system_first regs a x is = grind (arith, request_with)

suspend_there : (p : PlatformValue) (mode : SuspendMode) (regs : Regs) (r : Request) (o : Opening)
    → IsPlatform p → request_of regs ≡ r
    → (rest_of p.board (with_first (argument regs
    (first_argument p.description p.board p.place mode regs.x1 r)) r)).opening ≡ Some o
    → AsksSuspend p mode regs o
suspend_there p mode regs (requests.CpuSuspend word a x) o own is at =
    let w = word_for p.description p.board.format (states_of p.description mode word) in
    suspend_if p mode regs word a x o (states_of p.description mode word) own is refl
    (ap (λ (k : ℕ). (rest_named (record { address = a; context = x })
    (ask_of p.board.format (height p.board) k)).opening)
    (sym (half_of regs w
    (for_small p.description p.board.format (states_of p.description mode word)))) ∙ at)
suspend_there p mode regs (requests.SystemSuspend a x) o own is at =
    let both = opening_if (is_deep (deepest_of (height p.board)))
    (record { address = argument regs regs.x1; context = x }) o at in
    inr (is
    ∙ ap (λ (k : ℕ). requests.SystemSuspend k x) (system_first regs a x is)
    ∙ ap (λ (q : Opening). requests.SystemSuspend q.address q.context) both.1)
suspend_there p mode regs r o own is at = absurd (cc)

pub suspend_back : (p : PlatformValue) (mode : SuspendMode) (regs : Regs) (o : Opening)
    → IsPlatform p
    → (rest_of p.board (request_of (regs_for p.description p.board p.place mode regs))).opening
    ≡ Some o → AsksSuspend p mode regs o
suspend_back p mode regs o own at =
    elim (cases_Bool (is_there p.description.functions (request_of regs))) [
      | inl there ↦
          suspend_there p mode regs (request_of regs) o own refl
          (ap (λ (q : Request). (rest_of p.board q).opening)
          (sym (told p mode regs (request_of regs) refl there)) ∙ at)
      | inr lacks ↦
          let no : None ≡ Some o =
          ap (λ (q : Request). (rest_of p.board q).opening)
          (sym (no_function_is_known p.description p.board p.place mode regs lacks)) ∙ at in
          absurd (cc)
    ]
