-- For worked examples: the moments of a past at which a message was sent, and the cores that a
-- platform has, each written out.
use Rattle.std.specs.Prelude.{option_map}
use Rattle.std.proofs.lemmas.Bool.{cases_eq}
use Rattle.psci_headline.specs.Safe.{executes, live_claims}
use Rattle.psci_headline.specs.psci_board.Board.{HasNode}
use Rattle.psci_platform.proofs.ByWord.{some_count}
use Rattle.psci_platform.proofs.Named.{boot_is_zero, core_is_named}
use Rattle.psci_platform.proofs.Swaps.{core_is, Laws as Names, node_is, renumbering}
use Rattle.psci_platform_safe.specs.Asked.{asks, IsFromStart, node_asked, WasAskedFor}
use Rattle.psci_platform_safe.specs.Safe.{place_of}
use Rattle.psci_platform_safe.proofs.Words.{[], ◌++◌, ◌+◌, ◌<◌, ◌==◌, ◌∙◌, ◌∷◌, ◌≡◌, ◌≤◌, ◌⊎◌}
use Rattle.psci_platform_safe.proofs.Words.{AllAsk, ap, arith, AskFor, boot_place}
use Rattle.psci_platform_safe.proofs.Words.{controller_values, core_inside, core_named, core_of}
use Rattle.psci_platform_safe.proofs.Words.{core_word, cores, depth_above, domain_above, eq-eqb}
use Rattle.psci_platform_safe.proofs.Words.{false, found, height, inl, inr, IsAskedOf, IsBoard}
use Rattle.psci_platform_safe.proofs.Words.{IsCore, IsPlatform, IsRenumbering, length, List}
use Rattle.psci_platform_safe.proofs.Words.{MessageValue, mode_of, mpidr_of, Node, node_of}
use Rattle.psci_platform_safe.proofs.Words.{NoDeeperThanAsked, None, NoneBelowSleeping, number}
use Rattle.psci_platform_safe.proofs.Words.{number_named, numbered, OneLiveClaim, Option, Part}
use Rattle.psci_platform_safe.proofs.Words.{part_for, PathLaws, PlatformValue, Record, refl}
use Rattle.psci_platform_safe.proofs.Words.{said_in_numbers, sent_in, slice_index, Some}
use Rattle.psci_platform_safe.proofs.Words.{starts_below, subst, suc, swap_for, sym, unwrap_or, up}
use Rattle.psci_platform_safe.proofs.Words.{WordLaws, zero, ℕ}
use Rattle.psci_board.proofs.Paths.{path_laws, size_laws}
use Rattle.psci_board.proofs.Named.{parent_laws, word_laws}

-- The firmware's numbers and the MPIDRs of cores name each other ----------------------------------

-- What the proofs stand on: a platform, and the laws of its board and of its names.
pub record Laws (p : PlatformValue) : Type 0 where
  pub board : IsBoard p.board
  pub is : IsPlatform p
  pub paths : PathLaws p.board
  pub words : WordLaws p.board
  pub renumbering : IsRenumbering p.board (swap_for p.board p.place)
  pub count : length p.description.mpidrs ≡ cores p.board
  pub core : (c : ℕ) → c < cores p.board
      → core_named p.description p.board (slice_index p.description.mpidrs c) 0 ≡ Some c
  -- the board's words for an MPIDR name what the platform's does
  pub core_of : (mpidr : ℕ) → core_of p.board (core_word p.description p.board p.place mpidr 0)
      ≡ option_map (λ c. record { number = c })
      (number_named p.description p.board p.place mpidr 0)
  pub node_of : (word level : ℕ) → level ≤ height p.board
      → node_of p.board (core_word p.description p.board p.place word level) level
      ≡ node_asked p word level

-- What is named --------------------------------------------------------------------------------

pub named_inside : (p : PlatformValue) (word level place : ℕ) → Laws p
    → core_named p.description p.board word level ≡ Some place → place < cores p.board
named_inside p word level place laws e =
    omega (arith, (found p.description p.board word level place e).inside, laws.count)

-- Numbers --------------------------------------------------------------------------------------

-- the number of the core at a place of the tree
number_at : (p : PlatformValue) (mpidr place : ℕ)
    → core_named p.description p.board mpidr 0 ≡ Some place
    → number p mpidr ≡ swap_for p.board p.place 0 place
number_at p mpidr place e =
    ap (λ (o : Option ℕ). unwrap_or (option_map (swap_for p.board p.place 0) o) (cores p.board)) e

pub number_inside : (p : PlatformValue) (mpidr : ℕ) → Laws p → IsCore p mpidr
    → number p mpidr < cores p.board
number_inside p mpidr laws is = grind (arith, found, number_at, core_inside)

-- the MPIDR of a core's number is its own
pub mpidr_back : (p : PlatformValue) (mpidr : ℕ) → Laws p → IsCore p mpidr
    → mpidr_of p (number p mpidr) ≡ mpidr
mpidr_back p mpidr laws is =
    let at = found p.description p.board mpidr 0 is.0 is.1 in
    ap (λ (c : ℕ). slice_index p.description.mpidrs (swap_for p.board p.place 0 c))
    (number_at p mpidr is.0 is.1)
    ∙ ap (slice_index p.description.mpidrs) (laws.renumbering.back 0 is.0)
    ∙ (let fields = at.fields in omega (arith, fields))

-- a number below the count of cores has an MPIDR, and is its number
pub some_core : (p : PlatformValue) (c : ℕ) → Laws p → c < cores p.board → IsCore p (mpidr_of p c)
some_core p c laws inside =
    let place = swap_for p.board p.place 0 c in
    (place, laws.core place (core_inside p.board p.place c laws.is.symmetric inside))

pub number_back : (p : PlatformValue) (c : ℕ) → Laws p → c < cores p.board
    → number p (mpidr_of p c) ≡ c
number_back p c laws inside = grind (arith, number_at, core_inside)

-- two MPIDRs of one number are one
pub only_one : (p : PlatformValue) (mpidr other : ℕ) → Laws p → IsCore p mpidr → IsCore p other
    → number p mpidr ≡ number p other → mpidr ≡ other
only_one p mpidr other laws is its same =
    sym (mpidr_back p mpidr laws is) ∙ ap (mpidr_of p) same ∙ mpidr_back p other laws its

-- only a core of the platform has a number of the board
by_option : (p : PlatformValue) (mpidr : ℕ) (o : Option ℕ)
    → core_named p.description p.board mpidr 0 ≡ o
    → unwrap_or (option_map (swap_for p.board p.place 0) o) (cores p.board) < cores p.board
    → IsCore p mpidr
by_option p mpidr None e inside = absurd (omega (arith, inside))
by_option p mpidr (Some place) e inside = (place, e)

pub is_core : (p : PlatformValue) (mpidr : ℕ) → number p mpidr < cores p.board → IsCore p mpidr
is_core p mpidr inside =
    by_option p mpidr (core_named p.description p.board mpidr 0) refl inside

-- Domains --------------------------------------------------------------------------------------

pub has_above : (p : PlatformValue) (mpidr level : ℕ) → Laws p → IsCore p mpidr
    → level ≤ height p.board → HasNode p.board (domain_above p mpidr level)
has_above p mpidr level laws is low = record {
  level = low;
  place = laws.paths.inside (number p mpidr) level (number_inside p mpidr laws is) low;
}

-- what is asked of, by the core of the tree that a word names
abbrev node_if : PlatformValue → ℕ → Option ℕ → Option Node
node_if p level o =
    option_map (λ c. record { level = level; place = up p.board level c })
    (option_map (swap_for p.board p.place 0) o)

-- the board has the level of what is asked of
asked_low : (p : PlatformValue) (word level : ℕ) (n : Node) (o : Option ℕ)
    → core_named p.description p.board word level ≡ o → node_if p level o ≡ Some n
    → level ≤ height p.board
asked_low p word level n None e at = absurd (cc)
asked_low p word level n (Some place) e at = (found p.description p.board word level place e).low

pub low_asked : (p : PlatformValue) (word level mpidr : ℕ) → IsAskedOf p word level mpidr
    → level ≤ height p.board
low_asked p word level mpidr asked = grind (arith, asked_low)

-- The laws ------------------------------------------------------------------------------------

pub laws_of : (p : PlatformValue) → IsBoard p.board → IsPlatform p → Laws p
laws_of p board is =
    let count = some_count p.description p.board p.boot is.faultless in
    let names : Names p.description p.board p.place = record {
      board = board;
      paths = path_laws p.board board;
      words = word_laws p.board board;
      is = is.symmetric;
      count = count;
    } in
    record {
      board = board;
      is = is;
      paths = path_laws p.board board;
      words = word_laws p.board board;
      renumbering = renumbering p.description p.board p.place names;
      count = count;
      core = λ c. core_is_named p.description p.board p.boot c is.faultless;
      core_of = core_is p.description p.board p.place names;
      node_of = λ word level low. node_is p.description p.board p.place names word level;
    }

-- the boot core has number 0
pub boot_number : (p : PlatformValue) → IsPlatform p → number_named p.description p.board
    (boot_place p.description p.board p.boot) p.boot 0 ≡ Some 0 → number p p.boot ≡ 0
boot_number p is first =
    ap (λ (o : Option ℕ). unwrap_or o (cores p.board)) (rw (sym is.place) at first)

pub some_cores : (p : PlatformValue) → IsPlatform p → 0 < cores p.board
some_cores p is = omega (arith, is.inside)

pub boot_zero : (p : PlatformValue) → Laws p → number p p.boot ≡ 0
boot_zero p laws = boot_number p laws.is (boot_is_zero p.description p.board p.boot (record {
  sizes = size_laws p.board laws.board;
  paths = laws.paths;
  parents = parent_laws p.board laws.board;
}) laws.is.faultless)

pub boot_core : (p : PlatformValue) → Laws p → IsCore p p.boot
boot_core p laws =
    is_core p p.boot
    (subst (λ (k : ℕ). k < cores p.board) (sym (boot_zero p laws)) (some_cores p laws.is))

-- Moments -----------------------------------------------------------------------------------------

-- Messages ---------------------------------------------------------------------------------------

-- it holds of no message, if there is one, and of the records up to it, and the rest holds
abbrev pub AndLater : (MessageValue → List Record → Type 0) → Option MessageValue → List Record
    → Type 0 → Type 0
AndLater P None now rest = rest
AndLater P (Some m) now rest = (P m now → ⊥) × rest

-- it holds of none of the messages that were sent, and of the records up to it
abbrev pub OfNone : PlatformValue → (MessageValue → List Record → Type 0) → List Record → Type 0
OfNone p P [] = Unit {0}
OfNone p P (r ∷ past) = AndLater P (sent_in (said_in_numbers p r.said)) (r ∷ past) (OfNone p P past)

not_now : (P : MessageValue → List Record → Type 0) (o : Option MessageValue) (m : MessageValue)
    (now : List Record) (rest : Type 0) → o ≡ Some m → AndLater P o now rest → P m now → ⊥
not_now P None m now rest e none = absurd (cc)
not_now P (Some n) m now rest e none =
    let same : n ≡ m = cc in subst (λ (x : MessageValue). P x now → ⊥) same none.0

not_later : (P : MessageValue → List Record → Type 0) (o : Option MessageValue)
    (now : List Record) (rest : Type 0) → AndLater P o now rest → rest
not_later P None now rest none = none
not_later P (Some m) now rest none = none.1

-- what holds of none of all messages holds of none that was sent at some moment
of_none : (p : PlatformValue) (P : MessageValue → List Record → Type 0)
    (past later before : List Record) (r : Record) (m : MessageValue)
    → past ≡ later ++ (r ∷ before) → sent_in (said_in_numbers p r.said) ≡ Some m
    → OfNone p P past → P m (r ∷ before) → ⊥
of_none p P past [] before r m e sent none = grind (arith, not_now)
of_none p P past (x ∷ later) before r m e sent none =
    of_none p P (later ++ (r ∷ before)) later before r m refl sent
    (not_later P (sent_in (said_in_numbers p x.said)) (x ∷ (later ++ (r ∷ before)))
    (OfNone p P (later ++ (r ∷ before))) (subst (OfNone p P) e none))

-- Claims -----------------------------------------------------------------------------------------

-- What has to hold of a message, sent as the last one of some records, so that a domain is as deep
-- as it was asked.
pub record Counts (p : PlatformValue) (past : List Record) (mpidr level life depth : ℕ)
    (m : MessageValue) (now : List Record) : Type 0 where
  pub one : Part
  pub has : part_for p.board life level (domain_above p mpidr level).place m ≡ Some one
  pub deep : one.depth ≡ depth
  pub live : one.generation ≡ starts_below p.board
      (controller_values p.board (numbered p past)).starts (domain_above p mpidr level)
  pub asked : AskFor (mode_of p now) p now (mpidr_of p m.core.number) mpidr level depth

-- no message was asked for where none counts
pub not_asked_for : (p : PlatformValue) (past : List Record) (mpidr level life depth : ℕ)
    → OfNone p (Counts p past mpidr level life depth) past
    → WasAskedFor p past mpidr level life depth → ⊥
not_asked_for p past mpidr level life depth none was =
    of_none p (Counts p past mpidr level life depth) past was.later was.before was.r was.message
    was.split was.sent none
    (record {
      one = was.part;
      has = was.has;
      deep = was.deep;
      live = was.live;
      asked = was.asked;
    })

-- A domain is not as deep as it was asked: no message counts, nor does the start of the life.
pub deeper : (p : PlatformValue) (past : List Record) (mpidr level life : ℕ) → IsCore p mpidr
    → level ≤ height p.board
    → (controller_values p.board (numbered p past)).life ≡ Some life
    → 0 < depth_above p past mpidr level
    → OfNone p (Counts p past mpidr level life (depth_above p past mpidr level)) past
    → (IsFromStart p past mpidr level (depth_above p past mpidr level) → ⊥)
    → NoDeeperThanAsked p past → ⊥
deeper p past mpidr level life is low present deep none other asked =
    elim (asked mpidr level life is low present deep) [
      | inl was ↦ not_asked_for p past mpidr level life (depth_above p past mpidr level) none was
      | inr start ↦ other start
    ]

-- Cores ------------------------------------------------------------------------------------------

-- it holds of each of these MPIDRs
abbrev pub OfEach : (ℕ → Type 0) → List ℕ → Type 0
OfEach P [] = Unit {0}
OfEach P (m ∷ ms) = P m × OfEach P ms

of_place : (P : ℕ → Type 0) (ms : List ℕ) (place : ℕ) → place < length ms → OfEach P ms
    → P (slice_index ms place)
of_place P [] place inside all = absurd (omega (arith, inside))
of_place P (m ∷ ms) zero inside all = all.0
of_place P (m ∷ ms) (suc place) inside all =
    of_place P ms place (omega (arith, inside)) all.1

-- what holds of each MPIDR of a platform holds of each of its cores
pub of_core : (p : PlatformValue) (P : ℕ → Type 0) (mpidr : ℕ) → IsCore p mpidr
    → OfEach P p.description.mpidrs → P mpidr
of_core p P mpidr is all =
    let at = found p.description p.board mpidr 0 is.0 is.1 in
    let same : slice_index p.description.mpidrs is.0 ≡ mpidr =
    (let fields = at.fields in omega (arith, fields)) in
    subst P same (of_place P p.description.mpidrs is.0 at.inside all)

-- Levels -----------------------------------------------------------------------------------------

-- it holds of each level from this one, of so many more
abbrev pub UpTo : (ℕ → Type 0) → ℕ → ℕ → Type 0
UpTo P from zero = P from × Unit {0}
UpTo P from (suc more) = P from × UpTo P (from + 1) more

at_level : (P : ℕ → Type 0) (from more level : ℕ) → from ≤ level → level ≤ from + more
    → UpTo P from more → P level
at_level P from zero level low high all = subst P (omega (arith, low, high)) all.0
at_level P from (suc more) level low high all = elim (cases_eq from level) [
  | inl same ↦ subst P same all.0
  | inr other ↦ at_level P (from + 1) more level (omega (arith, low, other)) (omega (arith, high))
      all.1
]

-- what holds of each level up to a height holds of each of them
pub of_level : (P : ℕ → Type 0) (height level : ℕ) → level ≤ height → UpTo P 0 height → P level
of_level P height level low all = at_level P 0 height level (omega arith) (omega (arith, low)) all

-- a core's domain of a level has at most one live claim
abbrev pub HasOne : PlatformValue → List Record → ℕ → ℕ → Type 0
HasOne p past m level =
    length (live_claims p.board (numbered p past) (domain_above p m level)) ≤ 1

-- sentence 2 holds where it does of each core and level
pub claims_are : (p : PlatformValue) (past : List Record)
    → OfEach (λ m. UpTo (HasOne p past m) 0 (height p.board)) p.description.mpidrs
    → OneLiveClaim p past
claims_are p past all mpidr level is low =
    of_level (HasOne p past mpidr) (height p.board) level low
    (of_core p (λ m. UpTo (HasOne p past m) 0 (height p.board)) mpidr is all)

-- a core does not execute, or each domain above it is fully on
abbrev pub IsOn : PlatformValue → List Record → ℕ → Type 0
IsOn p past m =
    (executes (place_of p past m) ≡ false)
    ⊎ UpTo (λ level. depth_above p past m level ≡ 0) 0 (height p.board)

-- sentence 1 holds where it does of each core
pub cores_are : (p : PlatformValue) (past : List Record)
    → OfEach (IsOn p past) p.description.mpidrs → NoneBelowSleeping p past
cores_are p past all mpidr level is low here = elim (of_core p (IsOn p past) mpidr is all) [
  | inl stopped ↦ absurd (cc)
  | inr on ↦ of_level (λ l. depth_above p past mpidr l ≡ 0) (height p.board) level low on
]

-- Domains ----------------------------------------------------------------------------------------

-- domains of other places are other domains
pub apart : (n m : Node) → (n.place == m.place) ≡ false → n ≡ m → ⊥
apart n m e same = grind (arith, eq-eqb)

-- a core is not below the domain of a level, or asks at least a depth of its domain of another one
abbrev pub Beside : PlatformValue → List Record → ℕ → ℕ → ℕ → ℕ → ℕ → Type 0
Beside p now mpidr level depth at m =
    (((domain_above p m level).place == (domain_above p mpidr level).place) ≡ false)
    ⊎ (depth ≤ asks p now m at)

-- what holds of each core holds of all that are below
pub all_ask : (p : PlatformValue) (now : List Record) (mpidr level depth at : ℕ)
    → OfEach (Beside p now mpidr level depth at) p.description.mpidrs
    → AllAsk p now mpidr level depth at
all_ask p now mpidr level depth at all other beside =
    elim (of_core p (Beside p now mpidr level depth at) other beside.0 all) [
      | inl other ↦ absurd (apart _ _ other beside.1)
      | inr asks ↦ asks
    ]
