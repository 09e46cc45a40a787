-- Claims: the parts that a core sends when it stops.
use Rattle.std.specs.List.{list_any, range_with_len}
use Rattle.std.specs.Prelude.{◌+◌, ◌-◌, ◌<◌, ◌==◌, ◌∷◌, ◌≡◌, ◌≤◌, [], Err, false, filter}
use Rattle.std.specs.Prelude.{flat_map, if◌then◌else◌, length, List, map, nat_lt, None, not, Ok}
use Rattle.std.specs.Prelude.{Option, Result, slice_get, slice_index, Some, suc, true, zero, ℕ}
use Rattle.psci_board.specs.Board.{BoardValue, children, cores, first_child, height, up}
use Rattle.psci_board.specs.declared.draft.Node.{Node}
use Rattle.psci_state.specs.PowerState.{IsAsk, power_down, running}
use Rattle.psci_messages.specs.View.{domain_of, generation, is_all_away, is_idle, least_ask}
use Rattle.psci_messages.specs.View.{PowerView}
use Rattle.psci_messages.specs.declared.osi.Osi.{Osi}
use Rattle.psci_messages.specs.declared.osi.Osi.TheVariants.{Denied, Invalid}
use Rattle.psci_messages.specs.declared.part.Part.{Part}

-- Up a path from this level on, over so many levels: a part for each level, as long as a depth of
-- at least 1 is wanted there. The first level where none is wanted ends the claim.
abbrev pub climb : (ℕ → ℕ) → (ℕ → ℕ) → ℕ → ℕ → List Part
climb wanted generation_at level zero = []
climb wanted generation_at level (suc count) =
    if nat_lt 0 (wanted level)
    then record {
      level = level;
      depth = wanted level;
      generation = generation_at level;
    } ∷ climb wanted generation_at (level + 1) count
    else []

-- the claim of a core that wants these depths of its domains, by level
unfoldable pub claims_of : BoardValue → PowerView → ℕ → (ℕ → ℕ) → List Part
claims_of b v core wanted =
    climb wanted (λ level. generation b v (domain_of b core level)) 0 (height b + 1)

-- What is wanted, by level ---------------------------------------------------------------------

-- platform-coordinated mode: the least ask of all cores below
abbrev pub least_wish : BoardValue → PowerView → ℕ → ℕ → ℕ
least_wish b v core level = least_ask b v (domain_of b core level)

-- an OS-initiated suspend: what the core itself asks
abbrev pub own_wish : List ℕ → ℕ → ℕ
own_wish ask level = slice_index ask level

-- an OS-initiated CPU_OFF: power-down of the core, and of each higher domain where every core below
-- is off or going off
abbrev pub off_wish : BoardValue → PowerView → ℕ → ℕ → ℕ
off_wish b v core zero = power_down
off_wish b v core (suc level) =
    if is_all_away b v (domain_of b core (suc level)) then power_down else running

-- The claims -----------------------------------------------------------------------------------

-- of a core that stops in platform-coordinated mode
abbrev pub platform_claims : BoardValue → PowerView → ℕ → List Part
platform_claims b v core = claims_of b v core (least_wish b v core)

-- of a core that is suspended in OS-initiated mode with this ask
abbrev pub own_claims : BoardValue → PowerView → ℕ → List ℕ → List Part
own_claims b v core ask = claims_of b v core (own_wish ask)

-- of a core that goes off in OS-initiated mode
abbrev pub off_claims : BoardValue → PowerView → ℕ → List Part
off_claims b v core = claims_of b v core (off_wish b v core)

-- Whether a core may take its domains down as their last core, in OS-initiated mode ---------------

-- the children of a domain, from left to right
abbrev pub children_of : BoardValue → Node → List Node
children_of b n =
    map (λ place. record { level = n.level - 1; place = place })
    (range_with_len (first_child b n.level n.place) (children b n))

-- those of some domains that do not have this place
abbrev pub elsewhere : ℕ → List Node → List Node
elsewhere place ns = filter (λ n. not (n.place == place)) ns

-- those of some domains that were granted less than this depth
abbrev pub granted_less : PowerView → ℕ → List Node → List Node
granted_less v depth ns = filter (λ n. nat_lt (v.granted n.level n.place) depth) ns

-- The shallow domains of an ask at a level: the children of the core's domain of that level that
-- are not on the core's path and were granted less than is asked of the level. Where nothing is
-- asked there are none.
unfoldable pub shallow_at : BoardValue → PowerView → ℕ → List ℕ → ℕ → List Node
shallow_at b v core ask level =
    granted_less v (own_wish ask level)
    (elsewhere (up b (level - 1) core) (children_of b (domain_of b core level)))

-- the shallow domains of an ask, at all levels from 1 up
unfoldable pub shallow : BoardValue → PowerView → ℕ → List ℕ → List Node
shallow b v core ask = flat_map (shallow_at b v core ask) (range_with_len 1 (height b))

-- why a request with these shallow domains is refused: Invalid where no core is running or pending
-- below one of them, else Denied where there is one
unfoldable pub refusal : BoardValue → PowerView → List Node → Option Osi
refusal b v ns =
    if list_any (is_idle b v) ns then Some Invalid
    else (if nat_lt 0 (length ns) then Some Denied else None)

-- the answer to a request, by the reason why it is refused, if there is one
abbrev pub answer_by : Option Osi → List Part → Result (List Part) Osi
answer_by (Some fault) parts = Err fault
answer_by None parts = Ok parts

-- the last-core check of an OS-initiated request: why it is refused, or its claim
unfoldable pub last_core_check : BoardValue → PowerView → ℕ → List ℕ → Result (List Part) Osi
last_core_check b v core ask =
    answer_by (refusal b v (shallow b v core ask)) (own_claims b v core ask)

-- What holds of claims: facts about their parts that upper layers build on ------------------------

-- What is counted over the cores below a core's domain of a level.
pub record BelowLaws (b : BoardValue) (v : PowerView) (core level : ℕ) : Type 0 where
  -- the least ask is the greatest depth that no core below undercuts
  pub most : least_ask b v (domain_of b core level) ≤ power_down
  pub below : (c : ℕ) → c < cores b → up b level c ≡ up b level core
      → least_ask b v (domain_of b core level) ≤ v.ask c level
  pub above : (depth : ℕ) → depth ≤ power_down
      → ((c : ℕ) → c < cores b → up b level c ≡ up b level core → depth ≤ v.ask c level)
      → depth ≤ least_ask b v (domain_of b core level)
  -- every core below is off or going off where each one is
  pub off : is_all_away b v (domain_of b core level) ≡ true → (c : ℕ) → c < cores b
      → up b level c ≡ up b level core → v.is_away c ≡ true
  pub all : ((c : ℕ) → c < cores b → up b level c ≡ up b level core → v.is_away c ≡ true)
      → is_all_away b v (domain_of b core level) ≡ true

-- Every claim, whatever depths it wants.
pub record ClaimLaws (b : BoardValue) (v : PowerView) (core : ℕ) (wanted : ℕ → ℕ) : Type 0 where
  -- its parts are of levels 0, 1, 2, .. without a gap, up to the system at most
  pub levels : map (λ p. p.level) (claims_of b v core wanted)
      ≡ range_with_len 0 (length (claims_of b v core wanted))
  pub few : length (claims_of b v core wanted) ≤ height b + 1
  -- each has the depth that is wanted at its level, 1 at least, and the generation of its domain
  pub level : (level : ℕ) (p : Part) → slice_get (claims_of b v core wanted) level ≡ Some p
      → p.level ≡ level
  pub depth : (level : ℕ) (p : Part) → slice_get (claims_of b v core wanted) level ≡ Some p
      → p.depth ≡ wanted level
  pub generation : (level : ℕ) (p : Part) → slice_get (claims_of b v core wanted) level ≡ Some p
      → p.generation ≡ generation b v (domain_of b core level)
  pub some : (level : ℕ) (p : Part) → slice_get (claims_of b v core wanted) level ≡ Some p
      → 0 < p.depth
  -- it ends at the system, or where no depth is wanted
  pub ends : length (claims_of b v core wanted) < height b + 1
      → wanted (length (claims_of b v core wanted)) ≡ 0

-- What cores ask never grows upwards.
pub record AsksFall (b : BoardValue) (v : PowerView) : Type 0 where
  pub falls : (core level : ℕ) → core < cores b → level < height b
      → v.ask core (level + 1) ≤ v.ask core level

-- The claim of a core that stops in platform-coordinated mode.
pub record PlatformLaws (b : BoardValue) (v : PowerView) (core : ℕ) : Type 0 where
  -- no depth is above power-down
  pub most : (level : ℕ) (p : Part) → slice_get (platform_claims b v core) level ≡ Some p
      → p.depth ≤ power_down
  -- no part is deeper than the one below it, where no core asks for more above than below
  pub falls : AsksFall b v → (level : ℕ) (p q : Part)
      → slice_get (platform_claims b v core) level ≡ Some p
      → slice_get (platform_claims b v core) (level + 1) ≡ Some q
      → q.depth ≤ p.depth
  -- no part is deeper than any core below its domain asks
  pub asked : (level c : ℕ) (p : Part) → slice_get (platform_claims b v core) level ≡ Some p
      → c < cores b → up b level c ≡ up b level core
      → p.depth ≤ v.ask c level
  -- one level more would be too much: some core below that domain asks 0 of it
  pub ends : length (platform_claims b v core) < height b + 1
      → (c : ℕ) × (c < cores b) × (up b (length (platform_claims b v core)) c
      ≡ up b (length (platform_claims b v core)) core)
      × (v.ask c (length (platform_claims b v core)) ≡ 0)

-- The claim of what a core itself asks.
pub record OwnLaws (b : BoardValue) (v : PowerView) (core : ℕ) (ask : List ℕ) : Type 0 where
  -- a part for each level of which something is asked, and for no other
  pub asked : (level : ℕ) → level < length (own_claims b v core ask) → 0 < slice_index ask level
  pub all : (level : ℕ) → level ≤ height b → 0 < slice_index ask level
      → level < length (own_claims b v core ask)
  -- no depth is above power-down, and none grows upwards
  pub most : (level : ℕ) (p : Part) → slice_get (own_claims b v core ask) level ≡ Some p
      → p.depth ≤ power_down
  pub falls : (level : ℕ) (p q : Part) → slice_get (own_claims b v core ask) level ≡ Some p
      → slice_get (own_claims b v core ask) (level + 1) ≡ Some q
      → q.depth ≤ p.depth

-- The claim of a core that goes off in OS-initiated mode.
pub record OffLaws (b : BoardValue) (v : PowerView) (core : ℕ) : Type 0 where
  -- power-down, of the core at least
  pub deep : (level : ℕ) (p : Part) → slice_get (off_claims b v core) level ≡ Some p
      → p.depth ≡ power_down
  pub some : 0 < length (off_claims b v core)
  -- above the core, where every core below is off or going off
  pub off : (level c : ℕ) (p : Part) → slice_get (off_claims b v core) level ≡ Some p → 0 < level
      → c < cores b → up b level c ≡ up b level core
      → v.is_away c ≡ true
  -- one level more would be too much: some core below that domain is neither
  pub ends : length (off_claims b v core) < height b + 1
      → (c : ℕ) × (c < cores b) × (up b (length (off_claims b v core)) c
      ≡ up b (length (off_claims b v core)) core) × (v.is_away c ≡ false)

-- No domain was granted more than the domain below it on each path, and no core more than it asks
-- of itself.
pub record GrantsAreAsked (b : BoardValue) (v : PowerView) : Type 0 where
  pub nested : (core level : ℕ) → core < cores b → level < height b
      → v.granted (level + 1) (up b (level + 1) core) ≤ v.granted level (up b level core)
  pub asked : (core : ℕ) → core < cores b → v.granted 0 core ≤ v.ask core 0

-- An OS-initiated request that the last-core check accepts.
pub record LastCoreLaws (b : BoardValue) (v : PowerView) (core : ℕ) (ask : List ℕ) : Type 0 where
  -- its parts are the claim of what the core asks
  pub parts : (parts : List Part) → last_core_check b v core ask ≡ Ok parts
      → parts ≡ own_claims b v core ask
  -- each domain beside the core's path was granted what is asked of its parent
  pub granted : (parts : List Part) → last_core_check b v core ask ≡ Ok parts → (level c : ℕ)
      → c < cores b → level < height b → up b (level + 1) c ≡ up b (level + 1) core
      → (up b level c ≡ up b level core → ⊥)
      → slice_index ask (level + 1) ≤ v.granted level (up b level c)
  -- and no part is deeper than any other core below its domain asks of itself
  pub asked : IsAsk ask → GrantsAreAsked b v → (parts : List Part)
      → last_core_check b v core ask ≡ Ok parts → (level c : ℕ) (p : Part)
      → slice_get parts level ≡ Some p → c < cores b → up b level c ≡ up b level core
      → (c ≡ core → ⊥)
      → p.depth ≤ v.ask c 0
