-- What the power controller keeps of cores and domains, row by row.
use Rattle.std.specs.Prelude.{◌&&◌, ◌+◌, ◌<◌, ◌==◌, ◌^◌, ◌≡◌, ◌≤◌, [], if◌then◌else◌, length}
use Rattle.std.specs.Prelude.{List, nat_lt, Option, slice_index_or, ℕ}
use Rattle.psci_board.specs.Board.{BoardValue, cores, domain_of, height, is_on_path, nodes}
use Rattle.psci_board.specs.declared.draft.Node.{Node}
use Rattle.psci_messages.specs.psci_state.PowerState.{power_down, running}
use Rattle.psci_messages.specs.declared.part.Part.{Part}
use Rattle.psci_messages.specs.declared.start.Cause.TheVariants as causes
use Rattle.psci_ctl_spec.specs.Values.{Values, starts_below}
use Rattle.psci_ctl.specs.declared.row.CoreRow.{CoreRow}
use Rattle.psci_ctl.specs.declared.level.DomainRow.{DomainRow}

-- a core that was not started in this life
abbrev pub off_core : CoreRow
off_core = record { starts = 0; cause = causes.Boot }

-- a domain that is powered down, and below which no core was started
abbrev pub off_domain : DomainRow
off_domain = record { depth = power_down; starts = 0 }

-- what is kept of the core of this number
abbrev pub core_row : List CoreRow → ℕ → CoreRow
core_row cores c = slice_index_or cores c off_core

-- what is kept of the domain of this level and place
abbrev pub domain_at : List (List DomainRow) → ℕ → ℕ → DomainRow
domain_at domains level place = slice_index_or (slice_index_or domains level []) place off_domain

-- how deep the domain of this level and place is
abbrev pub depth_in : List (List DomainRow) → ℕ → ℕ → ℕ
depth_in domains level place = (domain_at domains level place).depth

-- one core's row is this
abbrev pub with_core : List CoreRow → ℕ → CoreRow → ℕ → CoreRow
with_core cores c row k = if k == c then row else core_row cores k

-- a domain is fully on, after one more start below it
abbrev pub path_on_once : DomainRow → DomainRow
path_on_once row = record { depth = running; starts = row.starts + 1 }

-- the domains of a core's path below this level run, after one more start below them
abbrev pub path_on_below : BoardValue → ℕ → List (List DomainRow) → ℕ → ℕ → ℕ → DomainRow
path_on_below b c domains end level place =
    if nat_lt level end && is_on_path b c level place
    then path_on_once (domain_at domains level place)
    else domain_at domains level place

-- the values in the rows of cores and domains
abbrev pub values_in : Option ℕ → List CoreRow → List (List DomainRow) → Values
values_in life cores domains = record {
  life = life;
  starts = λ c. (core_row cores c).starts;
  cause = λ c. (core_row cores c).cause;
  depth = depth_in domains;
}

-- a row for each domain of the board
pub record HasRows (b : BoardValue) (domains : List (List DomainRow)) : Type 0 where
  pub levels : length domains ≡ height b + 1
  pub places : (level : ℕ) → level ≤ height b
      → length (slice_index_or domains level []) ≡ nodes b level

-- each domain's row has the sum of the starts of the cores below
pub record HasSums (b : BoardValue) (cores : List CoreRow) (domains : List (List DomainRow))
    : Type 0 where
  pub sums : (level place : ℕ) → level ≤ height b → (domain_at domains level place).starts
      ≡ starts_below b (λ c. (core_row cores c).starts) (record { level = level; place = place })

-- a row for each core and each domain of the board, with the sums of the starts
pub record AreRows (b : BoardValue) (rows : List CoreRow) (domains : List (List DomainRow))
    : Type 0 where
  pub cores : length rows ≡ cores b
  pub shape : HasRows b domains
  pub sums : HasSums b rows domains

-- the starts of each core fit its row, with one more of this core
pub record HaveRoom (rows : List CoreRow) (c : ℕ) : Type 0 where
  pub few : (k : ℕ) → (core_row rows k).starts < 2 ^ 32
  pub more : (core_row rows c).starts + 1 < 2 ^ 32

-- a domain is this deep
abbrev pub deepened : Node → ℕ → (ℕ → ℕ → ℕ) → ℕ → ℕ → ℕ
deepened n deep depth level place =
    if level == n.level && place == n.place then deep else depth level place

-- the domain of a part on a core's path is as deep as the part asks
abbrev pub with_depth : BoardValue → ℕ → Part → (ℕ → ℕ → ℕ) → ℕ → ℕ → ℕ
with_depth b c p depth = deepened (domain_of b c p.level) p.depth depth
