-- A board: a finite ordered tree of power domains, executable ranges, a boot address and limits.
use Rattle.std.specs.List.{AllPass, list_any, range_with_len}
use Rattle.std.specs.Prelude.{◌%◌, ◌&&◌, ◌*◌, ◌+◌, ◌-◌, ◌/◌, ◌<◌, ◌==◌, ◌^◌, ◌∷◌, ◌≡◌, ◌≤◌, []}
use Rattle.std.specs.Prelude.{Bool, drop, filter, find, flat_map, if◌then◌else◌, length, List}
use Rattle.std.specs.Prelude.{map, nat_le, nat_lt, None, Option, option_map, slice_get}
use Rattle.std.specs.Prelude.{slice_index, slice_index_or, Some, suc, sum, take, true, zero, ℕ}
use Rattle.psci_abi.specs.declared.registers.Format.{Format}
use Rattle.psci_board.specs.declared.draft.TheConstants.{MOST_CHILDREN, MOST_CORES, MOST_LEVELS}
use Rattle.psci_board.specs.declared.draft.TheConstants.{MOST_LIVES}
use Rattle.psci_board.specs.declared.draft.Core.{Core}
use Rattle.psci_board.specs.declared.draft.Node.{Node}
use Rattle.psci_board.specs.declared.tree_text.AddressRange.{AddressRange}
use Rattle.psci_board.specs.declared.span.CoreSpan.{CoreSpan}

-- A board as contracts see it.
pub record BoardValue : Type 0 where
  -- from level 1 up, how many children each node of the level has, from left to right
  pub levels : List (List ℕ)
  -- executable memory
  pub ranges : List AddressRange
  -- the boot core's first entry point
  pub boot : ℕ
  -- how often a core may be started in one life
  pub starts : ℕ
  -- how many lives the board has
  pub lives : ℕ
  -- how its power state words are written
  pub format : Format

-- The tree ------------------------------------------------------------------------------------

-- a node has one child or more, and no more than it may have
abbrev pub is_width : ℕ → Bool
is_width n = nat_lt 0 n && nat_le n MOST_CHILDREN

-- how many nodes stand below these levels: the system alone, where there is none
abbrev pub size_below : List (List ℕ) → ℕ
size_below [] = 1
size_below (w ∷ ws) = sum w

-- each level has one group of children for each node of the next one, and no more nodes than a
-- board may have cores
abbrev pub IsTree : List (List ℕ) → Type 0
IsTree [] = Unit {0}
IsTree (w ∷ ws) = (length w ≡ size_below ws) × (sum w ≤ MOST_CORES) × AllPass is_width w × IsTree ws

-- the level of the system
abbrev pub height : BoardValue → ℕ
height b = length b.levels

-- how many nodes a level has
abbrev pub nodes : BoardValue → ℕ → ℕ
nodes b level = size_below (drop level b.levels)

-- how many cores there are: the nodes of level 0
abbrev pub cores : BoardValue → ℕ
cores b = nodes b 0

-- the core of this number, where there is one
abbrev pub core_at : BoardValue → ℕ → Option Core
core_at b number = if nat_lt number (cores b) then Some (record { number = number }) else None

-- Places are counted through groups of these sizes: the group of a place, and its place there.
abbrev pub group_of : List ℕ → ℕ → ℕ
group_of [] i = 0
group_of (n ∷ ns) i = if nat_lt i n then 0 else group_of ns (i - n) + 1

-- the place within its group
abbrev pub index_in : List ℕ → ℕ → ℕ
index_in [] i = i
index_in (n ∷ ns) i = if nat_lt i n then i else index_in ns (i - n)

-- Paths ---------------------------------------------------------------------------------------

-- a node and those above it, up to the system
abbrev pub nodes_up : ℕ → List (List ℕ) → ℕ → List Node
nodes_up level [] i = record { level = level; place = i } ∷ []
nodes_up level (w ∷ ws) i =
    record { level = level; place = i } ∷ nodes_up (level + 1) ws (group_of w i)

-- a core and the nodes above it
abbrev pub path : BoardValue → ℕ → List Node
path b core = nodes_up 0 b.levels core

-- the place, so many levels up, of the node above a place of the lowest of these levels
abbrev pub place_above : List (List ℕ) → ℕ → ℕ → ℕ
place_above ws zero i = i
place_above [] (suc l) i = i
place_above (w ∷ ws) (suc l) i = place_above ws l (group_of w i)

-- the place of a core's node of this level
unfoldable pub up : BoardValue → ℕ → ℕ → ℕ
up b level core = place_above b.levels level core

-- a core's node of this level
abbrev pub domain_of : BoardValue → ℕ → ℕ → Node
domain_of b core level = record { level = level; place = up b level core }

-- the cores below a node of these levels, from left to right: those whose node of its level it is
abbrev pub below_in : List (List ℕ) → Node → List ℕ
below_in levels n =
    filter (λ c. place_above levels n.level c == n.place) (range_with_len 0 (size_below levels))

-- the cores below a node, from left to right
abbrev pub below : BoardValue → Node → List ℕ
below b n = below_in b.levels n

-- the nodes of a level above the cores, each by its number of children
abbrev pub level_at : BoardValue → ℕ → Option (List ℕ)
level_at b zero = None
level_at b (suc level) = slice_get b.levels level

-- how many children the node of this level and place has: none below a core
abbrev pub children_at : BoardValue → ℕ → ℕ → ℕ
children_at b zero place = 0
children_at b (suc level) place = slice_index (slice_index_or b.levels level []) place

-- where the children of the node of this level and place begin, on the level below
abbrev pub first_child : BoardValue → ℕ → ℕ → ℕ
first_child b zero place = 0
first_child b (suc level) place = sum (take place (slice_index_or b.levels level []))

-- how many children a node has
abbrev pub children : BoardValue → Node → ℕ
children b n = children_at b n.level n.place

-- the k-th child of a node, from left to right
abbrev pub child : BoardValue → Node → ℕ → Option Node
child b n k =
    if nat_lt k (children b n)
    then Some (record { level = n.level - 1; place = first_child b n.level n.place + k })
    else None

-- one level up, the node whose child a node is: none above the system
abbrev pub parent : BoardValue → Node → Option Node
parent b n =
    if nat_lt n.level (height b) && nat_lt n.place (nodes b n.level)
    then Some (record {
      level = n.level + 1;
      place = group_of (slice_index_or b.levels n.level []) n.place;
    })
    else None

-- the number of a node among the children of its parent, from left to right and from 0
abbrev pub child_number : BoardValue → Node → Option ℕ
child_number b n =
    if nat_lt n.level (height b) && nat_lt n.place (nodes b n.level)
    then Some (index_in (slice_index_or b.levels n.level []) n.place)
    else None

-- Spans ---------------------------------------------------------------------------------------

-- the number of the first core below the node of this level and place: that of the first core
-- below its first child
abbrev pub first_core : List (List ℕ) → ℕ → ℕ → ℕ
first_core levels zero place = place
first_core levels (suc level) place =
    first_core levels level (sum (take place (slice_index_or levels level [])))

-- the cores from the first one below a node on, before the first one below the node after it
abbrev pub span : List (List ℕ) → Node → CoreSpan
span levels n = record {
  first = first_core levels n.level n.place;
  count = first_core levels n.level (n.place + 1) - first_core levels n.level n.place;
}

-- the board has this node
abbrev pub has_node : BoardValue → Node → Bool
has_node b n = nat_le n.level (height b) && nat_lt n.place (nodes b n.level)

-- the span of a node of the board
abbrev pub cores_below : BoardValue → Node → Option CoreSpan
cores_below b n = if has_node b n then Some (span b.levels n) else None

-- Affinity words ------------------------------------------------------------------------------

-- the affinity fields of a node and of those above it, eight bits each, the node's own lowest
abbrev pub address_up : List (List ℕ) → ℕ → ℕ
address_up [] i = 0
address_up (w ∷ ws) i = index_in w i + 256 * address_up ws (group_of w i)

-- the fields of the node of this level and place, its own in the lowest eight bits
abbrev pub address : BoardValue → ℕ → ℕ → ℕ
address b level place = address_up (drop level b.levels) place

-- the node of the level whose fields, at and above the level, are those of the word; bits that
-- belong to no level of the board are zero then, and fields below the level are not looked at
unfoldable pub node_of : BoardValue → ℕ → ℕ → Option Node
node_of b word level =
    if nat_le level (height b)
    then option_map (λ i. record { level = level; place = i })
    (find (λ i. address b level i == word / 2 ^ (8 * level)) (range_with_len 0 (nodes b level)))
    else None

-- the core whose fields are those of the word
unfoldable pub core_of : BoardValue → ℕ → Option Core
core_of b word =
    option_map (λ i. record { number = i })
    (find (λ i. address b 0 i == word) (range_with_len 0 (cores b)))

-- Addresses -----------------------------------------------------------------------------------

-- the address lies in one of the ranges: at its start or after it, and before its end
abbrev pub is_in_some : List AddressRange → ℕ → Bool
is_in_some ranges a = list_any (λ r. nat_le r.start a && nat_lt a r.end) ranges

-- an entry point may be entered: it is word aligned, and executable
abbrev pub may_enter : BoardValue → ℕ → Bool
may_enter b a = a % 4 == 0 && is_in_some b.ranges a

-- Facts ---------------------------------------------------------------------------------------

-- a node of these levels
pub record HasNodeIn (levels : List (List ℕ)) (n : Node) : Type 0 where
  pub level : n.level ≤ length levels
  pub place : n.place < size_below (drop n.level levels)

-- a node of the board
abbrev pub HasNode : BoardValue → Node → Type 0
HasNode b n = HasNodeIn b.levels n

-- what holds of every board that was read
pub record IsBoard (b : BoardValue) : Type 0 where
  pub tree : IsTree b.levels
  pub low : 0 < height b
  pub high : height b ≤ MOST_LEVELS
  pub boot : may_enter b b.boot ≡ true
  pub some_starts : 0 < b.starts
  pub starts : b.starts < 2 ^ 32
  pub some_lives : 0 < b.lives
  pub lives : b.lives ≤ MOST_LIVES

-- What holds of the tree of every board: facts about its nodes that upper layers build on ---------

-- How many nodes there are.
pub record SizeLaws (b : BoardValue) : Type 0 where
  pub some : (l : ℕ) → 0 < nodes b l
  pub most : (l : ℕ) → nodes b l ≤ MOST_CORES
  pub system : nodes b (height b) ≡ 1

-- Cores and the nodes above them.
pub record PathLaws (b : BoardValue) : Type 0 where
  -- a path has one node of each level, from the core to the system
  pub levels : (c : ℕ) → length (path b c) ≡ height b + 1
  pub node : (c l : ℕ) → l ≤ height b
      → slice_get (path b c) l ≡ Some (record { level = l; place = up b l c })
  pub listed : (c : ℕ) → path b c
      ≡ map (λ l. record { level = l; place = up b l c }) (range_with_len 0 (height b + 1))
  pub core : (c : ℕ) → up b 0 c ≡ c
  pub system : (c : ℕ) → c < cores b → up b (height b) c ≡ 0
  pub inside : (c l : ℕ) → c < cores b → l ≤ height b → up b l c < nodes b l
  -- cores below one node are below the same nodes from there up
  pub joined : (x y l : ℕ) → up b l x ≡ up b l y → up b (suc l) x ≡ up b (suc l) y
  -- nodes stand in the order of their cores
  pub ordered : (x y l : ℕ) → x ≤ y → up b l x ≤ up b l y
  pub some_core : (n : Node) → HasNode b n → (c : ℕ) × (c < cores b) × (up b n.level c ≡ n.place)

-- Nodes and their children.
pub record ChildLaws (b : BoardValue) : Type 0 where
  -- a core is below a node exactly where its node of the level below is a child of that node
  pub first : (c l : ℕ) → c < cores b → l < height b
      → first_child b (suc l) (up b (suc l) c) ≤ up b l c
  pub last : (c l : ℕ) → c < cores b → l < height b
      → up b l c < first_child b (suc l) (up b (suc l) c) + children_at b (suc l) (up b (suc l) c)
  pub parent : (c l p : ℕ) → c < cores b → l < height b → first_child b (suc l) p ≤ up b l c
      → up b l c < first_child b (suc l) p + children_at b (suc l) p → up b (suc l) c ≡ p
  -- the cores below a node are those below its children, one child after another
  pub below : (l p : ℕ) → l < height b
      → below b (record { level = suc l; place = p })
      ≡ flat_map (λ k. below b (record { level = l; place = first_child b (suc l) p + k }))
      (range_with_len 0 (children_at b (suc l) p))
  -- children are nodes, one or more of each node and no more than it may have
  pub inside : (l p k : ℕ) → l < height b → k < children_at b (suc l) p
      → first_child b (suc l) p + k < nodes b l
  pub child_node : (n m : Node) (k : ℕ) → child b n k ≡ Some m → HasNode b m
  pub child_level : (n m : Node) (k : ℕ) → child b n k ≡ Some m → m.level + 1 ≡ n.level
  pub some_child : (l p : ℕ) → l < height b → p < nodes b (suc l) → 0 < children_at b (suc l) p
  pub few : (l p : ℕ) → children_at b l p ≤ MOST_CHILDREN

-- Nodes and their parents.
pub record ParentLaws (b : BoardValue) : Type 0 where
  -- a node is the parent of each of its children, and the number of a child is the one that asked
  -- for it
  pub of_child : (n m : Node) (k : ℕ) → child b n k ≡ Some m → parent b m ≡ Some n
  pub number : (n m : Node) (k : ℕ) → child b n k ≡ Some m → child_number b m ≡ Some k
  -- each node below the system is the child of its parent, of its own number
  pub child : (n m : Node) (k : ℕ) → parent b m ≡ Some n → child_number b m ≡ Some k
      → child b n k ≡ Some m
  pub numbered : (n m : Node) → parent b m ≡ Some n → (k : ℕ) × (child_number b m ≡ Some k)
  pub node : (n m : Node) → parent b m ≡ Some n → HasNode b n
  pub some_parent : (m : Node) → HasNode b m → m.level < height b
      → (n : Node) × (parent b m ≡ Some n)
  -- a core's path goes from parent to parent
  pub path : (c l : ℕ) → c < cores b → l < height b
      → parent b (record { level = l; place = up b l c })
      ≡ Some (record { level = suc l; place = up b (suc l) c })

-- The cores below a node of these levels.
pub record SpanLaws (levels : List (List ℕ)) : Type 0 where
  -- they have the numbers of the node's span, one or more, and the span has no other cores
  pub cores : (n : Node) → HasNodeIn levels n
      → below_in levels n ≡ range_with_len (span levels n).first (span levels n).count
  pub some : (n : Node) → HasNodeIn levels n → 0 < (span levels n).count
  pub inside : (n : Node) → HasNodeIn levels n
      → (span levels n).first + (span levels n).count ≤ size_below levels
  -- they are the list of all cores, cut to the span
  pub slice : (n : Node) → HasNodeIn levels n → below_in levels n
      ≡ take (span levels n).count (drop (span levels n).first
      (range_with_len 0 (size_below levels)))
  -- a core is below itself, and every core below the system
  pub core : (c : ℕ) → span levels (record { level = 0; place = c })
      ≡ record { first = c; count = 1 }
  pub system : span levels (record { level = length levels; place = 0 })
      ≡ record { first = 0; count = size_below levels }
  -- the span of the next node of a level begins where that of a node ends
  pub next : (l p : ℕ) → (span levels (record { level = l; place = p + 1 })).first
      ≡ (span levels (record { level = l; place = p })).first
      + (span levels (record { level = l; place = p })).count
  -- the span of a node begins with that of its first child, and ends with that of its last one
  pub first_child : (l p : ℕ) → (span levels (record { level = suc l; place = p })).first
      ≡ (span levels (record {
        level = l;
        place = sum (take p (slice_index_or levels l []));
      })).first
  pub last_child : (l p : ℕ) → (span levels (record { level = suc l; place = p })).first
      + (span levels (record { level = suc l; place = p })).count
      ≡ (span levels (record {
        level = l;
        place = sum (take p (slice_index_or levels l []))
            + slice_index (slice_index_or levels l []) p;
      })).first

-- Affinity words and the nodes that they name.
pub record WordLaws (b : BoardValue) : Type 0 where
  -- the system has no fields, and a child has its number in a field below those of its parent
  pub system : address b (height b) 0 ≡ 0
  pub child_fields : (n m : Node) (k : ℕ) → child b n k ≡ Some m
      → address b m.level m.place ≡ k + 256 * address b n.level n.place
  -- a word names a node of the board with its fields
  pub level : (word l : ℕ) (n : Node) → node_of b word l ≡ Some n → n.level ≡ l
  pub node : (word l : ℕ) (n : Node) → node_of b word l ≡ Some n → HasNode b n
  pub fields : (word l : ℕ) (n : Node) → node_of b word l ≡ Some n
      → address b l n.place ≡ word / 2 ^ (8 * l)
  -- and each word with the fields of a node names that node
  pub named : (word : ℕ) (n : Node) → HasNode b n
      → address b n.level n.place ≡ word / 2 ^ (8 * n.level) → node_of b word n.level ≡ Some n
  pub some_word : (n : Node) → HasNode b n
      → (word : ℕ) × (word < 2 ^ 24) × (node_of b word n.level ≡ Some n)
  -- the nodes of level 0 are the cores
  pub core_node : (word : ℕ)
      → node_of b word 0 ≡ option_map (λ c. record { level = 0; place = c.number }) (core_of b word)
  pub core : (word : ℕ) (c : Core) → core_of b word ≡ Some c → c.number < cores b
  pub core_fields : (word : ℕ) (c : Core) → core_of b word ≡ Some c → address b 0 c.number ≡ word
  pub core_named : (c : ℕ) → c < cores b → core_of b (address b 0 c) ≡ Some (record { number = c })
  -- the word of a core has 24 bits, and names each node of the core's path
  pub short : (c : ℕ) → c < cores b → address b 0 c < 2 ^ 24
  pub path : (c l : ℕ) → c < cores b → l ≤ height b
      → node_of b (address b 0 c) l ≡ Some (record { level = l; place = up b l c })

-- Which domains stand on the path of a core, as tests ---------------------------------------------

-- the board has the level, and the domain of this level and place is on the path of a core
abbrev pub is_on_path : BoardValue → ℕ → ℕ → ℕ → Bool
is_on_path b c level place = nat_le level (height b) && up b level c == place

-- the place is that of a core's path at this level, whether the board has the level or not
abbrev pub is_path_place : BoardValue → ℕ → ℕ → ℕ → Bool
is_path_place b c level place = place == up b level c
