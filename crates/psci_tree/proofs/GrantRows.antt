-- What may be granted on an uneven board of height 3, and what holds of every tree: for each clause
-- one case that keeps it, and one that breaks it and no other.
use Rattle.std.proofs.Common.{◌≡◌, ℕ, zero, suc, ◌+◌, ◌-◌, ◌<◌, ◌≤◌, List, [], ◌∷◌, length, arith}
use Rattle.std.proofs.Common.{refl, ap}
use Rattle.psci_board.specs.declared.draft.Node.{Node}
use Rattle.psci_board.specs.Board.{place_above}
use Rattle.psci_state.specs.declared.cores.Activity.TheVariants.{Suspended}
use Rattle.psci_tree.specs.Recount.{TreeValue, IsDomainTree, granted_at, never_started}
use Rattle.psci_tree.specs.Changes.{MayGrant}

-- ((1 2) (1)): clusters of one, two and one core, the first two below one domain of level 2
abbrev uneven : List (List ℕ)
uneven = (1 ∷ 2 ∷ 1 ∷ []) ∷ (2 ∷ 1 ∷ []) ∷ (2 ∷ []) ∷ []

abbrev node : ℕ → ℕ → Node
node level place = record { level = level; place = place }

-- this much granted, and every core off
abbrev granting : List ℕ → List ℕ → List ℕ → ℕ → TreeValue
granting cores clusters groups system = record {
  levels = uneven;
  cores = never_started ∷ never_started ∷ never_started ∷ never_started ∷ [];
  granted = cores ∷ clusters ∷ groups ∷ (system ∷ []) ∷ [];
  confirmed = cores ∷ clusters ∷ groups ∷ (system ∷ []) ∷ [];
}

abbrev tree : TreeValue
tree = granting (3 ∷ 2 ∷ 3 ∷ 0 ∷ []) (3 ∷ 2 ∷ 0 ∷ []) (1 ∷ 0 ∷ []) 0

-- A depth that may be granted ----------------------------------------------------------------

-- no child of the core's domain below this core is granted less
abbrev ChildOk : TreeValue → Node → ℕ → ℕ → Type 0
ChildOk t n depth c = place_above uneven n.level c ≡ n.place
    → depth ≤ granted_at t (n.level - 1) (place_above uneven (n.level - 1) c)

abbrev ParentOk : TreeValue → Node → ℕ → ℕ → Type 0
ParentOk t n depth c = place_above uneven n.level c ≡ n.place
    → granted_at t (n.level + 1) (place_above uneven (n.level + 1) c) ≤ depth

-- what a fact about a core says at each of the four cores
abbrev Four : (ℕ → Type 0) → Type 0
Four P = P 0 × P 1 × P 2 × P 3

four : (P : ℕ → Type 0) → Four P → (c : ℕ) → c < 4 → P c
four P f zero h = f.0
four P f (suc zero) h = f.1
four P f (suc (suc zero)) h = f.2
four P f (suc (suc (suc zero))) h = f.3
four P f (suc (suc (suc (suc k)))) h = absurd (omega arith)

may : (cores clusters groups : List ℕ) (system depth : ℕ) (n : Node) → depth ≤ 3
    → (0 < n.level → Four (ChildOk (granting cores clusters groups system) n depth))
    → (n.level < 3 → Four (ParentOk (granting cores clusters groups system) n depth))
    → MayGrant (granting cores clusters groups system) n depth
may cores clusters groups system depth n h children parent = record {
  deepest = h;
  children = λ c i l.
      four (ChildOk (granting cores clusters groups system) n depth) (children l) c i;
  parent = λ c i l. four (ParentOk (granting cores clusters groups system) n depth) (parent l) c i;
}

-- the system, power-down
abbrev all_down : TreeValue
all_down = granting (3 ∷ 3 ∷ 3 ∷ 3 ∷ []) (3 ∷ 3 ∷ 3 ∷ []) (3 ∷ 3 ∷ []) 0

granted : MayGrant tree (node 0 3) 3
    -- a core is granted less than before, as much as its cluster, and a cluster less than before
    × MayGrant tree (node 0 2) 2
    × MayGrant tree (node 1 1) 1
    -- a domain of level 2 is granted as much as the least of its children
    × MayGrant tree (node 2 0) 2
    × MayGrant all_down (node 3 0) 3
granted = search (arith, may)

-- no depth above 3, not even of a core
too_deep : MayGrant tree (node 0 3) 4 → ⊥
too_deep m = absurd (omega (arith, m.deepest))

-- a core of the cluster is granted 2
deeper_than_child : MayGrant tree (node 1 1) 3 → ⊥
deeper_than_child m = absurd (omega (arith, m.children 1 (omega arith) (omega arith) refl))

-- the last child counts as the first does
deeper_than_last : MayGrant tree (node 3 0) 1 → ⊥
deeper_than_last m = absurd (omega (arith, m.children 3 (omega arith) (omega arith) refl))

-- the cluster is granted 2, and its last core may have no less
shallower_than_parent : MayGrant tree (node 0 2) 1 → ⊥
shallower_than_parent m = absurd (omega (arith, m.parent 2 (omega arith) (omega arith) refl))

cluster_too_low : MayGrant tree (node 1 0) 0 → ⊥
cluster_too_low m = absurd (omega (arith, m.parent 0 (omega arith) (omega arith) refl))

-- What breaks what holds of every tree --------------------------------------------------------

-- a suspended core that asks nothing of itself, and one that asks more of its cluster
abbrev asking : List ℕ → TreeValue
asking depths = record tree {
  cores = never_started ∷ record { activity = Suspended depths; known = 1 } ∷ never_started
      ∷ never_started ∷ [];
}

core_stays_on : IsDomainTree (asking (0 ∷ 0 ∷ 0 ∷ 0 ∷ [])) → ⊥
core_stays_on v = absurd (omega (arith, (v.asks 1).least))

ask_grows : IsDomainTree (asking (2 ∷ 3 ∷ 0 ∷ 0 ∷ [])) → ⊥
ask_grows v = absurd (omega (arith, (v.asks 1).falls 0))

-- four levels, of one domain each
abbrev four_levels : TreeValue
four_levels = record {
  levels = (1 ∷ []) ∷ (1 ∷ []) ∷ (1 ∷ []) ∷ (1 ∷ []) ∷ [];
  cores = never_started ∷ [];
  granted = (0 ∷ []) ∷ (0 ∷ []) ∷ (0 ∷ []) ∷ (0 ∷ []) ∷ (0 ∷ []) ∷ [];
  confirmed = (0 ∷ []) ∷ (0 ∷ []) ∷ (0 ∷ []) ∷ (0 ∷ []) ∷ (0 ∷ []) ∷ [];
}

too_high : IsDomainTree four_levels → ⊥
too_high v = absurd (omega (arith, v.high))

-- two domains at the top
abbrev two_systems : TreeValue
two_systems = record {
  levels = (1 ∷ 1 ∷ []) ∷ [];
  cores = never_started ∷ never_started ∷ [];
  granted = (0 ∷ 0 ∷ []) ∷ (0 ∷ []) ∷ [];
  confirmed = (0 ∷ 0 ∷ []) ∷ (0 ∷ []) ∷ [];
}

no_tree : IsDomainTree two_systems → ⊥
no_tree v = absurd (omega (arith, v.tree.0))

-- three cores too few, and no row
core_missing : IsDomainTree (record tree { cores = never_started ∷ [] }) → ⊥
core_missing v = absurd (omega (arith, v.cores))

row_missing : IsDomainTree (record tree { granted = [] }) → ⊥
row_missing v = absurd (omega (arith, ap length v.granted))

confirmed_missing : IsDomainTree (record tree { confirmed = [] }) → ⊥
confirmed_missing v = absurd (omega (arith, ap length v.confirmed))

-- a depth above 3, and a domain granted more than one below it
granted_four : IsDomainTree (granting (4 ∷ 2 ∷ 3 ∷ 0 ∷ []) (3 ∷ 2 ∷ 0 ∷ []) (1 ∷ 0 ∷ []) 0) → ⊥
granted_four v = absurd (omega (arith, v.deepest 0 0))

granted_more : IsDomainTree (granting (3 ∷ 2 ∷ 3 ∷ 0 ∷ []) (3 ∷ 2 ∷ 1 ∷ []) (1 ∷ 0 ∷ []) 0) → ⊥
granted_more v = absurd (omega (arith, v.nested 3 0 (omega arith) (omega arith)))

-- what is confirmed, deeper than what was granted
confirmed_more : IsDomainTree (record tree {
  confirmed = (3 ∷ 3 ∷ 0 ∷ 0 ∷ []) ∷ (0 ∷ 0 ∷ 0 ∷ []) ∷ (0 ∷ 0 ∷ []) ∷ (0 ∷ []) ∷ [];
}) → ⊥
confirmed_more v = absurd (omega (arith, v.sure 0 1))
