-- What is kept of the domain of the level on the core's path is how it stands.
use Rattle.psci_tree.proofs.Words.{◌<◌, ◌∙◌, ◌≡◌, ◌≤◌, ap, HasNodeIn, inside, IsDomainTree}
use Rattle.psci_tree.proofs.Words.{Keeps, Kept, known, length, low, low_in, Node, on_path, refl}
use Rattle.psci_tree.proofs.Words.{size_below, subst, sym, TreeValue, ℕ}
use Rattle.psci_tree.proofs.Gone.{known_is, low_is, states}
use Rattle.psci_tree.proofs.Seen.{held_seen}
use Rattle.psci_tree.proofs.tree.Tree.standing.Goals as goal

has : (t : TreeValue) (core level : ℕ) (n : Node) → IsDomainTree t → core < size_below t.levels
    → level ≤ length t.levels → n ≡ on_path t.levels core level → HasNodeIn t.levels n
has t core level n valid lt high is = subst (HasNodeIn t.levels) (sym is) (record {
  level = high;
  place = inside t.levels level core valid.tree lt high;
})

low_of : (t : TreeValue) (core level : ℕ) (n : Node) (x : ℕ) → IsDomainTree t
    → level ≤ length t.levels → n ≡ on_path t.levels core level
    → x ≡ low_in n.level (states t n) → x ≡ low t (on_path t.levels core level) level
low_of t core level n x valid high is e =
    e ∙ ap (λ (m : Node). low_in m.level (states t m)) is
    ∙ low_is t (on_path t.levels core level) level _ refl high

known_of : (t : TreeValue) (core level : ℕ) (n : Node) (k : Kept)
    → n ≡ on_path t.levels core level → Keeps n.level k (states t n)
    → k.known ≡ known t (on_path t.levels core level)
known_of t core level n k is keeps =
    ap (λ (j : Kept). j.known) keeps.counted ∙ known_is t n _ refl ∙ ap (known t) is

pub kept-own-requires : goal.kept-own-requires
kept-own-requires c =
    has c.args.self.now c.args.core.number c.args.level c.on_path-node.result
    (held_seen c.self.inside c.args.self.now c.self.invariant c.self.view_is).tied.valid
    c.requires.core c.requires.level c.on_path-node.ensures

pub kept_above-kept-requires-clause-domain : goal.kept_above-kept-requires-clause-domain
kept_above-kept-requires-clause-domain c =
    has c.args.self.now c.args.core.number c.args.level c.on_path-node.result
    (held_seen c.self.inside c.args.self.now c.self.invariant c.self.view_is).tied.valid
    c.requires.core c.requires.level c.on_path-node.ensures

pub returns-then-level-eq0-clause-low : goal.returns-then-level-eq0-clause-low
returns-then-level-eq0-clause-low c =
    low_of c.args.self.now c.args.core.number c.args.level c.on_path-node.result _
    (held_seen c.self.inside c.args.self.now c.self.invariant c.self.view_is).tied.valid
    c.requires.level c.on_path-node.ensures (c.low.ensures _ _ c.kept-own.ensures)

pub returns-then-level-eq0-clause-known : goal.returns-then-level-eq0-clause-known
returns-then-level-eq0-clause-known c =
    known_of c.args.self.now c.args.core.number c.args.level c.on_path-node.result
    c.kept-own.result c.on_path-node.ensures c.kept-own.ensures

pub returns-clause-low : goal.returns-clause-low
returns-clause-low c =
    low_of c.args.self.now c.args.core.number c.args.level c.on_path-node.result _
    (held_seen c.self.inside c.args.self.now c.self.invariant c.self.view_is).tied.valid
    c.requires.level c.on_path-node.ensures (c.low-2.ensures _ _ c.kept_above-kept.ensures)

pub returns-clause-known : goal.returns-clause-known
returns-clause-known c =
    known_of c.args.self.now c.args.core.number c.args.level c.on_path-node.result
    c.kept_above-kept.result.now c.on_path-node.ensures c.kept_above-kept.ensures
