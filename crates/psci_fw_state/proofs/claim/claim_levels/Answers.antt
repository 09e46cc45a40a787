-- Level by level, the domain on the core's path gets a part, and is granted what it claims.
use Rattle.std.proofs.Common.{◌++◌}
use Rattle.psci_fw_state.proofs.Words.{◌+◌, ◌∙◌, ◌∷◌, ◌≡◌, ◌≤◌, [], ap, arith, granted_at}
use Rattle.psci_fw_state.proofs.Words.{HasNodeIn, height, is_confirmed_at, length, List, Node}
use Rattle.psci_fw_state.proofs.Words.{Part, refl, slice_get, Some, sym, up, view_of}
use Rattle.psci_fw_state.proofs.Words.{wished_claims, ℕ}
use Rattle.psci_tree.specs.Standing.{on_path as path_node}
use Rattle.psci_messages.specs.View.{domain_of, generation}
use Rattle.psci_coord.specs.Wish.{wanted}
use Rattle.psci_coord.proofs.Climbing.{climbed-ends, climbed-more, climbed-none, IsClimbedTo}
use Rattle.psci_coord.proofs.Climbing.{known-is, node-is, wanted-is}
use Rattle.psci_fw_state.proofs.KeptCounts.{climbed_all, generation_kept, part_of_level}
use Rattle.psci_fw_state.proofs.KeptCounts.{wanted_kept}
use Rattle.psci_fw_state.proofs.Granting.{laid_all, laid_more, may_grant, on_board, on_path}
use Rattle.psci_fw_state.proofs.Granting.{unconfirmed_all, unconfirmed_more}
use Rattle.psci_fw_state.proofs.claim.claim_levels.Goals.{After-depth-depth, After-loop-level}
use Rattle.psci_fw_state.proofs.claim.claim_levels.Goals.{Then-level-height}
use Rattle.psci_fw_state.proofs.claim.claim_levels.Goals as goal

-- The part of this level ----------------------------------------------------------------------

low : (c : After-depth-depth) → c.loop-level.level ≤ height c.args.board.now
low c = omega (arith, c.if-level-height.false, c.height.ensures.height)

levels : (c : After-depth-depth) → c.loop-level.tree.levels ≡ c.args.board.now.levels
levels c = c.loop-level.invariant.levels ∙ c.requires.tree.levels

-- what is wanted here, as the tree was at first: no core has changed since
abbrev wished : After-depth-depth → ℕ → ℕ
wished c = wanted c.args.board.now (view_of c.args.tree.now) c.args.core.number c.args.wish.now

depth_is : (c : After-depth-depth) → c.depth-depth.result ≡ wished c c.loop-level.level
depth_is c =
    let b = c.args.board.now in
    let u = c.loop-level.tree in
    let core = c.args.core.number in
    let level = c.loop-level.level in
    let node = path_node u.levels core level in
    c.depth-depth.ensures u node refl c.standing-standing.ensures.low
    ∙ wanted-is b u core level node c.args.wish.now (levels c) (node-is b u core level (levels c))
    ∙ wanted_kept b c.args.tree.now u core level c.args.wish.now c.loop-level.invariant.cores
    c.loop-level.invariant.levels

known_is : (c : After-depth-depth) → c.standing-standing.result.known
    ≡ generation c.args.board.now (view_of c.args.tree.now)
    (domain_of c.args.board.now c.args.core.number c.loop-level.level)
known_is c =
    let b = c.args.board.now in
    let u = c.loop-level.tree in
    let core = c.args.core.number in
    let level = c.loop-level.level in
    c.standing-standing.ensures.known
    ∙ known-is b u core level (path_node u.levels core level) (levels c)
    (node-is b u core level (levels c))
    ∙ generation_kept b c.args.tree.now u core level c.loop-level.invariant.cores

abbrev part : After-depth-depth → Part
part c = record {
  level = c.loop-level.level;
  depth = c.depth-depth.result;
  generation = c.standing-standing.result.known;
}

-- The claim so far ----------------------------------------------------------------------------

climbed_on : (c : After-depth-depth) → (c.depth-depth.result ≡ 0 → ⊥)
    → IsClimbedTo c.args.board.now (view_of c.args.tree.now) c.args.core.number (wished c)
    (c.loop-level.level + 1) (c.loop-level.parts ++ part c ∷ [])
climbed_on c some =
    climbed-more c.args.board.now (view_of c.args.tree.now) c.args.core.number (wished c)
    c.loop-level.level c.loop-level.parts (part c) c.loop-level.invariant.climbed
    (omega (arith, low c)) refl (depth_is c) (known_is c) some

-- all parts that the core is to claim
abbrev all : After-depth-depth → List Part
all c = wished_claims c.args.board.now (view_of c.args.tree.now) c.args.core.number c.args.wish.now

part_is : (c : After-depth-depth) → (c.depth-depth.result ≡ 0 → ⊥)
    → slice_get (all c) c.loop-level.level ≡ Some (part c)
part_is c some =
    part_of_level c.args.board.now (view_of c.args.tree.now) c.args.core.number (wished c)
    c.loop-level.level c.loop-level.parts (part c) c.loop-level.invariant.climbed.count
    (climbed_on c some)

-- Granted -------------------------------------------------------------------------------------

-- the domain of this level on the core's path
abbrev on : After-depth-depth → Node
on c = record {
  level = c.loop-level.level;
  place = up c.args.board.now c.loop-level.level c.args.core.number;
}

node : (c : After-depth-depth) (n : Node)
    → n ≡ path_node c.loop-level.tree.levels c.args.core.number c.loop-level.level → n ≡ on c
node c n is = on_board c.args.board.now c.loop-level.tree.levels c.args.core.number
    c.loop-level.level n is (levels c)

has : (c : After-depth-depth) → HasNodeIn c.loop-level.tree.levels (on c)
has c = on_path c.args.board.now c.loop-level.tree.levels c.args.core.number c.loop-level.level
    (c.law_paths.ensures c.args.board.now c.requires.tree.board) (levels c)
    c.requires.parts.inside (low c)

pub grant-requires-clause-domain : goal.grant-requires-clause-domain
grant-requires-clause-domain c =
    let at = (goal.at.grant-requires-clause-domain c).After-depth-depth in
    rw (node at c.on_path-node.result c.on_path-node.ensures) (has at)

pub grant-requires-clause-depth : goal.grant-requires-clause-depth
grant-requires-clause-depth c =
    let at = (goal.at.grant-requires-clause-depth c).After-depth-depth in
    let b = c.args.board.now in
    rw (node at c.on_path-node.result c.on_path-node.ensures)
    (may_grant b c.args.core.number (all at) (granted_at c.args.tree.now)
    c.loop-level.tree c.loop-level.level (part at) (part_is at c.if-depth-eq0.false)
    (c.law_paths.ensures b c.requires.tree.board) c.requires.parts.may
    (c.law_parts.ensures.parts (all at) c.requires.parts.claims)
    (levels at) (low at) c.loop-level.invariant.laid)

-- The loop ------------------------------------------------------------------------------------

pub loop-level-init : goal.loop-level-init
loop-level-init c = record {
  climbed = rw c.clear.ensures (climbed-none c.args.board.now (view_of c.args.tree.now)
      c.args.core.number
      (wanted c.args.board.now (view_of c.args.tree.now) c.args.core.number c.args.wish.now));
  laid = record { low = λ l p h. absurd (omega (arith, h)); high = λ l p h. refl };
  unconfirmed = record { low = λ l p h. absurd (omega (arith, h)); high = λ l p h. refl };
  cores = λ k. refl;
  levels = refl;
  tree = c.requires.tree.tree;
}

pub loop-level-preserved : goal.loop-level-preserved
loop-level-preserved c =
    let at = (goal.at.loop-level-preserved c).After-depth-depth in
    let b = c.args.board.now in
    let is = part_is at c.if-depth-eq0.false in
    record {
      climbed = rw c.push_at.ensures (climbed_on at c.if-depth-eq0.false);
      laid = laid_more b c.args.core.number (all at) (granted_at c.args.tree.now)
          c.loop-level.tree c.grant.new.self c.loop-level.level (part at) is
          (λ l p. rw (c.grant.ensures.value, node at c.on_path-node.result c.on_path-node.ensures)
          (c.law_granted.ensures.grant c.loop-level.tree _ _ l p c.loop-level.invariant.tree
          (has at))) c.loop-level.invariant.laid;
      unconfirmed = unconfirmed_more b c.args.core.number (all at)
          (is_confirmed_at c.args.tree.now) c.loop-level.tree c.grant.new.self c.loop-level.level
          (part at) is (c.loop-level.invariant.laid.high _ _ (omega arith)
          ∙ c.requires.parts.may.free c.loop-level.level (low at))
          ((c.law_parts.ensures.parts (all at) c.requires.parts.claims).least _ _ is)
          (λ l p. rw (c.grant.ensures.value, node at c.on_path-node.result c.on_path-node.ensures)
          (c.law_confirmed.ensures.grant c.loop-level.tree _ _ l p c.loop-level.invariant.tree
          (has at))) c.loop-level.invariant.unconfirmed;
      cores = λ k. rw c.grant.ensures.value
          (c.law_cores.ensures.grant c.loop-level.tree _ _ k ∙ c.loop-level.invariant.cores k);
      levels = c.grant.ensures.levels ∙ c.loop-level.invariant.levels;
      tree = c.grant.ensures.tree;
    }

-- The end -------------------------------------------------------------------------------------

-- nothing more is wanted
whole : (c : After-depth-depth) → c.depth-depth.result ≡ 0 → c.loop-level.parts ≡ all c
whole c none =
    climbed-ends c.args.board.now (view_of c.args.tree.now) c.args.core.number (wished c)
    c.loop-level.level c.loop-level.parts c.loop-level.invariant.climbed (sym (depth_is c) ∙ none)

pub returns-then-depth-eq0-clause-parts : goal.returns-then-depth-eq0-clause-parts
returns-then-depth-eq0-clause-parts c =
    whole (goal.at.returns-then-depth-eq0-clause-parts c).After-depth-depth c.if-depth-eq0.true

pub returns-then-depth-eq0-clause-granted : goal.returns-then-depth-eq0-clause-granted
returns-then-depth-eq0-clause-granted c = λ l p.
    let at = (goal.at.returns-then-depth-eq0-clause-granted c).After-depth-depth in
    let same = whole at c.if-depth-eq0.true in
    rw same (laid_all c.args.board.now c.args.core.number (all at) (granted_at c.args.tree.now)
    c.loop-level.tree c.loop-level.level
    (omega (arith, ap length same, c.loop-level.invariant.climbed.count))
    c.loop-level.invariant.laid l p)

pub returns-then-depth-eq0-clause-confirmed : goal.returns-then-depth-eq0-clause-confirmed
returns-then-depth-eq0-clause-confirmed c = λ l p.
    let at = (goal.at.returns-then-depth-eq0-clause-confirmed c).After-depth-depth in
    let same = whole at c.if-depth-eq0.true in
    rw same (unconfirmed_all c.args.board.now c.args.core.number (all at)
    (is_confirmed_at c.args.tree.now) c.loop-level.tree c.loop-level.level
    (omega (arith, ap length same, c.loop-level.invariant.climbed.count))
    c.loop-level.invariant.unconfirmed l p)

-- the system has its part
abbrev every_part : Then-level-height → List Part
every_part c =
    wished_claims c.args.board.now (view_of c.args.tree.now) c.args.core.number c.args.wish.now

topped : (c : Then-level-height) → c.loop-level.parts ≡ every_part c
topped c =
    climbed_all c.args.board.now (view_of c.args.tree.now) c.args.core.number _
    c.loop-level.level c.loop-level.parts c.loop-level.invariant.climbed
    (omega (arith, c.if-level-height.true, c.height.ensures.height))

pub returns-then-level-height-clause-parts : goal.returns-then-level-height-clause-parts
returns-then-level-height-clause-parts c = topped c

pub returns-then-level-height-clause-granted : goal.returns-then-level-height-clause-granted
returns-then-level-height-clause-granted c = λ l p.
    rw (topped c) (laid_all c.args.board.now c.args.core.number (every_part c)
    (granted_at c.args.tree.now) c.loop-level.tree c.loop-level.level
    (omega (arith, ap length (topped c), c.loop-level.invariant.climbed.count))
    c.loop-level.invariant.laid l p)

pub returns-then-level-height-clause-confirmed : goal.returns-then-level-height-clause-confirmed
returns-then-level-height-clause-confirmed c = λ l p.
    rw (topped c) (unconfirmed_all c.args.board.now c.args.core.number (every_part c)
    (is_confirmed_at c.args.tree.now) c.loop-level.tree c.loop-level.level
    (omega (arith, ap length (topped c), c.loop-level.invariant.climbed.count))
    c.loop-level.invariant.unconfirmed l p)

-- no board is higher
abbrev all_levels : After-loop-level → List Part
all_levels c =
    wished_claims c.args.board.now (view_of c.args.tree.now) c.args.core.number c.args.wish.now

full : (c : After-loop-level) → c.loop-level.parts ≡ all_levels c
full c =
    climbed_all c.args.board.now (view_of c.args.tree.now) c.args.core.number _
    c.loop-level.level c.loop-level.parts c.loop-level.invariant.climbed
    (omega (
      arith,
      c.loop-level-test.false,
      c.requires.tree.tree.high,
      ap length c.requires.tree.levels,
    ))

pub returns-after-loop-level-clause-parts : goal.returns-after-loop-level-clause-parts
returns-after-loop-level-clause-parts c = full c

pub returns-after-loop-level-clause-granted : goal.returns-after-loop-level-clause-granted
returns-after-loop-level-clause-granted c = λ l p.
    rw (full c) (laid_all c.args.board.now c.args.core.number (all_levels c)
    (granted_at c.args.tree.now) c.loop-level.tree c.loop-level.level
    (omega (arith, ap length (full c), c.loop-level.invariant.climbed.count))
    c.loop-level.invariant.laid l p)

pub returns-after-loop-level-clause-confirmed : goal.returns-after-loop-level-clause-confirmed
returns-after-loop-level-clause-confirmed c = λ l p.
    rw (full c) (unconfirmed_all c.args.board.now c.args.core.number (all_levels c)
    (is_confirmed_at c.args.tree.now) c.loop-level.tree c.loop-level.level
    (omega (arith, ap length (full c), c.loop-level.invariant.climbed.count))
    c.loop-level.invariant.unconfirmed l p)
