-- A claim is made going up, one level after another.
use Rattle.std.proofs.Common.{◌++◌, ◌+◌, ◌-◌, ◌<◌, ◌∷◌, ◌≡◌, ◌≢◌, [], ap, append-nil}
use Rattle.std.proofs.Common.{append_assoc, arith, length, length-append, List, refl, suc, zero}
use Rattle.std.proofs.Common.{ℕ}
use Rattle.std.proofs.lemmas.Bool.{lt-ltb}
use Rattle.psci_board.specs.Board.{BoardValue, height, up}
use Rattle.psci_board.specs.declared.draft.Node.{Node}
use Rattle.psci_tree.specs.Recount.{known, low, TreeValue}
use Rattle.psci_tree.specs.Standing.{on_path}
use Rattle.psci_messages.specs.Claim.{claims_of, climb}
use Rattle.psci_messages.specs.Looked.{view_of}
use Rattle.psci_messages.specs.View.{domain_of, generation, least_ask, PowerView}
use Rattle.psci_messages.specs.declared.part.Part.{Part}
use Rattle.psci_coord.specs.Wish.{depth_of, wanted}
use Rattle.psci_coord.specs.declared.claim.Wish.{Wish}
use Rattle.psci_coord.specs.declared.claim.Wish.TheVariants.{Least, Own}

-- a part that is wanted comes first
pub climb-more : (wanted generation_at : ℕ → ℕ) (level count : ℕ) → 0 < wanted level
    → climb wanted generation_at level (suc count)
    ≡ record { level = level; depth = wanted level; generation = generation_at level }
    ∷ climb wanted generation_at (level + 1) count
climb-more wanted generation_at level count h = rw (lt-ltb 0 (wanted level) h) refl

-- where none is wanted the claim ends
pub climb-ends : (wanted generation_at : ℕ → ℕ) (level count : ℕ) → wanted level ≡ 0
    → climb wanted generation_at level count ≡ []
climb-ends wanted generation_at level zero e = refl
climb-ends wanted generation_at level (suc count) e = rw e refl

-- the parts of the levels below this one, of a claim that goes on there
pub record IsClimbedTo (b : BoardValue) (v : PowerView) (core : ℕ) (wanted : ℕ → ℕ) (level : ℕ)
    (parts : List Part) : Type 0 where
  pub count : length parts ≡ level
  pub rest : parts ++ climb wanted (λ l. generation b v (domain_of b core l)) level
      (height b + 1 - level)
      ≡ claims_of b v core wanted

pub climbed-none : (b : BoardValue) (v : PowerView) (core : ℕ) (wanted : ℕ → ℕ)
    → IsClimbedTo b v core wanted 0 []
unfolding claims_of
climbed-none b v core wanted =
    let all : height b + 1 - 0 ≡ height b + 1 = omega arith in
    record { count = refl; rest = rw all refl }

pub climbed-more : (b : BoardValue) (v : PowerView) (core : ℕ) (wanted : ℕ → ℕ) (level : ℕ)
    (parts : List Part) (part : Part) → IsClimbedTo b v core wanted level parts
    → level < height b + 1 → part.level ≡ level → part.depth ≡ wanted level
    → part.generation ≡ generation b v (domain_of b core level) → part.depth ≢ 0
    → IsClimbedTo b v core wanted (level + 1) (parts ++ part ∷ [])
climbed-more b v core wanted level parts part c h l d g some =
    let one : height b + 1 - level ≡ suc (height b + 1 - (level + 1)) = omega arith in
    let gs : ℕ → ℕ = λ m. generation b v (domain_of b core m) in
    let same : record { level = level; depth = wanted level; generation = gs level } ≡ part =
    rw (l, d, g) refl in
    let next = climb-more wanted gs level (height b + 1 - (level + 1)) (omega (arith, d, some)) in
    record {
      count = omega (arith, length-append parts (part ∷ []), c.count);
      rest = rw append_assoc (rw (one, next, same) at c.rest);
    }

-- all is claimed where nothing more is wanted, and above the system
pub climbed-ends : (b : BoardValue) (v : PowerView) (core : ℕ) (wanted : ℕ → ℕ) (level : ℕ)
    (parts : List Part) → IsClimbedTo b v core wanted level parts → wanted level ≡ 0
    → parts ≡ claims_of b v core wanted
climbed-ends b v core wanted level parts c none =
    let gs : ℕ → ℕ = λ m. generation b v (domain_of b core m) in
    rw (climb-ends wanted gs level (height b + 1 - level) none, append-nil) at c.rest

-- What a tree answers is what is counted below a domain of the board ------------------------------

-- on a core's path
pub wanted-is : (b : BoardValue) (t : TreeValue) (core level : ℕ) (n : Node) (wish : Wish)
    → t.levels ≡ b.levels → n ≡ domain_of b core level
    → depth_of t n wish ≡ wanted b (view_of t) core wish level
unfolding low least_ask up
wanted-is b t core level n Least e at = rw (at, e) refl
wanted-is b t core level n (Own ask) e at = rw at refl

pub known-is : (b : BoardValue) (t : TreeValue) (core level : ℕ) (n : Node) → t.levels ≡ b.levels
    → n ≡ domain_of b core level → known t n ≡ generation b (view_of t) (domain_of b core level)
unfolding known generation up
known-is b t core level n e at = rw (at, e) refl

-- the domain of a level on a core's path
pub node-is : (b : BoardValue) (t : TreeValue) (core level : ℕ) → t.levels ≡ b.levels
    → on_path t.levels core level ≡ domain_of b core level
unfolding up
node-is b t core level e = ap (λ ls. on_path ls core level) e
