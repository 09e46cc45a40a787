-- Rows of depths, one for each level, each read as one of the two depths of its domains.
use Rattle.std.proofs.Common.{◌≡◌, ℕ, zero, suc, ◌<◌, List, [], ◌∷◌, length, get_or, map, replicate}
use Rattle.std.proofs.Common.{refl, ap, sym, ◌∙◌, arith, ◌++◌, ◌+◌, drop, take}
use Rattle.std.proofs.Math.ListN.{set}
use Rattle.std.proofs.lemmas.List.{get_or-map, length-map, map-set, map_more}
use Rattle.psci_board.specs.declared.draft.Node.{Node}
use Rattle.psci_board.specs.Board.{HasNodeIn}
use Rattle.psci_tree.specs.declared.depths.Depths.{Depths}
use Rattle.psci_tree.specs.Changes.{rows_with_depth}
use Rattle.psci_tree.specs.DepthRows.{granted_of, confirmed_of, filled}
use Rattle.psci_tree.specs.Recount.{level_sizes}
use Rattle.psci_tree.proofs.Granted.{RowOf, row_of}

-- one domain written
pub depths_written : (f : Depths → ℕ) (rows : List (List Depths)) (l p : ℕ) (d : Depths)
    → map (map f) (set rows l (set (get_or rows l []) p d))
    ≡ set (map (map f) rows) l (set (get_or (map (map f) rows) l []) p (f d))
depths_written f [] l p d = refl
depths_written f (r ∷ rs) zero p d = ap (λ x. x ∷ map (map f) rs) (map-set f r p d)
depths_written f (r ∷ rs) (suc l) p d = ap (λ xs. map f r ∷ xs) (depths_written f rs l p d)

-- one domain read
pub depth_read : (f : Depths → ℕ) (rows : List (List Depths)) (l p : ℕ) (d : Depths)
    → l < length rows → p < length (get_or rows l [])
    → get_or (get_or (map (map f) rows) l []) p 0 ≡ f (get_or (get_or rows l []) p d)
depth_read f [] l p d h i = absurd (omega arith)
depth_read f (r ∷ rs) zero p d h i = get_or-map f r p d 0 i
depth_read f (r ∷ rs) (suc l) p d h i = depth_read f rs l p d (omega arith) i

-- the rows of either depth are as long
pub depth_lengths : (f : Depths → ℕ) (rows : List (List Depths))
    → map length (map (map f) rows) ≡ map length rows
depth_lengths f [] = refl
depth_lengths f (r ∷ rs) = simp (length-map, depth_lengths f rs)

each_mapped : (f : Depths → ℕ) (n : ℕ) (d : Depths) → map f (replicate n d) ≡ replicate n (f d)
each_mapped f zero d = refl
each_mapped f (suc n) d = ap (λ xs. f d ∷ xs) (each_mapped f n d)

-- the same depths throughout
pub filled_depths : (f : Depths → ℕ) (counts : List ℕ) (d : Depths)
    → map (map f) (filled counts d) ≡ rows_with_depth counts (f d)
filled_depths f [] d = refl
filled_depths f (n ∷ ns) d = simp (each_mapped, filled_depths f ns d)

-- the row of a domain's level
pub record DepthRow (rows : List (List Depths)) (n : Node) : Type 0 where
  pub level : n.level < length rows
  pub place : n.place < length (get_or rows n.level [])

pub depth_row : (levels : List (List ℕ)) (rows : List (List Depths)) (n : Node)
    → map length (granted_of rows) ≡ level_sizes levels → HasNodeIn levels n → DepthRow rows n
depth_row levels rows n e h =
    let g : Depths → ℕ = λ d. d.granted in
    let at : RowOf (granted_of rows) n = row_of levels (granted_of rows) n e h in
    let inside : n.level < length rows = omega (arith, at.level, length-map rows (map g)) in
    let same : get_or (granted_of rows) n.level [] ≡ map g (get_or rows n.level []) =
    get_or-map (map g) rows n.level [] [] inside in
    record {
      level = inside;
      place = omega (arith, at.place, ap length same, length-map (get_or rows n.level []) g);
    }

-- what was read of a domain is what the rows of either depth have
pub record ReadAt (rows : List (List Depths)) (n : Node) (x : Depths) : Type 0 where
  pub granted : x.granted ≡ get_or (get_or (granted_of rows) n.level []) n.place 0
  pub confirmed : x.confirmed ≡ get_or (get_or (confirmed_of rows) n.level []) n.place 0

pub read_at : (rows now : List (List Depths)) (n : Node) (x : Depths) → DepthRow rows n
    → now ≡ rows → ((d : Depths) → x ≡ get_or (get_or now n.level []) n.place d) → ReadAt rows n x
read_at rows now n x at same e =
    let is : x ≡ get_or (get_or rows n.level []) n.place x = rw same at (e x) in
    record {
      granted = ap (λ d. d.granted) is
          ∙ sym (depth_read _ rows n.level n.place x at.level at.place);
      confirmed = ap (λ d. d.confirmed) is
          ∙ sym (depth_read _ rows n.level n.place x at.level at.place);
    }

-- Rows that are filled ----------------------------------------------------------------------------

-- one more row
pub rows_more : (ns : List ℕ) (i : ℕ) (depth : Depths) → i < length ns
    → filled (take (i + 1) ns) depth
    ≡ filled (take i ns) depth ++ replicate (get_or ns i 0) depth ∷ []
rows_more ns i depth h = map_more (λ count. replicate count depth) ns i 0 h

-- one more row filled
pub filled_more : (old : List (List Depths)) (i : ℕ) (depth : Depths) → i < length old
    → set (filled (map length (take i old)) depth ++ drop i old) i (replicate
    (length (get_or (filled (map length (take i old)) depth ++ drop i old) i [])) depth)
    ≡ filled (map length (take (suc i) old)) depth ++ drop (suc i) old
filled_more [] i depth h = absurd (omega arith)
filled_more (x ∷ xs) zero depth h = refl
filled_more (x ∷ xs) (suc i) depth h =
    ap (λ ys. replicate (length x) depth ∷ ys) (filled_more xs i depth (omega arith))
