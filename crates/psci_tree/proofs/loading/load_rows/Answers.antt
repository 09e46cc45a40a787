-- The depths of one level more are read.
use Rattle.std.proofs.Common.{◌<◌, ◌∙◌, ◌≡◌, ◌≤◌, [], ap, arith, drop, get_or, length, List, map}
use Rattle.std.proofs.Common.{sym, take, ℕ}
use Rattle.std.proofs.lemmas.List.{get_or-map, length-map, map-set, with_items_is}
use Rattle.std.proofs.lemmas.List.Elements.{All-drop}
use Rattle.psci_tree.specs.declared.depths.Depths.{Depths}
use Rattle.psci_tree.proofs.SavedTrees.{row_left, row_loaded, row_sizes}
use Rattle.psci_tree.proofs.SavedRows.{sum_left}
use Rattle.psci_tree.proofs.loading.load_rows.Goals as goal

pub split_at-requires : goal.split_at-requires
split_at-requires c =
    let k : ℕ = c.loop-level.level in
    let now : List (List Depths) = map (λ v. v.items) c.loop-level.rows in
    let old : List ℕ = map length (map (λ v. v.items) c.args.rows.now) in
    let row = get_or c.loop-level.rows k c.index-rows-level.result in
    let inv = c.loop-level.invariant in
    let fits : k < length now =
    omega (
      arith,
      length-map c.loop-level.rows (λ v. v.items),
      c.loop-level-test.true,
      c.loop-level.auto.rows,
    ) in
    let many : length now ≡ length old =
    sym (length-map now length) ∙ ap (λ (ns : List ℕ). length ns) inv.sizes in
    let read : row.items ≡ get_or now k [] =
    sym (get_or-map (λ v. v.items) c.loop-level.rows k c.index-rows-level.result []
    (omega (arith, c.loop-level.auto.rows, c.loop-level-test.true))) in
    let size : length (get_or now k []) ≡ get_or old k 0 =
    sym (get_or-map length now k [] 0 fits) ∙ ap (λ ns. get_or ns k 0) inv.sizes in
    omega (
      arith,
      c.len.ensures,
      row.ok.0,
      ap (λ (ds : List Depths). length ds) read,
      size,
      inv.left,
      sum_left old k (omega (arith, fits, many)),
    )

pub loop-level-preserved : goal.loop-level-preserved
loop-level-preserved c =
    let k : ℕ = c.loop-level.level in
    let now : List (List Depths) = map (λ v. v.items) c.loop-level.rows in
    let old : List ℕ = map length (map (λ v. v.items) c.args.rows.now) in
    let row = get_or c.loop-level.rows k c.index-rows-level.result in
    let inv = c.loop-level.invariant in
    let new : List Depths = c.load_row.new.row in
    let low : k < length c.loop-level.rows =
    omega (arith, c.loop-level.auto.rows, c.loop-level-test.true) in
    let fits : k < length now = omega (arith, length-map c.loop-level.rows (λ v. v.items), low) in
    let many : length now ≡ length old =
    sym (length-map now length) ∙ ap (λ (ns : List ℕ). length ns) inv.sizes in
    let inside : k < length old = omega (arith, fits, many) in
    let read : row.items ≡ get_or now k [] =
    sym (get_or-map (λ v. v.items) c.loop-level.rows k c.index-rows-level.result [] low) in
    let size : length (get_or now k []) ≡ get_or old k 0 =
    sym (get_or-map length now k [] 0 fits) ∙ ap (λ ns. get_or ns k 0) inv.sizes in
    let same : length row.items ≡ get_or old k 0 =
    ap (λ (ds : List Depths). length ds) read ∙ size in
    let first : c.len.result ≡ get_or old k 0 = omega (arith, c.len.ensures, row.ok.0, same) in
    let second : c.len-in-loop-level.result ≡ get_or old k 0 =
    omega (arith, c.len-in-loop-level.ensures, row.ok.0, same) in
    let kept = with_items_is row new
    (omega (arith, c.load_row.auto.row, c.deref_mut.ensures.len)) in
    let long : length new ≡ get_or old k 0 =
    sym (length-map new (λ (d : Depths). d.granted))
    ∙ ap (λ (ns : List ℕ). length ns) c.load_row.ensures.granted
    ∙ c.split_at.ensures.front_len ∙ first in
    let granted_front = c.load_row.ensures.granted ∙ c.split_at.ensures.front
    ∙ ap (λ n. take n c.loop-level.granted.now) first in
    let confirmed_front = c.load_row.ensures.confirmed ∙ c.split_at-in-loop-level.ensures.front
    ∙ ap (λ n. take n c.loop-level.confirmed.now) second in
    let granted_back = c.split_at.ensures.back ∙ ap (λ n. drop n c.loop-level.granted.now) first in
    let confirmed_back = c.split_at-in-loop-level.ensures.back
    ∙ ap (λ n. drop n c.loop-level.confirmed.now) second in
    rw (
      map-set (λ v. v.items) c.loop-level.rows k _,
      kept,
      granted_back,
      confirmed_back,
    ) (record {
      sizes = row_sizes now old k new fits inv.sizes long;
      granted = row_loaded (λ d. d.granted) now old k new c.loop-level.granted.now _ fits inside
          granted_front inv.granted;
      confirmed = row_loaded (λ d. d.confirmed) now old k new c.loop-level.confirmed.now _ fits
          inside confirmed_front inv.confirmed;
      left = row_left old k c.loop-level.granted.now inside inv.left;
      same = row_left old k c.loop-level.confirmed.now inside (inv.same ∙ inv.left)
          ∙ sym (row_left old k c.loop-level.granted.now inside inv.left);
      low = All-drop (λ (d : ℕ). d ≤ 3) (get_or old k 0) _ inv.low;
      sure = All-drop (λ (d : ℕ). d ≤ 3) (get_or old k 0) _ inv.sure;
    })
