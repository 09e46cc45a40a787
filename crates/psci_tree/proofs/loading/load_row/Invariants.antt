-- The domains so far have their depths.
use Rattle.std.proofs.Common.{◌≡◌, length, map, take}
use Rattle.psci_tree.specs.declared.depths.Depths.{Depths}
use Rattle.psci_tree.proofs.loading.load_row.Given as goal

abbrev pub invariant-loop-place : goal.invariant-loop-place
invariant-loop-place l = record {
  granted : map (λ (d : Depths). d.granted) (take l.place l.row) ≡ take l.place l.granted;
  confirmed : map (λ (d : Depths). d.confirmed) (take l.place l.row) ≡ take l.place l.confirmed;
  long : length l.row ≡ length l.granted;
  same : length l.confirmed ≡ length l.granted;
}
