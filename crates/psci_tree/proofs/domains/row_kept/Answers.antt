-- One domain more keeps that all below it are off.
use Rattle.std.proofs.lemmas.List.{get_or_append_left, get_or_push}
use Rattle.psci_tree.proofs.Words.{◌∷◌, [], ap, arith, cases_eq, inl, inr, Kept}
use Rattle.psci_tree.proofs.Words.{length, length_push, List, recount}
use Rattle.psci_tree.proofs.domains.row_kept.Goals as goal

pub loop-place-preserved : goal.loop-place-preserved
loop-place-preserved c =
    let row : List Kept = c.loop-place.row.items in
    let k : Kept = c.never_started.result in
    record {
      count = omega (
        arith,
        ap length c.in_ok-push.ensures.items,
        length_push row k,
        c.loop-place.invariant.count,
      );
      each = λ p h. elim (cases_eq p c.loop-place.place) [
        | inl e ↦
            rw (
              c.in_ok-push.ensures.items,
              get_or_push row k (recount 0 []) p (omega (arith, e, c.loop-place.invariant.count)),
              e,
              ← c.count_below.ensures,
            )
            (c.never_started.ensures c.args.level)
        | inr n ↦
            rw (
              c.in_ok-push.ensures.items,
              get_or_append_left row (k ∷ []) (recount 0 []) p
                  (omega (arith, h, n, c.loop-place.invariant.count)),
            )
            (c.loop-place.invariant.each p (omega (arith, h, n)))
      ];
    }
