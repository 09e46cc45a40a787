-- One way more, and all of them where the loop ends.
use Rattle.std.proofs.lemmas.List.{get_or_push, get_or_append_left}
use Rattle.psci_tree.proofs.Words.{◌++◌, ◌+◌, ◌<◌, ◌∙◌, ◌∷◌, ◌≡◌, [], ap, arith, cases_eq, get_or}
use Rattle.psci_tree.proofs.Words.{inl, inr, IsWayOf, length, length_push, List, size_below, Way, ℕ}
use Rattle.psci_tree.proofs.way.ways_of.Goals as goal

-- one more way
ways_push : (levels : List (List ℕ)) (ways now : List Way) (way : Way) (count : ℕ)
    → length ways ≡ count → now ≡ ways ++ way ∷ [] → IsWayOf levels count way
    → ((core : ℕ) (w : Way) → core < count → IsWayOf levels core (get_or ways core w))
    → (core : ℕ) (w : Way) → core < count + 1 → IsWayOf levels core (get_or now core w)
ways_push levels ways now way count long e own each core w h = elim (cases_eq core count) [
  | inl same ↦ rw (e, get_or_push ways way w core (omega (arith, long, same)), same) own
  | inr other ↦
      let before : core < count = omega (arith, h, other) in
      rw (e, get_or_append_left ways (way ∷ []) w core (omega (arith, before, long)))
      (each core w before)
]

pub loop-number-preserved : goal.loop-number-preserved
loop-number-preserved c = record {
  count = ap length c.in_ok-push.ensures.items
      ∙ length_push c.loop-number.ways.items c.way_to.result
      ∙ ap (λ n. n + 1) c.loop-number.invariant.count;
  each = ways_push c.args.board.now.levels c.loop-number.ways.items _ c.way_to.result
      c.loop-number.number c.loop-number.invariant.count c.in_ok-push.ensures.items
      c.way_to.ensures c.loop-number.invariant.each;
}

pub returns : goal.returns
returns c =
    let levels : List (List ℕ) = c.args.board.now.levels in
    let all : c.loop-number.number ≡ size_below levels = omega (
      arith,
      c.loop-number-test.false,
      c.loop-number.auto.number-end,
      c.cores-number-end.ensures.cores,
    ) in
    record {
      count = c.loop-number.invariant.count ∙ all;
      each = λ core w h. c.loop-number.invariant.each core w (omega (arith, h, all));
    }
