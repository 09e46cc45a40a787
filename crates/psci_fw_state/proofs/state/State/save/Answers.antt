-- Part after part is written behind the heading, and at last the sum.
use Rattle.std.proofs.Common.{◌≡◌, ◌+◌, ◌*◌, ◌++◌, ◌∷◌, [], ℕ, List, length, take, flat_map}
use Rattle.std.proofs.Common.{arith, ap, refl, sym, ◌∙◌}
use Rattle.psci_board.specs.Board.{cores, size_below}
use Rattle.psci_messages.specs.Saved.{slots_words}
use Rattle.psci_tree.specs.Recount.{TreeValue}
use Rattle.psci_tree.specs.Saved.{core_words, depth_words, domain_count}
use Rattle.psci_fw_state.specs.declared.row.CoreRow.{CoreRow}
use Rattle.psci_fw_state.specs.declared.saved_parts.TheConstants.{FORMAT}
use Rattle.psci_fw_state.specs.Saved.{flag, life_words, mode_number, part_count, part_words}
use Rattle.psci_fw_state.specs.Saved.{row_words, saved}
use Rattle.psci_fw_state.specs.Seen.{StateValue}
use Rattle.psci_fw_state.specs.contracts.state.State.{the_view}
use Rattle.psci_fw_state.proofs.SavedParts.{parts_written, sum_written}
use Rattle.psci_fw_state.proofs.state.State.save.Goals.{After-domain_count}
use Rattle.psci_fw_state.proofs.state.State.save.Goals as goal

-- how many words there are
total : (c : After-domain_count)
    → length c.args.words.now ≡ 5 + part_count c.self.inside.board
total c =
    c.requires
    ∙ ap (λ (s : StateValue). length (saved s)) (sym c.self.view_is)
    ∙ c.law_saved_state.ensures.count (the_view c.self.inside) c.self.invariant

-- how many domains
domains : (c : After-domain_count)
    → c.domain_count.result ≡ domain_count c.self.inside.board.levels
domains c =
    c.domain_count.ensures.count
    ∙ ap (λ (t : TreeValue). domain_count t.levels) c.deref.ensures
    ∙ ap (λ (ls : List (List ℕ)). domain_count ls) c.self.invariant.levels

-- and how many cores
below : (c : After-domain_count)
    → size_below c.self.inside.tree.value.levels ≡ cores c.self.inside.board
below c = ap (λ (ls : List (List ℕ)). size_below ls) c.self.invariant.levels

pub write-requires : goal.write-requires
write-requires c = omega (arith, total (goal.at.write-requires c).After-domain_count)

pub save_cores-requires : goal.save_cores-requires
save_cores-requires c =
    let at = (goal.at.save_cores-requires c).After-domain_count in
    omega (
      arith,
      total at,
      below at,
      c.write.auto.words,
      ap (λ (t : TreeValue). size_below t.levels) c.deref-2.ensures,
    )

pub save_depths-requires : goal.save_depths-requires
save_depths-requires c =
    let at = (goal.at.save_depths-requires c).After-domain_count in
    omega (
      arith,
      total at,
      domains at,
      c.domain_count.ensures.count,
      ap (λ (t : TreeValue). domain_count t.levels) c.deref.ensures,
      c.cores-cores.ensures.cores,
      c.write.auto.words,
      c.save_cores.auto.words,
      ap (λ (t : TreeValue). domain_count t.levels) c.deref-3.ensures,
    )

pub save_rows-requires : goal.save_rows-requires
save_rows-requires c =
    let at = (goal.at.save_rows-requires c).After-domain_count in
    omega (
      arith,
      total at,
      domains at,
      c.cores-cores.ensures.cores,
      c.write.auto.words,
      c.save_cores.auto.words,
      c.save_depths.auto.words,
      ap (λ (rs : List CoreRow). length rs) c.deref-4.ensures.value,
      c.self.invariant.rows,
    )

pub save-requires : goal.save-requires
save-requires c =
    let at = (goal.at.save-requires c).After-domain_count in
    omega (
      arith,
      total at,
      domains at,
      c.cores-cores.ensures.cores,
      c.write.auto.words,
      c.save_cores.auto.words,
      c.save_depths.auto.words,
      c.save_rows.auto.words,
      c.law_slots_words.ensures.count c.self.inside.slots,
      c.self.invariant.slots,
    )

pub returns-clause-words : goal.returns-clause-words
returns-clause-words c =
    let at = (goal.at.returns-clause-words c).After-domain_count in
    let s : StateValue = the_view c.self.inside in
    let depths : ℕ = 5 + 2 * c.cores-cores.result in
    let rows : ℕ = depths + 2 * c.domain_count.result in
    let slots : ℕ = rows + 4 * c.cores-cores.result in
    let heads : take 5 c.write.new.words ≡ take 0 c.args.words.now
    ++ (FORMAT ∷ 0 ∷ s.life ∷ flag s.halting ∷ mode_number s.mode ∷ []) =
    rw (c.from.ensures, c.flag.ensures, c.mode_number.ensures) at c.write.ensures in
    let parts : c.save.new.words ≡ FORMAT ∷ 0 ∷ (life_words s ++ part_words s) =
    parts_written c.args.words.now c.write.new.words c.save_cores.new.words
    c.save_depths.new.words c.save_rows.new.words c.save.new.words 5 5
    (5 + 2 * size_below s.tree.levels) depths (depths + 2 * domain_count s.tree.levels) rows
    (rows + 4 * length s.rows) slots (slots + length (slots_words s.slots))
    (FORMAT ∷ 0 ∷ life_words s) (flat_map core_words s.tree.cores) (depth_words s.tree)
    (flat_map row_words s.rows) (slots_words s.slots) heads refl
    (rw c.deref-2.ensures at c.save_cores.ensures.words)
    (omega (arith, c.cores-cores.ensures.cores, below at))
    (rw c.deref-3.ensures at c.save_depths.ensures)
    (omega (
      arith,
      c.domain_count.ensures.count,
      ap (λ (t : TreeValue). domain_count t.levels) c.deref.ensures,
    ))
    (rw c.deref-4.ensures.value at c.save_rows.ensures)
    (omega (arith, c.cores-cores.ensures.cores, c.self.invariant.rows)) c.save.ensures.words
    (omega (
      arith,
      total at,
      domains at,
      c.cores-cores.ensures.cores,
      c.write.auto.words,
      c.save_cores.auto.words,
      c.save_depths.auto.words,
      c.save_rows.auto.words,
      c.save.auto.words,
      c.law_slots_words.ensures.count s.slots,
      c.self.invariant.slots,
    )) in
    sum_written s c.save.new.words c.sum_of.result parts c.sum_of.ensures
    ∙ ap saved c.self.view_is
