-- As many came as were made: they have all parts of the ledger, and so all that is counted in it.
use Rattle.std.proofs.Common.{rules, arith, length, subst, ◌≡◌, ◌+◌, ◌*◌, ◌^◌, ◌<◌, ◌≤◌}
use Rattle.psci_shared.specs.Places.{Agree, told_of}
use Rattle.psci_shared.specs.Passes.{items_of}
use Rattle.psci_shared.proofs.Placed.{all_placed}
use Rattle.psci_shared.proofs.Written.{as_many}
use Rattle.psci_shared.proofs.tally.Tally.cause.Given as given
use Rattle.psci_shared.proofs.tally.Tally.cause.Goals as goal

same : (g : given.Over) (c : goal.Else-len-from g)
    → length c.args.book.now.entries ≡ items_of c.args.passes.now.items
same g c =
    let counted = c.count_all.ensures in
    let passes = c.as_mut_slice.result.now in
    let came : c.made.inside.rest.parts + length passes ≡ g.N.Ledger.parts =
    omega (
      arith,
      counted.few,
      c.as_mut_slice.ensures.len,
      c.made.invariant,
      c.if-len-from.false,
      c.len.ensures,
      c.from.ensures,
      c.count.ensures,
    ) in
    let few : length passes ≤ 1001 = omega (arith, counted.few, c.made.invariant) in
    let low : length c.args.book.now.entries < 2 ^ 32 =
    c.len-len.ensures.small in
    let all : items_of passes + 2 ^ 48 * told_of passes ≡ c.args.self.now =
    omega (arith, counted.all came, c.made.invariant, c.self.view_is) in
    subst (λ ps. length c.args.book.now.entries ≡ items_of ps)
    c.as_mut_slice.ensures.value
    (as_many _ _ _ (items_of passes) (told_of passes) (length passes) c.requires low counted.small
    few all)

agrees : (g : given.Over) (c : goal.Else-len-from g)
    → Agree c.args.book.now c.args.passes.now.items
agrees g c =
    subst (λ ps. Agree c.args.book.now ps) c.deref.ensures.value
    (c.agree-all_agree.ensures.0 (search rules))

pub returns-clause-agree : goal.returns-clause-agree
returns-clause-agree g c = (agrees g c, same g c)

pub returns-clause-placed : goal.returns-clause-placed
returns-clause-placed g c = all_placed c.args.book.now c.args.passes.now.items
    (agrees g c) (same g c)
