-- What a reader saw of each word was written, and the last of it is known.
use Rattle.std.proofs.Common.{ℕ, ◌<◌, List, sym, ap, ◌∙◌, subst}
use Rattle.atomic_table.specs.Seated.{TableId}
use Rattle.psci_status.specs.Lists.{Item, row, Within, IsLast}
use Rattle.psci_status.proofs.Steps.{met_within, met_last}
use Rattle.psci_status.proofs.seats.StatusWords.meet.Goals as goal

pub returns-clause-stand : goal.returns-clause-stand
returns-clause-stand c core =
    let t = c.trade.ensures in
    let log = c.args.writer.now.seat.me.0.log in
    subst (λ (l : List (List Item)). Within (row log core) (row l core)) (sym t.seen)
    (met_within log _ t.stands core)

pub returns-clause-last : goal.returns-clause-last
returns-clause-last c core small =
    let t = c.trade.ensures in
    let log = c.args.writer.now.seat.me.0.log in
    let long = c.args.reader.now.long ∙ ap (λ (t : TableId). t.words) c.requires.reader in
    subst (λ (l : List (List Item)). IsLast (row log core) (row l core)) (sym t.seen)
    (met_last log _ t.stands core (subst (λ (n : ℕ). core < n) (sym long) small))
