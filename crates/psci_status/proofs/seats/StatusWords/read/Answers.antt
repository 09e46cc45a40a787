-- What is read of a word was written, and not before what was read of it.
use Rattle.std.proofs.Common.{ℕ, ◌/◌, ◌<◌, List, [], sym, ap, ◌∙◌, subst, arith}
use Rattle.std.specs.Prelude.{slice_set}
use Rattle.std.proofs.lemmas.List.{get_or-set_same}
use Rattle.atomic_table.specs.Seated.{TableId}
use Rattle.atomic_table.specs.Table.{Me}
use Rattle.psci_fw_spec.specs.declared.status.Status.{Status}
use Rattle.psci_status.specs.declared.rule.View.{View}
use Rattle.psci_status.specs.Lists.{Item, row, gain, Begins, item_of}
use Rattle.psci_status.proofs.Steps.{loads}
use Rattle.psci_status.proofs.seats.StatusWords.read.Goals as goal

pub load-found-requires : goal.load-found-requires
load-found-requires c =
    let here = c.requires.here in
    let core : c.args.core.number < c.args.self.now.table.shared.key = omega
    (arith, c.args.self.now.cores, here.core) in
    (here.table, here.core, loads _ _ _ _ _ c.args.reader.now.reads core)

pub returns-clause-seen : goal.returns-clause-seen
returns-clause-seen c =
    let core = c.args.core.number in
    let old = c.args.reader.now.seat.me.0.seen in
    ap (λ (m : Me (Unit {0}) View). m.0.seen) c.load-found.ensures.2.0
    ∙ ap (λ (s : Status). slice_set old core (gain (c.load-found.result / 4, s) (row old core)))
    (sym c.status_of.ensures)

pub returns-clause-last : goal.returns-clause-last
returns-clause-last c =
    let loaded = c.load-found.ensures.2 in
    let serial = c.load-found.result / 4 in
    let core = c.args.core.number in
    let old = c.args.reader.now.seat.me.0.seen in
    let long = c.args.reader.now.long ∙ ap (λ (t : TableId). t.words) c.requires.here.table in
    let small = subst (λ (n : ℕ). core < n) (sym long) c.requires.here.core in
    let here = ap (λ (m : Me (Unit {0}) View). row m.0.seen core) loaded.0
    ∙ get_or-set_same old core (gain (item_of c.load-found.result) (row old core)) [] small in
    subst (λ (l : List Item). Begins (serial, c.status_of.result) l) (sym here)
    (subst (λ (s : Status). Begins (serial, s) (gain (item_of c.load-found.result) (row old core)))
    (sym c.status_of.ensures) loaded.1)
