-- One status more is written, with the next number.
use Rattle.std.proofs.Common.{◌<◌, refl, arith}
use Rattle.psci_status.specs.Lists.{row}
use Rattle.psci_status.proofs.Steps.{next_word, stores, word_length}
use Rattle.psci_status.proofs.seats.StatusWords.write.Goals as goal

pub store-requires : goal.store-requires
store-requires c =
    let w = c.args.writer.now in
    let log = row w.seat.me.0.log c.args.core.number in
    let next = next_word log c.args.found c.number_of.result c.args.status _
    (word_length _ _ c.requires.word) c.number_of.ensures.number refl in
    let core : c.args.core.number < c.args.self.now.table.shared.key = omega
    (arith, c.args.self.now.cores, c.requires.here.core) in
    let here = c.requires.here in
    (here.table, here.core, stores _ _ _ _ _ _ w.writes core next.0)
