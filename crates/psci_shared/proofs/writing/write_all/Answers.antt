-- After a call the words of all cores have what the book says.
use Rattle.std.proofs.Common.{ℕ, ◌∙◌, sym, subst, rules}
use Rattle.std.specs.Prelude.{◌<◌}
use Rattle.psci_fw.specs.Reactions.{seen}
use Rattle.psci_status.specs.Seats.{written}
use Rattle.psci_shared.proofs.Unnamed.{nothing_to_write, others_stay, written_by_values}
use Rattle.psci_shared.proofs.writing.write_all.Goals as goal

pub write_changed-requires-clause-others : goal.write_changed-requires-clause-others
write_changed-requires-clause-others g c = λ core small named same some.
    others_stay g.N.Named.board (written c.args.writer.now) c.args.book.now.entries c.args.before
    c.args.named (seen c.firmware.result.now) c.requires.behind c.firmware.ensures.values core
    (subst (λ (n : ℕ). core < n) c.requires.cores.0 small) named same some

pub returns-clause-log : goal.returns-clause-log
returns-clause-log g c = λ core small.
    c.write_changed.ensures.log core
    (subst (λ (n : ℕ). core < n) (sym c.requires.cores.0) small)
    ∙ written_by_values g.N.Named.board c.args.book.now.entries c.args.before
    (seen c.firmware.result.now) core _ c.firmware.ensures.values

pub returns-then-is_none-clause-log : goal.returns-then-is_none-clause-log
returns-then-is_none-clause-log g c = λ core small.
    nothing_to_write g.N.Named.board (written c.args.writer.now) c.args.book.now.entries
    c.args.before c.args.named c.requires.behind (search rules) core small
