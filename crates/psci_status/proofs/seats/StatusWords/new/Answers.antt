-- Each word of a new table says OFF, as its rule wants it.
use Rattle.std.proofs.Common.{rules}
use Rattle.psci_status.proofs.Steps.{opens}
use Rattle.psci_status.proofs.seats.StatusWords.new.Goals as goal

pub of_words-requires : goal.of_words-requires
of_words-requires c = opens c.from.result c.as_slice.result.now (search rules)
