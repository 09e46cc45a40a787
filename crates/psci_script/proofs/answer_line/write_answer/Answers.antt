-- The line feed ends the answer's line.
use Rattle.std.proofs.Common.{rules}
use Rattle.psci_script.proofs.KeptLines.{line_feed_last}
use Rattle.psci_script.proofs.answer_line.write_answer.Goals as goal

pub returns-clause-line : goal.returns-clause-line
returns-clause-line c = search (rules, line_feed_last c.args.room.now c.told-room)
