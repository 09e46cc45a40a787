-- The line feed is the last byte.
use Rattle.psci_record.proofs.RadixDigits.{line_feed_last}
use Rattle.psci_record.proofs.room.write_line_feed.Goals as goal

pub returns-clause-written : goal.returns-clause-written
returns-clause-written c = line_feed_last c.args.room.now c.told-room
