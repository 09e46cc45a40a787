-- A seat for a reader is split off the writer's.
use Rattle.psci_status.proofs.Steps.{notes}
use Rattle.psci_status.proofs.seats.StatusWords.reader.Goals as goal

pub split_seat-seat-requires : goal.split_seat-seat-requires
split_seat-seat-requires c = (c.requires, c.args.self.now.some, notes _ _ _)
