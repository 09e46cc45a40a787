-- The words of a new firmware have the first statuses.
use Rattle.std.proofs.Common.{ap, ◌∙◌}
use Rattle.atomic_table.specs.Seated.{TableId}
use Rattle.psci_status.proofs.CallSteps.{polled_first}
use Rattle.psci_status.proofs.polled.PolledFirmware.new.Goals as goal

pub invariant_of-polled : goal.invariant_of-polled
invariant_of-polled c =
    polled_first c.args.board.now c.in_ok-firmware.firmware _ _ c.cores.result
    (c.law_values.ensures.first c.args.board.now) c.cores.ensures.board
    c.in_ok-firmware.ensures.board c.in_ok-firmware.ensures.values c.in_ok-words.ensures.log
    (ap (λ (t : TableId). t.words) c.in_ok-words.ensures.writer ∙ c.in_ok-words.ensures.words)
    c.cores.ensures.cores
