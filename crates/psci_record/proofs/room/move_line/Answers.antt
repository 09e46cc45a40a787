-- The line is moved to where the room begins.
use Rattle.std.proofs.Common.{◌-◌, ap, take, ◌∙◌}
use Rattle.psci_record.proofs.RadixDigits.{moved}
use Rattle.psci_record.proofs.room.move_line.Goals as goal

pub returns-clause-moved : goal.returns-clause-moved
returns-clause-moved c =
    ap (λ room. take (256 - c.args.start) room) c.copy_within.ensures.after
    ∙ moved c.args.room.now c.args.start c.told-room c.requires
