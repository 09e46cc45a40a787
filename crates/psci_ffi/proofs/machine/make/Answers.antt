-- A description makes a machine, or has the fault that is answered.
use Rattle.std.proofs.Common.{◌≡◌, true}
use Rattle.psci_ffi.specs.Given.{board_of_given}
use Rattle.psci_ffi.specs.Machines.{has_room}
use Rattle.psci_ffi.proofs.Making.{bad_description, made}
use Rattle.psci_ffi.proofs.machine.make.Goals as goal

pub returns-in-Ok-new : goal.returns-in-Ok-new
returns-in-Ok-new c =
    let test = c.if-not-has_room.false in
    let tested = c.if-not-has_room.ensures in
    let named = c.has_room.ensures in
    let room : has_room c.args.given.now ≡ true = cc in
    made (board_of_given c.args.board.now) c.in-Ok.board c.args.given.now
    c.in-Ok-describe.description c.args.boot c.in-Ok-new.machine c.in-Ok.ensures room
    c.in-Ok-describe.ensures c.in-Ok-new.ensures.fault c.in-Ok-new.ensures.platform

pub returns-in-Err-new : goal.returns-in-Err-new
returns-in-Err-new c =
    let test = c.if-not-has_room.false in
    let tested = c.if-not-has_room.ensures in
    let named = c.has_room.ensures in
    let room : has_room c.args.given.now ≡ true = cc in
    bad_description (board_of_given c.args.board.now) c.in-Ok.board c.args.given.now
    c.in-Ok-describe.description c.args.boot c.in-Err-new.fault c.in-Ok.ensures room
    c.in-Ok-describe.ensures c.in-Err-new.ensures.fault
