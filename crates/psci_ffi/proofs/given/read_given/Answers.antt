-- What is given without a fault is a board, and a fault is answered.
use Rattle.std.proofs.Common.{◌≡◌, None, Some, true}
use Rattle.psci_board.specs.Draft.{first_fault}
use Rattle.psci_ffi.specs.Given.{draft_given, format_given, has_levels}
use Rattle.psci_ffi.proofs.GivenBoards.{bad_answer, is_board}
use Rattle.psci_ffi.proofs.given.read_given.Goals as goal

pub build-requires : goal.build-requires
build-requires c =
    let test = c.if-not-has_levels.false in
    let tested = c.if-not-has_levels.ensures in
    let named = c.has_levels.ensures in
    let chosen = c.in-None.is in
    let sound = c.in-None.ensures in
    let drawn = c.draft.ensures in
    let levels : has_levels c.args.given.now ≡ true = cc in
    let good : first_fault (draft_given c.args.given.now) ≡ None = cc in
    is_board c.args.given.now c.in-Some.format levels good

pub returns-in-Some-first_fault : goal.returns-in-Some-first_fault
returns-in-Some-first_fault c =
    let test = c.if-not-has_levels.false in
    let tested = c.if-not-has_levels.ensures in
    let named = c.has_levels.ensures in
    let chosen = c.in-Some-first_fault.is in
    let faulty = c.in-Some-first_fault.ensures in
    let drawn = c.draft.ensures in
    let read = c.in-Some.is in
    let known = c.in-Some.ensures in
    let spelled = c.format.ensures in
    let given = c.args.given.now in
    let levels : has_levels given ≡ true = cc in
    let format : format_given given.format ≡ Some c.in-Some.format = cc in
    let bad : first_fault (draft_given given) ≡ Some c.in-Some-first_fault.fault = cc in
    bad_answer given c.in-Some.format c.in-Some-first_fault.fault levels format bad
