-- The answer stands in the room behind the number 0 and a space, before the line feed.
use Rattle.std.proofs.Common.{rules, sym}
use Rattle.psci_show.proofs.Answering.{between, within}
use Rattle.psci_show.proofs.answer.put_answer.Goals as goal

pub slice_bounds-extend_from_slice-count : goal.slice_bounds-extend_from_slice-count
slice_bounds-extend_from_slice-count c =
    within c.write_answer-start.new.room c.write_answer-start.result c.args.said.now
    c.write_answer-start.ensures.line c.write_answer-start.array_long

pub slice_bounds-extend_from_slice-start : goal.slice_bounds-extend_from_slice-start
slice_bounds-extend_from_slice-start c =
    search (
      rules,
      within c.write_answer-start.new.room c.write_answer-start.result
          c.args.said.now c.write_answer-start.ensures.line c.write_answer-start.array_long,
    )

pub returns : goal.returns
returns c =
    rw (sym (between c.write_answer-start.new.room c.write_answer-start.result c.args.said.now
    c.write_answer-start.ensures.line c.write_answer-start.array_long)) (search rules)
