-- In JSON the pieces stand one after the other.
use Rattle.std.proofs.Common.{◌++◌, codes, length}
use Rattle.psci_script.specs.Text.{said_text}
use Rattle.psci_show.specs.Shown.{event_object, object_start}
use Rattle.psci_show.proofs.Answering.{joined, on_ok}
use Rattle.psci_show.proofs.front.write_front.Goals as goal

pub returns-in_ok-put_answer-in-Json-clause-out : goal.returns-in_ok-put_answer-in-Json-clause-out
returns-in_ok-put_answer-in-Json-clause-out c =
    let out = c.put_answer.new.out.items in
    rw c.in-Json.is
    (on_ok c.extend_from_slice-in-Json.result c.extend_from_slice-in-Json.new.self.items
    (out ++ codes "\"") out _ c.extend_from_slice-in-Json.ensures.items
    (joined c.args.out.now.items (object_start (length c.args.run.now.past)) c.args.line.now
    (codes "\", \"event\": ") (event_object c.args.item.now.event) (codes ", \"answer\": \"")
    (said_text c.args.item.now.said) (codes "\"") c.write_start.new.out.items
    c.extend_from_slice.new.self.items c.write_answered.new.out.items out
    c.in_ok-write_start-in-Json.ensures.out c.in_ok-extend_from_slice-in-Json.ensures.items
    c.in_ok-write_answered-in-Json.ensures.out c.in_ok-put_answer-in-Json.ensures))
