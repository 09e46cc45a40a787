-- A suspend with a sound entry point, below the start limit, is carried out.
use Rattle.std.proofs.Common.{◌≡◌, sym, ◌∙◌, Ok, rules}
use Rattle.psci_fw_spec.specs.PowerCalls.{ask_named}
use Rattle.psci_fw_state.specs.Seen.{values_in}
use Rattle.psci_fw.specs.Reactions.{outcome_in}
use Rattle.psci_fw.proofs.Answered.{suspended_answered}
use Rattle.psci_fw.proofs.suspend.cpu_suspend.Goals as goal

pub sleep-requires-clause-may : goal.sleep-requires-clause-may
sleep-requires-clause-may g c =
    let b = c.args.state.now.board in
    let named : ask_named b c.args.word ≡ Ok c.in-Ok.ask = search rules in
    let enters = rw c.board-board.ensures.same at c.has_invalid_entry.ensures in
    let limit = rw c.board-board.ensures.same at c.start_limit.ensures in
    record {
      shape = search rules;
      may = c.law_may_claim.ensures.suspended b _ c.args.caller.number c.args.word
          c.args.opening.address c.args.opening.context c.in-Ok.ask c.requires.board
          c.requires.inside c.requires.values c.requires.running c.requires.awake named
          (sym enters ∙ c.if-has_invalid_entry.false)
          (λ e. c.if-known_inside-start_limit.false (c.known_inside.ensures ∙ e ∙ sym limit));
    }

pub returns-clause-answer : goal.returns-clause-answer
returns-clause-answer g c =
    let b = c.args.state.now.board in
    let named : ask_named b c.args.word ≡ Ok c.in-Ok.ask = search rules in
    let enters = rw c.board-board.ensures.same at c.has_invalid_entry.ensures in
    let limit = rw c.board-board.ensures.same at c.start_limit.ensures in
    suspended_answered b _ c.args.caller.number c.args.word c.args.opening c.in-Ok.ask
    c.requires.running named
    (outcome_in c.sleep.new.state.board (values_in c.sleep.new.state) c.sleep.result) _
    (sym enters ∙ c.if-has_invalid_entry.false)
    (λ e. c.if-known_inside-start_limit.false (c.known_inside.ensures ∙ e ∙ sym limit))
    c.sleep.ensures.answer c.sleep.ensures.after
