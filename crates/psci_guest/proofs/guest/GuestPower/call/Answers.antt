-- A core calls, and a core that this starts enters.
use Rattle.std.specs.Prelude.{◌≡◌, ◌<◌, Bool, false, option_map, true}
use Rattle.std.proofs.Common.{◌∙◌, ap, refl, subst, sym}
use Rattle.psci_board.specs.Board.{BoardValue, cores}
use Rattle.psci_board.specs.declared.draft.Core.{Core}
use Rattle.psci_fw_spec.specs.declared.reply.FwReply.TheVariants as replies
use Rattle.psci_ctl.specs.Seen.{ControllerValue, seen}
use Rattle.psci_fw.specs.Reactions.{seen as seen_firmware}
use Rattle.psci_fw_spec.specs.declared.call.FwCall.TheVariants as calls
use Rattle.psci_guest.specs.Pair.{board_of, message_of}
use Rattle.psci_guest.specs.Turns.{started_by}
use Rattle.psci_guest.proofs.Keeping.{board_comes, both_come, call_free, call_turn, comes_none}
use Rattle.psci_guest.proofs.Keeping.{comes_some, given, in_present, not_in_present, started_on}
use Rattle.psci_guest.proofs.guest.GuestPower.call.Goals.{in-None, in-Some}
use Rattle.psci_guest.proofs.guest.GuestPower.call.Goals as goal

-- what a test says
says : (r t u : Bool) → r ≡ t → r ≡ u → u ≡ t
says r t u e same = sym same ∙ e

pub returns-then-not-runs-clause-turned : goal.returns-then-not-runs-clause-turned
returns-then-not-runs-clause-turned c = λ b ts after runs.
    absurd (not_in_present b ts c.args.core c.self.inside.pair
    (given c.law_steps.ensures c.self.inside.pair c.args.self.now c.args.core.number
    c.self.view_is c.self.invariant c.requires b ts after)
    c.args.life (says c.runs.result false _ c.if-not-runs.true c.runs.ensures) runs)

-- The firmware refuses no call of a running core -------------------------------------------------

pub returns-in_default-clause-behind : goal.returns-in_default-clause-behind
returns-in_default-clause-behind c = λ b ts after not.
    absurd (call_free b ts c.args.core c.self.inside.pair
    (given c.law_steps.ensures c.self.inside.pair c.args.self.now c.args.core.number
    c.self.view_is c.self.invariant c.requires b ts after)
    c.args.life c.args.regs (says c.runs.result true _ c.if-not-runs.false c.runs.ensures)
    (replies.Fault c.in_default.field-0) c.call.new.self
    (record { said = c.in_default.ensures.answer; left = c.in_default.ensures.left })
    c.in_default.field-0 refl)

pub returns-in_default-clause-turned : goal.returns-in_default-clause-turned
returns-in_default-clause-turned c = λ b ts after runs.
    absurd (call_free b ts c.args.core c.self.inside.pair
    (given c.law_steps.ensures c.self.inside.pair c.args.self.now c.args.core.number
    c.self.view_is c.self.invariant c.requires b ts after)
    c.args.life c.args.regs (says c.runs.result true _ c.if-not-runs.false c.runs.ensures)
    (replies.Fault c.in_default.field-0) c.call.new.self
    (record { said = c.in_default.ensures.answer; left = c.in_default.ensures.left })
    c.in_default.field-0 refl)

pub returns-in_default-clause-board : goal.returns-in_default-clause-board
returns-in_default-clause-board c = c.in_default.ensures.left.board ∙ ap board_of c.self.view_is

-- The core that it may have started --------------------------------------------------------------

pub arrive-arrival-requires : goal.arrive-arrival-requires
arrive-arrival-requires c =
    let old = c.self.inside.pair in
    subst (λ (b : BoardValue). c.in-Some.core.number < cores b)
    (sym c.in-Ok.ensures.left.board)
    (started_on (board_of old) c.in-Ok.outcome.message c.in-Some.core.number
    (c.law_steps.ensures (board_of old) c.self.invariant.board).some
    (λ m e. c.law_sends.ensures (board_of old) c.self.invariant.board
    (seen_firmware old.firmware) c.args.core.number (calls.Smc c.args.regs) m
    (ap message_of (sym c.in-Ok.ensures.answer) ∙ e))
    (ap (option_map (λ (x : Core). x.number)) (sym c.in-Some.is) ∙ c.started_by.ensures
    ∙ ap started_by c.as_ref.ensures.value))

-- The whole turn ---------------------------------------------------------------------------------

pub returns-clause-behind : goal.returns-clause-behind
returns-clause-behind c = λ b ts after not.
    absurd (not (in_present b ts c.args.core c.self.inside.pair
    (given c.law_steps.ensures c.self.inside.pair c.args.self.now c.args.core.number
    c.self.view_is c.self.invariant c.requires b ts after)
    c.args.life (says c.runs.result true _ c.if-not-runs.false c.runs.ensures)))

pub returns-clause-turned : goal.returns-clause-turned
returns-clause-turned c = λ b ts after runs.
    call_turn b ts c.args.core c.self.inside.pair
    (given c.law_steps.ensures c.self.inside.pair c.args.self.now c.args.core.number
    c.self.view_is c.self.invariant c.requires b ts after)
    c.args.life c.args.regs
    (says c.runs.result true _ c.if-not-runs.false c.runs.ensures)
    (replies.Out c.in-Ok.outcome) c.call.new.self
    (record { said = c.in-Ok.ensures.answer; left = c.in-Ok.ensures.left })
    c.in-Ok.outcome c.started_by.result refl
    (c.started_by.ensures ∙ ap started_by c.as_ref.ensures.value)
    c.match-started_by.self-inside.pair c.match-started_by.arrival c.life.result
    (elim c.match-started_by.branch [
      | in-Some w ↦ comes_some c.call.new.self c.match-started_by.self-inside.pair
          w.arrive-arrival.new.self c.started_by.result w.in-Some.core c.match-started_by.arrival
          w.arrive-arrival.result w.in-Some.is (ap (λ g. g.pair) w.self-inside-is) w.arrival-is
          (record {
            none = w.arrive-arrival.ensures.none;
            told = w.arrive-arrival.ensures.told;
            left = w.arrive-arrival.ensures.left;
          })
      | in-None w ↦ comes_none c.call.new.self c.match-started_by.self-inside.pair
          c.started_by.result c.match-started_by.arrival w.in-None.is
          (ap (λ g. g.pair) w.self-inside-is) w.arrival-is
    ])
    (c.life.ensures ∙ ap (λ (w : ControllerValue). (seen w).life) c.controller.ensures)

pub returns-clause-board : goal.returns-clause-board
returns-clause-board c =
    board_comes c.call.new.self c.match-started_by.self-inside.pair c.started_by.result
    c.match-started_by.arrival
    (elim c.match-started_by.branch [
      | in-Some w ↦ comes_some c.call.new.self c.match-started_by.self-inside.pair
          w.arrive-arrival.new.self c.started_by.result w.in-Some.core c.match-started_by.arrival
          w.arrive-arrival.result w.in-Some.is (ap (λ g. g.pair) w.self-inside-is) w.arrival-is
          (record {
            none = w.arrive-arrival.ensures.none;
            told = w.arrive-arrival.ensures.told;
            left = w.arrive-arrival.ensures.left;
          })
      | in-None w ↦ comes_none c.call.new.self c.match-started_by.self-inside.pair
          c.started_by.result c.match-started_by.arrival w.in-None.is
          (ap (λ g. g.pair) w.self-inside-is) w.arrival-is
    ])
    ∙ c.in-Ok.ensures.left.board ∙ ap board_of c.self.view_is

pub invariant_of-self : goal.invariant_of-self
invariant_of-self c = c.in_default.ensures.left.both

pub invariant_of-self-2 : goal.invariant_of-self-2
invariant_of-self-2 c =
    both_come c.call.new.self c.match-started_by.self-inside.pair c.started_by.result
    c.match-started_by.arrival c.in-Ok.ensures.left.both
    (elim c.match-started_by.branch [
      | in-Some w ↦ comes_some c.call.new.self c.match-started_by.self-inside.pair
          w.arrive-arrival.new.self c.started_by.result w.in-Some.core c.match-started_by.arrival
          w.arrive-arrival.result w.in-Some.is (ap (λ g. g.pair) w.self-inside-is) w.arrival-is
          (record {
            none = w.arrive-arrival.ensures.none;
            told = w.arrive-arrival.ensures.told;
            left = w.arrive-arrival.ensures.left;
          })
      | in-None w ↦ comes_none c.call.new.self c.match-started_by.self-inside.pair
          c.started_by.result c.match-started_by.arrival w.in-None.is
          (ap (λ g. g.pair) w.self-inside-is) w.arrival-is
    ])
