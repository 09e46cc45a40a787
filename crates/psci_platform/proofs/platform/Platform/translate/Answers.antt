-- A call is what its function word and its arguments say.
use Rattle.psci_platform.specs.Platforms.{PlatformValue}
use Rattle.psci_platform.specs.declared.platform.Platform.TheInside.{Inside}
use Rattle.psci_platform.proofs.Words.{◌∙◌, ap, argument_by, Functions, regs_by}
use Rattle.psci_platform.proofs.Words.{told_by, ℕ}
use Rattle.psci_platform.proofs.ByWord.{asked_same, regs_same}
use Rattle.psci_platform.proofs.platform.Platform.translate.Goals as goal

pub returns-clause-regs : goal.returns-clause-regs
returns-clause-regs c =
    let s = c.args.self.now in
    let regs = regs_by s.description s.board s.place c.args.mode c.args.regs in
    c.call_by.ensures.regs ∙ ap regs c.first_argument-argument.ensures
    ∙ ap (λ (f : Functions). regs (argument_by f c.low.result))
    (ap (λ (p : Inside). p.description.functions) c.self-inside.view_is
    ∙ ap (λ (p : PlatformValue). p.description.functions) c.self.view_is)
    ∙ ap (λ (w : ℕ). regs (argument_by s.description.functions w)) c.low.ensures
    ∙ regs_same s.description s.board s.place c.args.mode c.args.regs

pub returns-clause-asked : goal.returns-clause-asked
returns-clause-asked c =
    let s = c.args.self.now in
    let told = told_by s.description c.args.mode c.args.regs in
    c.call_by.ensures.asked ∙ ap told c.first_argument-argument.ensures
    ∙ ap (λ (f : Functions). told (argument_by f c.low.result))
    (ap (λ (p : Inside). p.description.functions) c.self-inside.view_is
    ∙ ap (λ (p : PlatformValue). p.description.functions) c.self.view_is)
    ∙ ap (λ (w : ℕ). told (argument_by s.description.functions w)) c.low.ensures
    ∙ asked_same s.description s.board c.args.mode c.args.regs
