-- A sound state in a life is that of a firmware.
use Rattle.std.proofs.Common.{◌∙◌, sym}
use Rattle.psci_fw.proofs.Opened.{has_life, is_firmware}
use Rattle.psci_fw.proofs.saving.is_firmware.Goals as goal

pub returns-then-life-ne0-clause-kept : goal.returns-then-life-ne0-clause-kept
returns-then-life-ne0-clause-kept c = λ on.
    let s = c.args.state.now in
    is_firmware s c.requires.state c.requires.life
    (c.law_sound.ensures.sound s c.requires.state (sym c.is_sound.ensures ∙ c.if-is_sound.true))
    (λ e. absurd (has_life c.life.result on (c.life.ensures ∙ e)))
