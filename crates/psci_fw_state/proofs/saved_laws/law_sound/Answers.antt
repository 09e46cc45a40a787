-- Each core's tests tell what is kept, and what is kept passes them.
use Rattle.psci_fw_state.proofs.Sound.{sound, sound_of}
use Rattle.psci_fw_state.proofs.saved_laws.law_sound.Goals as goal

pub returns-clause-sound : goal.returns-clause-sound
returns-clause-sound c = sound

pub returns-clause-only : goal.returns-clause-only
returns-clause-only c = sound_of
