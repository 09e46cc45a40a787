-- Each run of turns is settled.
use Rattle.psci_guest.proofs.laws.law_turns.Goals as goal

pub returns : goal.returns
returns c = λ b ts board. (c.law_steps.ensures b board).settled ts
