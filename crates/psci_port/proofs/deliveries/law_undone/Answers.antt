-- What a delivery leaves to be done.
use Rattle.psci_ctl_spec.specs.Values as controlled
use Rattle.psci_ctl_spec.specs.declared.call.CtlCall.TheVariants as asked
use Rattle.psci_world_spec.specs.Legal.{place, sent}
use Rattle.psci_headline.proofs.Carried.{Given, is_given, present_known}
use Rattle.psci_port.specs.Port.{state}
use Rattle.psci_port.proofs.Words.{◌∙◌, ◌≡◌, Act, ap, AreTrue, at_number, BoardValue}
use Rattle.psci_port.proofs.Words.{controller_values, firmware_values, in_life, IsBoard, IsKnown}
use Rattle.psci_port.proofs.Words.{IsPortRun, IsSendable, IsSound, List, MessageValue, Port}
use Rattle.psci_port.proofs.Words.{sendable, size_laws, Some, subst, values_more, ℕ}
use Rattle.psci_port.proofs.Truth.{IsMirror, run_world}
use Rattle.psci_port.proofs.Undone.{leaves, listed}
use Rattle.psci_ctl_spec.proofs.Depths.{follows}
use Rattle.psci_ctl_spec.proofs.Steps as controls
use Rattle.psci_port.proofs.deliveries.law_undone.Goals as goal

module _ (b : BoardValue) (acts : List Act) (board : IsBoard b)
    (run : IsPortRun b acts) (so : AreTrue b acts) where
  abbrev p : Port
  p = state b acts

  mirror : IsMirror b p
  mirror = run_world b (controls.first_values b) (controls.values_more b) (values_more b)
      (λ has. (size_laws b has).some 0) acts run so

  given : Given b p.past
  given = is_given b p.past board mirror.legal.0

  can : (m : MessageValue) → IsSound b m → IsSendable b m
  can m sound = sendable b m ((size_laws b board).most 0) sound

  known : (life : ℕ) → p.values.life ≡ Some life
      → IsKnown b life p.values.starts (in_life b life (firmware_values b p.past)) (sent p.past)
  known life is = subst (λ (w : controlled.Values). IsKnown b life w.starts
      (in_life b life (firmware_values b p.past)) (sent p.past)) mirror.values
      (present_known b (controller_values b p.past) (place b p.past) (firmware_values b p.past)
      (sent p.past) life given
      (ap (λ (w : controlled.Values). w.life) mirror.values ∙ is))

pub returns-clause-leaves : goal.returns-clause-leaves
returns-clause-leaves c = λ b acts k m board run so at.
    let place = at_number (sent (state b acts).past) k m at in
    let sound = ((given b acts board run so).holds.messages place.index m place.at).sound in
    leaves b (state b acts).values
    (λ life. in_life b life (firmware_values b (state b acts).past)) (sent (state b acts).past) k m
    (known b acts board run so) at
    (follows b (state b acts).values (asked.Deliver m) board
    (can b acts board run so m sound))

pub returns-clause-listed : goal.returns-clause-listed
returns-clause-listed c = λ b acts slot m board run so out.
    listed b (firmware_values b (state b acts).past).life
    (firmware_values b (state b acts).past).known (firmware_values b (state b acts).past).phase
    (sent (state b acts).past) (firmware_values b (state b acts).past).outstanding
    (given b acts board run so).holds.slots
    (λ j x here. can b acts board run so x
    ((given b acts board run so).holds.messages j x here).sound) slot m out
