-- What others do leaves a core's side, and the firmware; and in a new life both are new.
use Rattle.std.proofs.Common.{◌∙◌, ap, refl}
use Rattle.psci_ctl_spec.specs.declared.call.CtlCall.TheVariants as asked
use Rattle.psci_ctl_spec.specs.Replies.{effect_of, reply}
use Rattle.psci_ctl_spec.specs.Values.{Values as Controlled}
use Rattle.psci_fw_spec.specs.Values.{Values}
use Rattle.psci_world_spec.specs.Legal.{firmware_history}
use Rattle.psci_port.specs.Port.{Delivers, state, step}
use Rattle.psci_port.proofs.Truth.{IsMirror, run_world}
use Rattle.psci_port.proofs.Running.{run_kept}
use Rattle.psci_enter.proofs.Keeping.{anew_cold, anew_end, anew_reboot, delivers_firmware}
use Rattle.psci_enter.proofs.Keeping.{firmware_after, quiet_firmware, side_after}
use Rattle.psci_enter.proofs.Others.{apart_side, delivers_side, ended_side, first_side, resets_own}
use Rattle.psci_enter.proofs.laws.law_others.Goals as goal

pub returns-clause-begins : goal.returns-clause-begins
returns-clause-begins c = λ b before core has. first_side b core _ has refl

pub returns-clause-opens : goal.returns-clause-opens
unfolding firmware_history
returns-clause-opens c = λ b before f board new.
    anew_cold b f board new before (ap (λ (v : Values). v.life) (c.law_values-2.ensures.first b))

pub returns-clause-apart : goal.returns-clause-apart
returns-clause-apart c = λ b acts s act run is may so.
    side_after b acts s act (apart_side b (state b acts) s is (run_kept b acts run) act may so)

pub returns-clause-quiet : goal.returns-clause-quiet
returns-clause-quiet c = λ b acts f act run of may so.
    firmware_after b acts f act (quiet_firmware b (state b acts) f of act so)

pub returns-clause-resets : goal.returns-clause-resets
unfolding state
returns-clause-resets c = λ b acts s run is may. resets_own b (state b acts) s is

pub returns-clause-delivers : goal.returns-clause-delivers
returns-clause-delivers c = λ b acts s f k m run may goes. (
  λ is. side_after b acts s (Delivers k m)
      (delivers_side b (state b acts) s is (run_kept b acts run) k m may goes),
  λ of. firmware_after b acts f (Delivers k m)
      (delivers_firmware b (state b acts) f of k m goes),
)

pub returns-clause-ends : goal.returns-clause-ends
unfolding state step
returns-clause-ends c = λ b acts core k m has ends.
    ended_side b core (state b acts) _
    (effect_of b (asked.Deliver m) (reply b (state b acts).values (asked.Deliver m))) has ends refl

pub returns-clause-restarts : goal.returns-clause-restarts
unfolding state step
returns-clause-restarts c = λ b acts core has.
    (first_side b core _ has refl, first_side b core _ has refl)

pub returns-clause-anew : goal.returns-clause-anew
unfolding firmware_history state step
returns-clause-anew c = λ b acts f board run so same new.
    let mirror : IsMirror b (state b acts) =
    run_world b (c.law_values.ensures.first b) (c.law_values.ensures.more b)
    (c.law_values-2.ensures.more b) (λ has. (c.law_sizes.ensures b has).some 0) acts run so in (
      λ k m may at ends. anew_end b f same new (state b acts) k m ends
          (λ l e. (c.law_agreement.ensures b (state b acts).past board mirror.legal.0).begun l
          (ap (λ (v : Controlled). v.life) mirror.values ∙ e)),
      anew_cold b f same new _
          (ap (λ (v : Values). v.life) (c.law_values-2.ensures.first b)),
      λ may. anew_reboot b f same new (state b acts) may.1.0 may.1.1.0
          (c.law_port.ensures.anew b may.1.0 board may.1.1.1),
    )
