-- What a core asks of the firmware keeps the rules of the port, and is true.
use Rattle.psci_headline.specs.Laws.{NoneRefused}
use Rattle.psci_port.specs.Port.{Finishes, state}
use Rattle.psci_port.proofs.Truth.{IsMirror, run_world}
use Rattle.psci_port.proofs.Running.{run_kept}
use Rattle.psci_enter.specs.SideOf.{core_of}
use Rattle.psci_enter.proofs.Ending.{call_passes, called_done, calls_so, entered_done, enters_so}
use Rattle.psci_enter.proofs.Ending.{entry_passes, lost_ack, taken_done, takes_so}
use Rattle.psci_enter.proofs.Others.{sends_again}
use Rattle.psci_world_spec.proofs.Answered.{firmware_legal}
use Rattle.psci_world_spec.specs.Legal.{firmware_history}
use Rattle.psci_fw_spec.specs.Effects.{sent_messages}
use Rattle.psci_enter.proofs.Keeping.{firmware_after, rightly}
use Rattle.psci_fw_laws.proofs.Histories.{legal_holds}
use Rattle.psci_enter.proofs.laws.law_firmware.Goals as goal

pub returns-clause-calls : goal.returns-clause-calls
returns-clause-calls c = λ b acts f s regs run of is post has.
    let so = calls_so b (state b acts) f s of is has regs post in
    rightly b acts _ _ so.0.0 so.0.1 so.1

pub returns-clause-enters : goal.returns-clause-enters
returns-clause-enters c = λ b acts f s start run of is post has.
    let so = enters_so b (state b acts) f s of is has (c.law_new_life.ensures.answer b)
    (run_kept b acts run) start post in
    rightly b acts _ _ so.0.0 so.0.1 so.1

pub returns-clause-takes : goal.returns-clause-takes
returns-clause-takes c = λ b acts f s k a of not is has at.
    let so = takes_so b (state b acts) f s of is has k a not at in
    rightly b acts _ _ so.0.0 so.0.1 so.1

pub returns-clause-called : goal.returns-clause-called
returns-clause-called c = λ b acts f g s regs r board run so of is begun at asked.
    let mirror : IsMirror b (state b acts) =
    run_world b (c.law_values.ensures.first b) (c.law_values.ensures.more b)
    (c.law_values-2.ensures.more b) (λ has. (c.law_sizes.ensures b has).some 0) acts run so in
    let done = called_done b (state b acts) (run_kept b acts run) mirror
    (c.law_values-2.ensures.more b) f g s of is r begun _ regs at asked in (
      firmware_after b acts g (Finishes (core_of s)) done.0,
      rightly b acts _ (Finishes (core_of s)) (r, begun) tt done.1,
    )

pub returns-clause-entered : goal.returns-clause-entered
returns-clause-entered c = λ b acts f g s start r board run so of is post begun at asked.
    let mirror : IsMirror b (state b acts) =
    run_world b (c.law_values.ensures.first b) (c.law_values.ensures.more b)
    (c.law_values-2.ensures.more b) (λ has. (c.law_sizes.ensures b has).some 0) acts run so in
    let done = entered_done b (state b acts) (run_kept b acts run) mirror
    (c.law_values-2.ensures.more b) f g s of is r begun
    (c.law_new_life.ensures.answer b) (c.law_new_life.ensures.after b)
    (entry_passes b (state b acts) (run_kept b acts run) mirror
    (c.law_never_refused.ensures b (state b acts).past board mirror.legal.0) f s of is
    (c.law_new_life.ensures.answer b)) start post at asked in (
      firmware_after b acts g (Finishes (core_of s)) done.0,
      rightly b acts _ (Finishes (core_of s)) (r, begun) tt done.1,
    )

pub returns-clause-taken : goal.returns-clause-taken
returns-clause-taken c = λ b acts f g s k a r board run so of not is begun at made asked.
    let mirror : IsMirror b (state b acts) =
    run_world b (c.law_values.ensures.first b) (c.law_values.ensures.more b)
    (c.law_values-2.ensures.more b) (λ has. (c.law_sizes.ensures b has).some 0) acts run so in
    let done = taken_done b (state b acts) (run_kept b acts run) mirror
    (c.law_values-2.ensures.more b) f g s of is r begun k a not at made asked in (
      firmware_after b acts g (Finishes (core_of s)) done.0,
      rightly b acts _ (Finishes (core_of s)) (r, begun) tt done.1,
    )

pub returns-clause-lost : goal.returns-clause-lost
returns-clause-lost c = λ b p f g core a board anew asked. lost_ack b p f g core a board anew asked

pub returns-clause-never_refused : goal.returns-clause-never_refused
returns-clause-never_refused c = λ b acts f s fault board run so of is.
    let mirror : IsMirror b (state b acts) =
    run_world b (c.law_values.ensures.first b) (c.law_values.ensures.more b)
    (c.law_values-2.ensures.more b) (λ has. (c.law_sizes.ensures b has).some 0) acts run so in
    let free : NoneRefused b (state b acts).past =
    c.law_never_refused.ensures b (state b acts).past board mirror.legal.0 in (
      λ regs post refused. call_passes b (state b acts) (run_kept b acts run) mirror free f s of is
          regs fault post refused,
      λ start post refused. entry_passes b (state b acts) (run_kept b acts run) mirror free f s of
          is
          (c.law_new_life.ensures.answer b) start fault post refused,
    )

pub returns-clause-again : goal.returns-clause-again
returns-clause-again c = λ b acts f number m board run so of out.
    let mirror : IsMirror b (state b acts) =
    run_world b (c.law_values.ensures.first b) (c.law_values.ensures.more b)
    (c.law_values-2.ensures.more b) (λ has. (c.law_sizes.ensures b has).some 0) acts run so in
    sends_again b (state b acts) f number m of
    (sent_messages b (firmware_history b (state b acts).past))
    (c.law_sent.ensures b (state b acts).past mirror.legal.0)
    (legal_holds b (firmware_history b (state b acts).past) board
    (firmware_legal b (state b acts).past mirror.legal.0)).slots out

pub returns-clause-runs : goal.returns-clause-runs
returns-clause-runs c = λ b acts s act run so is. ((is.may, run), (is.so, so))
