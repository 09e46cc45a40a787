-- Each step keeps the machine a machine of a port, and what holds of the port holds of it.
use Rattle.psci_port.proofs.Truth.{run_world}
use Rattle.psci_port.proofs.Rows.{run_valued}
use Rattle.psci_sides.proofs.Words.{BoardValue, IsBoard}
use Rattle.psci_sides.proofs.Sound.{agree, resting, sound}
use Rattle.psci_sides.proofs.Finite.{all_served, finite, left_serves}
use Rattle.psci_sides.proofs.Settling.{settles}
use Rattle.psci_sides.proofs.Carrying.{Given}
use Rattle.psci_sides.proofs.Restarting.{run_seen, run_takes}
use Rattle.psci_sides.proofs.laws.law_sides.Goals as goal
use Rattle.psci_sides.proofs.laws.law_sides.Goals.{After-law_others}

given : (c : After-law_others) (b : BoardValue) → IsBoard b → Given b
given c b board = record {
  board = board;
  world = λ acts run so. run_world b (c.law_values.ensures.first b) (c.law_values.ensures.more b)
      (c.law_values-2.ensures.more b) (λ has. (c.law_sizes.ensures b has).some 0) acts run so;
  valued = λ acts run. run_valued b (c.law_limits.ensures.first b board)
      (λ v f are may. c.law_limits.ensures.change b v f board are may)
      (λ v call are can. c.law_limits.ensures.reply b v call board are can) acts run;
  power = λ acts run. c.law_power.ensures b acts board run;
  agrees = λ acts run so still. c.law_agrees.ensures b acts board run so still;
  lowers = λ acts act run so due. c.law_rests.ensures.lowers b acts act board run so due;
  rests = λ acts run still. c.law_rests.ensures.rests b acts board run still;
  agreed = λ past legal. c.law_agreement.ensures b past board legal;
  leaves = λ acts k m run so at. c.law_undone.ensures.leaves b acts k m board run so at;
  listed = λ acts slot m run so out. c.law_undone.ensures.listed b acts slot m board run so out;
  more = c.law_values-2.ensures.more b;
  may = λ v call can. c.law_replies.ensures b v call board can;
  enters = c.law_firmware.ensures.enters b;
  called = λ acts f g s regs r run so of is begun at asked.
      c.law_firmware.ensures.called b acts f g s regs r board run so of is begun at asked;
  entered = λ acts f g s start r run so of is post begun at asked.
      c.law_firmware.ensures.entered b acts f g s start r board run so of is post begun at asked;
  alike = c.law_new_life.ensures.answer b;
  again = λ acts f number m run so of out.
      c.law_firmware.ensures.again b acts f number m board run so of out;
  opens = λ before f same new. c.law_others.ensures.opens b before f same new;
  anew = λ acts f run so same new. c.law_others.ensures.anew b acts f board run so same new;
}

pub returns : goal.returns
returns c = record {
  seen = λ b f s steps board is run.
      let at = run_seen b (given c b board) f s is steps run in (
        at.0,
        at.1,
        at.2.run,
        at.2.so,
        at.2.tied,
        c.law_port.ensures.legal b at.0 at.2.run at.2.so,
        c.law_port.ensures.safe b at.0 board at.2.run at.2.so,
      );
  sound = λ b f s steps board is run.
      let at = run_seen b (given c b board) f s is steps run in
      sound b (given c b board) _ at.0 at.2;
  starts = λ b f s steps board is run. run_takes b (given c b board) f s is steps run;
  agrees = λ b f s steps board is run still none.
      let at = run_seen b (given c b board) f s is steps run in
      agree b (given c b board) _ at.0 at.2 still none;
  settles = λ b f s steps newest board is run goes.
      settles b (given c b board) f s is steps newest run goes;
  rests = λ b f s steps board is run still.
      let at = run_seen b (given c b board) f s is steps run in
      resting b (given c b board) _ at.0 at.2 still;
  served = λ b f s steps board is run still none.
      let at = run_seen b (given c b board) f s is steps run in
      all_served b (given c b board) _ at.0 at.2 still none;
  left = λ b f s steps core board is run holds left.
      let at = run_seen b (given c b board) f s is steps run in
      left_serves b (given c b board) _ at.0 at.2 core holds left;
  finite = λ b f s steps newest board is run does.
      finite b (given c b board)
      ((c.law_sizes.ensures b board).some 0) f s is steps newest run does;
}
