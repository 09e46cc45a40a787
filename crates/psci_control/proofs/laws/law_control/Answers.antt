-- A step of this side is a step of the port that keeps its rules, by the side alone.
use Rattle.psci_ctl_spec.specs.Replies.{effect_of, reply}
use Rattle.psci_port.specs.Port.{state}
use Rattle.psci_port.proofs.Running.{run_kept}
use Rattle.psci_control.proofs.Commanded.{apart_side, delivers_side, first_side, hears_side}
use Rattle.psci_control.proofs.Commanded.{opens_side, resets_side, rises_side, wakes_side}
use Rattle.psci_control.proofs.Commanded.{writes_side}
use Rattle.psci_control.proofs.Asked.{orders_power}
use Rattle.psci_control.proofs.laws.law_control.Goals as goal

pub returns : goal.returns
unfolding state
returns c = record {
  begins = first_side;
  delivers = λ b acts s t k m run side can free lacks asked.
      delivers_side b (state b acts) s side (run_kept b acts run) t k m can free lacks asked;
  wakes = λ b acts s t c run side has free asked. (
    wakes_side b (state b acts) s side (run_kept b acts run) t c has free asked,
    rises_side b (state b acts) s side (run_kept b acts run) t c has free asked,
  );
  resets = λ b acts s t c side has lacks asked.
      resets_side b (state b acts) s side t c has lacks asked;
  writes = λ b p s c start is side has due. writes_side b p s side c start is has due;
  opens = λ b p s c number is side has due. opens_side b p s side c number is has due;
  hears = λ b p s c word is side has low. hears_side b p s side c word is has low;
  apart = λ b acts s act run side is.
      apart_side b (state b acts) s side (run_kept b acts run) act is;
  powers = λ b v call level place board can none.
      orders_power b v (effect_of b call (reply b v call)) (reply b v call) level place
      (c.law_replies.ensures b v call board can) none;
}
