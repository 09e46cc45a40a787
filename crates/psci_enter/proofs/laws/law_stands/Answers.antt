-- What a core does by itself keeps the rules of the port.
use Rattle.psci_enter.proofs.Keeping.{arms, by_look, free, hears, rests, rests_armed, rightly}
use Rattle.psci_enter.proofs.Keeping.{rises, rouses, sleeps, stands, takes_up, turns, woken_at}
use Rattle.psci_port.specs.Port.{state, words}
use Rattle.psci_enter.specs.SideOf.{core_of}
use Rattle.psci_port.proofs.Running.{run_kept}
use Rattle.psci_enter.proofs.laws.law_stands.Goals as goal

pub returns-clause-takes_up : goal.returns-clause-takes_up
returns-clause-takes_up c = λ b acts s door pending run is reads still may armed finds.
    let kept = run_kept b acts run in
    let lacks = by_look s.post may (free b (state b acts) s is kept) armed in
    let so = takes_up b (state b acts) s is kept door pending reads still may lacks finds in
    (rightly b acts _ _ so.0.0 tt so.0.1, so.1.0, so.1.1.0, so.1.1.1)

pub returns-clause-rests : goal.returns-clause-rests
returns-clause-rests c = λ b acts s run is post.
    rests b (state b acts) s is (run_kept b acts run) post

pub returns-clause-armed : goal.returns-clause-armed
returns-clause-armed c = λ b acts s run is post.
    rests_armed b (state b acts) s is (run_kept b acts run) post

pub returns-clause-free : goal.returns-clause-free
returns-clause-free c = λ b acts s run is post.
    free b (state b acts) s is (run_kept b acts run) post

pub returns-clause-stands : goal.returns-clause-stands
returns-clause-stands c = λ b acts s is post lacks.
    let so = stands b (state b acts) s is post lacks in rightly b acts _ _ so.0 tt so.1

pub returns-clause-arms : goal.returns-clause-arms
returns-clause-arms c = λ b acts s is post none.
    let so = arms b (state b acts) s is post none in rightly b acts _ _ so.0 tt so.1

pub returns-clause-sleeps : goal.returns-clause-sleeps
returns-clause-sleeps c = λ b acts s is post. (
  λ there lacks.
      let so = turns b (state b acts) s is there lacks in rightly b acts _ _ so.0 tt so.1,
  λ there lacks.
      let so = sleeps b (state b acts) s is there lacks in rightly b acts _ _ so.0 tt so.1,
)

pub returns-clause-rouses : goal.returns-clause-rouses
returns-clause-rouses c = λ b acts s is post.
    let so = rouses b (state b acts) s is post in rightly b acts _ _ so.0 tt so.1

pub returns-clause-hears : goal.returns-clause-hears
returns-clause-hears c = λ b acts s run is post there.
    hears b (state b acts) s is (run_kept b acts run)
    (words (state b acts) (core_of s)) there

pub returns-clause-rises : goal.returns-clause-rises
returns-clause-rises c = λ b acts s is post there has.
    let so = rises b (state b acts) s is there has in rightly b acts _ _ so.0 tt so.1

pub returns-clause-turns : goal.returns-clause-turns
returns-clause-turns c = λ b acts s is post lacks.
    let so = turns b (state b acts) s is (woken_at b (state b acts) s is post) lacks in
    rightly b acts _ _ so.0 tt so.1
