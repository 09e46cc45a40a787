-- A core that enters halts, goes its way or is parked.
use Rattle.std.proofs.Common.{◌≡◌, None, false, sym, ap, ◌∙◌}
use Rattle.psci_fw_spec.specs.Changes.{in_life, with_arrival}
use Rattle.psci_fw_spec.specs.Values.{Values}
use Rattle.psci_fw_state.specs.Seen.{values_in}
use Rattle.psci_fw.specs.Reactions.{outcome_in}
use Rattle.psci_fw.specs.Ways.{way_on}
use Rattle.psci_fw.proofs.Answered.{arrived_away, fault_inside, halted_outcome, leaving_off}
use Rattle.psci_fw.proofs.Answered.{left_may, no_way, park_outcome, parked, way_outcome}
use Rattle.psci_fw_spec.proofs.Always.{park_is_claim}
use Rattle.psci_fw.proofs.entering.enter.Goals as goal

pub returns-then-halting-clause-answer : goal.returns-then-halting-clause-answer
returns-then-halting-clause-answer g c =
    ap (outcome_in c.arrive_away.new.self.board (values_in c.arrive_away.new.self)) c.stops.ensures
    ∙ halted_outcome c.args.state.now.board (values_in c.args.state.now) c.args.core.number
    c.args.start
    (sym (ap (λ (x : Values). x.halting) c.begin.ensures.after)
    ∙ sym c.halting.ensures ∙ c.if-halting.true)

pub send_down-requires : goal.send_down-requires
send_down-requires g c =
    let b = c.args.state.now.board in
    let at = c.arrive_away-in-None.ensures.board ∙ c.begin.ensures.board in
    let v = values_in c.args.state.now in
    let core = c.args.core.number in
    let s = c.args.start in
    let found = c.begin.ensures.after in
    let awake : (in_life b s.life v).halting ≡ false =
    sym (ap (λ (x : Values). x.halting) found) ∙ sym c.halting.ensures ∙ c.if-halting.false in
    let none : way_on (in_life b s.life v) core s ≡ None =
    sym (ap (λ (x : Values). way_on x core s) found) ∙ sym c.way_on.ensures ∙ c.in-None.is in
    let away = arrived_away b _ v _ _ core s c.begin.ensures.board found
    c.arrive_away-in-None.ensures.after in
    let same = leaving_off b _ (with_arrival b core s v) _ core _ at away
    c.leaving_wish-wish.ensures in
    let inside = fault_inside b v core s c.requires.fault in
    let parks = no_way (in_life b s.life v) core s none in
    record {
      inside = rw at inside;
      claims = rw same (park_is_claim b v core s
          c.requires.firmware.board inside c.requires.firmware.values awake parks.0);
      may = left_may b _ (with_arrival b core s v) _ core _ _ at away same
          (c.law_may_claim.ensures.parks b v core s c.requires.firmware.board inside
          c.requires.firmware.values c.requires.fault awake parks.0 parks.1);
    }

pub returns-in-Some-clause-answer : goal.returns-in-Some-clause-answer
returns-in-Some-clause-answer g c =
    let v = values_in c.args.state.now in
    let found = c.begin.ensures.after in
    way_outcome c.args.state.now.board v c.args.core.number c.args.start c.in-Some.act
    (sym (ap (λ (x : Values). x.halting) found) ∙ sym c.halting.ensures ∙ c.if-halting.false)
    (sym (ap (λ (x : Values). way_on x c.args.core.number c.args.start) found)
    ∙ sym c.way_on.ensures ∙ c.in-Some.is)

pub returns-in-None-clause-answer : goal.returns-in-None-clause-answer
returns-in-None-clause-answer g c =
    let b = c.args.state.now.board in
    let at = c.arrive_away-in-None.ensures.board ∙ c.begin.ensures.board in
    let v = values_in c.args.state.now in
    let core = c.args.core.number in
    let s = c.args.start in
    let found = c.begin.ensures.after in
    let awake : (in_life b s.life v).halting ≡ false =
    sym (ap (λ (x : Values). x.halting) found) ∙ sym c.halting.ensures ∙ c.if-halting.false in
    let none : way_on (in_life b s.life v) core s ≡ None =
    sym (ap (λ (x : Values). way_on x core s) found) ∙ sym c.way_on.ensures ∙ c.in-None.is in
    let away = arrived_away b _ v _ _ core s c.begin.ensures.board found
    c.arrive_away-in-None.ensures.after in
    let same = leaving_off b _ (with_arrival b core s v) _ core _ at away
    c.leaving_wish-wish.ensures in
    let parks = no_way (in_life b s.life v) core s none in
    parked b (with_arrival b core s v) _ core _ _ away same c.send_down.ensures.answer
    ∙ sym (park_outcome b v core s awake parks.0 parks.1)
