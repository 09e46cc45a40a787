-- The record that is copied is the newest.
use Rattle.std.proofs.Common.{◌≡◌, [], ◌∷◌, List, get_or, length, ap, reverse, sym, ◌∙◌}
use Rattle.std.proofs.Math.Seq.{get_or-append_seam}
use Rattle.std.proofs.lemmas.List.{reverse-append}
use Rattle.psci_machine.specs.psci_world_spec.declared.said.Record.{Record}
use Rattle.psci_machine.specs.psci_world_spec.Legal.{legal_record}
use Rattle.psci_world.proofs.world.World.step.Goals as goal

-- what is read behind the older records, whatever would stand for a place that is none
newest : (lent older past : List Record) (r d : Record) → older ≡ reverse past
    → lent ≡ reverse (r ∷ past) → get_or lent (length older) d ≡ r
newest lent older past r d was is =
    rw (is, was, reverse-append (r ∷ []) past) (get_or-append_seam (reverse past) r [] d)

pub returns-clause-ok : goal.returns-clause-ok
returns-clause-ok c =
    let past = c.args.self.now.past in
    let made = legal_record c.args.self.now.board past c.args.event in
    let is_made : c.copy.result ≡ made =
    c.copy.ensures ∙ c.index-records-newest.is
    ∙ newest c.records.result.now c.records-newest.result.now past made
    c.index-records-newest.result c.records-newest.ensures
    (c.records.ensures ∙ ap reverse c.in_ok-happen.ensures.ok) in
    (is_made, c.in_ok-happen.ensures.ok ∙ ap (λ r. r ∷ past) (sym is_made))
