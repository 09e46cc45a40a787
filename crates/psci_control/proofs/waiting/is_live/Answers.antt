-- The first part of a Down is live where its generation is the number of the core's starts.
use Rattle.std.proofs.Common.{◌≡◌, ◌∙◌, ap, nat_eq, not, subst, sym, Some, List}
use Rattle.std.specs.Prelude.{slice_get}
use Rattle.std.specs.Option.{option_copied}
use Rattle.psci_messages.specs.declared.part.Part.{Part}
use Rattle.psci_messages.specs.Message.{ArePartsOf, MessageValue}
use Rattle.psci_board.specs.Board.{IsBoard}
use Rattle.psci_ctl_spec.specs.Values.{begins_stale}
use Rattle.psci_ctl.specs.Seen.{seen}
use Rattle.psci_control.proofs.Asked.{present_message}
use Rattle.psci_ctl_spec.proofs.Sums.{sum_laws}
use Rattle.psci_control.proofs.waiting.is_live.Goals as goal

pub returns-in-Some : goal.returns-in-Some
returns-in-Some c =
    let ctl = c.args.controller.now in
    let b = ctl.board in
    let at : slice_get c.message.inside.parts 0 ≡ Some c.in-Some.part.now =
    ap (λ (ps : List Part). slice_get ps 0) (sym c.as_slice.ensures.parts)
    ∙ sym c.first.ensures.value ∙ ap option_copied c.in-Some.is in
    subst (λ n. nat_eq c.in-Some.part.now.generation n ≡ not (begins_stale b (seen ctl)
    c.args.message.now.core.number c.args.message.now.parts))
    (ap (λ (m : MessageValue). (seen ctl).starts m.core.number) (sym c.message.view_is)
    ∙ sym c.starts-starts.ensures)
    (present_message b (seen ctl) c.args.message.now c.in-Some.part.now
    (c.law_paths.ensures b (subst IsBoard c.board.ensures c.cores-cores.ensures.board))
    (sum_laws b) c.law_parts.ensures.parts c.requires.board.core c.requires.kind
    (subst (λ (m : MessageValue). ArePartsOf m.kind m.parts) c.message.view_is
    c.message.invariant.parts)
    (subst (λ (m : MessageValue). slice_get m.parts 0 ≡ Some c.in-Some.part.now)
    c.message.view_is at))
