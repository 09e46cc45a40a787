-- Worked examples of books: the reply after entries, what passes have seen of them, which entries
-- are told, and room; of what a firmware and a power controller have after entries. In life 2 the
-- boot core has entered, and core 1 is OFF.
use Rattle.std.proofs.Common.{◌∙◌, ◌∷◌, ◌≡◌, [], ap, arith, false, List}
use Rattle.std.proofs.Common.{None, pos, refl, sym, ℕ}
use Rattle.psci_fw.specs.psci_fw_spec.Answer.{answer, enter_outcome, outcome_of}
use Rattle.psci_fw.specs.psci_fw_spec.Effects.{after}
use Rattle.psci_fw.specs.psci_fw_spec.PowerCalls.{target_of}
use Rattle.psci_fw.specs.psci_fw_spec.History.{values_of}
use Rattle.psci_fw.specs.psci_fw_spec.Statuses.{statuses}
use Rattle.psci_fw.specs.psci_fw_spec.declared.call.FwCall.{FwCall}
use Rattle.psci_fw.specs.psci_fw_spec.declared.call.FwCall.TheVariants.{Smc, Enter}
use Rattle.psci_fw.specs.psci_fw_spec.declared.fault.FwFault.TheVariants.{NoLife, NotRunning}
use Rattle.psci_fw.specs.psci_fw_spec.declared.outcome.Act.TheVariants as acts
use Rattle.psci_fw.specs.psci_fw_spec.declared.reply.FwReply.{FwReply}
use Rattle.psci_fw.specs.psci_fw_spec.declared.reply.FwReply.TheVariants.{Out, Fault}
use Rattle.psci_fw.specs.psci_fw_spec.declared.status.Status.TheVariants.{On, Off, Pending}
use Rattle.psci_fw.specs.psci_fw_spec.declared.status.Status.{Status}
use Rattle.psci_messages.specs.declared.start.Cause.TheVariants.{Boot}
use Rattle.psci_status.specs.Lists.{Item, Within}
use Rattle.psci_shared.specs.Places.{CtlEntry, entry as control, FwEntry, Has as HasControls}
use Rattle.psci_shared.specs.Places.{HasRoom, history_of as controls_of}
use Rattle.psci_shared.specs.Passes.{AllSeen, AllStand, answer_after, entry, Has, history_of}
use Rattle.psci_shared.specs.Passes.{IsTold, PassView, Stand}
use Rattle.psci_shared.proofs.Written.{board}
use Rattle.std.proofs.lemmas.Bool.{eqb-false}
use Rattle.psci_board.proofs.Tables.{◌⇒◌, Gives}
use Rattle.psci_fw.specs.Reactions.{FirmwareValue, seen}
use Rattle.psci_ctl.specs.Seen.{ControllerValue, seen as seen_of}
use Rattle.psci_ctl.specs.psci_ctl_spec.Replies.{effect_of}
use Rattle.psci_ctl.specs.psci_ctl_spec.History.{values_of as controls_after}
use Rattle.psci_ctl.specs.psci_ctl_spec.Values.{Values as Controls}
use Rattle.psci_ctl.specs.psci_ctl_spec.declared.call.CtlCall.TheVariants.{Reset}
use Rattle.psci_ctl.specs.psci_ctl_spec.declared.kick.Kick.TheVariants.{Started}
use Rattle.psci_ctl.specs.psci_ctl_spec.declared.reply.CtlReply.TheVariants.{Kick}
use Rattle.psci_ctl.specs.psci_ctl_spec.psci_messages.declared.start.Cause.TheVariants as causes

-- what an example unfolds to compute an answer
unfoldable computing : Unit {0}
unfolding answer values_of after outcome_of enter_outcome target_of
computing = tt

abbrev enters : ℕ → FwEntry
enters life = entry life (record { number = 0 })
    (Enter (record { life = life; number = 1; cause = Boot }))
    (Out (record { act = acts.Enter 0 0; message = None }))

-- the boot core has entered in life 1, and again in life 2
abbrev entries : List FwEntry
entries = enters 1 ∷ enters 2 ∷ []

abbrev version : FwCall
version = Smc (record { x0 = 0x84000000; x1 = 0; x2 = 0; x3 = 0 })

-- the reply that says which version it is
abbrev told : FwReply
told = Out (record { act = acts.Return (record { 0 = pos 0x10001 }); message = None })

-- The reply after entries ------------------------------------------------------------------------

-- what a core is replied that asks for the version
abbrev replied : List FwEntry × ℕ → FwReply
replied (entries, core) = answer_after board entries core version

replies_after_entries : Gives replied
    (([], 0) ⇒ Fault NoLife
    ∷ (entries, 0) ⇒ told
    ∷ (entries, 1) ⇒ Fault NotRunning ∷ [])
unfolding computing history_of
replies_after_entries = refl

-- What passes have seen --------------------------------------------------------------------------

abbrev pass : List (List Item) → PassView
pass seen =
    record { core = record { number = 0 }; room = 4; told_full = false; items = []; seen = seen }

-- what was written of cores 0 and 1
abbrev log : List (List Status)
log = (On ∷ []) ∷ (Pending ∷ Off ∷ []) ∷ []

both_have_seen : AllSeen log
    (pass ([] ∷ ((0, Off) ∷ []) ∷ []) ∷ pass ([] ∷ ((1, Pending) ∷ []) ∷ []) ∷ [])
both_have_seen = search arith

-- an item was seen that was not written: by the first pass, by the second, of another core
not_of_the_log : Within (Pending ∷ Off ∷ []) ((2, On) ∷ []) → ⊥
not_of_the_log = search arith

first_has_not_seen : AllSeen log
    (pass ([] ∷ ((2, On) ∷ []) ∷ []) ∷ pass ([] ∷ ((1, Pending) ∷ []) ∷ []) ∷ []) → ⊥
first_has_not_seen h = not_of_the_log (h.0 1)

second_has_not_seen : AllSeen log
    (pass ([] ∷ ((0, Off) ∷ []) ∷ []) ∷ pass ([] ∷ ((2, On) ∷ []) ∷ []) ∷ []) → ⊥
second_has_not_seen h = not_of_the_log (h.1.0 1)

-- the statuses after the entries: OFF, ON_PENDING and ON of the boot core in either life
first_stands : Stand board entries ([] ∷ ((0, Off) ∷ []) ∷ [])
unfolding statuses history_of
first_stands = search arith

second_stands : Stand board entries []
unfolding statuses history_of
second_stands = search arith

all_stand : AllStand board entries (pass ([] ∷ ((0, Off) ∷ []) ∷ []) ∷ pass [] ∷ [])
all_stand = (first_stands, (second_stands, tt))

do_not_stand :
    ¬ (AllStand board entries (pass ([] ∷ ((1, On) ∷ []) ∷ []) ∷ pass [] ∷ []))
    × ¬ (AllStand board entries (pass [] ∷ pass ([] ∷ ((1, On) ∷ []) ∷ []) ∷ []))
unfolding statuses history_of
do_not_stand = search arith

-- Histories that are told ------------------------------------------------------------------------

told_or_not :
    IsTold board []
    × IsTold board entries
    × ¬ (IsTold board (entry 0 (record { number = 1 }) version told ∷ []))
    × ¬ (IsTold board (entry 0 (record { number = 1 }) version (Fault NotRunning) ∷ []))
unfolding computing history_of
told_or_not = search arith

-- Room -------------------------------------------------------------------------------------------

room_or_not :
    HasRoom 3 4 3
    × ¬ (HasRoom 2 4 1)
    × ¬ (HasRoom 0 3 4)
    × ¬ (HasRoom 0 0x100000000 0x100000000)
room_or_not = search arith

-- A firmware -------------------------------------------------------------------------------------

-- it is of another board; it has another life than the entries say
other_board : (f : FirmwareValue) → f.board.starts ≡ 8 → Has board f [] → ⊥
other_board = search arith

other_life : (f : FirmwareValue) → (seen f).life ≡ 1 → Has board f entries → ⊥
unfolding computing history_of
other_life = search arith

-- A power controller -----------------------------------------------------------------------------

unfoldable counting : Unit {0}
unfolding controls_after effect_of controls_of
counting = tt

-- core 1 is reset, for its start of this number
abbrev resets : ℕ → CtlEntry
resets number = control number (Reset (record { number = 1 }))
    (Kick (Started (record { life = 1; number = number; cause = causes.Reset })))

other_controllers_board : (c : ControllerValue) → c.board.starts ≡ 8 → HasControls board c [] → ⊥
other_controllers_board = search arith

start_not_counted : (c : ControllerValue) → (seen_of c).starts 1 ≡ 0
    → HasControls board c (resets 1 ∷ []) → ⊥
unfolding counting
start_not_counted c none h =
    eqb-false 0 1 refl (sym none ∙ ap (λ (v : Controls). v.starts 1) h.1)
