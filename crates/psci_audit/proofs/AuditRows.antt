-- Worked examples: what an audit answers, and what it does not.
use Rattle.std.proofs.Common.{◌++◌, ◌∷◌, ◌≡◌, [], ap, arith, Err, false, length, length-append}
use Rattle.std.proofs.Common.{None, Ok, pos, refl, reverse, Some, true, ℕ}
use Rattle.std.proofs.lemmas.List.{length-reverse}
use Rattle.psci_world_spec.specs.psci_fw_spec.declared.call.FwCall.TheVariants as calls
use Rattle.psci_world_spec.specs.psci_fw_spec.declared.outcome.Act.{Act}
use Rattle.psci_world_spec.specs.psci_fw_spec.declared.outcome.Act.TheVariants as acts
use Rattle.psci_world_spec.specs.psci_fw_spec.declared.reply.FwReply.TheVariants as replies
use Rattle.psci_world_spec.specs.psci_messages.declared.start.Cause.TheVariants as causes
use Rattle.psci_world_spec.proofs.Scripts.{board}
use Rattle.psci_shared.specs.Places.{FwEntry}
use Rattle.psci_audit.proofs.ListRows.{boots, judging, number_in, start, version}
use Rattle.psci_audit.specs.declared.fault.AuditFault.TheVariants.{Ticket, Illegal, Memory}
use Rattle.psci_audit.specs.Merged.{asked_by, IsFault, IsFirstIllegal, IsFollowed, IsJudged}
use Rattle.psci_audit.specs.Merged.{IsSound, merged}

unfoldable auditing : Unit {0}
unfolding judging merged
auditing = tt

-- the boot core enters, with this outcome
abbrev entry : ℕ → Act → FwEntry
entry ticket act = record {
  ticket = ticket;
  core = record { number = 0 };
  call = calls.Enter (start 1 causes.Boot);
  reply = replies.Out (record { act = act; message = None });
}

abbrev enters : ℕ → FwEntry
enters ticket = entry ticket (acts.Enter 0x40000000 0)

abbrev returns : ℕ → FwEntry
returns ticket = entry ticket (acts.Return (record { 0 = pos 1 }))

-- Sound ----------------------------------------------------------------------------------------

sound_or_not :
    IsSound board [] [] 0
    × IsSound board (enters 7 ∷ []) [] 1
    × ¬ (IsSound board (enters 7 ∷ []) [] 2)
    × ¬ (IsSound board (enters 7 ∷ enters 8 ∷ []) [] 2)
unfolding auditing
sound_or_not = search arith

-- Refused --------------------------------------------------------------------------------------

-- another outcome, at the first place
other_outcome : IsFault board (returns 7 ∷ []) [] (Illegal 0)
unfolding auditing
other_outcome = (
  record { firmware = (tt, tt); controller = tt; apart = λ t at other. other },
  record {
    before = [];
    entry = asked_by (returns 7);
    since = [];
    parts = refl;
    at = refl;
    legal = tt;
    illegal = λ may. let e : 1 ≡ 0x40000000 = ap number_in may.4 in omega (arith, e);
  },
)

-- the second entry of a core that runs, at the second place
second_place : IsFirstIllegal board (boots ∷ boots ∷ version 0 65537 ∷ []) 1
unfolding auditing
second_place = record {
  before = boots ∷ [];
  entry = boots;
  since = version 0 65537 ∷ [];
  parts = refl;
  at = refl;
  legal = ((omega arith, refl, refl, tt, refl), tt);
  illegal = λ may. let e = may.1 in cc;
}

-- there is no such place in a list of nothing
nothing_is_illegal_in_none : (place : ℕ) → IsFirstIllegal board [] place → ⊥
nothing_is_illegal_in_none place is =
    let e : length (reverse is.before ++ (is.entry ∷ is.since)) ≡ 0 = ap length is.parts in
    let d = length-append (reverse is.before) (is.entry ∷ is.since) in omega (arith, e, d)

-- nor is there a second place in a list of one entry
past_the_last : IsFirstIllegal board (boots ∷ []) 1 → ⊥
past_the_last is =
    let e : length (reverse is.before ++ (is.entry ∷ is.since)) ≡ 1 = ap length is.parts in
    let d = length-append (reverse is.before) (is.entry ∷ is.since) in
    let s = length-reverse is.before in omega (arith, e, d, s, is.at)

-- nor a third one in a list of two, of which the second may not follow
past_the_second : IsFirstIllegal board (boots ∷ boots ∷ []) 2 → ⊥
past_the_second is =
    let e : length (reverse is.before ++ (is.entry ∷ is.since)) ≡ 2 = ap length is.parts in
    let d = length-append (reverse is.before) (is.entry ∷ is.since) in
    let s = length-reverse is.before in omega (arith, e, d, s, is.at)

fault_or_not :
    -- tickets that fall come before an entry that may not follow
    IsFault board (returns 2 ∷ enters 1 ∷ []) [] Ticket
    × ¬ (IsFault board (returns 2 ∷ enters 1 ∷ []) [] (Illegal 0))
    -- tickets that rise are no fault
    × ¬ (IsFault board (enters 1 ∷ []) [] Ticket)
fault_or_not = search arith

-- One entry of a list --------------------------------------------------------------------------

-- an entry that goes on, one that stops the audit, and one that could not be judged, whatever its
-- place
follows : IsFollowed (Ok true) 3 None × IsFollowed (Ok false) 3 (Some (Illegal 3))
    × IsFollowed (Err (record {})) 3 (Some Memory)
follows = search arith

none_of_one : IsJudged board [] (Err (Illegal 0)) → ⊥
none_of_one judged = nothing_is_illegal_in_none 0 judged

judged_or_not :
    -- a list that is judged never has a ticket that does not fit
    ¬ (IsJudged board [] (Err Ticket))
    × ¬ (IsJudged board (boots ∷ []) (Ok 2))
    -- the boot core enters, and PSCI_VERSION follows
    × IsJudged board (boots ∷ version 0 65537 ∷ []) (Ok 2)
    × IsJudged board (boots ∷ []) (Ok 1)
unfolding auditing
judged_or_not = search arith
