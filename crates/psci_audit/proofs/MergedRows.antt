-- Worked examples: books that are merged, tickets that fit and that do not, and what is answered.
use Rattle.std.proofs.Common.{◌∷◌, ◌≡◌, [], arith, false, inl, inr, List, refl, true, ℕ}
use Rattle.psci_world_spec.specs.psci_ctl_spec.declared.call.CtlCall.TheVariants as asks
use Rattle.psci_world_spec.specs.psci_ctl_spec.declared.kick.Kick.TheVariants as kicks
use Rattle.psci_world_spec.specs.psci_ctl_spec.declared.reply.CtlReply.TheVariants as replied
use Rattle.psci_world_spec.specs.psci_fw_spec.declared.call.FwCall.TheVariants as calls
use Rattle.psci_world_spec.specs.psci_fw_spec.declared.fault.FwFault.TheVariants.{NoCore}
use Rattle.psci_world_spec.specs.psci_fw_spec.declared.reply.FwReply.TheVariants as replies
use Rattle.psci_world_spec.specs.psci_messages.declared.kind.Kind.TheVariants as kinds
use Rattle.psci_world_spec.specs.psci_messages.declared.start.Cause.TheVariants as causes
use Rattle.psci_shared.specs.Places.{CtlEntry, FwEntry}
use Rattle.psci_audit.specs.Entries.{Asked, Entry}
use Rattle.psci_audit.specs.Told.{asked}
use Rattle.psci_audit.proofs.ListRows.{start}
use Rattle.psci_audit.specs.Merged.{asked_by, controlled_by, is_asked_first, merged}
use Rattle.psci_audit.specs.Merged.{TicketsFit}
use Rattle.psci_world_spec.proofs.Tables.{◌⇒◌, Gives}
use Rattle.psci_world_spec.specs.psci_fw_spec.declared.call.FwCall.{FwCall}

-- an entry of the firmware's book under a ticket
abbrev f : ℕ → FwEntry
f ticket = record {
  ticket = ticket;
  core = record { number = 3 };
  call = calls.Smc (record { x0 = 0; x1 = 0; x2 = 0; x3 = 0 });
  reply = replies.Fault NoCore;
}

-- an entry of the power controller's book under a ticket
abbrev c : ℕ → CtlEntry
c ticket = record {
  ticket = ticket;
  core = tt;
  call = asks.Reset (record { number = 3 });
  reply = replied.Kick kicks.Ignored;
}

-- The merged list ------------------------------------------------------------------------------

abbrev merge : List FwEntry × List CtlEntry → List Entry
merge (firmware, controller) = merged firmware controller

merged_books : Gives merge
    (([], []) ⇒ []
    ∷ ([], c 2 ∷ c 5 ∷ []) ⇒ (controlled_by (c 2) ∷ controlled_by (c 5) ∷ [])
    ∷ (f 2 ∷ f 5 ∷ [], []) ⇒ (asked_by (f 2) ∷ asked_by (f 5) ∷ [])
    -- by the tickets, whichever book is looked at first
    ∷ (f 1 ∷ f 4 ∷ f 6 ∷ [], c 2 ∷ c 3 ∷ c 5 ∷ [])
    ⇒ (asked_by (f 1) ∷ controlled_by (c 2) ∷ controlled_by (c 3)
    ∷ asked_by (f 4) ∷ controlled_by (c 5) ∷ asked_by (f 6) ∷ [])
    ∷ (f 7 ∷ [], c 0 ∷ c 8 ∷ [])
    ⇒ (controlled_by (c 0) ∷ asked_by (f 7) ∷ controlled_by (c 8) ∷ []) ∷ [])
unfolding merged
merged_books = refl

abbrev take : FwCall
take = calls.Take (record {
  kind = kinds.Start;
  core = record { number = 3 };
  life = 1;
  number = 0;
  applied = 1;
  stale = false;
})

asked_as : Gives asked_by
    -- an acknowledgement stands under core 0, whichever pass took it
    (record (f 1) { call = take } ⇒ Asked (asked 0 take (replies.Fault NoCore))
    -- a function and an entry stand under the core of their pass
    ∷ f 1
    ⇒ Asked (asked 3 (calls.Smc (record { x0 = 0; x1 = 0; x2 = 0; x3 = 0 })) (replies.Fault NoCore))
    ∷ record (f 1) { call = calls.Enter (start 2 causes.On) }
    ⇒ Asked (asked 3 (calls.Enter (start 2 causes.On)) (replies.Fault NoCore)) ∷ [])
asked_as = refl

-- whose entry is the next one
next_by_ticket : is_asked_first (f 2 ∷ []) (c 1 ∷ []) ∷ is_asked_first (f 2 ∷ []) (c 3 ∷ [])
    ∷ is_asked_first (f 2 ∷ []) [] ∷ is_asked_first [] (c 1 ∷ []) ∷ []
    ≡ false ∷ true ∷ true ∷ false ∷ []
next_by_ticket = refl

-- Tickets --------------------------------------------------------------------------------------

in_both : TicketsFit (f 1 ∷ f 4 ∷ []) (c 2 ∷ c 4 ∷ []) → ⊥
in_both fit = fit.apart 4 (inr (inl refl)) (inr (inl refl))

fit_or_not :
    ¬ (TicketsFit (f 2 ∷ f 1 ∷ []) [])
    × ¬ (TicketsFit [] (c 2 ∷ c 2 ∷ []))
    × TicketsFit (f 1 ∷ f 4 ∷ []) (c 2 ∷ [])
fit_or_not = search arith
