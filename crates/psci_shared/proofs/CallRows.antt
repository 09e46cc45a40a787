-- Worked examples of what a pass is after a call: which reply fits which call, a call that was
-- entered, one that was refused, and what was seen last of a core.
use Rattle.std.proofs.Common.{◌+◌, ◌∷◌, ◌≡◌, [], arith, Bool, false, List, refl}
use Rattle.std.proofs.Common.{true, ℕ}
use Rattle.psci_fw.specs.psci_fw_spec.declared.call.FwCall.{FwCall}
use Rattle.psci_fw.specs.psci_fw_spec.declared.call.FwCall.TheVariants.{Smc, Enter, Take}
use Rattle.psci_fw.specs.psci_fw_spec.declared.fault.FwFault.TheVariants.{NoLife, NotRunning}
use Rattle.psci_fw.specs.psci_fw_spec.declared.reply.FwReply.{FwReply}
use Rattle.psci_fw.specs.psci_fw_spec.declared.reply.FwReply.TheVariants.{Out, Taken, Fault}
use Rattle.psci_fw.specs.psci_fw_spec.declared.outcome.Act.TheVariants as acts
use Rattle.psci_fw.specs.psci_fw_spec.declared.status.Status.TheVariants.{On, Off, Pending}
use Rattle.psci_messages.specs.declared.kind.Kind.TheVariants as kinds
use Rattle.psci_messages.specs.declared.start.Cause.TheVariants.{Wake}
use Rattle.psci_messages.specs.declared.taken.Taken.TheVariants as takens
use Rattle.std.specs.Prelude.{None}
use Rattle.psci_status.specs.Lists.{Item}
use Rattle.psci_shared.specs.Places.{FwItem, item}
use Rattle.psci_shared.specs.declared.fault.CallFault.TheVariants.{BookFull, Fw}
use Rattle.psci_shared.specs.Passes.{Fits, HasSeen, IsCalled, IsRefused, met, PassView}

-- a function that core 2 asks for, its entry in life 2, and an acknowledgement in life 3
abbrev ask : ℕ → FwCall
ask word = Smc (record { x0 = word; x1 = 0; x2 = 0; x3 = 0 })

abbrev enter : FwCall
enter = Enter (record { life = 2; number = 4; cause = Wake })

abbrev take : FwCall
take = Take (record {
  kind = kinds.Down;
  core = record { number = 2 };
  life = 3;
  number = 1;
  applied = 1;
  stale = false;
})

abbrev stops : FwReply
stops = Out (record { act = acts.Stop; message = None })

abbrev used : FwReply
used = Taken takens.Used

-- What fits --------------------------------------------------------------------------------------

fit_or_not :
    Fits (ask 1) stops
    × Fits (ask 1) (Fault NotRunning)
    × Fits enter stops
    × Fits enter (Fault NoLife)
    × Fits take used
    × ¬ (Fits (ask 1) used)
    × ¬ (Fits enter used)
    × ¬ (Fits take stops)
    × ¬ (Fits take (Fault NoLife))
fit_or_not = search arith

-- A call that was entered ------------------------------------------------------------------------

-- what tells calls and replies apart
abbrev word : FwCall → ℕ
word (Smc regs) = regs.x0
word (Enter start) = 100 + start.number
word (Take ack) = 200

abbrev pass : ℕ → Bool → List FwItem → List (List Item) → PassView
pass n told items seen = record {
  core = record { number = n };
  room = 4;
  told_full = told;
  items = items;
  seen = seen;
}

abbrev old : FwItem
old = item 3 (ask 1) stops

abbrev new : FwItem
new = item 7 enter (Fault NoLife)

-- of core 2, which has seen more of core 1 by then
entered_behind : IsCalled (pass 2 false (old ∷ []) ([] ∷ ((0, Off) ∷ []) ∷ []))
    (pass 2 false (old ∷ new ∷ []) ([] ∷ ((2, On) ∷ (0, Off) ∷ []) ∷ [])) enter (Fault NoLife)
entered_behind = (7, [] ∷ ((2, On) ∷ []) ∷ [], refl)

not_called :
    ¬ (IsCalled (pass 2 false [] (((0, Off) ∷ []) ∷ [])) (pass 2 false (new ∷ []) ([] ∷ [])) enter
    (Fault NoLife))
    × ¬ (IsCalled (pass 2 false (old ∷ []) []) (pass 2 false (new ∷ old ∷ []) []) enter (Fault
    NoLife))
    × ¬ (IsCalled (pass 2 false (old ∷ []) []) (pass 2 false (old ∷ []) []) (ask 1) stops)
    × ¬ (IsCalled (pass 2 false [] []) (pass 1 false (new ∷ []) []) enter (Fault NoLife))
    × ¬ (IsCalled (pass 2 false [] []) (pass 2 true (new ∷ []) []) enter (Fault NoLife))
    × ¬ (IsCalled (pass 2 false [] []) (pass 2 false (new ∷ []) []) (ask 5) (Fault NoLife))
    × ¬ (IsCalled (pass 2 false [] []) (pass 2 false (new ∷ []) []) enter stops)
not_called = search arith

-- A call that was refused ------------------------------------------------------------------------

refused_or_not :
    IsRefused (pass 1 false (old ∷ []) []) (pass 1 true (old ∷ []) []) enter BookFull
    × IsRefused (pass 1 false (old ∷ []) []) (pass 1 false (old ∷ new ∷ []) []) enter (Fw NoLife)
    × ¬ (IsRefused (pass 1 false [] []) (pass 1 false [] []) enter BookFull)
    × ¬ (IsRefused (pass 1 false [] []) (pass 1 true (new ∷ []) []) enter BookFull)
    × ¬ (IsRefused (pass 1 false [] []) (pass 1 false [] []) enter (Fw NoLife))
    × ¬ (IsRefused (pass 1 false [] []) (pass 1 true [] []) enter (Fw NoLife))
refused_or_not = search arith

-- What was seen last -----------------------------------------------------------------------------

abbrev rows : List (List Item)
rows = ((4, On) ∷ (1, Off) ∷ []) ∷ ((2, Pending) ∷ []) ∷ [] ∷ []

seen_or_not :
    HasSeen rows 0 On
    × HasSeen rows 1 Pending
    -- what was seen before the last; of another core; of a core of which nothing was seen
    × ¬ (HasSeen rows 0 Off)
    × ¬ (HasSeen rows 1 On)
    × ¬ (HasSeen rows 2 Off)
seen_or_not = search arith

-- a pass that is told of a status more of core 1: its core, its items and what it was told stay
told_of_core_1 : met ([] ∷ ((3, On) ∷ []) ∷ []) (pass 2 true (old ∷ new ∷ []) rows)
    ≡ pass 2 true (old ∷ new ∷ [])
    (((4, On) ∷ (1, Off) ∷ []) ∷ ((3, On) ∷ (2, Pending) ∷ []) ∷ [] ∷ [])
told_of_core_1 = refl
