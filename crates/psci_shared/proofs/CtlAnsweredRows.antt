-- Worked examples of how a call of the power controller through a pass was answered, of histories
-- that are told, of why no pass is made, and of what a pass is after a call.
use Rattle.std.proofs.Common.{◌∷◌, ◌≡◌, [], arith, Bool, false, List, refl}
use Rattle.std.proofs.Common.{true, ℕ}
use Rattle.psci_ctl.specs.psci_ctl_spec.Replies.{delivery_of, effect_of, reply, reset_of}
use Rattle.psci_ctl.specs.psci_ctl_spec.Replies.{wake_of}
use Rattle.psci_ctl.specs.psci_ctl_spec.History.{values_of}
use Rattle.psci_ctl.specs.psci_ctl_spec.declared.call.CtlCall.{CtlCall}
use Rattle.psci_ctl.specs.psci_ctl_spec.declared.call.CtlCall.TheVariants.{Deliver, Reset, Wake}
use Rattle.psci_ctl.specs.psci_ctl_spec.declared.delivery.Delivery.TheVariants as deliveries
use Rattle.psci_ctl.specs.psci_ctl_spec.declared.kick.Kick.TheVariants as kicks
use Rattle.psci_ctl.specs.psci_ctl_spec.declared.reply.CtlReply.{CtlReply}
use Rattle.psci_ctl.specs.psci_ctl_spec.declared.reply.CtlReply.TheVariants.{Delivery, Kick}
use Rattle.psci_ctl.specs.psci_ctl_spec.psci_messages.declared.kind.Kind.TheVariants as kinds
use Rattle.psci_ctl.specs.psci_ctl_spec.psci_messages.declared.start.Cause.TheVariants as causes
use Rattle.psci_shared.specs.declared.fault.PassFault.TheVariants.{NoCore, TooMany, Memory}
use Rattle.psci_shared.specs.Places.{BookView, CtlEntry, CtlItem, entry, Fits, history_of}
use Rattle.psci_shared.specs.Places.{IsAnswered, IsAnsweredAfter, IsCalled, IsFull, IsNoPass}
use Rattle.psci_shared.specs.Places.{IsTold, IsTurnedAway, item, PassView, told}
use Rattle.psci_shared.proofs.Written.{board}

-- what an example unfolds to compute a reply
unfoldable computing : Unit {0}
unfolding values_of effect_of reply delivery_of reset_of wake_of history_of
computing = tt

-- a core is reset, and a core has a wake-up event that stopped in its start of this number
abbrev reset : ℕ → CtlCall
reset c = Reset (record { number = c })

abbrev wake : ℕ → ℕ → CtlCall
wake c halted = Wake (record { number = c }) halted

abbrev reset_to : ℕ → CtlReply
reset_to number =
    Kick (kicks.Started (record { life = 1; number = number; cause = causes.Reset }))

abbrev woken_to : ℕ → CtlReply
woken_to number = Kick (kicks.Started (record { life = 1; number = number; cause = causes.Wake }))

abbrev ignored : CtlReply
ignored = Kick kicks.Ignored

-- a Start of core 1 by the firmware of life 2, when there is life 1
abbrev deliver : CtlCall
deliver = Deliver (record {
  kind = kinds.Start;
  core = record { number = 1 };
  life = 2;
  number = 0;
  parts = [];
})

abbrev passed_over : CtlReply
passed_over = Delivery deliveries.Ignored

-- core 1 was reset twice
abbrev resets : ℕ → CtlEntry
resets number = entry number (reset 1) (reset_to number)

abbrev entries : List CtlEntry
entries = resets 1 ∷ resets 2 ∷ []

abbrev pass : List CtlItem → PassView
pass items = record { core = tt; room = 4; told_full = false; items = items; seen = tt }

-- A call -----------------------------------------------------------------------------------------

abbrev old : CtlItem
old = item 0 (reset 1) (reset_to 1)

so_it_is_answered : IsAnswered board (pass (old ∷ []))
    (pass (old ∷ item 2 (wake 1 2) (woken_to 3) ∷ [])) (wake 1 2) (woken_to 3)
unfolding computing
so_it_is_answered = (entries, ((refl, omega arith, (refl, omega arith, tt)), refl, refl))

-- a call of a pass without items once both resets were entered: its items then, and its reply
abbrev Answers : CtlCall → List CtlItem → CtlReply → Type 0
Answers call items reply = IsAnsweredAfter board entries (pass []) (pass items) call reply

answered_or_not :
    -- the first of all
    IsAnswered board (pass []) (pass (item 0 (reset 1) (reset_to 1) ∷ [])) (reset 1) (reset_to 1)
    -- a wake-up behind an item
    × IsAnsweredAfter board entries (pass (old ∷ [])) (pass (old ∷ item 2 (wake 1 2) (woken_to 3) ∷
    [])) (wake 1 2) (woken_to 3)
    -- so is a core that was started since, and a message of another life
    × Answers (wake 1 1) (item 2 (wake 1 1) ignored ∷ []) ignored
    × Answers deliver (item 2 deliver passed_over ∷ []) passed_over
    -- another reply: as with fewer entries, as with more, of another core
    × ¬ (Answers (reset 1) (item 2 (reset 1) (reset_to 2) ∷ []) (reset_to 2))
    × ¬ (Answers (reset 1) (item 2 (reset 1) (reset_to 4) ∷ []) (reset_to 4))
    × ¬ (Answers (reset 0) (item 2 (reset 0) (reset_to 3) ∷ []) (reset_to 3))
    × ¬ (Answers (wake 1 2) (item 2 (wake 1 2) ignored ∷ []) ignored)
    -- another place, another reply in the item, no item
    × ¬ (Answers (wake 1 2) (item 1 (wake 1 2) (woken_to 3) ∷ []) (woken_to 3))
    × ¬ (Answers (wake 1 2) (item 3 (wake 1 2) (woken_to 3) ∷ []) (woken_to 3))
    × ¬ (Answers (wake 1 2) (item 2 (wake 1 2) ignored ∷ []) (woken_to 3))
    × ¬ (Answers (wake 1 2) [] (woken_to 3))
    -- an item that is gone
    × ¬ (IsAnsweredAfter board entries (pass (old ∷ [])) (pass (item 2 (wake 1 2) (woken_to 3) ∷
    [])) (wake 1 2) (woken_to 3))
    -- the last of the entries before is not legal
    × ¬ (IsAnsweredAfter board (resets 1 ∷ resets 1 ∷ []) (pass []) (pass (item 2 (reset 1)
    (reset_to 3) ∷ [])) (reset 1) (reset_to 3))
unfolding computing
answered_or_not = search arith

-- Histories --------------------------------------------------------------------------------------

-- the last call of a book is the first of its history
last_call_first : history_of (entry 5 (wake 1 1) ignored ∷ resets 6 ∷ [])
    ≡ record { call = reset 1; reply = reset_to 6 }
    ∷ record { call = wake 1 1; reply = ignored } ∷ []
unfolding history_of
last_call_first = refl

-- the first reset is answered as the second; a wake-up as a message; a core that the board does not
-- have is reset
not_so : ¬ (IsTold board (resets 2 ∷ []))
    × ¬ (IsTold board (entry 0 (wake 1 0) passed_over ∷ []))
    × ¬ (IsTold board (entry 0 (reset 2) (reset_to 1) ∷ []))
unfolding computing
not_so = search arith

-- A book that is full ----------------------------------------------------------------------------

full_with_two : IsFull board 2 (told (pass []))
unfolding computing
full_with_two = (refl, (entries, ((refl, omega arith, (refl, omega arith, tt)), refl)))

-- what a call leaves then
abbrev full_book : BookView
full_book = record { entries = entries; room = 2 }

-- there is room for one more; the entry is not legal
abbrev illegal_book : BookView
illegal_book = record { entries = resets 2 ∷ []; room = 1 }

turned_or_not :
    ¬ (IsFull board 2 (pass []))
    × IsTurnedAway board 2 full_book full_book (pass []) (told (pass []))
    × ¬ (IsTurnedAway board 3 full_book full_book (pass []) (told (pass [])))
    × ¬ (IsTurnedAway board 1 illegal_book illegal_book (pass []) (told (pass [])))
unfolding computing
turned_or_not = search arith

-- Passes -----------------------------------------------------------------------------------------

pass_or_not :
    -- they are too many; memory lacks
    IsNoPass 1000 TooMany
    × IsNoPass 999 Memory
    × IsNoPass 0 Memory
    -- they are not too many; another reason comes first; no pass of a power controller is for a
    -- core
    × ¬ (IsNoPass 999 TooMany)
    × ¬ (IsNoPass 1000 Memory)
    × ¬ (IsNoPass 3 NoCore)
pass_or_not = search arith

-- What fits --------------------------------------------------------------------------------------

fit_or_not :
    Fits deliver passed_over
    × Fits (wake 3 1) ignored
    × Fits (reset 2) ignored
    × ¬ (Fits deliver ignored)
    × ¬ (Fits (wake 3 1) passed_over)
    × ¬ (Fits (reset 2) passed_over)
fit_or_not = search arith

-- A call that was entered ------------------------------------------------------------------------

-- what tells calls and replies apart
abbrev kind : CtlCall → ℕ
kind (Wake core halted) = halted
kind (Reset core) = 8
kind (Deliver message) = 9

abbrev pass_of : Bool → List CtlItem → PassView
pass_of told items = record { core = tt; room = 4; told_full = told; items = items; seen = tt }

abbrev third : CtlItem
third = item 3 (wake 3 1) ignored

abbrev new : CtlItem
new = item 7 (reset 2) ignored

called_or_not :
    IsCalled (pass_of false (third ∷ [])) (pass_of false (third ∷ new ∷ [])) (reset 2) ignored
    × ¬ (IsCalled (pass_of false (third ∷ [])) (pass_of false (new ∷ third ∷ [])) (reset 2) ignored)
    × ¬ (IsCalled (pass_of false []) (pass_of false []) (reset 2) ignored)
    × ¬ (IsCalled (pass_of false []) (pass_of true (new ∷ [])) (reset 2) ignored)
    × ¬ (IsCalled (pass_of false []) (pass_of false (new ∷ [])) (wake 3 5) ignored)
    × ¬ (IsCalled (pass_of false []) (pass_of false (new ∷ [])) (reset 2) passed_over)
called_or_not = search arith
