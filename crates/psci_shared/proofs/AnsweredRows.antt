-- Worked examples of how a call through a pass was answered or refused, and of a book that is full.
use Rattle.std.proofs.Common.{◌∷◌, [], arith, false, List, None, pos}
use Rattle.std.proofs.Common.{refl, Some, true, ℕ}
use Rattle.psci_fw.specs.psci_board.Board.{core_of}
use Rattle.psci_fw.specs.psci_fw_spec.Effects.{after}
use Rattle.psci_fw.specs.psci_fw_spec.Answer.{answer, enter_outcome, outcome_of}
use Rattle.psci_fw.specs.psci_fw_spec.PowerCalls.{target_of}
use Rattle.psci_fw.specs.psci_fw_spec.History.{values_of}
use Rattle.psci_fw.specs.psci_fw_spec.Statuses.{statuses}
use Rattle.psci_fw.specs.psci_fw_spec.declared.call.FwCall.{FwCall}
use Rattle.psci_fw.specs.psci_fw_spec.declared.call.FwCall.TheVariants.{Smc, Enter, Take}
use Rattle.psci_fw.specs.psci_fw_spec.declared.fault.FwFault.TheVariants.{NoLife, NotRunning}
use Rattle.psci_fw.specs.psci_fw_spec.declared.outcome.Act.TheVariants as acts
use Rattle.psci_fw.specs.psci_fw_spec.declared.reply.FwReply.{FwReply}
use Rattle.psci_fw.specs.psci_fw_spec.declared.reply.FwReply.TheVariants.{Out, Taken, Fault}
use Rattle.psci_fw.specs.psci_fw_spec.declared.status.Status.TheVariants.{On, Off, Pending}
use Rattle.psci_messages.specs.declared.kind.Kind.TheVariants as kinds
use Rattle.psci_messages.specs.declared.start.Cause.TheVariants.{Boot}
use Rattle.psci_messages.specs.declared.taken.Taken.TheVariants as takens
use Rattle.psci_messages.specs.Outstanding.{changes_since, last_message, outstanding}
use Rattle.psci_status.specs.Lists.{Item, Within}
use Rattle.psci_shared.specs.Places.{Fill, FwEntry, FwItem, item, told}
use Rattle.psci_shared.specs.Passes.{AllLast, BookView, entry, history_of, IsAnsweredAfter}
use Rattle.psci_shared.specs.Passes.{IsAnsweredFault, IsFull, IsTold, PassView, Stand}
use Rattle.psci_shared.proofs.Written.{board}
use Rattle.psci_shared.specs.declared.fault.CallFault.TheVariants.{BookFull, Fw}
use Rattle.psci_shared.specs.Locked.{IsTurnedAway}

-- what an example unfolds to compute an answer, and the statuses after it
unfoldable pub computing : Unit {0}
unfolding answer values_of after outcome_of enter_outcome target_of core_of outstanding last_message
    changes_since statuses history_of
computing = tt

-- the boot core enters in a life
abbrev pub starts : ℕ → FwCall
starts life = Enter (record { life = life; number = 1; cause = Boot })

abbrev pub boots : FwReply
boots = Out (record { act = acts.Enter 0 0; message = None })

abbrev pub enters : ℕ → FwEntry
enters life = entry life (record { number = 0 }) (starts life) boots

-- CPU_ON of core 1; it was never started in life 1
abbrev pub on : FwCall
on = Smc (record { x0 = 0x84000003; x1 = 1; x2 = 0; x3 = 0 })

abbrev pub accepted : FwReply
accepted = Out (record {
  act = acts.Return (record { 0 = pos 0 });
  message = Some (record {
    kind = kinds.Start;
    core = record { number = 1 };
    life = 1;
    number = 0;
    parts = [];
  });
})

abbrev pub version : FwCall
version = Smc (record { x0 = 0x84000000; x1 = 0; x2 = 0; x3 = 0 })

abbrev pub version_told : FwReply
version_told = Out (record { act = acts.Return (record { 0 = pos 0x10001 }); message = None })

-- an acknowledgement of a Down that was never sent
abbrev pub take : FwCall
take = Take (record {
  kind = kinds.Down;
  core = record { number = 1 };
  life = 1;
  number = 1;
  applied = 1;
  stale = false;
})

abbrev pub was_old : FwReply
was_old = Taken takens.Old

-- a pass of a core
abbrev pub pass : ℕ → List FwItem → List (List Item) → PassView
pass n items seen = record {
  core = record { number = n };
  room = 4;
  told_full = false;
  items = items;
  seen = seen;
}

abbrev pub fresh : ℕ → PassView
fresh n = pass n [] (((0, Off) ∷ []) ∷ ((0, Off) ∷ []) ∷ [])

-- Core 0 asks core 1 on, in life 1 ---------------------------------------------------------------

abbrev pub booted : List FwEntry
booted = enters 1 ∷ []

-- what a pass has then seen that had missed that core 0 was pending
abbrev pub seen_on : List (List Item)
seen_on = ((2, On) ∷ (0, Off) ∷ []) ∷ ((1, Pending) ∷ (0, Off) ∷ []) ∷ []

-- what tells replies apart: an outcome that sends, one that does not, what was taken, a fault
abbrev pub kind : FwReply → ℕ
kind (Out outcome) = elim outcome.message [ None ↦ 1 | Some m ↦ 2 ]
kind (Taken taken) = 3
kind (Fault NoLife) = 4
kind (Fault NotRunning) = 5
kind (Fault fault) = 6

-- a pass has seen what core 1 never was, or of core 0 what came by another serial
never_on : Within (Pending ∷ Off ∷ []) ((1, On) ∷ []) → ⊥
never_on = search arith

-- the serial of the last item
abbrev last : List Item → ℕ
last [] = 9
last (i ∷ is) = i.0

-- core 0 asks core 1 on once it has entered, and is answered so: its items, and what it has seen
abbrev Answers : List FwItem → List (List Item) → FwReply → Type 0
Answers items seen reply =
    IsAnsweredAfter board booted 5 (fresh 0) (pass 0 items seen) on reply

other_answers :
    -- another reply than the answer; one that is the answer before the entries
    ¬ (Answers (item 1 on boots ∷ []) seen_on boots)
    × ¬ (Answers (item 1 on (Fault NoLife) ∷ []) seen_on (Fault NoLife))
    -- the item has another place, another reply, or is not there
    × ¬ (Answers (item 0 on accepted ∷ []) seen_on accepted)
    × ¬ (Answers (item 2 on accepted ∷ []) seen_on accepted)
    × ¬ (Answers (item 1 on boots ∷ []) seen_on accepted)
    × ¬ (Answers [] seen_on accepted)
    -- a pass has seen what core 1 never was, or of core 0 what came by another serial
    × ¬ (Answers (item 1 on accepted ∷ []) (((2, On) ∷ []) ∷ ((1, On) ∷ []) ∷ []) accepted)
    × ¬ (Answers (item 1 on accepted ∷ []) (((2, On) ∷ (1, Off) ∷ []) ∷ ((1, Pending) ∷ []) ∷ [])
    accepted)
    -- a pass has not seen what the call made of its target; or what its caller is
    × ¬ (Answers (item 1 on accepted ∷ []) (((2, On) ∷ (0, Off) ∷ []) ∷ ((0, Off) ∷ []) ∷ [])
    accepted)
    × ¬ (Answers (item 1 on accepted ∷ [])
    (((1, Pending) ∷ (0, Off) ∷ []) ∷ ((1, Pending) ∷ (0, Off) ∷ []) ∷ []) accepted)
unfolding computing
other_answers = search arith

-- Core 1 is refused, in life 2 -------------------------------------------------------------------

abbrev twice : List FwEntry
twice = enters 1 ∷ enters 2 ∷ []

abbrev refused : List FwEntry
refused = enters 1 ∷ enters 2 ∷ entry 7 (record { number = 1 }) version (Fault NotRunning) ∷ []

abbrev seen_twice : List (List Item)
seen_twice = ((4, On) ∷ (2, On) ∷ []) ∷ ((0, Off) ∷ []) ∷ []

refused_stands : Stand board refused seen_twice
unfolding computing
refused_stands = search arith

refused_is_last : AllLast board refused seen_twice
unfolding computing
refused_is_last = search arith

-- behind an item that the pass has
abbrev item_0 : FwItem
item_0 = item 0 take was_old

core_1_is_refused : IsAnsweredFault board 9 (pass 1 (item_0 ∷ []) [])
    (pass 1 (item_0 ∷ item 2 version (Fault NotRunning) ∷ []) seen_twice) version (Fw NotRunning)
unfolding computing
core_1_is_refused = (twice, 7, ((refl, (refl, tt)), refl, refl, refused_stands, refused_is_last))

-- After no history -------------------------------------------------------------------------------

abbrev seen_entry : List (List Item)
seen_entry = ((2, On) ∷ (1, Pending) ∷ (0, Off) ∷ []) ∷ ((0, Off) ∷ []) ∷ []

-- the entries before tell no legal history: a version was told before any life
abbrev early : FwEntry
early = entry 0 (record { number = 0 }) version version_told

answered_or_not :
    IsAnsweredAfter board booted 5 (fresh 0) (pass 0 (item 1 on accepted ∷ []) seen_on) on accepted
    × ¬ (IsAnsweredAfter board booted 5 (pass 0 (item 0 (starts 1) boots ∷ []) []) (pass 0 (item 1
    on accepted ∷ []) seen_on) on accepted)
    -- the caller counts, and not core 0
    × ¬ (IsAnsweredAfter board twice 7 (pass 1 (item_0 ∷ []) []) (pass 1 (item_0 ∷ item 2 version
    version_told ∷ []) seen_twice) version version_told)
    × ¬ (IsAnsweredAfter board (early ∷ []) 1 (fresh 0) (pass 0 (item 1 (starts 1) boots ∷ [])
    seen_entry) (starts 1) boots)
unfolding computing
answered_or_not = search arith

-- A book that is full ----------------------------------------------------------------------------

abbrev told_pass : PassView
told_pass = told (fresh 1)

full_with_two : IsFull board 2 told_pass
unfolding computing
full_with_two = (refl, (twice, ((refl, (refl, tt)), refl)))

-- there is room for one more, or there was for one less; the entries are not legal
do_not_fill : ¬ (Fill (IsTold board) 3 twice) × ¬ (Fill (IsTold board) 1 twice)
    × ¬ (Fill (IsTold board) 1 (early ∷ []))
unfolding computing
do_not_fill = search arith

refused_or_not :
    -- what the firmware refuses is entered as well
    ¬ (IsAnsweredFault board 9 (pass 1 (item_0 ∷ []) []) (pass 1 (item_0 ∷ []) []) version (Fw
    NotRunning))
    -- nobody told the pass; it was told before, and not by this call
    × ¬ (IsFull board 2 (fresh 1))
    × ¬ (IsAnsweredFault board 2 told_pass (fresh 1) version BookFull)
refused_or_not = search arith

abbrev book_of : ℕ → BookView
book_of room = record { entries = twice; room = room }

turned_or_not :
    -- what a call leaves then; the pass is told, the book stays, and it was full
    IsTurnedAway board 2 (book_of 2) (book_of 2) (fresh 1) (record (fresh 1) { told_full = true })
    × ¬ (IsTurnedAway board 3 (book_of 3) (book_of 3) (fresh 1) (record (fresh 1) {
      told_full = true;
    }))
    × ¬ (IsTurnedAway board 2 (book_of 2) (book_of 1) (fresh 1) (record (fresh 1) {
      told_full = true;
    }))
unfolding computing
turned_or_not = search arith
