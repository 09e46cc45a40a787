-- Worked examples of what is written of each core, and of what a poll answers; of a run of a pass:
-- calls and polls, what it keeps of what it saw, that this stands in the history, and why no pass
-- is made.
use Rattle.std.proofs.Common.{◌∷◌, [], arith, false, inl, inr}
use Rattle.std.proofs.Common.{List, negsuc, None, pos, refl, Some}
use Rattle.std.proofs.Common.{ℕ}
use Rattle.psci_fw.specs.psci_fw_spec.declared.call.FwCall.{FwCall}
use Rattle.psci_fw.specs.psci_fw_spec.declared.call.FwCall.TheVariants.{Enter, Smc}
use Rattle.psci_fw.specs.psci_fw_spec.declared.fault.FwFault.TheVariants.{NoLife, OldStart}
use Rattle.psci_fw.specs.psci_fw_spec.declared.reply.FwReply.TheVariants.{Fault, Out}
use Rattle.psci_fw.specs.psci_fw_spec.declared.status.Status.{Status}
use Rattle.psci_fw.specs.psci_fw_spec.declared.status.Status.TheVariants.{On, Off, Pending}
use Rattle.psci_fw.specs.psci_fw_spec.Statuses.{statuses}
use Rattle.psci_messages.specs.declared.start.Cause.TheVariants.{Wake, Boot}
use Rattle.psci_status.specs.Lists.{Item, row}
use Rattle.psci_shared.specs.Passes.{AllLast, AreInHistory, entry, Goes, history_of, IsAffinity}
use Rattle.psci_shared.specs.Passes.{IsAmong, IsFirst, IsInHistory, IsNoPass, IsOneOf, IsPolled}
use Rattle.psci_shared.specs.Passes.{IsRead, IsStep, IsWritten, PassView, Stand}
use Rattle.psci_shared.specs.Places.{FwEntry, FwItem, item, told}
use Rattle.psci_shared.specs.declared.fault.PassFault.TheVariants.{NoCore, TooMany, Memory}
use Rattle.psci_shared.specs.declared.sighting.Sighting.{Sighting}
use Rattle.psci_shared.proofs.Written.{board}
use Rattle.psci_fw.specs.psci_abi.declared.registers.Code.{Code}
use Rattle.psci_fw.specs.psci_board.Board.{core_of}
use Rattle.psci_fw.specs.psci_fw_spec.declared.outcome.Act.TheVariants as acts
use Rattle.psci_messages.specs.declared.kind.Kind.TheVariants.{Start}
use Rattle.psci_messages.specs.Message.{MessageValue}

-- the Start of a core that was never on
abbrev start_of : ℕ → MessageValue
start_of c = record {
  kind = Start;
  core = record { number = c };
  life = 1;
  number = 0;
  parts = [];
}

abbrev entries : List FwEntry
entries =
    entry 1 (record { number = 0 }) (Enter (record { life = 1; number = 1; cause = Boot }))
    (Out (record { act = acts.Enter 0 0; message = None })) ∷ []

-- What is written --------------------------------------------------------------------------------

written_or_not :
    IsWritten board ((On ∷ Pending ∷ Off ∷ []) ∷ (Off ∷ []) ∷ []) entries
    -- the status at the life's start is not written; nothing is; nothing is said of core 1
    × ¬ (IsWritten board ((On ∷ Off ∷ []) ∷ (Off ∷ []) ∷ []) entries)
    × ¬ (IsWritten board ((Off ∷ []) ∷ (Off ∷ []) ∷ []) entries)
    × ¬ (IsWritten board ((On ∷ Pending ∷ Off ∷ []) ∷ []) entries)
unfolding statuses history_of
written_or_not = search arith

-- the same, and core 0 asks core 1 on
abbrev pub asked_on : List FwEntry
asked_on =
    entry 1 (record { number = 0 }) (Enter (record { life = 1; number = 1; cause = Boot }))
    (Out (record { act = acts.Enter 0 0; message = None }))
    ∷ entry 2 (record { number = 0 }) (Smc (record { x0 = 0x84000003; x1 = 1; x2 = 0; x3 = 0 }))
    (Out (record { act = acts.Return (record { 0 = pos 0 }); message = Some (start_of 1) })) ∷ []

-- What a pass has seen ---------------------------------------------------------------------------

-- a pass that has missed ON_PENDING
seen : Stand board entries (((2, On) ∷ (0, Off) ∷ []) ∷ ((0, Off) ∷ []) ∷ [])
unfolding statuses history_of
seen = search arith

seen_or_not :
    AllLast board entries (((2, On) ∷ (0, Off) ∷ []) ∷ ((0, Off) ∷ []) ∷ [])
    × ¬ (AllLast board entries (((1, Pending) ∷ []) ∷ ((0, Off) ∷ []) ∷ []))
    × ¬ (Stand board entries (((0, Off) ∷ (2, On) ∷ []) ∷ []))
unfolding statuses history_of
seen_or_not = search arith

-- What a poll is answered ------------------------------------------------------------------------

abbrev saw : List (List Item) → PassView
saw seen =
    record { core = record { number = 0 }; room = 4; told_full = false; items = []; seen = seen }

abbrev before : PassView
before = saw (((0, Off) ∷ []) ∷ ((0, Off) ∷ []) ∷ [])

-- the number of a status, or 9
abbrev pub status_in : Code → ℕ
status_in code = elim code.0 [ pos n ↦ n | negsuc n ↦ 9 ]

read_or_not :
    -- of core 1, of which it has seen less than of core 0
    IsAffinity (Some (record { number = 1 })) (saw (((2, On) ∷ []) ∷ ((0, Off) ∷ []) ∷ [])) (saw
    (((2, On) ∷ []) ∷ ((1, Pending) ∷ (0, Off) ∷ []) ∷ [])) (record { 0 = pos 2 })
    -- the serials do not rise
    × ¬ (IsRead (saw (((1, Off) ∷ (3, On) ∷ []) ∷ [])) (saw (((1, Off) ∷ (3, On) ∷ []) ∷ [])) 0 Off)
    -- the word names no core
    × IsAffinity None before before (record { 0 = negsuc 1 })
    -- then nothing was read, and no status is answered
    × ¬ (IsAffinity None before (saw (((1, Pending) ∷ (0, Off) ∷ []) ∷ ((0, Off) ∷ []) ∷ []))
    (record { 0 = negsuc 1 }))
    × ¬ (IsAffinity None before before (record { 0 = pos 1 }))
    -- another status than the last that was seen
    × ¬ (IsRead before before 0 On)
    × ¬ (IsRead before (saw (((1, On) ∷ (0, Off) ∷ []) ∷ ((1, On) ∷ (0, Off) ∷ []) ∷ [])) 0 On)
read_or_not = search arith

-- Calls and polls --------------------------------------------------------------------------------

abbrev pass : List FwItem → List (List Item) → PassView
pass items seen =
    record { core = record { number = 0 }; room = 4; told_full = false; items = items; seen = seen }

abbrev enter_anew : FwCall
enter_anew = Enter (record { life = 2; number = 4; cause = Wake })

abbrev refused : FwItem
refused = item 7 enter_anew (Fault NoLife)

among_or_not :
    IsAmong (1, Pending) ((1, Pending) ∷ (0, Off) ∷ [])
    × IsAmong (0, Off) ((1, Pending) ∷ (0, Off) ∷ [])
    -- another status by that serial
    × ¬ (IsAmong (0, On) ((0, Off) ∷ []))
among_or_not = search arith

-- one call, in which it sees an item more; the call is forgotten
one_call : Goes board (pass [] (((0, Off) ∷ []) ∷ []))
    (pass (refused ∷ []) (((1, On) ∷ (0, Off) ∷ []) ∷ []) ∷ [])
    (pass (refused ∷ []) (((1, On) ∷ (0, Off) ∷ []) ∷ []))
one_call = (inl (enter_anew, Fault NoLife, (7, ((1, On) ∷ []) ∷ [], refl)), refl)

pass_or_not :
    -- no pass: of core 2, which the board has not, also once there are too many; of core 1 for want
    -- of memory; of core 0 since there are too many
    IsNoPass board 3 (record { number = 2 }) NoCore
    × IsNoPass board 1000 (record { number = 2 }) NoCore
    × IsNoPass board 999 (record { number = 1 }) Memory
    × IsNoPass board 1000 (record { number = 0 }) TooMany
    -- core 1 is there; there are not too many; another reason comes first
    × ¬ (IsNoPass board 3 (record { number = 1 }) NoCore)
    × ¬ (IsNoPass board 999 (record { number = 0 }) TooMany)
    × ¬ (IsNoPass board 1000 (record { number = 2 }) TooMany)
    × ¬ (IsNoPass board 1000 (record { number = 1 }) Memory)
    × ¬ (IsNoPass board 3 (record { number = 2 }) Memory)
pass_or_not = search arith

-- a new pass of core 1: it has no item, was told nothing and has room for four
first_of_core_1 : IsFirst (record { number = 1 }) 4
    (record { core = record { number = 1 }; room = 4; told_full = false; items = []; seen = [] })
first_of_core_1 = refl

no_first_pass :
    ¬ (IsFirst (record { number = 0 }) 4 (record (pass [] []) { core = record { number = 1 } }))
    × ¬ (IsFirst (record { number = 0 }) 4 (pass (refused ∷ []) []))
    × ¬ (IsFirst (record { number = 0 }) 5 (pass [] []))
    × ¬ (IsFirst (record { number = 0 }) 4 (told (pass [] [])))
no_first_pass = search arith

-- what a poll saw --------------------------------------------------------------------------------

abbrev of : ℕ → ℕ → Status → Sighting
of core serial status = record { core = record { number = core }; serial = serial; status = status }

polled_or_not :
    -- core 1 is asked on, and the pass has seen that
    IsPolled (Some (record { number = 1 })) (pass [] ([] ∷ ((0, Off) ∷ []) ∷ [])) (pass [] ([] ∷
    ((1, Pending) ∷ (0, Off) ∷ []) ∷ [])) (Some (of 1 1 Pending))
    -- the poll saw nothing
    × ¬ (IsPolled (Some (record { number = 1 })) (pass [] ([] ∷ ((0, Off) ∷ []) ∷ [])) (pass [] ([]
    ∷ ((1, Pending) ∷ (0, Off) ∷ []) ∷ [])) None)
    -- the word names no core
    × IsPolled None (pass [] []) (pass [] []) None
    × ¬ (IsPolled None (pass [] []) (pass [] []) (Some (of 1 0 Off)))
polled_or_not = search arith

in_history_or_not :
    -- before any entry each core is OFF, of which there are two
    AreInHistory board [] (of 1 0 Off ∷ of 0 0 Off ∷ [])
    × ¬ (IsInHistory board [] (of 1 0 On))
    × ¬ (AreInHistory board [] (of 0 0 Off ∷ of 2 0 Off ∷ []))
unfolding statuses history_of
in_history_or_not = search arith

-- A run ------------------------------------------------------------------------------------------

abbrev off : Item
off = (0, Off)

abbrev pending : Item
pending = (1, Pending)

abbrev on : Item
on = (2, On)

-- an entry whose start is over, as the third call
abbrev enter : FwCall
enter = Enter (record { life = 1; number = 1; cause = Boot })

-- a pass before any call; once it has polled core 1, which was asked on; and once it has called
abbrev new : PassView
new = pass [] ((off ∷ []) ∷ (off ∷ []) ∷ [])

abbrev polled : PassView
polled = pass [] ((off ∷ []) ∷ (pending ∷ off ∷ []) ∷ [])

abbrev called : PassView
called = pass (item 2 enter (Fault OldStart) ∷ []) ((on ∷ off ∷ []) ∷ (pending ∷ off ∷ []) ∷ [])

abbrev code : ℕ → Code
code n = record { 0 = pos n }

-- core 1 is ON_PENDING, of which it had seen OFF; and so it is later, and nothing new is seen
poll_of_core_1 : IsAffinity (Some (record { number = 1 })) new polled (code 2)
poll_of_core_1 = search arith

poll_again : IsAffinity (Some (record { number = 1 })) (told called) (told called) (code 2)
poll_again = search arith

-- a poll of core 1, a call, one refused since the book is full, a poll of a word that names no
-- core, and one by which nothing new is seen
run_of_polls : Goes board new
    (polled ∷ called ∷ told called ∷ told called ∷ told called ∷ []) (told called)
unfolding core_of
run_of_polls = (
  inr (inr (1, code 2, poll_of_core_1)),
  (
    inl (enter, Fault OldStart, (2, (on ∷ []) ∷ [], refl)),
    (
      inr (inl refl),
      (
        inr (inr (2, record { 0 = negsuc 1 }, (refl, refl))),
        (
          inr (inr (1, code 2, poll_again)),
          refl,
        ),
      ),
    ),
  ),
)

-- What is kept -----------------------------------------------------------------------------------

polled_is_kept : IsAmong pending (row (told called).seen 1) × IsAmong off (row (told called).seen 1)
polled_is_kept = search arith

not_on_the_way :
    ¬ (Goes board (pass (refused ∷ []) []) [] (pass [] []))
    -- by no poll is it forgotten, whatever the word names, nor by a call, or as the pass is told
    × ¬ (IsStep board polled new)
    × ¬ (Goes board polled (new ∷ polled ∷ []) polled)
not_on_the_way = search arith

-- What was answered ------------------------------------------------------------------------------

-- what is said of core 1 and of core 0, each last and earlier
answered : IsOneOf board asked_on 1 Pending × IsOneOf board asked_on 1 Off
    × IsOneOf board asked_on 0 On × IsOneOf board asked_on 0 Pending
unfolding statuses history_of core_of
answered = (
  (1, inl (refl, refl)),
  (0, inr (inl (refl, refl))),
  (2, inl (refl, refl)),
  (1, inr (inl (refl, refl))),
)

not_answered :
    -- core 1 was never ON, though core 0 was
    ¬ (IsOneOf board asked_on 1 On)
    -- ON is not what a poll answers that saw ON_PENDING
    × ¬ (IsAffinity (Some (record { number = 1 })) new polled (code 0))
unfolding statuses history_of core_of
not_answered = search arith
