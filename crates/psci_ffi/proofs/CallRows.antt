-- Worked examples: what a call and an acknowledgement from C are answered and leave in a place,
-- what an opening leaves, and the wrong things that none of them leaves.
use Rattle.std.specs.Prelude.{Err, None, Ok, Result, Some, replicate}
use Rattle.std.proofs.Common.{◌<◌, ◌∙◌, ◌∷◌, ◌≡◌, Bool, List, [], ap, false, refl, subst, sym, true}
use Rattle.std.proofs.Common.{ℕ}
use Rattle.psci_board.specs.Board.{BoardValue, cores}
use Rattle.psci_board.specs.declared.fault.BoardFault.{BoardFault}
use Rattle.psci_board.specs.declared.fault.BoardFault.TheVariants.{Memory, TooWide, Uneven}
use Rattle.psci_fw.specs.Reactions.{FirmwareValue, seen}
use Rattle.psci_fw_spec.specs.declared.call.FwCall.{FwCall}
use Rattle.psci_fw_spec.specs.declared.reply.FwReply.{FwReply}
use Rattle.psci_fw_spec.specs.Answer.{answer}
use Rattle.psci_fw_spec.specs.History.{values_of}
use Rattle.psci_fw_spec.specs.Values.{Values}
use Rattle.psci_link.specs.declared.encoding.Frame.TheVariants.{Ack, Message}
use Rattle.psci_link.specs.Frame.{first_fault, frame_bytes}
use Rattle.psci_messages.specs.declared.kind.Kind.TheVariants.{Start}
use Rattle.psci_messages.specs.Message.{AckValue, MessageValue}
use Rattle.psci_status.specs.Lists.{PolledView}
use Rattle.psci_status.proofs.CallSteps.{Step, asks, board, boots, computing, history, on}
use Rattle.psci_ffi.specs.Namings.{PlaceValue}
use Rattle.psci_ffi.specs.Frames.{IsAcknowledged, IsFaulty, IsMisplaced, IsRead, IsTaken, IsTakenBy}
use Rattle.psci_ffi.specs.Frames.{IsTakenIn}
use Rattle.psci_ffi.specs.Shown.{IsAfter, IsNewOn, IsNextIn, IsSameIf, IsSameRefused, Opens}
use Rattle.psci_ffi.specs.Slots.{Kept}
use Rattle.psci_ffi.proofs.ControlDone.{apart-by, itself}

abbrev values : List Step → Values
values steps = values_of board (history steps)

-- core 0 runs, the others are off
abbrev booted : Values
booted = values (boots 1 ∷ [])

abbrev version : FwCall
version = (asks 0 0x84000000 0).call

abbrev on-3 : FwCall
on-3 = (on 0 0x101).call

-- a place that holds a firmware, and one that does not
abbrev full : Kept → ℕ
full None = 0
full (Some p) = 1

-- What a call is answered ---------------------------------------------------------------------

-- what is said of a firmware that has booted
of : {A : Type 0} (said : BoardValue → Values → A) (f : FirmwareValue) → f.board ≡ board
    → seen f ≡ booted → said f.board (seen f) ≡ said board booted
of said f is was = ap (λ b. said b (seen f)) is ∙ ap (said board) was

-- What a call leaves --------------------------------------------------------------------------

leaves : (k : Kept) (p q : PlaceValue) → IsAfter k 0 None k × IsAfter None 0 (Some version) None
    × (IsNextIn p 0 on-3 q → IsAfter (Some p) 0 (Some on-3) (Some q))
    × (IsAfter (Some p) 0 (Some on-3) (Some q) → IsNextIn p 0 on-3 q)
leaves k p q = (refl, refl, λ h. h, λ h. h)

-- a place that no call was made of, or of which it was empty; and one whose firmware is lost
leaves-not : (p : PlaceValue) → ¬ (IsAfter (Some p) 0 None None)
    × ¬ (IsAfter None 0 (Some version) (Some p)) × ¬ (IsAfter (Some p) 0 (Some version) None)
leaves-not p = (λ h. apart-by full h refl, λ h. apart-by full h refl, λ h. h)

-- Refusals ------------------------------------------------------------------------------------

-- a call of core 2, which is off, leaves all as it was; a call of core 0 need not
refused-and-emptied : (p : PlaceValue) → p.polled.firmware.board ≡ board
    → seen p.polled.firmware ≡ booted
    → IsSameRefused (Some p) 2 (Some on-3) None → ⊥
unfolding computing
refused-and-emptied p is was h =
    let same : IsSameIf (answer board booted 2 on-3) (Some p) None =
    subst (λ (r : FwReply). IsSameIf r (Some p) None)
    (of (λ b v. answer b v 2 on-3) p.polled.firmware is was) h in apart-by full same refl

-- Opening -------------------------------------------------------------------------------------

opens : (k : Kept) (p : PlaceValue) → (IsNewOn board p → Opens (Ok tt) (Ok board) k (Some p))
    × (Opens (Ok tt) (Ok board) k (Some p) → IsNewOn board p)
    × Opens (Err Memory) (Ok board) k k × Opens (Err Uneven) (Err Uneven) k k
opens k p = (λ h. h, λ h. h, (refl, refl), (refl, refl))

-- nothing is opened, where nothing is left
opens-nothing : Opens (Ok tt) (Ok board) None None → ⊥
opens-nothing h = h

-- which fault, by a number
abbrev which : Result BoardValue BoardFault → ℕ
which (Ok b) = 0
which (Err Uneven) = 1
which (Err TooWide) = 2
which (Err fault) = 3

abbrev truth : Bool → ℕ
truth true = 1
truth false = 0

opens-not : (k l : Kept) (p : PlaceValue) → ¬ (Opens (Ok tt) (Ok board) k None)
    × ¬ (Opens (Ok tt) (Err Uneven) k l)
    × ¬ (Opens (Err Memory) (Ok board) None (Some p))
    × ¬ (Opens (Err Memory) (Ok board) (Some p) None)
    -- a fault of the text comes before memory
    × ¬ (Opens (Err Memory) (Err Uneven) k k)
    -- another fault, and none
    × ¬ (Opens (Err Uneven) (Err TooWide) k k)
    × ¬ (Opens (Err Uneven) (Ok board) k k)
    × ¬ (Opens (Err Uneven) (Err Uneven) (Some p) None)
opens-not k l p = (
  λ h. h,
  λ h. h,
  λ h. apart-by full h.1 refl,
  λ h. apart-by full h.1 refl,
  λ h. apart-by truth h.0 refl,
  λ h. apart-by which h.0 refl,
  λ h. apart-by which h.0 refl,
  λ h. apart-by full h.1 refl,
)

-- Acknowledgements ----------------------------------------------------------------------------

-- core 3 is to be started
abbrev start : MessageValue
start = record { kind = Start; core = record { number = 3 }; life = 1; number = 1; parts = [] }

abbrev ack : AckValue
ack = record {
  kind = Start;
  core = record { number = 3 };
  life = 1;
  number = 1;
  applied = 1;
  stale = false;
}

abbrev spelled : ℕ → ℕ → List ℕ
spelled kind count =
    0x50 ∷ 0x44 ∷ kind ∷ 3 ∷ 0 ∷ 0 ∷ 0 ∷ 1 ∷ 0 ∷ 0 ∷ 0 ∷ 1 ∷ count ∷ replicate 40 0

empty-place-takes : IsTakenIn None (spelled 18 1) 16 None
empty-place-takes = (refl, refl)

takes-not : (p : PlaceValue) (bytes : List ℕ) (code : ℕ) → ¬ (IsTakenIn None (spelled 18 1) 0 None)
    × ¬ (IsTakenIn None (spelled 18 1) 16 (Some p)) × ¬ (IsTakenIn (Some p) bytes code None)
takes-not p bytes code = (λ h. apart-by itself h.0 refl, λ h. apart-by full h.1 refl, λ h. h)

-- no byte is a frame of the wrong length, on every board
no-bytes : (p q : PolledView) → IsFaulty [] 33 p p × ¬ (IsFaulty [] 0 p p)
    × (IsFaulty [] 33 p q → q ≡ p)
unfolding first_fault
no-bytes p q = ((refl, refl), λ h. apart-by itself h.0 refl, λ h. h.1)

-- the frame of a message is refused by its own number, and nothing changes; an acknowledgement is
-- taken; and what is read is spelled so, of a core of the board
reads : (p q : PlaceValue) (bytes : List ℕ) (code : ℕ)
    → (IsTakenIn (Some p) bytes code (Some q) → IsTakenBy p bytes code q)
    × (IsRead p.polled bytes (Message start) → IsMisplaced start bytes code p.polled q.polled
    → (code ≡ 41) × (q.polled ≡ p.polled))
    × (IsRead p.polled bytes (Ack ack) → IsAcknowledged ack bytes code p.polled q.polled
    → IsTaken ack code p.polled q.polled)
    × (IsRead p.polled bytes (Message start) → bytes ≡ frame_bytes (Message start))
    × (IsRead p.polled bytes (Message start) → 3 < cores p.polled.firmware.board)
reads p q bytes code = (λ h. h, λ read h. h read, λ read h. h read, λ h. sym h.2, λ h. h.1.0)
