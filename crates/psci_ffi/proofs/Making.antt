-- What is made of a machine that C gives, and what an opening leaves, by what was said on the way.
use Rattle.std.specs.Prelude.{Err, Ok, Result, slice_get}
use Rattle.std.proofs.Common.{◌+◌, ◌==◌, ◌∙◌, ◌∷◌, ◌≡◌, ◌≤◌, List, None, Some, [], ap, arith, false}
use Rattle.std.proofs.Common.{length, nat_le, refl, suc, sym, take, true, zero, ℕ}
use Rattle.std.proofs.lemmas.Bool.{and_from, and_parts, eqb-true, leb-true}
use Rattle.std.proofs.lemmas.Option.{none-some, same_Some}
use mathlib.Core.Path.{subst}
use Rattle.psci_board.specs.Board.{BoardValue, height}
use Rattle.psci_board.specs.Verdict.{Answers}
use Rattle.psci_board.specs.declared.fault.BoardFault.{BoardFault}
use Rattle.psci_board.specs.declared.fault.BoardFault.TheVariants as boards
use Rattle.psci_messages.specs.Message.{AckValue, ArePartsOf, IsMessage, MessageValue, is_climbing}
use Rattle.psci_messages.specs.declared.kind.Kind.{Kind}
use Rattle.psci_messages.specs.declared.kind.Kind.TheVariants as kinds
use Rattle.psci_messages.specs.declared.part.Part.{Part}
use Rattle.psci_messages.specs.declared.taken.Taken.{Taken}
use Rattle.psci_messages.specs.declared.taken.Taken.TheVariants.{Old}
use Rattle.psci_link.specs.Frame.{IsOf, is_within}
use Rattle.psci_link.specs.declared.encoding.Frame.{Frame}
use Rattle.psci_link.specs.declared.encoding.Frame.TheVariants as frames
use Rattle.psci_ctl_spec.specs.Replies.{effect_of}
use Rattle.psci_ctl_spec.specs.History.{IsOfBoard}
use Rattle.psci_fw_spec.specs.Effects.{after}
use Rattle.psci_fw_spec.specs.Answer.{answer}
use Rattle.psci_fw_spec.specs.Values.{Values, taken_by}
use Rattle.psci_fw_spec.specs.declared.call.FwCall.TheVariants as calls
use Rattle.psci_fw_spec.specs.declared.reply.FwReply.{FwReply}
use Rattle.psci_fw_spec.specs.declared.reply.FwReply.TheVariants as replies
use Rattle.psci_fw.specs.Reactions.{seen}
use Rattle.psci_platform.specs.Cores.{boot_place}
use Rattle.psci_platform.specs.Described.{DescriptionValue}
use Rattle.psci_platform.specs.Faults.{fault_of}
use Rattle.psci_platform.specs.Platforms.{PlatformValue}
use Rattle.psci_platform.specs.declared.fault.PlatformFault.{PlatformFault}
use Rattle.psci_status.specs.Lists.{IsNext, PolledView}
use Rattle.psci_ffi.specs.Codes.{taken_code}
use Rattle.psci_ffi.specs.Frames.{IsTaken}
use Rattle.psci_ffi.specs.Machines.{IsMade, OpensBy, has_room, machine_by, machine_given}
use Rattle.psci_ffi.specs.declared.machine.MachineFault.{MachineFault}
use Rattle.psci_ffi.specs.declared.machine.MachineFault.TheVariants as faults
use Rattle.psci_ffi.specs.declared.machine.GivenMachine.{GivenMachine}

abbrev Said : Type 0
Said = Result BoardValue BoardFault

-- Making ---------------------------------------------------------------------------------------

pub bad_board : (said : Said) (fault : BoardFault) (g : GivenMachine) (boot : ℕ)
    → Answers (Err fault) said → IsMade (Err (faults.Board fault)) said g boot
bad_board said boards.Memory g boot is = is
bad_board said fault g boot is = ap (λ (s : Said). machine_by s g boot) is

pub no_memory : (said : Said) (b : BoardValue) (g : GivenMachine) (boot : ℕ)
    → Answers (Ok b) said → IsMade (Err (faults.Board boards.Memory)) said g boot
no_memory said b g boot is = rw is refl

pub no_room : (said : Said) (b : BoardValue) (g : GivenMachine) (boot : ℕ)
    → Answers (Ok b) said → has_room g ≡ false → IsMade (Err faults.Room) said g boot
no_room said b g boot is none = rw (is, none) refl

pub bad_description : (said : Said) (b : BoardValue) (g : GivenMachine) (d : DescriptionValue)
    (boot : ℕ) (fault : PlatformFault) → Answers (Ok b) said → has_room g ≡ true
    → d ≡ machine_given g → fault_of d b boot ≡ Some fault
    → IsMade (Err (faults.Description fault)) said g boot
bad_description said b g d boot fault is room same bad =
    let here : fault_of (machine_given g) b boot ≡ Some fault = rw same at bad in
    rw (is, room, here) refl

pub made : (said : Said) (b : BoardValue) (g : GivenMachine) (d : DescriptionValue) (boot : ℕ)
    (m : PlatformValue) → Answers (Ok b) said → has_room g ≡ true → d ≡ machine_given g
    → fault_of d b boot ≡ None
    → m ≡ record {
      description = d;
      board = b;
      boot = boot;
      place = boot_place d b boot;
      ready = None;
    }
    → IsMade (Ok m) said g boot
made said b g d boot m is room same none whole =
    let here : fault_of (machine_given g) b boot ≡ None = rw same at none in
    rw (is, room, here, whole, same) refl

-- what is made where it fails
pub ruleset making = (bad_board, no_room, no_memory)

-- Opening --------------------------------------------------------------------------------------

pub failed : (Made : PlatformValue → Type 0) (Same : Type 0) (said : Said) (fault : MachineFault)
    (g : GivenMachine) (boot : ℕ) → IsMade (Err fault) said g boot → Same
    → OpensBy Made Same (Err fault) said g boot
failed Made Same said (faults.Board boards.Memory) g boot is same = (is, same)
failed Made Same said (faults.Board fault) g boot is same = (is, same)
failed Made Same said fault g boot is same = (is, same)

pub opened : (Made : PlatformValue → Type 0) (Same : Type 0) (said : Said) (m : PlatformValue)
    (g : GivenMachine) (boot : ℕ) → IsMade (Ok m) said g boot → Made m
    → OpensBy Made Same (Ok tt) said g boot
opened Made Same said m g boot is made = rw is made

pub lacking : (Made : PlatformValue → Type 0) (Same : Type 0) (said : Said) (m : PlatformValue)
    (g : GivenMachine) (boot : ℕ) → IsMade (Ok m) said g boot → Same
    → OpensBy Made Same (Err (faults.Board boards.Memory)) said g boot
lacking Made Same (Ok b) m g boot is same = (refl, same)
lacking Made Same (Err fault) m g boot is same = absurd (cc)

-- what an opening leaves
pub ruleset opening = (failed, opened, lacking)

-- Switching ---------------------------------------------------------------------------------------
-- Why a message that was read on a board can be delivered there, and why the domains of its parts
-- are the board's.

-- the first of some parts are no higher than all of them
pub within_take : (most n : ℕ) (ps : List Part) → is_within most ps ≡ true
    → is_within most (take n ps) ≡ true
within_take most zero ps h = refl
within_take most (suc n) [] h = refl
within_take most (suc n) (p ∷ ps) h =
    let both = and_parts (nat_le p.level most) (is_within most ps) h in
    and_from (nat_le p.level most) (is_within most (take n ps)) both.0
    (within_take most n ps both.1)

-- each of them is no higher
pub within_at : (most k : ℕ) (ps : List Part) (p : Part) → is_within most ps ≡ true
    → slice_get ps k ≡ Some p → p.level ≤ most
within_at most k [] p h at = absurd (none-some p at)
within_at most zero (q ∷ ps) p h at =
    let both = and_parts (nat_le q.level most) (is_within most ps) h in
    let same : q.level ≡ p.level = ap (λ (x : Part). x.level) (same_Some q p at) in
    omega (arith, leb-true q.level most both.0, same)
within_at most (suc k) (q ∷ ps) p h at =
    within_at most k ps p (and_parts (nat_le q.level most) (is_within most ps) h).1 at

-- levels that count up end at the highest, if they begin there or below
few-from : (level most : ℕ) (ps : List Part) → level ≤ most + 1 → is_climbing level ps ≡ true
    → is_within most ps ≡ true → level + length ps ≤ most + 1
few-from level most [] low climbs h = omega (arith, low)
few-from level most (p ∷ ps) low climbs h =
    let up = and_parts (p.level == level) (is_climbing (level + 1) ps) climbs in
    let both = and_parts (nat_le p.level most) (is_within most ps) h in
    let is = eqb-true p.level level up.0 in
    let under = leb-true p.level most both.0 in
    let rest = few-from (level + 1) most ps (omega (arith, is, under)) up.1 both.1 in
    omega (arith, rest)

few : (kind : Kind) (most : ℕ) (ps : List Part) → ArePartsOf kind ps → is_within most ps ≡ true
    → length ps ≤ most + 1
few kinds.Down most ps h w =
    let least = few-from 0 most ps (omega arith) h.levels w in omega (arith, least)
few kind most ps h w = rw h (omega arith)

-- what a call comes down to is computed
unfoldable pub act : Unit {0}
unfolding effect_of
act = tt

-- a message of the board's frames can be delivered there
pub of_board : (b : BoardValue) (m : MessageValue) → IsMessage m → IsOf b (frames.Message m)
    → IsOfBoard b m
of_board b m is of =
    record { core = of.0; levels = few m.kind (height b) m.parts is.parts of.1 }

-- the message that a frame is, if it is one
abbrev message_of : MessageValue → Frame → MessageValue
message_of m (frames.Message n) = n
message_of m (frames.Ack a) = m

-- one is read, and no other
pub one_message : (m n : MessageValue)
    → ◌≡◌ {A = Frame} (frames.Message m) (frames.Message n) → m ≡ n
one_message m n same = ap (message_of m) same

-- What follows from a frame that was read, and from an acknowledgement that was taken -------------

-- a frame of a board is one of the same board
pub of-same : (b d : BoardValue) (f : Frame) → b ≡ d → IsOf d f → IsOf b f
of-same b d f same of = rw same of

-- there is a refusal
abbrev is_refused : {A E : Type 0} → Result A E → Type 0
is_refused (Ok x) = ⊥
is_refused (Err e) = Unit {0}

-- what is refused is not read
pub not-both : {A E : Type 0} {e : E} {x : A} → ◌≡◌ {A = Result A E} (Err e) (Ok x) → ⊥
not-both same = subst is_refused same tt

-- the acknowledgement that a frame is, if it is one
abbrev ack_of : AckValue → Frame → AckValue
ack_of a (frames.Ack b) = b
ack_of a (frames.Message m) = a

-- one is read, and no other
pub one-ack : (a b : AckValue) → ◌≡◌ {A = Frame} (frames.Ack a) (frames.Ack b) → a ≡ b
one-ack a b same = ap (ack_of a) same

-- what a reply says of an acknowledgement, if it does
abbrev reply_taken : FwReply → Taken
reply_taken (replies.Out outcome) = Old
reply_taken (replies.Taken taken) = taken
reply_taken (replies.Fault fault) = Old

taken-by : (b : BoardValue) (v : Values) (a : AckValue) (t : Taken)
    → replies.Taken t ≡ answer b v 0 (calls.Take a) → t ≡ taken_by v a
unfolding answer
taken-by b v a t said = ap reply_taken said

-- an acknowledgement that the firmware took, and that was read
pub is-taken : (f g : PolledView) (ack a : AckValue) (t : Taken) (code : ℕ)
    → ack ≡ a → code ≡ taken_code t
    → replies.Taken t ≡ answer f.firmware.board (seen f.firmware) 0 (calls.Take ack)
    → IsNext f 0 (calls.Take ack) g
    → IsTaken a code f g
is-taken f g ack a t code same number said next =
    let b = f.firmware.board in
    let v = seen f.firmware in
    let taken = taken-by b v ack t said ∙ ap (taken_by v) same in
    record {
      answer = number ∙ ap taken_code taken;
      after = next.values
          ∙ (ap (λ r. after b 0 (calls.Take ack) r v) (sym said)
          ∙ (ap (λ x. after b 0 (calls.Take x) (replies.Taken t) v) same
          ∙ ap (λ r. after b 0 (calls.Take a) (replies.Taken r) v) taken));
      board = next.board;
      table = next.table;
      written = next.written;
    }
