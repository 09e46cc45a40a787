-- Worked examples: which steps serve, what breaks each clause of that, and where all is served.
use Rattle.std.proofs.Common.{reverse, take}
use Rattle.std.specs.Prelude.{slice_index_or}
use Rattle.psci_ctl_spec.specs.Replies as changing
use Rattle.psci_fw.specs.Reactions.{seen}
use Rattle.psci_messages.specs.declared.kind.Kind.TheVariants as kinds
use Rattle.psci_sides.specs.Frames.{is_end_of, IsLeft, most_served, most_visit, Serves, visits}
use Rattle.psci_sides.specs.Steps.{Carry, KeepBack}
use Rattle.psci_ctl_spec.specs.Replies.{reply}
use Rattle.psci_sides.proofs.Words.{◌*◌, ◌++◌, ◌+◌, ◌∙◌, ◌∷◌, ◌≡◌, [], ap, BeginCall, Core, cores}
use Rattle.psci_sides.proofs.Words.{DeliverKept, DeliverMail, eqb-false, false, false≢true}
use Rattle.psci_sides.proofs.Words.{GiveLock, Hear, inl, inr, IsLost, IsOut, IsUnderWay, IsWanted}
use Rattle.psci_sides.proofs.Words.{Kind, List, Machine, MessageValue, None, none-some, Option}
use Rattle.psci_sides.proofs.Words.{refl, SendAgain, slot_of, Some, Stand, Step, suc, sym, TakeAck}
use Rattle.psci_sides.proofs.Words.{TakeLock, true, zero, ℕ}
use Rattle.psci_sides.proofs.Framed.{nothing_in}
use Rattle.psci_sides.proofs.Pair.{ack_of, anew, both_run, code, cpu_off, done, goes_off}
use Rattle.psci_sides.proofs.Pair.{inside_off, off_message, on_message, pair, playing, stands_off}
use Rattle.psci_sides.proofs.Pair.{start, turns_on}

-- Core 0 has asked core 1 on, and the frame is in the mailbox; it is lost; core 1 was started.
abbrev asked_on : List Step
asked_on = take 11 turns_on

abbrev lost_on : List Step
lost_on = asked_on ++ (Carry [] [] ∷ [])

-- its Down waits at its gate, and it stands; that is heard
abbrev keeps_off : List Step
keeps_off = inside_off ++ (KeepBack off_message ∷ Carry [] [] ∷ GiveLock 1 ∷ Stand 1 ∷ [])

-- What is under way ------------------------------------------------------------------------------

under_way : IsOut (done asked_on) on_message × IsUnderWay (done asked_on) on_message
    × IsUnderWay (done keeps_off) off_message
unfolding playing
under_way = (refl, inl (0, refl), inr refl)

-- an acknowledgement of another message, and one that leaves parts, end nothing
ends_its_own : (is_end_of (ack_of on_message) on_message ≡ true)
    × (is_end_of (ack_of on_message) off_message ≡ false)
    × (is_end_of (record (ack_of off_message) { applied = 0 }) off_message ≡ false)
ends_its_own = (refl, refl, refl)

-- not where a frame is under way, nor where its end alone is
not_lost : (IsLost (done asked_on) on_message → ⊥)
    × (IsLost (done (turns_on ++ (Carry [] (ack_of on_message ∷ []) ∷ []))) on_message → ⊥)
unfolding playing
not_lost = (
  λ l. l.frame (inl (0, refl)),
  λ l. l.ack (ack_of on_message, ((0, refl), refl)),
)

-- What is of use ---------------------------------------------------------------------------------

abbrev number : Option MessageValue → ℕ
number None = 0
number (Some x) = x.number

-- not once it was delivered, nor before it is sent, nor where no life is left to carry it out
abbrev lifeless : Machine
lifeless = record (done asked_on) {
  control = record (done asked_on).control {
    controller = record (done asked_on).control.controller { life = None };
  };
}

not_wanted : (IsWanted pair (done turns_on) on_message → ⊥)
    × (IsWanted pair (done turns_on) off_message → ⊥) × (IsWanted pair lifeless on_message → ⊥)
unfolding playing changing.after reply
not_wanted = (
  λ w. w.unended (ack_of on_message, ((0, refl), refl)),
  λ w. not_off w.out,
  λ w. w.brings (record { depths = λ level within. refl; left = refl }),
)
  where
    not_off : Some on_message ≡ Some off_message → ⊥
    not_off e = eqb-false 0 1 refl (ap number e)

-- Steps that serve -------------------------------------------------------------------------------

-- this step serves after these, or does not
abbrev ServesAfter : List Step → Step → Type 0
ServesAfter steps x = Serves pair (done steps) x

abbrev ServesNot : List Step → Step → Type 0
ServesNot steps x = ServesAfter steps x → ⊥

-- Steps that do not ------------------------------------------------------------------------------

-- nothing is outstanding once core 1 is off
none_at : (n : ℕ) → slice_index_or {A = Option MessageValue} (None ∷ None ∷ []) n None ≡ None
none_at zero = refl
none_at (suc zero) = refl
none_at (suc (suc n)) = refl

none_out : (k : Kind) (core : Core) (x : MessageValue)
    → (seen (done goes_off).firmware).outstanding (slot_of k core) ≡ Some x → ⊥
unfolding playing
none_out kinds.Down core x e = none-some x (sym (none_at core.number) ∙ e)
none_out kinds.Start core x e = none-some x (sym (none_at core.number) ∙ e)
none_out kinds.Off core x e = none-some x e
none_out kinds.Reset core x e = none-some x e

nothing_left : IsLeft pair (done goes_off) → ⊥
nothing_left left = none_out left.0.kind left.0.core left.0 left.1.1.0

-- what waits is not due, what is not in the mailbox or at a gate is delivered from nowhere, and a
-- word is heard once; no core comes in, takes or sends where nothing is outstanding, nor one that
-- stands, or that has no lock to take; a call is from outside, and a frame kept back serves nothing
serves_not : ServesNot inside_off (DeliverMail off_message (done inside_off).control anew)
    × ServesNot lost_on (DeliverMail on_message (done lost_on).control anew)
    × ServesNot stands_off (DeliverKept 1 on_message (done stands_off).control anew)
    × ServesNot stands_off (Hear 1)
    × ServesNot goes_off (TakeLock 0)
    × ServesNot (goes_off ++ (TakeLock 0 ∷ [])) (TakeAck 0 (ack_of off_message) anew)
    × ServesNot (goes_off ++ (TakeLock 0 ∷ [])) (SendAgain 0 1)
    × ServesNot lost_on (TakeLock 1)
    × ServesNot (lost_on ++ (TakeLock 0 ∷ [])) (TakeLock 0)
    × ServesNot both_run (BeginCall 0 cpu_off)
    × ServesNot inside_off (KeepBack off_message)
unfolding playing
serves_not = (
  λ s. false≢true (sym s.2),
  λ s. nothing_in s.0,
  λ s. not_on s.1,
  λ s. s.1 refl,
  λ s. nothing_left s.3,
  λ s. none_out s.2.0.kind s.2.0.core s.2.0 s.2.1.0,
  λ s. none-some s.1.0 s.1.1.0,
  λ s. eqb-false 0 2 refl (ap code s.2),
  λ s. none-some 0 (sym s.1),
  λ s. s,
  λ s. s,
)
  where
    not_on : Some off_message ≡ Some on_message → ⊥
    not_on e = eqb-false 1 0 refl (ap number e)

-- How many ---------------------------------------------------------------------------------------

-- core 0 comes in, and core 1 on its way into the firmware does not
one_visit : visits pair start (reverse turns_on) (TakeLock 0 ∷ []) ≡ 1
unfolding playing visits
one_visit = refl

no_visit : visits pair start (reverse (take 15 both_run)) (TakeLock 1 ∷ GiveLock 1 ∷ []) ≡ 0
unfolding playing visits
no_visit = refl

-- no run of such steps of this board, in which a core comes in once, is longer than this
most_of_two : most_served * cores pair + most_visit * 1 ≡ 1882
unfolding playing
most_of_two = refl
