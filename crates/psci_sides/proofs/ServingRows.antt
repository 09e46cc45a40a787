-- Worked examples, clause by clause: which frame is of use, of which message nothing is under way,
-- which steps serve, and where all is served; of each message on its board.
use Rattle.psci_ctl_spec.specs.Replies as changing
use Rattle.psci_messages.specs.declared.kind.Kind.TheVariants.{Off}
use Rattle.psci_world_spec.proofs.Scripts.{board, tall}
use Rattle.psci_port.proofs.Playing.{down_of, Each, EachGoing, of_system, sendable, standby, whole}
use Rattle.psci_port.proofs.Playing.{whole_tall}
use Rattle.psci_sides.specs.Frames.{is_end_of, IsServed, Serves}
use Rattle.psci_ctl_spec.specs.Replies.{reply}
use Rattle.psci_sides.proofs.Words.{◌<◌, ◌≡◌, ap, arith, BoardValue, cores, DeliverKept}
use Rattle.psci_sides.proofs.Words.{DeliverMail, eqb-false, false≢true, Hear, inl, inr, IsLost}
use Rattle.psci_sides.proofs.Words.{IsOut, IsSpent, IsWanted, MessageValue, none-some, refl}
use Rattle.psci_sides.proofs.Words.{SendAgain, sym, TakeAck, TakeLock, true, values_of, Waiting}
use Rattle.psci_sides.proofs.Framed.{agree, at_post, end_of, ended, framed, framed_and_ended}
use Rattle.psci_sides.proofs.Framed.{holding, is_lost, is_wanted, kept, lifeless, lost, none_out}
use Rattle.psci_sides.proofs.Framed.{nothing_in, sent_once, slot_number, taken, unheard}
use Rattle.psci_sides.proofs.Pair.{anew, code, playing}

-- A frame is of use ------------------------------------------------------------------------------

-- its delivery brings something about
brings : Each (λ b x. IsSpent b (values_of (framed b x).control) x → ⊥)
unfolding playing changing.after reply
brings = (
  λ s. let e = s.depths 0 (omega arith) in omega (arith, e),
  λ s. let e = s.depths 0 (omega arith) in omega (arith, e),
  λ s. let e = s.depths 0 (omega arith) in omega (arith, e),
  λ s. let e = s.depths 0 (omega arith) in omega (arith, e),
  λ s. false≢true (sym s.left),
)

of_use : Each (λ b x. IsWanted b (framed b x) x)
unfolding playing
of_use = search (arith, is_wanted, brings)

-- not of what is outstanding no more
out_no_more : (b : BoardValue) (x : MessageValue) → IsWanted b (taken b x) x → ⊥
unfolding playing
out_no_more b x w = none_out x.kind x.core x w.out

-- nor of what ends by an acknowledgement that is under way
ends_already : Each (λ b x. IsWanted b (framed_and_ended b x) x → ⊥)
unfolding playing
ends_already = (
  λ w. w.unended (end_of (down_of 0 1 whole), ((0, refl), refl)),
  λ w. w.unended (end_of (down_of 0 1 whole_tall), ((0, refl), refl)),
  λ w. w.unended (end_of (down_of 3 2 whole), ((0, refl), refl)),
  λ w. w.unended (end_of (down_of 0 1 standby), ((0, refl), refl)),
  λ w. w.unended (end_of (of_system Off 1), ((0, refl), refl)),
)

-- nor where the power controller carries out nothing
brings_nothing : (b : BoardValue) (x : MessageValue) → IsWanted b (lifeless b x) x → ⊥
unfolding playing changing.after reply
brings_nothing b x w = w.brings (record { depths = λ level within. refl; left = refl })

-- Nothing is under way ---------------------------------------------------------------------------

is_gone : Each (λ b x. IsLost (lost b x) x)
unfolding playing
is_gone = search (arith, is_lost)

-- not where a frame is in the mailbox, or at a gate
frame_is_there : (b : BoardValue) (x : MessageValue) → IsLost (framed b x) x → ⊥
frame_is_there b x l = l.frame (inl (0, refl))

frame_is_kept : Each (λ b x. IsLost (kept 1 b x) x → ⊥)
unfolding playing
frame_is_kept = (
  λ l. l.frame (inr refl),
  λ l. l.frame (inr refl),
  λ l. l.frame (inr refl),
  λ l. l.frame (inr refl),
  λ l. l.frame (inr refl),
)

-- nor where its end is
end_is_there : Each (λ b x. IsLost (ended b x) x → ⊥)
unfolding playing
end_is_there = (
  λ l. l.ack (end_of (down_of 0 1 whole), ((0, refl), refl)),
  λ l. l.ack (end_of (down_of 0 1 whole_tall), ((0, refl), refl)),
  λ l. l.ack (end_of (down_of 3 2 whole), ((0, refl), refl)),
  λ l. l.ack (end_of (down_of 0 1 standby), ((0, refl), refl)),
  λ l. l.ack (end_of (of_system Off 1), ((0, refl), refl)),
)

-- A frame is delivered ---------------------------------------------------------------------------

delivers : Each (λ b x. Serves b (framed b x) (DeliverMail x (framed b x).control anew))
unfolding playing
delivers = (
  ((0, refl), sendable.0, refl, λ kind. absurd (cc), of_use.0),
  ((0, refl), sendable.1, refl, λ kind. absurd (cc), of_use.1),
  ((0, refl), sendable.2, refl, λ kind. absurd (cc), of_use.2),
  ((0, refl), sendable.3, refl, λ kind. absurd (cc), of_use.3),
  ((0, refl), sendable.4, refl, λ kind. absurd (cc), of_use.4),
)

-- not what is not in the mailbox, nor what waits, nor what is of no use
delivers_nothing : (b : BoardValue) (x : MessageValue)
    → Serves b (lost b x) (DeliverMail x (lost b x).control anew) → ⊥
delivers_nothing b x s = nothing_in s.0

delivers_what_waits : EachGoing (λ b x.
    Serves b (unheard b x) (DeliverMail x (unheard b x).control anew) → ⊥)
unfolding playing
delivers_what_waits = search arith

delivers_in_vain : (b : BoardValue) (x : MessageValue)
    → Serves b (taken b x) (DeliverMail x (taken b x).control anew) → ⊥
unfolding playing
delivers_in_vain b x s = none_out x.kind x.core x s.4.out

-- the same of what is kept back
delivers_kept : Each (λ b x.
    Serves b (kept 1 b x) (DeliverKept x.core.number x (kept 1 b x).control anew))
unfolding playing
delivers_kept = (
  (omega arith, refl, sendable.0, refl, λ kind. absurd (cc), is_wanted refl refl brings.0),
  (omega arith, refl, sendable.1, refl, λ kind. absurd (cc), is_wanted refl refl brings.1),
  (omega arith, refl, sendable.2, refl, λ kind. absurd (cc), is_wanted refl refl brings.2),
  (omega arith, refl, sendable.3, refl, λ kind. absurd (cc), is_wanted refl refl brings.3),
  (omega arith, refl, sendable.4, refl, λ kind. absurd (cc), is_wanted refl refl brings.4),
)

keeps_nothing : Each (λ b x.
    Serves b (framed b x) (DeliverKept x.core.number x (framed b x).control anew) → ⊥)
unfolding playing
keeps_nothing = search (arith, none-some)

keeps_on_waiting : EachGoing (λ b x.
    Serves b (kept 0 b x) (DeliverKept x.core.number x (kept 0 b x).control anew) → ⊥)
unfolding playing
keeps_on_waiting = search arith

-- A word is heard --------------------------------------------------------------------------------

hears : Each (λ b x. Serves b (unheard b x) (Hear x.core.number))
unfolding playing
hears = search arith

heard_it : Each (λ b x. Serves b (framed b x) (Hear x.core.number) → ⊥)
unfolding playing
heard_it = (λ s. s.1 refl, λ s. s.1 refl, λ s. s.1 refl, λ s. s.1 refl, λ s. s.1 refl)

-- A core comes in, takes the end, or sends the message again --------------------------------------

ends_it : (b : BoardValue) (x : MessageValue) → x.core.number < cores b → IsOut (ended b x) x
    → is_end_of (end_of x) x ≡ true → Serves b (ended b x) (TakeLock x.core.number)
ends_it b x on out ends = (on, refl, refl, (x, (on, (out, inl (end_of x, ((0, refl), ends))))))

comes_for_an_end : Each (λ b x. Serves b (ended b x) (TakeLock x.core.number))
unfolding playing
comes_for_an_end = (
  ends_it board (down_of 0 1 whole) (omega arith) refl refl,
  ends_it tall (down_of 0 1 whole_tall) (omega arith) refl refl,
  ends_it board (down_of 3 2 whole) (omega arith) refl refl,
  ends_it board (down_of 0 1 standby) (omega arith) refl refl,
  ends_it board (of_system Off 1) (omega arith) refl refl,
)

-- not one that stands
comes_from_its_stop : (b : BoardValue) (x : MessageValue)
    → Serves b (at_post Waiting (ended b x)) (TakeLock x.core.number) → ⊥
comes_from_its_stop b x s = eqb-false 0 2 refl (ap code s.2)

takes_the_end : Each (λ b x.
    Serves b (holding x.core.number (ended b x)) (TakeAck x.core.number (end_of x) anew))
unfolding playing
takes_the_end = (
  ((omega arith, refl, refl), (0, refl), (down_of 0 1 whole, (refl, refl))),
  ((omega arith, refl, refl), (0, refl), (down_of 0 1 whole_tall, (refl, refl))),
  ((omega arith, refl, refl), (0, refl), (down_of 3 2 whole, (refl, refl))),
  ((omega arith, refl, refl), (0, refl), (down_of 0 1 standby, (refl, refl))),
  ((omega arith, refl, refl), (0, refl), (of_system Off 1, (refl, refl))),
)

-- not what is not in the mailbox
takes_nothing : (b : BoardValue) (x : MessageValue)
    → Serves b (holding x.core.number (framed b x)) (TakeAck x.core.number (end_of x) anew) → ⊥
takes_nothing b x s = nothing_in s.1

sends_again : Each (λ b x.
    Serves b (holding x.core.number (lost b x)) (SendAgain x.core.number (slot_number x)))
unfolding playing
sends_again = (
  ((omega arith, refl, refl), (down_of 0 1 whole, (refl, is_lost refl refl refl))),
  ((omega arith, refl, refl), (down_of 0 1 whole_tall, (refl, is_lost refl refl refl))),
  ((omega arith, refl, refl), (down_of 3 2 whole, (refl, is_lost refl refl refl))),
  ((omega arith, refl, refl), (down_of 0 1 standby, (refl, is_lost refl refl refl))),
  ((omega arith, refl, refl), (of_system Off 1, (refl, is_lost refl refl refl))),
)

-- nor a message of which a frame is under way
sends_twice : Each (λ b x.
    Serves b (holding x.core.number (framed b x)) (SendAgain x.core.number (slot_number x)) → ⊥)
unfolding playing
sends_twice = (
  sent_once board _ 0 0 (down_of 0 1 whole) refl (inl (0, refl)),
  sent_once tall _ 0 0 (down_of 0 1 whole_tall) refl (inl (0, refl)),
  sent_once board _ 3 3 (down_of 3 2 whole) refl (inl (0, refl)),
  sent_once board _ 0 0 (down_of 0 1 standby) refl (inl (0, refl)),
  sent_once board _ 0 4 (of_system Off 1) refl (inl (0, refl)),
)

-- All is served ----------------------------------------------------------------------------------

-- no core is in the normal world, and what is in the mailbox was acknowledged
no_frame_of_use : (b : BoardValue) (x : MessageValue) → IsServed b (at_post Waiting (taken b x))
unfolding playing
no_frame_of_use b x = record {
  frames = λ y at w. none_out y.kind y.core y w.out;
  agree = λ c within post goes. absurd (eqb-false 0 2 refl (ap code post));
}

frame_of_use : Each (λ b x. IsServed b (at_post Waiting (framed b x)) → ⊥)
unfolding playing
frame_of_use = (
  λ is. is.frames (down_of 0 1 whole) (inl (0, refl)) (is_wanted refl refl brings.0),
  λ is. is.frames (down_of 0 1 whole_tall) (inl (0, refl)) (is_wanted refl refl brings.1),
  λ is. is.frames (down_of 3 2 whole) (inl (0, refl)) (is_wanted refl refl brings.2),
  λ is. is.frames (down_of 0 1 standby) (inl (0, refl)) (is_wanted refl refl brings.3),
  λ is. is.frames (of_system Off 1) (inl (0, refl)) (is_wanted refl refl brings.4),
)

-- cores run, and nothing is outstanding
both_agree : (b : BoardValue) (x : MessageValue) → IsServed b (taken b x)
unfolding playing
both_agree b x = record {
  frames = λ y at w. none_out y.kind y.core y w.out;
  agree = λ c within post goes. agree b x;
}

is_outstanding : EachGoing (λ b x. IsServed b (lost b x) → ⊥)
unfolding playing
is_outstanding = (
  λ is. none-some _ (sym ((is.agree 0 (omega arith) refl refl).own 0 (omega arith))),
  λ is. none-some _ (sym ((is.agree 0 (omega arith) refl refl).own 0 (omega arith))),
  λ is. none-some _ (sym ((is.agree 3 (omega arith) refl refl).own 3 (omega arith))),
  λ is. none-some _ (sym ((is.agree 0 (omega arith) refl refl).own 0 (omega arith))),
)
