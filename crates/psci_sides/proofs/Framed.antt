-- Machines for worked examples of frames, of any board: each core was started once and runs, and
-- the firmware waits for one message, of which a frame is in the mailbox.
use Rattle.std.specs.Prelude.{if◌then◌else◌, replicate}
use Rattle.psci_messages.specs.Slots.{message_in, no_messages, SlotsValue, with_message}
use Rattle.psci_messages.specs.declared.kind.Kind.TheVariants as kinds
use Rattle.psci_messages.specs.declared.start.Cause.TheVariants as causes
use Rattle.psci_state.specs.declared.cores.Activity.TheVariants as activities
use Rattle.psci_fw_spec.specs.declared.mode.SuspendMode.TheVariants.{Platform}
use Rattle.psci_fw_spec.specs.declared.status.Status.TheVariants.{Off, On}
use Rattle.psci_sides.specs.Frames.{Serves}
use Rattle.psci_sides.specs.Machine.{empty, new_side}
use Rattle.psci_sides.proofs.Words.{◌∙◌, ◌∷◌, ◌≡◌, [], AckValue, Agree, arith, BoardValue, Bool}
use Rattle.psci_sides.proofs.Words.{closed, cold, ControlValue, Core, false, FirmwareValue, Gate}
use Rattle.psci_sides.proofs.Words.{gate_in, inl, inr, IsIn, IsLost, IsOut, IsSpent, IsUnderWay}
use Rattle.psci_sides.proofs.Words.{IsWanted, Kind, List, Machine, MessageValue, nat_tests, None}
use Rattle.psci_sides.proofs.Words.{none-some, Option, outstanding_in, Post, Running, SendAgain}
use Rattle.psci_sides.proofs.Words.{slot_of, Some, subst, sym, true, values_of, ℕ}
use Rattle.psci_sides.proofs.Pair.{playing}

-- The two sides ----------------------------------------------------------------------------------

-- the life ends with a message of this kind
abbrev ends_by : Kind → Bool
ends_by kinds.Down = false
ends_by kinds.Start = false
ends_by kinds.Off = true
ends_by kinds.Reset = true

-- the firmware of four cores that run, in this life, with these messages outstanding; each domain
-- is fully on
abbrev firmware : BoardValue → ℕ → Bool → SlotsValue → FirmwareValue
firmware b life halting slots = record {
  board = b;
  life = life;
  halting = halting;
  mode = Platform;
  tree = record {
    levels = b.levels;
    cores = replicate 4 (record { activity = activities.Active; known = 1 });
    granted = [];
    confirmed = [];
  };
  rows = replicate 4 (record { status = On; opening = None });
  counts = [];
  slots = slots;
}

-- what was heard of a core, and what waits at its gate
abbrev gate : ℕ → Option MessageValue → Gate
gate word waiting = record closed { opened = 1; word = word; waiting = waiting }

-- the power controller, which started each of four cores once, and has these gates
abbrev control : BoardValue → Option ℕ → List Gate → ControlValue
control b life gates = record {
  controller = record {
    board = b;
    life = life;
    cores = replicate 4 (record { starts = 1; cause = causes.On });
    domains = replicate 4 (replicate 4 (record { depth = 0; starts = 1 }));
  };
  gates = gates;
}

-- The machines -----------------------------------------------------------------------------------

-- each core is at this post, and has said that it stands, which was heard
abbrev stood : BoardValue → MessageValue → Post → SlotsValue → List MessageValue → List AckValue
    → Machine
stood b x post slots mail acks =
    record (cold b (firmware b x.life (ends_by x.kind) slots)
    (control b (Some x.life) (replicate 4 (gate 1 None)))) {
      side = λ c. record (new_side c) { post = post; used = 1 };
      station = λ c. record empty { word = 1 };
      mail = mail;
      acks = acks;
      depth = λ level place. 0;
    }

-- what is outstanding is nothing, or this
abbrev nothing : SlotsValue
nothing = record { cores = []; system = None }

abbrev this : MessageValue → SlotsValue
this x = with_message (no_messages 4) (slot_of x.kind x.core) (Some x)

-- a frame of the message is in the mailbox
abbrev pub framed : BoardValue → MessageValue → Machine
framed b x = stood b x Running (this x) (x ∷ []) []

-- it is lost
abbrev pub lost : BoardValue → MessageValue → Machine
lost b x = stood b x Running (this x) [] []

-- it is outstanding no more
abbrev pub taken : BoardValue → MessageValue → Machine
taken b x = stood b x Running nothing (x ∷ []) []

-- all of it was done
abbrev pub end_of : MessageValue → AckValue
end_of x = record {
  kind = x.kind;
  core = x.core;
  life = x.life;
  number = x.number;
  applied = 4;
  stale = false;
}

-- that is in the mailbox, with the frame or without
abbrev pub framed_and_ended : BoardValue → MessageValue → Machine
framed_and_ended b x = stood b x Running (this x) (x ∷ []) (end_of x ∷ [])

abbrev pub ended : BoardValue → MessageValue → Machine
ended b x = stood b x Running (this x) [] (end_of x ∷ [])

-- the power controller has no life left
abbrev pub lifeless : BoardValue → MessageValue → Machine
lifeless b x =
    record (framed b x) { control = control b None (replicate 4 (gate 1 None)) }

-- it has heard nothing
abbrev pub unheard : BoardValue → MessageValue → Machine
unheard b x =
    record (framed b x) { control = control b (Some x.life) (replicate 4 (gate 0 None)) }

-- it keeps the frame back, of a core that it has heard, or not
abbrev pub kept : ℕ → BoardValue → MessageValue → Machine
kept word b x =
    record (lost b x) { control = control b (Some x.life) (replicate 4 (gate word (Some x))) }

-- the number by which a core sends this message again
abbrev pub slot_number : MessageValue → ℕ
slot_number x = if ends_by x.kind then 4 else x.core.number

-- a core has the lock
abbrev pub holding : ℕ → Machine → Machine
holding c m = record m { lock = Some c }

-- no core is in the normal world
abbrev pub at_post : Post → Machine → Machine
at_post post m = record m { side = λ c. record (m.side c) { post = post } }

-- What holds of them -----------------------------------------------------------------------------

pub nothing_in : {A : Type 0} {x : A} → IsIn [] x → ⊥
nothing_in at = none-some _ at.1

-- nothing is outstanding
pub none_out : (k : Kind) (core : Core) (x : MessageValue)
    → message_in nothing (slot_of k core) ≡ Some x → ⊥
none_out k core x e = grind (arith, nat_tests)

-- a frame is of use where nothing was acknowledged
pub is_wanted : {b : BoardValue} {m : Machine} {x : MessageValue} → IsOut m x → m.acks ≡ []
    → (IsSpent b (values_of m.control) x → ⊥) → IsWanted b m x
is_wanted out none brings = grind (arith, nat_tests, nothing_in)

-- nothing is under way where none is in the mailbox or at a gate
pub is_lost : {m : Machine} {x : MessageValue} → m.mail ≡ [] → m.acks ≡ []
    → (gate_in m.control.gates x.core.number).waiting ≡ None → IsLost m x
is_lost {m} {x} mail acks kept = record {
  frame = λ u. elim u [
    | inl at ↦ nothing_in (subst (λ list. IsIn list x) mail at)
    | inr at ↦ none-some _ (sym kept ∙ at)
  ];
  ack = λ e. nothing_in (subst (λ list. IsIn list e.0) acks e.1.0);
}

-- what is under way is not sent again
pub sent_once : (b : BoardValue) (m : Machine) (c number : ℕ) (x : MessageValue)
    → outstanding_in m.firmware number ≡ Some x → IsUnderWay m x
    → Serves b m (SendAgain c number) → ⊥
sent_once b m c number x out under s = grind (arith, nat_tests)

-- cores run, and the two sides agree
pub agree : (b : BoardValue) (x : MessageValue) → Agree b (taken b x)
unfolding playing
agree b x = grind (arith, nat_tests)
