-- What is said of an event by the machine's values is what is legal after the records.
use Rattle.std.specs.Prelude.{nat_lt, slice_get}
use Rattle.std.proofs.Common.{◌++◌, ◌-◌, ◌<◌, ◌∙◌, ◌∷◌, ◌≡◌, [], ap, arith, Bool, cond, false}
use Rattle.std.proofs.Common.{get_or, length, List, None, Option, refl, reverse, Some, subst}
use Rattle.std.proofs.Common.{sym, true, ℕ}
use Rattle.std.proofs.lemmas.Bool.{ltb-true}
use Rattle.std.proofs.lemmas.List.{get_or-reverse, length-reverse, reverse-append}
use Rattle.std.proofs.lemmas.Option.{get_or_from_slice_get, slice_get-get_or, slice_get_within}
use Rattle.psci_world_spec.specs.Legal.{ack_in, acks, controller_values, deliver}
use Rattle.psci_world_spec.specs.Legal.{firmware_values, if_running, if_started, if_stopped}
use Rattle.psci_world_spec.specs.Legal.{indexed, legal, legal_record, on_board, place, said_by}
use Rattle.psci_world_spec.specs.Legal.{said_of, sent, sent_in, take}
use Rattle.psci_world_spec.specs.declared.event.Event.{Event}
use Rattle.psci_world_spec.specs.declared.event.Event.TheVariants.{Call, Deliver, Enter, Reset}
use Rattle.psci_world_spec.specs.declared.event.Event.TheVariants.{Take, Wake}
use Rattle.psci_world_spec.specs.declared.place.Place.{Place}
use Rattle.psci_world_spec.specs.declared.place.Place.TheVariants.{Running, Started, Stopped}
use Rattle.psci_world_spec.specs.declared.said.Record.{Record}
use Rattle.psci_world_spec.specs.declared.said.Said.{Said}
use Rattle.psci_world_spec.specs.declared.said.Said.TheVariants.{Absent}
use Rattle.psci_headline.specs.psci_fw_laws.Messages.{IsSound}
use Rattle.psci_ctl.specs.Seen.{seen as seen_controller}
use Rattle.psci_ctl.specs.psci_ctl_spec.History.{IsOfBoard}
use Rattle.psci_ctl.specs.psci_ctl_spec.Replies.{last_start, reply}
use Rattle.psci_ctl.specs.psci_ctl_spec.Values as controlled
use Rattle.psci_ctl.specs.psci_ctl_spec.declared.call.CtlCall.TheVariants as asked
use Rattle.psci_fw.specs.Reactions.{seen as seen_firmware}
use Rattle.psci_fw.specs.psci_abi.declared.registers.Regs.{Regs}
use Rattle.psci_fw.specs.psci_board.Board.{BoardValue, cores}
use Rattle.psci_fw.specs.psci_fw_spec.Answer.{answer}
use Rattle.psci_fw.specs.psci_fw_spec.Effects.{listed}
use Rattle.psci_fw.specs.psci_fw_spec.declared.call.FwCall.TheVariants as calls
use Rattle.psci_fw.specs.psci_messages.Message.{AckValue, MessageValue}
use Rattle.psci_fw.specs.psci_messages.declared.start.Start.{Start}
use Rattle.psci_machine.specs.Seen.{HasPast, if_entering, if_there, IsAfter, IsPresent}
use Rattle.psci_machine.specs.Seen.{machine_board, MachineValue, place_in, PresentValue}

-- Parts ----------------------------------------------------------------------------------------

board_test : (t : Bool) (x y : Said) → (t ≡ true → x ≡ y) → cond t x Absent ≡ cond t y Absent
board_test true x y same = same refl
board_test false x y same = refl

-- what is said of a core that is there need only be the same there
same_there : (b : BoardValue) (c : ℕ) (x y : Said) → (c < cores b → x ≡ y)
    → on_board b c x ≡ on_board b c y
same_there b c x y same = board_test (nat_lt c (cores b)) x y (λ t. same (ltb-true _ _ t))

entering_same : (b : BoardValue) (past : List Record) (c : ℕ) (p : Place) (s : Option Start)
    → if_entering p s (λ start. said_of (length (sent past))
    (answer b (firmware_values b past) c (calls.Enter start))) ≡ if_started b past c p s
entering_same b past c Started (Some start) = refl
entering_same b past c Started None = refl
entering_same b past c Running s = refl
entering_same b past c Stopped s = refl

-- Events ---------------------------------------------------------------------------------------

pub call_legal : (b : BoardValue) (past : List Record) (m : MachineValue) (c n : ℕ) (regs : Regs)
    → IsAfter b past m → n ≡ length (sent past)
    → on_board (machine_board m) c (if_running (place_in m.places c)
    (said_of n (answer (machine_board m) (seen_firmware m.firmware) c (calls.Smc regs))))
    ≡ legal b past (Call c regs)
unfolding legal
call_legal b past m c n regs is count =
    rw (is.firmware, count, is.board) (same_there b c _ _ (λ inside. rw (is.places c inside) refl))

pub enter_legal : (b : BoardValue) (past : List Record) (m : MachineValue) (c n : ℕ)
    → IsAfter b past m → n ≡ length (sent past)
    → on_board (machine_board m) c (if_entering (place_in m.places c)
    (last_start (seen_controller m.controller) c) (λ start. said_of n
    (answer (machine_board m) (seen_firmware m.firmware) c (calls.Enter start))))
    ≡ legal b past (Enter c)
unfolding legal
enter_legal b past m c n is count =
    rw (is.firmware, count, is.board) (same_there b c _ _ (λ inside. rw (is.places c inside)
    (ap (λ (v : controlled.Values). if_entering (place b past c) (last_start v c)
    (λ start. said_of (length (sent past))
    (answer b (firmware_values b past) c (calls.Enter start)))) is.controller
    ∙ entering_same b past c (place b past c) (last_start (controller_values b past) c))))

pub wake_legal : (b : BoardValue) (past : List Record) (m : MachineValue) (c : ℕ)
    → IsAfter b past m
    → on_board (machine_board m) c (if_stopped (place_in m.places c) (said_by (length (acks past))
    (reply (machine_board m) (seen_controller m.controller)
    (asked.Wake (record { number = c }) ((seen_controller m.controller).starts c)))))
    ≡ legal b past (Wake c)
unfolding legal
wake_legal b past m c is =
    rw is.board (same_there b c _ _ (λ inside. rw (is.places c inside)
    (ap (λ (v : controlled.Values). if_stopped (place b past c) (said_by (length (acks past))
    (reply b v (asked.Wake (record { number = c }) (v.starts c))))) is.controller)))

pub reset_legal : (b : BoardValue) (past : List Record) (m : MachineValue) (c : ℕ)
    → IsAfter b past m
    → on_board (machine_board m) c (said_by (length (acks past))
    (reply (machine_board m) (seen_controller m.controller) (asked.Reset (record { number = c }))))
    ≡ legal b past (Reset c)
unfolding legal
reset_legal b past m c is = rw (is.board, is.controller) refl

deliver_any : (b : BoardValue) (past : List Record) (message : Option MessageValue)
    → if_there message (λ m. said_by (length (acks past))
    (reply b (controller_values b past) (asked.Deliver m))) ≡ deliver b past message
deliver_any b past None = refl
deliver_any b past (Some m) = refl

pub deliver_legal : (b : BoardValue) (past : List Record) (m : MachineValue)
    (messages : List MessageValue) (k n : ℕ) → IsAfter b past m
    → messages ≡ reverse (sent past) → n ≡ length (acks past)
    → if_there (slice_get messages k) (λ x. said_by n
    (reply (machine_board m) (seen_controller m.controller) (asked.Deliver x)))
    ≡ legal b past (Deliver k)
unfolding legal
deliver_legal b past m messages k n is sends count =
    rw (is.board, is.controller, sends, count) (deliver_any b past (indexed (sent past) k))

take_any : (b : BoardValue) (past : List Record) (ack : Option AckValue)
    → if_there ack (λ a. said_of (length (sent past))
    (answer b (firmware_values b past) 0 (calls.Take a))) ≡ take b past ack
take_any b past None = refl
take_any b past (Some a) = refl

pub take_legal : (b : BoardValue) (past : List Record) (m : MachineValue)
    (made : List AckValue) (k : ℕ) → IsAfter b past m → made ≡ reverse (acks past)
    → if_there (slice_get made k) (λ a. said_of (length (sent past))
    (answer (machine_board m) (seen_firmware m.firmware) 0 (calls.Take a)))
    ≡ legal b past (Take k)
unfolding legal
take_legal b past m made k is makes =
    rw (is.firmware, makes, is.board) (take_any b past (indexed (acks past) k))

-- Presents ----------------------------------------------------------------------------------------
-- A new present, and one after an event more. Each message of a legal past is one of the board,
-- since the firmware's history says that it was sent.

pub first_present : (b : BoardValue) (p : PresentValue) → IsAfter b [] p.machine
    → p.messages ≡ [] → p.acks ≡ [] → IsPresent b [] p
unfolding sent acks
first_present b p after unsent unmade = record {
  legal = tt;
  machine = after;
  messages = unsent;
  acks = unmade;
}

reverse-listed : {A : Type 0} → (o : Option A) → reverse (listed o) ≡ listed o
reverse-listed None = refl
reverse-listed (Some x) = refl

-- a list of which the oldest item is first, with one item more or none
one_more : {A : Type 0} → (xs ys : List A) (o : Option A) → xs ≡ reverse ys
    → xs ++ listed o ≡ reverse (listed o ++ ys)
one_more xs ys o e =
    ap (λ l. l ++ listed o) e ∙ ap (λ l. reverse ys ++ l) (sym (reverse-listed o))
    ∙ sym (reverse-append (listed o) ys)

next_present : (b : BoardValue) (past : List Record) (old new : PresentValue) (event : Event)
    (said : Said) → IsPresent b past old → said ≡ legal b past event
    → IsAfter b (record { event = event; said = said } ∷ past) new.machine
    → new.messages ≡ old.messages ++ listed (sent_in said)
    → new.acks ≡ old.acks ++ listed (ack_in said)
    → IsPresent b (record { event = event; said = said } ∷ past) new
unfolding sent acks
next_present b past old new event said is says after more_sent more_made = record {
  legal = (says, is.legal);
  machine = after;
  messages = more_sent ∙ one_more old.messages (sent past) (sent_in said) is.messages;
  acks = more_made ∙ one_more old.acks (acks past) (ack_in said) is.acks;
}

-- What the machine, lent both lists, says of each past, and what it is then, makes of its present
-- the next one, where that was added to the lists.
pub happens : (old new : PresentValue) (event : Event) (said : Said)
    (messages reserved : List MessageValue) (made reserved_acks : List AckValue)
    → ((b : BoardValue) (past : List Record) → IsAfter b past old.machine
    → messages ≡ reverse (sent past) → made ≡ reverse (acks past) → said ≡ legal b past event)
    → ((b : BoardValue) (past : List Record) → IsAfter b past old.machine
    → messages ≡ reverse (sent past) → made ≡ reverse (acks past)
    → IsAfter b (record { event = event; said = said } ∷ past) new.machine)
    → messages ≡ reserved → reserved ≡ old.messages
    → new.messages ≡ reserved ++ listed (sent_in said)
    → made ≡ reserved_acks → reserved_acks ≡ old.acks
    → new.acks ≡ reserved_acks ++ listed (ack_in said)
    → (b : BoardValue) (past : List Record) → IsPresent b past old
    → IsPresent b (legal_record b past event ∷ past) new
happens old new event said messages reserved made reserved_acks says after lent same more lent_acks
    same_acks more_acks b past is =
    let sends = lent ∙ same ∙ is.messages in
    let makes = lent_acks ∙ same_acks ∙ is.acks in
    let right = says b past is.machine sends makes in
    rw (← right) (next_present b past old new event said is right
    (after b past is.machine sends makes)
    (more ∙ ap (λ (l : List MessageValue). l ++ listed (sent_in said)) same)
    (more_acks ∙ ap (λ (l : List AckValue). l ++ listed (ack_in said)) same_acks))

-- the next one has a past, too
pub has_past : (old new : PresentValue) (event : Event)
    → ((b : BoardValue) (past : List Record) → IsPresent b past old
    → IsPresent b (legal_record b past event ∷ past) new)
    → HasPast old → HasPast new
has_past old new event next h =
    let b = machine_board old.machine in
    let is = next b h.past h.is in record {
      past = legal_record b h.past event ∷ h.past;
      is = subst (λ (x : BoardValue). IsPresent x (legal_record b h.past event ∷ h.past) new)
          (sym is.machine.board) is;
    }

-- Messages -------------------------------------------------------------------------------------

-- an item of a list from its other end is one of the list
from_the_end : (xs : List MessageValue) (k : ℕ) (x : MessageValue)
    → slice_get (reverse xs) k ≡ Some x → (j : ℕ) × (slice_get xs j ≡ Some x)
from_the_end xs k x e =
    let inside : k < length (reverse xs) = slice_get_within (reverse xs) k x e in
    let small : k < length xs = omega (arith, inside, length-reverse xs) in
    let less : length xs - 1 - k < length xs = omega (arith, small) in
    let is : get_or (reverse xs) k x ≡ x = get_or_from_slice_get (reverse xs) k x x e in (
      length xs - 1 - k,
      slice_get-get_or xs (length xs - 1 - k) x less
          ∙ ap (λ (y : MessageValue). Some y) (sym (get_or-reverse xs k x small) ∙ is),
    )

-- each message that was sent is one of the board, where the history says it of its own
pub sent_of_board : (b : BoardValue) (sent history messages : List MessageValue)
    → sent ≡ history
    → ((k : ℕ) (m : MessageValue) → slice_get history k ≡ Some m → IsSound b m)
    → messages ≡ reverse sent
    → (k : ℕ) (m : MessageValue) → slice_get messages k ≡ Some m → IsOfBoard b m
sent_of_board b sent history messages same sound sends k m at =
    let one = from_the_end sent k m
    (ap (λ (l : List MessageValue). slice_get l k) (sym sends) ∙ at) in
    let s = sound one.0 m (ap (λ (l : List MessageValue). slice_get l one.0) (sym same) ∙ one.1) in
    record { core = s.core; levels = s.few }
