-- What a wake-up or a reset of a core says and leaves, and a message that is delivered.
use Rattle.std.proofs.Common.{◌<◌, ◌==◌, ◌∙◌, ◌≡◌, ap, Bool, cond, false, List, None, Option}
use Rattle.std.proofs.Common.{refl, reverse, Some, subst, sym, true, ℕ}
use Rattle.std.specs.Prelude.{is_some, nat_lt, slice_get, unwrap_or}
use Rattle.std.proofs.lemmas.List.{reverse-reverse}
use Rattle.psci_fw.specs.psci_board.Board.{BoardValue, cores}
use Rattle.psci_fw.specs.psci_board.declared.draft.Core.{Core}
use Rattle.psci_ctl.specs.Seen.{ControllerValue, seen}
use Rattle.psci_ctl.specs.psci_ctl_spec.declared.call.CtlCall.{CtlCall}
use Rattle.psci_ctl.specs.psci_ctl_spec.declared.call.CtlCall.TheVariants as calls
use Rattle.psci_ctl.specs.psci_ctl_spec.declared.delivery.Delivery.TheVariants as deliveries
use Rattle.psci_ctl.specs.psci_ctl_spec.declared.kick.Kick.{Kick}
use Rattle.psci_ctl.specs.psci_ctl_spec.declared.kick.Kick.TheVariants as kicks
use Rattle.psci_ctl.specs.psci_ctl_spec.declared.reply.CtlReply.TheVariants as replies
use Rattle.psci_ctl.specs.psci_ctl_spec.Replies.{ack_by, after, Begins, change, delivery_of}
use Rattle.psci_ctl.specs.psci_ctl_spec.Replies.{effect_of, Ends, is_this_life, message_effect}
use Rattle.psci_ctl.specs.psci_ctl_spec.Replies.{next_life, reply}
use Rattle.psci_ctl.specs.psci_ctl_spec.Values.{Values}
use Rattle.psci_fw.specs.Reactions as firmware
use Rattle.psci_fw.specs.Reactions.{FirmwareValue}
use Rattle.psci_fw.specs.psci_messages.declared.kind.Kind.{Kind}
use Rattle.psci_fw.specs.psci_messages.declared.kind.Kind.TheVariants as kinds
use Rattle.psci_fw.specs.psci_messages.Message.{AckValue, MessageValue}
use Rattle.psci_world_spec.specs.declared.event.Event.TheVariants.{Wake, Reset, Deliver}
use Rattle.psci_world_spec.specs.declared.place.Place.{Place}
use Rattle.psci_world_spec.specs.declared.place.Place.TheVariants.{Started, Stopped}
use Rattle.psci_world_spec.specs.declared.said.Said.{Said}
use Rattle.psci_world_spec.specs.declared.said.Said.TheVariants.{Acked}
use Rattle.psci_world_spec.specs.Legal.{if_stopped, indexed, on_board, place_of_effect, said_by}
use Rattle.psci_machine.specs.Seen.{IsNext, machine_board, MachineValue, place_in, place_kicked}

-- Wake-ups and resets --------------------------------------------------------------------------

-- the place of a core after a start of some core
started_place : (t : Bool) (before : Place)
    → cond t Started before ≡ unwrap_or (cond t (Some Started) None) before
started_place true before = refl
started_place false before = refl

-- What a call that may start a core leaves of the machine.
pub record IsKicked (call : CtlCall) (number : ℕ) (kick : Kick) (old new : MachineValue)
    : Type 0 where
  pub board : machine_board new ≡ machine_board old
  pub firmware : firmware.seen new.firmware ≡ firmware.seen old.firmware
  pub after : seen new.controller
      ≡ after (machine_board old) call (replies.Kick kick) (seen old.controller)
  pub ignored : kick ≡ kicks.Ignored → seen new.controller ≡ seen old.controller
  pub places : (c : ℕ) → place_in new.places c
      ≡ place_kicked number kick c (place_in old.places c)

pub wake_next : (messages : List MessageValue) (made : List AckValue) (old new : MachineValue)
    (number : ℕ) (kick : Kick) (said : Said) → said ≡ said_by 0 (replies.Kick kick)
    → IsKicked (calls.Wake (record { number = number }) ((seen old.controller).starts number))
    number kick old new
    → IsNext messages made old (Wake number) said new
unfolding effect_of
wake_next messages made old new number (kicks.Started start) said e is =
    rw e (record {
      board = is.board;
      firmware = is.firmware;
      controller = is.after;
      places = λ c inside. is.places c ∙ started_place (c == number) (place_in old.places c);
    })
wake_next messages made old new number kicks.Ignored said e is =
    rw e (record {
      board = is.board;
      firmware = is.firmware;
      controller = is.ignored refl;
      places = λ c inside. is.places c;
    })

pub reset_next : (messages : List MessageValue) (made : List AckValue) (old new : MachineValue)
    (number : ℕ) (kick : Kick) (said : Said) → said ≡ said_by 0 (replies.Kick kick)
    → IsKicked (calls.Reset (record { number = number })) number kick old new
    → IsNext messages made old (Reset number) said new
unfolding effect_of
reset_next messages made old new number (kicks.Started start) said e is =
    rw e (record {
      board = is.board;
      firmware = is.firmware;
      controller = is.after;
      places = λ c inside. is.places c ∙ started_place (c == number) (place_in old.places c);
    })
reset_next messages made old new number kicks.Ignored said e is =
    rw e (record {
      board = is.board;
      firmware = is.firmware;
      controller = is.ignored refl;
      places = λ c inside. is.places c;
    })

-- a machine, by its parts
abbrev pub machine_of : FirmwareValue → ControllerValue → List Place → MachineValue
machine_of fw ctl places = record { firmware = fw; controller = ctl; places = places }

-- a machine's parts, when a call of the power controller has changed it and the places
pub kicked_by : (old new : MachineValue) (fw : FirmwareValue) (ctl mid : ControllerValue)
    (places : List Place) (call called : CtlCall) (at number : ℕ) (kick : Kick)
    → machine_of fw ctl places ≡ old
    → ctl.board ≡ fw.board → called ≡ call → at ≡ number
    → seen mid ≡ after ctl.board called (replies.Kick kick) (seen ctl)
    → (kick ≡ kicks.Ignored → mid ≡ ctl)
    → ((c : ℕ) → place_in new.places c ≡ place_kicked at kick c (place_in places c))
    → new.firmware ≡ fw → new.controller ≡ mid → IsKicked call number kick old new
kicked_by old new fw ctl mid places call called at number kick e same named here is ignored goes
    kept put =
    subst (λ (o : MachineValue). IsKicked call number kick o new) e (record {
      board = ap (λ (f : FirmwareValue). f.board) kept;
      firmware = ap firmware.seen kept;
      after = rw put (rw (same, named) at is);
      ignored = λ none. ap seen (put ∙ ignored none);
      places = λ c. rw here at (goes c);
    })

-- a core that was found is the one of this number, and the board has it
found_by : (t : Bool) (number : ℕ) (core : Core)
    → cond t (Some (record { number = number })) None ≡ Some core
    → (t ≡ true) × (record { number = number } ≡ core)
found_by true number core e = (refl, cc)
found_by false number core e = cc

pub found : (b : BoardValue) (number : ℕ) (core : Core) (o : Option Core)
    → o ≡ cond (nat_lt number (cores b)) (Some (record { number = number })) None
    → o ≡ Some core → (nat_lt number (cores b) ≡ true) × (record { number = number } ≡ core)
found b number core o e is = found_by (nat_lt number (cores b)) number core (sym e ∙ is)

-- the power controller is asked to wake this core, by its own values
pub wake_asked : (v : Values) (number halted : ℕ) (core : Core)
    → record { number = number } ≡ core → halted ≡ v.starts core.number
    → calls.Wake core halted ≡ calls.Wake (record { number = number }) (v.starts number)
wake_asked v number halted core e is = rw (is, ← e) refl

-- what a wake-up of a stopped core is answered, by the machine's own values
pub woken : (old : MachineValue) (fw : FirmwareValue) (ctl : ControllerValue)
    (places : List Place) (number n halted : ℕ) (core : Core) → machine_of fw ctl places ≡ old
    → ctl.board ≡ fw.board → nat_lt number (cores (machine_board old)) ≡ true
    → record { number = number } ≡ core → halted ≡ (seen ctl).starts core.number
    → place_in old.places core.number ≡ Stopped
    → said_by n (reply ctl.board (seen ctl) (calls.Wake core halted))
    ≡ on_board (machine_board old) number (if_stopped (place_in old.places number) (said_by n
    (reply (machine_board old) (seen old.controller)
    (calls.Wake (record { number = number }) ((seen old.controller).starts number)))))
woken old fw ctl places number n halted core e same there named is stops =
    let here : place_in old.places number ≡ Stopped = rw (← named) at stops in
    rw (there, here, ← e, is, ← named, same) refl

-- what a reset of a core is answered, by the machine's own values
pub reset_said : (old : MachineValue) (fw : FirmwareValue) (ctl : ControllerValue)
    (places : List Place) (number n : ℕ) (core : Core) → machine_of fw ctl places ≡ old
    → ctl.board ≡ fw.board → nat_lt number (cores (machine_board old)) ≡ true
    → record { number = number } ≡ core
    → said_by n (reply ctl.board (seen ctl) (calls.Reset core))
    ≡ on_board (machine_board old) number (said_by n
    (reply (machine_board old) (seen old.controller) (calls.Reset (record { number = number }))))
reset_said old fw ctl places number n core e same there named =
    rw (there, ← e, ← named, same) refl

-- Messages -------------------------------------------------------------------------------------

-- What the delivery of a message leaves of the machine.
pub record IsDelivered (message : MessageValue) (ack : AckValue) (old new : MachineValue)
    : Type 0 where
  pub board : machine_board new ≡ machine_board old
  pub firmware : firmware.seen new.firmware ≡ firmware.seen old.firmware
  pub after : seen new.controller ≡ after (machine_board old) (calls.Deliver message)
      (replies.Delivery (deliveries.Applied ack)) (seen old.controller)
  pub places : (c : ℕ) → c < cores (machine_board old) → place_in new.places c
      ≡ unwrap_or (place_of_effect c (message_effect (machine_board old) message ack message.kind))
      (place_in old.places c)

pub delivery_next : (messages : List MessageValue) (made : List AckValue)
    (old new : MachineValue) (k index : ℕ) (message : MessageValue) (ack : AckValue)
    → slice_get messages k ≡ Some message → IsDelivered message ack old new
    → IsNext messages made old (Deliver k) (Acked index ack) new
unfolding effect_of
delivery_next messages made old new k index message ack at is =
    let sent : indexed (reverse messages) k ≡ Some message =
    ap (λ (l : List MessageValue). slice_get l k) (reverse-reverse messages) ∙ at in
    record {
      board = is.board;
      firmware = is.firmware;
      controller = rw sent is.after;
      places = λ c inside. rw sent (is.places c inside);
    }

-- a machine's parts, when the power controller got a message and the places were noted
pub delivered_by : (old new : MachineValue) (fw : FirmwareValue) (ctl mid : ControllerValue)
    (places : List Place) (message : MessageValue) (ack : AckValue)
    → machine_of fw ctl places ≡ old → ctl.board ≡ fw.board
    → seen mid ≡ after ctl.board (calls.Deliver message)
    (replies.Delivery (deliveries.Applied ack)) (seen ctl)
    → ((c : ℕ) → c < cores fw.board → place_in new.places c
    ≡ unwrap_or (place_of_effect c (message_effect fw.board message ack message.kind))
    (place_in places c))
    → new.firmware ≡ fw → new.controller ≡ mid → IsDelivered message ack old new
delivered_by old new fw ctl mid places message ack e same is goes kept put =
    subst (λ (o : MachineValue). IsDelivered message ack o new) e (record {
      board = ap (λ (f : FirmwareValue). f.board) kept;
      firmware = ap firmware.seen kept;
      after = rw put (rw same at is);
      places = goes;
    })

-- The life after a Reset -----------------------------------------------------------------------

life_of_next : (t : Bool) (life : Option ℕ) (x : ℕ) → is_this_life life x ≡ true
    → is_some (cond t (next_life life) None) ≡ t
life_of_next true None x present = cc
life_of_next true (Some l) x present = refl
life_of_next false life x present = refl

-- a message that is acknowledged is of this life
acknowledged : (t : Bool) (ack given : AckValue)
    → replies.Delivery (deliveries.Applied ack)
    ≡ replies.Delivery (cond t (deliveries.Applied given) deliveries.Ignored)
    → t ≡ true
acknowledged true ack given e = refl
acknowledged false ack given e = cc

life_after : (b : BoardValue) (t : Bool) (v : Values)
    → (change b (cond t Begins Ends) v).life ≡ cond t (next_life v.life) None
life_after b true v = refl
life_after b false v = refl

-- after a Reset there is a life if its own was not the last
pub reset_life : (b : BoardValue) (v w : Values) (m : MessageValue) (ack : AckValue)
    → replies.Delivery (deliveries.Applied ack) ≡ reply b v (calls.Deliver m)
    → w ≡ after b (calls.Deliver m) (replies.Delivery (deliveries.Applied ack)) v
    → m.kind ≡ kinds.Reset → is_some w.life ≡ nat_lt m.life b.lives
unfolding reply delivery_of after effect_of
reset_life b v w m ack answered is kind =
    let t = nat_lt m.life b.lives in
    ap (λ (x : Values). is_some x.life) is
    ∙ ap (λ (k : Kind). is_some (change b (message_effect b m ack k) v).life) kind
    ∙ ap (λ (l : Option ℕ). is_some l) (life_after b t v)
    ∙ life_of_next t v.life m.life
    (acknowledged (is_this_life v.life m.life) ack (ack_by b v m m.kind) answered)
