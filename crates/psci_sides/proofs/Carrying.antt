-- What orders leave of a machine that carries them out.
use Rattle.std.proofs.Common.{map}
use Rattle.psci_ctl_spec.specs.Replies.{effect_of, with_path_on}
use Rattle.psci_ctl_spec.specs.History.{AreValues, IsCall}
use Rattle.psci_ctl_spec.specs.declared.call.CtlCall.TheVariants as asked
use Rattle.psci_ctl_spec.specs.declared.kick.Kick.TheVariants as kicks
use Rattle.psci_ctl_spec.specs.declared.reply.CtlReply.TheVariants as replies
use Rattle.psci_fw_spec.specs.Effects.{after, FwExchange}
use Rattle.psci_fw_spec.specs.Answer.{answer}
use Rattle.psci_fw_spec.specs.History.{values_of}
use Rattle.psci_fw_spec.specs.Changes.{start_of_life}
use Rattle.psci_fw_spec.specs.declared.call.FwCall.TheVariants as calls
use Rattle.psci_world_spec.specs.Legal.{IsLegalPast, sent}
use Rattle.psci_world_spec.specs.declared.event.Event.TheVariants as events
use Rattle.psci_headline.specs.Laws.{Agree}
use Rattle.psci_headline.specs.Complete.{IsToldWhole}
use Rattle.psci_headline.specs.Settling.{AreAtRest}
use Rattle.psci_port.specs.Kept.{NoneCut}
use Rattle.psci_port.specs.Port.{cold, cut_by, Reboots, state, step}
use Rattle.psci_port.specs.Resting.{IsAtRest}
use Rattle.psci_port.specs.Rules.{AreTrue, HasLock, IsPortRun, IsTrue, May}
use Rattle.psci_port.specs.Served.{AllServed}
use Rattle.psci_fw.specs.Reactions.{seen}
use Rattle.psci_control.specs.Orders.{back_orders, switch}
use Rattle.psci_control.specs.Powered.{powered, switched}
use Rattle.psci_control.specs.declared.order.Ending.TheVariants as endings
use Rattle.psci_control.specs.declared.order.Order.TheVariants.{Acknowledge, End, Raise, Switch}
use Rattle.psci_control.proofs.Asked.{orders_power}
use Rattle.psci_enter.specs.SideOf.{IsRightly}
use Rattle.psci_sides.specs.Machine.{carried, ended, raised}
use Rattle.psci_sides.specs.Seen.{IsPowerOf, Shows}
use Rattle.psci_sides.specs.Steps as steps
use Rattle.psci_sides.proofs.Words.{◌&&◌, ◌++◌, ◌<◌, ◌==◌, ◌∙◌, ◌∷◌, ◌≡◌, [], ack_in, AckValue, Act}
use Rattle.psci_sides.proofs.Words.{ap, AreHeard, arith, Begins, BoardValue, Bool, change, cond}
use Rattle.psci_sides.proofs.Words.{core_of, CtlCall, CtlReply, Deepens, Delivers, Effect, Ends}
use Rattle.psci_sides.proofs.Words.{Entering, Enters, false, Finishes, firmware_values}
use Rattle.psci_sides.proofs.Words.{FirmwareSide, FirmwareValue, indexed, is_end, is_halting}
use Rattle.psci_sides.proofs.Words.{is_on_path, is_suspending, IsAsked, IsBoard, IsDue}
use Rattle.psci_sides.proofs.Words.{IsFirmwareOf, IsListed, IsMachineOf, IsMirror, IsSideOf}
use Rattle.psci_sides.proofs.Words.{LeavesLess, left, length, List, listed, lock_by, Machine}
use Rattle.psci_sides.proofs.Words.{MayFollow, MessageValue, nat_tests, None, Nothing, Option}
use Rattle.psci_sides.proofs.Words.{Order, orders_of, outstanding_in, Part, Record, refl, Regs}
use Rattle.psci_sides.proofs.Words.{Remembered, replied, reply, reply_in, request_of, Restarts}
use Rattle.psci_sides.proofs.Words.{said_of, Slot, Some, Start, Starts, Step, true, Values, ℕ}

-- an acknowledgement goes back, if one does
abbrev pub acked : Option AckValue → Machine → Machine
acked a m = record m { acks = listed a ++ m.acks }

-- the parts of a Down take effect
abbrev pub deepened : BoardValue → ℕ → List Part → Machine → Machine
deepened b c ps m = record m {
  depth = powered b (map (switch (record { number = c })) ps ++ []) m.depth;
}

-- what the orders of an effect leave
abbrev pub done : BoardValue → FirmwareValue → Effect → Option AckValue → Machine → Machine
done b f Nothing a m = acked a m
done b f (Starts c cause) a m = acked a (raised b c m)
done b f (Deepens c ps) a m = acked a (deepened b c ps m)
done b f Ends a m = ended b f endings.Off (acked a m)
done b f Begins a m = ended b f endings.Restart (acked a m)

backed : (b : BoardValue) (f : FirmwareValue) (a : Option AckValue) (orders : List Order)
    (m : Machine) → carried b f (back_orders a ++ orders) m ≡ carried b f orders (acked a m)
unfolding carried
backed b f None orders m = refl
backed b f (Some a) orders m = refl

switches : (b : BoardValue) (f : FirmwareValue) (c : ℕ) (ps : List Part) (orders : List Order)
    (m : Machine) → carried b f (map (switch (record { number = c })) ps ++ orders) m
    ≡ carried b f orders (deepened b c ps m)
unfolding carried powered
switches b f c [] orders m = refl
switches b f c (p ∷ ps) orders m =
    switches b f c ps orders (record m { depth = switched b c p.level p.depth m.depth })

pub carried_by : (b : BoardValue) (f : FirmwareValue) (g : Effect) (r : CtlReply) (m : Machine)
    → carried b f (orders_of g r) m ≡ done b f g (ack_in r) m
unfolding carried
carried_by b f g r m = grind (arith, nat_tests, backed, switches)

-- What is left -----------------------------------------------------------------------------------

pub done_mail : (b : BoardValue) (f : FirmwareValue) (g : Effect) (a : Option AckValue)
    (m : Machine) → (done b f g a m).mail ≡ m.mail
done_mail b f g a m = grind (arith, nat_tests)

pub done_acks : (b : BoardValue) (f : FirmwareValue) (g : Effect) (a : Option AckValue)
    (m : Machine) → (done b f g a m).acks ≡ listed a ++ m.acks
done_acks b f g a m = grind (arith, nat_tests)

pub done_lock : (b : BoardValue) (f : FirmwareValue) (g : Effect) (a : Option AckValue)
    (m : Machine) (l : Option ℕ) → m.lock ≡ l → (done b f g a m).lock ≡ lock_by g l
done_lock b f g a m l e = grind (arith, nat_tests)

-- orders leave the same of what is the same
powered_same : (b : BoardValue) (orders : List Order) (d e : ℕ → ℕ → ℕ)
    → ((level place : ℕ) → d level place ≡ e level place) → (level place : ℕ)
    → powered b orders d level place ≡ powered b orders e level place
unfolding powered
powered_same b [] d e same level place = same level place
powered_same b (Switch core at deep ∷ orders) d e same level place =
    powered_same b orders (switched b core.number at deep d) (switched b core.number at deep e)
    (λ l q. ap (λ n. cond (l == at && is_on_path b core.number l q) deep n) (same l q)) level place
powered_same b (Raise core ∷ orders) d e same level place =
    powered_same b orders (with_path_on b core.number d) (with_path_on b core.number e)
    (λ l q. ap (λ n. cond (is_on_path b core.number l q) 0 n) (same l q)) level place
powered_same b (Acknowledge ack ∷ orders) d e same level place =
    powered_same b orders d e same level place
powered_same b (End ending ∷ orders) d e same level place =
    powered_same b orders d e same level place

module _ (b : BoardValue) (f : FirmwareValue) (a : Option AckValue) (m : Machine) (v : Values)
    (cut : ℕ → ℕ → Bool) (is : IsPowerOf m.depth v.depth m.cut cut) where
  done_depth : (g : Effect) → MayFollow b v g → (level place : ℕ)
      → (done b f g a m).depth level place ≡ (change b g v).depth level place
  done_depth Nothing may level place = is.depth level place
  done_depth (Starts c cause) may level place =
      ap (λ n. cond (is_on_path b c level place) 0 n) (is.depth level place)
  done_depth (Deepens c ps) may level place =
      powered_same b (map (switch (record { number = c })) ps ++ []) m.depth v.depth is.depth level
      place
      ∙ orders_power b v (Deepens c ps) (replies.Kick kicks.Ignored) level place may refl
  done_depth Ends may level place = is.depth level place
  done_depth Begins may level place = refl

  done_cut : (g : Effect) (level place : ℕ)
      → (done b f g a m).cut level place ≡ cut_by b level place g (cut level place)
  done_cut g level place = grind (arith, nat_tests)

  pub done_power : (g : Effect) → MayFollow b v g
      → IsPowerOf (done b f g a m).depth (change b g v).depth (done b f g a m).cut
      (λ level place. cut_by b level place g (cut level place))
  done_power g may = record { depth = done_depth g may; cut = done_cut g }

-- What is given of the two sides, and what one step more of a machine's run is --------------------

-- What is proved of the firmware's side, of true runs, and of the definitions.
pub record Given (b : BoardValue) : Type 0 where
  pub board : IsBoard b
  pub world : (acts : List Act) → IsPortRun b acts → AreTrue b acts → IsMirror b (state b acts)
  pub valued : (acts : List Act) → IsPortRun b acts → AreValues b (state b acts).values
  pub power : (acts : List Act) → IsPortRun b acts → NoneCut b (state b acts)
  pub agrees : (acts : List Act) → IsPortRun b acts → AreTrue b acts
      → ((act : Act) → IsDue b (state b acts) act → ⊥)
      → AreHeard b (state b acts)
      × (is_halting b (state b acts).past ≡ false → AllServed b (state b acts)
      → AreAtRest b (state b acts).past × IsToldWhole b (state b acts).past)
  pub lowers : (acts : List Act) (act : Act) → IsPortRun b acts → AreTrue b acts
      → IsDue b (state b acts) act → left b (state b (act ∷ acts)) < left b (state b acts)
  pub rests : (acts : List Act) → IsPortRun b acts
      → ((act : Act) → IsDue b (state b acts) act → ⊥) → IsAtRest b (state b acts)
  pub agreed : (past : List Record) → IsLegalPast b past → Agree b past
  pub leaves : (acts : List Act) (k : ℕ) (m : MessageValue) → IsPortRun b acts → AreTrue b acts
      → indexed (sent (state b acts).past) k ≡ Some m
      → LeavesLess b (state b acts).values (sent (state b acts).past) m
  pub listed : (acts : List Act) (slot : Slot) (m : MessageValue) → IsPortRun b acts
      → AreTrue b acts → (firmware_values b (state b acts).past).outstanding slot ≡ Some m
      → IsListed b (sent (state b acts).past) slot m
  pub more : (e : FwExchange) (h : List FwExchange)
      → values_of b (e ∷ h) ≡ after b e.core e.call e.reply (values_of b h)
  pub may : (v : Values) (call : CtlCall) → IsCall b call
      → MayFollow b v (effect_of b call (reply b v call))
  pub enters : (acts : List Act) (f : FirmwareValue) (s : FirmwareSide)
      (start : Start) → IsPortRun b acts → IsFirmwareOf b f (state b acts)
      → IsSideOf b s (state b acts) → s.post ≡ Entering start
      → HasLock (state b acts) (core_of s)
      → IsRightly b acts s (Enters (core_of s) (said_of (length (sent (state b acts).past))
      (reply_in f (core_of s) (calls.Enter start))))
  pub called : (acts : List Act) (f g : FirmwareValue) (s : FirmwareSide)
      (regs : Regs) (r : Record) → IsPortRun b acts → AreTrue b acts
      → IsFirmwareOf b f (state b acts) → IsSideOf b s (state b acts)
      → ((state b acts).row (core_of s)).begun ≡ Some r
      → r.event ≡ events.Call (core_of s) regs → IsAsked (core_of s) (calls.Smc regs) f g
      → IsFirmwareOf b g (state b (Finishes (core_of s) ∷ acts))
      × IsRightly b acts (replied (is_suspending (request_of regs))
      (reply_in f (core_of s) (calls.Smc regs)) s) (Finishes (core_of s))
  pub entered : (acts : List Act) (f g : FirmwareValue) (s : FirmwareSide)
      (start : Start) (r : Record) → IsPortRun b acts → AreTrue b acts
      → IsFirmwareOf b f (state b acts) → IsSideOf b s (state b acts) → s.post ≡ Entering start
      → ((state b acts).row (core_of s)).begun ≡ Some r → r.event ≡ events.Enter (core_of s)
      → IsAsked (core_of s) (calls.Enter start) f g
      → IsFirmwareOf b g (state b (Finishes (core_of s) ∷ acts))
      × IsRightly b acts (replied false (reply_in f (core_of s) (calls.Enter start)) s)
      (Finishes (core_of s))
  pub alike : (v : Remembered) (c : ℕ) (s : Start) → v.life < s.life
      → answer b v c (calls.Enter s) ≡ answer b (start_of_life b 0) c (calls.Enter s)
  pub again : (acts : List Act) (f : FirmwareValue) (number : ℕ)
      (m : MessageValue) → IsPortRun b acts → AreTrue b acts
      → IsFirmwareOf b f (state b acts) → outstanding_in f number ≡ Some m
      → (k : ℕ) × IsTrue b (state b acts) (Delivers k m)
  pub opens : (before : List (List Record)) (f : FirmwareValue)
      → f.board ≡ b → seen f ≡ start_of_life b 0 → IsFirmwareOf b f (cold b before)
  pub anew : (acts : List Act) (f : FirmwareValue)
      → IsPortRun b acts → AreTrue b acts → f.board ≡ b → seen f ≡ start_of_life b 0
      → ((k : ℕ) (m : MessageValue) → May b (state b acts) (Delivers k m)
      → indexed (sent (state b acts).past) k ≡ Some m
      → is_end (effect_of b (asked.Deliver m)
      (reply b (state b acts).values (asked.Deliver m))) ≡ true
      → IsFirmwareOf b f (state b (Delivers k m ∷ acts)))
      × IsFirmwareOf b f (state b (Restarts ∷ acts))
      × (May b (state b acts) Reboots → IsFirmwareOf b f (state b (Reboots ∷ acts)))

-- A machine that is seen by a true run of a port.
pub record IsSeen (b : BoardValue) (m : Machine) (acts : List Act) : Type 0 where
  pub run : IsPortRun b acts
  pub so : AreTrue b acts
  pub tied : IsMachineOf b m (state b acts)

-- One step more is some acts more.
abbrev pub Follows : BoardValue → Machine → List Act → Step → Type 0
Follows b m acts x = (new : List Act) × Shows m x new × IsSeen b (steps.after b m x) (new ++ acts)

pub one_act : (b : BoardValue) (n : Machine) (acts : List Act) (act : Act) → IsPortRun b acts
    → AreTrue b acts → May b (state b acts) act → IsTrue b (state b acts) act
    → IsMachineOf b n (step b (state b acts) act) → IsSeen b n (act ∷ acts)
unfolding state
one_act b n acts act run so may true_act tied =
    record { run = (may, run); so = (true_act, so); tied = tied }

pub no_act : (b : BoardValue) (m n : Machine) (acts : List Act) → IsSeen b m acts
    → IsMachineOf b n (state b acts) → IsSeen b n acts
no_act b m n acts seen tied = record { run = seen.run; so = seen.so; tied = tied }
