-- One entry more: what was said of the event that stands for it tells whether it may follow.
use Rattle.std.proofs.Common.{◌<◌, ◌∙◌, ◌∷◌, ◌≡◌, ap, Bool, false, List, refl, Some, subst, sym}
use Rattle.std.proofs.Common.{true, ℕ}
use Rattle.std.specs.Prelude.{◌↔◌, IsTrue}
use Rattle.psci_world_spec.specs.psci_abi.declared.registers.Regs.{Regs}
use Rattle.psci_world_spec.specs.psci_board.declared.draft.Core.{Core}
use Rattle.psci_world_spec.specs.psci_board.Board.{BoardValue, cores}
use Rattle.psci_world_spec.specs.psci_ctl_spec.declared.call.CtlCall.TheVariants as asks
use Rattle.psci_world_spec.specs.psci_ctl_spec.declared.kick.Kick.TheVariants as kicks
use Rattle.psci_world_spec.specs.psci_ctl_spec.declared.reply.CtlReply.{CtlReply}
use Rattle.psci_world_spec.specs.psci_ctl_spec.declared.reply.CtlReply.TheVariants as replied
use Rattle.psci_world_spec.specs.psci_ctl_spec.Values.{CtlExchange}
use Rattle.psci_world_spec.specs.psci_ctl_spec.Replies.{last_start}
use Rattle.psci_world_spec.specs.psci_fw_spec.declared.call.FwCall.TheVariants as calls
use Rattle.psci_world_spec.specs.psci_fw_spec.declared.reply.FwReply.{FwReply}
use Rattle.psci_world_spec.specs.psci_fw_spec.Effects.{FwExchange}
use Rattle.psci_world_spec.specs.psci_messages.declared.start.Start.{Start}
use Rattle.psci_world_spec.specs.psci_messages.Message.{AckValue, MessageValue}
use Rattle.psci_world_spec.specs.declared.event.Event.{Event}
use Rattle.psci_world_spec.specs.declared.event.Event.TheVariants.{Call, Deliver, Enter, Reset}
use Rattle.psci_world_spec.specs.declared.event.Event.TheVariants.{Take, Wake}
use Rattle.psci_world_spec.specs.declared.place.Place.{Place}
use Rattle.psci_world_spec.specs.declared.place.Place.TheVariants.{Started, Running, Stopped}
use Rattle.psci_world_spec.specs.declared.said.Record.{Record}
use Rattle.psci_world_spec.specs.declared.said.Said.{Said}
use Rattle.psci_world_spec.specs.declared.said.Said.TheVariants.{Acked, Fw, Ignored, Kick}
use Rattle.psci_world_spec.specs.declared.said.Said.TheVariants.{Taken as Took}
use Rattle.psci_world_spec.specs.Legal.{acks, controller_values, if_stopped, indexed, legal}
use Rattle.psci_world_spec.specs.Legal.{legal_record, place, sent}
use Rattle.psci_world.specs.Settles.{WorldValue}
use Rattle.psci_audit.specs.Entries.{Asked, Controlled, Entry, MayBe, MayWake}
use Rattle.psci_audit.specs.Told.{asked, controlled, IsStep, IsTold, SaysDelivery, SaysKick}
use Rattle.psci_audit.specs.Told.{SaysOutcome, SaysTaken, Tells}
use Rattle.psci_audit.proofs.MayFollow.{call_next, deliver_next, enter_next, follows, may_follow}
use Rattle.psci_audit.proofs.MayFollow.{reset_next, take_next, wake_next}
use Rattle.psci_audit.proofs.Telling.{at_core, now_of}

-- All entries ----------------------------------------------------------------------------------

-- a record was made of the event
abbrev pub Happened : WorldValue → WorldValue → Event → Record → Type 0
Happened old new event r =
    (r ≡ legal_record old.board old.past event) × (new.past ≡ r ∷ old.past)

-- whatever list the records tell, an entry that may follow is told by the event
abbrev Next : WorldValue → Event → Entry → Type 0
Next old event e =
    MayBe old.board (now_of old.board old.past) e
    → IsTold old.board old.past event (legal old.board old.past event) e

-- what a test denies
pub not_so : {P : Type 0} → (P → IsTrue false) → P → ⊥
not_so f p = let e : IsTrue false = f p in cc

step : (old new : WorldValue) (event : Event) (e : Entry) (r : Record) (may : Bool)
    (Says : Type 0) → Happened old new event r → (IsTrue may ↔ Says)
    → (Says ↔ IsTold old.board old.past event r.said e) → Next old event e
    → IsStep old new e may
step old new event e r true Says is tested says next = λ entries tells.
    let said : r.said ≡ legal old.board old.past event = ap (λ (x : Record). x.said) is.0 in
    let same : r.event ≡ event = ap (λ (x : Record). x.event) is.0 in
    let told : IsTold old.board old.past event r.said e = says.0 (tested.0 refl) in (
      may_follow old.board old.past entries event r.said e tells said told,
      subst (λ (past : List Record). Tells old.board past (e ∷ entries)) (sym is.1)
          (subst (λ (x : Event). IsTold old.board old.past x r.said e) (sym same) told, tells),
    )
step old new event e r false Says is tested says next = λ entries tells follow.
    let said : r.said ≡ legal old.board old.past event = ap (λ (x : Record). x.said) is.0 in
    not_so tested.1 (says.1 (subst (λ (s : Said). IsTold old.board old.past event s e) (sym said)
    (next (follows old.board old.past entries e tells follow))))

-- an entry that can't be there may not follow
never : (old new : WorldValue) (e : Entry)
    → (MayBe old.board (now_of old.board old.past) e → ⊥) → IsStep old new e false
never old new e cannot entries tells follow =
    cannot (follows old.board old.past entries e tells follow)

-- Calls of the firmware ------------------------------------------------------------------------

call_says : (b : BoardValue) (past : List Record) (c : ℕ) (regs : Regs) (r : FwReply) (s : Said)
    → SaysOutcome s r ↔ IsTold b past (Call c regs) s (Asked (asked c (calls.Smc regs) r))
call_says b past c regs r (Fw act sends) =
    (λ e. ap (asked c (calls.Smc regs)) e, λ e. ap (λ (x : FwExchange). x.reply) e)
call_says b past c regs r s = (λ h. h, λ h. h)

pub called : (old new : WorldValue) (c : ℕ) (regs : Regs) (r : FwReply) (rec : Record)
    (may : Bool) → Happened old new (Call c regs) rec → (IsTrue may ↔ SaysOutcome rec.said r)
    → IsStep old new (Asked (asked c (calls.Smc regs) r)) may
called old new c regs r rec may is tested =
    step old new (Call c regs) (Asked (asked c (calls.Smc regs) r)) rec may
    (SaysOutcome rec.said r) is tested (call_says old.board old.past c regs r rec.said)
    (call_next old.board old.past c regs r)

enter_says : (b : BoardValue) (past : List Record) (c : ℕ) (start : Start) (r : FwReply)
    (s : Said) → last_start (controller_values b past) c ≡ Some start
    → SaysOutcome s r ↔ IsTold b past (Enter c) s (Asked (asked c (calls.Enter start) r))
enter_says b past c start r (Fw act sends) last = (
  λ e. (start, last, ap (asked c (calls.Enter start)) e),
  λ is. ap (λ (x : FwExchange). x.reply) is.2,
)
enter_says b past c start r s last = (λ h. h, λ h. h)

pub entered : (old new : WorldValue) (c : ℕ) (start : Start) (r : FwReply) (rec : Record)
    (may : Bool) → last_start (controller_values old.board old.past) c ≡ Some start
    → Happened old new (Enter c) rec → (IsTrue may ↔ SaysOutcome rec.said r)
    → IsStep old new (Asked (asked c (calls.Enter start) r)) may
entered old new c start r rec may last is tested =
    step old new (Enter c) (Asked (asked c (calls.Enter start) r)) rec may
    (SaysOutcome rec.said r) is tested (enter_says old.board old.past c start r rec.said last)
    (enter_next old.board old.past c start r)

pub enters_nowhere : (old new : WorldValue) (c : ℕ) (start : Start) (r : FwReply)
    → (c < cores old.board → ⊥) → IsStep old new (Asked (asked c (calls.Enter start) r)) false
enters_nowhere old new c start r cannot = never old new _ (λ may. cannot may.0)

pub enters_late : (old new : WorldValue) (c : ℕ) (start : Start) (r : FwReply)
    → (last_start (controller_values old.board old.past) c ≡ Some start → ⊥)
    → IsStep old new (Asked (asked c (calls.Enter start) r)) false
enters_late old new c start r cannot = never old new _ (λ may. cannot may.2)

take_says : (b : BoardValue) (past : List Record) (k : ℕ) (ack : AckValue) (r : FwReply)
    (s : Said) → indexed (acks past) k ≡ Some ack
    → SaysTaken s r ↔ IsTold b past (Take k) s (Asked (asked 0 (calls.Take ack) r))
take_says b past k ack r (Took taken) at =
    (λ e. (ack, at, ap (asked 0 (calls.Take ack)) e), λ is. ap (λ (x : FwExchange). x.reply) is.2)
take_says b past k ack r s at = (λ h. h, λ h. h)

pub took : (old new : WorldValue) (k : ℕ) (ack : AckValue) (r : FwReply) (rec : Record)
    (may : Bool) → indexed (acks old.past) k ≡ Some ack → Happened old new (Take k) rec
    → (IsTrue may ↔ SaysTaken rec.said r)
    → IsStep old new (Asked (asked 0 (calls.Take ack) r)) may
took old new k ack r rec may at is tested =
    step old new (Take k) (Asked (asked 0 (calls.Take ack) r)) rec may (SaysTaken rec.said r) is
    tested (take_says old.board old.past k ack r rec.said at)
    (take_next old.board old.past k 0 ack r at)

pub never_made : (old new : WorldValue) (ack : AckValue) (r : FwReply)
    → ((k : ℕ) → indexed (acks old.past) k ≡ Some ack → ⊥)
    → IsStep old new (Asked (asked 0 (calls.Take ack) r)) false
never_made old new ack r none = never old new _ (λ may. none may.1.0 may.1.1)

-- Calls of the power controller ----------------------------------------------------------------

deliver_says : (b : BoardValue) (past : List Record) (k : ℕ) (m : MessageValue) (r : CtlReply)
    (s : Said) → indexed (sent past) k ≡ Some m
    → SaysDelivery s r ↔ IsTold b past (Deliver k) s (Controlled (controlled (asks.Deliver m) r))
deliver_says b past k m r (Acked index ack) at =
    (λ e. (m, at, ap (controlled (asks.Deliver m)) e), λ is. ap (λ (x : CtlExchange). x.reply) is.2)
deliver_says b past k m r Ignored at =
    (λ e. (m, at, ap (controlled (asks.Deliver m)) e), λ is. ap (λ (x : CtlExchange). x.reply) is.2)
deliver_says b past k m r s at = (λ h. h, λ h. h)

pub delivered : (old new : WorldValue) (k : ℕ) (m : MessageValue) (r : CtlReply) (rec : Record)
    (may : Bool) → indexed (sent old.past) k ≡ Some m → Happened old new (Deliver k) rec
    → (IsTrue may ↔ SaysDelivery rec.said r)
    → IsStep old new (Controlled (controlled (asks.Deliver m) r)) may
delivered old new k m r rec may at is tested =
    step old new (Deliver k) (Controlled (controlled (asks.Deliver m) r)) rec may
    (SaysDelivery rec.said r) is tested (deliver_says old.board old.past k m r rec.said at)
    (deliver_next old.board old.past k m r at)

pub never_sent : (old new : WorldValue) (m : MessageValue) (r : CtlReply)
    → ((k : ℕ) → indexed (sent old.past) k ≡ Some m → ⊥)
    → IsStep old new (Controlled (controlled (asks.Deliver m) r)) false
never_sent old new m r none = never old new _ (λ may. none may.0.0 may.0.1)

reset_says : (b : BoardValue) (past : List Record) (core : Core) (r : CtlReply) (s : Said)
    → SaysKick s r
    ↔ IsTold b past (Reset core.number) s (Controlled (controlled (asks.Reset core) r))
reset_says b past core r (Kick start) =
    (λ e. ap (controlled (asks.Reset core)) e, λ is. ap (λ (x : CtlExchange). x.reply) is)
reset_says b past core r Ignored =
    (λ e. ap (controlled (asks.Reset core)) e, λ is. ap (λ (x : CtlExchange). x.reply) is)
reset_says b past core r s = (λ h. h, λ h. h)

pub was_reset : (old new : WorldValue) (core : Core) (r : CtlReply) (rec : Record) (may : Bool)
    → Happened old new (Reset core.number) rec → (IsTrue may ↔ SaysKick rec.said r)
    → IsStep old new (Controlled (controlled (asks.Reset core) r)) may
was_reset old new core r rec may is tested =
    step old new (Reset core.number) (Controlled (controlled (asks.Reset core) r)) rec may
    (SaysKick rec.said r) is tested (reset_says old.board old.past core r rec.said)
    (reset_next old.board old.past core.number r)

-- a core that was woken was stopped
stopped : (b : BoardValue) (past : List Record) (c : ℕ) (start : Start)
    → Kick start ≡ legal b past (Wake c) → place b past c ≡ Stopped
unfolding legal
stopped b past c start e =
    by_place (place b past c) _ (at_core b c _ (Kick start) e (λ no. cc)).1
  where
    by_place : (p : Place) (s : Said) → Kick start ≡ if_stopped p s → p ≡ Stopped
    by_place Stopped s f = refl
    by_place Started s f = absurd (cc)
    by_place Running s f = absurd (cc)

-- this is the start in which a core stopped, if it is stopped
abbrev pub MayBeWoken : WorldValue → ℕ → ℕ → Type 0
MayBeWoken w c halted =
    place w.board w.past c ≡ Stopped → halted ≡ (controller_values w.board w.past).starts c

wake_says : (w : WorldValue) (core : Core) (halted : ℕ) (r : CtlReply) (s : Said)
    → s ≡ legal w.board w.past (Wake core.number) → MayBeWoken w core.number halted
    → SaysKick s r ↔ IsTold w.board w.past (Wake core.number) s
    (Controlled (controlled (asks.Wake core halted) r))
wake_says w core halted r (Kick start) said last =
    let same = last (stopped w.board w.past core.number start said) in (
      λ e. ap (controlled (asks.Wake core halted)) e
          ∙ ap (λ (x : ℕ). controlled (asks.Wake core x) (replied.Kick (kicks.Started start))) same,
      λ is. ap (λ (x : CtlExchange). x.reply) is,
    )
wake_says w core halted r Ignored said last = (
  λ e. (halted, last, ap (controlled (asks.Wake core halted)) e),
  λ is. ap (λ (x : CtlExchange). x.reply) is.2,
)
wake_says w core halted r s said last = (λ h. h, λ h. h)

pub woken : (old new : WorldValue) (core : Core) (halted : ℕ) (r : CtlReply) (rec : Record)
    (may : Bool) → MayBeWoken old core.number halted → Happened old new (Wake core.number) rec
    → (IsTrue may ↔ SaysKick rec.said r)
    → IsStep old new (Controlled (controlled (asks.Wake core halted) r)) may
woken old new core halted r rec may last is tested =
    step old new (Wake core.number) (Controlled (controlled (asks.Wake core halted) r)) rec may
    (SaysKick rec.said r) is tested
    (wake_says old core halted r rec.said (ap (λ (x : Record). x.said) is.0) last)
    (wake_next old.board old.past core.number halted r)

pub wakes_nowhere : (old new : WorldValue) (core : Core) (halted : ℕ) (r : CtlReply)
    → (core.number < cores old.board → ⊥)
    → IsStep old new (Controlled (controlled (asks.Wake core halted) r)) false
wakes_nowhere old new core halted r cannot = never old new _ (λ may. cannot may.0)

last_of : (p : Place) (halted starts : ℕ) (r answered : CtlReply)
    → MayWake p halted starts r answered → p ≡ Stopped → halted ≡ starts
last_of Stopped halted starts r answered may e = may.0
last_of Started halted starts r answered may e = absurd (cc)
last_of Running halted starts r answered may e = absurd (cc)

pub wakes_late : (old new : WorldValue) (core : Core) (halted : ℕ) (r : CtlReply)
    → (MayBeWoken old core.number halted → ⊥)
    → IsStep old new (Controlled (controlled (asks.Wake core halted) r)) false
wakes_late old new core halted r cannot =
    never old new _
    (λ may. cannot (last_of (place old.board old.past core.number) halted _ r _ may.1))
