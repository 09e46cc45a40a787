-- What an exchange and the entries of a turn leave, as contracts see it.
use Rattle.std.specs.Prelude.{◌<◌, ◌∷◌, ◌≡◌, [], false, List, None, Option, option_map, Some}
use Rattle.std.specs.Prelude.{true, ℕ}
use Rattle.std.proofs.Common.{◌∙◌, ap, refl, subst, sym}
use Rattle.psci_board.specs.Board.{BoardValue, cores, IsBoard}
use Rattle.psci_board.specs.declared.draft.Core.{Core}
use Rattle.psci_messages.specs.Message.{MessageValue}
use Rattle.psci_messages.specs.declared.kind.Kind.{Kind}
use Rattle.psci_messages.specs.declared.kind.Kind.TheVariants as kinds
use Rattle.psci_messages.specs.declared.start.Start.{Start}
use Rattle.psci_ctl_spec.specs.Replies as changes
use Rattle.psci_ctl_spec.specs.History.{IsOfBoard}
use Rattle.psci_ctl_spec.specs.Replies.{reply}
use Rattle.psci_ctl_spec.specs.Values as controlled
use Rattle.psci_ctl_spec.specs.declared.call.CtlCall.{CtlCall}
use Rattle.psci_ctl_spec.specs.declared.call.CtlCall.TheVariants as asked
use Rattle.psci_ctl_spec.specs.declared.kick.Kick.{Kick}
use Rattle.psci_ctl_spec.specs.declared.reply.CtlReply.{CtlReply}
use Rattle.psci_ctl_spec.specs.declared.reply.CtlReply.TheVariants as replied
use Rattle.psci_fw_spec.specs.Answer.{answer}
use Rattle.psci_fw_spec.specs.Changes as lives
use Rattle.psci_fw_spec.specs.declared.call.FwCall.{FwCall}
use Rattle.psci_fw_spec.specs.declared.call.FwCall.TheVariants as calls
use Rattle.psci_fw_spec.specs.declared.fault.FwFault.{FwFault}
use Rattle.psci_fw_spec.specs.declared.outcome.Outcome.{Outcome}
use Rattle.psci_fw_spec.specs.declared.reply.FwReply.{FwReply}
use Rattle.psci_fw_spec.specs.declared.reply.FwReply.TheVariants as replies
use Rattle.psci_world_spec.specs.Legal.{controller_values, firmware_values, place}
use Rattle.psci_world_spec.specs.declared.event.Event.TheVariants.{Call, Reset, Wake}
use Rattle.psci_world_spec.specs.declared.place.Place.TheVariants.{Running, Stopped}
use Rattle.psci_world_spec.specs.declared.said.Record.{Record}
use Rattle.psci_world_spec.specs.psci_abi.declared.registers.Regs.{Regs}
use Rattle.psci_fw.specs.Reactions.{seen as seen_firmware}
use Rattle.psci_guest.specs.Arrivals.{AreArrivals, kept_after, RunsIn}
use Rattle.psci_guest.specs.Guest.{IsAfter, IsKicked, IsTurned, Keeps}
use Rattle.psci_guest.specs.Pair.{arrival_of, board_of, entry_reply, IsLeft, IsPair, Kept}
use Rattle.psci_guest.specs.Pair.{kept_by, message_of, PairValue, runs_in, stands_in, waiting_in}
use Rattle.psci_guest.specs.Pair.{with_call}
use Rattle.psci_guest.specs.Steps.{AreSteps, call_reply, IsCallStep, IsDoor, IsDoorOf}
use Rattle.psci_guest.specs.Turns.{arrived, Calls, core_started, event_of, exchange, Resets}
use Rattle.psci_guest.specs.Turns.{started_by, Turn, turns, Wakes}
use Rattle.psci_guest.specs.declared.arrival.Arrival.{Arrival}

-- What is so before a turn of a core.
pub record IsGiven (b : BoardValue) (ts : List Turn) (c : ℕ) (old : PairValue) : Type 0 where
  pub steps : AreSteps b
  pub is : IsAfter b ts old
  pub on : c < cores b

-- by the value that a method has
pub given : ((b : BoardValue) → IsBoard b → AreSteps b) → (old p : PairValue) (c : ℕ) → old ≡ p
    → IsPair old → c < cores (board_of p) → (b : BoardValue) (ts : List Turn) → IsAfter b ts p
    → IsGiven b ts c old
given laws old p c same has on b ts is =
    let here : IsAfter b ts old = subst (IsAfter b ts) (sym same) is in record {
      steps = laws b (subst IsBoard here.board has.board);
      is = here;
      on = subst (λ x. c < cores x) is.board on;
    }

-- A call ------------------------------------------------------------------------------------------

module _ (b : BoardValue) (past : List Record) (p : PairValue) (is : Keeps b past p) where
  -- what the firmware answers
  pub answered : (c : ℕ) (call : FwCall)
      → answer (board_of p) (seen_firmware p.firmware) c call
      ≡ answer b (firmware_values b past) c call
  answered c call =
      ap (λ x. answer x (seen_firmware p.firmware) c call) is.board
      ∙ ap (λ (k : Kept). answer b k.firmware c call) is.kept

  -- what is left
  pub asked_keeps : (c : ℕ) (call : FwCall) (r : FwReply) (new : PairValue) (next : List Record)
      → kept_after b next ≡ with_call b c call r (kept_after b past)
      → IsLeft p new (with_call (board_of p) c call r (kept_by p)) → Keeps b next new
  asked_keeps c call r new next e has = record {
    board = has.board ∙ is.board;
    kept = has.kept ∙ ap (λ x. with_call x c call r (kept_by p)) is.board
        ∙ ap (with_call b c call r) is.kept ∙ sym e;
  }

-- What is so once a core has called.
pub record HasCalled (old : PairValue) (c : ℕ) (regs : Regs) (r : FwReply) (new : PairValue)
    : Type 0 where
  pub said : r ≡ answer (board_of old) (seen_firmware old.firmware) c (calls.Smc regs)
  pub left : IsLeft old new (with_call (board_of old) c (calls.Smc regs) r (kept_by old))

-- An entry ----------------------------------------------------------------------------------------

-- What is so once each core entered that was started.
pub record HasArrived (b : BoardValue) (past : List Record) (new : PairValue) (r : Option Arrival)
    : Type 0 where
  pub keeps : Keeps b (arrived b past) new
  pub told : AreArrivals b past r

-- What the call of it leaves.
pub record Arrives (old new : PairValue) (core : Core) (r : Option Arrival) : Type 0 where
  pub none : waiting_in (kept_by old) core.number ≡ None → (r ≡ None) × (new ≡ old)
  pub told : (s : Start) → waiting_in (kept_by old) core.number ≡ Some s
      → r ≡ arrival_of core s (entry_reply old core.number s)
  pub left : (s : Start) → waiting_in (kept_by old) core.number ≡ Some s
      → IsLeft old new (with_call (board_of old) core.number
      (calls.Enter s) (entry_reply old core.number s) (kept_by old))

-- the same of one that there may be
abbrev pub Comes : PairValue → PairValue → Option Core → Option Arrival → Type 0
Comes old new None r = (r ≡ None) × (new ≡ old)
Comes old new (Some core) r = Arrives old new core r

pub comes_none : (old new : PairValue) (one : Option Core) (r : Option Arrival) → one ≡ None
    → new ≡ old → r ≡ None → Comes old new one r
comes_none old new one r e same none = subst (λ o. Comes old new o r) (sym e) (none, same)

pub comes_some : (old new new' : PairValue) (one : Option Core) (core : Core)
    (r r' : Option Arrival) → one ≡ Some core → new ≡ new' → r ≡ r' → Arrives old new' core r'
    → Comes old new one r
comes_some old new new' one core r r' e same told has =
    subst (λ o. Comes old new o r) (sym e)
    (subst (λ x. Arrives old x core r) (sym same)
    (subst (λ x. Arrives old new' core x) (sym told) has))

module _ (b : BoardValue) (past : List Record) (old : PairValue) (is : Keeps b past old)
    (core : Core) (door : IsDoor b past core.number) where
  waits : (o : Option Start) → waiting_in (kept_by old) core.number ≡ o
      → waiting_in (kept_after b past) core.number ≡ o
  waits o e = ap (λ k. waiting_in k core.number) (sym is.kept) ∙ e

  pub arrives : (new : PairValue) (r : Option Arrival) → Arrives old new core r
      → HasArrived b past new r
  arrives new r has = by (waiting_in (kept_by old) core.number) refl
    where
      by : (o : Option Start) → waiting_in (kept_by old) core.number ≡ o → HasArrived b past new r
      by None e =
          let same = has.none e in
          let shut = waits None e in record {
            keeps = subst (λ l. Keeps b l new) (sym (door.shut shut))
                (subst (λ p. Keeps b past p) (sym same.1) is);
            told = subst (λ a. AreArrivals b past a) (sym same.0) (door.none shut);
          }
      by (Some s) e =
          let at = waits (Some s) e in
          let reply = answered b past old is core.number (calls.Enter s) in record {
            keeps = asked_keeps b past old is core.number (calls.Enter s)
                (entry_reply old core.number s) new (arrived b past)
                (door.enters s at
                ∙ ap (λ r. with_call b core.number (calls.Enter s) r (kept_after b past))
                (sym reply))
                (has.left s e);
            told = subst (λ a. AreArrivals b past a)
                (ap (arrival_of core s) (sym reply) ∙ sym (has.told s e))
                (door.told s core refl at);
          }

-- the same where one core may have been started, or none is
pub arrives_by : (b : BoardValue) (past : List Record) (old new : PairValue) (one : Option Core)
    (r : Option Arrival) → Keeps b past old → IsDoorOf b past (option_map (λ x. x.number) one)
    → Comes old new one r → HasArrived b past new r
arrives_by b past old new None r is shut has = record {
  keeps = subst (λ l. Keeps b l new) (sym shut.same)
      (subst (λ p. Keeps b past p) (sym has.1) is);
  told = subst (λ a. AreArrivals b past a) (sym has.0) shut.none;
}
arrives_by b past old new (Some core) r is door has =
    arrives b past old is core door.1 new r has

-- A wake-up event, or a reset ---------------------------------------------------------------------

-- what is left of it, by the question that it is
abbrev pub kicked : (controlled.Values → CtlCall) → BoardValue → CtlReply → Kept → Kept
kicked f b r k = record {
  firmware = k.firmware;
  controller = changes.after b (f k.controller) r k.controller;
}

-- What is so once it was asked.
pub record HasKicked (f : controlled.Values → CtlCall) (old : PairValue) (k : Kick)
    (new : PairValue) : Type 0 where
  pub said : replied.Kick k
      ≡ reply (board_of old) (kept_by old).controller (f (kept_by old).controller)
  pub left : IsLeft old new (kicked f (board_of old) (replied.Kick k) (kept_by old))

pub kick_keeps : (f : controlled.Values → CtlCall) (b : BoardValue) (past next : List Record)
    (old new : PairValue) (k : Kick) → Keeps b past old
    → kept_after b next ≡ kicked f b (reply b (controller_values b past)
    (f (controller_values b past))) (kept_after b past)
    → HasKicked f old k new → Keeps b next new
kick_keeps f b past next old new k is e has = record {
  board = has.left.board ∙ is.board;
  kept = has.left.kept ∙ ap (λ r. kicked f (board_of old) r (kept_by old)) has.said
      ∙ ap (λ x. kicked f x (reply x (kept_by old).controller (f (kept_by old).controller))
      (kept_by old)) is.board
      ∙ ap (λ (v : Kept). kicked f b (reply b v.controller (f v.controller)) v) is.kept ∙ sym e;
}

-- the core that a message may start is one of the board
pub started_on : (b : BoardValue) (o : Option MessageValue) (one : ℕ) → 0 < cores b
    → ((m : MessageValue) → o ≡ Some m → IsOfBoard b m) → Some one ≡ started_by o
    → one < cores b
started_on b None one some of e = absurd (cc)
started_on b (Some m) one some of e = by m.kind e
  where
    by : (kind : Kind) → Some one ≡ core_started m kind → one < cores b
    by kinds.Down f = absurd (cc)
    by kinds.Start f =
        let same : m.core.number ≡ one = cc in
        subst (λ x. x < cores b) same (of m refl).core
    by kinds.Off f = let same : 0 ≡ one = cc in subst (λ x. x < cores b) same some
    by kinds.Reset f = let same : 0 ≡ one = cc in subst (λ x. x < cores b) same some

-- Both stay both, of the same board --------------------------------------------------------------

pub both_arrive : (old new : PairValue) (core : Core) (r : Option Arrival) → IsPair old
    → Arrives old new core r → IsPair new
both_arrive old new core r is has = by (waiting_in (kept_by old) core.number) refl
  where
    by : (o : Option Start) → waiting_in (kept_by old) core.number ≡ o → IsPair new
    by None e = subst IsPair (sym (has.none e).1) is
    by (Some s) e = (has.left s e).both

pub both_come : (old new : PairValue) (one : Option Core) (r : Option Arrival) → IsPair old
    → Comes old new one r → IsPair new
both_come old new None r is has = subst IsPair (sym has.1) is
both_come old new (Some core) r is has = both_arrive old new core r is has

pub board_arrives : (old new : PairValue) (core : Core) (r : Option Arrival)
    → Arrives old new core r → board_of new ≡ board_of old
board_arrives old new core r has = by (waiting_in (kept_by old) core.number) refl
  where
    by : (o : Option Start) → waiting_in (kept_by old) core.number ≡ o
        → board_of new ≡ board_of old
    by None e = ap board_of (has.none e).1
    by (Some s) e = (has.left s e).board

pub board_comes : (old new : PairValue) (one : Option Core) (r : Option Arrival)
    → Comes old new one r → board_of new ≡ board_of old
board_comes old new None r has = ap board_of has.1
board_comes old new (Some core) r has = board_arrives old new core r has

-- Whole turns, as contracts see what they leave ---------------------------------------------------

-- what the power controller is asked
abbrev pub resets : Core → controlled.Values → CtlCall
resets core w = asked.Reset core

abbrev pub wakes : Core → controlled.Values → CtlCall
wakes core w = asked.Wake core (w.starts core.number)

-- A turn ------------------------------------------------------------------------------------------

module _ (b : BoardValue) (ts : List Turn) (core : Core) (old : PairValue)
    (g : IsGiven b ts core.number old) where
  abbrev c : ℕ
  c = core.number

  -- the whole of it, once the started core has entered
  whole : (t : Turn) (new : PairValue) (r : Option Arrival)
      → HasArrived b (exchange b (turns b ts) (event_of t)) new r → IsAfter b (t ∷ ts) new
  whole t new r has = subst (λ l. Keeps b l new) (sym (g.steps.turned ts t)) has.keeps

  kicks : (t : Turn) (mid new : PairValue) (r : Option Arrival)
      → Keeps b (exchange b (turns b ts) (event_of t)) mid
      → IsDoor b (exchange b (turns b ts) (event_of t)) c → Arrives mid new core r
      → IsKicked b ts t new r
  kicks t mid new r keeps door has =
      let all = arrives b (exchange b (turns b ts) (event_of t)) mid keeps core door new r has in
      record { arrival = all.told; after = whole t new r all }

  -- A reset ---------------------------------------------------------------------------------------

  module _ (k : Kick) (mid : PairValue) (has : HasKicked (resets core) old k mid) where
    reset_keeps : Keeps b (exchange b (turns b ts) (Reset c)) mid
    reset_keeps =
        kick_keeps (resets core) b (turns b ts) (exchange b (turns b ts) (Reset c)) old mid k
        g.is (g.steps.reset ts c g.on).kept has

    pub reset_turn : (new : PairValue) (r : Option Arrival) → Arrives mid new core r
        → IsKicked b ts (Resets c) new r
    reset_turn new r enters =
        kicks (Resets c) mid new r reset_keeps (g.steps.reset ts c g.on).door enters

  -- A wake-up event -------------------------------------------------------------------------------

  -- where the test says that a core stands
  pub at_rest : stands_in (kept_by old) c ≡ true → place b (turns b ts) c ≡ Stopped
  at_rest e = g.steps.rests ts c g.on (ap (λ k. stands_in k c) (sym g.is.kept) ∙ e)

  pub in_motion : stands_in (kept_by old) c ≡ false → place b (turns b ts) c ≡ Running
  in_motion e = g.steps.moves ts c g.on (ap (λ k. stands_in k c) (sym g.is.kept) ∙ e)

  module _ (stands : stands_in (kept_by old) c ≡ true) (k : Kick) (mid : PairValue)
      (has : HasKicked (wakes core) old k mid) where
    wake_keeps : Keeps b (exchange b (turns b ts) (Wake c)) mid
    wake_keeps =
        kick_keeps (wakes core) b (turns b ts) (exchange b (turns b ts) (Wake c)) old mid k
        g.is (g.steps.wake ts c g.on (at_rest stands)).kept has

    pub wake_turn : (new : PairValue) (r : Option Arrival) → Arrives mid new core r
        → IsKicked b ts (Wakes c) new r
    wake_turn new r enters =
        kicks (Wakes c) mid new r wake_keeps (g.steps.wake ts c g.on (at_rest stands)).door enters

  -- A call ----------------------------------------------------------------------------------------

  -- where the test says that a core runs
  pub in_present : (life : ℕ) → runs_in (kept_by old) life c ≡ true
      → RunsIn b (turns b ts) life c
  in_present life e =
      g.steps.runs ts c life g.on (ap (λ k. runs_in k life c) (sym g.is.kept) ∙ e)

  pub not_in_present : (life : ℕ) → runs_in (kept_by old) life c ≡ false
      → RunsIn b (turns b ts) life c → ⊥
  not_in_present life e =
      g.steps.stands ts c life g.on (ap (λ k. runs_in k life c) (sym g.is.kept) ∙ e)

  module _ (life : ℕ) (regs : Regs) (runs : runs_in (kept_by old) life c ≡ true) where
    step : IsCallStep b (turns b ts) c regs
    step = g.steps.call ts c life regs g.on (in_present life runs)

    module _ (r : FwReply) (mid : PairValue) (has : HasCalled old c regs r mid) where
      replies_so : r ≡ call_reply b (turns b ts) c regs
      replies_so = has.said ∙ answered b (turns b ts) old g.is c (calls.Smc regs)

      pub call_free : (f : FwFault) → r ≡ replies.Fault f → ⊥
      call_free f e = step.free f (sym replies_so ∙ e)

      pub call_keeps : Keeps b (exchange b (turns b ts) (Call c regs)) mid
      call_keeps =
          asked_keeps b (turns b ts) old g.is c (calls.Smc regs) r mid
          (exchange b (turns b ts) (Call c regs))
          (step.kept ∙ ap (λ x. with_call b c (calls.Smc regs) x (kept_after b (turns b ts)))
          (sym replies_so)) has.left

      call_door : IsDoorOf b (exchange b (turns b ts) (Call c regs)) (started_by (message_of r))
      call_door =
          subst (λ x. IsDoorOf b (exchange b (turns b ts) (Call c regs))
          (started_by (message_of x))) (sym replies_so) step.door

      -- the core that it may have started
      module _ (o : Outcome) (one : Option Core) (e : r ≡ replies.Out o)
          (may : option_map (λ x. x.number) one ≡ started_by o.message) where
        door_of : IsDoorOf b (exchange b (turns b ts) (Call c regs))
            (option_map (λ x. x.number) one)
        door_of =
            subst (IsDoorOf b (exchange b (turns b ts) (Call c regs)))
            (sym (may ∙ ap (λ x. started_by (message_of x)) (sym e))) call_door

        pub call_turn : (new : PairValue) (a : Option Arrival) (now : Option ℕ)
            → Comes mid new one a → now ≡ (kept_by new).controller.life
            → IsTurned b ts (Calls c regs) new
            (Some (record { outcome = o; arrival = a; life = now }))
        call_turn new a now comes life =
            let all = arrives_by b (exchange b (turns b ts) (Call c regs)) mid new one a
            call_keeps door_of comes in
            let after = whole (Calls c regs) new a all in record {
              told = record { outcome = o; arrival = a; life = now };
              is = refl;
              tells = record {
                says = step.says o (sym replies_so ∙ e);
                arrival = all.told;
                life = life ∙ ap (λ (v : Kept). v.controller.life) after.kept
                    ∙ ap (λ l. (controller_values b l).life) (g.steps.turned ts (Calls c regs));
              };
              after = after;
            }

-- As it comes on ----------------------------------------------------------------------------------

abbrev pub boot : Core
boot = record { number = 0 }

-- What is so of what is new.
pub record IsNew (b : BoardValue) (p : PairValue) : Type 0 where
  pub steps : AreSteps b
  pub board : board_of p ≡ b
  pub kept : kept_by p ≡ record {
    firmware = lives.start_of_life b 0;
    controller = controlled.start_of_life b;
  }

module _ (b : BoardValue) (old : PairValue) (is : IsNew b old) where
  keeps_none : Keeps b [] old
  keeps_none = record { board = is.board; kept = is.kept ∙ sym is.steps.begins }

  module _ (new : PairValue) (r : Option Arrival) (has : Arrives old new boot r) where
    first : HasArrived b [] new r
    first = arrives b [] old keeps_none boot is.steps.first new r has

    pub opened : IsAfter b [] new
    opened = subst (λ l. Keeps b l new) (sym is.steps.comes_on) first.keeps

    pub opened_by : AreArrivals b [] r
    opened_by = first.told
