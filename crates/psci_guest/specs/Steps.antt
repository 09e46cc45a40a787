-- What both keep, step by step, in a run of turns.
use Rattle.std.specs.Prelude.{◌≡◌, ℕ, ◌<◌, true, false, List, [], ◌∷◌, Option, None, Some}
use Rattle.psci_board.specs.Board.{BoardValue, cores}
use Rattle.psci_board.specs.declared.draft.Core.{Core}
use Rattle.psci_messages.specs.Message.{MessageValue}
use Rattle.psci_messages.specs.declared.start.Start.{Start}
use Rattle.psci_ctl_spec.specs.declared.call.CtlCall.{CtlCall}
use Rattle.psci_ctl_spec.specs.declared.call.CtlCall.TheVariants as asked
use Rattle.psci_ctl_spec.specs.Replies as changes
use Rattle.psci_ctl_spec.specs.History.{IsOfBoard}
use Rattle.psci_ctl_spec.specs.Replies.{reply}
use Rattle.psci_ctl_spec.specs.Values as controlled
use Rattle.psci_fw_spec.specs.Changes as lives
use Rattle.psci_fw_spec.specs.declared.call.FwCall.TheVariants as calls
use Rattle.psci_fw_spec.specs.declared.fault.FwFault.{FwFault}
use Rattle.psci_fw_spec.specs.declared.outcome.Outcome.{Outcome}
use Rattle.psci_fw_spec.specs.declared.reply.FwReply.{FwReply}
use Rattle.psci_fw_spec.specs.declared.reply.FwReply.TheVariants as replies
use Rattle.psci_fw_spec.specs.Answer.{answer}
use Rattle.psci_world_spec.specs.psci_abi.declared.registers.Regs.{Regs}
use Rattle.psci_world_spec.specs.declared.event.Event.{Event}
use Rattle.psci_world_spec.specs.declared.event.Event.TheVariants.{Call, Wake, Reset}
use Rattle.psci_world_spec.specs.declared.place.Place.TheVariants.{Running, Stopped}
use Rattle.psci_world_spec.specs.declared.said.Record.{Record}
use Rattle.psci_world_spec.specs.Legal.{controller_values, firmware_values, legal, place}
use Rattle.psci_guest.specs.Arrivals.{AreArrivals, kept_after, RunsIn, Says}
use Rattle.psci_guest.specs.Pair.{arrival_of, message_of, runs_in, stands_in, waiting_in}
use Rattle.psci_guest.specs.Pair.{with_call}
use Rattle.psci_guest.specs.Turns.{IsSettled, Turn, arrived, event_of, exchange, started_by}
use Rattle.psci_guest.specs.Turns.{turns}

-- what the firmware replies after these records to a core that calls
abbrev pub call_reply : BoardValue → List Record → ℕ → Regs → FwReply
call_reply b past c regs = answer b (firmware_values b past) c (calls.Smc regs)

-- and to one that enters by this start
abbrev pub entry_after : BoardValue → List Record → ℕ → Start → FwReply
entry_after b past c s = answer b (firmware_values b past) c (calls.Enter s)

-- Only this core may be at its start.
pub record IsDoor (b : BoardValue) (past : List Record) (one : ℕ) : Type 0 where
  pub sound : (s : Start) (m : MessageValue) → waiting_in (kept_after b past) one ≡ Some s
      → message_of (entry_after b past one s) ≡ Some m → IsOfBoard b m
  pub enters : (s : Start) → waiting_in (kept_after b past) one ≡ Some s
      → kept_after b (arrived b past)
      ≡ with_call b one (calls.Enter s) (entry_after b past one s) (kept_after b past)
  pub told : (s : Start) (core : Core) → core.number ≡ one
      → waiting_in (kept_after b past) one ≡ Some s
      → AreArrivals b past (arrival_of core s (entry_after b past one s))
  pub shut : waiting_in (kept_after b past) one ≡ None → arrived b past ≡ past
  pub none : waiting_in (kept_after b past) one ≡ None → AreArrivals b past None

-- No core is.
pub record IsShut (b : BoardValue) (past : List Record) : Type 0 where
  pub same : arrived b past ≡ past
  pub none : AreArrivals b past None

-- At most this one is, if one is named.
abbrev pub IsDoorOf : BoardValue → List Record → Option ℕ → Type 0
IsDoorOf b past None = IsShut b past
IsDoorOf b past (Some one) = (one < cores b) × IsDoor b past one

-- A running core calls.
pub record IsCallStep (b : BoardValue) (past : List Record) (c : ℕ) (regs : Regs) : Type 0 where
  pub sound : (m : MessageValue) → message_of (call_reply b past c regs) ≡ Some m → IsOfBoard b m
  pub kept : kept_after b (exchange b past (Call c regs))
      ≡ with_call b c (calls.Smc regs) (call_reply b past c regs) (kept_after b past)
  -- it is not refused
  pub free : (f : FwFault) → call_reply b past c regs ≡ replies.Fault f → ⊥
  pub says : (o : Outcome) → call_reply b past c regs ≡ replies.Out o
      → Says (legal b past (Call c regs)) o
  pub door : IsDoorOf b (exchange b past (Call c regs))
      (started_by (message_of (call_reply b past c regs)))

-- The power controller is asked this of a core.
pub record IsKickStep (b : BoardValue) (past : List Record) (event : Event) (call : CtlCall) (c : ℕ)
    : Type 0 where
  pub kept : kept_after b (exchange b past event) ≡ record {
    firmware = firmware_values b past;
    controller = changes.after b call (reply b (controller_values b past) call)
        (controller_values b past);
  }
  pub door : IsDoor b (exchange b past event) c

-- All of them, of each run of turns.
pub record AreSteps (b : BoardValue) : Type 0 where
  pub settled : (ts : List Turn) → IsSettled b (turns b ts)
  pub some : 0 < cores b
  -- before any turn the boot core enters
  pub begins : kept_after b [] ≡ record {
    firmware = lives.start_of_life b 0;
    controller = controlled.start_of_life b;
  }
  pub comes_on : turns b [] ≡ arrived b []
  -- a turn is an exchange, and then the entries
  pub turned : (ts : List Turn) (t : Turn)
      → turns b (t ∷ ts) ≡ arrived b (exchange b (turns b ts) (event_of t))
  pub first : IsDoor b [] 0
  pub runs : (ts : List Turn) (c life : ℕ) → c < cores b
      → runs_in (kept_after b (turns b ts)) life c ≡ true → RunsIn b (turns b ts) life c
  pub stands : (ts : List Turn) (c life : ℕ) → c < cores b
      → runs_in (kept_after b (turns b ts)) life c ≡ false → RunsIn b (turns b ts) life c → ⊥
  pub moves : (ts : List Turn) (c : ℕ) → c < cores b
      → stands_in (kept_after b (turns b ts)) c ≡ false → place b (turns b ts) c ≡ Running
  pub rests : (ts : List Turn) (c : ℕ) → c < cores b
      → stands_in (kept_after b (turns b ts)) c ≡ true → place b (turns b ts) c ≡ Stopped
  pub call : (ts : List Turn) (c life : ℕ) (regs : Regs) → c < cores b
      → RunsIn b (turns b ts) life c → IsCallStep b (turns b ts) c regs
  pub wake : (ts : List Turn) (c : ℕ) → c < cores b → place b (turns b ts) c ≡ Stopped
      → IsKickStep b (turns b ts) (Wake c) (asked.Wake (record { number = c })
      ((controller_values b (turns b ts)).starts c)) c
  pub reset : (ts : List Turn) (c : ℕ) → c < cores b
      → IsKickStep b (turns b ts) (Reset c) (asked.Reset (record { number = c })) c
