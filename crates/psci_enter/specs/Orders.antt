-- What the firmware's side of a port orders, by what the firmware replied.
use Rattle.std.specs.Prelude.{ℕ, Bool, true, false, if◌then◌else◌, Option, None, Some}
use Rattle.psci_abi.specs.Calls.{request_of, result_of}
use Rattle.psci_abi.specs.declared.registers.Regs.{Regs}
use Rattle.psci_abi.specs.declared.request.Request.{Request}
use Rattle.psci_abi.specs.declared.request.Request.TheVariants as requests
use Rattle.psci_messages.specs.Message.{MessageValue}
use Rattle.psci_messages.specs.declared.kind.Kind.{Kind}
use Rattle.psci_messages.specs.declared.kind.Kind.TheVariants as kinds
use Rattle.psci_messages.specs.declared.start.Cause.{Cause}
use Rattle.psci_fw_spec.specs.declared.outcome.Act.{Act}
use Rattle.psci_fw_spec.specs.declared.outcome.Act.TheVariants as acts
use Rattle.psci_fw_spec.specs.declared.reply.FwReply.{FwReply}
use Rattle.psci_fw_spec.specs.declared.reply.FwReply.TheVariants as replies
use Rattle.psci_enter.specs.declared.order.Next.{Next}
use Rattle.psci_enter.specs.declared.order.Next.TheVariants as nexts
use Rattle.psci_enter.specs.declared.order.Orders.{Orders}
use Rattle.psci_enter.specs.declared.order.Stop.{Stop}
use Rattle.psci_enter.specs.declared.order.Stop.TheVariants as stops

-- a function that suspends its caller, which its own wake-up may start again
abbrev pub is_suspending : Request → Bool
is_suspending (requests.CpuSuspend state entry context) = true
is_suspending (requests.SystemSuspend entry context) = true
is_suspending request = false

-- how a core stands that sent a message of this kind, by whether its call suspends
abbrev pub stop_of : Bool → Kind → Stop
stop_of suspended kinds.Down = if suspended then stops.Suspended else stops.Off
stop_of suspended kinds.Start = stops.Off
stop_of suspended kinds.Off = stops.Ending
stop_of suspended kinds.Reset = stops.Ending

-- what it sent, if it sent something
abbrev pub stop_by : Bool → Option MessageValue → Stop
stop_by suspended None = stops.Off
stop_by suspended (Some m) = stop_of suspended m.kind

-- a core enters the normal world that was started so
abbrev pub entry : Cause → ℕ → ℕ → Next
entry cause address context =
    nexts.Enter (record { address = address; context = context; cause = cause })

-- what a caller does next; no call is answered with an entry
abbrev pub called_next : Cause → Regs → Option MessageValue → Act → Next
called_next cause regs m (acts.Return code) = nexts.Leave (result_of regs code)
called_next cause regs m acts.Stop =
    nexts.Stand (stop_by (is_suspending (request_of regs)) m)
called_next cause regs m (acts.Enter address context) = entry cause address context
called_next cause regs m acts.Resume = nexts.Resume

-- what a core does next that has entered; no entry is answered with a code
abbrev pub entered_next : Cause → Option MessageValue → Act → Next
entered_next cause m (acts.Return code) = nexts.Resume
entered_next cause m acts.Stop = nexts.Stand (stop_by false m)
entered_next cause m (acts.Enter address context) = entry cause address context
entered_next cause m acts.Resume = nexts.Resume

-- it goes on as it was
abbrev pub on : Next → Orders
on next = record { send = None; next = next }

-- what the reply to a call orders
abbrev pub called : Cause → Regs → FwReply → Orders
called cause regs (replies.Out o) =
    record { send = o.message; next = called_next cause regs o.message o.act }
called cause regs (replies.Taken taken) = on nexts.Resume
called cause regs (replies.Fault fault) = on (nexts.Refused fault)

-- what the reply to an entry orders
abbrev pub entered : Cause → FwReply → Orders
entered cause (replies.Out o) =
    record { send = o.message; next = entered_next cause o.message o.act }
entered cause (replies.Taken taken) = on nexts.Resume
entered cause (replies.Fault fault) = on (nexts.Refused fault)
