-- Histories in which every reply is the answer.
use Rattle.std.specs.Ordering.{int_eq}
use Rattle.std.specs.Prelude.{◌&&◌, ◌==◌, ◌∷◌, ◌≡◌, [], Bool, false, List, None, Option, Some}
use Rattle.std.specs.Prelude.{true, ℕ}
use Rattle.psci_board.specs.Board.{BoardValue}
use Rattle.psci_messages.specs.Message.{MessageValue}
use Rattle.psci_messages.specs.Slots.{is_kind}
use Rattle.psci_messages.specs.declared.part.Part.{Part}
use Rattle.psci_messages.specs.declared.taken.Taken.{Taken}
use Rattle.psci_messages.specs.declared.taken.Taken.TheVariants as takens
use Rattle.psci_fw_spec.specs.Answer.{answer}
use Rattle.psci_fw_spec.specs.Effects.{FwExchange}
use Rattle.psci_fw_spec.specs.History.{values_of}
use Rattle.psci_fw_spec.specs.declared.call.FwCall.{FwCall}
use Rattle.psci_fw_spec.specs.declared.fault.FwFault.{FwFault}
use Rattle.psci_fw_spec.specs.declared.fault.FwFault.TheVariants as faults
use Rattle.psci_fw_spec.specs.declared.outcome.Act.{Act}
use Rattle.psci_fw_spec.specs.declared.outcome.Act.TheVariants as acts
use Rattle.psci_fw_spec.specs.declared.reply.FwReply.{FwReply}
use Rattle.psci_fw_spec.specs.declared.reply.FwReply.TheVariants as replies
use Rattle.psci_fw_spec.specs.declared.reply.FwReply.TheVariants.{Fault, Out}

-- Whether two replies are equal, as a test --------------------------------------------------------

-- each refusal by a number of its own
abbrev pub fault_code : FwFault → ℕ
fault_code faults.NoCore = 1
fault_code faults.NoLife = 2
fault_code faults.NotRunning = 3
fault_code faults.OldStart = 4

-- two lists with the same parts in the same order
abbrev pub are_same_parts : List Part → List Part → Bool
are_same_parts [] [] = true
are_same_parts (p ∷ ps) (q ∷ qs) =
    (p.level == q.level && (p.depth == q.depth && p.generation == q.generation))
    && are_same_parts ps qs
are_same_parts ps qs = false

-- two messages that agree in kind, core, life, number and parts are equal
abbrev pub is_same_message : MessageValue → MessageValue → Bool
is_same_message m n =
    is_kind m.kind n.kind && (m.core.number == n.core.number
    && (m.life == n.life && (m.number == n.number && are_same_parts m.parts n.parts)))

-- nothing is sent, or the same message
abbrev pub is_same_sent : Option MessageValue → Option MessageValue → Bool
is_same_sent None None = true
is_same_sent (Some m) (Some n) = is_same_message m n
is_same_sent None (Some n) = false
is_same_sent (Some m) None = false

-- the core goes on in the same way
abbrev pub is_same_act : Act → Act → Bool
is_same_act (acts.Return code) (acts.Return other) = int_eq code.0 other.0
is_same_act acts.Stop acts.Stop = true
is_same_act (acts.Enter address context) (acts.Enter other_address other_context) =
    address == other_address && context == other_context
is_same_act acts.Resume acts.Resume = true
is_same_act act other = false

-- an acknowledgement was used both times, or old both times
abbrev pub is_same_taken : Taken → Taken → Bool
is_same_taken takens.Used takens.Used = true
is_same_taken takens.Old takens.Old = true
is_same_taken t u = false

-- the same refusal, the same act and message, or the same of an acknowledgement
abbrev pub is_same_reply : FwReply → FwReply → Bool
is_same_reply (Out o) (Out p) = is_same_act o.act p.act && is_same_sent o.message p.message
is_same_reply (replies.Taken t) (replies.Taken u) = is_same_taken t u
is_same_reply (Fault f) (Fault g) = fault_code f == fault_code g
is_same_reply r s = false

-- Legal -------------------------------------------------------------------------------------------

-- the one legal reply to a call after a history
abbrev pub legal_reply : BoardValue → List FwExchange → ℕ → FwCall → FwReply
legal_reply b h c call = answer b (values_of b h) c call

-- a history in which every reply is the answer after the exchanges before it
abbrev pub IsLegal : BoardValue → List FwExchange → Type 0
IsLegal b [] = Unit {0}
IsLegal b (e ∷ h) = (e.reply ≡ legal_reply b h e.core e.call) × IsLegal b h

-- the same as a test
abbrev pub is_legal : BoardValue → List FwExchange → Bool
is_legal b [] = true
is_legal b (e ∷ h) = is_same_reply e.reply (legal_reply b h e.core e.call) && is_legal b h
