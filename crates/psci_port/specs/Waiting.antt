-- What waits until its core stands. The rule goes by the power controller's values, and by the word
-- of each core: the start in whose stop it said that it stands.
use Rattle.std.specs.Prelude.{ℕ, Bool, false, not, ◌==◌, ◌&&◌}
use Rattle.psci_board.specs.Board.{BoardValue}
use Rattle.psci_ctl_spec.specs.psci_messages.Message.{MessageValue}
use Rattle.psci_ctl_spec.specs.psci_messages.declared.kind.Kind.{Kind}
use Rattle.psci_ctl_spec.specs.psci_messages.declared.kind.Kind.TheVariants.{Down, Off, Reset}
use Rattle.psci_ctl_spec.specs.psci_messages.declared.kind.Kind.TheVariants.{Start}
use Rattle.psci_ctl_spec.specs.declared.call.CtlCall.{CtlCall}
use Rattle.psci_ctl_spec.specs.declared.call.CtlCall.TheVariants as calls
use Rattle.psci_ctl_spec.specs.Values.{begins_stale, Values}
use Rattle.psci_ctl_spec.specs.Replies.{is_this_life, may_follow}

-- A message of this kind switches the power of its core in the core's present start: a Down whose
-- first part is live, whatever number it has, and a Start that starts the core once more.
abbrev pub switches : BoardValue → Values → MessageValue → Kind → Bool
switches b v m Down = not (begins_stale b v m.core.number m.parts)
switches b v m Start = may_follow b v m.core.number m.number
switches b v m Off = false
switches b v m Reset = false

-- a message of this life does
abbrev pub touches : BoardValue → Values → MessageValue → Bool
touches b v m = is_this_life v.life m.life && switches b v m m.kind

-- by its word a core stands in its stop of its last start
abbrev pub stands : Values → (ℕ → ℕ) → ℕ → Bool
stands v stopped c = stopped c == v.starts c

-- a message that touches its core's present start waits until the core stands, and so does a
-- wake-up; a reset waits for nothing
abbrev pub waits : BoardValue → Values → (ℕ → ℕ) → CtlCall → Bool
waits b v stopped (calls.Deliver m) = touches b v m && not (stands v stopped m.core.number)
waits b v stopped (calls.Wake core halted) = not (stands v stopped core.number)
waits b v stopped (calls.Reset core) = false
