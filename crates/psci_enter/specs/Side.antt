-- The firmware's side of a port, of one core: what it keeps, and what each of its calls leaves.
use Rattle.std.specs.Prelude.{◌&&◌, ◌==◌, ◌≡◌, Bool, false, if◌then◌else◌, None, not, Option}
use Rattle.std.specs.Prelude.{Some, true, ℕ}
use Rattle.psci_board.specs.declared.draft.Core.{Core}
use Rattle.psci_messages.specs.Message.{MessageValue}
use Rattle.psci_messages.specs.declared.start.Cause.TheVariants as causes
use Rattle.psci_messages.specs.declared.start.Start.{Start}
use Rattle.psci_fw.specs.Reactions.{FirmwareValue, seen}
use Rattle.psci_fw_spec.specs.declared.call.FwCall.{FwCall}
use Rattle.psci_fw_spec.specs.declared.outcome.Act.{Act}
use Rattle.psci_fw_spec.specs.declared.outcome.Act.TheVariants as acts
use Rattle.psci_fw_spec.specs.declared.reply.FwReply.{FwReply}
use Rattle.psci_fw_spec.specs.declared.reply.FwReply.TheVariants as replies
use Rattle.psci_fw_spec.specs.Effects.{after}
use Rattle.psci_fw_spec.specs.Answer.{answer}
use Rattle.psci_enter.specs.declared.order.Look.{Look}
use Rattle.psci_enter.specs.declared.order.Look.TheVariants as look
use Rattle.psci_enter.specs.declared.order.Stop.{Stop}
use Rattle.psci_enter.specs.declared.order.Stop.TheVariants as stops
use Rattle.psci_enter.specs.declared.post.Door.{Door}
use Rattle.psci_enter.specs.declared.post.Post.{Post}
use Rattle.psci_enter.specs.declared.post.Post.TheVariants.{Armed, Entering, Leaving, Running}
use Rattle.psci_enter.specs.declared.post.Post.TheVariants.{Waiting, Woken}
use Rattle.psci_enter.specs.declared.side.FirmwareSide.{FirmwareSide}
use Rattle.psci_enter.specs.Orders.{stop_by}

-- the side of a core in a new life, which used no start
abbrev pub fresh : Core → FirmwareSide
fresh core = record {
  core = core;
  post = Waiting;
  used = 0;
  told = 0;
  cause = causes.Boot;
  stop = stops.Off;
}

-- elsewhere
abbrev pub at : Post → FirmwareSide → FirmwareSide
at post s = record s { post = post }

-- Where a core looks at its door -----------------------------------------------------------------

-- a core looks at its door
abbrev pub may_look : Post → Bool
may_look Waiting = true
may_look (Entering start) = false
may_look Running = false
may_look Leaving = false
may_look Armed = true
may_look Woken = false

-- a wake-up of its own may start a core that stands so
abbrev pub is_suspended : Stop → Bool
is_suspended stops.Suspended = true
is_suspended stops.Off = false
is_suspended stops.Ending = false

-- what a look finds, by whether a wake-up is pending: a start that the core did not use, before all
-- else; a wake-up that it did not tell in this start; or nothing
abbrev pub found : FirmwareSide → Door → Bool → Look
found s door pending =
    if not (door.opened == s.used) then look.Enter else
    (if pending && (is_suspended s.stop && not (s.told == s.used)) then look.Tell s.used
    else look.Rest)

-- it enters by the start that it reads at its door, if it reads one
abbrev pub entering_by : Option Start → FirmwareSide → FirmwareSide
entering_by None s = at Waiting s
entering_by (Some start) s = record s { post = Entering start; cause = start.cause }

-- it takes up what it reads
abbrev pub taking_up : Door → FirmwareSide → FirmwareSide
taking_up door s = entering_by door.start (record s { used = door.opened })

-- what a look leaves
abbrev pub looked : Look → Door → FirmwareSide → FirmwareSide
looked look.Enter door s = taking_up door s
looked (look.Tell word) door s = record s { told = word }
looked look.Rest door s = s

-- The firmware is asked --------------------------------------------------------------------------

-- where an outcome leaves a core
abbrev pub post_after : Act → Post
post_after (acts.Return code) = Running
post_after acts.Stop = Leaving
post_after (acts.Enter address context) = Running
post_after acts.Resume = Running

-- what an outcome leaves, by whether the call suspends
abbrev pub told : Bool → Act → Option MessageValue → FirmwareSide → FirmwareSide
told suspended act sent s =
    record s { post = post_after act; stop = stop_by suspended sent }

-- what a reply leaves, by whether the call suspends
abbrev pub replied : Bool → FwReply → FirmwareSide → FirmwareSide
replied suspended (replies.Out o) s = told suspended o.act o.message s
replied suspended (replies.Taken taken) s = s
replied suspended (replies.Fault fault) s = s

-- what the firmware replies to a core
abbrev pub reply_in : FirmwareValue → ℕ → FwCall → FwReply
reply_in f c call = answer f.board (seen f) c call

-- The firmware was asked this by a core.
pub record IsAsked (c : ℕ) (call : FwCall) (old new : FirmwareValue) : Type 0 where
  pub board : new.board ≡ old.board
  pub values : seen new ≡ after old.board c call (reply_in old c call) (seen old)

-- Woken by itself --------------------------------------------------------------------------------

-- an armed core has heard its own wake-up, which started it, or not
abbrev pub heard : Bool → Post
heard true = Woken
heard false = Armed
