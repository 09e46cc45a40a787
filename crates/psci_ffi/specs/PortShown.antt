-- What C holds of a core's monitor, what it is told of what its side of a port orders, and what a
-- monitor does without the firmware.
use Rattle.std.specs.Prelude.{if◌then◌else◌, ◌==◌, ◌≡◌, Bool, List, None, Option, Some, replicate}
use Rattle.std.specs.Prelude.{ℕ}
use Rattle.psci_messages.specs.declared.start.Cause.{Cause}
use Rattle.psci_messages.specs.declared.start.Start.{Start}
use Rattle.psci_messages.specs.Message.{MessageValue}
use Rattle.psci_enter.specs.declared.order.Next.{Next}
use Rattle.psci_enter.specs.declared.order.Next.TheVariants as nexts
use Rattle.psci_enter.specs.declared.order.Orders.{Orders}
use Rattle.psci_enter.specs.declared.order.Stop.{Stop}
use Rattle.psci_enter.specs.declared.order.Stop.TheVariants as stops
use Rattle.psci_enter.specs.declared.post.Door.{Door}
use Rattle.psci_enter.specs.declared.post.Post.{Post}
use Rattle.psci_enter.specs.declared.post.Post.TheVariants as posts
use Rattle.psci_enter.specs.declared.side.FirmwareSide.{FirmwareSide}
use Rattle.psci_enter.specs.declared.order.Look.{Look}
use Rattle.psci_enter.specs.declared.order.Look.TheVariants as looks
use Rattle.psci_enter.specs.Side.{found, looked, may_look}
use Rattle.psci_ffi.specs.declared.answer.GivenAsked.{GivenAsked}
use Rattle.psci_ffi.specs.declared.controller_calls.ControllerStart.{ControllerStart}
use Rattle.psci_ffi.specs.declared.port_core.PortCore.{PortCore}
use Rattle.psci_ffi.specs.declared.port_core.PortDoor.{PortDoor}
use Rattle.psci_ffi.specs.declared.port_core.PortOrders.{PortOrders}
use Rattle.psci_ffi.specs.Codes.{cause_said, no_cause, no_side, out_of_order, refusal}
use Rattle.psci_ffi.specs.Controllers.{cause_number, start_shown}
use Rattle.psci_ffi.specs.Shown.{depths_of, frame_shown, is_down, no_frame, nothing_asked}

-- What C holds ---------------------------------------------------------------------------------

-- the number of a post
abbrev pub post_number : Post → ℕ
post_number posts.Waiting = 0
post_number (posts.Entering start) = 1
post_number posts.Running = 2
post_number posts.Leaving = 3
post_number posts.Armed = 4
post_number posts.Woken = 5

-- the post of a number: the other way round, of a core that enters by this start if it does
abbrev pub post_given : ℕ → Start → Option Post
post_given number start =
    if number == 0 then Some posts.Waiting
    else (if number == 1 then Some (posts.Entering start)
    else (if number == 2 then Some posts.Running
    else (if number == 3 then Some posts.Leaving
    else (if number == 4 then Some posts.Armed
    else (if number == 5 then Some posts.Woken
    else None)))))

-- how a core stands, as a number
abbrev pub stop_number : Stop → ℕ
stop_number stops.Off = 0
stop_number stops.Suspended = 1
stop_number stops.Ending = 2

-- the other way round
abbrev pub stop_given : ℕ → Option Stop
stop_given number =
    if number == 0 then Some stops.Off
    else (if number == 1 then Some stops.Suspended
    else (if number == 2 then Some stops.Ending
    else None))

-- the start that a core enters by
abbrev pub start_kept : Post → Option Start
start_kept posts.Waiting = None
start_kept (posts.Entering start) = Some start
start_kept posts.Running = None
start_kept posts.Leaving = None
start_kept posts.Armed = None
start_kept posts.Woken = None

-- what C holds of a core's monitor
abbrev pub side_shown : FirmwareSide → PortCore
side_shown s = record {
  core = s.core.number;
  post = post_number s.post;
  used = s.used;
  told = s.told;
  cause = cause_number s.cause;
  stop = stop_number s.stop;
  start = start_shown s.core.number (start_kept s.post);
}

-- a start of this cause, if there is such a cause
abbrev pub start_by : ℕ → ℕ → Option Cause → Option Start
start_by life number None = None
start_by life number (Some cause) =
    Some (record { life = life; number = number; cause = cause })

-- a start that C gives
abbrev pub start_given : ControllerStart → Option Start
start_given start = start_by start.life start.number (cause_said start.cause)

-- what it says of a monitor, if each of its numbers says something
abbrev pub side_by : PortCore → Option Post → Option Cause → Option Stop → Option FirmwareSide
side_by core None cause stop = None
side_by core (Some post) None stop = None
side_by core (Some post) (Some cause) None = None
side_by core (Some post) (Some cause) (Some stop) = Some (record {
  core = record { number = core.core };
  post = post;
  used = core.used;
  told = core.told;
  cause = cause;
  stop = stop;
})

-- the same, with the start that it gives beside
abbrev pub side_with : PortCore → Option Start → Option FirmwareSide
side_with core None = None
side_with core (Some start) =
    side_by core (post_given core.post start) (cause_said core.cause) (stop_given core.stop)

-- the monitor of which C holds this, if a call wrote it
abbrev pub side_given : PortCore → Option FirmwareSide
side_given core = side_with core (start_given core.start)

-- What C holds says of this monitor which core's it is, what it used and told, and why it was
-- started last.
pub record Keeps (held : PortCore) (s : FirmwareSide) : Type 0 where
  pub core : held.core ≡ s.core.number
  pub used : held.used ≡ s.used
  pub told : held.told ≡ s.told
  pub cause : held.cause ≡ cause_number s.cause

-- a start with a number: number 0 is none
abbrev pub numbered : Start → Option Start
numbered start = if start.number == 0 then None else Some start

-- what a core reads at its door, with this start there
abbrev pub door_by : ℕ → Option Start → Option Door
door_by opened None = None
door_by opened (Some start) = Some (record { opened = opened; start = numbered start })

-- what a core reads at its door, if the start there has a cause
abbrev pub door_given : PortDoor → Option Door
door_given door = door_by door.opened (start_given door.start)

-- What is ordered ------------------------------------------------------------------------------

-- orders of these numbers, with which nothing is sent or asked
abbrev pub numbers : ℕ → ℕ → ℕ → ℕ → ℕ → PortOrders
numbers next cause x0 address stop = record {
  next = next;
  cause = cause;
  x0 = x0;
  address = address;
  message = no_frame;
  depths = replicate 4 0;
  stop = stop;
  asked = nothing_asked;
}

-- a refusal
abbrev pub orders_refused : ℕ → PortOrders
orders_refused what = numbers what 0 0 0 0

-- what a core does next, and what it leaves with
abbrev pub next_shown : Next → PortOrders
next_shown (nexts.Leave x0) = numbers 0 0 x0 0 0
next_shown (nexts.Enter entry) = numbers 1 (cause_number entry.cause) entry.context entry.address 0
next_shown nexts.Resume = numbers 2 0 0 0 0
next_shown (nexts.Stand stop) = numbers 3 0 0 0 (stop_number stop)
next_shown (nexts.Refused fault) = orders_refused (refusal fault)

-- how deep a message takes the domains of its core's path, if a Down is sent
abbrev pub sent_depths : Option MessageValue → List ℕ
sent_depths None = replicate 4 0
sent_depths (Some m) = if is_down m.kind then depths_of m.parts else replicate 4 0

-- orders with which this is sent
abbrev pub with_sent : Option MessageValue → PortOrders → PortOrders
with_sent m orders = record orders { message = frame_shown m; depths = sent_depths m }

-- orders beside which this is asked
abbrev pub with_asked : GivenAsked → PortOrders → PortOrders
with_asked asked orders = record orders { asked = asked }

-- what is ordered, as C sees it
abbrev pub orders_shown : Orders → PortOrders
orders_shown orders = with_sent orders.send (next_shown orders.next)

-- Turns ----------------------------------------------------------------------------------------

-- a core is at this post
abbrev pub is_at : Post → Post → Bool
is_at at post = post_number post == post_number at

-- what is said of a turn that a core may make at some posts: 0 that it was made
abbrev pub turn_said : (Post → Bool) → Option FirmwareSide → ℕ
turn_said may None = no_side
turn_said may (Some s) = if may s.post then 0 else out_of_order

-- what it leaves
abbrev pub turned : (Post → Bool) → (FirmwareSide → FirmwareSide) → PortCore
    → Option FirmwareSide → PortCore
turned may turn old None = old
turned may turn old (Some s) = if may s.post then side_shown (turn s) else old

-- of what C holds
abbrev pub turn_left : (Post → Bool) → (FirmwareSide → FirmwareSide) → PortCore → PortCore
turn_left may turn old = turned may turn old (side_given old)

-- Looks ----------------------------------------------------------------------------------------

-- the number of what a look finds
abbrev pub look_number : Look → ℕ
look_number looks.Enter = 0
look_number (looks.Tell word) = 1
look_number looks.Rest = 2

-- what a look at this door says, by whether a wake-up is pending
abbrev pub found_said : FirmwareSide → Option Door → Bool → ℕ
found_said s None pending = no_cause
found_said s (Some door) pending = look_number (found s door pending)

-- the same where the core may look
abbrev pub look_said : Option FirmwareSide → Option Door → Bool → ℕ
look_said None door pending = no_side
look_said (Some s) door pending =
    if may_look s.post then found_said s door pending else out_of_order

-- what a look at this door leaves
abbrev pub found_left : PortCore → FirmwareSide → Option Door → Bool → PortCore
found_left old s None pending = old
found_left old s (Some door) pending = side_shown (looked (found s door pending) door s)

-- the same where the core may look
abbrev pub looked_left : PortCore → Option FirmwareSide → Option Door → Bool → PortCore
looked_left old None door pending = old
looked_left old (Some s) door pending =
    if may_look s.post then found_left old s door pending else old

-- of what C holds
abbrev pub look_left : PortCore → Option Door → Bool → PortCore
look_left old door pending = looked_left old (side_given old) door pending
