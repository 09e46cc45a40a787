-- The one reply to each call, by the values before it.
use Rattle.std.specs.Prelude.{◌&&◌, ◌+◌, ◌==◌, Bool, false, if◌then◌else◌, List, nat_lt, None}
use Rattle.std.specs.Prelude.{Option, option_map, Some, take, true, ℕ}
use Rattle.psci_board.specs.Board.{BoardValue, is_on_path}
use Rattle.psci_messages.specs.Message.{AckValue, MessageValue}
use Rattle.psci_messages.specs.declared.kind.Kind.{Kind}
use Rattle.psci_messages.specs.declared.kind.Kind.TheVariants as kinds
use Rattle.psci_messages.specs.declared.part.Part.{Part}
use Rattle.psci_messages.specs.declared.start.Cause.{Cause}
use Rattle.psci_messages.specs.declared.start.Cause.TheVariants as causes
use Rattle.psci_messages.specs.declared.start.Start.{Start}
use Rattle.psci_ctl_spec.specs.Values.{applied, first_cause, first_depth, first_starts, is_stale}
use Rattle.psci_ctl_spec.specs.Values.{laid, Values}
use Rattle.psci_ctl_spec.specs.declared.call.CtlCall.{CtlCall}
use Rattle.psci_ctl_spec.specs.declared.call.CtlCall.TheVariants as calls
use Rattle.psci_ctl_spec.specs.declared.delivery.Delivery.{Delivery}
use Rattle.psci_ctl_spec.specs.declared.delivery.Delivery.TheVariants as deliveries
use Rattle.psci_ctl_spec.specs.declared.kick.Kick.{Kick}
use Rattle.psci_ctl_spec.specs.declared.kick.Kick.TheVariants as kicks
use Rattle.psci_ctl_spec.specs.declared.reply.CtlReply.{CtlReply}
use Rattle.psci_ctl_spec.specs.declared.reply.CtlReply.TheVariants as replies

-- What a call with its reply comes down to --------------------------------------------------------

-- Every reply to every call comes down to one of these.
pub data Effect : Type 0 where
  -- the call was ignored, or nothing of its message was carried out
  Nothing : Effect
  -- a core was started
  Starts : (core : ℕ) (cause : Cause) → Effect
  -- these parts were applied on the path of a core
  Deepens : (core : ℕ) (parts : List Part) → Effect
  -- the life ended, and none follows
  Ends : Effect
  -- the next life began
  Begins : Effect

-- what an acknowledged message of this kind comes down to; a Reset in the last life is carried out
-- as Off
abbrev pub message_effect : BoardValue → MessageValue → AckValue → Kind → Effect
message_effect b m a kinds.Down = Deepens m.core.number (take a.applied m.parts)
message_effect b m a kinds.Start =
    if a.applied == 0 then Nothing else Starts m.core.number causes.On
message_effect b m a kinds.Off = Ends
message_effect b m a kinds.Reset = if nat_lt m.life b.lives then Begins else Ends

-- what a wake-up event or a reset of a core comes down to
abbrev pub kick_effect : ℕ → Cause → Kick → Effect
kick_effect c cause (kicks.Started s) = Starts c cause
kick_effect c cause kicks.Ignored = Nothing

-- what a call with this reply comes down to
unfoldable pub effect_of : BoardValue → CtlCall → CtlReply → Effect
effect_of b (calls.Deliver m) (replies.Delivery (deliveries.Applied a)) =
    message_effect b m a m.kind
effect_of b (calls.Deliver m) (replies.Delivery deliveries.Ignored) = Nothing
effect_of b (calls.Deliver m) (replies.Kick k) = Nothing
effect_of b (calls.Wake core halted) (replies.Delivery d) = Nothing
effect_of b (calls.Wake core halted) (replies.Kick k) = kick_effect core.number causes.Wake k
effect_of b (calls.Reset core) (replies.Delivery d) = Nothing
effect_of b (calls.Reset core) (replies.Kick k) = kick_effect core.number causes.Reset k

-- What is kept after a call, by what was kept before it, the call and its reply -------------------

-- one start more of one core
abbrev pub one_more : (ℕ → ℕ) → ℕ → ℕ → ℕ
one_more starts c k = if k == c then starts k + 1 else starts k

-- the last start of one core has this cause
abbrev pub with_cause : (ℕ → Cause) → ℕ → Cause → ℕ → Cause
with_cause causes c cause k = if k == c then cause else causes k

-- the path of a core runs
abbrev pub with_path_on : BoardValue → ℕ → (ℕ → ℕ → ℕ) → ℕ → ℕ → ℕ
with_path_on b c depth level place = if is_on_path b c level place then 0 else depth level place

-- the life after this one
abbrev pub next_life : Option ℕ → Option ℕ
next_life life = option_map (λ l. l + 1) life

-- a core is started: its path is fully on
abbrev pub with_start : BoardValue → ℕ → Cause → Values → Values
with_start b c cause v = record v {
  starts = one_more v.starts c;
  cause = with_cause v.cause c cause;
  depth = with_path_on b c v.depth;
}

-- what an effect leaves of the values
abbrev pub change : BoardValue → Effect → Values → Values
change b Nothing v = v
change b (Starts c cause) v = with_start b c cause v
change b (Deepens c ps) v = record v { depth = laid b c ps v.depth }
change b Ends v = record v { life = None; starts = λ c. 0; cause = first_cause }
change b Begins v = record {
  life = next_life v.life;
  starts = first_starts;
  cause = first_cause;
  depth = first_depth b;
}

-- what is kept after a call with this reply
unfoldable pub after : BoardValue → CtlCall → CtlReply → Values → Values
after b call reply v = change b (effect_of b call reply) v

-- Replies -----------------------------------------------------------------------------------------

-- Messages -------------------------------------------------------------------------------------

-- there is a life, and it is this one
abbrev pub is_this_life : Option ℕ → ℕ → Bool
is_this_life None life = false
is_this_life (Some present) life = present == life

-- a core may be started once more
abbrev pub may_start : BoardValue → Values → ℕ → Bool
may_start b v c = nat_lt (v.starts c) b.starts

-- and its last start is still the one of this number
abbrev pub may_follow : BoardValue → Values → ℕ → ℕ → Bool
may_follow b v c number = v.starts c == number && may_start b v c

-- the acknowledgement of a message: its kind, core, life and number, and what was done with it
abbrev pub ack_of : MessageValue → ℕ → Bool → AckValue
ack_of m count stale = record {
  kind = m.kind;
  core = m.core;
  life = m.life;
  number = m.number;
  applied = count;
  stale = stale;
}

-- What is done with a message of this life, by its kind. A Start starts its core, unless the core
-- was started since the firmware last knew it to enter, or can't be started once more. A Down has
-- its parts applied, as far as they go. Off and Reset are always carried out.
abbrev pub ack_by : BoardValue → Values → MessageValue → Kind → AckValue
ack_by b v m kinds.Down =
    ack_of m (applied b v m.core.number m.parts) (is_stale b v m.core.number m.parts)
ack_by b v m kinds.Start =
    if may_follow b v m.core.number m.number then ack_of m 1 false else ack_of m 0 true
ack_by b v m kinds.Off = ack_of m 1 false
ack_by b v m kinds.Reset = ack_of m 1 false

-- what becomes of a message: one of another life is ignored, and so is each without a life
unfoldable pub delivery_of : BoardValue → Values → MessageValue → Delivery
delivery_of b v m =
    if is_this_life v.life m.life
    then deliveries.Applied (ack_by b v m m.kind)
    else deliveries.Ignored

-- Wake-ups and resets --------------------------------------------------------------------------

-- the next start of a core
abbrev pub next_start : ℕ → Values → ℕ → Cause → Start
next_start life v c cause = record { life = life; number = v.starts c + 1; cause = cause }

-- a core is started where the test holds and there is a life
abbrev pub kick_if : Bool → Option ℕ → Values → ℕ → Cause → Kick
kick_if true (Some life) v c cause = kicks.Started (next_start life v c cause)
kick_if true None v c cause = kicks.Ignored
kick_if false life v c cause = kicks.Ignored

-- a wake-up event starts a core that stopped in its last start
unfoldable pub wake_of : BoardValue → Values → ℕ → ℕ → Kick
wake_of b v c halted = kick_if (may_follow b v c halted) v.life v c causes.Wake

-- a reset starts a core
unfoldable pub reset_of : BoardValue → Values → ℕ → Kick
reset_of b v c = kick_if (may_start b v c) v.life v c causes.Reset

-- All calls ------------------------------------------------------------------------------------

-- the one reply to a call
unfoldable pub reply : BoardValue → Values → CtlCall → CtlReply
reply b v (calls.Deliver m) = replies.Delivery (delivery_of b v m)
reply b v (calls.Wake core halted) = replies.Kick (wake_of b v core.number halted)
reply b v (calls.Reset core) = replies.Kick (reset_of b v core.number)

-- What is shown --------------------------------------------------------------------------------

-- by the life and the number of the last start, if there is a life and a start
abbrev pub start_shown : Option ℕ → ℕ → Cause → Option Start
start_shown None number cause = None
start_shown (Some life) number cause =
    if number == 0 then None else Some (record { life = life; number = number; cause = cause })

-- the last start of a core in this life
abbrev pub last_start : Values → ℕ → Option Start
last_start v c = start_shown v.life (v.starts c) (v.cause c)
