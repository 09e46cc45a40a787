-- What is known by the calls so far and their replies. A history has its newest exchange first, and
-- every definition looks backwards along it.
use Rattle.std.specs.Prelude.{◌&&◌, ◌++◌, ◌==◌, ◌∷◌, [], Bool, false, if◌then◌else◌, List}
use Rattle.std.specs.Prelude.{nat_lt, None, not, Option, option_and_then, option_map, slice_get}
use Rattle.std.specs.Prelude.{Some, true, unwrap_or, ℕ}
use Rattle.std.specs.Option.{option_or}
use Rattle.psci_board.specs.Board.{BoardValue, is_path_place}
use Rattle.psci_messages.specs.declared.kind.Kind.TheVariants.{Down}
use Rattle.psci_messages.specs.Message.{AckValue, MessageValue, only_if}
use Rattle.psci_messages.specs.Outstanding as slots
use Rattle.psci_messages.specs.Slots.{Change, is_kind, slot_of}
use Rattle.psci_fw_spec.specs.declared.mode.SuspendMode.{SuspendMode}
use Rattle.psci_fw_spec.specs.declared.mode.SuspendMode.TheVariants.{Platform}
use Rattle.psci_fw_spec.specs.declared.opening.Opening.{Opening}
use Rattle.psci_fw_spec.specs.declared.status.Status.{Status}
use Rattle.psci_fw_spec.specs.declared.status.Status.TheVariants as statuses
use Rattle.psci_fw_spec.specs.Changes.{confirms, first_confirmed, first_granted, first_opening}
use Rattle.psci_fw_spec.specs.Changes.{first_status, target}
use Rattle.psci_fw_spec.specs.Effects.{Acknowledges, Arrival, arrived, asked_on, claims_sent}
use Rattle.psci_fw_spec.specs.Effects.{Effect, effect, FwExchange, Halts, left, ran, Rests}
use Rattle.psci_fw_spec.specs.Effects.{SetsMode, slot_changes}
use Rattle.psci_fw_spec.specs.Phases.{Away, is_away, Pending, Phase}
use Rattle.psci_fw_spec.specs.Values.{Values}

-- Theorems speak of histories in which every reply is the answer. Of other ones the definitions
-- say something too, which no theorem needs: a core that entered and was answered Return counts as
-- one that goes on, a life begins anew at each start of another life, also an earlier one, and a
-- call that sends a message counts as accepted, whatever the message.

-- Lives ---------------------------------------------------------------------------------------

-- the life after an entry, by the core that entered and the life before
abbrev pub life_after : Option Arrival → ℕ → ℕ
life_after None before = before
life_after (Some a) before = a.start.life

-- the firmware's life: that of the last start that entered and was not refused, 0 before any
abbrev pub life : BoardValue → List FwExchange → ℕ
life b [] = 0
life b (e ∷ h) = life_after (arrived (effect b e)) (life b h)

-- whether a core that entered begins another life than this one
abbrev pub begins : ℕ → Option Arrival → Bool
begins before None = false
begins before (Some a) = not (a.start.life == before)

-- The last that is said -----------------------------------------------------------------------

-- what is said last in this life: by the last exchange that says something, which may look at the
-- history before it; and where none does since the life began, what holds at its start
abbrev pub last_in_life : {A : Type 0}
    → BoardValue → (List FwExchange → Effect → Option A) → A → List FwExchange → A
last_in_life b says first [] = first
last_in_life b says first (e ∷ h) =
    unwrap_or (says h (effect b e))
    (if begins (life b h) (arrived (effect b e)) then first else last_in_life b says first h)

-- The system ----------------------------------------------------------------------------------

-- an accepted SYSTEM_OFF, SYSTEM_RESET or SYSTEM_RESET2 says that the life is halting
abbrev pub says_halting : List FwExchange → Effect → Option Bool
says_halting before (Halts c m) = Some true
says_halting before e = None

-- whether SYSTEM_OFF, SYSTEM_RESET or SYSTEM_RESET2 was accepted in this life
abbrev pub halting : BoardValue → List FwExchange → Bool
halting b h = last_in_life b says_halting false h

-- an accepted PSCI_SET_SUSPEND_MODE says the mode
abbrev pub says_mode : List FwExchange → Effect → Option SuspendMode
says_mode before (SetsMode c mode) = Some mode
says_mode before e = None

-- the suspend mode: that of the last accepted change, platform-coordinated before any
abbrev pub mode : BoardValue → List FwExchange → SuspendMode
mode b h = last_in_life b says_mode Platform h

-- Known starts --------------------------------------------------------------------------------

-- a core that enters says the number of its start
abbrev pub says_known : ℕ → List FwExchange → Effect → Option ℕ
says_known c before e =
    option_and_then (λ a. only_if (c == a.core) (Some a.start.number)) (arrived e)

-- the known start of a core: the number by which it last entered in this life, 0 if it did not
abbrev pub known : BoardValue → List FwExchange → ℕ → ℕ
known b h c = last_in_life b (says_known c) 0 h

-- Phases --------------------------------------------------------------------------------------

-- an accepted CPU_ON says of its target that it is pending, and a core that enters and goes on says
-- of itself that it is not
abbrev pub says_pending : ℕ → List FwExchange → Effect → Option Bool
says_pending c before e =
    option_or (option_and_then (λ asked. only_if (c == target asked) (Some true)) (asked_on e))
    (option_and_then (λ core. only_if (c == core) (Some false)) (ran e))

-- whether a core was asked on, and has not gone on since; the boot core is at the life's start
abbrev pub is_pending : BoardValue → List FwExchange → ℕ → Bool
is_pending b h c = last_in_life b (says_pending c) (c == 0) h

-- each outcome of a core says what it does from then on
abbrev pub says_left : ℕ → List FwExchange → Effect → Option Phase
says_left c before e =
    option_and_then (λ l. only_if (c == l.core) (Some l.phase)) (left e)

-- what the last outcome of a core left it doing; with none it is away
abbrev pub phase_left : BoardValue → List FwExchange → ℕ → Phase
phase_left b h c = last_in_life b (says_left c) Away h

-- a core is pending, or else runs, is suspended or is away by its last outcome
abbrev pub phase : BoardValue → List FwExchange → ℕ → Phase
phase b h c = if is_pending b h c then Pending else phase_left b h c

-- Statuses ------------------------------------------------------------------------------------

-- a used acknowledgement says of a core that it is OFF: it is of the core's Down, a part of it was
-- applied, and the core was off or going off
abbrev pub is_gone : BoardValue → ℕ → List FwExchange → AckValue → Bool
is_gone b c before a =
    c == a.core.number
    && ((is_kind a.kind Down && nat_lt 0 a.applied) && is_away (phase b before c))

-- such an acknowledgement says that the core is OFF, and nothing else says so
abbrev pub says_off : BoardValue → ℕ → List FwExchange → Effect → Option Status
says_off b c before (Acknowledges a) = only_if (is_gone b c before a) (Some statuses.Off)
says_off b c before e = None

-- an accepted CPU_ON says that its target is ON_PENDING, a core that enters and goes on that it is
-- ON
abbrev pub says_status : BoardValue → ℕ → List FwExchange → Effect → Option Status
says_status b c before e =
    option_or
    (option_and_then (λ asked. only_if (c == target asked) (Some statuses.Pending)) (asked_on e))
    (option_or
    (option_and_then (λ core. only_if (c == core) (Some statuses.On)) (ran e))
    (says_off b c before e))

-- the status of a core: by the last accepted CPU_ON for it, the last time that it entered and went
-- on, or the last acknowledgement that it is off; with none it is ON_PENDING for the boot core, and
-- OFF for every other
abbrev pub status : BoardValue → List FwExchange → ℕ → Status
status b h c = last_in_life b (says_status b c) (first_status c) h

-- Openings ------------------------------------------------------------------------------------

-- a core that stops to be woken says where it goes on, if it powers down
abbrev pub says_rest : ℕ → Effect → Option (Option Opening)
says_rest c (Rests core rest m) = only_if (c == core) (option_map (λ o. Some o) rest.opening)
says_rest c e = None

-- an accepted CPU_ON says the opening of its target, and a core that enters that its own is used up
abbrev pub says_opening : ℕ → List FwExchange → Effect → Option (Option Opening)
says_opening c before e =
    option_or
    (option_and_then (λ asked. only_if (c == target asked) (Some (Some asked.opening)))
    (asked_on e))
    (option_or (says_rest c e)
    (option_and_then (λ a. only_if (c == a.core) (Some None)) (arrived e)))

-- the opening of a core: by the last accepted CPU_ON for it or its last power-down suspend, if it
-- has not entered since; the boot core has one from the life's start on
abbrev pub opening : BoardValue → List FwExchange → ℕ → Option Opening
opening b h c = last_in_life b (says_opening c) (first_opening b c) h

-- Granted depths ------------------------------------------------------------------------------

-- what a Down claims of the domain of this level and place, if it is on its sender's path and the
-- Down has a part of the level
abbrev pub claim_on : BoardValue → ℕ → ℕ → MessageValue → Option ℕ
claim_on b level place m =
    only_if (is_path_place b m.core.number level place)
    (option_map (λ p. p.depth) (slice_get m.parts level))

-- a stopping core says the depth that it claims, and a core below that was asked on or entered
-- says 0; a core that parks enters first and claims then
abbrev pub says_granted : BoardValue → ℕ → ℕ → List FwExchange → Effect → Option ℕ
says_granted b level place before e =
    option_or (option_and_then (claim_on b level place) (claims_sent e))
    (option_or
    (option_and_then (λ a. only_if (is_path_place b a.core level place) (Some 0)) (arrived e))
    (option_and_then (λ asked. only_if (is_path_place b (target asked) level place) (Some 0))
    (asked_on e)))

-- the granted depth of a domain: that of the last claim on it, or 0 where there is none or since
-- then a core below was asked on or entered; at the life's start power-down off the boot path
abbrev pub granted : BoardValue → List FwExchange → ℕ → ℕ → ℕ
granted b h level place =
    last_in_life b (says_granted b level place) (first_granted b level place) h

-- Outstanding messages ------------------------------------------------------------------------

-- what happened to outstanding messages, the last first
abbrev pub changes : BoardValue → List FwExchange → List Change
changes b [] = []
changes b (e ∷ h) =
    slot_changes (begins (life b h) (arrived (effect b e))) (effect b e) ++ changes b h

-- Confirmed claims ----------------------------------------------------------------------------

-- a used acknowledgement says that a claim is confirmed, where it confirms it
abbrev pub says_acknowledged : BoardValue → ℕ → ℕ → List FwExchange → Effect → Option Bool
says_acknowledged b level place before (Acknowledges a) =
    only_if (confirms b (record {
      known = known b before;
      granted = granted b before level place;
      sent = slots.outstanding (slot_of a.kind a.core) (changes b before);
    }) a (record { level = level; place = place }))
    (Some true)
says_acknowledged b level place before e = None

-- a claim is not confirmed when it is made, and there is none once a core below was asked on or
-- entered
abbrev pub says_confirmed : BoardValue → ℕ → ℕ → List FwExchange → Effect → Option Bool
says_confirmed b level place before e =
    option_or (option_map (λ depth. false) (says_granted b level place before e))
    (says_acknowledged b level place before e)

-- whether the last claim on a domain is confirmed: it is that of the life's start, or of a Down of
-- which an acknowledgement was used that had its part on the domain applied, and something is still
-- granted
abbrev pub confirmed : BoardValue → List FwExchange → ℕ → ℕ → Bool
confirmed b h level place =
    last_in_life b (says_confirmed b level place) (first_confirmed b level place) h

-- All of them ---------------------------------------------------------------------------------

-- the values that a history says
unfoldable pub values_of : BoardValue → List FwExchange → Values
values_of b h = record {
  life = life b h;
  halting = halting b h;
  mode = mode b h;
  known = known b h;
  status = status b h;
  phase = phase b h;
  opening = opening b h;
  granted = granted b h;
  confirmed = confirmed b h;
  outstanding = λ slot. slots.outstanding slot (changes b h);
}
