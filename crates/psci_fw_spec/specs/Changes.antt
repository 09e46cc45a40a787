-- What happens to the values, one change for each thing that can happen.
use Rattle.std.specs.List.{sum_by}
use Rattle.std.specs.Option.{option_or}
use Rattle.std.specs.Prelude.{◌&&◌, ◌==◌, Bool, false, if◌then◌else◌, List, nat_lt, None, not}
use Rattle.std.specs.Prelude.{Option, option_and_then, slice_get, Some, true, ℕ}
use Rattle.psci_board.specs.Board.{below, BoardValue, has_node, is_path_place}
use Rattle.psci_board.specs.declared.draft.Node.{Node}
use Rattle.psci_state.specs.PowerState.{power_down, running}
use Rattle.psci_messages.specs.Message.{AckValue, MessageValue, only_if}
use Rattle.psci_messages.specs.Slots.{Acknowledge, Change, changed, Clear, is_kind, Put, slot_of}
use Rattle.psci_messages.specs.declared.kind.Kind.TheVariants.{Down}
use Rattle.psci_messages.specs.declared.part.Part.{Part}
use Rattle.psci_messages.specs.declared.start.Start.{Start}
use Rattle.psci_fw_spec.specs.Values.{cleared, granted_with, updated, Values}
use Rattle.psci_fw_spec.specs.Phases as phases
use Rattle.psci_fw_spec.specs.Phases.{is_away, Phase, unless_pending}
use Rattle.psci_fw_spec.specs.declared.mode.SuspendMode.{SuspendMode}
use Rattle.psci_fw_spec.specs.declared.mode.SuspendMode.TheVariants.{Platform}
use Rattle.psci_fw_spec.specs.declared.opening.Opening.{Opening}
use Rattle.psci_fw_spec.specs.declared.status.Status.{Status}
use Rattle.psci_fw_spec.specs.declared.status.Status.TheVariants as statuses

-- Confirmed ---------------------------------------------------------------------------------------
-- Which claims an acknowledgement confirms: the power controller says that it has carried them out.

-- the part of a Down for this level, where the acknowledgement says that it was applied: of the
-- parts, which count from the core up, the first ones were
abbrev pub applied_part : AckValue → ℕ → Option MessageValue → Option Part
applied_part a level sent =
    only_if (is_kind a.kind Down && nat_lt level a.applied)
    (option_and_then (λ m. slice_get m.parts level) sent)

-- whether there is a part, and it was made at this sum of known starts
abbrev pub is_made_at : ℕ → Option Part → Bool
is_made_at known None = false
is_made_at known (Some p) = p.generation == known

-- what the claim on a domain is held against
pub record Standing : Type 0 where
  -- of each core the number of its last start that was seen to enter in this life, or 0
  pub known : ℕ → ℕ
  -- the depth that is granted to the domain
  pub granted : ℕ
  -- the message that is acknowledged, where it is outstanding
  pub sent : Option MessageValue

-- An acknowledgement confirms the claim on a domain: the domain is on the path of the message's
-- core, its part was applied, and it is the last claim on the domain: something is still granted,
-- and no core below has entered since.
abbrev pub confirms : BoardValue → Standing → AckValue → Node → Bool
confirms b now a n =
    is_path_place b a.core.number n.level n.place && (nat_lt 0 now.granted
    && is_made_at (sum_by now.known (below b n)) (applied_part a n.level now.sent))

-- nothing is confirmed on the path of a core
abbrev pub unconfirmed : BoardValue → ℕ → (ℕ → ℕ → Bool) → ℕ → ℕ → Bool
unconfirmed b c confirmed level place =
    if is_path_place b c level place then false else confirmed level place

-- a claim that was just made is not confirmed; without one all is as before
abbrev pub unless_claimed : Option Part → Bool → Bool
unless_claimed None before = before
unless_claimed (Some p) before = false

-- what is confirmed once these parts are claimed, each on the path of a core at the level of its
-- place in the list
abbrev pub claimed_anew : BoardValue → ℕ → List Part → (ℕ → ℕ → Bool) → ℕ → ℕ → Bool
claimed_anew b c parts confirmed level place =
    if is_path_place b c level place
    then unless_claimed (slice_get parts level) (confirmed level place)
    else confirmed level place

-- The start of a life -----------------------------------------------------------------------------

-- the boot core is ON_PENDING, every other core is OFF (DEN0022D, the primary core of a cold boot)
abbrev pub first_status : ℕ → Status
first_status c = if c == 0 then statuses.Pending else statuses.Off

-- the boot core is on its way, every other core is away
abbrev pub first_phase : ℕ → Phase
first_phase c = if c == 0 then phases.Pending else phases.Away

-- the boot core enters at the board's boot address, with context id 0
abbrev pub first_opening : BoardValue → ℕ → Option Opening
first_opening b c = if c == 0 then Some (record { address = b.boot; context = 0 }) else None

-- nothing is granted to the domains on the path of the boot core, power-down to all others
abbrev pub first_granted : BoardValue → ℕ → ℕ → ℕ
first_granted b level place =
    if has_node b (record { level = level; place = place }) && not (is_path_place b 0 level place)
    then power_down
    else running

-- the power-down of every domain off the path of the boot core is confirmed
abbrev pub first_confirmed : BoardValue → ℕ → ℕ → Bool
first_confirmed b level place =
    has_node b (record { level = level; place = place }) && not (is_path_place b 0 level place)

-- the values at the start of a life; before any core has entered the same, of life 0
abbrev pub start_of_life : BoardValue → ℕ → Values
start_of_life b life = record {
  life = life;
  halting = false;
  mode = Platform;
  known = λ c. 0;
  status = first_status;
  phase = first_phase;
  opening = first_opening b;
  granted = first_granted b;
  confirmed = first_confirmed b;
  outstanding = λ slot. None;
}

-- what a core finds that enters in this life: a life that is not the firmware's begins
abbrev pub in_life : BoardValue → ℕ → Values → Values
in_life b life v = if life == v.life then v else start_of_life b life

-- Changes -----------------------------------------------------------------------------------------

-- Messages ------------------------------------------------------------------------------------

-- what a change of the slots leaves outstanding
abbrev pub with_slots : Change → Values → Values
with_slots change v =
    record v { outstanding = λ slot. changed slot change (v.outstanding slot) }

-- a message was sent: it is outstanding
abbrev pub with_sent : MessageValue → Values → Values
with_sent m v = with_slots (Put m) v

-- Calls ---------------------------------------------------------------------------------------

-- a call left its core of this phase; a core that is pending stays so
abbrev pub with_phase : ℕ → Phase → Values → Values
with_phase c left v = record v { phase = updated v.phase c (unless_pending (v.phase c) left) }

-- the mode was set
abbrev pub with_mode : SuspendMode → Values → Values
with_mode mode v = record v { mode = mode }

-- A CPU_ON that was accepted: what it sent, and where its target goes on.
pub record PowerOn : Type 0 where
  -- the Start message, which names the target
  pub message : MessageValue
  -- entry point and context id
  pub opening : Opening

-- the number of the core that was asked on
abbrev pub target : PowerOn → ℕ
target asked = asked.message.core.number

-- the target of an accepted CPU_ON is on its way to its opening, and no domain on its path is
-- granted anything
abbrev pub with_pending : BoardValue → PowerOn → Values → Values
with_pending b asked v = with_sent asked.message (record v {
  status = updated v.status (target asked) statuses.Pending;
  phase = updated v.phase (target asked) phases.Pending;
  opening = updated v.opening (target asked) (Some asked.opening);
  granted = cleared b (target asked) v.granted;
  confirmed = unconfirmed b (target asked) v.confirmed;
})

-- How a core stops that will be woken, or goes off.
pub record Rest : Type 0 where
  -- suspended, or away
  pub phase : Phase
  -- where it goes on, if it powers down to be woken
  pub opening : Option Opening

-- a core has stopped so
abbrev pub with_rest : ℕ → Rest → Values → Values
with_rest c rest v = record (with_phase c rest.phase v) {
  opening = updated v.opening c (option_or rest.opening (v.opening c));
}

-- a Down was sent: the domains of its parts are granted what it claims
abbrev pub with_claims : BoardValue → MessageValue → Values → Values
with_claims b m v =
    with_sent m (record v {
      granted = granted_with b m.core.number m.parts v.granted;
      confirmed = claimed_anew b m.core.number m.parts v.confirmed;
    })

-- the system was asked to go off, or to be reset
abbrev pub with_halt : MessageValue → Values → Values
with_halt m v = with_sent m (record v { halting = true })

-- Entries -------------------------------------------------------------------------------------

-- a core has entered by this start: the life has begun, the start is known, the opening is used up,
-- no domain on its path is granted anything, and none of its messages is outstanding
abbrev pub with_arrival : BoardValue → ℕ → Start → Values → Values
with_arrival b c s v =
    let found = in_life b s.life v in
    with_slots (Clear (record { number = c })) (record found {
      known = updated found.known c s.number;
      opening = updated found.opening c None;
      granted = cleared b c found.granted;
      confirmed = unconfirmed b c found.confirmed;
    })

-- a core that has entered goes on: it is ON and runs
abbrev pub with_running : ℕ → Values → Values
with_running c v = record v {
  status = updated v.status c statuses.On;
  phase = updated v.phase c phases.Running;
}

-- Acknowledgements ----------------------------------------------------------------------------

-- an acknowledgement says that its core is off: it is of a Down of which a part was applied, and
-- the core is off or going off
abbrev pub turns_off : Values → AckValue → Bool
turns_off v a = (is_kind a.kind Down && nat_lt 0 a.applied) && is_away (v.phase a.core.number)

-- an acknowledgement of the outstanding message confirms the claim on this domain
abbrev pub confirms_on : BoardValue → Values → AckValue → ℕ → ℕ → Bool
confirms_on b v a level place =
    confirms b (record {
      known = v.known;
      granted = v.granted level place;
      sent = v.outstanding (slot_of a.kind a.core);
    }) a (record { level = level; place = place })

-- an acknowledgement of the outstanding message was taken
abbrev pub with_acknowledgement : BoardValue → AckValue → Values → Values
with_acknowledgement b a v = with_slots (Acknowledge a) (record v {
  status = updated v.status a.core.number
      (if turns_off v a then statuses.Off else v.status a.core.number);
  confirmed = λ level place.
      if confirms_on b v a level place then true else v.confirmed level place;
})
