-- Safe, as tests that compute: one for each thing that is said of a moment.
use Rattle.std.specs.Prelude.{◌&&◌, ◌+◌, ◌==◌, ◌||◌, ◌∷◌, [], Bool, false, is_some, length, List}
use Rattle.std.specs.Prelude.{nat_le, None, not, Option, Some, true, ℕ}
use Rattle.std.specs.List.{list_all, list_any, range_with_len}
use Rattle.psci_fw_laws.specs.psci_board.Board.{BoardValue, cores, height, nodes, up}
use Rattle.psci_fw_laws.specs.psci_board.declared.draft.Node.{Node}
use Rattle.psci_world_spec.specs.declared.place.Place.{Place}
use Rattle.psci_world_spec.specs.declared.place.Place.TheVariants.{Started, Running, Stopped}
use Rattle.psci_world_spec.specs.declared.said.Record.{Record}
use Rattle.psci_world_spec.specs.Legal.{controller_values, firmware_history, firmware_values}
use Rattle.psci_world_spec.specs.Legal.{place}
use Rattle.psci_headline.specs.Safe.{depth_at, EnteredAt, executes, is_reported_off}
use Rattle.psci_headline.specs.Safe.{is_said_asleep, live_claims, Made, Maker, OfCall, OfLife}
use Rattle.psci_headline.specs.Safe.{taken_up, TakenUp, was_as_said, was_powered_down}

-- Everywhere on the board ---------------------------------------------------------------------

-- the test passes at each core
abbrev pub at_each_core : BoardValue → (ℕ → Bool) → Bool
at_each_core b test = list_all test (range_with_len 0 (cores b))

-- the test passes at each level
abbrev pub at_each_level : BoardValue → (ℕ → Bool) → Bool
at_each_level b test = list_all test (range_with_len 0 (height b + 1))

-- the test passes at each domain
abbrev pub at_each_domain : BoardValue → (Node → Bool) → Bool
at_each_domain b test = at_each_level b (λ level.
    list_all (λ place. test (record { level = level; place = place }))
    (range_with_len 0 (nodes b level)))

-- Power ---------------------------------------------------------------------------------------

-- while a core executes, each domain on its path is fully on
abbrev pub is_powered : BoardValue → List Record → Bool
is_powered b past = at_each_core b (λ c. not (executes (place b past c))
    || at_each_level b (λ level. depth_at b past level (up b level c) == 0))

-- a core that executes outside the firmware
abbrev pub executes_outside : Place → Bool
executes_outside Started = false
executes_outside Running = true
executes_outside Stopped = false

-- a core that is reported OFF does not run
abbrev pub is_off_stopped : BoardValue → List Record → Bool
is_off_stopped b past = at_each_core b (λ c. not (is_reported_off b past c)
    || not (executes_outside (place b past c)))

-- a core that is reported OFF was powered down since it last went on
abbrev pub is_off_down : BoardValue → List Record → Bool
is_off_down b past = at_each_core b (λ c. not (is_reported_off b past c)
    || was_powered_down b (firmware_values b past).life past c)

-- Claims --------------------------------------------------------------------------------------

-- a domain has at most one live claim
abbrev pub has_one : BoardValue → List Record → Node → Bool
has_one b past n = nat_le (length (live_claims b past n)) 1

-- each domain has
abbrev pub is_one : BoardValue → List Record → Bool
is_one b past = at_each_domain b (has_one b past)

-- there is no life, or a domain is fully on or as deep as a live claim says that was asked for
abbrev pub was_asked : BoardValue → List Record → Node → Bool
was_asked b past n =
    not (is_some (controller_values b past).life)
    || (depth_at b past n.level n.place == 0
    || list_any (λ k. k.depth == depth_at b past n.level n.place && k.asked)
    (live_claims b past n))

-- each domain is
abbrev pub is_asked : BoardValue → List Record → Bool
is_asked b past = at_each_domain b (was_asked b past)

-- Openings ------------------------------------------------------------------------------------

-- the opening of a core and a life, at its address and with its context id
abbrev pub is_fitting : EnteredAt → Option Made → Bool
is_fitting e None = false
is_fitting e (Some m) =
    (m.core == e.core && m.life == e.life)
    && (m.opening.address == e.opening.address && m.opening.context == e.opening.context)

-- each entry takes up an opening of its core and life, with its address and context id
abbrev pub is_each_open : BoardValue → List Record → Bool
is_each_open b past =
    list_all (λ t. is_fitting t.entered t.made) (taken_up b (firmware_history b past))

-- one life, or one call, made both
abbrev pub is_same_maker : Maker → Maker → Bool
is_same_maker (OfLife life) (OfLife other) = life == other
is_same_maker (OfCall before) (OfCall other) = before == other
is_same_maker maker other = false

-- two openings were there to take up, and they are the same one
abbrev pub is_same_made : Option Made → Option Made → Bool
is_same_made (Some m) (Some n) = is_same_maker m.maker n.maker
is_same_made made other = false

-- no two took up the same opening
abbrev pub are_apart : List TakenUp → Bool
are_apart [] = true
are_apart (t ∷ ts) = list_all (λ u. not (is_same_made t.made u.made)) ts && are_apart ts

-- no opening was taken up twice
abbrev pub is_each_once : BoardValue → List Record → Bool
is_each_once b past = are_apart (taken_up b (firmware_history b past))

-- Hardware states -----------------------------------------------------------------------------

-- a domain is not said to be off or in standby, or it was
abbrev pub was_real : BoardValue → List Record → Node → Bool
was_real b past n = not (is_said_asleep b past n) || was_as_said b past n

-- so it is with each domain
abbrev pub is_each_real : BoardValue → List Record → Bool
is_each_real b past = at_each_domain b (was_real b past)

-- All of it -----------------------------------------------------------------------------------

-- the world is safe at this moment
abbrev pub is_safe : BoardValue → List Record → Bool
is_safe b past =
    is_powered b past
    && ((is_off_stopped b past && is_off_down b past)
    && (is_one b past
    && (is_asked b past
    && ((is_each_open b past && is_each_once b past)
    && is_each_real b past))))

-- the world was safe at every moment of these records
abbrev pub is_always_safe : BoardValue → List Record → Bool
is_always_safe b [] = is_safe b []
is_always_safe b (r ∷ past) = is_safe b (r ∷ past) && is_always_safe b past
