-- Worked examples: which claims are confirmed after some calls, by looking backwards and by keeping
-- it.
use Rattle.std.proofs.Common.{◌++◌, ◌∷◌, Bool, List, [], false, map, refl, true}
use Rattle.psci_board.proofs.Tables.{◌⇒◌, Gives, Row}
use Rattle.psci_board.specs.Board.{BoardValue}
use Rattle.psci_messages.specs.declared.kind.Kind.TheVariants as kinds
use Rattle.psci_fw_spec.specs.Effects.{after, FwExchange}
use Rattle.psci_fw_spec.specs.History.{values_of}
use Rattle.psci_fw_spec.specs.Changes.{first_confirmed, start_of_life}
use Rattle.psci_fw_spec.specs.Values.{Values}
use Rattle.psci_fw_spec.proofs.Steps.{board, boot, computing, enter_boot, enter_on, enter_wake}
use Rattle.psci_fw_spec.proofs.Steps.{history_of, off, on, on_3, one_core, part, set_mode}
use Rattle.psci_fw_spec.proofs.Steps.{starts, Step, stops, suspend, system_reset, system_suspend}
use Rattle.psci_fw_spec.proofs.Steps.{take, take_down, tall, uneven, with_entry}

-- a group of a cluster of two cores and a cluster of one, and a group of one core: 0x000, 0x001;
-- 0x100; 0x10000
abbrev lopsided : BoardValue
lopsided = record board { levels = (2 ∷ 1 ∷ 1 ∷ []) ∷ (2 ∷ 1 ∷ []) ∷ (2 ∷ []) ∷ [] }

-- the values that are kept from call to call, after the calls and replies of a history
abbrev kept_after : BoardValue → List FwExchange → Values
kept_after b [] = start_of_life b 0
kept_after b (e ∷ h) = after b e.core e.call e.reply (kept_after b h)

-- each of these pasts leaves what is said of it, by its history and by the values that are kept
record Leave {Past Said : Type 0} (b : BoardValue) (history : Past → List FwExchange)
    (said : Values → Said) (rows : List (Row Past Said)) : Type 0 where
  by_history : Gives (λ past. said (values_of b (history past))) rows
  by_values : Gives (λ past. said (kept_after b (history past))) rows

-- of cores 0 to 3 and of one beyond the last, and of the domains of each level above
abbrev shown_confirmed : Values → List (List Bool)
shown_confirmed v =
    map (v.confirmed 0) (0 ∷ 1 ∷ 2 ∷ 3 ∷ 4 ∷ []) ∷ map (v.confirmed 1) (0 ∷ 1 ∷ 2 ∷ [])
    ∷ map (v.confirmed 2) (0 ∷ 1 ∷ []) ∷ map (v.confirmed 3) (0 ∷ []) ∷ []

-- after these calls these claims are confirmed, by the history and by the values that are kept
abbrev Confirms : BoardValue → List (Row (List Step) (List (List Bool))) → Type 0
Confirms b rows = Leave b (history_of b) shown_confirmed rows

-- The start of a life -------------------------------------------------------------------------

abbrev at_start : BoardValue → List (List Bool)
at_start b = map (λ level. map (first_confirmed b level) (0 ∷ 1 ∷ 2 ∷ [])) (1 ∷ 2 ∷ [])

confirmed_at_start : Gives at_start
    (tall ⇒ ((false ∷ true ∷ true ∷ []) ∷ (false ∷ true ∷ false ∷ []) ∷ [])
    ∷ uneven ⇒ ((false ∷ true ∷ false ∷ []) ∷ (false ∷ false ∷ false ∷ []) ∷ []) ∷ [])
unfolding computing
confirmed_at_start = refl

life_begun : Confirms board
    -- before any core has entered the domains off the boot path are confirmed; above the board and
    -- beside it there is none
    ([] ⇒ ((false ∷ true ∷ true ∷ true ∷ false ∷ []) ∷ (false ∷ true ∷ false ∷ [])
    ∷ (false ∷ false ∷ []) ∷ (false ∷ []) ∷ [])
    -- a life that is not the first begins so with the start of another core than the boot core; of
    -- its own path nothing is confirmed, and what it parks with is not either
    ∷ (boot ∷ on_3 ∷ enter_on 3 1 1 ∷ off 0 ∷ take_down 0 1 1 2 ∷ enter_wake 3 2 2 ∷ [])
    ⇒ ((false ∷ true ∷ true ∷ false ∷ false ∷ []) ∷ (false ∷ false ∷ false ∷ [])
    ∷ (false ∷ false ∷ []) ∷ (false ∷ []) ∷ []) ∷ [])
unfolding computing
life_begun = record { by_history = refl; by_values = refl }

-- Claims of the whole system ------------------------------------------------------------------

-- core 3 suspends the system in life 2, on a board of three levels; each acknowledgement confirms
-- the parts that were applied, from the core up
abbrev asleep : List Step
asleep = enter_boot 0 2 1 ∷ on 0x10000 0x40006000 2 ∷ enter_on 3 2 2 ∷ off 0 ∷ take_down 0 2 1 1
    ∷ system_suspend 3 0x40000200 9 ∷ []

system_suspended : Confirms lopsided
    (asleep
    ⇒ ((true ∷ true ∷ true ∷ false ∷ false ∷ []) ∷ (false ∷ true ∷ false ∷ [])
    ∷ (false ∷ false ∷ []) ∷ (false ∷ []) ∷ [])
    -- three of four parts, and all four
    ∷ (asleep ++ (take_down 3 2 2 3 ∷ []))
    ⇒ ((true ∷ true ∷ true ∷ true ∷ false ∷ []) ∷ (false ∷ true ∷ true ∷ [])
    ∷ (false ∷ true ∷ []) ∷ (false ∷ []) ∷ [])
    ∷ (asleep ++ (take_down 3 2 2 4 ∷ take_down 0 2 1 3 ∷ []))
    ⇒ ((true ∷ true ∷ true ∷ true ∷ false ∷ []) ∷ (true ∷ true ∷ true ∷ [])
    ∷ (true ∷ true ∷ []) ∷ (true ∷ []) ∷ [])
    -- woken, nothing on its path is confirmed, up to the system
    ∷ (asleep ++ (take_down 3 2 2 4 ∷ take_down 0 2 1 3 ∷ enter_wake 3 2 3 ∷ []))
    ⇒ ((true ∷ true ∷ true ∷ false ∷ false ∷ []) ∷ (true ∷ true ∷ false ∷ [])
    ∷ (true ∷ false ∷ []) ∷ (false ∷ []) ∷ []) ∷ [])
unfolding computing
system_suspended = record { by_history = refl; by_values = refl }

one_core_in_retention : Confirms one_core
    ((boot ∷ suspend 0 0x01000022 0 0 ∷ take_down 0 1 1 2 ∷ [])
    ⇒ ((true ∷ false ∷ false ∷ false ∷ false ∷ []) ∷ (true ∷ false ∷ false ∷ [])
    ∷ (false ∷ false ∷ []) ∷ (false ∷ []) ∷ []) ∷ [])
unfolding computing
one_core_in_retention = record { by_history = refl; by_values = refl }

core_acknowledged : Confirms board
    -- the last core of an OS-initiated request
    ((boot ∷ set_mode 0 1 ∷ suspend 0 0x02010333 0x40000100 0 ∷ take_down 0 1 1 2 ∷ [])
    ⇒ ((true ∷ true ∷ true ∷ true ∷ false ∷ []) ∷ (true ∷ true ∷ false ∷ [])
    ∷ (false ∷ false ∷ []) ∷ (false ∷ []) ∷ [])
    -- a core below the cluster was asked on: it is granted nothing, and nothing of it is confirmed,
    -- whatever the acknowledgement says
    ∷ (boot ∷ on_3 ∷ enter_on 3 1 1 ∷ off 3 ∷ on 0x100 0x40002000 0 ∷ take_down 3 1 1 2 ∷ [])
    ⇒ ((false ∷ true ∷ false ∷ true ∷ false ∷ []) ∷ (false ∷ false ∷ false ∷ [])
    ∷ (false ∷ false ∷ []) ∷ (false ∷ []) ∷ [])
    -- an acknowledgement is used in a halting life, too; that of the Reset confirms nothing
    ∷ (boot ∷ on_3 ∷ enter_on 3 1 1 ∷ suspend 3 0x2 0 0 ∷ system_reset 0 ∷ take_down 3 1 1 1
    ∷ take kinds.Reset 0 1 1 1 false ∷ [])
    ⇒ ((false ∷ true ∷ true ∷ true ∷ false ∷ []) ∷ (false ∷ false ∷ false ∷ [])
    ∷ (false ∷ false ∷ []) ∷ (false ∷ []) ∷ [])
    -- a core that enters in one stops at once: nothing on its path is confirmed
    ∷ (boot ∷ on_3 ∷ enter_on 3 1 1 ∷ off 3 ∷ take_down 3 1 1 2 ∷ system_reset 0
    ∷ enter_wake 3 1 2 ∷ [])
    ⇒ ((false ∷ true ∷ true ∷ false ∷ false ∷ []) ∷ (false ∷ false ∷ false ∷ [])
    ∷ (false ∷ false ∷ []) ∷ (false ∷ []) ∷ []) ∷ [])
unfolding computing
core_acknowledged = record { by_history = refl; by_values = refl }

-- whatever was replied
other_histories : Leave board (λ h. h) shown_confirmed
    -- a Down that names a core claims on the path of that one, at the levels of its parts; what is
    -- confirmed at a level without a part stays so
    (with_entry (off 0) (stops 3 1 0 (part 0 3 0 ∷ [])) (history_of board (boot ∷ []))
    ⇒ ((false ∷ true ∷ true ∷ false ∷ false ∷ []) ∷ (false ∷ true ∷ false ∷ [])
    ∷ (false ∷ false ∷ []) ∷ (false ∷ []) ∷ [])
    -- a CPU_ON counts by its message: nothing is confirmed on the path of the core that this names
    ∷ with_entry on_3 (starts 2 1 0) (history_of board (boot ∷ []))
    ⇒ ((false ∷ true ∷ false ∷ true ∷ false ∷ []) ∷ (false ∷ false ∷ false ∷ [])
    ∷ (false ∷ false ∷ []) ∷ (false ∷ []) ∷ []) ∷ [])
unfolding computing
other_histories = record { by_history = refl; by_values = refl }
