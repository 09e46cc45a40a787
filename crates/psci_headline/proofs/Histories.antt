-- Runs that several files of worked examples name.
use Rattle.psci_headline.proofs.Words.{◌++◌, ◌∷◌, [], List, run_from, ℕ}
use Rattle.psci_headline.specs.psci_abi.declared.registers.Format.{Format}
use Rattle.psci_headline.specs.psci_abi.declared.registers.Format.TheVariants.{Extended, Original}
use Rattle.psci_headline.specs.psci_board.Board.{BoardValue}
use Rattle.psci_headline.specs.psci_board.declared.draft.Node.{Node}
use Rattle.psci_headline.specs.psci_world_spec.declared.event.Event.{Event}
use Rattle.psci_headline.specs.psci_world_spec.declared.event.Event.TheVariants.{Deliver, Enter}
use Rattle.psci_headline.specs.psci_world_spec.declared.event.Event.TheVariants.{Wake}
use Rattle.psci_headline.specs.psci_world_spec.declared.said.Record.{Record}
use Rattle.psci_headline.proofs.world_spec.Scripts.{board, call, on_3, retention, system_reset}

-- two clusters of two cores, in the extended format
abbrev pub extended : BoardValue
extended = record board { format = Extended }

-- five cores: a cluster of three, and one of two
abbrev pub five : BoardValue
five = record board { levels = (3 ∷ 2 ∷ []) ∷ (2 ∷ []) ∷ [] }

-- a domain: its level and place
abbrev pub at : ℕ → ℕ → Node
at level place = record { level = level; place = place }

-- the records after these events, with what is legal to say of each
abbrev pub after : BoardValue → List Event → List Record
after b events = run_from b [] events

-- the boot core asks core 2 on
abbrev pub on_2 : Event
on_2 = call 0 0xc4000003 0x100 0x40002000 0

-- a core asks for standby of itself alone
abbrev pub standby : ℕ → Event
standby c = call c 0xc4000001 0x1 0 0

-- a core is suspended to power-down of itself alone, by the word of a format
abbrev pub down_word : Format → ℕ
down_word Original = 0x00010003
down_word Extended = 0x40000003

abbrev pub suspend : BoardValue → ℕ → Event
suspend b c = call c 0xc4000001 (down_word b.format) 0x40004000 5

-- core 3 is on, and nothing is outstanding for it
abbrev pub third_on : List Event
third_on = Enter 0 ∷ on_3 ∷ Deliver 0 ∷ Enter 3 ∷ []

-- so is core 1, the second one of the boot core's cluster
abbrev pub second_on : List Event
second_on = Enter 0 ∷ call 0 0xc4000003 0x1 0x40001000 7 ∷ Deliver 0 ∷ Enter 1 ∷ []

-- core 2, the first one of the other cluster
abbrev pub first_on : List Event
first_on = Enter 0 ∷ call 0 0xc4000003 0x100 0x40001000 7 ∷ Deliver 0 ∷ Enter 2 ∷ []

-- core 4, the last one of five
abbrev pub last_on : List Event
last_on = Enter 0 ∷ call 0 0xc4000003 0x101 0x40001000 7 ∷ Deliver 0 ∷ Enter 4 ∷ []

-- it is on by a later start, since it was woken from retention so often
abbrev pub on_in_start_2 : List Event
on_in_start_2 = third_on ++ retention 3 ∷ Deliver 1 ∷ Wake 3 ∷ Enter 3 ∷ []

abbrev pub on_in_start_3 : List Event
on_in_start_3 = on_in_start_2 ++ retention 3 ∷ Deliver 2 ∷ Wake 3 ∷ Enter 3 ∷ []

abbrev pub on_in_start_4 : List Event
on_in_start_4 = on_in_start_3 ++ retention 3 ∷ Deliver 3 ∷ Wake 3 ∷ Enter 3 ∷ []

abbrev pub boot_core_in_start_2 : List Event
boot_core_in_start_2 = third_on ++ retention 0 ∷ Deliver 1 ∷ Wake 0 ∷ Enter 0 ∷ []

-- the boot core has entered in a later life, or has asked for OS-initiated mode
abbrev pub life_2 : List Event
life_2 = Enter 0 ∷ system_reset 0 ∷ Deliver 0 ∷ Enter 0 ∷ []

abbrev pub life_3 : List Event
life_3 =
    Enter 0 ∷ system_reset 0 ∷ Deliver 0 ∷ Enter 0 ∷ system_reset 0 ∷ Deliver 1 ∷ Enter 0 ∷ []

abbrev pub os_mode : List Event
os_mode = Enter 0 ∷ call 0 0x8400000f 1 0 0 ∷ []

-- core 3 is on then
abbrev pub on_in_life_2 : List Event
on_in_life_2 = life_2 ++ on_3 ∷ Deliver 1 ∷ Enter 3 ∷ []

abbrev pub on_in_life_3 : List Event
on_in_life_3 = life_3 ++ on_3 ∷ Deliver 2 ∷ Enter 3 ∷ []

abbrev pub on_os_initiated : List Event
on_os_initiated = os_mode ++ on_3 ∷ Deliver 0 ∷ Enter 3 ∷ []

abbrev pub on_os_initiated_in_life_3 : List Event
on_os_initiated_in_life_3 =
    life_3 ++ call 0 0x8400000f 1 0 0 ∷ on_3 ∷ Deliver 2 ∷ Enter 3 ∷ []

-- core 2 and core 3 are on, the cores of one cluster
abbrev pub both_on : List Event
both_on = Enter 0 ∷ on_2 ∷ on_3 ∷ Deliver 0 ∷ Deliver 1 ∷ Enter 2 ∷ Enter 3 ∷ []

abbrev pub both_os_initiated : List Event
both_os_initiated = os_mode ++ on_2 ∷ on_3 ∷ Deliver 0 ∷ Deliver 1 ∷ Enter 2 ∷ Enter 3 ∷ []

-- on three levels: the last core is on
abbrev pub on_in_group : List Event
on_in_group = Enter 0 ∷ call 0 0xc4000003 0x10100 0x40001000 7 ∷ Deliver 0 ∷ Enter 3 ∷ []

-- A core is on after these events, and another one: board, events, core, the other one, the core's
-- life and start, and the number of its next message.
abbrev pub Case : Type 0
Case = BoardValue × List Event × ℕ × ℕ × ℕ × ℕ × ℕ

abbrev pub cases : List Case
cases =
    -- in_start_1: core 3 is on by its first start
    (board, third_on, 3, 0, 1, 1, 1)
    -- in_start_2: and by later ones
    ∷ (board, on_in_start_2, 3, 0, 1, 2, 2)
    -- in_start_3: the third
    ∷ (board, on_in_start_3, 3, 0, 1, 3, 3)
    -- in_start_4: the fourth
    ∷ (board, on_in_start_4, 3, 0, 1, 4, 4)
    -- in_life_2: it is on in life 2
    ∷ (board, on_in_life_2, 3, 0, 2, 1, 2)
    -- in_life_3: and in life 3
    ∷ (board, on_in_life_3, 3, 0, 3, 1, 3)
    -- boot_core: the boot core
    ∷ (board, third_on, 0, 3, 1, 1, 1)
    -- boot_core_in_life_2: the same in life 2
    ∷ (board, on_in_life_2, 0, 3, 2, 1, 2)
    -- boot_core_in_start_2: and in its second start
    ∷ (board, boot_core_in_start_2, 0, 3, 1, 2, 2)
    -- os_initiated: core 3 in OS-initiated mode
    ∷ (board, on_os_initiated, 3, 0, 1, 1, 1)
    -- os_initiated_in_life_3: the same in life 3
    ∷ (board, on_os_initiated_in_life_3, 3, 0, 3, 1, 3)
    -- in_the_extended_format: on a board of the extended format
    ∷ (extended, third_on, 3, 0, 1, 1, 1)
    -- second_core: core 1, beside the boot core
    ∷ (board, second_on, 1, 0, 1, 1, 1)
    -- first_of_its_cluster: core 2, in another cluster
    ∷ (board, first_on, 2, 0, 1, 1, 1)
    -- last_of_five: core 4 of five
    ∷ (five, last_on, 4, 0, 1, 1, 1)
    ∷ []
