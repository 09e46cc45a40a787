-- Worked examples: AFFINITY_INFO, the statuses that a core has had, and the messages that were
-- sent, the last first.
use Rattle.std.proofs.Common.{◌∷◌, ◌≡◌, [], false, List, map, refl, ℕ}
use Rattle.std.specs.Prelude.{slice_index_or}
use Rattle.psci_fw_spec.specs.declared.status.Status.{Status}
use Rattle.psci_fw_spec.specs.PowerCalls.{node_status, status_code, status_over}
use Rattle.psci_fw_spec.proofs.Steps.{◌⇒◌, affinity, AreAnsweredOn, board, boot, boots}
use Rattle.psci_fw_spec.proofs.Steps.{computing, enter_boot, enter_on, enter_reset, enter_wake}
use Rattle.psci_fw_spec.proofs.Steps.{error, history_of, message, off, on, on_3, one_cluster}
use Rattle.psci_fw_spec.proofs.Steps.{part, starts, Step, suspend, system_off, system_reset}
use Rattle.psci_fw_spec.proofs.Steps.{take, take_down, tall, uneven, value, version}
use Rattle.psci_board.proofs.Tables.{Gives}
use Rattle.psci_fw_spec.specs.declared.status.Status.TheVariants.{Off, On, Pending}
use Rattle.psci_fw_spec.specs.Effects.{sent_messages}
use Rattle.psci_fw_spec.specs.Statuses.{statuses}
use Rattle.psci_fw_spec.specs.declared.status.Status.TheVariants as statuses
use Rattle.psci_messages.specs.declared.kind.Kind.TheVariants as kinds

-- Boards --------------------------------------------------------------------------------------

affinities_of_boards : AreAnsweredOn
    -- one cluster: its level is the highest
    (one_cluster ⇒ (boot ⇒ boots
    ∷ affinity 2 0 ⇒ value 1
    ∷ affinity 3 0 ⇒ error 2
    ∷ affinity 0 1 ⇒ value 0
    ∷ affinity 0 2 ⇒ error 2 ∷ [])
    -- an uneven board
    ∷ uneven ⇒ (boot ⇒ boots
    ∷ on 0x102 0x40001000 7 ⇒ starts 3 1 0
    ∷ affinity 0x102 0 ⇒ value 2
    ∷ affinity 0x101 0 ⇒ value 1
    ∷ affinity 0x001 0 ⇒ error 2
    ∷ affinity 0x103 0 ⇒ error 2
    ∷ affinity 0x100 1 ⇒ value 2
    ∷ affinity 0 1 ⇒ value 0 ∷ [])
    -- three levels above the cores
    ∷ tall ⇒ (boot ⇒ boots
    ∷ affinity 0x10000 2 ⇒ value 1
    ∷ on 0x10100 0x40001000 7 ⇒ starts 3 1 0
    ∷ affinity 0x10100 0 ⇒ value 2
    ∷ affinity 0x10100 1 ⇒ value 2
    ∷ affinity 0x10000 1 ⇒ value 1
    ∷ affinity 0x10000 2 ⇒ value 2
    ∷ affinity 0 2 ⇒ value 0
    ∷ affinity 0 3 ⇒ value 0
    ∷ affinity 0 4 ⇒ error 2
    ∷ affinity 0x10200 0 ⇒ error 2 ∷ []) ∷ [])
unfolding computing
affinities_of_boards = record { history = refl; values = refl }

-- Statuses of nodes ---------------------------------------------------------------------------

-- the numbers of the statuses
numbers : map status_code (statuses.On ∷ statuses.Off ∷ statuses.Pending ∷ []) ≡ 0 ∷ 1 ∷ 2 ∷ []
numbers = refl

-- a domain by the statuses of its cores
abbrev status_of_three : Status → Status → Status → Status
status_of_three x y z =
    status_over (λ c. slice_index_or (x ∷ y ∷ z ∷ []) c statuses.On) (0 ∷ 1 ∷ 2 ∷ [])

statuses_of_three : status_of_three statuses.Off statuses.Off statuses.Off
    ∷ status_of_three statuses.Off statuses.Off statuses.Pending
    ∷ status_of_three statuses.Off statuses.Pending statuses.On ∷ []
    ≡ statuses.Off ∷ statuses.Pending ∷ statuses.On ∷ []
statuses_of_three = refl

-- nodes of the board, all of whose cores have this status: its system, the last node of each level,
-- and such as it does not have, which are OFF
abbrev status_of : Status → ℕ → ℕ → Status
status_of all level place = node_status board (λ c. all) (record { level = level; place = place })

statuses_of_nodes : status_of statuses.Off 2 0
    ∷ status_of statuses.On 0 3 ∷ status_of statuses.On 1 1 ∷ status_of statuses.On 2 0
    ∷ status_of statuses.On 0 4 ∷ status_of statuses.On 1 2 ∷ status_of statuses.On 2 1
    ∷ status_of statuses.On 3 0 ∷ []
    ≡ statuses.Off ∷ statuses.On ∷ statuses.On ∷ statuses.On
    ∷ statuses.Off ∷ statuses.Off ∷ statuses.Off ∷ statuses.Off ∷ []
unfolding computing
statuses_of_nodes = refl

-- Statuses ------------------------------------------------------------------------------------

-- after these calls, of this core
abbrev statuses_of : List Step × ℕ → List Status
statuses_of e = statuses board (history_of board e.0) e.1

statuses_of_a_core : Gives statuses_of
    -- every core is OFF before any life, and a call that is refused then changes nothing
    ((version 0 ∷ enter_wake 3 0 1 ∷ [], 0) ⇒ (Off ∷ [])
    ∷ (version 0 ∷ enter_wake 3 0 1 ∷ [], 3) ⇒ (Off ∷ [])
    -- the boot core is pending at the start of the life, and ON when it has entered; others are OFF
    ∷ (boot ∷ [], 0) ⇒ (On ∷ Pending ∷ Off ∷ [])
    ∷ (boot ∷ [], 3) ⇒ (Off ∷ [])
    -- a core is asked on, enters, goes off, and is asked on again; what leaves its status adds none
    ∷ (
      boot ∷ on_3 ∷ on_3 ∷ take kinds.Start 3 1 0 1 false ∷ enter_on 3 1 1 ∷ version 3
          ∷ suspend 3 0x1 0 0 ∷ take_down 3 1 1 1 ∷ enter_wake 3 1 2 ∷ off 3 ∷ take_down 3 1 2 0
          ∷ take_down 3 1 2 1 ∷ take_down 3 1 2 2 ∷ on_3 ∷ [],
      3,
    )
    ⇒ (Pending ∷ Off ∷ On ∷ Pending ∷ Off ∷ [])
    -- a new life: a core that was ON is OFF, and the boot core is pending before it is ON again
    ∷ (boot ∷ on_3 ∷ enter_on 3 1 1 ∷ enter_boot 0 2 1 ∷ [], 0)
    ⇒ (On ∷ Pending ∷ On ∷ Pending ∷ Off ∷ [])
    ∷ (boot ∷ on_3 ∷ enter_on 3 1 1 ∷ enter_boot 0 2 1 ∷ [], 1) ⇒ (Off ∷ [])
    ∷ (boot ∷ on_3 ∷ enter_on 3 1 1 ∷ enter_boot 0 2 1 ∷ [], 3) ⇒ (Off ∷ On ∷ Pending ∷ Off ∷ [])
    -- a new life that another core begins, and one more: the boot core is pending in both
    ∷ (boot ∷ enter_wake 3 2 1 ∷ [], 0) ⇒ (Pending ∷ On ∷ Pending ∷ Off ∷ [])
    ∷ (boot ∷ enter_wake 3 2 1 ∷ [], 3) ⇒ (Off ∷ [])
    ∷ (boot ∷ enter_wake 3 2 1 ∷ enter_boot 0 3 1 ∷ [], 0)
    ⇒ (On ∷ Pending ∷ On ∷ Pending ∷ Off ∷ [])
    -- a core that is OFF and begins a life by its park stays OFF; one that was ON is OFF
    ∷ (boot ∷ on_3 ∷ enter_on 3 1 1 ∷ enter_wake 3 2 1 ∷ [], 3) ⇒ (Off ∷ On ∷ Pending ∷ Off ∷ [])
    -- in a halting life a pending core that enters stays pending
    ∷ (boot ∷ on_3 ∷ system_off 0 ∷ enter_on 3 1 1 ∷ [], 3) ⇒ (Pending ∷ Off ∷ []) ∷ [])
unfolding computing
statuses_of_a_core = refl

-- Messages ------------------------------------------------------------------------------------

-- a Start, a Down of a suspend, of a park and of CPU_OFF, and a Reset, over two lives; calls that
-- are answered alone send nothing
all_sent : sent_messages board (history_of board
    (boot ∷ on_3 ∷ on_3 ∷ enter_on 3 1 1 ∷ suspend 3 0x1 0 0 ∷ take_down 3 1 1 1
    ∷ enter_reset 3 1 2 ∷ system_reset 0 ∷ enter_boot 0 2 1 ∷ version 0 ∷ off 0 ∷ []))
    ≡ message kinds.Down 0 2 1 (part 0 3 1 ∷ part 1 3 1 ∷ part 2 3 1 ∷ [])
    ∷ message kinds.Reset 0 1 1 []
    ∷ message kinds.Down 3 1 2 (part 0 3 2 ∷ part 1 3 2 ∷ [])
    ∷ message kinds.Down 3 1 1 (part 0 1 1 ∷ [])
    ∷ message kinds.Start 3 1 0 [] ∷ []
unfolding computing
all_sent = refl
