-- Worked examples: what a record says of the hardware state of a domain, and how deep it was; what
-- it says is OFF, and domains of which all cores are off, or one is not; by each axis.
use Rattle.std.proofs.Common.{◌++◌, ◌+◌, ◌∷◌, ◌≡◌, [], arith, Bool, false, List, None, Option}
use Rattle.std.proofs.Common.{refl, Some, true, ℕ}
use Rattle.psci_board.specs.Board.{BoardValue}
use Rattle.psci_board.specs.declared.draft.Node.{Node}
use Rattle.psci_board.proofs.Tables.{◌⇒◌, Gives, Row}
use Rattle.psci_ctl_spec.specs.psci_messages.declared.kind.Kind.TheVariants.{Down}
use Rattle.psci_fw_laws.specs.psci_fw_spec.NodeHwState.{hw_code}
use Rattle.psci_world_spec.specs.declared.event.Event.{Event}
use Rattle.psci_world_spec.specs.declared.event.Event.TheVariants.{Deliver, Enter, Take, Wake}
use Rattle.psci_world_spec.specs.declared.said.Record.{Record}
use Rattle.psci_world_spec.specs.declared.said.Said.{Said}
use Rattle.psci_world_spec.specs.Legal.{firmware_values, run_from}
use Rattle.psci_world_spec.proofs.Scripts.{acked, board, call, computing, nothing, off, on_3}
use Rattle.psci_world_spec.proofs.Scripts.{retention, status_3, stops, system_off, system_reset}
use Rattle.psci_world_spec.proofs.Scripts.{tall, value, version}
use Rattle.psci_headline.specs.Safe.{known_starts, said_hw, was_powered_down}
use Rattle.psci_headline.specs.Laws.{AllOff, is_off_depth, is_standby_depth, told_hw, told_off}
use Rattle.psci_headline.specs.Laws.{was_so_deep}
use Rattle.psci_headline.proofs.Checking.{each}
use Rattle.psci_headline.proofs.Histories.{after, at, Case, cases, extended, life_2, on_in_group}
use Rattle.psci_headline.proofs.Histories.{os_mode, suspend, third_on}
use Rattle.psci_headline.proofs.ToldOff.{is_all_off}

-- a core asks for the hardware state of a word at a level
abbrev state_of : ℕ → ℕ → ℕ → Event
state_of c word level = call c 0xc400000d word level 0

-- of which domain that tells that it is in the state
abbrev state_told_by : (BoardValue × ℕ × Event × Said) → Option Node
state_told_by (b, state, event, said) = told_hw b state event said

told_states : Gives state_told_by
    -- a core is off
    ((board, 1, state_of 0 0x101 0, value 1) ⇒ Some (at 0 3)
    -- a core is in standby
    ∷ (board, 2, state_of 0 0x101 0, value 2) ⇒ Some (at 0 3)
    -- a group on three levels
    ∷ (tall, 2, state_of 0 0x10000 2, value 2) ⇒ Some (at 2 1)
    -- by the word of 32 bits
    ∷ (board, 1, call 3 0x8400000d 0 0 0, value 1) ⇒ Some (at 0 0)
    -- not where the answer is another one
    ∷ (board, 1, state_of 0 0x101 0, value 2) ⇒ None
    -- not where the word names nothing
    ∷ (board, 1, state_of 0 0x200 0, value 1) ⇒ None
    -- not where AFFINITY_INFO answers
    ∷ (board, 1, status_3, value 1) ⇒ None
    -- not where the core stops
    ∷ (board, 1, state_of 0 0x101 0, stops nothing) ⇒ None ∷ [])
unfolding computing
told_states = refl

off_depths : Gives is_off_depth (0 ⇒ false ∷ 1 ⇒ false ∷ 2 ⇒ false ∷ 3 ⇒ true ∷ 4 ⇒ false ∷ [])
unfolding computing
off_depths = refl

standby_depths : Gives is_standby_depth
    (0 ⇒ false ∷ 1 ⇒ true ∷ 2 ⇒ true ∷ 3 ⇒ false ∷ 4 ⇒ false ∷ [])
unfolding computing
standby_depths = refl

-- whether core 3 was so deep in a life, after so many starts
abbrev was_deep : (List Event × ℕ × ℕ × (ℕ → Bool)) → Bool
was_deep (events, life, starts, is) =
    was_so_deep board life starts is (run_from board [] events) (at 0 3)

-- core 3 went off, and then it was woken
abbrev woken_later : List Event
woken_later = third_on ++ off 3 ∷ Deliver 1 ∷ Wake 3 ∷ []

-- it was in retention in life 1, and life 2 has begun
abbrev next_life : List Event
next_life = third_on ++ retention 3 ∷ Deliver 1 ∷ system_reset 0 ∷ Deliver 2 ∷ Enter 0 ∷ []

was : Gives was_deep
    -- after its first start it was powered down
    ((woken_later, 1, 1, is_off_depth) ⇒ true
    -- and not in standby
    ∷ (woken_later, 1, 1, is_standby_depth) ⇒ false
    -- nor after two starts
    ∷ (woken_later, 1, 2, is_off_depth) ⇒ false
    -- it was in retention in life 1
    ∷ (next_life, 1, 1, is_standby_depth) ⇒ true
    -- and in life 2 it was not
    ∷ (next_life, 2, 1, is_standby_depth) ⇒ false ∷ [])
unfolding computing was_so_deep
was = refl

-- What is said of a domain, and what was: NODE_HW_STATE answers this, and it was in standby.
record Stands : Type 0 where
  pub said : ℕ
  pub was : Bool

abbrev stands : (BoardValue × Node × List Record) → Stands
stands (b, d, past) = record {
  said = hw_code (said_hw b past d);
  was = was_so_deep b (firmware_values b past).life (known_starts b past d) is_standby_depth past d;
}

-- after these events this was said of a delivery, and its acknowledgement of this number was taken
abbrev told : BoardValue → List Event → Said → ℕ → List Record
told b events said taken =
    run_from b (record { event = Deliver 99; said = said } ∷ after b events) (Take taken ∷ [])

-- core c, which is on by start s of life l, asks for retention of itself by message n
abbrev sleeps : Case → List (Row (BoardValue × Node × List Record) Stands)
sleeps (b, on, c, o, l, s, n) =
    -- slept: it was in standby
    (b, at 0 c, after b (on ++ retention c ∷ Deliver n ∷ Take n ∷ []))
    ⇒ record { said = 2; was = true }
    -- never_slept: it is said to be, and never was
    ∷ (b, at 0 c, told b (on ++ retention c ∷ []) (acked n Down c l s 1 false) n)
    ⇒ record { said = 2; was = false }
    -- slept_before: it is said to be, and was before it resumed alone
    ∷ (
      b,
      at 0 c,
      told b (on ++ retention c ∷ Deliver n ∷ Wake c ∷ Enter c ∷ retention c ∷ [])
          (acked (n + 1) Down c l (s + 1) 1 false) (n + 1),
    ) ⇒ record { said = 2; was = false }
    -- slept_again: it was before it resumed, and after it
    ∷ (
      b,
      at 0 c,
      after b (on ++ retention c ∷ Deliver n ∷ Wake c ∷ Enter c ∷ retention c
          ∷ Deliver (n + 1) ∷ Take (n + 1) ∷ []),
    ) ⇒ record { said = 2; was = true }
    ∷ []

each_sleeps : Gives stands (each sleeps cases)
unfolding computing was_so_deep
each_sleeps = refl

-- core c, which is on by its first start of life l, asks by this event for standby of a domain, by
-- message n
abbrev sleeps_with : (BoardValue × List Event × ℕ × ℕ × Event × ℕ × Node)
    → List (Row (BoardValue × Node × List Record) Stands)
sleeps_with (b, on, c, l, asks, n, d) =
    -- slept: the domain was in standby
    (b, d, after b (on ++ asks ∷ Deliver n ∷ Take n ∷ [])) ⇒ record { said = 2; was = true }
    -- never_slept: it is said to be, and never was
    ∷ (b, d, told b (on ++ asks ∷ []) (acked n Down c l 1 (d.level + 1) false) n)
    ⇒ record { said = 2; was = false }
    ∷ []

each_sleeps_with : Gives stands (each sleeps_with
    -- cluster: a cluster
    ((board, third_on, 3, 1, call 3 0xc4000001 0x01000022 0 0, 1, at 1 1)
    -- group: a group
    ∷ (tall, on_in_group, 3, 1, call 3 0xc4000001 0x02000222 0 0, 1, at 2 1)
    -- system: the system
    ∷ (tall, Enter 0 ∷ [], 0, 1, call 0 0xc4000001 0x03002222 0 0, 0, at 3 0)
    -- extended_cluster: a cluster on a board of the extended format
    ∷ (extended, third_on, 3, 1, call 3 0xc4000001 0x22 0 0, 1, at 1 1)
    -- cluster_in_life_2: a cluster in life 2
    ∷ (tall, life_2, 0, 2, call 0 0xc4000001 0x01000022 0 0, 1, at 1 0)
    -- group_in_life_2: a group
    ∷ (tall, life_2, 0, 2, call 0 0xc4000001 0x02000222 0 0, 1, at 2 0)
    -- system_in_life_2: the system
    ∷ (tall, life_2, 0, 2, call 0 0xc4000001 0x03002222 0 0, 1, at 3 0)
    -- cluster_os_initiated: a cluster in OS-initiated mode
    ∷ (tall, os_mode, 0, 1, call 0 0xc4000001 0x01000022 0 0, 0, at 1 0)
    -- group_os_initiated: a group
    ∷ (tall, os_mode, 0, 1, call 0 0xc4000001 0x02000222 0 0, 0, at 2 0)
    -- system_os_initiated: the system
    ∷ (tall, os_mode, 0, 1, call 0 0xc4000001 0x03002222 0 0, 0, at 3 0)
    ∷ []))
unfolding computing was_so_deep
each_sleeps_with = refl

abbrev slept_on : List Event
slept_on = third_on ++ retention 3 ∷ Deliver 1 ∷ system_off 0 ∷ Take 1 ∷ []

abbrev stayed_on : List Event
stayed_on = third_on ++ retention 3 ∷ system_off 0 ∷ []

halting : Gives stands
    -- slept_in_a_halting_life: core 3 was in standby, and the life halts
    ((board, at 0 3, after board slept_on) ⇒ record { said = 2; was = true }
    -- never_slept_in_a_halting_life: it is said to be, and never was
    ∷ (board, at 0 3, told board stayed_on (acked 1 Down 3 1 1 1 false) 1)
    ⇒ record { said = 2; was = false } ∷ [])
unfolding computing was_so_deep
halting = refl

-- a core asks for the status of a word at a level
abbrev status_of : ℕ → ℕ → ℕ → Event
status_of c word level = call c 0xc4000004 word level 0

-- of which domain that tells that it is off
abbrev off_told_by : (BoardValue × Event × Said) → Option Node
off_told_by (b, event, said) = told_off b event said

told_off_by : Gives off_told_by
    -- a core
    ((board, status_3, value 1) ⇒ Some (at 0 3)
    -- a group on three levels, and the system above it
    ∷ (tall, status_of 0 0x10000 2, value 1) ⇒ Some (at 2 1)
    ∷ (tall, status_of 0 0x10000 3, value 1) ⇒ Some (at 3 0)
    -- by the word of 32 bits
    ∷ (board, call 3 0x84000004 0 0 0, value 1) ⇒ Some (at 0 0)
    -- not where the answer is ON, or ON_PENDING
    ∷ (board, status_3, value 0) ⇒ None
    ∷ (board, status_3, value 2) ⇒ None
    -- not where the word names nothing
    ∷ (board, status_of 0 0x200 0, value 1) ⇒ None
    -- not where another function answers 1
    ∷ (board, call 0 0x84000000 0x101 0 0, value 1) ⇒ None
    -- not where the core stops
    ∷ (board, status_3, stops nothing) ⇒ None ∷ [])
unfolding computing
told_off_by = refl

-- core 3 went off and was powered down, and so is its cluster
abbrev gone_off : List Record
gone_off = after board (third_on ++ off 3 ∷ Deliver 1 ∷ Take 1 ∷ [])

-- core 3 runs below its cluster, the last core of the board
cluster_runs : AllOff board (after board third_on) (at 1 1) → ⊥
unfolding computing was_powered_down
cluster_runs all = (all 3 (omega arith) refl).0 refl

-- core 3 was powered down and woken, and it runs before it has entered
off_and_runs : AllOff board (record { event = version 3; said = value 65537 }
    ∷ after board (Enter 0 ∷ Wake 3 ∷ [])) (at 0 3) → ⊥
unfolding computing was_powered_down
off_and_runs all = (all 3 (omega arith) refl).0 refl

-- core 3 goes off and was not powered down yet; it is in retention, and was not since it entered
going_off : AllOff board (after board (third_on ++ off 3 ∷ [])) (at 0 3) → ⊥
unfolding computing was_powered_down
going_off all = let no : false ≡ true = (all 3 (omega arith) refl).1 in absurd (cc)

-- in life 2 core 3 goes off and was not powered down, though it was in life 1
going_off_in_life_2 : AllOff board (run_from board gone_off (system_reset 0 ∷ Deliver 2 ∷ Enter 0
    ∷ on_3 ∷ Deliver 3 ∷ Enter 3 ∷ off 3 ∷ [])) (at 0 3) → ⊥
unfolding computing was_powered_down
going_off_in_life_2 all = let no : false ≡ true = (all 3 (omega arith) refl).1 in absurd (cc)

-- whether all cores of a domain are off after these events
abbrev all_off : (BoardValue × Node × List Event) → Bool
all_off (b, d, events) = is_all_off b (after b events) d

-- core c goes off, and its Down is message n
abbrev goes_off : Case → List (Row (BoardValue × Node × List Event) Bool)
goes_off (b, on, c, o, l, s, n) =
    -- off: it is powered down
    (b, at 0 c, on ++ off c ∷ Deliver n ∷ []) ⇒ true
    -- going_off: it is not yet
    ∷ (b, at 0 c, on ++ off c ∷ []) ⇒ false
    -- going_off_again: it was before it entered, and is not yet
    ∷ (b, at 0 c, on ++ suspend b c ∷ Deliver n ∷ Wake c ∷ Enter c ∷ off c ∷ []) ⇒ false
    -- off_again: it was before it entered, and is again
    ∷ (b, at 0 c, on ++ suspend b c ∷ Deliver n ∷ Wake c ∷ Enter c ∷ off c ∷ Deliver (n + 1) ∷ [])
    ⇒ true
    ∷ []

each_goes_off : Gives all_off (each goes_off cases)
unfolding computing was_powered_down
each_goes_off = refl

-- on three levels the boot core goes off with all domains, and its Down is message i
abbrev domain_goes_off : (List Event × ℕ × ℕ) → List (Row (BoardValue × Node × List Event) Bool)
domain_goes_off (on, i, n) =
    -- off: its domain of a level is powered down
    (tall, at n 0, on ++ off 0 ∷ Deliver i ∷ []) ⇒ true
    -- going_off: it is not yet
    ∷ (tall, at n 0, on ++ off 0 ∷ []) ⇒ false
    ∷ []

each_domain_goes_off : Gives all_off (each domain_goes_off
    -- cluster_in_life_2: its cluster, in life 2
    ((life_2, 1, 1)
    -- group_in_life_2: its group
    ∷ (life_2, 1, 2)
    -- system_in_life_2: the system
    ∷ (life_2, 1, 3)
    -- cluster_os_initiated: its cluster, in OS-initiated mode
    ∷ (os_mode, 0, 1)
    -- group_os_initiated: its group
    ∷ (os_mode, 0, 2)
    -- system_os_initiated: the system
    ∷ (os_mode, 0, 3)
    ∷ []))
unfolding computing was_powered_down
each_domain_goes_off = refl

domains : Gives all_off
    -- off_cluster: a cluster is powered down
    ((board, at 1 1, third_on ++ off 3 ∷ Deliver 1 ∷ []) ⇒ true
    -- going_off_cluster: it is not yet
    ∷ (board, at 1 1, third_on ++ off 3 ∷ []) ⇒ false
    -- off_group: a group
    ∷ (tall, at 2 1, on_in_group ++ off 3 ∷ Deliver 1 ∷ []) ⇒ true
    -- going_off_group: it is not yet
    ∷ (tall, at 2 1, on_in_group ++ off 3 ∷ []) ⇒ false
    -- off_system: the system
    ∷ (tall, at 3 0, Enter 0 ∷ call 0 0xc400000e 0x40000200 9 0 ∷ Deliver 0 ∷ []) ⇒ true
    -- going_off_system: it is not yet
    ∷ (tall, at 3 0, Enter 0 ∷ call 0 0xc400000e 0x40000200 9 0 ∷ []) ⇒ false
    -- off_in_a_halting_life: core 3, and the life halts
    ∷ (board, at 0 3, third_on ++ off 3 ∷ Deliver 1 ∷ system_off 0 ∷ []) ⇒ true
    -- going_off_in_a_halting_life: it is not yet
    ∷ (board, at 0 3, third_on ++ off 3 ∷ system_off 0 ∷ []) ⇒ false ∷ [])
unfolding computing was_powered_down
domains = refl
