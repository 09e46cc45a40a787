-- Worked examples of which statuses are the last after the calls of a firmware that threads share,
-- so that a pass that made them has seen them; and for each axis some that are not the last.
use Rattle.std.proofs.Common.{◌∷◌, [], arith, List, None, Option, pos, Some, ℕ}
use Rattle.psci_board.specs.psci_abi.declared.registers.Format.TheVariants.{Extended, Original}
use Rattle.psci_fw.specs.psci_board.Board.{BoardValue, core_of}
use Rattle.psci_messages.specs.declared.part.Part.{Part}
use Rattle.psci_fw.specs.psci_fw_spec.Effects.{after}
use Rattle.psci_fw.specs.psci_fw_spec.Answer.{answer, enter_outcome, outcome_of}
use Rattle.psci_fw.specs.psci_fw_spec.PowerCalls.{target_of}
use Rattle.psci_fw.specs.psci_fw_spec.History.{values_of}
use Rattle.psci_fw.specs.psci_fw_spec.Statuses.{statuses}
use Rattle.psci_fw.specs.psci_fw_spec.declared.call.FwCall.TheVariants.{Enter, Smc}
use Rattle.psci_fw.specs.psci_fw_spec.declared.outcome.Act.{Act}
use Rattle.psci_fw.specs.psci_fw_spec.declared.outcome.Act.TheVariants as acts
use Rattle.psci_fw.specs.psci_fw_spec.declared.reply.FwReply.TheVariants.{Out}
use Rattle.psci_fw.specs.psci_fw_spec.declared.status.Status.TheVariants.{On, Off, Pending}
use Rattle.psci_messages.specs.declared.kind.Kind.{Kind}
use Rattle.psci_messages.specs.declared.kind.Kind.TheVariants as kinds
use Rattle.psci_messages.specs.declared.start.Cause.{Cause}
use Rattle.psci_messages.specs.declared.start.Cause.TheVariants as causes
use Rattle.psci_messages.specs.Message.{MessageValue}
use Rattle.psci_messages.specs.Outstanding.{changes_since, last_message, outstanding}
use Rattle.psci_status.specs.Lists.{Item}
use Rattle.psci_shared.specs.Places.{FwEntry}
use Rattle.psci_shared.specs.Passes.{AllLast, entry, history_of}

-- what an example unfolds to compute the statuses after entries that are written out
unfoldable computing : Unit {0}
unfolding answer values_of after outcome_of enter_outcome target_of core_of outstanding last_message
    changes_since statuses history_of
computing = tt

-- two cores
abbrev board : BoardValue
board = record {
  levels = (2 ∷ []) ∷ [];
  ranges = record { start = 0; end = 64 } ∷ [];
  boot = 0;
  starts = 9;
  lives = 3;
  format = Original;
}

abbrev extended : BoardValue
extended = record board { format = Extended }

abbrev message : Kind → ℕ → ℕ → ℕ → List Part → MessageValue
message kind c life number parts = record {
  kind = kind;
  core = record { number = c };
  life = life;
  number = number;
  parts = parts;
}

abbrev part : ℕ → ℕ → Part
part level generation = record { level = level; depth = 3; generation = generation }

-- a core calls this function with one argument
abbrev calls : ℕ → ℕ → ℕ → Act → Option MessageValue → FwEntry
calls c x0 x1 act m = entry 1 (record { number = c })
    (Smc (record { x0 = x0; x1 = x1; x2 = 0; x3 = 0 })) (Out (record { act = act; message = m }))

-- a core enters by this start
abbrev enters_by : ℕ → ℕ → ℕ → Cause → Act → Option MessageValue → FwEntry
enters_by c life number cause act m = entry 1 (record { number = c })
    (Enter (record { life = life; number = number; cause = cause }))
    (Out (record { act = act; message = m }))

abbrev returns_0 : Act
returns_0 = acts.Return (record { 0 = pos 0 })

-- the boot core opens a life, and resets the system at its end
abbrev boots_in : ℕ → FwEntry
boots_in life = enters_by 0 life 1 causes.Boot (acts.Enter 0 0) None

abbrev system_reset : ℕ → FwEntry
system_reset life = calls 0 0x84000009 0 acts.Stop (Some (message kinds.Reset 0 life 1 []))

abbrev system_off : FwEntry
system_off = calls 0 0x84000008 0 acts.Stop (Some (message kinds.Off 0 1 1 []))

-- core 0 asks core 1 on, which enters
abbrev on_1 : FwEntry
on_1 = calls 0 0x84000003 1 returns_0 (Some (message kinds.Start 1 1 0 []))

abbrev enters_1 : FwEntry
enters_1 = enters_by 1 1 1 causes.On (acts.Enter 0 0) None

-- core 0 was reset, enters by its start of this number, and parks
abbrev resets : ℕ → FwEntry
resets number = enters_by 0 1 number causes.Reset acts.Stop
    (Some (message kinds.Down 0 1 number (part 0 number ∷ part 1 number ∷ [])))

-- what was seen last of core 0 and of core 1, by its serial
abbrev seen : Item → Item → List (List Item)
seen zeroth first = (zeroth ∷ []) ∷ (first ∷ []) ∷ []

are_last :
    -- boot_core_is_on: in the first life
    AllLast board (boots_in 1 ∷ []) (seen (2, On) (0, Off))
    -- target_is_pending: right after an accepted CPU_ON the caller has seen its target ON_PENDING
    × AllLast board (boots_in 1 ∷ on_1 ∷ []) (seen (2, On) (1, Pending))
    -- target_is_on: the target has entered
    × AllLast board (boots_in 1 ∷ on_1 ∷ enters_1 ∷ []) (seen (2, On) (2, On))
    -- on_in_life_2: at the start of each life the boot core is ON_PENDING
    × AllLast board (boots_in 1 ∷ system_reset 1 ∷ boots_in 2 ∷ []) (seen (4, On) (0, Off))
    -- on_in_life_3: and in the last one
    × AllLast board (boots_in 1 ∷ system_reset 1 ∷ boots_in 2 ∷ system_reset 2 ∷ boots_in 3 ∷ [])
    (seen (6, On) (0, Off))
    -- on_while_halting: core 1 calls in a life that is to end: it is said to be ON still
    × AllLast board (boots_in 1 ∷ on_1 ∷ enters_1 ∷ system_off ∷ calls 1 0x84000000 0 acts.Stop None
    ∷ []) (seen (2, On) (2, On))
    -- pending_in_this_mode: in OS-initiated mode
    × AllLast board (boots_in 1 ∷ calls 0 0x8400000f 1 returns_0 None ∷ on_1 ∷ []) (seen (2, On) (
      1,
      Pending,
    ))
    -- second_start: a core that parks is said to be ON until its Down was carried out
    × AllLast board (boots_in 1 ∷ resets 2 ∷ []) (seen (2, On) (0, Off))
    -- third_start: in its third start
    × AllLast board (boots_in 1 ∷ resets 2 ∷ resets 3 ∷ []) (seen (2, On) (0, Off))
    -- fourth_start: and its fourth
    × AllLast board (boots_in 1 ∷ resets 2 ∷ resets 3 ∷ resets 4 ∷ []) (seen (2, On) (0, Off))
    -- on_in_extended: in the extended format
    × AllLast extended (boots_in 1 ∷ on_1 ∷ []) (seen (2, On) (1, Pending))
unfolding computing
are_last = search arith

are_not_last :
    -- boot_core_was_pending: before it entered
    (AllLast board (boots_in 1 ∷ []) (seen (1, Pending) (0, Off)) → ⊥)
    -- target_was_off: before the call
    × (AllLast board (boots_in 1 ∷ on_1 ∷ []) (seen (2, On) (0, Off)) → ⊥)
    -- target_was_pending: before it entered
    × (AllLast board (boots_in 1 ∷ on_1 ∷ enters_1 ∷ []) (seen (2, On) (1, Pending)) → ⊥)
    -- on_in_life_1: of the life before
    × (AllLast board (boots_in 1 ∷ system_reset 1 ∷ boots_in 2 ∷ []) (seen (2, On) (0, Off)) → ⊥)
    -- on_in_the_last_life: of the one before
    × (AllLast board (boots_in 1 ∷ system_reset 1 ∷ boots_in 2 ∷ system_reset 2 ∷ boots_in 3 ∷ [])
    (seen (4, On) (0, Off)) → ⊥)
    -- pending_while_halting: before core 1 entered
    × (AllLast board (boots_in 1 ∷ on_1 ∷ enters_1 ∷ system_off ∷ calls 1 0x84000000 0 acts.Stop
    None ∷ []) (seen (2, On) (1, Pending)) → ⊥)
    -- off_in_this_mode: before the call
    × (AllLast board (boots_in 1 ∷ calls 0 0x8400000f 1 returns_0 None ∷ on_1 ∷ []) (seen (2, On)
    (0, Off)) → ⊥)
    -- second_start_seen_late: before the boot core entered
    × (AllLast board (boots_in 1 ∷ resets 2 ∷ []) (seen (1, Pending) (0, Off)) → ⊥)
    -- third_start_seen_late: the same
    × (AllLast board (boots_in 1 ∷ resets 2 ∷ resets 3 ∷ []) (seen (1, Pending) (0, Off)) → ⊥)
    -- fourth_start_seen_late: the same
    × (AllLast board (boots_in 1 ∷ resets 2 ∷ resets 3 ∷ resets 4 ∷ []) (seen (1, Pending) (0, Off))
    → ⊥)
    -- off_in_extended: before the call
    × (AllLast extended (boots_in 1 ∷ on_1 ∷ []) (seen (2, On) (0, Off)) → ⊥)
unfolding computing
are_not_last = search arith
