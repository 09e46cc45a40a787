-- Worked examples of slots where the message stands that is sent, and of others.
use Rattle.std.proofs.Common.{◌≡◌, ℕ, ◌==◌, [], Option, None, Some, refl, ap, arith}
use Rattle.std.specs.Prelude.{if◌then◌else◌}
use Rattle.psci_fw_spec.specs.declared.outcome.Act.TheVariants.{Stop}
use Rattle.psci_fw_spec.specs.Changes.{start_of_life}
use Rattle.psci_fw_spec.specs.Values.{Values}
use Rattle.psci_messages.specs.declared.kind.Kind.{Kind}
use Rattle.psci_messages.specs.declared.kind.Kind.TheVariants.{Down, Reset, Start}
use Rattle.psci_messages.specs.Message.{MessageValue}
use Rattle.psci_messages.specs.Slots.{Slot}
use Rattle.psci_messages.specs.Slots.Slot.{OfCore, OfSystem}
use Rattle.psci_fw.specs.declared.reaction.Reaction.{Reaction}
use Rattle.psci_fw_state.proofs.KeptRows.{board}
use Rattle.psci_fw.specs.Reactions.{IsInItsSlot}

abbrev message : Kind → ℕ → MessageValue
message kind core =
    record { kind = kind; core = record { number = core }; life = 2; number = 4; parts = [] }

-- on a board of four cores, core 3 has sent a Down, core 1 a Reset of the system, and in the slot
-- of core 0 stands what is not its own
abbrev waiting : Slot → Option MessageValue
waiting (OfCore c) = if c == 3 then Some (message Down 3)
    else (if c == 0 then Some (message Start 2) else None)
waiting OfSystem = Some (message Reset 1)

abbrev values : Values
values = record (start_of_life board 2) { outstanding = waiting }

abbrev stops_with : Option ℕ → Reaction
stops_with slot = record { act = Stop; slot = slot }

-- a slot is named where it has what is sent, and not an empty one, nor that of another message
in_its_slot : IsInItsSlot board values (stops_with (Some 3))
    × IsInItsSlot board values (stops_with (Some 4)) × IsInItsSlot board values (stops_with None)
in_its_slot = (refl, refl, refl)

empty_slot : IsInItsSlot board values (stops_with (Some 2)) → ⊥
empty_slot h = let e : ◌≡◌ {A = Option ℕ} (Some 2) None = h in cc

other_slot : IsInItsSlot board values (stops_with (Some 0)) → ⊥
other_slot h =
    let e : ◌≡◌ {A = Option ℕ} (Some 0) (Some 2) = h in
    let same : ◌≡◌ {A = ℕ} 0 2 = ap (number_or 0) e in omega arith
  where
    number_or : ℕ → Option ℕ → ℕ
    number_or d None = d
    number_or d (Some n) = n
