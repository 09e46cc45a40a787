-- Worked examples of events whose numbers have 64 bits, and of events that have a larger one.
use Rattle.std.proofs.Common.{◌<◌, ℕ, arith}
use Rattle.psci_world_spec.specs.declared.event.Event.{Event}
use Rattle.psci_world_spec.specs.declared.event.Event.TheVariants.{Call, Deliver, Enter, Reset}
use Rattle.psci_world_spec.specs.declared.event.Event.TheVariants.{Take, Wake}
use Rattle.psci_script.specs.EventText.{HasWords}

-- the largest number, and the one after it
abbrev largest : ℕ
largest = 18446744073709551615

abbrev larger : ℕ
larger = 18446744073709551616

not_less : larger < 18446744073709551616 → ⊥
not_less less = omega (arith, less)

-- a call with these registers
abbrev call : ℕ → ℕ → ℕ → ℕ → ℕ → Event
call core x0 x1 x2 x3 = Call core (record { x0 = x0; x1 = x1; x2 = x2; x3 = x3 })

largest_numbers : HasWords (Enter largest) × HasWords (Wake largest) × HasWords (Reset largest)
    × HasWords (Deliver largest) × HasWords (Take largest)
    × HasWords (call largest largest largest largest largest)
largest_numbers =
    let fits : largest < 18446744073709551616 = omega arith in
    (fits, fits, fits, fits, fits, (fits, fits, fits, fits, fits))

abbrev HasNoWords : Event → Type 0
HasNoWords event = HasWords event → ⊥

larger_numbers : HasNoWords (Enter larger) × HasNoWords (Wake larger) × HasNoWords (Reset larger)
    × HasNoWords (Deliver larger) × HasNoWords (Take larger)
    × HasNoWords (call larger 0 0 0 0) × HasNoWords (call 0 larger 0 0 0)
    × HasNoWords (call 0 0 larger 0 0) × HasNoWords (call 0 0 0 larger 0)
    × HasNoWords (call 0 0 0 0 larger)
larger_numbers = (
  not_less,
  not_less,
  not_less,
  not_less,
  not_less,
  λ h. not_less h.0,
  λ h. not_less h.1,
  λ h. not_less h.2,
  λ h. not_less h.3,
  λ h. not_less h.4,
)
