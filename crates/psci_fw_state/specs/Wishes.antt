-- What a core that stops wants of its domains, and what it claims by that.
use Rattle.std.specs.Prelude.{ℕ, List, Option, None, Some, Result, Ok, Err}
use Rattle.psci_board.specs.Board.{BoardValue}
use Rattle.psci_messages.specs.declared.osi.Osi.{Osi}
use Rattle.psci_messages.specs.declared.part.Part.{Part}
use Rattle.psci_messages.specs.Claim.{claims_of, refusal, shallow}
use Rattle.psci_messages.specs.View.{PowerView}
use Rattle.psci_coord.specs.Wish.{wanted}
use Rattle.psci_coord.specs.declared.claim.Wish.{Wish}
use Rattle.psci_coord.specs.declared.claim.Wish.TheVariants.{Least, Own}
use Rattle.psci_fw_spec.specs.declared.mode.SuspendMode.{SuspendMode}
use Rattle.psci_fw_spec.specs.declared.mode.SuspendMode.TheVariants.{Platform, OsInitiated}
use Rattle.psci_fw_spec.specs.Invariant.{view}
use Rattle.psci_fw_state.specs.Seen.{StateValue, values_in}

-- the claim of a core that wants this
abbrev pub wished_claims : BoardValue → PowerView → ℕ → Wish → List Part
wished_claims b w c wish = claims_of b w c (wanted b w c wish)

-- the same in a state
abbrev pub wished_in : StateValue → ℕ → Wish → List Part
wished_in s c wish = wished_claims s.board (view s.board (values_in s)) c wish

-- what is wanted where this is the reason to refuse it, if there is one
abbrev pub wish_unless : Option Osi → List ℕ → Result Wish Osi
wish_unless None ask = Ok (Own ask)
wish_unless (Some reason) ask = Err reason

-- what a core wants that asks for this, or why it may not: in platform-coordinated mode it wants
-- the least that is asked, and always may
abbrev pub asked_wish : BoardValue → PowerView → ℕ → List ℕ → SuspendMode → Result Wish Osi
asked_wish b w c ask Platform = Ok Least
asked_wish b w c ask OsInitiated = wish_unless (refusal b w (shallow b w c ask)) ask
