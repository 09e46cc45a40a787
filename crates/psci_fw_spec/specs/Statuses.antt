-- The statuses that a core has had.
use Rattle.std.specs.Prelude.{ℕ, ◌==◌, if◌then◌else◌, List, [], ◌∷◌}
use Rattle.psci_board.specs.Board.{BoardValue}
use Rattle.psci_fw_spec.specs.declared.status.Status.{Status}
use Rattle.psci_fw_spec.specs.declared.status.Status.TheVariants.{Off}
use Rattle.psci_fw_spec.specs.PowerCalls.{status_code}
use Rattle.psci_fw_spec.specs.Effects.{arrived, effect, FwExchange}
use Rattle.psci_fw_spec.specs.History.{begins, life, status}
use Rattle.psci_fw_spec.specs.Changes.{first_status}

-- one more status, where it is another one than the last
abbrev pub added : Status → List Status → List Status
added s [] = s ∷ []
added s (t ∷ ts) = if status_code s == status_code t then t ∷ ts else s ∷ t ∷ ts

-- The statuses of a core, the last first. A core is OFF before any life; where a life begins it has
-- the status of the life's start, and after each exchange the status that the history says.
unfoldable pub statuses : BoardValue → List FwExchange → ℕ → List Status
statuses b [] c = Off ∷ []
statuses b (e ∷ h) c =
    if life b (e ∷ h) == 0 then statuses b h c
    else added (status b (e ∷ h) c)
    (if begins (life b h) (arrived (effect b e))
    then added (first_status c) (statuses b h c)
    else statuses b h c)
