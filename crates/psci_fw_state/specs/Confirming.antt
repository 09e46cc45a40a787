-- Which of the claims on a core's path are the last ones on their domains.
use Rattle.std.specs.Prelude.{ℕ, Bool, ◌&&◌, nat_lt, List, slice_get}
use Rattle.std.specs.List.{sum_by}
use Rattle.psci_board.specs.Board.{below, BoardValue, is_path_place}
use Rattle.psci_messages.specs.declared.part.Part.{Part}
use Rattle.psci_tree.specs.Recount.{TreeValue, granted_at, known_at}
use Rattle.psci_fw_spec.specs.Changes.{is_made_at}

-- the part of this level is of the last claim on the domain of the core's path: something is still
-- granted, and no core below has entered since
abbrev pub is_last_claim : BoardValue → TreeValue → ℕ → List Part → ℕ → ℕ → Bool
is_last_claim b t c parts level place =
    is_path_place b c level place && (nat_lt 0 (granted_at t level place)
    && is_made_at (sum_by (known_at t) (below b (record { level = level; place = place })))
    (slice_get parts level))
