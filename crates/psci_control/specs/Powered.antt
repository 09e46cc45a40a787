-- What orders leave of the power of a machine that carries them out.
use Rattle.std.specs.Prelude.{ℕ, ◌==◌, ◌&&◌, if◌then◌else◌, List, [], ◌∷◌}
use Rattle.psci_board.specs.Board.{BoardValue, is_on_path}
use Rattle.psci_ctl_spec.specs.Replies.{with_path_on}
use Rattle.psci_control.specs.declared.order.Order.{Order}
use Rattle.psci_control.specs.declared.order.Order.TheVariants.{Switch, Raise, Acknowledge, End}

-- the domain at this level of the path of a core is this deep
abbrev pub switched : BoardValue → ℕ → ℕ → ℕ → (ℕ → ℕ → ℕ) → ℕ → ℕ → ℕ
switched b c at deep depth level place =
    if level == at && is_on_path b c level place then deep else depth level place

-- the depths once these orders were carried out in turn
unfoldable pub powered : BoardValue → List Order → (ℕ → ℕ → ℕ) → ℕ → ℕ → ℕ
powered b [] depth = depth
powered b (Switch core at deep ∷ orders) depth =
    powered b orders (switched b core.number at deep depth)
powered b (Raise core ∷ orders) depth = powered b orders (with_path_on b core.number depth)
powered b (Acknowledge ack ∷ orders) depth = powered b orders depth
powered b (End ending ∷ orders) depth = powered b orders depth
