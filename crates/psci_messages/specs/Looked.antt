-- A tree of power domains, seen by cores and by levels and places.
use Rattle.psci_state.specs.Cores.{TreeValue, ask_at, known_at, is_active_at, is_away_at}
use Rattle.psci_state.specs.Cores.{granted_at}
use Rattle.psci_messages.specs.View.{PowerView}

-- what a tree holds
abbrev pub view_of : TreeValue → PowerView
view_of t = record {
  ask = ask_at t;
  known = known_at t;
  is_active = is_active_at t;
  is_away = is_away_at t;
  granted = granted_at t;
}
