-- Worked examples of what no firmware keeps of its cores, and of claims that it may not make. Two
-- clusters of two cores; core 1 is asked on, core 2 suspended in retention, core 3 off.
use Rattle.std.proofs.Common.{◌≡◌, ℕ, ◌≤◌, List, [], ◌∷◌, length, true, None, Some, ap, arith}
use Rattle.psci_board.specs.Board.{BoardValue, up}
use Rattle.psci_messages.specs.declared.part.Part.{Part}
use Rattle.psci_fw_spec.specs.psci_abi.declared.registers.Format.TheVariants.{Original}
use Rattle.psci_fw_spec.specs.declared.mode.SuspendMode.TheVariants.{OsInitiated}
use Rattle.psci_fw_spec.specs.declared.status.Status.TheVariants.{On, Off, Pending}
use Rattle.psci_messages.specs.declared.kind.Kind.TheVariants as kinds
use Rattle.psci_messages.specs.Message.{MessageValue}
use Rattle.psci_state.specs.declared.cores.Activity.TheVariants as activities
use Rattle.psci_tree.specs.Recount.{TreeValue}
use Rattle.psci_fw_state.specs.declared.row.CoreRow.{CoreRow}
use Rattle.psci_fw_state.specs.declared.counts.StatusCounts.{StatusCounts}
use Rattle.psci_fw_state.specs.Claims.{MayClaim}
use Rattle.psci_fw_state.specs.Counts.{counts_below}
use Rattle.psci_fw_state.specs.Rows.{AreFirst, first_row}
use Rattle.psci_fw_state.specs.Seen.{IsState, StateValue}

abbrev pub board : BoardValue
board = record {
  levels = (2 ∷ 2 ∷ []) ∷ (2 ∷ []) ∷ [];
  ranges = record { start = 0; end = 64 } ∷ [];
  boot = 32;
  starts = 9;
  lives = 3;
  format = Original;
}

abbrev row : CoreRow
row = record { status = On; opening = None }

abbrev pending : CoreRow
pending = record { status = Pending; opening = Some (record { address = 48; context = 7 }) }

abbrev off : CoreRow
off = record { status = Off; opening = None }

abbrev rows : List CoreRow
rows = row ∷ pending ∷ row ∷ off ∷ []

-- Rows --------------------------------------------------------------------------------------------

row_is_missing : AreFirst board (first_row board 0 ∷ off ∷ off ∷ []) → ⊥
row_is_missing h = let e : ◌≡◌ {A = ℕ} 3 4 = h.count in omega arith

-- A state -----------------------------------------------------------------------------------------

-- core 3 of two clusters: its known start is 5, that of its neighbour 2
abbrev tree : TreeValue
tree = record {
  levels = (2 ∷ 2 ∷ []) ∷ (2 ∷ []) ∷ [];
  cores =
      record { activity = activities.Active; known = 1 }
      ∷ record { activity = activities.Active; known = 0 }
      ∷ record { activity = activities.Away; known = 2 }
      ∷ record { activity = activities.Away; known = 5 } ∷ [];
  granted = (0 ∷ 0 ∷ 2 ∷ 3 ∷ []) ∷ (0 ∷ 1 ∷ []) ∷ (0 ∷ []) ∷ [];
  confirmed = (0 ∷ 0 ∷ 2 ∷ 0 ∷ []) ∷ (0 ∷ 0 ∷ []) ∷ (0 ∷ []) ∷ [];
}

-- a Start of core 1, and a Reset by core 2
abbrev start : MessageValue
start =
    record { kind = kinds.Start; core = record { number = 1 }; life = 2; number = 0; parts = [] }

abbrev reset : MessageValue
reset = record start { kind = kinds.Reset; core = record { number = 2 } }

abbrev state : StateValue
state = record {
  board = board;
  life = 2;
  halting = true;
  mode = OsInitiated;
  tree = tree;
  rows = rows;
  counts =
      (record { on = 1; pending = 1 } ∷ record { on = 1; pending = 0 } ∷ [])
      ∷ (record { on = 2; pending = 1 } ∷ []) ∷ [];
  slots = record { cores = None ∷ Some start ∷ None ∷ None ∷ []; system = Some reset };
}

-- Claims ------------------------------------------------------------------------------------------

abbrev part : ℕ → ℕ → ℕ → Part
part level depth generation = record { level = level; depth = depth; generation = generation }

too_many_parts : (granted : ℕ → ℕ → ℕ)
    → MayClaim board 2 (part 0 3 0 ∷ part 1 3 0 ∷ part 2 3 0 ∷ part 3 3 0 ∷ []) granted → ⊥
too_many_parts granted h = let e : 4 ≤ 3 = h.few in omega arith

-- something is granted on the path already
cluster_is_claimed : MayClaim board 2 [] (λ level place. level) → ⊥
unfolding up
cluster_is_claimed h = let e : ◌≡◌ {A = ℕ} 1 0 = h.free 1 (omega arith) in omega arith

-- Shapes ------------------------------------------------------------------------------------------

row_too_few : IsState (record state { rows = row ∷ pending ∷ row ∷ [] }) → ⊥
row_too_few h = let e : ◌≡◌ {A = ℕ} 3 4 = h.rows in omega arith

slot_too_few : IsState (record state { slots = record { cores = None ∷ []; system = None } }) → ⊥
slot_too_few h = let e : ◌≡◌ {A = ℕ} 1 4 = h.slots in omega arith

tree_of_another_board : IsState (record state { tree = record tree { levels = (4 ∷ []) ∷ [] } }) → ⊥
tree_of_another_board h = let e : ◌≡◌ {A = ℕ} 1 2 = ap length h.levels in omega arith

-- a cluster has another count than that of its cores
counts_of_others : IsState (record state {
  counts =
      (record { on = 1; pending = 1 } ∷ record { on = 0; pending = 0 } ∷ [])
      ∷ (record { on = 2; pending = 1 } ∷ []) ∷ [];
}) → ⊥
unfolding counts_below
counts_of_others h =
    let e : ◌≡◌ {A = ℕ} 0 1 =
    ap (λ (k : StatusCounts). k.on) (h.counts.each 1 1 (omega arith) (omega arith) (omega arith)) in
    omega arith
