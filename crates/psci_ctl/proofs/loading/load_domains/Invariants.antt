-- The levels so far have their depths and their sums, and the rest of the words is that of the
-- others.
use Rattle.std.proofs.Common.{◌≡◌, ℕ, ◌<◌, ◌≤◌, ◌++◌, drop, flat_map, length, sum, take}
use Rattle.std.specs.List.{All}
use Rattle.psci_board.specs.Board.{nodes}
use Rattle.psci_ctl_spec.specs.Values.{starts_below}
use Rattle.psci_ctl.specs.Rows.{HasRows, core_row, domain_at}
use Rattle.psci_ctl.specs.Saved.{depths, level_sizes}
use Rattle.psci_ctl.proofs.loading.load_domains.Given as goal

abbrev pub invariant-loop-level : goal.invariant-loop-level
invariant-loop-level l = record {
  shape : HasRows l.board l.levels;
  done : flat_map depths (take l.level l.levels) ++ l.rest ≡ l.words;
  sums : (m p : ℕ) → m < l.level → p < nodes l.board m → (domain_at l.levels m p).starts
      ≡ starts_below l.board (λ c. (core_row l.rows c).starts)
      (record { level = m; place = p });
  left : length l.rest ≡ sum (drop l.level (level_sizes l.board.levels));
  few : All (λ d. d ≤ 3) l.rest;
}
