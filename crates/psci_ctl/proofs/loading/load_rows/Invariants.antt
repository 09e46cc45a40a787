-- The domains so far have their depths and their sums.
use Rattle.std.proofs.Common.{◌≡◌, ℕ, ◌<◌, get_or, length, take}
use Rattle.psci_board.specs.Board.{nodes}
use Rattle.psci_ctl_spec.specs.Values.{starts_below}
use Rattle.psci_ctl.specs.Rows.{core_row, off_domain}
use Rattle.psci_ctl.specs.Saved.{depths}
use Rattle.psci_ctl.proofs.loading.load_rows.Given as goal

abbrev pub invariant-loop-place : goal.invariant-loop-place
invariant-loop-place l = record {
  done : depths (take l.place l.domains) ≡ take l.place l.words;
  sums : (p : ℕ) → p < l.place → (get_or l.domains p off_domain).starts
      ≡ starts_below l.board (λ c. (core_row l.rows c).starts)
      (record { level = l.level; place = p });
  long : length l.domains ≡ nodes l.board l.level;
}
