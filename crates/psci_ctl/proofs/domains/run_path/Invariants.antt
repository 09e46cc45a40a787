-- The path is fully on below this level, and the rest is as it was.
use Rattle.std.proofs.Common.{◌≡◌, ℕ}
use Rattle.psci_ctl.specs.Rows.{HasRows, domain_at, path_on_below}
use Rattle.psci_ctl.proofs.domains.run_path.Given as goal

abbrev pub invariant-loop-level : goal.invariant-loop-level
invariant-loop-level l = record {
  rows : (level place : ℕ) → domain_at l.levels level place
      ≡ path_on_below l.board l.fn.core.number l.fn.levels l.level level place;
  shape : HasRows l.board l.levels;
}
