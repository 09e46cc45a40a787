-- The parts so far are those of the levels below, and what they say is granted, and no more.
use Rattle.psci_fw_state.proofs.Words.{◌≡◌, granted_at, is_confirmed_at, IsDomainTree, state_at, ℕ}
use Rattle.psci_fw_state.proofs.Words.{view_of, wished_claims}
use Rattle.psci_coord.specs.Wish.{wanted}
use Rattle.psci_coord.proofs.Climbing.{IsClimbedTo}
use Rattle.psci_fw_state.proofs.Granting.{IsLaid, IsUnconfirmed}
use Rattle.psci_fw_state.proofs.claim.claim_levels.Given as goal

abbrev pub invariant-loop-level : goal.invariant-loop-level
invariant-loop-level l =
    let all = wished_claims l.board (view_of l.initial.tree) l.fn.core.number l.fn.wish in
    record {
      climbed : IsClimbedTo l.board (view_of l.initial.tree) l.fn.core.number
          (wanted l.board (view_of l.initial.tree) l.fn.core.number l.fn.wish) l.level l.parts;
      laid : IsLaid l.board l.fn.core.number all (granted_at l.initial.tree) l.tree l.level;
      unconfirmed : IsUnconfirmed l.board l.fn.core.number all (is_confirmed_at l.initial.tree)
          l.tree l.level;
      cores : (c : ℕ) → state_at l.tree c ≡ state_at l.initial.tree c;
      levels : l.tree.levels ≡ l.initial.tree.levels;
      tree : IsDomainTree l.tree;
    }
