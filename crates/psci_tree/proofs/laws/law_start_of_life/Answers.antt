-- At the start of a life only the boot core is active, and its path is cleared.
use Rattle.psci_tree.proofs.Words.{◌==◌, ◌∙◌, ◌≡◌, Active, all_off, ap, arith, cond, CoreState}
use Rattle.psci_tree.proofs.Words.{false, known_at, never_started, place_above, with_core_state}
use Rattle.psci_tree.proofs.Words.{ℕ}
use Rattle.psci_tree.specs.Changes.{made_pending, start_of_life}
use Rattle.psci_tree.proofs.Seen.{confirmed_off, confirmed_with, core_off, core_with, cores_off}
use Rattle.psci_tree.proofs.Seen.{granted_off, granted_with}
use Rattle.psci_tree.proofs.laws.law_start_of_life.Goals as goal

pub returns-clause-cores : goal.returns-clause-cores
unfolding start_of_life made_pending
returns-clause-cores c = λ levels d h.
    let was : known_at (all_off levels) 0 ≡ 0 =
    ap (λ (s : CoreState). s.known) (core_off levels 0) in
    core_with (all_off levels) 0 Active (known_at (all_off levels) 0) d
    (omega (arith, cores_off levels))
    ∙ ap (λ (s : CoreState). cond (0 == d) (record {
      activity = Active;
      known = known_at (all_off levels) 0;
    }) s) (core_off levels d)
    ∙ ap (λ (k : ℕ). cond (0 == d) (record { activity = Active; known = k }) never_started) was

pub returns-clause-granted : goal.returns-clause-granted
unfolding start_of_life made_pending
returns-clause-granted c = λ levels l p h i.
    granted_with (with_core_state (all_off levels) 0 Active (known_at (all_off levels) 0)) 0 l p
    ∙ ap (λ (d : ℕ). cond (place_above levels l 0 == p) 0 d) (granted_off levels l p h i)

pub returns-clause-confirmed : goal.returns-clause-confirmed
unfolding start_of_life made_pending
returns-clause-confirmed c = λ levels l p h i.
    confirmed_with (with_core_state (all_off levels) 0 Active (known_at (all_off levels) 0)) 0 l p
    ∙ ap (λ b. cond (place_above levels l 0 == p) false b) (confirmed_off levels l p h i)
