-- Worked examples: the claims on a domain, and moments at which two are live, or a domain is deeper
-- than was asked for.
use Rattle.std.proofs.Common.{◌≡◌, ◌++◌, ℕ, Bool, List, [], ◌∷◌, false, map, true, refl}
use Rattle.psci_board.proofs.Tables.{Gives}
use Rattle.psci_fw_laws.specs.psci_board.declared.draft.Node.{Node}
use Rattle.psci_fw_laws.specs.psci_messages.declared.kind.Kind.TheVariants.{Down}
use Rattle.psci_world_spec.specs.declared.event.Event.{Event}
use Rattle.psci_world_spec.specs.declared.event.Event.TheVariants.{Enter, Wake, Deliver}
use Rattle.psci_world_spec.specs.Legal.{run_from}
use Rattle.psci_world_spec.proofs.Scripts.{acked, board, call, goes_down, off, part, retention}
use Rattle.psci_world_spec.proofs.Scripts.{system_reset}
use Rattle.psci_headline.specs.Safe.{Claim, claims}
use Rattle.psci_headline.proofs.Histories.{at, both_on, both_os_initiated, on_os_initiated}
use Rattle.psci_headline.proofs.Histories.{standby, third_on}
use Rattle.psci_headline.proofs.Checking.{◌⇒◌, Asked, BreakAll, Breaks, computing, failing_after}
use Rattle.psci_headline.proofs.Checking.{Legal, One, Powered}

-- a claim: depth, generation, whether it was asked for
abbrev claim : ℕ → ℕ → Bool → Claim
claim depth generation asked =
    record { depth = depth; generation = generation; asked = asked }

-- after these events, the claims on some domains, and those that are live
abbrev claims_after : ℕ → List Event → List Node → List (List Claim)
claims_after life events = map (λ n. claims board life n (run_from board [] events))

-- the start of a life claims power-down off the boot core's path, and nothing on it
first_claims : claims_after 1 [] (at 0 0 ∷ at 0 1 ∷ at 0 3 ∷ at 1 0 ∷ at 1 1 ∷ at 2 0 ∷ [])
    ≡ [] ∷ (claim 3 0 true ∷ []) ∷ (claim 3 0 true ∷ []) ∷ [] ∷ (claim 3 0 true ∷ []) ∷ [] ∷ []
unfolding computing
first_claims = refl

-- in the next life its own claims alone are counted
next_life_claims : claims_after 2
    (third_on ++ off 3 ∷ system_reset 0 ∷ Deliver 2 ∷ []) (at 0 3 ∷ [])
    ≡ (claim 3 0 true ∷ []) ∷ []
unfolding computing
next_life_claims = refl

moments : Gives failing_after
    -- two_last_cores: two cores go off, each of them as the last one of their cluster
    (Breaks One board (Legal both_on ∷ off 2 ⇒ goes_down 2 2 1 1 (part 0 3 1 ∷ part 1 3 2 ∷ [])
    ∷ Legal (off 3 ∷ []) ∷ [])
    -- off_twice: a core goes off twice in one start
    ∷ Breaks One board (Legal (third_on ++ off 3 ∷ []) ∷ off 3 ⇒ goes_down 2 3 1 1 (part 0 3 1 ∷ [])
    ∷ [])
    -- a Down of the start before is applied, where that of the last start says
    -- another depth
    ∷ Breaks Asked board (Legal third_on ∷ Legal (retention 3 ∷ Wake 3 ∷ Enter 3 ∷ off 3 ∷ [])
    ∷ Deliver 1 ⇒ acked 1 Down 3 1 1 1 false ∷ [])
    -- deeper_than_the_core_asks: a core asks for retention of itself, and its Down says power-down
    ∷ Breaks Asked board (Legal third_on ∷ retention 3 ⇒ goes_down 1 3 1 1 (part 0 3 1 ∷ [])
    ∷ Legal (Deliver 1 ∷ []) ∷ [])
    -- deeper_than_another_asks: a core asks for retention of its cluster and power-down of itself,
    -- and the last core of the cluster claims power-down of the cluster
    ∷ Breaks Asked board (Legal both_on ∷ Legal (call 2 0xc4000001 0x01010023 0x40003000 1 ∷ [])
    ∷ off 3 ⇒ goes_down 3 3 1 1 (part 0 3 1 ∷ part 1 3 2 ∷ []) ∷ Legal (Deliver 2 ∷ Deliver 3 ∷ [])
    ∷ [])
    -- deeper_than_the_last_core_asks: OS-initiated mode: the last core claims more of its cluster
    -- than it asks
    ∷ Breaks Asked board (Legal on_os_initiated ∷ call 3 0xc4000001 0x01010023 0x40004000 2
    ⇒ goes_down 1 3 1 1 (part 0 3 1 ∷ part 1 3 1 ∷ []) ∷ Legal (Deliver 1 ∷ []) ∷ [])
    -- deeper_than_another_core: it claims power-down of its cluster, in which another core is in
    -- retention
    ∷ Breaks Asked board (Legal (both_os_initiated ++ retention 2 ∷ Deliver 2 ∷ [])
    ∷ call 3 0xc4000001 0x01010033 0x40004000 2 ⇒ goes_down 3 3 1 1 (part 0 3 1 ∷ part 1 3 2 ∷ [])
    ∷ Deliver 3 ⇒ acked 3 Down 3 1 1 2 false ∷ [])
    -- beside_a_running_core: a core beside runs, and executes below its cluster then
    ∷ BreakAll (Powered ∷ Asked ∷ []) board (Legal both_on ∷ off 3 ⇒ goes_down 2 3 1 1 (part 0 3 1
    ∷ part 1 3 2 ∷ []) ∷ Deliver 2 ⇒ acked 2 Down 3 1 1 2 false ∷ [])
    -- a core beside is in standby, and asked nothing of the cluster, which goes
    -- to standby
    ∷ Breaks Asked board (Legal both_on ∷ Legal (standby 2 ∷ []) ∷ off 3
    ⇒ goes_down 3 3 1 1 (part 0 3 1 ∷ part 1 1 2 ∷ []) ∷ Legal (Deliver 2 ∷ Deliver 3 ∷ []) ∷ [])
    -- one core asks for standby of the cluster, and the other one for power-down: it
    -- goes to retention
    ∷ Breaks Asked board (Legal both_on ∷ Legal (call 2 0xc4000001 0x01000011 0 0 ∷ Deliver 2 ∷ [])
    ∷ off 3 ⇒ goes_down 3 3 1 1 (part 0 3 1 ∷ part 1 2 2 ∷ []) ∷ Deliver 3
    ⇒ acked 1 Down 3 1 1 2 false ∷ []) ∷ [])
unfolding computing
moments = refl
