-- Worked examples: what the threads of a run saw by polls stands in its history.
use Rattle.std.proofs.Common.{◌≡◌, ℕ, List, [], ◌∷◌, inl, inr, subst}
use Rattle.psci_audit.specs.psci_board.Board.{BoardValue}
use Rattle.psci_fw.specs.psci_fw_spec.declared.status.Status.{Status}
use Rattle.psci_fw.specs.psci_fw_spec.declared.status.Status.TheVariants.{On, Off}
use Rattle.psci_fw.specs.psci_fw_spec.Statuses.{statuses}
use Rattle.psci_shared.specs.Places.{FwEntry}
use Rattle.psci_shared.specs.declared.sighting.Sighting.{Sighting}
use Rattle.psci_shared.specs.Passes.{AreInHistory, history_of}
use Rattle.psci_bench.specs.declared.gathering.Polled.{Polled}
use Rattle.psci_bench.specs.Watches.{AllInHistory}
use Rattle.psci_bench.specs.Runs.{IsAudited}
use Rattle.psci_bench.specs.declared.gathering.Threaded.{Threaded}

abbrev of : ℕ → ℕ → Status → Sighting
of core serial status = record { core = record { number = core }; serial = serial; status = status }

not_on : (b : BoardValue) → AreInHistory b [] (of 0 0 On ∷ []) → ⊥
unfolding statuses history_of
not_on b ((small, inl is), rest) = let e : On ≡ Off = is.1 in cc
not_on b ((small, inr other), rest) = other

-- where nothing was asked, a core was OFF and nothing else
seen_on : (b : BoardValue) (t : Threaded) (q : Polled) → t.trace.firmware.items ≡ []
    → t.polls.items ≡ q ∷ [] → q.seen.items ≡ of 0 0 On ∷ [] → IsAudited b t → ⊥
seen_on b t q fs qs saw is = not_on b (subst (λ (ss : List Sighting). AreInHistory b [] ss) saw
    (subst (λ (es : List FwEntry). AllInHistory b es (q ∷ [])) fs
    (subst (λ (l : List Polled). AllInHistory b t.trace.firmware.items l) qs is.seen)).0)
