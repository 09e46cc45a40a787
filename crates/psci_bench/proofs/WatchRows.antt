-- Worked examples of what was seen by polls, and of how it is kept.
use Rattle.std.proofs.Common.{◌<◌, ◌∷◌, ◌≡◌, [], arith, false, inl, inr, List, None, refl, Some}
use Rattle.std.proofs.Common.{subst, sym, ℕ}
use Rattle.psci_fw.specs.psci_abi.declared.registers.Format.TheVariants.{Original}
use Rattle.psci_fw.specs.psci_board.Board.{BoardValue}
use Rattle.psci_fw.specs.psci_fw_spec.declared.status.Status.{Status}
use Rattle.psci_fw.specs.psci_fw_spec.declared.status.Status.TheVariants.{Off, Pending}
use Rattle.psci_fw.specs.psci_fw_spec.Statuses.{statuses}
use Rattle.psci_status.specs.Lists.{Item}
use Rattle.psci_shared.specs.declared.sighting.Sighting.{Sighting}
use Rattle.psci_shared.specs.Passes.{AreInHistory, history_of, PassView}
use Rattle.psci_bench.specs.declared.gathering.Polled.{Polled}
use Rattle.psci_bench.specs.Watches.{AllInHistory, AreSeen, HasSeen, HaveAllSeen, IsSeenByOne}
use Rattle.psci_bench.specs.Watches.{IsSeenLast}

-- two cores
abbrev board : BoardValue
board = record {
  levels = (2 ∷ []) ∷ [];
  ranges = record { start = 0; end = 64 } ∷ [];
  boot = 0;
  starts = 9;
  lives = 3;
  format = Original;
}

abbrev of : ℕ → ℕ → Status → Sighting
of core serial status = record { core = record { number = core }; serial = serial; status = status }

-- nothing of core 0; core 1 was off, and was asked on
abbrev items : List (List Item)
items = [] ∷ ((1, Pending) ∷ (0, Off) ∷ []) ∷ []

-- Of one pass -------------------------------------------------------------------------------------

was_off : HasSeen board items (of 1 0 Off)
was_off = (omega arith, inr (inl refl))

-- core 0 was not seen, and the board has no core 2
not_seen : ¬ (HasSeen board items (of 0 0 Off))
    × ¬ (HasSeen board ([] ∷ [] ∷ ((0, Off) ∷ []) ∷ []) (of 2 0 Off))
not_seen = (λ h. h.1, λ h. let e : 2 < 2 = h.0 in omega arith)

both_seen : HaveAllSeen board items (of 1 0 Off ∷ of 1 1 Pending ∷ [])
both_seen = (was_off, ((omega arith, inl refl), tt))

-- What is kept ------------------------------------------------------------------------------------

seen_last : IsSeenLast (Some (of 1 1 Pending)) (Some Pending) (of 1 0 Off ∷ of 1 1 Pending ∷ [])
    × IsSeenLast None None []
seen_last = ((refl, refl), refl)

-- Of threads --------------------------------------------------------------------------------------

abbrev pass : List (List Item) → PassView
pass seen = record {
  core = record { number = 0 };
  room = 4;
  told_full = false;
  items = [];
  seen = seen;
}

seen_by_the_second : IsSeenByOne board (pass [] ∷ pass items ∷ []) (of 1 0 Off ∷ [])
seen_by_the_second = inr (inl (was_off, tt))

seen_by_none : IsSeenByOne board (pass [] ∷ []) (of 1 0 Off ∷ []) → ⊥
seen_by_none (inl h) = h.0.1
seen_by_none (inr other) = other

module _ (p q : Polled) (first : p.seen.items ≡ of 1 0 Off ∷ []) (second : q.seen.items ≡ []) where
  both_threads : AreSeen board (pass items ∷ []) (p ∷ q ∷ [])
  both_threads = (
    subst (λ (ss : List Sighting). IsSeenByOne board (pass items ∷ []) ss) (sym first)
        (inl (was_off, tt)),
    (
      subst (λ (ss : List Sighting). IsSeenByOne board (pass items ∷ []) ss) (sym second)
          (inl tt),
      tt,
    ),
  )

  first_thread_saw_more : AreSeen board (pass [] ∷ []) (q ∷ p ∷ []) → ⊥
  first_thread_saw_more h =
      seen_by_none
      (subst (λ (ss : List Sighting). IsSeenByOne board (pass [] ∷ []) ss) first h.1.0)

  -- before any entry a core is OFF
  was_off_at_first : AllInHistory board [] (q ∷ p ∷ [])
  unfolding statuses history_of
  was_off_at_first = (
    subst (λ (ss : List Sighting). AreInHistory board [] ss) (sym second) tt,
    (
      subst (λ (ss : List Sighting). AreInHistory board [] ss) (sym first)
          ((omega arith, inl (refl, refl)), tt),
      tt,
    ),
  )
