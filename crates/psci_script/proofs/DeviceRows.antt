-- Worked examples: which devices gave up, and which did not; what one read or write leaves of a
-- device, by its answer, and what it does not.
use Rattle.std.proofs.Common.{◌≡◌, true, false, inl, inr, refl, ap, arith, ◌∷◌, [], length, Some}
use Rattle.std.specs.declared.io.ErrorKind.TheVariants.{NotFound, Interrupted}
use Rattle.psci_script.specs.declared.device.Io.TheVariants as ios
use Rattle.psci_script.specs.Device.{FailsRead, FailsWrite, GaveUp, Gives, Interrupts, Stops, Takes}
use Rattle.psci_script.specs.declared.fault.ReplayFault.TheVariants.{Read}
use Rattle.psci_script.specs.Progress.{OnlyGivenUp}
use Rattle.std.proofs.lemmas.Bool.{eqb-false, true≢false, false≢true}

-- Given up --------------------------------------------------------------------------------------

-- one that has failed, and one that was interrupted 1,000 times in a row
gave_up : GaveUp true 0 × GaveUp false 1000
gave_up = (inl refl, inr refl)

nearly_interrupted : GaveUp false 999 → ⊥
nearly_interrupted (inl fails) = cc
nearly_interrupted (inr many) = absurd (omega (arith, many))

-- a read fault where the source failed and the sink did not; and not the other way round
source_gave_up : OnlyGivenUp (λ s. s) (λ s. 0) (λ k. k) (λ k. 0) true false Read
source_gave_up = (λ fault. inl refl, λ fault. absurd (cc))

-- Failed ----------------------------------------------------------------------------------------

-- a read fails the device, or leaves it as it was
reads : FailsRead ios.Failed false true × FailsRead ios.Interrupted true true
    × FailsRead (ios.Bytes 3) false false × FailsRead (ios.Bytes 0) false false
reads = (refl, refl, refl, refl)

other_reads : ¬ (FailsRead ios.Failed false false) × ¬ (FailsRead ios.Interrupted false true)
other_reads = (false≢true, true≢false)

-- so does a write, and one that takes none of some bytes fails it
writes : FailsWrite ios.Failed (7 ∷ []) false true
    × FailsWrite (ios.Bytes 1) (7 ∷ 8 ∷ []) false false
    × FailsWrite (ios.Bytes 0) [] false false × FailsWrite (ios.Bytes 1) (7 ∷ []) true true
writes = (refl, refl, refl, refl)

other_writes : ¬ (FailsWrite ios.Failed (7 ∷ []) false false)
    × ¬ (FailsWrite ios.Interrupted (7 ∷ []) false true)
    × ¬ (FailsWrite (ios.Bytes 0) (7 ∷ []) false false)
other_writes = (false≢true, true≢false, false≢true)

-- Interrupted -----------------------------------------------------------------------------------

-- a row of interruptions is counted up to its limit, and ends with bytes
counted : Interrupts ios.Interrupted 998 999 × Interrupts ios.Interrupted 999 1000
    × Interrupts ios.Interrupted 1000 1000
counted = (refl, refl, refl)

ended_by_bytes : Interrupts (ios.Bytes 3) 5 5 → ⊥
ended_by_bytes h = eqb-false 5 0 refl h

-- an error is an interruption where it is of that kind, and else a failure
stops : Stops Interrupted ios.Interrupted false false 7 8 × Stops NotFound ios.Failed false true 7 7
stops = ((refl, refl, refl), (λ same. cc, refl))

stops_not :
    ¬ (Stops NotFound ios.Interrupted false false 7 8)
    × ¬ (Stops Interrupted ios.Interrupted false false 7 7)
    × ¬ (Stops Interrupted ios.Failed false true 7 7)
    × ¬ (Stops NotFound (ios.Bytes 1) false false 7 7)
stops_not = (
  λ h. let no : NotFound ≡ Interrupted = h.0 in absurd (cc),
  λ h. eqb-false 7 8 refl h.2,
  λ h. h.0 refl,
  λ h. h,
)

-- Bytes -----------------------------------------------------------------------------------------

-- what is read is lost to the source, and what is written comes last
one_given : Gives (ios.Bytes 1) (7 ∷ 0 ∷ []) (Some (7 ∷ 8 ∷ [])) (Some (8 ∷ []))
one_given = (omega arith, refl, λ none room. absurd (omega (arith, none)))

gives_not :
    ¬ (Gives (ios.Bytes 0) (0 ∷ []) (Some (7 ∷ [])) (Some (7 ∷ [])))
    × ¬ (Gives (ios.Bytes 1) (7 ∷ []) (Some (7 ∷ [])) (Some (7 ∷ [])))
gives_not = (
  λ h. eqb-false 1 0 refl (ap length (h.2 refl (omega arith))),
  λ h. let no : 7 ∷ [] ≡ 7 ∷ 7 ∷ [] = h.1 in absurd (cc),
)

one_taken : Takes (ios.Bytes 1) (7 ∷ 8 ∷ []) (Some (6 ∷ [])) (Some (6 ∷ 7 ∷ []))
one_taken = (omega arith, refl)
