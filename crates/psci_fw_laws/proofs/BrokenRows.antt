-- Worked examples: what is outstanding, who has entered, limits, messages, claims, what is granted
-- or carried out, and what is in the way of a request; each clause with a state that breaks it.
use Rattle.std.proofs.Common.{◌+◌, ◌==◌, ◌∷◌, ◌≡◌, ◌≤◌, [], ap, arith, false, if◌then◌else◌, inl}
use Rattle.std.proofs.Common.{inr, List, None, Option, refl, Some, suc, true, zero, ℕ}
use Rattle.std.proofs.lemmas.Bool.{ne_eqb}
use Rattle.psci_board.specs.Board.{BoardValue, up}
use Rattle.psci_messages.specs.Message.{AckValue, MessageValue}
use Rattle.psci_messages.specs.Slots.{Slot, OfCore, OfSystem}
use Rattle.psci_messages.specs.View.{PowerView}
use Rattle.psci_messages.specs.declared.kind.Kind.{Kind}
use Rattle.psci_messages.specs.declared.kind.Kind.TheVariants.{Down, Off, Start}
use Rattle.psci_messages.specs.declared.part.Part.{Part}
use Rattle.psci_fw_spec.specs.Changes.{start_of_life}
use Rattle.psci_fw_spec.specs.Phases.{Away, Pending, Running, Suspended, Phase}
use Rattle.psci_fw_spec.specs.Values.{Values}
use Rattle.psci_fw_spec.specs.declared.status.Status.TheVariants.{On}
use Rattle.psci_fw_laws.specs.Beside.{AreAwake, HasSleeper, IsInTheWay, NobodyAwake}
use Rattle.psci_fw_laws.specs.Messages.{AreEntered, AreGranted, AreOutstanding, AreRising}
use Rattle.psci_fw_laws.specs.Messages.{AreWithin, HasDeeper, IsCarriedOut, IsClaimOn, IsCurrent}
use Rattle.psci_fw_laws.specs.Messages.{IsFromStart, IsOfCore, IsOfLife, IsOfThisLife, IsSent}
use Rattle.psci_fw_laws.specs.Messages.{IsSound, known_below, part_for}
use Rattle.psci_abi.proofs.Tables.{◌⇒◌, Gives}
use Rattle.psci_fw_laws.proofs.Claiming.{board, message, part}

-- the Down of core 3 that has entered once, and went off with its cluster
abbrev down_3 : MessageValue
down_3 = message Down 3 1 1 (part 0 3 1 ∷ part 1 3 1 ∷ [])

abbrev start_3 : MessageValue
start_3 = message Start 3 1 1 []

abbrev off_3 : MessageValue
off_3 = message Off 3 1 1 []

-- the same for every core
abbrev each : {A : Type 0} → A → ℕ → A
each x c = x

-- Outstanding ---------------------------------------------------------------------------------

-- a core with this known start, in this phase, to which this message was sent
abbrev WaitsFor : ℕ → ℕ → Phase → MessageValue → Type 0
WaitsFor core known phase m = IsOfCore 1 (each known) (each phase) (m ∷ []) core m

never_waits :
    -- for another core, of another start, a message for the system
    (WaitsFor 2 1 Away down_3 → ⊥)
    × (WaitsFor 3 2 Away down_3 → ⊥)
    × (WaitsFor 3 1 Away off_3 → ⊥)
    -- a Start of a core that is not pending, a Down of one that is
    × (WaitsFor 3 1 Away start_3 → ⊥)
    × (WaitsFor 3 1 Pending down_3 → ⊥)
    -- of another life, and never sent
    × (IsOfLife 2 (down_3 ∷ []) down_3 → ⊥)
    × (IsOfLife 1 [] down_3 → ⊥)
never_waits = search arith

-- a slot with this message
abbrev for_core : MessageValue → Slot → Option MessageValue
for_core m (OfCore c) = Some m
for_core m OfSystem = None

abbrev for_system : MessageValue → Slot → Option MessageValue
for_system m (OfCore c) = None
for_system m OfSystem = Some m

not_outstanding :
    -- a Start for the system, an Off that was never sent, a Down in the slot of each core
    (AreOutstanding 1 (each 1) (each Away) (start_3 ∷ []) (for_system start_3) → ⊥)
    × (AreOutstanding 1 (each 1) (each Away) [] (for_system off_3) → ⊥)
    × (AreOutstanding 1 (each 1) (each Away) (down_3 ∷ []) (for_core down_3) → ⊥)
not_outstanding = (
  λ h. let halts : false ≡ true = h.halts start_3 refl in cc,
  λ h. let at : None ≡ Some off_3 = (h.system off_3 refl).at in cc,
  λ h. omega (arith, (h.core 2 down_3 refl).core),
)

-- Cores that have entered, and limits -----------------------------------------------------------

-- a core without a known start that runs, is suspended, is ON
not_entered : (AreEntered (each 0) (each On) (each Running) → ⊥)
    × (AreEntered (each 0) (each On) (each (Suspended (1 ∷ []))) → ⊥)
    × (AreEntered (each 0) (each On) (each Away) → ⊥)
not_entered = (
  λ h. omega (arith, h.runs 3 refl),
  λ h. omega (arith, h.suspended 3 (1 ∷ []) refl),
  λ h. let off : true ≡ false = h.not_on 3 refl in cc,
)

-- so many starts of core 3, and none of another
abbrev of_core_3 : ℕ → ℕ → ℕ
of_core_3 starts c = if c == 3 then starts else 0

beyond_limits :
    -- a fourth life; start 1001 of core 3 alone, so that no sum is too large
    (AreWithin board 4 (each 0) [] → ⊥)
    × (AreWithin board 1 (of_core_3 1001) [] → ⊥)
    -- a message with number 1001, and a part with a sum of 4001 starts
    × (AreWithin board 1 (each 1) (message Start 3 1 1001 [] ∷ []) → ⊥)
    × (AreWithin board 1 (each 1) (message Down 3 1 1 (part 0 3 4001 ∷ []) ∷ []) → ⊥)
beyond_limits = (
  λ h. omega (arith, h.lives),
  λ h. omega (arith, h.starts 3),
  λ h. omega (arith, h.number 0 (message Start 3 1 1001 []) refl),
  λ h. omega (arith, h.generation 0 0 _ (part 0 3 4001) refl refl),
)

-- Messages ------------------------------------------------------------------------------------

-- a Down of core 3 in life 1, and whether it is sound
abbrev IsSoundDown : ℕ → List Part → Type 0
IsSoundDown number parts = IsSound board (message Down 3 1 number parts)

unsound :
    -- of life 0, of core 4, with a part too many, beyond the start limit
    (IsSound board (message Start 3 0 0 []) → ⊥)
    × (IsSound board (message Start 4 1 0 []) → ⊥)
    × (IsSoundDown 1 (part 0 3 1 ∷ part 1 3 1 ∷ part 2 3 1 ∷ part 3 3 1 ∷ []) → ⊥)
    × (IsSoundDown 1001 (part 0 3 1001 ∷ []) → ⊥)
unsound = search arith

unsound_by_kind :
    -- a Start that leaves no room, and a Down before any entry
    (IsSound board (message Start 3 1 1000 []) → ⊥)
    × (IsSoundDown 0 (part 0 3 0 ∷ []) → ⊥)
    -- its first generation is of another start, or its generations fall
    × (IsSoundDown 2 (part 0 3 1 ∷ []) → ⊥)
    × (IsSoundDown 2 (part 0 3 2 ∷ part 1 3 1 ∷ []) → ⊥)
unsound_by_kind = (
  λ h. omega (arith, h.room refl),
  λ h. omega (arith, h.entered refl),
  λ h. omega (arith, h.first (part 0 3 1) refl),
  λ h. omega (arith, h.rises 0 (part 0 3 2) (part 1 3 1) refl refl),
)

not_of_this_life :
    -- a number that is not known yet, an Off in a life that is not halting
    (IsOfThisLife board false (each 0) (each Away) start_3 → ⊥)
    × (IsOfThisLife board false (each 1) (each Away) off_3 → ⊥)
    -- a Start of a core that is not pending, a Down that is not what its core asks of itself
    × (IsOfThisLife board false (each 1) (each Away) start_3 → ⊥)
    × (IsOfThisLife board false (each 1) (each Running) down_3 → ⊥)
    -- a generation above the known starts
    × (IsOfThisLife board false (each 0) (each Away) down_3 → ⊥)
not_of_this_life = (
  λ h. omega (arith, h.number),
  λ h. let halts : false ≡ true = h.halts refl in cc,
  λ h. let pending = h.pending refl refl in cc,
  λ h. omega (arith, h.asked refl refl (λ e. absurd (cc)) (part 0 3 1) refl),
  λ h. omega (arith, h.number),
)

-- a Down of life 2, where the firmware is in life 1
sent_in_a_later_life :
    IsSent board 1 false (each 1) (each Away) (message Down 3 2 1 (part 0 3 1 ∷ [])) → ⊥
sent_in_a_later_life h = let begun : 2 ≤ 1 = h.begun in absurd (omega (arith, begun))

-- Claims ----------------------------------------------------------------------------------------

parts_for_domains : Gives (λ (x : MessageValue × ℕ × ℕ × ℕ). part_for board x.1 x.2 x.3 x.0)
    -- of its own domain, of its cluster, and of no other cluster, core, level or life
    ((down_3, 1, 0, 3) ⇒ Some (part 0 3 1)
    ∷ (down_3, 1, 1, 1) ⇒ Some (part 1 3 1)
    ∷ (down_3, 1, 1, 0) ⇒ None
    ∷ (down_3, 1, 0, 2) ⇒ None
    ∷ (down_3, 1, 2, 0) ⇒ None
    ∷ (down_3, 2, 0, 3) ⇒ None
    -- another message has none, even with parts
    ∷ (record down_3 { kind = Start }, 1, 0, 3) ⇒ None ∷ [])
unfolding up
parts_for_domains = refl

-- a core has its own known starts, a cluster those of its two cores, the system those of all
sums_below : Gives (λ (x : ℕ × ℕ). known_below board (λ c. 10 + c) x.0 x.1)
    ((0, 3) ⇒ 13 ∷ (1, 1) ⇒ 25 ∷ (2, 0) ⇒ 46 ∷ [])
unfolding known_below
sums_below = refl

-- a claim of a life's start, on a core and on a cluster off the boot path
from_the_start : IsFromStart board 0 3 (part 0 3 0) × IsFromStart board 1 1 (part 1 3 0)
unfolding up
from_the_start = (
  record { node = refl; off_path = refl; is = refl },
  record { node = refl; off_path = refl; is = refl },
)

not_from_the_start :
    -- not on the boot core or the system, nor on what the board does not have
    (IsFromStart board 0 0 (part 0 3 0) → ⊥)
    × (IsFromStart board 2 0 (part 2 3 0) → ⊥)
    × (IsFromStart board 0 4 (part 0 3 0) → ⊥)
    -- nor less deep, or of another generation
    × (IsFromStart board 0 3 (part 0 2 0) → ⊥)
    × (IsFromStart board 0 3 (part 0 3 1) → ⊥)
unfolding up
not_from_the_start = (
  λ s. let no : true ≡ false = s.off_path in cc,
  λ s. let no : true ≡ false = s.off_path in cc,
  λ s. let no : false ≡ true = s.node in cc,
  λ s. omega (arith, ap (λ (p : Part). p.depth) s.is),
  λ s. omega (arith, ap (λ (p : Part). p.generation) s.is),
)

-- where both cores of a cluster have started once, a claim is current that knows of both
current : IsCurrent board (each 1) 1 1 (part 1 3 2)
    × (IsCurrent board (each 1) 1 1 (part 1 3 1) → ⊥)
unfolding known_below
current = (refl, λ e. omega (arith, e))

-- core 3 goes off in this life, and claims itself and its cluster at these generations
abbrev claimed_in : ℕ → ℕ → ℕ → MessageValue
claimed_in life own cluster = message Down 3 life own (part 0 3 own ∷ part 1 3 cluster ∷ [])

not_rising :
    -- one generation twice in life 2, also in the life before the last one
    (AreRising board (claimed_in 2 2 1 ∷ claimed_in 2 1 1 ∷ []) → ⊥)
    × (AreRising board (claimed_in 3 1 1 ∷ claimed_in 2 2 1 ∷ claimed_in 2 1 1 ∷ []) → ⊥)
    -- a generation that falls, and that of the life's start
    × (AreRising board (claimed_in 2 2 1 ∷ claimed_in 2 1 2 ∷ []) → ⊥)
    × (AreRising board (claimed_in 2 1 0 ∷ []) → ⊥)
unfolding up
not_rising = (
  λ are. omega (arith, are.later 2 1 1 0 1 _ _ _ _ (omega arith) refl refl refl refl),
  λ are. omega (arith, are.later 2 1 1 1 2 _ _ _ _ (omega arith) refl refl refl refl),
  λ are. omega (arith, are.later 2 1 1 0 1 _ _ _ _ (omega arith) refl refl refl refl),
  λ are. omega (arith, are.start 2 1 1 0 _ _ refl refl),
)

-- the boot core, which the start of a life does not claim, is in standby, and nothing was sent
unclaimed : (p : Part) → IsClaimOn board 1 0 0 p [] → ⊥
unfolding up
unclaimed p (inl start) = let off : true ≡ false = start.off_path in absurd (cc)
unclaimed p (inr sent) = let at : None ≡ Some sent.message = sent.at in absurd (cc)

granted_by_no_claim : AreGranted board 1 (each 1) (each Away) (λ level place. 1) [] → ⊥
granted_by_no_claim h =
    let some = h.claimed 0 0 (omega arith) in unclaimed some.part some.claim

-- core 3 is claimed by the start of the life, for power-down, and not deeper
none_so_deep : (p : Part) → IsClaimOn board 1 0 3 p [] → 4 ≤ p.depth → ⊥
none_so_deep p (inl start) deep =
    let three : p.depth ≡ 3 = ap (λ (q : Part). q.depth) start.is in omega (arith, deep, three)
none_so_deep p (inr sent) deep = let at : None ≡ Some sent.message = sent.at in absurd (cc)

deeper_than_the_start : HasDeeper board 1 (each 0) 0 3 4 [] → ⊥
deeper_than_the_start h = none_so_deep h.part h.claim h.deep

-- Carried out -----------------------------------------------------------------------------------

-- two groups of two clusters of one core
abbrev tall : BoardValue
tall = record board { levels = (1 ∷ 1 ∷ 1 ∷ 1 ∷ []) ∷ (2 ∷ 2 ∷ []) ∷ (2 ∷ []) ∷ [] }

-- core 3 sent a Down by its first start, with parts for itself, its cluster and its group, of which
-- the last one has this generation
abbrev sent : ℕ → MessageValue
sent last = message Down 3 1 1 (part 0 1 1 ∷ part 1 1 1 ∷ part 2 1 last ∷ [])

-- it waits in the slot of core 3; cores 2 and 3 have so many known starts, and each domain is
-- granted this
abbrev waits : Option MessageValue → Slot → Option MessageValue
waits m (OfCore c) = if c == 3 then m else None
waits m OfSystem = None

abbrev kept : ℕ → ℕ → ℕ → Option MessageValue → Values
kept second third granted m = record (start_of_life tall 1) {
  known = λ c. if c == 3 then third else (if c == 2 then second else 0);
  granted = λ level place. granted;
  outstanding = waits m;
}

-- a stale acknowledgement of so many parts
abbrev acked : Kind → ℕ → AckValue
acked kind applied = record {
  kind = kind;
  core = record { number = 3 };
  life = 1;
  number = 1;
  applied = applied;
  stale = true;
}

-- one of three parts says so of the group, below which core 2 has entered once, too; and of core 3
carried_out : IsCarriedOut tall (kept 1 1 1 (Some (sent 2))) (acked Down 3) 2 1
    × IsCarriedOut tall (kept 1 1 1 (Some (sent 2))) (acked Down 3) 0 3
unfolding up
carried_out = (
  record {
    message = _;
    part = part 2 1 2;
    kind = refl;
    outstanding = refl;
    path = refl;
    granted = omega arith;
    applied = omega arith;
    at = refl;
    last = refl;
  },
  record {
    message = _;
    part = part 0 1 1;
    kind = refl;
    outstanding = refl;
    path = refl;
    granted = omega arith;
    applied = omega arith;
    at = refl;
    last = refl;
  },
)

-- not where two parts were applied; the group is not on the core's path; it is of no Down; nothing
-- is granted any more, nothing waits, or core 3 has entered since
not_carried_out : (IsCarriedOut tall (kept 0 1 1 (Some (sent 1))) (acked Down 2) 2 1 → ⊥)
    × (IsCarriedOut tall (kept 0 1 1 (Some (sent 1))) (acked Down 3) 2 0 → ⊥)
    × (IsCarriedOut tall (kept 0 1 1 (Some (sent 1))) (acked Start 3) 2 1 → ⊥)
    × (IsCarriedOut tall (kept 0 1 0 (Some (sent 1))) (acked Down 3) 2 1 → ⊥)
    × (IsCarriedOut tall (kept 0 1 1 None) (acked Down 3) 2 1 → ⊥)
    × (IsCarriedOut tall (kept 0 2 1 (Some (sent 1))) (acked Down 3) 2 1 → ⊥)
unfolding up
not_carried_out = search arith

-- In the way ------------------------------------------------------------------------------------

-- one core is awake, and each domain is granted retention
abbrev seen : ℕ → PowerView
seen awake = record {
  ask = λ c level. 0;
  known = λ c. 0;
  is_active = λ c. c == awake;
  is_away = λ c. false;
  granted = λ level place. 2;
}

-- power-down of core, cluster and system
abbrev deep : List ℕ
deep = 3 ∷ 3 ∷ 3 ∷ []

-- the other core of the cluster, and the other cluster, above each of its cores; of a request of
-- core 3 the other core of its own cluster, and the first cluster
in_the_way : IsInTheWay board (seen 0) 0 deep 0 1 × IsInTheWay board (seen 0) 0 deep 1 3
    × IsInTheWay board (seen 0) 3 deep 0 2 × IsInTheWay board (seen 0) 3 deep 1 0
unfolding up
in_the_way = omega arith

-- not the caller's own cluster, a core of another cluster, a core that the board does not have,
-- anything above the system, or what was granted as much as is asked
not_in_the_way : (IsInTheWay board (seen 0) 0 deep 1 1 → ⊥)
    × (IsInTheWay board (seen 0) 0 deep 0 2 → ⊥)
    × (IsInTheWay board (seen 0) 0 deep 1 4 → ⊥)
    × (IsInTheWay board (seen 0) 0 (3 ∷ 3 ∷ 3 ∷ 3 ∷ []) 2 1 → ⊥)
    × (IsInTheWay board (seen 0) 0 (3 ∷ 2 ∷ 2 ∷ []) 0 1 → ⊥)
unfolding up
not_in_the_way = search arith

-- core 2 is awake, and so somebody below cluster 1, above whichever core it is named
somebody : NobodyAwake board (seen 2) 1 3 → ⊥
unfolding up
somebody none = let no : true ≡ false = none 2 (omega arith) refl in absurd (cc)

-- where core 0 is, nobody is, and the cluster sleeps too light; each in the way has to be awake
nobody : NobodyAwake board (seen 0) 1 3
unfolding up
nobody zero on at = let no : 0 ≡ 1 = at in absurd (omega (arith, no))
nobody (suc x) on at = ne_eqb (suc x) 0 (λ e. absurd (omega (arith, e)))

sleeper : HasSleeper board (seen 0) 0 deep
sleeper = record { level = 1; core = 3; way = in_the_way.1; asleep = nobody }

not_denied : AreAwake board (seen 0) 0 deep → ⊥
not_denied are = are.each 1 3 in_the_way.1 nobody
