-- Worked examples: records after which just one thing is not so that laws say of live claims, of
-- cores that are powered down, of what the firmware and the power controller know of each other, of
-- refusals, of what waits, is yet to be confirmed, is at rest and is told. The files RestRows and
-- UntoldRows have more of the last two, by the tests of them.
use Rattle.std.proofs.Common.{◌++◌, ◌<◌, ◌∷◌, ◌≡◌, ◌≤◌, ◌⊎◌, [], arith, Bool, false, inl, inr}
use Rattle.std.proofs.Common.{List, None, pos, refl, slice_get, Some, subst, true, ℕ}
use Rattle.std.proofs.lemmas.Bool.Decides.{nat_tests}
use Rattle.std.proofs.lemmas.Option.{none-some, same_Some}
use Rattle.psci_board.specs.Board.{BoardValue}
use Rattle.psci_ctl_spec.specs.psci_messages.Message.{AckValue, MessageValue}
use Rattle.psci_ctl_spec.specs.psci_messages.Slots.{OfCore, answers}
use Rattle.psci_ctl_spec.specs.psci_messages.declared.kind.Kind.TheVariants.{Down, Start}
use Rattle.psci_ctl_spec.specs.psci_messages.declared.start.Cause.TheVariants as causes
use Rattle.psci_fw_laws.specs.Messages.{known_below}
use Rattle.psci_fw_laws.specs.psci_fw_spec.Changes.{start_of_life}
use Rattle.psci_fw_laws.specs.psci_fw_spec.Phases as phases
use Rattle.psci_fw_laws.specs.psci_fw_spec.Values.{updated}
use Rattle.psci_fw_laws.specs.psci_fw_spec.declared.fault.FwFault.TheVariants.{NotRunning}
use Rattle.psci_fw_laws.specs.psci_fw_spec.declared.hw.Hw.TheVariants.{Off, On, Standby}
use Rattle.psci_world_spec.specs.Legal.{firmware_values, run_from}
use Rattle.psci_world_spec.specs.declared.event.Event.TheVariants.{Deliver, Enter, Reset, Take}
use Rattle.psci_world_spec.specs.declared.event.Event.TheVariants.{Wake}
use Rattle.psci_world_spec.specs.declared.place.Place.TheVariants.{Started, Stopped}
use Rattle.psci_world_spec.specs.declared.said.Record.{Record}
use Rattle.psci_world_spec.proofs.Scripts.{acked, board, call, computing, enters, goes_down}
use Rattle.psci_world_spec.proofs.Scripts.{limited, nothing, off, on_3, one_core, part, resumes}
use Rattle.psci_world_spec.proofs.Scripts.{retention, returns, sends, started, stops, system_off}
use Rattle.psci_world_spec.proofs.Scripts.{system_reset, tall, value, version}
use Rattle.psci_headline.specs.Laws.{Agree, AgreeIn, AreApart, AreAsked, AreClaimed}
use Rattle.psci_headline.specs.Laws.{NoneExecutes, NoneRefused}
use Rattle.psci_headline.specs.Safe.{Claim, claims, live_claims, was_powered_down}
use Rattle.psci_headline.specs.Complete.{Confirming, IsToldWhole}
use Rattle.psci_headline.specs.Settling.{AreAtRest, IsTold, Waiting, WasTold}
use Rattle.psci_headline.specs.PoweredDown.{AreDown}
use Rattle.psci_headline.proofs.Histories.{at, life_2, standby, third_on}
use Rattle.psci_headline.proofs.Checking.{◌⇒◌, Legal, Steps, past_from}

-- core 3 runs beside the boot core, and these steps come
abbrev past : List Steps → List Record
past steps = past_from board [] (Legal third_on ∷ steps)

-- three levels above the cores: in life 2, which the boot core has entered, these steps come
abbrev later : List Steps → List Record
later steps = past_from tall [] (Legal life_2 ∷ steps)

-- the system is reset by the message of this index, and the boot core enters in life 2
abbrev reset_after : ℕ → List Record → List Record
reset_after index past = run_from board past (system_reset 0 ∷ Deliver index ∷ Enter 0 ∷ [])

-- Claims: apart, and asked for --------------------------------------------------------------------

-- core 3 sends two claims in one start: of two depths, or of one
abbrev two_claims : ℕ → ℕ → List Record
two_claims first second = past (off 3 ⇒ goes_down 1 3 1 1 (part 0 first 1 ∷ [])
    ∷ retention 3 ⇒ goes_down 2 3 1 1 (part 0 second 1 ∷ []) ∷ [])

two_claims_in_the_life_before : AreApart board (reset_after 3 (two_claims 2 2)) → ⊥
unfolding computing claims
two_claims_in_the_life_before apart =
    let no : 0 ≡ 1 = apart 1 (at 0 3) 0 1 _ _
    (record { level = omega arith; place = omega arith }) refl refl refl in
    absurd (omega (arith, no))

two_claims_in_life_2 : AreApart tall
    (later (retention 0 ⇒ goes_down 1 0 2 1 (part 0 2 1 ∷ [])
    ∷ off 0 ⇒ goes_down 2 0 2 1 (part 0 3 1 ∷ []) ∷ [])) → ⊥
unfolding computing claims
two_claims_in_life_2 apart =
    let no : 0 ≡ 1 = apart 2 (at 0 0) 0 1 _ _
    (record { level = omega arith; place = omega arith }) refl refl refl in
    absurd (omega (arith, no))

-- core 3 asks for retention of itself alone, and claims that of its cluster, which is carried out
abbrev not_asked : List Record
not_asked = past (retention 3 ⇒ goes_down 1 3 1 1 (part 0 2 1 ∷ part 1 2 1 ∷ [])
    ∷ Deliver 1 ⇒ acked 0 Down 3 1 1 2 false ∷ [])

not_asked_in_the_life_before : AreAsked board (reset_after 2 not_asked) → ⊥
unfolding computing claims
not_asked_in_the_life_before asked =
    let no : false ≡ true = asked 1 (at 1 1) 0 _
    (record { level = omega arith; place = omega arith }) refl in absurd (cc)

-- the boot core asks for retention of itself, and claims a depth of each level at this generation
abbrev claims_whole : ℕ → ℕ → Steps
claims_whole depth generation = retention 0 ⇒ goes_down 1 0 2 1 (part 0 2 generation
    ∷ part 1 2 generation ∷ part 2 2 generation ∷ part 3 depth generation ∷ [])

system_not_asked : AreAsked tall (later (claims_whole 1 1 ∷ [])) → ⊥
unfolding computing claims
system_not_asked asked =
    let no : false ≡ true = asked 2 (at 3 0) 0 _
    (record { level = omega arith; place = omega arith }) refl in
    absurd (cc)

-- Claims: carried out, and above no core that executes --------------------------------------------

-- core 3 has gone off with a live claim on itself, and an old one put it in retention
abbrev deep_by_another : List Record
deep_by_another = past (off 3 ⇒ goes_down 1 3 1 1 (part 0 3 1 ∷ [])
    ∷ retention 3 ⇒ goes_down 2 3 1 1 (part 0 2 7 ∷ []) ∷ Deliver 2 ⇒ acked 0 Down 3 1 1 1 false
    ∷ [])

-- a list of one claim of depth 3 has none of depth 2, and an empty one has none
one_of_three : (k : ℕ) (c d : Claim) → slice_get (c ∷ []) k ≡ Some d → c.depth ≡ 3 → d.depth ≡ 2 → ⊥
one_of_three k c d at three two = grind (arith, nat_tests)

none_at_all : (k : ℕ) (d : Claim) → slice_get [] k ≡ Some d → ⊥
none_at_all k d at = let no : None ≡ Some d = at in absurd (cc)

core_not_claimed : AreClaimed board deep_by_another → ⊥
unfolding computing claims live_claims
core_not_claimed claimed =
    let live = claimed 1 (at 0 3) (record { level = omega arith; place = omega arith }) refl
    (omega arith) in
    one_of_three live.index _ live.claim live.at refl live.deep

-- a cluster in standby of which nothing was claimed
cluster_not_claimed : AreClaimed board
    (past (retention 3 ⇒ goes_down 1 3 1 1 (part 0 2 1 ∷ part 1 1 7 ∷ [])
    ∷ Deliver 1 ⇒ acked 0 Down 3 1 1 2 false ∷ [])) → ⊥
unfolding computing claims live_claims
cluster_not_claimed claimed =
    let live = claimed 1 (at 1 1) (record { level = omega arith; place = omega arith }) refl
    (omega arith) in
    none_at_all live.index live.claim live.at

system_not_claimed : AreClaimed tall
    (later (claims_whole 1 7 ∷ Deliver 1 ⇒ acked 1 Down 0 2 1 4 false ∷ [])) → ⊥
unfolding computing claims live_claims
system_not_claimed claimed =
    let live = claimed 2 (at 3 0) (record { level = omega arith; place = omega arith }) refl
    (omega arith) in
    none_at_all live.index live.claim live.at

-- core 3 claims its cluster and goes on; so it does below the system, which core 0 claims
runs_below_its_claim : NoneExecutes board
    (past (retention 3 ⇒ returns (pos 0) (sends 1 Down 3 1 1 (part 0 0 1 ∷ part 1 2 1 ∷ [])) ∷ []))
    → ⊥
unfolding computing claims live_claims
runs_below_its_claim none =
    none (at 1 1) 3 0 _ (record { level = omega arith; place = omega arith }) (omega arith)
    refl refl refl

runs_below_the_system : NoneExecutes board
    (past (off 0 ⇒ goes_down 1 0 1 1 (part 0 3 1 ∷ part 1 3 1 ∷ part 2 3 2 ∷ []) ∷ [])) → ⊥
unfolding computing claims live_claims
runs_below_the_system none =
    none (at 2 0) 3 0 _ (record { level = omega arith; place = omega arith }) (omega arith)
    refl refl refl

-- Powered down ----------------------------------------------------------------------------------

-- core 3 runs beside the boot core, and goes off
abbrev two_run : List Record
two_run = run_from board [] third_on

abbrev going_off : List Record
going_off = run_from board two_run (off 3 ∷ [])

-- an acknowledgement of a Down of which one part was applied, as the second one: of a core, of a
-- life, of a start; nothing was delivered
abbrev told : ℕ → ℕ → ℕ → List Record → List Record
told core life number past =
    record { event = Deliver 9; said = acked 1 Down core life number 1 false } ∷ past

-- in life 2 it is OFF since the life began, and goes on where a function told it to, as none shall
off_and_went_on_in_life_2 : AreDown board
    (record { event = version 3; said = stops nothing }
    ∷ record { event = version 3; said = resumes }
    ∷ run_from board [] (Enter 0 ∷ system_reset 0 ∷ Deliver 0 ∷ Enter 0 ∷ Wake 3 ∷ [])) → ⊥
unfolding computing was_powered_down
off_and_went_on_in_life_2 down = let no : false ≡ true = down.off 3 refl in absurd (cc)

-- acknowledged of the next life, of the next start, and of the start in which its core runs
of_the_next_life : AreDown board (told 3 2 1 going_off) → ⊥
unfolding computing was_powered_down
of_the_next_life down =
    let no : 2 ≤ 1 = (down.acked 0 _ refl refl (omega arith)).begun in absurd (omega (arith, no))

of_the_next_start : AreDown board (told 3 1 2 going_off) → ⊥
unfolding computing was_powered_down
of_the_next_start down =
    let no : 2 ≤ 1 = (down.acked 0 _ refl refl (omega arith)).number refl in
    absurd (omega (arith, no))

of_a_running_core : AreDown board (told 3 1 1 two_run) → ⊥
unfolding computing was_powered_down
of_a_running_core down = (down.acked 0 _ refl refl (omega arith)).rests refl refl refl

-- and of one that goes off and was not powered down, also where one was acknowledged after it
of_a_core_that_is_on : AreDown board
    (record { event = Deliver 9; said = acked 2 Down 2 1 0 0 true } ∷ told 3 1 1 going_off) → ⊥
unfolding computing was_powered_down
of_a_core_that_is_on down =
    let no : false ≡ true = (down.acked 1 _ refl refl (omega arith)).slept refl refl refl in
    absurd (cc)

-- What both know --------------------------------------------------------------------------------

-- core 0 runs, core 1 was asked on, core 2 is suspended, and core 3 was woken and has not entered
abbrev woken : List Record
woken = run_from board [] (Enter 0 ∷ call 0 0xc4000003 0x100 0x40002000 1 ∷ Deliver 0 ∷ Enter 2
    ∷ retention 2 ∷ call 0 0xc4000003 0x1 0x40005000 8 ∷ Wake 3 ∷ [])

-- core 3 stops before it has entered
stops_unknown : Agree board (record { event = version 3; said = stops nothing } ∷ woken) → ⊥
unfolding computing
stops_unknown a =
    let no : Stopped ≡ Started = (a.present 1 refl).started 3 (omega arith) (omega arith) in
    absurd (cc)

-- core 3 was asked on, and runs before it was started
runs_pending : Agree board (record { event = version 3; said = returns (pos 65537) nothing }
    ∷ run_from board [] (Enter 0 ∷ on_3 ∷ [])) → ⊥
unfolding computing
runs_pending a =
    let no : phases.Pending ≡ phases.Running = (a.present 1 refl).runs 3 (omega arith) refl in
    absurd (cc)

-- core 3 runs that was never started, and stops as it enters without a start
stops_running : Agree board (record { event = Enter 3; said = stops nothing }
    ∷ record { event = version 3; said = returns (pos 65537) nothing }
    ∷ run_from board [] (Enter 0 ∷ [])) → ⊥
unfolding computing
stops_running a = (a.present 1 refl).rests 3 (omega arith) refl refl

-- core 3 was woken once no life was left
abbrev woken_late : List Record
woken_late = record { event = Wake 3; said = started 1 1 causes.Wake }
    ∷ run_from board [] (Enter 0 ∷ system_off 0 ∷ Deliver 0 ∷ [])

started_without_a_life : Agree board woken_late → ⊥
unfolding computing
started_without_a_life a = let no : Started ≡ Stopped = a.stopped refl 3 in absurd (cc)

-- a known start of a core that was never started, on the board and beside it
known_of_none : AgreeIn board (λ c. 0) (λ c. Stopped)
    (record (start_of_life board 1) { known = updated (λ c. 0) 3 1 }) → ⊥
known_of_none a = let no : 1 ≤ 0 = a.known 3 in absurd (omega (arith, no))

known_beside_the_board : AgreeIn board (λ c. 0) (λ c. Stopped)
    (record (start_of_life board 1) { known = updated (λ c. 0) 9 1 }) → ⊥
known_beside_the_board a = let no : 1 ≤ 0 = a.known 9 in absurd (omega (arith, no))

-- the last core of the board is at a start that is known
known_start : AgreeIn board (updated (λ c. 0) 3 2) (updated (λ c. Stopped) 3 Started)
    (record (start_of_life board 1) { known = updated (λ c. 0) 3 2 }) → ⊥
known_start a = let no : 2 < 2 = a.waits 3 (omega arith) refl in absurd (omega (arith, no))

refused :
    -- a core that entered without a start runs, and the firmware knows of no entry
    (NoneRefused board (record { event = Enter 3; said = enters 0x40001000 7 }
    ∷ run_from board [] (Enter 0 ∷ [])) → ⊥)
    -- a core that was woken once no life was left has no start to enter by
    × (NoneRefused board woken_late → ⊥)
    -- where the board has no lives the first start is refused
    × (NoneRefused (limited 1000 0) [] → ⊥)
unfolding computing
refused = (
  λ h. let no : Some NotRunning ≡ None = h.calls 3 (omega arith) refl in absurd (cc),
  λ h. let enter = h.enters 3 (omega arith) refl in
      let no : None ≡ Some enter.0 = enter.1 in absurd (cc),
  λ h. grind (arith, nat_tests, same_Some),
)

-- the Down of a core that asks for standby is acknowledged as stale, though no core was started
abbrev never_confirmed : List Record
never_confirmed =
    past_from one_core [] (Legal (Enter 0 ∷ standby 0 ∷ []) ∷ Deliver 0 ⇒ acked 0 Down 0 1 1 0 true
    ∷ Legal (Take 0 ∷ []) ∷ [])

standby_never_confirmed : Confirming one_core never_confirmed → ⊥
unfolding computing known_below
standby_never_confirmed h = elim ((h 1 refl).domains 0 0 (omega arith)) [
  | inl confirmed ↦ let no : false ≡ true = confirmed in absurd (cc)
  | inr yet ↦ elim yet [
    | inl out ↦
        none-some out.message
        (subst (λ (c : ℕ). (firmware_values one_core never_confirmed).outstanding (OfCore c)
        ≡ Some out.message) out.on out.at)
    | inr more ↦ let no : 1 < 1 = more in omega (arith, no)
  ]
]

-- What waits ------------------------------------------------------------------------------------

-- neither of three things
neither : {A B C : Type 0} → (A → ⊥) → (B → ⊥) → (C → ⊥) → A ⊎ (B ⊎ C) → ⊥
neither a b c x = grind (arith, nat_tests)

-- the Start of core 3, and its Down, of which nothing was delivered; and what one is told of it
abbrev waits_told : ℕ → ℕ → Bool → List Record
waits_told number applied stale =
    past (Legal (off 3 ∷ []) ∷ Deliver 9 ⇒ acked 1 Down 3 1 number applied stale ∷ [])

-- of two messages an acknowledgement is told of the one that it answers, or of none
of_the_first : (k : ℕ) (d s m : MessageValue) (a : AckValue) → slice_get (d ∷ s ∷ []) k ≡ Some m
    → answers a s ≡ false → answers a m ≡ true → m ≡ d
of_the_first k d s m a at other is = grind (arith, nat_tests)

first_told : (b : BoardValue) (starts : ℕ → ℕ) (depth : ℕ → ℕ → ℕ) (a : AckValue)
    (d s : MessageValue) → WasTold b starts depth a (d ∷ s ∷ []) → answers a s ≡ false
    → IsTold b starts depth a d
first_told b starts depth a d s t other = grind (arith, nat_tests, of_the_first)

not_waiting :
    -- the Down of core 3 is not carried out, but no more outstanding: an acknowledgement said so of
    -- all its parts, though nothing was delivered; so of the boot core in life 2
    (Waiting board (past (Legal (off 3 ∷ []) ∷ Deliver 9 ⇒ acked 1 Down 3 1 1 2 true
    ∷ Legal (Take 1 ∷ []) ∷ [])) → ⊥)
    × (Waiting board (past_from board [] (Legal (Enter 0 ∷ system_reset 0 ∷ Deliver 0 ∷ Enter 0
    ∷ retention 0 ∷ []) ∷ Deliver 9 ⇒ acked 1 Down 0 2 1 1 false ∷ Legal (Take 1 ∷ []) ∷ [])) → ⊥)
    -- the cluster of a core that was never started was put in standby by a Down of it
    × (Waiting board (past_from board [] (Legal (Enter 0 ∷ [])
    ∷ retention 0 ⇒ stops (sends 0 Down 3 1 0 (part 0 3 0 ∷ part 1 1 0 ∷ []))
    ∷ Deliver 0 ⇒ acked 0 Down 3 1 0 2 false ∷ [])) → ⊥)
    -- the Start of core 3 is no more outstanding, though it was not delivered
    × (Waiting board (past_from board [] (Legal (Enter 0 ∷ on_3 ∷ [])
    ∷ Deliver 9 ⇒ acked 0 Start 3 1 0 0 true ∷ Legal (Take 0 ∷ []) ∷ [])) → ⊥)
    -- an acknowledgement of nothing
    × (Waiting board (past_from board [] (Legal (Enter 0 ∷ [])
    ∷ Deliver 9 ⇒ acked 0 Start 3 1 0 1 false ∷ [])) → ⊥)
    -- of the second part of a Down, and its cluster is not as deep; of more parts than there are;
    -- stale, though both parts are live
    × (Waiting board (waits_told 1 2 false) → ⊥)
    × (Waiting board (waits_told 1 3 false) → ⊥)
    × (Waiting board (waits_told 1 0 true) → ⊥)
unfolding computing known_below
not_waiting = (
  λ w. neither
      (λ deep. let no : 0 ≡ 3 = deep in absurd (omega (arith, no)))
      (λ sent. let no : None ≡ Some _ = sent in absurd (cc))
      (λ pending. let no : phases.Away ≡ phases.Pending = pending in absurd (cc))
      ((w 1 refl).pursued 0 _ refl refl refl 0 _ refl refl),
  λ w. neither
      (λ deep. let no : 0 ≡ 2 = deep in absurd (omega (arith, no)))
      (λ sent. let no : None ≡ Some _ = sent in absurd (cc))
      (λ pending. let no : phases.Suspended _ ≡ phases.Pending = pending in absurd (cc))
      ((w 2 refl).pursued 0 _ refl refl refl 0 _ refl refl),
  λ w. let no : 1 ≡ 3 = (w 1 refl).first (at 1 1)
      (record { level = omega arith; place = omega arith }) refl in absurd (omega (arith, no)),
  λ w. let start = (w 1 refl).asked refl 3 (omega arith) refl refl in
      let no : None ≡ Some start.message = start.at in absurd (cc),
  λ w. let named = (w 1 refl).named 0 _ refl in
      let no : None ≡ Some named.message = named.at in absurd (cc),
  λ w. let t = first_told _ _ _ _ _ _ ((w 1 refl).told 0 _ refl refl) refl in
      let no : 0 ≡ 3 = t.applied refl 1 _ (omega arith) refl refl in absurd (omega (arith, no)),
  λ w. let t = first_told _ _ _ _ _ _ ((w 1 refl).told 0 _ refl refl) refl in
      let no : 3 ≤ 2 = t.few refl in absurd (omega (arith, no)),
  λ w. let t = first_told _ _ _ _ _ _ ((w 1 refl).told 0 _ refl refl) refl in
      t.stale refl refl 0 _ (omega arith) refl refl,
)

-- At rest, and told ---------------------------------------------------------------------------

-- after these steps it is not
abbrev Restless : BoardValue → List Steps → Type 0
Restless b steps = AreAtRest b (past_from b [] steps) → ⊥

-- of core 0, and of core 3, no acknowledgement was taken
own_waits : Restless board (Legal (Enter 0 ∷ standby 0 ∷ Deliver 0 ∷ []) ∷ [])
unfolding computing
own_waits rest = let no = rest.own 0 (omega arith) in cc

third_waits : Restless board (Legal (third_on ++ off 3 ∷ Deliver 1 ∷ []) ∷ [])
unfolding computing
third_waits rest = let no = rest.own 3 (omega arith) in cc

-- a Reset waits
system_waits : Restless board (Legal (third_on ++ system_reset 3 ∷ []) ∷ [])
unfolding computing
system_waits rest = let no = rest.system in cc

-- the boot core waits at its start, and core 3, which was reset
boot_core_starts : Restless board []
unfolding computing
boot_core_starts rest = rest.entered 0 (omega arith) refl

third_starts : Restless board (Legal (third_on ++ Reset 3 ∷ []) ∷ [])
unfolding computing
third_starts rest = rest.entered 3 (omega arith) refl

-- core 0 was granted standby, and stays on
core_stays_on : Restless board (Legal (Enter 0 ∷ standby 0 ∷ []) ∷ Deliver 0
    ⇒ acked 0 Down 0 1 1 0 true ∷ Legal (Take 0 ∷ []) ∷ [])
unfolding computing
core_stays_on rest =
    let no : 1 ≡ 0 = rest.agree (at 0 0) (record { level = omega arith; place = omega arith }) in
    absurd (omega (arith, no))

tall_system_stays_on : Restless tall
    (Legal (Enter 0 ∷ call 0 0xc4000001 0x03013333 0x40000100 0 ∷ [])
    ∷ Deliver 0 ⇒ acked 0 Down 0 1 1 3 true ∷ Legal (Take 0 ∷ []) ∷ [])
unfolding computing
tall_system_stays_on rest =
    let no : 3 ≡ 0 = rest.agree (at 3 0) (record { level = omega arith; place = omega arith }) in
    absurd (omega (arith, no))

-- core 3 has resumed, and then its old Down was carried out: it is deeper than granted
core_is_deeper : Restless board (Legal (third_on ++ retention 3 ∷ Wake 3 ∷ Enter 3 ∷ [])
    ∷ Deliver 1 ⇒ acked 1 Down 3 1 1 1 false ∷ [])
unfolding computing
core_is_deeper rest =
    let no : 0 ≡ 2 = rest.agree (at 0 3) (record { level = omega arith; place = omega arith }) in
    absurd (omega (arith, no))

-- the boot core goes off, and core 3 runs
boot_core_going_off : IsToldWhole board (past_from board [] (Legal (third_on ++ off 0 ∷ []) ∷ []))
    → ⊥
unfolding computing
boot_core_going_off told = let no = told.off 0 (omega arith) refl in cc

-- core 3 is off, and is answered as if it ran
answered_off : IsToldWhole board (past_from board []
    (Legal (third_on ++ off 3 ∷ Deliver 1 ∷ Take 1 ∷ []) ∷ version 3 ⇒ value 0x10001 ∷ [])) → ⊥
unfolding computing
answered_off told = let no = told.away 3 (omega arith) refl in cc

-- on three levels the system is off, and was acknowledged of what is below it alone
system_told_off : IsToldWhole tall (past_from tall []
    (Legal (Enter 0 ∷ call 0 0xc4000001 0x03013333 0x40000100 0 ∷ Deliver 0 ∷ [])
    ∷ Deliver 0 ⇒ acked 1 Down 0 1 1 3 true ∷ Legal (Take 1 ∷ []) ∷ [])) → ⊥
unfolding computing
system_told_off told =
    let no : On ≡ Off = told.hw (at 3 0) (record { level = omega arith; place = omega arith }) in
    cc

-- nothing was delivered, and the Down of core 3, which is on, was acknowledged
never_delivered : IsToldWhole board (past_from board [] (Legal (third_on ++ retention 3 ∷ [])
    ∷ Deliver 9 ⇒ acked 1 Down 3 1 1 1 false ∷ Legal (Take 1 ∷ []) ∷ [])) → ⊥
unfolding computing
never_delivered told =
    let no : Standby ≡ On = told.hw (at 0 3)
    (record { level = omega arith; place = omega arith }) in
    cc
