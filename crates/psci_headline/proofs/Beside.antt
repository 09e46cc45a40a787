-- What has yet to come of a domain, and what is told of the domains beside a core's path, as the
-- core stops, enters or is asked on; and what is then told of all.
use Rattle.psci_ctl_spec.specs.History.{AreValues}
use Rattle.psci_fw_laws.specs.psci_fw_spec.Phases as phases
use Rattle.psci_fw_laws.proofs.Following.{first_holds}
use Rattle.psci_fw_laws.proofs.Histories.{live_laws}
use Rattle.psci_headline.specs.psci_fw_spec.Changes.{with_claims, with_halt, with_running}
use Rattle.psci_headline.specs.psci_fw_spec.Phases.{Running}
use Rattle.psci_headline.specs.psci_messages.declared.kind.Kind.TheVariants as kinds
use Rattle.psci_headline.proofs.Claiming.{source}
use Rattle.psci_headline.proofs.LiveOnes.{is_live_one}
use Rattle.psci_headline.proofs.Checking.{clear_there, put_here, put_system, put_there}
use Rattle.psci_headline.proofs.Checking.{system_slot}
use Rattle.psci_headline.proofs.Pursuing.{same_sum}
use Rattle.psci_headline.proofs.Telling.{first_part}
use Rattle.psci_headline.proofs.Words.{◌<◌, ◌==◌, ◌∙◌, ◌≡◌, ◌≤◌, Agree, AgreeIn, ap}
use Rattle.psci_headline.proofs.Words.{AreConfirming, AreLive, arith, Away, BoardValue, cases_eq}
use Rattle.psci_headline.proofs.Words.{change, changed, cond, cond_both, controller_values}
use Rattle.psci_headline.proofs.Words.{cores, Enters, eqb-false, eqb-true, executes, false}
use Rattle.psci_headline.proofs.Words.{false≢true, firmware_values, found_life}
use Rattle.psci_headline.proofs.Words.{Holds, in_life, inl, inr, is_path_place, is_system}
use Rattle.psci_headline.proofs.Words.{IsAllowed, IsClaimOn, IsConfirmedOr, IsOffOr}
use Rattle.psci_headline.proofs.Words.{IsOutstanding, IsYetToCome, known_below, known_on}
use Rattle.psci_headline.proofs.Words.{KnownLaws, List, MessageValue, nat_tests, ne_eqb}
use Rattle.psci_headline.proofs.Words.{NoneExecutes, OfCore, Option, Parks, Part, PathLaws}
use Rattle.psci_headline.proofs.Words.{Phase, place, Place, PowerOn, Put, Record, refl, Rest}
use Rattle.psci_headline.proofs.Words.{Rests, sent, slice_get, Slot}
use Rattle.psci_headline.proofs.Words.{Some, Start, start_of_life, Stops, StopsAtOnce, subst}
use Rattle.psci_headline.proofs.Words.{sym, target, true, up, updated, Values, with_arrival}
use Rattle.psci_headline.proofs.Words.{with_pending, with_phase, with_rest, ℕ}
use Rattle.psci_headline.proofs.fw_laws.Claiming.{updated_at, updated_here, updated_there}

-- Below a domain with a live claim no core executes -----------------------------------------------

-- Values in a life ----------------------------------------------------------------------------

-- what the firmware keeps true holds in each life that is its own or a later one
pub in_life_holds : (b : BoardValue) (v : Values) (ms : List MessageValue) (life : ℕ)
    → v.life ≤ life → life ≤ b.lives → Holds b v ms → Holds b (in_life b life v) ms
in_life_holds b v ms life begun last holds =
    cond_both (life == v.life) v (start_of_life b life) (λ w. Holds b w ms) (λ e. holds)
    (λ e.
    let other = eqb-false life v.life e in
    first_holds b v.life v.halting v.known v.phase ms life last (omega (arith, begun, other))
    holds.apart holds.messages)

-- Places --------------------------------------------------------------------------------------

-- what is so of a core below a live claim
at_rest : (b : BoardValue) (starts : ℕ → ℕ) (places : ℕ → Place) (v : Values) (c : ℕ) (p : Place)
    → AgreeIn b starts places v → c < cores b → v.known c ≡ starts c
    → (v.phase c ≡ phases.Running → ⊥) → places c ≡ p → executes p ≡ true → ⊥
at_rest b starts places v c p agree on known rests e x = grind (arith, nat_tests, false≢true)

pub none_executes : (b : BoardValue) (past : List Record) → PathLaws b
    → AreValues b (controller_values b past)
    → Holds b (firmware_values b past) (sent past) → Agree b past → NoneExecutes b past
none_executes b past paths are holds agree n c k p has on at here x =
    let one = is_live_one b past n k p here in
    let starts = (controller_values b past).starts in
    let v = in_life b one.life (firmware_values b past) in
    let made = source b one.life n past one.index p has one.at in
    let agrees = agree.present one.life one.present in
    let kept = in_life_holds b (firmware_values b past) (sent past) one.life
    (agree.begun one.life one.present) (are.last one.life one.present) holds in
    let live : AreLive b v.life v.known v.phase (sent past) starts =
    live_laws b v (sent past) starts paths kept agrees.known in
    let same : one.life ≡ v.life = sym (found_life b (firmware_values b past) one.life) in
    let claim = subst (λ l. IsClaimOn b l n.level n.place made.part (sent past)) same made.from in
    let sum = sym made.generation ∙ one.live ∙ same_sum b starts n in
    at_rest b starts (place b past) v c (place b past c) agrees on
    (live.entered n.level n.place c made.part claim sum on at)
    (live.rests n.level n.place c made.part claim sum on at) refl x

-- Beside ------------------------------------------------------------------------------------------

-- What has yet to come -------------------------------------------------------------------------

-- Paths ----------------------------------------------------------------------------------------

-- a core below a domain that is beside the path of another core is not that core
pub not_at : (b : BoardValue) (c x level place : ℕ) → is_path_place b c level place ≡ false
    → up b level x ≡ place → x ≡ c → ⊥
not_at b c x level place off at same = grind (arith, nat_tests, eqb-false)

pub on_path : (b : BoardValue) (c level place : ℕ) → is_path_place b c level place ≡ true
    → up b level c ≡ place
on_path b c level place on = sym (eqb-true place (up b level c) on)

-- a core is beside the path of each other core
pub other_core : (b : BoardValue) (c x : ℕ) → PathLaws b → (x ≡ c → ⊥)
    → is_path_place b c 0 x ≡ false
other_core b c x paths other = ne_eqb x (up b 0 c) (λ e. other (e ∙ paths.core c))

-- one core's start counts for no domain beside its path
pub sum_beside : (b : BoardValue) (f : ℕ → ℕ) (c number level place : ℕ) → KnownLaws b
    → is_path_place b c level place ≡ false
    → known_below b (updated f c number) level place ≡ known_below b f level place
sum_beside b f c number level place laws off = grind (arith, nat_tests, updated_there, not_at)

-- What has yet to come -------------------------------------------------------------------------

-- the sum of the known starts is as it was, and what is outstanding for a core below stays
pub yet_still : (b : BoardValue) (starts before now : ℕ → ℕ) (was is : Slot → Option MessageValue)
    (level place : ℕ) → known_below b now level place ≡ known_below b before level place
    → ((m : MessageValue) → up b level m.core.number ≡ place
    → was (OfCore m.core.number) ≡ Some m → is (OfCore m.core.number) ≡ Some m)
    → IsYetToCome b starts before was level place → IsYetToCome b starts now is level place
yet_still b starts before now was is level place sum stays yet = grind (arith, nat_tests)

-- there are more starts
pub yet_later : (b : BoardValue) (starts later known : ℕ → ℕ) (out : Slot → Option MessageValue)
    (level place : ℕ) → known_below b starts level place ≤ known_below b later level place
    → IsYetToCome b starts known out level place → IsYetToCome b later known out level place
yet_later b starts later known out level place le yet = grind (arith, nat_tests)

-- What is told of the domains beside a core's path, and of the other cores.
pub record AreBeside (b : BoardValue) (starts : ℕ → ℕ) (v : Values) (c : ℕ) : Type 0 where
  pub domains : (level place : ℕ) → is_path_place b c level place ≡ false
      → 0 < v.granted level place → IsConfirmedOr b starts v level place
  pub cores : v.halting ≡ false → (x : ℕ) → x < cores b → (x ≡ c → ⊥) → v.phase x ≡ Away
      → IsOffOr b starts v x

-- nothing is granted on the path of a core
abbrev pub IsFlat : BoardValue → Values → ℕ → Type 0
IsFlat b v c = (level place : ℕ) → is_path_place b c level place ≡ true
    → 0 < v.granted level place → ⊥

-- A core stops or enters -----------------------------------------------------------------------

pub phased : (b : BoardValue) (starts : ℕ → ℕ) (v : Values) (c : ℕ) (left : Phase)
    → AreBeside b starts v c → AreBeside b starts (with_phase c left v) c
phased b starts v c left are = grind (arith, nat_tests, updated_there)

pub rested : (b : BoardValue) (starts : ℕ → ℕ) (v : Values) (c : ℕ) (rest : Rest)
    → AreConfirming b starts v → AreBeside b starts (with_rest c rest v) c
rested b starts v c rest are = grind (arith, nat_tests, updated_there)

pub arrived : (b : BoardValue) (starts : ℕ → ℕ) (v : Values) (c : ℕ) (s : Start)
    → KnownLaws b → PathLaws b → AreConfirming b starts (in_life b s.life v)
    → AreBeside b starts (with_arrival b c s v) c
arrived b starts v c s laws paths are =
    let found : Values = in_life b s.life v in
    let still : (level place : ℕ) → is_path_place b c level place ≡ false
    → IsYetToCome b starts found.known found.outstanding level place
    → IsYetToCome b starts (with_arrival b c s v).known (with_arrival b c s v).outstanding
    level place =
    λ level place off. yet_still b starts found.known (with_arrival b c s v).known found.outstanding
    (with_arrival b c s v).outstanding level place
    (sum_beside b found.known c s.number level place laws off)
    (λ m at is. clear_there found.outstanding c m.core.number
    (not_at b c m.core.number level place off at) ∙ is) in
    record {
      domains = λ level place off some.
          elim (are.domains level place
          (subst (λ d. 0 < d) (ap (λ t. cond t 0 (found.granted level place)) off) some)) [
            | inl was ↦
                inl (ap (λ t. cond t false (found.confirmed level place)) off ∙ was)
            | inr yet ↦ inr (still level place off yet)
          ];
      cores = λ awake x on other away. elim (are.cores awake x on away) [
        | inl was ↦ inl was
        | inr yet ↦ inr (still 0 x (other_core b c x paths other) yet)
      ];
    }

pub arrived_flat : (b : BoardValue) (v : Values) (c : ℕ) (s : Start)
    → IsFlat b (with_arrival b c s v) c
arrived_flat b v c s level place on some = grind (arith, nat_tests)

-- All ------------------------------------------------------------------------------------------

-- every domain, where nothing is granted on the path
pub all_domains : (b : BoardValue) (starts : ℕ → ℕ) (v : Values) (c : ℕ)
    → AreBeside b starts v c → IsFlat b v c → (level place : ℕ) → 0 < v.granted level place
    → IsConfirmedOr b starts v level place
all_domains b starts v c are flat level place some = grind (arith, nat_tests)

-- a core that entered runs
pub runs : (b : BoardValue) (starts : ℕ → ℕ) (v : Values) (c : ℕ) → AreBeside b starts v c
    → IsFlat b v c → AreConfirming b starts (with_running c v)
runs b starts v c are flat =
    grind (arith, nat_tests, all_domains, cases_eq, updated_here, updated_there)

-- a Down was sent, whose parts are of the known starts
module _ (b : BoardValue) (starts : ℕ → ℕ) (v : Values) (m : MessageValue) (first : Part)
    (paths : PathLaws b) (kind : m.kind ≡ kinds.Down)
    (current : (level : ℕ) (p : Part) → slice_get m.parts level ≡ Some p
    → p.generation ≡ known_on b v.known m.core.number level)
    (at : slice_get m.parts 0 ≡ Some first) where
  abbrev sends : Slot → Option MessageValue
  sends s = changed s (Put m) (v.outstanding s)

  -- it is outstanding for the domains on its path
  here : (level place : ℕ) (p : Part) → slice_get m.parts level ≡ Some p
      → up b level m.core.number ≡ place → IsOutstanding b v.known sends level place
  here level place p listed on = grind (arith, nat_tests, put_here)

  -- and for the others all is as before
  there : (level place : ℕ) → is_path_place b m.core.number level place ≡ false
      → IsYetToCome b starts v.known v.outstanding level place
      → IsYetToCome b starts v.known sends level place
  there level place off = grind (arith, nat_tests, yet_still, put_there, not_at)

  pub claims : AreBeside b starts v m.core.number → IsFlat b v m.core.number
      → AreConfirming b starts (with_claims b m v)
  claims are flat = grind (arith, nat_tests, here, on_path, there, cases_eq, other_core)

-- a core was asked on
module _ (b : BoardValue) (starts : ℕ → ℕ) (v : Values) (asked : PowerOn) (paths : PathLaws b)
    (kind : asked.message.kind ≡ kinds.Start) where
  abbrev t : ℕ
  t = target asked

  pub pends : AreConfirming b starts v → AreConfirming b starts (with_pending b asked v)
  pends are =
      grind (
        arith,
        nat_tests,
        yet_still,
        put_there,
        not_at,
        cases_eq,
        updated_here,
        updated_there,
        other_core,
      )

-- What is told after each effect of the firmware's calls, entries and acknowledgements ------------

-- A core goes on or halts ----------------------------------------------------------------------

pub goes_on : (b : BoardValue) (starts : ℕ → ℕ) (v : Values) (c : ℕ) → AreConfirming b starts v
    → AreConfirming b starts (with_phase c Running v)
goes_on b starts v c are = grind (arith, nat_tests, updated_at)

pub halts : (b : BoardValue) (starts : ℕ → ℕ) (v : Values) (c : ℕ) (m : MessageValue)
    → is_system m.kind ≡ true → AreConfirming b starts v
    → AreConfirming b starts (with_halt m (with_phase c Away v))
halts b starts v c m system are = grind (arith, nat_tests, yet_still, put_system, system_slot)

-- a halting life says nothing of cores
halting : (b : BoardValue) (starts : ℕ → ℕ) (v : Values) (c : ℕ) → v.halting ≡ true
    → AreBeside b starts v c → IsFlat b v c → AreConfirming b starts v
halting b starts v c is are flat = grind (arith, nat_tests, all_domains)

-- A Down is sent -------------------------------------------------------------------------------

-- nothing is granted on the path of a core that runs
flat_running : (b : BoardValue) (v : Values) (sent : List MessageValue) (c : ℕ) → Holds b v sent
    → c < Rattle.psci_headline.specs.psci_board.Board.cores b → v.phase c ≡ Running
    → IsFlat b v c
flat_running b v sent c holds on runs level place path some =
    let has = holds.grants.claimed level place some in
    holds.quiet level place has.part has.claim has.current c on (on_path b c level place path) runs

-- Each effect ----------------------------------------------------------------------------------

module _ (b : BoardValue) (starts : ℕ → ℕ) (laws : KnownLaws b) (paths : PathLaws b) where
  pub rests : (v : Values) (sent : List MessageValue) (c : ℕ) (rest : Rest) (m : MessageValue)
      → Holds b v sent → IsAllowed b v (Rests c rest m) → AreConfirming b starts v
      → AreConfirming b starts (change b (Rests c rest m) v)
  rests v sent c rest m holds allowed are =
      let first = first_part m allowed.claim.kind allowed.claim.sound.parts in
      claims b starts (with_rest c rest v) m first.item paths allowed.claim.kind
      allowed.claim.current first.at
      (subst (AreBeside b starts (with_rest c rest v)) (sym allowed.core)
      (rested b starts v c rest are))
      (subst (IsFlat b (with_rest c rest v)) (sym allowed.core)
      (flat_running b v sent c holds allowed.calls.core allowed.calls.runs))

  pub parks : (v : Values) (c : ℕ) (s : Start) (m : MessageValue) → IsAllowed b v (Parks c s m)
      → AreConfirming b starts (in_life b s.life v)
      → AreConfirming b starts (change b (Parks c s m) v)
  parks v c s m allowed are =
      let u : Values = with_phase c Away (with_arrival b c s v) in
      let first = first_part m allowed.claim.kind allowed.claim.sound.parts in
      claims b starts u m first.item paths allowed.claim.kind allowed.claim.current first.at
      (subst (AreBeside b starts u) (sym allowed.core)
      (phased b starts (with_arrival b c s v) c Away (arrived b starts v c s laws paths are)))
      (subst (IsFlat b u) (sym allowed.core) (arrived_flat b v c s))

  pub enters : (v : Values) (c : ℕ) (s : Start) → AreConfirming b starts (in_life b s.life v)
      → AreConfirming b starts (change b (Enters c s) v)
  enters v c s are =
      runs b starts (with_arrival b c s v) c (arrived b starts v c s laws paths are)
      (arrived_flat b v c s)

  pub stops_at_once : (v : Values) (c : ℕ) (s : Start) → IsAllowed b v (StopsAtOnce c s)
      → AreConfirming b starts (in_life b s.life v)
      → AreConfirming b starts (change b (StopsAtOnce c s) v)
  stops_at_once v c s allowed are =
      halting b starts (with_phase c Away (with_arrival b c s v)) c allowed.halting
      (phased b starts (with_arrival b c s v) c Away (arrived b starts v c s laws paths are))
      (arrived_flat b v c s)

  pub stops : (v : Values) (sent : List MessageValue) (c : ℕ) → IsAllowed b v (Stops c)
      → AreConfirming b starts v → AreConfirming b starts (change b (Stops c) v)
  stops v sent c allowed are = grind (arith, nat_tests)
