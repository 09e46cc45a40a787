-- What is so once each Start that was outstanding was served.
use Rattle.psci_ctl_spec.specs.Replies as controlling
use Rattle.psci_ctl_spec.specs.Values as controlled
use Rattle.psci_ctl_spec.specs.psci_messages.declared.kind.Kind.TheVariants as kinds
use Rattle.psci_headline.specs.Settling.{all_cores, begun, is_start}
use Rattle.psci_headline.proofs.Controls.{found_own, IsKnown}
use Rattle.psci_headline.proofs.Applying.{AreDeep, IsDown, IsReady}
use Rattle.psci_headline.proofs.Beginning.{each_done, enter_step, HasEntered, HasNoStart, IsIn}
use Rattle.psci_headline.proofs.Beginning.{IsStartAt, IsStep, IsUnderWay, more_starts}
use Rattle.psci_headline.proofs.Carried.{present_known}
use Rattle.psci_headline.proofs.Serving.{ack_to, answer_case, AreAdded, empties, found}
use Rattle.psci_headline.proofs.Serving.{HasNumber, IsEmptying}
use Rattle.psci_headline.proofs.Nexts.{IsPast, settled_life, SettleLaws}
use Rattle.psci_headline.proofs.Pursuing.{same_kind}
use Rattle.psci_headline.proofs.Words.{◌+◌, ◌<◌, ◌==◌, ◌∙◌, ◌≡◌, ◌⊎◌, acks, AckValue, ap}
use Rattle.psci_headline.proofs.Words.{AreClaims, AreOutstanding, ArePartsOf, AreWaiting, arith}
use Rattle.psci_headline.proofs.Words.{BoardValue, cases_Bool, cond, cond-false, cond-true}
use Rattle.psci_headline.proofs.Words.{controller_values, cores, deliveries, each_core, Enter}
use Rattle.psci_headline.proofs.Words.{entering, eqb-true, false, firmware_values, HasDeeper}
use Rattle.psci_headline.proofs.Words.{height, is_done, is_system, IsClaimOn, IsCurrent}
use Rattle.psci_headline.proofs.Words.{IsLegalPast, Kind, List, message_effect, MessageValue}
use Rattle.psci_headline.proofs.Words.{nat_tests, None, none-some, NonePending, OfCore, OfSystem}
use Rattle.psci_headline.proofs.Words.{or_left, or_right, Part, Pending, place, Record}
use Rattle.psci_headline.proofs.Words.{same_Some, sent, served, serving, Some, step, subst, sym}
use Rattle.psci_headline.proofs.Words.{true, up, Values, ℕ}

-- A Start is served --------------------------------------------------------------------------

-- the life stays
start_life : (b : BoardValue) (w : controlled.Values) (m : MessageValue) (a : AckValue)
    (kind : Kind) → kind ≡ kinds.Start
    → (controlling.change b (message_effect b m a kind) w).life ≡ w.life
start_life b w m a kind e = grind (arith, nat_tests)

-- nothing of it is left to be done
start_done : (a : AckValue) (m : MessageValue) → a.kind ≡ kinds.Start → is_done a m ≡ true
start_done a m e = grind (arith, nat_tests, or_right, or_left)

-- the life goes on, and it is the firmware's
abbrev pub IsOwnWay : BoardValue → List Record → ℕ → List Record → Type 0
IsOwnWay b before life past =
    IsUnderWay b before life past × ((firmware_values b past).life ≡ life)

-- A Start that is outstanding for a core is served.
record IsStartAnswered (b : BoardValue) (before : List Record) (life : ℕ) (past : List Record)
    (c : ℕ) (m : MessageValue) (n : HasNumber m (sent past)) : Type 0 where
  pub way : IsOwnWay b before life (serving b past (Some n.number))
  pub there : (x : ℕ) → (x ≡ c → ⊥)
      → (firmware_values b (serving b past (Some n.number))).outstanding (OfCore x)
      ≡ (firmware_values b past).outstanding (OfCore x)
  pub here : (firmware_values b (serving b past (Some n.number))).outstanding (OfCore c) ≡ None

slots_of : (b : BoardValue) (past : List Record) → IsPast b past
    → let v = firmware_values b past in
    AreOutstanding v.life v.known v.phase (sent past) v.outstanding
slots_of b past is = is.given.holds.slots

start_answered : (b : BoardValue) (before : List Record) (life : ℕ) (past : List Record) (c : ℕ)
    (m : MessageValue) → SettleLaws b → IsOwnWay b before life past
    → (firmware_values b past).outstanding (OfCore c) ≡ Some m → is_start m.kind ≡ true
    → (n : HasNumber m (sent past)) → IsStartAnswered b before life past c m n
start_answered b before life past c m laws both at start n = record {
  way = (
    record {
      legal = em.answered.legal;
      added = em.answered.added before way.added;
      present = grind (arith, nat_tests, em, start_life, a, kind, way, present);
      awake = grind (arith, nat_tests, found_own, next, own, em, v, way);
      count = λ j. by_test j (cases_Bool (j == n.number)) (em.answered.count j);
    },
    own,
  );
  there = em.there;
  here = grind (arith, nat_tests, em, cond-true, a, start_done, kind);
}
  where
    way : IsUnderWay b before life past
    way = both.0

    v : Values
    v = firmware_values b past

    next : Values
    next = firmware_values b (serving b past (Some n.number))

    a : AckValue
    a = ack_to b past n.message

    slots : AreOutstanding v.life v.known v.phase (sent past) v.outstanding
    slots = slots_of b past (laws.past past way.legal)

    kind : m.kind ≡ kinds.Start
    kind = same_kind m.kind kinds.Start start

    present : (controller_values b past).life ≡ Some m.life
    present = way.present ∙ ap Some (sym both.1)
        ∙ ap Some (sym (slots.core c m at).listed.present)

    em : IsEmptying b past c n.number m n.message
    em = empties b past c m laws.runs way.legal n present at (slots.core c m at).core
        (slots.core c m at).kind

    own : next.life ≡ life
    own = ap (λ (u : Values). u.life) em.answered.firmware ∙ both.1

    now : List MessageValue
    now = sent (serving b past (Some n.number))

    at_start : (j : ℕ) → j ≡ n.number → IsStartAt now j
    at_start j e = grind (arith, nat_tests, em, kind)

    by_test : (j : ℕ) → ((j == n.number) ≡ true) ⊎ ((j == n.number) ≡ false)
        → deliveries j (serving b past (Some n.number))
        ≡ cond (j == n.number) 1 0 + deliveries j past
        → (deliveries j (serving b past (Some n.number)) ≡ deliveries j before)
        ⊎ IsStartAt now j
    by_test j test more =
        grind (arith, nat_tests, at_start, eqb-true, way, cond-false, more_starts, now, em)

-- All Starts -----------------------------------------------------------------------------------

no_start_other : (b : BoardValue) (past : List Record) (c : ℕ) (m : MessageValue)
    → (firmware_values b past).outstanding (OfCore c) ≡ Some m → is_start m.kind ≡ false
    → HasNoStart b c past
no_start_other b past c m at other x e start = grind (arith, nat_tests, same_Some)

no_start_none : (b : BoardValue) (past : List Record) (c : ℕ)
    → (firmware_values b past).outstanding (OfCore c) ≡ None → HasNoStart b c past
no_start_none b past c none x e start = none-some x (sym none ∙ e)

start_step : (b : BoardValue) (before : List Record) (life : ℕ) → SettleLaws b
    → IsStep (served b is_start) (cores b) (IsOwnWay b before life) (λ c past. Unit {0})
    (λ c past. HasNoStart b c past)
start_step b before life laws = record {
  keeps = λ past c on holds.
      answer_case b is_start past c (IsOwnWay b before life) (finds past c holds)
      (λ none. holds) (λ m at other. holds)
      (λ m at start n. (start_answered b before life past c m laws holds at start n).way);
  todo = λ past c x on ne holds now other. tt;
  done = λ past c x on ne holds now old.
      answer_case b is_start past c (HasNoStart b x) (finds past c holds) (λ none. old)
      (λ m at other. old)
      (λ m at start n y e f.
      old y (sym ((start_answered b before life past c m laws holds at start n).there x ne) ∙ e)
      f);
  here = λ past c on holds now.
      answer_case b is_start past c (HasNoStart b c) (finds past c holds)
      (no_start_none b past c) (no_start_other b past c)
      (λ m at start n.
      no_start_none b (serving b past (Some n.number)) c
      (start_answered b before life past c m laws holds at start n).here);
}
  where
    finds : (past : List Record) (c : ℕ) → IsOwnWay b before life past → (m : MessageValue)
        → (firmware_values b past).outstanding (OfCore c) ≡ Some m → HasNumber m (sent past)
    finds past c holds m at = grind (arith, nat_tests, found, slots_of)

-- The beginning --------------------------------------------------------------------------------

-- What is so after the beginning.
pub record HasBegun (b : BoardValue) (before : List Record) (life : ℕ) (past : List Record)
    : Type 0 where
  pub way : IsUnderWay b before life past
  pub entered : (c : ℕ) → c < cores b → HasEntered b c past
  pub started : (c : ℕ) → c < cores b → HasNoStart b c past

-- no core has a Start outstanding
abbrev pub NoStarts : BoardValue → ℕ → List Record → Type 0
NoStarts b life past = ((firmware_values b past).life ≡ life)
    × ((c : ℕ) → c < cores b → HasNoStart b c past)

-- an entry leaves no Start where there was none
kept_entering : (b : BoardValue) (before : List Record) (life : ℕ) (past : List Record) (c : ℕ)
    → NoStarts b life past → IsIn b before life past c → NoStarts b life (step b past (Enter c))
kept_entering b before life past c kept is = grind (arith, nat_tests, found_own)

pub has_begun : (b : BoardValue) (before : List Record) (life : ℕ) → SettleLaws b
    → IsUnderWay b before life before → HasBegun b before life (begun b before)
unfolding begun
has_begun b before life laws way =
    let one = each_done (entering b) (cores b)
    (λ past. IsUnderWay b before life past × Unit {0}) (λ c past. Unit {0})
    (λ c past. HasEntered b c past)
    (enter_step b before life (λ past. Unit {0}) laws (λ past c w k is. tt)) before (way, tt)
    (λ c on. tt) in
    let entered : List Record = each_core (entering b) (all_cores b) before in
    let own = settled_life b entered life laws.some (laws.past entered one.holds.0.legal)
    one.holds.0.present one.done in
    let two = each_done (served b is_start) (cores b) (IsOwnWay b before life)
    (λ c past. Unit {0}) (λ c past. HasNoStart b c past) (start_step b before life laws) entered
    (one.holds.0, own.own) (λ c on. tt) in
    let started : List Record = each_core (served b is_start) (all_cores b) entered in
    let three = each_done (entering b) (cores b)
    (λ past. IsUnderWay b before life past × NoStarts b life past) (λ c past. Unit {0})
    (λ c past. HasEntered b c past)
    (enter_step b before life (NoStarts b life) laws
    (λ past c w k is. kept_entering b before life past c k is)) started
    (two.holds.0, (two.holds.1, two.done)) (λ c on. tt) in
    record { way = three.holds.0; entered = three.done; started = three.holds.1.1 }

-- What stays so in every round: each started core has entered, and none is pending ----------------

-- What is so while Downs are served.
pub record IsGoing (b : BoardValue) (before : List Record) (life : ℕ) (past : List Record)
    : Type 0 where
  pub legal : IsLegalPast b past
  pub added : AreAdded before past
  pub present : (controller_values b past).life ≡ Some life
  pub own : (firmware_values b past).life ≡ life
  pub awake : (firmware_values b past).halting ≡ false
  pub known : (c : ℕ) → c < cores b
      → (firmware_values b past).known c ≡ (controller_values b past).starts c
  pub rests : (c : ℕ) → c < cores b → (firmware_values b past).phase c ≡ Pending → ⊥
  pub entered : (c : ℕ) → c < cores b → HasEntered b c past

-- it is so after the beginning
pub goes_on : (b : BoardValue) (before : List Record) (life : ℕ) (past : List Record)
    → SettleLaws b → HasBegun b before life past → IsGoing b before life past
goes_on b before life past laws begun = grind (arith, nat_tests, settled_life, found_own)

-- what is known of the firmware's values and messages
pub known_now : (b : BoardValue) (before : List Record) (life : ℕ) (past : List Record)
    → SettleLaws b → IsGoing b before life past
    → IsKnown b life (controller_values b past).starts (firmware_values b past) (sent past)
known_now b before life past laws going =
    subst (λ u. IsKnown b life (controller_values b past).starts u (sent past))
    (found_own b life (firmware_values b past) (sym going.own))
    (present_known b (controller_values b past) (place b past) (firmware_values b past) (sent past)
    life (laws.past past going.legal).given going.present)

-- and of what waits
pub waits_now : (b : BoardValue) (before : List Record) (life : ℕ) (past : List Record)
    → SettleLaws b → IsGoing b before life past
    → let w = controller_values b past in let v = firmware_values b past in
    AreWaiting b life w.starts w.depth v.halting v.known v.phase v.outstanding (sent past)
    (acks past)
waits_now b before life past laws going =
    let w : controlled.Values = controller_values b past in
    subst (λ (u : Values). AreWaiting b life w.starts w.depth u.halting u.known u.phase
    u.outstanding (sent past) (acks past))
    (found_own b life (firmware_values b past) (sym going.own))
    ((laws.past past going.legal).waits life going.present)

pub ready_now : (b : BoardValue) (before : List Record) (life : ℕ) (past : List Record)
    (r one : ℕ) → SettleLaws b → IsGoing b before life past
    → let w = controller_values b past in let v = firmware_values b past in
    ((c : ℕ) → (c ≡ one → ⊥) → AreDeep b life w.starts w.depth (sent past) r c)
    → IsReady b life v.known v.phase (sent past) w r one
ready_now b before life past r one laws going deep =
    let is : IsPast b past = laws.past past going.legal in
    let v : Values = firmware_values b past in
    record {
      paths = is.given.paths;
      kids = laws.kids;
      live = (known_now b before life past laws going).live;
      all = going.known;
      rests = going.rests;
      first = (waits_now b before life past laws going).first;
      deep = deep;
      deeper = subst (λ l. (c level : ℕ) (p : Part) → c < cores b → level < height b
          → IsClaimOn b l (level + 1) (up b (level + 1) c) p (sent past)
          → IsCurrent b v.known (level + 1) (up b (level + 1) c) p
          → NonePending b v.phase (level + 1) (up b (level + 1) c)
          → HasDeeper b l v.known level (up b level c) p.depth (sent past)) going.own is.deeper;
    }

-- Outstanding ----------------------------------------------------------------------------------

-- What is outstanding for a core: a Down of it.
pub record IsOut (b : BoardValue) (life : ℕ) (past : List Record) (c : ℕ) (m : MessageValue)
    : Type 0 where
  pub down : IsDown b life (sent past) m
  pub core : m.core.number ≡ c
  pub system : is_system m.kind ≡ false

slots_now : (b : BoardValue) (before : List Record) (life : ℕ) (past : List Record)
    → SettleLaws b → IsGoing b before life past → let v = firmware_values b past in
    AreOutstanding life v.known v.phase (sent past) v.outstanding
slots_now b before life past laws going = grind (arith, nat_tests)

core_kind : (k : Kind) → is_system k ≡ false → (k ≡ kinds.Start → ⊥) → k ≡ kinds.Down
core_kind k e ne = grind (arith, nat_tests)

pub out_now : (b : BoardValue) (before : List Record) (life : ℕ) (past : List Record) (c : ℕ)
    (m : MessageValue) → SettleLaws b → IsGoing b before life past
    → (firmware_values b past).outstanding (OfCore c) ≡ Some m → IsOut b life past c m
out_now b before life past c m laws going at =
    let slots = slots_now b before life past laws going in
    let slot = slots.core c m at in
    let known = known_now b before life past laws going in
    let sound = (known.messages slot.listed.index m slot.listed.at).sound in
    let on : c < cores b = subst (λ x. x < cores b) slot.core sound.core in
    let kind : m.kind ≡ kinds.Down = grind (arith, nat_tests, core_kind) in
    let claim : AreClaims m.parts = subst (λ k. ArePartsOf k m.parts) kind sound.parts in
    grind (arith, nat_tests)

-- nothing is outstanding for the system
pub none_system : (b : BoardValue) (before : List Record) (life : ℕ) (past : List Record)
    (m : MessageValue) → SettleLaws b → IsGoing b before life past
    → (firmware_values b past).outstanding OfSystem ≡ Some m → ⊥
none_system b before life past m laws going at =
    let slots = slots_now b before life past laws going in
    let listed = slots.system m at in
    let known = known_now b before life past laws going in
    let is = (known.messages listed.index m listed.at).present listed.present in
    let no : true ≡ false = sym (is.halts (slots.halts m at)) ∙ going.awake in absurd (cc)
