-- What is told, after one call of the firmware or of the power controller, and after every legal
-- run.
use Rattle.psci_ctl_spec.specs.Replies.{next_life}
use Rattle.psci_ctl_spec.specs.Values.{starts_below}
use Rattle.psci_fw_laws.specs.Messages.{known_below}
use Rattle.psci_fw_laws.specs.psci_fw_spec.Invariant.{agrees}
use Rattle.psci_fw_laws.specs.psci_fw_spec.NodeHwState.{hw_code}
use Rattle.psci_headline.specs.psci_fw_spec.Changes.{with_mode}
use Rattle.psci_headline.specs.psci_fw_spec.Effects.{Nothing}
use Rattle.psci_headline.specs.psci_world_spec.Legal.{controller_history, firmware_history}
use Rattle.psci_headline.proofs.Acknowledged.{carried_out}
use Rattle.psci_headline.proofs.Agreed.{answered, first_kept}
use Rattle.psci_headline.proofs.Controls.{found_other, found_own}
use Rattle.psci_headline.proofs.Downs.{first_controlled, first_life, next_of}
use Rattle.psci_headline.proofs.Beside.{enters, goes_on, halts, parks, pends, rests, stops}
use Rattle.psci_headline.proofs.Beside.{stops_at_once, yet_later}
use Rattle.psci_headline.proofs.CoreSteps.{confirmed_how, How, no_sum, Stays, waited}
use Rattle.psci_headline.proofs.Covering.{few, IsFew, IsFirst, life_before, values_by}
use Rattle.psci_headline.proofs.Moves.{IsOfRecord, moves}
use Rattle.psci_headline.proofs.Nexts.{IsNext, was_made}
use Rattle.psci_headline.proofs.ToldHw.{seen_later, seen_now}
use Rattle.psci_headline.proofs.Words.{[], ◌++◌, ◌+◌, ◌<◌, ◌==◌, ◌∙◌, ◌∷◌, ◌≡◌, ◌≤◌, Acknowledges}
use Rattle.psci_headline.proofs.Words.{AckValue, Agree, and_parts, and_right, ap, AreAtRest}
use Rattle.psci_headline.proofs.Words.{AreConfirming, AreValues, arith, AsksOn, Away, BoardValue}
use Rattle.psci_headline.proofs.Words.{Bool, cases_eq, cases_lt, change, cond, cond_both}
use Rattle.psci_headline.proofs.Words.{Confirming, controller_values, cores, CtlExchange, Effect}
use Rattle.psci_headline.proofs.Words.{Enters, false, firmware_values, first_depth, first_starts}
use Rattle.psci_headline.proofs.Words.{GoesOn, Halts, HasNode, Holds, hw_at, in_life, inl, inr}
use Rattle.psci_headline.proofs.Words.{is_halting, IsAllowed, IsLegalPast, IsToldWhole, IsYetToCome}
use Rattle.psci_headline.proofs.Words.{KnownLaws, List, ltb-true, MessageValue, nat_tests, ne_eqb}
use Rattle.psci_headline.proofs.Words.{Node, node_hw, none-some, not, Off, On, one_more, Option}
use Rattle.psci_headline.proofs.Words.{Parks, PathLaws, Phase, Record, refl, Rests, sent, SetsMode}
use Rattle.psci_headline.proofs.Words.{slice_get, Some, Start, start_of_life, StatesWereReal, Stops}
use Rattle.psci_headline.proofs.Words.{StopsAtOnce, subst, sym, true, up, Values, was_in_state}
use Rattle.psci_headline.proofs.Words.{WasTold, with_pending, ℕ}
use Rattle.psci_headline.proofs.fw_laws.Following.{found_life}
use Rattle.psci_headline.proofs.fw_laws.Refusing.{known_same}
use Rattle.psci_headline.proofs.world_spec.Answered.{firmware_legal}
use Rattle.psci_board.proofs.Paths.{path_laws}
use Rattle.psci_board.specs.Board.{IsBoard}
use Rattle.psci_fw_laws.proofs.Made.{known_laws}
use Rattle.psci_headline.specs.Settling.{Waiting}
use Rattle.psci_headline.proofs.Runs.{agreement, firmware_laws, run_values, sent_holds}
use Rattle.psci_headline.specs.psci_ctl_spec.Replies as controlling_effects
use Rattle.psci_headline.specs.psci_ctl_spec.History as controls
use Rattle.psci_headline.specs.psci_ctl_spec.Values as controlled

-- The hardware states that are said of domains were real, after every legal past ------------------

-- a domain was as deep as it is granted by these values, in their life and by their known starts
abbrev WasSo : BoardValue → List Record → Values → Node → Type 0
WasSo b past v n = was_in_state b v.life (known_below b v.known n.level n.place)
    (hw_at (v.granted n.level n.place)) past n ≡ true

-- What is known of all domains after these records.
record AreReal (b : BoardValue) (past : List Record) : Type 0 where
  -- one with a confirmed claim was as deep as it is granted
  pub seen : (n : Node) → HasNode b n → 0 < (firmware_values b past).life
      → (firmware_values b past).confirmed n.level n.place ≡ true
      → WasSo b past (firmware_values b past) n
  -- in a life that the firmware does not know of yet, each off the boot path was powered down
  pub fresh : (life : ℕ) (n : Node) → HasNode b n → (controller_values b past).life ≡ Some life
      → ((firmware_values b past).life ≡ life → ⊥) → (up b n.level 0 ≡ n.place → ⊥)
      → was_in_state b life 0 (hw_at 3) past n ≡ true

-- Lives that the firmware does not know of -----------------------------------------------------

first_down : (b : BoardValue) (n : Node) → (up b n.level 0 ≡ n.place → ⊥)
    → first_depth b n.level n.place ≡ 3
first_down b n off = grind (arith, nat_tests, and_right, ne_eqb)

first_sum : (b : BoardValue) (n : Node) → KnownLaws b → (up b n.level 0 ≡ n.place → ⊥)
    → starts_below b first_starts n ≡ 0
unfolding starts_below known_below
first_sum b n laws off =
    laws.same first_starts (λ c. 0) n.level n.place (λ c inside at.
    ap (λ t. cond t 1 0) (ne_eqb c 0 (λ e. off (sym (ap (up b n.level) e) ∙ at))))
    ∙ no_sum b n.level n.place laws

first_seen : (b : BoardValue) (past : List Record) (life : ℕ) (n : Node) → KnownLaws b
    → (controller_values b past).life ≡ Some life → IsFirst b (controller_values b past)
    → (up b n.level 0 ≡ n.place → ⊥) → was_in_state b life 0 (hw_at 3) past n ≡ true
first_seen b past life n laws now first off =
    seen_now b life 0 3 past n now
    (ap (λ f. starts_below b f n) first.starts ∙ first_sum b n laws off)
    (ap (λ (f : ℕ → ℕ → ℕ). f n.level n.place) first.depth ∙ first_down b n off)

fresh_next : (b : BoardValue) (r : Record) (past : List Record) (life : ℕ) (n : Node)
    → KnownLaws b → IsNext b r past → AreReal b past → HasNode b n
    → (controller_values b (r ∷ past)).life ≡ Some life
    → ((firmware_values b (r ∷ past)).life ≡ life → ⊥) → (up b n.level 0 ≡ n.place → ⊥)
    → was_in_state b life 0 (hw_at 3) (r ∷ past) n ≡ true
fresh_next b r past life n laws next are has now unknown off =
    elim (life_before b r past life now) [
      | inl before ↦ grind (arith, nat_tests, seen_later)
      | inr first ↦ first_seen b (r ∷ past) life n laws now first off
    ]

-- Confirmed claims -----------------------------------------------------------------------------

-- the same life, sum and depth
so_still : (b : BoardValue) (past : List Record) (v w : Values) (n : Node)
    → Stays b v w n.level n.place → WasSo b past v n → WasSo b past w n
so_still b past v w n s was = grind (arith, nat_tests)

so_first : (b : BoardValue) (past : List Record) (w : Values) (n : Node)
    → known_below b w.known n.level n.place ≡ 0 → w.granted n.level n.place ≡ 3
    → was_in_state b w.life 0 (hw_at 3) past n ≡ true → WasSo b past w n
so_first b past w n known granted was = grind (arith, nat_tests)

seen_by : (b : BoardValue) (r : Record) (past : List Record) (n : Node) → IsBoard b
    → IsLegalPast b past → (next : IsNext b r past) → AreReal b past → HasNode b n → (w : Values)
    → 0 < w.life → How b (firmware_values b past) w next.moves.effect n.level n.place
    → WasSo b past w n
seen_by b r past n board legal next are has w some how =
    let v : Values = firmware_values b past in
    elim how [
      | inl was ↦ grind (arith, nat_tests, so_still)
      | inr more ↦ elim more [
        | inl begun ↦
            let present = (next.moves.says.starts begun.arrival begun.is).life in
            so_first b past w n begun.known begun.granted
            (are.fresh w.life n has (present ∙ ap (λ x. Some x) begun.new)
            (λ e. begun.other (sym e)) begun.off)
        | inr taken ↦
            let made = next.moves.says.takes taken.ack taken.is in
            so_still b past v w n taken.stays (carried_out b past taken.ack (record {
              paths = path_laws b board;
              holds = next.holds;
              values = run_values b past board legal;
              made = was_made b past legal made.index taken.ack made.at;
              awaited = subst (IsAllowed b v) taken.is next.moves.allowed;
            }) n has taken.by)
      ]
    ]

seen_next : (b : BoardValue) (r : Record) (past : List Record) (n : Node) → IsBoard b
    → IsLegalPast b past → IsNext b r past → AreReal b past → HasNode b n
    → 0 < (firmware_values b (r ∷ past)).life
    → (firmware_values b (r ∷ past)).confirmed n.level n.place ≡ true
    → WasSo b (r ∷ past) (firmware_values b (r ∷ past)) n
seen_next b r past n board legal next are has some confirmed =
    let v : Values = firmware_values b past in
    let w : Values = firmware_values b (r ∷ past) in
    let e = next.moves.effect in
    let how = subst (λ (x : Values). x.confirmed n.level n.place ≡ true
    → How b v x e n.level n.place) (sym next.moves.values)
    (confirmed_how b v (known_laws b board) n.level n.place e) confirmed in
    seen_later b w.life (known_below b w.known n.level n.place)
    (hw_at (w.granted n.level n.place)) r past n
    (seen_by b r past n board legal next are has w some how)

all_real : (b : BoardValue) (past : List Record) → IsBoard b → IsLegalPast b past
    → AreReal b past
all_real b [] board legal =
    grind (arith, nat_tests, first_life, first_controlled, first_seen, known_laws b board)
all_real b (r ∷ past) board legal = grind (
  arith,
  nat_tests,
  next_of b r past board legal,
  seen_next,
  fresh_next,
  known_laws b board,
  all_real b past board legal.1,
)

-- What is said ---------------------------------------------------------------------------------

-- What it means that a domain is said to be off or in standby.
record IsAsleep (v : Values) (n : Node) : Type 0 where
  pub confirmed : v.confirmed n.level n.place ≡ true
  pub hw : node_hw v n ≡ hw_at (v.granted n.level n.place)

asleep_by : (v : Values) (n : Node) (t : Bool) → v.confirmed n.level n.place ≡ t
    → not (hw_code (cond t (hw_at (v.granted n.level n.place)) On) == 0) ≡ true → IsAsleep v n
asleep_by v n t e other = grind (arith, nat_tests)

pub states_real : (b : BoardValue) (past : List Record) → IsBoard b → IsLegalPast b past
    → StatesWereReal b past
unfolding known_below
states_real b past board legal n has said =
    grind (arith, nat_tests, and_parts, asleep_by, all_real, ltb-true)

-- Confirmed ---------------------------------------------------------------------------------------

-- What is told in this life, where there is one.
abbrev pub ConfirmingNow : BoardValue → controlled.Values → Values → Type 0
ConfirmingNow b w v =
    (life : ℕ) → w.life ≡ Some life → AreConfirming b w.starts (in_life b life v)

-- The firmware ---------------------------------------------------------------------------------

module _ (b : BoardValue) (w : controlled.Values) (v : Values) (sent : List MessageValue)
    (made : List AckValue) (sums : KnownLaws b) (paths : PathLaws b) (holds : Holds b v sent)
    (known : (life : ℕ) → w.life ≡ Some life → (c : ℕ) → (in_life b life v).known c ≤ w.starts c)
    (told : (life : ℕ) → w.life ≡ Some life → (i : ℕ) (a : AckValue) → slice_get made i ≡ Some a
    → a.life ≡ life → WasTold b w.starts w.depth a sent)
    (h : ConfirmingNow b w v) where
  -- the life stays: what is told in another one is not changed
  own_life : (u : Values) → u.life ≡ v.life
      → ((life : ℕ) → w.life ≡ Some life → life ≡ v.life → AreConfirming b w.starts v
      → AreConfirming b w.starts u)
      → ConfirmingNow b w u
  own_life u same step life e = grind (arith, nat_tests, cases_eq, found_own, found_other)

  -- a core entered in the power controller's life
  entered : (u : Values) (s : Start) → w.life ≡ Some s.life → u.life ≡ s.life
      → (AreConfirming b w.starts (in_life b s.life v) → AreConfirming b w.starts u)
      → ConfirmingNow b w u
  entered u s present life step now e = grind (arith, nat_tests, found_own)

  taken : (a : AckValue) (i : ℕ) → slice_get made i ≡ Some a
      → ConfirmingNow b w (change b (Acknowledges a) v)
  taken a i at = own_life (change b (Acknowledges a) v) refl (λ life e own are.
      answered b w.starts w.depth v sent a (record {
        paths = paths;
        holds = holds;
        told = λ is. told life e i a at (is ∙ sym own);
        below = λ level place.
            sums.le v.known w.starts level place (λ c on below.
            subst (λ (u : Values). u.known c ≤ w.starts c) (found_own b life v own)
            (known life e c));
      }) are)

  pub effect : (e : Effect) → IsAllowed b v e → IsOfRecord w made e
      → ConfirmingNow b w (change b e v)
  effect Nothing allowed says = h
  effect (GoesOn c) allowed says = grind (arith, nat_tests, own_life, goes_on)
  effect (SetsMode c mode) allowed says =
      own_life (change b (SetsMode c mode) v) refl (λ life e own are.
      goes_on b w.starts (with_mode mode v) c
      (record { domains = are.domains; cores = are.cores }))
  effect (AsksOn c asked) allowed says =
      own_life (change b (AsksOn c asked) v) refl (λ life e own are.
      goes_on b w.starts (with_pending b asked v) c
      (pends b w.starts v asked paths allowed.kind are))
  effect (Rests c rest m) allowed says =
      own_life (change b (Rests c rest m) v) refl (λ life e own are.
      rests b w.starts sums paths v sent c rest m holds allowed are)
  effect (Halts c m) allowed says = grind (arith, nat_tests, own_life, halts)
  effect (Stops c) allowed says =
      own_life (change b (Stops c) v) refl (λ life e own are.
      stops b w.starts sums paths v sent c allowed are)
  effect (Enters c s) allowed says =
      entered (change b (Enters c s) v) s (says.starts (record { core = c; start = s }) refl).life
      (found_life b v s.life) (enters b w.starts sums paths v c s)
  effect (Parks c s m) allowed says =
      entered (change b (Parks c s m) v) s (says.starts (record { core = c; start = s }) refl).life
      (found_life b v s.life) (parks b w.starts sums paths v c s m allowed)
  effect (StopsAtOnce c s) allowed says =
      grind (arith, nat_tests, entered, found_life, stops_at_once)
  effect (Acknowledges a) allowed says =
      let of = says.takes a refl in taken a of.index of.at

-- The power controller -------------------------------------------------------------------------

pub first : (b : BoardValue) (starts : ℕ → ℕ) (life : ℕ)
    → AreConfirming b starts (start_of_life b life)
first b starts life = grind (arith, nat_tests)

pub first_now : (b : BoardValue) (starts : ℕ → ℕ) (life : ℕ)
    → AreConfirming b starts (in_life b life (start_of_life b 0))
first_now b starts life = grind (arith, nat_tests, cond_both, first)

-- more starts
later : (b : BoardValue) (starts more : ℕ → ℕ) (v : Values) → KnownLaws b
    → ((c : ℕ) → starts c ≤ more c) → AreConfirming b starts v → AreConfirming b more v
later b starts more v sums le are = record {
  domains = λ level place some. elim (are.domains level place some) [
    | inl was ↦ inl was
    | inr yet ↦
        inr (yet_later b starts more v.known v.outstanding level place
        (sums.le starts more level place (λ c on at. le c)) yet)
  ];
  cores = λ awake c on away. elim (are.cores awake c on away) [
    | inl was ↦ inl was
    | inr yet ↦
        inr (yet_later b starts more v.known v.outstanding 0 c
        (sums.le starts more 0 c (λ x at below. le x)) yet)
  ];
}

one_later : (t : Bool) (n : ℕ) → n ≤ cond t (n + 1) n
one_later t n = grind (arith, nat_tests)

-- a life begins that the firmware does not know of
begins : (b : BoardValue) (w : controlled.Values) (v : Values) (o : Option ℕ) (life : ℕ)
    → ((l : ℕ) → w.life ≡ Some l → v.life ≤ l) → w.life ≡ o → next_life o ≡ Some life
    → (starts : ℕ → ℕ) → AreConfirming b starts (in_life b life v)
begins b w v o life begun is e starts = grind (arith, nat_tests, found_other, first)

pub controlled_by : (b : BoardValue) (w : controlled.Values) (v : Values)
    (e : controlling_effects.Effect) → KnownLaws b
    → ((l : ℕ) → w.life ≡ Some l → v.life ≤ l) → ConfirmingNow b w v
    → ConfirmingNow b (controlling_effects.change b e w) v
controlled_by b w v (controlling_effects.Starts c cause) sums begun h = λ life e.
    later b w.starts (one_more w.starts c) (in_life b life v) sums
    (λ x. one_later (x == c) (w.starts x)) (h life e)
controlled_by b w v controlling_effects.Ends sums begun h = λ life e. absurd (cc)
controlled_by b w v controlling_effects.Begins sums begun h = λ life e.
    begins b w v w.life life begun refl e controlled.first_starts
controlled_by b w v e sums begun h = h

-- After every legal run ------------------------------------------------------------------------

-- The firmware ---------------------------------------------------------------------------------

-- a record leaves the firmware so, beside the power controller before it
firmware_next : (b : BoardValue) (r : Record) (past : List Record) → IsBoard b
    → IsLegalPast b (r ∷ past) → Confirming b past
    → ConfirmingNow b (controller_values b past) (firmware_values b (r ∷ past))
firmware_next b r past board is h =
    let m = moves b r past (firmware_laws b board) is.0 (firmware_legal b (r ∷ past) is) in
    let w : controlled.Values = controller_values b past in
    let v : Values = firmware_values b past in
    let holds = sent_holds b past board is.1 in
    let agree = agreement b past board is.1 in
    let sums = known_laws b board in
    let paths = path_laws b board in
    let waits = waited b past board is.1 in
    grind (arith, nat_tests, effect)

-- The power controller -------------------------------------------------------------------------

-- so many exchanges more
control_next : (b : BoardValue) (past : List Record) (es : List CtlExchange) → KnownLaws b
    → IsFew es → Agree b past → Confirming b past
    → ConfirmingNow b (controls.values_of b (es ++ controller_history b past))
    (firmware_values b past)
control_next b past [] sums is agree h = h
control_next b past (e ∷ []) sums is agree h = grind (arith, nat_tests, values_by, controlled_by)
control_next b past (e ∷ f ∷ es) sums is agree h = absurd is

-- Both -----------------------------------------------------------------------------------------

next : (b : BoardValue) (r : Record) (past : List Record) → IsBoard b
    → IsLegalPast b (r ∷ past) → Confirming b past → Confirming b (r ∷ past)
unfolding controller_history firmware_history
next b r past board is h = grind (
  arith,
  nat_tests,
  firmware_next,
  control_next,
  few,
  known_laws b board,
  agreement b (r ∷ past) board is,
  agreement b past board is.1,
)

pub confirming : (b : BoardValue) (past : List Record) → IsBoard b → IsLegalPast b past
    → Confirming b past
confirming b [] board is = grind (arith, nat_tests, first_kept, first_now)
confirming b (r ∷ past) board is = next b r past board is (confirming b past board is.1)

-- Where firmware and power controller agree, all is told ------------------------------------------

-- The life -------------------------------------------------------------------------------------

-- A life that goes on.
pub record LifeGoesOn (b : BoardValue) (past : List Record) : Type 0 where
  pub life : ℕ
  pub present : (controller_values b past).life ≡ Some life
  pub awake : (in_life b life (firmware_values b past)).halting ≡ false

pub going_life : (b : BoardValue) (past : List Record) → is_halting b past ≡ false
    → LifeGoesOn b past
going_life b past awake = grind (arith, nat_tests)

-- Words ----------------------------------------------------------------------------------------

-- a domain that is fully on is ON, confirmed or not
flat_on : (t : Bool) (depth : ℕ) → depth ≡ 0 → cond t (hw_at depth) On ≡ hw_at depth
flat_on t depth e = grind (arith, nat_tests)

off_away : (p : Phase) → agrees Off p ≡ true → p ≡ Away
off_away p e = grind (arith, nat_tests)

-- At rest --------------------------------------------------------------------------------------

module _ (b : BoardValue) (past : List Record) (paths : PathLaws b)
    (holds : Holds b (firmware_values b past) (sent past)) (agree : Agree b past)
    (waits : Waiting b past) (legal : IsLegalPast b past)
    (rest : AreAtRest b past) (on : LifeGoesOn b past) where
  abbrev pub w : controlled.Values
  w = controller_values b past

  abbrev pub v : Values
  v = firmware_values b past

  abbrev pub found : Values
  found = in_life b on.life v

  -- the firmware knows every start
  all_known : (c : ℕ) → c < cores b → found.known c ≡ w.starts c
  all_known c at = grind (arith, nat_tests, cases_eq)

  -- and so the life: the boot core would wait for its Start in another one
  own : 0 < cores b → on.life ≡ v.life
  own some = grind (arith, nat_tests, cases_eq, found_other, all_known, none-some)

  -- so nothing is yet to come
  none_yet : 0 < cores b → (level place : ℕ)
      → IsYetToCome b w.starts v.known v.outstanding level place → ⊥
  none_yet some level place yet = elim yet [
    | inl is ↦
        let listed = (holds.slots.core is.message.core.number is.message is.at).listed in
        let core = (holds.messages listed.index is.message listed.at).sound.core in
        none-some is.message (sym (rest.own is.message.core.number core) ∙ is.at)
    | inr more ↦ grind (arith, nat_tests, found_own, own, all_known, known_same)
  ]

  are : Confirming b past → 0 < cores b → AreConfirming b w.starts v
  are confirming some = grind (arith, nat_tests, found_own, own)

  hw_now : Confirming b past → (n : Node) → HasNode b n
      → node_hw v n ≡ hw_at (w.depth n.level n.place)
  hw_now confirming n has =
      let below = paths.some_core n has in
      let some : 0 < cores b = omega (arith, below.1) in
      grind (arith, nat_tests, cases_lt, are, none_yet, flat_on)

  off_now : Confirming b past → (c : ℕ) → c < cores b → v.phase c ≡ Away → v.status c ≡ Off
  off_now confirming c at away =
      let some : 0 < cores b = omega (arith, at) in
      let awake : v.halting ≡ false = grind (arith, nat_tests, found_own, own) in
      elim ((are confirming some).cores awake c at away) [
        | inl off ↦ off
        | inr yet ↦ absurd (none_yet some 0 c yet)
      ]

  pub whole_at : Confirming b past → AreValues b v → IsToldWhole b past
  whole_at confirming values = grind (arith, nat_tests, hw_now, off_now, off_away)

pub whole : (b : BoardValue) (past : List Record) → IsBoard b → IsLegalPast b past
    → is_halting b past ≡ false → AreAtRest b past → IsToldWhole b past
whole b past board legal awake rest =
    whole_at b past (path_laws b board) (sent_holds b past board legal)
    (agreement b past board legal) (waited b past board legal) legal rest
    (going_life b past awake) (confirming b past board legal) (run_values b past board legal)
