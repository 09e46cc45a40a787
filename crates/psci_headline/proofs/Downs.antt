-- What is so after an outstanding Down was served.
use Rattle.std.proofs.lemmas.Bool.{leb-false}
use Rattle.psci_ctl_spec.proofs.Depths.{is_front}
use Rattle.psci_world_spec.specs.Legal.{acks, controller_history, firmware_history}
use Rattle.psci_headline.proofs.Applying.{AreDeep, IsReady, part_applied}
use Rattle.psci_headline.proofs.Controls.{AreApplied, IsKnown, keeps, part_level}
use Rattle.psci_headline.proofs.CoreSteps.{IsStep, step, TurnsOff}
use Rattle.psci_headline.proofs.Covering.{life_before}
use Rattle.psci_headline.proofs.Serving.{ack_to, empties, HasNumber, IsEmptying}
use Rattle.psci_headline.proofs.Starts.{IsGoing, IsOut, known_now, ready_now}
use Rattle.psci_headline.proofs.Sending.{at_number}
use Rattle.psci_headline.proofs.Moves.{moves}
use Rattle.psci_headline.proofs.Nexts.{acks_more, asleep_from, by_ack, goes_running, IsNext, report}
use Rattle.psci_headline.proofs.Nexts.{reported, SettleLaws, slept_now, slept_still}
use Rattle.psci_headline.proofs.Pursuing.{named, same_sum}
use Rattle.psci_headline.proofs.Telling.{item_at, told_down}
use Rattle.psci_headline.proofs.Words.{[], ◌+◌, ◌<◌, ◌==◌, ◌∙◌, ◌∷◌, ◌≡◌, ◌≤◌, ack_by, ack_in}
use Rattle.psci_headline.proofs.Words.{AckLaws, AckValue, Agree, and_right, ap, applied, AreDown}
use Rattle.psci_headline.proofs.Words.{AreValues, arith, BoardValue, Bool, cases_lt, cond}
use Rattle.psci_headline.proofs.Words.{controller_values, cores, Deepens, deliveries, Down}
use Rattle.psci_headline.proofs.Words.{eqb-false, eqb-true, false, firmware_legal, firmware_values}
use Rattle.psci_headline.proofs.Words.{Holds, indexed, inl, inr, is_done, is_kind, is_reported_off}
use Rattle.psci_headline.proofs.Words.{is_stale, IsAllowed, IsAwaited, IsFront, IsLegalPast}
use Rattle.psci_headline.proofs.Words.{IsLivePart, laid, length, List, MessageValue, nat_tests}
use Rattle.psci_headline.proofs.Words.{ne_eqb, None, not, OfCore, Off, OffIsDown, Option, or_parts}
use Rattle.psci_headline.proofs.Words.{Part, place, Record, refl, Running, same_Some, sent, serving}
use Rattle.psci_headline.proofs.Words.{slice_get, Some, start_of_life, subst, sym, take, take_get}
use Rattle.psci_headline.proofs.Words.{true, up, Values, was_powered_down, ℕ}
use Rattle.psci_headline.proofs.fw_laws.Made.{once_down}
use Rattle.psci_board.proofs.Paths.{path_laws}
use Rattle.psci_board.specs.Board.{IsBoard}
use Rattle.psci_headline.proofs.Runs.{agreement, firmware_laws, run_values, sent_holds}
use Rattle.psci_ctl_spec.specs.Replies as controlling
use Rattle.psci_ctl_spec.specs.Values as controlled
use Rattle.psci_ctl_spec.specs.psci_messages.declared.kind.Kind.TheVariants as kinds
use Rattle.psci_fw_laws.specs.psci_fw_spec.Phases as phases
use Rattle.psci_fw_laws.specs.psci_fw_spec.declared.status.Status.TheVariants as statuses

-- Cores that are reported OFF do not run, and were powered down, after every legal past -----------

-- Lives that the firmware does not know of -----------------------------------------------------

first_deep : (b : BoardValue) (c : ℕ) → IsBoard b → (c ≡ 0 → ⊥) → controlled.first_depth b 0 c ≡ 3
first_deep b c board other =
    grind (arith, nat_tests, ne_eqb, and_right, (path_laws b board).core)

fresh_next : (b : BoardValue) (r : Record) (past : List Record) (life c : ℕ) → IsBoard b
    → IsNext b r past → AreDown b past → (controller_values b (r ∷ past)).life ≡ Some life
    → ((firmware_values b (r ∷ past)).life ≡ life → ⊥) → (c ≡ 0 → ⊥)
    → was_powered_down b life (r ∷ past) c ≡ true
fresh_next b r past life c board next are now unknown other =
    elim (life_before b r past life now) [
      | inl before ↦ grind (arith, nat_tests, step, slept_still)
      | inr first ↦ grind (arith, nat_tests, slept_now, asleep_from, first_deep)
    ]

-- Reports --------------------------------------------------------------------------------------

-- What an acknowledgement has in common with the message that it answers.
record IsOfKnown (v : Values) (a : AckValue) : Type 0 where
  pub life : a.life ≡ v.life
  pub number : a.number ≡ v.known a.core.number

-- an acknowledgement of an outstanding Down is of this life and the known start
answers_known : (v : Values) (messages : List MessageValue) (b : BoardValue) (a : AckValue)
    → Holds b v messages → IsAwaited v a → a.kind ≡ Down → IsOfKnown v a
answers_known v messages b a holds is kind =
    let m = is.message in
    let c = a.core.number in
    let slot : v.outstanding (OfCore c) ≡ Some m = grind (arith, nat_tests) in
    let of = holds.slots.core c m slot in
    let name = named a m is.answers in
    record { life = name.life ∙ of.listed.present; number = name.number ∙ of.number }

-- a core that an acknowledgement turns off was powered down
turned_off : (b : BoardValue) (r : Record) (past : List Record) (c : ℕ)
    → (next : IsNext b r past) → AreDown b past
    → TurnsOff (firmware_values b past) c next.moves.effect
    → was_powered_down b (firmware_values b past).life past c ≡ true
turned_off b r past c next are t =
    let v : Values = firmware_values b past in
    let made = next.moves.says.takes t.ack t.is in
    let down = are.acked made.index t.ack made.at t.kind t.some in
    let known = answers_known v (sent past) b t.ack next.holds
    (subst (IsAllowed b v) t.is next.moves.allowed) t.kind in
    subst (λ x. was_powered_down b v.life past x ≡ true) t.core
    (down.slept known.life known.number (ap v.phase t.core ∙ t.away))

-- a core that is reported OFF was powered down in the firmware's life, also where that is new
was_down : (b : BoardValue) (r : Record) (past : List Record) (c : ℕ) (t : Bool) → IsNext b r past
    → AreDown b past
    → ((firmware_values b (r ∷ past)).life == (firmware_values b past).life) ≡ t
    → 0 < (firmware_values b (r ∷ past)).life
    → (firmware_values b (r ∷ past)).status c ≡ statuses.Off
    → was_powered_down b (firmware_values b (r ∷ past)).life past c ≡ true
was_down b r past c true next are test begun off =
    let v : Values = firmware_values b past in
    let w : Values = firmware_values b (r ∷ past) in
    let same : w.life ≡ v.life = eqb-true w.life v.life test in
    subst (λ l. was_powered_down b l past c ≡ true) (sym same)
    (elim ((next.step c).off same off) [
      | inl was ↦ are.off c (report b past c (omega arith) was)
      | inr turns ↦ turned_off b r past c next are turns
    ])
was_down b r past c false next are test begun off =
    let w : Values = firmware_values b (r ∷ past) in
    let other = eqb-false w.life (firmware_values b past).life test in
    let starts = (next.step c).begins other in
    let present = (next.moves.says.starts starts.arrival starts.is).life in
    are.fresh w.life c (present ∙ ap (λ x. Some x) starts.new) (λ e. other (sym e))
    ((next.step c).boot other off)

off_next : (b : BoardValue) (r : Record) (past : List Record) (c : ℕ) → IsNext b r past
    → AreDown b past → is_reported_off b (r ∷ past) c ≡ true
    → was_powered_down b (firmware_values b (r ∷ past)).life (r ∷ past) c ≡ true
off_next b r past c next are e =
    grind (arith, nat_tests, reported, slept_still, was_down, goes_running)

-- All pasts ------------------------------------------------------------------------------------

pub next_of : (b : BoardValue) (r : Record) (past : List Record) → IsBoard b
    → IsLegalPast b (r ∷ past) → IsNext b r past
next_of b r past board is =
    let m = moves b r past (firmware_laws b board) is.0 (firmware_legal b (r ∷ past) is) in
    let v : Values = firmware_values b past in
    record {
      moves = m;
      step = λ c. subst (λ w. IsStep v w c m.effect) (sym m.values) (step b v c m.effect m.allowed);
      holds = sent_holds b past board is.1;
      said = is.0;
      begun = (agreement b (r ∷ past) board is).begun;
    }

pub first_life : (b : BoardValue) → (firmware_values b []).life ≡ 0
unfolding firmware_history Rattle.psci_fw_laws.specs.psci_fw_spec.History.values_of
first_life b = refl

no_acks : (k : ℕ) (a : AckValue) → slice_get (acks []) k ≡ Some a → ⊥
unfolding acks
no_acks k a e = absurd (cc)

pub first_controlled : (b : BoardValue) → controller_values b [] ≡ controlled.start_of_life b
unfolding controller_history Rattle.psci_ctl_spec.specs.History.values_of
first_controlled b = refl

first_down : (b : BoardValue) → IsBoard b → AreDown b []
first_down b board =
    grind (
      arith,
      nat_tests,
      reported,
      first_life,
      no_acks,
      slept_now,
      asleep_from,
      first_controlled,
      first_deep,
    )

pub all_down : (b : BoardValue) (past : List Record) → IsBoard b → IsLegalPast b past
    → AreDown b past
all_down b [] board is = first_down b board
all_down b (r ∷ past) board is =
    let next : IsNext b r past = next_of b r past board is in
    let are : AreDown b past = all_down b past board is.1 in
    record {
      off = λ c. off_next b r past c next are;
      acked = λ k a at.
          by_ack b r past (ack_in r.said) k a board next are refl
          (ap (λ xs. slice_get xs k) (sym (acks_more r past)) ∙ at);
      fresh = λ life c. fresh_next b r past life c board next are;
    }

-- Reported OFF ---------------------------------------------------------------------------------

by_life : (b : BoardValue) (v : Values) (c life : ℕ) (t : Bool) → AreValues b v → v.status c ≡ Off
    → (cond t v (start_of_life b life)).phase c ≡ phases.Running → ⊥
by_life b v c life t are off runs = grind (arith, nat_tests)

not_running : (b : BoardValue) (past : List Record) (c : ℕ) (o : Option ℕ) → Agree b past
    → AreValues b (firmware_values b past) → c < cores b
    → (firmware_values b past).status c ≡ Off → (controller_values b past).life ≡ o
    → place b past c ≡ Running → ⊥
not_running b past c None agree are on off life runs = grind (arith, nat_tests)
not_running b past c (Some l) agree are on off life runs =
    let v : Values = firmware_values b past in
    by_life b v c l (l == v.life) are off ((agree.present l life).runs c on runs)

pub off_is_down : (b : BoardValue) (past : List Record) → IsBoard b → IsLegalPast b past
    → OffIsDown b past
off_is_down b past board is c on off = grind (
  arith,
  nat_tests,
  not_running,
  reported,
  all_down,
  run_values b past board is,
  agreement b past board is,
)

-- Downs -------------------------------------------------------------------------------------------

-- The found message is the outstanding one -----------------------------------------------------

pub same_down : (b : BoardValue) (before : List Record) (life : ℕ) (past : List Record) (c : ℕ)
    (m : MessageValue) → SettleLaws b → IsGoing b before life past → IsOut b life past c m
    → (n : HasNumber m (sent past)) → n.message ≡ m
same_down b before life past c m laws going out n =
    let place = at_number (sent past) n.number n.message n.at in
    let one = once_down b (firmware_values b past) (sent past)
    (laws.past past going.legal).given.holds out.down.index place.index m n.message out.down.at
    place.at out.down.kind (sym n.name.kind ∙ out.down.kind) n.name.core n.name.life
    n.name.number in
    same_Some n.message m (sym place.at ∙ ap (slice_get (sent past)) (sym one) ∙ out.down.at)

-- What is left to be done of a Down: a part above this level is live.
pub record IsLeft (b : BoardValue) (starts : ℕ → ℕ) (m : MessageValue) (r : ℕ) : Type 0 where
  pub level : ℕ
  pub part : Part
  pub at : slice_get m.parts level ≡ Some part
  pub live : IsLivePart b starts m level part
  pub high : r < level

-- An outstanding Down was served, where live claims of other cores have their depth below this
-- level.
pub record IsDownAnswered (b : BoardValue) (before : List Record) (life : ℕ) (past : List Record)
    (r c k : ℕ) (m : MessageValue) : Type 0 where
  pub going : IsGoing b before life (serving b past (Some k))
  pub messages : sent (serving b past (Some k)) ≡ sent past
  pub starts : (controller_values b (serving b past (Some k))).starts
      ≡ (controller_values b past).starts
  -- a live part that has its depth keeps it
  pub kept : (j level : ℕ) (n : MessageValue) (p : Part) → slice_get (sent past) j ≡ Some n
      → n.life ≡ life → n.kind ≡ kinds.Down → slice_get n.parts level ≡ Some p
      → IsLivePart b (controller_values b past).starts n level p
      → (controller_values b past).depth level (up b level n.core.number) ≡ p.depth
      → (controller_values b (serving b past (Some k))).depth level (up b level n.core.number)
      ≡ p.depth
  -- live parts of the Down up to this level have theirs
  pub here : (level : ℕ) (p : Part) → slice_get m.parts level ≡ Some p
      → IsLivePart b (controller_values b past).starts m level p → level ≤ r
      → (controller_values b (serving b past (Some k))).depth level (up b level m.core.number)
      ≡ p.depth
  pub there : (x : ℕ) → (x ≡ c → ⊥)
      → (firmware_values b (serving b past (Some k))).outstanding (OfCore x)
      ≡ (firmware_values b past).outstanding (OfCore x)
  -- it stays outstanding only where a live part above is left
  pub left : (x : MessageValue)
      → (firmware_values b (serving b past (Some k))).outstanding (OfCore c) ≡ Some x
      → (x ≡ m) × IsLeft b (controller_values b past).starts m r
  pub at : indexed (sent past) k ≡ Some m
  pub count : (j : ℕ) → deliveries j (serving b past (Some k))
      ≡ cond (j == k) 1 0 + deliveries j past

left_from : (t : Bool) (m x : MessageValue) → cond t None (Some m) ≡ Some x
    → (x ≡ m) × (t ≡ false)
left_from t m x e = grind (arith, nat_tests)

module _ (b : BoardValue) (before : List Record) (life : ℕ) (past : List Record) (r c : ℕ)
    (m : MessageValue) (laws : SettleLaws b) (going : IsGoing b before life past)
    (deep : (x : ℕ) → (x ≡ c → ⊥) → AreDeep b life (controller_values b past).starts
    (controller_values b past).depth (sent past) r x)
    (out : IsOut b life past c m) (n : HasNumber m (sent past))
    (at : (firmware_values b past).outstanding (OfCore c) ≡ Some m) where
  abbrev w : controlled.Values
  w = controller_values b past

  abbrev v : Values
  v = firmware_values b past

  abbrev next : List Record
  next = serving b past (Some n.number)

  known : IsKnown b life w.starts v (sent past)
  known = known_now b before life past laws going

  abbrev count : ℕ
  count = applied b w m.core.number m.parts

  em : IsEmptying b past c n.number m m
  em = subst (λ x. IsEmptying b past c n.number m x)
      (same_down b before life past c m laws going out n)
      (empties b past c m laws.runs going.legal n (going.present ∙ ap Some (sym out.down.present))
      at out.core out.system)

  control : controller_values b next
      ≡ controlling.change b (Deepens m.core.number (take count m.parts)) w
  control = grind (arith, nat_tests, em)

  front : IsFront b w m.core.number (take count m.parts)
  front = is_front b w m.core.number m.parts laws.kids out.down.core out.down.few out.down.parts

  are : AreApplied b life w.starts (sent past) m.core.number (take count m.parts)
  are = grind (arith, nat_tests, take_get, front, same_sum)

  ready : IsReady b life v.known v.phase (sent past) w r m.core.number
  ready = ready_now b before life past r m.core.number laws going
      (λ x ne. deep x (λ e. ne (e ∙ sym out.core)))

  ack_laws : AckLaws b w m.core.number m.parts
  ack_laws = grind (arith, nat_tests)

  -- the depth of a domain then
  depth_now : (level place : ℕ) → (controller_values b next).depth level place
      ≡ laid b m.core.number (take count m.parts) w.depth level place
  depth_now level place = ap (λ (u : controlled.Values). u.depth level place) control

  place_now : (x : ℕ) → place b next x ≡ place b past x
  place_now x = grind (arith, nat_tests, em)

  -- the part of the first level that is left
  part_left : is_done (ack_to b past m) m ≡ false → IsLeft b w.starts m r
  part_left e =
      let done : is_done (ack_by b w m kinds.Down) m ≡ false = grind (arith, nat_tests) in
      let parts = or_parts (is_stale b w m.core.number m.parts) _ done in
      let rest = or_parts (not (is_kind m.kind kinds.Down)) _ parts.1 in
      let few : count < length m.parts = leb-false (length m.parts) count rest.1 in
      let item = item_at m.parts count few in
      let flat : item.item.level ≡ count = out.down.parts.level count item.item item.at in
      let live : IsLivePart b w.starts m count item.item =
      grind (arith, nat_tests, ack_laws, same_sum) in
      elim (cases_lt r count) [
        | inl high ↦ record {
          level = count;
          part = item.item;
          at = item.at;
          live = live;
          high = high;
        }
        | inr low ↦
            let more = part_applied b life v.known v.phase (sent past) w r count m item.item ready
            out.down low item.at live in
            absurd (omega (arith, more))
      ]

  pub down_answered : IsDownAnswered b before life past r c n.number m
  down_answered = record {
    going = record {
      legal = em.answered.legal;
      added = em.answered.added before going.added;
      present = ap (λ (u : controlled.Values). u.life) control ∙ going.present;
      own = ap (λ (u : Values). u.life) em.answered.firmware ∙ going.own;
      awake = ap (λ (u : Values). u.halting) em.answered.firmware ∙ going.awake;
      known = λ x on. grind (arith, nat_tests, known, em, control);
      rests = λ x on e. grind (arith, nat_tests, em);
      entered = λ x on e. going.entered x on (sym (place_now x) ∙ e);
    };
    messages = em.answered.sent;
    starts = ap (λ (u : controlled.Values). u.starts) control;
    kept = λ j level x p at_j present kind part live old.
        depth_now level (up b level x.core.number)
        ∙ keeps b life w.starts w.depth (sent past) m.core.number (take count m.parts) known.apart
        are j level x p at_j present kind part live old;
    here = λ level p part live low.
        let more = part_applied b life v.known v.phase (sent past) w r level m p ready out.down low
        part live in
        depth_now level (up b level m.core.number)
        ∙ (told_down b w m out.down.kind
        (λ l q get. part_level b life w.starts v (sent past) known out.down.index l m q out.down.at
        get)
        (λ l q s get_q get_s alive.
        known.live.below out.down.index l m q s out.down.at out.down.present get_q get_s alive)
        ack_laws).applied out.down.kind level p more part live;
    there = em.there;
    left = λ x e. grind (arith, nat_tests, left_from, ack_to, em, part_left);
    at = n.at ∙ ap Some
        (same_down b before life past c m laws going out n);
    count = em.answered.count;
  }
