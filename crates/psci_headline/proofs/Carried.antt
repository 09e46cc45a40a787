-- What waits, after one call of the power controller or of the firmware.
use Rattle.std.proofs.lemmas.List.Sums.{prefix_len_passes}
use Rattle.psci_ctl_spec.specs.Replies.{Begins, Ends, Nothing}
use Rattle.psci_ctl_spec.specs.Values.{applied, is_live}
use Rattle.psci_ctl_spec.specs.psci_messages.Message.{is_climbing}
use Rattle.psci_fw_laws.specs.Messages.{known_below}
use Rattle.psci_headline.proofs.Agreed.{call_waits, entry_waits}
use Rattle.psci_headline.proofs.Controls.{AreAgreed, begun_waits, down_waits, found_other}
use Rattle.psci_headline.proofs.Controls.{found_own, IsKnown, start_told, start_waits}
use Rattle.psci_headline.proofs.Moves.{IsLast, IsOfRecord}
use Rattle.psci_headline.proofs.Sending.{call_moves, CallerLaws, entry_moves, is_call}
use Rattle.psci_headline.proofs.Pursuing.{same_kind, waiting_other, waiting_taken}
use Rattle.psci_headline.proofs.Beside.{in_life_holds}
use Rattle.psci_headline.proofs.Telling.{own_name}
use Rattle.psci_headline.proofs.Words.{[], ◌++◌, ◌+◌, ◌<◌, ◌∙◌, ◌∷◌, ◌≡◌, ◌≤◌, ack_by, AckLaws}
use Rattle.psci_headline.proofs.Words.{Acknowledges, AckValue, Act, and_from, and_parts, ap}
use Rattle.psci_headline.proofs.Words.{AreClaims, AreOutstanding, ArePartsOf, AreSent, arith}
use Rattle.psci_headline.proofs.Words.{BoardValue, Bool, cases_eq, Cause, change, cond, confirms_on}
use Rattle.psci_headline.proofs.Words.{controller_values, cores, Effect, enter_effect, Enters}
use Rattle.psci_headline.proofs.Words.{eq-eqb, eqb-true, false, firmware_values}
use Rattle.psci_headline.proofs.Words.{get_or_from_slice_get, get_take, height, Holds, in_life, inl}
use Rattle.psci_headline.proofs.Words.{inr, is_applied, IsAllowed, IsEntering, IsLegalPast, IsNamed}
use Rattle.psci_headline.proofs.Words.{Kind, laid, le-leb, List, ltb-true, may_follow, MayFollow}
use Rattle.psci_headline.proofs.Words.{message_effect, MessageValue, nat_lt, nat_tests, None}
use Rattle.psci_headline.proofs.Words.{Option, Parks, Part, PartByPart, PathLaws, place, Place}
use Rattle.psci_headline.proofs.Words.{Record, refl, sent, slice_get, slot_of, Some, Start, Starts}
use Rattle.psci_headline.proofs.Words.{starts_below, StopsAtOnce, subst, suc, SumLaws, sym, take}
use Rattle.psci_headline.proofs.Words.{true, up, Values, WaitingIn, with_acknowledgement, zero, ℕ}
use Rattle.psci_headline.proofs.fw_laws.Following.{found_life}
use Rattle.psci_headline.proofs.fw_laws.Made.{once_down}
use Rattle.psci_headline.proofs.fw_laws.Histories.{live_laws}
use Rattle.psci_headline.proofs.fw_laws.Refusing.{known_le}
use Rattle.psci_board.proofs.Paths.{path_laws}
use Rattle.psci_board.specs.Board.{IsBoard}
use Rattle.psci_fw_laws.proofs.Words.{part-by-part}
use Rattle.psci_ctl_spec.proofs.Sums.{ack_laws, sum_laws}
use Rattle.psci_headline.proofs.Runs.{agreement, control_values, run_laws, sent_holds}
use Rattle.psci_ctl_spec.specs.Replies as controlling
use Rattle.psci_ctl_spec.specs.Values as controlled
use Rattle.psci_ctl_spec.specs.psci_messages.declared.kind.Kind.TheVariants as kinds
use Rattle.psci_ctl_spec.specs.psci_messages.declared.start.Cause.TheVariants as causes
use Rattle.psci_fw_laws.specs.psci_fw_spec.Effects as effects
use Rattle.psci_fw_laws.specs.psci_fw_spec.declared.outcome.Act.TheVariants as acts

-- Applied -----------------------------------------------------------------------------------------
-- What it means that an acknowledgement confirms a claim, and what parts that were applied say.

-- What confirms -------------------------------------------------------------------------------

-- What it means that an acknowledgement confirms the claim on a domain.
pub record Confirms (b : BoardValue) (v : Values) (a : AckValue) (level place : ℕ) : Type 0 where
  pub on : place ≡ up b level a.core.number
  pub some : 0 < v.granted level place
  pub kind : a.kind ≡ kinds.Down
  pub applied : level < a.applied
  pub message : MessageValue
  pub slot : v.outstanding (slot_of a.kind a.core) ≡ Some message
  pub part : Part
  pub at : slice_get message.parts level ≡ Some part
  pub made : part.generation ≡ known_below b v.known level place

pub confirming : (b : BoardValue) (v : Values) (a : AckValue) (level place : ℕ)
    → confirms_on b v a level place ≡ true → Confirms b v a level place
unfolding known_below
confirming b v a level place e = grind (arith, nat_tests, and_parts, eqb-true, ltb-true, same_kind)

-- Parts ---------------------------------------------------------------------------------------

-- the levels of parts count up
climbs : (low : ℕ) (ps : List Part) (k : ℕ) (p : Part) → is_climbing low ps ≡ true
    → slice_get ps k ≡ Some p → p.level ≡ low + k
climbs low [] k p e at = absurd (cc)
climbs low (q ∷ ps) zero p e at = grind (arith, nat_tests, and_parts, eqb-true)
climbs low (q ∷ ps) (suc k) p e at = grind (arith, nat_tests, and_parts, climbs (low + 1) ps k p)

pub levels : (k : Kind) (ps : List Part) (level : ℕ) (p : Part) → k ≡ kinds.Down → ArePartsOf k ps
    → slice_get ps level ≡ Some p → p.level ≡ level
levels k ps level p down are at = grind (arith, nat_tests, climbs)

-- a part that is applied is live
pub applied_live : (b : BoardValue) (v : controlled.Values) (c : ℕ) (ps : List Part) (level : ℕ)
    (p : Part) → level < applied b v c ps → slice_get ps level ≡ Some p → p.level ≡ level
    → p.generation ≡ starts_below b v.starts (record { level = level; place = up b level c })
unfolding applied
applied_live b v c ps level p few at same =
    let test : is_applied b v c ps p ≡ true =
    ap (is_applied b v c ps) (sym (get_or_from_slice_get ps level p p at))
    ∙ prefix_len_passes (is_applied b v c ps) ps level p few in
    eqb-true _ _ (and_parts (is_live b v c p) _ test).0
    ∙ ap (λ l. starts_below b v.starts (record { level = l; place = up b l c })) same

-- a part that was applied made its domain as deep as it says
pub laid_at : (b : BoardValue) (depth : ℕ → ℕ → ℕ) (c n level place : ℕ) (ps : List Part) (p : Part)
    → level ≤ height b → place ≡ up b level c → slice_get ps level ≡ Some p → level < n
    → laid b c (take n ps) depth level place ≡ p.depth
laid_at b depth c n level place ps p low on at few =
    grind (arith, nat_tests, and_from, le-leb, eq-eqb, get_take)

-- Carried -----------------------------------------------------------------------------------------

-- What waits in this life, where there is one.
abbrev pub WaitsNow : BoardValue → controlled.Values → Values → List MessageValue → List AckValue
    → Type 0
WaitsNow b w v sent made =
    (life : ℕ) → w.life ≡ Some life → WaitingIn b life w (in_life b life v) sent made

-- What is known of a board, of values and of messages, whatever happens next.
pub record IsGiven (b : BoardValue) (w : controlled.Values) (place : ℕ → Place) (v : Values)
    (sent : List MessageValue) : Type 0 where
  pub sums : SumLaws b
  pub parts : (ps : List Part) → AreClaims ps → PartByPart ps
  pub paths : PathLaws b
  pub acks : (u : controlled.Values) (c : ℕ) (ps : List Part) → AckLaws b u c ps
  pub callers : CallerLaws b
  pub agreed : AreAgreed b w place v
  pub holds : Holds b v sent
  pub lives : (life : ℕ) → w.life ≡ Some life → life ≤ b.lives

-- what a core finds that enters in this life is such as the firmware keeps
pub present_holds : (b : BoardValue) (w : controlled.Values) (place : ℕ → Place) (v : Values)
    (sent : List MessageValue) (life : ℕ) → IsGiven b w place v sent → w.life ≡ Some life
    → Holds b (in_life b life v) sent
present_holds b w place v sent life given e =
    in_life_holds b v sent life (given.agreed.begun life e) (given.lives life e) given.holds

pub present_known : (b : BoardValue) (w : controlled.Values) (place : ℕ → Place) (v : Values)
    (sent : List MessageValue) (life : ℕ) → IsGiven b w place v sent → w.life ≡ Some life
    → IsKnown b life w.starts (in_life b life v) sent
present_known b w place v sent life given e =
    let found : Values = in_life b life v in
    let holds : Holds b found sent = present_holds b w place v sent life given e in
    let le = (given.agreed.present life e).known in
    let own : found.life ≡ life = found_life b v life in
    record {
      sums = given.sums;
      parts = given.parts;
      own = own;
      messages = subst (λ l. AreSent b l found.halting found.known found.phase sent) own
          holds.messages;
      apart = holds.apart;
      live = grind (arith, nat_tests, live_laws);
      le = le;
      below = λ level place_now. grind (arith, nat_tests, known_le);
    }

-- The power controller -------------------------------------------------------------------------

-- a core is started
pub started_waits : (b : BoardValue) (w : controlled.Values) (place : ℕ → Place) (v : Values)
    (sent : List MessageValue) (made : List AckValue) (c : ℕ) (cause : Cause)
    → IsGiven b w place v sent → c < cores b → WaitsNow b w v sent made
    → WaitsNow b (controlling.change b (Starts c cause) w) v sent made
started_waits b w place v sent made c cause given on h life e =
    start_waits b life w (in_life b life v) sent made c cause on
    (present_known b w place v sent life given e) (h life e)

-- a message is acknowledged, by its kind
acked_kind : (b : BoardValue) (w : controlled.Values) (place : ℕ → Place) (v : Values)
    (sent : List MessageValue) (made : List AckValue) (k : ℕ) (m : MessageValue) (kind : Kind)
    → IsGiven b w place v sent → slice_get sent k ≡ Some m → w.life ≡ Some m.life
    → m.kind ≡ kind → let a = ack_by b w m kind in
    MayFollow b w (message_effect b m a kind) → WaitsNow b w v sent made
    → WaitsNow b (controlling.change b (message_effect b m a kind) w) v sent (a ∷ made)
acked_kind b w place v sent made k m kinds.Down given at own is may h = λ life e.
    let present : m.life ≡ life = cc in
    down_waits b life w (in_life b life v) sent made k m
    (present_known b w place v sent life given e) at present is (given.acks w m.core.number m.parts)
    may.0 (h life e)
acked_kind b w place v sent made k m kinds.Start given at own is may h = by_test
  where
    t : Bool
    t = may_follow b w m.core.number m.number

    effect : controlling.Effect
    effect = message_effect b m (ack_by b w m kinds.Start) kinds.Start

    same_life : (s : Bool) → (controlling.change b (cond s Nothing
        (Starts m.core.number causes.On)) w).life ≡ w.life
    same_life s = grind (arith, nat_tests)

    by_test : WaitsNow b (controlling.change b effect w) v sent (ack_by b w m kinds.Start ∷ made)
    by_test life e =
        let now : w.life ≡ Some life = sym (same_life _) ∙ e in
        let present : m.life ≡ life = cc in
        start_told b life w (in_life b life v) sent made k m t
        (present_known b w place v sent life given now) at present is refl (h life now)
acked_kind b w place v sent made k m kinds.Off given at own is may h = λ life e. absurd (cc)
acked_kind b w place v sent made k m kinds.Reset given at own is may h =
    by_test (nat_lt m.life b.lives)
  where
    by_test : (t : Bool)
        → WaitsNow b (controlling.change b (cond t Begins Ends) w) v sent
        (ack_by b w m kinds.Reset ∷ made)
    by_test false = λ life e. absurd (cc)
    by_test true = λ life e.
        let next : m.life + 1 ≡ life = grind (arith, nat_tests) in
        let low = given.agreed.begun m.life own in
        let other : life ≡ v.life → ⊥ = λ s. omega (arith, next, low, s) in
        subst (λ u. WaitingIn b life (controlling.change b Begins w) u sent
        (ack_by b w m kinds.Reset ∷ made))
        (sym (found_other b life v other))
        (begun_waits b life v.life v.halting v.known v.phase sent
        (ack_by b w m kinds.Reset ∷ made) given.holds.messages (omega (arith, next, low)) names)
      where
        names : (i : ℕ) (x : AckValue)
            → slice_get (ack_by b w m kinds.Reset ∷ made) i ≡ Some x → IsNamed x sent
        names zero x e =
            let same : ack_by b w m kinds.Reset ≡ x = cc in
            subst (λ y. IsNamed y sent) same
            (record { index = k; message = m; at = at; answers = own_name m 1 false })
        names (suc i) x e = (h m.life own).named i x e

-- a message is acknowledged
pub acked_waits : (b : BoardValue) (w : controlled.Values) (place : ℕ → Place) (v : Values)
    (sent : List MessageValue) (made : List AckValue) (k : ℕ) (m : MessageValue) (a : AckValue)
    → IsGiven b w place v sent → slice_get sent k ≡ Some m → w.life ≡ Some m.life
    → a ≡ ack_by b w m m.kind → MayFollow b w (message_effect b m a m.kind)
    → WaitsNow b w v sent made
    → WaitsNow b (controlling.change b (message_effect b m a m.kind) w) v sent (a ∷ made)
acked_waits b w place v sent made k m a given at own is may h = grind (arith, nat_tests, acked_kind)

-- The firmware ---------------------------------------------------------------------------------

module _ (b : BoardValue) (w : controlled.Values) (place : ℕ → Place) (v : Values)
    (sent : List MessageValue) (made : List AckValue) (given : IsGiven b w place v sent)
    (h : WaitsNow b w v sent made) where
  -- a core calls in the power controller's life
  called_own : (e : Effect) (life : ℕ) → w.life ≡ Some life → life ≡ v.life → is_call e ≡ true
      → IsAllowed b v e
      → WaitingIn b life w (in_life b life (change b e v))
      (effects.listed (effects.sent e) ++ sent) made
  called_own e life f own is allowed =
      grind (arith, nat_tests, call_moves, found_own, present_known, call_waits)

  -- and in another one
  called_other : (e : Effect) (life : ℕ) → w.life ≡ Some life → (life ≡ v.life → ⊥)
      → is_call e ≡ true → IsAllowed b v e
      → WaitingIn b life w (in_life b life (change b e v))
      (effects.listed (effects.sent e) ++ sent) made
  called_other e life f other is allowed =
      grind (arith, nat_tests, call_moves, found_other, waiting_other)

  -- a core enters
  entering_waits : (c : ℕ) (s : Start) (act : Act) (o : Option MessageValue) → IsEntering b v c s
      → IsLast w c s → IsAllowed b v (enter_effect c s act o)
      → WaitsNow b w (change b (enter_effect c s act o) v)
      (effects.listed (effects.sent (enter_effect c s act o)) ++ sent) made
  entering_waits c s act o enters last allowed life f =
      grind (
        arith,
        nat_tests,
        entry_moves,
        found_life,
        present_known,
        found_own,
        entry_waits,
        cases_eq,
        found_other,
      )

  -- an acknowledgement is taken
  taking_waits : (a : AckValue) (i : ℕ) → slice_get made i ≡ Some a
      → WaitsNow b w (with_acknowledgement b a v) sent made
  taking_waits a i at life f = elim (cases_eq life v.life) [
    | inl own ↦
        let now : WaitingIn b life w v sent made =
        subst (λ u. WaitingIn b life w u sent made) (found_own b life v own) (h life f) in
        let slots = subst (λ l. AreOutstanding l v.known v.phase sent v.outstanding) (sym own)
        given.holds.slots in
        subst (λ u. WaitingIn b life w u sent made)
        (sym (found_own b life (with_acknowledgement b a v) own))
        (waiting_taken a i at (once_down b v sent given.holds) slots now)
    | inr other ↦ grind (arith, nat_tests, found_other)
  ]

  pub effect_waits : (e : Effect) → IsAllowed b v e → IsOfRecord w made e
      → WaitsNow b w (change b e v) (effects.listed (effects.sent e) ++ sent) made
  effect_waits effects.Nothing allowed of = h
  effect_waits (Enters c s) allowed of =
      entering_waits c s acts.Resume None allowed.enters
      (of.starts (record { core = c; start = s }) refl) allowed
  effect_waits (Parks c s m) allowed of =
      entering_waits c s acts.Stop (Some m) allowed.enters
      (of.starts (record { core = c; start = s }) refl) allowed
  effect_waits (StopsAtOnce c s) allowed of =
      entering_waits c s acts.Stop None allowed.enters
      (of.starts (record { core = c; start = s }) refl) allowed
  effect_waits (Acknowledges a) allowed of =
      let at = of.takes a refl in taking_waits a at.index at.at
  effect_waits e allowed of = λ life f. elim (cases_eq life v.life) [
    | inl own ↦ called_own e life f own refl allowed
    | inr other ↦ called_other e life f other refl allowed
  ]

-- What the laws of the crates below say of a board, and so of every legal run on it ---------------

-- what is known after a run, whatever happens next
abbrev pub Given : BoardValue → List Record → Type 0
Given b past =
    IsGiven b (controller_values b past) (place b past) (firmware_values b past) (sent past)

pub is_given : (b : BoardValue) (past : List Record) → IsBoard b → IsLegalPast b past → Given b past
is_given b past board is = record {
  sums = sum_laws b;
  parts = part-by-part;
  paths = path_laws b board;
  acks = ack_laws b;
  callers = (run_laws b board).callers;
  agreed = record {
    begun = (agreement b past board is).begun;
    stopped = (agreement b past board is).stopped;
    present = (agreement b past board is).present;
  };
  holds = sent_holds b past board is;
  lives = (control_values b past board is).last;
}
