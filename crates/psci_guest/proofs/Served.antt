-- What is so once the message that was just sent was served.
use Rattle.psci_ctl_spec.specs.Replies as controlling
use Rattle.psci_ctl_spec.specs.Replies.{Effect}
use Rattle.psci_ctl_spec.specs.Values as controlled
use Rattle.psci_ctl_spec.specs.psci_messages.declared.kind.Kind.TheVariants as kinds
use Rattle.psci_ctl_spec.specs.psci_messages.declared.taken.Taken.TheVariants.{Used}
use Rattle.psci_headline.specs.psci_fw_laws.Messages.{AreOutstanding}
use Rattle.psci_headline.specs.psci_fw_spec.Values.{taken_by}
use Rattle.psci_headline.proofs.Controls.{found_other, found_own}
use Rattle.psci_headline.proofs.Beginning.{HasEntered, HasNoStart, IsUnderWay}
use Rattle.psci_headline.proofs.Serving.{ack_to, answered_so, AreAnswered, empties, HasNumber}
use Rattle.psci_headline.proofs.Serving.{IsEmptying, named_answers, none_added}
use Rattle.psci_headline.proofs.Downs.{down_answered, IsDownAnswered}
use Rattle.psci_headline.proofs.Starts.{goes_on, IsGoing, IsOut, known_now, out_now}
use Rattle.psci_headline.proofs.Nexts.{acks_message, SettleLaws}
use Rattle.psci_headline.proofs.Rounds.{deep_or_out, DeepAt, out_at}
use Rattle.psci_headline.proofs.Pursuing.{HasName}
use Rattle.psci_headline.proofs.Words.{◌+◌, ◌<◌, ◌∙◌, ◌∷◌, ◌≡◌, ◌⊎◌, AckValue, answers, ap}
use Rattle.psci_headline.proofs.Words.{arith, BoardValue, cases_eq, cond-false, cond-true}
use Rattle.psci_headline.proofs.Words.{controller_values, cores, Down, false, firmware_values}
use Rattle.psci_headline.proofs.Words.{height, in_life, inl, inr, is_done, is_system}
use Rattle.psci_headline.proofs.Words.{IsLegalPast, Kind, length, List, message_effect}
use Rattle.psci_headline.proofs.Words.{MessageValue, nat_tests, ne_eqb, None, none-some, OfCore}
use Rattle.psci_headline.proofs.Words.{OfSystem, Option, or_left, or_right, Place, place}
use Rattle.psci_headline.proofs.Words.{place_of_effect, Record, refl, same_Some, sent, serving}
use Rattle.psci_headline.proofs.Words.{slice_get_within, slot_of, Some, start_of_life, Started}
use Rattle.psci_headline.proofs.Words.{Stopped, subst, sym, true, unwrap_or, Values, ℕ}
use Rattle.psci_guest.proofs.Numbers.{newest}

-- Landing -----------------------------------------------------------------------------------------
-- What is so between the exchanges of a turn: in a life nothing is outstanding, and at most one
-- core is at its start.

-- What is so in a life.
pub record IsComing (b : BoardValue) (past : List Record) (life : ℕ) : Type 0 where
  pub present : (controller_values b past).life ≡ Some life
  pub awake : (in_life b life (firmware_values b past)).halting ≡ false
  pub none : (x : ℕ) → x < cores b
      → (in_life b life (firmware_values b past)).outstanding (OfCore x) ≡ None

-- every core but this one has entered
abbrev pub AreIn : BoardValue → ℕ → List Record → Type 0
AreIn b one past = (x : ℕ) → x < cores b → (x ≡ one → ⊥) → HasEntered b x past

-- every core has
abbrev pub AllEntered : BoardValue → List Record → Type 0
AllEntered b past = (x : ℕ) → x < cores b → HasEntered b x past

-- What is so after an exchange that leaves no core at its start.
pub record AreHome (b : BoardValue) (past : List Record) (life : ℕ) : Type 0 where
  pub legal : IsLegalPast b past
  pub coming : IsComing b past life
  pub entered : AllEntered b past

-- only this core may be at its start, or none
abbrev pub AtMost : BoardValue → Option ℕ → List Record → Type 0
AtMost b None past = AllEntered b past
AtMost b (Some one) past = AreIn b one past

pub any_most : (b : BoardValue) (o : Option ℕ) (past : List Record) → AllEntered b past
    → AtMost b o past
any_most b None past is = is
any_most b (Some one) past is = λ x on ne. is x on

pub one_most : (b : BoardValue) (o : Option ℕ) (past : List Record) → AtMost b o past
    → AreIn b (unwrap_or o 0) past
one_most b None past is = λ x on ne. is x on
one_most b (Some one) past is = is

-- What is so after any.
pub record HasLanded (b : BoardValue) (o : Option ℕ) (past : List Record) : Type 0 where
  pub legal : IsLegalPast b past
  pub coming : (life : ℕ) → (controller_values b past).life ≡ Some life → IsComing b past life
  pub others : AtMost b o past

-- the settling of a life begins here
pub under_way : (b : BoardValue) (past : List Record) (life : ℕ) → IsLegalPast b past
    → (controller_values b past).life ≡ Some life
    → (in_life b life (firmware_values b past)).halting ≡ false → IsUnderWay b past life past
under_way b past life legal present awake = record {
  legal = legal;
  added = none_added past;
  present = present;
  awake = awake;
  count = λ j. inl refl;
}

-- where every core has entered, and no Start is outstanding, it goes on
pub lands : (b : BoardValue) (past : List Record) (life : ℕ) → SettleLaws b → IsLegalPast b past
    → (controller_values b past).life ≡ Some life
    → (in_life b life (firmware_values b past)).halting ≡ false → AllEntered b past
    → ((c : ℕ) → c < cores b → HasNoStart b c past) → IsGoing b past life past
lands b past life laws legal present awake entered starts =
    goes_on b past life past laws (record {
      way = under_way b past life legal present awake;
      entered = entered;
      started = starts;
    })

-- Served ------------------------------------------------------------------------------------------

-- What is so where a message was just sent: nothing else is outstanding.
pub record IsSent (b : BoardValue) (life : ℕ) (past rest : List Record) (m : MessageValue) : Type 0
  where
    pub legal : IsLegalPast b past
    pub present : (controller_values b past).life ≡ Some life
    pub own : (firmware_values b past).life ≡ life
    pub entered : AllEntered b past
    pub sends : sent past ≡ m ∷ sent rest
    pub only : (x : ℕ) (y : MessageValue) → x < cores b → out_at b x past ≡ Some y → m ≡ y
    pub at : (firmware_values b past).outstanding (slot_of m.kind m.core) ≡ Some m

-- the records once it is served
abbrev pub served_one : BoardValue → List Record → List Record → List Record
served_one b past rest = serving b past (Some (length (sent rest)))

module _ (b : BoardValue) (life : ℕ) (past rest : List Record) (m : MessageValue)
    (laws : SettleLaws b) (is : IsSent b life past rest m) where
  abbrev v : Values
  v = firmware_values b past

  abbrev w : controlled.Values
  w = controller_values b past

  abbrev next : List Record
  next = served_one b past rest

  slots : AreOutstanding v.life v.known v.phase (sent past) v.outstanding
  slots = (laws.past past is.legal).given.holds.slots

  abbrev number : HasNumber m (sent past)
  number = newest m (sent past) (sent rest) is.sends

  none_other : (x : ℕ) → x < cores b → (x ≡ m.core.number → ⊥) → (o : Option MessageValue)
      → out_at b x past ≡ o → o ≡ None
  none_other x on ne None e = refl
  none_other x on ne (Some y) e =
      let same = is.only x y on e in
      absurd (ne (sym (slots.core x y e).core
      ∙ ap (λ (n : MessageValue). n.core.number) (sym same)))

  -- A Down ----------------------------------------------------------------------------------------

  module _ (kind : m.kind ≡ Down) (awake : (in_life b life v).halting ≡ false) where
    no_starts : (c : ℕ) → c < cores b → (y : MessageValue) → out_at b c past ≡ Some y
        → y.kind ≡ kinds.Start → ⊥
    no_starts c on y e start =
        let no : kinds.Down ≡ kinds.Start =
        sym kind ∙ ap (λ (n : MessageValue). n.kind) (is.only c y on e) ∙ start in absurd (cc)

    going : IsGoing b past life past
    going = lands b past life laws is.legal is.present awake is.entered no_starts

    abbrev c : ℕ
    c = m.core.number

    at : out_at b c past ≡ Some m
    at = ap (λ k. v.outstanding (slot_of k m.core)) (sym kind) ∙ is.at

    on : c < cores b
    on = (out_now b past life past c m laws going at).down.core

    deep : (x : ℕ) → (x ≡ c → ⊥) → DeepAt b life (height b) x past
    deep x ne k level n p at_k present down core part live low =
        elim (deep_or_out b past life past x k level n p laws going at_k present down core part
        live) [
          | inl now ↦ now
          | inr out ↦
              let sound = ((known_now b past life past laws going).messages k n at_k).sound in
              let inside : x < cores b = subst (λ i. i < cores b) core sound.core in
              absurd (none-some n (sym (none_other x inside ne (out_at b x past) refl) ∙ out))
        ]

    out : IsOut b life past c m
    out = out_now b past life past c m laws going at

    answered : IsDownAnswered b past life past (height b) c (length (sent rest)) m
    answered = down_answered b past life past (height b) c m laws going deep out number at

    none_here : (o : Option MessageValue) → out_at b c next ≡ o → o ≡ None
    none_here None e = refl
    none_here (Some y) e =
        let left = (answered.left y e).1 in
        let within = slice_get_within m.parts left.level left.part left.at in
        absurd (omega (arith, within, left.high, out.down.few))

    none_now : (x : ℕ) → x < cores b → out_at b x next ≡ None
    none_now x inside = elim (cases_eq x c) [
      | inl same ↦ subst (λ i. out_at b i next ≡ None) (sym same) (none_here (out_at b c next) refl)
      | inr ne ↦ answered.there x ne ∙ none_other x inside ne (out_at b x past) refl
    ]

    pub down_landed : AreHome b next life
    down_landed =
        let same : in_life b life (firmware_values b next) ≡ firmware_values b next =
        found_own b life (firmware_values b next) (sym answered.going.own) in
        record {
          legal = answered.going.legal;
          coming = record {
            present = answered.going.present;
            awake = ap (λ (u : Values). u.halting) same ∙ answered.going.awake;
            none = λ x inside.
                ap (λ (u : Values). u.outstanding (OfCore x)) same ∙ none_now x inside;
          };
          entered = answered.going.entered;
        }

  -- A Start ---------------------------------------------------------------------------------------

  module _ (kind : m.kind ≡ kinds.Start) (awake : v.halting ≡ false) where
    abbrev t : ℕ
    t = m.core.number

    at_start : out_at b t past ≡ Some m
    at_start = ap (λ k. v.outstanding (slot_of k m.core)) (sym kind) ∙ is.at

    em : IsEmptying b past t (length (sent rest)) m m
    em = empties b past t m laws.runs is.legal number
        (is.present ∙ ap (λ l. Some l) (sym ((slots.core t m at_start).listed.present ∙ is.own)))
        at_start
        refl (slots.core t m at_start).kind

    start_done : (a : AckValue) → a.kind ≡ kinds.Start → is_done a m ≡ true
    start_done a e = grind (arith, nat_tests, or_right, or_left)

    start_life : (a : AckValue) (k : Kind) → k ≡ kinds.Start
        → (controlling.change b (message_effect b m a k) w).life ≡ w.life
    start_life a k e = grind (arith, nat_tests)

    start_place : (a : AckValue) (k : Kind) (x : ℕ) (p : Place) → k ≡ kinds.Start
        → (x ≡ t → ⊥) → unwrap_or (place_of_effect x (message_effect b m a k)) p ≡ p
    start_place a k x p e ne = grind (arith, nat_tests, cond-false, ne_eqb)

    none_started : (x : ℕ) → x < cores b → out_at b x next ≡ None
    none_started x inside = elim (cases_eq x t) [
      | inl same ↦
          subst (λ i. out_at b i next ≡ None) (sym same)
          (em.here ∙ cond-true (is_done (ack_to b past m) m) None (Some m)
          (start_done (ack_to b past m) (em.kind ∙ kind)))
      | inr ne ↦ em.there x ne ∙ none_other x inside ne (out_at b x past) refl
    ]

    pub start_landed : HasLanded b (Some t) next
    start_landed =
        let after : Values = firmware_values b next in
        let stays : (controller_values b next).life ≡ Some life =
        ap (λ (u : controlled.Values). u.life) em.answered.control
        ∙ start_life (ack_to b past m) m.kind kind ∙ is.present in
        let own : after.life ≡ life = ap (λ (u : Values). u.life) em.answered.firmware ∙ is.own in
        let same : in_life b life after ≡ after = found_own b life after (sym own) in
        record {
          legal = em.answered.legal;
          coming = λ l present.
              let equal : life ≡ l = same_Some life l (sym stays ∙ present) in
              subst (IsComing b next) equal
              (record {
                present = stays;
                awake = ap (λ (u : Values). u.halting) same
                    ∙ ap (λ (u : Values). u.halting) em.answered.firmware ∙ awake;
                none = λ x inside.
                    ap (λ (u : Values). u.outstanding (OfCore x)) same
                    ∙ none_started x inside;
              });
          others = λ x inside ne e.
              is.entered x inside
              (sym (start_place (ack_to b past m) m.kind x (place b past x) kind ne)
              ∙ sym (em.answered.place x) ∙ e);
        }

  -- An Off or a Reset -----------------------------------------------------------------------------

  module _ (system : is_system m.kind ≡ true) where
    -- what becomes of the life, and of the cores
    record IsOver (e : Effect) : Type 0 where
      pub over : (controlling.change b e w).life ≡ None
          ⊎ ((controlling.change b e w).life ≡ Some (life + 1))
      pub places : (x : ℕ) (p : Place) → (x ≡ 0 → ⊥)
          → unwrap_or (place_of_effect x e) p ≡ Stopped

    ends : (a : AckValue) (k : Kind) → is_system k ≡ true → IsOver (message_effect b m a k)
    ends a k e = grind (arith, nat_tests, cond-false, ne_eqb, is)

    system_slot : (k : Kind) → is_system k ≡ true → slot_of k m.core ≡ OfSystem
    system_slot k e = grind (arith, nat_tests)

    at_system : v.outstanding OfSystem ≡ Some m
    at_system = ap v.outstanding (sym (system_slot m.kind system)) ∙ is.at

    used : taken_by v (ack_to b past m) ≡ Used
    used =
        let name : HasName (ack_to b past m) m = acks_message b w m m.kind in
        let mine : answers (ack_to b past m) m ≡ true =
        named_answers (ack_to b past m) m m name number.name in
        grind (arith, nat_tests, cond-true)

    done : AreAnswered b past (length (sent rest)) m
    done = answered_so b past (length (sent rest)) m laws.runs is.legal number.at
        (is.present ∙ ap (λ l. Some l) (sym ((slots.system m at_system).present ∙ is.own))) used

    over : IsOver (message_effect b m (ack_to b past m) m.kind)
    over = ends (ack_to b past m) m.kind system

    life_now : (controller_values b next).life
        ≡ (controlling.change b (message_effect b m (ack_to b past m) m.kind) w).life
    life_now = ap (λ (u : controlled.Values). u.life) done.control

    -- a life that follows begins anew
    begins : (l : ℕ) → (controller_values b next).life ≡ Some l → l ≡ life + 1
    begins l present = elim over.over [
      | inl none ↦ absurd (none-some l (sym none ∙ sym life_now ∙ present))
      | inr some ↦ same_Some l (life + 1) (sym present ∙ life_now ∙ some)
    ]

    fresh : (l : ℕ) → (controller_values b next).life ≡ Some l
        → in_life b l (firmware_values b next) ≡ start_of_life b l
    fresh l present =
        found_other b l (firmware_values b next) (λ e.
        let own : (firmware_values b next).life ≡ life =
        ap (λ (u : Values). u.life) done.firmware ∙ is.own in
        let more = begins l present in
        omega (arith, e, own, more))

    pub system_landed : HasLanded b (Some 0) next
    system_landed = record {
      legal = done.legal;
      coming = λ l present. record {
        present = present;
        awake = ap (λ (u : Values). u.halting) (fresh l present);
        none = λ x inside. ap (λ (u : Values). u.outstanding (OfCore x)) (fresh l present);
      };
      others = λ x inside ne e.
          let no : Stopped ≡ Started =
          sym (over.places x (place b past x) ne) ∙ sym (done.place x) ∙ e in absurd (cc);
    }
