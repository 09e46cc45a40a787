-- What waits, after each effect of the power controller.
use Rattle.std.proofs.lemmas.Bool.{and_cases, ltb-false}
use Rattle.psci_ctl_spec.specs.Replies.{change, Effect, Nothing}
use Rattle.psci_ctl_spec.specs.Values as controlled
use Rattle.psci_ctl_spec.specs.psci_messages.declared.kind.Kind.TheVariants as kinds
use Rattle.psci_ctl_spec.specs.psci_messages.declared.start.Cause.TheVariants as causes
use Rattle.psci_world_spec.specs.Legal.{first_place}
use Rattle.psci_headline.specs.psci_fw_laws.Messages.{IsSent}
use Rattle.psci_headline.proofs.Pursuing.{named, same_sum, waiting_started}
use Rattle.psci_headline.proofs.Telling.{told_down, told_other}
use Rattle.psci_headline.proofs.Words.{◌+◌, ◌<◌, ◌==◌, ◌∙◌, ◌∷◌, ◌≡◌, ◌≤◌, ack_of, AckLaws}
use Rattle.psci_headline.proofs.Words.{AckValue, AgreeIn, and_parts, ap, applied, AreClaims}
use Rattle.psci_headline.proofs.Words.{AreLive, ArePartsOf, AreRising, AreSent, AreWaiting}
use Rattle.psci_headline.proofs.Words.{arith, Away, BoardValue, Bool, Cause, cond, cond-false}
use Rattle.psci_headline.proofs.Words.{cond-true, cores, Deepens, Down, eq-eqb, eqb-false}
use Rattle.psci_headline.proofs.Words.{eqb-true, false, first_starts, height, in_life, inl, inr}
use Rattle.psci_headline.proofs.Words.{is_on_path, is_stale, IsFront, IsLivePart, IsNamed}
use Rattle.psci_headline.proofs.Words.{IsTold, Kind, known_below, laid, List, may_follow}
use Rattle.psci_headline.proofs.Words.{MayFollow, MessageValue, nat_lt, nat_tests, ne_eqb, None}
use Rattle.psci_headline.proofs.Words.{none-some, one_more, Option, Part, PartByPart, Pending}
use Rattle.psci_headline.proofs.Words.{Phase, Place, place_of_effect, refl, same_Some, slice_get}
use Rattle.psci_headline.proofs.Words.{slice_get_within, Slot, Some, start_of_life, Starts}
use Rattle.psci_headline.proofs.Words.{Stopped, SumLaws, sym, take, take_get, true, unwrap_or}
use Rattle.psci_headline.proofs.Words.{up, Values, WaitingIn, ℕ}
use Rattle.psci_headline.proofs.fw_laws.Made.{once}
use Rattle.psci_headline.proofs.fw_laws.Claiming.{part_from}

-- Agreeing ----------------------------------------------------------------------------------------
-- What firmware and power controller know of each other, as a life begins, and as the controller
-- goes on.

-- What both know of each other, said of their values and of the places.
pub record AreAgreed (b : BoardValue) (w : controlled.Values) (place : ℕ → Place) (v : Values)
    : Type 0 where
  pub begun : (life : ℕ) → w.life ≡ Some life → v.life ≤ life
  pub stopped : w.life ≡ None → (c : ℕ) → place c ≡ Stopped
  pub present : (life : ℕ) → w.life ≡ Some life → AgreeIn b w.starts place (in_life b life v)

-- The start of a life --------------------------------------------------------------------------

pub at_start : (b : BoardValue) (life : ℕ)
    → AgreeIn b first_starts first_place (start_of_life b life)
at_start b life = grind (arith, nat_tests)

-- what a core finds in the firmware's own life, and in another one
pub found_own : (b : BoardValue) (life : ℕ) (v : Values) → life ≡ v.life → in_life b life v ≡ v
found_own b life v e = grind (arith, nat_tests, cond-true, eq-eqb)

pub found_other : (b : BoardValue) (life : ℕ) (v : Values) → (life ≡ v.life → ⊥)
    → in_life b life v ≡ start_of_life b life
found_other b life v ne = grind (arith, nat_tests, cond-false, ne_eqb)

-- The power controller -------------------------------------------------------------------------

-- the power controller's effect
pub control_agrees : (b : BoardValue) (w : controlled.Values) (place : ℕ → Place) (v : Values)
    (e : Effect) → MayFollow b w e → AreAgreed b w place v
    → AreAgreed b (change b e w) (λ x. unwrap_or (place_of_effect x e) (place x)) v
control_agrees b w place v e may h = grind (arith, nat_tests)

-- What waits, after parts of a Down were applied --------------------------------------------------

-- Parts of a Down that are applied: the Down is among those that were sent in this life, and each
-- part is live.
pub record AreApplied (b : BoardValue) (life : ℕ) (starts : ℕ → ℕ) (sent : List MessageValue)
    (c : ℕ) (ps : List Part) : Type 0 where
  pub index : ℕ
  pub message : MessageValue
  pub at : slice_get sent index ≡ Some message
  pub present : message.life ≡ life
  pub kind : message.kind ≡ Down
  pub core : message.core.number ≡ c
  pub part : (level : ℕ) (p : Part) → slice_get ps level ≡ Some p
      → slice_get message.parts level ≡ Some p
  pub live : (level : ℕ) (p : Part) → slice_get ps level ≡ Some p
      → IsLivePart b starts message level p

-- what is laid on a domain is this part, or nothing
pub laid_by : (b : BoardValue) (c : ℕ) (ps : List Part) (depth : ℕ → ℕ → ℕ) (level place d : ℕ)
    → depth level place ≡ d
    → ((p : Part) → is_on_path b c level place ≡ true → slice_get ps level ≡ Some p → p.depth ≡ d)
    → laid b c ps depth level place ≡ d
laid_by b c ps depth level place d same here = grind (arith, nat_tests)

pub path_place : (b : BoardValue) (c level place : ℕ) → is_on_path b c level place ≡ true
    → place ≡ up b level c
path_place b c level place e = grind (arith, nat_tests, and_parts, eqb-true)

-- a live part that is deep stays so: what is applied on its domain is that part
pub keeps : (b : BoardValue) (life : ℕ) (starts : ℕ → ℕ) (depth : ℕ → ℕ → ℕ)
    (sent : List MessageValue) (c : ℕ) (ps : List Part) → AreRising b sent
    → AreApplied b life starts sent c ps → (k level : ℕ) (m : MessageValue) (p : Part)
    → slice_get sent k ≡ Some m → m.life ≡ life → m.kind ≡ Down
    → slice_get m.parts level ≡ Some p → IsLivePart b starts m level p
    → depth level (up b level m.core.number) ≡ p.depth
    → laid b c ps depth level (up b level m.core.number) ≡ p.depth
keeps b life starts depth sent c ps apart are k level m p at present kind part live deep =
    laid_by b c ps depth level place p.depth deep (λ q on get.
    let n : MessageValue = are.message in
    let here : place ≡ up b level n.core.number = grind (arith, nat_tests, path_place, place) in
    let sum : q.generation ≡ p.generation = grind (arith, nat_tests) in
    let one : are.index ≡ k = once b sent apart life level place are.index k n m q p are.at at
    (part_from b life level place n q (record {
      kind = are.kind;
      present = are.present;
      on = here;
      part = are.part level q get;
    }))
    (part_from b life level place m p
    (record { kind = kind; present = present; on = refl; part = part })) sum in
    let same : n ≡ m = same_Some n m (sym are.at ∙ ap (slice_get sent) one ∙ at) in
    let equal : q ≡ p = same_Some q p
    (sym (are.part level q get) ∙ ap (λ (y : MessageValue). slice_get y.parts level) same ∙ part)
    in ap (λ (y : Part). y.depth) equal)
  where
    place : ℕ
    place = up b level m.core.number

-- parts were applied
pub waiting_deepened : (b : BoardValue) (life : ℕ) (starts : ℕ → ℕ) (depth : ℕ → ℕ → ℕ)
    (halting : Bool) (known : ℕ → ℕ) (phase : ℕ → Phase)
    (outstanding : Slot → Option MessageValue) (sent : List MessageValue) (made : List AckValue)
    (c : ℕ) (ps : List Part) → AreRising b sent → AreApplied b life starts sent c ps
    → AreWaiting b life starts depth halting known phase outstanding sent made
    → AreWaiting b life starts (laid b c ps depth) halting known phase outstanding sent made
waiting_deepened b life starts depth halting known phase outstanding sent made c ps apart applied
    are =
    record {
      pursued = λ k m at present kind level p part live.
          elim (are.pursued k m at present kind level p part live) [
            | inl deep ↦
                inl (keeps b life starts depth sent c ps apart applied k level m p at present kind
                part live deep)
            | inr other ↦ inr other
          ];
      first = λ n on none.
          laid_by b c ps depth n.level n.place _ (are.first n on none) (λ p here get.
          let m : MessageValue = applied.message in
          let place : n.place ≡ up b n.level m.core.number = grind (arith, nat_tests, path_place) in
          let some = apart.start life n.level n.place applied.index m p applied.at
          (part_from b life n.level n.place m p (record {
            kind = applied.kind;
            present = applied.present;
            on = place;
            part = applied.part n.level p get;
          })) in
          let sum : p.generation ≡ known_below b starts n.level n.place =
          applied.live n.level p get ∙ ap (known_below b starts n.level) (sym place) in
          absurd (omega (arith, some, sum, none, same_sum b starts n)));
      asked = are.asked;
      named = are.named;
      told = λ k a at present.
          let t = are.told k a at present in
          let m : MessageValue = t.message in
          let life_m : m.life ≡ life = sym (named a m t.told.answers).life ∙ present in
          record {
            index = t.index;
            message = m;
            at = t.at;
            told = record {
              answers = t.told.answers;
              few = t.told.few;
              applied = λ kind level p low part live.
                  keeps b life starts depth sent c ps apart applied t.index level m p t.at life_m
                  kind part live (t.told.applied kind level p low part live);
              stale = t.told.stale;
              started = t.told.started;
            };
          };
    }

-- Controls ----------------------------------------------------------------------------------------

-- What is known of the firmware's values in the life, and of its messages.
pub record IsKnown (b : BoardValue) (life : ℕ) (starts : ℕ → ℕ) (v : Values)
    (sent : List MessageValue) : Type 0 where
  pub sums : SumLaws b
  pub parts : (ps : List Part) → AreClaims ps → PartByPart ps
  pub own : v.life ≡ life
  pub messages : AreSent b life v.halting v.known v.phase sent
  pub apart : AreRising b sent
  pub live : AreLive b life v.known v.phase sent starts
  pub le : (c : ℕ) → v.known c ≤ starts c
  -- sums of known starts are no larger than sums of starts
  pub below : (level place : ℕ)
      → known_below b v.known level place ≤ known_below b starts level place

kind_level : (ps : List Part) (level : ℕ) (p : Part) (kind : Kind)
    → ((qs : List Part) → AreClaims qs → PartByPart qs) → ArePartsOf kind ps
    → slice_get ps level ≡ Some p → p.level ≡ level
kind_level ps level p kind parts are at = grind (arith, nat_tests, none-some)

-- the parts of a message that was sent
pub part_level : (b : BoardValue) (life : ℕ) (starts : ℕ → ℕ) (v : Values)
    (sent : List MessageValue) → IsKnown b life starts v sent → (k level : ℕ) (m : MessageValue)
    (p : Part) → slice_get sent k ≡ Some m → slice_get m.parts level ≡ Some p
    → (p.level ≡ level) × (level ≤ height b)
part_level b life starts v sent known k level m p at part =
    let sound = (known.messages k m at).sound in
    grind (arith, nat_tests, slice_get_within, kind_level)

-- A core is started ----------------------------------------------------------------------------

pub start_waits : (b : BoardValue) (life : ℕ) (w : controlled.Values) (v : Values)
    (sent : List MessageValue) (made : List AckValue) (c : ℕ) (cause : Cause) → c < cores b
    → IsKnown b life w.starts v sent → WaitingIn b life w v sent made
    → WaitingIn b life (change b (Starts c cause) w) v sent made
start_waits b life w v sent made c cause on known h =
    waiting_started b life w.starts w.depth v.halting v.known v.phase v.outstanding sent made c
    (λ level place low. known.sums.more w.starts c level place on low)
    (λ k level m p at present part.
    let older = ((known.messages k m at).present present).older level p part in (
      (part_level b life w.starts v sent known k level m p at part).1,
      omega (arith, older, known.below level (up b level m.core.number)),
    ))
    known.le h

-- A message is acknowledged --------------------------------------------------------------------

-- one acknowledgement more
made_more : (b : BoardValue) (life : ℕ) (w : controlled.Values) (v : Values)
    (sent : List MessageValue) (made : List AckValue) (a : AckValue) (k : ℕ) (m : MessageValue)
    → slice_get sent k ≡ Some m → IsTold b w.starts w.depth a m → WaitingIn b life w v sent made
    → WaitingIn b life w v sent (a ∷ made)
made_more b life w v sent made a k m at told h = grind (arith, nat_tests, named)

-- a Down was carried out
pub down_waits : (b : BoardValue) (life : ℕ) (w : controlled.Values) (v : Values)
    (sent : List MessageValue) (made : List AckValue) (k : ℕ) (m : MessageValue)
    → IsKnown b life w.starts v sent → slice_get sent k ≡ Some m → m.life ≡ life
    → m.kind ≡ kinds.Down → AckLaws b w m.core.number m.parts
    → let n = applied b w m.core.number m.parts in
    IsFront b w m.core.number (take n m.parts) → WaitingIn b life w v sent made
    → WaitingIn b life (change b (Deepens m.core.number (take n m.parts)) w) v sent
    (ack_of m n (is_stale b w m.core.number m.parts) ∷ made)
down_waits b life w v sent made k m known at present kind laws front h =
    let c : ℕ = m.core.number in
    let ps : List Part = take (applied b w c m.parts) m.parts in
    let are : AreApplied b life w.starts sent c ps =
    grind (arith, nat_tests, take_get, same_sum) in
    made_more b life (change b (Deepens c ps) w) v sent made
    (ack_of m (applied b w c m.parts) (is_stale b w c m.parts)) k m at
    (told_down b w m kind
    (λ level p part. part_level b life w.starts v sent known k level m p at part)
    (λ level p q part next live.
    known.live.below k level m p q at present part next live) laws)
    (waiting_deepened b life w.starts w.depth v.halting v.known v.phase v.outstanding sent made c
    ps known.apart are h)

-- a Start was carried out, or was stale
pub start_told : (b : BoardValue) (life : ℕ) (w : controlled.Values) (v : Values)
    (sent : List MessageValue) (made : List AckValue) (k : ℕ) (m : MessageValue) (t : Bool)
    → IsKnown b life w.starts v sent → slice_get sent k ≡ Some m → m.life ≡ life
    → m.kind ≡ kinds.Start → may_follow b w m.core.number m.number ≡ t
    → WaitingIn b life w v sent made
    → let a = cond t (ack_of m 1 false) (ack_of m 0 true) in
    WaitingIn b life
    (change b (cond (a.applied == 0) Nothing (Starts m.core.number causes.On)) w) v sent
    (a ∷ made)
start_told b life w v sent made k m true known at present kind may h =
    let c : ℕ = m.core.number in
    let sound = (known.messages k m at).sound in
    let both = and_parts (w.starts c == m.number) (nat_lt (w.starts c) b.starts) may in
    let number = eqb-true (w.starts c) m.number both.0 in
    let more : one_more w.starts c c ≡ w.starts c + 1 =
    cond-true (c == c) (w.starts c + 1) (w.starts c) (eq-eqb c c refl) in
    made_more b life (change b (Starts c causes.On) w) v sent made (ack_of m 1 false) k m at
    (told_other b (change b (Starts c causes.On) w).starts
    (change b (Starts c causes.On) w).depth m 1 false
    (λ e. let no : kinds.Start ≡ kinds.Down = sym kind ∙ e in absurd (cc))
    (λ e. omega (arith, number, more)))
    (start_waits b life w v sent made c causes.On sound.core known h)
start_told b life w v sent made k m false known at present kind may h =
    let c : ℕ = m.core.number in
    let is : IsSent b life v.halting v.known v.phase m = known.messages k m at in
    let number = (is.present present).number in
    let room = is.sound.room kind in
    let later : m.number < w.starts c =
    grind (arith, nat_tests, and_cases, eqb-false, ltb-false) in
    grind (arith, nat_tests, made_more, told_other)

-- A life begins --------------------------------------------------------------------------------

-- no message is of a life that has not begun for the firmware
pub begun_waits : (b : BoardValue) (life firmware_life : ℕ) (halting : Bool) (known : ℕ → ℕ)
    (phase : ℕ → Phase) (sent : List MessageValue) (made : List AckValue)
    → AreSent b firmware_life halting known phase sent → firmware_life < life
    → ((k : ℕ) (a : AckValue) → slice_get made k ≡ Some a → IsNamed a sent)
    → let v = start_of_life b life in
    AreWaiting b life controlled.first_starts (controlled.first_depth b) v.halting v.known v.phase
    v.outstanding sent made
begun_waits b life firmware_life halting known phase sent made messages later names = record {
  pursued = λ k m at present kind level p part live.
      absurd (omega (arith, (messages k m at).begun, later, present));
  first = λ n on none. refl;
  asked = λ awake c on waits same. absurd (none_known c waits same);
  named = names;
  told = λ k a at present.
      let is = names k a at in
      let name = named a is.message is.answers in
      absurd (omega (arith, (messages is.index is.message is.at).begun, later, name.life, present));
}
  where
    none_known : (c : ℕ) → (start_of_life b life).phase c ≡ Pending
        → controlled.first_starts c ≡ 0 → ⊥
    none_known c waits none = by_test (c == 0) waits none
      where
        by_test : (t : Bool) → cond t Pending Away ≡ Pending → cond {A = ℕ} t 1 0 ≡ 0 → ⊥
        by_test true e f = cc
        by_test false e f = cc
