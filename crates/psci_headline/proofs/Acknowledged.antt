-- A claim that an acknowledgement confirms was carried out as the acknowledgement was made.
use Rattle.psci_headline.proofs.Words.{◌++◌, ◌<◌, ◌∙◌, ◌∷◌, ◌≡◌, [], ack_by, AckValue, ap}
use Rattle.psci_headline.proofs.Words.{applied, AreValues, arith, BoardValue, confirms_on}
use Rattle.psci_headline.proofs.Words.{controller_values, Deepens, firmware_values, HasNode}
use Rattle.psci_headline.proofs.Words.{Holds, hw_at, inr, IsAwaited, known_below, List}
use Rattle.psci_headline.proofs.Words.{MessageValue, nat_tests, Node, NonePending, OfCore}
use Rattle.psci_headline.proofs.Words.{part_from, PathLaws, Record, sent_in, slice_get, slot_of}
use Rattle.psci_headline.proofs.Words.{Some, starts_below, subst, sym, take, true, up, Values}
use Rattle.psci_headline.proofs.Words.{was_in_state, WasMade, ℕ}
use Rattle.psci_ctl_spec.specs.Replies.{change}
use Rattle.psci_fw_laws.proofs.Made.{none_active, once_down}
use Rattle.psci_world_spec.specs.Legal.{sent}
use Rattle.psci_headline.proofs.Sending.{listed_later, IsListed}
use Rattle.psci_headline.proofs.Pursuing.{HasName, named}
use Rattle.psci_headline.proofs.Nexts.{acks_message}
use Rattle.psci_headline.proofs.Carried.{confirming, levels, applied_live, laid_at, Confirms}
use Rattle.psci_headline.proofs.ToldHw.{seen_now, seen_since}
use Rattle.psci_ctl_spec.specs.Values as controlled
use Rattle.psci_ctl_spec.specs.psci_messages.declared.kind.Kind.TheVariants as kinds

-- Messages ------------------------------------------------------------------------------------

-- what was sent by then was sent
sent_since : (since before : List Record) (m : MessageValue) → IsListed (sent before) m
    → IsListed (sent (since ++ before)) m
unfolding sent
sent_since [] before m is = is
sent_since (r ∷ since) before m is =
    listed_later (sent_in r.said) (sent (since ++ before)) m (sent_since since before m is)

same_message : (messages : List MessageValue) (j k : ℕ) (m n : MessageValue)
    → slice_get messages j ≡ Some m → slice_get messages k ≡ Some n → j ≡ k → m ≡ n
same_message messages j k m n at other same = grind (arith, nat_tests)

-- The moment ----------------------------------------------------------------------------------

applied_count : (b : BoardValue) (v : controlled.Values) (m : MessageValue) (a : AckValue)
    → m.kind ≡ kinds.Down → a ≡ ack_by b v m m.kind
    → a.applied ≡ applied b v m.core.number m.parts
applied_count b v m a kind is = grind (arith, nat_tests)

-- What is known where an acknowledgement is taken.
pub record IsTaken (b : BoardValue) (past : List Record) (a : AckValue) : Type 0 where
  pub paths : PathLaws b
  pub holds : let v = firmware_values b past in Holds b v (sent past)
  pub values : AreValues b (firmware_values b past)
  pub made : WasMade b past a
  pub awaited : IsAwaited (firmware_values b past) a

module _ (b : BoardValue) (past : List Record) (a : AckValue) (t : IsTaken b past a) (n : Node)
    (has : HasNode b n) (by : Confirms b (firmware_values b past) a n.level n.place) where
  abbrev v : Values
  v = firmware_values b past

  -- the Down that was acknowledged
  abbrev delivered : MessageValue
  delivered = t.made.message

  abbrev before : List Record
  before = t.made.before

  of : HasName a delivered
  of = subst (λ x. HasName x delivered) (sym t.made.ack)
      (acks_message b (controller_values b before) delivered delivered.kind)

  was_sent : IsListed (sent past) delivered
  was_sent = subst (λ ms. IsListed (sent ms) delivered) t.made.parts
      (sent_since t.made.since (t.made.delivery ∷ before) delivered
      (sent_since (t.made.delivery ∷ []) before delivered
      (record { index = t.made.index; at = t.made.at })))

  kind : delivered.kind ≡ kinds.Down
  kind = sym of.kind ∙ by.kind

  slot : v.outstanding (OfCore a.core.number) ≡ Some by.message
  slot = ap (λ k. v.outstanding (slot_of k a.core)) (sym by.kind) ∙ by.slot

  -- it is the one that is outstanding
  same : delivered ≡ by.message
  same =
      let awaits = t.awaited in
      let m : MessageValue = awaits.message in
      let one : m ≡ by.message = cc (sym awaits.at ∙ by.slot) in
      let name = named a m awaits.answers in
      let of_core = t.holds.slots.core a.core.number by.message slot in
      grind (arith, nat_tests, same_message, was_sent, once_down, kind, of)

  part_at : slice_get delivered.parts n.level ≡ Some by.part
  part_at = ap (λ (x : MessageValue). slice_get x.parts n.level) same ∙ by.at

  life : delivered.life ≡ v.life
  life = ap (λ (x : MessageValue). x.life) same
      ∙ (t.holds.slots.core a.core.number by.message slot).listed.present

  -- the domain was granted what the part says
  waits : NonePending b v.phase n.level n.place
  waits c inside at = grind (arith, nat_tests, none_active)

  granted : v.granted n.level n.place ≡ by.part.depth
  granted = t.holds.grants.held n.level n.place by.part
      (inr (record {
        index = was_sent.index;
        message = delivered;
        at = was_sent.at;
        part = part_from b v.life n.level n.place delivered by.part (record {
          kind = kind;
          present = life;
          on = by.on ∙ ap (up b n.level) of.core;
          part = part_at;
        });
      })) by.made waits

  -- as it was delivered the domain became so deep, after as many starts as its generation says
  abbrev delivery : List Record
  delivery = t.made.delivery ∷ before

  changed : controller_values b delivery
      ≡ change b (Deepens delivered.core.number (take a.applied delivered.parts))
      (controller_values b before)
  changed = grind (arith, nat_tests, kind)

  deep : (controller_values b delivery).depth n.level n.place ≡ v.granted n.level n.place
  deep = ap (λ (x : controlled.Values). x.depth n.level n.place) changed
      ∙ (laid_at b (controller_values b before).depth delivered.core.number a.applied n.level
      n.place delivered.parts by.part has.level (by.on ∙ ap (up b n.level) of.core) part_at
      by.applied ∙ sym granted)

  count : starts_below b (controller_values b delivery).starts n
      ≡ known_below b v.known n.level n.place
  count =
      let cv = controller_values b before in
      let few : n.level < applied b cv delivered.core.number delivered.parts =
      subst (λ k. n.level < k) (applied_count b cv delivered a kind t.made.ack) by.applied in
      let sound = (t.holds.messages was_sent.index delivered was_sent.at).sound in
      let live = applied_live b cv delivered.core.number delivered.parts n.level by.part few part_at
      (levels delivered.kind delivered.parts n.level by.part kind sound.parts part_at) in
      ap (λ (x : controlled.Values). starts_below b x.starts n) changed
      ∙ (ap (λ place. starts_below b cv.starts (record { level = n.level; place = place }))
      (by.on ∙ ap (up b n.level) of.core)
      ∙ (sym live ∙ by.made))

  was_carried_out : was_in_state b v.life (known_below b v.known n.level n.place)
      (hw_at (v.granted n.level n.place)) past n ≡ true
  was_carried_out = grind (arith, nat_tests, changed, life, seen_since, seen_now, count, deep)

-- a claim that an acknowledgement confirms was carried out, in this life and by the starts that are
-- known
pub carried_out : (b : BoardValue) (past : List Record) (a : AckValue) → IsTaken b past a
    → (n : Node) → HasNode b n → let v = firmware_values b past in
    confirms_on b v a n.level n.place ≡ true
    → was_in_state b v.life (known_below b v.known n.level n.place)
    (hw_at (v.granted n.level n.place)) past n ≡ true
carried_out b past a t n has by =
    was_carried_out b past a t n has (confirming b (firmware_values b past) a n.level n.place by)
