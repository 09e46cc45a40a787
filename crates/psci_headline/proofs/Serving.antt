-- What is so after a message of this life was delivered and its acknowledgement taken, and so
-- after what is outstanding for a core was served.
use Rattle.std.specs.Prelude.{get_or}
use Rattle.std.proofs.Common.{option_and_then}
use Rattle.std.proofs.lemmas.List.{length-append, reverse-append}
use Rattle.std.proofs.lemmas.List.Elements.{filter-append}
use Rattle.std.proofs.lemmas.Option.{slice_get-get_or}
use Rattle.psci_ctl_spec.specs.Replies as controlling
use Rattle.psci_ctl_spec.specs.Replies.{after, delivery_of, effect_of, reply}
use Rattle.psci_ctl_spec.specs.Values as controller
use Rattle.psci_ctl_spec.specs.psci_messages.declared.taken.Taken.TheVariants.{Used}
use Rattle.psci_world_spec.specs.Legal.{take}
use Rattle.psci_headline.specs.Settling as drained
use Rattle.psci_headline.specs.Settling.{has_name}
use Rattle.psci_headline.specs.psci_fw_spec.Answer.{answer}
use Rattle.psci_headline.specs.psci_fw_spec.Values.{taken_by}
use Rattle.psci_headline.specs.psci_world_spec.Legal.{acks, controller_history, firmware_history}
use Rattle.psci_headline.specs.psci_world_spec.Legal.{legal, place, sent}
use Rattle.psci_headline.specs.psci_world_spec.declared.said.Said.TheVariants.{Taken as Took}
use Rattle.psci_headline.proofs.Agreed.{RunLaws}
use Rattle.psci_headline.proofs.Nexts.{acks_message}
use Rattle.psci_headline.proofs.Checking.{core_slot}
use Rattle.psci_headline.proofs.Pursuing.{HasName, same_kind}
use Rattle.psci_headline.proofs.Telling.{own_kind}
use Rattle.psci_headline.proofs.Words.{◌++◌, ◌+◌, ◌-◌, ◌<◌, ◌==◌, ◌∙◌, ◌∷◌, ◌≡◌, [], ack_by}
use Rattle.psci_headline.proofs.Words.{Acked, Acknowledge, AckValue, and_from, and_parts}
use Rattle.psci_headline.proofs.Words.{answers, ap, AreOutstanding, arith, BoardValue, Bool}
use Rattle.psci_headline.proofs.Words.{changed, cond, cond-false, cond-true, controller_values}
use Rattle.psci_headline.proofs.Words.{Deliver, deliveries, eq-eqb, eqb-true, false}
use Rattle.psci_headline.proofs.Words.{firmware_values, get_or-reverse, get_or_from_slice_get}
use Rattle.psci_headline.proofs.Words.{index_of, indexed, is_done, is_settling, is_system}
use Rattle.psci_headline.proofs.Words.{IsLegalPast, Kind, length, length-reverse, List, list_all}
use Rattle.psci_headline.proofs.Words.{message_effect, MessageValue, nat_tests, ne_eqb, None}
use Rattle.psci_headline.proofs.Words.{OfCore, Option, place_of_effect, Record, refl, reverse}
use Rattle.psci_headline.proofs.Words.{served, serving, slice_get, slice_get_within, slot_of}
use Rattle.psci_headline.proofs.Words.{Some, step, subst, suc, sym, Take, true, unwrap_or}
use Rattle.psci_headline.proofs.Words.{Values, values_more, with_acknowledgement, zero, ℕ}

-- How often messages are delivered, along the records, and which records are added ----------------

-- deliveries of more records
pub deliveries_more : (k : ℕ) (added past : List Record)
    → deliveries k (added ++ past) ≡ deliveries k added + deliveries k past
deliveries_more k added past = grind (arith, nat_tests, filter-append, length-append)

-- a message is delivered once more by its own delivery alone
pub delivered_more : (j k : ℕ) (r : Record) (past : List Record) → r.event ≡ Deliver k
    → deliveries j (r ∷ past) ≡ cond (j == k) 1 0 + deliveries j past
delivered_more j k r past e = grind (arith, nat_tests)

-- Records that were added, each an entry, a delivery or a taken acknowledgement.
pub record AreAdded (before past : List Record) : Type 0 where
  pub records : List Record
  pub is : past ≡ records ++ before
  pub events : list_all (λ r. is_settling r.event) records ≡ true

pub none_added : (past : List Record) → AreAdded past past
none_added past = record { records = []; is = refl; events = refl }

pub one_added : (before past : List Record) (r : Record) → is_settling r.event ≡ true
    → AreAdded before past → AreAdded before (r ∷ past)
one_added before past r e are = record {
  records = r ∷ are.records;
  is = ap (λ (rs : List Record). r ∷ rs) are.is;
  events = and_from _ _ e are.events;
}

-- The numbers of messages: the newest one, older ones, and how one is found by its name -----------

-- Numbers --------------------------------------------------------------------------------------

get_front : {A : Type 0} → (xs ys : List A) (k : ℕ) (y : A) → slice_get xs k ≡ Some y
    → slice_get (xs ++ ys) k ≡ Some y
get_front [] ys k y e = absurd (cc)
get_front (x ∷ xs) ys zero y e = e
get_front (x ∷ xs) ys (suc k) y e = get_front xs ys k y e

get_last : {A : Type 0} → (xs : List A) (x : A) → slice_get (xs ++ x ∷ []) (length xs) ≡ Some x
get_last [] x = refl
get_last (y ∷ ys) x = get_last ys x

-- the newest item has the number of items before it
pub numbered_new : {A : Type 0} → (x : A) (xs : List A) → indexed (x ∷ xs) (length xs) ≡ Some x
numbered_new x xs =
    ap (λ ys. slice_get ys (length xs)) (reverse-append (x ∷ []) xs)
    ∙ ap (λ k. slice_get (reverse xs ++ x ∷ []) k) (sym (length-reverse xs))
    ∙ get_last (reverse xs) x

-- an older one keeps its number
pub numbered_old : {A : Type 0} → (x : A) (xs : List A) (k : ℕ) (y : A)
    → indexed xs k ≡ Some y → indexed (x ∷ xs) k ≡ Some y
numbered_old x xs k y e =
    ap (λ ys. slice_get ys k) (reverse-append (x ∷ []) xs)
    ∙ get_front (reverse xs) (x ∷ []) k y e

-- where an item of some number stands in the list
pub indexed_at : {A : Type 0} → (xs : List A) (k : ℕ) (y : A) → indexed xs k ≡ Some y
    → (k < length xs) × (slice_get xs (length xs - 1 - k) ≡ Some y)
indexed_at xs k y e =
    let within : k < length xs = grind (arith, nat_tests, slice_get_within, length-reverse) in
    let j : ℕ = length xs - 1 - k in
    let inside : j < length xs = omega (arith, within) in
    let here : get_or xs j y ≡ y =
    sym (get_or-reverse xs k y within) ∙ get_or_from_slice_get (reverse xs) k y y e in
    (within, slice_get-get_or xs j y inside ∙ ap Some here)

-- Names ----------------------------------------------------------------------------------------

-- Two messages with one name.
pub record HaveName (m n : MessageValue) : Type 0 where
  pub kind : m.kind ≡ n.kind
  pub core : m.core.number ≡ n.core.number
  pub life : m.life ≡ n.life
  pub number : m.number ≡ n.number

pub name_of : (m n : MessageValue) → has_name m n ≡ true → HaveName m n
name_of m n e = grind (arith, nat_tests, and_parts, same_kind, eqb-true)

-- a message has its own name
pub own_name : (m : MessageValue) → has_name m m ≡ true
own_name m = grind (arith, nat_tests, and_from, own_kind, eq-eqb)

-- The number of a message, as it is found by its name.
pub record HasNumber (m : MessageValue) (sent : List MessageValue) : Type 0 where
  pub number : ℕ
  pub found : index_of m sent ≡ Some number
  pub message : MessageValue
  pub at : indexed sent number ≡ Some message
  pub name : HaveName m message

-- a message that was sent is found
pub finds : (m : MessageValue) (sent : List MessageValue) (k : ℕ) → slice_get sent k ≡ Some m
    → HasNumber m sent
finds m [] k e = absurd (cc)
finds m (n ∷ ns) k e = by_test (λ j. finds m ns j) (has_name m n) refl k e
  where
    by_test : ((j : ℕ) → slice_get ns j ≡ Some m → HasNumber m ns) → (t : Bool)
        → has_name m n ≡ t → (j : ℕ) → slice_get (n ∷ ns) j ≡ Some m → HasNumber m (n ∷ ns)
    by_test older true f j at = record {
      number = length ns;
      found = cond-true (has_name m n) _ _ f;
      message = n;
      at = numbered_new n ns;
      name = name_of m n f;
    }
    by_test older false f zero at =
        let same : n ≡ m = cc in
        let no : true ≡ false = sym (own_name m) ∙ ap (has_name m) (sym same) ∙ f in absurd (cc)
    by_test older false f (suc j) at =
        let rest = older j at in
        record {
          number = rest.number;
          found = cond-false (has_name m n) _ _ f ∙ rest.found;
          message = rest.message;
          at = numbered_old n ns rest.number rest.message rest.at;
          name = rest.name;
        }

-- Serving -----------------------------------------------------------------------------------------

-- A delivery -----------------------------------------------------------------------------------

-- the acknowledgement of a message that is delivered
abbrev pub ack_to : BoardValue → List Record → MessageValue → AckValue
ack_to b past m = ack_by b (controller_values b past) m m.kind

delivery_said : (b : BoardValue) (past : List Record) (k : ℕ) (m : MessageValue)
    → indexed (sent past) k ≡ Some m → (controller_values b past).life ≡ Some m.life
    → legal b past (Deliver k) ≡ Acked (length (acks past)) (ack_to b past m)
unfolding legal reply delivery_of
delivery_said b past k m at present = grind (arith, nat_tests, eq-eqb)

-- What is so after a delivery.
record AreDelivered (b : BoardValue) (past : List Record) (k : ℕ) (m : MessageValue) : Type 0 where
  pub control : controller_values b (step b past (Deliver k))
      ≡ controlling.change b (message_effect b m (ack_to b past m) m.kind)
      (controller_values b past)
  pub firmware : firmware_values b (step b past (Deliver k)) ≡ firmware_values b past
  pub sent : sent (step b past (Deliver k)) ≡ sent past
  pub acks : acks (step b past (Deliver k)) ≡ ack_to b past m ∷ acks past
  pub place : (x : ℕ) → place b (step b past (Deliver k)) x
      ≡ unwrap_or (place_of_effect x (message_effect b m (ack_to b past m) m.kind)) (place b past x)

delivered_so : (b : BoardValue) (past : List Record) (k : ℕ) (m : MessageValue) → RunLaws b
    → indexed (sent past) k ≡ Some m → (controller_values b past).life ≡ Some m.life
    → AreDelivered b past k m
unfolding controller_history firmware_history sent acks place after effect_of
delivered_so b past k m laws at present =
    let w : controller.Values = controller_values b past in
    let h : List controller.CtlExchange = controller_history b past in
    let a : AckValue = ack_to b past m in
    let said : legal b past (Deliver k) ≡ Acked (length (acks past)) a =
    delivery_said b past k m at present in
    grind (arith, nat_tests, values_more)

-- An acknowledgement ---------------------------------------------------------------------------

taken_said : (b : BoardValue) (past : List Record) (k : ℕ) (a : AckValue)
    → indexed (acks past) k ≡ Some a → taken_by (firmware_values b past) a ≡ Used
    → legal b past (Take k) ≡ Took Used
unfolding legal answer
taken_said b past k a at used = ap (take b past) at ∙ ap Took used

-- What is so after an acknowledgement of an outstanding message was taken.
record AreTaken (b : BoardValue) (past : List Record) (k : ℕ) (a : AckValue) : Type 0 where
  pub control : controller_values b (step b past (Take k)) ≡ controller_values b past
  pub firmware : firmware_values b (step b past (Take k))
      ≡ with_acknowledgement b a (firmware_values b past)
  pub sent : sent (step b past (Take k)) ≡ sent past
  pub place : (x : ℕ) → place b (step b past (Take k)) x ≡ place b past x

taken_so : (b : BoardValue) (past : List Record) (k : ℕ) (a : AckValue) → RunLaws b
    → indexed (acks past) k ≡ Some a → taken_by (firmware_values b past) a ≡ Used
    → AreTaken b past k a
unfolding controller_history firmware_history sent place
taken_so b past k a laws at used = grind (arith, nat_tests, taken_said)

-- Both -----------------------------------------------------------------------------------------

-- What is so after a message was served.
pub record AreAnswered (b : BoardValue) (past : List Record) (k : ℕ) (m : MessageValue)
    : Type 0 where
  pub legal : IsLegalPast b (serving b past (Some k))
  pub added : (before : List Record) → AreAdded before past
      → AreAdded before (serving b past (Some k))
  pub control : controller_values b (serving b past (Some k))
      ≡ controlling.change b (message_effect b m (ack_to b past m) m.kind)
      (controller_values b past)
  pub firmware : firmware_values b (serving b past (Some k))
      ≡ with_acknowledgement b (ack_to b past m) (firmware_values b past)
  pub sent : sent (serving b past (Some k)) ≡ sent past
  pub place : (x : ℕ) → place b (serving b past (Some k)) x
      ≡ unwrap_or (place_of_effect x (message_effect b m (ack_to b past m) m.kind)) (place b past x)
  pub count : (j : ℕ) → drained.deliveries j (serving b past (Some k))
      ≡ cond (j == k) 1 0 + drained.deliveries j past

pub answered_so : (b : BoardValue) (past : List Record) (k : ℕ) (m : MessageValue) → RunLaws b
    → IsLegalPast b past → indexed (sent past) k ≡ Some m
    → (controller_values b past).life ≡ Some m.life
    → taken_by (firmware_values b past) (ack_to b past m) ≡ Used → AreAnswered b past k m
answered_so b past k m laws is at present used =
    let next : List Record = step b past (Deliver k) in
    let n : ℕ = length (acks past) in
    let a : AckValue = ack_to b past m in
    let one : AreDelivered b past k m = delivered_so b past k m laws at present in
    let made : indexed (acks next) n ≡ Some a = grind (arith, nat_tests, numbered_new) in
    let two : AreTaken b next n a =
    taken_so b next n a laws made
    (ap (λ (v : Values). taken_by v a) one.firmware ∙ used) in
    grind (arith, nat_tests, one_added, delivered_more)

-- Names ----------------------------------------------------------------------------------------

-- an acknowledgement answers each message that has the name of its own
pub named_answers : (a : AckValue) (m n : MessageValue) → HasName a n → HaveName m n
    → answers a m ≡ true
named_answers a m n mine same = grind (arith, nat_tests, and_from, own_kind, eq-eqb)

-- Slots ----------------------------------------------------------------------------------------

left_there : (a : AckValue) (c x : ℕ) (o : Option MessageValue)
    → slot_of a.kind a.core ≡ OfCore c → (x ≡ c → ⊥) → changed (OfCore x) (Acknowledge a) o ≡ o
left_there a c x o slot ne = grind (arith, nat_tests, cond-false, ne_eqb)

left_here : (a : AckValue) (c : ℕ) (m : MessageValue) → slot_of a.kind a.core ≡ OfCore c
    → answers a m ≡ true
    → changed (OfCore c) (Acknowledge a) (Some m) ≡ cond (is_done a m) None (Some m)
left_here a c m slot e = grind (arith, nat_tests, cond-true, eq-eqb)

-- What is so after the message of some number was served, which has the name of what is
-- outstanding for a core.
pub record IsEmptying (b : BoardValue) (past : List Record) (c k : ℕ) (m n : MessageValue)
    : Type 0 where
  pub answered : AreAnswered b past k n
  pub kind : (ack_to b past n).kind ≡ m.kind
  pub there : (x : ℕ) → (x ≡ c → ⊥)
      → (firmware_values b (serving b past (Some k))).outstanding (OfCore x)
      ≡ (firmware_values b past).outstanding (OfCore x)
  pub here : (firmware_values b (serving b past (Some k))).outstanding (OfCore c)
      ≡ cond (is_done (ack_to b past n) m) None (Some m)

pub empties : (b : BoardValue) (past : List Record) (c : ℕ) (m : MessageValue) → RunLaws b
    → IsLegalPast b past → (n : HasNumber m (sent past))
    → (controller_values b past).life ≡ Some m.life
    → (firmware_values b past).outstanding (OfCore c) ≡ Some m → m.core.number ≡ c
    → is_system m.kind ≡ false → IsEmptying b past c n.number m n.message
empties b past c m laws is n present at core kind =
    let v : Values = firmware_values b past in
    let a : AckValue = ack_to b past n.message in
    let name : HasName a n.message = grind (arith, nat_tests, acks_message) in
    let mine : answers a m ≡ true = named_answers a m n.message name n.name in
    let slot : slot_of a.kind a.core ≡ OfCore c = grind (arith, nat_tests, core_slot) in
    let used : taken_by v a ≡ Used = grind (arith, nat_tests, cond-true) in
    let both : AreAnswered b past n.number n.message =
    answered_so b past n.number n.message laws is n.at (present ∙ ap Some n.name.life) used in
    grind (arith, nat_tests, left_there, left_here)

-- A step ---------------------------------------------------------------------------------------

-- what is outstanding is found among what was sent
pub found : (life : ℕ) (known : ℕ → ℕ) (v : Values) (messages : List MessageValue) (c : ℕ)
    (m : MessageValue) → AreOutstanding life known v.phase messages v.outstanding
    → v.outstanding (OfCore c) ≡ Some m → HasNumber m messages
found life known v messages c m slots at =
    let is = (slots.core c m at).listed in finds m messages is.index is.at

-- what becomes of the records where what is outstanding for a core is served, or not
pub answer_case : (b : BoardValue) (which : Kind → Bool) (past : List Record) (c : ℕ)
    (P : List Record → Type 0)
    → ((m : MessageValue) → (firmware_values b past).outstanding (OfCore c) ≡ Some m
    → HasNumber m (sent past))
    → ((firmware_values b past).outstanding (OfCore c) ≡ None → P past)
    → ((m : MessageValue) → (firmware_values b past).outstanding (OfCore c) ≡ Some m
    → which m.kind ≡ false → P past)
    → ((m : MessageValue) → (firmware_values b past).outstanding (OfCore c) ≡ Some m
    → which m.kind ≡ true → (n : HasNumber m (sent past)) → P (serving b past (Some n.number)))
    → P (served b which past c)
answer_case b which past c P finds none other some =
    by_slot ((firmware_values b past).outstanding (OfCore c)) refl
  where
    by_test : (m : MessageValue) → (firmware_values b past).outstanding (OfCore c) ≡ Some m
        → (t : Bool) → which m.kind ≡ t
        → P (serving b past (cond t (index_of m (sent past)) None))
    by_test m e false f = other m e f
    by_test m e true f =
        let n = finds m e in
        subst (λ o. P (serving b past o)) (sym n.found) (some m e f n)

    by_slot : (o : Option MessageValue) → (firmware_values b past).outstanding (OfCore c) ≡ o
        → P (serving b past (option_and_then
        (λ m. cond (which m.kind) (index_of m (sent past)) None) o))
    by_slot o e = grind (arith, nat_tests, by_test)
