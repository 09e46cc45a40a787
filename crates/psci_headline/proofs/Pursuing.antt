-- What waits, after what the firmware's calls and entries change.
use Rattle.psci_ctl_spec.specs.Replies.{with_path_on}
use Rattle.psci_ctl_spec.specs.Values.{starts_below}
use Rattle.psci_ctl_spec.specs.psci_messages.declared.kind.Kind.TheVariants.{Start}
use Rattle.psci_headline.specs.psci_fw_laws.Messages.{known_below}
use Rattle.psci_headline.proofs.Sending.{listed_later, of_newest}
use Rattle.psci_headline.proofs.Checking.{clear_there, put_here, put_system, put_there}
use Rattle.psci_headline.proofs.Unclaimed.{NoneLive}
use Rattle.psci_headline.proofs.Words.{◌++◌, ◌+◌, ◌<◌, ◌∙◌, ◌∷◌, ◌≡◌, ◌≤◌, ◌⊎◌, Acknowledge}
use Rattle.psci_headline.proofs.Words.{AckValue, and_parts, answers, ap, AreOutstanding}
use Rattle.psci_headline.proofs.Words.{AreWaiting, arith, AwaitsStart, BoardValue, Bool}
use Rattle.psci_headline.proofs.Words.{cases_Bool, cases_eq, cases_lt, changed, Clear, cond}
use Rattle.psci_headline.proofs.Words.{cond-false, cond-true, cores, Down, eq-eqb, eqb-true}
use Rattle.psci_headline.proofs.Words.{false, height, inl, inr, is_done, is_kind, is_on_path}
use Rattle.psci_headline.proofs.Words.{IsLivePart, IsTold, Kind, known_on, leb-true, List}
use Rattle.psci_headline.proofs.Words.{listed, MessageValue, nat_tests, ne_eqb, Node, None}
use Rattle.psci_headline.proofs.Words.{OfCore, OfSystem, one_more, Option, or_cases, Part}
use Rattle.psci_headline.proofs.Words.{Pending, Phase, Put, refl, same_Some, slice_get}
use Rattle.psci_headline.proofs.Words.{slice_get_within, Slot, slot_of, Some, subst, sym, true}
use Rattle.psci_headline.proofs.Words.{up, updated, WasTold, ℕ}
use Rattle.psci_headline.proofs.fw_laws.Claiming.{updated_at, updated_here, updated_there}

-- what a live part that is not deep waits for: its Down is outstanding, or its core is pending
abbrev pub Waits : (ℕ → Phase) → (Slot → Option MessageValue) → MessageValue → Type 0
Waits phase outstanding m =
    (outstanding (OfCore m.core.number) ≡ Some m) ⊎ (phase m.core.number ≡ Pending)

module _ {b : BoardValue} {life : ℕ} {starts : ℕ → ℕ} {depth : ℕ → ℕ → ℕ} {halting : Bool}
    {known : ℕ → ℕ} {phase : ℕ → Phase} {outstanding : Slot → Option MessageValue}
    {sent : List MessageValue} {made : List AckValue}
    (are : AreWaiting b life starts depth halting known phase outstanding sent made) where
  -- the firmware is in other values, and may have sent a message
  pub waiting_moved : (halts : Bool) (knows : ℕ → ℕ) (new : ℕ → Phase)
      (slots : Slot → Option MessageValue) (o : Option MessageValue)
      → ((k level : ℕ) (m : MessageValue) (p : Part) → slice_get sent k ≡ Some m → m.life ≡ life
      → m.kind ≡ Down → slice_get m.parts level ≡ Some p → IsLivePart b starts m level p
      → Waits phase outstanding m
      → (depth level (up b level m.core.number) ≡ p.depth) ⊎ Waits new slots m)
      → ((m : MessageValue) → o ≡ Some m → m.life ≡ life → m.kind ≡ Down
      → slots (OfCore m.core.number) ≡ Some m)
      → (halts ≡ false → (x : ℕ) → x < cores b → new x ≡ Pending → starts x ≡ knows x
      → AwaitsStart slots x)
      → AreWaiting b life starts depth halts knows new slots (listed o ++ sent) made
  waiting_moved halts knows new slots o keeps sends asks = record {
    pursued = λ k m at present kind level p part live. grind (arith, nat_tests, of_newest);
    first = are.first;
    asked = asks;
    named = λ k a at.
        let is = are.named k a at in
        let on = listed_later o sent is.message (record { index = is.index; at = is.at }) in
        record { index = on.index; message = is.message; at = on.at; answers = is.answers };
    told = λ k a at present.
        let t = are.told k a at present in
        let on = listed_later o sent t.message (record { index = t.index; at = t.at }) in
        record { index = on.index; message = t.message; at = on.at; told = t.told };
  }

  -- a message of another life was sent
  pub waiting_other : (o : Option MessageValue)
      → ((m : MessageValue) → o ≡ Some m → m.life ≡ life → ⊥)
      → AreWaiting b life starts depth halting known phase outstanding (listed o ++ sent) made
  waiting_other o other = grind (arith, nat_tests, waiting_moved)

  -- a core that waits for its Start waits in these slots too
  waits_still : (slots : Slot → Option MessageValue) (x : ℕ) → AwaitsStart outstanding x
      → slots (OfCore x) ≡ outstanding (OfCore x) → AwaitsStart slots x
  waits_still slots x old same = grind (arith, nat_tests)

  -- a core is of another phase, and as pending as before
  pub waiting_phase : (c : ℕ) (new : Phase) → (phase c ≡ Pending → new ≡ Pending)
      → (new ≡ Pending → phase c ≡ Pending)
      → AreWaiting b life starts depth halting known (updated phase c new) outstanding sent made
  waiting_phase c new stays back = grind (arith, nat_tests, waiting_moved, updated_at)

  -- the life is halting, and a message for the system was sent
  pub waiting_halt : (m : MessageValue) → slot_of m.kind m.core ≡ OfSystem → (m.kind ≡ Down → ⊥)
      → AreWaiting b life starts depth true known phase
      (λ slot. changed slot (Put m) (outstanding slot)) (m ∷ sent) made
  waiting_halt m slot other =
      waiting_moved true known phase (λ slot. changed slot (Put m) (outstanding slot)) (Some m)
      (λ k level n p at present kind part live waits. inr (elim waits [
        | inl out ↦ inl (put_system outstanding m n.core.number slot ∙ out)
        | inr pending ↦ inr pending
      ]))
      (λ n is own kind. let same : m ≡ n = cc in
      absurd (other (ap (λ (y : MessageValue). y.kind) same ∙ kind)))
      (λ awake. absurd (cc))

  -- a message for a core was sent: no part of an older Down of the core is live
  pub waiting_core : (m : MessageValue) (c : ℕ) → slot_of m.kind m.core ≡ OfCore c
      → m.core.number ≡ c → NoneLive b life starts sent c
      → (halting ≡ false → phase c ≡ Pending → ⊥)
      → AreWaiting b life starts depth halting known phase
      (λ slot. changed slot (Put m) (outstanding slot)) (m ∷ sent) made
  waiting_core m c slot own none rests =
      waiting_moved halting known phase new (Some m)
      (λ k level n p at present kind part live waits. inr (elim waits [
        | inl out ↦ grind (arith, nat_tests, put_there)
        | inr pending ↦ inr pending
      ]))
      (λ n is of kind. let same : m ≡ n = cc in
      subst (λ y. new (OfCore y.core.number) ≡ Some y) same
      (put_here outstanding m m.core.number (slot ∙ ap OfCore (sym own))))
      (λ awake x on waits same. waits_still new x (are.asked awake x on waits same)
      (put_there outstanding m c x slot
      (λ here. rests awake (ap phase (sym here) ∙ waits))))
    where
      new : Slot → Option MessageValue
      new = λ slot. changed slot (Put m) (outstanding slot)

  -- a core was asked on, and its Start sent
  pub waiting_asked : (m : MessageValue) (c : ℕ) → slot_of m.kind m.core ≡ OfCore c
      → m.kind ≡ Start
      → AreWaiting b life starts depth halting known (updated phase c Pending)
      (λ slot. changed slot (Put m) (outstanding slot)) (m ∷ sent) made
  waiting_asked m c slot kind =
      waiting_moved halting known (updated phase c Pending) now (Some m)
      (λ k level n p at present down part live waits. inr (elim (cases_eq n.core.number c) [
        | inl here ↦
            inr (ap (updated phase c Pending) here ∙ updated_here phase c Pending)
        | inr there ↦ elim waits [
          | inl out ↦ inl (put_there outstanding m c n.core.number slot there ∙ out)
          | inr pending ↦ inr (updated_there phase c Pending n.core.number there ∙ pending)
        ]
      ]))
      (λ n is own down. let same : m ≡ n = cc in
      let no : Start ≡ Down = sym kind ∙ ap (λ (y : MessageValue). y.kind) same ∙ down in
      absurd (cc))
      (λ awake x on waits same. elim (cases_eq x c) [
        | inl here ↦ record {
          message = m;
          at = subst (λ y. now (OfCore y) ≡ Some m) (sym here) (put_here outstanding m c slot);
          kind = kind;
        }
        | inr there ↦ grind (arith, nat_tests, waits_still, now, updated_there, put_there)
      ])
    where
      now : Slot → Option MessageValue
      now = λ slot. changed slot (Put m) (outstanding slot)

  -- a core has entered, and is of this phase then: no part of a Down of the core was live
  pub waiting_arrival : (c n : ℕ) (new : Phase) → NoneLive b life starts sent c
      → (halting ≡ false → new ≡ Pending → ⊥)
      → AreWaiting b life starts depth halting (updated known c n) (updated phase c new)
      (λ slot. changed slot (Clear (record { number = c })) (outstanding slot)) sent made
  waiting_arrival c n new none rests =
      grind (
        arith,
        nat_tests,
        waiting_moved,
        clear_there,
        updated_there,
        cases_eq,
        updated_here,
        waits_still,
      )

-- What waits, after an acknowledgement was taken --------------------------------------------------

-- Names ----------------------------------------------------------------------------------------

pub same_kind : (k l : Kind) → is_kind k l ≡ true → k ≡ l
same_kind k l e = grind (arith, nat_tests)

-- An acknowledgement has the name of a message.
pub record HasName (a : AckValue) (m : MessageValue) : Type 0 where
  pub kind : a.kind ≡ m.kind
  pub core : a.core.number ≡ m.core.number
  pub life : a.life ≡ m.life
  pub number : a.number ≡ m.number

pub named : (a : AckValue) (m : MessageValue) → answers a m ≡ true → HasName a m
named a m e = grind (arith, nat_tests, and_parts, same_kind, eqb-true)

-- The slot -------------------------------------------------------------------------------------

-- The message that was emptied out of a slot.
pub record IsEmptied (a : AckValue) (m : MessageValue) : Type 0 where
  pub answers : answers a m ≡ true
  pub done : is_done a m ≡ true

-- what was outstanding for a core stays, or was emptied
pub still_or : (outstanding : Slot → Option MessageValue) (a : AckValue) (x : ℕ)
    (m : MessageValue) → outstanding (OfCore x) ≡ Some m
    → (changed (OfCore x) (Acknowledge a) (outstanding (OfCore x)) ≡ Some m) ⊎ IsEmptied a m
still_or outstanding a x m e = grind (arith, nat_tests)

-- The acknowledgement --------------------------------------------------------------------------

-- Core, life and number name one Down among those that were sent.
abbrev pub IsNamedOnce : List MessageValue → Type 0
IsNamedOnce sent = (j k : ℕ) (m n : MessageValue) → slice_get sent j ≡ Some m
    → slice_get sent k ≡ Some n → m.kind ≡ Down → n.kind ≡ Down → m.core.number ≡ n.core.number
    → m.life ≡ n.life → m.number ≡ n.number → j ≡ k

module _ {b : BoardValue} {starts : ℕ → ℕ} {depth : ℕ → ℕ → ℕ} {a : AckValue}
    {m : MessageValue} (kind : m.kind ≡ Down) (emptied : IsEmptied a m) where
  -- what an acknowledgement says of a message that was sent, it says of the one that it answers
  pub told_of : (sent : List MessageValue) (k : ℕ) → IsNamedOnce sent
      → WasTold b starts depth a sent → slice_get sent k ≡ Some m → IsTold b starts depth a m
  told_of sent k once t at = grind (arith, named, same_Some)

  -- where it leaves nothing to be done, no part that was left out is live
  pub none_left : (told : IsTold b starts depth a m) (level : ℕ) (p : Part) → a.applied ≤ level
      → slice_get m.parts level ≡ Some p → IsLivePart b starts m level p → ⊥
  none_left told level p high part live =
      grind (arith, nat_tests, or_cases, named, slice_get_within, leb-true)

-- an acknowledgement was taken
pub waiting_taken : {b : BoardValue} {life : ℕ} {starts : ℕ → ℕ} {depth : ℕ → ℕ → ℕ}
    {halting : Bool} {known : ℕ → ℕ} {phase : ℕ → Phase}
    {outstanding : Slot → Option MessageValue} {sent : List MessageValue} {made : List AckValue}
    (a : AckValue) (i : ℕ) → slice_get made i ≡ Some a → IsNamedOnce sent
    → AreOutstanding life known phase sent outstanding
    → AreWaiting b life starts depth halting known phase outstanding sent made
    → AreWaiting b life starts depth halting known phase
    (λ slot. changed slot (Acknowledge a) (outstanding slot)) sent made
waiting_taken {starts = starts} {halting = halting} {known = known} {phase = phase}
    {outstanding = outstanding} {sent = sent} a i is_made once slots are =
    waiting_moved are halting known phase now None
    (λ k level m p at present kind part live waits. elim waits [
      | inl out ↦ elim (still_or outstanding a m.core.number m out) [
        | inl still ↦ inr (inl still)
        | inr emptied ↦
            let t = are.told i a is_made ((named a m emptied.answers).life ∙ present) in
            let told = told_of kind emptied sent k once t at in
            inl (elim (cases_lt level a.applied) [
              | inl low ↦ told.applied kind level p low part live
              | inr high ↦ absurd (none_left kind emptied told level p high part live)
            ])
      ]
      | inr pending ↦ inr (inr pending)
    ])
    (λ m none. absurd (cc))
    (λ awake x on waits same. await x (are.asked awake x on waits same) same)
  where
    now : Slot → Option MessageValue
    now = λ slot. changed slot (Acknowledge a) (outstanding slot)

    await : (x : ℕ) → AwaitsStart outstanding x → starts x ≡ known x → AwaitsStart now x
    await x old same = elim (still_or outstanding a x old.message old.at) [
      | inl still ↦ record { message = old.message; at = still; kind = old.kind }
      | inr emptied ↦
          let mine = named a old.message emptied.answers in
          let is = slots.core x old.message old.at in
          let t = are.told i a is_made (mine.life ∙ is.listed.present) in
          let theirs = named a t.message t.told.answers in
          let later = t.told.started (sym theirs.kind ∙ mine.kind ∙ old.kind) in
          let at_x : t.message.core.number ≡ x = sym theirs.core ∙ mine.core ∙ is.core in
          let number : t.message.number ≡ known x = grind (arith, nat_tests) in
          let more : starts t.message.core.number ≡ starts x = ap starts at_x in
          absurd (omega (arith, later, number, more, same))
    ]

-- What waits, after a core was started ------------------------------------------------------------

-- Sums -----------------------------------------------------------------------------------------

-- the sum of the starts below a domain is the same, as firmware and power controller say it
pub same_sum : (b : BoardValue) (starts : ℕ → ℕ) (n : Node)
    → starts_below b starts n ≡ known_below b starts n.level n.place
unfolding starts_below known_below
same_sum b starts n = refl

-- What a start does to sums: it counts once for each domain on the core's path.
abbrev pub CountsOnce : BoardValue → (ℕ → ℕ) → ℕ → Type 0
CountsOnce b starts c = (level place : ℕ) → level ≤ height b
    → starts_below b (one_more starts c) (record { level = level; place = place })
    ≡ starts_below b starts (record { level = level; place = place })
    + cond (is_on_path b c level place) 1 0

-- Which messages of a life the firmware sent: their generations are none above the starts.
abbrev pub AreOlder : BoardValue → ℕ → (ℕ → ℕ) → List MessageValue → Type 0
AreOlder b life starts sent = (k level : ℕ) (m : MessageValue) (p : Part)
    → slice_get sent k ≡ Some m → m.life ≡ life → slice_get m.parts level ≡ Some p
    → (level ≤ height b) × (p.generation ≤ known_on b starts m.core.number level)

-- What is so of a part that is live once a core was started.
pub record IsBeside (b : BoardValue) (starts : ℕ → ℕ) (c : ℕ) (m : MessageValue) (level : ℕ)
    (p : Part) : Type 0 where
  pub off : is_on_path b c level (up b level m.core.number) ≡ false
  pub live : IsLivePart b starts m level p

-- a part that is live after the start was live before, and not on the path of the core
beside : (b : BoardValue) (starts : ℕ → ℕ) (c level : ℕ) (m : MessageValue) (p : Part)
    → CountsOnce b starts c → level ≤ height b
    → p.generation ≤ known_on b starts m.core.number level
    → IsLivePart b (one_more starts c) m level p → IsBeside b starts c m level p
beside b starts c level m p counts low older live =
    let place : ℕ = up b level m.core.number in
    let n : Node = record { level = level; place = place } in
    let now = same_sum b (one_more starts c) n in
    let before = same_sum b starts n in
    let more = counts level place low in
    grind (arith, nat_tests, cases_Bool, cond-true, cond-false)

-- Started --------------------------------------------------------------------------------------

pub waiting_started : (b : BoardValue) (life : ℕ) (starts : ℕ → ℕ) (depth : ℕ → ℕ → ℕ)
    (halting : Bool) (known : ℕ → ℕ) (phase : ℕ → Phase)
    (outstanding : Slot → Option MessageValue) (sent : List MessageValue) (made : List AckValue)
    (c : ℕ) → CountsOnce b starts c → AreOlder b life starts sent
    → ((x : ℕ) → known x ≤ starts x)
    → AreWaiting b life starts depth halting known phase outstanding sent made
    → AreWaiting b life (one_more starts c) (with_path_on b c depth) halting known phase
    outstanding sent made
waiting_started b life starts depth halting known phase outstanding sent made c counts older le
    are =
    record {
      pursued = λ k m at present kind level p part live.
          let is = older k level m p at present part in
          let near = beside b starts c level m p counts is.0 is.1 live in
          let same = cond-false (is_on_path b c level (up b level m.core.number)) 0
          (depth level (up b level m.core.number)) near.off in
          elim (are.pursued k m at present kind level p part near.live) [
            | inl deep ↦ inl (same ∙ deep)
            | inr other ↦ inr other
          ];
      first = λ n on none. grind (arith, nat_tests, cases_Bool, cond-true, cond-false);
      asked = λ awake x on waits same.
          grind (arith, nat_tests, cases_eq, cond-true, eq-eqb, cond-false, ne_eqb);
      named = are.named;
      told = λ k a at present.
          let t = are.told k a at present in
          let life_m = sym (named a t.message t.told.answers).life ∙ present in
          record {
            index = t.index;
            message = t.message;
            at = t.at;
            told = still_told a t.index t.message t.at life_m t.told;
          };
    }
  where
    grown : (x : ℕ) → starts x ≤ one_more starts c x
    grown x = grind (arith, nat_tests, cases_eq, cond-true, eq-eqb, cond-false, ne_eqb)

    still_told : (a : AckValue) (i : ℕ) (m : MessageValue) → slice_get sent i ≡ Some m
        → m.life ≡ life → IsTold b starts depth a m
        → IsTold b (one_more starts c) (with_path_on b c depth) a m
    still_told a i m at present t = record {
      answers = t.answers;
      few = t.few;
      applied = λ kind level p low part live.
          let is = older i level m p at present part in
          let near = beside b starts c level m p counts is.0 is.1 live in
          cond-false (is_on_path b c level (up b level m.core.number)) 0
          (depth level (up b level m.core.number)) near.off
          ∙ t.applied kind level p low part near.live;
      stale = λ kind stale level p high part live.
          let is = older i level m p at present part in
          let near = beside b starts c level m p counts is.0 is.1 live in
          t.stale kind stale level p high part near.live;
      started = λ kind. omega (arith, t.started kind, grown m.core.number);
    }
