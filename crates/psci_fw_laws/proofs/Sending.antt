-- What is said of each message stays so, and what is outstanding, after each change.
use Rattle.psci_fw_laws.proofs.Words.{◌<◌, ◌==◌, ◌∙◌, ◌∷◌, ◌≡◌, ◌≤◌, Acknowledge, AckValue}
use Rattle.psci_fw_laws.proofs.Words.{activity_of, ap, AreSent, arith, asks, BoardValue, Bool}
use Rattle.psci_fw_laws.proofs.Words.{changed, Clear, cond_both, Down, eqb-false, eqb-true}
use Rattle.psci_fw_laws.proofs.Words.{false, is_slot, is_system, IsOfCore, IsOfLife, IsSent}
use Rattle.psci_fw_laws.proofs.Words.{left_by, List, MessageValue, nat_tests, None, OfCore}
use Rattle.psci_fw_laws.proofs.Words.{OfSystem, Option, Part, PathLaws, Pending, Phase, Put}
use Rattle.psci_fw_laws.proofs.Words.{slice_get, Slot, slot_of, Some, subst, suc, sym, true, up}
use Rattle.psci_fw_laws.proofs.Words.{updated, zero, ℕ}
use Rattle.psci_messages.specs.declared.kind.Kind.TheVariants.{Start}
use Rattle.psci_fw_laws.proofs.Claiming.{updated_at, updated_there}
use Rattle.psci_fw_laws.proofs.Refusing.{known_gap, known_le}
use Rattle.psci_fw_laws.specs.Messages.{AreOutstanding}

-- What a message with the known start of its core as its number says of another phase of the core.
pub record IsFit (phase : Phase) (m : MessageValue) : Type 0 where
  pub pending : m.kind ≡ Start → phase ≡ Pending
  pub asked : m.kind ≡ Down → (phase ≡ Pending → ⊥) → (p : Part) → slice_get m.parts 0 ≡ Some p
      → p.depth ≡ asks (activity_of phase) 0

module _ {b : BoardValue} {life : ℕ} {halting : Bool} {known : ℕ → ℕ} {phase : ℕ → Phase}
    (sent : List MessageValue) (are : AreSent b life halting known phase sent) where
  -- one more message
  pub sent_new : (m : MessageValue) → IsSent b life halting known phase m
      → AreSent b life halting known phase (m ∷ sent)
  sent_new m is zero n at = search arith
  sent_new m is (suc k) n at = are k n at

  -- another life has begun
  pub sent_life : {later : ℕ} {halting_then : Bool} {known_then : ℕ → ℕ} {phase_then : ℕ → Phase}
      → life < later → AreSent b later halting_then known_then phase_then sent
  sent_life h k m at =
      let is = are k m at in
      record {
        sound = is.sound;
        begun = omega (arith, is.begun);
        present = λ e. absurd (omega (arith, is.begun, e));
      }

  -- the life is halting now
  pub sent_halting : AreSent b life true known phase sent
  sent_halting k m at =
      let is = are k m at in
      record {
        sound = is.sound;
        begun = is.begun;
        present = λ e. assumption (is.present e);
      }

  -- one core is of another phase
  pub sent_phase : (c : ℕ) (new : Phase)
      → ((k : ℕ) (m : MessageValue) → slice_get sent k ≡ Some m → m.life ≡ life → m.core.number ≡ c
      → m.number ≡ known c → IsFit new m) → AreSent b life halting known (updated phase c new) sent
  sent_phase c new fits k m at =
      let is = are k m at in
      record {
        sound = is.sound;
        begun = is.begun;
        present = λ e.
            let p = is.present e in
            record {
              number = p.number;
              older = p.older;
              lacking = p.lacking;
              halts = p.halts;
              pending = λ s n. updated_at (λ x. x ≡ Pending) phase c new m.core.number
                  (λ here. (fits k m at e here (n ∙ ap known here)).pending s)
                  (λ there. p.pending s n);
              asked = λ d n. updated_at
                  (λ x. (x ≡ Pending → ⊥) → (q : Part) → slice_get m.parts 0 ≡ Some q
                  → q.depth ≡ asks (activity_of x) 0) phase c new m.core.number
                  (λ here. (fits k m at e here (n ∙ ap known here)).asked d) (λ there. p.asked d n);
            };
      }

  -- one core has entered by a later start
  pub sent_arrival : (c n : ℕ) → PathLaws b → known c < n
      → AreSent b life halting (updated known c n) phase sent
  sent_arrival c n paths later k m at =
      let is = are k m at in
      let rises : (x : ℕ) → known x ≤ updated known c n x =
      λ x. updated_at (λ y. known x ≤ y) known c n x (λ s. omega (arith, ap known s))
      (λ s. omega arith) in
      record {
        sound = is.sound;
        begun = is.begun;
        present = λ e.
            let p = is.present e in
            let old : m.number ≡ updated known c n m.core.number → m.number ≡ known m.core.number =
            updated_at (λ y. m.number ≡ y → m.number ≡ known m.core.number) known c n m.core.number
            (λ s i. absurd (omega (arith, p.number, ap known s))) (λ s i. i) in
            record {
              number = omega (arith, p.number, rises m.core.number);
              older = λ l q i. omega (
                arith,
                p.older l q i,
                known_le b known (updated known c n) l (up b l m.core.number) (λ x j t. rises x),
              );
              lacking = λ l q r i j. omega (
                arith,
                p.lacking l q r i j,
                known_gap b known (updated known c n) m.core.number l paths rises,
              );
              halts = p.halts;
              pending = λ s i. p.pending s (old i);
              asked = λ d i. p.asked d (old i);
            };
      }

-- What is outstanding -----------------------------------------------------------------------------

of_life_more : {life : ℕ} {sent : List MessageValue} {n : MessageValue} (m : MessageValue)
    → IsOfLife life sent n → IsOfLife life (m ∷ sent) n
of_life_more m is = record { index = suc is.index; at = is.at; present = is.present }

slot_is : (s t : Slot) → is_slot s t ≡ true → s ≡ t
slot_is s t e = grind (arith, nat_tests, eqb-true)

-- nothing is outstanding
pub outstanding_none : {life : ℕ} {known : ℕ → ℕ} {phase : ℕ → Phase} {sent : List MessageValue}
    → AreOutstanding life known phase sent (λ slot. None)
outstanding_none = grind (arith, nat_tests)

-- what a core's slot may hold in place of what it holds
abbrev pub AreAt : ℕ → (ℕ → ℕ) → (ℕ → Phase) → List MessageValue → Slot → Option MessageValue
    → Type 0
AreAt life known phase sent (OfCore c) o =
    (m : MessageValue) → o ≡ Some m → IsOfCore life known phase sent c m
AreAt life known phase sent OfSystem o =
    (m : MessageValue) → o ≡ Some m → IsOfLife life sent m × (is_system m.kind ≡ true)

are_all : {life : ℕ} {known : ℕ → ℕ} {phase : ℕ → Phase} {sent : List MessageValue}
    {outstanding : Slot → Option MessageValue}
    → ((slot : Slot) → AreAt life known phase sent slot (outstanding slot))
    → AreOutstanding life known phase sent outstanding
are_all all = record {
  core = λ c. all (OfCore c);
  system = λ m e. (all OfSystem m e).0;
  halts = λ m e. (all OfSystem m e).1;
}

module _ {life : ℕ} {known : ℕ → ℕ} {phase : ℕ → Phase} {sent : List MessageValue}
    {outstanding : Slot → Option MessageValue}
    (are : AreOutstanding life known phase sent outstanding) where
  -- one more message was sent, and is not outstanding yet
  pub outstanding_sent : (m : MessageValue) → AreOutstanding life known phase (m ∷ sent) outstanding
  outstanding_sent m = record {
    core = λ c n e. let is = are.core c n e in assumption (is, of_life_more m is.listed);
    system = λ n e. of_life_more m (are.system n e);
    halts = are.halts;
  }

  -- one core is of another phase, which fits what is outstanding for it
  pub outstanding_phase : (c : ℕ) (new : Phase)
      → ((m : MessageValue) → outstanding (OfCore c) ≡ Some m
      → (m.kind ≡ Start → new ≡ Pending) × (m.kind ≡ Down → new ≡ Pending → ⊥))
      → AreOutstanding life known (updated phase c new) sent outstanding
  outstanding_phase c new fits = record {
    core = λ x m e.
        let is = are.core x m e in
        let fit = updated_at
        (λ y. (m.kind ≡ Start → y ≡ Pending) × (m.kind ≡ Down → y ≡ Pending → ⊥)) phase c new x
        (λ here. fits m (ap (λ y. outstanding (OfCore y)) (sym here) ∙ e))
        (λ there. (is.start, is.down)) in
        assumption (is, fit);
    system = are.system;
    halts = are.halts;
  }

  are_at : (slot : Slot) → AreAt life known phase sent slot (outstanding slot)
  are_at (OfCore c) = are.core c
  are_at OfSystem = λ m e. (are.system m e, are.halts m e)

  -- a message that was sent is outstanding
  pub outstanding_put : (m : MessageValue)
      → AreAt life known phase sent (slot_of m.kind m.core) (Some m)
      → AreOutstanding life known phase sent (λ slot. changed slot (Put m) (outstanding slot))
  outstanding_put m is = grind (arith, nat_tests, slot_is, AreAt, are_all, are_at)

  -- a Start was sent for a core, which is pending now
  pub outstanding_asked : (c : ℕ) (m : MessageValue)
      → slot_of m.kind m.core ≡ OfCore c → IsOfCore life known (updated phase c Pending) sent c m
      → AreOutstanding life known (updated phase c Pending) sent
      (λ slot. changed slot (Put m) (outstanding slot))
  outstanding_asked c m slot_is_c is = are_all
      (λ slot. cond_both (is_slot (slot_of m.kind m.core) slot) (Some m) (outstanding slot)
      (AreAt life known new sent slot)
      (λ here. subst (λ s. AreAt life known new sent s (Some m)) (sym slot_is_c ∙ slot_is _ _ here)
      at_c) (λ there. beside slot (ap (λ s. is_slot s slot) (sym slot_is_c) ∙ there)))
    where
      new : ℕ → Phase
      new = updated phase c Pending

      at_c : AreAt life known new sent (OfCore c) (Some m)
      at_c = λ n e. let same : m ≡ n = cc in subst (IsOfCore life known new sent c) same is

      beside : (slot : Slot) → is_slot (OfCore c) slot ≡ false
          → AreAt life known new sent slot (outstanding slot)
      beside (OfCore x) there = λ n e.
          let old = are.core x n e in
          let other : x ≡ c → ⊥ = λ s. eqb-false c x there (sym s) in
          let same : new x ≡ phase x = updated_there phase c Pending x other in
          record {
            listed = old.listed;
            core = old.core;
            number = old.number;
            kind = old.kind;
            start = λ s. same ∙ old.start s;
            down = λ d i. old.down d (sym same ∙ i);
          }
      beside OfSystem there = are_at OfSystem

  at_left : (slot : Slot) (a : AckValue) (o : Option MessageValue)
      → AreAt life known phase sent slot o → AreAt life known phase sent slot (left_by a o)
  at_left slot a o is = grind (arith, nat_tests, AreAt)

  -- an acknowledgement was taken
  pub outstanding_taken : (a : AckValue)
      → AreOutstanding life known phase sent
      (λ slot. changed slot (Acknowledge a) (outstanding slot))
  outstanding_taken a = grind (arith, nat_tests, AreAt, are_all, are_at, at_left)

  -- a core has entered: nothing is outstanding for it
  pub outstanding_arrival : (c n : ℕ)
      → AreOutstanding life (updated known c n) phase sent
      (λ slot. changed slot (Clear (record { number = c })) (outstanding slot))
  outstanding_arrival c n = are_all at
    where
      at : (slot : Slot) → AreAt life (updated known c n) phase sent slot
          (changed slot (Clear (record { number = c })) (outstanding slot))
      at (OfCore x) = λ m. cond_both (c == x) None (outstanding (OfCore x))
          (λ o. o ≡ Some m → IsOfCore life (updated known c n) phase sent x m)
          (λ here e. absurd (cc))
          (λ there e.
          let is = are.core x m e in
          let other : x ≡ c → ⊥ = λ s. eqb-false c x there (sym s) in
          assumption (is, is.number ∙ sym (updated_there known c n x other)))
      at OfSystem = are_at OfSystem
