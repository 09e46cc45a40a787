-- A core that runs stops and sends what it claims; a core is asked on, the system is asked to go
-- off, an acknowledgement is taken.
use Rattle.std.proofs.lemmas.Bool.{not-true, not_from_false}
use Rattle.psci_messages.specs.declared.kind.Kind.TheVariants.{Start}
use Rattle.psci_fw_spec.specs.Changes.{first_granted}
use Rattle.psci_fw_laws.specs.Renumbered.{IsPlain}
use Rattle.psci_fw_laws.specs.Messages.{AreGranted, HasCurrent}
use Rattle.psci_fw_laws.proofs.Claiming.{above_down, above_other, apart_new, claim_before}
use Rattle.psci_fw_laws.proofs.Claiming.{claim_more, claim_new, claim_old, IsNewDown, known_beside}
use Rattle.psci_fw_laws.proofs.Claiming.{none_arrived, NoneCurrent, part_from, part_has, quiet_new}
use Rattle.psci_fw_laws.proofs.Claiming.{quiet_other, quiet_phase, updated_at, updated_here}
use Rattle.psci_fw_laws.proofs.Claiming.{updated_there}
use Rattle.psci_fw_laws.proofs.Sending.{AreAt, outstanding_asked, outstanding_phase}
use Rattle.psci_fw_laws.proofs.Sending.{outstanding_put, outstanding_sent, outstanding_taken}
use Rattle.psci_fw_laws.proofs.Sending.{sent_halting, sent_new, sent_phase}
use Rattle.psci_fw_laws.proofs.Refusing.{known_none, known_own}
use Rattle.psci_fw_laws.proofs.Words.{◌&&◌, ◌<◌, ◌==◌, ◌∙◌, ◌∷◌, ◌≡◌, AckValue, and_from, and_parts}
use Rattle.psci_fw_laws.proofs.Words.{ap, AreSent, arith, BoardValue, Bool, cases_eq, claimed_or}
use Rattle.psci_fw_laws.proofs.Words.{cleared, cond, cond-true, cond_both, cores, Down, eqb-false}
use Rattle.psci_fw_laws.proofs.Words.{eqb-true, false, granted_with, has_node, Holds, inl, inr}
use Rattle.psci_fw_laws.proofs.Words.{is_kind, is_on, is_path_place, is_system, IsFromMessage}
use Rattle.psci_fw_laws.proofs.Words.{IsNewClaim, IsOfCore, IsOfLife, IsSent, Kind, known_below}
use Rattle.psci_fw_laws.proofs.Words.{List, MessageValue, nat_tests, None, not, OfSystem, Option}
use Rattle.psci_fw_laws.proofs.Words.{Part, Pending, Phase, PowerOn, refl, Running, slice_get}
use Rattle.psci_fw_laws.proofs.Words.{slot_of, Some, subst, sym, true, turns_off, unless_pending}
use Rattle.psci_fw_laws.proofs.Words.{up, updated, Values, with_acknowledgement, with_claims}
use Rattle.psci_fw_laws.proofs.Words.{with_halt, with_pending, with_phase, ℕ}
use Rattle.psci_board.proofs.Paths.{path_laws, span_laws}
use Rattle.psci_board.specs.Board.{IsBoard}
use Rattle.psci_fw_spec.specs.declared.status.Status.TheVariants as statuses

-- What is granted is what current claims say, after each change -----------------------------------

-- what holds of a depth on a path and off it
pub on_path : (P : ℕ → Type 0) (place at x y : ℕ) → (place ≡ at → P x) → ((place ≡ at → ⊥) → P y)
    → P (cond (place == at) x y)
on_path P place at x y here there = grind (arith, nat_tests, eqb-false, eqb-true)

-- a claim stays one once more was sent
current_more : {b : BoardValue} {life : ℕ} {known : ℕ → ℕ} {level place depth : ℕ}
    {sent : List MessageValue} (m : MessageValue) → HasCurrent b life known level place depth sent
    → HasCurrent b life known level place depth (m ∷ sent)
current_more {b} {life} {level} {place} {sent} m has = grind (arith, nat_tests, claim_old)

module _ {b : BoardValue} {life : ℕ} {known : ℕ → ℕ} {phase : ℕ → Phase} {granted : ℕ → ℕ → ℕ}
    {sent : List MessageValue} (are : AreGranted b life known phase granted sent) where
  -- a message that is no Down
  pub granted_other : (m : MessageValue) → is_kind m.kind Down ≡ false
      → AreGranted b life known phase granted (m ∷ sent)
  granted_other m other = record {
    claimed = λ level place h.
        current_more m (are.claimed level place h);
    held = λ level place p claim.
        are.held level place p (claim_before b life level place p m sent other claim);
  }

  -- one core is of another phase: it is pending as before, or no claim on its path is current
  pub granted_phase : (c : ℕ) (new : Phase)
      → (phase c ≡ Pending → (new ≡ Pending → ⊥) → NoneCurrent b life known sent c)
      → AreGranted b life known (updated phase c new) granted sent
  granted_phase c new none = record {
    claimed = are.claimed;
    held = λ level place p claim current rests.
        are.held level place p claim current
        (λ x on at. λ pending. elim (cases_eq x c) [
          | inl here ↦
              let not_new : new ≡ Pending → ⊥ =
              λ e. rests x on at (ap (updated phase c new) here ∙ updated_here phase c new ∙ e) in
              let low = none (ap phase (sym here) ∙ pending) not_new level place p
              (sym at ∙ ap (up b level) here) claim in
              omega (arith, low, current)
          | inr there ↦ rests x on at (updated_there phase c new x there ∙ pending)
        ]);
  }

  -- a core was asked on: nothing is granted on its path
  pub granted_pending : (c : ℕ) → c < cores b
      → AreGranted b life known (updated phase c Pending) (cleared b c granted) sent
  granted_pending c on = record {
    claimed = λ level place.
        on_path (λ d. 0 < d → HasCurrent b life known level place d sent) place (up b level c) 0
        (granted level place) (λ here h. absurd (omega arith))
        (λ there h. are.claimed level place h);
    held = λ level place p claim current rests.
        on_path (λ d. d ≡ p.depth) place (up b level c) 0 (granted level place)
        (λ here. absurd (rests c on (sym here) (updated_here phase c Pending)))
        (λ there. are.held level place p claim current
        (λ x i at pending. rests x i at
        (updated_at (λ y. y ≡ Pending) phase c Pending x (λ s. refl) (λ s. pending))));
  }

  -- a core has entered by a later start
  pub granted_arrival : {halting : Bool} (c n : ℕ) → AreSent b life halting known phase sent
      → c < cores b → known c < n
      → AreGranted b life (updated known c n) phase (cleared b c granted) sent
  granted_arrival c n all on later = record {
    claimed = λ level place.
        on_path (λ d. 0 < d → HasCurrent b life (updated known c n) level place d sent) place
        (up b level c) 0 (granted level place) (λ here h. absurd (omega arith))
        (λ there h.
        let has = are.claimed level place h in
        record {
          part = has.part;
          claim = has.claim;
          current = has.current ∙ sym (known_beside b known c n level place there);
          deep = has.deep;
        });
    held = λ level place p claim current rests.
        on_path (λ d. d ≡ p.depth) place (up b level c) 0 (granted level place)
        (λ here.
        let low = none_arrived _ all c n on later level place p here claim in
        absurd (omega (arith, low, current)))
        (λ there. are.held level place p claim
        (current ∙ known_beside b known c n level place there) rests);
  }

  -- a Down was sent by a core on whose path no claim was current
  pub granted_claim : (c : ℕ) (m : MessageValue) → m.kind ≡ Down → IsNewDown b life known c m
      → NoneCurrent b life known sent c
      → AreGranted b life known phase (granted_with b c m.parts granted) (m ∷ sent)
  granted_claim c m down new none = record {
    claimed = λ level place.
        on_path (λ d. 0 < d → HasCurrent b life known level place d (m ∷ sent)) place (up b level c)
        (claimed_or (slice_get m.parts level) (granted level place)) (granted level place)
        (λ here. claimed_here level place here (slice_get m.parts level) refl)
        (λ there h. old level place h);
    held = λ level place p claim current rests.
        on_path (λ d. d ≡ p.depth) place (up b level c)
        (claimed_or (slice_get m.parts level) (granted level place)) (granted level place)
        (λ here. elim (claim_more b life level place p m sent claim) [
          | inl part ↦
              let has = part_has b life level place m p part in
              ap (λ o. claimed_or o (granted level place)) has.part
          | inr before ↦
              let low = none level place p here before in
              absurd (omega (arith, low, current))
        ])
        (λ there. elim (claim_more b life level place p m sent claim) [
          | inl part ↦
              let has = part_has b life level place m p part in
              absurd (there (has.on ∙ ap (up b level) new.core))
          | inr before ↦ are.held level place p before current rests
        ]);
  }
    where
      old : (level place : ℕ) → 0 < granted level place
          → HasCurrent b life known level place (granted level place) (m ∷ sent)
      old level place h =
          current_more m (are.claimed level place h)

      claimed_here : (level place : ℕ) → place ≡ up b level c → (o : Option Part)
          → slice_get m.parts level ≡ o → 0 < claimed_or o (granted level place)
          → HasCurrent b life known level place (claimed_or o (granted level place)) (m ∷ sent)
      claimed_here level place here None e h = old level place h
      claimed_here level place here (Some p) e h = record {
        part = p;
        claim = claim_new b life level place p m sent (part_from b life level place m p (record {
          kind = down;
          present = new.present;
          on = here ∙ ap (up b level) (sym new.core);
          part = e;
        }));
        current = new.current level p e ∙ ap (known_below b known level) (sym here);
        deep = refl;
      }

-- a life has begun, of which nothing was sent
pub granted_life : {b : BoardValue} {life : ℕ} {phase : ℕ → Phase} {sent : List MessageValue}
    → ((level place : ℕ) (p : Part) → IsFromMessage b life level place p sent → ⊥)
    → AreGranted b life (λ c. 0) phase (first_granted b) sent
granted_life {b} {life} {sent = sent} none = record {
  claimed = λ level place.
      cond_both (has_node b (record { level = level; place = place })
      && not (is_path_place b 0 level place)) 3 0
      (λ d. 0 < d → HasCurrent b life (λ c. 0) level place d sent)
      (λ e h.
      let both = and_parts (has_node b (record { level = level; place = place })) _ e in
      record {
        part = record { level = level; depth = 3; generation = 0 };
        claim = inl (record {
          node = both.0;
          off_path = not-true (is_path_place b 0 level place) both.1;
          is = refl;
        });
        current = sym (known_none b level place);
        deep = refl;
      }) (λ e h. absurd (omega arith));
  held = λ level place p claim current rests. elim claim [
    | inl s ↦
        let off : not (is_path_place b 0 level place) ≡ true =
        not_from_false (is_path_place b 0 level place) s.off_path in
        let given : first_granted b level place ≡ 3 =
        cond-true (has_node b (record { level = level; place = place })
        && not (is_path_place b 0 level place)) 3 0 (and_from _ _ s.node off) in
        let deep : p.depth ≡ 3 = ap (λ (q : Part). q.depth) s.is in
        given ∙ sym deep
    | inr f ↦ absurd (none level place p f)
  ];
}

-- Started -----------------------------------------------------------------------------------------

-- Resting -----------------------------------------------------------------------------------------

-- a core that runs has sent no Down with its known start as the number
no_down : (b : BoardValue) (v : Values) (sent : List MessageValue) (c k : ℕ) (m : MessageValue)
    (p : Part) → IsBoard b → c < cores b → v.phase c ≡ Running
    → Holds b v sent → slice_get sent k ≡ Some m → m.life ≡ v.life → m.core.number ≡ c
    → m.number ≡ v.known c → m.kind ≡ Down → slice_get m.parts 0 ≡ Some p → ⊥
no_down b v sent c k m p board on runs holds at life core number kind part =
    let first : p.generation ≡ m.number = (holds.messages k m at).sound.first p part in
    let own : known_below b v.known 0 (up b 0 c) ≡ v.known c =
    ap (known_below b v.known 0) ((path_laws b board).core c)
    ∙ known_own b v.known c (span_laws b.levels board.tree) on in
    holds.quiet 0 (up b 0 c) p
    (inr (record {
      index = k;
      message = m;
      at = at;
      part = part_from b v.life 0 (up b 0 c) m p (record {
        kind = kind;
        present = life;
        on = ap (up b 0) (sym core);
        part = part;
      });
    })) (first ∙ number ∙ sym own) c on refl runs

-- a core that runs stops
pub rests : (b : BoardValue) (v : Values) (sent : List MessageValue) (c : ℕ) (left : Phase)
    → IsBoard b → c < cores b → v.phase c ≡ Running → (left ≡ Running → ⊥)
    → (left ≡ Pending → ⊥) → Holds b v sent → Holds b (with_phase c left v) sent
rests b v sent c left board on runs not_running not_pending holds =
    let new : Phase = unless_pending (v.phase c) left in
    let is : new ≡ left = ap (λ p. unless_pending p left) runs in
    let waits : v.phase c ≡ Pending → ⊥ =
    λ e. let no : Running ≡ Pending = sym runs ∙ e in absurd (cc) in
    record {
      lives = holds.lives;
      messages = sent_phase sent holds.messages c new (λ k m at life core number. record {
        pending = λ s. absurd (waits (ap v.phase (sym core)
            ∙ ((holds.messages k m at).present life).pending s (number ∙ ap v.known (sym core))));
        asked = λ d n p part. absurd (no_down b v sent c k m p board on runs holds at life
            core number d part);
      });
      apart = holds.apart;
      quiet = quiet_phase v.known holds.quiet c new (λ e. absurd (not_running (sym is ∙ e)));
      grants = granted_phase holds.grants c new (λ e. absurd (waits e));
      entered = holds.entered;
      slots = outstanding_phase holds.slots c new (λ m e. (
        λ s. absurd (waits ((holds.slots.core c m e).start s)),
        λ d n. not_pending (sym is ∙ n),
      ));
    }

no_system : (k : Kind) → k ≡ Down → is_system k ≡ true → ⊥
no_system k e s = grind arith

is_sent : (b : BoardValue) (v : Values) (m : MessageValue)
    → IsNewClaim b v m → IsSent b v.life v.halting v.known v.phase m
is_sent b v m new = grind (arith, nat_tests, no_system)

pub claims : (b : BoardValue) (v : Values) (sent : List MessageValue) (m : MessageValue)
    → IsNewClaim b v m → NoneCurrent b v.life v.known sent m.core.number → Holds b v sent
    → Holds b (with_claims b m v) (m ∷ sent)
claims b v sent m new none holds =
    let down : IsNewDown b v.life v.known m.core.number m =
    record { present = new.present; core = refl; current = new.current } in
    let entered : 0 < v.known m.core.number =
    omega (arith, new.sound.entered new.kind, new.number) in
    record {
      lives = holds.lives;
      messages = sent_new sent holds.messages m (is_sent b v m new);
      apart = apart_new (above_down new.sound.core entered down none) holds.apart;
      quiet = quiet_new v.known holds.quiet m new.quiet;
      grants = granted_claim holds.grants m.core.number m new.kind down none;
      entered = holds.entered;
      slots = outstanding_put (outstanding_sent holds.slots m) m
          (subst (λ k. AreAt v.life v.known v.phase (m ∷ sent) (slot_of k m.core) (Some m))
          (sym new.kind) (λ n e.
          let same : m ≡ n = cc in
          subst (λ (x : MessageValue). IsOfCore v.life v.known v.phase (m ∷ sent) m.core.number x)
          same (record {
            listed = record { index = 0; at = refl; present = new.present };
            core = refl;
            number = new.number;
            kind = ap is_system new.kind;
            start = λ s. let no : Down ≡ Start = sym new.kind ∙ s in absurd (cc);
            down = λ d. new.rests;
          })));
    }

pub not_down : (k : Kind) → is_kind k Down ≡ false → k ≡ Down → ⊥
not_down k e s = grind arith

plain_sent : (b : BoardValue) (v : Values) (m : MessageValue) (halting : Bool) (phase : ℕ → Phase)
    → IsPlain b v m → (m.kind ≡ Start → m.number < b.starts)
    → (is_system m.kind ≡ true → halting ≡ true) → (m.kind ≡ Start → phase m.core.number ≡ Pending)
    → IsSent b v.life halting v.known phase m
plain_sent b v m halting phase plain room halts pending = grind (arith, nat_tests, not_down)

-- Asked on ------------------------------------------------------------------------------------

pub asks_on : (b : BoardValue) (v : Values) (sent : List MessageValue) (asked : PowerOn)
    → IsPlain b v asked.message → asked.message.kind ≡ Start → asked.message.number < b.starts
    → Holds b v sent → Holds b (with_pending b asked v) (asked.message ∷ sent)
asks_on b v sent asked plain kind room holds =
    let m : MessageValue = asked.message in
    let t : ℕ = m.core.number in
    let phase : ℕ → Phase = updated v.phase t Pending in
    let other : is_system m.kind ≡ false = ap is_system kind in
    record {
      lives = holds.lives;
      messages = sent_new sent
          (sent_phase sent holds.messages t Pending (λ k n at life core number. record {
            pending = λ s. refl;
            asked = λ d rests. absurd (rests refl);
          })) m (plain_sent b v m v.halting phase plain (λ s. room)
          (λ s. let no : false ≡ true = sym other ∙ s in absurd (cc))
          (λ s. updated_here v.phase t Pending));
      apart = apart_new (above_other plain.other) holds.apart;
      quiet = quiet_other v.known (quiet_phase v.known holds.quiet t Pending (λ e. absurd (cc))) m
          plain.other;
      grants = granted_other (granted_pending holds.grants t plain.core) m plain.other;
      entered = λ x e. updated_at (λ s. is_on s ≡ false) v.status t statuses.Pending x (λ s. refl)
          (λ s. holds.entered x e);
      slots = outstanding_asked (outstanding_sent holds.slots m) t m
          (ap (λ k. slot_of k m.core) kind) (record {
            listed = record { index = 0; at = refl; present = plain.present };
            core = refl;
            number = plain.number;
            kind = other;
            start = λ s. updated_here v.phase t Pending;
            down = λ d. absurd (not_down m.kind plain.other d);
          });
    }

-- Halting -------------------------------------------------------------------------------------

system_slot : (k : Kind) (c : Rattle.psci_board.specs.declared.draft.Core.Core)
    → is_system k ≡ true → slot_of k c ≡ OfSystem
system_slot k c e = grind (arith, nat_tests)

pub system_other : (k : Kind) → is_system k ≡ true → is_kind k Down ≡ false
system_other k e = grind (arith, nat_tests)

system_start : (k : Kind) → is_system k ≡ true → k ≡ Start → ⊥
system_start k e s = grind arith

pub halts : (b : BoardValue) (v : Values) (sent : List MessageValue) (m : MessageValue)
    → IsPlain b v m → is_system m.kind ≡ true → Holds b v sent → Holds b (with_halt m v) (m ∷ sent)
halts b v sent m plain system holds = record {
  lives = holds.lives;
  messages = sent_new sent (sent_halting sent holds.messages) m
      (plain_sent b v m true v.phase plain (λ s. absurd (system_start m.kind system s)) (λ s. refl)
      (λ s. absurd (system_start m.kind system s)));
  apart = apart_new (above_other plain.other) holds.apart;
  quiet = quiet_other v.known holds.quiet m plain.other;
  grants = granted_other holds.grants m plain.other;
  entered = holds.entered;
  slots = outstanding_put (outstanding_sent holds.slots m) m
      (subst (λ s. AreAt v.life v.known v.phase (m ∷ sent) s (Some m))
      (sym (system_slot m.kind m.core system)) (λ n e.
      let same : m ≡ n = cc in (
        subst (IsOfLife v.life (m ∷ sent)) same
            (record { index = 0; at = refl; present = plain.present }),
        ap (λ (x : MessageValue). is_system x.kind) (sym same) ∙ system,
      )));
}

-- Acknowledgements ----------------------------------------------------------------------------

pub takes : (b : BoardValue) (v : Values) (sent : List MessageValue) (a : AckValue)
    → Holds b v sent → Holds b (with_acknowledgement b a v) sent
takes b v sent a holds = record {
  lives = holds.lives;
  messages = holds.messages;
  apart = holds.apart;
  quiet = holds.quiet;
  grants = holds.grants;
  entered = λ x e. updated_at (λ s. is_on s ≡ false) v.status a.core.number
      (cond (turns_off v a) statuses.Off (v.status a.core.number)) x
      (λ here. cond_both (turns_off v a) statuses.Off (v.status a.core.number)
      (λ s. is_on s ≡ false) (λ t. refl)
      (λ t. holds.entered a.core.number (ap v.known (sym here) ∙ e))) (λ there. holds.entered x e);
  slots = outstanding_taken holds.slots a;
}
