-- Sentences 1 and 5: what AFFINITY_INFO and NODE_HW_STATE told.
use Rattle.std.proofs.Common.{◌||◌, int_eq, pos}
use Rattle.std.proofs.lemmas.Cmp.{int_eq_equiv}
use Rattle.psci_headline.specs.Laws.{asked_of, hw_asked_of}
use Rattle.psci_headline.specs.psci_abi.Calls.{not_supported}
use Rattle.psci_headline.specs.psci_fw_spec.Answer.{answer, enter_fault, enter_outcome}
use Rattle.psci_headline.specs.psci_fw_spec.Answer.{function_outcome, is_old, outcome_at, resumes}
use Rattle.psci_headline.specs.psci_fw_spec.Changes.{with_arrival}
use Rattle.psci_headline.specs.psci_fw_spec.PowerCalls.{off_message, stops_with}
use Rattle.psci_headline.specs.psci_fw_spec.declared.fault.FwFault.TheVariants.{OldStart}
use Rattle.psci_headline.specs.psci_world_spec.Legal.{firmware_history, legal}
use Rattle.psci_headline.proofs.Entering.{Extended, returned}
use Rattle.psci_platform_safe.specs.Safe.{Answers, IsOff}
use Rattle.psci_platform_safe.specs.Asked.{numbered}
use Rattle.psci_platform_safe.proofs.Backwards.{affinity_told, hw_told}
use Rattle.psci_platform_safe.proofs.Records.{effect_now, entered_effect, has_entered, HasEntered}
use Rattle.psci_platform_safe.proofs.Records.{message_in, waiting}
use Rattle.psci_platform_safe.proofs.Moments.{boot_core, boot_zero, is_core, Laws, low_asked}
use Rattle.psci_platform_safe.proofs.Moments.{number_inside, only_one}
use Rattle.psci_platform_safe.proofs.Waiting.{first_is}
use Rattle.psci_platform_safe.proofs.Words.{[], ◌<◌, ◌==◌, ◌∙◌, ◌∷◌, ◌≡◌, ◌⊎◌, Act, AllOff, ap}
use Rattle.psci_platform_safe.proofs.Words.{arith, BoardValue, Bool, boot_opening, Call, cases_Bool}
use Rattle.psci_platform_safe.proofs.Words.{change, Code, cond, cores, domain_above, Enter, eq-eqb}
use Rattle.psci_platform_safe.proofs.Words.{eqb-true, Event, event_after, false, firmware_legal}
use Rattle.psci_platform_safe.proofs.Words.{firmware_values, Fw, FwFault, in_life, inl, inr}
use Rattle.psci_platform_safe.proofs.Words.{is_there, IsAskedOf, IsLegalOn, life_of, List, mode_of}
use Rattle.psci_platform_safe.proofs.Words.{nat_lt}
use Rattle.psci_platform_safe.proofs.Words.{NoCore, Node, NoLife, None, not, number, OneEntryEach}
use Rattle.psci_platform_safe.proofs.Words.{Opening, Option, option_map, Outcome, PlatformValue}
use Rattle.psci_platform_safe.proofs.Words.{Record, refl, Regs, regs_for, reply_or, Request}
use Rattle.psci_platform_safe.proofs.Words.{request_of, Said, said_in_numbers, Sent}
use Rattle.psci_platform_safe.proofs.Words.{sent_in_numbers, Some, Start, start_of_life, stops}
use Rattle.psci_platform_safe.proofs.Words.{subst, suc, sym, told_hw, told_off, true, Values, Waits}
use Rattle.psci_platform_safe.proofs.Words.{zero, ℕ}
use Rattle.psci_platform.proofs.Swaps.{no_function_is_known}
use Rattle.psci_headline.specs.psci_abi.declared.request.Request.TheVariants as requests
use Rattle.psci_headline.specs.psci_fw_spec.declared.outcome.Act.TheVariants as acts
use Rattle.psci_headline.specs.psci_fw_spec.declared.reply.FwReply.TheVariants as replies

-- the record in the firmware's words for one of the platform
abbrev pub record_for : PlatformValue → List Record → Record → Record
record_for p past r = record {
  event = event_after p (numbered p past) r.event;
  said = said_in_numbers p r.said;
}

-- What the firmware answered where the platform did.
record IsAnswered (p : PlatformValue) (r : Record) (past : List Record) (request : Request)
    (code : ℕ) : Type 0 where
  caller : ℕ
  regs : Regs
  own : Option Sent
  asks : request_of regs ≡ request
  event : event_after p (numbered p past) r.event
      ≡ Call (number p caller) (regs_for p.description p.board p.place (mode_of p past) regs)
  said : (record_for p past r).said ≡ Fw (acts.Return (record { 0 = pos code })) own

answered : (p : PlatformValue) (r : Record) (past : List Record) (request : Request) (code : ℕ)
    → Answers r request code → IsAnswered p r past request code
answered p r past request code a = record {
  caller = a.caller;
  regs = a.regs;
  own = option_map (sent_in_numbers p) a.sent;
  asks = a.asks;
  event = ap (event_after p (numbered p past)) a.event;
  said = ap (said_in_numbers p) a.said;
}

-- AFFINITY_INFO ---------------------------------------------------------------------------------

pub off_told : (p : PlatformValue) (r : Record) (past : List Record) (word level mpidr : ℕ) → Laws p
    → Answers r (requests.AffinityInfo level word) 1
    → IsAskedOf p word level mpidr
    → told_off p.board (record_for p past r).event (record_for p past r).said
    ≡ Some (domain_above p mpidr level)
off_told p r past word level mpidr laws a asked =
    let is = answered p r past (requests.AffinityInfo level word) 1 a in
    let regs = regs_for p.description p.board p.place (mode_of p past) is.regs in
    ap (λ (x : Event). told_off p.board x (record_for p past r).said) is.event
    ∙ ap (told_off p.board (Call (number p is.caller) regs)) is.said
    ∙ ap (asked_of p.board) (affinity_told p (mode_of p past) is.regs word level laws is.asks)
    ∙ laws.node_of word level (low_asked p word level mpidr asked)
    ∙ asked.domain

pub off : (p : PlatformValue) (r : Record) (past : List Record) (word level mpidr : ℕ) → Laws p
    → ((n : Node) → told_off p.board (record_for p past r).event
    (record_for p past r).said ≡ Some n → AllOff p.board (numbered p past) n)
    → Answers r (requests.AffinityInfo level word) 1
    → IsAskedOf p word level mpidr → IsOff p past mpidr
off p r past word level mpidr laws law a asked =
    let all = law (domain_above p mpidr level)
    (off_told p r past word level mpidr laws a asked)
    (number p mpidr) (number_inside p mpidr laws asked.core) refl in
    record { stopped = all.0; down = all.1 }

-- NODE_HW_STATE ---------------------------------------------------------------------------------

same_code : (one two : Code) → acts.Return one ≡ acts.Return two → one ≡ two
same_code one two e = cc

other : (code : ℕ) → record { 0 = pos code } ≡ not_supported → ⊥
other code e =
    let no : pos code ≡ not_supported.0 = ap (λ (x : Code). x.0) e in absurd (cc)

-- a function that is not there answers no code of 0 or more
never : (p : PlatformValue) (r : Record) (past : List Record) (request : Request) (code : ℕ)
    → IsLegalOn p (r ∷ past) → (is : IsAnswered p r past request code)
    → request_of (regs_for p.description p.board p.place (mode_of p past) is.regs)
    ≡ requests.Unknown → ⊥
unfolding firmware_history numbered
never p r past request code legal is unknown =
    let regs = regs_for p.description p.board p.place (mode_of p past) is.regs in
    let w = numbered p past in
    let valid : Extended p.board w (event_after p w r.event) (record_for p past r).said =
    firmware_legal p.board (record_for p past r ∷ w) legal in
    let here : Extended p.board w (Call (number p is.caller) regs)
    (Fw (acts.Return (record { 0 = pos code })) is.own) =
    subst (λ (s : Said). Extended p.board w (Call (number p is.caller) regs) s) is.said
    (subst (λ (e : Event). Extended p.board w e (record_for p past r).said) is.event valid) in
    let by = returned p.board w (number p is.caller) regs (record { 0 = pos code }) is.own here in
    let no : acts.Return (record { 0 = pos code })
    ≡ (function_outcome p.board (firmware_values p.board w) (number p is.caller)
    requests.Unknown).act =
    by.by
    ∙ ap (λ (q : Request). (function_outcome p.board (firmware_values p.board w)
    (number p is.caller) q).act) unknown in
    other code (same_code _ _ no)

hw_named : (p : PlatformValue) (r : Record) (past : List Record) (word level mpidr code : ℕ)
    → Laws p → IsAskedOf p word level mpidr
    → (is : IsAnswered p r past (requests.NodeHwState level word) code)
    → p.description.functions.node_hw_state ≡ true
    → hw_asked_of p.board (request_of
    (regs_for p.description p.board p.place (mode_of p past) is.regs))
    ≡ Some (domain_above p mpidr level)
hw_named p r past word level mpidr code laws asked is there =
    ap (hw_asked_of p.board) (hw_told p (mode_of p past) is.regs word level laws is.asks there)
    ∙ laws.node_of word level (low_asked p word level mpidr asked)
    ∙ asked.domain

pub hw_is_told : (p : PlatformValue) (r : Record) (past : List Record) (word level mpidr code : ℕ)
    → Laws p → IsLegalOn p (r ∷ past) → IsAskedOf p word level mpidr
    → Answers r (requests.NodeHwState level word) code
    → told_hw p.board code (record_for p past r).event (record_for p past r).said
    ≡ Some (domain_above p mpidr level)
hw_is_told p r past word level mpidr code laws legal asked a =
    let is = answered p r past (requests.NodeHwState level word) code a in
    elim (cases_Bool p.description.functions.node_hw_state) [
      | inl there ↦
          let same : int_eq (pos code) (pos code) ≡ true = int_eq_equiv.refl (pos code) in
          rw (is.event, is.said, same) (hw_named p r past word level mpidr code laws asked is there)
      | inr missing ↦
          absurd (never p r past (requests.NodeHwState level word) code legal is
          (no_function_is_known p.description p.board p.place (mode_of p past) is.regs
          (ap (is_there p.description.functions) is.asks ∙ missing)))
    ]

-- Entering ----------------------------------------------------------------------------------------
-- Sentence 4: each entry at an opening takes up one that waited for its core, or begins a life.

-- Where it enters -------------------------------------------------------------------------------

-- an entry that is not refused is in a life
some_life : (life : ℕ) (s u w : Bool) → cond (not s) (Some NoCore)
    (cond ((life == 0) || u) (Some NoLife) (cond w (Some OldStart) None)) ≡ None → 0 < life
some_life life false u w e = absurd (cc)
some_life zero true u w e = absurd (cc)
some_life (suc life) true u w e = omega arith

at_fault : (out own : Outcome) (f : Option FwFault) → reply_or f own ≡ replies.Out out
    → (f ≡ None) × (own ≡ out)
at_fault out own None e = (refl, cc)
at_fault out own (Some fault) e = absurd (cc)

neither : (t : Bool) (one two : Outcome) (act : Act) → (one.act ≡ act → ⊥) → (two.act ≡ act → ⊥)
    → (cond t one two).act ≡ act → ⊥
neither true one two act first second e = first e
neither false one two act first second e = second e

-- a core that goes on at an address found an opening
found_opening : (b : BoardValue) (found arrived : Values) (c : ℕ) (s : Start) (o : Opening)
    (own : Option Opening) → found.opening c ≡ own
    → (outcome_at b found arrived c s own).act ≡ acts.Enter o.address o.context
    → found.opening c ≡ Some o
found_opening b found arrived c s o (Some q) at e = grind arith
found_opening b found arrived c s o None at e =
    absurd (neither (resumes found c s) (record { act = acts.Resume; message = None })
    (stops_with (off_message b arrived c)) (acts.Enter o.address o.context) (λ no. absurd (cc))
    (λ no. absurd (cc)) e)

unless_halting : (b : BoardValue) (found arrived : Values) (c : ℕ) (s : Start) (o : Opening)
    (t : Bool)
    → (cond t stops (outcome_at b found arrived c s (found.opening c))).act
    ≡ acts.Enter o.address o.context → found.opening c ≡ Some o
unless_halting b found arrived c s o true e = absurd (cc)
unless_halting b found arrived c s o false e =
    found_opening b found arrived c s o (found.opening c) refl e

-- What an entry at an opening found.
record Finds (b : BoardValue) (v : Values) (c : ℕ) (s : Start) (o : Opening) : Type 0 where
  begun : 0 < s.life
  opening : (in_life b s.life v).opening c ≡ Some o

finds : (b : BoardValue) (past : List Record) (c : ℕ) (o : Opening)
    → (is : HasEntered b past c (acts.Enter o.address o.context))
    → Finds b (firmware_values b past) c is.start o
unfolding answer enter_outcome
finds b past c o is =
    let v = firmware_values b past in
    let found = in_life b is.start.life v in
    let both = at_fault is.out (enter_outcome b v c is.start) (enter_fault b v c is.start)
    is.reply in
    record {
      begun = some_life is.start.life (nat_lt c (cores b)) (nat_lt b.lives is.start.life)
          (is_old b v c is.start) both.0;
      opening = unless_halting b found (with_arrival b c is.start v) c is.start o found.halting
          (ap (λ (x : Outcome). x.act) both.1 ∙ is.does);
    }

-- One entry for each opening --------------------------------------------------------------------

module _ (p : PlatformValue) (r : Record) (older : List Record) (laws : Laws p)
    (valid : IsLegalOn p (r ∷ older)) (mpidr : ℕ) (o : Opening) (own : Option Sent)
    (event : r.event ≡ Enter mpidr) (said : r.said ≡ Fw (acts.Enter o.address o.context) own) where
  abbrev w : List Record
  w = numbered p older

  entered : HasEntered p.board w (number p mpidr) (acts.Enter o.address o.context)
  unfolding numbered
  entered =
      has_entered p.board w (number p mpidr) (acts.Enter o.address o.context)
      (option_map (sent_in_numbers p) own)
      (ap (said_in_numbers p) (sym said) ∙ valid.0
      ∙ ap (λ (x : Event). legal p.board w (event_after p w x)) event)

  now : firmware_values p.board (numbered p (r ∷ older))
      ≡ change p.board (entered_effect (number p mpidr) (Some entered.start)
      (acts.Enter o.address o.context) (message_in p own)) (firmware_values p.board w)
  unfolding numbered firmware_history
  now = grind (arith, effect_now, event, said)

  older_legal : IsLegalOn p older
  unfolding numbered
  older_legal = valid.1

  by_life : (t : Bool) → (entered.start.life == life_of p older) ≡ t
      → (cond t (firmware_values p.board w) (start_of_life p.board entered.start.life)).opening
      (number p mpidr) ≡ Some o
      → life_of p (r ∷ older)
      ≡ (cond t (firmware_values p.board w) (start_of_life p.board entered.start.life)).life
      → Waits p older mpidr o ⊎ ((mpidr ≡ p.boot) × (o ≡ boot_opening p)
      × (life_of p older ≡ life_of p (r ∷ older) → ⊥))
  by_life true same at life =
      let one : entered.start.life ≡ life_of p older = eqb-true _ _ same in
      let begun = (finds p.board w (number p mpidr) o entered).begun in
      inl (waiting p older laws older_legal mpidr o
      (is_core p mpidr entered.inside) at (omega (arith, one, begun)))
  by_life false other at life =
      let first = first_is p (number p mpidr) o at in
      inr (
        only_one p mpidr p.boot laws (is_core p mpidr entered.inside) (boot_core p laws)
            (first.0 ∙ sym (boot_zero p laws)),
        first.1,
        λ e. let no : true ≡ false = sym (eq-eqb _ _ (sym (e ∙ life))) ∙ other in absurd (cc),
      )

  pub one_entry : Waits p older mpidr o ⊎ ((mpidr ≡ p.boot) × (o ≡ boot_opening p)
      × (life_of p older ≡ life_of p (r ∷ older) → ⊥))
  one_entry =
      by_life (entered.start.life == life_of p older) refl
      (finds p.board w (number p mpidr) o entered).opening
      (ap (λ (u : Values). u.life) now)

pub entries : (p : PlatformValue) (past : List Record) → Laws p → IsLegalOn p past
    → OneEntryEach p past
entries p [] laws valid = tt
entries p (r ∷ older) laws valid = one_entry p r older laws valid
