-- What a core asks that a word has suspended: the depths of the word's states.
use Rattle.psci_platform_safe.proofs.Words.{◌==◌, ◌∙◌, ◌∷◌, ◌≡◌, ◌≤◌, ap, arith, BadState}
use Rattle.psci_platform_safe.proofs.Words.{BoardValue, Bool, Call, cases_Bool, change, Code, cond}
use Rattle.psci_platform_safe.proofs.Words.{depth_at, depths_of, DescriptionValue, eq-eqb, false}
use Rattle.psci_platform_safe.proofs.Words.{firmware_values, function_effect, Fw, FwFault, half_of}
use Rattle.psci_platform_safe.proofs.Words.{height, inl, inr, is_there, IsBoard, IsLegalOn}
use Rattle.psci_platform_safe.proofs.Words.{IsPlatform, le-leb, List, MessageValue, mode_of, NoCore}
use Rattle.psci_platform_safe.proofs.Words.{NoLife, None, not, number, Option, Outcome, outcome_in}
use Rattle.psci_platform_safe.proofs.Words.{PlatformValue, Record, refl, Regs, reply_or, request_of}
use Rattle.psci_platform_safe.proofs.Words.{rest_named, Result, Sent, sent_in_numbers, slice_index}
use Rattle.psci_platform_safe.proofs.Words.{Some, states_of, stops, suc, sym, true, Values}
use Rattle.psci_platform_safe.proofs.Words.{word_for, zero, ℕ}
use Rattle.psci_headline.specs.psci_fw_spec.declared.fault.FwFault.TheVariants.{NotRunning}
use Rattle.psci_headline.specs.psci_fw_spec.Answer.{answer, outcome_of}
use Rattle.psci_headline.specs.psci_fw_spec.PowerCalls.{returns, suspend_asked}
use Rattle.psci_headline.specs.psci_fw_spec.Phases.{activity_of, is_running, Phase, Running}
use Rattle.psci_headline.specs.psci_fw_spec.Phases.{Suspended, unless_pending}
use Rattle.psci_headline.specs.psci_state.Cores.{asks}
use Rattle.psci_headline.specs.psci_world_spec.Legal.{firmware_history}
use Rattle.psci_platform_safe.specs.Asked.{AsksByWord, numbered}
use Rattle.psci_platform_safe.proofs.Backwards.{for_small, is_read, none_read, told}
use Rattle.psci_platform_safe.proofs.Records.{effect_now, legal_record, message_in, outcome_is}
use Rattle.psci_platform_safe.proofs.Records.{regs_in}
use Rattle.psci_platform.proofs.Swaps.{no_function_is_known}
use Rattle.psci_headline.specs.psci_abi.declared.request.Request.TheVariants as requests
use Rattle.psci_headline.specs.psci_fw_spec.declared.call.FwCall.TheVariants as calls
use Rattle.psci_headline.specs.psci_fw_spec.declared.outcome.Act.TheVariants as acts
use Rattle.psci_headline.specs.psci_fw_spec.declared.reply.FwReply.TheVariants as replies

-- A core that was stopped -----------------------------------------------------------------------

-- an outcome that stops its caller and sends something is none that returns, or of a halting life
no_stop : (o : Outcome) (m : MessageValue) (t : Bool) (code : Code) → o.act ≡ acts.Stop
    → o.message ≡ Some m → o ≡ cond t stops (returns code) → ⊥
no_stop o m t code act message e = grind arith

running : (ph : Phase) → is_running ph ≡ true → ph ≡ Running
running Running e = refl
running ph e = absurd (cc)

may_call : (s t u : Bool)
    → cond (not s) (Some NoCore) (cond t (Some NoLife) (cond u None (Some NotRunning))) ≡ None
    → u ≡ true
may_call true false true e = refl
may_call s t u e = absurd (cc)

no_fault : (o out : Outcome) (fault : Option FwFault) → replies.Out o ≡ reply_or fault out
    → fault ≡ None
no_fault o out None e = refl
no_fault o out (Some fault) e = absurd (cc)

ran : (b : BoardValue) (v : Values) (c : ℕ) (regs : Regs) (o : Outcome)
    → replies.Out o ≡ answer b v c (calls.Smc regs) → v.phase c ≡ Running
unfolding answer
ran b v c regs o e = grind (arith, running, may_call, no_fault)

-- Depths ----------------------------------------------------------------------------------------

depth_is : (d : DescriptionValue) (states : List ℕ) (level : ℕ) → level ≤ 3
    → slice_index (depths_of d states) level ≡ depth_at d level (slice_index states level)
depth_is d states zero low = refl
depth_is d states (suc zero) low = refl
depth_is d states (suc (suc zero)) low = refl
depth_is d states (suc (suc (suc zero))) low = refl
depth_is d states (suc (suc (suc (suc level)))) low = absurd (omega (arith, low))

-- a core that ran is suspended with what it asked
phase_is : (c : ℕ) (t : Bool) (before : Phase) (depths : List ℕ) → t ≡ true → before ≡ Running
    → cond t (unless_pending before (Suspended depths)) before ≡ Suspended depths
phase_is c true before depths same is =
    ap (λ (x : Phase). unless_pending x (Suspended depths)) is
phase_is c false before depths same is = absurd (cc)

module _ (p : PlatformValue) (r : Record) (older : List Record) (regs : Regs)
    (mpidr word entry context : ℕ) (sent : Sent) (board : IsBoard p.board)
    (own_words : IsPlatform p)
    (valid : IsLegalOn p (r ∷ older)) (event : r.event ≡ Call mpidr regs)
    (asked : request_of regs ≡ requests.CpuSuspend word entry context)
    (said : r.said ≡ Fw acts.Stop (Some sent)) where
  abbrev w : List Record
  w = numbered p older

  abbrev v : Values
  v = firmware_values p.board w

  abbrev c : ℕ
  c = number p mpidr

  abbrev own : Outcome
  own = outcome_in acts.Stop (Some (sent_in_numbers p sent))

  abbrev asks_word : ℕ
  asks_word =
      word_for p.description p.board.format (states_of p.description (mode_of p older) word)

  replied : replies.Out own ≡ answer p.board v c (calls.Smc (regs_in p older regs))
  replied = (legal_record p r older (Call mpidr regs) (Fw acts.Stop (Some sent)) valid event said).0

  out : own ≡ outcome_of p.board v c (request_of (regs_in p older regs))
  out = outcome_is p.board v c (regs_in p older regs) own replied

  there : is_there p.description.functions (request_of regs) ≡ true
  unfolding outcome_of
  there = elim (cases_Bool (is_there p.description.functions (request_of regs))) [
    | inl found ↦ found
    | inr lacks ↦
        absurd (no_stop own _ v.halting _ refl refl
        (out ∙ ap (outcome_of p.board v c)
        (no_function_is_known p.description p.board p.place (mode_of p older) regs lacks)))
  ]

  request : request_of (regs_in p older regs) ≡ requests.CpuSuspend asks_word entry context
  request =
      told p (mode_of p older) regs (requests.CpuSuspend word entry context) asked
      (ap (is_there p.description.functions) (sym asked) ∙ there)
      ∙ ap (λ (k : ℕ). requests.CpuSuspend k entry context)
      (half_of regs asks_word (for_small p.description p.board.format
      (states_of p.description (mode_of p older) word)))

  values : firmware_values p.board (numbered p (r ∷ older))
      ≡ change p.board (function_effect p.board c (requests.CpuSuspend asks_word entry context)
      acts.Stop (message_in p (Some sent))) v
  unfolding numbered firmware_history
  values = grind (arith, effect_now, event, said, request)

  by_states : (o : Option (List ℕ)) → states_of p.description (mode_of p older) word ≡ o
      → AsksByWord p r older mpidr word
  unfolding outcome_of
  by_states None e =
      absurd (no_stop own _ v.halting _ refl refl
      (out ∙ ap (outcome_of p.board v c) request
      ∙ ap (λ (x : Result (List ℕ) BadState). cond v.halting stops
      (suspend_asked p.board v c entry x)) (none_read p (mode_of p older) word e)))
  by_states (Some states) e =
      let depths = depths_of p.description states in
      let phase : (firmware_values p.board (numbered p (r ∷ older))).phase c ≡ Suspended depths =
      ap (λ (u : Values). u.phase c) values
      ∙ ap (λ (x : Result (List ℕ) BadState). cond (c == c) (unless_pending (v.phase c)
      (rest_named (record { address = entry; context = context }) x).phase) (v.phase c))
      (is_read p (mode_of p older) word states own_words e)
      ∙ phase_is c (c == c) (v.phase c) depths (eq-eqb c c refl)
      (ran p.board v c (regs_in p older regs) own replied) in
      record {
        states = states;
        row = e;
        asked = λ level low.
            ap (λ (t : Bool). cond t (asks (activity_of
            ((firmware_values p.board (numbered p (r ∷ older))).phase c)) level) 0)
            (le-leb level (height p.board) low)
            ∙ ap (λ (x : Phase). asks (activity_of x) level) phase
            ∙ depth_is p.description states level
            (let high = board.high in omega (arith, low, high));
      }

  pub asks_by_word : AsksByWord p r older mpidr word
  asks_by_word = by_states (states_of p.description (mode_of p older) word) refl
