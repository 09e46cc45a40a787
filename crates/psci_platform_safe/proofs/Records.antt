-- What a record of a platform comes down to for the firmware, and what its call opens.
use Rattle.std.proofs.lemmas.Bool.{ltb-true}
use Rattle.psci_headline.specs.psci_fw_spec.Effects.{after, effect_of}
use Rattle.psci_headline.specs.psci_fw_spec.Answer.{answer, call_fault}
use Rattle.psci_headline.specs.psci_fw_spec.History.{values_of}
use Rattle.psci_headline.specs.psci_fw_spec.declared.reply.FwReply.{FwReply}
use Rattle.psci_headline.specs.psci_world_spec.Legal.{entered, firmware_history, legal, said_of}
use Rattle.psci_headline.specs.psci_world_spec.Legal.{took}
use Rattle.psci_headline.specs.psci_world_spec.declared.said.Said.TheVariants.{Taken as Took}
use Rattle.psci_platform_safe.specs.Asked.{numbered}
use Rattle.psci_platform_safe.proofs.Backwards.{on_back, suspend_back, target_number}
use Rattle.psci_platform_safe.proofs.Histories.{asks_on, opens, opens_none, rests, succeeds}
use Rattle.psci_platform_safe.proofs.Moments.{boot_core, boot_zero, is_core, Laws, number_inside}
use Rattle.psci_platform_safe.proofs.Moments.{only_one}
use Rattle.psci_platform_safe.proofs.Waiting.{AreWaiting, leaves, none_one}
use Rattle.psci_platform_safe.proofs.Words.{[], ◌++◌, ◌<◌, ◌∙◌, ◌∷◌, ◌≡◌, Absent, acks, AckValue}
use Rattle.psci_platform_safe.proofs.Words.{Act, ap, arith, arrived, AsksOn, BoardValue, Bool, Call}
use Rattle.psci_platform_safe.proofs.Words.{call, change, Code, cond, controller_values, core_of}
use Rattle.psci_platform_safe.proofs.Words.{cores, Effect, Enter, enter_effect, Event, event_after}
use Rattle.psci_platform_safe.proofs.Words.{false, firmware_legal, firmware_values, function_effect}
use Rattle.psci_platform_safe.proofs.Words.{Fw, FwFault, if_started, indexed, inl, inr, IsCore}
use Rattle.psci_platform_safe.proofs.Words.{IsLegal, IsLegalOn, last_start, life_of, List}
use Rattle.psci_platform_safe.proofs.Words.{MessageValue, mode_of, nat_lt, None, Nothing, number}
use Rattle.psci_platform_safe.proofs.Words.{Opening, Opens, Option, option_map, Outcome, outcome_in}
use Rattle.psci_platform_safe.proofs.Words.{outcome_of, place, Place, PlatformValue, PowerOn}
use Rattle.psci_platform_safe.proofs.Words.{Record, refl, Regs, regs_for, reply_or, request_of}
use Rattle.psci_platform_safe.proofs.Words.{Rest, Rests, Said, said_in_numbers, Sent}
use Rattle.psci_platform_safe.proofs.Words.{sent_in_numbers, Some, Start, Started, subst, success}
use Rattle.psci_platform_safe.proofs.Words.{sym, Take, Taken, target, true, Values, Waits, ℕ}
use Rattle.psci_headline.proofs.fw_spec.Stopping.{values_more, values_none}
use Rattle.psci_headline.proofs.fw_spec.Changing.{was_asked}
use Rattle.psci_headline.specs.psci_abi.declared.request.Request.TheVariants as requests
use Rattle.psci_headline.specs.psci_fw_spec.declared.call.FwCall.TheVariants as calls
use Rattle.psci_headline.specs.psci_fw_spec.declared.outcome.Act.TheVariants as acts
use Rattle.psci_headline.specs.psci_fw_spec.declared.reply.FwReply.TheVariants as replies
use Rattle.psci_headline.specs.psci_messages.declared.taken.Taken.TheVariants as takens

-- Effects ---------------------------------------------------------------------------------------

-- the message that was sent, in the firmware's words
abbrev pub message_in : PlatformValue → Option Sent → Option MessageValue
message_in p own = option_map (λ s. s.message) (option_map (sent_in_numbers p) own)

-- the registers that the firmware is called with after these records
abbrev pub regs_in : PlatformValue → List Record → Regs → Regs
regs_in p older regs = regs_for p.description p.board p.place (mode_of p older) regs

abbrev pub entered_effect : ℕ → Option Start → Act → Option MessageValue → Effect
entered_effect c None act m = Nothing
entered_effect c (Some s) act m = enter_effect c s act m

abbrev pub took_effect : BoardValue → Option AckValue → Taken → Effect
took_effect b None t = Nothing
took_effect b (Some a) t = effect_of b 0 (calls.Take a) (replies.Taken t)

-- what a record comes down to
abbrev pub effect_in : PlatformValue → List Record → Event → Said → Effect
effect_in p older (Call m regs) (Fw act own) =
    function_effect p.board (number p m) (request_of (regs_in p older regs)) act (message_in p own)
effect_in p older (Enter m) (Fw act own) =
    entered_effect (number p m)
    (last_start (controller_values p.board (numbered p older)) (number p m)) act (message_in p own)
effect_in p older (Take k) (Took t) =
    took_effect p.board (indexed (acks (numbered p older)) k) t
effect_in p older event said = Nothing

-- the firmware's values after a record
abbrev pub values_with : PlatformValue → List Record → Event → Said → Values
values_with p older event said =
    let w = numbered p older in
    values_of p.board (call (controller_values p.board w) (acks w) (event_after p w event)
    (said_in_numbers p said) ++ firmware_history p.board w)

entered_now : (p : PlatformValue) (older : List Record) (c : ℕ) (s : Option Start) (act : Act)
    (own : Option Sent)
    → values_of p.board (entered c s (outcome_in act (option_map (sent_in_numbers p) own))
    ++ firmware_history p.board (numbered p older))
    ≡ change p.board (entered_effect c s act (message_in p own))
    (firmware_values p.board (numbered p older))
unfolding after
entered_now p older c None act own = refl
entered_now p older c (Some s) act own =
    values_more p.board _ (firmware_history p.board (numbered p older))

took_now : (p : PlatformValue) (older : List Record) (a : Option AckValue) (t : Taken)
    → values_of p.board (took a t ++ firmware_history p.board (numbered p older))
    ≡ change p.board (took_effect p.board a t) (firmware_values p.board (numbered p older))
unfolding after
took_now p older None t = refl
took_now p older (Some a) t = values_more p.board _ (firmware_history p.board (numbered p older))

pub effect_now : (p : PlatformValue) (older : List Record) (event : Event) (said : Said)
    → values_with p older event said
    ≡ change p.board (effect_in p older event said) (firmware_values p.board (numbered p older))
unfolding after
effect_now p older (Call m regs) (Fw act own) =
    values_more p.board _ (firmware_history p.board (numbered p older))
effect_now p older (Enter m) (Fw act own) =
    entered_now p older (number p m)
    (last_start (controller_values p.board (numbered p older)) (number p m)) act own
effect_now p older (Take k) (Took t) =
    took_now p older (indexed (acks (numbered p older)) k) t
effect_now p older event said = refl

-- a record that is legal is a legal call of the firmware, by what its event and its answer are
pub legal_record : (p : PlatformValue) (r : Record) (older : List Record) (event : Event)
    (said : Said) → IsLegalOn p (r ∷ older) → r.event ≡ event → r.said ≡ said
    → IsLegal p.board (call (controller_values p.board (numbered p older))
    (acks (numbered p older)) (event_after p (numbered p older) event) (said_in_numbers p said)
    ++ firmware_history p.board (numbered p older))
unfolding numbered firmware_history
legal_record p r older event said valid e s =
    let w = numbered p older in
    subst (λ (x : Said). IsLegal p.board (call (controller_values p.board w) (acks w)
    (event_after p w event) (said_in_numbers p x) ++ firmware_history p.board w)) s
    (subst (λ (x : Event). IsLegal p.board (call (controller_values p.board w) (acks w)
    (event_after p w x) (said_in_numbers p r.said) ++ firmware_history p.board w)) e
    (firmware_legal p.board (numbered p (r ∷ older)) valid))

-- What a call opens -----------------------------------------------------------------------------

by_fault : (o out : Outcome) (fault : Option FwFault) → replies.Out o ≡ reply_or fault out → o ≡ out
by_fault o out (Some fault) e = absurd (cc)
by_fault o out None e = cc

pub outcome_is : (b : BoardValue) (v : Values) (c : ℕ) (regs : Regs) (o : Outcome)
    → replies.Out o ≡ answer b v c (calls.Smc regs) → o ≡ outcome_of b v c (request_of regs)
unfolding answer
outcome_is b v c regs o e =
    by_fault o (outcome_of b v c (request_of regs)) (call_fault b v c) e

some_sent : (p : PlatformValue) (own : Option Sent) (m : MessageValue)
    → message_in p own ≡ Some m → (s : Sent) × (own ≡ Some s)
some_sent p None m e = absurd (cc)
some_sent p (Some s) m e = (s, refl)

module _ (p : PlatformValue) (older : List Record) (r : Record) (m : ℕ) (regs : Regs) (act : Act)
    (own : Option Sent) (laws : Laws p) (event : r.event ≡ Call m regs)
    (said : r.said ≡ Fw act own) (mpidr : ℕ) (is : IsCore p mpidr) (answered : replies.Out
    (outcome_in act (option_map (sent_in_numbers p) own))
    ≡ answer p.board (firmware_values p.board (numbered p older)) (number p m)
    (calls.Smc (regs_in p older regs))) where
  abbrev v : Values
  v = firmware_values p.board (numbered p older)

  abbrev own_regs : Regs
  own_regs = regs_in p older regs

  pub opens_on : (caller : ℕ) (asked : PowerOn)
      → function_effect p.board (number p m) (request_of own_regs) act (message_in p own)
      ≡ AsksOn caller asked → target asked ≡ number p mpidr
      → Opens p older r mpidr asked.opening
  opens_on caller asked e to =
      let on = asks_on p.board (number p m) caller asked (request_of own_regs) act
      (message_in p own) e in
      let named = was_asked p.board v (number p m) caller own_regs asked
      (ap (effect_of p.board (number p m) (calls.Smc own_regs)) (sym answered) ∙ e) in
      let back = on_back p (mode_of p older) regs named.word asked.opening.address
      asked.opening.context laws named.request in
      let at : number p back.target ≡ number p mpidr =
      target_number p back.target asked.message.core laws
      (ap (core_of p.board) (sym back.named) ∙ named.core) ∙ to in
      let inside : number p back.target < cores p.board =
      subst (λ (c : ℕ). c < cores p.board) (sym at) (number_inside p mpidr laws is) in
      let same : back.target ≡ mpidr =
      only_one p back.target mpidr laws (is_core p back.target inside) is at in
      let out = outcome_is p.board v (number p m) own_regs
      (outcome_in act (option_map (sent_in_numbers p) own)) answered in
      let code : on.code ≡ success =
      succeeds p.board v (number p m) (request_of own_regs) on.code asked.message
      (ap (λ (o : Outcome). o.act) (sym out) ∙ on.returns)
      (ap (λ (o : Outcome). o.message) (sym out) ∙ on.sends) in
      let sent = some_sent p own asked.message on.sends in
      inl (record {
        caller = m;
        regs = regs;
        sent = sent.0;
        event = event;
        asks = back.asks
            ∙ ap (λ (t : ℕ). requests.CpuOn t asked.opening.address asked.opening.context) same;
        said = said
            ∙ ap (λ (a : Act). Fw a own) (on.returns ∙ ap (λ (c : Code). acts.Return c) code)
            ∙ ap (Fw (acts.Return success)) sent.1;
      })

  pub opens_rest : (o : Opening) (rest : Rest) (message : MessageValue)
      → function_effect p.board (number p m) (request_of own_regs) act (message_in p own)
      ≡ Rests (number p mpidr) rest message → rest.opening ≡ Some o
      → Opens p older r mpidr o
  opens_rest o rest message e at =
      let stop = rests p.board (number p m) (number p mpidr) rest message (request_of own_regs) act
      (message_in p own) e in
      let inside : number p m < cores p.board =
      subst (λ (c : ℕ). c < cores p.board) (sym stop.caller)
      (number_inside p mpidr laws is) in
      let same : m ≡ mpidr =
      only_one p m mpidr laws (is_core p m inside) is stop.caller in
      let sent = some_sent p own message stop.sends in
      inr (record {
        regs = regs;
        sent = sent.0;
        event = event ∙ ap (λ (k : ℕ). Call k regs) same;
        asks = suspend_back p (mode_of p older) regs o laws.is
            (ap (λ (x : Rest). x.opening) stop.rests ∙ at);
        said = said ∙ ap (λ (a : Act). Fw a own) stop.stops ∙ ap (Fw acts.Stop) sent.1;
      })

-- Entries -----------------------------------------------------------------------------------------
-- Sentence 4: after each legal history the openings that the firmware keeps wait, and each entry at
-- an opening takes up one of them, or begins a life.

-- Entries open nothing --------------------------------------------------------------------------

enter_opens : (c : ℕ) (s : Start) (act : Act) (m : Option MessageValue)
    → opens (enter_effect c s act m) ≡ false
enter_opens c s acts.Stop (Some m) = refl
enter_opens c s act m = refl

enter_arrives : (c : ℕ) (s : Start) (act : Act) (m : Option MessageValue)
    → arrived (enter_effect c s act m) ≡ Some (record { core = c; start = s })
enter_arrives c s acts.Stop (Some m) = refl
enter_arrives c s act m = refl

took_opens : (b : BoardValue) (a : Option AckValue) (t : Taken)
    → opens (took_effect b a t) ≡ false
took_opens b (Some a) takens.Used = refl
took_opens b a t = refl

-- What is said of an entry ----------------------------------------------------------------------

-- A core entered that was started, and the firmware answered this act.
pub record HasEntered (b : BoardValue) (past : List Record) (c : ℕ) (act : Act) : Type 0 where
  pub start : Start
  pub last : last_start (controller_values b past) c ≡ Some start
  pub inside : c < cores b
  pub out : Outcome
  pub reply : answer b (firmware_values b past) c (calls.Enter start) ≡ replies.Out out
  pub does : out.act ≡ act

by_reply : (b : BoardValue) (past : List Record) (c n : ℕ) (act : Act) (own : Option Sent)
    (start : Start) (reply : FwReply) → last_start (controller_values b past) c ≡ Some start
    → c < cores b → answer b (firmware_values b past) c (calls.Enter start) ≡ reply
    → Fw act own ≡ said_of n reply → HasEntered b past c act
by_reply b past c n act own start (replies.Out o) last inside is e = record {
  start = start;
  last = last;
  inside = inside;
  out = o;
  reply = is;
  does = let same : act ≡ o.act = cc in sym same;
}
by_reply b past c n act own start reply last inside is e = absurd (cc)

by_place : (b : BoardValue) (past : List Record) (c : ℕ) (act : Act) (own : Option Sent)
    (p : Place) (start : Option Start) → last_start (controller_values b past) c ≡ start
    → c < cores b → Fw act own ≡ if_started b past c p start → HasEntered b past c act
by_place b past c act own Started (Some s) last inside e =
    by_reply b past c _ act own s (answer b (firmware_values b past) c (calls.Enter s)) last inside
    refl e
by_place b past c act own p start last inside e = absurd (cc)

by_board : (b : BoardValue) (past : List Record) (c : ℕ) (act : Act) (own : Option Sent) (t : Bool)
    → nat_lt c (cores b) ≡ t
    → Fw act own ≡ cond t (if_started b past c (place b past c)
    (last_start (controller_values b past) c)) Absent → HasEntered b past c act
by_board b past c act own true inside e =
    by_place b past c act own (place b past c) (last_start (controller_values b past) c) refl
    (ltb-true c (cores b) inside) e
by_board b past c act own false inside e = absurd (cc)

pub has_entered : (b : BoardValue) (past : List Record) (c : ℕ) (act : Act) (own : Option Sent)
    → Fw act own ≡ legal b past (Enter c) → HasEntered b past c act
unfolding legal
has_entered b past c act own e = by_board b past c act own (nat_lt c (cores b)) refl e

-- What waits ------------------------------------------------------------------------------------

module _ (p : PlatformValue) (r : Record) (older : List Record) (laws : Laws p)
    (valid : IsLegalOn p (r ∷ older)) (before : AreWaiting p older) (mpidr : ℕ) (o : Opening)
    (is : IsCore p mpidr)
    (at : (firmware_values p.board (numbered p (r ∷ older))).opening (number p mpidr) ≡ Some o)
    (some : 0 < life_of p (r ∷ older)) where
  abbrev w : List Record
  w = numbered p older

  now_is : (event : Event) (said : Said) → r.event ≡ event → r.said ≡ said
      → firmware_values p.board (numbered p (r ∷ older))
      ≡ change p.board (effect_in p older event said) (firmware_values p.board w)
  unfolding numbered firmware_history
  now_is event said e s = grind (arith, effect_now)

  by_call : (m : ℕ) (regs : Regs) (act : Act) (own : Option Sent) → r.event ≡ Call m regs
      → r.said ≡ Fw act own → Waits p (r ∷ older) mpidr o
  by_call m regs act own e s =
      let reply = (legal_record p r older (Call m regs) (Fw act own) valid e s).0 in
      leaves p r older laws (boot_core p laws) (boot_zero p laws) before
      (effect_in p older (Call m regs) (Fw act own))
      (now_is (Call m regs) (Fw act own) e s) mpidr o is at some
      (λ out. none_one mpidr r (λ q sent ev sa.
      let no : Call m regs ≡ Enter mpidr = sym e ∙ ev in absurd (cc)))
      (opens_on p older r m regs act own laws e s mpidr is reply)
      (opens_rest p older r m regs act own laws e s mpidr is reply o)

  by_start : (m : ℕ) (act : Act) (own : Option Sent) (start : Option Start)
      → last_start (controller_values p.board w) (number p m) ≡ start
      → r.event ≡ Enter m → r.said ≡ Fw act own
      → firmware_values p.board (numbered p (r ∷ older))
      ≡ change p.board (entered_effect (number p m) start act (message_in p own))
      (firmware_values p.board w) → Waits p (r ∷ older) mpidr o
  unfolding numbered legal
  by_start m act own None last e s now =
      let is = has_entered p.board w (number p m) act (option_map (sent_in_numbers p) own)
      (ap (said_in_numbers p) (sym s) ∙ valid.0
      ∙ ap (λ (x : Event). legal p.board w (event_after p w x)) e) in
      let no : None ≡ Some is.start = sym last ∙ is.last in
      absurd (cc)
  by_start m act own (Some start) last e s now =
      leaves p r older laws (boot_core p laws) (boot_zero p laws) before
      (enter_effect (number p m) start act (message_in p own)) now mpidr o is at some
      (λ out. none_one mpidr r (λ q sent ev sa.
      let both : Enter m ≡ Enter mpidr = sym e ∙ ev in
      let same : m ≡ mpidr = cc in
      out (record { core = number p m; start = start })
      (enter_arrives (number p m) start act (message_in p own)) (ap (number p) same)))
      (λ caller asked f to. absurd (opens_none _ _ f refl
      (enter_opens (number p m) start act (message_in p own))))
      (λ rest m' f own'. absurd (opens_none _ _ f refl
      (enter_opens (number p m) start act (message_in p own))))

  by_event : (event : Event) (said : Said) → r.event ≡ event → r.said ≡ said
      → Waits p (r ∷ older) mpidr o
  by_event (Call m regs) (Fw act own) e s = by_call m regs act own e s
  by_event (Enter m) (Fw act own) e s =
      by_start m act own (last_start (controller_values p.board w) (number p m)) refl e s
      (now_is (Enter m) (Fw act own) e s)
  by_event (Take k) (Took t) e s =
      leaves p r older laws (boot_core p laws) (boot_zero p laws) before
      (took_effect p.board (indexed (acks w) k) t) (now_is (Take k) (Took t) e s) mpidr o is at some
      (λ out. none_one mpidr r (λ q sent ev sa.
      let no : Take k ≡ Enter mpidr = sym e ∙ ev in absurd (cc)))
      (λ caller asked f to. absurd (opens_none _ _ f refl
      (took_opens p.board (indexed (acks w) k) t)))
      (λ rest m f own. absurd (opens_none _ _ f refl (took_opens p.board (indexed (acks w) k) t)))
  by_event event said e s =
      leaves p r older laws (boot_core p laws) (boot_zero p laws) before Nothing
      (now_is event said e s) mpidr o is at some
      (λ out. none_one mpidr r (λ q sent ev sa. absurd (cc)))
      (λ caller asked f to. absurd (cc))
      (λ rest m f own. absurd (cc))

  pub waits_now : Waits p (r ∷ older) mpidr o
  waits_now = by_event r.event r.said refl refl

pub waiting : (p : PlatformValue) (past : List Record) → Laws p → IsLegalOn p past
    → AreWaiting p past
unfolding numbered firmware_history
waiting p [] laws valid = λ mpidr o is at some.
    absurd (omega (arith, some, ap (λ (v : Values). v.life) (values_none p.board)))
waiting p (r ∷ older) laws valid =
    waits_now p r older laws valid (waiting p older laws valid.1)
