-- Sentence 3: a domain that is not fully on is as deep as the cores below it had asked for.
use Rattle.std.specs.List.{list_all}
use Rattle.std.proofs.Common.{map, reverse}
use Rattle.std.proofs.lemmas.Bool.{and_from, and_parts}
use Rattle.std.proofs.lemmas.List.{append-nil, append_assoc, reverse-append}
use Rattle.psci_headline.specs.Laws.{WasMade}
use Rattle.psci_headline.specs.Safe.{AlwaysSafe, asks_by, Claim, claim_by, claims, Safe}
use Rattle.psci_headline.specs.psci_board.Board.{below, is_on_path, size_below, up}
use Rattle.psci_headline.specs.psci_ctl_spec.Replies.{ack_by, ack_of, may_follow}
use Rattle.psci_headline.specs.psci_fw_spec.Invariant.{ask}
use Rattle.psci_headline.specs.psci_fw_spec.declared.mode.SuspendMode.TheVariants.{OsInitiated}
use Rattle.psci_headline.specs.psci_fw_spec.declared.mode.SuspendMode.TheVariants.{Platform}
use Rattle.psci_headline.specs.psci_messages.declared.kind.Kind.{Kind}
use Rattle.psci_headline.specs.psci_world_spec.Legal.{ack_in, acks, IsLegalPast, legal}
use Rattle.psci_headline.specs.psci_world_spec.Legal.{legal_record, sent}
use Rattle.psci_headline.specs.psci_world_spec.declared.said.Said.TheVariants.{Acked}
use Rattle.psci_headline.proofs.Claiming.{by_claim}
use Rattle.psci_headline.proofs.LiveOnes.{is_live_one}
use Rattle.psci_headline.proofs.fw_laws.Refusing.{all_one}
use Rattle.psci_platform.specs.psci_fw_laws.Renumbered.{core_by}
use Rattle.psci_platform_safe.specs.Asked.{IsAsAsked, numbered, run_on, said_for}
use Rattle.psci_platform_safe.specs.Safe.{AlwaysSafeOn, OffIsDown, SafeOn, StatesWereReal}
use Rattle.psci_platform_safe.proofs.Moments.{boot_zero, has_above, Laws, number_back}
use Rattle.psci_platform_safe.proofs.Moments.{number_inside}
use Rattle.psci_platform_safe.proofs.Told.{entries, hw_is_told, off, record_for}
use Rattle.psci_platform_safe.proofs.Words.{[], ◌++◌, ◌<◌, ◌==◌, ◌∙◌, ◌∷◌, ◌≡◌, ◌≤◌, ◌⊎◌, AckValue}
use Rattle.psci_platform_safe.proofs.Words.{AllAsk, ap, AreAsked, AreClaimed, arith, AskFor}
use Rattle.psci_platform_safe.proofs.Words.{BoardValue, Bool, cond, controller_values, Core, cores}
use Rattle.psci_platform_safe.proofs.Words.{depth_above, domain_above, eq-eqb, Event, event_after}
use Rattle.psci_platform_safe.proofs.Words.{false, firmware_values, Fw, height, inl, inr, IsBoard}
use Rattle.psci_platform_safe.proofs.Words.{IsCore, IsLegalOn, le-leb, leb-true, legal_for, List}
use Rattle.psci_platform_safe.proofs.Words.{listed, MessageValue, mode_of, mpidr_of, nat_le, Node}
use Rattle.psci_platform_safe.proofs.Words.{None, number, Option, Part, part_for, PlatformValue}
use Rattle.psci_platform_safe.proofs.Words.{Record, refl, Said, said_in_numbers, sent_in, slice_get}
use Rattle.psci_platform_safe.proofs.Words.{Some, starts_below, subst, suc, SuspendMode, sym, true}
use Rattle.psci_platform_safe.proofs.Words.{zero, ℕ}
use Rattle.psci_headline.proofs.OnBoards.{always_safe, claims_asked, depths_claimed, hw_off_told}
use Rattle.psci_headline.proofs.OnBoards.{off_told, standby_told}
use Rattle.psci_headline.proofs.Runs.{sent_holds}
use Rattle.psci_headline.proofs.Nexts.{was_made}
use Rattle.psci_headline.specs.psci_ctl_spec.Values as controlled
use Rattle.psci_headline.specs.psci_messages.declared.kind.Kind.TheVariants as kinds

-- All cores below a domain ---------------------------------------------------------------------

-- what all cores below a domain pass each of them passes
below_at : (b : BoardValue) (n : Node) (q : ℕ → Bool) (c : ℕ) → list_all q (below b n) ≡ true
    → c < cores b → up b n.level c ≡ n.place → q c ≡ true
unfolding up
below_at b n q c e on at =
    all_one q (λ x. up b n.level x == n.place) 0 (size_below b.levels) c e (omega arith)
    (omega (arith, on)) (eq-eqb _ _ at)

-- What is asked ---------------------------------------------------------------------------------

all_ask : (p : PlatformValue) (past : List Record) (mpidr level depth at : ℕ) → Laws p
    → list_all (λ c. nat_le depth (ask p.board (firmware_values p.board (numbered p past)) c at))
    (below p.board (domain_above p mpidr level)) ≡ true
    → AllAsk p past mpidr level depth at
all_ask p past mpidr level depth at laws e other beside =
    leb-true depth _
    (below_at p.board (domain_above p mpidr level)
    (λ c. nat_le depth (ask p.board (firmware_values p.board (numbered p past)) c at))
    (number p other) e (number_inside p other laws beside.0)
    (ap (λ (n : Node). n.place) beside.1))

-- a claim that was asked for, by the cores' MPIDRs
asked_for : (p : PlatformValue) (past : List Record) (mpidr level depth core : ℕ)
    (mode : SuspendMode) → Laws p → core < cores p.board
    → asks_by mode p.board (firmware_values p.board (numbered p past)) (domain_above p mpidr level)
    core depth ≡ true → AskFor mode p past (mpidr_of p core) mpidr level depth
asked_for p past mpidr level depth core Platform laws inside e =
    all_ask p past mpidr level depth level laws e
asked_for p past mpidr level depth core OsInitiated laws inside e =
    let v = firmware_values p.board (numbered p past) in
    let both = and_parts (nat_le depth (ask p.board v core level))
    (list_all (λ c. nat_le depth (ask p.board v c 0)) (below p.board (domain_above p mpidr level)))
    e in (
      subst (λ (c : ℕ). depth ≤ ask p.board v c level) (sym (number_back p core laws inside))
          (leb-true _ _ both.0),
      all_ask p past mpidr level depth 0 laws both.1,
    )

-- Where claims come from ------------------------------------------------------------------------

-- a claim that the start of a life makes on a domain
record First (p : PlatformValue) (n : Node) (x : Claim) : Type 0 where
  off : is_on_path p.board 0 n.level n.place ≡ false
  deep : x.depth ≡ 3
  old : x.generation ≡ 0

-- a claim that a message made at some moment
record Sent (p : PlatformValue) (life : ℕ) (n : Node) (past : List Record) (x : Claim)
    : Type 0 where
  later : List Record
  r : Record
  before : List Record
  split : past ≡ later ++ (r ∷ before)
  message : MessageValue
  sent : sent_in (record_for p before r).said ≡ Some message
  part : Part
  has : part_for p.board life n.level n.place message ≡ Some part
  is : x ≡ claim_by p.board (firmware_values p.board (numbered p (r ∷ before))) n
      message.core.number part

first : (p : PlatformValue) (n : Node) (one : Claim) (k : ℕ) (x : Claim) (t : Bool)
    → one.depth ≡ 3 → one.generation ≡ 0 → is_on_path p.board 0 n.level n.place ≡ t
    → slice_get (cond t [] (one ∷ [])) k ≡ Some x → First p n x
first p n one k x true deep old on at = absurd (cc)
first p n one zero x false deep old on at =
    let same : one ≡ x = cc in
    record {
      off = on;
      deep = ap (λ (c : Claim). c.depth) (sym same) ∙ deep;
      old = ap (λ (c : Claim). c.generation) (sym same) ∙ old;
    }
first p n one (suc k) x false deep old on at = absurd (cc)

older : (p : PlatformValue) (life : ℕ) (n : Node) (r : Record) (past : List Record) (x : Claim)
    → First p n x ⊎ Sent p life n past x → First p n x ⊎ Sent p life n (r ∷ past) x
older p life n r past x from = elim from [
  | inl is ↦ inl is
  | inr is ↦ inr (record {
    later = r ∷ is.later;
    r = is.r;
    before = is.before;
    split = ap (λ (rs : List Record). r ∷ rs) is.split;
    message = is.message;
    sent = is.sent;
    part = is.part;
    has = is.has;
    is = is.is;
  })
]

origin : (p : PlatformValue) (life : ℕ) (n : Node) (past : List Record) (k : ℕ) (x : Claim)
    → slice_get (claims p.board life n (numbered p past)) k ≡ Some x
    → First p n x ⊎ Sent p life n past x
unfolding claims numbered
origin p life n [] k x at =
    inl (first p n _ k x (is_on_path p.board 0 n.level n.place) refl refl refl at)
origin p life n (r ∷ past) k x at =
    by_claim p.board life (firmware_values p.board (numbered p (r ∷ past))) n
    (λ y. First p n y ⊎ Sent p life n (r ∷ past) y) (claims p.board life n (numbered p past))
    (sent_in (record_for p past r).said) k x
    (λ m part e has. inr (record {
      later = [];
      r = r;
      before = past;
      split = refl;
      message = m;
      sent = e;
      part = part;
      has = has;
      is = refl;
    }))
    (λ j e. older p life n r past _ (origin p life n past j x e)) at

-- No deeper than asked --------------------------------------------------------------------------

-- each moment of a legal past is legal
legal_before : (p : PlatformValue) (later before : List Record) → IsLegalOn p (later ++ before)
    → IsLegalOn p before
unfolding numbered
legal_before p [] before legal = legal
legal_before p (r ∷ later) before legal = legal_before p later before legal.1

-- a message names a core of the board
abbrev pub AreSound : PlatformValue → Type 0
AreSound p = (past : List Record) (r : Record) (m : MessageValue) → IsLegalOn p (r ∷ past)
    → sent_in (record_for p past r).said ≡ Some m → m.core.number < cores p.board

module _ (p : PlatformValue) (past : List Record) (mpidr level life depth : ℕ) (laws : Laws p)
    (boot : number p p.boot ≡ 0) (low : level ≤ height p.board) (x : Claim) (deep : x.depth ≡ depth)
    (live : x.generation ≡ starts_below p.board
    (controller_values p.board (numbered p past)).starts (domain_above p mpidr level)) where
  abbrev n : Node
  n = domain_above p mpidr level

  from_start : First p n x → IsAsAsked p past mpidr level life depth
  from_start is = inr (record {
    off_path = λ beside.
        let on : is_on_path p.board 0 n.level n.place ≡ true =
        and_from (nat_le level (height p.board)) (up p.board level 0 == n.place)
        (le-leb _ _ low)
        (eq-eqb _ _ (ap (up p.board level) (sym boot) ∙ ap (λ (m : Node). m.place) beside.1)) in
        let off = is.off in absurd (cc);
    deep = sym deep ∙ is.deep;
    live = sym live ∙ is.old;
  })

  from_message : AreSound p → IsLegalOn p past → x.asked ≡ true → Sent p life n past x
      → IsAsAsked p past mpidr level life depth
  from_message sound legal asked is =
      let same : is.part.depth ≡ depth = ap (λ (c : Claim). c.depth) (sym is.is) ∙ deep in
      let yes : asks_by (mode_of p (is.r ∷ is.before)) p.board
      (firmware_values p.board (numbered p (is.r ∷ is.before))) n is.message.core.number
      is.part.depth ≡ true =
      ap (λ (c : Claim). c.asked) (sym is.is) ∙ asked in
      inl (record {
        later = is.later;
        r = is.r;
        before = is.before;
        split = is.split;
        message = is.message;
        sent = is.sent;
        part = is.part;
        has = is.has;
        deep = same;
        live = ap (λ (c : Claim). c.generation) (sym is.is) ∙ live;
        asked = subst (AskFor (mode_of p (is.r ∷ is.before)) p (is.r ∷ is.before)
            (mpidr_of p is.message.core.number) mpidr level) same
            (asked_for p (is.r ∷ is.before) mpidr level is.part.depth is.message.core.number
            (mode_of p (is.r ∷ is.before)) laws
            (sound is.before is.r is.message
            (legal_before p is.later (is.r ∷ is.before)
            (subst (IsLegalOn p) is.split legal)) is.sent) yes);
      })

pub as_asked : (p : PlatformValue) (past : List Record) (mpidr level life : ℕ) → Laws p
    → number p p.boot ≡ 0 → AreClaimed p.board (numbered p past)
    → AreAsked p.board (numbered p past) → AreSound p → IsLegalOn p past → IsCore p mpidr
    → level ≤ height p.board
    → (controller_values p.board (numbered p past)).life ≡ Some life
    → 0 < depth_above p past mpidr level
    → IsAsAsked p past mpidr level life (depth_above p past mpidr level)
as_asked p past mpidr level life laws boot claimed asked sound legal is low present some =
    let n = domain_above p mpidr level in
    let depth = depth_above p past mpidr level in
    let has = has_above p mpidr level laws is low in
    let live = claimed life n has present some in
    let one = is_live_one p.board (numbered p past) n live.index live.claim live.at in
    let both : Some one.life ≡ Some life = sym one.present ∙ present in
    let same : one.life ≡ life = cc in
    subst (λ (l : ℕ). IsAsAsked p past mpidr level l depth) same
    (elim (origin p one.life n past one.index live.claim one.at) [
      | inl start ↦
          from_start p past mpidr level one.life depth laws boot low live.claim live.deep one.live
          start
      | inr message ↦
          from_message p past mpidr level one.life depth laws boot low live.claim live.deep one.live
          sound legal (asked one.life n one.index live.claim has one.at) message
    ])

-- Safety ------------------------------------------------------------------------------------------
-- A legal history of a platform is safe, by what the laws below say of the firmware and the power
-- controller behind it.

safe_now : (b : BoardValue) (past : List Record) → AlwaysSafe b past → Safe b past
safe_now b [] safe = safe
safe_now b (r ∷ past) safe = safe.0

sound : (p : PlatformValue) → Laws p → AreSound p
unfolding sent numbered
sound p laws past r m legal e =
    let at : slice_get (sent (record_for p past r ∷ numbered p past)) 0 ≡ Some m =
    ap (λ (o : Option MessageValue). slice_get (listed o ++ sent (numbered p past)) 0) e in
    ((sent_holds p.board (numbered p (r ∷ past)) laws.board legal).messages 0 m at).sound.core

off_is_down : (p : PlatformValue) (past : List Record) → Laws p → IsLegalOn p past
    → OffIsDown p past
unfolding numbered
off_is_down p [] laws legal = tt
off_is_down p (r ∷ past) laws legal = λ word level mpidr a asked.
    off p r past word level mpidr laws
    (λ n. off_told p.board (record_for p past r) (numbered p past) n laws.board legal) a asked

states_real : (p : PlatformValue) (past : List Record) → Laws p → IsLegalOn p past
    → StatesWereReal p past
unfolding numbered
states_real p [] laws legal = tt
states_real p (r ∷ past) laws legal = λ word level mpidr asked. (
  λ a. hw_off_told p.board (record_for p past r) (numbered p past) (domain_above p mpidr level)
      laws.board legal
      (hw_is_told p r past word level mpidr 1 laws legal asked a),
  λ a. standby_told p.board (record_for p past r) (numbered p past) (domain_above p mpidr level)
      laws.board legal
      (hw_is_told p r past word level mpidr 2 laws legal asked a),
)

pub safe_on : (p : PlatformValue) (past : List Record) → Laws p → IsLegalOn p past
    → SafeOn p past
unfolding numbered
safe_on p past laws legal =
    let now = safe_now p.board (numbered p past)
    (always_safe p.board (numbered p past) laws.board legal) in
    record {
      powered = λ mpidr level is low executing.
          now.powered (number p mpidr) level (number_inside p mpidr laws is) low executing;
      off = off_is_down p past laws legal;
      one = λ mpidr level is low.
          now.one (domain_above p mpidr level) (has_above p mpidr level laws is low);
      asked = λ mpidr level life is low present some.
          as_asked p past mpidr level life laws (boot_zero p laws)
          (depths_claimed p.board (numbered p past) laws.board legal)
          (claims_asked p.board (numbered p past) laws.board legal) (sound p laws) legal is low
          present some;
      entries = entries p past laws legal;
      taken = now.entries;
      states = states_real p past laws legal;
    }

pub always : (p : PlatformValue) (past : List Record) → Laws p → IsLegalOn p past
    → AlwaysSafeOn p past
unfolding numbered
always p [] laws legal = safe_on p [] laws legal
always p (r ∷ past) laws legal = (safe_on p (r ∷ past) laws legal, always p past laws legal.1)

-- To each list of events of a platform there is a legal history -----------------------------------

-- Back in numbers -------------------------------------------------------------------------------

core_back : (p : PlatformValue) (c : Core) → Laws p → c.number < cores p.board
    → core_by (λ level. number p) (core_by (λ level. mpidr_of p) c) ≡ c
core_back p c laws inside =
    ap (λ (n : ℕ). record { number = n }) (number_back p c.number laws inside)

-- what is said of cores of the board is the same in the platform's words, and back in numbers
said_back : (p : PlatformValue) (said : Said) → Laws p
    → ((m : MessageValue) → sent_in said ≡ Some m → m.core.number < cores p.board)
    → ((a : AckValue) → ack_in said ≡ Some a → a.core.number < cores p.board)
    → said_in_numbers p (said_for p said) ≡ said
said_back p (Fw act None) laws sent made = refl
said_back p (Fw act (Some s)) laws sent made =
    ap (λ (c : Core). Fw act (Some (record s { message = record s.message { core = c } })))
    (core_back p s.message.core laws (sent s.message refl))
said_back p (Acked index a) laws sent made =
    ap (λ (c : Core). Acked index (record a { core = c }))
    (core_back p a.core laws (made a refl))
said_back p said laws sent made = refl

-- Cores of the board ----------------------------------------------------------------------------

sent_core : (b : BoardValue) (past : List Record) (event : Event) (m : MessageValue) → IsBoard b
    → IsLegalPast b past → sent_in (legal b past event) ≡ Some m → m.core.number < cores b
unfolding sent
sent_core b past event m board is e =
    ((sent_holds b (legal_record b past event ∷ past) board (refl, is)).messages 0 m
    (ap (λ (o : Option MessageValue). slice_get (listed o ++ sent past) 0) e)).sound.core

start_core : (m : MessageValue) (t : Bool)
    → (cond t (ack_of m 1 false) (ack_of m 0 true)).core ≡ m.core
start_core m true = refl
start_core m false = refl

ack_core : (b : BoardValue) (v : controlled.Values) (m : MessageValue) (kind : Kind)
    → (ack_by b v m kind).core ≡ m.core
ack_core b v m kinds.Down = refl
ack_core b v m kinds.Start = start_core m (may_follow b v m.core.number m.number)
ack_core b v m kinds.Off = refl
ack_core b v m kinds.Reset = refl

made_core : (b : BoardValue) (past : List Record) (a : AckValue) → IsBoard b → WasMade b past a
    → a.core.number < cores b
made_core b past a board is =
    let own : a.core ≡ is.message.core =
    ap (λ (x : AckValue). x.core) is.ack ∙ ack_core b _ is.message is.message.kind in
    subst (λ (c : Core). c.number < cores b) (sym own)
    ((sent_holds b is.before board is.legal).messages is.index is.message is.at).sound.core

acked_core : (b : BoardValue) (past : List Record) (event : Event) (a : AckValue) → IsBoard b
    → IsLegalPast b past → ack_in (legal b past event) ≡ Some a → a.core.number < cores b
unfolding acks
acked_core b past event a board is e =
    let now = legal_record b past event ∷ past in
    made_core b now a board
    (was_made b now (refl, is) 0 a
    (ap (λ (o : Option AckValue). slice_get (listed o ++ acks past) 0) e))

-- Runs ------------------------------------------------------------------------------------------

-- the record of an event of which that is said which is legal
abbrev pub told_on : PlatformValue → List Record → Event → Record
told_on p past event = record { event = event; said = legal_for p past event }

pub stays : (p : PlatformValue) (past : List Record) (events : List Event) → Laws p
    → IsLegalOn p past → IsLegalOn p (run_on p past events)
unfolding run_on numbered
stays p past [] laws is = is
stays p past (event ∷ events) laws is =
    let own = event_after p (numbered p past) event in
    stays p (told_on p past event ∷ past) events laws (
      said_back p (legal p.board (numbered p past) own) laws
          (λ m e. sent_core p.board (numbered p past) own m laws.board is e)
          (λ a e. acked_core p.board (numbered p past) own a laws.board is e),
      is,
    )

-- the events of a past, newest first
abbrev pub events_of : List Record → List Event
events_of past = map (λ (r : Record). r.event) past

-- the first event comes last
last_event : (event : Event) (events : List Event) (before : List Event)
    → reverse (event ∷ events) ++ before ≡ reverse events ++ (event ∷ before)
last_event event events before =
    ap (λ (l : List Event). l ++ before) (reverse-append (event ∷ []) events)
    ∙ append_assoc (reverse events) (event ∷ []) before

has_events : (p : PlatformValue) (past : List Record) (events : List Event)
    → events_of (run_on p past events) ≡ reverse events ++ events_of past
unfolding run_on
has_events p past [] = refl
has_events p past (event ∷ events) =
    has_events p (told_on p past event ∷ past) events
    ∙ sym (last_event event events (events_of past))

pub run_events : (p : PlatformValue) (events : List Event)
    → events_of (run_on p [] events) ≡ reverse events
run_events p events = has_events p [] events ∙ append-nil (reverse events)
