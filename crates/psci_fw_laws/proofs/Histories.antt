-- What is kept over histories, that each Down was asked for when it was sent, and the entry that
-- begins a life, whatever was kept before it.
use Rattle.psci_fw_spec.specs.Effects.{after, sent_messages}
use Rattle.psci_fw_spec.specs.Answer.{answer, enter_outcome}
use Rattle.psci_fw_laws.specs.Renumbered.{IsAskedFor, WasAsked}
use Rattle.psci_fw_laws.specs.Messages.{AreLive}
use Rattle.psci_fw_laws.proofs.Following.{arrived_new, arrives, first_not_on, runs, stays}
use Rattle.psci_fw_laws.proofs.Claiming.{apart_none, claim_older, none_running, NoneCurrent}
use Rattle.psci_fw_laws.proofs.Claiming.{quiet_life}
use Rattle.psci_fw_laws.proofs.Made.{entered, equal_each}
use Rattle.psci_fw_laws.proofs.Functions.{answer_allowed}
use Rattle.psci_fw_laws.proofs.Started.{asks_on, claims, granted_life, halts, not_down, rests}
use Rattle.psci_fw_laws.proofs.Started.{takes}
use Rattle.psci_fw_laws.proofs.Folds.{IsReady}
use Rattle.psci_fw_laws.proofs.Sending.{outstanding_none}
use Rattle.psci_fw_laws.proofs.Refusing.{known_gap, known_le}
use Rattle.psci_fw_laws.proofs.Words.{[], ◌++◌, ◌<◌, ◌==◌, ◌∙◌, ◌∷◌, ◌≡◌, ◌≤◌, Acknowledges, Act}
use Rattle.psci_fw_laws.proofs.Words.{ap, AreValues, arith, AsksOn, Away, BoardValue, change, Down}
use Rattle.psci_fw_laws.proofs.Words.{effect, Effect, effect_of, Enter, enter_effect, Enters, false}
use Rattle.psci_fw_laws.proofs.Words.{FwCall, FwExchange, FwReply, GoesOn, Halts, Holds, IsAllowed}
use Rattle.psci_fw_laws.proofs.Words.{IsClaimOn, IsCurrent, IsLegal, known_below, List, listed}
use Rattle.psci_fw_laws.proofs.Words.{MessageValue, nat_tests, None, Nothing, Option, Out, Outcome}
use Rattle.psci_fw_laws.proofs.Words.{Parks, Part, PathLaws, refl, Rests, sent, SetsMode, slice_get}
use Rattle.psci_fw_laws.proofs.Words.{Some, Start, start_of_life, Stops, StopsAtOnce, subst, suc}
use Rattle.psci_fw_laws.proofs.Words.{sym, up, Values, values_of, with_arrival, with_mode}
use Rattle.psci_fw_laws.proofs.Words.{with_phase, with_rest, zero, ℕ}
use Rattle.psci_board.specs.Board.{IsBoard}
use Rattle.psci_fw_spec.proofs.Always.{legal_values}
use Rattle.psci_fw_spec.proofs.Changing.{asks_on_same, goes_on_same}
use Rattle.psci_fw_spec.proofs.Stopping.{values_more, values_none}

-- One change ----------------------------------------------------------------------------------

ready : (b : BoardValue) (v : Values) (messages : List MessageValue) → AreValues b v
    → Holds b v messages → IsReady b v
ready b v messages are holds = grind (arith, nat_tests, entered)

after_effect : (b : BoardValue) (v : Values) (messages : List MessageValue) (e : Effect)
    → IsBoard b → IsAllowed b v e → Holds b v messages
    → Holds b (change b e v) (listed (sent e) ++ messages)
after_effect b v messages Nothing board allowed holds = holds
after_effect b v messages (GoesOn c) board allowed holds =
    subst (λ w. Holds b w messages) (sym (goes_on_same b v c allowed.runs)) holds
after_effect b v messages (SetsMode c mode) board allowed holds =
    subst (λ w. Holds b w messages) (sym (goes_on_same b (with_mode mode v) c allowed.runs)) holds
after_effect b v messages (AsksOn c asked) board allowed holds =
    subst (λ w. Holds b w (asked.message ∷ messages))
    (sym (asks_on_same b v c asked allowed.calls.runs))
    (asks_on b v messages asked allowed.plain allowed.kind allowed.room holds)
after_effect b v messages (Rests c rest m) board allowed holds =
    let none : NoneCurrent b v.life v.known messages c =
    none_running messages holds.messages c holds.quiet allowed.calls.core allowed.calls.runs in
    claims b (with_rest c rest v) messages m allowed.claim
    (subst (NoneCurrent b v.life v.known messages) (sym allowed.core) none)
    (rests b v messages c rest.phase board allowed.calls.core allowed.calls.runs
    allowed.stops allowed.waits holds)
after_effect b v messages (Halts c m) board allowed holds =
    halts b (with_phase c Away v) messages m (assumption allowed.plain) allowed.system
    (rests b v messages c Away board allowed.calls.core allowed.calls.runs (λ e. cc)
    (λ e. cc) holds)
after_effect b v messages (Stops c) board allowed holds =
    rests b v messages c Away board allowed.calls.core allowed.calls.runs (λ e. cc)
    (λ e. cc) holds
after_effect b v messages (Enters c s) board allowed holds = search (runs, arrived_new, arrives)
after_effect b v messages (Parks c s m) board allowed holds =
    let new = arrived_new b v messages c s allowed.enters holds in
    let w : Values = with_arrival b c s v in
    claims b (with_phase c Away w) messages m allowed.claim
    (subst (NoneCurrent b w.life w.known messages) (sym allowed.core) new.none)
    (stays b w messages c Away new (arrives b v messages c s board allowed.enters holds))
after_effect b v messages (StopsAtOnce c s) board allowed holds =
    search (stays, arrived_new, arrives)
after_effect b v messages (Acknowledges a) board allowed holds = takes b v messages a holds

-- Histories -----------------------------------------------------------------------------------

start_holds : (b : BoardValue) → Holds b (start_of_life b 0) []
start_holds b =
    grind (arith, first_not_on, apart_none, quiet_life, granted_life, outstanding_none)

-- what an exchange adds to the messages
pub sent_more : (b : BoardValue) (e : FwExchange) (h : List FwExchange)
    → sent_messages b (e ∷ h) ≡ listed (sent (effect b e)) ++ sent_messages b h
unfolding sent_messages
sent_more b e h = refl

-- an exchange changes the values by its effect alone
pub values_after : (b : BoardValue) (e : FwExchange) (h : List FwExchange)
    → values_of b (e ∷ h) ≡ change b (effect b e) (values_of b h)
unfolding after
values_after b e h = values_more b e h

by_answer : (b : BoardValue) (v : Values) (messages : List MessageValue) (c : ℕ) (call : FwCall)
    → IsBoard b → AreValues b v → Holds b v messages
    → let e = effect_of b c call (answer b v c call) in
    AreValues b (change b e v) → Holds b (change b e v) (listed (sent e) ++ messages)
by_answer b v messages c call board are holds then = search (after_effect, answer_allowed, ready)

by_entry : (b : BoardValue) (v w : Values) (messages : List MessageValue) (c : ℕ) (call : FwCall)
    (reply : FwReply) → IsBoard b → AreValues b v → AreValues b w → Holds b v messages
    → reply ≡ answer b v c call → w ≡ after b c call reply v
    → Holds b w (listed (sent (effect_of b c call reply)) ++ messages)
unfolding after
by_entry b v w messages c call reply board are then holds e f =
    let g : AreValues b (change b (effect_of b c call reply) v) = subst (AreValues b) f then in
    subst (λ x. Holds b x (listed (sent (effect_of b c call reply)) ++ messages)) (sym f)
    (subst (λ r. AreValues b (change b (effect_of b c call r) v)
    → Holds b (change b (effect_of b c call r) v)
    (listed (sent (effect_of b c call r)) ++ messages)) (sym e)
    (by_answer b v messages c call board are holds) g)

pub legal_holds : (b : BoardValue) (h : List FwExchange) → IsBoard b → IsLegal b h
    → Holds b (values_of b h) (sent_messages b h)
unfolding sent_messages
legal_holds b [] board legal = subst (λ v. Holds b v []) (sym (values_none b)) (start_holds b)
legal_holds b (e ∷ h) board legal =
    by_entry b (values_of b h) (values_of b (e ∷ h)) (sent_messages b h) e.core e.call e.reply board
    (legal_values b h board legal.1) (legal_values b (e ∷ h) board legal)
    (legal_holds b h board legal.1) legal.0 (values_more b e h)

-- the effect of a legal reply is allowed
pub legal_allowed : (b : BoardValue) (e : FwExchange) (h : List FwExchange) → IsBoard b
    → IsLegal b (e ∷ h) → IsAllowed b (values_of b h) (effect b e)
unfolding after
legal_allowed b e h board legal =
    let v : Values = values_of b h in
    let then = subst (AreValues b) (values_more b e h) (legal_values b (e ∷ h) board legal) in
    let moved = subst (λ r. AreValues b (change b (effect_of b e.core e.call r) v)) legal.0 then in
    subst (λ r. IsAllowed b v (effect_of b e.core e.call r)) (sym legal.0)
    (answer_allowed board (ready b v (sent_messages b h) (legal_values b h board legal.1)
    (legal_holds b h board legal.1)) e.core e.call moved)

-- Each Down was asked for when it was sent --------------------------------------------------------

-- an effect that sends a Down leaves values by which it was asked for
fair_after : (b : BoardValue) (v : Values) (e : Effect) (m : MessageValue) → IsAllowed b v e
    → sent e ≡ Some m → m.kind ≡ Down → IsAskedFor b (change b e v) m
fair_after b v effect m allowed e down = grind (arith, nat_tests, not_down)

earlier : (b : BoardValue) (e : FwExchange) (h : List FwExchange) (m : MessageValue)
    → WasAsked b h m → WasAsked b (e ∷ h) m
earlier b e h m was = record {
  since = e ∷ was.since;
  entry = was.entry;
  before = was.before;
  parts = ap (λ xs. e ∷ xs) was.parts;
  legal = was.legal;
  sent = was.sent;
  asked = was.asked;
}

by_sent : (b : BoardValue) (e : FwExchange) (h : List FwExchange) (k : ℕ) (m : MessageValue)
    (o : Option MessageValue) → IsBoard b → IsLegal b (e ∷ h) → sent (effect b e) ≡ o
    → slice_get (listed o ++ sent_messages b h) k ≡ Some m → m.kind ≡ Down
    → ((j : ℕ) → slice_get (sent_messages b h) j ≡ Some m → WasAsked b h m) → WasAsked b (e ∷ h) m
by_sent b e h k m None board legal is at down before = earlier b e h m (before k at)
by_sent b e h (suc k) m (Some n) board legal is at down before = earlier b e h m (before k at)
by_sent b e h zero m (Some n) board legal is at down before =
    let same : n ≡ m = cc in
    let now : sent (effect b e) ≡ Some m = is ∙ ap (λ x. Some x) same in
    record {
      since = [];
      entry = e;
      before = h;
      parts = refl;
      legal = legal;
      sent = now;
      asked = subst (λ w. IsAskedFor b w m) (sym (values_after b e h))
          (fair_after b (values_of b h) (effect b e) m (legal_allowed b e h board legal) now down);
    }

none_sent : (b : BoardValue) (k : ℕ) (m : MessageValue)
    → slice_get (sent_messages b []) k ≡ Some m → ⊥
unfolding sent_messages
none_sent b k m at = absurd (cc)

pub was_asked : (b : BoardValue) (h : List FwExchange) → IsBoard b → IsLegal b h → (k : ℕ)
    (m : MessageValue) → slice_get (sent_messages b h) k ≡ Some m → m.kind ≡ Down → WasAsked b h m
was_asked b [] board legal k m at down = absurd (none_sent b k m at)
was_asked b (e ∷ h) board legal k m at down =
    grind (arith, nat_tests, by_sent, none_sent, sent_more b e h, was_asked b h board legal.1)

-- The entry that begins a life --------------------------------------------------------------------

-- a later life is another one, and no earlier one
another : (life later : ℕ) → life < later → (later == life) ≡ false
another life later e = grind arith

pub answered : (b : BoardValue) (v : Values) (c : ℕ) (s : Start) → v.life < s.life
    → answer b v c (Enter s) ≡ answer b (start_of_life b 0) c (Enter s)
unfolding answer enter_outcome
answered b v c s e = grind (arith, another)

arrived : (b : BoardValue) (v : Values) (c : ℕ) (s : Start) → v.life < s.life
    → with_arrival b c s v ≡ with_arrival b c s (start_of_life b 0)
arrived b v c s e = rw (another v.life s.life e, another 0 s.life (omega (arith, e))) refl

left : (b : BoardValue) (v : Values) (c : ℕ) (s : Start) (act : Act) (m : Option MessageValue)
    → with_arrival b c s v ≡ with_arrival b c s (start_of_life b 0)
    → change b (enter_effect c s act m) v ≡ change b (enter_effect c s act m) (start_of_life b 0)
left b v c s act m e = grind (arith, nat_tests)

pub left_after : (b : BoardValue) (v : Values) (c : ℕ) (s : Start) (o : Outcome) → v.life < s.life
    → after b c (Enter s) (Out o) v ≡ after b c (Enter s) (Out o) (start_of_life b 0)
unfolding after
left_after b v c s o e = left b v c s o.act o.message (arrived b v c s e)

-- A claim with the sum of all starts below as its generation --------------------------------------

live_current : (b : BoardValue) (v : Values) (messages : List MessageValue) (starts : ℕ → ℕ)
    → Holds b v messages → ((c : ℕ) → v.known c ≤ starts c) → (level place : ℕ) (p : Part)
    → IsClaimOn b v.life level place p messages
    → p.generation ≡ known_below b starts level place → IsCurrent b v.known level place p
live_current b v messages starts holds le level place p claim e =
    let low = claim_older messages holds.messages claim in
    let sum = known_le b v.known starts level place (λ c i at. le c) in
    omega (arith, low, sum, e)

pub live_laws : (b : BoardValue) (v : Values) (messages : List MessageValue) (starts : ℕ → ℕ)
    → PathLaws b → Holds b v messages → ((c : ℕ) → v.known c ≤ starts c)
    → AreLive b v.life v.known v.phase messages starts
live_laws b v messages starts paths holds le = record {
  current = live_current b v messages starts holds le;
  entered = λ level place c p claim e on at.
      let current = live_current b v messages starts holds le level place p claim e in
      equal_each b v.known starts level place c (λ x i t. le x) (sym current ∙ e) on at;
  rests = λ level place c p claim e on at.
      holds.quiet level place p claim
      (live_current b v messages starts holds le level place p claim e) c on at;
  below = λ k level m p q at life part next e.
      let present = (holds.messages k m at).present life in
      let older = present.older level p part in
      let lacking = present.lacking level p q part next in
      let gap = known_gap b v.known starts m.core.number level paths le in
      let sum = known_le b v.known starts level (up b level m.core.number) (λ c i t. le c) in
      omega (arith, older, lacking, gap, sum, e);
}
