-- How many parts of an outstanding Down are applied, once live claims below have their depth.
use Rattle.psci_ctl_spec.specs.Replies.{delivery_of, Effect, effect_of, reply}
use Rattle.psci_ctl_spec.specs.Values as controller
use Rattle.psci_ctl_spec.specs.History as controls
use Rattle.psci_ctl_spec.specs.History.{Applies, keeps_life, WasApplied}
use Rattle.psci_ctl_spec.specs.Values.{Values}
use Rattle.psci_ctl_spec.specs.declared.call.CtlCall.TheVariants as asked
use Rattle.psci_ctl_spec.specs.declared.delivery.Delivery.TheVariants as deliveries
use Rattle.psci_ctl_spec.specs.declared.reply.CtlReply.TheVariants as replied
use Rattle.psci_ctl_spec.specs.psci_messages.declared.kind.Kind.TheVariants as kinds
use Rattle.psci_world_spec.specs.Legal.{controller_history, sent}
use Rattle.psci_fw_laws.specs.Messages.{IsFromMessage}
use Rattle.psci_headline.proofs.Covering.{applied_at_least, AreCovered, OthersDeep, present_life}
use Rattle.psci_headline.proofs.Sending.{at_number, IsListed}
use Rattle.psci_headline.proofs.Pursuing.{same_sum}
use Rattle.psci_headline.proofs.Telling.{live_down}
use Rattle.psci_headline.proofs.Unclaimed.{part_claims}
use Rattle.psci_headline.proofs.Words.{◌++◌, ◌+◌, ◌-◌, ◌<◌, ◌∙◌, ◌∷◌, ◌≡◌, ◌≤◌, [], AckValue}
use Rattle.psci_headline.proofs.Words.{and_parts, and_right, ap, applied, AreLive, arith}
use Rattle.psci_headline.proofs.Words.{BoardValue, ChildLaws, cond-false, control, cores}
use Rattle.psci_headline.proofs.Words.{delivered, domain_of, Down, eqb-false, eqb-true, Event}
use Rattle.psci_headline.proofs.Words.{false, false≢true, first_depth, HasDeeper, HasNode}
use Rattle.psci_headline.proofs.Words.{height, indexed, inl, inr, is_on_path, IsClaimOn}
use Rattle.psci_headline.proofs.Words.{IsCurrent, IsFromStart, IsLivePart, IsReplied, Kind}
use Rattle.psci_headline.proofs.Words.{known_below, leb-true, length, List, listed, ltb-true}
use Rattle.psci_headline.proofs.Words.{message_effect, MessageValue, nat_le, nat_tests, ne_eqb}
use Rattle.psci_headline.proofs.Words.{Node, None, NonePending, Option, Part, part_from}
use Rattle.psci_headline.proofs.Words.{PartByPart, PathLaws, Pending, Phase, Record, Said}
use Rattle.psci_headline.proofs.Words.{same_Some, slice_get, slice_get_within, Some}
use Rattle.psci_headline.proofs.Words.{starts_below, subst, suc, sym, take_get, true, up, ℕ}
use Rattle.psci_headline.proofs.fw_laws.Claiming.{part_has}
use Rattle.psci_headline.proofs.fw_laws.Refusing.{known_same}

-- A part that was applied in this life is one of a Down that was sent in it -----------------------

-- A delivery ----------------------------------------------------------------------------------

-- an effect that applies a part leaves the life as it is
applies_within : (b : BoardValue) (f : Effect) (level place : ℕ) (p : Part)
    → Applies b f level place p → keeps_life f ≡ true
applies_within b f level place p a = grind (arith, nat_tests)

life_within : (f : Effect) (o : Option ℕ) → keeps_life f ≡ true → controls.life_by f o ≡ o
life_within f o e = grind (arith, nat_tests, false≢true)

-- What it says of a message that a part of it was applied.
record IsCarried (b : BoardValue) (level place : ℕ) (m : MessageValue) (p : Part) : Type 0 where
  kind : m.kind ≡ kinds.Down
  on : is_on_path b m.core.number level place ≡ true
  part : slice_get m.parts level ≡ Some p

carried_by : (b : BoardValue) (m : MessageValue) (a : AckValue) (kind : Kind) (level place : ℕ)
    (p : Part) → m.kind ≡ kind → Applies b (message_effect b m a kind) level place p
    → IsCarried b level place m p
carried_by b m a kind level place p e x = grind (arith, nat_tests, take_get)

acked_life : (b : BoardValue) (h : List controller.CtlExchange) (m : MessageValue) (a : AckValue)
    → replied.Delivery (deliveries.Applied a) ≡ reply b (controls.values_of b h) (asked.Deliver m)
    → controls.life b h ≡ Some m.life
unfolding reply delivery_of controls.values_of
acked_life b h m a e = grind (arith, nat_tests, present_life)

-- What a record adds --------------------------------------------------------------------------

-- what was applied by then was sent by then
abbrev WasSent : BoardValue → ℕ → ℕ → ℕ → Part → List MessageValue → List controller.CtlExchange
    → Type 0
WasSent b life level place p ms h =
    IsReplied b h → controls.life b h ≡ Some life → WasApplied b h level place p
    → IsFromMessage b life level place p ms

-- an exchange that applies no part
none_applied : (b : BoardValue) (life level place : ℕ) (p : Part) (ms : List MessageValue)
    (e : controller.CtlExchange) (h : List controller.CtlExchange)
    → (Applies b (controls.effect_in b e) level place p → ⊥)
    → WasSent b life level place p ms h → WasSent b life level place p ms (e ∷ h)
none_applied b life level place p ms e h other before is now was =
    grind (arith, nat_tests, life_within)

-- an acknowledged message
delivery_sent : (b : BoardValue) (life level place : ℕ) (p : Part) (ms : List MessageValue)
    (m : MessageValue) (a : AckValue) (h : List controller.CtlExchange) → IsListed ms m
    → WasSent b life level place p ms h
    → WasSent b life level place p ms (delivered (Some m) a ++ h)
unfolding effect_of
delivery_sent b life level place p ms m a h stands before is now was =
    grind (
      arith,
      nat_tests,
      carried_by,
      applies_within,
      life_within,
      and_parts,
      part_from,
      same_Some,
      acked_life,
      eqb-true,
    )

numbered_sent : (b : BoardValue) (life level place : ℕ) (p : Part) (ms : List MessageValue)
    (k : ℕ) (o : Option MessageValue) (a : AckValue) (h : List controller.CtlExchange)
    → indexed ms k ≡ o → WasSent b life level place p ms h
    → WasSent b life level place p ms (delivered o a ++ h)
numbered_sent b life level place p ms k None a h e before = before
numbered_sent b life level place p ms k (Some m) a h e before =
    delivery_sent b life level place p ms m a h (at_number ms k m e) before

control_sent : (b : BoardValue) (life level place : ℕ) (p : Part) (v : Values)
    (ms : List MessageValue) (event : Event) (said : Said) (h : List controller.CtlExchange)
    → WasSent b life level place p ms h
    → WasSent b life level place p ms (control v ms event said ++ h)
unfolding effect_of
control_sent b life level place p v ms event said h before =
    grind (arith, nat_tests, numbered_sent, none_applied)

-- All of them ---------------------------------------------------------------------------------

sent_later : (b : BoardValue) (life level place : ℕ) (p : Part) (o : Option MessageValue)
    (ms : List MessageValue) → IsFromMessage b life level place p ms
    → IsFromMessage b life level place p (listed o ++ ms)
sent_later b life level place p None ms f = f
sent_later b life level place p (Some m) ms f =
    record { index = suc f.index; message = f.message; at = f.at; part = f.part }

pub was_sent : (b : BoardValue) (past : List Record) (life level place : ℕ) (p : Part)
    → WasSent b life level place p (sent past) (controller_history b past)
unfolding sent controller_history
was_sent b [] life level place p is now was = absurd was
was_sent b (r ∷ past) life level place p is now was =
    grind (arith, nat_tests, sent_later, control_sent, was_sent b past life level place p)

-- Live claims that have their depth, level by level -----------------------------------------------

-- below this level each live part of a core's Downs has its depth
abbrev pub AreDeep : BoardValue → ℕ → (ℕ → ℕ) → (ℕ → ℕ → ℕ) → List MessageValue → ℕ → ℕ → Type 0
AreDeep b life starts depth sent r c = (k level : ℕ) (m : MessageValue) (p : Part)
    → slice_get sent k ≡ Some m → m.life ≡ life → m.kind ≡ Down → m.core.number ≡ c
    → slice_get m.parts level ≡ Some p → IsLivePart b starts m level p → level < r
    → depth level (up b level m.core.number) ≡ p.depth

-- a domain below which no core was started in this life is as deep as at its start
abbrev pub AreFirst : BoardValue → (ℕ → ℕ) → (ℕ → ℕ → ℕ) → Type 0
AreFirst b starts depth = (n : Node) → HasNode b n → starts_below b starts n ≡ 0
    → depth n.level n.place ≡ first_depth b n.level n.place

from_start : (b : BoardValue) (starts : ℕ → ℕ) (depth : ℕ → ℕ → ℕ) (level place : ℕ) (p : Part)
    → AreFirst b starts depth → IsFromStart b level place p
    → p.generation ≡ known_below b starts level place → depth level place ≡ p.depth
from_start b starts depth level place p first from live =
    let n : Node = record { level = level; place = place } in
    let zero : p.generation ≡ 0 = ap (λ (q : Part). q.generation) from.is in
    let deep : p.depth ≡ 3 = ap (λ (q : Part). q.depth) from.is in
    let on = and_parts (nat_le level (height b)) _ from.node in
    let has : HasNode b n = record { level = leb-true _ _ on.0; place = ltb-true _ _ on.1 } in
    let off : is_on_path b 0 level place ≡ false =
    grind (arith, nat_tests, and_right, ne_eqb, eqb-false) in
    first n has (same_sum b starts n ∙ sym live ∙ zero)
    ∙ cond-false (is_on_path b 0 level place) 0 3 off ∙ sym deep

-- a live claim on a domain below this level is its depth, where the cores below it are deep
pub claim_deep : (b : BoardValue) (life : ℕ) (starts : ℕ → ℕ) (depth : ℕ → ℕ → ℕ)
    (sent : List MessageValue) (r level place : ℕ) (p : Part) → AreFirst b starts depth
    → ((c : ℕ) → up b level c ≡ place → AreDeep b life starts depth sent r c)
    → IsClaimOn b life level place p sent
    → p.generation ≡ known_below b starts level place → level < r → depth level place ≡ p.depth
claim_deep b life starts depth sent r level place p first deep claim live low = elim claim [
  | inl from ↦ from_start b starts depth level place p first from live
  | inr from ↦ grind (arith, nat_tests, part_has)
]

-- Applying ----------------------------------------------------------------------------------------

-- What is so where every started core has entered and none is pending, and live claims of all cores
-- but one have their depth below this level.
pub record IsReady (b : BoardValue) (life : ℕ) (known : ℕ → ℕ) (phase : ℕ → Phase)
    (sent : List MessageValue) (w : Values) (r one : ℕ) : Type 0 where
  pub paths : PathLaws b
  pub kids : ChildLaws b
  pub live : AreLive b life known phase sent w.starts
  pub all : (c : ℕ) → c < cores b → known c ≡ w.starts c
  pub rests : (c : ℕ) → c < cores b → phase c ≡ Pending → ⊥
  pub first : AreFirst b w.starts w.depth
  pub deep : (c : ℕ) → (c ≡ one → ⊥) → AreDeep b life w.starts w.depth sent r c
  pub deeper : (c level : ℕ) (p : Part) → c < cores b → level < height b
      → IsClaimOn b life (level + 1) (up b (level + 1) c) p sent
      → IsCurrent b known (level + 1) (up b (level + 1) c) p
      → NonePending b phase (level + 1) (up b (level + 1) c)
      → HasDeeper b life known level (up b level c) p.depth sent

-- below the domain of a live claim of the next level each domain is as deep, but on that one's path
child_deep : (b : BoardValue) (life : ℕ) (known : ℕ → ℕ) (phase : ℕ → Phase)
    (sent : List MessageValue) (w : Values) (r one x k : ℕ) (p : Part)
    → IsReady b life known phase sent w r one → (up b k x ≡ up b k one → ⊥) → x < cores b
    → k < height b → k < r
    → IsClaimOn b life (k + 1) (up b (k + 1) x) p sent
    → p.generation ≡ known_below b w.starts (k + 1) (up b (k + 1) x)
    → p.depth ≤ w.depth k (up b k x)
child_deep b life known phase sent w r one x k p is ne on high low claim live =
    let current = is.live.current (k + 1) (up b (k + 1) x) p claim live in
    let has = is.deeper x k p on high claim current (λ c i at e. is.rests c i e) in
    let now : has.part.generation ≡ known_below b w.starts k (up b k x) =
    has.current ∙ known_same b known w.starts k (up b k x) (λ c i at. is.all c i) in
    let deep = claim_deep b life w.starts w.depth sent r k (up b k x) has.part is.first
    (λ c below. is.deep c (λ e. ne (sym below ∙ ap (up b k) e))) has.claim now low in
    omega (arith, deep, has.deep)

-- A Down of this life that was sent for a core of the board.
pub record IsDown (b : BoardValue) (life : ℕ) (sent : List MessageValue) (m : MessageValue)
    : Type 0 where
  pub index : ℕ
  pub at : slice_get sent index ≡ Some m
  pub present : m.life ≡ life
  pub kind : m.kind ≡ kinds.Down
  pub core : m.core.number < cores b
  pub few : length m.parts ≤ height b + 1
  pub parts : PartByPart m.parts

-- the other domains below that of a live part are as deep
others_deep : (b : BoardValue) (life : ℕ) (known : ℕ → ℕ) (phase : ℕ → Phase)
    (sent : List MessageValue) (w : Values) (r k : ℕ) (m : MessageValue) (p : Part)
    → IsReady b life known phase sent w r m.core.number → IsDown b life sent m → k < r
    → slice_get m.parts (suc k) ≡ Some p → IsLivePart b w.starts m (suc k) p
    → OthersDeep b w.depth m.core.number k p.depth
others_deep b life known phase sent w r k m p is down low part live x on joined ne =
    let more : suc k ≡ k + 1 = omega arith in
    let within = slice_get_within m.parts (suc k) p part in
    let claim : IsClaimOn b life (suc k) (up b (suc k) x) p sent =
    grind (arith, nat_tests, part_claims) in
    let now : p.generation ≡ known_below b w.starts (suc k) (up b (suc k) x) =
    live ∙ ap (known_below b w.starts (suc k)) (sym joined) in
    child_deep b life known phase sent w r m.core.number x k p is ne on
    (omega (arith, within, down.few)) low
    (subst (λ l. IsClaimOn b life l (up b l x) p sent) more claim)
    (subst (λ l. p.generation ≡ known_below b w.starts l (up b l x)) more now)

covered_so : (b : BoardValue) (life : ℕ) (known : ℕ → ℕ) (phase : ℕ → Phase)
    (sent : List MessageValue) (w : Values) (r level : ℕ) (m : MessageValue) (p : Part)
    → IsReady b life known phase sent w r m.core.number → IsDown b life sent m → level ≤ r
    → slice_get m.parts level ≡ Some p → IsLivePart b w.starts m level p
    → AreCovered b w m.core.number m.parts (level + 1)
covered_so b life known phase sent w r level m p is down low part live = record {
  core = down.core;
  few = omega (arith, within);
  level = λ k q at. grind (arith, nat_tests, slice_get_within);
  falls = λ k q s at next.
      let more : suc k ≡ k + 1 = omega arith in
      down.parts.falls k q s at (ap (slice_get m.parts) (sym more) ∙ next);
  live = λ k q less at. lower k q less at ∙ sym (same_sum b w.starts (domain_of b m.core.number k));
  others = λ k q less at.
      others_deep b life known phase sent w r k m q is down (omega (arith, less, low)) at
      (lower (suc k) q less at);
}
  where
    within : level < length m.parts
    within = slice_get_within m.parts level p part

    lower : (k : ℕ) (q : Part) → k < level + 1 → slice_get m.parts k ≡ Some q
        → IsLivePart b w.starts m k q
    lower k q less at =
        let up_to : k + (level - k) ≡ level = omega (arith, less) in
        live_down b w.starts m
        (λ l s t at_s at_t alive.
        is.live.below down.index l m s t down.at down.present at_s at_t alive)
        (level - k) k q p at
        (ap (slice_get m.parts) up_to ∙ part)
        (subst (λ l. IsLivePart b w.starts m l p) (sym up_to) live)

-- a live part at such a level is applied
pub part_applied : (b : BoardValue) (life : ℕ) (known : ℕ → ℕ) (phase : ℕ → Phase)
    (sent : List MessageValue) (w : Values) (r level : ℕ) (m : MessageValue) (p : Part)
    → IsReady b life known phase sent w r m.core.number → IsDown b life sent m → level ≤ r
    → slice_get m.parts level ≡ Some p → IsLivePart b w.starts m level p
    → level < applied b w m.core.number m.parts
part_applied b life known phase sent w r level m p is down low part live =
    let least = applied_at_least b w m.core.number m.parts (level + 1) is.paths is.kids
    (covered_so b life known phase sent w r level m p is down low part live) in
    omega (arith, least)
