-- What is known after a legal record: cores that go on, and what new and older acknowledgements
-- say of their cores.
use Rattle.psci_ctl_spec.specs.Replies.{change}
use Rattle.psci_world_spec.specs.Legal.{acks, firmware_history}
use Rattle.psci_fw_laws.specs.psci_fw_spec.Phases.{Running}
use Rattle.psci_fw_laws.specs.psci_fw_spec.PowerCalls.{is_off_status}
use Rattle.psci_headline.specs.Safe.{is_powered_down, was_powered_down}
use Rattle.psci_headline.specs.PoweredDown.{IsDownBy}
use Rattle.psci_headline.proofs.Agreed.{RunLaws}
use Rattle.psci_headline.proofs.Controls.{found_other, found_own}
use Rattle.psci_headline.proofs.Carried.{IsGiven, laid_at}
use Rattle.psci_headline.proofs.Applying.{was_sent}
use Rattle.psci_headline.proofs.Claiming.{off_path}
use Rattle.psci_headline.proofs.CoreSteps.{IsStep}
use Rattle.psci_headline.proofs.LiveOnes.{first_off}
use Rattle.psci_headline.proofs.Covering.{IsNew, new_ack}
use Rattle.psci_headline.proofs.Sending.{at_number, of_newest}
use Rattle.psci_headline.proofs.Moves.{Moves}
use Rattle.psci_headline.proofs.Pursuing.{HasName, same_sum}
use Rattle.psci_headline.proofs.Telling.{first_part, HasItem}
use Rattle.psci_headline.proofs.Words.{[], ◌++◌, ◌+◌, ◌<◌, ◌∙◌, ◌∷◌, ◌≡◌, ◌≤◌, ◌⊎◌, ack_by, ack_in}
use Rattle.psci_headline.proofs.Words.{AckValue, and_from, and_parts, ap, AreDown, arith, Away}
use Rattle.psci_headline.proofs.Words.{BoardValue, cases_eq, ChildLaws, cond_both}
use Rattle.psci_headline.proofs.Words.{controller_history, controller_values, cores, Deliver}
use Rattle.psci_headline.proofs.Words.{depth_at, Down, enters_or_resumes, eq-eqb, eqb-true}
use Rattle.psci_headline.proofs.Words.{false_from_ne_true, firmware_values, HasDeeper, HasNode}
use Rattle.psci_headline.proofs.Words.{height, Holds, in_life, inl, inr, is_on_path}
use Rattle.psci_headline.proofs.Words.{is_reported_off, IsApplied, IsClaimOn, IsCurrent, IsFirst}
use Rattle.psci_headline.proofs.Words.{IsFromStart, IsLegalPast, IsReplied, Kind, known_below}
use Rattle.psci_headline.proofs.Words.{le-leb, legal, List, listed, lt-ltb, ltb-true}
use Rattle.psci_headline.proofs.Words.{message_effect, MessageValue, nat_tests, Node, None}
use Rattle.psci_headline.proofs.Words.{NonePending, NoneRefused, not_from_false, Off, Option}
use Rattle.psci_headline.proofs.Words.{or_left, or_right, Part, part_from, place, Record, refl}
use Rattle.psci_headline.proofs.Words.{sent, slice_get, Some, Started, Status, subst, suc, sym}
use Rattle.psci_headline.proofs.Words.{true, up, updated_here, Values, Waiting, WasMade, zero, ℕ}
use Rattle.psci_board.proofs.Paths.{path_laws}
use Rattle.psci_board.specs.Board.{IsBoard}
use Rattle.psci_fw_laws.proofs.Made.{known_laws}
use Rattle.psci_ctl_spec.specs.History as controls
use Rattle.psci_ctl_spec.specs.Values as controlled
use Rattle.psci_ctl_spec.specs.psci_messages.declared.kind.Kind.TheVariants as kinds
use Rattle.psci_fw_laws.specs.psci_fw_spec.declared.status.Status.TheVariants as statuses

-- Each acknowledgement was made as its message was delivered --------------------------------------

new_made : (b : BoardValue) (r : Record) (past : List Record) (a : AckValue) → IsLegalPast b past
    → r.said ≡ legal b past r.event → ack_in r.said ≡ Some a → WasMade b (r ∷ past) a
new_made b r past a is said made =
    let new = new_ack b r past a said made in
    let d = new.made in
    let at = at_number (sent past) d.number d.message d.at in
    record {
      since = [];
      delivery = r;
      before = past;
      parts = refl;
      legal = is;
      index = at.index;
      message = d.message;
      at = at.at;
      life = d.life;
      number = d.number;
      event = d.event;
      named = d.at;
      said = d.said;
      ack = d.ack;
      after = new.values;
    }

-- one record more
made_before : (b : BoardValue) (r : Record) (past : List Record) (a : AckValue)
    → WasMade b past a → WasMade b (r ∷ past) a
made_before b r past a made = record {
  since = r ∷ made.since;
  delivery = made.delivery;
  before = made.before;
  parts = ap (λ (rs : List Record). r ∷ rs) made.parts;
  legal = made.legal;
  index = made.index;
  message = made.message;
  at = made.at;
  life = made.life;
  number = made.number;
  event = made.event;
  named = made.named;
  said = made.said;
  ack = made.ack;
  after = made.after;
}

pub was_made : (b : BoardValue) (past : List Record) → IsLegalPast b past → (k : ℕ)
    (a : AckValue) → slice_get (acks past) k ≡ Some a → WasMade b past a
unfolding acks
was_made b [] is k a e = absurd (cc)
was_made b (r ∷ past) is k a e =
    grind (arith, nat_tests, of_newest, new_made, made_before, was_made b past is.1)

-- Cores that were powered down, and have not gone on since ----------------------------------------

-- Moments --------------------------------------------------------------------------------------

pub asleep_from : (b : BoardValue) (life : ℕ) (past : List Record) (c : ℕ)
    → (controller_values b past).life ≡ Some life → depth_at b past 0 c ≡ 3
    → is_powered_down b life past c ≡ true
asleep_from b life past c now deep = grind (arith, nat_tests, eq-eqb, and_from)

-- a core that is powered down now
pub slept_now : (b : BoardValue) (life : ℕ) (past : List Record) (c : ℕ)
    → is_powered_down b life past c ≡ true → was_powered_down b life past c ≡ true
unfolding was_powered_down
slept_now b life [] c e = e
slept_now b life (r ∷ past) c e = or_left _ _ e

-- a core that was, where it does not go on in that life
pub slept_still : (b : BoardValue) (life : ℕ) (r : Record) (past : List Record) (c : ℕ)
    → was_powered_down b life past c ≡ true
    → (enters_or_resumes c r.event r.said ≡ true → (firmware_values b (r ∷ past)).life ≡ life → ⊥)
    → was_powered_down b life (r ∷ past) c ≡ true
unfolding was_powered_down
slept_still b life r past c was none =
    grind (
      arith,
      nat_tests,
      false_from_ne_true,
      and_parts,
      eqb-true,
      or_right,
      and_from,
      not_from_false,
    )

-- Reports --------------------------------------------------------------------------------------

pub status_off : (s : Status) → is_off_status s ≡ true → s ≡ Off
status_off s e = grind (arith, nat_tests)

-- what it means that a core is reported OFF
pub reported : (b : BoardValue) (past : List Record) (c : ℕ) → is_reported_off b past c ≡ true
    → (0 < (firmware_values b past).life) × ((firmware_values b past).status c ≡ Off)
reported b past c e = grind (arith, nat_tests, and_parts, ltb-true, status_off)

pub report : (b : BoardValue) (past : List Record) (c : ℕ) → 0 < (firmware_values b past).life
    → (firmware_values b past).status c ≡ Off → is_reported_off b past c ≡ true
report b past c begun off = grind (arith, nat_tests, and_from, lt-ltb)

-- Nexts -------------------------------------------------------------------------------------------

-- Acknowledgements and their messages ----------------------------------------------------------

-- an acknowledgement has the name of its message
pub acks_message : (b : BoardValue) (v : controlled.Values) (m : MessageValue) (k : Kind)
    → HasName (ack_by b v m k) m
acks_message b v m k = grind (arith, nat_tests, cond_both)

-- A new acknowledgement ------------------------------------------------------------------------

-- The Down that was acknowledged, and its first part.
record IsOfDown (messages : List MessageValue) (a : AckValue) (m : MessageValue) : Type 0 where
  pub index : ℕ
  pub at : slice_get messages index ≡ Some m
  pub kind : m.kind ≡ kinds.Down
  pub ack : HasName a m
  pub first : HasItem m.parts 0

-- while its start is known, the sender of a Down does not run
sender_rests : (b : BoardValue) (v : Values) (messages : List MessageValue) (a : AckValue)
    (m : MessageValue) → IsBoard b → Holds b v messages → IsOfDown messages a m
    → a.life ≡ v.life → a.number ≡ v.known a.core.number → v.phase a.core.number ≡ Running → ⊥
sender_rests b v messages a m board holds d life number runs =
    let c = m.core.number in
    let sound = (holds.messages d.index m d.at).sound in
    let p = d.first.item in
    let present : m.life ≡ v.life = sym d.ack.life ∙ life in
    let core : a.core.number ≡ c = d.ack.core in
    let claim = part_from b v.life 0 (up b 0 c) m p
    (record { kind = d.kind; present = present; on = refl; part = d.first.at }) in
    let sum : known_below b v.known 0 (up b 0 c) ≡ v.known c =
    grind (arith, (path_laws b board).core, (known_laws b board).own) in
    let current : p.generation ≡ known_below b v.known 0 (up b 0 c) = grind (arith, nat_tests) in
    holds.quiet 0 (up b 0 c) p
    (inr (record { index = d.index; message = m; at = d.at; part = claim })) current c sound.core
    refl (ap v.phase (sym core) ∙ runs)

-- a delivered Down of which a part was applied made its core as deep as its first part
now_deep : (b : BoardValue) (cv w : controlled.Values) (m : MessageValue) (a : AckValue) (c : ℕ)
    (p : Part) → IsBoard b → m.kind ≡ kinds.Down → m.core.number ≡ c
    → w ≡ change b (message_effect b m a m.kind) cv
    → slice_get m.parts 0 ≡ Some p → 0 < a.applied
    → (w.life ≡ cv.life) × (w.depth 0 c ≡ p.depth)
now_deep b cv w m a c p board kind core values at some =
    grind (arith, nat_tests, laid_at, (path_laws b board).core)

-- what a new acknowledgement says of its core, beside the firmware's values, which stay
pub new_is_down : (b : BoardValue) (r : Record) (past : List Record) (a : AckValue) → IsBoard b
    → (let v = firmware_values b past in Holds b v (sent past)) → IsNew b r past a
    → a.kind ≡ kinds.Down → 0 < a.applied
    → IsDownBy b (r ∷ past) (firmware_values b past) a
new_is_down b r past a board holds new kind some =
    let v : Values = firmware_values b past in
    let m = new.made.message in
    let place = at_number (sent past) new.made.number m new.made.at in
    let sent_one = holds.messages place.index m place.at in
    let of : HasName a m = grind (arith, nat_tests, acks_message) in
    let down : m.kind ≡ kinds.Down = sym of.kind ∙ kind in
    let d : IsOfDown (sent past) a m = grind (arith, nat_tests, first_part) in
    let deep = now_deep b (controller_values b past) (controller_values b (r ∷ past)) m a
    a.core.number d.first.item board down (sym of.core) new.values d.first.at some in
    grind (arith, nat_tests, sender_rests, slept_now, asleep_from)

-- What is known after a legal record -----------------------------------------------------------

-- What is known of a legal record, of the records before it and after it.
pub record IsNext (b : BoardValue) (r : Record) (past : List Record) : Type 0 where
  pub moves : Moves b r past
  pub step : (c : ℕ) → IsStep (firmware_values b past) (firmware_values b (r ∷ past)) c moves.effect
  pub holds : let v = firmware_values b past in Holds b v (sent past)
  pub said : r.said ≡ legal b past r.event
  -- the firmware's life is none that has not begun
  pub begun : (life : ℕ) → (controller_values b (r ∷ past)).life ≡ Some life
      → (firmware_values b (r ∷ past)).life ≤ life

-- a core that goes on runs, and is ON
pub goes_running : (b : BoardValue) (r : Record) (past : List Record) (c : ℕ) → IsNext b r past
    → enters_or_resumes c r.event r.said ≡ true
    → ((firmware_values b (r ∷ past)).phase c ≡ Running)
    × ((firmware_values b (r ∷ past)).status c ≡ statuses.On)
goes_running b r past c next by = grind (arith, nat_tests, updated_here)

-- Acknowledgements -----------------------------------------------------------------------------

-- what an older acknowledgement says of its core it says still
still_down : (b : BoardValue) (r : Record) (past : List Record) (a : AckValue) → IsNext b r past
    → IsDownBy b past (firmware_values b past) a
    → IsDownBy b (r ∷ past) (firmware_values b (r ∷ past)) a
still_down b r past a next was =
    let v : Values = firmware_values b past in
    let w : Values = firmware_values b (r ∷ past) in
    let c : ℕ = a.core.number in
    let s : IsStep v w c next.moves.effect = next.step c in
    let same : a.life ≡ w.life → w.life ≡ v.life = λ life. omega (arith, was.begun, s.life) in
    let before : a.life ≡ w.life → a.life ≡ v.life = λ life. life ∙ same life in
    let old : a.life ≡ w.life → a.number ≡ w.known c → a.number ≡ v.known c =
    λ life number. omega (arith, was.number (before life), s.known (same life)) in
    let unknown : a.life ≡ w.life → a.number ≡ w.known c → w.known c ≡ v.known c =
    λ life number. sym number ∙ old life number in
    let not_both : w.phase c ≡ Away → w.phase c ≡ Running → ⊥ = grind (arith, nat_tests) in
    grind (arith, nat_tests, slept_still, goes_running)

pub acks_more : (r : Record) (past : List Record)
    → acks (r ∷ past) ≡ listed (ack_in r.said) ++ acks past
unfolding acks
acks_more r past = refl

-- a delivery asks the firmware nothing
asks_nothing : (b : BoardValue) (r : Record) (past : List Record) (k : ℕ) → r.event ≡ Deliver k
    → firmware_values b (r ∷ past) ≡ firmware_values b past
unfolding firmware_history
asks_nothing b r past k e = grind (arith, nat_tests)

new_down : (b : BoardValue) (r : Record) (past : List Record) (a : AckValue) → IsBoard b
    → IsNext b r past → ack_in r.said ≡ Some a → a.kind ≡ Down → 0 < a.applied
    → IsDownBy b (r ∷ past) (firmware_values b (r ∷ past)) a
new_down b r past a board next made kind some =
    let new : IsNew b r past a = new_ack b r past a next.said made in
    subst (λ v. IsDownBy b (r ∷ past) v a)
    (sym (asks_nothing b r past new.made.number new.made.event))
    (new_is_down b r past a board next.holds new kind some)

pub by_ack : (b : BoardValue) (r : Record) (past : List Record) (o : Option AckValue) (k : ℕ)
    (a : AckValue) → IsBoard b → IsNext b r past → AreDown b past → ack_in r.said ≡ o
    → slice_get (listed o ++ acks past) k ≡ Some a → a.kind ≡ Down → 0 < a.applied
    → IsDownBy b (r ∷ past) (firmware_values b (r ∷ past)) a
by_ack b r past None k a board next are made at kind some =
    still_down b r past a next (are.acked k a at kind some)
by_ack b r past (Some x) zero a board next are made at kind some =
    let same : x ≡ a = cc in
    new_down b r past a board next (made ∙ ap (λ y. Some y) same) kind some
by_ack b r past (Some x) (suc k) a board next are made at kind some =
    still_down b r past a next (are.acked k a at kind some)

-- What is known of every legal past, and what follows where no core is started --------------------

-- A live claim of the domain's depth.
pub record HasLive (b : BoardValue) (past : List Record) (life level place : ℕ) : Type 0 where
  pub part : Part
  pub claim : IsClaimOn b life level place part (sent past)
  pub live : part.generation ≡ known_below b (controller_values b past).starts level place
  pub deep : (controller_values b past).depth level place ≡ part.depth

-- below a domain with a current claim, and without a pending core, each domain has a current claim
-- that is no less deep
abbrev pub IsDeeper : BoardValue → Values → List MessageValue → Type 0
IsDeeper b v sent = (c level : ℕ) (p : Part) → c < cores b → level < height b
    → IsClaimOn b v.life (level + 1) (up b (level + 1) c) p sent
    → IsCurrent b v.known (level + 1) (up b (level + 1) c) p
    → NonePending b v.phase (level + 1) (up b (level + 1) c)
    → HasDeeper b v.life v.known level (up b level c) p.depth sent

-- What is known of a legal past.
pub record IsPast (b : BoardValue) (past : List Record) : Type 0 where
  pub given : IsGiven b (controller_values b past) (place b past) (firmware_values b past)
      (sent past)
  pub values : controls.AreValues b (controller_values b past)
  pub waits : Waiting b past
  pub free : NoneRefused b past
  pub deeper : IsDeeper b (firmware_values b past) (sent past)
  -- a domain that is not fully on is as deep as a live claim on it
  pub claimed : (life level place : ℕ) → HasNode b (record { level = level; place = place })
      → (controller_values b past).life ≡ Some life
      → 0 < (controller_values b past).depth level place → HasLive b past life level place

-- What is known of a board, and of every legal past on it.
pub record SettleLaws (b : BoardValue) : Type 0 where
  pub some : 0 < cores b
  pub kids : ChildLaws b
  pub runs : RunLaws b
  pub past : (past : List Record) → IsLegalPast b past → IsPast b past

-- What is so of the firmware in a life, which every started core has entered.
pub record AreSettled (b : BoardValue) (past : List Record) (life : ℕ) : Type 0 where
  pub own : (firmware_values b past).life ≡ life
  pub known : (c : ℕ) → c < cores b
      → (firmware_values b past).known c ≡ (controller_values b past).starts c

all_known : (b : BoardValue) (past : List Record) (life : ℕ) → IsPast b past
    → (controller_values b past).life ≡ Some life
    → ((c : ℕ) → c < cores b → place b past c ≡ Started → ⊥) → (c : ℕ) → c < cores b
    → (in_life b life (firmware_values b past)).known c ≡ (controller_values b past).starts c
all_known b past life is present none c on = grind (arith, nat_tests, cases_eq)

-- the boot core was started in the life, so the life is the firmware's
pub settled_life : (b : BoardValue) (past : List Record) (life : ℕ) → 0 < cores b
    → IsPast b past → (controller_values b past).life ≡ Some life
    → ((c : ℕ) → c < cores b → place b past c ≡ Started → ⊥) → AreSettled b past life
settled_life b past life some is present none = record {
  own = sym own;
  known = λ c on.
      ap (λ (u : Values). u.known c) (sym (found_own b life v own))
      ∙ all_known b past life is present none c on;
}
  where
    v : Values
    v = firmware_values b past

    own : life ≡ v.life
    own = elim (cases_eq life v.life) [
      | inl same ↦ same
      | inr other ↦
          let boot = is.values.boot life present in
          let zero : (in_life b life v).known 0 ≡ 0 = grind (arith, nat_tests, found_other, v) in
          let one = all_known b past life is present none 0 some in
          absurd (omega (arith, boot, zero, one))
    ]

-- A domain that is not fully on is as deep as a live claim on it ----------------------------------

from_applied : (b : BoardValue) (past : List Record) (life level place : ℕ)
    → IsReplied b (controller_history b past) → (controller_values b past).life ≡ Some life
    → IsApplied b (controller_history b past) level place → HasLive b past life level place
unfolding controls.values_of
from_applied b past life level place is present a = grind (arith, nat_tests, was_sent, same_sum)

from_first : (b : BoardValue) (past : List Record) (life level place : ℕ)
    → HasNode b (record { level = level; place = place })
    → 0 < (controller_values b past).depth level place
    → IsFirst b (controller_history b past) level place → HasLive b past life level place
unfolding controls.values_of
from_first b past life level place has some f =
    let n : Node = record { level = level; place = place } in
    let off = first_off (is_on_path b 0 level place) ((controller_values b past).depth level place)
    f.depth some in
    let from : IsFromStart b level place (record { level = level; depth = 3; generation = 0 }) =
    grind (arith, nat_tests, and_from, le-leb, lt-ltb, off_path) in
    record {
      part = record { level = level; depth = 3; generation = 0 };
      claim = inl from;
      live = sym f.still ∙ same_sum b (controller_values b past).starts n;
      deep = off.1;
    }

pub live_depth : (b : BoardValue) (past : List Record) (life level place : ℕ)
    → HasNode b (record { level = level; place = place })
    → IsReplied b (controller_history b past)
    → (controls.life b (controller_history b past) ≡ Some life
    → 0 < controls.depth b (controller_history b past) level place
    → IsApplied b (controller_history b past) level place
    ⊎ IsFirst b (controller_history b past) level place)
    → (controller_values b past).life ≡ Some life
    → 0 < (controller_values b past).depth level place → HasLive b past life level place
unfolding controls.values_of
live_depth b past life level place has is from present some =
    grind (arith, nat_tests, from_applied, from_first)
