-- Worked examples, clause by clause: which messages are to be served, how much of one is still to
-- be carried out, what a delivery leaves, and what is outstanding.
use Rattle.std.proofs.Common.{◌++◌}
use Rattle.std.specs.Prelude.{if◌then◌else◌}
use Rattle.std.proofs.lemmas.Bool.{eqb-false}
use Rattle.psci_board.proofs.Tables.{◌⇒◌, Gives}
use Rattle.psci_ctl_spec.specs.Replies as changing
use Rattle.psci_ctl_spec.specs.Replies.{reply}
use Rattle.psci_ctl_spec.specs.psci_messages.Slots.{OfSystem, Slot}
use Rattle.psci_ctl_spec.specs.psci_messages.declared.kind.Kind.TheVariants.{Off, Reset, Start}
use Rattle.psci_ctl_spec.specs.declared.call.CtlCall.TheVariants as asked
use Rattle.psci_ctl_spec.specs.declared.delivery.Delivery.TheVariants as deliveries
use Rattle.psci_ctl_spec.specs.declared.reply.CtlReply.TheVariants as replies
use Rattle.psci_world_spec.proofs.Scripts.{board, part, tall}
use Rattle.psci_port.specs.Served.{AllServed, AreHeard, ends, IsSpent, IsToServe}
use Rattle.psci_port.specs.Undone.{IsListed, LeavesLess, left_of, served, undone}
use Rattle.psci_port.proofs.Words.{◌&&◌, ◌<◌, ◌==◌, ◌||◌, ◌∙◌, ◌∷◌, ◌≤◌, ◌≡◌, [], ack_of, ap, arith}
use Rattle.psci_port.proofs.Words.{BoardValue, Bool, false, false≢true, Finishes, indexed}
use Rattle.psci_port.proofs.Words.{IsSendable, List, Locks, MessageValue, None, none-some, not}
use Rattle.psci_port.proofs.Words.{OfCore, Option, Part, refl, slot_of, Some, subst, suc, sym, true}
use Rattle.psci_port.proofs.Words.{Unlocks, Values, zero, ℕ}
use Rattle.psci_port.proofs.Playing.{after, at_depths, delivers, down_3, down_of, down_to, Each}
use Rattle.psci_port.proofs.Playing.{of_3, of_system, off_3, off_called, on, playing, sendable}
use Rattle.psci_port.proofs.Playing.{standby, takes, whole, whole_tall}

-- What an acknowledgement leaves -----------------------------------------------------------------

abbrev ends_so : MessageValue × ℕ × Bool → Bool
ends_so (m, applied, stale) =
    ends m (replies.Delivery (deliveries.Applied (ack_of m applied stale)))

-- of a Down with two parts none, one, both, and a stale one; of a Start, and of an Off
each_ends : Gives ends_so
    ((down_3, 0, false) ⇒ false ∷ (down_3, 1, false) ⇒ false ∷ (down_3, 2, false) ⇒ true
    ∷ (down_3, 0, true) ⇒ true ∷ (down_3, 1, true) ⇒ true ∷ (of_3 Start 1 [], 1, false) ⇒ true
    ∷ (of_3 Start 1 [], 0, true) ⇒ true ∷ (of_3 Off 1 [], 1, false) ⇒ true ∷ [])
each_ends = refl

-- What a delivery more brings about --------------------------------------------------------------

abbrev out_of_date : List Part
out_of_date = part 0 3 0 ∷ part 1 3 1 ∷ []

-- all are powered down but for one cluster, and the system
abbrev but_for : ℕ → ℕ → ℕ → ℕ
but_for other level place = if level == 2 || (level == 1 && place == other) then 0 else 3

-- a core goes down, its cluster, and its group; all is down; and a message is stale
brings_about : (IsSpent board (at_depths 1 on) (down_of 0 1 whole) → ⊥)
    × (IsSpent board (at_depths 2 on) (down_of 3 2 whole) → ⊥)
    × (IsSpent board (at_depths 1 (down_to 0)) (down_of 0 1 whole) → ⊥)
    × (IsSpent board (at_depths 2 (down_to 0)) (down_of 3 2 whole) → ⊥)
    × (IsSpent tall (at_depths 1 (down_to 1)) (down_of 0 1 whole_tall) → ⊥)
    × (IsSpent board (at_depths 1 (down_to 2)) (down_of 0 1 whole) → ⊥)
    × (IsSpent board (at_depths 1 on) (down_of 0 1 out_of_date) → ⊥)
unfolding playing changing.after
brings_about = (
  λ s. let e = s.depths 0 (omega arith) in omega (arith, e),
  λ s. let e = s.depths 0 (omega arith) in omega (arith, e),
  λ s. let e = s.depths 1 (omega arith) in omega (arith, e),
  λ s. let e = s.depths 1 (omega arith) in omega (arith, e),
  λ s. let e = s.depths 2 (omega arith) in omega (arith, e),
  λ s. false≢true (sym s.left),
  λ s. false≢true (sym s.left),
)

-- What is to be served ---------------------------------------------------------------------------

-- its Down, once the core stands, and as the acknowledgement is under way
to_serve : IsToServe board (after off_3) 1 down_3
    × IsToServe board (after (off_3 ++ (delivers 1 ∷ []))) 1 down_3
unfolding playing changing.after
to_serve = search arith

-- not while the core is in the monitor, by another number, or once its acknowledgement was taken
not_to_serve : (IsToServe board (after off_called) 1 down_3 → ⊥)
    × (IsToServe board (after off_3) 0 down_3 → ⊥)
    × (IsToServe board (after (off_3 ++ (delivers 1 ∷ [])
    ++ (Locks 0 ∷ takes 0 1 ∷ Finishes 0 ∷ Unlocks 0 ∷ []))) 1 down_3 → ⊥)
unfolding playing changing.after
not_to_serve = search arith

is_not_all : AllServed board (after off_3) → ⊥
is_not_all served = served 1 down_3 to_serve.0

-- what is outstanding for a core in the monitor is not heard
not_heard : AreHeard board (after off_called) → ⊥
unfolding playing
not_heard heard = false≢true (sym (heard 1 down_3 refl refl).1)

-- How many parts ---------------------------------------------------------------------------------

-- all cores but this one are powered down; this core alone is in retention, or in standby
abbrev beside : ℕ → ℕ → ℕ → ℕ
beside c level place = if level == 0 && not (place == c) then 3 else 0

abbrev alone_at : ℕ → ℕ → ℕ → ℕ → ℕ
alone_at depth c level place = if level == 0 && place == c then depth else 0

-- a Down of a core alone, in retention, or in standby
abbrev core_alone : List Part
core_alone = part 0 2 1 ∷ []

abbrev core_standby : List Part
core_standby = part 0 1 1 ∷ []

-- what is left of a message before its delivery, and after it
abbrev left_then : BoardValue × Values × MessageValue → ℕ × ℕ
left_then (b, v, m) = (left_of b v m, left_of b (served b v m) m)

-- a core alone is carried out, with its cluster, in life 2, and not in another life; standby,
-- beside a core in retention too; no part of the system; what is as deep, and what is out of date
parts_left : Gives left_then
    ((board, at_depths 1 on, down_of 0 1 whole) ⇒ (3, 2)
    ∷ (board, at_depths 1 (beside 0), down_of 0 1 whole) ⇒ (3, 1)
    ∷ (tall, at_depths 1 on, down_of 0 1 whole_tall) ⇒ (4, 2)
    ∷ (board, at_depths 2 on, down_of 3 2 whole) ⇒ (3, 2)
    ∷ (board, at_depths 2 on, down_of 3 1 whole) ⇒ (3, 3)
    ∷ (board, at_depths 1 on, down_of 0 1 standby) ⇒ (3, 2)
    ∷ (board, at_depths 1 (alone_at 2 0), down_of 0 1 standby) ⇒ (3, 2)
    ∷ (board, at_depths 1 on, of_system Off 1) ⇒ (0, 0)
    ∷ (board, at_depths 1 (down_to 0), down_of 0 1 whole) ⇒ (2, 1)
    ∷ (board, at_depths 1 (down_to 2), down_of 0 1 whole) ⇒ (0, 0)
    ∷ (board, at_depths 1 on, down_of 0 1 out_of_date) ⇒ (0, 0) ∷ [])
unfolding playing changing.after undone
parts_left = refl

-- What a delivery leaves -------------------------------------------------------------------------

-- one message was sent
only : (b : BoardValue) (v : Values) (m x : MessageValue)
    → ((IsSpent b v m → ⊥) → ends m (reply b v (asked.Deliver m)) ≡ false
    → left_of b (served b v m) m < left_of b v m)
    → (v.life ≡ Some x.life → (served b v m).life ≡ v.life
    → left_of b (served b v m) x ≤ left_of b v x)
    → LeavesLess b v (x ∷ []) m
only b v m x own other = record { own = own; others = others }
  where
    item : Option MessageValue → MessageValue
    item None = x
    item (Some z) = z

    others : (k : ℕ) (y : MessageValue) → indexed (x ∷ []) k ≡ Some y → v.life ≡ Some y.life
        → (served b v m).life ≡ v.life → left_of b (served b v m) y ≤ left_of b v y
    others zero y here at stays =
        let same : x ≡ y = ap item here in
        subst (λ z. left_of b (served b v m) z ≤ left_of b v z) same
        (other (at ∙ ap (λ (z : MessageValue). Some z.life) (sym same)) stays)
    others (suc k) y there at stays = absurd (none-some y there)

each_less :
    -- each_less_boot_core: a core goes down, and the Down of its neighbour is left as it is
    LeavesLess board (at_depths 1 on) (down_of 1 1 whole ∷ []) (down_of 0 1 whole)
    -- each_less_height_3: on a board of height 3
    × LeavesLess tall (at_depths 1 on) (down_of 1 1 whole_tall ∷ []) (down_of 0 1 whole_tall)
    -- each_less_life_2: core 3 in life 2
    × LeavesLess board (at_depths 2 on) (down_of 2 2 whole ∷ []) (down_of 3 2 whole)
    -- each_less_in_standby: a core goes to standby
    × LeavesLess board (at_depths 1 on) (down_of 1 1 standby ∷ []) (down_of 0 1 standby)
    -- each_less_life_ends: as the system is reset, of a Down its part is left again
    × LeavesLess board (at_depths 1 (down_to 2)) (down_of 0 1 (part 0 3 1 ∷ []) ∷ [])
    (of_system Reset 1)
    -- each_less_another_life: a Down of life 1 is undone in life 2
    × LeavesLess board (at_depths 2 (alone_at 2 3)) (down_of 3 1 core_alone ∷ [])
    (down_of 3 2 whole)
unfolding playing changing.after undone
each_less = (
  only _ _ _ _ (λ moves left. omega arith) (λ at stays. omega arith),
  only _ _ _ _ (λ moves left. omega arith) (λ at stays. omega arith),
  only _ _ _ _ (λ moves left. omega arith) (λ at stays. omega arith),
  only _ _ _ _ (λ moves left. omega arith) (λ at stays. omega arith),
  only _ _ _ _ (λ moves left. cc) (λ at stays. absurd (cc)),
  only _ _ _ _ (λ moves left. omega arith) (λ at stays. absurd (cc)),
)

-- parts that are no Down's, whose first one says level 1, and is carried out at 0
abbrev shifted : List Part
shifted = part 1 3 2 ∷ part 2 3 4 ∷ []

abbrev shifted_standby : List Part
shifted_standby = part 1 1 2 ∷ part 2 1 4 ∷ []

as_many_left :
    -- as_many_left_boot_core: of the boot core
    (LeavesLess board (at_depths 1 (beside 0)) [] (down_of 0 1 shifted) → ⊥)
    -- as_many_left_height_3: on a board of height 3
    × (LeavesLess tall (at_depths 1 on) [] (down_of 0 1 (part 1 3 1 ∷ part 2 3 2 ∷ [])) → ⊥)
    -- as_many_left_life_2: core 3 in life 2
    × (LeavesLess board (at_depths 2 (beside 3)) [] (down_of 3 2 shifted) → ⊥)
    -- as_many_left_in_standby: to standby
    × (LeavesLess board (at_depths 1 (beside 0)) [] (down_of 0 1 shifted_standby) → ⊥)
unfolding playing changing.after undone
as_many_left = (
  λ l. let low = l.own (λ s. let e = s.depths 0 (omega arith) in omega (arith, e)) refl in
      omega (arith, low),
  λ l. let low = l.own (λ s. let e = s.depths 0 (omega arith) in omega (arith, e)) refl in
      omega (arith, low),
  λ l. let low = l.own (λ s. let e = s.depths 0 (omega arith) in omega (arith, e)) refl in
      omega (arith, low),
  λ l. let low = l.own (λ s. let e = s.depths 0 (omega arith) in omega (arith, e)) refl in
      omega (arith, low),
)

-- a deeper Down of its generation undoes one in retention, or in standby
undoes_another :
    -- undoes_another_boot_core: of the boot core
    (LeavesLess board (at_depths 1 (alone_at 2 0)) (down_of 0 1 core_alone ∷ [])
    (down_of 0 1 whole) → ⊥)
    -- undoes_another_height_3: on a board of height 3
    × (LeavesLess tall (at_depths 1 (alone_at 2 0)) (down_of 0 1 core_alone ∷ [])
    (down_of 0 1 whole_tall) → ⊥)
    -- undoes_another_life_2: core 3 in life 2
    × (LeavesLess board (at_depths 2 (alone_at 2 3)) (down_of 3 2 core_alone ∷ [])
    (down_of 3 2 whole) → ⊥)
    -- undoes_another_in_standby: one in standby is
    × (LeavesLess board (at_depths 1 (alone_at 1 0)) (down_of 0 1 core_standby ∷ [])
    (down_of 0 1 whole) → ⊥)
unfolding playing changing.after undone
undoes_another = (
  λ l. let e = l.others 0 (down_of 0 1 core_alone) refl refl refl in omega (arith, e),
  λ l. let e = l.others 0 (down_of 0 1 core_alone) refl refl refl in omega (arith, e),
  λ l. let e = l.others 0 (down_of 3 2 core_alone) refl refl refl in omega (arith, e),
  λ l. let e = l.others 0 (down_of 0 1 core_standby) refl refl refl in omega (arith, e),
)

-- What is outstanding ----------------------------------------------------------------------------

-- what was sent alone, and can be, stands in its slot
alone : {b : BoardValue} (m : MessageValue) → IsSendable b m
    → IsListed b (m ∷ []) (slot_of m.kind m.core) m
alone m can = record { own = refl; number = 0; at = refl; board = can }

each_listed : Each (λ b x. IsListed b (x ∷ []) (slot_of x.kind x.core) x)
each_listed = (
  alone (down_of 0 1 whole) sendable.0,
  alone (down_of 0 1 whole_tall) sendable.1,
  alone (down_of 3 2 whole) sendable.2,
  alone (down_of 0 1 standby) sendable.3,
  alone (of_system Off 1) sendable.4,
)

-- the number of a slot's core
abbrev core_in : Slot → ℕ
core_in (OfCore c) = c
core_in OfSystem = 100

-- not in that of core 2
in_another_slot : Each (λ b x. IsListed b (x ∷ []) (OfCore 2) x → ⊥)
in_another_slot = (
  λ is. eqb-false 0 2 refl (ap core_in is.own),
  λ is. eqb-false 0 2 refl (ap core_in is.own),
  λ is. eqb-false 3 2 refl (ap core_in is.own),
  λ is. eqb-false 0 2 refl (ap core_in is.own),
  λ is. eqb-false 100 2 refl (ap core_in is.own),
)

-- nor where nothing was sent, or another message
none_sent : {m : MessageValue} (k : ℕ) → indexed {A = MessageValue} [] k ≡ Some m → ⊥
none_sent k e = none-some _ e

never_sent : Each (λ b x. IsListed b [] (slot_of x.kind x.core) x → ⊥)
never_sent = (
  λ is. none_sent is.number is.at,
  λ is. none_sent is.number is.at,
  λ is. none_sent is.number is.at,
  λ is. none_sent is.number is.at,
  λ is. none_sent is.number is.at,
)

-- a message is one of a life, with its parts
abbrev life_and_depth : Option MessageValue → ℕ × ℕ
life_and_depth None = (0, 0)
life_and_depth (Some m) = (m.life, first m.parts)
  where
    first : List Part → ℕ
    first [] = 0
    first (p ∷ ps) = p.depth

another_sent : (IsListed board (down_of 3 1 whole ∷ []) (OfCore 3) (down_of 3 2 whole) → ⊥)
    × (IsListed board (down_of 0 1 whole ∷ []) (OfCore 0) (down_of 0 1 standby) → ⊥)
another_sent = (λ is. life is.number is.at, λ is. depth is.number is.at)
  where
    life : (k : ℕ) → indexed (down_of 3 1 whole ∷ []) k ≡ Some (down_of 3 2 whole) → ⊥
    life zero e = eqb-false 1 2 refl (ap (λ m. (life_and_depth m).0) e)
    life (suc k) e = none-some _ e

    depth : (k : ℕ) → indexed (down_of 0 1 whole ∷ []) k ≡ Some (down_of 0 1 standby) → ⊥
    depth zero e = eqb-false 3 1 refl (ap (λ m. (life_and_depth m).1) e)
    depth (suc k) e = none-some _ e

-- nor of a core that the board does not have, or with a part above it
abbrev of_core_4 : MessageValue → MessageValue
of_core_4 m = record m { core = record { number = 4 } }

not_of_this_board : Each (λ b x. IsListed b (of_core_4 x ∷ []) (slot_of x.kind (of_core_4 x).core)
    (of_core_4 x) → ⊥)
unfolding playing
not_of_this_board = (
  λ is. let low = is.board.board.core in omega (arith, low),
  λ is. let low = is.board.board.core in omega (arith, low),
  λ is. let low = is.board.board.core in omega (arith, low),
  λ is. let low = is.board.board.core in omega (arith, low),
  λ is. let low = is.board.board.core in omega (arith, low),
)

too_tall : IsListed board (down_of 0 1 whole_tall ∷ []) (OfCore 0) (down_of 0 1 whole_tall) → ⊥
unfolding playing
too_tall is = let low = is.board.board.levels in omega (arith, low)
