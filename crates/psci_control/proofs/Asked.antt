-- What the power controller's calls leave of its side.
use Rattle.std.specs.Prelude.{◌&&◌, not, slice_get}
use Rattle.std.proofs.Common.{◌++◌, ◌+◌, ◌<◌, ◌==◌, ◌∙◌, ◌∷◌, ◌≡◌, [], ap, arith, Bool, cond}
use Rattle.std.proofs.Common.{false, get_or, get_or-set_other, get_or-set_same, inl, inr, length}
use Rattle.std.proofs.Common.{length-set, List, map, nat_eq, None, Option, refl, replicate, set}
use Rattle.std.proofs.Common.{Some, subst, suc, sym, true, zero, ℕ}
use Rattle.std.proofs.lemmas.Bool.{cases_eq, eq-eqb, ne_eqb}
use Rattle.std.proofs.lemmas.Bool.Decides.{nat_tests}
use Rattle.std.proofs.lemmas.List.{get_or_default}
use Rattle.std.proofs.lemmas.Option.{none-some}
use Rattle.psci_board.specs.Board.{BoardValue, cores, is_on_path, PathLaws}
use Rattle.psci_board.specs.declared.draft.Core.{Core}
use Rattle.psci_messages.specs.Message.{AckValue, AreClaims, ArePartsOf, MessageValue, PartByPart}
use Rattle.psci_messages.specs.declared.kind.Kind.TheVariants.{Down}
use Rattle.psci_messages.specs.declared.part.Part.{Part}
use Rattle.psci_messages.specs.declared.start.Cause.{Cause}
use Rattle.psci_messages.specs.declared.start.Cause.TheVariants as causes
use Rattle.psci_ctl_spec.specs.Replies.{after, Begins, change, Deepens, Effect, effect_of, Ends}
use Rattle.psci_ctl_spec.specs.Replies.{kick_effect, Nothing, reply, reset_of, Starts, wake_of}
use Rattle.psci_ctl_spec.specs.History.{IsOfBoard, MayFollow, SumLaws}
use Rattle.psci_ctl_spec.specs.Values.{begins_stale, depth_or, Values}
use Rattle.psci_ctl_spec.specs.declared.call.CtlCall.{CtlCall}
use Rattle.psci_ctl_spec.specs.declared.call.CtlCall.TheVariants as calls
use Rattle.psci_ctl_spec.specs.declared.delivery.Delivery.{Delivery}
use Rattle.psci_ctl_spec.specs.declared.kick.Kick.{Kick}
use Rattle.psci_ctl_spec.specs.declared.kick.Kick.TheVariants as kicks
use Rattle.psci_ctl_spec.specs.declared.reply.CtlReply.{CtlReply}
use Rattle.psci_ctl_spec.specs.declared.reply.CtlReply.TheVariants as replies
use Rattle.psci_port.specs.Waiting.{touches, waits}
use Rattle.psci_ctl.specs.Seen.{ControllerValue, seen}
use Rattle.psci_control.specs.ControlSide.{board_of, closed, ControlValue, effect_in, gate_in}
use Rattle.psci_control.specs.ControlSide.{gates_after, heard, IsAsked, IsControlSide, IsWaiting}
use Rattle.psci_control.specs.ControlSide.{values_of, waits_in, with_gate}
use Rattle.psci_control.specs.Orders.{ack_in, back_orders, end_orders, ending_of, orders_of, switch}
use Rattle.psci_control.specs.Powered.{powered, switched}
use Rattle.psci_control.specs.declared.gate.Gate.{Gate}
use Rattle.psci_control.specs.declared.order.Ending.{Ending}
use Rattle.psci_control.specs.declared.order.Order.{Order}

-- A Down is live where its first part's generation is the number of its core's last start ---------

pub present_message : (b : BoardValue) (v : Values) (m : MessageValue) (p : Part) → PathLaws b
    → SumLaws b → ((ps : List Part) → AreClaims ps → PartByPart ps) → m.core.number < cores b
    → m.kind ≡ Down → ArePartsOf m.kind m.parts → slice_get m.parts 0 ≡ Some p
    → nat_eq p.generation (v.starts m.core.number)
    ≡ not (begins_stale b v m.core.number m.parts)
present_message b v m p paths sums parts has kind are at = grind (arith, nat_tests)

-- What is written down of a core, and what a call leaves of that ----------------------------------

-- what is read at an index is what is kept of the core
pub read : (gates : List Gate) (c : ℕ) (x : Gate) → c < length gates → x ≡ get_or gates c x
    → x ≡ gate_in gates c
read gates c x inside is = is ∙ get_or_default gates c x closed inside

-- a side with something else written down of one core
pub writes : (s : ControlValue) (c : ℕ) (g : Gate) → IsControlSide s → c < cores (board_of s)
    → ((m : MessageValue) → g.waiting ≡ Some m → IsWaiting (board_of s) c m)
    → IsControlSide (with_gate s c g)
writes s c g is has waits = record {
  gates = length-set s.gates c g ∙ is.gates;
  waiting = λ d m at. elim (cases_eq d c) [
    | inl e ↦ rw e (waits m (rw (sym (written d e)) at))
    | inr differs ↦ is.waiting d m (subst (λ (k : Gate). k.waiting ≡ Some m)
        (get_or-set_other s.gates c d g closed differs) at)
  ];
}
  where
    there : c < length s.gates
    there = subst (λ n. c < n) (sym is.gates) has

    written : (d : ℕ) → d ≡ c → gate_in (set s.gates c g) d ≡ g
    written d e = ap (gate_in (set s.gates c g)) e ∙ get_or-set_same s.gates c g closed there

-- where the same waits as before
pub stays : (s : ControlValue) (c : ℕ) (g x : Gate) → IsControlSide s → c < cores (board_of s)
    → x ≡ get_or s.gates c x → g.waiting ≡ x.waiting
    → IsControlSide (with_gate s c g)
stays s c g x is has at same = writes s c g is has (λ m e. is.waiting c m (
    ap (λ (k : Gate). k.waiting)
    (sym (read s.gates c x (subst (λ n. c < n) (sym is.gates) has) at))
    ∙ sym same ∙ e))

pub holds : (s t : ControlValue) (c : ℕ) (g : Gate) (n : MessageValue) → IsControlSide s → s ≡ t
    → c ≡ n.core.number → IsOfBoard (board_of t) n → g.waiting ≡ Some n
    → IsControlSide (with_gate s c g)
holds s t c g n is same num of at =
    writes s c g is (subst (λ k. k < cores (board_of s)) (sym num) here.core)
    (λ m e. subst (IsWaiting (board_of s) c) (inner n m (sym at ∙ e))
    (record { board = here; core = sym num }))
  where
    inner : (n m : MessageValue) → Some n ≡ Some m → n ≡ m
    inner n m e = grind arith

    here : IsOfBoard (board_of s) n
    here = subst (λ (x : ControlValue). IsOfBoard (board_of x) n) (sym same) of

pub frees : (s : ControlValue) (c : ℕ) (g : Gate) → IsControlSide s → c < cores (board_of s)
    → g.waiting ≡ None → IsControlSide (with_gate s c g)
frees s c g is has none = writes s c g is has (λ m e. absurd (none-some m (sym none ∙ e)))

-- the power controller goes on, of the same board
pub goes_on : (s : ControlValue) (ctl : ControllerValue) → IsControlSide s
    → ctl.board ≡ board_of s → IsControlSide (record s { controller = ctl })
goes_on s ctl is same = record {
  gates = is.gates ∙ ap cores (sym same);
  waiting = λ c m at. subst (λ b. IsWaiting b c m) (sym same) (is.waiting c m at);
}

-- Once a life ends -------------------------------------------------------------------------------

pub blank_at : (n c : ℕ) → get_or (replicate n closed) c closed ≡ closed
blank_at zero c = refl
blank_at (suc n) zero = refl
blank_at (suc n) (suc c) = blank_at n c

pub closed_at : (gates : List Gate) (e : Ending) (c : ℕ)
    → gate_in (gates_after (Some e) gates) c ≡ closed
closed_at gates e c = blank_at (length gates) c

-- what is of the board of a side
pub seen_core : (s t : ControlValue) (c : ℕ) → s ≡ t → c < cores (board_of t)
    → c < cores (board_of s)
seen_core s t c same has = subst (λ (x : ControlValue). c < cores (board_of x)) (sym same) has

-- No life ends by a wake-up or by a reset of a core ----------------------------------------------

kick_ends : (c : ℕ) (cause : Cause) (kick : Kick) → ending_of (kick_effect c cause kick) ≡ None
kick_ends c cause (kicks.Started s) = refl
kick_ends c cause kicks.Ignored = refl

pub wake_ends : (b : BoardValue) (v : Values) (core : Core) (halted : ℕ)
    → ending_of (effect_of b (calls.Wake core halted) (reply b v (calls.Wake core halted))) ≡ None
unfolding reply effect_of
wake_ends b v core halted = kick_ends core.number causes.Wake (wake_of b v core.number halted)

pub reset_ends : (b : BoardValue) (v : Values) (core : Core)
    → ending_of (effect_of b (calls.Reset core) (reply b v (calls.Reset core))) ≡ None
unfolding reply effect_of
reset_ends b v core = kick_ends core.number causes.Reset (reset_of b v core.number)

-- What is left -----------------------------------------------------------------------------------

left_values : (b : BoardValue) (v w : Values) (call : CtlCall) (r : CtlReply)
    → w ≡ after b call r v → r ≡ reply b v call
    → w ≡ change b (effect_of b call (reply b v call)) v
unfolding after
left_values b v w call r at is = at ∙ ap (λ x. change b (effect_of b call x) v) is

asked_kick : (s : ControlValue) (ctl : ControllerValue) (call : CtlCall) (r : CtlReply)
    → ctl.board ≡ board_of s → seen ctl ≡ after (board_of s) call r (values_of s)
    → r ≡ reply (board_of s) (values_of s) call → ending_of (effect_in s call) ≡ None
    → IsAsked call s (record s { controller = ctl })
asked_kick s ctl call r board at is none = record {
  board = board;
  values = left_values (board_of s) (values_of s) (seen ctl) call r at is;
  gates = ap (λ (e : Option Ending). gates_after e s.gates) (sym none);
}

pub reset_asked : (s t : ControlValue) (ctl : ControllerValue) (core : Core) (kick : Kick)
    → s ≡ t → ctl.board ≡ board_of s
    → seen ctl ≡ after (board_of s) (calls.Reset core) (replies.Kick kick) (values_of s)
    → replies.Kick kick ≡ reply (board_of s) (values_of s) (calls.Reset core)
    → IsAsked (calls.Reset core) t (record s { controller = ctl })
reset_asked s t ctl core kick same board at is =
    subst (λ (x : ControlValue). IsAsked (calls.Reset core) x (record s { controller = ctl })) same
    (asked_kick s ctl (calls.Reset core) (replies.Kick kick) board at is
    (reset_ends (board_of s) (values_of s) core))

-- what waits by the word that was heard
module _ (s t : ControlValue) (ctl : ControllerValue) (w : ℕ) (same : s ≡ t)
    (board : ctl.board ≡ board_of s) where
  pub wake_asked : (core : Core) → w ≡ heard t core.number
      → (waits (board_of s) (values_of s) (λ c. w) (calls.Wake core w) ≡ false
      → seen ctl ≡ after (board_of s) (calls.Wake core w)
      (reply (board_of s) (values_of s) (calls.Wake core w)) (values_of s))
      → waits_in t (calls.Wake core (heard t core.number)) ≡ false
      → IsAsked (calls.Wake core (heard t core.number)) t (record s { controller = ctl })
  wake_asked core is at free =
      subst (λ (x : ControlValue). IsAsked (calls.Wake core (heard t core.number)) x
      (record s { controller = ctl })) same
      (subst (λ h. IsAsked (calls.Wake core h) s (record s { controller = ctl })) is
      (asked_kick s ctl (calls.Wake core w) (reply (board_of s) (values_of s) (calls.Wake core w))
      board (at stands) refl (wake_ends (board_of s) (values_of s) core w)))
    where
      stands : not (w == (values_of s).starts core.number) ≡ false
      stands = subst (λ h. not (h == (values_of s).starts core.number) ≡ false) (sym is)
          (subst (λ (x : ControlValue). not (heard t core.number
          == (values_of x).starts core.number) ≡ false) (sym same) free)

  pub delivered_asked : (new : ControlValue) (m : MessageValue) (n : ℕ) (d : Delivery)
      (b : BoardValue) (e : Option Ending) → n ≡ m.core.number → w ≡ heard t n
      → (waits (board_of s) (values_of s) (λ c. w) (calls.Deliver m) ≡ false
      → seen ctl ≡ after (board_of s) (calls.Deliver m)
      (reply (board_of s) (values_of s) (calls.Deliver m)) (values_of s))
      → (waits (board_of s) (values_of s) (λ c. w) (calls.Deliver m) ≡ false
      → Some (replies.Delivery d) ≡ Some (reply (board_of s) (values_of s) (calls.Deliver m)))
      → b ≡ ctl.board → e ≡ ending_of (effect_of b (calls.Deliver m) (replies.Delivery d))
      → new.controller ≡ ctl → new.gates ≡ gates_after e s.gates
      → waits_in t (calls.Deliver m) ≡ false → IsAsked (calls.Deliver m) t new
  delivered_asked new m n d b e num is at said own ends controller gates free =
      subst (λ (x : ControlValue). IsAsked (calls.Deliver m) x new) same (record {
        board = ap (λ (x : ControllerValue). x.board) controller ∙ board;
        values = ap seen controller
            ∙ left_values (board_of s) (values_of s) (seen ctl) (calls.Deliver m)
            (reply (board_of s) (values_of s) (calls.Deliver m)) (at stands) refl;
        gates = gates ∙ ap (λ (x : Option Ending). gates_after x s.gates) (ends
            ∙ ap (λ (x : BoardValue). ending_of
            (effect_of x (calls.Deliver m) (replies.Delivery d))) (own ∙ board)
            ∙ ap (λ (r : CtlReply). ending_of (effect_of (board_of s) (calls.Deliver m) r))
            (inner (replies.Delivery d) (reply (board_of s) (values_of s) (calls.Deliver m))
            (said stands)));
      })
    where
      inner : (x y : CtlReply) → Some x ≡ Some y → x ≡ y
      inner x y e = grind arith

      stands : waits (board_of s) (values_of s) (λ c. w) (calls.Deliver m) ≡ false
      stands = subst (λ h. (touches (board_of s) (values_of s) m
          && not (h == (values_of s).starts m.core.number)) ≡ false)
          (sym (is ∙ ap (heard t) num))
          (subst (λ (x : ControlValue). (touches (board_of x) (values_of x) m
          && not (heard t m.core.number == (values_of x).starts m.core.number)) ≡ false)
          (sym same) free)

-- A machine that carries out what is ordered has power as the power controller counts it ----------

-- an acknowledgement and the end of a life switch nothing
ending_powered : (b : BoardValue) (e : Option Ending) (d : ℕ → ℕ → ℕ)
    → powered b (end_orders e) d ≡ d
unfolding powered
ending_powered b None d = refl
ending_powered b (Some e) d = refl

rest_powered : (b : BoardValue) (a : Option AckValue) (e : Option Ending) (d : ℕ → ℕ → ℕ)
    → powered b (back_orders a ++ end_orders e) d ≡ d
unfolding powered
rest_powered b None e d = ending_powered b e d
rest_powered b (Some a) e d = ending_powered b e d

-- where the levels of parts count up from this one
abbrev AreFrom : ℕ → List Part → Type 0
AreFrom k ps = (i : ℕ) (p : Part) → slice_get ps i ≡ Some p → p.level ≡ k + i

next_from : (k : ℕ) (p : Part) (ps : List Part) → AreFrom k (p ∷ ps) → AreFrom (suc k) ps
next_from k p ps from i q at = let e = from (suc i) q at in omega (arith, e)

module _ (b : BoardValue) (core : Core) (rest : List Order) (level place : ℕ)
    (still : (d : ℕ → ℕ → ℕ) → powered b rest d ≡ d) where
  abbrev on : Bool
  on = is_on_path b core.number level place

  other_level : (p : Part) (d : ℕ → ℕ → ℕ) → (level ≡ p.level → ⊥)
      → switched b core.number p.level p.depth d level place ≡ d level place
  other_level p d differs =
      ap (λ t. cond (t && on) p.depth (d level place)) (ne_eqb level p.level differs)

  own_level : (p : Part) (d : ℕ → ℕ → ℕ) → level ≡ p.level
      → switched b core.number p.level p.depth d level place ≡ cond on p.depth (d level place)
  own_level p d same =
      ap (λ t. cond (t && on) p.depth (d level place)) (eq-eqb level p.level same)

  -- below the first level nothing is switched
  below_powered : (ps : List Part) (k : ℕ) (d : ℕ → ℕ → ℕ) → AreFrom k ps → level < k
      → powered b (map (switch core) ps ++ rest) d level place ≡ d level place
  unfolding powered
  below_powered [] k d from low = ap (λ f. f level place) (still d)
  below_powered (p ∷ ps) k d from low =
      let first : p.level ≡ k + 0 = from 0 p refl in
      below_powered ps (suc k) (switched b core.number p.level p.depth d) (next_from k p ps from)
      (omega (arith, low))
      ∙ other_level p d (λ e. omega (arith, e, first, low))

  same_if : (t : Bool) (n : ℕ) → n ≡ cond t n n
  same_if true n = refl
  same_if false n = refl

  -- and from it on each domain of the path is as deep as its part says
  parts_powered : (ps : List Part) (k i : ℕ) (d : ℕ → ℕ → ℕ) → AreFrom k ps → level ≡ k + i
      → powered b (map (switch core) ps ++ rest) d level place
      ≡ cond on (depth_or (slice_get ps i) (d level place)) (d level place)
  unfolding powered
  parts_powered [] k i d from at = ap (λ f. f level place) (still d) ∙ same_if on (d level place)
  parts_powered (p ∷ ps) k zero d from at =
      let first : p.level ≡ k + 0 = from 0 p refl in
      below_powered ps (suc k) (switched b core.number p.level p.depth d) (next_from k p ps from)
      (omega (arith, at))
      ∙ own_level p d (omega (arith, first, at))
  parts_powered (p ∷ ps) k (suc i) d from at =
      let first : p.level ≡ k + 0 = from 0 p refl in
      let same = other_level p d (λ e. omega (arith, e, first, at)) in
      parts_powered ps (suc k) i (switched b core.number p.level p.depth d)
      (next_from k p ps from) (omega (arith, at))
      ∙ ap (λ n. cond on (depth_or (slice_get ps i) n) n) same

-- All orders -------------------------------------------------------------------------------------

pub orders_power : (b : BoardValue) (v : Values) (f : Effect) (r : CtlReply) (level place : ℕ)
    → MayFollow b v f → ending_of f ≡ None
    → powered b (orders_of f r) v.depth level place ≡ (change b f v).depth level place
unfolding powered
orders_power b v Nothing r level place may none =
    ap (λ (d : ℕ → ℕ → ℕ). d level place) (rest_powered b (ack_in r) None v.depth)
orders_power b v (Starts c cause) r level place may none =
    ap (λ (d : ℕ → ℕ → ℕ). d level place)
    (rest_powered b (ack_in r) None (change b (Starts c cause) v).depth)
orders_power b v (Deepens c ps) r level place may none =
    parts_powered b (record { number = c }) (back_orders (ack_in r) ++ end_orders None) level place
    (rest_powered b (ack_in r) None) ps 0 level v.depth
    (λ i p at. let e = may.0.level i p at in omega (arith, e)) (omega arith)
orders_power b v Ends r level place may none = absurd (none-some _ (sym none))
orders_power b v Begins r level place may none = absurd (none-some _ (sym none))
