-- What is left of a machine and its port, once the power controller was asked and its orders are
-- carried out.
use Rattle.std.specs.Prelude.{slice_set}
use Rattle.std.proofs.Common.{get_or-set_same}
use Rattle.psci_ctl_spec.specs.Replies.{effect_of}
use Rattle.psci_ctl_spec.specs.declared.delivery.Delivery.TheVariants as deliveries
use Rattle.psci_ctl_spec.specs.declared.reply.CtlReply.TheVariants as replies
use Rattle.psci_fw_spec.specs.declared.call.FwCall.TheVariants as calls
use Rattle.psci_world_spec.specs.Legal as world
use Rattle.psci_world_spec.specs.Legal.{acks, sent}
use Rattle.psci_headline.proofs.Serving.{numbered_new, numbered_old}
use Rattle.psci_port.specs.Port.{first_row, held_by, started}
use Rattle.psci_port.specs.Stages as stages
use Rattle.psci_port.specs.Stages.{stage_by}
use Rattle.psci_port.proofs.Records.{held_after}
use Rattle.psci_control.specs.SideOf as control
use Rattle.psci_control.specs.declared.order.Ending.{Ending}
use Rattle.psci_control.proofs.Asked.{closed_at}
use Rattle.psci_sides.specs.Machine.{carried, empty, new_side}
use Rattle.psci_sides.specs.Seen.{WasMade}
use Rattle.psci_sides.proofs.Words.{◌++◌, ◌<◌, ◌==◌, ◌∙◌, ◌∷◌, ◌⊎◌, ◌≡◌, ack_in, AckValue, ap}
use Rattle.psci_sides.proofs.Words.{arith, Armed, Begins, BoardValue, Bool, cases_eq, Cause, closed}
use Rattle.psci_sides.proofs.Words.{cond, ControlValue, cores, CtlCall, CtlReply, Deepens, Effect}
use Rattle.psci_sides.proofs.Words.{Ends, Entering, eq-eqb, eqb-true, Event, false, false≢true}
use Rattle.psci_sides.proofs.Words.{FirmwareSide, FirmwareValue, Fits, FitsCall, FwCall, Gate}
use Rattle.psci_sides.proofs.Words.{gate_in, gates_after, get_or-set_other, has_stood, has_stopped}
use Rattle.psci_sides.proofs.Words.{indexed, inl, inr, is_armed, is_end, is_started, IsControlSide}
use Rattle.psci_sides.proofs.Words.{IsCoreOf, IsEventOf, IsFirmwareOf, IsIn, IsKept, IsLent}
use Rattle.psci_sides.proofs.Words.{IsMachineOf, IsSideOf, length, List, listed, looks, Machine}
use Rattle.psci_sides.proofs.Words.{MayFollow, MessageValue, moved, nat_tests, None, none-some}
use Rattle.psci_sides.proofs.Words.{Nothing, Option, Order, orders_in, orders_of, Port, Post}
use Rattle.psci_sides.proofs.Words.{Record, refl, reply, Row, row_by, said_by, sent_in, side_of}
use Rattle.psci_sides.proofs.Words.{Some, Stage, stage_at, Starts, starts_core, starts_in, Station}
use Rattle.psci_sides.proofs.Words.{subst, sym, true, Values, WasSent, with_gate, words, ℕ}
use Rattle.psci_sides.proofs.Carrying.{carried_by, done, done_acks, done_lock, done_mail}
use Rattle.psci_sides.proofs.Carrying.{done_power}

-- One core ---------------------------------------------------------------------------------------

module _ (b : BoardValue) (m : Machine) (p : Port)
    (each : (c : ℕ) → c < cores b → IsCoreOf c (m.side c) (m.station c) (p.row c)) where
  -- another one's row is as before
  pub one_core : (c : ℕ) (s : FirmwareSide) (x : Station) (r : Row) → IsCoreOf c s x r
      → (d : ℕ) → d < cores b
      → IsCoreOf d (cond (d == c) s (m.side d)) (cond (d == c) x (m.station d))
      (cond (d == c) r (p.row d))
  one_core c s x r own d has = grind (arith, nat_tests)

  -- the same where its row is, too
  pub same_core : (c : ℕ) (s : FirmwareSide) (x : Station) → IsCoreOf c s x (p.row c)
      → (d : ℕ) → d < cores b
      → IsCoreOf d (cond (d == c) s (m.side d)) (cond (d == c) x (m.station d)) (p.row d)
  same_core c s x own d has = grind (arith, nat_tests)

  -- its monitor is its side of the port
  pub its_side : (c : ℕ) → c < cores b → IsSideOf b (side_of m c) p
  its_side c has = record { has = has; used = (each c has).used; post = (each c has).post }

-- who is armed has a monitor that is
pub armed_post : (post : Post) (y : Stage) → Fits post y → is_armed y ≡ true → post ≡ Armed
armed_post post y fits armed = grind (arith, nat_tests)

-- whether a core stands in its last start is the same in both
module _ (b : BoardValue) (m : Machine) (p : Port) (is : IsMachineOf b m p) (kept : IsKept p)
    (c : ℕ) (has : c < cores b) where
  pub stood_same : has_stood m c ≡ (words p c == p.values.starts c)
  stood_same = ap (λ n. n == starts_in m c) (is.each c has).word
      ∙ ap (λ (v : Values). words p c == v.starts c) is.control.values

  pub stood_stopped : has_stood m c ≡ true → has_stopped (stage_at p c) ≡ true
  stood_stopped stood = (kept.rows c).stands (eqb-true _ _ (sym stood_same ∙ stood))

  pub stopped_stood : has_stopped (stage_at p c) ≡ true → has_stood m c ≡ true
  stopped_stood stopped = stood_same ∙ eq-eqb _ _ ((kept.rows c).still stopped)

-- The mailbox ------------------------------------------------------------------------------------

-- what is in a list behind what was put there
pub in_listed : {A : Type 0} → (o : Option A) (xs : List A) (x : A) → IsIn (listed o ++ xs) x
    → (o ≡ Some x) ⊎ IsIn xs x
in_listed o xs x h = grind (arith, nat_tests)

-- an item keeps its number
pub still_numbered : {A : Type 0} → (o : Option A) (xs : List A) (k : ℕ) (x : A)
    → indexed xs k ≡ Some x → indexed (listed o ++ xs) k ≡ Some x
still_numbered None xs k x e = e
still_numbered (Some y) xs k x e = numbered_old y xs k x e

-- and the newest one has one
pub new_numbered : {A : Type 0} → (o : Option A) (xs : List A) (x : A) → o ≡ Some x
    → (k : ℕ) × (indexed (listed o ++ xs) k ≡ Some x)
new_numbered None xs x e = absurd (none-some x e)
new_numbered (Some y) xs x e = (length xs, numbered_new y xs ∙ e)

-- what was sent and made, after one record more
pub sent_still : (r : Record) (past : List Record) (x : MessageValue) → WasSent past x
    → WasSent (r ∷ past) x
unfolding sent
sent_still r past x was = (was.0, still_numbered (sent_in r.said) (sent past) was.0 x was.1)

pub sent_new : (r : Record) (past : List Record) (x : MessageValue) → sent_in r.said ≡ Some x
    → WasSent (r ∷ past) x
unfolding sent
sent_new r past x e = new_numbered (sent_in r.said) (sent past) x e

pub made_still : (r : Record) (past : List Record) (a : AckValue) → WasMade past a
    → WasMade (r ∷ past) a
unfolding acks
made_still r past a was =
    (was.0, still_numbered (world.ack_in r.said) (acks past) was.0 a was.1)

pub made_new : (r : Record) (past : List Record) (a : AckValue) → world.ack_in r.said ≡ Some a
    → WasMade (r ∷ past) a
unfolding acks
made_new r past a e = new_numbered (world.ack_in r.said) (acks past) a e

-- What is kept back ------------------------------------------------------------------------------

-- what waits once something else is written down of one core
pub gate_waits : (gates : List Gate) (c : ℕ) (g : Gate) (d : ℕ) (x : MessageValue)
    → c < length gates → (gate_in (slice_set gates c g) d).waiting ≡ Some x
    → (g.waiting ≡ Some x) ⊎ ((gate_in gates d).waiting ≡ Some x)
gate_waits gates c g d x inside at =
    grind (arith, nat_tests, cases_eq, get_or-set_same, get_or-set_other)

-- and once a life ends
pub ended_waits : (o : Option Ending) (gates : List Gate) (d : ℕ) (x : MessageValue)
    → (gate_in (gates_after o gates) d).waiting ≡ Some x → (gate_in gates d).waiting ≡ Some x
ended_waits None gates d x at = at
ended_waits (Some e) gates d x at =
    absurd (none-some x (sym (ap (λ (k : Gate). k.waiting) (closed_at gates e d)) ∙ at))

-- what stands at a core's door in a port, and its word, are as before
module _ (b : BoardValue) (p : Port) (s : ControlValue) (side : control.IsSideOf b s p)
    (is : IsControlSide s) (c : ℕ) (has : c < cores b) where
  pub inside : c < length s.gates
  inside = subst (λ n. c < n) (sym (is.gates ∙ ap cores side.board)) has

  pub there : (g : Gate) → gate_in (with_gate s c g).gates c ≡ g
  there g = get_or-set_same s.gates c g closed inside

  -- something else waits
  pub waits_side : (g : Gate) → g.written ≡ (gate_in s.gates c).written
      → g.opened ≡ (gate_in s.gates c).opened → g.word ≡ (gate_in s.gates c).word
      → control.IsSideOf b (with_gate s c g) p
  waits_side g written opened word = grind (arith, nat_tests, cases_eq, there, get_or-set_other)

-- Commanding --------------------------------------------------------------------------------------

said_ack : (n : ℕ) (r : CtlReply) (a : AckValue) → ack_in r ≡ Some a
    → world.ack_in (said_by n r) ≡ Some a
said_ack n (replies.Delivery (deliveries.Applied x)) a e = e
said_ack n x a e = absurd (none-some a e)

-- a core was lent nothing that is neither in the normal world nor on its way into the firmware
abbrev pub is_within : Stage → Bool
is_within (stages.Entering s) = true
is_within stages.Normal = true
is_within y = false

module _ (p : Port) (kept : IsKept p) (c : ℕ) (post : Post)
    (out : is_within (stage_at p c) ≡ false) where
  calls_none : (call : FwCall) (r : Record) → (p.row c).begun ≡ Some r
      → IsEventOf c post call r.event → ⊥
  calls_none (calls.Smc regs) r begun at =
      let fits = subst (λ e. FitsCall c e (stage_at p c)) at (kept.held.fits c r begun) in
      false≢true (sym out ∙ ap is_within fits.1)
  calls_none (calls.Enter start) r begun at =
      let fits = subst (λ e. FitsCall c e (stage_at p c)) at.0 (kept.held.fits c r begun) in
      false≢true (sym out ∙ ap is_within fits.1.1)
  calls_none (calls.Take ack) r begun at = at

  pub lent_none : (o : Option FwCall) → IsLent c post o (p.row c).begun → o ≡ None
  lent_none None lent = refl
  lent_none (Some call) lent = absurd (calls_none call lent.0 lent.1.0 lent.1.1)

-- one that stands is not
pub stood_out : (y : Stage) → has_stopped y ≡ true → is_within y ≡ false
stood_out y is = grind (arith, nat_tests)

-- nor one that looks
pub looks_out : (y : Stage) → looks y ≡ true → is_within y ≡ false
looks_out y is = grind (arith, nat_tests)

-- nor one that was started, and has not taken its start up
pub started_out : (y : Stage) → is_started y ≡ true → is_within y ≡ false
started_out y is = grind (arith, nat_tests)

-- a core as a life begins
pub first_core : (c : ℕ) → IsCoreOf c (new_side c) empty (first_row c)
first_core c = grind (arith, nat_tests)

module _ (b : BoardValue) (m : Machine) (p : Port) (is : IsMachineOf b m p) (f : FirmwareValue)
    (r : CtlReply) (event : Event) where
  abbrev told : Record
  told = record { event = event; said = said_by (length (acks p.past)) r }

  abbrev left : Effect → Port
  left g = moved b p g told

  abbrev done_now : Effect → Machine
  done_now g = done b f g (ack_in r) m

  -- Cores ----------------------------------------------------------------------------------------

  started_core : (c : ℕ) (cause : Cause) → IsCoreOf c (m.side c) (m.station c) (p.row c)
      → Fits (m.side c).post (stage_by cause (stage_at p c)) → (m.station c).lent ≡ None
      → ((x : Bool) → held_by cause x ≡ x)
      → IsCoreOf c (m.side c) (m.station c) (started cause (p.row c))
  started_core c cause was fits none free = grind (arith, nat_tests)

  pub cores_after : (g : Effect)
      → (is_end g ≡ false → (c : ℕ) → c < cores b
      → Fits (m.side c).post (row_by c g (p.row c)).stage)
      → ((c : ℕ) → starts_core g ≡ Some c → (m.station c).lent ≡ None)
      → ((x : Bool) → held_after g x ≡ x) → (c : ℕ) → c < cores b
      → IsCoreOf c ((done_now g).side c) ((done_now g).station c) (row_by c g (p.row c))
  cores_after Nothing fits none free c has = is.each c has
  cores_after (Starts d cause) fits none free c has = by (c == d) refl
    where
      by : (t : Bool) → (c == d) ≡ t → IsCoreOf c (m.side c) (m.station c)
          (cond t (started cause (p.row c)) (p.row c))
      by true e = started_core c cause (is.each c has)
          (subst (λ t. Fits (m.side c).post (cond t (started cause (p.row c)) (p.row c)).stage) e
          (fits refl c has))
          (none c (ap (λ k. Some k) (sym (eqb-true c d e)))) free
      by false e = is.each c has
  cores_after (Deepens d ps) fits none free c has = is.each c has
  cores_after Ends fits none free c has = record {
    used = refl;
    post = refl;
    opened = refl;
    start = refl;
    word = refl;
    held = refl;
    lent = refl;
  }
  cores_after Begins fits none free c has = first_core c

  -- All of it ------------------------------------------------------------------------------------

  firmware_after : (g : Effect) → (is_end g ≡ false → IsFirmwareOf b m.firmware (left g))
      → (is_end g ≡ true → IsFirmwareOf b f (left g))
      → IsFirmwareOf b (done_now g).firmware (left g)
  firmware_after g stays new = grind (arith, nat_tests)

  module _ (t : ControlValue) (g : Effect)
      (stays : is_end g ≡ false → IsFirmwareOf b m.firmware (left g))
      (new : is_end g ≡ true → IsFirmwareOf b f (left g))
      (side : control.IsSideOf b t (left g)) (gates : IsControlSide t)
      (keeps : (c : ℕ) (x : MessageValue) → (gate_in t.gates c).waiting ≡ Some x
      → (gate_in m.control.gates c).waiting ≡ Some x)
      (may : MayFollow b p.values g) where
    pub left_machine : (n : Machine) → n.firmware ≡ (done_now g).firmware
        → n.lock ≡ (done_now g).lock → n.mail ≡ (done_now g).mail → n.acks ≡ (done_now g).acks
        → n.depth ≡ (done_now g).depth → n.cut ≡ (done_now g).cut → n.control ≡ t
        → ((c : ℕ) → c < cores b
        → IsCoreOf c (n.side c) (n.station c) ((left g).row c)) → IsMachineOf b n (left g)
    left_machine n firmware lock mail made depth cut ctl each = record {
      each = each;
      firmware = subst (λ x. IsFirmwareOf b x (left g)) (sym firmware)
          (firmware_after g stays new);
      control = subst (λ x. control.IsSideOf b x (left g)) (sym ctl) side;
      gates = subst (λ x. IsControlSide x) (sym ctl) gates;
      lock = lock ∙ done_lock b f g (ack_in r) m p.lock is.lock;
      mail = record {
        messages = λ x at. sent_still told p.past x (is.mail.messages x
            (subst (λ l. IsIn l x) (mail ∙ done_mail b f g (ack_in r) m) at));
        kept = λ c x at. sent_still told p.past x (is.mail.kept c x
            (keeps c x (subst (λ (s : ControlValue). (gate_in s.gates c).waiting ≡ Some x) ctl
            at)));
        acks = λ a at. elim (in_listed (ack_in r) m.acks a
            (subst (λ l. IsIn l a) (made ∙ done_acks b f g (ack_in r) m) at)) [
              | inl e ↦ made_new told p.past a (said_ack (length (acks p.past)) r a e)
              | inr old ↦ made_still told p.past a (is.mail.acks a old)
            ];
      };
      power = record {
        depth = λ level place. ap (λ (d : ℕ → ℕ → ℕ). d level place) depth
            ∙ (done_power b f (ack_in r) m p.values p.cut is.power g may).depth level place;
        cut = λ level place. ap (λ (d : ℕ → ℕ → Bool). d level place) cut
            ∙ (done_power b f (ack_in r) m p.values p.cut is.power g may).cut level place;
      };
    }

-- The power controller's orders are those of the port.
module _ (b : BoardValue) (m : Machine) (p : Port) (is : IsMachineOf b m p) (f : FirmwareValue)
    (call : CtlCall) where
  abbrev rep : CtlReply
  rep = reply b p.values call

  abbrev now : Effect
  now = effect_of b call rep

  same_orders : orders_in m.control call ≡ orders_of now rep
  same_orders = grind (arith, nat_tests)

  pub carried_now : carried b f (orders_in m.control call) m ≡ done b f now (ack_in rep) m
  carried_now = ap (λ (os : List Order). carried b f os m) same_orders ∙ carried_by b f now rep m
