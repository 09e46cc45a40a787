-- What a record leaves of the world: where each core is, what the power controller keeps, and what
-- the firmware answers next.
use Rattle.std.proofs.Common.{◌++◌}
use Rattle.psci_ctl_spec.specs.Replies.{after, delivery_of, effect_of, reply}
use Rattle.psci_ctl_spec.specs.declared.call.CtlCall.TheVariants as asked
use Rattle.psci_ctl_spec.specs.declared.delivery.Delivery.TheVariants as deliveries
use Rattle.psci_ctl_spec.specs.declared.reply.CtlReply.{CtlReply}
use Rattle.psci_ctl_spec.specs.declared.reply.CtlReply.TheVariants as replies
use Rattle.psci_ctl_spec.specs.psci_messages.declared.start.Cause.TheVariants as causes
use Rattle.psci_world_spec.specs.Legal.{acks, asked_controller, controller_history, deliver}
use Rattle.psci_world_spec.specs.Legal.{firmware_history, if_running, legal, on_board, place, sent}
use Rattle.psci_world_spec.specs.Legal.{sent_in, take}
use Rattle.psci_world_spec.specs.psci_abi.declared.registers.Regs.{Regs}
use Rattle.psci_world_spec.specs.psci_fw_spec.Answer.{answer}
use Rattle.psci_world_spec.specs.psci_fw_spec.Effects.{listed}
use Rattle.psci_world_spec.specs.psci_fw_spec.Values as remembered
use Rattle.psci_world_spec.specs.psci_fw_spec.declared.call.FwCall.{FwCall}
use Rattle.psci_world_spec.specs.psci_fw_spec.declared.call.FwCall.TheVariants as calls
use Rattle.psci_port.proofs.Words.{◌<◌, ◌==◌, ◌∙◌, ◌∷◌, ◌≡◌, ack_by, AckValue, ap, arith}
use Rattle.psci_port.proofs.Words.{asked_firmware, AtDoor, BoardValue, Bool, Call, change, cond}
use Rattle.psci_port.proofs.Words.{controller_values, cores, CtlCall, CtlExchange, Deliver, Effect}
use Rattle.psci_port.proofs.Words.{Enter, Event, false, firmware_values, has_stopped, held_by}
use Rattle.psci_port.proofs.Words.{indexed, is_inside, is_started, is_this_life, Kick, kick_effect}
use Rattle.psci_port.proofs.Words.{last_start, length, List, MessageValue, nat_tests, None}
use Rattle.psci_port.proofs.Words.{numbered_old, Option, place_of, Record, Reset, reset_of}
use Rattle.psci_port.proofs.Words.{roused_at, Row, row_by, Running, Said, said_by, said_of, Some}
use Rattle.psci_port.proofs.Words.{Stage, stage_in, Standing, Start, Started, Starts, Stopped}
use Rattle.psci_port.proofs.Words.{stopping, subst, sym, Take, true, Values, values_of, Wake}
use Rattle.psci_port.proofs.Words.{wake_of, Woken, ℕ}
use Rattle.psci_port.proofs.Rows.{entering_by, IsRow}

-- An interrupt ---------------------------------------------------------------------------------

pub roused_place : (y : Stage) → place_of y ≡ place_of (roused_at y)
roused_place y = grind arith

-- A core's own acts ------------------------------------------------------------------------------

module _ (s : ℕ) (l : Option Start) (r : Row) (is : IsRow s l r) where
  -- it says that it stands
  pub stops_is : (y : Stage) → is_inside r.stage ≡ true → has_stopped y ≡ true
      → is_inside y ≡ false → entering_by y ≡ None → is_started y ≡ false
      → IsRow s l (stopping y r)
  stops_is y inside stopped out none gone = search (is, arith)

  -- and comes to its WFI
  pub sleeps_is : has_stopped r.stage ≡ true → IsRow s l (record r { stage = Standing })
  sleeps_is stopped = search (is, arith)

  -- it was armed, and goes to its door
  pub turns_is : r.stage ≡ Woken → IsRow s l (record r { stage = AtDoor })
  turns_is at = search (is, arith)

  -- it comes back out of its wait
  pub rouses_is : IsRow s l (record r { stage = roused_at r.stage })
  rouses_is = search (is, arith)

  -- its start is written at its door, and that is opened
  pub writes_is : IsRow s l (record r { door = l })
  writes_is = search (is, arith)

  pub opens_is : r.door ≡ l → IsRow s l (record r { opened = s; held = false })
  opens_is shows = search (is, arith)

  -- what is open and not used is its last start
  pub open_last : r.held ≡ false → (r.opened == r.used) ≡ false → r.opened ≡ s
  open_last free new = grind (is, arith, nat_tests)

  pub open_new : r.held ≡ false → (r.opened == r.used) ≡ false → r.used < s
  open_new free new = grind (is, arith, nat_tests)

  -- the core of such a door has not stopped
  pub open_moves : (r.opened == r.used) ≡ false → has_stopped r.stage ≡ true → ⊥
  open_moves new stopped = grind (is, arith, nat_tests)

  -- it takes that start up
  pub takes_up : (d : Option Start) → r.door ≡ d → r.held ≡ false
      → (r.opened == r.used) ≡ false
      → IsRow s l (record r { used = r.opened; stage = stage_in d })
  takes_up None at free new = search (is, arith, nat_tests)
  takes_up (Some t) at free new = search (is, arith, nat_tests)

-- Held --------------------------------------------------------------------------------------------
-- Whom the power controller holds in reset: no core that it starts by a message or a wake-up.

-- whether a core that was started is held
abbrev pub held_after : Effect → Bool → Bool
held_after (Starts c cause) x = held_by cause x
held_after f x = x

pub delivered_held : (b : BoardValue) (m : MessageValue) (r : CtlReply) (x : Bool)
    → held_after (effect_of b (asked.Deliver m) r) x ≡ x
unfolding effect_of
delivered_held b m r x = grind (arith, nat_tests)

pub woken_held : (b : BoardValue) (c halted : ℕ) (r : CtlReply) (x : Bool)
    → held_after (effect_of b (asked.Wake (record { number = c }) halted) r) x ≡ x
unfolding effect_of
woken_held b c halted r x = grind (arith, nat_tests)

-- The power controller is asked ------------------------------------------------------------------

-- an event asks it this
abbrev pub Names : List Record → Event → CtlCall → Type 0
Names past (Deliver k) (asked.Deliver m) = indexed (sent past) k ≡ Some m
Names past (Wake c) (asked.Wake core halted) = c ≡ core.number
Names past (Reset c) (asked.Reset core) = c ≡ core.number
Names past event call = ⊥

-- what its record leaves, by its values before
pub record Moves (b : BoardValue) (past : List Record) (r : Record) (f : Effect) (v : Values)
    : Type 0 where
  pub values : controller_values b (r ∷ past) ≡ change b f v
  pub places : (c : ℕ) (row : Row) → place b past c ≡ place_of row.stage
      → place b (r ∷ past) c ≡ place_of (row_by c f row).stage

module _ (b : BoardValue) (past : List Record)
    (more : (e : CtlExchange) (h : List CtlExchange)
    → values_of b (e ∷ h) ≡ after b e.call e.reply (values_of b h)) where
  abbrev v : Values
  v = controller_values b past

  reset_moves : (c n : ℕ) (k : Kick)
      → Moves b past (record { event = Reset c; said = said_by n (replies.Kick k) })
      (kick_effect c causes.Reset k) v
  unfolding controller_history place after effect_of
  reset_moves c n k = grind (arith, nat_tests)

  wake_moves : (c n : ℕ) (k : Kick)
      → Moves b past (record { event = Wake c; said = said_by n (replies.Kick k) })
      (kick_effect c causes.Wake k) v
  unfolding controller_history place after effect_of
  wake_moves c n k = grind (arith, nat_tests)

  message_moves : (k n : ℕ) (m : MessageValue) (a : AckValue) (t : Bool)
      → indexed (sent past) k ≡ Some m
      → Moves b past
      (record {
        event = Deliver k;
        said = said_by n (replies.Delivery
            (cond t (deliveries.Applied a) deliveries.Ignored));
      })
      (effect_of b (asked.Deliver m) (replies.Delivery
      (cond t (deliveries.Applied a) deliveries.Ignored))) v
  unfolding controller_history place after effect_of
  message_moves k n m a t at = grind (arith, nat_tests)

  pub moves : (event : Event) (call : CtlCall) → Names past event call
      → Moves b past (record { event = event; said = asked_controller b past call })
      (effect_of b call (reply b v call)) v
  unfolding reply delivery_of effect_of
  moves (Deliver k) (asked.Deliver m) at =
      message_moves k (length (acks past)) m (ack_by b v m m.kind) (is_this_life v.life m.life) at
  moves (Wake c) (asked.Wake core halted) at =
      subst (λ i. Moves b past (record {
        event = Wake i;
        said = asked_controller b past
            (asked.Wake core halted);
      }) (effect_of b (asked.Wake core halted)
      (reply b v (asked.Wake core halted))) v) (sym at)
      (wake_moves core.number (length (acks past)) (wake_of b v core.number halted))
  moves (Reset c) (asked.Reset core) at =
      subst (λ i. Moves b past (record {
        event = Reset i;
        said = asked_controller b past
            (asked.Reset core);
      }) (effect_of b (asked.Reset core) (reply b v (asked.Reset core))) v)
      (sym at)
      (reset_moves core.number (length (acks past)) (reset_of b v core.number))
  moves (Call c regs) call at = elim at [ ]
  moves (Enter c) call at = elim at [ ]
  moves (Take k) call at = elim at [ ]
  moves (Wake c) (asked.Deliver m) at = elim at [ ]
  moves (Wake c) (asked.Reset core) at = elim at [ ]
  moves (Reset c) (asked.Deliver m) at = elim at [ ]
  moves (Reset c) (asked.Wake core halted) at = elim at [ ]
  moves (Deliver k) (asked.Wake core halted) at = elim at [ ]
  moves (Deliver k) (asked.Reset core) at = elim at [ ]

-- What the firmware answers next -----------------------------------------------------------------

-- a record of the power controller leaves the firmware as it was, and each acknowledgement
pub record Spares (b : BoardValue) (past : List Record) (r : Record) : Type 0 where
  pub asked : (c : ℕ) (call : FwCall)
      → asked_firmware b past c call ≡ asked_firmware b (r ∷ past) c call
  pub acks : (k : ℕ) (a : AckValue) → indexed (acks past) k ≡ Some a
      → indexed (acks (r ∷ past)) k ≡ Some a

pub sends_none : (n : ℕ) (r : CtlReply) → sent_in (said_by n r) ≡ None
sends_none n r = grind (arith, nat_tests)

listed_old : (o : Option AckValue) (made : List AckValue) (k : ℕ) (a : AckValue)
    → indexed made k ≡ Some a → indexed (listed o ++ made) k ≡ Some a
listed_old None made k a at = at
listed_old (Some x) made k a at = numbered_old x made k a at

abbrev answered : BoardValue → ℕ → remembered.Values → ℕ → FwCall → Said
answered b n v c call = said_of n (answer b v c call)

same_answer : (b : BoardValue) (past : List Record) (r : Record)
    → firmware_values b (r ∷ past) ≡ firmware_values b past → sent_in r.said ≡ None
    → Spares b past r
unfolding sent acks
same_answer b past r same none = grind (arith, nat_tests, length, listed_old)

pub told_spares : (b : BoardValue) (past : List Record) (event : Event) (call : CtlCall) (n : ℕ)
    (r : CtlReply) → Names past event call
    → Spares b past (record { event = event; said = said_by n r })
unfolding firmware_history
told_spares b past event call n r names = grind (arith, nat_tests, same_answer, sends_none)

-- What is legal to say ---------------------------------------------------------------------------

there : (b : BoardValue) (c : ℕ) (said : Said) → c < cores b → on_board b c said ≡ said
there b c said on = grind (arith, nat_tests)

pub call_legal : (b : BoardValue) (past : List Record) (c : ℕ) (regs : Regs) → c < cores b
    → place b past c ≡ Running
    → asked_firmware b past c (calls.Smc regs) ≡ legal b past (Call c regs)
unfolding legal
call_legal b past c regs on at =
    sym (there b c _ on ∙ ap (λ p. if_running p (asked_firmware b past c (calls.Smc regs))) at)

pub enter_legal : (b : BoardValue) (past : List Record) (c : ℕ) (s : Start) → c < cores b
    → place b past c ≡ Started → last_start (controller_values b past) c ≡ Some s
    → asked_firmware b past c (calls.Enter s) ≡ legal b past (Enter c)
unfolding legal
enter_legal b past c s on at last = grind (arith, nat_tests)

pub take_legal : (b : BoardValue) (past : List Record) (k : ℕ) (a : AckValue)
    → indexed (acks past) k ≡ Some a
    → asked_firmware b past 0 (calls.Take a) ≡ legal b past (Take k)
unfolding legal
take_legal b past k a at = ap (take b past) (sym at)

pub wake_legal : (b : BoardValue) (past : List Record) (c halted : ℕ) → c < cores b
    → place b past c ≡ Stopped → halted ≡ (controller_values b past).starts c
    → asked_controller b past (asked.Wake (record { number = c }) halted) ≡ legal b past (Wake c)
unfolding legal
wake_legal b past c halted on at same = grind (arith, nat_tests)

pub reset_legal : (b : BoardValue) (past : List Record) (c : ℕ) → c < cores b
    → asked_controller b past (asked.Reset (record { number = c })) ≡ legal b past (Reset c)
unfolding legal
reset_legal b past c on = sym (there b c _ on)

pub deliver_legal : (b : BoardValue) (past : List Record) (k : ℕ) (m : MessageValue)
    → indexed (sent past) k ≡ Some m
    → asked_controller b past (asked.Deliver m) ≡ legal b past (Deliver k)
unfolding legal
deliver_legal b past k m at = ap (deliver b past) (sym at)
