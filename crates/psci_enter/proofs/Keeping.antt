-- What a core does by itself keeps the rules of the port; what others do leaves the firmware.
use Rattle.std.specs.Prelude.{option_map}
use Rattle.std.proofs.Common.{◌<◌, ◌==◌, ◌∙◌, ◌∷◌, ◌≤◌, ◌⊎◌, ◌≡◌, [], ap, arith, Bool, cond, false}
use Rattle.std.proofs.Common.{List, None, Option, refl, Some, subst, sym, true, ℕ}
use Rattle.std.proofs.lemmas.Bool.Decides.{nat_tests}
use Rattle.std.proofs.lemmas.Bool.{eq-eqb, false≢true}
use Rattle.psci_abi.specs.declared.registers.Regs.{Regs}
use Rattle.psci_board.specs.Board.{BoardValue}
use Rattle.psci_messages.specs.Message.{AckValue, MessageValue}
use Rattle.psci_messages.specs.declared.start.Start.{Start}
use Rattle.psci_messages.specs.declared.start.Cause.{Cause}
use Rattle.psci_ctl_spec.specs.Replies.{effect_of, last_start, reply, start_shown}
use Rattle.psci_ctl_spec.specs.declared.call.CtlCall.TheVariants as asked
use Rattle.psci_fw_spec.specs.declared.call.FwCall.TheVariants as calls
use Rattle.psci_fw_spec.specs.declared.outcome.Outcome.{Outcome}
use Rattle.psci_fw_spec.specs.declared.reply.FwReply.{FwReply}
use Rattle.psci_fw_spec.specs.Effects.{after, FwExchange}
use Rattle.psci_fw_spec.specs.History.{values_of}
use Rattle.psci_fw_spec.specs.Answer.{answer, enter_fault, enter_outcome, reply_or}
use Rattle.psci_fw_spec.specs.Changes.{start_of_life}
use Rattle.psci_fw_spec.specs.Values.{Values}
use Rattle.psci_fw_spec.specs.declared.fault.FwFault.{FwFault}
use Rattle.psci_fw_spec.specs.declared.reply.FwReply.TheVariants as replies
use Rattle.psci_world_spec.specs.declared.event.Event.TheVariants.{Call, Deliver, Enter, Take}
use Rattle.psci_world_spec.specs.declared.said.Record.{Record}
use Rattle.psci_world_spec.specs.declared.said.Sent.{Sent}
use Rattle.psci_world_spec.specs.Legal.{acks, controller_values, firmware_history, firmware_values}
use Rattle.psci_world_spec.specs.Legal.{indexed, outcome_in, said_of, sent_as}
use Rattle.psci_port.specs.Port.{Act, Arms, cold, Delivers, going_on, Port, Resets, Rises, Rouses}
use Rattle.psci_port.specs.Port.{Row, Sleeps, stage_at, Stands, state, step, TakesUp, Turns, Wakes}
use Rattle.psci_port.specs.Port.{woken, words}
use Rattle.psci_port.specs.Rebooted.{rebooted}
use Rattle.psci_port.specs.Stages as stages
use Rattle.psci_port.specs.Stages.{is_started, roused_at, Stage, stage_in}
use Rattle.psci_port.specs.Rules.{HasLock, IsTrue, LacksLock, May}
use Rattle.psci_port.specs.Waiting.{waits}
use Rattle.psci_port.proofs.Running.{IsKept, looks_apart}
use Rattle.psci_fw.specs.Reactions.{FirmwareValue, seen}
use Rattle.psci_enter.specs.Side.{at, found, heard, may_look, reply_in, taking_up}
use Rattle.psci_enter.specs.SideOf as answers
use Rattle.psci_enter.specs.SideOf.{core_of, Fits, is_end, is_quiet, IsAnew, IsDoor, IsFirmwareOf}
use Rattle.psci_enter.specs.SideOf.{IsRightly, IsSideOf}
use Rattle.psci_enter.specs.declared.order.Look.TheVariants as look
use Rattle.psci_enter.specs.declared.post.Door.{Door}
use Rattle.psci_enter.specs.declared.post.Post.{Post}
use Rattle.psci_enter.specs.declared.post.Post.TheVariants.{Armed, Leaving, Waiting, Woken}
use Rattle.psci_enter.specs.declared.side.FirmwareSide.{FirmwareSide}

same_message : (n : ℕ) (x : Option MessageValue)
    → option_map (λ (s : Sent). s.message) (sent_as n x) ≡ x
same_message n None = refl
same_message n (Some m) = refl

same_outcome : (n : ℕ) (o : Outcome) → outcome_in o.act (sent_as n o.message) ≡ o
same_outcome n o =
    ap (λ x. record { act = o.act; message = x }) (same_message n o.message)

module _ (b : BoardValue) (more : (e : FwExchange) (h : List FwExchange)
    → values_of b (e ∷ h) ≡ after b e.core e.call e.reply (values_of b h))
    (past : List Record) where
  pub called_values : (c : ℕ) (regs : Regs) (n : ℕ) (r : FwReply)
      → firmware_values b (record { event = Call c regs; said = said_of n r } ∷ past)
      ≡ after b c (calls.Smc regs) r (firmware_values b past)
  unfolding firmware_history after
  called_values c regs n r = grind (arith, nat_tests)

  pub entered_values : (c : ℕ) (start : Start) (n : ℕ) (r : FwReply)
      → last_start (controller_values b past) c ≡ Some start
      → firmware_values b (record { event = Enter c; said = said_of n r } ∷ past)
      ≡ after b c (calls.Enter start) r (firmware_values b past)
  unfolding firmware_history after
  entered_values c start n r last = grind (arith, nat_tests)

  pub taken_values : (c : ℕ) (k : ℕ) (a : AckValue) (n : ℕ) (r : FwReply)
      → indexed (acks past) k ≡ Some a
      → firmware_values b (record { event = Take k; said = said_of n r } ∷ past)
      ≡ after b c (calls.Take a) r (firmware_values b past)
  unfolding firmware_history after
  taken_values c k a n r at = grind (arith, nat_tests)

-- What the firmware replies ----------------------------------------------------------------------

module _ (b : BoardValue) (p : Port) (f : FirmwareValue) (is : IsFirmwareOf b f p) where
  -- in the normal world none was made anew
  pub called_reply : (c : ℕ) (regs : Regs) → stage_at p c ≡ stages.Normal
      → reply_in f c (calls.Smc regs) ≡ answer b (firmware_values b p.past) c (calls.Smc regs)
  called_reply c regs at = grind (arith, nat_tests)

  pub taken_reply : (c : ℕ) (a : AckValue) → (IsAnew b f p → ⊥)
      → reply_in f c (calls.Take a) ≡ answer b (firmware_values b p.past) 0 (calls.Take a)
  unfolding answer
  taken_reply c a not = grind (arith, nat_tests)

  module _ (alike : (v : Values) (c : ℕ) (s : Start) → v.life < s.life
      → answer b v c (calls.Enter s) ≡ answer b (start_of_life b 0) c (calls.Enter s)) where
    pub entered_reply : (c : ℕ) (start : Start) → last_start p.values c ≡ Some start
        → p.values.life ≡ Some start.life
        → reply_in f c (calls.Enter start)
        ≡ answer b (firmware_values b p.past) c (calls.Enter start)
    entered_reply c start last life = grind (arith, nat_tests)

-- Starts and entries ----------------------------------------------------------------------------

-- a start that is shown is one of this life
pub life_of : (o : Option ℕ) (n : ℕ) (cause : Cause) (s : Start)
    → start_shown o n cause ≡ Some s → o ≡ Some s.life
life_of o n cause s e = grind (arith, nat_tests)

abbrev pub entry_by : Start → Stage → Start
entry_by s (stages.Entering t) = t
entry_by s y = s

pub one_entry : (s t : Start) → stages.Entering s ≡ stages.Entering t → s ≡ t
one_entry s t e = ap (entry_by s) e

pub some_ack : (x y : AckValue) → Some x ≡ Some y → x ≡ y
some_ack x y e = grind arith

-- an entry that is not refused has an outcome
pub entry_out : (b : BoardValue) (v : Values) (c : ℕ) (start : Start)
    → ((fault : FwFault) → answer b v c (calls.Enter start) ≡ replies.Fault fault → ⊥)
    → (o : Outcome) × (answer b v c (calls.Enter start) ≡ replies.Out o)
unfolding answer
entry_out b v c start passes = by (enter_fault b v c start) passes
  where
    by : (x : Option FwFault) → ((fault : FwFault)
        → reply_or x (enter_outcome b v c start) ≡ replies.Fault fault → ⊥)
        → (o : Outcome) × (reply_or x (enter_outcome b v c start) ≡ replies.Out o)
    by None passes = (enter_outcome b v c start, refl)
    by (Some fault) passes = absurd (passes fault refl)

-- No core comes into the normal world ------------------------------------------------------------

abbrev is_normal : Stage → Bool
is_normal stages.Normal = true
is_normal y = false

elsewhere : (y : Stage) → is_normal y ≡ false → y ≡ stages.Normal → ⊥
elsewhere y not e = false≢true (sym not ∙ ap is_normal e)

door_elsewhere : (o : Option Start) → is_normal (stage_in o) ≡ false
door_elsewhere None = refl
door_elsewhere (Some s) = refl

roused_normal : (y : Stage) → roused_at y ≡ stages.Normal → y ≡ stages.Normal
roused_normal y e = grind (arith, nat_tests)

-- Acts that ask the firmware nothing -------------------------------------------------------------

module _ (b : BoardValue) (p : Port) (f : FirmwareValue) (of : IsFirmwareOf b f p) where
  keeps : (q : Port) → firmware_values b q.past ≡ firmware_values b p.past
      → q.values.life ≡ p.values.life
      → ((d : ℕ) → stage_at q d ≡ stages.Normal → stage_at p d ≡ stages.Normal)
      → IsFirmwareOf b f q
  keeps q same life back = grind (arith, nat_tests)

  moves : (q : Port) (d : ℕ) (r : Row) → q.past ≡ p.past → q.values ≡ p.values
      → ((k : ℕ) → q.row k ≡ cond (k == d) r (p.row k))
      → (r.stage ≡ stages.Normal → stage_at p d ≡ stages.Normal) → IsFirmwareOf b f q
  moves q d r past values rows back = grind (arith, nat_tests)

  pub delivers_firmware : (k : ℕ) (m : MessageValue)
      → is_end (effect_of b (asked.Deliver m) (reply b p.values (asked.Deliver m))) ≡ false
      → IsFirmwareOf b f (step b p (Delivers k m))
  unfolding step firmware_history
  delivers_firmware k m goes = grind (arith, nat_tests)

  wakes_firmware : (c : ℕ) → IsFirmwareOf b f (woken b p c)
  unfolding firmware_history
  wakes_firmware c = grind (arith, nat_tests)

  resets_firmware : (c : ℕ) → IsFirmwareOf b f (step b p (Resets c))
  unfolding step firmware_history
  resets_firmware c = grind (arith, nat_tests)

module _ (b : BoardValue) (p : Port) (f : FirmwareValue) (of : IsFirmwareOf b f p) where
  rises_firmware : (c : ℕ) → IsFirmwareOf b f (step b p (Rises c))
  unfolding step
  rises_firmware c =
      keeps b (woken b p c) f (wakes_firmware b p f of c) (step b p (Rises c)) refl refl (λ d e. e)

  pub quiet_firmware : (act : Act) → is_quiet act ≡ true → IsFirmwareOf b f (step b p act)
  unfolding step
  quiet_firmware act so =
      grind (
        arith,
        nat_tests,
        keeps,
        moves,
        elsewhere,
        door_elsewhere,
        wakes_firmware,
        resets_firmware,
        roused_normal,
        rises_firmware,
      )

-- A firmware is made anew ------------------------------------------------------------------------

module _ (b : BoardValue) (f : FirmwareValue) (board : f.board ≡ b)
    (new : seen f ≡ start_of_life b 0) where
  pub anew_cold : (before : List (List Record)) → (firmware_values b []).life ≡ 0
      → IsFirmwareOf b f (cold b before)
  anew_cold before zero = grind (arith, nat_tests)

  pub anew_end : (p : Port) (k : ℕ) (m : MessageValue)
      → is_end (effect_of b (asked.Deliver m) (reply b p.values (asked.Deliver m))) ≡ true
      → ((l : ℕ) → p.values.life ≡ Some l → (firmware_values b p.past).life ≤ l)
      → IsFirmwareOf b f (step b p (Delivers k m))
  unfolding step firmware_history
  anew_end p k m ends low = grind (arith, nat_tests)

  pub anew_reboot : (p : Port) (n : ℕ) → p.values.life ≡ Some n
      → (firmware_values b (rebooted b n)).life ≡ n → IsFirmwareOf b f (going_on b p)
  anew_reboot p n life knows = grind (arith, nat_tests)

-- One act more of a run ---------------------------------------------------------------------------

pub rightly : (b : BoardValue) (acts : List Act) (s : FirmwareSide) (act : Act)
    → May b (state b acts) act → IsTrue b (state b acts) act
    → IsSideOf b s (step b (state b acts) act) → IsRightly b acts s act
unfolding state
rightly b acts s act may so side = record { may = may; so = so; side = side }

pub side_after : (b : BoardValue) (acts : List Act) (s : FirmwareSide) (act : Act)
    → IsSideOf b s (step b (state b acts) act) → IsSideOf b s (state b (act ∷ acts))
unfolding state
side_after b acts s act side = side

pub firmware_after : (b : BoardValue) (acts : List Act) (f : FirmwareValue) (act : Act)
    → IsFirmwareOf b f (step b (state b acts) act) → IsFirmwareOf b f (state b (act ∷ acts))
unfolding state
firmware_after b acts f act of = of

-- What a look finds ------------------------------------------------------------------------------

-- who looks at its door waits there, or is armed
pub by_look : {A : Type 0} (post : Post) → may_look post ≡ true → (post ≡ Waiting → A)
    → (post ≡ Armed → A) → A
by_look post may waiting armed = grind (arith, nat_tests)

pub row_same : (c : ℕ) (r q : Row) → cond (c == c) r q ≡ r
row_same c r q = ap (λ t. cond t r q) (eq-eqb c c refl)

module _ (b : BoardValue) (p : Port) (s : FirmwareSide) (is : IsSideOf b s p) where
  abbrev c : ℕ
  c = core_of s

  abbrev row : Row
  row = p.row c

  post_is : (post : Post) → s.post ≡ post → Fits post (stage_at p c)
  post_is post e = subst (λ x. Fits x (stage_at p c)) e is.post

  pub woken_at : s.post ≡ Woken → stage_at p c ≡ stages.Woken
  woken_at post = post_is Woken post

  -- It takes its start up ------------------------------------------------------------------------

  module _ (kept : IsKept p) where
    pub takes_up : (door : Door) (pending : Bool) → IsDoor p c door → row.held ≡ false
        → may_look s.post ≡ true → LacksLock p c → found s door pending ≡ look.Enter
        → (May b p (TakesUp c) × IsSideOf b (taking_up door s) (step b p (TakesUp c)))
        × ((door.start ≡ last_start p.values c)
        × ((door.opened ≡ p.values.starts c) × (s.used < door.opened)))
    unfolding step
    takes_up door pending reads free may lacks finds = grind (arith, nat_tests)

    -- It stands ----------------------------------------------------------------------------------

    pub free : s.post ≡ Waiting → LacksLock p c
    free post has = looks_apart (stage_at p c) (post_is Waiting post) (kept.held.holder c has)

    pub rests : s.post ≡ Waiting
        → (stage_at p c ≡ stages.AtDoor)
        ⊎ ((s.used ≡ p.values.starts c) × May b p (Wakes c))
    rests post = grind (arith, nat_tests)

    pub rests_armed : s.post ≡ Armed
        → (stage_at p c ≡ stages.Woken)
        ⊎ ((s.used ≡ p.values.starts c) × (HasLock p c → May b p (Rises c)))
    rests_armed post = grind (arith, nat_tests)

    -- a wake-up of a core that was started waits
    pub hears : (halted : ℕ) → stage_at p c ≡ stages.Woken
        → (waits b p.values (words p) (asked.Wake s.core halted) ≡ true)
        × IsSideOf b (at Armed s) p
    hears halted there = grind (arith, nat_tests)

  pub stands : s.post ≡ Leaving → LacksLock p c
      → May b p (Stands c) × IsSideOf b (at Waiting s) (step b p (Stands c))
  unfolding step
  stands post lacks = grind (arith, nat_tests)

  pub arms : s.post ≡ Leaving → row.begun ≡ None
      → May b p (Arms c) × IsSideOf b (at Armed s) (step b p (Arms c))
  unfolding step
  arms post none = grind (arith, nat_tests)

  pub sleeps : stage_at p c ≡ stages.Armed → LacksLock p c
      → May b p (Sleeps c) × IsSideOf b (at Waiting s) (step b p (Sleeps c))
  unfolding step
  sleeps there lacks = grind (arith, nat_tests)

  pub rouses : s.post ≡ Waiting
      → May b p (Rouses c) × IsSideOf b (at Armed s) (step b p (Rouses c))
  unfolding step
  rouses post = grind (arith, nat_tests)

  pub turns : stage_at p c ≡ stages.Woken → LacksLock p c
      → May b p (Turns c) × IsSideOf b (at Waiting s) (step b p (Turns c))
  unfolding step
  turns there lacks = grind (arith, nat_tests)

  -- It wakes itself ------------------------------------------------------------------------------

  pub rises : stage_at p c ≡ stages.Armed → HasLock p c
      → May b p (Rises c)
      × IsSideOf b (at (heard (answers.is_started
      (reply b p.values (asked.Wake s.core (words p c))))) s) (step b p (Rises c))
  unfolding step reply effect_of
  rises there has = grind (arith, nat_tests)
