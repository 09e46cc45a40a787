-- What is left of a core's side and of the firmware, once a call ends.
use Rattle.std.proofs.lemmas.Bool.Decides.{nat_tests}
use Rattle.std.proofs.Common.{◌<◌, ◌==◌, ◌∙◌, ◌∷◌, ◌≡◌, ap, arith, Bool, cond, false, inl, inr}
use Rattle.std.proofs.Common.{length, List, refl, Some, subst, sym, ℕ}
use Rattle.std.proofs.lemmas.Bool.{eq-eqb}
use Rattle.psci_abi.specs.declared.registers.Regs.{Regs}
use Rattle.psci_board.specs.Board.{BoardValue}
use Rattle.psci_messages.specs.Message.{AckValue}
use Rattle.psci_messages.specs.declared.start.Start.{Start}
use Rattle.psci_ctl_spec.specs.Replies.{last_start}
use Rattle.psci_ctl_spec.specs.Values.{Values as Controlled}
use Rattle.psci_fw_spec.specs.Effects.{after, FwExchange}
use Rattle.psci_fw_spec.specs.Answer.{answer}
use Rattle.psci_fw_spec.specs.History.{values_of}
use Rattle.psci_fw_spec.specs.Changes.{start_of_life}
use Rattle.psci_fw_spec.specs.Values.{Values}
use Rattle.psci_fw_spec.specs.declared.call.FwCall.{FwCall}
use Rattle.psci_fw_spec.specs.declared.call.FwCall.TheVariants as calls
use Rattle.psci_fw_spec.specs.declared.fault.FwFault.{FwFault}
use Rattle.psci_fw_spec.specs.declared.outcome.Outcome.{Outcome}
use Rattle.psci_fw_spec.specs.declared.reply.FwReply.{FwReply}
use Rattle.psci_fw_spec.specs.declared.reply.FwReply.TheVariants as replies
use Rattle.psci_world_spec.specs.Legal.{acks, asked_firmware, firmware_values, indexed, said_of}
use Rattle.psci_world_spec.specs.Legal.{sent}
use Rattle.psci_world_spec.specs.declared.event.Event.{Event}
use Rattle.psci_world_spec.specs.declared.event.Event.TheVariants.{Call, Enter, Take}
use Rattle.psci_world_spec.specs.declared.said.Record.{Record}
use Rattle.psci_world_spec.specs.declared.said.Said.{Said}
use Rattle.psci_headline.specs.Laws.{NoneRefused}
use Rattle.psci_port.specs.Port.{begins, Calls, Enters, finished, Finishes, Port, Row, stage_at}
use Rattle.psci_port.specs.Port.{step, Takes}
use Rattle.psci_port.specs.Rules.{HasLock, IsTrue, May}
use Rattle.psci_port.specs.Stages as stages
use Rattle.psci_port.specs.Stages.{Stage, stage_said}
use Rattle.psci_port.proofs.Running.{Fits as FitsCall, IsKept}
use Rattle.psci_port.proofs.Truth.{IsDue, IsMirror}
use Rattle.psci_fw.specs.Reactions.{FirmwareValue, seen}
use Rattle.psci_enter.specs.Side.{IsAsked, replied, reply_in}
use Rattle.psci_enter.specs.SideOf.{core_of, Fits, IsAnew, IsFirmwareOf, IsSideOf}
use Rattle.psci_enter.specs.declared.post.Post.TheVariants.{Entering, Running}
use Rattle.psci_enter.specs.declared.side.FirmwareSide.{FirmwareSide}
use Rattle.psci_enter.proofs.Keeping.{called_reply, called_values, entered_reply, entered_values}
use Rattle.psci_enter.proofs.Keeping.{entry_out, life_of, one_entry, some_ack, taken_reply}
use Rattle.psci_enter.proofs.Keeping.{taken_values}

-- A call ends ------------------------------------------------------------------------------------

row_same : (c : ℕ) (r q : Row) → cond (c == c) r q ≡ r
row_same c r q = ap (λ t. cond t r q) (eq-eqb c c refl)

call_fits : (suspended : Bool) (s : FirmwareSide) (c n : ℕ) (regs : Regs) (y : Stage) (r : FwReply)
    → Fits s.post y
    → Fits (replied suspended r s).post (stage_said (Call c regs) (said_of n r) y)
call_fits suspended s c n regs y r fits = grind (arith, nat_tests)

entry_fits : (suspended : Bool) (s : FirmwareSide) (c n : ℕ) (y : Stage) (r : FwReply)
    → Fits s.post y
    → Fits (replied suspended r s).post (stage_said (Enter c) (said_of n r) y)
entry_fits suspended s c n y r fits = grind (arith, nat_tests)

module _ (b : BoardValue) (p : Port) (s : FirmwareSide) (is : IsSideOf b s p) (q : Record) where
  -- wherever its core is then
  ended_at : (t : FirmwareSide) → core_of t ≡ core_of s → t.used ≡ s.used
      → Fits t.post (stage_said q.event q.said (stage_at p (core_of s)))
      → IsSideOf b t (finished p (core_of s) (Some q))
  ended_at t core used fits = grind (arith, nat_tests)

  pub replied_side : (suspended : Bool) (r : FwReply)
      → Fits (replied suspended r s).post (stage_said q.event q.said (stage_at p (core_of s)))
      → IsSideOf b (replied suspended r s) (finished p (core_of s) (Some q))
  replied_side suspended r fits = grind (arith, nat_tests)

  pub same_side : Fits s.post (stage_said q.event q.said (stage_at p (core_of s)))
      → IsSideOf b s (finished p (core_of s) (Some q))
  same_side fits = ended_at s refl refl fits

made : (q : Record) (event : Event) (said : Said) → q.event ≡ event → q.said ≡ said
    → q ≡ record { event = event; said = said }
made q event said at so = grind (arith, nat_tests)

-- what is left of a firmware that was kept
asked_values : (b : BoardValue) (p : Port) (f g : FirmwareValue) (c : ℕ) (call : FwCall)
    → f.board ≡ b → seen f ≡ firmware_values b p.past → IsAsked c call f g
    → seen g ≡ after b c call (reply_in f c call) (firmware_values b p.past)
asked_values b p f g c call board same asked = grind (arith, nat_tests)

module _ (b : BoardValue) (p : Port) (kept : IsKept p) (mirror : IsMirror b p)
    (more : (e : FwExchange) (h : List FwExchange)
    → values_of b (e ∷ h) ≡ after b e.core e.call e.reply (values_of b h))
    (f g : FirmwareValue) (s : FirmwareSide) (of : IsFirmwareOf b f p) (is : IsSideOf b s p)
    (q : Record) (begun : (p.row (core_of s)).begun ≡ Some q) where
  abbrev c : ℕ
  c = core_of s

  step_is : step b p (Finishes c) ≡ finished p c (Some q)
  unfolding step
  step_is = ap (finished p c) begun

  -- the firmware is the one of the port then
  left_firmware : (call : FwCall) → IsAsked c call f g → seen g ≡ firmware_values b (q ∷ p.past)
      → IsFirmwareOf b g (step b p (Finishes c))
  left_firmware call asked same = grind (arith, nat_tests, step_is)

  module _ (suspended : Bool) (regs : Regs) (at : q.event ≡ Call c regs)
      (asked : IsAsked c (calls.Smc regs) f g) where
    abbrev called_r : FwReply
    called_r = reply_in f c (calls.Smc regs)

    normal : stage_at p c ≡ stages.Normal
    normal = (subst (λ e. FitsCall c e (stage_at p c)) at (kept.held.fits c q begun)).1

    called_it : q ≡ record { event = Call c regs; said = said_of (length (sent p.past)) called_r }
    called_it = made q (Call c regs) (said_of (length (sent p.past)) called_r) at
        ((subst (λ e. IsDue b p.past c e q.said (stage_at p c)) at (mirror.due c q begun)).1
        ∙ ap (said_of (length (sent p.past))) (sym (called_reply b p f of c regs normal)))

    called_same : seen g ≡ firmware_values b (q ∷ p.past)
    called_same = grind (arith, nat_tests, asked_values, called_values, length, called_it, normal)

    pub called_done : IsFirmwareOf b g (step b p (Finishes c))
        × IsSideOf b (replied suspended (reply_in f c (calls.Smc regs)) s) (step b p (Finishes c))
    called_done = (
      left_firmware (calls.Smc regs) asked called_same,
      subst (λ x. IsSideOf b (replied suspended called_r s) x) (sym step_is)
          (replied_side b p s is q suspended called_r
          (subst (λ (x : Record). Fits (replied suspended called_r s).post
          (stage_said x.event x.said (stage_at p c))) (sym called_it)
          (call_fits suspended s c (length (sent p.past)) regs (stage_at p c) called_r is.post))),
    )

  module _ (alike : (v : Values) (c : ℕ) (s : Start) → v.life < s.life
      → answer b v c (calls.Enter s) ≡ answer b (start_of_life b 0) c (calls.Enter s))
      (later : (v : Values) (c : ℕ) (s : Start) (o : Outcome) → v.life < s.life
      → after b c (calls.Enter s) (replies.Out o) v
      ≡ after b c (calls.Enter s) (replies.Out o) (start_of_life b 0))
      (passes : (start : Start) (fault : FwFault) → s.post ≡ Entering start
      → reply_in f c (calls.Enter start) ≡ replies.Fault fault → ⊥) where
    module _ (start : Start) (post : s.post ≡ Entering start) (at : q.event ≡ Enter c)
        (asked : IsAsked c (calls.Enter start) f g) where
      abbrev entered_r : FwReply
      entered_r = reply_in f c (calls.Enter start)

      entering : stage_at p c ≡ stages.Entering start
      entering = subst (λ x. Fits x (stage_at p c)) post is.post

      last : last_start p.values c ≡ Some start
      last = (kept.rows c).taken start entering

      life : p.values.life ≡ Some start.life
      life = life_of p.values.life (p.values.starts c) (p.values.cause c) start last

      entered_due : q.said ≡ asked_firmware b p.past c (calls.Enter start)
      entered_due =
          by (subst (λ e. IsDue b p.past c e q.said (stage_at p c)) at (mirror.due c q begun)).1
        where
          by : (x : Start) × (stage_at p c ≡ stages.Entering x)
              × (q.said ≡ asked_firmware b p.past c (calls.Enter x))
              → q.said ≡ asked_firmware b p.past c (calls.Enter start)
          by was = was.2 ∙ ap (λ x. asked_firmware b p.past c (calls.Enter x))
              (one_entry was.0 start (sym was.1 ∙ entering))

      entered_it : q ≡ record { event = Enter c; said = said_of (length (sent p.past)) entered_r }
      entered_it = made q (Enter c) (said_of (length (sent p.past)) entered_r) at
          (entered_due ∙ ap (said_of (length (sent p.past)))
          (sym (entered_reply b p f of alike c start last life)))

      record_values : firmware_values b (q ∷ p.past)
          ≡ after b c (calls.Enter start) entered_r (firmware_values b p.past)
      record_values = ap (λ x. firmware_values b (x ∷ p.past)) entered_it
          ∙ entered_values b more p.past c start (length (sent p.past)) entered_r
          (ap (λ (v : Controlled). last_start v c) mirror.values ∙ last)

      entered_same : seen g ≡ firmware_values b (q ∷ p.past)
      entered_same = elim of.values [
        | inl same ↦ asked_values b p f g c (calls.Enter start) of.board same asked
            ∙ sym record_values
        | inr anew ↦
            let out = entry_out f.board (seen f) c start (λ fault e. passes start fault post e) in
            asked.values
            ∙ ap (λ x. after x c (calls.Enter start) entered_r (seen f)) of.board
            ∙ ap (λ v. after b c (calls.Enter start) entered_r v) anew.values
            ∙ ap (λ x. after b c (calls.Enter start) x (start_of_life b 0)) out.1
            ∙ sym (later (firmware_values b p.past) c start out.0 (anew.later start.life life))
            ∙ ap (λ x. after b c (calls.Enter start) x (firmware_values b p.past)) (sym out.1)
            ∙ sym record_values
      ]

      pub entered_done : IsFirmwareOf b g (step b p (Finishes c))
          × IsSideOf b (replied false (reply_in f c (calls.Enter start)) s)
          (step b p (Finishes c))
      entered_done = (
        left_firmware (calls.Enter start) asked entered_same,
        subst (λ x. IsSideOf b (replied false entered_r s) x) (sym step_is)
            (replied_side b p s is q false entered_r
            (subst (λ (x : Record). Fits (replied false entered_r s).post
            (stage_said x.event x.said (stage_at p c))) (sym entered_it)
            (entry_fits false s c (length (sent p.past)) (stage_at p c) entered_r is.post))),
      )

  module _ (k : ℕ) (a : AckValue) (not : IsAnew b f p → ⊥) (at : q.event ≡ Take k)
      (made_at : indexed (acks p.past) k ≡ Some a) where
    taken_due : q.said ≡ asked_firmware b p.past 0 (calls.Take a)
    taken_due = by (subst (λ e. IsDue b p.past c e q.said (stage_at p c)) at
        (mirror.due c q begun))
      where
        by : (x : AckValue) × (indexed (acks p.past) k ≡ Some x)
            × (q.said ≡ asked_firmware b p.past 0 (calls.Take x))
            → q.said ≡ asked_firmware b p.past 0 (calls.Take a)
        by was = was.2 ∙ ap (λ x. asked_firmware b p.past 0 (calls.Take x))
            (some_ack was.0 a (sym was.1 ∙ made_at))

    abbrev taken_r : FwReply
    taken_r = reply_in f c (calls.Take a)

    taken_it : q ≡ record { event = Take k; said = said_of (length (sent p.past)) taken_r }
    taken_it = made q (Take k) (said_of (length (sent p.past)) taken_r) at
        (taken_due ∙ ap (said_of (length (sent p.past))) (sym (taken_reply b p f of c a not)))

    pub taken_done : IsAsked c (calls.Take a) f g
        → IsFirmwareOf b g (step b p (Finishes c)) × IsSideOf b s (step b p (Finishes c))
    taken_done asked = (
      left_firmware (calls.Take a) asked (elim of.values [
        | inl same ↦ asked_values b p f g c (calls.Take a) of.board same asked
            ∙ sym (taken_values b more p.past c k a (length (sent p.past)) taken_r made_at)
            ∙ ap (λ x. firmware_values b (x ∷ p.past)) (sym taken_it)
        | inr anew ↦ absurd (not anew)
      ]),
      subst (λ x. IsSideOf b s x) (sym step_is) (same_side b p s is q
          (subst (λ e. Fits s.post (stage_said e q.said (stage_at p c))) (sym at) is.post)),
    )

-- A call begins ----------------------------------------------------------------------------------

-- a call moves nobody as it begins
begun_side : (b : BoardValue) (p : Port) (s : FirmwareSide) (c : ℕ) (q : Record) → IsSideOf b s p
    → IsSideOf b s (begins p c q)
begun_side b p s c q is = grind (arith, nat_tests)

module _ (b : BoardValue) (p : Port) (f : FirmwareValue) (s : FirmwareSide)
    (of : IsFirmwareOf b f p) (is : IsSideOf b s p) (has : HasLock p (core_of s)) where
  abbrev says : FwCall → Said
  says call = said_of (length (sent p.past)) (reply_in f (core_of s) call)

  pub calls_so : (regs : Regs) → s.post ≡ Running
      → (May b p (Calls (core_of s) regs (says (calls.Smc regs)))
      × IsTrue b p (Calls (core_of s) regs (says (calls.Smc regs))))
      × IsSideOf b s (step b p (Calls (core_of s) regs (says (calls.Smc regs))))
  unfolding step
  calls_so regs post = grind (arith, nat_tests)

  pub enters_so : ((v : Values) (c : ℕ) (s : Start) → v.life < s.life
      → answer b v c (calls.Enter s) ≡ answer b (start_of_life b 0) c (calls.Enter s))
      → IsKept p → (start : Start) → s.post ≡ Entering start
      → (May b p (Enters (core_of s) (says (calls.Enter start)))
      × IsTrue b p (Enters (core_of s) (says (calls.Enter start))))
      × IsSideOf b s (step b p (Enters (core_of s) (says (calls.Enter start))))
  unfolding step
  enters_so alike kept start post = grind (arith, nat_tests)

  pub takes_so : (k : ℕ) (a : AckValue) → (IsAnew b f p → ⊥) → indexed (acks p.past) k ≡ Some a
      → (May b p (Takes (core_of s) k (says (calls.Take a)))
      × IsTrue b p (Takes (core_of s) k (says (calls.Take a))))
      × IsSideOf b s (step b p (Takes (core_of s) k (says (calls.Take a))))
  unfolding step
  takes_so k a not at = grind (arith, nat_tests, length, taken_reply, begun_side)

-- A firmware that was made anew takes nothing ----------------------------------------------------

pub lost_ack : (b : BoardValue) (p : Port) (f g : FirmwareValue) (c : ℕ) (a : AckValue)
    → f.board ≡ b → IsAnew b f p → IsAsked c (calls.Take a) f g → IsFirmwareOf b g p
unfolding answer after
lost_ack b p f g c a board anew asked = grind (arith, nat_tests)

-- Nothing is refused -----------------------------------------------------------------------------

module _ (b : BoardValue) (p : Port) (kept : IsKept p) (mirror : IsMirror b p)
    (free : NoneRefused b p.past) (f : FirmwareValue) (s : FirmwareSide)
    (of : IsFirmwareOf b f p) (is : IsSideOf b s p) where
  pub call_passes : (regs : Regs) (fault : FwFault) → s.post ≡ Running
      → reply_in f (core_of s) (calls.Smc regs) ≡ replies.Fault fault → ⊥
  unfolding answer
  call_passes regs fault post e = grind (arith, nat_tests)

  pub entry_passes : ((v : Values) (c : ℕ) (s : Start) → v.life < s.life
      → answer b v c (calls.Enter s) ≡ answer b (start_of_life b 0) c (calls.Enter s))
      → (start : Start) (fault : FwFault) → s.post ≡ Entering start
      → reply_in f (core_of s) (calls.Enter start) ≡ replies.Fault fault → ⊥
  unfolding answer
  entry_passes alike start fault post e = grind (arith, nat_tests)
