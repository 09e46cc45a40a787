-- What others do leaves a core's side, and the firmware.
use Rattle.std.proofs.Common.{arith}
use Rattle.std.proofs.lemmas.Bool.Decides.{nat_tests}
use Rattle.std.specs.Prelude.{◌&&◌, nat_lt, not, slice_get}
use Rattle.std.proofs.Common.{◌<◌, ◌==◌, ◌∙◌, ◌∷◌, ◌≡◌, ◌⊎◌, [], ap, Bool, cond, false, inl, inr}
use Rattle.std.proofs.Common.{length, List, None, Option, refl, Some, subst, suc, sym, true}
use Rattle.std.proofs.Common.{zero, ℕ}
use Rattle.std.proofs.lemmas.Bool.{eq-eqb, eqb-true, false≢true}
use Rattle.std.proofs.lemmas.Option.{none-some}
use Rattle.psci_board.specs.Board.{BoardValue, cores}
use Rattle.psci_board.specs.declared.draft.Core.{Core}
use Rattle.psci_messages.specs.Message.{MessageValue}
use Rattle.psci_messages.specs.Slots.{OfCore, OfSystem}
use Rattle.psci_messages.specs.declared.start.Cause.{Cause}
use Rattle.psci_messages.specs.declared.start.Cause.TheVariants as causes
use Rattle.psci_ctl_spec.specs.Replies.{Begins, Deepens, Effect, effect_of, Ends, kick_effect}
use Rattle.psci_ctl_spec.specs.Replies.{Nothing, reply, reset_of, Starts, wake_of}
use Rattle.psci_ctl_spec.specs.Values.{Values as Controlled}
use Rattle.psci_ctl_spec.specs.declared.call.CtlCall.{CtlCall}
use Rattle.psci_ctl_spec.specs.declared.call.CtlCall.TheVariants as asked
use Rattle.psci_ctl_spec.specs.declared.kick.Kick.{Kick}
use Rattle.psci_ctl_spec.specs.declared.kick.Kick.TheVariants as kicks
use Rattle.psci_fw_spec.specs.Changes.{start_of_life}
use Rattle.psci_fw_spec.specs.Values.{Values}
use Rattle.psci_world_spec.specs.Legal.{firmware_values, indexed, sent}
use Rattle.psci_world_spec.specs.declared.event.Event.TheVariants.{Deliver, Reset}
use Rattle.psci_world_spec.specs.declared.said.Record.{Record}
use Rattle.psci_fw_laws.specs.Messages.{AreOutstanding, IsOfLife}
use Rattle.psci_headline.proofs.Serving.{numbered_new, numbered_old}
use Rattle.psci_port.specs.Port.{Act, commanded, Delivers, finished, first_row, held_by, Port}
use Rattle.psci_port.specs.Port.{Resets, Rises, Row, row_by, stage_at, started, step, woken, words}
use Rattle.psci_port.specs.Rules.{May}
use Rattle.psci_port.specs.Stages.{has_stopped, Stage, stage_by, started_at}
use Rattle.psci_port.specs.Waiting.{stands, touches}
use Rattle.psci_port.proofs.Records.{delivered_held, held_after, woken_held}
use Rattle.psci_port.proofs.Running.{IsKept}
use Rattle.psci_port.proofs.Rows.{delivered_starts, delivered_touches, reset_starts_it, starts_core}
use Rattle.psci_port.proofs.Rows.{woken_starts}
use Rattle.psci_fw_state.specs.Seen.{message_shown}
use Rattle.psci_fw.specs.Reactions.{FirmwareValue, seen}
use Rattle.psci_enter.specs.Again.{outstanding_in}
use Rattle.psci_enter.specs.Side.{at, fresh}
use Rattle.psci_enter.specs.SideOf.{core_of, Fits, is_apart, is_end, IsFirmwareOf, IsSideOf}
use Rattle.psci_enter.specs.declared.post.Post.{Post}
use Rattle.psci_enter.specs.declared.post.Post.TheVariants.{Waiting}
use Rattle.psci_enter.specs.declared.side.FirmwareSide.{FirmwareSide}

-- no life ends by a wake-up or a reset of a core
kick_goes : (c : ℕ) (cause : Cause) (kick : Kick) → is_end (kick_effect c cause kick) ≡ false
kick_goes c cause (kicks.Started s) = refl
kick_goes c cause kicks.Ignored = refl

pub wake_goes : (b : BoardValue) (v : Controlled) (core : Core) (halted : ℕ)
    → is_end (effect_of b (asked.Wake core halted) (reply b v (asked.Wake core halted))) ≡ false
unfolding reply effect_of
wake_goes b v core halted = kick_goes core.number causes.Wake (wake_of b v core.number halted)

pub reset_goes : (b : BoardValue) (v : Controlled) (core : Core)
    → is_end (effect_of b (asked.Reset core) (reply b v (asked.Reset core))) ≡ false
unfolding reply effect_of
reset_goes b v core = kick_goes core.number causes.Reset (reset_of b v core.number)

-- one that stands may be started
stood_fits : (post : Post) (y : Stage) → Fits post y → has_stopped y ≡ true
    → Fits post (started_at y)
stood_fits post y fits stood = grind (arith, nat_tests)

-- where that is no reset
start_fits : (cause : Cause) (post : Post) (y : Stage) → ((x : Bool) → held_by cause x ≡ x)
    → Fits post y → has_stopped y ≡ true → Fits post (stage_by cause y)
start_fits causes.Reset post y free fits stood = absurd (false≢true (sym (free false)))
start_fits x post y free fits stood = stood_fits post y fits stood

other_row : (t : Bool) (r q : Row) → not t ≡ true → cond t r q ≡ q
other_row true r q is = absurd (false≢true is)
other_row false r q is = refl

not_same : (c d : ℕ) → not (c == d) ≡ true → d ≡ c → ⊥
not_same c d is e = absurd (false≢true (ap not (sym (eq-eqb c d (sym e))) ∙ is))

module _ (b : BoardValue) (p : Port) (s : FirmwareSide) (is : IsSideOf b s p) where
  abbrev c : ℕ
  c = core_of s

  -- its core's row is as before, but for what it has begun, its door, or whether it is held
  pub like_side : (q : Port) (r : Row) → q.row c ≡ r → r.used ≡ (p.row c).used
      → r.stage ≡ stage_at p c → IsSideOf b s q
  like_side q r at used stage = grind (arith, nat_tests)

  -- one of these cores is this one, or not, and either way it is so
  one_like : (q : Port) (d : ℕ) (r : Row) → q.row c ≡ cond (c == d) r (p.row c)
      → r.used ≡ (p.row d).used → r.stage ≡ stage_at p d → IsSideOf b s q
  one_like q d r at used stage = grind (arith, nat_tests)

  -- another core's row changes
  apart_row : (q : Port) (d : ℕ) (r : Row) → q.row c ≡ cond (c == d) r (p.row c)
      → not (c == d) ≡ true → IsSideOf b s q
  apart_row q d r at other =
      like_side q (p.row c) (at ∙ other_row (c == d) r (p.row c) other) refl refl

  -- The power controller is asked ----------------------------------------------------------------

  started_row : (d : ℕ) (cause : Cause) (q : Port)
      → (d ≡ c → (has_stopped (stage_at p c) ≡ true) × ((x : Bool) → held_by cause x ≡ x))
      → q.row c ≡ cond (c == d) (started cause (p.row c)) (p.row c) → IsSideOf b s q
  started_row d cause q stood at = grind (arith, nat_tests, eqb-true, start_fits, like_side)

  pub effect_side : (f : Effect) (q : Port) → is_end f ≡ false
      → (starts_core f ≡ Some c
      → (has_stopped (stage_at p c) ≡ true) × ((x : Bool) → held_after f x ≡ x))
      → q.row c ≡ row_by c f (p.row c) → IsSideOf b s q
  effect_side Nothing q goes stood at = like_side q (p.row c) at refl refl
  effect_side (Starts d cause) q goes stood at =
      started_row d cause q (λ e. stood (ap (λ k. Some k) e)) at
  effect_side (Deepens d ps) q goes stood at = like_side q (p.row c) at refl refl
  effect_side Ends q goes stood at = absurd (false≢true (sym goes))
  effect_side Begins q goes stood at = absurd (false≢true (sym goes))

  abbrev now : CtlCall → Effect
  now call = effect_of b call (reply b p.values call)

  module _ (kept : IsKept p) where
    -- one that stands by its word has stopped
    stands_stopped : (d : ℕ) → d ≡ c → stands p.values (words p) d ≡ true
        → has_stopped (stage_at p c) ≡ true
    stands_stopped d e is =
        (kept.rows c).stands (subst (λ k. words p k ≡ p.values.starts k) e (eqb-true _ _ is))

    met : (t h : Bool) → (t && not h) ≡ false → t ≡ true → h ≡ true
    met t h free is = grind (arith, nat_tests)

    pub delivers_side : (k : ℕ) (m : MessageValue) → May b p (Delivers k m)
        → is_end (now (asked.Deliver m)) ≡ false → IsSideOf b s (step b p (Delivers k m))
    unfolding step
    delivers_side k m may goes =
        effect_side (now (asked.Deliver m)) (commanded b p (Deliver k) (asked.Deliver m)) goes
        (λ e. (
          stands_stopped m.core.number (delivered_starts b p.values m c e).1
              (met (touches b p.values m) (stands p.values (words p) m.core.number) may.1
              (delivered_touches b p.values m c e)),
          delivered_held b m (reply b p.values (asked.Deliver m)),
        )) refl

    wakes_side : (d : ℕ) → stands p.values (words p) d ≡ true
        → IsSideOf b s (woken b p d)
    wakes_side d stood =
        effect_side (now (asked.Wake (record { number = d }) (words p d))) (woken b p d)
        (wake_goes b p.values (record { number = d }) (words p d))
        (λ e. (
          stands_stopped d (woken_starts b p.values d (words p d) c e) stood,
          woken_held b d (words p d) (reply b p.values (asked.Wake (record { number = d })
              (words p d))),
        )) refl

    resets_other : (d : ℕ) → not (c == d) ≡ true
        → IsSideOf b s (commanded b p (Reset d) (asked.Reset (record { number = d })))
    resets_other d other =
        effect_side (now (asked.Reset (record { number = d })))
        (commanded b p (Reset d) (asked.Reset (record { number = d })))
        (reset_goes b p.values (record { number = d }))
        (λ e. absurd (not_same c d other (reset_starts_it b p.values d c e))) refl

    rises_other : (d : ℕ) → not (c == d) ≡ true → IsSideOf b s (step b p (Rises d))
    unfolding step
    rises_other d other =
        effect_side (now (asked.Wake (record { number = d }) (words p d))) (step b p (Rises d))
        (wake_goes b p.values (record { number = d }) (words p d))
        (λ e. absurd (not_same c d other (woken_starts b p.values d (words p d) c e))) refl

    ends_other : (d : ℕ) (o : Option Record) → not (c == d) ≡ true → IsSideOf b s (finished p d o)
    ends_other d o other = grind (arith, nat_tests)

    pub apart_side : (act : Act) → May b p act → is_apart c act ≡ true
        → IsSideOf b s (step b p act)
    unfolding step
    apart_side act may so =
        grind (
          arith,
          nat_tests,
          one_like,
          ends_other,
          apart_row,
          wakes_side,
          resets_other,
          rises_other,
          like_side,
        )

  -- It is reset by itself ------------------------------------------------------------------------

  reset_row : (kick : Kick) (q : Port)
      → q.row c ≡ row_by c (kick_effect c causes.Reset kick) (p.row c)
      → IsSideOf b (at Waiting s) q ⊎ IsSideOf b s q
  reset_row kick q at_row = grind (arith, nat_tests)

  pub resets_own : IsSideOf b (at Waiting s) (step b p (Resets c))
      ⊎ IsSideOf b s (step b p (Resets c))
  unfolding step reply effect_of
  resets_own = reset_row (reset_of b p.values c)
      (commanded b p (Reset c) (asked.Reset (record { number = c }))) refl

-- In a new life ----------------------------------------------------------------------------------

pub first_side : (b : BoardValue) (core : Core) (q : Port) → core.number < cores b
    → q.row core.number ≡ first_row core.number → IsSideOf b (fresh core) q
first_side b core q has at_row = grind (arith, nat_tests)

pub ended_side : (b : BoardValue) (core : Core) (p q : Port) (f : Effect)
    → core.number < cores b → is_end f ≡ true
    → q.row core.number ≡ row_by core.number f (p.row core.number)
    → IsSideOf b (fresh core) q
ended_side b core p q f has ends at_row = grind (arith, nat_tests)

-- What is outstanding was sent --------------------------------------------------------------------

-- an item has a number
numbered : (xs : List MessageValue) (i : ℕ) (m : MessageValue) → slice_get xs i ≡ Some m
    → (k : ℕ) × (indexed xs k ≡ Some m)
numbered [] zero m e = absurd (none-some m e)
numbered [] (suc i) m e = absurd (none-some m e)
numbered (x ∷ xs) zero m e = (length xs, numbered_new x xs ∙ e)
numbered (x ∷ xs) (suc i) m e =
    let old = numbered xs i m e in (old.0, numbered_old x xs old.0 m old.1)

module _ (b : BoardValue) (v : Values) (messages : List MessageValue)
    (are : AreOutstanding v.life v.known v.phase messages v.outstanding) where
  shown_sent : (number : ℕ) (m : MessageValue) → message_shown b v number ≡ Some m
      → IsOfLife v.life messages m
  shown_sent number m = by (nat_lt number (cores b)) (number == cores b)
    where
      by : (t u : Bool)
          → cond t (v.outstanding (OfCore number)) (cond u (v.outstanding OfSystem) None) ≡ Some m
          → IsOfLife v.life messages m
      by true u e = (are.core number m e).listed
      by false true e = are.system m e
      by false false e = absurd (none-some m e)

-- before any core has entered nothing is
none_shown : (b : BoardValue) (number : ℕ) (m : MessageValue)
    → message_shown b (start_of_life b 0) number ≡ Some m → ⊥
none_shown b number m = grind (arith, nat_tests)

pub sends_again : (b : BoardValue) (p : Port) (f : FirmwareValue) (number : ℕ) (m : MessageValue)
    → IsFirmwareOf b f p → (messages : List MessageValue) → sent p.past ≡ messages
    → (let v = firmware_values b p.past in
    AreOutstanding v.life v.known v.phase messages v.outstanding)
    → outstanding_in f number ≡ Some m → (k : ℕ) × (indexed (sent p.past) k ≡ Some m)
sends_again b p f number m of messages all are out =
    let at : message_shown b (seen f) number ≡ Some m =
    ap (λ x. message_shown x (seen f) number) (sym of.board) ∙ out in
    elim of.values [
      | inl same ↦
          let is = shown_sent b (firmware_values b p.past) messages are number m
          (ap (λ v. message_shown b v number) (sym same) ∙ at) in
          numbered (sent p.past) is.index m
          (ap (λ xs. slice_get xs is.index) all ∙ is.at)
      | inr anew ↦ absurd (none_shown b number m
          (ap (λ v. message_shown b v number) (sym anew.values) ∙ at))
    ]
