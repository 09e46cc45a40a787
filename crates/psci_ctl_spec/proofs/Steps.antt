-- Worked examples are stated so: some calls in turn, and the replies to them.
use Rattle.std.proofs.Common.{◌∙◌, ◌∷◌, ◌≡◌, [], ap, arith, Bool, List, map, Option, refl}
use Rattle.std.proofs.Common.{unwrap_or, ℕ}
use Rattle.psci_board.specs.Board.{BoardValue, up}
use Rattle.psci_board.proofs.Tables.{Gives, Row}
use Rattle.psci_messages.specs.declared.kind.Kind.{Kind}
use Rattle.psci_messages.specs.declared.kind.Kind.TheVariants as kinds
use Rattle.psci_messages.specs.declared.part.Part.{Part}
use Rattle.psci_messages.specs.declared.start.Cause.{Cause}
use Rattle.psci_messages.specs.declared.start.Start.{Start}
use Rattle.psci_messages.specs.psci_abi.declared.registers.Format.TheVariants.{Original}
use Rattle.psci_ctl_spec.specs.Replies.{after, change, delivery_of, Effect, effect_of}
use Rattle.psci_ctl_spec.specs.Replies.{last_start, reply, reset_of, wake_of}
use Rattle.psci_ctl_spec.specs.Values.{applied, CtlExchange, is_stale, start_of_life}
use Rattle.psci_ctl_spec.specs.Values.{starts_below, Values}
use Rattle.psci_ctl_spec.specs.History.{AreCalls, cause_by, depth_by, effect_in, IsLegal}
use Rattle.psci_ctl_spec.specs.History.{legal_history, legal_reply, life_by, starts_by}
use Rattle.psci_ctl_spec.specs.History.{values_of}
use Rattle.psci_ctl_spec.specs.declared.call.CtlCall.{CtlCall}
use Rattle.psci_ctl_spec.specs.declared.call.CtlCall.TheVariants as calls
use Rattle.psci_ctl_spec.specs.declared.delivery.Delivery.TheVariants as deliveries
use Rattle.psci_ctl_spec.specs.declared.kick.Kick.TheVariants as kicks
use Rattle.psci_ctl_spec.specs.declared.reply.CtlReply.{CtlReply}
use Rattle.psci_ctl_spec.specs.declared.reply.CtlReply.TheVariants as replies

-- One more ----------------------------------------------------------------------------------------
-- A history with one more exchange says the values that it leaves; and to each list of calls there
-- is one legal history.

-- values that say the same of each core and domain are the same
pub same_values : (v w : Values) → v.life ≡ w.life → ((k : ℕ) → v.starts k ≡ w.starts k)
    → ((k : ℕ) → v.cause k ≡ w.cause k) → ((l p : ℕ) → v.depth l p ≡ w.depth l p)
    → v ≡ w
same_values v w a b c d =
    λ i. record { life = a i; starts = λ k. b k i; cause = λ k. c k i; depth = λ l p. d l p i }

-- of each effect: what it says, or what was before
module _ (b : BoardValue) (f : Effect) (v : Values) where
  abbrev left_by : Values
  left_by = change b f v

  starts_more : (k : ℕ) → starts_by k f (v.starts k) ≡ left_by.starts k
  starts_more k = grind arith

  cause_more : (k : ℕ) → unwrap_or (cause_by k f) (v.cause k) ≡ left_by.cause k
  cause_more k = grind arith

  depth_more : (l p : ℕ) → unwrap_or (depth_by b l p f) (v.depth l p) ≡ left_by.depth l p
  depth_more l p = grind arith

  life_more : life_by f v.life ≡ left_by.life
  life_more = grind arith

pub first_values : (b : BoardValue) → values_of b [] ≡ start_of_life b
unfolding values_of
first_values b = refl

pub values_more : (b : BoardValue) (e : CtlExchange) (h : List CtlExchange)
    → values_of b (e ∷ h) ≡ after b e.call e.reply (values_of b h)
unfolding values_of after
values_more b e h =
    let f : Effect = effect_in b e in
    let v : Values = values_of b h in
    λ i. record {
      life = life_more b f v i;
      starts = λ k. starts_more b f v k i;
      cause = λ k. cause_more b f v k i;
      depth = λ l p. depth_more b f v l p i;
    }

-- Legal histories -----------------------------------------------------------------------------

pub some_history : (b : BoardValue) (calls : List CtlCall) → AreCalls b calls
    → IsLegal b (legal_history b calls)
some_history b [] are = tt
some_history b (call ∷ calls) are = (refl, are.0, some_history b calls are.1)

pub one_history : (b : BoardValue) (h : List CtlExchange) → IsLegal b h
    → h ≡ legal_history b (map (λ e. e.call) h)
one_history b [] legal = refl
one_history b (e ∷ h) legal =
    let calls = map (λ (x : CtlExchange). x.call) h in
    ap (λ (r : CtlReply). record { call = e.call; reply = r } ∷ h) legal.0
    ∙ ap (λ (k : List CtlExchange). record { call = e.call; reply = legal_reply b k e.call } ∷ k)
    (one_history b h legal.2)

-- Steps -------------------------------------------------------------------------------------------

-- what an example unfolds to compute replies and values on calls that are written out
unfoldable pub computing : Unit {0}
unfolding values_of after effect_of reply delivery_of wake_of reset_of applied is_stale starts_below
    up
computing = tt

-- a board of this tree and these limits
abbrev pub board_of : List (List ℕ) → ℕ → ℕ → BoardValue
board_of levels starts lives = record {
  levels = levels;
  ranges = record { start = 0x40000000; end = 0x40100000 } ∷ [];
  boot = 0x40000000;
  starts = starts;
  lives = lives;
  format = Original;
}

-- two clusters of two cores
abbrev pub board : BoardValue
board = board_of ((2 ∷ 2 ∷ []) ∷ (2 ∷ []) ∷ []) 1000 3

-- Calls ---------------------------------------------------------------------------------------

-- a message of this kind, core, life and number
abbrev pub message : Kind → ℕ → ℕ → ℕ → List Part → CtlCall
message kind core life number parts = calls.Deliver (record {
  kind = kind;
  core = record { number = core };
  life = life;
  number = number;
  parts = parts;
})

abbrev pub part : ℕ → ℕ → ℕ → Part
part level depth generation = record { level = level; depth = depth; generation = generation }

abbrev pub down : ℕ → ℕ → ℕ → List Part → CtlCall
down = message kinds.Down

abbrev pub start : ℕ → ℕ → ℕ → CtlCall
start core life number = message kinds.Start core life number []

abbrev pub off : ℕ → ℕ → ℕ → CtlCall
off core life number = message kinds.Off core life number []

abbrev pub reset_system : ℕ → ℕ → ℕ → CtlCall
reset_system core life number = message kinds.Reset core life number []

abbrev pub wake : ℕ → ℕ → CtlCall
wake core halted = calls.Wake (record { number = core }) halted

abbrev pub reset : ℕ → CtlCall
reset core = calls.Reset (record { number = core })

-- Replies -------------------------------------------------------------------------------------

-- an acknowledgement of a message of this kind, core, life and number
abbrev pub ack : Kind → ℕ → ℕ → ℕ → ℕ → Bool → CtlReply
ack kind core life number applied stale = replies.Delivery (deliveries.Applied (record {
  kind = kind;
  core = record { number = core };
  life = life;
  number = number;
  applied = applied;
  stale = stale;
}))

abbrev pub ignored : CtlReply
ignored = replies.Delivery deliveries.Ignored

abbrev pub started : ℕ → ℕ → Cause → CtlReply
started life number cause =
    replies.Kick (kicks.Started (record { life = life; number = number; cause = cause }))

abbrev pub not_started : CtlReply
not_started = replies.Kick kicks.Ignored

-- Histories -----------------------------------------------------------------------------------

-- the history of these calls, from a history on
abbrev pub history_from : BoardValue → List CtlExchange → List CtlCall → List CtlExchange
history_from b h [] = h
history_from b h (call ∷ calls) =
    history_from b (record { call = call; reply = legal_reply b h call } ∷ h) calls

-- the history of these calls, of which the first is the oldest
abbrev pub history_of : BoardValue → List CtlCall → List CtlExchange
history_of b calls = history_from b [] calls

-- the values that are kept along a history
abbrev pub kept_along : BoardValue → List CtlExchange → Values
kept_along b [] = start_of_life b
kept_along b (e ∷ h) = after b e.call e.reply (kept_along b h)

-- Values --------------------------------------------------------------------------------------

-- the values of the first five cores and of the first five domains of levels 0 to 3
pub record Shown : Type 0 where
  pub life : Option ℕ
  pub starts : List ℕ
  pub last : List (Option Start)
  pub depth : List (List ℕ)

abbrev pub shown : Values → Shown
shown v =
    let places = 0 ∷ 1 ∷ 2 ∷ 3 ∷ 4 ∷ [] in
    record {
      life = v.life;
      starts = map v.starts places;
      last = map (last_start v) places;
      depth = map (λ l. map (v.depth l) places) (0 ∷ 1 ∷ 2 ∷ 3 ∷ []);
    }

-- these calls leave what is said of it, by the history and by what is kept along it
pub record Leave {Said : Type 0} (b : BoardValue) (said : Shown → Said)
    (rows : List (Row (List CtlCall) Said)) : Type 0 where
  pub by_history : Gives (λ calls. said (shown (values_of b (history_of b calls)))) rows
  pub by_values : Gives (λ calls. said (shown (kept_along b (history_of b calls)))) rows
