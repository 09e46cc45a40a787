-- What the power controller keeps, by the calls so far and their replies. A history has its newest
-- exchange first, and every definition looks backwards along it. An ignored call says nothing.
use Rattle.std.specs.Prelude.{◌*◌, ◌+◌, ◌<◌, ◌==◌, ◌∷◌, ◌≡◌, ◌≤◌, ◌⊎◌, [], Bool, false}
use Rattle.std.specs.Prelude.{if◌then◌else◌, length, List, None, Option, option_map, slice_get}
use Rattle.std.specs.Prelude.{Some, suc, true, unwrap_or, ℕ}
use Rattle.psci_board.specs.Board.{BoardValue, cores, domain_of, height, is_on_path, up}
use Rattle.psci_board.specs.declared.draft.Node.{Node}
use Rattle.psci_messages.specs.Message.{IsMessage, MessageValue, only_if}
use Rattle.psci_messages.specs.declared.part.Part.{Part}
use Rattle.psci_messages.specs.declared.start.Cause.{Cause}
use Rattle.psci_messages.specs.psci_state.PowerState.{power_down}
use Rattle.psci_ctl_spec.specs.Replies.{Begins, Deepens, Effect, effect_of, Ends, Nothing}
use Rattle.psci_ctl_spec.specs.Replies.{one_more, reply, Starts}
use Rattle.psci_ctl_spec.specs.Values.{applied, CtlExchange, first_cause, first_depth}
use Rattle.psci_ctl_spec.specs.Values.{first_starts, is_stale, laid, starts_below, Values}
use Rattle.psci_ctl_spec.specs.declared.call.CtlCall.{CtlCall}
use Rattle.psci_ctl_spec.specs.declared.call.CtlCall.TheVariants as calls
use Rattle.psci_ctl_spec.specs.declared.reply.CtlReply.{CtlReply}

-- Follows -----------------------------------------------------------------------------------------
-- What the one reply to a call brings about, and what holds of the values after every history of
-- such replies.

-- there is a life
abbrev pub HasLife : Values → Type 0
HasLife v = (l : ℕ) × (v.life ≡ Some l)

-- The parts that are applied on the path of a core.
pub record IsFront (b : BoardValue) (v : Values) (c : ℕ) (ps : List Part) : Type 0 where
  pub core : c < cores b
  pub few : length ps ≤ height b + 1
  -- the number of a part is its level
  pub level : (k : ℕ) (p : Part) → slice_get ps k ≡ Some p → p.level ≡ k
  pub least : (k : ℕ) (p : Part) → slice_get ps k ≡ Some p → 0 < p.depth
  pub deepest : (k : ℕ) (p : Part) → slice_get ps k ≡ Some p → p.depth ≤ power_down
  -- each is live
  pub live : (k : ℕ) (p : Part) → slice_get ps k ≡ Some p
      → p.generation ≡ starts_below b v.starts (domain_of b c k)
  -- and each domain one level below is at least as deep, once they were applied
  pub covered : (k x : ℕ) (p : Part) → slice_get ps (suc k) ≡ Some p → x < cores b
      → up b (suc k) x ≡ up b (suc k) c → p.depth ≤ laid b c ps v.depth k (up b k x)

-- What holds of the effect of the one reply, of the values before it: without a life nothing
-- happens, no core is started beyond the start limit, and no life begins beyond the last.
abbrev pub MayFollow : BoardValue → Values → Effect → Type 0
MayFollow b v Nothing = Unit {0}
MayFollow b v (Starts c cause) = (c < cores b) × (v.starts c < b.starts) × HasLife v
MayFollow b v (Deepens c ps) = IsFront b v c ps × HasLife v
MayFollow b v Ends = HasLife v
MayFollow b v Begins = (l : ℕ) × (v.life ≡ Some l) × (l < b.lives)

-- Values as the power controller keeps them on this board.
pub record AreValues (b : BoardValue) (v : Values) : Type 0 where
  -- no core was started more often than the start limit allows, and none without a life
  pub starts : (c : ℕ) → v.starts c ≤ b.starts
  pub none : v.life ≡ None → (c : ℕ) → v.starts c ≡ 0
  -- in a life the boot core was started
  pub boot : (l : ℕ) → v.life ≡ Some l → 0 < v.starts 0
  -- lives are numbered from 1 to the last one
  pub first : (l : ℕ) → v.life ≡ Some l → 0 < l
  pub last : (l : ℕ) → v.life ≡ Some l → l ≤ b.lives
  -- no domain is deeper than power-down
  pub deepest : (level place : ℕ) → v.depth level place ≤ power_down

-- History -----------------------------------------------------------------------------------------

-- Theorems speak of histories in which every reply is the one reply. Of other ones the definitions
-- say something too, which no theorem needs: after the end of a life a core may be started, or
-- another life begin, while there is still no life.

-- what an exchange comes down to
abbrev pub effect_in : BoardValue → CtlExchange → Effect
effect_in b e = effect_of b e.call e.reply

-- what the newest exchange says that says something, and where none does this
abbrev pub last_said : {A : Type 0} → (CtlExchange → Option A) → A → List CtlExchange → A
last_said says first [] = first
last_said says first (e ∷ h) = unwrap_or (says e) (last_said says first h)

-- Lives ----------------------------------------------------------------------------------------

-- the life after an exchange of this effect
abbrev pub life_by : Effect → Option ℕ → Option ℕ
life_by Nothing before = before
life_by (Starts c cause) before = before
life_by (Deepens c ps) before = before
life_by Ends before = None
life_by Begins before = option_map (λ l. l + 1) before

-- this life: 1 and one more for each Reset below the last life; none after an Off, or a
-- Reset in the last life
abbrev pub life : BoardValue → List CtlExchange → Option ℕ
life b [] = Some 1
life b (e ∷ h) = life_by (effect_in b e) (life b h)

-- Starts ---------------------------------------------------------------------------------------

-- how many starts of a core are counted after an exchange of this effect
abbrev pub starts_by : ℕ → Effect → ℕ → ℕ
starts_by k Nothing before = before
starts_by k (Starts c cause) before = if k == c then before + 1 else before
starts_by k (Deepens c ps) before = before
starts_by k Ends before = 0
starts_by k Begins before = first_starts k

-- the starts of a core since the life began, the boot core's first one included; 0 without a life
abbrev pub starts : BoardValue → List CtlExchange → ℕ → ℕ
starts b [] k = first_starts k
starts b (e ∷ h) k = starts_by k (effect_in b e) (starts b h k)

-- what an exchange says of the cause of a core's last start; where no start is left, it is that of
-- the boot core's first one
abbrev pub cause_by : ℕ → Effect → Option Cause
cause_by k Nothing = None
cause_by k (Starts c cause) = only_if (k == c) (Some cause)
cause_by k (Deepens c ps) = None
cause_by k Ends = Some (first_cause k)
cause_by k Begins = Some (first_cause k)

-- why a core was last started
abbrev pub last_cause : BoardValue → List CtlExchange → ℕ → Cause
last_cause b h k = last_said (λ e. cause_by k (effect_in b e)) (first_cause k) h

-- Depths ---------------------------------------------------------------------------------------

-- What an exchange says of the depth of a domain: 0 where a core below it is started, the depth of
-- a part that is applied to it, and as the life begins that of a life's start.
abbrev pub depth_by : BoardValue → ℕ → ℕ → Effect → Option ℕ
depth_by b level place Nothing = None
depth_by b level place (Starts c cause) = only_if (is_on_path b c level place) (Some 0)
depth_by b level place (Deepens c ps) =
    only_if (is_on_path b c level place) (option_map (λ p. p.depth) (slice_get ps level))
depth_by b level place Ends = None
depth_by b level place Begins = Some (first_depth b level place)

-- the depth of a domain: by the last of these
abbrev pub depth : BoardValue → List CtlExchange → ℕ → ℕ → ℕ
depth b h level place =
    last_said (λ e. depth_by b level place (effect_in b e)) (first_depth b level place) h

-- All of them ----------------------------------------------------------------------------------

-- the values that a history says
unfoldable pub values_of : BoardValue → List CtlExchange → Values
values_of b h = record {
  life = life b h;
  starts = starts b h;
  cause = last_cause b h;
  depth = depth b h;
}

-- Lasting -----------------------------------------------------------------------------------------
-- What lasts along a history: parts that are past, and where the depth of a domain comes from.

-- Live parts -----------------------------------------------------------------------------------

-- a part of a life, sent for a domain with this generation, is live after a history
pub record IsLive (b : BoardValue) (h : List CtlExchange) (sent_in : ℕ) (n : Node) (sum : ℕ)
    : Type 0 where
  pub life : life b h ≡ Some sent_in
  pub generation : sum ≡ starts_below b (starts b h) n

-- Applied parts --------------------------------------------------------------------------------

-- an effect applies this part to the domain of this level and place
abbrev pub Applies : BoardValue → Effect → ℕ → ℕ → Part → Type 0
Applies b Nothing level place p = ⊥
Applies b (Starts c cause) level place p = ⊥
Applies b (Deepens c ps) level place p =
    (is_on_path b c level place ≡ true) × (slice_get ps level ≡ Some p)
Applies b Ends level place p = ⊥
Applies b Begins level place p = ⊥

-- an effect leaves the life as it is
abbrev pub keeps_life : Effect → Bool
keeps_life Nothing = true
keeps_life (Starts c cause) = true
keeps_life (Deepens c ps) = true
keeps_life Ends = false
keeps_life Begins = false

-- this part was applied to the domain of this level and place, in this life
abbrev pub WasApplied : BoardValue → List CtlExchange → ℕ → ℕ → Part → Type 0
WasApplied b [] level place p = ⊥
WasApplied b (e ∷ h) level place p =
    Applies b (effect_in b e) level place p
    ⊎ ((keeps_life (effect_in b e) ≡ true) × WasApplied b h level place p)

-- a live part that was applied in this life made the domain as deep as it is
pub record IsApplied (b : BoardValue) (h : List CtlExchange) (level place : ℕ) : Type 0 where
  pub part : Part
  pub was : WasApplied b h level place part
  pub depth : depth b h level place ≡ part.depth
  pub live : part.generation ≡ starts_below b (starts b h)
      (record { level = level; place = place })

-- the domain is as deep as at the start of the life, and no core below it was started since
pub record IsFirst (b : BoardValue) (h : List CtlExchange) (level place : ℕ) : Type 0 where
  pub depth : depth b h level place ≡ first_depth b level place
  pub still : starts_below b (starts b h) (record { level = level; place = place }) ≡ 0

-- Depths along a path --------------------------------------------------------------------------

-- What holds of the values: facts that upper layers build on --------------------------------------

-- Generations ----------------------------------------------------------------------------------

-- The sum of the starts below a domain.
pub record SumLaws (b : BoardValue) : Type 0 where
  -- no starts, no sum
  pub none : (n : Node) → starts_below b (λ c. 0) n ≡ 0
  -- the sum of a core is its own starts
  pub own : (starts : ℕ → ℕ) (c : ℕ) → c < cores b
      → starts_below b starts (record { level = 0; place = c }) ≡ starts c
  -- a start counts once for each domain on the core's path, and for no other
  pub more : (starts : ℕ → ℕ) (c level place : ℕ) → c < cores b → level ≤ height b
      → starts_below b (one_more starts c) (record { level = level; place = place })
      ≡ starts_below b starts (record { level = level; place = place })
      + (if is_on_path b c level place then 1 else 0)
  -- with more starts there is no smaller sum
  pub grows : (f g : ℕ → ℕ) → ((c : ℕ) → f c ≤ g c) → (n : Node)
      → starts_below b f n ≤ starts_below b g n
  -- where each core has so many starts at most
  pub few : (starts : ℕ → ℕ) (most : ℕ) → ((c : ℕ) → starts c ≤ most) → (n : Node)
      → starts_below b starts n ≤ cores b * most

-- Starts ---------------------------------------------------------------------------------------

-- Acknowledgements -----------------------------------------------------------------------------

-- What the acknowledgement of a Down says.
pub record AckLaws (b : BoardValue) (v : Values) (c : ℕ) (ps : List Part) : Type 0 where
  -- no more parts are applied than there are
  pub few : applied b v c ps ≤ length ps
  -- it is stale exactly where a part was left, and the first one left is not live
  pub stale : is_stale b v c ps ≡ true
      → (p : Part) × (slice_get ps (applied b v c ps) ≡ Some p)
      × (p.generation ≡ starts_below b v.starts (domain_of b c p.level) → ⊥)
  pub waits : is_stale b v c ps ≡ false → (p : Part)
      → slice_get ps (applied b v c ps) ≡ Some p
      → p.generation ≡ starts_below b v.starts (domain_of b c p.level)

-- Histories in which every reply is the one reply -------------------------------------------------

-- a message whose core and levels are the board's
pub record IsOfBoard (b : BoardValue) (m : MessageValue) : Type 0 where
  pub core : m.core.number < cores b
  pub levels : length m.parts ≤ height b + 1

-- a message that can be sent on this board
pub record IsSendable (b : BoardValue) (m : MessageValue) : Type 0 where
  pub message : IsMessage m
  pub board : IsOfBoard b m

-- a call that can be made on this board
abbrev pub IsCall : BoardValue → CtlCall → Type 0
IsCall b (calls.Deliver m) = IsSendable b m
IsCall b (calls.Wake core halted) = core.number < cores b
IsCall b (calls.Reset core) = core.number < cores b

-- the one legal reply to a call after a history
abbrev pub legal_reply : BoardValue → List CtlExchange → CtlCall → CtlReply
legal_reply b h call = reply b (values_of b h) call

-- a history of calls of this board, in which every reply is the one reply after the exchanges
-- before it
abbrev pub IsLegal : BoardValue → List CtlExchange → Type 0
IsLegal b [] = Unit {0}
IsLegal b (e ∷ h) = (e.reply ≡ legal_reply b h e.call) × IsCall b e.call × IsLegal b h

-- the legal history of these calls, both with the newest first
abbrev pub legal_history : BoardValue → List CtlCall → List CtlExchange
legal_history b [] = []
legal_history b (call ∷ calls) =
    let h = legal_history b calls in
    record { call = call; reply = legal_reply b h call } ∷ h

-- calls that can be made on this board
abbrev pub AreCalls : BoardValue → List CtlCall → Type 0
AreCalls b [] = Unit {0}
AreCalls b (call ∷ calls) = IsCall b call × AreCalls b calls
