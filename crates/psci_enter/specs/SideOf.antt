-- What a core's side has of a port, and the firmware; and what each call of a side does there.
use Rattle.std.specs.Prelude.{◌≡◌, ℕ, ◌<◌, Bool, true, false, not, ◌==◌, ◌⊎◌, List, ◌∷◌, Some}
use Rattle.psci_board.specs.Board.{BoardValue, cores}
use Rattle.psci_ctl_spec.specs.Replies.{Effect, Nothing, Starts, Deepens, Ends, Begins}
use Rattle.psci_ctl_spec.specs.declared.kick.Kick.TheVariants as kicks
use Rattle.psci_ctl_spec.specs.declared.reply.CtlReply.{CtlReply}
use Rattle.psci_ctl_spec.specs.declared.reply.CtlReply.TheVariants as replies
use Rattle.psci_fw.specs.Reactions.{FirmwareValue, seen}
use Rattle.psci_fw_spec.specs.Changes.{start_of_life}
use Rattle.psci_world_spec.specs.Legal.{firmware_values}
use Rattle.psci_port.specs.Port.{Act, Arms, Calls, Cuts, Delivers, Enters, Finishes, Locks, Opens}
use Rattle.psci_port.specs.Port.{Port, Reboots, Resets, Restarts, Rises, Rouses, Sleeps, stage_at}
use Rattle.psci_port.specs.Port.{Stands, state, Takes, TakesUp, Turns, Unlocks, Wakes, Writes}
use Rattle.psci_port.specs.Rules.{IsTrue, May}
use Rattle.psci_port.specs.Stages.{Stage, looks}
use Rattle.psci_port.specs.Stages as stages
use Rattle.psci_enter.specs.declared.post.Door.{Door}
use Rattle.psci_enter.specs.declared.post.Post.{Post}
use Rattle.psci_enter.specs.declared.post.Post.TheVariants.{Armed, Entering, Leaving, Running}
use Rattle.psci_enter.specs.declared.post.Post.TheVariants.{Waiting, Woken}
use Rattle.psci_enter.specs.declared.side.FirmwareSide.{FirmwareSide}

-- where a core is whose monitor is at this post: one that waits or is armed may have been started
-- meanwhile
abbrev pub Fits : Post → Stage → Type 0
Fits Waiting y = looks y ≡ true
Fits (Entering s) y = y ≡ stages.Entering s
Fits Running y = y ≡ stages.Normal
Fits Leaving y = y ≡ stages.Leaving
Fits Armed y = (y ≡ stages.Armed) ⊎ (y ≡ stages.Woken)
Fits Woken y = y ≡ stages.Woken

-- the row of a side's core
abbrev pub core_of : FirmwareSide → ℕ
core_of s = s.core.number

-- It is the side of a core of the port, and knows which start the core used and where it is.
pub record IsSideOf (b : BoardValue) (s : FirmwareSide) (p : Port) : Type 0 where
  pub has : core_of s < cores b
  pub used : s.used ≡ (p.row (core_of s)).used
  pub post : Fits s.post (stage_at p (core_of s))

-- A firmware that was made anew, and that no core has entered yet: no core is in the normal world,
-- and a start that a core finds is of a later life than the firmware's was.
pub record IsAnew (b : BoardValue) (f : FirmwareValue) (p : Port) : Type 0 where
  pub values : seen f ≡ start_of_life b 0
  pub later : (life : ℕ) → p.values.life ≡ Some life → (firmware_values b p.past).life < life
  pub none : (c : ℕ) → stage_at p c ≡ stages.Normal → ⊥

-- The firmware keeps what it was asked and said in the port, or was made anew.
pub record IsFirmwareOf (b : BoardValue) (f : FirmwareValue) (p : Port) : Type 0 where
  pub board : f.board ≡ b
  pub values : (seen f ≡ firmware_values b p.past) ⊎ IsAnew b f p

-- what a core reads at its door is what stands there
pub record IsDoor (p : Port) (c : ℕ) (door : Door) : Type 0 where
  pub opened : door.opened ≡ (p.row c).opened
  pub start : door.start ≡ (p.row c).door

-- This act keeps the rules and is true, and leaves a port of which this is the core's side.
pub record IsRightly (b : BoardValue) (acts : List Act) (s : FirmwareSide) (act : Act)
    : Type 0 where
  pub may : May b (state b acts) act
  pub so : IsTrue b (state b acts) act
  pub side : IsSideOf b s (state b (act ∷ acts))

-- the power controller started the core
abbrev pub is_started : CtlReply → Bool
is_started (replies.Kick (kicks.Started start)) = true
is_started (replies.Kick kicks.Ignored) = false
is_started (replies.Delivery d) = false

-- Acts of others ---------------------------------------------------------------------------------

-- an act that is not of this core, nor one of the power controller that may start or end something
abbrev pub is_apart : ℕ → Act → Bool
is_apart c (Locks d) = true
is_apart c (Unlocks d) = true
is_apart c (Calls d regs said) = true
is_apart c (Enters d said) = true
is_apart c (Takes d k said) = true
is_apart c (Finishes d) = not (c == d)
is_apart c (TakesUp d) = not (c == d)
is_apart c (Stands d) = not (c == d)
is_apart c (Arms d) = not (c == d)
is_apart c (Sleeps d) = not (c == d)
is_apart c (Delivers k m) = false
is_apart c (Wakes d) = true
is_apart c (Resets d) = not (c == d)
is_apart c (Rouses d) = not (c == d)
is_apart c (Rises d) = not (c == d)
is_apart c (Turns d) = not (c == d)
is_apart c (Writes d) = true
is_apart c (Opens d) = true
is_apart c (Cuts level place) = true
is_apart c Restarts = false
is_apart c Reboots = false

-- a life ends
abbrev pub is_end : Effect → Bool
is_end Nothing = false
is_end (Starts c cause) = false
is_end (Deepens c ps) = false
is_end Ends = true
is_end Begins = true

-- an act that asks the firmware nothing, nor ends a life
abbrev pub is_quiet : Act → Bool
is_quiet (Finishes c) = false
is_quiet (Delivers k m) = false
is_quiet Restarts = false
is_quiet Reboots = false
is_quiet act = true
