-- What a port keeps, at each moment of each of its runs.
use Rattle.std.specs.Prelude.{◌<◌, ◌∷◌, ◌≡◌, ◌≤◌, [], Bool, false, List, None, Option, Some, true}
use Rattle.std.specs.Prelude.{ℕ}
use Rattle.psci_board.specs.Board.{BoardValue, cores, height, up}
use Rattle.psci_ctl_spec.specs.psci_messages.declared.start.Start.{Start}
use Rattle.psci_ctl_spec.specs.Replies.{last_start}
use Rattle.psci_headline.specs.Safe.{AlwaysSafe}
use Rattle.psci_world_spec.specs.declared.said.Record.{Record}
use Rattle.psci_world_spec.specs.Legal.{IsLegalPast}
use Rattle.psci_port.specs.Stages.{Entering, executes, has_stopped, may_hold}
use Rattle.psci_port.specs.Port.{Port, Act, TakesUp, stage_at, state, words}

-- Power goes under no core that executes anything: by which cores execute something and which have
-- said that they stand, which domains have no power, and how deep each was taken down.
pub record KeepsPower (b : BoardValue) (executing standing : ℕ → Bool) (cut : ℕ → ℕ → Bool)
    (depth : ℕ → ℕ → ℕ) : Type 0 where
  pub powered : (c level : ℕ) → c < cores b → level ≤ height b → executing c ≡ true
      → cut level (up b level c) ≡ false
  -- and where a core has not said that it stands, the power controller took nothing above it down
  pub awake : (c level : ℕ) → c < cores b → level ≤ height b → standing c ≡ false
      → depth level (up b level c) ≡ 0

-- Power goes under no core from its start until it says that it stands, or of an armed one its WFI.
abbrev pub NoneCut : BoardValue → Port → Type 0
NoneCut b p = KeepsPower b (λ c. executes (stage_at p c)) (λ c. has_stopped (stage_at p c)) p.cut
    p.values.depth

-- Who has the lock is alone inside the firmware, and is not cut off there.
pub record IsLocked (p : Port) : Type 0 where
  -- who has the lock is inside a start that it took up, or is armed, though it was started since;
  -- and was not cut off or reset with it
  pub holder : (c : ℕ) → p.lock ≡ Some c → may_hold (stage_at p c) ≡ true
  -- no two cores are inside the firmware at once
  pub alone : (c d : ℕ) (r q : Record) → (p.row c).begun ≡ Some r → (p.row d).begun ≡ Some q → c ≡ d
  -- the next call finds the firmware whole: no call was torn
  pub free : p.lock ≡ None → p.whole ≡ true
  pub whole : (c : ℕ) → p.lock ≡ Some c → (p.row c).begun ≡ None → p.whole ≡ true

-- The words by which cores stand, and the starts by which they enter, tell the truth.
pub record WordsTell (p : Port) : Type 0 where
  -- a core stands by its word exactly where it said so in its last start
  pub stands : (c : ℕ) → words p c ≡ p.values.starts c → has_stopped (stage_at p c) ≡ true
  pub stood : (c : ℕ) → has_stopped (stage_at p c) ≡ true → words p c ≡ p.values.starts c
  -- what a core enters by is its last start
  pub enters : (c : ℕ) (s : Start) → stage_at p c ≡ Entering s → last_start p.values c ≡ Some s

-- a start that is taken up is the last one, for which the door was opened, and was not used before
abbrev pub IsLast : Option Start → Option Start → ℕ → ℕ → ℕ → Type 0
IsLast door last opened used starts = (door ≡ last) × (opened ≡ starts) × (used < starts)

-- so is what a core takes up
abbrev pub TakesItsLast : Port → Act → Type 0
TakesItsLast p (TakesUp c) = IsLast (p.row c).door (last_start p.values c) (p.row c).opened
    (p.row c).used (p.values.starts c)
TakesItsLast p act = Unit {0}

-- the same of each act of a run
abbrev pub EachTakesItsLast : BoardValue → List Act → Type 0
EachTakesItsLast b [] = Unit {0}
EachTakesItsLast b (act ∷ acts) = TakesItsLast (state b acts) act × EachTakesItsLast b acts

-- Runs -------------------------------------------------------------------------------------------

-- what was asked and said since the last cold reset, and from each to the next
abbrev pub runs : Port → List (List Record)
runs p = p.past ∷ p.before

-- each of these is a legal run
abbrev pub AreLegal : BoardValue → List (List Record) → Type 0
AreLegal b [] = Unit {0}
AreLegal b (past ∷ pasts) = IsLegalPast b past × AreLegal b pasts

-- and was safe at every moment
abbrev pub AreSafe : BoardValue → List (List Record) → Type 0
AreSafe b [] = Unit {0}
AreSafe b (past ∷ pasts) = AlwaysSafe b past × AreSafe b pasts
