-- Worked examples: what is known after some calls, by looking backwards and by what is kept.
use Rattle.std.proofs.Common.{ℕ, List, [], ◌∷◌, Option, Some, None, refl}
use Rattle.psci_board.proofs.Tables.{◌⇒◌}
use Rattle.psci_messages.specs.declared.start.Start.{Start}
use Rattle.psci_messages.specs.declared.start.Cause.{Cause}
use Rattle.psci_messages.specs.declared.start.Cause.TheVariants as causes
use Rattle.psci_ctl_spec.proofs.Steps.{Leave, Shown, board, board_of, computing, down, off, part}
use Rattle.psci_ctl_spec.proofs.Steps.{reset, reset_system, start, wake}

abbrev last : ℕ → ℕ → Cause → Option Start
last life number cause = Some (record { life = life; number = number; cause = cause })

-- a level of which no domain is fully on, and none above the board
abbrev deep : List ℕ
deep = 3 ∷ 3 ∷ 3 ∷ 3 ∷ 3 ∷ []

-- the boot core was started, and its path is fully on
abbrev begun : Shown
begun = record {
  life = Some 1;
  starts = 1 ∷ 0 ∷ 0 ∷ 0 ∷ 0 ∷ [];
  last = last 1 1 causes.Boot ∷ None ∷ None ∷ None ∷ None ∷ [];
  depth = (0 ∷ 3 ∷ 3 ∷ 3 ∷ 3 ∷ []) ∷ (0 ∷ 3 ∷ 3 ∷ 3 ∷ 3 ∷ []) ∷ (0 ∷ 3 ∷ 3 ∷ 3 ∷ 3 ∷ []) ∷ deep
      ∷ [];
}

-- a Start message: the core's path is fully on, its cluster's other core stays down
abbrev on_3 : Shown
on_3 = record begun {
  starts = 1 ∷ 0 ∷ 0 ∷ 1 ∷ 0 ∷ [];
  last = last 1 1 causes.Boot ∷ None ∷ None ∷ last 1 1 causes.On ∷ None ∷ [];
  depth = (0 ∷ 3 ∷ 3 ∷ 0 ∷ 3 ∷ []) ∷ (0 ∷ 0 ∷ 3 ∷ 3 ∷ 3 ∷ []) ∷ (0 ∷ 3 ∷ 3 ∷ 3 ∷ 3 ∷ []) ∷ deep
      ∷ [];
}

known : Leave board (λ v. v)
    ([] ⇒ begun
    ∷ (start 3 1 0 ∷ []) ⇒ on_3
    -- a stale Start message changes nothing
    ∷ (start 3 1 0 ∷ start 3 1 0 ∷ []) ⇒ on_3
    -- retention of the cluster
    ∷ (start 3 1 0 ∷ down 3 1 1 (part 0 3 1 ∷ part 1 2 1 ∷ []) ∷ []) ⇒ record on_3 {
      depth = (0 ∷ 3 ∷ 3 ∷ 3 ∷ 3 ∷ []) ∷ (0 ∷ 2 ∷ 3 ∷ 3 ∷ 3 ∷ []) ∷ (0 ∷ 3 ∷ 3 ∷ 3 ∷ 3 ∷ []) ∷ deep
          ∷ [];
    }
    -- a part that waits: only the core went down
    ∷ (start 3 1 0 ∷ start 2 1 0 ∷ down 3 1 1 (part 0 3 1 ∷ part 1 3 2 ∷ []) ∷ []) ⇒ record begun {
      starts = 1 ∷ 0 ∷ 1 ∷ 1 ∷ 0 ∷ [];
      last = last 1 1 causes.Boot ∷ None ∷ last 1 1 causes.On ∷ last 1 1 causes.On ∷ None ∷ [];
      depth = (0 ∷ 3 ∷ 0 ∷ 3 ∷ 3 ∷ []) ∷ (0 ∷ 0 ∷ 3 ∷ 3 ∷ 3 ∷ []) ∷ (0 ∷ 3 ∷ 3 ∷ 3 ∷ 3 ∷ []) ∷ deep
          ∷ [];
    }
    -- a wake-up from a system that is powered down: the whole path is fully on again
    ∷ (down 0 1 1 (part 0 3 1 ∷ part 1 3 1 ∷ part 2 3 1 ∷ []) ∷ wake 0 1 ∷ []) ⇒ record begun {
      starts = 2 ∷ 0 ∷ 0 ∷ 0 ∷ 0 ∷ [];
      last = last 1 2 causes.Wake ∷ None ∷ None ∷ None ∷ None ∷ [];
    }
    -- a core that was never started may be woken and reset; no other core below its cluster changes
    ∷ (wake 2 0 ∷ reset 1 ∷ reset 1 ∷ []) ⇒ record begun {
      starts = 1 ∷ 2 ∷ 1 ∷ 0 ∷ 0 ∷ [];
      last = last 1 1 causes.Boot ∷ last 1 2 causes.Reset ∷ last 1 1 causes.Wake ∷ None ∷ None ∷ [];
      depth = (0 ∷ 0 ∷ 0 ∷ 3 ∷ 3 ∷ []) ∷ (0 ∷ 0 ∷ 3 ∷ 3 ∷ 3 ∷ []) ∷ (0 ∷ 3 ∷ 3 ∷ 3 ∷ 3 ∷ []) ∷ deep
          ∷ [];
    }
    -- core 3 and its cluster were powered down, and are in retention and in standby by the Down
    -- that is delivered last
    ∷ (start 3 1 0 ∷ down 3 1 1 (part 0 3 1 ∷ part 1 3 1 ∷ [])
    ∷ down 3 1 1 (part 0 2 1 ∷ part 1 1 1 ∷ []) ∷ [])
    ⇒ record on_3 {
      depth = (0 ∷ 3 ∷ 3 ∷ 2 ∷ 3 ∷ []) ∷ (0 ∷ 1 ∷ 3 ∷ 3 ∷ 3 ∷ []) ∷ (0 ∷ 3 ∷ 3 ∷ 3 ∷ 3 ∷ []) ∷ deep
          ∷ [];
    }
    -- a Down of its core alone leaves the cluster as deep as it was
    ∷ (down 0 1 1 (part 0 3 1 ∷ part 1 2 1 ∷ part 2 2 1 ∷ []) ∷ down 0 1 1 (part 0 2 1 ∷ []) ∷ [])
    ⇒ record begun {
      depth = (2 ∷ 3 ∷ 3 ∷ 3 ∷ 3 ∷ []) ∷ (2 ∷ 3 ∷ 3 ∷ 3 ∷ 3 ∷ []) ∷ (2 ∷ 3 ∷ 3 ∷ 3 ∷ 3 ∷ []) ∷ deep
          ∷ [];
    } ∷ [])
unfolding computing
known = record { by_history = refl; by_values = refl }

second_life : Leave board (λ v. v)
    -- the second life begins as the first one did, and counts its own starts
    ((start 3 1 0 ∷ reset_system 0 1 1 ∷ start 3 2 0 ∷ reset 0 ∷ []) ⇒ record on_3 {
      life = Some 2;
      starts = 2 ∷ 0 ∷ 0 ∷ 1 ∷ 0 ∷ [];
      last = last 2 2 causes.Reset ∷ None ∷ None ∷ last 2 1 causes.On ∷ None ∷ [];
    }
    -- right after the Reset: nothing of the life before is left
    ∷ (start 3 1 0 ∷ reset 0 ∷ reset_system 3 1 1 ∷ []) ⇒ record begun {
      life = Some 2;
      last = last 2 1 causes.Boot ∷ None ∷ None ∷ None ∷ None ∷ [];
    } ∷ [])
unfolding computing
second_life = record { by_history = refl; by_values = refl }

-- after Off there is no life, and no core was started; so after a Reset in the last life
abbrev off_values : Shown → Option ℕ × List ℕ × List (Option Start)
off_values v = (v.life, v.starts, v.last)

abbrev nothing : Option ℕ × List ℕ × List (Option Start)
nothing = (None, 0 ∷ 0 ∷ 0 ∷ 0 ∷ 0 ∷ [], None ∷ None ∷ None ∷ None ∷ None ∷ [])

off_row : Leave board off_values ((start 3 1 0 ∷ off 0 1 1 ∷ wake 3 1 ∷ []) ⇒ nothing ∷ [])
unfolding computing
off_row = record { by_history = refl; by_values = refl }

-- two lives, of which the second is the last
last_row : Leave (board_of ((2 ∷ 2 ∷ []) ∷ (2 ∷ []) ∷ []) 1000 2) off_values
    ((reset_system 0 1 1 ∷ reset_system 0 2 1 ∷ []) ⇒ nothing ∷ [])
unfolding computing
last_row = record { by_history = refl; by_values = refl }
