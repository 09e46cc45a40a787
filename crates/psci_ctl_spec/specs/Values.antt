-- What the power controller keeps, as functions by core, and by level and place.
use Rattle.std.specs.List.{list_all, prefix_len, range_with_len, sum_by}
use Rattle.std.specs.Prelude.{◌&&◌, ◌-◌, ◌==◌, ◌∷◌, [], Bool, drop, false, if◌then◌else◌, List}
use Rattle.std.specs.Prelude.{nat_le, None, not, Option, slice_get, Some, take, ℕ}
use Rattle.psci_board.specs.Board.{below, BoardValue, children, domain_of, first_child}
use Rattle.psci_board.specs.Board.{is_on_path}
use Rattle.psci_board.specs.declared.draft.Node.{Node}
use Rattle.psci_messages.specs.declared.part.Part.{Part}
use Rattle.psci_messages.specs.declared.start.Cause.{Cause}
use Rattle.psci_messages.specs.declared.start.Cause.TheVariants as causes
use Rattle.psci_messages.specs.psci_state.PowerState.{power_down, running}
use Rattle.psci_ctl_spec.specs.declared.call.CtlCall.{CtlCall}
use Rattle.psci_ctl_spec.specs.declared.reply.CtlReply.{CtlReply}

-- One call with its reply -------------------------------------------------------------------------

-- a call of the power controller, with its reply
pub record CtlExchange : Type 0 where
  -- what was asked of it
  pub call : CtlCall
  -- what became of that
  pub reply : CtlReply

-- Values ------------------------------------------------------------------------------------------

-- The values of the power controller. Of a core or a domain that the board does not have they say
-- what they say of one that is off and was never started.
pub record Values : Type 0 where
  -- this life, counted from 1; none once the system is off
  pub life : Option ℕ
  -- how many times a core was started in this life: 0 without a life
  pub starts : ℕ → ℕ
  -- why a core was last started; of one that was not started in this life it says nothing
  pub cause : ℕ → Cause
  -- how deep the domain of a level and place is; without a life it says nothing
  pub depth : ℕ → ℕ → ℕ

-- Domains --------------------------------------------------------------------------------------

-- the sum of the starts of the cores below a domain
unfoldable pub starts_below : BoardValue → (ℕ → ℕ) → Node → ℕ
starts_below b starts n = sum_by starts (below b n)

-- The start of a life --------------------------------------------------------------------------

-- the boot core was started once, no other core was
abbrev pub first_starts : ℕ → ℕ
first_starts c = if c == 0 then 1 else 0

-- the boot core's path is fully on, every other domain is powered down
abbrev pub first_depth : BoardValue → ℕ → ℕ → ℕ
first_depth b level place = if is_on_path b 0 level place then running else power_down

-- the only start so far is that of the boot core
abbrev pub first_cause : ℕ → Cause
first_cause c = causes.Boot

-- the values at the start of the first life
abbrev pub start_of_life : BoardValue → Values
start_of_life b = record {
  life = Some 1;
  starts = first_starts;
  cause = first_cause;
  depth = first_depth b;
}

-- Parts -------------------------------------------------------------------------------------------
-- Which parts of a Down are applied. A Down has its parts in the order of their levels, so that the
-- number of a part is its level.

-- the depth of a part, or what was there before
abbrev pub depth_or : Option Part → ℕ → ℕ
depth_or None before = before
depth_or (Some p) before = p.depth

-- the depths after these parts were applied: each to the domain of its level on the core's path
abbrev pub laid : BoardValue → ℕ → List Part → (ℕ → ℕ → ℕ) → ℕ → ℕ → ℕ
laid b c ps depth level place =
    if is_on_path b c level place
    then depth_or (slice_get ps level) (depth level place)
    else depth level place

-- a part, sent in this life, is live: its generation counts every start below its domain, so no
-- core below was started since, or before without having entered
abbrev pub is_live : BoardValue → Values → ℕ → Part → Bool
is_live b v c p = p.generation == starts_below b v.starts (domain_of b c p.level)

-- every child of a domain is at least this deep
abbrev pub is_covered : BoardValue → (ℕ → ℕ → ℕ) → Node → ℕ → Bool
is_covered b depth n least =
    list_all (λ place. nat_le least (depth (n.level - 1) place))
    (range_with_len (first_child b n.level n.place) (children b n))

-- a part is applied, once those of the lower levels were: it is live, and every child of its domain
-- is at least as deep
abbrev pub is_applied : BoardValue → Values → ℕ → List Part → Part → Bool
is_applied b v c ps p =
    is_live b v c p
    && is_covered b (laid b c (take p.level ps) v.depth) (domain_of b c p.level) p.depth

-- how many parts are applied: those before the first that is not
unfoldable pub applied : BoardValue → Values → ℕ → List Part → ℕ
applied b v c ps = prefix_len (is_applied b v c ps) ps

-- whether the first of some parts is out of date
abbrev pub begins_stale : BoardValue → Values → ℕ → List Part → Bool
begins_stale b v c [] = false
begins_stale b v c (p ∷ ps) = not (is_live b v c p)

-- whether a part is left, and the first one left is not live
unfoldable pub is_stale : BoardValue → Values → ℕ → List Part → Bool
is_stale b v c ps = begins_stale b v c (drop (applied b v c ps) ps)
