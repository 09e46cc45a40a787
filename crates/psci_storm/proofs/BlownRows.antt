-- Worked examples of a world that settles after a storm, on a board of one core.
use Rattle.std.proofs.Common.{◌++◌, ◌<◌, ◌∙◌, ◌∷◌, ◌≡◌, ◌≤◌, [], ap, arith, false, length}
use Rattle.std.proofs.Common.{length-append, List, refl, rules, subst, suc, sym, true, zero, ℕ}
use Rattle.std.proofs.lemmas.List.Sums.{AllPass-from_list_all}
use Rattle.std.specs.Prelude.{Bool, ◌==◌, drop, if◌then◌else◌, take}
use Rattle.psci_world.specs.psci_board.Board.{size_below}
use Rattle.psci_storm.specs.Storm.{IsBlown}
use Rattle.psci_world.specs.declared.settling.Settled.{Settled}
use Rattle.psci_world.specs.declared.settling.Settled.TheVariants.{Halting, Quiet}
use Rattle.psci_world.specs.Settles.{ComesToRest}
use Rattle.psci_world.specs.Settling.{is_halting, settled}
use Rattle.psci_world.specs.psci_world_spec.declared.event.Event.{Event}
use Rattle.psci_world.specs.psci_world_spec.declared.event.Event.TheVariants.{Deliver, Enter}
use Rattle.psci_world.specs.psci_world_spec.declared.event.Event.TheVariants.{Take}
use Rattle.psci_world.specs.psci_world_spec.declared.said.Record.{Record}
use Rattle.psci_world.specs.psci_world_spec.Legal.{controller_values, firmware_values}
use Rattle.psci_world.specs.psci_world_spec.Legal.{IsLegalPast, place, run_from}
use Rattle.psci_world.proofs.world_spec.Scripts.{one_core, stays_legal, system_off}
use Rattle.psci_storm.proofs.DrawnRows.{after, asleep, computing, drawn_length, going_off}
use Rattle.psci_storm.proofs.DrawnRows.{none_drawn, suspend, two_drawn, wrong}

-- A world at rest ---------------------------------------------------------------------------------

-- a fact about core 0 is one about each core, and facts about the core's domain and the cluster are
-- one about each domain
at_core : (P : ℕ → Type 0) → P 0 → (c : ℕ) → c < 1 → P c
at_core P first zero low = first
at_core P first (suc c) low = absurd (omega arith)

at_place : (P : ℕ → ℕ → Type 0) → P 0 0 → P 1 0 → (level place : ℕ) → level ≤ 1
    → place < size_below (drop level one_core.levels) → P level place
at_place P core cluster zero zero high inside = core
at_place P core cluster (suc zero) zero high inside = cluster
at_place P core cluster zero (suc place) high inside = absurd (omega arith)
at_place P core cluster (suc zero) (suc place) high inside = absurd (omega arith)
at_place P core cluster (suc (suc level)) place high inside = absurd (omega arith)

-- the core sleeps, once its Down was answered
abbrev pub rested : List Event
rested = Enter 0 ∷ suspend ∷ Deliver 0 ∷ Take 0 ∷ []

-- what is delivered is message 0, once
at_most_one : (b : Bool) (r : Record) → length (if b then r ∷ [] else []) ≤ 1
at_most_one true r = omega arith
at_most_one false r = omega arith

sleeping_world_rests : ComesToRest one_core (after asleep) (after rested) (Quiet 1)
unfolding computing
sleeping_world_rests = record {
  rounds = 1;
  added = take 2 (after rested);
  quiet = refl;
  more = refl;
  settled = record {
    legal = stays_legal one_core [] rested tt;
    events = search (rules, AllPass-from_list_all);
    rest = record {
      own = at_core _ refl;
      system = refl;
      entered = at_core _ (λ e. cc);
      agree = λ n has. at_place (λ level place.
          (firmware_values one_core (after rested)).granted level place
          ≡ (controller_values one_core (after rested)).depth level place)
          refl refl n.level n.place has.level has.place;
    };
    few = omega arith;
    most = λ k m at kind. at_most_one (k == 0) _;
    some = λ low. record { number = 0; message = _; at = refl; kind = refl; times = refl };
  };
}

-- Storms that settle ------------------------------------------------------------------------------

-- so many events were drawn in a new world, which settled so after these events in all
abbrev Blows : ℕ → List Event → Settled → Type 0
Blows count events s = IsBlown one_core [] count (after events) s

pub sleeps : Blows 2 rested (Quiet 1)
unfolding computing
sleeps = record {
  middle = after asleep;
  drawn = two_drawn;
  halting = λ e. let never : false ≡ true = e in absurd cc;
  quiet = λ e. (refl, refl);
  rest = λ e. sleeping_world_rests;
}

pub halts : Blows 2 going_off Halting
unfolding computing
halts = record {
  middle = after going_off;
  drawn = record { drawn = going_off; many = refl; run = refl };
  halting = λ e. (refl, refl);
  quiet = λ e. let never : true ≡ false = e in absurd cc;
  rest = λ e. let never : true ≡ false = e in absurd cc;
}

-- Storms that were not so -------------------------------------------------------------------------

-- where no event was drawn, the boot core entered
of_none : (after : List Record) (s : Settled) → IsBlown one_core [] 0 after s
    → (s ≡ Quiet 0) × (after ≡ run_from one_core [] (Enter 0 ∷ []))
unfolding computing
of_none after s h = subst (λ (m : List Record). is_halting one_core m ≡ false
    → (s ≡ Quiet (settled one_core m).rounds) × (after ≡ (settled one_core m).past))
    (none_drawn [] h.middle h.drawn) h.quiet refl

-- the world has not settled
not_settled : Blows 0 [] (Quiet 0) → ⊥
unfolding run_from
not_settled h = let after = (of_none [] (Quiet 0) h).1 in cc

either : {A : Type 0} (b : Bool) → (b ≡ true → A) → (b ≡ false → A) → A
either true holds fails = holds refl
either false holds fails = fails refl

-- of records that come first there are none where there are no more records than the others
none_first : (added middle past : List Record) → past ≡ added ++ middle
    → length past ≡ length middle → past ≡ middle
none_first [] middle past e same = e
none_first (r ∷ added) middle past e same =
    let many = ap length e ∙ length-append (r ∷ added) middle in absurd (omega arith)

two_records : length (after going_off) ≡ 2
unfolding run_from
two_records = refl

went_off : is_halting one_core (after going_off) ≡ true
unfolding computing
went_off = refl

-- a world that halts is said to come to rest
halt_said_to_rest : (rounds : ℕ) → Blows 2 going_off (Quiet rounds) → ⊥
halt_said_to_rest rounds h =
    either (is_halting one_core h.middle)
    (λ e. let s : Quiet rounds ≡ Halting = (h.halting e).0 in cc)
    (λ e. let rest = h.rest e in
    let many = drawn_length [] h.middle 2 h.drawn in
    let same = none_first rest.added h.middle (after going_off) rest.more
    (two_records ∙ sym many) in
    let never : true ≡ false =
    sym went_off ∙ ap (λ (p : List Record). is_halting one_core p) same ∙ e in cc)

-- a world that halts is not as it was
halt_moves_on : Blows 2 (Enter 0 ∷ system_off 0 ∷ Deliver 0 ∷ []) Halting → ⊥
unfolding run_from
halt_moves_on h =
    either (is_halting one_core h.middle)
    (λ e. let many = ap length (h.halting e).1 ∙ drawn_length [] h.middle 2 h.drawn in
    absurd (omega arith))
    (λ e. let s : Halting ≡ Quiet (settled one_core h.middle).rounds = (h.quiet e).0 in cc)

pub wrong_is_not_legal : IsLegalPast one_core (wrong ∷ []) → ⊥
unfolding computing
wrong_is_not_legal legal = let said = legal.0 in cc
