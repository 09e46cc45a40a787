-- Worked examples: which messages are answered as the world settles, pasts that it does not settle
-- by or come to rest by, and pasts that are on the way to others, or not.
use Rattle.std.proofs.lemmas.List.Sums.{AllPass-from_list_all, list_all-from_AllPass}
use Rattle.std.proofs.Common.{◌&&◌, ◌++◌, ◌+◌, ◌∙◌, ◌∷◌, ◌≡◌, ◌≤◌, [], ap, arith, false, length}
use Rattle.std.proofs.Common.{length-append, List, map, refl, true, ℕ}
use Rattle.std.specs.List.{list_all}
use Rattle.psci_machine.proofs.Tables.{◌⇒◌, Gives}
use Rattle.psci_machine.specs.psci_world_spec.psci_messages.declared.kind.Kind.TheVariants as kinds
use Rattle.psci_headline.specs.Settling.{is_settling}
use Rattle.psci_world.specs.declared.settling.Which.TheVariants.{All, Starts}
use Rattle.psci_world.specs.declared.settling.Settled.{Settled}
use Rattle.psci_world.specs.declared.settling.Settled.TheVariants.{Halting, Quiet}
use Rattle.psci_world.specs.Settles.{ComesToRest, IsOnTheWay, SettlesBy, serves_kind}
use Rattle.psci_machine.proofs.world_spec.Scripts.{board}
use Rattle.psci_machine.specs.psci_world_spec.declared.event.Event.{Event}
use Rattle.psci_machine.specs.psci_world_spec.declared.event.Event.TheVariants.{Enter, Take}
use Rattle.psci_machine.specs.psci_world_spec.declared.event.Event.TheVariants.{Wake}
use Rattle.psci_machine.specs.psci_world_spec.declared.said.Record.{Record}
use Rattle.psci_machine.specs.psci_world_spec.declared.said.Said.{Said}
use Rattle.psci_machine.specs.psci_world_spec.Legal.{legal_record, run_from}
use Rattle.psci_machine.specs.psci_board.Board.{BoardValue}

-- Which messages ---------------------------------------------------------------------------------

-- at first Starts, and in rounds Downs too
served_kinds : Gives (λ which. map (serves_kind which) (kinds.Start ∷ kinds.Down ∷ []))
    (Starts ⇒ (true ∷ false ∷ []) ∷ All ⇒ (true ∷ true ∷ []) ∷ [])
served_kinds = refl

-- By which events -------------------------------------------------------------------------------

-- the boot core enters, and then an acknowledgement is taken that does not exist
settles_by_two : SettlesBy board [] (run_from board [] (Enter 0 ∷ Take 4 ∷ []))
settles_by_two = record {
  events = Enter 0 ∷ Take 4 ∷ [];
  run = refl;
  settling = AllPass-from_list_all is_settling (Enter 0 ∷ Take 4 ∷ []) refl;
}

-- events take no record away
no_fewer : (b : BoardValue) (past : List Record) (events : List Event)
    → length past ≤ length (run_from b past events)
unfolding run_from
no_fewer b past [] = omega arith
no_fewer b past (event ∷ events) =
    let more = no_fewer b (legal_record b past event ∷ past) events in omega (arith, more)

settles_by_forgetting : (b : BoardValue) (r : Record) → SettlesBy b (r ∷ []) [] → ⊥
settles_by_forgetting b r is =
    let none : 0 ≡ length (run_from b (r ∷ []) is.events) = ap length is.run in
    let some = no_fewer b (r ∷ []) is.events in omega (arith, none, some)

-- the event of the newest record
abbrev newest_event : List Record → Event
newest_event [] = Enter 0
newest_event (r ∷ past) = r.event

-- the one record of a wake-up is not that of an entry, a delivery or a take
of_a_wake_up : (said : Said) (events : List Event)
    → record { event = Wake 1; said = said } ∷ [] ≡ run_from board [] events
    → list_all is_settling events ≡ true → ⊥
unfolding run_from
of_a_wake_up said [] run all =
    let no : 1 ≡ 0 = ap (length {A = Record}) run in omega (arith, no)
of_a_wake_up said (event ∷ []) run all =
    let same : Wake 1 ≡ event = ap newest_event run in
    let no : false ≡ true = ap (λ e. list_all is_settling (e ∷ [])) same ∙ all in absurd (cc)
of_a_wake_up said (event ∷ other ∷ events) run all =
    let first = legal_record board [] event ∷ [] in
    let both = legal_record board first other ∷ first in
    let one : 1 ≡ length (run_from board both events) = ap length run in
    let two = no_fewer board both events in omega (arith, one, two)

settles_by_a_wake_up : (said : Said)
    → SettlesBy board [] (record { event = Wake 1; said = said } ∷ []) → ⊥
settles_by_a_wake_up said is =
    of_a_wake_up said is.events is.run (list_all-from_AllPass _ is.events is.settling)

-- What settling comes to -------------------------------------------------------------------------

-- it says that it halts
halts_and_comes_to_rest : (b : BoardValue) (before after : List Record)
    → ComesToRest b before after Halting → ⊥
halts_and_comes_to_rest b before after is = no is.rounds is.quiet
  where
    no : (rounds : ℕ) → Halting ≡ Quiet rounds → ⊥
    no rounds e = cc

-- a record is forgotten
forgets_a_record : (b : BoardValue) (r : Record) (rounds : ℕ)
    → ComesToRest b (r ∷ []) [] (Quiet rounds) → ⊥
forgets_a_record b r rounds is =
    let no : 0 ≡ length is.added + 1 =
    ap length is.more ∙ length-append is.added (r ∷ []) in
    absurd (omega (arith, no))

-- it says another number of rounds than it settled in
says_more_rounds : (b : BoardValue) (before after : List Record)
    (is : ComesToRest b before after (Quiet 3))
    → is.rounds ≡ 2 → ⊥
says_more_rounds b before after is two = no is.rounds is.quiet two
  where
    no : (rounds : ℕ) → Quiet 3 ≡ Quiet rounds → rounds ≡ 2 → ⊥
    no rounds e two = cc

-- how many rounds are told
abbrev rounds_in : Settled → ℕ
rounds_in Halting = 0
rounds_in (Quiet rounds) = rounds

-- on a board of height 2 there are three rounds at most
rests_in_four_rounds : (before after : List Record) → ComesToRest board before after (Quiet 4) → ⊥
rests_in_four_rounds before after is =
    let told : 4 ≡ is.rounds = ap rounds_in is.quiet in
    let few : is.rounds ≤ 3 = is.settled.few in omega (arith, told, few)

-- the one record of a wake-up is not all that is added
adds_a_wake_up : (said : Said) (added : List Record)
    → record { event = Wake 1; said = said } ∷ [] ≡ added ++ []
    → list_all (λ r. is_settling r.event) added ≡ true → ⊥
adds_a_wake_up said [] more all =
    let no : 1 ≡ 0 = ap (length {A = Record}) more in omega (arith, no)
adds_a_wake_up said (r ∷ added) more all =
    let same : Wake 1 ≡ r.event = ap newest_event more in
    let no : false ≡ true =
    ap (λ e. is_settling e && list_all (λ r. is_settling r.event) added) same
    ∙ all in absurd (cc)

rests_by_a_wake_up : (said : Said) (s : Settled)
    → ComesToRest board [] (record { event = Wake 1; said = said } ∷ []) s → ⊥
rests_by_a_wake_up said s is =
    adds_a_wake_up said is.added is.more (list_all-from_AllPass _ is.added is.settled.events)

-- On the way -------------------------------------------------------------------------------------

-- before any record, after the first of three, and after the last
on_the_way : (r s t : Record) → let whole = t ∷ s ∷ r ∷ [] in
    IsOnTheWay [] whole × IsOnTheWay (r ∷ []) whole × IsOnTheWay whole whole
on_the_way r s t = ((t ∷ s ∷ r ∷ [], refl), (t ∷ s ∷ [], refl), ([], refl))

-- a record more than there shall be
beyond : (r s : Record) → IsOnTheWay (s ∷ r ∷ []) (r ∷ []) → ⊥
beyond r s way =
    let lengths : 1 ≡ length way.0 + 2 = ap length way.1 ∙ length-append way.0 (s ∷ r ∷ []) in
    omega (arith, lengths)
