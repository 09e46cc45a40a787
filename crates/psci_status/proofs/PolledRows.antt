-- Worked examples: a past of values and of what was written, what the type of a polled firmware
-- keeps, and what a call has written.
use Rattle.std.proofs.Common.{◌<◌, ◌∷◌, ◌≡◌, [], ap, arith, List, None}
use Rattle.std.proofs.Common.{pos, refl, subst, sym, ℕ}
use Rattle.psci_messages.specs.declared.start.Cause.TheVariants as causes
use Rattle.psci_fw_spec.specs.declared.call.FwCall.TheVariants.{Smc}
use Rattle.psci_fw_spec.specs.declared.outcome.Act.TheVariants as acts
use Rattle.psci_fw_spec.specs.declared.reply.FwReply.TheVariants.{Out}
use Rattle.psci_fw_spec.specs.declared.status.Status.{Status}
use Rattle.psci_fw_spec.specs.declared.status.Status.TheVariants.{Off, On, Pending}
use Rattle.psci_fw_spec.specs.Effects.{FwExchange}
use Rattle.psci_fw_spec.specs.History.{values_of}
use Rattle.psci_fw_spec.specs.Values.{Values}
use Rattle.psci_status.specs.Lists.{IsNext, IsPast, IsPolled, IsWrittenFrom, PolledView}
use Rattle.psci_status.proofs.CallSteps.{Step, board, boots, computing, enters, history, on}
use Rattle.atomic_table.specs.Seated.{TableId}
use Rattle.psci_board.specs.Board.{BoardValue, IsBoard, cores}
use Rattle.psci_fw.specs.Reactions.{FirmwareValue, seen}
use Rattle.psci_fw_spec.specs.declared.call.FwCall.{FwCall}

-- The values after some calls, and what was written of each core ---------------------------------

abbrev pub values : List Step → Values
values steps = values_of board (history steps)

abbrev pub Rows : Type 0
Rows = List (List Status)

-- before any call
abbrev pub none : List Step
none = []

abbrev pub first_rows : Rows
first_rows = (Off ∷ []) ∷ (Off ∷ []) ∷ (Off ∷ []) ∷ (Off ∷ []) ∷ []

-- the boot core has entered; it asks core 3 on; core 3 enters
abbrev pub booted : List Step
booted = boots 1 ∷ []

abbrev pub booted_rows : Rows
booted_rows = (On ∷ Pending ∷ Off ∷ []) ∷ (Off ∷ []) ∷ (Off ∷ []) ∷ (Off ∷ []) ∷ []

abbrev pub asked : List Step
asked = boots 1 ∷ on 0 0x101 ∷ []

abbrev pub asked_rows : Rows
asked_rows = (On ∷ Pending ∷ Off ∷ []) ∷ (Off ∷ []) ∷ (Off ∷ []) ∷ (Pending ∷ Off ∷ []) ∷ []

abbrev pub both : List Step
both = boots 1 ∷ on 0 0x101 ∷ enters causes.On 3 1 1 ∷ []

abbrev pub both_rows : Rows
both_rows = (On ∷ Pending ∷ Off ∷ []) ∷ (Off ∷ []) ∷ (Off ∷ []) ∷ (On ∷ Pending ∷ Off ∷ []) ∷ []

-- core 2 begins life 2 by a park
abbrev pub anew : List Step
anew = boots 1 ∷ on 0 0x101 ∷ enters causes.On 3 1 1 ∷ enters causes.Wake 2 2 1 ∷ []

abbrev pub anew_rows : Rows
anew_rows = (Pending ∷ On ∷ Pending ∷ Off ∷ []) ∷ (Off ∷ []) ∷ (Off ∷ [])
    ∷ (Off ∷ On ∷ Pending ∷ Off ∷ []) ∷ []

-- A past -----------------------------------------------------------------------------------------

-- what holds of each of the four cores
pub of_four : (P : ℕ → Type 0) → P 0 → P 1 → P 2 → P 3 → (core : ℕ) → core < 4 → P core
of_four = search arith

abbrev pub past_of_both : IsPast board (values both) both_rows
unfolding computing
past_of_both = record {
  history = history both;
  legal = (refl, (refl, (refl, tt)));
  values = refl;
  written = of_four _ refl refl refl refl;
}

past_in_life_2 : IsPast board (values anew) anew_rows
unfolding computing
past_in_life_2 = search arith

-- an outcome before any core has entered, where a refusal is legal
abbrev early : FwExchange
early = record {
  core = 0;
  call = Smc (record { x0 = 0x84000000; x1 = 0; x2 = 0; x3 = 0 });
  reply = Out (record { act = acts.Return (record { 0 = pos 0x10001 }); message = None });
}

illegal_past : (v : Values) (rows : Rows) (p : IsPast board v rows) → p.history ≡ early ∷ [] → ⊥
unfolding computing
illegal_past = search arith

-- the values are of another life, of another status of core 3
other_life : (v : Values) (rows : Rows) (p : IsPast board v rows) → p.history ≡ history booted
    → v.life ≡ 2 → ⊥
unfolding computing
other_life = search arith

other_status : (v : Values) (rows : Rows) (p : IsPast board v rows) → p.history ≡ history both
    → v.status 3 ≡ Off → ⊥
unfolding computing
other_status = search arith

-- nothing is written of core 3
core_3_is_not_written : (v : Values)
    → (p : IsPast board v ((On ∷ Pending ∷ Off ∷ []) ∷ (Off ∷ []) ∷ (Off ∷ []) ∷ []))
    → p.history ≡ history booted → ⊥
unfolding computing
core_3_is_not_written = search arith

-- What the type keeps ----------------------------------------------------------------------------

abbrev table : ℕ → TableId
table words = record {
  words = words;
  slots = 9;
  views_name = 1;
  atom = 2;
  block = 3;
  offset = 0;
  slot_names = [];
}

polled : (f : FirmwareValue) → IsBoard f.board → f.board ≡ board → seen f ≡ values both
    → IsPolled f (table 4) both_rows 4
polled f good is was = record {
  board = good;
  past = subst (λ (b : BoardValue). IsPast b (seen f) both_rows) (sym is)
      (subst (λ (v : Values). IsPast board v both_rows) (sym was) past_of_both);
  words = sym (ap cores is);
  count = sym (ap cores is);
}

bad_board : (f : FirmwareValue) → f.board.starts ≡ 0 → IsPolled f (table 4) both_rows 4 → ⊥
bad_board = search arith

a_word_is_missing : (f : FirmwareValue) → f.board ≡ board → IsPolled f (table 3) both_rows 4 → ⊥
a_word_is_missing = search arith

a_core_is_not_counted : (f : FirmwareValue) → f.board ≡ board → IsPolled f (table 4) both_rows 3 → ⊥
a_core_is_not_counted = search arith

-- What a call has written ------------------------------------------------------------------------

abbrev view : FirmwareValue → Rows → PolledView
view f rows = record { firmware = f; table = table 4; written = rows }

-- between these calls and these, it was written so
record Wrote (steps steps' : List Step) (rows rows' : Rows) : Type 0 where
  so : (f f' : FirmwareValue) → f.board ≡ board → seen f ≡ values steps → seen f' ≡ values steps'
      → IsWrittenFrom (view f rows) (view f' rows')

-- what it was not: by how many statuses of a core there are
record NotWrote (steps steps' : List Step) (rows rows' : Rows) : Type 0 where
  no : (f f' : FirmwareValue) → f.board ≡ board → seen f ≡ values steps → seen f' ≡ values steps'
      → IsWrittenFrom (view f rows) (view f' rows') → ⊥

-- the first life begins; core 3 is asked on, and enters; life 2 begins; before any life nothing is
-- written; nothing changes in a life
is_written : Wrote none booted first_rows booted_rows × Wrote booted asked booted_rows asked_rows
    × Wrote asked both asked_rows both_rows × Wrote both anew both_rows anew_rows
    × Wrote none none first_rows first_rows × Wrote both both both_rows both_rows
unfolding computing
is_written = search arith

-- the target is forgotten; so is the status at a life's start; so is the new life of core 3, which
-- was ON
target_is_forgotten : NotWrote booted asked booted_rows booted_rows
unfolding computing
target_is_forgotten = search arith

start_is_forgotten : NotWrote none booted first_rows
    ((On ∷ Off ∷ []) ∷ (Off ∷ []) ∷ (Off ∷ []) ∷ (Off ∷ []) ∷ [])
unfolding computing
start_is_forgotten = search arith

new_life_is_forgotten : NotWrote both anew both_rows
    ((Pending ∷ On ∷ Pending ∷ Off ∷ []) ∷ (Off ∷ []) ∷ (Off ∷ []) ∷ (On ∷ Pending ∷ Off ∷ []) ∷ [])
unfolding computing
new_life_is_forgotten = search arith

other_core_is_written : NotWrote booted asked booted_rows
    ((On ∷ Pending ∷ Off ∷ []) ∷ (Pending ∷ Off ∷ []) ∷ (Off ∷ []) ∷ (Pending ∷ Off ∷ []) ∷ [])
unfolding computing
other_core_is_written = search arith

-- What a call leaves -----------------------------------------------------------------------------

-- what the call has changed is not written; another board; another table
next_is_not_written : (f f' : FirmwareValue) (c : ℕ) (call : FwCall) → f.board ≡ board
    → seen f ≡ values booted → seen f' ≡ values asked
    → IsNext (view f booted_rows) c call (view f' booted_rows) → ⊥
next_is_not_written f f' c call is was now h = target_is_forgotten.no f f' is was now h.written

next_on_another_board : (f f' : FirmwareValue) (c : ℕ) (call : FwCall) → f.board.starts ≡ 9
    → f'.board.starts ≡ 8 → IsNext (view f booted_rows) c call (view f' booted_rows) → ⊥
next_on_another_board = search arith

next_over_other_words : (f f' : FirmwareValue) (c : ℕ) (call : FwCall)
    → IsNext (view f booted_rows) c call
    (record { firmware = f'; table = table 5; written = booted_rows }) → ⊥
next_over_other_words = search arith
