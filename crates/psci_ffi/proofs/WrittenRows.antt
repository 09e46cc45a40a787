-- Worked examples: a firmware that is polled: what is no new one, and what no acknowledgement
-- changes of its values and writes of its statuses.
use Rattle.std.proofs.Common.{◌<◌, ◌∙◌, ◌∷◌, ◌≡◌, List, [], ap, arith, false, length, refl, subst}
use Rattle.std.proofs.Common.{sym, ℕ}
use Rattle.atomic_table.specs.Seated.{TableId}
use Rattle.psci_board.specs.Board.{BoardValue, cores}
use Rattle.psci_fw.specs.Reactions.{FirmwareValue, seen}
use Rattle.psci_fw_spec.specs.declared.call.FwCall.TheVariants as calls
use Rattle.psci_fw_spec.specs.declared.reply.FwReply.TheVariants as replies
use Rattle.psci_fw_spec.specs.declared.status.Status.TheVariants.{Off, On, Pending}
use Rattle.psci_fw_spec.specs.Effects.{after}
use Rattle.psci_fw_spec.specs.PowerCalls.{status_code}
use Rattle.psci_fw_spec.specs.History.{values_of}
use Rattle.psci_fw_spec.specs.Values.{Values, taken_by}
use Rattle.psci_messages.specs.declared.kind.Kind.TheVariants as kinds
use Rattle.psci_messages.specs.declared.start.Cause.TheVariants as causes
use Rattle.psci_messages.specs.Message.{AckValue}
use Rattle.psci_status.specs.Lists.{IsWrittenFrom, row, written_then}
use Rattle.psci_status.proofs.CallSteps.{Step, board, boots, computing, enters, history, off, on}
use Rattle.psci_ffi.specs.Codes.{taken_code}
use Rattle.psci_ffi.specs.Frames.{IsTaken}
use Rattle.psci_ffi.specs.Shown.{IsNew}
use Rattle.psci_ffi.proofs.PollerRows.{Rows, asked-rows, table, view}
use Rattle.psci_ffi.proofs.ControlDone.{apart-by, itself}

-- A new firmware ------------------------------------------------------------------------------

abbrev first-rows : Rows
first-rows = (Off ∷ []) ∷ (Off ∷ []) ∷ (Off ∷ []) ∷ (Off ∷ []) ∷ []

-- of another board, in life 1, of which core 3 was asked on, and that has no core 3
new-not : (f : FirmwareValue) → (f.board.starts ≡ 8 → ¬ (IsNew board (view f first-rows)))
    × ((seen f).life ≡ 1 → ¬ (IsNew board (view f first-rows)))
    × ¬ (IsNew board (view f asked-rows))
    × ¬ (IsNew board (view f ((Off ∷ []) ∷ (Off ∷ []) ∷ (Off ∷ []) ∷ [])))
new-not f = (
  λ eight n. apart-by itself (sym eight ∙ ap (λ (b : BoardValue). b.starts) n.board) refl,
  λ one n. apart-by itself (sym one ∙ ap (λ (v : Values). v.life) n.values) refl,
  λ n. apart-by (λ (rows : Rows). length (row rows 3)) n.written refl,
  λ n. apart-by length n.written refl,
)

-- An acknowledgement --------------------------------------------------------------------------

abbrev values : List Step → Values
values steps = values_of board (history steps)

abbrev Same : Values → Values → Rows → Rows → ℕ → Type 0
Same v v' rows rows' core =
    row rows' core ≡ written_then v.life v' core (row rows core)

-- what was written of core 3 is so
wrote-of-3 : (v v' : Values) (rows rows' : Rows) (f g : FirmwareValue) → f.board ≡ board
    → seen f ≡ v → seen g ≡ v' → IsWrittenFrom (view f rows) (view g rows')
    → Same v v' rows rows' 3
wrote-of-3 v v' rows rows' f g is was now w =
    w 3 (subst (λ (b : BoardValue). 3 < cores b) (sym is) (omega arith))
    ∙ ap (λ (u : Values). written_then u.life (seen g) 3 (row rows 3)) was
    ∙ ap (λ (u : Values). written_then v.life u 3 (row rows 3)) now

other-board : (b c : BoardValue) → b.starts ≡ 9 → c.starts ≡ 8 → c ≡ b → ⊥
other-board b c nine eight same =
    apart-by itself (sym eight ∙ (ap (λ (x : BoardValue). x.starts) same ∙ nine)) refl

-- what core 3 is then by the definition
abbrev status-3 : Values → ℕ
status-3 v = status_code (v.status 3)

-- core 3 goes off in life 1
abbrev going : Values
going = values (boots 1 ∷ on 0 0x101 ∷ enters causes.On 3 1 1 ∷ off 3 ∷ [])

abbrev going-rows : Rows
going-rows = (On ∷ Pending ∷ Off ∷ []) ∷ (Off ∷ []) ∷ (Off ∷ []) ∷ (On ∷ Pending ∷ Off ∷ []) ∷ []

abbrev gone-rows : Rows
gone-rows =
    (On ∷ Pending ∷ Off ∷ []) ∷ (Off ∷ []) ∷ (Off ∷ []) ∷ (Off ∷ On ∷ Pending ∷ Off ∷ []) ∷ []

-- its Down of a life is acknowledged
abbrev down : ℕ → AckValue
down life = record {
  kind = kinds.Down;
  core = record { number = 3 };
  life = life;
  number = 1;
  applied = 1;
  stale = false;
}

abbrev taken : ℕ → Values → Values
taken life v =
    after board 0 (calls.Take (down life)) (replies.Taken (taken_by v (down life))) v

taken-not : (f g : FirmwareValue)
    -- it is used, and said to be old
    → (seen f ≡ going → ¬ (IsTaken (down 1) 1 (view f going-rows) (view g gone-rows)))
    -- and still on
    × (f.board ≡ board → seen f ≡ going → status-3 (seen g) ≡ 0
    → ¬ (IsTaken (down 1) 0 (view f going-rows) (view g gone-rows)))
    -- on another board, over other words, and not written
    × (f.board.starts ≡ 9 → g.board.starts ≡ 8
    → ¬ (IsTaken (down 1) 0 (view f going-rows) (view g gone-rows)))
    × ¬ (IsTaken (down 1) 0 (view f going-rows)
    (record { firmware = g; table = table 5; written = gone-rows }))
    × (f.board ≡ board → seen f ≡ going → seen g ≡ taken 1 going
    → ¬ (IsTaken (down 1) 0 (view f going-rows) (view g going-rows)))
unfolding computing
taken-not f g = (
  λ was t. apart-by itself
      (t.answer ∙ ap (λ (v : Values). taken_code (taken_by v (down 1))) was) refl,
  λ is was on t. apart-by itself (sym on ∙ (ap status-3 t.after
      ∙ (ap (λ (b : BoardValue). status-3
      (after b 0 (calls.Take (down 1)) (replies.Taken (taken_by (seen f) (down 1))) (seen f))) is
      ∙ ap (λ (v : Values). status-3 (taken 1 v)) was))) refl,
  λ nine eight t. other-board f.board g.board nine eight t.board,
  λ t. apart-by (λ (z : TableId). z.atom) t.table refl,
  λ is was now t. apart-by length
      (wrote-of-3 going (taken 1 going) going-rows going-rows f g is was now t.written) refl,
)
