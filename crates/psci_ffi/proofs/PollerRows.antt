-- Worked examples: one who polls a firmware, and what C gets of it.
use Rattle.std.proofs.Common.{◌∙◌, ◌∷◌, ◌≡◌, List, None, Option, Some, [], arith, inl, inr, negsuc}
use Rattle.std.proofs.Common.{pos, refl, sym, ℕ, ℤ}
use Rattle.atomic_table.specs.Seated.{TableId}
use Rattle.psci_abi.specs.declared.registers.Code.{Code}
use Rattle.psci_board.specs.Board.{BoardValue}
use Rattle.psci_fw.specs.Reactions.{FirmwareValue}
use Rattle.psci_fw_spec.specs.declared.status.Status.{Status}
use Rattle.psci_fw_spec.specs.declared.status.Status.TheVariants.{Off, On, Pending}
use Rattle.psci_status.specs.Lists.{Item, PolledView, row}
use Rattle.psci_status.proofs.CallSteps.{board, computing}
use Rattle.psci_platform.specs.Platforms.{PlatformValue}
use Rattle.psci_ffi.specs.Namings.{HasPolled, IsWatchOf, PlaceValue, WatchView}
use Rattle.psci_ffi.specs.Slots.{KeptWatch}
use Rattle.psci_ffi.specs.Readers.{HasPolledIn, IsFilledWith, IsOpenedFor, OpensPoller}
use Rattle.psci_ffi.proofs.ControlDone.{apart-by, itself, neither}
use Rattle.psci_ffi.proofs.MachineAxisRows.{last as last-boots}

-- Firmware, and who polls it ------------------------------------------------------------------

abbrev pub table : ℕ → TableId
table atom = record {
  words = 4;
  slots = 9;
  views_name = 1;
  atom = atom;
  block = 3;
  offset = 0;
  slot_names = [];
}

abbrev pub Rows : Type 0
Rows = List (List Status)

abbrev pub view : FirmwareValue → Rows → PolledView
view f rows = record { firmware = f; table = table 2; written = rows }

-- core 3 was asked on
abbrev pub asked-rows : Rows
asked-rows = (On ∷ Pending ∷ Off ∷ []) ∷ (Off ∷ []) ∷ (Off ∷ []) ∷ (Pending ∷ Off ∷ []) ∷ []

-- the same in a place that was opened without a machine
abbrev placed : FirmwareValue → Rows → PlaceValue
placed f rows = record { polled = view f rows; machine = None }

abbrev asked-seen : List (List Item)
asked-seen = ((2, On) ∷ []) ∷ ((0, Off) ∷ []) ∷ ((0, Off) ∷ []) ∷ ((1, Pending) ∷ []) ∷ []

abbrev watch : BoardValue → TableId → List (List Item) → WatchView
watch b t items = record { board = b; machine = None; table = t; seen = items }

watches : (f : FirmwareValue) → f.board ≡ board
    → IsWatchOf (placed f asked-rows) (watch board (table 2) asked-seen)
watches f is = record { board = sym is; machine = refl; table = refl; seen = refl }

abbrev many : Option PlatformValue → ℕ
many None = 0
many (Some m) = 1

-- the serial of the last item
abbrev last : List Item → ℕ
last [] = 99
last (i ∷ is) = i.0

-- of another board, with a machine, of other words, and one that has not seen the last of core 3,
-- or nothing
watches-not : (f : FirmwareValue) → f.board ≡ board
    → ¬ (IsWatchOf (placed f asked-rows)
    (record (watch board (table 2) asked-seen) { machine = Some last-boots }))
    × ¬ (IsWatchOf (placed f asked-rows) (watch (record board { starts = 8 }) (table 2) asked-seen))
    × ¬ (IsWatchOf (placed f asked-rows) (watch board (table 5) asked-seen))
    × ¬ (IsWatchOf (placed f asked-rows) (watch board (table 2)
    (((2, On) ∷ []) ∷ ((0, Off) ∷ []) ∷ ((0, Off) ∷ []) ∷ ((0, Off) ∷ []) ∷ [])))
    × ¬ (IsWatchOf (placed f asked-rows) (watch board (table 2) ([] ∷ [] ∷ [] ∷ [] ∷ [])))
watches-not f is = (
  λ w. apart-by many w.machine refl,
  λ w. apart-by (λ (b : BoardValue). b.starts) (w.board ∙ is) refl,
  λ w. apart-by (λ (t : TableId). t.atom) w.table refl,
  λ w. apart-by (λ (s : List (List Item)). last (row s 3)) w.seen refl,
  λ w. apart-by (λ (s : List (List Item)). last (row s 0)) w.seen refl,
)

-- A poll --------------------------------------------------------------------------------------

abbrev old : WatchView
old = watch board (table 2) asked-seen

-- core 3 is ON by now
abbrev on-seen : List (List Item)
on-seen = ((2, On) ∷ []) ∷ ((0, Off) ∷ []) ∷ ((0, Off) ∷ []) ∷ ((2, On) ∷ (1, Pending) ∷ []) ∷ []

abbrev new : WatchView
new = watch board (table 2) on-seen

abbrev code : ℤ → Code
code z = record { 0 = z }

core-3-is-on : HasPolled old 0x101 (code (pos 0)) new
unfolding computing
core-3-is-on = record {
  board = refl;
  machine = refl;
  table = refl;
  answer = (On, (2, refl, ((1, Pending) ∷ [], refl), (omega arith, (tt, tt))), refl);
}

-- the number of a status, or 9
abbrev number-in : Code → ℕ
number-in c = elim c.0 [ pos n ↦ n | negsuc n ↦ 9 ]

-- a poll changes neither the board nor its words nor whose words they are; no core is not off
polled-not : ¬ (HasPolled old 2 (code (negsuc 1)) (record old { machine = Some last-boots }))
    × ¬ (HasPolled old 2 (code (negsuc 1)) (watch (record board { starts = 8 }) (table 2)
    asked-seen))
    × ¬ (HasPolled old 2 (code (negsuc 1)) (watch board (table 5) asked-seen))
    × ¬ (HasPolled old 2 (code (pos 1)) old)
unfolding computing
polled-not = (
  λ p. apart-by many p.machine refl,
  λ p. apart-by (λ (b : BoardValue). b.starts) p.board refl,
  λ p. apart-by (λ (t : TableId). t.atom) p.table refl,
  λ p. apart-by number-in p.answer.0 refl,
)

-- What C gets ---------------------------------------------------------------------------------

abbrev empty : KeptWatch
empty = None

abbrev full : KeptWatch
full = Some old

abbrev is-full : KeptWatch → ℕ
is-full None = 0
is-full (Some w) = 1

fills : IsFilledWith old 0 empty full × IsFilledWith old 0 (Some new) full
    × IsFilledWith old 8 (Some new) (Some new)
fills = (inl (refl, refl), inl (refl, refl), inr (refl, refl))

-- one is put there without memory; none is; one is taken away without memory
fills-not : ¬ (IsFilledWith old 8 empty full) × ¬ (IsFilledWith old 0 empty empty)
    × ¬ (IsFilledWith old 8 full empty)
fills-not = (
  neither (λ h. apart-by itself h.0 refl) (λ h. apart-by is-full h.1 refl),
  neither (λ h. apart-by is-full h.1 refl) (λ h. apart-by itself h.0 refl),
  neither (λ h. apart-by itself h.0 refl) (λ h. apart-by is-full h.1 refl),
)

-- a poller of this firmware is opened, with one in it before and with none; or it is not
opens : (f : FirmwareValue) → f.board ≡ board
    → OpensPoller (Some (placed f asked-rows)) 0 empty full
    × OpensPoller (Some (placed f asked-rows)) 0 (Some new) full
    × OpensPoller (Some (placed f asked-rows)) 8 full full × OpensPoller None 16 full full
opens f is = (inl (refl, watches f is), inl (refl, watches f is), inr (refl, refl), (refl, refl))

-- one who polls other words; none; another number; one is put there without memory or firmware
opens-not : (f : FirmwareValue) → f.board ≡ board
    → ¬ (IsOpenedFor (placed f asked-rows) 0 empty (Some (watch board (table 5) asked-seen)))
    × ¬ (IsOpenedFor (placed f asked-rows) 0 empty empty)
    × ¬ (IsOpenedFor (placed f asked-rows) 16 empty full)
    × ¬ (IsOpenedFor (placed f asked-rows) 8 empty full)
    × ¬ (OpensPoller None 0 empty full) × ¬ (OpensPoller None 16 full empty)
opens-not f is = (
  neither (λ h. (watches-not f is).2 h.1) (λ h. apart-by itself h.0 refl),
  neither (λ h. h.1) (λ h. apart-by itself h.0 refl),
  neither (λ h. apart-by itself h.0 refl) (λ h. apart-by itself h.0 refl),
  neither (λ h. apart-by itself h.0 refl) (λ h. apart-by is-full h.1 refl),
  λ h. apart-by itself h.0 refl,
  λ h. apart-by is-full h.1 refl,
)

abbrev absolute : ℤ → ℕ
absolute z = elim z [ pos n ↦ n | negsuc n ↦ 100 ]

-- an empty poller says that the core is off, or is filled; and a poller is emptied
polls-not : ¬ (HasPolledIn None 0x101 (pos 1) None) × ¬ (HasPolledIn None 0x101 (pos 16) full)
    × ¬ (HasPolledIn (Some old) 2 (negsuc 1) None)
polls-not = (λ h. apart-by absolute h.0 refl, λ h. apart-by is-full h.1 refl, λ h. h)
