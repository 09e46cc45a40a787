-- Worked examples: what a turn of a guest leaves in a place, and what is told of none.
use Rattle.std.specs.Prelude.{Err, Ok}
use Rattle.std.proofs.Common.{◌∙◌, ◌∷◌, ◌≡◌, List, None, Some, [], ap, arith, false, refl, ℕ}
use Rattle.psci_abi.specs.declared.registers.Regs.{Regs}
use Rattle.psci_fw.specs.Reactions.{seen}
use Rattle.psci_guest.specs.Arrivals.{RunsIn}
use Rattle.psci_guest.specs.Guest.{IsAfter}
use Rattle.psci_guest.specs.Turns.{Turn, turns}
use Rattle.psci_board.specs.Board.{BoardValue}
use Rattle.psci_board.specs.declared.fault.BoardFault.TheVariants.{Memory, TooWide}
use Rattle.psci_guest.specs.declared.turned.Turned.{Turned}
use Rattle.psci_ffi.specs.declared.guest_calls.GuestTurn.{GuestTurn}
use Rattle.psci_ffi.specs.Guests.{IsCallTold, IsCalled, IsMade, IsResetTold, IsWakeTold}
use Rattle.psci_ffi.specs.Guests.{Opens, called_shown}
use Rattle.psci_ffi.specs.Namings.{GuestValue, asked_in}
use Rattle.psci_ffi.specs.Shown.{asked_shown, no_frame, plain}

-- zeros, but for these two
abbrev only : ℕ → ℕ → GuestTurn
only what life = record {
  what = what;
  life = life;
  caller = plain 0 no_frame;
  start = record { core = 0; life = 0; number = 0; cause = 0 };
  entry = plain 0 no_frame;
  stop = record { depths = 0 ∷ 0 ∷ 0 ∷ 0 ∷ []; wakes = false };
}

-- Places ---------------------------------------------------------------------------------------

-- an empty place refuses, and stays empty
empty : (made : GuestValue → GuestValue → Type 0) → IsMade None 3 made (only 16 0) None
empty made = (refl, refl)

-- a fault of the text, want of memory, and a text with a fault for which a guest was opened
opens : (b : BoardValue) (before : GuestTurn)
    → Opens (Err TooWide) (Err TooWide) None None before before
    × Opens (Err Memory) (Ok b) None None before before
    × (Opens (Ok tt) (Err TooWide) None None before before → ⊥)
opens b before = ((refl, (refl, refl)), (refl, (refl, refl)), λ no. no)

-- What was done ---------------------------------------------------------------------------------

-- of a call behind the end of its life no turn is told, nor of a wake-up event of a core that runs
behind : (g g' : GuestValue) (c life : ℕ) (regs : Regs) (t : Turned) (b : BoardValue)
    (ts : List Turn) → IsAfter b ts g.power → (RunsIn b (turns b ts) life c → ⊥)
    → IsCalled g c life regs (Some t) g' → ⊥
behind g g' c life regs t b ts after stands is =
    let none = (is.behind b ts after stands).0 in absurd (cc)

-- a call that is refused came to nothing, and no wake-up, reset or opening is refused
refused_call : (g g' : GuestValue) (c life : ℕ) (regs : Regs) (t : Turned)
    (is : IsCallTold c life regs (only 19 0) g g') → is.result ≡ Some t → ⊥
refused_call g g' c life regs t is e =
    let shows : only 19 0 ≡ called_shown (Some t) regs.x0
    (asked_shown (asked_in g.machine (seen g.power.firmware).mode regs)) =
    is.shows ∙ ap (λ r. called_shown r regs.x0
    (asked_shown (asked_in g.machine (seen g.power.firmware).mode regs))) e in
    let no : 19 ≡ 0 = ap (λ (x : GuestTurn). x.what) shows in absurd (omega (arith, no))

no_refusal : (g g' : GuestValue) (c : ℕ) → (IsWakeTold c (only 19 0) g g' → ⊥)
    × (IsResetTold c (only 19 0) g g' → ⊥)
no_refusal g g' c = (
  λ is. let no : 19 ≡ 0 = ap (λ (x : GuestTurn). x.what) is.shows in absurd (omega (arith, no)),
  λ is. let no : 19 ≡ 0 = ap (λ (x : GuestTurn). x.what) is.shows in absurd (omega (arith, no)),
)
