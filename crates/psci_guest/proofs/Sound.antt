-- What the firmware sends is for a core of its board, whatever it keeps: a message names its sender
-- or the target of a CPU_ON, and has parts of levels on its sender's path.
use Rattle.std.specs.Prelude.{Err, if◌then◌else◌, nat_lt, not, Result}
use Rattle.std.proofs.Common.{◌+◌, ◌<◌, ◌∙◌, ◌≡◌, ◌≤◌, [], ap, arith, drop}
use Rattle.std.proofs.Common.{length, List, None, Ok, Option, refl, Some, subst, sym, take, ℕ}
use Rattle.std.proofs.Math.Seq.{drop-append_seam, take-append_seam}
use Rattle.std.proofs.lemmas.Bool.Decides.{nat_tests}
use Rattle.std.proofs.lemmas.Option.{none-some}
use Rattle.psci_board.specs.Board.{BoardValue, core_of, cores, height, WordLaws}
use Rattle.psci_board.specs.declared.draft.Core.{Core}
use Rattle.psci_messages.specs.Claim.{ClaimLaws, LastCoreLaws, least_wish, off_wish, own_wish}
use Rattle.psci_messages.specs.Claim.{platform_claims}
use Rattle.psci_messages.specs.Message.{MessageValue}
use Rattle.psci_messages.specs.View.{PowerView}
use Rattle.psci_messages.specs.declared.kind.Kind.{Kind}
use Rattle.psci_messages.specs.declared.kind.Kind.TheVariants as kinds
use Rattle.psci_messages.specs.declared.part.Part.{Part}
use Rattle.psci_messages.specs.declared.start.Start.{Start}
use Rattle.psci_messages.specs.psci_state.PowerState.{deepest_of}
use Rattle.psci_ctl_spec.specs.History.{IsOfBoard}
use Rattle.psci_fw_spec.specs.Answer.{answer, call_fault, enter_fault, enter_outcome}
use Rattle.psci_fw_spec.specs.Answer.{function_outcome, outcome_of, reply_or}
use Rattle.psci_fw_spec.specs.Changes.{with_arrival, with_phase}
use Rattle.psci_fw_spec.specs.PowerCalls.{ask_named, cpu_off, leaving_claims, message_for}
use Rattle.psci_fw_spec.specs.PowerCalls.{off_message, off_parts, returns, start_outcome, stops}
use Rattle.psci_fw_spec.specs.PowerCalls.{stops_with, suspend_claims, suspend_parts}
use Rattle.psci_fw_spec.specs.PowerCalls.{system_message, target_of}
use Rattle.psci_fw_spec.specs.Phases.{Suspended}
use Rattle.psci_fw_spec.specs.Values.{Values}
use Rattle.psci_fw_spec.specs.Invariant.{view}
use Rattle.psci_fw_spec.specs.declared.call.FwCall.{FwCall}
use Rattle.psci_fw_spec.specs.declared.call.FwCall.TheVariants as calls
use Rattle.psci_fw_spec.specs.declared.fault.FwFault.{FwFault}
use Rattle.psci_fw_spec.specs.declared.fault.FwFault.TheVariants.{NoCore}
use Rattle.psci_fw_spec.specs.declared.mode.SuspendMode.{SuspendMode}
use Rattle.psci_fw_spec.specs.declared.mode.SuspendMode.TheVariants.{OsInitiated, Platform}
use Rattle.psci_fw_spec.specs.declared.outcome.Outcome.{Outcome}
use Rattle.psci_fw_spec.specs.declared.reply.FwReply.{FwReply}
use Rattle.psci_fw_spec.specs.psci_abi.Calls.{request_of}
use Rattle.psci_fw_spec.specs.psci_abi.declared.registers.Code.{Code}
use Rattle.psci_fw_spec.specs.psci_abi.declared.request.Request.{Request}
use Rattle.psci_fw_spec.specs.psci_abi.declared.request.Request.TheVariants as requests
use Rattle.psci_fw_spec.proofs.Endings.{outcome_ends, reset2_ends, suspend_ends, system_ends}
use Rattle.psci_ctl.specs.Saved as controller
use Rattle.psci_ctl.specs.Seen.{ControllerValue, IsController, seen as seen_controller}
use Rattle.psci_fw_state.specs.Saved as firmware
use Rattle.psci_fw_state.specs.Seen.{IsState}
use Rattle.psci_fw.specs.Saved as opening
use Rattle.psci_fw.specs.Reactions.{FirmwareValue, IsFirmware, seen as seen_firmware}
use Rattle.psci_fw.specs.declared.fault.OpenFault.{OpenFault}
use Rattle.psci_fw.specs.declared.fault.OpenFault.TheVariants as opens
use Rattle.psci_guest.specs.Guest.{IsAfter}
use Rattle.psci_guest.specs.Pair.{board_of, kept_by, message_of, PairValue}
use Rattle.psci_guest.specs.Saved.{AreSaved, controller_words, firmware_count, firmware_words}
use Rattle.psci_guest.specs.Saved.{IsRefused, saved}
use Rattle.psci_guest.specs.Turns.{Turn}
use Rattle.psci_guest.specs.declared.fault.LoadFault.{LoadFault}
use Rattle.psci_guest.specs.declared.fault.LoadFault.TheVariants as faults

-- What is known of a board, and of claims on it.
pub record SendLaws (b : BoardValue) : Type 0 where
  pub words : WordLaws b
  pub claims : (w : PowerView) (c : ℕ) (wanted : ℕ → ℕ) → ClaimLaws b w c wanted
  pub last_core : (w : PowerView) (c : ℕ) (ask : List ℕ) → c < cores b → LastCoreLaws b w c ask

-- Claims have a part for each level at most -----------------------------------------------------

module _ (b : BoardValue) (laws : SendLaws b) (v : Values) (c : ℕ) where
  few_leaving : (w : PowerView) (mode : SuspendMode)
      → length (leaving_claims b w c mode) ≤ height b + 1
  few_leaving w Platform = (laws.claims w c (least_wish b w c)).few
  few_leaving w OsInitiated = (laws.claims w c (off_wish b w c)).few

  few_off : length (off_parts b v c) ≤ height b + 1
  unfolding off_parts
  few_off = few_leaving _ v.mode

  few_by : (ask : List ℕ) (parts : List Part) (mode : SuspendMode) → c < cores b
      → suspend_claims b v c ask mode ≡ Ok parts → length parts ≤ height b + 1
  few_by ask parts Platform on e =
      let w : PowerView = view b (with_phase c (Suspended ask) v) in
      let same : platform_claims b w c ≡ parts = cc in
      omega (arith, ap length same, few_leaving w Platform)
  few_by ask parts OsInitiated on e =
      omega (
        arith,
        ap length ((laws.last_core (view b v) c ask on).parts parts e),
        (laws.claims (view b v) c (own_wish ask)).few,
      )

  few_suspended : (ask : List ℕ) (parts : List Part) → c < cores b
      → suspend_parts b v c ask ≡ Ok parts → length parts ≤ height b + 1
  unfolding suspend_parts
  few_suspended ask parts on e = few_by ask parts v.mode on e

-- Outcomes ----------------------------------------------------------------------------------------

-- an outcome sends only what is for a core of the board
abbrev IsSound : BoardValue → Outcome → Type 0
IsSound b o = (m : MessageValue) → o.message ≡ Some m → IsOfBoard b m

-- a message to be sent is
sound : (b : BoardValue) (o : Outcome) (n : MessageValue) → o.message ≡ Some n → IsOfBoard b n
    → IsSound b o
sound b o n e of m f = let same : n ≡ m = cc in subst (IsOfBoard b) same of

-- where nothing is sent
silent : (b : BoardValue) (o : Outcome) → o.message ≡ None → IsSound b o
silent b o e m f = absurd (cc)

module _ (b : BoardValue) (laws : SendLaws b) (v : Values) (c : ℕ) (on : c < cores b) where
  plain : (kind : Kind) (t : ℕ) (parts : List Part) → t < cores b
      → length parts ≤ height b + 1 → IsOfBoard b (message_for v kind t parts)
  plain kind t parts within few = record { core = within; levels = few }

  stopped : (ask : List ℕ) (parts : List Part) → suspend_parts b v c ask ≡ Ok parts
      → IsOfBoard b (message_for v kinds.Down c parts)
  stopped ask parts e =
      plain kinds.Down c parts on
      (few_suspended b laws v c ask parts on e)

  off_sound : IsOfBoard b (off_message b v c)
  off_sound = plain kinds.Down c (off_parts b v c) on (few_off b laws v c)

  -- Functions -------------------------------------------------------------------------------------

  target_named : (word entry_point : ℕ) (t : Core) → target_of b v word entry_point ≡ Ok t
      → core_of b word ≡ Some t
  unfolding target_of
  target_named word entry_point t e = grind arith

  quiet : (code : Code) → IsSound b (returns code)
  quiet code = silent b (returns code) refl

  on_sound : (word entry_point : ℕ) (r : Result Core Code) → target_of b v word entry_point ≡ r
      → IsSound b (start_outcome v r)
  on_sound word entry_point (Err code) e = quiet code
  on_sound word entry_point (Ok t) e =
      sound b (start_outcome v (Ok t)) (message_for v kinds.Start t.number []) refl
      (plain kinds.Start t.number [] (laws.words.core word t (target_named word entry_point t e))
      (omega arith))

  stops_sound : (ask : List ℕ) (parts : List Part) → suspend_parts b v c ask ≡ Ok parts
      → IsSound b (stops_with (message_for v kinds.Down c parts))
  stops_sound ask parts e =
      sound b (stops_with (message_for v kinds.Down c parts)) (message_for v kinds.Down c parts)
      refl (stopped ask parts e)

  system_sound : (kind : Kind) → IsSound b (system_message v kind c)
  system_sound kind =
      sound b (system_message v kind c) (message_for v kind c []) refl
      (plain kind c [] on (omega arith))

  function_sound : (r : Request) → IsSound b (function_outcome b v c r)
  function_sound (requests.CpuSuspend state entry_point context) =
      suspend_ends (IsSound b) b v c entry_point (ask_named b state) quiet
      (λ ask parts is e. stops_sound ask parts e)
  function_sound requests.CpuOff = sound b (cpu_off b v c) (off_message b v c) refl off_sound
  function_sound (requests.CpuOn target entry_point context) =
      on_sound target entry_point (target_of b v target entry_point) refl
  function_sound requests.SystemOff = system_sound kinds.Off
  function_sound requests.SystemReset = system_sound kinds.Reset
  function_sound (requests.SystemSuspend entry_point context) =
      system_ends (IsSound b) b v c entry_point quiet
      (λ parts e. stops_sound (deepest_of (height b)) parts e)
  function_sound (requests.SystemReset2 reset_type cookie) =
      reset2_ends (IsSound b) v c reset_type quiet (system_sound kinds.Reset)
  function_sound r = silent b (function_outcome b v c r) refl

  call_sound : (r : Request) → IsSound b (outcome_of b v c r)
  call_sound r =
      outcome_ends (IsSound b) b v c r (λ halting. silent b stops refl) (λ awake. function_sound r)

-- Entries -----------------------------------------------------------------------------------------

-- a core that enters goes on, resumes or stops, or it parks
enter_ends : (P : Outcome → Type 0) (b : BoardValue) (v : Values) (c : ℕ) (s : Start)
    → ((o : Outcome) → o.message ≡ None → P o)
    → P (stops_with (off_message b (with_arrival b c s v) c)) → P (enter_outcome b v c s)
unfolding enter_outcome
enter_ends P b v c s quiet parked = grind (arith, nat_tests)

-- Answers -----------------------------------------------------------------------------------------

module _ (b : BoardValue) (laws : SendLaws b) (v : Values) (c : ℕ) where
  -- a reply sends only what is for a core of the board
  abbrev AreSound : FwReply → Type 0
  AreSound r = (m : MessageValue) → message_of r ≡ Some m → IsOfBoard b m

  replied : (fault : Option FwFault) (o : Outcome) → (fault ≡ None → IsSound b o)
      → AreSound (reply_or fault o)
  replied (Some fault) o free m e = absurd (cc)
  replied None o free m e = free refl m e

  inside : (rest : Option FwFault) → (if not (nat_lt c (cores b)) then Some NoCore else rest) ≡ None
      → c < cores b
  inside rest e = grind (arith, nat_tests)

  pub answer_sound : (call : FwCall) → AreSound (answer b v c call)
  unfolding answer
  answer_sound (calls.Smc regs) =
      replied (call_fault b v c) _
      (λ free. call_sound b laws v c (inside _ free) (request_of regs))
  answer_sound (calls.Enter s) =
      replied (enter_fault b v c s) _
      (λ free. enter_ends (IsSound b) b v c s (silent b)
      (sound b (stops_with (off_message b (with_arrival b c s v) c))
      (off_message b (with_arrival b c s v) c) refl
      (off_sound b laws (with_arrival b c s v) c (inside _ free))))
  answer_sound (calls.Take a) = λ m e. absurd (cc)

-- What is saved of firmware and power controller, and what is loaded of it ------------------------

-- Laws -------------------------------------------------------------------------------------------

-- What the crates below say of what is saved.
pub record SavedLaws : Type 0 where
  pub count : (f : FirmwareValue) → IsState f → length (firmware.saved f) ≡ firmware_count f.board
  pub opens : (f : FirmwareValue) (fault : OpenFault) → IsFirmware f → IsState f
      → firmware.IsSavable f → opening.IsRefused f.board (firmware.saved f) fault
      → fault ≡ opens.Memory
  pub alike : (f g : FirmwareValue) → IsState f → IsState g → firmware.IsSavable f
      → firmware.IsSavable g → f.board ≡ g.board → firmware.saved f ≡ firmware.saved g → f ≡ g
  pub controlled : (c d : ControllerValue) → IsController c → IsController d → c.board ≡ d.board
      → controller.saved c ≡ controller.saved d → seen_controller c ≡ seen_controller d
  pub complete : (c : ControllerValue) → IsController c
      → controller.saved_fault c.board (controller.saved c) ≡ None

module _ (laws : SavedLaws) where
  -- where the firmware's words end, the power controller's begin
  front : (p : PairValue) → AreSaved p
      → firmware_words (board_of p) (saved p) ≡ firmware.saved p.firmware
  front p is =
      ap (λ n. take n (saved p)) (sym (laws.count p.firmware is.state))
      ∙ take-append_seam (firmware.saved p.firmware) (controller.saved p.controller)

  back : (p : PairValue) → AreSaved p
      → controller_words (board_of p) (saved p) ≡ controller.saved p.controller
  back p is =
      ap (λ n. drop n (saved p)) (sym (laws.count p.firmware is.state))
      ∙ drop-append_seam (firmware.saved p.firmware) (controller.saved p.controller)

  -- neither part is refused
  front_whole : (p : PairValue) (fault : OpenFault) → AreSaved p
      → opening.IsRefused (board_of p) (firmware_words (board_of p) (saved p)) fault
      → fault ≡ opens.Memory
  front_whole p fault is refused =
      laws.opens p.firmware fault is.firmware is.state is.savable
      (subst (λ ws. opening.IsRefused (board_of p) ws fault) (front p is) refused)

  back_whole : (p : PairValue) → AreSaved p
      → controller.saved_fault (board_of p) (controller_words (board_of p) (saved p)) ≡ None
  back_whole p is =
      ap (controller.saved_fault (board_of p)) (back p is)
      ∙ ap (λ b. controller.saved_fault b (controller.saved p.controller)) (sym is.both.same)
      ∙ laws.complete p.controller is.controller

  pub whole : (p : PairValue) (fault : LoadFault) → AreSaved p
      → IsRefused (board_of p) (saved p) fault → fault ≡ faults.Memory
  whole p faults.Memory is refused = refl
  whole p (faults.Firmware e) is refused =
      let no = front_whole p (opens.Words e) is refused in absurd (cc)
  whole p faults.Values is refused =
      let no = front_whole p opens.Values is refused in absurd (cc)
  whole p (faults.Controller e) is refused =
      absurd (none-some e (sym (back_whole p is) ∙ refused.found))

  pub alike : (p q : PairValue) → AreSaved p → AreSaved q → board_of p ≡ board_of q
      → saved p ≡ saved q → kept_by p ≡ kept_by q
  alike p q is are board e =
      let fronts : firmware.saved p.firmware ≡ firmware.saved q.firmware =
      sym (front p is) ∙ ap (λ b. firmware_words b (saved p)) board
      ∙ ap (firmware_words (board_of q)) e ∙ front q are in
      let backs : controller.saved p.controller ≡ controller.saved q.controller =
      sym (back p is) ∙ ap (λ b. controller_words b (saved p)) board
      ∙ ap (controller_words (board_of q)) e ∙ back q are in
      ap (λ f. record { firmware = seen_firmware f; controller = seen_controller p.controller })
      (laws.alike p.firmware q.firmware is.state are.state is.savable are.savable board fronts)
      ∙ ap (λ w. record { firmware = seen_firmware q.firmware; controller = w })
      (laws.controlled p.controller q.controller is.controller are.controller
      (is.both.same ∙ board ∙ sym are.both.same) backs)

  pub goes_on : (b : BoardValue) (ts : List Turn) (p q : PairValue) → AreSaved p → AreSaved q
      → board_of p ≡ board_of q → saved p ≡ saved q → IsAfter b ts p → IsAfter b ts q
  goes_on b ts p q is are board e after = record {
    board = sym board ∙ after.board;
    kept = sym (alike p q is are board e) ∙ after.kept;
  }
