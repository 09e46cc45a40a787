-- What the firmware is asked for a call, by its function word and its arguments.
use Rattle.std.proofs.lemmas.Bool.{not-false}
use Rattle.psci_platform.specs.Calls.{asked_for, regs_asking, regs_for}
use Rattle.psci_platform.specs.Faults.{boot_fault_of, fault_of, has_same_word, has_type}
use Rattle.psci_platform.specs.Faults.{is_first, is_row_word, most_rows, row_fault_of}
use Rattle.psci_platform.specs.Faults.{state_fault_of}
use Rattle.psci_platform.specs.declared.argument.Argument.TheVariants.{Core, Function, Node}
use Rattle.psci_platform.specs.declared.argument.Argument.TheVariants.{Other, Reset, System}
use Rattle.psci_platform.specs.declared.asked.Asked.TheVariants as asks
use Rattle.psci_platform.proofs.Words.{◌&&◌, ◌==◌, ◌||◌, ◌∷◌, ◌≡◌, [], Argument, argument}
use Rattle.psci_platform.proofs.Words.{argument_by, Asked, asked_by, BoardValue, Bool, cond}
use Rattle.psci_platform.proofs.Words.{cores, DescriptionValue, eqb-true, false, first_argument}
use Rattle.psci_platform.proofs.Words.{function_of, has_boot, has_same, height, if◌then◌else◌}
use Rattle.psci_platform.proofs.Words.{is_mpidr, is_power_state, is_system, is_there, length}
use Rattle.psci_platform.proofs.Words.{list_all, low_half, nat_lt, None, not, Option}
use Rattle.psci_platform.proofs.Words.{PlatformFault, refl, Regs, regs_by, Request, rises, Some}
use Rattle.psci_platform.proofs.Words.{State, SuspendMode, sym, there, told_by, true, ℕ}

-- a call, without its registers
record Call : Type 0 where
  d : DescriptionValue
  b : BoardValue
  boot : ℕ
  mode : SuspendMode
  regs : Regs

-- what is asked beside a request
abbrev asked : Call → Request → Asked
asked c r = if is_there c.d.functions r then asked_by c.d c.mode r else asks.Nothing

-- a request asks what its first argument says
record Same (c : Call) (r : Request) (a : Argument) : Type 0 where
  regs : regs_asking c.d c.b c.boot c.mode c.regs r ≡ regs_by c.d c.b c.boot c.mode c.regs a
  asked : asked c r ≡ told_by c.d c.mode c.regs a

step : (c : Call) (t : Bool) (r s : Request) (a e : Argument) → Same c r a → Same c s e
    → Same c (if t then r else s) (if t then a else e)
step c true r s a e here below = here
step c false r s a e here below = below

-- a request whose first argument names nothing, by the last line
skip : (c : Call) (t : Bool) (r s : Request) (a : Argument) → (t ≡ true → a ≡ Other)
    → Same c r Other → Same c s a → Same c (if t then r else s) a
skip c true r s a other here below = rw (other refl) here
skip c false r s a other here below = below

-- a request of a function that may not be there
leaf : (c : Call) (r : Request) (a : Argument) (t : Bool) → is_there c.d.functions r ≡ t
    → record c.regs { x1 = first_argument c.d c.b c.boot c.mode c.regs.x1 r }
    ≡ regs_by c.d c.b c.boot c.mode c.regs a
    → asked_by c.d c.mode r ≡ told_by c.d c.mode c.regs a → Same c r (there t a)
leaf c r a true e regs asked = record { regs = rw e regs; asked = rw e asked }
leaf c r a false e regs asked = record { regs = rw e refl; asked = rw e refl }

all : (c : Call) (k : ℕ) → Same c (function_of k (argument c.regs c.regs.x1)
    (argument c.regs c.regs.x2) (argument c.regs c.regs.x3)) (argument_by c.d.functions k)
all c k =
    let f = c.d.functions in
    skip c (k == 0x84000000) _ _ _ (λ e. rw (eqb-true k 0x84000000 e) refl)
    (leaf c _ Other true refl refl refl)
    (step c (k == 0x84000001 || k == 0xC4000001) _ _ _ _
    (leaf c _ State f.cpu_suspend refl refl refl)
    (step c (k == 0x84000002) _ _ _ _ (leaf c _ Other f.cpu_off refl refl refl)
    (step c (k == 0x84000003 || k == 0xC4000003) _ _ _ _ (leaf c _ Core f.cpu_on refl refl refl)
    (step c (k == 0x84000004 || k == 0xC4000004) _ _ _ _ (leaf c _ Node true refl refl refl)
    (skip c (k == 0x84000006) _ _ _ (λ e. rw (eqb-true k 0x84000006 e) refl)
    (leaf c _ Other true refl refl refl)
    (step c (k == 0x84000008) _ _ _ _ (leaf c _ Other f.system_off refl refl refl)
    (step c (k == 0x84000009) _ _ _ _ (leaf c _ Other f.system_reset refl refl refl)
    (step c (k == 0x8400000A) _ _ _ _ (leaf c _ Function true refl refl refl)
    (step c (k == 0x8400000D || k == 0xC400000D) _ _ _ _
    (leaf c _ Node f.node_hw_state refl refl refl)
    (step c (k == 0x8400000E || k == 0xC400000E) _ _ _ _
    (leaf c _ System f.system_suspend refl refl refl)
    (step c (k == 0x8400000F) _ _ _ _ (leaf c _ Other f.cpu_suspend refl refl refl)
    (step c (k == 0x84000012 || k == 0xC4000012) _ _ _ _
    (leaf c _ Reset f.system_reset2 refl refl refl)
    (leaf c _ Other true refl refl refl)))))))))))))

pub regs_same : (d : DescriptionValue) (b : BoardValue) (boot : ℕ) (mode : SuspendMode)
    (regs : Regs) → regs_by d b boot mode regs (argument_by d.functions (low_half regs.x0))
    ≡ regs_for d b boot mode regs
unfolding regs_for
regs_same d b boot mode regs =
    let c : Call = record { d = d; b = b; boot = boot; mode = mode; regs = regs } in
    sym (all c (low_half regs.x0)).regs

pub asked_same : (d : DescriptionValue) (b : BoardValue) (mode : SuspendMode) (regs : Regs)
    → told_by d mode regs (argument_by d.functions (low_half regs.x0)) ≡ asked_for d mode regs
unfolding asked_for
asked_same d b mode regs =
    let c : Call = record { d = d; b = b; boot = 0; mode = mode; regs = regs } in
    sym (all c (low_half regs.x0)).asked

-- What holds of a description that has no fault ---------------------------------------------------

-- where nothing is said, what stands first is right, and nothing is said of the rest
past : (t : Bool) (fault : PlatformFault) (rest : Option PlatformFault)
    → cond t (Some fault) rest ≡ None → (t ≡ false) × (rest ≡ None)
past true fault rest none = cc
past false fault rest none = (refl, none)

-- what each test of a description without a fault says
pub record Passed (d : DescriptionValue) (b : BoardValue) (boot : ℕ) : Type 0 where
  pub count : length d.mpidrs ≡ cores b
  pub same : has_same d.mpidrs ≡ false
  pub there : has_boot d.mpidrs boot ≡ true
  pub first : is_first d b boot ≡ true
  pub levels : nat_lt (height b) d.levels ≡ false
  pub rise : list_all (rises d) (0 ∷ 1 ∷ 2 ∷ 3 ∷ []) ≡ true
  pub states : list_all (is_power_state d) d.rows ≡ true
  pub system : (d.functions.system_suspend && not (is_system d (height b))) ≡ false

pub passed : (d : DescriptionValue) (b : BoardValue) (boot : ℕ) → fault_of d b boot ≡ None
    → Passed d b boot
unfolding fault_of boot_fault_of row_fault_of state_fault_of
passed d b boot none =
    let count = past (not (length d.mpidrs == cores b)) _ _ none in
    let fields = past (not (list_all is_mpidr d.mpidrs)) _ _ count.1 in
    let same = past (has_same d.mpidrs) _ _ fields.1 in
    let there = past (not (has_boot d.mpidrs boot)) _ _ same.1 in
    let first = past (not (is_first d b boot)) _ _ there.1 in
    let levels = past (nat_lt (height b) d.levels) _ _ first.1 in
    let rise = past (not (list_all (rises d) (0 ∷ 1 ∷ 2 ∷ 3 ∷ []))) _ _ levels.1 in
    let rows = past (nat_lt most_rows (length d.rows)) _ _ rise.1 in
    let words = past (not (list_all (is_row_word b.format) d.rows)) _ _ rows.1 in
    let apart = past (has_same_word d.rows) _ _ words.1 in
    let types = past (not (list_all (has_type d b.format) d.rows)) _ _ apart.1 in
    let states = past (not (list_all (is_power_state d) d.rows)) _ _ types.1 in
    let system = past (d.functions.system_suspend && not (is_system d (height b))) _ _ states.1 in
    record {
      count = eqb-true _ _ (not-false _ count.0);
      same = same.0;
      there = not-false _ there.0;
      first = not-false _ first.0;
      levels = levels.0;
      rise = not-false _ rise.0;
      states = not-false _ states.0;
      system = system.0;
    }

-- there is one MPIDR for each core
pub some_count : (d : DescriptionValue) (b : BoardValue) (boot : ℕ) → fault_of d b boot ≡ None
    → length d.mpidrs ≡ cores b
some_count d b boot none = (passed d b boot none).count
