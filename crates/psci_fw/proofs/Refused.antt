-- What is known of a core that is not refused: the tests before it passed.
use Rattle.std.proofs.Common.{◌<◌, ◌==◌, ◌||◌, ◌≡◌, ap, arith, Bool, cond, false, nat_lt, None}
use Rattle.std.proofs.Common.{not, Option, refl, Some, sym, true, ℕ}
use Rattle.std.proofs.lemmas.Bool.Decides.{nat_tests}
use Rattle.psci_abi.specs.Calls.{request_of}
use Rattle.psci_abi.specs.declared.registers.Regs.{Regs}
use Rattle.psci_abi.specs.declared.request.Request.{Request}
use Rattle.psci_board.specs.Board.{BoardValue}
use Rattle.psci_fw_spec.specs.Effects.{after, change, effect_of, function_effect}
use Rattle.psci_fw_spec.specs.Answer.{answer, call_fault, outcome_of, reply_or}
use Rattle.psci_fw_spec.specs.Values.{Values}
use Rattle.psci_fw_spec.specs.declared.call.FwCall.TheVariants.{Smc}
use Rattle.psci_fw_spec.specs.declared.fault.FwFault.{FwFault}
use Rattle.psci_fw_spec.specs.declared.outcome.Outcome.{Outcome}

-- What a call leaves that is not refused ----------------------------------------------------------

pub called : (b : BoardValue) (v w : Values) (c : ℕ) (regs : Regs) (r : Request) (o : Outcome)
    → call_fault b v c ≡ None → r ≡ request_of regs → o ≡ outcome_of b v c r
    → w ≡ change b (function_effect b c r o.act o.message) v
    → w ≡ after b c (Smc regs) (answer b v c (Smc regs)) v
unfolding answer after
called b v w c regs r o fault read is left =
    rw (left, is, read) (sym (ap (λ (f : Option FwFault). change b (effect_of b c (Smc regs)
    (reply_or f (outcome_of b v c (request_of regs)))) v) fault))

-- Refused -----------------------------------------------------------------------------------------

-- the first reason does not hold, and no later one
pub passed : {X : Type 0} (t : Bool) (x : X) (rest : Option X) → cond t (Some x) rest ≡ None
    → (t ≡ false) × (rest ≡ None)
passed true x rest e = absurd (let no : Some x ≡ None = e in cc)
passed false x rest e = (refl, e)

pub is_there : (c n : ℕ) → not (nat_lt c n) ≡ false → c < n
is_there c n e = grind (arith, nat_tests, e)

pub is_some : (n : ℕ) → (n == 0) ≡ false → 0 < n
is_some n e = grind (arith, nat_tests, e)

pub first_fails : (s t : Bool) → (s || t) ≡ false → s ≡ false
first_fails true t e = e
first_fails false t e = refl

pub second_fails : (s t : Bool) → (s || t) ≡ false → t ≡ false
second_fails true t e = absurd (cc)
second_fails false t e = e
