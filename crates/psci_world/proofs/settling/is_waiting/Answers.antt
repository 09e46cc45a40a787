-- Core by core, until one has a message that is outstanding.
use Rattle.std.proofs.Common.{◌+◌, ◌-◌, ◌<◌, ◌∙◌, ◌≡◌, ap, arith, Bool, false, None, Option}
use Rattle.std.proofs.Common.{refl, Some, suc, sym, ℕ}
use Rattle.std.specs.List.{list_any, range_with_len}
use Rattle.std.specs.Prelude.{is_some, option_map}
use Rattle.psci_machine.specs.psci_board.Board.{cores}
use Rattle.psci_machine.specs.psci_world_spec.psci_messages.Slots.{OfCore}
use Rattle.psci_headline.specs.Settling.{is_waiting}
use Rattle.psci_machine.specs.psci_world_spec.Legal.{firmware_values}
use Rattle.psci_world.proofs.settling.is_waiting.Goals as goal

-- the first of those that are left has none
any_more : (p : ℕ → Bool) (n k : ℕ) (whole : Bool) → n < k → p n ≡ false
    → list_any p (range_with_len n (k - n)) ≡ whole
    → list_any p (range_with_len (n + 1) (k - (n + 1))) ≡ whole
any_more p n k whole less absent rest =
    let left : k - n ≡ suc (k - (n + 1)) = omega arith in rw (left, absent) at rest

some_mapped : {A B : Type 0} (f : A → B) → (o : Option A) → is_some (option_map f o) ≡ is_some o
some_mapped f None = refl
some_mapped f (Some x) = refl

pub loop-number-init : goal.loop-number-init
unfolding is_waiting
loop-number-init c =
    let b = c.args.world.now.board in
    let all : cores b - 0 ≡ cores b = omega arith in rw all refl

pub loop-number-preserved : goal.loop-number-preserved
loop-number-preserved c =
    let world = c.args.world.now in
    let n = c.loop-number.number in
    let less : n < cores world.board =
    omega (arith, ap cores c.board.ensures) in
    any_more (λ k. is_some ((firmware_values world.board world.past).outstanding (OfCore k))) n
    (cores world.board) _ less
    (sym (ap is_some c.outstanding.ensures) ∙ some_mapped _ c.outstanding.result
    ∙ sym (c.if-is_some.ensures {u = tt})) c.loop-number.invariant
