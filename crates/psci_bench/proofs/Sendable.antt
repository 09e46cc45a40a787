-- A message that was read on a board can be sent on it.
use Rattle.std.proofs.Common.{◌+◌, ◌==◌, ◌∷◌, ◌≡◌, ◌≤◌, [], arith, length, List, subst, sym}
use Rattle.std.proofs.Common.{true, ℕ}
use Rattle.std.specs.Prelude.{nat_le}
use Rattle.std.proofs.lemmas.Bool.{and_parts, eqb-true, leb-true}
use Rattle.psci_board.specs.Board.{BoardValue, height}
use Rattle.psci_messages.specs.declared.part.Part.{Part}
use Rattle.psci_link.specs.declared.encoding.Frame.TheVariants.{Message}
use Rattle.psci_messages.specs.declared.kind.Kind.{Kind}
use Rattle.psci_messages.specs.declared.kind.Kind.TheVariants as kinds
use Rattle.psci_link.specs.Frame.{IsOf, is_within}
use Rattle.psci_messages.specs.Message.{ArePartsOf, IsMessage, MessageValue, is_climbing}
use Rattle.psci_ctl.specs.psci_ctl_spec.History.{IsSendable}

-- levels that count up and stay within the height are few
climbing : (h level : ℕ) (ps : List Part) → level ≤ h + 1 → is_climbing level ps ≡ true
    → is_within h ps ≡ true → level + length ps ≤ h + 1
climbing h level [] under up within = omega (arith, under)
climbing h level (p ∷ ps) under up within =
    let here = eqb-true _ _ (and_parts (p.level == level) _ up).0 in
    let low = leb-true _ _ (and_parts (nat_le p.level h) _ within).0 in
    let more = climbing h (level + 1) ps (omega (arith, here, low))
    (and_parts (p.level == level) _ up).1 (and_parts (nat_le p.level h) _ within).1 in
    omega (arith, more)

none : (h : ℕ) (ps : List Part) → ps ≡ [] → length ps ≤ h + 1
none h ps e = subst (λ xs. length xs ≤ h + 1) (sym e) (omega arith)

few : (h : ℕ) (kind : Kind) (ps : List Part) → ArePartsOf kind ps → is_within h ps ≡ true
    → length ps ≤ h + 1
few h kinds.Down ps are within =
    omega (arith, climbing h 0 ps (omega arith) are.levels within)
few h kind ps are within = none h ps are

pub sendable : (b : BoardValue) (m : MessageValue) → IsMessage m → IsOf b (Message m)
    → IsSendable b m
sendable b m is of = record {
  message = is;
  board = record { core = of.0; levels = few (height b) m.kind m.parts is.parts of.1 };
}
