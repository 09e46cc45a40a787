-- Worked examples: a legal history, and for each way to be wrong one that is not; a part that is
-- past; and why a domain can be deeper than one below it.
use Rattle.std.proofs.Common.{◌∷◌, ◌≡◌, [], ap, arith, Bool, false, List, lit<, lit≤, map, refl}
use Rattle.std.proofs.Common.{true, ℕ}
use Rattle.std.proofs.lemmas.Bool.{true≢false}
use Rattle.psci_board.specs.Board.{BoardValue}
use Rattle.psci_messages.specs.declared.kind.Kind.TheVariants.{Down}
use Rattle.psci_ctl_spec.specs.declared.call.CtlCall.{CtlCall}
use Rattle.psci_ctl_spec.specs.declared.delivery.Delivery.TheVariants.{Applied}
use Rattle.psci_ctl_spec.specs.declared.reply.CtlReply.{CtlReply}
use Rattle.psci_ctl_spec.specs.declared.reply.CtlReply.TheVariants as replies
use Rattle.psci_ctl_spec.specs.Values.{CtlExchange}
use Rattle.psci_ctl_spec.specs.History.{depth, IsCall, IsLegal, IsLive}
use Rattle.psci_ctl_spec.specs.Replies.{reply}
use Rattle.psci_ctl_spec.proofs.Steps.{ack, board, board_of, computing, down, history_of}
use Rattle.psci_ctl_spec.proofs.Steps.{ignored, not_started, part, start, wake}

-- one exchange
abbrev replied : CtlCall → CtlReply → List CtlExchange → List CtlExchange
replied call reply h = record { call = call; reply = reply } ∷ h

-- a core goes down alone
core_down : IsCall board (down 0 1 1 (part 0 3 1 ∷ []))
core_down = record {
  message = record {
    core = lit< tt;
    parts = record { some = lit< tt; most = lit≤ tt; levels = refl; depths = refl };
  };
  board = record { core = lit< tt; levels = lit≤ tt };
}

-- a legal history
legal_row : IsLegal board (replied (down 0 1 1 (part 0 3 1 ∷ [])) (ack Down 0 1 1 1 false) [])
unfolding computing
legal_row = (refl, core_down, tt)

-- how much an acknowledgement says was applied, and whether it says stale
abbrev count_of : CtlReply → ℕ
count_of (replies.Delivery (Applied a)) = a.applied
count_of reply = 0

abbrev is_late : CtlReply → Bool
is_late (replies.Delivery (Applied a)) = a.stale
is_late reply = false

-- another count of parts, another staleness, and no answer at all, by itself and below a right one
abbrev Answered : CtlReply → Type 0
Answered reply = IsLegal board (replied (down 0 1 1 (part 0 3 1 ∷ [])) reply [])

other_answers : (Answered (ack Down 0 1 1 0 false) → ⊥) × (Answered (ack Down 0 1 1 1 true) → ⊥)
    × (Answered ignored → ⊥)
    × (IsLegal board (replied (wake 1 1) not_started
    (replied (down 0 1 1 (part 0 3 1 ∷ [])) ignored [])) → ⊥)
unfolding computing
other_answers = (
  λ legal. omega (arith, ap count_of legal.0),
  λ legal. let late : true ≡ false = ap is_late legal.0 in true≢false late,
  λ legal. let wrong = legal.0 in cc,
  λ legal. let wrong = legal.2.0 in cc,
)

-- a core that the board does not have
no_core : IsCall board (wake 4 0) → ⊥
no_core h = omega (arith, h)

-- The part of a Down is live when it was sent, and not after a start of its core.
live_row : IsLive board [] 1 (record { level = 0; place = 0 }) 1
unfolding computing
live_row = record { life = refl; generation = refl }

past_row : IsLive board (history_of board (start 0 1 1 ∷ [])) 1 (record { level = 0; place = 0 }) 1
    → ⊥
unfolding computing
past_row live = let wrong = live.generation in cc

-- two messages of one core that ask different depths of it: the second makes the core shallower
-- than its cluster
abbrev one_core : BoardValue
one_core = board_of ((1 ∷ []) ∷ []) 1000 3

abbrev depth_after : ℕ → ℕ
depth_after level = depth one_core (history_of one_core
    (down 0 1 1 (part 0 3 1 ∷ part 1 3 1 ∷ []) ∷ down 0 1 1 (part 0 1 1 ∷ []) ∷ [])) level 0

shallower : map depth_after (0 ∷ 1 ∷ []) ≡ 1 ∷ 3 ∷ []
unfolding computing
shallower = refl
