-- Cores without a live claim.
use Rattle.psci_headline.proofs.Words.{◌<◌, ◌≡◌, ap, AreLive, arith, BoardValue, cores, Down}
use Rattle.psci_headline.proofs.Words.{IsClaimOn, IsLivePart, List, MessageValue, nat_tests}
use Rattle.psci_headline.proofs.Words.{Part, Phase, slice_get, Some, sym, up, ℕ}
use Rattle.psci_headline.specs.psci_fw_spec.Phases.{Running}
use Rattle.psci_headline.proofs.fw_laws.Claiming.{part_from}

-- no part of a Down of this core is live
abbrev pub NoneLive : BoardValue → ℕ → (ℕ → ℕ) → List MessageValue → ℕ → Type 0
NoneLive b life starts sent c = (k level : ℕ) (m : MessageValue) (p : Part)
    → slice_get sent k ≡ Some m → m.life ≡ life → m.kind ≡ Down → m.core.number ≡ c
    → slice_get m.parts level ≡ Some p → IsLivePart b starts m level p → ⊥

-- a part of a Down is a claim
pub part_claims : (b : BoardValue) (life : ℕ) (sent : List MessageValue) (k level : ℕ)
    (m : MessageValue) (p : Part) → slice_get sent k ≡ Some m → m.life ≡ life → m.kind ≡ Down
    → slice_get m.parts level ≡ Some p
    → IsClaimOn b life level (up b level m.core.number) p sent
part_claims b life sent k level m p at present kind part = grind (arith, nat_tests, part_from)

pub none_live_running : (b : BoardValue) (life : ℕ) (known : ℕ → ℕ) (phase : ℕ → Phase)
    (sent : List MessageValue) (starts : ℕ → ℕ) (c : ℕ)
    → AreLive b life known phase sent starts → c < cores b → phase c ≡ Running
    → NoneLive b life starts sent c
none_live_running b life known phase sent starts c are on runs k level m p at present kind core
    part live =
    are.rests level (up b level m.core.number) c p
    (part_claims b life sent k level m p at present kind part) live on (ap (up b level) (sym core))
    runs

pub none_live_started : (b : BoardValue) (life : ℕ) (known : ℕ → ℕ) (phase : ℕ → Phase)
    (sent : List MessageValue) (starts : ℕ → ℕ) (c : ℕ)
    → AreLive b life known phase sent starts → c < cores b → known c < starts c
    → NoneLive b life starts sent c
none_live_started b life known phase sent starts c are on later k level m p at present kind core
    part live =
    let same = are.entered level (up b level m.core.number) c p
    (part_claims b life sent k level m p at present kind part) live on
    (ap (up b level) (sym core)) in
    omega (arith, later, same)
