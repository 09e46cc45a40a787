-- The least depth that is asked has the first count above 0.
use Rattle.psci_tree.proofs.Words.{◌≡◌, ap, arith, asking_in, CoreState, get_or, Keeps, Kept}
use Rattle.psci_tree.proofs.Words.{List, ℕ}
use Rattle.psci_tree.proofs.Ranges.{low_one, low_three, low_two, low_zero}
use Rattle.psci_tree.proofs.kept.Kept.low.Goals as goal

first : (level : ℕ) (k : Kept) (cs : List CoreState) → Keeps level k cs
    → get_or k.asking 0 0 ≡ asking_in level 0 cs
first level k cs keeps = ap (λ (j : Kept). get_or j.asking 0 0) keeps.counted

second : (level : ℕ) (k : Kept) (cs : List CoreState) → Keeps level k cs
    → get_or k.asking 1 0 ≡ asking_in level 1 cs
second level k cs keeps = ap (λ (j : Kept). get_or j.asking 1 0) keeps.counted

third : (level : ℕ) (k : Kept) (cs : List CoreState) → Keeps level k cs
    → get_or k.asking 2 0 ≡ asking_in level 2 cs
third level k cs keeps = ap (λ (j : Kept). get_or j.asking 2 0) keeps.counted

pub returns-then-none-gt0 : goal.returns-then-none-gt0
returns-then-none-gt0 c = λ level cs keeps.
    low_zero level cs (omega (arith, first level _ cs keeps, c.if-none-gt0.true))

pub returns-then-standby-gt0 : goal.returns-then-standby-gt0
returns-then-standby-gt0 c = λ level cs keeps.
    low_one level cs (omega (arith, first level _ cs keeps, c.if-none-gt0.false))
    (omega (arith, second level _ cs keeps, c.if-standby-gt0.true))

pub returns-then-retention-gt0 : goal.returns-then-retention-gt0
returns-then-retention-gt0 c = λ level cs keeps.
    low_two level cs (omega (arith, first level _ cs keeps, c.if-none-gt0.false))
    (omega (arith, second level _ cs keeps, c.if-standby-gt0.false))
    (omega (arith, third level _ cs keeps, c.if-retention-gt0.true))

pub returns-else-retention-gt0 : goal.returns-else-retention-gt0
returns-else-retention-gt0 c = λ level cs keeps.
    low_three level cs (omega (arith, first level _ cs keeps, c.if-none-gt0.false))
    (omega (arith, second level _ cs keeps, c.if-standby-gt0.false))
    (omega (arith, third level _ cs keeps, c.if-retention-gt0.false))
