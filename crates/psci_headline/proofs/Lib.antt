pub mod Runs
pub mod OnBoards
pub mod Acknowledged
pub mod Agreed
pub mod Controls
pub mod Downs
pub mod Tested
pub mod Carried
pub mod Applying
pub mod Claiming
pub mod Checking
mod ClaimRows
pub mod CoreSteps
pub mod LiveOnes
pub mod Covering
pub mod Entering
pub mod Moves
pub mod Happening
mod KnownRows
mod Histories
pub mod Sending
mod LivesRows
pub mod Nexts
mod PairRows
mod PowerRows
pub mod Beside
pub mod ToldHw
pub mod Confirmed
pub mod ToldOff
mod ToldRows
pub mod Waiting
pub mod Words
-- In the order of the argument of docs/understand/SETTLING.md.

-- What all steps use: the laws of the crates below, counting, slots, numbers of messages, folding.
pub mod Serving
pub mod Beginning
-- 1. After the beginning both sides count the same starts.
-- 2. No core is pending then: all that is outstanding are Downs.
pub mod Starts
-- 3. From here on nothing is started and nothing is sent.
-- 4. No live claim is forgotten: by the firmware, by the power controller, after every run.
pub mod Unclaimed
pub mod Pursuing
pub mod Telling
-- 5. Level by level each live claim has its depth: a part, a Down, a round.
pub mod Rounds
-- 6. So rounds end.
-- 7. Where nothing is outstanding both sides agree.
-- All steps together; worked examples, and records that break each clause alone.
pub mod Settled
mod Excluded
mod Failing
mod RestRows
mod SettleRows
-- What is told once both sides agree.
-- In the order of the argument of docs/understand/SETTLING.md.
-- Worked examples.
pub mod Untold
mod UntoldRows
pub use Rattle.psci_ctl_spec.proofs as ctl_spec
pub use Rattle.psci_fw_laws.proofs.fw_spec
pub use Rattle.psci_world_spec.proofs as world_spec
pub use Rattle.psci_fw_laws.proofs as fw_laws
pub use Rattle.psci_board.proofs.Tables
