pub mod SoFar
mod AuditRows
pub mod ListRows
pub mod MayFollow
mod MergedRows
mod OtherRows
pub mod Telling
mod ReplyRows
pub mod Steps
mod SafeRows
mod ToldRows
