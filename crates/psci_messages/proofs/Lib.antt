pub mod ClaimLaws
pub mod History
mod MessageRows
pub mod OsiLaws
pub mod SavedLaws
pub mod SavedSlots
mod SavedSlotRows
