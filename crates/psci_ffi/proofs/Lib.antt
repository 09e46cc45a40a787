pub mod ControlDone
mod CallRows
pub mod SlotLends
mod ControllerPlaceRows
pub mod Crossing
pub mod GivenBoards
mod FieldRows
pub mod MachineAxisRows
pub mod Making
mod GuestRows
mod GuestSavedRows
mod NamingRows
mod PollerRows
mod PortAgainRows
pub mod SlotEmpty
pub mod SlotMoves
mod WrittenRows
