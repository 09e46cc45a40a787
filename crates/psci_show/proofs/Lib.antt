pub mod Answering
pub mod Rows
mod ShownRows
