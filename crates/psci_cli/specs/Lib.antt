pub mod Threading
