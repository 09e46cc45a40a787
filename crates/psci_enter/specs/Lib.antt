pub mod Orders
pub mod Side
pub mod SideOf
pub mod Again
