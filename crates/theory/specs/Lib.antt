pub mod Sums
pub mod Loads
pub mod Laws
pub mod Orders
pub mod Slots
pub mod Lates
