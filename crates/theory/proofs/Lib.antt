pub mod Sums
pub mod Jobs
pub mod Orders
pub mod Awakes
pub mod Lates
