pub mod Owners
pub mod Passes
pub mod Rests
pub mod Lates
